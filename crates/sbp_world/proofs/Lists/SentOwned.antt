-- Each request that a call of the target hands out has a row of its label table under way as the call ends, which belongs to somebody: to the agent of a place, to the
-- management operation, or to an unsolicited status, which goes to a FIFO of a live login.
use Rattle.sbp_world.proofs.Words.Std.{◌≡◌, ◌∙◌, refl, sym, subst, ◌<◌, ◌^◌, ℕ, Bool, true, false, cond, List, [], ◌∷◌, length, take, drop, Option, Some, None, Result, Ok, Err, big_bytes}
use Rattle.sbp_world.proofs.Words.Wire.{LabelParts, Packet, header_in, Stale, Finding, Layer, expiring_step, judging_step, of_again, of_generation, of_grammar, of_label, of_request, of_response, seeing_step, Access, Kind, part_of, request, Judged, Outgoing, empty_outbox, Moment}
use Rattle.sbp_world.proofs.Words.Target.{Login, Table, place_at, tick_step, Busy, Disk, disk_at, Told, AgentStep, PointRefusal, Which, Machine, state_in, doorbell_step, reply_step, block, address_error, complete, conflict_error, demand_of, Demand, Desk, Purpose, cut, follow, Call, alone, lets_expire, receives, sees, sets_key, ticks, expired_desk, point_desk, which_in, NodeState, Scene, desk_at, login_at, scene, with_agent, with_desk, answer_in, concluded, expire_agent, expired, expired_by, expired_in, expired_with, received, received_as, seen, ticked, timed_out, with_layer, Stage, Whole, advance, advanced_with, came, changed_by, follow_all, replied, replied_by, replied_to, replied_with, scene_of, served_login, stage, whole, plain_at, with_side, accessed_by, answered, asked_in, enabled, is_barred, last_pointer, point, pointed_by, pointer_bytes, rcode_of, ring, rung_by, serve, served_as, start, started_by, state_number, orb_of, IsUnderWay}
use Rattle.sbp_world.proofs.Words.Initiator.{Ask, OrbPointer, Answer, Expired}
use Rattle.sbp_world.proofs.Words.Laws.{access_in_bytes}
use Rattle.sbp_world.proofs.Words.World.{WorldState}
use Rattle.label_table.specs.History as wire
use Rattle.mgmt_agent.specs.Machine as management
use Rattle.command_agent.specs.Steps as steps
use Rattle.sbp_journal.specs.declared.cause.Cause.TheVariants as ignored
use Rattle.sbp_journal.specs.declared.cause.CutCause.TheVariants as cuts
use Rattle.sbp_journal.specs.declared.cause.Judged.TheVariants as judgements
use Rattle.sbp_journal.specs.declared.side.Side.TheVariants as sides
use Rattle.target_base.specs.declared.address.Access.{Access as Register}
use Rattle.target_base.specs.declared.address.Access.TheVariants as accesses
use Rattle.target_base.specs.declared.address.Demand.TheVariants as demands
use Rattle.sbp_target.specs.declared.purpose.Purpose.TheVariants as purposes
use Rattle.sbp_target.specs.Serving.{request_step}
use Rattle.sbp_target.proofs.Histories.Calling.{Good}
use Rattle.sbp_target.proofs.Histories.Pass.{At, cuts_at, sees_by, ticks_by}
use Rattle.sbp_target.proofs.Histories.Served.{answers_at}
use Rattle.sbp_world.proofs.Agents.AskedAgents.{fifo_fits}
use Rattle.sbp_world.proofs.Agents.AskedLate.{follow_logins}
use Rattle.sbp_world.proofs.Agents.Management.Awaiting.{under_for}
use Rattle.sbp_world.proofs.Agents.Management.Holding.{Holding, good_of}
use Rattle.sbp_world.proofs.Lists.DataActs.{AreFifos}
use Rattle.sbp_world.proofs.Lists.SentOwnedFollows.{AreWritten, Behind, announced_owned, behind_of, follow_owned, manage_owned, manager_owned}
use Rattle.sbp_world.proofs.Lists.SentOwnedLives.{AllLive, HasLife, Owning, Unasked, unasked_answers, unasked_leaves, unasked_step}
use Rattle.sbp_world.proofs.Lists.StatusBytes.{same_address}
use Rattle.sbp_target.proofs.Histories.Seats.{Lives}
use Rattle.sbp_target.proofs.Histories.Primitives.{Known}
use Rattle.sbp_world.proofs.Agents.AskedReplies.{changed_logins}

-- a request of a call of the target has a row under way that belongs to somebody; and an unsolicited status goes to a FIFO, and is the block
pub record IsOwned (Fifo : ℕ → ℕ → Type 0) (layer : Layer Purpose) (packet : Outgoing) (number : ℕ) : Type 0 where
  pub purpose : Purpose
  pub row : IsUnderWay layer (Some purpose) packet.to number
  pub told : purpose ≡ purposes.Unsolicited → (access : Access) → access_in_bytes packet.bytes ≡ Some access → Fifo packet.to access.offset × (access.payload ≡ block)

abbrev pub AllOwned : (ℕ → ℕ → Type 0) → Layer Purpose → List Outgoing → Type 0
AllOwned Fifo layer [] = Unit {0}
AllOwned Fifo layer (packet ∷ later) =
    ((number : ℕ) (kind : Kind) → part_of packet.bytes ≡ request number kind → IsOwned Fifo layer packet number) × AllOwned Fifo layer later

-- the FIFOs of a table have 48 bits
abbrev pub AreLow : Table → Type 0
AreLow table = (place : ℕ) (other : Login) → place_at table.places place ≡ Some other → other.fifo < 2 ^ 48

module _ (Fifo : ℕ → ℕ → Type 0) where
  -- ---- by the lives of the transactions
  life_owned : (layer : Layer Purpose) (lives : Lives) → Known layer lives → (packet : Outgoing) (number : ℕ) → HasLife Fifo lives packet number → IsOwned Fifo layer packet number
  life_owned layer lives known packet number h = record {
    purpose = h.purpose;
    row = subst (λ (n : ℕ). IsUnderWay layer (Some h.purpose) packet.to n) h.numbered (under_for layer lives (Some h.purpose) packet.to h.label h.kind known h.life);
    told = h.told;
  }

  all_owned : (layer : Layer Purpose) (lives : Lives) → Known layer lives → (packets : List Outgoing) → AllLive Fifo lives packets → AllOwned Fifo layer packets
  all_owned layer lives known [] h = tt
  all_owned layer lives known (packet ∷ later) h =
      ((λ number kind e. life_owned layer lives known packet number (h.0 number kind e)), all_owned layer lives known later h.1)

  abbrev Here : Scene → Type 0
  Here s = At Unasked s

  abbrev Then : Scene → Type 0
  Then s = Behind Fifo s

  ends : (s : Scene) → Here s → Then s
  ends s h = behind_of Fifo s h

  -- ---- a request is served
  module _ (p : Packet) (bytes : List ℕ) where
    answers : (rcode : ℕ) (given : List ℕ) (s : Scene) → Here s → Here (answered p bytes rcode given s)
    answers rcode given s h = answers_at Unasked Unasked p bytes (unasked_answers p bytes) rcode given s h

    answers_only : (rcode : ℕ) (given : List ℕ) (s : Scene) → Here s → Then (answered p bytes rcode given s)
    answers_only rcode given s h = ends (answered p bytes rcode given s) (answers rcode given s h)

    asks_in : (place : ℕ) (ask : Ask) (login : Option Login) (s : Scene) → Here s → Then (asked_in place ask login s)
    asks_in place ask None s h = ends s h
    asks_in place ask (Some login) s h = follow_owned Fifo place login (steps.asks ask) s h

    points_by : (place : ℕ) (r : Result Ask PointRefusal × Desk) (s : Scene) → Here s → Then (pointed_by place p bytes r s)
    points_by place (Ok ask, desk) s h =
        let t = scene (with_desk s.node place desk) (with_side s.outbox (sides.Opened place (orb_of desk.agent))) in
        let u = answered p bytes complete [] t in
        asks_in place ask (login_at u.node place) u (answers complete [] t h)
    points_by place (Err refusal, desk) s h = answers_only (rcode_of refusal) [] (scene (with_desk s.node place desk) s.outbox) h

    points : (place : ℕ) (pointer : OrbPointer) (s : Scene) → Here s → Then (point place pointer p bytes s)
    unfolding point
    points place pointer s h = points_by place (point_desk (desk_at s.node place) pointer) s h

    rings_by : (place : ℕ) (r : Ask × Machine) (s : Scene) → Here s → Then (rung_by place p bytes r s)
    rings_by place (ask, m) s h =
        let t = scene (with_agent s.node place m) s.outbox in
        let u = answered p bytes complete [] t in
        asks_in place ask (login_at u.node place) u (answers complete [] t h)

    rings : (place : ℕ) (s : Scene) → Here s → Then (ring place p bytes s)
    unfolding ring
    rings place s h = rings_by place (doorbell_step (desk_at s.node place).agent) s h

    accesses_by : (access : Register) (place : ℕ) (s : Scene) → Here s → Then (accessed_by access place p bytes s)
    accesses_by accesses.State place s h = answers_only complete (big_bytes 4 (state_number (state_in (desk_at s.node place).agent.phase))) s h
    accesses_by accesses.Reset place s h = answers_only complete [] (cut cuts.AgentReset place s) (cuts_at Unasked unasked_leaves cuts.AgentReset place s h)
    accesses_by (accesses.Point pointer) place s h = points place pointer s h
    accesses_by accesses.Pointer place s h = answers_only complete (pointer_bytes (last_pointer (desk_at s.node place).pointer)) s h
    accesses_by accesses.Ring place s h = rings place s h
    accesses_by accesses.Enable place s h = answers_only complete [] (enabled place s) h

    starts_by : (source : ℕ) (r : Result Ask Busy × management.Machine) (s : Scene) → Here s → Then (started_by source p bytes r s)
    starts_by source (Ok ask, m) s h =
        let t = scene (record s.node { manager = m }) s.outbox in
        manager_owned Fifo source ask (answered p bytes complete [] t) (answers complete [] t h)
    starts_by source (Err busy, m) s h = answers_only conflict_error [] (scene (record s.node { manager = m }) s.outbox) h

    starts : (orb : ℕ) (s : Scene) → Here s → Then (start orb p bytes s)
    unfolding start
    starts orb s h = starts_by (header_in p).source (management.start_step s.node.manager (header_in p).source orb) s h

    serves_as : (demand : Demand) (s : Scene) → Here s → Then (served_as demand p bytes s)
    serves_as (demands.Refused rcode) s h = answers_only rcode [] s h
    serves_as (demands.Rom at len) s h = answers_only complete (take len (drop at s.node.rom)) s h
    serves_as (demands.Manage orb) s h = starts orb s h
    serves_as (demands.Agent place access) s h = accesses_by access place s h

    serves : (s : Scene) → Here s → Then (serve p bytes s)
    unfolding serve
    serves s h = serves_as (demand_of (length s.node.rom) p) s h

    judges_if : (b : Bool) (s : Scene) → Here s → Then (cond {A = Judged × Scene} b (judgements.Ignored ignored.Login, answered p bytes address_error [] s) (judgements.Got, serve p bytes s)).1
    judges_if true s h = answers_only address_error [] s h
    judges_if false s h = serves s h

    judges : (s : Scene) → Here s → Then (request_step p bytes s).1
    unfolding request_step
    judges s h = judges_if (is_barred s.node p) s h

  -- ---- a reply to an agent, behind which a disc may have come

  changed_here : (b : Bool) (unit place : ℕ) (s : Scene) → Here s → Here (scene (changed_by b unit place s.node) s.outbox)
  changed_here true unit place s h = h
  changed_here false unit place s h = h

  follows_all : (b : Bool) (place : ℕ) (login : Login) (step : AgentStep) (s : Scene) → AreWritten Fifo s.node.logins → Here s → Then (follow_all b place login step s)
  unfolding follow_all
  follows_all b place login step s fifos h =
      let t = scene (changed_by b login.unit place s.node) s.outbox in
      let same : (follow place login step t).node.logins ≡ s.node.logins = follow_logins place login step t ∙ changed_logins b login.unit place s.node in
      announced_owned Fifo b login.unit place (follow place login step t) (subst (AreWritten Fifo) (sym same) fifos) (follow_owned Fifo place login step t (changed_here b login.unit place s h))

  advances_with : (place : ℕ) (login : Login) (r : AgentStep × Stage) (w : Whole) → AreWritten Fifo r.1.node.logins → Here (scene r.1.node w.outbox) → Then (scene_of (advanced_with place login r w))
  advances_with place login (step, st) w fifos h =
      follows_all (came (disk_at w.disks login.unit) (disk_at st.disks login.unit)) place login step (scene st.node w.outbox) fifos h

  replied_node : (place unit : ℕ) (which : Which) (r : AgentStep × Machine) (s : Stage) (w : Whole) → AreWritten Fifo s.node.logins → Here (scene s.node w.outbox) → AreWritten Fifo (replied_with place unit which r s).1.node.logins × Here (scene (replied_with place unit which r s).1.node w.outbox)
  replied_node place unit which (step, m) s w fifos h = (fifos, h)

  advances : (told : Option Told) (place : ℕ) (login : Login) (which : Which) (answer : Answer) (w : Whole) → AreWritten Fifo w.node.logins → Here (scene_of w) → Then (scene_of (advance told place login which answer w))
  unfolding advance replied
  advances told place login which answer w fifos h =
      let s = stage w.node w.disks in
      let n = replied_node place login.unit which (reply_step (desk_at w.node place).agent place (plain_at s login.unit) told which answer) s w fifos h in
      advances_with place login (replied told place login.unit which answer s) w n.0 n.1

  replies_by : (told : Option Told) (place : ℕ) (answer : Answer) (login : Option Login) (which : Option Which) (w : Whole) → AreWritten Fifo w.node.logins → Here (scene_of w) → Then (scene_of (replied_by told place answer login which w))
  replies_by told place answer (Some login) (Some which) w fifos h = advances told place login which answer w fifos h
  replies_by told place answer None which w fifos h = ends (scene_of w) h
  replies_by told place answer (Some login) None w fifos h = ends (scene_of w) h

  replies : (told : Option Told) (place peer : ℕ) (label : LabelParts) (answer : Answer) (w : Whole) → AreWritten Fifo w.node.logins → Here (scene_of w) → Then (scene_of (replied_to told place peer label answer w))
  unfolding replied_to
  replies told place peer label answer w fifos h = replies_by told place answer (served_login w.node place) (which_in (desk_at w.node place) peer label) w fifos h

  -- what came of a transaction
  concludes : (told : Option Told) (purpose : Option Purpose) (peer : ℕ) (label : LabelParts) (answer : Answer) (w : Whole) → AreWritten Fifo w.node.logins → Here (scene_of w) → Then (scene_of (concluded told purpose peer label answer w))
  unfolding concluded
  concludes told None peer label answer w fifos h = ends (scene_of w) h
  concludes told (Some (purposes.Agent place)) peer label answer w fifos h = replies told place peer label answer w fifos h
  concludes told (Some purposes.Management) peer label answer w fifos h = manage_owned Fifo answer (scene_of w) h
  concludes told (Some purposes.Unsolicited) peer label answer w fifos h = ends (scene_of w) h

  -- ---- a packet
  receives_as : (told : Option Told) (bytes : List ℕ) (found : Finding Purpose) (w : Whole) → AreWritten Fifo w.node.logins → Here (scene_of w) → Then (scene_of (received_as told bytes found w).1)
  receives_as told bytes of_generation w fifos h = ends (scene_of w) h
  receives_as told bytes of_grammar w fifos h = ends (scene_of w) h
  receives_as told bytes of_label w fifos h = ends (scene_of w) h
  receives_as told bytes (of_response p label purpose) w fifos h = concludes told purpose (header_in p).source label (answer_in p) w fifos h
  receives_as told bytes (of_again p rcode) w fifos h = answers_only p bytes rcode [] (scene_of w) h
  receives_as told bytes (of_request p) w fifos h = judges p bytes (scene_of w) h

  receipt : (told : Option Told) (disks : List Disk) (generation : ℕ) (bytes : List ℕ) (s : Scene) → AreWritten Fifo s.node.logins → Here s → Then (scene_of (received told generation bytes (whole s disks)).1)
  unfolding received
  receipt told disks generation bytes s fifos h =
      let found = judging_step s.node.layer generation bytes in
      receives_as told bytes found.0 (with_layer found.1 (whole s disks)) fifos (unasked_step (wire.judges generation bytes) s.node.layer found.1 s.outbox.packets refl h)

  -- ---- a time-out
  expires_with : (place : ℕ) (login : Login) (r : AgentStep × Desk) (s : Scene) → Here s → Then (expired_with place login r s)
  expires_with place login (step, desk) s h = follow_owned Fifo place login step (scene (with_desk s.node place desk) s.outbox) h

  expires_by : (place : ℕ) (login : Option Login) (which : Option Which) (s : Scene) → Here s → Then (expired_by place login which s)
  expires_by place (Some login) (Some which) s h = expires_with place login (expired_desk which (desk_at s.node place)) s h
  expires_by place None which s h = ends s h
  expires_by place (Some login) None s h = ends s h

  expires_agent : (place peer : ℕ) (label : LabelParts) (s : Scene) → Here s → Then (expire_agent place peer label s)
  unfolding expire_agent
  expires_agent place peer label s h = expires_by place (login_at s.node place) (which_in (desk_at s.node place) peer label) s h

  times_out : (purpose : Option Purpose) (peer : ℕ) (label : LabelParts) (s : Scene) → Here s → Then (timed_out purpose peer label s)
  times_out None peer label s h = ends s h
  times_out (Some (purposes.Agent place)) peer label s h = expires_agent place peer label s h
  times_out (Some purposes.Management) peer label s h = manage_owned Fifo Expired s h
  times_out (Some purposes.Unsolicited) peer label s h = ends s h

  expires_in : (r : Result (Option Purpose) Stale × Layer Purpose) (peer : ℕ) (label : LabelParts) (s : Scene) → Unasked r.1 s.outbox.packets → Then (expired_in r peer label s).1
  expires_in (Ok purpose, layer) peer label s h = times_out purpose peer label (scene (record s.node { layer = layer }) s.outbox) h
  expires_in (Err stale, layer) peer label s h = ends (scene (record s.node { layer = layer }) s.outbox) h

  expiry : (peer : ℕ) (label : LabelParts) (s : Scene) → Here s → Then (expired peer label s).1
  unfolding expired
  expiry peer label s h =
      let r = expiring_step s.node.layer peer label in
      expires_in r peer label s (unasked_step (wire.lets_expire peer label) s.node.layer r.1 s.outbox.packets refl h)

  -- ---- a sight of a generation, and a second
  sight : (generation id : ℕ) (s : Scene) → Here s → Here (seen generation id s).1
  unfolding seen
  sight generation id s h =
      let r = seeing_step s.node.layer generation id in
      sees_by Unasked unasked_leaves r s (unasked_step (wire.sees generation id) s.node.layer r.1 s.outbox.packets refl h)

  second : (s : Scene) → Here s → Here (ticked s)
  unfolding ticked
  second s h = ticks_by Unasked (tick_step s.node.logins) s h

  -- ---- each call
  here_of : (node : NodeState) → Good node → Here (scene node empty_outbox)
  here_of node g = record { steps = g.mid.known.steps; layer_is = g.mid.known.layer_is; none = tt }

  behind_call : (node : NodeState) → Good node → AreWritten Fifo node.logins → (call : Call) → Then (alone call node)
  behind_call node g fifos (receives told disks generation bytes) = receipt told disks generation bytes (scene node empty_outbox) fifos (here_of node g)
  behind_call node g fifos (lets_expire peer label) = expiry peer label (scene node empty_outbox) (here_of node g)
  behind_call node g fifos (sees generation id) =
      let s = (seen generation id (scene node empty_outbox)).1 in ends s (sight generation id (scene node empty_outbox) (here_of node g))
  behind_call node g fifos ticks = let s = ticked (scene node empty_outbox) in ends s (second (scene node empty_outbox) (here_of node g))
  behind_call node g fifos (sets_key unit key) = ends (alone (sets_key unit key) node) (here_of node g)

  written_of : (table : Table) → AreFifos Fifo table → AreLow table → AreWritten Fifo table
  written_of table fifos low place other is live = subst (Fifo other.node) (sym (same_address other.fifo (low place other is))) (fifos place other is live)

pub owned_call : (Fifo : ℕ → ℕ → Type 0) (node : NodeState) → Good node → AreFifos Fifo node.logins → AreLow node.logins → (call : Call) → (let s = alone call node in AllOwned Fifo s.node.layer s.outbox.packets)
owned_call Fifo node g fifos low call =
    let s = alone call node in
    let o : Owning Fifo s.node.layer s.outbox.packets = behind_call Fifo node g (written_of Fifo node.logins fifos low) call in
    all_owned Fifo s.node.layer o.lives o.known s.outbox.packets o.all

-- ---- in a world
module _ {units ready : ℕ} {start : List Disk} {past : List Moment} {lines : ℕ} (w : WorldState) (h : Holding units ready start past lines w) where
  pub low_logins : AreLow w.target.logins
  low_logins place other is = fifo_fits _ (login_at w.target place) other is (h.sound.nodes.target_holds.fits.logins place)

  pub owned_here : 0 < units → (Fifo : ℕ → ℕ → Type 0) → AreFifos Fifo w.target.logins → (call : Call) → (let s = alone call w.target in AllOwned Fifo s.node.layer s.outbox.packets)
  owned_here has Fifo fifos call = owned_call Fifo w.target (good_of units ready h.calls w.target has h.made) fifos low_logins call
