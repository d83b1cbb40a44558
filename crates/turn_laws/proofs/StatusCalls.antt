-- What each call of the target makes of its unsolicited statuses: a response closes one, and its node has none under way then; a reply to an agent may bring a disc, and with it new ones; all
-- other calls leave them and their nodes as they are, but for a sight of a later generation.
use Rattle.std.proofs.Common.{arith, ◌≡◌, ◌∙◌, refl, sym, subst, ℕ, ◌≤◌, nat_lt, Bool, true, false, cond, List, [], length, take, drop, position, Option, Some, None, Result, Ok, Err}
use Rattle.std.specs.Prelude.{slice_index_or}
use Rattle.std.proofs.lemmas.Bool.Decides.{nat_tests}
use Rattle.std.proofs.lemmas.Grind.{common_steps}
use Rattle.byteorder.specs.Endian.{big_bytes}
use Rattle.async_packet.specs.Labels.{LabelParts}
use Rattle.async_packet.specs.Packet.{Packet, header_in}
use Rattle.command_agent.specs.Machine.{Machine, state_in}
use Rattle.command_agent.specs.Steps.{doorbell_step, point_step}
use Rattle.command_agent.specs.Steps as steps
use Rattle.command_agent.specs.declared.step.AgentStep.{AgentStep}
use Rattle.command_agent.specs.declared.step.PointRefusal.{PointRefusal}
use Rattle.command_agent.specs.declared.step.Which.{Which}
use Rattle.command_agent.specs.declared.step.Which.TheVariants.{Ahead, Main}
use Rattle.label_table.specs.History as wire
use Rattle.label_table.specs.History.{Life, ended, is_same, under_way}
use Rattle.label_table.specs.Layer.{Finding, Layer, answering_step, judging_step, of_again, of_generation, of_grammar, of_label, of_request, of_response}
use Rattle.label_table.specs.declared.reply.ReplyKind.{ReplyKind}
use Rattle.login_table.specs.declared.login.Login.{Login}
use Rattle.mgmt_agent.specs.Machine as management
use Rattle.mgmt_agent.specs.declared.operation.Busy.{Busy}
use Rattle.orb_layout.specs.Replies.{Expired}
use Rattle.orb_layout.specs.declared.ask.Ask.{Ask}
use Rattle.orb_layout.specs.declared.pointer.OrbPointer.{OrbPointer}
use Rattle.rbc_disk.specs.Disk.{Disk}
use Rattle.rbc_disk.specs.Runs.{Told}
use Rattle.sbp_journal.specs.Outgoings.{empty_outbox}
use Rattle.sbp_journal.specs.declared.cause.Cause.TheVariants as ignored
use Rattle.sbp_journal.specs.declared.cause.CutCause.TheVariants as cuts
use Rattle.sbp_journal.specs.declared.cause.Judged.{Judged}
use Rattle.sbp_journal.specs.declared.cause.Judged.TheVariants as judgements
use Rattle.sbp_journal.specs.declared.side.Side.TheVariants as sides
use Rattle.sbp_target.specs.Agents.{cut}
use Rattle.sbp_target.specs.Desks.{expired_desk, new_desk, point_desk, pointed_desk, which_in}
use Rattle.sbp_target.specs.Nodes.{NodeState, Scene, desk_at, login_at, scene, with_desk}
use Rattle.sbp_target.specs.Receiving.{answer_in, concluded, expire_agent, expired_by, expired_with, judged_scene, received, received_as, removed, timed_out, with_layer}
use Rattle.sbp_target.specs.Replies.{Whole, scene_of, whole}
use Rattle.sbp_target.specs.Sending.{answer_step, with_side}
use Rattle.sbp_target.specs.Serving.{accessed_by, answered, asked_in, enabled, is_barred, last_pointer, point, pointed_by, pointer_bytes, rcode_of, request_step, ring, rung_by, serve, served_as, start, started_by, state_number}
use Rattle.sbp_target.specs.Telling.{orb_of}
use Rattle.sbp_target.specs.Units.{is_node}
use Rattle.sbp_target.specs.declared.desk.Desk.{Desk}
use Rattle.sbp_target.specs.declared.purpose.Purpose.{Purpose}
use Rattle.sbp_target.specs.declared.purpose.Purpose.TheVariants as purposes
use Rattle.target_base.specs.Addresses.{address_error, complete, conflict_error, demand_of}
use Rattle.target_base.specs.declared.address.Access.{Access as Register}
use Rattle.target_base.specs.declared.address.Access.TheVariants as accesses
use Rattle.target_base.specs.declared.address.Demand.{Demand}
use Rattle.target_base.specs.declared.address.Demand.TheVariants as demands
use Rattle.sbp_target.proofs.Histories.Calling.{Good}
use Rattle.sbp_target.proofs.Histories.Found.{IsFound, found}
use Rattle.sbp_target.proofs.Histories.Primitives.{Known, closing_known, live_on}
use Rattle.sbp_target.proofs.Histories.Seats.{Lives}
use Rattle.sbp_world.proofs.Agents.Management.Calm as calm
use Rattle.sbp_world.proofs.Agents.Management.Calm.{AreQuiet}
use Rattle.turn_laws.proofs.ManagedSides.{begins, from_self}
use Rattle.turn_laws.proofs.StatusAnnounces.{Announced, replies, taken_seated}
use Rattle.turn_laws.proofs.StatusHeralds.{Heralds, announcing}
use Rattle.turn_laws.proofs.StatusStays.{IsStatus, Lines, Seated, Still, agent_set, cuts_one, desk_set, follows, layer_set, lines_answer, manage_still, manager_asks, none_some}

module _ (old : Lives) (first : List ℕ) where
  abbrev Here : Scene → Type 0
  Here s = Still old first s.node

  -- ---- a request is served
  module _ (p : Packet) (bytes : List ℕ) where
    answers : (rcode : ℕ) (given : List ℕ) (s : Scene) → Here s → Here (answered p bytes rcode given s)
    unfolding answer_step
    answers rcode given s h = layer_set old first s.node (answering_step s.node.layer p bytes rcode given).1 (lines_answer old s.node.layer p bytes rcode given h.lines) h

    asks_in : (place : ℕ) (ask : Ask) (login : Option Login) (s : Scene) → Here s → Here (asked_in place ask login s)
    asks_in place ask None s h = h
    asks_in place ask (Some login) s h = follows old first place login (steps.asks ask) s h

    points_by : (place : ℕ) (r : Result Ask PointRefusal × Desk) (s : Scene) → Seated old r.1 → Here s → Here (pointed_by place p bytes r s)
    points_by place (Ok ask, desk) s d h =
        let t = scene (with_desk s.node place desk) (with_side s.outbox (sides.Opened place (orb_of desk.agent))) in
        let u = answered p bytes complete [] t in
        asks_in place ask (login_at u.node place) u (answers complete [] t (desk_set old first s.node place desk d h))
    points_by place (Err refusal, desk) s d h = answers (rcode_of refusal) [] (scene (with_desk s.node place desk) s.outbox) (desk_set old first s.node place desk d h)

    pointed_seated : (d : Desk) (r : Result Ask PointRefusal × Machine) → Seated old d → Seated old (pointed_desk d r).1
    pointed_seated d (Ok ask, m) s = s
    pointed_seated d (Err refusal, m) s = s

    points : (place : ℕ) (pointer : OrbPointer) (s : Scene) → Here s → Here (point place pointer p bytes s)
    unfolding point
    points place pointer s h =
        let d = desk_at s.node place in points_by place (point_desk d pointer) s (pointed_seated d (point_step d.agent pointer) (h.seated place)) h

    rings_by : (place : ℕ) (r : Ask × Machine) (s : Scene) → Here s → Here (rung_by place p bytes r s)
    rings_by place (ask, m) s h =
        let d = desk_at s.node place in
        let t = scene (with_desk s.node place (record d { agent = m })) s.outbox in
        let u = answered p bytes complete [] t in
        asks_in place ask (login_at u.node place) u (answers complete [] t (agent_set old first place m s.node h))

    rings : (place : ℕ) (s : Scene) → Here s → Here (ring place p bytes s)
    unfolding ring
    rings place s h = rings_by place (doorbell_step (desk_at s.node place).agent) s h

    enables : (place : ℕ) (s : Scene) → Here s → Here (enabled place s)
    enables place s h = desk_set old first s.node place (record (desk_at s.node place) { is_enabled = true }) (h.seated place) h

    accesses_by : (access : Register) (place : ℕ) (s : Scene) → Here s → Here (accessed_by access place p bytes s)
    accesses_by accesses.State place s h = answers complete (big_bytes 4 (state_number (state_in (desk_at s.node place).agent.phase))) s h
    accesses_by accesses.Reset place s h = answers complete [] (cut cuts.AgentReset place s) (cuts_one old first cuts.AgentReset place s h)
    accesses_by (accesses.Point pointer) place s h = points place pointer s h
    accesses_by accesses.Pointer place s h = answers complete (pointer_bytes (last_pointer (desk_at s.node place).pointer)) s h
    accesses_by accesses.Ring place s h = rings place s h
    accesses_by accesses.Enable place s h = answers complete [] (enabled place s) (enables place s h)

    manager_set : (m : management.Machine) (s : Scene) → Here s → Still old first (record s.node { manager = m })
    manager_set m s h = record { lines = h.lines; seated = h.seated; pending = h.pending }

    starts_by : (source : ℕ) (r : Result Ask Busy × management.Machine) (s : Scene) → Here s → Here (started_by source p bytes r s)
    starts_by source (Ok ask, m) s h =
        let t = scene (record s.node { manager = m }) s.outbox in
        manager_asks old first source ask (answered p bytes complete [] t) (answers complete [] t (manager_set m s h))
    starts_by source (Err busy, m) s h = answers conflict_error [] (scene (record s.node { manager = m }) s.outbox) (manager_set m s h)

    starts : (orb : ℕ) (s : Scene) → Here s → Here (start orb p bytes s)
    unfolding start
    starts orb s h = starts_by (header_in p).source (management.start_step s.node.manager (header_in p).source orb) s h

    serves_as : (demand : Demand) (s : Scene) → Here s → Here (served_as demand p bytes s)
    serves_as (demands.Refused rcode) s h = answers rcode [] s h
    serves_as (demands.Rom at len) s h = answers complete (take len (drop at s.node.rom)) s h
    serves_as (demands.Manage orb) s h = starts orb s h
    serves_as (demands.Agent place access) s h = accesses_by access place s h

    serves : (s : Scene) → Here s → Here (serve p bytes s)
    unfolding serve
    serves s h = serves_as (demand_of (length s.node.rom) p) s h

    judges_if : (b : Bool) (s : Scene) → Here s → Here (cond {A = Judged × Scene} b (judgements.Ignored ignored.Login, answered p bytes address_error [] s) (judgements.Got, serve p bytes s)).1
    judges_if true s h = answers address_error [] s h
    judges_if false s h = serves s h

    pub judges : (s : Scene) → Here s → Here (request_step p bytes s).1
    unfolding request_step
    judges s h = judges_if (is_barred s.node p) s h

  -- ---- a time-out of an agent's transaction
  expires_with : (place : ℕ) (login : Login) (r : AgentStep × Desk) (s : Scene) → Seated old r.1 → Here s → Here (expired_with place login r s)
  expires_with place login (step, desk) s d h = follows old first place login step (scene (with_desk s.node place desk) s.outbox) (desk_set old first s.node place desk d h)

  expired_seated : (which : Which) (d : Desk) → Seated old d → Seated old (expired_desk which d).1
  expired_seated Main d s = taken_seated old first Main d s
  expired_seated Ahead d s = taken_seated old first Ahead d s

  expires_by : (place : ℕ) (login : Option Login) (which : Option Which) (s : Scene) → Here s → Here (expired_by place login which s)
  expires_by place (Some login) (Some which) s h =
      let d = desk_at s.node place in expires_with place login (expired_desk which d) s (expired_seated which d (h.seated place)) h
  expires_by place None which s h = h
  expires_by place (Some login) None s h = h

  expires_agent : (place peer : ℕ) (label : LabelParts) (s : Scene) → Here s → Here (expire_agent place peer label s)
  unfolding expire_agent
  expires_agent place peer label s h = expires_by place (login_at s.node place) (which_in (desk_at s.node place) peer label) s h

  pub times_out : (purpose : Option Purpose) (peer : ℕ) (label : LabelParts) (s : Scene) → Here s → Here (timed_out purpose peer label s)
  times_out None peer label s h = h
  times_out (Some (purposes.Agent place)) peer label s h = expires_agent place peer label s h
  times_out (Some purposes.Management) peer label s h = manage_still old first Expired s h
  times_out (Some purposes.Unsolicited) peer label s h = h

-- ---- each call, of a target as its calls leave it
agent_is_other : (place : ℕ) (kind k : ReplyKind) → under_way kind (Some (purposes.Agent place)) ≡ under_way k (Some purposes.Unsolicited) → ⊥
agent_is_other place kind k e = cc

pub ended_if : (b : Bool) (kind : ReplyKind) (life : Life Purpose) → cond b (ended life) life ≡ under_way kind (Some purposes.Unsolicited) → life ≡ under_way kind (Some purposes.Unsolicited)
ended_if false kind life e = e
ended_if true kind life e = over life e
  where
    over : (life : Life Purpose) → ended life ≡ under_way kind (Some purposes.Unsolicited) → life ≡ under_way kind (Some purposes.Unsolicited)
    over wire.not_begun f = f
    over (wire.under_way k q) f = absurd (let x : wire.over ≡ under_way kind (Some purposes.Unsolicited) = f in cc)
    over wire.over f = f

module _ (node : NodeState) (g : Good node) where
  seat_of : (place : ℕ) → Seated g.lives (desk_at node place)
  seat_of place = by (nat_lt place 8) refl
    where
      by : (b : Bool) → nat_lt place 8 ≡ b → Seated g.lives (desk_at node place)
      by true e =
          let s = g.mid.seats place (grind (arith, nat_tests)) in
          (λ x f kind h. let m = (s.main_for x f).0 in agent_is_other place m.kind kind (sym m.life ∙ h), λ x f kind h. let m = (s.ahead_for x f).0 in agent_is_other place m.kind kind (sym m.life ∙ h))
      by false e =
          let size = g.mid.size in
          let beyond : length node.desks ≤ place = grind (arith, nat_tests) in
          let none : slice_index_or node.desks place new_desk ≡ new_desk = grind (arith, common_steps) in
          subst (Seated g.lives) (sym none) (λ x f. none_some x f, λ x f. none_some x f)

  -- some transactions have ended
  ended_seat : (lives : Lives) → ((peer : ℕ) (label : LabelParts) (kind : ReplyKind) → IsStatus lives peer label kind → IsStatus g.lives peer label kind) → (place : ℕ) → Seated lives (desk_at node place)
  ended_seat lives f place = let s = seat_of place in (λ x e kind h. s.0 x e kind (f x.peer x.label kind h), λ x e kind h. s.1 x e kind (f x.peer x.label kind h))

  self_lines : (lives : Lives) (layer : Layer Purpose) → Known layer lives → Lines lives layer
  self_lines lives layer k = record { lives = lives; known = k; stays = λ p l kind h. h; before = λ p l kind h. h; goes = λ p l h. h }

  pub starts_still : (lives : Lives) (layer : Layer Purpose) → Known layer lives → ((peer : ℕ) (label : LabelParts) (kind : ReplyKind) → IsStatus lives peer label kind → IsStatus g.lives peer label kind) → Still lives node.pending (record node { layer = layer })
  starts_still lives layer k f = record { lines = self_lines lives layer k; seated = ended_seat lives f; pending = refl }

  same_still : (layer : Layer Purpose) → layer ≡ node.layer → Still g.lives node.pending (record node { layer = layer })
  same_still layer e = starts_still g.lives layer (subst (λ (l : Layer Purpose). Known l g.lives) (sym e) g.mid.known) (λ p l kind h. h)

  -- the response to a request, and its time-out
  abbrev pub Closed : (peer : ℕ) → LabelParts → ReplyKind → Option Purpose → Lives
  Closed peer label kind purpose = live_on (wire.closed peer label kind purpose) g.lives

  -- what a response that is got makes of them, by what it is for
  abbrev pub Concludes : Packet → LabelParts → ReplyKind → Option Purpose → Layer Purpose → NodeState → Type 0
  Concludes p label kind (Some (purposes.Agent place)) layer later = Announced (Closed (header_in p).source label kind (Some (purposes.Agent place))) node.pending later
  Concludes p label kind (Some purposes.Management) layer later = Still (Closed (header_in p).source label kind (Some purposes.Management)) node.pending later
  Concludes p label kind (Some purposes.Unsolicited) layer later = later ≡ record node { layer = layer; pending = removed (position (is_node (header_in p).source) node.pending) node.pending }
  Concludes p label kind None layer later = Still (Closed (header_in p).source label kind None) node.pending later

  pub record Got (p : Packet) (label : LabelParts) (purpose : Option Purpose) (layer : Layer Purpose) (later : NodeState) : Type 0 where
    pub kind : ReplyKind
    pub life : g.lives (header_in p).source label ≡ under_way kind purpose
    pub known : Known layer (Closed (header_in p).source label kind purpose)
    pub concludes : Concludes p label kind purpose layer later

  abbrev pub Hears : Finding Purpose → Layer Purpose → NodeState → Type 0
  Hears (of_response p label purpose) layer later = Got p label purpose layer later
  Hears finding layer later = Still g.lives node.pending later

  module _ (told : Option Told) (disks : List Disk) (generation : ℕ) (bytes : List ℕ) where
    abbrev Given : Finding Purpose → Layer Purpose → Judged × Whole
    Given f layer = received_as told bytes f (with_layer layer (whole (scene node empty_outbox) disks))

    concludes_for : (p : Packet) (label : LabelParts) (kind : ReplyKind) (purpose : Option Purpose) (layer : Layer Purpose) → Known layer (Closed (header_in p).source label kind purpose) → Concludes p label kind purpose layer (Given (of_response p label purpose) layer).1.node
    unfolding concluded
    concludes_for p label kind (Some (purposes.Agent place)) layer k =
        let lives = Closed (header_in p).source label kind (Some (purposes.Agent place)) in
        replies lives node.pending told place (header_in p).source label (answer_in p) (with_layer layer (whole (scene node empty_outbox) disks))
        (starts_still lives layer k (λ q l t h. ended_if (is_same (header_in p).source label q l) t (g.lives q l) h))
    concludes_for p label kind (Some purposes.Management) layer k =
        let lives = Closed (header_in p).source label kind (Some purposes.Management) in
        manage_still lives node.pending (answer_in p) (scene (record node { layer = layer }) empty_outbox)
        (starts_still lives layer k (λ q l t h. ended_if (is_same (header_in p).source label q l) t (g.lives q l) h))
    concludes_for p label kind (Some purposes.Unsolicited) layer k = refl
    concludes_for p label kind None layer k =
        let lives = Closed (header_in p).source label kind None in
        starts_still lives layer k (λ q l t h. ended_if (is_same (header_in p).source label q l) t (g.lives q l) h)

    hears_as : (f : Finding Purpose) (layer : Layer Purpose) → judging_step node.layer generation bytes ≡ (f, layer) → IsFound f node.layer layer bytes → Hears f layer (Given f layer).1.node
    hears_as of_generation layer e f = same_still layer f
    hears_as of_grammar layer e f = same_still layer f
    hears_as of_label layer e f = same_still layer f
    hears_as (of_response p label purpose) layer e f =
        let c = closing_known node.layer layer g.lives generation bytes p label purpose g.mid.known e f.kind in
        record { kind = c.kind; life = c.life; known = c.known; concludes = concludes_for p label c.kind purpose layer c.known }
    hears_as (of_again p rcode) layer e f = answers g.lives node.pending p bytes rcode [] (scene (record node { layer = layer }) empty_outbox) (same_still layer f.0)
    hears_as (of_request p) layer e f = as_judged (request_step p bytes (scene (record node { layer = layer }) empty_outbox)) (judges g.lives node.pending p bytes (scene (record node { layer = layer }) empty_outbox) (same_still layer f.0))
      where
        as_judged : (r : Judged × Scene) → Still g.lives node.pending r.1.node → Still g.lives node.pending (judged_scene r (with_layer layer (whole (scene node empty_outbox) disks))).1.node
        as_judged (judged, s) h = h

    pub hears : (let f = judging_step node.layer generation bytes in Hears f.0 f.1 (received told generation bytes (whole (scene node empty_outbox) disks)).1.node)
    unfolding received
    hears = let f = judging_step node.layer generation bytes in hears_as f.0 f.1 refl (found node.layer generation bytes)

    -- of whom `unsolicited` is told in the response to an agent
    heralds_for : (p : Packet) (label : LabelParts) (kind : ReplyKind) (place : ℕ) (layer : Layer Purpose) → Known layer (Closed (header_in p).source label kind (Some (purposes.Agent place))) → Heralds node.pending node.logins (scene_of (Given (of_response p label (Some (purposes.Agent place))) layer).1)
    unfolding concluded
    heralds_for p label kind place layer k =
        let lives = Closed (header_in p).source label kind (Some (purposes.Agent place)) in
        announcing node.pending node.logins lives told place (header_in p).source label (answer_in p) (with_layer layer (whole (scene node empty_outbox) disks))
        (starts_still lives layer k (λ q l t h. ended_if (is_same (header_in p).source label q l) t (g.lives q l) h)) refl

    pub heralds : (p : Packet) (label : LabelParts) (kind : ReplyKind) (place : ℕ) (layer : Layer Purpose) → judging_step node.layer generation bytes ≡ (of_response p label (Some (purposes.Agent place)), layer) → Known layer (Closed (header_in p).source label kind (Some (purposes.Agent place))) → Heralds node.pending node.logins (scene_of (received told generation bytes (whole (scene node empty_outbox) disks)).1)
    unfolding received
    heralds p label kind place layer e k = subst (λ (f : Finding Purpose × Layer Purpose). Heralds node.pending node.logins (scene_of (Given f.0 f.1).1)) (sym e) (heralds_for p label kind place layer k)

    -- which tells nothing of logins
    quiet_for : (p : Packet) (label : LabelParts) (kind : ReplyKind) (place : ℕ) (layer : Layer Purpose) → Known layer (Closed (header_in p).source label kind (Some (purposes.Agent place))) → AreQuiet (Given (of_response p label (Some (purposes.Agent place))) layer).1.outbox.sides
    unfolding concluded
    quiet_for p label kind place layer k =
        let lives = Closed (header_in p).source label kind (Some (purposes.Agent place)) in
        (calm.replies lives (record node { layer = layer }) told place (header_in p).source label (answer_in p) (with_layer layer (whole (scene node empty_outbox) disks)) (begins node g layer lives (from_self node g layer lives k))).quiet

    pub quiet : (p : Packet) (label : LabelParts) (kind : ReplyKind) (place : ℕ) (layer : Layer Purpose) → judging_step node.layer generation bytes ≡ (of_response p label (Some (purposes.Agent place)), layer) → Known layer (Closed (header_in p).source label kind (Some (purposes.Agent place))) → AreQuiet (received told generation bytes (whole (scene node empty_outbox) disks)).1.outbox.sides
    unfolding received
    quiet p label kind place layer e k = subst (λ (f : Finding Purpose × Layer Purpose). AreQuiet (Given f.0 f.1).1.outbox.sides) (sym e) (quiet_for p label kind place layer k)
