-- A call of a target is the same whatever packets it has handed out before. So what its desks wait for is, after every list of calls, among the packets
-- that left in these.
use Rattle.sbp_world.proofs.Words.Std.{◌≡◌, ◌∙◌, refl, sym, ap, subst, ℕ, zero, suc, ◌+◌, ◌<◌, Bool, true, false, cond, List, [], ◌∷◌, ◌++◌, length, Option, Some, None, Result, Ok, Err, slice_index_or}
use Rattle.sbp_world.proofs.Words.Wire.{LabelParts, Packet, header_in, Stale, Finding, Layer, answering_step, expiring_step, judging_step, of_again, of_generation, of_grammar, of_label, of_request, of_response, seeing_step, Judged, Outgoing, OutboxState, empty_outbox}
use Rattle.sbp_world.proofs.Words.Target.{Login, Table, is_live, place_at, tick_step, Busy, disk_at, Told, AgentStep, PointRefusal, Which, Machine, doorbell_step, address_error, complete, conflict_error, demand_of, Access, Demand, Desk, Purpose, cut, Call, after, done, lets_expire, packets_after, receives, sees, sets_key, ticks, expired_desk, point_desk, which_in, ask_manager, Scene, desk_at, login_at, scene, with_agent, with_desk, answer_in, cleared_node, concluded, expire_agent, expired, expired_by, expired_from, expired_in, expired_with, held_all, held_from, judged_scene, received, received_as, reset_by, seen, tell_held, ticked, ticked_by, timed_out, with_layer, Stage, Whole, advance, advanced_with, came, replied, replied_by, replied_to, scene_of, served_login, stage, whole, answer_step, answered_by, with_side, accessed_by, answered, asked_in, enabled, is_barred, point, pointed_by, rcode_of, ring, rung_by, serve, served_as, start, started_by, orb_of, cut_all}
use Rattle.sbp_world.proofs.Words.Initiator.{Ask, OrbPointer, Answer, Expired}
use Rattle.sbp_world.proofs.Words.World.{AllAsk}
use Rattle.std.proofs.Common.{append-nil}
use Rattle.mgmt_agent.specs.Machine as management
use Rattle.sbp_journal.specs.declared.cause.Cause.TheVariants as ignored
use Rattle.sbp_journal.specs.declared.cause.CutCause.TheVariants as cuts
use Rattle.sbp_journal.specs.declared.cause.Judged.TheVariants as judgements
use Rattle.sbp_journal.specs.declared.side.Side.TheVariants as sides
use Rattle.target_base.specs.declared.address.Access.TheVariants as accesses
use Rattle.target_base.specs.declared.address.Demand.TheVariants as demands
use Rattle.sbp_target.specs.declared.purpose.Purpose.TheVariants as purposes
use Rattle.sbp_target.specs.Serving.{asked_at, request_step}
use Rattle.sbp_world.proofs.Agents.AskedCalls.{calls_law}
use Rattle.sbp_world.proofs.Agents.Beside.{also, asks_manager, box, cuts_all, cuts_it, follows, follows_all, manages, packs}

-- a whole with other packets in front of its own
abbrev wholly : List Outgoing → Whole → Whole
wholly before w = whole (also before (scene_of w)) w.disks

abbrev verdict : Judged → Scene → Judged × Scene
verdict judged s = (judged, s)

abbrev verdict_whole : Judged → Whole → Judged × Whole
verdict_whole judged w = (judged, w)

abbrev layered : Layer Purpose → OutboxState → Layer Purpose × OutboxState
layered layer o = (layer, o)

module _ (before : List Outgoing) where
  -- ---- an answer
  gives : (r : List ℕ × Layer Purpose) (o : OutboxState) (source : ℕ) → answered_by r (box before o) source ≡ layered (answered_by r o source).0 (box before (answered_by r o source).1)
  gives (bytes, layer) o source = ap (layered layer) (packs before o (record { to = source; label = None; bytes = bytes }))

  answers : (p : Packet) (bytes : List ℕ) (rcode : ℕ) (given : List ℕ) (s : Scene) → answered p bytes rcode given (also before s) ≡ also before (answered p bytes rcode given s)
  unfolding answer_step
  answers p bytes rcode given s =
      ap (λ (a : Layer Purpose × OutboxState). scene (record s.node { layer = a.0 }) a.1)
      (gives (answering_step s.node.layer p bytes rcode given) s.outbox (header_in p).source)

  -- ---- what is asked of an agent
  asks_in : (place : ℕ) (ask : Ask) (login : Option Login) (s : Scene) → asked_in place ask login (also before s) ≡ also before (asked_in place ask login s)
  asks_in place ask None s = refl
  asks_in place ask (Some login) s = follows before place login _ s

  points_by : (place : ℕ) (p : Packet) (bytes : List ℕ) (r : Result Ask PointRefusal × Desk) (s : Scene) → pointed_by place p bytes r (also before s) ≡ also before (pointed_by place p bytes r s)
  points_by place p bytes (Ok ask, desk) s =
      let t = scene (with_desk s.node place desk) (with_side s.outbox (sides.Opened place (orb_of desk.agent))) in
      let u = answered p bytes complete [] t in
      ap (asked_at place ask) (answers p bytes complete [] t) ∙ asks_in place ask (login_at u.node place) u
  points_by place p bytes (Err refusal, desk) s = answers p bytes (rcode_of refusal) [] (scene (with_desk s.node place desk) s.outbox)

  points : (place : ℕ) (pointer : OrbPointer) (p : Packet) (bytes : List ℕ) (s : Scene) → point place pointer p bytes (also before s) ≡ also before (point place pointer p bytes s)
  unfolding point
  points place pointer p bytes s = points_by place p bytes (point_desk (desk_at s.node place) pointer) s

  rings_by : (place : ℕ) (p : Packet) (bytes : List ℕ) (r : Ask × Machine) (s : Scene) → rung_by place p bytes r (also before s) ≡ also before (rung_by place p bytes r s)
  rings_by place p bytes (ask, m) s =
      let t = scene (with_agent s.node place m) s.outbox in
      let u = answered p bytes complete [] t in
      ap (asked_at place ask) (answers p bytes complete [] t) ∙ asks_in place ask (login_at u.node place) u

  rings : (place : ℕ) (p : Packet) (bytes : List ℕ) (s : Scene) → ring place p bytes (also before s) ≡ also before (ring place p bytes s)
  unfolding ring
  rings place p bytes s = rings_by place p bytes (doorbell_step (desk_at s.node place).agent) s

  accesses_by : (access : Access) (place : ℕ) (p : Packet) (bytes : List ℕ) (s : Scene) → accessed_by access place p bytes (also before s) ≡ also before (accessed_by access place p bytes s)
  accesses_by accesses.State place p bytes s = answers p bytes complete _ s
  accesses_by accesses.Reset place p bytes s = ap (answered p bytes complete []) (cuts_it before cuts.AgentReset place s) ∙ answers p bytes complete [] (cut cuts.AgentReset place s)
  accesses_by (accesses.Point pointer) place p bytes s = points place pointer p bytes s
  accesses_by accesses.Pointer place p bytes s = answers p bytes complete _ s
  accesses_by accesses.Ring place p bytes s = rings place p bytes s
  accesses_by accesses.Enable place p bytes s = answers p bytes complete [] (enabled place s)

  -- ---- a request
  starts_by : (source : ℕ) (p : Packet) (bytes : List ℕ) (r : Result Ask Busy × management.Machine) (s : Scene) → started_by source p bytes r (also before s) ≡ also before (started_by source p bytes r s)
  starts_by source p bytes (Ok ask, m) s =
      let t = scene (record s.node { manager = m }) s.outbox in
      ap (ask_manager source ask) (answers p bytes complete [] t) ∙ asks_manager before source ask (answered p bytes complete [] t)
  starts_by source p bytes (Err busy, m) s = answers p bytes conflict_error [] (scene (record s.node { manager = m }) s.outbox)

  starts : (orb : ℕ) (p : Packet) (bytes : List ℕ) (s : Scene) → start orb p bytes (also before s) ≡ also before (start orb p bytes s)
  unfolding start
  starts orb p bytes s = starts_by (header_in p).source p bytes (management.start_step s.node.manager (header_in p).source orb) s

  serves_as : (demand : Demand) (p : Packet) (bytes : List ℕ) (s : Scene) → served_as demand p bytes (also before s) ≡ also before (served_as demand p bytes s)
  serves_as (demands.Refused rcode) p bytes s = answers p bytes rcode [] s
  serves_as (demands.Rom at len) p bytes s = answers p bytes complete _ s
  serves_as (demands.Manage orb) p bytes s = starts orb p bytes s
  serves_as (demands.Agent place access) p bytes s = accesses_by access place p bytes s

  serves : (p : Packet) (bytes : List ℕ) (s : Scene) → serve p bytes (also before s) ≡ also before (serve p bytes s)
  unfolding serve
  serves p bytes s = serves_as (demand_of (length s.node.rom) p) p bytes s

  abbrev Verdict : Judged × Scene → Judged × Scene
  Verdict r = verdict r.0 (also before r.1)

  judges_if : (b : Bool) (one two : Judged) (x y p q : Scene) → x ≡ also before p → y ≡ also before q → cond b (verdict one x) (verdict two y) ≡ Verdict (cond b (verdict one p) (verdict two q))
  judges_if true one two x y p q e f = ap (verdict one) e
  judges_if false one two x y p q e f = ap (verdict two) f

  judges : (p : Packet) (bytes : List ℕ) (s : Scene) → request_step p bytes (also before s) ≡ Verdict (request_step p bytes s)
  unfolding request_step
  judges p bytes s =
      judges_if (is_barred s.node p) (judgements.Ignored ignored.Login) judgements.Got (answered p bytes address_error [] (also before s)) (serve p bytes (also before s)) (answered p bytes address_error [] s) (serve p bytes s)
      (answers p bytes address_error [] s) (serves p bytes s)

  -- ---- a reply
  advances_with : (place : ℕ) (login : Login) (r : AgentStep × Stage) (w : Whole) → advanced_with place login r (wholly before w) ≡ wholly before (advanced_with place login r w)
  advances_with place login (step, st) w =
      ap (λ (s : Scene). whole s st.disks) (follows_all before (came (disk_at w.disks login.unit) (disk_at st.disks login.unit)) place login step (scene st.node w.outbox))

  advances : (told : Option Told) (place : ℕ) (login : Login) (which : Which) (answer : Answer) (w : Whole) → advance told place login which answer (wholly before w) ≡ wholly before (advance told place login which answer w)
  unfolding advance
  advances told place login which answer w = advances_with place login (replied told place login.unit which answer (stage w.node w.disks)) w

  replies_by : (told : Option Told) (place : ℕ) (answer : Answer) (login : Option Login) (which : Option Which) (w : Whole) → replied_by told place answer login which (wholly before w) ≡ wholly before (replied_by told place answer login which w)
  replies_by told place answer (Some login) (Some which) w = advances told place login which answer w
  replies_by told place answer None which w = refl
  replies_by told place answer (Some login) None w = refl

  replies : (told : Option Told) (place peer : ℕ) (label : LabelParts) (answer : Answer) (w : Whole) → replied_to told place peer label answer (wholly before w) ≡ wholly before (replied_to told place peer label answer w)
  unfolding replied_to
  replies told place peer label answer w = replies_by told place answer (served_login w.node place) (which_in (desk_at w.node place) peer label) w

  concludes : (told : Option Told) (purpose : Option Purpose) (peer : ℕ) (label : LabelParts) (answer : Answer) (w : Whole) → concluded told purpose peer label answer (wholly before w) ≡ wholly before (concluded told purpose peer label answer w)
  unfolding concluded
  concludes told None peer label answer w = refl
  concludes told (Some (purposes.Agent place)) peer label answer w = replies told place peer label answer w
  concludes told (Some purposes.Management) peer label answer w = ap (λ (s : Scene). whole s w.disks) (manages before answer (scene_of w))
  concludes told (Some purposes.Unsolicited) peer label answer w = refl

  -- ---- a delivery
  abbrev WholeVerdict : Judged × Whole → Judged × Whole
  WholeVerdict r = verdict_whole r.0 (wholly before r.1)

  as_judged : (r : Judged × Scene) (w : Whole) → judged_scene (Verdict r) (wholly before w) ≡ WholeVerdict (judged_scene r w)
  as_judged (judged, s) w = refl

  receives_as : (told : Option Told) (bytes : List ℕ) (found : Finding Purpose) (w : Whole) → received_as told bytes found (wholly before w) ≡ WholeVerdict (received_as told bytes found w)
  receives_as told bytes of_generation w = refl
  receives_as told bytes of_grammar w = refl
  receives_as told bytes of_label w = refl
  receives_as told bytes (of_response p label purpose) w = ap (verdict_whole judgements.Got) (concludes told purpose (header_in p).source label (answer_in p) w)
  receives_as told bytes (of_again p rcode) w = ap (λ (s : Scene). verdict_whole (judgements.Ignored ignored.Again) (whole s w.disks)) (answers p bytes rcode [] (scene_of w))
  receives_as told bytes (of_request p) w =
      ap (λ (r : Judged × Scene). judged_scene r (wholly before w)) (judges p bytes (scene_of w)) ∙ as_judged (request_step p bytes (scene_of w)) w

  receives_it : (told : Option Told) (generation : ℕ) (bytes : List ℕ) (w : Whole) → received told generation bytes (wholly before w) ≡ WholeVerdict (received told generation bytes w)
  unfolding received
  receives_it told generation bytes w =
      let found = judging_step w.node.layer generation bytes in receives_as told bytes found.0 (with_layer found.1 w)

  -- ---- a time-out
  expires_with : (place : ℕ) (login : Login) (r : AgentStep × Desk) (s : Scene) → expired_with place login r (also before s) ≡ also before (expired_with place login r s)
  expires_with place login (step, desk) s = follows before place login step (scene (with_desk s.node place desk) s.outbox)

  expires_by : (place : ℕ) (login : Option Login) (which : Option Which) (s : Scene) → expired_by place login which (also before s) ≡ also before (expired_by place login which s)
  expires_by place (Some login) (Some which) s = expires_with place login (expired_desk which (desk_at s.node place)) s
  expires_by place None which s = refl
  expires_by place (Some login) None s = refl

  expires_agent : (place peer : ℕ) (label : LabelParts) (s : Scene) → expire_agent place peer label (also before s) ≡ also before (expire_agent place peer label s)
  unfolding expire_agent
  expires_agent place peer label s = expires_by place (login_at s.node place) (which_in (desk_at s.node place) peer label) s

  times_out : (purpose : Option Purpose) (peer : ℕ) (label : LabelParts) (s : Scene) → timed_out purpose peer label (also before s) ≡ also before (timed_out purpose peer label s)
  times_out None peer label s = refl
  times_out (Some (purposes.Agent place)) peer label s = expires_agent place peer label s
  times_out (Some purposes.Management) peer label s = manages before Expired s
  times_out (Some purposes.Unsolicited) peer label s = refl

  expires_in : (r : Result (Option Purpose) Stale × Layer Purpose) (peer : ℕ) (label : LabelParts) (s : Scene) → (expired_in r peer label (also before s)).1 ≡ also before (expired_in r peer label s).1
  expires_in (Ok purpose, layer) peer label s = times_out purpose peer label (scene (record s.node { layer = layer }) s.outbox)
  expires_in (Err stale, layer) peer label s = refl

  expires_it : (peer : ℕ) (label : LabelParts) (s : Scene) → (expired peer label (also before s)).1 ≡ also before (expired peer label s).1
  unfolding expired
  expires_it peer label s = expires_in (expiring_step s.node.layer peer label) peer label s

  -- ---- a sight
  held_if : (b : Bool) (login : Login) (o : OutboxState) → cond b (with_side (box before o) (sides.Held login.login)) (box before o) ≡ box before (cond b (with_side o (sides.Held login.login)) o)
  held_if true login o = refl
  held_if false login o = refl

  held_one : (login : Option Login) (o : OutboxState) → tell_held login (box before o) ≡ box before (tell_held login o)
  held_one None o = refl
  held_one (Some login) o = held_if (is_live login) login o

  holds_from : (left place : ℕ) (places : List (Option Login)) (o : OutboxState) → held_from left place places (box before o) ≡ box before (held_from left place places o)
  unfolding held_from
  holds_from zero place places o = refl
  holds_from (suc left) place places o = ap (held_from left (place + 1) places) (held_one (place_at places place) o) ∙ holds_from left (place + 1) places (tell_held (place_at places place) o)

  resets_by : (r : Bool × Layer Purpose) (s : Scene) → (reset_by r (also before s)).1 ≡ also before (reset_by r s).1
  resets_by (false, layer) s = refl
  resets_by (true, layer) s =
      let t = cut_all cuts.Reset None (scene (cleared_node layer s.node) s.outbox) in
      ap held_all (cuts_all before cuts.Reset None (scene (cleared_node layer s.node) s.outbox))
      ∙ ap (scene (held_all t).node) (holds_from 8 0 t.node.logins.places t.outbox)

  sees_it : (generation id : ℕ) (s : Scene) → (seen generation id (also before s)).1 ≡ also before (seen generation id s).1
  unfolding seen
  sees_it generation id s = resets_by (seeing_step s.node.layer generation id) s

  -- ---- a second
  expires_told : (left at : ℕ) (logins : List ℕ) (o : OutboxState) → expired_from left at logins (box before o) ≡ box before (expired_from left at logins o)
  unfolding expired_from
  expires_told zero at logins o = refl
  expires_told (suc left) at logins o = expires_told left (at + 1) logins (with_side o (sides.Expired (slice_index_or logins at 0)))

  ticks_by : (r : List ℕ × Table) (s : Scene) → ticked_by r (also before s) ≡ also before (ticked_by r s)
  ticks_by (logins, table) s = ap (scene (record s.node { logins = table })) (expires_told (length logins) 0 logins s.outbox)

  ticks_it : (s : Scene) → ticked (also before s) ≡ also before (ticked s)
  unfolding ticked
  ticks_it s = ticks_by (tick_step s.node.logins) s

  -- ---- each call
  pub calls_it : (call : Call) (s : Scene) → done call (also before s) ≡ also before (done call s)
  calls_it (receives told disks generation bytes) s = ap (λ (r : Judged × Whole). scene_of r.1) (receives_it told generation bytes (whole s disks))
  calls_it (lets_expire peer label) s = expires_it peer label s
  calls_it (sees generation id) s = sees_it generation id s
  calls_it ticks s = ticks_it s
  calls_it (sets_key unit key) s = refl

-- ---- one call after the other
pub all_ask : (units ready : ℕ) (calls : List Call) → 0 < units → AllAsk (packets_after units ready calls) (after units ready calls)
all_ask units ready [] has = (calls_law units ready [] has).all
all_ask units ready (call ∷ calls) has =
    let node = after units ready calls in
    let packets = packets_after units ready calls in
    let s = scene node empty_outbox in
    let began : AllAsk (packets ++ []) node = subst (λ (ps : List Outgoing). AllAsk ps node) (sym (append-nil packets)) (all_ask units ready calls has) in
    subst (λ (x : Scene). AllAsk x.outbox.packets x.node) (calls_it packets call s) ((calls_law units ready calls has).each call (box packets empty_outbox) began)
