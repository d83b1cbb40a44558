-- At each turn the target keeps the management ORB of the operation that an initiator has under way.
use Rattle.sbp_world.proofs.Words.Std.{arith, ◌≡◌, ◌∙◌, refl, sym, ap, subst, ℕ, suc, ◌<◌, ◌≤◌, nat_le, Bool, true, false, List, [], length, Option, Some, None, nat_tests, same_Some}
use Rattle.sbp_world.proofs.Words.Wire.{LabelParts, Packet, judging_step, of_response, Sent, found_sent, Moment, terms, empty_outbox}
use Rattle.sbp_world.proofs.Words.Target.{Operation, Disk, Told, NodeState, scene, answer_in, received, whole}
use Rattle.sbp_world.proofs.Words.Initiator.{start_of, ManagementOrb, management_orb, Payload}
use Rattle.sbp_world.proofs.Words.Laws.{Underway, host_at, is_management, id_for, place_bytes, target_at}
use Rattle.sbp_world.proofs.Words.World.{NoneInjected, Core, work_in, work_of, Scene, WorldState, initiator_at, is_written, IsInPlace, IsKept, KeepsIn, orb_in_place, HasGivenUp, IsHandling, IsManaged, IsCalm, OperationsLast, WasUnderway}
use Rattle.bus_memory.specs.declared.window.Window.TheVariants as windows
use Rattle.mgmt_agent.specs.declared.operation.Phase.{Phase}
use Rattle.mgmt_agent.specs.declared.operation.Phase.TheVariants as phases
use Rattle.mgmt_agent.specs.Machine.{Machine}
use Rattle.sbp_target.specs.declared.purpose.Purpose.TheVariants as purposes
use Rattle.sbp_world.proofs.Agents.Management.Holding.{Holding, known_id}
use Rattle.sbp_world.proofs.Agents.Management.Still.{hist}
use Rattle.sbp_world.proofs.Sessions.Turns.{wire_generation}
use Rattle.sbp_world.proofs.Lists.Courses.{Goes}
use Rattle.sbp_world.proofs.Lists.Judging.{goes_next, grown, turn_fresh}
use Rattle.sbp_world.proofs.Lists.KeptReplies.{HasRead, brought, delivery_read, kept}
use Rattle.sbp_world.proofs.Lists.LiveCalls.{HasOperation, delivery_operation, replies, starts, stays}
use Rattle.sbp_world.proofs.Lists.LiveRuns.{IsCored, base_of, goes_turned}
use Rattle.sbp_world.proofs.Lists.LiveSteps.{id_in, own_of, zero_of}
use Rattle.sbp_world.proofs.Lists.LiveTaken.{handled}
use Rattle.sbp_world.proofs.Lists.LiveTurns.{SameBus, TargetCall, TurnOf, by_clearing, by_own, by_sight, by_target, delivers, good, keeps, still}
use Rattle.sbp_world.proofs.Lists.OrbsHeard.{asked_by_it, is_answered, manages_is}

-- in a phase that writes or reads the ORB nothing is to be shown

-- an operation that keeps an ORB writes nothing yet
unwritten_or : (phase : Phase) (orb : ManagementOrb) → (is_written phase ≡ false → KeepsIn phase orb) → KeepsIn phase orb
unwritten_or phases.Orb orb f = tt
unwritten_or (phases.HighEui own) orb f = f refl
unwritten_or (phases.LowEui own high) orb f = f refl
unwritten_or (phases.Response fifo) orb f = tt
unwritten_or phases.Status orb f = tt

-- ---- the operation that is under way behind a turn was so before it
module _ (start : List Disk) (past : List Moment) (s : Scene) (later : List Moment) (t : Scene) (g : Goes past s later t) {units ready lines : ℕ} (h : Holding units ready start past lines s.world) (i : ℕ) (lasts : OperationsLast (hist later t.world) i) (underway : Underway) (has : (host_at (hist later t.world) i).operation ≡ Some underway) (judged : 0 < (terms (hist later t.world)).news underway.first) where
  pub was_underway : WasUnderway (hist past s.world) (hist later t.world) i underway
  was_underway =
      let x = grown (hist past s.world) (hist later t.world) (goes_next past s later t g) in
      lasts.was x.new (hist past s.world) x.is underway has (by (nat_le underway.first (terms (hist past s.world)).count) refl)
    where
      by : (b : Bool) → nat_le underway.first (terms (hist past s.world)).count ≡ b → underway.first ≤ (terms (hist past s.world)).count
      by true e = grind (arith, nat_tests)
      by false e =
          let zero = turn_fresh past s later t g h.sound.stands underway.first (grind (arith, nat_tests)) in
          absurd (omega (arith, zero, judged))

-- ---- the target
module _ (units ready : ℕ) (more_units : 0 < units) (start : List Disk) {past : List Moment} {lines : ℕ} (w : WorldState) (h : Holding units ready start past lines w) (i : ℕ) (inside : i < length w.initiators) where
  abbrev before : List Moment
  before = hist past w

  pub id_is : id_for (terms before) 0 (suc i) ≡ id_in w i
  id_is = known_id w h.sound.stands (suc i) (omega arith)

  pub zero_is : (terms before).generation 0 ≡ zero_of w
  zero_is = wire_generation w h.sound.stands 0 (omega arith)

  pub own_is : (terms before).generation (suc i) ≡ own_of w i
  own_is = wire_generation w h.sound.stands (suc i) (omega arith)

  pub operation_is : (target_at start before).manager.operation ≡ w.target.manager.operation
  operation_is = ap (λ (m : Machine). m.operation) h.at.agrees.manager

  -- a reply that brings the ORB brings the one in the place
  module _ (calm : IsCalm before i) (none : NoneInjected before i) (in_place : IsInPlace start before i) (together : zero_of w ≡ own_of w i) (serial : ℕ) (sent : Sent) (found : found_sent serial w.store.kept ≡ Some sent) (zero_to : sent.to ≡ 0) (p : Packet) (label : LabelParts) (e : (judging_step w.target.layer sent.generation sent.bytes).0 ≡ of_response p label (Some purposes.Management)) (was : Operation) (is : w.target.manager.operation ≡ Some was) (phase : was.phase ≡ phases.Orb) (source : was.source ≡ id_in w i) (bytes : List ℕ) (answer : answer_in p ≡ Payload bytes) (underway : Underway) (has : (host_at before i).operation ≡ Some underway) (manages : is_management underway.operation ≡ true) (orb : was.orb ≡ start_of (windows.Management underway.place)) where
    pub brings_place : management_orb bytes ≡ orb_in_place before i underway.place
    brings_place =
        let of_it : was.source ≡ id_for (terms before) 0 (suc i) = source ∙ sym id_is in
        let read = asked_by_it units ready more_units start w h serial sent found zero_to p label e in
        ap management_orb
        (in_place.brings read serial underway bytes
        (record {
          op = was;
          operation = operation_is ∙ is;
          phase = phase;
          manages = manages_is units ready more_units start w h serial sent found zero_to p label e was is i of_it none calm;
          has = has;
          orb = orb;
        }) manages (zero_is ∙ (together ∙ sym own_is))
        (is_answered units ready more_units start w h serial sent found zero_to p label e was is i of_it none calm bytes answer))

-- ---- a turn
module _ (units ready : ℕ) (more_units : 0 < units) (start : List Disk) (past : List Moment) (s : Scene) (later : List Moment) (t : Scene) {lines more : ℕ} (g : Goes past s later t) (h : Holding units ready start past lines s.world) (h_now : Holding units ready start later more t.world) (i : ℕ) (inside : i < length s.world.initiators) (within : i < length t.world.initiators) (lasts : OperationsLast (hist later t.world) i) (managed : IsManaged start (hist later t.world) i) (cored : IsCored (hist later t.world) i (initiator_at t.world i)) (calm : IsCalm (hist past s.world) i) (none : NoneInjected (hist past s.world) i) (in_place : IsInPlace start (hist past s.world) i) (k : IsKept start (hist past s.world) i) where
  abbrev W : WorldState
  W = s.world

  abbrev V : WorldState
  V = t.world

  abbrev old_past : List Moment
  old_past = hist past W

  abbrev new_past : List Moment
  new_past = hist later V

  module _ (op : Operation) (underway : Underway) (is : V.target.manager.operation ≡ Some op) (source : op.source ≡ id_in V i) (together : zero_of V ≡ own_of V i) (has : (host_at new_past i).operation ≡ Some underway) (manages : is_management underway.operation ≡ true) (orb : op.orb ≡ start_of (windows.Management underway.place)) (unwritten : is_written op.phase ≡ false) where
    handling : IsHandling start new_past i underway.place op
    handling = record {
      same = zero_is units ready more_units start V h_now i within ∙ (together ∙ sym (own_is units ready more_units start V h_now i within));
      is = operation_is units ready more_units start V h_now i within ∙ is;
      source = source ∙ sym (id_is units ready more_units start V h_now i within);
      small = (lasts.each [] new_past refl underway has).small;
      orb = orb;
    }

    judged : 0 < (terms new_past).news underway.first
    judged =
        let own = handled start new_past i managed (λ (up : HasGivenUp new_past i). no_more (sym manages ∙ up.none underway has)) underway.place op handling unwritten in
        let same = same_Some own.taken.underway underway (sym own.taken.is ∙ has) in
        subst (λ (x : Underway). 0 < (terms new_past).news x.first) same own.taken.judged
      where
        no_more : true ≡ false → ⊥
        no_more e = cc

    was : WasUnderway old_past new_past i underway
    was = was_underway start past s later t g h i lasts underway has judged

    abbrev place : ℕ
    place = underway.place

    orb_same : orb_in_place new_past i place ≡ orb_in_place old_past i was.was.place
    orb_same = ap (λ held. management_orb (place_bytes held)) (was.places place) ∙ ap (λ n. orb_in_place old_past i n) was.same.place

    own_managed : is_management was.was.operation ≡ true
    own_managed = ap is_management (sym was.same.operation) ∙ manages

    at_place : op.orb ≡ start_of (windows.Management was.was.place)
    at_place = orb ∙ ap (λ n. start_of (windows.Management n)) was.same.place

    -- it was under way at the target with its ORB
    module _ (bus : SameBus i W V) where
      together_then : zero_of W ≡ own_of W i
      together_then = sym bus.zero ∙ (together ∙ bus.own)

      source_then : op.source ≡ id_in W i
      source_then = source ∙ bus.id

      kept_then : (old : Operation) → W.target.manager.operation ≡ Some old → old.source ≡ op.source → old.orb ≡ op.orb → KeepsIn old.phase (orb_in_place old_past i was.was.place)
      kept_then old there source_old orb_old =
          k.keeps old was.was (operation_is units ready more_units start W h i inside ∙ there) (source_old ∙ (source_then ∙ sym (id_is units ready more_units start W h i inside)))
          (zero_is units ready more_units start W h i inside ∙ (together_then ∙ sym (own_is units ready more_units start W h i inside))) was.is own_managed (orb_old ∙ at_place)

      as_now : KeepsIn op.phase (orb_in_place old_past i was.was.place) → KeepsIn op.phase (orb_in_place new_past i place)
      as_now x = subst (KeepsIn op.phase) (sym orb_same) x

      same_then : V.target.manager.operation ≡ W.target.manager.operation → KeepsIn op.phase (orb_in_place new_past i place)
      same_then e = as_now (kept_then op (sym e ∙ is) refl refl)

      by_read : (serial : ℕ) (sent : Sent) → found_sent serial W.store.kept ≡ Some sent → sent.to ≡ 0 → (p : Packet) (label : LabelParts) → (judging_step W.target.layer sent.generation sent.bytes).0 ≡ of_response p label (Some purposes.Management) → HasRead W.target.manager.operation (answer_in p) op → KeepsIn op.phase (orb_in_place new_past i place)
      by_read serial sent found zero_to p label e (kept old there source_old orb_old f) = as_now (f (orb_in_place old_past i was.was.place) (kept_then old there source_old orb_old))
      by_read serial sent found zero_to p label e (brought old there source_old orb_old phase bytes answer f) =
          as_now (subst (KeepsIn op.phase)
          (brings_place units ready more_units start W h i inside calm none in_place together_then serial sent found zero_to p label e old there phase (source_old ∙ source_then) bytes answer was.was was.is own_managed (orb_old ∙ at_place)) f)

      by_delivery : (serial : ℕ) (sent : Sent) → found_sent serial W.store.kept ≡ Some sent → sent.to ≡ 0 → (told : Option Told) (disks : List Disk) → (let now = (received told sent.generation sent.bytes (whole (scene W.target empty_outbox) disks)).1.node in V.target.manager.operation ≡ now.manager.operation → now.manager.operation ≡ Some op → HasOperation W.target sent.generation sent.bytes now op → KeepsIn op.phase (orb_in_place new_past i place))
      by_delivery serial sent found zero_to told disks left there (stays m l) = same_then (left ∙ ap (λ (x : Machine). x.operation) m)
      by_delivery serial sent found zero_to told disks left there (starts a l) = subst (λ (x : Phase). KeepsIn x (orb_in_place new_past i place)) (sym a.phase) tt
      by_delivery serial sent found zero_to told disks left there (replies p label f r) =
          by_read serial sent found zero_to p label f (delivery_read W.target (good units ready more_units start W h) (keeps units ready more_units start W h) told disks sent.generation sent.bytes p label f op there)

      by_call : TargetCall W (base_of g) V.fresh V.target → KeepsIn op.phase (orb_in_place new_past i place)
      by_call (still x told) = same_then (ap (λ (m : Machine). m.operation) (x.operation op is))
      by_call (delivers serial sent found zero_to told disks node notes first) =
          let there = sym (ap (λ (n : NodeState). n.manager.operation) node) ∙ is in
          by_delivery serial sent found zero_to told disks (ap (λ (n : NodeState). n.manager.operation) node) there (delivery_operation W.target (good units ready more_units start W h) (keeps units ready more_units start W h) sent.generation sent.bytes told disks op there)

    -- an initiator that saw a reset has none under way
    none_there : (initiator_at V i).operation ≡ None → ⊥
    none_there e = not_one (sym (ap work_of has) ∙ (ap (λ (c : Core). c.work) cored.cored.core ∙ ap work_in e))
      where
        not_one : work_of (Some underway) ≡ None → ⊥
        not_one e = cc

    by_turn : TurnOf i W (base_of g) V → KeepsIn op.phase (orb_in_place new_past i place)
    by_turn (by_target bus same call) = by_call bus call
    by_turn (by_clearing c same told) = absurd (c.none op is)
    by_turn (by_own bus same call away) = same_then bus (ap (λ (n : NodeState). n.manager.operation) same)
    by_turn (by_sight x same away) = absurd (none_there x.reset.none)

    kept_turned : KeepsIn op.phase (orb_in_place new_past i place)
    kept_turned = by_turn (goes_turned units ready more_units start past s later t g h i inside)

  pub kept_turn : IsKept start new_past i
  kept_turn = record {
    keeps = λ op underway is source together has manages orb.
        unwritten_or op.phase (orb_in_place new_past i underway.place)
        (λ unwritten. kept_turned op underway (sym (operation_is units ready more_units start V h_now i within) ∙ is) (source ∙ id_is units ready more_units start V h_now i within) (sym (zero_is units ready more_units start V h_now i within) ∙ (together ∙ own_is units ready more_units start V h_now i within)) has manages orb unwritten);
  }
