-- At each turn the target writes no response of an operation of an initiator that ends lists.
use Rattle.sbp_world.proofs.Words.Std.{arith, ◌≡◌, ◌∙◌, refl, sym, ap, subst, ℕ, zero, suc, ◌<◌, true, false, List, length, Option, Some, None}
use Rattle.sbp_world.proofs.Words.Wire.{LabelParts, Packet, judging_step, of_response, Sent, found_sent, Word, empty_outbox, Moment, terms}
use Rattle.sbp_world.proofs.Words.Target.{Operation, Table, Disk, Told, NodeState, scene, answer_in, received, whole}
use Rattle.sbp_world.proofs.Words.Initiator.{start_of}
use Rattle.sbp_world.proofs.Words.Laws.{cuts_list, Underway, host_at, is_management}
use Rattle.sbp_world.proofs.Words.World.{NoneInjected, Core, work_in, work_of, Scene, WorldState, initiator_at, is_written, IsInPlace, IsKept, IsHandling, IsManaged, IsCalm, HasShortOrb, IsSilent, AreUnderway, OperationsLast, WasUnderway}
use Rattle.bus_memory.specs.declared.window.Window.TheVariants as windows
use Rattle.mgmt_agent.specs.declared.operation.Phase.{Phase}
use Rattle.mgmt_agent.specs.declared.operation.Phase.TheVariants as phases
use Rattle.mgmt_agent.specs.Machine.{Machine}
use Rattle.sbp_target.specs.declared.purpose.Purpose.TheVariants as purposes
use Rattle.sbp_world.proofs.Agents.Management.Holding.{Holding}
use Rattle.sbp_world.proofs.Agents.Management.Still.{hist}
use Rattle.sbp_world.proofs.Lists.Courses.{Goes}
use Rattle.sbp_world.proofs.Lists.KeptBrings.{brings}
use Rattle.sbp_world.proofs.Lists.KeptTurns.{id_is, operation_is, own_is, was_underway, zero_is}
use Rattle.sbp_world.proofs.Lists.LiveCalls.{HasOperation, delivery_operation, replies, starts, stays}
use Rattle.sbp_world.proofs.Lists.LiveReplies.{IsDecidedOn, Replied, decides, reads, responds}
use Rattle.sbp_world.proofs.Lists.LiveRuns.{IsCored, base_of, goes_turned}
use Rattle.sbp_world.proofs.Lists.LiveSteps.{id_in, own_of, zero_of}
use Rattle.sbp_world.proofs.Lists.LiveTurns.{SameBus, TargetCall, TurnOf, by_clearing, by_own, by_sight, by_target, delivers, good, keeps, still}
use Rattle.sbp_world.proofs.Lists.OpenedOrbs.{EndsLists, place_ends}
use Rattle.sbp_world.proofs.Lists.SilenceDecides.{ends_quiet}
use Rattle.sbp_world.proofs.Common.{untrue}

-- a phase that writes a response is no other
no_status : {A : Type 0} (fifo : ℕ) (phase : Phase) → phase ≡ phases.Response fifo → phase ≡ phases.Status → A
no_status fifo phase e f = absurd (differ (sym e ∙ f))
  where
    differ : phases.Response fifo ≡ phases.Status → ⊥
    differ e = cc

no_orb : {A : Type 0} (fifo : ℕ) (phase : Phase) → phase ≡ phases.Response fifo → phase ≡ phases.Orb → A
no_orb fifo phase e f = absurd (differ (sym e ∙ f))
  where
    differ : phases.Response fifo ≡ phases.Orb → ⊥
    differ e = cc

no_unwritten : {A : Type 0} (fifo : ℕ) (phase : Phase) → phase ≡ phases.Response fifo → is_written phase ≡ false → A
no_unwritten fifo phase e f = untrue (sym f ∙ ap is_written e)

-- ---- a turn
module _ (units ready : ℕ) (more_units : 0 < units) (start : List Disk) (past : List Moment) (s : Scene) (later : List Moment) (t : Scene) {lines more : ℕ} (g : Goes past s later t) (h : Holding units ready start past lines s.world) (h_now : Holding units ready start later more t.world) (i : ℕ) (inside : i < length s.world.initiators) (within : i < length t.world.initiators) (lasts : OperationsLast (hist later t.world) i) (managed : IsManaged start (hist later t.world) i) (cored : IsCored (hist later t.world) i (initiator_at t.world i)) (small : (underway : Underway) → (host_at (hist later t.world) i).operation ≡ Some underway → underway.place < 2) (calm : IsCalm (hist past s.world) i) (none : NoneInjected (hist past s.world) i) (in_place : IsInPlace start (hist past s.world) i) (kept : IsKept start (hist past s.world) i) (underway_then : AreUnderway (hist past s.world) i) (short : HasShortOrb (hist past s.world) i) (k : IsSilent start (hist past s.world) i) where
  abbrev W : WorldState
  W = s.world

  abbrev V : WorldState
  V = t.world

  abbrev old_past : List Moment
  old_past = hist past W

  abbrev new_past : List Moment
  new_past = hist later V

  module _ (op : Operation) (fifo : ℕ) (underway : Underway) (is : V.target.manager.operation ≡ Some op) (phase : op.phase ≡ phases.Response fifo) (source : op.source ≡ id_in V i) (together : zero_of V ≡ own_of V i) (has : (host_at new_past i).operation ≡ Some underway) (manages : is_management underway.operation ≡ true) (cuts : cuts_list (Some underway.operation) ≡ true) (orb : op.orb ≡ start_of (windows.Management underway.place)) where
    handling : IsHandling start new_past i underway.place op
    handling = record {
      same = zero_is units ready more_units start V h_now i within ∙ (together ∙ sym (own_is units ready more_units start V h_now i within));
      is = operation_is units ready more_units start V h_now i within ∙ is;
      source = source ∙ sym (id_is units ready more_units start V h_now i within);
      small = small underway has;
      orb = orb;
    }

    judged : 0 < (terms new_past).news underway.first
    judged = by ((terms new_past).news underway.first) refl
      where
        by : (n : ℕ) → (terms new_past).news underway.first ≡ n → 0 < (terms new_past).news underway.first
        by zero e = no_status fifo op.phase phase (((managed.busy underway has manages).waiting e).over underway.place op handling).0
        by (suc n) e = omega (arith, e)

    was : WasUnderway old_past new_past i underway
    was = was_underway start past s later t g h i lasts underway has judged

    own_managed : is_management was.was.operation ≡ true
    own_managed = ap is_management (sym was.same.operation) ∙ manages

    own_cuts : cuts_list (Some was.was.operation) ≡ true
    own_cuts = ap (λ (o : Word). cuts_list (Some o)) (sym was.same.operation) ∙ cuts

    at_place : op.orb ≡ start_of (windows.Management was.was.place)
    at_place = orb ∙ ap (λ n. start_of (windows.Management n)) was.same.place

    module _ (bus : SameBus i W V) where
      together_then : zero_of W ≡ own_of W i
      together_then = sym bus.zero ∙ (together ∙ bus.own)

      source_then : op.source ≡ id_in W i
      source_then = source ∙ bus.id

      -- it was not so before
      same_then : V.target.manager.operation ≡ W.target.manager.operation → ⊥
      same_then e =
          k.none op fifo was.was (operation_is units ready more_units start W h i inside ∙ (sym e ∙ is)) phase (source_then ∙ sym (id_is units ready more_units start W h i inside))
          (zero_is units ready more_units start W h i inside ∙ (together_then ∙ sym (own_is units ready more_units start W h i inside))) was.is own_managed own_cuts at_place

      -- nor by a reply
      module _ (serial : ℕ) (sent : Sent) (found : found_sent serial W.store.kept ≡ Some sent) (zero_to : sent.to ≡ 0) (p : Packet) (label : LabelParts) (e : (judging_step W.target.layer sent.generation sent.bytes).0 ≡ of_response p label (Some purposes.Management)) where
        ends : {left : Table} (d : IsDecidedOn W.target.manager W.target.logins W.target.keys (answer_in p) left) → d.was.source ≡ op.source → d.was.orb ≡ op.orb → EndsLists d.on.orb
        ends {left} d of_it at =
            let is_orb =
            brings units ready more_units start W h i inside calm none in_place kept together_then serial sent found zero_to p label e left d (of_it ∙ source_then) was.was was.is own_managed (at ∙ at_place)
            in subst EndsLists (sym is_orb) (place_ends old_past i was.was (underway_then was.was was.is) own_managed own_cuts (short was.was was.is))

        by_reply : {m : Machine} {left : Table} → Replied W.target.manager W.target.logins W.target.keys (answer_in p) m left op → ⊥
        by_reply (reads old there of_it before now l) = no_unwritten fifo op.phase phase now
        by_reply (responds old there of_it at own p wrote now o l) = no_status fifo op.phase phase now
        by_reply (decides d of_it at now first) =
            untrue (sym (first.response fifo phase).1 ∙ ends_quiet d.on.orb d.on.source d.on.eui W.target.logins W.target.keys (ends d of_it at))

      by_delivery : (serial : ℕ) (sent : Sent) → found_sent serial W.store.kept ≡ Some sent → sent.to ≡ 0 → (told : Option Told) (disks : List Disk) → (let now = (received told sent.generation sent.bytes (whole (scene W.target empty_outbox) disks)).1.node in V.target.manager.operation ≡ now.manager.operation → HasOperation W.target sent.generation sent.bytes now op → ⊥)
      by_delivery serial sent found zero_to told disks left (stays m l) = same_then (left ∙ ap (λ (x : Machine). x.operation) m)
      by_delivery serial sent found zero_to told disks left (starts a l) = no_orb fifo op.phase phase a.phase
      by_delivery serial sent found zero_to told disks left (replies p label f r) = by_reply serial sent found zero_to p label f r

      by_call : TargetCall W (base_of g) V.fresh V.target → ⊥
      by_call (still x told) = same_then (ap (λ (m : Machine). m.operation) (x.operation op is))
      by_call (delivers serial sent found zero_to told disks node notes first) =
          let there = sym (ap (λ (n : NodeState). n.manager.operation) node) ∙ is in
          by_delivery serial sent found zero_to told disks (ap (λ (n : NodeState). n.manager.operation) node) (delivery_operation W.target (good units ready more_units start W h) (keeps units ready more_units start W h) sent.generation sent.bytes told disks op there)

    -- an initiator that saw a reset has none under way
    none_there : (initiator_at V i).operation ≡ None → ⊥
    none_there e = not_one (sym (ap work_of has) ∙ (ap (λ (c : Core). c.work) cored.cored.core ∙ ap work_in e))
      where
        not_one : work_of (Some underway) ≡ None → ⊥
        not_one e = cc

    by_turn : TurnOf i W (base_of g) V → ⊥
    by_turn (by_target bus same call) = by_call bus call
    by_turn (by_clearing c same told) = c.none op is
    by_turn (by_own bus same call away) = same_then bus (ap (λ (n : NodeState). n.manager.operation) same)
    by_turn (by_sight x same away) = none_there x.reset.none

    silent_turned : ⊥
    silent_turned = by_turn (goes_turned units ready more_units start past s later t g h i inside)

  pub silent_turn : IsSilent start new_past i
  silent_turn = record {
    none = λ op fifo underway is phase source together has manages cuts orb.
        silent_turned op fifo underway (sym (operation_is units ready more_units start V h_now i within) ∙ is) phase (source ∙ id_is units ready more_units start V h_now i within) (sym (zero_is units ready more_units start V h_now i within) ∙ (together ∙ own_is units ready more_units start V h_now i within)) has manages cuts orb;
  }
