-- Each turn keeps it that, while a response of the operation under way is on its way, the management ORB that the target read last is the one in the place of that operation.
use Rattle.sbp_world.proofs.Words.Std.{◌≡◌, ◌∙◌, refl, sym, ap, subst, ℕ, suc, ◌<◌, true, false, List, [], ◌∷◌, ◌++◌, map, length, Option, Some, None, same_Some}
use Rattle.sbp_world.proofs.Words.Wire.{LabelParts, Packet, Finding, judging_step, of_response, Sent, found_sent, judged_note, Judged, empty_outbox, Moment, said, terms}
use Rattle.sbp_world.proofs.Words.Target.{Operation, Disk, Told, Purpose, NodeState, scene, answer_in, received, received_as, with_layer, Whole, whole}
use Rattle.sbp_world.proofs.Words.Initiator.{start_of, ManagementOrb, management_orb, Payload}
use Rattle.sbp_world.proofs.Words.Laws.{Underway, host_at, is_management, id_for, place_bytes, target_at}
use Rattle.sbp_world.proofs.Words.World.{NoneInjected, Core, work_in, work_of, Scene, WorldState, initiator_at, is_written, more_deliveries, HasIn, HasOrb, last_read, read_in, IsInPlace, IsKept, KeepsIn, orb_in_place, IsLastRead, HasGivenUp, IsHandling, IsManaged, IsCalm, OperationsLast, WasUnderway}
use Rattle.bus_memory.specs.declared.window.Window.TheVariants as windows
use Rattle.mgmt_agent.specs.declared.operation.Phase.{Phase}
use Rattle.mgmt_agent.specs.declared.operation.Phase.TheVariants as phases
use Rattle.mgmt_agent.specs.Machine.{Machine}
use Rattle.sbp_journal.specs.declared.cause.Judged.TheVariants as judgements
use Rattle.sbp_journal.specs.declared.note.Note.TheVariants as notes
use Rattle.sbp_target.specs.declared.purpose.Purpose.TheVariants as purposes
use Rattle.sbp_world.proofs.Agents.Management.Holding.{Holding}
use Rattle.sbp_world.proofs.Agents.Management.Still.{hist}
use Rattle.sbp_world.proofs.Lists.Courses.{Goes, by_delivery, by_end, by_line, by_start}
use Rattle.sbp_world.proofs.Lists.Judging.{goes_next}
use Rattle.sbp_world.proofs.Lists.KeptTurns.{brings_place, id_is, operation_is, own_is, was_underway, zero_is}
use Rattle.sbp_world.proofs.Lists.LastReads.{ReadsNone, all_behind_last, all_own_last, line_got, next_keeps}
use Rattle.sbp_world.proofs.Lists.LiveCalls.{HasOperation, delivery_operation, replies, starts, stays}
use Rattle.sbp_world.proofs.Lists.LiveReplies.{decides, reads, responds}
use Rattle.sbp_world.proofs.Lists.LiveRuns.{IsCored, base_of, goes_turned}
use Rattle.sbp_world.proofs.Lists.LiveSteps.{id_in, own_of, zero_of}
use Rattle.sbp_world.proofs.Lists.LiveTaken.{handled_going}
use Rattle.sbp_world.proofs.Lists.LiveTold.{TargetTold}
use Rattle.sbp_world.proofs.Lists.LiveTurns.{SameBus, TargetCall, TurnOf, by_clearing, by_own, by_sight, by_target, delivers, good, keeps, still}
use Rattle.sbp_world.proofs.Lists.OrbsCarried.{carried_orbs_law}
use Rattle.sbp_world.proofs.Lists.OrbsHeard.{read_then}
use Rattle.sbp_world.proofs.Common.{said_split}
use Rattle.sbp_world.proofs.Lists.InBufferTurns.{response_status}

written_no : {A : Type 0} (phase : Phase) (fifo : ℕ) → phase ≡ phases.Response fifo → is_written phase ≡ false → A
written_no phase fifo e f = absurd (let no : true ≡ false = sym (ap is_written e) ∙ f in cc)

response_orb : {A : Type 0} (phase : Phase) (fifo : ℕ) → phase ≡ phases.Response fifo → phase ≡ phases.Orb → A
response_orb phase fifo e f = absurd (let no : phases.Response fifo ≡ phases.Orb = sym e ∙ f in cc)

-- an answer to the management is got
got_judged : (told : Option Told) (generation : ℕ) (bytes : List ℕ) (w : Whole) (p : Packet) (label : LabelParts) → (judging_step w.node.layer generation bytes).0 ≡ of_response p label (Some purposes.Management) → (received told generation bytes w).0 ≡ judgements.Got
unfolding received
got_judged told generation bytes w p label e = ap (λ (f : Finding Purpose). (received_as told bytes f (with_layer (judging_step w.node.layer generation bytes).1 w)).0) e

-- ---- the notes of a delivery to the target
-- the history behind which they stand
base_got : (start : List Disk) (serial : ℕ) (past : List Moment) (s : Scene) (later : List Moment) (t : Scene) (g : Goes past s later t) → last_read start (said (notes.Got serial) ∷ (map said (base_of g) ++ later)) ≡ last_read start (said (notes.Got serial) ∷ hist past s.world)
base_got start serial past s later t (by_line past0 s0 line event told one fit may) = line_got start serial line event (hist past s.world)
base_got start serial past s later t (by_start past0 s0 line most) = line_got start serial line (more_deliveries most) (hist past s.world)
base_got start serial past s later t (by_delivery past0 s0 one may no_act) = refl
base_got start serial past s later t (by_end past0 s0 done) = refl

module _ (start : List Disk) (past : List Moment) (s : Scene) (later : List Moment) (t : Scene) (g : Goes past s later t) (serial : ℕ) where
  pub told_got : (told : TargetTold (base_of g) t.world.fresh) → told.first ≡ notes.Got serial ∷ [] → last_read start (hist later t.world) ≡ last_read start (said (notes.Got serial) ∷ hist past s.world)
  told_got told first =
      let base = base_of g in
      ap (λ ns. last_read start (map said ns ++ later)) told.is
      ∙ (ap (last_read start) (said_split told.sends (told.told ++ (told.first ++ base)) later)
      ∙ (all_own_last start told.sends (map said (told.told ++ (told.first ++ base)) ++ later) told.are_sent
      ∙ (ap (last_read start) (said_split told.told (told.first ++ base) later)
      ∙ (all_behind_last start told.told (map said (told.first ++ base) ++ later) told.are_told
      ∙ (ap (λ ns. last_read start (map said (ns ++ base) ++ later)) first
      ∙ base_got start serial past s later t g)))))

-- ---- a turn
module _ (units ready : ℕ) (more_units : 0 < units) (start : List Disk) (past : List Moment) (s : Scene) (later : List Moment) (t : Scene) {lines more : ℕ} (g : Goes past s later t) (h : Holding units ready start past lines s.world) (h_now : Holding units ready start later more t.world) (i : ℕ) (inside : i < length s.world.initiators) (within : i < length t.world.initiators) (lasts : OperationsLast (hist later t.world) i) (managed : IsManaged start (hist later t.world) i) (cored : IsCored (hist later t.world) i (initiator_at t.world i)) (calm : IsCalm (hist past s.world) i) (none : NoneInjected (hist past s.world) i) (in_place : IsInPlace start (hist past s.world) i) (k : IsKept start (hist past s.world) i) (l : IsLastRead start (hist past s.world) i) where
  abbrev W : WorldState
  W = s.world

  abbrev V : WorldState
  V = t.world

  abbrev old_past : List Moment
  old_past = hist past W

  abbrev new_past : List Moment
  new_past = hist later V

  module _ (op : Operation) (fifo : ℕ) (underway : Underway) (is : V.target.manager.operation ≡ Some op) (phase : op.phase ≡ phases.Response fifo) (source : op.source ≡ id_in V i) (together : zero_of V ≡ own_of V i) (has : (host_at new_past i).operation ≡ Some underway) (manages : is_management underway.operation ≡ true) (orb : op.orb ≡ start_of (windows.Management underway.place)) where
    handling : IsHandling start new_past i underway.place op
    handling = record {
      same = zero_is units ready more_units start V h_now i within ∙ (together ∙ sym (own_is units ready more_units start V h_now i within));
      is = operation_is units ready more_units start V h_now i within ∙ is;
      source = source ∙ sym (id_is units ready more_units start V h_now i within);
      small = (lasts.each [] new_past refl underway has).small;
      orb = orb;
    }

    judged : 0 < (terms new_past).news underway.first
    judged =
        let own = handled_going start new_past i managed (λ (up : HasGivenUp new_past i). no_more (sym manages ∙ up.none underway has)) underway.place op handling (λ e. response_status op.phase fifo phase e) in
        let same = same_Some own.taken.underway underway (sym own.taken.is ∙ has) in
        subst (λ (x : Underway). 0 < (terms new_past).news x.first) same own.taken.judged
      where
        no_more : true ≡ false → ⊥
        no_more e = cc

    was : WasUnderway old_past new_past i underway
    was = was_underway start past s later t g h i lasts underway has judged

    abbrev place : ℕ
    place = underway.place

    orb_same : orb_in_place new_past i place ≡ orb_in_place old_past i was.was.place
    orb_same = ap (λ held. management_orb (place_bytes held)) (was.places place) ∙ ap (λ n. orb_in_place old_past i n) was.same.place

    own_managed : is_management was.was.operation ≡ true
    own_managed = ap is_management (sym was.same.operation) ∙ manages

    at_place : op.orb ≡ start_of (windows.Management was.was.place)
    at_place = orb ∙ ap (λ n. start_of (windows.Management n)) was.same.place

    -- it was under way at the target
    module _ (bus : SameBus i W V) where
      together_then : zero_of W ≡ own_of W i
      together_then = sym bus.zero ∙ (together ∙ bus.own)

      source_then : op.source ≡ id_in W i
      source_then = source ∙ bus.id

      wire_then : (terms old_past).generation 0 ≡ (terms old_past).generation (suc i)
      wire_then = zero_is units ready more_units start W h i inside ∙ (together_then ∙ sym (own_is units ready more_units start W h i inside))

      module _ (old : Operation) (there : W.target.manager.operation ≡ Some old) (source_old : old.source ≡ op.source) (orb_old : old.orb ≡ op.orb) where
        there_then : (target_at start old_past).manager.operation ≡ Some old
        there_then = operation_is units ready more_units start W h i inside ∙ there

        id_then : old.source ≡ id_for (terms old_past) 0 (suc i)
        id_then = source_old ∙ (source_then ∙ sym (id_is units ready more_units start W h i inside))

        -- with what it had read
        stays_last : ReadsNone old → last_read start old_past ≡ orb_in_place old_past i was.was.place → last_read start new_past ≡ orb_in_place new_past i place
        stays_last f e = next_keeps start old_past new_past (goes_next past s later t g) old there_then f ∙ (e ∙ sym orb_same)

        had_last : (at : ℕ) → old.phase ≡ phases.Response at → last_read start new_past ≡ orb_in_place new_past i place
        had_last at e =
            stays_last (λ answer x. ap (λ (y : Phase). read_in y answer x) e)
            (l.last old at there_then e id_then wire_then was.was was.is own_managed (orb_old ∙ at_place))

        -- it is decided as the ORB comes, or behind an EUI-64
        kept_then : KeepsIn old.phase (orb_in_place old_past i was.was.place)
        kept_then = k.keeps old was.was there_then id_then wire_then was.is own_managed (orb_old ∙ at_place)

        carried : HasIn old.phase (target_at start old_past).decided (last_read start old_past)
        carried = subst (λ o. HasOrb o (target_at start old_past).decided (last_read start old_past)) there_then (carried_orbs_law start old_past)

        high_last : (own : ManagementOrb) → old.phase ≡ phases.HighEui own → last_read start new_past ≡ orb_in_place new_past i place
        high_last own e =
            stays_last (λ answer x. ap (λ (y : Phase). read_in y answer x) e)
            (sym (subst (λ (y : Phase). HasIn y (target_at start old_past).decided (last_read start old_past)) e carried) ∙ subst (λ (y : Phase). KeepsIn y (orb_in_place old_past i was.was.place)) e kept_then)

        low_last : (own : ManagementOrb) (high : ℕ) → old.phase ≡ phases.LowEui own high → last_read start new_past ≡ orb_in_place new_past i place
        low_last own high e =
            stays_last (λ answer x. ap (λ (y : Phase). read_in y answer x) e)
            (sym (subst (λ (y : Phase). HasIn y (target_at start old_past).decided (last_read start old_past)) e carried) ∙ subst (λ (y : Phase). KeepsIn y (orb_in_place old_past i was.was.place)) e kept_then)

        module _ (serial : ℕ) (sent : Sent) (found : found_sent serial W.store.kept ≡ Some sent) (zero_to : sent.to ≡ 0) (told : Option Told) (disks : List Disk) (notes_told : TargetTold (base_of g) V.fresh) (first : notes_told.first ≡ judged_note serial (received told sent.generation sent.bytes (whole (scene W.target empty_outbox) disks)).0 ∷ []) (p : Packet) (label : LabelParts) (e : (judging_step W.target.layer sent.generation sent.bytes).0 ≡ of_response p label (Some purposes.Management)) (bytes : List ℕ) (pays : answer_in p ≡ Payload bytes) where
          orb_last : old.phase ≡ phases.Orb → last_read start new_past ≡ orb_in_place new_past i place
          orb_last f =
              let got = got_judged told sent.generation sent.bytes (whole (scene W.target empty_outbox) disks) p label e in
              told_got start past s later t g serial notes_told (first ∙ ap (λ (j : Judged). judged_note serial j ∷ []) got)
              ∙ (read_then units ready more_units start W h serial sent found zero_to p label e old there i id_then none calm f bytes pays
              ∙ (brings_place units ready more_units start W h i inside calm none in_place together_then serial sent found zero_to p label e old there f (source_old ∙ source_then) bytes pays was.was was.is own_managed (orb_old ∙ at_place)
              ∙ sym orb_same))

          decided_last : (x : Phase) → old.phase ≡ x → is_written old.phase ≡ false → last_read start new_past ≡ orb_in_place new_past i place
          decided_last phases.Orb f u = orb_last f
          decided_last (phases.HighEui own) f u = high_last own f
          decided_last (phases.LowEui own high) f u = low_last own high f
          decided_last (phases.Response at) f u = written_no old.phase at f u
          decided_last phases.Status f u = absurd (let no : true ≡ false = sym (ap is_written f) ∙ u in cc)

      same_then : V.target.manager.operation ≡ W.target.manager.operation → last_read start new_past ≡ orb_in_place new_past i place
      same_then e = had_last op (sym e ∙ is) refl refl fifo phase

      by_delivery_of : (serial : ℕ) (sent : Sent) → found_sent serial W.store.kept ≡ Some sent → sent.to ≡ 0 → (told : Option Told) (disks : List Disk) → (let x = received told sent.generation sent.bytes (whole (scene W.target empty_outbox) disks) in V.target.manager.operation ≡ x.1.node.manager.operation → (notes_told : TargetTold (base_of g) V.fresh) → notes_told.first ≡ judged_note serial x.0 ∷ [] → HasOperation W.target sent.generation sent.bytes x.1.node op → last_read start new_past ≡ orb_in_place new_past i place)
      by_delivery_of serial sent found zero_to told disks left notes_told first (stays m logins) = same_then (left ∙ ap (λ (x : Machine). x.operation) m)
      by_delivery_of serial sent found zero_to told disks left notes_told first (starts a logins) = response_orb op.phase fifo phase a.phase
      by_delivery_of serial sent found zero_to told disks left notes_told first (replies p label f (reads old there source_old before now logins)) = written_no op.phase fifo phase now
      by_delivery_of serial sent found zero_to told disks left notes_told first (replies p label f (responds old there source_old orb_old at before failure now out logins)) = response_status op.phase fifo phase now
      by_delivery_of serial sent found zero_to told disks left notes_told first (replies p label f (decides d source_old orb_old now out)) =
          decided_last d.was d.is source_old orb_old serial sent found zero_to told disks notes_told first p label f d.bytes d.pays d.was.phase refl d.unwritten

      by_call : TargetCall W (base_of g) V.fresh V.target → last_read start new_past ≡ orb_in_place new_past i place
      by_call (still x told) = same_then (ap (λ (m : Machine). m.operation) (x.operation op is))
      by_call (delivers serial sent found zero_to told disks node notes_told first) =
          by_delivery_of serial sent found zero_to told disks (ap (λ (n : NodeState). n.manager.operation) node) notes_told first
          (delivery_operation W.target (good units ready more_units start W h) (keeps units ready more_units start W h) sent.generation sent.bytes told disks op (sym (ap (λ (n : NodeState). n.manager.operation) node) ∙ is))

    -- an initiator that saw a reset has none under way
    none_there : (initiator_at V i).operation ≡ None → ⊥
    none_there e = not_one (sym (ap work_of has) ∙ (ap (λ (c : Core). c.work) cored.cored.core ∙ ap work_in e))
      where
        not_one : work_of (Some underway) ≡ None → ⊥
        not_one e = cc

    by_turn : TurnOf i W (base_of g) V → last_read start new_past ≡ orb_in_place new_past i place
    by_turn (by_target bus same call) = by_call bus call
    by_turn (by_clearing c same told) = absurd (c.none op is)
    by_turn (by_own bus same call away) = same_then bus (ap (λ (n : NodeState). n.manager.operation) same)
    by_turn (by_sight x same away) = absurd (none_there x.reset.none)

    read_turned : last_read start new_past ≡ orb_in_place new_past i place
    read_turned = by_turn (goes_turned units ready more_units start past s later t g h i inside)

  pub read_turn : IsLastRead start new_past i
  read_turn = record {
    last = λ op fifo is phase source together underway has manages orb.
        read_turned op fifo underway (sym (operation_is units ready more_units start V h_now i within) ∙ is) phase (source ∙ id_is units ready more_units start V h_now i within) (sym (zero_is units ready more_units start V h_now i within) ∙ (together ∙ own_is units ready more_units start V h_now i within)) has manages orb;
  }
