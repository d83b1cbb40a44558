-- While an initiator is ahead of the target, that its open list is the latest one is all that is needed of it: in every run its ORBs stand in their slots.
-- Of a list whose write waits nothing of this kind is needed.
use Rattle.sbp_world.proofs.Words.Std.{arith, ◌≡◌, refl, subst, ℕ, suc, ◌<◌, ◌≤◌, List, [], ◌∷◌, ◌++◌, map, length, Option, Some, None}
use Rattle.sbp_world.proofs.Words.Wire.{Moment, asked, said, Sending, terms}
use Rattle.sbp_world.proofs.Words.Target.{Told}
use Rattle.sbp_world.proofs.Words.Laws.{linked, taken_at, appends, ends, lists}
use Rattle.sbp_world.proofs.Words.World.{history_of, Run, after, beginning, MayAll, after_all, Scene, WorldState, begun, IsRun, more_deliveries, MomentsLaw, PointersLaw, pointed_list, JoinedLaw, AreLast, LastLaw, AreNamed, IsCalm, ArePlaced, AreWaiting, IsPlaced, IsStanding, ListedLaw}
use Rattle.sbp_world.proofs.Hosts.Lasting.{lasting_law}
use Rattle.sbp_world.proofs.Hosts.Runs.{count_after, count_between}
use Rattle.sbp_world.proofs.Lists.JoinLaws.{begins_after, begins_between, rises_after, rises_between}
use Rattle.sbp_world.proofs.Lists.JoinRuns.{waits_latest}
use Rattle.sbp_world.proofs.Lists.Naming.{names_law}
use Rattle.sbp_world.proofs.Common.{delivers}

module _ (past : List Moment) (w : WorldState) (names : AreNamed past w) (within : (i n : ℕ) → i < length w.initiators → linked past i n ≤ appends past i n) (waits : (i : ℕ) → i < length w.initiators → IsCalm past i → (serial n : ℕ) (sent : Sending) → (terms past).sent serial ≡ Some sent → pointed_list past serial i ≡ Some n → sent.generation ≡ (terms past).generation 0 → (terms past).news serial ≡ 0 → suc n ≡ lists past i) where
  stands : (i n : ℕ) → i < length w.initiators → ((m k : ℕ) → ends past i m ≤ k → taken_at past i m k ≡ None) → suc n ≡ lists past i → IsStanding past i n
  stands i n inside taken latest = record {
    latest = latest;
    stands = λ k e f.
        let h = within i n inside in
        let s = names.stands i n k latest (omega (arith, f, h)) (taken n k e) in
        record { small = s.small; is = s.last };
  }

  pub are_placed : AreLast past w → ArePlaced past w
  are_placed last i inside calm =
      let o = (last i inside calm).0 in
      let s = (last i inside calm).1 in
      let placed : IsPlaced past w i = record {
        named = o.named;
        present = o.present;
        ahead = λ place n b l same g e. stands i n inside o.taken (o.ahead place n b l same g e);
        taken = o.taken;
      } in
      let waiting : AreWaiting past i = record {
        first = s.first;
        waiting = λ serial n sent e f g h.
            let x = s.waiting serial n sent e f g h in
            record { none = x.none; ahead = λ a. stands i n inside o.taken (waits i inside calm serial n sent e f g h) };
      } in
      (placed, waiting)

-- ---- runs

module _ (pointers : PointersLaw) (moments : MomentsLaw) (joined : JoinedLaw) (line : ℕ) (run : Run) (r : IsRun run) (has : 0 < run.units) (small : run.units ≤ 4) (size : length run.start.disks ≡ run.units) where
  abbrev last : Scene
  last = after (beginning run) run.entries

  inside : (i : ℕ) → i < length last.world.initiators → i < run.initiators
  inside i b = subst (λ n. i < n) (count_after run run.entries) b

  last_after : AreLast (history_of line run) last.world → (let w = last.world in ArePlaced (history_of line run) w)
  last_after l =
      are_placed (history_of line run) last.world (names_law.after_lines line run r has small size)
      (λ i n b. (lasting_law.lasts line run r i (inside i b) [] (history_of line run) refl).linked_in n)
      (λ i b. waits_latest (history_of line run) i (begins_after joined line run has small size r i (inside i b)) (rises_after joined line run has small size r) (moments.after_lines line run r i (inside i b)) (pointers.after_lines line run r i (inside i b))) l

  module _ (next : ℕ) (most : Option ℕ) (told : List (Option Told)) (m : MayAll told (begun last)) where
    abbrev end : WorldState
    end = (after_all told (begun last)).world

    abbrev now : List Moment
    now = map said end.fresh ++ asked next (more_deliveries most) ∷ history_of line run

    last_between : AreLast now end → ArePlaced now end
    last_between l =
        are_placed now end (names_law.between line run r has small size next (more_deliveries most) (delivers most) told m)
        (λ i n b. (lasting_law.between line run r next most told m i (inside i (subst (λ k. i < k) (count_between told last) b)) [] now refl).linked_in n)
        (λ i b. let c = inside i (subst (λ k. i < k) (count_between told last) b) in waits_latest now i (begins_between joined line run has small size r next most told m i c) (rises_between joined line run has small size r next most told m) (moments.between line run r next most told m i c) (pointers.between line run r next most told m i c)) l

pub last_law : ListedLaw → PointersLaw → MomentsLaw → JoinedLaw → LastLaw
last_law law pointers moments joined = record {
  after_lines = λ line run r has small size l. law.after_lines line run r has small size (last_after pointers moments joined line run r has small size l);
  between = λ line run r has small size next most told m l. law.between line run r has small size next most told m (last_between pointers moments joined line run r has small size next most told m l);
}
