-- At each place of every run what is left is no less than the packets in flight; and where nobody injected packets, there is an initiator, and the run is lossless there, it is no more than the
-- budget of the deliveries that may follow.
use Rattle.sbp_world.proofs.Words.Std.{arith, ◌≡◌, ◌∙◌, refl, subst, inl, ℕ, ◌<◌, ◌≤◌, nat_lt, Bool, true, false, List, ◌∷◌, ◌++◌, map, length, None, nat_tests}
use Rattle.sbp_world.proofs.Words.Wire.{Moment, asked, flying, said}
use Rattle.sbp_world.proofs.Words.Target.{Disk}
use Rattle.sbp_world.proofs.Words.Laws.{EachMoment, ends, initiators, taken_at}
use Rattle.sbp_world.proofs.Words.World.{Always, AreUntaken, BasedAt, IsTame, WorldState, after, after_all, beginning, begun, history_of, more_deliveries}
use Rattle.sbp_laws.specs.Completion.{in_the_air}
use Rattle.sbp_world.specs.Counting.Asking.{AsksOnce}
use Rattle.sbp_world.specs.Counting.Left.{left}
use Rattle.sbp_world.proofs.FitInitiator.Law.{fitting_law as own_fitting_law}
use Rattle.sbp_world.proofs.FitTarget.Law.{fitting_law}
use Rattle.sbp_world.proofs.Counting.AskingRuns.{asks_once_law}
use Rattle.sbp_world.proofs.Counting.Places.{IsPlace, places_law}
use Rattle.sbp_world.proofs.Counting.StartCounted.{counted_after, counted_between, none_taken_after, none_taken_between}
use Rattle.sbp_world.proofs.Counting.StartLeft.{AtStart, flights_are_left}
use Rattle.sbp_world.proofs.Counting.StartManaging.{AreKept}
use Rattle.sbp_world.proofs.Counting.StartPlaces.{are_flown, are_held, are_kept}
use Rattle.sbp_world.proofs.Counting.Worked.{are_working}
use Rattle.sbp_world.proofs.Hosts.Between.{stands_there}
use Rattle.sbp_world.proofs.Hosts.Runs.{count_after, count_between}
use Rattle.sbp_world.proofs.Lists.Beside.{done_based}
use Rattle.sbp_world.proofs.Lists.Clauses.{open_lists_law}
use Rattle.sbp_world.proofs.Lists.Courses.{more_than_one}
use Rattle.sbp_world.proofs.Lists.DataLaws.{untaken_by}
use Rattle.sbp_world.proofs.Lists.ListsProved.{closing}
use Rattle.sbp_world.proofs.Lists.LiveLogins.{logins_known}
use Rattle.sbp_world.proofs.Lists.PlacedRuns.{WroteAll, wrote_everywhere}
use Rattle.sbp_world.proofs.Lists.ShortLines.{short_law}
use Rattle.sbp_world.proofs.Lists.UnderwayRuns.{delivering}
use Rattle.sbp_world.proofs.Wire.Runs.{sound_after}

-- ---- the packets
record AreAloft (now : List Moment) (w : WorldState) : Type 0 where
  kept : AreKept now w
  flown : in_the_air now ≡ length (flying w.store.kept)

aloft_law : Always AreAloft
aloft_law = record {
  after_lines = λ line run r has small size.
      let w = (after (beginning run) run.entries).world in
      let b = sound_after fitting_law own_fitting_law line run run.entries r.few r.short r.entries r.lines in
      subst (λ ms. AreAloft ms w) b.is (record { kept = are_kept w b.sound.stands; flown = are_flown w b.sound.stands });
  between = λ line run r has small size next most told m.
      let w = (after_all told (begun (after (beginning run) run.entries))).world in
      let b = stands_there line run r next (more_deliveries most) told (delivering told most) m in
      subst (λ ms. AreAloft ms w) b.is (record { kept = are_kept w b.sound.stands; flown = are_flown w b.sound.stands });
}

pub flights_law : Always (λ now w. in_the_air now ≤ left now w)
flights_law = record {
  after_lines = λ line run r has small size.
      flights_are_left (history_of line run) (after (beginning run) run.entries).world (aloft_law.after_lines line run r has small size).flown;
  between = λ line run r has small size next most told m.
      let w = (after_all told (begun (after (beginning run) run.entries))).world in
      flights_are_left (map said w.fresh ++ asked next (more_deliveries most) ∷ history_of line run) w (aloft_law.between line run r has small size next most told m).flown;
}

-- ---- the statuses
abbrev NoneTaken : List Moment → Type 0
NoneTaken now = (i n k : ℕ) → ends now i n ≤ k → taken_at now i n k ≡ None

none_taken : (now : List Moment) (w : WorldState) (initiators : ℕ) → length w.initiators ≡ initiators → IsTame now → AreUntaken now w → ((i n k : ℕ) → initiators ≤ i → taken_at now i n k ≡ None) → NoneTaken now
none_taken now w initiators size tame own others i n k low = by (nat_lt i (length w.initiators)) refl
  where
    by : (b : Bool) → nat_lt i (length w.initiators) ≡ b → taken_at now i n k ≡ None
    by true e = own i (grind (arith, nat_tests)) (tame i) n k low
    by false e = others i n k (let z : length w.initiators ≤ i = grind (arith, nat_tests) in omega (arith, size, z))

-- ---- the start
-- what the initiators of a run have of it
record AreInitiators (now : List Moment) (w : WorldState) : Type 0 where
  count : length w.initiators ≡ initiators now
  some : 0 < length w.initiators
  based : (i : ℕ) → i < length w.initiators → EachMoment (BasedAt i) now
  once : (i : ℕ) → i < length w.initiators → AsksOnce now i
  untaken : NoneTaken now

at_start : (start : List Disk) (now : List Moment) (w : WorldState) → IsTame now → AreAloft now w → IsPlace now w → WroteAll start now w → AreInitiators now w → AtStart now w
at_start start now w tame aloft place wrote own = record {
  kept = aloft.kept;
  flown = aloft.flown;
  asking = record {
    few = wrote.few;
    tame = tame;
    none = wrote.none;
    wrote = λ i l. record { asks = wrote.asks i l; rings = wrote.rings i l; wrote = wrote.wrote i l; based = own.based i l };
    once = own.once;
  };
  rooms = record {
    calm = tame;
    working = are_working now w place.lists place.along place.within;
    apart = place.apart;
    order = place.order;
    untaken = own.untaken;
    holds = are_held now w place.lists place.along tame;
  };
  count = own.count;
  some = own.some;
}

-- ---- each place of a run
pub at_start_law : Always (λ now w. IsTame now → 0 < length w.initiators → AtStart now w)
at_start_law = record {
  after_lines = λ line run r has small size tame some.
      let now = history_of line run in
      let w = (after (beginning run) run.entries).world in
      let so_far = closing.before open_lists_law line run r has small size (inl tame) in
      let count = count_after run run.entries in
      at_start run.start.disks now w tame (aloft_law.after_lines line run r has small size) (places_law.after_lines line run r has small size tame) (wrote_everywhere.after_lines line run r has small size so_far)
      (record {
        count = counted_after line run r size;
        some = some;
        based = λ i l. done_based run.start.disks (length w.initiators) now i l ((logins_known short_law).after_lines line run r has small size so_far i l (tame i, inl tame));
        once = λ i l. asks_once_law.after_lines line run r has small size so_far i (subst (λ n. i < n) count l) (tame i);
        untaken = none_taken now w run.initiators count tame ((untaken_by short_law).after_lines line run r has small size so_far (inl tame)) (none_taken_after line run r);
      });
  between = λ line run r has small size next most told m tame some.
      let w = (after_all told (begun (after (beginning run) run.entries))).world in
      let now = map said w.fresh ++ asked next (more_deliveries most) ∷ history_of line run in
      let so_far = closing.between open_lists_law line run r has small size next (more_deliveries most) (more_than_one most) told m (inl tame) in
      let count = count_between told (after (beginning run) run.entries) ∙ count_after run run.entries in
      at_start run.start.disks now w tame (aloft_law.between line run r has small size next most told m) (places_law.between line run r has small size next most told m tame) (wrote_everywhere.between line run r has small size next most told m so_far)
      (record {
        count = counted_between line run r size next (more_deliveries most) told m;
        some = some;
        based = λ i l. done_based run.start.disks (length w.initiators) now i l ((logins_known short_law).between line run r has small size next most told m so_far i l (tame i, inl tame));
        once = λ i l. asks_once_law.between line run r has small size next most told m so_far i (subst (λ n. i < n) count l) (tame i);
        untaken = none_taken now w run.initiators count tame ((untaken_by short_law).between line run r has small size next most told m so_far (inl tame)) (none_taken_between line run r next (more_deliveries most) told m);
      });
}
