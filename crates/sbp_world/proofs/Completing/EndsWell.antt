-- In every run in which nobody injected packets, where nothing was lost since the latest reset and few requests of lists that were cut are under way, the management goes well while the target is in the latest generation.
use Rattle.sbp_world.proofs.Words.Std.{arith, ◌≡◌, ◌∙◌, refl, sym, subst, ◌≤◌, ◌<◌, ℕ, List, [], ◌∷◌, ◌++◌, map, length}
use Rattle.sbp_world.proofs.Words.Wire.{Moment, asked, said, terms}
use Rattle.sbp_world.proofs.Words.Target.{Disk}
use Rattle.sbp_world.proofs.Words.Initiator.{FailCause}
use Rattle.sbp_world.proofs.Words.Laws.{EachMoment, initiators}
use Rattle.sbp_world.proofs.Words.World.{AtGot, WorldState, after, after_all, beginning, begun, history_of, more_deliveries}
use Rattle.bus_transactions.specs.Carried.{AreKept}
use Rattle.bus_transactions.proofs.Reaches.{law_of as wire_law}
use Rattle.sbp_journal.specs.declared.note.Note.TheVariants as notes
use Rattle.sbp_world.specs.Completing.Deaths.{AreFewNow}
use Rattle.sbp_world.specs.Completing.Ends.{NoneManagesFail}
use Rattle.sbp_world.specs.Completing.EndsBecame.{AllManagedWell, ManagesWell}
use Rattle.sbp_world.specs.Completing.EndsLevels.{AreRisen}
use Rattle.sbp_world.specs.Completing.EndsWell.{IsGotWell, ManagedWellLaw}
use Rattle.sbp_world.specs.Completing.Labels.{LosesNothing}
use Rattle.sbp_world.specs.Completing.Sights.{AreFewOfCutLists, since_sight}
use Rattle.sbp_world.proofs.Common.{moment_joined}
use Rattle.sbp_world.proofs.Completing.DeathsHistory.{Follows, note_bus}
use Rattle.sbp_world.proofs.Completing.EndsGots.{got_well_law}
use Rattle.sbp_world.proofs.Completing.EndsLevels.{RisenLaw, risen_always}
use Rattle.sbp_world.proofs.Completing.EndsRuns.{none_fails_law}
use Rattle.sbp_world.proofs.Completing.EndsSights.{in_sight, kept_then, same_bus}
use Rattle.sbp_world.proofs.Completing.LabelsPlaces.{IsHolding, holding_everywhere}
use Rattle.sbp_world.proofs.Completing.RestLosses.{BeginsFirst, first_after, first_between}
use Rattle.sbp_world.proofs.Counting.StartCounted.{counted_after, counted_between}

none_in : (later : List Moment) (i : ℕ) (cause : FailCause) (rest : List Moment) → NoneManagesFail (later ++ said (notes.ManageFailed i cause) ∷ rest) → ⊥
none_in [] i cause rest none = none
none_in (said (notes.ManageFailed j other) ∷ later) i cause rest none = none
none_in (m ∷ later) i cause rest none = none_in later i cause rest none

one_longer : (later : List Moment) (m : Moment) (rest : List Moment) → length (later ++ m ∷ []) ≤ length (later ++ m ∷ rest)
one_longer [] m rest = omega arith
one_longer (x ∷ later) m rest = let l = one_longer later m rest in omega (arith, l)

-- what is known of a history
record Known (start : List Disk) (count : ℕ) (past : List Moment) : Type 0 where
  rises : AreRisen past
  first : EachMoment BeginsFirst past
  kept : AreKept past
  few : AreFewOfCutLists start past
  counted : count ≡ initiators past
  none : NoneManagesFail (since_sight 0 past)

module _ (start : List Disk) (count : ℕ) where
  -- ---- a moment
  module _ (later : List Moment) (serial : ℕ) (before : List Moment) (k : Known start count (later ++ said (notes.Got serial) ∷ before)) (level : (terms before).generation 0 ≡ (terms (later ++ said (notes.Got serial) ∷ before)).bus) where
    got_follows : Follows (said (notes.Got serial)) before
    got_follows = record { bus = note_bus (notes.Got serial) before tt; since = refl }

    loses : LosesNothing before
    loses = record {
      kept = kept_then (notes.Got serial) before got_follows later k.rises k.first level k.kept;
      seen = level ∙ sym (same_bus (notes.Got serial) before got_follows later k.rises k.first level);
    }

    few_then : AreFewNow start count before
    few_then i b =
        let past = later ++ said (notes.Got serial) ∷ before in
        let long = subst (λ ms. length (later ++ said (notes.Got serial) ∷ []) ≤ length ms) (sym (in_sight (notes.Got serial) before got_follows later k.rises k.first level)) (one_longer later (said (notes.Got serial)) (since_sight 0 before)) in
        k.few (later ++ said (notes.Got serial) ∷ []) before (moment_joined later (said (notes.Got serial)) before) long i (subst (λ n. i < n) k.counted b)

  moment_well : (later : List Moment) (m : Moment) (before : List Moment) → Known start count (later ++ m ∷ before) → AtGot (IsGotWell start count) m before → ManagesWell start (terms (later ++ m ∷ before)).bus m before
  moment_well later (said (notes.ManageFailed i cause)) before k well =
      λ level. none_in later i cause (since_sight 0 before) (subst NoneManagesFail (in_sight (notes.ManageFailed i cause) before (record { bus = refl; since = refl }) later k.rises k.first level) k.none)
  moment_well later (said (notes.Got serial)) before k well = λ level. well (loses later serial before k level) (few_then later serial before k level)
  moment_well later (said note) before k well = tt
  moment_well later (asked line event) before k well = tt

  each_moment : (past : List Moment) → Known start count past → (later ms : List Moment) → later ++ ms ≡ past → EachMoment (AtGot (IsGotWell start count)) ms → EachMoment (ManagesWell start (terms past).bus) ms
  each_moment past k later [] is well = tt
  each_moment past k later (m ∷ ms) is well = (
    subst (λ all. ManagesWell start (terms all).bus m ms) is (moment_well later m ms (subst (Known start count) (sym is) k) well.0),
    each_moment past k (later ++ m ∷ []) ms (moment_joined later m ms ∙ is) well.1,
  )

module _ (start : List Disk) (now : List Moment) (w : WorldState) (h : IsHolding start now w) where
  risen : AreRisen now
  risen = let stands = h.holds.sound.stands in subst AreRisen (stands.is.past_is ∙ h.is) (wire_law RisenLaw risen_always stands.wire stands.reached)

  all_well : EachMoment BeginsFirst now → length w.initiators ≡ initiators now → NoneManagesFail (since_sight 0 now) → EachMoment (AtGot (IsGotWell start (length w.initiators))) now → AreKept now → AreFewOfCutLists start now → AllManagedWell start now
  all_well first counted none well kept few = each_moment start (length w.initiators) now (record { rises = risen; first = first; kept = kept; few = few; counted = counted; none = none }) [] now refl well

-- ---- each run
pub managed_well_law : ManagedWellLaw
managed_well_law given finds = record {
  after_lines = λ line run r has small size tame kept few.
      all_well run.start.disks (history_of line run) (after (beginning run) run.entries).world (holding_everywhere.after_lines line run r has small size) (first_after line run r size) (counted_after line run r size)
      ((none_fails_law given finds).after_lines line run r has small size tame kept few) ((got_well_law given).after_lines line run r has small size tame) kept few;
  between = λ line run r has small size next most told m tame kept few.
      let w = (after_all told (begun (after (beginning run) run.entries))).world in
      all_well run.start.disks (map said w.fresh ++ asked next (more_deliveries most) ∷ history_of line run) w (holding_everywhere.between line run r has small size next most told m) (first_between line run r size next (more_deliveries most) told m)
      (counted_between line run r size next (more_deliveries most) told m) ((none_fails_law given finds).between line run r has small size next most told m tame kept few) ((got_well_law given).between line run r has small size next most told m tame) kept few;
}
