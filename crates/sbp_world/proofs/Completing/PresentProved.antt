-- ORB_POINTER was written for each list with a rung ORB, in every run; and at rest, of a list that was begun since the latest reset was seen, and that was not cut, the write was taken as new.
use Rattle.sbp_world.proofs.Words.Std.{◌≡◌, ◌∙◌, refl, subst, ◌<◌, ℕ, List, ◌∷◌, ◌++◌, map, Option}
use Rattle.sbp_world.proofs.Words.Wire.{Moment, asked, said}
use Rattle.sbp_world.proofs.Words.Target.{Told}
use Rattle.sbp_world.proofs.Words.Laws.{EachMoment}
use Rattle.sbp_world.proofs.Words.World.{IsCalm, IsRun, MayAll, MayStand, PointersAt, Run, Stands, WorldState, after, after_all, beginning, begun, history_of, more_deliveries}
use Rattle.sbp_laws.specs.Budget.{Lossless}
use Rattle.sbp_world.specs.Completing.Sights.{IsFresh, rung}
use Rattle.sbp_world.specs.Completing.Present.{HasWrite, RestPointedLaw, RungWrittenLaw, WasPointed}
use Rattle.sbp_world.specs.Completing.RestServed.{WereTaken}
use Rattle.sbp_world.proofs.Agents.Management.Still.{hist}
use Rattle.sbp_world.proofs.Completing.PresentPlaces.{was_pointed}
use Rattle.sbp_world.proofs.Completing.PresentPointed.{has_write}
use Rattle.sbp_world.proofs.Completing.PresentRung.{AreWritten, Written, first_written, written_carried}
use Rattle.sbp_world.proofs.Completing.RestRuns.{rest_served_law}
use Rattle.sbp_world.proofs.Agents.Management.Runs.{holds_after}
use Rattle.sbp_world.proofs.Hosts.Between.{stands_there}
use Rattle.sbp_world.proofs.Hosts.Carried.{between_runs, of_runs}
use Rattle.sbp_world.proofs.Hosts.Runs.{count_after, count_between}
use Rattle.sbp_world.proofs.Lists.UnderwayRuns.{delivering}
use Rattle.sbp_world.proofs.Pointers.Guarding.{ready_known}
use Rattle.sbp_world.proofs.Pointers.Proved.{moments_law, pointers_law}
use Rattle.sbp_world.proofs.Wire.Starts.{laws_of}

-- ---- the writes of ORB_POINTER, of every run
-- what is known of a place, of an initiator
record Knows (past : List Moment) (i : ℕ) : Type 0 where
  pointers : PointersAt past i
  moments : EachMoment (MayStand i) past
  written : AreWritten past i

write_at : (past : List Moment) (w : WorldState) (now : List Moment) → Stands past w → hist past w ≡ now → (i n : ℕ) → Knows now i → 0 < rung now i n → HasWrite now i n
write_at past w now h is i n = subst (λ ms. Knows ms i → 0 < rung ms i n → HasWrite ms i n) is (λ k some. has_write (hist past w) i n (laws_of past w h).serials (laws_of past w h).sent k.moments k.written some)

pointed_at : (past : List Moment) (w : WorldState) (now : List Moment) → Stands past w → hist past w ≡ now → (i n : ℕ) → Knows now i → IsCalm now i → Lossless now → WereTaken now → IsFresh now i n → 0 < rung now i n → WasPointed now i n
pointed_at past w now h is i n =
    subst (λ ms. Knows ms i → IsCalm ms i → Lossless ms → WereTaken ms → IsFresh ms i n → 0 < rung ms i n → WasPointed ms i n) is
    (λ k calm lossless served fresh some.
    let write = write_at past w (hist past w) h refl i n k some in
    was_pointed w h i n calm lossless served k.pointers k.moments fresh write.serial write.pointed)

module _ (line : ℕ) (run : Run) (r : IsRun run) where
  knows_after : (i : ℕ) → i < run.initiators → Knows (history_of line run) i
  knows_after i inside = record {
    pointers = pointers_law.after_lines line run r i inside;
    moments = moments_law.after_lines line run r i inside;
    written = (of_runs (Written run.ready) (written_carried run.ready) line run (ready_known line run) (λ j c. first_written line j run.initiators run.ready c) r i inside).written;
  }

  knows_between : (next : ℕ) (most : Option ℕ) (told : List (Option Told)) → MayAll told (begun (after (beginning run) run.entries)) → (i : ℕ) → i < run.initiators → Knows (map said (after_all told (begun (after (beginning run) run.entries))).world.fresh ++ asked next (more_deliveries most) ∷ history_of line run) i
  knows_between next most told m i inside = record {
    pointers = pointers_law.between line run r next most told m i inside;
    moments = moments_law.between line run r next most told m i inside;
    written = (between_runs (Written run.ready) (written_carried run.ready) line run (ready_known line run) (λ j c. first_written line j run.initiators run.ready c) r next most told m i inside).written;
  }

pub rung_written_law : RungWrittenLaw
rung_written_law = record {
  after_lines = λ line run r has small size i n b some.
      let h = holds_after line run run.entries r.few has small size r.short r.entries r.lines in
      write_at h.past (after (beginning run) run.entries).world (history_of line run) h.holds.sound.stands h.is i n (knows_after line run r i (subst (λ c. i < c) (count_after run run.entries) b)) some;
  between = λ line run r has small size next most told m i n b some.
      let w = (after_all told (begun (after (beginning run) run.entries))).world in
      let x = stands_there line run r next (more_deliveries most) told (delivering told most) m in
      write_at x.past w (map said w.fresh ++ asked next (more_deliveries most) ∷ history_of line run) x.sound.stands x.is i n
      (knows_between line run r next most told m i (subst (λ c. i < c) (count_between told (after (beginning run) run.entries) ∙ count_after run run.entries) b)) some;
}

pub rest_pointed_law : RestPointedLaw
rest_pointed_law = record {
  after_lines = λ line run r has small size lossless calm i n b own fresh some.
      let h = holds_after line run run.entries r.few has small size r.short r.entries r.lines in
      pointed_at h.past (after (beginning run) run.entries).world (history_of line run) h.holds.sound.stands h.is i n (knows_after line run r i (subst (λ c. i < c) (count_after run run.entries) b)) own lossless
      (rest_served_law.after_lines line run r has small size lossless calm) fresh some;
  between = λ line run r has small size next most told m lossless calm i n b own fresh some.
      let w = (after_all told (begun (after (beginning run) run.entries))).world in
      let x = stands_there line run r next (more_deliveries most) told (delivering told most) m in
      pointed_at x.past w (map said w.fresh ++ asked next (more_deliveries most) ∷ history_of line run) x.sound.stands x.is i n
      (knows_between line run r next most told m i (subst (λ c. i < c) (count_between told (after (beginning run) run.entries) ∙ count_after run run.entries) b)) own lossless
      (rest_served_law.between line run r has small size next most told m lossless calm) fresh some;
}
