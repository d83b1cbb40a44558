-- Where a run is lossless and nothing is in flight, what its initiators set going is done: no agent died, so none is DEAD, and each fresh list with a rung ORB is present and ended as many ORBs as are rung.
use Rattle.sbp_world.proofs.Words.Std.{arith, ◌≡◌, sym, subst, inl, ◌<◌, ◌++◌, ℕ, false, List, [], ◌∷◌, length, map}
use Rattle.sbp_world.proofs.Words.Wire.{Moment, asked, said}
use Rattle.sbp_world.proofs.Words.Target.{Disk}
use Rattle.sbp_world.proofs.Words.Laws.{initiators, taken_at}
use Rattle.sbp_world.proofs.Words.World.{FewLogins, IsTame, WorldState, after, after_all, beginning, begun, history_of, more_deliveries}
use Rattle.sbp_journal.specs.declared.note.Note.TheVariants as notes
use Rattle.sbp_laws.specs.Budget.{Lossless}
use Rattle.sbp_laws.specs.Completion.{in_the_air}
use Rattle.sbp_laws.specs.Lists.{is_none_taken}
use Rattle.sbp_world.specs.Completing.Deaths.{NoneDied, NoneDies}
use Rattle.sbp_world.specs.Completing.Done.{NoneDead, NoneFails, RungEnded, RungOrbsCompleteLaw, RungOrbsCompleteThere}
use Rattle.sbp_world.specs.Completing.Ends.{NoneFailed, NoneManagesFail}
use Rattle.sbp_world.specs.Completing.Labels.{LosesNothing}
use Rattle.sbp_world.specs.Completing.Operations.{AtRest, HaveNoReads}
use Rattle.sbp_world.specs.Completing.OperationsEnd.{OperationsEnd}
use Rattle.sbp_world.specs.Completing.Present.{FreshPresent}
use Rattle.sbp_world.specs.Completing.RestStatuses.{AreTaken, HasDead}
use Rattle.sbp_world.specs.Completing.Sights.{IsFresh, rung, since_sight}
use Rattle.sbp_world.proofs.Completing.BellsFewRuns.{rung_ended_few_law}
use Rattle.sbp_world.proofs.Completing.DeadKnownRuns.{dead_known_law}
use Rattle.sbp_world.proofs.Completing.EndsEverywhere.{none_failed_law, none_left_law}
use Rattle.sbp_world.proofs.Completing.LabelsResting.{lossless_law}
use Rattle.sbp_world.proofs.Completing.OperationsRuns.{no_reads_law}
use Rattle.sbp_world.proofs.Completing.PresentLaws.{fresh_few_law}
use Rattle.sbp_world.proofs.Completing.PresentRest.{ended_taken}
use Rattle.sbp_world.proofs.Completing.RestStatuses.{rest_statuses_law}
use Rattle.sbp_world.proofs.Counting.StartCounted.{counted_after, counted_between}
use Rattle.sbp_world.proofs.Completing.WritesLives.{lives_few_law}

-- ---- of two that fail none does
none_fails : (ms : List Moment) → NoneDies ms → NoneManagesFail ms → NoneFails ms
none_fails [] dies fails = tt
none_fails (asked line event ∷ ms) dies fails = none_fails ms dies fails
none_fails (said (notes.Dead i list cause) ∷ ms) dies fails = absurd dies
none_fails (said (notes.ManageFailed i cause) ∷ ms) dies fails = absurd fails
none_fails (said note ∷ ms) dies fails = none_fails ms dies fails

-- ---- at a place
-- what is so there
record Holds (start : List Disk) (past : List Moment) (w : WorldState) : Type 0 where
  died : FewLogins past → NoneDied start past w
  failed : NoneFailed start past w
  over : OperationsEnd start past w
  present : FewLogins past → FreshPresent past w
  ended : FewLogins past → RungEnded start past w
  dead : NoneDead past w
  loses : Lossless past → LosesNothing past
  statuses : Lossless past → in_the_air past ≡ 0 → AreTaken past w
  reads : AtRest HaveNoReads past w
  count : length w.initiators ≡ initiators past

done_there : (start : List Disk) (past : List Moment) (w : WorldState) → (IsTame past → Holds start past w) → RungOrbsCompleteThere start past w
done_there start past w so tame logins legal lossless calm few = record {
  taken = λ i n k fresh less. taken_in i n k fresh less (inside i fresh.inside);
  operations = λ i b. h.over tame lossless calm few i (inside i b);
  reads = λ i b. h.reads lossless calm i (inside i b);
  none_fails = none_fails (since_sight 0 past) none_died (h.failed tame kept.kept few);
}
  where
    h : Holds start past w
    h = so tame

    kept : LosesNothing past
    kept = h.loses lossless

    none_died : NoneDies (since_sight 0 past)
    none_died = h.died logins tame legal kept.kept few

    alive : (i : ℕ) → HasDead w i → ⊥
    alive = h.dead tame kept.seen none_died

    inside : (i : ℕ) → i < initiators past → i < length w.initiators
    inside i b = subst (λ n. i < n) (sym h.count) b

    taken_in : (i n k : ℕ) → IsFresh past i n → k < rung past i n → i < length w.initiators → is_none_taken (taken_at past i n k) ≡ false
    taken_in i n k fresh less b =
        let o = h.present logins tame lossless calm i n b (alive i) fresh (omega (arith, less)) in
        let all = h.ended logins tame lossless calm i n b fresh o in
        ended_taken past w i n b (tame i) (h.statuses lossless calm) (alive i) fresh.uncut o k (omega (arith, less, all))

-- ---- in every run
pub rung_orbs_complete_law : RungOrbsCompleteLaw
rung_orbs_complete_law = record {
  after_lines = λ line run r has small size.
      done_there run.start.disks (history_of line run) (after (beginning run) run.entries).world
      (λ tame. record {
        died = lives_few_law.after_lines line run r has small size;
        failed = none_failed_law.after_lines line run r has small size;
        over = none_left_law.after_lines line run r has small size;
        present = fresh_few_law.after_lines line run r has small size;
        ended = rung_ended_few_law.after_lines line run r has small size;
        dead = dead_known_law.after_lines line run r has small size;
        loses = lossless_law.after_lines line run r has small size;
        statuses = rest_statuses_law.after_lines line run r has small size (inl tame);
        reads = no_reads_law.after_lines line run r has small size;
        count = counted_after line run r size;
      });
  between = λ line run r has small size next most told m.
      done_there run.start.disks (map said (after_all told (begun (after (beginning run) run.entries))).world.fresh ++ asked next (more_deliveries most) ∷ history_of line run) (after_all told (begun (after (beginning run) run.entries))).world
      (λ tame. record {
        died = lives_few_law.between line run r has small size next most told m;
        failed = none_failed_law.between line run r has small size next most told m;
        over = none_left_law.between line run r has small size next most told m;
        present = fresh_few_law.between line run r has small size next most told m;
        ended = rung_ended_few_law.between line run r has small size next most told m;
        dead = dead_known_law.between line run r has small size next most told m;
        loses = lossless_law.between line run r has small size next most told m;
        statuses = rest_statuses_law.between line run r has small size next most told m (inl tame);
        reads = no_reads_law.between line run r has small size next most told m;
        count = counted_between line run r size next (more_deliveries most) told m;
      });
}
