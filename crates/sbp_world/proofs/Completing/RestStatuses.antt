-- At rest each status of a present list was answered, but that of an agent that is DEAD, and so taken.
use Rattle.sbp_world.proofs.Words.Std.{◌≡◌, ◌∙◌, refl, subst, inl, inr, ◌⊎◌, ◌<◌, ℕ, suc, true, is_some, List, ◌∷◌, ◌++◌, length, map, Option, Some, None}
use Rattle.sbp_world.proofs.Words.Wire.{Moment, asked, said}
use Rattle.sbp_world.proofs.Words.Target.{Disk, Phase}
use Rattle.sbp_world.proofs.Words.Laws.{EachMoment, EachTurn, TakenStatus, ends, injectors, present_list, taken_at}
use Rattle.sbp_world.proofs.Words.World.{AllOfTarget, IsCalm, IsOfWire, SentSo, MayStand, TakenOf, TakesDue, WorldState, after, after_all, beginning, begun, history_of, machine_at, more_deliveries}
use Rattle.command_agent.specs.declared.phase.Phase.TheVariants as phases
use Rattle.sbp_world.specs.Completing.Rest.{IsAtRest, is_resting}
use Rattle.sbp_world.specs.Completing.RestStatuses.{AreTaken, HasDead, RestStatusesLaw, WasTaken}
use Rattle.sbp_world.specs.Lists.TakenTurns.{IgnoredSo, WasAnswered}
use Rattle.sbp_world.proofs.Common.{delivers, untrue}
use Rattle.sbp_world.proofs.Completing.RestRuns.{rest_law}
use Rattle.sbp_world.proofs.Hosts.Runs.{count_after, count_between}
use Rattle.sbp_world.proofs.Hosts.Statuses.Runs.{taking_law}
use Rattle.sbp_world.proofs.Lists.Clauses.{one_up, open_lists_law}
use Rattle.sbp_world.proofs.Lists.EndingSteps.{is_over}
use Rattle.sbp_world.proofs.Lists.IgnoredSlots.{ignored_law}
use Rattle.sbp_world.proofs.Lists.ListsProved.{closing}
use Rattle.sbp_world.proofs.Lists.OverRuns.{beyond, done_law, mild_beyond}
use Rattle.sbp_world.proofs.Lists.OverTurned.{AreDone, IsDone}
use Rattle.sbp_world.proofs.Lists.Passing.{PassLaw}
use Rattle.sbp_world.proofs.Lists.Rises.{Rises}
use Rattle.sbp_world.proofs.Lists.ShortLines.{short_law}
use Rattle.sbp_world.proofs.Lists.StatusRuns.{Once, after_by, between_by}
use Rattle.sbp_world.proofs.Lists.TakenTurns.{all_sent, answered_taken}
use Rattle.sbp_world.proofs.Pointers.Proved.{moments_law}

-- ---- what was answered was taken
record IsLeft (ms : List Moment) (i : ℕ) : Type 0 where
  turns : EachTurn (TakesDue i) ms
  moments : EachMoment (MayStand i) ms
  ignored : EachMoment (IgnoredSo i) ms

abbrev TakesAnswered : List Moment → ℕ → Type 0
TakesAnswered ms i = IsLeft ms i → (n k : ℕ) → present_list ms i ≡ Some n → WasAnswered ms i n k → WasTaken ms i n k

taken_by : (ms : List Moment) (i n k : ℕ) (o : Option TakenStatus) → taken_at ms i n k ≡ o → (taken_at ms i n k ≡ None → ⊥) → is_some o ≡ true
taken_by ms i n k None e f = absurd (f e)
taken_by ms i n k (Some t) e f = refl

takes_answered : (ms : List Moment) (i : ℕ) → IsCalm ms i → PassLaw (injectors ms) ms → IsOfWire ms → Once ms → Rises ms → EachMoment (TakenOf i) ms → AllOfTarget ms i → EachMoment (SentSo i) ms → TakesAnswered ms i
takes_answered ms i calm passes wire once rise takings sources sent l n k present answered =
    taken_by ms i n k (taken_at ms i n k) refl
    (answered_taken (injectors ms) i calm ms
    (record {
      known = record { passes = passes; takings = takings; sources = sources; rises = rise; judged = wire.judged; serials = wire.serials };
      once = once;
      sent = sent;
      moments = l.moments;
      ignored = l.ignored;
    }) l.turns n k answered present)

-- ---- a place
-- an agent at rest that is over is DEAD
over_dead : (phase : Phase) → is_over phase ≡ true → is_resting phase ≡ true → phase ≡ phases.Dead
over_dead phases.Dead o r = refl
over_dead phases.WritingStatus o r = untrue r
over_dead phases.WritingLastStatus o r = untrue r
over_dead phases.Reset o r = untrue o
over_dead phases.Suspended o r = untrue o
over_dead phases.Fetching o r = untrue o
over_dead phases.ReadingTable o r = untrue o
over_dead (phases.ReadingData wanted) o r = untrue o
over_dead phases.Answering o r = untrue o
over_dead phases.ReadingNext o r = untrue o

taken_there : (start : List Disk) (now : List Moment) (w : WorldState) → IsAtRest start now w → AreDone start (beyond (injectors now) (length w.initiators)) now w
    → ((i : ℕ) → i < length w.initiators → IsCalm now i → (n k : ℕ) → present_list now i ≡ Some n → WasAnswered now i n k → WasTaken now i n k) → AreTaken now w
taken_there start now w rest done takes i b calm n opened present k less = by (done i (mild_beyond (injectors now) (length w.initiators) i calm b) n opened present k less)
  where
    by : IsDone start now w i n k → WasTaken now i n k ⊎ ((suc k ≡ ends now i n) × HasDead w i)
    by (inl answered) = inl (takes i b calm n k present answered)
    by (inr (last, o)) = inr (last, record { place = o.place; small = o.small; initiator_is = o.initiator_is; dead = over_dead (machine_at w o.place).phase o.over (rest.target.desks o.place o.small).phase })

pub rest_statuses_law : RestStatusesLaw
rest_statuses_law = record {
  after_lines = λ line run r has small size tame lossless calm.
      let now = history_of line run in
      let w = (after (beginning run) run.entries).world in
      let so_far = closing.before open_lists_law line run r has small size tame in
      taken_there run.start.disks now w (rest_law.after_lines line run r has small size lossless calm) ((done_law short_law one_up).after_lines line run r has small size so_far tame)
      (λ i b own n k present answered.
      after_by line run r has small size TakesAnswered takes_answered so_far (all_sent.after_lines line run r has small size so_far tame) i b own
      (record {
        turns = (taking_law.takings line run r i (subst (λ m. i < m) (count_after run run.entries) b)).each;
        moments = moments_law.after_lines line run r i (subst (λ m. i < m) (count_after run run.entries) b);
        ignored = ignored_law.after_lines line run r has small size i b;
      }) n k present answered);
  between = λ line run r has small size next most told m tame lossless calm.
      let here = after (beginning run) run.entries in
      let w = (after_all told (begun here)).world in
      let now = map said w.fresh ++ asked next (more_deliveries most) ∷ history_of line run in
      let so_far = closing.between open_lists_law line run r has small size next (more_deliveries most) (delivers most) told m tame in
      taken_there run.start.disks now w (rest_law.between line run r has small size next most told m lossless calm) ((done_law short_law one_up).between line run r has small size next most told m so_far tame)
      (λ i b own n k present answered.
      let inside : i < run.initiators = subst (λ c. i < c) (count_between told here ∙ count_after run run.entries) b in
      between_by line run r has small size next most told m TakesAnswered takes_answered so_far (all_sent.between line run r has small size next most told m so_far tame) i b own
      (record {
        turns = (taking_law.between line run r next most told m i inside).each;
        moments = moments_law.between line run r next most told m i inside;
        ignored = ignored_law.between line run r has small size next most told m i b;
      }) n k present answered);
}
