-- Each answer that is taken is carried, and is that of the plain disk, in every run in which no initiator injected packets, or few logins were given.
use Rattle.sbp_world.proofs.Words.Std.{refl, ◌≡◌, ◌∙◌, sym, ap, subst, IfSome, ◌<◌, ℕ, Bool, true, false, List, [], ◌∷◌, same_Some}
use Rattle.sbp_world.proofs.Words.Wire.{Cmd, Moment, asked, said}
use Rattle.sbp_world.proofs.Words.Target.{Disk, answer_length_of, answer_of}
use Rattle.sbp_world.proofs.Words.Laws.{AnswerAt, Answers, ExecutionLaw, injectors, EachMoment}
use Rattle.sbp_world.proofs.Words.World.{history_of, AnswerLengthsLaw, HasLength, LengthOf, AnswerCarriedAt, AnswersHoldLaw, OpenListsLaw, UnderFrom, WhereTameOrFew}
use Rattle.orb_layout.specs.declared.status.StatusKind.TheVariants as kinds
use Rattle.sbp_journal.specs.declared.note.Note.TheVariants as notes
use Rattle.sbp_world.proofs.Lists.AnswerLengths.{AreFilled, commands_fill, filled_behind}
use Rattle.sbp_world.proofs.Lists.AnswersCarriedTaken.{IsWhole, IsWhose, WholeAt, of_data, of_none}
use Rattle.sbp_world.proofs.Lists.AnswersRight.{answers, told_empty, told_written}
use Rattle.sbp_world.proofs.Lists.Passing.{PassLaw}
use Rattle.sbp_world.proofs.Hosts.Runs.{count_after}
use Rattle.sbp_world.proofs.Hosts.Statuses.Ranges.{InsideIn, run_inside}
use Rattle.sbp_world.proofs.Lists.AnswersCarriedRuns.{AllWhole}
use Rattle.sbp_world.proofs.Lists.Executes.{execution_run_law}
use Rattle.sbp_world.proofs.Lists.Histories.{after_lines}
use Rattle.sbp_world.proofs.Lists.ListsProved.{closing}

module _ (start : List Disk) (wild : ℕ → Bool) (i : ℕ) (own : wild i ≡ false) where
  module _ (past : List Moment) (passes : PassLaw wild past) (runs_so : ExecutionLaw wild start past) (filled : AreFilled past) (n k : ℕ) (answer : List ℕ) (h : HasLength start past i n k answer) (w : IsWhole start wild i own past n k answer) where
    none_long : (w.cmd.to_initiator ≡ true → w.cmd.length ≡ 0) → h.cmd.to_initiator ≡ true → answer_length_of h.disk.is_bay h.cmd.cdb ≡ 0
    none_long empty to =
        let same : w.cmd ≡ h.cmd = same_Some w.cmd h.cmd (sym w.command ∙ h.command) in
        (commands_fill past filled i n k h.cmd h.command).answered h.disk.is_bay to ∙ (ap (λ (x : Cmd). x.length) (sym same) ∙ empty (ap (λ (x : Cmd). x.to_initiator) same ∙ to))

    by_way : (empty : w.cmd.to_initiator ≡ true → w.cmd.length ≡ 0) → (to : Bool) → h.cmd.to_initiator ≡ to → IfSome (answer_of h.cmd.cdb h.disk) (λ told. answer ≡ told)
    by_way empty true e = told_empty start wild i own past passes runs_so n k answer h (none_long empty e)
    by_way empty false e = (h.outward e).1

    by_whose : IsWhose start wild i own past n k answer w.cmd → IfSome (answer_of h.cmd.cdb h.disk) (λ told. answer ≡ told)
    by_whose (of_data d count brings) = told_written start wild i own past passes runs_so n k answer h d count brings
    by_whose (of_none empty) = by_way empty h.cmd.to_initiator refl

    answers_here : Answers start past i n k answer
    answers_here = answers start wild i own past passes runs_so n k answer h (by_whose w.whose)

  -- ---- each one that it takes
  abbrev pub AnswerOfOne : Moment → List Moment → Type 0
  AnswerOfOne (said (notes.Taken j n k kinds.Good answer)) past = j ≡ i → Answers start past i n k answer
  AnswerOfOne moment past = Unit {0}

  pub each_answer : (past : List Moment) → EachMoment (WholeAt start wild i own) past → EachMoment (LengthOf start i) past → PassLaw wild past → ExecutionLaw wild start past → AreFilled past → EachMoment AnswerOfOne past
  each_answer [] w l passes runs_so f = tt
  each_answer (said (notes.Taken j n k kinds.Good answer) ∷ past) w l passes runs_so f =
      ((λ same. answers_here past passes.1 runs_so.1 f n k answer (l.0 same) (w.0 same)), each_answer past w.1 l.1 passes.1 runs_so.1 f)
  each_answer (asked line event ∷ past) w l passes runs_so f = (tt, each_answer past w.1 l.1 passes.1 runs_so.1 f.1)
  each_answer (said note ∷ past) w l passes runs_so f = (tt, each_answer past w.1 l.1 passes.1 runs_so.1 f)

-- ---- of all that injected no packets

module _ (start : List Disk) (wild : ℕ → Bool) (most : ℕ) where
  all_answers : (past : List Moment) → InsideIn most past → ((i : ℕ) → i < most → (own : wild i ≡ false) → EachMoment (AnswerOfOne start wild i own) past) → EachMoment (AnswerAt wild start) past
  all_answers [] h f = tt
  all_answers (said (notes.Taken i n k kinds.Good answer) ∷ past) h f = (λ own. (f i h.0 own).0 refl, all_answers past h.1 (λ j b own. (f j b own).1))
  all_answers (said (notes.Taken i n k status answer) ∷ past) h f = (tt, all_answers past h.1 (λ j b own. (f j b own).1))
  all_answers (said note ∷ past) h f = (tt, all_answers past h (λ j b own. (f j b own).1))
  all_answers (asked line event ∷ past) h f = (tt, all_answers past h (λ j b own. (f j b own).1))

  all_carried : (past : List Moment) → InsideIn most past → ((i : ℕ) → i < most → (own : wild i ≡ false) → EachMoment (WholeAt start wild i own) past) → EachMoment (AnswerCarriedAt wild) past
  all_carried [] h f = tt
  all_carried (said (notes.Taken i n k kinds.Good answer) ∷ past) h f = (λ own. ((f i h.0 own).0 refl).brought.carried, all_carried past h.1 (λ j b own. (f j b own).1))
  all_carried (said (notes.Taken i n k status answer) ∷ past) h f = (tt, all_carried past h.1 (λ j b own. (f j b own).1))
  all_carried (said note ∷ past) h f = (tt, all_carried past h (λ j b own. (f j b own).1))
  all_carried (asked line event ∷ past) h f = (tt, all_carried past h (λ j b own. (f j b own).1))

-- ---- over a run
pub answers_hold_law : OpenListsLaw → UnderFrom (λ start. WhereTameOrFew (AllWhole start)) → AnswerLengthsLaw → AnswersHoldLaw
answers_hold_law lists whole lengths line run r has small size tame =
    let H = history_of line run in
    let so_far = closing.before lists line run r has small size tame in
    let passes = (after_lines (injectors H) line run r has small size (λ j own. so_far) (λ j own. own)).law in
    let each : (i : ℕ) → i < run.initiators → (own : injectors H i ≡ false) → EachMoment (WholeAt run.start.disks (injectors H) i own) H =
    λ i b own. whole.after_lines line run r has small size so_far tame i (subst (λ n. i < n) (sym (count_after run run.entries)) b) own in
    record {
      carried = all_carried run.start.disks (injectors H) run.initiators H (run_inside line run r) each;
      answers =
          all_answers run.start.disks (injectors H) run.initiators H (run_inside line run r)
          (λ i b own.
          each_answer run.start.disks (injectors H) i own H (each i b own) (lengths.lengths line run r has small size tame i b own) passes (execution_run_law.after_lines line run r has small size so_far) (filled_behind line run run.entries r.lines));
    }
