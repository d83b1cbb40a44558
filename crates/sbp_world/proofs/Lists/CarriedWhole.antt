-- The carried law of every run in which no initiator injected packets, or few logins were given: of what ran and of what ended, of the answers that were taken, and of where commands run.
use Rattle.sbp_world.proofs.Words.Std.{ℕ, Bool, List, [], ◌∷◌, Option, Some, None}
use Rattle.sbp_world.proofs.Words.Wire.{Moment, asked, said, Note}
use Rattle.sbp_world.proofs.Words.Target.{Disk}
use Rattle.sbp_world.proofs.Words.Initiator.{StatusKind}
use Rattle.sbp_world.proofs.Words.Laws.{CarriedAt, injectors, nobody, EachMoment}
use Rattle.sbp_world.proofs.Words.World.{history_of, AnswerCarriedAt, AnswersHoldLaw, EndIsCarriedAt, WereReadLaw, CarriedRunLaw, ReadAndFedAt, ReadAndFedLaw}
use Rattle.orb_layout.specs.declared.status.StatusKind.TheVariants as kinds
use Rattle.sbp_journal.specs.declared.note.Note.TheVariants as notes
use Rattle.sbp_world.proofs.Lists.Executes.{due_runs_law}

module _ (wild : ℕ → Bool) (start : List Disk) (past : List Moment) where
  -- ---- a run
  by_run : (i : ℕ) (list number : Option ℕ) (unit : ℕ) (cdb bytes : List ℕ) (check : _) → ReadAndFedAt wild start (said (notes.Ran i list number unit cdb bytes check)) past → CarriedAt wild start (said (notes.Ran i list number unit cdb bytes check)) past
  by_run i (Some n) (Some k) unit cdb bytes check e = λ own. (e own).whole
  by_run i (Some n) None unit cdb bytes check e = tt
  by_run i None number unit cdb bytes check e = tt

  -- ---- an end
  by_status : (i n k : ℕ) (status : StatusKind) → EndIsCarriedAt wild start (said (notes.Ended i (Some n) (Some k) status)) past → CarriedAt wild start (said (notes.Ended i (Some n) (Some k) status)) past
  by_status i n k kinds.Failed e = tt
  by_status i n k kinds.Good e = e
  by_status i n k (kinds.Check sense) e = e
  by_status i n k kinds.Dummy e = e
  by_status i n k kinds.Aborted e = e
  by_status i n k (kinds.Illegal meaning) e = e
  by_status i n k (kinds.Management meaning) e = e

  by_end : (i : ℕ) (list number : Option ℕ) (status : StatusKind) → EndIsCarriedAt wild start (said (notes.Ended i list number status)) past → CarriedAt wild start (said (notes.Ended i list number status)) past
  by_end i (Some n) (Some k) status e = by_status i n k status e
  by_end i (Some n) None status e = tt
  by_end i None number status e = tt

  -- ---- an answer
  by_answer : (i n k : ℕ) (status : StatusKind) (answer : List ℕ) → AnswerCarriedAt wild (said (notes.Taken i n k status answer)) past → CarriedAt wild start (said (notes.Taken i n k status answer)) past
  by_answer i n k kinds.Good answer e = e
  by_answer i n k status answer e = tt

  by_note : (note : Note) → ReadAndFedAt wild start (said note) past → EndIsCarriedAt wild start (said note) past → AnswerCarriedAt wild (said note) past → CarriedAt wild start (said note) past
  by_note (notes.Ran i list number unit cdb bytes check) runs ends answers = by_run i list number unit cdb bytes check runs
  by_note (notes.Ended i list number status) runs ends answers = by_end i list number status ends
  by_note (notes.Taken i n k status answer) runs ends answers = by_answer i n k status answer answers
  by_note note runs ends answers = tt

  by_moment : (m : Moment) → ReadAndFedAt wild start m past → EndIsCarriedAt wild start m past → AnswerCarriedAt wild m past → CarriedAt wild start m past
  by_moment (asked line event) runs ends answers = tt
  by_moment (said note) runs ends answers = by_note note runs ends answers

-- ---- at each moment
module _ (wild : ℕ → Bool) (start : List Disk) where
  all_carried : (past : List Moment) → EachMoment (ReadAndFedAt wild start) past → EachMoment (EndIsCarriedAt wild start) past → EachMoment (AnswerCarriedAt wild) past → EachMoment (CarriedAt wild start) past
  all_carried [] runs ends answers = tt
  all_carried (m ∷ past) runs ends answers = (by_moment wild start past m runs.0 ends.0 answers.0, all_carried past runs.1 ends.1 answers.1)

-- ---- over a run
pub carried_run_law : ReadAndFedLaw → WereReadLaw → AnswersHoldLaw → CarriedRunLaw
carried_run_law feeds reads answers line run r has small size tame =
    let past = history_of line run in
    record {
      carried =
          all_carried (injectors past) run.start.disks past (feeds.after_lines line run r has small size tame) (reads.after_lines line run r has small size tame).1
          (answers line run r has small size tame).carried;
      due = due_runs_law.after_lines line run r has small size nobody;
    }
