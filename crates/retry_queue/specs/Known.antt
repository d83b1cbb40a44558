-- What a queue learned of its submissions from the notes of its world. A submission has its status once a status good or check was taken
-- of an ORB that was appended for it.
use Rattle.std.specs.Prelude.{ℕ, zero, suc, ◌+◌, Bool, true, false, if◌then◌else◌, List, [], ◌∷◌, Option, Some, None}
use Rattle.sbp_base.specs.Update.{upd}
use Rattle.orb_layout.specs.declared.status.StatusKind.{StatusKind}
use Rattle.orb_layout.specs.declared.status.StatusKind.TheVariants as kinds
use Rattle.sbp_journal.specs.Run.{said}
use Rattle.sbp_journal.specs.declared.note.Note.TheVariants as notes
use Rattle.retry_queue.specs.Steps.{Step, of_world}

-- a status that a submission has as its own; all others are none, and the write is sent again
abbrev pub is_final : StatusKind → Bool
is_final kinds.Good = true
is_final (kinds.Check sense) = true
is_final _ = false

-- How many submissions have a status; of each list the submission that its ORB 0 was appended for; and which submissions have a status.
-- ORB k of a list is that of the submission k behind the list's first one.
pub record Known : Type 0 where
  pub done : ℕ
  pub first : ℕ → ℕ
  pub has : ℕ → Bool

abbrev pub new_known : Known
new_known = record { done = 0; first = λ n. 0; has = λ q. false }

-- a list begins with the first submission without a status
abbrev pub begins_list : ℕ → Known → Known
begins_list n known = record known { first = upd known.first n known.done }

-- a status of ORB k of list n was taken
abbrev pub finishes : (n k : ℕ) → StatusKind → Known → Known
finishes n k status known =
    if is_final status then record known { done = suc known.done; has = upd known.has (known.first n + k) true } else known

abbrev pub known : List Step → Known
known [] = new_known
known (of_world (said (notes.Append zero n zero cdb buffer)) ∷ past) = begins_list n (known past)
known (of_world (said (notes.Taken zero n k status answer)) ∷ past) = finishes n k status (known past)
known (_ ∷ past) = known past

-- the `written` that has to stand next: behind a status that a submission has as its own
abbrev pub written_by : ℕ → StatusKind → Bool → Option (ℕ × StatusKind)
written_by number status true = Some (number, status)
written_by number status false = None

abbrev pub written_due : List Step → Option (ℕ × StatusKind)
written_due (of_world (said (notes.Taken zero n k status answer)) ∷ past) = written_by ((known past).first n + k) status (is_final status)
written_due _ = None
