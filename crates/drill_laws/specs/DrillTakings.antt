-- How many ORBs of a run wait for their status at its end (NCITS 325-1998, status block): with those whose status was taken they are all that were appended.
use Rattle.std.specs.Prelude.{◌≡◌, ◌<◌, ℕ, ◌+◌, Bool, false, if◌then◌else◌, List, [], ◌∷◌}
use Rattle.rbc_disk.specs.Disk.{Disk}
use Rattle.sbp_journal.specs.Run.{Moment, asked, said}
use Rattle.sbp_journal.specs.declared.note.Note.{Note}
use Rattle.sbp_journal.specs.declared.note.Note.TheVariants as notes
use Rattle.sbp_laws.specs.Lawful.{nobody}
use Rattle.sbp_laws.specs.Lists.{is_none_taken, taken_at}
use Rattle.sbp_laws.specs.OnLists.{LawfulOnLists}
use Rattle.sbp_laws.specs.Terms.{appends}
use Rattle.drill_text.specs.Tally.{is_append, is_taken}

-- how many notes of a kind were said
abbrev pub told_in : (Note → Bool) → List Moment → ℕ
told_in kind [] = 0
told_in kind (asked line event ∷ past) = told_in kind past
told_in kind (said note ∷ past) = (if kind note then 1 else 0) + told_in kind past

-- how many of the ORBs that were appended up to a moment have no status, by what is known at the end
abbrev pub untaken : (all past : List Moment) → ℕ
untaken all [] = 0
untaken all (said (notes.Append i n k cdb buffer) ∷ past) = (if is_none_taken (taken_at all i n k) then 1 else 0) + untaken all past
untaken all (_ ∷ past) = untaken all past

-- each ORB that was appended has its status
abbrev pub AllTaken : List Moment → Type 0
AllTaken past = (i n k : ℕ) → k < appends past i n → is_none_taken (taken_at past i n k) ≡ false

-- Where nobody injected packets: what was appended was taken, but for the ORBs that wait; so where each has its status, as many statuses were taken as ORBs were appended.
pub record TakingsLaw : Type 0 where
  pub counted : (start : List Disk) (past : List Moment) → LawfulOnLists nobody start past → told_in is_append past ≡ told_in is_taken past + untaken past past
  pub all : (start : List Disk) (past : List Moment) → LawfulOnLists nobody start past → AllTaken past → told_in is_append past ≡ told_in is_taken past
