-- What is counted and summed of a journal.
use Rattle.std.specs.Prelude.{ℕ, Bool, true, false, List, length, map}
use Rattle.std.specs.List.{count_by}
use Rattle.orb_layout.specs.declared.status.StatusKind.{StatusKind}
use Rattle.orb_layout.specs.declared.status.StatusKind.TheVariants.{Good}
use Rattle.sbp_journal.specs.declared.note.Note.{Note}
use Rattle.sbp_journal.specs.declared.note.Note.TheVariants.{Append, Taken}
use Rattle.sbp_journal.specs.Text.{note_text}
use Rattle.drill_text.specs.Sums.{behind_lines}

abbrev pub is_append : Note → Bool
is_append (Append initiator list orb cdb buffer) = true
is_append _ = false

abbrev pub is_taken : Note → Bool
is_taken (Taken initiator list orb status answer) = true
is_taken _ = false

abbrev pub is_good_status : StatusKind → Bool
is_good_status Good = true
is_good_status _ = false

abbrev pub is_good : Note → Bool
is_good (Taken initiator list orb status answer) = is_good_status status
is_good _ = false

-- how many notes there are, how many of them tell an append, a status that was taken and one that is good; and the sum over
-- the lines of all
pub record TallyState : Type 0 where
  pub notes : ℕ
  pub appended : ℕ
  pub taken : ℕ
  pub good : ℕ
  pub sum : ℕ

unfoldable pub tally_of : List Note → TallyState
tally_of notes = record {
  notes = length notes;
  appended = count_by is_append notes;
  taken = count_by is_taken notes;
  good = count_by is_good notes;
  sum = behind_lines 0 (map note_text notes);
}
