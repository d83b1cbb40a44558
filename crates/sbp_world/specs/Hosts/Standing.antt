-- Where a response stands, in every run (IEEE 1394-1995, split transactions): one that was not injected is owed, and right behind the note that its
-- request was got, or ignored for a cause, with nothing of the bus between them.
use Rattle.std.specs.Prelude.{◌≡◌, ℕ, false, List, ◌∷◌, ◌++◌, map, true, Option, Some, None}
use Rattle.std.specs.List.{AllByRecursion}
use Rattle.bus_transactions.specs.May.{is_plain}
use Rattle.sbp_journal.specs.Run.{Moment, said}
use Rattle.sbp_journal.specs.Transactions.{Kind, part_of, response}
use Rattle.sbp_journal.specs.Wire.{Owed, terms}
use Rattle.sbp_journal.specs.declared.cause.Cause.{Cause}
use Rattle.sbp_journal.specs.declared.note.Note.{Note}
use Rattle.sbp_journal.specs.declared.note.Note.TheVariants as notes
use Rattle.sbp_world.specs.Histories.{history_of}
use Rattle.sbp_world.specs.Runs.{Run}
use Rattle.sbp_world.specs.Hosts.Runs.{IsRun}

-- how a request was judged
abbrev pub note_of : ℕ → Option Cause → Note
note_of serial None = notes.Got serial
note_of serial (Some cause) = notes.Ignored serial cause

pub record StandsBehind (before : List Moment) (owed : Owed) : Type 0 where
  pub effects : List Note
  pub plain : AllByRecursion (λ note. is_plain note ≡ true) effects
  pub past : List Moment
  pub is : before ≡ map said effects ++ said (note_of owed.serial owed.cause) ∷ past

pub record IsOwedThere (before : List Moment) : Type 0 where
  pub owed : Owed
  pub owes : (terms before).owes ≡ Some owed
  pub stands : StandsBehind before owed

pub record StandingLaw : Type 0 where
  pub responses : (line : ℕ) (run : Run) → IsRun run → (later before : List Moment) (serial generation from to : ℕ) (bytes : List ℕ) (label : ℕ) (kind : Kind) → later ++ said (notes.Sent serial generation from to bytes) ∷ before ≡ history_of line run → (terms before).injected serial ≡ false → part_of bytes ≡ response label kind → IsOwedThere before
