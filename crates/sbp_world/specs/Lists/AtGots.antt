-- What is said of each packet as it is got, by the history before it.
use Rattle.std.specs.Prelude.{ℕ, List}
use Rattle.sbp_journal.specs.Run.{Moment, said}
use Rattle.sbp_journal.specs.declared.note.Note.TheVariants as notes

-- of the packet with a serial
abbrev pub AtGot : (List Moment → ℕ → Type 0) → Moment → List Moment → Type 0
AtGot Says (said (notes.Got serial)) past = Says past serial
AtGot Says moment past = Unit {0}
