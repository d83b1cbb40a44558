-- The part of Lawful that is of the bus: each note has its form and is inside the types of its fields, so that its text determines it, a write
-- is taken as new at most once, and the lines of the bus bring the deliveries, refusals and ends that they ask for. Once is for the initiators
-- outside a set, those that injected packets.
use Rattle.std.specs.Prelude.{ℕ, Bool, List}
use Rattle.sbp_journal.specs.Form.{HasForm}
use Rattle.sbp_journal.specs.Written.{IsTyped}
use Rattle.sbp_journal.specs.Run.{Run, Moment, asked, said, history}
use Rattle.sbp_laws.specs.Turns.{EachMoment}
use Rattle.sbp_laws.specs.OnceLaw.{OnceLaw}
use Rattle.sbp_laws.specs.LineLaw.{LineLaw}
use Rattle.sbp_laws.specs.Lawful.{FormAt, LawfulBut}

abbrev pub HasFormAt : Moment → List Moment → Type 0
HasFormAt (asked line event) past = Unit {0}
HasFormAt (said note) past = HasForm note

abbrev pub IsTypedAt : Moment → List Moment → Type 0
IsTypedAt (asked line event) past = Unit {0}
IsTypedAt (said note) past = IsTyped note

-- a run of numbers of any size: its notes have their form
pub record FormedOnTheBus (wild : ℕ → Bool) (run : Run) : Type 0 where
  pub form : EachMoment HasFormAt (history run.entries)
  pub once : OnceLaw wild (history run.entries)
  pub lines : LineLaw run.start run.entries

-- a run of notes inside their types
pub record LawfulOnTheBus (wild : ℕ → Bool) (run : Run) : Type 0 where
  pub form : EachMoment FormAt (history run.entries)
  pub once : OnceLaw wild (history run.entries)
  pub lines : LineLaw run.start run.entries

-- A lawful run is so; and so is a run of notes inside their types that have their form.
pub record IsPartOfLawful : Type 0 where
  pub lawful : (wild : ℕ → Bool) (run : Run) → LawfulBut wild run → LawfulOnTheBus wild run
  pub typed : (wild : ℕ → Bool) (run : Run) → FormedOnTheBus wild run → EachMoment IsTypedAt (history run.entries) → LawfulOnTheBus wild run
