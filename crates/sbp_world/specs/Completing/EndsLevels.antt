-- What was taken is of a generation that its receiver had seen (IEEE 1394-1995, bus resets): so behind a packet of the latest generation that was taken, no reset began, and its receiver has seen the
-- latest one.
use Rattle.std.specs.Prelude.{◌≡◌, ◌<◌, ◌≤◌, ℕ, List, Some}
use Rattle.sbp_journal.specs.Run.{Moment, said}
use Rattle.sbp_journal.specs.Transactions.{Sending}
use Rattle.sbp_journal.specs.Wire.{terms}
use Rattle.sbp_journal.specs.declared.note.Note.TheVariants as notes
use Rattle.sbp_laws.specs.Turns.{EachMoment}
use Rattle.sbp_world.specs.Completing.Labels.{AlwaysFrom}

-- a node sees the latest generation; and a reset begins a later one
abbrev pub RisesAt : Moment → List Moment → Type 0
RisesAt (said (notes.Seen node generation)) past = generation ≡ (terms past).bus
RisesAt (said (notes.Reset generation)) past = (terms past).bus < generation
RisesAt moment past = Unit {0}

abbrev pub AreRisen : List Moment → Type 0
AreRisen past = EachMoment RisesAt past

-- a packet that was taken is of a generation that its receiver had seen
pub record WasSeen (past : List Moment) (serial : ℕ) : Type 0 where
  pub packet : Sending
  pub sent : (terms past).sent serial ≡ Some packet
  pub seen : packet.generation ≤ (terms past).generation packet.to

-- a moment behind which it was taken: its receiver was in its generation, and that was the latest
pub record IsLevel (past : List Moment) (q : Sending) : Type 0 where
  pub here : (terms past).generation q.to ≡ q.generation
  pub latest : (terms past).bus ≡ q.generation

abbrev pub LevelAt : ℕ → Sending → Moment → List Moment → Type 0
LevelAt serial q moment past = 0 < (terms past).news serial → IsLevel past q

-- At each place of every run: of each packet that is of the latest generation.
abbrev pub AreLevel : List Moment → Type 0
AreLevel past = (serial : ℕ) (q : Sending) → (terms past).sent serial ≡ Some q → q.generation ≡ (terms past).bus → EachMoment (LevelAt serial q) past

abbrev pub LevelLaw : Type 0
LevelLaw = AlwaysFrom (λ start past w. AreLevel past)
