-- A history is read in turns. A turn begins with the line that asks for an event, or with a note that brings others about: a packet that
-- is got or ignored, a time-out, a reset that a node sees, a second, the end of a settle. It has the notes behind it, up to the next turn
-- or to the end of its entry. A delivery is the turn of a packet.
use Rattle.std.specs.Prelude.{ℕ, Bool, true, false, if◌then◌else◌, List, [], ◌∷◌, ◌++◌, map, Option, Some, None}
use Rattle.sbp_journal.specs.Run.{Moment, asked, said}
use Rattle.sbp_journal.specs.declared.event.Event.{Event}
use Rattle.sbp_journal.specs.declared.note.Note.{Note}
use Rattle.sbp_journal.specs.declared.note.Note.TheVariants as notes

-- what stood before a turn, the latest moment first; what the turn begins with; and the notes behind it, in the order of time
pub record Turn : Type 0 where
  pub past : List Moment
  pub start : Moment
  pub rest : List Note

abbrev pub turn : List Moment → Moment → List Note → Turn
turn past start rest = record { past = past; start = start; rest = rest }

-- a condition, where it counts
abbrev pub Where : Bool → Type 0 → Type 0
Where true holds = holds
Where false holds = Unit {0}

-- ---- each moment of a history meets a condition on it and on what stood before it
module _ (At : Moment → List Moment → Type 0) where
  abbrev pub EachMoment : List Moment → Type 0
  EachMoment [] = Unit {0}
  EachMoment (moment ∷ past) = At moment past × EachMoment past

-- each turn of a history meets a condition; `rest` are the notes behind the history that are of its last turn
module _ (Law : Turn → Type 0) where
  abbrev pub EachTurnBefore : List Moment → List Note → Type 0
  EachTurnBefore [] rest = Unit {0}
  EachTurnBefore (asked line event ∷ past) rest = Law (turn past (asked line event) rest) × EachTurnBefore past []
  EachTurnBefore (said (notes.Got serial) ∷ past) rest = Law (turn past (said (notes.Got serial)) rest) × EachTurnBefore past []
  EachTurnBefore (said (notes.Ignored serial cause) ∷ past) rest = Law (turn past (said (notes.Ignored serial cause)) rest) × EachTurnBefore past []
  EachTurnBefore (said (notes.TimedOut serial) ∷ past) rest = Law (turn past (said (notes.TimedOut serial)) rest) × EachTurnBefore past []
  EachTurnBefore (said (notes.Seen node generation) ∷ past) rest = Law (turn past (said (notes.Seen node generation)) rest) × EachTurnBefore past []
  EachTurnBefore (said notes.Tick ∷ past) rest = Law (turn past (said notes.Tick) rest) × EachTurnBefore past []
  EachTurnBefore (said notes.Settled ∷ past) rest = Law (turn past (said notes.Settled) rest) × EachTurnBefore past []
  EachTurnBefore (said notes.Stopped ∷ past) rest = Law (turn past (said notes.Stopped) rest) × EachTurnBefore past []
  EachTurnBefore (said note ∷ past) rest = EachTurnBefore past (note ∷ rest)

  abbrev pub EachTurn : List Moment → Type 0
  EachTurn past = EachTurnBefore past []

-- ---- the same of one entry: a line that asked for an event behind a history, with these notes, the latest one first
abbrev pub behind : List Moment → (line : ℕ) → Event → List Note → List Moment
behind past line event told = map said told ++ asked line event ∷ past

module _ (At : Moment → List Moment → Type 0) (past : List Moment) (line : ℕ) (event : Event) where
  abbrev pub EachMomentOf : List Note → Type 0
  EachMomentOf [] = At (asked line event) past
  EachMomentOf (note ∷ told) = At (said note) (behind past line event told) × EachMomentOf told

module _ (Law : Turn → Type 0) (past : List Moment) (line : ℕ) (event : Event) where
  abbrev pub EachTurnIn : List Note → List Note → Type 0
  EachTurnIn [] rest = Law (turn past (asked line event) rest)
  EachTurnIn (notes.Got serial ∷ told) rest = Law (turn (behind past line event told) (said (notes.Got serial)) rest) × EachTurnIn told []
  EachTurnIn (notes.Ignored serial cause ∷ told) rest = Law (turn (behind past line event told) (said (notes.Ignored serial cause)) rest) × EachTurnIn told []
  EachTurnIn (notes.TimedOut serial ∷ told) rest = Law (turn (behind past line event told) (said (notes.TimedOut serial)) rest) × EachTurnIn told []
  EachTurnIn (notes.Seen node generation ∷ told) rest = Law (turn (behind past line event told) (said (notes.Seen node generation)) rest) × EachTurnIn told []
  EachTurnIn (notes.Tick ∷ told) rest = Law (turn (behind past line event told) (said notes.Tick) rest) × EachTurnIn told []
  EachTurnIn (notes.Settled ∷ told) rest = Law (turn (behind past line event told) (said notes.Settled) rest) × EachTurnIn told []
  EachTurnIn (notes.Stopped ∷ told) rest = Law (turn (behind past line event told) (said notes.Stopped) rest) × EachTurnIn told []
  EachTurnIn (note ∷ told) rest = EachTurnIn told (note ∷ rest)

  abbrev pub EachTurnOf : List Note → Type 0
  EachTurnOf told = EachTurnIn told []

-- the event of the latest line
abbrev pub event_of : List Moment → Option Event
event_of [] = None
event_of (asked line event ∷ past) = Some event
event_of (said note ∷ past) = event_of past

-- the notes of a turn before its packets, and the packets that it sends
abbrev pub is_sent : Note → Bool
is_sent (notes.Sent serial generation from to bytes) = true
is_sent _ = false

abbrev pub effects_of : List Note → List Note
effects_of [] = []
effects_of (note ∷ rest) = if is_sent note then effects_of rest else note ∷ effects_of rest

abbrev pub sends_of : List Note → List Note
sends_of [] = []
sends_of (note ∷ rest) = if is_sent note then note ∷ sends_of rest else sends_of rest
