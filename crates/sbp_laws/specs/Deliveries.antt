-- Deliveries one after the other, as `deliver`, `step` and `settle` bring them: each of the lowest serial in flight, so many, or until none is
-- in flight.
use Rattle.std.specs.Prelude.{◌≡◌, ℕ, suc, ◌≤◌, ◌||◌, ◌⊎◌, Bool, true, false, List, [], ◌∷◌, ◌++◌, map, reverse, Option, Some, None}
use Rattle.sbp_journal.specs.Run.{Moment, said}
use Rattle.sbp_journal.specs.Wire.{terms}
use Rattle.sbp_journal.specs.declared.note.Note.{Note}
use Rattle.sbp_journal.specs.declared.note.Note.TheVariants as notes
use Rattle.sbp_laws.specs.Turns.{is_sent}
use Rattle.sbp_laws.specs.Budget.{lowest_in_flight, settle_deliveries}
use Rattle.sbp_laws.specs.NoteKinds.{is_cut_note, is_cleared_note, is_failure_note, is_end_note, is_operation_note}
use Rattle.sbp_laws.specs.LoginLaw.{is_login_note, is_decision_note}
use Rattle.sbp_laws.specs.MediaLaw.{is_push_note, is_told_note}

-- ---- turns
-- a note that begins a delivery, and its serial
abbrev pub delivered_by : Note → Option ℕ
delivered_by (notes.Got serial) = Some serial
delivered_by (notes.Ignored serial cause) = Some serial
delivered_by note = None

-- a note that stands behind the first one of a turn: neither such a one, nor one that a line alone brings
abbrev pub is_run_note : Note → Bool
is_run_note (notes.Ran i list number unit cdb bytes check) = true
is_run_note note = false

abbrev pub is_taken_note : Note → Bool
is_taken_note (notes.Taken i n k status answer) = true
is_taken_note note = false

abbrev pub is_effect : Note → Bool
is_effect note =
    is_cut_note note || is_cleared_note note || is_login_note note || is_decision_note note || is_failure_note note || is_run_note note || is_end_note note
    || is_push_note note || is_told_note note || is_taken_note note || is_operation_note note || is_sent note

abbrev pub AreEffects : List Note → Type 0
AreEffects [] = Unit {0}
AreEffects (note ∷ rest) = (is_effect note ≡ true) × AreEffects rest

-- one delivery of a packet
abbrev pub IsDelivery : ℕ → List Note → Type 0
IsDelivery serial [] = ⊥
IsDelivery serial (note ∷ rest) = (delivered_by note ≡ Some serial) × AreEffects rest

-- a note, and its effects
abbrev pub IsTurnOf : Note → List Note → Type 0
IsTurnOf first [] = ⊥
IsTurnOf first (note ∷ rest) = (note ≡ first) × AreEffects rest

-- Deliveries one after the other, each of the lowest serial in flight before it. `past` is what stands before the notes.
abbrev pub AreLowest : List Moment → List Note → Type 0
AreLowest past [] = Unit {0}
AreLowest past (notes.Got serial ∷ rest) = (lowest_in_flight (terms past) ≡ Some serial) × AreLowest (said (notes.Got serial) ∷ past) rest
AreLowest past (notes.Ignored serial cause ∷ rest) = (lowest_in_flight (terms past) ≡ Some serial) × AreLowest (said (notes.Ignored serial cause) ∷ past) rest
AreLowest past (note ∷ rest) = (is_effect note ≡ true) × AreLowest (said note ∷ past) rest

abbrev pub deliveries : List Note → ℕ
deliveries [] = 0
deliveries (notes.Got serial ∷ rest) = suc (deliveries rest)
deliveries (notes.Ignored serial cause ∷ rest) = suc (deliveries rest)
deliveries (note ∷ rest) = deliveries rest

-- the first of them begins with a delivery
abbrev pub BeginsDelivery : List Note → Type 0
BeginsDelivery [] = Unit {0}
BeginsDelivery (notes.Got serial ∷ rest) = Unit {0}
BeginsDelivery (notes.Ignored serial cause ∷ rest) = Unit {0}
BeginsDelivery (note ∷ rest) = ⊥

-- the history once these notes were told, in the order of time
abbrev pub once_told : List Moment → List Note → List Moment
once_told past told = map said (reverse told) ++ past

abbrev pub NoneFlies : List Moment → Type 0
NoneFlies past = lowest_in_flight (terms past) ≡ None

-- so many deliveries of the lowest packet, or fewer where none is in flight any more
pub record AreDeliveries (past : List Moment) (most : ℕ) (told : List Note) : Type 0 where
  pub begins : BeginsDelivery told
  pub lowest : AreLowest past told
  pub few : deliveries told ≤ most
  pub all : (deliveries told ≡ most) ⊎ NoneFlies (once_told past told)

-- a settle: the same up to a budget, and whether it came to rest; and up to its own budget
abbrev pub EndsSettle : List Moment → (most : ℕ) → List Note → Note → Type 0
EndsSettle past most told notes.Settled = NoneFlies (once_told past told)
EndsSettle past most told notes.Stopped = (deliveries told ≡ most) × (NoneFlies (once_told past told) → ⊥)
EndsSettle past most told note = ⊥

pub record SettlesWithin (most : ℕ) (past : List Moment) (told : List Note) : Type 0 where
  pub before : List Note
  pub last : Note
  pub is : told ≡ before ++ last ∷ []
  pub delivers : AreDeliveries past most before
  pub ends : EndsSettle past most before last

abbrev pub Settles : List Moment → List Note → Type 0
Settles past told = SettlesWithin (settle_deliveries past) past told
