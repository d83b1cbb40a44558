-- How many slots of an initiator are not free: each ORB that it prepares takes one at most, and nothing else takes any; so with fewer than 32 of them one is free.
use Rattle.std.specs.Prelude.{◌≡◌, ◌≤◌, ◌<◌, ℕ, ◌+◌, ◌==◌, false, if◌then◌else◌, List, [], ◌∷◌}
use Rattle.sbp_journal.specs.Run.{Moment, said}
use Rattle.sbp_journal.specs.declared.note.Note.{Note}
use Rattle.sbp_journal.specs.declared.note.Note.TheVariants as notes
use Rattle.sbp_laws.specs.Lists.{SlotState, is_vacant, lowest_vacant, slots}

abbrev pub taken_slots : List SlotState → ℕ
taken_slots [] = 0
taken_slots (slot ∷ rest) = (if is_vacant slot then 0 else 1) + taken_slots rest

-- an ORB that the initiator prepares
abbrev pub prepared_by : ℕ → Note → ℕ
prepared_by i (notes.Append j n k cdb buffer) = if j == i then 1 else 0
prepared_by i note = 0

pub record SlotsLaw : Type 0 where
  pub rise : (past : List Moment) (note : Note) (i : ℕ) → taken_slots (slots (said note ∷ past) i) ≤ taken_slots (slots past i) + prepared_by i note
  pub room : (past : List Moment) (i : ℕ) → taken_slots (slots past i) < 32 → (lowest_vacant (slots past i) == 32) ≡ false
