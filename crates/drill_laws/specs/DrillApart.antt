-- What the slots of an initiator hold: no ORB that is over, and each ORB once.
use Rattle.std.specs.Prelude.{◌≡◌, ◌≤◌, ℕ, ◌+◌, true, false, if◌then◌else◌, List, [], ◌∷◌}
use Rattle.std.specs.List.{AllByRecursion}
use Rattle.sbp_journal.specs.Run.{Moment}
use Rattle.sbp_laws.specs.Lawful.{nobody}
use Rattle.sbp_laws.specs.Lists.{SlotState, is_orb, is_over, resting, slots, used, vacant}
use Rattle.sbp_laws.specs.OrderLaw.{OrderLaw}
use Rattle.drill_laws.specs.DrillSlots.{taken_slots}

abbrev pub IsKept : List Moment → ℕ → SlotState → Type 0
IsKept past i (used one) = is_over past i one ≡ false
IsKept past i slot = Unit {0}

-- how many slots hold an ORB
abbrev pub holds : (n k : ℕ) → SlotState → ℕ
holds n k (used one) = if is_orb one n k then 1 else 0
holds n k vacant = 0
holds n k resting = 0

abbrev pub held_in : (n k : ℕ) → List SlotState → ℕ
held_in n k [] = 0
held_in n k (slot ∷ rest) = holds n k slot + held_in n k rest

-- a slot that is free, or holds this ORB
abbrev pub IsOnly : (n k : ℕ) → SlotState → Type 0
IsOnly n k (used one) = is_orb one n k ≡ true
IsOnly n k vacant = Unit {0}
IsOnly n k resting = ⊥

pub record SlotsApart : Type 0 where
  pub kept : (past : List Moment) (i : ℕ) → AllByRecursion (IsKept past i) (slots past i)
  pub once : (past : List Moment) → OrderLaw nobody past → (i n k : ℕ) → held_in n k (slots past i) ≤ 1
  pub few : (past : List Moment) → OrderLaw nobody past → (i n k : ℕ) → AllByRecursion (IsOnly n k) (slots past i) → taken_slots (slots past i) ≤ 1
