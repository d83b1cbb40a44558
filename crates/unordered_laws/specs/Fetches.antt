-- The fetch rule, and how many ORBs are worked at once, read off what calls tell.
use Rattle.std.specs.Prelude.{◌≡◌, ◌<◌, ◌≤◌, ◌-◌, ℕ, suc, is_some, if◌then◌else◌, Bool, true, false, List, [], ◌∷◌, ◌⊎◌, Some, None}
use Rattle.unordered_laws.specs.Calls.{Call}
use Rattle.unordered_laws.specs.Notes.{Note, Pointed, Rung, Got, Answered, Sent, ask_of, notes, reading_in, under_way, is_open, is_dead}
use Rattle.unordered_laws.specs.Order.{first_in, orbs_in, next_of, last_of}
use Rattle.unordered_laws.specs.Stages.{stage, is_vacant}

-- a doorbell came since the fetcher last sent a read of an ORB or of a next pointer
abbrev pub rung_since : List Note → Bool
rung_since [] = false
rung_since (Rung ∷ ns) = true
rung_since (Sent asks ∷ ns) = if is_some (ask_of 8 asks) then false else rung_since ns
rung_since (_ ∷ ns) = rung_since ns

-- how many ORBs of the list were fetched whose status write was not answered
abbrev pub unanswered : List Note → ℕ
unanswered [] = 0
unanswered (Pointed at ∷ ns) = 0
unanswered (Got place at next ∷ ns) = suc (unanswered ns)
unanswered (Answered place ∷ ns) = unanswered ns - 1
unanswered (_ ∷ ns) = unanswered ns

-- Each ORB that was fetched and whose status write was not answered has a request under way. Where fewer than 8 ORBs are such, the next one is being read: the one pointed to where none was fetched yet, else the one that the next pointer last read of the last one names. Where that pointer is null, no doorbell came since its read was sent, or it is being read again.
pub record FetchesOn (ns : List Note) : Type 0 where
  pub tasks : (place : ℕ) → place < 8 → is_vacant (stage place ns) ≡ false → under_way place ns ≡ true
  pub next : (at : ℕ) → unanswered ns < 8 → next_of (first_in ns) (orbs_in ns) ≡ Some at → reading_in ns ≡ Some (at, 32)
  pub last : (at : ℕ) → next_of (first_in ns) (orbs_in ns) ≡ None → last_of (orbs_in ns) ≡ Some at → (rung_since ns ≡ false) ⊎ (reading_in ns ≡ Some (at, 8))

-- After every list of calls, while a list is open and the agent is not dead.
abbrev pub CallsFetchOn : Type 0
CallsFetchOn = (calls : List Call) → is_open (notes calls) ≡ true → is_dead (notes calls) ≡ false → FetchesOn (notes calls)

-- After every list of calls at most 8 ORBs of a list were fetched and are unanswered.
abbrev pub EightLaw : Type 0
EightLaw = (calls : List Call) → unanswered (notes calls) ≤ 8
