-- The bytes of lines, and their limits.
use Rattle.std.specs.Prelude.{◌≡◌, ◌⊎◌, ◌++◌, ℕ, ◌-◌, ◌==◌, ◌&&◌, ◌||◌, nat_lt, Bool, false, not, if◌then◌else◌, List, [], ◌∷◌, length, slice_index, Option, Some, None}
use Rattle.std.specs.List.{AllByRecursion}

-- no line feed stands in these bytes
abbrev pub NoFeed : List ℕ → Type 0
NoFeed bytes = AllByRecursion (λ byte. (byte == 10) ≡ false) bytes

-- whole lines: no bytes, or bytes that end with a line feed
abbrev pub IsWhole : List ℕ → Type 0
IsWhole bytes = (bytes ≡ []) ⊎ ((front : List ℕ) × (bytes ≡ front ++ 10 ∷ []))

-- a line that is too long whatever follows: more than 8,193 bytes, or 8,193 of which the last is no carriage return
abbrev pub is_surely_long : List ℕ → Bool
is_surely_long rest = nat_lt 8193 (length rest) || (nat_lt 8192 (length rest) && not (slice_index rest (length rest - 1) == 13))

-- the numbers of the faults of a line that is too long, and of one line too many
abbrev pub too_long : ℕ
too_long = 1

abbrev pub too_many : ℕ
too_many = 2

-- the fault of a line by its number and its length alone: its number comes first
abbrev pub limit_fault : ℕ → List ℕ → Option ℕ
limit_fault number line = if nat_lt 65536 number then Some too_many else if nat_lt 8192 (length line) then Some too_long else None

-- the fault of a line that is too long, by its number
abbrev pub long_fault : ℕ → ℕ
long_fault number = if nat_lt 65536 number then too_many else too_long
