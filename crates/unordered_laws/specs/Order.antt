-- In which order the ORBs of a list are read (NCITS 325-1998, command block agents), read off what calls tell.
use Rattle.std.specs.Prelude.{◌≡◌, ℕ, List, [], ◌∷◌, ◌⊎◌, Option, Some, None}
use Rattle.orb_layout.specs.declared.pointer.OrbPointer.{OrbPointer}
use Rattle.orb_layout.specs.declared.pointer.OrbPointer.TheVariants.{Null, At}
use Rattle.unordered_laws.specs.Calls.{Call}
use Rattle.unordered_laws.specs.Notes.{Note, Pointed, Got, Reread, aligned, notes, reading_in}

-- the ORB that a pointer names
abbrev pub named : OrbPointer → Option ℕ
named Null = None
named (At offset) = Some (aligned offset)

-- the ORB that the pointer taken last names
abbrev pub first_in : List Note → Option ℕ
first_in [] = None
first_in (Pointed at ∷ ns) = Some at
first_in (_ ∷ ns) = first_in ns

abbrev pub relinked : OrbPointer → List (ℕ × OrbPointer) → List (ℕ × OrbPointer)
relinked next [] = []
relinked next ((at, old) ∷ before) = (at, next) ∷ before

-- the ORBs that were fetched since that pointer was taken, the latest first, each with its next pointer as it was last read
abbrev pub orbs_in : List Note → List (ℕ × OrbPointer)
orbs_in [] = []
orbs_in (Pointed at ∷ ns) = []
orbs_in (Got place at next ∷ ns) = (at, next) ∷ orbs_in ns
orbs_in (Reread next ∷ ns) = relinked next (orbs_in ns)
orbs_in (_ ∷ ns) = orbs_in ns

-- the one to be fetched behind these: the one pointed to, and then the one that the next pointer of the last one names
abbrev pub next_of : Option ℕ → List (ℕ × OrbPointer) → Option ℕ
next_of first [] = first
next_of first ((at, next) ∷ before) = named next

abbrev pub last_of : List (ℕ × OrbPointer) → Option ℕ
last_of [] = None
last_of ((at, next) ∷ before) = Some at

-- They are, in order, the one pointed to and then each that the next pointer last read of the one before names.
abbrev pub IsChain : Option ℕ → List (ℕ × OrbPointer) → Type 0
IsChain first [] = Unit {0}
IsChain first ((at, next) ∷ before) = (next_of first before ≡ Some at) × IsChain first before

-- What the fetcher reads are the 32 bytes of the one to be fetched, or, where the next pointer of the last one is null, the 8 bytes of that pointer.
abbrev pub Reads : Option ℕ → List (ℕ × OrbPointer) → ℕ → ℕ → Type 0
Reads first orbs offset size =
    ((next_of first orbs ≡ Some offset) × (size ≡ 32)) ⊎ ((next_of first orbs ≡ None) × (last_of orbs ≡ Some offset) × (size ≡ 8))

-- Over every list of calls.
abbrev pub CallsKeepOrder : Type 0
CallsKeepOrder = (calls : List Call) → IsChain (first_in (notes calls)) (orbs_in (notes calls))

abbrev pub CallsReadInOrder : Type 0
CallsReadInOrder = (calls : List Call) (offset size : ℕ) → reading_in (notes calls) ≡ Some (offset, size) → Reads (first_in (notes calls)) (orbs_in (notes calls)) offset size
