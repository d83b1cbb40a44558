-- How far the ORB in each task place is, read off what calls tell: it runs at most once, and then ends, once.
use Rattle.std.specs.Prelude.{◌≡◌, ◌<◌, ℕ, ◌==◌, Bool, true, false, if◌then◌else◌, List, [], ◌∷◌, ◌⊎◌, None}
use Rattle.orb_layout.specs.declared.ask.Ask.{Ask}
use Rattle.orb_layout.specs.declared.pointer.OrbPointer.{OrbPointer}
use Rattle.orb_layout.specs.declared.pointer.OrbPointer.TheVariants.{Null, At}
use Rattle.orb_layout.specs.declared.status.StatusKind.{StatusKind}
use Rattle.orb_layout.specs.StatusBlocks.{status_bytes}
use Rattle.unordered_laws.specs.Calls.{Call}
use Rattle.unordered_laws.specs.Notes.{Note, Cut, Got, Reread, Ran, Ended, Answered, Sent, Died, notes, reading_in, under_way}

-- how far the ORB in a place is
pub data Stage : Type 0 where
  Vacant : Stage
  Waiting : Stage
  Running : Stage
  Ending : Stage

abbrev pub stage : ℕ → List Note → Stage
stage place [] = Vacant
stage place (Got other at next ∷ ns) = if other == place then Waiting else stage place ns
stage place (Ran other ∷ ns) = if other == place then Running else stage place ns
stage place (Ended other kind bytes ∷ ns) = if other == place then Ending else stage place ns
stage place (Answered other ∷ ns) = if other == place then Vacant else stage place ns
stage place (Died ∷ ns) = Vacant
stage place (Cut ∷ ns) = Vacant
stage place (_ ∷ ns) = stage place ns

-- it did not end
abbrev pub is_working : Stage → Bool
is_working Waiting = true
is_working Running = true
is_working _ = false

abbrev pub is_vacant : Stage → Bool
is_vacant Vacant = true
is_vacant _ = false

-- the place that the last ORB took
abbrev pub newest_in : List Note → ℕ
newest_in [] = 0
newest_in (Got place at next ∷ ns) = place
newest_in (_ ∷ ns) = newest_in ns

abbrev pub with_next : OrbPointer → ℕ × OrbPointer → ℕ × OrbPointer
with_next next orb = (orb.0, next)

-- the last ORB in a place: the address that it was read at, and its next pointer as it was last read
abbrev pub seat : ℕ → List Note → ℕ × OrbPointer
seat place [] = (0, Null)
seat place (Got other at next ∷ ns) = if other == place then (at, next) else seat place ns
seat place (Reread next ∷ ns) = if newest_in ns == place then with_next next (seat place ns) else seat place ns
seat place (_ ∷ ns) = seat place ns

-- src is 0 where that pointer is not null, and 1 where it is, or was not read
abbrev pub src_by : OrbPointer → ℕ
src_by Null = 1
src_by (At offset) = 0

-- its status block: src by that pointer, its kind and its address
abbrev pub block_for : ℕ × OrbPointer → StatusKind → List ℕ
block_for orb kind = status_bytes (record { src = src_by orb.1; kind = kind; orb = orb.0 })

-- A request is sent where none of its place is under way: by the fetcher, or for the ORB in a place, until it is answered.
abbrev pub MaySend : ℕ → List Note → Type 0
MaySend place ns = ((place ≡ 8) × (reading_in ns ≡ None)) ⊎ ((is_vacant (stage place ns) ≡ false) × (under_way place ns ≡ false))

abbrev pub MaySendAll : List (ℕ × Ask) → List Note → Type 0
MaySendAll [] ns = Unit {0}
MaySendAll ((place, ask) ∷ asks) ns = MaySend place ns × MaySendAll asks ns

-- An ORB takes a place below 8 that is vacant, the lowest: of each lower one a transaction is under way. It runs at most once, before it ends, and it ends once, by the status block that names it. One transaction of a place is under way at a time, and one of the fetcher. For an ORB whose agent became dead, or whose list was cut, nothing is sent, run or ended after that.
abbrev pub Lawful : List Note → Type 0
Lawful [] = Unit {0}
Lawful (Got place at next ∷ ns) = (place < 8) × (stage place ns ≡ Vacant) × ((lower : ℕ) → lower < place → under_way lower ns ≡ true) × Lawful ns
Lawful (Ran place ∷ ns) = (stage place ns ≡ Waiting) × Lawful ns
Lawful (Ended place kind bytes ∷ ns) = (is_working (stage place ns) ≡ true) × (bytes ≡ block_for (seat place ns) kind) × Lawful ns
Lawful (Sent asks ∷ ns) = MaySendAll asks ns × Lawful ns
Lawful (_ ∷ ns) = Lawful ns

-- Over every list of calls.
abbrev pub CallsAreLawful : Type 0
CallsAreLawful = (calls : List Call) → Lawful (notes calls)
