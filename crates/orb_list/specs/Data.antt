-- Where the data of a request stand in the buffer of its slot.
use Rattle.std.specs.Prelude.{◌≡◌, ℕ, ◌+◌, ◌-◌, ◌<◌, ◌≤◌, sum, List, [], ◌∷◌, ◌++◌, length, take, drop}
use Rattle.bus_memory.specs.declared.window.Window.TheVariants as windows
use Rattle.bus_memory.specs.Windows.{start}
use Rattle.bus_memory.specs.Memory.{Memory, slot_at}
use Rattle.bus_memory.specs.Laws.{IsWhole}
use Rattle.page_table.specs.declared.segment.Segment.{Segment}
use Rattle.orb_list.specs.Requests.{Asked, IsRequest}
use Rattle.orb_list.specs.Layout.{written}
use Rattle.orb_list.specs.Tables.{segments_of}

-- the lengths of the segments of a request: those of its page table, or that of its buffer
abbrev pub lengths_of : ℕ → List ℕ → List ℕ
lengths_of count [] = count ∷ []
lengths_of count (first ∷ rest) = first ∷ rest

-- the segments of a request in a slot
abbrev pub request_segments : ℕ → Asked → List Segment
request_segments slot asked = segments_of slot 0 (lengths_of asked.length asked.segments)

-- the bytes of a slot's buffer in segments, joined in order
abbrev pub joined : ℕ → List ℕ → List Segment → List ℕ
joined slot buffer [] = []
joined slot buffer (segment ∷ rest) =
    take segment.length (drop (segment.base - start (windows.Buffer slot)) buffer) ++ joined slot buffer rest

-- Segments lie between two addresses, each behind the one before.
abbrev pub AreApart : ℕ → ℕ → List Segment → Type 0
AreApart from end [] = Unit {0}
AreApart from end (segment ∷ rest) =
    (from ≤ segment.base) × (segment.base + segment.length ≤ end) × AreApart (segment.base + segment.length) end rest

-- The segments of a request lie in its slot's buffer and do not overlap; and where they have room for its data, these stand
-- in them, joined in order.
pub record DataLaw : Type 0 where
  pub apart : (slot : ℕ) (asked : Asked) → IsRequest asked → AreApart (start (windows.Buffer slot)) (start (windows.Buffer slot) + 32768) (request_segments slot asked)
  pub stands : (m : Memory) (slot : ℕ) (asked : Asked) → IsWhole m → slot < 32 → IsRequest asked → length asked.payload ≤ sum (lengths_of asked.length asked.segments) → take (length asked.payload) (joined slot (slot_at (written m slot asked) slot).buffer (request_segments slot asked)) ≡ asked.payload
