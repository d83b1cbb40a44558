-- The page table of a request, as the reader of page tables sees it.
use Rattle.std.specs.Prelude.{◌≡◌, ℕ, ◌+◌, ◌*◌, ◌^◌, ◌<◌, ◌≤◌, sum, List, [], ◌∷◌, length}
use Rattle.std.specs.List.{AllByRecursion}
use Rattle.bus_memory.specs.declared.window.Window.TheVariants as windows
use Rattle.bus_memory.specs.Windows.{start}
use Rattle.page_table.specs.declared.segment.Segment.{Segment}
use Rattle.page_table.specs.Elements.{elements_of}
use Rattle.orb_list.specs.Layout.{behind, table_bytes}

-- the segments of a buffer by their lengths, from a place in it on
abbrev pub segments_of : ℕ → ℕ → List ℕ → List Segment
segments_of slot at [] = []
segments_of slot at (count ∷ rest) = record { base = start (windows.Buffer slot) + at; length = count } ∷ segments_of slot (behind at count) rest

-- The page table that is written is read as its segments.
abbrev pub TableLaw : Type 0
TableLaw =
    (slot : ℕ) (segments : List ℕ) → slot < 32 → AllByRecursion (λ count. count < 2 ^ 16) segments → sum segments + 19 * length segments ≤ 32768 → elements_of (table_bytes slot 0 segments) ≡ segments_of slot 0 segments
