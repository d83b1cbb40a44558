-- The elements of a page table (NCITS 325-1998, page tables).
use Rattle.std.specs.Prelude.{ℕ, zero, suc, ◌+◌, ◌*◌, ◌/◌, ◌-◌, ◌%◌, ◌^◌, ◌==◌, nat_lt, if◌then◌else◌, List, [], ◌∷◌, length, Option, Some, None, Result, Ok, Err}
use Rattle.sbp_base.specs.Quadlets.{quad}
use Rattle.page_table.specs.declared.segment.Segment.{Segment}
use Rattle.page_table.specs.declared.fault.PageFault.{PageFault}
use Rattle.page_table.specs.declared.fault.PageFault.TheVariants.{ZeroSegment, PastEnd}

-- element `at`, counted from 0: segment_length in bits 31 to 16 of its first quadlet, the high 16 bits of the base below it, and the low 32 bits of the base in its second
abbrev pub element : List ℕ → ℕ → Segment
element bytes at = record {
  base = quad bytes (8 * at) % 2 ^ 16 * 2 ^ 32 + quad bytes (8 * at + 4);
  length = quad bytes (8 * at) / 2 ^ 16;
}

-- so many elements from element `at` on
abbrev pub elements_in : ℕ → ℕ → List ℕ → List Segment
elements_in zero at bytes = []
elements_in (suc count) at bytes = element bytes at ∷ elements_in count (at + 1) bytes

-- the elements from element `at` on, of 8 bytes each
unfoldable pub elements_from : ℕ → List ℕ → List Segment
elements_from at bytes = elements_in (length bytes / 8 - at) at bytes

-- the elements of a page table
abbrev pub elements_of : List ℕ → List Segment
elements_of bytes = elements_from 0 bytes

-- the first fault by place, where `at` elements stand before
abbrev pub first_fault : ℕ → List Segment → Option PageFault
first_fault at [] = None
first_fault at (segment ∷ rest) =
    if segment.length == 0 then Some (ZeroSegment at)
    else if nat_lt (2 ^ 48) (segment.base + segment.length) then Some (PastEnd at)
    else first_fault (at + 1) rest

-- a page table is read where no element has a fault
abbrev pub told : Option PageFault → Result (Unit {0}) PageFault
told None = Ok tt
told (Some fault) = Err fault
