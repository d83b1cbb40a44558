-- Where the segments of a buffer end.
use Rattle.std.specs.Prelude.{ℕ, ◌+◌, List, [], ◌∷◌}
use Rattle.page_table.specs.declared.segment.Segment.{Segment}

-- how many bytes there are up to the end of each segment, where so many stand before them
abbrev pub ends_from : ℕ → List Segment → List ℕ
ends_from before [] = []
ends_from before (segment ∷ rest) = (before + segment.length) ∷ ends_from (before + segment.length) rest
