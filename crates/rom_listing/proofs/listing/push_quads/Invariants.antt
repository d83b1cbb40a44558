-- The lines so far and those of the quadlets left are all.
use Rattle.std.proofs.Common.{◌≡◌, ◌+◌, ◌++◌, drop}
use Rattle.rom_listing.specs.RomListing.{quad_lines}
use Rattle.rom_listing.proofs.listing.push_quads.Given as goal

abbrev pub invariant-loop-quad : goal.invariant-loop-quad
invariant-loop-quad l = record {
  place : l.at ≡ l.first + l.quad-index;
  so_far : l.out ++ quad_lines l.at (drop l.quad-index l.quads) ≡ l.initial.out ++ quad_lines l.first l.quads;
}
