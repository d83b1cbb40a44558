-- The quadlets so far and those left are all.
use Rattle.std.proofs.Common.{◌≡◌, ◌-◌, ◌++◌}
use Rattle.rom_listing.specs.RomListing.{quads_from}
use Rattle.rom_listing.proofs.quadlets.quads_of.Given as goal

abbrev pub invariant-loop-place : goal.invariant-loop-place
invariant-loop-place l = record {
  so_far : l.quads.items ++ quads_from l.bytes l.place (l.count - l.place) ≡ quads_from l.bytes 0 l.count;
}
