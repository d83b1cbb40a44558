-- The lines so far and those of the blocks left are all.
use Rattle.std.proofs.Common.{◌≡◌, ◌++◌, drop}
use Rattle.rom_listing.specs.RomListing.{block_lines}
use Rattle.rom_listing.proofs.listing.push_blocks.Given as goal

abbrev pub invariant-loop-block : goal.invariant-loop-block
invariant-loop-block l = record {
  so_far : l.out ++ block_lines l.quads (drop l.block-index l.blocks) l.rest ≡ l.initial.out ++ block_lines l.quads l.blocks l.entries;
}
