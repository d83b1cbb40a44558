-- The text is that of the entries so far.
use Rattle.std.proofs.Common.{◌≡◌, ◌++◌, take}
use Rattle.std.specs.List.{flat_map}
use Rattle.rom_listing.specs.RomListing.{entry_line}
use Rattle.rom_listing.proofs.listing.push_entries.Given as goal

abbrev pub invariant-loop-entry : goal.invariant-loop-entry
invariant-loop-entry l = record {
  so_far : l.out ≡ l.initial.out ++ flat_map entry_line (take l.entry-index l.entries);
}
