-- The listing is that of the reading, or its fault.
use Rattle.std.proofs.Common.{◌≡◌, ◌≢◌, ℕ, inl, inr, List, ◌++◌, Result, Ok, Err}
use Rattle.std.specs.Prelude.{OnOk}
use Rattle.config_rom.specs.Reading.{Tree, Tells, reading}
use Rattle.config_rom.specs.declared.fault.RomFault.{RomFault}
use Rattle.config_rom.specs.declared.fault.RomFault.TheVariants as rom_faults
use Rattle.rom_listing.specs.RomListing.{rom_fault_line, rom_lines, rom_listing}
use Rattle.rom_listing.proofs.listing.push_listing.Goals as goal

told_line : {A E : Type 0} (old new : List ℕ) (result : Result A E) (fault : RomFault) (quads : List ℕ) (read : Result Tree RomFault) → Tells fault read → OnOk result (new ≡ old ++ rom_fault_line fault) → OnOk result (fault ≢ rom_faults.NoMemory)
    → OnOk result (new ≡ old ++ rom_lines quads read)
told_line old new (Ok done) fault quads read (inl e) line memory = absurd (memory e)
told_line old new (Ok done) fault quads read (inr e) line memory = rw e line
told_line old new (Err want) fault quads read told line memory = tt

pub returns-in-Ok : goal.returns-in-Ok
unfolding rom_listing
returns-in-Ok c = rw c.in-Ok.ensures.read c.push_tree.ensures

pub returns-in-Err : goal.returns-in-Err
unfolding rom_listing
returns-in-Err c = told_line c.args.out.now c.push_fault.new.out c.push_fault.result c.in-Err.fault c.args.quads.now (reading c.args.quads.now) c.in-Err.ensures.told c.push_fault.ensures.line c.push_fault.ensures.memory
