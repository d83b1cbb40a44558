-- What a reading of a ROM tells.
use Rattle.std.proofs.Common.{◌≡◌, ℕ, List, Ok, Err, inl, inr}
use Rattle.config_rom.specs.declared.fault.RomFault.{RomFault}
use Rattle.config_rom.specs.declared.fault.RomFault.TheVariants as faults
use Rattle.config_rom.specs.Reading.{Tree, reading, Tells}

pub read_as : (quads : List ℕ) (tree : Tree) → reading quads ≡ Ok tree → reading quads ≡ Ok tree
read_as quads tree e = e

-- a fault that is no want of memory is the one that the quadlets have
pub failed_as : (fault : RomFault) (quads : List ℕ) → (fault ≡ faults.NoMemory → ⊥) → Tells fault (reading quads) → reading quads ≡ Err fault
failed_as fault quads n (inl e) = absurd (n e)
failed_as fault quads n (inr e) = e
