use Rattle.sbp_initiator.proofs.Histories.Served.{reads_law}
use Rattle.sbp_initiator.proofs.laws.slots_and_rom_are_read.Goals as goal

-- src/laws.rt:36:1
pub returns : goal.returns
returns c = reads_law
