-- The configuration ROM is listed as the lines were served.
use Rattle.sbp_command.proofs.Roms.{rom_ends, not_begun}
use Rattle.sbp_command.proofs.top.list_rom.Goals as goal

pub returns-in-Ok : goal.returns-in-Ok
returns-in-Ok g c = rw c.status_of.ensures (rom_ends c.serve_lines.result _ _ c.serve_lines.ensures.ends)

pub returns-in-Err : goal.returns-in-Err
returns-in-Err g c = not_begun _
