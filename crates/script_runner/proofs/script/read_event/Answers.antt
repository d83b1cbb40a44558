-- The fault of a line is that of its reading.
use Rattle.script_runner.proofs.ScriptLines.{hears}
use Rattle.script_runner.proofs.script.read_event.Goals as goal

pub returns-in-Err-clause-reads : goal.returns-in-Err-clause-reads
returns-in-Err-clause-reads c = rw (c.line_error.ensures) (hears c.in-Err.fault c.args.initiators c.args.line.now c.in-Err.ensures)
