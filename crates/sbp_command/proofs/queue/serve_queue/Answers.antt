-- The lines are served from a run that has not begun.
use Rattle.sbp_command.proofs.QueueRunning.{can_begin, fresh}
use Rattle.sbp_command.proofs.queue.serve_queue.Goals as goal

pub serve_lines-requires-clause-ready : goal.serve_lines-requires-clause-ready
serve_lines-requires-clause-ready g c = rw c.new-server.ensures (can_begin _ c.args.media.now.items _ c.requires.some c.requires.few)

pub serve_lines-requires-clause-fresh : goal.serve_lines-requires-clause-fresh
serve_lines-requires-clause-fresh g c = rw c.new-server.ensures (fresh _ _)

pub returns : goal.returns
returns g c = c.serve_lines.ensures.ends
