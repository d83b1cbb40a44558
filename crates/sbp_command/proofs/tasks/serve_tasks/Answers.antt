-- The lines are served from a run that has not begun.
use Rattle.std.proofs.Common.{◌≤◌, sym, subst}
use Rattle.std.proofs.lemmas.List.{length-map}
use Rattle.sbp_command.proofs.TaskRunning.{fresh}
use Rattle.sbp_command.proofs.tasks.serve_tasks.Goals as goal

pub serve_lines-requires-clause-ready : goal.serve_lines-requires-clause-ready
serve_lines-requires-clause-ready g c = subst (λ n. 1 ≤ n) (sym (length-map _ _)) c.requires.some

pub serve_lines-requires-clause-fresh : goal.serve_lines-requires-clause-fresh
serve_lines-requires-clause-fresh g c = rw c.new-server.ensures (fresh _ _)

pub returns : goal.returns
returns g c = c.serve_lines.ensures.ends
