-- A session begins with nothing read.
use Rattle.line_session.proofs.Sessions.{begins, stops}
use Rattle.line_session.proofs.session.serve_lines.Goals as goal

pub returns-in_default : goal.returns-in_default
returns-in_default g c = record { ends = stops g.V.Serve.meaning _ _ _ _ _ _ (begins g.V.Serve.meaning _ _ c.requires.fresh) (g.V.Serve.meaning.stays_same _) }

pub run-requires-clause-can : goal.run-requires-clause-can
run-requires-clause-can g c = rw c.new-session.ensures c.requires.ready

pub returns : goal.returns
returns g c = record { ends = c.run.ensures.told _ (rw c.new-session.ensures (begins g.V.Serve.meaning _ _ c.requires.fresh)) }
