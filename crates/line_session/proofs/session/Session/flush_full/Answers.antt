-- The text waits on, or is written.
use Rattle.line_session.proofs.Sessions.{flushes_all, flushes_none}
use Rattle.line_session.proofs.session.Session.flush_full.Goals as goal

pub returns-then-as_slice-lt-FULL-clause-written : goal.returns-then-as_slice-lt-FULL-clause-written
returns-then-as_slice-lt-FULL-clause-written g c = flushes_none _ _ _ _

pub returns-clause-written : goal.returns-clause-written
returns-clause-written g c = flushes_all _ _ _ _ c.flush.result _ _ c.flush.ensures.written c.flush.ensures.none
