-- The last line was served, or it ends the session.
use Rattle.line_session.proofs.session.Session.finish.Goals as goal

pub returns-in-Ok : goal.returns-in-Ok
returns-in-Ok g c = record {
  told = λ before left reads end h. c.tell_end.ensures.told before left reads _ _ (c.in-Ok.ensures.told before left reads end h);
}
