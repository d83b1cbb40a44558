-- The next line is the head of what is left of the piece.
use Rattle.std.proofs.Common.{◌+◌, arith, length-take-le, length-drop}
use Rattle.line_session.proofs.Sessions.{same_pending, split_line}
use Rattle.line_session.proofs.session.Session.take_piece.Goals as goal

pub returns-in-Err-clause-told : goal.returns-in-Err-clause-told
returns-in-Err-clause-told g c = λ before left reads h.
    c.in-Err.ensures.told before left reads _ (same_pending g.V.Serve.meaning before _ _ _ _ _ (split_line c.loop-at.behind.now c.in-Some.at c.in-Some.ensures.some c.in-Some.ensures.parts) (c.loop-at.invariant.told before left reads h))

pub loop-at-preserved : goal.loop-at-preserved
loop-at-preserved g c = record {
  ready = c.in_default-end_line.ensures.ready;
  can = c.in_default-end_line.ensures.can;
  budget = omega (arith, c.in_default-end_line.ensures.budget, c.loop-at.invariant.budget, length-take-le c.in-Some.at c.loop-at.behind.now (omega (arith, c.in-Some.ensures.some)), length-drop (c.in-Some.at + 1) c.loop-at.behind.now);
  told = λ before left reads h.
      c.in_default-end_line.ensures.told before left reads _ (same_pending g.V.Serve.meaning before _ _ _ _ _ (split_line c.loop-at.behind.now c.in-Some.at c.in-Some.ensures.some c.in-Some.ensures.parts) (c.loop-at.invariant.told before left reads h));
}
