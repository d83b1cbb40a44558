-- Each piece goes on, until one has no bytes or ends the session.
use Rattle.std.proofs.Common.{arith}
use Rattle.line_session.proofs.session.Session.run.Goals as goal

pub returns-in-Ok-eq0 : goal.returns-in-Ok-eq0
returns-in-Ok-eq0 g c = record {
  told = λ before h.
      let told = c.in-Ok-eq0.ensures.told before (c.loop-self.invariant.told before h) in
      c.finish.ensures.told before (g.S.Source.left c.read_piece.new.source) (g.S.Source.faults c.read_piece.new.source) (told.1 c.in-Ok-eq0.field-0-test) told.0;
}

pub loop-self-preserved : goal.loop-self-preserved
loop-self-preserved g c = record {
  ready = c.in-Ok.ensures.ready;
  room = omega (arith, c.read_piece.ensures.room);
  can = c.in-Ok.ensures.can;
  told = λ before h. (c.in-Ok.ensures.told before (c.loop-self.invariant.told before h)).0;
}

pub returns-in-Err : goal.returns-in-Err
returns-in-Err g c = record { told = λ before h. c.in-Err.ensures.told before (c.loop-self.invariant.told before h) }
