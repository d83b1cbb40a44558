use Rattle.std.proofs.Common.{◌∙◌}
use Rattle.line_session.proofs.Writes.{front-more, rest_room}
use Rattle.line_session.proofs.write.write_all.Goals as goal

pub loop-at-preserved : goal.loop-at-preserved
loop-at-preserved g c = record {
  in_range = rest_room c.loop-at.at c.in-Ok.taken c.args.bytes.now c.loop-at.invariant.in_range c.in-Ok.ensures.count;
  written = front-more (g.K.Sink.written c.args.sink.now) (g.K.Sink.written c.loop-at.sink) (g.K.Sink.written c.write.new.self) c.args.bytes.now c.loop-at.at c.in-Ok.taken c.loop-at.invariant.in_range c.loop-at.invariant.written c.in-Ok.ensures.bytes;
  same = c.in-Ok.ensures.cause.counted ∙ c.loop-at.invariant.same;
}
