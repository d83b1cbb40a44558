-- The whole lines of what was read are served.
use Rattle.std.proofs.Common.{◌≡◌, ◌+◌, [], length, map}
use Rattle.rbc_disk.specs.Held.{held}
use Rattle.line_session.specs.Outside.{Outside, outside}
use Rattle.line_session.specs.Session.{IsReady, budget, InSession}
use Rattle.line_session.proofs.session.Session.run.Given as goal

abbrev pub invariant-loop-self : goal.invariant-loop-self
invariant-loop-self g l = record {
  ready : IsReady l.self;
  room : length l.room ≡ length l.initial.room;
  can : g.V.Serve.meaning.ready (l.self.number + 1) l.server (held (map (λ b. (goal.Medium-dyn g (b.vtable, b.value)).disk b.value) l.media.items) (map (λ b. (goal.Medium-dyn g (b.vtable, b.value)).media_faults b.value) l.media.items));
  told : (before : Outside)
      → InSession g.V.Serve.meaning before (outside (g.S.Source.left l.initial.source) (g.S.Source.faults l.initial.source) (g.K.Sink.written l.initial.sink) (g.K.Sink.faults l.initial.sink) (map (λ b. (goal.Medium-dyn g (b.vtable, b.value)).disk b.value) l.initial.media.items) (map (λ b. (goal.Medium-dyn g (b.vtable, b.value)).media_faults b.value) l.initial.media.items)) [] l.initial.self l.initial.server
      → InSession g.V.Serve.meaning before (outside (g.S.Source.left l.source) (g.S.Source.faults l.source) (g.K.Sink.written l.sink) (g.K.Sink.faults l.sink) (map (λ b. (goal.Medium-dyn g (b.vtable, b.value)).disk b.value) l.media.items) (map (λ b. (goal.Medium-dyn g (b.vtable, b.value)).media_faults b.value) l.media.items)) [] l.self l.server;
}

abbrev pub decreases-loop-self : goal.decreases-loop-self
decreases-loop-self g l = budget l.self
