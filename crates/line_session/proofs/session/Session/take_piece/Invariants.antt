-- The session has taken the piece up to what is behind.
use Rattle.std.proofs.Common.{◌+◌, ◌≤◌, ℕ, List, length, map, Option}
use Rattle.rbc_disk.specs.Held.{held}
use Rattle.line_session.specs.Outside.{Outside, outside}
use Rattle.line_session.specs.Session.{IsReady, budget, InSession}
use Rattle.line_session.proofs.session.Session.take_piece.Given as goal

abbrev pub invariant-loop-at : goal.invariant-loop-at
invariant-loop-at g l = record {
  ready : IsReady l.self;
  can : g.V.Serve.meaning.ready (l.self.number + 1) l.server (held (map (λ b. (goal.Medium-dyn g (b.vtable, b.value)).disk b.value) l.media.items) (map (λ b. (goal.Medium-dyn g (b.vtable, b.value)).media_faults b.value) l.media.items));
  budget : length l.piece + budget l.self ≤ length l.behind + budget l.initial.self;
  told : (before : Outside) (left : Option (List ℕ)) (reads : ℕ)
      → InSession g.V.Serve.meaning before (outside left reads (g.K.Sink.written l.initial.sink) (g.K.Sink.faults l.initial.sink) (map (λ b. (goal.Medium-dyn g (b.vtable, b.value)).disk b.value) l.initial.media.items) (map (λ b. (goal.Medium-dyn g (b.vtable, b.value)).media_faults b.value) l.initial.media.items)) l.piece l.initial.self l.initial.server
      → InSession g.V.Serve.meaning before (outside left reads (g.K.Sink.written l.sink) (g.K.Sink.faults l.sink) (map (λ b. (goal.Medium-dyn g (b.vtable, b.value)).disk b.value) l.media.items) (map (λ b. (goal.Medium-dyn g (b.vtable, b.value)).media_faults b.value) l.media.items)) l.behind l.self l.server;
}

abbrev pub decreases-loop-at : goal.decreases-loop-at
decreases-loop-at g l = length l.behind
