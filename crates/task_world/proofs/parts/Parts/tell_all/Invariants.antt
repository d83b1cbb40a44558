-- What is left to tell, from here on, gives what all gave from the start.
use Rattle.std.specs.Prelude.{◌≡◌, length}
use Rattle.sbp_world.specs.Telling.{told_all}
use Rattle.task_world.proofs.parts.Parts.tell_all.Given as goal

abbrev pub invariant-loop-side : goal.invariant-loop-side
invariant-loop-side l = record {
  all : told_all l.weight l.outbox.sides l.self.world ≡ told_all l.weight l.initial.outbox.sides l.initial.self.world;
  packets : l.outbox.packets ≡ l.initial.outbox.packets;
  node : l.self.node ≡ l.initial.self.node;
}

abbrev pub decreases-loop-side : goal.decreases-loop-side
decreases-loop-side l = length l.outbox.sides
