-- What is left to tell, from here on, gives what all gave from the start.
use Rattle.sbp_world.proofs.Words.World.{told_all}
use Rattle.std.specs.Prelude.{◌≡◌, length}
use Rattle.sbp_world.proofs.parts.Parts.tell_all.Given as goal

abbrev pub invariant-loop-side : goal.invariant-loop-side
invariant-loop-side l = record {
  all : told_all l.weight l.outbox.sides l.self ≡ told_all l.weight l.initial.outbox.sides l.initial.self;
  packets : l.outbox.packets ≡ l.initial.outbox.packets;
  bus : l.self.generations ≡ l.initial.self.generations;
  target : l.self.target ≡ l.initial.self.target;
}

abbrev pub decreases-loop-side : goal.decreases-loop-side
decreases-loop-side l = length l.outbox.sides
