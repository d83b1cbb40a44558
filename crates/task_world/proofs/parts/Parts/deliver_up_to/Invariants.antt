-- So many packets were delivered.
use Rattle.std.specs.Prelude.{◌≤◌}
use Rattle.task_world.specs.Settling.{DeliversAll}
use Rattle.task_world.specs.Worlds.{task_scene}
use Rattle.task_world.proofs.parts.Parts.deliver_up_to.Given as goal

abbrev pub invariant-loop : goal.invariant-loop
invariant-loop g l = record {
  fell : (goal.Medium-dyn g l.fn.medium.now).media_faults l.fn.medium.now.1 ≤ (goal.Medium-dyn g l.medium.now).media_faults l.medium.now.1;
  so_far : DeliversAll l.counter
      (task_scene l.initial.self ((goal.Medium-dyn g l.fn.medium.now).disk l.fn.medium.now.1) ((goal.Medium-dyn g l.fn.medium.now).media_faults l.fn.medium.now.1))
      (task_scene l.self ((goal.Medium-dyn g l.medium.now).disk l.medium.now.1) ((goal.Medium-dyn g l.medium.now).media_faults l.medium.now.1));
}
