-- Every run of `tasks` has the laws of the wire.
use Rattle.task_world.proofs.Wire.Keeping.{wire_law}
use Rattle.task_world.proofs.of_wire.task_runs_are_lawful_on_the_bus.Goals as goal

pub returns : goal.returns
returns c = wire_law
