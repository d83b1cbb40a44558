use Rattle.std.specs.Prelude.{◌≡◌, replicate}
use Rattle.command_agent.specs.Machine.{new_machine}
use Rattle.unordered_agent.proofs.tasks.new_agents.Given as goal

abbrev pub invariant-loop : goal.invariant-loop
invariant-loop l = l.agents.items ≡ replicate l.counter new_machine
