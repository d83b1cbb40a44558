use Rattle.std.specs.Prelude.{◌≡◌, ◌++◌, map, take, drop}
use Rattle.command_agent.specs.Steps.{reset_step}
use Rattle.unordered_agent.proofs.tasks.reset_all.Given as goal

abbrev pub invariant-loop-place : goal.invariant-loop-place
invariant-loop-place l = l.agents ≡ map reset_step (take l.place l.fn.agents) ++ drop l.place l.fn.agents
