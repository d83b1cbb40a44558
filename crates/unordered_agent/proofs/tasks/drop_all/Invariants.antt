use Rattle.std.specs.Prelude.{◌≡◌, ◌++◌, map, take, drop}
use Rattle.unordered_agent.specs.Steps.{dropped}
use Rattle.unordered_agent.proofs.tasks.drop_all.Given as goal

abbrev pub invariant-loop-place : goal.invariant-loop-place
invariant-loop-place l = l.agents ≡ map dropped (take l.place l.fn.agents) ++ drop l.place l.fn.agents
