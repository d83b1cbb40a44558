use Rattle.std.proofs.Common.{arith}
use Rattle.std.proofs.lemmas.Grind.{common_steps}
use Rattle.unordered_agent.proofs.Places.{sound_reset}
use Rattle.unordered_agent.proofs.agent.TaskAgent.reset.Goals as goal

pub invariant_of-self : goal.invariant_of-self
invariant_of-self c = sound_reset c.self.inside.fetcher c.self.inside.tasks _ c.self.invariant (grind (arith, common_steps))
