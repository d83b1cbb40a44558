use Rattle.std.proofs.Common.{sym, subst}
use Rattle.unordered_agent.specs.Machine.{TaskMachine, IsSound}
use Rattle.unordered_agent.proofs.Places.{sound_died}
use Rattle.unordered_agent.proofs.agent.TaskAgent.die.Goals as goal

sound : (c : goal.After-dying) → IsSound c.kill.new.fetcher c.kill.new.tasks
sound c =
    subst (λ (t : TaskMachine). IsSound t.fetcher t.tasks) (sym c.kill.ensures)
    (sound_died c.self.inside.fetcher c.self.inside.tasks c.self.invariant.size c.self.invariant.newest c.self.invariant.worked)

pub invariant_of-self : goal.invariant_of-self
invariant_of-self c = sound c

pub returns-clause-rule : goal.returns-clause-rule
returns-clause-rule c = (sound c).rule
