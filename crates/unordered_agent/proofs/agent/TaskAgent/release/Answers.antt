use Rattle.std.proofs.Common.{ap, sym, subst, ◌∙◌, None, List}
use Rattle.orb_layout.specs.declared.ask.Ask.{Ask}
use Rattle.command_agent.specs.Machine.{Machine}
use Rattle.unordered_agent.specs.Machine.{TaskMachine, both, IsSound}
use Rattle.unordered_agent.specs.Steps.{goes_on}
use Rattle.unordered_agent.proofs.Places.{not_waiting, sound_freed, sound_released}
use Rattle.unordered_agent.proofs.agent.TaskAgent.release.Goals as goal

waits : (c : goal.After-fetching) → IsSound c.go_on-ask.new.fetcher c.go_on-ask.new.tasks
waits c =
    subst (λ (p : Ask × TaskMachine). IsSound p.1.fetcher p.1.tasks) (sym (c.go_on-ask.ensures ∙ ap (λ (ts : List Machine). goes_on None (both c.self.inside.fetcher ts)) c.reset.ensures))
    (sound_released c.self.inside.fetcher c.self.inside.tasks c.args.place c.self.invariant)

goes : (c : goal.After-quiet) → IsSound c.self.inside.fetcher c.reset.new.self
goes c =
    subst (λ (ts : List Machine). IsSound c.self.inside.fetcher ts) (sym c.reset.ensures)
    (sound_freed c.self.inside.fetcher c.self.inside.tasks c.args.place c.self.invariant c.requires.place (rw (← c.self.view_is) at c.requires.under_way) (not_waiting c.self.inside.fetcher.phase c.in_default.not-Waiting))

pub invariant_of-self : goal.invariant_of-self
invariant_of-self c = waits c

pub invariant_of-self-in_default : goal.invariant_of-self-in_default
invariant_of-self-in_default c = goes c

pub returns-in-Waiting-clause-rule : goal.returns-in-Waiting-clause-rule
returns-in-Waiting-clause-rule c = (waits c).rule

pub returns-in_default-clause-rule : goal.returns-in_default-clause-rule
returns-in_default-clause-rule c = (goes c).rule
