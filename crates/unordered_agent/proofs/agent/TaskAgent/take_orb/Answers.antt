use Rattle.std.proofs.Common.{◌≡◌, ap, sym, ◌∙◌, Some, arith}
use Rattle.orb_layout.specs.declared.ask.Ask.{Ask}
use Rattle.orb_layout.specs.declared.pointer.OrbPointer.{OrbPointer}
use Rattle.command_agent.specs.Machine.{Machine}
use Rattle.unordered_agent.specs.declared.fetcher.Fetcher.{Fetcher}
use Rattle.unordered_agent.specs.Machine.{TaskMachine, both, agent_at, lowest_free, IsSound}
use Rattle.unordered_agent.specs.Fetching.{seated}
use Rattle.unordered_agent.specs.Steps.{goes_on}
use Rattle.unordered_agent.proofs.Kept.{Behind, seated_in, begun_step, begun_behind, disk_behind, may_behind}
use Rattle.unordered_agent.proofs.Places.{sound_begun}
use Rattle.unordered_agent.proofs.agent.TaskAgent.take_orb.Given.{Over}
use Rattle.unordered_agent.proofs.agent.TaskAgent.take_orb.Goals as goal

abbrev before : (g : Over) → goal.After-of_task g → TaskMachine
before g c = both c.self.inside.fetcher c.self.inside.tasks

abbrev behind : (g : Over) → goal.After-of_task g → TaskMachine
behind g c = both c.go_on-ask.new.fetcher c.go_on-ask.new.tasks

free : (g : Over) (c : goal.After-of_task g) → lowest_free c.self.inside.tasks ≡ Some c.in-Some.place
free g c = sym c.lowest_free.ensures.place ∙ c.in-Some.is

went : (g : Over) (c : goal.After-of_task g) → ◌≡◌ {A = Ask × TaskMachine} (c.go_on-ask.result, behind g c) (goes_on c.begin-step.result.dead (seated_in (before g c) c.in-Some.place c.begin-step.new.self))
went g c =
    let seat : c.seat.new.self ≡ seated c.self.inside.fetcher c.in-Some.place c.next-next.result = c.seat.ensures in
    let next : c.next-next.result ≡ (agent_at c.begin-step.new.self c.in-Some.place).orb.next = c.next-next.ensures ∙ ap (λ (m : Machine). m.orb.next) c.agent.ensures in
    c.go_on-ask.ensures
    ∙ ap (λ (f : Fetcher). goes_on c.begin-step.result.dead (both f c.begin-step.new.self)) (seat ∙ ap (λ (p : OrbPointer). seated c.self.inside.fetcher c.in-Some.place p) next)

kept : (g : Over) (c : goal.After-of_task g) → Behind c.in-Some.place c.begin-step.new.self (behind g c) c.begin-step.result c.of_task.result
kept g c = begun_behind (before g c) (behind g c) c.in-Some.place c.begin-step.new.self c.begin-step.result c.go_on-ask.result c.of_task.result (went g c) c.of_task.ensures

pub returns-clause-step : goal.returns-clause-step
returns-clause-step g c =
    rw (← c.self.view_is, free g c)
    (begun_step (before g c) (behind g c) c.in-Some.place c.begin-step.new.self c.begin-step.result c.go_on-ask.result c.of_task.result c.args.login _ _ c.begin-step.ensures.step c.begin-step.ensures.others (went g c) c.of_task.ensures)

pub returns-clause-plain : goal.returns-clause-plain
returns-clause-plain g c =
    rw (← c.self.view_is, free g c)
    (disk_behind c.in-Some.place c.args.login c.begin-step.new.self (behind g c) c.begin-step.result c.of_task.result _ _ (kept g c) c.begin-step.ensures.plain)

pub returns-clause-may : goal.returns-clause-may
returns-clause-may g c =
    rw (← c.self.view_is, free g c)
    (may_behind c.in-Some.place c.args.login c.begin-step.new.self (behind g c) c.begin-step.result c.of_task.result _ (kept g c) c.begin-step.ensures.may)

sound : (g : Over) (c : goal.After-of_task g) → IsSound (behind g c).fetcher (behind g c).tasks
sound g c =
    sound_begun c.self.inside.fetcher (seated_in (before g c) c.in-Some.place c.begin-step.new.self).fetcher c.self.inside.tasks c.begin-step.new.self c.go_on-ask.result (behind g c) c.in-Some.place c.args.login c.begin-step.result _ _ _
    c.self.invariant (omega (arith, c.in-Some.ensures.below)) c.begin-step.ensures.step c.begin-step.ensures.others (went g c)

pub invariant_of-self : goal.invariant_of-self
invariant_of-self g c = sound g c

pub returns-clause-rule : goal.returns-clause-rule
returns-clause-rule g c = (sound g c).rule
