use Rattle.std.proofs.Common.{◌≡◌, ap, sym, subst, ◌∙◌, None, List, slice_set}
use Rattle.orb_layout.specs.declared.ask.Ask.{Ask}
use Rattle.orb_layout.specs.declared.pointer.OrbPointer.{OrbPointer}
use Rattle.command_agent.specs.Machine.{Machine}
use Rattle.command_agent.specs.Tasks.{relinked}
use Rattle.unordered_agent.specs.declared.fetcher.Fetcher.{Fetcher}
use Rattle.unordered_agent.specs.Machine.{TaskMachine, both, agent_at, IsSound}
use Rattle.unordered_agent.specs.Steps.{goes_on, pointer_read}
use Rattle.unordered_agent.proofs.Places.{sound_relinked}
use Rattle.unordered_agent.proofs.agent.TaskAgent.relink.Goals as goal

went : (c : goal.After-fetching) → ◌≡◌ {A = Ask × TaskMachine} (c.go_on-ask.result, both c.go_on-ask.new.fetcher c.go_on-ask.new.tasks) (goes_on None (pointer_read (both c.self.inside.fetcher c.self.inside.tasks) c.args.next))
went c =
    let f : Fetcher = c.self.inside.fetcher in
    let tasks : List Machine = c.self.inside.tasks in
    let linked : c.link.new.self ≡ record f { next = c.args.next } = c.link.ensures in
    let next : c.next.result ≡ c.args.next = c.next.ensures ∙ ap (λ (g : Fetcher). g.next) linked in
    c.go_on-ask.ensures
    ∙ ap (λ (g : Fetcher). goes_on None (both g c.relink.new.self)) linked
    ∙ ap (λ (ts : List Machine). goes_on None (both (record f { next = c.args.next }) ts)) (c.relink.ensures ∙ ap (λ (n : OrbPointer). slice_set tasks f.newest (relinked (agent_at tasks f.newest) n)) next)

sound : (c : goal.After-fetching) → IsSound c.go_on-ask.new.fetcher c.go_on-ask.new.tasks
sound c =
    subst (λ (p : Ask × TaskMachine). IsSound p.1.fetcher p.1.tasks) (sym (went c))
    (sound_relinked c.self.inside.fetcher c.self.inside.tasks c.args.next c.self.invariant)

pub invariant_of-self : goal.invariant_of-self
invariant_of-self c = sound c

pub returns-clause-rule : goal.returns-clause-rule
returns-clause-rule c = (sound c).rule
