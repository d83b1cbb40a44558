use Rattle.std.proofs.Common.{◌≡◌, true, ap, sym, subst, arith}
use Rattle.orb_layout.specs.declared.ask.Ask.{Ask}
use Rattle.unordered_agent.specs.declared.fetcher.Fetcher.{Fetcher}
use Rattle.unordered_agent.specs.Machine.{state_in, IsSound}
use Rattle.unordered_agent.specs.Steps.{takes_pointer}
use Rattle.unordered_agent.proofs.Places.{sound_pointed}
use Rattle.unordered_agent.proofs.agent.TaskAgent.point.Goals as goal

pub invariant_of-self : goal.invariant_of-self
invariant_of-self c =
    let taken : takes_pointer (state_in c.self.inside.fetcher.phase) c.self.inside.tasks ≡ true = grind arith in
    subst (λ (f : Fetcher). IsSound f c.self.inside.tasks) (sym (ap (λ (p : Ask × Fetcher). p.1) c.open.ensures))
    (sound_pointed c.self.inside.fetcher c.self.inside.tasks c.in-At.first c.self.invariant taken)
