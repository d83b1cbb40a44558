use Rattle.std.proofs.Common.{rules, not, nat_eq}
use Rattle.std.proofs.lemmas.Fn.{filter_same}
use Rattle.sbp_bus.proofs.loads.OrbLoads.remove.Goals as goal

pub returns : goal.returns
returns c = rw (← c.self.view_is) (filter_same _ (λ load. not (nat_eq load.orb c.args.orb)) _ (λ x b f' k. search rules) _ _ c.retain.ensures.filtered)
