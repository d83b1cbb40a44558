use Rattle.std.proofs.Common.{rules, not, nat_eq}
use Rattle.std.proofs.lemmas.Fn.{filter_same}
use Rattle.initiator_base.proofs.reads.StateReads.remove.Goals as goal

pub returns : goal.returns
returns c = rw (← c.self.view_is) (filter_same _ (λ other. not (nat_eq other c.args.act)) _ (λ x b f' k. search rules) _ _ c.retain.ensures.filtered)
