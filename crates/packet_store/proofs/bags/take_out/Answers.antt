use Rattle.std.proofs.Common.{subst, ℕ, ◌<◌, List, length}
use Rattle.std.specs.Prelude.{◌≢◌, slice_index_or}
use Rattle.packet_store.proofs.Bagged.{not_there}
use Rattle.packet_store.proofs.bags.take_out.Goals as goal

pub returns-in_default : goal.returns-in_default
returns-in_default c = λ k.
    not_there c.args.bag.now.items c.args.key k
    (subst (λ (xs : List ℕ). (at d : ℕ) → at < length xs → slice_index_or xs at d ≢ c.args.key) c.as_slice.ensures c.in_default.ensures.none)
