use Rattle.std.proofs.Common.{arith, ◌∙◌, sym}
use Rattle.label_table.proofs.Layers.{again_small}
use Rattle.label_table.proofs.transactions.Transactions.judge_current.Goals as goal

pub returns-in-Again-clause-lent : goal.returns-in-Again-clause-lent
returns-in-Again-clause-lent g c =
    (record { spelled = c.in-Ok.ensures.spelled; asks = grind arith }, again_small _ _ _ _ _ _ c.self.invariant (sym c.judge.ensures ∙ c.in-Again.is))
