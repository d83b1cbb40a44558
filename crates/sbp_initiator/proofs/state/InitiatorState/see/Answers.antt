use Rattle.std.proofs.Common.{arith, ap}
use Rattle.label_table.specs.Layer.{Layer}
use Rattle.sbp_initiator.specs.declared.purpose.Purpose.{Purpose}
use Rattle.sbp_initiator.proofs.Layers.{see_same}
use Rattle.sbp_initiator.proofs.state.InitiatorState.see.Goals as goal

pub returns-else-see-clause-counts : goal.returns-else-see-clause-counts
returns-else-see-clause-counts c =
    let e = see_same _ _ _ _ _ c.see.ensures.step c.if-see.false in
    let f = ap (λ (layer : Layer Purpose). layer.calls) e in
    record { managed = omega arith; logins = omega arith; running = omega arith; prepared = omega arith; called = omega arith; labelled = omega (arith, f) }
