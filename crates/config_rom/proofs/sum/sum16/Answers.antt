use Rattle.std.proofs.Common.{◌∙◌, arith}
use Rattle.std.proofs.lemmas.Grind.{common_steps}
use Rattle.config_rom.proofs.Sums.{register-sum, quads-next}
use Rattle.config_rom.proofs.sum.sum16.Goals as goal

pub loop-quad-preserved : goal.loop-quad-preserved
loop-quad-preserved c = quads-next _ _ _ _ _ (omega arith) c.loop-quad-test.true c.with_quad-register.ensures ∙ c.loop-quad.invariant

pub returns : goal.returns
returns c = grind (arith, common_steps, register-sum c.args.quads.now, c.loop-quad.invariant)
