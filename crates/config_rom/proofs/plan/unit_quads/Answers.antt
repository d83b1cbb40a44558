use Rattle.std.proofs.Common.{◌∙◌, ap, ◌+◌, ◌-◌, ◌++◌, ◌∷◌, [], arith}
use Rattle.std.proofs.lemmas.Grind.{common_steps}
use Rattle.config_rom.specs.Make.{unit_quads}
use Rattle.config_rom.proofs.Makes.{numbers-added}
use Rattle.config_rom.proofs.plan.unit_quads.Goals as goal

pub loop-number-preserved : goal.loop-number-preserved
loop-number-preserved c =
    let number = c.loop-number.number in
    let units = c.args.units in
    let xs = c.loop-number.quads.items in
    let pushed = c.in_ok-push.ensures.items ∙ ap (λ n. xs ++ (0x144E0000 + n) ∷ []) c.from.ensures in
    record {
      so_far = numbers-added xs c.push.new.self.items (unit_quads units) number (number + 1) (units - number) (units - (number + 1)) (omega arith) (omega arith) pushed c.loop-number.invariant.so_far;
      counted = grind (arith, common_steps);
    }
