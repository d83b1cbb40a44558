use Rattle.std.specs.Prelude.{◌≡◌, replicate}
use Rattle.sbp_target.specs.Desks.{new_desk}
use Rattle.sbp_target.proofs.node.making.new_desks.Given as goal

abbrev pub invariant-loop : goal.invariant-loop
invariant-loop l = l.desks.items ≡ replicate l.counter new_desk
