use Rattle.sbp_world.proofs.Words.World.{new_initiators}
use Rattle.std.specs.Prelude.{◌≡◌}
use Rattle.sbp_world.proofs.parts.making.new_initiators.Given as goal

abbrev pub invariant-loop-number : goal.invariant-loop-number
invariant-loop-number l = l.list.items ≡ new_initiators l.number l.ready
