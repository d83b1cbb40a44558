-- The registers before this one are disabled.
use Rattle.std.proofs.Common.{◌≡◌, ◌++◌, map, take, drop}
use Rattle.sbp_target.specs.Desks.{disabled}
use Rattle.sbp_target.proofs.node.timing.disable_each.Given as goal

abbrev pub invariant-loop-place : goal.invariant-loop-place
invariant-loop-place l = l.desks ≡ map disabled (take l.place l.initial.desks) ++ drop l.place l.initial.desks
