use Rattle.std.proofs.Common.{◌≡◌, ◌+◌, ◌-◌, ◌++◌, vec_len}
use Rattle.config_rom.specs.Make.{unit_numbers, unit_quads}
use Rattle.config_rom.proofs.plan.unit_quads.Given as goal

-- the entries so far and those of the units left are all
abbrev pub invariant-loop-number : goal.invariant-loop-number
invariant-loop-number l = record {
  so_far : l.quads.items ++ unit_numbers l.number (l.units - l.number) ≡ unit_quads l.units;
  counted : vec_len l.quads ≡ 6 + l.number;
}
