use Rattle.std.proofs.Common.{◌≡◌, drop}
use Rattle.config_rom.specs.Unit.{first_value}
use Rattle.config_rom.proofs.unit.first_value.Given as goal

-- the first is among the entries left
abbrev pub invariant-loop-entry : goal.invariant-loop-entry
invariant-loop-entry l = first_value l.key l.default (drop l.entry-index l.entries) ≡ first_value l.key l.default l.entries
