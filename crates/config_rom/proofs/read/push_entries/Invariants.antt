use Rattle.std.proofs.Common.{◌≡◌, ◌+◌, ◌-◌, ◌++◌}
use Rattle.config_rom.specs.Tree.{entries_from, first_void}
use Rattle.config_rom.proofs.read.push_entries.Given as goal

-- the entries so far and those left are all, and the first fault is among those left
abbrev pub invariant-loop-place : goal.invariant-loop-place
invariant-loop-place l = record {
  added : l.entries.items ++ entries_from l.quads l.place (l.at + 1 + l.count - l.place) ≡ l.fn.entries.items ++ entries_from l.quads (l.at + 1) l.count;
  sound : first_void (entries_from l.quads l.place (l.at + 1 + l.count - l.place)) ≡ first_void (entries_from l.quads (l.at + 1) l.count);
}
