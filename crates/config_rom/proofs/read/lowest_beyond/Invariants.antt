use Rattle.std.proofs.Common.{◌≡◌, drop}
use Rattle.config_rom.specs.Reading.{nearer, lowest_beyond}
use Rattle.config_rom.proofs.read.lowest_beyond.Given as goal

-- the lowest so far and the lowest of those left are the lowest of all
abbrev pub invariant-loop-entry : goal.invariant-loop-entry
invariant-loop-entry l = nearer l.lowest (lowest_beyond l.end (drop l.entry-index l.entries)) ≡ lowest_beyond l.end l.entries
