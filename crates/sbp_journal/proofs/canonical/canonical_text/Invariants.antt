use Rattle.std.proofs.Common.{◌≡◌, ◌-◌, ◌≤◌, [], length}
use Rattle.sbp_journal.proofs.Runs.{completed}
use Rattle.sbp_journal.proofs.canonical.canonical_text.Given as goal

abbrev pub invariant-loop-at : goal.invariant-loop-at
invariant-loop-at l = record {
  order : l.start ≤ l.at;
  within : l.at ≤ length l.bytes;
  text : completed l.bytes l.text l.start l.at ≡ completed l.bytes [] 0 0;
}

abbrev pub decreases-loop-at : goal.decreases-loop-at
decreases-loop-at l = length l.bytes - l.at
