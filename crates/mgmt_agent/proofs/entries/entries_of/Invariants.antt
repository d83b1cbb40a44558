use Rattle.std.specs.Prelude.{◌≡◌, ◌≤◌, ◌<◌, length, take}
use Rattle.mgmt_agent.specs.Decisions.{entries_of}
use Rattle.mgmt_agent.proofs.entries.entries_of.Given as goal

abbrev pub invariant-loop-place : goal.invariant-loop-place
invariant-loop-place l = record {
  told : l.entries ≡ entries_of l.unit (take l.place l.logins.places);
  most : length l.entries ≤ l.place;
  size : 0 < l.place → length l.logins.places ≡ 8;
}
