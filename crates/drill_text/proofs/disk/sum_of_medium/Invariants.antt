-- The blocks up to this one are summed up, and no read failed.
use Rattle.std.proofs.Common.{◌≡◌, ◌≤◌, ◌-◌, length}
use Rattle.drill_text.proofs.DiskSums.{SummedTo}
use Rattle.drill_text.proofs.disk.sum_of_medium.Given as goal

abbrev pub invariant-loop-lba : goal.invariant-loop-lba
invariant-loop-lba g l = record {
  size : length l.room ≡ 8192;
  few : l.lba ≤ l.blocks;
  kept : (goal.Medium-dyn g l.medium.now).disk l.medium.now.1 ≡ (goal.Medium-dyn g l.fn.medium.now).disk l.fn.medium.now.1;
  no_fault : (goal.Medium-dyn g l.medium.now).media_faults l.medium.now.1 ≡ (goal.Medium-dyn g l.fn.medium.now).media_faults l.fn.medium.now.1;
  summed : SummedTo ((goal.Medium-dyn g l.fn.medium.now).disk l.fn.medium.now.1).bytes l.lba l.sum;
}

abbrev pub decreases-loop-lba : goal.decreases-loop-lba
decreases-loop-lba g l = l.blocks - l.lba
