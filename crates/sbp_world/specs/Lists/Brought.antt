-- How ORBs and their data were read, in every run in which no initiator injected packets, or few logins were given, of the initiators that injected none (NCITS 325-1998, command
-- block ORB, page tables and data buffers): before each run, and each end but with the status failed, the target got a response that brought the 32 bytes of the ORB's slot, with
-- the command and the direction of the append; and behind it the agent's own reads brought the page table and the data of the run, in the buffer of the append's length.
use Rattle.std.specs.Prelude.{ℕ, Bool, List}
use Rattle.rbc_disk.specs.Disk.{Disk}
use Rattle.sbp_journal.specs.Run.{Moment}
use Rattle.sbp_world.specs.Lists.CarriedRuns.{RunsAreRead}
use Rattle.sbp_world.specs.Lists.EndReads.{EndsAreRead}
use Rattle.sbp_world.specs.Lists.FedRuns.{RunsAreFed}

pub record AreBrought (wild : ℕ → Bool) (start : List Disk) (past : List Moment) : Type 0 where
  pub runs : RunsAreRead wild start past
  pub buffers : RunsAreFed wild start past
  pub ends : EndsAreRead wild start past
