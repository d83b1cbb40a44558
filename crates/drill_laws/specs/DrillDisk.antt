-- What a drill's commands do on a unit that is as they need it (RBC): one that is started, has no unit attention to tell, and whose medium is present, not protected, and has 64 blocks at least. No check
-- holds for such a command; and where it ends good it leaves the unit so.
use Rattle.std.specs.Prelude.{◌≡◌, ◌≤◌, ℕ, Bool, true, false, List, Some, None}
use Rattle.rbc_command.specs.declared.sense.Sense.{Sense}
use Rattle.rbc_disk.specs.Checks.{check_of}
use Rattle.rbc_disk.specs.Runs.{after_run, failure_of, is_failure}
use Rattle.rbc_disk.specs.Units.{PlainDisk}
use Rattle.sbp_journal.specs.declared.event.Cmd.{Cmd}
use Rattle.sbp_laws.specs.Actions.{buffer_of}
use Rattle.sbp_laws.specs.DiskFold.{moves_disc}
use Rattle.sbp_laws.specs.Terms.{plan_of}
use Rattle.drill_laws.specs.DrillLines.{IsDrillCommand}

pub record IsHealthy (plain : PlainDisk) : Type 0 where
  pub started : plain.unit.is_started ≡ true
  pub reset : plain.unit.reset ≡ 0
  pub changed : plain.unit.changed ≡ 0
  pub present : plain.medium.is_present ≡ true
  pub open_for_it : plain.medium.is_protected ≡ false
  pub room : 64 ≤ plain.medium.blocks

pub record CommandsPass : Type 0 where
  pub unchecked : (cmd : Cmd) (plain : PlainDisk) (place : ℕ) → IsDrillCommand cmd → IsHealthy plain → check_of cmd.cdb (plan_of (buffer_of cmd)) plain place ≡ None
  pub leaves : (cmd : Cmd) (plain : PlainDisk) (place : ℕ) (bytes : List ℕ) → IsDrillCommand cmd → IsHealthy plain → IsHealthy (after_run cmd.cdb bytes None place plain)
  pub moves_none : (cmd : Cmd) (plain : PlainDisk) → IsDrillCommand cmd → moves_disc cmd.cdb None plain ≡ false
  pub fails : (cmd : Cmd) (is_bay : Bool) (sense : Sense) → IsDrillCommand cmd → failure_of is_bay cmd.cdb ≡ Some sense → is_failure (Some sense) ≡ true
