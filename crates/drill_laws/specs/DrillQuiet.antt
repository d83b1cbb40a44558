-- What the wire of a drill is (IEEE 1394-1995, bus reset): there is no reset, so the bus and every node are in generation 0; nobody injects, nothing is lost, and no packet is ignored for its generation.
use Rattle.std.specs.Prelude.{◌≡◌, ℕ, false, List}
use Rattle.bus_transactions.specs.Judging.{AreJudged}
use Rattle.rbc_disk.specs.Disk.{Disk}
use Rattle.sbp_journal.specs.Run.{Entry, Moment, history}
use Rattle.sbp_journal.specs.Wire.{terms}
use Rattle.sbp_laws.specs.ActionLaw.{BringsEach}
use Rattle.sbp_laws.specs.Budget.{Lossless}
use Rattle.sbp_laws.specs.SentPackets.{SentAt}
use Rattle.sbp_laws.specs.Turns.{EachMoment}
use Rattle.drill_laws.specs.DrillLines.{AreDrillLines}

pub record IsQuiet (past : List Moment) : Type 0 where
  pub bus : (terms past).bus ≡ 0
  pub generations : (node : ℕ) → (terms past).generation node ≡ 0
  pub nobody_injects : (node : ℕ) → (terms past).injects node ≡ false
  pub lossless : Lossless past

abbrev pub DrillsAreQuiet : Type 0
DrillsAreQuiet = (disks : List Disk) (entries : List Entry) → AreDrillLines entries → BringsEach disks entries → EachMoment SentAt (history entries) → AreJudged (history entries) → IsQuiet (history entries)
