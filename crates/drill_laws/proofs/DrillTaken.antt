-- As many statuses were taken as ORBs were appended, where each rung one has its own.
use Rattle.std.proofs.Common.{◌≡◌, ◌∙◌, sym, ap, suc, ◌<◌, ◌==◌, true, cond, List, arith}
use Rattle.rbc_disk.specs.Disk.{Disk}
use Rattle.sbp_journal.specs.Run.{Entry, Moment, history}
use Rattle.sbp_journal.specs.Wire.{terms}
use Rattle.sbp_laws.specs.Budget.{since_reset}
use Rattle.sbp_laws.specs.Lawful.{nobody}
use Rattle.sbp_laws.specs.OrderLaw.{OrderLaw}
use Rattle.sbp_laws.specs.Terms.{appends}
use Rattle.sbp_world.specs.Completing.Sights.{IsFresh, behind_sight, has_begun}
use Rattle.drill_text.specs.Tally.{is_append, is_taken}
use Rattle.drill_laws.specs.DrillCalm.{IsLawfulDrill}
use Rattle.drill_laws.specs.DrillTaken.{AreRungTaken, DrillsTakeAll}
use Rattle.drill_laws.specs.DrillTakings.{AllTaken}
use Rattle.drill_laws.proofs.DrillCalm.{drills_are_calm}
use Rattle.drill_laws.proofs.DrillCounts.{told_is}
use Rattle.drill_laws.proofs.DrillMoments.{drill_moments}
use Rattle.drill_laws.proofs.DrillRung.{begun_since, rung_up}
use Rattle.drill_laws.proofs.DrillTakings.{takings_law}
use Rattle.drill_laws.proofs.DrillWire.{is_quiet}

-- each ORB that was appended has its status
pub all_taken : (disks : List Disk) (entries : List Entry) → IsLawfulDrill disks entries → OrderLaw nobody (history entries) → AreRungTaken (history entries) → AllTaken (history entries)
all_taken disks entries lawful order done =
    let run = lawful.run in
    let past : List Moment = history entries in
    let d = drill_moments disks entries run.brings run.lines in
    let quiet = is_quiet past d run.packets run.judged in
    let up = rung_up disks entries run.brings run.lines in
    let calm = drills_are_calm disks entries lawful in
    let begun = begun_since past d order in
    λ i n k below.
    let some : 0 < appends past i n = omega (arith, below) in
    let small = up.inside i n some in
    let two = up.two in
    let rung_here = up.rung_all i n in
    let since : has_begun (cond ((terms past).bus == 0) (since_reset past) (behind_sight (suc i) (since_reset past))) i n ≡ true
    = ap (λ b. has_begun (cond (b == 0) (since_reset past) (behind_sight (suc i) (since_reset past))) i n) quiet.bus ∙ begun i n some in
    let fresh : IsFresh past i n = record { inside = omega (arith, small, two); begun = since; uncut = calm.uncut i n } in
    done i n k fresh (omega (arith, below, rung_here))

pub drills_take_all : DrillsTakeAll
drills_take_all disks entries lawful lists done = sym (told_is is_taken entries) ∙ sym (takings_law.all disks (history entries) lists (all_taken disks entries lawful lists.order done)) ∙ told_is is_append entries
