-- What the checks of an ORB ask for, and what is left behind them.
use Rattle.std.proofs.Common.{arith, ◌≡◌, refl, ℕ, ◌+◌, ◌*◌, Bool, true, false, cond, [], Option, Some, None}
use Rattle.orb_layout.specs.declared.ask.Ask.TheVariants.{Read}
use Rattle.orb_layout.specs.declared.ask.FailCause.{FailCause}
use Rattle.orb_layout.specs.declared.pointer.OrbPointer.{OrbPointer}
use Rattle.orb_layout.specs.declared.pointer.OrbPointer.TheVariants.{Null, At}
use Rattle.orb_layout.specs.declared.status.StatusKind.{StatusKind}
use Rattle.rbc_disk.specs.declared.command.Outcome.{Outcome}
use Rattle.rbc_disk.specs.Units.{PlainDisk}
use Rattle.rbc_disk.specs.Runs.{Told}
use Rattle.command_agent.specs.declared.phase.Phase.TheVariants as phases
use Rattle.command_agent.specs.declared.phase.ReadAhead.{ReadAhead}
use Rattle.command_agent.specs.declared.phase.ReadAhead.TheVariants as aheads
use Rattle.command_agent.specs.declared.step.AgentStep.{AgentStep}
use Rattle.command_agent.specs.Machine.{Machine}
use Rattle.command_agent.specs.Checks.{verdict, death_by, reads_table}
use Rattle.command_agent.specs.Runs.{MayTell}
use Rattle.command_agent.specs.Steps.{asks, checked, check_step, judge_step, ahead_of, with_ahead, unread_buffer}
use Rattle.command_agent.specs.Counting.{mark, MakesAtMost}
use Rattle.command_agent.proofs.Counting.{left_beside}
use Rattle.command_agent.specs.Making.{HasAtMost, MayTellSo}
use Rattle.command_agent.proofs.Making.Runs.{makes_more, end_makes, judge_makes}

-- an ORB that passed its checks: its page table is read, or its command judged
passed_makes : (tables chunks : ℕ) (m : Machine) (told : Told) (place : ℕ) (plain : PlainDisk) (reads : Bool) → reads_table m.orb ≡ reads → m.payload ≡ [] → HasAtMost tables chunks m.orb
    → MayTellSo (cond reads (asks (Read m.orb.descriptor (8 * m.orb.data_size)), record m { phase = phases.ReadingTable }) (judge_step (record m { segments = unread_buffer m.orb }) place plain told)) place plain
    → MakesAtMost tables chunks (tables + chunks + 1) (mark m) (cond reads (asks (Read m.orb.descriptor (8 * m.orb.data_size)), record m { phase = phases.ReadingTable }) (judge_step (record m { segments = unread_buffer m.orb }) place plain told))
passed_makes tables chunks m told place plain true e fresh has may =
    let some = has.some e in
    record { requests = omega (arith, some); marked = omega arith }
passed_makes tables chunks m told place plain false e fresh has may =
    makes_more (omega arith) (judge_makes tables chunks chunks (record m { segments = unread_buffer m.orb }) told place plain fresh (has.few e) may)

checked_makes : (tables chunks : ℕ) (m : Machine) (told : Told) (place : ℕ) (plain : PlainDisk) (verdict : Option StatusKind) → m.payload ≡ [] → HasAtMost tables chunks m.orb
    → MayTellSo (checked m place plain told verdict) place plain → MakesAtMost tables chunks (tables + chunks + 1) (mark m) (checked m place plain told verdict)
checked_makes tables chunks m told place plain (Some kind) fresh has may = makes_more (omega arith) (end_makes tables chunks m kind (death_by kind))
checked_makes tables chunks m told place plain None fresh has may = passed_makes tables chunks m told place plain (reads_table m.orb) refl fresh has may

-- ---- the read ahead behind the checks
ahead_makes : (tables chunks most marks : ℕ) (dead : Option FailCause) (next : OrbPointer) (s : AgentStep × Machine) → MakesAtMost tables chunks most marks s → MakesAtMost tables chunks (most + 1) marks (ahead_of dead next s)
ahead_makes tables chunks most marks None (At next) s a =
    let same = left_beside s.1.phase tables chunks s.1 (aheads.UnderWay s.1.doorbell) false in
    let few = a.requests in
    record { requests = omega (arith, same, few); marked = omega arith }
ahead_makes tables chunks most marks None Null s a = makes_more (omega arith) a
ahead_makes tables chunks most marks (Some cause) next s a = makes_more (omega arith) a

-- it changes nothing of what a run told
tells_beside : (ran : Option Outcome) (m : Machine) (ahead : ReadAhead) (doorbell : Bool) (place : ℕ) (plain : PlainDisk) → MayTell ran (record m { ahead = ahead; doorbell = doorbell }) place plain → MayTell ran m place plain
tells_beside None m ahead doorbell place plain may = tt
tells_beside (Some outcome) m ahead doorbell place plain may = record { fed = may.fed; ended = may.ended; size = may.size; len = may.len; answered = may.answered }

pub tells_before : (dead : Option FailCause) (next : OrbPointer) (s : AgentStep × Machine) (place : ℕ) (plain : PlainDisk) → MayTellSo (ahead_of dead next s) place plain → MayTellSo s place plain
tells_before None (At next) s place plain may = tells_beside s.0.ran s.1 (aheads.UnderWay s.1.doorbell) false place plain may
tells_before None Null s place plain may = may
tells_before (Some cause) next s place plain may = may

-- an ORB whose bytes are there
pub check_makes : (tables chunks : ℕ) (m : Machine) (told : Told) (place : ℕ) (plain : PlainDisk) → m.payload ≡ [] → HasAtMost tables chunks m.orb
    → MayTellSo (with_ahead (check_step m place plain told)) place plain → MakesAtMost tables chunks (tables + chunks + 2) (mark m) (with_ahead (check_step m place plain told))
check_makes tables chunks m told place plain fresh has may =
    let s : AgentStep × Machine = check_step m place plain told in
    makes_more (omega arith)
    (ahead_makes tables chunks (tables + chunks + 1) (mark m) s.0.dead s.1.orb.next s
    (checked_makes tables chunks m told place plain (verdict m.orb m.aborted) fresh has (tells_before s.0.dead s.1.orb.next s place plain may)))
