-- What the target has under way behind each turn (NCITS 325-1998, command block agents and management agent): an ACTIVE agent waits for its main request, and an operation of the management for its one
-- request, each by the serial that the terms have for it; and a SUSPENDED agent rests: it waits for none, the status write of the ORB that it read last is answered, the next pointer that it got last is null,
-- and no DOORBELL came since its read was sent. It is `agents` and `management` of what the sent law asks behind each turn.
use Rattle.std.specs.Prelude.{List}
use Rattle.rbc_disk.specs.Disk.{Disk}
use Rattle.sbp_journal.specs.Run.{Moment}
use Rattle.sbp_journal.specs.Wire.{terms}
use Rattle.sbp_laws.specs.Budget.{initiators}
use Rattle.sbp_laws.specs.SentLaw.{AfterTurn, AgentsRun, ManagerRuns, RomsRun, end_of}
use Rattle.sbp_laws.specs.Targets.{over, target_at}
use Rattle.sbp_laws.specs.Turns.{EachTurn}
use Rattle.turn_laws.specs.Runs.{OfEveryRun}

pub record TargetWaits (start : List Disk) (past : List Moment) : Type 0 where
  pub agents : AgentsRun start past 0 (over (target_at start past)).agents
  pub management : ManagerRuns (target_at start past).manager.operation (terms past) (target_at start past).manages

abbrev pub TargetWaitsLaw : Type 0
TargetWaitsLaw = OfEveryRun (λ start past. EachTurn (λ t. TargetWaits start (end_of t)) past)

-- a `rom` operation of each initiator has its latest read under way: it is `roms` of what the sent law asks behind each turn
abbrev pub RomsWait : List Moment → Type 0
RomsWait past = RomsRun past (initiators past)

abbrev pub RomsWaitLaw : Type 0
RomsWaitLaw = OfEveryRun (λ start past. EachTurn (λ t. RomsWait (end_of t)) past)

-- both: all that the sent law asks behind each turn
abbrev pub AfterLaw : Type 0
AfterLaw = OfEveryRun (λ start past. EachTurn (AfterTurn start) past)
