-- The sent law (IEEE 1394-1995, asynchronous packets and transactions; NCITS 325-1998, agents). Of packets: serials count from 1, and each
-- packet that is not injected is canonical, from its sender's ID to its receiver's in its sender's generation; a request has the lowest label
-- that serves it. Of answers: a got request has exactly one response, the first packet of its delivery, with the rcode of the address tables
-- and of the agent's state, and the bytes that stand there. Of requests: behind the response a turn sends exactly those that the agents,
-- the management operation, the loads and the initiator's action or ROM read have in it and find a label for, each to its node, with its
-- address, its length and its value; behind an end its status, behind a decision its response or status block. After each turn an ACTIVE agent has one main transaction under way and at most one read ahead, a
-- management operation one request, a `rom` operation one read, and an agent is SUSPENDED only where its last ORB's status was answered, the
-- next pointer last read is null, and no DOORBELL came since the read of it was sent.
use Rattle.std.specs.Prelude.{◌≡◌, ℕ, zero, suc, ◌+◌, true, false, List, [], ◌∷◌, ◌++◌, map, reverse, Option, Some, None, IsSomeAnd}
use Rattle.orb_layout.specs.declared.pointer.OrbPointer.TheVariants.{Null}
use Rattle.rbc_disk.specs.Disk.{Disk}
use Rattle.command_agent.specs.Machine as agent
use Rattle.command_agent.specs.declared.step.AgentState.{AgentState}
use Rattle.command_agent.specs.declared.step.AgentState.TheVariants as states
use Rattle.mgmt_agent.specs.declared.operation.Operation.{Operation}
use Rattle.sbp_journal.specs.Run.{Moment, said}
use Rattle.sbp_journal.specs.Wire.{Terms, terms}
use Rattle.sbp_laws.specs.Turns.{Turn, Where, EachMoment, EachTurn}
use Rattle.sbp_laws.specs.Packets.{is_under_way}
use Rattle.sbp_laws.specs.Hosts.{host_at, Underway, is_rom}
use Rattle.sbp_laws.specs.Targets.{Agent, target_at, over}
use Rattle.sbp_laws.specs.Budget.{initiators}
use Rattle.sbp_laws.specs.SentPackets.{SentAt}
use Rattle.sbp_laws.specs.SentAnswers.{AnswersLaw}
use Rattle.sbp_laws.specs.SentRequests.{RequestsLaw}
use Rattle.sbp_laws.specs.SentWrites.{DecisionsAreSent, StatusesAreSent}
use Rattle.sbp_laws.specs.Unasked.{NoneUnasked}
use Rattle.sbp_laws.specs.Progress.{progress}

-- ---- what is under way after a turn
abbrev pub end_of : Turn → List Moment
end_of t = map said (reverse t.rest) ++ t.start ∷ t.past

-- a request with this serial is under way
abbrev pub Runs : Terms → Option ℕ → Type 0
Runs wire serial = IsSomeAnd serial (λ own. is_under_way wire own ≡ true)

-- An agent rests: nothing of it is under way, the status write of the ORB that it read last is answered, the next pointer that it got last is
-- null, and no DOORBELL came since the read of it was sent.
pub record IsAtRest (start : List Disk) (past : List Moment) (place : ℕ) (a : Agent) : Type 0 where
  pub ended : a.main ≡ None
  pub answered : (progress start past place).answered ≡ true
  pub ends : (progress start past place).next ≡ Null
  pub unrung : (progress start past place).rung ≡ false

abbrev pub RunsBy : AgentState → List Disk → List Moment → (place : ℕ) → Agent → Type 0
RunsBy states.Active start past place a = Runs (terms past) a.main
RunsBy states.Suspended start past place a = IsAtRest start past place a
RunsBy state start past place a = Unit {0}

abbrev pub AgentsRun : List Disk → List Moment → (place : ℕ) → List Agent → Type 0
AgentsRun start past place [] = Unit {0}
AgentsRun start past place (a ∷ agents) = RunsBy (agent.state_in a.machine.phase) start past place a × AgentsRun start past (place + 1) agents

abbrev pub ManagerRuns : Option Operation → Terms → Option ℕ → Type 0
ManagerRuns None wire serial = Unit {0}
ManagerRuns (Some operation) wire serial = Runs wire serial

abbrev pub RomRuns : Option Underway → Terms → Type 0
RomRuns None wire = Unit {0}
RomRuns (Some underway) wire = Where (is_rom (Some underway)) (is_under_way wire underway.latest ≡ true)

abbrev pub RomsRun : List Moment → (count : ℕ) → Type 0
RomsRun past zero = Unit {0}
RomsRun past (suc i) = RomRuns (host_at past i).operation (terms past) × RomsRun past i

pub record AfterTurn (disks : List Disk) (t : Turn) : Type 0 where
  pub agents : AgentsRun disks (end_of t) 0 (over (target_at disks (end_of t))).agents
  pub management : ManagerRuns (target_at disks (end_of t)).manager.operation (terms (end_of t)) (target_at disks (end_of t)).manages
  pub roms : RomsRun (end_of t) (initiators (end_of t))

pub record SentLaw (disks : List Disk) (past : List Moment) : Type 0 where
  pub packets : EachMoment SentAt past
  pub answers : EachTurn (AnswersLaw disks) past
  pub requests : EachTurn (RequestsLaw disks) past
  pub after : EachTurn (AfterTurn disks) past
  pub statuses : EachTurn (StatusesAreSent disks) past
  pub decisions : EachTurn (DecisionsAreSent disks) past
  pub asked : EachMoment (NoneUnasked disks) past
