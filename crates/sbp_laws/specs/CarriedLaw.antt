-- The carried law (NCITS 325-1998, command block ORB and page tables). It speaks of each run of an ORB, and of each end but with the status
-- failed. Before it the target got a response of the ORB's initiator to a read of the 32 bytes of the ORB's slot, which it sent after the
-- list opened and after the ORB's append. The response spells a command ORB: its format is 3 exactly where the status is dummy; where it is
-- not, its command block and its direction are those of the append. Of a run, the ORB's buffer, by its page table where it has one, which
-- was got since, has the append's length, and the data are the payloads, joined in order, that the target got since from its reads of that
-- buffer's chunks. A command runs in the delivery after which its agent has all that it needs. The answer of a good status that is taken is
-- the payloads, joined in order, of the writes to the chunks of the ORB's buffer that its initiator got since the run. Of every initiator, also
-- of one that injects packets, a command runs where its agent has all that it needs, and ends by the ORB that was read.
use Rattle.std.specs.Prelude.{◌≡◌, ℕ, not, Bool, false, List, [], ◌∷◌, Option, Some, None, IsSomeAnd}
use Rattle.std.specs.List.{filter}
use Rattle.orb_layout.specs.declared.command.CommandOrb.{CommandOrb}
use Rattle.orb_layout.specs.declared.status.StatusKind.{StatusKind}
use Rattle.orb_layout.specs.declared.status.StatusKind.TheVariants as kinds
use Rattle.page_table.specs.declared.segment.Segment.{Segment}
use Rattle.page_table.specs.Buffer.{bytes_of, chunks}
use Rattle.rbc_disk.specs.Disk.{Disk}
use Rattle.rbc_command.specs.declared.sense.Sense.{Sense}
use Rattle.rbc_disk.specs.Checks.{check_of}
use Rattle.rbc_disk.specs.Runs.{failure_of, MayEnd}
use Rattle.rbc_disk.specs.declared.command.Outcome.{Outcome}
use Rattle.command_agent.specs.Machine as agent
use Rattle.sbp_journal.specs.Run.{Moment, said}
use Rattle.sbp_journal.specs.declared.note.Note.{Note}
use Rattle.sbp_journal.specs.declared.note.Note.TheVariants as notes
use Rattle.sbp_laws.specs.Terms.{Request, request_at, plan_of}
use Rattle.sbp_laws.specs.Turns.{Turn, EachMoment, EachTurn}
use Rattle.sbp_laws.specs.Lists.{named, list_in, number_in, slot_at, command_at}
use Rattle.sbp_laws.specs.DiskFold.{unit_at}
use Rattle.sbp_laws.specs.Targets.{Target, initiator_at, unit_of}
use Rattle.sbp_laws.specs.Agents.{AgentTurn, agent_turn, agent_event, target_before, wire_before}
use Rattle.sbp_laws.specs.CarriedBytes.{WasRead, orb_read, Moved, reads_since, writes_since, joined, buffer_in, pieces_of}

-- ---- the law of an end and of a run
-- the ORB is that of the append
pub record IsAsAppended (orb : CommandOrb) (request : Request) : Type 0 where
  pub command : orb.cdb ≡ request.cdb
  pub direction : orb.to_initiator ≡ (plan_of request.buffer).to_initiator

abbrev pub MatchesStatus : StatusKind → CommandOrb → Request → Type 0
MatchesStatus kinds.Dummy orb request = orb.format ≡ 3
MatchesStatus status orb request = (orb.format ≡ 3 → ⊥) × IsAsAppended orb request

pub record EndIsCarried (disks : List Disk) (past : List Moment) (i n k : ℕ) (status : StatusKind) : Type 0 where
  pub read : WasRead disks past i n k
  pub matches : IsSomeAnd (request_at past i n k) (λ request. MatchesStatus status (orb_read past read.response) request)

abbrev pub since_read : (disks : List Disk) (past : List Moment) (i n k : ℕ) → WasRead disks past i n k → List Moved
since_read disks past i n k read = reads_since past i read.response

abbrev pub buffer_read : (disks : List Disk) (past : List Moment) (i n k : ℕ) → WasRead disks past i n k → List Segment
buffer_read disks past i n k read = buffer_in (orb_read past read.response) (since_read disks past i n k read)

pub record RunIsCarried (disks : List Disk) (past : List Moment) (i n k : ℕ) (bytes : List ℕ) : Type 0 where
  pub read : WasRead disks past i n k
  pub not_dummy : (orb_read past read.response).format ≡ 3 → ⊥
  pub as_appended : IsSomeAnd (request_at past i n k) (λ request. IsAsAppended (orb_read past read.response) request)
  pub size : IsSomeAnd (request_at past i n k) (λ request. bytes_of (buffer_read disks past i n k read) ≡ (plan_of request.buffer).bytes)
  pub payloads : bytes ≡ joined (chunks (agent.limit_of (orb_read past read.response)) (buffer_read disks past i n k read)) (since_read disks past i n k read)

abbrev pub AnswerIsCarried : List Moment → (i n k : ℕ) → List ℕ → Type 0
AnswerIsCarried past i n k answer =
    IsSomeAnd (command_at past i n k) (λ cmd. answer ≡ joined (pieces_of (slot_at past i n k) cmd) (writes_since past i n k))

abbrev pub CarriedAt : (ℕ → Bool) → List Disk → Moment → List Moment → Type 0
CarriedAt wild disks (said (notes.Ran i (Some n) (Some k) unit cdb bytes check)) past = wild i ≡ false → RunIsCarried disks past i n k bytes
CarriedAt wild disks (said (notes.Ended i (Some n) (Some k) kinds.Failed)) past = Unit {0}
CarriedAt wild disks (said (notes.Ended i (Some n) (Some k) status)) past = wild i ≡ false → EndIsCarried disks past i n k status
CarriedAt wild disks (said (notes.Taken i n k kinds.Good answer)) past = wild i ≡ false → AnswerIsCarried past i n k answer
CarriedAt wild disks moment past = Unit {0}

-- ---- where a command runs
-- a run, by all but its outcome
pub record Run : Type 0 where
  pub initiator : ℕ
  pub list : Option ℕ
  pub number : Option ℕ
  pub unit : ℕ
  pub cdb : List ℕ
  pub bytes : List ℕ

abbrev pub runs_in : List Note → List Run
runs_in [] = []
runs_in (notes.Ran i list number unit cdb bytes check ∷ rest) = record { initiator = i; list = list; number = number; unit = unit; cdb = cdb; bytes = bytes } ∷ runs_in rest
runs_in (note ∷ rest) = runs_in rest

abbrev pub run_of : List Moment → (i unit : ℕ) → agent.Machine → Option Outcome → List Run
run_of past i unit machine None = []
run_of past i unit machine (Some outcome) =
    record {
      initiator = i;
      list = list_in (named past i machine.present);
      number = number_in (named past i machine.present);
      unit = unit;
      cdb = machine.orb.cdb;
      bytes = machine.payload;
    } ∷ []

abbrev pub run_by : Target → Turn → Option AgentTurn → List Run
run_by target t None = []
run_by target t (Some a) = run_of t.past (initiator_at target (wire_before t) a.place) (unit_of target a.place) a.machine a.step.ran

abbrev pub runs_due : List Disk → Turn → List Run
runs_due disks t = run_by (target_before disks t) t (agent_turn (agent_event disks t) (target_before disks t) (wire_before t) t.rest)

abbrev pub of_others : (ℕ → Bool) → List Run → List Run
of_others wild runs = filter (λ run. not (wild run.initiator)) runs

abbrev pub RunsWhereDue : (ℕ → Bool) → List Disk → Turn → Type 0
RunsWhereDue wild disks t = of_others wild (runs_in t.rest) ≡ of_others wild (runs_due disks t)

-- ---- how a command ends
-- A run ends as the ORB that was read has it, whoever sent it: by the check that holds on the plain disk, or, where none does, good or by a medium
-- call that failed.
abbrev pub EndsBy : Target → Option AgentTurn → (unit : ℕ) → (cdb : List ℕ) → Option Sense → Type 0
EndsBy target None unit cdb check = ⊥
EndsBy target (Some a) unit cdb check =
    let plain = unit_at target.units unit in MayEnd (check_of cdb (agent.plan_of a.machine) plain a.place) (failure_of plain.medium.is_bay cdb) check

abbrev pub EndEachBy : Target → Option AgentTurn → List Note → Type 0
EndEachBy target a [] = Unit {0}
EndEachBy target a (notes.Ran i list number unit cdb bytes check ∷ rest) = EndsBy target a unit cdb check × EndEachBy target a rest
EndEachBy target a (note ∷ rest) = EndEachBy target a rest

abbrev pub EndsAsRead : List Disk → Turn → Type 0
EndsAsRead disks t = EndEachBy (target_before disks t) (agent_turn (agent_event disks t) (target_before disks t) (wire_before t) t.rest) t.rest

pub record CarriedLaw (wild : ℕ → Bool) (disks : List Disk) (past : List Moment) : Type 0 where
  pub carried : EachMoment (CarriedAt wild disks) past
  pub due : EachTurn (RunsWhereDue (λ i. false) disks) past
