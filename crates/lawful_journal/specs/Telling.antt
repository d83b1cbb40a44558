-- What is told beside a run, as no law says it: how each run ended that no check decides; the bytes of each chunk of an answer that its medium
-- does not tell; and what an initiator that injects packets finds in its buffer. Each is told by a number that the past alone gives.
use Rattle.std.specs.Prelude.{◌≡◌, ℕ, suc, ◌+◌, not, Bool, true, List, [], ◌∷◌, Option, Some, None}
use Rattle.orb_layout.specs.declared.status.StatusKind.TheVariants as kinds
use Rattle.rbc_command.specs.declared.sense.Sense.{Sense}
use Rattle.rbc_disk.specs.Checks.{check_of}
use Rattle.rbc_disk.specs.Disk.{Disk}
use Rattle.label_table.specs.Bodies.{Body, block_write}
use Rattle.command_agent.specs.Machine as agent
use Rattle.sbp_journal.specs.Run.{Run, Moment, said, history}
use Rattle.sbp_journal.specs.Wire.{Terms, terms}
use Rattle.sbp_journal.specs.declared.note.Note.{Note}
use Rattle.sbp_journal.specs.declared.note.Note.TheVariants as notes
use Rattle.sbp_laws.specs.Turns.{Turn, EachMoment, EachTurn}
use Rattle.sbp_laws.specs.DiskFold.{unit_at}
use Rattle.sbp_laws.specs.Packets.{finds_label}
use Rattle.sbp_laws.specs.Targets.{Target, initiator_at, login_at}
use Rattle.sbp_laws.specs.Agents.{Request, AgentTurn, agent_turn, agent_event, body_of, fifo_in, is_untold_chunk, lacks_label_told, target_before, wire_after, wire_before}
use Rattle.sbp_laws.specs.SentRequests.{IsRequest, asks_by, before_requests, behind_answer}

-- by how many commands ran before; by the serial of the write; and by how many statuses were taken before
pub record Telling : Type 0 where
  pub outcomes : ℕ → Option Sense
  pub chunks : ℕ → List ℕ
  pub answers : ℕ → List ℕ

abbrev pub run_count : List Moment → ℕ
run_count [] = 0
run_count (said (notes.Ran i list number unit cdb bytes check) ∷ past) = suc (run_count past)
run_count (_ ∷ past) = run_count past

abbrev pub take_count : List Moment → ℕ
take_count [] = 0
take_count (said (notes.Taken i n k status answer) ∷ past) = suc (take_count past)
take_count (_ ∷ past) = take_count past

-- ---- runs
-- where no check decides, a run ended as it is told
abbrev pub EndsAsTold : Option Sense → (told ended : Option Sense) → Type 0
EndsAsTold (Some check) told ended = Unit {0}
EndsAsTold None told ended = ended ≡ told

abbrev pub EachEndsAsTold : Option Sense → Target → AgentTurn → List Note → Type 0
EachEndsAsTold told target a [] = Unit {0}
EachEndsAsTold told target a (notes.Ran i list number unit cdb bytes check ∷ rest) =
    EndsAsTold (check_of cdb (agent.plan_of a.machine) (unit_at target.units unit) a.place) told check × EachEndsAsTold told target a rest
EachEndsAsTold told target a (note ∷ rest) = EachEndsAsTold told target a rest

abbrev pub OutcomesAsTold : Option Sense → Target → Option AgentTurn → List Note → Type 0
OutcomesAsTold told target None rest = Unit {0}
OutcomesAsTold told target (Some a) rest = EachEndsAsTold told target a rest

-- ---- chunks
-- a write with the bytes that are told
abbrev pub told_body : List ℕ → Body → Body
told_body chunk (block_write offset payload) = block_write offset chunk
told_body chunk body = body

-- an agent dies for want of a label to a chunk that its medium does not tell where none serves the bytes that are told
abbrev pub DiesAsTold : List ℕ → Target → Turn → AgentTurn → Option Body → Type 0
DiesAsTold chunk target t a None = Unit {0}
DiesAsTold chunk target t a (Some body) =
    is_untold_chunk a ≡ true → lacks_label_told t ≡ not (finds_label (wire_after t) 0 (suc (initiator_at target (wire_before t) a.place)) (told_body chunk body))

abbrev pub LabelsAsTold : List ℕ → Target → Turn → Option AgentTurn → Type 0
LabelsAsTold chunk target t None = Unit {0}
LabelsAsTold chunk target t (Some a) = DiesAsTold chunk target t a (body_of a.step.ask a.machine a.step.ended (fifo_in (login_at target a.place)))

-- the packets that are chunks have the bytes that are told
abbrev pub IsAsTold : Bool → Body → Telling → Terms → (node : ℕ) → Request → (serial generation from to : ℕ) → List ℕ → Type 0
IsAsTold true body telling wire node want serial generation from to bytes =
    IsRequest wire node want (told_body (telling.chunks (wire.count + 1)) body) serial generation from to bytes
IsAsTold is_untold body telling wire node want serial generation from to bytes = Unit {0}

abbrev pub ChunksAsTold : Telling → List Moment → (node : ℕ) → List Note → List Request → Type 0
ChunksAsTold telling past node (notes.Sent serial generation from to bytes ∷ rest) (want ∷ requests) =
    IsAsTold want.is_untold want.body telling (terms past) node want serial generation from to bytes
    × ChunksAsTold telling (said (notes.Sent serial generation from to bytes) ∷ past) node rest requests
ChunksAsTold telling past node rest requests = Unit {0}

-- ---- a turn and a moment
pub record TurnAsTold (telling : Telling) (disks : List Disk) (t : Turn) : Type 0 where
  pub outcomes : OutcomesAsTold (telling.outcomes (run_count t.past)) (target_before disks t) (agent_turn (agent_event disks t) (target_before disks t) (wire_before t) t.rest) t.rest
  pub labels : LabelsAsTold (telling.chunks ((wire_after t).count + 1)) (target_before disks t) t (agent_turn (agent_event disks t) (target_before disks t) (wire_before t) t.rest)
  pub chunks : ChunksAsTold telling (before_requests disks t) (asks_by disks t t.start).node (behind_answer disks t) (asks_by disks t t.start).requests

abbrev pub TakenAsTold : (ℕ → Bool) → Telling → Moment → List Moment → Type 0
TakenAsTold wild telling (said (notes.Taken i n k kinds.Good answer)) past = wild i ≡ true → answer ≡ telling.answers (take_count past)
TakenAsTold wild telling moment past = Unit {0}

-- A run goes as it is told beside it; what is found in buffers is told of the initiators of a set alone.
pub record AsTold (wild : ℕ → Bool) (telling : Telling) (run : Run) : Type 0 where
  pub turns : EachTurn (TurnAsTold telling run.start) (history run.entries)
  pub taken : EachMoment (TakenAsTold wild telling) (history run.entries)
