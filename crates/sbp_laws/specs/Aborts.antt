-- The row `ended` aborted (NCITS 325-1998, task management). An ORB ends as aborted exactly in a delivery of which all of this holds. An
-- `mgmt I abort` with 00 stands before it, for this ORB, which was then the present one of its agent and had neither run nor ended, and so it has
-- been since. The delivery is that of the next response for it, which is complete and has the length asked for, and does not bring an ORB of a
-- format other than 0.
use Rattle.std.specs.Prelude.{◌≡◌, ℕ, ◌%◌, ◌^◌, ◌==◌, ◌&&◌, ◌||◌, not, length, Bool, true, false, List, [], ◌∷◌, Option, Some, None}
use Rattle.std.specs.List.{list_any}
use Rattle.orb_layout.specs.CommandOrbs.{command_orb}
use Rattle.orb_layout.specs.declared.status.StatusKind.TheVariants as kinds
use Rattle.orb_layout.specs.Replies.{Answer, Payload}
use Rattle.rbc_disk.specs.Disk.{Disk}
use Rattle.command_agent.specs.Machine as agent
use Rattle.command_agent.specs.declared.phase.Phase.{Phase}
use Rattle.command_agent.specs.declared.phase.Phase.TheVariants as phases
use Rattle.command_agent.specs.declared.step.Which.{Which}
use Rattle.command_agent.specs.declared.step.Which.TheVariants.{Main, Ahead}
use Rattle.sbp_journal.specs.Addresses.{Access}
use Rattle.sbp_journal.specs.Run.{Moment, said}
use Rattle.sbp_journal.specs.declared.operation.FunctionWord.TheVariants as functions
use Rattle.sbp_journal.specs.declared.note.Note.{Note}
use Rattle.sbp_journal.specs.declared.note.Note.TheVariants as notes
use Rattle.sbp_laws.specs.Turns.{Turn}
use Rattle.sbp_laws.specs.Targets.{Target, Agent, Decided, Reply, agent_at, has_id, login_at, target_at}
use Rattle.sbp_laws.specs.Agents.{Event, replies, agent_event, target_before, wire_before}
use Rattle.sbp_laws.specs.Deaths.{access_by}

-- an agent has the ORB at an address as its present one, and reads it, its page table or its data: so it has neither run nor ended
abbrev pub is_unrun : Agent → (address : ℕ) → Bool
is_unrun a address = (a.machine.present == address) && agent.awaits_run a.machine.phase

-- the management ORB that the target got names the login of a place and an ORB of it that has neither run nor ended
abbrev pub aborts : Target → (place address : ℕ) → Option Decided → Bool
aborts target place address None = false
aborts target place address (Some decided) =
    has_id decided.orb.subject (login_at target place) && (agent.aligned (decided.orb.first % 2 ^ 48) == address) && is_unrun (agent_at target place) address

abbrev pub aborts_at : List Disk → List Moment → (place address status : ℕ) → Bool
aborts_at disks past place address status = (status == 0) && aborts (target_at disks past) place address (target_at disks past).decided

-- An abort with 00 of the ORB at an address stands before, and ever since this was the present ORB and had neither run nor ended.
abbrev pub is_aborted : List Disk → List Moment → (place address : ℕ) → Bool
is_aborted disks [] place address = false
is_aborted disks (said (notes.Managed i functions.Abort subject status login) ∷ past) place address =
    aborts_at disks past place address status || is_aborted disks past place address
is_aborted disks (moment ∷ past) place address = is_aborted disks past place address && is_unrun (agent_at (target_at disks (moment ∷ past)) place) address

abbrev pub is_abort : Moment → Bool
is_abort (said (notes.Managed i functions.Abort subject status login)) = true
is_abort moment = false

-- a response that is complete and has the length asked for
abbrev pub is_whole : Answer → Option Access → Bool
is_whole (Payload bytes) (Some access) = length bytes == access.count
is_whole answer access = false

-- it brings an ORB of a format other than 0
abbrev pub brings_format : Phase → Answer → Bool
brings_format phases.Fetching (Payload bytes) = not ((command_orb bytes).format == 0)
brings_format phase answer = false

abbrev pub is_main : Which → Bool
is_main Main = true
is_main Ahead = false

-- the present ORB of a turn for an agent, by its address, with the place
abbrev pub present_at : Target → Reply → ℕ
present_at target reply = (agent_at target reply.place).machine.present

abbrev pub is_for_unrun : Target → Turn → Reply → Bool
is_for_unrun target t reply =
    let a = agent_at target reply.place in
    is_main reply.which && agent.awaits_run a.machine.phase && is_whole reply.answer (access_by (wire_before t) a.main) && not (brings_format a.machine.phase reply.answer)

abbrev pub aborted_by : List Disk → Turn → Event → Bool
aborted_by disks t (replies reply) =
    let target = target_before disks t in
    list_any is_abort t.past && (is_for_unrun target t reply && is_aborted disks t.past reply.place (present_at target reply))
aborted_by disks t event = false

abbrev pub is_aborted_note : Note → Bool
is_aborted_note (notes.Ended i list number kinds.Aborted) = true
is_aborted_note note = false

abbrev pub AbortsStand : List Disk → Turn → Type 0
AbortsStand disks t = list_any is_aborted_note t.rest ≡ aborted_by disks t (agent_event disks t)
