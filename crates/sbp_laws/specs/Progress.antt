-- How far an agent is in its list, by the packets that the target sent and got (NCITS 325-1998, command block agents): the next pointer of its
-- present or last ORB as it was last got, that of an ORB that it reads ahead, whether the status write of the ORB that it read last is answered,
-- and whether a DOORBELL came since the latest read of an ORB or of a next pointer was sent.
use Rattle.std.specs.Prelude.{ℕ, zero, ◌==◌, Bool, true, false, if◌then◌else◌, List, [], ◌∷◌, length, Option, Some, None}
use Rattle.orb_layout.specs.declared.pointer.OrbPointer.{OrbPointer}
use Rattle.orb_layout.specs.declared.pointer.OrbPointer.TheVariants.{Null}
use Rattle.orb_layout.specs.Replies.{Answer, Payload, Done}
use Rattle.orb_layout.specs.Pointers.{pointer_at}
use Rattle.rbc_disk.specs.Disk.{Disk}
use Rattle.command_agent.specs.declared.phase.Phase.{Phase}
use Rattle.command_agent.specs.declared.phase.Phase.TheVariants as phases
use Rattle.command_agent.specs.declared.step.Which.{Which}
use Rattle.command_agent.specs.declared.step.Which.TheVariants.{Main, Ahead}
use Rattle.sbp_journal.specs.Run.{Moment, said}
use Rattle.sbp_journal.specs.Addresses.{doorbell}
use Rattle.sbp_journal.specs.Wire.{terms}
use Rattle.sbp_journal.specs.declared.note.Note.TheVariants as notes
use Rattle.sbp_laws.specs.Targets.{Agent, agent_at, is_serial, target_at, over}
use Rattle.sbp_laws.specs.Agents.{Event, replies, writes, event_by}

-- A next pointer is null until it is got.
pub record Progress : Type 0 where
  pub next : OrbPointer
  pub ahead : Option OrbPointer
  pub answered : Bool
  pub rung : Bool

abbrev pub no_progress : Progress
no_progress = record { next = Null; ahead = None; answered = false; rung = false }

-- ---- what the target sends for it: the read of an ORB, of its last ORB's next pointer, or ahead
abbrev pub reads_main : Phase → Progress → Progress
reads_main phases.Fetching p = no_progress
reads_main phases.ReadingNext p = record p { rung = false }
reads_main phase p = p

abbrev pub sends : Agent → (serial : ℕ) → Progress → Progress
sends a serial p =
    if is_serial a.ahead serial then record p { ahead = Some Null; rung = false }
    else if is_serial a.main serial then reads_main a.machine.phase p
    else p

-- ---- what the target gets for it: an ORB has 32 bytes, a next pointer 8, and each begins with a next pointer
abbrev pub first_pointer : (size : ℕ) → List ℕ → Option OrbPointer
first_pointer size bytes = if length bytes == size then Some (pointer_at bytes 0) else None

abbrev pub with_next : Option OrbPointer → Progress → Progress
with_next None p = p
with_next (Some next) p = record p { next = next }

-- The status write is answered: an ORB that was read ahead has its turn.
abbrev pub turns : Option OrbPointer → Progress → Progress
turns None p = record p { answered = true }
turns (Some next) p = record p { next = next; ahead = None }

abbrev pub gets_main : Phase → Answer → Progress → Progress
gets_main phases.Fetching (Payload bytes) p = with_next (first_pointer 32 bytes) p
gets_main phases.ReadingNext (Payload bytes) p = with_next (first_pointer 8 bytes) p
gets_main phases.WritingStatus Done p = turns p.ahead p
gets_main phase answer p = p

-- A read ahead that fails is forgotten.
abbrev pub gets_ahead : Answer → Progress → Progress
gets_ahead (Payload bytes) p = record p { ahead = first_pointer 32 bytes }
gets_ahead answer p = record p { ahead = None }

abbrev pub gets_by : Which → Agent → Answer → Progress → Progress
gets_by Main a answer p = gets_main a.machine.phase answer p
gets_by Ahead a answer p = gets_ahead answer p

abbrev pub gets : Event → (place : ℕ) → Agent → Progress → Progress
gets (replies reply) place a p = if reply.place == place then gets_by reply.which a reply.answer p else p
gets (writes doorbell other access) place a p = if other == place then record p { rung = true } else p
gets event place a p = p

-- the agent of a place, before a moment and behind it
abbrev pub agent_over : List Disk → List Moment → (place : ℕ) → Agent
agent_over start past place = agent_at (over (target_at start past)) place

abbrev pub event_of : List Disk → Moment → List Moment → Event
event_of start moment past = event_by moment (over (target_at start past)) (terms past)

abbrev pub progress : List Disk → List Moment → (place : ℕ) → Progress
progress start [] place = no_progress
progress start (said (notes.Sent serial generation zero to bytes) ∷ past) place =
    sends (agent_at (target_at start (said (notes.Sent serial generation zero to bytes) ∷ past)) place) serial (progress start past place)
progress start (said (notes.Got serial) ∷ past) place =
    gets (event_of start (said (notes.Got serial)) past) place (agent_over start past place) (progress start past place)
progress start (said (notes.TimedOut serial) ∷ past) place =
    gets (event_of start (said (notes.TimedOut serial)) past) place (agent_over start past place) (progress start past place)
progress start (_ ∷ past) place = progress start past place
