-- What a queue keeps of the notes of its world, as a fold over them: its session, whether an operation is under way and whether its present
-- list is marked dead, and how its submissions stand.
use Rattle.std.specs.Prelude.{ℕ, ◌+◌, ◌==◌, ◌&&◌, ◌||◌, nat_lt, Bool, true, false, if◌then◌else◌, List, [], ◌∷◌, ◌++◌, Option, Some, None}
use Rattle.orb_layout.specs.declared.status.StatusKind.{StatusKind}
use Rattle.sbp_journal.specs.Run.{said}
use Rattle.sbp_journal.specs.declared.event.Event.{Event}
use Rattle.sbp_journal.specs.declared.event.Event.TheVariants as events
use Rattle.sbp_journal.specs.declared.operation.Operation.{Operation}
use Rattle.sbp_journal.specs.declared.operation.Operation.TheVariants as operations
use Rattle.sbp_journal.specs.declared.operation.OpWord.{OpWord}
use Rattle.sbp_journal.specs.declared.note.Note.{Note}
use Rattle.sbp_journal.specs.declared.note.Note.TheVariants as notes
use Rattle.sbp_laws.specs.Hosts.{Session, out, live, operation_of, session_ended, session_reset, session_sent, session_stuck}
use Rattle.retry_queue.specs.declared.kept.Kept as declared
use Rattle.retry_queue.specs.declared.kept.Finished.{Finished}
use Rattle.retry_queue.specs.declared.note.QueueNote.{QueueNote}
use Rattle.retry_queue.specs.declared.note.QueueNote.TheVariants as queue_notes
use Rattle.sbp_laws.specs.Turns.{event_of}
use Rattle.sbp_world.specs.Lists.Faults.{is_fault}
use Rattle.retry_queue.specs.Steps.{Step, of_world, world}
use Rattle.retry_queue.specs.Known.{is_final}
use Rattle.retry_queue.specs.Sessions.{session_of}

-- The session; whether an operation is under way; whether the present list is marked dead; the generation that the initiator saw last; the
-- submission that the present list began with, the one that is to be appended next, and the first one without a status.
pub record Kept : Type 0 where
  pub session : Session
  pub is_busy : Bool
  pub is_dead : Bool
  pub generation : ℕ
  pub first : ℕ
  pub next : ℕ
  pub done : ℕ

abbrev pub kept_of : declared.Kept → Kept
kept_of kept = record {
  session = session_of kept.session;
  is_busy = kept.is_busy;
  is_dead = kept.is_dead;
  generation = kept.generation;
  first = kept.first;
  next = kept.next;
  done = kept.done;
}

-- before any note
abbrev pub new_kept : Kept
new_kept = record { session = out; is_busy = false; is_dead = false; generation = 0; first = 0; next = 0; done = 0 }

-- ---- what a note adds

abbrev pub begun : Bool → ℕ → Kept → Kept
begun ready initiators kept = if ready && nat_lt 0 initiators then record kept { session = live; is_busy = false; is_dead = false } else kept

-- the request of the operation that the line asks for
abbrev pub sent : Option Operation → Kept → Kept
sent None kept = kept
sent (Some operation) kept = record kept { is_busy = true; session = session_sent operation kept.session }

-- a read of AGENT_STATE is no operation that is under way
abbrev pub ended : Operation → OpWord → Kept → Kept
ended operations.State word kept = kept
ended operation word kept = record kept { is_busy = false; session = session_ended operation word kept.session }

abbrev pub stuck : Kept → Kept
stuck kept = record kept { session = session_stuck kept.session }

-- a list begins with its ORB 0, for the first submission without a status
abbrev pub appended : ℕ → Kept → Kept
appended k kept =
    if k == 0 then record kept { is_dead = false; first = kept.done; next = kept.done + 1 } else record kept { next = kept.next + 1 }

abbrev pub dropped : Kept → Kept
dropped kept = record kept { is_dead = false; next = kept.done }

abbrev pub taken : StatusKind → Kept → Kept
taken status kept =
    record kept { is_dead = kept.is_dead || is_fault status; done = if is_final status then kept.done + 1 else kept.done }

abbrev pub seen : ℕ → Kept → Kept
seen generation kept =
    if generation == kept.generation then kept else record kept { session = session_reset kept.session; is_busy = false; generation = generation }

-- a note in a line that asked for this operation, if for one
abbrev pub learned : Option Operation → Note → Kept → Kept
learned asked (notes.Begin initiators ready) kept = begun ready initiators kept
learned asked (notes.Sent serial generation from to bytes) kept = if from == 1 then sent asked kept else kept
learned asked (notes.Op i operation word) kept = if i == 0 then ended operation word kept else kept
learned asked (notes.Stuck i) kept = if i == 0 then stuck kept else kept
learned asked (notes.Append i n k cdb buffer) kept = if i == 0 then appended k kept else kept
learned asked (notes.Drop i n) kept = if i == 0 then dropped kept else kept
learned asked (notes.Taken i n k status answer) kept = if i == 0 then taken status kept else kept
learned asked (notes.Seen node generation) kept = if node == 1 then seen generation kept else kept
learned asked _ kept = kept

-- the submission that a note gives its status
abbrev pub finished : Note → Kept → Option Finished
finished (notes.Taken i n k status answer) kept =
    if (i == 0) && is_final status then Some (record { number = kept.first + k; status = status }) else None
finished _ kept = None

-- ---- the notes of a line, the latest one first

abbrev pub learned_all : Option Operation → List Note → Kept → Kept
learned_all asked [] kept = kept
learned_all asked (note ∷ before) kept = learned asked note (learned_all asked before kept)

-- `written` stands directly behind its `taken`
abbrev pub written : Option Finished → List QueueNote
written None = []
written (Some finished) = queue_notes.Written finished.number finished.status ∷ []

abbrev pub told : Option Operation → List Note → Kept → List QueueNote
told asked [] kept = []
told asked (note ∷ before) kept =
    written (finished note (learned_all asked before kept)) ++ queue_notes.World note ∷ told asked before kept

-- ---- a journal

-- the operation that a line asks the queue's initiator for
abbrev pub asked_by : Event → Option Operation
asked_by (events.Act i action) = if i == 0 then operation_of action else None
asked_by _ = None

abbrev pub asked_in : Option Event → Option Operation
asked_in None = None
asked_in (Some event) = asked_by event

abbrev pub kept : List Step → Kept
kept [] = new_kept
kept (of_world (said note) ∷ past) = learned (asked_in (event_of (world past))) note (kept past)
kept (_ ∷ past) = kept past
