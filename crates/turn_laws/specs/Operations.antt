-- What a turn brings of the operations, the lists and the sessions of initiators (NCITS 325-1998, task management and login): `op`, `drop` and `stuck` stand exactly where the rules of an initiator say.
-- But `stuck` where an initiator that injected packets gets conflict_error for a write of its own to MANAGEMENT_AGENT that is of no operation of management: the rules tell such a write by its address alone.
use Rattle.std.specs.Prelude.{◌≡◌, ◌==◌, ◌&&◌, ℕ, zero, suc, not, Bool, true, false, List, Option, Some, None}
use Rattle.orb_layout.specs.Replies.{Answer, Refused}
use Rattle.sbp_journal.specs.Run.{Moment, said}
use Rattle.sbp_journal.specs.Wire.{terms}
use Rattle.sbp_journal.specs.declared.event.Action.{Action}
use Rattle.sbp_journal.specs.declared.note.Note.{Note}
use Rattle.sbp_journal.specs.declared.note.Note.TheVariants as notes
use Rattle.sbp_laws.specs.Hosts.{host_at, is_serial, operation_of}
use Rattle.sbp_laws.specs.NoteKinds.{is_operation_note, of_kind}
use Rattle.sbp_laws.specs.Operations.{is_management_write, operation_notes}
use Rattle.sbp_laws.specs.Packets.{access_at, answer_in, answered_at, packet_at, receiver_in}
use Rattle.sbp_laws.specs.Turns.{EachTurn, Turn}
use Rattle.sbp_world.specs.Lists.FewLogins.{IsCalmBeside}
use Rattle.sbp_world.specs.Pointers.Moments.{asked_in, manages}
use Rattle.turn_laws.specs.Runs.{OfEveryRun}

-- the notes of the turn on operations, lists and sessions are those that the rules give
abbrev pub OperationsStand : Turn → Type 0
OperationsStand t = of_kind is_operation_note t.rest ≡ operation_notes t

-- the node is an initiator
abbrev pub of_initiator : Option ℕ → Bool
of_initiator None = false
of_initiator (Some zero) = false
of_initiator (Some (suc i)) = true

-- conflict_error
abbrev pub is_conflict : Answer → Bool
is_conflict (Refused rcode) = rcode == 4
is_conflict answer = false

-- a request is of an action that begins an operation of management
abbrev pub is_managed : Option Action → Bool
is_managed None = false
is_managed (Some action) = manages (operation_of action)

-- it answers a write of initiator i to MANAGEMENT_AGENT that is of no such operation
abbrev pub conflicts_at : List Moment → (i : ℕ) → (own : Option ℕ) → Answer → Bool
conflicts_at past i None answer = false
conflicts_at past i (Some own) answer = is_conflict answer && is_management_write (host_at past i) (access_at (terms past) own) && not (is_managed (asked_in past own i))

-- initiator i gets it so
abbrev pub gets_conflict : Moment → List Moment → (i : ℕ) → Bool
gets_conflict (said (notes.Got serial)) past i =
    is_serial (receiver_in ((terms past).sent serial)) (suc i) && conflicts_at past i (answered_at (terms past) serial) (answer_in (packet_at (terms past) serial))
gets_conflict moment past i = false

-- an operation ends, or a list is dropped
abbrev pub is_ending_note : Note → Bool
is_ending_note (notes.Op i operation word) = true
is_ending_note (notes.Drop i n) = true
is_ending_note note = false

-- All stand so where each one that gets conflict_error so injected no packets, nor did others, or few logins were given; and whoever gets it, operations end and lists are dropped so.
pub record OperationsHold (t : Turn) : Type 0 where
  pub whole : ((i : ℕ) → gets_conflict t.start t.past i ≡ true → IsCalmBeside t.past i) → OperationsStand t
  pub ends : of_kind is_ending_note t.rest ≡ of_kind is_ending_note (operation_notes t)

abbrev pub OperationsLaw : Type 0
OperationsLaw = OfEveryRun (λ start past. EachTurn OperationsHold past)
