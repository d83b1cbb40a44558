-- The cause law (NCITS 325-1998, agents, management and task management). Each note on an effect stands exactly where its cause is. A list
-- is cut in the delivery of an AGENT_RESET, before the decision of an abort set, a logout, a unit reset or a target reset, and where the
-- target sees a reset, and nowhere else. An agent becomes dead, once in a list, where a main transaction of it times out, finds no label, is
-- refused or has a payload of another length, and where an ORB or its page table is illegal; the ORB that was present ends behind it as
-- failed or illegal. A management operation fails by the same causes. An operation ends, a list is dropped and a session becomes stuck
-- where the initiator's rules say. A unit is cleared by a unit reset and a target reset.
use Rattle.std.specs.Prelude.{◌≡◌, ℕ, ◌%◌, ◌^◌, ◌==◌, ◌&&◌, ◌||◌, Bool, true, false, List, [], ◌∷◌, Option, Some, None}
use Rattle.orb_layout.specs.declared.status.StatusKind.{StatusKind}
use Rattle.orb_layout.specs.declared.status.StatusKind.TheVariants as kinds
use Rattle.rbc_disk.specs.Disk.{Disk}
use Rattle.sbp_journal.specs.Run.{Moment, said}
use Rattle.sbp_journal.specs.declared.operation.FunctionWord.TheVariants as functions
use Rattle.sbp_journal.specs.declared.note.Note.TheVariants as notes
use Rattle.sbp_laws.specs.Terms.{runs, ended_status}
use Rattle.sbp_laws.specs.Turns.{Turn, EachMoment, EachTurn}
use Rattle.sbp_laws.specs.Lists.{Orb, named}
use Rattle.sbp_laws.specs.Targets.{Decided, target_at}
use Rattle.sbp_laws.specs.Agents.{agent_event, agent_turn, target_before, wire_before}
use Rattle.sbp_laws.specs.Management.{cuts_due, cleared_due, failures_due}
use Rattle.sbp_laws.specs.Operations.{operation_notes}
use Rattle.sbp_laws.specs.Aborts.{AbortsStand}
use Rattle.sbp_laws.specs.Decided.{DecisionStands}
use Rattle.sbp_laws.specs.SentWrites.{ends_silently}
use Rattle.sbp_laws.specs.NoteKinds.{is_cut_note, is_cleared_note, is_failure_note, is_end_note, is_operation_note, of_kind}
use Rattle.sbp_laws.specs.Deaths.{dies_again, ends_due, illegal_in, DeathsHaveRows, DiesUnserved, FailuresHaveRows, FaultsFollowDeaths, IllegalsHaveCodes}

-- Row by row, the notes of a turn are those that have their cause in it.
pub record HasCauses (disks : List Disk) (t : Turn) : Type 0 where
  pub cuts : of_kind is_cut_note t.rest ≡ cuts_due disks (target_before disks t) t
  pub cleared : of_kind is_cleared_note t.rest ≡ cleared_due (target_before disks t) t
  pub ends : of_kind is_end_note t.rest ≡ ends_due disks t
  pub deaths : DeathsHaveRows disks t t.rest
  pub faults : FaultsFollowDeaths None t.rest
  pub failures : of_kind is_failure_note t.rest ≡ failures_due (target_before disks t) t
  pub operations : of_kind is_operation_note t.rest ≡ operation_notes t
  pub unserved : DiesUnserved (target_before disks t) t (agent_turn (agent_event disks t) (target_before disks t) (wire_before t) t.rest)
  pub codes : IllegalsHaveCodes (illegal_in disks t) t.rest
  pub failing : FailuresHaveRows (target_before disks t) t t.rest
  pub once : dies_again disks t ≡ false
  pub aborts : AbortsStand disks t
  pub decided : DecisionStands disks t
  pub silent : ends_silently disks t ≡ false

-- ---- aborted ORBs
-- An `mgmt I abort` with 00 came for this very ORB, which had neither run nor ended then: the management ORB that the target got for it has
-- the address of the ORB's slot.
abbrev pub abort_names : List Moment → (i : ℕ) → Option Decided → Option Orb
abort_names past i None = None
abort_names past i (Some decided) = named past i (decided.orb.first % 2 ^ 48)

abbrev pub is_orb_of : Option Orb → (n k : ℕ) → Bool
is_orb_of None n k = false
is_orb_of (Some one) n k = (one.list == n) && (one.number == k)

abbrev pub is_none_status : Option StatusKind → Bool
is_none_status None = true
is_none_status (Some status) = false

abbrev pub is_marked : List Disk → List Moment → (i n k : ℕ) → Bool
is_marked disks [] i n k = false
is_marked disks (said (notes.Managed j functions.Abort subject status login) ∷ past) i n k =
    ((i == j) && (status == 0) && is_orb_of (abort_names past i (target_at disks past).decided) n k && (runs past i n k == 0) && is_none_status (ended_status past i n k))
    || is_marked disks past i n k
is_marked disks (_ ∷ past) i n k = is_marked disks past i n k

abbrev pub AbortedAt : List Disk → Moment → List Moment → Type 0
AbortedAt disks (said (notes.Ended i (Some n) (Some k) kinds.Aborted)) past = is_marked disks past i n k ≡ true
AbortedAt disks moment past = Unit {0}

pub record CauseLaw (disks : List Disk) (past : List Moment) : Type 0 where
  pub causes : EachTurn (HasCauses disks) past
  pub aborted : EachMoment (AbortedAt disks) past
