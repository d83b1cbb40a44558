-- What an initiator knows of its present list, and which reads of AGENT_STATE are under way (NCITS 325-1998, AGENT_STATE and ORB_POINTER),
-- by what its calls were. A list's ORB_POINTER is answered where the response with rcode 0 was got while that list was present. A list
-- is marked dead where a status with the dead bit is taken, or an AGENT_STATE of 3 is got that counts for it. Both end with the list: as
-- it is dropped, as another one begins, and as a generation is seen. A read of AGENT_STATE counts for the list that was present and whose
-- ORB_POINTER had been answered as the read was asked for, and for no other. It is under way from its action on, until its transaction
-- ends or a generation is seen.
use Rattle.std.specs.Prelude.{◌≡◌, ℕ, ◌==◌, ◌&&◌, not, nat_lt, is_some, Bool, true, false, if◌then◌else◌, List, [], ◌∷◌, ◌++◌, Option, Some, None, Result, Ok, Err}
use Rattle.std.specs.List.{list_any}
use Rattle.async_packet.specs.Labels.{LabelParts}
use Rattle.async_packet.specs.Packet.{Packet}
use Rattle.label_table.specs.declared.reply.Stale.{Stale}
use Rattle.label_table.specs.Layer.{Finding, of_response, of_request, expiring_step, judging_step}
use Rattle.bus_memory.specs.Windows.{slot_of}
use Rattle.orb_layout.specs.declared.status.StatusKind.{StatusKind}
use Rattle.orb_layout.specs.declared.status.StatusKind.TheVariants as kinds
use Rattle.orb_list.specs.declared.list.PresentList.{PresentList}
use Rattle.sbp_journal.specs.declared.event.Action.{Action}
use Rattle.sbp_journal.specs.declared.event.Action.TheVariants as actions
use Rattle.sbp_initiator.specs.declared.purpose.Ending.{Ending}
use Rattle.sbp_initiator.specs.declared.purpose.Ending.TheVariants as endings
use Rattle.sbp_initiator.specs.declared.purpose.Purpose.{Purpose}
use Rattle.sbp_initiator.specs.declared.purpose.Purpose.TheVariants as purposes
use Rattle.sbp_initiator.specs.declared.state.InitiatorState.{InitiatorState}
use Rattle.sbp_initiator.specs.Acting.{act_step}
use Rattle.sbp_initiator.specs.Effects.{Turn}
use Rattle.initiator_base.specs.Quads.{without}
use Rattle.sbp_initiator.specs.Refusals.{prepares}
use Rattle.sbp_initiator.specs.States.{counts_for, ending_of, is_answered, is_list}
use Rattle.sbp_initiator.specs.Histories.Drops.{present_list}
use Rattle.sbp_initiator.specs.Histories.Laws.{Call, acts, receives, lets_expire, sees, AreCalls, after}
use Rattle.sbp_initiator.specs.Histories.Taking.{Brought, nothing, unsolicited, status, brought, call_drops, waiting_at}

-- ---- what the end of a transaction says of the present list

-- its ORB_POINTER is answered
abbrev pub answers_pointer : Purpose → Ending → Option PresentList → Bool
answers_pointer (purposes.Pointer list) (endings.Complete value) present = is_list present list
answers_pointer _ ending present = false

-- it is dead
abbrev pub finds_dead : Purpose → Ending → Option PresentList → Bool
finds_dead (purposes.State act list) (endings.Complete value) present = counts_for present list && value == 3
finds_dead _ ending present = false

-- the statuses with the dead bit: of an illegal ORB, and of a transaction that failed
abbrev pub has_dead_bit : StatusKind → Bool
has_dead_bit (kinds.Illegal meaning) = true
has_dead_bit kinds.Failed = true
has_dead_bit _ = false

-- a status with the dead bit is taken
abbrev pub takes_dead : Brought → InitiatorState → Bool
takes_dead nothing s = false
takes_dead unsolicited s = false
takes_dead (status block) s = is_some (waiting_at s.lists.slots.slots (slot_of block.orb)) && has_dead_bit block.kind

-- ---- by what a call is

-- the transaction that a call ends: what it was for, and how it ends
abbrev pub read_purpose : Option Purpose → (Purpose → Bool) → Bool
read_purpose None test = false
read_purpose (Some purpose) test = test purpose

abbrev pub finding_answers : Finding Purpose → InitiatorState → Bool
finding_answers (of_response p label purpose) s =
    read_purpose purpose (λ x. answers_pointer x (ending_of p) s.lists.slots.present)
finding_answers _ s = false

abbrev pub finding_dead : Finding Purpose → InitiatorState → Bool
finding_dead (of_response p label purpose) s = read_purpose purpose (λ x. finds_dead x (ending_of p) s.lists.slots.present)
finding_dead (of_request p) s = takes_dead (brought p s) s
finding_dead _ s = false

abbrev pub call_answers : Call → InitiatorState → Bool
call_answers (receives generation bytes) s = finding_answers (judging_step s.layer generation bytes).0 s
call_answers _ s = false

abbrev pub call_dead : Call → InitiatorState → Bool
call_dead (receives generation bytes) s = finding_dead (judging_step s.layer generation bytes).0 s
call_dead _ s = false

-- an action that is done begins a list
abbrev pub begins_list : Option ℕ → Action → InitiatorState → Bool
begins_list (Some number) action s = false
begins_list None action s = prepares action && not (is_some s.lists.slots.present)

-- the present list ends with a call, or another begins
abbrev pub loses_list : Call → Turn → Bool
loses_list (acts action) turn = begins_list (act_step action turn.0 turn.1).0 action turn.1
loses_list (receives generation bytes) turn = call_drops (receives generation bytes) turn.1 && is_some turn.1.lists.slots.present
loses_list (lets_expire label) turn = false
loses_list (sees generation id target) turn = nat_lt turn.1.layer.generation generation

-- ---- after a list of calls, the latest of them first

abbrev pub known_if : (lost marks old : Bool) → Bool
known_if true marks old = false
known_if false true old = true
known_if false false old = old

-- the ORB_POINTER of the present list was answered
abbrev pub answered_after : ℕ → Bool → List Call → Bool
answered_after number ready [] = false
answered_after number ready (call ∷ calls) =
    known_if (loses_list call (after number ready calls)) (call_answers call (after number ready calls).1) (answered_after number ready calls)

-- the present list is marked dead
abbrev pub dead_after : ℕ → Bool → List Call → Bool
dead_after number ready [] = false
dead_after number ready (call ∷ calls) =
    known_if (loses_list call (after number ready calls)) (call_dead call (after number ready calls).1) (dead_after number ready calls)

-- ---- the reads of AGENT_STATE under way

abbrev pub is_read : Action → Bool
is_read actions.State = true
is_read _ = false

abbrev pub read_begun : Option ℕ → Action → ℕ → List ℕ → List ℕ
read_begun (Some number) action act reads = reads
read_begun None action act reads = if is_read action then reads ++ act ∷ [] else reads

abbrev pub read_over : Option Purpose → List ℕ → List ℕ
read_over (Some (purposes.State act list)) reads = without act reads
read_over _ reads = reads

abbrev pub finding_reads : Finding Purpose → List ℕ → List ℕ
finding_reads (of_response p label purpose) reads = read_over purpose reads
finding_reads _ reads = reads

abbrev pub expired_reads : Result (Option Purpose) Stale → List ℕ → List ℕ
expired_reads (Ok purpose) reads = read_over purpose reads
expired_reads (Err stale) reads = reads

-- the reads by the numbers of their actions, in order
abbrev pub reads_by : Call → Turn → List ℕ → List ℕ
reads_by (acts action) turn reads = read_begun (act_step action turn.0 turn.1).0 action turn.1.counts.acts reads
reads_by (receives generation bytes) turn reads = finding_reads (judging_step turn.1.layer generation bytes).0 reads
reads_by (lets_expire label) turn reads = expired_reads (expiring_step turn.1.layer turn.1.target label).0 reads
reads_by (sees generation id target) turn reads = if nat_lt turn.1.layer.generation generation then [] else reads

abbrev pub reads_after : ℕ → Bool → List Call → List ℕ
reads_after number ready [] = []
reads_after number ready (call ∷ calls) = reads_by call (after number ready calls) (reads_after number ready calls)

-- the read of an action is among some
abbrev pub has_read : ℕ → List ℕ → Bool
has_read act reads = list_any (λ (n : ℕ). n == act) reads

-- a read that ends is among them
abbrev pub WasRead : List ℕ → Option Purpose → Type 0
WasRead reads (Some (purposes.State act list)) = has_read act reads ≡ true
WasRead reads _ = Unit {0}

-- ---- the list that a read counts for

-- the present list, where its ORB_POINTER was answered
abbrev pub answered_list : Bool → Option PresentList → Option ℕ
answered_list true present = present_list present
answered_list false present = None

abbrev pub counted_if : Bool → Option ℕ → ℕ → (ℕ → Option ℕ) → ℕ → Option ℕ
counted_if true list act counted n = if n == act then list else counted n
counted_if false list act counted n = counted n

abbrev pub begins_read : Option ℕ → Action → Bool
begins_read (Some number) action = false
begins_read None action = is_read action

abbrev pub counted_by : Call → Turn → Bool → (ℕ → Option ℕ) → ℕ → Option ℕ
counted_by (acts action) turn answered counted n =
    counted_if (begins_read (act_step action turn.0 turn.1).0 action) (answered_list answered turn.1.lists.slots.present) turn.1.counts.acts counted n
counted_by _ turn answered counted n = counted n

-- by the number of the action that asked for the read
abbrev pub counted_after : ℕ → Bool → List Call → ℕ → Option ℕ
counted_after number ready [] n = None
counted_after number ready (call ∷ calls) n =
    counted_by call (after number ready calls) (answered_after number ready calls) (counted_after number ready calls) n

-- ---- the law

-- a read of AGENT_STATE that ends counts for its list
abbrev pub CountsFor : (ℕ → Option ℕ) → Option Purpose → Type 0
CountsFor counted (Some (purposes.State act list)) = list ≡ counted act
CountsFor counted _ = Unit {0}

-- What an initiator knows after a list of calls; and a read that ends then counts for its list and was under way, so it ends once.
pub record MarksAfter (number : ℕ) (ready : Bool) (calls : List Call) (turn : Turn) : Type 0 where
  pub answered : is_answered turn.1.marks.pointing ≡ answered_after number ready calls
  pub dead : turn.1.marks.is_dead ≡ dead_after number ready calls
  pub reads : turn.1.states ≡ reads_after number ready calls
  pub closes : (generation : ℕ) (bytes : List ℕ) (p : Packet) (label : LabelParts) (purpose : Option Purpose) → (judging_step turn.1.layer generation bytes).0 ≡ of_response p label purpose → CountsFor (counted_after number ready calls) purpose × WasRead (reads_after number ready calls) purpose
  pub expires : (label : LabelParts) (purpose : Option Purpose) → (expiring_step turn.1.layer turn.1.target label).0 ≡ Ok purpose → CountsFor (counted_after number ready calls) purpose × WasRead (reads_after number ready calls) purpose

-- Over every list of calls.
abbrev pub MarkLaw : Type 0
MarkLaw = (number : ℕ) (ready : Bool) (calls : List Call) → AreCalls calls → MarksAfter number ready calls (after number ready calls)
