-- Whether an ORB_POINTER write is under way (NCITS 325-1998, ORB_POINTER). Over every list of calls, read off the transaction layer itself:
-- unless the session is Stuck it counts as pointing exactly while a write of ORB_POINTER is under way. Such a write is one at most, and of the
-- present list, whose ORB_POINTER counts as written and not as answered; and no operation that ends lists is under way beside it. A write of
-- AGENT_RESET is under way only as that operation is. A read of AGENT_STATE that is under way and counts for the present list was asked for
-- behind the answer to its ORB_POINTER.
use Rattle.std.specs.Prelude.{◌≡◌, ℕ, Bool, true, false, List, Option, Some, None}
use Rattle.label_table.specs.declared.place.LabelState.TheVariants as states
use Rattle.label_table.specs.declared.reply.ReplyKind.{ReplyKind}
use Rattle.label_table.specs.Layer.{Layer}
use Rattle.label_table.specs.Peers.{purpose_for, state_for}
use Rattle.sbp_journal.specs.declared.operation.Operation.TheVariants as operations
use Rattle.sbp_session.specs.Seats.{is_stuck_seat, points}
use Rattle.sbp_initiator.specs.declared.purpose.Pointing.TheVariants as pointings
use Rattle.sbp_initiator.specs.declared.purpose.Purpose.{Purpose}
use Rattle.sbp_initiator.specs.declared.purpose.Purpose.TheVariants as purposes
use Rattle.sbp_initiator.specs.declared.purpose.Running.{Running}
use Rattle.sbp_initiator.specs.declared.state.InitiatorState.{InitiatorState}
use Rattle.sbp_initiator.specs.Refusals.{ends_list}
use Rattle.sbp_initiator.specs.States.{is_answered, is_list, operation_in}
use Rattle.sbp_initiator.specs.Histories.Laws.{Call, AreCalls, after}

-- a transaction of the layer that is under way for this, under a label to a peer
pub record UnderWay (layer : Layer Purpose) (purpose : Purpose) : Type 0 where
  pub peer : ℕ
  pub number : ℕ
  pub serial : ℕ
  pub kind : ReplyKind
  pub state : state_for layer.peers peer number ≡ states.UnderWay kind serial
  pub is_for : purpose_for layer.peers peer number ≡ Some purpose

-- a write of ORB_POINTER is under way
pub record Pointed (layer : Layer Purpose) : Type 0 where
  pub list : ℕ
  pub write : UnderWay layer (purposes.Pointer list)

-- the operation under way is the reset of the agent that this action began
abbrev pub IsReset : ℕ → Option Running → Type 0
IsReset act None = ⊥
IsReset act (Some running) = (running.act ≡ act) × (running.operation ≡ operations.AgentReset)

pub record PointingAfter (s : InitiatorState) : Type 0 where
  pub writes : points s.seat ≡ true → Pointed s.layer
  pub counts : is_stuck_seat s.seat ≡ false → Pointed s.layer → points s.seat ≡ true
  pub one : (a b : Pointed s.layer) → (a.list ≡ b.list) × ((a.write.peer ≡ b.write.peer) × (a.write.number ≡ b.write.number))
  pub present : (a : Pointed s.layer) → is_list s.lists.slots.present a.list ≡ true
  pub written : Pointed s.layer → s.marks.pointing ≡ pointings.Written
  pub beside : Pointed s.layer → ends_list (operation_in s.operation) ≡ false
  pub resets : (act : ℕ) → UnderWay s.layer (purposes.AgentReset act) → IsReset act s.operation
  pub reads : (act list : ℕ) → UnderWay s.layer (purposes.State act (Some list)) → is_list s.lists.slots.present list ≡ true → is_answered s.marks.pointing ≡ true

-- Over every list of calls.
abbrev pub PointingLaw : Type 0
PointingLaw = (number : ℕ) (ready : Bool) (calls : List Call) → AreCalls calls → PointingAfter (after number ready calls).1
