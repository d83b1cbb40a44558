-- What each call of an initiator keeps (NCITS 325-1998, lists of ORBs and task management): the run terms of its lists, behind what it tells, are
-- the rows of its slots. An abort pins the slot of its ORB with its request, and no other call tells of what it sends.
use Rattle.std.specs.Prelude.{◌≡◌, ℕ, suc, ◌==◌, ◌++◌, not, Bool, false, List, [], ◌∷◌, Option, Some, None, Ok}
use Rattle.async_packet.specs.Labels.{LabelParts}
use Rattle.async_packet.specs.Packet.{Packet, write_block}
use Rattle.label_table.specs.Layer.{Finding, of_request, judging_step, seeing_step}
use Rattle.orb_layout.specs.declared.status.StatusBlock.{StatusBlock}
use Rattle.orb_list.specs.Table as table
use Rattle.orb_list.specs.Table.{SlotTable, find_in}
use Rattle.orb_list.specs.Tickets.{TicketParts}
use Rattle.sbp_journal.specs.Run.{Moment, asked, said}
use Rattle.sbp_journal.specs.Wire.{terms as wire_terms}
use Rattle.sbp_journal.specs.Outgoings.{OutboxState, empty_outbox}
use Rattle.sbp_journal.specs.declared.event.Action.{Action}
use Rattle.sbp_journal.specs.declared.event.Action.TheVariants as actions
use Rattle.sbp_journal.specs.declared.event.Event.TheVariants as events
use Rattle.sbp_journal.specs.declared.note.Note.TheVariants as notes
use Rattle.sbp_journal.specs.declared.operation.Operation.{Operation}
use Rattle.sbp_journal.specs.declared.operation.Operation.TheVariants as operations
use Rattle.sbp_journal.specs.declared.side.Side.{Side}
use Rattle.sbp_journal.specs.declared.side.Side.TheVariants as sides
use Rattle.sbp_initiator.specs.declared.purpose.Purpose.{Purpose}
use Rattle.sbp_initiator.specs.declared.purpose.Running.{Running}
use Rattle.sbp_initiator.specs.declared.state.InitiatorState.{InitiatorState}
use Rattle.sbp_initiator.specs.Acting.{act_step}
use Rattle.sbp_initiator.specs.Effects.{Turn}
use Rattle.sbp_initiator.specs.Initiators.{new_state}
use Rattle.sbp_initiator.specs.Receiving.{expire_step, receive_step}
use Rattle.sbp_initiator.specs.Seeing.{see_step}
use Rattle.sbp_initiator.specs.States.{status_in}
use Rattle.sbp_world.specs.Hosts.Fits.{AreRows}
use Rattle.sbp_world.specs.Hosts.Steps.{MayTake}

-- ---- the history behind what is told

abbrev pub by_side : Side → List Moment → List Moment
by_side (sides.Own note) past = said note ∷ past
by_side _ past = past

abbrev pub behind : List Side → List Moment → List Moment
behind [] past = past
behind (side ∷ later) past = behind later (by_side side past)

-- ---- a pin is that of the abort under way

abbrev pub PinOf : Operation → Option TicketParts → Type 0
PinOf operations.Abort pinned = Unit {0}
PinOf _ pinned = pinned ≡ None

abbrev pub Pins : Option Running → Option TicketParts → Type 0
Pins None pinned = pinned ≡ None
Pins (Some running) pinned = PinOf running.operation pinned

-- ---- an initiator, with what it told behind a history

-- what it told says nothing of the lists of another one
abbrev pub Beside : List Moment → ℕ → List Side → Type 0
Beside past number told = (j : ℕ) (s : SlotTable) → (j == number) ≡ false → AreRows past j s → AreRows (behind told past) j s

pub record Listed (past : List Moment) (t : Turn) : Type 0 where
  pub rows : AreRows (behind t.0.sides past) t.1.number t.1.lists.slots
  pub pin : Pins t.1.operation t.1.lists.slots.pinned
  pub beside : Beside past t.1.number t.0.sides

-- ---- an action

-- what an abort leaves: its ORB, which waits, is pinned
pub record Pinned (number : ℕ) (o : OutboxState) (s : InitiatorState) (t : Turn) : Type 0 where
  pub ticket : TicketParts
  pub numbered : ticket.number ≡ number
  pub found : find_in s.lists.slots.slots number ≡ Some ticket
  pub none : s.lists.slots.pinned ≡ None
  pub table_is : t.1.lists.slots ≡ (table.pin_step s.lists.slots ticket).1
  pub operation : Pins t.1.operation t.1.lists.slots.pinned
  pub same : t.1.number ≡ s.number
  pub silent : t.0.sides ≡ o.sides

abbrev pub Left : Action → List Moment → OutboxState → InitiatorState → Turn → Type 0
Left (actions.Abort number) past o s t = Pinned number o s t
Left _ past o s t = Listed past t

-- ---- a delivery

-- Where a call took the status in a block, it may be taken as the run stands.
abbrev pub MayBlock : List Moment → List ℕ → OutboxState → InitiatorState → Turn → Type 0
MayBlock past payload o s left =
    (block : StatusBlock) (u : TicketParts) (answer : List ℕ) → status_in payload ≡ Ok block → (table.status_step s.lists.slots s.lists.memory block).0 ≡ Ok u → left.0.sides ≡ o.sides ++ sides.Own (notes.Taken s.number u.list u.number block.kind answer) ∷ [] → MayTake (behind o.sides past) block

-- the block that a packet brings
abbrev pub MayPacket : List Moment → Packet → OutboxState → InitiatorState → Turn → Type 0
MayPacket past (write_block header offset payload) o s left = MayBlock past payload o s left
MayPacket past _ o s left = Unit {0}

abbrev pub MayFind : List Moment → Finding Purpose → OutboxState → InitiatorState → Turn → Type 0
MayFind past (of_request p) o s left = MayPacket past p o s left
MayFind past _ o s left = Unit {0}

-- ---- the law

pub record CallLaw : Type 0 where
  pub begins : (line i initiators : ℕ) (ready logged_in : Bool) → Listed (said (notes.Begin initiators ready) ∷ asked line (events.Begin initiators ready) ∷ []) (empty_outbox, new_state i logged_in)
  pub acts : (past : List Moment) (action : Action) (o : OutboxState) (s : InitiatorState) → (act_step action o s).0 ≡ None → Listed past (o, s) → Left action past o s (act_step action o s).1
  pub receives : (past : List Moment) (generation : ℕ) (bytes : List ℕ) (o : OutboxState) (s : InitiatorState) → MayFind past (judging_step s.layer generation bytes).0 o s (receive_step generation bytes o s).1 → Listed past (o, s) → Listed past (receive_step generation bytes o s).1
  pub expires : (past : List Moment) (label : LabelParts) (o : OutboxState) (s : InitiatorState) → Listed past (o, s) → Listed past (expire_step label o s).1
  pub sees : (past : List Moment) (generation id target : ℕ) (s : InitiatorState) → (seeing_step s.layer generation id).0 ≡ not (generation == (wire_terms past).generation (suc s.number)) → Listed past (empty_outbox, s) → Listed (said (notes.Seen (suc s.number) generation) ∷ past) (see_step generation id target empty_outbox s)
