-- What an initiator asks for fits a packet, and goes to the target (IEEE 1394-1995, asynchronous packets; NCITS 325-1998, sessions). Each
-- address has 48 bits, each value 32, and all that its memory holds, and gives, are bytes. So each call is what a call of a node is to the
-- wire: it judges, and then answers or asks as the wire lets it.
use Rattle.std.specs.Prelude.{◌≡◌, ◌<◌, ◌≤◌, ℕ, ◌+◌, ◌^◌, nat_lt, Bool, true, false, List, Option, Some, None}
use Rattle.async_packet.specs.Labels.{LabelParts}
use Rattle.bus_memory.specs.declared.slot.PlaceMemory.{PlaceMemory}
use Rattle.bus_memory.specs.declared.slot.SlotMemory.{SlotMemory}
use Rattle.bus_memory.specs.Memory.{Memory, place_at, slot_at}
use Rattle.bus_transactions.specs.Fitting.{AreBytes, AreSmall, IsLayer}
use Rattle.bus_transactions.specs.Steps.{ArePlainSides, IsAsking, IsDelivery, IsExpiry}
use Rattle.label_table.specs.Layer.{expiring_step, judging_step}
use Rattle.sbp_initiator.specs.declared.state.InitiatorState.{InitiatorState}
use Rattle.sbp_initiator.specs.Acting.{act_step}
use Rattle.sbp_initiator.specs.Initiators.{new_state}
use Rattle.sbp_initiator.specs.Receiving.{expire_step, receive_step}
use Rattle.sbp_initiator.specs.Seeing.{see_step}
use Rattle.sbp_journal.specs.declared.event.Action.{Action}
use Rattle.sbp_journal.specs.declared.event.Action.TheVariants as actions
use Rattle.sbp_journal.specs.declared.event.Cmd.{Cmd}
use Rattle.sbp_journal.specs.Outgoings.{empty_outbox}

-- ---- the memory
pub record FitsSlot (slot : SlotMemory) : Type 0 where
  pub orb : AreBytes slot.orb
  pub table : AreBytes slot.table
  pub buffer : AreBytes slot.buffer

pub record FitsPlace (place : PlaceMemory) : Type 0 where
  pub orb : AreBytes place.orb
  pub response : AreBytes place.response

pub record FitsMemory (m : Memory) : Type 0 where
  pub rom : AreBytes m.rom
  pub slots : (slot : ℕ) → FitsSlot (slot_at m slot)
  pub places : (place : ℕ) → FitsPlace (place_at m place)

-- ---- an initiator
-- its parts: the target is known; where MANAGEMENT_AGENT stands; the running number is no more than the actions allow
pub record Fits (known : ℕ → Type 0) (acts most target : ℕ) (management : Option ℕ) (running done : ℕ) (memory : Memory) : Type 0 where
  pub target_known : known target
  pub management_fits : (offset : ℕ) → management ≡ Some offset → offset < 2 ^ 48
  pub counted : done ≡ acts
  pub running_fits : running ≤ most
  pub memory_fits : FitsMemory memory

abbrev pub FitsState : (ℕ → Type 0) → (acts most : ℕ) → InitiatorState → Type 0
FitsState known acts most s = Fits known acts most s.target s.management s.counts.running s.counts.acts s.lists.memory

pub record Holds (known : ℕ → Type 0) (s : InitiatorState) : Type 0 where
  pub fits : FitsState known s.counts.acts (s.counts.acts + 1) s
  pub layer : IsLayer s.layer

abbrev pub AreIds : (ℕ → Type 0) → Type 0
AreIds known = (id : ℕ) → known id → id < 2 ^ 16

-- the command block and the data of a command are bytes
pub record BytesCommand (cmd : Cmd) : Type 0 where
  pub cdb : AreBytes cmd.cdb
  pub payload : AreBytes cmd.payload

abbrev pub BytesAction : Action → Type 0
BytesAction (actions.Put cmd) = BytesCommand cmd
BytesAction (actions.Append cmd) = BytesCommand cmd
BytesAction _ = Unit {0}

-- a delivery: what it is to the wire, that its packets are of bytes, that it tells nothing of the wire, and what it leaves
pub record Receives (known : ℕ → Type 0) (generation : ℕ) (bytes : List ℕ) (s : InitiatorState) : Type 0 where
  pub delivers : IsDelivery known (judging_step s.layer generation bytes).0 (receive_step generation bytes empty_outbox s).0 bytes (judging_step s.layer generation bytes).1 (receive_step generation bytes empty_outbox s).1.1.layer (receive_step generation bytes empty_outbox s).1.0.packets
  pub small : AreSmall (receive_step generation bytes empty_outbox s).1.0.packets
  pub plain : ArePlainSides (receive_step generation bytes empty_outbox s).1.0.sides
  pub acts : (receive_step generation bytes empty_outbox s).1.1.counts.acts ≡ s.counts.acts
  pub holds : Holds known (receive_step generation bytes empty_outbox s).1.1

-- a time-out
pub record Expires (known : ℕ → Type 0) (label : LabelParts) (s : InitiatorState) : Type 0 where
  pub expires : IsExpiry known (expiring_step s.layer s.target label).0 (expiring_step s.layer s.target label).1 (expire_step label empty_outbox s).1.1.layer (expire_step label empty_outbox s).1.0.packets
  pub small : AreSmall (expire_step label empty_outbox s).1.0.packets
  pub plain : ArePlainSides (expire_step label empty_outbox s).1.0.sides
  pub acts : (expire_step label empty_outbox s).1.1.counts.acts ≡ s.counts.acts
  pub holds : Holds known (expire_step label empty_outbox s).1.1

-- an action that is done
pub record Acts (known : ℕ → Type 0) (action : Action) (s : InitiatorState) : Type 0 where
  pub asks : IsAsking known s.layer (act_step action empty_outbox s).1.1.layer (act_step action empty_outbox s).1.0.packets
  pub small : AreSmall (act_step action empty_outbox s).1.0.packets
  pub plain : ArePlainSides (act_step action empty_outbox s).1.0.sides
  pub acts : (act_step action empty_outbox s).1.1.counts.acts ≡ s.counts.acts + 1
  pub holds : Holds known (act_step action empty_outbox s).1.1

-- A new initiator knows the target. An action finds its running number a quadlet, where it has done fewer than 2^32 - 1 of them. A later
-- generation that it sees may have any other target.
pub record InitiatorFits (known other : ℕ → Type 0) : Type 0 where
  pub begins : (number : ℕ) (ready : Bool) → number ≤ 4 → known 0xffc0 → Holds known (new_state number ready)
  pub deliveries : (generation : ℕ) (bytes : List ℕ) (s : InitiatorState) → AreIds known → Holds known s → AreBytes bytes → Receives known generation bytes s
  pub expiries : (label : LabelParts) (s : InitiatorState) → AreIds known → Holds known s → Expires known label s
  pub actions_fit : (action : Action) (s : InitiatorState) → AreIds known → Holds known s → BytesAction action → s.counts.acts + 1 < 2 ^ 32 → (act_step action empty_outbox s).0 ≡ None → Acts known action s
  pub sights : (generation id target : ℕ) (s : InitiatorState) → id < 2 ^ 16 → other target → nat_lt s.layer.generation generation ≡ true → Holds known s → Holds other (see_step generation id target empty_outbox s).1
  pub old_sights : (generation id target : ℕ) (s : InitiatorState) → nat_lt s.layer.generation generation ≡ false → Holds known s → Holds known (see_step generation id target empty_outbox s).1
  pub refusals : (action : Action) (s : InitiatorState) (number : ℕ) → Holds known s → (act_step action empty_outbox s).0 ≡ Some number → Holds known (act_step action empty_outbox s).1.1
  pub seen_acts : (generation id target : ℕ) (s : InitiatorState) → (see_step generation id target empty_outbox s).1.counts.acts ≡ s.counts.acts
  pub target_there : (s : InitiatorState) → Holds known s → known s.target
  pub widens : (s : InitiatorState) → ((id : ℕ) → known id → other id) → Holds known s → Holds other s

-- Whichever IDs are known, now and later.
abbrev pub FittingLaw : Type 0
FittingLaw = (known other : ℕ → Bool) → InitiatorFits (λ id. known id ≡ true) (λ id. other id ≡ true)
