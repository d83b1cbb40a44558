-- What the lists of an initiator stand on, moment by moment, in every run (NCITS 325-1998, ORB_POINTER, AGENT_RESET and task management). Nothing is
-- appended, linked or made a dummy, nothing rung, and no ORB_POINTER or DOORBELL is written while an operation that ends lists is under way; a list
-- begins while there is none, in one of 32 slots. Such an operation begins in a live session, beside no other, and only once the ORB_POINTER write of the
-- present list was answered. A list is dropped only once that was answered, or as a later generation is seen. ORB_POINTER is written for the
-- present list, with the address of its first ORB.
use Rattle.std.specs.Prelude.{◌≡◌, ◌⊎◌, ◌<◌, ◌≤◌, ℕ, suc, ◌+◌, ◌%◌, ◌^◌, ◌==◌, ◌&&◌, if◌then◌else◌, is_some, Bool, true, false, List, [], ◌∷◌, length, Option, Some, None, Ok}
use Rattle.async_packet.specs.Packet.{Packet}
use Rattle.async_packet.specs.Reading.{reading}
use Rattle.byteorder.specs.Endian.{big_bytes}
use Rattle.bus_memory.specs.declared.window.Window.TheVariants as windows
use Rattle.bus_memory.specs.Windows.{start}
use Rattle.sbp_base.specs.Update.{upd2}
use Rattle.sbp_journal.specs.Addresses.{Access}
use Rattle.sbp_journal.specs.Run.{Moment, said}
use Rattle.sbp_journal.specs.Transactions.{Kind, Sending}
use Rattle.sbp_journal.specs.Wire.{terms, waits}
use Rattle.bus_transactions.specs.Wire.{transaction}
use Rattle.sbp_journal.specs.declared.event.Action.{Action}
use Rattle.sbp_journal.specs.declared.event.Action.TheVariants as actions
use Rattle.sbp_journal.specs.declared.event.Event.{Event}
use Rattle.sbp_journal.specs.declared.event.Event.TheVariants as events
use Rattle.sbp_journal.specs.declared.note.Note.TheVariants as notes
use Rattle.sbp_journal.specs.declared.operation.Operation.{Operation}
use Rattle.sbp_journal.specs.declared.operation.Operation.TheVariants as operations
use Rattle.sbp_initiator.specs.declared.purpose.Ending.TheVariants as endings
use Rattle.sbp_initiator.specs.Refusals.{rings}
use Rattle.sbp_initiator.specs.States.{ending_of}
use Rattle.sbp_laws.specs.Actions.{cuts_list, running_operation}
use Rattle.sbp_laws.specs.Hosts.{Underway, host_at, is_management, live, operation_of, told_of}
use Rattle.sbp_laws.specs.Lists.{lowest_vacant, present_list, slot_at, slots}
use Rattle.sbp_laws.specs.Packets.{access_in_bytes}
use Rattle.sbp_laws.specs.Terms.{lists}
use Rattle.sbp_laws.specs.Turns.{event_of}

-- an operation that ends lists is under way: a logout, an AGENT_RESET, an abort of all, a reset of the unit or of the target
abbrev pub is_cutting : List Moment → ℕ → Bool
is_cutting past i = cuts_list (running_operation (host_at past i).operation)

-- a write of a transaction was answered, with whatever rcode
abbrev pub is_answered : List Moment → ℕ → Bool
is_answered past serial = is_some ((terms past).closed serial)

-- the ORB_POINTER write of the present list, where there is one, was answered
pub record NonePoints (past : List Moment) (i : ℕ) : Type 0 where
  pub answered : (serial : ℕ) → (host_at past i).pointer ≡ Some serial → is_answered past serial ≡ true

-- an ORB is appended, into the lowest slot that is vacant: the first one of the next list, or one of the present list
pub record MayAppend (past : List Moment) (i n k : ℕ) : Type 0 where
  pub uncut : is_cutting past i ≡ false
  pub small : lowest_vacant (slots past i) < 32
  pub first : k ≡ 0 → (present_list past i ≡ None) × (n ≡ lists past i)
  pub later : 0 < k → present_list past i ≡ Some n

-- the action in whose line an initiator sent a packet
abbrev pub own_action : ℕ → Option Event → Option Action
own_action i (Some (events.Act j action)) = if i == j then Some action else None
own_action i event = None

abbrev pub asked_in : List Moment → (serial i : ℕ) → Option Action
asked_in [] = λ serial i. None
asked_in (said (notes.Sent serial generation (suc i) to bytes) ∷ past) = upd2 (asked_in past) serial i (own_action i (event_of past))
asked_in (_ ∷ past) = asked_in past

-- The list that a read of AGENT_STATE tells of: the one that was present as the read was sent, where its ORB_POINTER write was answered then.
abbrev pub names_answered : List Moment → Option ℕ → Bool
names_answered past None = false
names_answered past (Some serial) = is_answered past serial

abbrev pub is_state : Option Action → Bool
is_state (Some actions.State) = true
is_state _ = false

abbrev pub state_list : List Moment → (serial i : ℕ) → Option ℕ
state_list [] = λ serial i. None
state_list (said (notes.Sent serial generation (suc i) to bytes) ∷ past) =
    upd2 (state_list past) serial i (told_of (is_state (own_action i (event_of past)) && names_answered past (host_at past i).pointer) (present_list past i))
state_list (_ ∷ past) = state_list past

-- the history to the moment that began a turn, behind which initiators told something
abbrev pub turn_of : List Moment → List Moment
turn_of [] = []
turn_of (said (notes.Taken j n k status answer) ∷ past) = turn_of past
turn_of (said (notes.Told j) ∷ past) = turn_of past
turn_of (said (notes.Rung j n k) ∷ past) = turn_of past
turn_of (said (notes.Drop j n) ∷ past) = turn_of past
turn_of (said (notes.Op j operation word) ∷ past) = turn_of past
turn_of (said (notes.Stuck j) ∷ past) = turn_of past
turn_of (moment ∷ past) = moment ∷ past

-- A response is got that is complete, and answers a request of such an action: that was under way under a label, and is answered then.
pub record Answers (past : List Moment) (i : ℕ) (action : Action) (value : ℕ) : Type 0 where
  pub serial : ℕ
  pub earlier : List Moment
  pub got : past ≡ said (notes.Got serial) ∷ earlier
  pub packet : Sending
  pub sent : (terms earlier).sent serial ≡ Some packet
  pub p : Packet
  pub spelled : reading packet.bytes ≡ Ok p
  pub complete : ending_of p ≡ endings.Complete value
  pub request : ℕ
  pub asked : asked_in earlier request i ≡ Some action
  pub label : ℕ
  pub kind : Kind
  pub waited : (terms earlier).held (transaction ((terms earlier).generation (suc i)) (suc i) 0 label) ≡ waits kind request
  pub answered : is_answered past request ≡ true

-- a request is the one by which an AGENT_RESET began that is under way
pub record IsResetting (past : List Moment) (i serial : ℕ) : Type 0 where
  pub underway : Underway
  pub is : (host_at past i).operation ≡ Some underway
  pub resets : underway.operation ≡ operations.AgentReset
  pub first : underway.first ≡ serial

-- a read of AGENT_STATE tells of the list that is present
pub record TellsOfPresent (past : List Moment) (i serial : ℕ) : Type 0 where
  pub list : ℕ
  pub present : present_list past i ≡ Some list
  pub told : state_list past serial i ≡ Some list

-- Why a list is dropped, by the moment that began the turn: the AGENT_RESET that is under way is answered complete; or a packet is got, as the status block of an
-- operation is, while one that ends lists is under way; or a read of AGENT_STATE that tells of this list is answered complete with 0, which is RESET; or a later
-- generation is seen.
pub data MayEnd (past : List Moment) (i : ℕ) : Type 0 where
  by_reset : (value : ℕ) (answers : Answers past i actions.AgentReset value) → IsResetting answers.earlier i answers.request → is_cutting past i ≡ true → MayEnd past i
  by_status : (serial : ℕ) (earlier : List Moment) (packet : Sending) → past ≡ said (notes.Got serial) ∷ earlier → (terms earlier).sent serial ≡ Some packet → is_cutting past i ≡ true → MayEnd past i
  by_state : (answers : Answers past i actions.State 0) → TellsOfPresent answers.earlier i answers.request → MayEnd past i
  by_sight : (generation : ℕ) (earlier : List Moment) → past ≡ said (notes.Seen (suc i) generation) ∷ earlier → (terms earlier).generation (suc i) < generation → MayEnd past i

-- A list is dropped: the ORB_POINTER write that was sent for it in the initiator's generation was answered; and why.
pub record MayDrop (past : List Moment) (i : ℕ) : Type 0 where
  pub cause : MayEnd (turn_of past) i
  pub answered : (serial : ℕ) (packet : Sending) → (host_at past i).pointer ≡ Some serial → (terms past).sent serial ≡ Some packet → packet.generation ≡ (terms past).generation (suc i) → is_answered past serial ≡ true

-- a write of ORB_POINTER, with the address of an ORB, at the agent with this base
abbrev pub pointer_write : (base address : ℕ) → Access
pointer_write base address = record {
  is_lock = false;
  is_write = true;
  is_block = true;
  offset = (base + 0x08) % 2 ^ 48;
  count = length (big_bytes 8 address);
  payload = big_bytes 8 address;
}

-- a write of a quadlet to a register of that agent
abbrev pub register_write : (base distance : ℕ) → Access
register_write base distance = record { is_lock = false; is_write = true; is_block = false; offset = (base + distance) % 2 ^ 48; count = 4; payload = [] }

-- a write of the address of a management ORB
abbrev pub managed_write : (offset place : ℕ) → Access
managed_write offset place = record {
  is_lock = false;
  is_write = true;
  is_block = true;
  offset = offset;
  count = length (big_bytes 8 (start (windows.Management place)));
  payload = big_bytes 8 (start (windows.Management place));
}

-- an action begins an operation that writes MANAGEMENT_AGENT
abbrev pub manages : Option Operation → Bool
manages None = false
manages (Some operation) = is_management operation

-- What an action writes: a ring ORB_POINTER, which its host names from then on, or DOORBELL, where that was written and a list is present; AGENT_RESET
-- and UNSOLICITED_STATUS_ENABLE their registers; and an operation of management the address of its ORB.
pub data MayWrite (past : List Moment) (i : ℕ) (named : Option ℕ) (serial : ℕ) (action : Action) (access : Access) : Type 0 where
  writes_pointer : rings action ≡ true → named ≡ Some serial → MayWrite past i named serial action access
  writes_bell : rings action ≡ true → (list other base : ℕ) → present_list past i ≡ Some list → (host_at past i).pointer ≡ Some other → access ≡ register_write base 0x10 → MayWrite past i named serial action access
  writes_reset : action ≡ actions.AgentReset → (base : ℕ) → access ≡ register_write base 0x04 → MayWrite past i named serial action access
  writes_enable : action ≡ actions.Enable → (base : ℕ) → access ≡ register_write base 0x14 → MayWrite past i named serial action access
  writes_management : manages (operation_of action) ≡ true → (offset place : ℕ) → access ≡ managed_write offset place → MayWrite past i named serial action access

-- ORB_POINTER is written for the present list, with the address of its first ORB.
pub record MayPoint (past : List Moment) (i to : ℕ) (bytes : List ℕ) : Type 0 where
  pub list : ℕ
  pub present : present_list past i ≡ Some list
  pub unwritten : (host_at past i).pointer ≡ None
  pub to_target : to ≡ 0
  pub base : ℕ
  pub spelled : access_in_bytes bytes ≡ Some (pointer_write base (start (windows.Orb (slot_at past i list 0))))

-- A packet is sent. The write of ORB_POINTER that was named for the present list stays named, and where another one is, it is this packet. In the line
-- of an action that rings, or that begins an operation that ends lists, that may be so; and what the packet writes is what the action does.
pub record MaySend (past : List Moment) (i serial generation to : ℕ) (bytes : List ℕ) : Type 0 where
  pub stays : (other : ℕ) → (host_at past i).pointer ≡ Some other → (host_at (said (notes.Sent serial generation (suc i) to bytes) ∷ past) i).pointer ≡ Some other
  pub names : (other : ℕ) → (host_at (said (notes.Sent serial generation (suc i) to bytes) ∷ past) i).pointer ≡ Some other → ((host_at past i).pointer ≡ Some other) ⊎ (other ≡ serial)
  pub points : (host_at (said (notes.Sent serial generation (suc i) to bytes) ∷ past) i).pointer ≡ Some serial → MayPoint past i to bytes
  pub rung : (action : Action) → event_of past ≡ Some (events.Act i action) → rings action ≡ true → (is_cutting past i ≡ false) × ((host_at past i).session ≡ live)
  pub cuts : (action : Action) → event_of past ≡ Some (events.Act i action) → cuts_list (operation_of action) ≡ true → ((host_at past i).operation ≡ None) × (((host_at past i).session ≡ live) × NonePoints past i)
  pub writes : (action : Action) → event_of past ≡ Some (events.Act i action) → (access : Access) → access_in_bytes bytes ≡ Some access → access.is_write ≡ true → MayWrite past i (host_at (said (notes.Sent serial generation (suc i) to bytes) ∷ past) i).pointer serial action access

-- of initiator i
abbrev pub MayStand : ℕ → Moment → List Moment → Type 0
MayStand i (said (notes.Begin initiators ready)) past = (host_at past i).pointer ≡ None
MayStand i (said (notes.Append j n k cdb buffer)) past = (j == i) ≡ true → MayAppend past i n k
MayStand i (said (notes.Low j n k)) past = (j == i) ≡ true → is_cutting past i ≡ false
MayStand i (said (notes.Linked j n k)) past = (j == i) ≡ true → is_cutting past i ≡ false
MayStand i (said (notes.Dummied j n k)) past = (j == i) ≡ true → is_cutting past i ≡ false
MayStand i (said (notes.Drop j n)) past = (j == i) ≡ true → MayDrop past i
MayStand i (said (notes.Sent serial generation from to bytes)) past = (from == suc i) ≡ true → (terms past).injected serial ≡ false → MaySend past i serial generation to bytes
MayStand i (said (notes.Seen node generation)) past = (node == suc i) ≡ true → (terms past).generation (suc i) ≤ generation
MayStand i moment past = Unit {0}

-- ---- what an initiator writes

-- An initiator asks for a write in the line of an action of it alone, by what that action writes.
pub record IsWritten (past : List Moment) (i : ℕ) (named : Option ℕ) (serial : ℕ) (access : Access) : Type 0 where
  pub action : Action
  pub line : event_of past ≡ Some (events.Act i action)
  pub is : MayWrite past i named serial action access

-- of initiator i, of the packets that it did not inject
abbrev pub MayAsk : ℕ → Moment → List Moment → Type 0
MayAsk i (said (notes.Sent serial generation from to bytes)) past = (from == suc i) ≡ true → (terms past).injected serial ≡ false → (access : Access) → access_in_bytes bytes ≡ Some access → access.is_write ≡ true → IsWritten past i (host_at (said (notes.Sent serial generation (suc i) to bytes) ∷ past) i).pointer serial access
MayAsk i moment past = Unit {0}
