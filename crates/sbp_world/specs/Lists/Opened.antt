-- For which list an agent is out of RESET, of an initiator that injected no packets (NCITS 325-1998, ORB_POINTER, AGENT_RESET, AGENT_STATE and task
-- management): the write of ORB_POINTER that opened it was written for a list. While target and initiator are in one generation that is the present list;
-- and while the initiator is ahead, its latest one. So no agent of it is out of RESET any more once the target has served an AGENT_RESET that is under way,
-- or has told RESET of the present list, or has sent the status block 00 of an operation that ends lists.
use Rattle.std.specs.Prelude.{◌≡◌, ◌<◌, ◌==◌, ◌&&◌, if◌then◌else◌, ℕ, suc, true, false, Bool, not, List, [], ◌∷◌, length, Option, Some, None, Ok}
use Rattle.async_packet.specs.declared.packet.Header.{Header}
use Rattle.async_packet.specs.Packet.{Packet, write_block}
use Rattle.async_packet.specs.Reading.{reading}
use Rattle.bus_memory.specs.declared.window.Window.TheVariants as windows
use Rattle.bus_memory.specs.Windows.{slot_of, start}
use Rattle.command_agent.specs.Machine.{state_in}
use Rattle.initiator_base.specs.Fifos.{fifo_at}
use Rattle.command_agent.specs.Steps.{is_reset}
use Rattle.orb_layout.specs.declared.status.StatusBlock.{StatusBlock}
use Rattle.orb_layout.specs.declared.status.StatusKind.TheVariants as kinds
use Rattle.sbp_journal.specs.Run.{Moment, said}
use Rattle.sbp_journal.specs.Transactions.{Kind, Sending}
use Rattle.sbp_journal.specs.Wire.{terms, waits}
use Rattle.bus_transactions.specs.Wire.{transaction}
use Rattle.sbp_journal.specs.declared.note.Note.{Note}
use Rattle.sbp_journal.specs.declared.note.Note.TheVariants as notes
use Rattle.sbp_journal.specs.declared.operation.Operation.TheVariants as operations
use Rattle.sbp_initiator.specs.declared.purpose.Ending.TheVariants as endings
use Rattle.sbp_initiator.specs.States.{ending_of, status_in}
use Rattle.sbp_laws.specs.Actions.{cuts_list}
use Rattle.sbp_laws.specs.Hosts.{Underway, host_at, is_management}
use Rattle.sbp_laws.specs.Lists.{list_in, named_in, present_list}
use Rattle.sbp_laws.specs.Terms.{lists}
use Rattle.sbp_laws.specs.Turns.{EachMoment}
use Rattle.sbp_world.specs.Telling.{holder}
use Rattle.sbp_world.specs.Worlds.{WorldState}
use Rattle.sbp_world.specs.Sessions.Entering.{is_open}
use Rattle.sbp_world.specs.Pointers.Moments.{IsResetting, TellsOfPresent, state_list, turn_of}
use Rattle.sbp_world.specs.Pointers.Pointers.{pointed_list}
use Rattle.sbp_world.specs.Pointers.Bases.{AreUnrefused}
use Rattle.sbp_world.specs.Lists.Closes.{Under, WhereTameOrFew}
use Rattle.sbp_world.specs.Lists.Needs.{IsCalm, initiator_in, machine_at}
use Rattle.sbp_world.specs.Lists.Opens.{IsPointedBy}

-- ---- as a packet was got first: that it was sent, and of which list the ORB at an address was
pub record AsGot : Type 0 where
  pub packet : Option Sending
  pub list : Option ℕ

abbrev pub as_got : Option Sending → Option ℕ → Option AsGot
as_got packet list = Some (record { packet = packet; list = list })

abbrev pub got_as : List Moment → (serial i address : ℕ) → Option AsGot
got_as [] = λ serial i address. None
got_as (said (notes.Got serial) ∷ past) =
    λ s i address. if (s == serial) && ((terms past).news serial == 0) then as_got ((terms past).sent serial) (list_in (named_in past i (slot_of address))) else got_as past s i address
got_as (_ ∷ past) = got_as past

-- ---- what a history says of an initiator, as far as it is asked for here: the packets, the generations of the target and of the initiator, its present
-- list and how many it began, its operation, for which list it wrote ORB_POINTER by a packet, of which list a read of AGENT_STATE tells, and what a packet was as it was got
pub record View : Type 0 where
  pub count : ℕ
  pub sent : ℕ → Option Sending
  pub news : ℕ → ℕ
  pub served : ℕ → ℕ
  pub answers : ℕ → Option ℕ
  pub target : ℕ
  pub own : ℕ
  pub present : Option ℕ
  pub begun : ℕ
  pub operation : Option Underway
  pub pointed : ℕ → Option ℕ
  pub told : ℕ → Option ℕ
  pub named : (serial address : ℕ) → Option AsGot

abbrev pub view : List Moment → ℕ → View
view past i = record {
  count = (terms past).count;
  sent = (terms past).sent;
  news = (terms past).news;
  served = (terms past).served;
  answers = (terms past).answers;
  target = (terms past).generation 0;
  own = (terms past).generation (suc i);
  present = present_list past i;
  begun = lists past i;
  operation = (host_at past i).operation;
  pointed = λ serial. pointed_list past serial i;
  told = λ serial. state_list past serial i;
  named = λ serial address. got_as past serial i address;
}

-- the agent of a place is not in RESET, and the place is that of the initiator
pub record IsUp (w : WorldState) (i place : ℕ) : Type 0 where
  pub up : not (is_reset (state_in (machine_at w place).phase)) ≡ true
  pub own : initiator_in w place ≡ i

-- ---- the list of an agent, whose place has a list
pub record IsOpenFor (x : View) (i place : ℕ) (held : Option ℕ) : Type 0 where
  pub list : ℕ
  pub serial : ℕ
  pub packet : Sending
  pub sent : x.sent serial ≡ Some packet
  pub got : 0 < x.news serial
  pub pointed : x.pointed serial ≡ Some list
  pub address : ℕ
  pub at : IsPointedBy packet i place address
  pub named : x.named serial address ≡ as_got (Some packet) held
  pub present : x.target ≡ x.own → x.present ≡ Some list
  pub ahead : x.target < x.own → suc list ≡ x.begun

-- ---- what the target told
-- AGENT_RESET is under way, and the target served its write
pub record IsServedReset (x : View) : Type 0 where
  pub same : x.target ≡ x.own
  pub underway : Underway
  pub is : x.operation ≡ Some underway
  pub resets : underway.operation ≡ operations.AgentReset
  pub packet : Sending
  pub sent : x.sent underway.first ≡ Some packet
  pub to_target : packet.to ≡ 0
  pub served : 0 < x.served underway.first

-- it answered RESET to a read of AGENT_STATE that says something of a list, which is the present one
pub record IsToldReset (x : View) (n : ℕ) : Type 0 where
  pub same : x.target ≡ x.own
  pub serial : ℕ
  pub list : x.told serial ≡ Some n
  pub reply : ℕ
  pub packet : Sending
  pub sent : x.sent reply ≡ Some packet
  pub from_target : packet.from ≡ 0
  pub answers : x.answers reply ≡ Some serial
  pub p : Packet
  pub spelled : reading packet.bytes ≡ Ok p
  pub reset : ending_of p ≡ endings.Complete 0

-- a packet of the target writes the status block 00 of the management ORB at an address to an open FIFO
pub record IsDoneBlock (packet : Sending) (orb : ℕ) : Type 0 where
  pub from_target : packet.from ≡ 0
  pub header : Header
  pub offset : ℕ
  pub payload : List ℕ
  pub spelled : reading packet.bytes ≡ Ok (write_block header offset payload)
  -- at an open FIFO
  pub logins : ℕ
  pub is_out : Bool
  pub opens : is_open (fifo_at logins is_out offset) ≡ true
  pub block : StatusBlock
  pub read : status_in payload ≡ Ok block
  pub kind : block.kind ≡ kinds.Management 0
  pub orb_is : block.orb ≡ orb

-- it sent that of an operation that ends lists, which is under way, and it was not judged
pub record IsToldDone (x : View) (i : ℕ) : Type 0 where
  pub same : x.target ≡ x.own
  pub underway : Underway
  pub is : x.operation ≡ Some underway
  pub manages : is_management underway.operation ≡ true
  pub cuts : cuts_list (Some underway.operation) ≡ true
  pub serial : ℕ
  pub packet : Sending
  pub sent : x.sent serial ≡ Some packet
  pub to_own : packet.to ≡ suc i
  pub current : packet.generation ≡ x.own
  pub fresh : x.news serial ≡ 0
  pub done : IsDoneBlock packet (start (windows.Management underway.place))

-- ---- a turn: notes that stand behind its first moment
abbrev pub of_rest : Note → Bool
of_rest (notes.Begin initiators ready) = false
of_rest (notes.Got serial) = false
of_rest (notes.Ignored serial cause) = false
of_rest (notes.TimedOut serial) = false
of_rest (notes.Seen node generation) = false
of_rest _ = true

abbrev pub AllOf : (Note → Bool) → List Note → Type 0
AllOf A [] = Unit {0}
AllOf A (note ∷ ns) = (A note ≡ true) × AllOf A ns

-- ---- what is carried from one moment between two turns to the next one
pub record AreOpenFor (x : View) (w : WorldState) (i : ℕ) : Type 0 where
  pub each : (place : ℕ) → place < 8 → IsUp w i place → IsOpenFor x i place (holder w place).list
  pub resets : IsServedReset x → (place : ℕ) → place < 8 → IsUp w i place → ⊥
  pub states : (n : ℕ) → x.present ≡ Some n → IsToldReset x n → (place : ℕ) → place < 8 → IsUp w i place → ⊥
  pub cuts : IsToldDone x i → (place : ℕ) → place < 8 → IsUp w i place → ⊥

-- ---- why a list is dropped
-- a packet is got that is a complete response, with this value, to a request of the initiator to the target that was under way till then
pub record IsAnswered (earlier : List Moment) (serial i request value : ℕ) : Type 0 where
  pub packet : Sending
  pub sent : (terms earlier).sent serial ≡ Some packet
  pub p : Packet
  pub spelled : reading packet.bytes ≡ Ok p
  pub complete : ending_of p ≡ endings.Complete value
  pub label : ℕ
  pub kind : Kind
  pub waited : (terms earlier).held (transaction ((terms earlier).generation (suc i)) (suc i) 0 label) ≡ waits kind request
  pub over : (terms (said (notes.Got serial) ∷ earlier)).held (transaction ((terms earlier).generation (suc i)) (suc i) 0 label) ≡ waits kind request → ⊥

-- a packet that was not judged writes the status block 00 of the operation under way, which ends lists
pub record IsDoneNow (earlier : List Moment) (serial i : ℕ) : Type 0 where
  pub underway : Underway
  pub is : (host_at earlier i).operation ≡ Some underway
  pub manages : is_management underway.operation ≡ true
  pub cuts : cuts_list (Some underway.operation) ≡ true
  pub packet : Sending
  pub sent : (terms earlier).sent serial ≡ Some packet
  pub to_own : packet.to ≡ suc i
  pub current : packet.generation ≡ (terms earlier).generation (suc i)
  pub fresh : (terms earlier).news serial ≡ 0
  pub done : IsDoneBlock packet (start (windows.Management underway.place))

-- By the moment that began the turn: the AGENT_RESET that is under way is answered complete; a read of AGENT_STATE that tells of this list is answered
-- complete with 0, which is RESET; the status block 00 of an operation that ends lists is got; or a later generation is seen.
pub data Ends (past : List Moment) (i : ℕ) : Type 0 where
  ends_by_reset : (serial : ℕ) (earlier : List Moment) → past ≡ said (notes.Got serial) ∷ earlier → (request value : ℕ) → IsAnswered earlier serial i request value → IsResetting earlier i request → Ends past i
  ends_by_state : (serial : ℕ) (earlier : List Moment) → past ≡ said (notes.Got serial) ∷ earlier → (request : ℕ) → IsAnswered earlier serial i request 0 → TellsOfPresent earlier i request → Ends past i
  ends_by_status : (serial : ℕ) (earlier : List Moment) → past ≡ said (notes.Got serial) ∷ earlier → IsDoneNow earlier serial i → Ends past i
  ends_by_sight : (generation : ℕ) (earlier : List Moment) → past ≡ said (notes.Seen (suc i) generation) ∷ earlier → (terms earlier).generation (suc i) < generation → Ends past i

-- at each drop of its list
abbrev pub EndsAt : ℕ → Moment → List Moment → Type 0
EndsAt i (said (notes.Drop j n)) past = (j == i) ≡ true → Ends (turn_of past) i
EndsAt i moment past = Unit {0}

-- ---- of the initiators that injected no packets, at a place
abbrev pub AreEnds : List Moment → WorldState → Type 0
AreEnds past w = (i : ℕ) → i < length w.initiators → IsCalm past i → EachMoment (EndsAt i) past

-- no logout is refused
abbrev pub NoneRefused : List Moment → WorldState → Type 0
NoneRefused past w = (i : ℕ) → i < length w.initiators → IsCalm past i → AreUnrefused past i

-- at each place of a run in which no initiator injected packets, or few logins were given, before which lists were open as they should be
abbrev pub LogoutsLaw : Type 0
LogoutsLaw = Under (WhereTameOrFew NoneRefused)

-- for which list each agent is out of RESET
abbrev pub AreAllOpenFor : List Moment → WorldState → Type 0
AreAllOpenFor past w = (i : ℕ) → i < length w.initiators → IsCalm past i → AreOpenFor (view past i) w i
