-- Where an agent rests (NCITS 325-1998, fetch agents and DOORBELL register): one whose DOORBELL was written, or that was in RESET as a packet was got, is SUSPENDED later only at an ORB of which a response to a read, which it sent
-- since, brought a null pointer. So it is in every run in which no initiator injected packets, or few logins were given. And of each rung ORB a write was sent behind its `rung`, by a ring, while its list was the present one.
use Rattle.std.specs.Prelude.{◌≡◌, ◌<◌, ◌≤◌, ◌⊎◌, ℕ, suc, Bool, true, false, List, ◌∷◌, ◌++◌, length, Some, Ok}
use Rattle.bus_transactions.specs.Packets.{SerialsCount}
use Rattle.bus_transactions.specs.Sent.{AreSent}
use Rattle.command_agent.specs.declared.phase.Phase.TheVariants as phases
use Rattle.command_agent.specs.declared.step.Which.{Which}
use Rattle.command_agent.specs.Machine.{aligned, is_ahead, state_in}
use Rattle.command_agent.specs.Steps.{is_reset}
use Rattle.orb_layout.specs.declared.pointer.OrbPointer.TheVariants.{At, Null}
use Rattle.orb_layout.specs.CommandOrbs.{command_orb}
use Rattle.orb_layout.specs.Pointers.{pointer_at}
use Rattle.orb_layout.specs.Replies.{Answer, payload_of}
use Rattle.rbc_disk.specs.Disk.{Disk}
use Rattle.sbp_initiator.specs.Refusals.{rings}
use Rattle.sbp_journal.specs.Addresses.{Access}
use Rattle.sbp_journal.specs.Run.{Moment, said}
use Rattle.sbp_journal.specs.Wire.{terms}
use Rattle.sbp_journal.specs.declared.event.Action.{Action}
use Rattle.sbp_journal.specs.declared.event.Event.TheVariants as events
use Rattle.sbp_journal.specs.declared.note.Note.TheVariants as notes
use Rattle.sbp_laws.specs.Agents.{list_taken}
use Rattle.sbp_laws.specs.CarriedBytes.{address_of, before_sent}
use Rattle.sbp_laws.specs.Hosts.{host_at}
use Rattle.sbp_laws.specs.Lawful.{injectors}
use Rattle.sbp_laws.specs.Lists.{linked, present_list, slot_at}
use Rattle.sbp_laws.specs.Packets.{access_at, access_in_bytes, answer_in, answered_at, packet_at, receiver_in, sender_in}
use Rattle.sbp_laws.specs.Targets.{Agent, agent_at, is_serial, over, target_at}
use Rattle.sbp_laws.specs.Terms.{appends, ends, lists}
use Rattle.sbp_laws.specs.Turns.{EachMoment, event_of}
use Rattle.sbp_world.specs.Agents.AskedRuns.{serial_of}
use Rattle.sbp_world.specs.Completing.Labels.{AlwaysFrom}
use Rattle.sbp_world.specs.Completing.Nulls.{IsNull, IsNullGot, WasLast}
use Rattle.sbp_world.specs.Completing.Rung.{IsRung}
use Rattle.sbp_world.specs.Completing.Sights.{rung}
use Rattle.sbp_world.specs.Lists.AtGots.{AtGot}
use Rattle.sbp_world.specs.Lists.Closes.{Always, UnderFrom, WhereTameOrFew}
use Rattle.sbp_world.specs.Lists.FewLogins.{IsTameOrFew}
use Rattle.sbp_world.specs.Lists.Needs.{IsCalm, initiator_in, machine_at}
use Rattle.sbp_world.specs.Lists.Places.{StandsThere}
use Rattle.sbp_world.specs.Pointers.Bases.{AreUnrefused, IsAsked}
use Rattle.sbp_world.specs.Pointers.Moments.{pointer_write, register_write}
use Rattle.sbp_world.specs.Pointers.Pointers.{pointed_list}
use Rattle.sbp_world.specs.Telling.{holder}
use Rattle.sbp_world.specs.Worlds.{WorldState}

-- What answers a read of an ORB, of a next pointer, or of an ORB ahead, brings a null pointer, of the ORB at an address.
pub data BringsNullOf (address : ℕ) (a : Agent) (request : ℕ) (answer : Answer) : Type 0 where
  of_orb : (bytes : List ℕ) → a.main ≡ Some request → a.machine.phase ≡ phases.Fetching → payload_of answer 32 ≡ Ok bytes → (command_orb bytes).next ≡ Null → a.machine.present ≡ address → BringsNullOf address a request answer
  of_pointer : (bytes : List ℕ) → a.main ≡ Some request → a.machine.phase ≡ phases.ReadingNext → payload_of answer 8 ≡ Ok bytes → pointer_at bytes 0 ≡ Null → a.machine.present ≡ address → BringsNullOf address a request answer
  of_orb_ahead : (bytes : List ℕ) (offset : ℕ) → a.ahead ≡ Some request → is_ahead a.machine.ahead ≡ true → payload_of answer 32 ≡ Ok bytes → (command_orb bytes).next ≡ Null → a.machine.orb.next ≡ At offset → aligned offset ≡ address → BringsNullOf address a request answer

-- Behind a history, the target got such a response to the agent of a place, to a read that was sent since then.
pub record BroughtNullOf (start : List Disk) (past later : List Moment) (place address : ℕ) : Type 0 where
  pub behind : List Moment
  pub serial : ℕ
  pub before : List Moment
  pub is : behind ++ said (notes.Got serial) ∷ before ≡ later
  pub by_target : is_serial (receiver_in ((terms (before ++ past)).sent serial)) 0 ≡ true
  pub request : ℕ
  pub closed : answered_at (terms (before ++ past)) serial ≡ Some request
  pub since : (terms past).count < request
  pub brings : BringsNullOf address (agent_at (over (target_at start (before ++ past))) place) request (answer_in (packet_at (terms (before ++ past)) serial))

-- the agent of a place, by the terms
abbrev pub agent_then : List Disk → List Moment → (place : ℕ) → Agent
agent_then start past place = agent_at (over (target_at start past)) place

-- it is SUSPENDED only at such an ORB
abbrev pub RestsLast : List Disk → (now past later : List Moment) (place : ℕ) → Type 0
RestsLast start now past later place = (agent_then start now place).machine.phase ≡ phases.Suspended → BroughtNullOf start past later place (agent_then start now place).machine.present

pub record AllRestLast (start : List Disk) (now : List Moment) : Type 0 where
  pub rung : (later past : List Moment) (serial place : ℕ) → place < 8 → later ++ said (notes.Got serial) ∷ past ≡ now → IsRung (terms past) serial place → RestsLast start now (said (notes.Got serial) ∷ past) later place
  pub reset : (later past : List Moment) (serial place : ℕ) → place < 8 → later ++ said (notes.Got serial) ∷ past ≡ now → (agent_then start past place).machine.phase ≡ phases.Reset → RestsLast start now (said (notes.Got serial) ∷ past) later place

abbrev pub RestsLastLaw : Type 0
RestsLastLaw = AlwaysFrom (λ start past w. IsTameOrFew past → AllRestLast start past)

-- ---- whose ORB it is
-- A read of the agent of a place is of an ORB of the list for which the agent took ORB_POINTER last. The ORB stands in its slot, and had been appended as the read was sent; so what answers the read brings the null
-- pointer of this slot.
pub record IsOfList (start : List Disk) (past : List Moment) (place i address request : ℕ) (answer : Answer) : Type 0 where
  pub list : ℕ
  pub list_is : list_taken start past place ≡ Some list
  pub number : ℕ
  pub address_is : address ≡ address_of past i list number
  pub stands : StandsThere past i list number
  pub behind : number < appends (before_sent past request) i list
  pub from : sender_in ((terms past).sent request) ≡ Some 0
  pub access : Access
  pub is : access_at (terms past) request ≡ Some access
  pub bytes : List ℕ
  pub brings : IsNull access (slot_at past i list number) answer bytes

-- so it is of each answer that may bring one, of an initiator that injected no packets
abbrev pub AreOfLists : List Disk → List Moment → Type 0
AreOfLists start past =
    (place i address request : ℕ) (answer : Answer) → place < 8 → IsCalm past i → receiver_in ((terms past).sent request) ≡ Some (suc i) → BringsNullOf address (agent_then start past place) request answer → IsOfList start past place i address request answer

abbrev pub NullsNamedLaw : Type 0
NullsNamedLaw = UnderFrom (λ start past w. IsTameOrFew past → AreOfLists start past)

-- as each packet is got, of each initiator that is not among these
abbrev pub AreNamedAsGot : (ℕ → Bool) → List Disk → List Moment → ℕ → Type 0
AreNamedAsGot wild start past serial =
    (place i address request : ℕ) (answer : Answer) → place < 8 → wild i ≡ false → receiver_in ((terms past).sent request) ≡ Some (suc i) → BringsNullOf address (agent_then start past place) request answer → IsOfList start past place i address request answer

abbrev pub NamedAsGot : (ℕ → Bool) → List Disk → Moment → List Moment → Type 0
NamedAsGot wild start moment past = AtGot (AreNamedAsGot wild start) moment past

abbrev pub NamedAsGotLaw : Type 0
NamedAsGotLaw = AlwaysFrom (λ start past w. IsTameOrFew past → EachMoment (NamedAsGot (injectors past) start) past)

-- ---- when it was the last one
-- As the read was got, the ORB that was prepared last in a slot was the last one of its list that was linked; and the read had been sent then.
pub record WasLastThen (earlier now : List Moment) (i slot request : ℕ) : Type 0 where
  pub was : WasLast earlier now i slot
  pub sent : request ≤ (terms (was.since ++ earlier)).count

abbrev pub AllNullsThen : List Moment → ℕ → Type 0
AllNullsThen now i =
    (later past : List Moment) (slot serial request : ℕ) → slot < 32 → later ++ said (notes.Got serial) ∷ past ≡ now → IsNullGot past i slot serial request
    → (front earlier : List Moment) → front ++ earlier ≡ now → (terms earlier).count < request → WasLastThen earlier now i slot request

abbrev pub NullsThenLaw : Type 0
NullsThenLaw = Always (WhereTameOrFew (λ past w. (i : ℕ) → i < length w.initiators → IsCalm past i → AllNullsThen past i))

-- ---- what a ring writes
-- A DOORBELL is that of the agent at whose ORB_POINTER this packet is.
pub record IsBelledAt (past : List Moment) (i serial : ℕ) (access : Access) : Type 0 where
  pub base : ℕ
  pub is : access ≡ register_write base 0x10
  pub address : ℕ
  pub asked : IsAsked past i serial (pointer_write base address)

-- so a quadlet is of each write of ORB_POINTER for a list, where no logout was refused
abbrev pub IsBelledNear : List Moment → (i n : ℕ) → Access → Type 0
IsBelledNear past i n access = (serial : ℕ) → SerialsCount past → AreSent past → AreUnrefused past i → pointed_list past serial i ≡ Some n → access.is_block ≡ false → IsBelledAt past i serial access

-- Behind a moment at which an ORB was rung, a ring of its initiator sent a write, while the list of the ORB was the present one.
pub record WasBelled (past : List Moment) (i n k : ℕ) : Type 0 where
  pub front : List Moment
  pub back : List Moment
  pub serial : ℕ
  pub generation : ℕ
  pub to : ℕ
  pub bytes : List ℕ
  pub is : front ++ said (notes.Sent serial generation (suc i) to bytes) ∷ back ≡ past
  pub rung_then : k < rung back i n
  pub present : present_list back i ≡ Some n
  pub action : Action
  pub line : event_of back ≡ Some (events.Act i action)
  pub rings_it : rings action ≡ true
  pub honest : (terms back).injected serial ≡ false
  pub access : Access
  pub spelled : access_in_bytes bytes ≡ Some access
  pub write : access.is_write ≡ true
  pub to_target : to ≡ 0
  -- a quadlet is that of DOORBELL, at the agent of the login that its host has
  pub at_login : access.is_block ≡ false → access ≡ register_write (host_at back i).login.agent 0x10
  -- and at that to whose ORB_POINTER the list was written
  pub near : IsBelledNear back i n access

-- so it is of each rung ORB
abbrev pub AreBelled : List Moment → (i : ℕ) → Type 0
AreBelled past i = (n k : ℕ) → k < rung past i n → WasBelled past i n k

abbrev pub HaveBells : List Moment → WorldState → Type 0
HaveBells past w = (i : ℕ) → i < length w.initiators → AreBelled past i

abbrev pub BelledLaw : Type 0
BelledLaw = Always HaveBells

-- No ORB is rung that is not linked, at each moment of a history.
abbrev pub AreRungLinked : List Moment → (i : ℕ) → Type 0
AreRungLinked past i = (later earlier : List Moment) → later ++ earlier ≡ past → (n : ℕ) → rung earlier i n ≤ linked earlier i n

abbrev pub RungLinkedLaw : Type 0
RungLinkedLaw = Always (λ past w. (i : ℕ) → i < length w.initiators → AreRungLinked past i)

-- ---- what has ended at rest
-- The agent of a place has a list: the ORB_POINTER that it took last was for it, and what it waits for goes to the initiator.
pub record HasListThen (start : List Disk) (past : List Moment) (place i n : ℕ) : Type 0 where
  pub taken : list_taken start past place ≡ Some n
  pub sends : (which : Which) (request : ℕ) → serial_of which (agent_then start past place) ≡ Some request → receiver_in ((terms past).sent request) ≡ Some (suc i)

-- so it is of each agent that is out of RESET, be it DEAD, with the list and the initiator of its place
abbrev pub AreListsThen : List Disk → List Moment → WorldState → Type 0
AreListsThen start past w =
    (place n : ℕ) → place < 8 → is_reset (state_in (machine_at w place).phase) ≡ false → (holder w place).list ≡ Some n → HasListThen start past place (initiator_in w place) n

abbrev pub ListsThenLaw : Type 0
ListsThenLaw = UnderFrom (λ start past w. IsTameOrFew past → AreListsThen start past w)

-- so it was as each packet was got since a history
abbrev pub KeepsList : List Disk → (now past : List Moment) → (place i n : ℕ) → Type 0
KeepsList start now past place i n = (front : List Moment) (serial : ℕ) (back : List Moment) → front ++ said (notes.Got serial) ∷ (back ++ past) ≡ now → HasListThen start (back ++ past) place i n

-- its DOORBELL was got, or it was in RESET as a packet was got, and it had this list since
pub record HasBell (start : List Disk) (now : List Moment) (place i n : ℕ) : Type 0 where
  pub later : List Moment
  pub serial : ℕ
  pub past : List Moment
  pub is : later ++ said (notes.Got serial) ∷ past ≡ now
  pub begins : IsRung (terms past) serial place ⊎ ((agent_then start past place).machine.phase ≡ phases.Reset)
  pub keeps : KeepsList start now (said (notes.Got serial) ∷ past) place i n

-- Then each ORB of the list that was linked at that moment has ended, where the agent is SUSPENDED with the latest list of the initiator that has the place.
abbrev pub AllEnded : List Disk → List Moment → WorldState → Type 0
AllEnded start now w =
    (place n : ℕ) → place < 8 → initiator_in w place < length w.initiators → IsCalm now (initiator_in w place) → (holder w place).list ≡ Some n → suc n ≡ lists now (initiator_in w place) → (machine_at w place).phase ≡ phases.Suspended
    → (bell : HasBell start now place (initiator_in w place) n) → linked bell.past (initiator_in w place) n ≤ ends now (initiator_in w place) n

abbrev pub EndedAtRestLaw : Type 0
EndedAtRestLaw = UnderFrom (λ start past w. IsTameOrFew past → AllEnded start past w)

-- ---- what is rung has ended
-- What a ring wrote was got: a DOORBELL of the place, or the ORB_POINTER of the list as its agent was in RESET, behind what stood as the ring wrote; and the agent has had the list since.
pub record IsBellGot (start : List Disk) (now : List Moment) (place i n k : ℕ) (written : WasBelled now i n k) : Type 0 where
  pub bell : HasBell start now place i n
  pub front : List Moment
  pub is : front ++ written.back ≡ bell.past

abbrev pub AreBellsGot : List Disk → List Moment → (place i n : ℕ) → Type 0
AreBellsGot start now place i n = (k : ℕ) (written : WasBelled now i n k) → IsBellGot start now place i n k written

-- Where that is so of each rung ORB of the latest list of an initiator, which a SUSPENDED agent has, each of these has ended.
abbrev pub AllRungEnded : List Disk → List Moment → WorldState → Type 0
AllRungEnded start now w =
    (place n : ℕ) → place < 8 → initiator_in w place < length w.initiators → IsCalm now (initiator_in w place) → (holder w place).list ≡ Some n → suc n ≡ lists now (initiator_in w place) → (machine_at w place).phase ≡ phases.Suspended
    → AreBellsGot start now place (initiator_in w place) n → rung now (initiator_in w place) n ≤ ends now (initiator_in w place) n

abbrev pub RungEndedWhereGotLaw : Type 0
RungEndedWhereGotLaw = UnderFrom (λ start past w. IsTameOrFew past → AllRungEnded start past w)
