-- What the laws of lists stand on, at each place of a history between two turns, of the initiators that injected no packets (NCITS 325-1998, command
-- block agents and lists of ORBs). An agent of the target that has a list open has the list of the initiator whose login has its place: the latest one,
-- which was not cut; no other place has one of that initiator; and the ORBs of it that are linked and have not ended are the ones that their addresses
-- name. A pointer that is taken is that to the first ORB of such a list, of which none has ended. While an agent reads the next pointer of the last ORB
-- again, the address of that ORB still names it. And the response to a read that such an agent has under way along the list brings what the list holds:
-- this follows from the rest.
use Rattle.std.specs.Prelude.{◌≡◌, ◌<◌, ◌≤◌, ℕ, suc, Bool, true, false, List, [], ◌∷◌, ◌++◌, length, map, Option, Some, Ok}
use Rattle.async_packet.specs.Labels.{LabelParts}
use Rattle.async_packet.specs.Packet.{Packet, header_in}
use Rattle.orb_layout.specs.declared.ask.Ask.{Ask}
use Rattle.orb_layout.specs.declared.pointer.OrbPointer.{OrbPointer}
use Rattle.label_table.specs.Layer.{judging_step, of_request, of_response}
use Rattle.packet_store.specs.declared.sent.Sent.{Sent}
use Rattle.packet_store.specs.Kept.{found_sent}
use Rattle.command_agent.specs.declared.phase.Phase.TheVariants as phases
use Rattle.command_agent.specs.declared.step.Which.{Which}
use Rattle.command_agent.specs.Machine as agent
use Rattle.command_agent.specs.Steps.{point_step}
use Rattle.agent_laws.specs.Along.Along.{Along, Progress}
use Rattle.agent_laws.specs.Along.Steps.{Brings}
use Rattle.rbc_disk.specs.Runs.{Told}
use Rattle.sbp_bus.specs.Places.{place_in}
use Rattle.sbp_bus.specs.Telling.{list_in, orb_in}
use Rattle.sbp_journal.specs.Run.{Moment, asked, said}
use Rattle.sbp_journal.specs.declared.event.Event.{Event}
use Rattle.sbp_journal.specs.declared.event.Event.TheVariants as events
use Rattle.sbp_laws.specs.CarriedBytes.{address_of}
use Rattle.sbp_laws.specs.Lawful.{injectors}
use Rattle.sbp_laws.specs.Lists.{linked}
use Rattle.sbp_laws.specs.OrderLaw.{IsOpen}
use Rattle.sbp_laws.specs.Terms.{ends}
use Rattle.target_base.specs.declared.address.Access.TheVariants as accesses
use Rattle.target_base.specs.declared.address.Demand.TheVariants as demands
use Rattle.target_base.specs.Addresses.{demand_of}
use Rattle.sbp_target.specs.declared.purpose.Purpose.TheVariants as purposes
use Rattle.sbp_target.specs.Desks.{which_in}
use Rattle.sbp_target.specs.Nodes.{desk_at}
use Rattle.sbp_target.specs.Receiving.{answer_in}
use Rattle.sbp_target.specs.Serving.{is_barred}
use Rattle.sbp_world.specs.Histories.{history_of, moments_behind}
use Rattle.sbp_world.specs.Runs.{Entry, Run, after, beginning}
use Rattle.sbp_world.specs.Settling.{after_all}
use Rattle.sbp_world.specs.Telling.{holder, ticket_at}
use Rattle.sbp_world.specs.Worlds.{Scene, WorldState, begun}
use Rattle.sbp_world.specs.Agents.Alike.{has_list}
use Rattle.sbp_world.specs.Lists.Lists.{orbs}

-- the machine of the agent of a place, and whether it has a list open; and the initiator whose login has the place
abbrev pub machine_at : WorldState → ℕ → agent.Machine
machine_at w place = (desk_at w.target place).agent

abbrev pub is_open_at : WorldState → ℕ → Bool
is_open_at w place = has_list (machine_at w place).phase

abbrev pub initiator_in : WorldState → ℕ → ℕ
initiator_in w place = (holder w place).initiator

-- the initiator injected no packets
abbrev pub IsCalm : List Moment → ℕ → Type 0
IsCalm past i = injectors past i ≡ false

-- ---- lists that are open

-- the ORB is the one that its address names
pub record IsNamed (past : List Moment) (w : WorldState) (place n k : ℕ) : Type 0 where
  pub list : list_in (ticket_at w place (address_of past (initiator_in w place) n k)) ≡ Some n
  pub number : orb_in (ticket_at w place (address_of past (initiator_in w place) n k)) ≡ Some k

-- The list of a place is its initiator's latest one.
pub record IsOpenAt (past : List Moment) (w : WorldState) (place : ℕ) : Type 0 where
  pub inside : initiator_in w place < length w.initiators
  pub n : ℕ
  pub list : (holder w place).list ≡ Some n
  pub still : IsOpen past (initiator_in w place) n
  pub named : (k : ℕ) → ends past (initiator_in w place) n ≤ k → k < linked past (initiator_in w place) n → IsNamed past w place n k

-- ---- a pointer that is taken

pub record IsPointed (past : List Moment) (w : WorldState) (place : ℕ) (pointer : OrbPointer) : Type 0 where
  pub inside : initiator_in w place < length w.initiators
  pub there : place_in w.places place ≡ Some (holder w place)
  pub n : ℕ
  pub first : agent.named pointer ≡ Some (address_of past (initiator_in w place) n 0)
  pub linked_one : 0 < linked past (initiator_in w place) n
  pub none : ends past (initiator_in w place) n ≡ 0
  pub still : IsOpen past (initiator_in w place) n
  pub named : (k : ℕ) → k < linked past (initiator_in w place) n → IsNamed past w place n k
  pub alone : (other : ℕ) → other < 8 → is_open_at w other ≡ true → initiator_in w other ≡ initiator_in w place → other ≡ place

-- a packet is one for the target, which found it to be this
pub record IsFor (w : WorldState) (sent : Sent) : Type 0 where
  pub serial : ℕ
  pub found : found_sent serial w.store.kept ≡ Some sent
  pub to : sent.to ≡ 0

-- ---- what is known of the lists that are open

-- and, while the next pointer of the last ORB is read again, of that ORB
pub record OpenLists (past : List Moment) (w : WorldState) : Type 0 where
  pub listed : (place : ℕ) → place < 8 → is_open_at w place ≡ true → IsCalm past (initiator_in w place) → IsOpenAt past w place
  pub one : (place other : ℕ) → place < 8 → other < 8 → is_open_at w place ≡ true → is_open_at w other ≡ true → IsCalm past (initiator_in w place) → initiator_in w other ≡ initiator_in w place → other ≡ place
  pub points : (sent : Sent) → IsFor w sent → (packet : Packet) → (judging_step w.target.layer sent.generation sent.bytes).0 ≡ of_request packet → is_barred w.target packet ≡ false → (place : ℕ) (pointer : OrbPointer) (ask : Ask) → demand_of (length w.target.rom) packet ≡ demands.Agent place (accesses.Point pointer) → (point_step (machine_at w place) pointer).0 ≡ Ok ask → IsCalm past (initiator_in w place) → IsPointed past w place pointer
  pub behind : (place : ℕ) → place < 8 → (machine_at w place).phase ≡ phases.ReadingNext → IsCalm past (initiator_in w place) → (n k : ℕ) → (holder w place).list ≡ Some n → ends past (initiator_in w place) n ≡ suc k → IsNamed past w place n k

-- ---- before a moment of one run

-- Lists are as they should be after these lines of a run.
abbrev pub OpenAfter : (line : ℕ) → Run → List Entry → Type 0
OpenAfter line run entries = OpenLists (moments_behind line run entries) (after (beginning run) entries).world

-- They are so behind these deliveries of a line, as which it began with this history.
abbrev pub OpenBehind : List Moment → List (Option Told) → Scene → Type 0
OpenBehind past told s = OpenLists (map said (after_all told s).world.fresh ++ past) (after_all told s).world

-- They were so before the last of these deliveries: as the line began, and behind each delivery but the last.
abbrev pub OpenWhile : List Moment → List (Option Told) → Scene → Type 0
OpenWhile past [] s = Unit {0}
OpenWhile past (one ∷ told) s = OpenBehind past told s × OpenWhile past told s

-- and before the end of a line: of one that settles, before its last note too
abbrev pub OpenIn : Event → List Moment → List (Option Told) → Scene → Type 0
OpenIn (events.Step count) past told s = OpenWhile past told s
OpenIn events.Settle past told s = OpenBehind past told s × OpenWhile past told s
OpenIn event past told s = Unit {0}

-- of a line of a run, behind these
pub record OpenLine (line : ℕ) (run : Run) (e : Entry) (before : List Entry) : Type 0 where
  pub begins : OpenAfter line run before
  pub goes : OpenIn e.event (asked e.line e.event ∷ moments_behind line run before) e.told (begun (after (beginning run) before))

-- They were so at each place before the end of the last of these lines of a run.
abbrev pub OpenBefore : (line : ℕ) → Run → List Entry → Type 0
OpenBefore line run [] = Unit {0}
OpenBefore line run (e ∷ before) = OpenLine line run e before × OpenBefore line run before

-- And they were so at each place of a run before the last of these deliveries of a line that follows.
pub record OpenBetween (line : ℕ) (run : Run) (next : ℕ) (event : Event) (told : List (Option Told)) : Type 0 where
  pub before : OpenBefore line run run.entries
  pub begins : OpenAfter line run run.entries
  pub goes : OpenWhile (asked next event ∷ history_of line run) told (begun (after (beginning run) run.entries))

-- ---- what holds between two turns

-- The response to a read that an agent has under way along a list of an initiator brings what the list holds.
abbrev pub AllBrought : List Moment → WorldState → (i : ℕ) → Type 0
AllBrought past w i =
    (sent : Sent) → IsFor w sent → (packet : Packet) (label : LabelParts) (place : ℕ) (which : Which) → (judging_step w.target.layer sent.generation sent.bytes).0 ≡ of_response packet label (Some (purposes.Agent place)) → which_in (desk_at w.target place) (header_in packet).source label ≡ Some which → place < 8 → initiator_in w place ≡ i → (n : ℕ) → (holder w place).list ≡ Some n → (progress : Progress) → progress.ended ≡ ends past i n → Along (orbs past i n) progress (machine_at w place) → Brings (orbs past i n) progress.ended (machine_at w place) which (answer_in packet)

-- what the agents of an initiator stand on
pub record Needs (past : List Moment) (w : WorldState) (i : ℕ) : Type 0 where
  pub lists : OpenLists past w
  pub brings : AllBrought past w i
