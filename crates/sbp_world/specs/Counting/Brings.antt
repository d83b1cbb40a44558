-- How much a reply brings to an agent, at each place of a history between two turns (NCITS 325-1998, command block ORB and page tables): what an agent waits for as its main
-- transaction, of an initiator that injected no packets, brings an ORB, or the buffer of one, of no more page tables and chunks than the command has that was
-- appended as the ORB behind those of its list that have ended; and so does an ORB that was read ahead, as its turn comes.
use Rattle.std.specs.Prelude.{◌≡◌, ◌<◌, ℕ, List, Some}
use Rattle.async_packet.specs.Labels.{LabelParts}
use Rattle.async_packet.specs.Packet.{Packet, header_in}
use Rattle.label_table.specs.Layer.{judging_step, of_response}
use Rattle.packet_store.specs.declared.sent.Sent.{Sent}
use Rattle.orb_layout.specs.Replies.{Answer}
use Rattle.command_agent.specs.declared.step.Which.TheVariants.{Main}
use Rattle.command_agent.specs.Making.{Brings}
use Rattle.sbp_journal.specs.Run.{Moment}
use Rattle.sbp_target.specs.declared.purpose.Purpose.TheVariants as purposes
use Rattle.sbp_target.specs.Desks.{which_in}
use Rattle.sbp_target.specs.Nodes.{desk_at}
use Rattle.sbp_target.specs.Receiving.{answer_in}
use Rattle.sbp_world.specs.Counting.Rooms.{chunks_of, elements_of, present_command}
use Rattle.sbp_world.specs.Worlds.{WorldState}
use Rattle.sbp_world.specs.Lists.Along.{AreAlong}
use Rattle.sbp_world.specs.Lists.Closes.{Always, WhereTameOrFew}
use Rattle.sbp_world.specs.Lists.Needs.{AllBrought, IsCalm, IsFor, OpenLists, initiator_in, machine_at}

-- an answer brings no more to the agent of a place than its present command has
abbrev pub BringsFew : List Moment → WorldState → (place : ℕ) → Answer → Type 0
BringsFew past w place answer = Brings (elements_of (present_command past w place)) (chunks_of (present_command past w place)) (machine_at w place) answer

-- a packet is the response that the agent of a place waits for as its main transaction
pub record IsMainReply (w : WorldState) (sent : Sent) (packet : Packet) (place : ℕ) : Type 0 where
  pub comes : IsFor w sent
  pub label : LabelParts
  pub found : (judging_step w.target.layer sent.generation sent.bytes).0 ≡ of_response packet label (Some (purposes.Agent place))
  pub main : which_in (desk_at w.target place) (header_in packet).source label ≡ Some Main
  pub small : place < 8

abbrev pub AreFew : List Moment → WorldState → Type 0
AreFew past w = (sent : Sent) (packet : Packet) (place : ℕ) → IsMainReply w sent packet place → IsCalm past (initiator_in w place) → BringsFew past w place (answer_in packet)

-- It is so where lists are open as they should be, agents are along them, and what they read is what the lists hold.
abbrev pub PlacesBringFew : Type 0
PlacesBringFew = (past : List Moment) (w : WorldState) → OpenLists past w → AreAlong past w → ((i : ℕ) → IsCalm past i → AllBrought past w i) → AreFew past w

-- So it is at each place of every run in which no initiator injected packets, or few logins were given.
abbrev pub RunsBringFew : Type 0
RunsBringFew = Always (WhereTameOrFew AreFew)
