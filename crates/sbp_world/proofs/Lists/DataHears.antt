-- What a reply answers that an agent gets while it writes an answer: the write of the chunk for which it waits.
use Rattle.sbp_world.proofs.Words.Std.{◌≡◌, ◌∙◌, sym, ap, subst, ◌<◌, ℕ, suc, Bool, false, List, ◌∷◌, length, Some, true, same_Some}
use Rattle.sbp_world.proofs.Words.Wire.{LabelParts, Packet, header_in, judging_step, of_response, Sent, found_sent, Access, Moment, asked, Terms, opened, terms, Event}
use Rattle.sbp_world.proofs.Words.Target.{Main, answer_chunk, Disk, which_in, desk_at, answer_in}
use Rattle.sbp_world.proofs.Words.Initiator.{Answer}
use Rattle.sbp_world.proofs.Words.Laws.{access_at, answered_at, begun_in, is_under_way, receiver_in, sender_in, agent_at, over, target_at}
use Rattle.sbp_world.proofs.Words.World.{holder, WorldState, initiator_at, without_notes, serial_of, HoldsOrbs, IsNextChunk, IsCalm, OpenLists, initiator_in, machine_at}
use Rattle.command_agent.specs.declared.phase.Phase.TheVariants as phases
use Rattle.sbp_laws.specs.Packets as laws
use Rattle.sbp_target.specs.declared.purpose.Purpose.TheVariants as purposes
use Rattle.sbp_world.proofs.Agents.Management.Holding.{Holding}
use Rattle.sbp_world.proofs.Agents.Management.Still.{hist}
use Rattle.sbp_world.proofs.Lists.DataPieces.{next_chunk, next_size}
use Rattle.sbp_world.proofs.Lists.Heard.{closed, request_to, tells, waiting, waits_so}
use Rattle.sbp_world.proofs.Lists.Sites.{Site, Waiting, waiting as agent_waiting}
use Rattle.sbp_world.proofs.Lists.Told.{AgentOn}
use Rattle.sbp_world.proofs.Lists.OrbWaits.{waits_same}
use Rattle.sbp_world.proofs.Lists.OrbLines.{answered_same}

-- the packet with a serial answers the write for which the agent of a place waits
pub record IsHeard (past : List Moment) (w : WorldState) (serial place : ℕ) (answer : Answer) : Type 0 where
  pub request : ℕ
  pub closed : answered_at (terms past) serial ≡ Some request
  pub told : laws.answer_in (laws.packet_at (terms past) serial) ≡ answer
  pub chunk : IsNextChunk past w place request
  pub size : (access : Access) → access_at (terms past) request ≡ Some access → length access.payload ≡ answer_chunk (machine_at w place)

abbrev pub AreHeard : (ℕ → Bool) → List Moment → WorldState → Type 0
AreHeard wild past w =
    (serial : ℕ) (sent : Sent) → found_sent serial w.store.kept ≡ Some sent → sent.to ≡ 0 → (packet : Packet) (label : LabelParts) (place : ℕ) → (judging_step w.target.layer sent.generation sent.bytes).0 ≡ of_response packet label (Some (purposes.Agent place)) → which_in (desk_at w.target place) (header_in packet).source label ≡ Some Main → place < 8 → wild (holder w place).initiator ≡ false → (machine_at w place).phase ≡ phases.Answering → IsHeard past w serial place (answer_in packet)

-- ---- at a place

module _ (wild : ℕ → Bool) (units ready : ℕ) (has : 0 < units) (start : List Disk) {past : List Moment} {lines : ℕ} (w : WorldState) (h : Holding units ready start past lines w) (s : Site start past w) (lists : (i : ℕ) → wild i ≡ false → OpenLists (hist past w) w) (calm : (i : ℕ) → wild i ≡ false → IsCalm (hist past w) i) (holds : (i : ℕ) → i < length w.initiators → HoldsOrbs (hist past w) i (initiator_at w i)) (agents : (p : ℕ) → p < 8 → AgentOn wild (hist past w) (holder w p) (machine_at w p)) where
  abbrev t : Terms
  t = terms (hist past w)

  module _ (serial : ℕ) (sent : Sent) (found : found_sent serial w.store.kept ≡ Some sent) (zero_to : sent.to ≡ 0) (packet : Packet) (label : LabelParts) (place : ℕ) (e : (judging_step w.target.layer sent.generation sent.bytes).0 ≡ of_response packet label (Some (purposes.Agent place))) (is_which : which_in (desk_at w.target place) (header_in packet).source label ≡ Some Main) (b : place < 8) (own : wild (holder w place).initiator ≡ false) (answering : (machine_at w place).phase ≡ phases.Answering) where
    abbrev own_request : ℕ
    own_request = (waiting units ready has start w h s.agents.requests s.agents.are s.agents.known s.asked serial sent found zero_to packet label place e).serial

    waits : serial_of Main (agent_at (over (target_at start (hist past w))) place) ≡ Some own_request
    waits = waits_so units ready has start w h s.agents.requests s.agents.are s.agents.known s.asked serial sent found zero_to packet label place e Main is_which

    asked_for : Waiting units ready has start w h s place b Main own_request
    asked_for = agent_waiting units ready has start w h s place b Main own_request waits

    calm_from : t.injects sent.from ≡ false
    calm_from =
        let from_is : sent.from ≡ suc (initiator_in w place) = same_Some sent.from (suc (initiator_in w place)) (sym (request_to units ready has start w h s.agents.requests s.agents.are s.agents.known s.asked serial sent found zero_to packet label place e) ∙ asked_for.to) in
        ap t.injects from_is ∙ calm (initiator_in w place) own

    pub heard_there : IsHeard (hist past w) w serial place (answer_in packet)
    heard_there = record {
      request = own_request;
      closed = closed units ready has start w h s.agents.requests s.agents.are s.agents.known s.asked serial sent found zero_to packet label place e calm_from;
      told = tells units ready has start w h s.agents.requests s.agents.are s.agents.known s.asked serial sent found zero_to packet label place e calm_from;
      chunk = next_chunk wild units ready has start w h s lists calm holds agents place own_request b own answering waits;
      size = next_size wild units ready has start w h s lists calm holds agents place own_request b own answering waits;
    }

-- ---- as a line begins that delivers a packet

module _ (wild : ℕ → Bool) (line : ℕ) (event : Event) (r : Bool) (as_opened : (t : Terms) → opened event t ≡ record t { repeats = r }) (ms : List Moment) (w : WorldState) where
  abbrev old : Terms
  old = terms ms

  same : opened event (terms ms) ≡ record (terms ms) { repeats = r }
  same = as_opened (terms ms)

  chunk_asked : (place serial : ℕ) → IsNextChunk ms w place serial → IsNextChunk (asked line event ∷ ms) (without_notes w) place serial
  chunk_asked place serial x = record {
    inside = x.inside;
    list = x.list;
    list_is = x.list_is;
    number = x.number;
    number_is = x.number_is;
    below = x.below;
    cmd = x.cmd;
    command = x.command;
    small = x.small;
    has = x.has;
    from = subst (λ (y : Terms). sender_in (y.sent serial) ≡ Some 0) (sym same) x.from;
    to = subst (λ (y : Terms). receiver_in (y.sent serial) ≡ Some (suc (initiator_in w place))) (sym same) x.to;
    under_way = subst (λ (y : Terms). is_under_way y serial ≡ true) (sym same) (waits_same old r (begun_in (old.sent serial)) serial ∙ x.under_way);
    access = x.access;
    is = subst (λ (y : Terms). access_at y serial ≡ Some x.access) (sym same) x.is;
    writes = x.writes;
    within = x.within;
    piece = x.piece;
    stands = x.stands;
  }

  pub heard_asked : AreHeard wild ms w → AreHeard wild (asked line event ∷ ms) (without_notes w)
  heard_asked h serial sent found zero_to packet label place e is_which b own answering =
      let x = h serial sent found zero_to packet label place e is_which b own answering in
      record {
        request = x.request;
        closed = subst (λ (y : Terms). answered_at y serial ≡ Some x.request) (sym same) (answered_same old r (old.sent serial) ∙ x.closed);
        told = subst (λ (y : Terms). laws.answer_in (laws.packet_at y serial) ≡ answer_in packet) (sym same) x.told;
        chunk = chunk_asked place x.request x.chunk;
        size = λ access a. x.size access (subst (λ (y : Terms). access_at y x.request ≡ Some access) same a);
      }
