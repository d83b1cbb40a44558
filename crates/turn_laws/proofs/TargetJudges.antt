-- What the target does with a packet is what the judgement law asks of it, in a world behind the first note of the delivery.
use Rattle.std.proofs.Common.{arith, ◌≡◌, ◌∙◌, refl, sym, ap, subst, ℕ, ◌<◌, ◌≤◌, ◌&&◌, not, is_none, Bool, true, false, List, [], ◌∷◌, ◌++◌, length, Option, Some, None, Ok}
use Rattle.async_packet.specs.Packet.{Packet, header_in}
use Rattle.async_packet.specs.Reading.{reading}
use Rattle.label_table.specs.Judging.{by_request}
use Rattle.label_table.specs.Layer.{Finding, Layer, answering_step, judging_step, of_again, of_generation, of_grammar, of_label, of_request, of_response}
use Rattle.login_table.specs.Table.{Table, by_agent}
use Rattle.login_table.specs.declared.login.Login.{Login}
use Rattle.packet_store.specs.declared.sent.Sent.{Sent}
use Rattle.packet_store.specs.Kept.{found_sent}
use Rattle.rbc_disk.specs.Disk.{Disk}
use Rattle.rbc_disk.specs.Runs.{Told}
use Rattle.bus_transactions.specs.Wire.{as_sending}
use Rattle.sbp_journal.specs.Addresses.{Access, Start, management_agent, no_start, register, rom_start, start_at}
use Rattle.sbp_journal.specs.Outgoings.{OutboxState, empty_outbox}
use Rattle.sbp_journal.specs.Rows.{RequestFacts, judging_of}
use Rattle.sbp_journal.specs.Run.{Moment}
use Rattle.sbp_journal.specs.Transactions.{Sending}
use Rattle.sbp_journal.specs.Wire.{Terms, terms}
use Rattle.sbp_journal.specs.declared.cause.Cause.{Cause}
use Rattle.sbp_journal.specs.declared.cause.Cause.TheVariants as causes
use Rattle.sbp_journal.specs.declared.cause.Judged.{Judged}
use Rattle.sbp_journal.specs.declared.cause.Judged.TheVariants as judgements
use Rattle.sbp_laws.specs.JudgementLaw.{answer_packet, is_none_live, is_other_register, request_facts, target_facts}
use Rattle.sbp_laws.specs.Packets.{id_for}
use Rattle.sbp_laws.specs.Targets.{Target, over, target_at}
use Rattle.sbp_target.specs.Histories.Answers.{IsJudged, response_of}
use Rattle.sbp_target.specs.Histories.Judgements.{is_of_no_login, judged_as, judged_by}
use Rattle.sbp_target.specs.Nodes.{NodeState, Scene as TargetScene, scene}
use Rattle.sbp_target.specs.Receiving.{judged_scene, received, received_as, with_layer}
use Rattle.sbp_target.specs.Replies.{Whole}
use Rattle.sbp_target.specs.Sending.{answer_step}
use Rattle.sbp_target.specs.Serving.{answered, request_step}
use Rattle.sbp_target.specs.declared.purpose.Purpose.{Purpose}
use Rattle.sbp_world.specs.Agents.Management.Offices.{Agrees, office_of}
use Rattle.sbp_world.specs.Delivering.{whole_of}
use Rattle.sbp_world.specs.Wire.Wires.{Stands, layers_of}
use Rattle.sbp_world.specs.Worlds.{Scene, WorldState}
use Rattle.sbp_target.proofs.Histories.Answered.{answer_law}
use Rattle.sbp_target.proofs.Histories.Found.{IsFound, found as found_as}
use Rattle.sbp_target.proofs.Histories.Rowing.{row_law}
use Rattle.sbp_world.proofs.Agents.CrewFirsts.{access_there, agrees}
use Rattle.sbp_world.proofs.Agents.Management.Holding.{is_of}
use Rattle.sbp_world.proofs.Agents.Management.Still.{hist}
use Rattle.turn_laws.proofs.AnswerNotes.{SameBus, none_handed, one_handed}
use Rattle.turn_laws.proofs.FoundRows.{Asks, RowFor}
use Rattle.turn_laws.proofs.Handed.{handed}
use Rattle.turn_laws.proofs.Places.{Place}
use Rattle.turn_laws.proofs.Verdicts.{Acts, ActsBy}

-- a request of a target, by whether its register is of another login
abbrev other_facts : Bool → RequestFacts
other_facts off = record {
  to_initiator = false;
  reads_rom = false;
  of_target = false;
  of_other_login = off;
  to_closed_fifo = false;
  is_status = false;
  is_unsolicited = false;
  is_read = false;
  is_awaited = false;
}

none_live_same : (o : Option Login) → is_none_live o ≡ is_none o
none_live_same None = refl
none_live_same (Some login) = refl

pub judged_first : (x : Judged × TargetScene) (w : Whole) → (judged_scene x w).0 ≡ x.0
judged_first (judged, s) w = refl

-- the packets of an answer
answered_packets : (p : Packet) (bytes : List ℕ) (rcode : ℕ) (given : List ℕ) (s : TargetScene) → (answered p bytes rcode given s).outbox.packets ≡ s.outbox.packets ++ response_of s.node.layer.node p rcode given ∷ []
unfolding answer_step answering_step
answered_packets p bytes rcode given s = refl

module _ (units ready : ℕ) (has : 0 < units) (start : List Disk) (past : List Moment) (s : Scene) (here : Place units ready start past s) (serial : ℕ) (one : Sent) (found : found_sent serial s.world.store.kept ≡ Some one) (zero_to : one.to ≡ 0) (run : Option Told) (v : WorldState) (bus : SameBus s.world v) where
  abbrev node : NodeState
  node = s.world.target

  abbrev ms : List Moment
  ms = hist past s.world

  abbrev t : Terms
  t = terms ms

  abbrev target : Target
  target = over (target_at start ms)

  abbrev q : Sending
  q = as_sending one

  stands : Stands past s.world
  stands = here.holds.sound.stands

  -- ---- one answer is its packet
  one_answer : (p : Packet) (rcode own : ℕ) → reading one.bytes ≡ Ok p → one.generation ≡ t.generation one.to → own ≡ node.layer.node → (o : OutboxState) → o.sides ≡ [] → o.packets ≡ response_of own p rcode [] ∷ [] → handed 0 0 o v ≡ answer_packet t q rcode [] (Some p)
  one_answer p rcode own read now own_is o sides_are packets_are =
      ap (λ n. handed n 0 o v) (sym zero_to)
      ∙ one_handed s.world stands serial one found (subst (λ n. n ≤ length s.world.initiators) (sym zero_to) (omega arith)) p read v bus rcode own [] (own_is ∙ ap (λ n. (layers_of s.world n).node) (sym zero_to)) now o sides_are packets_are

  -- ---- the register of a request is of another login by the terms as it is by the target's own table
  same : Agrees (office_of target) node
  same = agrees units ready has start s.world here.holds

  abbrev source : Packet → ℕ
  source p = (header_in p).source

  source_is : (p : Packet) → reading one.bytes ≡ Ok p → one.generation ≡ t.generation one.to → id_for t 0 one.from ≡ source p
  source_is p read now = ap (λ g. t.ids g one.from) (ap (λ n. t.generation n) (sym zero_to) ∙ sym now) ∙ sym ((is_of s.world stands serial one found).source p read)

  module _ (node_now : NodeState) (logins_are : node_now.logins ≡ node.logins) (id : ℕ) where
    other_same : (place : Start) → is_other_register place target id ≡ is_of_no_login node_now id place
    other_same (register place name) =
        none_live_same (by_agent target.table.places place id) ∙ ap (λ (x : Table). is_none (by_agent x.places place id)) (same.table ∙ sym logins_are)
    other_same rom_start = refl
    other_same management_agent = refl
    other_same no_start = refl

    facts_same : (access : Access) → target_facts target id access ≡ judged_by node_now id access
    facts_same access = ap (λ b. other_facts (not access.is_lock && b)) (other_same (start_at access.offset))

  request_facts_are : (p : Packet) (access : Access) (node_now : NodeState) → node_now.logins ≡ node.logins → reading one.bytes ≡ Ok p → one.generation ≡ t.generation one.to → request_facts start ms target t one.from one.to access ≡ judged_by node_now (source p) access
  request_facts_are p access node_now logins_are read now =
      ap (λ n. request_facts start ms target t one.from n access) zero_to
      ∙ (ap (λ id. target_facts target id access) (source_is p read now) ∙ facts_same node_now logins_are (source p) access)

  -- ---- what it does, by what it found
  abbrev W : Layer Purpose → Whole
  W layer = with_layer layer (whole_of node s.media)

  abbrev At : Finding Purpose × Layer Purpose → Judged × Whole → Type 0
  At x r = Acts start ms serial q x.0 r.0 (handed 0 0 r.1.outbox v)

  abbrev Told_so : Judged × Whole → Type 0
  Told_so r = IsJudged r.0 node one.bytes s.media.disks r.1

  ignored_so : (cause : Cause) (r : Judged × Whole) → r.0 ≡ judgements.Ignored cause → Told_so r → IsJudged (judgements.Ignored cause) node one.bytes s.media.disks r.1
  ignored_so cause r e j = subst (λ x. IsJudged x node one.bytes s.media.disks r.1) e j

  -- a request whose register is of another login is answered with address_error, every other one is got
  off_acts : (off : Bool) (p : Packet) (r : Judged × Whole) → reading one.bytes ≡ Ok p → one.generation ≡ t.generation one.to → r.0 ≡ judged_as (judging_of (other_facts off)) → Told_so r → ActsBy start ms serial q (judging_of (other_facts off)) p r.0 (handed 0 0 r.1.outbox v)
  off_acts true p r read now e j =
      let i = ignored_so causes.Login r e j in
      let same_packet : i.0.packet ≡ p = (let both : Ok i.0.packet ≡ Ok p = sym i.0.read ∙ read in cc) in
      (e, one_answer p 7 node.layer.node read now refl r.1.outbox i.1 (i.0.packets_are ∙ ap (λ (x : Packet). response_of node.layer.node x 7 [] ∷ []) same_packet))
  off_acts false p r read now e j = e

  request_acts : (p : Packet) (layer : Layer Purpose) → Asks t q p by_request → Told_so (received_as run one.bytes (of_request p) (W layer)) → At (of_request p, layer) (received_as run one.bytes (of_request p) (W layer))
  request_acts p layer a j =
      let asks = access_there p a.none in
      let r = received_as run one.bytes (of_request p) (W layer) in
      let node_now : NodeState = record node { layer = layer } in
      let off = not asks.access.is_lock && is_of_no_login node_now (source p) (start_at asks.access.offset) in
      record {
        asks = asks;
        acts =
            subst (λ (f : RequestFacts). ActsBy start ms serial q (judging_of f) p r.0 (handed 0 0 r.1.outbox v)) (sym (request_facts_are p asks.access node_now refl a.read a.current))
            (off_acts off p r a.read a.current (judged_first (request_step p one.bytes (scene node_now empty_outbox)) (W layer) ∙ (row_law p asks.access asks.is).judges one.bytes (scene node_now empty_outbox)) j);
      }

  acts_by : (x : Finding Purpose × Layer Purpose) → IsFound x.0 node.layer x.1 one.bytes → RowFor t q node.layer.node x → Told_so (received_as run one.bytes x.0 (W x.1)) → At x (received_as run one.bytes x.0 (W x.1))
  acts_by (of_generation, layer) f row j = (refl, none_handed 0 empty_outbox v refl refl)
  acts_by (of_grammar, layer) f row j = (refl, none_handed 0 empty_outbox v refl refl)
  acts_by (of_label, layer) f row j = (refl, none_handed 0 empty_outbox v refl refl)
  acts_by (of_response p label purpose, layer) f row j = refl
  acts_by (of_again p rcode, layer) f row j =
      let here_now = scene (record node { layer = layer }) empty_outbox in
      (refl, one_answer p rcode layer.node row.asks.read row.asks.current row.node_is (answered p one.bytes rcode [] here_now).outbox j.1 (answered_packets p one.bytes rcode [] here_now))
  acts_by (of_request p, layer) f row j = request_acts p layer row j

  pub target_acts : (let x = received run one.generation one.bytes (whole_of node s.media) in RowFor t q node.layer.node (judging_step node.layer one.generation one.bytes) → Acts start ms serial q (judging_step node.layer one.generation one.bytes).0 x.0 (handed 0 0 x.1.outbox v))
  unfolding received
  target_acts row =
      acts_by (judging_step node.layer one.generation one.bytes) (found_as node.layer one.generation one.bytes) row
      (answer_law.deliveries run s.media.disks one.generation one.bytes node)
