-- What stands behind a request that an initiator gets, where it answers with one packet.
use Rattle.sbp_world.proofs.Words.Std.{arith, ◌≡◌, refl, sym, ap, subst, ◌∙◌, ℕ, suc, ◌+◌, ◌-◌, ◌^◌, ◌<◌, ◌≤◌, ◌==◌, ◌||◌, not, nat_lt, Bool, true, false, cond, List, [], ◌∷◌, ◌++◌, length, map, Option, Some, nat_tests, AllByRecursion}
use Rattle.sbp_world.proofs.Words.Wire.{canon, Packet, header_in, is_plain, AreBytes, IsOf, ArePlainSides, Node, as_sending, response_to, judging_step, of_request, Sent, found_sent, is_flying, Stored, deliver_step, Access, access_of, OutboxState, empty_outbox, Moment, said, Sending, part_of, Terms, terms, Judged, Note, GenerationsState, node_of, topology_at, judged_note}
use Rattle.sbp_world.proofs.Words.Target.{Told}
use Rattle.sbp_world.proofs.Words.Initiator.{InitiatorState, Turn, receive_step}
use Rattle.sbp_world.proofs.Words.Laws.{before_sent, payload_at, id_of, sender_in, is_answered}
use Rattle.sbp_world.proofs.Words.World.{Arrival, arrived, at_none, at_target, delivered, delivered_by, initiator_received, initiators_received, listed, received_by, received_step, target_received, handed_out, sent_all, told_all, Scene, WorldState, initiator_at, with_note, Stands, behind, AreNotes, history, IsReadWith, payload_of}
use Rattle.std.proofs.Common.{slice_set}
use Rattle.bus_transactions.proofs.Follows.{last_is}
use Rattle.bus_transactions.proofs.PacketParts.{part_read}
use Rattle.bus_transactions.proofs.Reaches.{goes_on}
use Rattle.sbp_journal.specs.declared.cause.Judged.TheVariants as judgements
use Rattle.sbp_journal.specs.declared.note.Note.TheVariants as notes
use Rattle.sbp_laws.specs.Served.{Reply}
use Rattle.sbp_world.specs.Delivering.{at_initiator}
use Rattle.sbp_world.proofs.InitiatorForms as initiators
use Rattle.sbp_world.proofs.FitInitiator.Law.{fitting_law as own_fitting_law}
use Rattle.sbp_world.proofs.Wire.Bus.{holds}
use Rattle.sbp_world.proofs.Wire.Found.{node_found}
use Rattle.sbp_world.proofs.Wire.Holding.{Sound, own_has, target_small}
use Rattle.sbp_world.proofs.Hosts.AnsweringTold.{asks_part, behind_on, none_on, notes_on, one_sent, plain_on}
use Rattle.sbp_world.proofs.Hosts.Answering.{IsRequestFound, answer, request_of}
use Rattle.sbp_world.proofs.Hosts.Outboxes.{all_own}
use Rattle.sbp_world.proofs.Hosts.Knows.{was_sent}
use Rattle.sbp_world.proofs.Hosts.Liners.{own_notes}
use Rattle.sbp_world.proofs.Hosts.OrbTells as tell
use Rattle.sbp_world.proofs.Hosts.OrbTerms.{orb_terms, still_left}
use Rattle.sbp_world.proofs.Hosts.OrbRuns.{id_known}
use Rattle.sbp_world.proofs.Hosts.Requested.{all_told_bus}
use Rattle.sbp_world.proofs.Hosts.ResponseTerms.{IsRequestPart, answers as answers_there, payload_there, request_part, stood_before}

-- ---- a delivery

-- The packet of a serial is a request that an initiator gets.
pub record Gets (w : WorldState) (i serial : ℕ) : Type 0 where
  pub sent : Sent
  pub found : found_sent serial w.store.kept ≡ Some sent
  pub to_it : sent.to ≡ suc i
  pub packet : Packet
  pub request : (judging_step (initiator_at w i).layer sent.generation sent.bytes).0 ≡ of_request packet
  pub access : Access
  pub asks_for : access_of packet ≡ Some access
  pub got : (receive_step sent.generation sent.bytes empty_outbox (initiator_at w i)).0 ≡ judgements.Got

-- its packets are one answer
module _ {past : List Moment} {lines : ℕ} (s : Scene) (sound : Sound past lines s.world) (i : ℕ) (inside : i < length s.world.initiators) (serial : ℕ) (again : Bool) (told : Option Told) (g : Gets s.world i serial) (reply : Reply) (packets_are : (receive_step g.sent.generation g.sent.bytes empty_outbox (initiator_at s.world i)).1.0.packets ≡ answer (initiator_at s.world i).layer.node g.packet reply.rcode reply.given ∷ []) where
  abbrev w : WorldState
  w = s.world

  abbrev pub H : List Moment
  H = history w past

  abbrev pub t : Terms
  t = terms H

  abbrev pub old : InitiatorState
  old = initiator_at w i

  abbrev p : Packet
  p = g.packet

  abbrev pub q : Sending
  q = as_sending g.sent

  abbrev pub r : Judged × Turn
  r = receive_step g.sent.generation g.sent.bytes empty_outbox old

  stands : Stands past w
  stands = sound.stands

  same_terms : terms stands.wire.past ≡ t
  same_terms = ap terms stands.is.past_is

  there : suc i ≤ length w.initiators
  there = omega arith

  pub request : IsRequestFound old.layer g.sent.generation g.sent.bytes p
  request = request_of old.layer g.sent.generation g.sent.bytes p g.request

  pub was : t.sent serial ≡ Some q
  was = was_sent w stands serial g.sent g.found

  was_there : (terms stands.wire.past).sent serial ≡ Some q
  was_there = ap (λ (x : Terms). x.sent serial) same_terms ∙ was

  abbrev pub effects : List Note
  effects = notes_on r.1.0.sides []

  own : AreNotes r.1.0.sides
  own = own_notes r.1.0.sides (initiators.receives g.sent.generation g.sent.bytes empty_outbox old tt)

  pub plain : ArePlainSides r.1.0.sides
  plain =
      ((own_fitting_law (own_has w.generations.seen i) (own_has w.generations.seen i)).deliveries g.sent.generation g.sent.bytes old (target_small w.generations.seen i) (sound.nodes.own.holds i inside)
      (stands.is.knows.ours serial q was_there).bytes).plain

  -- ---- the response

  id_is : old.layer.node ≡ id_of t (suc i)
  id_is = (id_known w stands i there).is_id

  counted : w.store.last ≡ t.count
  counted =
      ap (λ (st : Stored). st.last) (sym stands.is.store_is) ∙ last_is (holds stands.wire stands.reached).follows
      ∙ ap (λ (x : Terms). x.count) same_terms

  generation_is : (topology_at w.generations (suc i)).generation ≡ t.generation (suc i)
  generation_is =
      sym (stands.is.sights (suc i) there) ∙ ((holds stands.wire stands.reached).nodes (suc i)).generation
      ∙ ap (λ (x : Terms). x.generation (suc i)) same_terms

  -- it goes to the node that sent the request
  source_there : node_of w.generations (suc i) (header_in p).source ≡ Some g.sent.from
  source_there =
      let ours = stands.is.knows.ours serial q was_there in
      let of : IsOf (terms stands.wire.past) q = goes_on.packets stands.wire serial q stands.reached was_there in
      let current : g.sent.generation ≡ (topology_at w.generations (suc i)).generation =
      request.current ∙ sym (ap (λ (l : Node). l.generation) (stands.is.layers_are (suc i) there)) ∙ stands.is.sights (suc i) there in
      node_found w stands (suc i) there (header_in p).source
      (record {
        node = g.sent.from;
        there = ours.from;
        id_is = sym (stands.is.known_ids (suc i) g.sent.from there ours.from) ∙ ap (λ x. (terms stands.wire.past).ids x g.sent.from) (sym current) ∙ sym (of.source p request.read);
      })

  abbrev pub response_as : (last generation node own : ℕ) → Note
  response_as last generation node own = notes.Sent (last + 1) generation node g.sent.from (canon (response_to own p reply.rcode reply.given))

  abbrev pub response : Note
  response = response_as t.count (t.generation (suc i)) (suc i) (id_of t (suc i))

  -- ---- what is told of the delivery

  abbrev pub goal : List Moment
  goal = said response ∷ (map said effects ++ said (notes.Got serial) ∷ H)

  hands : (x : WorldState) → x.store.last ≡ w.store.last → x.generations ≡ w.generations → history x past ≡ said (notes.Got serial) ∷ H → (node : ℕ) → node ≡ suc i → (o : OutboxState) → AreNotes o.sides → notes_on o.sides [] ≡ effects → o.packets ≡ answer old.layer.node p reply.rcode reply.given ∷ [] → history (handed_out node 0 o x) past ≡ goal
  hands x last gens hist node is o own_sides same_notes same_packets =
      let y = told_all 0 o.sides x in
      let same = all_told_bus 0 o.sides x in
      let to : node_of y.generations node (header_in p).source ≡ Some g.sent.from = ap (λ (z : GenerationsState). node_of z node (header_in p).source) (same.generations ∙ gens) ∙ ap (λ n. node_of w.generations n (header_in p).source) is ∙ source_there in
      let last_now : y.store.last ≡ t.count = ap (λ (st : Stored). st.last) same.store ∙ last ∙ counted in
      let generation_now : (topology_at y.generations node).generation ≡ t.generation (suc i) = ap (λ (z : GenerationsState). (topology_at z node).generation) (same.generations ∙ gens) ∙ ap (λ n. (topology_at w.generations n).generation) is ∙ generation_is in
      ap (λ ps. history (sent_all node ps y) past) same_packets
      ∙ (one_sent past y node g.sent.from old.layer.node reply.rcode p reply.given to
      ∙ (ap (λ ms. said (response_as y.store.last (topology_at y.generations node).generation node old.layer.node) ∷ ms)
      (all_own past 0 o.sides x own_sides ∙ ap (behind o.sides) hist ∙ behind_on o.sides [] (said (notes.Got serial) ∷ H) ∙ ap (λ ns. map said ns ++ said (notes.Got serial) ∷ H) same_notes)
      ∙ ap (λ note. said note ∷ (map said effects ++ said (notes.Got serial) ∷ H))
      (ap (λ n. response_as n (topology_at y.generations node).generation node old.layer.node) last_now
      ∙ (ap (λ n. response_as t.count n node old.layer.node) generation_now
      ∙ (ap (λ n. response_as t.count (t.generation (suc i)) n old.layer.node) is
      ∙ ap (λ n. response_as t.count (t.generation (suc i)) (suc i) n) id_is)))))

  abbrev Shows : Option Arrival × (OutboxState × Scene) → Type 0
  Shows x = history (delivered_by serial again x).world past ≡ goal

  shows_own : (node : ℕ) → node ≡ suc i → (x : Judged × Turn) → x.0 ≡ judgements.Got → AreNotes x.1.0.sides → notes_on x.1.0.sides [] ≡ effects → x.1.0.packets ≡ answer old.layer.node p reply.rcode reply.given ∷ [] → Shows (at_initiator node (listed i x w.initiators) s)
  unfolding arrived
  shows_own node is (judged, (outbox, state)) got own_sides same_notes same_packets = by_mark (again || not (is_flying serial w.store.kept))
    where
      told_got : said (judged_note serial judged) ∷ H ≡ said (notes.Got serial) ∷ H
      told_got = ap (λ x. said (judged_note serial x) ∷ H) got

      by_mark : (b : Bool) → history (handed_out node 0 outbox (with_note (judged_note serial judged) (cond b (record w { initiators = slice_set w.initiators i state }) (record w { initiators = slice_set w.initiators i state; store = deliver_step w.store serial })))) past ≡ goal
      by_mark true = hands (with_note (judged_note serial judged) (record w { initiators = slice_set w.initiators i state })) refl refl told_got node is outbox own_sides same_notes same_packets
      by_mark false = hands (with_note (judged_note serial judged) (record w { initiators = slice_set w.initiators i state; store = deliver_step w.store serial })) refl refl told_got node is outbox own_sides same_notes same_packets

  pub shows : history (delivered serial again told s).world past ≡ goal
  unfolding delivered received_step initiators_received
  shows =
      let to_is = g.to_it in
      let not_target : (g.sent.to == 0) ≡ false = grind (arith, nat_tests) in
      let is : g.sent.to - 1 ≡ i = omega arith in
      let within : nat_lt (g.sent.to - 1) (length w.initiators) ≡ true = grind (arith, nat_tests) in
      ap (λ f. history (delivered_by serial again (received_by told f s)).world past) g.found
      ∙ (ap (λ b. history (delivered_by serial again (cond b (at_target g.sent.to (target_received told g.sent w.target s.media) s) (initiator_received g.sent s))).world past) not_target
      ∙ (ap (λ b. history (delivered_by serial again (cond b (at_initiator g.sent.to (initiators_received (g.sent.to - 1) g.sent w.initiators) s) (at_none s))).world past) within
      ∙ (ap (λ k. history (delivered_by serial again (at_initiator g.sent.to (initiators_received k g.sent w.initiators) s)).world past) is
      ∙ shows_own g.sent.to g.to_it r g.got own refl packets_are)))

  -- ---- what stands before the response

  abbrev pub before_it : List Moment
  before_it = map said effects ++ said (notes.Got serial) ∷ H

  -- what the initiator tells leaves the ORBs
  pub same_orbs : orb_terms before_it i ≡ orb_terms H i
  same_orbs =
      ap (λ ms. orb_terms ms i) (sym (behind_on r.1.0.sides [] (said (notes.Got serial) ∷ H)))
      ∙ still_left r.1.0.sides (said (notes.Got serial) ∷ H) i (tell.receives g.sent.generation g.sent.bytes empty_outbox old tt)

  abbrev pub leaving : List ℕ
  leaving = canon (response_to (id_of t (suc i)) p reply.rcode reply.given)

  pub small : id_of t (suc i) < 2 ^ 16
  small = subst (λ x. x < 2 ^ 16) id_is (sound.nodes.own.holds i inside).layer.small

  pub are_bytes : AreBytes g.sent.bytes
  are_bytes = (stands.is.knows.ours serial q was_there).bytes

  asks_it : IsRequestPart (part_of q.bytes)
  asks_it = request_part (part_of q.bytes) (ap is_answered (part_read g.sent.bytes p request.read) ∙ asks_part p g.access g.asks_for)

  pub plain_effects : AllByRecursion (λ note. is_plain note ≡ true) effects
  plain_effects = plain_on r.1.0.sides [] plain tt

  pub is_read_with : (Carried : List Moment → List ℕ → Type 0) → Carried before_it (payload_of leaving) → IsReadWith H i serial Carried (history (delivered serial again told s).world past)
  is_read_with Carried carries = record {
    effects = effects;
    none_sent = none_on r.1.0.sides [] plain tt;
    to = g.sent.from;
    to_sender = ap sender_in was;
    bytes = leaving;
    is = shows;
    answers = subst (λ ms. (terms ms).answers (t.count + 1) ≡ Some serial) (sym shows) (answers_there H serial q was asks_it effects plain_effects (t.count + 1) (t.generation (suc i)) (suc i) g.sent.from leaving);
    payload = subst (λ ms. payload_at (terms ms) (t.count + 1) ≡ payload_of leaving) (sym shows) (payload_there H serial q was asks_it effects plain_effects (t.count + 1) (t.generation (suc i)) (suc i) g.sent.from leaving);
    before = subst (λ ms. before_sent ms (t.count + 1) ≡ before_it) (sym shows) (stood_before H serial q was asks_it effects plain_effects (t.count + 1) (t.generation (suc i)) (suc i) g.sent.from leaving);
    carries = carries;
  }
