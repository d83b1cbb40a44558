-- What the target hands out leaves.
use Rattle.sbp_world.proofs.Words.Std.{arith, ◌≡◌, ◌∙◌, refl, sym, ap, subst, ℕ, ◌<◌, ◌≤◌, not, is_some, true, false, List, [], ◌∷◌, ◌++◌, length, Option, Some, None, Result, Ok, Err}
use Rattle.sbp_world.proofs.Words.Wire.{IsValid, canon, LabelParts, Packet, header_in, reading, AreAsks, IsAnswering, IsAsking, IsDelivery, IsExpiry, layer_after, requests_of, request_to, with_asked, Node, Reply, Asked, ReplyKind, Stale, Body, header_to, request_with, response_to, Finding, Layer, answering_step, asking_step, expiring_step, judging_step, of_again, of_generation, of_grammar, of_label, of_request, of_response, IsRequestOf, Sent, found_sent, GenerationsState, node_of, topology_at, Moment, Kind, part_in, request, terms, Judged, Outgoing}
use Rattle.sbp_world.proofs.Words.Target.{Disk, Held, Told, Purpose, alone, lets_expire, received}
use Rattle.sbp_world.proofs.Words.World.{whole_of, BytesTold, WorldState, Stands, AllLeave, Leaves, PacketsLeave}
use Rattle.async_packet.proofs.RoundTrip.{canon_spells}
use Rattle.async_packet.proofs.Spelled.{reading_spelled}
use Rattle.bus_transactions.proofs.FitJudged.{IsFoundAs, found_as}
use Rattle.bus_transactions.proofs.MoveAnswer.{answer_packet}
use Rattle.bus_transactions.proofs.PacketParts.{PartOf, asks, part_case, part_read, replies}
use Rattle.label_table.specs.History as wire
use Rattle.sbp_world.proofs.FitTarget.Law.{fitting_law}
use Rattle.sbp_world.proofs.Wire.Found.{IsKnown, has_known, known_has, node_found}
use Rattle.sbp_world.proofs.Wire.Holding.{KnownTo, known_small, target_has}
use Rattle.sbp_target.proofs.Histories.Calling.{Good}
use Rattle.sbp_target.proofs.Histories.Primitives.{Known}
use Rattle.sbp_world.proofs.Agents.Management.Holding.{Holding, good_of, is_of, known_id, ours, target_generation}
use Rattle.sbp_world.proofs.Agents.Management.Requests.{asked_labelled, asks_valid}
use Rattle.sbp_world.proofs.Agents.Management.Still.{hist}
use Rattle.sbp_world.specs.Agents.Hands.{IsResponse}
use Rattle.sbp_world.proofs.Agents.Writes.{asked_writes}

leave_more : (g : GenerationsState) (packets : List Outgoing) (packet : Outgoing) → AllLeave g packets → Leaves g packet → AllLeave g (packets ++ packet ∷ [])
leave_more g [] packet h l = (l, tt)
leave_more g (first ∷ packets) packet h l = (h.0, leave_more g packets packet h.1 l)

-- a node that is known has its ID on the bus
record Found (g : GenerationsState) (id : ℕ) : Type 0 where
  to : ℕ
  there : node_of g 0 id ≡ Some to

-- ---- asks, from a layer that steps led to
pub led_to : (before : Layer Purpose) (made : List (wire.Call Purpose)) → wire.after 0xffc0 made ≡ before → (steps : List (wire.Call Purpose)) → wire.after 0xffc0 (steps ++ made) ≡ layer_after before steps
led_to before made e [] = e
led_to before made e (step ∷ steps) = ap (wire.done step) (led_to before made e steps)

module _ (g : GenerationsState) (known : ℕ → Type 0) (reach : (id : ℕ) → known id → Found g id) (before : Layer Purpose) (made : List (wire.Call Purpose)) (made_is : wire.after 0xffc0 made ≡ before) where
  known_layer : (steps : List (wire.Call Purpose)) → Known (layer_after before steps) (λ peer label. wire.life peer label (wire.history 0xffc0 (steps ++ made)))
  known_layer steps = record { steps = steps ++ made; layer_is = led_to before made made_is steps; lives_are = λ peer label. refl }

  asked_leaves : (steps : List (wire.Call Purpose)) (peer : ℕ) (body : Body) (purpose : Purpose) (packets : List Outgoing) → known peer → IsValid (request_with (header_to (layer_after before steps).node peer 0) body) → AllLeave g packets → (r : Option Asked) → (asking_step (layer_after before steps) peer body purpose).0 ≡ r → AllLeave g (with_asked peer r packets)
  asked_leaves steps peer body purpose packets k v h None e = h
  asked_leaves steps peer body purpose packets k v h (Some asked) e =
      let layer = layer_after before steps in
      let whole : asking_step layer peer body purpose ≡ (Some asked, (asking_step layer peer body purpose).1) = ap (λ o. (o, (asking_step layer peer body purpose).1)) e in
      let labelled = asked_labelled layer (asking_step layer peer body purpose).1 (λ p l. wire.life p l (wire.history 0xffc0 (steps ++ made))) peer body purpose asked (known_layer steps) whole in
      let is = asks_valid layer.node peer body asked v labelled in
      let f = reach peer k in
      leave_more g packets (request_to peer asked) h (record {
        to = f.to;
        there = f.there;
        part = record { number = asked.label.number; kind = _; is = is.part; writes = is.writes ∙ sym (asked_writes layer (asking_step layer peer body purpose).1 peer body purpose asked whole) };
      })

  asks_leave : (steps : List (wire.Call Purpose)) → AreAsks known before steps → AllLeave g (requests_of before steps)
  asks_leave [] m = tt
  asks_leave (wire.asks peer body purpose ∷ steps) m =
      asked_leaves steps peer body purpose (requests_of before steps) m.0.there m.0.valid (asks_leave steps m.1) (asking_step (layer_after before steps) peer body purpose).0 refl
  asks_leave (wire.disowns peer label ∷ steps) m = asks_leave steps m.1
  asks_leave (wire.judges generation bytes ∷ steps) m = absurd m
  asks_leave (wire.answers p bytes rcode given ∷ steps) m = absurd m
  asks_leave (wire.lets_expire peer label ∷ steps) m = absurd m
  asks_leave (wire.sees generation node ∷ steps) m = absurd m

asking_leaves : (g : GenerationsState) (known : ℕ → Type 0) → ((id : ℕ) → known id → Found g id) → (before : Layer Purpose) (made : List (wire.Call Purpose)) → wire.after 0xffc0 made ≡ before → (now : Layer Purpose) (packets : List Outgoing) → IsAsking known before now packets → AllLeave g packets
asking_leaves g known reach before made e now packets a = subst (AllLeave g) a.packets_are (asks_leave g known reach before made e a.steps a.may)

-- ---- a response, and then asks
record Asks (p : Packet) : Type 0 where
  label : ℕ
  kind : Kind
  part : part_in p ≡ request label kind

asks_part : (bytes : List ℕ) (p : Packet) → IsRequestOf bytes p → Asks p
asks_part bytes p r = by_case (part_case p)
  where
    by_case : PartOf p → Asks p
    by_case (asks l k part none) = record { label = l; kind = k; part = part }
    by_case (replies l k part some) = absurd (let clash : false ≡ true = sym (ap (λ (o : Option ReplyKind). not (is_some o)) some) ∙ r.asks in cc)

answer_bytes : (layer : Layer Purpose) (p : Packet) (bytes : List ℕ) (rcode : ℕ) (given : List ℕ) → (answering_step layer p bytes rcode given).0 ≡ canon (response_to layer.node p rcode given)
unfolding answering_step
answer_bytes layer p bytes rcode given = refl

is_response : (node : ℕ) (p : Packet) (bytes : List ℕ) (rcode : ℕ) (given : List ℕ) → IsRequestOf bytes p → IsValid (response_to node p rcode given) → IsResponse (canon (response_to node p rcode given))
is_response node p bytes rcode given r v =
    let a = asks_part bytes p r in
    let answer = response_to node p rcode given in
    record {
      number = (header_in p).label;
      kind = a.kind;
      is = part_read (canon answer) answer (reading_spelled (canon answer) answer (canon_spells answer v)) ∙ (answer_packet node p rcode a.label a.kind given a.part).part;
    }

answering_leaves : (g : GenerationsState) (known : ℕ → Type 0) → ((id : ℕ) → known id → Found g id) → (reply : Reply) (p : Packet) (bytes : List ℕ) (before now : Layer Purpose) (packets : List Outgoing) (made : List (wire.Call Purpose)) → wire.after 0xffc0 made ≡ before → known (header_in p).source → IsRequestOf bytes p → IsAnswering known reply p bytes before now packets → AllLeave g packets
answering_leaves g known reach reply p bytes before now packets made e k r a =
    let middle = layer_after before a.left in
    let f = reach (header_in p).source k in
    let step : wire.Call Purpose = wire.answers p bytes a.rcode a.given in
    subst (AllLeave g) a.packets_are (
      record { to = f.to; there = f.there; part = subst IsResponse (sym (answer_bytes middle p bytes a.rcode a.given)) (is_response middle.node p bytes a.rcode a.given r a.valid) },
      asking_leaves g known reach (answering_step middle p bytes a.rcode a.given).1 (step ∷ (a.left ++ made)) (ap (wire.done step) (led_to before made e a.left)) now a.more a.asks,
    )

-- ---- in a run
module _ (units ready : ℕ) (has : 0 < units) (start : List Disk) {past : List Moment} {lines : ℕ} (w : WorldState) (h : Holding units ready start past lines w) where
  abbrev stands : Stands past w
  stands = h.sound.stands

  pub good : Good w.target
  good = good_of units ready h.calls w.target has h.made

  abbrev layer : Layer Purpose
  layer = w.target.layer

  abbrev K : ℕ → Type 0
  K = KnownTo w.generations.seen

  is_known : (id : ℕ) → K id → IsKnown w 0 id
  is_known id k = has_known (topology_at w.generations 0) (length w.initiators) id (stands.is.sizes 0 (omega arith)) k

  reach : (id : ℕ) → K id → Found w.generations id
  reach id k = let i = is_known id k in record { to = i.node; there = node_found w stands 0 (omega arith) id i }

  -- ---- a delivery
  module _ (serial : ℕ) (sent : Sent) (found : found_sent serial w.store.kept ≡ Some sent) where
    pub source_known : sent.generation ≡ layer.generation → (p : Packet) → reading sent.bytes ≡ Ok p → K (header_in p).source
    source_known current p read =
        let there : 0 ≤ length w.initiators = omega arith in
        let layer_is : layer.generation ≡ (topology_at w.generations 0).generation = sym (ap (λ (l : Node). l.generation) (stands.is.layers_are 0 there)) ∙ stands.is.sights 0 there in
        let own = ours w stands serial sent found in
        known_has (topology_at w.generations 0) (length w.initiators) (header_in p).source (stands.is.sizes 0 there) (record {
          node = sent.from;
          there = own.from;
          id_is = sym (known_id w stands sent.from own.from) ∙ ap (λ x. (terms (hist past w)).ids x sent.from) (target_generation w stands ∙ sym layer_is ∙ sym current) ∙ sym ((is_of w stands serial sent found).source p read);
        })

    abbrev judged : wire.Call Purpose
    judged = wire.judges sent.generation sent.bytes

    judged_is : wire.after 0xffc0 (judged ∷ good.mid.known.steps) ≡ (judging_step layer sent.generation sent.bytes).1
    judged_is = ap (wire.done judged) good.mid.known.layer_is

    found_leave : (f : Finding Purpose) (verdict : Judged) (now : Layer Purpose) (packets : List Outgoing) → IsFoundAs layer sent.generation sent.bytes f → IsDelivery K f verdict sent.bytes (judging_step layer sent.generation sent.bytes).1 now packets → AllLeave w.generations packets
    found_leave of_generation verdict now packets i d = subst (AllLeave w.generations) (sym d.packets_are) tt
    found_leave of_grammar verdict now packets i d = subst (AllLeave w.generations) (sym d.packets_are) tt
    found_leave of_label verdict now packets i d = subst (AllLeave w.generations) (sym d.packets_are) tt
    found_leave (of_response p label purpose) verdict now packets i d =
        asking_leaves w.generations K reach (judging_step layer sent.generation sent.bytes).1 (judged ∷ good.mid.known.steps) judged_is now packets d.asks
    found_leave (of_again p rcode) verdict now packets i d =
        answering_leaves w.generations K reach _ p sent.bytes (judging_step layer sent.generation sent.bytes).1 now packets (judged ∷ good.mid.known.steps) judged_is (source_known i.0.current p i.0.read) i.0.request d.answers
    found_leave (of_request p) verdict now packets i d =
        answering_leaves w.generations K reach _ p sent.bytes (judging_step layer sent.generation sent.bytes).1 now packets (judged ∷ good.mid.known.steps) judged_is (source_known i.current p i.read) i.request d.answers

    delivery_leaves : (told : Option Told) (media : Held) → BytesTold told → AllLeave w.generations (received told sent.generation sent.bytes (whole_of w.target media)).1.outbox.packets
    delivery_leaves told media t =
        let d = (fitting_law (target_has w.generations.seen) (target_has w.generations.seen)).deliveries told media.disks sent.generation sent.bytes w.target (known_small w.generations.seen) h.sound.nodes.target_holds
        (record { bytes_fit = (ours w stands serial sent found).bytes; source = source_known; told_fits = t }) in
        found_leave (judging_step layer sent.generation sent.bytes).0 _ _ _ (found_as layer sent.generation sent.bytes h.sound.nodes.target_holds.layer.filter) d.delivers

  -- ---- a time-out
  lapse_leaves : (peer : ℕ) (label : LabelParts) → AllLeave w.generations (alone (lets_expire peer label) w.target).outbox.packets
  lapse_leaves peer label =
      let e = (fitting_law (target_has w.generations.seen) (target_has w.generations.seen)).expiries peer label w.target (known_small w.generations.seen) h.sound.nodes.target_holds in
      by_result (expiring_step layer peer label).0 _ _ e.expires
    where
      expired_is : wire.after 0xffc0 (wire.lets_expire peer label ∷ good.mid.known.steps) ≡ (expiring_step layer peer label).1
      expired_is = ap (wire.done (wire.lets_expire peer label)) good.mid.known.layer_is

      by_result : (r : Result (Option Purpose) Stale) (now : Layer Purpose) (packets : List Outgoing) → IsExpiry K r (expiring_step layer peer label).1 now packets → AllLeave w.generations packets
      by_result (Ok purpose) now packets a = asking_leaves w.generations K reach (expiring_step layer peer label).1 (wire.lets_expire peer label ∷ good.mid.known.steps) expired_is now packets a
      by_result (Err stale) now packets a = subst (AllLeave w.generations) (sym a.1) tt

  pub packets_leave : PacketsLeave w
  packets_leave = record {
    deliveries = λ serial sent told media found to t. delivery_leaves serial sent found told media t;
    expiries = λ serial asked found zero_node. lapse_leaves asked.peer asked.label;
  }
