-- The target asks initiators alone, and no packet goes from it to itself.
use Rattle.sbp_world.proofs.Words.Std.{arith, ◌≡◌, ◌∙◌, refl, sym, ap, subst, ℕ, suc, ◌+◌, ◌-◌, ◌&&◌, ◌||◌, not, nat_eq, nat_lt, Bool, true, false, cond, List, [], ◌∷◌, ◌++◌, Option, Some, None, Result, Ok, Err, position, filter, nat_tests, position-Some, false≢true}
use Rattle.sbp_world.proofs.Words.Wire.{LabelParts, Packet, header_in, reading, AreAsks, IsAnswering, IsAsking, IsDelivery, IsExpiry, answered_by, layer_after, request_to, requests_of, with_asked, Reply, Asked, Stale, Finding, Layer, asking_step, of_again, of_generation, of_grammar, of_label, of_request, of_response, Kept, Sent, found, found_sent, is_flying, sent_of, with_delivered, without, by_bus_rule, deliver_step, newest, stays, with_sent, Topology, GenerationsState, id_of, is_at, node_in, node_of, one_of_five, topology_at, Judged, Outgoing, Side}
use Rattle.sbp_world.proofs.Words.Target.{Purpose}
use Rattle.sbp_world.proofs.Words.World.{marked, asked, posted, sent, sent_all, sent_to, told, told_all, WorldState}
use Rattle.bus_transactions.proofs.FitJudged.{IsFoundAs}
use Rattle.label_table.specs.History as wire
use Rattle.packet_store.specs.declared.transaction.Transaction.{Transaction}
use Rattle.packet_store.specs.Transactions.{begun_by}
use Rattle.sbp_journal.specs.declared.side.Side.TheVariants as sides
use Rattle.sbp_world.proofs.Wire.Alike.{sent_alike}
use Rattle.sbp_world.proofs.Wire.Found.{has_id}

-- ---- the ID of a node other than the target, as the target knows the nodes
abbrev pub is_peer : Topology → ℕ → Bool
is_peer topology id = has_id topology id && not (nat_eq (id_of topology 0) id)

abbrev pub Peer : Topology → ℕ → Type 0
Peer topology id = is_peer topology id ≡ true

peer_parts : (a b : Bool) → (a && not b) ≡ true → (a ≡ true) × (b ≡ false)
peer_parts true false e = (refl, refl)
peer_parts true true e = absurd (false≢true e)
peer_parts false b e = absurd (false≢true e)

pub peer_known : (topology : Topology) (id : ℕ) → Peer topology id → has_id topology id ≡ true
peer_known topology id p = (peer_parts (has_id topology id) (nat_eq (id_of topology 0) id) p).0

pub peer_other : (topology : Topology) (id : ℕ) → Peer topology id → id_of topology 0 ≡ id → ⊥
peer_other topology id p e =
    let other = (peer_parts (has_id topology id) (nat_eq (id_of topology 0) id) p).1 in
    let same : nat_eq (id_of topology 0) id ≡ true = grind (arith, nat_tests) in
    false≢true (sym other ∙ same)

pub peer_of : (topology : Topology) (id : ℕ) → has_id topology id ≡ true → (id_of topology 0 ≡ id → ⊥) → Peer topology id
peer_of topology id k d = by (nat_eq (id_of topology 0) id) refl
  where
    by : (b : Bool) → nat_eq (id_of topology 0) id ≡ b → (has_id topology id && not (nat_eq (id_of topology 0) id)) ≡ true
    by true e = absurd (d (grind (arith, nat_tests)))
    by false e = ap (λ (x : Bool). has_id topology id && not x) e ∙ ap (λ (x : Bool). x && true) k

-- ---- what a call hands out goes to nodes that it knows
abbrev pub AllTo : (ℕ → Type 0) → List Outgoing → Type 0
AllTo known [] = Unit {0}
AllTo known (packet ∷ packets) = known packet.to × AllTo known packets

to_more : (known : ℕ → Type 0) (packets : List Outgoing) (packet : Outgoing) → AllTo known packets → known packet.to → AllTo known (packets ++ packet ∷ [])
to_more known [] packet h k = (k, tt)
to_more known (first ∷ packets) packet h k = (h.0, to_more known packets packet h.1 k)

pub none_to : (known : ℕ → Type 0) (packets : List Outgoing) → packets ≡ [] → AllTo known packets
none_to known packets e = subst (AllTo known) (sym e) tt

module _ (known : ℕ → Type 0) where
  asked_to : (peer : ℕ) (r : Option Asked) (packets : List Outgoing) → known peer → AllTo known packets → AllTo known (with_asked peer r packets)
  asked_to peer None packets k h = h
  asked_to peer (Some asked) packets k h = to_more known packets (request_to peer asked) h k

  asks_to : (before : Layer Purpose) (steps : List (wire.Call Purpose)) → AreAsks known before steps → AllTo known (requests_of before steps)
  asks_to before [] m = tt
  asks_to before (wire.asks peer body purpose ∷ steps) m =
      asked_to peer (asking_step (layer_after before steps) peer body purpose).0 (requests_of before steps) m.0.there (asks_to before steps m.1)
  asks_to before (wire.disowns peer label ∷ steps) m = asks_to before steps m.1
  asks_to before (wire.judges generation bytes ∷ steps) m = absurd m
  asks_to before (wire.answers p bytes rcode given ∷ steps) m = absurd m
  asks_to before (wire.lets_expire peer label ∷ steps) m = absurd m
  asks_to before (wire.sees generation node ∷ steps) m = absurd m

  asking_to : (before now : Layer Purpose) (packets : List Outgoing) → IsAsking known before now packets → AllTo known packets
  asking_to before now packets a = subst (AllTo known) a.packets_are (asks_to before a.steps a.may)

  answering_to : (reply : Reply) (p : Packet) (bytes : List ℕ) (before now : Layer Purpose) (packets : List Outgoing) → known (header_in p).source → IsAnswering known reply p bytes before now packets → AllTo known packets
  answering_to reply p bytes before now packets k a =
      subst (AllTo known) a.packets_are (k, asking_to (answered_by (layer_after before a.left) p bytes a.rcode a.given).1 now a.more a.asks)

  pub delivery_to : (layer : Layer Purpose) (generation : ℕ) (bytes : List ℕ) → (generation ≡ layer.generation → (p : Packet) → reading bytes ≡ Ok p → known (header_in p).source) → (f : Finding Purpose) (verdict : Judged) (before now : Layer Purpose) (packets : List Outgoing) → IsFoundAs layer generation bytes f → IsDelivery known f verdict bytes before now packets → AllTo known packets
  delivery_to layer generation bytes source of_generation verdict before now packets i d = none_to known packets d.packets_are
  delivery_to layer generation bytes source of_grammar verdict before now packets i d = none_to known packets d.packets_are
  delivery_to layer generation bytes source of_label verdict before now packets i d = none_to known packets d.packets_are
  delivery_to layer generation bytes source (of_response p label purpose) verdict before now packets i d = asking_to before now packets d.asks
  delivery_to layer generation bytes source (of_again p rcode) verdict before now packets i d = answering_to _ p bytes before now packets (source i.0.current p i.0.read) d.answers
  delivery_to layer generation bytes source (of_request p) verdict before now packets i d = answering_to _ p bytes before now packets (source i.current p i.read) d.answers

  pub expiry_to : (r : Result (Option Purpose) Stale) (before now : Layer Purpose) (packets : List Outgoing) → IsExpiry known r before now packets → AllTo known packets
  expiry_to (Ok purpose) before now packets a = asking_to before now packets a
  expiry_to (Err stale) before now packets a = none_to known packets a.1

-- ---- packets that are kept
abbrev pub NoLoop : (from to : ℕ) → Type 0
NoLoop from to = from ≡ 0 → to ≡ 0 → ⊥

abbrev pub AreNoLoops : List Kept → Type 0
AreNoLoops [] = Unit {0}
AreNoLoops (k ∷ kept) = NoLoop k.sent.from k.sent.to × AreNoLoops kept

filtered : (test : Kept → Bool) (kept : List Kept) → AreNoLoops kept → AreNoLoops (filter test kept)
filtered test [] h = tt
filtered test (k ∷ kept) h = by (test k) (filtered test kept h.1)
  where
    by : (b : Bool) → AreNoLoops (filter test kept) → AreNoLoops (cond b (k ∷ filter test kept) (filter test kept))
    by true rest = (h.0, rest)
    by false rest = rest

kept_more : (kept : List Kept) (k : Kept) → AreNoLoops kept → NoLoop k.sent.from k.sent.to → AreNoLoops (kept ++ k ∷ [])
kept_more [] k h n = (n, tt)
kept_more (first ∷ kept) k h n = (h.0, kept_more kept k h.1 n)

ruled : (t : Option Transaction) (last : ℕ) (kept : List Kept) → AreNoLoops kept → AreNoLoops (by_bus_rule t last kept)
ruled None last kept h = h
ruled (Some t) last kept h = filtered _ kept h

sent_kept : (q : Sent) (last : ℕ) (kept : List Kept) → NoLoop q.from q.to → AreNoLoops kept → AreNoLoops (with_sent q last kept)
sent_kept q last kept n h = filtered (stays (last - 1024)) _ (ruled (begun_by q) last (kept ++ newest last q ∷ []) (kept_more kept (newest last q) h n))

with_delivered_kept : (serial : ℕ) (kept : List Kept) → AreNoLoops kept → AreNoLoops (with_delivered serial kept)
with_delivered_kept serial [] h = tt
with_delivered_kept serial (k ∷ kept) h = (by (nat_eq serial k.serial), with_delivered_kept serial kept h.1)
  where
    by : (b : Bool) → (let x = cond b (record k { in_flight = false }) k in NoLoop x.sent.from x.sent.to)
    by true = h.0
    by false = h.0

pub found_leaves : (serial : ℕ) (kept : List Kept) (q : Sent) → AreNoLoops kept → found_sent serial kept ≡ Some q → NoLoop q.from q.to
found_leaves serial [] q h e = absurd (let x : None ≡ Some q = e in cc)
found_leaves serial (k ∷ kept) q h e = by (nat_eq serial k.serial) e (λ f. found_leaves serial kept q h.1 f)
  where
    by : (b : Bool) → sent_of (cond b (Some k) (found serial kept)) ≡ Some q → (found_sent serial kept ≡ Some q → NoLoop q.from q.to) → NoLoop q.from q.to
    by true f rest = let same : k.sent ≡ q = cc in subst (λ (y : Sent). NoLoop y.from y.to) same h.0
    by false f rest = rest f

-- ---- what leaves nodes
sent_there : (from to : ℕ) (peer : ℕ) (label : Option LabelParts) (bytes : List ℕ) (w : WorldState) → NoLoop from to → AreNoLoops w.store.kept → AreNoLoops (asked (w.store.last + 1) to from peer label (posted from to false bytes w)).store.kept
unfolding posted
sent_there from to peer None bytes w n h = sent_kept _ (w.store.last + 1) w.store.kept n h
sent_there from to peer (Some label) bytes w n h = sent_kept _ (w.store.last + 1) w.store.kept n h

sent_on : (to : Option ℕ) (from : ℕ) (packet : Outgoing) (w : WorldState) → ((node : ℕ) → to ≡ Some node → NoLoop from node) → AreNoLoops w.store.kept → AreNoLoops (sent_to to from packet w).store.kept
sent_on None from packet w n h = h
sent_on (Some to) from packet w n h = sent_there from to packet.to packet.label packet.bytes w (n to refl) h

pub injects_on : (from to : ℕ) (bytes : List ℕ) (w : WorldState) → NoLoop from to → AreNoLoops w.store.kept → AreNoLoops (posted from to true bytes w).store.kept
unfolding posted
injects_on from to bytes w n h = sent_kept _ (w.store.last + 1) w.store.kept n h

not_zero : (i to : ℕ) → NoLoop (suc i) to
not_zero i to e f = absurd (let x : suc i ≡ 0 = e in omega (arith, x))

pub own_sent : (i : ℕ) (packets : List Outgoing) (w : WorldState) → AreNoLoops w.store.kept → AreNoLoops (sent_all (suc i) packets w).store.kept
unfolding sent_all sent
own_sent i [] w h = h
own_sent i (packet ∷ later) w h =
    own_sent i later (sent (suc i) packet w) (sent_on (node_of w.generations (suc i) packet.to) (suc i) packet w (λ node e. not_zero i node) h)

-- a peer is another node
within_five : (found : Option ℕ) → one_of_five found ≡ Some 0 → found ≡ Some 0
within_five None e = absurd (let x : None ≡ Some 0 = e in cc)
within_five (Some node) e = by (nat_lt node 5) e
  where
    by : (b : Bool) → cond b (Some node) None ≡ Some 0 → Some node ≡ Some 0
    by true f = f
    by false f = absurd (let x : None ≡ Some 0 = f in cc)

at_zero : (topology : Topology) (id : ℕ) → position (is_at id) topology.ids ≡ Some 0 → id_of topology 0 ≡ id
at_zero topology id e = let p = position-Some (is_at id) topology.ids 0 0 e in let q = p.1 in grind (arith, nat_tests)

goes_out : (topology : Topology) (id : ℕ) → Peer topology id → (node : ℕ) → node_in topology id ≡ Some node → NoLoop 0 node
goes_out topology id p node e f g = peer_other topology id p (at_zero topology id (within_five (position (is_at id) topology.ids) (e ∙ ap Some g)))

sent_generations : (from : ℕ) (packet : Outgoing) (w : WorldState) → (sent from packet w).generations ≡ w.generations
sent_generations from packet w = (sent_alike from packet w).generations

pub target_sent : (packets : List Outgoing) (w : WorldState) → AllTo (Peer (topology_at w.generations 0)) packets → AreNoLoops w.store.kept → AreNoLoops (sent_all 0 packets w).store.kept
unfolding sent_all sent
target_sent [] w t h = h
target_sent (packet ∷ later) w t h =
    target_sent later (sent 0 packet w) (subst (λ (g : GenerationsState). AllTo (Peer (topology_at g 0)) later) (sym (sent_generations 0 packet w)) t.1)
    (sent_on (node_of w.generations 0 packet.to) 0 packet w (λ node e. goes_out (topology_at w.generations 0) packet.to t.0 node e) h)

-- ---- what is told sends nothing, and what is sent leaves the places
told_store : (weight : ℕ) (side : Side) (w : WorldState) → (told weight side w).store ≡ w.store
unfolding told
told_store weight (sides.Own note) w = refl
told_store weight (sides.Opened place orb) w = refl
told_store weight (sides.Ran place orb cdb payload outcome) w = refl
told_store weight (sides.Ended place orb status) w = refl
told_store weight (sides.Dead place cause) w = refl
told_store weight (sides.Cut place cause) w = refl
told_store weight (sides.Managed node function subject status login) w = refl
told_store weight (sides.ManageFailed node cause) w = refl
told_store weight (sides.Held login) w = refl
told_store weight (sides.Expired login) w = refl
told_store weight (sides.Back login) w = refl
told_store weight (sides.Left login) w = refl
told_store weight (sides.Cleared unit) w = refl
told_store weight (sides.Unsolicited place) w = refl
told_store weight (sides.Unsent place) w = refl

pub all_told_store : (weight : ℕ) (later : List Side) (w : WorldState) → (told_all weight later w).store ≡ w.store
unfolding told_all
all_told_store weight [] w = refl
all_told_store weight (side ∷ later) w = all_told_store weight later (told weight side w) ∙ told_store weight side w

asked_places : (serial to from peer : ℕ) (label : Option LabelParts) (w : WorldState) → (asked serial to from peer label w).places ≡ w.places
asked_places serial to from peer None w = refl
asked_places serial to from peer (Some label) w = refl

sent_places : (to : Option ℕ) (from : ℕ) (packet : Outgoing) (w : WorldState) → (sent_to to from packet w).places ≡ w.places
unfolding posted
sent_places None from packet w = refl
sent_places (Some to) from packet w = asked_places (w.store.last + 1) to from packet.to packet.label (posted from to false packet.bytes w)

pub all_sent_places : (from : ℕ) (packets : List Outgoing) (w : WorldState) → (sent_all from packets w).places ≡ w.places
unfolding sent_all sent
all_sent_places from [] w = refl
all_sent_places from (packet ∷ later) w = all_sent_places from later (sent from packet w) ∙ sent_places (node_of w.generations from packet.to) from packet w

-- ---- a packet is delivered or lost
delivered_kept : (aged serial : ℕ) (kept : List Kept) → AreNoLoops kept → AreNoLoops (cond (nat_lt aged serial) (with_delivered serial kept) (without serial kept))
delivered_kept aged serial kept h = by (nat_lt aged serial)
  where
    by : (b : Bool) → AreNoLoops (cond b (with_delivered serial kept) (without serial kept))
    by true = with_delivered_kept serial kept h
    by false = filtered _ kept h

pub marked_kept : (serial : ℕ) (again : Bool) (w : WorldState) → AreNoLoops w.store.kept → AreNoLoops (marked serial again w).store.kept
marked_kept serial again w h = by (again || not (is_flying serial w.store.kept))
  where
    by : (b : Bool) → AreNoLoops (cond b w (record w { store = deliver_step w.store serial })).store.kept
    by true = h
    by false = delivered_kept (w.store.last - 1024) serial w.store.kept h

pub lost_kept : (serial : ℕ) (kept : List Kept) → AreNoLoops kept → AreNoLoops (without serial kept)
lost_kept serial kept h = filtered _ kept h
