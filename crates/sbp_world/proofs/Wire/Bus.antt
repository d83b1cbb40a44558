-- The lines of the bus: a packet is lost, the bus is reset, bytes are injected.
use Rattle.sbp_world.proofs.Words.Std.{if◌then◌else◌, position, slice_index_or, All, arith, sym, ◌∙◌, ap, subst, get_or_default_zero, position-Some, upd}
use Rattle.sbp_world.proofs.Words.Wire.{header_of, is_flying, Stored, lose_step, send_step, is_plain, lose, reset, inject, Reached, Wire, as_sent, id_for, outgoing, RequestsState, Moment, asked, said, Transaction, Sending, begun_by, Terms, Owed, terms, ids_of, noted, begins, gives, pays, sends, asked_in, id_of, node_in, one_of_five, is_at, node_of, topology_at, Topology, destination_in, source_in, no_node, no_packet, other_node}
use Rattle.sbp_world.proofs.Words.World.{reset_line, inject_line, injected, injected_to, lose_line, lost, refused, posted, WorldState, without_notes, HasIds, Knows, Stands}
use Rattle.std.specs.Prelude.{◌≡◌, ◌≤◌, ◌<◌, ℕ, suc, ◌+◌, ◌%◌, ◌&&◌, not, nat_eq, nat_lt, Bool, true, false, cond, List, ◌∷◌, ◌++◌, length, map, Option, Some, None, refl}
use Rattle.bus_transactions.proofs.All.{all_stand}
use Rattle.bus_transactions.proofs.Facts.{injected_begun}
use Rattle.bus_transactions.proofs.FactsReset.{ids_before}
use Rattle.bus_transactions.proofs.Follows.{last_is}
use Rattle.orb_layout.proofs.Spelled.{small_anywhere}
use Rattle.bus_transactions.proofs.Stands.{Stands as Holds}
use Rattle.sbp_journal.specs.declared.event.Event.TheVariants as events
use Rattle.sbp_journal.specs.declared.note.Note.TheVariants as notes
use Rattle.sbp_world.proofs.Wire.Agrees.{reset_knows, sends_agrees, sent_knows}
use Rattle.sbp_world.proofs.Wire.Latest.{other_knows}
use Rattle.sbp_world.proofs.Wire.Tells.{leads, tells}
use Rattle.sbp_world.proofs.Wire.Entered.{entered_before, entered_by}

-- what holds of every wire that is reached
pub holds : (wire : Wire) → Reached wire → Holds wire
holds wire r = subst Holds (sym r.is) (all_stand r.moves r.may)

-- no node is in a later generation than the bus
pub aged : (wire : Wire) (node : ℕ) → Reached wire → (wire.layer node).generation ≤ (terms wire.past).bus
aged wire node r =
    let h = holds wire r in
    subst (λ g. g ≤ (terms wire.past).bus) (sym (h.nodes node).generation) (h.facts.aged node)

pub refuses : (past : List Moment) (w : WorldState) (line number : ℕ) → Stands past w → Stands past (refused line number w)
unfolding is_plain
refuses past w line number h = tells past w (notes.Refused line number) refl h

-- ---- a packet is lost
loses_by : (past : List Moment) (w : WorldState) (line serial : ℕ) (flies : Bool) → is_flying serial w.store.kept ≡ flies → Stands past w → Stands past (if flies then lost serial w else refused line no_packet w)
loses_by past w line serial false e h = refuses past w line no_packet h
loses_by past w line serial true e h = leads w (lost serial w) h (lose serial) (record { free = h.is.due_is; flies = ap (λ (st : Stored). is_flying serial st.kept) h.is.store_is ∙ e }) (record {
  store_is = ap (λ (st : Stored). lose_step st serial) h.is.store_is;
  bus_is = h.is.bus_is;
  ids_are = h.is.ids_are;
  layers_are = h.is.layers_are;
  due_is = h.is.due_is;
  past_is = ap (λ ms. said (notes.Lost serial) ∷ ms) h.is.past_is;
  few = h.is.few;
  seen = h.is.seen;
  size = h.is.size;
  sizes = h.is.sizes;
  sights = h.is.sights;
  known_ids = h.is.known_ids;
  knows = h.is.knows;
  entered = h.is.entered;
  fair = h.is.fair;
})

pub loses : (past : List Moment) (w : WorldState) (line serial : ℕ) → Stands past w → Stands past (lose_line line serial w)
unfolding lose_line
loses past w line serial h = loses_by past w line serial (is_flying serial w.store.kept) refl h

-- ---- the bus is reset
small_rest : (n : ℕ) → n ≤ 62 → n % 64 ≡ n
small_rest n l = grind arith

id_is : (physical : List ℕ) (generation node : ℕ) → node < length physical → slice_index_or physical node 0 ≤ 62 → ids_of physical node ≡ id_of (record { generation = generation; ids = physical }) node
id_is physical generation node l small =
    ap (λ n. 65472 + n) (get_or_default_zero physical node (63 + node) l ∙ sym (small_rest (slice_index_or physical node 0) small))

pub resets : (past : List Moment) (w : WorldState) (line : ℕ) (physical : List ℕ) → HasIds physical (suc (length w.initiators)) → Stands past w → Stands (asked line (events.Reset physical) ∷ (map said w.fresh ++ past)) (reset_line physical (without_notes w))
unfolding reset_line
resets past w line physical ids h =
    let n = ids.count in
    let t : Terms = terms h.wire.past in
    let all = holds h.wire h.reached in
    leads w (reset_line physical (without_notes w)) h (reset line physical) (record { free = h.is.due_is; small = ids.small; apart = ids.apart }) (record {
      store_is = h.is.store_is;
      bus_is = ap (λ g. g + 1) h.is.bus_is;
      ids_are = λ node l.
          let k : node < length physical = omega arith in
          id_is physical (w.generations.latest.generation + 1) node k (ids.small node k);
      layers_are = h.is.layers_are;
      due_is = h.is.due_is;
      past_is = ap (λ g. said (notes.Reset (g + 1)) ∷ asked line (events.Reset physical) ∷ h.wire.past) h.is.bus_is
          ∙ ap (λ ms. said (notes.Reset (w.generations.latest.generation + 1)) ∷ asked line (events.Reset physical) ∷ ms) h.is.past_is;
      few = h.is.few;
      seen = h.is.seen;
      size = n;
      sizes = h.is.sizes;
      sights = h.is.sights;
      known_ids = λ node peer l m.
          let g = (topology_at w.generations node).generation in
          let a : g ≤ t.bus = subst (λ x. x ≤ t.bus) (h.is.sights node l) (aged h.wire node h.reached) in
          ap (λ (ids : ℕ → ℕ). ids peer) (ids_before all.facts (ids_of physical) g a) ∙ h.is.known_ids node peer l m;
      knows = let b = all.bus_is in reset_knows t _ (h.wire.bus + 1) (omega arith) (ids_before all.facts (ids_of physical)) h.is.knows;
      entered = entered_before h.wire.layer (λ node l. ids_before all.facts (ids_of physical) (h.wire.layer node).generation (aged h.wire node h.reached)) h.is.entered;
      fair = h.is.fair;
    })

-- ---- bytes are injected
pub gives_ids : (begun : Option Transaction) (rcode : ℕ) (t : Terms) → (gives begun rcode t).ids ≡ t.ids
gives_ids None rcode t = refl
gives_ids (Some u) rcode t = refl

pub pays_ids : (owed : Option Owed) (sent : ℕ → Option Sending) (s : ℕ) (q : Sending) (t : Terms) → (pays owed sent s q t).ids ≡ t.ids
pays_ids None sent s q t = refl
pays_ids (Some owed) sent s q t = gives_ids (asked_in (sent owed.serial)) _ t

pub begins_ids : (begun : Option Transaction) (s : ℕ) (q : Sending) (t : Terms) → (begins begun s q t).ids ≡ t.ids
begins_ids None s q t = refl
begins_ids (Some u) s q t = refl

pub sends_ids : (s : ℕ) (q : Sending) (t : Terms) → (sends s q t).ids ≡ t.ids
sends_ids s q t = pays_ids t.owes t.sent s q _ ∙ begins_ids (begun_by q) s q _

pub sent_ids : (s generation from to : ℕ) (bytes : List ℕ) (t : Terms) → (noted (notes.Sent s generation from to bytes) t).ids ≡ t.ids
sent_ids s generation from to bytes t =
    sends_ids s (record { generation = generation; from = from; to = to; bytes = bytes; injected = t.injected s }) t

-- the world's store, generation of the sender and history, as the wire has them
sent_past : (from to : ℕ) (bytes : List ℕ) → Stored → (generation : ℕ) → List Moment → List Moment
sent_past from to bytes store generation past = said (notes.Sent (store.last + 1) generation from to bytes) ∷ said (notes.Injected (store.last + 1)) ∷ past

-- both nodes are there, and the bytes have their IDs, as the sender knows them
record Injects (w : WorldState) (from to : ℕ) (bytes : List ℕ) : Type 0 where
  other : nat_eq 0 from ≡ false
  from_there : from ≤ length w.initiators
  to_there : to ≤ length w.initiators
  source : (header_of bytes).source ≡ id_of (topology_at w.generations from) from
  destination : (header_of bytes).destination ≡ id_of (topology_at w.generations from) to

-- the packet is no request of a node's own
injected_knows : {requests : RequestsState} {nodes : ℕ} → (wire : Wire) → Reached wire → (from to : ℕ) (bytes : List ℕ) → from ≤ nodes → to ≤ nodes → All (λ byte. byte < 256) bytes → Knows requests nodes (terms wire.past) → Knows requests nodes (terms (sent_past from to bytes wire.store (wire.layer from).generation wire.past))
unfolding sent_past
injected_knows wire r from to bytes there to_there fit k =
    let s = wire.store.last + 1 in
    let t : Terms = terms (said (notes.Injected s) ∷ wire.past) in
    let marks : t.injected s ≡ true = ap (λ b. cond b true ((terms wire.past).injected s)) (let e : nat_eq s s ≡ true = grind arith in e) in
    let q : Sending = record { generation = (wire.layer from).generation; from = from; to = to; bytes = bytes; injected = t.injected s } in
    sent_knows s q t None (injected_begun q marks) (ap (λ x. x + 1) (last_is (holds wire r).follows)) (other_knows k q (record { from = there; to = to_there; bytes = small_anywhere bytes fit }))

-- an injected packet is not the target's
injected_fair : (wire : Wire) (from to : ℕ) (bytes : List ℕ) → nat_eq 0 from ≡ false → (terms wire.past).injects 0 ≡ false → (terms (sent_past from to bytes wire.store (wire.layer from).generation wire.past)).injects 0 ≡ false
unfolding sent_past
injected_fair wire from to bytes n e =
    let s = wire.store.last + 1 in
    let t : Terms = terms (said (notes.Injected s) ∷ wire.past) in
    let q : Sending = record { generation = (wire.layer from).generation; from = from; to = to; bytes = bytes; injected = t.injected s } in
    ap (λ (f : ℕ → Bool). f 0) (sends_agrees s q t).injects ∙ by_test (t.injected s) ∙ e
  where
    by_test : (b : Bool) → (if b then upd (terms wire.past).injects from true else (terms wire.past).injects) 0 ≡ (terms wire.past).injects 0
    by_test true = ap (λ x. cond x true ((terms wire.past).injects 0)) n
    by_test false = refl

injects_to : (past : List Moment) (w : WorldState) (from to : ℕ) (bytes : List ℕ) → All (λ byte. byte < 256) bytes → Injects w from to bytes → Stands past w → Stands past (posted from to true bytes w)
unfolding posted sent_past
injects_to past w from to bytes fit i h =
    let few = h.is.few in
    let a = i.from_there in
    let b = i.to_there in
    let g = h.is.sights from a in
    let world_generation = (topology_at w.generations from).generation in
    let as_known : (peer : ℕ) → peer ≤ length w.initiators → id_for h.wire from peer ≡ id_of (topology_at w.generations from) peer =
    λ peer l. ap (λ x. (terms h.wire.past).ids x peer) g ∙ h.is.known_ids from peer a l in
    leads w (posted from to true bytes w) h (inject from to bytes) (record {
      free = h.is.due_is;
      node_small = omega arith;
      peer_small = omega arith;
      bytes_fit = fit;
      source = i.source ∙ sym (as_known from a);
      destination = i.destination ∙ sym (as_known to b);
    }) (record {
      store_is = ap (λ (st : Stored). send_step st (as_sent (outgoing h.wire from to bytes true))) h.is.store_is
          ∙ ap (λ x. send_step w.store (record { generation = x; from = from; to = to; bytes = bytes; injected = true })) g;
      bus_is = h.is.bus_is;
      ids_are = h.is.ids_are;
      layers_are = h.is.layers_are;
      due_is = h.is.due_is;
      past_is = ap (λ (st : Stored). sent_past from to bytes st (h.wire.layer from).generation h.wire.past) h.is.store_is
          ∙ ap (λ x. sent_past from to bytes w.store x h.wire.past) g
          ∙ ap (λ ms. sent_past from to bytes w.store world_generation ms) h.is.past_is;
      few = h.is.few;
      seen = h.is.seen;
      size = h.is.size;
      sizes = h.is.sizes;
      sights = h.is.sights;
      known_ids = λ node peer l m.
          ap (λ (ids : ℕ → ℕ → ℕ). ids (topology_at w.generations node).generation peer)
          (sent_ids (h.wire.store.last + 1) (h.wire.layer from).generation from to bytes (terms (said (notes.Injected (h.wire.store.last + 1)) ∷ h.wire.past)))
          ∙ h.is.known_ids node peer l m;
      knows = injected_knows h.wire h.reached from to bytes a b fit h.is.knows;
      entered = entered_by (sym (sent_ids (h.wire.store.last + 1) (h.wire.layer from).generation from to bytes (terms (said (notes.Injected (h.wire.store.last + 1)) ∷ h.wire.past)))) h.is.entered;
      fair = injected_fair h.wire from to bytes i.other h.is.fair;
    })

-- who has an ID
pub record Has (topology : Topology) (id node : ℕ) : Type 0 where
  pub there : node < length topology.ids
  pub id_is : id_of topology node ≡ id

five_is : (found : Option ℕ) (node : ℕ) → one_of_five found ≡ Some node → found ≡ Some node
five_is None node e = cc
five_is (Some other) node e = by_test (nat_lt other 5) refl e
  where
    by_test : (b : Bool) → nat_lt other 5 ≡ b → (if b then Some other else None) ≡ Some node → Some other ≡ Some node
    by_test true f e = e
    by_test false f e = cc

pub node_has : (topology : Topology) (id node : ℕ) → node_in topology id ≡ Some node → Has topology id node
node_has topology id node e =
    let p = position-Some (is_at id) topology.ids node 0 (five_is (position (is_at id) topology.ids) node e) in
    record { there = p.0; id_is = let x = p.1 in grind arith }

-- what `other_node` says
record Others (from : ℕ) (to sender : Option ℕ) (node : ℕ) : Type 0 where
  to_is : to ≡ Some node
  sender_is : sender ≡ Some from

others : (from : ℕ) (to sender : Option ℕ) (node : ℕ) → other_node from to sender ≡ Some node → Others from to sender node
others from None sender node e = cc
others from (Some to) None node e = cc
others from (Some to) (Some sender) node e = by_test (nat_eq sender from) (not (nat_eq to from)) refl e
  where
    by_test : (a b : Bool) → nat_eq sender from ≡ a → (if a && b then Some to else None) ≡ Some node → Others from (Some to) (Some sender) node
    by_test true true f e = record { to_is = e; sender_is = let x : sender ≡ from = grind arith in ap Some x }
    by_test true false f e = cc
    by_test false b f e = cc

injects_from : (w : WorldState) (past : List Moment) (from to : ℕ) (bytes : List ℕ) → nat_eq 0 from ≡ false → from ≤ length w.initiators → Stands past w → other_node from (node_of w.generations from (destination_in bytes)) (node_of w.generations from (source_in bytes)) ≡ Some to → Injects w from to bytes
unfolding header_of
injects_from w past from to bytes n l h e =
    let o = others from _ _ to e in
    let a = node_has (topology_at w.generations from) (destination_in bytes) to o.to_is in
    let b = node_has (topology_at w.generations from) (source_in bytes) from o.sender_is in
    let size = h.is.sizes from l in
    let there = a.there in
    record { other = n; from_there = l; to_there = omega arith; source = sym b.id_is; destination = sym a.id_is }

injected_by : (past : List Moment) (w : WorldState) (line from : ℕ) (bytes : List ℕ) (to : Option ℕ) → All (λ byte. byte < 256) bytes → ((node : ℕ) → to ≡ Some node → Injects w from node bytes) → Stands past w → Stands past (injected to line from bytes w)
injected_by past w line from bytes None fit i h = refuses past w line no_node h
injected_by past w line from bytes (Some to) fit i h = injects_to past w from to bytes fit (i to refl) h

injected_if : (past : List Moment) (w : WorldState) (from : ℕ) (bytes : List ℕ) (short : Bool) (to : Option ℕ) → nat_eq 0 from ≡ false → from ≤ length w.initiators → Stands past w → (if short then None else to) ≡ (if short then None else other_node from (node_of w.generations from (destination_in bytes)) (node_of w.generations from (source_in bytes))) → (node : ℕ) → (if short then None else to) ≡ Some node → Injects w from node bytes
injected_if past w from bytes true to n l h e node f = cc
injected_if past w from bytes false to n l h e node f = injects_from w past from node bytes n l h (sym e ∙ f)

not_zero_node : (i : ℕ) → nat_eq 0 (i + 1) ≡ false
not_zero_node i = grind arith

pub injects : (past : List Moment) (w : WorldState) (line initiator : ℕ) (bytes : List ℕ) → initiator < length w.initiators → All (λ byte. byte < 256) bytes → Stands past w → Stands past (inject_line line initiator bytes w)
unfolding inject_line injected_to
injects past w line initiator bytes l fit h =
    injected_by past w line (initiator + 1) bytes (injected_to (initiator + 1) bytes w) fit (injected_if past w (initiator + 1) bytes (nat_lt (length bytes) 8) _ (not_zero_node initiator) (omega arith) h refl) h
