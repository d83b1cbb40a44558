-- The world at the start, and what the laws of the wire say of a history.
use Rattle.sbp_world.proofs.Words.Std.{position, slice_index_or, arith, sym, ◌∙◌, ap, subst, get_or_append_left, get_or-replicate, length-replicate, get_or-append_seam}
use Rattle.sbp_world.proofs.Words.Wire.{new_layer, bare, is_plain, start, tell, moved, OnceLaw, PacketLaw, AnswerLaw, JudgementLaw, SentLaw, Reached, Wire, no_wire, Moment, asked, said, local_id, Topology, first_ids, first_topology, id_of, local_node, no_topology, Request, new_requests, request_at, Place}
use Rattle.sbp_world.proofs.Words.Initiator.{InitiatorState, new_state}
use Rattle.sbp_world.proofs.Words.World.{WorldState, new_initiators, new_world, notes_begin, IsOfWire, Stands, layer_in}
use Rattle.std.specs.Prelude.{◌≡◌, ◌≤◌, ◌<◌, ℕ, zero, suc, ◌+◌, ◌%◌, nat_eq, Bool, true, false, List, [], ◌∷◌, ◌++◌, length, replicate, Option, Some, None, refl, map}
use Rattle.bus_transactions.proofs.AnswerLaws.{answers_always}
use Rattle.bus_transactions.proofs.JudgementLaws.{judged_always}
use Rattle.bus_transactions.proofs.PacketLaws.{once_always, packets_always}
use Rattle.bus_transactions.proofs.SentLaws.{sent_always}
use Rattle.bus_transactions.proofs.Reaches.{goes_on, law_of}
use Rattle.sbp_journal.specs.declared.event.Event.TheVariants as events
use Rattle.sbp_bus.proofs.Making.{ids_size}
use Rattle.sbp_world.proofs.Making.{initiators_size}
use Rattle.bus_transactions.proofs.Places.{new_looked}
use Rattle.label_table.proofs.Sources.{default_in}
use Rattle.label_table.specs.declared.place.LabelState.TheVariants as states
use Rattle.sbp_world.proofs.Wire.Entered.{not_free}

-- one more behind a list
last_at : {A : Type 0} (xs : List A) (y d : A) (k : ℕ) → k ≡ length xs → slice_index_or (xs ++ y ∷ []) k d ≡ y
last_at xs y d k e = ap (λ i. slice_index_or (xs ++ y ∷ []) i d) e ∙ get_or-append_seam xs y [] d

ids_at : (n k : ℕ) → k < n → slice_index_or (first_ids n) k 0 ≡ k
unfolding first_ids
ids_at zero k l = absurd (omega arith)
ids_at (suc n) k l = by_test (nat_eq k n) refl (λ m. ids_at n k m)
  where
    by_test : (b : Bool) → nat_eq k n ≡ b → (k < n → slice_index_or (first_ids n) k 0 ≡ k) → slice_index_or (first_ids n ++ n ∷ []) k 0 ≡ k
    by_test true e before = let s = ids_size n in last_at (first_ids n) n 0 k (grind arith) ∙ grind arith
    by_test false e before =
        let s = ids_size n in
        let m : k < n = grind arith in
        get_or_append_left (first_ids n) (n ∷ []) 0 k (omega arith) ∙ before m

pub states_at : (n k : ℕ) (ready : Bool) (d : InitiatorState) → k < n → slice_index_or (new_initiators n ready) k d ≡ new_state k ready
unfolding new_initiators
states_at zero k ready d l = absurd (omega arith)
states_at (suc n) k ready d l = by_test (nat_eq k n) refl (λ m. states_at n k ready d m)
  where
    by_test : (b : Bool) → nat_eq k n ≡ b → (k < n → slice_index_or (new_initiators n ready) k d ≡ new_state k ready) → slice_index_or (new_initiators n ready ++ new_state n ready ∷ []) k d ≡ new_state k ready
    by_test true e before =
        let s = initiators_size n ready in
        let same : n ≡ k = grind arith in
        last_at (new_initiators n ready) (new_state n ready) d k (grind arith) ∙ ap (λ i. new_state i ready) same
    by_test false e before =
        let s = initiators_size n ready in
        let m : k < n = grind arith in
        get_or_append_left (new_initiators n ready) (new_state n ready ∷ []) d k (omega arith) ∙ before m

few_rest : (n : ℕ) → n ≤ 4 → n % 64 ≡ n
few_rest n l = grind arith

pub first_id : (nodes k : ℕ) → k < nodes → k ≤ 4 → local_id k ≡ id_of (first_topology nodes) k
first_id nodes k l small = ap (λ x. 65472 + x) (sym (few_rest k small)) ∙ ap (λ x. local_node x) (sym (ids_at nodes k l))

state_layer : (i : ℕ) (ready : Bool) → new_layer (local_id (suc i)) ≡ bare (new_state i ready).layer
unfolding new_state
state_layer i ready = ap (λ x. new_layer x) (let e : 65472 + suc i ≡ 65473 + i = omega arith in e)

first_layer : (n : ℕ) (ready : Bool) (k : ℕ) → k ≤ n → new_layer (local_id k) ≡ layer_in (new_layer 0xffc0) (new_initiators n ready) k
first_layer n ready zero l = refl
first_layer n ready (suc i) l =
    state_layer i ready ∙ ap (λ (s : InitiatorState). bare s.layer) (sym (states_at n i ready (new_state 0 false) (omega arith)))

started : (line initiators : ℕ) (ready : Bool) → Wire
started line initiators ready = moved (tell (notes_begin initiators ready)) (moved (start line (events.Begin initiators ready)) no_wire)

started_reached : (line initiators : ℕ) (ready : Bool) → Reached (started line initiators ready)
unfolding started is_plain
started_reached line initiators ready =
    goes_on.more (moved (start line (events.Begin initiators ready)) no_wire) (tell (notes_begin initiators ready))
    (goes_on.more no_wire (start line (events.Begin initiators ready)) goes_on.begins (record { free = refl; other = refl })) refl

first_below : (count place : ℕ) → slice_index_or {A = ℕ} (replicate 1600 0) place 0 ≤ count
first_below count place = let z : slice_index_or {A = ℕ} (replicate 1600 0) place 0 ≡ 0 = default_in 1600 place 0 in omega (arith, z)

first_apart : (one two : ℕ) → 0 < slice_index_or {A = ℕ} (replicate 1600 0) one 0 → slice_index_or {A = ℕ} (replicate 1600 0) one 0 ≡ slice_index_or {A = ℕ} (replicate 1600 0) two 0 → one ≡ two
first_apart one two l e = let z : slice_index_or {A = ℕ} (replicate 1600 0) one 0 ≡ 0 = default_in 1600 one 0 in absurd (omega (arith, z, l))

first_blank : (place : ℕ) → slice_index_or {A = Option Request} (replicate 1600 None) place None ≡ None
first_blank place = default_in {A = Option Request} 1600 place None

first_lacks : (o : Option ℕ) (request : Request) → request_at new_requests o ≡ Some request → ⊥
first_lacks None request e = cc
first_lacks (Some place) request e = let z = first_blank place in cc

pub begins : (line initiators : ℕ) (ready : Bool) (units : ℕ) → initiators ≤ 4 → Stands (asked line (events.Begin initiators ready) ∷ []) (new_world initiators ready units)
unfolding new_world started
begins line initiators ready units few =
    let n = initiators_size initiators ready in
    let nodes = initiators + 1 in
    let topology = first_topology nodes in
    let known : (k : ℕ) → k ≤ length (new_initiators initiators ready) → slice_index_or (replicate nodes topology) k no_topology ≡ topology = λ k l. get_or-replicate nodes k topology no_topology (omega arith) in
    let ids : (k : ℕ) → k ≤ length (new_initiators initiators ready) → local_id k ≡ id_of topology k = λ k l. first_id nodes k (omega arith) (omega arith) in
    record {
      wire = started line initiators ready;
      reached = started_reached line initiators ready;
      is = record {
        store_is = refl;
        bus_is = refl;
        ids_are = ids;
        layers_are = λ k l. first_layer initiators ready k (omega arith);
        due_is = refl;
        past_is = refl;
        few = omega arith;
        seen = length-replicate nodes topology ∙ omega arith;
        size = ids_size nodes ∙ omega arith;
        sizes = λ k l. ap (λ (t : Topology). length t.ids) (known k l) ∙ ids_size nodes ∙ omega arith;
        sights = λ k l. ap (λ (t : Topology). t.generation) (sym (known k l));
        known_ids = λ k peer l m. ids peer m ∙ ap (λ (t : Topology). id_of t peer) (sym (known k l));
        knows = record { ours = λ s q e. cc; size = length-replicate {A = ℕ} 1600 0; room = length-replicate {A = Option Request} 1600 None; below = first_below 0; apart = first_apart; blank = λ place e. first_blank place; latest = λ s request e. absurd (first_lacks (position (nat_eq s) new_requests.serials) request e) };
        entered = record { entry = λ node peer number kind call l m s e. absurd (not_free kind call (sym (new_looked (λ (place : Place). place.state) states.Free refl (local_id peer) number) ∙ e)) };
        fair = refl;
      };
    }

-- ---- the laws
of_wire : (wire : Wire) → Reached wire → IsOfWire wire.past
of_wire wire r = record {
  serials = (law_of PacketLaw packets_always wire r).0;
  once = law_of OnceLaw once_always wire r;
  judged = law_of JudgementLaw judged_always wire r;
  answered = (law_of AnswerLaw answers_always wire r).answered;
  sent = law_of SentLaw sent_always wire r;
}

pub laws_of : (past : List Moment) (w : WorldState) → Stands past w → IsOfWire (map said w.fresh ++ past)
laws_of past w h = subst IsOfWire h.is.past_is (of_wire h.wire h.reached)
