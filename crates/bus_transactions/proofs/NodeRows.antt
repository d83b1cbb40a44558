-- A node's transaction layer has the rows of the history in the generation that the node is in.
use Rattle.bus_transactions.proofs.Rooms.{unknown, frees, room_kept, new_room, HasRoom}
use Rattle.std.specs.Prelude.{◌≡◌, ◌≢◌, ℕ, ◌&&◌, nat_eq, Bool, true, false, cond, List, Option, Some, None, refl, ◌<◌, ◌≤◌, map, replicate, length}
use Rattle.std.proofs.Common.{arith, sym, ◌∙◌, ap, subst}
use Rattle.label_table.specs.declared.reply.ReplyKind.{ReplyKind}
use Rattle.label_table.specs.declared.place.LabelState.{LabelState}
use Rattle.label_table.specs.declared.place.LabelState.TheVariants as states
use Rattle.label_table.specs.declared.judgement.Asked.{Asked}
use Rattle.label_table.specs.Requests.{label_of, kind_of}
use Rattle.label_table.specs.Filter.{place_for, seen_at, remember_step, source_of, source_at, remembered, remember_at, SourcePlace, new_filter}
use Rattle.label_table.specs.Peers.{state_for, last_for, peer_of, no_peer, clear_place}
use Rattle.label_table.specs.Layer.{new_layer, seen_in_generation}
use Rattle.label_table.proofs.Sources.{IsFit, own_after, other_after, remembered_fit, new_fit, new_unseen}
use Rattle.sbp_journal.specs.Transactions.{Kind, Transaction, is_same, at, is_that}
use Rattle.sbp_journal.specs.Wire.{Held, free, waits}
use Rattle.bus_transactions.specs.Wire.{Node, transaction}
use Rattle.bus_transactions.specs.Rows.{shape, shape_of, kind_as, awaits}
use Rattle.bus_transactions.proofs.PacketParts.{same_refl, same_is, same_asked, same_heard, other_requester, other_responder}
use Rattle.bus_transactions.proofs.Places.{Places, cleared_places, cleared_looked, new_places, new_looked, cleared_owners}
use Rattle.bus_transactions.proofs.Steps.{Stays, Shows, Asks, Frees, Same}

-- `row` are the IDs of the nodes in the generation; `of` is the transaction of the request that is to be answered
pub record IsNode (row : ℕ → ℕ) (g i : ℕ) (held : Transaction → Held) (last seen : Transaction → Option (List ℕ)) (given : Transaction → ℕ) (of : Option Transaction) (layer : Node) : Type 0 where
  pub generation : layer.generation ≡ g
  pub id : layer.node ≡ row i
  pub places : Places layer.generation layer.peers
  pub fit : IsFit layer.filter
  pub room : HasRoom source_of row layer.filter
  pub peer_room : HasRoom peer_of row layer.peers
  pub states_are : (j l : ℕ) → shape (state_for layer.peers (row j) l) ≡ shape_of (held (transaction g i j l))
  pub lasts_are : (j l : ℕ) → last_for layer.peers (row j) l ≡ last (transaction g i j l)
  pub seen_are : (j l : ℕ) → is_that of (transaction g j i l) ≡ false → seen_at (row j) layer.filter l ≡ record { last = seen (transaction g j i l); rcode = given (transaction g j i l) }

-- ---- tests
same_row : (row : ℕ → ℕ) → ((i j : ℕ) → row i ≡ row j → i ≡ j) → (i j : ℕ) (b : Bool) → nat_eq (row i) (row j) ≡ b → b ≡ nat_eq i j
same_row row apart i j true e = let r : row i ≡ row j = grind arith in let s = apart i j r in grind arith
same_row row apart i j false e = by_test (nat_eq i j) refl
  where
    by_test : (b : Bool) → nat_eq i j ≡ b → false ≡ b
    by_test false f = refl
    by_test true f = let s : i ≡ j = grind arith in let r : row i ≡ row j = ap row s in grind arith

pub row_same : (row : ℕ → ℕ) → ((i j : ℕ) → row i ≡ row j → i ≡ j) → (i j : ℕ) → nat_eq (row i) (row j) ≡ nat_eq i j
row_same row apart i j = same_row row apart i j (nat_eq (row i) (row j)) refl

pub same_sym : (u v : Transaction) → is_same u v ≡ is_same v u
same_sym u v = by_test (is_same u v) (is_same v u) refl refl
  where
    by_test : (a b : Bool) → is_same u v ≡ a → is_same v u ≡ b → a ≡ b
    by_test true true e f = refl
    by_test false false e f = refl
    by_test true false e f = let i = same_is u v e in absurd (differ (sym f ∙ subst (λ x. is_same v x ≡ true) (sym i) (same_refl v)))
      where
        differ : false ≡ true → ⊥
        differ e = cc
    by_test false true e f = let i = same_is v u f in absurd (differ (sym e ∙ subst (λ x. is_same u x ≡ true) (sym i) (same_refl u)))
      where
        differ : false ≡ true → ⊥
        differ e = cc

-- the test of a table is that of the transaction
asked_test : (row : ℕ → ℕ) (apart : (i j : ℕ) → row i ≡ row j → i ≡ j) (g i j k l n peer : ℕ) → peer ≡ row k → (nat_eq (row j) peer && nat_eq l n) ≡ is_same (transaction g i j l) (transaction g i k n)
asked_test row apart g i j k l n peer e =
    ap (λ p. nat_eq (row j) p && nat_eq l n) e ∙ ap (λ b. b && nat_eq l n) (row_same row apart j k) ∙ sym (same_asked g i j l k n)

shape_by : (b : Bool) (x y : LabelState) (x' y' : Held) → shape x ≡ shape_of x' → shape y ≡ shape_of y' → shape (cond b x y) ≡ shape_of (cond b x' y')
shape_by true x y x' y' e f = e
shape_by false x y x' y' e f = f

same_by : {A : Type 0} (b : Bool) (x y x' y' : A) → x ≡ x' → y ≡ y' → cond b x y ≡ cond b x' y'
same_by true x y x' y' e f = e
same_by false x y x' y' e f = f

-- ---- one label shows another state
module _ {row : ℕ → ℕ} {g i : ℕ} {held : Transaction → Held} {last seen : Transaction → Option (List ℕ)} {given : Transaction → ℕ} {of : Option Transaction} {layer : Node} (n : IsNode row g i held last seen given of layer) where
  shows_states : ((i j : ℕ) → row i ≡ row j → i ≡ j) → (new : Node) (peer k m : ℕ) (state : LabelState) (x : Held) → peer ≡ row k → shape state ≡ shape_of x → Shows layer new peer m state → (j l : ℕ) → shape (state_for new.peers (row j) l) ≡ shape_of (at held (transaction g i k m) x (transaction g i j l))
  shows_states apart new peer k m state x e same s j l =
      ap shape (s.states_are (row j) l)
      ∙ ap (λ b. shape (cond b state (state_for layer.peers (row j) l))) (asked_test row apart g i j k l m peer e)
      ∙ shape_by (is_same (transaction g i j l) (transaction g i k m)) state (state_for layer.peers (row j) l) x (held (transaction g i j l)) same (n.states_are j l)

  same_filter : (new : Node) → Stays layer new → (j l : ℕ) → is_that of (transaction g j i l) ≡ false → seen_at (row j) new.filter l ≡ record { last = seen (transaction g j i l); rcode = given (transaction g j i l) }
  same_filter new s j l e = ap (λ f. seen_at (row j) f l) s.filter ∙ n.seen_are j l e

  pub node_asks : ((i j : ℕ) → row i ≡ row j → i ≡ j) → (new : Node) (peer k s : ℕ) (bytes : List ℕ) (asked : Asked) (kind : Kind) → k < 5 → peer ≡ row k → kind_of bytes ≡ kind_as kind → Asks layer new peer bytes asked → IsNode row g i (at held (transaction g i k asked.label.number) (waits kind s)) (at last (transaction g i k asked.label.number) (Some asked.bytes)) seen given of new
  node_asks apart new peer k s bytes asked kind small e is a = record {
    generation = a.shows.stays.generation ∙ n.generation;
    id = a.shows.stays.node ∙ n.id;
    places = a.shows.places;
    fit = subst IsFit (sym a.shows.stays.filter) n.fit;
    room = subst (HasRoom source_of row) (sym a.shows.stays.filter) n.room;
    peer_room = a.rooms row k (sym e) small n.peer_room;
    states_are = shows_states apart new peer k asked.label.number (states.UnderWay (kind_of bytes) a.serial) (waits kind s) e (ap awaits is) a.shows;
    lasts_are = λ j l.
        a.lasts_are (row j) l
        ∙ ap (λ b. cond b (Some asked.bytes) (last_for layer.peers (row j) l)) (asked_test row apart g i j k l asked.label.number peer e)
        ∙ same_by (is_same (transaction g i j l) (transaction g i k asked.label.number)) _ _ _ _ refl (n.lasts_are j l);
    seen_are = same_filter new a.shows.stays;
  }

  pub node_frees : ((i j : ℕ) → row i ≡ row j → i ≡ j) → (new : Node) (peer k m : ℕ) (kind : ReplyKind) (state : LabelState) (x : Held) → peer ≡ row k → shape state ≡ shape_of x → Frees layer new peer m kind state → IsNode row g i (at held (transaction g i k m) x) last seen given of new
  node_frees apart new peer k m kind state x e same a = record {
    generation = a.shows.stays.generation ∙ n.generation;
    id = a.shows.stays.node ∙ n.id;
    places = a.shows.places;
    fit = subst IsFit (sym a.shows.stays.filter) n.fit;
    room = subst (HasRoom source_of row) (sym a.shows.stays.filter) n.room;
    peer_room = subst (λ os. unknown row 5 os ≤ frees os) (sym a.owners_are) n.peer_room;
    states_are = shows_states apart new peer k m state x e same a.shows;
    lasts_are = λ j l. a.lasts_are (row j) l ∙ n.lasts_are j l;
    seen_are = same_filter new a.shows.stays;
  }

  pub node_same : (new : Node) → Same layer new → IsNode row g i held last seen given of new
  node_same new s = record {
    generation = s.stays.generation ∙ n.generation;
    id = s.stays.node ∙ n.id;
    places = s.places;
    fit = subst IsFit (sym s.stays.filter) n.fit;
    room = subst (HasRoom source_of row) (sym s.stays.filter) n.room;
    peer_room = subst (λ os. unknown row 5 os ≤ frees os) (sym s.owners_are) n.peer_room;
    states_are = λ j l. ap shape (s.states_are (row j) l) ∙ n.states_are j l;
    lasts_are = λ j l. s.lasts_are (row j) l ∙ n.lasts_are j l;
    seen_are = same_filter new s.stays;
  }

  -- another node's transaction
  pub node_beside : (u : Transaction) (x : Held) (y : Option (List ℕ)) → nat_eq i u.requester ≡ false → IsNode row g i (at held u x) (at last u y) seen given of layer
  node_beside u x y d = record {
    generation = n.generation;
    id = n.id;
    places = n.places;
    fit = n.fit;
    room = n.room;
    peer_room = n.peer_room;
    states_are = λ j l. n.states_are j l ∙ ap (λ b. shape_of (cond b x (held (transaction g i j l)))) (sym (other_requester (transaction g i j l) u d));
    lasts_are = λ j l. n.lasts_are j l ∙ ap (λ b. cond b y (last (transaction g i j l))) (sym (other_requester (transaction g i j l) u d));
    seen_are = n.seen_are;
  }

  pub node_beside_held : (u : Transaction) (x : Held) → nat_eq i u.requester ≡ false → IsNode row g i (at held u x) last seen given of layer
  node_beside_held u x d = record {
    generation = n.generation;
    id = n.id;
    places = n.places;
    fit = n.fit;
    room = n.room;
    peer_room = n.peer_room;
    states_are = λ j l. n.states_are j l ∙ ap (λ b. shape_of (cond b x (held (transaction g i j l)))) (sym (other_requester (transaction g i j l) u d));
    lasts_are = n.lasts_are;
    seen_are = n.seen_are;
  }

  -- the IDs of the generation, said by another function
  pub node_row : (row' : ℕ → ℕ) → row' ≡ row → IsNode row' g i held last seen given of layer
  node_row row' e = subst (λ r. IsNode r g i held last seen given of layer) (sym e) n

-- ---- a request is judged, and not answered yet
pub node_judged : {row : ℕ → ℕ} {g i : ℕ} {held : Transaction → Held} {last seen : Transaction → Option (List ℕ)} {given : Transaction → ℕ} {layer : Node} → IsNode row g i held last seen given None layer → (v : Transaction) (bytes : Option (List ℕ)) → IsNode row g i held last (at seen v bytes) given (Some v) layer
node_judged {row} {g} {i} {seen = seen} {given = given} {layer = layer} n v bytes = record {
  generation = n.generation;
  id = n.id;
  places = n.places;
  fit = n.fit;
  room = n.room;
  peer_room = n.peer_room;
  states_are = n.states_are;
  lasts_are = n.lasts_are;
  seen_are = λ j l e.
      n.seen_are j l refl
      ∙ ap (λ b. record { last = cond b bytes (seen (transaction g j i l)); rcode = given (transaction g j i l) }) (sym (same_sym (transaction g j i l) v ∙ e));
}

source_is : (place : SourcePlace) (s : ℕ) (b : List ℕ) (r : ℕ) → source_of (remembered place s b r) ≡ Some s
unfolding remembered
source_is place s b r = refl

filter_room : (row : ℕ → ℕ) (f : List SourcePlace) (s k m : ℕ) (b : List ℕ) (r : ℕ) → row m ≡ s → m < 5 → HasRoom source_of row f → place_for s f ≡ Some k → HasRoom source_of row (remember_step f s b r)
filter_room row f s k m b r is small room e =
    subst (λ place. HasRoom source_of row (remember_at place f s b r)) (sym e)
    (room_kept source_of row f s k m (remembered (source_at f k) s b r) is small room e (source_is (source_at f k) s b r))

-- it is answered, and remembered
module _ {row : ℕ → ℕ} {g i : ℕ} {held : Transaction → Held} {last seen : Transaction → Option (List ℕ)} {given : Transaction → ℕ} {v : Transaction} {layer : Node} (n : IsNode row g i held last seen given (Some v) layer) where
  given_same : (rcode : ℕ) (w : Transaction) → is_same v w ≡ false → at given v rcode w ≡ given w
  given_same rcode w e = ap (λ b. cond b rcode (given w)) (same_sym w v ∙ e)

  -- at every other node nothing changes
  pub node_answered_beside : (rcode : ℕ) → nat_eq i v.responder ≡ false → IsNode row g i held last seen (at given v rcode) None layer
  node_answered_beside rcode d = record {
    generation = n.generation;
    id = n.id;
    places = n.places;
    fit = n.fit;
    room = n.room;
    peer_room = n.peer_room;
    states_are = n.states_are;
    lasts_are = n.lasts_are;
    seen_are = λ j l e.
        let w : Transaction = transaction g j i l in
        let other : is_same v w ≡ false = same_sym v w ∙ other_responder w v d in
        n.seen_are j l other ∙ ap (λ r. record { last = seen w; rcode = r }) (sym (given_same rcode w other));
  }

  module _ (apart : (i j : ℕ) → row i ≡ row j → i ≡ j) (bytes : List ℕ) (rcode source k : ℕ) (is_source : source ≡ row v.requester) (is_label : label_of bytes ≡ v.label) (heard : seen v ≡ Some bytes) (is_v : v ≡ transaction g v.requester i v.label) (room : place_for source layer.filter ≡ Some k) (small : v.requester < 5) where
    own_row : (j l : ℕ) → j ≡ v.requester → seen_at (row j) (remember_step layer.filter source bytes rcode) l ≡ cond (nat_eq l v.label) (record { last = Some bytes; rcode = rcode }) (seen_at (row j) layer.filter l)
    own_row j l e =
        let at_source : source ≡ row j = is_source ∙ ap row (sym e) in
        subst (λ s. seen_at s (remember_step layer.filter source bytes rcode) l ≡ cond (nat_eq l v.label) (record { last = Some bytes; rcode = rcode }) (seen_at s layer.filter l)) at_source
        (own_after source layer.filter k bytes rcode l n.fit room ∙ ap (λ m. cond (nat_eq l m) (record { last = Some bytes; rcode = rcode }) (seen_at source layer.filter l)) is_label)

    in_row : (j l : ℕ) (a b : Bool) → nat_eq j v.requester ≡ a → nat_eq l v.label ≡ b → seen_at (row j) (remember_step layer.filter source bytes rcode) l ≡ record { last = seen (transaction g j i l); rcode = at given v rcode (transaction g j i l) }
    in_row j l true true e f =
        let is_j : j ≡ v.requester = grind arith in
        let is_l : l ≡ v.label = grind arith in
        let w : transaction g j i l ≡ v = ap (λ x. transaction g x i l) is_j ∙ ap (λ x. transaction g v.requester i x) is_l ∙ sym is_v in
        own_row j l is_j
        ∙ ap (λ b. cond b (record { last = Some bytes; rcode = rcode }) (seen_at (row j) layer.filter l)) f
        ∙ ap (λ o. record { last = o; rcode = rcode }) (sym heard)
        ∙ ap (λ r. record { last = seen v; rcode = r }) (sym (ap (λ b. cond b rcode (given v)) (same_refl v)))
        ∙ ap (λ x. record { last = seen x; rcode = at given v rcode x }) (sym w)
    in_row j l true false e f =
        let is_j : j ≡ v.requester = grind arith in
        let w : Transaction = transaction g j i l in
        let test : is_same w v ≡ (nat_eq j v.requester && nat_eq l v.label) = ap (is_same w) is_v ∙ same_heard g i j l v.requester v.label in
        let other : is_same v w ≡ false = same_sym v w ∙ test ∙ rw (e, f) refl in
        own_row j l is_j
        ∙ ap (λ b. cond b (record { last = Some bytes; rcode = rcode }) (seen_at (row j) layer.filter l)) f
        ∙ n.seen_are j l other ∙ ap (λ r. record { last = seen w; rcode = r }) (sym (given_same rcode w other))
    in_row j l false b e f =
        let w : Transaction = transaction g j i l in
        let test : is_same w v ≡ (nat_eq j v.requester && nat_eq l v.label) = ap (is_same w) is_v ∙ same_heard g i j l v.requester v.label in
        let other : is_same v w ≡ false = same_sym v w ∙ test ∙ rw e refl in
        let far : row j ≢ source = λ r. let s = apart j v.requester (r ∙ is_source) in grind arith in
        other_after (row j) source layer.filter bytes rcode l n.fit far
        ∙ n.seen_are j l other ∙ ap (λ r. record { last = seen w; rcode = r }) (sym (given_same rcode w other))

    pub node_answered : IsNode row g i held last seen (at given v rcode) None (record layer { filter = remember_step layer.filter source bytes rcode })
    node_answered = record {
      generation = n.generation;
      id = n.id;
      places = n.places;
      fit = remembered_fit layer.filter source bytes rcode n.fit;
      room = filter_room row layer.filter source k v.requester bytes rcode (sym is_source) small n.room room;
      peer_room = n.peer_room;
      states_are = n.states_are;
      lasts_are = n.lasts_are;
      seen_are = λ j l e. in_row j l _ _ refl refl;
    }

-- ---- a new generation
pub node_seen : {row : ℕ → ℕ} {g i : ℕ} {held : Transaction → Held} {last seen : Transaction → Option (List ℕ)} {given : Transaction → ℕ} (layer : Node) (id : ℕ) → length layer.peers ≡ 5 → id ≡ row i → ((j l : ℕ) → held (transaction g i j l) ≡ free) → ((j l : ℕ) → last (transaction g i j l) ≡ None) → ((j l : ℕ) → seen (transaction g j i l) ≡ None) → ((j l : ℕ) → given (transaction g j i l) ≡ 0) → IsNode row g i held last seen given None (seen_in_generation layer g id)
node_seen {row} {g} {i} {held} {last} {seen} {given} layer id size is no_held no_last no_seen no_rcode = record {
  generation = refl;
  id = is;
  places = cleared_places g layer.peers size;
  fit = new_fit;
  room = new_room row (map source_of new_filter) refl;
  peer_room = new_room row (map peer_of (map (clear_place g) layer.peers)) (cleared_owners g layer.peers size);
  states_are = λ j l. ap shape (cleared_looked (λ place. place.state) states.Free g layer.peers refl (row j) l) ∙ ap shape_of (sym (no_held j l));
  lasts_are = λ j l. cleared_looked (λ place. place.last) None g layer.peers refl (row j) l ∙ sym (no_last j l);
  seen_are = λ j l e.
      new_unseen (row j) l ∙ ap (λ o. record { last = o; rcode = 0 }) (sym (no_seen j l))
      ∙ ap (λ r. record { last = seen (transaction g j i l); rcode = r }) (sym (no_rcode j l));
}

pub node_new : (row : ℕ → ℕ) (i : ℕ) → IsNode row 0 i (λ u. free) (λ u. None) (λ u. None) (λ u. 0) None (new_layer (row i))
node_new row i = record {
  generation = refl;
  id = refl;
  places = new_places;
  fit = new_fit;
  room = new_room row (map source_of new_filter) refl;
  peer_room = new_room row (map peer_of (replicate 5 (no_peer {P = Unit {0}}))) refl;
  states_are = λ j l. ap shape (new_looked (λ place. place.state) states.Free refl (row j) l);
  lasts_are = λ j l. new_looked (λ place. place.last) None refl (row j) l;
  seen_are = λ j l e. new_unseen (row j) l;
}
