-- How many labels to a node are free: as many as the layer's rows show, which are those of the history. Behind a request that finds one there is one fewer, behind one that finds none and behind what is given up as many; and where one is free a read finds a label.
use Rattle.std.proofs.Common.{arith, ◌≡◌, ◌∙◌, refl, sym, ap, subst, ℕ, zero, suc, ◌+◌, ◌<◌, ◌≤◌, ◌^◌, ◌&&◌, ◌||◌, not, nat_eq, nat_le, is_some, Bool, true, false, cond, List, [], ◌∷◌, length, map, Option, Some, None}
use Rattle.std.specs.Prelude.{position, slice_index_or}
use Rattle.std.proofs.lemmas.List.Sums.{sum_by-cons}
use Rattle.async_packet.specs.Canon.{canon, four, three}
use Rattle.async_packet.specs.Labels.{LabelParts}
use Rattle.bus_transactions.specs.Bare.{bare, bare_after, bare_place, same}
use Rattle.bus_transactions.specs.Rows.{Shape, awaits, idle, resting, shape, shape_of}
use Rattle.bus_transactions.specs.Wire.{Node, Wire, id_for, transaction}
use Rattle.bus_transactions.proofs.Bares.{takes_steps}
use Rattle.bus_transactions.proofs.Places.{Places}
use Rattle.bus_transactions.proofs.Rooms.{HasRoom, has_room, position_map}
use Rattle.bus_transactions.proofs.Steps.{AskedAs, asks, may_take}
use Rattle.label_table.specs.declared.judgement.Asked.{Asked}
use Rattle.label_table.specs.declared.place.LabelState.{LabelState}
use Rattle.label_table.specs.declared.place.LabelState.TheVariants as states
use Rattle.label_table.specs.declared.place.Place.{Place}
use Rattle.label_table.specs.Bodies.{Body, block_read, header_to, request_with}
use Rattle.label_table.specs.Layer.{Layer, asking_step, disowning_step, free_in, free_labels, peer_at, peer_place, unlabelled}
use Rattle.label_table.specs.Owned.{is_owned_by, or_else, owned_place}
use Rattle.label_table.specs.Peers.{PeerPlace, last_for, no_peer, peer_of, state_for}
use Rattle.label_table.specs.Requests.{is_last, is_write, kind_of, with_label}
use Rattle.label_table.specs.Table.{Table, count_free, is_free, unused}
use Rattle.sbp_journal.specs.Run.{Moment}
use Rattle.sbp_journal.specs.Wire.{Held, Terms, free, rests, terms, waits}
use Rattle.sbp_laws.specs.Packets.{free_from}
use Rattle.sbp_laws.specs.Packets as packets
use Rattle.sbp_world.specs.Wire.Wires.{StandsAt}
use Rattle.sbp_world.specs.Worlds.{WorldState}
use Rattle.sbp_world.proofs.Agents.Management.Still.{hist}
use Rattle.sbp_world.proofs.Common.{and_first}
use Rattle.sbp_world.proofs.Hosts.Mild.{quad_tcode}
use Rattle.sbp_world.proofs.Wire.Bus.{holds}
use Rattle.sbp_world.proofs.Wire.Kept.{and_true}
use Rattle.sbp_world.proofs.Agents.OtherLabels.{Roomy, alike_self, goes_disowned, room_asked}

-- ---- counts of labels
abbrev one : Bool → ℕ
one b = cond b 1 0

same_count : (n : ℕ) (f g : ℕ → Bool) → ((l : ℕ) → l < n → f l ≡ g l) → free_from n f ≡ free_from n g
unfolding free_from
same_count zero f g e = refl
same_count (suc n) f g e = ap (λ b. one b + free_from n f) (e n (omega arith)) ∙ ap (λ m. one (g n) + m) (same_count n f g (λ l b. e l (omega (arith, b))))

-- the first of them by itself
first_count : (n : ℕ) (f : ℕ → Bool) → free_from (suc n) f ≡ one (f 0) + free_from n (λ l. f (suc l))
unfolding free_from
first_count zero f = refl
first_count (suc n) f =
    let a = first_count n f in
    ap (λ m. one (f (suc n)) + m) a ∙ swaps (one (f (suc n))) (one (f 0)) (free_from n (λ l. f (suc l)))
  where
    swaps : (a b c : ℕ) → a + (b + c) ≡ b + (a + c)
    swaps a b c = omega arith

-- as many as a list has
list_count : (places : List Place) → count_free places ≡ free_from (length places) (λ n. is_free (slice_index_or places n unused).state)
unfolding free_from
list_count [] = refl
list_count (place ∷ places) =
    sum_by-cons (λ (x : Place). one (is_free x.state)) place places
    ∙ (ap (λ m. one (is_free place.state) + m) (list_count places) ∙ sym (first_count (length places) (λ n. is_free (slice_index_or (place ∷ places) n unused).state)))

-- one fewer
one_count : (n m : ℕ) (f g : ℕ → Bool) → m < n → f m ≡ true → ((l : ℕ) → g l ≡ cond (nat_eq l m) false (f l)) → free_from n g + 1 ≡ free_from n f
unfolding free_from
one_count zero m f g b e h = absurd (omega (arith, b))
one_count (suc n) m f g b e h = by (nat_eq n m) refl (λ low. one_count n m f g low e h)
  where
    by : (x : Bool) → nat_eq n m ≡ x → (m < n → free_from n g + 1 ≡ free_from n f) → (one (g n) + free_from n g) + 1 ≡ one (f n) + free_from n f
    by true i rest =
        let is : n ≡ m = grind arith in
        let off : one (g n) ≡ 0 = ap one (h n ∙ ap (λ y. cond y false (f n)) i) in
        let on : one (f n) ≡ 1 = ap one (ap f is ∙ e) in
        let below : free_from n g ≡ free_from n f = same_count n g f (λ l c. h l ∙ ap (λ y. cond y false (f l)) (apart l c is)) in
        omega (arith, off, on, below)
      where
        apart : (l : ℕ) → l < n → n ≡ m → nat_eq l m ≡ false
        apart l c is = grind arith
    by false i rest =
        let same : one (g n) ≡ one (f n) = ap one (h n ∙ ap (λ y. cond y false (f n)) i) in
        let low : m < n = grind arith in
        let r = rest low in
        omega (arith, same, r)

none_count : (n : ℕ) (f : ℕ → Bool) → ((l : ℕ) → l < n → f l ≡ false) → free_from n f ≡ 0
unfolding free_from
none_count zero f e = refl
none_count (suc n) f e =
    let a : one (f n) ≡ 0 = ap one (e n (omega arith)) in
    let rest = none_count n f (λ l b. e l (omega (arith, b))) in
    omega (arith, a, rest)

-- a read is no write
pub read_plain : (node peer offset len : ℕ) → is_write (canon (request_with (header_to node peer 0) (block_read offset len))) ≡ false
unfolding is_write three four
read_plain node peer offset len = ap (λ n. nat_le n 1) (quad_tcode peer 0 5 (canon (request_with (header_to node peer 0) (block_read offset len))) _ (omega arith) refl)

-- ---- of a layer whatever its transactions are for
module _ (row : ℕ → ℕ) (m : ℕ) (small : m < 5) where
  abbrev here : ℕ
  here = row m

  abbrev Free : Node → ℕ → Bool
  Free l n = is_free (state_for l.peers here n)

  abbrev pub shown : Node → ℕ
  shown l = free_from 64 (Free l)

  shown_at : (l : Node) (k : ℕ) → Places l.generation l.peers → peer_place here l ≡ Some k → free_in (peer_place here l) l ≡ shown l
  shown_at l k places e =
      let xs = (peer_at l k).table.places in
      ap (λ o. free_in o l) e
      ∙ (list_count xs
      ∙ (ap (λ n. free_from n (λ j. is_free (slice_index_or xs j unused).state)) (places.full k)
      ∙ same_count 64 (λ j. is_free (slice_index_or xs j unused).state) (Free l) (λ j b. rw e refl)))

  frees_shown : (l : Node) → Roomy row l → free_labels l here ≡ shown l
  unfolding free_labels
  frees_shown l r = let k = has_room peer_of row m l.peers small r.room in shown_at l k.0 r.places k.1

  -- behind a request
  asked_count : (l : Node) (bytes : List ℕ) (r : Option Asked × Node) → AskedAs l here bytes r → shown r.1 + one (is_some r.0) ≡ shown l
  asked_count l bytes (None, new) a = ap (λ x. shown x + 0) a.0 ∙ (let z : shown l + 0 ≡ shown l = omega arith in z)
  asked_count l bytes (Some asked, new) a =
      let n = asked.label.number in
      one_count 64 n (Free l) (Free new) a.small (and_first (Free l n) (not (is_write bytes) || not (is_last (last_for l.peers here n) (with_label n bytes))) a.takes)
      (λ j. ap is_free (a.shows.states_are here j) ∙ set j (nat_eq j n))
    where
      own : nat_eq here here ≡ true
      own = grind arith

      set : (j : ℕ) (b : Bool) → is_free (cond (nat_eq here here && b) (states.UnderWay (kind_of bytes) a.serial) (state_for l.peers here j)) ≡ cond b false (Free l j)
      set j true = ap (λ x. is_free (cond (x && true) (states.UnderWay (kind_of bytes) a.serial) (state_for l.peers here j))) own
      set j false = ap (λ x. is_free (cond (x && false) (states.UnderWay (kind_of bytes) a.serial) (state_for l.peers here j))) own

  asks_count : (l : Node) → Roomy row l → (body : Body) → (let r = asking_step l here body tt in shown r.1 + one (is_some r.0) ≡ shown l)
  asks_count l r body = asked_count l (unlabelled l here body) (asking_step l here body tt) (asks l here body r.places)

  -- what is no write finds a label where one is free
  abbrev NoWrite : Body → Type 0
  NoWrite body = (node : ℕ) → is_write (canon (request_with (header_to node here 0) body)) ≡ false

  plain_by : (l : Node) (body : Body) → NoWrite body → Roomy row l → 1 ≤ shown l → (r : Option Asked × Node) → AskedAs l here (unlabelled l here body) r → is_some r.0 ≡ true
  plain_by l body plain r b (Some asked, new) a = refl
  plain_by l body plain r b (None, new) a =
      let k = has_room peer_of row m l.peers small r.room in
      let none : shown l ≡ 0 = none_count 64 (Free l) (λ j c. sym (takes j) ∙ a.1 k.0 j k.1 c) in
      absurd (omega (arith, none, b))
    where
      bytes : List ℕ
      bytes = unlabelled l here body

      takes : (j : ℕ) → may_take l here bytes j ≡ Free l j
      takes j =
          ap (λ x. Free l j && (not x || not (is_last (last_for l.peers here j) (with_label j bytes)))) (plain l.node) ∙ and_true (Free l j)

  plain_finds : (l : Node) (body : Body) → NoWrite body → Roomy row l → 1 ≤ shown l → is_some (asking_step l here body tt).0 ≡ true
  plain_finds l body plain r b = plain_by l body plain r b (asking_step l here body tt) (asks l here body r.places)

  -- ---- of a layer that knows what its transactions are for
  module _ {P : Type 0} where
    tables : (xs : List (PeerPlace P)) (k : ℕ) → (slice_index_or (map bare_place xs) k no_peer).table ≡ (slice_index_or xs k no_peer).table
    tables [] k = refl
    tables (x ∷ xs) zero = refl
    tables (x ∷ xs) (suc k) = tables xs k

    place_bare : (layer : Layer P) (peer : ℕ) → peer_place peer (bare layer) ≡ peer_place peer layer
    unfolding owned_place
    place_bare layer peer =
        ap (λ o. or_else o (position (is_owned_by peer_of None) (map bare_place layer.peers))) (position_map (is_owned_by peer_of (Some peer)) bare_place layer.peers)
        ∙ ap (or_else (position (is_owned_by peer_of (Some peer)) layer.peers)) (position_map (is_owned_by peer_of None) bare_place layer.peers)

    in_bare : (layer : Layer P) (place : Option ℕ) → free_in place (bare layer) ≡ free_in place layer
    in_bare layer None = refl
    in_bare layer (Some k) = ap (λ (t : Table). count_free t.places) (tables layer.peers k)

    frees_bare : (layer : Layer P) (peer : ℕ) → free_labels (bare layer) peer ≡ free_labels layer peer
    unfolding free_labels
    frees_bare layer peer = ap (λ o. free_in o (bare layer)) (place_bare layer peer) ∙ in_bare layer (peer_place peer layer)

    abbrev Rooms : Layer P → Type 0
    Rooms layer = Roomy row (bare layer)

    pub frees_are : (layer : Layer P) → Rooms layer → free_labels layer here ≡ shown (bare layer)
    frees_are layer r = sym (frees_bare layer here) ∙ frees_shown (bare layer) r

    bare_both : (r : Option Asked × Layer P) → ((bare_after same r).0 ≡ r.0) × ((bare_after same r).1 ≡ bare r.1)
    bare_both (asked, after) = (refl, refl)

    -- ---- behind a request, and behind what is given up
    pub asked_frees : (layer : Layer P) → Rooms layer → (body : Body) (purpose : P) → (let r = asking_step layer here body purpose in free_labels r.1 here + one (is_some r.0) ≡ free_labels layer here)
    asked_frees layer r body purpose =
        let x = asking_step layer here body purpose in
        let is = (takes_steps P).asks layer here body purpose in
        let b = bare_both x in
        let count : shown (bare x.1) + one (is_some x.0) ≡ shown (bare layer) =
        subst (λ (y : Node). shown y + one (is_some x.0) ≡ shown (bare layer)) (ap (λ (y : Option Asked × Node). y.1) is ∙ b.1)
        (subst (λ (o : Option Asked). shown (asking_step (bare layer) here body tt).1 + one (is_some o) ≡ shown (bare layer)) (ap (λ (y : Option Asked × Node). y.0) is ∙ b.0) (asks_count (bare layer) r body)) in
        ap (λ n. n + one (is_some x.0)) (frees_are x.1 (room_asked row m small layer body purpose r)) ∙ (count ∙ sym (frees_are layer r))

    pub dropped_frees : (layer : Layer P) → Rooms layer → (peer : ℕ) (label : LabelParts) → free_labels (disowning_step layer peer label) here ≡ free_labels layer here
    dropped_frees layer r peer label =
        let goes = goes_disowned row here layer layer peer label (record { roomy = r; alike = alike_self here (bare layer) }) in
        frees_are (disowning_step layer peer label) goes.roomy
        ∙ (same_count 64 (Free (bare (disowning_step layer peer label))) (Free (bare layer)) (λ j b. ap is_free (goes.alike.states j)) ∙ sym (frees_are layer r))

    pub free_finds : (layer : Layer P) → Rooms layer → 1 ≤ free_labels layer here → (body : Body) → NoWrite body → (purpose : P) → is_some (asking_step layer here body purpose).0 ≡ true
    free_finds layer r b body plain purpose =
        let x = asking_step layer here body purpose in
        let is = (takes_steps P).asks layer here body purpose in
        ap (λ o. is_some o) (sym (ap (λ (y : Option Asked × Node). y.0) is ∙ (bare_both x).0)) ∙ plain_finds (bare layer) body plain r (subst (λ n. 1 ≤ n) (frees_are layer r) b)

    pub free_reads : (layer : Layer P) → Rooms layer → 1 ≤ free_labels layer here → (offset len : ℕ) (purpose : P) → is_some (asking_step layer here (block_read offset len) purpose).0 ≡ true
    free_reads layer r b offset len purpose = free_finds layer r b (block_read offset len) (λ node. read_plain node here offset len) purpose

-- the free labels to a peer hang on the peers' places alone
module _ {P : Type 0} (layer other : Layer P) (same_peers : other.peers ≡ layer.peers) where
  among : (place : Option ℕ) → free_in place other ≡ free_in place layer
  among None = refl
  among (Some k) = ap (λ ps. count_free (slice_index_or ps k no_peer).table.places) same_peers

  pub peers_free : (peer : ℕ) → free_labels other peer ≡ free_labels layer peer
  unfolding free_labels
  peers_free peer = ap (λ ps. free_in (owned_place peer_of peer ps) other) same_peers ∙ among (peer_place peer layer)

-- ---- by the history
abbrev is_idle : Shape → Bool
is_idle idle = true
is_idle (awaits kind) = false
is_idle resting = false

free_state : (state : LabelState) → is_free state ≡ is_idle (shape state)
free_state states.Free = refl
free_state (states.UnderWay kind serial) = refl
free_state states.Resting = refl

free_held : (held : Held) → is_idle (shape_of held) ≡ packets.is_free held
free_held free = refl
free_held (waits kind serial) = refl
free_held rests = refl

-- the labels of a node's layer to a peer are those of the history
pub record KnowsLabels (t : Terms) (node peer id : ℕ) {P : Type 0} (layer : Layer P) : Type 0 where
  pub row : ℕ → ℕ
  pub few : peer < 5
  pub id_is : row peer ≡ id
  pub roomy : Roomy row (bare layer)
  pub frees : free_labels layer id ≡ packets.free_labels t node peer
  pub small : layer.node < 2 ^ 16
  pub small_peer : id < 2 ^ 16

pub knows_then : {P : Type 0} (a b : Terms) (node peer id : ℕ) (layer : Layer P) → packets.free_labels a node peer ≡ packets.free_labels b node peer → KnowsLabels a node peer id layer → KnowsLabels b node peer id layer
knows_then a b node peer id layer e k = record { row = k.row; few = k.few; id_is = k.id_is; roomy = k.roomy; frees = k.frees ∙ e; small = k.small; small_peer = k.small_peer }

-- and so are those of another layer with its peers
pub knows_peers : {P : Type 0} (t : Terms) (node peer id : ℕ) (layer other : Layer P) → other.peers ≡ layer.peers → other.node ≡ layer.node → other.generation ≡ layer.generation → KnowsLabels t node peer id layer → KnowsLabels t node peer id other
knows_peers t node peer id layer other p n g k = record {
  row = k.row;
  few = k.few;
  id_is = k.id_is;
  roomy = record {
    places = subst (λ x. Places x (map bare_place other.peers)) (sym g) (subst (λ ps. Places layer.generation (map bare_place ps)) (sym p) k.roomy.places);
    room = subst (λ ps. HasRoom peer_of k.row (map bare_place ps)) (sym p) k.roomy.room;
  };
  frees = peers_free layer other p id ∙ k.frees;
  small = subst (λ x. x < 2 ^ 16) (sym n) k.small;
  small_peer = k.small_peer;
}

-- at any wire that stands
module _ {P : Type 0} {past : List Moment} {layers : ℕ → Node} (w : WorldState) (stands : StandsAt past layers None w) (node peer : ℕ) (node_there : node ≤ length w.initiators) (peer_there : peer ≤ length w.initiators) (layer : Layer P) (own_is : layers node ≡ bare layer) (id : ℕ) (id_is : id_for stands.wire node peer ≡ id) (small : layer.node < 2 ^ 16) (small_peer : id < 2 ^ 16) where
  abbrev wire : Wire
  wire = stands.wire

  abbrev T : Terms
  T = terms wire.past

  abbrev row : ℕ → ℕ
  row = T.ids (T.generation node)

  few : peer < 5
  few = let f = stands.is.few in omega (arith, f, peer_there)

  row_is : row peer ≡ id
  row_is = sym (ap (λ g. T.ids g peer) ((holds wire stands.reached).nodes node).generation) ∙ id_is

  roomy : Roomy row (bare layer)
  roomy = let n = (holds wire stands.reached).nodes node in subst (Roomy row) (stands.is.layers_are node node_there ∙ own_is) (record { places = n.places; room = n.peer_room })

  free_as : (l : ℕ) → is_free (state_for (bare layer).peers (row peer) l) ≡ packets.is_free (T.held (packets.to_peer T node peer l))
  free_as l =
      sym (ap (λ (x : Node). is_free (state_for x.peers (row peer) l)) (stands.is.layers_are node node_there ∙ own_is))
      ∙ (free_state (state_for (wire.layer node).peers (row peer) l) ∙ (ap is_idle (((holds wire stands.reached).nodes node).states_are peer l) ∙ free_held (T.held (transaction (T.generation node) node peer l))))

  frees_at : free_labels layer (row peer) ≡ packets.free_labels T node peer
  frees_at = frees_are row peer few layer roomy ∙ same_count 64 (λ l. is_free (state_for (bare layer).peers (row peer) l)) (λ l. packets.is_free (T.held (packets.to_peer T node peer l))) (λ l b. free_as l)

  pub labels_at : KnowsLabels (terms (hist past w)) node peer id layer
  labels_at = record {
    row = row;
    few = few;
    id_is = row_is;
    roomy = roomy;
    frees = subst (λ x. free_labels layer x ≡ packets.free_labels T node peer) row_is frees_at ∙ ap (λ ms. packets.free_labels (terms ms) node peer) stands.is.past_is;
    small = small;
    small_peer = small_peer;
  }
