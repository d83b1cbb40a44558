-- What a request to one node finds does not hang on what another node is asked, nor on what is given up: the labels to a node and their last requests stay, and each of five nodes has a place for its labels.
use Rattle.std.proofs.Common.{◌≡◌, ◌∙◌, refl, sym, ap, subst, ℕ, ◌<◌, ◌≤◌, ◌&&◌, ◌||◌, not, nat_eq, is_some, Bool, false, cond, List, Option, Some, None}
use Rattle.async_packet.specs.Canon.{canon}
use Rattle.async_packet.specs.Labels.{LabelParts}
use Rattle.bus_transactions.specs.Bare.{bare, bare_after, same}
use Rattle.bus_transactions.specs.Wire.{Node}
use Rattle.bus_transactions.proofs.Bares.{takes_steps}
use Rattle.bus_transactions.proofs.Places.{Places}
use Rattle.bus_transactions.proofs.Rooms.{HasRoom, frees, has_room, unknown}
use Rattle.bus_transactions.proofs.Steps.{AskedAs, asks, disowns, may_take}
use Rattle.label_table.specs.Bodies.{Body, header_to, request_with}
use Rattle.label_table.specs.Layer.{Layer, asking_step, disowning_step, unlabelled}
use Rattle.label_table.specs.Peers.{last_for, peer_of, state_for}
use Rattle.label_table.specs.Requests.{is_last, is_write, with_label}
use Rattle.label_table.specs.Table.{is_free}
use Rattle.label_table.specs.declared.judgement.Asked.{Asked}
use Rattle.label_table.specs.declared.place.LabelState.{LabelState}
use Rattle.sbp_world.proofs.Common.{untrue}

-- ---- a layer whatever its transactions are for
-- the labels to a peer are those of another layer
pub record AlikeAt (p : ℕ) (a b : Node) : Type 0 where
  pub node : b.node ≡ a.node
  pub states : (n : ℕ) → state_for b.peers p n ≡ state_for a.peers p n
  pub lasts : (n : ℕ) → last_for b.peers p n ≡ last_for a.peers p n

pub alike_self : (p : ℕ) (a : Node) → AlikeAt p a a
alike_self p a = record { node = refl; states = λ n. refl; lasts = λ n. refl }

pub alike_then : (p : ℕ) (a b c : Node) → AlikeAt p a b → AlikeAt p b c → AlikeAt p a c
alike_then p a b c x y = record { node = y.node ∙ x.node; states = λ n. y.states n ∙ x.states n; lasts = λ n. y.lasts n ∙ x.lasts n }

abbrev take_by : ℕ → LabelState → Option (List ℕ) → List ℕ → Bool
take_by n state last bytes = is_free state && (not (is_write bytes) || not (is_last last (with_label n bytes)))

-- the places of five nodes
module _ (row : ℕ → ℕ) where
  pub record Roomy (l : Node) : Type 0 where
    pub places : Places l.generation l.peers
    pub room : HasRoom peer_of row l.peers

  -- ---- what a request finds
  module _ (m : ℕ) (small : m < 5) (a b : Node) (ra : Roomy a) (rb : Roomy b) (alike : AlikeAt (row m) a b) (body : Body) where
    abbrev here : ℕ
    here = row m

    abbrev Bytes : Node → List ℕ
    Bytes l = unlabelled l here body

    bytes_same : Bytes b ≡ Bytes a
    bytes_same = ap (λ id. canon (request_with (header_to id here 0) body)) alike.node

    take_same : (n : ℕ) → may_take b here (Bytes b) n ≡ may_take a here (Bytes a) n
    take_same n =
        ap (λ s. take_by n s (last_for b.peers here n) (Bytes b)) (alike.states n)
        ∙ (ap (λ s. take_by n (state_for a.peers here n) s (Bytes b)) (alike.lasts n) ∙ ap (λ s. take_by n (state_for a.peers here n) (last_for a.peers here n) s) bytes_same)

    by_both : (x y : Option Asked × Node) → AskedAs a here (Bytes a) x → AskedAs b here (Bytes b) y → is_some y.0 ≡ is_some x.0
    by_both (None, x) (None, y) f g = refl
    by_both (Some one, x) (Some two, y) f g = refl
    by_both (Some one, x) (None, y) f g =
        let k = has_room peer_of row m b.peers small rb.room in untrue (sym (g.1 k.0 one.label.number k.1 f.small) ∙ (take_same one.label.number ∙ f.takes))
    by_both (None, x) (Some two, y) f g =
        let k = has_room peer_of row m a.peers small ra.room in untrue (sym (f.1 k.0 two.label.number k.1 g.small) ∙ (sym (take_same two.label.number) ∙ g.takes))

    pub search_same : is_some (asking_step b here body tt).0 ≡ is_some (asking_step a here body tt).0
    search_same = by_both (asking_step a here body tt) (asking_step b here body tt) (asks a here body ra.places) (asks b here body rb.places)

  -- ---- another node is asked
  pub record Later (p : ℕ) (a b : Node) : Type 0 where
    pub roomy : Roomy b
    pub alike : AlikeAt p a b

  asked_by : (p k : ℕ) (small : k < 5) (a : Node) (bytes : List ℕ) → nat_eq p (row k) ≡ false → Roomy a → (r : Option Asked × Node) → AskedAs a (row k) bytes r → Later p a r.1
  asked_by p k small a bytes other ra (None, new) f = subst (Later p a) (sym f.0) (record { roomy = ra; alike = alike_self p a })
  asked_by p k small a bytes other ra (Some asked, new) f = record {
    roomy = record { places = f.shows.places; room = f.rooms row k refl small ra.room };
    alike = record {
      node = f.shows.stays.node;
      states = λ n. f.shows.states_are p n ∙ off _ (state_for a.peers p n) n;
      lasts = λ n. f.lasts_are p n ∙ off (Some asked.bytes) (last_for a.peers p n) n;
    };
  }
    where
      off : {B : Type 0} (x y : B) (n : ℕ) → cond (nat_eq p (row k) && nat_eq n asked.label.number) x y ≡ y
      off x y n = ap (λ b. cond (b && nat_eq n asked.label.number) x y) other

  asked_later : (p k : ℕ) → k < 5 → (a : Node) (body : Body) → nat_eq p (row k) ≡ false → Roomy a → Later p a (asking_step a (row k) body tt).1
  asked_later p k small a body other ra = asked_by p k small a (unlabelled a (row k) body) other ra (asking_step a (row k) body tt) (asks a (row k) body ra.places)

  -- and of itself: there is room still
  room_by : (k : ℕ) (small : k < 5) (a : Node) (bytes : List ℕ) → Roomy a → (r : Option Asked × Node) → AskedAs a (row k) bytes r → Roomy r.1
  room_by k small a bytes ra (None, new) f = subst Roomy (sym f.0) ra
  room_by k small a bytes ra (Some asked, new) f = record { places = f.shows.places; room = f.rooms row k refl small ra.room }

  -- a transaction is given up
  disowned_later : (p : ℕ) (a : Node) (peer : ℕ) (label : LabelParts) → Roomy a → Later p a (disowning_step a peer label)
  disowned_later p a peer label ra =
      let d = disowns a peer label ra.places in
      record {
        roomy = record { places = d.places; room = subst (λ os. unknown row 5 os ≤ frees os) (sym d.owners_are) ra.room };
        alike = record { node = d.stays.node; states = λ n. d.states_are p n; lasts = λ n. d.lasts_are p n };
      }

  -- ---- of a layer that knows what its transactions are for
  module _ {P : Type 0} where
    pub bare_first : (r : Option Asked × Layer P) → (bare_after same r).0 ≡ r.0
    bare_first (asked, after) = refl

    bare_second : (r : Option Asked × Layer P) → (bare_after same r).1 ≡ bare r.1
    bare_second (asked, after) = refl

    found_bare : (layer : Layer P) (peer : ℕ) (body : Body) (purpose : P) → is_some (asking_step layer peer body purpose).0 ≡ is_some (asking_step (bare layer) peer body tt).0
    found_bare layer peer body purpose = ap (λ o. is_some o) (sym (ap (λ r. r.0) ((takes_steps P).asks layer peer body purpose) ∙ bare_first (asking_step layer peer body purpose)))

    -- behind some calls the labels to a peer are those from before
    abbrev pub Goes : ℕ → Layer P → Layer P → Type 0
    Goes p a b = Later p (bare a) (bare b)

    pub goes_asked : (p k : ℕ) → k < 5 → (a b : Layer P) (body : Body) (purpose : P) → nat_eq p (row k) ≡ false → Goes p a b → Goes p a (asking_step b (row k) body purpose).1
    goes_asked p k small a b body purpose other g =
        let l = subst (Later p (bare b)) (ap (λ r. r.1) ((takes_steps P).asks b (row k) body purpose) ∙ bare_second (asking_step b (row k) body purpose)) (asked_later p k small (bare b) body other g.roomy) in
        record { roomy = l.roomy; alike = alike_then p (bare a) (bare b) (bare (asking_step b (row k) body purpose).1) g.alike l.alike }

    pub room_asked : (k : ℕ) → k < 5 → (b : Layer P) (body : Body) (purpose : P) → Roomy (bare b) → Roomy (bare (asking_step b (row k) body purpose).1)
    room_asked k small b body purpose r =
        subst Roomy (ap (λ r. r.1) ((takes_steps P).asks b (row k) body purpose) ∙ bare_second (asking_step b (row k) body purpose))
        (room_by k small (bare b) (unlabelled (bare b) (row k) body) r (asking_step (bare b) (row k) body tt) (asks (bare b) (row k) body r.places))

    pub room_disowned : (b : Layer P) (peer : ℕ) (label : LabelParts) → Roomy (bare b) → Roomy (bare (disowning_step b peer label))
    room_disowned b peer label r = subst Roomy ((takes_steps P).disowns b peer label) (disowned_later 0 (bare b) peer label r).roomy

    pub goes_disowned : (p : ℕ) (a b : Layer P) (peer : ℕ) (label : LabelParts) → Goes p a b → Goes p a (disowning_step b peer label)
    goes_disowned p a b peer label g =
        let l = subst (Later p (bare b)) ((takes_steps P).disowns b peer label) (disowned_later p (bare b) peer label g.roomy) in
        record { roomy = l.roomy; alike = alike_then p (bare a) (bare b) (bare (disowning_step b peer label)) g.alike l.alike }

    -- so a request finds a label where it did
    pub goes_finds : (m : ℕ) → m < 5 → (a b : Layer P) → Roomy (bare a) → Goes (row m) a b → (body : Body) (one two : P) → is_some (asking_step b (row m) body one).0 ≡ is_some (asking_step a (row m) body two).0
    goes_finds m small a b r g body one two =
        found_bare b (row m) body one ∙ (search_same m small (bare a) (bare b) r g.roomy g.alike body ∙ sym (found_bare a (row m) body two))
