-- What a transaction layer tells of its node's transactions is so, over every list of its calls.
use Rattle.std.specs.Prelude.{◌≡◌, ◌≢◌, ℕ, ◌<◌, ◌≤◌, ◌&&◌, nat_eq, Bool, true, false, cond, List, ◌∷◌, length, slice_set, slice_index_or, Option, Some, None, refl}
use Rattle.std.proofs.Common.{arith, sym, ◌∙◌, ap}
use Rattle.std.proofs.Math.ListN.{length-set}
use Rattle.async_packet.specs.Labels.{LabelParts}
use Rattle.label_table.specs.declared.reply.ReplyKind.{ReplyKind}
use Rattle.label_table.specs.declared.place.LabelState.{LabelState}
use Rattle.label_table.specs.declared.place.LabelState.TheVariants as states
use Rattle.label_table.specs.Table.{place_at, is_free, lowest_from, begin_at, with_state, close_in, close_step, handle}
use Rattle.label_table.specs.Owned.{owned_place, shown}
use Rattle.label_table.specs.Peers.{PeerPlace, peer_of, no_peer, purpose_at, state_for, purpose_for, begun_for, closed_for, with_purpose}
use Rattle.label_table.specs.History.{Told, began, closed, Life, not_begun, under_way, over, life, is_same, ended, IsUnderWay, AreTold}
use Rattle.label_table.specs.Layer.{Layer, peer_at, with_peer, asked_at, closed_at, closing_in, closing_step}
use Rattle.label_table.specs.Requests.{kind_of, is_kind}
use Rattle.label_table.proofs.Owned.{holds, set_at, set_shown, owner_found}
use Rattle.label_table.proofs.Lives.{Agree, began_agree, ended_agree}
use Rattle.label_table.proofs.Steps.{lowest_below, lowest_serves, under_way_below, state_placed}
use Rattle.label_table.proofs.Course.{serves_free}

-- the count of a peer's table, which is no peer's where it has no place
abbrev pub counted : Option ℕ → ℕ → ℕ
counted None calls = 0
counted (Some peer) calls = calls

abbrev pub count_in : {P : Type 0} → PeerPlace P → ℕ
count_in place = counted place.peer place.table.calls

abbrev pub count_for : {P : Type 0} → List (PeerPlace P) → ℕ → ℕ
count_for peers s = shown peer_of count_in no_peer 0 s peers

abbrev pub place_in : {P : Type 0} → List (PeerPlace P) → ℕ → PeerPlace P
place_in peers k = slice_index_or peers k no_peer

-- the places of a layer in a generation
pub record Parts {P : Type 0} (generation : ℕ) (peers : List (PeerPlace P)) : Type 0 where
  pub full : (k : ℕ) → length (place_in peers k).table.places ≡ 64
  pub wide : (k : ℕ) → length (place_in peers k).purposes ≡ 64
  pub current : (k : ℕ) → k < length peers → (place_in peers k).table.generation ≡ generation
  pub free : (k n : ℕ) → peer_of (place_in peers k) ≡ None → (place_at (place_in peers k).table n).state ≡ states.Free
  pub empty : (k n : ℕ) → peer_of (place_in peers k) ≡ None → purpose_at (place_in peers k) n ≡ None

pub parts_set : {P : Type 0} (g s k : ℕ) (peers : List (PeerPlace P)) (new : PeerPlace P) → Parts g peers → k < length peers → new.peer ≡ Some s → length new.table.places ≡ 64 → length new.purposes ≡ 64 → new.table.generation ≡ g → Parts g (slice_set peers k new)
parts_set g s k peers new p h o full wide gen = record {
  full = λ j. let e = set_at peers k j new no_peer h in let a = p.full j in grind arith;
  wide = λ j. let e = set_at peers k j new no_peer h in let a = p.wide j in grind arith;
  current = λ j b. let e = set_at peers k j new no_peer h in let l = length-set peers k new in let a = p.current j in grind arith;
  free = λ j n v. let e = set_at peers k j new no_peer h in let a = p.free j n in grind arith;
  empty = λ j n v. let e = set_at peers k j new no_peer h in let a = p.empty j n in grind arith;
}

merged : {B : Type 0} (f : ℕ → ℕ → B) (t s m n : ℕ) (x : B) → cond (nat_eq t s) (cond (nat_eq m n) x (f s m)) (f t m) ≡ cond (nat_eq t s && nat_eq m n) x (f t m)
merged f t s m n x = grind arith

module _ {P : Type 0} (g s k n : ℕ) (peers : List (PeerPlace P)) (new : PeerPlace P) (p : Parts g peers) (e : owned_place peer_of s peers ≡ Some k) (o : new.peer ≡ Some s) where
  pub state_set : (x : LabelState) → ((m : ℕ) → (place_at new.table m).state ≡ cond (nat_eq m n) x (place_at (place_in peers k).table m).state) → (t m : ℕ) → state_for (slice_set peers k new) t m ≡ cond (nat_eq t s && nat_eq m n) x (state_for peers t m)
  state_set x is t m =
      let was : state_for peers s m ≡ (place_at (place_in peers k).table m).state = rw e refl in
      set_shown peer_of (λ place. (place_at place.table m).state) no_peer states.Free t s peers k new (λ j v. p.free j m v) e o
      ∙ rw (is m, ← was) (merged (state_for peers) t s m n x)

  pub purpose_set : (q : Option P) → ((m : ℕ) → purpose_at new m ≡ cond (nat_eq m n) q (purpose_at (place_in peers k) m)) → (t m : ℕ) → purpose_for (slice_set peers k new) t m ≡ cond (nat_eq t s && nat_eq m n) q (purpose_for peers t m)
  purpose_set q is t m =
      let was : purpose_for peers s m ≡ purpose_at (place_in peers k) m = rw e refl in
      set_shown peer_of (λ place. purpose_at place m) no_peer None t s peers k new (λ j v. p.empty j m v) e o
      ∙ rw (is m, ← was) (merged (purpose_for peers) t s m n q)

  pub count_set : (t : ℕ) → count_for (slice_set peers k new) t ≡ cond (nat_eq t s) (count_in new) (count_for peers t)
  count_set t = set_shown peer_of count_in no_peer 0 t s peers k new (λ j v. ap (λ x. counted x (place_in peers j).table.calls) v) e o

pub record Kept {P : Type 0} (layer : Layer P) (notes : List (Told P)) : Type 0 where
  pub parts : Parts layer.generation layer.peers
  pub agree : Agree layer.generation (state_for layer.peers) (purpose_for layer.peers) (count_for layer.peers) (λ s h. life s h notes)
  pub told : AreTold notes

count_rises : (count' count : ℕ → ℕ) (t s : ℕ) {c : ℕ} → count' t ≡ cond (nat_eq t s) c (count t) → count s ≤ c → count t ≤ count' t
count_rises count' count t s e h = grind arith

counted_below : (peer : Option ℕ) (calls : ℕ) → counted peer calls ≤ calls
counted_below None calls = omega arith
counted_below (Some peer) calls = omega arith

free_not : (state : LabelState) (j : ReplyKind) (r : ℕ) → is_free state ≡ true → state ≢ states.UnderWay j r
free_not states.Free j r f e = cc
free_not (states.UnderWay kind serial) j r f e = cc
free_not states.Resting j r f e = cc

pub under_way_is : {P : Type 0} (x : Life P) → IsUnderWay x → (k : ReplyKind) × (q : Option P) × (x ≡ under_way k q)
under_way_is not_begun u = absurd u
under_way_is (under_way k q) u = (k, q, refl)
under_way_is over u = absurd u

-- it did not begin before, and no other with that peer has its label
begun_told : {P : Type 0} {g : ℕ} {state : ℕ → ℕ → LabelState} {purpose : ℕ → ℕ → Option P} {count : ℕ → ℕ} {life : ℕ → LabelParts → Life P} → Agree g state purpose count life → (s : ℕ) (l : LabelParts) → l.generation ≡ g → count s ≤ l.serial → ((k : ReplyKind) (r : ℕ) → state s l.number ≢ states.UnderWay k r) → (life s l ≡ not_begun) × ((other : LabelParts) → IsUnderWay (life s other) → other.number ≢ l.number)
begun_told {state = state} {life = life} a s l gen low free = (
  a.fresh s l gen low,
  λ other u e.
      let w = under_way_is (life s other) u in
      free w.0 other.serial (ap (state s) (sym e) ∙ a.stands s other w.0 w.1 w.2),
)

-- a transaction with a peer begins
pub begun_kept : {P : Type 0} (layer : Layer P) (notes : List (Told P)) (s k n : ℕ) (bytes : List ℕ) (for : P) → Kept layer notes → owned_place peer_of s layer.peers ≡ Some k → lowest_from 0 bytes (peer_at layer k).table.places ≡ Some n → Kept (asked_at k layer (begun_for (peer_at layer k) s for (begin_at (Some n) (peer_at layer k).table bytes))).1 (began s (handle (peer_at layer k).table n (peer_at layer k).table.calls) (kind_of bytes) for ∷ notes)
begun_kept layer notes s k n bytes for kept e found =
    let place = peer_at layer k in
    let below = (holds peer_of no_peer s layer.peers k e).below in
    let small = lowest_below n bytes place.table.places found in
    let wide : n < length place.purposes = let a = kept.parts.full k in let b = kept.parts.wide k in omega arith in
    let fits = serves_free n bytes (place_at place.table n) (lowest_serves n bytes place.table.places found) in
    let label : LabelParts = handle place.table n place.table.calls in
    let gen : label.generation ≡ layer.generation = kept.parts.current k below in
    let was : state_for layer.peers s n ≡ (place_at place.table n).state = rw e refl in
    let low : count_for layer.peers s ≤ place.table.calls = rw e (counted_below place.peer place.table.calls) in
    let free : (j : ReplyKind) (r : ℕ) → state_for layer.peers s n ≢ states.UnderWay j r = λ j r i. free_not _ j r fits (sym was ∙ i) in
    let new = (begun_for place s for (begin_at (Some n) place.table bytes)).1.0 in
    record {
      parts = parts_set layer.generation s k layer.peers new kept.parts below refl (length-set place.table.places n _ ∙ kept.parts.full k) (length-set place.purposes n _ ∙ kept.parts.wide k) gen;
      agree = began_agree kept.agree s label (kind_of bytes) for gen low free _ _ _
          (state_set layer.generation s k n layer.peers new kept.parts e refl (states.UnderWay (kind_of bytes) place.table.calls) (λ m. state_placed place.table n m _ small))
          (purpose_set layer.generation s k n layer.peers new kept.parts e refl (Some for) (λ m. set_at place.purposes n m (Some for) None wide))
          (count_set layer.generation s k n layer.peers new kept.parts e refl);
      told = (begun_told kept.agree s label gen low free, kept.told);
    }

-- the peer's own place, where a label of it is under way
pub own_of : {P : Type 0} (g s k n r : ℕ) (kind : ReplyKind) (peers : List (PeerPlace P)) → Parts g peers → owned_place peer_of s peers ≡ Some k → (place_at (place_in peers k).table n).state ≡ states.UnderWay kind r → peer_of (place_in peers k) ≡ Some s
own_of g s k n r kind peers p e was =
    owner_found peer_of no_peer s peers k e (λ v. let f = p.free k n v in cc)

-- the layer once a label is no more under way
abbrev pub freed : {P : Type 0} → Layer P → ℕ → ℕ → LabelState → Layer P
freed layer k n new =
    with_peer layer k (with_purpose (peer_at layer k) (with_state (peer_at layer k).table n new) n None)

-- a transaction under way with a peer ends
pub record Ends {P : Type 0} (layer : Layer P) (notes : List (Told P)) (s k n r : ℕ) (kind : ReplyKind) (new : LabelState) : Type 0 where
  pub parts : Parts layer.generation (freed layer k n new).peers
  pub agree : Agree layer.generation (state_for (freed layer k n new).peers) (purpose_for (freed layer k n new).peers) (count_for (freed layer k n new).peers) (λ t h. cond (is_same s (handle (peer_at layer k).table n r) t h) (ended (life t h notes)) (life t h notes))
  pub was : life s (handle (peer_at layer k).table n r) notes ≡ under_way kind (purpose_at (peer_at layer k) n)

pub ends : {P : Type 0} (layer : Layer P) (notes : List (Told P)) (s k n r : ℕ) (kind : ReplyKind) (new : LabelState) → Kept layer notes → owned_place peer_of s layer.peers ≡ Some k → (place_at (peer_at layer k).table n).state ≡ states.UnderWay kind r → ((j : ReplyKind) (q : ℕ) → new ≢ states.UnderWay j q) → Ends layer notes s k n r kind new
ends layer notes s k n r kind new kept e waits not =
    let place = peer_at layer k in
    let below = (holds peer_of no_peer s layer.peers k e).below in
    let small = under_way_below place.table n kind r waits in
    let wide : n < length place.purposes = let a = kept.parts.full k in let b = kept.parts.wide k in omega arith in
    let own = own_of layer.generation s k n r kind layer.peers kept.parts e waits in
    let label : LabelParts = handle place.table n r in
    let gen : label.generation ≡ layer.generation = kept.parts.current k below in
    let was : state_for layer.peers s n ≡ states.UnderWay kind r = rw e waits in
    let for : purpose_for layer.peers s n ≡ purpose_at place n = rw e refl in
    let place' = with_purpose place (with_state place.table n new) n None in
    let rises : count_for layer.peers s ≤ count_in place' = rw (e, own) (omega arith) in
    record {
      parts = parts_set layer.generation s k layer.peers place' kept.parts below own (length-set place.table.places n _ ∙ kept.parts.full k) (length-set place.purposes n _ ∙ kept.parts.wide k) gen;
      agree = ended_agree kept.agree s label kind new gen was not _ _ _
          (state_set layer.generation s k n layer.peers place' kept.parts e own new (λ m. state_placed place.table n m _ small))
          (purpose_set layer.generation s k n layer.peers place' kept.parts e own None (λ m. set_at place.purposes n m None None wide))
          (λ t. count_rises (count_for (slice_set layer.peers k place')) (count_for layer.peers) t s (count_set layer.generation s k n layer.peers place' kept.parts e own t) rises);
      was = kept.agree.waits s label kind gen was ∙ ap (under_way kind) for;
    }

pub free_is : (j : ReplyKind) (q : ℕ) → states.Free ≢ states.UnderWay j q
free_is j q e = cc

pub resting_is : (j : ReplyKind) (q : ℕ) → states.Resting ≢ states.UnderWay j q
resting_is j q e = cc

-- the closing of a transaction, as it is told
abbrev pub told_of : {P : Type 0} → ℕ → ReplyKind → Option (LabelParts × Option P) → List (Told P) → List (Told P)
told_of s kind None notes = notes
told_of s kind (Some (label, purpose)) notes = closed s label kind purpose ∷ notes

same_kind : (a b : ReplyKind) → is_kind a b ≡ true → a ≡ b
same_kind a b e = grind arith

close_by : {P : Type 0} (layer : Layer P) (notes : List (Told P)) (s k n r : ℕ) (kind asked : ReplyKind) (same : Bool) → Kept layer notes → owned_place peer_of s layer.peers ≡ Some k → (place_at (peer_at layer k).table n).state ≡ states.UnderWay kind r → is_kind kind asked ≡ same → Kept (closed_at k layer (closed_for (peer_at layer k) (close_in (states.UnderWay kind r) asked (peer_at layer k).table n))).1 (told_of s asked (closed_at k layer (closed_for (peer_at layer k) (close_in (states.UnderWay kind r) asked (peer_at layer k).table n))).0 notes)
close_by layer notes s k n r kind asked true kept e waits same =
    let i = ends layer notes s k n r kind states.Free kept e waits free_is in
    rw same (record { parts = i.parts; agree = i.agree; told = (i.was ∙ ap (λ j. under_way j (purpose_at (peer_at layer k) n)) (same_kind kind asked same), kept.told) })
close_by layer notes s k n r kind asked false kept e waits same = rw same kept

close_at : {P : Type 0} (layer : Layer P) (notes : List (Told P)) (s k n : ℕ) (asked : ReplyKind) (state : LabelState) → Kept layer notes → owned_place peer_of s layer.peers ≡ Some k → (place_at (peer_at layer k).table n).state ≡ state → Kept (closed_at k layer (closed_for (peer_at layer k) (close_in state asked (peer_at layer k).table n))).1 (told_of s asked (closed_at k layer (closed_for (peer_at layer k) (close_in state asked (peer_at layer k).table n))).0 notes)
close_at layer notes s k n asked states.Free kept e was = kept
close_at layer notes s k n asked states.Resting kept e was = kept
close_at layer notes s k n asked (states.UnderWay kind r) kept e was = close_by layer notes s k n r kind asked _ kept e was refl

close_found : {P : Type 0} (layer : Layer P) (notes : List (Told P)) (s n : ℕ) (asked : ReplyKind) (found : Option ℕ) → Kept layer notes → owned_place peer_of s layer.peers ≡ found → Kept (closing_in found layer n asked).1 (told_of s asked (closing_in found layer n asked).0 notes)
unfolding close_step
close_found layer notes s n asked None kept e = kept
close_found layer notes s n asked (Some k) kept e = close_at layer notes s k n asked _ kept e refl

-- a response closes its transaction
pub closing_kept : {P : Type 0} (layer : Layer P) (notes : List (Told P)) (s n : ℕ) (asked : ReplyKind) → Kept layer notes → Kept (closing_step layer s n asked).1 (told_of s asked (closing_step layer s n asked).0 notes)
unfolding closing_step
closing_kept layer notes s n asked kept = close_found layer notes s n asked _ kept refl
