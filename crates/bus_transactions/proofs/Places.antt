-- The places for peers of a transaction layer, and what a change of one shows.
use Rattle.std.specs.Prelude.{◌≡◌, ℕ, zero, suc, ◌<◌, ◌&&◌, nat_eq, cond, List, [], ◌∷◌, length, map, replicate, slice_set, slice_index_or, Option, Some, None, refl}
use Rattle.std.proofs.Common.{arith, ◌∙◌, ap}
use Rattle.std.proofs.Math.ListN.{length-set}
use Rattle.std.proofs.lemmas.List.{length-map}
use Rattle.label_table.specs.declared.place.Place.{Place}
use Rattle.label_table.specs.Table.{place_at, unused}
use Rattle.label_table.specs.Owned.{owned_place, shown, shown_in}
use Rattle.label_table.specs.Peers.{PeerPlace, peer_of, no_peer, clear_place}
use Rattle.label_table.proofs.Owned.{set_at, set_shown}
use Rattle.label_table.proofs.Sources.{default_in}

abbrev pub Peers : Type 0
Peers = List (PeerPlace (Unit {0}))

abbrev pub place_in : Peers → ℕ → PeerPlace (Unit {0})
place_in peers k = slice_index_or peers k no_peer

-- the places of a layer in a generation
pub record Places (generation : ℕ) (peers : Peers) : Type 0 where
  pub size : length peers ≡ 5
  pub full : (k : ℕ) → length (place_in peers k).table.places ≡ 64
  pub current : (k : ℕ) → k < length peers → (place_in peers k).table.generation ≡ generation
  pub vacant : (k n : ℕ) → peer_of (place_in peers k) ≡ None → place_at (place_in peers k).table n ≡ unused

pub places_set : (g s k : ℕ) (peers : Peers) (new : PeerPlace (Unit {0})) → Places g peers → k < length peers → new.peer ≡ Some s → length new.table.places ≡ 64 → new.table.generation ≡ g → Places g (slice_set peers k new)
places_set g s k peers new p h o full gen = record {
  size = length-set peers k new ∙ p.size;
  full = λ j. let e = set_at peers k j new no_peer h in let a = p.full j in grind arith;
  current = λ j b. let e = set_at peers k j new no_peer h in let l = length-set peers k new in let a = p.current j in grind arith;
  vacant = λ j n v. let e = set_at peers k j new no_peer h in let a = p.vacant j n in grind arith;
}

merged : {B : Type 0} (f : ℕ → ℕ → B) (t s m n : ℕ) (x : B) → cond (nat_eq t s) (cond (nat_eq m n) x (f s m)) (f t m) ≡ cond (nat_eq t s && nat_eq m n) x (f t m)
merged f t s m n x = grind arith

-- what a look at a place's table shows, for each peer
abbrev pub looked : {B : Type 0} → (Place → B) → B → Peers → ℕ → ℕ → B
looked look blank peers s n = shown peer_of (λ place. look (place_at place.table n)) no_peer blank s peers

pub looked_set : {B : Type 0} (look : Place → B) (blank : B) (g s k n : ℕ) (peers : Peers) (new : PeerPlace (Unit {0})) (x : B) → look unused ≡ blank → Places g peers → owned_place peer_of s peers ≡ Some k → new.peer ≡ Some s → ((m : ℕ) → look (place_at new.table m) ≡ cond (nat_eq m n) x (look (place_at (place_in peers k).table m))) → (t m : ℕ) → looked look blank (slice_set peers k new) t m ≡ cond (nat_eq t s && nat_eq m n) x (looked look blank peers t m)
looked_set look blank g s k n peers new x b p e o is t m =
    let was : looked look blank peers s m ≡ look (place_at (place_in peers k).table m) = rw e refl in
    set_shown peer_of (λ place. look (place_at place.table m)) no_peer blank t s peers k new (λ j v. ap look (p.vacant j m v) ∙ b) e o
    ∙ rw (is m, ← was) (merged (looked look blank peers) t s m n x)

-- a place is set as it was
pub looked_same : {B : Type 0} (look : Place → B) (blank : B) (g s k : ℕ) (peers : Peers) (new : PeerPlace (Unit {0})) → look unused ≡ blank → Places g peers → owned_place peer_of s peers ≡ Some k → new.peer ≡ Some s → ((m : ℕ) → look (place_at new.table m) ≡ look (place_at (place_in peers k).table m)) → (t m : ℕ) → looked look blank (slice_set peers k new) t m ≡ looked look blank peers t m
looked_same look blank g s k peers new b p e o is t m =
    let was : looked look blank peers s m ≡ look (place_at (place_in peers k).table m) = rw e refl in
    let set = set_shown peer_of (λ place. look (place_at place.table m)) no_peer blank t s peers k new (λ j v. ap look (p.vacant j m v) ∙ b) e o in
    set ∙ rw (is m, ← was) (stays (looked look blank peers) t s m)
  where
    stays : {B : Type 0} (f : ℕ → ℕ → B) (t s m : ℕ) → cond (nat_eq t s) (f s m) (f t m) ≡ f t m
    stays f t s m = grind arith

-- ---- places that a reset cleared
pub record Cleared (place : PeerPlace (Unit {0})) : Type 0 where
  pub full : length place.table.places ≡ 64
  pub empty : (n : ℕ) → place_at place.table n ≡ unused

cleared_new : (place : PeerPlace (Unit {0})) → place.table.places ≡ replicate 64 unused → Cleared place
cleared_new place t = record {
  full = ap length t;
  empty = λ n. ap (λ places. slice_index_or places n unused) t ∙ default_in 64 n unused;
}

pub cleared_at : (g : ℕ) (peers : Peers) (k : ℕ) → Cleared (place_in (map (clear_place g) peers) k)
cleared_at g [] k = cleared_new no_peer refl
cleared_at g (p ∷ ps) zero = cleared_new (clear_place g p) refl
cleared_at g (p ∷ ps) (suc k) = cleared_at g ps k

cleared_in : (g : ℕ) (peers : Peers) (k : ℕ) → k < length peers → (place_in (map (clear_place g) peers) k).table.generation ≡ g
cleared_in g [] k h = absurd (omega arith)
cleared_in g (p ∷ ps) zero h = refl
cleared_in g (p ∷ ps) (suc k) h = cleared_in g ps k (omega arith)

looked_cleared : {B : Type 0} (look : Place → B) (blank : B) (peers : Peers) → look unused ≡ blank → ((k : ℕ) → Cleared (place_in peers k)) → (n : ℕ) (place : Option ℕ) → shown_in (λ place. look (place_at place.table n)) no_peer blank place peers ≡ blank
looked_cleared look blank peers b all n None = refl
looked_cleared look blank peers b all n (Some k) = ap look ((all k).empty n) ∙ b

pub cleared_places : (g : ℕ) (peers : Peers) → length peers ≡ 5 → Places g (map (clear_place g) peers)
cleared_places g peers size = record {
  size = length-map peers (clear_place g) ∙ size;
  full = λ k. (cleared_at g peers k).full;
  current = λ k h. let l = length-map peers (clear_place g) in cleared_in g peers k (omega arith);
  vacant = λ k n v. (cleared_at g peers k).empty n;
}

pub cleared_looked : {B : Type 0} (look : Place → B) (blank : B) (g : ℕ) (peers : Peers) → look unused ≡ blank → (t m : ℕ) → looked look blank (map (clear_place g) peers) t m ≡ blank
cleared_looked look blank g peers b t m =
    looked_cleared look blank (map (clear_place g) peers) b (cleared_at g peers) m (owned_place peer_of t (map (clear_place g) peers))

new_at : (k : ℕ) → Cleared (place_in (replicate 5 no_peer) k)
new_at k = cleared_new (place_in (replicate 5 no_peer) k) (ap (λ (p : PeerPlace (Unit {0})). p.table.places) (default_in 5 k no_peer))

pub new_places : Places 0 (replicate 5 no_peer)
new_places = record {
  size = refl;
  full = λ k. (new_at k).full;
  current = λ k h. ap (λ (p : PeerPlace (Unit {0})). p.table.generation) (default_in 5 k no_peer);
  vacant = λ k n v. (new_at k).empty n;
}

pub new_looked : {B : Type 0} (look : Place → B) (blank : B) → look unused ≡ blank → (t m : ℕ) → looked look blank (replicate 5 no_peer) t m ≡ blank
new_looked look blank b t m = looked_cleared look blank (replicate 5 no_peer) b new_at m (owned_place peer_of t (replicate 5 no_peer))

-- no place of them has an owner
owners_by : (g : ℕ) (peers : Peers) → map peer_of (map (clear_place g) peers) ≡ replicate (length peers) None
owners_by g [] = refl
owners_by g (p ∷ ps) = ap (λ os. None ∷ os) (owners_by g ps)

pub cleared_owners : (g : ℕ) (peers : Peers) → length peers ≡ 5 → map peer_of (map (clear_place g) peers) ≡ replicate 5 None
cleared_owners g peers size = owners_by g peers ∙ ap (λ n. replicate n None) size
