-- The last requests that a responder remembers, source by source.
use Rattle.std.specs.Prelude.{◌≡◌, ◌≢◌, ℕ, ◌<◌, nat_eq, cond, List, length, replicate, slice_set, slice_index_or, Option, Some, None, refl}
use Rattle.std.proofs.Common.{arith, sym, ◌∙◌, ap, subst}
use Rattle.std.proofs.lemmas.Grind.{common_steps}
use Rattle.label_table.specs.declared.source.Remembered.{Remembered}
use Rattle.label_table.specs.Requests.{label_of}
use Rattle.label_table.specs.Filter.{SourcePlace, no_request, no_source, source_of, request_at, place_for, source_at, seen_at, remembered, remember_at, remember_step, new_filter}
use Rattle.label_table.proofs.Owned.{holds, set_at, own_shown, other_shown, unknown_shown}

abbrev pub request_with : List ℕ → ℕ → Remembered
request_with b r = record { last = Some b; rcode = r }

-- each place has 64 requests, and none where no source has it
pub record IsFit (f : List SourcePlace) : Type 0 where
  pub full : (k : ℕ) → length (source_at f k).requests ≡ 64
  pub empty : (k l : ℕ) → (source_at f k).source ≡ None → request_at l (source_at f k) ≡ no_request

-- a request remembered in a place
abbrev pub with_request : List SourcePlace → ℕ → ℕ → List ℕ → ℕ → List SourcePlace
with_request f k s b r = slice_set f k (remembered (source_at f k) s b r)

source_remembered : (p : SourcePlace) (s : ℕ) (b : List ℕ) (r : ℕ) → source_of (remembered p s b r) ≡ Some s
unfolding remembered
source_remembered p s b r = refl

request_remembered : (p : SourcePlace) (s : ℕ) (b : List ℕ) (r l : ℕ) → length p.requests ≡ 64 → request_at l (remembered p s b r) ≡ cond (nat_eq l (label_of b)) (request_with b r) (request_at l p)
unfolding remembered label_of
request_remembered p s b r l full = let small : label_of b < 64 = omega arith in grind (arith, common_steps)

-- its own source sees it, under its label
pub own_remembered : (s : ℕ) (f : List SourcePlace) (k : ℕ) (b : List ℕ) (r l : ℕ) → IsFit f → place_for s f ≡ Some k → seen_at s (with_request f k s b r) l ≡ cond (nat_eq l (label_of b)) (request_with b r) (seen_at s f l)
own_remembered s f k b r l fit e =
    own_shown source_of (request_at l) no_source no_request s f k (remembered (source_at f k) s b r) e (source_remembered (source_at f k) s b r)
    ∙ rw e (request_remembered (source_at f k) s b r l (fit.full k))

fit_remembered : (f : List SourcePlace) (k t : ℕ) (b : List ℕ) (r : ℕ) → IsFit f → k < length f → IsFit (with_request f k t b r)
unfolding remembered
fit_remembered f k t b r fit h = record {
  full = λ j. let e = set_at f k j (remembered (source_at f k) t b r) no_source h in let w = fit.full j in let v = fit.full k in grind (arith, common_steps);
  empty = λ j l n. let e = set_at f k j (remembered (source_at f k) t b r) no_source h in let w = fit.empty j l in grind (arith, common_steps);
}

fit_at : (f : List SourcePlace) (t : ℕ) (b : List ℕ) (r : ℕ) → IsFit f → (place : Option ℕ) → place_for t f ≡ place → IsFit (remember_at place f t b r)
fit_at f t b r fit None e = fit
fit_at f t b r fit (Some k) e = fit_remembered f k t b r fit (holds source_of no_source t f k e).below

other_at : (s t : ℕ) (f : List SourcePlace) (b : List ℕ) (r l : ℕ) → IsFit f → s ≢ t → (place : Option ℕ) → place_for t f ≡ place → seen_at s (remember_at place f t b r) l ≡ seen_at s f l
other_at s t f b r l fit n None e = refl
other_at s t f b r l fit n (Some k) e =
    other_shown source_of (request_at l) no_source no_request s t f k (remembered (source_at f k) t b r) (λ j o. fit.empty j l o) e (source_remembered (source_at f k) t b r) n

pub remembered_fit : (f : List SourcePlace) (t : ℕ) (b : List ℕ) (r : ℕ) → IsFit f → IsFit (remember_step f t b r)
remembered_fit f t b r fit = fit_at f t b r fit _ refl

pub own_after : (s : ℕ) (f : List SourcePlace) (k : ℕ) (b : List ℕ) (r l : ℕ) → IsFit f → place_for s f ≡ Some k → seen_at s (remember_step f s b r) l ≡ cond (nat_eq l (label_of b)) (request_with b r) (seen_at s f l)
own_after s f k b r l fit e =
    subst (λ place. seen_at s (remember_at place f s b r) l ≡ cond (nat_eq l (label_of b)) (request_with b r) (seen_at s f l)) (sym e) (own_remembered s f k b r l fit e)

pub other_after : (s t : ℕ) (f : List SourcePlace) (b : List ℕ) (r l : ℕ) → IsFit f → s ≢ t → seen_at s (remember_step f t b r) l ≡ seen_at s f l
other_after s t f b r l fit n = other_at s t f b r l fit n _ refl

new_source : (k : ℕ) → source_at new_filter k ≡ no_source
new_source k = grind (arith, common_steps)

pub default_in : {A : Type 0} (n l : ℕ) (d : A) → slice_index_or (replicate n d) l d ≡ d
default_in n l d = grind (arith, common_steps)

new_request : (l : ℕ) → slice_index_or (replicate 64 no_request) l no_request ≡ no_request
new_request l = default_in 64 l no_request

pub new_request_at : (k l : ℕ) → request_at l (source_at new_filter k) ≡ no_request
new_request_at k l = ap (request_at l) (new_source k) ∙ new_request l

pub new_fit : IsFit new_filter
new_fit = record {
  full = λ k. let e = new_source k in ap (λ p. length p.requests) e;
  empty = λ k l n. new_request_at k l;
}

pub new_unseen : (s l : ℕ) → seen_at s new_filter l ≡ no_request
new_unseen s l = unknown_shown source_of (request_at l) no_source no_request s new_filter (λ k n. new_fit.empty k l n) refl
