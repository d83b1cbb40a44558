-- What is in flight, after each change of a ring.
use Rattle.std.proofs.Common.{◌≡◌, ◌∙◌, refl, sym, ap, ℕ, zero, suc, ◌+◌, ◌<◌, ◌≤◌, Bool, true, false, List, [], ◌∷◌, ◌++◌, length, None, Some, cond, arith}
use Rattle.std.specs.Prelude.{◌≢◌, ◌==◌, ◌&&◌, nat_lt, not, Option, IfSome, IfNone}
use Rattle.std.proofs.lemmas.Bool.Decides.{nat_tests}
use Rattle.packet_store.specs.declared.sent.Kept.{Kept}
use Rattle.packet_store.specs.Kept.{found, flying, in_air, first, Rise, IsLowest, NoneFlies, marked}
use Rattle.packet_store.specs.Shelves.{entry, listed}
use Rattle.packet_store.specs.Flights.{Least, IsNext, Landed, NoneAbove, lowest_with}
use Rattle.packet_store.proofs.Flights.{in_air_is, first_flies, none_flies}
use Rattle.packet_store.proofs.Same.{differs, equal_of, same_test, unequal_of}

-- ---- the lowest one
air_here : (s : ℕ) (f g : ℕ → Option Kept) → Landed s f g → in_air (g s) ≡ false
air_here s f g l = l s ∙ rw (same_test s) refl

air_other : (s q : ℕ) (f g : ℕ → Option Kept) → Landed s f g → s ≢ q → in_air (g q) ≡ in_air (f q)
air_other s q f g l ne = l q ∙ rw (differs s q ne) refl

air_less : (s q : ℕ) (b : Bool) (f g : ℕ → Option Kept) → (s == q) ≡ b → Landed s f g → in_air (f q) ≡ false → in_air (g q) ≡ false
air_less s q true f g d l e = l q ∙ rw d refl
air_less s q false f g d l e = l q ∙ rw d e

-- below or at the one that landed none is in flight
grounded : (s q : ℕ) (b : Bool) (f g : ℕ → Option Kept) → (s == q) ≡ b → Landed s f g → Least f (Some s) → q ≤ s → in_air (g q) ≡ false
grounded s q true f g d l h le = l q ∙ rw d refl
grounded s q false f g d l h le =
    let ne = unequal_of s q d in
    air_less s q false f g d l (h.1 q (grind (arith, ne, le)))

next_at : (s q x : ℕ) (b : Bool) (f g : ℕ → Option Kept) → nat_lt s q ≡ b → Landed s f g → Least f (Some s) → IsNext g s x → q < x → in_air (g q) ≡ false
next_at s q x true f g d l h n u = n.1 q (grind (arith, nat_tests)) u
next_at s q x false f g d l h n u = grounded s q (s == q) f g refl l h (grind (arith, nat_tests))

none_at : (s q last : ℕ) (b c : Bool) (f g : ℕ → Option Kept) → nat_lt s q ≡ b → nat_lt last q ≡ c → Landed s f g → NoneAbove last f → Least f (Some s) → ((p : ℕ) → s < p → p ≤ last → in_air (g p) ≡ false) → in_air (g q) ≡ false
none_at s q last false c f g d e l a h n = grounded s q (s == q) f g refl l h (grind (arith, nat_tests))
none_at s q last true true f g d e l a h n = air_less s q (s == q) f g refl l (a q (grind (arith, nat_tests)))
none_at s q last true false f g d e l a h n = n q (grind (arith, nat_tests)) (grind (arith, nat_tests))

-- the lowest one landed: the next one is the lowest
pub next_least : (s last : ℕ) (o : Option ℕ) (f g : ℕ → Option Kept) → IfSome o (IsNext g s) → IfNone o ((q : ℕ) → s < q → q ≤ last → in_air (g q) ≡ false) → Landed s f g → NoneAbove last f → Least f (Some s) → Least g o
next_least s last None f g found none l a h = λ q. none_at s q last (nat_lt s q) (nat_lt last q) f g refl refl l a h none
next_least s last (Some x) f g found none l a h = (found.0, λ q u. next_at s q x (nat_lt s q) f g refl l h found u)

-- another one landed: the lowest one stays
pub same_least : (s : ℕ) (o : Option ℕ) (f g : ℕ → Option Kept) → Landed s f g → ((o ≡ Some s) → false ≡ true) → Least f o → Least g o
same_least s None f g l ne h = λ q. air_less s q (s == q) f g refl l (h q)
same_least s (Some x) f g l ne h =
    let d : s ≢ x = λ e. let c : false ≡ true = ne (ap Some (sym e)) in cc c in
    (air_other s x f g l d ∙ h.0, λ q u. air_less s q (s == q) f g refl l (h.1 q u))

-- ---- one removed or delivered
air_if : (b : Bool) (o : Option Kept) → in_air (cond b None o) ≡ (not b && in_air o)
air_if true o = refl
air_if false o = refl

pub landed_less : (s : ℕ) (f g : ℕ → Option Kept) → ((q : ℕ) → g q ≡ cond (s == q) None (f q)) → Landed s f g
landed_less s f g e = λ q. ap in_air (e q) ∙ air_if (s == q) (f q)

air_marked : (b : Bool) (o : Option Kept) → in_air (cond b (marked o) o) ≡ (not b && in_air o)
air_marked true None = refl
air_marked true (Some k) = refl
air_marked false o = refl

pub landed_marked : (s : ℕ) (f g : ℕ → Option Kept) → ((q : ℕ) → g q ≡ cond (s == q) (marked (f q)) (f q)) → Landed s f g
landed_marked s f g e = λ q. ap in_air (e q) ∙ air_marked (s == q) (f q)

-- one that was not in flight: all stays
still : (s q : ℕ) (b : Bool) (f g : ℕ → Option Kept) → (s == q) ≡ b → Landed s f g → in_air (f s) ≡ false → in_air (g q) ≡ in_air (f q)
still s q true f g d l e =
    let eq = equal_of s q d in
    l q ∙ rw d (sym e ∙ ap (λ p. in_air (f p)) eq)
still s q false f g d l e = l q ∙ rw d refl

pub still_least : (s : ℕ) (o : Option ℕ) (f g : ℕ → Option Kept) → Landed s f g → in_air (f s) ≡ false → Least f o → Least g o
still_least s None f g l e h = λ q. still s q (s == q) f g refl l e ∙ h q
still_least s (Some x) f g l e h = (still s x (s == x) f g refl l e ∙ h.0, λ q u. still s q (s == q) f g refl l e ∙ h.1 q u)

-- ---- how many
abbrev one_if : Bool → ℕ
one_if b = cond b 1 0

joined : (k : Kept) (xs : List Kept) (n : ℕ) (b : Bool) (ys : List Kept) → length (flying ys) ≡ length (flying xs) + n → length (cond b (k.serial ∷ flying ys) (flying ys)) ≡ length (cond b (k.serial ∷ flying xs) (flying xs)) + n
joined k xs n true ys e = omega (arith, e)
joined k xs n false ys e = e

one_flight : (k : Kept) (b : Bool) → length (cond b (k.serial ∷ []) []) ≡ one_if b
one_flight k true = refl
one_flight k false = refl

one_entry : (o : Option Kept) → length (flying (entry o)) ≡ one_if (in_air o)
one_entry None = refl
one_entry (Some k) = one_flight k k.in_flight

pub with_entry : (xs : List Kept) (o : Option Kept) → length (flying (xs ++ entry o)) ≡ length (flying xs) + one_if (in_air o)
with_entry [] o = let e = one_entry o in omega (arith, e)
with_entry (k ∷ xs) o = joined k xs (one_if (in_air o)) k.in_flight (xs ++ entry o) (with_entry xs o)

count_same : (f g : ℕ → Option Kept) (n : ℕ) → ((q : ℕ) → q ≤ n → in_air (g q) ≡ in_air (f q)) → length (flying (listed g n)) ≡ length (flying (listed f n))
count_same f g zero e = refl
count_same f g (suc n) e =
    let a = with_entry (listed g n) (g (suc n)) in
    let b = with_entry (listed f n) (f (suc n)) in
    let c = count_same f g n (λ q l. e q (omega (arith, l))) in
    let d = ap one_if (e (suc n) (omega arith)) in
    omega (arith, a, b, c, d)

pub still_count : (s n : ℕ) (f g : ℕ → Option Kept) → Landed s f g → in_air (f s) ≡ false → length (flying (listed g n)) ≡ length (flying (listed f n))
still_count s n f g l e = count_same f g n (λ q u. still s q (s == q) f g refl l e)

less_at : (s n : ℕ) (f g : ℕ → Option Kept) (b : Bool) → (s == suc n) ≡ b → Landed s f g → in_air (f s) ≡ true → (s ≤ n → length (flying (listed g n)) + 1 ≡ length (flying (listed f n))) → s ≤ suc n → length (flying (listed g (suc n))) + 1 ≡ length (flying (listed f (suc n)))
less_at s n f g true d l h ind u =
    let eq = equal_of s (suc n) d in
    let a = with_entry (listed g n) (g (suc n)) in
    let b = with_entry (listed f n) (f (suc n)) in
    let c = count_same f g n (λ q v. air_other s q f g l (λ x. absurd (omega (arith, x, eq, v)))) in
    let x : one_if (in_air (g (suc n))) ≡ 0 = ap (λ q. one_if (in_air (g q))) (sym eq) ∙ ap one_if (air_here s f g l) in
    let y : one_if (in_air (f (suc n))) ≡ 1 = ap (λ q. one_if (in_air (f q))) (sym eq) ∙ ap one_if h in
    omega (arith, a, b, c, x, y)
less_at s n f g false d l h ind u =
    let ne = unequal_of s (suc n) d in
    let below : s ≤ n = grind (arith, ne, u) in
    let a = with_entry (listed g n) (g (suc n)) in
    let b = with_entry (listed f n) (f (suc n)) in
    let c = ind below in
    let x = ap one_if (air_other s (suc n) f g l ne) in
    omega (arith, a, b, c, x)

pub landed_count : (s n : ℕ) (f g : ℕ → Option Kept) → Landed s f g → f 0 ≡ None → in_air (f s) ≡ true → s ≤ n → length (flying (listed g n)) + 1 ≡ length (flying (listed f n))
landed_count s zero f g l z h u =
    let eq : s ≡ 0 = omega (arith, u) in
    let e : in_air (f s) ≡ false = ap (λ q. in_air (f q)) eq ∙ ap in_air z in
    cc (sym h ∙ e)
landed_count s (suc n) f g l z h u = less_at s n f g (s == suc n) refl l h (λ v. landed_count s n f g l z h v) u

-- ---- one more
put_air : (k : Kept) (q : ℕ) (b : Bool) (f g : ℕ → Option Kept) → (k.serial == q) ≡ b → g q ≡ cond (k.serial == q) (Some k) (f q) → k.in_flight ≡ true → in_air (g q) ≡ cond b true (in_air (f q))
put_air k q true f g d e t = ap in_air e ∙ rw d t
put_air k q false f g d e t = ap in_air e ∙ rw d refl

pub put_least : (k : Kept) (o : Option ℕ) (f g : ℕ → Option Kept) → ((q : ℕ) → g q ≡ cond (k.serial == q) (Some k) (f q)) → k.in_flight ≡ true → ((q : ℕ) → k.serial ≤ q → f q ≡ None) → Least f o → Least g (lowest_with k.serial o)
put_least k None f g e t n h = (
  put_air k k.serial true f g (same_test k.serial) (e k.serial) t,
  λ q u. put_air k q false f g (differs k.serial q (λ x. absurd (omega (arith, x, u)))) (e q) t ∙ h q,
)
put_least k (Some x) f g e t n h =
    let below : (q : ℕ) → q ≤ x → k.serial ≢ q = λ q u eq.
    let gone : in_air (f x) ≡ false = ap in_air (n x (omega (arith, eq, u))) in
    cc (sym h.0 ∙ gone) in (
      put_air k x false f g (differs k.serial x (below x (omega arith))) (e x) t ∙ h.0,
      λ q u. put_air k q false f g (differs k.serial q (below q (omega (arith, u)))) (e q) t ∙ h.1 q u,
    )

pub put_count : (k : Kept) (ks : List Kept) → k.in_flight ≡ true → length (flying (ks ++ k ∷ [])) ≡ length (flying ks) + 1
put_count k ks t = with_entry ks (Some k) ∙ ap (λ b. length (flying ks) + one_if b) t

-- ---- the first one of a list
pub least_same : (f g : ℕ → Option Kept) (o : Option ℕ) → ((q : ℕ) → g q ≡ f q) → Least f o → Least g o
least_same f g None e h = λ q. ap in_air (e q) ∙ h q
least_same f g (Some s) e h = (ap in_air (e s) ∙ h.0, λ q u. ap in_air (e q) ∙ h.1 q u)

pub is_lowest : (low last : ℕ) (ks : List Kept) (o : Option ℕ) → Rise low last ks → Least (λ q. found q ks) o → IfSome o (IsLowest ks)
is_lowest low last ks None r h = tt
is_lowest low last ks (Some s) r h = record {
  flies = in_air_is s low last ks r ∙ h.0;
  least = λ q u. in_air_is q low last ks r ∙ h.1 q u;
}

pub none_airborne : (low last : ℕ) (ks : List Kept) (o : Option ℕ) → Rise low last ks → Least (λ q. found q ks) o → IfNone o (NoneFlies ks)
none_airborne low last ks None r h = λ q. in_air_is q low last ks r ∙ h q
none_airborne low last ks (Some s) r h = tt

same_by : (ks : List Kept) (s x : ℕ) (b c : Bool) → nat_lt s x ≡ b → nat_lt x s ≡ c → IsLowest ks s → IsLowest ks x → s ≡ x
same_by ks s x true c d e a b = let u = b.least s (grind (arith, nat_tests)) in cc (sym a.flies ∙ u)
same_by ks s x false true d e a b = let u = a.least x (grind (arith, nat_tests)) in cc (sym b.flies ∙ u)
same_by ks s x false false d e a b = grind (arith, nat_tests)

first_by : (ks : List Kept) (o p : Option ℕ) → IfSome o (IsLowest ks) → IfNone o (NoneFlies ks) → IfSome p (IsLowest ks) → IfNone p (NoneFlies ks) → o ≡ p
first_by ks None None a b c d = refl
first_by ks None (Some x) a b c d = let u = b x in cc (sym c.flies ∙ u)
first_by ks (Some s) None a b c d = let u = d s in cc (sym a.flies ∙ u)
first_by ks (Some s) (Some x) a b c d = ap Some (same_by ks s x (nat_lt s x) (nat_lt x s) refl refl a c)

pub first_least : (low last : ℕ) (ks : List Kept) (o : Option ℕ) → Rise low last ks → Least (λ q. found q ks) o → o ≡ first (flying ks)
first_least low last ks o r h = first_by ks o (first (flying ks)) (is_lowest low last ks o r h) (none_airborne low last ks o r h) (first_flies low last ks r) (none_flies ks)
