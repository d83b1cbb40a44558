-- The seconds of held logins: a second removes the logins that it tells.
use Rattle.std.proofs.Common.{◌≡◌, ◌≢◌, ◌∙◌, refl, ap, ℕ, suc, nat_eq, Bool, true, false, cond, List, [], ◌∷◌, map, Option, Some, None, arith}
use Rattle.std.specs.List.{AllByRecursion, cons_option}
use Rattle.std.proofs.lemmas.Bool.Decides.{nat_tests}
use Rattle.login_table.specs.declared.login.Login.{Login}
use Rattle.login_table.specs.Sound.{IsSound}
use Rattle.login_table.specs.Table.{expired_id, expired_ids, is_last, one_less, place_at, ticked}
use Rattle.media_laws.proofs.Seats.{Seat, seat_has, seat_of, without}
use Rattle.media_laws.proofs.Tables.{seats_of}

-- the places behind some logins that leave, one after the other
abbrev pub after_expired : List ℕ → List (Option Seat) → List (Option Seat)
after_expired [] seats = seats
after_expired (id ∷ ids) seats = after_expired ids (without id seats)

abbrev Avoid : Option Seat → List ℕ → Type 0
Avoid x ids = AllByRecursion (λ id. seat_has id x ≡ false) ids

passes_over : (ids : List ℕ) (x : Option Seat) (seats : List (Option Seat)) → Avoid x ids → after_expired ids (x ∷ seats) ≡ x ∷ after_expired ids seats
passes_over [] x seats h = refl
passes_over (id ∷ ids) x seats h = rw (h.0) (passes_over ids x (without id seats) h.1)

empty_avoids : (ids : List ℕ) → Avoid None ids
empty_avoids [] = tt
empty_avoids (id ∷ ids) = (refl, empty_avoids ids)

-- an ID that no login of these places has is not told
tells_other : (x : Option Login) (y : Option Seat) (ids : List ℕ) → ((b : Login) → x ≡ Some b → seat_has b.login y ≡ false) → Avoid y ids → Avoid y (cons_option (expired_id x) ids)
tells_other None y ids h avoid = avoid
tells_other (Some login) y ids h avoid = told_if (is_last login.remaining)
  where
    told_if : (b : Bool) → Avoid y (cons_option (cond b (Some login.login) None) ids)
    told_if true = (h login refl, avoid)
    told_if false = avoid

avoids : (places : List (Option Login)) (y : Option Seat) → ((k : ℕ) (b : Login) → place_at places k ≡ Some b → seat_has b.login y ≡ false) → Avoid y (expired_ids places)
avoids [] y h = tt
avoids (x ∷ places) y h = tells_other x y (expired_ids places) (λ b e. h 0 b e) (avoids places y (λ k b e. h (suc k) b e))

abbrev Distinct : List (Option Login) → Type 0
Distinct places = (j k : ℕ) (a b : Login) → j ≢ k → place_at places j ≡ Some a → place_at places k ≡ Some b → a.login ≢ b.login

behind : (x : Option Login) (places : List (Option Login)) → Distinct (x ∷ places) → Distinct places
behind x places d = λ j k a b n e f. d (suc j) (suc k) a b (λ same. n (omega arith)) e f

differs : (n m : ℕ) → n ≢ m → nat_eq n m ≡ false
differs n m d = grind (arith, nat_tests)

own : (n : ℕ) → nat_eq n n ≡ true
own n = grind (arith, nat_tests)

avoids_first : (x : Option Login) (places : List (Option Login)) → Distinct (x ∷ places) → (k : ℕ) (b : Login) → place_at places k ≡ Some b → seat_has b.login (seat_of x) ≡ false
avoids_first None places d k b e = refl
avoids_first (Some login) places d k b e = differs login.login b.login (d 0 (suc k) login b (λ no. omega arith) refl e)

tick_first : (x : Option Login) (places : List (Option Login)) → Avoid (seat_of x) (expired_ids places)
    → after_expired (cons_option (expired_id x) (expired_ids places)) (seat_of x ∷ seats_of places) ≡ seat_of (ticked x) ∷ after_expired (expired_ids places) (seats_of places)
tick_first None places h = passes_over (expired_ids places) None (seats_of places) h
tick_first (Some login) places h = tick_if (is_last login.remaining)
  where
    tick_if : (b : Bool)
        → after_expired (cons_option (cond b (Some login.login) None) (expired_ids places)) (seat_of (Some login) ∷ seats_of places)
        ≡ seat_of (cond b None (Some (record login { remaining = one_less login.remaining }))) ∷ after_expired (expired_ids places) (seats_of places)
    tick_if true =
        ap (λ b. after_expired (expired_ids places) (cond b (None ∷ seats_of places) (seat_of (Some login) ∷ without login.login (seats_of places)))) (own login.login)
        ∙ passes_over (expired_ids places) None (seats_of places) (empty_avoids (expired_ids places))
    tick_if false = passes_over (expired_ids places) (seat_of (Some login)) (seats_of places) h

ticks_all : (places : List (Option Login)) → Distinct places → after_expired (expired_ids places) (seats_of places) ≡ seats_of (map ticked places)
ticks_all [] d = refl
ticks_all (x ∷ places) d =
    tick_first x places (avoids places (seat_of x) (avoids_first x places d))
    ∙ ap (λ ss. seat_of (ticked x) ∷ ss) (ticks_all places (behind x places d))

pub logins_tick : (places : List (Option Login)) → IsSound places → after_expired (expired_ids places) (seats_of places) ≡ seats_of (map ticked places)
logins_tick places s = ticks_all places (λ j k a b n e f. (s.apart j k a b n e f).ids)
