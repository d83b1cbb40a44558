-- The table of logins through its calls, by the units and the IDs of its logins.
use Rattle.std.proofs.Common.{◌≡◌, ◌≢◌, ◌∙◌, refl, sym, ap, subst, ℕ, ◌<◌, ◌&&◌, nat_eq, Bool, true, false, cond, List, [], ◌∷◌, length, map, get_or, set, Option, Some, None, Result, Ok, Err, arith}
use Rattle.std.specs.Prelude.{IfSome, is_none, position}
use Rattle.std.proofs.Math.ListN.{get_or-map}
use Rattle.std.proofs.Math.Seq.{map-set_same}
use Rattle.std.proofs.lemmas.Bool.Decides.{nat_tests}
use Rattle.std.proofs.lemmas.List.{length-map, map-set}
use Rattle.login_table.specs.declared.login.Entered.{Entered}
use Rattle.login_table.specs.declared.login.Login.{Login}
use Rattle.login_table.specs.declared.login.LoginRefusal.{LoginRefusal}
use Rattle.login_table.specs.declared.login.LoginRefusal.TheVariants as refusals
use Rattle.login_table.specs.Laws.{Call, all_after}
use Rattle.login_table.specs.Requests.{LoginRequest}
use Rattle.login_table.specs.Sound.{IsSound, IsTable}
use Rattle.login_table.specs.Table as table
use Rattle.login_table.specs.Table.{Table, back_step, enter_step, entered, expired_id, expired_ids, find, held, hold_step, id_at, id_of, is_held, is_last, is_live, is_live_of, is_old, leave_step, left_for, one_less, place_at, revived, tick_step, ticked}
use Rattle.login_table.proofs.Kept.{after_kept}
use Rattle.login_table.proofs.Searching.{found, within}
use Rattle.media_laws.proofs.Seats.{Seat, is_empty, seat, seat_has, seat_of, with_seat, without}
use Rattle.media_laws.proofs.Lists.{put, put_first, replaced, replaced_at, replaced_map}

abbrev pub seats_of : List (Option Login) → List (Option Seat)
seats_of places = map seat_of places

pub all_kept : (calls : List Call) (t : Table) → IsTable t → IsTable (all_after calls t)
all_kept [] t h = h
all_kept (call ∷ calls) t h = after_kept call (all_after calls t) (all_kept calls t h)

pub seat_at : (places : List (Option Login)) (k : ℕ) → get_or (seats_of places) k None ≡ seat_of (place_at places k)
seat_at places k = get_or-map seat_of places k None

-- ---- a login leaves

-- a place whose login, if it has one, has another ID
other_id : (id : ℕ) (x : Option Login) → IfSome x (λ login. login.login ≢ id) → seat_has id (seat_of x) ≡ false
other_id id None h = refl
other_id id (Some login) h = grind (arith, nat_tests)

apart_at : (places : List (Option Login)) (j k : ℕ) (a : Login) (x : Option Login) → IsSound places → place_at places k ≡ Some a → j ≢ k → place_at places j ≡ x → IfSome x (λ login. login.login ≢ a.login)
apart_at places j k a None s e d f = tt
apart_at places j k a (Some b) s e d f = (s.apart j k b a d f e).ids

pub login_leaves : (places : List (Option Login)) (k : ℕ) (login : Login) → IsSound places → place_at places k ≡ Some login → seats_of (set places k None) ≡ without login.login (seats_of places)
login_leaves places k login s e =
    let below : k < length (seats_of places) = subst (λ n. k < n) (sym (length-map places seat_of)) (within places k login e) in
    let same : nat_eq login.login login.login ≡ true = grind (arith, nat_tests) in
    let here : seat_has login.login (get_or (seats_of places) k None) ≡ true = ap (seat_has login.login) (seat_at places k ∙ ap seat_of e) ∙ same in
    let before : (j : ℕ) → j < k → seat_has login.login (get_or (seats_of places) j None) ≡ false
    = λ j less.
    let d : j ≢ k = λ same. omega arith in
    ap (seat_has login.login) (seat_at places j) ∙ other_id login.login (place_at places j) (apart_at places j k login (place_at places j) s e d refl) in
    map-set seat_of places k None ∙ sym (replaced_at (seat_has login.login) None None (seats_of places) k below here before)

-- ---- a login is entered

-- the login that a new one replaced has left
abbrev pub left_seats : Option ℕ → List (Option Seat) → List (Option Seat)
left_seats None seats = seats
left_seats (Some id) seats = without id seats

found_leaves : (places : List (Option Login)) (k : ℕ) (x : Option Login) → IsSound places → place_at places k ≡ x → IfSome x (λ login. Unit {0}) → seats_of (set places k None) ≡ left_seats (id_of x) (seats_of places)
found_leaves places k None s e h = map-set_same seat_of places k None None (ap seat_of (sym e))
found_leaves places k (Some login) s e h = login_leaves places k login s e

any_login : (x : Option Login) → IfSome x (λ login. Unit {0})
any_login None = tt
any_login (Some login) = tt

old_leaves : (places : List (Option Login)) (k : Option ℕ) → IsSound places → seats_of (table.without k places) ≡ left_seats (id_at k places) (seats_of places)
old_leaves places None s = refl
old_leaves places (Some k) s = found_leaves places k (place_at places k) s refl (any_login (place_at places k))

abbrev pub EntersSeat : LoginRequest → Table → Result Entered LoginRefusal × Table → Type 0
EntersSeat asked t (Err refusal, now) = seats_of now.places ≡ seats_of t.places
EntersSeat asked t (Ok new, now) = seats_of now.places ≡ with_seat (seat asked.unit new.login) (left_seats new.replaced (seats_of t.places))

empty_same : (x : Option Login) → is_empty (seat_of x) ≡ is_none x
empty_same None = refl
empty_same (Some login) = refl

enters_at : (k : Option ℕ) (t : Table) (asked : LoginRequest) (left : List (Option Login)) (replaced_id : Option ℕ) → position is_none left ≡ k → seats_of left ≡ left_seats replaced_id (seats_of t.places) → EntersSeat asked t (table.enter_at k t left replaced_id asked)
enters_at None t asked left old e h = refl
enters_at (Some k) t asked left old e h =
    let id = table.fresh_id 8 (table.next_id t.last) left in
    let new = Some (entered asked k id) in
    let put_is : set left k new ≡ replaced is_none new left = ap (λ p. put p new left) (sym e) ∙ put_first is_none new left in
    ap seats_of put_is ∙ (replaced_map seat_of is_none is_empty new left empty_same ∙ ap (with_seat (seat asked.unit id)) h)

enters_if : (b : Bool) (asked : LoginRequest) (t : Table) (x y : Result Entered LoginRefusal × Table) → EntersSeat asked t x → EntersSeat asked t y → EntersSeat asked t (cond b x y)
enters_if true asked t x y p q = p
enters_if false asked t x y p q = q

pub login_enters : (t : Table) (asked : LoginRequest) → IsTable t → EntersSeat asked t (enter_step t asked)
unfolding enter_step left_for
login_enters t asked h =
    let left = left_for asked t.places in
    enters_if (table.is_denied asked t.places) asked t (Err refusals.Denied, t) (table.enter_at (position is_none left) t left (id_at (find (is_old asked) t.places) t.places) asked) refl
    (enters_at (position is_none left) t asked left (id_at (find (is_old asked) t.places) t.places) refl (old_leaves t.places (find (is_old asked) t.places) h.sound))

-- ---- a login comes back, or leaves by a logout

abbrev SameSeats : Table → Result ℕ LoginRefusal × Table → Type 0
SameSeats t r = seats_of r.1.places ≡ seats_of t.places

same_if : (b : Bool) (t : Table) (x y : Result ℕ LoginRefusal × Table) → SameSeats t x → SameSeats t y → SameSeats t (cond b x y)
same_if true t x y p q = p
same_if false t x y p q = q

backs_to : (x : Option Login) (t : Table) (place node eui : ℕ) → place_at t.places place ≡ x → SameSeats t (table.back_to x t place node eui)
backs_to None t place node eui e = refl
backs_to (Some login) t place node eui e =
    same_if (table.is_barred node eui login t.places) t (Err refusals.OtherNode, t) (Ok place, record t { places = set t.places place (Some (revived node login)) }) refl
    (map-set_same seat_of t.places place (Some (revived node login)) None (ap seat_of (sym e)))

backs_at : (k : Option ℕ) (t : Table) (node eui : ℕ) → SameSeats t (table.back_at k t node eui)
backs_at None t node eui = refl
backs_at (Some place) t node eui = backs_to (place_at t.places place) t place node eui refl

pub login_back : (t : Table) (id node eui : ℕ) → seats_of (back_step t id node eui).1.places ≡ seats_of t.places
unfolding back_step
login_back t id node eui = backs_at (find (is_held id) t.places) t node eui

abbrev pub LeavesSeat : ℕ → Table → Result ℕ LoginRefusal × Table → Type 0
LeavesSeat id t (Err refusal, now) = seats_of now.places ≡ seats_of t.places
LeavesSeat id t (Ok place, now) = seats_of now.places ≡ without id (seats_of t.places)

own_id : (id node : ℕ) (login : Login) → is_live_of id node login ≡ true → login.login ≡ id
own_id id node login e = own_by (is_live login) (nat_eq login.login id) (nat_eq login.node node) e refl
  where
    own_by : (live own node_is : Bool) → (live && own && node_is) ≡ true → nat_eq login.login id ≡ own → login.login ≡ id
    own_by true true node_is e own = grind (arith, nat_tests)
    own_by true false node_is e own = absurd (let no : false ≡ true = e in cc)
    own_by false own node_is e is = absurd (let no : false ≡ true = e in cc)

leaves_found : (k : Option ℕ) (id node : ℕ) (t : Table) → IsSound t.places → find (is_live_of id node) t.places ≡ k → LeavesSeat id t (table.leave_at k t)
leaves_found None id node t s e = refl
leaves_found (Some k) id node t s e =
    let f = found (is_live_of id node) t.places k e in
    login_leaves t.places k f.login s f.stands ∙ ap (λ n. without n (seats_of t.places)) (own_id id node f.login f.passes)

pub login_out : (t : Table) (id node : ℕ) → IsTable t → LeavesSeat id t (leave_step t id node)
unfolding leave_step
login_out t id node h = leaves_found (find (is_live_of id node) t.places) id node t h.sound refl

-- ---- logins are held

held_same : (x : Option Login) → seat_of (held x) ≡ seat_of x
held_same None = refl
held_same (Some login) = refl

pub logins_held : (places : List (Option Login)) → seats_of (map held places) ≡ seats_of places
logins_held [] = refl
logins_held (x ∷ places) = ap (λ s. s ∷ seats_of (map held places)) (held_same x) ∙ ap (λ ss. seat_of x ∷ ss) (logins_held places)
