-- The lists that are made of the logins, place by place.
use Rattle.std.specs.Prelude.{◌≡◌, ◌≢◌, ℕ, zero, suc, ◌<◌, ◌≤◌, nat_eq, Bool, true, false, List, [], ◌∷◌, length, AllPairs, Contains, Option, Some, None, refl}
use Rattle.std.specs.List.{cons_option, filter_map}
use Rattle.std.proofs.Common.{arith, ap, sym, ◌∙◌, subst, get_or}
use Rattle.std.proofs.lemmas.Bool.Decides.{nat_tests}
use Rattle.std.proofs.lemmas.List.Elements.{Contains-get_or}
use Rattle.std.proofs.lemmas.List.Kept.{AllPairs-cons}
use Rattle.login_table.specs.declared.login.Login.{Login}
use Rattle.login_table.specs.Table.{Table, place_at, is_live, is_last, expired_id, live_id, units_place}
use Rattle.login_table.specs.Sound.{IsTable, SecondsWithin}
use Rattle.login_table.specs.Laws.{made_by, EndsNext, TellsEnds, TickLaw, LivesWith, UnitsLogin, ListsLogins, ListLaw}
use Rattle.login_table.proofs.Kept.{always}

-- what a place gives is of the list
pub record GivesAt (give : Option Login → Option ℕ) (places : List (Option Login)) (x : ℕ) : Type 0 where
  pub place : ℕ
  pub gives : give (place_at places place) ≡ Some x

behind : (give : Option Login → Option ℕ) (first : Option Login) (places : List (Option Login)) (x : ℕ) → GivesAt give places x → GivesAt give (first ∷ places) x
behind give first places x g = record { place = suc g.place; gives = g.gives }

first_or_behind : (give : Option Login → Option ℕ) (first : Option Login) (given : Option ℕ) (places : List (Option Login)) (x : ℕ) → give first ≡ given → (Contains (filter_map give places) x → GivesAt give places x) → Contains (cons_option given (filter_map give places)) x → GivesAt give (first ∷ places) x
first_or_behind give first None places x e more (k, lt, is) = behind give first places x (more (k, lt, is))
first_or_behind give first (Some y) places x e more (zero, lt, is) = record { place = zero; gives = e ∙ ap Some is }
first_or_behind give first (Some y) places x e more (suc k, lt, is) = behind give first places x (more (k, omega arith, is))

-- Each of the list is what a place gives.
pub given_from : (give : Option Login → Option ℕ) (places : List (Option Login)) (x : ℕ) → Contains (filter_map give places) x → GivesAt give places x
given_from give [] x c = absurd (let h = c.1 in omega arith)
given_from give (first ∷ places) x c = first_or_behind give first (give first) places x refl (given_from give places x) c

on_list : (given : Option ℕ) (xs : List ℕ) (x : ℕ) → Contains xs x → Contains (cons_option given xs) x
on_list None xs x c = c
on_list (Some y) xs x c = (suc c.0, let h = c.1 in omega arith, c.2)

at_first : (given : Option ℕ) (xs : List ℕ) (x : ℕ) → given ≡ Some x → Contains (cons_option given xs) x
at_first None xs x e = absurd (let no : None ≡ Some x = e in cc)
at_first (Some y) xs x e = (zero, omega arith, let is : y ≡ x = cc in is)

-- What a place gives is of the list.
pub given_to : (give : Option Login → Option ℕ) (places : List (Option Login)) (k x : ℕ) → give None ≡ None → give (place_at places k) ≡ Some x → Contains (filter_map give places) x
given_to give [] k x n e = absurd (let no : None ≡ Some x = sym n ∙ e in cc)
given_to give (first ∷ places) zero x n e = at_first (give first) (filter_map give places) x e
given_to give (first ∷ places) (suc k) x n e = on_list (give first) (filter_map give places) x (given_to give places k x n e)

-- no two places give the same
abbrev GivesApart : (Option Login → Option ℕ) → List (Option Login) → Type 0
GivesApart give places = (i j x y : ℕ) → i ≢ j → give (place_at places i) ≡ Some x → give (place_at places j) ≡ Some y → x ≢ y

no_other : (give : Option Login → Option ℕ) (first : Option Login) (y : ℕ) (places : List (Option Login)) (k d : ℕ) → give first ≡ Some y → GivesApart give (first ∷ places) → k < length (filter_map give places) → y ≢ get_or (filter_map give places) k d
no_other give first y places k d e a lt =
    let g = given_from give places (get_or (filter_map give places) k d) (Contains-get_or (filter_map give places) k d lt) in
    a zero (suc g.place) y (get_or (filter_map give places) k d) (λ n. let no : zero ≡ suc g.place = n in omega arith) e g.gives

apart_behind : (give : Option Login → Option ℕ) (first : Option Login) (places : List (Option Login)) → GivesApart give (first ∷ places) → GivesApart give places
apart_behind give first places a i j x y d e f = a (suc i) (suc j) x y (λ n. d (omega arith)) e f

pairs_on : (give : Option Login → Option ℕ) (first : Option Login) (given : Option ℕ) (places : List (Option Login)) → give first ≡ given → GivesApart give (first ∷ places) → AllPairs (λ a b. a ≢ b) (filter_map give places) → AllPairs (λ a b. a ≢ b) (cons_option given (filter_map give places))
pairs_on give first None places e a p = p
pairs_on give first (Some y) places e a p = AllPairs-cons (λ a b. a ≢ b) y (filter_map give places) (λ k d lt. no_other give first y places k d e a lt) p

-- No two of the list are equal.
given_once : (give : Option Login → Option ℕ) (places : List (Option Login)) → GivesApart give places → AllPairs (λ a b. a ≢ b) (filter_map give places)
given_once give [] a = λ i j d l m. absurd (omega arith)
given_once give (first ∷ places) a = pairs_on give first (give first) places refl a (given_once give places (apart_behind give first places a))

-- a login of a place that passes the test, and what the place gives of it
record Chosen (test : Login → Bool) (of : Login → ℕ) (place : Option Login) (x : ℕ) : Type 0 where
  login : Login
  stands : place ≡ Some login
  passes : test login ≡ true
  own : of login ≡ x

expired_by : (last : Bool) (login : Login) (id : ℕ) → is_last login.remaining ≡ last → expired_id (Some login) ≡ Some id → Chosen (λ l. is_last l.remaining) (λ l. l.login) (Some login) id
expired_by true login id f e = record { login = login; stands = refl; passes = f; own = let s : Some login.login ≡ Some id = rw f at e in let is : login.login ≡ id = cc in is }
expired_by false login id f e = absurd (let no : None ≡ Some id = rw f at e in cc)

expired_from : (place : Option Login) (id : ℕ) → expired_id place ≡ Some id → Chosen (λ l. is_last l.remaining) (λ l. l.login) place id
expired_from None id e = absurd (let no : None ≡ Some id = e in cc)
expired_from (Some login) id e = expired_by _ login id refl e

live_by : (live : Bool) (login : Login) (id : ℕ) → is_live login ≡ live → live_id (Some login) ≡ Some id → Chosen is_live (λ l. l.login) (Some login) id
live_by true login id f e = record { login = login; stands = refl; passes = f; own = let s : Some login.login ≡ Some id = rw f at e in let is : login.login ≡ id = cc in is }
live_by false login id f e = absurd (let no : None ≡ Some id = rw f at e in cc)

live_from : (place : Option Login) (id : ℕ) → live_id place ≡ Some id → Chosen is_live (λ l. l.login) place id
live_from None id e = absurd (let no : None ≡ Some id = e in cc)
live_from (Some login) id e = live_by _ login id refl e

unit_by : (own : Bool) (unit : ℕ) (login : Login) (place : ℕ) → nat_eq login.unit unit ≡ own → units_place unit (Some login) ≡ Some place → Chosen (λ l. nat_eq l.unit unit) (λ l. l.place) (Some login) place
unit_by true unit login place f e = record { login = login; stands = refl; passes = f; own = let s : Some login.place ≡ Some place = rw f at e in let is : login.place ≡ place = cc in is }
unit_by false unit login place f e = absurd (let no : None ≡ Some place = rw f at e in cc)

unit_from : (unit : ℕ) (at : Option Login) (place : ℕ) → units_place unit at ≡ Some place → Chosen (λ l. nat_eq l.unit unit) (λ l. l.place) at place
unit_from unit None place e = absurd (let no : None ≡ Some place = e in cc)
unit_from unit (Some login) place e = unit_by _ unit login place refl e

last_one : (seconds : Option ℕ) (most : ℕ) → SecondsWithin seconds most → is_last seconds ≡ true → seconds ≡ Some 1
last_one None most w l = absurd (let no : false ≡ true = l in cc)
last_one (Some n) most w l = ap Some (let least = w.0 in let le : n ≤ 1 = grind (arith, nat_tests) in omega arith)

told_last : (login : Login) (id : ℕ) → login.login ≡ id → login.remaining ≡ Some 1 → expired_id (Some login) ≡ Some id
told_last login id e f = rw f (ap Some e)

told_live : (login : Login) (id : ℕ) → login.login ≡ id → is_live login ≡ true → live_id (Some login) ≡ Some id
told_live login id e f = rw f (ap Some e)

told_unit : (unit : ℕ) (login : Login) (place : ℕ) → login.place ≡ place → nat_eq login.unit unit ≡ true → units_place unit (Some login) ≡ Some place
told_unit unit login place e f = rw f (ap Some e)

expired_apart : (table : Table) → IsTable table → GivesApart expired_id table.places
expired_apart table t i j x y d e f n =
    let a = expired_from (place_at table.places i) x e in
    let b = expired_from (place_at table.places j) y f in
    (t.sound.apart i j a.login b.login d a.stands b.stands).ids (a.own ∙ n ∙ sym b.own)

ends_from : (table : Table) (id : ℕ) → IsTable table → GivesAt expired_id table.places id → EndsNext table id
ends_from table id t g =
    let a = expired_from (place_at table.places g.place) id g.gives in
    record { place = g.place; login = a.login; stands = a.stands; own = a.own; last = last_one a.login.remaining a.login.hold (t.sound.seconds g.place a.login a.stands) a.passes }

tells : (table : Table) → IsTable table → TellsEnds table
tells table t = record {
  all = λ id n. given_to expired_id table.places n.place id refl (ap expired_id n.stands ∙ told_last n.login id n.own n.last);
  alone = λ id c. ends_from table id t (given_from expired_id table.places id c);
  once = given_once expired_id table.places (expired_apart table t);
}

pub ticks_tell_the_ends : TickLaw
ticks_tell_the_ends calls = tells (made_by calls) (always calls)

lives_from : (table : Table) (id : ℕ) → GivesAt live_id table.places id → LivesWith table id
lives_from table id g =
    let a = live_from (place_at table.places g.place) id g.gives in
    record { place = g.place; login = a.login; stands = a.stands; own = a.own; live = a.passes }

units_from : (table : Table) (unit place : ℕ) → IsTable table → GivesAt (units_place unit) table.places place → UnitsLogin table unit place
units_from table unit place t g =
    let a = unit_from unit (place_at table.places g.place) place g.gives in
    let n = t.sound.numbered g.place a.login a.stands in
    let here : g.place ≡ place = sym n.own ∙ a.own in
    record { login = a.login; stands = subst (λ (k : ℕ). place_at table.places k ≡ Some a.login) here a.stands; own = grind (arith, nat_tests, a.passes) }

lists : (table : Table) → IsTable table → ListsLogins table
lists table t = record {
  live = λ id. (λ c. lives_from table id (given_from live_id table.places id c), λ n. given_to live_id table.places n.place id refl (ap live_id n.stands ∙ told_live n.login id n.own n.live));
  units = λ unit place. (λ c. units_from table unit place t (given_from (units_place unit) table.places place c), λ n. given_to (units_place unit) table.places place place refl (ap (units_place unit) n.stands ∙ told_unit unit n.login place (t.sound.numbered place n.login n.stands).own (let u = n.own in grind (arith, nat_tests))));
}

pub lists_of_logins : ListLaw
lists_of_logins calls = lists (made_by calls) (always calls)
