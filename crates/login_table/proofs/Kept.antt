-- Each call keeps what holds between the logins.
use Rattle.std.specs.Prelude.{◌≡◌, ◌≢◌, ℕ, ◌<◌, ◌≤◌, nat_eq, Bool, true, false, List, [], ◌∷◌, length, map, position, is_none, IfSome, Option, Some, None, refl}
use Rattle.std.proofs.Common.{arith, set, ap, sym, ◌∙◌, subst}
use Rattle.std.proofs.lemmas.Bool.Decides.{nat_tests}
use Rattle.std.proofs.Math.ListN.{get_or-map}
use Rattle.std.proofs.lemmas.List.{length-map}
use Rattle.login_table.specs.declared.login.Login.{Login}
use Rattle.login_table.specs.Requests.{LoginRequest}
use Rattle.login_table.specs.Table.{Table, place_at, is_live, any_login, find, is_used, next_id, fresh_id, is_of_node, is_double, excludes, is_denied, is_old, without, left_for, entered, enter_at, id_at, enter_step, revived, is_barred, back_to, back_at, back_step, leave_at, leave_step, held, held_for, hold_step, is_last, one_less, ticked, tick_step}
use Rattle.login_table.specs.Laws.{Call, enter, back, leave, hold, tick, after, made_by}
use Rattle.login_table.proofs.Searching.{within, fails, not_found, found, found_empty}
use Rattle.login_table.proofs.Counting.{fresh_free, fresh_within, next_in, one_empty}
use Rattle.login_table.specs.Sound.{Apart, IsNumbered, IsSound, IsTable, SecondsWithin}
use Rattle.login_table.proofs.Sound.{new_sound, stood, stood_elsewhere, taken_out, Fits, put_in, CameFrom, all_came}

without_sound : (place : Option ℕ) (places : List (Option Login)) → IsSound places → IsSound (without place places)
without_sound None places s = s
without_sound (Some k) places s = taken_out places k s

pub left_sound : (asked : LoginRequest) (places : List (Option Login)) → IsSound places → IsSound (left_for asked places)
unfolding left_for
left_sound asked places s = without_sound _ places s

without_stood : (place : Option ℕ) (places : List (Option Login)) (j : ℕ) (b : Login) → place_at (without place places) j ≡ Some b → place_at places j ≡ Some b
without_stood None places j b e = e
without_stood (Some k) places j b e = stood places k j b e

pub left_stood : (asked : LoginRequest) (places : List (Option Login)) (j : ℕ) (b : Login) → place_at (left_for asked places) j ≡ Some b → place_at places j ≡ Some b
unfolding left_for
left_stood asked places j b e = without_stood _ places j b e

old_twice : (asked : LoginRequest) (a b : Login) (v : Bool) → is_old asked b ≡ v → is_old asked a ≡ true → Apart a b → v ≡ false
old_twice asked a b false e f p = refl
old_twice asked a b true e f p = let q = p.euis in absurd (grind arith)

no_old_by : (place : Option ℕ) (asked : LoginRequest) (places : List (Option Login)) (j : ℕ) (b : Login) → IsSound places → find (is_old asked) places ≡ place → place_at (without place places) j ≡ Some b → is_old asked b ≡ false
no_old_by None asked places j b s f e = not_found (is_old asked) places j b e f
no_old_by (Some k) asked places j b s f e =
    let a = found (is_old asked) places k f in
    old_twice asked a.login b (is_old asked b) refl a.passes (s.apart k j a.login b (λ m. stood_elsewhere places k j b e (sym m)) a.stands (stood places k j b e))

-- No held login of the EUI-64 is left on the unit.
no_old : (asked : LoginRequest) (places : List (Option Login)) (j : ℕ) (b : Login) → IsSound places → place_at (left_for asked places) j ≡ Some b → is_old asked b ≡ false
unfolding left_for
no_old asked places j b s e = no_old_by _ asked places j b s refl e

new_eui : (asked : LoginRequest) (b : Login) (live : Bool) → is_live b ≡ live → is_double asked b ≡ false → is_old asked b ≡ false → asked.unit ≡ b.unit → asked.eui ≢ b.eui
new_eui asked b true l d o u e = absurd (grind arith)
new_eui asked b false l d o u e = absurd (grind arith)

apart_new : (asked : LoginRequest) (b : Login) (place id : ℕ) → is_double asked b ≡ false → excludes asked b ≡ false → is_old asked b ≡ false → id ≢ b.login → Apart (entered asked place id) b
apart_new asked b place id d x o i = record {
  euis = λ u e. new_eui asked b _ refl d o u e;
  nodes = λ u l m e. grind arith;
  first = λ u. let n = new_eui asked b _ refl d o u in grind arith;
  second = λ u. let n = new_eui asked b _ refl d o u in grind arith;
  ids = i;
}

id_apart : (id : ℕ) (b : Login) → nat_eq b.login id ≡ false → id ≢ b.login
id_apart id b e m = grind arith

pub new_free : (left : List (Option Login)) (k last : ℕ) → length left ≡ 8 → k < length left → place_at left k ≡ None → last ≤ 65535 → is_used (fresh_id 8 (next_id last) left) left ≡ false
new_free left k last z h e m =
    let n = next_in last m in
    let o = one_empty left k e h in
    fresh_free 8 (next_id last) left (omega arith) (omega arith) n.0 n.1

fits_new : (table : Table) (asked : LoginRequest) (k : ℕ) → IsTable table → is_denied asked table.places ≡ false → (k < length (left_for asked table.places)) × (place_at (left_for asked table.places) k ≡ None)
    → Fits (left_for asked table.places) k (entered asked k (fresh_id 8 (next_id table.last) (left_for asked table.places)))
fits_new table asked k t d p =
    let left = left_for asked table.places in
    let s = left_sound asked table.places t.sound in
    let n = next_in table.last t.last in
    let w = fresh_within 8 (next_id table.last) left n.0 n.1 in
    let u = new_free left k table.last s.size p.0 p.1 t.last in
    let no_double : any_login (is_double asked) table.places ≡ false = grind arith in
    let no_other : any_login (excludes asked) table.places ≡ false = grind arith in
    record {
      below = p.0;
      numbered = record { own = refl; below = let z = s.size in omega arith; least = w.0; most = w.1 };
      seconds = tt;
      apart = λ j b e f.
          let st = left_stood asked table.places j b f in
          apart_new asked b k (fresh_id 8 (next_id table.last) left) (fails (is_double asked) table.places j b st no_double) (fails (excludes asked) table.places j b st no_other) (no_old asked table.places j b t.sound f)
          (id_apart (fresh_id 8 (next_id table.last) left) b (fails (λ login. nat_eq login.login (fresh_id 8 (next_id table.last) left)) left j b f u));
    }

enter_at_kept : (place : Option ℕ) (table : Table) (asked : LoginRequest) → IsTable table → is_denied asked table.places ≡ false → position is_none (left_for asked table.places) ≡ place
    → IsTable (enter_at place table (left_for asked table.places) (id_at (find (is_old asked) table.places) table.places) asked).1
enter_at_kept None table asked t d e = t
enter_at_kept (Some k) table asked t d e =
    let p = found_empty (left_for asked table.places) k e in
    let n = next_in table.last t.last in
    let w = fresh_within 8 (next_id table.last) (left_for asked table.places) n.0 n.1 in
    record { last = w.1; sound = put_in (left_for asked table.places) k _ (left_sound asked table.places t.sound) (fits_new table asked k t d p) }

pub entered_kept : (table : Table) (asked : LoginRequest) (k last : ℕ) (places : List (Option Login)) → IsTable table → is_denied asked table.places ≡ false → position is_none (left_for asked table.places) ≡ Some k
    → fresh_id 8 (next_id table.last) (left_for asked table.places) ≡ last → set (left_for asked table.places) k (Some (entered asked k last)) ≡ places → IsTable (record { last = last; places = places })
entered_kept table asked k last places t d e f g =
    let left = left_for asked table.places in
    let id = fresh_id 8 (next_id table.last) left in
    let kept : IsTable (record { last = id; places = set left k (Some (entered asked k id)) }) = enter_at_kept (Some k) table asked t d e in
    let named : IsTable (record { last = last; places = set left k (Some (entered asked k last)) }) = subst (λ (n : ℕ). IsTable (record { last = n; places = set left k (Some (entered asked k n)) })) f kept in
    subst (λ (p : List (Option Login)). IsTable (record { last = last; places = p })) g named

enter_by : (b : Bool) (table : Table) (asked : LoginRequest) → is_denied asked table.places ≡ b → IsTable table → IsTable (enter_step table asked).1
unfolding enter_step
enter_by true table asked e t = rw e t
enter_by false table asked e t = rw e (enter_at_kept _ table asked t e refl)

enter_kept : (table : Table) (asked : LoginRequest) → IsTable table → IsTable (enter_step table asked).1
enter_kept table asked t = enter_by _ table asked refl t

apart_back : (login b : Login) (node : ℕ) → Apart login b → is_of_node login.unit node b ≡ false → Apart (revived node login) b
apart_back login b node p f = record {
  euis = p.euis;
  nodes = λ u l m e. grind arith;
  first = p.first;
  second = p.second;
  ids = p.ids;
}

pub revived_kept : (table : Table) (k node eui : ℕ) (login : Login) → IsTable table → place_at table.places k ≡ Some login → is_barred node eui login table.places ≡ false → IsTable (record table { places = set table.places k (Some (revived node login)) })
revived_kept table k node eui login t e f =
    let s = t.sound in
    let no_other : any_login (is_of_node login.unit node) table.places ≡ false = grind arith in
    let n = s.numbered k login e in
    let x : Fits table.places k (revived node login) = record {
      below = within table.places k login e;
      numbered = record { own = n.own; below = n.below; least = n.least; most = n.most };
      seconds = tt;
      apart = λ j b d g. apart_back login b node (s.apart k j login b (λ m. d (sym m)) e g) (fails (is_of_node login.unit node) table.places j b g no_other);
    } in
    record { last = t.last; sound = put_in table.places k (revived node login) s x }

back_to_by : (b : Bool) (table : Table) (k node eui : ℕ) (login : Login) → IsTable table → place_at table.places k ≡ Some login → is_barred node eui login table.places ≡ b → IsTable (back_to (Some login) table k node eui).1
back_to_by true table k node eui login t e f = rw f t
back_to_by false table k node eui login t e f = rw f (revived_kept table k node eui login t e f)

back_to_kept : (place : Option Login) (table : Table) (k node eui : ℕ) → IsTable table → place_at table.places k ≡ place → IsTable (back_to place table k node eui).1
back_to_kept None table k node eui t e = t
back_to_kept (Some login) table k node eui t e = back_to_by _ table k node eui login t e refl

back_at_kept : (place : Option ℕ) (table : Table) (node eui : ℕ) → IsTable table → IsTable (back_at place table node eui).1
back_at_kept None table node eui t = t
back_at_kept (Some k) table node eui t = back_to_kept _ table k node eui t refl

back_kept : (table : Table) (id node eui : ℕ) → IsTable table → IsTable (back_step table id node eui).1
unfolding back_step
back_kept table id node eui t = back_at_kept _ table node eui t

leave_at_kept : (place : Option ℕ) (table : Table) → IsTable table → IsTable (leave_at place table).1
leave_at_kept None table t = t
leave_at_kept (Some k) table t = record { last = t.last; sound = taken_out table.places k t.sound }

leave_kept : (table : Table) (id node : ℕ) → IsTable table → IsTable (leave_step table id node).1
unfolding leave_step
leave_kept table id node t = leave_at_kept _ table t

held_within : (seconds : Option ℕ) (most : ℕ) → SecondsWithin seconds most → SecondsWithin (Some (held_for seconds most)) most
held_within None most w = (omega arith, omega arith)
held_within (Some seconds) most w = w

held_seconds : (login a : Login) → held (Some login) ≡ Some a → SecondsWithin login.remaining login.hold → SecondsWithin a.remaining a.hold
held_seconds login a e w =
    let is : record login { remaining = Some (held_for login.remaining login.hold) } ≡ a = cc in
    subst (λ (l : Login). SecondsWithin l.remaining l.hold) is (held_within login.remaining login.hold w)

held_from : (place : Option Login) (a : Login) → held place ≡ Some a → CameFrom place a
held_from None a e = absurd (let no : None ≡ Some a = e in cc)
held_from (Some login) a e = record {
  before = login;
  stood = refl;
  came = record { place = grind arith; login = grind arith; unit = grind arith; node = grind arith; eui = grind arith; exclusive = grind arith; live = λ l. grind arith; seconds = λ w. held_seconds login a e w };
}

seconds_live : (seconds : Option ℕ) → is_none (one_less seconds) ≡ true → is_none seconds ≡ true
seconds_live None e = refl
seconds_live (Some n) e = e

seconds_before : (login a : Login) → ticked (Some login) ≡ Some a → is_live a ≡ true → is_live login ≡ true
seconds_before login a e l = seconds_live login.remaining (let s : a.remaining ≡ one_less login.remaining = grind arith in ap is_none (sym s) ∙ l)

-- a login that a second leaves standing
ticked_as : (last : Bool) (login a : Login) → is_last login.remaining ≡ last → ticked (Some login) ≡ Some a → (last ≡ false) × (record login { remaining = one_less login.remaining } ≡ a)
ticked_as true login a f e = absurd (let no : None ≡ Some a = rw f at e in cc)
ticked_as false login a f e = (refl, let is : Some (record login { remaining = one_less login.remaining }) ≡ Some a = rw f at e in cc)

one_less_within : (seconds : Option ℕ) (most : ℕ) → is_last seconds ≡ false → SecondsWithin seconds most → SecondsWithin (one_less seconds) most
one_less_within None most f w = tt
one_less_within (Some seconds) most f w = (grind (arith, nat_tests), omega arith)

ticked_seconds : (login a : Login) → ticked (Some login) ≡ Some a → SecondsWithin login.remaining login.hold → SecondsWithin a.remaining a.hold
ticked_seconds login a e w =
    let t = ticked_as _ login a refl e in
    subst (λ (l : Login). SecondsWithin l.remaining l.hold) t.1 (one_less_within login.remaining login.hold t.0 w)

ticked_from : (place : Option Login) (a : Login) → ticked place ≡ Some a → CameFrom place a
ticked_from None a e = absurd (let no : None ≡ Some a = e in cc)
ticked_from (Some login) a e = record {
  before = login;
  stood = refl;
  came = record { place = grind arith; login = grind arith; unit = grind arith; node = grind arith; eui = grind arith; exclusive = grind arith; live = λ l. seconds_before login a e l; seconds = λ w. ticked_seconds login a e w };
}

pub hold_kept : (table : Table) → IsTable table → IsTable (hold_step table)
hold_kept table t = record {
  last = t.last;
  sound = all_came table.places (map held table.places) (length-map table.places held) (λ i a e. held_from (place_at table.places i) a (sym (get_or-map held table.places i None) ∙ e)) t.sound;
}

pub tick_kept : (table : Table) → IsTable table → IsTable (tick_step table).1
tick_kept table t = record {
  last = t.last;
  sound = all_came table.places (map ticked table.places) (length-map table.places ticked) (λ i a e. ticked_from (place_at table.places i) a (sym (get_or-map ticked table.places i None) ∙ e)) t.sound;
}

pub after_kept : (call : Call) (table : Table) → IsTable table → IsTable (after call table)
after_kept (enter asked) table t = enter_kept table asked t
after_kept (back id node eui) table t = back_kept table id node eui t
after_kept (leave id node) table t = leave_kept table id node t
after_kept hold table t = hold_kept table t
after_kept tick table t = tick_kept table t

-- What holds between the logins holds after every list of calls.
pub always : (calls : List Call) → IsTable (made_by calls)
always [] = record { last = omega arith; sound = new_sound }
always (call ∷ calls) = after_kept call (made_by calls) (always calls)

-- The login that a place has carries the number of the place.
pub numbered_at : (place : Option Login) (table : Table) (k : ℕ) → IsTable table → place_at table.places k ≡ place → IfSome place (IsNumbered k)
numbered_at None table k t e = tt
numbered_at (Some login) table k t e = t.sound.numbered k login e
