-- The laws over every list of calls.
use Rattle.std.specs.Prelude.{◌≡◌, ◌≢◌, ℕ, ◌+◌, ◌≤◌, ◌++◌, reverse, Bool, true, false, List, [], ◌∷◌, position, is_none, Option, Some, None, Ok, Err, refl}
use Rattle.std.proofs.Common.{arith, ap, sym, ◌∙◌, subst}
use Rattle.std.proofs.lemmas.List.{reverse-append}
use Rattle.login_table.specs.declared.login.Login.{Login}
use Rattle.login_table.specs.Requests.{LoginRequest}
use Rattle.login_table.specs.declared.login.Entered.{Entered}
use Rattle.login_table.specs.Table.{Table, place_at, find, is_denied, is_old, left_for, id_at, enter_at, enter_step, is_barred, back_to, back_at, back_step, leave_at, leave_step, fresh_id, next_id}
use Rattle.login_table.specs.Laws.{Call, enter, back, leave, hold, tick, after, made_by, Stands, OneByEuiLaw, OneByNodeLaw, ExclusiveLaw, OneByIdLaw, NumberedLaw, NextIdLaw, IsNextFree, last_by, last_with, last_entered, SecondsLaw, TurnLaw, all_after}
use Rattle.login_table.proofs.Searching.{found_empty}
use Rattle.login_table.proofs.Counting.{next_counted}
use Rattle.login_table.proofs.Sound.{Same, is_same, same, other}
use Rattle.login_table.specs.Sound.{IsTable, SecondsWithin}
use Rattle.login_table.proofs.Kept.{always, new_free, left_sound}

-- two places that would break what is apart are one
one_place : (i j : ℕ) → Same i j → (i ≢ j → i ≡ j) → i ≡ j
one_place i j (same s) f = s
one_place i j (other d) f = f d

pub one_by_eui : OneByEuiLaw
one_by_eui calls i j a b e f u m = one_place i j (is_same i j) (λ d. absurd (((always calls).sound.apart i j a b d e f).euis u m))

pub one_by_node : OneByNodeLaw
one_by_node calls i j a b e f l k u m = one_place i j (is_same i j) (λ d. absurd (((always calls).sound.apart i j a b d e f).nodes u l k m))

exclusive_by : (calls : List Call) (i j : ℕ) (a b : Login) → Same i j → Stands (made_by calls) i a → Stands (made_by calls) j b → a.unit ≡ b.unit → a.exclusive ≡ true → b.eui ≡ a.eui
exclusive_by calls i j a b (same s) e f u x =
    let m : Some b ≡ Some a = sym f ∙ ap (place_at (made_by calls).places) (sym s) ∙ e in
    let is : b ≡ a = cc in
    ap (λ (l : Login). l.eui) is
exclusive_by calls i j a b (other d) e f u x =
    let no = ((always calls).sound.apart i j a b d e f).first u in
    absurd (let clash : true ≡ false = sym x ∙ no in cc)

pub exclusive_alone : ExclusiveLaw
exclusive_alone calls i j a b e f u x = exclusive_by calls i j a b (is_same i j) e f u x

pub one_by_id : OneByIdLaw
one_by_id calls i j a b e f m = one_place i j (is_same i j) (λ d. absurd (((always calls).sound.apart i j a b d e f).ids m))

pub numbered : NumberedLaw
numbered calls i a e = (always calls).sound.numbered i a e

-- the ID entered last is the one that the table keeps
enter_at_last : (place : Option ℕ) (table : Table) (asked : LoginRequest) (left : List (Option Login)) (replaced : Option ℕ) → (enter_at place table left replaced asked).1.last ≡ last_by (enter_at place table left replaced asked).0 table.last
enter_at_last None table asked left replaced = refl
enter_at_last (Some k) table asked left replaced = refl

enter_last_by : (b : Bool) (table : Table) (asked : LoginRequest) → is_denied asked table.places ≡ b → (enter_step table asked).1.last ≡ last_by (enter_step table asked).0 table.last
unfolding enter_step
enter_last_by true table asked e = rw e refl
enter_last_by false table asked e = rw e (enter_at_last _ table asked (left_for asked table.places) _)

back_to_last : (b : Bool) (table : Table) (k node eui : ℕ) (login : Login) → is_barred node eui login table.places ≡ b → (back_to (Some login) table k node eui).1.last ≡ table.last
back_to_last true table k node eui login e = rw e refl
back_to_last false table k node eui login e = rw e refl

back_in_last : (place : Option Login) (table : Table) (k node eui : ℕ) → (back_to place table k node eui).1.last ≡ table.last
back_in_last None table k node eui = refl
back_in_last (Some login) table k node eui = back_to_last _ table k node eui login refl

back_at_last : (place : Option ℕ) (table : Table) (node eui : ℕ) → (back_at place table node eui).1.last ≡ table.last
back_at_last None table node eui = refl
back_at_last (Some k) table node eui = back_in_last (place_at table.places k) table k node eui

leave_at_last : (place : Option ℕ) (table : Table) → (leave_at place table).1.last ≡ table.last
leave_at_last None table = refl
leave_at_last (Some k) table = refl

after_last : (call : Call) (table : Table) → (after call table).last ≡ last_with call table table.last
unfolding back_step leave_step
after_last (enter asked) table = enter_last_by _ table asked refl
after_last (back id node eui) table = back_at_last _ table node eui
after_last (leave id node) table = leave_at_last _ table
after_last hold table = refl
after_last tick table = refl

last_kept : (calls : List Call) → (made_by calls).last ≡ last_entered calls
last_kept [] = refl
last_kept (call ∷ calls) = after_last call (made_by calls) ∙ ap (last_with call (made_by calls)) (last_kept calls)

next_at : (place : Option ℕ) (table : Table) (asked : LoginRequest) (entered : Entered) → IsTable table → position is_none (left_for asked table.places) ≡ place
    → (enter_at place table (left_for asked table.places) (id_at (find (is_old asked) table.places) table.places) asked).0 ≡ Ok entered → IsNextFree table.last entered.login (left_for asked table.places)
next_at None table asked entered t f e = absurd (let no : Err _ ≡ Ok entered = e in cc)
next_at (Some k) table asked entered t f e =
    let left = left_for asked table.places in
    let p = found_empty left k f in
    let s = left_sound asked table.places t.sound in
    let c = next_counted 8 table.last left in
    let free = new_free left k table.last s.size p.0 p.1 t.last in
    let id : fresh_id 8 (next_id table.last) left ≡ entered.login = grind arith in
    subst (λ (x : ℕ). IsNextFree table.last x left) id (record { passed = c.passed; counted = c.counted; free = free; used = c.used })

next_by : (b : Bool) (table : Table) (asked : LoginRequest) (entered : Entered) → is_denied asked table.places ≡ b → IsTable table → (enter_step table asked).0 ≡ Ok entered → IsNextFree table.last entered.login (left_for asked table.places)
unfolding enter_step
next_by true table asked entered d t e = absurd (let no = rw d at e in cc)
next_by false table asked entered d t e = next_at _ table asked entered t refl (let f = rw d at e in f)

pub next_id_free : NextIdLaw
next_id_free calls asked entered e =
    subst (λ (last : ℕ). IsNextFree last entered.login (left_for asked (made_by calls).places)) (last_kept calls)
    (next_by _ (made_by calls) asked entered refl (always calls) e)

seconds_of : (remaining : Option ℕ) (seconds most : ℕ) → SecondsWithin remaining most → remaining ≡ Some seconds → (1 ≤ seconds) × (seconds ≤ most + 1)
seconds_of None seconds most w e = absurd (let no : None ≡ Some seconds = e in cc)
seconds_of (Some n) seconds most w e = let is : n ≡ seconds = cc in subst (λ (m : ℕ). (1 ≤ m) × (m ≤ most + 1)) is w

pub seconds_left : SecondsLaw
seconds_left calls i seconds a e r = seconds_of a.remaining seconds a.hold ((always calls).sound.seconds i a e) r

after_both : (later calls : List Call) (table : Table) → all_after (later ++ calls) table ≡ all_after later (all_after calls table)
after_both [] calls table = refl
after_both (call ∷ later) calls table = ap (after call) (after_both later calls table)

pub calls_in_turn : TurnLaw
calls_in_turn [] table = refl
calls_in_turn (call ∷ calls) table =
    ap (λ (cs : List Call). all_after cs table) (reverse-append (call ∷ []) calls)
    ∙ after_both (reverse calls) (call ∷ []) table
    ∙ calls_in_turn calls (after call table)
