-- A held login stays until its seconds are over.
use Rattle.std.specs.Prelude.{nat_eq, ◌≡◌, ◌≢◌, ℕ, ◌+◌, ◌-◌, ◌≤◌, Bool, true, false, List, [], ◌∷◌, position, is_none, Option, Some, None, refl}
use Rattle.std.proofs.Common.{arith, set, ap, sym, ◌∙◌, subst}
use Rattle.std.proofs.Math.ListN.{get_or-map}
use Rattle.std.proofs.lemmas.List.{get_or-set_other}
use Rattle.std.specs.Result.{IsErr}
use Rattle.login_table.specs.declared.login.Login.{Login}
use Rattle.login_table.specs.Requests.{LoginRequest}
use Rattle.login_table.specs.Table.{expired_id, Table, place_at, find, is_live, is_denied, is_old, left_for, without, enter_at, enter_step, is_held, revived, is_barred, back_to, back_at, back_step, is_live_of, leave_at, leave_step, held, hold_step, ticked}
use Rattle.login_table.specs.Laws.{ExpiryLaw, IsOver, Call, enter, back, leave, hold, tick, after, all_after, Stands, HeldLaw, ticks_of, ticks, Leaves, LiveLaw, Spares}
use Rattle.login_table.proofs.Searching.{found, found_empty}
use Rattle.login_table.proofs.Listed.{given_to}
use Rattle.std.proofs.lemmas.Bool.Decides.{nat_tests}

-- the login with so many seconds left
abbrev waiting : Login → ℕ → Login
waiting login seconds = record login { remaining = Some seconds }

set_stands : (places : List (Option Login)) (k i : ℕ) (x : Login) (y : Option Login) → place_at places i ≡ Some x → i ≢ k → place_at (set places k y) i ≡ Some x
set_stands places k i x y e d = get_or-set_other places k i y None d ∙ e

-- A login that fails the test is not the one found.
not_it : (test : Login → Bool) (places : List (Option Login)) (k i : ℕ) (x : Login) → place_at places i ≡ Some x → test x ≡ false → find test places ≡ Some k → i ≢ k
not_it test places k i x e t f s =
    let p = found test places k f in
    let own : Some p.login ≡ Some x = sym p.stands ∙ ap (place_at places) (sym s) ∙ e in
    let is : p.login ≡ x = cc in
    let clash : true ≡ false = sym p.passes ∙ ap test is ∙ t in cc

without_stands : (place : Option ℕ) (test : Login → Bool) (places : List (Option Login)) (i : ℕ) (x : Login) → find test places ≡ place → place_at places i ≡ Some x → test x ≡ false → place_at (without place places) i ≡ Some x
without_stands None test places i x f e t = e
without_stands (Some k) test places i x f e t = set_stands places k i x None e (not_it test places k i x e t f)

left_stands : (asked : LoginRequest) (places : List (Option Login)) (i : ℕ) (x : Login) → place_at places i ≡ Some x → is_old asked x ≡ false → place_at (left_for asked places) i ≡ Some x
unfolding left_for
left_stands asked places i x e t = without_stands _ (is_old asked) places i x refl e t

enter_at_stands : (place : Option ℕ) (table : Table) (asked : LoginRequest) (left : List (Option Login)) (replaced : Option ℕ) (i : ℕ) (x : Login) → position is_none left ≡ place → place_at table.places i ≡ Some x → place_at left i ≡ Some x → Stands (enter_at place table left replaced asked).1 i x
enter_at_stands None table asked left replaced i x f e g = e
enter_at_stands (Some k) table asked left replaced i x f e g =
    let p = found_empty left k f in
    set_stands left k i x _ g (λ s. let no : Some x ≡ None = sym g ∙ ap (place_at left) s ∙ p.1 in cc)

enter_by_stands : (b : Bool) (table : Table) (asked : LoginRequest) (i : ℕ) (x : Login) → is_denied asked table.places ≡ b → Stands table i x → is_old asked x ≡ false → Stands (enter_step table asked).1 i x
unfolding enter_step
enter_by_stands true table asked i x d e t = rw d e
enter_by_stands false table asked i x d e t = rw d (enter_at_stands _ table asked (left_for asked table.places) _ i x refl e (left_stands asked table.places i x e t))

enter_at_refused : (place : Option ℕ) (table : Table) (asked : LoginRequest) (left : List (Option Login)) (replaced : Option ℕ) → IsErr (enter_at place table left replaced asked).0 → (enter_at place table left replaced asked).1 ≡ table
enter_at_refused None table asked left replaced r = refl
enter_at_refused (Some k) table asked left replaced r = absurd (let no : false ≡ true = r in cc)

-- A login that is refused leaves the table as it was.
enter_refused : (b : Bool) (table : Table) (asked : LoginRequest) → is_denied asked table.places ≡ b → IsErr (enter_step table asked).0 → (enter_step table asked).1 ≡ table
unfolding enter_step
enter_refused true table asked d r = rw d refl
enter_refused false table asked d r = rw d (enter_at_refused (position is_none (left_for asked table.places)) table asked (left_for asked table.places) _ (let q = rw d at r in q))

enter_stands : (b : Bool) (table : Table) (asked : LoginRequest) (i : ℕ) (login : Login) (seconds : ℕ) → is_old asked (waiting login seconds) ≡ b → Stands table i (waiting login seconds) → (asked.unit ≡ login.unit → asked.eui ≡ login.eui → IsErr (enter_step table asked).0) → Stands (enter_step table asked).1 i (waiting login seconds)
enter_stands false table asked i login seconds o e l = enter_by_stands _ table asked i (waiting login seconds) refl e o
enter_stands true table asked i login seconds o e l =
    let u : asked.unit ≡ login.unit = grind arith in
    let m : asked.eui ≡ login.eui = grind arith in
    ap (λ (t : Table). place_at t.places i) (enter_refused _ table asked refl (l u m)) ∙ e

back_by_refused : (b : Bool) (table : Table) (k node eui : ℕ) (other : Login) → is_barred node eui other table.places ≡ b → IsErr (back_to (Some other) table k node eui).0 → (back_to (Some other) table k node eui).1 ≡ table
back_by_refused true table k node eui other f r = rw f refl
back_by_refused false table k node eui other f r = absurd (let no : false ≡ true = rw f at r in cc)

back_to_refused : (place : Option Login) (table : Table) (k node eui : ℕ) → IsErr (back_to place table k node eui).0 → (back_to place table k node eui).1 ≡ table
back_to_refused None table k node eui r = refl
back_to_refused (Some other) table k node eui r = back_by_refused _ table k node eui other refl r

back_at_refused : (place : Option ℕ) (table : Table) (node eui : ℕ) → IsErr (back_at place table node eui).0 → (back_at place table node eui).1 ≡ table
back_at_refused None table node eui r = refl
back_at_refused (Some k) table node eui r = back_to_refused (place_at table.places k) table k node eui r

-- A reconnect that is refused leaves the table as it was.
back_refused : (table : Table) (id node eui : ℕ) → IsErr (back_step table id node eui).0 → (back_step table id node eui).1 ≡ table
unfolding back_step
back_refused table id node eui r = back_at_refused (find (is_held id) table.places) table node eui r

back_by_stands : (b : Bool) (table : Table) (k node eui i : ℕ) (other x : Login) → is_barred node eui other table.places ≡ b → Stands table i x → i ≢ k → Stands (back_to (Some other) table k node eui).1 i x
back_by_stands true table k node eui i other x f e d = rw f e
back_by_stands false table k node eui i other x f e d = rw f (set_stands table.places k i x (Some (revived node other)) e d)

back_to_stands : (place : Option Login) (table : Table) (k node eui i : ℕ) (x : Login) → Stands table i x → i ≢ k → Stands (back_to place table k node eui).1 i x
back_to_stands None table k node eui i x e d = e
back_to_stands (Some other) table k node eui i x e d = back_by_stands _ table k node eui i other x refl e d

back_at_stands : (place : Option ℕ) (table : Table) (id node eui i : ℕ) (x : Login) → find (is_held id) table.places ≡ place → Stands table i x → is_held id x ≡ false → Stands (back_at place table node eui).1 i x
back_at_stands None table id node eui i x f e t = e
back_at_stands (Some k) table id node eui i x f e t = back_to_stands _ table k node eui i x e (not_it (is_held id) table.places k i x e t f)

leave_at_stands : (place : Option ℕ) (table : Table) (id node i : ℕ) (x : Login) → find (is_live_of id node) table.places ≡ place → Stands table i x → is_live_of id node x ≡ false → Stands (leave_at place table).1 i x
leave_at_stands None table id node i x f e t = e
leave_at_stands (Some k) table id node i x f e t = set_stands table.places k i x None e (not_it (is_live_of id node) table.places k i x e t f)

ticked_stands : (login : Login) (seconds : ℕ) → 2 ≤ seconds → ticked (Some (waiting login seconds)) ≡ Some (waiting login (seconds - 1))
ticked_stands login seconds h = grind arith

back_stands : (b : Bool) (table : Table) (id node eui i : ℕ) (login : Login) (seconds : ℕ) → nat_eq login.login id ≡ b → Stands table i (waiting login seconds) → (id ≡ login.login → IsErr (back_step table id node eui).0) → Stands (back_step table id node eui).1 i (waiting login seconds)
unfolding back_step
back_stands false table id node eui i login seconds o e l = back_at_stands _ table id node eui i (waiting login seconds) refl e o
back_stands true table id node eui i login seconds o e l =
    ap (λ (t : Table). place_at t.places i) (back_refused table id node eui (l (grind arith))) ∙ e

after_stands : (call : Call) (table : Table) (i : ℕ) (login : Login) (seconds : ℕ) → Stands table i (waiting login seconds) → Leaves login call table → 1 + ticks_of call ≤ seconds → Stands (after call table) i (waiting login (seconds - ticks_of call))
unfolding back_step leave_step
after_stands (enter asked) table i login seconds e l h =
    subst (λ (n : ℕ). Stands (enter_step table asked).1 i (waiting login n)) (omega arith) (enter_stands _ table asked i login seconds refl e l)
after_stands (back id node eui) table i login seconds e l h =
    subst (λ (n : ℕ). Stands (back_step table id node eui).1 i (waiting login n)) (omega arith) (back_stands _ table id node eui i login seconds refl e l)
after_stands (leave id node) table i login seconds e l h =
    subst (λ (n : ℕ). Stands (leave_step table id node).1 i (waiting login n)) (omega arith) (leave_at_stands _ table id node i (waiting login seconds) refl e refl)
after_stands hold table i login seconds e l h =
    subst (λ (n : ℕ). Stands (hold_step table) i (waiting login n)) (omega arith) (get_or-map held table.places i None ∙ ap held e)
after_stands tick table i login seconds e l h = get_or-map ticked table.places i None ∙ ap ticked e ∙ ticked_stands login seconds h

held_by : (login : Login) (remaining : Option ℕ) → login.remaining ≡ remaining → is_none remaining ≡ true → held (Some login) ≡ Some (waiting login (login.hold + 1 - 0))
held_by login None e l = let n : login.hold + 1 ≡ login.hold + 1 - 0 = omega arith in rw e (ap (λ (m : ℕ). Some (waiting login m)) n)
held_by login (Some n) e l = absurd (let no : false ≡ true = l in cc)

first_held : (login : Login) → is_live login ≡ true → held (Some login) ≡ Some (waiting login (login.hold + 1 - 0))
first_held login l = held_by login login.remaining refl l

pub held_for_its_seconds : HeldLaw
held_for_its_seconds table i login [] e l c h = get_or-map held table.places i None ∙ ap held e ∙ first_held login l
held_for_its_seconds table i login (call ∷ calls) e l c h =
    let before = held_for_its_seconds table i login calls e l c.1 (omega arith) in
    subst (λ (n : ℕ). Stands (after call (all_after calls (hold_step table))) i (waiting login n)) (omega arith)
    (after_stands call (all_after calls (hold_step table)) i login (login.hold + 1 - ticks calls) before c.0 (omega arith))

last_second : (table : Table) (i : ℕ) (login : Login) → Stands table i (waiting login 1) → IsOver table i login
last_second table i login e = record { told = given_to expired_id table.places i login.login refl (ap expired_id e); gone = get_or-map ticked table.places i None ∙ ap ticked e }

pub expires_after_its_seconds : ExpiryLaw
expires_after_its_seconds table i login calls e l c h =
    let before = held_for_its_seconds table i login calls e l c (omega arith) in
    last_second (all_after calls (hold_step table)) i login
    (subst (λ (n : ℕ). Stands (all_after calls (hold_step table)) i (waiting login n)) (omega arith) before)

not_of : (id node : ℕ) (x : Login) → (id ≡ x.login → node ≢ x.node) → is_live_of id node x ≡ false
not_of id node x s = grind (arith, nat_tests)

ticked_live : (remaining : Option ℕ) (x : Login) → x.remaining ≡ remaining → is_live x ≡ true → ticked (Some x) ≡ Some x
ticked_live None x e l = rw e refl
ticked_live (Some n) x e l = absurd (let no : false ≡ true = rw e at l in cc)

-- A live login stands as it is after a call that spares it.
live_after : (call : Call) (table : Table) (i : ℕ) (x : Login) → Stands table i x → is_live x ≡ true → Spares x call → Stands (after call table) i x
unfolding back_step leave_step
live_after (enter asked) table i x e l s = enter_by_stands _ table asked i x refl e (grind arith)
live_after (back id node eui) table i x e l s = back_at_stands _ table id node eui i x refl e (grind arith)
live_after (leave id node) table i x e l s = leave_at_stands _ table id node i x refl e (not_of id node x s)
live_after hold table i x e l s = absurd s
live_after tick table i x e l s = get_or-map ticked table.places i None ∙ ap ticked e ∙ ticked_live _ x refl l

pub live_until_it_leaves : LiveLaw
live_until_it_leaves table i x [] e l s = e
live_until_it_leaves table i x (call ∷ calls) e l s = live_after call (all_after calls table) i x (live_until_it_leaves table i x calls e l s.1) l s.0
