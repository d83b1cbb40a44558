-- What each call of a table of logins makes of its IDs: the logins that stay keep theirs, and one that is entered has the next one, where few were given.
use Rattle.sbp_world.proofs.Words.Std.{arith, ◌≡◌, ◌∙◌, inl, inr, ◌⊎◌, refl, sym, ap, subst, ℕ, zero, suc, ◌+◌, ◌<◌, ◌≤◌, ◌==◌, not, Bool, true, false, cond, List, [], ◌∷◌, map, Option, Some, None, Result, Ok, Err, nat_tests, slice_index_or, slice_set, get_or-map}
use Rattle.sbp_world.proofs.Words.Target.{Login, LoginRefusal, OtherNode, LoginRequest, Table, back_at, back_step, back_to, enter_at, enter_step, entered, find, fresh_id, held, held_for, is_held, is_last, is_live, is_used, leave_at, leave_step, left_for, next_id, one_less, place_at, revived, Function, asked_by, decide, decide_function, decide_login, key_at, lacks_key, unit_exists, with_status, function_of}
use Rattle.sbp_world.proofs.Words.Initiator.{ManagementOrb}
use Rattle.sbp_world.proofs.Words.World.{AreRising}
use Rattle.login_table.specs.Table.{is_barred, ticked}
use Rattle.login_table.proofs.Kept.{left_stood}
use Rattle.login_table.proofs.Searching.{found}
use Rattle.mgmt_agent.specs.declared.decision.Outcome.{Outcome}
use Rattle.mgmt_agent.specs.declared.function.Function.TheVariants as functions
use Rattle.mgmt_agent.specs.declared.status.Status.TheVariants as statuses
use Rattle.sbp_world.proofs.Common.{none_is}

-- ---- a login that stays
pub record Came (places : List (Option Login)) (place : ℕ) (now : Login) : Type 0 where
  pub before : Login
  pub there : place_at places place ≡ Some before
  pub login : now.login ≡ before.login
  pub fifo : now.fifo ≡ before.fifo

abbrev pub AllCame : (before now : List (Option Login)) → Type 0
AllCame before now = (place : ℕ) (login : Login) → place_at now place ≡ Some login → Came before place login

pub record IsStill (t now : Table) : Type 0 where
  pub last : now.last ≡ t.last
  pub came : AllCame t.places now.places

-- one is entered
pub record IsNew (asked : LoginRequest) (last : ℕ) (now : Login) : Type 0 where
  pub login : now.login ≡ last
  pub fifo : now.fifo ≡ asked.fifo
  pub node : now.node ≡ asked.node

pub record IsEntered (asked : LoginRequest) (t now : Table) : Type 0 where
  pub last : now.last ≡ fresh_id 8 (next_id t.last) (left_for asked t.places)
  pub come : (place : ℕ) (login : Login) → place_at now.places place ≡ Some login → IsNew asked now.last login ⊎ (place_at t.places place ≡ Some login)

-- each live login stood before as it is
abbrev pub LivesStood : Table → Table → Type 0
LivesStood t now = (place : ℕ) (login : Login) → place_at now.places place ≡ Some login → is_live login ≡ true → place_at t.places place ≡ Some login

pub same_stood : (t now : Table) → now ≡ t → LivesStood t now
same_stood t now e place login f live = ap (λ (x : Table). place_at x.places place) (sym e) ∙ f

stays : (places : List (Option Login)) (place : ℕ) (login : Login) → place_at places place ≡ Some login → Came places place login
stays places place login e = record { before = login; there = e; login = refl; fifo = refl }

pub all_stay : (t : Table) → IsStill t t
all_stay t = record { last = refl; came = λ place login e. stays t.places place login e }

pub same_stay : (t now : Table) → now ≡ t → IsStill t now
same_stay t now e = subst (IsStill t) (sym e) (all_stay t)

-- ---- calls that decide nothing
held_came : (places : List (Option Login)) (place : ℕ) (x : Option Login) → place_at places place ≡ x → (login : Login) → held x ≡ Some login → Came places place login
held_came places place None e login f = none_is login f
held_came places place (Some own) e login f =
    let is : record own { remaining = Some (held_for own.remaining own.hold) } ≡ login = cc in
    record { before = own; there = e; login = sym (ap (λ (l : Login). l.login) is); fifo = sym (ap (λ (l : Login). l.fifo) is) }

pub held_stay : (t : Table) → IsStill t (record t { places = map held t.places })
held_stay t = record { last = refl; came = λ place login e. held_came t.places place (place_at t.places place) refl login (sym (get_or-map held t.places place None) ∙ e) }

ticked_came : (places : List (Option Login)) (place : ℕ) (x : Option Login) → place_at places place ≡ x → (login : Login) → ticked x ≡ Some login → Came places place login
ticked_came places place None e login f = none_is login f
ticked_came places place (Some own) e login f = by (is_last own.remaining) f
  where
    by : (b : Bool) → cond b None (Some (record own { remaining = one_less own.remaining })) ≡ Some login → Came places place login
    by true g = none_is login g
    by false g =
        let is : record own { remaining = one_less own.remaining } ≡ login = cc in
        record { before = own; there = e; login = sym (ap (λ (l : Login). l.login) is); fifo = sym (ap (λ (l : Login). l.fifo) is) }

pub ticked_stay : (t : Table) → IsStill t (record t { places = map ticked t.places })
ticked_stay t = record { last = refl; came = λ place login e. ticked_came t.places place (place_at t.places place) refl login (sym (get_or-map ticked t.places place None) ∙ e) }

-- ---- a place that is set
set_cases : {A : Type 0} (xs : List A) (k p : ℕ) (x d : A) → ((p ≡ k) × (slice_index_or (slice_set xs k x) p d ≡ x)) ⊎ (slice_index_or (slice_set xs k x) p d ≡ slice_index_or xs p d)
set_cases [] k p x d = inr refl
set_cases (y ∷ ys) zero zero x d = inl (refl, refl)
set_cases (y ∷ ys) zero (suc p) x d = inr refl
set_cases (y ∷ ys) (suc k) zero x d = inr refl
set_cases (y ∷ ys) (suc k) (suc p) x d = by (set_cases ys k p x d)
  where
    by : ((p ≡ k) × (slice_index_or (slice_set ys k x) p d ≡ x)) ⊎ (slice_index_or (slice_set ys k x) p d ≡ slice_index_or ys p d) → ((suc p ≡ suc k) × (slice_index_or (slice_set ys k x) p d ≡ x)) ⊎ (slice_index_or (slice_set ys k x) p d ≡ slice_index_or ys p d)
    by (inl h) = inl (ap suc h.0, h.1)
    by (inr h) = inr h

set_come : (places : List (Option Login)) (k : ℕ) (x : Option Login) (P : ℕ → Login → Type 0) → ((place : ℕ) (login : Login) → place ≡ k → x ≡ Some login → P place login) → ((place : ℕ) (login : Login) → place_at places place ≡ Some login → P place login)
    → (place : ℕ) (login : Login) → place_at (slice_set places k x) place ≡ Some login → P place login
set_come places k x P own others place login e = by (set_cases places k place x None)
  where
    by : ((place ≡ k) × (slice_index_or (slice_set places k x) place None ≡ x)) ⊎ (slice_index_or (slice_set places k x) place None ≡ slice_index_or places place None) → P place login
    by (inl f) = own place login f.0 (sym f.1 ∙ e)
    by (inr f) = others place login (sym f ∙ e)

-- ---- a decision
-- what it makes of the table: a login is entered by one of a login alone
pub data Decides (orb : ManagementOrb) (source eui : ℕ) (t now : Table) : Type 0 where
  leaves : IsStill t now → LivesStood t now → Decides orb source eui t now
  returns : function_of orb.function ≡ Some functions.Reconnect → IsStill t now → ((place : ℕ) (login : Login) → place_at now.places place ≡ Some login → is_live login ≡ true → (place_at t.places place ≡ Some login) ⊎ ((login.login ≡ orb.subject) × (login.node ≡ source))) → Decides orb source eui t now
  enters : function_of orb.function ≡ Some functions.Login → IsEntered (asked_by orb source eui) t now → Decides orb source eui t now

enter_by : (place : Option ℕ) (table : Table) (replaced : Option ℕ) (asked : LoginRequest) → ((enter_at place table (left_for asked table.places) replaced asked).1 ≡ table) ⊎ IsEntered asked table (enter_at place table (left_for asked table.places) replaced asked).1
enter_by None table replaced asked = inl refl
enter_by (Some k) table replaced asked =
    let left = left_for asked table.places in
    let id = fresh_id 8 (next_id table.last) left in
    inr (record {
      last = refl;
      come = set_come left k (Some (entered asked k id)) (λ place login. IsNew asked id login ⊎ (place_at table.places place ≡ Some login))
          (λ place login same e. let is : entered asked k id ≡ login = cc in inl (record { login = sym (ap (λ (l : Login). l.login) is); fifo = sym (ap (λ (l : Login). l.fifo) is); node = sym (ap (λ (l : Login). l.node) is) }))
          (λ place login e. inr (left_stood asked table.places place login e));
    })

leave_stay : (found : Option ℕ) (table : Table) → IsStill table (leave_at found table).1
leave_stay None table = all_stay table
leave_stay (Some place) table = record { last = refl; came = set_come table.places place None (Came table.places) (λ k login same f. none_is login f) (stays table.places) }

leave_stood : (found : Option ℕ) (table : Table) → LivesStood table (leave_at found table).1
leave_stood None table = same_stood table table refl
leave_stood (Some place) table = λ k login e live. set_come table.places place None (λ p x. place_at table.places p ≡ Some x) (λ p x same f. none_is x f) (λ p x f. f) k login e

module _ (orb : ManagementOrb) (source eui : ℕ) (table : Table) (keys : List (List ℕ)) where
  abbrev Makes : Table → Type 0
  Makes now = Decides orb source eui table now

  nothing : Makes table
  nothing = leaves (all_stay table) (same_stood table table refl)

  pick : (b : Bool) (x y : Outcome × Table) → Makes x.1 → Makes y.1 → Makes (cond b x y).1
  pick true x y h k = h
  pick false x y h k = k

  pick_entered : {A : Type 0} (b : Bool) (x y : A × Table) → Makes x.1 → Makes y.1 → Makes (cond b x y).1
  pick_entered true x y h k = h
  pick_entered false x y h k = k

  entered_by : (now : Table) → function_of orb.function ≡ Some functions.Login → (now ≡ table) ⊎ IsEntered (asked_by orb source eui) table now → Makes now
  entered_by now f (inl h) = leaves (same_stay table now h) (same_stood table now h)
  entered_by now f (inr h) = enters f h

  login_makes : function_of orb.function ≡ Some functions.Login → Makes (decide_login orb source eui table keys).1
  unfolding enter_step
  login_makes f =
      pick (not (unit_exists orb.subject keys)) _ _ nothing
      (pick (lacks_key (key_at orb.subject keys) orb) _ _ nothing
      (pick_entered _ _ (enter_at _ table _ _ (asked_by orb source eui)) nothing (entered_by _ f (enter_by _ table _ (asked_by orb source eui)))))

  -- a held login comes back
  back_makes : function_of orb.function ≡ Some functions.Reconnect → (own : Login) (place : ℕ) → place_at table.places place ≡ Some own → own.login ≡ orb.subject → Makes (back_to (Some own) table place source eui).1
  back_makes f own place e id = by (is_barred source eui own table.places)
    where
      came : (k : ℕ) (login : Login) → k ≡ place → Some (revived source own) ≡ Some login → Came table.places k login
      came k login same g =
          let is : revived source own ≡ login = cc in
          record { before = own; there = ap (place_at table.places) same ∙ e; login = sym (ap (λ (l : Login). l.login) is); fifo = sym (ap (λ (l : Login). l.fifo) is) }

      back : (k : ℕ) (login : Login) → k ≡ place → Some (revived source own) ≡ Some login → (place_at table.places k ≡ Some login) ⊎ ((login.login ≡ orb.subject) × (login.node ≡ source))
      back k login same g =
          let is : revived source own ≡ login = cc in
          inr (sym (ap (λ (l : Login). l.login) is) ∙ id, sym (ap (λ (l : Login). l.node) is))

      by : (b : Bool) → Makes (cond {A = Result ℕ LoginRefusal × Table} b (Err OtherNode, table) (Ok place, record table { places = slice_set table.places place (Some (revived source own)) })).1
      by true = nothing
      by false = returns f (record { last = refl; came = set_come table.places place (Some (revived source own)) (Came table.places) came (stays table.places) })
          (λ k login g live. set_come table.places place (Some (revived source own)) (λ p x. (place_at table.places p ≡ Some x) ⊎ ((x.login ≡ orb.subject) × (x.node ≡ source))) back (λ p x h. inl h) k login g)

  held_is : (own : Login) → is_held orb.subject own ≡ true → own.login ≡ orb.subject
  held_is own e = grind (arith, nat_tests)

  back_at_makes : function_of orb.function ≡ Some functions.Reconnect → (place : Option ℕ) → find (is_held orb.subject) table.places ≡ place → Makes (back_at place table source eui).1
  back_at_makes f None e = nothing
  back_at_makes f (Some place) e =
      let x = found (is_held orb.subject) table.places place e in
      subst (λ (o : Option Login). Makes (back_to o table place source eui).1) (sym x.stands) (back_makes f x.login place x.stands (held_is x.login x.passes))

  reconnect_makes : function_of orb.function ≡ Some functions.Reconnect → Makes (back_step table orb.subject source eui).1
  unfolding back_step
  reconnect_makes f = back_at_makes f (find (is_held orb.subject) table.places) refl

  logout_makes : Makes (leave_step table orb.subject source).1
  unfolding leave_step
  logout_makes = leaves (leave_stay _ table) (leave_stood _ table)

  function_makes : (function : Option Function) → function_of orb.function ≡ function → Makes (decide_function function orb source eui table keys).1
  function_makes None e = nothing
  function_makes (Some functions.Login) e = login_makes e
  function_makes (Some functions.Query) e = nothing
  function_makes (Some functions.Reconnect) e = reconnect_makes e
  function_makes (Some functions.Logout) e = logout_makes
  function_makes (Some functions.Abort) e = nothing
  function_makes (Some functions.AbortSet) e = nothing
  function_makes (Some functions.UnitReset) e = nothing
  function_makes (Some functions.TargetReset) e = nothing

  pub decide_makes : Makes (decide orb source eui table keys).1
  unfolding decide
  decide_makes = pick (orb.format == 0) (decide_function (function_of orb.function) orb source eui table keys) (with_status statuses.RequestType, table) (function_makes (function_of orb.function) refl) nothing

-- ---- the ID of a new login
fails_all : (id : ℕ) (places : List (Option Login)) → ((place : ℕ) (login : Login) → place_at places place ≡ Some login → login.login < id) → is_used id places ≡ false
fails_all id [] h = refl
fails_all id (None ∷ places) h = fails_all id places (λ place login e. h (suc place) login e)
fails_all id (Some own ∷ places) h =
    let first = h zero own refl in
    let rest = fails_all id places (λ place login e. h (suc place) login e) in
    grind (arith, nat_tests)

fresh_first : (tries id : ℕ) (places : List (Option Login)) → is_used id places ≡ false → fresh_id (suc tries) id places ≡ id
unfolding fresh_id
fresh_first tries id places e = ap (λ b. cond b (fresh_id tries (next_id id) places) id) e

next_more : (last : ℕ) → last < 65535 → next_id last ≡ last + 1
next_more last l = grind (arith, nat_tests)

-- it is the next one
pub entered_next : (asked : LoginRequest) (t now : Table) → AreRising t → t.last < 65535 → IsEntered asked t now → now.last ≡ t.last + 1
entered_next asked t now rising few x =
    let next = next_more t.last few in
    let free : is_used (next_id t.last) (left_for asked t.places) ≡ false =
    fails_all (next_id t.last) (left_for asked t.places) (λ place login e. let l = rising place login (left_stood asked t.places place login e) in omega (arith, l, next)) in
    x.last ∙ (fresh_first 7 (next_id t.last) (left_for asked t.places) free ∙ next)

still_rises : (t now : Table) → IsStill t now → AreRising t → AreRising now
still_rises t now x rising place login e =
    let c = x.came place login e in
    let l = rising place c.before c.there in
    let a = c.login in
    let b = x.last in
    omega (arith, l, a, b)

entered_rises : (asked : LoginRequest) (t now : Table) → AreRising t → now.last ≡ t.last + 1 → IsEntered asked t now → AreRising now
entered_rises asked t now rising next x place login e = by (x.come place login e)
  where
    by : IsNew asked now.last login ⊎ (place_at t.places place ≡ Some login) → login.login ≤ now.last
    by (inl n) = let a = n.login in omega (arith, a)
    by (inr c) = let l = rising place login c in omega (arith, l, next)

-- what a turn makes of a table whose last ID is known
pub record Rises (t now : Table) : Type 0 where
  pub rising : AreRising now
  pub most : now.last ≤ t.last + 1
  pub least : t.last ≤ now.last

pub still_more : (t now : Table) → IsStill t now → AreRising t → Rises t now
still_more t now x rising = record { rising = still_rises t now x rising; most = (let e = x.last in omega (arith, e)); least = (let e = x.last in omega (arith, e)) }

pub decided_more : (orb : ManagementOrb) (source eui : ℕ) (t now : Table) → AreRising t → t.last < 65535 → Decides orb source eui t now → Rises t now
decided_more orb source eui t now rising few (leaves x lives) = still_more t now x rising
decided_more orb source eui t now rising few (returns f x lives) = still_more t now x rising
decided_more orb source eui t now rising few (enters f x) =
    let next = entered_next (asked_by orb source eui) t now rising few x in
    record { rising = entered_rises (asked_by orb source eui) t now rising next x; most = omega (arith, next); least = omega (arith, next) }
