-- What each decision does beside its status.
use Rattle.std.specs.Prelude.{◌≡◌, ◌≢◌, ℕ, ◌%◌, ◌^◌, ◌<◌, ◌==◌, not, Bool, true, false, cond, List, length, position, is_none, Option, Some, None, refl}
use Rattle.std.proofs.Common.{arith, ap, sym, ◌∙◌, subst}
use Rattle.std.proofs.lemmas.Bool.Decides.{nat_tests}
use Rattle.std.proofs.lemmas.List.{get_or-set_same}
use Rattle.orb_layout.specs.declared.management.ManagementOrb.{ManagementOrb}
use Rattle.login_table.specs.declared.login.Login.{Login}
use Rattle.login_table.specs.Table.{Table, find, is_live_of, is_held, is_denied, is_old, is_barred, id_at, left_for, enter_at, enter_step, back_at, back_to, back_step, leave_at, leave_step, revived}
use Rattle.login_table.specs.Sound.{IsTable}
use Rattle.login_table.proofs.Searching.{found, found_empty}
use Rattle.mgmt_agent.specs.declared.function.Function.{Function}
use Rattle.mgmt_agent.specs.declared.function.Function.TheVariants as functions
use Rattle.mgmt_agent.specs.declared.status.Status.TheVariants as statuses
use Rattle.mgmt_agent.specs.declared.decision.Effect.{Effect}
use Rattle.mgmt_agent.specs.declared.decision.Effect.TheVariants as effects
use Rattle.mgmt_agent.specs.declared.decision.Outcome.{Outcome}
use Rattle.mgmt_agent.specs.declared.decision.Response.TheVariants as responses
use Rattle.mgmt_agent.specs.Statuses.{function_of}
use Rattle.mgmt_agent.specs.Decisions.{asked_by, back_decided, decide, decide_function, effect_of, key_at, lacks_key, left_decided, live_login, login_decided, login_in, on_login, unit_exists, with_status}
use Rattle.mgmt_agent.specs.Effects.{StandsFor, Enters, Returns, Leaves, ActsOn, Does, EffectLaw}

-- A login that is found live for the node stands for it.
stands_for : (table : Table) (id node k : ℕ) → find (is_live_of id node) table.places ≡ Some k → StandsFor table id node k
stands_for table id node k e =
    let f = found (is_live_of id node) table.places k e in
    let p = f.passes in
    record { login = f.login; stands = f.stands; live = grind (arith, nat_tests); own = grind (arith, nat_tests); of_node = grind (arith, nat_tests) }

acts_at : (place : Option ℕ) (effect : Login → Effect) (make : ℕ → ℕ → Effect) (table : Table) (id node : ℕ) → IsTable table → ((k : ℕ) (l : Login) → l.place ≡ k → effect l ≡ make k l.unit) → find (is_live_of id node) table.places ≡ place → (on_login effect (login_in place table.places)).status ≡ statuses.NoFault
    → ActsOn id node make (on_login effect (login_in place table.places)) table
acts_at None effect make table id node t tied e s = absurd (let no : statuses.LoginId ≡ statuses.NoFault = s in cc)
acts_at (Some k) effect make table id node t tied e s =
    let f = stands_for table id node k e in
    record { place = k; stands = f; does = ap (λ (o : Option Login). (on_login effect o).effect) f.stands ∙ tied k f.login (t.sound.numbered k f.login f.stands).own }

acts : (effect : Login → Effect) (make : ℕ → ℕ → Effect) (table : Table) (id node : ℕ) → IsTable table → ((k : ℕ) (l : Login) → l.place ≡ k → effect l ≡ make k l.unit) → (on_login effect (live_login table.places id node)).status ≡ statuses.NoFault
    → ActsOn id node make (on_login effect (live_login table.places id node)) table
unfolding live_login
acts effect make table id node t tied s = acts_at _ effect make table id node t tied refl s

leaves_at : (place : Option ℕ) (table : Table) (id node : ℕ) → find (is_live_of id node) table.places ≡ place → (left_decided (leave_at place table).0).status ≡ statuses.NoFault
    → Leaves id node (left_decided (leave_at place table).0) table (leave_at place table).1
leaves_at None table id node e s = absurd (let no : statuses.LoginId ≡ statuses.NoFault = s in cc)
leaves_at (Some k) table id node e s =
    let f = found (is_live_of id node) table.places k e in
    record { place = k; effect = refl; stood = stands_for table id node k e; gone = get_or-set_same table.places k None None f.below }

leaves : (table : Table) (id node : ℕ) → (left_decided (leave_step table id node).0).status ≡ statuses.NoFault → Leaves id node (left_decided (leave_step table id node).0) table (leave_step table id node).1
unfolding leave_step
leaves table id node s = leaves_at _ table id node refl s

returns_by : (b : Bool) (table : Table) (k id node eui : ℕ) (login : Login) → is_barred node eui login table.places ≡ b → k < length table.places → login.login ≡ id → (back_decided (back_to (Some login) table k node eui).0).status ≡ statuses.NoFault
    → Returns id node (back_decided (back_to (Some login) table k node eui).0) (back_to (Some login) table k node eui).1
returns_by true table k id node eui login f h o s = absurd (let no : statuses.AccessDenied ≡ statuses.NoFault = rw f at s in cc)
returns_by false table k id node eui login f h o s =
    rw f (record { place = k; effect = refl; stands = record { login = revived node login; stands = get_or-set_same table.places k (Some (revived node login)) None h; live = refl; own = o; of_node = refl } })

returns_at : (place : Option ℕ) (table : Table) (id node eui : ℕ) → find (is_held id) table.places ≡ place → (back_decided (back_at place table node eui).0).status ≡ statuses.NoFault
    → Returns id node (back_decided (back_at place table node eui).0) (back_at place table node eui).1
returns_at None table id node eui e s = absurd (let no : statuses.LoginId ≡ statuses.NoFault = s in cc)
returns_at (Some k) table id node eui e s =
    let f = found (is_held id) table.places k e in
    let p = f.passes in
    let own : f.login.login ≡ id = grind (arith, nat_tests) in
    let st = f.stands in
    subst (λ (o : Option Login). (back_decided (back_to o table k node eui).0).status ≡ statuses.NoFault → Returns id node (back_decided (back_to o table k node eui).0) (back_to o table k node eui).1) (sym st) (returns_by _ table k id node eui f.login refl f.below own) s

returns_to : (table : Table) (id node eui : ℕ) → (back_decided (back_step table id node eui).0).status ≡ statuses.NoFault → Returns id node (back_decided (back_step table id node eui).0) (back_step table id node eui).1
unfolding back_step
returns_to table id node eui s = returns_at _ table id node eui refl s

-- what a login enters, where its status is 00
abbrev EntersWhere : ManagementOrb → ℕ → ℕ → Outcome × Table → Type 0
EntersWhere orb source eui s = s.0.status ≡ statuses.NoFault → Enters orb source eui s.0 s.1

enters_at : (place : Option ℕ) (orb : ManagementOrb) (source eui : ℕ) (table : Table) (left : List (Option Login)) (replaced : Option ℕ) → position is_none left ≡ place
    → let s = enter_at place table left replaced (asked_by orb source eui) in EntersWhere orb source eui (login_decided orb s.0, s.1)
enters_at None orb source eui table left replaced e s = absurd (let no : statuses.Resources ≡ statuses.NoFault = s in cc)
enters_at (Some k) orb source eui table left replaced e s =
    let p = found_empty left k e in
    record { place = k; replaced = replaced; effect = refl; stands = get_or-set_same left k _ None p.0; response = refl }

enters_by : (b : Bool) (orb : ManagementOrb) (source eui : ℕ) (table : Table) → is_denied (asked_by orb source eui) table.places ≡ b
    → EntersWhere orb source eui (login_decided orb (enter_step table (asked_by orb source eui)).0, (enter_step table (asked_by orb source eui)).1)
unfolding enter_step
enters_by true orb source eui table e = rw e (λ s. absurd (let no : statuses.AccessDenied ≡ statuses.NoFault = s in cc))
enters_by false orb source eui table e =
    rw e (enters_at _ orb source eui table (left_for (asked_by orb source eui) table.places) (id_at (find (is_old (asked_by orb source eui)) table.places) table.places) refl)

enters_third : (u l : Bool) (orb : ManagementOrb) (source eui : ℕ) (x y z : Outcome × Table) → x.0.status ≢ statuses.NoFault → y.0.status ≢ statuses.NoFault → EntersWhere orb source eui z → EntersWhere orb source eui (cond (not u) x (cond l y z))
enters_third true true orb source eui x y z p q r s = absurd (q s)
enters_third true false orb source eui x y z p q r s = r s
enters_third false l orb source eui x y z p q r s = absurd (p s)

queries : (b : Bool) (orb : ManagementOrb) (x y : Outcome) → y.status ≢ statuses.NoFault → (cond b x y).status ≡ statuses.NoFault → cond b x y ≡ x
queries true orb x y p s = refl
queries false orb x y p s = absurd (p s)

function_does : (function : Function) (orb : ManagementOrb) (source eui : ℕ) (table : Table) (keys : List (List ℕ)) → IsTable table → (decide_function (Some function) orb source eui table keys).0.status ≡ statuses.NoFault
    → Does function orb source eui table (decide_function (Some function) orb source eui table keys).0 (decide_function (Some function) orb source eui table keys).1
function_does functions.Login orb source eui table keys t s =
    enters_third (unit_exists orb.subject keys) (lacks_key (key_at orb.subject keys) orb) orb source eui (with_status statuses.LogicalUnit, table) (with_status statuses.AccessDenied, table) (login_decided orb (enter_step table (asked_by orb source eui)).0, (enter_step table (asked_by orb source eui)).1) (λ n. let no : statuses.LogicalUnit ≡ statuses.NoFault = n in cc) (λ n. let no : statuses.AccessDenied ≡ statuses.NoFault = n in cc) (enters_by _ orb source eui table refl) s
function_does functions.Query orb source eui table keys t s =
    let q = queries (unit_exists orb.subject keys) orb (record { status = statuses.NoFault; login = 0; effect = effects.Nothing; response = responses.Query orb.subject }) (with_status statuses.LogicalUnit) (λ n. let no : statuses.LogicalUnit ≡ statuses.NoFault = n in cc) s in
    (ap (λ (o : Outcome). o.effect) q, ap (λ (o : Outcome). o.response) q)
function_does functions.Reconnect orb source eui table keys t s = returns_to table orb.subject source eui s
function_does functions.Logout orb source eui table keys t s = leaves table orb.subject source s
function_does functions.Abort orb source eui table keys t s = acts (effect_of functions.Abort orb) (λ place unit. effects.Abort place (orb.first % 2 ^ 48)) table orb.subject source t (λ k l e. ap (λ (p : ℕ). effects.Abort p (orb.first % 2 ^ 48)) e) s
function_does functions.AbortSet orb source eui table keys t s = acts (effect_of functions.AbortSet orb) (λ place unit. effects.AbortSet place) table orb.subject source t (λ k l e. ap (λ (p : ℕ). effects.AbortSet p) e) s
function_does functions.UnitReset orb source eui table keys t s = acts (effect_of functions.UnitReset orb) (λ place unit. effects.UnitReset unit) table orb.subject source t (λ k l e. refl) s
function_does functions.TargetReset orb source eui table keys t s = acts (effect_of functions.TargetReset orb) (λ place unit. effects.TargetReset) table orb.subject source t (λ k l e. refl) s

first_does : (b : Bool) (function : Function) (orb : ManagementOrb) (source eui : ℕ) (table : Table) (x y : Outcome × Table) → (x.0.status ≡ statuses.NoFault → Does function orb source eui table x.0 x.1) → y.0.status ≢ statuses.NoFault → (cond b x y).0.status ≡ statuses.NoFault → Does function orb source eui table (cond b x y).0 (cond b x y).1
first_does true function orb source eui table x y p q s = p s
first_does false function orb source eui table x y p q s = absurd (q s)

named_does : (known : Option Function) (function : Function) (orb : ManagementOrb) (source eui : ℕ) (table : Table) (keys : List (List ℕ)) → known ≡ Some function → IsTable table → (decide_function known orb source eui table keys).0.status ≡ statuses.NoFault
    → Does function orb source eui table (decide_function known orb source eui table keys).0 (decide_function known orb source eui table keys).1
named_does known function orb source eui table keys e t =
    subst (λ (f : Option Function). (decide_function f orb source eui table keys).0.status ≡ statuses.NoFault → Does function orb source eui table (decide_function f orb source eui table keys).0 (decide_function f orb source eui table keys).1) (sym e) (function_does function orb source eui table keys t)

pub effects_of_decisions : EffectLaw
unfolding decide
effects_of_decisions function orb source eui table keys t e s =
    first_does (orb.format == 0) function orb source eui table (decide_function (function_of orb.function) orb source eui table keys) (with_status statuses.RequestType, table) (named_does (function_of orb.function) function orb source eui table keys e t) (λ n. let no : statuses.RequestType ≡ statuses.NoFault = n in cc) s
