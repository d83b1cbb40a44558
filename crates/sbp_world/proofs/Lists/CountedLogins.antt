-- How many live logins the places of a table have (NCITS 325-1998, login, reconnect and logout): at most one for each place; one more where a login is granted, and at most one
-- fewer behind any other decision.
use Rattle.sbp_world.proofs.Words.Std.{arith, ◌≡◌, ◌∙◌, refl, sym, ap, subst, ℕ, zero, suc, ◌+◌, ◌*◌, ◌<◌, ◌≤◌, ◌==◌, not, Bool, true, false, cond, List, [], ◌∷◌, length, Option, Some, None, Result, Ok, Err, is_none, position, slice_set, position-Some}
use Rattle.sbp_world.proofs.Words.Wire.{function_word, login_if, FunctionWord}
use Rattle.sbp_world.proofs.Words.Target.{Entered, Login, LoginRefusal, LoginRequest, Table, back_at, back_step, back_to, enter_at, enter_step, entered, find, fresh_id, is_held, is_live, is_live_of, is_old, leave_at, leave_step, left_for, next_id, place_at, revived, Function, asked_by, decide, decide_function, key_at, lacks_key, login_decided, unit_exists, with_status, function_of, number_of}
use Rattle.sbp_world.proofs.Words.Initiator.{ManagementOrb}
use Rattle.login_table.specs.declared.login.LoginRefusal.TheVariants as refusals
use Rattle.login_table.specs.Table as table
use Rattle.login_table.specs.Table.{is_barred}
use Rattle.login_table.proofs.Searching.{found, within}
use Rattle.mgmt_agent.specs.declared.decision.Outcome.{Outcome}
use Rattle.mgmt_agent.specs.declared.function.Function.TheVariants as functions
use Rattle.mgmt_agent.specs.declared.status.Status.TheVariants as statuses
use Rattle.sbp_journal.specs.declared.operation.FunctionWord.TheVariants as words
use Rattle.sbp_world.proofs.Agents.Management.Deciding.{Agrees, IsOther, agree}
use Rattle.sbp_world.proofs.Lists.GrantSides.{word_grants}
use Rattle.sbp_world.proofs.Agents.Hiring.{not_old}

abbrev pub live_at : Option Login → ℕ
live_at None = 0
live_at (Some login) = cond (is_live login) 1 0

abbrev pub live_in : List (Option Login) → ℕ
live_in [] = 0
live_in (x ∷ places) = live_at x + live_in places

one_at_most : (x : Option Login) → live_at x ≤ 1
one_at_most None = omega arith
one_at_most (Some login) = by (is_live login)
  where
    by : (b : Bool) → (cond b 1 0) ≤ 1
    by true = omega arith
    by false = omega arith

pub live_few : (places : List (Option Login)) → live_in places ≤ length places
live_few [] = omega arith
live_few (x ∷ places) = let one = one_at_most x in let rest = live_few places in omega (arith, one, rest)

-- ---- a place that is set
set_counts : (places : List (Option Login)) (k : ℕ) (x : Option Login) → k < length places → live_in (slice_set places k x) + live_at (place_at places k) ≡ live_in places + live_at x
set_counts [] k x l = absurd (omega (arith, l))
set_counts (y ∷ places) zero x l = omega arith
set_counts (y ∷ places) (suc k) x l = let rest = set_counts places k x (omega (arith, l)) in omega (arith, rest)

set_most : (places : List (Option Login)) (k : ℕ) (x : Option Login) → live_in places ≤ live_in (slice_set places k x) + 1
set_most [] k x = omega arith
set_most (y ∷ places) zero x = let one = one_at_most y in omega (arith, one)
set_most (y ∷ places) (suc k) x = let rest = set_most places k x in omega (arith, rest)

none_is : (x : Option Login) → is_none x ≡ true → x ≡ None
none_is None e = refl
none_is (Some login) e = absurd (let no : false ≡ true = e in cc)

held_none : (login : Login) → is_live login ≡ false → live_at (Some login) ≡ 0
held_none login e = ap (λ b. cond b 1 0) e

-- ---- a login is granted

left_counts : (asked : LoginRequest) (places : List (Option Login)) → live_in (left_for asked places) ≡ live_in places
unfolding left_for
left_counts asked places = by (find (is_old asked) places) refl
  where
    by : (k : Option ℕ) → find (is_old asked) places ≡ k → live_in (table.without k places) ≡ live_in places
    by None e = refl
    by (Some k) e =
        let x = found (is_old asked) places k e in
        let held : is_live x.login ≡ false = not_old asked x.login x.passes in
        let at : live_at (place_at places k) ≡ 0 = ap live_at x.stands ∙ held_none x.login held in
        let c = set_counts places k None (within places k x.login x.stands) in
        omega (arith, at, c)

module _ (orb : ManagementOrb) (source eui : ℕ) (t : Table) (keys : List (List ℕ)) where
  -- a decision, by the word of its function
  abbrev pub Fine : FunctionWord → Outcome × Table → Type 0
  Fine word r = 9 * word_grants word (login_if word (number_of r.0.status) r.0.login) + live_in t.places ≤ 8 + live_in r.1.places

  pick : (b : Bool) (word : FunctionWord) (x y : Outcome × Table) → Fine word x → Fine word y → Fine word (cond b x y)
  pick true word x y h k = h
  pick false word x y h k = k

  abbrev a : LoginRequest
  a = asked_by orb source eui

  abbrev FineEntry : Result Entered LoginRefusal × Table → Type 0
  FineEntry r = Fine words.Login (login_decided orb r.0, r.1)

  enter_by : (place replaced : Option ℕ) → position is_none (left_for a t.places) ≡ place → FineEntry (enter_at place t (left_for a t.places) replaced a)
  enter_by None replaced e = omega arith
  enter_by (Some k) replaced e =
      let left = left_for a t.places in
      let id = fresh_id 8 (next_id t.last) left in
      let p = position-Some is_none left k None e in
      let free : live_at (place_at left k) ≡ 0 = ap live_at (none_is (place_at left k) p.1) in
      let c = set_counts left k (Some (entered a k id)) p.0 in
      let same = left_counts a t.places in
      omega (arith, free, c, same)

  pick_entry : (b : Bool) (x y : Result Entered LoginRefusal × Table) → FineEntry x → FineEntry y → FineEntry (cond b x y)
  pick_entry true x y h k = h
  pick_entry false x y h k = k

  enter_fine : FineEntry (enter_step t a)
  unfolding enter_step
  enter_fine = pick_entry _ (Err refusals.Denied, t) (enter_at (position is_none (left_for a t.places)) t (left_for a t.places) _ a) (omega arith) (enter_by (position is_none (left_for a t.places)) _ refl)

  login_fine : Fine words.Login (decide_function (Some functions.Login) orb source eui t keys)
  login_fine =
      let r = enter_step t a in
      let last : Outcome × Table = (login_decided orb r.0, r.1) in
      pick (not (unit_exists orb.subject keys)) words.Login (with_status statuses.LogicalUnit, t) (cond (lacks_key (key_at orb.subject keys) orb) (with_status statuses.AccessDenied, t) last) (omega arith)
      (pick (lacks_key (key_at orb.subject keys) orb) words.Login (with_status statuses.AccessDenied, t) last (omega arith) enter_fine)

  -- ---- any other decision
  other_none : (word : FunctionWord) (status login : ℕ) → IsOther word → word_grants word (login_if word status login) ≡ 0
  other_none words.Login status login h = absurd h
  other_none word status login h = refl

  other_fine : (word : FunctionWord) (r : Outcome × Table) → IsOther word → live_in t.places ≤ live_in r.1.places + 1 → Fine word r
  other_fine word r h l = let none = other_none word (number_of r.0.status) r.0.login h in omega (arith, none, l)

  back_to_most : (login : Option Login) (place : ℕ) → live_in t.places ≤ live_in (back_to login t place source eui).1.places + 1
  back_to_most None place = omega arith
  back_to_most (Some login) place = by (is_barred source eui login t.places)
    where
      by : (b : Bool) → live_in t.places ≤ live_in (cond {A = Result ℕ LoginRefusal × Table} b (Err refusals.OtherNode, t) (Ok place, record t { places = slice_set t.places place (Some (revived source login)) })).1.places + 1
      by true = omega arith
      by false = set_most t.places place (Some (revived source login))

  back_at_most : (place : Option ℕ) → live_in t.places ≤ live_in (back_at place t source eui).1.places + 1
  back_at_most None = omega arith
  back_at_most (Some place) = back_to_most (place_at t.places place) place

  back_most : live_in t.places ≤ live_in (back_step t orb.subject source eui).1.places + 1
  unfolding back_step
  back_most = back_at_most (find (is_held orb.subject) t.places)

  leave_at_most : (place : Option ℕ) → live_in t.places ≤ live_in (leave_at place t).1.places + 1
  leave_at_most None = omega arith
  leave_at_most (Some place) = set_most t.places place None

  leave_most : live_in t.places ≤ live_in (leave_step t orb.subject source).1.places + 1
  unfolding leave_step
  leave_most = leave_at_most (find (is_live_of orb.subject source) t.places)

  function_fine : (function : Option Function) (word : FunctionWord) → Agrees function word → Fine word (decide_function function orb source eui t keys)
  function_fine None word h = other_fine word (decide_function None orb source eui t keys) h (omega arith)
  function_fine (Some functions.Login) word h = subst (λ x. Fine x (decide_function (Some functions.Login) orb source eui t keys)) (sym h) login_fine
  function_fine (Some functions.Query) word h = other_fine word (decide_function (Some functions.Query) orb source eui t keys) h (omega arith)
  function_fine (Some functions.Reconnect) word h = other_fine word (decide_function (Some functions.Reconnect) orb source eui t keys) h back_most
  function_fine (Some functions.Logout) word h = other_fine word (decide_function (Some functions.Logout) orb source eui t keys) h leave_most
  function_fine (Some functions.Abort) word h = other_fine word (decide_function (Some functions.Abort) orb source eui t keys) h (omega arith)
  function_fine (Some functions.AbortSet) word h = other_fine word (decide_function (Some functions.AbortSet) orb source eui t keys) h (omega arith)
  function_fine (Some functions.UnitReset) word h = other_fine word (decide_function (Some functions.UnitReset) orb source eui t keys) h (omega arith)
  function_fine (Some functions.TargetReset) word h = other_fine word (decide_function (Some functions.TargetReset) orb source eui t keys) h (omega arith)

  refused_fine : (word : FunctionWord) → Fine word (with_status statuses.RequestType, t)
  refused_fine words.Login = omega arith
  refused_fine words.Query = omega arith
  refused_fine words.Reconnect = omega arith
  refused_fine words.Logout = omega arith
  refused_fine words.Abort = omega arith
  refused_fine words.AbortSet = omega arith
  refused_fine words.UnitReset = omega arith
  refused_fine words.TargetReset = omega arith
  refused_fine words.Other = omega arith

  pub decide_fine : Fine (function_word orb.function) (decide orb source eui t keys)
  unfolding decide
  decide_fine =
      pick (orb.format == 0) (function_word orb.function) (decide_function (function_of orb.function) orb source eui t keys) (with_status statuses.RequestType, t)
      (function_fine (function_of orb.function) (function_word orb.function) (agree orb.function)) (refused_fine (function_word orb.function))
