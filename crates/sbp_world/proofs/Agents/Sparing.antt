-- A decision of the management agent leaves the live logins live, but for the one of a logout.
use Rattle.sbp_world.proofs.Words.Std.{arith, ◌≡◌, ◌≢◌, ◌∙◌, refl, sym, ap, subst, ℕ, ◌+◌, ◌*◌, ◌^◌, ◌<◌, ◌==◌, not, nat_eq, Bool, true, false, cond, List, length, set, Option, Some, None, Result, Ok, Err, is_none, position, nat_tests, get_or-set_at, position-Some, false≢true, quad}
use Rattle.sbp_world.proofs.Words.Target.{Entered, Login, LoginRefusal, LoginRequest, Table, back_step, enter_step, entered, find, id_at, id_of, is_held, is_live, is_live_of, is_old, leave_step, left_for, place_at, revived, Effect, ManagerStep, Function, Operation, asked_by, back_decided, decide, decide_function, effect_of, key_at, lacks_key, left_decided, live_login, login_decided, on_login, reads_eui, unit_exists, with_status, beside, decide_step, decided_as, eui_step, high_eui_at, high_got, low_got, orb_got, reply_in, reply_to, response_written, status_written, function_of, status_of}
use Rattle.sbp_world.proofs.Words.Initiator.{FailCause, ManagementOrb, management_orb, Answer, payload_of, write_failure}
use Rattle.sbp_world.proofs.Words.World.{HasLive}
use Rattle.std.proofs.Common.{get_or-set_other}
use Rattle.login_table.specs.declared.login.LoginRefusal.TheVariants as refusals
use Rattle.login_table.specs.Table as table
use Rattle.login_table.proofs.Searching.{found}
use Rattle.mgmt_agent.specs.declared.decision.Effect.TheVariants as effects
use Rattle.mgmt_agent.specs.declared.decision.Outcome.{Outcome}
use Rattle.mgmt_agent.specs.declared.decision.Response.TheVariants as responses
use Rattle.mgmt_agent.specs.declared.function.Function.TheVariants as functions
use Rattle.mgmt_agent.specs.declared.operation.Phase.{Phase}
use Rattle.mgmt_agent.specs.declared.operation.Phase.TheVariants as phases
use Rattle.mgmt_agent.specs.declared.status.Status.TheVariants as statuses
use Rattle.mgmt_agent.specs.Machine.{Machine, reply_step}
use Rattle.sbp_world.proofs.Agents.Hiring.{not_old}

-- a login that another one replaces is not live
pub record IsReplaced (places : List (Option Login)) (id : ℕ) : Type 0 where
  pub place : ℕ
  pub login : Login
  pub is : place_at places place ≡ Some login
  pub id_is : login.login ≡ id
  pub old : is_live login ≡ false

abbrev pub IsOld : Option ℕ → List (Option Login) → Type 0
IsOld None places = Unit {0}
IsOld (Some id) places = IsReplaced places id

-- a login leaves its place, which is empty then
pub record Empties (before now : List (Option Login)) (place : ℕ) : Type 0 where
  pub login : Login
  pub was : place_at before place ≡ Some login
  pub empty : place_at now place ≡ None

abbrev pub Spares : Effect → Table → Table → Type 0
Spares (effects.Left place) t now = ((p : ℕ) → p ≢ place → HasLive t.places p → HasLive now.places p) × Empties t.places now.places place
Spares (effects.Entered place replaced) t now = ((p : ℕ) → HasLive t.places p → HasLive now.places p) × IsOld replaced t.places
Spares effect t now = (p : ℕ) → HasLive t.places p → HasLive now.places p

-- one place has another login
set_spares : (places : List (Option Login)) (k : ℕ) (x : Option Login) → k < length places → (p : ℕ) → (p ≡ k → HasLive (set places k x) p) → HasLive places p → HasLive (set places k x) p
set_spares places k x l p own h = by (nat_eq p k) refl
  where
    by : (b : Bool) → nat_eq p k ≡ b → HasLive (set places k x) p
    by true q = own (grind (arith, nat_tests))
    by false q =
        let apart : p ≢ k = λ same. let yes : nat_eq p k ≡ true = grind (arith, nat_tests) in false≢true (sym q ∙ yes) in
        record { login = h.login; is = get_or-set_other places k p x None apart ∙ h.is; live = h.live }

live_set : (places : List (Option Login)) (k : ℕ) (login : Login) → k < length places → is_live login ≡ true → (p : ℕ) → p ≡ k → HasLive (set places k (Some login)) p
live_set places k login l e p same = record { login = login; is = get_or-set_at places k p (Some login) None same l; live = e }

-- ---- the calls of the table
without_spares : (k : Option ℕ) (asked : LoginRequest) (places : List (Option Login)) → find (is_old asked) places ≡ k → (p : ℕ) → HasLive places p → HasLive (table.without k places) p
without_spares None asked places e p h = h
without_spares (Some k) asked places e p h =
    let f = found (is_old asked) places k e in
    set_spares places k None f.below p
    (λ same.
    let is : Some h.login ≡ Some f.login = sym h.is ∙ ap (place_at places) same ∙ f.stands in
    let own : h.login ≡ f.login = cc in
    absurd (false≢true (sym (not_old asked f.login f.passes) ∙ sym (ap is_live own) ∙ h.live))) h

replaced_old : (k : Option ℕ) (asked : LoginRequest) (places : List (Option Login)) → find (is_old asked) places ≡ k → IsOld (id_at k places) places
replaced_old None asked places e = tt
replaced_old (Some k) asked places e =
    let f = found (is_old asked) places k e in
    subst (λ (x : Option Login). IsOld (id_of x) places) (sym f.stands) (record { place = k; login = f.login; is = f.stands; id_is = refl; old = not_old asked f.login f.passes })

module _ (orb : ManagementOrb) (source eui : ℕ) (t : Table) (keys : List (List ℕ)) where
  abbrev Now : Outcome × Table → Type 0
  Now r = Spares r.0.effect t r.1

  pick : (b : Bool) (x y : Outcome × Table) → Now x → Now y → Now (cond b x y)
  pick true x y h g = h
  pick false x y h g = g

  refused : (refusal : LoginRefusal) → Now (with_status (status_of refusal), t)
  refused refusals.Denied = λ p h. h
  refused refusals.NoRoom = λ p h. h
  refused refusals.Unknown = λ p h. h
  refused refusals.OtherNode = λ p h. h

  abbrev AsLogin : Result Entered LoginRefusal × Table → Type 0
  AsLogin r = Now (login_decided orb r.0, r.1)

  pick_login : (b : Bool) (x y : Result Entered LoginRefusal × Table) → AsLogin x → AsLogin y → AsLogin (cond b x y)
  pick_login true x y h g = h
  pick_login false x y h g = g

  enters : (place : Option ℕ) (k : Option ℕ) → (let asked = asked_by orb source eui in find (is_old asked) t.places ≡ k → position is_none (table.without k t.places) ≡ place → AsLogin (table.enter_at place t (table.without k t.places) (id_at k t.places) asked))
  enters None k e f = refused refusals.NoRoom
  enters (Some place) k e f =
      let asked = asked_by orb source eui in
      let left = table.without k t.places in
      let at = position-Some is_none left place None f in
      let id = table.fresh_id 8 (table.next_id t.last) left in
      ((λ p h. set_spares left place (Some (entered asked place id)) at.0 p (live_set left place (entered asked place id) at.0 refl p) (without_spares k asked t.places e p h)), replaced_old k asked t.places e)

  logs_in : Now (decide_function (Some functions.Login) orb source eui t keys)
  unfolding enter_step left_for
  logs_in =
      let asked = asked_by orb source eui in
      let k = find (is_old asked) t.places in
      let left = table.without k t.places in
      let r = enter_step t asked in
      let last : Outcome × Table = (login_decided orb r.0, r.1) in
      pick (not (unit_exists orb.subject keys)) (with_status statuses.LogicalUnit, t) (cond (lacks_key (key_at orb.subject keys) orb) (with_status statuses.AccessDenied, t) last) (λ p h. h)
      (pick (lacks_key (key_at orb.subject keys) orb) (with_status statuses.AccessDenied, t) last (λ p h. h)
      (pick_login (table.is_denied asked t.places) (Err refusals.Denied, t) (table.enter_at (position is_none left) t left (id_at k t.places) asked) (refused refusals.Denied) (enters (position is_none left) k refl refl)))

  abbrev AsBack : Result ℕ LoginRefusal × Table → Type 0
  AsBack r = Now (back_decided r.0, r.1)

  pick_back : (b : Bool) (x y : Result ℕ LoginRefusal × Table) → AsBack x → AsBack y → AsBack (cond b x y)
  pick_back true x y h g = h
  pick_back false x y h g = g

  backs_to : (x : Option Login) (place : ℕ) → place < length t.places → AsBack (table.back_to x t place source eui)
  backs_to None place l = refused refusals.Unknown
  backs_to (Some login) place l =
      pick_back (table.is_barred source eui login t.places) (Err refusals.OtherNode, t) (Ok place, record t { places = set t.places place (Some (revived source login)) }) (refused refusals.OtherNode)
      (λ p h. set_spares t.places place (Some (revived source login)) l p (live_set t.places place (revived source login) l refl p) h)

  backs_at : (k : Option ℕ) → find (is_held orb.subject) t.places ≡ k → AsBack (table.back_at k t source eui)
  backs_at None e = refused refusals.Unknown
  backs_at (Some k) e = backs_to (place_at t.places k) k (found (is_held orb.subject) t.places k e).below

  backs : AsBack (back_step t orb.subject source eui)
  unfolding back_step
  backs = backs_at (find (is_held orb.subject) t.places) refl

  leaves_at : (k : Option ℕ) → find (is_live_of orb.subject source) t.places ≡ k → (let r = table.leave_at k t in Now (left_decided r.0, r.1))
  leaves_at None e = refused refusals.Unknown
  leaves_at (Some k) e =
      let f = found (is_live_of orb.subject source) t.places k e in
      ((λ p d h. set_spares t.places k None f.below p (λ same. absurd (d same)) h), record { login = f.login; was = f.stands; empty = get_or-set_at t.places k k None None refl f.below })

  leaves : (let r = leave_step t orb.subject source in Now (left_decided r.0, r.1))
  unfolding leave_step
  leaves = leaves_at (find (is_live_of orb.subject source) t.places) refl

  affects : (x : Option Login) (effect : Login → Effect) → ((login : Login) → Spares (effect login) t t) → Now (on_login effect x, t)
  affects None effect h = λ p l. l
  affects (Some login) effect h = h login

  decides_function : (function : Option Function) → Now (decide_function function orb source eui t keys)
  decides_function None = λ p h. h
  decides_function (Some functions.Login) = logs_in
  decides_function (Some functions.Query) = by (unit_exists orb.subject keys)
    where
      by : (b : Bool) → Spares (cond b (record { status = statuses.NoFault; login = 0; effect = effects.Nothing; response = responses.Query orb.subject }) (with_status statuses.LogicalUnit)).effect t t
      by true = λ p h. h
      by false = λ p h. h
  decides_function (Some functions.Reconnect) = backs
  decides_function (Some functions.Logout) = leaves
  decides_function (Some functions.Abort) = affects (live_login t.places orb.subject source) (effect_of functions.Abort orb) (λ login p h. h)
  decides_function (Some functions.AbortSet) = affects (live_login t.places orb.subject source) (effect_of functions.AbortSet orb) (λ login p h. h)
  decides_function (Some functions.UnitReset) = affects (live_login t.places orb.subject source) (effect_of functions.UnitReset orb) (λ login p h. h)
  decides_function (Some functions.TargetReset) = affects (live_login t.places orb.subject source) (effect_of functions.TargetReset orb) (λ login p h. h)

  decides : Now (decide orb source eui t keys)
  unfolding decide
  decides = pick (orb.format == 0) (decide_function (function_of orb.function) orb source eui t keys) (with_status statuses.RequestType, t) (decides_function (function_of orb.function)) (λ p h. h)

-- ---- a step of the management agent
module _ (t : Table) (m : Machine) (keys : List (List ℕ)) where
  abbrev Step : ManagerStep × (Machine × Table) → Type 0
  Step r = Spares r.0.effect t r.1.1

  pick_step : (b : Bool) (x y : ManagerStep × (Machine × Table)) → Step x → Step y → Step (cond b x y)
  pick_step true x y h g = h
  pick_step false x y h g = g

  module _ (own : Operation) where
    as_decided : (orb : ManagementOrb) (r : Outcome × Table) → Spares r.0.effect t r.1 → Step (decided_as r m own orb)
    as_decided orb (outcome, now) h = h

    decides_on : (orb : ManagementOrb) (eui : ℕ) → Step (decide_step m own orb eui t keys)
    unfolding decide_step
    decides_on orb eui = as_decided orb (decide orb own.source eui t keys) (decides orb own.source eui t keys)

    orb_spares : (bytes : Result (List ℕ) FailCause) → Step (orb_got bytes m own t keys)
    orb_spares (Err cause) = λ p h. h
    orb_spares (Ok bytes) =
        let orb = management_orb bytes in
        pick_step (reads_eui orb) (beside t (eui_step m own (phases.HighEui orb) high_eui_at)) (decide_step m own orb 0 t keys) (λ p h. h) (decides_on orb 0)

    high_spares : (bytes : Result (List ℕ) FailCause) (orb : ManagementOrb) → Step (beside t (high_got bytes m own orb))
    high_spares (Err cause) orb = λ p h. h
    high_spares (Ok bytes) orb = λ p h. h

    low_spares : (bytes : Result (List ℕ) FailCause) (orb : ManagementOrb) (high : ℕ) → Step (low_got bytes m own orb high t keys)
    low_spares (Err cause) orb high = λ p h. h
    low_spares (Ok bytes) orb high = decides_on orb (high * 2 ^ 32 + quad bytes 0)

    response_spares : (failure : Option FailCause) (fifo : ℕ) → Step (beside t (response_written failure m own fifo))
    response_spares None fifo = λ p h. h
    response_spares (Some cause) fifo = λ p h. h

    status_spares : (failure : Option FailCause) → Step (beside t (status_written failure m))
    status_spares None = λ p h. h
    status_spares (Some cause) = λ p h. h

    phase_spares : (phase : Phase) (answer : Answer) → Step (reply_in phase m own t keys answer)
    phase_spares phases.Orb answer = orb_spares (payload_of answer 32)
    phase_spares (phases.HighEui orb) answer = high_spares (payload_of answer 4) orb
    phase_spares (phases.LowEui orb high) answer = low_spares (payload_of answer 4) orb high
    phase_spares (phases.Response fifo) answer = response_spares (write_failure answer) fifo
    phase_spares phases.Status answer = status_spares (write_failure answer)

  operation_spares : (operation : Option Operation) (answer : Answer) → Step (reply_to operation m t keys answer)
  operation_spares None answer = λ p h. h
  operation_spares (Some own) answer = phase_spares own own.phase answer

  pub reply_spares : (answer : Answer) → Step (reply_step m t keys answer)
  unfolding reply_step
  reply_spares answer = operation_spares m.operation answer
