-- Whose login a decision of the management agent lets go or takes back: the one with the ID of its subject, which stands in that place; and one that is
-- taken back was not live.
use Rattle.sbp_world.proofs.Words.Std.{arith, ◌≡◌, ◌∙◌, refl, sym, subst, ℕ, ◌+◌, ◌*◌, ◌^◌, ◌==◌, ◌&&◌, not, nat_eq, Bool, true, false, cond, List, set, Option, Some, None, Result, Ok, Err, nat_tests, false≢true, quad}
use Rattle.sbp_world.proofs.Words.Target.{Entered, Login, LoginRefusal, Table, back_step, enter_step, find, is_held, is_live, is_live_of, leave_step, place_at, revived, Decision, Effect, ManagerStep, Function, Operation, asked_by, back_decided, decide, decide_function, effect_of, key_at, lacks_key, left_decided, live_login, login_decided, on_login, reads_eui, unit_exists, with_status, beside, decide_step, decided_as, eui_step, high_eui_at, high_got, low_got, orb_got, reply_in, reply_to, response_written, status_written, function_of, number_of}
use Rattle.sbp_world.proofs.Words.Initiator.{FailCause, ManagementOrb, management_orb, Answer, payload_of, write_failure}
use Rattle.login_table.specs.declared.login.LoginRefusal.TheVariants as refusals
use Rattle.login_table.specs.Table as table
use Rattle.login_table.proofs.Searching.{found}
use Rattle.mgmt_agent.specs.declared.decision.Effect.TheVariants as effects
use Rattle.mgmt_agent.specs.declared.decision.Outcome.{Outcome}
use Rattle.mgmt_agent.specs.declared.decision.Response.TheVariants as responses
use Rattle.mgmt_agent.specs.declared.function.Function.TheVariants as functions
use Rattle.mgmt_agent.specs.declared.operation.Phase.{Phase}
use Rattle.mgmt_agent.specs.declared.operation.Phase.TheVariants as phases
use Rattle.mgmt_agent.specs.declared.status.Status.TheVariants as statuses
use Rattle.mgmt_agent.specs.Machine.{Machine, reply_step}
use Rattle.sbp_world.proofs.Sessions.Decisions.{of_id}

-- a login with this ID stands in a place
pub record HasId (places : List (Option Login)) (place id : ℕ) : Type 0 where
  pub login : Login
  pub is : place_at places place ≡ Some login
  pub id_is : login.login ≡ id

-- and is held
pub record HasHeld (places : List (Option Login)) (place id : ℕ) : Type 0 where
  pub login : Login
  pub is : place_at places place ≡ Some login
  pub id_is : login.login ≡ id
  pub old : is_live login ≡ false

abbrev pub Frees : Effect → (subject : ℕ) → List (Option Login) → Type 0
Frees (effects.Left place) subject places = HasId places place subject
Frees (effects.Back place) subject places = HasHeld places place subject
Frees effect subject places = Unit {0}

held_parts : (id : ℕ) (login : Login) → is_held id login ≡ true → (is_live login ≡ false) × (login.login ≡ id)
held_parts id login e = by (is_live login) (nat_eq login.login id) refl refl e
  where
    by : (a b : Bool) → is_live login ≡ a → nat_eq login.login id ≡ b → (not a && b) ≡ true → (is_live login ≡ false) × (login.login ≡ id)
    by false true p q f = (p, grind (arith, nat_tests))
    by false false p q f = absurd (false≢true f)
    by true b p q f = absurd (false≢true f)

module _ (orb : ManagementOrb) (source eui : ℕ) (t : Table) (keys : List (List ℕ)) where
  abbrev Now : Outcome × Table → Type 0
  Now r = Frees r.0.effect orb.subject t.places

  pick : (b : Bool) (x y : Outcome × Table) → Now x → Now y → Now (cond b x y)
  pick true x y h g = h
  pick false x y h g = g

  logs_in : (r : Result Entered LoginRefusal) → Frees (login_decided orb r).effect orb.subject t.places
  logs_in (Err refusal) = tt
  logs_in (Ok entered) = tt

  enters : Now (decide_function (Some functions.Login) orb source eui t keys)
  enters =
      let r = enter_step t (asked_by orb source eui) in
      let last : Outcome × Table = (login_decided orb r.0, r.1) in
      pick (not (unit_exists orb.subject keys)) (with_status statuses.LogicalUnit, t) (cond (lacks_key (key_at orb.subject keys) orb) (with_status statuses.AccessDenied, t) last) tt
      (pick (lacks_key (key_at orb.subject keys) orb) (with_status statuses.AccessDenied, t) last tt (logs_in r.0))

  abbrev AsBack : Result ℕ LoginRefusal × Table → Type 0
  AsBack r = Now (back_decided r.0, r.1)

  pick_back : (b : Bool) (x y : Result ℕ LoginRefusal × Table) → AsBack x → AsBack y → AsBack (cond b x y)
  pick_back true x y h g = h
  pick_back false x y h g = g

  backs_to : (x : Option Login) (place : ℕ) → HasHeld t.places place orb.subject → AsBack (table.back_to x t place source eui)
  backs_to None place h = tt
  backs_to (Some login) place h =
      pick_back (table.is_barred source eui login t.places) (Err refusals.OtherNode, t) (Ok place, record t { places = set t.places place (Some (revived source login)) }) tt h

  backs_at : (k : Option ℕ) → find (is_held orb.subject) t.places ≡ k → AsBack (table.back_at k t source eui)
  backs_at None e = tt
  backs_at (Some k) e =
      let f = found (is_held orb.subject) t.places k e in
      let p = held_parts orb.subject f.login f.passes in
      backs_to (place_at t.places k) k (record { login = f.login; is = f.stands; id_is = p.1; old = p.0 })

  backs : AsBack (back_step t orb.subject source eui)
  unfolding back_step
  backs = backs_at (find (is_held orb.subject) t.places) refl

  leaves_at : (k : Option ℕ) → find (is_live_of orb.subject source) t.places ≡ k → (let r = table.leave_at k t in Now (left_decided r.0, r.1))
  leaves_at None e = tt
  leaves_at (Some k) e =
      let f = found (is_live_of orb.subject source) t.places k e in
      record { login = f.login; is = f.stands; id_is = of_id orb.subject source f.login f.passes }

  leaves : (let r = leave_step t orb.subject source in Now (left_decided r.0, r.1))
  unfolding leave_step
  leaves = leaves_at (find (is_live_of orb.subject source) t.places) refl

  affects : (x : Option Login) (effect : Login → Effect) → ((login : Login) → Frees (effect login) orb.subject t.places) → Now (on_login effect x, t)
  affects None effect h = tt
  affects (Some login) effect h = h login

  decides_function : (function : Option Function) → Now (decide_function function orb source eui t keys)
  decides_function None = tt
  decides_function (Some functions.Login) = enters
  decides_function (Some functions.Query) = by (unit_exists orb.subject keys)
    where
      by : (b : Bool) → Frees (cond b (record { status = statuses.NoFault; login = 0; effect = effects.Nothing; response = responses.Query orb.subject }) (with_status statuses.LogicalUnit)).effect orb.subject t.places
      by true = tt
      by false = tt
  decides_function (Some functions.Reconnect) = backs
  decides_function (Some functions.Logout) = leaves
  decides_function (Some functions.Abort) = affects (live_login t.places orb.subject source) (effect_of functions.Abort orb) (λ login. tt)
  decides_function (Some functions.AbortSet) = affects (live_login t.places orb.subject source) (effect_of functions.AbortSet orb) (λ login. tt)
  decides_function (Some functions.UnitReset) = affects (live_login t.places orb.subject source) (effect_of functions.UnitReset orb) (λ login. tt)
  decides_function (Some functions.TargetReset) = affects (live_login t.places orb.subject source) (effect_of functions.TargetReset orb) (λ login. tt)

  decides : Now (decide orb source eui t keys)
  unfolding decide
  decides = pick (orb.format == 0) (decide_function (function_of orb.function) orb source eui t keys) (with_status statuses.RequestType, t) (decides_function (function_of orb.function)) tt

-- ---- a step of the management agent
module _ (t : Table) (m : Machine) (keys : List (List ℕ)) where
  abbrev pub Step : ManagerStep × (Machine × Table) → Type 0
  Step r = (d : Decision) → r.0.decided ≡ Some d → Frees r.0.effect d.subject t.places

  undecided : (r : ManagerStep × (Machine × Table)) → r.0.decided ≡ None → Step r
  undecided r e d f = absurd (let z : None ≡ Some d = sym e ∙ f in cc)

  pick_step : (b : Bool) (x y : ManagerStep × (Machine × Table)) → Step x → Step y → Step (cond b x y)
  pick_step true x y h g = h
  pick_step false x y h g = g

  module _ (own : Operation) where
    as_decided : (orb : ManagementOrb) (r : Outcome × Table) → Frees r.0.effect orb.subject t.places → Step (decided_as r m own orb)
    as_decided orb (outcome, now) h d f =
        let made : Decision = record { function = orb.function; subject = orb.subject; status = number_of outcome.status; login = outcome.login } in
        let same : made ≡ d = let z : Some made ≡ Some d = f in cc in
        subst (λ (i : Decision). Frees outcome.effect i.subject t.places) same h

    decides_on : (orb : ManagementOrb) (eui : ℕ) → Step (decide_step m own orb eui t keys)
    unfolding decide_step
    decides_on orb eui = as_decided orb (decide orb own.source eui t keys) (decides orb own.source eui t keys)

    orb_frees : (bytes : Result (List ℕ) FailCause) → Step (orb_got bytes m own t keys)
    orb_frees (Err cause) = undecided (orb_got (Err cause) m own t keys) refl
    orb_frees (Ok bytes) =
        let orb = management_orb bytes in
        let asks = beside t (eui_step m own (phases.HighEui orb) high_eui_at) in
        pick_step (reads_eui orb) asks (decide_step m own orb 0 t keys) (undecided asks refl) (decides_on orb 0)

    high_frees : (bytes : Result (List ℕ) FailCause) (orb : ManagementOrb) → Step (beside t (high_got bytes m own orb))
    high_frees (Err cause) orb = undecided (beside t (high_got (Err cause) m own orb)) refl
    high_frees (Ok bytes) orb = undecided (beside t (high_got (Ok bytes) m own orb)) refl

    low_frees : (bytes : Result (List ℕ) FailCause) (orb : ManagementOrb) (high : ℕ) → Step (low_got bytes m own orb high t keys)
    low_frees (Err cause) orb high = undecided (low_got (Err cause) m own orb high t keys) refl
    low_frees (Ok bytes) orb high = decides_on orb (high * 2 ^ 32 + quad bytes 0)

    response_frees : (failure : Option FailCause) (fifo : ℕ) → Step (beside t (response_written failure m own fifo))
    response_frees None fifo = undecided (beside t (response_written None m own fifo)) refl
    response_frees (Some cause) fifo = undecided (beside t (response_written (Some cause) m own fifo)) refl

    status_frees : (failure : Option FailCause) → Step (beside t (status_written failure m))
    status_frees None = undecided (beside t (status_written None m)) refl
    status_frees (Some cause) = undecided (beside t (status_written (Some cause) m)) refl

    phase_frees : (phase : Phase) (answer : Answer) → Step (reply_in phase m own t keys answer)
    phase_frees phases.Orb answer = orb_frees (payload_of answer 32)
    phase_frees (phases.HighEui orb) answer = high_frees (payload_of answer 4) orb
    phase_frees (phases.LowEui orb high) answer = low_frees (payload_of answer 4) orb high
    phase_frees (phases.Response fifo) answer = response_frees (write_failure answer) fifo
    phase_frees phases.Status answer = status_frees (write_failure answer)

  operation_frees : (operation : Option Operation) (answer : Answer) → Step (reply_to operation m t keys answer)
  operation_frees None answer = undecided (reply_to None m t keys answer) refl
  operation_frees (Some own) answer = phase_frees own own.phase answer

  pub reply_frees : (answer : Answer) → Step (reply_step m t keys answer)
  unfolding reply_step
  reply_frees answer = operation_frees m.operation answer
