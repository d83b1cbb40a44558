-- The response of a decision is the one that its note tells of, by the logins behind it (NCITS 325-1998, login and query responses): to a login its ID, the registers of its place and its hold, to a query the logins of the unit, and else none.
use Rattle.std.proofs.Common.{◌≡◌, refl, sym, ap, subst, ℕ, ◌==◌, not, is_none, Bool, true, false, cond, List, Option, Some, None, Result, Ok, Err}
use Rattle.std.specs.Prelude.{position}
use Rattle.std.proofs.lemmas.List.{get_or-set_same}
use Rattle.std.proofs.lemmas.List.Quantifiers.{position-Some}
use Rattle.login_table.specs.declared.login.Entered.{Entered}
use Rattle.login_table.specs.declared.login.Login.{Login}
use Rattle.login_table.specs.declared.login.LoginRefusal.{LoginRefusal}
use Rattle.login_table.specs.declared.login.LoginRefusal.TheVariants as refusals
use Rattle.login_table.specs.Requests.{LoginRequest}
use Rattle.login_table.specs.Sound.{IsSound}
use Rattle.login_table.specs.Table.{Table, back_step, enter_at, enter_step, entered, fresh_id, id_at, id_of, find, is_denied, is_old, leave_step, left_for, next_id}
use Rattle.mgmt_agent.specs.Decisions.{agent_base, asked_by, back_decided, decide, decide_function, decide_query, effect_of, entries_of, granted_hold, key_at, lacks_key, left_decided, live_login, login_decided, on_login, response_bytes, unit_exists, with_status}
use Rattle.mgmt_agent.specs.declared.decision.Outcome.{Outcome}
use Rattle.mgmt_agent.specs.declared.decision.Effect.{Effect}
use Rattle.mgmt_agent.specs.declared.decision.Effect.TheVariants as effects
use Rattle.mgmt_agent.specs.declared.decision.Response.TheVariants as responses
use Rattle.mgmt_agent.specs.declared.function.Function.{Function}
use Rattle.mgmt_agent.specs.declared.function.Function.TheVariants as functions
use Rattle.mgmt_agent.specs.declared.status.Status.TheVariants as statuses
use Rattle.mgmt_agent.specs.Statuses.{function_of, number_of, status_of}
use Rattle.orb_layout.specs.declared.management.ManagementOrb.{ManagementOrb}
use Rattle.orb_layout.specs.LoginResponses.{login_bytes}
use Rattle.orb_layout.specs.QueryResponses.{query_bytes}
use Rattle.sbp_journal.specs.declared.operation.FunctionWord.{FunctionWord}
use Rattle.sbp_journal.specs.declared.operation.FunctionWord.TheVariants as words
use Rattle.sbp_laws.specs.Decided.{Decision, response_due}
use Rattle.sbp_laws.specs.Management.{login_if, word_by}
use Rattle.sbp_laws.specs.Targets.{Target}
use Rattle.turn_laws.proofs.DecisionEffects.{IsAt}
use Rattle.turn_laws.proofs.DecisionWords.{place_is}

-- ---- a login that is entered stands in its place
abbrev Enters : Result Entered LoginRefusal × Table → Type 0
Enters (Err refusal, now) = Unit {0}
Enters (Ok new, now) = IsAt now.places new.place new.login

enters_at : (k : Option ℕ) (t : Table) (left : List (Option Login)) (replaced : Option ℕ) (asked : LoginRequest) → position is_none left ≡ k → Enters (enter_at k t left replaced asked)
enters_at None t left replaced asked e = tt
enters_at (Some k) t left replaced asked e =
    let there = position-Some is_none left k None e in ap id_of (get_or-set_same left k (Some (entered asked k (fresh_id 8 (next_id t.last) left))) None there.0)

enters_if : (b : Bool) (x y : Result Entered LoginRefusal × Table) → Enters x → Enters y → Enters (cond b x y)
enters_if true x y p q = p
enters_if false x y p q = q

enters : (t : Table) (asked : LoginRequest) → Enters (enter_step t asked)
unfolding enter_step
enters t asked =
    let left = left_for asked t.places in
    let replaced = id_at (find (is_old asked) t.places) t.places in
    enters_if (is_denied asked t.places) (Err refusals.Denied, t) (enter_at (position is_none left) t left replaced asked) tt (enters_at (position is_none left) t left replaced asked refl)

-- ---- what is told of an outcome, and its response
module _ (i : ℕ) (orb : ManagementOrb) where
  abbrev pub noted : FunctionWord → Outcome → Decision
  noted word x = record { initiator = i; word = word; subject = orb.subject; status = number_of x.status; login = login_if word (number_of x.status) x.login }

  abbrev pub Answered : FunctionWord → Outcome × Table → Type 0
  Answered word r = (target : Target) → target.table ≡ r.1 → IsSound r.1.places → response_bytes r.0.response r.1.places ≡ response_due target orb (noted word r.0)

  refused : (word : FunctionWord) (refusal : LoginRefusal) (now : Table) → Answered word (with_status (status_of refusal), now)
  unfolding response_bytes
  refused word refusals.Denied now = λ target e sound. refl
  refused word refusals.NoRoom now = λ target e sound. refl
  refused word refusals.Unknown now = λ target e sound. refl
  refused word refusals.OtherNode now = λ target e sound. refl

  answered_if : (b : Bool) (word : FunctionWord) (x y : Outcome × Table) → Answered word x → Answered word y → Answered word (cond b x y)
  answered_if true word x y p q = p
  answered_if false word x y p q = q

  entered_by : (r : Result Entered LoginRefusal × Table) → Enters r → Answered words.Login (login_decided orb r.0, r.1)
  unfolding response_bytes
  entered_by (Err refusal, now) h = refused words.Login refusal now
  entered_by (Ok new, now) h = λ target e sound.
      ap (λ place. login_bytes (record { login = new.login; agent = agent_base place; hold = granted_hold orb.reconnect }))
      (sym (place_is target (subst (λ (x : Table). IsSound x.places) (sym e) sound) new.place new.login (subst (λ (x : Table). IsAt x.places new.place new.login) (sym e) h)))

  back_by : (r : Result ℕ LoginRefusal × Table) → Answered words.Reconnect (back_decided r.0, r.1)
  unfolding response_bytes
  back_by (Err refusal, now) = refused words.Reconnect refusal now
  back_by (Ok place, now) = λ target e sound. refl

  left_by : (r : Result ℕ LoginRefusal × Table) → Answered words.Logout (left_decided r.0, r.1)
  unfolding response_bytes
  left_by (Err refusal, now) = refused words.Logout refusal now
  left_by (Ok place, now) = λ target e sound. refl

  -- a function that has no response
  abbrev IsSilent : FunctionWord → Type 0
  IsSilent words.Login = ⊥
  IsSilent words.Query = ⊥
  IsSilent word = Unit {0}

  silent : (word : FunctionWord) → IsSilent word → (x : Effect) (now : Table) → Answered word (record { status = statuses.NoFault; login = 0; effect = x; response = responses.Nothing }, now)
  unfolding response_bytes
  silent words.Login h x now = absurd h
  silent words.Query h x now = absurd h
  silent word h x now = λ target e sound. refl

  on_by : (word : FunctionWord) → IsSilent word → (effect : Login → Effect) (x : Option Login) (now : Table) → Answered word (on_login effect x, now)
  unfolding response_bytes
  on_by word h effect None now = λ target e sound. refl
  on_by word h effect (Some login) now = silent word h (effect login) now

  module _ (source eui : ℕ) (t : Table) (keys : List (List ℕ)) where
    logs_in : Answered words.Login (decide_function (Some functions.Login) orb source eui t keys)
    unfolding response_bytes
    logs_in =
        let r = enter_step t (asked_by orb source eui) in
        let last : Outcome × Table = (login_decided orb r.0, r.1) in
        answered_if (not (unit_exists orb.subject keys)) words.Login (with_status statuses.LogicalUnit, t) (cond (lacks_key (key_at orb.subject keys) orb) (with_status statuses.AccessDenied, t) last) (λ target e sound. refl)
        (answered_if (lacks_key (key_at orb.subject keys) orb) words.Login (with_status statuses.AccessDenied, t) last (λ target e sound. refl) (entered_by r (enters t (asked_by orb source eui))))

    asks_of : Answered words.Query (decide_query orb keys, t)
    unfolding response_bytes
    asks_of = by (unit_exists orb.subject keys)
      where
        by : (b : Bool) → Answered words.Query (cond b (record { status = statuses.NoFault; login = 0; effect = effects.Nothing; response = responses.Query orb.subject }) (with_status statuses.LogicalUnit), t)
        by true = λ target e sound. ap (λ (x : Table). query_bytes (entries_of orb.subject x.places)) (sym e)
        by false = λ target e sound. refl

    abbrev live : Option Login
    live = live_login t.places orb.subject source

    by_function : (function : Option Function) → Answered (word_by function) (decide_function function orb source eui t keys)
    unfolding response_bytes
    by_function None = λ target e sound. refl
    by_function (Some functions.Login) = logs_in
    by_function (Some functions.Query) = asks_of
    by_function (Some functions.Reconnect) = back_by (back_step t orb.subject source eui)
    by_function (Some functions.Logout) = left_by (leave_step t orb.subject source)
    by_function (Some functions.Abort) = on_by words.Abort tt (effect_of functions.Abort orb) live t
    by_function (Some functions.AbortSet) = on_by words.AbortSet tt (effect_of functions.AbortSet orb) live t
    by_function (Some functions.UnitReset) = on_by words.UnitReset tt (effect_of functions.UnitReset orb) live t
    by_function (Some functions.TargetReset) = on_by words.TargetReset tt (effect_of functions.TargetReset orb) live t

    pub decision_answered : Answered (word_by (function_of orb.function)) (decide orb source eui t keys)
    unfolding decide response_bytes
    decision_answered =
        answered_if (orb.format == 0) (word_by (function_of orb.function)) (decide_function (function_of orb.function) orb source eui t keys) (with_status statuses.RequestType, t) (by_function (function_of orb.function)) (λ target e sound. refl)
