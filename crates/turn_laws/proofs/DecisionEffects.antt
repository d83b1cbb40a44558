-- The effect of a decision is that of its function, where its status is 00: on the login that has the subject as its ID, in its place or on its unit. With another status it has none.
use Rattle.std.proofs.Common.{◌≡◌, ◌∙◌, refl, sym, ap, subst, ℕ, ◌+◌, ◌*◌, ◌^◌, ◌==◌, not, Bool, true, false, cond, List, Option, Some, None, Result, Ok, Err}
use Rattle.login_table.specs.Sound.{IsSound}
use Rattle.login_table.specs.declared.login.Entered.{Entered}
use Rattle.login_table.specs.declared.login.Login.{Login}
use Rattle.login_table.specs.declared.login.LoginRefusal.{LoginRefusal}
use Rattle.login_table.specs.declared.login.LoginRefusal.TheVariants as refusals
use Rattle.login_table.specs.Table.{Table, back_step, enter_step, find, id_of, is_live_of, leave_step, place_at}
use Rattle.login_table.proofs.Searching.{found}
use Rattle.mgmt_agent.specs.declared.decision.Decision.{Decision}
use Rattle.mgmt_agent.specs.declared.decision.Effect.{Effect}
use Rattle.mgmt_agent.specs.declared.decision.Effect.TheVariants as effects
use Rattle.mgmt_agent.specs.declared.decision.ManagerStep.{ManagerStep}
use Rattle.mgmt_agent.specs.declared.decision.Outcome.{Outcome}
use Rattle.mgmt_agent.specs.declared.decision.Response.TheVariants as responses
use Rattle.mgmt_agent.specs.declared.function.Function.{Function}
use Rattle.mgmt_agent.specs.declared.function.Function.TheVariants as functions
use Rattle.mgmt_agent.specs.declared.operation.Operation.{Operation}
use Rattle.mgmt_agent.specs.declared.operation.Phase.{Phase}
use Rattle.mgmt_agent.specs.declared.operation.Phase.TheVariants as phases
use Rattle.mgmt_agent.specs.declared.status.Status.TheVariants as statuses
use Rattle.mgmt_agent.specs.Decisions.{asked_by, back_decided, decide, decide_function, decide_login, decide_query, effect_of, key_at, lacks_key, left_decided, live_login, login_decided, login_in, on_login, reads_eui, unit_exists, with_status}
use Rattle.mgmt_agent.specs.Machine.{Machine, beside, decide_step, decided_as, eui_step, high_eui_at, high_got, low_got, orb_got, reply_in, reply_step, reply_to, response_written, status_written}
use Rattle.mgmt_agent.specs.Statuses.{function_of, number_of, status_of}
use Rattle.orb_layout.specs.declared.ask.FailCause.{FailCause}
use Rattle.orb_layout.specs.declared.management.ManagementOrb.{ManagementOrb}
use Rattle.orb_layout.specs.ManagementOrbs.{management_orb}
use Rattle.orb_layout.specs.Replies.{Answer, payload_of, write_failure}
use Rattle.sbp_base.specs.Quadlets.{quad}
use Rattle.sbp_journal.specs.declared.operation.FunctionWord.{FunctionWord}
use Rattle.sbp_journal.specs.declared.operation.FunctionWord.TheVariants as words
use Rattle.sbp_laws.specs.Management.{word_by}
use Rattle.sbp_world.proofs.Sessions.Decisions.{of_id}

-- ---- the login that a decision names
abbrev pub IsAt : List (Option Login) → (place id : ℕ) → Type 0
IsAt places place id = id_of (place_at places place) ≡ Some id

pub record OnUnit (places : List (Option Login)) (unit id : ℕ) : Type 0 where
  pub place : ℕ
  pub login : Login
  pub stands : place_at places place ≡ Some login
  pub id_is : login.login ≡ id
  pub unit_is : login.unit ≡ unit

-- ---- what the effects are of: a word is that of the function where the status is 00
abbrev pub IsIdle : FunctionWord → Type 0
IsIdle words.Query = Unit {0}
IsIdle words.Other = Unit {0}
IsIdle word = ⊥

abbrev pub Fits : List (Option Login) → FunctionWord → (subject : ℕ) → Effect → Type 0
Fits places word subject effects.Nothing = IsIdle word
Fits places word subject (effects.Entered place replaced) = word ≡ words.Login
Fits places word subject (effects.Back place) = word ≡ words.Reconnect
Fits places word subject (effects.Left place) = word ≡ words.Logout
Fits places word subject (effects.Abort place orb) = word ≡ words.Abort
Fits places word subject (effects.AbortSet place) = (word ≡ words.AbortSet) × IsAt places place subject
Fits places word subject (effects.UnitReset unit) = (word ≡ words.UnitReset) × OnUnit places unit subject
Fits places word subject effects.TargetReset = word ≡ words.TargetReset

abbrev pub good_by : (status : ℕ) → FunctionWord → FunctionWord
good_by status word = cond (status == 0) word words.Other

abbrev pub FitsAs : List (Option Login) → FunctionWord → (subject : ℕ) → Outcome → Type 0
FitsAs places word subject x = Fits places (good_by (number_of x.status) word) subject x.effect

-- ---- a decision
module _ (orb : ManagementOrb) (source eui : ℕ) (t : Table) (sound : IsSound t.places) (keys : List (List ℕ)) where
  abbrev pub F : FunctionWord → Outcome → Type 0
  F word x = FitsAs t.places word orb.subject x

  refused : (word : FunctionWord) (refusal : LoginRefusal) → F word (with_status (status_of refusal))
  refused word refusals.Denied = tt
  refused word refusals.NoRoom = tt
  refused word refusals.Unknown = tt
  refused word refusals.OtherNode = tt

  entered_fits : (r : Result Entered LoginRefusal) → F words.Login (login_decided orb r)
  entered_fits (Err refusal) = refused words.Login refusal
  entered_fits (Ok entered) = refl

  entry_fits : (b : Bool) (r : Result Entered LoginRefusal × Table) → F words.Login (cond {A = Outcome × Table} b (with_status statuses.AccessDenied, t) (login_decided orb r.0, r.1)).0
  entry_fits true r = tt
  entry_fits false r = entered_fits r.0

  unit_fits : (a b : Bool) (r : Result Entered LoginRefusal × Table) → F words.Login (cond {A = Outcome × Table} a (with_status statuses.LogicalUnit, t) (cond b (with_status statuses.AccessDenied, t) (login_decided orb r.0, r.1))).0
  unit_fits true b r = tt
  unit_fits false b r = entry_fits b r

  login_fits : F words.Login (decide_login orb source eui t keys).0
  login_fits = unit_fits (not (unit_exists orb.subject keys)) (lacks_key (key_at orb.subject keys) orb) (enter_step t (asked_by orb source eui))

  query_fits : F words.Query (decide_query orb keys)
  query_fits = by (unit_exists orb.subject keys)
    where
      by : (b : Bool) → F words.Query (cond b (record { status = statuses.NoFault; login = 0; effect = effects.Nothing; response = responses.Query orb.subject }) (with_status statuses.LogicalUnit))
      by true = tt
      by false = tt

  back_fits : (r : Result ℕ LoginRefusal) → F words.Reconnect (back_decided r)
  back_fits (Err refusal) = refused words.Reconnect refusal
  back_fits (Ok place) = refl

  left_fits : (r : Result ℕ LoginRefusal) → F words.Logout (left_decided r)
  left_fits (Err refusal) = refused words.Logout refusal
  left_fits (Ok place) = refl

  -- a login that is live for the source
  abbrev IsThere : Login → Type 0
  IsThere login = (place_at t.places login.place ≡ Some login) × (login.login ≡ orb.subject)

  found_live : (k : Option ℕ) → find (is_live_of orb.subject source) t.places ≡ k → (login : Login) → login_in k t.places ≡ Some login → IsThere login
  found_live None e login f = absurd (let no : None ≡ Some login = f in cc)
  found_live (Some k) e login f =
      let g = found (is_live_of orb.subject source) t.places k e in
      let same : g.login ≡ login = (let z : Some g.login ≡ Some login = sym g.stands ∙ f in cc) in
      (ap (place_at t.places) (sound.numbered k login f).own ∙ f, of_id orb.subject source login (subst (λ (x : Login). is_live_of orb.subject source x ≡ true) same g.passes))

  live_there : (login : Login) → live_login t.places orb.subject source ≡ Some login → IsThere login
  unfolding live_login
  live_there login e = found_live (find (is_live_of orb.subject source) t.places) refl login e

  on_fits : (word : FunctionWord) (effect : Login → Effect) → ((login : Login) → IsThere login → Fits t.places word orb.subject (effect login)) → (x : Option Login) → ((login : Login) → x ≡ Some login → IsThere login) → F word (on_login effect x)
  on_fits word effect h None f = tt
  on_fits word effect h (Some login) f = h login (f login refl)

  abbrev live : Option Login
  live = live_login t.places orb.subject source

  function_fits : (function : Option Function) → F (word_by function) (decide_function function orb source eui t keys).0
  function_fits None = tt
  function_fits (Some functions.Login) = login_fits
  function_fits (Some functions.Query) = query_fits
  function_fits (Some functions.Reconnect) = back_fits (back_step t orb.subject source eui).0
  function_fits (Some functions.Logout) = left_fits (leave_step t orb.subject source).0
  function_fits (Some functions.Abort) = on_fits words.Abort (effect_of functions.Abort orb) (λ login h. refl) live live_there
  function_fits (Some functions.AbortSet) = on_fits words.AbortSet (effect_of functions.AbortSet orb) (λ login h. (refl, ap id_of h.0 ∙ ap Some h.1)) live live_there
  function_fits (Some functions.UnitReset) =
      on_fits words.UnitReset (effect_of functions.UnitReset orb) (λ login h. (refl, record { place = login.place; login = login; stands = h.0; id_is = h.1; unit_is = refl })) live live_there
  function_fits (Some functions.TargetReset) = on_fits words.TargetReset (effect_of functions.TargetReset orb) (λ login h. refl) live live_there

  fits_if : (b : Bool) (word : FunctionWord) (x y : Outcome × Table) → F word x.0 → F word y.0 → F word (cond b x y).0
  fits_if true word x y p q = p
  fits_if false word x y p q = q

  pub decision_fits : F (word_by (function_of orb.function)) (decide orb source eui t keys).0
  unfolding decide
  decision_fits = fits_if (orb.format == 0) (word_by (function_of orb.function)) (decide_function (function_of orb.function) orb source eui t keys) (with_status statuses.RequestType, t) (function_fits (function_of orb.function)) tt

-- ---- a reply
abbrev pub FitsBy : List (Option Login) → Option Decision → Effect → Type 0
FitsBy places None effect = effect ≡ effects.Nothing
FitsBy places (Some d) effect = Fits places (good_by d.status (word_by (function_of d.function))) d.subject effect

abbrev FitsStep : Table → ManagerStep → Type 0
FitsStep t step = FitsBy t.places step.decided step.effect

fits_steps : (b : Bool) (t : Table) (x y : ManagerStep × (Machine × Table)) → FitsStep t x.0 → FitsStep t y.0 → FitsStep t (cond b x y).0
fits_steps true t x y p q = p
fits_steps false t x y p q = q

module _ (t : Table) (sound : IsSound t.places) (m : Machine) (own : Operation) (keys : List (List ℕ)) where
  as_decided : (orb : ManagementOrb) (r : Outcome × Table) → FitsAs t.places (word_by (function_of orb.function)) orb.subject r.0 → FitsStep t (decided_as r m own orb).0
  as_decided orb (outcome, now) h = h

  decides : (orb : ManagementOrb) (eui : ℕ) → FitsStep t (decide_step m own orb eui t keys).0
  unfolding decide_step
  decides orb eui = as_decided orb (decide orb own.source eui t keys) (decision_fits orb own.source eui t sound keys)

  orb_fits : (bytes : Result (List ℕ) FailCause) → FitsStep t (orb_got bytes m own t keys).0
  orb_fits (Err cause) = refl
  orb_fits (Ok bytes) =
      let orb = management_orb bytes in fits_steps (reads_eui orb) t (beside t (eui_step m own (phases.HighEui orb) high_eui_at)) (decide_step m own orb 0 t keys) refl (decides orb 0)

  high_fits : (bytes : Result (List ℕ) FailCause) (orb : ManagementOrb) → FitsStep t (high_got bytes m own orb).0
  high_fits (Err cause) orb = refl
  high_fits (Ok bytes) orb = refl

  low_fits : (bytes : Result (List ℕ) FailCause) (orb : ManagementOrb) (high : ℕ) → FitsStep t (low_got bytes m own orb high t keys).0
  low_fits (Err cause) orb high = refl
  low_fits (Ok bytes) orb high = decides orb (high * 2 ^ 32 + quad bytes 0)

  response_fits : (failure : Option FailCause) (fifo : ℕ) → FitsStep t (response_written failure m own fifo).0
  response_fits None fifo = refl
  response_fits (Some cause) fifo = refl

  status_fits : (failure : Option FailCause) → FitsStep t (status_written failure m).0
  status_fits None = refl
  status_fits (Some cause) = refl

  phase_fits : (phase : Phase) (answer : Answer) → FitsStep t (reply_in phase m own t keys answer).0
  phase_fits phases.Orb answer = orb_fits (payload_of answer 32)
  phase_fits (phases.HighEui orb) answer = high_fits (payload_of answer 4) orb
  phase_fits (phases.LowEui orb high) answer = low_fits (payload_of answer 4) orb high
  phase_fits (phases.Response fifo) answer = response_fits (write_failure answer) fifo
  phase_fits phases.Status answer = status_fits (write_failure answer)

operation_fits : (operation : Option Operation) (t : Table) → IsSound t.places → (m : Machine) (keys : List (List ℕ)) (answer : Answer) → FitsStep t (reply_to operation m t keys answer).0
operation_fits None t sound m keys answer = refl
operation_fits (Some own) t sound m keys answer = phase_fits t sound m own keys own.phase answer

pub reply_fits : (m : Machine) (t : Table) → IsSound t.places → (keys : List (List ℕ)) (answer : Answer) → (let step = (reply_step m t keys answer).0 in FitsBy t.places step.decided step.effect)
unfolding reply_step
reply_fits m t sound keys answer = operation_fits m.operation t sound m keys answer
