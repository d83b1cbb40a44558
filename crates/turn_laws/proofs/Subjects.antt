-- A login that a decision brings back or ends has the ID that its management ORB names, in the place of the effect as it was before.
use Rattle.std.proofs.Common.{◌≡◌, ◌∙◌, refl, sym, ap, subst, ℕ, ◌+◌, ◌*◌, ◌^◌, ◌==◌, ◌&&◌, nat_eq, not, Bool, true, false, cond, List, Option, Some, None, Result, Ok, Err, arith}
use Rattle.std.proofs.lemmas.Bool.Decides.{nat_tests}
use Rattle.std.specs.Prelude.{slice_set}
use Rattle.login_table.specs.declared.login.Entered.{Entered}
use Rattle.login_table.specs.declared.login.Login.{Login}
use Rattle.login_table.specs.declared.login.LoginRefusal.{LoginRefusal}
use Rattle.login_table.specs.declared.login.LoginRefusal.TheVariants as refusals
use Rattle.login_table.specs.Table.{Table, back_at, back_step, back_to, enter_step, find, id_of, is_barred, is_held, is_live, is_live_of, leave_at, leave_step, place_at, revived}
use Rattle.login_table.proofs.Searching.{found}
use Rattle.mgmt_agent.specs.declared.decision.Decision.{Decision}
use Rattle.mgmt_agent.specs.declared.decision.Effect.{Effect}
use Rattle.mgmt_agent.specs.declared.decision.Effect.TheVariants as effects
use Rattle.mgmt_agent.specs.declared.decision.ManagerStep.{ManagerStep}
use Rattle.mgmt_agent.specs.declared.decision.Outcome.{Outcome}
use Rattle.mgmt_agent.specs.declared.decision.Response.TheVariants as responses
use Rattle.mgmt_agent.specs.declared.function.Function.{Function}
use Rattle.mgmt_agent.specs.declared.function.Function.TheVariants as functions
use Rattle.mgmt_agent.specs.declared.operation.Operation.{Operation}
use Rattle.mgmt_agent.specs.declared.operation.Phase.{Phase}
use Rattle.mgmt_agent.specs.declared.operation.Phase.TheVariants as phases
use Rattle.mgmt_agent.specs.declared.status.Status.TheVariants as statuses
use Rattle.mgmt_agent.specs.Decisions.{asked_by, back_decided, decide, decide_function, decide_login, decide_query, effect_of, key_at, lacks_key, left_decided, live_login, login_decided, on_login, reads_eui, told, unit_exists, with_status}
use Rattle.mgmt_agent.specs.Machine.{Machine, beside, decide_step, decided_as, eui_step, fail_step, high_eui_at, high_got, low_got, orb_got, reply_in, reply_step, reply_to, response_written, status_written}
use Rattle.mgmt_agent.specs.Statuses.{function_of}
use Rattle.orb_layout.specs.declared.ask.FailCause.{FailCause}
use Rattle.orb_layout.specs.declared.management.ManagementOrb.{ManagementOrb}
use Rattle.orb_layout.specs.ManagementOrbs.{management_orb}
use Rattle.orb_layout.specs.Replies.{Answer, payload_of, write_failure}
use Rattle.sbp_base.specs.Quadlets.{quad}
use Rattle.sbp_world.proofs.Sessions.Decisions.{of_id}

-- the login in the place of an effect has this ID
abbrev pub Names : List (Option Login) → (subject : ℕ) → Effect → Type 0
Names places subject (effects.Back place) = id_of (place_at places place) ≡ Some subject
Names places subject (effects.Left place) = id_of (place_at places place) ≡ Some subject
Names places subject effect = Unit {0}

named_if : (b : Bool) (places : List (Option Login)) (subject : ℕ) (x y : Outcome × Table) → Names places subject x.0.effect → Names places subject y.0.effect → Names places subject (cond b x y).0.effect
named_if true places subject x y p q = p
named_if false places subject x y p q = q

-- ---- the login that is found
held_id : (id : ℕ) (login : Login) → is_held id login ≡ true → login.login ≡ id
held_id id login e = by (is_live login) (nat_eq login.login id) refl e
  where
    by : (a b : Bool) → nat_eq login.login id ≡ b → (not a && b) ≡ true → login.login ≡ id
    by true b f e = absurd (let no : false ≡ true = e in cc)
    by false true f e = grind (arith, nat_tests)
    by false false f e = absurd (let no : false ≡ true = e in cc)

module _ (t : Table) (id : ℕ) where
  abbrev Back : Result ℕ LoginRefusal × Table → Type 0
  Back r = Names t.places id (back_decided r.0).effect

  abbrev Leaves : Result ℕ LoginRefusal × Table → Type 0
  Leaves r = Names t.places id (left_decided r.0).effect

  back_named : (node eui place : ℕ) (login : Option Login) → id_of (place_at t.places place) ≡ Some id → Back (back_to login t place node eui)
  back_named node eui place None e = tt
  back_named node eui place (Some login) e = by (is_barred node eui login t.places)
    where
      by : (b : Bool) → Back (cond b (Err refusals.OtherNode, t) (Ok place, record t { places = slice_set t.places place (Some (revived node login)) }))
      by true = tt
      by false = e

  back_found : (node eui : ℕ) (k : Option ℕ) → find (is_held id) t.places ≡ k → Back (back_at k t node eui)
  back_found node eui None e = tt
  back_found node eui (Some place) e =
      let f = found (is_held id) t.places place e in back_named node eui place (place_at t.places place) (ap id_of f.stands ∙ ap Some (held_id id f.login f.passes))

  back_subject : (node eui : ℕ) → Back (back_step t id node eui)
  unfolding back_step
  back_subject node eui = back_found node eui (find (is_held id) t.places) refl

  left_found : (node : ℕ) (k : Option ℕ) → find (is_live_of id node) t.places ≡ k → Leaves (leave_at k t)
  left_found node None e = tt
  left_found node (Some place) e = let f = found (is_live_of id node) t.places place e in ap id_of f.stands ∙ ap Some (of_id id node f.login f.passes)

  left_subject : (node : ℕ) → Leaves (leave_step t id node)
  unfolding leave_step
  left_subject node = left_found node (find (is_live_of id node) t.places) refl

-- ---- a decision
module _ (orb : ManagementOrb) (source eui : ℕ) (t : Table) (keys : List (List ℕ)) where
  abbrev Named : Outcome → Type 0
  Named x = Names t.places orb.subject x.effect

  entered_named : (r : Result Entered LoginRefusal) → Named (login_decided orb r)
  entered_named (Err refusal) = tt
  entered_named (Ok entered) = tt

  entry_named : (b : Bool) (r : Result Entered LoginRefusal × Table) → Named (cond {A = Outcome × Table} b (with_status statuses.AccessDenied, t) (login_decided orb r.0, r.1)).0
  entry_named true r = tt
  entry_named false r = entered_named r.0

  unit_named : (a b : Bool) (r : Result Entered LoginRefusal × Table) → Named (cond {A = Outcome × Table} a (with_status statuses.LogicalUnit, t) (cond b (with_status statuses.AccessDenied, t) (login_decided orb r.0, r.1))).0
  unit_named true b r = tt
  unit_named false b r = entry_named b r

  login_named : Named (decide_login orb source eui t keys).0
  login_named = unit_named (not (unit_exists orb.subject keys)) (lacks_key (key_at orb.subject keys) orb) (enter_step t (asked_by orb source eui))

  query_named : Named (decide_query orb keys)
  query_named = by (unit_exists orb.subject keys)
    where
      by : (b : Bool) → Named (cond b (record { status = statuses.NoFault; login = 0; effect = effects.Nothing; response = responses.Query orb.subject }) (with_status statuses.LogicalUnit))
      by true = tt
      by false = tt

  on_named : (effect : Login → Effect) → ((login : Login) → Names t.places orb.subject (effect login)) → (x : Option Login) → Named (on_login effect x)
  on_named effect h None = tt
  on_named effect h (Some login) = h login

  function_named : (function : Option Function) → Named (decide_function function orb source eui t keys).0
  function_named None = tt
  function_named (Some functions.Login) = login_named
  function_named (Some functions.Query) = query_named
  function_named (Some functions.Reconnect) = back_subject t orb.subject source eui
  function_named (Some functions.Logout) = left_subject t orb.subject source
  function_named (Some functions.Abort) = on_named (effect_of functions.Abort orb) (λ login. tt) (live_login t.places orb.subject source)
  function_named (Some functions.AbortSet) = on_named (effect_of functions.AbortSet orb) (λ login. tt) (live_login t.places orb.subject source)
  function_named (Some functions.UnitReset) = on_named (effect_of functions.UnitReset orb) (λ login. tt) (live_login t.places orb.subject source)
  function_named (Some functions.TargetReset) = on_named (effect_of functions.TargetReset orb) (λ login. tt) (live_login t.places orb.subject source)

  decision_named : Named (decide orb source eui t keys).0
  unfolding decide
  decision_named =
      named_if (orb.format == 0) t.places orb.subject (decide_function (function_of orb.function) orb source eui t keys) (with_status statuses.RequestType, t) (function_named (function_of orb.function)) tt

-- ---- a reply
abbrev pub NamedStep : Table → ManagerStep → Type 0
NamedStep t step = (d : Decision) → step.decided ≡ Some d → Names t.places d.subject step.effect

undecided : (t : Table) (step : ManagerStep) → step.decided ≡ None → NamedStep t step
undecided t step e d f = absurd (let no : None ≡ Some d = sym e ∙ f in cc)

named_steps : (b : Bool) (t : Table) (x y : ManagerStep × (Machine × Table)) → NamedStep t x.0 → NamedStep t y.0 → NamedStep t (cond b x y).0
named_steps true t x y p q = p
named_steps false t x y p q = q

module _ (t : Table) (m : Machine) (own : Operation) (keys : List (List ℕ)) where
  as_decided : (orb : ManagementOrb) (r : Outcome × Table) → Names t.places orb.subject r.0.effect → NamedStep t (decided_as r m own orb).0
  as_decided orb (outcome, now) n d e =
      let is : told orb outcome ≡ d = (let z : Some (told orb outcome) ≡ Some d = e in cc) in subst (λ (x : Decision). Names t.places x.subject outcome.effect) is n

  decides : (orb : ManagementOrb) (eui : ℕ) → NamedStep t (decide_step m own orb eui t keys).0
  unfolding decide_step
  decides orb eui = as_decided orb (decide orb own.source eui t keys) (decision_named orb own.source eui t keys)

  orb_named : (bytes : Result (List ℕ) FailCause) → NamedStep t (orb_got bytes m own t keys).0
  orb_named (Err cause) = undecided t (fail_step m cause).0 refl
  orb_named (Ok bytes) =
      let orb = management_orb bytes in
      let asks = eui_step m own (phases.HighEui orb) high_eui_at in named_steps (reads_eui orb) t (beside t asks) (decide_step m own orb 0 t keys) (undecided t asks.0 refl) (decides orb 0)

  high_named : (bytes : Result (List ℕ) FailCause) (orb : ManagementOrb) → NamedStep t (high_got bytes m own orb).0
  high_named (Err cause) orb = undecided t (fail_step m cause).0 refl
  high_named (Ok bytes) orb = undecided t (high_got (Ok bytes) m own orb).0 refl

  low_named : (bytes : Result (List ℕ) FailCause) (orb : ManagementOrb) (high : ℕ) → NamedStep t (low_got bytes m own orb high t keys).0
  low_named (Err cause) orb high = undecided t (fail_step m cause).0 refl
  low_named (Ok bytes) orb high = decides orb (high * 2 ^ 32 + quad bytes 0)

  response_named : (failure : Option FailCause) (fifo : ℕ) → NamedStep t (response_written failure m own fifo).0
  response_named None fifo = undecided t (response_written None m own fifo).0 refl
  response_named (Some cause) fifo = undecided t (fail_step m cause).0 refl

  status_named : (failure : Option FailCause) → NamedStep t (status_written failure m).0
  status_named None = undecided t (status_written None m).0 refl
  status_named (Some cause) = undecided t (fail_step m cause).0 refl

  phase_named : (phase : Phase) (answer : Answer) → NamedStep t (reply_in phase m own t keys answer).0
  phase_named phases.Orb answer = orb_named (payload_of answer 32)
  phase_named (phases.HighEui orb) answer = high_named (payload_of answer 4) orb
  phase_named (phases.LowEui orb high) answer = low_named (payload_of answer 4) orb high
  phase_named (phases.Response fifo) answer = response_named (write_failure answer) fifo
  phase_named phases.Status answer = status_named (write_failure answer)

operation_named : (operation : Option Operation) (t : Table) (m : Machine) (keys : List (List ℕ)) (answer : Answer) → NamedStep t (reply_to operation m t keys answer).0
operation_named None t m keys answer = undecided t (reply_to None m t keys answer).0 refl
operation_named (Some own) t m keys answer = phase_named t m own keys own.phase answer

pub reply_named : (m : Machine) (t : Table) (keys : List (List ℕ)) (answer : Answer) → NamedStep t (reply_step m t keys answer).0
unfolding reply_step
reply_named m t keys answer = operation_named m.operation t m keys answer
