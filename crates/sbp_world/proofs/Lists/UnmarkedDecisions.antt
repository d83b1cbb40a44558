-- A reply to the management operation aborts no ORB where the management ORB that it decides asks for no abort.
use Rattle.sbp_world.proofs.Words.Std.{◌≡◌, refl, ℕ, ◌*◌, ◌+◌, ◌^◌, ◌==◌, not, Bool, true, false, cond, List, Option, Some, None, Result, Ok, Err, quad}
use Rattle.sbp_world.proofs.Words.Target.{Entered, Login, LoginRefusal, Table, back_step, enter_step, leave_step, Effect, ManagerStep, Function, Operation, asked_by, back_decided, decide, decide_function, effect_of, key_at, lacks_key, left_decided, live_login, login_decided, on_login, reads_eui, unit_exists, with_status, beside, decide_step, decided_as, eui_step, high_eui_at, high_got, low_got, orb_got, reply_in, reply_to, response_written, status_written, function_of}
use Rattle.sbp_world.proofs.Words.Initiator.{FailCause, ManagementOrb, management_orb, Answer, Expired, payload_of, write_failure}
use Rattle.mgmt_agent.specs.declared.decision.Effect.TheVariants as effects
use Rattle.mgmt_agent.specs.declared.decision.Outcome.{Outcome}
use Rattle.mgmt_agent.specs.declared.function.Function.TheVariants as functions
use Rattle.mgmt_agent.specs.declared.operation.Phase.{Phase}
use Rattle.mgmt_agent.specs.declared.operation.Phase.TheVariants as phases
use Rattle.mgmt_agent.specs.declared.status.Status.TheVariants as statuses
use Rattle.mgmt_agent.specs.Machine.{Machine, reply_step}

abbrev pub is_abort : Effect → Bool
is_abort (effects.Abort place orb) = true
is_abort effect = false

-- the ORB asks for no abort
abbrev pub NoAbort : ManagementOrb → Type 0
NoAbort orb = function_of orb.function ≡ Some functions.Abort → ⊥

-- so does the ORB that a reply decides
abbrev pub NoAbortIn : Phase → Answer → Type 0
NoAbortIn phases.Orb answer = (bytes : List ℕ) → payload_of answer 32 ≡ Ok bytes → NoAbort (management_orb bytes)
NoAbortIn (phases.LowEui orb high) answer = (bytes : List ℕ) → payload_of answer 4 ≡ Ok bytes → NoAbort orb
NoAbortIn phase answer = Unit {0}

-- ---- a decision
abbrev Aborts : Outcome × Table → Bool
Aborts x = is_abort x.0.effect

pick : (b : Bool) (x y : Outcome × Table) → Aborts x ≡ false → Aborts y ≡ false → Aborts (cond b x y) ≡ false
pick true x y h k = h
pick false x y h k = k

login_not : (orb : ManagementOrb) (r : Result Entered LoginRefusal) → is_abort (login_decided orb r).effect ≡ false
login_not orb (Ok entered) = refl
login_not orb (Err refusal) = refl

back_not : (r : Result ℕ LoginRefusal) → is_abort (back_decided r).effect ≡ false
back_not (Ok place) = refl
back_not (Err refusal) = refl

left_not : (r : Result ℕ LoginRefusal) → is_abort (left_decided r).effect ≡ false
left_not (Ok place) = refl
left_not (Err refusal) = refl

query_by : (b : Bool) (x y : Outcome) → is_abort x.effect ≡ false → is_abort y.effect ≡ false → is_abort (cond b x y).effect ≡ false
query_by true x y h k = h
query_by false x y h k = k

on_not : (effect : Login → Effect) (found : Option Login) → ((login : Login) → is_abort (effect login) ≡ false) → is_abort (on_login effect found).effect ≡ false
on_not effect None f = refl
on_not effect (Some login) f = f login

module _ (orb : ManagementOrb) (source eui : ℕ) (table : Table) (keys : List (List ℕ)) (none : NoAbort orb) where
  function_not : (function : Option Function) → function_of orb.function ≡ function → Aborts (decide_function function orb source eui table keys) ≡ false
  function_not None e = refl
  function_not (Some functions.Login) e =
      pick (not (unit_exists orb.subject keys)) _ _ refl (pick (lacks_key (key_at orb.subject keys) orb) _ _ refl (login_not orb (enter_step table (asked_by orb source eui)).0))
  function_not (Some functions.Query) e = query_by (unit_exists orb.subject keys) _ _ refl refl
  function_not (Some functions.Reconnect) e = back_not (back_step table orb.subject source eui).0
  function_not (Some functions.Logout) e = left_not (leave_step table orb.subject source).0
  function_not (Some functions.Abort) e = absurd (none e)
  function_not (Some functions.AbortSet) e = on_not (effect_of functions.AbortSet orb) (live_login table.places orb.subject source) (λ login. refl)
  function_not (Some functions.UnitReset) e = on_not (effect_of functions.UnitReset orb) (live_login table.places orb.subject source) (λ login. refl)
  function_not (Some functions.TargetReset) e = on_not (effect_of functions.TargetReset orb) (live_login table.places orb.subject source) (λ login. refl)

  pub decide_not : Aborts (decide orb source eui table keys) ≡ false
  unfolding decide
  decide_not = pick (orb.format == 0) (decide_function (function_of orb.function) orb source eui table keys) (with_status statuses.RequestType, table) (function_not (function_of orb.function) refl) refl

-- ---- a reply
abbrev StepAborts : ManagerStep × (Machine × Table) → Bool
StepAborts x = is_abort x.0.effect

pick_step : (b : Bool) (x y : ManagerStep × (Machine × Table)) → StepAborts x ≡ false → StepAborts y ≡ false → StepAborts (cond b x y) ≡ false
pick_step true x y h k = h
pick_step false x y h k = k

module _ (m : Machine) (own : Operation) (t : Table) (keys : List (List ℕ)) where
  as_decided : (r : Outcome × Table) (orb : ManagementOrb) → Aborts r ≡ false → StepAborts (decided_as r m own orb) ≡ false
  as_decided (outcome, table) orb e = e

  decides : (orb : ManagementOrb) (eui : ℕ) → NoAbort orb → StepAborts (decide_step m own orb eui t keys) ≡ false
  unfolding decide_step
  decides orb eui none = as_decided (decide orb own.source eui t keys) orb (decide_not orb own.source eui t keys none)

  orb_not : (bytes : Result (List ℕ) FailCause) → ((xs : List ℕ) → bytes ≡ Ok xs → NoAbort (management_orb xs)) → StepAborts (orb_got bytes m own t keys) ≡ false
  orb_not (Err cause) f = refl
  orb_not (Ok bytes) f =
      let orb = management_orb bytes in
      pick_step (reads_eui orb) (beside t (eui_step m own (phases.HighEui orb) high_eui_at)) (decide_step m own orb 0 t keys) refl (decides orb 0 (f bytes refl))

  high_not : (bytes : Result (List ℕ) FailCause) (orb : ManagementOrb) → is_abort (high_got bytes m own orb).0.effect ≡ false
  high_not (Err cause) orb = refl
  high_not (Ok bytes) orb = refl

  low_not : (bytes : Result (List ℕ) FailCause) (orb : ManagementOrb) (high : ℕ) → ((xs : List ℕ) → bytes ≡ Ok xs → NoAbort orb) → StepAborts (low_got bytes m own orb high t keys) ≡ false
  low_not (Err cause) orb high f = refl
  low_not (Ok bytes) orb high f = decides orb (high * 2 ^ 32 + quad bytes 0) (f bytes refl)

  response_not : (failure : Option FailCause) (fifo : ℕ) → is_abort (response_written failure m own fifo).0.effect ≡ false
  response_not None fifo = refl
  response_not (Some cause) fifo = refl

  status_not : (failure : Option FailCause) → is_abort (status_written failure m).0.effect ≡ false
  status_not None = refl
  status_not (Some cause) = refl

  phase_not : (phase : Phase) (answer : Answer) → NoAbortIn phase answer → StepAborts (reply_in phase m own t keys answer) ≡ false
  phase_not phases.Orb answer f = orb_not (payload_of answer 32) f
  phase_not (phases.HighEui orb) answer f = high_not (payload_of answer 4) orb
  phase_not (phases.LowEui orb high) answer f = low_not (payload_of answer 4) orb high f
  phase_not (phases.Response fifo) answer f = response_not (write_failure answer) fifo
  phase_not phases.Status answer f = status_not (write_failure answer)

reply_by : (operation : Option Operation) (m : Machine) (t : Table) (keys : List (List ℕ)) (answer : Answer) → ((op : Operation) → operation ≡ Some op → NoAbortIn op.phase answer) → StepAborts (reply_to operation m t keys answer) ≡ false
reply_by None m t keys answer f = refl
reply_by (Some own) m t keys answer f = phase_not m own t keys own.phase answer (f own refl)

pub reply_not : (m : Machine) (t : Table) (keys : List (List ℕ)) (answer : Answer) → ((op : Operation) → m.operation ≡ Some op → NoAbortIn op.phase answer) → is_abort (reply_step m t keys answer).0.effect ≡ false
unfolding reply_step
reply_not m t keys answer f = reply_by m.operation m t keys answer f

-- where it failed nothing is decided
no_bytes : {A : Type 0} (cause : FailCause) (bytes : List ℕ) → Err cause ≡ Ok bytes → A
no_bytes cause bytes e = absurd (let no : Err cause ≡ Ok bytes = e in cc)

pub expired_spares : (phase : Phase) → NoAbortIn phase Expired
expired_spares phases.Orb = λ bytes e. no_bytes _ bytes e
expired_spares (phases.HighEui orb) = tt
expired_spares (phases.LowEui orb high) = λ bytes e. no_bytes _ bytes e
expired_spares (phases.Response fifo) = tt
expired_spares phases.Status = tt
