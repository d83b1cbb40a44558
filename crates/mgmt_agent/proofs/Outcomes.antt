-- A decision that has a response has status 00.
use Rattle.std.specs.Prelude.{◌≡◌, ◌≢◌, ℕ, Bool, true, false, cond, List, [], length, take, Option, Some, None, Result, Ok, Err, refl}
use Rattle.std.proofs.Common.{arith, length-take}
use Rattle.orb_layout.specs.declared.management.ManagementOrb.{ManagementOrb}
use Rattle.login_table.specs.declared.login.Login.{Login}
use Rattle.login_table.specs.declared.login.Entered.{Entered}
use Rattle.login_table.specs.declared.login.LoginRefusal.{LoginRefusal}
use Rattle.login_table.specs.Table.{Table}
use Rattle.mgmt_agent.specs.declared.status.Status.{Status}
use Rattle.mgmt_agent.specs.declared.status.Status.TheVariants as statuses
use Rattle.mgmt_agent.specs.declared.function.Function.{Function}
use Rattle.mgmt_agent.specs.declared.function.Function.TheVariants as functions
use Rattle.mgmt_agent.specs.declared.decision.Effect.{Effect}
use Rattle.mgmt_agent.specs.declared.decision.Outcome.{Outcome}
use Rattle.mgmt_agent.specs.declared.decision.Response.{Response}
use Rattle.mgmt_agent.specs.declared.decision.Response.TheVariants as responses
use Rattle.mgmt_agent.specs.Effects.{DoesNothing, RefusalLaw}
use Rattle.mgmt_agent.specs.Decisions.{with_status, login_decided, back_decided, left_decided, on_login, decide_query, decide_login, decide_function, decide, effect_of, response_bytes}

abbrev pub speaks : Response → Bool
speaks responses.Nothing = false
speaks (responses.Login response) = true
speaks (responses.Query unit) = true

pub record IsFit (outcome : Outcome) : Type 0 where
  pub answered : speaks outcome.response ≡ true → outcome.status ≡ statuses.NoFault
  pub quiet : outcome.status ≢ statuses.NoFault → DoesNothing outcome

refused_fit : (status : Status) → IsFit (with_status status)
refused_fit status = record { answered = λ e. absurd (let no : false ≡ true = e in cc); quiet = λ n. record { effect = refl; login = refl; response = refl } }

login_fit : (orb : ManagementOrb) (result : Result Entered LoginRefusal) → IsFit (login_decided orb result)
login_fit orb (Err refusal) = record { answered = λ e. absurd (let no : false ≡ true = e in cc); quiet = λ n. record { effect = refl; login = refl; response = refl } }
login_fit orb (Ok entered) = record { answered = λ e. refl; quiet = λ n. absurd (n refl) }

back_fit : (result : Result ℕ LoginRefusal) → IsFit (back_decided result)
back_fit (Err refusal) = record { answered = λ e. absurd (let no : false ≡ true = e in cc); quiet = λ n. record { effect = refl; login = refl; response = refl } }
back_fit (Ok place) = record { answered = λ e. refl; quiet = λ n. absurd (n refl) }

left_fit : (result : Result ℕ LoginRefusal) → IsFit (left_decided result)
left_fit (Err refusal) = record { answered = λ e. absurd (let no : false ≡ true = e in cc); quiet = λ n. record { effect = refl; login = refl; response = refl } }
left_fit (Ok place) = record { answered = λ e. refl; quiet = λ n. absurd (n refl) }

on_fit : (effect : Login → Effect) (login : Option Login) → IsFit (on_login effect login)
on_fit effect None = record { answered = λ e. absurd (let no : false ≡ true = e in cc); quiet = λ n. record { effect = refl; login = refl; response = refl } }
on_fit effect (Some login) = record { answered = λ e. refl; quiet = λ n. absurd (n refl) }

one_fit : (b : Bool) (x y : Outcome) → IsFit x → IsFit y → IsFit (cond b x y)
one_fit true x y p q = p
one_fit false x y p q = q

pair_fit : (b : Bool) (x y : Outcome × Table) → IsFit x.0 → IsFit y.0 → IsFit (cond b x y).0
pair_fit true x y p q = p
pair_fit false x y p q = q

query_fit : (orb : ManagementOrb) (keys : List (List ℕ)) → IsFit (decide_query orb keys)
query_fit orb keys = one_fit _ _ _ (record { answered = λ e. refl; quiet = λ n. absurd (n refl) }) (refused_fit statuses.LogicalUnit)

decide_login_fit : (orb : ManagementOrb) (source eui : ℕ) (table : Table) (keys : List (List ℕ)) → IsFit (decide_login orb source eui table keys).0
decide_login_fit orb source eui table keys =
    pair_fit _ _ _ (refused_fit statuses.LogicalUnit) (pair_fit _ _ _ (refused_fit statuses.AccessDenied) (login_fit orb _))

function_fit : (function : Option Function) (orb : ManagementOrb) (source eui : ℕ) (table : Table) (keys : List (List ℕ)) → IsFit (decide_function function orb source eui table keys).0
function_fit None orb source eui table keys = refused_fit statuses.FunctionRejected
function_fit (Some functions.Login) orb source eui table keys = decide_login_fit orb source eui table keys
function_fit (Some functions.Query) orb source eui table keys = query_fit orb keys
function_fit (Some functions.Reconnect) orb source eui table keys = back_fit _
function_fit (Some functions.Logout) orb source eui table keys = left_fit _
function_fit (Some functions.Abort) orb source eui table keys = on_fit (effect_of functions.Abort orb) _
function_fit (Some functions.AbortSet) orb source eui table keys = on_fit (effect_of functions.AbortSet orb) _
function_fit (Some functions.UnitReset) orb source eui table keys = on_fit (effect_of functions.UnitReset orb) _
function_fit (Some functions.TargetReset) orb source eui table keys = on_fit (effect_of functions.TargetReset orb) _

pub decide_fit : (orb : ManagementOrb) (source eui : ℕ) (table : Table) (keys : List (List ℕ)) → IsFit (decide orb source eui table keys).0
unfolding decide
decide_fit orb source eui table keys = pair_fit _ _ _ (function_fit _ orb source eui table keys) (refused_fit statuses.RequestType)

-- Where something of a response goes out, there is one.
pub cut_speaks : (response : Response) (places : List (Option Login)) (allowed : ℕ) → length (take allowed (response_bytes response places)) ≢ 0 → speaks response ≡ true
unfolding response_bytes
cut_speaks responses.Nothing places allowed n = absurd (n (let z = length-take {A = ℕ} allowed [] in omega arith))
cut_speaks (responses.Login response) places allowed n = refl
cut_speaks (responses.Query unit) places allowed n = refl

pub refusals_do_nothing : RefusalLaw
refusals_do_nothing orb source eui table keys n = (decide_fit orb source eui table keys).quiet n
