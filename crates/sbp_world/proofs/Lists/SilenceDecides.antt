-- What is decided on an ORB that ends lists has no response.
use Rattle.sbp_world.proofs.Words.Std.{◌≡◌, refl, sym, subst, ℕ, zero, suc, ◌==◌, Bool, true, false, cond, List, [], length, take, Option, Some, None, Result, Ok, Err}
use Rattle.sbp_world.proofs.Words.Target.{Login, LoginRefusal, Table, leave_step, Effect, Response, Function, decide, decide_function, effect_of, left_decided, live_login, on_login, response_bytes, with_status, cut_response, function_of}
use Rattle.sbp_world.proofs.Words.Initiator.{ManagementOrb}
use Rattle.mgmt_agent.specs.declared.decision.Outcome.{Outcome}
use Rattle.mgmt_agent.specs.declared.decision.Response.TheVariants as responses
use Rattle.mgmt_agent.specs.declared.function.Function.TheVariants as functions
use Rattle.mgmt_agent.specs.declared.status.Status.TheVariants as statuses
use Rattle.sbp_world.proofs.Lists.OpenedOrbs.{EndsLists, ends_lists}
use Rattle.sbp_world.proofs.Common.{untrue}

abbrev IsQuiet : Outcome → Type 0
IsQuiet outcome = outcome.response ≡ responses.Nothing

left_quiet : (r : Result ℕ LoginRefusal) → IsQuiet (left_decided r)
left_quiet (Ok place) = refl
left_quiet (Err refusal) = refl

login_quiet : (effect : Login → Effect) (login : Option Login) → IsQuiet (on_login effect login)
login_quiet effect None = refl
login_quiet effect (Some login) = refl

module _ (orb : ManagementOrb) (source eui : ℕ) (t : Table) (keys : List (List ℕ)) where
  function_quiet : (f : Function) → ends_lists f ≡ true → IsQuiet (decide_function (Some f) orb source eui t keys).0
  function_quiet functions.Logout e = left_quiet (leave_step t orb.subject source).0
  function_quiet functions.AbortSet e = login_quiet (effect_of functions.AbortSet orb) (live_login t.places orb.subject source)
  function_quiet functions.UnitReset e = login_quiet (effect_of functions.UnitReset orb) (live_login t.places orb.subject source)
  function_quiet functions.TargetReset e = login_quiet (effect_of functions.TargetReset orb) (live_login t.places orb.subject source)
  function_quiet functions.Login e = untrue e
  function_quiet functions.Query e = untrue e
  function_quiet functions.Reconnect e = untrue e
  function_quiet functions.Abort e = untrue e

  decide_quiet : EndsLists orb → IsQuiet (decide orb source eui t keys).0
  unfolding decide
  decide_quiet e = by (orb.format == 0)
    where
      by : (b : Bool) → IsQuiet (cond b (decide_function (function_of orb.function) orb source eui t keys) (with_status statuses.RequestType, t)).0
      by true = subst (λ f. IsQuiet (decide_function f orb source eui t keys).0) (sym e.is) (function_quiet e.function e.ends)
      by false = refl

nothing_cut : (n : ℕ) → (length (take {A = ℕ} n []) == 0) ≡ true
nothing_cut zero = refl
nothing_cut (suc n) = refl

nothing_by : (response : Response) (t : Table) (n : ℕ) → response ≡ responses.Nothing → (length (take n (response_bytes response t.places)) == 0) ≡ true
unfolding response_bytes
nothing_by response t n e = subst (λ r. (length (take n (response_bytes r t.places)) == 0) ≡ true) (sym e) (nothing_cut n)

pub ends_quiet : (orb : ManagementOrb) (source eui : ℕ) (t : Table) (keys : List (List ℕ)) → EndsLists orb → (length (cut_response orb (decide orb source eui t keys).0 (decide orb source eui t keys).1) == 0) ≡ true
ends_quiet orb source eui t keys e = nothing_by (decide orb source eui t keys).0.response (decide orb source eui t keys).1 orb.response_length (decide_quiet orb source eui t keys e)
