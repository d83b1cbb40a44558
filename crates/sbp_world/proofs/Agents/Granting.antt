-- What a decision of the management agent says, by its function, its status and its effect: a reconnect at status 00 takes a login back, and nothing
-- else does; and a login at status 00 is to a unit whose number has 8 bits.
use Rattle.sbp_world.proofs.Words.Std.{arith, ◌≡◌, ◌∙◌, refl, sym, ap, subst, ℕ, ◌+◌, ◌*◌, ◌^◌, ◌<◌, ◌==◌, ◌&&◌, not, nat_eq, nat_lt, Bool, true, false, cond, List, length, Option, Some, None, Result, Ok, Err, false≢true, quad}
use Rattle.sbp_world.proofs.Words.Wire.{FunctionWord, function_word}
use Rattle.sbp_world.proofs.Words.Target.{Entered, Login, LoginRefusal, Table, back_step, enter_step, leave_step, Decision, Effect, ManagerStep, Function, Operation, asked_by, back_decided, decide, decide_function, effect_of, key_at, lacks_key, left_decided, live_login, login_decided, on_login, reads_eui, unit_exists, with_status, beside, decide_step, decided_as, eui_step, high_eui_at, high_got, low_got, orb_got, reply_in, reply_to, response_written, status_written, function_of, number_of, status_of}
use Rattle.sbp_world.proofs.Words.Initiator.{FailCause, ManagementOrb, management_orb, Answer, Done, Expired, NoLabel, Payload, Refused, payload_of, write_failure}
use Rattle.sbp_world.proofs.Words.Laws.{Decided, decided_by, decided_in}
use Rattle.login_table.specs.declared.login.LoginRefusal.TheVariants as refusals
use Rattle.mgmt_agent.specs.declared.decision.Effect.TheVariants as effects
use Rattle.mgmt_agent.specs.declared.decision.Outcome.{Outcome}
use Rattle.mgmt_agent.specs.declared.decision.Response.TheVariants as responses
use Rattle.mgmt_agent.specs.declared.function.Function.TheVariants as functions
use Rattle.mgmt_agent.specs.declared.operation.Phase.{Phase}
use Rattle.mgmt_agent.specs.declared.operation.Phase.TheVariants as phases
use Rattle.mgmt_agent.specs.declared.status.Status.TheVariants as statuses
use Rattle.mgmt_agent.specs.Machine.{Machine, reply_step}
use Rattle.sbp_journal.specs.declared.operation.FunctionWord.TheVariants as words

abbrev pub IsBack : Effect → Type 0
IsBack (effects.Back place) = Unit {0}
IsBack effect = ⊥

pub record Grants (word : FunctionWord) (status subject : ℕ) (effect : Effect) : Type 0 where
  pub back : IsBack effect → (word ≡ words.Reconnect) × (nat_eq status 0 ≡ true)
  pub reconnects : word ≡ words.Reconnect → nat_eq status 0 ≡ true → IsBack effect
  pub unit : word ≡ words.Login → nat_eq status 0 ≡ true → subject < 256

-- ---- the words of the functions
abbrev IsNeither : FunctionWord → Type 0
IsNeither words.Login = ⊥
IsNeither words.Reconnect = ⊥
IsNeither word = Unit {0}

abbrev Agrees : Option Function → FunctionWord → Type 0
Agrees (Some functions.Login) word = word ≡ words.Login
Agrees (Some functions.Reconnect) word = word ≡ words.Reconnect
Agrees function word = IsNeither word

agree_by : (a b c d e f g h : Bool) → Agrees (cond a (Some functions.Login) (cond b (Some functions.Query) (cond c (Some functions.Reconnect) (cond d (Some functions.Logout) (cond e (Some functions.Abort) (cond f (Some functions.AbortSet) (cond g (Some functions.UnitReset) (cond h (Some functions.TargetReset) None)))))))) (cond a words.Login (cond b words.Query (cond c words.Reconnect (cond d words.Logout (cond e words.Abort (cond f words.AbortSet (cond g words.UnitReset (cond h words.TargetReset words.Other))))))))
agree_by true b c d e f g h = refl
agree_by false true c d e f g h = tt
agree_by false false true d e f g h = refl
agree_by false false false true e f g h = tt
agree_by false false false false true f g h = tt
agree_by false false false false false true g h = tt
agree_by false false false false false false true h = tt
agree_by false false false false false false false true = tt
agree_by false false false false false false false false = tt

agree : (number : ℕ) → Agrees (function_of number) (function_word number)
agree number = agree_by (number == 0x0) (number == 0x1) (number == 0x3) (number == 0x7) (number == 0xb) (number == 0xc) (number == 0xe) (number == 0xf)

neither_login : (word : FunctionWord) → IsNeither word → word ≡ words.Login → ⊥
neither_login word n e = let x : IsNeither words.Login = subst IsNeither e n in x

neither_reconnect : (word : FunctionWord) → IsNeither word → word ≡ words.Reconnect → ⊥
neither_reconnect word n e = let x : IsNeither words.Reconnect = subst IsNeither e n in x

-- ---- an outcome
module _ (subject : ℕ) where
  abbrev Decides : FunctionWord → Outcome → Type 0
  Decides word x = Grants word (number_of x.status) subject x.effect

  -- a status that is not 00
  fails : (word : FunctionWord) (status : ℕ) → nat_eq status 0 ≡ false → Grants word status subject effects.Nothing
  fails word status e = record { back = λ b. absurd b; reconnects = λ w s. absurd (false≢true (sym e ∙ s)); unit = λ w s. absurd (false≢true (sym e ∙ s)) }

  neither : (word : FunctionWord) (status : ℕ) (effect : Effect) → IsNeither word → (IsBack effect → ⊥) → Grants word status subject effect
  neither word status effect n b = record { back = λ x. absurd (b x); reconnects = λ w s. absurd (neither_reconnect word n w); unit = λ w s. absurd (neither_login word n w) }

  refuses : (word : FunctionWord) (refusal : LoginRefusal) → Decides word (with_status (status_of refusal))
  refuses word refusals.Denied = fails word _ refl
  refuses word refusals.NoRoom = fails word _ refl
  refuses word refusals.Unknown = fails word _ refl
  refuses word refusals.OtherNode = fails word _ refl

  clash : words.Login ≡ words.Reconnect → ⊥
  clash e = cc

  clash_back : words.Reconnect ≡ words.Login → ⊥
  clash_back e = cc

  logs_in : (orb : ManagementOrb) (r : Result Entered LoginRefusal) → subject < 256 → Decides words.Login (login_decided orb r)
  logs_in orb (Err refusal) l = refuses words.Login refusal
  logs_in orb (Ok new) l = record { back = λ b. absurd b; reconnects = λ w s. absurd (clash w); unit = λ w s. l }

  backs : (r : Result ℕ LoginRefusal) → Decides words.Reconnect (back_decided r)
  backs (Err refusal) = refuses words.Reconnect refusal
  backs (Ok place) = record { back = λ b. (refl, refl); reconnects = λ w s. tt; unit = λ w s. absurd (clash_back w) }

  leaves : (word : FunctionWord) (r : Result ℕ LoginRefusal) → IsNeither word → Decides word (left_decided r)
  leaves word (Err refusal) n = refuses word refusal
  leaves word (Ok place) n = neither word _ _ n (λ b. b)

  affects : (word : FunctionWord) (effect : Login → Effect) (x : Option Login) → IsNeither word → ((login : Login) → IsBack (effect login) → ⊥) → Decides word (on_login effect x)
  affects word effect None n b = fails word _ refl
  affects word effect (Some login) n b = neither word _ (effect login) n (b login)

unit_small : (unit : ℕ) (keys : List (List ℕ)) → unit_exists unit keys ≡ true → unit < 256
unit_small unit keys e = by (nat_lt unit (length keys)) (nat_lt unit 256) refl e
  where
    by : (a b : Bool) → nat_lt unit 256 ≡ b → (a && b) ≡ true → unit < 256
    by true true f g = grind arith
    by true false f g = absurd (false≢true g)
    by false b f g = absurd (false≢true g)

module _ (orb : ManagementOrb) (source eui : ℕ) (t : Table) (keys : List (List ℕ)) where
  abbrev Grant : FunctionWord → Outcome × Table → Type 0
  Grant word r = Grants word (number_of r.0.status) orb.subject r.0.effect

  login_grants : (b : Bool) → unit_exists orb.subject keys ≡ b → Grant words.Login (cond {A = Outcome × Table} (not b) (with_status statuses.LogicalUnit, t) (cond {A = Outcome × Table} (lacks_key (key_at orb.subject keys) orb) (with_status statuses.AccessDenied, t) (let s = enter_step t (asked_by orb source eui) in (login_decided orb s.0, s.1))))
  login_grants false e = fails orb.subject words.Login _ refl
  login_grants true e = by (lacks_key (key_at orb.subject keys) orb)
    where
      s : Result Entered LoginRefusal × Table
      s = enter_step t (asked_by orb source eui)

      by : (b : Bool) → Grant words.Login (cond {A = Outcome × Table} b (with_status statuses.AccessDenied, t) (login_decided orb s.0, s.1))
      by true = fails orb.subject words.Login _ refl
      by false = logs_in orb.subject orb s.0 (unit_small orb.subject keys e)

  function_grants : (function : Option Function) (word : FunctionWord) → Agrees function word → Grant word (decide_function function orb source eui t keys)
  function_grants None word a = fails orb.subject word _ refl
  function_grants (Some functions.Login) word a =
      subst (λ w. Grant w (decide_function (Some functions.Login) orb source eui t keys)) (sym a) (login_grants (unit_exists orb.subject keys) refl)
  function_grants (Some functions.Query) word a = by (unit_exists orb.subject keys)
    where
      by : (b : Bool) → Decides orb.subject word (cond b (record { status = statuses.NoFault; login = 0; effect = effects.Nothing; response = responses.Query orb.subject }) (with_status statuses.LogicalUnit))
      by true = neither orb.subject word _ _ a (λ b. b)
      by false = fails orb.subject word _ refl
  function_grants (Some functions.Reconnect) word a =
      subst (λ w. Grant w (decide_function (Some functions.Reconnect) orb source eui t keys)) (sym a) (backs orb.subject (back_step t orb.subject source eui).0)
  function_grants (Some functions.Logout) word a = leaves orb.subject word (leave_step t orb.subject source).0 a
  function_grants (Some functions.Abort) word a = affects orb.subject word (effect_of functions.Abort orb) (live_login t.places orb.subject source) a (λ login b. b)
  function_grants (Some functions.AbortSet) word a = affects orb.subject word (effect_of functions.AbortSet orb) (live_login t.places orb.subject source) a (λ login b. b)
  function_grants (Some functions.UnitReset) word a = affects orb.subject word (effect_of functions.UnitReset orb) (live_login t.places orb.subject source) a (λ login b. b)
  function_grants (Some functions.TargetReset) word a = affects orb.subject word (effect_of functions.TargetReset orb) (live_login t.places orb.subject source) a (λ login b. b)

  orb_grants : Grant (function_word orb.function) (decide orb source eui t keys)
  unfolding decide
  orb_grants = by (orb.format == 0)
    where
      by : (b : Bool) → Grant (function_word orb.function) (cond b (decide_function (function_of orb.function) orb source eui t keys) (with_status statuses.RequestType, t))
      by true = function_grants (function_of orb.function) (function_word orb.function) (agree orb.function)
      by false = fails orb.subject (function_word orb.function) _ refl

-- ---- a step of the management agent: what it decided on
pub record Brings (operation : Option Operation) (answer : Answer) (d : Decision) (effect : Effect) : Type 0 where
  pub own : Operation
  pub operation_is : operation ≡ Some own
  pub on : Decided
  pub on_is : decided_by operation answer ≡ Some on
  pub source_is : on.source ≡ own.source
  pub subject_is : on.orb.subject ≡ d.subject
  pub grants : Grants (function_word d.function) d.status d.subject effect

abbrev pub StepBrings : Option Operation → Answer → ManagerStep × (Machine × Table) → Type 0
StepBrings operation answer r = (d : Decision) → r.0.decided ≡ Some d → Brings operation answer d r.0.effect

undecided : (operation : Option Operation) (answer : Answer) (r : ManagerStep × (Machine × Table)) → r.0.decided ≡ None → StepBrings operation answer r
undecided operation answer r e d f = absurd (let x : None ≡ Some d = sym e ∙ f in cc)

brings_if : (b : Bool) (operation : Option Operation) (answer : Answer) (x y : ManagerStep × (Machine × Table)) → StepBrings operation answer x → StepBrings operation answer y → StepBrings operation answer (cond b x y)
brings_if true operation answer x y p q = p
brings_if false operation answer x y p q = q

module _ (t : Table) (m : Machine) (own : Operation) (keys : List (List ℕ)) (answer : Answer) where
  as_decided : (orb : ManagementOrb) (on : Decided) (r : Outcome × Table) → decided_by (Some own) answer ≡ Some on → on.orb ≡ orb → on.source ≡ own.source → Grants (function_word orb.function) (number_of r.0.status) orb.subject r.0.effect → StepBrings (Some own) answer (decided_as r m own orb)
  as_decided orb on (outcome, now) e o s g d f =
      let made : Decision = record { function = orb.function; subject = orb.subject; status = number_of outcome.status; login = outcome.login } in
      let same : made ≡ d = let z : Some made ≡ Some d = f in cc in
      subst (λ (i : Decision). Brings (Some own) answer i outcome.effect) same (record {
        own = own;
        operation_is = refl;
        on = on;
        on_is = e;
        source_is = s;
        subject_is = ap (λ (x : ManagementOrb). x.subject) o;
        grants = g;
      })

  decides_on : (orb : ManagementOrb) (eui : ℕ) (on : Decided) → decided_by (Some own) answer ≡ Some on → on.orb ≡ orb → on.source ≡ own.source → StepBrings (Some own) answer (decide_step m own orb eui t keys)
  unfolding decide_step
  decides_on orb eui on e o s = as_decided orb on (decide orb own.source eui t keys) e o s (orb_grants orb own.source eui t keys)

module _ (t : Table) (m : Machine) (own : Operation) (keys : List (List ℕ)) where
  abbrev At : Answer → ManagerStep × (Machine × Table) → Type 0
  At answer r = StepBrings (Some own) answer r

  -- the ORB came, whole or not
  orb_by : (given : List ℕ) (b : Bool) (cause : FailCause) → own.phase ≡ phases.Orb → At (Payload given) (orb_got (cond b (Ok given) (Err cause)) m own t keys)
  orb_by given false cause e = undecided (Some own) (Payload given) (orb_got (Err cause) m own t keys) refl
  orb_by given true cause e =
      let orb = management_orb given in
      brings_if (reads_eui orb) (Some own) (Payload given) (beside t (eui_step m own (phases.HighEui orb) high_eui_at)) (decide_step m own orb 0 t keys) (undecided (Some own) (Payload given) (beside t (eui_step m own (phases.HighEui orb) high_eui_at)) refl)
      (decides_on t m own keys (Payload given) orb 0 _ (ap (λ p. decided_in p own.source (Payload given)) e) refl refl)

  orb_brings : (answer : Answer) → own.phase ≡ phases.Orb → At answer (orb_got (payload_of answer 32) m own t keys)
  orb_brings (Payload given) e = orb_by given (length given == 32) _ e
  orb_brings Done e = undecided (Some own) Done (orb_got (payload_of Done 32) m own t keys) refl
  orb_brings (Refused rcode) e = undecided (Some own) (Refused rcode) (orb_got (payload_of (Refused rcode) 32) m own t keys) refl
  orb_brings Expired e = undecided (Some own) Expired (orb_got (payload_of Expired 32) m own t keys) refl
  orb_brings NoLabel e = undecided (Some own) NoLabel (orb_got (payload_of NoLabel 32) m own t keys) refl

  high_brings : (bytes : Result (List ℕ) FailCause) (answer : Answer) (orb : ManagementOrb) → At answer (beside t (high_got bytes m own orb))
  high_brings (Err cause) answer orb = undecided (Some own) answer (beside t (high_got (Err cause) m own orb)) refl
  high_brings (Ok bytes) answer orb = undecided (Some own) answer (beside t (high_got (Ok bytes) m own orb)) refl

  low_brings : (bytes : Result (List ℕ) FailCause) (answer : Answer) (orb : ManagementOrb) (high : ℕ) → own.phase ≡ phases.LowEui orb high → At answer (low_got bytes m own orb high t keys)
  low_brings (Err cause) answer orb high e = undecided (Some own) answer (low_got (Err cause) m own orb high t keys) refl
  low_brings (Ok bytes) answer orb high e =
      decides_on t m own keys answer orb (high * 2 ^ 32 + quad bytes 0) _ (ap (λ p. decided_in p own.source answer) e) refl refl

  response_brings : (failure : Option FailCause) (answer : Answer) (fifo : ℕ) → At answer (beside t (response_written failure m own fifo))
  response_brings None answer fifo = undecided (Some own) answer (beside t (response_written None m own fifo)) refl
  response_brings (Some cause) answer fifo = undecided (Some own) answer (beside t (response_written (Some cause) m own fifo)) refl

  status_brings : (failure : Option FailCause) (answer : Answer) → At answer (beside t (status_written failure m))
  status_brings None answer = undecided (Some own) answer (beside t (status_written None m)) refl
  status_brings (Some cause) answer = undecided (Some own) answer (beside t (status_written (Some cause) m)) refl

  phase_brings : (answer : Answer) (phase : Phase) → own.phase ≡ phase → At answer (reply_in phase m own t keys answer)
  phase_brings answer phases.Orb e = orb_brings answer e
  phase_brings answer (phases.HighEui orb) e = high_brings (payload_of answer 4) answer orb
  phase_brings answer (phases.LowEui orb high) e = low_brings (payload_of answer 4) answer orb high e
  phase_brings answer (phases.Response fifo) e = response_brings (write_failure answer) answer fifo
  phase_brings answer phases.Status e = status_brings (write_failure answer) answer

operation_brings : (operation : Option Operation) (m : Machine) (t : Table) (keys : List (List ℕ)) (answer : Answer) → StepBrings operation answer (reply_to operation m t keys answer)
operation_brings None m t keys answer = undecided None answer (reply_to None m t keys answer) refl
operation_brings (Some own) m t keys answer = phase_brings t m own keys answer own.phase refl

pub reply_brings : (m : Machine) (t : Table) (keys : List (List ℕ)) (answer : Answer) → StepBrings m.operation answer (reply_step m t keys answer)
unfolding reply_step
reply_brings m t keys answer = operation_brings m.operation m t keys answer
