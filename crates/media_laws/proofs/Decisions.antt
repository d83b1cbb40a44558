-- A decision of the management agent changes the table of logins as its notes tell.
use Rattle.std.proofs.Common.{◌≡◌, ◌∙◌, refl, sym, ap, subst, ℕ, ◌<◌, ◌%◌, ◌==◌, ◌&&◌, nat_lt, not, Bool, true, false, cond, List, Option, Some, None, Result, Ok, Err, arith}
use Rattle.std.proofs.lemmas.Bool.Decides.{nat_tests}
use Rattle.login_table.specs.declared.login.Entered.{Entered}
use Rattle.login_table.specs.declared.login.Login.{Login}
use Rattle.login_table.specs.declared.login.LoginRefusal.{LoginRefusal}
use Rattle.login_table.specs.declared.login.LoginRefusal.TheVariants as refusals
use Rattle.login_table.specs.Sound.{IsTable}
use Rattle.login_table.specs.Table.{Table, back_step, enter_step, leave_step}
use Rattle.orb_layout.specs.declared.ask.FailCause.{FailCause}
use Rattle.orb_layout.specs.declared.management.ManagementOrb.{ManagementOrb}
use Rattle.orb_layout.specs.ManagementOrbs.{management_orb}
use Rattle.orb_layout.specs.Replies.{Answer, payload_of, write_failure}
use Rattle.mgmt_agent.specs.declared.decision.Decision.{Decision}
use Rattle.mgmt_agent.specs.declared.decision.Effect.{Effect}
use Rattle.mgmt_agent.specs.declared.decision.Effect.TheVariants as effects
use Rattle.mgmt_agent.specs.declared.decision.ManagerStep.{ManagerStep}
use Rattle.mgmt_agent.specs.declared.decision.Outcome.{Outcome}
use Rattle.mgmt_agent.specs.declared.decision.Response.TheVariants as responses
use Rattle.mgmt_agent.specs.declared.function.Function.{Function}
use Rattle.mgmt_agent.specs.declared.function.Function.TheVariants as functions
use Rattle.mgmt_agent.specs.declared.operation.Operation.{Operation}
use Rattle.mgmt_agent.specs.declared.operation.Phase.{Phase}
use Rattle.mgmt_agent.specs.declared.operation.Phase.TheVariants as phases
use Rattle.mgmt_agent.specs.declared.status.Status.TheVariants as statuses
use Rattle.mgmt_agent.specs.Decisions.{asked_by, back_decided, decide, decide_function, effect_of, key_at, lacks_key, left_decided, live_login, login_decided, on_login, reads_eui, unit_exists, with_status}
use Rattle.mgmt_agent.specs.Machine.{Machine, beside, decide_step, decided_as, eui_step, high_eui_at, high_got, low_got, orb_got, reply_in, reply_step, reply_to, response_written, status_written}
use Rattle.mgmt_agent.specs.Statuses.{function_of, number_of, status_of}
use Rattle.mgmt_agent.proofs.Effects.{replies_call}
use Rattle.sbp_journal.specs.declared.operation.FunctionWord.{FunctionWord}
use Rattle.sbp_journal.specs.declared.operation.FunctionWord.TheVariants as words
use Rattle.sbp_bus.specs.Words.{function_word}
use Rattle.media_laws.proofs.Seats.{Seat, decided_seats, seat, seats_by, with_seat, without}
use Rattle.media_laws.proofs.Tables.{EntersSeat, LeavesSeat, all_kept, left_seats, login_back, login_enters, login_out, seats_of}

-- ---- what the sides of a decision do

abbrev pub effect_seats : Effect → ℕ → List (Option Seat) → List (Option Seat)
effect_seats (effects.Entered place replaced) login seats = left_seats replaced seats
effect_seats (effects.Left place) login seats = without login seats
effect_seats _ login seats = seats

abbrev pub after_decision : Option Decision → Effect → List (Option Seat) → List (Option Seat)
after_decision None effect seats = seats
after_decision (Some d) effect seats = decided_seats d.status (function_word d.function) d.subject d.login (effect_seats effect d.subject seats)

-- ---- the words of the functions

-- a word that is not that of a login
abbrev IsOther : FunctionWord → Type 0
IsOther words.Login = ⊥
IsOther word = Unit {0}

abbrev Agrees : Option Function → FunctionWord → Type 0
Agrees (Some functions.Login) word = word ≡ words.Login
Agrees function word = IsOther word

agree_by : (a b c d e f g h : Bool) → Agrees (cond a (Some functions.Login) (cond b (Some functions.Query) (cond c (Some functions.Reconnect) (cond d (Some functions.Logout) (cond e (Some functions.Abort) (cond f (Some functions.AbortSet) (cond g (Some functions.UnitReset) (cond h (Some functions.TargetReset) None)))))))) (cond a words.Login (cond b words.Query (cond c words.Reconnect (cond d words.Logout (cond e words.Abort (cond f words.AbortSet (cond g words.UnitReset (cond h words.TargetReset words.Other))))))))
agree_by true b c d e f g h = refl
agree_by false true c d e f g h = tt
agree_by false false true d e f g h = tt
agree_by false false false true e f g h = tt
agree_by false false false false true f g h = tt
agree_by false false false false false true g h = tt
agree_by false false false false false false true h = tt
agree_by false false false false false false false true = tt
agree_by false false false false false false false false = tt

agree : (number : ℕ) → Agrees (function_of number) (function_word number)
agree number = agree_by (number == 0x0) (number == 0x1) (number == 0x3) (number == 0x7) (number == 0xb) (number == 0xc) (number == 0xe) (number == 0xf)

enters_none : (word : FunctionWord) (subject login : ℕ) (seats : List (Option Seat)) → IsOther word → seats_by word subject login seats ≡ seats
enters_none words.Login subject login seats h = absurd h
enters_none words.Query subject login seats h = refl
enters_none words.Reconnect subject login seats h = refl
enters_none words.Logout subject login seats h = refl
enters_none words.Abort subject login seats h = refl
enters_none words.AbortSet subject login seats h = refl
enters_none words.UnitReset subject login seats h = refl
enters_none words.TargetReset subject login seats h = refl
enters_none words.Other subject login seats h = refl

same_either : (b : Bool) (x y : List (Option Seat)) → x ≡ y → cond b x y ≡ y
same_either true x y e = e
same_either false x y e = refl

decides_none : (status : ℕ) (word : FunctionWord) (subject login : ℕ) (seats : List (Option Seat)) → IsOther word → decided_seats status word subject login seats ≡ seats
decides_none status word subject login seats h = same_either (status == 0) (seats_by word subject login seats) seats (enters_none word subject login seats h)

-- ---- the functions

abbrev Tells : FunctionWord → ℕ → Table → Outcome × Table → Type 0
Tells word subject t r =
    decided_seats (number_of r.0.status) word subject r.0.login (effect_seats r.0.effect subject (seats_of t.places)) ≡ seats_of r.1.places

tells_when : (b : Bool) (word : FunctionWord) (subject : ℕ) (t : Table) (x y : Outcome × Table) → (b ≡ true → Tells word subject t x) → (b ≡ false → Tells word subject t y) → Tells word subject t (cond b x y)
tells_when true word subject t x y p q = p refl
tells_when false word subject t x y p q = q refl

refuses : (refusal : LoginRefusal) (word : FunctionWord) (subject : ℕ) (t now : Table) → seats_of now.places ≡ seats_of t.places → Tells word subject t (with_status (status_of refusal), now)
refuses refusals.Denied word subject t now e = sym e
refuses refusals.NoRoom word subject t now e = sym e
refuses refusals.Unknown word subject t now e = sym e
refuses refusals.OtherNode word subject t now e = sym e

small : (n : ℕ) → n < 256 → n % 256 ≡ n
small n h = omega arith

login_tells : (orb : ManagementOrb) (source eui : ℕ) (t : Table) (r : Result Entered LoginRefusal × Table) → orb.subject < 256 → EntersSeat (asked_by orb source eui) t r → Tells words.Login orb.subject t (login_decided orb r.0, r.1)
login_tells orb source eui t (Err refusal, now) h e = refuses refusal words.Login orb.subject t now e
login_tells orb source eui t (Ok new, now) h e =
    ap (λ unit. with_seat (seat unit new.login) (left_seats new.replaced (seats_of t.places))) (small orb.subject h) ∙ sym e

exists_small : (a b : Bool) → (a && b) ≡ true → b ≡ true
exists_small true b e = e
exists_small false b e = absurd (let no : false ≡ true = e in cc)

subject_small : (unit : ℕ) (keys : List (List ℕ)) → not (unit_exists unit keys) ≡ false → unit < 256
subject_small unit keys e = below (exists_small _ (nat_lt unit 256) (is_true (unit_exists unit keys) e))
  where
    is_true : (b : Bool) → not b ≡ false → b ≡ true
    is_true true e = refl
    is_true false e = absurd (let no : true ≡ false = e in cc)

    below : nat_lt unit 256 ≡ true → unit < 256
    below e = grind (arith, nat_tests)

logs_in : (orb : ManagementOrb) (source eui : ℕ) (t : Table) (keys : List (List ℕ)) → IsTable t → Tells words.Login orb.subject t (decide_function (Some functions.Login) orb source eui t keys)
logs_in orb source eui t keys h =
    tells_when (not (unit_exists orb.subject keys)) words.Login orb.subject t (with_status statuses.LogicalUnit, t) (cond (lacks_key (key_at orb.subject keys) orb) (with_status statuses.AccessDenied, t) (login_decided orb (enter_step t (asked_by orb source eui)).0, (enter_step t (asked_by orb source eui)).1)) (λ e. refl)
    (λ e. tells_when (lacks_key (key_at orb.subject keys) orb) words.Login orb.subject t (with_status statuses.AccessDenied, t) (login_decided orb (enter_step t (asked_by orb source eui)).0, (enter_step t (asked_by orb source eui)).1) (λ f. refl)
    (λ f. login_tells orb source eui t (enter_step t (asked_by orb source eui)) (subject_small orb.subject keys e) (login_enters t (asked_by orb source eui) h)))

query_tells : (b : Bool) (word : FunctionWord) (subject : ℕ) (t : Table) (x y : Outcome) → IsOther word → effect_seats x.effect subject (seats_of t.places) ≡ seats_of t.places → effect_seats y.effect subject (seats_of t.places) ≡ seats_of t.places → Tells word subject t (cond b x y, t)
query_tells true word subject t x y h e f = decides_none (number_of x.status) word subject x.login _ h ∙ e
query_tells false word subject t x y h e f = decides_none (number_of y.status) word subject y.login _ h ∙ f

back_tells : (r : Result ℕ LoginRefusal × Table) (word : FunctionWord) (subject : ℕ) (t : Table) → IsOther word → seats_of r.1.places ≡ seats_of t.places → Tells word subject t (back_decided r.0, r.1)
back_tells (Ok place, now) word subject t h e = decides_none 0 word subject 0 (seats_of t.places) h ∙ sym e
back_tells (Err refusal, now) word subject t h e = refuses refusal word subject t now e

left_tells : (r : Result ℕ LoginRefusal × Table) (word : FunctionWord) (subject : ℕ) (t : Table) → IsOther word → LeavesSeat subject t r → Tells word subject t (left_decided r.0, r.1)
left_tells (Ok place, now) word subject t h e = decides_none 0 word subject 0 (without subject (seats_of t.places)) h ∙ sym e
left_tells (Err refusal, now) word subject t h e = refuses refusal word subject t now e

effect_tells : (x : Option Login) (effect : Login → Effect) (word : FunctionWord) (subject : ℕ) (t : Table) → IsOther word → ((login : Login) → effect_seats (effect login) subject (seats_of t.places) ≡ seats_of t.places) → Tells word subject t (on_login effect x, t)
effect_tells None effect word subject t h e = refl
effect_tells (Some login) effect word subject t h e = decides_none 0 word subject 0 _ h ∙ e login

function_tells : (function : Option Function) (word : FunctionWord) (orb : ManagementOrb) (source eui : ℕ) (t : Table) (keys : List (List ℕ)) → IsTable t → Agrees function word → Tells word orb.subject t (decide_function function orb source eui t keys)
function_tells None word orb source eui t keys h a = refl
function_tells (Some functions.Login) word orb source eui t keys h a =
    subst (λ w. Tells w orb.subject t (decide_function (Some functions.Login) orb source eui t keys)) (sym a) (logs_in orb source eui t keys h)
function_tells (Some functions.Query) word orb source eui t keys h a =
    query_tells (unit_exists orb.subject keys) word orb.subject t (record { status = statuses.NoFault; login = 0; effect = effects.Nothing; response = responses.Query orb.subject }) (with_status statuses.LogicalUnit) a refl refl
function_tells (Some functions.Reconnect) word orb source eui t keys h a =
    back_tells (back_step t orb.subject source eui) word orb.subject t a (login_back t orb.subject source eui)
function_tells (Some functions.Logout) word orb source eui t keys h a =
    left_tells (leave_step t orb.subject source) word orb.subject t a (login_out t orb.subject source h)
function_tells (Some functions.Abort) word orb source eui t keys h a =
    effect_tells (live_login t.places orb.subject source) (effect_of functions.Abort orb) word orb.subject t a (λ login. refl)
function_tells (Some functions.AbortSet) word orb source eui t keys h a =
    effect_tells (live_login t.places orb.subject source) (effect_of functions.AbortSet orb) word orb.subject t a (λ login. refl)
function_tells (Some functions.UnitReset) word orb source eui t keys h a =
    effect_tells (live_login t.places orb.subject source) (effect_of functions.UnitReset orb) word orb.subject t a (λ login. refl)
function_tells (Some functions.TargetReset) word orb source eui t keys h a =
    effect_tells (live_login t.places orb.subject source) (effect_of functions.TargetReset orb) word orb.subject t a (λ login. refl)

decision_tells : (orb : ManagementOrb) (source eui : ℕ) (t : Table) (keys : List (List ℕ)) → IsTable t → Tells (function_word orb.function) orb.subject t (decide orb source eui t keys)
unfolding decide
decision_tells orb source eui t keys h =
    tells_when (orb.format == 0) (function_word orb.function) orb.subject t (decide_function (function_of orb.function) orb source eui t keys) (with_status statuses.RequestType, t)
    (λ e. function_tells (function_of orb.function) (function_word orb.function) orb source eui t keys h (agree orb.function)) (λ e. refl)

-- ---- the steps of the management agent

abbrev pub StepTells : Table → ManagerStep × (Machine × Table) → Type 0
StepTells t r = after_decision r.0.decided r.0.effect (seats_of t.places) ≡ seats_of r.1.1.places

step_if : (b : Bool) (t : Table) (x y : ManagerStep × (Machine × Table)) → StepTells t x → StepTells t y → StepTells t (cond b x y)
step_if true t x y p q = p
step_if false t x y p q = q

decided_tells : (orb : ManagementOrb) (source : ℕ) (r : Outcome × Table) (m : Machine) (operation : Operation) (t : Table) → Tells (function_word orb.function) orb.subject t r → StepTells t (decided_as r m operation orb)
decided_tells orb source (outcome, now) m operation t h = h

step_decides : (m : Machine) (operation : Operation) (orb : ManagementOrb) (eui : ℕ) (t : Table) (keys : List (List ℕ)) → IsTable t → StepTells t (decide_step m operation orb eui t keys)
unfolding decide_step
step_decides m operation orb eui t keys h =
    decided_tells orb operation.source (decide orb operation.source eui t keys) m operation t (decision_tells orb operation.source eui t keys h)

orb_tells : (bytes : Result (List ℕ) FailCause) (m : Machine) (operation : Operation) (t : Table) (keys : List (List ℕ)) → IsTable t → StepTells t (orb_got bytes m operation t keys)
orb_tells (Err cause) m operation t keys h = refl
orb_tells (Ok bytes) m operation t keys h =
    let orb = management_orb bytes in
    step_if (reads_eui orb) t (beside t (eui_step m operation (phases.HighEui orb) high_eui_at)) (decide_step m operation orb 0 t keys) refl (step_decides m operation orb 0 t keys h)

high_tells : (bytes : Result (List ℕ) FailCause) (m : Machine) (operation : Operation) (orb : ManagementOrb) (t : Table) → StepTells t (beside t (high_got bytes m operation orb))
high_tells (Err cause) m operation orb t = refl
high_tells (Ok bytes) m operation orb t = refl

low_tells : (bytes : Result (List ℕ) FailCause) (m : Machine) (operation : Operation) (orb : ManagementOrb) (high : ℕ) (t : Table) (keys : List (List ℕ)) → IsTable t → StepTells t (low_got bytes m operation orb high t keys)
low_tells (Err cause) m operation orb high t keys h = refl
low_tells (Ok bytes) m operation orb high t keys h = step_decides m operation orb _ t keys h

response_tells : (failure : Option FailCause) (m : Machine) (operation : Operation) (fifo : ℕ) (t : Table) → StepTells t (beside t (response_written failure m operation fifo))
response_tells None m operation fifo t = refl
response_tells (Some cause) m operation fifo t = refl

status_tells : (failure : Option FailCause) (m : Machine) (t : Table) → StepTells t (beside t (status_written failure m))
status_tells None m t = refl
status_tells (Some cause) m t = refl

phase_tells : (phase : Phase) (m : Machine) (operation : Operation) (t : Table) (keys : List (List ℕ)) (answer : Answer) → IsTable t → StepTells t (reply_in phase m operation t keys answer)
phase_tells phases.Orb m operation t keys answer h = orb_tells (payload_of answer 32) m operation t keys h
phase_tells (phases.HighEui orb) m operation t keys answer h = high_tells (payload_of answer 4) m operation orb t
phase_tells (phases.LowEui orb high) m operation t keys answer h = low_tells (payload_of answer 4) m operation orb high t keys h
phase_tells (phases.Response fifo) m operation t keys answer h = response_tells (write_failure answer) m operation fifo t
phase_tells phases.Status m operation t keys answer h = status_tells (write_failure answer) m t

operation_tells : (operation : Option Operation) (m : Machine) (t : Table) (keys : List (List ℕ)) (answer : Answer) → IsTable t → StepTells t (reply_to operation m t keys answer)
operation_tells None m t keys answer h = refl
operation_tells (Some operation) m t keys answer h = phase_tells operation.phase m operation t keys answer h

pub reply_tells : (m : Machine) (t : Table) (keys : List (List ℕ)) (answer : Answer) → IsTable t → StepTells t (reply_step m t keys answer)
unfolding reply_step
reply_tells m t keys answer h = operation_tells m.operation m t keys answer h

pub reply_keeps : (m : Machine) (t : Table) (keys : List (List ℕ)) (answer : Answer) → IsTable t → IsTable (reply_step m t keys answer).1.1
reply_keeps m t keys answer h = let r = replies_call m t keys answer in subst IsTable r.made (all_kept r.calls t h)
