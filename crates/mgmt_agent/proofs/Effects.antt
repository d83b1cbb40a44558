-- The effects of the decisions, and the calls of the table of logins that they make.
use Rattle.std.specs.Prelude.{◌≡◌, ℕ, ◌<◌, ◌≤◌, ◌==◌, ◌&&◌, not, Bool, true, false, cond, List, [], ◌∷◌, length, Option, Some, None, Result, Ok, Err, refl}
use Rattle.std.proofs.Common.{arith, sym}
use Rattle.std.specs.List.{AllByRecursion}
use Rattle.std.proofs.lemmas.Bool.{and_parts, ltb-true}
use Rattle.orb_layout.specs.declared.management.ManagementOrb.{ManagementOrb}
use Rattle.orb_layout.specs.declared.ask.FailCause.{FailCause}
use Rattle.orb_layout.specs.ManagementOrbs.{management_orb}
use Rattle.login_table.specs.Table.{Table, enter_step}
use Rattle.login_table.specs.Requests.{LoginRequest}
use Rattle.login_table.specs.Laws.{Call, enter, all_after, EntersBelow}
use Rattle.mgmt_agent.specs.declared.function.Function.{Function}
use Rattle.mgmt_agent.specs.declared.function.Function.TheVariants as functions
use Rattle.mgmt_agent.specs.declared.status.Status.TheVariants as statuses
use Rattle.mgmt_agent.specs.declared.decision.ManagerStep.{ManagerStep}
use Rattle.mgmt_agent.specs.declared.decision.Outcome.{Outcome}
use Rattle.mgmt_agent.specs.declared.operation.Operation.{Operation}
use Rattle.mgmt_agent.specs.declared.operation.Phase.{Phase}
use Rattle.mgmt_agent.specs.declared.operation.Phase.TheVariants as phases
use Rattle.mgmt_agent.specs.Statuses.{function_of}
use Rattle.mgmt_agent.specs.Decisions.{asked_by, with_status, decide, decide_function, key_at, lacks_key, login_decided, reads_eui, unit_exists}
use Rattle.orb_layout.specs.Replies.{Answer, payload_of}
use Rattle.mgmt_agent.specs.Machine.{Machine, reply_step, reply_in, decide_step, beside, eui_step, high_eui_at, orb_got, low_got}
use Rattle.mgmt_agent.specs.Effects.{call_of, calls_on, CallLaw, RepliesCall, RepliesLaw}

-- the tables of a choice
left_by : (b : Bool) (x y : Outcome × Table) (t : Table) (calls more : List Call) → x.1 ≡ all_after calls t → y.1 ≡ all_after more t → (cond b x y).1 ≡ all_after (cond b calls more) t
left_by true x y t calls more p q = p
left_by false x y t calls more p q = q

login_calls : (u l : Bool) (x y z : Outcome × Table) (t : Table) (calls : List Call) → x.1 ≡ t → y.1 ≡ t → z.1 ≡ all_after calls t → (cond (not u) x (cond l y z)).1 ≡ all_after (cond (u && not l) calls []) t
login_calls true true x y z t calls p q r = q
login_calls true false x y z t calls p q r = r
login_calls false l x y z t calls p q r = p

function_calls : (function : Option Function) (orb : ManagementOrb) (source eui : ℕ) (table : Table) (keys : List (List ℕ)) → (decide_function function orb source eui table keys).1 ≡ all_after (call_of function orb source eui keys) table
function_calls None orb source eui table keys = refl
function_calls (Some functions.Login) orb source eui table keys = login_calls (unit_exists orb.subject keys) (lacks_key (key_at orb.subject keys) orb) (with_status statuses.LogicalUnit, table) (with_status statuses.AccessDenied, table) (login_decided orb (enter_step table (asked_by orb source eui)).0, (enter_step table (asked_by orb source eui)).1) table (enter (asked_by orb source eui) ∷ []) refl refl refl
function_calls (Some functions.Query) orb source eui table keys = refl
function_calls (Some functions.Reconnect) orb source eui table keys = refl
function_calls (Some functions.Logout) orb source eui table keys = refl
function_calls (Some functions.Abort) orb source eui table keys = refl
function_calls (Some functions.AbortSet) orb source eui table keys = refl
function_calls (Some functions.UnitReset) orb source eui table keys = refl
function_calls (Some functions.TargetReset) orb source eui table keys = refl

pub decisions_call : CallLaw
unfolding decide
decisions_call orb source eui table keys = left_by (orb.format == 0) (decide_function (function_of orb.function) orb source eui table keys) (with_status statuses.RequestType, table) table (call_of (function_of orb.function) orb source eui keys) [] (function_calls (function_of orb.function) orb source eui table keys) refl

one_or_none : (b : Bool) (calls : List Call) → length calls ≤ 1 → length (cond b calls []) ≤ 1
one_or_none true calls h = h
one_or_none false calls h = omega arith

one_call : (function : Option Function) (orb : ManagementOrb) (source eui : ℕ) (keys : List (List ℕ)) → length (call_of function orb source eui keys) ≤ 1
one_call None orb source eui keys = omega arith
one_call (Some functions.Login) orb source eui keys = one_or_none (unit_exists orb.subject keys && not (lacks_key (key_at orb.subject keys) orb)) (enter (asked_by orb source eui) ∷ []) (omega arith)
one_call (Some functions.Query) orb source eui keys = omega arith
one_call (Some functions.Reconnect) orb source eui keys = omega arith
one_call (Some functions.Logout) orb source eui keys = omega arith
one_call (Some functions.Abort) orb source eui keys = omega arith
one_call (Some functions.AbortSet) orb source eui keys = omega arith
one_call (Some functions.UnitReset) orb source eui keys = omega arith
one_call (Some functions.TargetReset) orb source eui keys = omega arith

login_on_unit : (exists lacks : Bool) (asked : LoginRequest) (units : ℕ) → (exists ≡ true → asked.unit < units) → AllByRecursion (EntersBelow units) (cond (exists && not lacks) (enter asked ∷ []) [])
login_on_unit true true asked units h = tt
login_on_unit true false asked units h = (h refl, tt)
login_on_unit false lacks asked units h = tt

-- A login is entered on a unit that has a key.
call_on_unit : (function : Option Function) (orb : ManagementOrb) (source eui : ℕ) (keys : List (List ℕ)) → AllByRecursion (EntersBelow (length keys)) (call_of function orb source eui keys)
call_on_unit None orb source eui keys = tt
call_on_unit (Some functions.Login) orb source eui keys = login_on_unit (unit_exists orb.subject keys) (lacks_key (key_at orb.subject keys) orb) (asked_by orb source eui) (length keys) (λ e. ltb-true _ _ (and_parts _ _ e).0)
call_on_unit (Some functions.Query) orb source eui keys = tt
call_on_unit (Some functions.Reconnect) orb source eui keys = (tt, tt)
call_on_unit (Some functions.Logout) orb source eui keys = (tt, tt)
call_on_unit (Some functions.Abort) orb source eui keys = tt
call_on_unit (Some functions.AbortSet) orb source eui keys = tt
call_on_unit (Some functions.UnitReset) orb source eui keys = tt
call_on_unit (Some functions.TargetReset) orb source eui keys = tt

all_or_none : (b : Bool) (units : ℕ) (calls : List Call) → AllByRecursion (EntersBelow units) calls → AllByRecursion (EntersBelow units) (cond b calls [])
all_or_none true units calls h = h
all_or_none false units calls h = tt

no_call : (units : ℕ) (table : Table) → RepliesCall units table table
no_call units table = record { calls = []; one = omega arith; on_units = tt; made = refl }

decide_calls : (m : Machine) (operation : Operation) (orb : ManagementOrb) (eui : ℕ) (table : Table) (keys : List (List ℕ)) → RepliesCall (length keys) table (decide_step m operation orb eui table keys).1.1
unfolding decide_step
decide_calls m operation orb eui table keys = record {
  calls = calls_on orb operation.source eui keys;
  one = one_or_none (orb.format == 0) (call_of (function_of orb.function) orb operation.source eui keys) (one_call (function_of orb.function) orb operation.source eui keys);
  on_units = all_or_none (orb.format == 0) (length keys) (call_of (function_of orb.function) orb operation.source eui keys) (call_on_unit (function_of orb.function) orb operation.source eui keys);
  made = sym (decisions_call orb operation.source eui table keys);
}

either_call : (b : Bool) (units : ℕ) (table : Table) (x y : ManagerStep × (Machine × Table)) → RepliesCall units table x.1.1 → RepliesCall units table y.1.1 → RepliesCall units table (cond b x y).1.1
either_call true units table x y p q = p
either_call false units table x y p q = q

orb_calls : (bytes : Result (List ℕ) FailCause) (m : Machine) (operation : Operation) (table : Table) (keys : List (List ℕ)) → RepliesCall (length keys) table (orb_got bytes m operation table keys).1.1
orb_calls (Err cause) m operation table keys = no_call (length keys) table
orb_calls (Ok bytes) m operation table keys =
    let orb = management_orb bytes in
    either_call (reads_eui orb) (length keys) table (beside table (eui_step m operation (phases.HighEui orb) high_eui_at)) (decide_step m operation orb 0 table keys) (no_call (length keys) table) (decide_calls m operation orb 0 table keys)

low_calls : (bytes : Result (List ℕ) FailCause) (m : Machine) (operation : Operation) (orb : ManagementOrb) (high : ℕ) (table : Table) (keys : List (List ℕ)) → RepliesCall (length keys) table (low_got bytes m operation orb high table keys).1.1
low_calls (Err cause) m operation orb high table keys = no_call (length keys) table
low_calls (Ok bytes) m operation orb high table keys = decide_calls m operation orb _ table keys

phase_calls : (phase : Phase) (m : Machine) (operation : Operation) (table : Table) (keys : List (List ℕ)) (answer : Answer) → RepliesCall (length keys) table (reply_in phase m operation table keys answer).1.1
phase_calls phases.Orb m operation table keys answer = orb_calls (payload_of answer 32) m operation table keys
phase_calls (phases.HighEui orb) m operation table keys answer = no_call (length keys) table
phase_calls (phases.LowEui orb high) m operation table keys answer = low_calls (payload_of answer 4) m operation orb high table keys
phase_calls (phases.Response fifo) m operation table keys answer = no_call (length keys) table
phase_calls phases.Status m operation table keys answer = no_call (length keys) table

reply_calls : (o : Option Operation) (outgoing : List ℕ) (table : Table) (keys : List (List ℕ)) (answer : Answer) → RepliesCall (length keys) table (reply_step (record { operation = o; outgoing = outgoing }) table keys answer).1.1
unfolding reply_step
reply_calls None outgoing table keys answer = no_call (length keys) table
reply_calls (Some operation) outgoing table keys answer = phase_calls operation.phase _ operation table keys answer

pub replies_call : RepliesLaw
replies_call m table keys answer = reply_calls m.operation m.outgoing table keys answer
