-- What the target sends for an operation of its management is no status of an ORB in a slot, where the operation is of a place of management: a response reads as no
-- status block, and the status block of the operation names the management ORB.
use Rattle.sbp_world.proofs.Words.Std.{arith, ◌≡◌, ◌∙◌, refl, sym, ap, subst, ◌<◌, ◌≤◌, ◌+◌, ◌*◌, ◌/◌, ◌%◌, ◌^◌, ◌==◌, not, nat_lt, ℕ, zero, suc, Bool, true, false, cond, List, [], ◌∷◌, ◌++◌, length, take, Option, Some, None, Result, Ok, Err, cons_option, nat_tests, false≢true, big_bytes, big_from-bytes, quad}
use Rattle.sbp_world.proofs.Words.Target.{Login, LoginRefusal, LoginRequest, Table, back_step, leave_step, enter_at, enter_step, next_id, ManagerStep, Response, Function, Operation, Status, asked_by, back_decided, decide, decide_function, decide_login, decide_query, effect_of, entries_of, entry_of, key_at, lacks_key, left_decided, live_login, login_decided, on_login, reads_eui, response_bytes, unit_exists, with_status, function_of, number_of}
use Rattle.sbp_world.proofs.Words.Initiator.{slot_of, start_of, FailCause, OrbFault, Form, Length, LoginResponse, ManagementOrb, QueryEntry, StatusBlock, login_bytes, management_orb, offset_at, entries_bytes, query_bytes, Answer, payload_of, write_failure, in_row, kind_of, read_block, whole_length}
use Rattle.bus_memory.specs.declared.window.Window.TheVariants as windows
use Rattle.bus_memory.proofs.Found.{slot_of_law}
use Rattle.login_table.proofs.Counting.{fresh_within, next_in}
use Rattle.mgmt_agent.specs.declared.decision.Effect.TheVariants as effects
use Rattle.mgmt_agent.specs.declared.decision.Outcome.{Outcome}
use Rattle.mgmt_agent.specs.declared.decision.Response.TheVariants as responses
use Rattle.mgmt_agent.specs.declared.function.Function.TheVariants as functions
use Rattle.mgmt_agent.specs.declared.operation.Phase.{Phase}
use Rattle.mgmt_agent.specs.declared.operation.Phase.TheVariants as phases
use Rattle.mgmt_agent.specs.declared.status.Status.TheVariants as statuses
use Rattle.mgmt_agent.specs.Machine as management
use Rattle.orb_layout.specs.declared.ask.Ask.TheVariants as asks
use Rattle.sbp_world.proofs.Lists.StatusBytes.{reads_as, not_read}
use Rattle.sbp_world.proofs.Lists.StatusSteps.{none_wrote}

-- ---- bytes that are no status of an ORB in a slot
abbrev pub Silent : List ℕ → Type 0
Silent bytes = (block : StatusBlock) → read_block false bytes ≡ Ok block → (slot : ℕ) → slot_of block.orb ≡ Some slot → ⊥

-- bytes that are longer than their first quadlet says
long_by : (short x long : Bool) (a b c : OrbFault) (r : Result StatusBlock OrbFault) (block : StatusBlock) → (short ≡ false → long ≡ true) → cond short (Err a) (cond x (Err b) (cond long (Err c) r)) ≡ Ok block → ⊥
long_by true x long a b c r block f e = not_read a block e
long_by false true long a b c r block f e = not_read b block e
long_by false false true a b c r block f e = not_read c block e
long_by false false false a b c r block f e = false≢true (f refl)

-- bytes that are no status block, of whatever kind
abbrev pub Unread : List ℕ → Type 0
Unread bytes = (management : Bool) (block : StatusBlock) → read_block management bytes ≡ Ok block → ⊥

longer_unread : (bytes : List ℕ) → whole_length bytes ≡ 4 → Unread bytes
longer_unread bytes four management block e =
    long_by (nat_lt (length bytes) 8) (nat_lt (length bytes) (whole_length bytes)) (nat_lt (whole_length bytes) (length bytes)) (Length 8) (Length (whole_length bytes)) Form (in_row bytes (kind_of management bytes)) block
    (λ f. let most : 8 ≤ length bytes = grind (arith, nat_tests) in let less : whole_length bytes < length bytes = omega (arith, most, four) in grind (arith, nat_tests)) e

-- the first quadlet has a zero byte
four_of : (q : ℕ) (rest : List ℕ) → q < 2 ^ 24 → whole_length (big_bytes 4 q ++ rest) ≡ 4
four_of q rest small =
    let first : quad (big_bytes 4 q ++ rest) 0 ≡ q % 256 ^ 4 = big_from-bytes 4 q rest in
    ap (λ n. 4 * (n / 2 ^ 24 % 2 ^ 3 + 1)) first ∙ (let z : 4 * (q % 256 ^ 4 / 2 ^ 24 % 2 ^ 3 + 1) ≡ 4 = omega (arith, small) in z)

cut_unread : (k q : ℕ) (rest : List ℕ) → q < 2 ^ 24 → Unread (take k (big_bytes 4 q ++ rest))
cut_unread zero q rest small management block e = not_read (Length 8) block e
cut_unread (suc zero) q rest small management block e = not_read (Length 8) block e
cut_unread (suc (suc zero)) q rest small management block e = not_read (Length 8) block e
cut_unread (suc (suc (suc zero))) q rest small management block e = not_read (Length 8) block e
cut_unread (suc (suc (suc (suc k)))) q rest small management block e = longer_unread (big_bytes 4 q ++ take k rest) (four_of q (take k rest) small) management block e

none_unread : (k : ℕ) → Unread (take k [])
none_unread zero management block e = not_read (Length 8) block e
none_unread (suc k) management block e = not_read (Length 8) block e

-- the status block of an ORB that is in no slot
pub number_small : (status : Status) → number_of status < 2 ^ 8
number_small statuses.NoFault = omega arith
number_small statuses.RequestType = omega arith
number_small statuses.AccessDenied = omega arith
number_small statuses.LogicalUnit = omega arith
number_small statuses.Resources = omega arith
number_small statuses.FunctionRejected = omega arith
number_small statuses.LoginId = omega arith

pub named_orb : (orb : ℕ) (status : Status) → orb < 2 ^ 48 → offset_at (management.status_block orb status) 0 ≡ orb
named_orb orb status low = let n = number_small status in omega (arith, n, low)

block_silent : (orb : ℕ) (status : Status) → orb < 2 ^ 48 → ((slot : ℕ) → slot_of orb ≡ Some slot → ⊥) → Silent (management.status_block orb status)
block_silent orb status low free block e slot at =
    free slot (ap slot_of (sym ((reads_as false (management.status_block orb status) block e).orb_is ∙ named_orb orb status low)) ∙ at)

pub place_free : (place : ℕ) → place < 2 → (slot : ℕ) → slot_of (start_of (windows.Management place)) ≡ Some slot → ⊥
place_free place small slot e =
    let k = slot_of_law.begins (start_of (windows.Management place)) slot e in
    let at = k.1 in
    let few = k.0 in
    omega (arith, at, few, small)

-- ---- the response of a decision
abbrev pub IsSmall : Outcome × Table → Response → Type 0
IsSmall x responses.Nothing = Unit {0}
IsSmall x (responses.Login response) = response.login ≤ 65535
IsSmall x (responses.Query unit) = length x.1.places ≤ 8

abbrev pub Small : Outcome × Table → Type 0
Small x = IsSmall x x.0.response

pick_small : (b : Bool) (x y : Outcome × Table) → Small x → Small y → Small (cond b x y)
pick_small true x y h k = h
pick_small false x y h k = k

entered_small : (orb : ManagementOrb) (place : Option ℕ) (table : Table) (left : List (Option Login)) (replaced : Option ℕ) (asked : LoginRequest) → table.last ≤ 65535 → (let s = enter_at place table left replaced asked in Small (login_decided orb s.0, s.1))
entered_small orb None table left replaced asked most = tt
entered_small orb (Some place) table left replaced asked most =
    let n = next_in table.last most in
    (fresh_within 8 (next_id table.last) left n.0 n.1).1

denied_small : (orb : ManagementOrb) (b : Bool) (place : Option ℕ) (table : Table) (left : List (Option Login)) (replaced : Option ℕ) (asked : LoginRequest) (refusal : LoginRefusal) → table.last ≤ 65535 → (let s = cond b (Err refusal, table) (enter_at place table left replaced asked) in Small (login_decided orb s.0, s.1))
denied_small orb true place table left replaced asked refusal most = tt
denied_small orb false place table left replaced asked refusal most = entered_small orb place table left replaced asked most

module _ (orb : ManagementOrb) (source eui : ℕ) (table : Table) (keys : List (List ℕ)) (most : table.last ≤ 65535) (size : length table.places ≡ 8) where
  login_small : Small (decide_login orb source eui table keys)
  unfolding enter_step
  login_small =
      pick_small (not (unit_exists orb.subject keys)) _ _ tt
      (pick_small (lacks_key (key_at orb.subject keys) orb) _ _ tt
      (denied_small orb _ _ table _ _ (asked_by orb source eui) _ most))

  query_small : Small (decide_query orb keys, table)
  query_small = by (unit_exists orb.subject keys)
    where
      by : (b : Bool) → Small (cond b (record { status = statuses.NoFault; login = 0; effect = effects.Nothing; response = responses.Query orb.subject }) (with_status statuses.LogicalUnit), table)
      by true = omega (arith, size)
      by false = tt

  back_small : (r : Result ℕ LoginRefusal) (left : Table) → Small (back_decided r, left)
  back_small (Ok place) left = tt
  back_small (Err refusal) left = tt

  left_small : (r : Result ℕ LoginRefusal) (left : Table) → Small (left_decided r, left)
  left_small (Ok place) left = tt
  left_small (Err refusal) left = tt

  on_small : (function : Function) (found : Option Login) → Small (on_login (effect_of function orb) found, table)
  on_small function None = tt
  on_small function (Some login) = tt

  function_small : (function : Option Function) → Small (decide_function function orb source eui table keys)
  function_small None = tt
  function_small (Some functions.Login) = login_small
  function_small (Some functions.Query) = query_small
  function_small (Some functions.Reconnect) = let s = back_step table orb.subject source eui in back_small s.0 s.1
  function_small (Some functions.Logout) = let s = leave_step table orb.subject source in left_small s.0 s.1
  function_small (Some functions.Abort) = on_small functions.Abort (live_login table.places orb.subject source)
  function_small (Some functions.AbortSet) = on_small functions.AbortSet (live_login table.places orb.subject source)
  function_small (Some functions.UnitReset) = on_small functions.UnitReset (live_login table.places orb.subject source)
  function_small (Some functions.TargetReset) = on_small functions.TargetReset (live_login table.places orb.subject source)

  pub decide_small : Small (decide orb source eui table keys)
  unfolding decide
  decide_small = pick_small (orb.format == 0) (decide_function (function_of orb.function) orb source eui table keys) (with_status statuses.RequestType, table) (function_small (function_of orb.function)) tt

-- its bytes
entries_few : (unit : ℕ) (places : List (Option Login)) → length (entries_of unit places) ≤ length places
entries_few unit [] = omega arith
entries_few unit (x ∷ places) = by (entry_of unit x) (entries_of unit places) (entries_few unit places)
  where
    by : (h : Option QueryEntry) (rest : List QueryEntry) → length rest ≤ length places → length (cons_option h rest) ≤ suc (length places)
    by None rest l = omega (arith, l)
    by (Some y) rest l = omega (arith, l)

query_unread : (k : ℕ) (entries : List QueryEntry) → length entries ≤ 8 → Unread (take k (query_bytes entries))
query_unread k entries few = cut_unread k ((4 + 12 * length entries) * 2 ^ 16 + 8) (entries_bytes entries) (omega (arith, few))

login_unread : (k : ℕ) (response : LoginResponse) → response.login ≤ 65535 → Unread (take k (login_bytes response))
login_unread k response few = cut_unread k (16 * 2 ^ 16 + response.login) _ (omega (arith, few))

pub response_unread : (x : Outcome × Table) (k : ℕ) (response : Response) → IsSmall x response → Unread (take k (response_bytes response x.1.places))
unfolding response_bytes
response_unread x k responses.Nothing small = none_unread k
response_unread x k (responses.Login response) small = login_unread k response small
response_unread x k (responses.Query unit) small = query_unread k (entries_of unit x.1.places) (let few = entries_few unit x.1.places in omega (arith, few, small))

response_silent : (x : Outcome × Table) (k : ℕ) (response : Response) → IsSmall x response → Silent (take k (response_bytes response x.1.places))
response_silent x k response small block e slot at = response_unread x k response small false block e

-- ---- what a reply brings to be written
module _ (m : management.Machine) (t : Table) (keys : List (List ℕ)) (answer : Answer) (most : t.last ≤ 65535) (size : length t.places ≡ 8) (own : Operation) (low : own.orb < 2 ^ 48) (free : (slot : ℕ) → slot_of own.orb ≡ Some slot → ⊥) where
  abbrev Mild : ManagerStep × (management.Machine × Table) → Type 0
  Mild r = (at len : ℕ) → r.0.ask ≡ asks.Write at len → Silent r.1.0.outgoing

  pick_mild : (b : Bool) (x y : ManagerStep × (management.Machine × Table)) → Mild x → Mild y → Mild (cond b x y)
  pick_mild true x y h k = h
  pick_mild false x y h k = k

  read_mild : (from size at len : ℕ) → asks.Read from size ≡ asks.Write at len → ⊥
  read_mild from size at len e = cc

  responds : (begun : management.Machine) (orb : ManagementOrb) (status : Status) (b : Bool) → Silent begun.outgoing → (let s = cond b (management.status_step begun own orb.fifo status) (management.quiet (asks.Write orb.second (length begun.outgoing)), management.in_phase begun own (phases.Response orb.fifo)) in (at len : ℕ) → s.0.ask ≡ asks.Write at len → Silent s.1.outgoing)
  responds begun orb status true s at len e = block_silent own.orb status low free
  responds begun orb status false s at len e = s

  decided_mild : (orb : ManagementOrb) (x : Outcome × Table) → Small x → Mild (management.decided_as x m own orb)
  decided_mild orb (outcome, table) small at len e =
      let begun = record m { outgoing = management.cut_response orb outcome table } in
      responds begun orb outcome.status (length begun.outgoing == 0) (response_silent (outcome, table) orb.response_length outcome.response small) at len e

  decides : (orb : ManagementOrb) (eui : ℕ) → Mild (management.decide_step m own orb eui t keys)
  unfolding management.decide_step
  decides orb eui = decided_mild orb (decide orb own.source eui t keys) (decide_small orb own.source eui t keys most size)

  orb_mild : (bytes : Result (List ℕ) FailCause) → Mild (management.orb_got bytes m own t keys)
  orb_mild (Err cause) at len e = absurd (none_wrote at len e)
  orb_mild (Ok bytes) at len e =
      let orb = management_orb bytes in
      pick_mild (reads_eui orb) (management.beside t (management.eui_step m own (phases.HighEui orb) management.high_eui_at)) (management.decide_step m own orb 0 t keys)
      (λ to size f. absurd (read_mild management.high_eui_at 4 to size f)) (decides orb 0) at len e

  high_mild : (bytes : Result (List ℕ) FailCause) (orb : ManagementOrb) → Mild (management.beside t (management.high_got bytes m own orb))
  high_mild (Err cause) orb at len e = absurd (none_wrote at len e)
  high_mild (Ok bytes) orb at len e = absurd (read_mild management.low_eui_at 4 at len e)

  low_mild : (bytes : Result (List ℕ) FailCause) (orb : ManagementOrb) (high : ℕ) → Mild (management.low_got bytes m own orb high t keys)
  low_mild (Err cause) orb high at len e = absurd (none_wrote at len e)
  low_mild (Ok bytes) orb high at len e = decides orb (high * 2 ^ 32 + quad bytes 0) at len e

  response_mild : (failure : Option FailCause) (fifo : ℕ) → Mild (management.beside t (management.response_written failure m own fifo))
  response_mild (Some cause) fifo at len e = absurd (none_wrote at len e)
  response_mild None fifo at len e = block_silent own.orb statuses.NoFault low free

  status_mild : (failure : Option FailCause) → Mild (management.beside t (management.status_written failure m))
  status_mild None at len e = absurd (none_wrote at len e)
  status_mild (Some cause) at len e = absurd (none_wrote at len e)

  phase_mild : (phase : Phase) → Mild (management.reply_in phase m own t keys answer)
  phase_mild phases.Orb = orb_mild (payload_of answer 32)
  phase_mild (phases.HighEui orb) = high_mild (payload_of answer 4) orb
  phase_mild (phases.LowEui orb high) = low_mild (payload_of answer 4) orb high
  phase_mild (phases.Response fifo) = response_mild (write_failure answer) fifo
  phase_mild phases.Status = status_mild (write_failure answer)

  pub reply_mild : m.operation ≡ Some own → Mild (management.reply_step m t keys answer)
  unfolding management.reply_step
  reply_mild is = subst (λ (o : Option Operation). Mild (management.reply_to o m t keys answer)) (sym is) (phase_mild own.phase)
