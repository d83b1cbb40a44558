-- Where an operation of the management writes its response, and how long this is: it goes to the address that the ORB names which was decided on, and has bytes, and no more than that ORB allows.
use Rattle.sbp_world.proofs.Words.Std.{arith, nat_tests, ◌≡◌, ◌∙◌, refl, sym, ap, subst, ℕ, ◌*◌, ◌+◌, ◌^◌, ◌<◌, ◌≤◌, ◌==◌, take, length-take, not, Bool, true, false, cond, List, [], ◌∷◌, length, Option, Some, None, Result, Ok, Err, is_none, position, unwrap_or, quad}
use Rattle.sbp_world.proofs.Words.Wire.{Access, Start, management_agent, no_start, register, rom_start, start_at, start_serves, Event, Note, FunctionWord, Moment, asked, said, Part, part_of, request, response, Terms}
use Rattle.sbp_world.proofs.Words.Target.{Table, ManagerStep, response_bytes, Operation, decide, reads_eui, beside, cut_response, decide_step, decided_as, eui_step, high_eui_at, high_got, in_phase, low_eui_at, low_got, orb_got, reply_in, reply_to, response_written, start_step, start_with, status_block, status_step, status_written, telling, Disk}
use Rattle.sbp_world.proofs.Words.Initiator.{Ask, Nothing, FailCause, ManagementOrb, management_orb, offset_at, Answer, Expired, Payload, payload_of, write_failure}
use Rattle.sbp_world.proofs.Words.Laws.{access_at, access_in_bytes, answer_in, answered_at, id_for, packet_at, receiver_in, sender_in, Decided, Target, bytes_in, decided_by, decided_in, got_by, keep_decided, is_nothing, is_serial, is_write_access, key_by, known_at, over, laws_replied, request_got, reset_seen, sent_as, sent_for, taken_on, target_at, target_by, wants, wants_it, event_of}
use Rattle.sbp_world.proofs.Words.World.{Office, by_managed, by_note, office_of, placed, placed_by, replied, started, started_by, stepped, IsOn}
use Rattle.mgmt_agent.specs.declared.decision.Outcome.{Outcome}
use Rattle.mgmt_agent.specs.declared.operation.Phase.{Phase}
use Rattle.mgmt_agent.specs.declared.operation.Phase.TheVariants as phases
use Rattle.mgmt_agent.specs.declared.status.Status.TheVariants as statuses
use Rattle.mgmt_agent.specs.Machine.{Machine, quiet, reply_step}
use Rattle.orb_layout.specs.declared.ask.Ask.TheVariants as asks
use Rattle.sbp_journal.specs.declared.event.Event.TheVariants as events
use Rattle.sbp_journal.specs.declared.note.Note.TheVariants as notes
use Rattle.sbp_journal.specs.declared.operation.FunctionWord.TheVariants as functions
use Rattle.sbp_journal.specs.Transactions.{no_packet}
use Rattle.sbp_world.proofs.Agents.Management.Firsts.{other_reply, own_reply, request_keeps, served_office, start_office}
use Rattle.sbp_world.proofs.Agents.Management.Offices.{IsBehind, note_changes, over_keeps, taken_keeps}
use Rattle.sbp_world.proofs.Lists.OpenedReplied.{pays_as as payload_is}
use Rattle.sbp_world.proofs.Common.{untrue}

abbrev pub IsSecond : Option Decided → Ask → List ℕ → Type 0
IsSecond None ask out = ⊥
IsSecond (Some on) ask out = (ask ≡ asks.Write on.orb.second (length out)) × ((0 < length out) × (length out ≤ on.orb.response_length))

abbrev pub AskOf : Phase → Option Decided → Ask → List ℕ → Type 0
AskOf (phases.Response fifo) decided ask out = IsSecond decided ask out
AskOf phase decided ask out = Unit {0}

abbrev pub SitsAs : Option Operation → Option Decided → Ask → List ℕ → Type 0
SitsAs operation decided ask out = ((op : Operation) → operation ≡ Some op → is_nothing ask ≡ false → AskOf op.phase decided ask out) × (operation ≡ None → ask ≡ Nothing)

abbrev pub Sits : Office → Type 0
Sits o = SitsAs o.manager.operation o.decided o.asks o.manager.outgoing

sits_nothing : (operation : Option Operation) (decided : Option Decided) (ask : Ask) (out : List ℕ) → ask ≡ Nothing → SitsAs operation decided ask out
sits_nothing operation decided ask out e = ((λ op f n. untrue (sym n ∙ ap is_nothing e)), (λ f. e))

sits_with : (own : Operation) (decided : Option Decided) (ask : Ask) (out : List ℕ) → AskOf own.phase decided ask out → SitsAs (Some own) decided ask out
sits_with own decided ask out a = ((λ op f n. let same : own ≡ op = cc in subst (λ (x : Operation). AskOf x.phase decided ask out) same a), (λ f. absurd (let no : Some own ≡ None = f in cc)))

-- ---- a reply
taken_short : (most : ℕ) (bytes : List ℕ) → length (take most bytes) ≤ most
taken_short most bytes = simp length-take (omega arith)

second_on : (brought : Option Decided) (orb : ManagementOrb) (out : List ℕ) → IsOn brought orb → (length out == 0) ≡ false → length out ≤ orb.response_length → IsSecond brought (asks.Write orb.second (length out)) out
second_on None orb out on some short = absurd on
second_on (Some on) orb out e some short =
    (ap (λ (o : ManagementOrb). asks.Write o.second (length out)) (sym e), (grind (arith, nat_tests, some), subst (λ (o : ManagementOrb). length out ≤ o.response_length) (sym e) short))

module _ (m : Machine) (t : Table) (keys : List (List ℕ)) (answer : Answer) (own : Operation) (had : Option Decided) (brought : Option Decided) where
  abbrev Left : ManagerStep × (Machine × Table) → Type 0
  Left r = SitsAs r.1.0.operation (keep_decided r.0.decided brought had) r.0.ask r.1.0.outgoing

  pick_left : (b : Bool) (x y : ManagerStep × (Machine × Table)) → Left x → Left y → Left (cond b x y)
  pick_left true x y h k = h
  pick_left false x y h k = k

  responds : (begun : Machine) (orb : ManagementOrb) (outcome : Outcome) (table : Table) (b : Bool) → (length begun.outgoing == 0) ≡ b → length begun.outgoing ≤ orb.response_length → IsOn brought orb → (let s = cond b (status_step begun own orb.fifo outcome.status) (quiet (asks.Write orb.second (length begun.outgoing)), in_phase begun own (phases.Response orb.fifo)) in Left (telling orb outcome s.0, (s.1, table)))
  responds begun orb outcome table true e short on = sits_with (record own { phase = phases.Status }) brought (asks.Write orb.fifo 8) (status_block own.orb outcome.status) tt
  responds begun orb outcome table false e short on = sits_with (record own { phase = phases.Response orb.fifo }) brought (asks.Write orb.second (length begun.outgoing)) begun.outgoing (second_on brought orb begun.outgoing on e short)

  decided_left : (orb : ManagementOrb) (x : Outcome × Table) → IsOn brought orb → Left (decided_as x m own orb)
  decided_left orb (outcome, table) on =
      let begun = record m { outgoing = cut_response orb outcome table } in responds begun orb outcome table (length begun.outgoing == 0) refl (taken_short orb.response_length (response_bytes outcome.response table.places)) on

  decides : (orb : ManagementOrb) (eui : ℕ) → IsOn brought orb → Left (decide_step m own orb eui t keys)
  unfolding decide_step
  decides orb eui on = decided_left orb (decide orb own.source eui t keys) on

  orb_left : (got : Result (List ℕ) FailCause) → payload_of answer 32 ≡ got → brought ≡ decided_in phases.Orb own.source answer → Left (orb_got got m own t keys)
  orb_left (Err cause) e b = sits_nothing None had Nothing m.outgoing refl
  orb_left (Ok bytes) e b =
      let same : answer ≡ Payload bytes = payload_is answer 32 bytes e in
      let orb = management_orb bytes in
      pick_left (reads_eui orb) (beside t (eui_step m own (phases.HighEui orb) high_eui_at)) (decide_step m own orb 0 t keys)
      (sits_with (record own { phase = phases.HighEui orb }) had (asks.Read high_eui_at 4) m.outgoing tt)
      (decides orb 0 (subst (λ x. IsOn x orb) (sym b) (ap (λ a. management_orb (bytes_in a)) same)))

  high_left : (got : Result (List ℕ) FailCause) (orb : ManagementOrb) → Left (beside t (high_got got m own orb))
  high_left (Err cause) orb = sits_nothing None had Nothing m.outgoing refl
  high_left (Ok bytes) orb = sits_with (record own { phase = phases.LowEui orb (quad bytes 0) }) had (asks.Read low_eui_at 4) m.outgoing tt

  low_left : (got : Result (List ℕ) FailCause) (orb : ManagementOrb) (high : ℕ) → brought ≡ decided_in (phases.LowEui orb high) own.source answer → Left (low_got got m own orb high t keys)
  low_left (Err cause) orb high b = sits_nothing None had Nothing m.outgoing refl
  low_left (Ok bytes) orb high b = decides orb (high * 2 ^ 32 + quad bytes 0) (subst (λ x. IsOn x orb) (sym b) refl)

  response_left : (failure : Option FailCause) (fifo : ℕ) → Left (beside t (response_written failure m own fifo))
  response_left None fifo = sits_with (record own { phase = phases.Status }) had (asks.Write fifo 8) (status_block own.orb statuses.NoFault) tt
  response_left (Some cause) fifo = sits_nothing None had Nothing m.outgoing refl

  status_left : (failure : Option FailCause) → Left (beside t (status_written failure m))
  status_left None = sits_nothing None had Nothing m.outgoing refl
  status_left (Some cause) = sits_nothing None had Nothing m.outgoing refl

  in_left : (phase : Phase) → brought ≡ decided_in phase own.source answer → Left (reply_in phase m own t keys answer)
  in_left phases.Orb b = orb_left (payload_of answer 32) refl b
  in_left (phases.HighEui orb) b = high_left (payload_of answer 4) orb
  in_left (phases.LowEui orb high) b = low_left (payload_of answer 4) orb high b
  in_left (phases.Response fifo) b = response_left (write_failure answer) fifo
  in_left phases.Status b = status_left (write_failure answer)

module _ (o : Office) (answer : Answer) where
  by_operation : (operation : Option Operation) → o.manager.operation ≡ operation → Sits (stepped o answer (reply_to operation o.manager o.table o.keys answer))
  by_operation None e = sits_nothing o.manager.operation o.decided Nothing o.manager.outgoing refl
  by_operation (Some own) e =
      in_left o.manager o.table o.keys answer own o.decided (decided_by o.manager.operation answer) own.phase (ap (λ (x : Option Operation). decided_by x answer) e)

replied_sits : (answer : Answer) (o : Office) → Sits (replied answer o)
unfolding reply_step
replied_sits answer o = by_operation o answer o.manager.operation refl

started_left : (operation : Option Operation) (source orb : ℕ) (o : Office) → Sits o → Sits (started_by (start_with operation o.manager source orb) o)
started_left None source orb o s = sits_with (record { source = source; orb = orb; phase = phases.Orb }) o.decided (asks.Read orb 32) o.manager.outgoing tt
started_left (Some own) source orb o s = s

started_sits : (source orb : ℕ) (o : Office) → Sits o → Sits (started source orb o)
unfolding start_step
started_sits source orb o s = started_left o.manager.operation source orb o s

-- ---- notes behind the first of a turn
placed_sits : (place : Option ℕ) (decided : Option Decided) (id : ℕ) (o : Office) → Sits o → Sits (placed place decided id o)
placed_sits None decided id o s = s
placed_sits (Some place) None id o s = s
placed_sits (Some place) (Some decided) id o s = s

entered_sits : (login : Option ℕ) (o : Office) → Sits o → Sits (placed_by login o)
entered_sits None o s = s
entered_sits (Some id) o s = placed_sits (position is_none o.table.places) o.decided id o s

managed_sits : (word : FunctionWord) (login : Option ℕ) (o : Office) → Sits o → Sits (by_managed word login o)
managed_sits functions.Login login o s = entered_sits login o s
managed_sits _ login o s = s

by_sits : (note : Note) (o : Office) → Sits o → Sits (by_note note o)
by_sits (notes.ManageFailed i cause) o s = sits_nothing None o.decided Nothing o.manager.outgoing refl
by_sits (notes.Managed i word subject status login) o s = managed_sits word login o s
by_sits (notes.Held id) o s = s
by_sits (notes.Back id) o s = s
by_sits (notes.Left id) o s = s
by_sits (notes.Expired id) o s = s
by_sits _ o s = s

behind_sits : (note : Note) (past : List Moment) (wire : Terms) (t : Target) → IsBehind note → Sits (office_of t) → Sits (office_of (target_by note past wire t))
behind_sits note past wire t h s = subst Sits (sym (note_changes note past wire t h)) (by_sits note (office_of t) s)

-- ---- the first note of a turn, and packets
rests : (t : Target) → Sits (office_of (over t))
rests t = subst Sits (sym (over_keeps t)) (sits_nothing t.manager.operation t.decided Nothing t.manager.outgoing refl)

replied_here : (serial : ℕ) (answer : Answer) (t : Target) → Sits (office_of (laws_replied serial answer (over t)))
replied_here serial answer t = by (is_serial (over t).manages serial) refl
  where
    by : (b : Bool) → is_serial (over t).manages serial ≡ b → Sits (office_of (laws_replied serial answer (over t)))
    by true e = subst Sits (sym (own_reply serial answer (over t) e)) (replied_sits answer (office_of (over t)))
    by false e = subst Sits (sym (other_reply serial answer (over t) e)) (rests t)

start_sits : (start : Start) (source : ℕ) (access : Access) (o : Office) → Sits o → Sits (start_office start source access o)
start_sits management_agent source access o s = started_sits source (offset_at access.payload 0) o s
start_sits (register place name) source access o s = s
start_sits rom_start source access o s = s
start_sits no_start source access o s = s

served_sits : (b : Bool) (start : Start) (source : ℕ) (access : Access) (o : Office) → Sits o → Sits (served_office b start source access o)
served_sits true start source access o s = start_sits start source access o s
served_sits false start source access o s = s

request_sits : (access : Option Access) (source : ℕ) (t : Target) → Sits (office_of (request_got access source (over t)))
request_sits None source t = rests t
request_sits (Some access) source t =
    subst Sits (sym (request_keeps access source (over t))) (served_sits (start_serves (start_at access.offset) access) (start_at access.offset) source access (office_of (over t)) (rests t))

got_sits : (own : Option ℕ) (wire : Terms) (serial : ℕ) (t : Target) → Sits (office_of (got_by own wire serial (over t)))
got_sits (Some own) wire serial t = replied_here own (answer_in (packet_at wire serial)) t
got_sits None wire serial t = request_sits (access_at wire serial) (id_for wire 0 (unwrap_or (sender_in (wire.sent serial)) 0)) t

pick_sits : (b : Bool) (x y : Target) → Sits (office_of x) → Sits (office_of y) → Sits (office_of (cond b x y))
pick_sits true x y h k = h
pick_sits false x y h k = k

seen_sits : (b : Bool) (t : Target) → Sits (office_of (reset_seen b (over t)))
seen_sits true t = sits_nothing None (over t).decided Nothing (over t).manager.outgoing refl
seen_sits false t = rests t

key_sits : (event : Option Event) (unit : ℕ) (t : Target) → Sits (office_of t) → Sits (office_of (key_by event unit t))
key_sits None unit t s = s
key_sits (Some (events.Key other key)) unit t s = s
key_sits (Some (events.Begin a b)) unit t s = s
key_sits (Some (events.Act a b)) unit t s = s
key_sits (Some (events.Reset a)) unit t s = s
key_sits (Some (events.See a)) unit t s = s
key_sits (Some (events.Deliver a)) unit t s = s
key_sits (Some (events.Repeat a)) unit t s = s
key_sits (Some (events.Lose a)) unit t s = s
key_sits (Some (events.Timeout a)) unit t s = s
key_sits (Some (events.Step a)) unit t s = s
key_sits (Some events.Settle) unit t s = s
key_sits (Some events.Tick) unit t s = s
key_sits (Some (events.Inject a b)) unit t s = s

wanted_sits : (b : Bool) (serial : ℕ) (t : Target) → Sits (office_of t) → Sits (office_of (cond b (record t { manages = Some serial; manager_asks = Nothing }) (record t { pushes = serial ∷ t.pushes })))
wanted_sits true serial t s = sits_nothing t.manager.operation t.decided Nothing t.manager.outgoing refl
wanted_sits false serial t s = s

for_sits : (place : Option ℕ) (is_write : Bool) (serial : ℕ) (t : Target) → Sits (office_of t) → Sits (office_of (sent_for place is_write serial t))
for_sits (Some place) is_write serial t s = s
for_sits None is_write serial t s = wanted_sits (wants t.manager_asks is_write) serial t s

sent_sits : (part : Part) (is_write : Bool) (serial : ℕ) (t : Target) → Sits (office_of t) → Sits (office_of (sent_as part is_write serial t))
sent_sits (request label kind) is_write serial t s = for_sits (position (wants_it is_write) t.agents) is_write serial t s
sent_sits (response label kind) is_write serial t s = s
sent_sits no_packet is_write serial t s = s

note_sits : (note : Note) (past : List Moment) (wire : Terms) (t : Target) → Sits (office_of t) → Sits (office_of (target_by note past wire t))
note_sits (notes.Begin initiators ready) past wire t s = s
note_sits (notes.Got serial) past wire t s = pick_sits (is_serial (receiver_in (wire.sent serial)) 0) (got_by (answered_at wire serial) wire serial (over t)) (over t) (got_sits (answered_at wire serial) wire serial t) (rests t)
note_sits (notes.Ignored serial cause) past wire t s = rests t
note_sits (notes.TimedOut serial) past wire t s = pick_sits (is_serial (sender_in (wire.sent serial)) 0) (laws_replied serial Expired (over t)) (over t) (replied_here serial Expired t) (rests t)
note_sits (notes.Seen node generation) past wire t s =
    let b = not (generation == wire.generation 0) in pick_sits (node == 0) (reset_seen b (over t)) (over t) (seen_sits b t) (rests t)
note_sits notes.Tick past wire t s = rests t
note_sits (notes.Key unit) past wire t s = key_sits (event_of past) unit t s
note_sits (notes.Sent serial generation from to bytes) past wire t s =
    let settled = taken_on None t.reply t in
    let same = subst Sits (sym (taken_keeps None t.reply t)) s in
    pick_sits (from == 0) (sent_as (part_of bytes) (is_write_access (access_in_bytes bytes)) serial settled) settled (sent_sits (part_of bytes) (is_write_access (access_in_bytes bytes)) serial settled same) same
note_sits (notes.Append i list orb cdb buffer) past wire t s = behind_sits (notes.Append i list orb cdb buffer) past wire t tt s
note_sits (notes.Low i list orb) past wire t s = behind_sits (notes.Low i list orb) past wire t tt s
note_sits (notes.Linked i list orb) past wire t s = behind_sits (notes.Linked i list orb) past wire t tt s
note_sits (notes.Rung i list orb) past wire t s = behind_sits (notes.Rung i list orb) past wire t tt s
note_sits (notes.Dummied i list orb) past wire t s = behind_sits (notes.Dummied i list orb) past wire t tt s
note_sits (notes.Injected serial) past wire t s = behind_sits (notes.Injected serial) past wire t tt s
note_sits (notes.Lost serial) past wire t s = behind_sits (notes.Lost serial) past wire t tt s
note_sits (notes.Ran i n k unit cdb bytes check) past wire t s = behind_sits (notes.Ran i n k unit cdb bytes check) past wire t tt s
note_sits (notes.Ended i n k status) past wire t s = behind_sits (notes.Ended i n k status) past wire t tt s
note_sits (notes.Taken i n k status answer) past wire t s = behind_sits (notes.Taken i n k status answer) past wire t tt s
note_sits (notes.Cut i n cause) past wire t s = behind_sits (notes.Cut i n cause) past wire t tt s
note_sits (notes.Dead i n cause) past wire t s = behind_sits (notes.Dead i n cause) past wire t tt s
note_sits (notes.Drop i list) past wire t s = behind_sits (notes.Drop i list) past wire t tt s
note_sits (notes.Managed i word subject status login) past wire t s = behind_sits (notes.Managed i word subject status login) past wire t tt s
note_sits (notes.ManageFailed i cause) past wire t s = behind_sits (notes.ManageFailed i cause) past wire t tt s
note_sits (notes.Held id) past wire t s = behind_sits (notes.Held id) past wire t tt s
note_sits (notes.Expired id) past wire t s = behind_sits (notes.Expired id) past wire t tt s
note_sits (notes.Back id) past wire t s = behind_sits (notes.Back id) past wire t tt s
note_sits (notes.Left id) past wire t s = behind_sits (notes.Left id) past wire t tt s
note_sits (notes.Cleared unit) past wire t s = behind_sits (notes.Cleared unit) past wire t tt s
note_sits (notes.Op i operation word) past wire t s = behind_sits (notes.Op i operation word) past wire t tt s
note_sits (notes.Stuck i) past wire t s = behind_sits (notes.Stuck i) past wire t tt s
note_sits (notes.Reset generation) past wire t s = behind_sits (notes.Reset generation) past wire t tt s
note_sits (notes.Refused line number) past wire t s = behind_sits (notes.Refused line number) past wire t tt s
note_sits notes.Settled past wire t s = behind_sits notes.Settled past wire t tt s
note_sits notes.Stopped past wire t s = behind_sits notes.Stopped past wire t tt s
note_sits (notes.Unsolicited i) past wire t s = behind_sits (notes.Unsolicited i) past wire t tt s
note_sits (notes.Unsent i) past wire t s = behind_sits (notes.Unsent i) past wire t tt s
note_sits (notes.Told i) past wire t s = behind_sits (notes.Told i) past wire t tt s

pub seconds : (start : List Disk) (past : List Moment) → Sits (office_of (target_at start past))
seconds start [] = sits_nothing None None Nothing [] refl
seconds start (asked line event ∷ past) = rests (target_at start past)
seconds start (said note ∷ past) = note_sits note past (known_at start past).wire (target_at start past) (seconds start past)
