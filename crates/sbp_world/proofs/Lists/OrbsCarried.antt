-- What the target read last as a management ORB is what its operation has.
use Rattle.sbp_world.proofs.Words.Std.{◌≡◌, refl, sym, ap, subst, ℕ, ◌*◌, ◌+◌, ◌^◌, ◌==◌, not, Bool, true, false, cond, List, [], ◌∷◌, length, Option, Some, None, Result, Ok, Err, is_none, position, unwrap_or, quad}
use Rattle.sbp_world.proofs.Words.Wire.{Access, Start, management_agent, no_start, register, rom_start, start_at, start_serves, Event, Note, FunctionWord, Moment, asked, said, Part, part_of, request, response, Terms, terms}
use Rattle.sbp_world.proofs.Words.Target.{Table, ManagerStep, Operation, decide, reads_eui, beside, cut_response, decide_step, decided_as, eui_step, high_eui_at, high_got, in_phase, low_got, orb_got, reply_in, reply_to, response_written, start_step, start_with, status_step, status_written, telling}
use Rattle.sbp_world.proofs.Words.Initiator.{FailCause, ManagementOrb, management_orb, offset_at, Answer, Expired, payload_of, write_failure}
use Rattle.sbp_world.proofs.Words.Laws.{access_at, access_in_bytes, answer_in, answered_at, id_for, packet_at, receiver_in, sender_in, Decided, Target, bytes_in, decided_by, decided_in, got_by, is_serial, is_write_access, keep_decided, key_by, known_at, over, laws_replied, request_got, reset_seen, sent_as, sent_for, taken_on, target_at, target_by, wants, wants_it, event_of}
use Rattle.sbp_world.proofs.Words.World.{Office, at_rest, by_managed, by_note, office_of, placed, placed_by, replied, started, started_by, stepped, ticked, CarriedOrbsLaw, HasIn, HasOrb, IsOn, last_read, read_by, read_for, read_if, read_in}
use Rattle.mgmt_agent.specs.declared.decision.Outcome.{Outcome}
use Rattle.mgmt_agent.specs.declared.operation.Phase.{Phase}
use Rattle.mgmt_agent.specs.declared.operation.Phase.TheVariants as phases
use Rattle.mgmt_agent.specs.Machine.{Machine, quiet, reply_step}
use Rattle.orb_layout.specs.declared.ask.Ask.TheVariants as asks
use Rattle.sbp_journal.specs.declared.event.Event.TheVariants as events
use Rattle.sbp_journal.specs.declared.note.Note.TheVariants as notes
use Rattle.sbp_journal.specs.declared.operation.FunctionWord.TheVariants as functions
use Rattle.sbp_journal.specs.Transactions.{no_packet}
use Rattle.sbp_world.proofs.Agents.Management.Firsts.{other_reply, own_reply, request_keeps, served_office, start_office, wire_is}
use Rattle.sbp_world.proofs.Agents.Management.Offices.{IsBehind, note_changes, over_keeps, taken_keeps}
use Rattle.sbp_world.proofs.Sessions.Decisions.{bytes_are}

abbrev Has : ManagementOrb → Office → Type 0
Has orb o = HasOrb o.manager.operation o.decided orb

-- ---- a reply

module _ (m : Machine) (t : Table) (keys : List (List ℕ)) (answer : Answer) (own : Operation) (had : Option Decided) (brought : Option Decided) where
  abbrev Left : ManagementOrb → ManagerStep × (Machine × Table) → Type 0
  Left orb r = HasOrb r.1.0.operation (keep_decided r.0.decided brought had) orb

  pick_left : (orb : ManagementOrb) (b : Bool) (x y : ManagerStep × (Machine × Table)) → Left orb x → Left orb y → Left orb (cond b x y)
  pick_left orb true x y h k = h
  pick_left orb false x y h k = k

  responds : (begun : Machine) (orb : ManagementOrb) (outcome : Outcome) (table : Table) (b : Bool) → IsOn brought orb → (let s = cond b (status_step begun own orb.fifo outcome.status) (quiet (asks.Write orb.second (length begun.outgoing)), in_phase begun own (phases.Response orb.fifo)) in Left orb (telling orb outcome s.0, (s.1, table)))
  responds begun orb outcome table true on = on
  responds begun orb outcome table false on = on

  decided_left : (orb : ManagementOrb) (x : Outcome × Table) → IsOn brought orb → Left orb (decided_as x m own orb)
  decided_left orb (outcome, table) on =
      let begun = record m { outgoing = cut_response orb outcome table } in responds begun orb outcome table (length begun.outgoing == 0) on

  decides : (orb : ManagementOrb) (eui : ℕ) → IsOn brought orb → Left orb (decide_step m own orb eui t keys)
  unfolding decide_step
  decides orb eui on = decided_left orb (decide orb own.source eui t keys) on

  orb_left : (got : Result (List ℕ) FailCause) → payload_of answer 32 ≡ got → brought ≡ decided_in phases.Orb own.source answer → Left (management_orb (bytes_in answer)) (orb_got got m own t keys)
  orb_left (Err cause) e b = tt
  orb_left (Ok bytes) e b =
      let same : bytes_in answer ≡ bytes = bytes_are answer 32 bytes e in
      let orb = management_orb bytes in
      subst (λ xs. Left (management_orb xs) (orb_got (Ok bytes) m own t keys)) (sym same)
      (pick_left orb (reads_eui orb) (beside t (eui_step m own (phases.HighEui orb) high_eui_at)) (decide_step m own orb 0 t keys) refl
      (decides orb 0 (subst (λ x. IsOn x orb) (sym b) (ap management_orb same))))

  high_left : (got : Result (List ℕ) FailCause) (own_orb orb : ManagementOrb) → own_orb ≡ orb → Left orb (beside t (high_got got m own own_orb))
  high_left (Err cause) own_orb orb h = tt
  high_left (Ok bytes) own_orb orb h = h

  low_left : (got : Result (List ℕ) FailCause) (own_orb orb : ManagementOrb) (high : ℕ) → own_orb ≡ orb → brought ≡ decided_in (phases.LowEui own_orb high) own.source answer → Left orb (low_got got m own own_orb high t keys)
  low_left (Err cause) own_orb orb high h b = tt
  low_left (Ok bytes) own_orb orb high h b =
      subst (λ x. Left x (low_got (Ok bytes) m own own_orb high t keys)) h
      (decides own_orb (high * 2 ^ 32 + quad bytes 0) (subst (λ x. IsOn x own_orb) (sym b) refl))

  response_left : (failure : Option FailCause) (fifo : ℕ) (orb : ManagementOrb) → IsOn had orb → Left orb (beside t (response_written failure m own fifo))
  response_left None fifo orb on = on
  response_left (Some cause) fifo orb on = tt

  status_left : (failure : Option FailCause) (orb : ManagementOrb) → Left orb (beside t (status_written failure m))
  status_left None orb = tt
  status_left (Some cause) orb = tt

  in_left : (phase : Phase) (orb : ManagementOrb) → HasIn phase had orb → brought ≡ decided_in phase own.source answer → Left (read_in phase answer orb) (reply_in phase m own t keys answer)
  in_left phases.Orb orb h b = orb_left (payload_of answer 32) refl b
  in_left (phases.HighEui own_orb) orb h b = high_left (payload_of answer 4) own_orb orb h
  in_left (phases.LowEui own_orb high) orb h b = low_left (payload_of answer 4) own_orb orb high h b
  in_left (phases.Response fifo) orb h b = response_left (write_failure answer) fifo orb h
  in_left phases.Status orb h b = status_left (write_failure answer) orb

module _ (o : Office) (answer : Answer) (orb : ManagementOrb) where
  by_operation : (operation : Option Operation) → o.manager.operation ≡ operation → HasOrb operation o.decided orb → Has (read_for operation answer orb) (stepped o answer (reply_to operation o.manager o.table o.keys answer))
  by_operation None e h = subst (λ x. HasOrb x o.decided orb) (sym e) tt
  by_operation (Some own) e h =
      in_left o.manager o.table o.keys answer own o.decided (decided_by o.manager.operation answer) own.phase orb h (ap (λ (x : Option Operation). decided_by x answer) e)

  replied_has : Has orb o → Has (read_for o.manager.operation answer orb) (replied answer o)
  unfolding reply_step
  replied_has h = by_operation o.manager.operation refl h

started_has : (operation : Option Operation) (source orb : ℕ) (o : Office) (has : ManagementOrb) → Has has o → Has has (started_by (start_with operation o.manager source orb) o)
started_has None source orb o has h = tt
started_has (Some own) source orb o has h = h

starts_has : (source orb : ℕ) (o : Office) (has : ManagementOrb) → Has has o → Has has (started source orb o)
unfolding start_step
starts_has source orb o has h = started_has o.manager.operation source orb o has h

-- ---- notes behind the first of a turn
placed_has : (place : Option ℕ) (decided : Option Decided) (id : ℕ) (o : Office) (orb : ManagementOrb) → Has orb o → Has orb (placed place decided id o)
placed_has None decided id o orb s = s
placed_has (Some place) None id o orb s = s
placed_has (Some place) (Some decided) id o orb s = s

entered_has : (login : Option ℕ) (o : Office) (orb : ManagementOrb) → Has orb o → Has orb (placed_by login o)
entered_has None o orb s = s
entered_has (Some id) o orb s = placed_has (position is_none o.table.places) o.decided id o orb s

managed_has : (word : FunctionWord) (login : Option ℕ) (o : Office) (orb : ManagementOrb) → Has orb o → Has orb (by_managed word login o)
managed_has functions.Login login o orb s = entered_has login o orb s
managed_has _ login o orb s = s

by_has : (note : Note) (o : Office) (orb : ManagementOrb) → Has orb o → Has orb (by_note note o)
by_has (notes.ManageFailed i cause) o orb s = tt
by_has (notes.Managed i word subject status login) o orb s = managed_has word login o orb s
by_has (notes.Held id) o orb s = s
by_has (notes.Back id) o orb s = s
by_has (notes.Left id) o orb s = s
by_has (notes.Expired id) o orb s = s
by_has _ o orb s = s

behind_has : (note : Note) (past : List Moment) (wire : Terms) (t : Target) (orb : ManagementOrb) → IsBehind note → Has orb (office_of t) → Has orb (office_of (target_by note past wire t))
behind_has note past wire t orb h s = subst (Has orb) (sym (note_changes note past wire t h)) (by_has note (office_of t) orb s)

-- ---- the first note of a turn, and packets
module _ (t : Target) (orb : ManagementOrb) (s : Has orb (office_of t)) where
  rests : Has orb (office_of (over t))
  rests = subst (Has orb) (sym (over_keeps t)) s

  -- a reply, of an answer or of none
  own_has : (answer : Answer) (serial : ℕ) → is_serial (over t).manages serial ≡ true → Has (read_for (over t).manager.operation answer orb) (office_of (laws_replied serial answer (over t)))
  own_has answer serial e = subst (Has (read_for (over t).manager.operation answer orb)) (sym (own_reply serial answer (over t) e)) (replied_has (office_of (over t)) answer orb rests)

  other_has : (answer : Answer) (serial : ℕ) → is_serial (over t).manages serial ≡ false → Has orb (office_of (laws_replied serial answer (over t)))
  other_has answer serial e = subst (Has orb) (sym (other_reply serial answer (over t) e)) rests

  replied_by : (answer : Answer) (serial : ℕ) (b : Bool) → is_serial (over t).manages serial ≡ b → Has (read_if b (over t).manager.operation answer orb) (office_of (laws_replied serial answer (over t)))
  replied_by answer serial true e = own_has answer serial e
  replied_by answer serial false e = other_has answer serial e

  over_is : office_of (over t) ≡ at_rest (office_of t)
  over_is = over_keeps t

  answered_has : (answer : Answer) (serial : ℕ) → Has (read_if (is_serial t.manages serial) t.manager.operation answer orb) (office_of (laws_replied serial answer (over t)))
  answered_has answer serial =
      subst (λ (o : Office). Has (read_if (is_serial o.manages serial) o.manager.operation answer orb) (office_of (laws_replied serial answer (over t)))) over_is
      (replied_by answer serial (is_serial (over t).manages serial) refl)

  start_has : (start : Start) (source : ℕ) (access : Access) → Has orb (start_office start source access (office_of (over t)))
  start_has management_agent source access = starts_has source (offset_at access.payload 0) (office_of (over t)) orb rests
  start_has (register place name) source access = rests
  start_has rom_start source access = rests
  start_has no_start source access = rests

  served_has : (b : Bool) (start : Start) (source : ℕ) (access : Access) → Has orb (served_office b start source access (office_of (over t)))
  served_has true start source access = start_has start source access
  served_has false start source access = rests

  request_has : (access : Option Access) (source : ℕ) → Has orb (office_of (request_got access source (over t)))
  request_has None source = rests
  request_has (Some access) source =
      subst (Has orb) (sym (request_keeps access source (over t))) (served_has (start_serves (start_at access.offset) access) (start_at access.offset) source access)

  got_has : (here : Bool) (own : Option ℕ) (wire : Terms) (serial : ℕ) → Has (read_by here own t.manages t.manager.operation (answer_in (packet_at wire serial)) orb) (office_of (cond here (got_by own wire serial (over t)) (over t)))
  got_has true (Some own) wire serial = answered_has (answer_in (packet_at wire serial)) own
  got_has true None wire serial = request_has (access_at wire serial) (id_for wire 0 (unwrap_or (sender_in (wire.sent serial)) 0))
  got_has false own wire serial = rests

  pick_has : (b : Bool) (x y : Target) → Has orb (office_of x) → Has orb (office_of y) → Has orb (office_of (cond b x y))
  pick_has true x y h k = h
  pick_has false x y h k = k

  seen_has : (b : Bool) → Has orb (office_of (reset_seen b (over t)))
  seen_has true = tt
  seen_has false = rests

  key_has : (event : Option Event) (unit : ℕ) → Has orb (office_of (key_by event unit t))
  key_has None unit = s
  key_has (Some (events.Key other key)) unit = s
  key_has (Some (events.Begin a b)) unit = s
  key_has (Some (events.Act a b)) unit = s
  key_has (Some (events.Reset a)) unit = s
  key_has (Some (events.See a)) unit = s
  key_has (Some (events.Deliver a)) unit = s
  key_has (Some (events.Repeat a)) unit = s
  key_has (Some (events.Lose a)) unit = s
  key_has (Some (events.Timeout a)) unit = s
  key_has (Some (events.Step a)) unit = s
  key_has (Some events.Settle) unit = s
  key_has (Some events.Tick) unit = s
  key_has (Some (events.Inject a b)) unit = s

-- a time-out: no operation is left
expired_none : (operation : Option Operation) (m : Machine) (t : Table) (keys : List (List ℕ)) → m.operation ≡ operation → (reply_to operation m t keys Expired).1.0.operation ≡ None
expired_none None m t keys e = e
expired_none (Some own) m t keys e = in_phase_of own.phase
  where
    in_phase_of : (phase : Phase) → (reply_in phase m own t keys Expired).1.0.operation ≡ None
    in_phase_of phases.Orb = refl
    in_phase_of (phases.HighEui orb) = refl
    in_phase_of (phases.LowEui orb high) = refl
    in_phase_of (phases.Response fifo) = refl
    in_phase_of phases.Status = refl

expired_has : (o : Office) (orb : ManagementOrb) → Has orb (replied Expired o)
unfolding reply_step
expired_has o orb = subst (λ x. HasOrb x (replied Expired o).decided orb) (sym (expired_none o.manager.operation o.manager o.table o.keys refl)) tt

lapse_has : (t : Target) (orb : ManagementOrb) → Has orb (office_of t) → (serial : ℕ) (b : Bool) → is_serial (over t).manages serial ≡ b → Has orb (office_of (laws_replied serial Expired (over t)))
lapse_has t orb s serial true e = subst (Has orb) (sym (own_reply serial Expired (over t) e)) (expired_has (office_of (over t)) orb)
lapse_has t orb s serial false e = other_has t orb s Expired serial e

wanted_has : (b : Bool) (serial : ℕ) (t : Target) (orb : ManagementOrb) → Has orb (office_of t) → Has orb (office_of (cond b (record t { manages = Some serial; manager_asks = asks.Nothing }) (record t { pushes = serial ∷ t.pushes })))
wanted_has true serial t orb s = s
wanted_has false serial t orb s = s

for_has : (place : Option ℕ) (is_write : Bool) (serial : ℕ) (t : Target) (orb : ManagementOrb) → Has orb (office_of t) → Has orb (office_of (sent_for place is_write serial t))
for_has (Some place) is_write serial t orb s = s
for_has None is_write serial t orb s = wanted_has (wants t.manager_asks is_write) serial t orb s

sent_has : (part : Part) (is_write : Bool) (serial : ℕ) (t : Target) (orb : ManagementOrb) → Has orb (office_of t) → Has orb (office_of (sent_as part is_write serial t))
sent_has (request label kind) is_write serial t orb s = for_has (position (wants_it is_write) t.agents) is_write serial t orb s
sent_has (response label kind) is_write serial t orb s = s
sent_has no_packet is_write serial t orb s = s

abbrev IsNoGot : Note → Type 0
IsNoGot (notes.Got serial) = ⊥
IsNoGot note = Unit {0}

note_has : (note : Note) (past : List Moment) (wire : Terms) (t : Target) (orb : ManagementOrb) → IsNoGot note → Has orb (office_of t) → Has orb (office_of (target_by note past wire t))
note_has (notes.Begin initiators ready) past wire t orb g s = s
note_has (notes.Got serial) past wire t orb g s = absurd g
note_has (notes.Ignored serial cause) past wire t orb g s = rests t orb s
note_has (notes.TimedOut serial) past wire t orb g s = pick_has t orb s (is_serial (sender_in (wire.sent serial)) 0) (laws_replied serial Expired (over t)) (over t) (lapse_has t orb s serial (is_serial (over t).manages serial) refl) (rests t orb s)
note_has (notes.Seen node generation) past wire t orb g s =
    let b = not (generation == wire.generation 0) in pick_has t orb s (node == 0) (reset_seen b (over t)) (over t) (seen_has t orb s b) (rests t orb s)
note_has notes.Tick past wire t orb g s = subst (Has orb) (sym (ap ticked (over_keeps t))) s
note_has (notes.Key unit) past wire t orb g s = key_has t orb s (event_of past) unit
note_has (notes.Sent serial generation from to bytes) past wire t orb g s =
    let settled = taken_on None t.reply t in
    let same = subst (Has orb) (sym (taken_keeps None t.reply t)) s in
    pick_has t orb s (from == 0) (sent_as (part_of bytes) (is_write_access (access_in_bytes bytes)) serial settled) settled (sent_has (part_of bytes) (is_write_access (access_in_bytes bytes)) serial settled orb same) same
note_has (notes.Append i list orb cdb buffer) past wire t has g s = behind_has (notes.Append i list orb cdb buffer) past wire t has tt s
note_has (notes.Low i list orb) past wire t has g s = behind_has (notes.Low i list orb) past wire t has tt s
note_has (notes.Linked i list orb) past wire t has g s = behind_has (notes.Linked i list orb) past wire t has tt s
note_has (notes.Rung i list orb) past wire t has g s = behind_has (notes.Rung i list orb) past wire t has tt s
note_has (notes.Dummied i list orb) past wire t has g s = behind_has (notes.Dummied i list orb) past wire t has tt s
note_has (notes.Injected serial) past wire t has g s = behind_has (notes.Injected serial) past wire t has tt s
note_has (notes.Lost serial) past wire t has g s = behind_has (notes.Lost serial) past wire t has tt s
note_has (notes.Ran i n k unit cdb bytes check) past wire t has g s = behind_has (notes.Ran i n k unit cdb bytes check) past wire t has tt s
note_has (notes.Ended i n k status) past wire t has g s = behind_has (notes.Ended i n k status) past wire t has tt s
note_has (notes.Taken i n k status answer) past wire t has g s = behind_has (notes.Taken i n k status answer) past wire t has tt s
note_has (notes.Cut i n cause) past wire t has g s = behind_has (notes.Cut i n cause) past wire t has tt s
note_has (notes.Dead i n cause) past wire t has g s = behind_has (notes.Dead i n cause) past wire t has tt s
note_has (notes.Drop i list) past wire t has g s = behind_has (notes.Drop i list) past wire t has tt s
note_has (notes.Managed i word subject status login) past wire t has g s = behind_has (notes.Managed i word subject status login) past wire t has tt s
note_has (notes.ManageFailed i cause) past wire t has g s = behind_has (notes.ManageFailed i cause) past wire t has tt s
note_has (notes.Held id) past wire t has g s = behind_has (notes.Held id) past wire t has tt s
note_has (notes.Expired id) past wire t has g s = behind_has (notes.Expired id) past wire t has tt s
note_has (notes.Back id) past wire t has g s = behind_has (notes.Back id) past wire t has tt s
note_has (notes.Left id) past wire t has g s = behind_has (notes.Left id) past wire t has tt s
note_has (notes.Cleared unit) past wire t has g s = behind_has (notes.Cleared unit) past wire t has tt s
note_has (notes.Op i operation word) past wire t has g s = behind_has (notes.Op i operation word) past wire t has tt s
note_has (notes.Stuck i) past wire t has g s = behind_has (notes.Stuck i) past wire t has tt s
note_has (notes.Reset generation) past wire t has g s = behind_has (notes.Reset generation) past wire t has tt s
note_has (notes.Refused line number) past wire t has g s = behind_has (notes.Refused line number) past wire t has tt s
note_has notes.Settled past wire t has g s = behind_has notes.Settled past wire t has tt s
note_has notes.Stopped past wire t has g s = behind_has notes.Stopped past wire t has tt s
note_has (notes.Unsolicited i) past wire t has g s = behind_has (notes.Unsolicited i) past wire t has tt s
note_has (notes.Unsent i) past wire t has g s = behind_has (notes.Unsent i) past wire t has tt s
note_has (notes.Told i) past wire t has g s = behind_has (notes.Told i) past wire t has tt s

pub carried_orbs_law : CarriedOrbsLaw
carried_orbs_law start [] = tt
carried_orbs_law start (asked line event ∷ past) = rests (target_at start past) (last_read start past) (carried_orbs_law start past)
carried_orbs_law start (said (notes.Got serial) ∷ past) =
    let t = target_at start past in
    let w = terms past in
    subst (λ (x : Terms). Has (last_read start (said (notes.Got serial) ∷ past)) (office_of (target_by (notes.Got serial) past x t))) (sym (wire_is start past))
    (got_has t (last_read start past) (carried_orbs_law start past) (is_serial (receiver_in (w.sent serial)) 0) (answered_at w serial) w serial)
carried_orbs_law start (said note ∷ past) = note_has note past (known_at start past).wire (target_at start past) (last_read start past) tt (carried_orbs_law start past)
