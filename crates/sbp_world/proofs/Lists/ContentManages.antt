-- The request of an operation of the management, by the history alone: the latest packet that was sent for it as it is; it is so from then on until the
-- packet is answered or the operation fails.
use Rattle.sbp_world.proofs.Words.Std.{arith, ◌≡◌, ◌∙◌, refl, sym, ap, subst, ℕ, zero, ◌+◌, ◌≤◌, ◌==◌, ◌&&◌, nat_eq, not, Bool, true, false, cond, List, [], ◌∷◌, ◌++◌, Option, Some, None, is_none, position, unwrap_or, nat_tests, same_Some, none-some}
use Rattle.sbp_world.proofs.Words.Wire.{SerialsCount, Access, Start, management_agent, no_start, register, rom_start, start_at, start_serves, Event, Note, FunctionWord, Moment, asked, said, Part, part_of, request, response, Terms, terms}
use Rattle.sbp_world.proofs.Words.Target.{Operation, start_step, start_with, Disk}
use Rattle.sbp_world.proofs.Words.Initiator.{Nothing, offset_at, Answer, Expired}
use Rattle.sbp_world.proofs.Words.Laws.{access_at, access_in_bytes, answer_in, answered_at, id_for, packet_at, receiver_in, sender_in, Decided, Target, got_by, is_nothing, is_serial, is_write_access, key_by, known_at, over, laws_replied, request_got, reset_seen, sent_as, sent_for, taken_on, target_at, target_by, wants, wants_it, event_of}
use Rattle.sbp_world.proofs.Words.World.{Office, at_rest, by_managed, by_note, office_of, placed, placed_by, replied, started, started_by, ticked, is_its_packet, managed_for, operation_if}
use Rattle.mgmt_agent.specs.Machine.{Machine}
use Rattle.sbp_journal.specs.declared.event.Event.TheVariants as events
use Rattle.sbp_journal.specs.declared.note.Note.TheVariants as notes
use Rattle.sbp_journal.specs.declared.operation.FunctionWord.TheVariants as functions
use Rattle.sbp_journal.specs.Transactions.{no_packet}
use Rattle.sbp_world.proofs.Agents.Management.Firsts.{other_reply, own_reply, request_keeps, served_office, start_office}
use Rattle.sbp_world.proofs.Agents.Management.Offices.{IsBehind, note_changes, over_keeps, taken_keeps}
use Rattle.sbp_world.proofs.Hosts.Remaining.{remains, serials_behind}
use Rattle.sbp_world.proofs.Hosts.SentMoments.{count_now}
use Rattle.sbp_world.proofs.Lists.ContentPhases.{sits}
use Rattle.sbp_world.proofs.Lists.MainStays.{wanted as wants_some}
use Rattle.sbp_world.proofs.Common.{untrue}

-- ---- what a moment does to the operation and its request
pub data Moves (before now : Office) (m : Moment) : Type 0 where
  keeps : now.manager ≡ before.manager → now.decided ≡ before.decided → now.manages ≡ before.manages → Moves before now m
  drops : now.manages ≡ None → Moves before now m
  puts : (serial generation to : ℕ) (bytes : List ℕ) → m ≡ said (notes.Sent serial generation zero to bytes) → now.manager ≡ before.manager → now.decided ≡ before.decided → now.manages ≡ Some serial → is_nothing now.asks ≡ true → is_nothing before.asks ≡ false → Moves before now m

op_is : {x y : Machine} → x ≡ y → x.operation ≡ y.operation
op_is e = ap (λ (m : Machine). m.operation) e

-- no request is that of no operation
abbrev pub Bare : Office → Type 0
Bare o = o.manager.operation ≡ None → o.manages ≡ None

module _ (before : Office) (m : Moment) where
  abbrev To : Office → Type 0
  To now = Moves before now m

  by_office : (x y : Office) → x ≡ y → To y → To x
  by_office x y e h = subst To (sym e) h

  pick_moves : (b : Bool) (x y : Target) → To (office_of x) → To (office_of y) → To (office_of (cond b x y))
  pick_moves true x y h k = h
  pick_moves false x y h k = k

-- ---- notes behind the first of a turn
placed_moves : (place : Option ℕ) (decided : Option Decided) (id : ℕ) (o : Office) (m : Moment) → Moves o (placed place decided id o) m
placed_moves None decided id o m = keeps refl refl refl
placed_moves (Some place) None id o m = keeps refl refl refl
placed_moves (Some place) (Some decided) id o m = keeps refl refl refl

entered_moves : (login : Option ℕ) (o : Office) (m : Moment) → Moves o (placed_by login o) m
entered_moves None o m = keeps refl refl refl
entered_moves (Some id) o m = placed_moves (position is_none o.table.places) o.decided id o m

managed_moves : (word : FunctionWord) (login : Option ℕ) (o : Office) (m : Moment) → Moves o (by_managed word login o) m
managed_moves functions.Login login o m = entered_moves login o m
managed_moves _ login o m = keeps refl refl refl

by_moves : (note : Note) (o : Office) (m : Moment) → Moves o (by_note note o) m
by_moves (notes.ManageFailed i cause) o m = drops refl
by_moves (notes.Managed i word subject status login) o m = managed_moves word login o m
by_moves (notes.Held id) o m = keeps refl refl refl
by_moves (notes.Back id) o m = keeps refl refl refl
by_moves (notes.Left id) o m = keeps refl refl refl
by_moves (notes.Expired id) o m = keeps refl refl refl
by_moves _ o m = keeps refl refl refl

behind_moves : (note : Note) (past : List Moment) (wire : Terms) (t : Target) → IsBehind note → Moves (office_of t) (office_of (target_by note past wire t)) (said note)
behind_moves note past wire t h = by_office (office_of t) (said note) (office_of (target_by note past wire t)) (by_note note (office_of t)) (note_changes note past wire t h) (by_moves note (office_of t) (said note))

-- ---- the first note of a turn
module _ (t : Target) (m : Moment) where
  abbrev From : Office → Type 0
  From now = Moves (office_of t) now m

  rest_moves : From (office_of (over t))
  rest_moves = by_office (office_of t) m (office_of (over t)) (at_rest (office_of t)) (over_keeps t) (keeps refl refl refl)

  replied_moves : (serial : ℕ) (answer : Answer) → From (office_of (laws_replied serial answer (over t)))
  replied_moves serial answer = by (is_serial (over t).manages serial) refl
    where
      by : (b : Bool) → is_serial (over t).manages serial ≡ b → From (office_of (laws_replied serial answer (over t)))
      by true e = by_office (office_of t) m (office_of (laws_replied serial answer (over t))) (replied answer (office_of (over t))) (own_reply serial answer (over t) e) (drops refl)
      by false e = by_office (office_of t) m (office_of (laws_replied serial answer (over t))) (office_of (over t)) (other_reply serial answer (over t) e) rest_moves

  module _ (bare : Bare (office_of t)) where
    abbrev rested : Office
    rested = at_rest (office_of t)

    started_by_it : (operation : Option Operation) → t.manager.operation ≡ operation → (source orb : ℕ) → From (started_by (start_with operation t.manager source orb) rested)
    started_by_it None e source orb = drops (bare e)
    started_by_it (Some own) e source orb = keeps refl refl refl

    started_moves : (source orb : ℕ) → From (started source orb rested)
    unfolding start_step
    started_moves source orb = started_by_it t.manager.operation refl source orb

    start_moves : (start : Start) (source : ℕ) (access : Access) → From (start_office start source access rested)
    start_moves management_agent source access = started_moves source (offset_at access.payload 0)
    start_moves (register place name) source access = keeps refl refl refl
    start_moves rom_start source access = keeps refl refl refl
    start_moves no_start source access = keeps refl refl refl

    served_moves : (b : Bool) (start : Start) (source : ℕ) (access : Access) → From (served_office b start source access rested)
    served_moves true start source access = start_moves start source access
    served_moves false start source access = keeps refl refl refl

    request_moves : (access : Option Access) (source : ℕ) → From (office_of (request_got access source (over t)))
    request_moves None source = rest_moves
    request_moves (Some access) source =
        let b = start_serves (start_at access.offset) access in
        let start = start_at access.offset in
        by_office (office_of t) m (office_of (request_got (Some access) source (over t))) (served_office b start source access rested)
        (request_keeps access source (over t) ∙ ap (λ o. served_office b start source access o) (over_keeps t))
        (served_moves b start source access)

    got_moves : (own : Option ℕ) (wire : Terms) (serial : ℕ) → From (office_of (got_by own wire serial (over t)))
    got_moves (Some own) wire serial = replied_moves own (answer_in (packet_at wire serial))
    got_moves None wire serial = request_moves (access_at wire serial) (id_for wire 0 (unwrap_or (sender_in (wire.sent serial)) 0))

  seen_moves : (b : Bool) → From (office_of (reset_seen b (over t)))
  seen_moves true = drops refl
  seen_moves false = rest_moves

  key_moves : (event : Option Event) (unit : ℕ) → From (office_of (key_by event unit t))
  key_moves None unit = keeps refl refl refl
  key_moves (Some (events.Key other key)) unit = keeps refl refl refl
  key_moves (Some (events.Begin a b)) unit = keeps refl refl refl
  key_moves (Some (events.Act a b)) unit = keeps refl refl refl
  key_moves (Some (events.Reset a)) unit = keeps refl refl refl
  key_moves (Some (events.See a)) unit = keeps refl refl refl
  key_moves (Some (events.Deliver a)) unit = keeps refl refl refl
  key_moves (Some (events.Repeat a)) unit = keeps refl refl refl
  key_moves (Some (events.Lose a)) unit = keeps refl refl refl
  key_moves (Some (events.Timeout a)) unit = keeps refl refl refl
  key_moves (Some (events.Step a)) unit = keeps refl refl refl
  key_moves (Some events.Settle) unit = keeps refl refl refl
  key_moves (Some events.Tick) unit = keeps refl refl refl
  key_moves (Some (events.Inject a b)) unit = keeps refl refl refl

-- ---- a packet

module _ (serial generation from to : ℕ) (bytes : List ℕ) (o : Office) where
  abbrev Puts : Office → Type 0
  Puts now = Moves o now (said (notes.Sent serial generation from to bytes))

  settled_puts : (t : Target) → office_of t ≡ o → Puts (office_of t)
  settled_puts t e = keeps (ap (λ (x : Office). x.manager) e) (ap (λ (x : Office). x.decided) e) (ap (λ (x : Office). x.manages) e)

  module _ (zero_from : from ≡ 0) where
    wanted : (t : Target) → office_of t ≡ o → (is_write : Bool) → (b : Bool) → wants t.manager_asks is_write ≡ b → Puts (office_of (cond b (record t { manages = Some serial; manager_asks = Nothing }) (record t { pushes = serial ∷ t.pushes })))
    wanted t e is_write true f = puts serial generation to bytes (ap (λ x. said (notes.Sent serial generation x to bytes)) zero_from) (ap (λ (x : Office). x.manager) e) (ap (λ (x : Office). x.decided) e) refl refl (ap (λ (x : Office). is_nothing x.asks) (sym e) ∙ wants_some t.manager_asks is_write f)
    wanted t e is_write false f = settled_puts t e

    for_puts : (place : Option ℕ) (is_write : Bool) (t : Target) → office_of t ≡ o → Puts (office_of (sent_for place is_write serial t))
    for_puts (Some place) is_write t e = settled_puts t e
    for_puts None is_write t e = wanted t e is_write (wants t.manager_asks is_write) refl

    as_puts : (part : Part) (is_write : Bool) (t : Target) → office_of t ≡ o → Puts (office_of (sent_as part is_write serial t))
    as_puts (request label kind) is_write t e = for_puts (position (wants_it is_write) t.agents) is_write t e
    as_puts (response label kind) is_write t e = settled_puts t e
    as_puts no_packet is_write t e = settled_puts t e

  sent_puts : (part : Part) (is_write : Bool) (t : Target) → office_of t ≡ o → (b : Bool) → (from == 0) ≡ b → Puts (office_of (cond b (sent_as part is_write serial t) t))
  sent_puts part is_write t e true f = as_puts (grind (arith, nat_tests)) part is_write t e
  sent_puts part is_write t e false f = settled_puts t e

note_moves : (note : Note) (past : List Moment) (wire : Terms) (t : Target) → Bare (office_of t) → Moves (office_of t) (office_of (target_by note past wire t)) (said note)
note_moves (notes.Begin initiators ready) past wire t b = keeps refl refl refl
note_moves (notes.Got serial) past wire t b =
    let m = said (notes.Got serial) in
    pick_moves (office_of t) m (is_serial (receiver_in (wire.sent serial)) 0) (got_by (answered_at wire serial) wire serial (over t)) (over t) (got_moves t m b (answered_at wire serial) wire serial) (rest_moves t m)
note_moves (notes.Ignored serial cause) past wire t b = rest_moves t (said (notes.Ignored serial cause))
note_moves (notes.TimedOut serial) past wire t b =
    let m = said (notes.TimedOut serial) in
    pick_moves (office_of t) m (is_serial (sender_in (wire.sent serial)) 0) (laws_replied serial Expired (over t)) (over t) (replied_moves t m serial Expired) (rest_moves t m)
note_moves (notes.Seen node generation) past wire t b =
    let m = said (notes.Seen node generation) in
    let seen = not (generation == wire.generation 0) in
    pick_moves (office_of t) m (node == 0) (reset_seen seen (over t)) (over t) (seen_moves t m seen) (rest_moves t m)
note_moves notes.Tick past wire t b = by_office (office_of t) (said notes.Tick) (office_of (target_by notes.Tick past wire t)) (ticked (at_rest (office_of t))) (ap ticked (over_keeps t)) (keeps refl refl refl)
note_moves (notes.Key unit) past wire t b = key_moves t (said (notes.Key unit)) (event_of past) unit
note_moves (notes.Sent serial generation from to bytes) past wire t b =
    sent_puts serial generation from to bytes (office_of t) (part_of bytes) (is_write_access (access_in_bytes bytes)) (taken_on None t.reply t) (taken_keeps None t.reply t) (from == 0) refl
note_moves (notes.Append i list orb cdb buffer) past wire t b = behind_moves (notes.Append i list orb cdb buffer) past wire t tt
note_moves (notes.Low i list orb) past wire t b = behind_moves (notes.Low i list orb) past wire t tt
note_moves (notes.Linked i list orb) past wire t b = behind_moves (notes.Linked i list orb) past wire t tt
note_moves (notes.Rung i list orb) past wire t b = behind_moves (notes.Rung i list orb) past wire t tt
note_moves (notes.Dummied i list orb) past wire t b = behind_moves (notes.Dummied i list orb) past wire t tt
note_moves (notes.Injected serial) past wire t b = behind_moves (notes.Injected serial) past wire t tt
note_moves (notes.Lost serial) past wire t b = behind_moves (notes.Lost serial) past wire t tt
note_moves (notes.Ran i n k unit cdb bytes check) past wire t b = behind_moves (notes.Ran i n k unit cdb bytes check) past wire t tt
note_moves (notes.Ended i n k status) past wire t b = behind_moves (notes.Ended i n k status) past wire t tt
note_moves (notes.Taken i n k status answer) past wire t b = behind_moves (notes.Taken i n k status answer) past wire t tt
note_moves (notes.Cut i n cause) past wire t b = behind_moves (notes.Cut i n cause) past wire t tt
note_moves (notes.Dead i n cause) past wire t b = behind_moves (notes.Dead i n cause) past wire t tt
note_moves (notes.Drop i list) past wire t b = behind_moves (notes.Drop i list) past wire t tt
note_moves (notes.Managed i word subject status login) past wire t b = behind_moves (notes.Managed i word subject status login) past wire t tt
note_moves (notes.ManageFailed i cause) past wire t b = behind_moves (notes.ManageFailed i cause) past wire t tt
note_moves (notes.Held id) past wire t b = behind_moves (notes.Held id) past wire t tt
note_moves (notes.Expired id) past wire t b = behind_moves (notes.Expired id) past wire t tt
note_moves (notes.Back id) past wire t b = behind_moves (notes.Back id) past wire t tt
note_moves (notes.Left id) past wire t b = behind_moves (notes.Left id) past wire t tt
note_moves (notes.Cleared unit) past wire t b = behind_moves (notes.Cleared unit) past wire t tt
note_moves (notes.Op i operation word) past wire t b = behind_moves (notes.Op i operation word) past wire t tt
note_moves (notes.Stuck i) past wire t b = behind_moves (notes.Stuck i) past wire t tt
note_moves (notes.Reset generation) past wire t b = behind_moves (notes.Reset generation) past wire t tt
note_moves (notes.Refused line number) past wire t b = behind_moves (notes.Refused line number) past wire t tt
note_moves notes.Settled past wire t b = behind_moves notes.Settled past wire t tt
note_moves notes.Stopped past wire t b = behind_moves notes.Stopped past wire t tt
note_moves (notes.Unsolicited i) past wire t b = behind_moves (notes.Unsolicited i) past wire t tt
note_moves (notes.Unsent i) past wire t b = behind_moves (notes.Unsent i) past wire t tt
note_moves (notes.Told i) past wire t b = behind_moves (notes.Told i) past wire t tt

pub its_by : (a b c : Bool) → a ≡ false → b ≡ true → c ≡ true → (not a && (b && c)) ≡ true
its_by false true true e f g = refl
its_by true b c e f g = untrue (sym e)
its_by false false c e f g = untrue f
its_by false true false e f g = untrue g

-- ---- at each moment of a history
pub record Bound (start : List Disk) (past : List Moment) : Type 0 where
  pub own : (r : ℕ) → (target_at start past).manages ≡ Some r → (managed_for start past r ≡ (target_at start past).manager.operation) × (r ≤ (terms past).count)
  pub bare : Bare (office_of (target_at start past))

module _ (start : List Disk) where
  pub moment_moves : (m : Moment) (past : List Moment) → Bare (office_of (target_at start past)) → Moves (office_of (target_at start past)) (office_of (target_at start (m ∷ past))) m
  moment_moves (asked line event) past b = rest_moves (target_at start past) (asked line event)
  moment_moves (said note) past b = note_moves note past (known_at start past).wire (target_at start past) b

  -- a packet sent before stands for the same
  pub kept_for : (m : Moment) (past : List Moment) → SerialsCount (m ∷ past) → (r : ℕ) → r ≤ (terms past).count → managed_for start (m ∷ past) r ≡ managed_for start past r
  kept_for (said (notes.Sent serial generation zero to bytes)) past c r l =
      let other : nat_eq r serial ≡ false = (let s = c.0 in grind (arith, nat_tests)) in
      ap (λ b. cond b (operation_if (is_its_packet (target_at start past) (target_at start (said (notes.Sent serial generation zero to bytes) ∷ past)) serial) (target_at start past).manager.operation) (managed_for start past r)) other
  kept_for m past c r l = refl

  bare_now : (m : Moment) (past : List Moment) → Bare (office_of (target_at start past)) → Moves (office_of (target_at start past)) (office_of (target_at start (m ∷ past))) m → Bare (office_of (target_at start (m ∷ past)))
  bare_now m past b (keeps manager decided manages) e = manages ∙ b (sym (op_is manager) ∙ e)
  bare_now m past b (drops none) e = none
  bare_now m past b (puts serial generation to bytes at manager decided manages asks some) e = untrue (sym some ∙ ap is_nothing ((sits start past).1 (sym (op_is manager) ∙ e)))

  own_now : (m : Moment) (past : List Moment) → SerialsCount (m ∷ past) → Bound start past → Moves (office_of (target_at start past)) (office_of (target_at start (m ∷ past))) m → (r : ℕ) → (target_at start (m ∷ past)).manages ≡ Some r → (managed_for start (m ∷ past) r ≡ (target_at start (m ∷ past)).manager.operation) × (r ≤ (terms (m ∷ past)).count)
  own_now m past c b (keeps manager decided manages) r e =
      let was = b.own r (sym manages ∙ e) in
      let l = was.1 in
      let k = (remains (m ∷ []) past c).count in
      (kept_for m past c r l ∙ (was.0 ∙ sym (op_is manager)), omega (arith, l, k))
  own_now m past c b (drops none) r e = absurd (none-some r (sym none ∙ e))
  own_now m past c b (puts serial generation to bytes at manager decided manages asks some) r e =
      let same : serial ≡ r = same_Some serial r (sym manages ∙ e) in
      let sent = said (notes.Sent serial generation zero to bytes) in
      let counts : SerialsCount (sent ∷ past) = subst (λ x. SerialsCount (x ∷ past)) at c in
      let is : serial ≡ (terms past).count + 1 = counts.0 in
      let counted : (terms (m ∷ past)).count ≡ (terms past).count + 1 = ap (λ x. (terms (x ∷ past)).count) at ∙ count_now past serial generation zero to bytes in (
        ap (λ x. managed_for start (x ∷ past) r) at ∙ (put past serial generation to bytes r same (ap (λ x. is_nothing (target_at start (x ∷ past)).manager_asks) (sym at) ∙ asks) (ap (λ x. (target_at start (x ∷ past)).manages) (sym at) ∙ manages) some ∙ sym (op_is manager)),
        omega (arith, same, is, counted),
      )
    where
      put : (past : List Moment) (serial generation to : ℕ) (bytes : List ℕ) (r : ℕ) → serial ≡ r → (let now = target_at start (said (notes.Sent serial generation zero to bytes) ∷ past) in is_nothing now.manager_asks ≡ true → now.manages ≡ Some serial → is_nothing (target_at start past).manager_asks ≡ false → managed_for start (said (notes.Sent serial generation zero to bytes) ∷ past) r ≡ (target_at start past).manager.operation)
      put past serial generation to bytes r same asks manages some =
          let now = target_at start (said (notes.Sent serial generation zero to bytes) ∷ past) in
          let t = target_at start past in
          let its : is_its_packet t now serial ≡ true = its_by (is_nothing t.manager_asks) (is_nothing now.manager_asks) (is_serial now.manages serial) some asks (ap (λ x. is_serial x serial) manages ∙ (let z : nat_eq serial serial ≡ true = grind arith in z)) in
          let here : nat_eq r serial ≡ true = grind (arith, nat_tests) in
          ap (λ b. cond b (operation_if (is_its_packet t now serial) t.manager.operation) (managed_for start past r)) here
          ∙ ap (λ b. operation_if b t.manager.operation) its

pub bound : (start : List Disk) (past : List Moment) → SerialsCount past → Bound start past
bound start [] c = record { own = λ r e. absurd (none-some r e); bare = λ e. refl }
bound start (m ∷ past) c =
    let b = bound start past (serials_behind m past c) in
    let moves = moment_moves start m past b.bare in
    record { own = own_now start m past c b moves; bare = bare_now start m past b.bare moves }

-- ---- back to a moment at which the packet had been sent
pub record IsSoBefore (start : List Disk) (before past : List Moment) (r : ℕ) : Type 0 where
  pub manages : (target_at start before).manages ≡ Some r
  pub operation : (target_at start before).manager.operation ≡ (target_at start past).manager.operation
  pub manager : (target_at start before).manager ≡ (target_at start past).manager
  pub decided : (target_at start before).decided ≡ (target_at start past).decided

one_back : (start : List Disk) (m : Moment) (past : List Moment) (r : ℕ) → SerialsCount (m ∷ past) → r ≤ (terms past).count → Moves (office_of (target_at start past)) (office_of (target_at start (m ∷ past))) m → (target_at start (m ∷ past)).manages ≡ Some r → IsSoBefore start past (m ∷ past) r
one_back start m past r c l (keeps manager decided manages) e = record { manages = sym manages ∙ e; operation = sym (op_is manager); manager = sym manager; decided = sym decided }
one_back start m past r c l (drops none) e = absurd (none-some r (sym none ∙ e))
one_back start m past r c l (puts serial generation to bytes at manager decided manages asks some) e =
    let same : serial ≡ r = same_Some serial r (sym manages ∙ e) in
    let counts : SerialsCount (said (notes.Sent serial generation zero to bytes) ∷ past) = subst (λ x. SerialsCount (x ∷ past)) at c in
    let is : serial ≡ (terms past).count + 1 = counts.0 in
    absurd (omega (arith, same, is, l))

pub so_before : (start : List Disk) (later before : List Moment) (r : ℕ) → SerialsCount (later ++ before) → r ≤ (terms before).count → (target_at start (later ++ before)).manages ≡ Some r → IsSoBefore start before (later ++ before) r
so_before start [] before r c l e = record { manages = e; operation = refl; manager = refl; decided = refl }
so_before start (m ∷ later) before r c l e =
    let past = later ++ before in
    let serials = serials_behind m past c in
    let k = (remains later before serials).count in
    let b = bound start past serials in
    let one = one_back start m past r c (omega (arith, k, l)) (moment_moves start m past b.bare) e in
    let more = so_before start later before r serials l one.manages in
    record { manages = more.manages; operation = more.operation ∙ one.operation; manager = more.manager ∙ one.manager; decided = more.decided ∙ one.decided }

-- as it was sent, where the management waits for it behind that
abbrev pub SameDecided : Target → Target → Type 0
SameDecided t u = (t.manager ≡ u.manager) × (t.decided ≡ u.decided)

decided_back : (m : Moment) (t u : Target) (r : ℕ) → u.manages ≡ Some r → Moves (office_of t) (office_of u) m → SameDecided t u
decided_back m t u r e (keeps manager decided manages) = (sym manager, sym decided)
decided_back m t u r e (drops none) = absurd (none-some r (sym none ∙ e))
decided_back m t u r e (puts serial other node content at manager decided manages asks some) = (sym manager, sym decided)

pub sent_back : (start : List Disk) (m : Moment) (past : List Moment) (r : ℕ) → SerialsCount (m ∷ past) → (target_at start (m ∷ past)).manages ≡ Some r → SameDecided (target_at start past) (target_at start (m ∷ past))
sent_back start m past r c e =
    decided_back m (target_at start past) (target_at start (m ∷ past)) r e (moment_moves start m past (bound start past (serials_behind m past c)).bare)
