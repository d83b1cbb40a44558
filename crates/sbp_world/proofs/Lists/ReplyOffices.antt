-- The operation of the target and the request that it waits for, over the notes of a turn: they are as they were, unless the turn begins with the answer to that request
-- or with a write that starts an operation; and the packets of a turn that begins with neither are none of an operation's.
use Rattle.sbp_world.proofs.Words.Std.{arith, ◌≡◌, ◌∙◌, refl, sym, ap, subst, ◌⊎◌, inl, inr, ℕ, zero, suc, ◌<◌, not, nat_eq, Bool, true, false, cond, List, [], ◌∷◌, ◌++◌, map, Option, Some, None, is_none, position, unwrap_or, nat_tests}
use Rattle.sbp_world.proofs.Words.Wire.{Access, Start, management_agent, no_start, register, rom_start, start_at, start_serves, Moment, asked, said, Part, Sending, part_of, request, response, writing, Terms, terms, Cause, Event, Note, FunctionWord}
use Rattle.sbp_world.proofs.Words.Target.{Operation, Disk}
use Rattle.sbp_world.proofs.Words.Initiator.{Ask, offset_at, Expired}
use Rattle.sbp_world.proofs.Words.Laws.{access_at, access_in_bytes, answer_in, answered_at, id_for, packet_at, sender_in, Decided, Target, got_by, is_serial, is_write_access, key_by, over, replied, request_got, sent_as, sent_for, taken_on, target_at, wants, wants_it, event_of}
use Rattle.sbp_world.proofs.Words.World.{Office, at_rest, by_managed, by_note, cleared, office_of, placed, placed_by, office_replied, started, started_by, AllOf}
use Rattle.mgmt_agent.specs.Machine.{Machine}
use Rattle.mgmt_agent.specs.Machine as manager
use Rattle.orb_layout.specs.declared.ask.Ask.TheVariants as asks
use Rattle.sbp_journal.specs.Transactions.{no_packet}
use Rattle.sbp_journal.specs.declared.event.Event.TheVariants as events
use Rattle.sbp_journal.specs.declared.note.Note.TheVariants as notes
use Rattle.sbp_journal.specs.declared.operation.FunctionWord.TheVariants as functions
use Rattle.sbp_world.proofs.Agents.Management.Firsts.{got_here, got_there, ignored_office, lapsed_here, lapsed_there, opened_office, other_reply, other_sight, own_reply, request_keeps, rests, served_office, sight_office, tick_office}
use Rattle.sbp_world.proofs.Agents.Management.Offices.{IsBehind, note_changes, over_keeps, taken_keeps}
use Rattle.sbp_world.proofs.Sessions.Decisions.{expired_over}
use Rattle.sbp_world.proofs.Lists.LiveTold.{is_behind, is_first, is_own_packet}
use Rattle.sbp_world.proofs.Lists.ManageMoments.{MayHand, TakeFacts}
use Rattle.sbp_world.proofs.Lists.ManageOffices.{office_at, sent_office}
use Rattle.sbp_world.proofs.Lists.ManageReplies.{GoesOn, reply_goes}
use Rattle.sbp_world.proofs.Lists.ManageTerms.{none_is}
use Rattle.sbp_world.proofs.Common.{untrue, serial_is}

-- the operation and its request are as they were, and it asks for nothing where it did so; or there is none
pub data Stays (o p : Office) : Type 0 where
  same : p.manager ≡ o.manager → p.manages ≡ o.manages → (o.asks ≡ asks.Nothing → p.asks ≡ asks.Nothing) → Stays o p
  gone : p.manager.operation ≡ None → Stays o p

pub stays_self : (o : Office) → Stays o o
stays_self o = same refl refl (λ e. e)

pub stays_then : {a b c : Office} → Stays a b → Stays b c → Stays a c
stays_then (same e f q) (same g h r) = same (g ∙ e) (h ∙ f) (λ x. r (q x))
stays_then (gone e) (same g h r) = gone (ap (λ (m : Machine). m.operation) g ∙ e)
stays_then s (gone e) = gone e

rest_stays : (o p : Office) → p ≡ at_rest o → Stays o p
rest_stays o p e = same (ap (λ (x : Office). x.manager) e) (ap (λ (x : Office). x.manages) e) (λ x. ap (λ (x : Office). x.asks) e)

-- ---- a note behind the first of a turn

placed_stays : (place : Option ℕ) (decided : Option Decided) (id : ℕ) (o : Office) → Stays o (placed place decided id o)
placed_stays None decided id o = stays_self o
placed_stays (Some place) None id o = stays_self o
placed_stays (Some place) (Some d) id o = same refl refl (λ e. e)

login_stays : (login : Option ℕ) (o : Office) → Stays o (placed_by login o)
login_stays None o = stays_self o
login_stays (Some id) o = placed_stays (position is_none o.table.places) o.decided id o

word_stays : (word : FunctionWord) (login : Option ℕ) (o : Office) → Stays o (by_managed word login o)
word_stays functions.Login login o = login_stays login o
word_stays _ login o = stays_self o

by_note_stays : (note : Note) (o : Office) → Stays o (by_note note o)
by_note_stays (notes.ManageFailed i cause) o = gone refl
by_note_stays (notes.Managed i word subject status login) o = word_stays word login o
by_note_stays (notes.Held id) o = same refl refl (λ e. e)
by_note_stays (notes.Back id) o = same refl refl (λ e. e)
by_note_stays (notes.Left id) o = same refl refl (λ e. e)
by_note_stays (notes.Expired id) o = same refl refl (λ e. e)
by_note_stays _ o = stays_self o

by_key : (event : Option Event) (unit : ℕ) (t : Target) → Stays (office_of t) (office_of (key_by event unit t))
by_key (Some (events.Key other key)) unit t = same refl refl (λ e. e)
by_key event unit t = stays_self (office_of t)

pub key_stays : (start : List Disk) (unit : ℕ) (past : List Moment) → Stays (office_at start past) (office_at start (said (notes.Key unit) ∷ past))
key_stays start unit past = by_key (event_of past) unit (target_at start past)

behind_stays : (start : List Disk) (note : Note) (past : List Moment) → IsBehind note → Stays (office_at start past) (office_at start (said note ∷ past))
behind_stays start note past b = subst (λ p. Stays (office_at start past) p) (sym (note_changes note past _ (target_at start past) b)) (by_note_stays note (office_at start past))

pub note_stays : (start : List Disk) (note : Note) (past : List Moment) → is_behind note ≡ true → Stays (office_at start past) (office_at start (said note ∷ past))
note_stays start (notes.Begin initiators ready) past e = untrue e
note_stays start (notes.Sent serial generation from to bytes) past e = untrue e
note_stays start (notes.Got serial) past e = untrue e
note_stays start (notes.Ignored serial cause) past e = untrue e
note_stays start (notes.TimedOut serial) past e = untrue e
note_stays start (notes.Seen node generation) past e = untrue e
note_stays start notes.Tick past e = untrue e
note_stays start (notes.Key unit) past e = key_stays start unit past
note_stays start note past e = behind_stays start note past tt

pub told_stays : (start : List Disk) (ns : List Note) (base : List Moment) → AllOf is_behind ns → Stays (office_at start base) (office_at start (map said ns ++ base))
told_stays start [] base b = stays_self (office_at start base)
told_stays start (note ∷ ns) base b = stays_then (told_stays start ns base b.1) (note_stays start note (map said ns ++ base) b.0)

-- ---- a line begins

pub line_stays : (start : List Disk) (line : ℕ) (event : Event) (past : List Moment) → Stays (office_at start past) (office_at start (asked line event ∷ past))
line_stays start line event past = rest_stays _ _ (opened_office start past line event)

-- ---- the first note of a turn

pub record Rested (o p : Office) : Type 0 where
  pub manager_is : p.manager ≡ o.manager
  pub manages_is : p.manages ≡ o.manages
  pub asks_is : p.asks ≡ asks.Nothing

rested_of : (o p : Office) → p ≡ at_rest o → Rested o p
rested_of o p e = record { manager_is = ap (λ (x : Office). x.manager) e; manages_is = ap (λ (x : Office). x.manages) e; asks_is = ap (λ (x : Office). x.asks) e }

-- what it does: the answer to what the operation waits for was got for a packet that was judged
pub data Opens (start : List Disk) (i : ℕ) (base : List Moment) (note : Note) : Type 0 where
  rested : Rested (office_at start base) (office_at start (said note ∷ base)) → Opens start i base note
  emptied : (target_at start (said note ∷ base)).manager.operation ≡ None → Opens start i base note
  keys : (unit : ℕ) → note ≡ notes.Key unit → Stays (office_at start base) (office_at start (said note ∷ base)) → Opens start i base note
  answered : (own : ℕ) → (target_at start base).manages ≡ Some own → ((op : Operation) → (target_at start (said note ∷ base)).manager.operation ≡ Some op → GoesOn (target_at start base).manager.operation op) → ((asking : Sending) → (terms base).sent own ≡ Some asking → asking.to ≡ suc i → (l : ℕ) → part_of asking.bytes ≡ request l writing → 0 < (terms base).news own) → Opens start i base note
  begun : (target_at start base).manager.operation ≡ None → Opens start i base note

pub start_same : (m : Machine) (source orb : ℕ) (o : Office) (operation : Option Operation) → m.operation ≡ operation → (started_by (manager.start_with operation m source orb) o ≡ o) ⊎ (m.operation ≡ None)
start_same m source orb o None e = inr e
start_same m source orb o (Some op) e = inl refl

pub starts_same : (source orb : ℕ) (o : Office) → (started source orb o ≡ o) ⊎ (o.manager.operation ≡ None)
unfolding manager.start_step
starts_same source orb o = start_same o.manager source orb o o.manager.operation refl

module _ (start : List Disk) (i : ℕ) (base : List Moment) where
  abbrev T : Target
  T = target_at start base

  abbrev O : Office
  O = office_at start base

  rest_is : office_of (over T) ≡ at_rest O
  rest_is = over_keeps T

  module _ (serial : ℕ) (f : TakeFacts start base i serial) where
    abbrev t : Terms
    t = terms base

    abbrev got : Note
    got = notes.Got serial

    abbrev N : Office
    N = office_at start (said got ∷ base)

    module _ (to : f.packet.to ≡ 0) where
      here : N ≡ office_of (got_by (answered_at t serial) t serial (over T))
      here = ap office_of (got_here start base serial f.packet f.facts.sent to)

      by_reply : (own : ℕ) → answered_at t serial ≡ Some own → N ≡ office_of (replied own (answer_in (packet_at t serial)) (over T)) → (b : Bool) → is_serial (over T).manages own ≡ b → Opens start i base got
      by_reply own a n true e =
          let is : N ≡ office_replied (answer_in (packet_at t serial)) (at_rest O) = n ∙ own_reply own (answer_in (packet_at t serial)) (over T) e ∙ ap (office_replied (answer_in (packet_at t serial))) rest_is in
          answered own (sym (ap (λ (x : Office). x.manages) rest_is) ∙ serial_is (over T).manages own e)
          (λ op h. reply_goes O.manager O.table O.keys (answer_in (packet_at t serial)) op (sym (ap (λ (x : Office). x.manager.operation) is) ∙ h))
          (f.replied to own a)
      by_reply own a n false e = rested (rested_of O N (n ∙ other_reply own (answer_in (packet_at t serial)) (over T) e ∙ rest_is))

      by_start : (b : Bool) (s : Start) (source : ℕ) (access : Access) → N ≡ served_office b s source access (at_rest O) → Opens start i base got
      by_start false s source access n = rested (rested_of O N n)
      by_start true (register place name) source access n = rested (rested_of O N n)
      by_start true rom_start source access n = rested (rested_of O N n)
      by_start true no_start source access n = rested (rested_of O N n)
      by_start true management_agent source access n = by (starts_same source (offset_at access.payload 0) (at_rest O))
        where
          by : (started source (offset_at access.payload 0) (at_rest O) ≡ at_rest O) ⊎ ((at_rest O).manager.operation ≡ None) → Opens start i base got
          by (inl e) = rested (rested_of O N (n ∙ e))
          by (inr e) = begun e

      by_access : (found : Option Access) (source : ℕ) → N ≡ office_of (request_got found source (over T)) → Opens start i base got
      by_access None source n = rested (rested_of O N (n ∙ rest_is))
      by_access (Some access) source n =
          by_start (start_serves (start_at access.offset) access) (start_at access.offset) source access
          (n ∙ request_keeps access source (over T) ∙ ap (served_office (start_serves (start_at access.offset) access) (start_at access.offset) source access) rest_is)

      by_answer : (own : Option ℕ) → answered_at t serial ≡ own → N ≡ office_of (got_by own t serial (over T)) → Opens start i base got
      by_answer (Some own) e n = by_reply own e n (is_serial (over T).manages own) refl
      by_answer None e n = by_access (access_at t serial) (id_for t 0 (unwrap_or (sender_in (t.sent serial)) 0)) n

    got_opens : Opens start i base got
    got_opens = by (nat_eq f.packet.to 0) refl
      where
        by : (b : Bool) → nat_eq f.packet.to 0 ≡ b → Opens start i base got
        by true e = let to : f.packet.to ≡ 0 = grind (arith, nat_tests) in by_answer to (answered_at t serial) refl (here to)
        by false e = rested (rested_of O N (rests start base _ (got_there start base serial f.packet f.facts.sent e)))

  module _ (serial : ℕ) (q : Sending) (sent : (terms base).sent serial ≡ Some q) where
    abbrev late : Note
    late = notes.TimedOut serial

    abbrev L : Office
    L = office_at start (said late ∷ base)

    late_by : L ≡ office_of (replied serial Expired (over T)) → (b : Bool) → is_serial (over T).manages serial ≡ b → Opens start i base late
    late_by n true e =
        let is : L ≡ office_replied Expired (at_rest O) = n ∙ own_reply serial Expired (over T) e ∙ ap (office_replied Expired) rest_is in
        emptied (ap (λ (x : Office). x.manager.operation) is ∙ expired_over O.manager O.table O.keys)
    late_by n false e = rested (rested_of O L (n ∙ other_reply serial Expired (over T) e ∙ rest_is))

    late_opens : Opens start i base late
    late_opens = by (nat_eq q.from 0) refl
      where
        by : (b : Bool) → nat_eq q.from 0 ≡ b → Opens start i base late
        by true e = let from : q.from ≡ 0 = grind (arith, nat_tests) in late_by (ap office_of (lapsed_here start base serial q sent from)) (is_serial (over T).manages serial) refl
        by false e = rested (rested_of O L (rests start base _ (lapsed_there start base serial q sent e)))

  sees_by : (generation : ℕ) (b : Bool) → office_at start (said (notes.Seen 0 generation) ∷ base) ≡ cond b (cleared (at_rest O)) (at_rest O) → Opens start i base (notes.Seen 0 generation)
  sees_by generation true e = emptied (ap (λ (x : Office). x.manager.operation) e)
  sees_by generation false e = rested (rested_of O _ e)

  pub note_opens : (note : Note) → is_first note ≡ true → MayHand start i (said note) base → Opens start i base note
  note_opens (notes.Got serial) e h = got_opens serial h
  note_opens (notes.Ignored serial cause) e h = rested (rested_of O _ (ignored_office start base serial cause))
  note_opens (notes.TimedOut serial) e h = late_opens serial h.packet h.sent
  note_opens (notes.Seen zero generation) e h = sees_by generation (not (nat_eq generation ((terms base).generation 0))) (sight_office start base generation)
  note_opens (notes.Seen (suc node) generation) e h = untrue e
  note_opens notes.Tick e h =
      let x = tick_office start base in
      rested (record { manager_is = ap (λ (x : Office). x.manager) x; manages_is = ap (λ (x : Office). x.manages) x; asks_is = ap (λ (x : Office). x.asks) x })
  note_opens (notes.Key unit) e h = keys unit refl (key_stays start unit base)
  note_opens note e h = untrue e

-- ---- the other notes of a turn that is none of the target

pub ignored_stays : (start : List Disk) (serial : ℕ) (cause : Cause) (past : List Moment) → Stays (office_at start past) (office_at start (said (notes.Ignored serial cause) ∷ past))
ignored_stays start serial cause past = rest_stays _ _ (ignored_office start past serial cause)

pub tick_stays : (start : List Disk) (past : List Moment) → Stays (office_at start past) (office_at start (said notes.Tick ∷ past))
tick_stays start past =
    let x = tick_office start past in
    same (ap (λ (x : Office). x.manager) x) (ap (λ (x : Office). x.manages) x) (λ e. ap (λ (x : Office). x.asks) x)

pub sight_stays : (start : List Disk) (node generation : ℕ) (past : List Moment) → nat_eq node 0 ≡ false → Stays (office_at start past) (office_at start (said (notes.Seen node generation) ∷ past))
sight_stays start node generation past e = rest_stays _ _ (other_sight start past node generation e)

pub got_stays : (start : List Disk) (serial : ℕ) (q : Sending) (past : List Moment) → (terms past).sent serial ≡ Some q → nat_eq q.to 0 ≡ false → Stays (office_at start past) (office_at start (said (notes.Got serial) ∷ past))
got_stays start serial q past sent e = rest_stays _ _ (rests start past _ (got_there start past serial q sent e))

pub late_stays : (start : List Disk) (serial : ℕ) (q : Sending) (past : List Moment) → (terms past).sent serial ≡ Some q → Stays (office_at start past) (office_at start (said (notes.TimedOut serial) ∷ past))
late_stays start serial q past sent = by (nat_eq q.from 0) refl
  where
    T : Target
    T = target_at start past

    O : Office
    O = office_at start past

    L : Office
    L = office_at start (said (notes.TimedOut serial) ∷ past)

    own : L ≡ office_of (replied serial Expired (over T)) → (b : Bool) → is_serial (over T).manages serial ≡ b → Stays O L
    own n true e =
        let is : L ≡ office_replied Expired (at_rest O) = n ∙ own_reply serial Expired (over T) e ∙ ap (office_replied Expired) (over_keeps T) in
        gone (ap (λ (x : Office). x.manager.operation) is ∙ expired_over O.manager O.table O.keys)
    own n false e = rest_stays O L (n ∙ other_reply serial Expired (over T) e ∙ over_keeps T)

    by : (b : Bool) → nat_eq q.from 0 ≡ b → Stays O L
    by true e = let from : q.from ≡ 0 = grind (arith, nat_tests) in own (ap office_of (lapsed_here start past serial q sent from)) (is_serial (over T).manages serial) refl
    by false e = rest_stays O L (rests start past _ (lapsed_there start past serial q sent e))

pub other_sent : (start : List Disk) (serial generation j to : ℕ) (bytes : List ℕ) (past : List Moment) → Stays (office_at start past) (office_at start (said (notes.Sent serial generation (suc j) to bytes) ∷ past))
other_sent start serial generation j to bytes past = by (nat_eq (suc j) 0) (let x : nat_eq (suc j) 0 ≡ false = grind (arith, nat_tests) in x)
  where
    t : Target
    t = target_at start past

    settled : Target
    settled = taken_on None t.reply t

    is_it : office_of settled ≡ office_of t
    is_it = taken_keeps None t.reply t

    by : (b : Bool) → b ≡ false → Stays (office_of t) (office_of (cond b (sent_as (part_of bytes) (is_write_access (access_in_bytes bytes)) serial settled) settled))
    by true e = untrue (sym e)
    by false e = same (ap (λ (o : Office). o.manager) is_it) (ap (λ (o : Office). o.manages) is_it) (λ x. ap (λ (o : Office). o.asks) is_it ∙ x)

-- ---- packets

-- where the operation asks for nothing, a packet is none of it
quiet_for : (place : Option ℕ) (b : Bool) (serial : ℕ) (t : Target) → t.manager_asks ≡ asks.Nothing → office_of (sent_for place b serial t) ≡ office_of t
quiet_for (Some place) b serial t e = refl
quiet_for None b serial t e = by (wants t.manager_asks b) (ap (λ (a : Ask). wants a b) e)
  where
    by : (c : Bool) → c ≡ false → office_of (cond c (record t { manages = Some serial; manager_asks = asks.Nothing }) (record t { pushes = serial ∷ t.pushes })) ≡ office_of t
    by true f = untrue (sym f)
    by false f = refl

quiet_part : (part : Part) (b : Bool) (serial : ℕ) (t : Target) → t.manager_asks ≡ asks.Nothing → office_of (sent_as part b serial t) ≡ office_of t
quiet_part (request label kind) b serial t e = quiet_for (position (wants_it b) t.agents) b serial t e
quiet_part (response label kind) b serial t e = refl
quiet_part no_packet b serial t e = refl

pub quiet_sent : (start : List Disk) (serial generation to : ℕ) (bytes : List ℕ) (past : List Moment) → (target_at start past).manager_asks ≡ asks.Nothing → office_at start (said (notes.Sent serial generation 0 to bytes) ∷ past) ≡ office_at start past
quiet_sent start serial generation to bytes past e =
    let t = target_at start past in
    let is = taken_keeps None t.reply t in
    quiet_part (part_of bytes) (is_write_access (access_in_bytes bytes)) serial (taken_on None t.reply t) (ap (λ (o : Office). o.asks) is ∙ e) ∙ is

pub quiet_sends : (start : List Disk) (ns : List Note) (base : List Moment) → AllOf is_own_packet ns → (target_at start base).manager_asks ≡ asks.Nothing → office_at start (map said ns ++ base) ≡ office_at start base
quiet_sends start [] base p e = refl
quiet_sends start (notes.Sent serial generation zero to bytes ∷ ns) base p e =
    let x = quiet_sends start ns base p.1 e in
    quiet_sent start serial generation to bytes (map said ns ++ base) (ap (λ (o : Office). o.asks) x ∙ e) ∙ x
quiet_sends start (notes.Sent serial generation (suc j) to bytes ∷ ns) base p e = untrue p.0
quiet_sends start (note ∷ ns) base p e = untrue p.0

-- and the operation is as it was
pub sends_manager : (start : List Disk) (ns : List Note) (base : List Moment) → AllOf is_own_packet ns → (target_at start (map said ns ++ base)).manager ≡ (target_at start base).manager
sends_manager start [] base p = refl
sends_manager start (notes.Sent serial generation zero to bytes ∷ ns) base p = (sent_office start serial generation 0 to bytes (map said ns ++ base)).manager_is ∙ sends_manager start ns base p.1
sends_manager start (notes.Sent serial generation (suc j) to bytes ∷ ns) base p = untrue p.0
sends_manager start (note ∷ ns) base p = untrue p.0

-- ---- a turn of the target

pub data Ends (start : List Disk) (i : ℕ) (base now : List Moment) : Type 0 where
  stays : Stays (office_at start base) (office_at start now) → Ends start i base now
  answers : (own : ℕ) → (target_at start base).manages ≡ Some own → ((op : Operation) → (target_at start now).manager.operation ≡ Some op → GoesOn (target_at start base).manager.operation op) → ((asking : Sending) → (terms base).sent own ≡ Some asking → asking.to ≡ suc i → (l : ℕ) → part_of asking.bytes ≡ request l writing → 0 < (terms base).news own) → Ends start i base now
  begins : (target_at start base).manager.operation ≡ None → Ends start i base now

module _ (start : List Disk) (i : ℕ) (base : List Moment) (sends told : List Note) (are_sent : AllOf is_own_packet sends) (are_told : AllOf is_behind told) (note : Note) where
  abbrev opened : List Moment
  opened = said note ∷ base

  abbrev mid : List Moment
  mid = map said told ++ opened

  abbrev now : List Moment
  now = map said sends ++ mid

  manager_now : (target_at start now).manager ≡ (target_at start mid).manager
  manager_now = sends_manager start sends mid are_sent

  quiet_end : (e : (target_at start mid).manager_asks ≡ asks.Nothing) → office_at start now ≡ office_at start mid
  quiet_end e = quiet_sends start sends mid are_sent e

  rested_end : Rested (office_at start base) (office_at start opened) → Stays (office_at start opened) (office_at start mid) → Stays (office_at start base) (office_at start now)
  rested_end r (same e f q) =
      let x = quiet_end (q r.asks_is) in
      same (manager_now ∙ e ∙ r.manager_is) (ap (λ (o : Office). o.manages) x ∙ f ∙ r.manages_is) (λ y. ap (λ (o : Office). o.asks) x ∙ q r.asks_is)
  rested_end r (gone e) = gone (ap (λ (m : Machine). m.operation) manager_now ∙ e)

  none_end : (target_at start opened).manager.operation ≡ None → Stays (office_at start opened) (office_at start mid) → (target_at start now).manager.operation ≡ None
  none_end n (same e f q) = ap (λ (m : Machine). m.operation) (manager_now ∙ e) ∙ n
  none_end n (gone e) = ap (λ (m : Machine). m.operation) manager_now ∙ e

  was_opened : (op : Operation) → (target_at start now).manager.operation ≡ Some op → Stays (office_at start opened) (office_at start mid) → (target_at start opened).manager.operation ≡ Some op
  was_opened op is (same e f q) = sym (ap (λ (m : Machine). m.operation) (manager_now ∙ e)) ∙ is
  was_opened op is (gone e) = none_is op (sym (ap (λ (m : Machine). m.operation) manager_now ∙ e) ∙ is)

  keyed_end : Stays (office_at start opened) (office_at start mid) → sends ≡ [] → Stays (office_at start opened) (office_at start now)
  keyed_end s e = subst (λ (ns : List Note). Stays (office_at start opened) (office_at start (map said ns ++ mid))) (sym e) s

  module _ (keyed : (unit : ℕ) → note ≡ notes.Key unit → sends ≡ []) where
    ends_by : Opens start i base note → Ends start i base now
    ends_by (rested r) = stays (rested_end r (told_stays start told opened are_told))
    ends_by (emptied e) = stays (gone (none_end e (told_stays start told opened are_told)))
    ends_by (keys unit e s) = stays (stays_then s (keyed_end (told_stays start told opened are_told) (keyed unit e)))
    ends_by (answered own m g j) = answers own m (λ op is. g op (was_opened op is (told_stays start told opened are_told))) j
    ends_by (begun e) = begins e

    pub ends : is_first note ≡ true → MayHand start i (said note) base → Ends start i base now
    ends e h = ends_by (note_opens start i base note e h)
