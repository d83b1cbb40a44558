-- What each moment makes of the operation of the target's management, as the terms have it, and of what that asks for.
use Rattle.sbp_world.proofs.Words.Std.{arith, ◌≡◌, ◌∙◌, refl, sym, ap, subst, ℕ, nat_eq, not, Bool, true, false, cond, List, ◌∷◌, Option, Some, None, is_none, position, unwrap_or, nat_tests}
use Rattle.sbp_world.proofs.Words.Wire.{Access, Start, management_agent, no_start, register, rom_start, start_at, start_serves, Moment, asked, said, Part, Sending, part_of, request, response, Terms, terms, Cause, Event, Note, FunctionWord}
use Rattle.sbp_world.proofs.Words.Target.{Operation, Disk}
use Rattle.sbp_world.proofs.Words.Initiator.{offset_at, Answer, Expired}
use Rattle.sbp_world.proofs.Words.Laws.{access_at, access_in_bytes, answer_in, answered_at, id_for, packet_at, sender_in, Decided, Target, got_by, is_nothing, is_serial, is_write_access, key_by, over, replied, request_got, sent_as, sent_for, taken_on, target_at, wants, wants_it, event_of}
use Rattle.sbp_world.proofs.Words.World.{Office, at_rest, by_managed, by_note, cleared, office_of, placed, placed_by, office_replied, started, started_by}
use Rattle.mgmt_agent.specs.Machine as manager
use Rattle.mgmt_agent.specs.declared.operation.Phase.TheVariants as phases
use Rattle.orb_layout.specs.declared.ask.Ask.TheVariants as asks
use Rattle.sbp_journal.specs.Transactions.{no_packet}
use Rattle.sbp_journal.specs.declared.event.Event.TheVariants as events
use Rattle.sbp_journal.specs.declared.note.Note.TheVariants as notes
use Rattle.sbp_journal.specs.declared.operation.FunctionWord.TheVariants as functions
use Rattle.sbp_world.proofs.Agents.Management.Firsts.{got_here, got_there, ignored_office, lapsed_here, lapsed_there, opened_office, other_reply, other_sight, own_reply, request_keeps, rests, served_office, sight_office, tick_office}
use Rattle.sbp_world.proofs.Agents.Management.Offices.{IsBehind, note_changes, over_keeps, taken_keeps}
use Rattle.sbp_world.proofs.Lists.ManageReplies.{GoesOn, reply_goes}

abbrev pub office_at : List Disk → List Moment → Office
office_at start past = office_of (target_at start past)

-- the operation is as it was, with what it asked for or nothing; or there is none
pub data Settles (o p : Office) : Type 0 where
  stays : p.manager ≡ o.manager → p.asks ≡ o.asks → Settles o p
  rested : p.manager ≡ o.manager → p.asks ≡ asks.Nothing → Settles o p
  none_left : p.manager.operation ≡ None → p.asks ≡ asks.Nothing → Settles o p

-- and not the one that is as it was and asks for nothing any more
pub data Lingers (o p : Office) : Type 0 where
  lasts : p.manager ≡ o.manager → p.asks ≡ o.asks → Lingers o p
  fails : p.manager.operation ≡ None → p.asks ≡ asks.Nothing → Lingers o p

pub settles_of : {o p : Office} → Lingers o p → Settles o p
settles_of (lasts e f) = stays e f
settles_of (fails e f) = none_left e f

pub rest_settles : (o p : Office) → p ≡ at_rest o → Settles o p
rest_settles o p e = rested (ap (λ (x : Office). x.manager) e) (ap (λ (x : Office). x.asks) e)

-- ---- a note behind the first of a turn

placed_lingers : (place : Option ℕ) (decided : Option Decided) (id : ℕ) (o : Office) → Lingers o (placed place decided id o)
placed_lingers None decided id o = lasts refl refl
placed_lingers (Some place) None id o = lasts refl refl
placed_lingers (Some place) (Some d) id o = lasts refl refl

login_lingers : (login : Option ℕ) (o : Office) → Lingers o (placed_by login o)
login_lingers None o = lasts refl refl
login_lingers (Some id) o = placed_lingers (position is_none o.table.places) o.decided id o

word_lingers : (word : FunctionWord) (login : Option ℕ) (o : Office) → Lingers o (by_managed word login o)
word_lingers functions.Login login o = login_lingers login o
word_lingers _ login o = lasts refl refl

by_note_lingers : (note : Note) (o : Office) → Lingers o (by_note note o)
by_note_lingers (notes.ManageFailed i cause) o = fails refl refl
by_note_lingers (notes.Managed i word subject status login) o = word_lingers word login o
by_note_lingers (notes.Held id) o = lasts refl refl
by_note_lingers (notes.Back id) o = lasts refl refl
by_note_lingers (notes.Left id) o = lasts refl refl
by_note_lingers (notes.Expired id) o = lasts refl refl
by_note_lingers _ o = lasts refl refl

pub note_lingers : (start : List Disk) (note : Note) (past : List Moment) → IsBehind note → Lingers (office_at start past) (office_at start (said note ∷ past))
note_lingers start note past b =
    subst (λ p. Lingers (office_at start past) p) (sym (note_changes note past _ (target_at start past) b)) (by_note_lingers note (office_at start past))

key_same : (event : Option Event) (unit : ℕ) (t : Target) → Lingers (office_of t) (office_of (key_by event unit t))
key_same (Some (events.Key other key)) unit t = lasts refl refl
key_same event unit t = lasts refl refl

pub key_lingers : (start : List Disk) (unit : ℕ) (past : List Moment) → Lingers (office_at start past) (office_at start (said (notes.Key unit) ∷ past))
key_lingers start unit past = key_same (event_of past) unit (target_at start past)

-- ---- the first of a turn

pub line_settles : (start : List Disk) (line : ℕ) (event : Event) (past : List Moment) → Settles (office_at start past) (office_at start (asked line event ∷ past))
line_settles start line event past = rest_settles _ _ (opened_office start past line event)

pub ignored_settles : (start : List Disk) (serial : ℕ) (cause : Cause) (past : List Moment) → Settles (office_at start past) (office_at start (said (notes.Ignored serial cause) ∷ past))
ignored_settles start serial cause past = rest_settles _ _ (ignored_office start past serial cause)

pub tick_settles : (start : List Disk) (past : List Moment) → Settles (office_at start past) (office_at start (said notes.Tick ∷ past))
tick_settles start past = let e = tick_office start past in rested (ap (λ (x : Office). x.manager) e) (ap (λ (x : Office). x.asks) e)

sees_by : (b : Bool) (o p : Office) → p ≡ cond b (cleared (at_rest o)) (at_rest o) → Settles o p
sees_by true o p e = none_left (ap (λ (x : Office). x.manager.operation) e) (ap (λ (x : Office). x.asks) e)
sees_by false o p e = rested (ap (λ (x : Office). x.manager) e) (ap (λ (x : Office). x.asks) e)

pub sight_settles : (start : List Disk) (node generation : ℕ) (past : List Moment) → Settles (office_at start past) (office_at start (said (notes.Seen node generation) ∷ past))
sight_settles start node generation past = by (nat_eq node 0) refl
  where
    by : (b : Bool) → nat_eq node 0 ≡ b → Settles (office_at start past) (office_at start (said (notes.Seen node generation) ∷ past))
    by true e =
        let zero_is : 0 ≡ node = grind (arith, nat_tests) in
        subst (λ n. Settles (office_at start past) (office_at start (said (notes.Seen n generation) ∷ past))) zero_is
        (sees_by (not (nat_eq generation ((terms past).generation 0))) _ _ (sight_office start past generation))
    by false e = rest_settles _ _ (other_sight start past node generation e)

-- the target sees a later generation
pub sees_none : (start : List Disk) (generation : ℕ) (past : List Moment) → nat_eq generation ((terms past).generation 0) ≡ false → (target_at start (said (notes.Seen 0 generation) ∷ past)).manager.operation ≡ None
sees_none start generation past e =
    ap (λ (x : Office). x.manager.operation) (sight_office start past generation)
    ∙ ap (λ b. (cond (not b) (cleared (at_rest (office_at start past))) (at_rest (office_at start past))).manager.operation) e

-- ---- a reply

-- what a reply takes on
pub record Replies (o p : Office) : Type 0 where
  pub goes : (now : Operation) → p.manager.operation ≡ Some now → GoesOn o.manager.operation now

reply_by : (serial : ℕ) (answer : Answer) (t : Target) (o : Office) → office_of t ≡ at_rest o → (b : Bool) → is_serial t.manages serial ≡ b → (p : Office) → office_of (replied serial answer t) ≡ p → (A : Type 0) → (Settles o p → A) → (Replies o p → A) → A
reply_by serial answer t o e true f p g A settles replies =
    let is : p ≡ office_replied answer (at_rest o) = sym g ∙ own_reply serial answer t f ∙ ap (office_replied answer) e in
    replies (record { goes = λ now h. reply_goes o.manager o.table o.keys answer now (sym (ap (λ (x : Office). x.manager.operation) is) ∙ h) })
reply_by serial answer t o e false f p g A settles replies = settles (rest_settles o p (sym g ∙ other_reply serial answer t f ∙ e))

-- a transaction of it times out
pub timed_by : (start : List Disk) (serial : ℕ) (past : List Moment) (q : Sending) → (terms past).sent serial ≡ Some q → (A : Type 0) → (Settles (office_at start past) (office_at start (said (notes.TimedOut serial) ∷ past)) → A) → (Replies (office_at start past) (office_at start (said (notes.TimedOut serial) ∷ past)) → A) → A
timed_by start serial past q e A settles replies = by (nat_eq q.from 0) refl
  where
    by : (b : Bool) → nat_eq q.from 0 ≡ b → A
    by true f =
        let zero_is : q.from ≡ 0 = grind (arith, nat_tests) in
        let t = over (target_at start past) in
        reply_by serial Expired t (office_at start past) (over_keeps (target_at start past)) (is_serial t.manages serial) refl _ (ap office_of (sym (lapsed_here start past serial q e zero_is))) A settles replies
    by false f = settles (rest_settles _ _ (rests start past _ (lapsed_there start past serial q e f)))

-- ---- a packet is got

-- an operation is started by a request to MANAGEMENT_AGENT, where none was under way
pub record Starts (start : List Disk) (past : List Moment) (serial : ℕ) (q : Sending) : Type 0 where
  pub none_before : (target_at start past).manager.operation ≡ None
  pub access : Access
  pub asks_it : access_at (terms past) serial ≡ Some access
  pub at : start_at access.offset ≡ management_agent
  pub serves : start_serves (start_at access.offset) access ≡ true
  pub unanswered : answered_at (terms past) serial ≡ None
  pub now : (target_at start (said (notes.Got serial) ∷ past)).manager.operation ≡ Some (record { source = id_for (terms past) 0 q.from; orb = offset_at access.payload 0; phase = phases.Orb })
  pub wants : is_nothing (target_at start (said (notes.Got serial) ∷ past)).manager_asks ≡ false

pub data GotAs (start : List Disk) (past : List Moment) (serial : ℕ) (q : Sending) : Type 0 where
  got_settles : Settles (office_at start past) (office_at start (said (notes.Got serial) ∷ past)) → GotAs start past serial q
  got_replies : Replies (office_at start past) (office_at start (said (notes.Got serial) ∷ past)) → GotAs start past serial q
  got_starts : Starts start past serial q → GotAs start past serial q

-- the same with the first step of the agent
data StartsAs (m : manager.Machine) (source orb : ℕ) (o p : Office) : Type 0 where
  busy_stays : p ≡ o → StartsAs m source orb o p
  begins : m.operation ≡ None → p.manager.operation ≡ Some (record { source = source; orb = orb; phase = phases.Orb }) → is_nothing p.asks ≡ false → StartsAs m source orb o p

starts_as : (m : manager.Machine) (source orb : ℕ) (o : Office) (operation : Option Operation) → m.operation ≡ operation → StartsAs m source orb o (started_by (manager.start_with operation m source orb) o)
starts_as m source orb o None e = begins e refl refl
starts_as m source orb o (Some op) e = busy_stays refl

starts_office : (source orb : ℕ) (o : Office) → StartsAs o.manager source orb o (started source orb o)
unfolding manager.start_step
starts_office source orb o = starts_as o.manager source orb o o.manager.operation refl

module _ (start : List Disk) (past : List Moment) (serial : ℕ) (q : Sending) (sent : (terms past).sent serial ≡ Some q) where
  abbrev t : Terms
  t = terms past

  abbrev O : Office
  O = office_at start past

  abbrev now : List Moment
  now = said (notes.Got serial) ∷ past

  abbrev N : Office
  N = office_at start now

  rest_is : office_of (over (target_at start past)) ≡ at_rest O
  rest_is = over_keeps (target_at start past)

  abbrev source : ℕ
  source = id_for t 0 (unwrap_or (sender_in (t.sent serial)) 0)

  source_is : source ≡ id_for t 0 q.from
  source_is = ap (λ (found : Option Sending). id_for t 0 (unwrap_or (sender_in found) 0)) sent

  module _ (to : q.to ≡ 0) where
    here : N ≡ office_of (got_by (answered_at t serial) t serial (over (target_at start past)))
    here = ap office_of (got_here start past serial q sent to)

    by_start : (access : Access) → access_at t serial ≡ Some access → answered_at t serial ≡ None → (b : Bool) → start_serves (start_at access.offset) access ≡ b → (s : Start) → start_at access.offset ≡ s → N ≡ served_office b s source access (at_rest O) → GotAs start past serial q
    by_start access e f false g s h n = got_settles (rest_settles O N n)
    by_start access e f true g (register place name) h n = got_settles (rest_settles O N n)
    by_start access e f true g rom_start h n = got_settles (rest_settles O N n)
    by_start access e f true g no_start h n = got_settles (rest_settles O N n)
    by_start access e f true g management_agent h n = by (starts_office source (offset_at access.payload 0) (at_rest O))
      where
        by : StartsAs O.manager source (offset_at access.payload 0) (at_rest O) (started source (offset_at access.payload 0) (at_rest O)) → GotAs start past serial q
        by (busy_stays k) = got_settles (rest_settles O N (n ∙ k))
        by (begins none op wanted) = got_starts (record {
          none_before = none;
          access = access;
          asks_it = e;
          at = h;
          serves = g;
          unanswered = f;
          now = ap (λ (x : Office). x.manager.operation) n ∙ op ∙ ap (λ x. Some (record { source = x; orb = offset_at access.payload 0; phase = phases.Orb })) source_is;
          wants = ap (λ (x : Office). is_nothing x.asks) n ∙ wanted;
        })

    by_access : (found : Option Access) → access_at t serial ≡ found → answered_at t serial ≡ None → N ≡ office_of (request_got found source (over (target_at start past))) → GotAs start past serial q
    by_access None e f n = got_settles (rest_settles O N (n ∙ rest_is))
    by_access (Some access) e f n =
        by_start access e f (start_serves (start_at access.offset) access) refl (start_at access.offset) refl
        (n ∙ request_keeps access source (over (target_at start past)) ∙ ap (served_office (start_serves (start_at access.offset) access) (start_at access.offset) source access) rest_is)

    by_answer : (own : Option ℕ) → answered_at t serial ≡ own → N ≡ office_of (got_by own t serial (over (target_at start past))) → GotAs start past serial q
    by_answer (Some own) e n =
        let x = over (target_at start past) in
        reply_by own (answer_in (packet_at t serial)) x O rest_is (is_serial x.manages own) refl N (sym n) (GotAs start past serial q) got_settles got_replies
    by_answer None e n = by_access (access_at t serial) refl e n

    pub got_target : GotAs start past serial q
    got_target = by_answer (answered_at t serial) refl here

  pub got_other : nat_eq q.to 0 ≡ false → Settles O N
  got_other to = rest_settles O N (rests start past _ (got_there start past serial q sent to))

  pub got_as : GotAs start past serial q
  got_as = by (nat_eq q.to 0) refl
    where
      by : (b : Bool) → nat_eq q.to 0 ≡ b → GotAs start past serial q
      by true e = got_target (let z : q.to ≡ 0 = grind (arith, nat_tests) in z)
      by false e = got_settles (got_other e)

-- ---- a packet is sent

-- the operation is as it was, and asks for nothing that it did not ask for
pub record Sent (o p : Office) : Type 0 where
  pub manager_is : p.manager ≡ o.manager
  pub quiet : is_nothing o.asks ≡ true → is_nothing p.asks ≡ true

for_sent : (place : Option ℕ) (b : Bool) (serial : ℕ) (t : Target) → Sent (office_of t) (office_of (sent_for place b serial t))
for_sent (Some place) b serial t = record { manager_is = refl; quiet = λ e. e }
for_sent None b serial t = by (wants t.manager_asks b) refl
  where
    by : (c : Bool) → wants t.manager_asks b ≡ c → Sent (office_of t) (office_of (cond c (record t { manages = Some serial; manager_asks = asks.Nothing }) (record t { pushes = serial ∷ t.pushes })))
    by true e = record { manager_is = refl; quiet = λ f. refl }
    by false e = record { manager_is = refl; quiet = λ f. f }

part_sent : (part : Part) (b : Bool) (serial : ℕ) (t : Target) → Sent (office_of t) (office_of (sent_as part b serial t))
part_sent (request label kind) b serial t = for_sent (position (wants_it b) t.agents) b serial t
part_sent (response label kind) b serial t = record { manager_is = refl; quiet = λ e. e }
part_sent no_packet b serial t = record { manager_is = refl; quiet = λ e. e }

pub sent_office : (start : List Disk) (serial generation from to : ℕ) (bytes : List ℕ) (past : List Moment) → Sent (office_at start past) (office_at start (said (notes.Sent serial generation from to bytes) ∷ past))
sent_office start serial generation from to bytes past = by (nat_eq from 0)
  where
    t : Target
    t = target_at start past

    settled : Target
    settled = taken_on None t.reply t

    is_it : office_of settled ≡ office_of t
    is_it = taken_keeps None t.reply t

    by : (b : Bool) → Sent (office_of t) (office_of (cond b (sent_as (part_of bytes) (is_write_access (access_in_bytes bytes)) serial settled) settled))
    by true = subst (λ o. Sent o (office_of (sent_as (part_of bytes) (is_write_access (access_in_bytes bytes)) serial settled))) is_it (part_sent (part_of bytes) (is_write_access (access_in_bytes bytes)) serial settled)
    by false = record { manager_is = ap (λ (o : Office). o.manager) is_it; quiet = λ e. ap (λ (o : Office). is_nothing o.asks) is_it ∙ e }
