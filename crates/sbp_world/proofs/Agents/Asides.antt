-- What leaves the agents of the terms alone.
use Rattle.sbp_world.proofs.Words.Std.{arith, ◌≡◌, ◌∙◌, refl, sym, ap, ℕ, ◌<◌, nat_eq, not, false, cond, List, [], ◌∷◌, Option, Some, None, nat_tests}
use Rattle.sbp_world.proofs.Words.Wire.{Moment, part_of, Terms, Event, Note}
use Rattle.sbp_world.proofs.Words.Target.{Ahead, lost_step}
use Rattle.sbp_world.proofs.Words.Initiator.{Ask, Nothing, Read, Write, Expired}
use Rattle.sbp_world.proofs.Words.Laws.{access_in_bytes, answered_at, receiver_in, sender_in, Agent, Reply, Target, agent_over, going_on, got_by, is_nothing, is_serial, is_write_access, key_by, main_lost, over, replied, reset_seen, sent_as, taken_on, target_by, event_of}
use Rattle.sbp_world.proofs.Words.World.{AsidesLaw, MayGoOn, crew_over}
use Rattle.orb_layout.specs.declared.ask.FailCause.TheVariants as causes
use Rattle.sbp_journal.specs.declared.event.Event.TheVariants as events
use Rattle.sbp_journal.specs.declared.note.Note.TheVariants as notes
use Rattle.sbp_laws.proofs.Going.{TellsNone, going_rests, quiet_on, taken_rests}
use Rattle.sbp_world.specs.Agents.Asides.{IsAside}
use Rattle.sbp_world.proofs.Agents.Follows.{over_idle}
use Rattle.sbp_world.proofs.Agents.Notes.{notes_law}

-- ---- the end of a turn, twice
ahead_none : (ask : Ask) (a : Agent) → a.asks_ahead ≡ ask → (cond (is_nothing ask) a (record a { machine = (lost_step a.machine Ahead causes.Label).1; asks_ahead = Nothing })).asks_ahead ≡ Nothing
ahead_none Nothing a e = e
ahead_none (Read offset len) a e = refl
ahead_none (Write offset len) a e = refl

pub one_twice : (a : Agent) → agent_over (agent_over a) ≡ agent_over a
one_twice a = over_idle (agent_over a) refl (ahead_none (main_lost a).asks_ahead (main_lost a) refl)

crew_twice : (agents : List Agent) → crew_over (crew_over agents) ≡ crew_over agents
crew_twice [] = refl
crew_twice (a ∷ agents) = ap (λ x. x ∷ crew_over (crew_over agents)) (one_twice a) ∙ ap (λ xs. agent_over a ∷ xs) (crew_twice agents)

pub over_none : (t : Target) → (over t).reply ≡ None
over_none t = taken_rests None t.reply t refl

twice : (t : Target) → (over (over t)).agents ≡ (over t).agents
twice t = notes_law.ends (over t) (over_none t) ∙ crew_twice (taken_on None t.reply t).agents

-- a target with the agents of one whose turn is over
over_as : (t now : Target) → now.agents ≡ (over t).agents → now.reply ≡ None → (over now).agents ≡ (over t).agents
over_as t now e n = notes_law.ends now n ∙ ap crew_over e ∙ crew_twice (taken_on None t.reply t).agents

-- and with those of one whose reply has taken its agent on
taken_as : (t now : Target) → now.agents ≡ (taken_on None t.reply t).agents → now.reply ≡ None → (over now).agents ≡ (over t).agents
taken_as t now e n = notes_law.ends now n ∙ ap crew_over e

-- ---- a note that tells of no run
goes : (note : Note) (t : Target) → TellsNone note → (over (going_on note t)).agents ≡ (over t).agents
goes note t n = taken_as t (going_on note t) (ap (λ (x : Target). x.agents) (quiet_on note n t)) (going_rests note t)

-- ---- a key
keyed : (event : Option Event) (unit : ℕ) (t : Target) → key_by event unit t ≡ record t { keys = (key_by event unit t).keys }
keyed None unit t = refl
keyed (Some (events.Begin initiators ready)) unit t = refl
keyed (Some (events.Act initiator action)) unit t = refl
keyed (Some (events.Reset ids)) unit t = refl
keyed (Some (events.See node)) unit t = refl
keyed (Some (events.Deliver serial)) unit t = refl
keyed (Some (events.Repeat serial)) unit t = refl
keyed (Some (events.Lose serial)) unit t = refl
keyed (Some (events.Timeout serial)) unit t = refl
keyed (Some (events.Step count)) unit t = refl
keyed (Some events.Settle) unit t = refl
keyed (Some events.Tick) unit t = refl
keyed (Some (events.Inject initiator bytes)) unit t = refl
keyed (Some (events.Key other key)) unit t = refl

with_keys : (t : Target) (keys : List (List ℕ)) (reply : Option Reply) → t.reply ≡ reply → (over (record t { keys = keys })).agents ≡ (over t).agents
with_keys t keys None e = notes_law.ends (record t { keys = keys }) e ∙ sym (notes_law.ends t e)
with_keys t keys (Some reply) e =
    ap (λ (r : Option Reply). crew_over (taken_on None r (record t { keys = keys })).agents) e ∙ sym (ap (λ (r : Option Reply). crew_over (taken_on None r t).agents) e)

keys_by : (event : Option Event) (unit : ℕ) (t : Target) → (over (key_by event unit t)).agents ≡ (over t).agents
keys_by event unit t = ap (λ (x : Target). (over x).agents) (keyed event unit t) ∙ with_keys t (key_by event unit t).keys t.reply refl

-- ---- each note
note_leaves : (note : Note) (past : List Moment) (wire : Terms) (t : Target) → IsAside note → MayGoOn t.reply t.agents → (over (target_by note past wire t)).agents ≡ (over t).agents
note_leaves (notes.Begin initiators ready) past wire t h m = absurd h
note_leaves (notes.Append i list orb cdb buffer) past wire t h m = goes (notes.Append i list orb cdb buffer) t (record { told = λ p. refl; untold = λ p b. refl })
note_leaves (notes.Low i list orb) past wire t h m = goes (notes.Low i list orb) t (record { told = λ p. refl; untold = λ p b. refl })
note_leaves (notes.Linked i list orb) past wire t h m = goes (notes.Linked i list orb) t (record { told = λ p. refl; untold = λ p b. refl })
note_leaves (notes.Rung i list orb) past wire t h m = goes (notes.Rung i list orb) t (record { told = λ p. refl; untold = λ p b. refl })
note_leaves (notes.Dummied i list orb) past wire t h m = goes (notes.Dummied i list orb) t (record { told = λ p. refl; untold = λ p b. refl })
note_leaves (notes.Sent serial generation from to bytes) past wire t h m = absurd h
note_leaves (notes.Injected serial) past wire t h m = goes (notes.Injected serial) t (record { told = λ p. refl; untold = λ p b. refl })
note_leaves (notes.Got serial) past wire t h m = absurd h
note_leaves (notes.Ignored serial cause) past wire t h m = twice t
note_leaves (notes.Lost serial) past wire t h m = goes (notes.Lost serial) t (record { told = λ p. refl; untold = λ p b. refl })
note_leaves (notes.TimedOut serial) past wire t h m = absurd h
note_leaves (notes.Ran i n k unit cdb bytes check) past wire t h m = absurd h
note_leaves (notes.Ended i n k status) past wire t h m = absurd h
note_leaves (notes.Taken i n k status answer) past wire t h m = goes (notes.Taken i n k status answer) t (record { told = λ p. refl; untold = λ p b. refl })
note_leaves (notes.Cut i n cause) past wire t h m = absurd h
note_leaves (notes.Dead i n cause) past wire t h m = absurd h
note_leaves (notes.Drop i list) past wire t h m = goes (notes.Drop i list) t (record { told = λ p. refl; untold = λ p b. refl })
note_leaves (notes.Managed i word subject status login) past wire t h m = absurd h
note_leaves (notes.ManageFailed i cause) past wire t h m = absurd h
note_leaves (notes.Held id) past wire t h m = absurd h
note_leaves (notes.Expired id) past wire t h m = absurd h
note_leaves (notes.Back id) past wire t h m = absurd h
note_leaves (notes.Left id) past wire t h m = absurd h
note_leaves (notes.Cleared unit) past wire t h m = absurd h
note_leaves (notes.Op i operation word) past wire t h m = goes (notes.Op i operation word) t (record { told = λ p. refl; untold = λ p b. refl })
note_leaves (notes.Stuck i) past wire t h m = goes (notes.Stuck i) t (record { told = λ p. refl; untold = λ p b. refl })
note_leaves (notes.Reset generation) past wire t h m = goes (notes.Reset generation) t (record { told = λ p. refl; untold = λ p b. refl })
note_leaves (notes.Seen node generation) past wire t h m = absurd h
note_leaves notes.Tick past wire t h m = over_as t (target_by notes.Tick past wire t) refl (over_none t)
note_leaves (notes.Refused line number) past wire t h m = goes (notes.Refused line number) t (record { told = λ p. refl; untold = λ p b. refl })
note_leaves notes.Settled past wire t h m = goes notes.Settled t (record { told = λ p. refl; untold = λ p b. refl })
note_leaves notes.Stopped past wire t h m = goes notes.Stopped t (record { told = λ p. refl; untold = λ p b. refl })
note_leaves (notes.Key unit) past wire t h m = keys_by (event_of past) unit t
note_leaves (notes.Unsolicited i) past wire t h m = absurd h
note_leaves (notes.Unsent i) past wire t h m = absurd h
note_leaves (notes.Told i) past wire t h m = goes (notes.Told i) t (record { told = λ p. refl; untold = λ p b. refl })

-- ---- other nodes
pub settled_over : (t : Target) → (over (taken_on None t.reply t)).agents ≡ (over t).agents
settled_over t = taken_as t (taken_on None t.reply t) refl (taken_rests None t.reply t refl)

sends : (serial generation from to : ℕ) (bytes : List ℕ) (past : List Moment) (wire : Terms) (t : Target) → 0 < from → (over (target_by (notes.Sent serial generation from to bytes) past wire t)).agents ≡ (over t).agents
sends serial generation from to bytes past wire t l =
    let settled = taken_on None t.reply t in
    let other : nat_eq from 0 ≡ false = grind (arith, nat_tests) in
    ap (λ b. (over (cond b (sent_as (part_of bytes) (is_write_access (access_in_bytes bytes)) serial settled) settled)).agents) other ∙ settled_over t

gets : (serial : ℕ) (past : List Moment) (wire : Terms) (t : Target) → is_serial (receiver_in (wire.sent serial)) 0 ≡ false → (over (target_by (notes.Got serial) past wire t)).agents ≡ (over t).agents
gets serial past wire t e = ap (λ b. (over (cond b (got_by (answered_at wire serial) wire serial (over t)) (over t))).agents) e ∙ twice t

times_out : (serial : ℕ) (past : List Moment) (wire : Terms) (t : Target) → is_serial (sender_in (wire.sent serial)) 0 ≡ false → (over (target_by (notes.TimedOut serial) past wire t)).agents ≡ (over t).agents
times_out serial past wire t e = ap (λ b. (over (cond b (replied serial Expired (over t)) (over t))).agents) e ∙ twice t

sees : (node generation : ℕ) (past : List Moment) (wire : Terms) (t : Target) → 0 < node → (over (target_by (notes.Seen node generation) past wire t)).agents ≡ (over t).agents
sees node generation past wire t l =
    let other : nat_eq node 0 ≡ false = grind (arith, nat_tests) in
    ap (λ b. (over (cond b (reset_seen (not (nat_eq generation (wire.generation 0))) (over t)) (over t))).agents) other ∙ twice t

pub asides_law : AsidesLaw
asides_law = record { twice = twice; asides = note_leaves; sent = sends; got = gets; timed_out = times_out; seen = sees }
