-- The reply that waits for an agent to be taken on is to the request that is its main transaction: its answer was got, or it timed out.
use Rattle.sbp_world.proofs.Common.{serial_is}
use Rattle.sbp_world.proofs.Words.Std.{arith, ◌≡◌, ◌∙◌, refl, sym, ap, subst, inl, inr, ◌⊎◌, ◌==◌, not, ℕ, zero, suc, ◌+◌, Bool, true, false, cond, List, [], ◌∷◌, Option, Some, None, is_none, position, slice_set, unwrap_or}
use Rattle.sbp_world.proofs.Words.Wire.{Moment, asked, said, Part, part_of, request, response, Terms, Event, Note}
use Rattle.sbp_world.proofs.Words.Target.{Ahead, Main, Table, Effect, ManagerStep, Disk}
use Rattle.sbp_world.proofs.Words.Initiator.{Nothing, Answer, Expired}
use Rattle.sbp_world.proofs.Words.Laws.{access_at, access_in_bytes, answer_in, answered_at, id_for, packet_at, receiver_in, sender_in, Agent, Decided, Purpose, Reply, Target, agent_at, effect_on, enters_in, for_agent, for_manager, for_nobody, got_by, is_own_run, is_serial, is_write_access, key_by, known_at, managed_by, manager_step, new_agent, over, purpose_among, purpose_of, replied, replied_to, reset_seen, sent_as, sent_for, taken_on, target_at, wants, wants_it, event_of}
use Rattle.sbp_world.proofs.Words.World.{agent_in, IsClosing}
use Rattle.mgmt_agent.specs.declared.decision.Effect.TheVariants as effects
use Rattle.mgmt_agent.specs.Machine as manager
use Rattle.orb_layout.specs.declared.ask.FailCause.TheVariants as causes
use Rattle.sbp_journal.specs.Transactions.{no_packet}
use Rattle.sbp_journal.specs.declared.event.Event.TheVariants as events
use Rattle.sbp_journal.specs.declared.note.Note.TheVariants as notes
use Rattle.sbp_journal.specs.declared.operation.FunctionWord.TheVariants as functions
use Rattle.sbp_laws.proofs.Going.{going_rests, run_rests}
use Rattle.sbp_world.specs.Lists.LetsGo.{IsAnswered, WasClosed}
use Rattle.sbp_world.proofs.Lists.PointersGot.{requests_got}
use Rattle.sbp_world.proofs.Agents.Asides.{over_none}

-- ---- what is for an agent's main transaction is that
record IsMainAt (from place serial : ℕ) (agents : List Agent) : Type 0 where
  k : ℕ
  place_is : from + k ≡ place
  waits : (agent_in agents k).main ≡ Some serial

main_among : (from : ℕ) (agents : List Agent) (place serial : ℕ) → purpose_among from agents serial ≡ for_agent place Main → IsMainAt from place serial agents
main_among from [] place serial e = absurd (let f : for_nobody ≡ for_agent place Main = e in cc)
main_among from (a ∷ agents) place serial e = by (λ h. main_among (from + 1) agents place serial h) (is_serial a.main serial) refl (is_serial a.ahead serial) e
  where
    by : (purpose_among (from + 1) agents serial ≡ for_agent place Main → IsMainAt (from + 1) place serial agents) → (x : Bool) → is_serial a.main serial ≡ x → (y : Bool) → cond x (for_agent from Main) (cond y (for_agent from Ahead) (purpose_among (from + 1) agents serial)) ≡ for_agent place Main → IsMainAt from place serial (a ∷ agents)
    by more true g y h = record { k = 0; place_is = let f : from ≡ place = cc in omega arith; waits = serial_is a.main serial g }
    by more false g true h = absurd (let f : for_agent from Ahead ≡ for_agent place Main = h in cc)
    by more false g false h = let x = more h in let p = x.place_is in record { k = suc x.k; place_is = omega arith; waits = x.waits }

pub main_of : (t : Target) (place serial : ℕ) → purpose_of t serial ≡ for_agent place Main → (agent_at t place).main ≡ Some serial
main_of t place serial e = by (is_serial t.manages serial) e
  where
    by : (b : Bool) → cond b for_manager (purpose_among 0 t.agents serial) ≡ for_agent place Main → (agent_at t place).main ≡ Some serial
    by true f = absurd (let g : for_manager ≡ for_agent place Main = f in cc)
    by false f =
        let x = main_among 0 t.agents place serial f in
        let same : x.k ≡ place = (let p = x.place_is in omega arith) in
        subst (λ (q : ℕ). (agent_in t.agents q).main ≡ Some serial) same x.waits

-- ---- as a note is written
-- the agent of a place has this main transaction, and a reply to it waits
abbrev Has : Target → (place serial : ℕ) → Type 0
Has t place serial = IsAnswered t.reply place × ((agent_at t place).main ≡ Some serial)

-- it had so before
abbrev Old : Target → Target → Type 0
Old t x = (place serial : ℕ) → Has x place serial → Has t place serial

unanswered : (reply : Option Reply) (place : ℕ) → reply ≡ None → IsAnswered reply place → ⊥
unanswered None place e h = h
unanswered (Some reply) place e h = (let f : Some reply ≡ None = e in cc)

-- no reply waits
rests : (t x : Target) → x.reply ≡ None → Old t x
rests t x e place serial h = absurd (unanswered x.reply place e h.0)

self : (t : Target) → Old t t
self t place serial h = h

affects : (effect : Effect) (t : Target) → (effect_on effect t).reply ≡ t.reply
affects (effects.Left place) t = refl
affects (effects.Abort place orb) t = refl
affects (effects.AbortSet place) t = refl
affects (effects.UnitReset unit) t = refl
affects effects.TargetReset t = refl
affects _ t = refl

pub manages_by : (r : ManagerStep × (manager.Machine × Table)) (answer : Answer) (t : Target) → (managed_by r answer t).reply ≡ t.reply
manages_by (step, (machine, table)) answer t = affects step.effect _

pub sends_for : (place : Option ℕ) (is_write : Bool) (serial : ℕ) (t : Target) → (sent_for place is_write serial t).reply ≡ t.reply
sends_for (Some place) is_write serial t = refl
sends_for None is_write serial t = by (wants t.manager_asks is_write)
  where
    by : (b : Bool) → (cond b (record t { manages = Some serial; manager_asks = Nothing }) (record t { pushes = serial ∷ t.pushes })).reply ≡ t.reply
    by true = refl
    by false = refl

pub sends_as : (part : Part) (is_write : Bool) (serial : ℕ) (t : Target) → (sent_as part is_write serial t).reply ≡ t.reply
sends_as (request label kind) is_write serial t = sends_for (position (wants_it is_write) t.agents) is_write serial t
sends_as (response label kind) is_write serial t = refl
sends_as no_packet is_write serial t = refl

resets : (b : Bool) (t : Target) → (reset_seen b t).reply ≡ t.reply
resets true t = refl
resets false t = refl

cond_none : (b : Bool) (x y : Target) → x.reply ≡ None → y.reply ≡ None → (cond b x y).reply ≡ None
cond_none true x y e f = e
cond_none false x y e f = f

new_set : (agents : List Agent) (k p serial : ℕ) → (agent_in (slice_set agents k new_agent) p).main ≡ Some serial → (agent_in agents p).main ≡ Some serial
new_set [] k p serial e = e
new_set (a ∷ agents) zero zero serial e = absurd (let f : None ≡ Some serial = e in cc)
new_set (a ∷ agents) zero (suc p) serial e = e
new_set (a ∷ agents) (suc k) zero serial e = e
new_set (a ∷ agents) (suc k) (suc p) serial e = new_set agents k p serial e

enters_by : (place : Option ℕ) (decided : Option Decided) (id : ℕ) (t : Target) → Old t (enters_in place decided id t)
enters_by None decided id t = self t
enters_by (Some k) None id t = self t
enters_by (Some k) (Some decided) id t = λ place serial h. (h.0, new_set t.agents k place serial h.1)

keys : (event : Option Event) (unit : ℕ) (t : Target) → Old t (key_by event unit t)
keys None unit t = self t
keys (Some (events.Begin initiators ready)) unit t = self t
keys (Some (events.Act initiator action)) unit t = self t
keys (Some (events.Reset ids)) unit t = self t
keys (Some (events.See node)) unit t = self t
keys (Some (events.Deliver serial)) unit t = self t
keys (Some (events.Repeat serial)) unit t = self t
keys (Some (events.Lose serial)) unit t = self t
keys (Some (events.Timeout serial)) unit t = self t
keys (Some (events.Step count)) unit t = self t
keys (Some events.Settle) unit t = self t
keys (Some events.Tick) unit t = self t
keys (Some (events.Inject initiator bytes)) unit t = self t
keys (Some (events.Key other key)) unit t = λ place serial h. h

-- a reply begins to wait: it is to this
answers : (own : ℕ) (answer : Answer) (t : Target) → t.reply ≡ None → (place serial : ℕ) → Has (replied own answer t) place serial → own ≡ serial
answers own answer t e place serial = by (purpose_of t own) refl
  where
    by : (purpose : Purpose) → purpose_of t own ≡ purpose → Has (replied_to purpose answer t) place serial → own ≡ serial
    by (for_agent q which) p h =
        let f : for_agent q which ≡ for_agent place Main = ap (λ x. for_agent x which) h.0.0 ∙ ap (λ x. for_agent place x) h.0.1 in
        let one : Some own ≡ Some serial = sym (main_of t place own (p ∙ f)) ∙ h.1 in
        cc
    by for_manager p h = absurd (unanswered (replied_to for_manager answer t).reply place (manages_by (manager_step t answer) answer t ∙ e) h.0)
    by for_nobody p h = absurd (unanswered t.reply place e h.0)

module _ (start : List Disk) where
  -- it had so before, or the moment closes it
  abbrev Next : Moment → List Moment → Type 0
  Next m past = (place serial : ℕ) → Has (target_at start (m ∷ past)) place serial → Has (target_at start past) place serial ⊎ IsClosing start m past serial

  olds : (m : Moment) (past : List Moment) → Old (target_at start past) (target_at start (m ∷ past)) → Next m past
  olds m past f place serial h = inl (f place serial h)

  got_next : (closing : ℕ) (past : List Moment) → Next (said (notes.Got closing)) past
  got_next closing past place serial = by (is_serial (receiver_in (wire.sent closing)) 0)
    where
      wire : Terms
      wire = (known_at start past).wire

      t : Target
      t = over (target_at start past)

      Then : Type 0
      Then = Has (target_at start past) place serial ⊎ (answered_at wire closing ≡ Some serial)

      gets : (own : Option ℕ) → answered_at wire closing ≡ own → Has (got_by own wire closing t) place serial → Then
      gets (Some own) e h = inr (e ∙ ap Some (answers own (answer_in (packet_at wire closing)) t (over_none (target_at start past)) place serial h))
      gets None e h =
          let q = requests_got (access_at wire closing) (id_for wire 0 (unwrap_or (sender_in (wire.sent closing)) 0)) t in
          absurd (unanswered (got_by None wire closing t).reply place (q.reply ∙ over_none (target_at start past)) h.0)

      by : (b : Bool) → Has (cond b (got_by (answered_at wire closing) wire closing t) t) place serial → Then
      by true h = gets (answered_at wire closing) refl h
      by false h = absurd (unanswered t.reply place (over_none (target_at start past)) h.0)

  late_next : (own : ℕ) (past : List Moment) → Next (said (notes.TimedOut own)) past
  late_next own past place serial = by (is_serial (sender_in ((known_at start past).wire.sent own)) 0) refl
    where
      t : Target
      t = over (target_at start past)

      by : (b : Bool) → is_serial (sender_in ((known_at start past).wire.sent own)) 0 ≡ b → Has (cond b (replied own Expired t) t) place serial → Has (target_at start past) place serial ⊎ ((own ≡ serial) × (is_serial (sender_in ((known_at start past).wire.sent own)) 0 ≡ true))
      by true e h = inr (answers own Expired t (over_none (target_at start past)) place serial h, e)
      by false e h = absurd (unanswered t.reply place (over_none (target_at start past)) h.0)

  note_next : (note : Note) (past : List Moment) → Next (said note) past
  note_next (notes.Begin initiators ready) past = λ place serial h. inl h
  note_next (notes.Got serial) past = got_next serial past
  note_next (notes.TimedOut own) past = late_next own past
  note_next (notes.Ignored serial cause) past = let t = target_at start past in olds (said (notes.Ignored serial cause)) past (rests t (over t) (over_none t))
  note_next (notes.Seen node generation) past =
      let t = target_at start past in
      let w = (known_at start past).wire in
      let b = not (generation == w.generation 0) in
      let m = said (notes.Seen node generation) in
      olds m past (rests t (target_at start (m ∷ past)) (cond_none (node == 0) (reset_seen b (over t)) (over t) (resets b (over t) ∙ over_none t) (over_none t)))
  note_next notes.Tick past = let t = target_at start past in olds (said notes.Tick) past (rests t (target_at start (said notes.Tick ∷ past)) (over_none t))
  note_next (notes.Ran i n k unit cdb bytes check) past =
      let t = target_at start past in
      let note = notes.Ran i n k unit cdb bytes check in
      olds (said note) past (rests t (target_at start (said note ∷ past)) (run_rests (is_own_run t.reply i (known_at start past).wire t) note t))
  note_next (notes.Sent serial generation from to bytes) past =
      let t = target_at start past in
      let x = taken_on None t.reply t in
      let m = said (notes.Sent serial generation from to bytes) in
      let writes = is_write_access (access_in_bytes bytes) in
      olds m past (rests t (target_at start (m ∷ past)) (cond_none (from == 0) (sent_as (part_of bytes) writes serial x) x (sends_as (part_of bytes) writes serial x ∙ over_none t) (over_none t)))
  note_next (notes.Dead i n causes.Label) past = let t = target_at start past in let m = said (notes.Dead i n causes.Label) in olds m past (rests t (target_at start (m ∷ past)) (over_none t))
  note_next (notes.ManageFailed i cause) past = λ place serial h. inl h
  note_next (notes.Managed i functions.Login subject status None) past = λ place serial h. inl h
  note_next (notes.Managed i functions.Login subject status (Some id)) past =
      let t = target_at start past in olds (said (notes.Managed i functions.Login subject status (Some id))) past (enters_by (position is_none t.table.places) t.decided id t)
  note_next (notes.Held id) past = λ place serial h. inl h
  note_next (notes.Back id) past = λ place serial h. inl h
  note_next (notes.Left id) past = λ place serial h. inl h
  note_next (notes.Expired id) past = λ place serial h. inl h
  note_next (notes.Cleared unit) past = λ place serial h. inl h
  note_next (notes.Key unit) past = olds (said (notes.Key unit)) past (keys (event_of past) unit (target_at start past))
  note_next (notes.Unsolicited i) past = λ place serial h. inl h
  note_next note past = let t = target_at start past in olds (said note) past (rests t (target_at start (said note ∷ past)) (going_rests note t))

  -- behind a packet that is sent no reply waits
  pub sent_none : (past : List Moment) (serial generation from to : ℕ) (bytes : List ℕ) → (target_at start (said (notes.Sent serial generation from to bytes) ∷ past)).reply ≡ None
  sent_none past serial generation from to bytes =
      let t = target_at start past in
      let x = taken_on None t.reply t in
      let writes = is_write_access (access_in_bytes bytes) in
      cond_none (from == 0) (sent_as (part_of bytes) writes serial x) x (sends_as (part_of bytes) writes serial x ∙ over_none t) (over_none t)

  next : (m : Moment) (past : List Moment) → Next m past
  next (asked line event) past = let t = target_at start past in olds (asked line event) past (rests t (over t) (over_none t))
  next (said note) past = note_next note past

  pub was_closed : (past : List Moment) (place serial : ℕ) → IsAnswered (target_at start past).reply place → (agent_at (target_at start past) place).main ≡ Some serial → WasClosed start past serial
  was_closed [] place serial h e = absurd h
  was_closed (m ∷ past) place serial h e = by (λ x. was_closed past place serial x.0 x.1) (next m past place serial (h, e))
    where
      by : (Has (target_at start past) place serial → WasClosed start past serial) → Has (target_at start past) place serial ⊎ IsClosing start m past serial → WasClosed start (m ∷ past) serial
      by more (inl x) = let c = more x in record { since = m ∷ c.since; moment = c.moment; earlier = c.earlier; is = ap (λ ms. m ∷ ms) c.is; closes = c.closes }
      by more (inr x) = record { since = []; moment = m; earlier = past; is = refl; closes = x }
