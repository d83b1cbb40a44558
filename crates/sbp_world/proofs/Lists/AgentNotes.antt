-- What is said of each agent of the terms of the target, where what is done with an agent keeps it: each note keeps it, but for a packet that is got, a time-out and a login, which are said apart.
use Rattle.sbp_world.proofs.Words.Std.{◌≡◌, refl, ℕ, ◌==◌, not, Bool, true, false, cond, List, Option, Some, None, position}
use Rattle.sbp_world.proofs.Words.Wire.{Moment, Part, part_of, request, response, Terms, Event, Note, FunctionWord}
use Rattle.sbp_world.proofs.Words.Target.{abort_step, Table, Effect, ManagerStep}
use Rattle.sbp_world.proofs.Words.Initiator.{FailCause, Answer}
use Rattle.sbp_world.proofs.Words.Laws.{access_in_bytes, Agent, Target, agent_at, effect_on, going_on, is_own_run, is_write_access, key_by, managed_by, on_unit, over, ran_on, reset_seen, sends_of, sent_as, sent_for, taken_on, target_by, wants, wants_it, event_of}
use Rattle.mgmt_agent.specs.declared.decision.Effect.TheVariants as effects
use Rattle.mgmt_agent.specs.Machine as manager
use Rattle.orb_layout.specs.declared.ask.FailCause.TheVariants as causes
use Rattle.sbp_journal.specs.Transactions.{no_packet}
use Rattle.sbp_journal.specs.declared.event.Event.TheVariants as events
use Rattle.sbp_journal.specs.declared.note.Note.TheVariants as notes
use Rattle.sbp_journal.specs.declared.operation.FunctionWord.TheVariants as functions
use Rattle.sbp_world.proofs.Lists.AgentFolds.{AreKept, AreSo, AreStill, all_cut, cut_still, going_still, lost_still, over_still, set_still, settles, so, stand, stand_still, where_still}

module _ {May : ℕ → Type 0} (P : ℕ → Agent → Type 0) (kept : AreKept P May) where
  abbrev Is : Target → Type 0
  Is t = AreSo P t

  abbrev Settled : Target → Type 0
  Settled t = AreStill P t

  pub pick : (b : Bool) (x y : Target) → Settled x → Settled y → Settled (cond b x y)
  pick true x y h k = h
  pick false x y h k = k

  -- ---- the management's effects
  abbrev Aborts : Effect → Type 0
  Aborts effect = (place orb : ℕ) → effect ≡ effects.Abort place orb → (a : Agent) → P place a → P place (record a { machine = abort_step a.machine orb })

  effects_kept : (effect : Effect) (t : Target) → Aborts effect → Settled t → Settled (effect_on effect t)
  effects_kept effects.Nothing t f h = h
  effects_kept (effects.Entered place replaced) t f h = h
  effects_kept (effects.Back place) t f h = h
  effects_kept (effects.Left place) t f h = cut_still P kept.cuts t place h
  effects_kept (effects.Abort place orb) t f h =
      set_still P t place (record (agent_at t place) { machine = abort_step (agent_at t place).machine orb }) h (λ a. f place orb refl (agent_at t place) a)
  effects_kept (effects.AbortSet place) t f h = cut_still P kept.cuts t place h
  effects_kept (effects.UnitReset unit) t f h = where_still P kept.cuts (effect_on (effects.UnitReset unit) t) t (on_unit unit t.table.places) refl refl h
  effects_kept effects.TargetReset t f h = all_cut P kept.cuts (effect_on effects.TargetReset t) t refl refl h

  pub managed_kept : (s : ManagerStep × (manager.Machine × Table)) (answer : Answer) (t : Target) → Aborts s.0.effect → Settled t → Settled (managed_by s answer t)
  managed_kept (step, (machine, table)) answer t f h = effects_kept step.effect _ f (stand_still P _ t refl refl h)

  -- ---- a packet is sent
  sent_for_kept : (place : Option ℕ) (is_write : Bool) (serial : ℕ) → May serial → (t : Target) → Settled t → Settled (sent_for place is_write serial t)
  sent_for_kept (Some place) is_write serial may t h = set_still P t place (sends_of is_write serial (agent_at t place)) h (λ a. kept.lasting.sends place (agent_at t place) is_write serial may a)
  sent_for_kept None is_write serial may t h = pick (wants t.manager_asks is_write) _ _ (stand_still P _ t refl refl h) (stand_still P _ t refl refl h)

  sent_kept : (part : Part) (is_write : Bool) (serial : ℕ) → May serial → (t : Target) → Settled t → Settled (sent_as part is_write serial t)
  sent_kept (request label kind) is_write serial may t h = sent_for_kept (position (wants_it is_write) t.agents) is_write serial may t h
  sent_kept (response label kind) is_write serial may t h = h
  sent_kept no_packet is_write serial may t h = h

  pub leaves_kept : (serial generation from to : ℕ) (bytes : List ℕ) (past : List Moment) (wire : Terms) (t : Target) → May serial → Is t
      → Settled (target_by (notes.Sent serial generation from to bytes) past wire t)
  leaves_kept serial generation from to bytes past wire t may h =
      let s = settles P kept.lasting t h in
      pick (from == 0) (sent_as (part_of bytes) (is_write_access (access_in_bytes bytes)) serial (taken_on None t.reply t)) (taken_on None t.reply t)
      (sent_kept (part_of bytes) (is_write_access (access_in_bytes bytes)) serial may (taken_on None t.reply t) s) s

  -- ---- each note
  pub sees_kept : (b : Bool) (t : Target) → Settled t → Settled (reset_seen b t)
  sees_kept false t h = h
  sees_kept true t h = all_cut P kept.cuts (reset_seen true t) t refl refl h

  key_kept : (event : Option Event) (unit : ℕ) (t : Target) → Is t → Is (key_by event unit t)
  key_kept (Some (events.Key other key)) unit t h = stand P _ t refl refl h
  key_kept None unit t h = h
  key_kept (Some event) unit t h = h

  going : (note : Note) (t : Target) → Is t → Is (going_on note t)
  going note t h = so P (going_on note t) (going_still P kept.lasting note t h)

  running : (is_own : Bool) (note : Note) (t : Target) → Is t → Is (ran_on is_own note t)
  running true note t h = going note t h
  running false note t h = so P (taken_on None t.reply t) (settles P kept.lasting t h)

  dead_note : (i : ℕ) (list : Option ℕ) (cause : FailCause) (past : List Moment) (wire : Terms) (t : Target) → Is t → Is (target_by (notes.Dead i list cause) past wire t)
  dead_note i list causes.Label past wire t h =
      so P _ (lost_still P kept.lasting (target_by (notes.Dead i list causes.Label) past wire t) (taken_on None t.reply t) refl refl (settles P kept.lasting t h))
  dead_note i list cause past wire t h = going (notes.Dead i list cause) t h

  -- what is said apart
  abbrev pub IfApart : Note → List Moment → Terms → Target → Type 0
  IfApart (notes.Got serial) past wire t = Is (target_by (notes.Got serial) past wire t)
  IfApart (notes.TimedOut serial) past wire t = Is (target_by (notes.TimedOut serial) past wire t)
  IfApart (notes.Managed i functions.Login subject status login) past wire t = Is (target_by (notes.Managed i functions.Login subject status login) past wire t)
  IfApart (notes.Sent serial generation from to bytes) past wire t = May serial
  IfApart note past wire t = Unit {0}

  managed_note : (i subject status : ℕ) (word : FunctionWord) (login : Option ℕ) (past : List Moment) (wire : Terms) (t : Target) → Is t
      → IfApart (notes.Managed i word subject status login) past wire t → Is (target_by (notes.Managed i word subject status login) past wire t)
  managed_note i subject status functions.Login login past wire t h g = g
  managed_note i subject status word login past wire t h g = going (notes.Managed i word subject status login) t h

  pub note_kept : (note : Note) (past : List Moment) (wire : Terms) (t : Target) → Is t → IfApart note past wire t → Is (target_by note past wire t)
  note_kept (notes.Begin initiators ready) past wire t h g = stand P _ t refl refl h
  note_kept (notes.Got serial) past wire t h g = g
  note_kept (notes.TimedOut serial) past wire t h g = g
  note_kept (notes.Ignored serial cause) past wire t h g = so P (over t) (over_still P kept.lasting t h)
  note_kept (notes.Sent serial generation from to bytes) past wire t h g = so P _ (leaves_kept serial generation from to bytes past wire t g h)
  note_kept (notes.Ran i n k unit cdb bytes check) past wire t h g =
      let own = is_own_run t.reply i wire t in
      let note = notes.Ran i n k unit cdb bytes check in stand P _ (ran_on own note t) refl refl (running own note t h)
  note_kept (notes.Dead i n cause) past wire t h g = dead_note i n cause past wire t h
  note_kept (notes.Managed i word subject status login) past wire t h g = managed_note i subject status word login past wire t h g
  note_kept (notes.ManageFailed i cause) past wire t h g = stand P _ t refl refl h
  note_kept (notes.Held id) past wire t h g = stand P _ t refl refl h
  note_kept (notes.Expired id) past wire t h g = stand P _ t refl refl h
  note_kept (notes.Back id) past wire t h g = stand P _ t refl refl h
  note_kept (notes.Left id) past wire t h g = stand P _ t refl refl h
  note_kept (notes.Cleared unit) past wire t h g = stand P _ t refl refl h
  note_kept (notes.Seen node generation) past wire t h g =
      let s = over_still P kept.lasting t h in
      let fresh = not (generation == wire.generation 0) in
      so P _ (pick (node == 0) (reset_seen fresh (over t)) (over t) (sees_kept fresh (over t) s) s)
  note_kept notes.Tick past wire t h g = stand P _ (over t) refl refl (so P (over t) (over_still P kept.lasting t h))
  note_kept (notes.Key unit) past wire t h g = key_kept (event_of past) unit t h
  note_kept (notes.Unsolicited i) past wire t h g = stand P _ t refl refl h
  note_kept note past wire t h g = going note t h
