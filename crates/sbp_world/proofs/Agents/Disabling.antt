-- What notes make of the enabled registers of the terms: a request enables one, an unsolicited status uses one up, and a login that leaves disables its own.
use Rattle.sbp_world.proofs.Words.Std.{◌≡◌, ◌∙◌, refl, ap, ℕ, ◌+◌, ◌==◌, Bool, true, false, cond, List, [], ◌∷◌, ◌++◌, length, map, Option, Some, None, Result, Ok, Err, is_none, position}
use Rattle.sbp_world.proofs.Words.Wire.{LabelParts, node_of, topology_at, function_word, login_if, Access, Register, Start, agent_reset, agent_state, doorbell, management_agent, no_start, orb_pointer, register, rom_start, start_at, start_serves, unsolicited_enable, Moment, said, Part, part_of, request, response, Terms, Event, Note, FunctionWord, Outgoing, Side}
use Rattle.sbp_world.proofs.Words.Target.{Table, Effect, ManagerStep, Busy, Disk, Told}
use Rattle.sbp_world.proofs.Words.Initiator.{Ask, Nothing, FailCause, Answer}
use Rattle.sbp_world.proofs.Words.Laws.{access_in_bytes, Decided, Purpose, Reply, Target, disabled_at, effect_on, enters_in, entered_by, for_agent, for_manager, for_nobody, going_on, has_id, is_write_access, key_by, known_at, managed_by, manager_step, over, purpose_of, register_got, replied, replied_to, request_got, sent_as, sent_for, start_got, started_by, taken_on, target_by, wants, wants_it, is_own_run, event_of}
use Rattle.sbp_world.proofs.Words.World.{asked, posted, sent, sent_all, sent_to, holder, initiator_of, told, told_all, WorldState, with_note, Office, by_side}
use Rattle.std.proofs.lemmas.List.{length-set}
use Rattle.mgmt_agent.specs.declared.decision.Effect.TheVariants as effects
use Rattle.mgmt_agent.specs.Machine as manager
use Rattle.orb_layout.specs.declared.ask.FailCause.TheVariants as causes
use Rattle.sbp_journal.specs.Transactions.{no_packet}
use Rattle.sbp_journal.specs.declared.event.Event.TheVariants as events
use Rattle.sbp_journal.specs.declared.note.Note.TheVariants as notes
use Rattle.sbp_journal.specs.declared.operation.FunctionWord.TheVariants as functions
use Rattle.sbp_journal.specs.declared.side.Side.TheVariants as sides
use Rattle.sbp_laws.proofs.Going.{AgentsAlone, going_alone, run_alone, taken_alone}
use Rattle.sbp_world.proofs.Agents.Management.Sides.{AllBehind, TellsBehind}
use Rattle.sbp_world.proofs.Agents.Management.Told.{office_in, one_side, term_in}

-- ---- the same registers and the same table
pub record Keeps (t now : Target) : Type 0 where
  pub enabled : now.enabled ≡ t.enabled
  pub table : now.table ≡ t.table

alone_keeps : (t now : Target) → AgentsAlone t now → Keeps t now
alone_keeps t now e = record { enabled = ap (λ (x : Target). x.enabled) e; table = ap (λ (x : Target). x.table) e }

keeps_self : (t : Target) → Keeps t t
keeps_self t = record { enabled = refl; table = refl }

keeps_then : (t u v : Target) → Keeps t u → Keeps u v → Keeps t v
keeps_then t u v a b = record { enabled = b.enabled ∙ a.enabled; table = b.table ∙ a.table }

taken_keeps : (run : Option Told) (reply : Option Reply) (t : Target) → Keeps t (taken_on run reply t)
taken_keeps run reply t = alone_keeps t (taken_on run reply t) (taken_alone run reply t)

going_keeps : (note : Note) (t : Target) → Keeps t (going_on note t)
going_keeps note t = alone_keeps t (going_on note t) (going_alone note t)

pub over_same : (t : Target) → Keeps t (over t)
over_same t = let k = taken_keeps None t.reply t in record { enabled = k.enabled; table = k.table }

effect_keeps : (effect : Effect) (t : Target) → Keeps t (effect_on effect t)
effect_keeps effects.Nothing t = keeps_self t
effect_keeps (effects.Entered place replaced) t = keeps_self t
effect_keeps (effects.Back place) t = keeps_self t
effect_keeps (effects.Left place) t = record { enabled = refl; table = refl }
effect_keeps (effects.Abort place orb) t = record { enabled = refl; table = refl }
effect_keeps (effects.AbortSet place) t = record { enabled = refl; table = refl }
effect_keeps (effects.UnitReset unit) t = record { enabled = refl; table = refl }
effect_keeps effects.TargetReset t = record { enabled = refl; table = refl }

managed_keeps : (r : ManagerStep × (manager.Machine × Table)) (answer : Answer) (t : Target) → Keeps t (managed_by r answer t)
managed_keeps (step, (m, table)) answer t =
    let k = effect_keeps step.effect (record t { manager = m; manages = None; manager_asks = step.ask; decided = _ }) in
    record { enabled = k.enabled; table = k.table }

replied_keeps : (purpose : Purpose) (answer : Answer) (t : Target) → Keeps t (replied_to purpose answer t)
replied_keeps (for_agent place which) answer t = record { enabled = refl; table = refl }
replied_keeps for_manager answer t = managed_keeps (manager_step t answer) answer t
replied_keeps for_nobody answer t = keeps_self t

pub reply_keeps : (serial : ℕ) (answer : Answer) (t : Target) → Keeps t (replied serial answer t)
reply_keeps serial answer t = replied_keeps (purpose_of t serial) answer t

-- a request leaves the table
register_table : (name : Register) (place : ℕ) (access : Access) (t : Target) → (register_got name place access t).table ≡ t.table
register_table agent_state place access t = refl
register_table agent_reset place access t = refl
register_table orb_pointer place access t = by access.is_write refl
  where
    by : (b : Bool) → access.is_write ≡ b → (register_got orb_pointer place access t).table ≡ t.table
    by true e = rw e refl
    by false e = rw e refl
register_table doorbell place access t = refl
register_table unsolicited_enable place access t = refl

started_table : (r : Result Ask Busy × manager.Machine) (t : Target) → (started_by r t).table ≡ t.table
started_table (Err busy, m) t = refl
started_table (Ok ask, m) t = refl

start_table : (start : Start) (source : ℕ) (access : Access) (t : Target) → (start_got start source access t).table ≡ t.table
start_table (register place name) source access t = register_table name place access t
start_table management_agent source access t = started_table _ t
start_table rom_start source access t = refl
start_table no_start source access t = refl

pub request_table : (access : Option Access) (source : ℕ) (t : Target) → (request_got access source t).table ≡ t.table
request_table None source t = refl
request_table (Some access) source t = by (start_serves (start_at access.offset) access)
  where
    by : (b : Bool) → (cond b (start_got (start_at access.offset) source access t) t).table ≡ t.table
    by true = start_table (start_at access.offset) source access t
    by false = refl

-- ---- what leaves a node
sends_for : (place : Option ℕ) (writes : Bool) (serial : ℕ) (t : Target) → Keeps t (sent_for place writes serial t)
sends_for (Some place) writes serial t = record { enabled = refl; table = refl }
sends_for None writes serial t = by (wants t.manager_asks writes)
  where
    by : (b : Bool) → Keeps t (cond b (record t { manages = Some serial; manager_asks = Nothing }) (record t { pushes = serial ∷ t.pushes }))
    by true = record { enabled = refl; table = refl }
    by false = record { enabled = refl; table = refl }

sends_as : (part : Part) (writes : Bool) (serial : ℕ) (t : Target) → Keeps t (sent_as part writes serial t)
sends_as (request label kind) writes serial t = sends_for (position (wants_it writes) t.agents) writes serial t
sends_as (response label kind) writes serial t = keeps_self t
sends_as no_packet writes serial t = keeps_self t

sends_if : (b : Bool) (part : Part) (writes : Bool) (serial : ℕ) (t : Target) → Keeps t (cond b (sent_as part writes serial t) t)
sends_if true part writes serial t = sends_as part writes serial t
sends_if false part writes serial t = keeps_self t

sent_keeps : (serial generation from to : ℕ) (bytes : List ℕ) (past : List Moment) (wire : Terms) (t : Target) → Keeps t (target_by (notes.Sent serial generation from to bytes) past wire t)
sent_keeps serial generation from to bytes past wire t =
    let settled = taken_on None t.reply t in
    let a = taken_keeps None t.reply t in
    let b = sends_if (from == 0) (part_of bytes) (is_write_access (access_in_bytes bytes)) serial settled in
    record { enabled = b.enabled ∙ a.enabled; table = b.table ∙ a.table }

-- ---- a note that says nothing of registers
abbrev pub IsStill : Note → Type 0
IsStill (notes.Got serial) = ⊥
IsStill (notes.TimedOut serial) = ⊥
IsStill (notes.Seen node generation) = ⊥
IsStill (notes.Left id) = ⊥
IsStill (notes.Expired id) = ⊥
IsStill (notes.Unsolicited i) = ⊥
IsStill _ = Unit {0}

enters_keep : (place : Option ℕ) (decided : Option Decided) (id : ℕ) (t : Target) → (enters_in place decided id t).enabled ≡ t.enabled
enters_keep None decided id t = refl
enters_keep (Some place) None id t = refl
enters_keep (Some place) (Some d) id t = refl

login_keeps : (login : Option ℕ) (t : Target) → (entered_by login t).enabled ≡ t.enabled
login_keeps None t = refl
login_keeps (Some id) t = enters_keep (position is_none t.table.places) t.decided id t

key_keeps : (event : Option Event) (unit : ℕ) (t : Target) → (key_by event unit t).enabled ≡ t.enabled
key_keeps None unit t = refl
key_keeps (Some (events.Key other key)) unit t = refl
key_keeps (Some (events.Begin initiators ready)) unit t = refl
key_keeps (Some (events.Act initiator action)) unit t = refl
key_keeps (Some (events.Reset physical)) unit t = refl
key_keeps (Some (events.See node)) unit t = refl
key_keeps (Some (events.Deliver serial)) unit t = refl
key_keeps (Some (events.Repeat serial)) unit t = refl
key_keeps (Some (events.Lose serial)) unit t = refl
key_keeps (Some (events.Timeout serial)) unit t = refl
key_keeps (Some (events.Step count)) unit t = refl
key_keeps (Some events.Settle) unit t = refl
key_keeps (Some events.Tick) unit t = refl
key_keeps (Some (events.Inject initiator bytes)) unit t = refl

dead_keeps : (i : ℕ) (list : Option ℕ) (cause : FailCause) (past : List Moment) (wire : Terms) (t : Target) → (target_by (notes.Dead i list cause) past wire t).enabled ≡ t.enabled
dead_keeps i list causes.Timeout past wire t = (going_keeps _ t).enabled
dead_keeps i list causes.Label past wire t = (taken_keeps None t.reply t).enabled
dead_keeps i list causes.Refused past wire t = (going_keeps _ t).enabled
dead_keeps i list causes.Grammar past wire t = (going_keeps _ t).enabled

managed_still : (i subject status : ℕ) (word : FunctionWord) (login : Option ℕ) (past : List Moment) (wire : Terms) (t : Target) → (target_by (notes.Managed i word subject status login) past wire t).enabled ≡ t.enabled
managed_still i subject status functions.Login login past wire t = login_keeps login t
managed_still i subject status functions.Query login past wire t = (going_keeps _ t).enabled
managed_still i subject status functions.Reconnect login past wire t = (going_keeps _ t).enabled
managed_still i subject status functions.Logout login past wire t = (going_keeps _ t).enabled
managed_still i subject status functions.Abort login past wire t = (going_keeps _ t).enabled
managed_still i subject status functions.AbortSet login past wire t = (going_keeps _ t).enabled
managed_still i subject status functions.UnitReset login past wire t = (going_keeps _ t).enabled
managed_still i subject status functions.TargetReset login past wire t = (going_keeps _ t).enabled
managed_still i subject status functions.Other login past wire t = (going_keeps _ t).enabled

pub note_still : (note : Note) (past : List Moment) (wire : Terms) (t : Target) → IsStill note → (target_by note past wire t).enabled ≡ t.enabled
note_still (notes.Begin initiators ready) past wire t h = refl
note_still (notes.Append i list orb cdb buffer) past wire t h = (going_keeps _ t).enabled
note_still (notes.Low i list orb) past wire t h = (going_keeps _ t).enabled
note_still (notes.Linked i list orb) past wire t h = (going_keeps _ t).enabled
note_still (notes.Rung i list orb) past wire t h = (going_keeps _ t).enabled
note_still (notes.Dummied i list orb) past wire t h = (going_keeps _ t).enabled
note_still (notes.Sent serial generation from to bytes) past wire t h = (sent_keeps serial generation from to bytes past wire t).enabled
note_still (notes.Injected serial) past wire t h = (going_keeps _ t).enabled
note_still (notes.Got serial) past wire t h = absurd h
note_still (notes.Ignored serial cause) past wire t h = (over_same t).enabled
note_still (notes.Lost serial) past wire t h = (going_keeps _ t).enabled
note_still (notes.TimedOut serial) past wire t h = absurd h
note_still (notes.Ran i n k unit cdb bytes check) past wire t h =
    ap (λ (x : Target). x.enabled) (run_alone (is_own_run t.reply i wire t) (notes.Ran i n k unit cdb bytes check) t)
note_still (notes.Ended i n k status) past wire t h = (going_keeps _ t).enabled
note_still (notes.Taken i n k status answer) past wire t h = (going_keeps _ t).enabled
note_still (notes.Cut i n cause) past wire t h = (going_keeps _ t).enabled
note_still (notes.Dead i n cause) past wire t h = dead_keeps i n cause past wire t
note_still (notes.Drop i list) past wire t h = (going_keeps _ t).enabled
note_still (notes.Managed i word subject status login) past wire t h = managed_still i subject status word login past wire t
note_still (notes.ManageFailed i cause) past wire t h = refl
note_still (notes.Held id) past wire t h = refl
note_still (notes.Expired id) past wire t h = absurd h
note_still (notes.Back id) past wire t h = refl
note_still (notes.Left id) past wire t h = absurd h
note_still (notes.Cleared unit) past wire t h = refl
note_still (notes.Op i operation word) past wire t h = (going_keeps _ t).enabled
note_still (notes.Stuck i) past wire t h = (going_keeps _ t).enabled
note_still (notes.Reset generation) past wire t h = (going_keeps _ t).enabled
note_still (notes.Seen node generation) past wire t h = absurd h
note_still notes.Tick past wire t h = (over_same t).enabled
note_still (notes.Refused line number) past wire t h = (going_keeps _ t).enabled
note_still notes.Settled past wire t h = (going_keeps _ t).enabled
note_still notes.Stopped past wire t h = (going_keeps _ t).enabled
note_still (notes.Key unit) past wire t h = key_keeps (event_of past) unit t
note_still (notes.Unsolicited i) past wire t h = absurd h
note_still (notes.Unsent i) past wire t h = (going_keeps _ t).enabled
note_still (notes.Told i) past wire t h = (going_keeps _ t).enabled

-- ---- a login that leaves
abbrev pub IsDisabling : Side → Type 0
IsDisabling (sides.Own note) = ⊥
IsDisabling (sides.Unsolicited place) = ⊥
IsDisabling side = Unit {0}

abbrev pub AreDisabling : List Side → Type 0
AreDisabling [] = Unit {0}
AreDisabling (side ∷ later) = IsDisabling side × AreDisabling later

-- its place, by the table of the office, is disabled
abbrev pub disabled : Side → Office → List Bool → List Bool
disabled (sides.Left id) o enabled = disabled_at (position (has_id id) o.table.places) enabled
disabled (sides.Expired id) o enabled = disabled_at (position (has_id id) o.table.places) enabled
disabled side o enabled = enabled

abbrev pub all_disabled : List Side → Office → List Bool → List Bool
all_disabled [] o enabled = enabled
all_disabled (side ∷ later) o enabled = all_disabled later (by_side side o) (disabled side o enabled)

disabled_length : (found : Option ℕ) (enabled : List Bool) → length (disabled_at found enabled) ≡ length enabled
disabled_length None enabled = refl
disabled_length (Some place) enabled = length-set enabled place false

one_length : (side : Side) (o : Office) (enabled : List Bool) → length (disabled side o enabled) ≡ length enabled
one_length (sides.Own note) o enabled = refl
one_length (sides.Opened place orb) o enabled = refl
one_length (sides.Ran place orb cdb payload outcome) o enabled = refl
one_length (sides.Ended place orb status) o enabled = refl
one_length (sides.Dead place cause) o enabled = refl
one_length (sides.Cut place cause) o enabled = refl
one_length (sides.Managed node function subject status login) o enabled = refl
one_length (sides.ManageFailed node cause) o enabled = refl
one_length (sides.Held login) o enabled = refl
one_length (sides.Expired login) o enabled = disabled_length (position (has_id login) o.table.places) enabled
one_length (sides.Back login) o enabled = refl
one_length (sides.Left login) o enabled = disabled_length (position (has_id login) o.table.places) enabled
one_length (sides.Cleared unit) o enabled = refl
one_length (sides.Unsolicited place) o enabled = refl
one_length (sides.Unsent place) o enabled = refl

pub all_length : (told : List Side) (o : Office) (enabled : List Bool) → length (all_disabled told o enabled) ≡ length enabled
all_length [] o enabled = refl
all_length (side ∷ later) o enabled = all_length later (by_side side o) (disabled side o enabled) ∙ one_length side o enabled

module _ (start : List Disk) (past : List Moment) where
  abbrev pub enabled_in : WorldState → List Bool
  enabled_in w = (term_in start past w).enabled

  abbrev pub wire_in : WorldState → Terms
  wire_in w = (known_at start (map said w.fresh ++ past)).wire

  pub one_note : (note : Note) (w : WorldState) → IsStill note → enabled_in (with_note note w) ≡ enabled_in w
  one_note note w h = note_still note (map said w.fresh ++ past) (wire_in w) (term_in start past w) h

  side_disabled : (weight : ℕ) (side : Side) (w : WorldState) → IsDisabling side → enabled_in (told weight side w) ≡ disabled side (office_in start past w) (enabled_in w)
  unfolding told
  side_disabled weight (sides.Own note) w h = absurd h
  side_disabled weight (sides.Opened place orb) w h = refl
  side_disabled weight (sides.Ran place orb cdb payload outcome) w h = one_note (notes.Ran _ _ _ _ cdb payload _) w tt
  side_disabled weight (sides.Ended place orb status) w h = one_note (notes.Ended _ _ _ status) w tt
  side_disabled weight (sides.Dead place cause) w h = one_note (notes.Dead _ _ cause) w tt
  side_disabled weight (sides.Cut place cause) w h = one_note (notes.Cut _ _ cause) w tt
  side_disabled weight (sides.Managed node function subject status login) w h = one_note (notes.Managed _ (function_word function) subject status (login_if (function_word function) status login)) w tt
  side_disabled weight (sides.ManageFailed node cause) w h = one_note (notes.ManageFailed (initiator_of w node) cause) w tt
  side_disabled weight (sides.Held login) w h = one_note (notes.Held login) w tt
  side_disabled weight (sides.Expired login) w h = refl
  side_disabled weight (sides.Back login) w h = one_note (notes.Back login) w tt
  side_disabled weight (sides.Left login) w h = refl
  side_disabled weight (sides.Cleared unit) w h = one_note (notes.Cleared unit) w tt
  side_disabled weight (sides.Unsolicited place) w h = absurd h
  side_disabled weight (sides.Unsent place) w h = one_note (notes.Unsent (holder w place).initiator) w tt

  behind : (side : Side) → IsDisabling side → TellsBehind side
  behind (sides.Own note) h = absurd h
  behind (sides.Opened place orb) h = tt
  behind (sides.Ran place orb cdb payload outcome) h = tt
  behind (sides.Ended place orb status) h = tt
  behind (sides.Dead place cause) h = tt
  behind (sides.Cut place cause) h = tt
  behind (sides.Managed node function subject status login) h = tt
  behind (sides.ManageFailed node cause) h = tt
  behind (sides.Held login) h = tt
  behind (sides.Expired login) h = tt
  behind (sides.Back login) h = tt
  behind (sides.Left login) h = tt
  behind (sides.Cleared unit) h = tt
  behind (sides.Unsolicited place) h = tt
  behind (sides.Unsent place) h = tt

  pub all_behind : (told : List Side) → AreDisabling told → AllBehind told
  all_behind [] h = tt
  all_behind (side ∷ later) h = (behind side h.0, all_behind later h.1)

  pub sides_disabled : (weight : ℕ) (later : List Side) (w : WorldState) → AreDisabling later → enabled_in (told_all weight later w) ≡ all_disabled later (office_in start past w) (enabled_in w)
  unfolding told_all
  sides_disabled weight [] w h = refl
  sides_disabled weight (side ∷ later) w h =
      let v = told weight side w in
      sides_disabled weight later v h.1
      ∙ ap (λ o. all_disabled later o (enabled_in v)) (one_side start past weight side w (behind side h.0))
      ∙ ap (all_disabled later (by_side side (office_in start past w))) (side_disabled weight side w h.0)

  -- ---- packets leave
  abbrev Still : WorldState → WorldState → Type 0
  Still w v = Keeps (term_in start past w) (term_in start past v)

  posted_still : (from to : ℕ) (bytes : List ℕ) (w : WorldState) → Still w (posted from to false bytes w)
  unfolding posted
  posted_still from to bytes w =
      let k = sent_keeps (w.store.last + 1) (topology_at w.generations from).generation from to bytes (map said w.fresh ++ past) (wire_in w) (term_in start past w) in
      record { enabled = k.enabled; table = k.table }

  pub injected_still : (from to : ℕ) (bytes : List ℕ) (w : WorldState) → enabled_in (posted from to true bytes w) ≡ enabled_in w
  unfolding posted
  injected_still from to bytes w =
      let v = with_note (notes.Injected (w.store.last + 1)) w in
      one_note (notes.Sent (w.store.last + 1) (topology_at w.generations from).generation from to bytes) v tt ∙ one_note (notes.Injected (w.store.last + 1)) w tt

  asked_still : (serial to node peer : ℕ) (label : Option LabelParts) (w v : WorldState) → Still w v → Still w (asked serial to node peer label v)
  asked_still serial to node peer None w v k = k
  asked_still serial to node peer (Some label) w v k = record { enabled = k.enabled; table = k.table }

  sent_still : (to : Option ℕ) (from : ℕ) (packet : Outgoing) (w : WorldState) → Still w (sent_to to from packet w)
  sent_still None from packet w = keeps_self (term_in start past w)
  sent_still (Some to) from packet w =
      asked_still (w.store.last + 1) to from packet.to packet.label w (posted from to false packet.bytes w) (posted_still from to packet.bytes w)

  pub all_still : (from : ℕ) (packets : List Outgoing) (w : WorldState) → Still w (sent_all from packets w)
  unfolding sent_all sent
  all_still from [] w = keeps_self (term_in start past w)
  all_still from (packet ∷ later) w =
      let v = sent from packet w in
      keeps_then (term_in start past w) (term_in start past v) (term_in start past (sent_all from later v)) (sent_still (node_of w.generations from packet.to) from packet w) (all_still from later v)
