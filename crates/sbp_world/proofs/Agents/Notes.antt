-- What the notes of a history make of the agents of its terms.
use Rattle.sbp_world.proofs.Words.Std.{arith, ◌≡◌, ◌∙◌, refl, sym, ap, subst, ℕ, ◌/◌, ◌^◌, ◌==◌, ◌<◌, Bool, true, false, cond, List, [], ◌∷◌, length, map, replicate, is_some, Option, Some, None, position, slice_index_or, slice_set, nat_tests, common_steps, quad}
use Rattle.sbp_world.proofs.Words.Wire.{Access, orb_pointer, Moment, Kind, Part, part_of, request, Terms, Note, FunctionWord}
use Rattle.sbp_world.proofs.Words.Target.{Disk, PlainDisk, Table, Effect, ManagerStep, AgentState, Machine, state_in, Desk, new_desk, desk_at, new_node, point_in, point_step, reply_step}
use Rattle.sbp_world.proofs.Words.Initiator.{Nothing, FailCause, At, Null, offset_at, pointer_at, Answer}
use Rattle.sbp_world.proofs.Words.Laws.{access_in_bytes, Agent, Decided, Reply, Target, agent_at, closed, cut_where, effect_on, entered_by, enters_in, going_on, is_own_run, is_write_access, main_lost, managed_by, manager_step, moved, new_agent, new_target, on_unit, plain_for, pointed_by, points, ran_on, register_got, reset_seen, sent_as, sent_for, taken_on, target_by, told_by, told_in, untold_by, wants, wants_it, with_agent, with_untold}
use Rattle.sbp_world.proofs.Words.World.{Office, office_of, AreOf, accessed, affected, changed, IsOf, address, agent_in, answered, crew_over, hired, hired_by, hired_in, sent_among, IsBehind, NotesLaw}
use Rattle.std.proofs.Common.{is_none}
use Rattle.orb_layout.specs.declared.ask.FailCause.TheVariants as causes
use Rattle.mgmt_agent.specs.declared.decision.Effect.TheVariants as effects
use Rattle.mgmt_agent.specs.Machine as manager
use Rattle.command_agent.specs.declared.step.AgentState.TheVariants as states
use Rattle.target_base.specs.declared.address.Access.TheVariants as accesses
use Rattle.sbp_journal.specs.declared.note.Note.TheVariants as notes
use Rattle.sbp_journal.specs.declared.operation.FunctionWord.TheVariants as functions
use Rattle.sbp_laws.proofs.Going.{going_still, run_still, taken_still}
use Rattle.sbp_world.specs.Agents.Calls.{seen}
use Rattle.sbp_world.specs.Agents.Notes.{by_note}
use Rattle.sbp_world.proofs.Agents.Lists.{at_own, set_twice}

-- ---- no reply waits
record Moves (t now : Target) (agents : List Agent) : Type 0 where
  agents_are : now.agents ≡ agents
  none : now.reply ≡ None

goes : (note : Note) (t : Target) → t.reply ≡ None → Moves t (going_on note t) t.agents
goes note t e = subst (λ (x : Target). Moves t x t.agents) (sym (going_still note t e)) (record { agents_are = refl; none = e })

runs : (is_own : Bool) (note : Note) (t : Target) → t.reply ≡ None → Moves t (ran_on is_own note t) t.agents
runs is_own note t e = subst (λ (x : Target). Moves t x t.agents) (sym (run_still is_own note t e)) (record { agents_are = refl; none = e })

hires_in : (place : Option ℕ) (decided : Option Decided) (id : ℕ) (t : Target) → t.reply ≡ None → Moves t (enters_in place decided id t) (hired_in place decided t.agents)
hires_in None decided id t e = record { agents_are = refl; none = e }
hires_in (Some place) None id t e = record { agents_are = refl; none = e }
hires_in (Some place) (Some d) id t e = record { agents_are = refl; none = e }

hires_by : (login : Option ℕ) (t : Target) → t.reply ≡ None → Moves t (entered_by login t) (hired_by login (office_of t) t.agents)
hires_by None t e = record { agents_are = refl; none = e }
hires_by (Some id) t e = hires_in (position is_none t.table.places) t.decided id t e

managing : (i subject status : ℕ) (word : FunctionWord) (login : Option ℕ) (past : List Moment) (wire : Terms) (t : Target) → t.reply ≡ None → Moves t (target_by (notes.Managed i word subject status login) past wire t) (hired word login (office_of t) t.agents)
managing i subject status functions.Login login past wire t e = hires_by login t e
managing i subject status functions.Query login past wire t e = goes _ t e
managing i subject status functions.Reconnect login past wire t e = goes _ t e
managing i subject status functions.Logout login past wire t e = goes _ t e
managing i subject status functions.Abort login past wire t e = goes _ t e
managing i subject status functions.AbortSet login past wire t e = goes _ t e
managing i subject status functions.UnitReset login past wire t e = goes _ t e
managing i subject status functions.TargetReset login past wire t e = goes _ t e
managing i subject status functions.Other login past wire t e = goes _ t e

dead : (i : ℕ) (list : Option ℕ) (cause : FailCause) (past : List Moment) (wire : Terms) (t : Target) → t.reply ≡ None → Moves t (target_by (notes.Dead i list cause) past wire t) (by_note (notes.Dead i list cause) (office_of t) t.agents)
dead i list causes.Timeout past wire t e = goes _ t e
dead i list causes.Label past wire t e = record {
  agents_are = ap (λ (x : Target). map main_lost x.agents) (taken_still None t e);
  none = ap (λ (x : Target). x.reply) (taken_still None t e) ∙ e;
}
dead i list causes.Refused past wire t e = goes _ t e
dead i list causes.Grammar past wire t e = goes _ t e

note_moves : (note : Note) (past : List Moment) (wire : Terms) (t : Target) → t.reply ≡ None → IsBehind note → Moves t (target_by note past wire t) (by_note note (office_of t) t.agents)
note_moves (notes.Begin initiators ready) past wire t e h = absurd h
note_moves (notes.Append i list orb cdb buffer) past wire t e h = goes _ t e
note_moves (notes.Low i list orb) past wire t e h = goes _ t e
note_moves (notes.Linked i list orb) past wire t e h = goes _ t e
note_moves (notes.Rung i list orb) past wire t e h = goes _ t e
note_moves (notes.Dummied i list orb) past wire t e h = goes _ t e
note_moves (notes.Sent serial generation from to bytes) past wire t e h = absurd h
note_moves (notes.Injected serial) past wire t e h = goes _ t e
note_moves (notes.Got serial) past wire t e h = absurd h
note_moves (notes.Ignored serial cause) past wire t e h = absurd h
note_moves (notes.Lost serial) past wire t e h = goes _ t e
note_moves (notes.TimedOut serial) past wire t e h = absurd h
note_moves (notes.Ran i n k unit cdb bytes check) past wire t e h =
    let g = runs (is_own_run t.reply i wire t) (notes.Ran i n k unit cdb bytes check) t e in record { agents_are = g.agents_are; none = g.none }
note_moves (notes.Ended i n k status) past wire t e h = goes _ t e
note_moves (notes.Taken i n k status answer) past wire t e h = goes _ t e
note_moves (notes.Cut i n cause) past wire t e h = goes _ t e
note_moves (notes.Dead i n cause) past wire t e h = dead i n cause past wire t e
note_moves (notes.Drop i list) past wire t e h = goes _ t e
note_moves (notes.Managed i word subject status login) past wire t e h = managing i subject status word login past wire t e
note_moves (notes.ManageFailed i cause) past wire t e h = record { agents_are = refl; none = e }
note_moves (notes.Held id) past wire t e h = record { agents_are = refl; none = e }
note_moves (notes.Expired id) past wire t e h = record { agents_are = refl; none = e }
note_moves (notes.Back id) past wire t e h = record { agents_are = refl; none = e }
note_moves (notes.Left id) past wire t e h = record { agents_are = refl; none = e }
note_moves (notes.Cleared unit) past wire t e h = record { agents_are = refl; none = e }
note_moves (notes.Op i operation word) past wire t e h = goes _ t e
note_moves (notes.Stuck i) past wire t e h = goes _ t e
note_moves (notes.Reset generation) past wire t e h = goes _ t e
note_moves (notes.Seen node generation) past wire t e h = absurd h
note_moves notes.Tick past wire t e h = absurd h
note_moves (notes.Refused line number) past wire t e h = goes _ t e
note_moves notes.Settled past wire t e h = goes _ t e
note_moves notes.Stopped past wire t e h = goes _ t e
note_moves (notes.Key unit) past wire t e h = absurd h
note_moves (notes.Unsolicited i) past wire t e h = record { agents_are = refl; none = e }
note_moves (notes.Unsent i) past wire t e h = goes _ t e
note_moves (notes.Told i) past wire t e h = goes _ t e

-- ---- a request of the target
manager_or : (b : Bool) (serial : ℕ) (t : Target) → (cond b (record t { manages = Some serial; manager_asks = Nothing }) (record t { pushes = serial ∷ t.pushes })).agents ≡ t.agents
manager_or true serial t = refl
manager_or false serial t = refl

pub sends_for : (place : Option ℕ) (w : Bool) (serial : ℕ) (t : Target) → (sent_for place w serial t).agents ≡ sent_among place w serial t.agents
sends_for None w serial t = manager_or (wants t.manager_asks w) serial t
sends_for (Some place) w serial t = refl

sends : (serial generation to : ℕ) (bytes : List ℕ) (label : ℕ) (kind : Kind) (past : List Moment) (wire : Terms) (t : Target) → t.reply ≡ None → part_of bytes ≡ request label kind → (let writes = is_write_access (access_in_bytes bytes) in (target_by (notes.Sent serial generation 0 to bytes) past wire t).agents ≡ sent_among (position (wants_it writes) t.agents) writes serial t.agents)
sends serial generation to bytes label kind past wire t e p =
    let writes = is_write_access (access_in_bytes bytes) in
    ap (λ (x : Target). (sent_as (part_of bytes) writes serial x).agents) (taken_still None t e)
    ∙ ap (λ (x : Part). (sent_as x writes serial t).agents) p
    ∙ sends_for (position (wants_it writes) t.agents) writes serial t

-- ---- a reply that waits
goes_on : (note : Note) (t : Target) (reply : Reply) → t.reply ≡ Some reply → length t.agents ≡ 8 → reply.place < 8 → (let plain = plain_for t reply in (going_on note t).agents ≡ changed reply.place (λ a. answered (told_by note plain) (untold_by note plain a.untold) reply.place plain reply.which reply.answer a) t.agents)
goes_on note t reply e size b =
    let plain = plain_for t reply in
    let a = agent_in t.agents reply.place in
    let c : Agent = record a { untold = untold_by note plain a.untold } in
    let told = told_by note plain in
    ap (λ (r : Option Reply). (taken_on (told_in r note t) r (with_untold note r t)).agents) e
    ∙ ap (λ (x : Agent). slice_set (slice_set t.agents reply.place c) reply.place (moved (reply_step x.machine reply.place plain told reply.which reply.answer) (closed reply.which x))) (at_own t.agents reply.place c size b)
    ∙ set_twice t.agents reply.place c (moved (reply_step a.machine reply.place plain told reply.which reply.answer) (closed reply.which c))
    ∙ ap (λ (u : Bool). slice_set t.agents reply.place (moved (reply_step a.machine reply.place plain told reply.which reply.answer) (closed reply.which (record a { untold = u })))) (untold_is note plain a.untold)
  where
    untold_is : (note : Note) (plain : PlainDisk) (u : Bool) → untold_by note plain u ≡ cond (is_some (told_by note plain)) (untold_by note plain u) u
    untold_is (notes.Ran i n k unit cdb bytes check) plain u = refl
    untold_is _ plain u = refl

-- ---- a new target
begins : (start : List Disk) (units ready : ℕ) → AreOf [] (new_target start).agents (new_node units ready)
begins start units ready = record {
  size = refl;
  each = λ p b.
      let a : agent_in (replicate 8 new_agent) p ≡ new_agent = grind (arith, nat_tests, common_steps) in
      let d : slice_index_or (replicate 8 new_desk) p new_desk ≡ new_desk = grind (arith, nat_tests, common_steps) in
      subst (λ (x : Agent). IsOf [] x (desk_at (new_node units ready) p)) (sym a) (subst (λ (x : Desk). IsOf [] new_agent x) (sym d) (record {
        machine = record {
          phase = refl;
          flag = refl;
          ahead = λ e. refl;
          doorbell = λ e. refl;
          present = λ e. refl;
          orb = λ e. refl;
          aborted = λ e. refl;
          payload = λ e. refl;
          segments = λ e. refl;
          written = λ e. refl;
          size = λ e. refl;
          answer = λ e f. refl;
          chunk = λ e f. refl;
          status = λ e. refl;
        };
        pointer = refl;
        main = refl;
        ahead = refl;
        main_is = tt;
        ahead_is = tt;
        asks = refl;
        asks_ahead = refl;
      }));
}

-- ---- the first note of a turn
effect_moves : (effect : Effect) (t : Target) → (effect_on effect t).agents ≡ affected effect (office_of t) t.agents
effect_moves effects.Nothing t = refl
effect_moves (effects.Entered place replaced) t = refl
effect_moves (effects.Back place) t = refl
effect_moves (effects.Left place) t = refl
effect_moves (effects.Abort place orb) t = refl
effect_moves (effects.AbortSet place) t = refl
effect_moves (effects.UnitReset unit) t = refl
effect_moves effects.TargetReset t = refl

-- what a decision does to agents is of the table and of the agents alone
affects_same : (effect : Effect) (o p : Office) (agents : List Agent) → o.table ≡ p.table → affected effect o agents ≡ affected effect p agents
affects_same effects.Nothing o p agents e = refl
affects_same (effects.Entered place replaced) o p agents e = refl
affects_same (effects.Back place) o p agents e = refl
affects_same (effects.Left place) o p agents e = refl
affects_same (effects.Abort place orb) o p agents e = refl
affects_same (effects.AbortSet place) o p agents e = refl
affects_same (effects.UnitReset unit) o p agents e = ap (λ (t : Table). cut_where (on_unit unit t.places) 0 agents) e
affects_same effects.TargetReset o p agents e = refl

manages_by : (r : ManagerStep × (manager.Machine × Table)) (answer : Answer) (t : Target) → (managed_by r answer t).agents ≡ affected r.0.effect (office_of t) t.agents
manages_by (step, (m, table)) answer t = effect_moves step.effect _ ∙ affects_same step.effect _ (office_of t) t.agents refl

resets_by : (later : Bool) (t : Target) → (reset_seen later t).agents ≡ seen later t.agents
resets_by true t = refl
resets_by false t = refl

refuses_null : (state : AgentState) (m : Machine) (x y : ℕ) (a : Agent) → pointed_by (point_in state m Null) x a ≡ pointed_by (point_in state m Null) y a
refuses_null states.Reset m x y a = refl
refuses_null states.Suspended m x y a = refl
refuses_null states.Active m x y a = refl
refuses_null states.Dead m x y a = refl

points_same : (null : Bool) (offset : ℕ) (a : Agent) → (let pointer = cond null Null (At offset) in pointed_by (point_step a.machine pointer) offset a ≡ pointed_by (point_step a.machine pointer) (address pointer) a)
unfolding point_step
points_same true offset a = refuses_null (state_in a.machine.phase) a.machine offset 0 a
points_same false offset a = refl

points_by : (place : ℕ) (access : Access) (t : Target) → access.is_write ≡ true → (register_got orb_pointer place access t).agents ≡ accessed (accesses.Point (pointer_at access.payload 0)) place t.agents
points_by place access t w =
    ap (λ (b : Bool). (cond b (with_agent t place (points access (agent_at t place))) t).agents) w
    ∙ ap (slice_set t.agents place) (points_same (quad access.payload 0 / 2 ^ 31 == 1) (offset_at access.payload 0) (agent_in t.agents place))

pub notes_law : NotesLaw
notes_law = record {
  begins = λ start units ready. begins start units ready;
  behind = λ note past wire t e h. let m = note_moves note past wire t e h in (m.agents_are, m.none);
  sent = λ serial generation to bytes label kind past wire t e p. sends serial generation to bytes label kind past wire t e p;
  replies = λ note t reply e size b. goes_on note t reply e size b;
  manages = λ answer t. manages_by (manager_step t answer) answer t;
  resets = λ later t. resets_by later t;
  cuts = λ place access t. refl;
  points = λ place access t w. points_by place access t w;
  rings = λ place access t. refl;
  ends = λ t e. ap (λ (x : Target). crew_over x.agents) (taken_still None t e);
}
