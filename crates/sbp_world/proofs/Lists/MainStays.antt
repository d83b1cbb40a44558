-- Moment by moment an agent of the terms keeps its main transaction, or a reply to it takes the agent on, or the agent is put into RESET. It asks for another one only where it has none.
use Rattle.sbp_world.proofs.Words.Std.{◌≡◌, ◌∙◌, refl, sym, ap, inl, inr, ◌⊎◌, ◌==◌, not, ℕ, zero, suc, ◌+◌, Bool, true, false, cond, List, [], ◌∷◌, map, Option, Some, None, Result, Ok, Err, is_none, position, slice_set, unwrap_or}
use Rattle.sbp_world.proofs.Words.Wire.{Access, Register, Start, agent_reset, agent_state, doorbell, management_agent, no_start, orb_pointer, register, rom_start, start_at, start_serves, unsolicited_enable, Moment, asked, said, Part, part_of, request, response, Terms, Event, Note}
use Rattle.sbp_world.proofs.Words.Target.{AgentStep, PointRefusal, Which, Ahead, Main, Machine, is_sent, Effect, ManagerStep, Busy, Table, Disk, Told}
use Rattle.sbp_world.proofs.Words.Initiator.{Ask, Nothing, Read, Write, offset_at, pointer_at, Answer, Expired}
use Rattle.sbp_world.proofs.Words.Laws.{access_in_bytes, access_at, answer_in, answered_at, id_for, packet_at, receiver_in, sender_in, Agent, Decided, Purpose, Reply, Target, agent_at, agent_over, closed, cut_agent, cut_where, decided_by, keep_decided, plain_for, reply_of, untold_by, effect_on, enters_in, for_agent, for_manager, for_nobody, going_on, got_by, is_nothing, is_serial, is_write_access, key_by, known_at, main_lost, managed_by, manager_step, moved, new_agent, on_unit, over, pointed_by, points, purpose_of, register_got, replied, replied_to, request_got, reset_seen, rings, sends_of, sent_as, sent_for, start_got, started_by, taken_on, target_at, target_by, told_in, wants, wants_it, with_untold, is_own_run, ran_on, event_of}
use Rattle.sbp_world.proofs.Words.World.{agent_in, HasOneMain, IsCut}
use Rattle.std.specs.Prelude.{replicate}
use Rattle.command_agent.specs.declared.phase.Phase.TheVariants as phases
use Rattle.command_agent.specs.Steps as steps
use Rattle.mgmt_agent.specs.declared.decision.Effect.TheVariants as effects
use Rattle.mgmt_agent.specs.Machine as manager
use Rattle.orb_layout.specs.declared.ask.FailCause.TheVariants as causes
use Rattle.sbp_journal.specs.Transactions.{no_packet}
use Rattle.sbp_journal.specs.declared.event.Event.TheVariants as events
use Rattle.sbp_journal.specs.declared.note.Note.TheVariants as notes
use Rattle.sbp_journal.specs.declared.operation.FunctionWord.TheVariants as functions
use Rattle.sbp_world.specs.Lists.LetsGo.{IsAnswered}
use Rattle.sbp_world.proofs.Lists.MainSteps.{IsQuiet, IsSound, IsTaken, doorbell_rung, lost_quiet, main_is_lost, main_sound, point_taken, read_quiet}
use Rattle.sbp_world.proofs.Common.{untrue, none_is}

-- ---- an agent
-- Its main transaction stays, or it is let go so.
pub record Keeps (lets : Agent → Type 0) (before now : Agent) : Type 0 where
  pub one : HasOneMain before → HasOneMain now
  pub stays : HasOneMain before → (s : ℕ) → before.main ≡ Some s → (now.main ≡ Some s) ⊎ lets now

self : (L : Agent → Type 0) (a : Agent) → Keeps L a a
self L a = record { one = λ h. h; stays = λ h s e. inl e }

-- by a reply, or by RESET too
abbrev By : Type 0 → Agent → Type 0
By answered now = answered

abbrev Or : Type 0 → Agent → Type 0
Or answered now = answered ⊎ IsCut now

wider : (A : Type 0) (before now : Agent) → Keeps (By A) before now → Keeps (Or A) before now
wider A before now k = record { one = k.one; stays = λ h s e. by s (k.stays h s e) }
  where
    by : (s : ℕ) → (now.main ≡ Some s) ⊎ A → (now.main ≡ Some s) ⊎ (A ⊎ IsCut now)
    by s (inl e) = inl e
    by s (inr x) = inr (inl x)

-- first by a reply
then_keeps : (A : Type 0) (L : Agent → Type 0) (a b c : Agent) → (A → L c) → Keeps (By A) a b → Keeps L b c → Keeps L a c
then_keeps A L a b c w f g = record { one = λ h. g.one (f.one h); stays = λ h s e. by h s (f.stays h s e) }
  where
    by : HasOneMain a → (s : ℕ) → (b.main ≡ Some s) ⊎ A → (c.main ≡ Some s) ⊎ L c
    by h s (inl e) = g.stays (f.one h) s e
    by h s (inr x) = inr (w x)

-- what waits is the same
same_keeps : (L : Agent → Type 0) (a now : Agent) → now.main ≡ a.main → (is_sent now.machine.phase ≡ false → is_sent a.machine.phase ≡ false) → is_nothing now.asks ≡ true → Keeps L a now
same_keeps L a now e f n = record {
  one = λ h. record { none = λ x. e ∙ h.none (f x); asks = λ x. untrue (sym x ∙ n) };
  stays = λ h s m. inl (e ∙ m);
}

-- it has none
no_main : (a : Agent) (s : ℕ) → {A : Type 0} → a.main ≡ None → a.main ≡ Some s → A
no_main a s e f = none_is s (sym e ∙ f)

-- in no way
abbrev Never : Agent → Type 0
Never now = ⊥

surely : (L : Agent → Type 0) (a now : Agent) → Keeps Never a now → Keeps L a now
surely L a now k = record { one = k.one; stays = λ h s e. by s (k.stays h s e) }
  where
    by : (s : ℕ) → (now.main ≡ Some s) ⊎ ⊥ → (now.main ≡ Some s) ⊎ L now
    by s (inl e) = inl e
    by s (inr x) = absurd x

then_never : (L : Agent → Type 0) (a b c : Agent) → Keeps Never a b → Keeps L b c → Keeps L a c
then_never L a b c f g = then_keeps ⊥ L a b c (λ x. absurd x) (record { one = f.one; stays = f.stays }) g

loses : (a : Agent) → Keeps Never a (main_lost a)
loses a = by (is_nothing a.asks) refl
  where
    step : AgentStep × Machine
    step = steps.lost_step a.machine Main causes.Label

    same : (moved step a).main ≡ a.main
    same = ap (λ b. cond b a.ahead a.main) (main_is_lost a.machine causes.Label).stays

    by : (b : Bool) → is_nothing a.asks ≡ b → Keeps Never a (cond b a (moved step a))
    by true e = self Never a
    by false e = record {
      one = λ h. record { none = λ x. same ∙ (h.asks e).0; asks = λ x. (same ∙ (h.asks e).0, (main_is_lost a.machine causes.Label).sound.asks x) };
      stays = λ h s m. no_main a s (h.asks e).0 m;
    }

ends : (a : Agent) → Keeps Never a (agent_over a)
ends a = then_never Never a x (agent_over a) (loses a) (rest (is_nothing x.asks_ahead))
  where
    x : Agent
    x = main_lost a

    y : Bool → Agent
    y b = record (cond b x (record x { machine = (steps.lost_step x.machine Ahead causes.Label).1; asks_ahead = Nothing })) { asks = Nothing }

    rest : (b : Bool) → Keeps Never x (y b)
    rest true = same_keeps Never x (y true) refl (λ e. e) refl
    rest false = same_keeps Never x (y false) refl (λ e. ap is_sent (sym (lost_quiet x.machine causes.Label).phase) ∙ e) refl

-- a reply takes it on
replies : (step : AgentStep × Machine) (a : Agent) → IsSound step → Keeps (By (Unit {0})) a (moved step (closed Main a))
replies step a h = record {
  one = λ t. record { none = λ e. none step.0.promoted refl e; asks = λ e. asks step.0.promoted refl e };
  stays = λ t s e. inr tt;
}
  where
    now : Agent
    now = moved step (closed Main a)

    main : (b : Bool) → step.0.promoted ≡ b → now.main ≡ cond b a.ahead None
    main b e = ap (λ b. cond b a.ahead None) e

    none : (b : Bool) → step.0.promoted ≡ b → is_sent step.1.phase ≡ false → now.main ≡ None
    none true e f = untrue (sym f ∙ (h.promotes e).1)
    none false e f = main false e

    asks : (b : Bool) → step.0.promoted ≡ b → is_nothing step.0.ask ≡ false → (now.main ≡ None) × (is_sent step.1.phase ≡ true)
    asks true e f = untrue (sym f ∙ (h.promotes e).0)
    asks false e f = (main false e, h.asks f)

replies_ahead : (step : AgentStep × Machine) (a : Agent) → IsQuiet a.machine step → Keeps Never a (moved step (closed Ahead a))
replies_ahead step a q = same_keeps Never a (moved step (closed Ahead a)) (ap (λ (x : AgentStep). cond x.promoted None a.main) q.nothing) (λ e. ap is_sent (sym q.phase) ∙ e) (ap (λ (x : AgentStep). is_nothing x.ask) q.nothing)

pointed : (r : Result Ask PointRefusal × Machine) (pointer : ℕ) (a : Agent) → IsTaken a.machine r → Keeps Never a (pointed_by r pointer a)
pointed (Err refusal, machine) pointer a x = self Never a
pointed (Ok ask, machine) pointer a x = record {
  one = λ h. record { none = λ e. untrue (sym e ∙ x.1); asks = λ e. (h.none x.0, x.1) };
  stays = λ h s e. inl e;
}

rung : (a : Agent) → Keeps Never a (rings a)
rung a = let x = doorbell_rung a.machine in record {
  one = λ h. record { none = λ e. h.none (x.rests e); asks = λ e. (h.none (x.asks e).0, (x.asks e).1) };
  stays = λ h s e. inl e;
}

pub abort_phase : (m : Machine) (orb : ℕ) → (steps.abort_step m orb).phase ≡ m.phase
unfolding steps.abort_step
abort_phase m orb = refl

aborted : (a : Agent) (orb : ℕ) → Keeps Never a (record a { machine = steps.abort_step a.machine orb })
aborted a orb = record {
  one = λ h. record { none = λ e. h.none (ap is_sent (sym (abort_phase a.machine orb)) ∙ e); asks = λ e. ((h.asks e).0, ap is_sent (abort_phase a.machine orb) ∙ (h.asks e).1) };
  stays = λ h s e. inl e;
}

pub reset_phase : (m : Machine) → (steps.reset_step m).phase ≡ phases.Reset
unfolding steps.reset_step
reset_phase m = refl

cuts : (a : Agent) → Keeps IsCut a (cut_agent a)
cuts a = record {
  one = λ h. record { none = λ e. refl; asks = λ e. untrue (sym e) };
  stays = λ h s e. inr (reset_phase a.machine);
}

begins : (a : Agent) → Keeps IsCut a new_agent
begins a = record {
  one = λ h. record { none = λ e. refl; asks = λ e. untrue (sym e) };
  stays = λ h s e. inr refl;
}

pub wanted : (ask : Ask) (is_write : Bool) → wants ask is_write ≡ true → is_nothing ask ≡ false
wanted (Read offset size) is_write e = refl
wanted (Write offset size) is_write e = refl
wanted Nothing is_write e = untrue e

sends : (is_write : Bool) (serial : ℕ) (a : Agent) → Keeps Never a (sends_of is_write serial a)
sends is_write serial a = by (wants a.asks is_write) (wants a.asks_ahead is_write) refl
  where
    by : (x y : Bool) → wants a.asks is_write ≡ x → Keeps Never a (cond x (record a { main = Some serial; asks = Nothing }) (cond y (record a { ahead = Some serial; asks_ahead = Nothing }) a))
    by true y e = record {
      one = λ h. record { none = λ f. untrue (sym f ∙ (h.asks (wanted a.asks is_write e)).1); asks = λ f. untrue (sym f) };
      stays = λ h s m. no_main a s (h.asks (wanted a.asks is_write e)).0 m;
    }
    by false true e = record { one = λ h. record { none = h.none; asks = h.asks }; stays = λ h s m. inl m }
    by false false e = self Never a

-- ---- the agents of all places
abbrev Goes : (ℕ → Agent → Type 0) → (before now : List Agent) → Type 0
Goes L before now = (p : ℕ) → Keeps (L p) (agent_in before p) (agent_in now p)

stay : (L : ℕ → Agent → Type 0) (agents : List Agent) → Goes L agents agents
stay L agents = λ p. self (L p) (agent_in agents p)

set_goes : (L : ℕ → Agent → Type 0) (agents : List Agent) (k : ℕ) (x : Agent) → Keeps (L k) (agent_in agents k) x → Goes L agents (slice_set agents k x)
set_goes L [] k x h p = self (L p) (agent_in [] p)
set_goes L (a ∷ agents) zero x h zero = h
set_goes L (a ∷ agents) zero x h (suc p) = self (L (suc p)) (agent_in agents p)
set_goes L (a ∷ agents) (suc k) x h zero = self (L zero) a
set_goes L (a ∷ agents) (suc k) x h (suc p) = set_goes (λ q. L (suc q)) agents k x h p

map_goes : (L : ℕ → Agent → Type 0) (f : Agent → Agent) (agents : List Agent) → ((p : ℕ) (a : Agent) → Keeps (L p) a (f a)) → Goes L agents (map f agents)
map_goes L f [] h p = self (L p) (agent_in [] p)
map_goes L f (a ∷ agents) h zero = h zero a
map_goes L f (a ∷ agents) h (suc p) = map_goes (λ q. L (suc q)) f agents (λ q. h (suc q)) p

where_goes : (test : ℕ → Bool) (place : ℕ) (agents : List Agent) → Goes (λ q. IsCut) agents (cut_where test place agents)
where_goes test place [] p = self IsCut (agent_in [] p)
where_goes test place (a ∷ agents) zero = by (test place)
  where
    by : (b : Bool) → Keeps IsCut a (cond b (cut_agent a) a)
    by true = cuts a
    by false = self IsCut a
where_goes test place (a ∷ agents) (suc p) = where_goes test (place + 1) agents p

-- ---- the target
-- by a reply that waits, for each place
abbrev Answers : Option Reply → ℕ → Agent → Type 0
Answers reply p now = IsAnswered reply p

abbrev Nowhere : ℕ → Agent → Type 0
Nowhere p = Never

abbrev Cuts : ℕ → Agent → Type 0
Cuts p = IsCut

abbrev Either : Option Reply → ℕ → Agent → Type 0
Either reply p now = IsAnswered reply p ⊎ IsCut now

surely_all : (L : ℕ → Agent → Type 0) (a b : List Agent) → Goes Nowhere a b → Goes L a b
surely_all L a b f = λ p. surely (L p) (agent_in a p) (agent_in b p) (f p)

then_all : (L : ℕ → Agent → Type 0) (a b c : List Agent) → Goes Nowhere a b → Goes L b c → Goes L a c
then_all L a b c f g = λ p. then_never (L p) (agent_in a p) (agent_in b p) (agent_in c p) (f p) (g p)

-- behind a reply
behind : (reply : Option Reply) (L : ℕ → Agent → Type 0) (a b c : List Agent) → ((p : ℕ) (x : Agent) → IsAnswered reply p → L p x) → Goes (Answers reply) a b → Goes L b c → Goes L a c
behind reply L a b c w f g = λ p. then_keeps (IsAnswered reply p) (L p) (agent_in a p) (agent_in b p) (agent_in c p) (w p (agent_in c p)) (f p) (g p)

takes_on : (told : Option Told) (reply : Option Reply) (t : Target) → Goes (Answers reply) t.agents (taken_on told reply t).agents
takes_on told None t = stay (Answers None) t.agents
takes_on told (Some reply) t = set_goes (Answers (Some reply)) t.agents reply.place (moved (reply_of t reply told) (closed reply.which (agent_at t reply.place))) (by reply.which refl)
  where
    a : Agent
    a = agent_at t reply.place

    step_by : Which → AgentStep × Machine
    step_by which = steps.reply_step a.machine reply.place (plain_for t reply) told which reply.answer

    by : (which : Which) → reply.which ≡ which → Keeps (By (IsAnswered (Some reply) reply.place)) a (moved (step_by which) (closed which a))
    by Main e =
        let k = replies (step_by Main) a (main_sound a.machine reply.place (plain_for t reply) told reply.answer) in
        record { one = k.one; stays = λ h s m. inr (refl, e) }
    by Ahead e = surely (By (IsAnswered (Some reply) reply.place)) a (moved (step_by Ahead) (closed Ahead a)) (replies_ahead (step_by Ahead) a (read_quiet a.machine reply.place (plain_for t reply) told reply.answer))

unsaid : (note : Note) (reply : Option Reply) (t : Target) → Goes Nowhere t.agents (with_untold note reply t).agents
unsaid note None t = stay Nowhere t.agents
unsaid note (Some reply) t =
    let a = agent_at t reply.place in
    let b : Agent = record a { untold = untold_by note (plain_for t reply) a.untold } in
    set_goes Nowhere t.agents reply.place b (record { one = λ h. record { none = h.none; asks = h.asks }; stays = λ h s e. inl e })

goes_on_by : (note : Note) (t : Target) → Goes (Answers t.reply) t.agents (going_on note t).agents
goes_on_by note t =
    then_all (Answers t.reply) t.agents (with_untold note t.reply t).agents (going_on note t).agents (unsaid note t.reply t) (takes_on (told_in t.reply note t) t.reply (with_untold note t.reply t))

runs_on : (is_own : Bool) (note : Note) (t : Target) → Goes (Answers t.reply) t.agents (ran_on is_own note t).agents
runs_on true note t = goes_on_by note t
runs_on false note t = takes_on None t.reply t

answers_stay : (reply : Option Reply) (p : ℕ) (x : Agent) → IsAnswered reply p → IsAnswered reply p
answers_stay reply p x h = h

pub ends_turn : (t : Target) → Goes (Answers t.reply) t.agents (over t).agents
ends_turn t =
    behind t.reply (Answers t.reply) t.agents (taken_on None t.reply t).agents (over t).agents (answers_stay t.reply) (takes_on None t.reply t)
    (surely_all (Answers t.reply) (taken_on None t.reply t).agents (over t).agents (map_goes Nowhere agent_over (taken_on None t.reply t).agents (λ p. ends)))

affects : (effect : Effect) (t : Target) → Goes Cuts t.agents (effect_on effect t).agents
affects (effects.Left place) t = set_goes Cuts t.agents place (cut_agent (agent_at t place)) (cuts (agent_at t place))
affects (effects.Abort place orb) t =
    let a = agent_at t place in
    let b : Agent = record a { machine = steps.abort_step a.machine orb } in
    set_goes Cuts t.agents place b (surely IsCut a b (aborted a orb))
affects (effects.AbortSet place) t = set_goes Cuts t.agents place (cut_agent (agent_at t place)) (cuts (agent_at t place))
affects (effects.UnitReset unit) t = where_goes (on_unit unit t.table.places) 0 t.agents
affects effects.TargetReset t = map_goes Cuts cut_agent t.agents (λ p. cuts)
affects _ t = stay Cuts t.agents

manages_by : (r : ManagerStep × (manager.Machine × Table)) (answer : Answer) (t : Target) → Goes Cuts t.agents (managed_by r answer t).agents
manages_by (step, (machine, table)) answer t =
    affects step.effect (record t {
      manager = machine;
      manages = None;
      manager_asks = step.ask;
      decided = keep_decided step.decided (decided_by t.manager.operation answer) t.decided;
    })

replies_to : (purpose : Purpose) (answer : Answer) (t : Target) → Goes Cuts t.agents (replied_to purpose answer t).agents
replies_to (for_agent place which) answer t = stay Cuts t.agents
replies_to for_manager answer t = manages_by (manager_step t answer) answer t
replies_to for_nobody answer t = stay Cuts t.agents

starts_by : (r : Result Ask Busy × manager.Machine) (t : Target) → Goes Cuts t.agents (started_by r t).agents
starts_by (Err busy, machine) t = stay Cuts t.agents
starts_by (Ok ask, machine) t = stay Cuts t.agents

registers : (name : Register) (place : ℕ) (access : Access) (t : Target) → Goes Cuts t.agents (register_got name place access t).agents
registers agent_reset place access t = set_goes Cuts t.agents place (cut_agent (agent_at t place)) (cuts (agent_at t place))
registers orb_pointer place access t = by access.is_write
  where
    a : Agent
    a = agent_at t place

    by : (b : Bool) → Goes Cuts t.agents (cond b (record t { agents = slice_set t.agents place (points access a) }) t).agents
    by true = set_goes Cuts t.agents place (points access a) (surely IsCut a (points access a) (pointed (steps.point_step a.machine (pointer_at access.payload 0)) (offset_at access.payload 0) a (point_taken a.machine (pointer_at access.payload 0))))
    by false = stay Cuts t.agents
registers doorbell place access t = set_goes Cuts t.agents place (rings (agent_at t place)) (surely IsCut (agent_at t place) (rings (agent_at t place)) (rung (agent_at t place)))
registers unsolicited_enable place access t = stay Cuts t.agents
registers agent_state place access t = stay Cuts t.agents

starts_got : (start : Start) (source : ℕ) (access : Access) (t : Target) → Goes Cuts t.agents (start_got start source access t).agents
starts_got (register place name) source access t = registers name place access t
starts_got management_agent source access t = starts_by (manager.start_step t.manager source (offset_at access.payload 0)) t
starts_got rom_start source access t = stay Cuts t.agents
starts_got no_start source access t = stay Cuts t.agents

requests_got : (access : Option Access) (source : ℕ) (t : Target) → Goes Cuts t.agents (request_got access source t).agents
requests_got None source t = stay Cuts t.agents
requests_got (Some access) source t = by (start_serves (start_at access.offset) access)
  where
    by : (b : Bool) → Goes Cuts t.agents (cond b (start_got (start_at access.offset) source access t) t).agents
    by true = starts_got (start_at access.offset) source access t
    by false = stay Cuts t.agents

gets_by : (own : Option ℕ) (wire : Terms) (serial : ℕ) (t : Target) → Goes Cuts t.agents (got_by own wire serial t).agents
gets_by (Some own) wire serial t = replies_to (purpose_of t own) (answer_in (packet_at wire serial)) t
gets_by None wire serial t = requests_got (access_at wire serial) (id_for wire 0 (unwrap_or (sender_in (wire.sent serial)) 0)) t

sends_for : (place : Option ℕ) (is_write : Bool) (serial : ℕ) (t : Target) → Goes Nowhere t.agents (sent_for place is_write serial t).agents
sends_for (Some place) is_write serial t = set_goes Nowhere t.agents place (sends_of is_write serial (agent_at t place)) (sends is_write serial (agent_at t place))
sends_for None is_write serial t = by (wants t.manager_asks is_write)
  where
    by : (b : Bool) → Goes Nowhere t.agents (cond b (record t { manages = Some serial; manager_asks = Nothing }) (record t { pushes = serial ∷ t.pushes })).agents
    by true = stay Nowhere t.agents
    by false = stay Nowhere t.agents

sends_as : (part : Part) (is_write : Bool) (serial : ℕ) (t : Target) → Goes Nowhere t.agents (sent_as part is_write serial t).agents
sends_as (request label kind) is_write serial t = sends_for (position (wants_it is_write) t.agents) is_write serial t
sends_as (response label kind) is_write serial t = stay Nowhere t.agents
sends_as no_packet is_write serial t = stay Nowhere t.agents

resets_by : (b : Bool) (t : Target) → Goes Cuts t.agents (reset_seen b t).agents
resets_by true t = map_goes Cuts cut_agent t.agents (λ p. cuts)
resets_by false t = stay Cuts t.agents

enters_by : (place : Option ℕ) (decided : Option Decided) (id : ℕ) (t : Target) → Goes Cuts t.agents (enters_in place decided id t).agents
enters_by None decided id t = stay Cuts t.agents
enters_by (Some place) None id t = stay Cuts t.agents
enters_by (Some place) (Some decided) id t = set_goes Cuts t.agents place new_agent (begins (agent_at t place))

keys : (event : Option Event) (unit : ℕ) (t : Target) → Goes Cuts t.agents (key_by event unit t).agents
keys None unit t = stay Cuts t.agents
keys (Some (events.Begin initiators ready)) unit t = stay Cuts t.agents
keys (Some (events.Act initiator action)) unit t = stay Cuts t.agents
keys (Some (events.Reset ids)) unit t = stay Cuts t.agents
keys (Some (events.See node)) unit t = stay Cuts t.agents
keys (Some (events.Deliver serial)) unit t = stay Cuts t.agents
keys (Some (events.Repeat serial)) unit t = stay Cuts t.agents
keys (Some (events.Lose serial)) unit t = stay Cuts t.agents
keys (Some (events.Timeout serial)) unit t = stay Cuts t.agents
keys (Some (events.Step count)) unit t = stay Cuts t.agents
keys (Some events.Settle) unit t = stay Cuts t.agents
keys (Some events.Tick) unit t = stay Cuts t.agents
keys (Some (events.Inject initiator bytes)) unit t = stay Cuts t.agents
keys (Some (events.Key other key)) unit t = stay Cuts t.agents

-- ---- each note
-- for or not, behind the end of the turn before
over_or : (b : Bool) (t x : Target) → Goes Cuts (over t).agents x.agents → Goes Cuts (over t).agents (cond b x (over t)).agents
over_or true t x g = g
over_or false t x g = stay Cuts (over t).agents

or_cuts : (reply : Option Reply) (a b : List Agent) → Goes Cuts a b → Goes (Either reply) a b
or_cuts reply a b f = λ p. let k = f p in record { one = k.one; stays = λ h s e. by p s (k.stays h s e) }
  where
    by : (p s : ℕ) → ((agent_in b p).main ≡ Some s) ⊎ IsCut (agent_in b p) → ((agent_in b p).main ≡ Some s) ⊎ (IsAnswered reply p ⊎ IsCut (agent_in b p))
    by p s (inl e) = inl e
    by p s (inr x) = inr (inr x)

or_answers : (reply : Option Reply) (a b : List Agent) → Goes (Answers reply) a b → Goes (Either reply) a b
or_answers reply a b f = λ p. wider (IsAnswered reply p) (agent_in a p) (agent_in b p) (f p)

-- the turn before ends, and then this
then_so : (t : Target) (x : List Agent) → Goes Cuts (over t).agents x → Goes (Either t.reply) t.agents x
then_so t x g = behind t.reply (Either t.reply) t.agents (over t).agents x (λ p y h. inl h) (ends_turn t) (or_cuts t.reply (over t).agents x g)

cuts_only : (t : Target) (x : List Agent) → Goes Cuts t.agents x → Goes (Either t.reply) t.agents x
cuts_only t x g = or_cuts t.reply t.agents x g

answers_only : (t : Target) (x : List Agent) → Goes (Answers t.reply) t.agents x → Goes (Either t.reply) t.agents x
answers_only t x g = or_answers t.reply t.agents x g

pub note_goes : (note : Note) (past : List Moment) (wire : Terms) (t : Target) → Goes (Either t.reply) t.agents (target_by note past wire t).agents
note_goes (notes.Begin initiators ready) past wire t = stay (Either t.reply) t.agents
note_goes (notes.Got serial) past wire t =
    then_so t (target_by (notes.Got serial) past wire t).agents
    (over_or (is_serial (receiver_in (wire.sent serial)) 0) t (got_by (answered_at wire serial) wire serial (over t)) (gets_by (answered_at wire serial) wire serial (over t)))
note_goes (notes.Ignored serial cause) past wire t = answers_only t (over t).agents (ends_turn t)
note_goes (notes.TimedOut serial) past wire t =
    then_so t (target_by (notes.TimedOut serial) past wire t).agents
    (over_or (is_serial (sender_in (wire.sent serial)) 0) t (replied serial Expired (over t)) (replies_to (purpose_of (over t) serial) Expired (over t)))
note_goes (notes.Seen node generation) past wire t =
    then_so t (target_by (notes.Seen node generation) past wire t).agents
    (over_or (node == 0) t (reset_seen (not (generation == wire.generation 0)) (over t)) (resets_by (not (generation == wire.generation 0)) (over t)))
note_goes notes.Tick past wire t = answers_only t (over t).agents (ends_turn t)
note_goes (notes.Ran i m k unit cdb bytes check) past wire t =
    let own = is_own_run t.reply i wire t in
    let note = notes.Ran i m k unit cdb bytes check in answers_only t (ran_on own note t).agents (runs_on own note t)
note_goes (notes.Sent serial generation from to bytes) past wire t =
    answers_only t (target_by (notes.Sent serial generation from to bytes) past wire t).agents
    (behind t.reply (Answers t.reply) t.agents x.agents (target_by (notes.Sent serial generation from to bytes) past wire t).agents (answers_stay t.reply) (takes_on None t.reply t) (by (from == 0)))
  where
    x : Target
    x = taken_on None t.reply t

    by : (b : Bool) → Goes (Answers t.reply) x.agents (cond b (sent_as (part_of bytes) (is_write_access (access_in_bytes bytes)) serial x) x).agents
    by true = surely_all (Answers t.reply) x.agents (sent_as (part_of bytes) (is_write_access (access_in_bytes bytes)) serial x).agents (sends_as (part_of bytes) (is_write_access (access_in_bytes bytes)) serial x)
    by false = stay (Answers t.reply) x.agents
note_goes (notes.Dead i m causes.Label) past wire t =
    let x = (taken_on None t.reply t).agents in
    let now = (target_by (notes.Dead i m causes.Label) past wire t).agents in
    answers_only t now (behind t.reply (Answers t.reply) t.agents x now (answers_stay t.reply) (takes_on None t.reply t) (surely_all (Answers t.reply) x now (map_goes Nowhere main_lost x (λ p. loses))))
note_goes (notes.ManageFailed i cause) past wire t = stay (Either t.reply) t.agents
note_goes (notes.Managed i functions.Login subject status None) past wire t = stay (Either t.reply) t.agents
note_goes (notes.Managed i functions.Login subject status (Some id)) past wire t =
    cuts_only t (target_by (notes.Managed i functions.Login subject status (Some id)) past wire t).agents (enters_by (position is_none t.table.places) t.decided id t)
note_goes (notes.Held id) past wire t = stay (Either t.reply) t.agents
note_goes (notes.Back id) past wire t = stay (Either t.reply) t.agents
note_goes (notes.Left id) past wire t = stay (Either t.reply) t.agents
note_goes (notes.Expired id) past wire t = stay (Either t.reply) t.agents
note_goes (notes.Cleared unit) past wire t = stay (Either t.reply) t.agents
note_goes (notes.Key unit) past wire t = cuts_only t (target_by (notes.Key unit) past wire t).agents (keys (event_of past) unit t)
note_goes (notes.Unsolicited i) past wire t = stay (Either t.reply) t.agents
note_goes note past wire t = answers_only t (going_on note t).agents (goes_on_by note t)

-- ---- a history
module _ (start : List Disk) where
  pub moment_goes : (m : Moment) (past : List Moment) → Goes (Either (target_at start past).reply) (target_at start past).agents (target_at start (m ∷ past)).agents
  moment_goes (asked line event) past = let t = target_at start past in answers_only t (over t).agents (ends_turn t)
  moment_goes (said note) past = note_goes note past (known_at start past).wire (target_at start past)

  new_one : HasOneMain new_agent
  new_one = record { none = λ e. refl; asks = λ e. untrue (sym e) }

  first_one : (n p : ℕ) → HasOneMain (agent_in (replicate n new_agent) p)
  first_one zero p = new_one
  first_one (suc n) zero = new_one
  first_one (suc n) (suc p) = first_one n p

  -- always an agent has one main transaction at most
  pub has_one : (past : List Moment) (p : ℕ) → HasOneMain (agent_in (target_at start past).agents p)
  has_one [] p = first_one 8 p
  has_one (m ∷ past) p = (moment_goes m past p).one (has_one past p)

  pub stays_or : (m : Moment) (past : List Moment) (p s : ℕ) → (agent_at (target_at start past) p).main ≡ Some s → ((agent_at (target_at start (m ∷ past)) p).main ≡ Some s) ⊎ (IsAnswered (target_at start past).reply p ⊎ IsCut (agent_at (target_at start (m ∷ past)) p))
  stays_or m past p s e = (moment_goes m past p).stays (has_one past p) s e

  -- at the end of a turn
  pub over_or_answered : (past : List Moment) (p s : ℕ) → (agent_at (target_at start past) p).main ≡ Some s → ((agent_at (over (target_at start past)) p).main ≡ Some s) ⊎ IsAnswered (target_at start past).reply p
  over_or_answered past p s e = (ends_turn (target_at start past) p).stays (has_one past p) s e
