-- By the terms of every history in which serials count, an agent is SUSPENDED only where its last ORB's status was answered, the next pointer that was got last is null, and no DOORBELL came since its read was sent.
use Rattle.std.proofs.Common.{◌≡◌, ◌∙◌, refl, sym, ap, subst, ℕ, ◌==◌, ◌&&◌, ◌||◌, not, is_some, Bool, true, false, cond, List, length, Option, Some, None, Result, Ok, Err}
use Rattle.bus_transactions.specs.Packets.{SerialsCount}
use Rattle.command_agent.specs.declared.phase.Phase.{Phase}
use Rattle.command_agent.specs.declared.phase.Phase.TheVariants as phases
use Rattle.command_agent.specs.declared.phase.ReadAhead.{ReadAhead}
use Rattle.command_agent.specs.declared.phase.ReadAhead.TheVariants as aheads
use Rattle.command_agent.specs.declared.step.AgentState.{AgentState}
use Rattle.command_agent.specs.declared.step.AgentState.TheVariants as states
use Rattle.command_agent.specs.declared.step.AgentStep.{AgentStep}
use Rattle.command_agent.specs.declared.step.PointRefusal.{PointRefusal}
use Rattle.command_agent.specs.declared.step.Which.{Which}
use Rattle.command_agent.specs.declared.step.Which.TheVariants.{Ahead, Main}
use Rattle.command_agent.specs.Machine.{Machine, is_ahead, new_machine, rung_in, state_in}
use Rattle.command_agent.specs.Steps.{abort_step, ahead_lost as machine_ahead_lost, ahead_read, ahead_step, asks, doorbell_in, doorbell_step, is_label, lost_step, main_lost as machine_lost, point_in, point_step, pointed, quiet, reply_step, reset_step}
use Rattle.orb_layout.specs.declared.ask.Ask.{Ask}
use Rattle.orb_layout.specs.declared.ask.Ask.TheVariants.{Nothing}
use Rattle.orb_layout.specs.declared.ask.FailCause.{FailCause}
use Rattle.orb_layout.specs.declared.ask.FailCause.TheVariants as causes
use Rattle.orb_layout.specs.declared.pointer.OrbPointer.{OrbPointer}
use Rattle.orb_layout.specs.declared.pointer.OrbPointer.TheVariants.{At, Null}
use Rattle.orb_layout.specs.Pointers.{offset_at, pointer_at}
use Rattle.orb_layout.specs.Replies.{Answer, Done, Expired, NoLabel, Payload, Refused, payload_of}
use Rattle.rbc_disk.specs.Disk.{Disk}
use Rattle.rbc_disk.specs.Runs.{Told}
use Rattle.rbc_disk.specs.Units.{PlainDisk}
use Rattle.sbp_journal.specs.Addresses.{Access}
use Rattle.sbp_journal.specs.Run.{Moment}
use Rattle.sbp_laws.specs.Progress.{Progress, gets_ahead, gets_by, gets_main, progress, reads_main, sends as progress_sends}
use Rattle.sbp_laws.specs.Targets.{Agent, agent_at, agent_over, ahead_lost, closed, cut_agent, is_nothing, is_serial, main_lost, moved, new_agent, over, pointed_by, points, rings, sends_of, target_at, wants}
use Rattle.sbp_world.proofs.Common.{untrue}
use Rattle.sbp_world.proofs.Lists.MainStays.{wanted}
use Rattle.sbp_world.proofs.Lists.OrbSteps.{has_read}
use Rattle.turn_laws.proofs.FetchSteps.{is_fetching}
use Rattle.turn_laws.proofs.Fetches.{IsFetched, ahead_progress, clash, false_if, fetched_steps, main_progress, some_left}
use Rattle.turn_laws.proofs.NextSteps.{abort_ahead}
use Rattle.turn_laws.proofs.ProgressFolds.{AreFollowed, IsQuiet, IsTold, followed_before, still_progress}
use Rattle.turn_laws.proofs.Progresses.{IsWhole}
use Rattle.turn_laws.proofs.RestSteps.{IsHeld, IsPaced, Paces, fetches, idly, is_again, is_idle, is_status, is_suspended, main_paces, off, reads_list}
use Rattle.turn_laws.proofs.HostMarks.{or_none}

-- ---- of one agent, beside what is so of the ORB that it reads
pub record IsPacing (p : Progress) (a : Agent) : Type 0 where
  pub fetched : IsFetched p a
  pub paced : IsPaced p a.asks a.asks_ahead a.machine
  pub waits : is_some a.ahead ≡ true → is_ahead a.machine.ahead ≡ true

-- so much of another progress, and of a machine that is the same in this
same_paced : (p : Progress) (ask ahead : Ask) (m n : Machine) → n.phase ≡ m.phase → n.doorbell ≡ m.doorbell → n.ahead ≡ m.ahead → n.orb.next ≡ m.orb.next → IsPaced p ask ahead m → IsPaced p ask ahead n
same_paced p ask ahead m n e d f g h = record {
  rest = λ x. h.rest (ap is_suspended (sym e) ∙ x);
  again = λ x. h.again (ap is_again (sym e) ∙ x);
  rung = λ x. h.rung (ap has_read (sym e) ∙ x) ∙ (ap (λ b. b || (not (is_nothing ahead) && rung_in m.ahead)) (sym d) ∙ ap (λ y. n.doorbell || (not (is_nothing ahead) && rung_in y)) (sym f));
  waits = λ x y. h.waits (ap reads_list (sym e) ∙ x) y ∙ sym d;
  cleared = λ x y. d ∙ h.cleared (ap reads_list (sym e) ∙ x) y;
  none = λ x y. h.none (ap has_read (sym e) ∙ x) (ap is_idle (sym f) ∙ y);
  fetching = λ x y. h.fetching (ap is_fetching (sym e) ∙ x) y;
  looks = λ x. let l = h.looks x in (l.0, (d ∙ l.1.0, (ap is_ahead f ∙ l.1.1.0, ap has_read e ∙ l.1.1.1)));
  status = λ x. h.status (ap is_status (sym e) ∙ x) ∙ sym g;
}

module _ (p : Progress) where
  -- ---- the main transaction is lost
  lost_by : (phase : Phase) (m : Machine) → m.phase ≡ phase → is_suspended phase ≡ false → Paces p (machine_lost phase m causes.Label)
  lost_by phases.Fetching m e f = idly p (machine_lost phases.Fetching m causes.Label) refl refl refl refl refl
  lost_by phases.ReadingTable m e f = idly p (machine_lost phases.ReadingTable m causes.Label) refl refl refl refl refl
  lost_by (phases.ReadingData wanted) m e f = idly p (machine_lost (phases.ReadingData wanted) m causes.Label) refl refl refl refl refl
  lost_by phases.Answering m e f = idly p (machine_lost phases.Answering m causes.Label) refl refl refl refl refl
  lost_by phases.WritingStatus m e f = idly p (machine_lost phases.WritingStatus m causes.Label) refl refl refl refl refl
  lost_by phases.ReadingNext m e f = idly p (machine_lost phases.ReadingNext m causes.Label) refl refl refl refl refl
  lost_by phases.WritingLastStatus m e f = idly p (machine_lost phases.WritingLastStatus m causes.Label) refl refl refl refl refl
  lost_by phases.Reset m e f = idly p (quiet, m) (ap is_suspended e) (ap is_again e) (ap has_read e) (ap reads_list e) refl
  lost_by phases.Dead m e f = idly p (quiet, m) (ap is_suspended e) (ap is_again e) (ap has_read e) (ap reads_list e) refl
  lost_by phases.Suspended m e f = untrue (sym f)

  -- and then it reads nothing of its list
  lost_list : (phase : Phase) (m : Machine) → m.phase ≡ phase → reads_list (machine_lost phase m causes.Label).1.phase ≡ false
  lost_list phases.Fetching m e = refl
  lost_list phases.ReadingTable m e = refl
  lost_list (phases.ReadingData wanted) m e = refl
  lost_list phases.Answering m e = refl
  lost_list phases.WritingStatus m e = refl
  lost_list phases.ReadingNext m e = refl
  lost_list phases.WritingLastStatus m e = refl
  lost_list phases.Reset m e = ap reads_list e
  lost_list phases.Dead m e = ap reads_list e
  lost_list phases.Suspended m e = ap reads_list e

  lost_paced : (m : Machine) → is_suspended m.phase ≡ false → Paces p (lost_step m Main causes.Label)
  unfolding lost_step
  lost_paced m f = lost_by m.phase m refl f

  lost_reads : (m : Machine) → reads_list (lost_step m Main causes.Label).1.phase ≡ false
  unfolding lost_step
  lost_reads m = lost_list m.phase m refl

  -- one that asks is not suspended
  no_rest : (a : Agent) → is_nothing a.asks ≡ false → IsPaced p a.asks a.asks_ahead a.machine → is_suspended a.machine.phase ≡ false
  no_rest a e h = false_if (is_suspended a.machine.phase) (λ x. clash (is_nothing a.asks) (h.rest x).1.1.1 e)

  moved_waits : (s : AgentStep × Machine) (a : Agent) → is_some (moved s a).ahead ≡ true → is_ahead s.1.ahead ≡ true
  moved_waits (step, m) a x = (some_left step.promoted (is_ahead m.ahead) a.ahead x).1.0

  moved_paced : (s : AgentStep × Machine) (a : Agent) → Paces p s → IsPaced p (moved s a).asks (moved s a).asks_ahead (moved s a).machine
  moved_paced (step, m) a h = h

  loses : (a : Agent) → IsPacing p a → IsPacing p (main_lost a)
  loses a h = by (is_nothing a.asks) refl (fetched_steps.loses p a h.fetched)
    where
      by : (b : Bool) → is_nothing a.asks ≡ b → IsFetched p (cond b a (moved (lost_step a.machine Main causes.Label) a)) → IsPacing p (cond b a (moved (lost_step a.machine Main causes.Label) a))
      by true e f = h
      by false e f =
          let s = lost_step a.machine Main causes.Label in
          record { fetched = f; paced = moved_paced s a (lost_paced a.machine (no_rest a e h.paced)); waits = moved_waits s a }

  settled : (a : Agent) → reads_list (main_lost a).machine.phase ≡ true → is_nothing (main_lost a).asks ≡ true
  settled a = by (is_nothing a.asks) refl
    where
      by : (b : Bool) → is_nothing a.asks ≡ b → (let x = cond b a (moved (lost_step a.machine Main causes.Label) a) in reads_list x.machine.phase ≡ true → is_nothing x.asks ≡ true)
      by true e = λ x. e
      by false e = λ x. clash (reads_list (lost_step a.machine Main causes.Label).1.phase) x (lost_reads a.machine)

  -- ---- and its read ahead
  two_marks : (b x : Bool) → (b || x) ≡ ((b || x) || false)
  two_marks b x = or_none (b || x)

  forgot : (ask ahead : Ask) (m : Machine) → is_nothing ahead ≡ false → IsPaced p ask ahead m → IsPaced p ask Nothing (machine_ahead_lost m causes.Label).1
  forgot ask ahead m e h =
      let l = h.looks e in
      let o = off p m.phase l.1.1.1 in
      record {
        rest = λ x. untrue (sym o.0 ∙ x);
        again = λ x. untrue (sym o.1.0 ∙ x);
        rung = λ x. h.rung x ∙ (ap (λ b. m.doorbell || (not b && rung_in m.ahead)) e ∙ two_marks m.doorbell (rung_in m.ahead));
        waits = λ x. untrue (sym o.1.1.0 ∙ x);
        cleared = λ x. untrue (sym o.1.1.0 ∙ x);
        none = λ x y. l.0;
        fetching = λ x. untrue (sym o.1.1.1 ∙ x);
        looks = λ x. untrue (sym x);
        status = h.status;
      }

  lost_ahead : (ask ahead : Ask) (m : Machine) → is_nothing ahead ≡ false → IsPaced p ask ahead m → IsPaced p ask Nothing (lost_step m Ahead causes.Label).1
  unfolding lost_step
  lost_ahead ask ahead m e h =
      subst (λ b. IsPaced p ask Nothing (cond b (machine_ahead_lost m causes.Label) (quiet, m)).1) (sym (h.looks e).1.1.0) (forgot ask ahead m e h)

  alone : {A : Type 0} → p.ahead ≡ Some Null → p.ahead ≡ None → A
  alone f g = absurd (let no : Some Null ≡ None = sym f ∙ g in cc)

  ahead_phase : (m : Machine) → (lost_step m Ahead causes.Label).1.phase ≡ m.phase
  unfolding lost_step
  ahead_phase m = same (is_ahead m.ahead)
    where
      same : (b : Bool) → (cond b (machine_ahead_lost m causes.Label) (quiet, m)).1.phase ≡ m.phase
      same true = refl
      same false = refl

  fetch_lists : (phase : Phase) → is_fetching phase ≡ true → reads_list phase ≡ true
  fetch_lists phases.Fetching e = refl
  fetch_lists phases.ReadingNext e = refl
  fetch_lists phase e = e

  -- it asks for nothing more
  asks_none : (ask ahead : Ask) (m : Machine) → (reads_list m.phase ≡ true → is_nothing ask ≡ true) → IsPaced p ask ahead m → IsPaced p Nothing ahead m
  asks_none ask ahead m f h = record {
    rest = λ x. let r = h.rest x in (r.0, (r.1.0, (r.1.1.0, refl)));
    again = h.again;
    rung = h.rung;
    waits = λ x y. h.waits x (f x);
    cleared = λ x y. untrue (sym y);
    none = h.none;
    fetching = λ x y. h.fetching x (f (fetch_lists m.phase x));
    looks = h.looks;
    status = h.status;
  }

  abbrev Left : Agent → Bool → Agent
  Left x b = cond b x (record x { machine = (lost_step x.machine Ahead causes.Label).1; asks_ahead = Nothing })

  left_paced : (x : Agent) (b : Bool) → is_nothing x.asks_ahead ≡ b → IsPacing p x → (let y = Left x b in IsPaced p y.asks y.asks_ahead y.machine × (is_some y.ahead ≡ true → is_ahead y.machine.ahead ≡ true))
  left_paced x true e k = (k.paced, k.waits)
  left_paced x false e k = (lost_ahead x.asks x.asks_ahead x.machine e k.paced, λ y. alone (k.fetched.ahead y) (k.paced.looks e).0)

  left_list : (a : Agent) (b : Bool) → (let y = Left (main_lost a) b in reads_list y.machine.phase ≡ true → is_nothing y.asks ≡ true)
  left_list a true e = settled a e
  left_list a false e = settled a (ap reads_list (sym (ahead_phase (main_lost a).machine)) ∙ e)

  ends : (a : Agent) → IsPacing p a → IsPacing p (agent_over a)
  ends a h =
      let x = main_lost a in
      let y = ahead_lost x in
      let k = left_paced x (is_nothing x.asks_ahead) refl (loses a h) in
      record { fetched = fetched_steps.ends p a h.fetched; paced = asks_none y.asks y.asks_ahead y.machine (left_list a (is_nothing x.asks_ahead)) k.0; waits = k.1 }

  -- ---- it is put into RESET, aborted, pointed, rung
  cuts : (a : Agent) → IsPacing p a → IsPacing p (cut_agent a)
  unfolding reset_step
  cuts a h = record { fetched = fetched_steps.cuts p a h.fetched; paced = idly p (quiet, reset_step a.machine) refl refl refl refl refl; waits = λ x. untrue x }

  new : IsPacing p new_agent
  new = record { fetched = fetched_steps.new p; paced = idly p (quiet, new_machine) refl refl refl refl refl; waits = λ x. untrue x }

  abort_paced : (ask ahead : Ask) (m : Machine) (orb : ℕ) → IsPaced p ask ahead m → IsPaced p ask ahead (abort_step m orb)
  unfolding abort_step
  abort_paced ask ahead m orb h = same_paced p ask ahead m (abort_step m orb) refl refl refl refl h

  aborts : (a : Agent) (orb : ℕ) → IsPacing p a → IsPacing p (record a { machine = abort_step a.machine orb })
  aborts a orb h = record {
    fetched = fetched_steps.aborts p a orb h.fetched;
    paced = abort_paced a.asks a.asks_ahead a.machine orb h.paced;
    waits = λ x. ap is_ahead (abort_ahead a.machine orb) ∙ h.waits x;
  }

  abbrev Points : Result Ask PointRefusal × Machine → Type 0
  Points (Err refusal, m) = Unit {0}
  Points (Ok ask, m) = IsPaced p ask Nothing m

  pointed_paces : (m : Machine) (pointer : OrbPointer) → Points (pointed m pointer)
  pointed_paces m Null = tt
  pointed_paces m (At next) = fetches p m next

  point_by : (state : AgentState) (m : Machine) (pointer : OrbPointer) → Points (point_in state m pointer)
  point_by states.Reset m pointer = pointed_paces m pointer
  point_by states.Suspended m pointer = pointed_paces m pointer
  point_by states.Active m pointer = tt
  point_by states.Dead m pointer = tt

  point_paces : (m : Machine) (pointer : OrbPointer) → Points (point_step m pointer)
  unfolding point_step
  point_paces m pointer = point_by (state_in m.phase) m pointer

  points_by : (r : Result Ask PointRefusal × Machine) (pointer : ℕ) (a : Agent) → Points r → IsPacing p a → IsFetched p (pointed_by r pointer a) → IsPacing p (pointed_by r pointer a)
  points_by (Err refusal, m) pointer a k h f = h
  points_by (Ok ask, m) pointer a k h f = record { fetched = f; paced = k; waits = moved_waits (asks ask, m) a }

  points_paced : (a : Agent) (access : Access) → IsQuiet a → IsPacing p a → IsPacing p (points access a)
  points_paced a access quiet h =
      let pointer = pointer_at access.payload 0 in
      points_by (point_step a.machine pointer) (offset_at access.payload 0) a (point_paces a.machine pointer) h (fetched_steps.points p a access quiet h.fetched)

abbrev Rung : Progress → Progress
Rung p = record p { rung = true }

-- the mark is set
marks : (p : Progress) (ahead : Ask) (m : Machine) (ask : Ask) → is_suspended m.phase ≡ false → is_nothing ask ≡ true → is_nothing ahead ≡ true → IsPaced p ask ahead m → IsPaced (Rung p) Nothing ahead (record m { doorbell = true })
marks p ahead m ask s q q_ahead h = record {
  rest = λ x. untrue (sym s ∙ x);
  again = h.again;
  rung = λ x. refl;
  waits = λ x y. refl;
  cleared = λ x y. untrue (sym y);
  none = h.none;
  fetching = λ x y. h.fetching x q;
  looks = λ x. untrue (sym x ∙ q_ahead);
  status = h.status;
}

-- one that is not active takes none
stays : (p : Progress) (ahead : Ask) (m : Machine) (phase : Phase) → m.phase ≡ phase → is_suspended phase ≡ false → is_again phase ≡ false → has_read phase ≡ false → reads_list phase ≡ false → is_nothing ahead ≡ true → IsPaced p Nothing ahead m
stays p ahead m phase e a b c d q = idly p (record quiet { ahead = ahead }, m) (ap is_suspended e ∙ a) (ap is_again e ∙ b) (ap has_read e ∙ c) (ap reads_list e ∙ d) q

reread_paced : (p : Progress) (ahead : Ask) (m : Machine) → p.answered ≡ true → is_nothing ahead ≡ true → (let r = doorbell_in states.Suspended m in IsPaced p r.0 ahead r.1)
reread_paced p ahead m a q = record {
  rest = λ x. untrue x;
  again = λ x. a;
  rung = λ x. untrue x;
  waits = λ x y. untrue y;
  cleared = λ x y. refl;
  none = λ x. untrue x;
  fetching = λ x. untrue x;
  looks = λ x. untrue (sym x ∙ q);
  status = λ x. untrue x;
}

ring_by : (p : Progress) (ask ahead : Ask) (phase : Phase) (m : Machine) → m.phase ≡ phase → is_nothing ask ≡ true → is_nothing ahead ≡ true → IsPaced p ask ahead m
    → (let r = doorbell_in (state_in phase) m in IsPaced (Rung p) r.0 ahead r.1 × (r.1.ahead ≡ m.ahead))
ring_by p ask ahead phases.Suspended m e q q_ahead h = (reread_paced (Rung p) ahead m (h.rest (ap is_suspended e)).0 q_ahead, refl)
ring_by p ask ahead phases.Reset m e q q_ahead h = (stays (Rung p) ahead m phases.Reset e refl refl refl refl q_ahead, refl)
ring_by p ask ahead phases.Dead m e q q_ahead h = (stays (Rung p) ahead m phases.Dead e refl refl refl refl q_ahead, refl)
ring_by p ask ahead phases.WritingLastStatus m e q q_ahead h = (stays (Rung p) ahead m phases.WritingLastStatus e refl refl refl refl q_ahead, refl)
ring_by p ask ahead phases.Fetching m e q q_ahead h = (marks p ahead m ask (ap is_suspended e) q q_ahead h, refl)
ring_by p ask ahead phases.ReadingTable m e q q_ahead h = (marks p ahead m ask (ap is_suspended e) q q_ahead h, refl)
ring_by p ask ahead (phases.ReadingData wanted) m e q q_ahead h = (marks p ahead m ask (ap is_suspended e) q q_ahead h, refl)
ring_by p ask ahead phases.Answering m e q q_ahead h = (marks p ahead m ask (ap is_suspended e) q q_ahead h, refl)
ring_by p ask ahead phases.WritingStatus m e q q_ahead h = (marks p ahead m ask (ap is_suspended e) q q_ahead h, refl)
ring_by p ask ahead phases.ReadingNext m e q q_ahead h = (marks p ahead m ask (ap is_suspended e) q q_ahead h, refl)

ring_paced : (p : Progress) (ask ahead : Ask) (m : Machine) → is_nothing ask ≡ true → is_nothing ahead ≡ true → IsPaced p ask ahead m → (let r = doorbell_step m in IsPaced (Rung p) r.0 ahead r.1 × (r.1.ahead ≡ m.ahead))
unfolding doorbell_step
ring_paced p ask ahead m q q_ahead h = ring_by p ask ahead m.phase m refl q q_ahead h

rings_paced : (p : Progress) (a : Agent) → IsQuiet a → IsPacing p a → IsPacing (Rung p) (rings a)
rings_paced p a quiet h =
    let r = ring_paced p a.asks a.asks_ahead a.machine quiet.0 quiet.1 h.paced in
    record { fetched = fetched_steps.rings p a quiet h.fetched; paced = r.0; waits = λ x. ap is_ahead r.1 ∙ h.waits x }

-- ---- a packet is sent
main_sent : (p : Progress) (ask ahead : Ask) (m : Machine) (phase : Phase) → m.phase ≡ phase → is_nothing ask ≡ false → IsPaced p ask ahead m → IsPaced (reads_main phase p) Nothing ahead m
main_sent p ask ahead m phases.Fetching e q h = record {
  rest = λ x. clash (is_suspended m.phase) x (ap is_suspended e);
  again = λ x. clash (is_again m.phase) x (ap is_again e);
  rung = λ x. clash (has_read m.phase) x (ap has_read e);
  waits = λ x y. sym (h.cleared x q);
  cleared = λ x y. untrue (sym y);
  none = λ x. clash (has_read m.phase) x (ap has_read e);
  fetching = λ x y. refl;
  looks = λ x. (refl, (h.looks x).1);
  status = λ x. clash (is_status m.phase) x (ap is_status e);
}
main_sent p ask ahead m phases.ReadingNext e q h = record {
  rest = λ x. clash (is_suspended m.phase) x (ap is_suspended e);
  again = h.again;
  rung = λ x. clash (has_read m.phase) x (ap has_read e);
  waits = λ x y. sym (h.cleared x q);
  cleared = λ x y. untrue (sym y);
  none = λ x. clash (has_read m.phase) x (ap has_read e);
  fetching = λ x. clash (is_fetching m.phase) x (ap is_fetching e);
  looks = h.looks;
  status = λ x. clash (is_status m.phase) x (ap is_status e);
}
main_sent p ask ahead m phase e q h = record {
  rest = λ x. let r = h.rest x in (r.0, (r.1.0, (r.1.1.0, refl)));
  again = h.again;
  rung = h.rung;
  waits = λ x. clash (reads_list m.phase) x (ap reads_list e);
  cleared = λ x y. untrue (sym y);
  none = h.none;
  fetching = λ x. clash (is_fetching m.phase) x (ap is_fetching e);
  looks = h.looks;
  status = h.status;
}

ahead_sent : (p : Progress) (ask ahead : Ask) (m : Machine) → is_nothing ahead ≡ false → IsPaced p ask ahead m → IsPaced (record p { ahead = Some Null; rung = false }) ask Nothing m
ahead_sent p ask ahead m q h =
    let l = h.looks q in
    let o = off p m.phase l.1.1.1 in
    record {
      rest = λ x. untrue (sym o.0 ∙ x);
      again = λ x. untrue (sym o.1.0 ∙ x);
      rung = λ x. sym l.1.0 ∙ or_none m.doorbell;
      waits = λ x. untrue (sym o.1.1.0 ∙ x);
      cleared = λ x. untrue (sym o.1.1.0 ∙ x);
      none = λ x y. idle_none m.ahead y l.1.1.0;
      fetching = λ x. untrue (sym o.1.1.1 ∙ x);
      looks = λ x. untrue (sym x);
      status = h.status;
    }
  where
    idle_none : {A : Type 0} (x : ReadAhead) → is_idle x ≡ true → is_ahead x ≡ true → A
    idle_none aheads.Idle e f = untrue f
    idle_none (aheads.UnderWay rung) e f = untrue e
    idle_none (aheads.Kept orb) e f = untrue e

module _ (p : Progress) (serial : ℕ) where
  -- what is so beside the ORB
  record Goes (now : Progress) (a : Agent) : Type 0 where
    paced : IsPaced now a.asks a.asks_ahead a.machine
    waits : is_some a.ahead ≡ true → is_ahead a.machine.ahead ≡ true

  sends_by : (is_write : Bool) (a : Agent) → is_serial a.main serial ≡ false → is_serial a.ahead serial ≡ false → IsPacing p a → (let now = sends_of is_write serial a in Goes (progress_sends now serial p) now)
  sends_by is_write a e f h = by (wants a.asks is_write) refl (wants a.asks_ahead is_write) refl
    where
      by : (x : Bool) → wants a.asks is_write ≡ x → (y : Bool) → wants a.asks_ahead is_write ≡ y
          → (let now = cond x (record a { main = Some serial; asks = Nothing }) (cond y (record a { ahead = Some serial; asks_ahead = Nothing }) a) in Goes (progress_sends now serial p) now)
      by true g y k =
          let now = record a { main = Some serial; asks = Nothing } in
          subst (λ (x : Progress). Goes x now) (sym (main_progress p serial a f)) (record { paced = main_sent p a.asks a.asks_ahead a.machine a.machine.phase refl (wanted a.asks is_write g) h.paced; waits = h.waits })
      by false g true k =
          let now = record a { ahead = Some serial; asks_ahead = Nothing } in
          let asked = wanted a.asks_ahead is_write k in
          subst (λ (x : Progress). Goes x now) (sym (ahead_progress p serial a)) (record { paced = ahead_sent p a.asks a.asks_ahead a.machine asked h.paced; waits = λ x. (h.paced.looks asked).1.1.0 })
      by false g false k = subst (λ (x : Progress). Goes x a) (sym (still_progress p serial a e f)) (record { paced = h.paced; waits = h.waits })

  sends_paced : (is_write : Bool) (a : Agent) → is_serial a.main serial ≡ false → is_serial a.ahead serial ≡ false → IsPacing p a → (let now = sends_of is_write serial a in IsPacing (progress_sends now serial p) now)
  sends_paced is_write a e f h =
      let g = sends_by is_write a e f h in record { fetched = fetched_steps.sends p a is_write serial e f h.fetched; paced = g.paced; waits = g.waits }

-- ---- a reply
ahead_only : (answer : Answer) (p : Progress) → ((gets_ahead answer p).next ≡ p.next) × (((gets_ahead answer p).rung ≡ p.rung) × ((gets_ahead answer p).answered ≡ p.answered))
ahead_only (Payload bytes) p = (refl, (refl, refl))
ahead_only Done p = (refl, (refl, refl))
ahead_only (Refused rcode) p = (refl, (refl, refl))
ahead_only Expired p = (refl, (refl, refl))
ahead_only NoLabel p = (refl, (refl, refl))

-- one that failed, but not for want of a label
record HasFailed (answer : Answer) (p : Progress) (cause : FailCause) : Type 0 where
  none : (gets_ahead answer p).ahead ≡ None
  other : is_label cause ≡ false

failed_by : (bytes : List ℕ) (p : Progress) (b : Bool) → (length bytes == 32) ≡ b → (cause : FailCause) → cond b (Ok bytes) (Err causes.Grammar) ≡ Err cause → HasFailed (Payload bytes) p cause
failed_by bytes p true e cause f = absurd (let no : Ok bytes ≡ Err cause = f in cc)
failed_by bytes p false e cause f =
    let same : causes.Grammar ≡ cause = cc in
    record { none = ap (λ b. cond {A = Option OrbPointer} b (Some (pointer_at bytes 0)) None) e; other = ap is_label (sym same) }

has_failed : (answer : Answer) (p : Progress) (cause : FailCause) → IsTold answer → payload_of answer 32 ≡ Err cause → HasFailed answer p cause
has_failed (Payload bytes) p cause t e = failed_by bytes p (length bytes == 32) refl cause e
has_failed Done p cause t e = let same : causes.Grammar ≡ cause = cc in record { none = refl; other = ap is_label (sym same) }
has_failed (Refused rcode) p cause t e = let same : causes.Refused ≡ cause = cc in record { none = refl; other = ap is_label (sym same) }
has_failed Expired p cause t e = let same : causes.Timeout ≡ cause = cc in record { none = refl; other = ap is_label (sym same) }
has_failed NoLabel p cause t e = absurd t

module _ (p : Progress) (a : Agent) (w : IsWhole p a) (still : IsQuiet a) (h : IsPacing p a) where
  abbrev m : Machine
  m = a.machine

  own_mark : has_read m.phase ≡ true → p.rung ≡ m.doorbell
  own_mark x = h.paced.rung x ∙ (ap (λ b. m.doorbell || (not b && rung_in m.ahead)) still.1 ∙ sym (or_none m.doorbell))

  is_held : IsHeld p m
  is_held = record {
    again = h.paced.again;
    rung = own_mark;
    waits = λ x. h.paced.waits x still.0;
    none = h.paced.none;
    fetching = λ x. h.paced.fetching x still.0;
    status = h.paced.status;
    rest = λ x. let r = h.paced.rest x in (r.0, (r.1.0, r.1.1.0));
  }

  -- to its read ahead
  module _ (answer : Answer) (is_told : IsTold answer) (flies : is_ahead m.ahead ≡ true) where
    abbrev now : Progress
    now = gets_ahead answer p

    not_fetching : {A : Type 0} → is_fetching m.phase ≡ true → A
    not_fetching x = untrue (sym (ap is_ahead (w.tracked.idle (no_read m.phase x))) ∙ flies)
      where
        no_read : (phase : Phase) → is_fetching phase ≡ true → has_read phase ≡ false
        no_read phases.Fetching e = refl
        no_read phase e = untrue e

    -- whatever is kept of it, with the mark
    goes : (n : Machine) → n.phase ≡ m.phase → n.doorbell ≡ m.doorbell → n.orb.next ≡ m.orb.next → (is_idle n.ahead ≡ true → now.ahead ≡ None) → IsPaced now Nothing Nothing n
    goes n e d g i =
        let o = ahead_only answer p in
        record {
          rest = λ x. let r = h.paced.rest (ap is_suspended (sym e) ∙ x) in (o.1.1 ∙ r.0, (o.0 ∙ r.1.0, (o.1.0 ∙ r.1.1.0, refl)));
          again = λ x. o.1.1 ∙ h.paced.again (ap is_again (sym e) ∙ x);
          rung = λ x. o.1.0 ∙ (own_mark (ap has_read (sym e) ∙ x) ∙ (sym d ∙ or_none n.doorbell));
          waits = λ x y. o.1.0 ∙ (h.paced.waits (ap reads_list (sym e) ∙ x) still.0 ∙ sym d);
          cleared = λ x y. untrue (sym y);
          none = λ x y. i y;
          fetching = λ x y. not_fetching (ap is_fetching (sym e) ∙ x);
          looks = λ x. untrue (sym x);
          status = λ x. o.0 ∙ (h.paced.status (ap is_status (sym e) ∙ x) ∙ sym g);
        }

    same_bell : (cause : FailCause) → is_label cause ≡ false → (machine_ahead_lost m cause).1.doorbell ≡ m.doorbell
    same_bell cause e = ap (λ b. m.doorbell || (b && rung_in m.ahead)) e ∙ sym (or_none m.doorbell)

    read_paced : (r : Result (List ℕ) FailCause) → payload_of answer 32 ≡ r → Paces now (ahead_read m r)
    read_paced (Ok bytes) e = goes (ahead_read m (Ok bytes)).1 refl refl refl (λ x. untrue x)
    read_paced (Err cause) e = let f = has_failed answer p cause is_told e in goes (machine_ahead_lost m cause).1 refl (same_bell cause f.other) refl (λ x. f.none)

    ahead_paced : (q : ℕ) (plain : PlainDisk) (told : Option Told) → Paces now (reply_step m q plain told Ahead answer)
    unfolding reply_step
    ahead_paced q plain told = subst (λ b. Paces now (cond b (ahead_step m answer) (quiet, m))) (sym flies) (read_paced (payload_of answer 32) refl)

  reply_paced : (q : ℕ) (which : Which) (answer : Answer) → IsTold answer → (which ≡ Ahead → is_some a.ahead ≡ true) → (plain : PlainDisk) (told : Option Told) (b : Bool)
      → IsPacing (gets_by which a answer p) (moved (reply_step m q plain told which answer) (closed which (record a { untold = b })))
  reply_paced q Main answer is_told waits plain told b =
      let s = reply_step m q plain told Main answer in
      let now = gets_main m.phase answer p in
      let old = closed Main (record a { untold = b }) in
      record {
        fetched = fetched_steps.replies p a q Main answer is_told waits w still h.fetched plain told b;
        paced = moved_paced now s old (main_paces p m w.tracked is_held q plain told answer);
        waits = moved_waits now s old;
      }
  reply_paced q Ahead answer is_told waits plain told b =
      let s = reply_step m q plain told Ahead answer in
      let now = gets_ahead answer p in
      let old = closed Ahead (record a { untold = b }) in
      record {
        fetched = fetched_steps.replies p a q Ahead answer is_told waits w still h.fetched plain told b;
        paced = moved_paced now s old (ahead_paced answer is_told (h.waits (waits refl)) q plain told);
        waits = moved_waits now s old;
      }

unheard : (p : Progress) (q : ℕ) (which : Which) (answer : Answer) (plain : PlainDisk) (told : Option Told) (b : Bool)
    → IsPaced p Nothing Nothing (moved (reply_step new_machine q plain told which answer) (closed which (record new_agent { untold = b }))).machine
unfolding reply_step
unheard p q Main answer plain told b = idly p (quiet, new_machine) refl refl refl refl refl
unheard p q Ahead answer plain told b = idly p (quiet, new_machine) refl refl refl refl refl

unheard_asks : (q : ℕ) (which : Which) (answer : Answer) (plain : PlainDisk) (told : Option Told) → (reply_step new_machine q plain told which answer).0 ≡ quiet
unfolding reply_step
unheard_asks q Main answer plain told = refl
unheard_asks q Ahead answer plain told = refl

unheard_so : (p : Progress) (q : ℕ) (which : Which) (answer : Answer) (plain : PlainDisk) (told : Option Told) (b : Bool) → IsPacing p (moved (reply_step new_machine q plain told which answer) (closed which (record new_agent { untold = b })))
unheard_so p q which answer plain told b =
    let s = reply_step new_machine q plain told which answer in
    let old = closed which (record new_agent { untold = b }) in
    record {
      fetched = fetched_steps.unheard p q which answer plain told b;
      paced = moved_paced p s old (subst (λ (x : AgentStep). IsPaced p x.ask x.ahead s.1) (sym (unheard_asks q which answer plain told)) (unheard p q which answer plain told b));
      waits = moved_waits p s old;
    }

-- ---- each step keeps it
paced_steps : AreFollowed IsPacing
paced_steps = record {
  new = new;
  untells = λ p a b h. record { fetched = fetched_steps.untells p a b h.fetched; paced = h.paced; waits = h.waits };
  loses = loses;
  ends = ends;
  cuts = cuts;
  aborts = aborts;
  points = points_paced;
  rings = rings_paced;
  sends = λ p a is_write serial e f h. sends_paced p serial is_write a e f h;
  replies = λ p a q which answer is_told waits w quiet h plain told b. reply_paced p a w quiet h q which answer is_told waits plain told b;
  unheard = unheard_so;
}

-- So an agent that is SUSPENDED behind a turn rests.
pub rests_before : (start : List Disk) (past : List Moment) → SerialsCount past → (q : ℕ)
    → (let a = agent_at (over (target_at start past)) q in let p = progress start past q in is_suspended a.machine.phase ≡ true → (p.answered ≡ true) × ((p.next ≡ Null) × (p.rung ≡ false)))
rests_before start past c q e = let r = (followed_before IsPacing paced_steps start past c q).paced.rest e in (r.0, (r.1.0, r.1.1.0))
