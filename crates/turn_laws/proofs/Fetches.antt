-- By the terms of every history in which serials count, nothing was got yet of an ORB that is still to be read, once its read was sent: neither it nor what its agent has of it names a next pointer.
use Rattle.std.proofs.Common.{◌≡◌, ◌∙◌, refl, sym, ap, subst, ℕ, ◌==◌, ◌||◌, not, is_some, Bool, true, false, cond, List, Option, Some, None, Result, Ok, Err}
use Rattle.bus_transactions.specs.Packets.{SerialsCount}
use Rattle.command_agent.specs.declared.phase.Phase.{Phase}
use Rattle.command_agent.specs.declared.phase.Phase.TheVariants as phases
use Rattle.command_agent.specs.declared.step.AgentStep.{AgentStep}
use Rattle.command_agent.specs.declared.step.PointRefusal.{PointRefusal}
use Rattle.command_agent.specs.declared.step.Which.{Which}
use Rattle.command_agent.specs.declared.step.Which.TheVariants.{Ahead, Main}
use Rattle.command_agent.specs.Machine.{Machine, is_ahead, is_sent, new_machine}
use Rattle.command_agent.specs.Steps.{abort_step, doorbell_step, lost_step, point_step, reply_step, reset_step}
use Rattle.orb_layout.specs.declared.ask.Ask.{Ask}
use Rattle.orb_layout.specs.declared.ask.Ask.TheVariants.{Nothing, Read, Write}
use Rattle.orb_layout.specs.declared.ask.FailCause.TheVariants as causes
use Rattle.orb_layout.specs.declared.pointer.OrbPointer.TheVariants.{Null}
use Rattle.orb_layout.specs.declared.status.StatusKind.{StatusKind}
use Rattle.orb_layout.specs.Pointers.{offset_at, pointer_at}
use Rattle.orb_layout.specs.Replies.{Answer}
use Rattle.rbc_disk.specs.Disk.{Disk}
use Rattle.rbc_disk.specs.Runs.{Told}
use Rattle.rbc_disk.specs.Units.{PlainDisk}
use Rattle.sbp_journal.specs.Run.{Moment}
use Rattle.sbp_laws.specs.Progress.{Progress, gets_ahead, gets_by, gets_main, progress, reads_main, sends as progress_sends}
use Rattle.sbp_laws.specs.Targets.{Agent, agent_at, agent_over, ahead_lost, closed, cut_agent, is_nothing, is_serial, main_lost, moved, new_agent, over, pointed_by, sends_of, target_at, wants}
use Rattle.sbp_world.proofs.Common.{same_number, untrue}
use Rattle.sbp_world.proofs.Lists.MainStays.{wanted}
use Rattle.turn_laws.proofs.EndShapes.{IsShapedStep, IsUnderWay, lost_shaped, reply_shaped}
use Rattle.turn_laws.proofs.FetchSteps.{Brings, Leaves, Points, Rings, ahead_leaves, is_fetching, lost_leaves, lost_plain, main_brings, point_so, ring_so}
use Rattle.turn_laws.proofs.NextSteps.{Unread, ahead_next}
use Rattle.turn_laws.proofs.Progresses.{IsWhole}
use Rattle.turn_laws.proofs.ProgressFolds.{AreFollowed, followed_before, still_progress}

-- ---- of one agent
-- An ORB that is still to be read has no next pointer, and where its read was sent none was got. Nothing was got of a read ahead. An agent that asks, or is not active, has no main
-- transaction; and behind an ORB that is still to be read none is read ahead.
pub record IsFetched (p : Progress) (a : Agent) : Type 0 where
  pub unread : is_fetching a.machine.phase ≡ true → a.machine.orb.next ≡ Null
  pub main : is_fetching a.machine.phase ≡ true → is_some a.main ≡ true → p.next ≡ Null
  pub ahead : is_some a.ahead ≡ true → p.ahead ≡ Some Null
  pub idle : is_sent a.machine.phase ≡ false → is_some a.main ≡ false
  pub asks : is_nothing a.asks ≡ false → (is_some a.main ≡ false) × (is_sent a.machine.phase ≡ true)
  pub none : is_fetching a.machine.phase ≡ true → is_some a.ahead ≡ false
  pub looks : is_fetching a.machine.phase ≡ true → is_nothing a.asks_ahead ≡ true

-- both cannot be
pub clash : {A : Type 0} (b : Bool) → b ≡ true → b ≡ false → A
clash b e f = untrue (sym f ∙ e)

-- it is so of one that does not differ in this
record Same (p now : Progress) (a b : Agent) : Type 0 where
  phase : b.machine.phase ≡ a.machine.phase
  next : b.machine.orb.next ≡ a.machine.orb.next
  main : b.main ≡ a.main
  ahead : is_some b.ahead ≡ true → is_some a.ahead ≡ true
  asks : is_nothing b.asks ≡ false → is_nothing a.asks ≡ false
  looks : is_nothing a.asks_ahead ≡ true → is_nothing b.asks_ahead ≡ true
  got : now.next ≡ p.next
  got_ahead : is_some b.ahead ≡ true → now.ahead ≡ p.ahead

none_more : (x y : Option ℕ) → (is_some y ≡ true → is_some x ≡ true) → is_some x ≡ false → is_some y ≡ false
none_more x None f e = refl
none_more x (Some s) f e = clash (is_some x) (f refl) e

same_fetched : (p now : Progress) (a b : Agent) → Same p now a b → IsFetched p a → IsFetched now b
same_fetched p now a b s h =
    let fetches : is_fetching b.machine.phase ≡ true → is_fetching a.machine.phase ≡ true = λ e. ap is_fetching (sym s.phase) ∙ e in
    let none : is_some a.main ≡ false → is_some b.main ≡ false = λ e. ap (λ (x : Option ℕ). is_some x) s.main ∙ e in
    record {
      unread = λ e. s.next ∙ h.unread (fetches e);
      main = λ e x. s.got ∙ h.main (fetches e) (ap (λ (y : Option ℕ). is_some y) (sym s.main) ∙ x);
      ahead = λ x. s.got_ahead x ∙ h.ahead (s.ahead x);
      idle = λ e. none (h.idle (ap is_sent (sym s.phase) ∙ e));
      asks = λ e. let x = h.asks (s.asks e) in (none x.0, ap is_sent s.phase ∙ x.1);
      none = λ e. none_more a.ahead b.ahead s.ahead (h.none (fetches e));
      looks = λ e. s.looks (h.looks (fetches e));
    }

-- ---- by a step
some_if : (x : Bool) (s : Option ℕ) → is_some (cond x s None) ≡ true → (x ≡ true) × (is_some s ≡ true)
some_if true s e = (refl, e)
some_if false s e = untrue e

none_if : (x : Bool) (s : Option ℕ) → x ≡ false → is_some (cond x s None) ≡ false
none_if true s e = untrue (sym e)
none_if false s e = refl

pub some_left : (x y : Bool) (s : Option ℕ) → is_some (cond (x || not y) None s) ≡ true → (x ≡ false) × ((y ≡ true) × (is_some s ≡ true))
some_left true y s e = untrue e
some_left false true s e = (refl, (refl, e))
some_left false false s e = untrue e

left_none : (x y : Bool) (s : Option ℕ) → y ≡ false → is_some (cond (x || not y) None s) ≡ false
left_none true y s e = refl
left_none false true s e = untrue (sym e)
left_none false false s e = refl

pub false_if : (b : Bool) → (b ≡ true → ⊥) → b ≡ false
false_if true f = absurd (f refl)
false_if false f = refl

-- what asks is under way
under_way : (ended : Option StatusKind) (ask : Ask) (phase : Phase) → IsUnderWay ended ask phase → is_nothing ask ≡ false → is_sent phase ≡ true
under_way ended Nothing phase w e = untrue (sym e)
under_way ended (Read offset len) phase w e = w
under_way None (Write offset len) phase w e = w.0
under_way (Some kind) (Write offset len) phase w e = w

module _ (now : Progress) where
  -- of a reply to the main transaction
  moved_fetched : (s : AgentStep × Machine) (a : Agent) → IsShapedStep (s.0, s.1) → Brings (is_some a.ahead) now s → IsFetched now (moved s (closed Main a))
  moved_fetched (step, m) a shaped k = record {
    unread = λ e. (k.unread e).0;
    main = λ e x. let b = some_if step.promoted a.ahead x in (k.promoted b.0).0 b.1;
    ahead = λ x. let b = some_left step.promoted (is_ahead m.ahead) a.ahead x in k.ahead b.0 b.1.0 b.1.1;
    idle = λ e. none_if step.promoted a.ahead (false_if step.promoted (λ b. clash (is_sent m.phase) (k.promoted b).1.0 e));
    asks = λ e. (none_if step.promoted a.ahead (false_if step.promoted (λ b. clash (is_nothing step.ask) (k.promoted b).1.1 e)), under_way step.ended step.ask m.phase shaped.1.1 e);
    none = λ e. left_none step.promoted (is_ahead m.ahead) a.ahead (k.unread e).1.0;
    looks = λ e. (k.unread e).1.1;
  }

  -- of a step that turns to no ORB, of an agent without a main transaction
  lost_fetched : (s : AgentStep × Machine) (a : Agent) → IsShapedStep (s.0, s.1) → is_fetching s.1.phase ≡ false → s.0.promoted ≡ false → is_some a.main ≡ false → IsFetched now a → IsFetched now (moved s a)
  lost_fetched (step, m) a shaped e f g h =
      let none : is_some (cond step.promoted a.ahead a.main) ≡ false = ap (λ b. is_some (cond b a.ahead a.main)) f ∙ g in
      record {
        unread = λ x. clash (is_fetching m.phase) x e;
        main = λ x y. clash (is_fetching m.phase) x e;
        ahead = λ x. h.ahead (some_left step.promoted (is_ahead m.ahead) a.ahead x).1.1;
        idle = λ x. none;
        asks = λ x. (none, under_way step.ended step.ask m.phase shaped.1.1 x);
        none = λ x. clash (is_fetching m.phase) x e;
        looks = λ x. clash (is_fetching m.phase) x e;
      }

  loses : (a : Agent) → IsFetched now a → IsFetched now (main_lost a)
  loses a h = by (is_nothing a.asks) refl
    where
      by : (b : Bool) → is_nothing a.asks ≡ b → IsFetched now (cond b a (moved (lost_step a.machine Main causes.Label) a))
      by true e = h
      by false e = let l = lost_plain a.machine causes.Label in lost_fetched (lost_step a.machine Main causes.Label) a (lost_shaped a.machine Main causes.Label) l.0 l.1 (h.asks e).0 h

  ends : (a : Agent) → IsFetched now a → IsFetched now (agent_over a)
  ends a h = asks_none (ahead_lost x) (by (is_nothing x.asks_ahead))
    where
      x : Agent
      x = main_lost a

      k : IsFetched now (main_lost a)
      k = loses a h

      by : (b : Bool) → IsFetched now (cond b (main_lost a) (record (main_lost a) { machine = (lost_step (main_lost a).machine Ahead causes.Label).1; asks_ahead = Nothing }))
      by true = k
      by false =
          let l = lost_leaves (main_lost a).machine causes.Label in
          same_fetched now now (main_lost a) _ (record { phase = l.phase; next = l.next; main = refl; ahead = λ e. e; asks = λ e. e; looks = λ e. refl; got = refl; got_ahead = λ e. refl }) k

      asks_none : (y : Agent) → IsFetched now y → IsFetched now (record y { asks = Nothing })
      asks_none y i = record { unread = i.unread; main = i.main; ahead = i.ahead; idle = i.idle; asks = λ e. untrue (sym e); none = i.none; looks = i.looks }

  cuts : (a : Agent) → IsFetched now (cut_agent a)
  unfolding reset_step
  cuts a = record { unread = λ e. untrue e; main = λ e x. untrue e; ahead = λ x. untrue x; idle = λ e. refl; asks = λ e. untrue (sym e); none = λ e. refl; looks = λ e. refl }

  new_fetched : IsFetched now new_agent
  new_fetched = record { unread = λ e. untrue e; main = λ e x. untrue e; ahead = λ x. untrue x; idle = λ e. refl; asks = λ e. untrue (sym e); none = λ e. refl; looks = λ e. refl }

  pointed_fetched : (r : Result Ask PointRefusal × Machine) (pointer : ℕ) (a : Agent) → Points a.machine.phase r → IsFetched now a → IsFetched now (pointed_by r pointer a)
  pointed_fetched (Err refusal, m) pointer a k h = h
  pointed_fetched (Ok ask, m) pointer a k h =
      let none = h.idle k.0 in
      record {
        unread = λ e. k.1.0;
        main = λ e x. clash (is_some a.main) x none;
        ahead = λ x. h.ahead (some_left false (is_ahead m.ahead) a.ahead x).1.1;
        idle = λ e. none;
        asks = λ e. (none, k.1.1.1);
        none = λ e. left_none false (is_ahead m.ahead) a.ahead k.1.1.0;
        looks = λ e. refl;
      }

  rings_fetched : (s : Ask × Machine) (a : Agent) → Rings a.machine s → IsFetched now a → IsFetched now (record a { machine = s.1; asks = s.0 })
  rings_fetched (ask, m) a k h = record {
    unread = λ e. k.next ∙ h.unread (k.fetches e);
    main = λ e x. h.main (k.fetches e) x;
    ahead = h.ahead;
    idle = λ e. h.idle (k.idle e);
    asks = λ e. let x = k.asks e in (h.idle x.0, x.1);
    none = λ e. h.none (k.fetches e);
    looks = λ e. h.looks (k.fetches e);
  }

abort_same : (m : Machine) (orb : ℕ) → ((abort_step m orb).phase ≡ m.phase) × ((abort_step m orb).orb.next ≡ m.orb.next)
unfolding abort_step
abort_same m orb = (refl, refl)

aborts : (p : Progress) (a : Agent) (orb : ℕ) → IsFetched p a → IsFetched p (record a { machine = abort_step a.machine orb })
aborts p a orb h =
    let s = abort_same a.machine orb in
    same_fetched p p a (record a { machine = abort_step a.machine orb })
    (record { phase = s.0; next = s.1; main = refl; ahead = λ e. e; asks = λ e. e; looks = λ e. e; got = refl; got_ahead = λ e. refl }) h

-- ---- a reply
closed_step : (p now : Progress) (s : AgentStep × Machine) (a : Agent) → Leaves a.machine s → now.next ≡ p.next → IsFetched p a → IsFetched now (moved s (closed Ahead a))
closed_step p now (step, m) a l e h =
    let promoted : step.promoted ≡ false = ap (λ (x : AgentStep). x.promoted) l.quiet_is in
    let gone : (x : Bool) → is_some (cond {A = Option ℕ} x None None) ≡ false = λ x. none_both x in
    same_fetched p now a _
    (record {
      phase = l.phase;
      next = l.next;
      main = ap (λ b. cond b None a.main) promoted;
      ahead = λ x. clash (is_some (cond {A = Option ℕ} (step.promoted || not (is_ahead m.ahead)) None None)) x (gone (step.promoted || not (is_ahead m.ahead)));
      asks = λ x. clash (is_nothing step.ask) (ap (λ (y : AgentStep). is_nothing y.ask) l.quiet_is) x;
      looks = λ x. ap (λ (y : AgentStep). is_nothing y.ahead) l.quiet_is;
      got = e;
      got_ahead = λ x. clash (is_some (cond {A = Option ℕ} (step.promoted || not (is_ahead m.ahead)) None None)) x (gone (step.promoted || not (is_ahead m.ahead)));
    }) h
  where
    none_both : (x : Bool) → is_some (cond {A = Option ℕ} x None None) ≡ false
    none_both true = refl
    none_both false = refl

module _ (p : Progress) (a : Agent) (h : IsFetched p a) (w : IsWhole p a) (q : ℕ) (answer : Answer) where
  reply_fetched : (which : Which) (plain : PlainDisk) (told : Option Told) (b : Bool)
      → IsFetched (gets_by which a answer p) (moved (reply_step a.machine q plain told which answer) (closed which (record a { untold = b })))
  reply_fetched Main plain told b =
      moved_fetched (gets_main a.machine.phase answer p) (reply_step a.machine q plain told Main answer) (record a { untold = b }) (reply_shaped a.machine q plain told Main answer)
      (main_brings (is_some a.ahead) p a.machine w.tracked h.ahead w.waits q plain told answer)
  reply_fetched Ahead plain told b =
      closed_step p (gets_ahead answer p) (reply_step a.machine q plain told Ahead answer) (record a { untold = b }) (ahead_leaves a.machine q plain told answer) (ahead_next p answer)
      (record { unread = h.unread; main = h.main; ahead = h.ahead; idle = h.idle; asks = h.asks; none = h.none; looks = h.looks })

-- ---- the progress of an agent that stands
as_before : (p now : Progress) (a : Agent) → now.next ≡ p.next → now.ahead ≡ p.ahead → IsFetched p a → IsFetched now a
as_before p now a e f h = same_fetched p now a a (record { phase = refl; next = refl; main = refl; ahead = λ x. x; asks = λ x. x; looks = λ x. x; got = e; got_ahead = λ x. f }) h

-- ---- a packet is sent, with a serial that nobody waits for yet
module _ (p : Progress) (serial : ℕ) where
  sent_still : (a : Agent) → is_serial a.main serial ≡ false → is_serial a.ahead serial ≡ false → IsFetched p a → IsFetched (progress_sends a serial p) a
  sent_still a e f h = subst (λ (x : Progress). IsFetched x a) (sym (still_progress p serial a e f)) h

  -- the main request
  main_sent : (a : Agent) (phase : Phase) → a.machine.phase ≡ phase → is_nothing a.asks ≡ false → IsFetched p a → IsFetched (reads_main phase p) (record a { main = Some serial; asks = Nothing })
  main_sent a phases.Fetching e asks h = record {
    unread = h.unread;
    main = λ x y. refl;
    ahead = λ x. clash (is_some a.ahead) x (h.none (ap is_fetching e));
    idle = λ x. clash (is_sent a.machine.phase) (h.asks asks).1 x;
    asks = λ x. untrue (sym x);
    none = h.none;
    looks = h.looks;
  }
  main_sent a phases.ReadingNext e asks h = record {
    unread = h.unread;
    main = λ x y. clash (is_fetching a.machine.phase) x (ap is_fetching e);
    ahead = h.ahead;
    idle = λ x. clash (is_sent a.machine.phase) (h.asks asks).1 x;
    asks = λ x. untrue (sym x);
    none = h.none;
    looks = h.looks;
  }
  main_sent a phase e asks h = record {
    unread = h.unread;
    main = λ x y. clash (is_fetching a.machine.phase) x (ap is_fetching e);
    ahead = h.ahead;
    idle = λ x. clash (is_sent a.machine.phase) (h.asks asks).1 x;
    asks = λ x. untrue (sym x);
    none = h.none;
    looks = h.looks;
  }

  pub main_progress : (a : Agent) → is_serial a.ahead serial ≡ false → progress_sends (record a { main = Some serial; asks = Nothing }) serial p ≡ reads_main a.machine.phase p
  main_progress a f =
      ap (λ b. cond b (record p { ahead = Some Null; rung = false }) (cond (serial == serial) (reads_main a.machine.phase p) p)) f
      ∙ ap (λ b. cond b (reads_main a.machine.phase p) p) (same_number serial)

  pub ahead_progress : (a : Agent) → progress_sends (record a { ahead = Some serial; asks_ahead = Nothing }) serial p ≡ record p { ahead = Some Null; rung = false }
  ahead_progress a = ap (λ b. cond b (record p { ahead = Some Null; rung = false }) (cond (is_serial a.main serial) (reads_main a.machine.phase p) p)) (same_number serial)

  sends_fetched : (is_write : Bool) (a : Agent) → is_serial a.main serial ≡ false → is_serial a.ahead serial ≡ false → IsFetched p a → (let now = sends_of is_write serial a in IsFetched (progress_sends now serial p) now)
  sends_fetched is_write a e f h = by (wants a.asks is_write) refl (wants a.asks_ahead is_write) refl
    where
      by : (x : Bool) → wants a.asks is_write ≡ x → (y : Bool) → wants a.asks_ahead is_write ≡ y
          → (let now = cond x (record a { main = Some serial; asks = Nothing }) (cond y (record a { ahead = Some serial; asks_ahead = Nothing }) a) in IsFetched (progress_sends now serial p) now)
      by true g y k =
          let now = record a { main = Some serial; asks = Nothing } in
          subst (λ (x : Progress). IsFetched x now) (sym (main_progress a f)) (main_sent a a.machine.phase refl (wanted a.asks is_write g) h)
      by false g true k =
          let now = record a { ahead = Some serial; asks_ahead = Nothing } in
          subst (λ (x : Progress). IsFetched x now) (sym (ahead_progress a)) (record {
            unread = h.unread;
            main = h.main;
            ahead = λ x. refl;
            idle = h.idle;
            asks = h.asks;
            none = λ x. clash (is_nothing a.asks_ahead) (h.looks x) (wanted a.asks_ahead is_write k);
            looks = λ x. refl;
          })
      by false g false k = sent_still a e f h

unheard : (p : Progress) (q : ℕ) (which : Which) (answer : Answer) (plain : PlainDisk) (told : Option Told) (b : Bool)
    → IsFetched p (moved (reply_step new_machine q plain told which answer) (closed which (record new_agent { untold = b })))
unfolding reply_step
unheard p q Main answer plain told b = record { unread = λ e. untrue e; main = λ e x. untrue e; ahead = λ x. untrue x; idle = λ e. refl; asks = λ e. untrue (sym e); none = λ e. refl; looks = λ e. refl }
unheard p q Ahead answer plain told b = record { unread = λ e. untrue e; main = λ e x. untrue e; ahead = λ x. untrue x; idle = λ e. refl; asks = λ e. untrue (sym e); none = λ e. refl; looks = λ e. refl }

-- ---- each step keeps it
pub fetched_steps : AreFollowed IsFetched
fetched_steps = record {
  new = new_fetched;
  untells = λ p a b h. record { unread = h.unread; main = h.main; ahead = h.ahead; idle = h.idle; asks = h.asks; none = h.none; looks = h.looks };
  loses = loses;
  ends = ends;
  cuts = λ p a h. cuts p a;
  aborts = aborts;
  points = λ p a access quiet h. let pointer = pointer_at access.payload 0 in pointed_fetched p (point_step a.machine pointer) (offset_at access.payload 0) a (point_so a.machine pointer) h;
  rings = λ p a quiet h. rings_fetched (record p { rung = true }) (doorbell_step a.machine) a (ring_so a.machine) (as_before p (record p { rung = true }) a refl refl h);
  sends = λ p a is_write serial e f h. sends_fetched p serial is_write a e f h;
  replies = λ p a q which answer is_told waits w quiet h plain told b. reply_fetched p a h w q answer which plain told b;
  unheard = unheard;
}

-- so of an agent whose transaction is under way
pub unread_before : (start : List Disk) (past : List Moment) → SerialsCount past → (q : ℕ) → (let a = agent_at (over (target_at start past)) q in is_some a.main ≡ true → Unread (progress start past q) a.machine)
unread_before start past c q some e =
    let h = followed_before IsFetched fetched_steps start past c q in
    h.main (ap is_fetching e) some ∙ sym (h.unread (ap is_fetching e))
