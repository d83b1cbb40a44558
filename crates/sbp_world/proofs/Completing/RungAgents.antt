-- The agent of a place that was rung goes on, by the terms of a history, note by note: it rests only at an ORB of which what was asked for since brought a null pointer.
use Rattle.sbp_world.proofs.Words.Std.{◌≡◌, ◌∙◌, refl, sym, ap, subst, ◌<◌, ◌||◌, not, ℕ, Bool, true, false, cond, List, [], ◌∷◌, ◌++◌, Option, Some, None, Result, Ok, Err, is_none, position, unwrap_or, same_Some}
use Rattle.sbp_world.proofs.Words.Wire.{Access, Register, Start, agent_reset, agent_state, doorbell, management_agent, no_start, orb_pointer, register, rom_start, start_at, start_serves, unsolicited_enable, Moment, asked, said, Terms}
use Rattle.sbp_world.proofs.Words.Target.{AgentStep, PointRefusal, Which, Ahead, Main, Machine, abort_step, is_ahead, is_sent, lost_step, point_step, quiet, reply_step, Busy, Disk, PlainDisk, Told}
use Rattle.sbp_world.proofs.Words.Initiator.{Ask, Null, command_orb, offset_at, payload_of, pointer_at, Answer, Expired}
use Rattle.sbp_world.proofs.Words.Laws.{access_at, answer_in, answered_at, id_for, packet_at, receiver_in, sender_in, Agent, Decided, Purpose, Reply, Target, agent_at, agent_over, closed, cut_agent, entered_by, enters_in, for_agent, for_manager, for_nobody, got_by, is_nothing, is_serial, known_at, main_lost, manager_step, moved, new_agent, over, pointed_by, points, purpose_of, register_got, replied, replied_to, request_got, rings, sends_of, start_got, started_by, target_at, wants, with_agent}
use Rattle.command_agent.specs.Steps as steps
use Rattle.command_agent.specs.declared.phase.Phase.TheVariants as phases
use Rattle.command_agent.specs.declared.phase.ReadAhead.TheVariants as aheads
use Rattle.mgmt_agent.specs.Machine as manager
use Rattle.orb_layout.specs.declared.ask.FailCause.TheVariants as causes
use Rattle.sbp_journal.specs.declared.note.Note.TheVariants as notes
use Rattle.sbp_journal.specs.declared.operation.FunctionWord.TheVariants as functions
use Rattle.sbp_world.proofs.Common.{none_is, untrue}
use Rattle.sbp_world.proofs.Completing.RungSteps.{Goes, Leads, LeadsOn, OwnOf, Points, abort_ahead, abort_goes, ahead_goes, bell_ahead, bell_goes, lost_ahead_goes, lost_goes, lost_looks, main_goes, new_goes, point_goes, reset_goes, rests_last, wider}
use Rattle.sbp_world.proofs.Lists.AgentFolds.{AreKept, AreSo, AreStill, cut_still, over_still, set_so, set_still, so, stand, stand_still}
use Rattle.sbp_world.proofs.Lists.AgentNotes.{managed_kept, note_kept, pick}
use Rattle.sbp_world.proofs.Lists.MainStays.{abort_phase}
use Rattle.sbp_world.proofs.Lists.MainSteps.{IsTaken, doorbell_rung, lost_quiet, main_is_lost, main_sound, point_taken, read_quiet}
use Rattle.sbp_world.proofs.Lists.OrbSteps.{has_read, yes}

-- ORBs of which a null pointer was brought since
module _ (Last : ℕ → Type 0) where
  -- ---- of an agent
  module _ (bound : ℕ) where
    -- a request that was sent since so many were, where there is one
    abbrev pub Young : Option ℕ → Type 0
    Young o = (s : ℕ) → o ≡ Some s → bound < s

    pub record Follows (a : Agent) : Type 0 where
      pub goes : Goes Last (Young a.main) (Young a.ahead) a.machine
      -- what it waits for no more, and what it asks for in this turn
      pub free : is_ahead a.machine.ahead ≡ false → Young a.ahead
      pub looks : is_nothing a.asks_ahead ≡ false → Young a.ahead
      pub rests : is_sent a.machine.phase ≡ false → Young a.main
      pub asks : is_nothing a.asks ≡ false → Young a.main

    -- what a reply to it brings, where its request was sent since
    pub record Brings (a : Agent) (which : Which) (answer : Answer) : Type 0 where
      pub orbs : which ≡ Main → Young a.main → a.machine.phase ≡ phases.Fetching → (bytes : List ℕ) → payload_of answer 32 ≡ Ok bytes → Leads Last a.machine.present (command_orb bytes).next
      pub pointers : which ≡ Main → Young a.main → a.machine.phase ≡ phases.ReadingNext → (bytes : List ℕ) → payload_of answer 8 ≡ Ok bytes → Leads Last a.machine.present (pointer_at bytes 0)
      pub aheads : which ≡ Ahead → is_ahead a.machine.ahead ≡ true → Young a.ahead → (bytes : List ℕ) → payload_of answer 32 ≡ Ok bytes → LeadsOn Last a.machine.orb.next (command_orb bytes).next

    none_young : Young None
    none_young s e = none_is s e

    now_young : (serial : ℕ) → bound < serial → Young (Some serial)
    now_young serial may s e = subst (λ n. bound < n) (same_Some serial s e) may

    either_none : (b : Bool) → Young (cond b None None)
    either_none true = none_young
    either_none false = none_young

    ahead_young : (b : Bool) (x : Option ℕ) → Young x → Young (cond b None x)
    ahead_young true x h = none_young
    ahead_young false x h = h

    gone_young : (p i : Bool) (x : Option ℕ) → i ≡ false → Young (cond (p || not i) None x)
    gone_young true i x e = none_young
    gone_young false true x e = untrue (sym e)
    gone_young false false x e = none_young

    own_young : (b : Bool) (x : Option ℕ) → OwnOf Last (Young x) b → Young (cond b x None)
    own_young true x h = h
    own_young false x h = none_young

    -- ---- a reply
    module _ (a : Agent) (h : Follows a) (q : ℕ) (plain : PlainDisk) (told : Option Told) (answer : Answer) (b : Bool) where
      abbrev s : AgentStep × Machine
      s = reply_step a.machine q plain told Main answer

      unless : (p : Bool) → (p ≡ true → ⊥) → Young (cond p a.ahead None)
      unless true f = absurd (f refl)
      unless false f = none_young

      main_follows : Brings a Main answer → Follows (moved s (closed Main (record a { untold = b })))
      main_follows brings =
          let w = main_goes Last (Young a.ahead) (Young a.main) a.machine answer h.free h.goes (λ own e bytes f. brings.orbs refl own e bytes f) (λ own e bytes f. brings.pointers refl own e bytes f) q plain told in
          let sound = main_sound a.machine q plain told answer in
          let gone : Bool = s.0.promoted || not (is_ahead s.1.ahead) in
          record {
            goes = wider Last (OwnOf Last (Young a.ahead) s.0.promoted) (Young a.ahead) (Young (cond s.0.promoted a.ahead None)) (Young (cond gone None a.ahead)) (own_young s.0.promoted a.ahead) (ahead_young gone a.ahead) s.1 w.goes;
            free = gone_young s.0.promoted (is_ahead s.1.ahead) a.ahead;
            looks = λ e. ahead_young gone a.ahead (w.looks e);
            rests = λ e. unless s.0.promoted (λ p. untrue (sym e ∙ (sound.promotes p).1));
            asks = λ e. unless s.0.promoted (λ p. untrue (sym e ∙ (sound.promotes p).0));
          }

      abbrev r : AgentStep × Machine
      r = reply_step a.machine q plain told Ahead answer

      ahead_follows : Brings a Ahead answer → Follows (moved r (closed Ahead (record a { untold = b })))
      ahead_follows brings =
          let is = read_quiet a.machine q plain told answer in
          let gone : Bool = not (is_ahead r.1.ahead) in
          subst (λ step. Follows (moved (step, r.1) (closed Ahead (record a { untold = b })))) (sym is.nothing)
          (record {
            goes = wider Last (Young a.main) (Young a.ahead) (Young a.main) (Young (cond gone None None)) (λ x. x) (λ x. either_none gone) r.1 (ahead_goes Last (Young a.main) (Young a.ahead) a.machine h.goes answer (λ e own bytes f. brings.aheads refl e own bytes f) q plain told);
            free = λ e. either_none gone;
            looks = λ e. yes e;
            rests = λ e. h.rests (ap is_sent (sym is.phase) ∙ e);
            asks = λ e. yes e;
          })

    replied_follows : (a : Agent) → Follows a → (q : ℕ) (plain : PlainDisk) (told : Option Told) (which : Which) (answer : Answer) (b : Bool) → Brings a which answer → Follows (moved (reply_step a.machine q plain told which answer) (closed which (record a { untold = b })))
    replied_follows a h q plain told Main answer b brings = main_follows a h q plain told answer b brings
    replied_follows a h q plain told Ahead answer b brings = ahead_follows a h q plain told answer b brings

    -- a time-out brings nothing
    expired_brings : (a : Agent) (which : Which) → Brings a which Expired
    expired_brings a which = record {
      orbs = λ w own e bytes f. absurd (let no : Err causes.Timeout ≡ Ok bytes = f in cc);
      pointers = λ w own e bytes f. absurd (let no : Err causes.Timeout ≡ Ok bytes = f in cc);
      aheads = λ w e own bytes f. absurd (let no : Err causes.Timeout ≡ Ok bytes = f in cc);
    }

    pub new_follows : Follows new_agent
    new_follows = record { goes = new_goes Last (Young None) (Young None); free = λ e. none_young; looks = λ e. none_young; rests = λ e. none_young; asks = λ e. none_young }

    -- nothing is read by a new agent
    new_brings : (which : Which) (answer : Answer) → Brings new_agent which answer
    new_brings which answer = record {
      orbs = λ w own e. absurd (let no : phases.Reset ≡ phases.Fetching = e in cc);
      pointers = λ w own e. absurd (let no : phases.Reset ≡ phases.ReadingNext = e in cc);
      aheads = λ w e. untrue e;
    }

    -- ---- what else is done with it
    sends_follows : (a : Agent) (is_write : Bool) (serial : ℕ) → bound < serial → Follows a → Follows (sends_of is_write serial a)
    sends_follows a is_write serial may h = by (wants a.asks is_write) (wants a.asks_ahead is_write)
      where
        new : Young (Some serial)
        new = now_young serial may

        by : (x y : Bool) → Follows (cond x (record a { main = Some serial; asks = steps.quiet.ask }) (cond y (record a { ahead = Some serial; asks_ahead = steps.quiet.ask }) a))
        by true y = record { goes = wider Last (Young a.main) (Young a.ahead) (Young (Some serial)) (Young a.ahead) (λ x. new) (λ x. x) a.machine h.goes; free = h.free; looks = h.looks; rests = λ e. new; asks = λ e. yes e }
        by false true = record { goes = wider Last (Young a.main) (Young a.ahead) (Young a.main) (Young (Some serial)) (λ x. x) (λ x. new) a.machine h.goes; free = λ e. new; looks = λ e. yes e; rests = h.rests; asks = h.asks }
        by false false = h

    loses_follows : (a : Agent) → Follows a → Follows (main_lost a)
    loses_follows a h = by (is_nothing a.asks) refl
      where
        lost : AgentStep × Machine
        lost = lost_step a.machine Main causes.Label

        own : is_nothing a.asks ≡ false → Young (cond lost.0.promoted a.ahead a.main)
        own e = subst (λ b. Young (cond b a.ahead a.main)) (sym (main_is_lost a.machine causes.Label).stays) (h.asks e)

        by : (b : Bool) → is_nothing a.asks ≡ b → Follows (cond b a (moved lost a))
        by true e = h
        by false e =
            let gone : Bool = lost.0.promoted || not (is_ahead lost.1.ahead) in
            record {
              goes = wider Last (Young a.main) (Young a.ahead) (Young (cond lost.0.promoted a.ahead a.main)) (Young (cond gone None a.ahead)) (λ x. own e) (ahead_young gone a.ahead) lost.1 (lost_goes Last (Young a.main) (Young a.ahead) a.machine h.goes causes.Label);
              free = gone_young lost.0.promoted (is_ahead lost.1.ahead) a.ahead;
              looks = λ x. yes (sym (lost_looks Last (Young a.main) (Young a.ahead) a.machine h.goes causes.Label) ∙ x);
              rests = λ x. own e;
              asks = λ x. own e;
            }

    ends_follows : (a : Agent) → Follows a → Follows (agent_over a)
    ends_follows a h = by (is_nothing (main_lost a).asks_ahead) refl
      where
        x : Agent
        x = main_lost a

        k : Follows (main_lost a)
        k = loses_follows a h

        by : (b : Bool) → is_nothing x.asks_ahead ≡ b → Follows (record (cond b x (record x { machine = (lost_step x.machine Ahead causes.Label).1; asks_ahead = steps.quiet.ask })) { asks = steps.quiet.ask })
        by true e = record { goes = k.goes; free = k.free; looks = k.looks; rests = k.rests; asks = λ f. yes f }
        by false e = record { goes = lost_ahead_goes Last (Young x.main) (Young x.ahead) x.machine k.goes causes.Label; free = λ f. k.looks e; looks = λ f. yes f; rests = λ f. k.rests (ap is_sent (sym (lost_quiet x.machine causes.Label).phase) ∙ f); asks = λ f. yes f }

    cuts_follows : (a : Agent) → Follows (cut_agent a)
    cuts_follows a = record { goes = reset_goes Last (Young None) (Young None) a.machine; free = λ e. none_young; looks = λ e. none_young; rests = λ e. none_young; asks = λ e. none_young }

    aborts_follows : (a : Agent) (orb : ℕ) → Follows a → Follows (record a { machine = abort_step a.machine orb })
    aborts_follows a orb h = record {
      goes = abort_goes Last (Young a.main) (Young a.ahead) a.machine h.goes orb;
      free = λ e. h.free (ap is_ahead (sym (abort_ahead Last a.machine orb)) ∙ e);
      looks = h.looks;
      rests = λ e. h.rests (ap is_sent (sym (abort_phase a.machine orb)) ∙ e);
      asks = h.asks;
    }

    points_by : (a : Agent) (r : Result Ask PointRefusal × Machine) (pointer : ℕ) → Points Last (Young a.ahead) r → IsTaken a.machine r → Follows a → Follows (pointed_by r pointer a)
    points_by a (Err refusal, m) pointer p x h = h
    points_by a (Ok ask, m) pointer p x h =
        let gone : Bool = not (is_ahead m.ahead) in
        record {
          goes = wider Last (Unit {0}) (Young a.ahead) (Young a.main) (Young (cond gone None a.ahead)) (λ y. h.rests x.0) (ahead_young gone a.ahead) m p.0;
          free = gone_young false (is_ahead m.ahead) a.ahead;
          looks = λ e. yes e;
          rests = λ e. untrue (sym e ∙ x.1);
          asks = λ e. h.rests x.0;
        }

    pub rings_by : (a : Agent) → (has_read a.machine.phase ≡ false → a.machine.ahead ≡ aheads.Idle) → (a.machine.orb.next ≡ Null → a.machine.ahead ≡ aheads.Idle) → (is_sent a.machine.phase ≡ false → Young a.main) → (is_ahead a.machine.ahead ≡ false → Young a.ahead) → (is_nothing a.asks_ahead ≡ false → Young a.ahead) → Follows (rings a)
    rings_by a idle last rests free looks =
        let x = doorbell_rung a.machine in
        record {
          goes = bell_goes Last (Young a.main) (Young a.ahead) a.machine idle last (λ e. rests (ap is_sent e));
          free = λ e. free (ap is_ahead (sym (bell_ahead Last a.machine)) ∙ e);
          looks = looks;
          rests = λ e. rests (x.rests e);
          asks = λ e. rests (x.asks e).0;
        }

    rings_follows : (a : Agent) → Follows a → Follows (rings a)
    rings_follows a h = rings_by a h.goes.idle h.goes.last h.rests h.free h.looks

  -- ---- of that of a place
  module _ (bound p : ℕ) where
    abbrev pub Such : ℕ → Agent → Type 0
    Such q a = q ≡ p → Follows bound a

    are_such : AreKept Such (λ serial. bound < serial)
    are_such = record {
      lasting = record {
        untells = λ q a b h e. (let k = h e in record { goes = k.goes; free = k.free; looks = k.looks; rests = k.rests; asks = k.asks });
        sends = λ q a is_write serial may h e. sends_follows bound a is_write serial may (h e);
        loses = λ q a h e. loses_follows bound a (h e);
        ends = λ q a h e. ends_follows bound a (h e);
        stays = λ q which answer plain told b h e. new_follows bound;
      };
      cuts = λ q a h e. cuts_follows bound a;
    }

    abbrev All : Target → Type 0
    All t = AreStill Such t

    module _ (T : Target) (h : All T) where
      register_such : (name : Register) (place : ℕ) (access : Access) → All (register_got name place access T)
      register_such agent_reset place access = cut_still Such are_such.cuts T place h
      register_such orb_pointer place access =
          let a = agent_at T place in
          let pointer = pointer_at access.payload 0 in
          pick Such are_such access.is_write (with_agent T place (points access a)) T
          (set_still Such T place (points access a) h (λ x e. points_by bound a (point_step a.machine pointer) (offset_at access.payload 0) (point_goes Last (Young bound a.ahead) a.machine pointer) (point_taken a.machine pointer) (x e))) h
      register_such doorbell place access =
          let a = agent_at T place in set_still Such T place (rings a) h (λ x e. rings_follows bound a (x e))
      register_such unsolicited_enable place access = stand_still Such _ T refl refl h
      register_such agent_state place access = h

      started_such : (r : Result Ask Busy × manager.Machine) → All (started_by r T)
      started_such (Err busy, machine) = h
      started_such (Ok ask, machine) = stand_still Such _ T refl refl h

      start_such : (start : Start) (source : ℕ) (access : Access) → All (start_got start source access T)
      start_such (register place name) source access = register_such name place access
      start_such management_agent source access = started_such (manager.start_step T.manager source (offset_at access.payload 0))
      start_such rom_start source access = h
      start_such no_start source access = h

      request_such : (access : Option Access) (source : ℕ) → All (request_got access source T)
      request_such None source = h
      request_such (Some access) source = pick Such are_such (start_serves (start_at access.offset) access) (start_got (start_at access.offset) source access T) T (start_such (start_at access.offset) source access) h

      -- an answer, which brings to the agent of the place what it may
      replied_such : (purpose : Purpose) (answer : Answer) → ((which : Which) → purpose ≡ for_agent p which → Brings bound (agent_at T p) which answer) → AreSo Such (replied_to purpose answer T)
      replied_such (for_agent place which) answer brings = record {
        agents = λ q g. h.agents q;
        pending = λ reply e plain told b. by reply (same_Some _ reply e) plain told b;
      }
        where
          at : (q : ℕ) → place ≡ q → q ≡ p → Brings bound (agent_at T q) which answer
          at q f e = subst (λ n. Brings bound (agent_at T n) which answer) (sym e) (brings which (ap (λ n. for_agent n which) (f ∙ e)))

          by : (reply : Reply) → record { place = place; which = which; answer = answer } ≡ reply → (plain : PlainDisk) (told : Option Told) (b : Bool) → Such reply.place (moved (reply_step (agent_at T reply.place).machine reply.place plain told reply.which reply.answer) (closed reply.which (record (agent_at T reply.place) { untold = b })))
          by reply f plain told b =
              subst (λ (r : Reply). Such r.place (moved (reply_step (agent_at T r.place).machine r.place plain told r.which r.answer) (closed r.which (record (agent_at T r.place) { untold = b })))) f
              (λ e. replied_follows bound (agent_at T place) (h.agents place e) place plain told which answer b (at place refl e))
      replied_such for_manager answer brings = so Such _ (managed_kept Such are_such (manager_step T answer) answer T (λ place orb f a k e. aborts_follows bound a orb (k e)) h)
      replied_such for_nobody answer brings = so Such T h

      pub either_such : (b : Bool) (x : Target) → (b ≡ true → AreSo Such x) → AreSo Such (cond b x T)
      either_such true x k = k refl
      either_such false x k = so Such T h

    -- what is got may bring so
    abbrev pub GotBrings : Terms → ℕ → Target → Type 0
    GotBrings wire serial t = (own : ℕ) → answered_at wire serial ≡ Some own → (which : Which) → purpose_of t own ≡ for_agent p which → Brings bound (agent_at t p) which (answer_in (packet_at wire serial))

    pub got_such : (T : Target) → All T → (wire : Terms) (serial : ℕ) (found : Option ℕ) → answered_at wire serial ≡ found → GotBrings wire serial T → AreSo Such (got_by found wire serial T)
    got_such T h wire serial None f brings = so Such _ (request_such T h (access_at wire serial) (id_for wire 0 (unwrap_or (sender_in (wire.sent serial)) 0)))
    got_such T h wire serial (Some own) f brings = replied_such T h (purpose_of T own) (answer_in (packet_at wire serial)) (λ which e. brings own f which e)

    -- a login: its agent is new
    new_so : (t : Target) (place : Option ℕ) (decided : Option Decided) (id : ℕ) → AreSo Such t → AreSo Such (enters_in place decided id t)
    new_so t None decided id h = h
    new_so t (Some place) None id h = h
    new_so t (Some place) (Some decided) id h =
        stand Such (enters_in (Some place) (Some decided) id t) (with_agent t place new_agent) refl refl
        (set_so Such t place new_agent h (λ e. new_follows bound)
        (λ reply e plain told b at. replied_follows bound new_agent (new_follows bound) reply.place plain told reply.which reply.answer b (new_brings bound reply.which reply.answer)))

    entered_so : (t : Target) (login : Option ℕ) → AreSo Such t → AreSo Such (entered_by login t)
    entered_so t None h = h
    entered_so t (Some id) h = new_so t (position is_none t.table.places) t.decided id h

    -- ---- more moments, in which such packets are sent, and such answers got
    module _ (start : List Disk) where
      abbrev pub MayAt : Moment → List Moment → Type 0
      MayAt (said (notes.Sent serial generation from to bytes)) past = bound < serial
      MayAt (said (notes.Got serial)) past = is_serial (receiver_in ((known_at start past).wire.sent serial)) 0 ≡ true → GotBrings (known_at start past).wire serial (over (target_at start past))
      MayAt moment past = Unit {0}

      -- behind a moment
      abbrev pub AllMay : List Moment → List Moment → Type 0
      AllMay [] past = Unit {0}
      AllMay (moment ∷ later) past = MayAt moment (later ++ past) × AllMay later past

      such_on : (past later : List Moment) → AllMay later past → AreSo Such (target_at start past) → AreSo Such (target_at start (later ++ past))
      such_on past [] m h = h
      such_on past (asked line event ∷ later) m h = let t = target_at start (later ++ past) in so Such (over t) (over_still Such are_such.lasting t (such_on past later m.1 h))
      such_on past (said (notes.Got serial) ∷ later) m h =
          let t = target_at start (later ++ past) in
          let k = over_still Such are_such.lasting t (such_on past later m.1 h) in
          let wire = (known_at start (later ++ past)).wire in
          either_such (over t) k (is_serial (receiver_in (wire.sent serial)) 0) (got_by (answered_at wire serial) wire serial (over t)) (λ here. got_such (over t) k wire serial (answered_at wire serial) refl (m.0 here))
      such_on past (said (notes.TimedOut serial) ∷ later) m h =
          let t = target_at start (later ++ past) in
          let k = over_still Such are_such.lasting t (such_on past later m.1 h) in
          let wire = (known_at start (later ++ past)).wire in
          either_such (over t) k (is_serial (sender_in (wire.sent serial)) 0) (replied serial Expired (over t)) (λ here. replied_such (over t) k (purpose_of (over t) serial) Expired (λ which e. expired_brings bound (agent_at (over t) p) which))
      such_on past (said (notes.Managed i functions.Login subject status login) ∷ later) m h = entered_so (target_at start (later ++ past)) login (such_on past later m.1 h)
      such_on past (said (notes.Sent serial generation from to bytes) ∷ later) m h =
          note_kept Such are_such (notes.Sent serial generation from to bytes) (later ++ past) (known_at start (later ++ past)).wire (target_at start (later ++ past)) (such_on past later m.1 h) m.0
      such_on past (said note ∷ later) m h = note_kept Such are_such note (later ++ past) (known_at start (later ++ past)).wire (target_at start (later ++ past)) (such_on past later m.1 h) tt

      -- so it rests only at a last ORB
      pub rung_agents_rest_last : (past later : List Moment) → AllMay later past → AreSo Such (target_at start past) → (let a = agent_at (over (target_at start (later ++ past))) p in a.machine.phase ≡ phases.Suspended → Last a.machine.present)
      rung_agents_rest_last past later m h e =
          let t = target_at start (later ++ past) in
          let a = agent_at (over t) p in
          let f = (over_still Such are_such.lasting t (such_on past later m h)).agents p refl in
          rests_last Last (Young bound a.main) (Young bound a.ahead) a.machine f.goes e
