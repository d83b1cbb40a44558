-- By the terms of every history what its progress says of an agent is so: the next pointer of the ORB that it has read is the one that was got last, and so is that of an ORB that it keeps ahead.
use Rattle.std.proofs.Common.{◌≡◌, ◌∙◌, refl, sym, ap, subst, ℕ, zero, suc, ◌+◌, ◌==◌, ◌||◌, not, is_some, Bool, true, false, cond, List, [], ◌∷◌, Option, Some, None, Result, Ok, Err, arith}
use Rattle.std.specs.Prelude.{is_none, position, unwrap_or}
use Rattle.command_agent.specs.declared.phase.Phase.{Phase}
use Rattle.command_agent.specs.declared.phase.Phase.TheVariants as phases
use Rattle.command_agent.specs.declared.phase.ReadAhead.{ReadAhead}
use Rattle.command_agent.specs.declared.phase.ReadAhead.TheVariants as aheads
use Rattle.command_agent.specs.declared.step.AgentStep.{AgentStep}
use Rattle.command_agent.specs.declared.step.PointRefusal.{PointRefusal}
use Rattle.command_agent.specs.declared.step.Which.{Which}
use Rattle.command_agent.specs.declared.step.Which.TheVariants.{Ahead, Main}
use Rattle.command_agent.specs.Machine.{Machine, is_ahead, new_machine}
use Rattle.command_agent.specs.Steps.{abort_step, asks, lost_step, point_step, reply_step}
use Rattle.mgmt_agent.specs.declared.operation.Busy.{Busy}
use Rattle.mgmt_agent.specs.Machine as manager
use Rattle.orb_layout.specs.declared.ask.Ask.{Ask}
use Rattle.orb_layout.specs.declared.ask.Ask.TheVariants.{Nothing}
use Rattle.orb_layout.specs.declared.ask.FailCause.TheVariants as causes
use Rattle.orb_layout.specs.declared.pointer.OrbPointer.TheVariants.{Null}
use Rattle.orb_layout.specs.Pointers.{offset_at, pointer_at}
use Rattle.orb_layout.specs.Replies.{Answer, Expired}
use Rattle.rbc_disk.specs.Disk.{Disk}
use Rattle.rbc_disk.specs.Runs.{Told}
use Rattle.rbc_disk.specs.Units.{PlainDisk}
use Rattle.sbp_journal.specs.Addresses.{Access, Register, Start, agent_reset, agent_state, doorbell, management_agent, no_start, orb_pointer, register, rom_start, start_at, start_serves, unsolicited_enable}
use Rattle.sbp_journal.specs.Run.{Moment, asked, said}
use Rattle.sbp_journal.specs.Wire.{Terms, terms}
use Rattle.sbp_journal.specs.declared.note.Note.{Note}
use Rattle.sbp_journal.specs.declared.note.Note.TheVariants as notes
use Rattle.sbp_journal.specs.declared.operation.FunctionWord.TheVariants as functions
use Rattle.sbp_laws.specs.Agents.{Event, got_in, nothing, replies, reply_to, write_in, writes}
use Rattle.sbp_laws.specs.Packets.{access_at, answer_in, answered_at, id_for, packet_at, receiver_in, sender_in}
use Rattle.sbp_laws.specs.Progress.{Progress, gets, gets_by, gets_main, no_progress, progress, reads_main, sends as progress_sends}
use Rattle.sbp_laws.specs.Targets.{Agent, Decided, Purpose, Reply, Target, agent_at, agent_over, ahead_lost, closed, cut_agent, entered_by, enters_in, for_agent, for_manager, for_nobody, got_by, is_nothing, is_serial, known_at, main_lost, manager_step, moved, new_agent, over, pointed_by, points, purpose_among, purpose_of, register_got, replied, replied_to, request_got, rings, sends_of, start_got, started_by, target_at, target_by, wants, with_agent}
use Rattle.sbp_world.proofs.Agents.Management.Firsts.{wire_is}
use Rattle.sbp_world.proofs.Common.{none_is, same_number, untrue, serial_is}
use Rattle.sbp_world.proofs.Lists.OrbSteps.{has_read, holds_read, yes}
use Rattle.sbp_world.proofs.Lists.AgentFolds.{AreKept, AreLasting, AreSo, AreStill, Every, Pends, at_place, cut_still, new_there, over_still, set_so, set_still, so, stand, stand_still}
use Rattle.sbp_world.proofs.Lists.AgentNotes.{leaves_kept, managed_kept, note_kept, pick}
use Rattle.turn_laws.proofs.DeathAnswers.{NoReply, write_no}
use Rattle.turn_laws.proofs.NextSteps.{AheadIs, IsTracked, abort_ahead, abort_tracked, ahead_tracked, bell_ahead, bell_tracked, free_is, keeps_orb, lost_free, lost_looks, lost_tracked, main_tracked, none_read, point_tracked, reset_tracked, unheard_looks, unheard_tracked}
use Rattle.sbp_world.proofs.Lists.MainStays.{wanted}

-- ---- of one agent: where it waits for a read ahead, or asks for one, it keeps none
pub record IsWhole (p : Progress) (a : Agent) : Type 0 where
  pub tracked : IsTracked p a.machine
  pub waits : is_some a.ahead ≡ true → keeps_orb a.machine.ahead ≡ false
  pub looks : is_nothing a.asks_ahead ≡ false → keeps_orb a.machine.ahead ≡ false

waits_by : (promoted : Bool) (ahead : ReadAhead) (x : Option ℕ) → is_some (cond (promoted || not (is_ahead ahead)) None x) ≡ true → keeps_orb ahead ≡ false
waits_by promoted aheads.Idle x e = refl
waits_by promoted (aheads.UnderWay rung) x e = refl
waits_by true (aheads.Kept orb) x e = untrue e
waits_by false (aheads.Kept orb) x e = untrue e

module _ (p : Progress) where
  moved_whole : (s : AgentStep × Machine) (a : Agent) → IsTracked p s.1 → (is_nothing s.0.ahead ≡ false → keeps_orb s.1.ahead ≡ false) → IsWhole p (moved s a)
  moved_whole (step, m) a t looks = record { tracked = t; waits = waits_by step.promoted m.ahead a.ahead; looks = looks }

  quiet_whole : (s : AgentStep × Machine) (a : Agent) → IsTracked p s.1 → s.0.ahead ≡ Nothing → IsWhole p (moved s a)
  quiet_whole s a t e = moved_whole s a t (λ f. yes (sym (ap is_nothing e) ∙ f))

  -- the machine keeps its read ahead
  machine_whole : (a now : Agent) → IsTracked p now.machine → now.machine.ahead ≡ a.machine.ahead → now.ahead ≡ a.ahead → now.asks_ahead ≡ a.asks_ahead → IsWhole p a → IsWhole p now
  machine_whole a now t e f g h = record {
    tracked = t;
    waits = λ x. ap keeps_orb e ∙ h.waits (ap (λ (y : Option ℕ). is_some y) (sym f) ∙ x);
    looks = λ x. ap keeps_orb e ∙ h.looks (ap is_nothing (sym g) ∙ x);
  }

  new_whole : IsWhole p new_agent
  new_whole = record { tracked = none_read p new_machine refl refl; waits = λ e. untrue e; looks = λ e. yes e }

  cuts : (a : Agent) → IsWhole p (cut_agent a)
  cuts a = record { tracked = reset_tracked p a.machine; waits = λ e. untrue e; looks = λ e. yes e }

  sends : (a : Agent) (is_write : Bool) (serial : ℕ) → IsWhole p a → IsWhole p (sends_of is_write serial a)
  sends a is_write serial h = by (wants a.asks is_write) (wants a.asks_ahead is_write) refl
    where
      by : (x y : Bool) → wants a.asks_ahead is_write ≡ y → IsWhole p (cond x (record a { main = Some serial; asks = Nothing }) (cond y (record a { ahead = Some serial; asks_ahead = Nothing }) a))
      by true y e = record { tracked = h.tracked; waits = h.waits; looks = h.looks }
      by false true e = record { tracked = h.tracked; waits = λ x. h.looks (wanted a.asks_ahead is_write e); looks = λ x. yes x }
      by false false e = h

  loses : (a : Agent) → IsWhole p a → IsWhole p (main_lost a)
  loses a h = by (is_nothing a.asks)
    where
      by : (b : Bool) → IsWhole p (cond b a (moved (lost_step a.machine Main causes.Label) a))
      by true = h
      by false = quiet_whole (lost_step a.machine Main causes.Label) a (lost_tracked p a.machine Main causes.Label h.tracked) (lost_looks a.machine causes.Label)

  ends : (a : Agent) → IsWhole p a → IsWhole p (agent_over a)
  ends a h = asks_none (ahead_lost x) (by (is_nothing x.asks_ahead))
    where
      x : Agent
      x = main_lost a

      k : IsWhole p (main_lost a)
      k = loses a h

      by : (b : Bool) → IsWhole p (cond b (main_lost a) (record (main_lost a) { machine = (lost_step (main_lost a).machine Ahead causes.Label).1; asks_ahead = Nothing }))
      by true = k
      by false = record { tracked = lost_tracked p (main_lost a).machine Ahead causes.Label k.tracked; waits = λ e. lost_free (main_lost a).machine causes.Label (k.waits e); looks = λ e. yes e }

      asks_none : (y : Agent) → IsWhole p y → IsWhole p (record y { asks = Nothing })
      asks_none y i = record { tracked = i.tracked; waits = i.waits; looks = i.looks }

  pointed_whole : (r : Result Ask PointRefusal × Machine) (pointer : ℕ) (a : Agent) → IsTracked p r.1 → IsWhole p a → IsWhole p (pointed_by r pointer a)
  pointed_whole (Err refusal, m) pointer a t h = h
  pointed_whole (Ok ask, m) pointer a t h = let k = moved_whole (asks ask, m) a t (λ e. yes e) in record { tracked = k.tracked; waits = k.waits; looks = k.looks }

  unheard_whole : (q : ℕ) (which : Which) (answer : Answer) (plain : PlainDisk) (told : Option Told) (b : Bool)
      → IsWhole p (moved (reply_step new_machine q plain told which answer) (closed which (record new_agent { untold = b })))
  unheard_whole q which answer plain told b =
      quiet_whole (reply_step new_machine q plain told which answer) (closed which (record new_agent { untold = b })) (unheard_tracked p q plain told which answer)
      (unheard_looks q plain told which answer)

abbrev pub Whole : (ℕ → Progress) → ℕ → Agent → Type 0
Whole p q a = IsWhole (p q) a

lasts : (p : ℕ → Progress) → AreLasting (Whole p) Every
lasts p = record {
  untells = λ q a b h. record { tracked = h.tracked; waits = h.waits; looks = h.looks };
  sends = λ q a is_write serial may h. sends (p q) a is_write serial h;
  loses = λ q a h. loses (p q) a h;
  ends = λ q a h. ends (p q) a h;
  stays = λ q which answer plain told b h. new_whole (p q);
}

are_kept : (p : ℕ → Progress) → AreKept (Whole p) Every
are_kept p = record { lasting = lasts p; cuts = λ q a h. cuts (p q) a }

aborts : (p : ℕ → Progress) (q : ℕ) (a : Agent) (orb : ℕ) → Whole p q a → Whole p q (record a { machine = abort_step a.machine orb })
aborts p q a orb h = machine_whole (p q) a (record a { machine = abort_step a.machine orb }) (abort_tracked (p q) a.machine orb h.tracked) (abort_ahead a.machine orb) refl refl h

-- ---- its progress goes on
-- a reply
module _ (p : Progress) (a : Agent) (h : IsWhole p a) (q : ℕ) (answer : Answer) where
  abbrev Replied : Which → Type 0
  Replied which =
      (plain : PlainDisk) (told : Option Told) (b : Bool)
      → IsWhole (gets_by which a answer p) (moved (reply_step a.machine q plain told which answer) (closed which (record a { untold = b })))

  reply_whole : (which : Which) → (which ≡ Ahead → keeps_orb a.machine.ahead ≡ false) → Replied which
  reply_whole Main free plain told b =
      let s = main_tracked p a.machine q plain told answer h.tracked in
      moved_whole (gets_main a.machine.phase answer p) (reply_step a.machine q plain told Main answer) (closed Main (record a { untold = b })) s.tracked s.looks
  reply_whole Ahead free plain told b =
      let s = ahead_tracked p a.machine answer (free refl) h.tracked q plain told in
      moved_whole (gets_by Ahead a answer p) (reply_step a.machine q plain told Ahead answer) (closed Ahead (record a { untold = b })) s.tracked s.looks

-- a request of its own is sent
some_serial : (x : Option ℕ) (serial : ℕ) → is_serial x serial ≡ true → is_some x ≡ true
some_serial None serial e = untrue e
some_serial (Some other) serial e = refl

module _ (p : Progress) (a : Agent) (h : IsWhole p a) where
  reads_whole : (phase : Phase) → a.machine.phase ≡ phase → IsWhole (reads_main phase p) a
  reads_whole phases.Fetching e = record { tracked = none_read no_progress a.machine (ap holds_read e) (h.tracked.idle (ap has_read e)); waits = h.waits; looks = h.looks }
  reads_whole phases.ReadingNext e = record { tracked = record { main = h.tracked.main; ahead = h.tracked.ahead; idle = h.tracked.idle }; waits = h.waits; looks = h.looks }
  reads_whole phase e = h

  sent_whole : (serial : ℕ) → IsWhole (progress_sends a serial p) a
  sent_whole serial = by (is_serial a.ahead serial) refl (is_serial a.main serial)
    where
      by : (x : Bool) → is_serial a.ahead serial ≡ x → (y : Bool) → IsWhole (cond x (record p { ahead = Some Null; rung = false }) (cond y (reads_main a.machine.phase p) p)) a
      by true e y = record {
        tracked =
            record { main = h.tracked.main; ahead = free_is p.ahead (Some Null) a.machine.orb.next a.machine.ahead (h.waits (some_serial a.ahead serial e)) h.tracked.ahead; idle = h.tracked.idle };
        waits = h.waits;
        looks = h.looks;
      }
      by false e true = reads_whole a.machine.phase refl
      by false e false = h

-- and nothing else counts
whole_as : (p now : Progress) (a : Agent) → now.next ≡ p.next → now.ahead ≡ p.ahead → IsWhole p a → IsWhole now a
whole_as p now a e f h = record {
  tracked = record { main = λ x. e ∙ h.tracked.main x; ahead = subst (λ got. AheadIs got a.machine.orb.next a.machine.ahead) (sym f) h.tracked.ahead; idle = h.tracked.idle };
  waits = h.waits;
  looks = h.looks;
}

calm_gets : (e : Event) → NoReply e → (q : ℕ) (a : Agent) (p : Progress) → ((gets e q a p).next ≡ p.next) × ((gets e q a p).ahead ≡ p.ahead)
calm_gets nothing n q a p = (refl, refl)
calm_gets (replies reply) n q a p = absurd (n reply refl)
calm_gets (writes agent_state other given) n q a p = (refl, refl)
calm_gets (writes agent_reset other given) n q a p = (refl, refl)
calm_gets (writes unsolicited_enable other given) n q a p = (refl, refl)
calm_gets (writes orb_pointer other given) n q a p = (refl, refl)
calm_gets (writes doorbell other given) n q a p = by (other == q)
  where
    by : (b : Bool) → ((cond b (record p { rung = true }) p).next ≡ p.next) × ((cond b (record p { rung = true }) p).ahead ≡ p.ahead)
    by true = (refl, refl)
    by false = (refl, refl)

-- ---- what is for a read ahead is for one that the agent waits for
record IsAheadAt (from place serial : ℕ) (agents : List Agent) : Type 0 where
  k : ℕ
  place_is : from + k ≡ place
  waits : (at_place agents k).ahead ≡ Some serial

ahead_among : (from : ℕ) (agents : List Agent) (place serial : ℕ) → purpose_among from agents serial ≡ for_agent place Ahead → IsAheadAt from place serial agents
ahead_among from [] place serial e = absurd (let f : for_nobody ≡ for_agent place Ahead = e in cc)
ahead_among from (a ∷ agents) place serial e =
    by (purpose_among (from + 1) agents serial) (λ h. ahead_among (from + 1) agents place serial h) (is_serial a.main serial) (is_serial a.ahead serial) refl e
  where
    by : (rest : Purpose) → (rest ≡ for_agent place Ahead → IsAheadAt (from + 1) place serial agents)
        → (x y : Bool) → is_serial a.ahead serial ≡ y → cond x (for_agent from Main) (cond y (for_agent from Ahead) rest) ≡ for_agent place Ahead
        → IsAheadAt from place serial (a ∷ agents)
    by rest more true y g h = absurd (let f : for_agent from Main ≡ for_agent place Ahead = h in cc)
    by rest more false true g h = record { k = 0; place_is = let f : from ≡ place = cc in omega arith; waits = serial_is a.ahead serial g }
    by rest more false false g h = let x = more h in let p = x.place_is in record { k = suc x.k; place_is = omega arith; waits = x.waits }

pub ahead_of : (t : Target) (place serial : ℕ) → purpose_of t serial ≡ for_agent place Ahead → (agent_at t place).ahead ≡ Some serial
ahead_of t place serial e = by (is_serial t.manages serial) e
  where
    by : (b : Bool) → cond b for_manager (purpose_among 0 t.agents serial) ≡ for_agent place Ahead → (agent_at t place).ahead ≡ Some serial
    by true f = absurd (let g : for_manager ≡ for_agent place Ahead = f in cc)
    by false f =
        let x = ahead_among 0 t.agents place serial f in
        let same : x.k ≡ place = (let p = x.place_is in omega arith) in
        subst (λ (q : ℕ). (at_place t.agents q).ahead ≡ Some serial) same x.waits

-- ---- what the target gets
module _ (p : ℕ → Progress) (T : Target) (h : AreStill (Whole p) T) where
  -- what its event makes of each progress
  abbrev Then : Event → ℕ → Progress
  Then e q = gets e q (agent_at T q) (p q)

  module _ (place : ℕ) (which : Which) (own : ℕ) (purpose : purpose_of T own ≡ for_agent place which) (answer : Answer) where
    abbrev mine : Reply
    mine = record { place = place; which = which; answer = answer }

    free : which ≡ Ahead → keeps_orb (agent_at T place).machine.ahead ≡ false
    free e = (h.agents place).waits (ap (λ (x : Option ℕ). is_some x) (ahead_of T place own (purpose ∙ ap (for_agent place) e)))

    own_pends : Pends (Whole (Then (replies mine))) (agent_at T place) mine
    own_pends plain told b =
        subst (λ (x : Progress). IsWhole x (moved (reply_step (agent_at T place).machine place plain told which answer) (closed which (record (agent_at T place) { untold = b }))))
        (sym (ap (λ (y : Bool). cond y (gets_by which (agent_at T place) answer (p place)) (p place)) (same_number place)))
        (reply_whole (p place) (agent_at T place) (h.agents place) place answer which free plain told b)

    agent_whole : AreSo (Whole (Then (replies mine))) (replied_to (for_agent place which) answer T)
    agent_whole = record {
      agents = λ q e. subst (λ (x : Progress). IsWhole x (agent_at T q)) (sym (ap (λ (y : Bool). cond y (gets_by which (agent_at T q) answer (p q)) (p q)) e)) (h.agents q);
      pending = λ reply e.
          let same : mine ≡ reply = (let both : Some mine ≡ Some reply = e in cc) in
          subst (λ (r : Reply). Pends (Whole (Then (replies mine))) (agent_at T r.place) r) same own_pends;
    }

  replied_whole : (own : ℕ) (answer : Answer) (purpose : Purpose) → purpose_of T own ≡ purpose → AreSo (Whole (Then (reply_to purpose answer))) (replied_to purpose answer T)
  replied_whole own answer (for_agent place which) e = agent_whole place which own e answer
  replied_whole own answer for_manager e = so (Whole p) _ (managed_kept (Whole p) (are_kept p) (manager_step T answer) answer T (λ place orb e a w. aborts p place a orb w) h)
  replied_whole own answer for_nobody e = so (Whole p) T h

  -- a request
  register_whole : (name : Register) (place : ℕ) (access : Access) → AreStill (Whole p) (register_got name place access T)
  register_whole agent_reset place access = cut_still (Whole p) (are_kept p).cuts T place h
  register_whole orb_pointer place access =
      let a = agent_at T place in
      let pointer = pointer_at access.payload 0 in
      let r = point_step a.machine pointer in
      pick (Whole p) (are_kept p) access.is_write (with_agent T place (points access a)) T
      (set_still (Whole p) T place (points access a) h (λ x. pointed_whole (p place) r (offset_at access.payload 0) a (point_tracked (p place) a.machine pointer x.tracked) x)) h
  register_whole doorbell place access =
      let a = agent_at T place in
      set_still (Whole p) T place (rings a) h (λ x. machine_whole (p place) a (rings a) (bell_tracked (p place) a.machine x.tracked) (bell_ahead a.machine) refl refl x)
  register_whole unsolicited_enable place access = stand_still (Whole p) _ T refl refl h
  register_whole agent_state place access = h

  started_whole : (r : Result Ask Busy × manager.Machine) → AreStill (Whole p) (started_by r T)
  started_whole (Err busy, machine) = h
  started_whole (Ok ask, machine) = stand_still (Whole p) _ T refl refl h

  start_whole : (start : Start) (source : ℕ) (access : Access) → AreStill (Whole p) (start_got start source access T)
  start_whole (register place name) source access = register_whole name place access
  start_whole management_agent source access = started_whole (manager.start_step T.manager source (offset_at access.payload 0))
  start_whole rom_start source access = h
  start_whole no_start source access = h

  request_still : (access : Option Access) (source : ℕ) → AreStill (Whole p) (request_got access source T)
  request_still None source = h
  request_still (Some access) source =
      pick (Whole p) (are_kept p) (start_serves (start_at access.offset) access) (start_got (start_at access.offset) source access T) T (start_whole (start_at access.offset) source access) h

  request_whole : (access : Option Access) (source : ℕ) → AreSo (Whole (Then (write_in access))) (request_got access source T)
  request_whole access source =
      let e = write_in access in
      let now = request_got access source T in
      let s = request_still access source in
      let as_before = λ (q : ℕ). (let c = calm_gets e (write_no access) q (agent_at T q) (p q) in whole_as (p q) (Then e q) (agent_at now q) c.0 c.1 (s.agents q)) in
      so (Whole (Then e)) now (record { agents = as_before; none = s.none })

  got_whole : (wire : Terms) (serial : ℕ) (b : Bool) (own : Option ℕ) → AreSo (Whole (Then (cond b (got_in own T wire serial) nothing))) (cond b (got_by own wire serial T) T)
  got_whole wire serial true (Some own) = replied_whole own (answer_in (packet_at wire serial)) (purpose_of T own) refl
  got_whole wire serial true None = request_whole (access_at wire serial) (id_for wire 0 (unwrap_or (sender_in (wire.sent serial)) 0))
  got_whole wire serial false own = so (Whole p) T h

  late_whole : (serial : ℕ) (b : Bool) → AreSo (Whole (Then (cond b (reply_to (purpose_of T serial) Expired) nothing))) (cond b (replied serial Expired T) T)
  late_whole serial true = replied_whole serial Expired (purpose_of T serial) refl
  late_whole serial false = so (Whole p) T h

-- ---- a login is entered: its agent is new
module _ (p : ℕ → Progress) where
  enters_whole : (place : Option ℕ) (decided : Option Decided) (id : ℕ) (t : Target) → AreSo (Whole p) t → AreSo (Whole p) (enters_in place decided id t)
  enters_whole None decided id t h = h
  enters_whole (Some place) None id t h = h
  enters_whole (Some place) (Some decided) id t h =
      stand (Whole p) (enters_in (Some place) (Some decided) id t) (with_agent t place new_agent) refl refl
      (set_so (Whole p) t place new_agent h (new_whole (p place)) (λ reply e plain told b. unheard_whole (p reply.place) reply.place reply.which reply.answer plain told b))

  entered_whole : (login : Option ℕ) (t : Target) → AreSo (Whole p) t → AreSo (Whole p) (entered_by login t)
  entered_whole None t h = h
  entered_whole (Some id) t h = enters_whole (position is_none t.table.places) t.decided id t h

-- ---- at each moment
module _ (start : List Disk) where
  abbrev At : List Moment → ℕ → Progress
  At past q = progress start past q

  on_note : (note : Note) (past : List Moment) → AreSo (Whole (At past)) (target_at start past) → AreSo (Whole (At (said note ∷ past))) (target_at start (said note ∷ past))
  on_note (notes.Got serial) past h =
      let wire = terms past in
      let s = over_still (Whole (At past)) (lasts (At past)) (target_at start past) h in
      subst (λ (w : Terms). AreSo (Whole (At (said (notes.Got serial) ∷ past))) (target_by (notes.Got serial) past w (target_at start past))) (sym (wire_is start past))
      (got_whole (At past) (over (target_at start past)) s wire serial (is_serial (receiver_in (wire.sent serial)) 0) (answered_at wire serial))
  on_note (notes.TimedOut serial) past h =
      let wire = terms past in
      let s = over_still (Whole (At past)) (lasts (At past)) (target_at start past) h in
      subst (λ (w : Terms). AreSo (Whole (At (said (notes.TimedOut serial) ∷ past))) (target_by (notes.TimedOut serial) past w (target_at start past))) (sym (wire_is start past))
      (late_whole (At past) (over (target_at start past)) s serial (is_serial (sender_in (wire.sent serial)) 0))
  on_note (notes.Sent serial generation zero to bytes) past h =
      let now = target_at start (said (notes.Sent serial generation 0 to bytes) ∷ past) in
      let s : AreStill (Whole (At past)) now = leaves_kept (Whole (At past)) (are_kept (At past)) serial generation 0 to bytes past (known_at start past).wire (target_at start past) tt h in
      so (Whole (At (said (notes.Sent serial generation 0 to bytes) ∷ past))) now (record { agents = λ q. sent_whole (At past q) (agent_at now q) (s.agents q) serial; none = s.none })
  on_note (notes.Sent serial generation (suc from) to bytes) past h =
      note_kept (Whole (At past)) (are_kept (At past)) (notes.Sent serial generation (suc from) to bytes) past (known_at start past).wire (target_at start past) h tt
  on_note (notes.Managed i functions.Login subject status login) past h =
      note_kept (Whole (At past)) (are_kept (At past)) (notes.Managed i functions.Login subject status login) past (known_at start past).wire (target_at start past) h
      (entered_whole (At past) login (target_at start past) h)
  on_note note past h = note_kept (Whole (At past)) (are_kept (At past)) note past (known_at start past).wire (target_at start past) h tt

  whole : (past : List Moment) → AreSo (Whole (At past)) (target_at start past)
  whole [] = record { agents = λ q e. subst (λ (a : Agent). IsWhole no_progress a) (sym (new_there 8 q)) (new_whole no_progress); pending = λ reply e. none_is reply e }
  whole (asked line event ∷ past) = so (Whole (At past)) (over (target_at start past)) (over_still (Whole (At past)) (lasts (At past)) (target_at start past) (whole past))
  whole (said note ∷ past) = on_note note past (whole past)

  pub whole_before : (past : List Moment) (q : ℕ) → IsWhole (progress start past q) (agent_at (over (target_at start past)) q)
  whole_before past q = (over_still (Whole (At past)) (lasts (At past)) (target_at start past) (whole past)).agents q
