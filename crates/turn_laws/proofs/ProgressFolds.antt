-- What is so of an agent of the terms and of its progress together is so at each moment of every history in which serials count, where each step that is taken of both keeps it.
use Rattle.std.proofs.Common.{◌≡◌, ◌∙◌, refl, sym, ap, subst, ℕ, zero, suc, ◌+◌, ◌<◌, ◌==◌, not, nat_eq, is_some, Bool, true, false, cond, List, [], ◌∷◌, Option, Some, None, Result, Ok, Err, arith}
use Rattle.std.specs.Prelude.{◌&&◌, is_none as option_none, position, unwrap_or}
use Rattle.bus_transactions.specs.Packets.{SerialsCount}
use Rattle.command_agent.specs.declared.step.Which.{Which}
use Rattle.command_agent.specs.declared.step.Which.TheVariants.{Ahead}
use Rattle.command_agent.specs.Machine.{new_machine}
use Rattle.command_agent.specs.Steps.{abort_step, lost_step, reply_step}
use Rattle.mgmt_agent.specs.declared.operation.Busy.{Busy}
use Rattle.mgmt_agent.specs.Machine as manager
use Rattle.orb_layout.specs.declared.ask.Ask.{Ask}
use Rattle.orb_layout.specs.declared.ask.Ask.TheVariants.{Nothing}
use Rattle.orb_layout.specs.declared.ask.FailCause.TheVariants as causes
use Rattle.orb_layout.specs.declared.pointer.OrbPointer.TheVariants.{Null}
use Rattle.orb_layout.specs.Pointers.{offset_at}
use Rattle.orb_layout.specs.Replies.{Answer, Done, Expired, NoLabel, Payload, Refused}
use Rattle.rbc_disk.specs.Disk.{Disk}
use Rattle.rbc_disk.specs.Runs.{Told}
use Rattle.rbc_disk.specs.Units.{PlainDisk}
use Rattle.async_packet.specs.Packet.{Packet, read_block_response, read_quadlet_response, write_response}
use Rattle.sbp_journal.specs.Addresses.{Access, Register, Start, register_serves, agent_reset, agent_state, doorbell, management_agent, no_start, orb_pointer, register, rom_start, start_at, start_serves, unsolicited_enable}
use Rattle.sbp_journal.specs.Run.{Moment, asked, said}
use Rattle.sbp_journal.specs.Transactions.{Part, no_packet, part_of, request, response}
use Rattle.sbp_journal.specs.Wire.{Terms, terms}
use Rattle.sbp_journal.specs.declared.note.Note.{Note}
use Rattle.sbp_journal.specs.declared.note.Note.TheVariants as notes
use Rattle.sbp_journal.specs.declared.operation.FunctionWord.TheVariants as functions
use Rattle.byteorder.specs.Endian.{big_bytes}
use Rattle.sbp_laws.specs.Agents.{Event, got_in, nothing, replies, reply_to, write_in, write_of, writes}
use Rattle.sbp_laws.specs.Packets.{access_at, access_in_bytes, answer_in, answer_of, answered_at, id_for, packet_at, receiver_in, sender_in}
use Rattle.sbp_laws.specs.Progress.{Progress, gets, gets_by, no_progress, progress, reads_main, sends as progress_sends}
use Rattle.sbp_laws.specs.Targets.{Agent, Decided, Purpose, Reply, Target, agent_at, agent_over, ahead_lost, closed, cut_agent, entered_by, enters_in, for_agent, for_manager, for_nobody, got_by, is_nothing, is_serial, is_write_access, known_at, main_lost, manager_step, moved, new_agent, over, points, purpose_of, register_got, replied, replied_to, request_got, rings, sends_of, sent_as, sent_for, start_got, started_by, taken_on, target_at, target_by, wants, wants_it, with_agent}
use Rattle.sbp_world.proofs.Agents.Management.Firsts.{wire_is}
use Rattle.sbp_world.proofs.Common.{and_first, and_second, none_is, same_number, untrue}
use Rattle.sbp_world.proofs.Lists.AgentFolds.{AreKept, AreLasting, AreSo, AreStill, Pends, SetAgent, at_place, cut_still, is_it, is_none, is_other, map_at, new_there, over_still, set_agent, set_so, set_still, settles, so, stand, stand_still}
use Rattle.sbp_world.proofs.Lists.AgentNotes.{managed_kept, note_kept, pick}
use Rattle.turn_laws.proofs.LaterNotes.{one_count}
use Rattle.turn_laws.proofs.Progresses.{IsWhole, ahead_of, whole_before}
use Rattle.turn_laws.proofs.PushSerials.{Apart, apart_of, counted}
use Rattle.turn_laws.proofs.SerialsStay.{All, takes_on}

-- it asks for nothing more in this turn
abbrev pub IsQuiet : Agent → Type 0
IsQuiet a = (is_nothing a.asks ≡ true) × (is_nothing a.asks_ahead ≡ true)

-- a packet that it does not wait for leaves its progress
module _ (p : Progress) (serial : ℕ) where
  pub still_progress : (a : Agent) → is_serial a.main serial ≡ false → is_serial a.ahead serial ≡ false → progress_sends a serial p ≡ p
  still_progress a e f =
      ap (λ b. cond b (record p { ahead = Some Null; rung = false }) (cond (is_serial a.main serial) (reads_main a.machine.phase p) p)) f ∙ ap (λ b. cond b (reads_main a.machine.phase p) p) e

-- what may come of a request
abbrev pub IsTold : Answer → Type 0
IsTold NoLabel = ⊥
IsTold answer = Unit {0}

-- each step of an agent and its progress keeps it
pub record AreFollowed (F : Progress → Agent → Type 0) : Type 0 where
  pub new : (p : Progress) → F p new_agent
  pub untells : (p : Progress) (a : Agent) (b : Bool) → F p a → F p (record a { untold = b })
  pub loses : (p : Progress) (a : Agent) → F p a → F p (main_lost a)
  pub ends : (p : Progress) (a : Agent) → F p a → F p (agent_over a)
  pub cuts : (p : Progress) (a : Agent) → F p a → F p (cut_agent a)
  pub aborts : (p : Progress) (a : Agent) (orb : ℕ) → F p a → F p (record a { machine = abort_step a.machine orb })
  pub points : (p : Progress) (a : Agent) (access : Access) → IsQuiet a → F p a → F p (points access a)
  pub rings : (p : Progress) (a : Agent) → IsQuiet a → F p a → F (record p { rung = true }) (rings a)
  pub sends : (p : Progress) (a : Agent) (is_write : Bool) (serial : ℕ) → is_serial a.main serial ≡ false → is_serial a.ahead serial ≡ false → F p a → (let now = sends_of is_write serial a in F (progress_sends now serial p) now)
  pub replies : (p : Progress) (a : Agent) (q : ℕ) (which : Which) (answer : Answer) → IsTold answer → (which ≡ Ahead → is_some a.ahead ≡ true) → IsWhole p a → IsQuiet a → F p a
      → (plain : PlainDisk) (told : Option Told) (b : Bool) → F (gets_by which a answer p) (moved (reply_step a.machine q plain told which answer) (closed which (record a { untold = b })))
  -- a reply to a new agent
  pub unheard : (p : Progress) (q : ℕ) (which : Which) (answer : Answer) (plain : PlainDisk) (told : Option Told) (b : Bool) → F p (moved (reply_step new_machine q plain told which answer) (closed which (record new_agent { untold = b })))

-- ---- behind a turn no agent asks
lost_quiet : (a : Agent) → is_nothing (ahead_lost a).asks_ahead ≡ true
lost_quiet a = by (is_nothing a.asks_ahead) refl
  where
    by : (b : Bool) → is_nothing a.asks_ahead ≡ b → is_nothing (cond b a (record a { machine = (lost_step a.machine Ahead causes.Label).1; asks_ahead = Nothing })).asks_ahead ≡ true
    by true e = e
    by false e = refl

over_quiet : (a : Agent) → IsQuiet (agent_over a)
over_quiet a = (refl, lost_quiet (main_lost a))

quiet_over : (t : Target) (q : ℕ) → IsQuiet (agent_at (over t) q)
quiet_over t q = subst IsQuiet (sym (map_at agent_over refl (taken_on None t.reply t).agents q)) (over_quiet (at_place (taken_on None t.reply t).agents q))

answer_told : (p : Option Packet) → IsTold (answer_in p)
answer_told None = tt
answer_told (Some packet) = by packet
  where
    written : (b : Bool) (rcode : ℕ) → IsTold (cond b Done (Refused rcode))
    written true rcode = tt
    written false rcode = tt

    read : (b : Bool) (bytes : List ℕ) (rcode : ℕ) → IsTold (cond b (Payload bytes) (Refused rcode))
    read true bytes rcode = tt
    read false bytes rcode = tt

    by : (packet : Packet) → IsTold (answer_of packet)
    by (write_response header rcode) = written (rcode == 0) rcode
    by (read_quadlet_response header rcode value) = read (rcode == 0) (big_bytes 4 value) rcode
    by (read_block_response header rcode payload) = read (rcode == 0) payload rcode
    by packet = tt

rings_write : (access : Access) → register_serves doorbell access ≡ true → access.is_write ≡ true
rings_write access e = and_second (not access.is_lock) access.is_write (and_first (not access.is_lock && access.is_write) (not access.is_block) e)

module _ (F : Progress → Agent → Type 0) (k : AreFollowed F) where
  abbrev Each : (ℕ → Progress) → ℕ → Agent → Type 0
  Each p q a = F (p q) a

  -- the packets of a turn are said apart
  abbrev Never : ℕ → Type 0
  Never serial = ⊥

  lasts : (p : ℕ → Progress) → AreLasting (Each p) Never
  lasts p = record {
    untells = λ q a b h. k.untells (p q) a b h;
    sends = λ q a is_write serial never h. absurd never;
    loses = λ q a h. k.loses (p q) a h;
    ends = λ q a h. k.ends (p q) a h;
    stays = λ q which answer plain told b h. k.new (p q);
  }

  are_kept : (p : ℕ → Progress) → AreKept (Each p) Never
  are_kept p = record { lasting = lasts p; cuts = λ q a h. k.cuts (p q) a h }

  -- ---- what the target gets
  module _ (p : ℕ → Progress) (T : Target) (h : AreStill (Each p) T) (w : (q : ℕ) → IsWhole (p q) (agent_at T q)) (quiet : (q : ℕ) → IsQuiet (agent_at T q)) where
    abbrev Then : Event → ℕ → Progress
    Then e q = gets e q (agent_at T q) (p q)

    module _ (place own : ℕ) (which : Which) (purpose : purpose_of T own ≡ for_agent place which) (answer : Answer) (is_told : IsTold answer) where
      abbrev mine : Reply
      mine = record { place = place; which = which; answer = answer }

      waits : which ≡ Ahead → is_some (agent_at T place).ahead ≡ true
      waits e = ap (λ (x : Option ℕ). is_some x) (ahead_of T place own (purpose ∙ ap (for_agent place) e))

      own_pends : Pends (Each (Then (replies mine))) (agent_at T place) mine
      own_pends plain told b =
          subst (λ (x : Progress). F x (moved (reply_step (agent_at T place).machine place plain told which answer) (closed which (record (agent_at T place) { untold = b }))))
          (sym (ap (λ (y : Bool). cond y (gets_by which (agent_at T place) answer (p place)) (p place)) (same_number place)))
          (k.replies (p place) (agent_at T place) place which answer is_told waits (w place) (quiet place) (h.agents place) plain told b)

      agent_replied : AreSo (Each (Then (replies mine))) (replied_to (for_agent place which) answer T)
      agent_replied = record {
        agents = λ q e. subst (λ (x : Progress). F x (agent_at T q)) (sym (ap (λ (y : Bool). cond y (gets_by which (agent_at T q) answer (p q)) (p q)) e)) (h.agents q);
        pending = λ reply e.
            let same : mine ≡ reply = (let both : Some mine ≡ Some reply = e in cc) in
            subst (λ (r : Reply). Pends (Each (Then (replies mine))) (agent_at T r.place) r) same own_pends;
      }

    replied_so : (own : ℕ) (answer : Answer) → IsTold answer → (purpose : Purpose) → purpose_of T own ≡ purpose → AreSo (Each (Then (reply_to purpose answer))) (replied_to purpose answer T)
    replied_so own answer is_told (for_agent place which) e = agent_replied place own which e answer is_told
    replied_so own answer is_told for_manager e = so (Each p) _ (managed_kept (Each p) (are_kept p) (manager_step T answer) answer T (λ place orb f a x. k.aborts (p place) a orb x) h)
    replied_so own answer is_told for_nobody e = so (Each p) T h

    -- a request that leaves progress
    calm_still : (e : Event) (now : Target) → ((q : ℕ) → Then e q ≡ p q) → AreStill (Each p) now → AreStill (Each (Then e)) now
    calm_still e now f s = record { agents = λ q. subst (λ (x : Progress). F x (agent_at now q)) (sym (f q)) (s.agents q); none = s.none }

    rung_still : (place : ℕ) (access : Access) → AreStill (Each (Then (writes doorbell place access))) (with_agent T place (rings (agent_at T place)))
    rung_still place access = record { agents = λ q. each q (set_agent T.agents place (rings (agent_at T place)) q); none = h.none }
      where
        each : (q : ℕ) → SetAgent T.agents place (rings (agent_at T place)) q → F (Then (writes doorbell place access) q) (agent_at (with_agent T place (rings (agent_at T place))) q)
        each q (is_it e g) =
            subst (λ (a : Agent). F (Then (writes doorbell place access) q) a) (sym g)
            (subst (λ n. F (Then (writes doorbell place access) n) (rings (agent_at T place))) (sym e)
            (subst (λ (x : Progress). F x (rings (agent_at T place))) (sym (ap (λ (y : Bool). cond y (record (p place) { rung = true }) (p place)) (same_number place))) (k.rings (p place) (agent_at T place) (quiet place) (h.agents place))))
        each q (is_other e g) =
            subst (λ (a : Agent). F (Then (writes doorbell place access) q) a) (sym g)
            (subst (λ (x : Progress). F x (agent_at T q)) (sym (ap (λ (y : Bool). cond y (record (p q) { rung = true }) (p q)) e)) (h.agents q))
        each q (is_none g none) = subst (λ (a : Agent). F (Then (writes doorbell place access) q) a) (sym g) (k.new (Then (writes doorbell place access) q))

    -- by whether the register is written so, and takes it
    abbrev Written : Register → (place : ℕ) → Access → Bool → Bool → Type 0
    Written name place access writing serves = AreStill (Each (Then (cond (writing && serves) (writes name place access) nothing))) (cond serves (register_got name place access T) T)

    plain_written : (name : Register) (place : ℕ) (access : Access) → ((b : Bool) (q : ℕ) → Then (cond b (writes name place access) nothing) q ≡ p q) → AreStill (Each p) (register_got name place access T) → (writing serves : Bool) → Written name place access writing serves
    plain_written name place access f s writing true = calm_still (cond (writing && true) (writes name place access) nothing) (register_got name place access T) (f (writing && true)) s
    plain_written name place access f s writing false = calm_still (cond (writing && false) (writes name place access) nothing) T (f (writing && false)) h

    points_so : (place : ℕ) (access : Access) → AreStill (Each p) (register_got orb_pointer place access T)
    points_so place access =
        pick (Each p) (are_kept p) access.is_write (with_agent T place (points access (agent_at T place))) T
        (set_still (Each p) T place (points access (agent_at T place)) h (λ x. k.points (p place) (agent_at T place) access (quiet place) x)) h

    register_so : (name : Register) (place : ℕ) (access : Access) → Written name place access access.is_write (register_serves name access)
    register_so agent_reset place access = plain_written agent_reset place access (λ b q. none_gets b q) (cut_still (Each p) (are_kept p).cuts T place h) access.is_write (register_serves agent_reset access)
      where
        none_gets : (b : Bool) (q : ℕ) → Then (cond b (writes agent_reset place access) nothing) q ≡ p q
        none_gets true q = refl
        none_gets false q = refl
    register_so orb_pointer place access = plain_written orb_pointer place access (λ b q. none_gets b q) (points_so place access) access.is_write (register_serves orb_pointer access)
      where
        none_gets : (b : Bool) (q : ℕ) → Then (cond b (writes orb_pointer place access) nothing) q ≡ p q
        none_gets true q = refl
        none_gets false q = refl
    register_so unsolicited_enable place access = plain_written unsolicited_enable place access (λ b q. none_gets b q) (stand_still (Each p) _ T refl refl h) access.is_write (register_serves unsolicited_enable access)
      where
        none_gets : (b : Bool) (q : ℕ) → Then (cond b (writes unsolicited_enable place access) nothing) q ≡ p q
        none_gets true q = refl
        none_gets false q = refl
    register_so agent_state place access = plain_written agent_state place access (λ b q. none_gets b q) h access.is_write (register_serves agent_state access)
      where
        none_gets : (b : Bool) (q : ℕ) → Then (cond b (writes agent_state place access) nothing) q ≡ p q
        none_gets true q = refl
        none_gets false q = refl
    register_so doorbell place access = by (register_serves doorbell access) refl access.is_write refl
      where
        by : (serves : Bool) → register_serves doorbell access ≡ serves → (writing : Bool) → access.is_write ≡ writing → Written doorbell place access writing serves
        by true e true f = rung_still place access
        by true e false f = untrue (sym f ∙ rings_write access e)
        by false e true f = h
        by false e false f = h

    started_so : (r : Result Ask Busy × manager.Machine) → AreStill (Each p) (started_by r T)
    started_so (Err busy, machine) = h
    started_so (Ok ask, machine) = stand_still (Each p) _ T refl refl h

    start_so : (start : Start) (source : ℕ) (access : Access) → AreStill (Each (Then (write_of start access))) (cond (start_serves start access) (start_got start source access T) T)
    start_so (register place name) source access = register_so name place access
    start_so management_agent source access =
        pick (Each p) (are_kept p) (start_serves management_agent access) (start_got management_agent source access T) T (started_so (manager.start_step T.manager source (offset_at access.payload 0))) h
    start_so rom_start source access = h
    start_so no_start source access = h

    request_so : (access : Option Access) (source : ℕ) → AreSo (Each (Then (write_in access))) (request_got access source T)
    request_so None source = so (Each p) T h
    request_so (Some access) source = so (Each (Then (write_of (start_at access.offset) access))) _ (start_so (start_at access.offset) source access)

    got_so : (wire : Terms) (serial : ℕ) (b : Bool) (own : Option ℕ) → AreSo (Each (Then (cond b (got_in own T wire serial) nothing))) (cond b (got_by own wire serial T) T)
    got_so wire serial true (Some own) = replied_so own (answer_in (packet_at wire serial)) (answer_told (packet_at wire serial)) (purpose_of T own) refl
    got_so wire serial true None = request_so (access_at wire serial) (id_for wire 0 (unwrap_or (sender_in (wire.sent serial)) 0))
    got_so wire serial false own = so (Each p) T h

    late_so : (serial : ℕ) (b : Bool) → AreSo (Each (Then (cond b (reply_to (purpose_of T serial) Expired) nothing))) (cond b (replied serial Expired T) T)
    late_so serial true = replied_so serial Expired tt (purpose_of T serial) refl
    late_so serial false = so (Each p) T h

  -- ---- a login is entered: its agent is new
  module _ (p : ℕ → Progress) where
    enters_so : (place : Option ℕ) (decided : Option Decided) (id : ℕ) (t : Target) → AreSo (Each p) t → AreSo (Each p) (enters_in place decided id t)
    enters_so None decided id t h = h
    enters_so (Some place) None id t h = h
    enters_so (Some place) (Some decided) id t h =
        stand (Each p) (enters_in (Some place) (Some decided) id t) (with_agent t place new_agent) refl refl
        (set_so (Each p) t place new_agent h (k.new (p place)) (λ reply e plain told b. k.unheard (p reply.place) reply.place reply.which reply.answer plain told b))

    entered_so : (login : Option ℕ) (t : Target) → AreSo (Each p) t → AreSo (Each p) (entered_by login t)
    entered_so None t h = h
    entered_so (Some id) t h = enters_so (position option_none t.table.places) t.decided id t h

    -- ---- a packet is sent, with a serial that nobody waits for yet
    module _ (serial : ℕ) where
      abbrev Sent : ℕ → Agent → Type 0
      Sent q a = F (progress_sends a serial (p q)) a

      sent_still : (q : ℕ) (a : Agent) → is_serial a.main serial ≡ false → is_serial a.ahead serial ≡ false → F (p q) a → Sent q a
      sent_still q a e f h =
          subst (λ (x : Progress). F x a) (sym (still_progress (p q) serial a e f)) h

      either_sent : (b : Bool) (x y : Target) → AreStill Sent x → AreStill Sent y → AreStill Sent (cond b x y)
      either_sent true x y h k = h
      either_sent false x y h k = k

      module _ (S : Target) (h : AreStill (Each p) S) (free : All (Apart serial) refl S.agents) where
        before : AreStill Sent S
        before = record { agents = λ q. sent_still q (agent_at S q) (free q).0 (free q).1 (h.agents q); none = h.none }

        for_one : (place : Option ℕ) (is_write : Bool) → AreStill Sent (sent_for place is_write serial S)
        for_one (Some place) is_write =
            set_still Sent S place (sends_of is_write serial (agent_at S place)) before (λ x. k.sends (p place) (agent_at S place) is_write serial (free place).0 (free place).1 (h.agents place))
        for_one None is_write =
            either_sent (wants S.manager_asks is_write) (record S { manages = Some serial; manager_asks = Nothing }) (record S { pushes = serial ∷ S.pushes })
            (stand_still Sent (record S { manages = Some serial; manager_asks = Nothing }) S refl refl before) (stand_still Sent (record S { pushes = serial ∷ S.pushes }) S refl refl before)

        sent_so : (part : Part) (is_write : Bool) → AreStill Sent (sent_as part is_write serial S)
        sent_so (request label kind) is_write = for_one (position (wants_it is_write) S.agents) is_write
        sent_so (response label kind) is_write = before
        sent_so no_packet is_write = before

  -- ---- at each moment
  module _ (start : List Disk) where
    abbrev At : List Moment → ℕ → Progress
    At past q = progress start past q

    abbrev Is : List Moment → Type 0
    Is past = AreSo (Each (At past)) (target_at start past)

    -- nobody waits for the next serial
    free_in : (past : List Moment) (serial : ℕ) → SerialsCount past → serial ≡ (terms past).count + 1 → All (Apart serial) refl (taken_on None (target_at start past).reply (target_at start past)).agents
    free_in past serial c e =
        let t = target_at start past in
        let n = (terms past).count in
        let above : n < serial = omega (arith, e) in
        let x = counted start past c in
        (takes_on (Apart serial) refl None t.reply t).agents (λ q. (apart_of n serial (agent_at t q).main above (x.agents q).0, apart_of n serial (agent_at t q).ahead above (x.agents q).1, (x.agents q).2))

    on_note : (note : Note) (past : List Moment) → SerialsCount (said note ∷ past) → Is past → Is (said note ∷ past)
    on_note (notes.Got serial) past c h =
        let wire = terms past in
        let s = over_still (Each (At past)) (lasts (At past)) (target_at start past) h in
        subst (λ (w : Terms). AreSo (Each (At (said (notes.Got serial) ∷ past))) (target_by (notes.Got serial) past w (target_at start past))) (sym (wire_is start past))
        (got_so (At past) (over (target_at start past)) s (whole_before start past) (quiet_over (target_at start past)) wire serial (is_serial (receiver_in (wire.sent serial)) 0) (answered_at wire serial))
    on_note (notes.TimedOut serial) past c h =
        let wire = terms past in
        let s = over_still (Each (At past)) (lasts (At past)) (target_at start past) h in
        subst (λ (w : Terms). AreSo (Each (At (said (notes.TimedOut serial) ∷ past))) (target_by (notes.TimedOut serial) past w (target_at start past))) (sym (wire_is start past))
        (late_so (At past) (over (target_at start past)) s (whole_before start past) (quiet_over (target_at start past)) serial (is_serial (sender_in (wire.sent serial)) 0))
    on_note (notes.Sent serial generation zero to bytes) past c h =
        let t = target_at start past in
        let now = target_at start (said (notes.Sent serial generation 0 to bytes) ∷ past) in
        let s = sent_so (At past) serial (taken_on None t.reply t) (settles (Each (At past)) (lasts (At past)) t h) (free_in past serial c.1 c.0) (part_of bytes) (is_write_access (access_in_bytes bytes)) in
        so (Each (At (said (notes.Sent serial generation 0 to bytes) ∷ past))) now (record { agents = s.agents; none = s.none })
    on_note (notes.Sent serial generation (suc from) to bytes) past c h =
        let t = target_at start past in
        let S = taken_on None t.reply t in
        let other : nat_eq (suc from) 0 ≡ false = grind arith in
        subst (λ b. AreSo (Each (At past)) (cond b (sent_as (part_of bytes) (is_write_access (access_in_bytes bytes)) serial S) S)) (sym other)
        (so (Each (At past)) S (settles (Each (At past)) (lasts (At past)) t h))
    on_note (notes.Managed i functions.Login subject status login) past c h =
        note_kept (Each (At past)) (are_kept (At past)) (notes.Managed i functions.Login subject status login) past (known_at start past).wire (target_at start past) h
        (entered_so (At past) login (target_at start past) h)
    on_note note past c h = note_kept (Each (At past)) (are_kept (At past)) note past (known_at start past).wire (target_at start past) h tt

    followed : (past : List Moment) → SerialsCount past → Is past
    followed [] c = record { agents = λ q e. subst (λ (a : Agent). F no_progress a) (sym (new_there 8 q)) (k.new no_progress); pending = λ reply e. none_is reply e }
    followed (asked line event ∷ past) c = so (Each (At past)) (over (target_at start past)) (over_still (Each (At past)) (lasts (At past)) (target_at start past) (followed past c))
    followed (said note ∷ past) c = on_note note past c (followed past (one_count note past c))

    -- so behind each turn
    pub followed_before : (past : List Moment) → SerialsCount past → (q : ℕ) → F (progress start past q) (agent_at (over (target_at start past)) q)
    followed_before past c q = (over_still (Each (At past)) (lasts (At past)) (target_at start past) (followed past c)).agents q
