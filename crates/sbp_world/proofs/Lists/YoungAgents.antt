-- What each transaction of the agent of a place is, by the terms of a history: one that was sent since a moment, or of a kind that it had then, where it had no other at that moment. So it is from then on.
use Rattle.sbp_world.proofs.Words.Std.{arith, ◌≡◌, ◌∙◌, ◌⊎◌, inl, inr, refl, sym, subst, ◌<◌, ◌≤◌, ◌+◌, ◌||◌, not, nat_eq, nat_tests, ℕ, Bool, true, false, cond, List, [], ◌∷◌, ◌++◌, Option, Some, None, Result, Ok, Err, is_none, position, unwrap_or, false≢true, same_Some}
use Rattle.sbp_world.proofs.Words.Wire.{SerialsCount, Access, Register, Start, agent_reset, agent_state, doorbell, management_agent, no_start, orb_pointer, register, rom_start, start_at, start_serves, unsolicited_enable, Moment, asked, said, Terms, terms}
use Rattle.sbp_world.proofs.Words.Target.{AgentStep, PointRefusal, Which, Ahead, Main, Machine, is_ahead, lost_step, point_step, reply_step, Busy, Disk, PlainDisk, Told}
use Rattle.sbp_world.proofs.Words.Initiator.{Ask, Nothing, offset_at, pointer_at, Answer, Expired}
use Rattle.sbp_world.proofs.Words.Laws.{access_at, answer_in, answered_at, id_for, packet_at, receiver_in, sender_in, Agent, Decided, Purpose, Reply, Target, agent_at, agent_over, closed, entered_by, enters_in, for_agent, for_manager, for_nobody, got_by, is_nothing, is_serial, known_at, main_lost, manager_step, moved, new_agent, over, pointed_by, points, purpose_of, register_got, replied, replied_to, request_got, rings, sends_of, start_got, started_by, target_at, wants, with_agent}
use Rattle.command_agent.specs.Steps as steps
use Rattle.orb_layout.specs.declared.ask.FailCause.TheVariants as causes
use Rattle.mgmt_agent.specs.Machine as manager
use Rattle.sbp_journal.specs.declared.note.Note.TheVariants as notes
use Rattle.sbp_journal.specs.declared.operation.FunctionWord.TheVariants as functions
use Rattle.sbp_world.proofs.Common.{none_is}
use Rattle.sbp_world.proofs.Hosts.Remaining.{remains}
use Rattle.sbp_world.proofs.Hosts.SentMoments.{serials_from}
use Rattle.sbp_world.proofs.Lists.AgentFolds.{AreKept, at_place, AreSo, AreStill, cut_still, over_still, set_so, set_still, so, stand, stand_still}
use Rattle.sbp_world.proofs.Lists.AgentNotes.{managed_kept, note_kept, pick}

-- ---- of an agent
module _ (G : ℕ → Type 0) where
  abbrev pub HasSuch : Agent → Type 0
  HasSuch a = ((s : ℕ) → a.main ≡ Some s → G s) × ((s : ℕ) → a.ahead ≡ Some s → G s)

  moved_such : (step : AgentStep × Machine) (a : Agent) → HasSuch a → HasSuch (moved step a)
  moved_such (step, machine) a h = (main step.promoted, ahead (step.promoted || not (is_ahead machine.ahead)))
    where
      main : (b : Bool) (s : ℕ) → cond b a.ahead a.main ≡ Some s → G s
      main true s e = h.1 s e
      main false s e = h.0 s e

      ahead : (b : Bool) (s : ℕ) → cond b None a.ahead ≡ Some s → G s
      ahead true s e = none_is s e
      ahead false s e = h.1 s e

  closed_such : (which : Which) (a : Agent) → HasSuch a → HasSuch (closed which a)
  closed_such Main a h = ((λ s e. none_is s e), h.1)
  closed_such Ahead a h = (h.0, (λ s e. none_is s e))

  -- the reply to its main transaction takes it on
  main_closed : (a : Agent) → ((s : ℕ) → a.ahead ≡ Some s → G s) → HasSuch (closed Main a)
  main_closed a h = ((λ s e. none_is s e), h)

  sends_such : (a : Agent) (is_write : Bool) (serial : ℕ) → G serial → HasSuch a → HasSuch (sends_of is_write serial a)
  sends_such a is_write serial may h = by (wants a.asks is_write) (wants a.asks_ahead is_write)
    where
      by : (x y : Bool) → HasSuch (cond x (record a { main = Some serial; asks = Nothing }) (cond y (record a { ahead = Some serial; asks_ahead = Nothing }) a))
      by true y = ((λ s e. subst G (same_Some serial s e) may), h.1)
      by false true = (h.0, (λ s e. subst G (same_Some serial s e) may))
      by false false = h

  loses_such : (a : Agent) → HasSuch a → HasSuch (main_lost a)
  loses_such a h = by (is_nothing a.asks)
    where
      by : (b : Bool) → HasSuch (cond b a (moved (lost_step a.machine Main causes.Label) a))
      by true = h
      by false = moved_such (lost_step a.machine Main causes.Label) a h

  over_such : (a : Agent) → HasSuch a → HasSuch (agent_over a)
  over_such a h = by (is_nothing (main_lost a).asks_ahead)
    where
      k : HasSuch (main_lost a)
      k = loses_such a h

      by : (b : Bool) → HasSuch (cond b (main_lost a) (record (main_lost a) { machine = (lost_step (main_lost a).machine Ahead causes.Label).1; asks_ahead = Nothing }))
      by true = k
      by false = k

-- ---- of that of a place
module _ (G : ℕ → Type 0) (p : ℕ) where
  abbrev pub Such : ℕ → Agent → Type 0
  Such q a = q ≡ p → HasSuch G a

  are_such : AreKept Such G
  are_such = record {
    lasting = record {
      untells = λ q a b h e. ((h e).0, (h e).1);
      sends = λ q a is_write serial may h e. sends_such G a is_write serial may (h e);
      loses = λ q a h e. loses_such G a (h e);
      ends = λ q a h e. over_such G a (h e);
      stays = λ q which answer plain told b h e. ((λ s f. none_is s f), (λ s f. none_is s f));
    };
    cuts = λ q a h e. ((λ s f. none_is s f), (λ s f. none_is s f));
  }

  -- ---- the target
  abbrev All : Target → Type 0
  All t = AreStill Such t

  -- where a reply may wait
  all_so : (now t : Target) → now.agents ≡ t.agents → All t → AreSo Such now
  all_so now t e h = record {
    agents = λ q g. subst (λ (xs : List Agent). Such q (at_place xs q)) (sym e) (h.agents q);
    pending = λ reply g plain told b at. (let k = subst (λ (xs : List Agent). Such reply.place (at_place xs reply.place)) (sym e) (h.agents reply.place) at in
        moved_such G (reply_step (agent_at now reply.place).machine reply.place plain told reply.which reply.answer) (closed reply.which (record (agent_at now reply.place) { untold = b })) (closed_such G reply.which (record (agent_at now reply.place) { untold = b }) (k.0, k.1)));
  }

  module _ (T : Target) (h : All T) where
    pointed_such : (q : ℕ) (a : Agent) (r : Result Ask PointRefusal × Machine) (pointer : ℕ) → Such q a → Such q (pointed_by r pointer a)
    pointed_such q a (Err refusal, m) pointer h = h
    pointed_such q a (Ok ask, m) pointer h = λ e. (let k = moved_such G (steps.asks ask, m) a (h e) in (k.0, k.1))

    register_such : (name : Register) (place : ℕ) (access : Access) → All (register_got name place access T)
    register_such agent_reset place access = cut_still Such are_such.cuts T place h
    register_such orb_pointer place access =
        let a = agent_at T place in
        pick Such are_such access.is_write (with_agent T place (points access a)) T
        (set_still Such T place (points access a) h (λ x. pointed_such place a (point_step a.machine (pointer_at access.payload 0)) (offset_at access.payload 0) x)) h
    register_such doorbell place access =
        let a = agent_at T place in set_still Such T place (rings a) h (λ x e. (let k = x e in (k.0, k.1)))
    register_such unsolicited_enable place access = stand_still Such _ T refl refl h
    register_such agent_state place access = h

    started_such : (r : Result Ask Busy × manager.Machine) → All (started_by r T)
    started_such (Err busy, machine) = h
    started_such (Ok ask, machine) = stand_still Such _ T refl refl h

    start_such : (start : Start) (source : ℕ) (access : Access) → All (start_got start source access T)
    start_such (register place name) source access = register_such name place access
    start_such management_agent source access = started_such (manager.start_step T.manager source (offset_at access.payload 0))
    start_such rom_start source access = h
    start_such no_start source access = h

    request_such : (access : Option Access) (source : ℕ) → All (request_got access source T)
    request_such None source = h
    request_such (Some access) source = pick Such are_such (start_serves (start_at access.offset) access) (start_got (start_at access.offset) source access T) T (start_such (start_at access.offset) source access) h

    -- an answer
    replied_such : (purpose : Purpose) (answer : Answer) → AreSo Such (replied_to purpose answer T)
    replied_such (for_agent place which) answer = all_so _ T refl h
    replied_such for_manager answer = so Such _ (managed_kept Such are_such (manager_step T answer) answer T (λ place orb f a k e. ((k e).0, (k e).1)) h)
    replied_such for_nobody answer = so Such T h

    got_such : (wire : Terms) (serial : ℕ) (found : Option ℕ) → AreSo Such (got_by found wire serial T)
    got_such wire serial None = so Such _ (request_such (access_at wire serial) (id_for wire 0 (unwrap_or (sender_in (wire.sent serial)) 0)))
    got_such wire serial (Some own) = replied_such (purpose_of T own) (answer_in (packet_at wire serial))

    either_such : (b : Bool) (x : Target) → AreSo Such x → AreSo Such (cond b x T)
    either_such true x k = k
    either_such false x k = so Such T h

  -- a login: its agent is new
  new_so : (t : Target) (place : Option ℕ) (decided : Option Decided) (id : ℕ) → AreSo Such t → AreSo Such (enters_in place decided id t)
  new_so t None decided id h = h
  new_so t (Some place) None id h = h
  new_so t (Some place) (Some decided) id h =
      stand Such (enters_in (Some place) (Some decided) id t) (with_agent t place new_agent) refl refl
      (set_so Such t place new_agent h (λ e. ((λ s f. none_is s f), (λ s f. none_is s f)))
      (λ reply e plain told b at. moved_such G (reply_step new_agent.machine reply.place plain told reply.which reply.answer) (closed reply.which (record new_agent { untold = b })) (closed_such G reply.which (record new_agent { untold = b }) ((λ s f. none_is s f), (λ s f. none_is s f)))))

  entered_so : (t : Target) (login : Option ℕ) → AreSo Such t → AreSo Such (entered_by login t)
  entered_so t None h = h
  entered_so t (Some id) h = new_so t (position is_none t.table.places) t.decided id h

  -- ---- more moments, in which such packets are sent
  abbrev MayAt : Moment → Type 0
  MayAt (said (notes.Sent serial generation from to bytes)) = G serial
  MayAt moment = Unit {0}

  abbrev AllMay : List Moment → Type 0
  AllMay [] = Unit {0}
  AllMay (moment ∷ later) = MayAt moment × AllMay later

  module _ (start : List Disk) (past : List Moment) where
    such_on : (later : List Moment) → AllMay later → AreSo Such (target_at start past) → AreSo Such (target_at start (later ++ past))
    such_on [] m h = h
    such_on (asked line event ∷ later) m h = let t = target_at start (later ++ past) in so Such (over t) (over_still Such are_such.lasting t (such_on later m.1 h))
    such_on (said (notes.Got serial) ∷ later) m h =
        let t = target_at start (later ++ past) in
        let k = over_still Such are_such.lasting t (such_on later m.1 h) in
        let wire = (known_at start (later ++ past)).wire in
        either_such (over t) k (is_serial (receiver_in (wire.sent serial)) 0) (got_by (answered_at wire serial) wire serial (over t)) (got_such (over t) k wire serial (answered_at wire serial))
    such_on (said (notes.TimedOut serial) ∷ later) m h =
        let t = target_at start (later ++ past) in
        let k = over_still Such are_such.lasting t (such_on later m.1 h) in
        let wire = (known_at start (later ++ past)).wire in
        either_such (over t) k (is_serial (sender_in (wire.sent serial)) 0) (replied serial Expired (over t)) (replied_such (over t) k (purpose_of (over t) serial) Expired)
    such_on (said (notes.Managed i functions.Login subject status login) ∷ later) m h = entered_so (target_at start (later ++ past)) login (such_on later m.1 h)
    such_on (said (notes.Sent serial generation from to bytes) ∷ later) m h =
        note_kept Such are_such (notes.Sent serial generation from to bytes) (later ++ past) (known_at start (later ++ past)).wire (target_at start (later ++ past)) (such_on later m.1 h) m.0
    such_on (said note ∷ later) m h = note_kept Such are_such note (later ++ past) (known_at start (later ++ past)).wire (target_at start (later ++ past)) (such_on later m.1 h) tt

-- ---- sent since so many were, or of a kind
abbrev pub Young : (count : ℕ) (Kind : ℕ → Type 0) → ℕ → Type 0
Young count Kind s = (count < s) ⊎ Kind s

abbrev pub IsYoung : (count : ℕ) (Kind : ℕ → Type 0) → List Disk → List Moment → ℕ → Type 0
IsYoung count Kind start ms p = AreSo (Such (Young count Kind) p) (target_at start ms)

all_young : (count : ℕ) (Kind : ℕ → Type 0) (p : ℕ) (later before : List Moment) → SerialsCount (later ++ before) → count ≤ (terms before).count → AllMay (Young count Kind) p later
all_young count Kind p [] before c low = tt
all_young count Kind p (said (notes.Sent serial generation from to bytes) ∷ later) before c low =
    let m = said (notes.Sent serial generation from to bytes) in
    let rest : SerialsCount (later ++ before) = serials_from (m ∷ []) (later ++ before) c in
    let more = (remains later before rest).count in
    let number : serial ≡ (terms (later ++ before)).count + 1 = c.0 in
    (inl (omega (arith, more, number, low)), all_young count Kind p later before rest low)
all_young count Kind p (m ∷ later) before c low = (tt, all_young count Kind p later before (serials_from (m ∷ []) (later ++ before) c) low)

-- it is so behind more moments
pub young_on : (count : ℕ) (Kind : ℕ → Type 0) (start : List Disk) (p : ℕ) (later before : List Moment) → SerialsCount (later ++ before) → count ≤ (terms before).count → IsYoung count Kind start before p → IsYoung count Kind start (later ++ before) p
young_on count Kind start p later before c low h = such_on (Young count Kind) p start before later (all_young count Kind p later before c low) h

-- as the turn ends
pub young_ended : (count : ℕ) (Kind : ℕ → Type 0) (start : List Disk) (p : ℕ) (ms : List Moment) → IsYoung count Kind start ms p → HasSuch (Young count Kind) (agent_at (over (target_at start ms)) p)
young_ended count Kind start p ms h = ((over_still (Such (Young count Kind) p) (are_such (Young count Kind) p).lasting (target_at start ms) h).agents p) refl

pub young_over : (count : ℕ) (Kind : ℕ → Type 0) (start : List Disk) (p : ℕ) (ms : List Moment) → IsYoung count Kind start ms p → (s : ℕ) → (agent_at (over (target_at start ms)) p).main ≡ Some s → Young count Kind s
young_over count Kind start p ms h s e = (young_ended count Kind start p ms h).0 s e

-- where a reply to the main transaction of the agent waits, and its read ahead is of the kind
pub young_since : (count : ℕ) (Kind : ℕ → Type 0) (start : List Disk) (ms : List Moment) (p : ℕ) (t : Target) (answer : Answer) → t.reply ≡ None → ((s : ℕ) → (agent_at t p).ahead ≡ Some s → Kind s) → target_at start ms ≡ replied_to (for_agent p Main) answer t → IsYoung count Kind start ms p
young_since count Kind start ms p t answer none ahead is = subst (AreSo (Such (Young count Kind) p)) (sym is) (record {
  agents = λ q e at. absurd (false≢true (sym e ∙ (let y : nat_eq p q ≡ true = grind (arith, nat_tests) in y)));
  pending = λ reply e plain told b at. by reply (same_Some _ reply e) plain told b at;
})
  where
    by : (reply : Reply) → record { place = p; which = Main; answer = answer } ≡ reply → (plain : PlainDisk) (told : Option Told) (b : Bool) → reply.place ≡ p → HasSuch (Young count Kind) (moved (reply_step (agent_at t reply.place).machine reply.place plain told reply.which reply.answer) (closed reply.which (record (agent_at t reply.place) { untold = b })))
    by reply f plain told b at = subst (λ (r : Reply). HasSuch (Young count Kind) (moved (reply_step (agent_at t r.place).machine r.place plain told r.which r.answer) (closed r.which (record (agent_at t r.place) { untold = b })))) f
        (moved_such (Young count Kind) (reply_step (agent_at t p).machine p plain told Main answer) (closed Main (record (agent_at t p) { untold = b })) (main_closed (Young count Kind) (record (agent_at t p) { untold = b }) (λ s e. inr (ahead s e))))
