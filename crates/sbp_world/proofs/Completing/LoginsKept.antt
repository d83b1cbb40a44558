-- The management ORB that the target read last, while it has an operation in hand for an initiator behind that, names the FIFO of the login that was asked for last, if that of a login number: in each history in which
-- each such ORB does so as it is got.
use Rattle.sbp_world.proofs.Words.Std.{arith, ◌≡◌, ◌∙◌, ◌⊎◌, inl, inr, refl, sym, ap, subst, ℕ, nat_eq, Bool, true, false, List, [], ◌∷◌, Option, Some, None, Result, Ok, Err, nat_tests, same_Some, unwrap_or}
use Rattle.sbp_world.proofs.Words.Wire.{Access, Moment, Sending, Start, Terms, management_agent, no_start, register, rom_start, asked, said, start_at, start_serves, terms}
use Rattle.sbp_world.proofs.Words.Target.{Disk, Operation}
use Rattle.sbp_world.proofs.Words.Initiator.{Answer, FailCause, ManagementOrb, management_orb, offset_at, payload_of}
use Rattle.sbp_world.proofs.Words.Laws.{EachMoment, Target, access_at, answer_in, answered_at, bytes_in, got_by, host_at, id_for, is_serial, over, packet_at, receiver_in, replied, request_got, sender_in, target_at}
use Rattle.sbp_world.proofs.Words.World.{AnswersAt, AtGot, IsFree, IsHandling, IsRest, Office, at_rest, last_read, office_of, office_replied, read_by, read_for, read_if, read_in}
use Rattle.login_table.specs.Table.{Table}
use Rattle.mgmt_agent.specs.Machine as manager
use Rattle.mgmt_agent.specs.Machine.{Machine}
use Rattle.mgmt_agent.specs.declared.operation.Phase.{Phase}
use Rattle.mgmt_agent.specs.declared.operation.Phase.TheVariants as phases
use Rattle.sbp_journal.specs.declared.note.Note.TheVariants as notes
use Rattle.sbp_world.proofs.Agents.Management.Firsts.{got_here, other_reply, own_reply, request_keeps, served_office}
use Rattle.sbp_world.proofs.Agents.Management.Offices.{over_keeps}
use Rattle.sbp_world.proofs.Common.{none_is, serial_is}
use Rattle.sbp_world.proofs.Completing.LoginsBack.{Back, back, before_or_free, begun, freed, had}
use Rattle.sbp_world.proofs.Completing.LoginsFree.{AreFree, FreeAt}
use Rattle.sbp_world.proofs.Completing.LoginsHosts.{AsBefore, IfLogin, last_on}
use Rattle.sbp_world.proofs.Completing.LoginsRead.{LatestSays}
use Rattle.sbp_world.proofs.Lists.ManageMoments.{Hands, MayHand, TakeFacts}
use Rattle.sbp_world.proofs.Lists.ManageOffices as offices
use Rattle.sbp_world.proofs.Lists.ManageOffices.{Settles, got_other, key_lingers, line_settles, note_lingers, office_at, sent_office, settles_of, sight_settles, tick_settles, ignored_settles}
use Rattle.sbp_world.proofs.Lists.OpenedReplied.{pays_as as payload_is}
use Rattle.sbp_world.proofs.Lists.ReplyOffices.{Stays, gone, late_stays, same, starts_same}

-- ---- what is so
abbrev pub HasRead : List Disk → ℕ → List Moment → Type 0
HasRead start i past = (place : ℕ) (op : Operation) → IsHandling start past i place op → (op.phase ≡ phases.Orb → ⊥) → (IsRest start past i → ⊥) → IfLogin (host_at past i) (last_read start past).fifo

-- ---- a moment by which no ORB is read
-- the operation is as it was, or over
data Link (start : List Disk) (past now : List Moment) : Type 0 where
  stays_so : (target_at start now).manager ≡ (target_at start past).manager → Link start past now
  over_now : (target_at start now).manager.operation ≡ None → Link start past now

of_settles : (start : List Disk) (past now : List Moment) → Settles (office_at start past) (office_at start now) → Link start past now
of_settles start past now (offices.stays e f) = stays_so e
of_settles start past now (offices.rested e f) = stays_so e
of_settles start past now (offices.none_left e f) = over_now e

of_stays : (start : List Disk) (past now : List Moment) → Stays (office_at start past) (office_at start now) → Link start past now
of_stays start past now (same e f q) = stays_so e
of_stays start past now (gone e) = over_now e

module _ (start : List Disk) (i : ℕ) (past now : List Moment) (place : ℕ) (op : Operation) (h : IsHandling start now i place op) (behind : op.phase ≡ phases.Orb → ⊥) (busy : IsRest start now i → ⊥) (k : HasRead start i past) (kept : AsBefore past now i ⊎ IsFree start past i) where
  -- where what was read last is as it was
  on_last : last_read start now ≡ last_read start past → (was : Operation) → IsHandling start past i place was → (IsRest start past i → IsRest start now i) → (was.phase ≡ phases.Orb → ⊥) → IfLogin (host_at now i) (last_read start now).fifo
  on_last last was before rest read = by kept
    where
      by : AsBefore past now i ⊎ IsFree start past i → IfLogin (host_at now i) (last_read start now).fifo
      by (inl b) =
          subst (λ (orb : ManagementOrb). IfLogin (host_at now i) orb.fifo) (sym last)
          (last_on (host_at past i) (host_at now i) (last_read start past).fifo b.host (k place was before read (λ r. busy (rest r))))
      by (inr f) = absurd (busy (rest f.rest))

  by_link : last_read start now ≡ last_read start past → Link start past now → Back start past now i place op → IfLogin (host_at now i) (last_read start now).fifo
  by_link last (over_now e) b = none_is op (sym e ∙ h.is)
  by_link last (stays_so e) (had was before rest) =
      let is : was ≡ op = same_Some was op (sym before.is ∙ (ap (λ (m : Machine). m.operation) (sym e) ∙ h.is)) in
      on_last last was before rest (λ f. behind (ap (λ (x : Operation). x.phase) (sym is) ∙ f))
  by_link last (stays_so e) (freed f) = absurd (busy f.rest)
  by_link last (stays_so e) (begun serial a phase none) = absurd (behind phase)

-- ---- a packet is got
read_none : (here : Bool) (manages : Option ℕ) (operation : Option Operation) (answer : Answer) (orb : ManagementOrb) → read_by here None manages operation answer orb ≡ orb
read_none true manages operation answer orb = refl
read_none false manages operation answer orb = refl

read_other : (here : Bool) (own : ℕ) (manages : Option ℕ) (operation : Option Operation) (answer : Answer) (orb : ManagementOrb) → is_serial manages own ≡ false → read_by here (Some own) manages operation answer orb ≡ orb
read_other true own manages operation answer orb e = ap (λ b. read_if b operation answer orb) e
read_other false own manages operation answer orb e = refl

-- an ORB that is not read fails the operation
orb_fails : (m : Machine) (t : Table) (keys : List (List ℕ)) (answer : Answer) (own : Operation) (cause : FailCause) → m.operation ≡ Some own → own.phase ≡ phases.Orb → payload_of answer 32 ≡ Err cause → (manager.reply_step m t keys answer).1.0.operation ≡ None
unfolding manager.reply_step
orb_fails m t keys answer own cause is phase e =
    ap (λ (o : Option Operation). (manager.reply_to o m t keys answer).1.0.operation) is
    ∙ (ap (λ (p : Phase). (manager.reply_in p m own t keys answer).1.0.operation) phase ∙ ap (λ (r : Result (List ℕ) FailCause). (manager.orb_got r m own t keys).1.0.operation) e)

served_same : (b : Bool) (s : Start) (source : ℕ) (access : Access) (o : Office) → (served_office b s source access o ≡ o) ⊎ (o.manager.operation ≡ None)
served_same false s source access o = inl refl
served_same true (register place name) source access o = inl refl
served_same true rom_start source access o = inl refl
served_same true no_start source access o = inl refl
served_same true management_agent source access o = starts_same source (offset_at access.payload 0) o

module _ (start : List Disk) (i serial : ℕ) (past : List Moment) (f : TakeFacts start past i serial) (says : LatestSays start i past serial) (hands : Hands start i past) (answers : AnswersAt (said (notes.Got serial)) past) where
  abbrev t : Terms
  t = terms past

  abbrev T : Target
  T = target_at start past

  abbrev O : Office
  O = office_at start past

  abbrev now : List Moment
  now = said (notes.Got serial) ∷ past

  abbrev N : Office
  N = office_at start now

  abbrev answer : Answer
  answer = answer_in (packet_at t serial)

  -- the ORB that was read last, behind it
  abbrev Reads : Bool → Option ℕ → Option ℕ → Option Operation → ManagementOrb
  Reads here own manages operation = read_by here own manages operation answer (last_read start past)

  abbrev here : Bool
  here = is_serial (receiver_in (t.sent serial)) 0

  module _ (place : ℕ) (op : Operation) (h : IsHandling start now i place op) (behind : op.phase ≡ phases.Orb → ⊥) (busy : IsRest start now i → ⊥) (k : HasRead start i past) (kept : AsBefore past now i ⊎ IsFree start past i) (b : Back start past now i place op) where
    abbrev Goal : Type 0
    Goal = IfLogin (host_at now i) (last_read start now).fifo

    linked : last_read start now ≡ last_read start past → Link start past now → Goal
    linked last link = by_link start i past now place op h behind busy k kept last link b

    -- to another node
    elsewhere : nat_eq f.packet.to 0 ≡ false → Goal
    elsewhere e =
        let away : here ≡ false = ap (λ (q : Option Sending). is_serial (receiver_in q) 0) f.facts.sent ∙ e in
        linked (ap (λ x. Reads x (answered_at t serial) T.manages T.manager.operation) away) (of_settles start past now (got_other start past serial f.packet f.facts.sent e))

    module _ (to : f.packet.to ≡ 0) where
      is_here : here ≡ true
      is_here = ap (λ (q : Option Sending). is_serial (receiver_in q) 0) f.facts.sent ∙ (let e : nat_eq f.packet.to 0 ≡ true = grind (arith, nat_tests) in e)

      office : N ≡ office_of (got_by (answered_at t serial) t serial (over T))
      office = ap office_of (got_here start past serial f.packet f.facts.sent to)

      rests : N ≡ at_rest O → Link start past now
      rests e = stays_so (ap (λ (x : Office). x.manager) e)

      -- a request
      requested : answered_at t serial ≡ None → (o : Office) → N ≡ o → (o ≡ at_rest O) ⊎ (O.manager.operation ≡ None) → Goal
      requested a o n (inl e) = linked (ap (λ x. Reads here x T.manages T.manager.operation) a ∙ read_none here T.manages T.manager.operation answer (last_read start past)) (rests (n ∙ e))
      requested a o n (inr none) = by b
        where
          by : Back start past now i place op → Goal
          by (had was before rest) = none_is was (sym none ∙ before.is)
          by (freed x) = absurd (busy x.rest)
          by (begun s y phase z) = absurd (behind phase)

      by_access : answered_at t serial ≡ None → (found : Option Access) → N ≡ office_of (request_got found (id_for t 0 (unwrap_or (sender_in (t.sent serial)) 0)) (over T)) → Goal
      by_access a None n = requested a (at_rest O) (n ∙ over_keeps T) (inl refl)
      by_access a (Some access) n =
          let s = id_for t 0 (unwrap_or (sender_in (t.sent serial)) 0) in
          let served = served_office (start_serves (start_at access.offset) access) (start_at access.offset) s access in
          requested a (served (at_rest O)) (n ∙ (request_keeps access s (over T) ∙ ap served (over_keeps T))) (served_same (start_serves (start_at access.offset) access) (start_at access.offset) s access (at_rest O))

      -- a reply to the operation
      module _ (own : ℕ) (a : answered_at t serial ≡ Some own) (n : N ≡ office_of (replied own answer (over T))) where
        other : is_serial T.manages own ≡ false → Goal
        other e =
            let same_then : is_serial (over T).manages own ≡ false = ap (λ (x : Office). is_serial x.manages own) (over_keeps T) ∙ e in
            linked (ap (λ x. Reads here x T.manages T.manager.operation) a ∙ read_other here own T.manages T.manager.operation answer (last_read start past) e) (rests (n ∙ (other_reply own answer (over T) same_then ∙ over_keeps T)))

        module _ (e : is_serial T.manages own ≡ true) (was : Operation) (before : IsHandling start past i place was) (rest : IsRest start past i → IsRest start now i) where
          manages : T.manages ≡ Some own
          manages = serial_is T.manages own e

          taken : N ≡ office_replied answer (at_rest O)
          taken =
              let same_then : is_serial (over T).manages own ≡ true = ap (λ (x : Office). is_serial x.manages own) (over_keeps T) ∙ e in
              n ∙ (own_reply own answer (over T) same_then ∙ ap (office_replied answer) (over_keeps T))

          read_is : last_read start now ≡ read_in was.phase answer (last_read start past)
          read_is =
              ap (λ x. Reads x (answered_at t serial) T.manages T.manager.operation) is_here
              ∙ (ap (λ x. Reads true x T.manages T.manager.operation) a
              ∙ (ap (λ x. read_if x T.manager.operation answer (last_read start past)) e
              ∙ ap (λ x. read_for x answer (last_read start past)) before.is))

          on : (phase : Phase) → was.phase ≡ phase → (phase ≡ phases.Orb → ⊥) → read_in phase answer (last_read start past) ≡ last_read start past → Goal
          on phase p apart last =
              on_last start i past now place op h behind busy k kept (read_is ∙ (ap (λ x. read_in x answer (last_read start past)) p ∙ last)) was before rest (λ x. apart (sym p ∙ x))

          read_orb : was.phase ≡ phases.Orb → (got : Result (List ℕ) FailCause) → payload_of answer 32 ≡ got → Goal
          read_orb p (Err cause) x = none_is op (sym (ap (λ (y : Office). y.manager.operation) taken ∙ orb_fails O.manager O.table O.keys answer was cause before.is p x) ∙ h.is)
          read_orb p (Ok bytes) x = by kept
            where
              orb_is : last_read start now ≡ management_orb bytes
              orb_is = read_is ∙ (ap (λ y. read_in y answer (last_read start past)) p ∙ ap (λ y. management_orb (bytes_in y)) (payload_is answer 32 bytes x))

              by : AsBefore past now i ⊎ IsFree start past i → Goal
              by (inl y) =
                  subst (λ (orb : ManagementOrb). IfLogin (host_at now i) orb.fifo) (sym orb_is)
                  (last_on (host_at past i) (host_at now i) (management_orb bytes).fifo y.host (says hands answers own a manages place was before p bytes x))
              by (inr y) = absurd (busy (rest y.rest))

          by_phase : (phase : Phase) → was.phase ≡ phase → Goal
          by_phase phases.Orb p = read_orb p (payload_of answer 32) refl
          by_phase (phases.HighEui orb) p = on (phases.HighEui orb) p (λ x. cc) refl
          by_phase (phases.LowEui orb high) p = on (phases.LowEui orb high) p (λ x. cc) refl
          by_phase (phases.Response fifo) p = on (phases.Response fifo) p (λ x. cc) refl
          by_phase phases.Status p = on phases.Status p (λ x. cc) refl

        by_reply : (c : Bool) → is_serial T.manages own ≡ c → Goal
        by_reply false e = other e
        by_reply true e = by b
          where
            by : Back start past now i place op → Goal
            by (had was before rest) = by_phase e was before rest was.phase refl
            by (freed x) = absurd (busy x.rest)
            by (begun s y phase z) = absurd (behind phase)

      by_answer : (own : Option ℕ) → answered_at t serial ≡ own → N ≡ office_of (got_by own t serial (over T)) → Goal
      by_answer None a n = by_access a (access_at t serial) n
      by_answer (Some own) a n = by_reply own a n (is_serial T.manages own) refl

    got_read : Goal
    got_read = by (nat_eq f.packet.to 0) refl
      where
        by : (c : Bool) → nat_eq f.packet.to 0 ≡ c → Goal
        by true e = let to : f.packet.to ≡ 0 = grind (arith, nat_tests) in by_answer to (answered_at t serial) refl (office to)
        by false e = elsewhere e

-- ---- each history
module _ (start : List Disk) (i : ℕ) (m : Moment) (past : List Moment) (f : MayHand start i m past) (free : FreeAt start i m past) (k : HasRead start i past) where
  none_read : last_read start (m ∷ past) ≡ last_read start past → Link start past (m ∷ past) → HasRead start i (m ∷ past)
  none_read last link place op h behind busy = by_link start i past (m ∷ past) place op h behind busy k (before_or_free start i m past free) last link (back start i m past place op f free h)

pub has_read : (start : List Disk) (i : ℕ) (past : List Moment) → Hands start i past → AreFree start i past → EachMoment AnswersAt past → EachMoment (AtGot (LatestSays start i)) past → HasRead start i past
has_read start i [] hands free answers says = λ place op h behind busy. none_is op h.is
has_read start i (asked line event ∷ past) hands free answers says =
    let m = asked line event in
    none_read start i m past hands.0 free.0 (has_read start i past hands.1 free.1 answers.1 says.1) refl (of_settles start past (m ∷ past) (line_settles start line event past))
has_read start i (said (notes.Begin initiators ready) ∷ past) hands free answers says = λ place op h behind busy. none_is op (sym free.0.0 ∙ h.is)
has_read start i (said (notes.Sent serial generation from to bytes) ∷ past) hands free answers says =
    let m = said (notes.Sent serial generation from to bytes) in
    none_read start i m past hands.0 free.0 (has_read start i past hands.1 free.1 answers.1 says.1) refl (stays_so (sent_office start serial generation from to bytes past).manager_is)
has_read start i (said (notes.Got serial) ∷ past) hands free answers says =
    let m = said (notes.Got serial) in
    let k = has_read start i past hands.1 free.1 answers.1 says.1 in
    λ place op h behind busy. got_read start i serial past hands.0 says.0 hands.1 answers.0 place op h behind busy k (before_or_free start i m past free.0) (back start i m past place op hands.0 free.0 h)
has_read start i (said (notes.Ignored serial cause) ∷ past) hands free answers says =
    let m = said (notes.Ignored serial cause) in
    none_read start i m past hands.0 free.0 (has_read start i past hands.1 free.1 answers.1 says.1) refl (of_settles start past (m ∷ past) (ignored_settles start serial cause past))
has_read start i (said (notes.TimedOut serial) ∷ past) hands free answers says =
    let m = said (notes.TimedOut serial) in
    none_read start i m past hands.0 free.0 (has_read start i past hands.1 free.1 answers.1 says.1) refl (of_stays start past (m ∷ past) (late_stays start serial hands.0.packet past hands.0.sent))
has_read start i (said (notes.Seen node generation) ∷ past) hands free answers says =
    let m = said (notes.Seen node generation) in
    none_read start i m past hands.0 free.0 (has_read start i past hands.1 free.1 answers.1 says.1) refl (of_settles start past (m ∷ past) (sight_settles start node generation past))
has_read start i (said notes.Tick ∷ past) hands free answers says =
    let m = said notes.Tick in
    none_read start i m past hands.0 free.0 (has_read start i past hands.1 free.1 answers.1 says.1) refl (of_settles start past (m ∷ past) (tick_settles start past))
has_read start i (said (notes.Key unit) ∷ past) hands free answers says =
    let m = said (notes.Key unit) in
    none_read start i m past hands.0 free.0 (has_read start i past hands.1 free.1 answers.1 says.1) refl (of_settles start past (m ∷ past) (settles_of (key_lingers start unit past)))
has_read start i (said note ∷ past) hands free answers says =
    let m = said note in
    none_read start i m past hands.0 free.0 (has_read start i past hands.1 free.1 answers.1 says.1) refl (of_settles start past (m ∷ past) (settles_of (note_lingers start note past tt)))
