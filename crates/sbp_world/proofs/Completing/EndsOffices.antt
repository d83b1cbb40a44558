-- What a moment leaves of the operation of the target, by the terms, where one is under way: it stays, or the response to its request takes it on. And a write of MANAGEMENT_AGENT starts one where
-- none is.
use Rattle.sbp_world.proofs.Words.Std.{arith, ◌≡◌, ◌∙◌, refl, sym, ap, subst, ℕ, nat_eq, not, Bool, true, false, cond, List, ◌∷◌, Option, Some, None, is_none, position, unwrap_or, nat_tests}
use Rattle.sbp_world.proofs.Words.Wire.{Access, Start, management_agent, no_start, register, rom_start, start_at, start_serves, Moment, asked, said, Sending, Terms, terms, Event, Note, FunctionWord}
use Rattle.sbp_world.proofs.Words.Target.{Operation, Disk}
use Rattle.sbp_world.proofs.Words.Initiator.{offset_at}
use Rattle.sbp_world.proofs.Words.Laws.{access_at, answer_in, answered_at, id_for, packet_at, receiver_in, sender_in, Decided, Target, event_of, got_by, is_serial, key_by, over, request_got, target_at, target_by}
use Rattle.sbp_world.proofs.Words.World.{Office, at_rest, by_managed, by_note, cleared, office_of, office_replied, placed, placed_by, started, started_by}
use Rattle.mgmt_agent.specs.Machine as manager
use Rattle.sbp_journal.specs.declared.event.Event.TheVariants as events
use Rattle.sbp_journal.specs.declared.note.Note.TheVariants as notes
use Rattle.sbp_journal.specs.declared.operation.FunctionWord.TheVariants as functions
use Rattle.sbp_world.specs.Completing.EndsTaken.{IsSmooth}
use Rattle.sbp_world.proofs.Agents.Management.Firsts.{got_here, got_there, ignored_office, opened_office, other_reply, other_sight, own_reply, request_keeps, rests, served_office, sight_office, tick_office, wire_is}
use Rattle.sbp_world.proofs.Agents.Management.Offices.{IsBehind, note_changes, over_keeps}
use Rattle.sbp_world.proofs.Common.{none_is, serial_is}
use Rattle.sbp_world.proofs.Lists.ManageOffices.{sent_office}

-- ---- the operation stays
module _ (start : List Disk) (past : List Moment) where
  abbrev T : Target
  T = target_at start past

  abbrev t : Terms
  t = terms past

  abbrev O : Office
  O = office_of T

  pub data Holds (m : Moment) : Type 0 where
    stays : (target_at start (m ∷ past)).manager ≡ T.manager → Holds m
    answers : (serial own : ℕ) → m ≡ said (notes.Got serial) → answered_at t serial ≡ Some own → T.manages ≡ Some own → (target_at start (m ∷ past)).manager ≡ (manager.reply_step T.manager T.table T.keys (answer_in (packet_at t serial))).1.0 → Holds m

  rests_at : (m : Moment) → office_of (target_at start (m ∷ past)) ≡ at_rest O → Holds m
  rests_at m e = stays (ap (λ (o : Office). o.manager) e)

  -- ---- a packet is got
  -- a request
  module _ (serial : ℕ) (q : Sending) (sent : t.sent serial ≡ Some q) (to : q.to ≡ 0) where
    abbrev now : Target
    now = target_at start (said (notes.Got serial) ∷ past)

    here : now ≡ got_by (answered_at t serial) t serial (over T)
    here = got_here start past serial q sent to

    abbrev source : ℕ
    source = id_for t 0 (unwrap_or (sender_in (t.sent serial)) 0)

    source_is : source ≡ id_for t 0 q.from
    source_is = ap (λ (found : Option Sending). id_for t 0 (unwrap_or (sender_in found) 0)) sent

    rest_is : office_of (over T) ≡ at_rest O
    rest_is = over_keeps T

    served : (access : Access) → answered_at t serial ≡ None → access_at t serial ≡ Some access → office_of now ≡ served_office (start_serves (start_at access.offset) access) (start_at access.offset) source access (at_rest O)
    served access none e =
        ap office_of (here ∙ ap (λ own. got_by own t serial (over T)) none ∙ ap (λ found. request_got found source (over T)) e)
        ∙ request_keeps access source (over T) ∙ ap (λ o. served_office (start_serves (start_at access.offset) access) (start_at access.offset) source access o) rest_is

    pub starts_office : (access : Access) → answered_at t serial ≡ None → access_at t serial ≡ Some access → start_at access.offset ≡ management_agent → start_serves (start_at access.offset) access ≡ true → office_of now ≡ started (id_for t 0 q.from) (offset_at access.payload 0) (at_rest O)
    starts_office access none e at serves =
        served access none e ∙ ap (λ b. served_office b (start_at access.offset) source access (at_rest O)) serves ∙ ap (λ s. served_office true s source access (at_rest O)) at
        ∙ ap (λ n. started n (offset_at access.payload 0) (at_rest O)) source_is

    module _ (op : Operation) (has : T.manager.operation ≡ Some op) where
      busy_by : (operation : Option Operation) (id orb : ℕ) → operation ≡ Some op → (started_by (manager.start_with operation O.manager id orb) (at_rest O)).manager ≡ O.manager
      busy_by None id orb e = none_is op e
      busy_by (Some other) id orb e = refl

      busy_is : (id orb : ℕ) → (started id orb (at_rest O)).manager ≡ O.manager
      unfolding manager.start_step
      busy_is id orb = busy_by O.manager.operation id orb has

      by_start : (b : Bool) (s : Start) (access : Access) → office_of now ≡ served_office b s source access (at_rest O) → Holds (said (notes.Got serial))
      by_start false s access n = rests_at (said (notes.Got serial)) n
      by_start true (register place name) access n = rests_at (said (notes.Got serial)) n
      by_start true rom_start access n = rests_at (said (notes.Got serial)) n
      by_start true no_start access n = rests_at (said (notes.Got serial)) n
      by_start true management_agent access n = stays (ap (λ (o : Office). o.manager) n ∙ busy_is source (offset_at access.payload 0))

      by_access : (found : Option Access) → access_at t serial ≡ found → answered_at t serial ≡ None → Holds (said (notes.Got serial))
      by_access None e none = rests_at (said (notes.Got serial)) (ap office_of (here ∙ ap (λ own. got_by own t serial (over T)) none ∙ ap (λ found. request_got found source (over T)) e) ∙ rest_is)
      by_access (Some access) e none = by_start (start_serves (start_at access.offset) access) (start_at access.offset) access (served access none e)

      by_own : (own : ℕ) → answered_at t serial ≡ Some own → (b : Bool) → is_serial (over T).manages own ≡ b → Holds (said (notes.Got serial))
      by_own own e true f =
          answers serial own refl e (ap (λ (o : Office). o.manages) (sym rest_is) ∙ serial_is (over T).manages own f)
          (ap (λ (o : Office). o.manager) (ap office_of (here ∙ ap (λ own. got_by own t serial (over T)) e) ∙ own_reply own (answer_in (packet_at t serial)) (over T) f ∙ ap (office_replied (answer_in (packet_at t serial))) rest_is))
      by_own own e false f =
          rests_at (said (notes.Got serial)) (ap office_of (here ∙ ap (λ own. got_by own t serial (over T)) e) ∙ other_reply own (answer_in (packet_at t serial)) (over T) f ∙ rest_is)

      by_answered : (own : Option ℕ) → answered_at t serial ≡ own → Holds (said (notes.Got serial))
      by_answered (Some own) e = by_own own e (is_serial (over T).manages own) refl
      by_answered None e = by_access (access_at t serial) refl e

      pub got_holds : Holds (said (notes.Got serial))
      got_holds = by_answered (answered_at t serial) refl

  -- ---- any moment
  module _ (op : Operation) (has : T.manager.operation ≡ Some op) where
    got_by_sent : (serial : ℕ) (found : Option Sending) → t.sent serial ≡ found → Holds (said (notes.Got serial))
    got_by_sent serial None e =
        rests_at (said (notes.Got serial))
        (ap office_of (ap (λ w. target_by (notes.Got serial) past w T) (wire_is start past) ∙ ap (λ so. cond (is_serial (receiver_in so) 0) (got_by (answered_at t serial) t serial (over T)) (over T)) e) ∙ over_keeps T)
    got_by_sent serial (Some q) e = by (nat_eq q.to 0) refl
      where
        by : (b : Bool) → nat_eq q.to 0 ≡ b → Holds (said (notes.Got serial))
        by true f = got_holds serial q e (grind (arith, nat_tests)) op has
        by false f = rests_at (said (notes.Got serial)) (rests start past _ (got_there start past serial q e f))

    placed_stays : (place : Option ℕ) (decided : Option Decided) (id : ℕ) (o : Office) → (placed place decided id o).manager ≡ o.manager
    placed_stays None decided id o = refl
    placed_stays (Some place) None id o = refl
    placed_stays (Some place) (Some d) id o = refl

    login_stays : (login : Option ℕ) (o : Office) → (placed_by login o).manager ≡ o.manager
    login_stays None o = refl
    login_stays (Some id) o = placed_stays (position is_none o.table.places) o.decided id o

    word_stays : (word : FunctionWord) (login : Option ℕ) (o : Office) → (by_managed word login o).manager ≡ o.manager
    word_stays functions.Login login o = login_stays login o
    word_stays _ login o = refl

    behind_stays : (note : Note) (i write generation : ℕ) → IsSmooth start i write generation (said note) past → IsBehind note → (by_note note O).manager ≡ O.manager
    behind_stays (notes.ManageFailed i cause) j write generation s b = absurd s
    behind_stays (notes.Managed i word subject status login) j write generation s b = word_stays word login O
    behind_stays (notes.Held id) j write generation s b = refl
    behind_stays (notes.Back id) j write generation s b = refl
    behind_stays (notes.Left id) j write generation s b = refl
    behind_stays (notes.Expired id) j write generation s b = refl
    behind_stays _ j write generation s b = refl

    by_behind : (note : Note) (i write generation : ℕ) → IsSmooth start i write generation (said note) past → IsBehind note → Holds (said note)
    by_behind note i write generation s b = stays (ap (λ (o : Office). o.manager) (note_changes note past _ T b) ∙ behind_stays note i write generation s b)

    key_same : (event : Option Event) (unit : ℕ) → (key_by event unit T).manager ≡ T.manager
    key_same (Some (events.Key other key)) unit = refl
    key_same event unit = refl

    sees : (node seen : ℕ) → (node ≡ 0 → seen ≡ t.generation 0) → Holds (said (notes.Seen node seen))
    sees node seen s = by (nat_eq node 0) refl
      where
        by : (b : Bool) → nat_eq node 0 ≡ b → Holds (said (notes.Seen node seen))
        by true e =
            let zero_is : node ≡ 0 = grind (arith, nat_tests) in
            let same : nat_eq seen (t.generation 0) ≡ true = (let f = s zero_is in grind (arith, nat_tests)) in
            subst (λ n. Holds (said (notes.Seen n seen))) (sym zero_is) (rests_at (said (notes.Seen 0 seen)) (sight_office start past seen ∙ ap (λ b. cond (not b) (cleared (at_rest O)) (at_rest O)) same))
        by false e = rests_at (said (notes.Seen node seen)) (other_sight start past node seen e)

    pub moment_holds : (m : Moment) (i write generation : ℕ) → IsSmooth start i write generation m past → Holds m
    moment_holds (asked line event) i write generation s = rests_at (asked line event) (opened_office start past line event)
    moment_holds (said (notes.Begin initiators ready)) i write generation s = stays refl
    moment_holds (said (notes.Sent serial g from to bytes)) i write generation s = stays (sent_office start serial g from to bytes past).manager_is
    moment_holds (said (notes.Got serial)) i write generation s = got_by_sent serial (t.sent serial) refl
    moment_holds (said (notes.Ignored serial cause)) i write generation s = rests_at (said (notes.Ignored serial cause)) (ignored_office start past serial cause)
    moment_holds (said (notes.TimedOut serial)) i write generation s = absurd s
    moment_holds (said (notes.Seen node seen)) i write generation s = sees node seen s
    moment_holds (said notes.Tick) i write generation s = stays (ap (λ (o : Office). o.manager) (tick_office start past))
    moment_holds (said (notes.Key unit)) i write generation s = stays (key_same (event_of past) unit)
    moment_holds (said note) i write generation s = by_behind note i write generation s tt
