-- What the first note of a delivery to the target makes of the agents of the terms is what the call makes of its agents.
use Rattle.sbp_world.proofs.Words.Std.{arith, ◌≡◌, ◌∙◌, refl, sym, ap, subst, ℕ, ◌<◌, is_some, Bool, true, false, cond, List, [], ◌∷◌, length, Option, Some, None, Result, Ok, Err, unwrap_or, nat_tests}
use Rattle.sbp_world.proofs.Words.Wire.{PacketFault, LabelParts, Packet, header_in, lock, lock_response, read_block, read_block_response, read_quadlet, read_quadlet_response, write_block, write_quadlet, write_response, reading, AreJudged, may_get, awaits, kind_as, shape, shape_of, as_sending, transaction, ReplyKind, under_way, row_of, Finding, Layer, judging_step, of_again, of_generation, of_grammar, of_label, of_request, of_response, state_for, reply_kind, Sent, found_sent, judged_note, holder_at, or_nobody, Access, Register, Start, access_of, agent_reset, agent_state, doorbell, management_agent, no_start, orb_pointer, register, rom_start, start_at, start_serves, unsolicited_enable, empty_outbox, Moment, said, Kind, Sending, between, is_same_kind, locking, part_of, request, Terms, gets, terms, waits, Cause, Judged, Side}
use Rattle.sbp_world.proofs.Words.Target.{Which, Login, Table, place_at, Busy, Disk, Held, Told, PlainDisk, Purpose, sent_to, which_in, NodeState, TargetScene, desk_at, login_at, scene, answer_in, judged_scene, received_as, with_layer, Whole, plain_in, served_login, answered, is_barred, serve, Demand, demand_of, IsUnderWay, TransactionLaw}
use Rattle.sbp_world.proofs.Words.Initiator.{Ask, Answer}
use Rattle.sbp_world.proofs.Words.Laws.{unit_at, Agent, TermPurpose, Reply, Target, agent_at, for_agent, for_manager, for_nobody, got_by, initiator_at, initiator_with, managed_by, manager_step, node_in, over, points, purpose_of, register_got, replied_to, request_got, start_got, started_by, taken_on, target_at, unit_in, with_agent}
use Rattle.sbp_world.proofs.Words.World.{marked, whole_of, holder, WorldState, with_note, with_target, Stands, Agrees, Office, office_of, office_replied, AgentsKeep, AreOf, changed, managed, Request, ToldAlike, agent_in, term_answered, run_told, run_untold, AreHeldAt, AreKnown, IsForAgent, IsHanded}
use Rattle.bus_transactions.specs.Judging.{facts_of}
use Rattle.bus_transactions.proofs.PacketParts.{PartOf, asks, part_case, part_read, replies}
use Rattle.label_table.specs.declared.place.LabelState.TheVariants as states
use Rattle.mgmt_agent.specs.Machine as manager
use Rattle.sbp_journal.specs.declared.cause.Cause.TheVariants as causes
use Rattle.sbp_journal.specs.declared.cause.Judged.TheVariants as judgements
use Rattle.sbp_laws.specs.Packets as laws
use Rattle.sbp_laws.proofs.Going.{initiators_same}
use Rattle.sbp_target.specs.declared.purpose.Purpose.TheVariants as purposes
use Rattle.sbp_target.specs.Serving.{request_step}
use Rattle.sbp_target.proofs.Histories.Calling.{Good}
use Rattle.sbp_target.proofs.Histories.Found.{IsFound}
use Rattle.sbp_target.proofs.Histories.Primitives.{Closing, closing_known}
use Rattle.sbp_world.specs.Agents.Management.Calls as management
use Rattle.sbp_world.proofs.Agents.Management.Awaiting.{under_for}
use Rattle.sbp_world.proofs.Agents.Management.Calls.{barred_same}
use Rattle.sbp_world.proofs.Agents.Management.Delivering.{answer_is}
use Rattle.sbp_world.proofs.Agents.Management.Demands.{demand_is}
use Rattle.sbp_world.proofs.Agents.Management.Firsts.{got_here, request_keeps}
use Rattle.sbp_world.proofs.Agents.Management.Hearing.{IsAnswer, answers, answers_none, label_number}
use Rattle.sbp_world.proofs.Agents.Management.Holding.{Holding, is_of, marked_hist, was_sent}
use Rattle.sbp_world.proofs.Agents.Management.Idle.{managed_idle, managed_office, over_idle}
use Rattle.sbp_world.proofs.Agents.Management.Offices.{over_keeps}
use Rattle.sbp_world.proofs.Agents.Management.Still.{gets_clock, hist}
use Rattle.sbp_world.proofs.Agents.Management.Told.{term_in}
use Rattle.sbp_world.specs.Agents.Calls.{delivered, demanded, replied, requested}
use Rattle.sbp_world.proofs.Agents.CrewLocks.{is_lock, lockless, none_locks}
use Rattle.sbp_world.proofs.Agents.CrewSeats.{IsServing, serves_it, state_of}
use Rattle.sbp_world.proofs.Agents.CrewTurns.{Begins, quiet_begins}
use Rattle.sbp_world.proofs.Agents.Demands.{demands_law}
use Rattle.sbp_world.proofs.Agents.Handed.{are_handed}
use Rattle.sbp_world.proofs.Agents.Keeping.{agents_law}
use Rattle.sbp_world.proofs.Agents.Notes.{notes_law}
use Rattle.sbp_world.proofs.Agents.Purposes.{g, labels, law}
use Rattle.sbp_world.proofs.Agents.Seats.{marked_same}
use Rattle.sbp_world.proofs.Agents.ToldAlike.{IsToldOf, ToldBy, ToldFor, run_of_place}

-- ---- what a request asks for
pub record AccessIs (p : Packet) : Type 0 where
  pub access : Access
  pub is : access_of p ≡ Some access

some_none : (k : ReplyKind) → Some k ≡ None → ⊥
some_none k e = cc

pub access_there : (p : Packet) → reply_kind p ≡ None → AccessIs p
access_there (write_quadlet header offset value) e = record { access = record { is_lock = false; is_write = true; is_block = false; offset = offset; count = 4; payload = [] }; is = refl }
access_there (write_block header offset payload) e = record { access = record { is_lock = false; is_write = true; is_block = true; offset = offset; count = length payload; payload = payload }; is = refl }
access_there (write_response header rcode) e = absurd (some_none _ e)
access_there (read_quadlet header offset) e = record { access = record { is_lock = false; is_write = false; is_block = false; offset = offset; count = 4; payload = [] }; is = refl }
access_there (read_block header offset asked) e = record { access = record { is_lock = false; is_write = false; is_block = true; offset = offset; count = asked; payload = [] }; is = refl }
access_there (read_quadlet_response header rcode value) e = absurd (some_none _ e)
access_there (read_block_response header rcode payload) e = absurd (some_none _ e)
access_there (lock header offset extended payload) e = record { access = record { is_lock = true; is_write = false; is_block = true; offset = offset; count = length payload; payload = [] }; is = refl }
access_there (lock_response header rcode extended payload) e = absurd (some_none _ e)

-- a request leaves no reply waiting
write_rests : (b : Bool) (place : ℕ) (access : Access) (t : Target) → (cond b (with_agent t place (points access (agent_at t place))) t).reply ≡ t.reply
write_rests true place access t = refl
write_rests false place access t = refl

register_rests : (name : Register) (place : ℕ) (access : Access) (t : Target) → (register_got name place access t).reply ≡ t.reply
register_rests agent_state place access t = refl
register_rests agent_reset place access t = refl
register_rests orb_pointer place access t = write_rests access.is_write place access t
register_rests doorbell place access t = refl
register_rests unsolicited_enable place access t = refl

starts_rest : (r : Result Ask Busy × manager.Machine) (t : Target) → (started_by r t).reply ≡ t.reply
starts_rest (Err busy, machine) t = refl
starts_rest (Ok ask, machine) t = refl

start_rests : (start : Start) (source : ℕ) (access : Access) (t : Target) → (start_got start source access t).reply ≡ t.reply
start_rests management_agent source access t = starts_rest _ t
start_rests (register place name) source access t = register_rests name place access t
start_rests rom_start source access t = refl
start_rests no_start source access t = refl

serves_rests : (b : Bool) (start : Start) (source : ℕ) (access : Access) (t : Target) → (cond b (start_got start source access t) t).reply ≡ t.reply
serves_rests true start source access t = start_rests start source access t
serves_rests false start source access t = refl

-- a packet that is got is of the target's generation
pub current_by : (c n r a e : Bool) → may_get (row_of (record { is_current = c; is_for_node = n; is_response = r; is_awaited = a; is_repeated = e })) ≡ true → c ≡ true
current_by true n r a e m = refl
current_by false n r a e m = absurd (let no : false ≡ true = m in cc)

pub awaits_same : (k l : ReplyKind) → awaits k ≡ awaits l → k ≡ l
awaits_same k l e = cc

-- the units of a target, behind the end of a turn
over_units : (reply : Option Reply) (t : Target) → t.reply ≡ reply → (over t).units ≡ t.units
over_units None t e = ap (λ (r : Option Reply). (taken_on None r t).units) e
over_units (Some reply) t e = ap (λ (r : Option Reply). (taken_on None r t).units) e

-- ---- what is known as a turn begins
module _ (units ready : ℕ) (has : 0 < units) (start : List Disk) {past : List Moment} {lines : ℕ} (w : WorldState) (h : Holding units ready start past lines w) where
  abbrev stands : Stands past w
  stands = h.sound.stands

  abbrev pub before : Target
  before = target_at start (hist past w)

  -- the terms as a turn begins
  abbrev pub T : Target
  T = over before

  abbrev pub o : Office
  o = office_of T

  pub agrees : Agrees o w.target
  agrees = subst (λ x. Agrees x w.target) (sym (over_keeps before)) (record { table = h.at.agrees.table; keys = h.at.agrees.keys; manager = h.at.agrees.manager })

  pub none_waits : T.reply ≡ None
  none_waits = (over_idle before).reply

  pub crew_keeps : (requests : List Request) → AreOf requests T.agents w.target → AgentsKeep w.target requests o T.agents
  crew_keeps requests are =
      subst (λ n. AgentsKeep n requests o T.agents) h.made
      (agents_law units ready h.calls requests o T.agents has (subst (Agrees o) (sym h.made) agrees) (subst (AreOf requests T.agents) (sym h.made) are))

  -- ---- a reply to an agent waits for the next note
  module _ (disks : List Disk) (units_are : (unit : ℕ) → unit_at before.units unit ≡ plain_in w.target.units disks unit) where
    pub plain_there : (place : ℕ) (login : Login) → login_at w.target place ≡ Some login → unit_at T.units (unit_in (place_at T.table.places place)) ≡ plain_in w.target.units disks login.unit
    plain_there place login e =
        ap (λ us. unit_at us (unit_in (place_at T.table.places place))) (over_units before.reply before refl)
        ∙ ap (λ (x : Table). unit_at before.units (unit_in (place_at x.places place))) agrees.table
        ∙ ap (λ l. unit_at before.units (unit_in l)) e
        ∙ units_are login.unit

    module _ (place : ℕ) (which : Which) (answer : Answer) (login : Login) where
      abbrev plain : PlainDisk
      plain = plain_in w.target.units disks login.unit

      abbrev waiting : Target
      waiting = record T { reply = Some (record { place = place; which = which; answer = answer }) }

      abbrev pub answers_it : List Side → List Agent
      answers_it told = changed place (term_answered (run_told told plain) (run_untold told plain (agent_in T.agents place).untold) place plain which answer) T.agents

      pub reply_begins : (v : WorldState) (wire : Terms) (told : List Side) (run : Option Told) → length T.agents ≡ 8 → place < 8 → login_at w.target place ≡ Some login → IsToldOf place told plain run → (holder v place).initiator ≡ initiator_at T wire place → Begins v wire o (answers_it told) told waiting
      reply_begins v wire told run size b e tells own = record {
        office = refl;
        may = (size, b, (tells.of_step, run_of_place told plain v place (initiator_at T wire place) tells.at (λ ran. own)));
        resumes =
            ap (λ (x : PlainDisk). changed place (λ a. term_answered (run_told told x) (run_untold told x a.untold) place x which answer a) T.agents) (plain_there place login e);
      }

  -- ---- a packet is delivered to the target
  module _ (serial : ℕ) (again : Bool) (sent : Sent) (found : found_sent serial w.store.kept ≡ Some sent) (zero_to : sent.to ≡ 0) where
    abbrev t : Terms
    t = terms (hist past w)

    abbrev q : Sending
    q = as_sending sent

    abbrev ids : ℕ → ℕ
    ids = t.ids (t.generation 0)

    abbrev pub noted : Judged → NodeState → WorldState
    noted judged now = with_note (judged_note serial judged) (marked serial again (with_target now w))

    abbrev pub BeginsAt : Judged → NodeState → Office → List Agent → List Side → Target → Type 0
    BeginsAt judged now = Begins (noted judged now) (terms (hist past (noted judged now)))

    note_hist : (judged : Judged) (now : NodeState) → hist past (noted judged now) ≡ said (judged_note serial judged) ∷ hist past w
    note_hist judged now = ap (λ ms. said (judged_note serial judged) ∷ ms) (marked_hist past serial again (with_target now w))

    pub was : t.sent serial ≡ Some q
    was = was_sent w stands serial sent found

    term_begins : (judged : Judged) (now : NodeState) (first : Office) (agents : List Agent) (told : List Side) (x : Target) → term_in start past (noted judged now) ≡ x → BeginsAt judged now first agents told x → BeginsAt judged now first agents told (term_in start past (noted judged now))
    term_begins judged now first agents told x e b = subst (BeginsAt judged now first agents told) (sym e) b

    pub ignored_begins : (cause : Cause) (now : NodeState) (told : List Side) → BeginsAt (judgements.Ignored cause) now o T.agents told (term_in start past (noted (judgements.Ignored cause) now))
    ignored_begins cause now told =
        term_begins (judgements.Ignored cause) now o T.agents told T (ap (target_at start) (note_hist (judgements.Ignored cause) now)) (quiet_begins o T.agents told T none_waits refl refl)

    -- ---- a response
    module _ (p : Packet) (read : reading sent.bytes ≡ Ok p) (some : is_some (reply_kind p) ≡ true) (label : LabelParts) (purpose : Option Purpose) (layer : Layer Purpose) (e : judging_step w.target.layer sent.generation sent.bytes ≡ (of_response p label purpose, layer)) where
      abbrev G : Good w.target
      G = g units ready has start w h

      abbrev L : TransactionLaw w.target
      L = law units ready has start w h

      abbrev source : ℕ
      source = (header_in p).source

      number_is : label.number ≡ (header_in p).label
      number_is = label_number w.target.layer layer sent.generation sent.bytes p label purpose e

      closing : Closing w.target.layer layer p label purpose G.lives
      closing = closing_known w.target.layer layer G.lives sent.generation sent.bytes p label purpose G.mid.known e some

      under : IsUnderWay w.target.layer purpose source label.number
      under = under_for w.target.layer G.lives purpose source label closing.kind G.mid.known closing.life

      answer_for : (now : NodeState) → AreJudged (hist past (noted judgements.Got now)) → IsAnswer t serial q p
      answer_for now j = answers t serial q p was read some ((subst AreJudged (note_hist judgements.Got now) j).0 q was)

      module _ (a : IsAnswer t serial q p) where
        in_generation : sent.generation ≡ t.generation 0
        in_generation = a.current ∙ ap t.generation zero_to

        closed_is : between q q.to q.from (header_in p).label ≡ transaction (t.generation 0) 0 sent.from (header_in p).label
        closed_is =
            ap (λ x. transaction x q.to q.from (header_in p).label) in_generation ∙ ap (λ x. transaction (t.generation 0) x q.from (header_in p).label) zero_to

        waits_there : t.held (transaction (t.generation 0) 0 sent.from (header_in p).label) ≡ waits a.waited a.own
        waits_there = ap t.held (sym closed_is) ∙ a.held

        source_is : source ≡ ids sent.from
        source_is = (is_of w stands serial sent found).source p read ∙ ap (λ x. t.ids x sent.from) in_generation

        under_there : IsUnderWay w.target.layer purpose (ids sent.from) (header_in p).label
        under_there = subst (λ i. IsUnderWay w.target.layer purpose i (header_in p).label) source_is (subst (λ n. IsUnderWay w.target.layer purpose source n) number_is under)

        -- it answers no lock, and so says the same to the laws and to the target
        state_is : state_for w.target.layer.peers (ids sent.from) (header_in p).label ≡ states.UnderWay closing.kind label.serial
        state_is =
            ap (λ i. state_for w.target.layer.peers i (header_in p).label) (sym source_is) ∙ ap (λ n. state_for w.target.layer.peers source n) (sym number_is)
            ∙ state_of w.target.layer G.lives source label closing.kind purpose G.mid.known closing.life

        kind_is : closing.kind ≡ kind_as a.waited
        kind_is =
            awaits_same closing.kind (kind_as a.waited)
            (sym (ap shape state_is) ∙ labels units ready has start w h sent.from (header_in p).label ∙ ap shape_of waits_there)

        no_lock : is_same_kind a.waited locking ≡ false
        no_lock = lockless a.waited (ap is_lock (sym kind_is) ∙ none_locks w.target.layer G.lives G.mid.known source label closing.kind purpose closing.life)

        pub answer_same : laws.answer_in (laws.packet_at t serial) ≡ answer_in p
        answer_same = answer_is start w stands G L h.at serial sent found zero_to p read a label purpose closing.kind closing.life number_is no_lock

        got_is : (now : NodeState) → term_in start past (noted judgements.Got now) ≡ replied_to (purpose_of T a.own) (answer_in p) T
        got_is now =
            ap (target_at start) (note_hist judgements.Got now) ∙ got_here start (hist past w) serial q was zero_to ∙ ap (λ own. got_by own t serial T) a.answered
            ∙ ap (λ answer. replied_to (purpose_of T a.own) answer T) answer_same

        got_for : (now : NodeState) (for : TermPurpose) → purpose_of T a.own ≡ for → term_in start past (noted judgements.Got now) ≡ replied_to for (answer_in p) T
        got_for now for f = got_is now ∙ ap (λ x. replied_to x (answer_in p) T) f

        pub nobody_begins : (now : NodeState) (told : List Side) → purpose_of T a.own ≡ for_nobody → BeginsAt judgements.Got now o T.agents told (term_in start past (noted judgements.Got now))
        nobody_begins now told f = term_begins judgements.Got now o T.agents told T (got_for now for_nobody f) (quiet_begins o T.agents told T none_waits refl refl)

        pub manager_begins : (now : NodeState) (told : List Side) → purpose_of T a.own ≡ for_manager → BeginsAt judgements.Got now (office_replied (answer_in p) o) (managed (answer_in p) o T.agents) told (term_in start past (noted judgements.Got now))
        manager_begins now told f =
            let x = managed_by (manager_step T (answer_in p)) (answer_in p) T in
            term_begins judgements.Got now (office_replied (answer_in p) o) (managed (answer_in p) o T.agents) told x (got_for now for_manager f)
            (quiet_begins (office_replied (answer_in p) o) (managed (answer_in p) o T.agents) told x (managed_idle (manager_step T (answer_in p)) (answer_in p) T (over_idle before)).reply (notes_law.manages (answer_in p) T) (managed_office (manager_step T (answer_in p)) (answer_in p) T))

        module _ (requests : List Request) (are : AreOf requests T.agents w.target) (known : AreKnown requests w.target w.requests) where
          pub handed : IsHanded T w.target purpose (ids sent.from) (header_in p).label a.own
          handed = (are_handed units ready has start w h).all requests sent.from (header_in p).label a.waited a.own purpose are known waits_there under_there

          module _ (place : ℕ) (mine : purpose ≡ Some (purposes.Agent place)) where
            pub small : place < 8
            small = L.places place (ids sent.from) (header_in p).label (subst (λ x. IsUnderWay w.target.layer x (ids sent.from) (header_in p).label) mine under_there)

            pub for_it : IsForAgent T w.target place (ids sent.from) (header_in p).label a.own
            for_it = handed.agent place mine

            pub serving_it : IsServing w.target place (sent_to source label) for_it.which
            serving_it =
                let k = for_it.kept in
                serves_it units ready has start w h place small (sent_to source label) for_it.which
                (record { kind = closing.kind; life = closing.life ∙ ap (λ x. under_way closing.kind x) mine })
                (record { sent = k.sent; is = k.is; peer_is = k.peer_is ∙ sym source_is; number_is = k.number_is ∙ sym number_is })

            -- who has the place is the initiator of its login
            holder_there : AreHeldAt start (hist past w) w → (now : NodeState) → (holder (noted judgements.Got now) place).initiator ≡ initiator_at T (terms (hist past (noted judgements.Got now))) place
            holder_there held now =
                let s = serving_it in
                let hold = held.held place s.login s.login_is in
                let node = node_in (place_at T.table.places place) in
                let c = gets_clock (t.sent serial) serial t in
                ap (λ places. (holder_at places place).initiator) (marked_same serial again (with_target now w))
                ∙ ap (λ who. (or_nobody who).initiator) hold.there
                ∙ sym (hold.live s.live).terms_are
                ∙ sym (ap (λ (x : Table). initiator_with t (node_in (place_at x.places place))) (ap (λ (x : Office). x.table) (over_keeps before)))
                ∙ sym (initiators_same t (gets (t.sent serial) serial t) node (λ n. ap (λ x. (gets (t.sent serial) serial t).ids x n) c.generation ∙ c.ids n))
                ∙ ap (λ ms. initiator_with (terms ms) node) (sym (note_hist judgements.Got now))

            pub agent_begins : (disks : List Disk) (units_are : (unit : ℕ) → unit_at before.units unit ≡ plain_in w.target.units disks unit) (now : NodeState) (told : List Side) (run : Option Told) → AreHeldAt start (hist past w) w → IsToldOf place told (plain_in w.target.units disks serving_it.login.unit) run → BeginsAt judgements.Got now o (answers_it disks units_are place for_it.which (answer_in p) serving_it.login told) told (term_in start past (noted judgements.Got now))
            agent_begins disks units_are now told run held tells =
                term_begins judgements.Got now o (answers_it disks units_are place for_it.which (answer_in p) serving_it.login told) told (waiting disks units_are place for_it.which (answer_in p) serving_it.login) (got_for now (for_agent place for_it.which) for_it.is)
                (reply_begins disks units_are place for_it.which (answer_in p) serving_it.login (noted judgements.Got now) (terms (hist past (noted judgements.Got now))) told run are.size small serving_it.login_is tells (holder_there held now))

    -- ---- a request
    module _ (p : Packet) (read : reading sent.bytes ≡ Ok p) (none : reply_kind p ≡ None) where
      pub record Asks : Type 0 where
        pub label : ℕ
        pub kind : Kind
        pub part : part_of sent.bytes ≡ request label kind

      pub asks_part : Asks
      asks_part = by_case (part_case p)
        where
          by_case : PartOf p → Asks
          by_case (asks l k part is) = record { label = l; kind = k; part = part_read sent.bytes p read ∙ part }
          by_case (replies l k part is) = absurd (let no : None ≡ Some (kind_as k) = sym none ∙ is in cc)

      there : AccessIs p
      there = access_there p none

      abbrev asked : Target
      asked = request_got (Some there.access) (header_in p).source T

      got_request : (now : NodeState) → AreJudged (hist past (noted judgements.Got now)) → term_in start past (noted judgements.Got now) ≡ asked
      got_request now j =
          let may = (subst AreJudged (note_hist judgements.Got now) j).0 q was in
          let f = facts_of t q in
          let current = current_by f.is_current f.is_for_node f.is_response f.is_awaited f.is_repeated may in
          let generation : sent.generation ≡ t.generation 0 = (let z : sent.generation ≡ t.generation sent.to = grind (arith, nat_tests) in z) ∙ ap t.generation zero_to in
          let source_is : t.ids (t.generation 0) sent.from ≡ (header_in p).source = ap (λ x. t.ids x sent.from) (sym generation) ∙ sym ((is_of w stands serial sent found).source p read) in
          ap (target_at start) (note_hist judgements.Got now) ∙ got_here start (hist past w) serial q was zero_to
          ∙ ap (λ own. got_by own t serial T) (answers_none t serial q asks_part.label asks_part.kind was asks_part.part)
          ∙ ap (λ a. request_got a (t.ids (t.generation 0) (unwrap_or (laws.sender_in (t.sent serial)) 0)) T) (ap (λ so. laws.access_in (laws.packet_in so)) was ∙ ap (λ (r : Result Packet PacketFault). laws.access_in (laws.spelled_by r)) read ∙ there.is)
          ∙ ap (λ so. request_got (Some there.access) (t.ids (t.generation 0) (unwrap_or (laws.sender_in so) 0)) T) was
          ∙ ap (λ x. request_got (Some there.access) x T) source_is

      abbrev demand : Demand
      demand = demand_of (length w.target.rom) p

      got_begins : (now : NodeState) (told : List Side) → AreJudged (hist past (noted judgements.Got now)) → BeginsAt judgements.Got now (management.demanded demand (header_in p).source o) (demanded demand T.agents) told (term_in start past (noted judgements.Got now))
      got_begins now told j =
          term_begins judgements.Got now (management.demanded demand (header_in p).source o) (demanded demand T.agents) told asked (got_request now j)
          (quiet_begins (management.demanded demand (header_in p).source o) (demanded demand T.agents) told asked
          (serves_rests (start_serves (start_at there.access.offset) there.access) (start_at there.access.offset) (header_in p).source there.access T ∙ none_waits)
          (demands_law.agents (length w.target.rom) p there.access (header_in p).source T h.rom there.is)
          (request_keeps there.access (header_in p).source T ∙ sym (demand_is (header_in p).source o (length w.target.rom) p there.access there.is h.rom)))

      module _ (media : Held) (layer : Layer Purpose) (same : layer ≡ w.target.layer) where
        abbrev asked_node : NodeState
        asked_node = record w.target { layer = layer }

        abbrev before_whole : Whole
        before_whole = with_layer layer (whole_of w.target media)

        abbrev given : Bool → Judged × TargetScene
        given b = cond {A = Judged × TargetScene} b (judgements.Ignored causes.Login, answered p sent.bytes 7 [] (scene asked_node empty_outbox)) (judgements.Got, serve p sent.bytes (scene asked_node empty_outbox))

        abbrev Asked : Bool → Judged × Whole → Type 0
        Asked b (judged, x) =
            AreJudged (hist past (noted judged x.node)) → BeginsAt judged x.node (management.requested b p w.target o) (requested b p w.target T.agents) x.outbox.sides (term_in start past (noted judged x.node))

        asked_by : (b : Bool) → Asked b (judged_scene (given b) before_whole)
        asked_by true j = ignored_begins causes.Login _ _
        asked_by false j = got_begins _ _ j

        pub request_begins : Asked (is_barred w.target p) (judged_scene (request_step p sent.bytes (scene asked_node empty_outbox)) before_whole)
        unfolding request_step
        request_begins =
            let barred = barred_same w.target (g units ready has start w h) o agrees p sent.bytes layer same in
            subst (λ b. Asked (is_barred w.target p) (judged_scene (given b) before_whole)) (sym barred) (asked_by (is_barred w.target p))

    -- ---- whatever it is found to be
    module _ (requests : List Request) (are : AreOf requests T.agents w.target) (known : AreKnown requests w.target w.requests) (run : Option Told) (media : Held) (units_are : (unit : ℕ) → unit_at before.units unit ≡ plain_in w.target.units media.disks unit) (held : AreHeldAt start (hist past w) w) where
      pub record Lands (f : Finding Purpose) (judged : Judged) (x : Whole) : Type 0 where
        pub term_told : Option Told
        pub untold : Bool
        pub alike : ToldAlike untold term_told run
        pub begins : BeginsAt judged x.node (management.delivered f w.target o) (delivered term_told untold f w.target media.disks o T.agents) x.outbox.sides (term_in start past (noted judged x.node))

      none_alike : run ≡ None → ToldAlike false None run
      none_alike e = subst (ToldAlike false None) (sym e) (record { both = refl; alike = record { outcome = refl; size = refl; answer = λ f. refl } })

      abbrev given_of : Finding Purpose → Layer Purpose → Judged × Whole
      given_of f layer = received_as run sent.bytes f (with_layer layer (whole_of w.target media))

      -- what is told of it
      abbrev pub IsToldFor : Finding Purpose → Layer Purpose → Type 0
      IsToldFor f layer = ToldFor f w.target media.disks (given_of f layer).1.outbox.sides run

      abbrev LandsAs : Finding Purpose → Judged × Whole → Type 0
      LandsAs f (judged, x) = AreJudged (hist past (noted judged x.node)) → Lands f judged x

      request_lands : (p : Packet) (read : reading sent.bytes ≡ Ok p) (none : reply_kind p ≡ None) (layer : Layer Purpose) (same : layer ≡ w.target.layer) (r : Judged × Whole) → run ≡ None → Asked p read none media layer same (is_barred w.target p) r → LandsAs (of_request p) r
      request_lands p read none layer same (judged, x) n b j = record { term_told = None; untold = false; alike = none_alike n; begins = b j }

      no_reply : (kind : Option ReplyKind) → is_some kind ≡ false → kind ≡ None
      no_reply None k = refl
      no_reply (Some kind) k = absurd (let no : true ≡ false = k in cc)

      -- a response, by what its transaction was for
      module _ (p : Packet) (label : LabelParts) (layer : Layer Purpose) (read : reading sent.bytes ≡ Ok p) (some : is_some (reply_kind p) ≡ true) where
        none_lands : judging_step w.target.layer sent.generation sent.bytes ≡ (of_response p label None, layer) → run ≡ None → LandsAs (of_response p label None) (given_of (of_response p label None) layer)
        none_lands e n j =
            let x = (given_of (of_response p label None) layer).1 in
            let a = answer_for p read some label None layer e x.node j in
            record {
              term_told = None;
              untold = false;
              alike = none_alike n;
              begins = nobody_begins p read some label None layer e a x.node x.outbox.sides ((handed p read some label None layer e a requests are known).nobody refl);
            }

        unsolicited_lands : judging_step w.target.layer sent.generation sent.bytes ≡ (of_response p label (Some purposes.Unsolicited), layer) → run ≡ None → LandsAs (of_response p label (Some purposes.Unsolicited)) (given_of (of_response p label (Some purposes.Unsolicited)) layer)
        unsolicited_lands e n j =
            let x = (given_of (of_response p label (Some purposes.Unsolicited)) layer).1 in
            let a = answer_for p read some label (Some purposes.Unsolicited) layer e x.node j in
            record {
              term_told = None;
              untold = false;
              alike = none_alike n;
              begins = nobody_begins p read some label (Some purposes.Unsolicited) layer e a x.node x.outbox.sides ((handed p read some label (Some purposes.Unsolicited) layer e a requests are known).unsolicited refl);
            }

        manager_lands : judging_step w.target.layer sent.generation sent.bytes ≡ (of_response p label (Some purposes.Management), layer) → run ≡ None → LandsAs (of_response p label (Some purposes.Management)) (given_of (of_response p label (Some purposes.Management)) layer)
        manager_lands e n j =
            let x = (given_of (of_response p label (Some purposes.Management)) layer).1 in
            let a = answer_for p read some label (Some purposes.Management) layer e x.node j in
            record {
              term_told = None;
              untold = false;
              alike = none_alike n;
              begins = manager_begins p read some label (Some purposes.Management) layer e a x.node x.outbox.sides ((handed p read some label (Some purposes.Management) layer e a requests are known).operation refl);
            }

        module _ (place : ℕ) (e : judging_step w.target.layer sent.generation sent.bytes ≡ (of_response p label (Some (purposes.Agent place)), layer)) where
          abbrev Mine : Finding Purpose
          Mine = of_response p label (Some (purposes.Agent place))

          abbrev left : Whole
          left = (given_of Mine layer).1

          module _ (a : IsAnswer t serial q p) where
            abbrev its : IsServing w.target place (sent_to (header_in p).source label) (for_it p read some label (Some (purposes.Agent place)) layer e a requests are known place refl).which
            its = serving_it p read some label (Some (purposes.Agent place)) layer e a requests are known place refl

            abbrev its_plain : PlainDisk
            its_plain = plain_in w.target.units media.disks its.login.unit

            abbrev Replied : Option Login → Option Which → Type 0
            Replied login which =
                BeginsAt judgements.Got left.node o (replied (run_told left.outbox.sides its_plain) (run_untold left.outbox.sides its_plain (agent_in T.agents place).untold) place (answer_in p) w.target media.disks login which T.agents) left.outbox.sides (term_in start past (noted judgements.Got left.node))

            its_begins : IsToldOf place left.outbox.sides its_plain run → Replied (served_login w.target place) (which_in (desk_at w.target place) (header_in p).source label)
            its_begins tells =
                subst (λ l. Replied l (which_in (desk_at w.target place) (header_in p).source label)) (sym its.served_is)
                (subst (λ k. Replied (Some its.login) k) (sym its.which_is)
                (agent_begins p read some label (Some (purposes.Agent place)) layer e a requests are known place refl media.disks units_are left.node left.outbox.sides run held tells))

            its_lands : IsToldOf place left.outbox.sides its_plain run → Lands Mine judgements.Got left
            its_lands tells = record {
              term_told = run_told left.outbox.sides its_plain;
              untold = run_untold left.outbox.sides its_plain (agent_in T.agents place).untold;
              alike = tells.alike (agent_in T.agents place).untold;
              begins = its_begins tells;
            }

          abbrev Tells : Option Login → Option Which → Type 0
          Tells login which = ToldBy place login which w.target media.disks left.outbox.sides run

          agent_lands : IsToldFor Mine layer → LandsAs Mine (given_of Mine layer)
          agent_lands tells j =
              let a = answer_for p read some label (Some (purposes.Agent place)) layer e left.node j in
              let s = its a in
              its_lands a
              (subst (λ k. Tells (Some s.login) k) s.which_is (subst (λ l. Tells l (which_in (desk_at w.target place) (header_in p).source label)) s.served_is tells))

      pub found_lands : (f : Finding Purpose) (layer : Layer Purpose) → judging_step w.target.layer sent.generation sent.bytes ≡ (f, layer) → IsFound f w.target.layer layer sent.bytes → IsToldFor f layer → LandsAs f (given_of f layer)
      found_lands of_generation layer e f n j = record { term_told = None; untold = false; alike = none_alike n; begins = ignored_begins causes.Generation _ _ }
      found_lands of_grammar layer e f n j = record { term_told = None; untold = false; alike = none_alike n; begins = ignored_begins causes.Grammar _ _ }
      found_lands of_label layer e f n j = record { term_told = None; untold = false; alike = none_alike n; begins = ignored_begins causes.Label _ _ }
      found_lands (of_response p label None) layer e f n j = none_lands p label layer f.read f.kind e n j
      found_lands (of_response p label (Some (purposes.Agent place))) layer e f n j = agent_lands p label layer f.read f.kind place e n j
      found_lands (of_response p label (Some purposes.Management)) layer e f n j = manager_lands p label layer f.read f.kind e n j
      found_lands (of_response p label (Some purposes.Unsolicited)) layer e f n j = unsolicited_lands p label layer f.read f.kind e n j
      found_lands (of_again p rcode) layer e f n j = record { term_told = None; untold = false; alike = none_alike n; begins = ignored_begins causes.Again _ _ }
      found_lands (of_request p) layer e f n j =
          request_lands p f.1.read (no_reply (reply_kind p) f.1.kind) layer f.0 (given_of (of_request p) layer) n
          (request_begins p f.1.read (no_reply (reply_kind p) f.1.kind) media layer f.0) j
