-- A packet that is delivered runs the command that is due by the run terms, in every run, whoever sent it: where an agent of the target runs one as it goes on by a response,
-- the agent of the terms runs it too, the command of its present ORB, with the data that it has; and where none runs, none is due.
use Rattle.sbp_world.proofs.Words.Std.{arith, ◌≡◌, ◌∙◌, refl, sym, ap, subst, ℕ, suc, ◌<◌, nat_lt, nat_eq, is_some, Bool, true, false, cond, List, [], ◌∷◌, length, Option, Some, None, Ok, nat_tests, is_none}
use Rattle.sbp_world.proofs.Words.Wire.{LabelParts, Packet, header_in, reading, AreJudged, as_sending, Layer, judging_step, of_response, reply_kind, Sent, found_sent, check_of, Note, Moment, said, Sending, Terms, terms}
use Rattle.sbp_world.proofs.Words.Target.{AgentStep, Which, Machine, reply_step, told_or, Login, Outcome, Disk, Told, answer_of, PlainDisk, Purpose, sent_to, which_in, desk_at, login_at, answer_in, plain_in, MayRun}
use Rattle.sbp_world.proofs.Words.Initiator.{slot_of, Answer, last_at, last_in, TicketParts, CommandOrb}
use Rattle.sbp_world.proofs.Words.Laws.{agent_event, agent_turn, got_in, nothing, replies, reply_to, told_among, write_in, Run, run_by, run_of, runs_due, unit_at, named, named_in, access_at, term_answer, answered_at, packet_at, receiver_in, Agent, TermPurpose, Reply, Target, agent_at, for_agent, for_manager, for_nobody, initiator_at, is_serial, over, plain_for, purpose_of, target_at, unit_of, Turn, turn}
use Rattle.sbp_world.proofs.Words.World.{ticket_of, Scene, WorldState, StepsAlike, TellsAlike, has_list, AreAgentsAt, AreHeldAt, IsForAgent, IsHanded, AreRows, name_in}
use Rattle.bus_memory.proofs.Found.{slot_of_law}
use Rattle.sbp_bus.specs.Telling as bus
use Rattle.sbp_journal.specs.declared.note.Note.TheVariants as notes
use Rattle.sbp_laws.specs.Agents as laws
use Rattle.sbp_laws.specs.Lists as lists
use Rattle.sbp_laws.specs.Targets.{told_of}
use Rattle.sbp_target.specs.declared.purpose.Purpose.TheVariants as purposes
use Rattle.sbp_world.specs.Worlds as worlds
use Rattle.sbp_world.proofs.Agents.CrewFirsts.{answer_same, asks_part, for_it, handed, plain_there, serving_it, small}
use Rattle.sbp_world.proofs.Agents.CrewSeats.{IsServing}
use Rattle.sbp_world.proofs.Agents.Management.Hearing.{IsAnswer, answers, answers_none}
use Rattle.sbp_world.proofs.Agents.Management.Holding.{Holding, was_sent}
use Rattle.sbp_world.proofs.Agents.Management.Still.{hist}
use Rattle.sbp_world.proofs.Agents.Keeping.{given_in}
use Rattle.sbp_world.proofs.Agents.Mild.{reply_mild}
use Rattle.std.specs.Prelude.{◌&&◌}
use Rattle.sbp_world.proofs.Agents.Steps.{reply_alike}
use Rattle.sbp_world.proofs.Agents.ToldAlike.{run_alike}
use Rattle.sbp_world.proofs.Hosts.Readings.{read_law}
use Rattle.sbp_world.proofs.Lists.DueTurns.{none_of, plain_told, write_due}
use Rattle.sbp_world.proofs.Lists.Runless.{AllPlain}

-- ---- the name of an ORB, as the bus and the run terms have it
pub list_same : (o : Option TicketParts) → lists.list_in (name_in o) ≡ bus.list_in o
list_same None = refl
list_same (Some t) = refl

pub number_same : (o : Option TicketParts) → lists.number_in (name_in o) ≡ bus.orb_in o
number_same None = refl
number_same (Some t) = refl

-- the run of the ORB at an address
abbrev pub one_run : List Moment → (i unit present : ℕ) → (cdb bytes : List ℕ) → List Run
one_run ms i unit present cdb bytes = record {
  initiator = i;
  list = lists.list_in (named ms i present);
  number = lists.number_in (named ms i present);
  unit = unit;
  cdb = cdb;
  bytes = bytes;
} ∷ []

module _ (ms : List Moment) (w : WorldState) (i : ℕ) (inside : i < length w.initiators) (rows : AreRows ms i (worlds.initiator_at w i).lists.slots) (address : ℕ) where
  named_by : (so : Option ℕ) → slot_of address ≡ so → named_in ms i so ≡ name_in (last_in (worlds.initiator_at w i).lists so)
  named_by None e = refl
  named_by (Some slot) e = (read_law ms i (worlds.initiator_at w i).lists.slots rows).named slot (slot_of_law.begins address slot e).0

  pub named_as : named ms i address ≡ name_in (ticket_of w i address)
  named_as =
      let b : nat_lt i (length w.initiators) ≡ true = grind (arith, nat_tests) in
      named_by (slot_of address) refl ∙ sym (ap (λ x. name_in (cond x (last_at (worlds.initiator_at w i).lists address) None)) b)

pub some_same : {A : Type 0} {a b : A} → Some a ≡ Some b → a ≡ b
some_same e = cc

-- ---- what is known as a packet is delivered
pub record AtDelivery (start : List Disk) (past : List Moment) (w : WorldState) : Type 0 where
  pub agents : AreAgentsAt start (hist past w) w
  pub held : AreHeldAt start (hist past w) w
  pub rows : (i : ℕ) → i < length w.initiators → AreRows (hist past w) i (worlds.initiator_at w i).lists.slots

-- ---- a packet that is got
module _ (units ready : ℕ) (has : 0 < units) (start : List Disk) {past : List Moment} {lines : ℕ} (s : Scene) (h : Holding units ready start past lines s.world) (site : AtDelivery start past s.world) (units_are : (unit : ℕ) → unit_at (target_at start (hist past s.world)).units unit ≡ plain_in s.world.target.units s.media.disks unit) (serial : ℕ) (judged : AreJudged (said (notes.Got serial) ∷ hist past s.world)) (rest : List Note) where
  abbrev w : WorldState
  w = s.world

  abbrev ms : List Moment
  ms = hist past w

  abbrev wire : Terms
  wire = terms ms

  abbrev T : Target
  T = over (target_at start ms)

  abbrev t : Turn
  t = turn ms (said (notes.Got serial)) rest

  event_to : (b : Bool) → is_serial (receiver_in (wire.sent serial)) 0 ≡ b → agent_event start t ≡ cond b (got_in (answered_at wire serial) T wire serial) nothing
  event_to b e = ap (λ x. cond x (got_in (answered_at wire serial) T wire serial) nothing) e

  due_as : (event : laws.Event) → agent_event start t ≡ event → runs_due start t ≡ run_by T t (agent_turn event T wire rest)
  due_as event e = ap (λ x. run_by T t (agent_turn x T wire rest)) e

  module _ (sent : Sent) (found : found_sent serial w.store.kept ≡ Some sent) where
    abbrev q : Sending
    q = as_sending sent

    was_it : wire.sent serial ≡ Some q
    was_it = was_sent w h.sound.stands serial sent found

    -- by an initiator
    pub own_due : (i : ℕ) → sent.to ≡ suc i → runs_due start t ≡ []
    own_due i to_is =
        let away : nat_eq sent.to 0 ≡ false = grind (arith, nat_tests) in
        due_as nothing (event_to false (ap (λ so. is_serial (receiver_in so) 0) was_it ∙ away))

    -- by the target
    module _ (zero_to : sent.to ≡ 0) where
      to_it : is_serial (receiver_in (wire.sent serial)) 0 ≡ true
      to_it = ap (λ so. is_serial (receiver_in so) 0) was_it ∙ (let same : nat_eq sent.to 0 ≡ true = grind (arith, nat_tests) in same)

      -- a request
      module _ (p : Packet) (read : reading sent.bytes ≡ Ok p) (none : reply_kind p ≡ None) where
        pub request_due : runs_due start t ≡ []
        request_due =
            let part = asks_part units ready has start w h serial false sent found zero_to p read none in
            due_as (write_in (access_at wire serial))
            (event_to true to_it ∙ ap (λ own. got_in own T wire serial) (answers_none wire serial q part.label part.kind was_it part.part))
            ∙ write_due T t (access_at wire serial)

      -- a response
      module _ (p : Packet) (read : reading sent.bytes ≡ Ok p) (some : is_some (reply_kind p) ≡ true) (label : LabelParts) (layer : Layer Purpose) (purpose : Option Purpose) (e : judging_step w.target.layer sent.generation sent.bytes ≡ (of_response p label purpose, layer)) where
        pub a : IsAnswer wire serial q p
        a = answers wire serial q p was_it read some (judged.0 q was_it)

        pub hand : IsHanded T w.target purpose (wire.ids (wire.generation 0) sent.from) (header_in p).label a.own
        hand = handed units ready has start w h serial false sent found zero_to p read some label purpose layer e a site.agents.requests site.agents.are site.agents.known

        pub event_for : (for : TermPurpose) → purpose_of T a.own ≡ for → agent_event start t ≡ reply_to for (answer_in p)
        event_for for f =
            event_to true to_it ∙ ap (λ own. got_in own T wire serial) a.answered ∙ ap (λ x. reply_to x (term_answer (packet_at wire serial))) f
            ∙ ap (λ x. reply_to for x) (answer_same units ready has start w h serial false sent found zero_to p read some label purpose layer e a)

        pub nobody_due : purpose ≡ None → runs_due start t ≡ []
        nobody_due f = due_as nothing (event_for for_nobody (hand.nobody f))

        pub unsolicited_due : purpose ≡ Some purposes.Unsolicited → runs_due start t ≡ []
        unsolicited_due f = due_as nothing (event_for for_nobody (hand.unsolicited f))

        pub manager_due : purpose ≡ Some purposes.Management → runs_due start t ≡ []
        manager_due f = due_as nothing (event_for for_manager (hand.operation f))

        -- to an agent
        module _ (place : ℕ) (mine : purpose ≡ Some (purposes.Agent place)) where
          abbrev pub its : IsForAgent T w.target place (wire.ids (wire.generation 0) sent.from) (header_in p).label a.own
          its = for_it units ready has start w h serial false sent found zero_to p read some label purpose layer e a site.agents.requests site.agents.are site.agents.known place mine

          pub serve : IsServing w.target place (sent_to (header_in p).source label) its.which
          serve = serving_it units ready has start w h serial false sent found zero_to p read some label purpose layer e a site.agents.requests site.agents.are site.agents.known place mine

          pub inside : place < 8
          inside = small units ready has start w h serial false sent found zero_to p read some label purpose layer e a site.agents.requests site.agents.are site.agents.known place mine

          -- by the agent of the terms and by the target's
          module _ (login : Login) (there : login_at w.target place ≡ Some login) (which : Which) (is_which : which_in (desk_at w.target place) (header_in p).source label ≡ Some which) where
            abbrev answer : Answer
            answer = answer_in p

            abbrev plain : PlainDisk
            plain = plain_in w.target.units s.media.disks login.unit

            abbrev reply : Reply
            reply = record { place = place; which = which; answer = answer }

            abbrev A : Agent
            A = agent_at T place

            abbrev step_by : PlainDisk → Option Told → AgentStep × Machine
            step_by x told = reply_step A.machine place x told which answer

            abbrev own_step : Option Told → AgentStep × Machine
            own_step run = reply_step (desk_at w.target place).agent place plain run which answer

            pub event_is : agent_event start t ≡ replies reply
            event_is = event_for (for_agent place its.which) its.is ∙ ap (λ k. replies (record { place = place; which = k; answer = answer })) (some_same (sym serve.which_is ∙ is_which))

            pub plain_is : plain_for T reply ≡ plain
            plain_is = plain_there units ready has start w h s.media.disks units_are place login there

            abbrev due_by : AgentStep × Machine → List Run
            due_by r = run_of ms (initiator_at T wire place) (unit_of T place) r.1 r.0.ran

            due_is : (told : Option Told) → told_among (initiator_at T wire place) rest plain ≡ told → runs_due start t ≡ due_by (step_by plain told)
            due_is told f =
                due_as (replies reply) event_is ∙ ap (λ x. due_by (step_by x (told_among (initiator_at T wire place) rest x))) plain_is ∙ ap (λ y. due_by (step_by plain y)) f

            pub alike : (v : Bool) (told run : Option Told) → TellsAlike v (told_or told) (told_or run) → StepsAlike A.untold v (step_by plain told) (own_step run)
            alike v told run tells = reply_alike A.untold v A.machine (desk_at w.target place).agent place plain told run which answer (site.agents.are.each place inside).machine tells

            -- the target's runs none
            pub none_due : (run : Option Told) → run ≡ None → (own_step run).0.ran ≡ None → AllPlain rest → runs_due start t ≡ []
            none_due run untold own plainly =
                let tells : TellsAlike false (told_or None) (told_or run) = subst (λ x. TellsAlike false (told_or None) (told_or x)) (sym untold) (record { outcome = refl; size = refl; answer = λ f. refl }) in
                due_is None (plain_told (initiator_at T wire place) rest plain plainly)
                ∙ none_of ms (initiator_at T wire place) (unit_of T place) (step_by plain None).1 (step_by plain None).0.ran (ap (λ (x : AgentStep). x.ran) (alike false None run tells).step ∙ own)

            -- and it runs one
            pub one_due : (run : Option Told) (outcome : Outcome) → (own_step run).0.ran ≡ Some outcome → run ≡ Some (record { outcome = outcome; answer = (own_step run).1.answer }) → MayRun (own_step run).1 place outcome plain → told_among (initiator_at T wire place) rest plain ≡ Some (told_of (check_of outcome) (own_step run).1.orb.cdb plain) → runs_due start t ≡ one_run ms (initiator_at T wire place) (unit_of T place) (own_step run).1.present (own_step run).1.orb.cdb (own_step run).1.payload
            one_due run outcome own told may f =
                let r = own_step run in
                let x : Told = told_of (check_of outcome) r.1.orb.cdb plain in
                let v : Bool = is_none (check_of outcome) && is_none (answer_of r.1.orb.cdb plain.medium) in
                let tells : TellsAlike v (told_or (Some x)) (told_or run) = subst (λ y. TellsAlike v x (told_or y)) (sym told) (run_alike outcome r.1 place plain may) in
                let b = alike v (Some x) run tells in
                let listed : has_list r.1.phase ≡ true = ((reply_mild (desk_at w.target place).agent place plain run which answer (given_in p)).runs outcome own).0 in
                let m = (step_by plain (Some x)).1 in
                due_is (Some x) f
                ∙ ap (run_of ms (initiator_at T wire place) (unit_of T place) m) (ap (λ (x : AgentStep). x.ran) b.step ∙ own)
                ∙ ap (λ n. one_run ms (initiator_at T wire place) (unit_of T place) n m.orb.cdb m.payload) (b.alike.present listed)
                ∙ ap (λ (o : CommandOrb). one_run ms (initiator_at T wire place) (unit_of T place) r.1.present o.cdb m.payload) (b.alike.orb listed)
                ∙ ap (λ bytes. one_run ms (initiator_at T wire place) (unit_of T place) r.1.present r.1.orb.cdb bytes) (b.alike.payload listed)
