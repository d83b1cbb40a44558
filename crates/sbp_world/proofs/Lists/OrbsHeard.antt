-- A response that the target takes for one to its management is the one to the request that the management waits for, by the history, from the node of the
-- operation, and tells the laws what it tells the target.
use Rattle.sbp_world.proofs.Common.{serial_is}
use Rattle.sbp_world.proofs.Words.Std.{arith, ◌≡◌, ◌∙◌, refl, sym, ap, subst, ◌<◌, ◌==◌, ◌&&◌, ℕ, suc, nat_eq, not, Bool, true, false, cond, is_some, List, ◌∷◌, Option, Some, None, nat_tests, same_Some}
use Rattle.sbp_world.proofs.Words.Wire.{LabelParts, rcode_of, Packet, header_in, lock, lock_response, read_block, read_block_response, read_quadlet, read_quadlet_response, write_block, write_quadlet, write_response, AnswerLaw, AnswersWaiting, IsAwaited, shape, Due, Node, as_sending, transaction, Finding, Layer, judging_step, of_response, state_for, is_write, reply_kind, Sent, found_kept, found_sent, Stored, Moment, said, Sending, Transaction, between, is_same_kind, part_of, response, Terms, terms, waits}
use Rattle.sbp_world.proofs.Words.Target.{Operation, source_in, Disk, Purpose, answer_in, IsUnderWay, TransactionLaw}
use Rattle.sbp_world.proofs.Words.Initiator.{management_orb, FailCause, Answer, Done, Payload, Refused, write_failure}
use Rattle.sbp_world.proofs.Words.Laws.{id_for, receiver_in, bytes_in, is_serial, target_at}
use Rattle.sbp_world.proofs.Words.World.{WorldState, Stands, NoneInjected, last_read, read_by, read_for, read_if, read_in, IsCalm}
use Rattle.async_packet.specs.Spells as spelled_packets
use Rattle.bus_transactions.proofs.AnswerLaws.{answers_always}
use Rattle.bus_transactions.proofs.Facts.{IsAsked}
use Rattle.bus_transactions.proofs.FitJudged as fit_judged
use Rattle.bus_transactions.proofs.Follows.{IsKept, found_kept as flying}
use Rattle.bus_transactions.proofs.ServedFacts.{Comes, IsWrite, Served}
use Rattle.bus_transactions.proofs.Stands.{On, due_transaction}
use Rattle.bus_transactions.proofs.Reaches.{goes_on}
use Rattle.bus_transactions.proofs.PacketParts.{part_read}
use Rattle.label_table.specs.declared.place.LabelState.TheVariants as states
use Rattle.mgmt_agent.specs.declared.operation.Phase.TheVariants as phases
use Rattle.mgmt_agent.specs.Machine.{Machine}
use Rattle.sbp_journal.specs.declared.note.Note.TheVariants as notes
use Rattle.sbp_laws.specs.Packets as laws
use Rattle.sbp_target.specs.declared.purpose.Purpose.TheVariants as purposes
use Rattle.sbp_world.proofs.Wire.Bus.{holds}
use Rattle.sbp_target.proofs.Histories.Calling.{Good}
use Rattle.sbp_target.proofs.Histories.Found.{IsFound, IsRead, found as found_as}
use Rattle.sbp_target.proofs.Histories.Primitives.{Closing, closing_known}
use Rattle.sbp_world.proofs.Agents.CrewSeats.{state_of}
use Rattle.sbp_world.proofs.Agents.Management.Awaiting.{under_for}
use Rattle.sbp_world.proofs.Agents.Management.Delivering.{AnswersOwn, answer_is, answers_own}
use Rattle.sbp_world.proofs.Agents.Management.Hearing.{IsAnswer, label_number, response_current}
use Rattle.sbp_world.proofs.Agents.Management.Holding.{Holding, is_of, past_terms, same_id, was_sent}
use Rattle.sbp_world.proofs.Agents.Management.Still.{hist}
use Rattle.sbp_world.proofs.Agents.Purposes.{Waits, g, held_waits, labels, law}
use Rattle.sbp_world.specs.Lists.ReadOrbs.{IsAnswered}
use Rattle.sbp_world.proofs.Lists.Heard.{Owned, Spells, awaited_to, same_kind, spells, stored_by}

-- a write that is answered done has rcode 0
refused_none : (cause : FailCause) → Some cause ≡ None → ⊥
refused_none cause e = cc

zero_by : (b : Bool) (rcode : ℕ) (answer : Answer) → (rcode == 0) ≡ b → write_failure (cond b answer (Refused rcode)) ≡ None → rcode ≡ 0
zero_by true rcode answer e f = grind (arith, nat_tests)
zero_by false rcode answer e f = absurd (refused_none _ f)

zero_spelled : (bytes : List ℕ) (p : Packet) → spelled_packets.Spells bytes p → is_some (reply_kind p) ≡ true → write_failure (answer_in p) ≡ None → rcode_of bytes ≡ 0
zero_spelled bytes (read_quadlet_response header rcode value) s some e = sym s.1 ∙ zero_by (rcode == 0) rcode _ refl e
zero_spelled bytes (read_block_response header rcode payload) s some e = sym s.1 ∙ zero_by (rcode == 0) rcode _ refl e
zero_spelled bytes (write_response header rcode) s some e = sym s.1 ∙ zero_by (rcode == 0) rcode Done refl e
zero_spelled bytes (lock_response header rcode extended payload) s some e = sym s.1 ∙ zero_by (rcode == 0) rcode Done refl e
zero_spelled bytes (write_quadlet header offset value) s some e = absurd (let no : false ≡ true = some in cc)
zero_spelled bytes (write_block header offset payload) s some e = absurd (let no : false ≡ true = some in cc)
zero_spelled bytes (read_quadlet header offset) s some e = absurd (let no : false ≡ true = some in cc)
zero_spelled bytes (read_block header offset count) s some e = absurd (let no : false ≡ true = some in cc)
zero_spelled bytes (lock header offset extended payload) s some e = absurd (let no : false ≡ true = some in cc)

module _ (units ready : ℕ) (has : 0 < units) (start : List Disk) {past : List Moment} {lines : ℕ} (w : WorldState) (h : Holding units ready start past lines w) (serial : ℕ) (sent : Sent) (found : found_sent serial w.store.kept ≡ Some sent) (zero_to : sent.to ≡ 0) (p : Packet) (label : LabelParts) (e : (judging_step w.target.layer sent.generation sent.bytes).0 ≡ of_response p label (Some purposes.Management)) where
  abbrev stands : Stands past w
  stands = h.sound.stands

  abbrev G : Good w.target
  G = g units ready has start w h

  abbrev L : TransactionLaw w.target
  L = law units ready has start w h

  abbrev t : Terms
  t = terms (hist past w)

  abbrev layer : Layer Purpose
  layer = w.target.layer

  abbrev ids : ℕ → ℕ
  ids = t.ids (t.generation 0)

  generation_is : layer.generation ≡ t.generation 0
  generation_is =
      sym (ap (λ (l : Node). l.generation) (stands.is.layers_are 0 (omega arith)))
      ∙ (((holds stands.wire stands.reached).nodes 0).generation ∙ ap (λ (x : Terms). x.generation 0) (past_terms w stands))

  answer_law : AnswerLaw stands.wire
  answer_law = subst AnswerLaw (sym stands.reached.is) (answers_always stands.reached.moves stands.reached.may)

  fair : t.injects 0 ≡ false
  fair = subst (λ (x : Terms). x.injects 0 ≡ false) (past_terms w stands) stands.is.fair

  abbrev now : Layer Purpose
  now = (judging_step layer sent.generation sent.bytes).1

  abbrev purpose : Option Purpose
  purpose = Some purposes.Management

  judged : judging_step layer sent.generation sent.bytes ≡ (of_response p label purpose, now)
  judged = ap (λ (x : Finding Purpose). (x, now)) e

  read_is : IsRead sent.bytes p true
  read_is = subst (λ (x : Finding Purpose). IsFound x layer now sent.bytes) e (found_as layer sent.generation sent.bytes)

  abbrev source : ℕ
  source = (header_in p).source

  abbrev number : ℕ
  number = (header_in p).label

  abbrev q : Sending
  q = as_sending sent

  closing : Closing layer now p label purpose G.lives
  closing = closing_known layer now G.lives sent.generation sent.bytes p label purpose G.mid.known judged read_is.kind

  number_is : label.number ≡ number
  number_is = label_number layer now sent.generation sent.bytes p label purpose judged

  in_generation : sent.generation ≡ t.generation 0
  in_generation = response_current layer now sent.generation sent.bytes p label purpose judged ∙ generation_is

  was : t.sent serial ≡ Some q
  was = was_sent w stands serial sent found

  source_is : source ≡ ids sent.from
  source_is = (is_of w stands serial sent found).source p read_is.read ∙ ap (λ x. t.ids x sent.from) in_generation

  state_is : state_for layer.peers (ids sent.from) number ≡ states.UnderWay closing.kind label.serial
  state_is =
      ap (λ i. state_for layer.peers i number) (sym source_is) ∙ ap (λ n. state_for layer.peers source n) (sym number_is)
      ∙ state_of layer G.lives source label closing.kind purpose G.mid.known closing.life

  -- ---- the request that waits
  abbrev u : Transaction
  u = transaction (t.generation 0) 0 sent.from number

  pub waiting : Waits (t.held u)
  waiting = held_waits (t.held u) closing.kind (sym (ap shape state_is) ∙ labels units ready has start w h sent.from number)

  abbrev pub asked_by_it : ℕ
  asked_by_it = waiting.serial

  awaited : IsAwaited (terms stands.wire.past) u waiting.kind waiting.serial
  awaited = goes_on.awaited stands.wire u waiting.kind waiting.serial stands.reached (ap (λ (x : Terms). x.held u) (past_terms w stands) ∙ waiting.is)

  request_to : receiver_in (t.sent asked_by_it) ≡ Some sent.from
  request_to = ap (λ (x : Terms). receiver_in (x.sent waiting.serial)) (sym (past_terms w stands)) ∙ awaited_to (terms stands.wire.past) u waiting.kind waiting.serial awaited

  -- ---- what it answers, by the history
  spelled : Spells p
  spelled = spells p read_is.kind

  part : part_of sent.bytes ≡ response number spelled.kind
  part = part_read sent.bytes p read_is.read ∙ spelled.part

  held_there : t.held (between q q.to q.from number) ≡ waits waiting.kind waiting.serial
  held_there =
      ap t.held
      (ap (λ x. transaction x q.to q.from number) in_generation ∙ ap (λ x. transaction (t.generation 0) x q.from number) zero_to)
      ∙ waiting.is

  under : IsUnderWay layer purpose source label.number
  under = under_for layer G.lives purpose source label closing.kind G.mid.known closing.life

  -- it is from the node of the operation
  module _ (op : Operation) (operation : w.target.manager.operation ≡ Some op) (i : ℕ) (is_of_it : op.source ≡ id_for t 0 (suc i)) where
    pub from_is : sent.from ≡ suc i
    from_is =
        let only = (L.operation_has op.source (ap source_in operation)).only source label.number under in
        same_id w stands sent.from (suc i) (sym source_is ∙ only.0 ∙ is_of_it)

    module _ (none : NoneInjected (hist past w) i) (is_calm : IsCalm (hist past w) i) where
      calm : t.injects sent.from ≡ false
      calm = ap t.injects from_is ∙ is_calm

      own : Owned serial w.store.kept sent
      own = stored_by serial w.store.kept sent (found_kept serial w.store.kept) refl found

      answered : AnswersWaiting (terms stands.wire.past) serial waiting.serial spelled.kind waiting.kind
      answered =
          let same : terms stands.wire.past ≡ t = past_terms w stands in
          answer_law.waiting serial waiting.serial number spelled.kind waiting.kind own.one
          (ap (λ (x : Stored). found_kept serial x.kept) stands.is.store_is ∙ own.found)
          (ap (λ (x : Sent). part_of x.bytes) own.is ∙ part)
          (ap (λ (x : Sent). (terms stands.wire.past).injects x.from) own.is ∙ (ap (λ (x : Terms). x.injects sent.from) same ∙ calm))
          (ap (λ (x : Sent). (terms stands.wire.past).injects x.to) own.is ∙ (ap (λ (x : Terms). x.injects sent.to) same ∙ (ap t.injects zero_to ∙ fair)))
          (ap (λ (x : Sent). (terms stands.wire.past).held (between (as_sending x) x.to x.from number)) own.is ∙ (ap (λ (x : Terms). x.held (between q q.to q.from number)) same ∙ held_there))

      answers : t.answers serial ≡ Some asked_by_it
      answers = ap (λ (x : Terms). x.answers serial) (sym (past_terms w stands)) ∙ answered.answers

      alike : is_same_kind waiting.kind spelled.kind ≡ true
      alike = same_kind waiting.kind spelled.kind (sym answered.kind_is)

      is_answer : IsAnswer t serial q p
      is_answer = record {
        kind = spelled.kind;
        own = waiting.serial;
        waited = waiting.kind;
        part = part;
        current = in_generation ∙ ap t.generation (sym zero_to);
        held = held_there;
        alike = alike;
        answered = ap (λ so. laws.answered_in t so) was ∙ ap (λ x. laws.answered_as x t q) part
            ∙ (ap (λ x. laws.closed_by x spelled.kind) held_there ∙ ap (λ b. cond b (Some waiting.serial) None) alike);
      }

      answers_it : AnswersOwn start w stands G L h.at serial sent found zero_to p read_is.read is_answer label purpose closing.kind closing.life number_is
      answers_it = answers_own start w stands G L h.at serial sent found zero_to p read_is.read is_answer label purpose closing.kind closing.life number_is refl

      -- it answers the request of the operation
      pub manages_is : (target_at start (hist past w)).manages ≡ Some asked_by_it
      unfolding is_answer
      manages_is = serial_is (target_at start (hist past w)).manages asked_by_it answers_it.own

      pub tells : laws.answer_in (laws.packet_at t serial) ≡ answer_in p
      unfolding answers_it
      tells = answer_is start w stands G L h.at serial sent found zero_to p read_is.read is_answer label purpose closing.kind closing.life number_is answers_it.no_lock

      -- and tells bytes to it
      pub is_answered : (bytes : List ℕ) → answer_in p ≡ Payload bytes → IsAnswered (hist past w) i serial asked_by_it bytes
      is_answered bytes f = record {
        own = λ packet there.
            let same : packet ≡ q = same_Some packet q (sym there ∙ was) in
            none is_calm serial packet there (ap (λ (x : Sending). x.from) same ∙ from_is);
        answers = answers;
        of_initiator = request_to ∙ ap (λ n. Some n) from_is;
        tells = tells ∙ f;
      }

      answered_is : laws.answered_at t serial ≡ Some asked_by_it
      unfolding is_answer
      answered_is = is_answer.answered

      -- behind it the ORB that was read is the one that it brings
      pub read_then : op.phase ≡ phases.Orb → (bytes : List ℕ) → answer_in p ≡ Payload bytes → last_read start (said (notes.Got serial) ∷ hist past w) ≡ management_orb bytes
      read_then phase bytes f =
          let ms = hist past w in
          let T = target_at start ms in
          let was_last = last_read start ms in
          let answer = laws.answer_in (laws.packet_at t serial) in
          let here : nat_eq sent.to 0 ≡ true = grind (arith, nat_tests) in
          let of_it : T.manager.operation ≡ Some op = ap (λ (m : Machine). m.operation) h.at.agrees.manager ∙ operation in
          ap (λ so. read_by (is_serial (receiver_in so) 0) (laws.answered_at t serial) T.manages T.manager.operation answer was_last) was
          ∙ (ap (λ b. read_by b (laws.answered_at t serial) T.manages T.manager.operation answer was_last) here
          ∙ (ap (λ x. read_by true x T.manages T.manager.operation answer was_last) answered_is
          ∙ (ap (λ m. read_if (is_serial m asked_by_it) T.manager.operation answer was_last) manages_is
          ∙ (ap (λ b. read_if b T.manager.operation answer was_last) (let z : nat_eq asked_by_it asked_by_it ≡ true = grind arith in z)
          ∙ (ap (λ o. read_for o answer was_last) of_it
          ∙ (ap (λ x. read_in x answer was_last) phase
          ∙ ap (λ a. management_orb (bytes_in a)) (tells ∙ f)))))))

      -- a write that is answered done was served
      module _ (packet : Sending) (asking_is : t.sent asked_by_it ≡ Some packet) (writes : is_write packet.bytes ≡ true) (done : write_failure (answer_in p) ≡ None) where
        abbrev tw : Terms
        tw = terms stands.wire.past

        same : tw ≡ t
        same = past_terms w stands

        on : On tw stands.wire.store stands.wire.layer stands.wire.bus stands.wire.ids stands.wire.due
        on = holds stands.wire stands.reached

        served_law : Served tw None
        served_law = subst (λ (d : Option Due). Served tw (due_transaction d)) stands.is.due_is on.codes

        held_u : tw.held u ≡ waits waiting.kind waiting.serial
        held_u = ap (λ (x : Terms). x.held u) same ∙ waiting.is

        asked_one : IsAsked (tw.last u) (tw.sent (tw.current u)) u
        asked_one = on.facts.asked u (let x = (on.facts.tie u).waiting waiting.kind waiting.serial held_u in let y = x.0 in let z = x.1 in omega (arith, y, z))

        packet_is : asked_one.packet ≡ packet
        packet_is = same_Some asked_one.packet packet (sym asked_one.sent_is ∙ (ap tw.sent (sym awaited.current) ∙ (ap (λ (x : Terms). x.sent waiting.serial) same ∙ asking_is)))

        calm_there : tw.injects sent.from ≡ false
        calm_there = ap (λ (x : Terms). x.injects sent.from) same ∙ calm

        fair_there : tw.injects 0 ≡ false
        fair_there = stands.is.fair

        write : IsWrite tw u
        write = record {
          fairly = ap (λ b. not b && not (tw.injects sent.from)) fair_there ∙ ap not calm_there;
          bytes = packet.bytes;
          last = asked_one.last_is ∙ ap (λ (x : Sending). Some x.bytes) packet_is;
          writes = writes;
        }

        flies : IsKept (tw.sent serial) (tw.flight serial) own.one serial
        flies = flying on.follows serial own.one (ap (λ (x : Stored). found_kept serial x.kept) stands.is.store_is ∙ own.found)

        sent_there : tw.sent serial ≡ Some q
        sent_there = ap (λ (x : Terms). x.sent serial) same ∙ was

        honest : q.injected ≡ false
        honest = by q.injected refl
          where
            by : (b : Bool) → q.injected ≡ b → b ≡ false
            by true f = absurd (let no : false ≡ true = sym calm_there ∙ (on.facts.honest serial q sent_there).bold f in cc)
            by false f = refl

        between_is : between q q.to q.from number ≡ u
        between_is = ap (λ x. transaction x q.to q.from number) in_generation ∙ ap (λ x. transaction (t.generation 0) x q.from number) zero_to

        comes : Comes tw u serial
        comes = record {
          packet = q;
          sent = sent_there;
          label = number;
          kind = spelled.kind;
          part = part;
          honest = honest;
          live = flies.live;
          is = between_is;
        }

        zero_code : rcode_of q.bytes ≡ 0
        zero_code = zero_spelled sent.bytes p (fit_judged.spelled sent.bytes p read_is.read) read_is.kind done

        given_is : tw.given u ≡ 0
        unfolding comes
        given_is = sym (served_law.replies u serial write refl comes) ∙ zero_code

        judged_once : 0 < tw.judged (tw.current u)
        judged_once =
            let f = (on.facts.flies serial q sent_there).replies number spelled.kind part honest flies.live (ap not (ap tw.injects zero_to ∙ fair_there)) in
            subst (λ (v : Transaction). 0 < tw.judged (tw.current v)) between_is f.1

        pub served_once : t.served asked_by_it ≡ 1
        served_once = ap (λ (x : Terms). x.served waiting.serial) (sym same) ∙ (ap tw.served awaited.current ∙ served_law.done u write refl judged_once given_is)
