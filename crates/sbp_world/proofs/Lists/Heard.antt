-- A response to a transaction of an agent is the one to the request that the agent waits for, by the history, and tells the laws what it tells the target.
use Rattle.sbp_world.proofs.Words.Std.{arith, ◌≡◌, ◌∙◌, refl, sym, ap, subst, ◌<◌, ℕ, is_some, Bool, true, false, cond, List, Option, Some, None, same_Some}
use Rattle.sbp_world.proofs.Words.Wire.{LabelParts, Packet, header_in, AnswerLaw, AnswersWaiting, IsAwaited, kind_as, shape, shape_of, Node, as_sending, transaction, ReplyKind, Finding, Layer, judging_step, of_response, state_for, reply_kind, Kept, Sent, found_kept, found_sent, sent_of, Stored, Moment, Kind, Part, Sending, Transaction, asked_as, asked_by, begun_by, begun_if, between, is_same_kind, locking, part_in, part_of, reading_block, reading_quadlet, request, response, writing, Terms, terms, waits}
use Rattle.sbp_world.proofs.Words.Target.{Which, Disk, Purpose, sent_to, which_in, desk_at, answer_in, IsUnderWay, TransactionLaw}
use Rattle.sbp_world.proofs.Words.Laws.{receiver_in, Target, agent_at, for_agent, over, purpose_of, target_at}
use Rattle.sbp_world.proofs.Words.World.{WorldState, Stands, AreAskedAt, serial_of, AreOf, Request, AreKnown, IsForAgent}
use Rattle.bus_transactions.proofs.AnswerLaws.{answers_always}
use Rattle.bus_transactions.proofs.Reaches.{goes_on}
use Rattle.bus_transactions.proofs.PacketParts.{PartOf, asks, part_case, part_read, replies}
use Rattle.label_table.specs.declared.place.LabelState.TheVariants as states
use Rattle.sbp_laws.specs.Packets as laws
use Rattle.sbp_target.specs.declared.purpose.Purpose.TheVariants as purposes
use Rattle.sbp_world.proofs.Wire.Bus.{holds}
use Rattle.sbp_target.proofs.Histories.Calling.{Good}
use Rattle.sbp_target.proofs.Histories.Found.{IsFound, IsRead, found as found_as}
use Rattle.sbp_target.proofs.Histories.Primitives.{Closing, closing_known}
use Rattle.sbp_world.proofs.Agents.Management.Awaiting.{under_for}
use Rattle.sbp_world.proofs.Agents.Management.Delivering.{answer_is}
use Rattle.sbp_world.proofs.Agents.Management.Hearing.{IsAnswer, label_number, response_current}
use Rattle.sbp_world.proofs.Agents.Management.Holding.{Holding, is_of, past_terms, was_sent}
use Rattle.sbp_world.proofs.Agents.Management.Still.{hist}
use Rattle.sbp_world.proofs.Agents.CrewLocks.{is_lock, lockless, none_locks}
use Rattle.sbp_world.proofs.Agents.CrewSeats.{IsServing, serves_it, state_of}
use Rattle.sbp_world.proofs.Agents.Handed.{are_handed}
use Rattle.sbp_world.proofs.Agents.Purposes.{Waits, g, held_waits, labels, law}
use Rattle.sbp_world.proofs.Agents.CrewFirsts.{awaits_same}
use Rattle.sbp_world.proofs.Agents.Management.Hearing.{label_in}

-- ---- packets

pub same_kind : (k l : Kind) → k ≡ l → is_same_kind k l ≡ true
same_kind writing l e = subst (λ x. is_same_kind writing x ≡ true) e refl
same_kind reading_quadlet l e = subst (λ x. is_same_kind reading_quadlet x ≡ true) e refl
same_kind reading_block l e = subst (λ x. is_same_kind reading_block x ≡ true) e refl
same_kind locking l e = subst (λ x. is_same_kind locking x ≡ true) e refl

pub record Spells (p : Packet) : Type 0 where
  pub kind : Kind
  pub part : part_in p ≡ response (header_in p).label kind

pub spells : (p : Packet) → is_some (reply_kind p) ≡ true → Spells p
spells p some = by_case (part_case p)
  where
    by_case : PartOf p → Spells p
    by_case (asks l k part none) = absurd (let no : false ≡ true = sym (ap (λ (x : Option ReplyKind). is_some x) none) ∙ some in cc)
    by_case (replies l k part is) = record { kind = k; part = part ∙ ap (λ x. response x k) (label_in p l k part) }

-- a packet that the store has
pub record Owned (serial : ℕ) (kept : List Kept) (sent : Sent) : Type 0 where
  pub one : Kept
  pub found : found_kept serial kept ≡ Some one
  pub is : one.sent ≡ sent

pub stored_by : (serial : ℕ) (kept : List Kept) (sent : Sent) (so : Option Kept) → found_kept serial kept ≡ so → sent_of so ≡ Some sent → Owned serial kept sent
stored_by serial kept sent None e f = absurd (let no : None ≡ Some sent = f in cc)
stored_by serial kept sent (Some one) e f = record { one = one; found = e; is = (let z : Some one.sent ≡ Some sent = f in cc) }

-- the node that a transaction is with is the one that its request goes to
to_if : (b : Bool) (packet : Sending) (label : ℕ) (u : Transaction) → begun_if b (Some (between packet packet.from packet.to label)) ≡ Some u → packet.to ≡ u.responder
to_if true packet label u e = absurd (let no : None ≡ Some u = e in cc)
to_if false packet label u e = let same : between packet packet.from packet.to label ≡ u = cc in ap (λ (x : Transaction). x.responder) same

begun_part : (packet : Sending) (label : ℕ) (kind : Kind) (u : Transaction) (part : Part) → part ≡ request label kind → begun_if packet.injected (asked_as part packet) ≡ Some u → packet.to ≡ u.responder
begun_part packet label kind u part e f = to_if packet.injected packet label u (sym (ap (λ (x : Part). begun_if packet.injected (asked_as x packet)) e) ∙ f)

pub awaited_to : (t : Terms) (u : Transaction) (kind : Kind) (serial : ℕ) → IsAwaited t u kind serial → receiver_in (t.sent serial) ≡ Some u.responder
unfolding begun_by asked_by
awaited_to t u kind serial a =
    ap receiver_in a.sent ∙ ap (λ n. Some n) (begun_part a.packet u.label kind u (part_of a.packet.bytes) a.part a.begun)

module _ (units ready : ℕ) (has : 0 < units) (start : List Disk) {past : List Moment} {lines : ℕ} (w : WorldState) (h : Holding units ready start past lines w) where
  abbrev stands : Stands past w
  stands = h.sound.stands

  abbrev G : Good w.target
  G = g units ready has start w h

  abbrev L : TransactionLaw w.target
  L = law units ready has start w h

  abbrev t : Terms
  t = terms (hist past w)

  abbrev T : Target
  T = over (target_at start (hist past w))

  abbrev layer : Layer Purpose
  layer = w.target.layer

  abbrev ids : ℕ → ℕ
  ids = t.ids (t.generation 0)

  generation_is : layer.generation ≡ t.generation 0
  generation_is =
      sym (ap (λ (l : Node). l.generation) (stands.is.layers_are 0 (omega arith)))
      ∙ (((holds stands.wire stands.reached).nodes 0).generation ∙ ap (λ (x : Terms). x.generation 0) (past_terms w stands))

  answer_law : AnswerLaw stands.wire
  answer_law = subst AnswerLaw (sym stands.reached.is) (answers_always stands.reached.moves stands.reached.may)

  fair : t.injects 0 ≡ false
  fair = subst (λ (x : Terms). x.injects 0 ≡ false) (past_terms w stands) stands.is.fair

  module _ (requests : List Request) (are : AreOf requests T.agents w.target) (known : AreKnown requests w.target w.requests) (asked : AreAskedAt start (hist past w)) (serial : ℕ) (sent : Sent) (found : found_sent serial w.store.kept ≡ Some sent) (zero_to : sent.to ≡ 0) (p : Packet) (label : LabelParts) (place : ℕ) (e : (judging_step layer sent.generation sent.bytes).0 ≡ of_response p label (Some (purposes.Agent place))) where
    abbrev now : Layer Purpose
    now = (judging_step layer sent.generation sent.bytes).1

    abbrev purpose : Option Purpose
    purpose = Some (purposes.Agent place)

    judged : judging_step layer sent.generation sent.bytes ≡ (of_response p label purpose, now)
    judged = ap (λ (x : Finding Purpose). (x, now)) e

    read_is : IsRead sent.bytes p true
    read_is = subst (λ (x : Finding Purpose). IsFound x layer now sent.bytes) e (found_as layer sent.generation sent.bytes)

    abbrev source : ℕ
    source = (header_in p).source

    abbrev number : ℕ
    number = (header_in p).label

    abbrev q : Sending
    q = as_sending sent

    closing : Closing layer now p label purpose G.lives
    closing = closing_known layer now G.lives sent.generation sent.bytes p label purpose G.mid.known judged read_is.kind

    number_is : label.number ≡ number
    number_is = label_number layer now sent.generation sent.bytes p label purpose judged

    in_generation : sent.generation ≡ t.generation 0
    in_generation = response_current layer now sent.generation sent.bytes p label purpose judged ∙ generation_is

    was : t.sent serial ≡ Some q
    was = was_sent w stands serial sent found

    pub source_is : source ≡ ids sent.from
    source_is = (is_of w stands serial sent found).source p read_is.read ∙ ap (λ x. t.ids x sent.from) in_generation

    state_is : state_for layer.peers (ids sent.from) number ≡ states.UnderWay closing.kind label.serial
    state_is =
        ap (λ i. state_for layer.peers i number) (sym source_is) ∙ ap (λ n. state_for layer.peers source n) (sym number_is)
        ∙ state_of layer G.lives source label closing.kind purpose G.mid.known closing.life

    -- ---- the request that waits
    abbrev u : Transaction
    u = transaction (t.generation 0) 0 sent.from number

    pub waiting : Waits (t.held u)
    waiting = held_waits (t.held u) closing.kind (sym (ap shape state_is) ∙ labels units ready has start w h sent.from number)

    kind_is : closing.kind ≡ kind_as waiting.kind
    kind_is = awaits_same closing.kind (kind_as waiting.kind) (sym (ap shape state_is) ∙ labels units ready has start w h sent.from number ∙ ap shape_of waiting.is)

    abbrev pub asked_by_it : ℕ
    asked_by_it = waiting.serial

    awaited : IsAwaited (terms stands.wire.past) u waiting.kind waiting.serial
    awaited = goes_on.awaited stands.wire u waiting.kind waiting.serial stands.reached (ap (λ (x : Terms). x.held u) (past_terms w stands) ∙ waiting.is)

    pub request_to : receiver_in (t.sent asked_by_it) ≡ Some sent.from
    request_to = ap (λ (x : Terms). receiver_in (x.sent waiting.serial)) (sym (past_terms w stands)) ∙ awaited_to (terms stands.wire.past) u waiting.kind waiting.serial awaited

    pub under : IsUnderWay layer purpose (ids sent.from) number
    under =
        subst (λ i. IsUnderWay layer purpose i number) source_is
        (subst (λ n. IsUnderWay layer purpose source n) number_is (under_for layer G.lives purpose source label closing.kind G.mid.known closing.life))

    for_it : IsForAgent T w.target place (ids sent.from) number asked_by_it
    for_it = ((are_handed units ready has start w h).all requests sent.from number waiting.kind waiting.serial purpose are known waiting.is under).agent place refl

    pub small : place < 8
    small = L.places place (ids sent.from) number under

    serving_it : IsServing w.target place (sent_to source label) for_it.which
    serving_it =
        let k = for_it.kept in
        serves_it units ready has start w h place small (sent_to source label) for_it.which
        (record { kind = closing.kind; life = closing.life })
        (record { sent = k.sent; is = k.is; peer_is = k.peer_is ∙ sym source_is; number_is = k.number_is ∙ sym number_is })

    pub waits_so : (which : Which) → which_in (desk_at w.target place) source label ≡ Some which → serial_of which (agent_at T place) ≡ Some asked_by_it
    waits_so which f =
        let same : for_it.which ≡ which = same_Some for_it.which which (sym serving_it.which_is ∙ f) in
        subst (λ (x : Which). serial_of x (agent_at T place) ≡ Some asked_by_it) same (asked.handed asked_by_it place for_it.which for_it.is).1

    -- it is for that transaction of the agent, by the terms
    pub purpose_so : (which : Which) → which_in (desk_at w.target place) source label ≡ Some which → purpose_of T asked_by_it ≡ for_agent place which
    purpose_so which f =
        let same : for_it.which ≡ which = same_Some for_it.which which (sym serving_it.which_is ∙ f) in
        subst (λ (x : Which). purpose_of T asked_by_it ≡ for_agent place x) same for_it.is

    -- ---- what it answers, by the history
    spelled : Spells p
    spelled = spells p read_is.kind

    part : part_of sent.bytes ≡ response number spelled.kind
    part = part_read sent.bytes p read_is.read ∙ spelled.part

    held_there : t.held (between q q.to q.from number) ≡ waits waiting.kind waiting.serial
    held_there =
        ap t.held
        (ap (λ x. transaction x q.to q.from number) in_generation ∙ ap (λ x. transaction (t.generation 0) x q.from number) zero_to)
        ∙ waiting.is

    module _ (calm : t.injects sent.from ≡ false) where
      own : Owned serial w.store.kept sent
      own = stored_by serial w.store.kept sent (found_kept serial w.store.kept) refl found

      answered : AnswersWaiting (terms stands.wire.past) serial waiting.serial spelled.kind waiting.kind
      answered =
          let same : terms stands.wire.past ≡ t = past_terms w stands in
          answer_law.waiting serial waiting.serial number spelled.kind waiting.kind own.one
          (ap (λ (x : Stored). found_kept serial x.kept) stands.is.store_is ∙ own.found)
          (ap (λ (x : Sent). part_of x.bytes) own.is ∙ part)
          (ap (λ (x : Sent). (terms stands.wire.past).injects x.from) own.is ∙ (ap (λ (x : Terms). x.injects sent.from) same ∙ calm))
          (ap (λ (x : Sent). (terms stands.wire.past).injects x.to) own.is ∙ (ap (λ (x : Terms). x.injects sent.to) same ∙ (ap t.injects zero_to ∙ fair)))
          (ap (λ (x : Sent). (terms stands.wire.past).held (between (as_sending x) x.to x.from number)) own.is ∙ (ap (λ (x : Terms). x.held (between q q.to q.from number)) same ∙ held_there))

      pub answers : t.answers serial ≡ Some asked_by_it
      answers = ap (λ (x : Terms). x.answers serial) (sym (past_terms w stands)) ∙ answered.answers

      alike : is_same_kind waiting.kind spelled.kind ≡ true
      alike = same_kind waiting.kind spelled.kind (sym answered.kind_is)

      is_answer : IsAnswer t serial q p
      is_answer = record {
        kind = spelled.kind;
        own = waiting.serial;
        waited = waiting.kind;
        part = part;
        current = in_generation ∙ ap t.generation (sym zero_to);
        held = held_there;
        alike = alike;
        answered = ap (λ so. laws.answered_in t so) was ∙ ap (λ x. laws.answered_as x t q) part
            ∙ (ap (λ x. laws.closed_by x spelled.kind) held_there ∙ ap (λ b. cond b (Some waiting.serial) None) alike);
      }

      -- it closes that request
      pub closed : laws.answered_at t serial ≡ Some asked_by_it
      unfolding is_answer
      closed = is_answer.answered

      pub tells : laws.answer_in (laws.packet_at t serial) ≡ answer_in p
      unfolding is_answer waiting
      tells =
          answer_is start w stands G L h.at serial sent found zero_to p read_is.read is_answer label purpose closing.kind closing.life number_is
          (lockless waiting.kind (ap is_lock (sym kind_is) ∙ none_locks layer G.lives G.mid.known source label closing.kind purpose closing.life))
