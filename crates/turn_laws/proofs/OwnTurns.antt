-- In each turn in which no transaction of an initiator ends the notes of operations, lists and sessions are those that are due.
use Rattle.std.proofs.Common.{[], arith, ◌+◌, ◌<◌, ◌∙◌, ◌∷◌, ◌≡◌, ◌≤◌, ◌++◌, Bool, Err, List, None, Ok, Option, Result, Some, ap, false, length, nat_eq, not, refl, subst, suc, sym, true, ℕ}
use Rattle.async_packet.specs.Labels.{LabelParts}
use Rattle.async_packet.specs.Packet.{Packet}
use Rattle.async_packet.specs.Reading.{reading}
use Rattle.async_packet.specs.declared.fault.PacketFault.{PacketFault}
use Rattle.bus_transactions.specs.Wire.{as_sending, transaction}
use Rattle.bus_transactions.proofs.PacketParts.{PartOf, asks, part_case, part_read, replies}
use Rattle.label_table.proofs.Calls.{after_kept, told_law}
use Rattle.label_table.specs.History.{IsFor, Life, not_begun, over, under_way}
use Rattle.label_table.specs.History as layers
use Rattle.label_table.specs.Judging.{by_request}
use Rattle.label_table.specs.Layer.{Finding, Layer, expiring_step, judging_step, of_again, of_generation, of_grammar, of_label, of_request, of_response, seeing_step}
use Rattle.label_table.specs.declared.reply.ReplyKind.{ReplyKind}
use Rattle.label_table.specs.declared.reply.Stale.{Stale}
use Rattle.orb_layout.specs.Replies.{Expired}
use Rattle.orb_list.specs.Lists.{ListState, drop_lists}
use Rattle.orb_list.specs.Table.{drop_for, drop_step}
use Rattle.orb_list.specs.declared.list.PresentList.{PresentList}
use Rattle.packet_store.specs.Kept.{found_sent}
use Rattle.packet_store.specs.declared.sent.Sent.{Sent}
use Rattle.rbc_disk.specs.Disk.{Disk}
use Rattle.sbp_bus.specs.Generations.{id_of}
use Rattle.sbp_bus.specs.Packets.{judged_note}
use Rattle.sbp_bus.specs.Requests.{find}
use Rattle.sbp_bus.specs.declared.requests.Request.{Request}
use Rattle.sbp_initiator.specs.Effects.{Turn as Call, ended_for}
use Rattle.sbp_initiator.specs.Receiving.{called, expire_step, expired_as, receive_step, received, request_step, respond_step}
use Rattle.sbp_initiator.specs.Seeing.{see_step, seen_as}
use Rattle.sbp_initiator.specs.declared.purpose.Ending.TheVariants as endings
use Rattle.sbp_initiator.specs.declared.purpose.Purpose.{Purpose}
use Rattle.sbp_initiator.specs.declared.state.InitiatorState.{InitiatorState}
use Rattle.sbp_initiator.proofs.Histories.Over.{sound}
use Rattle.sbp_journal.specs.Addresses.{Access}
use Rattle.sbp_journal.specs.Outgoings.{OutboxState, empty_outbox}
use Rattle.sbp_journal.specs.Run.{Moment, said}
use Rattle.sbp_journal.specs.Transactions.{Kind, Sending, Transaction, asked_as, asked_by, begun_by, between, part_of, request as request_part}
use Rattle.sbp_journal.specs.Wire.{Terms, terms, waits}
use Rattle.sbp_journal.specs.declared.cause.Judged.{Judged}
use Rattle.sbp_journal.specs.declared.cause.Judged.TheVariants as judgements
use Rattle.sbp_journal.specs.declared.note.Note.TheVariants as notes
use Rattle.sbp_laws.specs.Hosts.{Host, host_at}
use Rattle.sbp_laws.specs.Lists.{present_list}
use Rattle.sbp_laws.specs.Operations.{at_initiator, drop_note, end_by_answer, end_by_write, end_notes, gets_stuck, got_notes, host_notes, reply_notes, reset_ops, seen_notes}
use Rattle.sbp_laws.specs.Packets.{access_at, access_in, answer_in, answer_of, answered_at, packet_at, packet_in, receiver_in, sender_in, spelled_by}
use Rattle.sbp_world.proofs.Common.{untrue}
use Rattle.sbp_world.proofs.Agents.CrewFirsts.{access_there}
use Rattle.sbp_world.proofs.Agents.Management.Hearing.{answers_none}
use Rattle.sbp_world.proofs.Agents.Management.Holding.{past_terms, was_sent}
use Rattle.sbp_world.proofs.Agents.Management.Still.{hist}
use Rattle.sbp_world.proofs.Hosts.Knows.{may_see}
use Rattle.sbp_world.proofs.Hosts.Lives.{At, Called}
use Rattle.sbp_world.proofs.Pointers.Ending.{read_in}
use Rattle.sbp_world.proofs.Pointers.Finds.{expires_at}
use Rattle.sbp_world.proofs.Wire.Starts.{laws_of}
use Rattle.sbp_world.specs.Hosts.Core.{Core, work_in, work_of}
use Rattle.sbp_world.specs.Hosts.Rows.{present_in}
use Rattle.sbp_world.specs.Sessions.Holding.{AreBuffers}
use Rattle.sbp_world.specs.Wire.Wires.{Stands}
use Rattle.sbp_world.specs.Worlds.{Scene, WorldState, initiator_at}
use Rattle.bus_transactions.specs.Judging.{AreJudged}
use Rattle.bus_transactions.specs.Reached.{IsAwaited}
use Rattle.bus_transactions.specs.Rows.{shape, shape_of}
use Rattle.bus_transactions.proofs.Facts.{begun_asked}
use Rattle.bus_transactions.proofs.Reaches.{goes_on}
use Rattle.sbp_world.specs.Wire.Knows.{IsLatest}
use Rattle.sbp_world.proofs.Hosts.Shown.{IsShown}
use Rattle.sbp_world.proofs.Hosts.Shows.{shown_now}
use Rattle.turn_laws.proofs.FoundRows.{Asks, RowFor}
use Rattle.turn_laws.proofs.Handed.{handed}
use Rattle.turn_laws.proofs.OwnBlocks.{Expected, answer_silent, request_tells}
use Rattle.turn_laws.proofs.OwnEnds.{Says}
use Rattle.turn_laws.proofs.OwnNotes.{Ends, Ops, ends_of, ends_unstuck, own_are, reply_kept, sight_kept}
use Rattle.turn_laws.proofs.OwnStates.{AreReset, sight_due}
use Rattle.turn_laws.specs.Operations.{gets_conflict}
use Rattle.sbp_world.specs.Lists.FewLogins.{IsCalmBeside}
use Rattle.turn_laws.proofs.Places.{HasCalls, Place}
use Rattle.turn_laws.proofs.ReadsCarried.{resets_of}
use Rattle.turn_laws.proofs.ReadsUnderWay.{AreTimely, Waiting, waits_now}

-- the list that is dropped is the present one
drops_present : (lists : ListState) → (drop_lists lists).0 ≡ present_in lists.slots.present
unfolding drop_lists drop_step
drops_present lists = by lists.slots.present
  where
    by : (present : Option PresentList) → (drop_for present lists.slots).0 ≡ present_in present
    by None = refl
    by (Some list) = refl

-- by whom it was sent
pub sender_is : (packet : Sending) (u : Transaction) (label : ℕ) (kind : Kind) → part_of packet.bytes ≡ request_part label kind → begun_by packet ≡ Some u → packet.from ≡ u.requester
unfolding asked_by
sender_is packet u label kind part begun =
    let asked : asked_as (part_of packet.bytes) packet ≡ Some u = (begun_asked packet u begun).1 in
    let same : Some (between packet packet.from packet.to label) ≡ Some u = ap (λ x. asked_as x packet) (sym part) ∙ asked in
    ap (λ (o : Option Transaction). requester_in o) same
  where
    requester_in : Option Transaction → ℕ
    requester_in None = 0
    requester_in (Some u) = u.requester

-- a label that expires is of the generation of its layer
pub by_life : {G : Type 0} (x : Life Purpose) (purpose : Option Purpose) → IsFor purpose x → ((kind : ReplyKind) → x ≡ under_way kind purpose → G) → G
by_life (under_way kind other) purpose f g = g kind (ap (λ (q : Option Purpose). under_way kind q) f)
by_life not_begun purpose f g = absurd f
by_life over purpose f g = absurd f

names_now : (layer : Layer Purpose) (peer : ℕ) (label : LabelParts) (purpose : Option Purpose) → Called layer → (expiring_step layer peer label).0 ≡ Ok purpose → label.generation ≡ layer.generation
names_now layer peer label purpose c f =
    let old = layers.after c.node c.calls in
    let g : (expiring_step old peer label).0 ≡ Ok purpose = ap (λ (l : Layer Purpose). (expiring_step l peer label).0) c.is ∙ f in
    let t = told_law Purpose c.node (layers.lets_expire peer label ∷ c.calls) in
    let u : layers.AreTold (layers.expired peer label purpose ∷ layers.history c.node c.calls) = subst (λ (x : Result (Option Purpose) Stale). layers.AreTold (layers.and_before (layers.told_by_expiring peer label x) (layers.history c.node c.calls))) g t in
    by_life (layers.life peer label (layers.history c.node c.calls)) purpose u.0
    (λ kind is. (after_kept c.node c.calls).agree.now peer label kind purpose is ∙ ap (λ (l : Layer Purpose). l.generation) c.is)

module _ (units ready : ℕ) (start : List Disk) (past : List Moment) (s : Scene) (here : Place units ready start past s) (i : ℕ) (inside : i < length s.world.initiators) where
  abbrev old : InitiatorState
  old = initiator_at s.world i

  abbrev ms : List Moment
  ms = hist past s.world

  abbrev wire : Terms
  wire = terms ms

  abbrev host : Host
  host = host_at ms i

  abbrev present : Option ℕ
  present = present_list ms i

  stands : Stands past s.world
  stands = here.holds.sound.stands

  number_is : old.number ≡ i
  number_is = (here.hosts i inside).number

  pub drops : (drop_lists old.lists).0 ≡ present
  drops = drops_present old.lists ∙ sym (here.hosts i inside).rows.fits.present

  called_layer : Called old.layer
  called_layer = by (here.calls i inside)
    where
      by : HasCalls i old → Called old.layer
      by c =
          let k = (sound i c.ready c.called.calls).wires in record { node = 0xffc1 + i; calls = k.calls; is = k.layer_is ∙ ap (λ (x : InitiatorState). x.layer) c.called.is }

  work_is : work_of host.operation ≡ work_in old.operation
  work_is = ap (λ (c : Core). c.work) (here.cores i inside)

  -- ---- a packet that it hears
  module _ (serial : ℕ) (one : Sent) (found : found_sent serial s.world.store.kept ≡ Some one) (to_is : one.to ≡ suc i) (w : WorldState) where
    abbrev q : Sending
    q = as_sending one

    pub was_it : wire.sent serial ≡ Some q
    was_it = was_sent s.world stands serial one found

    abbrev heard : Judged × Call
    heard = receive_step one.generation one.bytes empty_outbox old

    abbrev pub IsDue : Judged × Call → Type 0
    IsDue r = Ops (handed (suc i) 0 r.1.0 w) ≡ host_notes (said (judged_note serial r.0)) ms

    got_is : host_notes (said (notes.Got serial)) ms ≡ got_notes i host present wire (answered_at wire serial) serial
    got_is =
        ap (λ so. at_initiator (receiver_in so) (λ j. got_notes j (host_at ms j) (present_list ms j) wire (answered_at wire serial) serial)) was_it
        ∙ ap (λ n. at_initiator (Some n) (λ j. got_notes j (host_at ms j) (present_list ms j) wire (answered_at wire serial) serial)) to_is

    silent : (o : OutboxState) → o.sides ≡ [] → Ops (handed (suc i) 0 o w) ≡ []
    silent o e = own_are (suc i) 0 o w [] e

    packet_is : (p : Packet) → reading one.bytes ≡ Ok p → packet_at wire serial ≡ Some p
    packet_is p read = ap packet_in was_it ∙ ap (λ (r : Result Packet PacketFault). spelled_by r) read

    -- a request
    module _ (buffers : AreBuffers host.responses old.lists.memory) (p : Packet) (a : Asks wire q p by_request) (layer : Layer Purpose) where
      abbrev asking : InitiatorState
      asking = record old { layer = layer }

      unanswered : PartOf p → answered_at wire serial ≡ None
      unanswered (asks l k part none) = answers_none wire serial q l k was_it (part_read one.bytes p a.read ∙ part)
      unanswered (replies l k part some) = absurd (let no : Some _ ≡ None = sym some ∙ a.none in cc)

      request_law : (access : Access) → access_at wire serial ≡ Some access → host_notes (said (notes.Got serial)) ms ≡ end_notes old.number (end_by_write host (Some access)) present
      request_law access e =
          got_is ∙ ap (λ x. got_notes i host present wire x serial) (unanswered (part_case p)) ∙ ap (λ x. end_notes i (end_by_write host x) present) e
          ∙ ap (λ n. end_notes n (end_by_write host (Some access)) present) (sym number_is)

      request_due : IsDue (request_step p one.bytes empty_outbox asking)
      request_due =
          let asks_for = access_there p a.none in
          let access = asks_for.access in
          let t = request_tells asking host present work_is drops buffers (here.logins i inside) one.bytes p access asks_for.is in
          let law = request_law access (ap access_in (packet_is p a.read) ∙ asks_for.is) in
          own_are (suc i) 0 _ w t.told_notes t.sides ∙ t.are ∙ expected access law (request_step p one.bytes empty_outbox asking).0
        where
          expected : (access : Access) → host_notes (said (notes.Got serial)) ms ≡ end_notes old.number (end_by_write host (Some access)) present → (j : Judged) → Expected asking host present work_is drops buffers (here.logins i inside) one.bytes access j ≡ host_notes (said (judged_note serial j)) ms
          expected access law judgements.Got = sym law
          expected access law (judgements.Ignored cause) = refl

    -- a response, which answers this request: what is told as that ends is due
    module _ (p : Packet) (label : LabelParts) (purpose : Option Purpose) (e : (judging_step old.layer one.generation one.bytes).0 ≡ of_response p label purpose) (own : ℕ) (answers : answered_at wire serial ≡ Some own) where
      response_law : host_notes (said (notes.Got serial)) ms ≡ reply_notes old.number host present (access_at wire own) own (answer_of p)
      response_law =
          got_is ∙ ap (λ x. got_notes i host present wire x serial) answers
          ∙ ap (λ x. reply_notes i host present (access_at wire own) own (answer_in x)) (packet_is p (read_in old.layer one.generation one.bytes p label purpose e))
          ∙ ap (λ n. reply_notes n host present (access_at wire own) own (answer_of p)) (sym number_is)

      pub answer_tells : (t : Call) → Says empty_outbox t (reply_notes old.number host present (access_at wire own) own (answer_of p)) → Ops (handed (suc i) 0 t.0 w) ≡ host_notes (said (notes.Got serial)) ms
      answer_tells t says =
          own_are (suc i) 0 t.0 w (reply_notes old.number host present (access_at wire own) own (answer_of p)) says
          ∙ reply_kept old.number (end_by_answer host own (answer_of p) present) present (gets_stuck host (access_at wire own) (answer_of p)) ∙ sym response_law

      -- and where it tells what would be due for another write, the ends are
      pub answer_ends : (t : Call) (access : Option Access) → Says empty_outbox t (reply_notes old.number host present access own (answer_of p)) → Ends (handed (suc i) 0 t.0 w) ≡ Ends (host_notes (said (notes.Got serial)) ms)
      answer_ends t access says =
          let end = end_notes old.number (end_by_answer host own (answer_of p) present) present in
          sym (ends_of (handed (suc i) 0 t.0 w)) ∙ ap Ends (own_are (suc i) 0 t.0 w (reply_notes old.number host present access own (answer_of p)) says) ∙ ends_of (reply_notes old.number host present access own (answer_of p))
          ∙ ends_unstuck end old.number (gets_stuck host access (answer_of p)) ∙ sym (ends_unstuck end old.number (gets_stuck host (access_at wire own) (answer_of p))) ∙ ap Ends (sym response_law)

    -- the ends of operations and lists alone
    abbrev pub AreEnds : Judged × Call → Type 0
    AreEnds r = Ends (handed (suc i) 0 r.1.0 w) ≡ Ends (host_notes (said (judged_note serial r.0)) ms)

    pub due_ends : (r : Judged × Call) → IsDue r → AreEnds r
    due_ends r e = sym (ends_of (handed (suc i) 0 r.1.0 w)) ∙ ap Ends e

    abbrev Judgement : Judged × Call → Type 0
    Judgement r = AreJudged (said (judged_note serial r.0) ∷ ms)

    -- what is due holds of what each packet brings, where it does of responses
    module _ (Holds : Judged × Call → Type 0) (due : (r : Judged × Call) → IsDue r → Holds r) where
      abbrev pub RespondsSo : Type 0
      RespondsSo =
          (p : Packet) (label : LabelParts) (purpose : Option Purpose) (l : Layer Purpose) → judging_step old.layer one.generation one.bytes ≡ (of_response p label purpose, l)
          → AreJudged (said (notes.Got serial) ∷ ms) → Holds (received (of_response p label purpose, l) one.bytes empty_outbox old)

      -- what a packet brings that is found so
      abbrev Brings : Finding Purpose × Layer Purpose → Type 0
      Brings x = judging_step old.layer one.generation one.bytes ≡ x → RowFor wire q old.layer.node x → Judgement (received x one.bytes empty_outbox old) → Holds (received x one.bytes empty_outbox old)

      heard_by : AreBuffers host.responses old.lists.memory → RespondsSo → (x : Finding Purpose × Layer Purpose) → Brings x
      heard_by buffers responds (of_generation, l) e row j = due (received (of_generation, l) one.bytes empty_outbox old) (silent empty_outbox refl)
      heard_by buffers responds (of_grammar, l) e row j = due (received (of_grammar, l) one.bytes empty_outbox old) (silent empty_outbox refl)
      heard_by buffers responds (of_label, l) e row j = due (received (of_label, l) one.bytes empty_outbox old) (silent empty_outbox refl)
      heard_by buffers responds (of_response p label purpose, l) e row j = responds p label purpose l e j
      heard_by buffers responds (of_again p rcode, l) e row j =
          let turn : Call = (empty_outbox, record old { layer = l }) in
          due (received (of_again p rcode, l) one.bytes empty_outbox old) (silent (respond_step p one.bytes rcode [] turn).0 (answer_silent p one.bytes rcode [] turn))
      heard_by buffers responds (of_request p, l) e row j = due (received (of_request p, l) one.bytes empty_outbox old) (request_due buffers p row l)

      pub got_by : (Calm : Judged → Type 0) → AreBuffers host.responses old.lists.memory → (Calm judgements.Got → RespondsSo) → Calm heard.0 → Judgement heard → RowFor wire q old.layer.node (judging_step old.layer one.generation one.bytes) → Holds heard
      unfolding receive_step
      got_by Calm buffers responds calm judged row =
          heard_by buffers (λ p label purpose l e j. responds (subst (λ (y : Finding Purpose × Layer Purpose). Calm (received y one.bytes empty_outbox old).0) e calm) p label purpose l e j)
          (judging_step old.layer one.generation one.bytes) refl row judged

    -- who gets conflict_error so injected no packets
    abbrev pub IsCalmWhere : Judged → Type 0
    IsCalmWhere judged = (j : ℕ) → gets_conflict (said (judged_note serial judged)) ms j ≡ true → IsCalmBeside ms j

  -- ---- a sight
  inside_there : suc i ≤ length s.world.initiators
  inside_there = omega (arith, inside)

  abbrev is_new : Bool
  is_new = not (nat_eq s.world.generations.latest.generation (wire.generation (suc i)))

  abbrev SeesSo : Type 0
  SeesSo = AreReset host.operation old.operation host.reads old.states

  sight_by : SeesSo → (w : WorldState) (r : Bool × Layer Purpose) → r.0 ≡ is_new → Ops (handed (suc i) 0 (seen_as r (id_of s.world.generations.latest 0) empty_outbox old).0 w) ≡ seen_notes i is_new host present
  sight_by resets w (false, l) e = own_are (suc i) 0 empty_outbox w [] refl ∙ ap (λ b. seen_notes i b host present) e
  sight_by resets w (true, l) e =
      own_are (suc i) 0 _ w (reset_ops old.number host.operation host.reads ++ drop_note old.number true present) (sight_due (id_of s.world.generations.latest 0) empty_outbox (record old { layer = l }) host present drops resets)
      ∙ sight_kept old.number host.operation host.reads present
      ∙ ap (λ n. reset_ops n host.operation host.reads ++ drop_note n true present) number_is
      ∙ ap (λ b. seen_notes i b host present) e

  -- by the terms it has the same reads under way, where each time-out was timely
  pub same_resets : AreTimely ms → SeesSo
  same_resets timely =
      let pairs = (here.reads i inside).paired in
      let laws = laws_of past s.world stands in
      resets_of ms i old work_is (pairs.pairs (record { serials = laws.serials; sent = laws.sent }) timely)

  pub seen_due : SeesSo → (w : WorldState) → (let g = s.world.generations.latest in Ops (handed (suc i) 0 (see_step g.generation (id_of g (suc i)) (id_of g 0) empty_outbox old).0 w) ≡ host_notes (said (notes.Seen (suc i) g.generation)) ms)
  unfolding see_step
  seen_due resets w = let g = s.world.generations.latest in sight_by resets w (seeing_step old.layer g.generation (id_of g (suc i))) (may_see s.world stands i inside_there)

  -- ---- a time-out
  module _ (serial : ℕ) (request : Request) (found : find s.world.requests serial ≡ Some request) (node_is : request.node ≡ suc i) (w : WorldState) where
    abbrev number : ℕ
    number = request.label.number

    abbrev gen : ℕ
    gen = wire.generation (suc i)

    abbrev v : Transaction
    v = transaction gen (suc i) 0 number

    shown : IsShown ms i old.target old.layer
    shown = shown_now s.world stands here.holds.sound.nodes i inside

    latest : IsLatest s.world.requests wire.ids wire.current wire.bus serial request
    latest = subst (λ (t : Terms). IsLatest s.world.requests t.ids t.current t.bus serial request) (past_terms s.world stands) (stands.is.knows.latest serial request found)

    -- the request that waits under the label is this one
    module _ (purpose : Option Purpose) (l : Layer Purpose) (e : expiring_step old.layer old.target request.label ≡ (Ok purpose, l)) where
      pub there : At old.layer old.target number purpose
      there = expires_at old.layer old.target request.label purpose called_layer (ap (λ (r : Result (Option Purpose) Stale × Layer Purpose). r.0) e)

      pub waiting : Waiting (wire.held v)
      waiting =
          waits_now (wire.held v) there.kind
          (ap (λ g. shape_of (wire.held (transaction g (suc i) 0 number))) (sym shown.generation) ∙ sym (shown.states number) ∙ ap shape there.state)

      awaited : IsAwaited wire v waiting.kind waiting.serial
      awaited =
          subst (λ (t : Terms). IsAwaited t v waiting.kind waiting.serial) (past_terms s.world stands)
          (goes_on.awaited stands.wire v waiting.kind waiting.serial stands.reached (ap (λ (t : Terms). t.held v) (past_terms s.world stands) ∙ waiting.is))

      label_now : request.label.generation ≡ gen
      label_now = names_now old.layer old.target request.label purpose called_layer (ap (λ (r : Result (Option Purpose) Stale × Layer Purpose). r.0) e) ∙ shown.generation

      serial_is : waiting.serial ≡ serial
      serial_is =
          awaited.current
          ∙ ap (λ g. wire.current (transaction g (suc i) 0 number)) (sym label_now)
          ∙ ap (λ n. wire.current (transaction request.label.generation n 0 number)) (sym node_is)
          ∙ ap (λ n. wire.current (transaction request.label.generation request.node n number)) (sym (latest.aimed (omega (arith, node_is))))
          ∙ latest.current_is

      pub from_is : sender_in (wire.sent serial) ≡ Some (suc i)
      from_is =
          ap (λ n. sender_in (wire.sent n)) (sym serial_is) ∙ ap sender_in awaited.sent
          ∙ ap Some (sender_is awaited.packet v number waiting.kind awaited.part awaited.begun)

      pub held_is : wire.held (transaction old.layer.generation (suc i) 0 number) ≡ waits waiting.kind serial
      held_is = ap (λ g. wire.held (transaction g (suc i) 0 number)) shown.generation ∙ waiting.is ∙ ap (waits waiting.kind) serial_is

      late_law : host_notes (said (notes.TimedOut serial)) ms ≡ reply_notes old.number host present (access_at wire serial) serial Expired
      late_law =
          ap (λ so. at_initiator so (λ j. reply_notes j (host_at ms j) (present_list ms j) (access_at wire serial) serial Expired)) from_is
          ∙ ap (λ n. reply_notes n host present (access_at wire serial) serial Expired) (sym number_is)

      -- what is told as it lapses is due
      pub lapse_tells : (t : Call) → Says empty_outbox t (reply_notes old.number host present (access_at wire serial) serial Expired) → Ops (handed (suc i) 0 t.0 w) ≡ host_notes (said (notes.TimedOut serial)) ms
      lapse_tells t says =
          own_are (suc i) 0 t.0 w (reply_notes old.number host present (access_at wire serial) serial Expired) says
          ∙ reply_kept old.number (end_by_answer host serial Expired present) present (gets_stuck host (access_at wire serial) Expired) ∙ sym late_law

    -- what a request that lapses brings is due
    abbrev pub Lapses : Type 0
    Lapses = (purpose : Option Purpose) (l : Layer Purpose) → expiring_step old.layer old.target request.label ≡ (Ok purpose, l)
        → Ops (handed (suc i) 0 (ended_for purpose endings.Expired empty_outbox (called (record old { layer = l }))).0 w) ≡ host_notes (said (notes.TimedOut serial)) ms

    late_by : Lapses → (r : Result (Option Purpose) Stale × Layer Purpose) → expiring_step old.layer old.target request.label ≡ r → (outbox : OutboxState) (state : InitiatorState) → expired_as r empty_outbox old ≡ (true, (outbox, state)) → Ops (handed (suc i) 0 outbox w) ≡ host_notes (said (notes.TimedOut serial)) ms
    late_by lapses (Ok purpose, l) e outbox state f = ap (λ (r : Bool × Call). Ops (handed (suc i) 0 r.1.0 w)) (sym f) ∙ lapses purpose l e
    late_by lapses (Err stale, l) e outbox state f = untrue (ap (λ (r : Bool × Call). r.0) f)

    pub late_due : Lapses → (outbox : OutboxState) (state : InitiatorState) → expire_step request.label empty_outbox old ≡ (true, (outbox, state)) → Ops (handed (suc i) 0 outbox w) ≡ host_notes (said (notes.TimedOut serial)) ms
    unfolding expire_step
    late_due lapses outbox state f = late_by lapses (expiring_step old.layer old.target request.label) refl outbox state f
