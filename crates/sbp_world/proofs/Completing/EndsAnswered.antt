-- At a place: a packet that the target gets, and that answers the request its management operation waits for, is found to be a response to that operation. So it is whole where each such response is, and one to a status block
-- answers a write of the initiator to which that went.
use Rattle.sbp_world.proofs.Words.Std.{arith, ◌≡◌, ◌≢◌, ◌∙◌, refl, sym, ap, subst, ◌<◌, ℕ, is_some, Bool, true, false, cond, List, Option, Some, None, Ok, false≢true, same_Some}
use Rattle.sbp_world.proofs.Words.Wire.{Access, Finding, Held, Kind, LabelParts, Layer, Moment, Node, Packet, Sending, Sent, SerialsCount, Terms, Transaction, IsAwaited, as_sending, between, found_sent, free, header_in, is_same_kind, judging_step, of_again, of_generation, of_grammar, of_label, of_request, of_response, part_in, part_of, reading, reply_kind, request, response, rests, terms, waits}
use Rattle.sbp_world.proofs.Words.Target.{Disk, Held as Media, Operation, Purpose, Told, TransactionLaw, received, received_as, with_layer}
use Rattle.sbp_world.proofs.Words.Laws.{access_in, access_in_bytes, answered_at, is_serial, packet_at, packet_in, receiver_in, sender_in, target_at}
use Rattle.sbp_world.proofs.Words.World.{AreAsked, Stands, WasAsked, WorldState, whole_of}
use Rattle.bus_transactions.proofs.PacketParts.{PartOf, asks, part_case, part_read, replies}
use Rattle.bus_transactions.proofs.Reaches.{goes_on}
use Rattle.mgmt_agent.specs.Machine.{Machine}
use Rattle.mgmt_agent.specs.declared.operation.Phase.TheVariants as phases
use Rattle.sbp_journal.specs.declared.cause.Cause.TheVariants as causes
use Rattle.sbp_journal.specs.declared.cause.Judged.TheVariants as judgements
use Rattle.sbp_laws.specs.Packets as laws
use Rattle.sbp_target.specs.declared.purpose.Purpose.TheVariants as purposes
use Rattle.sbp_target.proofs.Histories.Calling.{Good}
use Rattle.sbp_target.proofs.Histories.Found.{IsFound, found as found_as}
use Rattle.sbp_target.proofs.Histories.Primitives.{closing_known}
use Rattle.sbp_world.specs.Completing.Managed.{AreManagedGiven}
use Rattle.sbp_world.specs.Completing.OperationsReplies.{IsWhole}
use Rattle.sbp_world.proofs.Agents.Management.Delivering.{answer_is, answers_own, is_other}
use Rattle.sbp_world.proofs.Agents.Management.Hearing.{IsAnswer, label_in, label_number, response_current}
use Rattle.sbp_world.proofs.Agents.Management.Holding.{Holding, good_of, law_of, past_terms}
use Rattle.sbp_world.proofs.Agents.Management.Still.{hist}
use Rattle.sbp_world.proofs.Lists.ContentManages.{bound}
use Rattle.sbp_world.proofs.Lists.FedOnce.{IsReply, reply_by}
use Rattle.sbp_world.proofs.Lists.Heard.{awaited_to}
use Rattle.sbp_world.proofs.Lists.Judging.{counts_at}
use Rattle.sbp_world.proofs.Lists.ManageGot.{IsWriting, writing_in}
use Rattle.sbp_world.proofs.Lists.OfficeWrites.{awaited_from}
use Rattle.sbp_world.proofs.Lists.OrbsRead.{access_there, in_phase, sender_there}
use Rattle.sbp_world.proofs.Wire.Bus.{holds}
use Rattle.sbp_world.proofs.Common.{itself}

-- what a response closes
pub record IsClosed (held : Held) (kind : Kind) (own : ℕ) : Type 0 where
  pub waited : Kind
  pub is : held ≡ waits waited own
  pub alike : is_same_kind waited kind ≡ true

closed_if : (b : Bool) (k kind : Kind) (s own : ℕ) → is_same_kind k kind ≡ b → cond b (Some s) None ≡ Some own → IsClosed (waits k s) kind own
closed_if true k kind s own e f = record { waited = k; is = ap (waits k) (same_Some s own f); alike = e }
closed_if false k kind s own e f = absurd (let no : None ≡ Some own = f in cc)

closed_as : (held : Held) (kind : Kind) (own : ℕ) → laws.closed_by held kind ≡ Some own → IsClosed held kind own
closed_as (waits k s) kind own e = closed_if (is_same_kind k kind) k kind s own refl e
closed_as free kind own e = absurd (let no : None ≡ Some own = e in cc)
closed_as rests kind own e = absurd (let no : None ≡ Some own = e in cc)

module _ (units ready : ℕ) (has : 0 < units) (start : List Disk) {past : List Moment} {lines : ℕ} (w : WorldState) (h : Holding units ready start past lines w) (are : AreAsked start (hist past w)) (serial own : ℕ) (closed : answered_at (terms (hist past w)) serial ≡ Some own) (manages : (target_at start (hist past w)).manages ≡ Some own) (op : Operation) (operation : (target_at start (hist past w)).manager.operation ≡ Some op) where
  abbrev pub before : List Moment
  before = hist past w

  abbrev pub t : Terms
  t = terms before

  pub stands : Stands past w
  stands = h.sound.stands

  counts : SerialsCount before
  counts = counts_at w stands

  pub reply : IsReply t serial own
  reply = reply_by t serial own (t.sent serial) refl closed

  abbrev pub q : Sending
  q = reply.packet

  abbrev pub u : Transaction
  u = between q q.to q.from reply.label

  pub waiting : IsClosed (t.held u) reply.kind own
  waiting = closed_as (t.held u) reply.kind own reply.closes

  -- ---- the request that it answers
  was : WasAsked start before own op
  was = are.each own op (((bound start before counts).own own manages).0 ∙ operation)

  pub awaited : IsAwaited (terms stands.wire.past) u waiting.waited own
  awaited = goes_on.awaited stands.wire u waiting.waited own stands.reached (ap (λ (x : Terms). x.held u) (past_terms w stands) ∙ waiting.is)

  abbrev pub asking : Sending
  asking = awaited.packet

  pub asking_sent : t.sent own ≡ Some asking
  asking_sent = ap (λ (x : Terms). x.sent own) (sym (past_terms w stands)) ∙ awaited.sent

  pub to_target : q.to ≡ 0
  to_target =
      let asked_from : asking.from ≡ 0 = same_Some asking.from 0 (sym (ap sender_in asking_sent) ∙ sender_there start before counts own op was) in
      sym (awaited_from (terms stands.wire.past) u waiting.waited own awaited) ∙ asked_from

  pub asked_to : asking.to ≡ q.from
  asked_to = same_Some asking.to q.from (sym (ap receiver_in asking_sent) ∙ (ap (λ (x : Terms). receiver_in (x.sent own)) (sym (past_terms w stands)) ∙ awaited_to (terms stands.wire.past) u waiting.waited own awaited))

  -- a status block is written
  pub status_writes : op.phase ≡ phases.Status → IsWriting asking.bytes
  status_writes phase =
      let c = in_phase op.phase phases.Status op was.access phase was.content in
      let spelled : access_in_bytes asking.bytes ≡ Some was.access = ap (λ so. access_in (packet_in so)) (sym asking_sent) ∙ access_there start before counts own op was in
      writing_in asking.bytes was.access spelled (ap (λ (x : Access). x.is_write) c.1.1)

  -- ---- what the target finds it to be
  module _ (sent : Sent) (found : found_sent serial w.store.kept ≡ Some sent) (to_is : sent.to ≡ 0) (sending : q ≡ as_sending sent) where
    abbrev Q : Sending
    Q = as_sending sent

    abbrev layer : Layer Purpose
    layer = w.target.layer

    abbrev now : Layer Purpose
    now = (judging_step layer sent.generation sent.bytes).1

    G : Good w.target
    G = good_of units ready h.calls w.target has h.made

    L : TransactionLaw w.target
    L = law_of units ready h.calls w.target has h.made

    part_is : part_of sent.bytes ≡ response reply.label reply.kind
    part_is = subst (λ (x : Sending). part_of x.bytes ≡ response reply.label reply.kind) sending reply.part

    -- no request
    no_request : (p : Packet) → reading sent.bytes ≡ Ok p → is_some (reply_kind p) ≡ false → ⊥
    no_request p read none = by (part_case p)
      where
        there : part_in p ≡ response reply.label reply.kind
        there = sym (part_read sent.bytes p read) ∙ part_is

        by : PartOf p → ⊥
        by (asks l k part no_kind) = let no : request l k ≡ response reply.label reply.kind = sym part ∙ there in cc
        by (replies l k part kind) = false≢true (sym none ∙ ap (λ o. is_some o) kind)

    module _ (p : Packet) (read : reading sent.bytes ≡ Ok p) (kind : is_some (reply_kind p) ≡ true) (label : LabelParts) (purpose : Option Purpose) (e : (judging_step layer sent.generation sent.bytes).0 ≡ of_response p label purpose) where
      judged : judging_step layer sent.generation sent.bytes ≡ (of_response p label purpose, now)
      judged = ap (λ (f : Finding Purpose). (f, now)) e

      number_is : reply.label ≡ (header_in p).label
      number_is = label_in p reply.label reply.kind (sym (part_read sent.bytes p read) ∙ part_is)

      generation_is : layer.generation ≡ t.generation 0
      generation_is =
          sym (ap (λ (l : Node). l.generation) (stands.is.layers_are 0 (omega arith)))
          ∙ (((holds stands.wire stands.reached).nodes 0).generation ∙ ap (λ (x : Terms). x.generation 0) (past_terms w stands))

      held_is : t.held (between Q Q.to Q.from reply.label) ≡ waits waiting.waited own
      held_is = subst (λ (x : Sending). t.held (between x x.to x.from reply.label) ≡ waits waiting.waited own) sending waiting.is

      a : IsAnswer t serial Q p
      a = record {
        kind = reply.kind;
        own = own;
        waited = waiting.waited;
        part = part_is ∙ ap (λ n. response n reply.kind) number_is;
        current = response_current layer now sent.generation sent.bytes p label purpose judged ∙ (generation_is ∙ ap t.generation (sym to_is));
        held = subst (λ n. t.held (between Q Q.to Q.from n) ≡ waits waiting.waited own) number_is held_is;
        alike = waiting.alike;
        answered = closed;
      }

      number : label.number ≡ (header_in p).label
      number = label_number layer now sent.generation sent.bytes p label purpose judged

      -- it is for the operation
      other : purpose ≢ Some purposes.Management → ⊥
      unfolding a
      other n =
          let k = closing_known layer now G.lives sent.generation sent.bytes p label purpose G.mid.known judged kind in
          let none = is_other start w stands G L h.at serial sent found to_is p read a label purpose k.kind k.life number n in
          false≢true (sym none ∙ (ap (λ m. is_serial m own) manages ∙ itself own))

      module _ (given : AreManagedGiven w) (mine : purpose ≡ Some purposes.Management) where
        whole_by : IsWhole op.phase (laws.answer_in (packet_at t serial))
        whole_by =
            let k = closing_known layer now G.lives sent.generation sent.bytes p label purpose G.mid.known judged kind in
            let own_answer = answers_own start w stands G L h.at serial sent found to_is p read a label purpose k.kind k.life number mine in
            let same = answer_is start w stands G L h.at serial sent found to_is p read a label purpose k.kind k.life number own_answer.no_lock in
            let there = ap (λ (m : Machine). m.operation) (sym h.at.agrees.manager) ∙ operation in
            subst (IsWhole op.phase) (sym same)
            (given sent p (record { comes = record { serial = serial; found = found; to = to_is }; label = label; found = e ∙ ap (λ x. of_response p label x) mine }) op there)

    module _ (given : AreManagedGiven w) (run : Option Told) (media : Media) where
      abbrev Whole : Type 0
      Whole = IsWhole op.phase (laws.answer_in (packet_at t serial))

      by_purpose : (p : Packet) → reading sent.bytes ≡ Ok p → is_some (reply_kind p) ≡ true → (label : LabelParts) (purpose : Option Purpose) → (judging_step layer sent.generation sent.bytes).0 ≡ of_response p label purpose → Whole
      by_purpose p read kind label None e = absurd (other p read kind label None e (λ f. cc))
      by_purpose p read kind label (Some (purposes.Agent place)) e = absurd (other p read kind label (Some (purposes.Agent place)) e (λ f. cc))
      by_purpose p read kind label (Some purposes.Management) e = whole_by p read kind label (Some purposes.Management) e given refl
      by_purpose p read kind label (Some purposes.Unsolicited) e = absurd (other p read kind label (Some purposes.Unsolicited) e (λ f. cc))

      by_finding : (f : Finding Purpose) → (judging_step layer sent.generation sent.bytes).0 ≡ f → IsFound f layer now sent.bytes → (received_as run sent.bytes f (with_layer now (whole_of w.target media))).0 ≡ judgements.Got → Whole
      by_finding of_generation e x j = absurd (let no : judgements.Ignored causes.Generation ≡ judgements.Got = j in cc)
      by_finding of_grammar e x j = absurd (let no : judgements.Ignored causes.Grammar ≡ judgements.Got = j in cc)
      by_finding of_label e x j = absurd (let no : judgements.Ignored causes.Label ≡ judgements.Got = j in cc)
      by_finding (of_again p rcode) e x j = absurd (let no : judgements.Ignored causes.Again ≡ judgements.Got = j in cc)
      by_finding (of_request p) e x j = absurd (no_request p x.1.read x.1.kind)
      by_finding (of_response p label purpose) e x j = by_purpose p x.read x.kind label purpose e

      pub is_whole : (received run sent.generation sent.bytes (whole_of w.target media)).0 ≡ judgements.Got → Whole
      unfolding received
      is_whole j = by_finding (judging_step layer sent.generation sent.bytes).0 refl (found_as layer sent.generation sent.bytes) j
