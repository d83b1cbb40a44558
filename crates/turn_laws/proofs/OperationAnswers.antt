-- What answers the request of an operation of the management of an initiator that injected no packets answers it, and is that initiator's own: so where the operation reads its
-- ORB an abort names the very address of a slot.
use Rattle.std.proofs.Common.{◌≡◌, ◌∙◌, refl, sym, ap, subst, ◌<◌, ℕ, suc, Bool, true, false, List, length, Option, Some}
use Rattle.bus_transactions.proofs.Reaches.{goes_on}
use Rattle.bus_transactions.specs.Reached.{IsAwaited}
use Rattle.bus_transactions.specs.Wire.{transaction}
use Rattle.mgmt_agent.specs.Machine.{Machine, source_in}
use Rattle.mgmt_agent.specs.declared.operation.Operation.{Operation}
use Rattle.mgmt_agent.specs.declared.operation.Phase.TheVariants as phases
use Rattle.orb_layout.specs.ManagementOrbs.{management_orb}
use Rattle.orb_layout.specs.Replies.{Payload}
use Rattle.rbc_disk.specs.Disk.{Disk}
use Rattle.sbp_journal.specs.Run.{Moment, said}
use Rattle.sbp_journal.specs.Transactions.{Kind, Part, Sending, Transaction, asked_as, asked_by, begun_by, begun_if, between}
use Rattle.sbp_journal.specs.Wire.{Terms, terms}
use Rattle.sbp_journal.specs.declared.note.Note.TheVariants as notes
use Rattle.sbp_laws.specs.Packets.{answer_in, answered_at, id_for, packet_at, receiver_in}
use Rattle.sbp_laws.specs.Targets.{target_at}
use Rattle.sbp_laws.specs.Turns.{EachMoment}
use Rattle.sbp_world.specs.Agents.Management.Terms.{Awaits, HasRequest}
use Rattle.sbp_world.specs.Lists.Needs.{IsCalm}
use Rattle.sbp_world.specs.Lists.OrbReads.{AnswersAt}
use Rattle.sbp_world.specs.Lists.Placings.{BasedAt}
use Rattle.sbp_world.specs.Lists.ReadOrbs.{IsAnswered}
use Rattle.sbp_world.specs.Lists.Shorts.{AreShort}
use Rattle.sbp_world.specs.Wire.Wires.{Stands}
use Rattle.sbp_world.specs.Worlds.{WorldState}
use Rattle.sbp_world.proofs.Agents.Management.Holding.{Holding, past_terms, same_id}
use Rattle.sbp_world.proofs.Agents.Management.Still.{hist}
use Rattle.sbp_world.proofs.Lists.BegunBy.{IsHeld, held_by}
use Rattle.sbp_world.proofs.Lists.BufferClears.{Ground, few_of, own_at}
use Rattle.sbp_world.proofs.Lists.FedOnce.{IsReply, reply_by}
use Rattle.sbp_world.proofs.Lists.Heard.{awaited_to}
use Rattle.sbp_world.proofs.Lists.KeptTurns.{id_is}
use Rattle.sbp_world.proofs.Lists.ManageTerms.{none_is, same_some}
use Rattle.sbp_world.proofs.Lists.OwnOps.{IsOwnOp}
use Rattle.turn_laws.proofs.AbortExact.{answer_exact}
use Rattle.turn_laws.proofs.AbortPlaced.{IsExact}

-- the node that asks is the one that its request comes from
from_if : (b : Bool) (packet : Sending) (label : ℕ) (u : Transaction) → begun_if b (Some (between packet packet.from packet.to label)) ≡ Some u → packet.from ≡ u.requester
from_if true packet label u e = none_is u e
from_if false packet label u e = let same : between packet packet.from packet.to label ≡ u = cc in ap (λ (x : Transaction). x.requester) same

awaited_from : (x : Terms) (u : Transaction) (kind : Kind) (serial : ℕ) (a : IsAwaited x u kind serial) → a.packet.from ≡ u.requester
unfolding begun_by asked_by
awaited_from x u kind serial a = from_if a.packet.injected a.packet u.label u (sym (ap (λ (p : Part). begun_if a.packet.injected (asked_as p a.packet)) a.part) ∙ a.begun)

module _ (units ready : ℕ) (more_units : 0 < units) (start : List Disk) {past : List Moment} {lines : ℕ} (w : WorldState) (h : Holding units ready start past lines w) (g : Ground start (hist past w) w) (i : ℕ) (inside : i < length w.initiators) (calm : IsCalm (hist past w) i) (shorts : AreShort (hist past w)) (based : EachMoment (BasedAt i) (hist past w)) (op : Operation) (is : (target_at start (hist past w)).manager.operation ≡ Some op) (of : op.source ≡ id_for (terms (hist past w)) 0 (suc i)) where
  abbrev before : List Moment
  before = hist past w

  abbrev t : Terms
  t = terms before

  abbrev stands : Stands past w
  stands = h.sound.stands

  there : w.target.manager.operation ≡ Some op
  there = ap (λ (m : Machine). m.operation) (sym h.at.agrees.manager) ∙ is

  own_op : IsOwnOp start before i op
  own_op = own_at units ready more_units start w h g i inside calm shorts based op there (of ∙ id_is units ready more_units start w h i inside)

  module _ (serial own : ℕ) (closed : answered_at t serial ≡ Some own) (manages : (target_at start before).manages ≡ Some own) where
    -- its request went to that initiator, and its answer comes from there
    request : HasRequest t w.target.layer op.source (target_at start before).manages
    request = subst (λ (s : Option ℕ). Awaits t w.target.layer s (target_at start before).manages) (ap source_in there) h.at.awaits

    request_is : request.serial ≡ own
    request_is = same_some request.serial own (sym request.manages_is ∙ manages)

    reply : IsReply t serial own
    reply = reply_by t serial own (t.sent serial) refl closed

    abbrev q : Sending
    q = reply.packet

    abbrev u : Transaction
    u = between q q.to q.from reply.label

    held : IsHeld (t.held u) own
    held = held_by (t.held u) reply.kind own reply.closes

    awaited : IsAwaited (terms stands.wire.past) u held.kind own
    awaited = goes_on.awaited stands.wire u held.kind own stands.reached (ap (λ (y : Terms). y.held u) (past_terms w stands) ∙ held.is)

    abbrev asking : Sending
    asking = awaited.packet

    asking_sent : t.sent own ≡ Some asking
    asking_sent = ap (λ (y : Terms). y.sent own) (sym (past_terms w stands)) ∙ awaited.sent

    goes_to : receiver_in (t.sent own) ≡ Some q.from
    goes_to = ap (λ (y : Terms). receiver_in (y.sent own)) (sym (past_terms w stands)) ∙ awaited_to (terms stands.wire.past) u held.kind own awaited

    abbrev v : Transaction
    v = transaction (t.generation 0) 0 request.peer request.number

    awaited_there : IsAwaited (terms stands.wire.past) v request.kind request.serial
    awaited_there = goes_on.awaited stands.wire v request.kind request.serial stands.reached (ap (λ (y : Terms). y.held v) (past_terms w stands) ∙ request.waits_for)

    asked_from : asking.from ≡ 0
    asked_from =
        let sent : t.sent own ≡ Some awaited_there.packet = subst (λ r. t.sent r ≡ Some awaited_there.packet) request_is (ap (λ (y : Terms). y.sent request.serial) (sym (past_terms w stands)) ∙ awaited_there.sent) in
        ap (λ (x : Sending). x.from) (same_some asking awaited_there.packet (sym asking_sent ∙ sent)) ∙ awaited_from (terms stands.wire.past) v request.kind request.serial awaited_there

    goes_there : receiver_in (t.sent own) ≡ Some request.peer
    goes_there = subst (λ r. receiver_in (t.sent r) ≡ Some request.peer) request_is (ap (λ (y : Terms). receiver_in (y.sent request.serial)) (sym (past_terms w stands)) ∙ awaited_to (terms stands.wire.past) v request.kind request.serial awaited_there)

    comes_from : q.from ≡ suc i
    comes_from = same_some q.from request.peer (sym goes_to ∙ goes_there) ∙ same_id w stands request.peer (suc i) (request.peer_is ∙ of)

    asked_to : asking.to ≡ suc i
    asked_to = same_some asking.to q.from (sym (ap receiver_in asking_sent) ∙ goes_to) ∙ comes_from

    module _ (fair : t.injects 0 ≡ false) (answers : AnswersAt (said (notes.Got serial)) before) (bytes : List ℕ) (pays : answer_in (packet_at t serial) ≡ Payload bytes) where
      answered : IsAnswered before i serial own bytes
      answered = record {
        own = λ packet sent.
            let same : packet ≡ q = same_some packet q (sym sent ∙ reply.sent) in
            g.known.wrote.none i inside calm serial packet sent (ap (λ (x : Sending). x.from) same ∙ comes_from);
        answers = answers own closed asking asking_sent (subst (λ n. t.injects n ≡ false) (sym asked_from) fair) (subst (λ n. t.injects n ≡ false) (sym asked_to) calm);
        of_initiator = goes_to ∙ ap (λ n. Some n) comes_from;
        tells = pays;
      }

      -- it brings such an ORB
      pub brings_exact : op.phase ≡ phases.Orb → IsExact (management_orb bytes)
      brings_exact phase =
          answer_exact start before i (few_of units ready more_units start w h g i inside calm shorts based) g.known.counts g.known.are (g.known.places i inside) shorts op is own_op own manages phase serial bytes answered
