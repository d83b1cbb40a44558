-- A reply to the target's management is delivered: the blocks that it writes to the FIFOs of an initiator, in the name of a place of management, are of its operation.
use Rattle.sbp_world.proofs.Words.Std.{arith, ◌≡◌, ◌∙◌, refl, sym, ap, subst, ℕ, suc, ◌^◌, ◌<◌, is_some, Bool, true, List, [], ◌∷◌, Option, Some, Ok, same_Some}
use Rattle.sbp_world.proofs.Words.Wire.{LabelParts, Packet, header_in, reading, AreBytes, AreJudged, as_sending, Layer, judging_step, of_response, reply_kind, Sent, found_sent, GenerationsState, node_of, topology_at, judged_note, Moment, said, Sending, Terms, terms}
use Rattle.sbp_world.proofs.Words.Target.{Table, ManagerStep, Operation, Disk, Purpose, Under, NodeState, scene, answer_in, Whole, TransactionLaw}
use Rattle.sbp_world.proofs.Words.Laws.{Target, got_by, is_serial, over, laws_replied, target_at}
use Rattle.sbp_world.proofs.Words.World.{marked, FitsManager, handed_out, told_all, IsOfWire, Stands, WorldState, with_note, with_target, Office, at_rest, office_of, replied, stepped, IsManagementAt, IsClearFifo}
use Rattle.mgmt_agent.specs.Machine as management
use Rattle.sbp_journal.specs.declared.cause.Judged.TheVariants as judgements
use Rattle.sbp_journal.specs.declared.note.Note.TheVariants as notes
use Rattle.sbp_laws.specs.Packets as laws
use Rattle.sbp_target.specs.declared.purpose.Purpose.TheVariants as purposes
use Rattle.sbp_world.proofs.FitTarget.Agents.{BytesIn, FitsAsk}
use Rattle.sbp_world.proofs.FitTarget.Manager.{managed_fits}
use Rattle.sbp_target.proofs.Histories.Calling.{Good, peer_of}
use Rattle.sbp_target.proofs.Histories.Primitives.{closing_known}
use Rattle.sbp_target.proofs.Histories.Rested.{some_that}
use Rattle.sbp_target.proofs.Histories.Seats.{Lives}
use Rattle.sbp_world.proofs.Agents.Management.Asking.{Turned}
use Rattle.sbp_world.proofs.Agents.Management.Delivering.{answer_is, answers_own}
use Rattle.sbp_world.proofs.Agents.Management.Firsts.{got_here, own_idle, own_reply}
use Rattle.sbp_world.proofs.Agents.Management.Hearing.{IsAnswer, answers, label_number}
use Rattle.sbp_world.proofs.Agents.Management.Holding.{handed_judged, marked_hist, was_sent}
use Rattle.sbp_world.proofs.Agents.Management.Idle.{IsIdle, over_idle}
use Rattle.sbp_world.proofs.Agents.Management.Managed.{IsReady}
use Rattle.sbp_world.proofs.Agents.Management.Offices.{over_keeps}
use Rattle.sbp_world.proofs.Agents.Management.Still.{Clock, gets_clock, hist}
use Rattle.sbp_world.proofs.Agents.Management.Told.{office_in, term_in}
use Rattle.sbp_world.proofs.Lists.FifoManages.{F, IsOwn, managing_so}
use Rattle.sbp_world.proofs.Lists.FifoReplies.{IsFifoFrom, fifo_from, reply_unread}
use Rattle.sbp_world.proofs.Lists.ManageReplies.{reply_goes}
use Rattle.sbp_world.proofs.Agents.Management.Delivery.{ready_on, marked_generations}

module _ (given : Type 0) {past : List Moment} (start : List Disk) (w : WorldState) (h : Stands past w) (g : Good w.target) (law : TransactionLaw w.target) (at : IsManagementAt start (hist past w) w.target) (serial : ℕ) (again : Bool) (sent : Sent) (found : found_sent serial w.store.kept ≡ Some sent) (zero_to : sent.to ≡ 0) where
  abbrev t : Terms
  t = terms (hist past w)

  abbrev q : Sending
  q = as_sending sent

  abbrev T : Target
  T = target_at start (hist past w)

  abbrev rested : Office
  rested = at_rest (office_in start past w)

  -- the world with the first note of the delivery
  abbrev pub noted_world : NodeState → WorldState
  noted_world now = with_note (judged_note serial judgements.Got) (marked serial again (with_target now w))

  note_hist : (now : NodeState) → hist past (noted_world now) ≡ said (notes.Got serial) ∷ hist past w
  note_hist now = ap (λ ms. said (notes.Got serial) ∷ ms) (marked_hist past serial again (with_target now w))

  was : t.sent serial ≡ Some q
  was = was_sent w h serial sent found

  over_manages : (over T).manages ≡ (office_in start past w).manages
  over_manages = ap (λ (o : Office). o.manages) (over_keeps T)

  noted_clock : (now : NodeState) → Clock t (terms (hist past (noted_world now)))
  noted_clock now = subst (λ ms. Clock t (terms ms)) (sym (note_hist now)) (gets_clock (t.sent serial) serial t)

  noted_ready : (now : NodeState) (source : ℕ) → IsReady past w source → IsReady past (noted_world now) source
  noted_ready now source r = ready_on past w (noted_world now) source (marked_generations serial again (with_target now w)) (noted_clock now) r

  module _ (p : Packet) (read : reading sent.bytes ≡ Ok p) (some : is_some (reply_kind p) ≡ true) (label : LabelParts) (layer : Layer Purpose) (e : judging_step w.target.layer sent.generation sent.bytes ≡ (of_response p label (Some purposes.Management), layer)) where
    number : label.number ≡ (header_in p).label
    number = label_number w.target.layer layer sent.generation sent.bytes p label (Some purposes.Management) e

    answer_for : (now : NodeState) → AreJudged (hist past (noted_world now)) → IsAnswer t serial q p
    answer_for now j = answers t serial q p was read some ((subst AreJudged (note_hist now) j).0 q was)

    got_is : (now : NodeState) (a : IsAnswer t serial q p) → term_in start past (noted_world now) ≡ laws_replied a.own (laws.answer_in (laws.packet_at t serial)) (over T)
    got_is now a = ap (target_at start) (note_hist now) ∙ got_here start (hist past w) serial q was zero_to ∙ ap (λ own. got_by own t serial (over T)) a.answered

    -- the operation is of the node that replied
    of_source : management.source_in w.target.manager.operation ≡ Some (header_in p).source
    of_source =
        let k = closing_known w.target.layer layer g.lives sent.generation sent.bytes p label (Some purposes.Management) g.mid.known e some in
        g.source ∙ ap (λ (x : Option Under). peer_of x) (some_that g.request (header_in p).source label (g.mid.hand.own (header_in p).source label k.kind k.life))

    abbrev Replies : Type 0
    Replies = ManagerStep × (management.Machine × Table)

    abbrev own_step : Replies
    own_step = management.reply_step w.target.manager w.target.logins w.target.keys (answer_in p)

    step_same : own_step ≡ management.reply_step rested.manager rested.table rested.keys (answer_in p)
    step_same =
        ap (λ y. management.reply_step y w.target.logins w.target.keys (answer_in p)) (sym at.agrees.manager)
        ∙ ap (λ y. management.reply_step rested.manager y w.target.keys (answer_in p)) (sym at.agrees.table)
        ∙ ap (λ y. management.reply_step rested.manager rested.table y (answer_in p)) (sym at.agrees.keys)

    -- the FIFO that its ORB names, as the status block goes there, is in no response buffer
    abbrev pub Aside : Type 0 → Type 0
    Aside those = those → (was : Operation) → w.target.manager.operation ≡ Some was → was.source ≡ (header_in p).source → (at : ℕ) → IsFifoFrom was (answer_in p) at → IsClearFifo at

    -- what is known of it behind the reply
    owned : (those : Type 0) (source : ℕ) → source ≡ (header_in p).source → ((op : Operation) → w.target.manager.operation ≡ Some op → op.orb < 2 ^ 48) → Aside those → (op : Operation) → own_step.1.0.operation ≡ Some op → IsOwn those source (stepped rested (answer_in p) own_step) op
    owned those source source_is small aside op is =
        let k = reply_goes w.target.manager w.target.logins w.target.keys (answer_in p) op is in
        let from : k.was.source ≡ (header_in p).source = same_Some k.was.source (header_in p).source (sym (ap (λ (o : Option Operation). management.source_in o) k.is) ∙ of_source) in
        let low = small k.was k.is in
        let orb = k.orb in
        record {
          source_is = sym k.source ∙ from ∙ sym source_is;
          small = omega (arith, low, orb);
          unread = λ f at len b. reply_unread w.target.manager w.target.logins w.target.keys (answer_in p) g.table.last g.table.sound.size k.was k.is op is f at len b;
          clear = λ y f at len b. aside y k.was k.is from at (fifo_from w.target.manager w.target.logins w.target.keys (answer_in p) k.was k.is op is f at len b);
        }

    module _ {known : ℕ → Type 0} (bytes_in : BytesIn (answer_in p)) (fits : FitsManager known w.target.manager) (small : (op : Operation) → w.target.manager.operation ≡ Some op → op.orb < 2 ^ 48) (gen_is : (topology_at w.generations 0).generation ≡ t.generation 0) (i : ℕ) (x : Whole) (source : ℕ) (old : Lives) (source_is : source ≡ (header_in p).source) (ready : IsReady past w source) (aside : Aside (given × (node_of w.generations 0 source ≡ Some (suc i)))) (turned : Turned (replied (answer_in p) rested) old source [] (scene x.node x.outbox)) (wire : IsOfWire (hist past (handed_out 0 0 x.outbox (noted_world x.node)))) (id_small : x.node.layer.node < 2 ^ 16) (outgoing : AreBytes x.node.manager.outgoing) (told_so : F given start past i (told_all 0 x.outbox.sides (noted_world x.node))) where
      abbrev v : WorldState
      v = noted_world x.node

      answered : IsAnswer t serial q p
      answered = answer_for x.node (handed_judged past 0 0 x.outbox v turned.says.behind wire.judged)

      gen_there : (topology_at v.generations 0).generation ≡ (terms (hist past v)).generation 0
      gen_there = ap (λ (y : GenerationsState). (topology_at y 0).generation) (marked_generations serial again (with_target x.node w)) ∙ gen_is ∙ sym (noted_clock x.node).generation

      -- it goes to the initiator
      abbrev Those : Type 0
      Those = given × ((noted_ready x.node source ready).to ≡ suc i)

      node_there : (noted_ready x.node source ready).to ≡ suc i → node_of w.generations 0 source ≡ Some (suc i)
      node_there e = ap (λ (y : GenerationsState). node_of y 0 source) (sym (marked_generations serial again (with_target x.node w))) ∙ ((noted_ready x.node source ready).there ∙ ap (λ n. Some n) e)

      pub own_so : F given start past i (handed_out 0 0 x.outbox v)
      own_so =
          let a = answered in
          let k = closing_known w.target.layer layer g.lives sent.generation sent.bytes p label (Some purposes.Management) g.mid.known e some in
          let own = answers_own start w h g law at serial sent found zero_to p read a label (Some purposes.Management) k.kind k.life number refl in
          let is_own : is_serial (over T).manages a.own ≡ true = ap (λ n. is_serial n a.own) over_manages ∙ own.own in
          let answer = answer_is start w h g law at serial sent found zero_to p read a label (Some purposes.Management) k.kind k.life number own.no_lock in
          let office : office_in start past v ≡ replied (answer_in p) rested =
          ap office_of (got_is x.node a) ∙ own_reply a.own (laws.answer_in (laws.packet_at t serial)) (over T) is_own
          ∙ ap (λ y. replied y (office_of (over T))) answer ∙ ap (λ y. replied (answer_in p) y) (over_keeps T) in
          let idle : IsIdle (term_in start past v) = subst IsIdle (sym (got_is x.node a)) (own_idle a.own (laws.answer_in (laws.packet_at t serial)) (over T) is_own (over_idle T)) in
          let ask : FitsAsk (replied (answer_in p) rested).asks = subst (λ (r : Replies). FitsAsk r.0.ask) step_same (managed_fits known w.target.manager w.target.logins w.target.keys (answer_in p) bytes_in fits).ask in
          managing_so given start past i x.node v x.outbox (replied (answer_in p) rested) old source turned idle office (noted_ready x.node source ready) gen_there id_small ask outgoing
          (subst (λ (r : Replies). (op : Operation) → r.1.0.operation ≡ Some op → IsOwn Those source (stepped rested (answer_in p) r) op) step_same (owned Those source source_is small (λ y was now from to goes. aside (y.0, node_there y.1) was now from to goes)))
          told_so
