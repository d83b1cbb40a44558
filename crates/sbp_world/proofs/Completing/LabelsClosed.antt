-- The label that a response to the target closes is free then, and the request that it answers is the last one under it.
use Rattle.sbp_world.proofs.Words.Std.{arith, ◌≡◌, ◌∙◌, sym, ap, subst, ℕ, ◌&&◌, nat_eq, cond, List, Some, none-some, same_Some}
use Rattle.sbp_world.proofs.Words.Wire.{Finding, IsAwaited, Layer, Moment, Node, Packet, ReplyKind, RowFacts, Sending, Terms, Transaction, bare, bare_after, bare_finding, header_in, judging_step, kind_as, last_for, layer_facts, of_response, shape, shape_of, state_for, terms, transaction}
use Rattle.sbp_world.proofs.Words.Target.{Disk, Purpose}
use Rattle.sbp_world.proofs.Words.Laws.{id_for}
use Rattle.sbp_world.proofs.Words.World.{Stands, WorldState, after, after_all, beginning, begun}
use Rattle.bus_transactions.proofs.Bares.{takes_steps}
use Rattle.bus_transactions.proofs.Facts.{Facts, IsAsked}
use Rattle.bus_transactions.proofs.JudgedStep.{JudgedAs, Responds, judged_step}
use Rattle.bus_transactions.proofs.Places.{Places}
use Rattle.bus_transactions.proofs.Reaches.{goes_on}
use Rattle.bus_transactions.proofs.Steps.{Frees}
use Rattle.label_table.specs.declared.place.LabelState.TheVariants as states
use Rattle.sbp_world.specs.Completing.LabelsFound.{AreClosed, ClosedLaw, Closes, IsResponse}
use Rattle.sbp_world.proofs.Agents.AskedPackets.{above}
use Rattle.sbp_world.proofs.Agents.CrewFirsts.{awaits_same}
use Rattle.sbp_world.proofs.Agents.Management.Holding.{past_terms}
use Rattle.sbp_world.proofs.Agents.Management.Still.{hist}
use Rattle.sbp_world.proofs.Agents.Purposes.{Waits, held_waits, labels, last_bare, state_bare}
use Rattle.sbp_world.proofs.Common.{itself}
use Rattle.sbp_world.proofs.Completing.LabelsPlaces.{IsHolding, holding_everywhere}
use Rattle.sbp_world.proofs.Wire.Bus.{holds}
use Rattle.sbp_world.proofs.Wire.Entered.{number_small}

module _ {start : List Disk} {now : List Moment} (w : WorldState) (h : IsHolding start now w) where
  abbrev stands : Stands h.past w
  stands = h.holds.sound.stands

  abbrev there : List Moment
  there = hist h.past w

  abbrev t : Terms
  t = terms there

  -- the last request of a transaction that waits is its present one
  module _ (u : Transaction) (waiting : Waits (t.held u)) where
    abbrev x : Terms
    x = terms stands.wire.past

    a : IsAwaited x u waiting.kind waiting.serial
    a = goes_on.awaited stands.wire u waiting.kind waiting.serial stands.reached (ap (λ (y : Terms). y.held u) (past_terms w stands) ∙ waiting.is)

    facts : Facts x
    facts = (holds stands.wire stands.reached).facts

    present : IsAsked (x.last u) (x.sent (x.current u)) u
    present = facts.asked u (above (x.current u) (λ z. none-some a.packet (sym facts.zero ∙ ap x.sent (sym (a.current ∙ z)) ∙ a.sent)))

    same_packet : a.packet ≡ present.packet
    same_packet = same_Some a.packet present.packet (sym a.sent ∙ (ap x.sent a.current ∙ present.sent_is))

    sent_is : t.sent waiting.serial ≡ Some a.packet
    sent_is = ap (λ (y : Terms). y.sent waiting.serial) (sym (past_terms w stands)) ∙ a.sent

    last_is : t.last u ≡ Some a.packet.bytes
    last_is = ap (λ (y : Terms). y.last u) (sym (past_terms w stands)) ∙ (present.last_is ∙ ap (λ (q : Sending). Some q.bytes) (sym same_packet))

  module _ (generation : ℕ) (bytes : List ℕ) (p : Packet) (node : ℕ) (response_is : IsResponse w generation bytes p (id_for t 0 node)) where
    abbrev layer : Layer Purpose
    layer = w.target.layer

    abbrev left : Layer Purpose
    left = (judging_step layer generation bytes).1

    abbrev source : ℕ
    source = (header_in p).source

    abbrev number : ℕ
    number = (header_in p).label

    abbrev u : Transaction
    u = transaction (t.generation 0) 0 node number

    abbrev F : RowFacts
    F = layer_facts (bare layer) generation bytes

    places : Places layer.generation (bare layer).peers
    places = subst (λ (l : Node). Places l.generation l.peers) (stands.is.layers_are 0 (omega arith)) ((holds stands.wire stands.reached).nodes 0).places

    responds_by : (r : Finding Purpose × Layer Purpose) → r.0 ≡ of_response p response_is.label response_is.purpose → JudgedAs (bare layer) bytes F (bare_after bare_finding r) → Responds (bare layer) (bare r.1) bytes F p
    responds_by (finding, new) f j = subst (λ (g : Finding Purpose). JudgedAs (bare layer) bytes F (bare_finding g, bare new)) f j

    responds : Responds (bare layer) (bare left) bytes F p
    responds =
        responds_by (judging_step layer generation bytes) response_is.found
        (subst (JudgedAs (bare layer) bytes F) ((takes_steps Purpose).judges layer generation bytes) (judged_step (bare layer) generation bytes places))

    closes : Frees (bare layer) (bare left) source number responds.kind states.Free
    closes = responds.frees

    was : state_for layer.peers (id_for t 0 node) number ≡ states.UnderWay responds.kind closes.serial
    was = ap (λ i. state_for layer.peers i number) (sym response_is.source) ∙ (sym (state_bare layer source number) ∙ closes.was)

    waiting : Waits (t.held u)
    waiting = held_waits (t.held u) responds.kind (sym (ap shape was) ∙ labels h.units h.ready h.has start w h.holds node number)

    is_here : {B : Type 0} (x y : B) → cond (nat_eq source source && nat_eq number number) x y ≡ x
    is_here x y = ap (λ b. cond (b && nat_eq number number) x y) (itself source) ∙ ap (λ b. cond b x y) (itself number)

    free_now : state_for left.peers (id_for t 0 node) number ≡ states.Free
    free_now =
        ap (λ i. state_for left.peers i number) (sym response_is.source)
        ∙ (sym (state_bare left source number) ∙ (closes.shows.states_are source number ∙ is_here states.Free (state_for (bare layer).peers source number)))

    -- the last request under the label, by the layer and by the terms
    last_then : last_for (bare layer).peers source number ≡ t.last u
    last_then =
        ap (λ i. last_for (bare layer).peers i number) response_is.source
        ∙ (ap (λ (x : Terms). last_for (bare layer).peers (x.ids (x.generation 0) node) number) (sym (past_terms w stands))
        ∙ (ap (λ (l : Node). last_for l.peers ((terms stands.wire.past).ids ((terms stands.wire.past).generation 0) node) number) (sym (stands.is.layers_are 0 (omega arith)))
        ∙ (((holds stands.wire stands.reached).nodes 0).lasts_are node number ∙ ap (λ (x : Terms). x.last (transaction (x.generation 0) 0 node number)) (past_terms w stands))))

    last_now : last_for left.peers (id_for t 0 node) number ≡ Some (a u waiting).packet.bytes
    last_now =
        ap (λ i. last_for left.peers i number) (sym response_is.source)
        ∙ (sym (last_bare left source number) ∙ (closes.lasts_are source number ∙ (last_then ∙ last_is u waiting)))

    kind_is : responds.kind ≡ kind_as waiting.kind
    kind_is = awaits_same responds.kind (kind_as waiting.kind) (sym (ap shape was) ∙ (labels h.units h.ready h.has start w h.holds node number ∙ ap shape_of waiting.is))

    is_closed : Closes there left node p
    is_closed = record {
      kind = waiting.kind;
      serial = waiting.serial;
      packet = (a u waiting).packet;
      waited = waiting.is;
      sent = sent_is u waiting;
      part = (a u waiting).part;
      answered = responds.kind_is ∙ ap (λ (k : ReplyKind). Some k) kind_is;
      closed = record { small = number_small (bare layer) source number closes.serial responds.kind places closes.was; free = free_now; last = last_now };
    }

  pub are_closed : AreClosed now w
  are_closed = subst (λ ms. AreClosed ms w) h.is (λ generation bytes p node response_is. is_closed generation bytes p node response_is)

pub closed_law : ClosedLaw
closed_law = record {
  after_lines = λ line run r has small size. are_closed (after (beginning run) run.entries).world (holding_everywhere.after_lines line run r has small size);
  between = λ line run r has small size next most told m. are_closed (after_all told (begun (after (beginning run) run.entries))).world (holding_everywhere.between line run r has small size next most told m);
}
