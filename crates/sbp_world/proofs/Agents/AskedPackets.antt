-- In a world the packet under whose label a desk waits is the request that left for it.
use Rattle.sbp_world.proofs.Words.Std.{arith, ◌≡◌, ◌∙◌, refl, sym, ap, subst, inl, inr, ℕ, zero, suc, ◌&&◌, ◌<◌, Bool, true, List, [], ◌∷◌, length, Option, Some, same_Some, none-some}
use Rattle.sbp_world.proofs.Words.Wire.{bare, FitsRequest, IsAwaited, Node, transaction, Body, Layer, last_for, request_of, Access, Moment, Sending, Transaction, Held, Terms, terms, waits, Outgoing}
use Rattle.sbp_world.proofs.Words.Target.{Disk, Purpose, Sent, agent_body, packets_after, NodeState}
use Rattle.sbp_world.proofs.Words.Initiator.{Ask, Write}
use Rattle.sbp_world.proofs.Words.Laws.{access_at, access_in, access_in_bytes, begun_in, is_under_way, is_waiting_for, packet_in, receiver_in, sender_in, waits_for}
use Rattle.sbp_world.proofs.Words.World.{WorldState, Stands, AllAsk, Left, IsAccessFor}
use Rattle.bus_transactions.proofs.Facts.{AskedBy, Facts, IsAsked, asked_is, begun_asked}
use Rattle.bus_transactions.proofs.Reaches.{goes_on}
use Rattle.label_table.specs.History as wire
use Rattle.sbp_target.specs.declared.purpose.Purpose.TheVariants as purposes
use Rattle.sbp_world.proofs.FitTarget.Nodes.{IfBody}
use Rattle.sbp_world.proofs.Wire.Bus.{holds}
use Rattle.sbp_world.proofs.Wire.Holding.{KnownTo, known_small}
use Rattle.sbp_target.specs.Histories.Layers.{IsRun}
use Rattle.sbp_target.proofs.Histories.Calling.{Good}
use Rattle.sbp_target.proofs.Histories.Made.{runs}
use Rattle.sbp_target.proofs.Histories.Seats.{IsFor as IsForLife}
use Rattle.sbp_world.proofs.Agents.Management.Holding.{Holding, past_terms}
use Rattle.sbp_world.proofs.Agents.Management.Still.{hist}
use Rattle.sbp_world.specs.Agents.Asked.{IsFor}
use Rattle.sbp_world.specs.Agents.Purposes.{HasRequest}
use Rattle.sbp_world.proofs.Agents.AskedBytes.{is_asked_for, reads_back}
use Rattle.sbp_world.proofs.Agents.BesideCalls.{all_ask}
use Rattle.sbp_world.proofs.Agents.Fresh.{lives_of}
use Rattle.sbp_world.proofs.Agents.Known.{life_waits}
use Rattle.sbp_world.proofs.Agents.LastAsked.{Among, are_latest}
use Rattle.sbp_world.proofs.Agents.Purposes.{g, label_generation, state_is}
use Rattle.sbp_world.proofs.Common.{itself}

-- ---- the packet that left
pub record Leaving (packets : List Outgoing) (sent : Sent) (body : Option Body) : Type 0 where
  pub packet : Outgoing
  pub among : Among packets packet
  pub is : IsFor sent body packet

pub left_is : (packets : List Outgoing) (sent : Sent) (body : Option Body) → Left packets sent body → Leaving packets sent body
left_is [] sent body h = absurd h
left_is (packet ∷ packets) sent body (inl i) = record { packet = packet; among = inl refl; is = i }
left_is (packet ∷ packets) sent body (inr h) = let l = left_is packets sent body h in record { packet = l.packet; among = inr l.among; is = l.is }

pub above : (n : ℕ) → (n ≡ 0 → ⊥) → 0 < n
above zero h = absurd (h refl)
above (suc n) h = omega arith

-- the request with a serial, to a node, for what is asked
pub record Asked (wire : Terms) (serial node : ℕ) (ask : Ask) (is_status : Bool) (fifo : ℕ) (outgoing : List ℕ) : Type 0 where
  pub from : sender_in (wire.sent serial) ≡ Some 0
  pub to : receiver_in (wire.sent serial) ≡ Some node
  pub under_way : is_under_way wire serial ≡ true
  pub access : Access
  pub is : access_at wire serial ≡ Some access
  pub asks : IsAccessFor ask is_status fifo access
  pub payload : access.is_write ≡ true → access.payload ≡ outgoing

module _ (units ready : ℕ) (has : 0 < units) (start : List Disk) {past : List Moment} {lines : ℕ} (w : WorldState) (h : Holding units ready start past lines w) where
  abbrev stands : Stands past w
  stands = h.sound.stands

  abbrev G : Good w.target
  G = g units ready has start w h

  abbrev t : Terms
  t = terms (hist past w)

  abbrev layer : Layer Purpose
  layer = w.target.layer

  abbrev pub packets : List Outgoing
  packets = packets_after units ready h.calls

  -- what the desks wait for is among all that the target has handed out, and this is the last request under its label
  pub asks : AllAsk packets w.target
  asks = subst (AllAsk packets) h.made (all_ask units ready h.calls has)

  run : IsRun 0xffc0 layer packets
  run = subst (λ (n : NodeState). IsRun 0xffc0 n.layer packets) h.made (runs units ready h.calls)

  module _ (place : ℕ) (sent : Sent) (f : IsForLife G.lives (purposes.Agent place) sent) (known : KnownTo w.generations.seen sent.peer) where
    last_is : (packet : Outgoing) → Among packets packet → packet.to ≡ sent.peer → packet.label ≡ Some sent.label → last_for (bare layer).peers sent.peer sent.label.number ≡ Some packet.bytes
    last_is packet m to label =
        let r = run in
        let waited = life_waits r.steps layer r.layer_is sent.peer sent.label f.kind (label_generation units ready has start w h place sent f known) (state_is units ready has start w h place sent f known) in
        let latest = (are_latest r.steps).latest packet sent.label (subst (λ (ps : List Outgoing). Among ps packet) r.packets_are m) label in
        subst (λ (l : Layer Purpose). last_for (bare l).peers sent.peer sent.label.number ≡ Some packet.bytes) r.layer_is
        (subst (λ p. wire.IsUnderWay (lives_of r.steps p sent.label) → last_for (bare (wire.after 0xffc0 r.steps)).peers p sent.label.number ≡ Some packet.bytes) to latest waited)

    -- ---- its packet on the wire
    module _ (r : HasRequest t w.requests sent) where
      abbrev x : Terms
      x = terms stands.wire.past

      abbrev number : ℕ
      number = sent.label.number

      abbrev u : Transaction
      u = transaction (x.generation 0) 0 r.peer number

      waiting : x.held u ≡ waits r.kind r.serial
      waiting = ap (λ (y : Terms). y.held (transaction (y.generation 0) 0 r.peer number)) (past_terms w stands) ∙ r.waits_for

      a : IsAwaited x u r.kind r.serial
      a = goes_on.awaited stands.wire u r.kind r.serial stands.reached waiting

      facts : Facts x
      facts = (holds stands.wire stands.reached).facts

      asked : IsAsked (x.last u) (x.sent (x.current u)) u
      asked = facts.asked u (above (x.current u) (λ z. none-some a.packet (sym facts.zero ∙ ap x.sent (sym (a.current ∙ z)) ∙ a.sent)))

      same : a.packet ≡ asked.packet
      same = same_Some a.packet asked.packet (sym a.sent ∙ ap x.sent a.current ∙ asked.sent_is)

      small : number < 64
      small = (stands.is.knows.latest r.serial (request_of 0 sent.peer sent.label) r.found).number_small

      by : AskedBy a.packet u
      by = asked_is a.packet u (begun_asked a.packet u a.begun).1

      -- the last request under its label, by the wire and by the layer
      wire_last : (bytes : List ℕ) → last_for (bare layer).peers sent.peer number ≡ Some bytes → x.last u ≡ Some bytes
      wire_last bytes e =
          let here : x.ids (x.generation 0) r.peer ≡ sent.peer = ap (λ (y : Terms). y.ids (y.generation 0) r.peer) (past_terms w stands) ∙ r.peer_is in
          sym (((holds stands.wire stands.reached).nodes 0).lasts_are r.peer number)
          ∙ ap (λ (l : Node). last_for l.peers (x.ids (x.generation 0) r.peer) number) (stands.is.layers_are 0 (omega arith))
          ∙ ap (λ i. last_for (bare layer).peers i number) here
          ∙ e

      bytes_are : (packet : Outgoing) → Among packets packet → packet.to ≡ sent.peer → packet.label ≡ Some sent.label → a.packet.bytes ≡ packet.bytes
      bytes_are packet m to label =
          ap (λ (q : Sending). q.bytes) same ∙ same_Some asked.packet.bytes packet.bytes (sym asked.last_is ∙ wire_last packet.bytes (last_is packet m to label))

      under_way : is_under_way x r.serial ≡ true
      under_way =
          ap (λ (o : Option Sending). waits_for x (begun_in o) r.serial) a.sent
          ∙ ap (λ (o : Option Transaction). waits_for x o r.serial) a.begun
          ∙ ap (λ (b : Bool). b && is_waiting_for (x.held u) r.serial) (itself (x.generation 0))
          ∙ ap (λ (o : Held). is_waiting_for o r.serial) waiting
          ∙ itself r.serial

      -- ---- it asks for what was asked
      module _ (ask : Ask) (is_status : Bool) (fifo : ℕ) (outgoing : List ℕ) (fits : IfBody (agent_body ask is_status fifo outgoing)) (sized : (offset size : ℕ) → ask ≡ Write offset size → length outgoing ≡ size) where
        pub asked_by : Leaving packets sent (agent_body ask is_status fifo outgoing) → Asked x r.serial r.peer ask is_status fifo outgoing
        asked_by l =
            let i = l.is in
            let fit : FitsRequest i.asked = subst IfBody i.is fits in
            let found = is_asked_for number i.node sent.peer ask is_status fifo outgoing i.asked sized i.is in
            record {
              from = ap sender_in a.sent ∙ ap (λ n. Some n) (ap (λ (z : Transaction). z.requester) (sym by.is));
              to = ap receiver_in a.sent ∙ ap (λ n. Some n) (ap (λ (z : Transaction). z.responder) (sym by.is));
              under_way = under_way;
              access = found.access;
              is = ap (λ (o : Option Sending). access_in (packet_in o)) a.sent
                  ∙ ap access_in_bytes (bytes_are l.packet l.among i.to i.under)
                  ∙ reads_back i.node sent.peer number i.asked l.packet.bytes (known_small w.generations.seen sent.peer known) small fit i.spelled
                  ∙ found.is;
              asks = found.asks;
              payload = found.payload;
            }
