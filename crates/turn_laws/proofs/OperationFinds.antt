-- The request that the management operation has in a turn finds a label exactly where the laws say so, by the terms behind the first note of the turn: behind a response that the target
-- got, whose transaction is closed then, and behind a request, which is still to be answered.
use Rattle.std.proofs.Common.{arith, ◌≡◌, ◌∙◌, refl, sym, ap, subst, ℕ, suc, ◌+◌, ◌^◌, ◌<◌, ◌≤◌, is_some, Bool, false, List, ◌∷◌, length, Option, Some, None, Ok}
use Rattle.sbp_base.specs.Update.{upd}
use Rattle.async_packet.specs.Canon.{IsValid}
use Rattle.async_packet.specs.Labels.{LabelParts}
use Rattle.async_packet.specs.Packet.{Packet}
use Rattle.async_packet.specs.Reading.{reading}
use Rattle.bus_transactions.specs.Bare.{bare, bare_finding}
use Rattle.bus_transactions.specs.Fitting.{FitsRequest}
use Rattle.bus_transactions.specs.Wire.{Node, as_sending, due_for, first_note}
use Rattle.bus_transactions.proofs.Fits.{request_fits}
use Rattle.label_table.specs.Bodies.{Body, header_to, request_with}
use Rattle.label_table.specs.declared.judgement.Asked.{Asked}
use Rattle.label_table.specs.Layer.{Finding, Layer, asking_step, judging_step, of_response}
use Rattle.label_table.specs.Requests.{reply_kind}
use Rattle.packet_store.specs.declared.sent.Sent.{Sent}
use Rattle.packet_store.specs.Kept.{found_sent}
use Rattle.rbc_disk.specs.Disk.{Disk}
use Rattle.sbp_bus.specs.Generations.{GenerationsState, id_of, topology_at}
use Rattle.sbp_journal.specs.Outgoings.{OutboxState}
use Rattle.sbp_journal.specs.Run.{Moment, said}
use Rattle.sbp_journal.specs.Transactions.{Kind, Sending, Transaction, asked_by, part_of, request}
use Rattle.sbp_journal.specs.Wire.{Terms, arrives, gets, gets_as, is_news, is_served, judges, terms}
use Rattle.sbp_journal.specs.declared.note.Note.TheVariants as notes
use Rattle.sbp_laws.specs.Packets.{finds_label, id_for, label_for}
use Rattle.sbp_target.specs.declared.purpose.Purpose.{Purpose}
use Rattle.sbp_target.specs.declared.purpose.Purpose.TheVariants as purposes
use Rattle.sbp_world.specs.Delivering.{marked}
use Rattle.sbp_world.specs.Handing.{handed_out}
use Rattle.sbp_world.specs.Wire.Wires.{Stands, StandsAt, layers_of}
use Rattle.sbp_world.specs.Worlds.{Scene, WorldState, with_note}
use Rattle.sbp_world.proofs.Agents.CrewFirsts.{asks_part}
use Rattle.sbp_world.proofs.Agents.Management.Holding.{known_id, marked_hist, was_sent}
use Rattle.sbp_world.proofs.Agents.Management.Still.{hist}
use Rattle.sbp_world.proofs.Wire.Alike.{IsAlike}
use Rattle.sbp_world.proofs.Wire.Asks.{upd_own}
use Rattle.sbp_world.proofs.Wire.Bus.{holds}
use Rattle.sbp_world.proofs.Wire.Deliver.{judged_marked}
use Rattle.sbp_world.proofs.Wire.Holding.{latest_small}
use Rattle.sbp_world.proofs.Wire.Nodes.{marked_alike}
use Rattle.turn_laws.proofs.Flown.{got_flies}
use Rattle.turn_laws.proofs.RequestLabels.{AreOf, bytes_at, finds_at}
use Rattle.turn_laws.proofs.Operators.{IsOperator}
use Rattle.turn_laws.proofs.Places.{Place}

-- ---- a request that is got changes no label of its receiver
judged_finds : (began : Option Transaction) (s : ℕ) (q : Sending) (t : Terms) (peer : ℕ) (body : Body) → finds_label (judges began None s q (is_served s (is_news s (arrives s t)))) 0 peer body ≡ finds_label t 0 peer body
unfolding label_for
judged_finds None s q t peer body = refl
judged_finds (Some u) s q t peer body = refl

got_finds : (s label : ℕ) (kind : Kind) (q : Sending) (t : Terms) (peer : ℕ) (body : Body) → t.sent s ≡ Some q → part_of q.bytes ≡ request label kind → finds_label (gets (t.sent s) s t) 0 peer body ≡ finds_label t 0 peer body
got_finds s label kind q t peer body was part =
    ap (λ so. finds_label (gets so s t) 0 peer body) was
    ∙ ap (λ x. finds_label (gets_as x s q (is_served s (is_news s (arrives s t)))) 0 peer body) part
    ∙ judged_finds (asked_by q) s q t peer body

module _ (units ready : ℕ) (has : 0 < units) (start : List Disk) (past : List Moment) (s : Scene) (here : Place units ready start past s) where
  abbrev pub w : WorldState
  w = s.world

  abbrev pub ms : List Moment
  ms = hist past w

  abbrev pub stands : Stands past w
  stands = here.holds.sound.stands

  abbrev pub Operator : (i source : ℕ) → Type 0
  Operator i source = IsOperator units ready has start past s here i source

  -- ---- at any wire that goes on from here, in which the target has this layer
  module _ {layers : ℕ → Node} (v : WorldState) (h : StandsAt past layers None v) (alike : IsAlike w v) (layer : Layer Purpose) (own : layers 0 ≡ bare layer) (i source : ℕ) (of : Operator i source) (body : Body) (fits : FitsRequest body) where
    id_there : (peer : ℕ) → peer ≤ length w.initiators → (terms h.wire.past).ids (h.wire.layer 0).generation peer ≡ id_of (topology_at w.generations 0) peer
    id_there peer l =
        ap (λ g. (terms h.wire.past).ids g peer) (h.is.sights 0 (omega arith))
        ∙ h.is.known_ids 0 peer (omega arith) (subst (λ n. peer ≤ n) (ap length (sym alike.initiators)) l)
        ∙ ap (λ (x : GenerationsState). id_of (topology_at x 0) peer) alike.generations

    inside : suc i ≤ length w.initiators
    inside = let small = of.small in omega (arith, small)

    source_is : id_of (topology_at w.generations 0) (suc i) ≡ source
    source_is = sym (known_id w stands (suc i) inside) ∙ ap (λ n. id_for (terms ms) 0 n) (let next : suc i ≡ i + 1 = omega arith in next) ∙ of.node_is

    node_is : layer.node ≡ id_of (topology_at w.generations 0) 0
    node_is =
        let node = (holds h.wire h.reached).nodes 0 in
        let same = h.is.layers_are 0 (omega arith) ∙ own in
        sym (ap (λ (l : Node). l.node) same) ∙ node.id ∙ ap (λ g. (terms h.wire.past).ids g 0) (sym node.generation) ∙ id_there 0 (omega arith)

    valid : IsValid (request_with (header_to layer.node source 0) body)
    valid =
        request_fits layer.node source body (subst (λ n. n < 2 ^ 16) (sym node_is) (latest_small (topology_at w.generations 0) 0))
        (subst (λ n. n < 2 ^ 16) source_is (latest_small (topology_at w.generations 0) (suc i))) fits

    finds_there : is_some (asking_step layer source body purposes.Management).0 ≡ finds_label (terms (hist past v)) 0 (suc i) body
    finds_there =
        finds_at v h 0 (suc i) (omega arith) (subst (λ n. suc i ≤ n) (ap length (sym alike.initiators)) inside) layer own source (id_there (suc i) inside ∙ source_is) body valid purposes.Management

    spells_there : (asked : Asked) → (asking_step layer source body purposes.Management).0 ≡ Some asked → AreOf body asked.bytes
    spells_there =
        bytes_at v h 0 (suc i) (omega arith) (subst (λ n. suc i ≤ n) (ap length (sym alike.initiators)) inside) layer own source (id_there (suc i) inside ∙ source_is) body valid purposes.Management

  module _ (serial : ℕ) (one : Sent) (found : found_sent serial w.store.kept ≡ Some one) (zero_to : one.to ≡ 0) where
    -- ---- behind a response
    module _ (outbox : OutboxState) (v : WorldState) (fresh_is : v.fresh ≡ notes.Got serial ∷ w.fresh) (then : Stands past (handed_out 0 0 outbox v)) (p : Packet) (label : LabelParts) (purpose : Option Purpose) (layer : Layer Purpose) (e : judging_step w.target.layer one.generation one.bytes ≡ (of_response p label purpose, layer)) where
      abbrev again : Bool
      again = (terms stands.wire.past).repeats

      abbrev now : WorldState
      now = with_note (notes.Got serial) (marked serial again w)

      abbrev Judged : Finding Purpose × Layer Purpose → Type 0
      Judged x = StandsAt past (upd (layers_of w) one.to (bare x.1)) (due_for (bare_finding x.0) None serial (as_sending one)) (with_note (first_note (bare_finding x.0) None serial) (marked serial again w))

      stands_now : StandsAt past (upd (layers_of w) one.to (bare layer)) None now
      stands_now =
          let there : one.to ≤ length w.initiators = omega (arith, zero_to) in
          let own : layers_of w one.to ≡ bare w.target.layer = ap (layers_of w) zero_to in
          subst Judged e (judged_marked w stands serial one there w.target.layer own None refl found again refl (λ r. got_flies w stands serial one found outbox v fresh_is then r))

      pub finds_response : (i source : ℕ) → Operator i source → (body : Body) → FitsRequest body → is_some (asking_step layer source body purposes.Management).0 ≡ finds_label (terms (said (notes.Got serial) ∷ ms)) 0 (suc i) body
      finds_response i source of body fits =
          let alike = marked_alike w serial again in
          let own = ap (upd (layers_of w) one.to (bare layer)) (sym zero_to) ∙ upd_own (layers_of w) one.to (bare layer) in
          finds_there now stands_now (record { generations = alike.generations; target = alike.target; initiators = alike.initiators }) layer own i source of body fits
          ∙ ap (λ x. finds_label (terms (said (notes.Got serial) ∷ x)) 0 (suc i) body) (marked_hist past serial again w)

      pub spells_response : (i source : ℕ) → Operator i source → (body : Body) → FitsRequest body → (asked : Asked) → (asking_step layer source body purposes.Management).0 ≡ Some asked → AreOf body asked.bytes
      spells_response i source of body fits =
          let alike = marked_alike w serial again in
          let own = ap (upd (layers_of w) one.to (bare layer)) (sym zero_to) ∙ upd_own (layers_of w) one.to (bare layer) in
          spells_there now stands_now (record { generations = alike.generations; target = alike.target; initiators = alike.initiators }) layer own i source of body fits

    -- ---- behind a request
    pub finds_request : (p : Packet) → reading one.bytes ≡ Ok p → reply_kind p ≡ None → (i source : ℕ) → Operator i source → (body : Body) → FitsRequest body → is_some (asking_step w.target.layer source body purposes.Management).0 ≡ finds_label (terms (said (notes.Got serial) ∷ ms)) 0 (suc i) body
    finds_request p read none i source of body fits =
        let part = asks_part units ready has start w here.holds serial false one found zero_to p read none in
        finds_there w stands (record { generations = refl; target = refl; initiators = refl }) w.target.layer refl i source of body fits
        ∙ sym (got_finds serial part.label part.kind (as_sending one) (terms ms) (suc i) body (was_sent w stands serial one found) part.part)

    pub spells_request : (i source : ℕ) → Operator i source → (body : Body) → FitsRequest body → (asked : Asked) → (asking_step w.target.layer source body purposes.Management).0 ≡ Some asked → AreOf body asked.bytes
    spells_request i source of body fits = spells_there w stands (record { generations = refl; target = refl; initiators = refl }) w.target.layer refl i source of body fits
