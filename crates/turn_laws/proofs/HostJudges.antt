-- What an initiator does with a packet is what the judgement law asks of it, in a world behind the first note of the delivery.
use Rattle.std.proofs.Common.{arith, ◌≡◌, ◌∙◌, refl, sym, ap, subst, ℕ, suc, ◌<◌, ◌≤◌, ◌==◌, List, [], ◌∷◌, length, Some, Ok}
use Rattle.async_packet.specs.Packet.{Packet, header_in}
use Rattle.async_packet.specs.Reading.{reading}
use Rattle.label_table.specs.Judging.{by_request}
use Rattle.label_table.specs.Layer.{Finding, Layer, judging_step, of_again, of_generation, of_grammar, of_label, of_request, of_response}
use Rattle.packet_store.specs.declared.sent.Sent.{Sent}
use Rattle.packet_store.specs.Kept.{found_sent}
use Rattle.rbc_disk.specs.Disk.{Disk}
use Rattle.bus_transactions.specs.Wire.{as_sending}
use Rattle.bus_transactions.proofs.NodeRows.{row_same}
use Rattle.bus_transactions.proofs.Reaches.{goes_on}
use Rattle.sbp_bus.specs.Generations.{id_of, topology_at}
use Rattle.sbp_initiator.specs.Effects.{Turn}
use Rattle.sbp_initiator.specs.Histories.Judging.{LeftBy, judging_by, judging_for, note_of}
use Rattle.sbp_initiator.specs.Receiving.{receive_step, received, respond_step}
use Rattle.sbp_initiator.specs.declared.purpose.Purpose.{Purpose}
use Rattle.sbp_initiator.specs.declared.state.InitiatorState.{InitiatorState}
use Rattle.sbp_journal.specs.Outgoings.{OutboxState, empty_outbox}
use Rattle.sbp_journal.specs.Rows.{Judging, ignored_as, judging_of, serving, telling}
use Rattle.sbp_journal.specs.Run.{Moment}
use Rattle.sbp_journal.specs.Transactions.{Sending}
use Rattle.sbp_journal.specs.Wire.{Terms, terms}
use Rattle.sbp_journal.specs.declared.cause.Judged.{Judged}
use Rattle.sbp_laws.specs.JudgementLaw.{answer_packet, request_facts}
use Rattle.sbp_laws.specs.Targets.{Target, over, target_at}
use Rattle.sbp_world.specs.Wire.Wires.{Stands, layers_of}
use Rattle.sbp_world.specs.Worlds.{Scene, WorldState, initiator_at}
use Rattle.sbp_initiator.proofs.Histories.Judging.{judging_law}
use Rattle.sbp_world.proofs.Agents.CrewFirsts.{access_there}
use Rattle.sbp_world.proofs.Agents.Management.Holding.{is_of, past_terms}
use Rattle.sbp_world.proofs.Agents.Management.Still.{hist}
use Rattle.sbp_world.proofs.Hosts.Answering.{answer, responds}
use Rattle.sbp_world.proofs.Hosts.Statuses.Hearing.{noted}
use Rattle.sbp_world.proofs.Wire.Holding.{to_target}
use Rattle.turn_laws.proofs.AnswerNotes.{SameBus, generation_is, none_handed, one_handed}
use Rattle.turn_laws.proofs.FoundRows.{Asks, RowFor}
use Rattle.turn_laws.proofs.Handed.{handed}
use Rattle.turn_laws.proofs.HostFacts.{judging_same, one_kind}
use Rattle.turn_laws.proofs.Places.{Place}
use Rattle.turn_laws.proofs.Verdicts.{Acts, ActsBy}
use Rattle.turn_laws.proofs.OwnBlocks.{answer_silent}

module _ (units ready : ℕ) (start : List Disk) (past : List Moment) (s : Scene) (here : Place units ready start past s) (serial : ℕ) (one : Sent) (found : found_sent serial s.world.store.kept ≡ Some one) (i : ℕ) (to_is : one.to ≡ suc i) (inside : i < length s.world.initiators) (v : WorldState) (bus : SameBus s.world v) where
  abbrev old : InitiatorState
  old = initiator_at s.world i

  abbrev ms : List Moment
  ms = hist past s.world

  abbrev t : Terms
  t = terms ms

  abbrev target : Target
  target = over (target_at start ms)

  abbrev q : Sending
  q = as_sending one

  stands : Stands past s.world
  stands = here.holds.sound.stands

  there : one.to ≤ length s.world.initiators
  there = omega (arith, to_is, inside)

  -- ---- one answer is its packet
  one_answer : (p : Packet) (rcode own : ℕ) → reading one.bytes ≡ Ok p → one.generation ≡ t.generation one.to → own ≡ old.layer.node → (o : OutboxState) → o.sides ≡ [] → o.packets ≡ answer own p rcode [] ∷ [] → handed (suc i) 0 o v ≡ answer_packet t q rcode [] (Some p)
  one_answer p rcode own read now own_is o sides_are packets_are =
      ap (λ n. handed n 0 o v) (sym to_is)
      ∙ one_handed s.world stands serial one found there p read v bus rcode own [] (own_is ∙ ap (λ n. (layers_of s.world n).node) (sym to_is)) now o sides_are packets_are

  -- ---- the request is the target's by the terms where it is by the ID that the initiator has of it
  abbrev ids : ℕ → ℕ
  ids = t.ids (t.generation one.to)

  apart : (j k : ℕ) → ids j ≡ ids k → j ≡ k
  apart j k e =
      let g = t.generation one.to in
      goes_on.apart stands.wire g j k stands.reached (ap (λ (x : Terms). x.ids g j) (past_terms s.world stands) ∙ e ∙ sym (ap (λ (x : Terms). x.ids g k) (past_terms s.world stands)))

  target_is : (p : Packet) → reading one.bytes ≡ Ok p → old.target ≡ ids 0
  target_is p read =
      sym (to_target s.world.generations.seen i old.target (here.holds.sound.nodes.own.holds i inside).fits.target_known)
      ∙ (ap (λ n. id_of (topology_at s.world.generations n) 0) (sym to_is)
      ∙ (sym (stands.is.known_ids one.to 0 there (omega arith))
      ∙ (ap (λ (x : Terms). x.ids (topology_at s.world.generations one.to).generation 0) (past_terms s.world stands)
      ∙ ap (λ g. t.ids g 0) (generation_is s.world stands serial one found there p read))))

  of_target : (p : Packet) → reading one.bytes ≡ Ok p → one.generation ≡ t.generation one.to → (one.from == 0) ≡ ((header_in p).source == old.target)
  of_target p read now =
      sym (ap (λ n. n == old.target) ((is_of s.world stands serial one found).source p read ∙ ap (λ g. t.ids g one.from) now)
      ∙ (ap (λ n. ids one.from == n) (target_is p read) ∙ row_same ids apart one.from 0))

  -- ---- what it does, by what it found
  abbrev heard : Judged × Turn
  heard = receive_step one.generation one.bytes empty_outbox old

  abbrev At : Finding Purpose → Judged × Turn → Type 0
  At f r = Acts start ms serial q f r.0 (handed (suc i) 0 r.1.0 v)

  left_acts : (p : Packet) → Asks t q p by_request → (j : Judging) → heard.0 ≡ note_of j → LeftBy j p one.bytes empty_outbox old heard.1 → ActsBy start ms serial q j p heard.0 (handed (suc i) 0 heard.1.0 v)
  left_acts p a (ignored_as cause rcode) e left = (
    e,
    one_answer p rcode old.layer.node a.read a.current refl heard.1.0 (ap (λ (x : Turn). x.0.sides) left ∙ answer_silent p one.bytes rcode [] (empty_outbox, old))
        (ap (λ (x : Turn). x.0.packets) left ∙ responds p one.bytes rcode [] (empty_outbox, old)),
  )
  left_acts p a telling e left = e
  left_acts p a serving e left = e

  -- a request is judged by the initiator as by the terms
  pub judged_same : (p : Packet) (a : Asks t q p by_request) → judging_for p old ≡ judging_of (request_facts start ms target t one.from one.to (access_there p a.none).access)
  judged_same p a =
      let asks = access_there p a.none in
      ap (λ x. judging_by x (header_in p).source old) asks.is
      ∙ (sym (judging_same ms i old (here.hosts i inside).rows (here.cores i inside) (here.logins i inside) asks.access one.from (header_in p).source (one_kind p asks.access asks.is) (of_target p a.read a.current))
      ∙ ap (λ n. judging_of (request_facts start ms target t one.from n asks.access)) (sym to_is))

  request_acts : (p : Packet) → Asks t q p by_request → (judging_step old.layer one.generation one.bytes).0 ≡ of_request p → At (of_request p) heard
  request_acts p a e =
      record {
        asks = access_there p a.none;
        acts =
            subst (λ j. ActsBy start ms serial q j p heard.0 (handed (suc i) 0 heard.1.0 v)) (judged_same p a)
            (left_acts p a (judging_for p old) (noted old one.generation one.bytes p e) (judging_law.left one.generation one.bytes empty_outbox old p e));
      }

  acts_by : (x : Finding Purpose × Layer Purpose) → RowFor t q old.layer.node x → ((p : Packet) → Asks t q p by_request → x.0 ≡ of_request p → At (of_request p) (received x one.bytes empty_outbox old)) → At x.0 (received x one.bytes empty_outbox old)
  acts_by (of_generation, layer) row asks = (refl, none_handed (suc i) empty_outbox v refl refl)
  acts_by (of_grammar, layer) row asks = (refl, none_handed (suc i) empty_outbox v refl refl)
  acts_by (of_label, layer) row asks = (refl, none_handed (suc i) empty_outbox v refl refl)
  acts_by (of_response p label purpose, layer) row asks = refl
  acts_by (of_again p rcode, layer) row asks =
      let turn : Turn = (empty_outbox, record old { layer = layer }) in
      (refl, one_answer p rcode layer.node row.asks.read row.asks.current row.node_is (respond_step p one.bytes rcode [] turn).0 (answer_silent p one.bytes rcode [] turn) (responds p one.bytes rcode [] turn))
  acts_by (of_request p, layer) row asks = asks p row refl

  pub host_acts : RowFor t q old.layer.node (judging_step old.layer one.generation one.bytes) → Acts start ms serial q (judging_step old.layer one.generation one.bytes).0 heard.0 (handed (suc i) 0 heard.1.0 v)
  unfolding receive_step
  host_acts row = acts_by (judging_step old.layer one.generation one.bytes) row request_acts
