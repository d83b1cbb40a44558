-- What a node's transaction layer finds of a packet is by the row that the judgement law has for it, from the terms before it.
use Rattle.std.proofs.Common.{arith, ◌≡◌, ◌∙◌, refl, sym, ap, subst, ℕ, ◌==◌, ◌&&◌, is_some, nat_eq, Bool, true, false, cond, Option, Some, None, Result, Ok, Err}
use Rattle.std.proofs.lemmas.Bool.Decides.{nat_tests}
use Rattle.async_packet.specs.Packet.{Packet, header_in}
use Rattle.async_packet.specs.Reading.{reading}
use Rattle.async_packet.specs.declared.fault.PacketFault.{PacketFault}
use Rattle.label_table.specs.Filter.{judge_step, place_for}
use Rattle.label_table.specs.Judging.{Facts, Row, by_again, by_generation, by_grammar, by_label, by_request, by_response, row_of}
use Rattle.label_table.specs.Layer.{Finding, Layer, facts_in, is_again, judging_step, of_again, of_generation, of_grammar, of_label, of_request, of_response, rcode_in}
use Rattle.label_table.specs.Layer as layers
use Rattle.label_table.specs.Requests.{is_last, is_write, reply_kind}
use Rattle.label_table.specs.declared.source.Remembered.{Remembered}
use Rattle.sbp_journal.specs.Transactions.{Kind, Part, Sending, asked_as, asked_by, is_same_kind, is_to, no_packet, part_of, request, response}
use Rattle.sbp_journal.specs.Wire.{Held, Terms, free, rests, terms, waits}
use Rattle.sbp_laws.specs.JudgementLaw.{facts_of, given_by, is_response, seen_by}
use Rattle.sbp_laws.specs.Packets.{answered_as, closed_by}
use Rattle.bus_transactions.specs.Bare.{bare, bare_after, bare_finding}
use Rattle.bus_transactions.specs.Judging as bus
use Rattle.bus_transactions.specs.Reached.{Reached}
use Rattle.bus_transactions.specs.Wire.{Node, Wire}
use Rattle.bus_transactions.proofs.Bares.{takes_steps}
use Rattle.bus_transactions.proofs.Facts.{Honest}
use Rattle.bus_transactions.proofs.JudgedStep.{JudgedAs, Requests, judged_step, rcode_at, remembered_is, row_says}
use Rattle.bus_transactions.proofs.JudgementLaws.{row_agrees}
use Rattle.bus_transactions.proofs.MoveOthers.{settled}
use Rattle.bus_transactions.proofs.NodeRows.{IsNode}
use Rattle.bus_transactions.proofs.PacketParts.{PartOf, asks, part_case, part_read, replies}
use Rattle.bus_transactions.proofs.Places.{Places}
use Rattle.bus_transactions.proofs.Stands.{Stands as Holds}
use Rattle.sbp_world.proofs.Wire.Bus.{holds}
use Rattle.sbp_world.proofs.Wire.Kept.{and_false}

-- ---- the facts of the judgement law and those of the bus have one row: where the packet is of another generation, no other fact is read
abbrev facts : (c n r a e : Bool) → Facts
facts c n r a e = record { is_current = c; is_for_node = n; is_response = r; is_awaited = a; is_repeated = e }

earlier_row : (c n r a e : Bool) → c ≡ false → row_of (facts c n r a e) ≡ by_generation
earlier_row false n r a e i = refl
earlier_row true n r a e i = absurd (let no : true ≡ false = i in cc)

closes_same : (h : Held) (kind : Kind) → is_some (closed_by h kind) ≡ bus.waits_for h kind
closes_same (waits own serial) kind = by (is_same_kind own kind)
  where
    by : (b : Bool) → is_some (cond {A = Option ℕ} b (Some serial) None) ≡ b
    by true = refl
    by false = refl
closes_same free kind = refl
closes_same rests kind = refl

module _ (t : Terms) (q : Sending) where
  response_same : (part : Part) → is_response part ≡ bus.is_response part
  response_same (request label kind) = refl
  response_same (response label kind) = refl
  response_same no_packet = refl

  awaited_same : (part : Part) → is_some (answered_as part t q) ≡ bus.is_awaited t part q
  awaited_same (request label kind) = refl
  awaited_same (response label kind) = closes_same _ kind
  awaited_same no_packet = refl

  repeated_same : (part : Part) → (is_write q.bytes && is_last (seen_by t (asked_as part q)) q.bytes) ≡ bus.is_repeated t part q
  repeated_same (request label kind) = refl
  repeated_same (response label kind) = and_false (is_write q.bytes)
  repeated_same no_packet = and_false (is_write q.bytes)

  row_at : (current : Bool) → (q.generation == t.generation q.to) ≡ current → row_of (facts_of t q) ≡ row_of (bus.facts_of t q)
  unfolding asked_by
  row_at true e =
      let now : q.generation ≡ t.generation q.to = grind (arith, nat_tests) in
      ap (λ n. row_of (facts (q.generation == t.generation q.to) n (facts_of t q).is_response (facts_of t q).is_awaited (facts_of t q).is_repeated)) (ap (λ g. is_to q.bytes (t.ids g q.to)) (sym now))
      ∙ ap (λ r. row_of (facts (q.generation == t.generation q.to) (bus.facts_of t q).is_for_node r (facts_of t q).is_awaited (facts_of t q).is_repeated)) (response_same (part_of q.bytes))
      ∙ ap (λ a. row_of (facts (q.generation == t.generation q.to) (bus.facts_of t q).is_for_node (bus.facts_of t q).is_response a (facts_of t q).is_repeated)) (awaited_same (part_of q.bytes))
      ∙ ap (λ p. row_of (facts (q.generation == t.generation q.to) (bus.facts_of t q).is_for_node (bus.facts_of t q).is_response (bus.facts_of t q).is_awaited p)) (repeated_same (part_of q.bytes))
  row_at false e =
      earlier_row (facts_of t q).is_current (facts_of t q).is_for_node (facts_of t q).is_response (facts_of t q).is_awaited (facts_of t q).is_repeated e
      ∙ sym (earlier_row (bus.facts_of t q).is_current (bus.facts_of t q).is_for_node (bus.facts_of t q).is_response (bus.facts_of t q).is_awaited (bus.facts_of t q).is_repeated e)

  pub row_same : row_of (facts_of t q) ≡ row_of (bus.facts_of t q)
  row_same = row_at (q.generation == t.generation q.to) refl

-- ---- what a node's layer finds, by the row of the law
-- a request, with its row
pub record Asks (t : Terms) (q : Sending) (p : Packet) (row : Row) : Type 0 where
  pub row_is : row_of (facts_of t q) ≡ row
  pub read : reading q.bytes ≡ Ok p
  pub none : reply_kind p ≡ None
  pub current : q.generation ≡ t.generation q.to

-- a write that comes again, with the rcode that the terms have; the node keeps its ID
pub record AsksAgain (t : Terms) (q : Sending) (own : ℕ) (p : Packet) (rcode new : ℕ) : Type 0 where
  pub asks : Asks t q p by_again
  pub rcode_is : rcode ≡ given_by t (asked_by q)
  pub node_is : new ≡ own

-- of a node with this ID
abbrev pub RowFor : {P : Type 0} → Terms → Sending → (own : ℕ) → Finding P × Layer P → Type 0
RowFor t q own (of_generation, layer) = row_of (facts_of t q) ≡ by_generation
RowFor t q own (of_grammar, layer) = row_of (facts_of t q) ≡ by_grammar
RowFor t q own (of_label, layer) = row_of (facts_of t q) ≡ by_label
RowFor t q own (of_response p label purpose, layer) = row_of (facts_of t q) ≡ by_response
RowFor t q own (of_again p rcode, layer) = AsksAgain t q own p rcode layer.node
RowFor t q own (of_request p, layer) = Asks t q p by_request

module _ (wire : Wire) (reached : Reached wire) (unowed : wire.due ≡ None) (q : Sending) (serial : ℕ) (sent : (terms wire.past).sent serial ≡ Some q) where
  abbrev t : Terms
  t = terms wire.past

  h : Holds wire
  h = holds wire reached

  node : IsNode (t.ids (t.generation q.to)) (t.generation q.to) q.to t.held t.last t.seen t.given None (wire.layer q.to)
  node = (settled wire h unowed).nodes q.to

  honest : Honest t.ids t.generation t.injects q
  honest = (settled wire h unowed).facts.honest serial q sent

  -- a write that comes again had the rcode of the terms
  abbrev Remembers : Packet → Type 0
  Remembers p =
      is_again (judge_step (wire.layer q.to).filter (header_in p).source q.bytes) ≡ true
      → rcode_in (judge_step (wire.layer q.to).filter (header_in p).source q.bytes) ≡ given_by t (asked_by q)

  remembered : (p : Packet) (label : ℕ) (kind : Kind) → reading q.bytes ≡ Ok p → part_of q.bytes ≡ request label kind → q.generation ≡ t.generation q.to → Remembers p
  unfolding asked_by
  remembered p label kind read part now again =
      let here = subst (λ g. IsNode (t.ids g) g q.to t.held t.last t.seen t.given None (wire.layer q.to)) (sym now) node in
      rcode_at (wire.layer q.to).filter q.bytes (place_for (header_in p).source (wire.layer q.to).filter) again
      ∙ ap (λ (x : Remembered). x.rcode) (remembered_is t (wire.layer q.to) q here honest.source honest.label p label kind read part)
      ∙ ap (λ x. given_by t (asked_as x q)) (sym part)

  remembered_by : (p : Packet) → PartOf p → reading q.bytes ≡ Ok p → reply_kind p ≡ None → q.generation ≡ t.generation q.to → Remembers p
  remembered_by p (asks label kind part none) read e now again = remembered p label kind read (part_read q.bytes p read ∙ part) now again
  remembered_by p (replies label kind part some) read e now again = absurd (let no : Some _ ≡ None = sym some ∙ e in cc)

  module _ {P : Type 0} (layer : Layer P) (is : wire.layer q.to ≡ bare layer) where
    abbrev found : Facts
    found = layers.facts_of (bare layer) q.generation q.bytes

    same_row : row_of (facts_of t q) ≡ row_of found
    same_row =
        row_same t q ∙ row_agrees wire h unowed q serial sent (nat_eq q.generation (t.generation q.to)) refl
        ∙ ap (λ (l : Node). row_of (layers.facts_of l q.generation q.bytes)) is

    current_in : (read : Result Packet PacketFault) → (facts_in (bare layer) q.generation q.bytes read).is_current ≡ true → q.generation ≡ layer.generation
    current_in (Err fault) e = let c : (q.generation == layer.generation) ≡ true = e in grind (arith, nat_tests)
    current_in (Ok p) e = let c : (q.generation == layer.generation) ≡ true = e in grind (arith, nat_tests)

    now : found.is_current ≡ true → q.generation ≡ t.generation q.to
    now e = current_in (reading q.bytes) e ∙ (ap (λ (l : Node). l.generation) (sym is) ∙ node.generation)

    judged : JudgedAs (bare layer) q.bytes found (bare_after bare_finding (judging_step layer q.generation q.bytes))
    judged =
        subst (JudgedAs (bare layer) q.bytes found) ((takes_steps P).judges layer q.generation q.bytes)
        (judged_step (bare layer) q.generation q.bytes (subst (λ (l : Node). Places l.generation l.peers) is (h.nodes q.to).places))

    asks_by : (p : Packet) (row : Row) (new : Node) → found.is_current ≡ true → Requests (bare layer) new q.bytes found p row → Asks t q p row
    asks_by p row new c j = record { row_is = same_row ∙ j.row_is; read = j.read; none = j.asks_is; current = now c }

    by_finding : (x : Finding P × Layer P) → JudgedAs (bare layer) q.bytes found (bare_after bare_finding x) → RowFor t q layer.node x
    by_finding (of_generation, new) j = same_row ∙ j.1
    by_finding (of_grammar, new) j = same_row ∙ j.1
    by_finding (of_label, new) j = same_row ∙ j.1
    by_finding (of_response p label purpose, new) j = same_row ∙ j.row
    by_finding (of_again p rcode, new) j =
        let says = row_says found by_again j.0.row_is in
        let again : is_again (judge_step (wire.layer q.to).filter (header_in p).source q.bytes) ≡ true =
        ap (λ (l : Node). is_again (judge_step l.filter (header_in p).source q.bytes)) is
        ∙ (ap (λ read. (facts_in (bare layer) q.generation q.bytes read).is_repeated) (sym j.0.read) ∙ says.2) in
        let a = asks_by p by_again (bare new) says.0.current j.0 in
        record {
          asks = a;
          rcode_is = j.1 ∙ (ap (λ (l : Node). rcode_in (judge_step l.filter (header_in p).source q.bytes)) (sym is) ∙ remembered_by p (part_case p) a.read a.none a.current again);
          node_is = ap (λ (l : Node). l.node) j.0.same;
        }
    by_finding (of_request p, new) j = asks_by p by_request (bare new) (row_says found by_request j.row_is).0.current j

    pub row_for : RowFor t q layer.node (judging_step layer q.generation q.bytes)
    row_for = by_finding (judging_step layer q.generation q.bytes) judged
