-- A request of an initiator to the target that it did not inject, and that is taken as new as the target is called with it, is found to be that request, of the target's generation.
use Rattle.sbp_world.proofs.Words.Std.{arith, ◌≡◌, ◌∙◌, refl, sym, ap, ◌==◌, nat_eq, nat_tests, ℕ, is_some, Bool, true, false, List, ◌∷◌, Option, Some, None, Ok, false≢true}
use Rattle.sbp_world.proofs.Words.Wire.{Cause, Facts, Finding, Layer, Moment, Node, Packet, Row, Sending, Sent, Terms, as_sending, asked_by, arrives, by_again, by_generation, by_grammar, by_label, by_request, by_response, facts_in, facts_of, found_sent, header_in, ignores_that, judged_by, judged_note, judging_step, of_generation, of_request, reading, reply_kind, row_of, said, terms}
use Rattle.sbp_world.proofs.Words.Target.{Held, Purpose, Told, received, received_as, with_layer}
use Rattle.sbp_world.proofs.Words.Laws.{id_for}
use Rattle.sbp_world.proofs.Words.World.{Stands, WorldState, whole_of}
use Rattle.bus_transactions.proofs.PacketParts.{to_read}
use Rattle.sbp_journal.specs.declared.cause.Cause.TheVariants as causes
use Rattle.sbp_journal.specs.declared.cause.Judged.TheVariants as judgements
use Rattle.sbp_world.proofs.Agents.Management.Holding.{past_terms, was_sent}
use Rattle.sbp_world.proofs.Agents.Management.Still.{hist}
use Rattle.sbp_world.proofs.Lists.ManageTerms.{judges_news}
use Rattle.sbp_world.proofs.Wire.Bus.{holds}

-- ---- what is ignored for its generation, or as it comes again, is not taken as new
module _ (r : ℕ) (t : Terms) where
  of_generation_still : (found : Option Sending) → (ignores_that found causes.Generation r t).news r ≡ t.news r
  of_generation_still None = refl
  of_generation_still (Some packet) = refl

  of_again_still : (found : Option Sending) → (ignores_that found causes.Again r t).news r ≡ t.news r
  of_again_still None = refl
  of_again_still (Some packet) = ap (λ (f : ℕ → ℕ). f r) (judges_news (asked_by packet) (Some causes.Again) r packet (arrives r t))

-- ---- by the row
-- what a row says of a request
record Says (row : Row) (f : Facts) : Type 0 where
  grammar : row ≡ by_grammar → f.is_for_node ≡ false
  label : row ≡ by_label → f.is_response ≡ true
  response : row ≡ by_response → f.is_response ≡ true
  request : row ≡ by_request → f.is_current ≡ true
  known : (row ≡ by_generation → ⊥) → f.is_current ≡ true

module _ where
  abbrev facts : Bool → Bool → Bool → Bool → Bool → Facts
  facts c n a w x = record { is_current = c; is_for_node = n; is_response = a; is_awaited = w; is_repeated = x }

  says : (c n a w x : Bool) → Says (row_of (facts c n a w x)) (facts c n a w x)
  says false n a w x = record { grammar = λ e. absurd (let no : by_generation ≡ by_grammar = e in cc); label = λ e. absurd (let no : by_generation ≡ by_label = e in cc); response = λ e. absurd (let no : by_generation ≡ by_response = e in cc); request = λ e. absurd (let no : by_generation ≡ by_request = e in cc); known = λ e. absurd (e refl) }
  says true false a w x = record { grammar = λ e. refl; label = λ e. absurd (let no : by_grammar ≡ by_label = e in cc); response = λ e. absurd (let no : by_grammar ≡ by_response = e in cc); request = λ e. refl; known = λ e. refl }
  says true true true false x = record { grammar = λ e. absurd (let no : by_label ≡ by_grammar = e in cc); label = λ e. refl; response = λ e. refl; request = λ e. refl; known = λ e. refl }
  says true true true true x = record { grammar = λ e. absurd (let no : by_response ≡ by_grammar = e in cc); label = λ e. refl; response = λ e. refl; request = λ e. refl; known = λ e. refl }
  says true true false w true = record { grammar = λ e. absurd (let no : by_again ≡ by_grammar = e in cc); label = λ e. absurd (let no : by_again ≡ by_label = e in cc); response = λ e. absurd (let no : by_again ≡ by_response = e in cc); request = λ e. refl; known = λ e. refl }
  says true true false w false = record { grammar = λ e. absurd (let no : by_request ≡ by_grammar = e in cc); label = λ e. absurd (let no : by_request ≡ by_label = e in cc); response = λ e. absurd (let no : by_request ≡ by_response = e in cc); request = λ e. refl; known = λ e. refl }

-- ---- a packet
module _ {past : List Moment} (w : WorldState) (h : Stands past w) (r : ℕ) (sent : Sent) (found : found_sent r w.store.kept ≡ Some sent) (to_is : sent.to ≡ 0) (honest : sent.injected ≡ false) (p : Packet) (read : reading sent.bytes ≡ Ok p) (asks : is_some (reply_kind p) ≡ false) where
  abbrev now : List Moment
  now = hist past w

  abbrev layer : Layer Purpose
  layer = w.target.layer

  abbrev q : Sending
  q = as_sending sent

  abbrev t : Terms
  t = terms h.wire.past

  same : t ≡ terms now
  same = past_terms w h

  there : t.sent r ≡ Some q
  there = ap (λ (x : Terms). x.sent r) same ∙ was_sent w h r sent found

  abbrev f : Facts
  f = facts_in layer sent.generation sent.bytes (Ok p)

  facts_are : facts_of layer sent.generation sent.bytes ≡ f
  facts_are = ap (λ x. facts_in layer sent.generation sent.bytes x) read

  row_says : Says (row_of f) f
  row_says = says f.is_current f.is_for_node f.is_response f.is_awaited f.is_repeated

  layer_generation : layer.generation ≡ (terms now).generation 0
  layer_generation =
      sym (ap (λ (l : Node). l.generation) (h.is.layers_are 0 (omega arith)))
      ∙ (((holds h.wire h.reached).nodes 0).generation ∙ ap (λ (x : Terms). x.generation 0) same)

  current_by : f.is_current ≡ true → sent.generation ≡ (terms now).generation 0
  current_by e = let z : (sent.generation == layer.generation) ≡ true = e in let g : sent.generation ≡ layer.generation = grind (arith, nat_tests, z) in g ∙ layer_generation

  for_node : f.is_current ≡ true → f.is_for_node ≡ true
  for_node e =
      let known = ((holds h.wire h.reached).facts.honest r q there).is_for honest in
      let at : (header_in p).destination ≡ t.ids sent.generation sent.to = (let z : nat_eq (header_in p).destination (t.ids sent.generation sent.to) ≡ true = sym (to_read sent.bytes p (t.ids sent.generation sent.to) read) ∙ known in grind (arith, nat_tests, z)) in
      let node : layer.node ≡ t.ids (t.generation 0) 0 = sym (ap (λ (l : Node). l.node) (h.is.layers_are 0 (omega arith))) ∙ ((holds h.wire h.reached).nodes 0).id in
      let current : sent.generation ≡ t.generation 0 = current_by e ∙ sym (ap (λ (x : Terms). x.generation 0) same) in
      let is : (header_in p).destination ≡ layer.node = at ∙ (ap (λ g. t.ids g sent.to) current ∙ (ap (λ k. t.ids (t.generation 0) k) to_is ∙ sym node)) in
      grind (arith, nat_tests, is)

  source_is : f.is_current ≡ true → (header_in p).source ≡ id_for (terms now) 0 sent.from
  source_is e =
      ((holds h.wire h.reached).facts.honest r q there).source p read
      ∙ (ap (λ g. t.ids g sent.from) (current_by e) ∙ ap (λ (x : Terms). x.ids ((terms now).generation 0) sent.from) same)

  pub record IsFound : Type 0 where
    pub is : (judging_step layer sent.generation sent.bytes).0 ≡ of_request p
    pub current : sent.generation ≡ (terms now).generation 0
    pub source : (header_in p).source ≡ id_for (terms now) 0 sent.from

  module _ (run : Option Told) (media : Held) (ms : List Moment) (rises : (terms (said (judged_note r (received run sent.generation sent.bytes (whole_of w.target media)).0) ∷ ms)).news r ≡ (terms ms).news r → ⊥) where
    found_as : (row : Row) → row_of f ≡ row → (judging_step layer sent.generation sent.bytes).0 ≡ (judged_by row layer sent.bytes (Ok p)).0
    unfolding judging_step
    found_as row e =
        ap (λ x. (judged_by (row_of x) layer sent.bytes (reading sent.bytes)).0) facts_are
        ∙ (ap (λ x. (judged_by x layer sent.bytes (reading sent.bytes)).0) e ∙ ap (λ x. (judged_by row layer sent.bytes x).0) read)

    noted : (finding : Finding Purpose) → (judging_step layer sent.generation sent.bytes).0 ≡ finding → (received run sent.generation sent.bytes (whole_of w.target media)).0 ≡ (received_as run sent.bytes finding (with_layer (judging_step layer sent.generation sent.bytes).1 (whole_of w.target media))).0
    unfolding received
    noted finding e = ap (λ x. (received_as run sent.bytes x (with_layer (judging_step layer sent.generation sent.bytes).1 (whole_of w.target media))).0) e

    ignored : {A : Type 0} (cause : Cause) → (received run sent.generation sent.bytes (whole_of w.target media)).0 ≡ judgements.Ignored cause → ((o : Option Sending) → (ignores_that o cause r (terms ms)).news r ≡ (terms ms).news r) → A
    ignored cause e still = absurd (rises (ap (λ j. (terms (said (judged_note r j) ∷ ms)).news r) e ∙ still ((terms ms).sent r)))

    by_row : (row : Row) → row_of f ≡ row → IsFound
    by_row by_generation e = ignored causes.Generation (noted of_generation (found_as by_generation e)) (of_generation_still r (terms ms))
    by_row by_grammar e =
        let is = row_says.known (λ g. let no : by_generation ≡ by_grammar = sym g ∙ e in cc) in
        absurd (false≢true (sym (row_says.grammar e) ∙ for_node is))
    by_row by_label e = absurd (false≢true (sym asks ∙ row_says.label e))
    by_row by_response e = absurd (false≢true (sym asks ∙ row_says.response e))
    by_row by_again e = ignored causes.Again (noted _ (found_as by_again e)) (of_again_still r (terms ms))
    by_row by_request e = record { is = found_as by_request e; current = current_by (row_says.request e); source = source_is (row_says.request e) }

    pub is_found : IsFound
    is_found = by_row (row_of f) refl
