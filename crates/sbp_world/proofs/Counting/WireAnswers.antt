-- What a node hands out in a delivery: one response, and to a request alone, and then requests; so with its response it hands out less than what came, but for its requests.
use Rattle.sbp_world.proofs.Words.Std.{arith, ◌≡◌, ◌∙◌, refl, sym, ap, subst, ℕ, ◌+◌, ◌≤◌, is_some, not, true, cond, List, [], ◌∷◌, ◌++◌, Option, Some, None, true≢false}
use Rattle.sbp_world.proofs.Words.Wire.{Asked, AreAsks, Finding, IsAnswering, IsAsking, IsDelivery, IsValid, Judged, Layer, Outgoing, Packet, Reply, access_of, answered_by, answering_step, asking_step, layer_after, lock, lock_response, of_again, of_generation, of_grammar, of_label, of_request, of_response, read_block, read_block_response, read_quadlet, read_quadlet_response, request_to, requests_of, response_to, with_asked, write_block, write_quadlet, write_response}
use Rattle.sbp_world.proofs.Words.Laws.{access_in, access_in_bytes}
use Rattle.label_table.specs.History as wire
use Rattle.label_table.specs.Requests.{reply_kind}
use Rattle.sbp_laws.specs.Packets.{spelled_by as read_by}
use Rattle.bus_transactions.proofs.FitJudged.{IsFoundAs, IsReadOf}
use Rattle.sbp_world.specs.Counting.Wire.{packet_by}
use Rattle.sbp_world.proofs.Counting.WireWeights.{AreAnswers, answers, request_least}
use Rattle.sbp_world.proofs.Pointers.Quiet.{response_access}
use Rattle.sbp_world.proofs.Pointers.Spelled.{read_canon}

-- requests have labels
abbrev AreRequests : List Outgoing → Type 0
AreRequests [] = Unit {0}
AreRequests (packet ∷ later) = (is_some packet.label ≡ true) × AreRequests later

requests_more : (packets : List Outgoing) (packet : Outgoing) → AreRequests packets → is_some packet.label ≡ true → AreRequests (packets ++ packet ∷ [])
requests_more [] packet h e = (e, tt)
requests_more (first ∷ packets) packet h e = (h.0, requests_more packets packet h.1 e)

are_answers : (packets : List Outgoing) → AreRequests packets → AreAnswers packets
are_answers [] h = tt
are_answers (packet ∷ later) h = (λ e. absurd (true≢false (sym h.0 ∙ e)), are_answers later h.1)

none_answers : (packets : List Outgoing) → AreRequests packets → answers packets ≡ 0
none_answers [] h = refl
none_answers (packet ∷ later) h = let one = ap {B = ℕ} (λ b. cond b 0 1) h.0 in let rest = none_answers later h.1 in omega (arith, one, rest)

-- ---- what is handed out
pub record HandsOut (most : ℕ) (packets : List Outgoing) : Type 0 where
  pub plain : AreAnswers packets
  pub few : answers packets ≤ most

hands_none : (packets : List Outgoing) → packets ≡ [] → HandsOut 0 packets
hands_none packets e = subst (HandsOut 0) (sym e) (record { plain = tt; few = omega arith })

asked_requests : (peer : ℕ) (r : Option Asked) (packets : List Outgoing) → AreRequests packets → AreRequests (with_asked peer r packets)
asked_requests peer None packets h = h
asked_requests peer (Some asked) packets h = requests_more packets (request_to peer asked) h refl

module _ {P : Type 0} (known : ℕ → Type 0) where
  asks_requests : (before : Layer P) (steps : List (wire.Call P)) → AreAsks known before steps → AreRequests (requests_of before steps)
  asks_requests before [] m = tt
  asks_requests before (wire.asks peer body purpose ∷ steps) m =
      asked_requests peer (asking_step (layer_after before steps) peer body purpose).0 (requests_of before steps) (asks_requests before steps m.1)
  asks_requests before (wire.disowns peer label ∷ steps) m = asks_requests before steps m.1
  asks_requests before (wire.judges generation bytes ∷ steps) m = absurd m
  asks_requests before (wire.answers p bytes rcode given ∷ steps) m = absurd m
  asks_requests before (wire.lets_expire peer label ∷ steps) m = absurd m
  asks_requests before (wire.sees generation node ∷ steps) m = absurd m

  asking_requests : (before now : Layer P) (packets : List Outgoing) → IsAsking known before now packets → AreRequests packets
  asking_requests before now packets a = subst AreRequests a.packets_are (asks_requests before a.steps a.may)

  asking_hands : (before now : Layer P) (packets : List Outgoing) → IsAsking known before now packets → HandsOut 0 packets
  asking_hands before now packets a =
      let all = asking_requests before now packets a in
      let none = none_answers packets all in
      record { plain = are_answers packets all; few = omega (arith, none) }

  -- a response asks for nothing
  answer_plain : (layer : Layer P) (p : Packet) (bytes : List ℕ) (rcode : ℕ) (given : List ℕ) → IsValid (response_to layer.node p rcode given) → access_in_bytes (answering_step layer p bytes rcode given).0 ≡ None
  unfolding answering_step
  answer_plain layer p bytes rcode given v =
      ap (λ x. access_in (read_by x)) (read_canon (response_to layer.node p rcode given) v) ∙ response_access layer.node p rcode given

  answering_hands : (reply : Reply) (p : Packet) (bytes : List ℕ) (before now : Layer P) (packets : List Outgoing) → IsAnswering known reply p bytes before now packets → HandsOut 1 packets
  answering_hands reply p bytes before now packets a =
      let layer = layer_after before a.left in
      let more = asking_requests (answered_by layer p bytes a.rcode a.given).1 now a.more a.asks in
      let none = none_answers a.more more in
      subst (HandsOut 1) a.packets_are (record {
        plain = (λ e. answer_plain layer p bytes a.rcode a.given a.valid, are_answers a.more more);
        few = omega (arith, none);
      })

-- ---- by what came
request_asks : (p : Packet) → not (is_some (reply_kind p)) ≡ true → packet_by (access_of p) ≡ 2
request_asks (write_quadlet header offset value) e = refl
request_asks (write_block header offset payload) e = refl
request_asks (read_quadlet header offset) e = refl
request_asks (read_block header offset count) e = refl
request_asks (lock header offset extended payload) e = refl
request_asks (write_response header rcode) e = absurd (true≢false (sym e))
request_asks (read_quadlet_response header rcode value) e = absurd (true≢false (sym e))
request_asks (read_block_response header rcode payload) e = absurd (true≢false (sym e))
request_asks (lock_response header rcode extended payload) e = absurd (true≢false (sym e))

came : (generation now : ℕ) (bytes : List ℕ) (p : Packet) → IsReadOf generation now bytes p → packet_by (access_in_bytes bytes) ≡ 2
came generation now bytes p r = ap (λ x. packet_by (access_in (read_by x))) r.read ∙ request_asks p r.request.asks

-- a packet that comes weighs more than the responses that are handed out
pub record Answers (bytes : List ℕ) (packets : List Outgoing) : Type 0 where
  pub plain : AreAnswers packets
  pub less : 1 + answers packets ≤ packet_by (access_in_bytes bytes)

any_came : (bytes : List ℕ) (packets : List Outgoing) → HandsOut 0 packets → Answers bytes packets
any_came bytes packets h = let few = h.few in let least = request_least (access_in_bytes bytes) in record { plain = h.plain; less = omega (arith, few, least) }

request_came : (bytes : List ℕ) (packets : List Outgoing) → packet_by (access_in_bytes bytes) ≡ 2 → HandsOut 1 packets → Answers bytes packets
request_came bytes packets e h = let few = h.few in record { plain = h.plain; less = omega (arith, few, e) }

module _ {P : Type 0} (known : ℕ → Type 0) (layer : Layer P) (generation : ℕ) (bytes : List ℕ) (verdict : Judged) (before now : Layer P) (packets : List Outgoing) where
  pub delivery_answers : (f : Finding P) → IsFoundAs layer generation bytes f → IsDelivery known f verdict bytes before now packets → Answers bytes packets
  delivery_answers of_generation i d = any_came bytes packets (hands_none packets d.packets_are)
  delivery_answers of_grammar i d = any_came bytes packets (hands_none packets d.packets_are)
  delivery_answers of_label i d = any_came bytes packets (hands_none packets d.packets_are)
  delivery_answers (of_response p label purpose) i d = any_came bytes packets (asking_hands known before now packets d.asks)
  delivery_answers (of_again p rcode) i d = request_came bytes packets (came generation layer.generation bytes p i.0) (answering_hands known _ p bytes before now packets d.answers)
  delivery_answers (of_request p) i d = request_came bytes packets (came generation layer.generation bytes p i) (answering_hands known _ p bytes before now packets d.answers)
