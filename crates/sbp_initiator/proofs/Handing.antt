-- What a delivery at an initiator hands out to send: one response to a request, and one request where a quadlet of the ROM came.
use Rattle.std.proofs.Common.{arith, ◌≡◌, refl, ap, ℕ, ◌+◌, ◌≤◌, nat_eq, nat_lt, is_some, Bool, true, false, cond, List, [], ◌∷◌, ◌++◌, length, length-append, Option, Some, None, Result, Ok, Err}
use Rattle.std.proofs.lemmas.Bool.Decides.{nat_tests}
use Rattle.async_packet.specs.Labels.{LabelParts}
use Rattle.async_packet.specs.Packet.{Packet}
use Rattle.label_table.specs.declared.judgement.Asked.{Asked}
use Rattle.label_table.specs.Layer.{Layer, Finding, of_generation, of_grammar, of_label, of_response, of_again, of_request, asking_step, closed_by, facts_in, facts_of, judged_by, judging_step, responded}
use Rattle.config_rom.specs.Reading.{reading as reading_rom}
use Rattle.sbp_journal.specs.declared.operation.OpWord.TheVariants as words
use Rattle.sbp_journal.specs.declared.outbox.Outgoing.{Outgoing}
use Rattle.sbp_journal.specs.Outgoings.{OutboxState}
use Rattle.sbp_initiator.specs.declared.purpose.Purpose.{Purpose}
use Rattle.sbp_initiator.specs.declared.purpose.Purpose.TheVariants as purposes
use Rattle.sbp_initiator.specs.declared.purpose.Ending.{Ending}
use Rattle.sbp_initiator.specs.declared.purpose.Ending.TheVariants as endings
use Rattle.sbp_initiator.specs.declared.state.InitiatorState.{InitiatorState}
use Rattle.sbp_initiator.specs.States.{ending_of}
use Rattle.sbp_initiator.specs.Effects.{Turn, end_own_step, pointer_ended, doorbell_ended, reset_ended, enable_ended, management_ended, next_quad, asked_quad, quad_got, ask_quad, finish_rom, is_address, rom_ended, state_ended, ended_step, ended_for}
use Rattle.sbp_initiator.specs.Receiving.{called, respond_step, is_foreign, request_step, received, receive_step}
use Rattle.sbp_initiator.specs.Histories.Moves.{outgoing, response}
use Rattle.sbp_initiator.specs.Handing.{one_if, requests, owes, IsQuiet, IsAnswered, IsRead, Ends, asks_none, asks_one, Hands, DeliveryLaw}
use Rattle.async_packet.specs.declared.fault.PacketFault.{PacketFault}
use Rattle.async_packet.specs.Canon.{canon}
use Rattle.async_packet.specs.Reading.{reading}
use Rattle.label_table.specs.Bodies.{response_to}
use Rattle.label_table.specs.Judging.{Facts, Row, by_generation, by_grammar, by_label, by_response, by_again, by_request, row_of}
use Rattle.label_table.specs.Requests.{reply_kind}
use Rattle.sbp_initiator.proofs.Quiet.{Has, either, owns, points, bells, resets, enables, manages, roms, states}
use Rattle.sbp_initiator.proofs.Answering.{Answers, responds, by_source}

-- ---- a transaction ends
module _ (o : OutboxState) (s : InitiatorState) where
  none_asked : (t : Turn) (quads : List ℕ) (node : ℕ) → length s.quads ≤ length quads → length quads ≤ 256 → Has o.packets quads node t → Ends (o, s) t
  none_asked t quads node l few h = (let e = ap length h.1 in asks_none h.0 (omega (arith, l, e)) (omega (arith, few, e)))

  -- with the quadlets as they were
  still : (t : Turn) → length s.quads ≤ 256 → Has o.packets s.quads s.layer.node t → Ends (o, s) t
  still t few h = none_asked t s.quads s.layer.node (omega arith) few h

  -- the next quadlet is asked for, where a label is found
  asks_next : (r : Option Asked × Layer Purpose) (act : ℕ) (quads : List ℕ) → length quads ≡ length s.quads + 1 → length quads ≤ 256 → Ends (o, s) (asked_quad r act o (record s { quads = quads }))
  asks_next (Some asked, layer) act quads e few = asks_one asked refl e few
  asks_next (None, layer) act quads e few =
      let t = record s { quads = quads; layer = layer } in
      none_asked (end_own_step act words.Error o t) quads layer.node (omega (arith, e)) few (owns o.packets quads layer.node act words.Error o t (refl, refl, refl))

  finishes : (act : ℕ) (quads : List ℕ) → length s.quads ≤ length quads → length quads ≤ 256 → Ends (o, s) (finish_rom act o (record s { quads = quads }))
  finishes act quads l few =
      let t = record s { quads = quads } in
      none_asked (finish_rom act o t) quads s.layer.node l few (roms o.packets quads s.layer.node (reading_rom quads) act o t (refl, refl, refl))

  -- a quadlet came
  comes : (b : Bool) (act : ℕ) (quads : List ℕ) → length quads ≡ length s.quads + 1 → length quads ≤ 256 → Ends (o, s) (cond b (finish_rom act o (record s { quads = quads })) (ask_quad act o (record s { quads = quads })))
  comes true act quads e few = finishes act quads (omega (arith, e)) few
  comes false act quads e few = asks_next (asking_step s.layer s.target (next_quad quads) (purposes.Rom act)) act quads e few

  -- one more than 256 does not come
  none_comes : (b : Bool) (act : ℕ) → nat_eq (length s.quads) 256 ≡ b → length s.quads ≡ 256 → Ends (o, s) (cond b (finish_rom act o s) (ask_quad act o s))
  none_comes true act f e = finishes act s.quads (omega arith) (omega (arith, e))
  none_comes false act f e = absurd (grind (arith, nat_tests))

  quad_by : (b : Bool) (act value : ℕ) → nat_lt (length s.quads) 256 ≡ b → length s.quads ≤ 256 → Ends (o, s) (quad_got act o (record s { quads = cond b (s.quads ++ value ∷ []) s.quads }))
  quad_by true act value f few =
      let quads = s.quads ++ value ∷ [] in
      let e : length quads ≡ length s.quads + 1 = length-append s.quads (value ∷ []) in
      let below : length s.quads + 1 ≤ 256 = grind (arith, nat_tests) in
      comes (nat_eq (length quads) 256) act quads e (omega (arith, e, below))
  quad_by false act value f few =
      let e : length s.quads ≡ 256 = grind (arith, nat_tests) in
      none_comes (nat_eq (length s.quads) 256) act refl e

  rom_ends : (act : ℕ) (ending : Ending) → length s.quads ≤ 256 → Ends (o, s) (rom_ended act ending o s)
  rom_ends act (endings.Complete value) few = quad_by (nat_lt (length s.quads) 256) act value refl few
  rom_ends act (endings.Refused rcode) few =
      still (cond (is_address rcode) (finish_rom act o s) (end_own_step act words.Error o s)) few
      (either o.packets s.quads s.layer.node (is_address rcode) (finish_rom act o s) (end_own_step act words.Error o s) (roms o.packets s.quads s.layer.node (reading_rom s.quads) act o s (refl, refl, refl)) (owns o.packets s.quads s.layer.node act words.Error o s (refl, refl, refl)))
  rom_ends act endings.Expired few = still (end_own_step act words.Error o s) few (owns o.packets s.quads s.layer.node act words.Error o s (refl, refl, refl))

  ends_step : (purpose : Purpose) (ending : Ending) → length s.quads ≤ 256 → Ends (o, s) (ended_step purpose ending o s)
  unfolding ended_step
  ends_step (purposes.Pointer n) ending few = still (pointer_ended n ending o s) few (points o.packets s.quads s.layer.node n ending o s (refl, refl, refl))
  ends_step purposes.Doorbell ending few = still (doorbell_ended ending o s) few (bells o.packets s.quads s.layer.node ending o s (refl, refl, refl))
  ends_step (purposes.AgentReset act) ending few = still (reset_ended act ending o s) few (resets o.packets s.quads s.layer.node act ending o s (refl, refl, refl))
  ends_step (purposes.Enable act) ending few = still (enable_ended act ending o s) few (enables o.packets s.quads s.layer.node act ending o s (refl, refl, refl))
  ends_step (purposes.Management act) ending few = still (management_ended act ending o s) few (manages o.packets s.quads s.layer.node act ending o s (refl, refl, refl))
  ends_step (purposes.Rom act) ending few = rom_ends act ending few
  ends_step (purposes.State act n) ending few = still (state_ended act n ending o s) few (states o.packets s.quads s.layer.node act n ending o s (refl, refl, refl))

  ends_for : (purpose : Option Purpose) (ending : Ending) → length s.quads ≤ 256 → Ends (o, s) (ended_for purpose ending o s)
  ends_for None ending few = still (o, s) few (refl, refl, refl)
  ends_for (Some purpose) ending few = ends_step purpose ending few

-- ---- what a delivery is found to be
-- what is found is what the bytes are; and only a response changes the layer
abbrev IsFound : ℕ → List ℕ → Finding Purpose → Layer Purpose → Type 0
IsFound node bytes (of_response p label purpose) layer = IsRead bytes p true
IsFound node bytes (of_again p rcode) layer = IsRead bytes p false × (layer.node ≡ node)
IsFound node bytes (of_request p) layer = IsRead bytes p false × (layer.node ≡ node)
IsFound node bytes _ layer = Unit {0}

-- whether a row is of responses
abbrev RowSays : Row → Facts → Type 0
RowSays by_response facts = facts.is_response ≡ true
RowSays by_again facts = facts.is_response ≡ false
RowSays by_request facts = facts.is_response ≡ false
RowSays _ facts = Unit {0}

row_says_at : (c n r a p : Bool) → (let facts : Facts = record { is_current = c; is_for_node = n; is_response = r; is_awaited = a; is_repeated = p } in RowSays (row_of facts) facts)
row_says_at false n r a p = tt
row_says_at true false r a p = tt
row_says_at true true true false p = tt
row_says_at true true true true p = refl
row_says_at true true false a true = refl
row_says_at true true false a false = refl

row_says : (facts : Facts) → RowSays (row_of facts) facts
row_says facts = row_says_at facts.is_current facts.is_for_node facts.is_response facts.is_awaited facts.is_repeated

closes_found : (node : ℕ) (bytes : List ℕ) (p : Packet) (r : Option (LabelParts × Option Purpose) × Layer Purpose) → IsRead bytes p true → IsFound node bytes (responded p r).0 (responded p r).1
closes_found node bytes p (Some (label, purpose), layer) h = h
closes_found node bytes p (None, layer) h = tt

found_by : (layer : Layer Purpose) (generation : ℕ) (bytes : List ℕ) (row : Row) (read : Result Packet PacketFault) → reading bytes ≡ read → RowSays row (facts_in layer generation bytes read) → IsFound layer.node bytes (judged_by row layer bytes read).0 (judged_by row layer bytes read).1
found_by layer generation bytes by_generation read e s = tt
found_by layer generation bytes by_grammar read e s = tt
found_by layer generation bytes by_label read e s = tt
found_by layer generation bytes by_response (Ok p) e s = closes_found layer.node bytes p (closed_by (reply_kind p) layer p) (record { read = e; kind = s })
found_by layer generation bytes by_again (Ok p) e s = (record { read = e; kind = s }, refl)
found_by layer generation bytes by_request (Ok p) e s = (record { read = e; kind = s }, refl)
found_by layer generation bytes by_response (Err fault) e s = tt
found_by layer generation bytes by_again (Err fault) e s = tt
found_by layer generation bytes by_request (Err fault) e s = tt

found : (layer : Layer Purpose) (generation : ℕ) (bytes : List ℕ) → IsFound layer.node bytes (judging_step layer generation bytes).0 (judging_step layer generation bytes).1
unfolding judging_step
found layer generation bytes =
    found_by layer generation bytes (row_of (facts_of layer generation bytes)) (reading bytes) refl (row_says (facts_of layer generation bytes))

-- ---- a delivery
-- the judging changes nothing of this
from_judged : (layer : Layer Purpose) (o : OutboxState) (s : InitiatorState) (t : Turn) → Ends (o, called (record s { layer = layer })) t → Ends (o, s) t
from_judged layer o s t (asks_none p l few) = asks_none p l few
from_judged layer o s t (asks_one asked p e few) = asks_one asked p e few

as_answered : (node : ℕ) (p : Packet) (o : OutboxState) (s : InitiatorState) (t : Turn) → Answers o.packets s.quads node p t → IsAnswered node p (o, s) t
as_answered node p o s t h = record { rcode = h.0; given = h.1; packets = h.2; quads = h.3 }

-- by what is found, where the bytes were read as that
hands : (node : ℕ) (r : Finding Purpose × Layer Purpose) (bytes : List ℕ) (o : OutboxState) (s : InitiatorState) → length s.quads ≤ 256 → IsFound node bytes r.0 r.1 → Hands node bytes r.0 (o, s) (received r bytes o s).1
hands node (of_generation, layer) bytes o s few f = record { packets = refl; quads = refl }
hands node (of_grammar, layer) bytes o s few f = record { packets = refl; quads = refl }
hands node (of_label, layer) bytes o s few f = record { packets = refl; quads = refl }
hands node (of_response p label purpose, layer) bytes o s few f =
    let t = called (record s { layer = layer }) in
    (f, from_judged layer o s (ended_for purpose (ending_of p) o t) (ends_for o t purpose (ending_of p) few))
hands node (of_again p rcode, layer) bytes o s few f =
    let t = record s { layer = layer } in
    (f.0, as_answered node p o s (respond_step p bytes rcode [] (o, t)) (responds o.packets s.quads node p bytes rcode [] (o, t) (refl, refl, f.1)))
hands node (of_request p, layer) bytes o s few f =
    let t = record s { layer = layer } in
    (f.0, as_answered node p o s (request_step p bytes o t).1 (by_source o.packets s.quads node (is_foreign p t) p bytes o t (refl, refl, f.1)))

-- what is owed, by what is handed out
more_requests : (packets : List Outgoing) (packet : Outgoing) → requests (packets ++ packet ∷ []) ≡ requests packets + one_if (is_some packet.label)
more_requests [] packet = omega arith
more_requests (first ∷ packets) packet = let rest = more_requests packets packet in omega (arith, rest)

-- few quadlets, and no more is owed
record Pays (before after : Turn) : Type 0 where
  few : length after.1.quads ≤ 256
  owes_less : owes after ≤ owes before

quiet_pays : (before after : Turn) → length before.1.quads ≤ 256 → IsQuiet before after → Pays before after
quiet_pays before after few h =
    let r = ap requests h.packets in
    let q = ap length h.quads in
    record { few = omega (arith, few, q); owes_less = omega (arith, r, q) }

answered_pays : (node : ℕ) (p : Packet) (before after : Turn) → length before.1.quads ≤ 256 → IsAnswered node p before after → Pays before after
answered_pays node p before after few h =
    let r = ap requests h.packets in
    let m = more_requests before.0.packets (response p (canon (response_to node p h.rcode h.given))) in
    let q = ap length h.quads in
    record { few = omega (arith, few, q); owes_less = omega (arith, r, m, q) }

ends_pays : (before after : Turn) → Ends before after → Pays before after
ends_pays before after (asks_none p l few) =
    let r = ap requests p in record { few = few; owes_less = omega (arith, r, l) }
ends_pays before after (asks_one asked p e few) =
    let r = ap requests p in
    let m = more_requests before.0.packets (outgoing before.1.target asked) in
    record { few = few; owes_less = omega (arith, r, m, e, few) }

pays : (node : ℕ) (bytes : List ℕ) (finding : Finding Purpose) (before after : Turn) → length before.1.quads ≤ 256 → Hands node bytes finding before after → Pays before after
pays node bytes of_generation before after few h = quiet_pays before after few h
pays node bytes of_grammar before after few h = quiet_pays before after few h
pays node bytes of_label before after few h = quiet_pays before after few h
pays node bytes (of_response p label purpose) before after few h = ends_pays before after h.1
pays node bytes (of_again p rcode) before after few h = answered_pays node p before after few h.1
pays node bytes (of_request p) before after few h = answered_pays node p before after few h.1

received_hands : (generation : ℕ) (bytes : List ℕ) (o : OutboxState) (s : InitiatorState) → length s.quads ≤ 256 → Hands s.layer.node bytes (judging_step s.layer generation bytes).0 (o, s) (receive_step generation bytes o s).1
unfolding receive_step
received_hands generation bytes o s few =
    hands s.layer.node (judging_step s.layer generation bytes) bytes o s few (found s.layer generation bytes)

pub delivery_law : DeliveryLaw
delivery_law generation bytes o s few =
    let h = received_hands generation bytes o s few in
    let p = pays s.layer.node bytes (judging_step s.layer generation bytes).0 (o, s) (receive_step generation bytes o s).1 few h in
    record { hands = h; few = p.few; owes_less = p.owes_less }
