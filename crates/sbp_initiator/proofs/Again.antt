-- What comes again is a write, so its answer gives no bytes.
use Rattle.std.proofs.Common.{◌≡◌, refl, sym, ap, ◌∙◌, ℕ, nat_le, ◌&&◌, Bool, true, false, cond, List, [], Option, Some, None, Result, Ok, Err}
use Rattle.async_packet.specs.Packet.{Packet, header_in, write_quadlet, write_block, write_response, read_quadlet, read_block, read_quadlet_response, read_block_response, lock, lock_response}
use Rattle.async_packet.specs.declared.fault.PacketFault.{PacketFault}
use Rattle.async_packet.specs.Labels.{LabelParts}
use Rattle.async_packet.specs.Reading.{reading}
use Rattle.label_table.specs.declared.reply.Verdict.TheVariants as verdicts
use Rattle.label_table.specs.Bodies.{Gives}
use Rattle.label_table.specs.Filter.{SourcePlace, judge_at, judged, place_for, request_at, source_at}
use Rattle.label_table.specs.Requests.{IsRequestOf, is_last, is_write, label_of, reply_kind}
use Rattle.label_table.specs.Judging.{Row, by_generation, by_grammar, by_label, by_response, by_again, by_request, row_of}
use Rattle.label_table.specs.Layer.{Layer, Finding, IsLent, of_generation, of_grammar, of_label, of_response, of_again, of_request, closed_by, facts_in, facts_of, is_again, judged_by, judging_step, responded}
use Rattle.sbp_initiator.specs.declared.purpose.Purpose.{Purpose}
use Rattle.sbp_initiator.specs.Judged.{AgainGives}

-- the row of a write that comes again
repeated : (a b c d e : Bool) → row_of (record { is_current = a; is_for_node = b; is_response = c; is_awaited = d; is_repeated = e }) ≡ by_again → e ≡ true
repeated a b c d true h = refl
repeated false b c d false h = cc
repeated true false c d false h = cc
repeated true true true false false h = cc
repeated true true true true false h = cc
repeated true true false d false h = cc

by_verdict : (w l : Bool) (rcode : ℕ) → is_again (cond (w && l) (verdicts.Again rcode) verdicts.Fresh) ≡ true → w ≡ true
by_verdict true l rcode h = refl
by_verdict false l rcode h = cc

by_place : (place : SourcePlace) (bytes : List ℕ) → is_again (judged place bytes) ≡ true → is_write bytes ≡ true
unfolding judged
by_place place bytes h =
    by_verdict (is_write bytes) (is_last (request_at (label_of bytes) place).last bytes) (request_at (label_of bytes) place).rcode h

by_judge : (k : Option ℕ) (places : List SourcePlace) (bytes : List ℕ) → is_again (judge_at k places bytes) ≡ true → is_write bytes ≡ true
by_judge None places bytes h = cc
by_judge (Some k) places bytes h = by_place (source_at places k) bytes h

-- a response that is awaited does not come again
no_again : (p q : Packet) (rcode : ℕ) (r : Option (LabelParts × Option Purpose) × Layer Purpose) → (responded q r).0 ≡ of_again p rcode → ⊥
no_again p q rcode (Some (label, purpose), layer) h = cc
no_again p q rcode (None, layer) h = cc

untrue : false ≡ true → ⊥
untrue h = cc

request_differs : (x : Finding Purpose) (p q : Packet) (rcode : ℕ) → x ≡ of_request q → x ≡ of_again p rcode → ⊥
request_differs x p q rcode e h = cc

generation_differs : (x : Finding Purpose) (p : Packet) (rcode : ℕ) → x ≡ of_generation → x ≡ of_again p rcode → ⊥
generation_differs x p rcode e h = cc

grammar_differs : (x : Finding Purpose) (p : Packet) (rcode : ℕ) → x ≡ of_grammar → x ≡ of_again p rcode → ⊥
grammar_differs x p rcode e h = cc

label_differs : (x : Finding Purpose) (p : Packet) (rcode : ℕ) → x ≡ of_label → x ≡ of_again p rcode → ⊥
label_differs x p rcode e h = cc

again_write : (row : Row) (layer : Layer Purpose) (generation : ℕ) (bytes : List ℕ) (read : Result Packet PacketFault) (p : Packet) (rcode : ℕ) → row_of (facts_in layer generation bytes read) ≡ row → (judged_by row layer bytes read).0 ≡ of_again p rcode → is_write bytes ≡ true
again_write by_again layer generation bytes (Ok q) p rcode f h =
    by_judge (place_for (header_in q).source layer.filter) layer.filter bytes (repeated _ _ _ _ _ f)
again_write by_response layer generation bytes (Ok q) p rcode f h = absurd (no_again p q rcode (closed_by (reply_kind q) layer q) h)
again_write by_request layer generation bytes (Ok q) p rcode f h = absurd (request_differs _ p q rcode refl h)
again_write by_generation layer generation bytes read p rcode f h = absurd (generation_differs _ p rcode refl h)
again_write by_grammar layer generation bytes read p rcode f h = absurd (grammar_differs _ p rcode refl h)
again_write by_label layer generation bytes read p rcode f h = absurd (label_differs _ p rcode refl h)
again_write by_again layer generation bytes (Err fault) p rcode f h = absurd (grammar_differs _ p rcode refl h)
again_write by_response layer generation bytes (Err fault) p rcode f h = absurd (grammar_differs _ p rcode refl h)
again_write by_request layer generation bytes (Err fault) p rcode f h = absurd (grammar_differs _ p rcode refl h)

-- a write gives no bytes
write_gives : (p : Packet) (bytes : List ℕ) (rcode : ℕ) (given : List ℕ) → IsRequestOf bytes p → is_write bytes ≡ true → Gives p rcode given
unfolding is_write
write_gives (write_quadlet header offset value) bytes rcode given r w = tt
write_gives (write_block header offset payload) bytes rcode given r w = tt
write_gives (write_response header code) bytes rcode given r w = tt
write_gives (read_quadlet header offset) bytes rcode given r w =
    let t = r.spelled.0.kind in let f : false ≡ true = ap (λ (n : ℕ). nat_le n 1) (sym t) ∙ w in absurd (untrue f)
write_gives (read_block header offset asked) bytes rcode given r w =
    let t = r.spelled.0.kind in let f : false ≡ true = ap (λ (n : ℕ). nat_le n 1) (sym t) ∙ w in absurd (untrue f)
write_gives (read_quadlet_response header code value) bytes rcode given r w = tt
write_gives (read_block_response header code payload) bytes rcode given r w = tt
write_gives (lock header offset extended payload) bytes rcode given r w = tt
write_gives (lock_response header code extended payload) bytes rcode given r w = tt

pub again_gives : (layer after : Layer Purpose) (generation : ℕ) (bytes : List ℕ) (p : Packet) (rcode : ℕ) (given : List ℕ) → (of_again p rcode, after) ≡ judging_step layer generation bytes → IsRequestOf bytes p → Gives p rcode given
unfolding judging_step
again_gives layer after generation bytes p rcode given e r =
    let h : (judged_by (row_of (facts_of layer generation bytes)) layer bytes (reading bytes)).0 ≡ of_again p rcode = ap (λ (x : Finding Purpose × Layer Purpose). x.0) (sym e) in
    write_gives p bytes rcode given r (again_write (row_of (facts_of layer generation bytes)) layer generation bytes (reading bytes) p rcode refl h)

pub again_clause : (finding : Finding Purpose) (layer after : Layer Purpose) (generation : ℕ) (bytes : List ℕ) → (finding, after) ≡ judging_step layer generation bytes → IsLent bytes finding → AgainGives finding
again_clause (of_again p rcode) layer after generation bytes e h = again_gives layer after generation bytes p rcode [] e h.0
again_clause of_generation layer after generation bytes e h = tt
again_clause of_grammar layer after generation bytes e h = tt
again_clause of_label layer after generation bytes e h = tt
again_clause (of_response p label purpose) layer after generation bytes e h = tt
again_clause (of_request p) layer after generation bytes e h = tt
