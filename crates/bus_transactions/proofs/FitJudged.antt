-- What a delivery is found to be is what its bytes spell; a request is of the layer's generation, and a write that comes again is given nothing.
use Rattle.std.proofs.Common.{arith, ◌≡◌, ◌≢◌, take, drop, refl, sym, ap, ◌∙◌, subst, ℕ, suc, ◌+◌, ◌/◌, ◌%◌, ◌^◌, ◌<◌, ◌≤◌, ◌==◌, ◌&&◌, nat_eq, not, is_some, Bool, true, false, cond, List, [], length, Option, Some, None, Result, Ok, Err}
use Rattle.std.proofs.lemmas.Bool.Decides.{nat_tests}
use Rattle.sbp_base.specs.Quadlets.{quad}
use Rattle.async_packet.specs.declared.fault.PacketFault.{PacketFault}
use Rattle.async_packet.specs.declared.packet.Header.{Header}
use Rattle.async_packet.specs.Fields.{header_of, tcode_of}
use Rattle.async_packet.specs.Labels.{LabelParts}
use Rattle.async_packet.specs.Packet.{Packet, header_in, lock, lock_response, read_block, read_block_response, read_quadlet, read_quadlet_response, write_block, write_quadlet, write_response}
use Rattle.async_packet.specs.Reading.{reading}
use Rattle.async_packet.specs.Spells.{HasPayload, Spells}
use Rattle.async_packet.proofs.Headers.{header_spelled}
use Rattle.async_packet.proofs.Spelled.{reads_spelling}
use Rattle.bus_transactions.specs.Fitting.{AreBytes, FitsAnswer, FitsFilter}
use Rattle.bus_transactions.proofs.Fits.{bytes_drop, bytes_take, no_bytes, quad_fits}
use Rattle.label_table.specs.declared.reply.ReplyKind.{ReplyKind}
use Rattle.label_table.specs.declared.reply.Verdict.{Verdict}
use Rattle.label_table.specs.declared.reply.Verdict.TheVariants as verdicts
use Rattle.label_table.specs.Bodies.{Gives}
use Rattle.label_table.specs.Filter.{SourcePlace, judge_at, judge_step, judged, place_for, request_at, source_at}
use Rattle.label_table.specs.Judging.{Facts, Row, by_generation, by_grammar, by_label, by_response, by_again, by_request, row_of}
use Rattle.label_table.specs.Layer.{Layer, Finding, of_generation, of_grammar, of_label, of_response, of_again, of_request, closed_by, facts_in, facts_of, is_again, judged_by, judging_step, rcode_in, responded}
use Rattle.label_table.specs.Requests.{IsRequestOf, is_last, is_request_packet, is_write, label_of, reply_kind}

-- ---- what bytes spell
pub spelled : (bytes : List ℕ) (p : Packet) → reading bytes ≡ Ok p → Spells bytes p
spelled bytes p e = (reads_spelling.packets bytes p).0 e

source_quad : (bytes : List ℕ) → AreBytes bytes → (header_of bytes).source < 2 ^ 16
unfolding header_of
source_quad bytes a = let q = quad_fits bytes 4 a in omega arith

pub source_fits : (bytes : List ℕ) (p : Packet) → reading bytes ≡ Ok p → AreBytes bytes → (header_in p).source < 2 ^ 16
source_fits bytes p e a = subst (λ (h : Header). h.source < 2 ^ 16) (sym (header_spelled bytes p (spelled bytes p e))) (source_quad bytes a)

asks_if : (kind : Option ReplyKind) → is_some kind ≡ false → not (is_some kind) ≡ true
asks_if None e = refl
asks_if (Some kind) e = cc

pub is_request : (bytes : List ℕ) (p : Packet) → reading bytes ≡ Ok p → is_some (reply_kind p) ≡ false → IsRequestOf bytes p
is_request bytes p e k = record { spelled = spelled bytes p e; asks = asks_if (reply_kind p) k }

-- the payload of a packet
abbrev pub BytesOf : Packet → Type 0
BytesOf (write_block header offset payload) = AreBytes payload
BytesOf (read_block_response header rcode payload) = AreBytes payload
BytesOf _ = Unit {0}

payload_small : (payload bytes : List ℕ) → HasPayload bytes payload → AreBytes bytes → AreBytes payload
payload_small payload bytes h a =
    subst (λ (xs : List ℕ). AreBytes xs) (sym h.here) (bytes_take (length payload) (drop 16 bytes) (bytes_drop 16 bytes a))

pub bytes_of : (p : Packet) (bytes : List ℕ) → Spells bytes p → AreBytes bytes → BytesOf p
bytes_of (write_quadlet header offset value) bytes s a = tt
bytes_of (write_block header offset payload) bytes s a = payload_small payload bytes s.2 a
bytes_of (read_quadlet header offset) bytes s a = tt
bytes_of (read_block header offset asked) bytes s a = tt
bytes_of (write_response header rcode) bytes s a = tt
bytes_of (read_quadlet_response header rcode value) bytes s a = tt
bytes_of (read_block_response header rcode payload) bytes s a = payload_small payload bytes s.2 a
bytes_of (lock header offset extended payload) bytes s a = tt
bytes_of (lock_response header rcode extended payload) bytes s a = tt

-- nothing is given where the rcode is not 0
pub not_complete : (n : ℕ) → suc n ≢ 0
not_complete n e = cc

pub no_gives : (p : Packet) (rcode : ℕ) (given : List ℕ) → rcode ≢ 0 → Gives p rcode given
no_gives (write_quadlet header offset value) rcode given n = tt
no_gives (write_block header offset payload) rcode given n = tt
no_gives (read_quadlet header offset) rcode given n = λ e. absurd (n e)
no_gives (read_block header offset asked) rcode given n = λ e. absurd (n e)
no_gives (write_response header code) rcode given n = tt
no_gives (read_quadlet_response header code value) rcode given n = tt
no_gives (read_block_response header code payload) rcode given n = tt
no_gives (lock header offset extended payload) rcode given n = tt
no_gives (lock_response header code extended payload) rcode given n = tt

-- ---- a write that comes again
abbrev IfAgain : Verdict → (ℕ → Type 0) → Type 0
IfAgain (verdicts.Again rcode) F = F rcode
IfAgain verdicts.Fresh F = Unit {0}
IfAgain verdicts.Crowded F = Unit {0}

judged_again : (place : SourcePlace) (bytes : List ℕ) → ((label : ℕ) → (request_at label place).rcode < 2 ^ 4) → IfAgain (judged place bytes) (λ rcode. (rcode < 2 ^ 4) × (is_write bytes ≡ true))
unfolding judged
judged_again place bytes f = by (is_write bytes) (is_last (request_at (label_of bytes) place).last bytes) refl
  where
    by : (a b : Bool) → is_write bytes ≡ a → IfAgain (cond (a && b) (verdicts.Again (request_at (label_of bytes) place).rcode) verdicts.Fresh) (λ rcode. (rcode < 2 ^ 4) × (is_write bytes ≡ true))
    by true true e = (f (label_of bytes), e)
    by true false e = tt
    by false b e = tt

again_at : (found : Option ℕ) (filter : List SourcePlace) (bytes : List ℕ) → FitsFilter filter → IfAgain (judge_at found filter bytes) (λ rcode. (rcode < 2 ^ 4) × (is_write bytes ≡ true))
again_at None filter bytes f = tt
again_at (Some k) filter bytes f = judged_again (source_at filter k) bytes (f k)

again_in : (v : Verdict) (F : ℕ → Type 0) → is_again v ≡ true → IfAgain v F → F (rcode_in v)
again_in (verdicts.Again rcode) F e h = h
again_in verdicts.Fresh F e h = cc
again_in verdicts.Crowded F e h = cc

no_write : (bytes : List ℕ) (tcode : ℕ) → tcode_of bytes ≡ tcode → is_write bytes ≡ true → 2 ≤ tcode → ⊥
unfolding is_write
no_write bytes tcode e w h = grind (arith, nat_tests)

write_gives : (bytes : List ℕ) (p : Packet) → Spells bytes p → is_write bytes ≡ true → (rcode : ℕ) (given : List ℕ) → Gives p rcode given
write_gives bytes (write_quadlet header offset value) s w rcode given = tt
write_gives bytes (write_block header offset payload) s w rcode given = tt
write_gives bytes (write_response header code) s w rcode given = tt
write_gives bytes (read_quadlet header offset) s w rcode given = absurd (no_write bytes 4 s.0.kind w (omega arith))
write_gives bytes (read_block header offset asked) s w rcode given = absurd (no_write bytes 5 s.0.kind w (omega arith))
write_gives bytes (read_quadlet_response header code value) s w rcode given = tt
write_gives bytes (read_block_response header code payload) s w rcode given = tt
write_gives bytes (lock header offset extended payload) s w rcode given = tt
write_gives bytes (lock_response header code extended payload) s w rcode given = tt

-- ---- what is found
pub record IsReadOf (generation now : ℕ) (bytes : List ℕ) (p : Packet) : Type 0 where
  pub read : reading bytes ≡ Ok p
  pub request : IsRequestOf bytes p
  pub current : generation ≡ now

-- what a row says of its facts
abbrev RowSays : Row → Facts → Type 0
RowSays by_again facts = (facts.is_current ≡ true) × (facts.is_response ≡ false) × (facts.is_repeated ≡ true)
RowSays by_request facts = (facts.is_current ≡ true) × (facts.is_response ≡ false)
RowSays _ facts = Unit {0}

row_says_at : (c n r a p : Bool) → RowSays (row_of (record { is_current = c; is_for_node = n; is_response = r; is_awaited = a; is_repeated = p })) (record { is_current = c; is_for_node = n; is_response = r; is_awaited = a; is_repeated = p })
row_says_at false n r a p = tt
row_says_at true false r a p = tt
row_says_at true true true false p = tt
row_says_at true true true true p = tt
row_says_at true true false a true = (refl, refl, refl)
row_says_at true true false a false = (refl, refl)

row_says : (facts : Facts) → RowSays (row_of facts) facts
row_says facts = row_says_at facts.is_current facts.is_for_node facts.is_response facts.is_awaited facts.is_repeated

equal : (m n : ℕ) → (m == n) ≡ true → m ≡ n
equal m n e = grind (arith, nat_tests)

module _ {P : Type 0} where
  abbrev pub IsFoundAs : Layer P → ℕ → List ℕ → Finding P → Type 0
  IsFoundAs layer generation bytes of_generation = Unit {0}
  IsFoundAs layer generation bytes of_grammar = Unit {0}
  IsFoundAs layer generation bytes of_label = Unit {0}
  IsFoundAs layer generation bytes (of_response p label purpose) = reading bytes ≡ Ok p
  IsFoundAs layer generation bytes (of_again p rcode) = IsReadOf generation layer.generation bytes p × FitsAnswer p rcode []
  IsFoundAs layer generation bytes (of_request p) = IsReadOf generation layer.generation bytes p

  responded_as : (layer : Layer P) (generation : ℕ) (bytes : List ℕ) (p : Packet) (r : Option (LabelParts × Option P) × Layer P) → reading bytes ≡ Ok p → IsFoundAs layer generation bytes (responded p r).0
  responded_as layer generation bytes p (Some (label, purpose), now) e = e
  responded_as layer generation bytes p (None, now) e = tt

  found_by : (row : Row) (layer : Layer P) (generation : ℕ) (bytes : List ℕ) (read : Result Packet PacketFault) → FitsFilter layer.filter → reading bytes ≡ read → RowSays row (facts_in layer generation bytes read) → IsFoundAs layer generation bytes (judged_by row layer bytes read).0
  found_by by_generation layer generation bytes read f e s = tt
  found_by by_grammar layer generation bytes read f e s = tt
  found_by by_label layer generation bytes read f e s = tt
  found_by by_response layer generation bytes (Ok p) f e s = responded_as layer generation bytes p (closed_by (reply_kind p) layer p) e
  found_by by_again layer generation bytes (Ok p) f e s =
      let source = (header_in p).source in
      let h = again_in (judge_step layer.filter source bytes) (λ rcode. (rcode < 2 ^ 4) × (is_write bytes ≡ true)) s.2 (again_at (place_for source layer.filter) layer.filter bytes f) in (
        record { read = e; request = is_request bytes p e s.1; current = equal generation layer.generation s.0 },
        record { small = h.0; bytes = no_bytes; gives = write_gives bytes p (spelled bytes p e) h.1 (rcode_in (judge_step layer.filter source bytes)) [] },
      )
  found_by by_request layer generation bytes (Ok p) f e s = record { read = e; request = is_request bytes p e s.1; current = equal generation layer.generation s.0 }
  found_by by_response layer generation bytes (Err fault) f e s = tt
  found_by by_again layer generation bytes (Err fault) f e s = tt
  found_by by_request layer generation bytes (Err fault) f e s = tt

  pub found_as : (layer : Layer P) (generation : ℕ) (bytes : List ℕ) → FitsFilter layer.filter → IsFoundAs layer generation bytes (judging_step layer generation bytes).0
  unfolding judging_step
  found_as layer generation bytes f =
      found_by (row_of (facts_of layer generation bytes)) layer generation bytes (reading bytes) f refl (row_says (facts_of layer generation bytes))
