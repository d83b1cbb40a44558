-- A course of moves that may be made, computed on its bytes: a write of a quadlet is asked, delivered and answered, its response closes it,
-- and the request comes once more.
use Rattle.std.proofs.lemmas.List.Elements.{All-cons}
use Rattle.std.specs.List.{All}
use Rattle.std.specs.Prelude.{◌≡◌, ℕ, ◌<◌, ◌^◌, Bool, true, false, List, [], ◌∷◌, Some, None, refl, nat_lt, ◌&&◌}
use Rattle.std.proofs.Common.{arith}
use Rattle.async_packet.specs.Packet.{write_quadlet, write_response}
use Rattle.async_packet.specs.Canon.{FitsHeader, canon, three, four}
use Rattle.async_packet.specs.Fields.{tcode_of, header_of, offset_of, rcode_of, value_of, length_of, extended_of}
use Rattle.async_packet.specs.Faults.{fault_of}
use Rattle.async_packet.specs.Reading.{reading}
use Rattle.label_table.specs.Bodies.{quadlet_write, header_to}
use Rattle.label_table.specs.Requests.{label_of, with_label, is_write, kind_of}
use Rattle.label_table.specs.Table.{begin_step, lowest_from, close_step, is_current}
use Rattle.label_table.specs.Owned.{owned_place}
use Rattle.label_table.specs.Filter.{judged, remembered}
use Rattle.label_table.specs.Layer.{asking_step, judging_step, answering_step, closing_step}
use Rattle.packet_store.specs.declared.sent.Kept.{Kept}
use Rattle.packet_store.specs.Roles.{role_of}
use Rattle.packet_store.specs.Transactions.{transaction_of}
use Rattle.packet_store.specs.Transactions as stored
use Rattle.sbp_journal.specs.Transactions.{part_of, is_to, is_same, asked_by, begun_by, belongs}
use Rattle.sbp_journal.specs.Wire.{terms}
use Rattle.sbp_journal.specs.declared.event.Event.TheVariants as events
use Rattle.bus_transactions.specs.Course.{CanHappen, ClosesUnjudged}
use Rattle.bus_transactions.specs.Wire.{Reply, as_before, as_decided, Due}
use Rattle.bus_transactions.specs.Moves.{Move, ask, answer, deliver, start, after, inject}
use Rattle.bus_transactions.specs.May.{MayAsk, MayAnswer, MayDeliver, MayStart, MayInject}

abbrev request : List ℕ
request = canon (write_quadlet (header_to 65473 65472 0) 0 7)

abbrev reply : List ℕ
reply = canon (write_response (header_to 65472 65473 0) 0)

abbrev request_kept : (in_flight : Bool) → Kept
request_kept in_flight = record { serial = 1; in_flight = in_flight; sent = record { generation = 0; from = 1; to = 0; bytes = request; injected = false } }

abbrev reply_kept : Kept
reply_kept = record { serial = 2; in_flight = true; sent = record { generation = 0; from = 0; to = 1; bytes = reply; injected = false } }

abbrev due : Reply → Due
due how = record {
  serial = 1;
  request = record { generation = 0; from = 1; to = 0; bytes = request; injected = false };
  packet = write_quadlet (header_to 65473 65472 0) 0 7;
  reply = how;
}

-- the latest move first
abbrev m1 : List Move
m1 = ask 1 0 (quadlet_write 0 7) ∷ []

abbrev m2 : List Move
m2 = deliver (request_kept true) None ∷ m1

abbrev m3 : List Move
m3 = answer 0 [] ∷ m2

abbrev m4 : List Move
m4 = deliver reply_kept None ∷ m3

abbrev m5 : List Move
m5 = start 2 (events.Repeat 1) ∷ m4

abbrev m6 : List Move
m6 = deliver (request_kept false) None ∷ m5

abbrev m7 : List Move
m7 = answer 0 [] ∷ m6

fits : (source destination : ℕ) → source < 2 ^ 16 → destination < 2 ^ 16 → FitsHeader (header_to source destination 0)
fits source destination a b = record { destination = b; label = omega arith; retry = omega arith; priority = omega arith; source = a }

may1 : MayAsk (after []) 1 0 (quadlet_write 0 7)
may1 = record { free = refl; node_small = omega arith; peer_small = omega arith; valid = (fits 65473 65472 (omega arith) (omega arith), omega arith, omega arith) }

may2 : MayDeliver (after m1) (request_kept true) None
unfolding three four tcode_of header_of offset_of rcode_of value_of length_of extended_of fault_of reading label_of with_label is_write kind_of begin_step lowest_from close_step is_current owned_place judged remembered asking_step judging_step answering_step closing_step role_of transaction_of stored.begun_by stored.belongs part_of is_to is_same asked_by begun_by belongs
may2 = record { free = refl; kept_is = refl; flies = λ e. refl; known = refl }

may3 : MayAnswer (after m2) 0 []
unfolding three four tcode_of header_of offset_of rcode_of value_of length_of extended_of fault_of reading label_of with_label is_write kind_of begin_step lowest_from close_step is_current owned_place judged remembered asking_step judging_step answering_step closing_step role_of transaction_of stored.begun_by stored.belongs part_of is_to is_same asked_by begun_by belongs
may3 = record { due = due (as_decided None); owed = refl; stated = refl; gives = tt; valid = (fits 65472 65473 (omega arith) (omega arith), omega arith) }

may4 : MayDeliver (after m3) reply_kept None
unfolding three four tcode_of header_of offset_of rcode_of value_of length_of extended_of fault_of reading label_of with_label is_write kind_of begin_step lowest_from close_step is_current owned_place judged remembered asking_step judging_step answering_step closing_step role_of transaction_of stored.begun_by stored.belongs part_of is_to is_same asked_by begun_by belongs
may4 = record { free = refl; kept_is = refl; flies = λ e. refl; known = refl }

may5 : MayStart (after m4) (events.Repeat 1)
unfolding three four tcode_of header_of offset_of rcode_of value_of length_of extended_of fault_of reading label_of with_label is_write kind_of begin_step lowest_from close_step is_current owned_place judged remembered asking_step judging_step answering_step closing_step role_of transaction_of stored.begun_by stored.belongs part_of is_to is_same asked_by begun_by belongs
may5 = record { free = refl; other = refl }

may6 : MayDeliver (after m5) (request_kept false) None
unfolding three four tcode_of header_of offset_of rcode_of value_of length_of extended_of fault_of reading label_of with_label is_write kind_of begin_step lowest_from close_step is_current owned_place judged remembered asking_step judging_step answering_step closing_step role_of transaction_of stored.begun_by stored.belongs part_of is_to is_same asked_by begun_by belongs
may6 = record { free = refl; kept_is = refl; flies = λ e. cc; known = refl }

may7 : MayAnswer (after m6) 0 []
unfolding three four tcode_of header_of offset_of rcode_of value_of length_of extended_of fault_of reading label_of with_label is_write kind_of begin_step lowest_from close_step is_current owned_place judged remembered asking_step judging_step answering_step closing_step role_of transaction_of stored.begun_by stored.belongs part_of is_to is_same asked_by begun_by belongs
may7 = record { due = due (as_before 0); owed = refl; stated = refl; gives = tt; valid = (fits 65472 65473 (omega arith) (omega arith), omega arith) }

closed_is : (terms (after m7).past).closed 1 ≡ Some 0
unfolding three four tcode_of header_of offset_of rcode_of value_of length_of extended_of fault_of reading label_of with_label is_write kind_of begin_step lowest_from close_step is_current owned_place judged remembered asking_step judging_step answering_step closing_step role_of transaction_of stored.begun_by stored.belongs part_of is_to is_same asked_by begun_by belongs
closed_is = refl

judged_is : (terms (after m7).past).judged 1 ≡ 2
unfolding three four tcode_of header_of offset_of rcode_of value_of length_of extended_of fault_of reading label_of with_label is_write kind_of begin_step lowest_from close_step is_current owned_place judged remembered asking_step judging_step answering_step closing_step role_of transaction_of stored.begun_by stored.belongs part_of is_to is_same asked_by begun_by belongs
judged_is = refl

news_is : (terms (after m7).past).news 1 ≡ 1
unfolding three four tcode_of header_of offset_of rcode_of value_of length_of extended_of fault_of reading label_of with_label is_write kind_of begin_step lowest_from close_step is_current owned_place judged remembered asking_step judging_step answering_step closing_step role_of transaction_of stored.begun_by stored.belongs part_of is_to is_same asked_by begun_by belongs
news_is = refl

sent_is : (terms (after m7).past).count ≡ 3
unfolding three four tcode_of header_of offset_of rcode_of value_of length_of extended_of fault_of reading label_of with_label is_write kind_of begin_step lowest_from close_step is_current owned_place judged remembered asking_step judging_step answering_step closing_step role_of transaction_of stored.begun_by stored.belongs part_of is_to is_same asked_by begun_by belongs
sent_is = refl

pub happens : CanHappen
happens = record {
  moves = m7;
  may = (may7, (may6, (may5, (may4, (may3, (may2, (may1, tt)))))));
  closed = closed_is;
  judged = judged_is;
  news = news_is;
  sent = sent_is;
}

-- ---- a response that the responder injects
abbrev injected : List ℕ
injected = 255 ∷ 193 ∷ 1 ∷ 32 ∷ 255 ∷ 192 ∷ 0 ∷ 0 ∷ 0 ∷ 0 ∷ 0 ∷ 0 ∷ []

abbrev injected_kept : Kept
injected_kept = record { serial = 2; in_flight = true; sent = record { generation = 0; from = 0; to = 1; bytes = injected; injected = true } }

abbrev i2 : List Move
i2 = inject 0 1 injected ∷ m1

abbrev i3 : List Move
i3 = deliver injected_kept None ∷ i2

abbrev are_small : List ℕ → Bool
are_small [] = true
are_small (x ∷ xs) = nat_lt x 256 && are_small xs

small_by : (xs : List ℕ) → are_small xs ≡ true → All (λ byte. byte < 256) xs
small_by [] e = λ k d h. absurd (omega (arith, h))
small_by (x ∷ xs) e = All-cons (λ byte. byte < 256) x xs (first_is (nat_lt x 256) (are_small xs) x refl e) (small_by xs (rest_is (nat_lt x 256) (are_small xs) e))
  where
    first_is : (a b : Bool) (x : ℕ) → nat_lt x 256 ≡ a → (a && b) ≡ true → x < 256
    first_is true b x i e = grind arith
    first_is false b x i e = cc

    rest_is : (a b : Bool) → (a && b) ≡ true → b ≡ true
    rest_is true b e = e
    rest_is false b e = cc

bytes_fit : All (λ byte. byte < 256) injected
bytes_fit = small_by injected refl

may_inject : MayInject (after m1) 0 1 injected
unfolding three four tcode_of header_of offset_of rcode_of value_of length_of extended_of fault_of reading label_of with_label is_write kind_of begin_step lowest_from close_step is_current owned_place judged remembered asking_step judging_step answering_step closing_step role_of transaction_of stored.begun_by stored.belongs part_of is_to is_same asked_by begun_by belongs
may_inject = record { free = refl; node_small = omega arith; peer_small = omega arith; bytes_fit = bytes_fit; source = refl; destination = refl }

may_close : MayDeliver (after i2) injected_kept None
unfolding three four tcode_of header_of offset_of rcode_of value_of length_of extended_of fault_of reading label_of with_label is_write kind_of begin_step lowest_from close_step is_current owned_place judged remembered asking_step judging_step answering_step closing_step role_of transaction_of stored.begun_by stored.belongs part_of is_to is_same asked_by begun_by belongs
may_close = record { free = refl; kept_is = refl; flies = λ e. refl; known = refl }

closed_by_it : (terms (after i3).past).closed 1 ≡ Some 0
unfolding three four tcode_of header_of offset_of rcode_of value_of length_of extended_of fault_of reading label_of with_label is_write kind_of begin_step lowest_from close_step is_current owned_place judged remembered asking_step judging_step answering_step closing_step role_of transaction_of stored.begun_by stored.belongs part_of is_to is_same asked_by begun_by belongs
closed_by_it = refl

unjudged_still : (terms (after i3).past).judged 1 ≡ 0
unfolding three four tcode_of header_of offset_of rcode_of value_of length_of extended_of fault_of reading label_of with_label is_write kind_of begin_step lowest_from close_step is_current owned_place judged remembered asking_step judging_step answering_step closing_step role_of transaction_of stored.begun_by stored.belongs part_of is_to is_same asked_by begun_by belongs
unjudged_still = refl

pub closes : ClosesUnjudged
closes = record { moves = i3; may = (may_close, (may_inject, (may1, tt))); closed = closed_by_it; unjudged = unjudged_still }
