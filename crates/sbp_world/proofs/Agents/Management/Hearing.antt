-- What the history says of a packet that the target got, where its transaction layer found it a response.
use Rattle.sbp_world.proofs.Words.Std.{arith, ◌≡◌, ◌∙◌, refl, sym, ap, subst, ℕ, ◌==◌, is_some, Bool, true, false, cond, List, Option, Some, None, Result, Ok, Err, nat_tests}
use Rattle.sbp_world.proofs.Words.Wire.{PacketFault, LabelParts, Packet, header_in, lock, lock_response, read_block, read_block_response, read_quadlet, read_quadlet_response, write_block, write_quadlet, write_response, reading, is_awaited, is_response, may_get, waits_for, LabelState, ReplyKind, Facts, Row, by_again, by_generation, by_grammar, by_label, by_request, by_response, row_of, Finding, Layer, closed_at, closed_by, closing_in, closing_step, facts_in, layer_facts, judged_by, judging_step, of_again, of_generation, of_grammar, of_label, of_request, of_response, peer_at, peer_place, responded, PeerPlace, close_place, closed_for, reply_kind, Table, close_in, close_step, handle, place_at, Kind, Part, Sending, between, is_same_kind, locking, part_in, part_of, reading_block, reading_quadlet, request, response, writing, Held, Terms, free, rests, waits}
use Rattle.sbp_world.proofs.Words.Target.{Purpose, answer_in}
use Rattle.sbp_world.proofs.Words.Laws.{answer_of, answered_as, answered_at, answered_in, wire_closed}
use Rattle.std.specs.Prelude.{IfSome}
use Rattle.bus_transactions.specs.Judging.{facts_of}
use Rattle.bus_transactions.proofs.PacketParts.{PartOf, asks, part_case, part_read, replies}
use Rattle.label_table.specs.declared.place.LabelState.TheVariants as states

-- ---- the label that a response closes has the number in its header

abbrev HasNumber : ℕ → LabelParts × Option Purpose → Type 0
HasNumber n closed = closed.0.number ≡ n

pub closed_if : (b : Bool) (table : Table) (n serial : ℕ) (other : Table) → IfSome (cond {A = Option LabelParts × Table} b (Some (handle table n serial), other) (None, table)).0 (λ label. label.number ≡ n)
closed_if true table n serial other = refl
closed_if false table n serial other = tt

pub closes_number : (state : LabelState) (kind : ReplyKind) (table : Table) (n : ℕ) → IfSome (close_in state kind table n).0 (λ label. label.number ≡ n)
closes_number (states.UnderWay own serial) kind table n = closed_if _ table n serial _
closes_number states.Free kind table n = tt
closes_number states.Resting kind table n = tt

pub place_number : (place : PeerPlace Purpose) (n : ℕ) (r : Option LabelParts × Table) → IfSome r.0 (λ label. label.number ≡ n) → IfSome (closed_for place r).0 (HasNumber n)
place_number place n (Some label, table) h = h
place_number place n (None, table) h = tt

pub at_number : (k : ℕ) (layer : Layer Purpose) (n : ℕ) (r : Option (LabelParts × Option Purpose) × PeerPlace Purpose) → IfSome r.0 (HasNumber n) → IfSome (closed_at k layer r).0 (HasNumber n)
at_number k layer n (Some closed, place) h = h
at_number k layer n (None, place) h = tt

in_number : (k : Option ℕ) (layer : Layer Purpose) (n : ℕ) (kind : ReplyKind) → IfSome (closing_in k layer n kind).0 (HasNumber n)
unfolding close_step
in_number None layer n kind = tt
in_number (Some k) layer n kind =
    at_number k layer n (close_place (peer_at layer k) n kind) (place_number (peer_at layer k) n (close_step (peer_at layer k).table n kind) (closes_number (place_at (peer_at layer k).table n).state kind (peer_at layer k).table n))

step_number : (layer : Layer Purpose) (peer n : ℕ) (kind : ReplyKind) → IfSome (closing_step layer peer n kind).0 (HasNumber n)
unfolding closing_step
step_number layer peer n kind = in_number (peer_place peer layer) layer n kind

abbrev Numbered : Finding Purpose → Type 0
Numbered (of_response p label purpose) = label.number ≡ (header_in p).label
Numbered finding = Unit {0}

pub responded_number : (p : Packet) (r : Option (LabelParts × Option Purpose) × Layer Purpose) → IfSome r.0 (HasNumber (header_in p).label) → Numbered (responded p r).0
responded_number p (Some (label, purpose), layer) h = h
responded_number p (None, layer) h = tt

pub by_kind : (kind : Option ReplyKind) (layer : Layer Purpose) (p : Packet) → Numbered (responded p (closed_by kind layer p)).0
by_kind None layer p = tt
by_kind (Some kind) layer p = responded_number p (closing_step layer (header_in p).source (header_in p).label kind) (step_number layer (header_in p).source (header_in p).label kind)

pub judged_number : (row : Row) (layer : Layer Purpose) (bytes : List ℕ) (read : Result Packet PacketFault) → Numbered (judged_by row layer bytes read).0
judged_number by_generation layer bytes read = tt
judged_number by_grammar layer bytes read = tt
judged_number by_label layer bytes read = tt
judged_number by_response layer bytes (Ok p) = by_kind (reply_kind p) layer p
judged_number by_again layer bytes (Ok p) = tt
judged_number by_request layer bytes (Ok p) = tt
judged_number by_response layer bytes (Err fault) = tt
judged_number by_again layer bytes (Err fault) = tt
judged_number by_request layer bytes (Err fault) = tt

pub label_number : (layer now : Layer Purpose) (generation : ℕ) (bytes : List ℕ) (p : Packet) (label : LabelParts) (purpose : Option Purpose) → judging_step layer generation bytes ≡ (of_response p label purpose, now) → label.number ≡ (header_in p).label
unfolding judging_step
label_number layer now generation bytes p label purpose e =
    subst (λ (r : Finding Purpose × Layer Purpose). Numbered r.0) e (judged_number (row_of (layer_facts layer generation bytes)) layer bytes (reading bytes))

-- ---- what is got is of the target's generation

abbrev IsNow : Type 0 → Finding Purpose → Type 0
IsNow G (of_response p label purpose) = G
IsNow G (of_request p) = G
IsNow G finding = Unit {0}

all_now : (G : Type 0) → G → (f : Finding Purpose) → IsNow G f
all_now G g of_generation = tt
all_now G g of_grammar = tt
all_now G g of_label = tt
all_now G g (of_response p label purpose) = g
all_now G g (of_again p rcode) = tt
all_now G g (of_request p) = g

now_by : (layer : Layer Purpose) (generation : ℕ) (bytes : List ℕ) (read : Result Packet PacketFault) (b : Bool) → (generation == layer.generation) ≡ b → IsNow (generation ≡ layer.generation) (judged_by (row_of (facts_in layer generation bytes read)) layer bytes read).0
now_by layer generation bytes read true e = all_now (generation ≡ layer.generation) (grind (arith, nat_tests)) (judged_by (row_of (facts_in layer generation bytes read)) layer bytes read).0
now_by layer generation bytes (Ok p) false e = rw e tt
now_by layer generation bytes (Err fault) false e = rw e tt

step_now : (layer : Layer Purpose) (generation : ℕ) (bytes : List ℕ) → IsNow (generation ≡ layer.generation) (judging_step layer generation bytes).0
unfolding judging_step
step_now layer generation bytes = now_by layer generation bytes (reading bytes) (generation == layer.generation) refl

pub response_current : (layer now : Layer Purpose) (generation : ℕ) (bytes : List ℕ) (p : Packet) (label : LabelParts) (purpose : Option Purpose) → judging_step layer generation bytes ≡ (of_response p label purpose, now) → generation ≡ layer.generation
response_current layer now generation bytes p label purpose e = subst (λ (r : Finding Purpose × Layer Purpose). IsNow (generation ≡ layer.generation) r.0) e (step_now layer generation bytes)

pub request_current : (layer now : Layer Purpose) (generation : ℕ) (bytes : List ℕ) (p : Packet) → judging_step layer generation bytes ≡ (of_request p, now) → generation ≡ layer.generation
request_current layer now generation bytes p e = subst (λ (r : Finding Purpose × Layer Purpose). IsNow (generation ≡ layer.generation) r.0) e (step_now layer generation bytes)

-- ---- a response that was got answers a request that waits

pub record IsAnswer (t : Terms) (serial : ℕ) (q : Sending) (p : Packet) : Type 0 where
  pub kind : Kind
  pub own : ℕ
  pub waited : Kind
  pub part : part_of q.bytes ≡ response (header_in p).label kind
  pub current : q.generation ≡ t.generation q.to
  pub held : t.held (between q q.to q.from (header_in p).label) ≡ waits waited own
  pub alike : is_same_kind waited kind ≡ true
  pub answered : answered_at t serial ≡ Some own

record Waits (h : Held) (kind : Kind) : Type 0 where
  own : ℕ
  waited : Kind
  is : h ≡ waits waited own
  alike : is_same_kind waited kind ≡ true
  closed : wire_closed h kind ≡ Some own

waits_by : (h : Held) (kind : Kind) → waits_for h kind ≡ true → Waits h kind
waits_by (waits k s) kind e = record { own = s; waited = k; is = refl; alike = e; closed = ap (λ b. cond b (Some s) None) e }
waits_by free kind e = absurd (let no : false ≡ true = e in cc)
waits_by rests kind e = absurd (let no : false ≡ true = e in cc)

-- the facts by which a response may be got
got_facts : (c n a r : Bool) → may_get (row_of (record { is_current = c; is_for_node = n; is_response = true; is_awaited = a; is_repeated = r })) ≡ true → (c ≡ true) × (a ≡ true)
got_facts true true true r e = (refl, refl)
got_facts true true false r e = absurd (let no : false ≡ true = e in cc)
got_facts true false a r e = absurd (let no : false ≡ true = e in cc)
got_facts false n a r e = absurd (let no : false ≡ true = e in cc)

answers_by : (t : Terms) (q : Sending) (number : ℕ) (kind : Kind) (part : Part) → part_of q.bytes ≡ part → part ≡ response number kind → may_get (row_of (facts_of t q)) ≡ true → (q.generation ≡ t.generation q.to) × Waits (t.held (between q q.to q.from number)) kind
answers_by t q number kind part e f m =
    let is : part_of q.bytes ≡ response number kind = e ∙ f in
    let facts : Part → Facts = λ x. record { is_current = q.generation == t.generation q.to; is_for_node = (facts_of t q).is_for_node; is_response = is_response x; is_awaited = is_awaited t x q; is_repeated = (facts_of t q).is_repeated } in
    let g = got_facts (q.generation == t.generation q.to) (facts_of t q).is_for_node (waits_for (t.held (between q q.to q.from number)) kind) (facts_of t q).is_repeated
    (sym (ap (λ x. may_get (row_of (facts x))) is) ∙ m) in
    ((let z = g.0 in grind (arith, nat_tests)), waits_by (t.held (between q q.to q.from number)) kind g.1)

pub label_in : (p : Packet) (l : ℕ) (k : Kind) → part_in p ≡ response l k → l ≡ (header_in p).label
label_in (write_quadlet header offset value) l k e = absurd (let no : request header.label writing ≡ response l k = e in cc)
label_in (write_block header offset payload) l k e = absurd (let no : request header.label writing ≡ response l k = e in cc)
label_in (write_response header rcode) l k e = cc
label_in (read_quadlet header offset) l k e = absurd (let no : request header.label reading_quadlet ≡ response l k = e in cc)
label_in (read_block header offset asked) l k e = absurd (let no : request header.label reading_block ≡ response l k = e in cc)
label_in (read_quadlet_response header rcode value) l k e = cc
label_in (read_block_response header rcode payload) l k e = cc
label_in (lock header offset extended payload) l k e = absurd (let no : request header.label locking ≡ response l k = e in cc)
label_in (lock_response header rcode extended payload) l k e = cc

pub answers : (t : Terms) (serial : ℕ) (q : Sending) (p : Packet) → t.sent serial ≡ Some q → reading q.bytes ≡ Ok p → is_some (reply_kind p) ≡ true → may_get (row_of (facts_of t q)) ≡ true → IsAnswer t serial q p
answers t serial q p sent read some may = by_case (part_case p)
  where
    by_case : PartOf p → IsAnswer t serial q p
    by_case (asks l k part none) = absurd (let no : false ≡ true = sym (ap (λ (x : Option ReplyKind). is_some x) none) ∙ some in cc)
    by_case (replies l k part is) =
        let n = (header_in p).label in
        let here : part_in p ≡ response n k = part ∙ ap (λ x. response x k) (label_in p l k part) in
        let bytes_part : part_of q.bytes ≡ response n k = part_read q.bytes p read ∙ here in
        let a = answers_by t q n k (response n k) bytes_part refl may in
        record {
          kind = k;
          own = a.1.own;
          waited = a.1.waited;
          part = bytes_part;
          current = a.0;
          held = a.1.is;
          alike = a.1.alike;
          answered = ap (λ so. answered_in t so) sent ∙ ap (λ x. answered_as x t q) bytes_part ∙ a.1.closed;
        }

-- ---- what a response brings, but for a lock

kinds_apart : (k : Kind) → is_same_kind k locking ≡ false → is_same_kind k locking ≡ true → ⊥
kinds_apart k e f = let no : false ≡ true = sym e ∙ f in cc

pub same_answer : (p : Packet) (number : ℕ) (kind waited : Kind) → part_in p ≡ response number kind → is_same_kind waited kind ≡ true → is_same_kind waited locking ≡ false → answer_of p ≡ answer_in p
same_answer (write_quadlet header offset value) number kind waited e a n = refl
same_answer (write_block header offset payload) number kind waited e a n = refl
same_answer (write_response header rcode) number kind waited e a n = refl
same_answer (read_quadlet header offset) number kind waited e a n = refl
same_answer (read_block header offset asked) number kind waited e a n = refl
same_answer (read_quadlet_response header rcode value) number kind waited e a n = refl
same_answer (read_block_response header rcode payload) number kind waited e a n = refl
same_answer (lock header offset extended payload) number kind waited e a n = refl
same_answer (lock_response header rcode extended payload) number kind waited e a n =
    absurd (kinds_apart waited n (subst (λ k. is_same_kind waited k ≡ true) (let z : kind ≡ locking = cc in z) a))

-- ---- a request answers nothing

pub answers_none : (t : Terms) (serial : ℕ) (q : Sending) (label : ℕ) (kind : Kind) → t.sent serial ≡ Some q → part_of q.bytes ≡ request label kind → answered_at t serial ≡ None
answers_none t serial q label kind sent part = ap (λ so. answered_in t so) sent ∙ ap (λ x. answered_as x t q) part
