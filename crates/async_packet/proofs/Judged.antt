-- Bytes without a fault, by the table; and bytes that spell a packet have none.
use Rattle.std.proofs.Common.{◌≡◌, ◌∙◌, refl, sym, subst, ℕ, ◌+◌, ◌≤◌, Bool, true, false, ◌&&◌, if◌then◌else◌, List, length, Some, None, arith}
use Rattle.std.specs.Prelude.{Option}
use Rattle.std.proofs.lemmas.Bool.{ltb-false, le-ltb, not-false, not_from_true, cond-false}
use Rattle.async_packet.specs.declared.fault.PacketFault.{PacketFault}
use Rattle.async_packet.specs.declared.packet.Header.{Header}
use Rattle.async_packet.specs.Packet.{Packet, write_quadlet, write_block, write_response, read_quadlet, read_block, read_quadlet_response, read_block_response, lock, lock_response}
use Rattle.async_packet.specs.Fields.{tcode_of, length_of, extended_of, is_kind, has_length, is_lock, is_extended, is_request_length, is_response_length, is_lock_length, head_of, whole_of, padded, largest}
use Rattle.async_packet.specs.Faults.{first, rows, fault_of}
use Rattle.async_packet.specs.Spells.{IsRow, HasPayload, HasExtended, Spells}

-- what the table asks of bytes: as many, with this tcode, data_length and extended_tcode
pub record Passes (count tcode declared extended : ℕ) : Type 0 where
  pub long : 4 ≤ count
  pub kind : is_kind tcode ≡ true
  pub head : head_of tcode ≤ count
  pub small : has_length tcode ≡ true → declared ≤ largest
  pub known : is_lock tcode ≡ true → is_extended extended ≡ true
  pub rule : is_lock tcode ≡ true → is_lock_length tcode extended declared ≡ true
  pub whole : count ≡ whole_of tcode declared

-- a row that does not hold is passed over
over : (holds : Bool) (fault : PacketFault) (rest : Option PacketFault) → (if holds then Some fault else rest) ≡ None → (holds ≡ false) × (rest ≡ None)
over true fault rest e = (cc e, cc e)
over false fault rest e = (refl, e)

unless : (x y : Bool) → (x && y) ≡ false → x ≡ true → y ≡ false
unless true y e h = e
unless false y e h = cc h

unless_holds : (x y : Bool) → (x ≡ true → y ≡ false) → (x && y) ≡ false
unless_holds true y h = h refl
unless_holds false y h = refl

-- bytes without a fault pass the table
pub passes : (bytes : List ℕ) (tcode : ℕ) → fault_of bytes ≡ None → tcode_of bytes ≡ tcode → Passes (length bytes) tcode (length_of bytes) (extended_of bytes)
unfolding fault_of
passes bytes tcode none is =
    let count : ℕ = length bytes in
    let declared : ℕ = length_of bytes in
    let e : first (rows count tcode declared (extended_of bytes)) ≡ None = subst (λ t. first (rows count t declared (extended_of bytes)) ≡ None) is none in
    let r1 = over _ _ _ e in
    let r2 = over _ _ _ r1.1 in
    let r3 = over _ _ _ r2.1 in
    let r4 = over _ _ _ r3.1 in
    let r5 = over _ _ _ r4.1 in
    let r6 = over _ _ _ r5.1 in
    let r7 = over _ _ _ r6.1 in
    let r8 = over _ _ _ r7.1 in
    let least : whole_of tcode declared ≤ count = ltb-false count (whole_of tcode declared) r7.0 in
    let most : count ≤ whole_of tcode declared = ltb-false (whole_of tcode declared) count r8.0 in
    record {
      long = ltb-false count 4 r1.0;
      kind = not-false (is_kind tcode) r2.0;
      head = ltb-false count (head_of tcode) r3.0;
      small = λ h. ltb-false largest declared (unless _ _ r4.0 h);
      known = λ h. not-false _ (unless _ _ r5.0 h);
      rule = λ h. not-false _ (unless _ _ r6.0 h);
      whole = omega (arith, least, most);
    }

-- bytes that pass the table have no fault
clear : (bytes : List ℕ) (tcode : ℕ) → tcode_of bytes ≡ tcode → Passes (length bytes) tcode (length_of bytes) (extended_of bytes) → fault_of bytes ≡ None
unfolding fault_of
clear bytes tcode is p =
    let count : ℕ = length bytes in
    let declared : ℕ = length_of bytes in
    let whole : ℕ = whole_of tcode declared in
    let same : count ≡ whole = p.whole in
    let none : first (rows count tcode declared (extended_of bytes)) ≡ None =
    cond-false _ _ _ (le-ltb count 4 p.long)
    ∙ cond-false _ _ _ (not_from_true _ p.kind)
    ∙ cond-false _ _ _ (le-ltb count (head_of tcode) p.head)
    ∙ cond-false _ _ _ (unless_holds _ _ (λ h. le-ltb largest declared (p.small h)))
    ∙ cond-false _ _ _ (unless_holds _ _ (λ h. not_from_true _ (p.known h)))
    ∙ cond-false _ _ _ (unless_holds _ _ (λ h. not_from_true _ (p.rule h)))
    ∙ cond-false _ _ _ (le-ltb count whole (omega (arith, same)))
    ∙ cond-false _ _ _ (le-ltb whole count (omega (arith, same))) in
    subst (λ t. first (rows count t declared (extended_of bytes)) ≡ None) (sym is) none

-- a kind whose length is fixed
fixed : (bytes : List ℕ) (tcode count : ℕ) → tcode_of bytes ≡ tcode → length bytes ≡ count → 4 ≤ count → is_kind tcode ≡ true → has_length tcode ≡ false → is_lock tcode ≡ false → head_of tcode ≡ count → whole_of tcode (length_of bytes) ≡ count → fault_of bytes ≡ None
fixed bytes tcode count is long some kind free unlocked head whole = clear bytes tcode is record {
  long = omega (arith, long, some);
  kind = kind;
  head = omega (arith, long, head);
  small = λ h. cc (h, free);
  known = λ h. cc (h, unlocked);
  rule = λ h. cc (h, unlocked);
  whole = long ∙ sym whole;
}

-- a kind with a payload, which may be a lock
carrying : (bytes payload : List ℕ) (header : Header) (tcode : ℕ) → IsRow tcode (16 + padded (length payload)) bytes header → HasPayload bytes payload → is_kind tcode ≡ true → head_of tcode ≡ 16 → whole_of tcode (length_of bytes) ≡ 16 + padded (length_of bytes) → (is_lock tcode ≡ true → is_extended (extended_of bytes) ≡ true) → (is_lock tcode ≡ true → is_lock_length tcode (extended_of bytes) (length_of bytes) ≡ true) → fault_of bytes ≡ None
carrying bytes payload header tcode row has kind head whole known rule =
    let long : length bytes ≡ 16 + padded (length_of bytes) = subst (λ n. length bytes ≡ 16 + padded n) has.long row.whole in
    let fits : length_of bytes ≤ largest = subst (λ n. n ≤ largest) has.long has.small in
    clear bytes tcode row.kind (record {
      long = omega (arith, long);
      kind = kind;
      head = omega (arith, long, head);
      small = λ _. fits;
      known = known;
      rule = rule;
      whole = long ∙ sym whole;
    })

-- what a lock's extended_tcode is, as its bytes tell it
known_lock : (bytes : List ℕ) (extended : ℕ) → HasExtended bytes extended → is_extended (extended_of bytes) ≡ true
known_lock bytes extended h = subst (λ e. is_extended e ≡ true) h.read h.known

request_rule : (bytes payload : List ℕ) (extended : ℕ) → HasExtended bytes extended → HasPayload bytes payload → is_request_length extended (length payload) ≡ true → is_request_length (extended_of bytes) (length_of bytes) ≡ true
request_rule bytes payload extended e p h = subst (λ n. is_request_length (extended_of bytes) n ≡ true) p.long (subst (λ x. is_request_length x (length payload) ≡ true) e.read h)

response_rule : (bytes payload : List ℕ) → HasPayload bytes payload → is_response_length (length payload) ≡ true → is_response_length (length_of bytes) ≡ true
response_rule bytes payload p h = subst (λ n. is_response_length n ≡ true) p.long h

-- a read block request
asking : (bytes : List ℕ) (asked : ℕ) → tcode_of bytes ≡ 5 → length bytes ≡ 16 → asked ≡ length_of bytes → asked ≤ largest → fault_of bytes ≡ None
asking bytes asked is long told fits = clear bytes 5 is record {
  long = omega (arith, long);
  kind = refl;
  head = omega (arith, long);
  small = λ _. subst (λ n. n ≤ largest) told fits;
  known = λ h. cc h;
  rule = λ h. cc h;
  whole = long;
}

-- bytes that spell a packet have no fault
pub no_fault : (bytes : List ℕ) (p : Packet) → Spells bytes p → fault_of bytes ≡ None
no_fault bytes (write_quadlet header offset value) s = fixed bytes 0 16 s.0.kind s.0.whole (omega arith) refl refl refl refl refl
no_fault bytes (write_block header offset payload) s = carrying bytes payload header 1 s.0 s.2 refl refl refl (λ h. cc h) (λ h. cc h)
no_fault bytes (write_response header rcode) s = fixed bytes 2 12 s.0.kind s.0.whole (omega arith) refl refl refl refl refl
no_fault bytes (read_quadlet header offset) s = fixed bytes 4 12 s.0.kind s.0.whole (omega arith) refl refl refl refl refl
no_fault bytes (read_block header offset asked) s = asking bytes asked s.0.kind s.0.whole s.2 s.3
no_fault bytes (read_quadlet_response header rcode value) s = fixed bytes 6 16 s.0.kind s.0.whole (omega arith) refl refl refl refl refl
no_fault bytes (read_block_response header rcode payload) s = carrying bytes payload header 7 s.0 s.2 refl refl refl (λ h. cc h) (λ h. cc h)
no_fault bytes (lock header offset extended payload) s =
    carrying bytes payload header 9 s.0 s.3 refl refl refl (λ _. known_lock bytes extended s.2) (λ _. request_rule bytes payload extended s.2 s.3 s.4)
no_fault bytes (lock_response header rcode extended payload) s =
    carrying bytes payload header 11 s.0 s.3 refl refl refl (λ _. known_lock bytes extended s.2) (λ _. response_rule bytes payload s.3 s.4)
