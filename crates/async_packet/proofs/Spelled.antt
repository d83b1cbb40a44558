-- Reading bytes gives the packet that they spell.
use Rattle.std.proofs.Common.{◌≡◌, ◌∙◌, refl, sym, ap, subst, ℕ, ◌+◌, ◌≤◌, ◌==◌, if◌then◌else◌, Bool, true, false, List, take, drop, length, length-drop, Some, None, Ok, Err, arith}
use Rattle.std.specs.Prelude.{Option}
use Rattle.std.proofs.lemmas.Bool.{eqb-true}
use Rattle.std.proofs.lemmas.Bool.Decides.{nat_tests}
use Rattle.std.proofs.lemmas.List.{length-take-le}
use Rattle.async_packet.specs.declared.fault.PacketFault.{PacketFault}
use Rattle.async_packet.specs.Packet.{Packet}
use Rattle.async_packet.specs.Fields.{tcode_of, header_of, length_of, extended_of, padded, largest, is_kind, is_request_length, is_response_length}
use Rattle.async_packet.specs.Faults.{fault_of}
use Rattle.async_packet.specs.Spells.{IsRow, HasPayload, Spells}
use Rattle.async_packet.specs.Reading.{payload_in, packet_in, unless_fault, reading, ReadsSpelling}
use Rattle.async_packet.proofs.Judged.{passes, no_fault}
use Rattle.async_packet.proofs.Unique.{spelled_in}

-- bytes that spell a packet are read as it
pub reading_spelled : (bytes : List ℕ) (p : Packet) → Spells bytes p → reading bytes ≡ Ok p
unfolding reading
reading_spelled bytes p s = ap (λ f. unless_fault f (packet_in bytes (tcode_of bytes))) (no_fault bytes p s) ∙ ap (λ q. Ok q) (sym (spelled_in bytes p s))

-- and others as their fault
pub reading_fault : (bytes : List ℕ) (f : PacketFault) → fault_of bytes ≡ Some f → reading bytes ≡ Err f
unfolding reading
reading_fault bytes f e = ap (λ f. unless_fault f (packet_in bytes (tcode_of bytes))) e

fault_read : (found : Option PacketFault) (p : Packet) (f : PacketFault) → unless_fault found p ≡ Err f → found ≡ Some f
fault_read None p f e = absurd (cc)
fault_read (Some g) p f e = let same : g ≡ f = cc in ap (λ x. Some x) same

packet_read : (found : Option PacketFault) (p q : Packet) → unless_fault found p ≡ Ok q → (found ≡ None) × (p ≡ q)
packet_read None p q e = (refl, cc)
packet_read (Some g) p q e = absurd (cc)

-- the payload in bytes that are long enough
payload_here : (bytes : List ℕ) → length bytes ≡ 16 + padded (length_of bytes) → length (payload_in bytes) ≡ length_of bytes
payload_here bytes whole = length-take-le (length_of bytes) (drop 16 bytes) (omega (arith, length-drop 16 bytes))

has_payload : (bytes : List ℕ) → length bytes ≡ 16 + padded (length_of bytes) → length_of bytes ≤ largest → HasPayload bytes (payload_in bytes)
has_payload bytes whole small =
    let e = payload_here bytes whole in
    record {
      long = e;
      small = subst (λ n. n ≤ largest) (sym e) small;
      here = ap (λ (n : ℕ). take n (drop 16 bytes)) (sym e);
    }

by_test : (bytes : List ℕ) (b : Bool) (p q : Packet) → (b ≡ true → Spells bytes p) → (b ≡ false → Spells bytes q) → Spells bytes (if b then p else q)
by_test bytes true p q h k = h refl
by_test bytes false p q h k = k refl

eleven : (t : ℕ) → is_kind t ≡ true → (t == 0) ≡ false → (t == 1) ≡ false → (t == 2) ≡ false → (t == 4) ≡ false → (t == 5) ≡ false → (t == 6) ≡ false → (t == 7) ≡ false → (t == 9) ≡ false → t ≡ 11
eleven t kind a b c d e f g h = grind (arith, nat_tests, kind)

module _ (bytes : List ℕ) (none : fault_of bytes ≡ None) where
  at : (n : ℕ) → (tcode_of bytes == n) ≡ true → tcode_of bytes ≡ n
  at n e = eqb-true (tcode_of bytes) n e

  -- bytes without a fault spell the packet in them
  spells_in : Spells bytes (packet_in bytes (tcode_of bytes))
  spells_in =
      by_test bytes (tcode_of bytes == 0) _ _ (λ e. let p = passes bytes 0 none (at 0 e) in (record { kind = at 0 e; whole = p.whole; fields = refl }, refl, refl)) (λ a.
      by_test bytes (tcode_of bytes == 1) _ _ (λ e. let p = passes bytes 1 none (at 1 e) in (carries 1 (at 1 e) p.whole, refl, has_payload bytes p.whole (p.small refl))) (λ b.
      by_test bytes (tcode_of bytes == 2) _ _ (λ e. let p = passes bytes 2 none (at 2 e) in (record { kind = at 2 e; whole = p.whole; fields = refl }, refl)) (λ c.
      by_test bytes (tcode_of bytes == 4) _ _ (λ e. let p = passes bytes 4 none (at 4 e) in (record { kind = at 4 e; whole = p.whole; fields = refl }, refl)) (λ d.
      by_test bytes (tcode_of bytes == 5) _ _ (λ e. let p = passes bytes 5 none (at 5 e) in (record { kind = at 5 e; whole = p.whole; fields = refl }, refl, refl, p.small refl)) (λ f.
      by_test bytes (tcode_of bytes == 6) _ _ (λ e. let p = passes bytes 6 none (at 6 e) in (record { kind = at 6 e; whole = p.whole; fields = refl }, refl, refl)) (λ g.
      by_test bytes (tcode_of bytes == 7) _ _ (λ e. let p = passes bytes 7 none (at 7 e) in (carries 7 (at 7 e) p.whole, refl, has_payload bytes p.whole (p.small refl))) (λ h.
      by_test bytes (tcode_of bytes == 9) _ _
      (λ e. let p = passes bytes 9 none (at 9 e) in
      (carries 9 (at 9 e) p.whole, refl, record { read = refl; known = p.known refl }, has_payload bytes p.whole (p.small refl), subst (λ n. is_request_length (extended_of bytes) n ≡ true) (sym (payload_here bytes p.whole)) (p.rule refl)))
      (λ i.
      let kind = (passes bytes (tcode_of bytes) none refl).kind in
      let last : tcode_of bytes ≡ 11 = eleven (tcode_of bytes) kind a b c d f g h i in
      let p = passes bytes 11 none last in
      (carries 11 last p.whole, refl, record { read = refl; known = p.known refl }, has_payload bytes p.whole (p.small refl), subst (λ n. is_response_length n ≡ true) (sym (payload_here bytes p.whole)) (p.rule refl)))
      )))))))
    where
      carries : (t : ℕ) → tcode_of bytes ≡ t → length bytes ≡ 16 + padded (length_of bytes) → IsRow t (16 + padded (length (payload_in bytes))) bytes (header_of bytes)
      carries t kind whole = record { kind = kind; whole = whole ∙ ap (λ n. 16 + padded n) (sym (payload_here bytes whole)); fields = refl }

read_spells : (bytes : List ℕ) (p : Packet) → reading bytes ≡ Ok p → Spells bytes p
unfolding reading
read_spells bytes p e =
    let r = packet_read (fault_of bytes) (packet_in bytes (tcode_of bytes)) p e in
    subst (Spells bytes) r.1 (spells_in bytes r.0)

read_fault : (bytes : List ℕ) (f : PacketFault) → reading bytes ≡ Err f → fault_of bytes ≡ Some f
unfolding reading
read_fault bytes f e = fault_read (fault_of bytes) (packet_in bytes (tcode_of bytes)) f e

pub reads_spelling : ReadsSpelling
reads_spelling = record {
  packets = λ bytes p. (read_spells bytes p, reading_spelled bytes p);
  faults = λ bytes f. (read_fault bytes f, reading_fault bytes f);
}
