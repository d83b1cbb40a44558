-- A packet with another tcode than 0 writes no quadlet (IEEE 1394-1995, transaction codes): where it writes, it writes a block.
use Rattle.sbp_world.proofs.Words.Std.{◌≡◌, refl, ℕ, nat_eq, Bool, true, false, cond, List, Option, Some, None}
use Rattle.sbp_world.proofs.Words.Wire.{PacketFault, tcode_of, fault_of, Packet, packet_in, reading, unless_fault}
use Rattle.sbp_world.proofs.Words.Laws.{access_in, access_in_bytes, spelled_by}
use Rattle.sbp_world.proofs.Words.World.{IsBlockWrite}

abbrev pub HasCode : List ℕ → Type 0
HasCode bytes = nat_eq (tcode_of bytes) 0 ≡ false

-- ---- what is written is a block then

abbrev Writes : Packet → Type 0
Writes p = IsBlockWrite (access_in (Some p))

pick_packet : (b : Bool) (p q : Packet) → Writes p → Writes q → Writes (cond b p q)
pick_packet true p q h k = h
pick_packet false p q h k = k

other_packet : (b : Bool) (p q : Packet) → b ≡ false → Writes q → Writes (cond b p q)
other_packet true p q e k = absurd (let no : true ≡ false = e in cc)
other_packet false p q e k = k

pub code_block : (bytes : List ℕ) → HasCode bytes → IsBlockWrite (access_in_bytes bytes)
unfolding reading
code_block bytes h = by (fault_of bytes)
  where
    by : (fault : Option PacketFault) → IsBlockWrite (access_in (spelled_by (unless_fault fault (packet_in bytes (tcode_of bytes)))))
    by (Some fault) = tt
    by None =
        other_packet (nat_eq (tcode_of bytes) 0) _ _ h
        (pick_packet (nat_eq (tcode_of bytes) 1) _ _ (λ e. refl)
        (pick_packet (nat_eq (tcode_of bytes) 2) _ _ tt
        (pick_packet (nat_eq (tcode_of bytes) 4) _ _ (λ e. e)
        (pick_packet (nat_eq (tcode_of bytes) 5) _ _ (λ e. refl)
        (pick_packet (nat_eq (tcode_of bytes) 6) _ _ tt
        (pick_packet (nat_eq (tcode_of bytes) 7) _ _ tt
        (pick_packet (nat_eq (tcode_of bytes) 9) _ _ (λ e. refl) tt)))))))
