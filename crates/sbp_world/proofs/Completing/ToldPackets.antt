-- What a packet is that writes a block, and where it goes.
use Rattle.sbp_world.proofs.Words.Std.{◌≡◌, ◌∙◌, refl, sym, ap, subst, ℕ, true, false, List, length, Option, Some, None, Err, Ok, Result, nat_le, same_Some, true≢false}
use Rattle.sbp_world.proofs.Words.Wire.{Access, Body, Header, Packet, PacketFault, Sending, largest, lock, lock_response, read_block, read_block_response, read_quadlet, read_quadlet_response, write_block, write_quadlet, write_response}
use Rattle.sbp_world.proofs.Words.Target.{manager_body}
use Rattle.sbp_world.proofs.Words.Initiator.{Ask}
use Rattle.sbp_world.proofs.Words.Laws.{access_in, receiver_in, spelled_by}
use Rattle.sbp_world.proofs.Words.World.{access_for, write_access}
use Rattle.orb_layout.specs.declared.ask.Ask.TheVariants as asks
use Rattle.sbp_world.proofs.Common.{none_is}
use Rattle.sbp_world.proofs.Completing.ShutFifos.{MayWrite}
use Rattle.sbp_world.proofs.Completing.ShutPackets.{written}

-- ---- a packet
pub record IsPacketTo (so : Option Sending) (to : ℕ) : Type 0 where
  pub packet : Sending
  pub is : so ≡ Some packet
  pub to_is : packet.to ≡ to

pub packet_to : (so : Option Sending) (to : ℕ) → receiver_in so ≡ Some to → IsPacketTo so to
packet_to None to e = none_is to e
packet_to (Some packet) to e = record { packet = packet; is = refl; to_is = same_Some packet.to to e }

-- what writes a block is a write of one
pub record IsBlockWrite (read : Result Packet PacketFault) (offset : ℕ) (payload : List ℕ) : Type 0 where
  pub header : Header
  pub is : read ≡ Ok (write_block header offset payload)

not_writes : {A : Type 0} (own other : Access) → Some own ≡ Some other → own.is_write ≡ false → other.is_write ≡ true → A
not_writes own other e f g = absurd (true≢false (sym g ∙ (ap (λ (x : Access). x.is_write) (sym (same_Some own other e)) ∙ f)))

not_block : {A : Type 0} (own other : Access) → Some own ≡ Some other → own.is_block ≡ false → other.is_block ≡ true → A
not_block own other e f g = absurd (true≢false (sym g ∙ (ap (λ (x : Access). x.is_block) (sym (same_Some own other e)) ∙ f)))

pub block_of : (read : Result Packet PacketFault) (offset : ℕ) (payload : List ℕ) → access_in (spelled_by read) ≡ Some (write_access offset payload) → IsBlockWrite read offset payload
block_of (Err fault) offset payload e = none_is (write_access offset payload) e
block_of (Ok (write_block header at bytes)) offset payload e =
    let same = same_Some (write_access at bytes) (write_access offset payload) e in
    let where_to : at ≡ offset = ap (λ (x : Access). x.offset) same in
    let what : bytes ≡ payload = ap (λ (x : Access). x.payload) same in
    record { header = header; is = ap (λ n. Ok (write_block header n bytes)) where_to ∙ ap (λ b. Ok (write_block header offset b)) what }
block_of (Ok (write_quadlet header at value)) offset payload e = not_block _ (write_access offset payload) e refl refl
block_of (Ok (read_quadlet header at)) offset payload e = not_writes _ (write_access offset payload) e refl refl
block_of (Ok (read_block header at size)) offset payload e = not_writes _ (write_access offset payload) e refl refl
block_of (Ok (lock header at extended bytes)) offset payload e = not_writes _ (write_access offset payload) e refl refl
block_of (Ok (write_response header rcode)) offset payload e = none_is (write_access offset payload) e
block_of (Ok (read_quadlet_response header rcode value)) offset payload e = none_is (write_access offset payload) e
block_of (Ok (read_block_response header rcode bytes)) offset payload e = none_is (write_access offset payload) e
block_of (Ok (lock_response header rcode extended bytes)) offset payload e = none_is (write_access offset payload) e

-- where a block goes that was asked for
pub may_at : (May : ℕ → Type 0) (ask : Ask) (out : List ℕ) (body : Body) → manager_body ask out ≡ Some body → MayWrite May ask → May (access_for body).offset
may_at May (asks.Write at len) out body e may = subst May (sym (written (nat_le (length out) largest) at out body e)) may
may_at May (asks.Read at len) out body e may = absurd may
may_at May asks.Nothing out body e may = absurd may
