-- What asks for a block write is one; and a block write of 8 bytes at ORB_POINTER behind the base of the agent of a place asks for that register, and where its source has a live login in the place, no login bars
-- it.
use Rattle.sbp_world.proofs.Words.Std.{same_Some, Ok, Err, Result, arith, ◌≡◌, ◌∙◌, refl, ap, ◌<◌, ◌≤◌, ◌+◌, ◌*◌, ◌%◌, ◌^◌, ◌==◌, ◌&&◌, nat_eq, nat_le, nat_lt, nat_tests, ℕ, Bool, true, false, cond, List, length, Option, Some, None}
use Rattle.sbp_world.proofs.Words.Wire.{Access, Header, Packet, PacketFault, access_of, lock, lock_response, read_block, read_block_response, read_quadlet, read_quadlet_response, reading, write_block, write_quadlet, write_response}
use Rattle.sbp_world.proofs.Words.Laws.{access_in, spelled_by}
use Rattle.sbp_world.proofs.Words.Target.{AgentRegister, Login, NodeState, agent_base, demand_of, if_of_node, is_barred, is_barred_at, is_live, login_at, management_start, register_at, rom_start, served_by}
use Rattle.sbp_world.proofs.Words.Initiator.{pointer_at}
use Rattle.std.proofs.Common.{is_none}
use Rattle.target_base.specs.Addresses.{accessed_at, managed}
use Rattle.target_base.specs.declared.address.Access.TheVariants as accesses
use Rattle.target_base.specs.declared.address.Demand.TheVariants as demands
use Rattle.target_base.specs.declared.address.Register.TheVariants as registers
use Rattle.sbp_world.proofs.Lists.OpenedAddresses.{IsBase, demand_served, near_register}
use Rattle.sbp_world.proofs.Wire.Kept.{and_false}
use Rattle.sbp_world.proofs.Common.{untrue}

-- ---- a block write
pub record IsBlock (p : Packet) (access : Access) : Type 0 where
  pub header : Header
  pub offset : ℕ
  pub payload : List ℕ
  pub is : p ≡ write_block header offset payload
  pub offset_is : offset ≡ access.offset
  pub payload_is : payload ≡ access.payload

asks_block : (p : Packet) (access : Access) → access_of p ≡ Some access → access.is_write ≡ true → access.is_block ≡ true → IsBlock p access
asks_block (write_block header offset payload) access e w b = record {
  header = header;
  offset = offset;
  payload = payload;
  is = refl;
  offset_is = ap (λ (a : Access). a.offset) (same_Some _ access e);
  payload_is = ap (λ (a : Access). a.payload) (same_Some _ access e);
}
asks_block (write_quadlet header offset value) access e w b = untrue (ap (λ (a : Access). a.is_block) (same_Some _ access e) ∙ b)
asks_block (read_quadlet header offset) access e w b = untrue (ap (λ (a : Access). a.is_write) (same_Some _ access e) ∙ w)
asks_block (read_block header offset size) access e w b = untrue (ap (λ (a : Access). a.is_write) (same_Some _ access e) ∙ w)
asks_block (lock header offset extended payload) access e w b = untrue (ap (λ (a : Access). a.is_write) (same_Some _ access e) ∙ w)
asks_block (lock_response header rcode extended payload) access e w b = absurd (let no : None ≡ Some access = e in cc)
asks_block (write_response header rcode) access e w b = absurd (let no : None ≡ Some access = e in cc)
asks_block (read_quadlet_response header rcode value) access e w b = absurd (let no : None ≡ Some access = e in cc)
asks_block (read_block_response header rcode payload) access e w b = absurd (let no : None ≡ Some access = e in cc)

pub record SpellsBlock (bytes : List ℕ) (access : Access) : Type 0 where
  pub p : Packet
  pub read : reading bytes ≡ Ok p
  pub block : IsBlock p access

pub block_by : (bytes : List ℕ) (r : Result Packet PacketFault) → reading bytes ≡ r → (access : Access) → access_in (spelled_by r) ≡ Some access → access.is_write ≡ true → access.is_block ≡ true → SpellsBlock bytes access
block_by bytes (Ok p) read access e w b = record { p = p; read = read; block = asks_block p access e w b }
block_by bytes (Err fault) read access e w b = absurd (let no : None ≡ Some access = e in cc)

-- ---- a write of ORB_POINTER
module _ (q : ℕ) (b : q < 8) (header : Header) (payload : List ℕ) (long : length payload ≡ 8) where
  abbrev offset : ℕ
  offset = (agent_base q + 0x08) % 2 ^ 48

  plain : offset ≡ 0xfffff0040000 + 0x20 * q + 8
  plain = omega (arith, b)

  base : IsBase offset q
  base = record { low = (let p = plain in omega (arith, p)); high = (let p = plain in omega (arith, p, b)); place_is = (let p = plain in omega (arith, p)); distance = (let p = plain in omega (arith, p)) }

  at : register_at offset ≡ Some (record { place = q; register = registers.OrbPointer })
  at = near_register offset offset q 8 registers.OrbPointer (record { base = base; is = refl; small = omega arith }) refl

  -- the register is asked for
  pub pointer_demand : (size : ℕ) → size ≤ 1024 → demand_of size (write_block header offset payload) ≡ demands.Agent q (accesses.Point (pointer_at payload 0))
  pointer_demand size fits =
      let p = plain in
      let high : rom_start + 1024 < offset = omega (arith, p) in
      let other : (offset == management_start) ≡ false = (let z : management_start < offset = omega (arith, p) in grind (arith, nat_tests, z)) in
      let none : (length payload == 0) ≡ false = grind (arith, nat_tests, long) in
      let eight : (length payload == 8) ≡ true = grind (arith, nat_tests, long) in
      let outside : nat_lt offset (rom_start + size) ≡ false = grind (arith, nat_tests, high, fits) in
      demand_served size (write_block header offset payload) (demands.Agent q (accesses.Point (pointer_at payload 0))) refl none
      (ap (λ y. nat_le rom_start offset && y) outside ∙ and_false (nat_le rom_start offset)) refl
      (ap (λ y. cond y (managed (write_block header offset payload)) (served_by (register_at offset) (write_block header offset payload))) other
      ∙ (ap (λ y. served_by y (write_block header offset payload)) at
      ∙ ap (λ y. accessed_at q (cond y (Some (accesses.Point (pointer_at payload 0))) None)) eight))

  -- and no login bars it
  module _ (node : NodeState) (login : Login) (there : login_at node q ≡ Some login) (live : is_live login ≡ true) (of_node : login.node ≡ header.source) where
    both : (x y : Bool) → x ≡ true → y ≡ true → is_none (cond (x && y) (Some login) None) ≡ false
    both true true e f = refl
    both true false e f = absurd (let no : false ≡ true = f in cc)
    both false y e f = absurd (let no : false ≡ true = e in cc)

    pub pointer_free : is_barred node (write_block header offset payload) ≡ false
    unfolding is_barred
    pointer_free =
        ap (λ (f : Option AgentRegister). is_barred_at f node.logins header.source) at
        ∙ (ap (λ (o : Option Login). is_none (if_of_node header.source o)) there
        ∙ both (is_live login) (nat_eq login.node header.source) live (let z : nat_eq login.node header.source ≡ true = grind (arith, nat_tests, of_node) in z))
