-- Where the registers of an agent stand: that of AGENT_RESET and of AGENT_STATE at the base of an agent whose ORB_POINTER was written, and what is asked of it there.
use Rattle.sbp_world.proofs.Words.Std.{arith, ◌≡◌, ◌∙◌, refl, sym, ap, ◌<◌, ◌≤◌, ◌+◌, ◌-◌, ◌*◌, ◌/◌, ◌%◌, ◌==◌, ◌||◌, ℕ, nat_le, nat_lt, is_some, Bool, true, false, cond, List, length, Option, Some, None, nat_tests, false≢true}
use Rattle.sbp_world.proofs.Words.Wire.{Header, Packet, write_block}
use Rattle.sbp_world.proofs.Words.Target.{Asked, AgentRegister, Demand, Register, Row, accessed, accessed_at, agent_register, agents_start, by_address, by_register, by_rom, by_type, demand_by, demand_of, is_lock, is_start, length_in, management_start, offset_in, or_nowhere, reached, reads_rom, register_at, register_by, row_of, served_by, writes_rom}
use Rattle.sbp_world.proofs.Words.Initiator.{OrbPointer}
use Rattle.target_base.specs.declared.address.Access.TheVariants as accesses
use Rattle.target_base.specs.declared.address.Demand.TheVariants as demands
use Rattle.target_base.specs.declared.address.Register.TheVariants as registers
use Rattle.target_base.specs.Addresses.{served}
use Rattle.sbp_target.proofs.Reached.{demand_place}

none_some : {A : Type 0} {B : Type 0} (x : A) → None ≡ Some x → B
none_some x e = absurd (differ x e)
  where
    differ : {A : Type 0} (x : A) → None ≡ Some x → ⊥
    differ x e = cc

-- ---- the distance of ORB_POINTER
by_five : (a b c d e : Bool) (distance : ℕ) → (distance == 8) ≡ c → cond a (Some registers.AgentState) (cond b (Some registers.AgentReset) (cond c (Some registers.OrbPointer) (cond d (Some registers.Doorbell) (cond e (Some registers.UnsolicitedStatusEnable) None)))) ≡ Some registers.OrbPointer → distance ≡ 8
by_five true b c d e distance f g = absurd (differ g)
  where
    differ : Some registers.AgentState ≡ Some registers.OrbPointer → ⊥
    differ h = cc
by_five false true c d e distance f g = absurd (differ g)
  where
    differ : Some registers.AgentReset ≡ Some registers.OrbPointer → ⊥
    differ h = cc
by_five false false true d e distance f g = grind (arith, nat_tests)
by_five false false false true e distance f g = absurd (differ g)
  where
    differ : Some registers.Doorbell ≡ Some registers.OrbPointer → ⊥
    differ h = cc
by_five false false false false true distance f g = absurd (differ g)
  where
    differ : Some registers.UnsolicitedStatusEnable ≡ Some registers.OrbPointer → ⊥
    differ h = cc
by_five false false false false false distance f g = none_some registers.OrbPointer g

distance_is : (distance : ℕ) → register_by distance ≡ Some registers.OrbPointer → distance ≡ 8
distance_is distance e = by_five (distance == 0x00) (distance == 0x04) (distance == 0x08) (distance == 0x10) (distance == 0x14) distance refl e

-- ---- the ORB_POINTER of an agent stands at an address
pub record IsBase (offset place : ℕ) : Type 0 where
  pub low : agents_start ≤ offset
  pub high : offset < agents_start + 8 * 0x20
  pub place_is : (offset - agents_start) / 0x20 ≡ place
  pub distance : (offset - agents_start) % 0x20 ≡ 8

base_in : (offset place : ℕ) (low high : Bool) (register : Option Register) → nat_lt offset agents_start ≡ low → nat_le (agents_start + 8 * 0x20) offset ≡ high → register_by ((offset - agents_start) % 0x20) ≡ register → (found : AgentRegister) → cond (low || high) None (agent_register ((offset - agents_start) / 0x20) register) ≡ Some found → found.place ≡ place → found.register ≡ registers.OrbPointer → IsBase offset place
base_in offset place true high register l h r found e p q = none_some found e
base_in offset place false true register l h r found e p q = none_some found e
base_in offset place false false None l h r found e p q = none_some found e
base_in offset place false false (Some one) l h r found e p q =
    let same : record { place = (offset - agents_start) / 0x20; register = one } ≡ found = cc in
    let reg : one ≡ registers.OrbPointer = ap (λ (x : AgentRegister). x.register) same ∙ q in
    record {
      low = (let z = l in grind (arith, nat_tests));
      high = (let z = h in grind (arith, nat_tests));
      place_is = ap (λ (x : AgentRegister). x.place) same ∙ p;
      distance = distance_is ((offset - agents_start) % 0x20) (r ∙ ap (λ (x : Register). Some x) reg);
    }

base_at : (offset place : ℕ) (found : AgentRegister) → register_at offset ≡ Some found → found.place ≡ place → found.register ≡ registers.OrbPointer → IsBase offset place
unfolding register_at
base_at offset place found e p q = base_in offset place (nat_lt offset agents_start) (nat_le (agents_start + 8 * 0x20) offset) (register_by ((offset - agents_start) % 0x20)) refl refl refl found e p q

-- ---- the register of a block write
block_register : (register : Register) (header : Header) (offset : ℕ) (payload : List ℕ) (access : Asked) → accessed register (write_block header offset payload) ≡ Some access → register ≡ registers.OrbPointer
block_register registers.AgentState header offset payload access e = none_some access e
block_register registers.AgentReset header offset payload access e = none_some access e
block_register registers.OrbPointer header offset payload access e = refl
block_register registers.Doorbell header offset payload access e = none_some access e
block_register registers.UnsolicitedStatusEnable header offset payload access e = none_some access e

found_register : (a : Option Asked) (place at : ℕ) (access : Asked) → accessed_at at a ≡ Some (demands.Agent place access) → (x : Asked) × (a ≡ Some x)
found_register None place at access e = none_some _ e
found_register (Some x) place at access e = (x, refl)

block_found : (found : Option AgentRegister) (header : Header) (offset : ℕ) (payload : List ℕ) (place : ℕ) (access : Asked) (one : AgentRegister) → found ≡ Some one → served_by found (write_block header offset payload) ≡ Some (demands.Agent place access) → one.register ≡ registers.OrbPointer
block_found None header offset payload place access one e f = none_some one e
block_found (Some x) header offset payload place access one e f =
    let same : x ≡ one = cc in
    let a = found_register (accessed x.register (write_block header offset payload)) place x.place access f in
    ap (λ (z : AgentRegister). z.register) (sym same) ∙ block_register x.register header offset payload a.0 a.1

not_managed : (b : Bool) (orb place : ℕ) (access : Asked) → cond b (Some (demands.Manage orb)) None ≡ Some (demands.Agent place access) → ⊥
not_managed true orb place access e = cc
not_managed false orb place access e = cc

block_served : (b : Bool) (header : Header) (offset : ℕ) (payload : List ℕ) (orb place : ℕ) (long : Bool) (access : Asked) (one : AgentRegister) → register_at offset ≡ Some one → cond b (cond long (Some (demands.Manage orb)) None) (served_by (register_at offset) (write_block header offset payload)) ≡ Some (demands.Agent place access) → one.register ≡ registers.OrbPointer
block_served true header offset payload orb place long access one e f = absurd (not_managed long orb place access f)
block_served false header offset payload orb place long access one e f = block_found (register_at offset) header offset payload place access one e f

somewhere : (found : Option Demand) (place : ℕ) (access : Asked) → or_nowhere found ≡ demands.Agent place access → found ≡ Some (demands.Agent place access)
somewhere (Some d) place access e = ap (λ (x : Demand). Some x) e
somewhere None place access e = cc

block_row : (row : Row) (header : Header) (offset : ℕ) (payload : List ℕ) (place : ℕ) (access : Asked) (one : AgentRegister) → register_at offset ≡ Some one → demand_by row (write_block header offset payload) ≡ demands.Agent place access → one.register ≡ registers.OrbPointer
block_row by_type header offset payload place access one e f = absurd (let z : ⊥ = cc in z)
block_row by_rom header offset payload place access one e f = absurd (let z : ⊥ = cc in z)
block_row by_register header offset payload place access one e f =
    block_served (offset == management_start) header offset payload _ place (length payload == 8) access one e (somewhere (served offset (write_block header offset payload)) place access f)
block_row by_address header offset payload place access one e f = absurd (let z : ⊥ = cc in z)

-- a block write that points an agent
pub block_base : (rom : ℕ) (header : Header) (offset : ℕ) (payload : List ℕ) (place : ℕ) (pointer : OrbPointer) → demand_of rom (write_block header offset payload) ≡ demands.Agent place (accesses.Point pointer) → IsBase offset place
unfolding demand_of
block_base rom header offset payload place pointer e =
    let p = write_block header offset payload in
    let a = demand_place (row_of (reached rom p)) rom p place (accesses.Point pointer) refl e in
    base_at offset place a.found a.at a.own (block_row (row_of (reached rom p)) header offset payload place (accesses.Point pointer) a.found a.at e)

-- ---- another register of that agent
row_served : (l e a b s t : Bool) → l ≡ false → e ≡ false → a ≡ false → b ≡ false → s ≡ true → row_of (record { is_lock = l; is_empty = e; writes_rom = a; reads_rom = b; is_served = s; is_start = t }) ≡ by_register
row_served false false false false true t p q r u v = refl
row_served true e a b s t p q r u v = absurd (false≢true (sym p))
row_served false true a b s t p q r u v = absurd (false≢true (sym q))
row_served false false true b s t p q r u v = absurd (false≢true (sym r))
row_served false false false true s t p q r u v = absurd (false≢true (sym u))
row_served false false false false false t p q r u v = absurd (false≢true v)

pub demand_served : (size : ℕ) (p : Packet) (demand : Demand) → is_lock p ≡ false → (length_in p == 0) ≡ false → writes_rom size p ≡ false → reads_rom size p ≡ false → served (offset_in p) p ≡ Some demand → demand_of size p ≡ demand
unfolding demand_of
demand_served size p demand l e a b s =
    ap (λ row. demand_by row p) (row_served (is_lock p) (length_in p == 0) (writes_rom size p) (reads_rom size p) (is_some (served (offset_in p) p)) (is_start (offset_in p)) l e a b (ap is_some s)) ∙ ap or_nowhere s

pub record IsNear (offset other place distance : ℕ) : Type 0 where
  pub base : IsBase offset place
  pub is : other + 8 ≡ offset + distance
  pub small : distance < 0x20

other_register : (other : ℕ) (low high start : Bool) (place : ℕ) (register : Register) → nat_lt other agents_start ≡ low → nat_le (agents_start + 8 * 0x20) other ≡ high → low ≡ false → high ≡ false → register_by ((other - agents_start) % 0x20) ≡ Some register → (other - agents_start) / 0x20 ≡ place → register_at other ≡ Some (record { place = place; register = register })
unfolding register_at
other_register other low high start place register l h p q r e =
    ap (λ b. cond (b || nat_le (agents_start + 8 * 0x20) other) None (agent_register ((other - agents_start) / 0x20) (register_by ((other - agents_start) % 0x20)))) (l ∙ p)
    ∙ (ap (λ b. cond b None (agent_register ((other - agents_start) / 0x20) (register_by ((other - agents_start) % 0x20)))) (h ∙ q)
    ∙ (ap (agent_register ((other - agents_start) / 0x20)) r ∙ ap (λ k. Some (record { place = k; register = register })) e))

pub near_register : (offset other place distance : ℕ) (register : Register) → IsNear offset other place distance → register_by distance ≡ Some register → register_at other ≡ Some (record { place = place; register = register })
near_register offset other place distance register k r =
    let low = k.base.low in
    let high = k.base.high in
    let q = k.base.place_is in
    let d = k.base.distance in
    let is = k.is in
    let s = k.small in
    let m : (other - agents_start) % 0x20 ≡ distance = omega (arith, low, high, q, d, is, s) in
    let n : (other - agents_start) / 0x20 ≡ place = omega (arith, low, high, q, d, is, s) in
    let a : nat_lt other agents_start ≡ false = (let z : agents_start ≤ other = omega (arith, low, high, q, d, is, s) in grind (arith, nat_tests)) in
    let b : nat_le (agents_start + 8 * 0x20) other ≡ false = (let z : other < agents_start + 8 * 0x20 = omega (arith, low, high, q, d, is, s) in grind (arith, nat_tests)) in
    other_register other (nat_lt other agents_start) (nat_le (agents_start + 8 * 0x20) other) false place register refl refl a b (ap register_by m ∙ r) n
