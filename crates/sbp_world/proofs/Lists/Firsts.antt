-- A packet that points an agent to an ORB is the write for a list of its initiator, with the address of the first ORB.
use Rattle.sbp_world.proofs.Words.Std.{arith, ◌≡◌, ◌∙◌, refl, sym, ap, subst, ℕ, ◌<◌, ◌==◌, Bool, true, false, cond, List, ◌∷◌, ◌++◌, length, map, Option, Some, None, same_Some}
use Rattle.sbp_world.proofs.Words.Wire.{Header, Packet, lock, lock_response, read_block, read_block_response, read_quadlet, read_quadlet_response, write_block, write_quadlet, write_response, Access, access_of, management_address, Moment, asked, said, Sending, terms}
use Rattle.sbp_world.proofs.Words.Target.{aligned, named, Asked, AgentRegister, Demand, Register, Row, accessed, accessed_at, by_address, by_register, by_rom, by_type, demand_by, demand_of, management_start, offset_in, or_nowhere, reached, register_at, row_of, served_by}
use Rattle.sbp_world.proofs.Words.Initiator.{start, OrbPointer, At, offset_at, pointer_at}
use Rattle.sbp_world.proofs.Words.Laws.{slot_at, access_in, access_in_bytes, spelled_by}
use Rattle.sbp_world.proofs.Words.World.{history_of, after, beginning, after_all, begun, NoneInjected, more_deliveries, pointer_write, register_write, IsWrite, PointersAt, of_bell, of_enable, of_management, of_pointer, of_reset, pointed_list, FirstLaw, IsCalm, IsPointedBy, IsFirst, WritesManaged}
use Rattle.bus_memory.specs.declared.window.Window.TheVariants as windows
use Rattle.target_base.specs.declared.address.Access.TheVariants as accesses
use Rattle.target_base.specs.declared.address.Demand.TheVariants as demands
use Rattle.target_base.specs.declared.address.Register.TheVariants as registers
use Rattle.target_base.specs.Addresses.{managed, served}
use Rattle.sbp_world.proofs.Hosts.Carrying.{carries_law}
use Rattle.sbp_world.proofs.Hosts.Runs.{count_after, count_between}
use Rattle.sbp_world.proofs.Pointers.Proved.{pointers_law}
use Rattle.sbp_world.proofs.Lists.RomHeld.{rom_law}
use Rattle.sbp_world.proofs.Lists.UnderwayRuns.{delivering}
use Rattle.sbp_world.proofs.Common.{untrue}

-- ---- what points an agent to an ORB: a write of a block, that is not to MANAGEMENT_AGENT

-- the pointer of a write
abbrev Pointing : Packet → OrbPointer → Type 0
Pointing (write_block header offset payload) pointer = pointer_at payload 0 ≡ pointer
Pointing other pointer = ⊥

abbrev IfPoint : Packet → Option Asked → Type 0
IfPoint p (Some (accesses.Point pointer)) = Pointing p pointer
IfPoint p other = Unit {0}

abbrev IfPoints : Packet → Option Demand → Type 0
IfPoints p (Some (demands.Agent place (accesses.Point pointer))) = Pointing p pointer × ((offset_in p == management_start) ≡ false)
IfPoints p other = Unit {0}

state_points : (p : Packet) → IfPoint p (accessed registers.AgentState p)
state_points (write_quadlet header offset value) = tt
state_points (write_block header offset payload) = tt
state_points (write_response header code) = tt
state_points (read_quadlet header offset) = tt
state_points (read_block header offset count) = tt
state_points (read_quadlet_response header code value) = tt
state_points (read_block_response header code payload) = tt
state_points (lock header offset extended payload) = tt
state_points (lock_response header code extended payload) = tt

reset_points : (p : Packet) → IfPoint p (accessed registers.AgentReset p)
reset_points (write_quadlet header offset value) = tt
reset_points (write_block header offset payload) = tt
reset_points (write_response header code) = tt
reset_points (read_quadlet header offset) = tt
reset_points (read_block header offset count) = tt
reset_points (read_quadlet_response header code value) = tt
reset_points (read_block_response header code payload) = tt
reset_points (lock header offset extended payload) = tt
reset_points (lock_response header code extended payload) = tt

block_points : (b : Bool) (header : Header) (offset : ℕ) (payload : List ℕ) → IfPoint (write_block header offset payload) (cond b (Some (accesses.Point (pointer_at payload 0))) None)
block_points true header offset payload = refl
block_points false header offset payload = tt

read_points : (b : Bool) (header : Header) (offset count : ℕ) → IfPoint (read_block header offset count) (cond b (Some accesses.Pointer) None)
read_points true header offset count = tt
read_points false header offset count = tt

orb_points : (p : Packet) → IfPoint p (accessed registers.OrbPointer p)
orb_points (write_quadlet header offset value) = tt
orb_points (write_block header offset payload) = block_points (length payload == 8) header offset payload
orb_points (write_response header code) = tt
orb_points (read_quadlet header offset) = tt
orb_points (read_block header offset count) = read_points (count == 8) header offset count
orb_points (read_quadlet_response header code value) = tt
orb_points (read_block_response header code payload) = tt
orb_points (lock header offset extended payload) = tt
orb_points (lock_response header code extended payload) = tt

bell_points : (p : Packet) → IfPoint p (accessed registers.Doorbell p)
bell_points (write_quadlet header offset value) = tt
bell_points (write_block header offset payload) = tt
bell_points (write_response header code) = tt
bell_points (read_quadlet header offset) = tt
bell_points (read_block header offset count) = tt
bell_points (read_quadlet_response header code value) = tt
bell_points (read_block_response header code payload) = tt
bell_points (lock header offset extended payload) = tt
bell_points (lock_response header code extended payload) = tt

enable_points : (p : Packet) → IfPoint p (accessed registers.UnsolicitedStatusEnable p)
enable_points (write_quadlet header offset value) = tt
enable_points (write_block header offset payload) = tt
enable_points (write_response header code) = tt
enable_points (read_quadlet header offset) = tt
enable_points (read_block header offset count) = tt
enable_points (read_quadlet_response header code value) = tt
enable_points (read_block_response header code payload) = tt
enable_points (lock header offset extended payload) = tt
enable_points (lock_response header code extended payload) = tt

accessed_points : (register : Register) (p : Packet) → IfPoint p (accessed register p)
accessed_points registers.AgentState p = state_points p
accessed_points registers.AgentReset p = reset_points p
accessed_points registers.OrbPointer p = orb_points p
accessed_points registers.Doorbell p = bell_points p
accessed_points registers.UnsolicitedStatusEnable p = enable_points p

managed_block : (b : Bool) (p : Packet) (orb : ℕ) → IfPoints p (cond b (Some (demands.Manage orb)) None)
managed_block true p orb = tt
managed_block false p orb = tt

managed_points : (p : Packet) → IfPoints p (managed p)
managed_points (write_block header offset payload) = managed_block (length payload == 8) (write_block header offset payload) (offset_at payload 0)
managed_points (write_quadlet header offset value) = tt
managed_points (write_response header code) = tt
managed_points (read_quadlet header offset) = tt
managed_points (read_block header offset count) = tt
managed_points (read_quadlet_response header code value) = tt
managed_points (read_block_response header code payload) = tt
managed_points (lock header offset extended payload) = tt
managed_points (lock_response header code extended payload) = tt

place_points : (place : ℕ) (p : Packet) (found : Option Asked) → (offset_in p == management_start) ≡ false → IfPoint p found → IfPoints p (accessed_at place found)
place_points place p None e h = tt
place_points place p (Some accesses.State) e h = tt
place_points place p (Some accesses.Reset) e h = tt
place_points place p (Some (accesses.Point pointer)) e h = (h, e)
place_points place p (Some accesses.Pointer) e h = tt
place_points place p (Some accesses.Ring) e h = tt
place_points place p (Some accesses.Enable) e h = tt

found_points : (found : Option AgentRegister) (p : Packet) → (offset_in p == management_start) ≡ false → IfPoints p (served_by found p)
found_points None p e = tt
found_points (Some found) p e = place_points found.place p (accessed found.register p) e (accessed_points found.register p)

served_points : (b : Bool) (p : Packet) → (offset_in p == management_start) ≡ b → IfPoints p (cond b (managed p) (served_by (register_at (offset_in p)) p))
served_points true p e = managed_points p
served_points false p e = found_points (register_at (offset_in p)) p e

nowhere_points : (p : Packet) (found : Option Demand) → IfPoints p found → IfPoints p (Some (or_nowhere found))
nowhere_points p None h = tt
nowhere_points p (Some demand) h = h

row_points : (row : Row) (p : Packet) → IfPoints p (Some (demand_by row p))
row_points by_type p = tt
row_points by_rom p = tt
row_points by_register p = nowhere_points p (served (offset_in p) p) (served_points (offset_in p == management_start) p refl)
row_points by_address p = tt

demand_points : (rom : ℕ) (p : Packet) (place : ℕ) (pointer : OrbPointer) → demand_of rom p ≡ demands.Agent place (accesses.Point pointer) → Pointing p pointer × ((offset_in p == management_start) ≡ false)
unfolding demand_of
demand_points rom p place pointer e = subst (λ (d : Demand). IfPoints p (Some d)) e (row_points (row_of (reached rom p)) p)

-- ---- what is read of it

record IsBlock (p : Packet) (pointer : OrbPointer) : Type 0 where
  access : Access
  is : access_of p ≡ Some access
  write : access.is_write ≡ true
  block : access.is_block ≡ true
  points : pointer_at access.payload 0 ≡ pointer
  apart : (access.offset == management_start) ≡ false

block_of : (p : Packet) (pointer : OrbPointer) → Pointing p pointer → (offset_in p == management_start) ≡ false → IsBlock p pointer
block_of (write_block header offset payload) pointer h e = record {
  access = record { is_lock = false; is_write = true; is_block = true; offset = offset; count = length payload; payload = payload };
  is = refl;
  write = refl;
  block = refl;
  points = h;
  apart = e;
}
block_of (write_quadlet header offset value) pointer h e = absurd h
block_of (write_response header code) pointer h e = absurd h
block_of (read_quadlet header offset) pointer h e = absurd h
block_of (read_block header offset count) pointer h e = absurd h
block_of (read_quadlet_response header code value) pointer h e = absurd h
block_of (read_block_response header code payload) pointer h e = absurd h
block_of (lock header offset extended payload) pointer h e = absurd h
block_of (lock_response header code extended payload) pointer h e = absurd h

-- ---- a write of an initiator that injected none

aligned_start : (slot : ℕ) → aligned (start (windows.Orb slot)) ≡ start (windows.Orb slot)
aligned_start slot = omega arith

module _ (past : List Moment) (i : ℕ) (calm : IsCalm past i) (pointers : PointersAt past i) (managed_there : WritesManaged past i) (none : NoneInjected past i) where
  module _ (serial : ℕ) (sent : Sending) (place address : ℕ) (there : (terms past).sent serial ≡ Some sent) (p : IsPointedBy sent i place address) where
    honest : sent.injected ≡ false
    honest = none calm serial sent there p.from_is

    points : Pointing p.packet p.pointer × ((offset_in p.packet == management_start) ≡ false)
    points = demand_points p.rom p.packet place p.pointer p.asks

    b : IsBlock p.packet p.pointer
    b = block_of p.packet p.pointer points.0 points.1

    spelled : access_in_bytes sent.bytes ≡ Some b.access
    spelled = ap (λ x. access_in (spelled_by x)) p.read ∙ b.is

    -- that of a quadlet is none
    no_quadlet : {A : Type 0} (base distance : ℕ) → b.access ≡ register_write base distance → A
    no_quadlet base distance e = untrue (sym (ap (λ (a : Access). a.is_block) e) ∙ b.block)

    -- and that to MANAGEMENT_AGENT is none
    no_management : {A : Type 0} → b.access.offset ≡ management_address → A
    no_management e = untrue (sym b.apart ∙ ap (λ n. n == management_start) e)

    first_of : (n : ℕ) → pointed_list past serial i ≡ Some n → IsFirst past i serial address
    first_of n is =
        let k = pointers.each n serial is in
        let at : ℕ = start (windows.Orb (slot_at past i n 0)) in
        let same : k.packet ≡ sent = same_Some k.packet sent (sym k.sent ∙ there) in
        let write : pointer_write k.base at ≡ b.access = same_Some (pointer_write k.base at) b.access (sym k.spelled ∙ ap (λ (q : Sending). access_in_bytes q.bytes) same ∙ spelled) in
        let pointer : At at ≡ p.pointer = sym k.points ∙ ap (λ (a : Access). pointer_at a.payload 0) write ∙ b.points in
        let names : Some (aligned at) ≡ Some address = ap named pointer ∙ p.address_is in
        record { list = n; pointed = is; address_is = sym (same_Some (aligned at) address names) ∙ aligned_start (slot_at past i n 0) }

    by_write : IsWrite past i serial b.access → IsFirst past i serial address
    by_write (of_pointer n is) = first_of n is
    by_write (of_bell base e) = no_quadlet base 0x10 e
    by_write (of_reset base a e) = no_quadlet base 0x04 e
    by_write (of_enable base e) = no_quadlet base 0x14 e
    by_write (of_management action a m offset at e) = no_management (managed_there serial sent action b.access there p.from_is honest a m spelled)

    is_first : IsFirst past i serial address
    is_first = by_write (pointers.writes serial sent there p.from_is honest b.access spelled b.write)

-- ---- a run

pub first_law : FirstLaw
first_law = record {
  after_lines = λ line run r has few size i b calm.
      let inside : i < run.initiators = subst (λ n. i < n) (count_after run run.entries) b in
      is_first (history_of line run) i calm (pointers_law.after_lines line run r i inside) (rom_law.after_lines line run r has few size i inside).writes (carries_law.none_injected line run r i inside);
  between = λ line run r has few size next most told m i b calm.
      let s = after (beginning run) run.entries in
      let inside : i < run.initiators = subst (λ n. i < n) (count_after run run.entries) (subst (λ n. i < n) (count_between told s) b) in
      is_first (map said (after_all told (begun s)).world.fresh ++ asked next (more_deliveries most) ∷ history_of line run) i calm
      (pointers_law.between line run r next most told m i inside) (rom_law.between line run r has few size next most told m i inside).writes
      (carries_law.none_injected_between line run r next (more_deliveries most) told (delivering told most) m i inside);
}
