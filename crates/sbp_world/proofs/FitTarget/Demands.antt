-- What a request that is got asks for has an answer that fits, and names addresses of 48 bits.
use Rattle.sbp_world.proofs.Words.Std.{arith, ◌≡◌, ◌≢◌, refl, sym, ◌∙◌, subst, ℕ, ◌+◌, ◌-◌, ◌^◌, ◌<◌, ◌≤◌, ◌==◌, ◌&&◌, nat_le, Bool, true, false, cond, List, length, Option, Some, None, nat_tests, false≢true, same_Some, big_bytes}
use Rattle.sbp_world.proofs.Words.Wire.{Header, Packet, lock, lock_response, read_block, read_block_response, read_quadlet, read_quadlet_response, write_block, write_quadlet, write_response, AreBytes, Gives}
use Rattle.sbp_world.proofs.Words.Target.{Access, AgentRegister, Demand, Register, Reached, Row, accessed, accessed_at, by_address, by_register, by_rom, by_type, demand_by, demand_of, is_read, length_in, management_start, offset_in, or_nowhere, reached, reads_rom, register_at, rom_start, row_of, served_by, answer_in}
use Rattle.sbp_world.proofs.Words.Initiator.{IsPointer, offset_at, pointer_at, Answer, Payload, Done, Refused}
use Rattle.bus_transactions.proofs.FitJudged.{BytesOf, not_complete}
use Rattle.bus_transactions.proofs.Fits.{bytes_quad}
use Rattle.target_base.specs.declared.address.Access.TheVariants as accesses
use Rattle.target_base.specs.declared.address.Demand.TheVariants as demands
use Rattle.target_base.specs.declared.address.Register.TheVariants as registers
use Rattle.target_base.specs.Addresses.{managed, served}
use Rattle.sbp_world.proofs.FitTarget.Agents.{BytesIn, offset_fits, pointer_fits}

either_small : (b : Bool) (answer : Answer) (rcode : ℕ) → BytesIn answer → BytesIn (cond b answer (Refused rcode))
either_small true answer rcode a = a
either_small false answer rcode a = tt

pub answer_small : (p : Packet) → BytesOf p → BytesIn (answer_in p)
answer_small (write_quadlet header offset value) b = tt
answer_small (write_block header offset payload) b = tt
answer_small (read_quadlet header offset) b = tt
answer_small (read_block header offset asked) b = tt
answer_small (write_response header rcode) b = either_small (rcode == 0) Done rcode tt
answer_small (read_quadlet_response header rcode value) b = either_small (rcode == 0) (Payload (big_bytes 4 value)) rcode (bytes_quad value)
answer_small (read_block_response header rcode payload) b = either_small (rcode == 0) (Payload payload) rcode b
answer_small (lock header offset extended payload) b = tt
answer_small (lock_response header rcode extended payload) b = either_small (rcode == 0) Done rcode tt

abbrev pub FitsAccess : Packet → Access → Type 0
FitsAccess p accesses.State = (given : List ℕ) → length given ≡ 4 → Gives p 0 given
FitsAccess p accesses.Pointer = (given : List ℕ) → length given ≡ 8 → Gives p 0 given
FitsAccess p (accesses.Point pointer) = ((rcode : ℕ) (given : List ℕ) → Gives p rcode given) × IsPointer pointer
FitsAccess p accesses.Reset = (rcode : ℕ) (given : List ℕ) → Gives p rcode given
FitsAccess p accesses.Ring = (rcode : ℕ) (given : List ℕ) → Gives p rcode given
FitsAccess p accesses.Enable = (rcode : ℕ) (given : List ℕ) → Gives p rcode given

abbrev pub FitsDemand : ℕ → Packet → Demand → Type 0
FitsDemand size p (demands.Refused rcode) = (rcode ≢ 0) × (rcode < 2 ^ 4)
FitsDemand size p (demands.Rom at len) = (at + len ≤ size) × ((given : List ℕ) → length given ≡ len → Gives p 0 given)
FitsDemand size p (demands.Manage orb) = ((rcode : ℕ) (given : List ℕ) → Gives p rcode given) × (orb < 2 ^ 48)
FitsDemand size p (demands.Agent place access) = FitsAccess p access

eight : (n : ℕ) → (n == 8) ≡ true → n ≡ 8
eight n e = grind (arith, nat_tests)

point_fits_if : (c : Bool) (header : Header) (offset : ℕ) (payload : List ℕ) (access : Access) → AreBytes payload → cond c (Some (accesses.Point (pointer_at payload 0))) None ≡ Some access → FitsAccess (write_block header offset payload) access
point_fits_if true header offset payload access b e =
    subst (λ (x : Access). FitsAccess (write_block header offset payload) x) (same_Some (accesses.Point (pointer_at payload 0)) access e) (λ rcode given. tt, pointer_fits payload 0 b)
point_fits_if false header offset payload access b e = cc

pointer_fits_if : (c : Bool) (header : Header) (offset asked : ℕ) (access : Access) → (asked == 8) ≡ c → cond c (Some accesses.Pointer) None ≡ Some access → FitsAccess (read_block header offset asked) access
pointer_fits_if true header offset asked access f e =
    subst (λ (x : Access). FitsAccess (read_block header offset asked) x) (same_Some accesses.Pointer access e) (λ given l r. l ∙ sym (eight asked f))
pointer_fits_if false header offset asked access f e = cc

access_fits : (register : Register) (p : Packet) (access : Access) → BytesOf p → accessed register p ≡ Some access → FitsAccess p access
access_fits registers.AgentState (write_quadlet header offset value) access b e = cc
access_fits registers.AgentState (write_block header offset payload) access b e = cc
access_fits registers.AgentState (read_quadlet header offset) access b e = subst (λ (x : Access). FitsAccess (read_quadlet header offset) x) (same_Some accesses.State access e) (λ given l r. l)
access_fits registers.AgentState (read_block header offset asked) access b e = cc
access_fits registers.AgentState (write_response header rcode) access b e = cc
access_fits registers.AgentState (read_quadlet_response header rcode value) access b e = cc
access_fits registers.AgentState (read_block_response header rcode payload) access b e = cc
access_fits registers.AgentState (lock header offset extended payload) access b e = cc
access_fits registers.AgentState (lock_response header rcode extended payload) access b e = cc
access_fits registers.AgentReset (write_quadlet header offset value) access b e = subst (λ (x : Access). FitsAccess (write_quadlet header offset value) x) (same_Some accesses.Reset access e) (λ rcode given. tt)
access_fits registers.AgentReset (write_block header offset payload) access b e = cc
access_fits registers.AgentReset (read_quadlet header offset) access b e = cc
access_fits registers.AgentReset (read_block header offset asked) access b e = cc
access_fits registers.AgentReset (write_response header rcode) access b e = cc
access_fits registers.AgentReset (read_quadlet_response header rcode value) access b e = cc
access_fits registers.AgentReset (read_block_response header rcode payload) access b e = cc
access_fits registers.AgentReset (lock header offset extended payload) access b e = cc
access_fits registers.AgentReset (lock_response header rcode extended payload) access b e = cc
access_fits registers.OrbPointer (write_quadlet header offset value) access b e = cc
access_fits registers.OrbPointer (write_block header offset payload) access b e = point_fits_if (length payload == 8) header offset payload access b e
access_fits registers.OrbPointer (read_quadlet header offset) access b e = cc
access_fits registers.OrbPointer (read_block header offset asked) access b e = pointer_fits_if (asked == 8) header offset asked access refl e
access_fits registers.OrbPointer (write_response header rcode) access b e = cc
access_fits registers.OrbPointer (read_quadlet_response header rcode value) access b e = cc
access_fits registers.OrbPointer (read_block_response header rcode payload) access b e = cc
access_fits registers.OrbPointer (lock header offset extended payload) access b e = cc
access_fits registers.OrbPointer (lock_response header rcode extended payload) access b e = cc
access_fits registers.Doorbell (write_quadlet header offset value) access b e = subst (λ (x : Access). FitsAccess (write_quadlet header offset value) x) (same_Some accesses.Ring access e) (λ rcode given. tt)
access_fits registers.Doorbell (write_block header offset payload) access b e = cc
access_fits registers.Doorbell (read_quadlet header offset) access b e = cc
access_fits registers.Doorbell (read_block header offset asked) access b e = cc
access_fits registers.Doorbell (write_response header rcode) access b e = cc
access_fits registers.Doorbell (read_quadlet_response header rcode value) access b e = cc
access_fits registers.Doorbell (read_block_response header rcode payload) access b e = cc
access_fits registers.Doorbell (lock header offset extended payload) access b e = cc
access_fits registers.Doorbell (lock_response header rcode extended payload) access b e = cc
access_fits registers.UnsolicitedStatusEnable (write_quadlet header offset value) access b e = subst (λ (x : Access). FitsAccess (write_quadlet header offset value) x) (same_Some accesses.Enable access e) (λ rcode given. tt)
access_fits registers.UnsolicitedStatusEnable (write_block header offset payload) access b e = cc
access_fits registers.UnsolicitedStatusEnable (read_quadlet header offset) access b e = cc
access_fits registers.UnsolicitedStatusEnable (read_block header offset asked) access b e = cc
access_fits registers.UnsolicitedStatusEnable (write_response header rcode) access b e = cc
access_fits registers.UnsolicitedStatusEnable (read_quadlet_response header rcode value) access b e = cc
access_fits registers.UnsolicitedStatusEnable (read_block_response header rcode payload) access b e = cc
access_fits registers.UnsolicitedStatusEnable (lock header offset extended payload) access b e = cc
access_fits registers.UnsolicitedStatusEnable (lock_response header rcode extended payload) access b e = cc

start_fits_if : (c : Bool) (header : Header) (offset : ℕ) (payload : List ℕ) (demand : Demand) → AreBytes payload → cond c (Some (demands.Manage (offset_at payload 0))) None ≡ Some demand → FitsDemand 0 (write_block header offset payload) demand
start_fits_if true header offset payload demand b e =
    subst (λ (x : Demand). FitsDemand 0 (write_block header offset payload) x) (is e) (λ rcode given. tt, offset_fits payload 0 b)
  where
    is : Some (demands.Manage (offset_at payload 0)) ≡ Some demand → demands.Manage (offset_at payload 0) ≡ demand
    is f = cc
start_fits_if false header offset payload demand b e = cc

managed_fits : (p : Packet) (demand : Demand) → BytesOf p → managed p ≡ Some demand → FitsDemand 0 p demand
managed_fits (write_quadlet header offset value) demand b e = cc
managed_fits (write_block header offset payload) demand b e = start_fits_if (length payload == 8) header offset payload demand b e
managed_fits (read_quadlet header offset) demand b e = cc
managed_fits (read_block header offset asked) demand b e = cc
managed_fits (write_response header rcode) demand b e = cc
managed_fits (read_quadlet_response header rcode value) demand b e = cc
managed_fits (read_block_response header rcode payload) demand b e = cc
managed_fits (lock header offset extended payload) demand b e = cc
managed_fits (lock_response header rcode extended payload) demand b e = cc

-- a demand of no ROM fits whatever size the ROM has
any_size : (size : ℕ) (p : Packet) (demand : Demand) → FitsDemand 0 p demand → FitsDemand size p demand
any_size size p (demands.Refused rcode) f = f
any_size size p (demands.Rom at len) f = let g : at + len ≤ 0 = f.0 in (omega arith, f.1)
any_size size p (demands.Manage orb) f = f
any_size size p (demands.Agent place access) f = f

agent_fits : (place : ℕ) (p : Packet) (access : Option Access) (demand : Demand) → ((a : Access) → access ≡ Some a → FitsAccess p a) → accessed_at place access ≡ Some demand → FitsDemand 0 p demand
agent_fits place p None demand f e = cc
agent_fits place p (Some a) demand f e = subst (λ (x : Demand). FitsDemand 0 p x) (is e) (f a refl)
  where
    is : Some (demands.Agent place a) ≡ Some demand → demands.Agent place a ≡ demand
    is g = cc

served_fits_by : (found : Option AgentRegister) (p : Packet) (demand : Demand) → BytesOf p → served_by found p ≡ Some demand → FitsDemand 0 p demand
served_fits_by None p demand b e = cc
served_fits_by (Some found) p demand b e = agent_fits found.place p (accessed found.register p) demand (λ a g. access_fits found.register p a b g) e

served_fits : (p : Packet) (demand : Demand) → BytesOf p → served (offset_in p) p ≡ Some demand → FitsDemand 0 p demand
served_fits p demand b e = by (offset_in p == management_start) e
  where
    by : (c : Bool) → cond c (managed p) (served_by (register_at (offset_in p)) p) ≡ Some demand → FitsDemand 0 p demand
    by true f = managed_fits p demand b f
    by false f = served_fits_by (register_at (offset_in p)) p demand b f

somewhere : (found : Option Demand) (p : Packet) → ((d : Demand) → found ≡ Some d → FitsDemand 0 p d) → FitsDemand 0 p (or_nowhere found)
somewhere (Some d) p f = f d refl
somewhere None p f = (not_complete 6, omega arith)

-- a read inside the ROM
rom_gives : (p : Packet) → is_read p ≡ true → (given : List ℕ) → length given ≡ length_in p → Gives p 0 given
rom_gives (write_quadlet header offset value) e given l = absurd (false≢true e)
rom_gives (write_block header offset payload) e given l = absurd (false≢true e)
rom_gives (read_quadlet header offset) e given l = λ r. l
rom_gives (read_block header offset asked) e given l = λ r. l
rom_gives (write_response header rcode) e given l = absurd (false≢true e)
rom_gives (read_quadlet_response header rcode value) e given l = absurd (false≢true e)
rom_gives (read_block_response header rcode payload) e given l = absurd (false≢true e)
rom_gives (lock header offset extended payload) e given l = absurd (false≢true e)
rom_gives (lock_response header rcode extended payload) e given l = absurd (false≢true e)

row_reads : (r : Reached) → row_of r ≡ by_rom → r.reads_rom ≡ true
row_reads r e = by r.is_lock r.is_empty r.writes_rom r.reads_rom r.is_served r.is_start e
  where
    by : (a b c d x y : Bool) → cond a by_type (cond b by_type (cond c by_type (cond d by_rom (cond x by_register (cond y by_type by_address))))) ≡ by_rom → d ≡ true
    by true b c d x y f = absurd (off f)
      where
        off : by_type ≡ by_rom → ⊥
        off z = cc
    by false true c d x y f = absurd (off f)
      where
        off : by_type ≡ by_rom → ⊥
        off z = cc
    by false false true d x y f = absurd (off f)
      where
        off : by_type ≡ by_rom → ⊥
        off z = cc
    by false false false true x y f = refl
    by false false false false true y f = absurd (off f)
      where
        off : by_register ≡ by_rom → ⊥
        off z = cc
    by false false false false false true f = absurd (off f)
      where
        off : by_type ≡ by_rom → ⊥
        off z = cc
    by false false false false false false f = absurd (off f)
      where
        off : by_address ≡ by_rom → ⊥
        off z = cc

rom_inside : (size offset count : ℕ) → nat_le rom_start offset ≡ true → nat_le (offset + count) (rom_start + size) ≡ true → offset - rom_start + count ≤ size
rom_inside size offset count a b = grind (arith, nat_tests)

rom_fits : (size : ℕ) (p : Packet) → reads_rom size p ≡ true → FitsDemand size p (demands.Rom (offset_in p - rom_start) (length_in p))
rom_fits size p e = by (is_read p) (nat_le rom_start (offset_in p)) (nat_le (offset_in p + length_in p) (rom_start + size)) refl refl refl e
  where
    by : (a b c : Bool) → is_read p ≡ a → nat_le rom_start (offset_in p) ≡ b → nat_le (offset_in p + length_in p) (rom_start + size) ≡ c → (a && (b && c)) ≡ true → FitsDemand size p (demands.Rom (offset_in p - rom_start) (length_in p))
    by true true true x y z f = (rom_inside size (offset_in p) (length_in p) y z, rom_gives p x)
    by true true false x y z f = absurd (false≢true f)
    by true false c x y z f = absurd (false≢true f)
    by false b c x y z f = absurd (false≢true f)

demand_by_fits : (row : Row) (size : ℕ) (p : Packet) → row_of (reached size p) ≡ row → BytesOf p → FitsDemand size p (demand_by row p)
demand_by_fits by_type size p e b = (not_complete 5, omega arith)
demand_by_fits by_rom size p e b = rom_fits size p (row_reads (reached size p) e)
demand_by_fits by_register size p e b = any_size size p (or_nowhere (served (offset_in p) p)) (somewhere (served (offset_in p) p) p (λ d f. served_fits p d b f))
demand_by_fits by_address size p e b = (not_complete 6, omega arith)

pub demand_fits : (size : ℕ) (p : Packet) → BytesOf p → FitsDemand size p (demand_of size p)
unfolding demand_of
demand_fits size p b = demand_by_fits (row_of (reached size p)) size p refl b
