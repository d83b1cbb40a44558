-- What a target asks for at a request is the row of the table of addresses.
use Rattle.std.proofs.Common.{arith, ◌≡◌, refl, ap, ◌∙◌, subst, ℕ, ◌+◌, ◌-◌, ◌*◌, ◌/◌, ◌%◌, ◌==◌, ◌&&◌, ◌||◌, not, nat_le, nat_lt, is_some, Bool, true, false, cond, List, [], length, Option, Some, None}
use Rattle.async_packet.specs.declared.packet.Header.{Header}
use Rattle.async_packet.specs.Packet.{Packet, write_quadlet, write_block, read_quadlet, read_block}
use Rattle.orb_layout.specs.Pointers.{pointer_at}
use Rattle.sbp_journal.specs.Addresses as table
use Rattle.sbp_journal.specs.Addresses.{Register, agent_state, agent_reset, orb_pointer, doorbell, unsolicited_enable, Start, rom_start, management_agent, register, no_start, start_at, start_serves, access_of, rom_base, management_address, registers_base, base_of}
use Rattle.target_base.specs.declared.address.Access.{Access}
use Rattle.target_base.specs.declared.address.Access.TheVariants as accesses
use Rattle.target_base.specs.declared.address.AgentRegister.{AgentRegister}
use Rattle.target_base.specs.declared.address.Register as code
use Rattle.target_base.specs.declared.address.Register.TheVariants as codes
use Rattle.target_base.specs.declared.address.Demand.{Demand}
use Rattle.target_base.specs.declared.address.Demand.TheVariants as demands
use Rattle.target_base.specs.Addresses as node
use Rattle.target_base.specs.Addresses.{agents_start, management_start, accessed, accessed_at, agent_register, managed, served, served_by, register_by, register_at, offset_in, length_in, Reached, row_of, reached, or_nowhere, demand_by, demand_of}
use Rattle.sbp_target.specs.Histories.Judgements.{asked_at}

-- ---- what starts at an address
abbrev pub named : code.Register → Register
named codes.AgentState = agent_state
named codes.AgentReset = agent_reset
named codes.OrbPointer = orb_pointer
named codes.Doorbell = doorbell
named codes.UnsolicitedStatusEnable = unsolicited_enable

abbrev pub start_of : Option AgentRegister → Start
start_of None = no_start
start_of (Some found) = register found.place (named found.register)

by_distance : (place : ℕ) (a b c d e : Bool) → start_of (agent_register place (cond a (Some codes.AgentState) (cond b (Some codes.AgentReset) (cond c (Some codes.OrbPointer) (cond d (Some codes.Doorbell) (cond e (Some codes.UnsolicitedStatusEnable) None)))))) ≡ cond a (register place agent_state) (cond b (register place agent_reset) (cond c (register place orb_pointer) (cond d (register place doorbell) (cond e (register place unsolicited_enable) no_start))))
by_distance place true b c d e = refl
by_distance place false true c d e = refl
by_distance place false false true d e = refl
by_distance place false false false true e = refl
by_distance place false false false false true = refl
by_distance place false false false false false = refl

outside : (offset : ℕ) → (nat_lt offset agents_start || nat_le (agents_start + 8 * 0x20) offset) ≡ not (nat_le registers_base offset && nat_lt offset (base_of 8))
outside offset = grind arith

in_registers : (b : Bool) (found : Option AgentRegister) (start : Start) → start_of found ≡ start → start_of (cond (not b) None found) ≡ cond b start no_start
in_registers true found start e = e
in_registers false found start e = refl

-- the registers of the target are those of the table
registers_are : (offset : ℕ) → start_of (register_at offset) ≡ cond (nat_le registers_base offset && nat_lt offset (base_of 8)) (table.register_at ((offset - registers_base) / 0x20) ((offset - registers_base) % 0x20)) no_start
unfolding register_at
registers_are offset =
    let d = (offset - registers_base) % 0x20 in
    ap (λ (b : Bool). start_of (cond b None (agent_register ((offset - agents_start) / 0x20) (register_by ((offset - agents_start) % 0x20))))) (outside offset)
    ∙ in_registers (nat_le registers_base offset && nat_lt offset (base_of 8)) (agent_register ((offset - agents_start) / 0x20) (register_by ((offset - agents_start) % 0x20))) (table.register_at ((offset - registers_base) / 0x20) d)
    (by_distance ((offset - registers_base) / 0x20) (d == 0x00) (d == 0x04) (d == 0x08) (d == 0x10) (d == 0x14))

-- what starts there, by what the target compares
abbrev pub start_by : (rom management : Bool) → Option AgentRegister → Start
start_by true management found = rom_start
start_by false true found = management_agent
start_by false false found = start_of found

by_tests : (r m : Bool) (found : Option AgentRegister) (start : Start) → start_of found ≡ start → start_by r m found ≡ cond r rom_start (cond m management_agent start)
by_tests true m found start e = refl
by_tests false true found start e = refl
by_tests false false found start e = e

pub start_is : (offset : ℕ) → start_by (offset == rom_base) (offset == management_address) (register_at offset) ≡ start_at offset
unfolding start_at
start_is offset =
    by_tests (offset == rom_base) (offset == management_address) (register_at offset) _ (registers_are offset)

-- no register starts where the ROM or MANAGEMENT_AGENT does
pub rom_apart : (offset : ℕ) → (offset == rom_base) ≡ true → ((offset == management_address) ≡ false) × (register_at offset ≡ None)
unfolding register_at
rom_apart offset e =
    let i : rom_base ≡ offset = grind arith in
    subst (λ (o : ℕ). ((o == management_address) ≡ false) × (register_at o ≡ None)) i (refl, refl)

pub management_apart : (offset : ℕ) → (offset == management_address) ≡ true → register_at offset ≡ None
unfolding register_at
management_apart offset e =
    let i : management_address ≡ offset = grind arith in
    subst (λ (o : ℕ). register_at o ≡ None) i refl

-- ---- what is served there
abbrev pub asked_if : Bool → Start → table.Access → Option Demand
asked_if serves start access = cond serves (asked_at start access) None

abbrev pub asked_by : Start → table.Access → Option Demand
asked_by start access = asked_if (start_serves start access) start access

abbrev pub Wrote : ℕ → table.Access
Wrote offset = record { is_lock = false; is_write = true; is_block = false; offset = offset; count = 4; payload = [] }

abbrev pub WroteBlock : ℕ → List ℕ → table.Access
WroteBlock offset payload = record { is_lock = false; is_write = true; is_block = true; offset = offset; count = length payload; payload = payload }

abbrev pub Read : ℕ → table.Access
Read offset = record { is_lock = false; is_write = false; is_block = false; offset = offset; count = 4; payload = [] }

abbrev pub ReadBlock : ℕ → ℕ → table.Access
ReadBlock offset asked = record { is_lock = false; is_write = false; is_block = true; offset = offset; count = asked; payload = [] }

pointed : (b : Bool) (place : ℕ) (x : Access) → accessed_at place (cond b (Some x) None) ≡ cond b (Some (demands.Agent place x)) None
pointed true place x = refl
pointed false place x = refl

pointed_or : (b : Bool) (place : ℕ) (x : Access) → accessed_at place (cond b (Some x) None) ≡ cond (b || false) (Some (demands.Agent place x)) None
pointed_or true place x = refl
pointed_or false place x = refl

at_write : (place : ℕ) (r : code.Register) (h : Header) (offset value : ℕ) → accessed_at place (accessed r (write_quadlet h offset value)) ≡ asked_by (register place (named r)) (Wrote offset)
at_write place codes.AgentState h offset value = refl
at_write place codes.AgentReset h offset value = refl
at_write place codes.OrbPointer h offset value = refl
at_write place codes.Doorbell h offset value = refl
at_write place codes.UnsolicitedStatusEnable h offset value = refl

at_block : (place : ℕ) (r : code.Register) (h : Header) (offset : ℕ) (payload : List ℕ) → accessed_at place (accessed r (write_block h offset payload)) ≡ asked_by (register place (named r)) (WroteBlock offset payload)
at_block place codes.AgentState h offset payload = refl
at_block place codes.AgentReset h offset payload = refl
at_block place codes.OrbPointer h offset payload = pointed_or (length payload == 8) place (accesses.Point (pointer_at payload 0))
at_block place codes.Doorbell h offset payload = refl
at_block place codes.UnsolicitedStatusEnable h offset payload = refl

at_read : (place : ℕ) (r : code.Register) (h : Header) (offset : ℕ) → accessed_at place (accessed r (read_quadlet h offset)) ≡ asked_by (register place (named r)) (Read offset)
at_read place codes.AgentState h offset = refl
at_read place codes.AgentReset h offset = refl
at_read place codes.OrbPointer h offset = refl
at_read place codes.Doorbell h offset = refl
at_read place codes.UnsolicitedStatusEnable h offset = refl

at_read_block : (place : ℕ) (r : code.Register) (h : Header) (offset asked : ℕ) → accessed_at place (accessed r (read_block h offset asked)) ≡ asked_by (register place (named r)) (ReadBlock offset asked)
at_read_block place codes.AgentState h offset asked = refl
at_read_block place codes.AgentReset h offset asked = refl
at_read_block place codes.OrbPointer h offset asked = pointed (asked == 8) place accesses.Pointer
at_read_block place codes.Doorbell h offset asked = refl
at_read_block place codes.UnsolicitedStatusEnable h offset asked = refl

-- What is served of a request of a kind: at MANAGEMENT_AGENT, and at a register.
pub record Served (p : Packet) (access : table.Access) : Type 0 where
  pub at_management : managed p ≡ asked_by management_agent access
  pub at_register : (found : Option AgentRegister) → served_by found p ≡ asked_by (start_of found) access

by_found : (p : Packet) (access : table.Access) → ((place : ℕ) (r : code.Register) → accessed_at place (accessed r p) ≡ asked_by (register place (named r)) access) → (found : Option AgentRegister) → served_by found p ≡ asked_by (start_of found) access
by_found p access h None = refl
by_found p access h (Some found) = h found.place found.register

pub write_served : (h : Header) (offset value : ℕ) → Served (write_quadlet h offset value) (Wrote offset)
write_served h offset value = record { at_management = refl; at_register = by_found (write_quadlet h offset value) (Wrote offset) (λ place r. at_write place r h offset value) }

pub block_served : (h : Header) (offset : ℕ) (payload : List ℕ) → Served (write_block h offset payload) (WroteBlock offset payload)
block_served h offset payload = record { at_management = refl; at_register = by_found (write_block h offset payload) (WroteBlock offset payload) (λ place r. at_block place r h offset payload) }

pub read_served : (h : Header) (offset : ℕ) → Served (read_quadlet h offset) (Read offset)
read_served h offset = record { at_management = refl; at_register = by_found (read_quadlet h offset) (Read offset) (λ place r. at_read place r h offset) }

pub read_block_served : (h : Header) (offset asked : ℕ) → Served (read_block h offset asked) (ReadBlock offset asked)
read_block_served h offset asked = record { at_management = refl; at_register = by_found (read_block h offset asked) (ReadBlock offset asked) (λ place r. at_read_block place r h offset asked) }

served_in : (p : Packet) (access : table.Access) → Served p access → (r m : Bool) (found : Option AgentRegister) → (r ≡ true → (m ≡ false) × (found ≡ None)) → cond m (managed p) (served_by found p) ≡ asked_by (start_by r m found) access
served_in p access h true m found apart =
    let a = apart refl in
    ap (λ (b : Bool). cond b (managed p) (served_by found p)) a.0 ∙ ap (λ (f : Option AgentRegister). served_by f p) a.1
served_in p access h false true found apart = h.at_management
served_in p access h false false found apart = h.at_register found

pub served_is : (p : Packet) (access : table.Access) (offset : ℕ) → Served p access → served offset p ≡ asked_by (start_at offset) access
served_is p access offset h =
    served_in p access h (offset == rom_base) (offset == management_address) (register_at offset) (rom_apart offset)
    ∙ ap (λ (s : Start). asked_by s access) (start_is offset)

starts : (r m : Bool) (found : Option AgentRegister) → (r || (m || is_some found)) ≡ table.is_start (start_by r m found)
starts true m found = refl
starts false true found = refl
starts false false None = refl
starts false false (Some found) = refl

pub starts_there : (offset : ℕ) → node.is_start offset ≡ table.is_start (start_at offset)
starts_there offset =
    starts (offset == rom_base) (offset == management_address) (register_at offset) ∙ ap (λ (s : Start). table.is_start s) (start_is offset)
