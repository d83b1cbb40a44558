-- What a request asks of the target brings no more requests of the target than are due for it by its bytes.
use Rattle.sbp_world.proofs.Words.Std.{arith, ◌≡◌, ◌∙◌, refl, ap, ℕ, ◌-◌, ◌≤◌, ◌==◌, ◌&&◌, not, nat_tests, Bool, true, false, cond, List, Some}
use Rattle.sbp_world.proofs.Words.Wire.{Packet, Access, Register, Start, access_of, agent_reset, agent_state, begins_in_rom, doorbell, is_start, lies_in_rom, management_agent, no_start, orb_pointer, register, rom_base, rom_start, start_at, start_serves, unsolicited_enable}
use Rattle.sbp_journal.specs.Addresses.{writes_pointer, writes_quadlet}
use Rattle.sbp_world.proofs.Words.Target.{Demand, demand_of, or_nowhere, asked_at, asked_of}
use Rattle.sbp_world.proofs.Words.Initiator.{offset_at, pointer_at}
use Rattle.sbp_world.proofs.Words.Laws.{access_in_bytes}
use Rattle.target_base.specs.declared.address.Access.TheVariants as accesses
use Rattle.target_base.specs.declared.address.Demand.TheVariants as demands
use Rattle.sbp_target.proofs.Histories.Asked.{Rows, demand_is, serves_is}
use Rattle.sbp_target.specs.RequestsLeft.{access_due, demand_due}
use Rattle.sbp_world.specs.Counting.Wire.{due_at, due_by, due_of}
use Rattle.sbp_world.proofs.Agents.Demands.{none_some}

-- a request that no start serves brings none
rows_bring : (l e w r a : Bool) (at len : ℕ) (asked : Demand) → demand_due (Rows l e w r false a (demands.Rom at len) asked) ≡ 0
rows_bring true e w r a at len asked = refl
rows_bring false true w r a at len asked = refl
rows_bring false false true r a at len asked = refl
rows_bring false false false true a at len asked = refl
rows_bring false false false false true at len asked = refl
rows_bring false false false false false at len asked = refl

-- a register of an agent
pointer_none : (b : Bool) (access : Access) → access_due (cond b (accesses.Point (pointer_at access.payload 0)) accesses.Pointer) ≡ 0
pointer_none true access = refl
pointer_none false access = refl

quadlet_is : (b : Bool) → b ≡ true → 1 ≤ cond b 1 0
quadlet_is true e = omega arith
quadlet_is false e = absurd (let no : false ≡ true = e in cc)

register_brings : (counts : Bool) (name : Register) (place : ℕ) (access : Access) → start_serves (register place name) access ≡ true → access_due (asked_of name access) ≤ due_at counts (register place name) access
register_brings counts agent_state place access s = omega arith
register_brings counts agent_reset place access s = omega arith
register_brings counts orb_pointer place access s = let none = pointer_none access.is_write access in omega (arith, none)
register_brings counts doorbell place access s = quadlet_is (writes_quadlet access) s
register_brings counts unsolicited_enable place access s = quadlet_is (writes_quadlet access) s

manage_is : (counts b : Bool) → counts ≡ true → b ≡ true → 5 ≤ cond (counts && b) 5 0
manage_is true true c e = omega arith
manage_is false b c e = absurd (let no : false ≡ true = c in cc)
manage_is true false c e = absurd (let no : false ≡ true = e in cc)

-- a write of MANAGEMENT_AGENT counts
abbrev Counts : Bool → Demand → Type 0
Counts counts d = (orb : ℕ) → d ≡ demands.Manage orb → counts ≡ true

-- a start that serves it
start_brings : (counts : Bool) (start : Start) (access : Access) (d : Demand) → Counts counts d → start_serves start access ≡ true → Some d ≡ asked_at start access → demand_due d ≤ due_at counts start access
start_brings counts management_agent access d c s e =
    let same : d ≡ demands.Manage (offset_at access.payload 0) = cc in
    let five : demand_due d ≡ 5 = ap demand_due same in
    let most = manage_is counts (writes_pointer access) (c _ same) s in
    omega (arith, five, most)
start_brings counts (register place name) access d c s e =
    let same : d ≡ demands.Agent place (asked_of name access) = cc in
    let is : demand_due d ≡ access_due (asked_of name access) = ap demand_due same in
    let most = register_brings counts name place access s in
    omega (arith, is, most)
start_brings counts rom_start access d c s e = absurd (none_some d e)
start_brings counts no_start access d c s e = absurd (none_some d e)

abbrev Asks : Bool → ℕ → Access → Demand
Asks serves size access =
    Rows access.is_lock (access.count == 0) (access.is_write && begins_in_rom size access) (not access.is_write && lies_in_rom size access) serves (is_start (start_at access.offset)) (demands.Rom (access.offset - rom_base) access.count) (or_nowhere (asked_at (start_at access.offset) access))

got_brings : (counts b : Bool) (size : ℕ) (p : Packet) (access : Access) → size ≤ 1024 → access_of p ≡ Some access → start_serves (start_at access.offset) access ≡ b → Counts counts (demand_of size p) → demand_due (demand_of size p) ≤ due_at counts (start_at access.offset) access
got_brings counts true size p access small a s c = start_brings counts (start_at access.offset) access (demand_of size p) c s (serves_is p access a size small s)
got_brings counts false size p access small a s c =
    let none : demand_due (demand_of size p) ≡ 0 =
    ap demand_due (demand_is size p access a ∙ ap (λ (b : Bool). Asks b size access) s)
    ∙ rows_bring access.is_lock (access.count == 0) (access.is_write && begins_in_rom size access) (not access.is_write && lies_in_rom size access) (is_start (start_at access.offset)) (access.offset - rom_base) access.count (or_nowhere (asked_at (start_at access.offset) access)) in
    omega (arith, none)

-- by the bytes of a request that was sent to the target
pub request_brings : (counts : Bool) (size from : ℕ) (bytes : List ℕ) (p : Packet) (access : Access) → size ≤ 1024 → (from ≡ 0 → ⊥) → access_in_bytes bytes ≡ Some access → access_of p ≡ Some access → Counts counts (demand_of size p) → demand_due (demand_of size p) ≤ due_of counts from bytes
request_brings counts size from bytes p access small apart spelled a c =
    let most = got_brings counts (start_serves (start_at access.offset) access) size p access small a refl c in
    let is : due_of counts from bytes ≡ due_at counts (start_at access.offset) access = by (from == 0) refl in
    omega (arith, most, is)
  where
    by : (b : Bool) → (from == 0) ≡ b → cond b 0 (due_by counts (access_in_bytes bytes)) ≡ due_at counts (start_at access.offset) access
    by true e = absurd (apart (let z : from ≡ 0 = grind (arith, nat_tests) in z))
    by false e = ap (due_by counts) spelled
