-- What a target asks for at a request, by the rows of the table of addresses.
use Rattle.std.proofs.Common.{arith, ◌≡◌, refl, sym, ap, ◌∙◌, subst, ℕ, ◌+◌, ◌-◌, ◌*◌, ◌/◌, ◌%◌, ◌||◌, ◌≤◌, ◌==◌, ◌&&◌, not, nat_le, nat_lt, is_some, Bool, true, false, cond, [], ◌∷◌, length, Option, Some, None, IfSome}
use Rattle.async_packet.specs.Packet.{Packet, write_quadlet, write_block, write_response, read_quadlet, read_block, read_quadlet_response, read_block_response, lock, lock_response}
use Rattle.sbp_journal.specs.Addresses as table
use Rattle.sbp_journal.specs.Addresses.{Start, rom_start, management_agent, register, no_start, start_at, start_serves, begins_in_rom, lies_in_rom, access_of, rom_base, management_address}
use Rattle.sbp_journal.specs.Rows.{first_or}
use Rattle.target_base.specs.declared.address.AgentRegister.{AgentRegister}
use Rattle.target_base.specs.declared.address.Demand.{Demand}
use Rattle.target_base.specs.declared.address.Demand.TheVariants as demands
use Rattle.target_base.specs.Addresses as node
use Rattle.target_base.specs.Addresses.{agents_start, agent_register, register_by, register_at, length_in, served, offset_in, Reached, row_of, or_nowhere, demand_by, demand_of}
use Rattle.sbp_target.specs.Histories.Judgements.{asked_at}
use Rattle.sbp_target.proofs.Histories.Rowed.{Wrote, WroteBlock, Read, ReadBlock, start_by, start_is, Served, asked_if, asked_by, served_is, starts_there, write_served, block_served, read_served, read_block_served}

-- what a row asks for
abbrev pub Rows : (l e w r s a : Bool) (rom asked : Demand) → Demand
Rows l e w r s a rom asked = first_or (demands.Refused 7) (
    (l, demands.Refused 6)
    ∷ (e, demands.Refused 6)
    ∷ (w, demands.Refused 6)
    ∷ (r, rom)
    ∷ (s, asked)
    ∷ (a, demands.Refused 6)
    ∷ [])

abbrev pub Demanded : ℕ → table.Access → Demand
Demanded size access = Rows access.is_lock (access.count == 0) (access.is_write && begins_in_rom size access) (not access.is_write && lies_in_rom size access) (start_serves (start_at access.offset) access) (table.is_start (start_at access.offset)) (demands.Rom (access.offset - rom_base) access.count) (or_nowhere (asked_at (start_at access.offset) access))

abbrev Facts : (e w r : Bool) → Option Demand → (a : Bool) → Reached
Facts e w r found a = record { is_lock = false; is_empty = e; writes_rom = w; reads_rom = r; is_served = is_some found; is_start = a }

abbrev By : (e w r : Bool) → Option Demand → (a : Bool) → (rom : Demand) → Demand
By e w r found a rom = Rows false e w r (is_some found) a rom (or_nowhere found)

by_rows : (p : Packet) (e w r a : Bool) (found : Option Demand) → served (offset_in p) p ≡ found → demand_by (row_of (Facts e w r found a)) p ≡ By e w r found a (demands.Rom (offset_in p - rom_base) (length_in p))
by_rows p true w r a found h = refl
by_rows p false true r a found h = refl
by_rows p false false true a found h = refl
by_rows p false false false a (Some demand) h = ap (λ (o : Option Demand). or_nowhere o) h
by_rows p false false false true None h = refl
by_rows p false false false false None h = refl

-- a start that serves nothing asks for nothing
none_if : (e w r a s : Bool) (start : Start) (access : table.Access) (rom : Demand) → start_serves start access ≡ s → By e w r (asked_if s start access) a rom ≡ Rows false e w r s a rom (or_nowhere (asked_at start access))
none_if e w r a false start access rom h = refl
none_if e w r a true (register place name) access rom h = refl
none_if e w r a true management_agent access rom h = refl
none_if e w r a true rom_start access rom h = cc
none_if e w r a true no_start access rom h = cc

by_table : (p : Packet) (access : table.Access) (e w r : Bool) → Served p access → offset_in p ≡ access.offset → demand_by (row_of (Facts e w r (served (offset_in p) p) (node.is_start (offset_in p)))) p ≡ Rows false e w r (start_serves (start_at access.offset) access) (table.is_start (start_at access.offset)) (demands.Rom (offset_in p - rom_base) (length_in p)) (or_nowhere (asked_at (start_at access.offset) access))
by_table p access e w r h at =
    let rom = demands.Rom (offset_in p - rom_base) (length_in p) in
    let a = node.is_start (offset_in p) in
    let start = start_at access.offset in
    by_rows p e w r a (served (offset_in p) p) refl
    ∙ ap (λ (f : Option Demand). By e w r f a rom) (served_is p access (offset_in p) h ∙ ap (λ (o : ℕ). asked_by (start_at o) access) at)
    ∙ none_if e w r a (start_serves start access) start access rom refl
    ∙ ap (λ (b : Bool). Rows false e w r (start_serves start access) b rom (or_nowhere (asked_at start access))) (starts_there (offset_in p) ∙ ap (λ (o : ℕ). table.is_start (start_at o)) at)

demand_at : (size : ℕ) (p : Packet) → IfSome (access_of p) (λ access. demand_of size p ≡ Demanded size access)
unfolding demand_of
demand_at size (write_quadlet h offset value) = by_table (write_quadlet h offset value) (Wrote offset) false (begins_in_rom size (Wrote offset)) false (write_served h offset value) refl
demand_at size (write_block h offset payload) = by_table (write_block h offset payload) (WroteBlock offset payload) (length payload == 0) (begins_in_rom size (WroteBlock offset payload)) false (block_served h offset payload) refl
demand_at size (read_quadlet h offset) = by_table (read_quadlet h offset) (Read offset) false false (lies_in_rom size (Read offset)) (read_served h offset) refl
demand_at size (read_block h offset asked) = by_table (read_block h offset asked) (ReadBlock offset asked) (asked == 0) false (lies_in_rom size (ReadBlock offset asked)) (read_block_served h offset asked) refl
demand_at size (lock h offset extended payload) = refl
demand_at size (write_response h rcode) = tt
demand_at size (read_quadlet_response h rcode value) = tt
demand_at size (read_block_response h rcode payload) = tt
demand_at size (lock_response h rcode extended payload) = tt

pub of_access : (p : Packet) (P : table.Access → Type 0) → IfSome (access_of p) P → (access : table.Access) → access_of p ≡ Some access → P access
of_access p P h access e = subst (λ (o : Option table.Access). IfSome o P) e h

pub demand_is : (size : ℕ) (p : Packet) (access : table.Access) → access_of p ≡ Some access → demand_of size p ≡ Demanded size access
demand_is size p = of_access p (λ access. demand_of size p ≡ Demanded size access) (demand_at size p)

-- ---- a start that serves an access lies behind the ROM
far : (offset : ℕ) → nat_lt offset agents_start ≡ true → register_at offset ≡ None
unfolding register_at
far offset e = ap (λ (b : Bool). cond (b || nat_le (agents_start + 8 * 0x20) offset) None (agent_register ((offset - agents_start) / 0x20) (register_by ((offset - agents_start) % 0x20)))) e

none_some : (found : AgentRegister) → None ≡ Some found → ⊥
none_some found e = cc

untrue : false ≡ true → ⊥
untrue e = cc

behind_by : (offset : ℕ) (access : table.Access) (r m near : Bool) (found : Option AgentRegister) → (offset == rom_base) ≡ r → (offset == management_address) ≡ m → nat_lt offset agents_start ≡ near → register_at offset ≡ found → start_serves (start_by r m found) access ≡ true → management_address ≤ offset
behind_by offset access true m near found er em en ef s = absurd (untrue s)
behind_by offset access false true near found er em en ef s = let i : offset ≡ management_address = grind arith in omega arith
behind_by offset access false false false found er em en ef s = grind arith
behind_by offset access false false true None er em en ef s = absurd (untrue s)
behind_by offset access false false true (Some found) er em en ef s = absurd (none_some found (sym (far offset en) ∙ ef))

behind : (access : table.Access) → start_serves (start_at access.offset) access ≡ true → management_address ≤ access.offset
behind access s =
    let o = access.offset in
    behind_by o access (o == rom_base) (o == management_address) (nat_lt o agents_start) (register_at o) refl refl refl refl
    (ap (λ (start : Start). start_serves start access) (start_is o) ∙ s)

-- and is one of 4 or 8 bytes
eight : (count : ℕ) → (count == 8) ≡ true → (count == 0) ≡ false
eight count e = grind arith

eight_or : (count : ℕ) → ((count == 8) || false) ≡ true → (count == 0) ≡ false
eight_or count e = grind arith

has_bytes : (start : Start) (p : Packet) → IfSome (access_of p) (λ access. start_serves start access ≡ true → (access.is_lock ≡ false) × ((access.count == 0) ≡ false))
has_bytes start (write_quadlet h offset value) = λ s. (refl, refl)
has_bytes start (read_quadlet h offset) = λ s. (refl, refl)
has_bytes (register place table.agent_state) (write_block h offset payload) = λ s. cc
has_bytes (register place table.agent_reset) (write_block h offset payload) = λ s. cc
has_bytes (register place table.orb_pointer) (write_block h offset payload) = λ s. (refl, eight_or (length payload) s)
has_bytes (register place table.doorbell) (write_block h offset payload) = λ s. cc
has_bytes (register place table.unsolicited_enable) (write_block h offset payload) = λ s. cc
has_bytes management_agent (write_block h offset payload) = λ s. (refl, eight (length payload) s)
has_bytes rom_start (write_block h offset payload) = λ s. cc
has_bytes no_start (write_block h offset payload) = λ s. cc
has_bytes (register place table.agent_state) (read_block h offset asked) = λ s. cc
has_bytes (register place table.agent_reset) (read_block h offset asked) = λ s. cc
has_bytes (register place table.orb_pointer) (read_block h offset asked) = λ s. (refl, eight asked s)
has_bytes (register place table.doorbell) (read_block h offset asked) = λ s. cc
has_bytes (register place table.unsolicited_enable) (read_block h offset asked) = λ s. cc
has_bytes management_agent (read_block h offset asked) = λ s. cc
has_bytes rom_start (read_block h offset asked) = λ s. cc
has_bytes no_start (read_block h offset asked) = λ s. cc
has_bytes (register place table.agent_state) (lock h offset extended payload) = λ s. cc
has_bytes (register place table.agent_reset) (lock h offset extended payload) = λ s. cc
has_bytes (register place table.orb_pointer) (lock h offset extended payload) = λ s. cc
has_bytes (register place table.doorbell) (lock h offset extended payload) = λ s. cc
has_bytes (register place table.unsolicited_enable) (lock h offset extended payload) = λ s. cc
has_bytes management_agent (lock h offset extended payload) = λ s. cc
has_bytes rom_start (lock h offset extended payload) = λ s. cc
has_bytes no_start (lock h offset extended payload) = λ s. cc
has_bytes start (write_response h rcode) = tt
has_bytes start (read_quadlet_response h rcode value) = tt
has_bytes start (read_block_response h rcode payload) = tt
has_bytes start (lock_response h rcode extended payload) = tt

asked_some : (start : Start) (access : table.Access) → start_serves start access ≡ true → Some (or_nowhere (asked_at start access)) ≡ asked_at start access
asked_some management_agent access s = refl
asked_some (register place name) access s = refl
asked_some rom_start access s = cc
asked_some no_start access s = cc

all_false : (l e w r s a : Bool) (rom asked : Demand) → l ≡ false → e ≡ false → w ≡ false → r ≡ false → s ≡ true → Rows l e w r s a rom asked ≡ asked
all_false false false false false true a rom asked x y z u v = refl
all_false true e w r s a rom asked x y z u v = cc
all_false false true w r s a rom asked x y z u v = cc
all_false false false true r s a rom asked x y z u v = cc
all_false false false false true s a rom asked x y z u v = cc
all_false false false false false false a rom asked x y z u v = cc

past_rom : (offset size : ℕ) (b c : Bool) → size ≤ 1024 → management_address ≤ offset → (b && (c && nat_lt offset (rom_base + size))) ≡ false
past_rom offset size false c h i = refl
past_rom offset size true false h i = refl
past_rom offset size true true h i = grind arith

past_end : (offset count size : ℕ) (b c : Bool) → size ≤ 1024 → management_address ≤ offset → (b && (c && nat_le (offset + count) (rom_base + size))) ≡ false
past_end offset count size false c h i = refl
past_end offset count size true false h i = refl
past_end offset count size true true h i = grind arith

-- what a start serves is what it is for
pub serves_is : (p : Packet) (access : table.Access) → access_of p ≡ Some access → (size : ℕ) → size ≤ 1024 → start_serves (start_at access.offset) access ≡ true → Some (demand_of size p) ≡ asked_at (start_at access.offset) access
serves_is p access e size small s =
    let start = start_at access.offset in
    let i = behind access s in
    let h = of_access p (λ access'. start_serves start access' ≡ true → (access'.is_lock ≡ false) × ((access'.count == 0) ≡ false)) (has_bytes start p) access e s in
    ap (λ (d : Demand). Some d) (demand_is size p access e
    ∙ all_false access.is_lock (access.count == 0) _ _ (start_serves start access) (table.is_start start) (demands.Rom (access.offset - rom_base) access.count) (or_nowhere (asked_at start access)) h.0 h.1
    (past_rom access.offset size access.is_write (nat_le rom_base access.offset) small i)
    (past_end access.offset access.count size (not access.is_write) (nat_le rom_base access.offset) small i) s)
    ∙ asked_some start access s
