-- What a request of a register is for an agent, by what the target is asked for: what the laws make of the one they make of the other.
use Rattle.std.proofs.Common.{◌≡◌, ◌∙◌, refl, sym, ap, ℕ, ◌-◌, ◌≤◌, ◌==◌, ◌&&◌, not, Bool, true, false, cond, Some}
use Rattle.async_packet.specs.Packet.{Packet}
use Rattle.orb_layout.specs.Pointers.{offset_at, pointer_at}
use Rattle.orb_layout.specs.declared.pointer.OrbPointer.{OrbPointer}
use Rattle.sbp_journal.specs.Addresses.{Access, Register, Start, access_of, agent_reset, agent_state, begins_in_rom, doorbell, is_start, lies_in_rom, management_agent, no_start, orb_pointer, register, rom_base, rom_start, start_at, start_serves, unsolicited_enable}
use Rattle.sbp_laws.specs.Agents.{Event, nothing, write_in, write_of, writes}
use Rattle.sbp_target.specs.Histories.Judgements.{asked_at, asked_of}
use Rattle.target_base.specs.Addresses.{demand_of, or_nowhere}
use Rattle.target_base.specs.declared.address.Access as base
use Rattle.target_base.specs.declared.address.Access.TheVariants as accesses
use Rattle.target_base.specs.declared.address.Demand.{Demand}
use Rattle.target_base.specs.declared.address.Demand.TheVariants as demands
use Rattle.sbp_target.proofs.Histories.Asked.{Rows, demand_is, serves_is}
use Rattle.sbp_world.proofs.Agents.Demands.{none_some}

pub quadlet_writes : (l w b : Bool) → (not l && w && not b) ≡ true → w ≡ true
quadlet_writes true w b e = absurd (let no : false ≡ true = e in cc)
quadlet_writes false true b e = refl
quadlet_writes false false b e = absurd (let no : false ≡ true = e in cc)

-- the laws make nothing of any register but those that take an agent on
pub record Takes {B : Type 0} (F : Event → B) (z : B) (P : ℕ → OrbPointer → B) (R : ℕ → B) : Type 0 where
  pub none : F nothing ≡ z
  pub state : (place : ℕ) (access : Access) → F (writes agent_state place access) ≡ z
  pub reset : (place : ℕ) (access : Access) → F (writes agent_reset place access) ≡ z
  pub enable : (place : ℕ) (access : Access) → F (writes unsolicited_enable place access) ≡ z
  pub points : (place : ℕ) (access : Access) → F (writes orb_pointer place access) ≡ P place (pointer_at access.payload 0)
  pub rings : (place : ℕ) (access : Access) → F (writes doorbell place access) ≡ R place

module _ {B : Type 0} (F : Event → B) (z : B) (P : ℕ → OrbPointer → B) (R : ℕ → B) (k : Takes F z P R) where
  abbrev pub access_takes : (place : ℕ) → base.Access → B
  access_takes place (accesses.Point pointer) = P place pointer
  access_takes place accesses.Ring = R place
  access_takes place access = z

  abbrev pub demand_takes : Demand → B
  demand_takes (demands.Agent place access) = access_takes place access
  demand_takes demand = z

  either : (b : Bool) (event : Event) → F event ≡ z → F (cond b event nothing) ≡ z
  either true event e = e
  either false event e = k.none

  pointer_takes : (w x : Bool) (place : ℕ) (access : Access) → x ≡ true → F (cond (w && x) (writes orb_pointer place access) nothing) ≡ access_takes place (cond w (accesses.Point (pointer_at access.payload 0)) accesses.Pointer)
  pointer_takes true x place access e = ap (λ b. F (cond b (writes orb_pointer place access) nothing)) e ∙ k.points place access
  pointer_takes false x place access e = k.none

  register_takes : (name : Register) (place : ℕ) (access : Access) → start_serves (register place name) access ≡ true → F (write_of (register place name) access) ≡ access_takes place (asked_of name access)
  register_takes agent_state place access s = either (access.is_write && start_serves (register place agent_state) access) (writes agent_state place access) (k.state place access)
  register_takes agent_reset place access s = either (access.is_write && start_serves (register place agent_reset) access) (writes agent_reset place access) (k.reset place access)
  register_takes orb_pointer place access s = pointer_takes access.is_write (start_serves (register place orb_pointer) access) place access s
  register_takes doorbell place access s =
      ap (λ b. F (cond b (writes doorbell place access) nothing))
      (ap (λ w. w && start_serves (register place doorbell) access) (quadlet_writes access.is_lock access.is_write access.is_block s) ∙ s)
      ∙ k.rings place access
  register_takes unsolicited_enable place access s = either (access.is_write && start_serves (register place unsolicited_enable) access) (writes unsolicited_enable place access) (k.enable place access)

  start_takes : (at : Start) (access : Access) (d : Demand) → start_serves at access ≡ true → Some d ≡ asked_at at access → F (write_of at access) ≡ demand_takes d
  start_takes management_agent access d s e =
      let same : d ≡ demands.Manage (offset_at access.payload 0) = cc in k.none ∙ sym (ap demand_takes same)
  start_takes (register place name) access d s e =
      let same : d ≡ demands.Agent place (asked_of name access) = cc in register_takes name place access s ∙ sym (ap demand_takes same)
  start_takes rom_start access d s e = absurd (none_some d e)
  start_takes no_start access d s e = absurd (none_some d e)

  register_unserved : (w : Bool) (name : Register) (place : ℕ) (access : Access) → start_serves (register place name) access ≡ false → F (cond (w && start_serves (register place name) access) (writes name place access) nothing) ≡ z
  register_unserved true name place access s = ap (λ b. F (cond b (writes name place access) nothing)) s ∙ k.none
  register_unserved false name place access s = k.none

  start_unserved : (at : Start) (access : Access) → start_serves at access ≡ false → F (write_of at access) ≡ z
  start_unserved management_agent access s = k.none
  start_unserved (register place name) access s = register_unserved access.is_write name place access s
  start_unserved rom_start access s = k.none
  start_unserved no_start access s = k.none

  rows_take : (l e w r a : Bool) (at len : ℕ) (wanted : Demand) → demand_takes (Rows l e w r false a (demands.Rom at len) wanted) ≡ z
  rows_take true e w r a at len wanted = refl
  rows_take false true w r a at len wanted = refl
  rows_take false false true r a at len wanted = refl
  rows_take false false false true a at len wanted = refl
  rows_take false false false false true at len wanted = refl
  rows_take false false false false false at len wanted = refl

  abbrev Asks : Bool → ℕ → Access → Demand
  Asks serves size access =
      Rows access.is_lock (access.count == 0) (access.is_write && begins_in_rom size access) (not access.is_write && lies_in_rom size access) serves (is_start (start_at access.offset)) (demands.Rom (access.offset - rom_base) access.count) (or_nowhere (asked_at (start_at access.offset) access))

  served_take : (b : Bool) (size : ℕ) (p : Packet) (access : Access) → size ≤ 1024 → access_of p ≡ Some access → start_serves (start_at access.offset) access ≡ b → F (write_of (start_at access.offset) access) ≡ demand_takes (demand_of size p)
  served_take true size p access small a s = start_takes (start_at access.offset) access (demand_of size p) s (serves_is p access a size small s)
  served_take false size p access small a s =
      start_unserved (start_at access.offset) access s
      ∙ sym (ap demand_takes (demand_is size p access a ∙ ap (λ (b : Bool). Asks b size access) s)
      ∙ rows_take access.is_lock (access.count == 0) (access.is_write && begins_in_rom size access) (not access.is_write && lies_in_rom size access) (is_start (start_at access.offset)) (access.offset - rom_base) access.count (or_nowhere (asked_at (start_at access.offset) access)))

  pub request_takes : (size : ℕ) (p : Packet) (access : Access) → size ≤ 1024 → access_of p ≡ Some access → F (write_in (Some access)) ≡ demand_takes (demand_of size p)
  request_takes size p access small a = served_take (start_serves (start_at access.offset) access) size p access small a refl
