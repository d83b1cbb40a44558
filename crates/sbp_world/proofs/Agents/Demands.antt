-- What a request asks of the agents and of their registers, as the laws read it by its address and as the target reads it.
use Rattle.sbp_world.proofs.Words.Std.{◌≡◌, ◌∙◌, refl, sym, ap, subst, ℕ, ◌-◌, ◌≤◌, ◌==◌, ◌&&◌, not, Bool, true, false, cond, Some, None, Result, Ok, Err}
use Rattle.sbp_world.proofs.Words.Wire.{Packet, Access, Register, Start, access_of, agent_reset, agent_state, begins_in_rom, doorbell, is_start, lies_in_rom, management_agent, no_start, orb_pointer, register, rom_base, rom_start, start_at, start_serves, unsolicited_enable}
use Rattle.sbp_world.proofs.Words.Target.{Busy, Demand, demand_of, or_nowhere, asked_at, asked_of}
use Rattle.sbp_world.proofs.Words.Initiator.{Ask, offset_at, pointer_at}
use Rattle.sbp_world.proofs.Words.Laws.{Target, agent_at, points, register_got, request_got, start_got, started_by, with_agent}
use Rattle.sbp_world.proofs.Words.World.{accessed, DemandsLaw, enabled_by}
use Rattle.mgmt_agent.specs.Machine as manager
use Rattle.target_base.specs.declared.address.Access.TheVariants as accesses
use Rattle.target_base.specs.declared.address.Demand.TheVariants as demands
use Rattle.sbp_target.proofs.Histories.Asked.{Rows, demand_is, serves_is}
use Rattle.sbp_world.specs.Agents.Calls.{demanded}
use Rattle.sbp_world.proofs.Agents.Notes.{notes_law}

-- what a demand leaves of the agents and the registers
record Leaves (d : Demand) (t now : Target) : Type 0 where
  agents : now.agents ≡ demanded d t.agents
  registers : now.enabled ≡ enabled_by d t.enabled

pub none_some : (d : Demand) → Some d ≡ None → ⊥
none_some d e = cc

-- a request that no start serves asks for nothing of an agent
rows_leave : (l e w r a : Bool) (at len : ℕ) (asked : Demand) (t : Target) → Leaves (Rows l e w r false a (demands.Rom at len) asked) t t
rows_leave true e w r a at len asked t = record { agents = refl; registers = refl }
rows_leave false true w r a at len asked t = record { agents = refl; registers = refl }
rows_leave false false true r a at len asked t = record { agents = refl; registers = refl }
rows_leave false false false true a at len asked t = record { agents = refl; registers = refl }
rows_leave false false false false true at len asked t = record { agents = refl; registers = refl }
rows_leave false false false false false at len asked t = record { agents = refl; registers = refl }

-- a register of an agent
pointer_by : (b : Bool) (place : ℕ) (access : Access) (t : Target) → access.is_write ≡ b → Leaves (demands.Agent place (asked_of orb_pointer access)) t (register_got orb_pointer place access t)
pointer_by true place access t e = record {
  agents = notes_law.points place access t e ∙ ap (λ (b : Bool). accessed (cond b (accesses.Point (pointer_at access.payload 0)) accesses.Pointer) place t.agents) (sym e);
  registers =
      ap (λ (b : Bool). (cond b (with_agent t place (points access (agent_at t place))) t).enabled) e
      ∙ ap (λ (b : Bool). enabled_by (demands.Agent place (cond b (accesses.Point (pointer_at access.payload 0)) accesses.Pointer)) t.enabled) (sym e);
}
pointer_by false place access t e = record {
  agents =
      ap (λ (b : Bool). (cond b (with_agent t place (points access (agent_at t place))) t).agents) e
      ∙ ap (λ (b : Bool). accessed (cond b (accesses.Point (pointer_at access.payload 0)) accesses.Pointer) place t.agents) (sym e);
  registers =
      ap (λ (b : Bool). (cond b (with_agent t place (points access (agent_at t place))) t).enabled) e
      ∙ ap (λ (b : Bool). enabled_by (demands.Agent place (cond b (accesses.Point (pointer_at access.payload 0)) accesses.Pointer)) t.enabled) (sym e);
}

register_leaves : (name : Register) (place : ℕ) (access : Access) (t : Target) → Leaves (demands.Agent place (asked_of name access)) t (register_got name place access t)
register_leaves agent_state place access t = record { agents = refl; registers = refl }
register_leaves agent_reset place access t = record { agents = notes_law.cuts place access t; registers = refl }
register_leaves orb_pointer place access t = pointer_by access.is_write place access t refl
register_leaves doorbell place access t = record { agents = notes_law.rings place access t; registers = refl }
register_leaves unsolicited_enable place access t = record { agents = refl; registers = refl }

starts_leave : (r : Result Ask Busy × manager.Machine) (orb : ℕ) (t : Target) → Leaves (demands.Manage orb) t (started_by r t)
starts_leave (Err busy, machine) orb t = record { agents = refl; registers = refl }
starts_leave (Ok ask, machine) orb t = record { agents = refl; registers = refl }

-- a start that serves it
start_leaves : (start : Start) (source : ℕ) (access : Access) (d : Demand) (t : Target) → Some d ≡ asked_at start access → Leaves d t (start_got start source access t)
start_leaves management_agent source access d t e =
    let same : d ≡ demands.Manage (offset_at access.payload 0) = cc in
    subst (λ (x : Demand). Leaves x t (start_got management_agent source access t)) (sym same)
    (starts_leave (manager.start_step t.manager source (offset_at access.payload 0)) (offset_at access.payload 0) t)
start_leaves (register place name) source access d t e =
    let same : d ≡ demands.Agent place (asked_of name access) = cc in subst (λ (x : Demand). Leaves x t (register_got name place access t)) (sym same) (register_leaves name place access t)
start_leaves rom_start source access d t e = absurd (none_some d e)
start_leaves no_start source access d t e = absurd (none_some d e)

abbrev Asks : Bool → ℕ → Access → Demand
Asks serves size access =
    Rows access.is_lock (access.count == 0) (access.is_write && begins_in_rom size access) (not access.is_write && lies_in_rom size access) serves (is_start (start_at access.offset)) (demands.Rom (access.offset - rom_base) access.count) (or_nowhere (asked_at (start_at access.offset) access))

got_leaves : (b : Bool) (size : ℕ) (p : Packet) (access : Access) (source : ℕ) (t : Target) → size ≤ 1024 → access_of p ≡ Some access → start_serves (start_at access.offset) access ≡ b → Leaves (demand_of size p) t (request_got (Some access) source t)
got_leaves true size p access source t small a s =
    subst (λ (b : Bool). Leaves (demand_of size p) t (cond b (start_got (start_at access.offset) source access t) t)) (sym s)
    (start_leaves (start_at access.offset) source access (demand_of size p) t (serves_is p access a size small s))
got_leaves false size p access source t small a s =
    subst (λ (b : Bool). Leaves (demand_of size p) t (cond b (start_got (start_at access.offset) source access t) t)) (sym s)
    (subst (λ (d : Demand). Leaves d t t) (sym (demand_is size p access a ∙ ap (λ (b : Bool). Asks b size access) s))
    (rows_leave access.is_lock (access.count == 0) (access.is_write && begins_in_rom size access) (not access.is_write && lies_in_rom size access) (is_start (start_at access.offset)) (access.offset - rom_base) access.count (or_nowhere (asked_at (start_at access.offset) access)) t))

pub demands_law : DemandsLaw
demands_law = record {
  agents = λ size p access source t small a. (got_leaves (start_serves (start_at access.offset) access) size p access source t small a refl).agents;
  registers = λ size p access source t small a. (got_leaves (start_serves (start_at access.offset) access) size p access source t small a refl).registers;
}
