-- What a request that the target got makes of the agents and the enabled registers of the terms: what it asks for by its address (NCITS 325-1998,
-- command block agent registers).
use Rattle.std.specs.Prelude.{◌≡◌, ◌≤◌, ℕ, Bool, true, List, slice_set, Some}
use Rattle.async_packet.specs.Packet.{Packet}
use Rattle.sbp_journal.specs.Addresses.{Access, access_of}
use Rattle.sbp_laws.specs.Targets.{Target, request_got}
use Rattle.target_base.specs.declared.address.Access.TheVariants as accesses
use Rattle.target_base.specs.declared.address.Demand.{Demand}
use Rattle.target_base.specs.declared.address.Demand.TheVariants as demands
use Rattle.target_base.specs.Addresses.{demand_of}
use Rattle.sbp_world.specs.Agents.Calls.{demanded}

-- a write of UNSOLICITED_STATUS_ENABLE
abbrev pub enabled_by : Demand → List Bool → List Bool
enabled_by (demands.Agent place accesses.Enable) enabled = slice_set enabled place true
enabled_by demand enabled = enabled

-- over a ROM of so many bytes
pub record DemandsLaw : Type 0 where
  pub agents : (size : ℕ) (p : Packet) (access : Access) (source : ℕ) (t : Target) → size ≤ 1024 → access_of p ≡ Some access → (request_got (Some access) source t).agents ≡ demanded (demand_of size p) t.agents
  pub registers : (size : ℕ) (p : Packet) (access : Access) (source : ℕ) (t : Target) → size ≤ 1024 → access_of p ≡ Some access → (request_got (Some access) source t).enabled ≡ enabled_by (demand_of size p) t.enabled
