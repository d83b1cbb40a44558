-- For which logins a target serves (NCITS 325-1998, login): a register of an agent for the login of its place alone, and an agent on the unit of
-- that login. And how many labels a read ahead leaves.
use Rattle.std.specs.Prelude.{ℕ, ◌&&◌, not, is_none, nat_lt, Bool, false, if◌then◌else◌, Option, Some, None}
use Rattle.async_packet.specs.Packet.{Packet, header_in}
use Rattle.login_table.specs.declared.login.Login.{Login}
use Rattle.login_table.specs.Table.{Table, by_agent}
use Rattle.target_base.specs.declared.address.AgentRegister.{AgentRegister}
use Rattle.target_base.specs.Addresses.{is_lock, offset_in, register_at}

-- a register of the agent of a place that has no live login of a node
abbrev pub is_barred_at : Option AgentRegister → Table → ℕ → Bool
is_barred_at None table source = false
is_barred_at (Some found) table source = is_none (by_agent table.places found.place source)

-- A request that reads or writes an agent register belongs to a live login of its source, or is ignored.
abbrev pub is_barred : Table → Packet → Bool
is_barred table request = not (is_lock request) && is_barred_at (register_at (offset_in request)) table (header_in request).source

-- a login whose unit is one of so many
abbrev pub if_served : ℕ → Option Login → Option Login
if_served units None = None
if_served units (Some login) = if nat_lt login.unit units then Some login else None

-- fewer labels are free than a read ahead leaves, which are 16
abbrev pub is_below_reserve : ℕ → Bool
is_below_reserve free = nat_lt free 16
