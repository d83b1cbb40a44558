-- What a target holds, apart from the count of its calls.
use Rattle.std.specs.Prelude.{◌≡◌, ℕ, ◌≤◌, List, length, slice_set, slice_index_or, Option}
use Rattle.label_table.specs.Layer.{Layer}
use Rattle.login_table.specs.Table.{Table, place_at}
use Rattle.login_table.specs.declared.login.Login.{Login}
use Rattle.mgmt_agent.specs.Machine as management
use Rattle.command_agent.specs.Machine.{Machine}
use Rattle.rbc_disk.specs.Units.{UnitState, new_unit}
use Rattle.sbp_journal.specs.Outgoings.{OutboxState}
use Rattle.sbp_target.specs.declared.desk.Desk.{Desk}
use Rattle.sbp_target.specs.declared.purpose.Purpose.{Purpose}
use Rattle.sbp_target.specs.Desks.{new_desk}

-- its transaction layer, its management agent, the logins, the key of each unit, a desk for each place of the table of logins, the units, the nodes to which an unsolicited status is under way or whose label rests, and the bytes of its ROM
pub record NodeState : Type 0 where
  pub layer : Layer Purpose
  pub manager : management.Machine
  pub logins : Table
  pub keys : List (List ℕ)
  pub desks : List Desk
  pub units : List UnitState
  pub pending : List ℕ
  pub rom : List ℕ

-- a target and what it hands out
pub record Scene : Type 0 where
  pub node : NodeState
  pub outbox : OutboxState

abbrev pub scene : NodeState → OutboxState → Scene
scene node outbox = record { node = node; outbox = outbox }

abbrev pub desk_at : NodeState → ℕ → Desk
desk_at node place = slice_index_or node.desks place new_desk

abbrev pub login_at : NodeState → ℕ → Option Login
login_at node place = place_at node.logins.places place

abbrev pub with_desk : NodeState → ℕ → Desk → NodeState
with_desk node place desk = record node { desks = slice_set node.desks place desk }

abbrev pub with_agent : NodeState → ℕ → Machine → NodeState
with_agent node place agent = with_desk node place (record (desk_at node place) { agent = agent })

abbrev pub unit_at : NodeState → ℕ → UnitState
unit_at node unit = slice_index_or node.units unit new_unit

-- eight desks, a key for each unit, four units at most, and a ROM of 1,024 bytes at most
pub record IsSound (node : NodeState) : Type 0 where
  pub desks : length node.desks ≡ 8
  pub keys : length node.keys ≡ length node.units
  pub few : length node.units ≤ 4
  pub size : length node.rom ≤ 1024
