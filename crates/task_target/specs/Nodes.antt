-- What a target of the unordered unit holds, apart from the count of its calls.
use Rattle.std.specs.Prelude.{◌≡◌, ℕ, ◌≤◌, List, length, replicate, slice_set, slice_index_or, Option, None}
use Rattle.label_table.specs.Layer.{Layer, new_layer}
use Rattle.login_table.specs.Table.{Table, new_table}
use Rattle.config_rom.specs.Make.{made}
use Rattle.orb_layout.specs.Pointers.{quad_bytes}
use Rattle.rbc_disk.specs.Units.{UnitState, new_unit}
use Rattle.sbp_journal.specs.Outgoings.{OutboxState}
use Rattle.target_base.specs.Beginning.{ready_from, target_eui}
use Rattle.unordered_agent.specs.Machine.{TaskMachine, new_agent}
use Rattle.task_target.specs.declared.purpose.TaskPurpose.{TaskPurpose}
use Rattle.task_target.specs.declared.purpose.Sent.{Sent}

-- its transaction layer, its one login, which is there for good, the agent of that, the pointer that this took last, the transaction of each place, 8 the fetcher's, the unit, and the bytes of its ROM
pub record TaskNode : Type 0 where
  pub layer : Layer TaskPurpose
  pub logins : Table
  pub agent : TaskMachine
  pub pointer : Option ℕ
  pub sents : List (Option Sent)
  pub unit : UnitState
  pub rom : List ℕ

-- a target and what it hands out
pub record Scene : Type 0 where
  pub node : TaskNode
  pub outbox : OutboxState

abbrev pub scene : TaskNode → OutboxState → Scene
scene node outbox = record { node = node; outbox = outbox }

abbrev pub sent_at : TaskNode → ℕ → Option Sent
sent_at node place = slice_index_or node.sents place None

abbrev pub with_sent : TaskNode → ℕ → Option Sent → TaskNode
with_sent node place sent = record node { sents = slice_set node.sents place sent }

-- no transaction of any place
abbrev pub no_sents : List (Option Sent)
no_sents = replicate 9 None

-- the logins: that of initiator 0 on unit 0, in place 0 with ID 1
abbrev pub one_login : Table
one_login = ready_from 1 0 new_table

-- a new target, with physical ID 0 in generation 0
abbrev pub new_node : TaskNode
new_node = record {
  layer = new_layer 0xffc0;
  logins = one_login;
  agent = new_agent;
  pointer = None;
  sents = no_sents;
  unit = new_unit;
  rom = quad_bytes (made target_eui 1);
}

-- nine transactions, and a ROM of 1,024 bytes at most
pub record IsSound (node : TaskNode) : Type 0 where
  pub sents : length node.sents ≡ 9
  pub size : length node.rom ≤ 1024
