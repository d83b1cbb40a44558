-- Whose logins a call of the target changes (NCITS 325-1998, login, reconnect and logout): those of the node whose operation is under way, and of no other, but
-- for a later generation that it sees, by which every live login is held. So a live login of a node stands as it is while the operation is not that node's,
-- and no other live login of that node comes beside it.
use Rattle.std.specs.Prelude.{◌≡◌, ◌<◌, ℕ, true, false, List, Option, Some}
use Rattle.async_packet.specs.Labels.{LabelParts}
use Rattle.label_table.specs.Layer.{seeing_step}
use Rattle.login_table.specs.declared.login.Login.{Login}
use Rattle.login_table.specs.Table.{is_live, place_at}
use Rattle.mgmt_agent.specs.Machine.{source_in}
use Rattle.rbc_disk.specs.Disk.{Disk}
use Rattle.rbc_disk.specs.Runs.{Told}
use Rattle.sbp_journal.specs.Outgoings.{empty_outbox}
use Rattle.sbp_target.specs.Calls.{Call, after, alone, lets_expire, sees, sets_key, ticks}
use Rattle.sbp_target.specs.Nodes.{NodeState, scene}
use Rattle.sbp_target.specs.Receiving.{received}
use Rattle.sbp_target.specs.Replies.{whole}

-- the live logins of a node are the same, and in the same places
pub record AreSame (id : ℕ) (before now : List (Option Login)) : Type 0 where
  pub keeps : (place : ℕ) (login : Login) → place_at before place ≡ Some login → is_live login ≡ true → login.node ≡ id → place_at now place ≡ Some login
  pub brings : (place : ℕ) (login : Login) → place_at now place ≡ Some login → is_live login ≡ true → login.node ≡ id → place_at before place ≡ Some login

-- What each call of a target leaves of the logins of a node whose operation is not under way.
pub record LoginsStand (node : NodeState) : Type 0 where
  pub deliveries : (id : ℕ) → (source_in node.manager.operation ≡ Some id → ⊥) → (told : Option Told) (disks : List Disk) (generation : ℕ) (bytes : List ℕ) → AreSame id node.logins.places (received told generation bytes (whole (scene node empty_outbox) disks)).1.node.logins.places
  pub expiries : (id : ℕ) → (source_in node.manager.operation ≡ Some id → ⊥) → (peer : ℕ) (label : LabelParts) → AreSame id node.logins.places (alone (lets_expire peer label) node).node.logins.places
  pub seconds : (id : ℕ) → AreSame id node.logins.places (alone ticks node).node.logins.places
  pub keys : (id unit : ℕ) (key : List ℕ) → AreSame id node.logins.places (alone (sets_key unit key) node).node.logins.places
  pub old_sights : (id generation own : ℕ) → (seeing_step node.layer generation own).0 ≡ false → AreSame id node.logins.places (alone (sees generation own) node).node.logins.places
  pub new_sights : (generation own place : ℕ) (login : Login) → (seeing_step node.layer generation own).0 ≡ true → place_at (alone (sees generation own) node).node.logins.places place ≡ Some login → is_live login ≡ false

-- after every list of calls of a target that has a unit
abbrev pub StandingLaw : Type 0
StandingLaw = (units ready : ℕ) (calls : List Call) → 0 < units → LoginsStand (after units ready calls)
