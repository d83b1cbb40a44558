-- What came of a request of the target, and what its agents do then (NCITS 325-1998, command block
-- agents).
use Rattle.std.specs.List.{AllByRecursion}
use Rattle.std.specs.Prelude.{◌≡◌, ◌<◌, ℕ, ◌&&◌, not, Bool, true, false, if◌then◌else◌, List, length, slice_set, slice_index, slice_index_or, Option, Some, None}
use Rattle.async_packet.specs.Labels.{LabelParts}
use Rattle.orb_layout.specs.Replies.{Answer}
use Rattle.login_table.specs.declared.login.Login.{Login}
use Rattle.rbc_disk.specs.Disk.{Disk, disk_at}
use Rattle.rbc_disk.specs.Units.{UnitState, PlainDisk, plain_disk, new_unit}
use Rattle.rbc_disk.specs.Runs.{Told, left_by, told_in}
use Rattle.command_agent.specs.declared.step.AgentStep.{AgentStep}
use Rattle.command_agent.specs.declared.step.Which.{Which}
use Rattle.command_agent.specs.Machine.{Machine}
use Rattle.command_agent.specs.Runs.{MayTell, count_after}
use Rattle.command_agent.specs.Steps.{reply_step}
use Rattle.sbp_journal.specs.Outgoings.{OutboxState}
use Rattle.target_base.specs.Logins.{if_served}
use Rattle.sbp_target.specs.Desks.{taken, which_in}
use Rattle.sbp_target.specs.Nodes.{NodeState, Scene, scene, desk_at, login_at, with_desk}
use Rattle.sbp_target.specs.Agents.{follow}
use Rattle.sbp_target.specs.Units.{with_changed, announce_from}

-- a unit with what its medium holds
abbrev pub plain_in : List UnitState → List Disk → ℕ → PlainDisk
plain_in units disks unit = plain_disk (slice_index_or units unit new_unit) (disk_at disks unit)

-- the node, and what the media hold
pub record Stage : Type 0 where
  pub node : NodeState
  pub disks : List Disk

abbrev pub stage : NodeState → List Disk → Stage
stage node disks = record { node = node; disks = disks }

abbrev pub plain_at : Stage → ℕ → PlainDisk
plain_at s unit = plain_in s.node.units s.disks unit

-- a unit and its medium are left so
abbrev pub with_plain : Stage → ℕ → PlainDisk → Stage
with_plain s unit plain =
    stage (record s.node { units = slice_set s.node.units unit plain.unit }) (slice_set s.disks unit plain.medium)

-- the agent of a place has made this step, over a unit
abbrev pub replied_with : ℕ → ℕ → Which → AgentStep × Machine → Stage → AgentStep × Stage
replied_with place unit which (step, m) s =
    (step, with_plain (stage (with_desk s.node place (record (taken which (desk_at s.node place)) { agent = m })) s.disks) unit (left_by step.ran m.orb.cdb m.payload place (plain_at s unit)))

-- What came of a transaction of the agent of a place, over a unit, with what a run told.
unfoldable pub replied : Option Told → ℕ → ℕ → Which → Answer → Stage → AgentStep × Stage
replied told place unit which answer s =
    replied_with place unit which (reply_step (desk_at s.node place).agent place (plain_at s unit) told which answer) s

-- the node, what it hands out, and what the media hold
pub record Whole : Type 0 where
  pub node : NodeState
  pub outbox : OutboxState
  pub disks : List Disk

abbrev pub whole : Scene → List Disk → Whole
whole s disks = record { node = s.node; outbox = s.outbox; disks = disks }

abbrev pub scene_of : Whole → Scene
scene_of w = scene w.node w.outbox

-- a disc came into the tray
abbrev pub came : Disk → Disk → Bool
came before now = not before.is_present && now.is_present

abbrev pub changed_by : Bool → ℕ → ℕ → NodeState → NodeState
changed_by false unit place node = node
changed_by true unit place node = with_changed unit place node

abbrev pub announced_by : Bool → ℕ → ℕ → Scene → Scene
announced_by false unit place s = s
announced_by true unit place s = announce_from 8 0 unit place s

-- what follows a step, with the word whether a disc came into the tray of the unit
unfoldable pub follow_all : Bool → ℕ → Login → AgentStep → Scene → Scene
follow_all loaded place login step s =
    announced_by loaded login.unit place (follow place login step (scene (changed_by loaded login.unit place s.node) s.outbox))

abbrev pub advanced_with : ℕ → Login → AgentStep × Stage → Whole → Whole
advanced_with place login (step, st) w =
    whole (follow_all (came (disk_at w.disks login.unit) (disk_at st.disks login.unit)) place login step (scene st.node w.outbox)) st.disks

-- What came of a transaction of the agent of a place, over the unit of its login, with what a run told.
unfoldable pub advance : Option Told → ℕ → Login → Which → Answer → Whole → Whole
advance told place login which answer w =
    advanced_with place login (replied told place login.unit which answer (stage w.node w.disks)) w

-- the agent's step by itself
abbrev pub agent_step : Option Told → ℕ → ℕ → Which → Answer → Stage → AgentStep × Machine
agent_step told place unit which answer s = reply_step (desk_at s.node place).agent place (plain_at s unit) told which answer

-- What a run told is what the step tells, and a run of that command may tell it; the answer is bytes; the counts of faults before and after.
pub record Tells (told : Option Told) (place unit : ℕ) (which : Which) (answer : Answer) (s : Stage) (before now : List ℕ) : Type 0 where
  pub so : told ≡ told_in (agent_step told place unit which answer s).0.ran (agent_step told place unit which answer s).1.answer
  pub may : MayTell (agent_step told place unit which answer s).0.ran (agent_step told place unit which answer s).1 place (plain_at s unit)
  pub bytes : AllByRecursion (λ byte. byte < 256) (agent_step told place unit which answer s).1.answer
  pub counted : now ≡ slice_set before unit (count_after (agent_step told place unit which answer s).0.ran (slice_index before unit))

-- A step of the agent of a place, and what it leaves.
pub record Replies (told : Option Told) (place unit : ℕ) (which : Which) (answer : Answer) (old : Stage) (step : AgentStep) (new : Stage) (before now : List ℕ) : Type 0 where
  pub is : (step, new) ≡ replied told place unit which answer old
  pub tells : Tells told place unit which answer old before now

-- the login that the agent of a place serves, whose unit exists
abbrev pub served_login : NodeState → ℕ → Option Login
served_login node place = if_served (length node.units) (login_at node place)

abbrev pub replied_by : Option Told → ℕ → Answer → Option Login → Option Which → Whole → Whole
replied_by told place answer (Some login) (Some which) w = advance told place login which answer w
replied_by told place answer None which w = w
replied_by told place answer (Some login) None w = w

-- What came of a transaction that is for the agent of a place.
unfoldable pub replied_to : Option Told → ℕ → ℕ → LabelParts → Answer → Whole → Whole
replied_to told place peer label answer w =
    replied_by told place answer (served_login w.node place) (which_in (desk_at w.node place) peer label) w

abbrev pub TellsBy : Option Told → ℕ → Answer → Option Login → Option Which → Stage → List ℕ → List ℕ → Type 0
TellsBy told place answer (Some login) (Some which) s before now = Tells told place login.unit which answer s before now
TellsBy told place answer None which s before now = (told ≡ None) × (now ≡ before)
TellsBy told place answer (Some login) None s before now = (told ≡ None) × (now ≡ before)

abbrev pub TellsOf : Option Told → ℕ → ℕ → LabelParts → Answer → Whole → List ℕ → List ℕ → Type 0
TellsOf told place peer label answer w before now =
    TellsBy told place answer (served_login w.node place) (which_in (desk_at w.node place) peer label) (stage w.node w.disks) before now

-- What a run told, and what is left of a reply to an agent with it.
pub record RepliesTo (place peer : ℕ) (label : LabelParts) (answer : Answer) (old new : Whole) (before now : List ℕ) : Type 0 where
  pub told : Option Told
  pub is : new ≡ replied_to told place peer label answer old
  pub tells : TellsOf told place peer label answer old before now

pub record Advances (place : ℕ) (login : Login) (which : Which) (answer : Answer) (old new : Whole) (before now : List ℕ) : Type 0 where
  pub told : Option Told
  pub is : new ≡ advance told place login which answer old
  pub tells : Tells told place login.unit which answer (stage old.node old.disks) before now
