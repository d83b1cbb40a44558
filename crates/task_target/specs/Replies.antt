-- What came of a request of the target, and what its agent does then (NCITS 325-1998, command block agents).
use Rattle.std.specs.Prelude.{◌≡◌, ℕ, ◌<◌, ◌&&◌, IfSome, Bool, true, false, Option, Some, None}
use Rattle.std.specs.List.{AllByRecursion}
use Rattle.async_packet.specs.Labels.{LabelParts}
use Rattle.login_table.specs.declared.login.Login.{Login}
use Rattle.login_table.specs.Table.{place_at}
use Rattle.orb_layout.specs.Replies.{Answer}
use Rattle.rbc_disk.specs.Disk.{Disk}
use Rattle.rbc_disk.specs.Units.{PlainDisk, plain_disk}
use Rattle.rbc_disk.specs.Runs.{Told, left_by, told_in}
use Rattle.command_agent.specs.Runs.{MayTell, count_after}
use Rattle.sbp_journal.specs.Outgoings.{OutboxState}
use Rattle.target_base.specs.Logins.{if_served}
use Rattle.unordered_agent.specs.declared.step.TaskStep.{TaskStep}
use Rattle.unordered_agent.specs.Machine.{TaskMachine, is_busy, task_at}
use Rattle.unordered_agent.specs.Steps.{place_of, reply_step}
use Rattle.task_target.specs.Sending.{is_that}
use Rattle.task_target.specs.Nodes.{TaskNode, Scene, scene, sent_at, with_sent}
use Rattle.task_target.specs.Following.{about, follow}

-- the node, and what the medium of its unit holds
pub record Stage : Type 0 where
  pub node : TaskNode
  pub disk : Disk

abbrev pub stage : TaskNode → Disk → Stage
stage node disk = record { node = node; disk = disk }

abbrev pub plain_in : Stage → PlainDisk
plain_in s = plain_disk s.node.unit s.disk

-- the node, what it hands out, and what the medium holds
pub record Whole : Type 0 where
  pub node : TaskNode
  pub outbox : OutboxState
  pub disk : Disk

abbrev pub whole : Scene → Disk → Whole
whole s disk = record { node = s.node; outbox = s.outbox; disk = disk }

abbrev pub scene_of : Whole → Scene
scene_of w = scene w.node w.outbox

-- the login that the agent serves, whose unit is the one that is there
abbrev pub served_login : TaskNode → Option Login
served_login node = if_served 1 (place_at node.logins.places 0)

-- the agent waits for the transaction with a peer under a label, as that of a place
abbrev pub awaits : TaskNode → ℕ → ℕ → LabelParts → Bool
awaits node place peer label = is_that (sent_at node place) peer label && is_busy place node.agent

-- the transaction of a place is under way no more
abbrev pub taken : ℕ → TaskNode → TaskNode
taken place node = with_sent node place None

-- the agent's step by itself, with what a run told
abbrev pub agent_step : Option Told → ℕ → Answer → Stage → TaskStep × TaskMachine
agent_step told place answer s = reply_step s.node.agent 0 (plain_in s) told place answer

-- the unit and its medium behind the step, which is about the ORB in place `at`
abbrev pub left_at : ℕ → TaskStep × TaskMachine → PlainDisk → PlainDisk
left_at at (step, m) plain = left_by step.ran (task_at m at).orb.cdb (task_at m at).payload 0 plain

abbrev pub replied_with : ℕ → TaskStep × TaskMachine → Stage → TaskStep × Stage
replied_with place made s =
    let left = left_at (place_of s.node.agent place) made (plain_in s) in
    (made.0, stage (record (taken place s.node) { agent = made.1; unit = left.unit }) left.medium)

-- What came of the transaction of a place, with what a run told.
unfoldable pub replied : Option Told → ℕ → Answer → Stage → TaskStep × Stage
replied told place answer s = replied_with place (agent_step told place answer s) s

abbrev pub advanced_with : ℕ → Login → TaskStep × Stage → Whole → Whole
advanced_with place login (step, st) w = whole (follow login (about w.node.agent place) step (scene st.node w.outbox)) st.disk

unfoldable pub advance : Option Told → ℕ → Login → Answer → Whole → Whole
advance told place login answer w = advanced_with place login (replied told place answer (stage w.node w.disk)) w

-- What a run told is what the step tells, and a run of that command may tell it; its answer is bytes; the count of faults before and after.
pub record Tells (told : Option Told) (place : ℕ) (answer : Answer) (s : Stage) (before now : ℕ) : Type 0 where
  pub so : told ≡ told_in (agent_step told place answer s).0.ran (task_at (agent_step told place answer s).1 (place_of s.node.agent place)).answer
  pub may : MayTell (agent_step told place answer s).0.ran (task_at (agent_step told place answer s).1 (place_of s.node.agent place)) 0 (plain_in s)
  pub bytes : IfSome (about s.node.agent place) (λ at. AllByRecursion (λ byte. byte < 256) (task_at (agent_step told place answer s).1 at).answer)
  pub counted : now ≡ count_after (agent_step told place answer s).0.ran before

-- no command ran
pub record Silent (told : Option Told) (before now : ℕ) : Type 0 where
  pub so : told ≡ None
  pub counted : now ≡ before

abbrev pub replied_by : Option Told → ℕ → Answer → Option Login → Bool → Whole → Whole
replied_by told place answer (Some login) true w = advance told place login answer w
replied_by told place answer (Some login) false w = w
replied_by told place answer None is_awaited w = w

-- What came of a transaction that is for a place: nothing happens where the agent does not wait for it.
unfoldable pub replied_to : Option Told → ℕ → ℕ → LabelParts → Answer → Whole → Whole
replied_to told place peer label answer w = replied_by told place answer (served_login w.node) (awaits w.node place peer label) w

abbrev pub TellsBy : Option Told → ℕ → Answer → Option Login → Bool → Stage → ℕ → ℕ → Type 0
TellsBy told place answer (Some login) true s before now = Tells told place answer s before now
TellsBy told place answer (Some login) false s before now = Silent told before now
TellsBy told place answer None is_awaited s before now = Silent told before now

abbrev pub TellsOf : Option Told → ℕ → ℕ → LabelParts → Answer → Whole → ℕ → ℕ → Type 0
TellsOf told place peer label answer w before now =
    TellsBy told place answer (served_login w.node) (awaits w.node place peer label) (stage w.node w.disk) before now

-- A step of the agent, and what it leaves.
pub record Replies (told : Option Told) (place : ℕ) (answer : Answer) (old : Stage) (step : TaskStep) (new : Stage) (before now : ℕ) : Type 0 where
  pub is : (step, new) ≡ replied told place answer old
  pub tells : Tells told place answer old before now

-- What a run told, and what is left of a reply to a place with it.
pub record RepliesTo (place peer : ℕ) (label : LabelParts) (answer : Answer) (old new : Whole) (before now : ℕ) : Type 0 where
  pub told : Option Told
  pub is : new ≡ replied_to told place peer label answer old
  pub tells : TellsOf told place peer label answer old before now

pub record Advances (place : ℕ) (login : Login) (answer : Answer) (old new : Whole) (before now : ℕ) : Type 0 where
  pub told : Option Told
  pub is : new ≡ advance told place login answer old
  pub tells : Tells told place answer (stage old.node old.disk) before now
