-- What a line of `tasks` does to its world: one event, with what the commands told that ran in it.
use Rattle.std.specs.Prelude.{◌≡◌, ℕ, ◌==◌, ◌&&◌, Bool, true, false, List, []}
use Rattle.std.specs.Prelude.{Option}
use Rattle.rbc_disk.specs.Runs.{Told}
use Rattle.sbp_journal.specs.declared.event.Action.{Action}
use Rattle.sbp_journal.specs.declared.event.Action.TheVariants as actions
use Rattle.sbp_journal.specs.declared.event.Event.{Event}
use Rattle.sbp_journal.specs.declared.event.Event.TheVariants as events
use Rattle.sbp_world.specs.Lines.{IsEvent}
use Rattle.sbp_world.specs.Lines as worlds
use Rattle.sbp_world.specs.Packets.{is_in_flight, may_repeat}
use Rattle.sbp_world.specs.Settling.{budget}
use Rattle.task_world.specs.Packets.{MayIf, delivered_if, timeout_line}
use Rattle.task_world.specs.Settling.{AreUpTo, after_all, settled}
use Rattle.task_world.specs.Worlds.{TaskScene, begun, in_scene, in_world}

-- ---- the lines of `tasks`

abbrev pub is_task_action : Action → Bool
is_task_action (actions.Put cmd) = true
is_task_action (actions.Append cmd) = true
is_task_action actions.Low = true
is_task_action actions.Link = true
is_task_action actions.Ring = true
is_task_action actions.AgentReset = true
is_task_action actions.State = true
is_task_action _ = false

-- the event of a line of `tasks` other than the one that begins the run
abbrev pub is_task_line : Event → Bool
is_task_line (events.Act initiator action) = (initiator == 0) && is_task_action action
is_task_line (events.Deliver serial) = true
is_task_line (events.Repeat serial) = true
is_task_line (events.Lose serial) = true
is_task_line (events.Timeout serial) = true
is_task_line (events.Step count) = true
is_task_line events.Settle = true
is_task_line _ = false

-- and its fields are those of a line in a run of one initiator
pub record IsTaskEvent (event : Event) : Type 0 where
  pub here : is_task_line event ≡ true
  pub fits : IsEvent event 1

-- ---- a line

-- Where no packet may come to the task node, and none of it may time out, a line does what it does in every world.
abbrev pub happens_to : ℕ → Event → List (Option Told) → TaskScene → TaskScene
happens_to line (events.Deliver serial) told s = delivered_if (is_in_flight serial s.scene.world) line serial false told s
happens_to line (events.Repeat serial) told s = delivered_if (may_repeat serial s.scene.world) line serial true told s
happens_to line (events.Timeout serial) told s = in_world (timeout_line line serial) s
happens_to line (events.Step count) told s = after_all told s
happens_to line events.Settle told s = settled told s
happens_to line event told s = in_scene (worlds.happens_to line event told) s

-- what may have been told in a line: once for each delivery
abbrev pub MayTellIn : Event → List (Option Told) → TaskScene → Type 0
MayTellIn (events.Deliver serial) told s = MayIf (is_in_flight serial s.scene.world) serial told s
MayTellIn (events.Repeat serial) told s = MayIf (may_repeat serial s.scene.world) serial told s
MayTellIn (events.Step count) told s = AreUpTo count told s
MayTellIn events.Settle told s = AreUpTo (budget s.scene.world) told s
MayTellIn _ told s = told ≡ []

-- What the event of a line does, beside the notes that there are.
pub record TaskHappensTo (line : ℕ) (event : Event) (old new : TaskScene) : Type 0 where
  pub told : List (Option Told)
  pub is : new ≡ happens_to line event told old
  pub may : MayTellIn event told old

-- What a line does. What its commands told is one for each delivery, the latest one first.
unfoldable pub task_happens : ℕ → Event → List (Option Told) → TaskScene → TaskScene
task_happens line event told s = happens_to line event told (begun s)

unfoldable pub MayHappen : Event → List (Option Told) → TaskScene → Type 0
MayHappen event told s = MayTellIn event told (begun s)

pub record TaskHappens (line : ℕ) (event : Event) (old new : TaskScene) : Type 0 where
  pub told : List (Option Told)
  pub is : new ≡ task_happens line event told old
  pub may : MayHappen event told old
