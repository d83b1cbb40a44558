-- A line, by what its event is.
use Rattle.std.proofs.Common.{◌≡◌, ◌∙◌, refl, ap, subst, sym, ℕ, ◌==◌, ◌&&◌, Bool, true, false, List, [], arith}
use Rattle.std.proofs.lemmas.Bool.{eqb-true}
use Rattle.rbc_disk.specs.Disk.{Disk}
use Rattle.sbp_journal.specs.declared.event.Action.{Action}
use Rattle.sbp_journal.specs.declared.event.Event.{Event}
use Rattle.sbp_journal.specs.declared.event.Event.TheVariants as events
use Rattle.sbp_initiator.specs.Acting.{IsAction}
use Rattle.sbp_world.specs.Lines.{acted}
use Rattle.sbp_world.specs.Packets.{lose_line}
use Rattle.sbp_world.specs.Worlds.{WorldState, in_world as in_plain_world}
use Rattle.task_world.specs.Lines.{IsTaskEvent, MayTellIn, TaskHappensTo, happens_to, is_task_action}
use Rattle.task_world.specs.Packets.{Delivered, Repeated, timeout_line}
use Rattle.task_world.specs.Settling.{AreUpTo, DeliversUpTo, Settles}
use Rattle.task_world.specs.Worlds.{TaskScene, TaskWorldState, in_scene, task_scene}
use Rattle.task_world.proofs.Delivered.{happens_by, scene_by}

-- in which no packet is delivered, and the task node stays as it is
line_is : (line : ℕ) (event shape : Event) (step : WorldState → WorldState) (old new : TaskWorldState) (disk : Disk) (count : ℕ) → event ≡ shape → new.world ≡ step old.world → new.node ≡ old.node → happens_to line shape [] (task_scene old disk count) ≡ in_scene (in_plain_world step) (task_scene old disk count) → MayTellIn shape [] (task_scene old disk count) → TaskHappensTo line event (task_scene old disk count) (task_scene new disk count)
line_is line event shape step old new disk count e w n h m =
    happens_by line event shape [] (task_scene old disk count) (task_scene new disk count) e (scene_by new (step old.world) old.node disk count w n ∙ sym h) m

-- the one initiator acts
first_acts : (event : Event) (i : ℕ) (action : Action) → event ≡ events.Act i action → IsTaskEvent event → (i ≡ 0) × IsAction action
first_acts event i action e h =
    let here = subst IsTaskEvent e h in
    (eqb-true i 0 (both (i == 0) (is_task_action action) here.here), here.fits.1)
  where
    both : (a b : Bool) → (a && b) ≡ true → a ≡ true
    both true b t = refl
    both false b t = t

pub acts_fit : (event : Event) (i : ℕ) (action : Action) → event ≡ events.Act i action → IsTaskEvent event → IsAction action
acts_fit event i action e h = (first_acts event i action e h).1

pub act_is : (line i : ℕ) (event : Event) (action : Action) (old new : TaskWorldState) (disk : Disk) (count : ℕ) → event ≡ events.Act i action → IsTaskEvent event → new.world ≡ acted line 0 action old.world → new.node ≡ old.node → TaskHappensTo line event (task_scene old disk count) (task_scene new disk count)
act_is line i event action old new disk count e h w n =
    line_is line event (events.Act 0 action) (acted line 0 action) old new disk count (e ∙ ap (λ (k : ℕ). events.Act k action) (first_acts event i action e h).0) w n refl refl

pub lose_is : (line serial : ℕ) (event : Event) (old new : TaskWorldState) (disk : Disk) (count : ℕ) → event ≡ events.Lose serial → new.world ≡ lose_line line serial old.world → new.node ≡ old.node → TaskHappensTo line event (task_scene old disk count) (task_scene new disk count)
lose_is line serial event old new disk count e w n = line_is line event (events.Lose serial) (lose_line line serial) old new disk count e w n refl refl

pub timeout_is : (line serial : ℕ) (event : Event) (old new : TaskWorldState) (disk later : Disk) (count now : ℕ) → event ≡ events.Timeout serial → new ≡ timeout_line line serial old → later ≡ disk → now ≡ count → TaskHappensTo line event (task_scene old disk count) (task_scene new later now)
timeout_is line serial event old new disk later count now e n d c =
    happens_by line event (events.Timeout serial) [] (task_scene old disk count) (task_scene new later now) e (ap (λ (w : TaskWorldState). task_scene w later now) n ∙ (ap (λ (x : Disk). task_scene (timeout_line line serial old) x now) d ∙ ap (λ (x : ℕ). task_scene (timeout_line line serial old) disk x) c)) refl

pub deliver_is : (line serial : ℕ) (event : Event) (old new : TaskScene) → event ≡ events.Deliver serial → Delivered line serial old new → TaskHappensTo line event old new
deliver_is line serial event old new e d = happens_by line event (events.Deliver serial) d.told old new e d.is d.may

pub repeat_is : (line serial : ℕ) (event : Event) (old new : TaskScene) → event ≡ events.Repeat serial → Repeated line serial old new → TaskHappensTo line event old new
repeat_is line serial event old new e d = happens_by line event (events.Repeat serial) d.told old new e d.is d.may

pub step_is : (line count most : ℕ) (event : Event) (old new : TaskScene) → event ≡ events.Step count → most ≡ count → DeliversUpTo most old new → TaskHappensTo line event old new
step_is line count most event old new e m d =
    happens_by line event (events.Step count) d.told old new e d.is (subst (λ (x : ℕ). AreUpTo x d.told old) m d.may)

pub settle_is : (line : ℕ) (event : Event) (old new : TaskScene) → event ≡ events.Settle → Settles old new → TaskHappensTo line event old new
settle_is line event old new e d = happens_by line event events.Settle d.told old new e d.is d.may
