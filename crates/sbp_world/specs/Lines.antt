-- What a line does to a world: one event, with what the commands told that ran in it.
use Rattle.std.specs.Prelude.{◌≡◌, ℕ, ◌+◌, ◌<◌, ◌≤◌, nat_lt, true, false, if◌then◌else◌, List, [], length, Option, Some, None}
use Rattle.rbc_disk.specs.Runs.{Told}
use Rattle.sbp_journal.specs.declared.event.Action.{Action}
use Rattle.sbp_journal.specs.declared.event.Action.TheVariants as actions
use Rattle.sbp_journal.specs.declared.event.Event.{Event}
use Rattle.sbp_journal.specs.declared.event.Event.TheVariants as events
use Rattle.sbp_journal.specs.declared.note.Note.TheVariants as notes
use Rattle.sbp_journal.specs.Outgoings.{OutboxState, empty_outbox}
use Rattle.sbp_initiator.specs.declared.state.InitiatorState.{InitiatorState}
use Rattle.sbp_initiator.specs.Acting.{IsAction, act_step}
use Rattle.sbp_target.specs.Receiving.{with_key}
use Rattle.sbp_world.specs.Handing.{handed_out}
use Rattle.sbp_bus.specs.Loads.{weight_of}
use Rattle.sbp_world.specs.Nodes.{reset_line, see_line, tick_line}
use Rattle.sbp_world.specs.Packets.{MayIf, delivered_if, inject_line, is_in_flight, lose_line, may_repeat, refused, timeout_line}
use Rattle.sbp_world.specs.Settling.{AreUpTo, after_all, budget, settled}
use Rattle.sbp_world.specs.Worlds.{WorldState, Scene, begun, in_world, initiator_at, with_initiator, with_note, with_target}

-- The fields of an event are those of a line other than `begin`, in a run of so many initiators.
abbrev pub IsEvent : Event → ℕ → Type 0
IsEvent (events.Begin initiators ready) n = ⊥
IsEvent (events.Act initiator action) n = (initiator < n) × IsAction action
IsEvent (events.Reset ids) n = length ids ≡ n + 1
IsEvent (events.See node) n = node ≤ n
IsEvent (events.Inject initiator bytes) n = initiator < n
IsEvent _ n = Unit {0}

-- ---- an initiator acts

-- what the ORB of an action counts in the budget; 0 where it prepares none
abbrev pub weight_in : Action → ℕ
weight_in (actions.Put cmd) = weight_of cmd
weight_in (actions.Append cmd) = weight_of cmd
weight_in _ = 0

abbrev pub acted_by : Option ℕ × (OutboxState × InitiatorState) → ℕ → ℕ → Action → WorldState → WorldState
acted_by (Some number, (outbox, state)) line i action w = refused line number (with_initiator i state w)
acted_by (None, (outbox, state)) line i action w =
    handed_out (i + 1) (weight_in action) outbox (with_initiator i state w)

unfoldable pub acted : ℕ → ℕ → Action → WorldState → WorldState
acted line i action w = acted_by (act_step action empty_outbox (initiator_at w i)) line i action w

-- ---- keys

-- the number of the refusal of a unit that does not exist
abbrev pub no_unit : ℕ
no_unit = 13

unfoldable pub keyed : ℕ → ℕ → List ℕ → WorldState → WorldState
keyed line unit key w =
    if nat_lt unit (length w.target.units)
    then with_note (notes.Key unit) (with_target (with_key unit key w.target) w)
    else refused line no_unit w

-- ---- a line

abbrev pub happens_to : ℕ → Event → List (Option Told) → Scene → Scene
happens_to line (events.Begin initiators ready) told s = s
happens_to line (events.Act initiator action) told s = in_world (acted line initiator action) s
happens_to line (events.Reset ids) told s = in_world (reset_line ids) s
happens_to line (events.See node) told s = in_world (see_line node) s
happens_to line (events.Deliver serial) told s =
    delivered_if (is_in_flight serial s.world) line serial false told s
happens_to line (events.Repeat serial) told s = delivered_if (may_repeat serial s.world) line serial true told s
happens_to line (events.Lose serial) told s = in_world (lose_line line serial) s
happens_to line (events.Timeout serial) told s = in_world (timeout_line line serial) s
happens_to line (events.Step count) told s = after_all told s
happens_to line events.Settle told s = settled told s
happens_to line events.Tick told s = in_world tick_line s
happens_to line (events.Inject initiator bytes) told s = in_world (inject_line line initiator bytes) s
happens_to line (events.Key unit key) told s = in_world (keyed line unit key) s

-- what may have been told in a line: once for each delivery
abbrev pub MayTellIn : Event → List (Option Told) → Scene → Type 0
MayTellIn (events.Deliver serial) told s = MayIf (is_in_flight serial s.world) serial told s
MayTellIn (events.Repeat serial) told s = MayIf (may_repeat serial s.world) serial told s
MayTellIn (events.Step count) told s = AreUpTo count told s
MayTellIn events.Settle told s = AreUpTo (budget s.world) told s
MayTellIn _ told s = told ≡ []

-- What the event of a line does, beside the notes that there are.
pub record HappensTo (line : ℕ) (event : Event) (old new : Scene) : Type 0 where
  pub told : List (Option Told)
  pub is : new ≡ happens_to line event told old
  pub may : MayTellIn event told old

-- What a line does. What its commands told is one for each delivery, the latest one first.
unfoldable pub happens : ℕ → Event → List (Option Told) → Scene → Scene
happens line event told s = happens_to line event told (begun s)

unfoldable pub MayHappen : Event → List (Option Told) → Scene → Type 0
MayHappen event told s = MayTellIn event told (begun s)

pub record Happens (line : ℕ) (event : Event) (old new : Scene) : Type 0 where
  pub told : List (Option Told)
  pub is : new ≡ happens line event told old
  pub may : MayHappen event told old
