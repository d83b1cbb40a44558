-- The lines of a run name units of 16 bits.
use Rattle.sbp_world.proofs.Words.Std.{arith, ℕ, List, [], ◌∷◌, ◌++◌, map}
use Rattle.sbp_world.proofs.Words.Wire.{Moment, said, Action, Event, Note}
use Rattle.sbp_world.proofs.Words.World.{moments_behind, Entry, Run, AreLines, FillsAction, IsLine, AreShort, IsShortAction, IsShortEvent}
use Rattle.sbp_journal.specs.declared.event.Action.TheVariants as actions
use Rattle.sbp_journal.specs.declared.event.Event.TheVariants as events
use Rattle.sbp_world.proofs.Lists.LiveGiven.{ShortLaw}

pub short_said : (ns : List Note) (past : List Moment) → AreShort past → AreShort (map said ns ++ past)
short_said [] past s = s
short_said (n ∷ ns) past s = short_said ns past s

action_short : (action : Action) → FillsAction action → IsShortAction action
action_short (actions.Login unit reconnect exclusive password) h = omega (arith, h)
action_short (actions.Query unit) h = omega (arith, h)
action_short action h = tt

event_short : (event : Event) (n : ℕ) → IsLine event n → IsShortEvent event
event_short (events.Act i action) n h = action_short action h.3
event_short event n h = tt

pub short_behind : (line : ℕ) (run : Run) (entries : List Entry) → AreLines run entries → AreShort (moments_behind line run entries)
short_behind line run [] lines = (tt, tt)
short_behind line run (e ∷ before) lines = short_said e.notes _ (event_short e.event _ lines.0, short_behind line run before lines.1)

pub short_law : ShortLaw
short_law = record { lines = λ line run r. short_behind line run run.entries r.lines }
