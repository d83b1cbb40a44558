-- The lines of a run name units of 16 bits (NCITS 325-1998, login and query login): so the management ORBs of its operations fit their fields.
use Rattle.std.specs.Prelude.{◌≡◌, ◌<◌, ◌^◌, ℕ, List, [], ◌∷◌, Some}
use Rattle.sbp_journal.specs.Run.{Moment, asked, said}
use Rattle.sbp_journal.specs.declared.event.Action.{Action}
use Rattle.sbp_journal.specs.declared.event.Action.TheVariants as actions
use Rattle.sbp_journal.specs.declared.event.Event.{Event}
use Rattle.sbp_journal.specs.declared.event.Event.TheVariants as events
use Rattle.sbp_laws.specs.Hosts.{Underway, host_at}
use Rattle.sbp_world.specs.Lists.Underway.{underway_orb}

abbrev pub IsShortAction : Action → Type 0
IsShortAction (actions.Login unit reconnect exclusive password) = unit < 2 ^ 16
IsShortAction (actions.Query unit) = unit < 2 ^ 16
IsShortAction action = Unit {0}

abbrev pub IsShortEvent : Event → Type 0
IsShortEvent (events.Act i action) = IsShortAction action
IsShortEvent event = Unit {0}

abbrev pub AreShort : List Moment → Type 0
AreShort [] = Unit {0}
AreShort (asked line event ∷ past) = IsShortEvent event × AreShort past
AreShort (said note ∷ past) = AreShort past

-- the operation that an initiator has under way is of a unit, or of a login, of 16 bits
abbrev pub HasShortOrb : List Moment → ℕ → Type 0
HasShortOrb past i = (underway : Underway) → (host_at past i).operation ≡ Some underway → (underway_orb past i underway).subject < 2 ^ 16
