-- The commands of lines lay out buffers that lie in the windows of their slots, and fill them.
use Rattle.sbp_world.proofs.Words.Std.{◌≡◌, ◌∙◌, refl, subst, ℕ, nat_eq, Bool, true, false, cond, List, [], ◌∷◌, ◌++◌, map, Option, Some, None, same_Some}
use Rattle.sbp_world.proofs.Words.Wire.{Moment, asked, said, Action, Cmd, Event, Note}
use Rattle.sbp_world.proofs.Words.Initiator.{IsAction}
use Rattle.sbp_world.proofs.Words.Laws.{laid_out, cmd_of, command_at, event_of}
use Rattle.sbp_world.proofs.Words.World.{history_of, moments_behind, Entry, Run, AreLines, FillsAction, IsLine, more_deliveries}
use Rattle.sbp_journal.specs.declared.event.Action.TheVariants as actions
use Rattle.sbp_journal.specs.declared.event.Event.TheVariants as events
use Rattle.sbp_journal.specs.declared.note.Note.TheVariants as notes
use Rattle.sbp_world.proofs.Hosts.BytePlaces.{buffer_length}
use Rattle.sbp_world.proofs.Hosts.OrbFits.{IsFull}
use Rattle.sbp_world.proofs.Hosts.OrbTables.{whole_bytes}
use Rattle.sbp_world.proofs.Lists.Slots.{IsFilled}
use Rattle.sbp_world.proofs.Common.{none_is}

abbrev pub FitsAction : Action → Type 0
FitsAction (actions.Put cmd) = IsFull cmd
FitsAction (actions.Append cmd) = IsFull cmd
FitsAction action = Unit {0}

abbrev pub FitsEvent : Event → Type 0
FitsEvent (events.Act i action) = FitsAction action
FitsEvent event = Unit {0}

abbrev pub AreFit : List Moment → Type 0
AreFit [] = Unit {0}
AreFit (asked line event ∷ past) = FitsEvent event × AreFit past
AreFit (said note ∷ past) = AreFit past

action_fits : (action : Action) → IsAction action → FillsAction action → FitsAction action
action_fits (actions.Put cmd) a f = (a, f)
action_fits (actions.Append cmd) a f = (a, f)
action_fits action a f = tt

event_fits : (event : Event) (n : ℕ) → IsLine event n → FitsEvent event
event_fits (events.Act i action) n h = action_fits action h.2 h.3
event_fits event n h = tt

pub fit_said : (ns : List Note) (past : List Moment) → AreFit past → AreFit (map said ns ++ past)
fit_said [] past f = f
fit_said (n ∷ ns) past f = fit_said ns past f

fit_behind : (line : ℕ) (run : Run) (entries : List Entry) → AreLines run entries → AreFit (moments_behind line run entries)
fit_behind line run [] lines = (tt, tt)
fit_behind line run (e ∷ before) lines = fit_said e.notes _ (event_fits e.event _ lines.0, fit_behind line run before lines.1)

pub fit_after : (line : ℕ) (run : Run) → AreLines run run.entries → AreFit (history_of line run)
fit_after line run lines = fit_behind line run run.entries lines

pub more_fit : (most : Option ℕ) → FitsEvent (more_deliveries most)
more_fit (Some count) = tt
more_fit None = tt

pub fit_from : (later past : List Moment) → AreFit (later ++ past) → AreFit past
fit_from [] past f = f
fit_from (asked line event ∷ later) past f = fit_from later past f.1
fit_from (said note ∷ later) past f = fit_from later past f

-- ---- the command of an ORB

line_fits : (past : List Moment) → AreFit past → (event : Event) → event_of past ≡ Some event → FitsEvent event
line_fits [] f event e = none_is event e
line_fits (asked line own ∷ past) f event e = subst FitsEvent (same_Some own event e) f.0
line_fits (said note ∷ past) f event e = line_fits past f event e

cmd_fits : (event : Option Event) → ((one : Event) → event ≡ Some one → FitsEvent one) → (cmd : Cmd) → cmd_of event ≡ Some cmd → IsFull cmd
cmd_fits (Some (events.Act i (actions.Put own))) f cmd e = subst IsFull (same_Some own cmd e) (f (events.Act i (actions.Put own)) refl)
cmd_fits (Some (events.Act i (actions.Append own))) f cmd e = subst IsFull (same_Some own cmd e) (f (events.Act i (actions.Append own)) refl)
cmd_fits _ f cmd e = none_is cmd e

pick_fits : (a b c : Bool) (now old : Option Cmd) (cmd : Cmd) → (now ≡ Some cmd → IsFull cmd) → (old ≡ Some cmd → IsFull cmd) → cond a (cond b (cond c now old) old) old ≡ Some cmd → IsFull cmd
pick_fits true true true now old cmd f g e = f e
pick_fits true true false now old cmd f g e = g e
pick_fits true false c now old cmd f g e = g e
pick_fits false b c now old cmd f g e = g e

commands_fit : (past : List Moment) → AreFit past → (i n k : ℕ) (cmd : Cmd) → command_at past i n k ≡ Some cmd → IsFull cmd
commands_fit [] f i n k cmd e = none_is cmd e
commands_fit (said (notes.Append j m l cdb buffer) ∷ past) f i n k cmd e =
    pick_fits (nat_eq i j) (nat_eq n m) (nat_eq k l) (cmd_of (event_of past)) (command_at past i n k) cmd
    (cmd_fits (event_of past) (line_fits past f) cmd) (commands_fit past f i n k cmd) e
commands_fit (asked line event ∷ past) f i n k cmd e = commands_fit past f.1 i n k cmd e
commands_fit (said _ ∷ past) f i n k cmd e = commands_fit past f i n k cmd e

pub fills_slot : (past : List Moment) → AreFit past → (i n k : ℕ) (cmd : Cmd) → command_at past i n k ≡ Some cmd → (slot : ℕ) → IsFilled slot cmd
fills_slot past f i n k cmd e slot =
    let full = commands_fit past f i n k cmd e in
    let q = full.0 0 0 in
    record {
      fills = record { whole = full.1.segments; short = q.short; few = q.segments };
      length_is = buffer_length (laid_out slot cmd cmd.segments) ∙ whole_bytes slot cmd full.1.segments;
    }
