-- The lists of every initiator of a world, by the history of its run: they are the rows of its slots, and stay so as a node hands out what it
-- tells and sends. The terms of the one that acts, hears or sees are those that its call leaves; the others' stay.
use Rattle.std.specs.Prelude.{true, ◌≡◌, ◌<◌, ◌==◌, ℕ, true, false, List, length}
use Rattle.sbp_journal.specs.Run.{Moment}
use Rattle.sbp_journal.specs.Outgoings.{OutboxState}
use Rattle.sbp_journal.specs.declared.note.Note.{Note}
use Rattle.sbp_initiator.specs.declared.state.InitiatorState.{InitiatorState}
use Rattle.sbp_initiator.specs.Effects.{Turn}
use Rattle.sbp_laws.specs.Turns.{event_of}
use Rattle.sbp_target.specs.Nodes.{NodeState}
use Rattle.sbp_world.specs.Handing.{handed_out}
use Rattle.sbp_world.specs.Worlds.{WorldState, initiator_at, with_initiator, with_note, with_target}
use Rattle.sbp_world.specs.Hosts.Calls.{Listed, Pins}
use Rattle.sbp_world.specs.Hosts.Fits.{AreRows}
use Rattle.sbp_world.specs.Hosts.Handing.{AreNotes, AreOthers, history}
use Rattle.sbp_world.specs.Hosts.Steps.{IsNoAbort, is_beside}

-- an initiator of a number, by a history
pub record IsHost (past : List Moment) (i : ℕ) (s : InitiatorState) : Type 0 where
  pub number : s.number ≡ i
  pub rows : AreRows past i s.lists.slots
  pub pin : Pins s.operation s.lists.slots.pinned

-- all of them
abbrev pub AreHosts : List Moment → WorldState → Type 0
AreHosts past w = (i : ℕ) → i < length w.initiators → IsHost (history w past) i (initiator_at w i)

-- the others
abbrev pub AreBut : List Moment → ℕ → WorldState → Type 0
AreBut past i w = (j : ℕ) → j < length w.initiators → (j == i) ≡ false → IsHost (history w past) j (initiator_at w j)

-- the line is no abort
abbrev pub NoneAborts : List Moment → Type 0
NoneAborts past = (i : ℕ) → IsNoAbort i (event_of past)

pub record WorldLaw : Type 0 where
  pub note : (past : List Moment) (w : WorldState) (note : Note) → ((i : ℕ) → is_beside i note ≡ true) → AreHosts past w → AreHosts past (with_note note w)
  pub target : (past : List Moment) (w : WorldState) (node : NodeState) (from weight : ℕ) (outbox : OutboxState) → AreOthers outbox.sides → NoneAborts (history w past) → AreHosts past w → AreHosts past (handed_out from weight outbox (with_target node w))
  pub initiator : (past : List Moment) (w : WorldState) (i from weight : ℕ) (t : Turn) → i < length w.initiators → t.1.number ≡ i → AreNotes t.0.sides → NoneAborts (history w past) → Listed (history w past) t → AreBut past i w → AreHosts past (handed_out from weight t.0 (with_initiator i t.1 w))
