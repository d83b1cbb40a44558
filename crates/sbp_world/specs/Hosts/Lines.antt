-- What single steps of a world do to the lists of its initiators, by the history of its run: a delivery, a time-out, a sight, a second, an
-- action that is no abort, and an abort. Of a delivery it is asked that a status that is taken may be; of a sight, that the initiator is in
-- the generation that the history tells; of an abort, that the ID that the initiator has for the target is a node's in its generation.
use Rattle.std.specs.Prelude.{◌≡◌, ◌<◌, ℕ, ◌+◌, ◌-◌, ◌==◌, Bool, true, false, List, ◌∷◌, length, Option, Some, None, suc, not}
use Rattle.label_table.specs.Layer.{judging_step, seeing_step}
use Rattle.packet_store.specs.declared.sent.Sent.{Sent}
use Rattle.packet_store.specs.Kept.{found_sent}
use Rattle.rbc_disk.specs.Runs.{Told}
use Rattle.sbp_journal.specs.Run.{Moment, said}
use Rattle.sbp_journal.specs.Outgoings.{empty_outbox}
use Rattle.sbp_journal.specs.Wire.{terms as wire_terms}
use Rattle.sbp_journal.specs.declared.event.Action.{Action}
use Rattle.sbp_journal.specs.declared.event.Action.TheVariants as actions
use Rattle.sbp_journal.specs.declared.event.Event.TheVariants as events
use Rattle.sbp_initiator.specs.Receiving.{receive_step}
use Rattle.sbp_laws.specs.Turns.{event_of}
use Rattle.sbp_bus.specs.Packets.{judged_note}
use Rattle.sbp_world.specs.Delivering.{MayReceive, delivered}
use Rattle.sbp_bus.specs.Generations.{id_of, node_of}
use Rattle.sbp_world.specs.Lines.{acted}
use Rattle.sbp_world.specs.Packets.{timeout_line}
use Rattle.sbp_world.specs.Nodes.{see_line, tick_line}
use Rattle.sbp_world.specs.Worlds.{Scene, WorldState, initiator_at}
use Rattle.sbp_world.specs.Hosts.Calls.{MayFind}
use Rattle.sbp_world.specs.Hosts.Handing.{history}
use Rattle.sbp_world.specs.Hosts.Worlds.{AreHosts, NoneAborts}

-- what a packet brings to its initiator may be taken
abbrev pub MayHear : List Moment → ℕ → Sent → WorldState → Type 0
MayHear past serial sent w =
    let old = initiator_at w (sent.to - 1) in
    let r = receive_step sent.generation sent.bytes empty_outbox old in MayFind (said (judged_note serial r.0) ∷ history w past) (judging_step old.layer sent.generation sent.bytes).0 empty_outbox old r.1

abbrev pub MayDeliver : List Moment → ℕ → Option Sent → WorldState → Type 0
MayDeliver past serial None w = Unit {0}
MayDeliver past serial (Some sent) w = (sent.to == 0) ≡ false → MayHear past serial sent w

abbrev pub is_abort : Action → Bool
is_abort (actions.Abort k) = true
is_abort _ = false

-- An initiator is in the generation that the history tells: it sees another one as a later one.
abbrev pub MaySee : List Moment → ℕ → WorldState → Type 0
MaySee past i w =
    (seeing_step (initiator_at w i).layer w.generations.latest.generation (id_of w.generations.latest (suc i))).0 ≡ not (w.generations.latest.generation == (wire_terms (history w past)).generation (suc i))

pub record LineLaw : Type 0 where
  pub delivers : (past : List Moment) (serial : ℕ) (again : Bool) (told : Option Told) (s : Scene) → MayReceive told serial s → NoneAborts (history s.world past) → MayDeliver past serial (found_sent serial s.world.store.kept) s.world → AreHosts past s.world → AreHosts past (delivered serial again told s).world
  pub expires : (past : List Moment) (line serial : ℕ) (w : WorldState) → NoneAborts (history w past) → AreHosts past w → AreHosts past (timeout_line line serial w)
  pub sees : (past : List Moment) (node : ℕ) (w : WorldState) → NoneAborts (history w past) → ((i : ℕ) → node ≡ suc i → i < length w.initiators) → ((i : ℕ) → node ≡ suc i → MaySee past i w) → AreHosts past w → AreHosts past (see_line node w)
  pub ticks : (past : List Moment) (w : WorldState) → NoneAborts (history w past) → AreHosts past w → AreHosts past (tick_line w)
  pub acts : (past : List Moment) (line i : ℕ) (action : Action) (w : WorldState) → i < length w.initiators → NoneAborts (history w past) → AreHosts past w → is_abort action ≡ false → AreHosts past (acted line i action w)
  pub aborts : (past : List Moment) (line i number to : ℕ) (w : WorldState) → i < length w.initiators → node_of w.generations (i + 1) (initiator_at w i).target ≡ Some to → event_of (history w past) ≡ Some (events.Act i (actions.Abort number)) → AreHosts past w → AreHosts past (acted line i (actions.Abort number) w)
