-- What a node hands out, behind a history: what the target tells, and each packet that leaves, say nothing of the lists of an initiator; and what
-- an initiator tells stands in the history as it was told.
use Rattle.std.specs.Prelude.{◌≡◌, ℕ, List, ◌++◌, map, Option}
use Rattle.std.specs.List.{AllByRecursion}
use Rattle.async_packet.specs.Labels.{LabelParts}
use Rattle.orb_list.specs.Table.{SlotTable}
use Rattle.rbc_disk.specs.Held.{Held}
use Rattle.rbc_disk.specs.Runs.{Told}
use Rattle.sbp_journal.specs.Run.{Moment, said}
use Rattle.sbp_journal.specs.Outgoings.{empty_outbox}
use Rattle.sbp_journal.specs.declared.outbox.Outgoing.{Outgoing}
use Rattle.sbp_journal.specs.declared.side.Side.{Side}
use Rattle.sbp_journal.specs.declared.side.Side.TheVariants as sides
use Rattle.packet_store.specs.declared.sent.Sent.{Sent}
use Rattle.sbp_laws.specs.Turns.{event_of}
use Rattle.sbp_target.specs.Nodes.{NodeState, scene}
use Rattle.sbp_target.specs.Receiving.{expired}
use Rattle.sbp_world.specs.Delivering.{MayTell, target_received}
use Rattle.sbp_world.specs.Nodes.{target_sees, target_ticks}
use Rattle.sbp_world.specs.Sending.{sent_all}
use Rattle.sbp_world.specs.Telling.{told_all}
use Rattle.sbp_world.specs.Worlds.{WorldState}
use Rattle.sbp_world.specs.Hosts.Calls.{behind}
use Rattle.sbp_world.specs.Hosts.Fits.{AreRows}
use Rattle.sbp_world.specs.Hosts.Steps.{IsNoAbort}

-- a side that is none of an initiator, and one of an initiator
abbrev pub IsOther : Side → Type 0
IsOther (sides.Own note) = ⊥
IsOther _ = Unit {0}

abbrev pub AreOthers : List Side → Type 0
AreOthers told = AllByRecursion IsOther told

abbrev pub IsNote : Side → Type 0
IsNote (sides.Own note) = Unit {0}
IsNote _ = ⊥

abbrev pub AreNotes : List Side → Type 0
AreNotes told = AllByRecursion IsNote told

-- the history behind the notes of a world's line
abbrev pub history : WorldState → List Moment → List Moment
history w past = map said w.fresh ++ past

pub record HandLaw : Type 0 where
  -- what the target tells
  pub received : (told : Option Told) (packet : Sent) (node : NodeState) (media : Held) → MayTell told packet node media → AreOthers (target_received told packet node media).1.0.sides
  pub expires : (peer : ℕ) (label : LabelParts) (node : NodeState) → AreOthers (expired peer label (scene node empty_outbox)).1.outbox.sides
  pub sees : (generation id : ℕ) (node : NodeState) → AreOthers (target_sees generation id node).0.sides
  pub ticks : (node : NodeState) → AreOthers (target_ticks node).0.sides
  -- it leaves the terms of every initiator
  pub others : (past : List Moment) (w : WorldState) (weight i : ℕ) (s : SlotTable) (told : List Side) → AreOthers told → AreRows (history w past) i s → AreRows (history (told_all weight told w) past) i s
  -- and so do packets, but for that of the initiator's abort
  pub packets : (past : List Moment) (w : WorldState) (from i : ℕ) (s : SlotTable) (packets : List Outgoing) → IsNoAbort i (event_of (history w past)) → AreRows (history w past) i s → AreRows (history (sent_all from packets w) past) i s
  -- what an initiator tells
  pub own : (past : List Moment) (w : WorldState) (weight : ℕ) (told : List Side) → AreNotes told → history (told_all weight told w) past ≡ behind told (history w past)
