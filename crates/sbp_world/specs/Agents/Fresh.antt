-- The requests that the target hands out in a run have labels of their own: no two of a turn go to one node under one label, and none has the label of a
-- transaction that an agent waits for.
use Rattle.std.specs.Prelude.{◌≡◌, ◌≤◌, ◌<◌, ◌⊎◌, ℕ, ◌+◌, ◌^◌, List, [], length, Option, Some}
use Rattle.packet_store.specs.declared.sent.Sent.{Sent as StoredSent}
use Rattle.packet_store.specs.Kept.{found_sent}
use Rattle.rbc_disk.specs.Held.{Held}
use Rattle.rbc_disk.specs.Runs.{Told}
use Rattle.sbp_bus.specs.Requests.{find}
use Rattle.sbp_bus.specs.declared.requests.Request.{Request as BusRequest}
use Rattle.sbp_journal.specs.declared.event.Event.{Event}
use Rattle.sbp_journal.specs.declared.outbox.Outgoing.{Outgoing}
use Rattle.sbp_target.specs.declared.purpose.Sent.{Sent}
use Rattle.sbp_target.specs.Calls.{alone, lets_expire}
use Rattle.sbp_target.specs.Nodes.{NodeState, desk_at}
use Rattle.sbp_target.specs.Receiving.{received}
use Rattle.sbp_world.specs.Delivering.{whole_of}
use Rattle.sbp_world.specs.FitTarget.{BytesTold}
use Rattle.sbp_world.specs.Runs.{AreEntries, Run, after, beginning}
use Rattle.sbp_world.specs.Settling.{MayAll, after_all}
use Rattle.sbp_world.specs.Wire.Lines.{AreLines}
use Rattle.sbp_world.specs.Worlds.{WorldState, begun}
use Rattle.sbp_world.specs.Agents.Management.Terms.{DeliversMore}
use Rattle.sbp_world.specs.Agents.Crews.{Has, Request, with_requests}

-- the requests among the packets of a turn, however they are numbered
pub record AreNew (node : NodeState) (packets : List Outgoing) : Type 0 where
  pub unique : (last : ℕ) (one two : Request) → Has (with_requests last packets []) one → Has (with_requests last packets []) two → one.to ≡ two.to → one.label ≡ two.label → one.serial ≡ two.serial
  pub fresh : (last : ℕ) (r : Request) → Has (with_requests last packets []) r → (place : ℕ) → place < 8 → (sent : Sent) → ((desk_at node place).main ≡ Some sent) ⊎ ((desk_at node place).ahead ≡ Some sent) → sent.peer ≡ r.to → sent.label ≡ r.label → ⊥

-- whatever packet is delivered to it, and whichever of its requests times out
pub record LabelsAreNew (w : WorldState) : Type 0 where
  pub deliveries : (serial : ℕ) (sent : StoredSent) (told : Option Told) (media : Held) → found_sent serial w.store.kept ≡ Some sent → sent.to ≡ 0 → BytesTold told → AreNew w.target (received told sent.generation sent.bytes (whole_of w.target media)).1.outbox.packets
  pub expiries : (serial : ℕ) (request : BusRequest) → find w.requests serial ≡ Some request → request.node ≡ 0 → AreNew w.target (alone (lets_expire request.peer request.label) w.target).outbox.packets

-- After every line of every run of a machine with a unit, at most four, and a medium for each.
abbrev pub LabelsLaw : Type 0
LabelsLaw =
    (run : Run) → run.initiators ≤ 4 → 0 < run.units → run.units ≤ 4 → length run.start.disks ≡ run.units → length run.entries + 2 < 2 ^ 32 → AreEntries (beginning run) run.entries → AreLines run run.entries → LabelsAreNew (after (beginning run) run.entries).world

-- And behind each delivery of a line that may follow: the packets that were delivered in it so far told this, the latest one first.
abbrev pub LabelsBetweenLaw : Type 0
LabelsBetweenLaw =
    (run : Run) → run.initiators ≤ 4 → 0 < run.units → run.units ≤ 4 → length run.start.disks ≡ run.units → length run.entries + 2 < 2 ^ 32 → AreEntries (beginning run) run.entries → AreLines run run.entries → (next : ℕ) (event : Event) → DeliversMore event → (told : List (Option Told)) → MayAll told (begun (after (beginning run) run.entries)) → LabelsAreNew (after_all told (begun (after (beginning run) run.entries))).world
