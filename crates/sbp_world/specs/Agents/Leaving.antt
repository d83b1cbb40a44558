-- Each packet that the target hands out in a run leaves: a node of the bus has its ID, and it is a request where it has a label, a response where it has none.
use Rattle.std.specs.Prelude.{◌≡◌, ◌≤◌, ◌<◌, ℕ, ◌+◌, ◌^◌, List, length, Option, Some}
use Rattle.packet_store.specs.declared.sent.Sent.{Sent}
use Rattle.packet_store.specs.Kept.{found_sent}
use Rattle.rbc_disk.specs.Held.{Held}
use Rattle.rbc_disk.specs.Runs.{Told}
use Rattle.sbp_bus.specs.Requests.{find}
use Rattle.sbp_bus.specs.declared.requests.Request.{Request}
use Rattle.sbp_journal.specs.declared.event.Event.{Event}
use Rattle.sbp_target.specs.Calls.{alone, lets_expire}
use Rattle.sbp_target.specs.Receiving.{received}
use Rattle.sbp_world.specs.Delivering.{whole_of}
use Rattle.sbp_world.specs.FitTarget.{BytesTold}
use Rattle.sbp_world.specs.Runs.{AreEntries, Run, after, beginning}
use Rattle.sbp_world.specs.Settling.{MayAll, after_all}
use Rattle.sbp_world.specs.Wire.Lines.{AreLines}
use Rattle.sbp_world.specs.Worlds.{WorldState, begun}
use Rattle.sbp_world.specs.Agents.Management.Terms.{DeliversMore}
use Rattle.sbp_world.specs.Agents.Hands.{AllLeave}

-- whatever packet is delivered to it, and whichever of its requests times out
pub record PacketsLeave (w : WorldState) : Type 0 where
  pub deliveries : (serial : ℕ) (sent : Sent) (told : Option Told) (media : Held) → found_sent serial w.store.kept ≡ Some sent → sent.to ≡ 0 → BytesTold told → AllLeave w.generations (received told sent.generation sent.bytes (whole_of w.target media)).1.outbox.packets
  pub expiries : (serial : ℕ) (request : Request) → find w.requests serial ≡ Some request → request.node ≡ 0 → AllLeave w.generations (alone (lets_expire request.peer request.label) w.target).outbox.packets

-- After every line of every run of a machine with a unit, at most four, and a medium for each.
abbrev pub LeavingLaw : Type 0
LeavingLaw =
    (run : Run) → run.initiators ≤ 4 → 0 < run.units → run.units ≤ 4 → length run.start.disks ≡ run.units → length run.entries + 2 < 2 ^ 32 → AreEntries (beginning run) run.entries → AreLines run run.entries → PacketsLeave (after (beginning run) run.entries).world

-- And behind each delivery of a line that may follow: the packets that were delivered in it so far told this, the latest one first.
abbrev pub LeavingBetweenLaw : Type 0
LeavingBetweenLaw =
    (run : Run) → run.initiators ≤ 4 → 0 < run.units → run.units ≤ 4 → length run.start.disks ≡ run.units → length run.entries + 2 < 2 ^ 32 → AreEntries (beginning run) run.entries → AreLines run run.entries → (next : ℕ) (event : Event) → DeliversMore event → (told : List (Option Told)) → MayAll told (begun (after (beginning run) run.entries)) → PacketsLeave (after_all told (begun (after (beginning run) run.entries))).world
