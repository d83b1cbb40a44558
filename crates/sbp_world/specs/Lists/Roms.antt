-- Where the initiators of a run find MANAGEMENT_AGENT (IEEE 1212, configuration ROM; NCITS 325-1998, MANAGEMENT_AGENT), whatever anyone injected: an
-- initiator that knows where it stands knows it at the one address that the target has it at; and each packet of an action with a management ORB goes there.
use Rattle.std.specs.Prelude.{◌≡◌, ◌<◌, ◌≤◌, ℕ, suc, true, false, List, ◌∷◌, ◌++◌, length, map, Option, Some}
use Rattle.rbc_disk.specs.Runs.{Told}
use Rattle.sbp_journal.specs.Addresses.{Access, management_address}
use Rattle.sbp_journal.specs.Run.{Moment, asked, said}
use Rattle.sbp_journal.specs.Transactions.{Sending}
use Rattle.sbp_journal.specs.Wire.{terms}
use Rattle.sbp_journal.specs.declared.event.Action.{Action}
use Rattle.sbp_laws.specs.Hosts.{operation_of}
use Rattle.sbp_laws.specs.Packets.{access_in_bytes}
use Rattle.sbp_world.specs.Histories.{history_of}
use Rattle.sbp_world.specs.Runs.{Run, after, beginning}
use Rattle.sbp_world.specs.Settling.{MayAll, after_all}
use Rattle.sbp_world.specs.Worlds.{WorldState, begun, initiator_at}
use Rattle.sbp_world.specs.Hosts.Runs.{IsRun, more_deliveries}
use Rattle.sbp_world.specs.Pointers.Moments.{asked_in, manages}

-- each packet of an action with a management ORB goes to MANAGEMENT_AGENT
abbrev pub WritesManaged : List Moment → ℕ → Type 0
WritesManaged past i = (serial : ℕ) (packet : Sending) (action : Action) (access : Access) → (terms past).sent serial ≡ Some packet → packet.from ≡ suc i → packet.injected ≡ false → asked_in past serial i ≡ Some action → manages (operation_of action) ≡ true → access_in_bytes packet.bytes ≡ Some access → access.offset ≡ management_address

pub record AreManaged (past : List Moment) (w : WorldState) (i : ℕ) : Type 0 where
  pub known : (offset : ℕ) → (initiator_at w i).management ≡ Some offset → offset ≡ management_address
  pub writes : WritesManaged past i

-- After every line of every run of a machine with a unit, at most four, and a medium for each; and behind each delivery of a line that delivers one packet
-- after the other.
pub record RomLaw : Type 0 where
  pub after_lines : (line : ℕ) (run : Run) → IsRun run → 0 < run.units → run.units ≤ 4 → length run.start.disks ≡ run.units → (i : ℕ) → i < run.initiators → AreManaged (history_of line run) (after (beginning run) run.entries).world i
  pub between : (line : ℕ) (run : Run) → IsRun run → 0 < run.units → run.units ≤ 4 → length run.start.disks ≡ run.units → (next : ℕ) (most : Option ℕ) (told : List (Option Told)) → MayAll told (begun (after (beginning run) run.entries)) → (i : ℕ) → i < run.initiators → (let w = (after_all told (begun (after (beginning run) run.entries))).world in AreManaged (map said w.fresh ++ asked next (more_deliveries most) ∷ history_of line run) w i)
