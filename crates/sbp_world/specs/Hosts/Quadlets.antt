-- No quadlet is written into the memory of an initiator (IEEE 1394-1995, asynchronous packets): the target writes blocks alone, and what another
-- node sends is not served. So the bytes of its buffers are those of the laws of answers, with nothing left out.
use Rattle.std.specs.Prelude.{◌≡◌, ◌<◌, ℕ, false, List, ◌∷◌, ◌++◌, map, Option, Some}
use Rattle.rbc_disk.specs.Runs.{Told}
use Rattle.sbp_journal.specs.Run.{Moment, asked, said}
use Rattle.sbp_journal.specs.Transactions.{Sending}
use Rattle.sbp_journal.specs.Wire.{terms}
use Rattle.sbp_journal.specs.declared.event.Event.{Event}
use Rattle.sbp_laws.specs.Packets.{packet_at}
use Rattle.sbp_world.specs.Histories.{history_of}
use Rattle.sbp_world.specs.Runs.{Run, after, beginning}
use Rattle.sbp_world.specs.Settling.{MayAll, after_all}
use Rattle.sbp_world.specs.Worlds.{begun}
use Rattle.sbp_world.specs.Hosts.Answering.{IsDelivering}
use Rattle.sbp_world.specs.Hosts.Bytes.{took_quadlet, writes_quadlet}
use Rattle.sbp_world.specs.Hosts.Runs.{IsRun}

pub record WritesNoQuadlet (past : List Moment) (i : ℕ) : Type 0 where
  -- the target sends no write of a quadlet
  pub sends : (serial : ℕ) (packet : Sending) → (terms past).sent serial ≡ Some packet → packet.from ≡ 0 → writes_quadlet (packet_at (terms past) serial) ≡ false
  -- and this initiator got none that it answered complete
  pub takes : took_quadlet past i ≡ false

-- After each line of a run, and behind some deliveries of a line that delivers packets.
pub record QuadletLaw : Type 0 where
  pub none : (line : ℕ) (run : Run) → IsRun run → (i : ℕ) → i < run.initiators → WritesNoQuadlet (history_of line run) i
  pub between : (line : ℕ) (run : Run) → IsRun run → (next : ℕ) (event : Event) (told : List (Option Told)) → IsDelivering event told → MayAll told (begun (after (beginning run) run.entries)) → (i : ℕ) → i < run.initiators → WritesNoQuadlet (map said (after_all told (begun (after (beginning run) run.entries))).world.fresh ++ asked next event ∷ history_of line run) i
