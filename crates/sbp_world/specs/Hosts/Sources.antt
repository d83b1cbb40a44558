-- Who sent what an initiator serves, in every run (NCITS 325-1998, the memory of an initiator; IEEE 1394-1995, asynchronous packets): each request that it
-- got, but for a read of its ROM, was sent by the target.
use Rattle.std.specs.Prelude.{◌≡◌, ◌<◌, ℕ, suc, false, List, [], ◌∷◌, ◌++◌, map, Option, Some, Ok}
use Rattle.async_packet.specs.Packet.{Packet}
use Rattle.async_packet.specs.Reading.{reading}
use Rattle.rbc_disk.specs.Runs.{Told}
use Rattle.sbp_journal.specs.Addresses.{Access, access_of}
use Rattle.sbp_journal.specs.Run.{Moment, asked, said}
use Rattle.sbp_journal.specs.Transactions.{Sending}
use Rattle.sbp_journal.specs.Wire.{terms}
use Rattle.sbp_journal.specs.declared.event.Event.{Event}
use Rattle.sbp_journal.specs.declared.note.Note.TheVariants as notes
use Rattle.initiator_base.specs.Places.{reads_rom}
use Rattle.sbp_world.specs.Histories.{history_of}
use Rattle.sbp_world.specs.Runs.{Run, after, beginning}
use Rattle.sbp_world.specs.Settling.{MayAll, after_all}
use Rattle.sbp_world.specs.Worlds.{begun}
use Rattle.sbp_world.specs.Hosts.Answering.{IsDelivering}
use Rattle.sbp_world.specs.Hosts.Runs.{IsRun}

-- a packet to initiator i, where it is a request and reads no ROM, is the target's
abbrev pub IsOfTarget : List Moment → (i serial : ℕ) → Type 0
IsOfTarget past i serial =
    (packet : Sending) (p : Packet) (access : Access) → (terms past).sent serial ≡ Some packet → packet.to ≡ suc i → reading packet.bytes ≡ Ok p → access_of p ≡ Some access → reads_rom p ≡ false → packet.from ≡ 0

-- each one that was got
abbrev pub AllOfTarget : List Moment → ℕ → Type 0
AllOfTarget [] i = Unit {0}
AllOfTarget (said (notes.Got serial) ∷ past) i = IsOfTarget past i serial × AllOfTarget past i
AllOfTarget (_ ∷ past) i = AllOfTarget past i

-- After each line of a run, and behind some deliveries of a line that delivers packets.
pub record SourceLaw : Type 0 where
  pub sources : (line : ℕ) (run : Run) → IsRun run → (i : ℕ) → i < run.initiators → AllOfTarget (history_of line run) i
  pub between : (line : ℕ) (run : Run) → IsRun run → (next : ℕ) (event : Event) (told : List (Option Told)) → IsDelivering event told → MayAll told (begun (after (beginning run) run.entries)) → (i : ℕ) → i < run.initiators → AllOfTarget (map said (after_all told (begun (after (beginning run) run.entries))).world.fresh ++ asked next event ∷ history_of line run) i
