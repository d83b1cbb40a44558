-- What an initiator's responses to reads of its management ORBs bring, in every run (IEEE 1394-1995, split transactions; NCITS 325-1998, management ORBs): a
-- response that was not injected, and that tells bytes in answer to a block read of the 32 bytes of a place of management, brings the ORB that stood in that
-- place as the initiator got the read, behind the moment at which the read was sent: that of the latest operation that had used the place.
use Rattle.std.specs.Prelude.{◌≡◌, ◌<◌, ◌≤◌, ℕ, List, ◌∷◌, ◌++◌, map, Option}
use Rattle.bus_memory.specs.declared.window.Window.TheVariants as windows
use Rattle.bus_memory.specs.Windows.{start}
use Rattle.rbc_disk.specs.Runs.{Told}
use Rattle.sbp_journal.specs.Addresses.{Access}
use Rattle.sbp_journal.specs.Run.{Moment, asked, said}
use Rattle.sbp_journal.specs.Wire.{terms}
use Rattle.sbp_journal.specs.declared.event.Event.{Event}
use Rattle.sbp_journal.specs.declared.note.Note.TheVariants as notes
use Rattle.sbp_laws.specs.CarriedBytes.{IsRead}
use Rattle.sbp_laws.specs.Served.{place_bytes, place_held}
use Rattle.sbp_world.specs.Histories.{history_of}
use Rattle.sbp_world.specs.Runs.{Run, after, beginning}
use Rattle.sbp_world.specs.Settling.{MayAll, after_all}
use Rattle.sbp_world.specs.Worlds.{begun}
use Rattle.sbp_world.specs.Hosts.Answering.{IsDelivering}
use Rattle.sbp_world.specs.Hosts.Carrying.{IsResponse}
use Rattle.sbp_world.specs.Hosts.Runs.{IsRun}

pub record BringsPlace (past : List Moment) (i request place : ℕ) (bytes : List ℕ) : Type 0 where
  -- the moment at which the read was got, which was sent before
  pub later : List Moment
  pub before : List Moment
  pub is : later ++ said (notes.Got request) ∷ before ≡ past
  pub below : request ≤ (terms before).count
  pub held : bytes ≡ place_bytes (place_held before i place)

abbrev pub BringPlaces : List Moment → ℕ → Type 0
BringPlaces past i = (response request place : ℕ) (access : Access) (bytes : List ℕ) → place < 2 → IsRead access (start (windows.Management place)) 32 → IsResponse past i response request access bytes → BringsPlace past i request place bytes

-- After each line of a run, and behind some deliveries of a line that delivers packets.
pub record PlaceReadsLaw : Type 0 where
  pub after_lines : (line : ℕ) (run : Run) → IsRun run → (i : ℕ) → i < run.initiators → BringPlaces (history_of line run) i
  pub between : (line : ℕ) (run : Run) → IsRun run → (next : ℕ) (event : Event) (told : List (Option Told)) → IsDelivering event told → MayAll told (begun (after (beginning run) run.entries)) → (i : ℕ) → i < run.initiators → BringPlaces (map said (after_all told (begun (after (beginning run) run.entries))).world.fresh ++ asked next event ∷ history_of line run) i
