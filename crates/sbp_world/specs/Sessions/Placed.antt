-- The management ORBs that an initiator's memory holds are those of its run (NCITS 325-1998, management ORBs): each of its places of management holds the ORB of the
-- latest operation that used it, with the fields of its line, and zeros before any. It is what the target reads there.
use Rattle.std.specs.Prelude.{◌≡◌, ◌<◌, ℕ, List, ◌∷◌, ◌++◌, map, Option, Some}
use Rattle.bus_memory.specs.declared.window.Window.TheVariants as windows
use Rattle.bus_memory.specs.Access.{read_step}
use Rattle.bus_memory.specs.Memory.{place_at}
use Rattle.bus_memory.specs.Windows.{window_at}
use Rattle.sbp_world.specs.Hosts.Reads.{IsReadOf}
use Rattle.sbp_world.specs.Hosts.Runs.{IsRun, more_deliveries}
use Rattle.rbc_disk.specs.Runs.{Told}
use Rattle.sbp_initiator.specs.declared.state.InitiatorState.{InitiatorState}
use Rattle.sbp_journal.specs.Addresses.{Access}
use Rattle.sbp_journal.specs.Run.{Moment, asked, said}
use Rattle.sbp_laws.specs.Served.{place_bytes, place_held, window_gives}
use Rattle.sbp_world.specs.Histories.{history_of}
use Rattle.sbp_world.specs.Runs.{Run, after, beginning}
use Rattle.sbp_world.specs.Settling.{MayAll, after_all}
use Rattle.sbp_world.specs.Worlds.{begun, initiator_at}

abbrev pub HoldsPlaces : List Moment → ℕ → InitiatorState → Type 0
HoldsPlaces past i s = (place : ℕ) → place < 2 → (place_at s.lists.memory place).orb ≡ place_bytes (place_held past i place)

-- and a read in one of them that is complete gives its bytes: the 32 bytes of that ORB, or some of them
abbrev pub GivesPlaces : List Moment → ℕ → InitiatorState → Type 0
GivesPlaces past i s =
    (access : Access) (out : List ℕ) (place : ℕ) → IsReadOf access out → window_at access.offset ≡ Some (windows.Management place) → (read_step s.lists.memory access.offset out).0 ≡ 0 → (read_step s.lists.memory access.offset out).1 ≡ window_gives past i access (window_at access.offset)

pub record ArePlaces (past : List Moment) (i : ℕ) (s : InitiatorState) : Type 0 where
  pub holds : HoldsPlaces past i s
  pub gives : GivesPlaces past i s

-- After every line of every run, and behind each delivery of a line that may follow.
pub record PlacedLaw : Type 0 where
  pub after_lines : (line : ℕ) (run : Run) → IsRun run → (i : ℕ) → i < run.initiators → ArePlaces (history_of line run) i (initiator_at (after (beginning run) run.entries).world i)
  pub between : (line : ℕ) (run : Run) → IsRun run → (next : ℕ) (most : Option ℕ) (told : List (Option Told)) → MayAll told (begun (after (beginning run) run.entries)) → (i : ℕ) → i < run.initiators → (let w = (after_all told (begun (after (beginning run) run.entries))).world in ArePlaces (map said w.fresh ++ asked next (more_deliveries most) ∷ history_of line run) i (initiator_at w i))
