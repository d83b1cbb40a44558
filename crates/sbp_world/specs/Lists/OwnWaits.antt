-- Whose page tables and data the agents of the target read (NCITS 325-1998, command block agents), as each packet is got, in runs in which no initiator injected packets, or few logins were given: where the
-- agent of a place waits for an answer of an initiator that injected none, what any agent waits for, to read in a page table or a buffer of this initiator, is the main transaction of that place, and stands in the slot of
-- the first ORB of the initiator's latest list that has not ended.
use Rattle.std.specs.Prelude.{◌≡◌, ◌<◌, ◌≤◌, ℕ, suc, List, ◌∷◌, ◌++◌, length, map, Option, Some}
use Rattle.command_agent.specs.declared.step.Which.{Which}
use Rattle.rbc_disk.specs.Disk.{Disk}
use Rattle.rbc_disk.specs.Runs.{Told}
use Rattle.sbp_journal.specs.Run.{Moment, asked, said}
use Rattle.sbp_journal.specs.Wire.{terms}
use Rattle.sbp_journal.specs.declared.note.Note.TheVariants as notes
use Rattle.sbp_laws.specs.Packets.{receiver_in}
use Rattle.sbp_laws.specs.Targets.{agent_at, over, target_at}
use Rattle.sbp_laws.specs.Terms.{lists}
use Rattle.sbp_laws.specs.Turns.{EachMoment}
use Rattle.sbp_world.specs.Histories.{history_of}
use Rattle.sbp_world.specs.Runs.{Run, after, beginning}
use Rattle.sbp_world.specs.Settling.{MayAll, after_all}
use Rattle.sbp_world.specs.Worlds.{begun}
use Rattle.sbp_world.specs.Agents.AskedRuns.{serial_of}
use Rattle.sbp_world.specs.Hosts.Runs.{IsRun, more_deliveries}
use Rattle.sbp_world.specs.Lists.FewLogins.{IsTameOrFew}
use Rattle.sbp_world.specs.Lists.Needs.{IsCalm}
use Rattle.sbp_world.specs.Lists.OwnReads.{IsOwnRead, ReadsData}

-- of the agent of this place alone, for its list
pub record ReadsItsOwn (start : List Disk) (past : List Moment) (place i : ℕ) : Type 0 where
  pub n : ℕ
  pub latest : suc n ≡ lists past i
  pub each : (other : ℕ) → other < 8 → (which : Which) (serial slot : ℕ) → ReadsData start past other which serial i slot → IsOwnRead past place i n other which slot

-- while the agent of a place waits for an answer to this request, of initiator i, which injected no packets
abbrev pub AreReadsOwn : List Disk → List Moment → Type 0
AreReadsOwn start past =
    (place : ℕ) → place < 8 → (side : Which) (mine i : ℕ) → serial_of side (agent_at (over (target_at start past)) place) ≡ Some mine → receiver_in ((terms past).sent mine) ≡ Some (suc i) → IsCalm past i → ReadsItsOwn start past place i

abbrev pub ReadsAsGot : List Disk → Moment → List Moment → Type 0
ReadsAsGot start (said (notes.Got serial)) past = AreReadsOwn start past
ReadsAsGot start moment past = Unit {0}

-- After every line of every run, and behind each delivery of a line that delivers one packet after the other.
pub record ReadsAsGotLaw : Type 0 where
  pub after_lines : (line : ℕ) (run : Run) → IsRun run → 0 < run.units → run.units ≤ 4 → length run.start.disks ≡ run.units → IsTameOrFew (history_of line run) → EachMoment (ReadsAsGot run.start.disks) (history_of line run)
  pub between : (line : ℕ) (run : Run) → IsRun run → 0 < run.units → run.units ≤ 4 → length run.start.disks ≡ run.units → (next : ℕ) (most : Option ℕ) (told : List (Option Told)) → MayAll told (begun (after (beginning run) run.entries)) → (let now = map said (after_all told (begun (after (beginning run) run.entries))).world.fresh ++ asked next (more_deliveries most) ∷ history_of line run in IsTameOrFew now → EachMoment (ReadsAsGot run.start.disks) now)
