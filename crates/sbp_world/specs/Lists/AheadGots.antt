-- What the target gets while an agent has an ORB that it read ahead (NCITS 325-1998, command block agents), as each packet is got, in runs in which no initiator injected packets, or few logins were given: while the
-- agent waits for an answer of an initiator that injected none, what is got of the initiator begins elsewhere than in the slot of the ORB that was read ahead, where what answers no agent does.
use Rattle.std.specs.Prelude.{◌≡◌, ◌<◌, ◌≤◌, ℕ, Bool, false, List, [], ◌∷◌, ◌++◌, length, map, Option}
use Rattle.bus_memory.specs.declared.window.Window.TheVariants as windows
use Rattle.bus_memory.specs.Windows.{start as start_of}
use Rattle.command_agent.specs.declared.phase.ReadAhead.TheVariants as aheads
use Rattle.command_agent.specs.Machine.{aligned}
use Rattle.orb_layout.specs.declared.command.CommandOrb.{CommandOrb}
use Rattle.orb_layout.specs.declared.pointer.OrbPointer.TheVariants.{At}
use Rattle.rbc_disk.specs.Disk.{Disk}
use Rattle.rbc_disk.specs.Runs.{Told}
use Rattle.sbp_journal.specs.Run.{Moment, asked, said}
use Rattle.sbp_journal.specs.Wire.{terms}
use Rattle.sbp_journal.specs.declared.note.Note.TheVariants as notes
use Rattle.sbp_laws.specs.CarriedBytes.{read_by}
use Rattle.sbp_laws.specs.Lawful.{injectors}
use Rattle.sbp_laws.specs.Packets.{answered_at}
use Rattle.sbp_laws.specs.Targets.{agent_at, over, target_at}
use Rattle.sbp_laws.specs.Turns.{EachMoment}
use Rattle.sbp_world.specs.Histories.{history_of}
use Rattle.sbp_world.specs.Runs.{Run, after, beginning}
use Rattle.sbp_world.specs.Settling.{MayAll, after_all}
use Rattle.sbp_world.specs.Worlds.{begun}
use Rattle.sbp_world.specs.Hosts.Runs.{IsRun, more_deliveries}
use Rattle.sbp_world.specs.Lists.AtGots.{AtGot}
use Rattle.sbp_world.specs.Lists.FedRuns.{AllElsewhere, AreOthers}
use Rattle.sbp_world.specs.Lists.FewLogins.{IsTameOrFew}
use Rattle.sbp_world.specs.Lists.OwnLogins.{IsTame}
use Rattle.sbp_world.specs.Lists.OwnSince.{IsAwaited, IsElsewhereBut}

-- the agent of a place has an ORB that it read ahead, which stands in a slot
pub record HasAhead (start : List Disk) (past : List Moment) (place slot : ℕ) : Type 0 where
  pub orb : CommandOrb
  pub kept : (agent_at (over (target_at start past)) place).machine.ahead ≡ aheads.Kept orb
  pub offset : ℕ
  pub next : (agent_at (over (target_at start past)) place).machine.orb.next ≡ At offset
  pub stands : aligned offset ≡ start_of (windows.Orb slot)

-- of each initiator that is not among these
abbrev pub IsAheadElsewhere : (ℕ → Bool) → List Disk → List Moment → ℕ → Type 0
IsAheadElsewhere wild start past serial =
    (place : ℕ) → place < 8 → (i slot : ℕ) → wild i ≡ false → IsAwaited start past i place → HasAhead start past place slot → IsElsewhereBut start past i slot serial (answered_at (terms past) serial) → AllElsewhere slot (read_by (terms past) i serial (answered_at (terms past) serial))

abbrev pub AheadAsGot : (ℕ → Bool) → List Disk → Moment → List Moment → Type 0
AheadAsGot wild start moment past = AtGot (IsAheadElsewhere wild start) moment past

-- After every line of every run, and behind each delivery of a line that delivers one packet after the other.
pub record AheadAsGotLaw : Type 0 where
  pub after_lines : (line : ℕ) (run : Run) → IsRun run → 0 < run.units → run.units ≤ 4 → length run.start.disks ≡ run.units → IsTameOrFew (history_of line run) → EachMoment (AheadAsGot (injectors (history_of line run)) run.start.disks) (history_of line run)
  pub between : (line : ℕ) (run : Run) → IsRun run → 0 < run.units → run.units ≤ 4 → length run.start.disks ≡ run.units → (next : ℕ) (most : Option ℕ) (told : List (Option Told)) → MayAll told (begun (after (beginning run) run.entries)) → (let now = map said (after_all told (begun (after (beginning run) run.entries))).world.fresh ++ asked next (more_deliveries most) ∷ history_of line run in IsTameOrFew now → EachMoment (AheadAsGot (injectors now) run.start.disks) now)

-- ---- over a history
-- as each packet was got in these moments, the agent waited and had the ORB read ahead, and what answers no agent begins elsewhere
abbrev pub AreKeptAhead : List Disk → (i place slot : ℕ) → (between before : List Moment) → Type 0
AreKeptAhead start i place slot [] before = Unit {0}
AreKeptAhead start i place slot (said (notes.Got serial) ∷ between) before =
    (IsAwaited start (between ++ before) i place × (HasAhead start (between ++ before) place slot × IsElsewhereBut start (between ++ before) i slot serial (answered_at (terms (between ++ before)) serial))) × AreKeptAhead start i place slot between before
AreKeptAhead start i place slot (moment ∷ between) before = AreKeptAhead start i place slot between before

-- So what was got of the initiator in them begins elsewhere than in the slot.
abbrev pub AheadSinceLaw : Type 0
AheadSinceLaw = (wild : ℕ → Bool) (start : List Disk) (i place slot : ℕ) → wild i ≡ false → place < 8 → (between before : List Moment) → EachMoment (AheadAsGot wild start) (between ++ before) → AreKeptAhead start i place slot between before → AreOthers i slot between before

-- ---- an agent that has an ORB read ahead, where no initiator injected packets
-- it waits for an answer of an initiator
pub record WaitsFor (start : List Disk) (past : List Moment) (place : ℕ) : Type 0 where
  pub initiator : ℕ
  pub awaited : IsAwaited start past initiator place

abbrev pub AreWaitingAhead : List Disk → List Moment → ℕ → Type 0
AreWaitingAhead start past serial = (place : ℕ) → place < 8 → (slot : ℕ) → HasAhead start past place slot → WaitsFor start past place

abbrev pub WaitsAsGot : List Disk → Moment → List Moment → Type 0
WaitsAsGot start moment past = AtGot (AreWaitingAhead start) moment past

-- After every line of every run, and behind each delivery of a line that delivers one packet after the other.
pub record WaitsAsGotLaw : Type 0 where
  pub after_lines : (line : ℕ) (run : Run) → IsRun run → 0 < run.units → run.units ≤ 4 → length run.start.disks ≡ run.units → IsTame (history_of line run) → EachMoment (WaitsAsGot run.start.disks) (history_of line run)
  pub between : (line : ℕ) (run : Run) → IsRun run → 0 < run.units → run.units ≤ 4 → length run.start.disks ≡ run.units → (next : ℕ) (most : Option ℕ) (told : List (Option Told)) → MayAll told (begun (after (beginning run) run.entries)) → (let now = map said (after_all told (begun (after (beginning run) run.entries))).world.fresh ++ asked next (more_deliveries most) ∷ history_of line run in IsTame now → EachMoment (WaitsAsGot run.start.disks) now)
