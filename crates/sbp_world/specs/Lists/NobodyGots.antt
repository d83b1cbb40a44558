-- What the target gets in answer to a request of nobody, of no agent and not of its management operation (NCITS 325-1998, AGENT_RESET, ABORT TASK SET, resets): of each initiator that injected no packets, in runs in
-- which none did, or few logins were given, it begins elsewhere than in the slot of an ORB of a list that is open.
use Rattle.std.specs.Prelude.{◌≡◌, ◌<◌, ◌≤◌, ℕ, Bool, false, List, [], ◌∷◌, ◌++◌, length, map, Option, Some, None}
use Rattle.rbc_disk.specs.Disk.{Disk}
use Rattle.rbc_disk.specs.Runs.{Told}
use Rattle.sbp_journal.specs.Run.{Moment, asked, said}
use Rattle.sbp_journal.specs.Wire.{terms}
use Rattle.sbp_journal.specs.declared.note.Note.TheVariants as notes
use Rattle.sbp_laws.specs.CarriedBytes.{read_by}
use Rattle.sbp_laws.specs.Lawful.{injectors}
use Rattle.sbp_laws.specs.Lists.{orb, prepared_in}
use Rattle.sbp_laws.specs.OrderLaw.{IsOpen}
use Rattle.sbp_laws.specs.Packets.{answered_at}
use Rattle.sbp_laws.specs.Targets.{for_nobody, over, purpose_of, target_at}
use Rattle.sbp_laws.specs.Turns.{EachMoment}
use Rattle.sbp_world.specs.Histories.{history_of}
use Rattle.sbp_world.specs.Runs.{Run, after, beginning}
use Rattle.sbp_world.specs.Settling.{MayAll, after_all}
use Rattle.sbp_world.specs.Worlds.{begun}
use Rattle.sbp_world.specs.Hosts.Runs.{IsRun, more_deliveries}
use Rattle.sbp_world.specs.Lists.AtGots.{AtGot}
use Rattle.sbp_world.specs.Lists.FedRuns.{AllElsewhere}
use Rattle.sbp_world.specs.Lists.FewLogins.{IsTameOrFew}

abbrev pub IsNobodyElsewhere : List Disk → List Moment → (i slot serial : ℕ) → Option ℕ → Type 0
IsNobodyElsewhere start past i slot serial None = Unit {0}
IsNobodyElsewhere start past i slot serial (Some request) = purpose_of (over (target_at start past)) request ≡ for_nobody → AllElsewhere slot (read_by (terms past) i serial (Some request))

-- as each packet was got
abbrev pub AllNobodyElsewhere : List Disk → (i slot : ℕ) → (later before : List Moment) → Type 0
AllNobodyElsewhere start i slot [] before = Unit {0}
AllNobodyElsewhere start i slot (said (notes.Got serial) ∷ later) before =
    IsNobodyElsewhere start (later ++ before) i slot serial (answered_at (terms (later ++ before)) serial) × AllNobodyElsewhere start i slot later before
AllNobodyElsewhere start i slot (moment ∷ later) before = AllNobodyElsewhere start i slot later before

-- what answers a request of nobody begins elsewhere than in the slot of an ORB of an open list, of each initiator that is not among these
abbrev pub IsUnownedElsewhere : (ℕ → Bool) → List Disk → List Moment → ℕ → Type 0
IsUnownedElsewhere wild start past serial =
    (i slot list number request : ℕ) → wild i ≡ false → IsOpen past i list → prepared_in past i slot ≡ Some (orb list number) → answered_at (terms past) serial ≡ Some request → purpose_of (over (target_at start past)) request ≡ for_nobody → AllElsewhere slot (read_by (terms past) i serial (Some request))

abbrev pub NobodyAsGot : (ℕ → Bool) → List Disk → Moment → List Moment → Type 0
NobodyAsGot wild start moment past = AtGot (IsUnownedElsewhere wild start) moment past

-- After every line of every run, and behind each delivery of a line that delivers one packet after the other.
pub record NobodyAsGotLaw : Type 0 where
  pub after_lines : (line : ℕ) (run : Run) → IsRun run → 0 < run.units → run.units ≤ 4 → length run.start.disks ≡ run.units → IsTameOrFew (history_of line run) → EachMoment (NobodyAsGot (injectors (history_of line run)) run.start.disks) (history_of line run)
  pub between : (line : ℕ) (run : Run) → IsRun run → 0 < run.units → run.units ≤ 4 → length run.start.disks ≡ run.units → (next : ℕ) (most : Option ℕ) (told : List (Option Told)) → MayAll told (begun (after (beginning run) run.entries)) → (let now = map said (after_all told (begun (after (beginning run) run.entries))).world.fresh ++ asked next (more_deliveries most) ∷ history_of line run in IsTameOrFew now → EachMoment (NobodyAsGot (injectors now) run.start.disks) now)
