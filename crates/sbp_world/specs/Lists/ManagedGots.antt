-- What the target gets in answer to its management operation (NCITS 325-1998, management agent, login response and status block), as each packet is got, in runs in which no initiator injected packets, or few logins were given: of each
-- initiator that injected none, whatever the slot, it begins not in the page table of the slot, and where it begins in its buffer, it is no bytes.
use Rattle.std.specs.Prelude.{◌≡◌, ◌<◌, ◌≤◌, ℕ, Bool, false, List, ◌∷◌, ◌++◌, length, map, Option, Some}
use Rattle.rbc_disk.specs.Disk.{Disk}
use Rattle.rbc_disk.specs.Runs.{Told}
use Rattle.sbp_journal.specs.Run.{Moment, asked, said}
use Rattle.sbp_journal.specs.Wire.{terms}
use Rattle.sbp_laws.specs.CarriedBytes.{read_by}
use Rattle.sbp_laws.specs.Packets.{answered_at}
use Rattle.sbp_laws.specs.Targets.{for_manager, over, purpose_of, target_at}
use Rattle.sbp_laws.specs.Turns.{EachMoment}
use Rattle.sbp_world.specs.Histories.{history_of}
use Rattle.sbp_world.specs.Runs.{Run, after, beginning}
use Rattle.sbp_world.specs.Settling.{MayAll, after_all}
use Rattle.sbp_world.specs.Worlds.{begun}
use Rattle.sbp_world.specs.Hosts.Runs.{IsRun, more_deliveries}
use Rattle.sbp_world.specs.Lists.AtGots.{AtGot}
use Rattle.sbp_world.specs.Lists.FedRuns.{AllElsewhere}
use Rattle.sbp_world.specs.Lists.FewLogins.{IsTameOrFew}
use Rattle.sbp_laws.specs.Lawful.{injectors}

-- what answers a request of the operation begins elsewhere, of each initiator that is not among these
abbrev pub IsManagedElsewhere : (ℕ → Bool) → List Disk → List Moment → ℕ → Type 0
IsManagedElsewhere wild start past serial =
    (i slot request : ℕ) → wild i ≡ false → answered_at (terms past) serial ≡ Some request → purpose_of (over (target_at start past)) request ≡ for_manager → AllElsewhere slot (read_by (terms past) i serial (Some request))

abbrev pub ManagedAsGot : (ℕ → Bool) → List Disk → Moment → List Moment → Type 0
ManagedAsGot wild start moment past = AtGot (IsManagedElsewhere wild start) moment past

-- After every line of every run, and behind each delivery of a line that delivers one packet after the other.
pub record ManagedAsGotLaw : Type 0 where
  pub after_lines : (line : ℕ) (run : Run) → IsRun run → 0 < run.units → run.units ≤ 4 → length run.start.disks ≡ run.units → IsTameOrFew (history_of line run) → EachMoment (ManagedAsGot (injectors (history_of line run)) run.start.disks) (history_of line run)
  pub between : (line : ℕ) (run : Run) → IsRun run → 0 < run.units → run.units ≤ 4 → length run.start.disks ≡ run.units → (next : ℕ) (most : Option ℕ) (told : List (Option Told)) → MayAll told (begun (after (beginning run) run.entries)) → (let now = map said (after_all told (begun (after (beginning run) run.entries))).world.fresh ++ asked next (more_deliveries most) ∷ history_of line run in IsTameOrFew now → EachMoment (ManagedAsGot (injectors now) run.start.disks) now)
