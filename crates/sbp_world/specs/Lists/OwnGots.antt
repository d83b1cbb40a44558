-- What the target gets in answer to its agents (NCITS 325-1998, command block agents), as each packet is got, in runs in which no initiator injected packets, or few logins were given: where the agent of a place
-- waits for an answer of an initiator that injected none, an answer to any agent brings of this initiator what the main transaction of that place brought, or what begins elsewhere than in a slot.
use Rattle.std.specs.Prelude.{◌≡◌, ◌<◌, ◌≤◌, ℕ, suc, Bool, false, List, ◌∷◌, ◌++◌, length, map, Option, Some}
use Rattle.command_agent.specs.declared.step.Which.{Which}
use Rattle.rbc_disk.specs.Disk.{Disk}
use Rattle.rbc_disk.specs.Runs.{Told}
use Rattle.sbp_journal.specs.Run.{Moment, asked, said}
use Rattle.sbp_journal.specs.Wire.{terms}
use Rattle.sbp_journal.specs.declared.note.Note.TheVariants as notes
use Rattle.sbp_laws.specs.Lawful.{injectors}
use Rattle.sbp_laws.specs.Packets.{answered_at, receiver_in}
use Rattle.sbp_laws.specs.Targets.{agent_at, for_agent, over, purpose_of, target_at}
use Rattle.sbp_laws.specs.Turns.{EachMoment}
use Rattle.sbp_world.specs.Histories.{history_of}
use Rattle.sbp_world.specs.Runs.{Run, after, beginning}
use Rattle.sbp_world.specs.Settling.{MayAll, after_all}
use Rattle.sbp_world.specs.Worlds.{begun}
use Rattle.sbp_world.specs.Agents.AskedRuns.{serial_of}
use Rattle.sbp_world.specs.Hosts.Runs.{IsRun, more_deliveries}
use Rattle.sbp_world.specs.Lists.FedRuns.{IsOwnOrOther}
use Rattle.sbp_world.specs.Lists.FewLogins.{IsTameOrFew}

-- of each slot, while the agent of a place waits for an answer to this request, of initiator i, which is not among these
abbrev pub AreOwnAsGot : (ℕ → Bool) → List Disk → List Moment → ℕ → Type 0
AreOwnAsGot wild start past serial =
    (place : ℕ) → place < 8 → (side : Which) (mine i : ℕ) → wild i ≡ false → (let target = over (target_at start past) in serial_of side (agent_at target place) ≡ Some mine → receiver_in ((terms past).sent mine) ≡ Some (suc i) → (request other slot : ℕ) (which : Which) → answered_at (terms past) serial ≡ Some request → purpose_of target request ≡ for_agent other which → IsOwnOrOther start past i place slot serial)

abbrev pub OwnAsGot : (ℕ → Bool) → List Disk → Moment → List Moment → Type 0
OwnAsGot wild start (said (notes.Got serial)) past = AreOwnAsGot wild start past serial
OwnAsGot wild start moment past = Unit {0}

-- After every line of every run, and behind each delivery of a line that delivers one packet after the other.
pub record OwnAsGotLaw : Type 0 where
  pub after_lines : (line : ℕ) (run : Run) → IsRun run → 0 < run.units → run.units ≤ 4 → length run.start.disks ≡ run.units → IsTameOrFew (history_of line run) → EachMoment (OwnAsGot (injectors (history_of line run)) run.start.disks) (history_of line run)
  pub between : (line : ℕ) (run : Run) → IsRun run → 0 < run.units → run.units ≤ 4 → length run.start.disks ≡ run.units → (next : ℕ) (most : Option ℕ) (told : List (Option Told)) → MayAll told (begun (after (beginning run) run.entries)) → (let now = map said (after_all told (begun (after (beginning run) run.entries))).world.fresh ++ asked next (more_deliveries most) ∷ history_of line run in IsTameOrFew now → EachMoment (OwnAsGot (injectors now) run.start.disks) now)
