-- How commands run in every run (RBC; NCITS 325-1998, ordered execution). A command runs on the unit of a live login of its initiator, whoever injected packets. The
-- command of an ORB of an initiator that injected none runs as its append asks for: with its command, with no data or with the whole data of a WRITE, on the plain disk
-- as it stands then; where a check holds, that is the outcome, and where none does it is good, or the check of a medium call that failed. With what the laws of lists
-- say of its turn, of its one run and of its end this is the execution law.
use Rattle.std.specs.Prelude.{◌≡◌, ◌<◌, ◌≤◌, ℕ, suc, Bool, false, List, ◌∷◌, ◌++◌, length, map, Option, Some, IsSome, IsSomeAnd}
use Rattle.rbc_disk.specs.Disk.{Disk}
use Rattle.rbc_disk.specs.Runs.{Told}
use Rattle.sbp_journal.specs.Run.{Moment, asked, said}
use Rattle.sbp_journal.specs.Wire.{terms}
use Rattle.sbp_journal.specs.declared.event.Event.{Event}
use Rattle.sbp_journal.specs.declared.note.Note.TheVariants.{Ran}
use Rattle.sbp_laws.specs.ExecutionLaw.{ExecutionLaw, RunsOn, login_place}
use Rattle.sbp_laws.specs.Lawful.{injectors}
use Rattle.sbp_laws.specs.Packets.{id_for}
use Rattle.sbp_laws.specs.Targets.{place_on, plain_of, target_at}
use Rattle.sbp_laws.specs.Terms.{request_at}
use Rattle.sbp_laws.specs.Turns.{EachMoment}
use Rattle.sbp_world.specs.Histories.{history_of}
use Rattle.sbp_world.specs.Runs.{Run, after, beginning}
use Rattle.sbp_world.specs.Settling.{MayAll, after_all}
use Rattle.sbp_world.specs.Worlds.{begun}
use Rattle.sbp_world.specs.Agents.Management.Terms.{DeliversMore}
use Rattle.sbp_world.specs.Hosts.Runs.{IsRun}
use Rattle.sbp_world.specs.Lists.Needs.{OpenBefore, OpenBetween}

-- ---- at whose login
-- a command runs on the unit of a live login of its initiator
abbrev pub LoginAt : List Disk → Moment → List Moment → Type 0
LoginAt start (said (Ran i n k unit cdb bytes check)) past = IsSome (login_place start past i unit)
LoginAt start moment past = Unit {0}

abbrev pub LoginsLaw : List Disk → List Moment → Type 0
LoginsLaw start past = EachMoment (LoginAt start) past

-- After every line of every run, whoever injected packets, and behind each delivery of a line that may follow.
pub record LoginsRunLaw : Type 0 where
  pub after_lines : (line : ℕ) (run : Run) → IsRun run → 0 < run.units → run.units ≤ 4 → length run.start.disks ≡ run.units → LoginsLaw run.start.disks (history_of line run)
  pub between : (line : ℕ) (run : Run) → IsRun run → 0 < run.units → run.units ≤ 4 → length run.start.disks ≡ run.units → (next : ℕ) (event : Event) → DeliversMore event → (told : List (Option Told)) → MayAll told (begun (after (beginning run) run.entries)) → (let w = (after_all told (begun (after (beginning run) run.entries))).world in LoginsLaw run.start.disks (map said w.fresh ++ asked next event ∷ history_of line run))

-- ---- with which outcome
-- the command of an ORB runs as its append asks for, on the plain disk as it stands, with the place of its initiator's login
abbrev pub OutcomeAt : (ℕ → Bool) → List Disk → Moment → List Moment → Type 0
OutcomeAt wild start (said (Ran i (Some n) (Some k) unit cdb bytes check)) past =
    wild i ≡ false → IsSomeAnd (request_at past i n k) (λ request. RunsOn request (plain_of start past unit) (place_on (target_at start past) unit (id_for (terms past) 0 (suc i))) cdb bytes check)
OutcomeAt wild start moment past = Unit {0}

abbrev pub OutcomesLaw : (ℕ → Bool) → List Disk → List Moment → Type 0
OutcomesLaw wild start past = EachMoment (OutcomeAt wild start) past

-- After every line of every run, and behind each delivery of a line that may follow, where lists were open as they should be before in this run.
pub record OutcomesRunLaw : Type 0 where
  pub after_lines : (line : ℕ) (run : Run) → IsRun run → 0 < run.units → run.units ≤ 4 → length run.start.disks ≡ run.units → OpenBefore line run run.entries → OutcomesLaw (injectors (history_of line run)) run.start.disks (history_of line run)
  pub between : (line : ℕ) (run : Run) → IsRun run → 0 < run.units → run.units ≤ 4 → length run.start.disks ≡ run.units → (next : ℕ) (event : Event) → DeliversMore event → (told : List (Option Told)) → MayAll told (begun (after (beginning run) run.entries)) → OpenBetween line run next event told → (let w = (after_all told (begun (after (beginning run) run.entries))).world in let now = map said w.fresh ++ asked next event ∷ history_of line run in OutcomesLaw (injectors now) run.start.disks now)

-- ---- the execution law, after every line of every run, and behind each delivery of a line that may follow, where lists were open as they should be before in this run
pub record ExecutionRunLaw : Type 0 where
  pub after_lines : (line : ℕ) (run : Run) → IsRun run → 0 < run.units → run.units ≤ 4 → length run.start.disks ≡ run.units → OpenBefore line run run.entries → ExecutionLaw (injectors (history_of line run)) run.start.disks (history_of line run)
  pub between : (line : ℕ) (run : Run) → IsRun run → 0 < run.units → run.units ≤ 4 → length run.start.disks ≡ run.units → (next : ℕ) (event : Event) → DeliversMore event → (told : List (Option Told)) → MayAll told (begun (after (beginning run) run.entries)) → OpenBetween line run next event told → (let w = (after_all told (begun (after (beginning run) run.entries))).world in let now = map said w.fresh ++ asked next event ∷ history_of line run in ExecutionLaw (injectors now) run.start.disks now)
