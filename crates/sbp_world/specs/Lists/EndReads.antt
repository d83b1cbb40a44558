-- Which ORB ends (NCITS 325-1998, status block and command block ORB), of an initiator that injected no packets, but with the status failed: the target got a response that
-- brought the 32 bytes of the ORB's slot, to the read of it by the agent of a place; their format is 3 exactly where the status is dummy; and where it is not, their command
-- block and direction are those of the append.
use Rattle.std.specs.Prelude.{◌≡◌, ◌<◌, ◌≤◌, ℕ, Bool, false, List, ◌∷◌, ◌++◌, length, map, Option, Some, IsSomeAnd}
use Rattle.orb_layout.specs.declared.command.CommandOrb.{CommandOrb}
use Rattle.orb_layout.specs.declared.status.StatusKind.{StatusKind}
use Rattle.orb_layout.specs.declared.status.StatusKind.TheVariants as kinds
use Rattle.rbc_disk.specs.Disk.{Disk}
use Rattle.rbc_disk.specs.Runs.{Told}
use Rattle.sbp_journal.specs.Run.{Moment, asked, said}
use Rattle.sbp_journal.specs.declared.event.Event.{Event}
use Rattle.sbp_journal.specs.declared.note.Note.TheVariants.{Ended}
use Rattle.sbp_laws.specs.CarriedBytes.{address_of}
use Rattle.sbp_laws.specs.CarriedLaw.{MatchesStatus}
use Rattle.sbp_laws.specs.Lawful.{injectors}
use Rattle.sbp_laws.specs.Terms.{request_at}
use Rattle.sbp_laws.specs.Turns.{EachMoment}
use Rattle.sbp_world.specs.Histories.{history_of}
use Rattle.sbp_world.specs.Runs.{Run, after, beginning}
use Rattle.sbp_world.specs.Settling.{MayAll, after_all}
use Rattle.sbp_world.specs.Worlds.{begun}
use Rattle.sbp_world.specs.Agents.Management.Terms.{DeliversMore}
use Rattle.sbp_world.specs.Hosts.Runs.{IsRun}
use Rattle.sbp_world.specs.Lists.Needs.{OpenBefore, OpenBetween}
use Rattle.sbp_world.specs.Lists.OrbReads.{IsBrought}

pub record EndIsRead (start : List Disk) (past : List Moment) (i n k : ℕ) (status : StatusKind) : Type 0 where
  pub place : ℕ
  pub orb : CommandOrb
  pub brought : IsBrought start past place (address_of past i n k) orb
  pub matches : IsSomeAnd (request_at past i n k) (λ request. MatchesStatus status orb request)

abbrev pub EndAt : (ℕ → Bool) → List Disk → Moment → List Moment → Type 0
EndAt wild start (said (Ended i (Some n) (Some k) kinds.Failed)) past = Unit {0}
EndAt wild start (said (Ended i (Some n) (Some k) status)) past = wild i ≡ false → EndIsRead start past i n k status
EndAt wild start moment past = Unit {0}

abbrev pub EndsAreRead : (ℕ → Bool) → List Disk → List Moment → Type 0
EndsAreRead wild start past = EachMoment (EndAt wild start) past

-- After every line of every run, and behind each delivery of a line that may follow, where lists were open as they should be before in this run.
pub record EndsReadLaw : Type 0 where
  pub after_lines : (line : ℕ) (run : Run) → IsRun run → 0 < run.units → run.units ≤ 4 → length run.start.disks ≡ run.units → OpenBefore line run run.entries → EndsAreRead (injectors (history_of line run)) run.start.disks (history_of line run)
  pub between : (line : ℕ) (run : Run) → IsRun run → 0 < run.units → run.units ≤ 4 → length run.start.disks ≡ run.units → (next : ℕ) (event : Event) → DeliversMore event → (told : List (Option Told)) → MayAll told (begun (after (beginning run) run.entries)) → OpenBetween line run next event told → (let w = (after_all told (begun (after (beginning run) run.entries))).world in let now = map said w.fresh ++ asked next event ∷ history_of line run in EndsAreRead (injectors now) run.start.disks now)
