-- How long the answer of a good status is that an initiator takes which injected no packets, in every run in which none did, or few logins were given (RBC; NCITS 325-1998, status block): the ORB ran, and the answer has as many
-- bytes as the answer to its request, on the medium as that was before the ORB ran; where the data of the ORB do not go to its initiator, it has none, and
-- so does the answer that the medium tells. It is the part of the answer law that is of the length.
use Rattle.std.specs.Prelude.{◌≡◌, ◌≤◌, ◌<◌, ℕ, false, List, [], length, Some, IfSome}
use Rattle.orb_layout.specs.declared.status.StatusKind.TheVariants as kinds
use Rattle.rbc_disk.specs.Disk.{Disk}
use Rattle.rbc_disk.specs.Runs.{answer_length_of, answer_of}
use Rattle.sbp_journal.specs.Run.{Moment, said}
use Rattle.sbp_journal.specs.declared.event.Cmd.{Cmd}
use Rattle.sbp_journal.specs.declared.note.Note.TheVariants as notes
use Rattle.sbp_laws.specs.AnswerLaw.{before_run}
use Rattle.sbp_laws.specs.Lists.{command_at}
use Rattle.sbp_laws.specs.Terms.{request_at}
use Rattle.sbp_laws.specs.Turns.{EachMoment}
use Rattle.sbp_world.specs.Histories.{history_of}
use Rattle.sbp_world.specs.Runs.{Run}
use Rattle.sbp_world.specs.Hosts.Orbs.{request_of}
use Rattle.sbp_world.specs.Hosts.Runs.{IsRun}
use Rattle.sbp_world.specs.Lists.FewLogins.{IsTameOrFew}
use Rattle.sbp_world.specs.Lists.Needs.{IsCalm}

pub record HasLength (start : List Disk) (past : List Moment) (i n k : ℕ) (answer : List ℕ) : Type 0 where
  pub cmd : Cmd
  pub command : command_at past i n k ≡ Some cmd
  pub request : request_at past i n k ≡ Some (request_of cmd)
  pub disk : Disk
  pub ran : before_run start past i n k ≡ Some disk
  pub len : length answer ≡ answer_length_of disk.is_bay cmd.cdb
  pub outward : cmd.to_initiator ≡ false → (answer ≡ []) × IfSome (answer_of cmd.cdb disk) (λ bytes. answer ≡ bytes)

-- each one that an initiator takes
abbrev pub LengthOf : List Disk → ℕ → Moment → List Moment → Type 0
LengthOf start i (said (notes.Taken j n k kinds.Good answer)) past = j ≡ i → HasLength start past i n k answer
LengthOf start i moment past = Unit {0}

pub record AnswerLengthsLaw : Type 0 where
  pub lengths : (line : ℕ) (run : Run) → IsRun run → 0 < run.units → run.units ≤ 4 → length run.start.disks ≡ run.units → IsTameOrFew (history_of line run) → (i : ℕ) → i < run.initiators → IsCalm (history_of line run) i → EachMoment (LengthOf run.start.disks i) (history_of line run)
