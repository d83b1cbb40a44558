-- Whose abort it is (NCITS 325-1998, task management): an abort with 00 is of the initiator of each login that its management ORB names, as the target got that ORB.
use Rattle.std.specs.Prelude.{◌≡◌, ◌==◌, ℕ, true, List, IsSomeAnd, Option}
use Rattle.rbc_disk.specs.Disk.{Disk}
use Rattle.sbp_journal.specs.Run.{Moment, said}
use Rattle.sbp_journal.specs.Wire.{Terms, terms}
use Rattle.sbp_journal.specs.declared.note.Note.TheVariants as notes
use Rattle.sbp_journal.specs.declared.operation.FunctionWord.TheVariants as functions
use Rattle.sbp_laws.specs.Targets.{Decided, Target, has_id, initiator_at, login_at, target_at}
use Rattle.sbp_laws.specs.Turns.{EachMoment}
use Rattle.turn_laws.specs.Runs.{OfEveryRun}

-- the login in each place that the management ORB names is of this initiator
abbrev pub IsOfOwner : Target → Terms → (i : ℕ) → Option Decided → Type 0
IsOfOwner target wire i decided = IsSomeAnd decided (λ d. (place : ℕ) → has_id d.orb.subject (login_at target place) ≡ true → initiator_at target wire place ≡ i)

-- an `mgmt I abort` with 00 is of its initiator
abbrev pub IsOwnAbort : List Disk → Moment → List Moment → Type 0
IsOwnAbort start (said (notes.Managed i functions.Abort subject status login)) past = (status == 0) ≡ true → IsOfOwner (target_at start past) (terms past) i (target_at start past).decided
IsOwnAbort start moment past = Unit {0}

abbrev pub AbortOwnersLaw : Type 0
AbortOwnersLaw = OfEveryRun (λ start past. EachMoment (IsOwnAbort start) past)
