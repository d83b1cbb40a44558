-- An ORB of an initiator that injected no packets ends as aborted only where an abort of it stands before (NCITS 325-1998, task management): `aborted` of the cause law, where no initiator injected any, or few logins were given.
use Rattle.std.specs.Prelude.{◌≡◌, ℕ, Bool, true, false, List, Some}
use Rattle.orb_layout.specs.declared.status.StatusKind.TheVariants as kinds
use Rattle.rbc_disk.specs.Disk.{Disk}
use Rattle.sbp_journal.specs.Run.{Moment, said}
use Rattle.sbp_journal.specs.declared.note.Note.TheVariants as notes
use Rattle.sbp_laws.specs.CauseLaw.{is_marked}
use Rattle.sbp_laws.specs.Lawful.{injectors}
use Rattle.sbp_laws.specs.Turns.{EachMoment}
use Rattle.sbp_world.specs.Lists.FewLogins.{IsTameOrFew}
use Rattle.turn_laws.specs.Runs.{OfEveryRun}

-- an ORB that ends as aborted is marked before, where its initiator is not among the wild ones
abbrev pub AbortedIf : List Disk → (ℕ → Bool) → Moment → List Moment → Type 0
AbortedIf start wild (said (notes.Ended i (Some n) (Some k) kinds.Aborted)) past = wild i ≡ false → is_marked start past i n k ≡ true
AbortedIf start wild moment past = Unit {0}

-- each is, but of those that injected packets
abbrev pub AbortsAsNamed : List Disk → List Moment → Type 0
AbortsAsNamed start past = IsTameOrFew past → EachMoment (AbortedIf start (injectors past)) past

abbrev pub AbortedLaw : Type 0
AbortedLaw = OfEveryRun AbortsAsNamed
