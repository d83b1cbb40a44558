-- What becomes of an operation of management that an initiator has under way, once its write of MANAGEMENT_AGENT was taken (NCITS 325-1998, management agent): the target handles its ORB; or it had an
-- operation under way, and refused the write; or it ignored the write; or the status block of the ORB was taken. So it is in runs in which nobody injected packets, where nothing was lost since the
-- latest reset, the initiator is in its generation, no operation failed in that, and what the operations of the target wait for is answered whole.
use Rattle.std.specs.Prelude.{◌≡◌, ◌<◌, ℕ, suc, true, List, length, Some}
use Rattle.bus_transactions.specs.Carried.{AreKept}
use Rattle.rbc_disk.specs.Disk.{Disk}
use Rattle.sbp_journal.specs.Run.{Moment, said}
use Rattle.sbp_journal.specs.Wire.{terms}
use Rattle.sbp_journal.specs.declared.note.Note.TheVariants as notes
use Rattle.sbp_laws.specs.Budget.{Lossless}
use Rattle.sbp_laws.specs.Completion.{in_the_air}
use Rattle.sbp_laws.specs.Hosts.{Underway, host_at, is_management}
use Rattle.sbp_laws.specs.Turns.{EachMoment}
use Rattle.sbp_world.specs.Completing.EndsTaken.{AnswersWell, Became, WasBusy, WasIgnored, WasTold}
use Rattle.sbp_world.specs.Completing.Labels.{AlwaysFrom}
use Rattle.sbp_world.specs.Lists.OwnLogins.{IsTame}
use Rattle.sbp_world.specs.Worlds.{WorldState}

-- While the target is in this generation no operation fails, and each response that its operation waits for is whole.
abbrev pub ManagesWell : List Disk → (latest : ℕ) → Moment → List Moment → Type 0
ManagesWell start latest (said (notes.ManageFailed i cause)) past = (terms past).generation 0 ≡ latest → ⊥
ManagesWell start latest (said (notes.Got serial)) past = (terms past).generation 0 ≡ latest → AnswersWell start past serial
ManagesWell start latest moment past = Unit {0}

abbrev pub AllManagedWell : List Disk → List Moment → Type 0
AllManagedWell start past = EachMoment (ManagesWell start (terms past).bus) past

-- an operation under way whose write was taken, in the latest generation
pub record IsTakenUp (past : List Moment) (i : ℕ) (underway : Underway) : Type 0 where
  pub is : (host_at past i).operation ≡ Some underway
  pub manages : is_management underway.operation ≡ true
  pub latest : (terms past).generation (suc i) ≡ (terms past).bus
  pub taken : 0 < (terms past).news underway.first

abbrev pub HaveBecome : List Disk → List Moment → WorldState → Type 0
HaveBecome start past w =
    IsTame past → AreKept past → AllManagedWell start past → (i : ℕ) → i < length w.initiators → (underway : Underway) → IsTakenUp past i underway → Became start past i underway.first underway.place (terms past).bus

abbrev pub BecameLaw : Type 0
BecameLaw = AlwaysFrom HaveBecome

-- ---- at rest
-- What is left then of an operation under way: its write found another operation under way, or was ignored; or its status block was taken.
pub data IsLeft (start : List Disk) (past : List Moment) (i : ℕ) (underway : Underway) : Type 0 where
  refused : WasBusy start past underway.first → IsLeft start past i underway
  ignored : WasIgnored past underway.first → IsLeft start past i underway
  ended : WasTold start past i underway.first underway.place (terms past).bus → IsLeft start past i underway

abbrev pub AreLeft : List Disk → List Moment → WorldState → Type 0
AreLeft start past w =
    IsTame past → Lossless past → in_the_air past ≡ 0 → AllManagedWell start past → (i : ℕ) → i < length w.initiators → (underway : Underway) → (host_at past i).operation ≡ Some underway → IsLeft start past i underway

abbrev pub LeftLaw : Type 0
LeftLaw = AlwaysFrom AreLeft
