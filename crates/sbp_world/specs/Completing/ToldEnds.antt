-- No operation of management that an initiator has under way at rest is one whose status block was taken (NCITS 325-1998, management agent and status block): a block that names its ORB, and that the
-- initiator takes, ends it. So it is in runs in which nobody injected packets, where nothing was lost, no operation of the target failed, and what its operations wait for was answered whole.
use Rattle.std.specs.Prelude.{◌≡◌, ◌<◌, ℕ, true, List, length, Some}
use Rattle.rbc_disk.specs.Disk.{Disk}
use Rattle.sbp_journal.specs.Run.{Moment}
use Rattle.sbp_journal.specs.Wire.{terms}
use Rattle.sbp_laws.specs.Budget.{Lossless}
use Rattle.sbp_laws.specs.Completion.{in_the_air}
use Rattle.sbp_laws.specs.Hosts.{Underway, host_at, is_management}
use Rattle.sbp_world.specs.Completing.EndsBecame.{AllManagedWell}
use Rattle.sbp_world.specs.Completing.EndsTaken.{WasTold}
use Rattle.sbp_world.specs.Completing.Labels.{AlwaysFrom}
use Rattle.sbp_world.specs.Lists.OwnLogins.{IsTame}
use Rattle.sbp_world.specs.Worlds.{WorldState}

-- of one initiator
abbrev pub IsNoneTold : List Disk → List Moment → (i : ℕ) → Type 0
IsNoneTold start past i =
    (underway : Underway) → (host_at past i).operation ≡ Some underway → is_management underway.operation ≡ true → WasTold start past i underway.first underway.place (terms past).bus → ⊥

-- no operation is under way whose status block was taken
abbrev pub ToldEnd : List Disk → List Moment → WorldState → Type 0
ToldEnd start past w = IsTame past → Lossless past → in_the_air past ≡ 0 → AllManagedWell start past → (i : ℕ) → i < length w.initiators → IsNoneTold start past i

abbrev pub ToldEndLaw : Type 0
ToldEndLaw = AlwaysFrom ToldEnd
