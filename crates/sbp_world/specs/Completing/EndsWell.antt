-- The target handles the management well while it is in the latest generation (NCITS 325-1998, management agent): no operation fails, each response that its operation waits for is whole, and that to its status block answers
-- one that was taken as new. So it is where nobody injected packets, nothing was lost since the latest reset, and few requests of lists that were cut are under way.
use Rattle.std.specs.Prelude.{ℕ, List}
use Rattle.bus_transactions.specs.Carried.{AreKept}
use Rattle.rbc_disk.specs.Disk.{Disk}
use Rattle.sbp_journal.specs.Run.{Moment}
use Rattle.sbp_world.specs.Completing.Deaths.{AreFewNow}
use Rattle.sbp_world.specs.Completing.EndsBecame.{AllManagedWell}
use Rattle.sbp_world.specs.Completing.EndsTaken.{AnswersWell}
use Rattle.sbp_world.specs.Completing.Labels.{AlwaysFrom, LosesNothing}
use Rattle.sbp_world.specs.Completing.Managed.{ManagedFindsThere, ManagedGivenThere}
use Rattle.sbp_world.specs.Completing.Sights.{AreFewOfCutLists}
use Rattle.sbp_world.specs.Lists.OwnLogins.{IsTame}
use Rattle.sbp_world.specs.Worlds.{WorldState}

-- what the target gets where nothing was lost, and few such requests are under way to each of so many initiators
abbrev pub IsGotWell : List Disk → (count : ℕ) → List Moment → ℕ → Type 0
IsGotWell start count past serial = LosesNothing past → AreFewNow start count past → AnswersWell start past serial

abbrev pub AreManagedWell : List Disk → List Moment → WorldState → Type 0
AreManagedWell start past w = IsTame past → AreKept past → AreFewOfCutLists start past → AllManagedWell start past

abbrev pub ManagedWellLaw : Type 0
ManagedWellLaw = AlwaysFrom ManagedGivenThere → AlwaysFrom ManagedFindsThere → AlwaysFrom AreManagedWell

-- and both are so
abbrev pub AllManagedWellLaw : Type 0
AllManagedWellLaw = AlwaysFrom AreManagedWell
