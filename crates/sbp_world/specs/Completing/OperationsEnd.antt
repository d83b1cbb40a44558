-- No operation of the management is under way at rest (NCITS 325-1998, management agent), where nobody injected packets and few requests of lists that were cut were under way since the target first saw the latest reset: where
-- what the operations of the target wait for is whole, and what they ask for finds a label.
use Rattle.std.specs.Prelude.{◌≡◌, ◌<◌, ℕ, List, length, None}
use Rattle.rbc_disk.specs.Disk.{Disk}
use Rattle.sbp_journal.specs.Run.{Moment}
use Rattle.sbp_laws.specs.Budget.{Lossless}
use Rattle.sbp_laws.specs.Completion.{in_the_air}
use Rattle.sbp_laws.specs.Hosts.{host_at}
use Rattle.sbp_world.specs.Completing.Labels.{AlwaysFrom}
use Rattle.sbp_world.specs.Completing.Managed.{ManagedFindsThere, ManagedGivenThere}
use Rattle.sbp_world.specs.Completing.Sights.{AreFewOfCutLists}
use Rattle.sbp_world.specs.Lists.OwnLogins.{IsTame}
use Rattle.sbp_world.specs.Worlds.{WorldState}

abbrev pub OperationsEnd : List Disk → List Moment → WorldState → Type 0
OperationsEnd start past w = IsTame past → Lossless past → in_the_air past ≡ 0 → AreFewOfCutLists start past → (i : ℕ) → i < length w.initiators → (host_at past i).operation ≡ None

abbrev pub OperationsEndLaw : Type 0
OperationsEndLaw = AlwaysFrom ManagedGivenThere → AlwaysFrom ManagedFindsThere → AlwaysFrom OperationsEnd

-- and both are so
abbrev pub NoneLeftLaw : Type 0
NoneLeftLaw = AlwaysFrom OperationsEnd
