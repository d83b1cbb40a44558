-- What the operation of the target waits for is answered whole, and what it asks for finds a label: so it goes on, none fails, and none is left at rest.
use Rattle.sbp_world.specs.Completing.Ends.{AllGoOnLaw, NoneFailedLaw}
use Rattle.sbp_world.specs.Completing.EndsWell.{AllManagedWellLaw}
use Rattle.sbp_world.specs.Completing.Labels.{AlwaysFrom}
use Rattle.sbp_world.specs.Completing.Managed.{ManagedFindsThere, ManagedGivenThere}
use Rattle.sbp_world.specs.Completing.OperationsEnd.{NoneLeftLaw}
use Rattle.sbp_world.proofs.Completing.EndsGoing.{go_on_law}
use Rattle.sbp_world.proofs.Completing.EndsRuns.{none_fails_law}
use Rattle.sbp_world.proofs.Completing.EndsWell.{managed_well_law}
use Rattle.sbp_world.proofs.Completing.LoginsGiven.{given_whole_law}
use Rattle.sbp_world.proofs.Completing.ManagedFinding.{managed_finds_law}
use Rattle.sbp_world.proofs.Completing.OperationsEnd.{operations_end_law}

given : AlwaysFrom ManagedGivenThere
given = record {
  after_lines = λ line run r has small size tame loses few. given_whole_law.after_lines line run r has small size tame;
  between = λ line run r has small size next most told m tame loses few. given_whole_law.between line run r has small size next most told m tame;
}

finds : AlwaysFrom ManagedFindsThere
finds = record {
  after_lines = λ line run r has small size tame loses few. managed_finds_law.after_lines line run r has small size tame;
  between = λ line run r has small size next most told m tame loses few. managed_finds_law.between line run r has small size next most told m tame;
}

pub none_failed_law : NoneFailedLaw
none_failed_law = none_fails_law given finds

pub all_go_on_law : AllGoOnLaw
all_go_on_law = go_on_law given finds

pub all_managed_well_law : AllManagedWellLaw
all_managed_well_law = managed_well_law given finds

pub none_left_law : NoneLeftLaw
none_left_law = operations_end_law given finds
