-- An operation that is left at rest was refused or ignored, or its status block was taken: its write was accepted, and a status block that is taken ends it. So none is left.
use Rattle.sbp_world.proofs.Words.Std.{◌≡◌, refl, List, ◌∷◌, ◌++◌, map, Option, Some, None}
use Rattle.sbp_world.proofs.Words.Wire.{Moment, asked, said}
use Rattle.sbp_world.proofs.Words.Target.{Disk}
use Rattle.sbp_world.proofs.Words.Laws.{Underway, host_at}
use Rattle.sbp_world.proofs.Words.World.{WorldState, after, after_all, beginning, begun, history_of, more_deliveries}
use Rattle.sbp_laws.specs.Budget.{Lossless}
use Rattle.sbp_world.specs.Completing.EndsBecame.{AllManagedWell, AreLeft, IsLeft, ended, ignored, refused}
use Rattle.sbp_world.specs.Completing.EndsJudged.{AreAccepted}
use Rattle.sbp_world.specs.Completing.EndsWell.{AreManagedWell}
use Rattle.sbp_world.specs.Completing.Labels.{LosesNothing}
use Rattle.sbp_world.specs.Completing.Operations.{AreOfManagement, AtRest}
use Rattle.sbp_world.specs.Completing.OperationsEnd.{OperationsEnd, OperationsEndLaw}
use Rattle.sbp_world.specs.Completing.ToldEnds.{ToldEnd}
use Rattle.sbp_world.proofs.Completing.EndsAccepted.{accepted_law}
use Rattle.sbp_world.proofs.Completing.EndsLeft.{left_law}
use Rattle.sbp_world.proofs.Completing.EndsWell.{managed_well_law}
use Rattle.sbp_world.proofs.Completing.LabelsResting.{lossless_law}
use Rattle.sbp_world.proofs.Completing.OperationsRuns.{management_alone_law}
use Rattle.sbp_world.proofs.Completing.ToldEnds.{told_end_law}

-- what is so at a place
record Holds (start : List Disk) (now : List Moment) (w : WorldState) : Type 0 where
  well : AreManagedWell start now w
  left : AreLeft start now w
  accepted : AreAccepted start now w
  told : ToldEnd start now w
  management : AtRest AreOfManagement now w
  loses : Lossless now → LosesNothing now

none_left : (start : List Disk) (now : List Moment) (w : WorldState) → Holds start now w → OperationsEnd start now w
none_left start now w h tame lossless calm few i b = by (host_at now i).operation refl
  where
    well : AllManagedWell start now
    well = h.well tame (h.loses lossless).kept few

    by_left : (u : Underway) → (host_at now i).operation ≡ Some u → IsLeft start now i u → ⊥
    by_left u is (refused x) = (h.accepted tame lossless calm i b u is).idle x
    by_left u is (ignored x) = (h.accepted tame lossless calm i b u is).heard x
    by_left u is (ended x) = h.told tame lossless calm well i b u is (h.management lossless calm i b u is) x

    by : (operation : Option Underway) → (host_at now i).operation ≡ operation → (host_at now i).operation ≡ None
    by None e = e
    by (Some u) e = absurd (by_left u e (h.left tame lossless calm well i b u e))

pub operations_end_law : OperationsEndLaw
operations_end_law given finds = record {
  after_lines = λ line run r has small size.
      none_left run.start.disks (history_of line run) (after (beginning run) run.entries).world
      (record {
        well = (managed_well_law given finds).after_lines line run r has small size;
        left = left_law.after_lines line run r has small size;
        accepted = accepted_law.after_lines line run r has small size;
        told = told_end_law.after_lines line run r has small size;
        management = management_alone_law.after_lines line run r has small size;
        loses = lossless_law.after_lines line run r has small size;
      });
  between = λ line run r has small size next most told m.
      let w = (after_all told (begun (after (beginning run) run.entries))).world in
      none_left run.start.disks (map said w.fresh ++ asked next (more_deliveries most) ∷ history_of line run) w
      (record {
        well = (managed_well_law given finds).between line run r has small size next most told m;
        left = left_law.between line run r has small size next most told m;
        accepted = accepted_law.between line run r has small size next most told m;
        told = told_end_law.between line run r has small size next most told m;
        management = management_alone_law.between line run r has small size next most told m;
        loses = lossless_law.between line run r has small size next most told m;
      });
}
