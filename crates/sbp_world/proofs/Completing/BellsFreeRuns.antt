-- So it is in every run.
use Rattle.sbp_world.proofs.Words.Std.{◌∷◌, ◌++◌, map}
use Rattle.sbp_world.proofs.Words.Wire.{asked, said}
use Rattle.sbp_world.proofs.Words.World.{after, after_all, beginning, begun, history_of, more_deliveries}
use Rattle.sbp_world.specs.Completing.BellsFree.{BellsFreeLaw}
use Rattle.sbp_world.proofs.Agents.Holders.{holders_between_law, holders_law}
use Rattle.sbp_world.proofs.Completing.BellsFree.{are_free}
use Rattle.sbp_world.proofs.Lists.Courses.{more_than_one}
use Rattle.sbp_world.proofs.Lists.OpenProved.{opens_law}

pub bells_free_law : BellsFreeLaw
bells_free_law = record {
  after_lines = λ line run r has small size.
      are_free run.start.disks (history_of line run) (after (beginning run) run.entries).world (opens_law.after_lines line run r has small size) (holders_law line run r.few has small size r.short r.entries r.lines);
  between = λ line run r has small size next most told m.
      let w = (after_all told (begun (after (beginning run) run.entries))).world in
      are_free run.start.disks (map said w.fresh ++ asked next (more_deliveries most) ∷ history_of line run) w (opens_law.between line run r has small size next (more_deliveries most) (more_than_one most) told m)
      (holders_between_law line run r.few has small size r.short r.entries r.lines next (more_deliveries most) (more_than_one most) told m);
}
