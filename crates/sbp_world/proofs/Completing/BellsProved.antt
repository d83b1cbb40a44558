-- In every run, of each rung ORB a ring sent a write behind its `rung`; and each is linked.
use Rattle.sbp_world.proofs.Words.Std.{◌∙◌, subst, ◌<◌, ◌∷◌, ◌++◌, map}
use Rattle.sbp_world.proofs.Words.Wire.{asked, said}
use Rattle.sbp_world.proofs.Words.World.{after, after_all, beginning, begun, history_of, more_deliveries}
use Rattle.sbp_world.specs.Completing.Bells.{BelledLaw, RungLinkedLaw}
use Rattle.sbp_world.proofs.Completing.BellsRung.{Belled, belled_carried, first_belled}
use Rattle.sbp_world.proofs.Completing.BellsLinked.{Rung, first_rung, rung_carried, rung_linked}
use Rattle.sbp_world.proofs.Hosts.Carried.{between_runs, of_runs}
use Rattle.sbp_world.proofs.Hosts.Carrying.{stood, stood_between}
use Rattle.sbp_world.proofs.Hosts.Runs.{count_after, count_between}
use Rattle.sbp_world.proofs.Lists.UnderwayRuns.{delivering}
use Rattle.sbp_world.proofs.Pointers.Guarding.{ready_known}
use Rattle.sbp_world.proofs.Pointers.Proved.{moments_law}
use Rattle.sbp_world.proofs.Sessions.BlockRuns.{blocks_law}

pub belled_law : BelledLaw
belled_law = record {
  after_lines = λ line run r has small size i b.
      (of_runs (Belled run.ready) (belled_carried run.ready) line run (ready_known line run) (λ j c. first_belled line j run.initiators run.ready c) r i (subst (λ c. i < c) (count_after run run.entries) b)).belled ((blocks_law.after_lines line run r).got i);
  between = λ line run r has small size next most told m i b.
      (between_runs (Belled run.ready) (belled_carried run.ready) line run (ready_known line run) (λ j c. first_belled line j run.initiators run.ready c) r next most told m i
      (subst (λ c. i < c) (count_between told (after (beginning run) run.entries) ∙ count_after run run.entries) b)).belled ((blocks_law.between line run r next most told m).got i);
}

-- each rung ORB is linked
pub rung_linked_law : RungLinkedLaw
rung_linked_law = record {
  after_lines = λ line run r has small size i b.
      let within : i < run.initiators = subst (λ c. i < c) (count_after run run.entries) b in
      rung_linked (history_of line run) i (stood line run r i within).last (moments_law.after_lines line run r i within)
      (of_runs (Rung run.ready) (rung_carried run.ready) line run (ready_known line run) (λ j c. first_rung line j run.initiators run.ready c) r i within).rings;
  between = λ line run r has small size next most told m i b.
      let within : i < run.initiators = subst (λ c. i < c) (count_between told (after (beginning run) run.entries) ∙ count_after run run.entries) b in
      let now = map said (after_all told (begun (after (beginning run) run.entries))).world.fresh ++ asked next (more_deliveries most) ∷ history_of line run in
      rung_linked now i (stood_between line run r next (more_deliveries most) told (delivering told most) m i within).last (moments_law.between line run r next most told m i within)
      (between_runs (Rung run.ready) (rung_carried run.ready) line run (ready_known line run) (λ j c. first_rung line j run.initiators run.ready c) r next most told m i within).rings;
}
