use Rattle.sbp_world.proofs.Words.Std.{◌∙◌, ap, rules}
use Rattle.sbp_world.proofs.Words.World.{lowest}
use Rattle.std.specs.Prelude.{◌≡◌, ◌≤◌, refl}
use Rattle.sbp_target.proofs.Faults.{none_fell_kept, none_fell_more}
use Rattle.sbp_world.proofs.Settled.{all_ended, all_more, all_none, all_spent}
use Rattle.sbp_world.proofs.parts.Parts.deliver_up_to.Goals as goal

pub loop-init : goal.loop-init
loop-init g c = record { size = refl; units = refl; fell = none_fell_kept _ _ refl; so_far = all_none _ }

pub loop-preserved : goal.loop-preserved
loop-preserved g c = record {
  size = c.deliver.ensures.size ∙ c.loop.invariant.size;
  units = c.deliver.ensures.units ∙ c.loop.invariant.units;
  fell = none_fell_more _ _ _ c.loop.invariant.fell c.deliver.ensures.fell;
  so_far = all_more _ _ _ _ _ c.loop.invariant.so_far (c.in-Some.ensures ∙ ap lowest c.self.view_is) c.in_ok-deliver.ensures.delivers;
}

pub returns-in_default-clause-delivers : goal.returns-in_default-clause-delivers
returns-in_default-clause-delivers g c =
    let few : c.loop.counter ≤ c.args.most = search rules in
    all_ended _ _ _ _ c.loop.invariant.so_far few (c.in_default.ensures ∙ ap lowest c.self.view_is)

pub returns-clause-delivers : goal.returns-clause-delivers
returns-clause-delivers g c =
    let spent : c.loop.counter ≡ c.args.most = search rules in
    all_spent _ _ _ _ spent c.loop.invariant.so_far

pub returns-in_err-deliver-clause-fell : goal.returns-in_err-deliver-clause-fell
returns-in_err-deliver-clause-fell g c = none_fell_more _ _ _ c.loop.invariant.fell c.deliver.ensures.fell
