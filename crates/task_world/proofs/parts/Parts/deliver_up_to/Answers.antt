use Rattle.std.proofs.Common.{◌≡◌, ◌≤◌, ◌∙◌, ap, arith}
use Rattle.sbp_world.proofs.Words.Std.{rules}
use Rattle.sbp_world.specs.Settling.{lowest}
use Rattle.task_world.proofs.Settled.{all_ended, all_more, all_none, all_spent}
use Rattle.task_world.proofs.parts.Parts.deliver_up_to.Goals as goal

pub loop-init : goal.loop-init
loop-init g c = record { fell = omega arith; so_far = all_none _ }

pub loop-preserved : goal.loop-preserved
loop-preserved g c = record {
  fell = let before = c.loop.invariant.fell in let now = c.deliver.ensures.fell in omega (arith, before, now);
  so_far = all_more _ _ _ _ _ c.loop.invariant.so_far (c.in-Some.ensures ∙ ap (λ w. lowest w.world) c.self.view_is) c.in_ok-deliver.ensures.delivers;
}

pub returns-in_default-clause-delivers : goal.returns-in_default-clause-delivers
returns-in_default-clause-delivers g c =
    let few : c.loop.counter ≤ c.args.most = search rules in
    all_ended _ _ _ _ c.loop.invariant.so_far few (c.in_default.ensures ∙ ap (λ w. lowest w.world) c.self.view_is)

pub returns-clause-delivers : goal.returns-clause-delivers
returns-clause-delivers g c =
    let spent : c.loop.counter ≡ c.args.most = search rules in
    all_spent _ _ _ _ spent c.loop.invariant.so_far

pub returns-in_err-deliver-clause-fell : goal.returns-in_err-deliver-clause-fell
returns-in_err-deliver-clause-fell g c = let before = c.loop.invariant.fell in let now = c.deliver.ensures.fell in omega (arith, before, now)
