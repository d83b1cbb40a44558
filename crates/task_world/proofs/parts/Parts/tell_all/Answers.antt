use Rattle.std.proofs.Common.{◌∙◌}
use Rattle.sbp_world.proofs.Handed.{told_more, told_none}
use Rattle.task_world.proofs.parts.Parts.tell_all.Goals as goal

pub loop-side-preserved : goal.loop-side-preserved
loop-side-preserved c = record {
  all = told_more _ _ _ _ _ _ c.in-Some.ensures.sides c.in_ok-tell.ensures.step ∙ c.loop-side.invariant.all;
  packets = c.in-Some.ensures.packets ∙ c.loop-side.invariant.packets;
  node = c.tell.ensures.node ∙ c.loop-side.invariant.node;
}

pub returns-clause-told : goal.returns-clause-told
returns-clause-told c = told_none _ _ _ c.in_default.ensures.sides.0 ∙ c.loop-side.invariant.all
