use Rattle.sbp_world.proofs.Words.Std.{◌∙◌}
use Rattle.sbp_world.proofs.Handed.{told_more, told_none}
use Rattle.sbp_world.proofs.parts.Parts.tell_all.Goals as goal

pub loop-side-preserved : goal.loop-side-preserved
loop-side-preserved c = record {
  all = told_more _ _ _ _ _ _ c.in-Some.ensures.sides c.in_ok-tell.ensures.step ∙ c.loop-side.invariant.all;
  packets = c.in-Some.ensures.packets ∙ c.loop-side.invariant.packets;
  bus = c.tell.ensures.bus ∙ c.loop-side.invariant.bus;
  target = c.tell.ensures.target ∙ c.loop-side.invariant.target;
}

pub returns-clause-told : goal.returns-clause-told
returns-clause-told c = told_none _ _ _ c.in_default.ensures.sides.0 ∙ c.loop-side.invariant.all
