use Rattle.std.proofs.Common.{◌∙◌}
use Rattle.sbp_bus.proofs.Handed.{sent_more, sent_none}
use Rattle.sbp_bus.proofs.bus.Bus.send_all.Goals as goal

pub loop-packet-preserved : goal.loop-packet-preserved
loop-packet-preserved c = record {
  all = sent_more _ _ _ _ _ _ c.in-Some.ensures.packets c.in_ok-send.ensures.sent ∙ c.loop-packet.invariant.all;
  known = c.send.ensures.known ∙ c.loop-packet.invariant.known;
}

pub returns-clause-step : goal.returns-clause-step
returns-clause-step c = sent_none _ _ _ c.in_default.ensures.packets.0 ∙ c.loop-packet.invariant.all
