use Rattle.sbp_target.proofs.Faults.{none_fell_ran}
use Rattle.sbp_target.proofs.Replying.{advanced_by, advanced_so, on_ok, replied_so}
use Rattle.sbp_target.proofs.node.Node.advance.Goals as goal

pub returns-clause-step : goal.returns-clause-step
returns-clause-step g c =
    let made = c.reply_agent-step.ensures in
    let replies = replied_so _ _ _ _ _ _ _ _ _ _ made.step made.agent made.may made.bytes made.counts in
    on_ok _ _ c.follow_all.result (λ e. advanced_so _ _ _ _ _ _ _ _ _ _ _ replies (advanced_by c.args.place c.args.login.now c.reply_agent-step.result (record { node = c.reply_agent-step.new.self; disks = _ }) (record { node = c.args.self.now; outbox = c.args.outbox.now; disks = _ }) _ _ _ _ c.came-loaded.ensures c.is_present_at-was_present.ensures c.is_present_at.ensures e)) c.follow_all.ensures.step

pub returns-clause-fell : goal.returns-clause-fell
returns-clause-fell g c = none_fell_ran _ _ c.args.login.now.unit c.reply_agent-step.result.ran c.reply_agent-step.ensures.counts
