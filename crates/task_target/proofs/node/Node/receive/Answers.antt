use Rattle.std.specs.Prelude.{[]}
use Rattle.std.proofs.Common.{ap, ◌∙◌}
use Rattle.sbp_target.proofs.Again.{again_gives}
use Rattle.sbp_target.proofs.Leaving.{judged_leaves, leaves_from}
use Rattle.task_target.proofs.Received.{if_ok, received_again, received_generation, received_grammar, received_label, received_request, received_response}
use Rattle.task_target.proofs.node.Node.receive.Goals as goal

pub answer-requires-clause-given : goal.answer-requires-clause-given
answer-requires-clause-given g c = again_gives _ _ _ _ _ c.in-Again.ensures.lent c.in-Again.ensures.step []

pub returns-in-Generation-clause-step : goal.returns-in-Generation-clause-step
returns-in-Generation-clause-step g c = received_generation _ _ (record { node = c.args.self.now; outbox = c.args.outbox.now; disk = _ }) c.judge.new.self _ c.judge.ensures.left c.in-Generation.ensures.step

pub returns-in-Grammar-clause-step : goal.returns-in-Grammar-clause-step
returns-in-Grammar-clause-step g c = received_grammar _ _ (record { node = c.args.self.now; outbox = c.args.outbox.now; disk = _ }) c.judge.new.self _ c.judge.ensures.left c.in-Grammar.ensures.step

pub returns-in-Label-clause-step : goal.returns-in-Label-clause-step
returns-in-Label-clause-step g c = received_label _ _ (record { node = c.args.self.now; outbox = c.args.outbox.now; disk = _ }) c.judge.new.self _ c.judge.ensures.left c.in-Label.ensures.step

pub returns-in_ok-conclude-in-Response-clause-step :
    goal.returns-in_ok-conclude-in-Response-clause-step
returns-in_ok-conclude-in-Response-clause-step g c =
    received_response _ _ (record { node = c.args.self.now; outbox = c.args.outbox.now; disk = _ }) c.judge.new.self _ _ _ _ _ _ c.judge.ensures.left c.in-Response.ensures.step c.in_ok-conclude-in-Response.ensures.step

pub returns-in_ok-answer-in-Again-clause-step : goal.returns-in_ok-answer-in-Again-clause-step
returns-in_ok-answer-in-Again-clause-step g c =
    received_again _ _ (record { node = c.args.self.now; outbox = c.args.outbox.now; disk = _ }) c.judge.new.self _ _ _ _ c.judge.ensures.left c.in-Again.ensures.step c.in_ok-answer-in-Again.ensures.step

pub returns-in-Request-clause-step : goal.returns-in-Request-clause-step
returns-in-Request-clause-step g c =
    if_ok _ _ c.request.result (λ j r. received_request _ _ (record { node = c.args.self.now; outbox = c.args.outbox.now; disk = _ }) (record { node = c.request.new.self; outbox = c.request.new.outbox; disk = _ }) c.judge.new.self _ j _ _ c.judge.ensures.left c.in-Request.ensures.step c.request.ensures.disk c.request.ensures.faults r) c.request.ensures.step

pub returns-in-Generation-clause-ignored : goal.returns-in-Generation-clause-ignored
returns-in-Generation-clause-ignored g c = ap (λ l. l.calls) (judged_leaves _ _ _ _ _ c.in-Generation.ensures.step)

pub returns-in-Grammar-clause-ignored : goal.returns-in-Grammar-clause-ignored
returns-in-Grammar-clause-ignored g c = ap (λ l. l.calls) (judged_leaves _ _ _ _ _ c.in-Grammar.ensures.step)

pub returns-in-Label-clause-ignored : goal.returns-in-Label-clause-ignored
returns-in-Label-clause-ignored g c = ap (λ l. l.calls) (judged_leaves _ _ _ _ _ c.in-Label.ensures.step)

pub returns-in_ok-answer-in-Again-clause-ignored :
    goal.returns-in_ok-answer-in-Again-clause-ignored
returns-in_ok-answer-in-Again-clause-ignored g c =
    c.answer.ensures.count ∙ ap (λ l. l.calls) (judged_leaves _ _ _ _ _ c.in-Again.ensures.step)

pub returns-in-Request-clause-ignored : goal.returns-in-Request-clause-ignored
returns-in-Request-clause-ignored g c =
    if_ok _ _ c.request.result (λ j r. leaves_from j _ _ _ (ap (λ l. l.calls) (judged_leaves _ _ _ _ _ c.in-Request.ensures.step)) r) c.request.ensures.ignored
