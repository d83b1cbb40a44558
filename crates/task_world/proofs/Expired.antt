-- A request of the task node expires.
use Rattle.std.proofs.Common.{◌≡◌, ◌∙◌, refl, ap, subst, true, false, Result, Ok, Err}
use Rattle.label_table.specs.declared.reply.Stale.{Stale}
use Rattle.sbp_bus.specs.declared.requests.Request.{Request}
use Rattle.sbp_journal.specs.declared.cause.TargetFault.TheVariants as faults
use Rattle.sbp_journal.specs.Outgoings.{OutboxState, empty_outbox}
use Rattle.task_target.specs.Nodes.{Scene, scene}
use Rattle.task_target.specs.Receiving.{expired}
use Rattle.task_target.specs.Targets.{Expires, ExpiresBy, TargetState}
use Rattle.task_world.specs.Packets.{node_left, task_expired}

done_by : (step : Result (Unit {0}) Stale × Scene) (old new : TargetState) (before : Scene) (outbox : OutboxState) → ExpiresBy (Ok tt) step old before new outbox → (true, (outbox, new.node)) ≡ node_left step old.node
done_by (Ok done, s) old new before outbox h = ap (λ (x : Scene). (true, (x.outbox, x.node))) h.0
done_by (Err stale, s) old new before outbox h = absurd h

stale_by : (step : Result (Unit {0}) Stale × Scene) (old new : TargetState) (before : Scene) (outbox : OutboxState) → before.outbox ≡ empty_outbox → ExpiresBy (Err faults.Stale) step old before new outbox → (false, (outbox, new.node)) ≡ node_left step old.node
stale_by (Ok done, s) old new before outbox e h = absurd h
stale_by (Err stale, s) old new before outbox e h =
    ap (λ (x : OutboxState). (false, (x, new.node))) (h.1 ∙ e) ∙ ap (λ (x : TargetState). (false, (empty_outbox, x.node))) h.0

pub target_done : (request : Request) (old new : TargetState) (first outbox : OutboxState) → first ≡ empty_outbox → Expires request.peer request.label (Ok tt) old first new outbox → (true, (outbox, new.node)) ≡ task_expired request old.node
unfolding task_expired
target_done request old new first outbox e h =
    done_by (expired request.peer request.label (scene old.node empty_outbox)) old new (scene old.node empty_outbox) outbox (subst (λ (o : OutboxState). Expires request.peer request.label (Ok tt) old o new outbox) e h)

pub target_stale : (request : Request) (old new : TargetState) (first outbox : OutboxState) → first ≡ empty_outbox → Expires request.peer request.label (Err faults.Stale) old first new outbox → (false, (outbox, new.node)) ≡ task_expired request old.node
unfolding task_expired
target_stale request old new first outbox e h =
    stale_by (expired request.peer request.label (scene old.node empty_outbox)) old new (scene old.node empty_outbox) outbox refl (subst (λ (o : OutboxState). Expires request.peer request.label (Err faults.Stale) old o new outbox) e h)
