-- A request of the target expires.
use Rattle.sbp_world.proofs.Words.Std.{◌∙◌, ap, subst}
use Rattle.sbp_world.proofs.Words.Wire.{Stale, OutboxState, empty_outbox, Request}
use Rattle.sbp_world.proofs.Words.Target.{Scene, scene, expired, Expires, ExpiresBy, TargetState}
use Rattle.sbp_world.proofs.Words.World.{target_expired, target_left}
use Rattle.std.specs.Prelude.{◌≡◌, true, false, Result, Ok, Err, refl}
use Rattle.sbp_journal.specs.declared.cause.TargetFault.TheVariants as faults

done_by : (step : Result (Unit {0}) Stale × Scene) (old new : TargetState) (before : Scene) (outbox : OutboxState) → ExpiresBy (Ok tt) step old before new outbox → (true, (outbox, new.node)) ≡ target_left step old.node
done_by (Ok done, s) old new before outbox h = ap (λ (x : Scene). (true, (x.outbox, x.node))) h.0
done_by (Err stale, s) old new before outbox h = absurd h

stale_by : (step : Result (Unit {0}) Stale × Scene) (old new : TargetState) (before : Scene) (outbox : OutboxState) → before.outbox ≡ empty_outbox → ExpiresBy (Err faults.Stale) step old before new outbox → (false, (outbox, new.node)) ≡ target_left step old.node
stale_by (Ok done, s) old new before outbox e h = absurd h
stale_by (Err stale, s) old new before outbox e h =
    ap (λ (x : OutboxState). (false, (x, new.node))) (h.1 ∙ e) ∙ ap (λ (x : TargetState). (false, (empty_outbox, x.node))) h.0

pub target_done : (request : Request) (old new : TargetState) (first outbox : OutboxState) → first ≡ empty_outbox → Expires request.peer request.label (Ok tt) old first new outbox → (true, (outbox, new.node)) ≡ target_expired request old.node
unfolding target_expired
target_done request old new first outbox e h =
    done_by (expired request.peer request.label (scene old.node empty_outbox)) old new (scene old.node empty_outbox) outbox (subst (λ o. Expires request.peer request.label (Ok tt) old o new outbox) e h)

pub target_stale : (request : Request) (old new : TargetState) (first outbox : OutboxState) → first ≡ empty_outbox → Expires request.peer request.label (Err faults.Stale) old first new outbox → (false, (outbox, new.node)) ≡ target_expired request old.node
unfolding target_expired
target_stale request old new first outbox e h =
    stale_by (expired request.peer request.label (scene old.node empty_outbox)) old new (scene old.node empty_outbox) outbox refl (subst (λ o. Expires request.peer request.label (Err faults.Stale) old o new outbox) e h)
