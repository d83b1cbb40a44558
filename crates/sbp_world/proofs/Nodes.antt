-- The target as it sees a generation, and as a second passes.
use Rattle.sbp_world.proofs.Words.Std.{◌∙◌, ap}
use Rattle.sbp_world.proofs.Words.Wire.{OutboxState, empty_outbox}
use Rattle.sbp_world.proofs.Words.Target.{NodeState, scene, seen, ticked}
use Rattle.sbp_world.proofs.Words.World.{pair_of, target_sees, target_ticks}
use Rattle.std.specs.Prelude.{◌≡◌, ℕ}

pub target_saw : (generation id : ℕ) (old new : NodeState) (first outbox : OutboxState) → first ≡ empty_outbox → scene new outbox ≡ (seen generation id (scene old first)).1 → (outbox, new) ≡ target_sees generation id old
unfolding target_sees
target_saw generation id old new first outbox e h =
    ap pair_of (h ∙ ap (λ o. (seen generation id (scene old o)).1) e)

pub target_ticked : (old new : NodeState) (first outbox : OutboxState) → first ≡ empty_outbox → scene new outbox ≡ ticked (scene old first) → (outbox, new) ≡ target_ticks old
unfolding target_ticks
target_ticked old new first outbox e h = ap pair_of (h ∙ ap (λ o. ticked (scene old o)) e)
