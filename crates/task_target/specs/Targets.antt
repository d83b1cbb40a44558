-- A target of the unordered unit, and what its calls promise.
use Rattle.std.specs.Prelude.{◌≡◌, ℕ, ◌+◌, ◌*◌, ◌≤◌, Result, Ok, Err}
use Rattle.async_packet.specs.Labels.{LabelParts}
use Rattle.label_table.specs.declared.reply.Stale.{Stale}
use Rattle.sbp_journal.specs.declared.cause.TargetFault.{TargetFault}
use Rattle.sbp_journal.specs.declared.cause.TargetFault.TheVariants as faults
use Rattle.sbp_journal.specs.Outgoings.{OutboxState}
use Rattle.task_target.specs.Nodes.{TaskNode, Scene, scene, new_node}
use Rattle.task_target.specs.Receiving.{expired}

-- the number of the calls that changed it, and all that it holds
pub record TargetState : Type 0 where
  pub calls : ℕ
  pub node : TaskNode

abbrev pub new_target : TargetState
new_target = record { calls = 0; node = new_node }

-- no call makes more than 16 of the transaction layer
pub record IsCounted (target : TargetState) : Type 0 where
  pub few : target.node.layer.calls ≤ 16 * target.calls

-- How a time-out ends: it is stale exactly where the transaction is not under way, and else brings what it was for. Memory is wanting only where it
-- is under way, and nothing is said of what the target holds then.
abbrev pub ExpiresBy : Result (Unit {0}) TargetFault → Result (Unit {0}) Stale × Scene → TargetState → Scene → TargetState → OutboxState → Type 0
ExpiresBy (Err faults.NoMemory) step old before new outbox = step.0 ≡ Ok tt
ExpiresBy (Ok ok) (Ok done, s) old before new outbox = (scene new.node outbox ≡ s) × (new.calls ≡ old.calls + 1)
ExpiresBy (Ok ok) (Err stale, s) old before new outbox = ⊥
ExpiresBy (Err faults.Stale) (Ok done, s) old before new outbox = ⊥
ExpiresBy (Err faults.Stale) (Err stale, s) old before new outbox = (new ≡ old) × (outbox ≡ before.outbox)

abbrev pub Expires : ℕ → LabelParts → Result (Unit {0}) TargetFault → TargetState → OutboxState → TargetState → OutboxState → Type 0
Expires peer label result old before new outbox =
    ExpiresBy result (expired peer label (scene old.node before)) old (scene old.node before) new outbox
