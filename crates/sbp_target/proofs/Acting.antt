-- What small functions do, by plain facts, so that their goals take no search.
use Rattle.std.specs.Prelude.{◌≡◌, ℕ, true, List, None, slice_set}
use Rattle.std.proofs.Common.{ap, ◌∙◌}
use Rattle.label_table.specs.Layer.{Layer, seeing_step}
use Rattle.rbc_disk.specs.Units.{UnitState, cleared}
use Rattle.sbp_journal.specs.declared.cause.CutCause.TheVariants as cuts
use Rattle.sbp_journal.specs.declared.side.Side.TheVariants as sides
use Rattle.sbp_journal.specs.Outgoings.{OutboxState}
use Rattle.sbp_target.specs.declared.purpose.Purpose.{Purpose}
use Rattle.sbp_target.specs.Sending.{with_side}
use Rattle.sbp_target.specs.Nodes.{NodeState, Scene, scene, unit_at}
use Rattle.target_base.specs.Places.{mask_of}
use Rattle.sbp_target.specs.Units.{cut_all, clear_unit}
use Rattle.sbp_target.specs.Management.{cut_place, left_desk, logged_out}
use Rattle.sbp_target.specs.Receiving.{cleared_node, held_all, reset_by, seen}

-- a later generation is a reset
pub seen_later : (generation id : ℕ) (old mid new : Scene) (layer : Layer Purpose) → (true, layer) ≡ seeing_step old.node.layer generation id → mid ≡ cut_all cuts.Reset None (scene (cleared_node layer old.node) old.outbox) → new ≡ held_all mid → (true, new) ≡ seen generation id old
unfolding seen
seen_later generation id old mid new layer e m n = ap (λ s. (true, s)) (n ∙ ap held_all m) ∙ ap (λ x. reset_by x old) e

pub logged_so : (place login : ℕ) (old mid : Scene) (node : NodeState) (outbox : OutboxState) → mid ≡ cut_place place cuts.Logout old → node ≡ left_desk place mid.node → outbox ≡ with_side mid.outbox (sides.Left login) → scene node outbox ≡ logged_out place login (cut_place place cuts.Logout old)
logged_so place login old mid node outbox m n o =
    ap (λ x. scene x outbox) n ∙ (ap (λ x. scene (left_desk place mid.node) x) o ∙ ap (logged_out place login) m)

pub clear_so : (unit logins : ℕ) (old : Scene) (units : List UnitState) (outbox : OutboxState) → logins ≡ mask_of unit None old.node.logins.places → units ≡ slice_set old.node.units unit (cleared (unit_at old.node unit) logins) → outbox ≡ with_side old.outbox (sides.Cleared unit) → scene (record old.node { units = units }) outbox ≡ clear_unit unit old
unfolding clear_unit
clear_so unit logins old units outbox m u o = cc
