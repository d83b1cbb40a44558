-- A transaction times out in a task world: at its node, or at an initiator.
use Rattle.sbp_world.proofs.Words.Std.{if◌then◌else◌, ◌≡◌, refl, sym, subst, ℕ, zero, suc, Bool, true, false, List, Option, Some, None, Result, Ok, Err}
use Rattle.sbp_world.proofs.Words.Wire.{Stale, Layer, expiring_step, Moment, OutboxState, empty_outbox, Request, no_packet, find}
use Rattle.sbp_world.proofs.Words.Target.{NodeState}
use Rattle.sbp_world.proofs.Words.World.{initiator_expires, refused, OwnFittingLaw, WorldState}
use Rattle.sbp_world.proofs.Wire.Comes.{to_suc, to_zero}
use Rattle.sbp_world.proofs.Wire.Holding.{KnownTo, OwnGoes, known_small, target_has}
use Rattle.sbp_world.proofs.Wire.Lapses.{Lapses, zero_lapses}
use Rattle.sbp_world.proofs.Wire.OwnHears.{of_known, own_refuses, own_times_out}
use Rattle.sbp_world.specs.Packets as worlds
use Rattle.task_target.specs.declared.purpose.TaskPurpose.{TaskPurpose}
use Rattle.task_target.specs.Nodes.{Scene, scene}
use Rattle.task_target.specs.Receiving.{expired, expired_in}
use Rattle.task_world.specs.Fitting.{FittingLaw, Holds}
use Rattle.task_world.specs.Packets.{at_node, at_other, expires, node_left, task_expired, timed_out, timeout_line, timeout_of}
use Rattle.task_world.specs.Seats.{seat}
use Rattle.task_world.specs.Worlds.{TaskWorldState}
use Rattle.task_world.proofs.Wire.Holding.{TaskSound, lands_node, own_node, same_layer}
use Rattle.task_world.proofs.Wire.Seats.{retag_bare}

abbrev pub SoundWorld : List Moment → ℕ → TaskWorldState → Type 0
SoundWorld past lines w = TaskSound past lines w.world w.node

module _ (nodes : FittingLaw) (initiators : OwnFittingLaw) where
  module _ {past : List Moment} {lines : ℕ} (w : TaskWorldState) (sound : SoundWorld past lines w) (line serial : ℕ) (request : Request) (found : find w.world.requests serial ≡ Some request) where
    abbrev left_by : Result (Option TaskPurpose) Stale × Layer TaskPurpose → Result (Unit {0}) Stale × Scene
    left_by f = expired_in f request.peer request.label (scene w.node empty_outbox)

    lapses_found : (zero_is : request.node ≡ 0) (f : Result (Option TaskPurpose) Stale × Layer TaskPurpose) → expiring_step w.node.layer request.peer request.label ≡ f → Lapses (KnownTo w.world.generations.seen) f (left_by f).1.node.layer (left_by f).1.outbox → Holds (KnownTo w.world.generations.seen) (left_by f).1.node → SoundWorld past lines (timed_out line serial request.node (at_node (node_left (left_by f) w.node) w))
    lapses_found zero_is (Err stale, new) e d h =
        subst (λ (t : NodeState). TaskSound past lines (refused line no_packet (record w.world { target = t })) w.node) sound.target_is
        (own_node w.world _ w.node sound (own_refuses w.world line no_packet sound.own))
    lapses_found zero_is (Ok purpose, new) e d h =
        let after = (left_by (Ok purpose, new)).1 in
        lands_node w.world _ w.node after.node sound
        (zero_lapses w.world sound.own.stands line serial request found zero_is w.node.layer (same_layer w.world w.node sound) (KnownTo w.world.generations.seen) (of_known w.world sound.own.stands) purpose new after.node.layer after.outbox (seat after.node) (retag_bare after.node.layer) e d)
        h

    lapses_node : request.node ≡ 0 → SoundWorld past lines (timed_out line serial request.node (at_node (task_expired request w.node) w))
    unfolding task_expired expired
    lapses_node zero_is =
        let d = (nodes (target_has w.world.generations.seen)).expiries request.peer request.label w.node (known_small w.world.generations.seen) sound.holds in
        lapses_found zero_is (expiring_step w.node.layer request.peer request.label) refl (record { expires = d.expires; plain = d.plain; small = d.small }) d.holds

    lapses_other : (r : Bool × (OutboxState × WorldState)) → OwnGoes past lines w.world (worlds.timed_out line serial request.node r) → SoundWorld past lines (timed_out line serial request.node (at_other r w))
    lapses_other (true, (outbox, v)) g = own_node w.world _ w.node sound g
    lapses_other (false, (outbox, v)) g = own_node w.world _ w.node sound g

    lapses_at : (node : ℕ) → request.node ≡ node → SoundWorld past lines (timed_out line serial request.node (expires request w))
    unfolding expires
    lapses_at zero e =
        subst (λ b. SoundWorld past lines (timed_out line serial request.node (if b then at_node (task_expired request w.node) w else at_other (initiator_expires request w.world) w))) (sym (to_zero request.node e)) (lapses_node e)
    lapses_at (suc i) e =
        subst (λ b. SoundWorld past lines (timed_out line serial request.node (if b then at_node (task_expired request w.node) w else at_other (initiator_expires request w.world) w))) (sym (to_suc request.node i e))
        (lapses_other (initiator_expires request w.world) (own_times_out initiators w.world sound.own line serial request found i e))

  lapses_by : {past : List Moment} {lines : ℕ} (w : TaskWorldState) (sound : SoundWorld past lines w) (line serial : ℕ) (o : Option Request) → find w.world.requests serial ≡ o → SoundWorld past lines (timeout_of o line serial w)
  lapses_by w sound line serial None e = own_node w.world _ w.node sound (own_refuses w.world line no_packet sound.own)
  lapses_by w sound line serial (Some request) e = lapses_at w sound line serial request e request.node refl

  pub times_out : {past : List Moment} {lines : ℕ} (w : TaskWorldState) → SoundWorld past lines w → (line serial : ℕ) → SoundWorld past lines (timeout_line line serial w)
  unfolding timeout_line
  times_out w sound line serial = lapses_by w sound line serial (find w.world.requests serial) refl
