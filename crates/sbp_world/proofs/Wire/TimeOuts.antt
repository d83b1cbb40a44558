-- The line of a time-out at the target: the request that is found times out there, or the line is refused.
use Rattle.sbp_world.proofs.Words.Wire.{Stale, Layer, expiring_step, Moment, empty_outbox, Request, no_packet, find}
use Rattle.sbp_world.proofs.Words.Target.{NodeState, expired, expired_in, Purpose}
use Rattle.sbp_world.proofs.Words.World.{target_expired, target_left, timed_out, WorldState, with_target, Stands}
use Rattle.std.specs.Prelude.{◌≡◌, ℕ, List, Option, Some, Result, Ok, Err, refl}
use Rattle.sbp_target.specs.Nodes as target
use Rattle.sbp_world.specs.Packets.{at_target}
use Rattle.sbp_world.proofs.Wire.Found.{IsKnown}
use Rattle.sbp_world.proofs.Wire.Nodes.{Lands}
use Rattle.sbp_world.proofs.Wire.Lapses.{Lapses, refused_lands, zero_lapses}

-- ---- at the target
module _ {past : List Moment} (w : WorldState) (h : Stands past w) (line serial : ℕ) (request : Request) (found : find w.requests serial ≡ Some request) (zero_is : request.node ≡ 0) (known : ℕ → Type 0) (all : (id : ℕ) → known id → IsKnown w 0 id) where
  abbrev before : target.Scene
  before = target.scene w.target empty_outbox

  abbrev left_by : Result (Option Purpose) Stale × Layer Purpose → Result (Unit {0}) Stale × target.Scene
  left_by f = expired_in f request.peer request.label before

  abbrev target_line : Result (Option Purpose) Stale × Layer Purpose → WorldState
  target_line f = timed_out line serial request.node (at_target (target_left (left_by f) w.target) w)

  -- the state that it leaves
  abbrev pub target_after : Result (Option Purpose) Stale × Layer Purpose → NodeState
  target_after (Ok purpose, new) = (left_by (Ok purpose, new)).1.node
  target_after (Err stale, new) = w.target

  target_found : (f : Result (Option Purpose) Stale × Layer Purpose) → expiring_step w.target.layer request.peer request.label ≡ f → Lapses known f (left_by f).1.node.layer (left_by f).1.outbox → Lands past (with_target (target_after f) w) (target_line f)
  target_found (Err stale, new) e d = refused_lands w line no_packet h
  target_found (Ok purpose, new) e d =
      let after = (left_by (Ok purpose, new)).1 in
      zero_lapses w h line serial request found zero_is w.target.layer refl known all purpose new after.node.layer after.outbox after.node refl e d

  pub target_lapses : Lapses known (expiring_step w.target.layer request.peer request.label) (expired request.peer request.label before).1.node.layer (expired request.peer request.label before).1.outbox → Lands past (with_target (target_after (expiring_step w.target.layer request.peer request.label)) w) (timed_out line serial request.node (at_target (target_expired request w.target) w))
  unfolding expired target_expired
  target_lapses d = target_found (expiring_step w.target.layer request.peer request.label) refl d

  -- what holds of it before, and of what a time-out leaves, holds of it after the line
  kept_by : (Good : NodeState → Type 0) (f : Result (Option Purpose) Stale × Layer Purpose) → Good w.target → Good (left_by f).1.node → Good (target_after f)
  kept_by Good (Ok purpose, new) old g = g
  kept_by Good (Err stale, new) old g = old

  pub target_kept : (Good : NodeState → Type 0) → Good w.target → Good (expired request.peer request.label before).1.node → Good (target_after (expiring_step w.target.layer request.peer request.label))
  unfolding expired
  target_kept Good old g = kept_by Good (expiring_step w.target.layer request.peer request.label) old g
