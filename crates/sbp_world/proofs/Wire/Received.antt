-- A packet is delivered to the target: what it does with it is a list of moves of the wire.
use Rattle.sbp_world.proofs.Words.Std.{if◌then◌else◌, ◌∙◌, ap}
use Rattle.sbp_world.proofs.Words.Wire.{judging_step, Sent, Moment, Judged}
use Rattle.sbp_world.proofs.Words.Target.{Told, received, Whole}
use Rattle.sbp_world.proofs.Words.World.{arrived, at_target, delivered, target_received, whole_of, initiator_received, Scene, with_target, Stands}
use Rattle.std.specs.Prelude.{◌≡◌, ℕ, Bool, List, Option, refl}
use Rattle.sbp_world.proofs.Wire.Found.{IsKnown}
use Rattle.sbp_world.proofs.Wire.Nodes.{Lands}
use Rattle.sbp_world.proofs.Wire.Comes.{received_is, to_zero}
use Rattle.sbp_world.proofs.Wire.Arrivals.{Comes, Does, delivered_as, zero_goes}

-- ---- the target
module _ {past : List Moment} (s : Scene) (h : Stands past s.world) (serial : ℕ) (again : Bool) (told : Option Told) (sent : Sent) (c : Comes serial again sent s.world h) where
  abbrev pub target_does : Judged × Whole
  target_does = received told sent.generation sent.bytes (whole_of s.world.target s.media)

  pub target_goes : (known : ℕ → Type 0) → ((id : ℕ) → known id → IsKnown s.world 0 id) → sent.to ≡ 0 → Does known (judging_step s.world.target.layer sent.generation sent.bytes) sent.bytes target_does.0 target_does.1.node.layer target_does.1.outbox → Lands past (with_target target_does.1.node s.world) (delivered serial again told s).world
  unfolding target_received arrived
  target_goes known all zero_to d =
      let w = s.world in
      let r = target_does in
      delivered_as (Lands past (with_target r.1.node w)) serial again told s (at_target sent.to (target_received told sent w.target s.media) s)
      (received_is told serial s sent c.found
      ∙ ap (λ b. if b then at_target sent.to (target_received told sent w.target s.media) s else initiator_received sent s) (to_zero sent.to zero_to))
      (zero_goes w h serial again sent c zero_to w.target.layer refl known all r.0 r.1.node.layer r.1.outbox r.1.node refl d)
