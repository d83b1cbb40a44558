-- With each delivery of a packet in flight the wire weighs less, at each place of every run.
use Rattle.sbp_world.proofs.Words.Std.{ℕ, List}
use Rattle.sbp_world.proofs.Words.World.{Scene}
use Rattle.sbp_world.specs.Counting.Wire.{WireFalls}
use Rattle.sbp_world.proofs.Counting.WireDeliveries.{own_falls, target_falls}
use Rattle.sbp_world.proofs.Words.Wire.{Moment}
use Rattle.sbp_world.proofs.Wire.Holding.{Sound}

pub wire_falls : {past : List Moment} {lines : ℕ} (s : Scene) → Sound past lines s.world → WireFalls s
wire_falls s sound = record {
  at_target = λ counts serial sent q told fits to. target_falls counts s sound serial sent q told fits to;
  at_own = λ counts serial sent q told i to. own_falls counts s sound serial sent q told i to;
}
