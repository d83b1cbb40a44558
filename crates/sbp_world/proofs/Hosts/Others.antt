-- What is told of others than initiators.
use Rattle.sbp_world.proofs.Words.Std.{List, [], ◌∷◌, ◌++◌}
use Rattle.sbp_world.proofs.Words.Wire.{Side}
use Rattle.sbp_world.proofs.Words.World.{AreOthers, IsOther}

pub more : (told : List Side) (side : Side) → AreOthers told → IsOther side → AreOthers (told ++ side ∷ [])
more [] side h f = (f, tt)
more (first ∷ told) side h f = (h.0, more told side h.1 f)
