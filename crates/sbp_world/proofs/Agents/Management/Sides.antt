-- What is told, and what it makes of an office.
use Rattle.sbp_world.proofs.Words.Std.{◌≡◌, refl, List, [], ◌∷◌, ◌++◌}
use Rattle.sbp_world.proofs.Words.Wire.{Side}
use Rattle.sbp_world.proofs.Words.World.{Office, by_side, by_sides}
use Rattle.sbp_journal.specs.declared.side.Side.TheVariants as sides

pub sides_more : (told : List Side) (side : Side) (o : Office) → by_sides (told ++ side ∷ []) o ≡ by_side side (by_sides told o)
sides_more [] side o = refl
sides_more (first ∷ told) side o = sides_more told side (by_side first o)

-- a target tells no note of its own
abbrev pub TellsBehind : Side → Type 0
TellsBehind (sides.Own note) = ⊥
TellsBehind _ = Unit {0}

abbrev pub AllBehind : List Side → Type 0
AllBehind [] = Unit {0}
AllBehind (side ∷ later) = TellsBehind side × AllBehind later

pub behind_more : (told : List Side) (side : Side) → AllBehind told → TellsBehind side → AllBehind (told ++ side ∷ [])
behind_more [] side h f = (f, tt)
behind_more (first ∷ told) side h f = (h.0, behind_more told side h.1 f)
