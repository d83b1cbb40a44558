-- What is left to tell.
use Rattle.sbp_world.proofs.Words.Std.{◌∙◌, ap, sym}
use Rattle.sbp_world.proofs.Words.Wire.{Side}
use Rattle.sbp_world.proofs.Words.World.{told, told_all, WorldState}
use Rattle.std.specs.Prelude.{◌≡◌, ℕ, List, [], ◌∷◌, refl}

told_one : (weight : ℕ) (side : Side) (later : List Side) (w : WorldState) → told_all weight later (told weight side w) ≡ told_all weight (side ∷ later) w
unfolding told_all
told_one weight side later w = refl

pub told_more : (weight : ℕ) (all later : List Side) (side : Side) (w new : WorldState) → all ≡ side ∷ later → new ≡ told weight side w → told_all weight later new ≡ told_all weight all w
told_more weight all later side w new e n =
    ap (λ x. told_all weight later x) n ∙ (told_one weight side later w ∙ ap (λ x. told_all weight x w) (sym e))

told_empty : (weight : ℕ) (w : WorldState) → told_all weight [] w ≡ w
unfolding told_all
told_empty weight w = refl

pub told_none : (weight : ℕ) (all : List Side) (w : WorldState) → all ≡ [] → w ≡ told_all weight all w
told_none weight all w e = sym (ap (λ x. told_all weight x w) e ∙ told_empty weight w)
