-- What a node tells is the effects of a turn: none of its own notes begins a turn, or is one that a line alone brings.
use Rattle.sbp_world.proofs.Words.Std.{◌≡◌, Bool, true, false, cond, List, [], ◌∷◌, ◌++◌}
use Rattle.sbp_world.proofs.Words.Wire.{Side, OutboxState}
use Rattle.sbp_world.proofs.Words.Laws.{is_effect}
use Rattle.sbp_journal.specs.declared.side.Side.TheVariants as sides

abbrev pub IsEffectSide : Side → Type 0
IsEffectSide (sides.Own note) = is_effect note ≡ true
IsEffectSide _ = Unit {0}

abbrev pub AreEffectSides : List Side → Type 0
AreEffectSides [] = Unit {0}
AreEffectSides (side ∷ told) = IsEffectSide side × AreEffectSides told

pub more : (told : List Side) (side : Side) → AreEffectSides told → IsEffectSide side → AreEffectSides (told ++ side ∷ [])
more [] side h e = (e, tt)
more (first ∷ told) side h e = (h.0, more told side h.1 e)

pub pick_outbox : (b : Bool) (x y : OutboxState) → AreEffectSides x.sides → AreEffectSides y.sides → AreEffectSides (cond b x y).sides
pick_outbox true x y h i = h
pick_outbox false x y h i = i

-- a node that tells no note in its own words
abbrev pub IsOtherSide : Side → Type 0
IsOtherSide (sides.Own note) = ⊥
IsOtherSide _ = Unit {0}

abbrev pub AreOtherSides : List Side → Type 0
AreOtherSides [] = Unit {0}
AreOtherSides (side ∷ told) = IsOtherSide side × AreOtherSides told

pub more_others : (told : List Side) (side : Side) → AreOtherSides told → IsOtherSide side → AreOtherSides (told ++ side ∷ [])
more_others [] side h e = (e, tt)
more_others (first ∷ told) side h e = (h.0, more_others told side h.1 e)

one_effect : (side : Side) → IsOtherSide side → IsEffectSide side
one_effect (sides.Own note) h = absurd h
one_effect side h = tt

pub others_effects : (told : List Side) → AreOtherSides told → AreEffectSides told
others_effects [] h = tt
others_effects (side ∷ told) h = (one_effect side h.0, others_effects told h.1)
