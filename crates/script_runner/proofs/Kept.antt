-- The machine keeps its number of initiators, and how a world begins.
use Rattle.std.proofs.Common.{◌≡◌, ◌∙◌, refl, ap, ℕ, Bool, [], ◌∷◌, length}
use Rattle.sbp_journal.specs.declared.event.Event.{Event}
use Rattle.sbp_world.specs.Lines.{Happens}
use Rattle.sbp_world.specs.Making.{new_world, notes_begin}
use Rattle.sbp_world.specs.Worlds.{Scene}
use Rattle.sbp_world.proofs.Wire.Sizes.{Sizes, happens_keeps as happens_sizes, new_sizes}

pub happens_keeps : (line : ℕ) (event : Event) (old new : Scene) → Happens line event old new → length new.world.initiators ≡ length old.world.initiators
happens_keeps line event old new h =
    ap (λ s. length s.world.initiators) h.is ∙ ap (λ (z : Sizes). z.0) (happens_sizes line event h.told old)

pub world_count : (initiators : ℕ) (ready : Bool) (units : ℕ) → length (new_world initiators ready units).initiators ≡ initiators
world_count initiators ready units = ap (λ (z : Sizes). z.0) (new_sizes initiators ready units)

pub world_units : (initiators : ℕ) (ready : Bool) (units : ℕ) → length (new_world initiators ready units).target.units ≡ units
world_units initiators ready units = ap (λ (z : Sizes). z.1) (new_sizes initiators ready units)

pub world_fresh : (initiators : ℕ) (ready : Bool) (units : ℕ) → (new_world initiators ready units).fresh ≡ notes_begin initiators ready ∷ []
unfolding new_world
world_fresh initiators ready units = refl
