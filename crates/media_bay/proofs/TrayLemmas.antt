-- What load and eject make of what a bay holds.
use Rattle.std.proofs.Common.{◌≡◌, ℕ, ◌*◌, ◌≤◌, List, [], ◌∷◌, length, refl, subst, arith}
use Rattle.std.proofs.lemmas.List.{length-replicate}
use Rattle.std.specs.Prelude.{Option, Some, None, IfSome}
use Rattle.rbc_disk.specs.Disk.{Disk, IsSound, blank_bytes, loaded, ejected}
use Rattle.media_bay.specs.Trays.{bay_disk, new_bay}

pub loaded-bay_disk : (blocks : ℕ) (shelf : List Disk) → loaded (bay_disk blocks None shelf) ≡ new_bay blocks shelf
loaded-bay_disk blocks [] = refl
loaded-bay_disk blocks (disc ∷ shelf) = refl

pub ejected-bay_disk : (blocks : ℕ) (tray : Option Disk) (shelf : List Disk) → ejected (bay_disk blocks tray shelf) ≡ bay_disk blocks None shelf
ejected-bay_disk blocks None shelf = refl
ejected-bay_disk blocks (Some disc) shelf = refl

-- a bay is sound with an empty tray, and with a sound disc of its blocks in the tray
pub empty_IsSound : (blocks : ℕ) (shelf : List Disk) → 1 ≤ blocks → blocks ≤ 65536 → IsSound (bay_disk blocks None shelf)
unfolding blank_bytes
empty_IsSound blocks shelf some few = record { some = some; few = few; whole = length-replicate (512 * blocks) 0; no_shelf = λ h. cc h }

pub full_IsSound : (blocks : ℕ) (disc : Disk) (shelf : List Disk) → IsSound disc → disc.blocks ≡ blocks → IsSound (bay_disk blocks (Some disc) shelf)
full_IsSound blocks disc shelf sound e =
    record { some = omega arith; few = omega arith; whole = subst (λ n. IfSome disc.bytes (λ bytes. length bytes ≡ 512 * n)) e sound.whole; no_shelf = λ h. cc h }

pub ruleset sound_steps = (empty_IsSound, full_IsSound)

pub ruleset bay_steps = (loaded-bay_disk, ejected-bay_disk)
