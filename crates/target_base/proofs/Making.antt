-- The ROM that is made is small.
use Rattle.std.specs.Prelude.{◌≡◌, ℕ, ◌≤◌, ◌*◌, ◌+◌, zero, suc, List, [], ◌∷◌, length, refl}
use Rattle.std.proofs.Common.{arith}
use Rattle.std.proofs.lemmas.Grind.{common_steps}
use Rattle.orb_layout.specs.Pointers.{quad_bytes}
use Rattle.config_rom.specs.Make.{made, unit_numbers, root_quads, units_headed}

pub numbers_size : (first units : ℕ) → length (unit_numbers first units) ≡ units
numbers_size first zero = refl
numbers_size first (suc units) = let rest = numbers_size (suc first) units in omega arith

root_size : (eui units : ℕ) → length (root_quads eui units) ≤ 3
root_size eui zero = omega arith
root_size eui (suc units) = omega arith

headed_size : (units : ℕ) → length (units_headed units) ≤ 7 + units
headed_size zero = omega arith
headed_size (suc units) = let rest = numbers_size 0 (suc units) in omega arith

made_size : (eui units : ℕ) → units ≤ 4 → length (made eui units) ≤ 20
unfolding made
made_size eui units h =
    let root = root_size eui units in
    let rest = headed_size units in
    grind (arith, common_steps)

pub bytes_size : (quads : List ℕ) → length (quad_bytes quads) ≡ 4 * length quads
bytes_size [] = refl
bytes_size (quad ∷ quads) = let rest = bytes_size quads in grind (arith, common_steps)

pub rom_size : (eui units : ℕ) → units ≤ 4 → length (quad_bytes (made eui units)) ≤ 1024
rom_size eui units h = let few = made_size eui units h in let bytes = bytes_size (made eui units) in omega arith
