-- The distance of MANAGEMENT_AGENT that a ROM tells has 24 bits: so it is at the address that the terms say.
use Rattle.std.proofs.Common.{arith, ◌≡◌, refl, sym, subst, ℕ, zero, suc, ◌+◌, ◌^◌, ◌<◌, Bool, true, false, cond, List, [], ◌∷◌, ◌++◌, take, drop, Option, Some, None, Result, Ok, Err}
use Rattle.std.specs.List.{AllByRecursion, flat_map}
use Rattle.config_rom.proofs.Heads.{tree-of}
use Rattle.config_rom.specs.Reading.{Tree, reading}
use Rattle.config_rom.specs.Tree.{entries_from, entries_of, entry_at}
use Rattle.config_rom.specs.Unit.{Directory, directories, first_unit, first_value, has_key, is_unit, root_entries, sbp_unit_of, unit_of}
use Rattle.config_rom.specs.declared.block.Block.{Block}
use Rattle.config_rom.specs.declared.block.Entry.{Entry}
use Rattle.config_rom.specs.declared.fault.RomFault.{RomFault}
use Rattle.config_rom.specs.declared.unit.SbpUnit.{SbpUnit}
use Rattle.sbp_laws.specs.Hosts.{distance_in, management_in}

abbrev AreSmall : List Entry → Type 0
AreSmall entries = AllByRecursion (λ (entry : Entry). entry.value < 2 ^ 24) entries

entry_small : (quads : List ℕ) (at : ℕ) → (entry_at quads at).value < 2 ^ 24
unfolding entry_at
entry_small quads at = omega arith

entries_small : (quads : List ℕ) (at count : ℕ) → AreSmall (entries_from quads at count)
entries_small quads at zero = tt
entries_small quads at (suc count) = (entry_small quads at, entries_small quads (suc at) count)

block_small : (quads : List ℕ) (block : Block) → AreSmall (entries_of quads block)
block_small quads block = by block.is_directory
  where
    by : (b : Bool) → AreSmall (cond b (entries_from quads (suc block.at) block.length) [])
    by true = entries_small quads (suc block.at) block.length
    by false = tt

both_small : (front back : List Entry) → AreSmall front → AreSmall back → AreSmall (front ++ back)
both_small [] back h k = k
both_small (entry ∷ front) back h k = (h.0, both_small front back h.1 k)

blocks_small : (quads : List ℕ) (blocks : List Block) → AreSmall (flat_map (entries_of quads) blocks)
blocks_small quads [] = tt
blocks_small quads (block ∷ blocks) = both_small (entries_of quads block) (flat_map (entries_of quads) blocks) (block_small quads block) (blocks_small quads blocks)

take_small : (n : ℕ) (entries : List Entry) → AreSmall entries → AreSmall (take n entries)
take_small zero [] h = tt
take_small (suc n) [] h = tt
take_small zero (entry ∷ entries) h = tt
take_small (suc n) (entry ∷ entries) h = (h.0, take_small n entries h.1)

drop_small : (n : ℕ) (entries : List Entry) → AreSmall entries → AreSmall (drop n entries)
drop_small zero [] h = tt
drop_small (suc n) [] h = tt
drop_small zero (entry ∷ entries) h = h
drop_small (suc n) (entry ∷ entries) h = drop_small n entries h.1

-- ---- directories
abbrev AllSmall : List Directory → Type 0
AllSmall found = AllByRecursion (λ (d : Directory). AreSmall d.entries) found

directories_small : (blocks : List Block) (entries : List Entry) → AreSmall entries → AllSmall (directories blocks entries)
directories_small [] entries h = tt
directories_small (block ∷ blocks) entries h =
    by block.is_directory (directories_small blocks (drop block.length entries) (drop_small block.length entries h)) (directories_small blocks entries h)
  where
    by : (b : Bool) → AllSmall (directories blocks (drop block.length entries)) → AllSmall (directories blocks entries)
        → AllSmall (cond b (record { at = block.at; entries = take block.length entries } ∷ directories blocks (drop block.length entries)) (directories blocks entries))
    by true own rest = (take_small block.length entries h, own)
    by false own rest = rest

value_small : (entries : List Entry) → AreSmall entries → first_value 0x54 0 entries < 2 ^ 24
value_small [] h = omega arith
value_small (entry ∷ entries) h = by (has_key 0x54 entry) (value_small entries h.1)
  where
    by : (b : Bool) → first_value 0x54 0 entries < 2 ^ 24 → cond b entry.value (first_value 0x54 0 entries) < 2 ^ 24
    by true rest = h.0
    by false rest = rest

unit_small : (root : List Entry) (found : List Directory) → AllSmall found → (unit : SbpUnit) → first_unit root found ≡ Some unit → unit.management < 2 ^ 24
unit_small root [] h unit e = absurd (let no : None ≡ Some unit = e in cc)
unit_small root (d ∷ found) h unit e = by (is_unit root d) e (unit_small root found h.1 unit)
  where
    by : (b : Bool) → cond b (Some (unit_of d.entries)) (first_unit root found) ≡ Some unit → (first_unit root found ≡ Some unit → unit.management < 2 ^ 24) → unit.management < 2 ^ 24
    by true f rest = (let own : unit_of d.entries ≡ unit = cc in subst (λ (u : SbpUnit). u.management < 2 ^ 24) own (value_small d.entries h.0))
    by false f rest = rest f

tree_small : (quads : List ℕ) (tree : Tree) → reading quads ≡ Ok tree → (unit : SbpUnit) → sbp_unit_of tree.blocks tree.entries ≡ Some unit → unit.management < 2 ^ 24
unfolding sbp_unit_of
tree_small quads tree e unit f =
    unit_small (root_entries tree.blocks tree.entries) (directories tree.blocks tree.entries)
    (directories_small tree.blocks tree.entries (subst AreSmall (sym (tree-of quads tree e).listed) (blocks_small quads tree.blocks))) unit f

-- what a ROM that was read tells
abbrev pub IsSmallDistance : Option ℕ → Type 0
IsSmallDistance None = Unit {0}
IsSmallDistance (Some distance) = distance < 2 ^ 24

pub read_small : (quads : List ℕ) → IsSmallDistance (management_in (reading quads))
read_small quads = by (reading quads) refl
  where
    units : (tree : Tree) → reading quads ≡ Ok tree → (unit : Option SbpUnit) → sbp_unit_of tree.blocks tree.entries ≡ unit → IsSmallDistance (distance_in unit)
    units tree e None f = tt
    units tree e (Some unit) f = tree_small quads tree e unit f

    by : (r : Result Tree RomFault) → reading quads ≡ r → IsSmallDistance (management_in r)
    by (Ok tree) e = units tree e (sbp_unit_of tree.blocks tree.entries) refl
    by (Err fault) e = tt
