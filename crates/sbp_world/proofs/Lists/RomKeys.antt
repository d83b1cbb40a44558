-- What a ROM tells of its SBP-2 unit (IEEE 1212, configuration ROM; NCITS 325-1998, unit directory): where each quadlet with the key byte of MANAGEMENT_AGENT, 54h, has
-- the value 4000h, that is the distance which the unit has, whichever quadlets these are.
use Rattle.sbp_world.proofs.Words.Std.{arith, ◌≡◌, ◌∙◌, refl, sym, ap, subst, ℕ, zero, suc, ◌+◌, ◌*◌, ◌/◌, ◌%◌, ◌^◌, ◌==◌, ◌&&◌, ◌||◌, Bool, true, false, cond, List, [], ◌∷◌, ◌++◌, take, drop, Some, None, Ok, AllByRecursion, flat_map, list_any}
use Rattle.sbp_world.proofs.Words.Target.{Block, Entry, SbpUnit, Tree, reading, entries_from, entry_at, Directory, directories, first_unit, first_value, has_key, has_value, is_sbp, is_unit, names_unit, root_entries, sbp_unit_of, type_bits, unit_of}
use Rattle.std.proofs.Common.{slice_index}
use Rattle.config_rom.specs.declared.block.EntryKind.TheVariants as kinds
use Rattle.config_rom.specs.Tree.{entries_of}
use Rattle.config_rom.proofs.Heads.{tree-of}
use Rattle.sbp_world.proofs.Common.{equal, and_second, untrue}

-- a quadlet with this key has that value
abbrev pub IsRomQuad : ℕ → Type 0
IsRomQuad value = value / 2 ^ 24 ≡ 0x54 → value % 2 ^ 24 ≡ 0x4000

abbrev pub AreRomQuads : List ℕ → Type 0
AreRomQuads quads = AllByRecursion IsRomQuad quads

pub none_keyed : IsRomQuad 0
none_keyed e = absurd (omega (arith, e))

quad_at : (quads : List ℕ) → AreRomQuads quads → (at : ℕ) → IsRomQuad (slice_index quads at)
quad_at [] h at = none_keyed
quad_at (q ∷ quads) h zero = h.0
quad_at (q ∷ quads) h (suc at) = quad_at quads h.1 at

-- ---- entries

abbrev IsFine : Entry → Type 0
IsFine entry = has_key 0x54 entry ≡ true → entry.value ≡ 0x4000

abbrev AreFine : List Entry → Type 0
AreFine entries = AllByRecursion IsFine entries

-- the key byte is the first byte of the quadlet
key_is : (q : ℕ) (a b c : Bool) → (q / 2 ^ 30 == 0) ≡ a → (q / 2 ^ 30 == 1) ≡ b → (type_bits (cond a kinds.Immediate (cond b kinds.Csr (cond c kinds.Leaf kinds.Directory))) * 2 ^ 6 + q / 2 ^ 24 % 2 ^ 6 == 0x54) ≡ true → q / 2 ^ 24 ≡ 0x54
key_is q true b c e f g = let z : 0 * 2 ^ 6 + q / 2 ^ 24 % 2 ^ 6 ≡ 0x54 = equal _ _ g in absurd (omega (arith, z))
key_is q false true c e f g =
    let y : q / 2 ^ 30 ≡ 1 = equal _ _ f in
    let z : 1 * 2 ^ 6 + q / 2 ^ 24 % 2 ^ 6 ≡ 0x54 = equal _ _ g in
    omega (arith, y, z)
key_is q false false true e f g = let z : 2 * 2 ^ 6 + q / 2 ^ 24 % 2 ^ 6 ≡ 0x54 = equal _ _ g in absurd (omega (arith, z))
key_is q false false false e f g = let z : 3 * 2 ^ 6 + q / 2 ^ 24 % 2 ^ 6 ≡ 0x54 = equal _ _ g in absurd (omega (arith, z))

entry_fine : (quads : List ℕ) → AreRomQuads quads → (at : ℕ) → IsFine (entry_at quads at)
unfolding entry_at
entry_fine quads h at e = let q = slice_index quads at in quad_at quads h at (key_is q (q / 2 ^ 30 == 0) (q / 2 ^ 30 == 1) (q / 2 ^ 30 == 2) refl refl e)

entries_fine : (quads : List ℕ) → AreRomQuads quads → (at count : ℕ) → AreFine (entries_from quads at count)
entries_fine quads h at zero = tt
entries_fine quads h at (suc count) = (entry_fine quads h at, entries_fine quads h (suc at) count)

block_fine : (quads : List ℕ) → AreRomQuads quads → (block : Block) → AreFine (entries_of quads block)
block_fine quads h block = by block.is_directory
  where
    by : (b : Bool) → AreFine (cond b (entries_from quads (suc block.at) block.length) [])
    by true = entries_fine quads h (suc block.at) block.length
    by false = tt

both_fine : (front back : List Entry) → AreFine front → AreFine back → AreFine (front ++ back)
both_fine [] back h k = k
both_fine (entry ∷ front) back h k = (h.0, both_fine front back h.1 k)

blocks_fine : (quads : List ℕ) → AreRomQuads quads → (blocks : List Block) → AreFine (flat_map (entries_of quads) blocks)
blocks_fine quads h [] = tt
blocks_fine quads h (block ∷ blocks) = both_fine (entries_of quads block) (flat_map (entries_of quads) blocks) (block_fine quads h block) (blocks_fine quads h blocks)

take_fine : (n : ℕ) (entries : List Entry) → AreFine entries → AreFine (take n entries)
take_fine zero [] h = tt
take_fine (suc n) [] h = tt
take_fine zero (entry ∷ entries) h = tt
take_fine (suc n) (entry ∷ entries) h = (h.0, take_fine n entries h.1)

drop_fine : (n : ℕ) (entries : List Entry) → AreFine entries → AreFine (drop n entries)
drop_fine zero [] h = tt
drop_fine (suc n) [] h = tt
drop_fine zero (entry ∷ entries) h = h
drop_fine (suc n) (entry ∷ entries) h = drop_fine n entries h.1

-- ---- directories

abbrev AllFine : List Directory → Type 0
AllFine found = AllByRecursion (λ d. AreFine d.entries) found

directories_fine : (blocks : List Block) (entries : List Entry) → AreFine entries → AllFine (directories blocks entries)
directories_fine [] entries h = tt
directories_fine (block ∷ blocks) entries h =
    by block.is_directory (directories_fine blocks (drop block.length entries) (drop_fine block.length entries h)) (directories_fine blocks entries h)
  where
    by : (b : Bool) → AllFine (directories blocks (drop block.length entries)) → AllFine (directories blocks entries) → AllFine (cond b (record { at = block.at; entries = take block.length entries } ∷ directories blocks (drop block.length entries)) (directories blocks entries))
    by true own rest = (take_fine block.length entries h, own)
    by false own rest = rest

value_is : (entries : List Entry) → AreFine entries → list_any (has_key 0x54) entries ≡ true → first_value 0x54 0 entries ≡ 0x4000
value_is [] h e = untrue e
value_is (entry ∷ entries) h e = by (has_key 0x54 entry) refl (λ f. value_is entries h.1 f)
  where
    by : (b : Bool) → has_key 0x54 entry ≡ b → (list_any (has_key 0x54) entries ≡ true → first_value 0x54 0 entries ≡ 0x4000) → cond b entry.value (first_value 0x54 0 entries) ≡ 0x4000
    by true f rest = h.0 f
    by false f rest = rest (sym (ap (λ b. b || list_any (has_key 0x54) entries) f) ∙ e)

pub third : (a b c d : Bool) → (a && b && c && d) ≡ true → c ≡ true
third a b true d e = refl
third false b false d e = e
third true false false d e = e
third true true false d e = e

unit_is : (root : List Entry) (found : List Directory) → AllFine found → (unit : SbpUnit) → first_unit root found ≡ Some unit → unit.management ≡ 0x4000
unit_is root [] h unit e = absurd (let no : None ≡ Some unit = e in cc)
unit_is root (d ∷ found) h unit e = by (is_unit root d) refl e (λ g. unit_is root found h.1 unit g)
  where
    by : (b : Bool) → is_unit root d ≡ b → cond b (Some (unit_of d.entries)) (first_unit root found) ≡ Some unit → (first_unit root found ≡ Some unit → unit.management ≡ 0x4000) → unit.management ≡ 0x4000
    by true f g rest =
        let own : unit_of d.entries ≡ unit = cc in
        let sbp : is_sbp d.entries ≡ true = and_second (list_any (names_unit d.at) root) (is_sbp d.entries) f in
        ap (λ (u : SbpUnit). u.management) (sym own) ∙ value_is d.entries h.0 (third (list_any (has_value 0x12 0x00609e) d.entries) (list_any (has_value 0x13 0x010483) d.entries) (list_any (has_key 0x54) d.entries) (list_any (has_key 0x14) d.entries) sbp)
    by false f g rest = rest g

pub management_is : (quads : List ℕ) (tree : Tree) → AreRomQuads quads → reading quads ≡ Ok tree → (unit : SbpUnit) → sbp_unit_of tree.blocks tree.entries ≡ Some unit → unit.management ≡ 0x4000
unfolding sbp_unit_of
management_is quads tree h e unit f =
    unit_is (root_entries tree.blocks tree.entries) (directories tree.blocks tree.entries)
    (directories_fine tree.blocks tree.entries (subst AreFine (sym (tree-of quads tree e).listed) (blocks_fine quads h tree.blocks))) unit f
