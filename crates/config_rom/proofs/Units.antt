-- The unit that is found among the blocks is the first one by position.
use Rattle.std.proofs.Common.{◌≡◌, ◌∙◌, refl, sym, ap, subst, ℕ, zero, suc, ◌+◌, ◌*◌, ◌<◌, ◌≤◌, inl, inr, Bool, true, false, cond, ◌&&◌, List, [], ◌∷◌, ◌++◌, take, drop, Option, Some, None, arith}
use Rattle.std.specs.List.{list_any, flat_map}
use Rattle.config_rom.specs.declared.block.Block.{Block}
use Rattle.config_rom.specs.declared.block.Entry.{Entry}
use Rattle.config_rom.specs.declared.unit.SbpUnit.{SbpUnit}
use Rattle.config_rom.specs.Tree.{root_of, block_at, entry_at, entries_from, entries_of, IsIn, turn_at, turn_of, IsNamed, RomTree}
use Rattle.config_rom.specs.Unit.{directories, is_sbp, unit_of, names_unit, first_unit, root_entries, sbp_unit_of, is_unit_block, unit_in}
use Rattle.config_rom.proofs.Trees.{from-flat, names-later, rises-above}

take-entries : (quads : List ℕ) (at count : ℕ) (rest : List Entry) → take count (entries_from quads at count ++ rest) ≡ entries_from quads at count
take-entries quads at zero rest = refl
take-entries quads at (suc count) rest = ap (λ es. entry_at quads at ∷ es) (take-entries quads (suc at) count rest)

drop-entries : (quads : List ℕ) (at count : ℕ) (rest : List Entry) → drop count (entries_from quads at count ++ rest) ≡ rest
drop-entries quads at zero rest = refl
drop-entries quads at (suc count) rest = drop-entries quads (suc at) count rest

-- the first unit, by the entries of the root directory
abbrev first_of : List ℕ → List Entry → List Block → Option SbpUnit
first_of quads root [] = None
first_of quads root (block ∷ blocks) = cond (block.is_directory && (list_any (names_unit block.at) root && is_sbp (entries_of quads block))) (Some (unit_of (entries_of quads block))) (first_of quads root blocks)

one-block : (quads : List ℕ) (root : List Entry) (at count : ℕ) (d : Bool) (blocks : List Block) (rest : List Entry) (found : Option SbpUnit) → first_unit root (directories blocks rest) ≡ found → (let own = cond d (entries_from quads (suc at) count) [] in first_unit root (cond d (record { at = at; entries = take count (own ++ rest) } ∷ directories blocks (drop count (own ++ rest))) (directories blocks (own ++ rest))) ≡ cond (d && (list_any (names_unit at) root && is_sbp own)) (Some (unit_of own)) found)
one-block quads root at count false blocks rest found h = h
one-block quads root at count true blocks rest found h =
    let own = entries_from quads (suc at) count in
    ap (λ es. first_unit root (record { at = at; entries = es } ∷ directories blocks (drop count (own ++ rest)))) (take-entries quads (suc at) count rest)
    ∙ ap (λ es. first_unit root (record { at = at; entries = own } ∷ directories blocks es)) (drop-entries quads (suc at) count rest)
    ∙ ap (λ o. cond (list_any (names_unit at) root && is_sbp own) (Some (unit_of own)) o) h

all-blocks : (quads : List ℕ) (root : List Entry) (blocks : List Block) → first_unit root (directories blocks (flat_map (entries_of quads) blocks)) ≡ first_of quads root blocks
all-blocks quads root [] = refl
all-blocks quads root (block ∷ blocks) = one-block quads root block.at block.length block.is_directory blocks (flat_map (entries_of quads) blocks) (first_of quads root blocks) (all-blocks quads root blocks)

-- no block comes before the root directory
root-least : (quads : List ℕ) (blocks : List Block) (entries : List Entry) → RomTree quads blocks entries → (bound : ℕ) (block : Block) → IsIn block blocks → turn_of block < bound → 2 * root_of quads ≤ turn_of block
root-least quads blocks entries t zero block h l = absurd (omega arith)
root-least quads blocks entries t (suc bound) block h l =
    by (t.only block h) (λ b i k. root-least quads blocks entries t bound b i k)
  where
    by : IsNamed quads entries block.at block.is_directory → ((b : Block) → IsIn b blocks → turn_of b < bound → 2 * root_of quads ≤ turn_of b) → 2 * root_of quads ≤ turn_of block
    by (inl (e, d)) earlier = (let same : turn_of block ≡ 2 * root_of quads + 0 = ap (λ n. turn_at n block.is_directory) e ∙ ap (turn_at (root_of quads)) d in omega arith)
    by (inr (entry, here, n)) earlier =
        let P : List Entry → Type 0 = λ es. IsIn entry es in
        let (naming, listed, own) = from-flat quads entry blocks (subst P t.listed here) in
        let later = names-later quads naming entry block.at block.is_directory own n in
        let least = earlier naming listed (omega arith) in
        omega arith

root-first : (quads : List ℕ) (block : Block) (blocks : List Block) (entries : List Entry) → RomTree quads (block ∷ blocks) entries → block ≡ block_at quads (root_of quads) true
unfolding block_at
root-first quads block blocks entries t = by (t.each (root_of quads) true (inl (refl, refl)))
  where
    by : IsIn (block_at quads (root_of quads) true) (block ∷ blocks) → block ≡ block_at quads (root_of quads) true
    by (inl e) = sym e
    by (inr h) =
        let later = rises-above (suc (turn_of block)) blocks (block_at quads (root_of quads) true) t.rising.1 h in
        let least = root-least quads (block ∷ blocks) entries t (suc (turn_of block)) block (inl refl) (omega arith) in
        absurd (omega arith)

root-is : (quads : List ℕ) (blocks : List Block) (entries : List Entry) → RomTree quads blocks entries → root_entries blocks entries ≡ entries_of quads (block_at quads (root_of quads) true)
unfolding block_at
root-is quads [] entries t = absurd (t.each (root_of quads) true (inl (refl, refl)))
root-is quads (block ∷ blocks) entries t =
    let rest = flat_map (entries_of quads) blocks in
    let first = root-first quads block blocks entries t in
    let root = block_at quads (root_of quads) true in
    ap (take block.length) t.listed
    ∙ ap (λ b. take b.length (entries_of quads b ++ rest)) first
    ∙ take-entries quads (suc (root_of quads)) root.length rest

same-first : (quads : List ℕ) (blocks : List Block) → first_of quads (entries_of quads (block_at quads (root_of quads) true)) blocks ≡ unit_in quads blocks
same-first quads [] = refl
same-first quads (block ∷ blocks) = ap (λ o. cond (is_unit_block quads block) (Some (unit_of (entries_of quads block))) o) (same-first quads blocks)

pub unit-is-first : (quads : List ℕ) (blocks : List Block) (entries : List Entry) → RomTree quads blocks entries → sbp_unit_of blocks entries ≡ unit_in quads blocks
unfolding sbp_unit_of
unit-is-first quads blocks entries t =
    ap (λ root. first_unit root (directories blocks entries)) (root-is quads blocks entries t)
    ∙ ap (λ es. first_unit (entries_of quads (block_at quads (root_of quads) true)) (directories blocks es)) t.listed
    ∙ all-blocks quads (entries_of quads (block_at quads (root_of quads) true)) blocks
    ∙ same-first quads blocks
