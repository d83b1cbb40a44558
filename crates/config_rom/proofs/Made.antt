-- The configuration ROM that is made is read as it was planned.
use Rattle.std.proofs.Common.{◌≡◌, ◌∙◌, refl, sym, ap, subst, ℕ, zero, suc, ◌+◌, ◌*◌, ◌/◌, ◌%◌, ◌^◌, ◌<◌, ◌≤◌, ◌==◌, inl, inr, Bool, true, false, cond, ◌&&◌, ◌||◌, nat_le, nat_lt, List, [], ◌∷◌, ◌++◌, length, take, drop, append-nil, slice_index, filter, Some, None, Ok, arith}
use Rattle.std.proofs.lemmas.Bool.{eq-eqb, lt-leb, lt-ltb, or_from, and_from}
use Rattle.config_rom.specs.declared.block.Block.{Block}
use Rattle.config_rom.specs.declared.block.Entry.{Entry}
use Rattle.config_rom.specs.declared.block.EntryKind.TheVariants as kinds
use Rattle.config_rom.specs.Sum.{sum_of, quad_bits}
use Rattle.config_rom.specs.Tree.{has_name, info_length, eui_of, bus_sum_is_right, root_of, kind_of, entry_at, length_at, block_at, entries_from, is_link, names, outside, block_fault, first_void, IsIn, IsNamed, RomTree}
use Rattle.config_rom.specs.Reading.{Tree, reading}
use Rattle.config_rom.specs.Make.{bus_quads, headed, unit_quads, root_quads, units_headed, made, made_blocks, made_entries, unit_entries, entry, made_unit}
use Rattle.config_rom.specs.Unit.{sbp_unit_of}
use Rattle.config_rom.proofs.Sums.{sum_lt}
use Rattle.config_rom.proofs.Trees.{names-target}
use Rattle.config_rom.proofs.Unique.{one-tree, tree-or-fault}
use Rattle.config_rom.proofs.Outcomes.{outcome, Outcome, whole, failed, link-of}
use Rattle.config_rom.proofs.Heads.{head-of}

sum_of_lt : (quads : List ℕ) → sum_of quads < 2 ^ 16
unfolding sum_of
sum_of_lt quads = sum_lt (quad_bits quads)

-- a block with a right sum
abbrev pub right : ℕ → ℕ → Block
right at n = record { at = at; length = n; is_directory = true; sum_is_right = true }

block-is : (quads own : List ℕ) (at n : ℕ) → slice_index quads at ≡ n * 2 ^ 16 + sum_of own → take n (drop (at + 1) quads) ≡ own → block_at quads at true ≡ right at n
unfolding block_at
block-is quads own at n e f =
    let s = sum_of_lt own in
    let long : length_at quads at ≡ n = ap (λ q. q / 2 ^ 16) e ∙ omega arith in
    let sum : slice_index quads at % 2 ^ 16 ≡ sum_of own = ap (λ q. q % 2 ^ 16) e ∙ omega arith in
    let same : (sum_of (take n (drop (at + 1) quads)) == slice_index quads at % 2 ^ 16) ≡ true = eq-eqb _ _ (ap sum_of f ∙ sym sum) in
    let made_of : ℕ → Bool → Block = λ k b. record { at = at; length = k; is_directory = true; sum_is_right = b } in
    ap (λ k. made_of k (sum_of (take k (drop (at + 1) quads)) == slice_index quads at % 2 ^ 16)) long ∙ ap (made_of n) same

sound-is : (quads : List ℕ) (at n : ℕ) (es : List Entry) → length_at quads at ≡ n → at + n < length quads → entries_from quads (suc at) n ≡ es → first_void es ≡ None → block_fault quads at true ≡ None
unfolding block_fault block_at
sound-is quads at n es e l f v =
    let inside : (nat_le (length quads) at || nat_le (length quads) (at + length_at quads at)) ≡ false = or_from _ _ (lt-leb (length quads) at (omega arith)) (ap (λ k. nat_le (length quads) (at + k)) e ∙ lt-leb (length quads) (at + n) l) in
    ap (λ b. cond b (Some (outside at)) (first_void (entries_from quads (suc at) (length_at quads at)))) inside ∙ ap (λ k. first_void (entries_from quads (suc at) k)) e ∙ ap first_void f ∙ v

in-filter : (p : Entry → Bool) (es : List Entry) (e : Entry) → IsIn e es → p e ≡ true → IsIn e (filter p es)
in-filter p [] e h k = absurd h
in-filter p (first ∷ es) e (inl f) k =
    let P : Bool → Type 0 = λ b. IsIn e (cond b (first ∷ filter p es) (filter p es)) in
    subst P (sym (ap p (sym f) ∙ k)) (inl f)
in-filter p (first ∷ es) e (inr h) k = by (p first) (in-filter p es e h k)
  where
    by : (b : Bool) → IsIn e (filter p es) → IsIn e (cond b (first ∷ filter p es) (filter p es))
    by true i = inr i
    by false i = i

-- the unit directory's entry in the root directory
abbrev pub unit_entry : Entry
unit_entry = entry 8 kinds.Directory 0x11 1

-- the quadlets of a root directory of `m` entries at position 5
pub record HasRoot (quads : List ℕ) (m : ℕ) (own : List Entry) : Type 0 where
  long : 6 ≤ length quads
  name : has_name quads ≡ true
  root : root_of quads ≡ 5
  block : block_at quads 5 true ≡ right 5 m
  sound : block_fault quads 5 true ≡ None
  entries : entries_from quads 6 m ≡ own

pub root-alone : (quads : List ℕ) (m : ℕ) (own : List Entry) → HasRoot quads m own → filter is_link own ≡ [] → RomTree quads (right 5 m ∷ []) own
root-alone quads m own q none = record {
  long = q.long;
  name = q.name;
  rising = (omega arith, tt);
  stands = λ b h. stands b h;
  sound = λ b h. sound b h;
  only = λ b h. only b h;
  each = λ at d n. each at d n;
  listed = sym (append-nil (entries_from quads 6 m) ∙ q.entries);
}
  where
    stands : (b : Block) → IsIn b (right 5 m ∷ []) → b ≡ block_at quads b.at b.is_directory
    stands b (inl e) = let P : Block → Type 0 = λ c. c ≡ block_at quads c.at c.is_directory in subst P (sym e) (sym q.block)
    stands b (inr h) = absurd h

    sound : (b : Block) → IsIn b (right 5 m ∷ []) → block_fault quads b.at b.is_directory ≡ None
    sound b (inl e) = let P : Block → Type 0 = λ c. block_fault quads c.at c.is_directory ≡ None in subst P (sym e) q.sound
    sound b (inr h) = absurd h

    only : (b : Block) → IsIn b (right 5 m ∷ []) → IsNamed quads own b.at b.is_directory
    only b (inl e) = let P : Block → Type 0 = λ c. IsNamed quads own c.at c.is_directory in subst P (sym e) (inl (sym q.root, refl))
    only b (inr h) = absurd h

    each : (at : ℕ) (d : Bool) → IsNamed quads own at d → IsIn (block_at quads at d) (right 5 m ∷ [])
    each at d (inl (e, f)) = inl (ap (λ n. block_at quads n d) (e ∙ q.root) ∙ ap (block_at quads 5) f ∙ q.block)
    each at d (inr (found, here, n)) =
        let P : List Entry → Type 0 = λ es. IsIn found es in
        absurd (subst P none (in-filter is_link own found here (link-of found.kind d (names-target at d found n).0)))

-- the same with a unit directory of `n` entries at position 9
pub record HasUnit (quads : List ℕ) (n : ℕ) (own : List Entry) : Type 0 where
  block : block_at quads 9 true ≡ right 9 n
  sound : block_fault quads 9 true ≡ None
  entries : entries_from quads 10 n ≡ own

pub root-and-unit : (quads : List ℕ) (m n : ℕ) (first second : List Entry) → HasRoot quads m first → HasUnit quads n second → filter is_link (first ++ second) ≡ unit_entry ∷ [] → IsIn unit_entry (first ++ second) → RomTree quads (right 5 m ∷ right 9 n ∷ []) (first ++ second)
unfolding names
root-and-unit quads m n first second q u one here = record {
  long = q.long;
  name = q.name;
  rising = (omega arith, (omega arith, tt));
  stands = λ b h. stands b h;
  sound = λ b h. sound b h;
  only = λ b h. only b h;
  each = λ at d k. each at d k;
  listed = ap (λ es. es ++ second) (sym q.entries) ∙ ap (λ es. entries_from quads 6 m ++ es) (sym (append-nil (entries_from quads 10 n) ∙ u.entries));
}
  where
    stands : (b : Block) → IsIn b (right 5 m ∷ right 9 n ∷ []) → b ≡ block_at quads b.at b.is_directory
    stands b (inl e) = let P : Block → Type 0 = λ c. c ≡ block_at quads c.at c.is_directory in subst P (sym e) (sym q.block)
    stands b (inr (inl e)) = let P : Block → Type 0 = λ c. c ≡ block_at quads c.at c.is_directory in subst P (sym e) (sym u.block)
    stands b (inr (inr h)) = absurd h

    sound : (b : Block) → IsIn b (right 5 m ∷ right 9 n ∷ []) → block_fault quads b.at b.is_directory ≡ None
    sound b (inl e) = let P : Block → Type 0 = λ c. block_fault quads c.at c.is_directory ≡ None in subst P (sym e) q.sound
    sound b (inr (inl e)) = let P : Block → Type 0 = λ c. block_fault quads c.at c.is_directory ≡ None in subst P (sym e) u.sound
    sound b (inr (inr h)) = absurd h

    only : (b : Block) → IsIn b (right 5 m ∷ right 9 n ∷ []) → IsNamed quads (first ++ second) b.at b.is_directory
    only b (inl e) = let P : Block → Type 0 = λ c. IsNamed quads (first ++ second) c.at c.is_directory in subst P (sym e) (inl (sym q.root, refl))
    only b (inr (inl e)) = let P : Block → Type 0 = λ c. IsNamed quads (first ++ second) c.at c.is_directory in subst P (sym e) (inr (unit_entry, here, refl))
    only b (inr (inr h)) = absurd h

    unit_named : (at : ℕ) (d : Bool) → names at d unit_entry ≡ true → IsIn (block_at quads at d) (right 5 m ∷ right 9 n ∷ [])
    unit_named at d k =
        let (kind, target) = names-target at d unit_entry k in
        inr (inl (ap (λ x. block_at quads x d) (sym target) ∙ ap (block_at quads 9) kind ∙ u.block))

    each : (at : ℕ) (d : Bool) → IsNamed quads (first ++ second) at d → IsIn (block_at quads at d) (right 5 m ∷ right 9 n ∷ [])
    each at d (inl (e, f)) = inl (ap (λ x. block_at quads x d) (e ∙ q.root) ∙ ap (block_at quads 5) f ∙ q.block)
    each at d (inr (found, there, k)) =
        let P : List Entry → Type 0 = λ es. IsIn found es in
        elim (subst P one (in-filter is_link (first ++ second) found there (link-of found.kind d (names-target at d found k).0))) [
          | inl e ↦ (let Q : Entry → Type 0 = λ x. names at d x ≡ true in unit_named at d (subst Q e k))
          | inr none ↦ absurd none
        ]

-- ---- the quadlets that are made

vendor_entry : (v : ℕ) → v < 2 ^ 24 → (let q = 0x03000000 + v in let e : Entry = record { at = 6; kind = kind_of (q / 2 ^ 30); key = q / 2 ^ 24 % 2 ^ 6; value = q % 2 ^ 24 } in e) ≡ entry 6 kinds.Immediate 0x03 v
vendor_entry v l =
    let kind : (0x03000000 + v) / 2 ^ 30 ≡ 0 = omega arith in
    let key : (0x03000000 + v) / 2 ^ 24 % 2 ^ 6 ≡ 3 = omega arith in
    let value : (0x03000000 + v) % 2 ^ 24 ≡ v = omega arith in
    rw (kind, key, value) refl

-- the first quadlet
abbrev first_quad : ℕ → ℕ
first_quad eui = 4 * 2 ^ 24 + 4 * 2 ^ 16 + sum_of (bus_quads eui)

first-info : (eui : ℕ) → first_quad eui / 2 ^ 24 ≡ 4
first-info eui = let s = sum_of_lt (bus_quads eui) in omega arith

-- a root directory of `m` entries
root-is : (eui m : ℕ) (own rest : List ℕ) (found : List Entry) → take m rest ≡ own → m ≤ length rest → entries_from (first_quad eui ∷ 0x31333934 ∷ 0 ∷ eui / 2 ^ 32 ∷ eui % 2 ^ 32 ∷ (m * 2 ^ 16 + sum_of own) ∷ rest) 6 m ≡ found → first_void found ≡ None → HasRoot (first_quad eui ∷ 0x31333934 ∷ 0 ∷ eui / 2 ^ 32 ∷ eui % 2 ^ 32 ∷ (m * 2 ^ 16 + sum_of own) ∷ rest) m found
root-is eui m own rest found e l f v =
    let quads = first_quad eui ∷ 0x31333934 ∷ 0 ∷ eui / 2 ^ 32 ∷ eui % 2 ^ 32 ∷ (m * 2 ^ 16 + sum_of own) ∷ rest in
    let s = sum_of_lt own in
    let long : length_at quads 5 ≡ m = omega arith in
    let info : info_length quads ≡ 4 = first-info eui in
    record {
      long = omega arith;
      name = ap (λ i. nat_le 4 i && true) info;
      root = ap (λ i. 1 + i) info;
      block = block-is quads own 5 m refl e;
      sound = sound-is quads 5 m found long (omega arith) f v;
      entries = f;
    }

-- a unit directory of `n` entries
unit-is : (quads own : List ℕ) (n : ℕ) (found : List Entry) → slice_index quads 9 ≡ n * 2 ^ 16 + sum_of own → take n (drop 10 quads) ≡ own → 9 + n < length quads → entries_from quads 10 n ≡ found → first_void found ≡ None → HasUnit quads n found
unit-is quads own n found e t l f v =
    let s = sum_of_lt own in
    let long : length_at quads 9 ≡ n = ap (λ q. q / 2 ^ 16) e ∙ omega arith in
    record {
      block = block-is quads own 9 n e t;
      sound = sound-is quads 9 n found long l f v;
      entries = f;
    }

head-is : (eui : ℕ) (rest : List ℕ) → eui < 2 ^ 64 → (let quads = first_quad eui ∷ 0x31333934 ∷ 0 ∷ eui / 2 ^ 32 ∷ eui % 2 ^ 32 ∷ rest in (eui_of quads ≡ eui) × (bus_sum_is_right quads ≡ true))
head-is eui rest l =
    let s = sum_of_lt (bus_quads eui) in
    let covered : first_quad eui / 2 ^ 16 % 2 ^ 8 ≡ 4 = omega arith in
    let sum : first_quad eui % 2 ^ 16 ≡ sum_of (bus_quads eui) = omega arith in
    let quads = first_quad eui ∷ 0x31333934 ∷ 0 ∷ eui / 2 ^ 32 ∷ eui % 2 ^ 32 ∷ rest in (
      omega arith,
      ap (λ k. nat_lt k (length quads) && (sum_of (take k (drop 1 quads)) == first_quad eui % 2 ^ 16)) covered
          ∙ and_from (nat_lt 4 (length quads)) (sum_of (bus_quads eui) == first_quad eui % 2 ^ 16) (lt-ltb 4 (length quads) (omega arith)) (eq-eqb _ _ (sym sum)),
    )

top_lt : (eui : ℕ) → eui < 2 ^ 64 → eui / 2 ^ 40 < 2 ^ 24
top_lt eui l = omega arith

tree-zero : (eui : ℕ) → eui < 2 ^ 64 → RomTree (made eui 0) (made_blocks 0) (made_entries eui 0)
unfolding made entry_at
tree-zero eui l =
    let q = root-is eui 2 (root_quads eui 0) (root_quads eui 0) (made_entries eui 0) refl (omega arith) (ap (λ e. e ∷ entry 7 kinds.Immediate 0x0C 0x0083C0 ∷ []) (vendor_entry (eui / 2 ^ 40) (top_lt eui l))) refl in
    root-alone (made eui 0) 2 (made_entries eui 0) q refl

-- the root directory's entries where there are units
abbrev root_found : ℕ → List Entry
root_found eui = entry 6 kinds.Immediate 0x03 (eui / 2 ^ 40) ∷ entry 7 kinds.Immediate 0x0C 0x0083C0 ∷ unit_entry ∷ []

-- the unit directory's entries
abbrev unit_found : ℕ → List Entry
unit_found n =
    entry 10 kinds.Immediate 0x12 0x00609E ∷ entry 11 kinds.Immediate 0x13 0x010483 ∷ entry 12 kinds.Immediate 0x38 0x00609E
    ∷ entry 13 kinds.Immediate 0x39 0x0104D8 ∷ entry 14 kinds.Csr 0x14 0x004000 ∷ entry 15 kinds.Immediate 0x3A 0x000408
    ∷ unit_entries 0 (suc n)

-- a root directory before a unit directory
root-first : (eui : ℕ) (unit : List ℕ) → eui < 2 ^ 64 → HasRoot (first_quad eui ∷ 0x31333934 ∷ 0 ∷ eui / 2 ^ 32 ∷ eui % 2 ^ 32 ∷ (3 * 2 ^ 16 + sum_of (root_quads eui 1)) ∷ (0x03000000 + eui / 2 ^ 40) ∷ 0x0C0083C0 ∷ 0xD1000001 ∷ unit) 3 (root_found eui)
unfolding entry_at
root-first eui unit l = root-is eui 3 (root_quads eui 1) ((0x03000000 + eui / 2 ^ 40) ∷ 0x0C0083C0 ∷ 0xD1000001 ∷ unit) (root_found eui) refl (omega arith) (ap (λ e. e ∷ entry 7 kinds.Immediate 0x0C 0x0083C0 ∷ unit_entry ∷ []) (vendor_entry (eui / 2 ^ 40) (top_lt eui l))) refl

tree-one : (eui : ℕ) → eui < 2 ^ 64 → RomTree (made eui 1) (made_blocks 1) (made_entries eui 1)
unfolding made entry_at
tree-one eui l = root-and-unit (made eui 1) 3 7 (root_found eui) (unit_found 0) (root-first eui (headed (unit_quads 1)) l) (unit-is (made eui 1) (unit_quads 1) 7 (unit_found 0) refl refl (omega arith) refl refl) refl (inr (inr (inl refl)))

tree-two : (eui : ℕ) → eui < 2 ^ 64 → RomTree (made eui 2) (made_blocks 2) (made_entries eui 2)
unfolding made entry_at
tree-two eui l = root-and-unit (made eui 2) 3 8 (root_found eui) (unit_found 1) (root-first eui (headed (unit_quads 2)) l) (unit-is (made eui 2) (unit_quads 2) 8 (unit_found 1) refl refl (omega arith) refl refl) refl (inr (inr (inl refl)))

tree-three : (eui : ℕ) → eui < 2 ^ 64 → RomTree (made eui 3) (made_blocks 3) (made_entries eui 3)
unfolding made entry_at
tree-three eui l = root-and-unit (made eui 3) 3 9 (root_found eui) (unit_found 2) (root-first eui (headed (unit_quads 3)) l) (unit-is (made eui 3) (unit_quads 3) 9 (unit_found 2) refl refl (omega arith) refl refl) refl (inr (inr (inl refl)))

tree-four : (eui : ℕ) → eui < 2 ^ 64 → RomTree (made eui 4) (made_blocks 4) (made_entries eui 4)
unfolding made entry_at
tree-four eui l = root-and-unit (made eui 4) 3 10 (root_found eui) (unit_found 3) (root-first eui (headed (unit_quads 4)) l) (unit-is (made eui 4) (unit_quads 4) 10 (unit_found 3) refl refl (omega arith) refl refl) refl (inr (inr (inl refl)))

pub made-tree : (eui units : ℕ) → eui < 2 ^ 64 → units ≤ 4 → RomTree (made eui units) (made_blocks units) (made_entries eui units)
made-tree eui zero l h = tree-zero eui l
made-tree eui (suc zero) l h = tree-one eui l
made-tree eui (suc (suc zero)) l h = tree-two eui l
made-tree eui (suc (suc (suc zero))) l h = tree-three eui l
made-tree eui (suc (suc (suc (suc zero)))) l h = tree-four eui l
made-tree eui (suc (suc (suc (suc (suc units))))) l h = absurd (omega arith)

made-head : (eui units : ℕ) → eui < 2 ^ 64 → (eui_of (made eui units) ≡ eui) × (bus_sum_is_right (made eui units) ≡ true)
unfolding made
made-head eui units l = head-is eui (headed (root_quads eui units) ++ units_headed units) l

pub made-read : (eui units : ℕ) → eui < 2 ^ 64 → units ≤ 4 → reading (made eui units) ≡ Ok (record { blocks = made_blocks units; entries = made_entries eui units; eui = eui; bus_sum_is_right = true })
made-read eui units l h = by (outcome (made eui units))
  where
    by : Outcome (made eui units) (reading (made eui units)) → reading (made eui units) ≡ Ok (record { blocks = made_blocks units; entries = made_entries eui units; eui = eui; bus_sum_is_right = true })
    by (failed fault e f) = absurd (tree-or-fault (made eui units) (made_blocks units) (made_entries eui units) fault (made-tree eui units l h) f)
    by (whole tree e t) =
        let (blocks, entries) = one-tree (made eui units) tree.blocks (made_blocks units) tree.entries (made_entries eui units) t (made-tree eui units l h) in
        let (eui-is, sum-is) = head-of (made eui units) tree e in
        let (eui-here, sum-here) = made-head eui units l in
        e ∙ ap Ok (same-tree tree (made_blocks units) (made_entries eui units) eui true blocks entries (eui-is ∙ eui-here) (sum-is ∙ sum-here))
      where
        same-tree : (tree : Tree) (bs : List Block) (es : List Entry) (n : ℕ) (b : Bool) → tree.blocks ≡ bs → tree.entries ≡ es → tree.eui ≡ n → tree.bus_sum_is_right ≡ b → tree ≡ record { blocks = bs; entries = es; eui = n; bus_sum_is_right = b }
        same-tree tree bs es n b e f g h = rw (← e, ← f, ← g, ← h) refl

pub made-unit : (eui units : ℕ) → units ≤ 4 → sbp_unit_of (made_blocks units) (made_entries eui units) ≡ made_unit units
unfolding sbp_unit_of names
made-unit eui zero h = refl
made-unit eui (suc zero) h = refl
made-unit eui (suc (suc zero)) h = refl
made-unit eui (suc (suc (suc zero))) h = refl
made-unit eui (suc (suc (suc (suc zero)))) h = refl
made-unit eui (suc (suc (suc (suc (suc units))))) h = absurd (omega arith)
