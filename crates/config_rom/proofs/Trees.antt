-- What the reading gives is the configuration ROM of the quadlets.
use Rattle.std.proofs.Common.{◌≡◌, ◌∙◌, refl, sym, ap, subst, ℕ, zero, suc, ◌+◌, ◌*◌, ◌<◌, ◌≤◌, ◌==◌, ◌⊎◌, inl, inr, Bool, true, false, cond, ◌&&◌, List, [], ◌∷◌, ◌++◌, arith}
use Rattle.std.specs.List.{list_any, flat_map}
use Rattle.std.proofs.lemmas.Bool.{eqb-true, eq-eqb, and_parts, and_from, or_cases, or_left, or_right}
use Rattle.config_rom.specs.declared.block.Block.{Block}
use Rattle.config_rom.specs.declared.block.Entry.{Entry}
use Rattle.config_rom.specs.Tree.{root_of, entry_at, entries_from, entries_of, names_kind, names, IsIn, turn_at, turn_of, Rises, IsNamed}
use Rattle.config_rom.specs.Reading.{is_named}

-- ---- lists

pub in-left : {A : Type 0} (x : A) (xs ys : List A) → IsIn x xs → IsIn x (xs ++ ys)
in-left x [] ys h = absurd h
in-left x (y ∷ xs) ys (inl e) = inl e
in-left x (y ∷ xs) ys (inr h) = inr (in-left x xs ys h)

pub in-right : {A : Type 0} (x : A) (xs ys : List A) → IsIn x ys → IsIn x (xs ++ ys)
in-right x [] ys h = h
in-right x (y ∷ xs) ys h = inr (in-right x xs ys h)

pub in-append : {A : Type 0} (x : A) (xs ys : List A) → IsIn x (xs ++ ys) → IsIn x xs ⊎ IsIn x ys
in-append x [] ys h = inr h
in-append x (y ∷ xs) ys (inl e) = inl (inl e)
in-append x (y ∷ xs) ys (inr h) = elim (in-append x xs ys h) [ inl k ↦ inl (inr k) | inr k ↦ inr k ]

pub in-push : {A : Type 0} (x : A) (xs : List A) (y : A) → IsIn x (xs ++ y ∷ []) → IsIn x xs ⊎ (x ≡ y)
in-push x xs y h = elim (in-append x xs (y ∷ []) h) [ inl k ↦ inl k | inr k ↦ elim k [ inl e ↦ inr e | inr n ↦ absurd n ] ]

-- an entry of one of the blocks is among all entries, and the other way round
pub in-flat : (quads : List ℕ) (entry : Entry) (block : Block) (blocks : List Block) → IsIn block blocks → IsIn entry (entries_of quads block) → IsIn entry (flat_map (entries_of quads) blocks)
in-flat quads entry block [] h k = absurd h
in-flat quads entry block (first ∷ blocks) (inl e) k = in-left entry (entries_of quads first) _ (let P : Block → Type 0 = λ b. IsIn entry (entries_of quads b) in subst P e k)
in-flat quads entry block (first ∷ blocks) (inr h) k = in-right entry (entries_of quads first) _ (in-flat quads entry block blocks h k)

pub from-flat : (quads : List ℕ) (entry : Entry) (blocks : List Block) → IsIn entry (flat_map (entries_of quads) blocks) → (block : Block) × IsIn block blocks × IsIn entry (entries_of quads block)
from-flat quads entry [] h = absurd h
from-flat quads entry (first ∷ blocks) h =
    elim (in-append entry (entries_of quads first) (flat_map (entries_of quads) blocks) h) [
      | inl k ↦ (first, inl refl, k)
      | inr k ↦ let (block, here, there) = from-flat quads entry blocks k in (block, inr here, there)
    ]

-- ---- entries

-- the entries of a directory stand behind its header
pub entries-behind : (quads : List ℕ) (at count : ℕ) (entry : Entry) → IsIn entry (entries_from quads at count) → at ≤ entry.at
unfolding entry_at
entries-behind quads at zero entry h = absurd h
entries-behind quads at (suc count) entry (inl e) = let same : entry.at ≡ at = ap (λ x. x.at) e in omega arith
entries-behind quads at (suc count) entry (inr h) = let later = entries-behind quads (suc at) count entry h in omega arith

-- only a directory has entries
pub record Behind (block : Block) (entry : Entry) : Type 0 where
  pub directory : block.is_directory ≡ true
  pub behind : block.at < entry.at

pub own-entries : (quads : List ℕ) (block : Block) (entry : Entry) → IsIn entry (entries_of quads block) → Behind block entry
own-entries quads block entry h = own block.is_directory refl h
  where
    own : (b : Bool) → block.is_directory ≡ b → IsIn entry (cond b (entries_from quads (suc block.at) block.length) []) → Behind block entry
    own true e h = record { directory = e; behind = entries-behind quads (suc block.at) block.length entry h }
    own false e h = absurd h

-- the header that an entry names
pub names-target : (at : ℕ) (is_directory : Bool) (entry : Entry) → names at is_directory entry ≡ true → (names_kind entry.kind is_directory ≡ true) × (entry.at + entry.value ≡ at)
unfolding names
names-target at is_directory entry h = let (k, e) = and_parts _ _ h in (k, eqb-true _ _ e)

-- a named header comes behind its naming directory's turn
pub names-later : (quads : List ℕ) (block : Block) (entry : Entry) (at : ℕ) (is_directory : Bool) → IsIn entry (entries_of quads block) → names at is_directory entry ≡ true → turn_of block + 2 ≤ turn_at at is_directory
names-later quads block entry at is_directory h n =
    let own = own-entries quads block entry h in
    let here = (names-target at is_directory entry n).1 in
    let turn : turn_of block ≡ 2 * block.at = ap (λ b. 2 * block.at + cond b 0 1) own.directory ∙ omega arith in
    let behind = own.behind in
    rw turn (above is_directory (omega arith))
  where
    above : (b : Bool) → suc block.at ≤ at → 2 * block.at + 2 ≤ turn_at at b
    above true h = omega arith
    above false h = omega arith

-- ---- turns

pub same-turn : (a b : ℕ) (c d : Bool) → turn_at a c ≡ turn_at b d → (a ≡ b) × (c ≡ d)
same-turn a b true true e = (omega arith, refl)
same-turn a b false false e = (omega arith, refl)
same-turn a b true false e = absurd (omega arith)
same-turn a b false true e = absurd (omega arith)

pub rises-push : (least limit : ℕ) (blocks : List Block) (block : Block) → Rises least blocks → ((b : Block) → IsIn b blocks → turn_of b < limit) → least ≤ limit → turn_of block ≡ limit → Rises least (blocks ++ block ∷ [])
rises-push least limit [] block r below l e = (rw e l, tt)
rises-push least limit (first ∷ blocks) block (h, r) below l e = (h, rises-push (suc (turn_of first)) limit blocks block r (λ b k. below b (inr k)) (below first (inl refl)) e)

pub rises-above : (least : ℕ) (blocks : List Block) (block : Block) → Rises least blocks → IsIn block blocks → least ≤ turn_of block
rises-above least [] block r h = absurd h
rises-above least (first ∷ blocks) block (l, r) (inl e) = rw e l
rises-above least (first ∷ blocks) block (l, r) (inr h) = let later = rises-above (suc (turn_of first)) blocks block r h in omega arith

-- ---- named headers

pub any-in : (p : Entry → Bool) (entries : List Entry) → list_any p entries ≡ true → (entry : Entry) × IsIn entry entries × (p entry ≡ true)
any-in p [] h = cc h
any-in p (entry ∷ entries) h =
    elim (or_cases (p entry) (list_any p entries) h) [
      | inl k ↦ (entry, inl refl, k)
      | inr k ↦ let (found, here, holds) = any-in p entries k in (found, inr here, holds)
    ]

pub in-any : (p : Entry → Bool) (entries : List Entry) (entry : Entry) → IsIn entry entries → p entry ≡ true → list_any p entries ≡ true
in-any p [] entry h k = absurd h
in-any p (first ∷ entries) entry (inl e) k = or_left (p first) (list_any p entries) (ap p (sym e) ∙ k)
in-any p (first ∷ entries) entry (inr h) k = or_right (p first) (list_any p entries) (in-any p entries entry h k)

pub named-true : (quads : List ℕ) (entries : List Entry) (at : ℕ) (is_directory : Bool) → is_named quads entries at is_directory ≡ true → IsNamed quads entries at is_directory
named-true quads entries at is_directory h =
    elim (or_cases _ _ h) [
      | inl k ↦ let (a, b) = and_parts _ _ k in inl (eqb-true _ _ a, b)
      | inr k ↦ let (entry, here, n) = any-in (names at is_directory) entries k in inr (entry, here, n)
    ]

pub named-from : (quads : List ℕ) (entries : List Entry) (at : ℕ) (is_directory : Bool) → IsNamed quads entries at is_directory → is_named quads entries at is_directory ≡ true
named-from quads entries at is_directory (inl (e, d)) = or_left ((at == root_of quads) && is_directory) (list_any (names at is_directory) entries) (and_from (at == root_of quads) is_directory (eq-eqb at (root_of quads) e) d)
named-from quads entries at is_directory (inr (entry, here, n)) = or_right ((at == root_of quads) && is_directory) (list_any (names at is_directory) entries) (in-any (names at is_directory) entries entry here n)

pub named-more : (quads : List ℕ) (entries more : List Entry) (at : ℕ) (is_directory : Bool) → IsNamed quads entries at is_directory → IsNamed quads (entries ++ more) at is_directory
named-more quads entries more at is_directory (inl h) = inl h
named-more quads entries more at is_directory (inr (entry, here, n)) = inr (entry, in-left entry entries more here, n)
