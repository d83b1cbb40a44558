-- What the reading gives is the configuration ROM, or the first fault.
use Rattle.std.proofs.Common.{◌≡◌, ◌∙◌, refl, sym, ap, subst, ℕ, zero, suc, ◌+◌, ◌*◌, ◌<◌, ◌≤◌, ◌⊎◌, inl, inr, Bool, true, false, cond, List, [], ◌∷◌, ◌++◌, length, append-nil, Option, Some, None, Result, Ok, Err, arith}
use Rattle.std.specs.Prelude.{IsTrue}
use Rattle.std.specs.List.{flat_map}
use Rattle.std.proofs.lemmas.Bool.{cases_order, both_ways}
use Rattle.std.proofs.lemmas.List.Concat.{flat_map-append}
use Rattle.config_rom.specs.declared.fault.RomFault.{RomFault}
use Rattle.config_rom.specs.declared.block.Block.{Block}
use Rattle.config_rom.specs.Tree.{has_name, block_at, entries_of, block_fault, IsIn, turn_at, turn_of, IsNamed, TreeBelow, StopsAt}
use Rattle.config_rom.specs.Reading.{Tree, ◌>>=◌, is_named, with_block, add_block, turn, turns}
use Rattle.config_rom.proofs.Trees.{in-left, in-right, in-push, in-append, names-later, same-turn, rises-push, named-true, named-from, named-more}

-- the tree so far, read below a limit
abbrev pub Kept : ℕ → List ℕ → Tree → Type 0
Kept limit quads tree = TreeBelow limit quads tree.blocks tree.entries

at-limit : (a b : ℕ) → a < suc b → (a < b) ⊎ (a ≡ b)
at-limit a b l = elim (cases_order a b) [ inl e ↦ inr e | inr o ↦ elim o [ inl k ↦ inl k | inr k ↦ absurd (omega arith) ] ]

-- a header that is not named has its turn with nothing read
skipped : (quads : List ℕ) (at : ℕ) (is_directory : Bool) (tree : Tree) → Kept (turn_at at is_directory) quads tree → is_named quads tree.entries at is_directory ≡ false → Kept (suc (turn_at at is_directory)) quads tree
skipped quads at is_directory tree t n = record {
  rising = t.rising;
  below = λ b h. (let below = t.below b h in omega arith);
  stands = t.stands;
  sound = t.sound;
  only = t.only;
  each = λ a d m l. each a d m (at-limit (turn_at a d) (turn_at at is_directory) l);
  listed = t.listed;
}
  where
    each : (a : ℕ) (d : Bool) → IsNamed quads tree.entries a d → (turn_at a d < turn_at at is_directory) ⊎ (turn_at a d ≡ turn_at at is_directory) → IsIn (block_at quads a d) tree.blocks
    each a d m (inl l) = t.each a d m l
    each a d m (inr e) =
        let (same, kind) = same-turn a at d is_directory e in
        let P : ℕ → Bool → Type 0 = λ x y. IsNamed quads tree.entries x y in
        let here : IsNamed quads tree.entries at is_directory = subst (λ y. P at y) kind (subst (λ x. P x d) same m) in
        absurd (both_ways (is_named quads tree.entries at is_directory) n (named-from quads tree.entries at is_directory here))

-- a named header without a fault has its turn with its block read
added : (quads : List ℕ) (at : ℕ) (is_directory : Bool) (tree : Tree) → Kept (turn_at at is_directory) quads tree → IsNamed quads tree.entries at is_directory → block_fault quads at is_directory ≡ None → Kept (suc (turn_at at is_directory)) quads (with_block quads (block_at quads at is_directory) tree)
unfolding block_at
added quads at is_directory tree t n s =
    let block = block_at quads at is_directory in
    let own = entries_of quads block in
    record {
      rising = rises-push 0 (turn_at at is_directory) tree.blocks block t.rising t.below (omega arith) refl;
      below = λ b h. below b (in-push b tree.blocks block h);
      stands = λ b h. stands b (in-push b tree.blocks block h);
      sound = λ b h. sound b (in-push b tree.blocks block h);
      only = λ b h. named-more quads tree.entries own b.at b.is_directory (only b (in-push b tree.blocks block h));
      each = λ a d m l. each a d m l;
      listed = ap (λ es. es ++ own) t.listed ∙ ap (λ es. flat_map (entries_of quads) tree.blocks ++ es) (sym (append-nil own)) ∙ sym (flat_map-append (entries_of quads) tree.blocks (block ∷ []));
    }
  where
    below : (b : Block) → IsIn b tree.blocks ⊎ (b ≡ block_at quads at is_directory) → turn_of b < suc (turn_at at is_directory)
    below b (inl h) = let l = t.below b h in omega arith
    below b (inr e) = let same : turn_of b ≡ turn_at at is_directory = ap turn_of e in omega arith

    stands : (b : Block) → IsIn b tree.blocks ⊎ (b ≡ block_at quads at is_directory) → b ≡ block_at quads b.at b.is_directory
    stands b (inl h) = t.stands b h
    stands b (inr e) = e ∙ ap (λ c. block_at quads c.at c.is_directory) (sym e)

    sound : (b : Block) → IsIn b tree.blocks ⊎ (b ≡ block_at quads at is_directory) → block_fault quads b.at b.is_directory ≡ None
    sound b (inl h) = t.sound b h
    sound b (inr e) = ap (λ c. block_fault quads c.at c.is_directory) e ∙ s

    only : (b : Block) → IsIn b tree.blocks ⊎ (b ≡ block_at quads at is_directory) → IsNamed quads tree.entries b.at b.is_directory
    only b (inl h) = t.only b h
    only b (inr e) = let P : Block → Type 0 = λ c. IsNamed quads tree.entries c.at c.is_directory in subst P (sym e) n

    old : (a : ℕ) (d : Bool) → IsNamed quads tree.entries a d → (turn_at a d < turn_at at is_directory) ⊎ (turn_at a d ≡ turn_at at is_directory) → IsIn (block_at quads a d) (tree.blocks ++ block_at quads at is_directory ∷ [])
    old a d m (inl l) = in-left (block_at quads a d) tree.blocks (block_at quads at is_directory ∷ []) (t.each a d m l)
    old a d m (inr e) =
        let (same, kind) = same-turn a at d is_directory e in
        in-right (block_at quads a d) tree.blocks (block_at quads at is_directory ∷ []) (inl (ap (λ x. block_at quads x d) same ∙ ap (λ y. block_at quads at y) kind))

    each : (a : ℕ) (d : Bool) → IsNamed quads (tree.entries ++ entries_of quads (block_at quads at is_directory)) a d → turn_at a d < suc (turn_at at is_directory) → IsIn (block_at quads a d) (tree.blocks ++ block_at quads at is_directory ∷ [])
    each a d (inl m) l = old a d (inl m) (at-limit (turn_at a d) (turn_at at is_directory) l)
    each a d (inr (entry, here, m)) l =
        elim (in-append entry tree.entries (entries_of quads (block_at quads at is_directory)) here) [
          | inl k ↦ old a d (inr (entry, k, m)) (at-limit (turn_at a d) (turn_at at is_directory) l)
          | inr k ↦ let later = names-later quads (block_at quads at is_directory) entry a d k m in absurd (omega arith)
        ]

-- what a turn gives
pub data Turned (limit : ℕ) (quads : List ℕ) (read : Result Tree RomFault) : Type 0 where
  goes : (tree : Tree) → read ≡ Ok tree → Kept limit quads tree → Turned limit quads read
  ends : (fault : RomFault) → read ≡ Err fault → StopsAt quads fault → Turned limit quads read

-- the quadlets of a configuration ROM
pub record IsLong (quads : List ℕ) : Type 0 where
  pub long : 6 ≤ length quads
  pub name : IsTrue (has_name quads)

turned : (quads : List ℕ) (at : ℕ) (is_directory : Bool) (tree : Tree) → IsLong quads → Kept (turn_at at is_directory) quads tree → Turned (suc (turn_at at is_directory)) quads (turn quads at is_directory tree)
unfolding turn
turned quads at is_directory tree q t = step (is_named quads tree.entries at is_directory) refl (block_fault quads at is_directory) refl
  where
    step : (b : Bool) → is_named quads tree.entries at is_directory ≡ b → (o : Option RomFault) → block_fault quads at is_directory ≡ o → Turned (suc (turn_at at is_directory)) quads (cond b (add_block quads at is_directory o tree) (Ok tree))
    step false e o f = goes tree refl (skipped quads at is_directory tree t e)
    step true e None f = goes (with_block quads (block_at quads at is_directory) tree) refl (added quads at is_directory tree t (named-true quads tree.entries at is_directory e) f)
    step true e (Some fault) f = ends fault refl (record {
      at = at;
      is_directory = is_directory;
      blocks = tree.blocks;
      entries = tree.entries;
      long = q.long;
      name = q.name;
      before = t;
      named = named-true quads tree.entries at is_directory e;
      fault = f;
    })

pub moved : (limit end : ℕ) (quads : List ℕ) (read : Result Tree RomFault) → limit ≡ end → Turned limit quads read → Turned end quads read
moved limit end quads read e t = let P : ℕ → Type 0 = λ n. Turned n quads read in subst P e t

-- a reading goes on from what was read
pub bound : (limit end : ℕ) (quads : List ℕ) (read : Result Tree RomFault) (next : Tree → Result Tree RomFault) → Turned limit quads read → ((tree : Tree) → Kept limit quads tree → Turned end quads (next tree)) → Turned end quads (read >>= next)
bound limit end quads read next (goes tree e k) h = let P : Result Tree RomFault → Type 0 = λ r. Turned end quads (r >>= next) in subst P (sym e) (h tree k)
bound limit end quads read next (ends fault e s) h = let P : Result Tree RomFault → Type 0 = λ r. Turned end quads (r >>= next) in subst P (sym e) (ends fault refl s)

-- the turns of positions
pub all-turned : (quads : List ℕ) (count at : ℕ) (tree : Tree) → IsLong quads → Kept (2 * at) quads tree → Turned (2 * (at + count)) quads (turns quads count at tree)
all-turned quads zero at tree q t = goes tree refl (let P : ℕ → Type 0 = λ n. Kept n quads tree in subst P (omega arith) t)
all-turned quads (suc count) at tree q t =
    let e : 2 * at ≡ turn_at at true = omega arith in
    let P : ℕ → Type 0 = λ n. Kept n quads tree in
    let first = moved (suc (turn_at at true)) (turn_at at false) quads (turn quads at true tree) (omega arith) (turned quads at true tree q (subst P e t)) in
    let second = bound (turn_at at false) (2 * suc at) quads (turn quads at true tree) (turn quads at false) first (λ s k. moved (suc (turn_at at false)) (2 * suc at) quads (turn quads at false s) (omega arith) (turned quads at false s q k)) in
    moved (2 * (suc at + count)) (2 * (at + suc count)) quads (turns quads (suc count) at tree) (omega arith) (bound (2 * suc at) (2 * (suc at + count)) quads (turn quads at true tree >>= turn quads at false) (turns quads count (suc at)) second (λ s k. all-turned quads count (suc at) s q k))
