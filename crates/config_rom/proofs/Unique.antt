-- Quadlets have one configuration ROM, or one first fault.
use Rattle.std.proofs.Common.{◌≡◌, ◌∙◌, refl, sym, ap, subst, ℕ, zero, suc, ◌+◌, ◌*◌, ◌<◌, ◌≤◌, inl, inr, Bool, true, false, cond, List, [], ◌∷◌, length, Option, Some, None, arith}
use Rattle.std.specs.List.{flat_map}
use Rattle.std.proofs.lemmas.Bool.{leb-false, or_parts, cases_order, both_ways}
use Rattle.config_rom.specs.declared.fault.RomFault.{RomFault}
use Rattle.config_rom.specs.declared.fault.RomFault.TheVariants as faults
use Rattle.config_rom.specs.declared.block.Block.{Block}
use Rattle.config_rom.specs.declared.block.Entry.{Entry}
use Rattle.config_rom.specs.Tree.{has_name, block_at, entries_of, block_fault, IsIn, turn_at, turn_of, Rises, IsNamed, TreeBelow, RomTree, StopsAt, FirstFault}
use Rattle.config_rom.proofs.Trees.{in-flat, from-flat, names-later, same-turn, rises-above}

-- two rising lists of the same blocks are equal
heads : (least : ℕ) (x y : Block) (xs ys : List Block) → Rises least (x ∷ xs) → Rises least (y ∷ ys) → IsIn x (y ∷ ys) → IsIn y (x ∷ xs) → x ≡ y
heads least x y xs ys r s (inl e) k = e
heads least x y xs ys r s (inr h) (inl e) = sym e
heads least x y xs ys (a, r) (b, s) (inr h) (inr k) =
    let first = rises-above (suc (turn_of y)) ys x s h in
    let second = rises-above (suc (turn_of x)) xs y r k in
    absurd (omega arith)

tails : (least : ℕ) (x y z : Block) (xs ys : List Block) → Rises least (x ∷ xs) → x ≡ y → IsIn z xs → IsIn z (y ∷ ys) → IsIn z ys
tails least x y z xs ys r e h (inr k) = k
tails least x y z xs ys (a, r) e h (inl f) =
    let later = rises-above (suc (turn_of x)) xs z r h in
    let same : turn_of z ≡ turn_of x = ap turn_of (f ∙ sym e) in
    absurd (omega arith)

pub one-list : (least : ℕ) (xs ys : List Block) → Rises least xs → Rises least ys → ((b : Block) → IsIn b xs → IsIn b ys) → ((b : Block) → IsIn b ys → IsIn b xs) → xs ≡ ys
one-list least [] [] r s h k = refl
one-list least [] (y ∷ ys) r s h k = absurd (k y (inl refl))
one-list least (x ∷ xs) [] r s h k = absurd (h x (inl refl))
one-list least (x ∷ xs) (y ∷ ys) r s h k =
    let e = heads least x y xs ys r s (h x (inl refl)) (k y (inl refl)) in
    let P : Block → Type 0 = λ b. Rises (suc (turn_of b)) ys in
    let rest = one-list (suc (turn_of x)) xs ys r.1 (subst P (sym e) s.1) (λ b i. tails least x y b xs ys r e i (h b (inr i))) (λ b i. tails least y x b ys xs s (sym e) i (k b (inr i))) in
    ap (λ b. b ∷ xs) e ∙ ap (λ bs. y ∷ bs) rest

-- a header that is named in one tree is named in another that holds its blocks
named-along : (quads : List ℕ) (blocks others : List Block) (entries rest : List Entry) (at : ℕ) (is_directory : Bool) → entries ≡ flat_map (entries_of quads) blocks → rest ≡ flat_map (entries_of quads) others → ((block : Block) → IsIn block blocks → turn_of block < turn_at at is_directory → IsIn block others) → IsNamed quads entries at is_directory → IsNamed quads rest at is_directory
named-along quads blocks others entries rest at is_directory e f h (inl n) = inl n
named-along quads blocks others entries rest at is_directory e f h (inr (entry, here, n)) =
    let P : List Entry → Type 0 = λ es. IsIn entry es in
    let (block, listed, own) = from-flat quads entry blocks (subst P e here) in
    let later = names-later quads block entry at is_directory own n in
    inr (entry, subst P (sym f) (in-flat quads entry block others (h block listed (omega arith)) own), n)

-- what is read below a limit is read below a higher one
included : (quads : List ℕ) (low high : ℕ) (blocks others : List Block) (entries rest : List Entry) → TreeBelow low quads blocks entries → TreeBelow high quads others rest → low ≤ high → (bound : ℕ) → (block : Block) → IsIn block blocks → turn_of block < bound → IsIn block others
included quads low high blocks others entries rest t u o zero block h l = absurd (omega arith)
included quads low high blocks others entries rest t u o (suc bound) block h l =
    let below = t.below block h in
    let earlier : (b : Block) → IsIn b blocks → turn_of b < turn_of block → IsIn b others = λ b i k. included quads low high blocks others entries rest t u o bound b i (omega (arith, k)) in
    let named = named-along quads blocks others entries rest block.at block.is_directory t.listed u.listed earlier (t.only block h) in
    let P : Block → Type 0 = λ b. IsIn b others in
    subst P (sym (t.stands block h)) (u.each block.at block.is_directory named (omega arith))

-- a block without a fault stands inside
passes : {A : Type 0} (b : Bool) (x : A) (o : Option A) → cond b (Some x) o ≡ None → b ≡ false
passes true x o e = cc e
passes false x o e = refl

pub sound-inside : (quads : List ℕ) (at : ℕ) (is_directory : Bool) → block_fault quads at is_directory ≡ None → at < length quads
unfolding block_fault
sound-inside quads at is_directory h = leb-false (length quads) at (or_parts _ _ (passes _ _ _ h)).0

turn-inside : (at end : ℕ) (is_directory : Bool) → at < end → turn_at at is_directory < 2 * end
turn-inside at end true h = omega arith
turn-inside at end false h = omega arith

-- a whole tree is one below each limit behind the end
tree-below : (quads : List ℕ) (blocks : List Block) (entries : List Entry) (limit : ℕ) → RomTree quads blocks entries → 2 * length quads ≤ limit → TreeBelow limit quads blocks entries
tree-below quads blocks entries limit t l = record {
  rising = t.rising;
  below = λ b h. (let inside = turn-inside b.at (length quads) b.is_directory (sound-inside quads b.at b.is_directory (t.sound b h)) in omega arith);
  stands = t.stands;
  sound = t.sound;
  only = t.only;
  each = λ at d n k. t.each at d n;
  listed = t.listed;
}

holds-all : (quads : List ℕ) (blocks others : List Block) (entries rest : List Entry) → RomTree quads blocks entries → RomTree quads others rest → (b : Block) → IsIn b blocks → IsIn b others
holds-all quads blocks others entries rest t u b h =
    included quads (2 * length quads) (2 * length quads) blocks others entries rest (tree-below quads blocks entries _ t (omega arith)) (tree-below quads others rest _ u (omega arith)) (omega arith) (suc (turn_of b)) b h (omega arith)

pub one-tree : (quads : List ℕ) (blocks others : List Block) (entries rest : List Entry) → RomTree quads blocks entries → RomTree quads others rest → (blocks ≡ others) × (entries ≡ rest)
one-tree quads blocks others entries rest t u =
    let same = one-list 0 blocks others t.rising u.rising (holds-all quads blocks others entries rest t u) (holds-all quads others blocks rest entries u t) in
    (same, t.listed ∙ ap (λ bs. flat_map (entries_of quads) bs) same ∙ sym u.listed)

-- where reading stops at a block, no tree goes on behind it
stops-here : (quads : List ℕ) (fault : RomFault) (high : ℕ) (others : List Block) (rest : List Entry) → (s : StopsAt quads fault) → TreeBelow high quads others rest → turn_at s.at s.is_directory < high → ⊥
unfolding block_at
stops-here quads fault high others rest s u l =
    let all : (b : Block) → IsIn b s.blocks → turn_of b < turn_at s.at s.is_directory → IsIn b others = λ b i k. included quads (turn_at s.at s.is_directory) high s.blocks others s.entries rest s.before u (omega arith) (turn_at s.at s.is_directory) b i k in
    let named = named-along quads s.blocks others s.entries rest s.at s.is_directory s.before.listed u.listed all s.named in
    let sound : block_fault quads s.at s.is_directory ≡ None = u.sound (block_at quads s.at s.is_directory) (u.each s.at s.is_directory named l) in
    some-none (sym s.fault ∙ sound)
  where
    some-none : {A : Type 0} {x : A} → Some x ≡ None → ⊥
    some-none e = cc e

stops-same : (quads : List ℕ) (first second : RomFault) → StopsAt quads first → StopsAt quads second → first ≡ second
stops-same quads first second s t =
    elim (cases_order (turn_at s.at s.is_directory) (turn_at t.at t.is_directory)) [
      | inl e ↦ here (same-turn s.at t.at s.is_directory t.is_directory e)
      | inr o ↦ elim o [
        | inl l ↦ absurd (stops-here quads first (turn_at t.at t.is_directory) t.blocks t.entries s t.before l)
        | inr l ↦ absurd (stops-here quads second (turn_at s.at s.is_directory) s.blocks s.entries t s.before l)
      ]
    ]
  where
    here : (s.at ≡ t.at) × (s.is_directory ≡ t.is_directory) → first ≡ second
    here (a, d) = let e : Some first ≡ Some second = sym s.fault ∙ ap (λ n. block_fault quads n s.is_directory) a ∙ ap (λ b. block_fault quads t.at b) d ∙ t.fault in cc e

-- the three kinds of a first fault
data Kind (quads : List ℕ) (fault : RomFault) : Type 0 where
  short : length quads < 6 → fault ≡ faults.Short 6 → Kind quads fault
  unnamed : 6 ≤ length quads → has_name quads ≡ false → fault ≡ faults.Name → Kind quads fault
  stops : StopsAt quads fault → Kind quads fault

kind-of : (quads : List ℕ) (fault : RomFault) → FirstFault quads fault → Kind quads fault
kind-of quads (faults.Short need) (e, l) = short l (ap faults.Short e)
kind-of quads faults.Name (l, n) = unnamed l n refl
kind-of quads (faults.Entry at) s = stops s
kind-of quads (faults.Outside at) s = stops s
kind-of quads faults.NoMemory h = absurd h

same-kind : (quads : List ℕ) (first second : RomFault) → Kind quads first → Kind quads second → first ≡ second
same-kind quads first second (short l e) (short m f) = e ∙ sym f
same-kind quads first second (short l e) (unnamed m n f) = absurd (omega arith)
same-kind quads first second (short l e) (stops s) = let long = s.long in absurd (omega arith)
same-kind quads first second (unnamed m n f) (short l e) = absurd (omega arith)
same-kind quads first second (unnamed m n f) (unnamed l o e) = f ∙ sym e
same-kind quads first second (unnamed m n f) (stops s) = absurd (both_ways (has_name quads) n s.name)
same-kind quads first second (stops s) (short l e) = let long = s.long in absurd (omega arith)
same-kind quads first second (stops s) (unnamed m n f) = absurd (both_ways (has_name quads) n s.name)
same-kind quads first second (stops s) (stops t) = stops-same quads first second s t

pub one-fault : (quads : List ℕ) (first second : RomFault) → FirstFault quads first → FirstFault quads second → first ≡ second
one-fault quads first second h k = same-kind quads first second (kind-of quads first h) (kind-of quads second k)

no-kind : (quads : List ℕ) (blocks : List Block) (entries : List Entry) (fault : RomFault) → RomTree quads blocks entries → Kind quads fault → ⊥
no-kind quads blocks entries fault t (short l e) = let long = t.long in omega arith
no-kind quads blocks entries fault t (unnamed m n f) = both_ways (has_name quads) n t.name
no-kind quads blocks entries fault t (stops s) =
    let limit = 2 * length quads + suc (turn_at s.at s.is_directory) in
    stops-here quads fault limit blocks entries s (tree-below quads blocks entries limit t (omega arith)) (omega arith)

pub tree-or-fault : (quads : List ℕ) (blocks : List Block) (entries : List Entry) (fault : RomFault) → RomTree quads blocks entries → FirstFault quads fault → ⊥
tree-or-fault quads blocks entries fault t h = no-kind quads blocks entries fault t (kind-of quads fault h)
