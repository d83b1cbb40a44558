-- The whole reading gives the configuration ROM, or the first fault.
use Rattle.std.proofs.Common.{◌≡◌, ◌∙◌, refl, sym, ap, subst, ℕ, ◌+◌, ◌-◌, ◌*◌, ◌<◌, ◌≤◌, ◌⊎◌, inl, inr, Bool, true, false, cond, ◌&&◌, ◌||◌, nat_le, nat_lt, List, [], ◌∷◌, length, Option, Some, None, Result, Ok, Err, arith}
use Rattle.std.specs.Prelude.{min, not}
use Rattle.std.specs.List.{list_any}
use Rattle.std.proofs.lemmas.Bool.{eq-eqb, leb-true, leb-false, le-leb, ltb-true, ltb-false, and_parts, and_from, or_cases, or_left, or_right, cases_lt, cases_order, both_ways}
use Rattle.config_rom.specs.declared.fault.RomFault.{RomFault}
use Rattle.config_rom.specs.declared.fault.RomFault.TheVariants as faults
use Rattle.config_rom.specs.declared.block.Entry.{Entry}
use Rattle.config_rom.specs.declared.block.EntryKind.{EntryKind}
use Rattle.config_rom.specs.Tree.{has_name, root_of, length_at, block_at, entries_of, names_kind, is_link, is_void, names, outside, block_fault, first_void, IsIn, turn_at, IsNamed, RomTree, StopsAt, FirstFault}
use Rattle.config_rom.specs.Reading.{Tree, ◌>>=◌, fresh, turns, nearer, beyond, lowest_beyond, inside, blocks_from, reading}
use Rattle.config_rom.proofs.Trees.{names-target, any-in, in-any}
use Rattle.config_rom.proofs.Sound.{Kept, Turned, goes, ends, IsLong, all-turned}

-- ---- headers behind the end

beyond-some : (end at : ℕ) (entry : Entry) → beyond end entry ≡ Some at → (is_link entry ≡ true) × (end ≤ at) × (entry.at + entry.value ≡ at)
beyond-some end at entry h = by (is_link entry && nat_le end (entry.at + entry.value)) refl h
  where
    by : (b : Bool) → (is_link entry && nat_le end (entry.at + entry.value)) ≡ b → cond b (Some (entry.at + entry.value)) None ≡ Some at → (is_link entry ≡ true) × (end ≤ at) × (entry.at + entry.value ≡ at)
    by false e f = cc f
    by true e f =
        let same : entry.at + entry.value ≡ at = cc f in
        let (link, behind) = and_parts _ _ e in
        let le = leb-true _ _ behind in
        (link, omega arith, same)

pub link-of : (kind : EntryKind) (is_directory : Bool) → names_kind kind is_directory ≡ true → (names_kind kind true || names_kind kind false) ≡ true
link-of kind true h = or_left (names_kind kind true) (names_kind kind false) h
link-of kind false h = or_right (names_kind kind true) (names_kind kind false) h

names-beyond : (end at : ℕ) (is_directory : Bool) (entry : Entry) → names at is_directory entry ≡ true → end ≤ at → beyond end entry ≡ Some at
names-beyond end at is_directory entry h l =
    let (kind, here) = names-target at is_directory entry h in
    let behind = le-leb end (entry.at + entry.value) (omega arith) in
    let both = and_from (is_link entry) (nat_le end (entry.at + entry.value)) (link-of entry.kind is_directory kind) behind in
    ap (λ b. cond b (Some (entry.at + entry.value)) None) both ∙ ap Some here

link-names : (at : ℕ) (entry : Entry) → is_link entry ≡ true → entry.at + entry.value ≡ at → (names at true entry ≡ true) ⊎ (names at false entry ≡ true)
unfolding names
link-names at entry h e =
    elim (or_cases (names_kind entry.kind true) (names_kind entry.kind false) h) [
      | inl k ↦ inl (and_from _ _ k (eq-eqb _ _ e))
      | inr k ↦ inr (and_from _ _ k (eq-eqb _ _ e))
    ]

nearer-none : (a b : Option ℕ) → nearer a b ≡ None → (a ≡ None) × (b ≡ None)
nearer-none None b h = (refl, h)
nearer-none (Some a) None h = cc h
nearer-none (Some a) (Some b) h = cc h

nearer-some : (a b : Option ℕ) (m : ℕ) → nearer a b ≡ Some m → (a ≡ Some m) ⊎ (b ≡ Some m)
nearer-some None b m h = inr h
nearer-some (Some a) None m h = inl h
nearer-some (Some a) (Some b) m h =
    let e : min a b ≡ m = cc h in
    elim (cases_lt a b) [ inl l ↦ inl (ap Some (omega arith)) | inr l ↦ inr (ap Some (omega arith)) ]

none-beyond : (end : ℕ) (entries : List Entry) (entry : Entry) → lowest_beyond end entries ≡ None → IsIn entry entries → beyond end entry ≡ None
none-beyond end [] entry h k = absurd k
none-beyond end (first ∷ entries) entry h (inl e) = ap (beyond end) e ∙ (nearer-none (beyond end first) (lowest_beyond end entries) h).0
none-beyond end (first ∷ entries) entry h (inr k) = none-beyond end entries entry (nearer-none (beyond end first) (lowest_beyond end entries) h).1 k

lowest-found : (end m : ℕ) (entries : List Entry) → lowest_beyond end entries ≡ Some m → (entry : Entry) × IsIn entry entries × (beyond end entry ≡ Some m)
lowest-found end m [] h = cc h
lowest-found end m (first ∷ entries) h =
    elim (nearer-some (beyond end first) (lowest_beyond end entries) m h) [
      | inl e ↦ (first, inl refl, e)
      | inr e ↦ let (entry, here, found) = lowest-found end m entries e in (entry, inr here, found)
    ]

some-lowest : (end k : ℕ) (entries : List Entry) (entry : Entry) → IsIn entry entries → beyond end entry ≡ Some k → (low : ℕ) × (lowest_beyond end entries ≡ Some low) × (low ≤ k)
some-lowest end k [] entry h e = absurd h
some-lowest end k (first ∷ entries) entry (inl f) e = from (lowest_beyond end entries)
  where
    from : (o : Option ℕ) → (low : ℕ) × (nearer (beyond end first) o ≡ Some low) × (low ≤ k)
    from None = (k, ap (λ a. nearer a None) (ap (beyond end) (sym f) ∙ e), omega arith)
    from (Some b) = (min k b, ap (λ a. nearer a (Some b)) (ap (beyond end) (sym f) ∙ e), omega arith)
some-lowest end k (first ∷ entries) entry (inr h) e =
    let (low, is, le) = some-lowest end k entries entry h e in
    from low le is (beyond end first)
  where
    from : (low : ℕ) → low ≤ k → lowest_beyond end entries ≡ Some low → (o : Option ℕ) → (found : ℕ) × (nearer o (lowest_beyond end entries) ≡ Some found) × (found ≤ k)
    from low le is None = (low, is, le)
    from low le is (Some a) = (min a low, ap (nearer (Some a)) is, omega arith)

-- the lowest header behind the end is not above any other one
lowest-least : (end m k : ℕ) (entries : List Entry) (entry : Entry) → lowest_beyond end entries ≡ Some m → IsIn entry entries → beyond end entry ≡ Some k → m ≤ k
lowest-least end m k entries entry h i e =
    let (low, is, le) = some-lowest end k entries entry i e in
    let same : m ≡ low = (let f : Some m ≡ Some low = sym h ∙ is in cc f) in
    omega arith

-- ---- the end of the reading

-- what the whole reading gives
pub data Outcome (quads : List ℕ) (read : Result Tree RomFault) : Type 0 where
  whole : (tree : Tree) → read ≡ Ok tree → RomTree quads tree.blocks tree.entries → Outcome quads read
  failed : (fault : RomFault) → read ≡ Err fault → FirstFault quads fault → Outcome quads read

turn-before : (at end : ℕ) (is_directory : Bool) → at < end → turn_at at is_directory < 2 * end
turn-before at end true h = omega arith
turn-before at end false h = omega arith

turn-behind : (at end : ℕ) (is_directory : Bool) → end ≤ at → 2 * end ≤ turn_at at is_directory
turn-behind at end true h = omega arith
turn-behind at end false h = omega arith

-- where no named header is behind the end, all is read
whole-tree : (quads : List ℕ) (tree : Tree) → IsLong quads → root_of quads < length quads → Kept (2 * length quads) quads tree → lowest_beyond (length quads) tree.entries ≡ None → RomTree quads tree.blocks tree.entries
whole-tree quads tree q r t h = record {
  long = q.long;
  name = q.name;
  rising = t.rising;
  stands = t.stands;
  sound = t.sound;
  only = t.only;
  each = λ at d n. t.each at d n (turn-before at (length quads) d (before at d n));
  listed = t.listed;
}
  where
    before : (at : ℕ) (d : Bool) → IsNamed quads tree.entries at d → at < length quads
    before at d (inl (e, _)) = rw e r
    before at d (inr (entry, here, n)) =
        elim (cases_lt at (length quads)) [
          | inl l ↦ l
          | inr l ↦ absurd (none-some (sym (none-beyond (length quads) tree.entries entry h here) ∙ names-beyond (length quads) at d entry n l))
        ]
      where
        none-some : {x : ℕ} → None ≡ Some x → ⊥
        none-some e = cc e

-- the fault of a header behind the end
far-fault : (quads : List ℕ) (at : ℕ) (is_directory : Bool) → length quads ≤ at → block_fault quads at is_directory ≡ Some (outside at)
unfolding block_fault
far-fault quads at is_directory l =
    ap (λ b. cond b (Some (outside at)) (first_void (entries_of quads (block_at quads at is_directory)))) (or_left (nat_le (length quads) at) (nat_le (length quads) (at + length_at quads at)) (le-leb (length quads) at l))

-- a header before the lowest one behind the end has been read
stops-behind : (quads : List ℕ) (tree : Tree) (m : ℕ) (is_directory : Bool) → IsLong quads → root_of quads < length quads → Kept (2 * length quads) quads tree → length quads ≤ m → lowest_beyond (length quads) tree.entries ≡ Some m → IsNamed quads tree.entries m is_directory → (is_directory ≡ true) ⊎ (IsNamed quads tree.entries m true → ⊥) → StopsAt quads (outside m)
stops-behind quads tree m is_directory q r t l h n first = record {
  at = m;
  is_directory = is_directory;
  blocks = tree.blocks;
  entries = tree.entries;
  long = q.long;
  name = q.name;
  before = record {
    rising = t.rising;
    below = λ b i. (let old = t.below b i in let behind = turn-behind m (length quads) is_directory l in omega arith);
    stands = t.stands;
    sound = t.sound;
    only = t.only;
    each = λ at d k o. t.each at d k (turn-before at (length quads) d (before at d k o));
    listed = t.listed;
  };
  named = n;
  fault = far-fault quads m is_directory l;
}
  where
    none-before : (at : ℕ) (d : Bool) → IsNamed quads tree.entries at d → turn_at at d < turn_at m is_directory → m ≤ at → (is_directory ≡ true) ⊎ (IsNamed quads tree.entries m true → ⊥) → ⊥
    none-before at d k o le (inl e) = (let same : turn_at m is_directory ≡ 2 * m + 0 = ap (turn_at m) e in let behind = turn-behind at m d le in omega arith)
    none-before at true k o le (inr other) = elim (cases_order at m) [ inl e ↦ other (let P : ℕ → Type 0 = λ x. IsNamed quads tree.entries x true in subst P e k) | inr c ↦ elim c [ inl s ↦ omega arith | inr s ↦ over is_directory o s ] ]
      where
        over : (b : Bool) → 2 * at + 0 < turn_at m b → m < at → ⊥
        over true o s = omega arith
        over false o s = omega arith
    none-before at false k o le (inr other) = over is_directory o
      where
        over : (b : Bool) → 2 * at + 1 < turn_at m b → ⊥
        over true o = omega arith
        over false o = omega arith

    before : (at : ℕ) (d : Bool) → IsNamed quads tree.entries at d → turn_at at d < turn_at m is_directory → at < length quads
    before at d (inl (e, f)) o = rw e r
    before at d (inr (entry, here, k)) o =
        elim (cases_lt at (length quads)) [
          | inl s ↦ s
          | inr s ↦ absurd (none-before at d (inr (entry, here, k)) o (lowest-least (length quads) m at tree.entries entry h here (names-beyond (length quads) at d entry k s)) first)
        ]

-- the lowest header behind the end: a directory, if any entry names one there
far-stop : (quads : List ℕ) (tree : Tree) (m : ℕ) → IsLong quads → root_of quads < length quads → Kept (2 * length quads) quads tree → lowest_beyond (length quads) tree.entries ≡ Some m → StopsAt quads (outside m)
far-stop quads tree m q r t h =
    let (entry, here, found) = lowest-found (length quads) m tree.entries h in
    let (link, behind, target) = beyond-some (length quads) m entry found in
    far entry here behind (link-names m entry link target) (list_any (names m true) tree.entries) refl
  where
    far : (entry : Entry) → IsIn entry tree.entries → length quads ≤ m → (names m true entry ≡ true) ⊎ (names m false entry ≡ true) → (b : Bool) → list_any (names m true) tree.entries ≡ b → StopsAt quads (outside m)
    far entry here l (inl n) b e = stops-behind quads tree m true q r t l h (inr (entry, here, n)) (inl refl)
    far entry here l (inr n) true e =
        let (other, there, k) = any-in (names m true) tree.entries e in
        stops-behind quads tree m true q r t l h (inr (other, there, k)) (inl refl)
    far entry here l (inr n) false e = stops-behind quads tree m false q r t l h (inr (entry, here, n)) (inr none)
      where
        none : IsNamed quads tree.entries m true → ⊥
        none (inl (f, _)) = omega arith
        none (inr (other, there, k)) = both_ways (list_any (names m true) tree.entries) e (in-any (names m true) tree.entries other there k)

-- ---- from the start

void-is-entry : (entries : List Entry) (fault : RomFault) → first_void entries ≡ Some fault → (at : ℕ) × (fault ≡ faults.Entry at)
void-is-entry [] fault h = cc h
void-is-entry (entry ∷ entries) fault h = by (is_void entry) (λ e. void-is-entry entries fault e) h
  where
    by : (b : Bool) → (first_void entries ≡ Some fault → (at : ℕ) × (fault ≡ faults.Entry at)) → cond b (Some (faults.Entry entry.at)) (first_void entries) ≡ Some fault → (at : ℕ) × (fault ≡ faults.Entry at)
    by true later e = (entry.at, sym (let f : faults.Entry entry.at ≡ fault = cc e in f))
    by false later e = later e

first-from-stop : (quads : List ℕ) (fault : RomFault) → StopsAt quads fault → FirstFault quads fault
unfolding block_fault
first-from-stop quads fault s = by (nat_le (length quads) s.at || nat_le (length quads) (s.at + length_at quads s.at)) s.fault
  where
    by : (b : Bool) → cond b (Some (outside s.at)) (first_void (entries_of quads (block_at quads s.at s.is_directory))) ≡ Some fault → FirstFault quads fault
    by true e = (let f : fault ≡ outside s.at = (let g : outside s.at ≡ fault = cc e in sym g) in let P : RomFault → Type 0 = λ x. FirstFault quads x in subst P (sym f) (let Q : RomFault → Type 0 = λ x. StopsAt quads x in subst Q f s))
    by false e = (let (at, f) = void-is-entry (entries_of quads (block_at quads s.at s.is_directory)) fault e in let P : RomFault → Type 0 = λ x. FirstFault quads x in subst P (sym f) (let Q : RomFault → Type 0 = λ x. StopsAt quads x in subst Q f s))

started : (quads : List ℕ) → Kept (turn_at (root_of quads) true) quads (fresh quads)
started quads = record {
  rising = tt;
  below = λ b h. absurd h;
  stands = λ b h. absurd h;
  sound = λ b h. absurd h;
  only = λ b h. absurd h;
  each = λ at d n l. each at d n l;
  listed = refl;
}
  where
    each : (at : ℕ) (d : Bool) → IsNamed quads [] at d → turn_at at d < turn_at (root_of quads) true → IsIn (block_at quads at d) []
    each at d (inl (e, f)) l = (let behind = turn-behind at (root_of quads) d (omega arith) in omega arith)
    each at d (inr (entry, here, n)) l = absurd here

ended : (quads : List ℕ) (read : Result Tree RomFault) → IsLong quads → root_of quads < length quads → Turned (2 * length quads) quads read → Outcome quads (read >>= λ tree. inside (lowest_beyond (length quads) tree.entries) tree)
ended quads read q r (ends fault e s) = let P : Result Tree RomFault → Type 0 = λ x. Outcome quads (x >>= λ tree. inside (lowest_beyond (length quads) tree.entries) tree) in subst P (sym e) (failed fault refl (first-from-stop quads fault s))
ended quads read q r (goes tree e t) =
    let P : Result Tree RomFault → Type 0 = λ x. Outcome quads (x >>= λ tree. inside (lowest_beyond (length quads) tree.entries) tree) in
    subst P (sym e) (by (lowest_beyond (length quads) tree.entries) refl)
  where
    by : (o : Option ℕ) → lowest_beyond (length quads) tree.entries ≡ o → Outcome quads (inside o tree)
    by None f = whole tree refl (whole-tree quads tree q r t f)
    by (Some m) f = failed (outside m) refl (far-stop quads tree m q r t f)

from-root : (quads : List ℕ) → IsLong quads → Outcome quads (blocks_from quads (root_of quads) (fresh quads) >>= λ tree. inside (lowest_beyond (length quads) tree.entries) tree)
unfolding blocks_from
from-root quads q = by (nat_le (length quads) (root_of quads)) refl
  where
    by : (b : Bool) → nat_le (length quads) (root_of quads) ≡ b → Outcome quads (cond b (Err (outside (root_of quads))) (turns quads (length quads - root_of quads) (root_of quads) (fresh quads)) >>= λ tree. inside (lowest_beyond (length quads) tree.entries) tree)
    by true e = failed (outside (root_of quads)) refl (record {
      at = root_of quads;
      is_directory = true;
      blocks = [];
      entries = [];
      long = q.long;
      name = q.name;
      before = started quads;
      named = inl (refl, refl);
      fault = far-fault quads (root_of quads) true (leb-true (length quads) (root_of quads) e);
    })
    by false e =
        let near = leb-false (length quads) (root_of quads) e in
        let P : ℕ → Type 0 = λ n. Kept n quads (fresh quads) in
        let Q : ℕ → Type 0 = λ n. Turned n quads (turns quads (length quads - root_of quads) (root_of quads) (fresh quads)) in
        let same : turn_at (root_of quads) true ≡ 2 * root_of quads = omega arith in
        let end : 2 * (root_of quads + (length quads - root_of quads)) ≡ 2 * length quads = omega arith in
        ended quads (turns quads (length quads - root_of quads) (root_of quads) (fresh quads)) q near (subst Q end (all-turned quads (length quads - root_of quads) (root_of quads) (fresh quads) q (subst P same (started quads))))

pub outcome : (quads : List ℕ) → Outcome quads (reading quads)
unfolding reading
outcome quads = short (nat_lt (length quads) 6) refl
  where
    name : (b : Bool) → 6 ≤ length quads → has_name quads ≡ b → Outcome quads (cond (not b) (Err faults.Name) (Ok (root_of quads)) >>= λ root. blocks_from quads root (fresh quads) >>= λ tree. inside (lowest_beyond (length quads) tree.entries) tree)
    name false l e = failed faults.Name refl (l, e)
    name true l e = from-root quads (record { long = l; name = e })

    short : (b : Bool) → nat_lt (length quads) 6 ≡ b → Outcome quads (cond b (Err (faults.Short 6)) (cond (not (has_name quads)) (Err faults.Name) (Ok (root_of quads))) >>= λ root. blocks_from quads root (fresh quads) >>= λ tree. inside (lowest_beyond (length quads) tree.entries) tree)
    short true e = failed (faults.Short 6) refl (refl, ltb-true (length quads) 6 e)
    short false e = name (has_name quads) (ltb-false (length quads) 6 e) refl
