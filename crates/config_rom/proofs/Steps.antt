-- Steps of the reading.
use Rattle.std.proofs.Common.{◌≡◌, ◌∙◌, refl, sym, ap, ℕ, suc, List, [], ◌∷◌, Option, Some, None, Ok, true, false, cond, inl, inr, ◌++◌, append_assoc, arith}
use Rattle.config_rom.specs.declared.block.Entry.{Entry}
use Rattle.config_rom.specs.declared.fault.RomFault.{RomFault}
use Rattle.config_rom.specs.declared.fault.RomFault.TheVariants as faults
use Rattle.config_rom.specs.Tree.{entry_at, entries_from, first_void, is_void}
use Rattle.config_rom.specs.Reading.{Tree, Tells, nearer, turn, turns}

pub nearer-assoc : (a b c : Option ℕ) → nearer (nearer a b) c ≡ nearer a (nearer b c)
nearer-assoc None b c = refl
nearer-assoc (Some a) None c = refl
nearer-assoc (Some a) (Some b) None = refl
nearer-assoc (Some a) (Some b) (Some c) = ap Some (omega arith)

pub nearer-None : (a : Option ℕ) → nearer a None ≡ a
nearer-None None = refl
nearer-None (Some a) = refl

pub ruleset lowest_steps = (nearer-assoc, nearer-None)

pub entries_from-next : (quads : List ℕ) (at next n m : ℕ) → n ≡ suc m → next ≡ suc at → entries_from quads at n ≡ entry_at quads at ∷ entries_from quads next m
entries_from-next quads at next n m e f = rw (e, f) refl

push-step : (xs new rest all total : List Entry) (entry : Entry) → new ≡ xs ++ entry ∷ [] → all ≡ entry ∷ rest → xs ++ all ≡ total → new ++ rest ≡ total
push-step xs new rest all total entry e f h = rw e (append_assoc xs (entry ∷ []) rest) ∙ ap (λ ys. xs ++ ys) (sym f) ∙ h

-- an entry that is no fault is added
pub entries-added : (quads : List ℕ) (at next n m : ℕ) (xs new total : List Entry) → n ≡ suc m → next ≡ suc at → new ≡ xs ++ entry_at quads at ∷ [] → xs ++ entries_from quads at n ≡ total → new ++ entries_from quads next m ≡ total
entries-added quads at next n m xs new total e f g h = push-step xs new (entries_from quads next m) (entries_from quads at n) total (entry_at quads at) g (entries_from-next quads at next n m e f) h

pub void-next : (quads : List ℕ) (at next n m : ℕ) (total : Option RomFault) → n ≡ suc m → next ≡ suc at → is_void (entry_at quads at) ≡ false → first_void (entries_from quads at n) ≡ total → first_void (entries_from quads next m) ≡ total
void-next quads at next n m total e f g h = ap (λ b. cond b (Some (faults.Entry ((entry_at quads at).at))) (first_void (entries_from quads next m))) (sym g) ∙ ap first_void (sym (entries_from-next quads at next n m e f)) ∙ h

pub void-here : (quads : List ℕ) (at n m : ℕ) (total : Option RomFault) → n ≡ suc m → is_void (entry_at quads at) ≡ true → first_void (entries_from quads at n) ≡ total → total ≡ Some (faults.Entry at)
unfolding entry_at
void-here quads at n m total e g h = sym h ∙ ap first_void (entries_from-next quads at (suc at) n m e refl) ∙ ap (λ b. cond b (Some (faults.Entry at)) (first_void (entries_from quads (suc at) m))) g

pub ruleset entry_steps = (entries-added, void-next, void-here)

-- both turns of a position pass
pub turns-next : (quads : List ℕ) (n m at next : ℕ) (a b c : Tree) → n ≡ suc m → next ≡ suc at → turn quads at true a ≡ Ok b → turn quads at false b ≡ Ok c → turns quads m next c ≡ turns quads n at a
turns-next quads n m at next a b c e f g h = rw (e, f, g, h) refl

pub turns-directory : (quads : List ℕ) (n m at : ℕ) (a : Tree) (fault : RomFault) → n ≡ suc m → Tells fault (turn quads at true a) → Tells fault (turns quads n at a)
turns-directory quads n m at a fault e (inl h) = inl h
turns-directory quads n m at a fault e (inr h) = inr (rw (e, h) refl)

pub turns-leaf : (quads : List ℕ) (n m at : ℕ) (a b : Tree) (fault : RomFault) → n ≡ suc m → turn quads at true a ≡ Ok b → Tells fault (turn quads at false b) → Tells fault (turns quads n at a)
turns-leaf quads n m at a b fault e g (inl h) = inl h
turns-leaf quads n m at a b fault e g (inr h) = inr (rw (e, g, h) refl)

pub ruleset turn_steps = (turns-next, turns-directory, turns-leaf)
