-- What parse answers, said of the tree.
use Rattle.std.proofs.Common.{◌≡◌, ◌∙◌, refl, sym, subst, ℕ, zero, suc, ◌-◌, ◌⊎◌, inl, inr, Bool, true, false, cond, nat_le, List, length, Option, Some, None, Result, Ok, Err}
use Rattle.std.specs.Prelude.{IfOk}
use Rattle.config_rom.specs.declared.fault.RomFault.{RomFault}
use Rattle.config_rom.specs.declared.fault.RomFault.TheVariants as faults
use Rattle.config_rom.specs.Tree.{eui_of, bus_sum_is_right, block_fault, outside, RomTree, FirstFault}
use Rattle.config_rom.specs.Reading.{Tree, Tells, ◌>>=◌, fresh, is_named, add_block, turn, turns, lowest_beyond, inside, checked_root, blocks_from, reading}
use Rattle.config_rom.proofs.Outcomes.{outcome, Outcome, whole, failed}

-- the bus information block of a tree is that of the quadlets
pub record HasHead (quads : List ℕ) (tree : Tree) : Type 0 where
  pub eui : tree.eui ≡ eui_of quads
  pub bus_sum : tree.bus_sum_is_right ≡ bus_sum_is_right quads

abbrev Keeps : List ℕ → Result Tree RomFault → Type 0
Keeps quads read = IfOk read (HasHead quads)

keeps-bind : (quads : List ℕ) (read : Result Tree RomFault) (next : Tree → Result Tree RomFault) → Keeps quads read → ((tree : Tree) → HasHead quads tree → Keeps quads (next tree)) → Keeps quads (read >>= next)
keeps-bind quads (Ok tree) next h k = k tree h
keeps-bind quads (Err fault) next h k = tt

turn-keeps : (quads : List ℕ) (at : ℕ) (is_directory : Bool) (tree : Tree) → HasHead quads tree → Keeps quads (turn quads at is_directory tree)
unfolding turn
turn-keeps quads at is_directory tree h = by (is_named quads tree.entries at is_directory) (block_fault quads at is_directory)
  where
    by : (b : Bool) (o : Option RomFault) → Keeps quads (cond b (add_block quads at is_directory o tree) (Ok tree))
    by false o = h
    by true (Some fault) = tt
    by true None = record { eui = h.eui; bus_sum = h.bus_sum }

turns-keep : (quads : List ℕ) (count at : ℕ) (tree : Tree) → HasHead quads tree → Keeps quads (turns quads count at tree)
turns-keep quads zero at tree h = h
turns-keep quads (suc count) at tree h =
    keeps-bind quads (turn quads at true tree >>= turn quads at false) (turns quads count (suc at))
    (keeps-bind quads (turn quads at true tree) (turn quads at false) (turn-keeps quads at true tree h) (turn-keeps quads at false))
    (turns-keep quads count (suc at))

from-keeps : (quads : List ℕ) (root : ℕ) (tree : Tree) → HasHead quads tree → Keeps quads (blocks_from quads root tree)
unfolding blocks_from
from-keeps quads root tree h = by (nat_le (length quads) root)
  where
    by : (b : Bool) → Keeps quads (cond b (Err (outside root)) (turns quads (length quads - root) root tree))
    by true = tt
    by false = turns-keep quads (length quads - root) root tree h

inside-keeps : (quads : List ℕ) (o : Option ℕ) (tree : Tree) → HasHead quads tree → Keeps quads (inside o tree)
inside-keeps quads None tree h = h
inside-keeps quads (Some at) tree h = tt

reading-keeps : (quads : List ℕ) → Keeps quads (reading quads)
unfolding reading
reading-keeps quads = by (checked_root quads)
  where
    by : (checked : Result ℕ RomFault) → Keeps quads (checked >>= λ root. blocks_from quads root (fresh quads) >>= λ tree. inside (lowest_beyond (length quads) tree.entries) tree)
    by (Err fault) = tt
    by (Ok root) = keeps-bind quads (blocks_from quads root (fresh quads)) (λ tree. inside (lowest_beyond (length quads) tree.entries) tree) (from-keeps quads root (fresh quads) (record { eui = refl; bus_sum = refl })) (λ tree. inside-keeps quads (lowest_beyond (length quads) tree.entries) tree)

pub head-of : (quads : List ℕ) (tree : Tree) → reading quads ≡ Ok tree → (tree.eui ≡ eui_of quads) × (tree.bus_sum_is_right ≡ bus_sum_is_right quads)
head-of quads tree e =
    let P : Result Tree RomFault → Type 0 = λ r. Keeps quads r in
    let h : HasHead quads tree = subst P e (reading-keeps quads) in
    (h.eui, h.bus_sum)

pub tree-of : (quads : List ℕ) (tree : Tree) → reading quads ≡ Ok tree → RomTree quads tree.blocks tree.entries
tree-of quads tree e = by (outcome quads)
  where
    by : Outcome quads (reading quads) → RomTree quads tree.blocks tree.entries
    by (whole other f t) = (let same : other ≡ tree = (let g : Ok other ≡ reading quads = sym f in ok-same (g ∙ e)) in let P : Tree → Type 0 = λ s. RomTree quads s.blocks s.entries in subst P same t)
      where
        ok-same : {a b : Tree} → (let x : Result Tree RomFault = Ok a in x) ≡ Ok b → a ≡ b
        ok-same e = cc e
    by (failed fault f h) = absurd (err-ok (sym f ∙ e))
      where
        err-ok : {fault : RomFault} {a : Tree} → Err fault ≡ Ok a → ⊥
        err-ok e = cc e

pub fault-of : (quads : List ℕ) (fault : RomFault) → Tells fault (reading quads) → (fault ≡ faults.NoMemory) ⊎ FirstFault quads fault
fault-of quads fault (inl e) = inl e
fault-of quads fault (inr e) = inr (by (outcome quads))
  where
    by : Outcome quads (reading quads) → FirstFault quads fault
    by (failed other f h) = (let same : other ≡ fault = err-same (sym f ∙ e) in let P : RomFault → Type 0 = λ x. FirstFault quads x in subst P same h)
      where
        err-same : {a b : RomFault} → (let x : Result Tree RomFault = Err a in x) ≡ Err b → a ≡ b
        err-same e = cc e
    by (whole tree f t) = absurd (ok-err (sym f ∙ e))
      where
        ok-err : {fault : RomFault} {a : Tree} → Ok a ≡ Err fault → ⊥
        ok-err e = cc e

pub ruleset parse_laws = (head-of, tree-of, fault-of)
