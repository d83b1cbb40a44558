-- Reading gives the configuration ROM of the quadlets, or their first fault.
use Rattle.std.proofs.Common.{◌≡◌, ◌∙◌, refl, sym, ap, ℕ, List, Result, Ok, Err}
use Rattle.std.specs.Prelude.{◌↔◌}
use Rattle.config_rom.specs.declared.fault.RomFault.{RomFault}
use Rattle.config_rom.specs.Tree.{RomTree, FirstFault}
use Rattle.config_rom.specs.Reading.{Tree, reading, IsRomOf, ReadsRom}
use Rattle.config_rom.proofs.Unique.{one-tree, one-fault, tree-or-fault}
use Rattle.config_rom.proofs.Heads.{head-of, tree-of}
use Rattle.config_rom.proofs.Outcomes.{outcome, Outcome, whole, failed}

same-tree : (tree other : Tree) → tree.blocks ≡ other.blocks → tree.entries ≡ other.entries → tree.eui ≡ other.eui → tree.bus_sum_is_right ≡ other.bus_sum_is_right → tree ≡ other
same-tree tree other a b c d =
    ap (λ x. record tree { blocks = x }) a
    ∙ ap (λ x. record { blocks = other.blocks; entries = x; eui = tree.eui; bus_sum_is_right = tree.bus_sum_is_right }) b
    ∙ ap (λ x. record { blocks = other.blocks; entries = other.entries; eui = x; bus_sum_is_right = tree.bus_sum_is_right }) c
    ∙ ap (λ x. record { blocks = other.blocks; entries = other.entries; eui = other.eui; bus_sum_is_right = x }) d

tree-read : (quads : List ℕ) (tree : Tree) → reading quads ≡ Ok tree → IsRomOf quads tree
tree-read quads tree e =
    let h = head-of quads tree e in
    record { is_tree = tree-of quads tree e; eui = h.0; bus_sum = h.1 }

read-tree : (quads : List ℕ) (tree : Tree) (read : Result Tree RomFault) → reading quads ≡ read → Outcome quads read → IsRomOf quads tree → reading quads ≡ Ok tree
read-tree quads tree read r (whole other e t) o =
    let h = head-of quads other (r ∙ e) in
    let one = one-tree quads other.blocks tree.blocks other.entries tree.entries t o.is_tree in
    r ∙ e ∙ ap Ok (same-tree other tree one.0 one.1 (h.0 ∙ sym o.eui) (h.1 ∙ sym o.bus_sum))
read-tree quads tree read r (failed fault e f) o = absurd (tree-or-fault quads tree.blocks tree.entries fault o.is_tree f)

fault-read : (quads : List ℕ) (fault : RomFault) (read : Result Tree RomFault) → reading quads ≡ read → Outcome quads read → reading quads ≡ Err fault → FirstFault quads fault
fault-read quads fault read r (whole tree e t) o = let no : Ok tree ≡ Err fault = sym e ∙ sym r ∙ o in cc no
fault-read quads fault read r (failed other e f) o =
    let same : Err other ≡ Err fault = sym e ∙ sym r ∙ o in
    let eq : other ≡ fault = cc same in
    rw (sym eq) f

read-fault : (quads : List ℕ) (fault : RomFault) (read : Result Tree RomFault) → reading quads ≡ read → Outcome quads read → FirstFault quads fault → reading quads ≡ Err fault
read-fault quads fault read r (whole tree e t) o = absurd (tree-or-fault quads tree.blocks tree.entries fault t o)
read-fault quads fault read r (failed other e f) o = r ∙ e ∙ ap Err (one-fault quads other fault f o)

pub reads-rom : ReadsRom
reads-rom = record {
  trees = λ quads tree. (tree-read quads tree, read-tree quads tree (reading quads) refl (outcome quads));
  faults = λ quads fault. (fault-read quads fault (reading quads) refl (outcome quads), read-fault quads fault (reading quads) refl (outcome quads));
}
