-- The reading gives the one configuration ROM, or the first fault.
use Rattle.std.proofs.Common.{◌≡◌, ◌∙◌, refl, ap, ℕ, Bool, List}
use Rattle.config_rom.specs.Tree.{RomTree, FirstFault}
use Rattle.config_rom.specs.Reading.{Tree, reading}
use Rattle.config_rom.specs.declared.block.Block.{Block}
use Rattle.config_rom.specs.declared.block.Entry.{Entry}
use Rattle.config_rom.specs.declared.fault.RomFault.{RomFault}
use Rattle.config_rom.proofs.Outcomes.{Outcome, outcome}
use Rattle.config_rom.proofs.Outcomes.Outcome.{whole, failed}
use Rattle.config_rom.proofs.Heads.{head-of}
use Rattle.config_rom.proofs.Unique.{one-tree, one-fault, tree-or-fault}
use Rattle.rom_listing.specs.RomListing.{tree_lines, rom_tree, rom_fault_line, rom_lines, rom_listing}
use Rattle.rom_listing.proofs.listing.rom_tree_is_listed.Goals as goal

same_tree : (tree : Tree) (blocks : List Block) (entries : List Entry) (eui : ℕ) (right : Bool) → tree.blocks ≡ blocks → tree.entries ≡ entries → tree.eui ≡ eui → tree.bus_sum_is_right ≡ right
    → tree ≡ record { blocks = blocks; entries = entries; eui = eui; bus_sum_is_right = right }
same_tree tree blocks entries eui right a b c d = rw (← a, ← b, ← c, ← d) refl

tree_listed : (quads : List ℕ) (blocks : List Block) (entries : List Entry) → RomTree quads blocks entries → Outcome quads (reading quads) → rom_listing quads ≡ tree_lines quads (rom_tree quads blocks entries)
unfolding rom_listing
tree_listed quads blocks entries t (whole tree e own) =
    let same = one-tree quads tree.blocks blocks tree.entries entries own t in
    let head = head-of quads tree e in
    ap (rom_lines quads) e ∙ ap (tree_lines quads) (same_tree tree blocks entries _ _ same.0 same.1 head.0 head.1)
tree_listed quads blocks entries t (failed fault e f) = absurd (tree-or-fault quads blocks entries fault t f)

fault_listed : (quads : List ℕ) (fault : RomFault) → FirstFault quads fault → Outcome quads (reading quads) → rom_listing quads ≡ rom_fault_line fault
unfolding rom_listing
fault_listed quads fault f (whole tree e own) = absurd (tree-or-fault quads tree.blocks tree.entries fault own f)
fault_listed quads fault f (failed other e g) = ap (rom_lines quads) e ∙ ap rom_fault_line (one-fault quads other fault g f)

pub returns : goal.returns
returns c = record {
  tree = λ quads blocks entries t. tree_listed quads blocks entries t (outcome quads);
  fault = λ quads fault f. fault_listed quads fault f (outcome quads);
}
