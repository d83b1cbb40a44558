-- Reading as a function of the quadlets, turn by turn.
use Rattle.std.specs.Prelude.{◌≡◌, ℕ, zero, suc, ◌+◌, ◌-◌, ◌==◌, ◌&&◌, ◌||◌, ◌⊎◌, ◌↔◌, nat_lt, nat_le, min, not, Bool, true, false, if◌then◌else◌, List, [], ◌∷◌, ◌++◌, length, Option, Some, None, Result, Ok, Err}
use Rattle.std.specs.List.{list_any}
use Rattle.config_rom.specs.declared.fault.RomFault.{RomFault}
use Rattle.config_rom.specs.declared.fault.RomFault.TheVariants as faults
use Rattle.config_rom.specs.declared.block.Block.{Block}
use Rattle.config_rom.specs.declared.block.Entry.{Entry}
use Rattle.config_rom.specs.Tree.{has_name, eui_of, bus_sum_is_right, root_of, block_at, entries_of, is_link, names, outside, block_fault, RomTree, FirstFault}

-- a configuration ROM that was read
pub record Tree : Type 0 where
  pub blocks : List Block
  pub entries : List Entry
  pub eui : ℕ
  pub bus_sum_is_right : Bool

infixl 10 ◌>>=◌
abbrev pub ◌>>=◌ : {A B : Type 0} → Result A RomFault → (A → Result B RomFault) → Result B RomFault
(Ok x) >>= f = f x
(Err fault) >>= f = Err fault

-- want of memory, or what the reading tells
abbrev pub Tells : {A : Type 0} → RomFault → Result A RomFault → Type 0
Tells fault read = (fault ≡ faults.NoMemory) ⊎ (read ≡ Err fault)

-- before the first block
abbrev pub fresh : List ℕ → Tree
fresh quads = record { blocks = []; entries = []; eui = eui_of quads; bus_sum_is_right = bus_sum_is_right quads }

-- the root directory, or a block that an entry read so far names
abbrev pub is_named : List ℕ → List Entry → ℕ → Bool → Bool
is_named quads entries at is_directory = ((at == root_of quads) && is_directory) || list_any (names at is_directory) entries

-- with one more block and its entries
abbrev pub with_block : List ℕ → Block → Tree → Tree
with_block quads block tree = record tree { blocks = tree.blocks ++ block ∷ []; entries = tree.entries ++ entries_of quads block }

-- a block that has no fault is added
abbrev pub add_block : List ℕ → ℕ → Bool → Option RomFault → Tree → Result Tree RomFault
add_block quads at is_directory (Some fault) tree = Err fault
add_block quads at is_directory None tree = Ok (with_block quads (block_at quads at is_directory) tree)

-- the turn of the directory or leaf at a position
unfoldable pub turn : List ℕ → ℕ → Bool → Tree → Result Tree RomFault
turn quads at is_directory tree =
    if is_named quads tree.entries at is_directory then add_block quads at is_directory (block_fault quads at is_directory) tree
    else Ok tree

-- the turns of `count` positions from `at` on
abbrev pub turns : List ℕ → ℕ → ℕ → Tree → Result Tree RomFault
turns quads zero at tree = Ok tree
turns quads (suc count) at tree = turn quads at true tree >>= turn quads at false >>= turns quads count (suc at)

-- the lower of two positions
abbrev pub nearer : Option ℕ → Option ℕ → Option ℕ
nearer None second = second
nearer (Some first) None = Some first
nearer (Some first) (Some second) = Some (min first second)

-- the header that an entry names, where it stands at the end of the quadlets or behind it
abbrev pub beyond : ℕ → Entry → Option ℕ
beyond end entry = if is_link entry && nat_le end (entry.at + entry.value) then Some (entry.at + entry.value) else None

-- the lowest such header
abbrev pub lowest_beyond : ℕ → List Entry → Option ℕ
lowest_beyond end [] = None
lowest_beyond end (entry ∷ entries) = nearer (beyond end entry) (lowest_beyond end entries)

-- no header stands outside
abbrev pub inside : Option ℕ → Tree → Result Tree RomFault
inside None tree = Ok tree
inside (Some at) tree = Err (outside at)

-- the root directory's position, where there are six quadlets at least and the name of the bus
abbrev pub checked_root : List ℕ → Result ℕ RomFault
checked_root quads =
    if nat_lt (length quads) 6 then Err (faults.Short 6)
    else if not (has_name quads) then Err faults.Name
    else Ok (root_of quads)

-- the turns of all positions from the root directory's on
unfoldable pub blocks_from : List ℕ → ℕ → Tree → Result Tree RomFault
blocks_from quads root tree =
    if nat_le (length quads) root then Err (outside root)
    else turns quads (length quads - root) root tree

-- the whole reading: the turns of all positions, and then those behind the end
unfoldable pub reading : List ℕ → Result Tree RomFault
reading quads =
    checked_root quads >>= λ root.
    blocks_from quads root (fresh quads) >>= λ tree.
    inside (lowest_beyond (length quads) tree.entries) tree

-- What was read is the configuration ROM of the quadlets: its blocks and entries, and its bus information block.
pub record IsRomOf (quads : List ℕ) (tree : Tree) : Type 0 where
  pub is_tree : RomTree quads tree.blocks tree.entries
  pub eui : tree.eui ≡ eui_of quads
  pub bus_sum : tree.bus_sum_is_right ≡ bus_sum_is_right quads

-- Quadlets have a configuration ROM or a first fault, whatever they are: reading gives a tree exactly where it is their configuration
-- ROM, and a fault exactly where it is their first one.
pub record ReadsRom : Type 0 where
  pub trees : (quads : List ℕ) (tree : Tree) → reading quads ≡ Ok tree ↔ IsRomOf quads tree
  pub faults : (quads : List ℕ) (fault : RomFault) → reading quads ≡ Err fault ↔ FirstFault quads fault
