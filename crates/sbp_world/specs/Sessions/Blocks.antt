-- The target writes blocks alone (NCITS 325-1998, login responses, status blocks and data buffers): none of its requests writes one quadlet. So each write that an
-- initiator got was of a block: it takes writes of its target alone.
use Rattle.std.specs.Prelude.{◌≡◌, ℕ, suc, true, List, [], ◌∷◌, ◌++◌, map, Option, Some, None}
use Rattle.sbp_world.specs.Hosts.Runs.{IsRun, more_deliveries}
use Rattle.rbc_disk.specs.Runs.{Told}
use Rattle.sbp_journal.specs.Addresses.{Access}
use Rattle.sbp_journal.specs.Run.{Moment, asked, said}
use Rattle.sbp_journal.specs.Wire.{terms}
use Rattle.sbp_journal.specs.declared.note.Note.{Note}
use Rattle.sbp_journal.specs.declared.note.Note.TheVariants as notes
use Rattle.sbp_laws.specs.Hosts.{is_serial}
use Rattle.sbp_laws.specs.Packets.{access_at, access_in_bytes, receiver_in}
use Rattle.sbp_world.specs.Histories.{history_of}
use Rattle.sbp_world.specs.Runs.{Run, after, beginning}
use Rattle.sbp_world.specs.Settling.{MayAll, after_all}
use Rattle.sbp_world.specs.Worlds.{begun}

abbrev pub IsBlockWrite : Option Access → Type 0
IsBlockWrite None = Unit {0}
IsBlockWrite (Some access) = access.is_write ≡ true → access.is_block ≡ true

-- a packet of the target, where it writes, writes a block
abbrev pub IsTargetBlock : Note → Type 0
IsTargetBlock (notes.Sent serial generation from to bytes) = from ≡ 0 → IsBlockWrite (access_in_bytes bytes)
IsTargetBlock _ = Unit {0}

abbrev pub SentBlocks : List Moment → Type 0
SentBlocks [] = Unit {0}
SentBlocks (said note ∷ past) = IsTargetBlock note × SentBlocks past
SentBlocks (asked line event ∷ past) = SentBlocks past

-- each write that an initiator got was of a block
abbrev pub GotBlocks : List Moment → ℕ → Type 0
GotBlocks [] i = Unit {0}
GotBlocks (said (notes.Got serial) ∷ past) i = (is_serial (receiver_in ((terms past).sent serial)) (suc i) ≡ true → IsBlockWrite (access_at (terms past) serial)) × GotBlocks past i
GotBlocks (moment ∷ past) i = GotBlocks past i

pub record AreBlocks (past : List Moment) : Type 0 where
  pub sent : SentBlocks past
  pub got : (i : ℕ) → GotBlocks past i

-- After every line of every run, and behind each delivery of a line that may follow.
pub record BlocksLaw : Type 0 where
  pub after_lines : (line : ℕ) (run : Run) → IsRun run → AreBlocks (history_of line run)
  pub between : (line : ℕ) (run : Run) → IsRun run → (next : ℕ) (most : Option ℕ) (told : List (Option Told)) → MayAll told (begun (after (beginning run) run.entries)) → (let w = (after_all told (begun (after (beginning run) run.entries))).world in AreBlocks (map said w.fresh ++ asked next (more_deliveries most) ∷ history_of line run))
