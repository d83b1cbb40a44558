-- The journal of a retry queue: what its world was asked and said, and beside it the writes that were submitted, the pumps that had nothing
-- to do, and the statuses that were told of submissions. The latest step stands first, so what stood before a step is the rest of the list.
use Rattle.std.specs.Prelude.{ℕ, suc, ◌/◌, List, [], ◌∷◌, length, Option, Some, None}
use Rattle.sbp_base.specs.Update.{upd}
use Rattle.orb_layout.specs.declared.status.StatusKind.{StatusKind}
use Rattle.script_words.specs.declared.verb.Form.TheVariants.{Ten}
use Rattle.script_words.specs.Commands.{addressed_block, sending}
use Rattle.sbp_journal.specs.Run.{Moment}
use Rattle.sbp_journal.specs.declared.event.Cmd.{Cmd}

-- `submitted` has the block that the write begins at and its data; `told` the number of a submission and its status.
pub data Step : Type 0 where
  of_world : Moment → Step
  submitted : (lba : ℕ) → (bytes : List ℕ) → Step
  idled : Step
  told : (number : ℕ) → StatusKind → Step

-- the history of the queue's world
abbrev pub world : List Step → List Moment
world [] = []
world (of_world moment ∷ past) = moment ∷ world past
world (submitted lba bytes ∷ past) = world past
world (idled ∷ past) = world past
world (told number status ∷ past) = world past

-- each step of a journal meets a condition on it and on what stood before it
module _ (At : Step → List Step → Type 0) where
  abbrev pub EachStep : List Step → Type 0
  EachStep [] = Unit {0}
  EachStep (step ∷ past) = At step past × EachStep past

-- ---- submissions

-- a write that was submitted
pub record Submission : Type 0 where
  pub lba : ℕ
  pub bytes : List ℕ

-- its blocks
abbrev pub count_of : Submission → ℕ
count_of write = length write.bytes / 512

-- the CMD of `write LBA DATA`
abbrev pub command_for : Submission → Cmd
command_for write = sending (addressed_block Ten 0x2A write.lba (count_of write)) write.bytes

-- how many writes were submitted, and each of them by its number, counted from 0
abbrev pub submissions : List Step → ℕ
submissions [] = 0
submissions (submitted lba bytes ∷ past) = suc (submissions past)
submissions (_ ∷ past) = submissions past

abbrev pub write_at : List Step → ℕ → Option Submission
write_at [] = λ q. None
write_at (submitted lba bytes ∷ past) = upd (write_at past) (submissions past) (Some (record { lba = lba; bytes = bytes }))
write_at (_ ∷ past) = write_at past
