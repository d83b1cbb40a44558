-- Completeness: how a call ends whose input has no fault, and where no call of the source or the sink failed.
use Rattle.std.specs.Prelude.{◌≡◌, ◌⊎◌, ℕ, List, Option, Some, None, IsOk}
use Rattle.sbp_base.specs.Faults.{Rose}
use Rattle.drill_text.specs.Words.{IsDrill}
use Rattle.line_session.specs.Outside.{Outside}
use Rattle.packet_listing.specs.Listing.{listing}
use Rattle.rom_listing.specs.RomListing.{rom_quads}
use Rattle.script_text.specs.Script.{script}
use Rattle.sbp_command.specs.Headline.{IsDecode, IsRom, IsRun}
use Rattle.sbp_command.specs.QueueEnds.{IsQueue}
use Rattle.sbp_command.specs.QueueLines.{queue_script}
use Rattle.sbp_command.specs.TaskEnds.{IsTasks}
use Rattle.sbp_command.specs.TaskLines.{task_script}
use Rattle.sbp_command.specs.declared.status.Status.{Status}
use Rattle.sbp_command.specs.declared.status.Status.TheVariants as statuses

-- The source tells its bytes, and they are so.
abbrev pub Holds : (List ℕ → Type 0) → Option (List ℕ) → Type 0
Holds IsSound left = (input : List ℕ) × (left ≡ Some input) × IsSound input

-- Words that read an input, and the input has no faulty line.
abbrev pub ReadsSound : List (List ℕ) → Option (List ℕ) → Type 0
ReadsSound words left =
    (IsRun words × Holds (λ input. (script input).fault ≡ None) left)
    ⊎ (IsDecode words × Holds (λ input. (listing input).fault ≡ None) left)
    ⊎ (IsRom words × Holds (λ input. IsOk (rom_quads input)) left)
    ⊎ (IsTasks words × Holds (λ input. (task_script input).fault ≡ None) left)
    ⊎ (IsQueue words × Holds (λ input. (queue_script input).fault ≡ None) left)

-- Words that ask for a drill, which reads nothing.
abbrev pub AsksForDrill : List (List ℕ) → Type 0
AsksForDrill words = (seed : ℕ) × (count : ℕ) × IsDrill words seed count

-- no count of the source or the sink rose
pub record NoneRose (before now : Outside) : Type 0 where
  pub reads : ¬ Rose before.reads now.reads
  pub writes : ¬ Rose before.writes now.writes

-- all was done, or memory was wanting
abbrev pub IsComplete : Status → Type 0
IsComplete status = (status ≡ statuses.Done) ⊎ (status ≡ statuses.NoMemory)

-- Words of the table, with an input without a faulty line where they read one, are served to the end, or memory is wanting.
abbrev pub Completes : List (List ℕ) → Status → Outside → Outside → Type 0
Completes words status before now = ReadsSound words before.left ⊎ AsksForDrill words → NoneRose before now → IsComplete status
