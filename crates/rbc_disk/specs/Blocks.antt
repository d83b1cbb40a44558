-- What a READ gives, over a list of the calls of one unit, the latest first.
use Rattle.std.specs.Prelude.{◌≡◌, ℕ, ◌+◌, ◌-◌, ◌<◌, ◌&&◌, not, nat_lt, Bool, false, if◌then◌else◌, List, [], ◌∷◌, Option, Some, None, Result, Ok, Err}
use Rattle.std.specs.Option.{option_map}
use Rattle.rbc_command.specs.Commands.{command_of}
use Rattle.rbc_command.specs.declared.command.Command.{Command}
use Rattle.rbc_command.specs.declared.command.Command.TheVariants as commands
use Rattle.rbc_command.specs.declared.sense.Sense.{Sense}
use Rattle.rbc_disk.specs.Disk.{Disk, IsSound, blocks_at}
use Rattle.rbc_disk.specs.Runs.{medium_after, answer_of}
use Rattle.rbc_disk.specs.Calls.{Call, Happened}
use Rattle.rbc_disk.specs.Calls.Call.{Ran, Cleared, Changed}
use Rattle.rbc_disk.specs.declared.command.BufferPlan.{BufferPlan}

-- what the calls leave of a medium that nobody else changes
abbrev pub medium_then : Disk → List Call → Disk
medium_then start [] = start
medium_then start (Ran cdb buffer place payload medium ended ∷ calls) = medium_after cdb payload ended (medium_then start calls)
medium_then start (_ ∷ calls) = medium_then start calls

-- the calls are over one medium: each finds what those before it left
abbrev pub OnOne : Disk → List Call → Type 0
OnOne start [] = Unit {0}
OnOne start (Ran cdb buffer place payload medium ended ∷ calls) = OnOne start calls × (medium ≡ medium_then start calls)
OnOne start (_ ∷ calls) = OnOne start calls

-- a block is one of so many from `lba` on
abbrev pub is_among : ℕ → ℕ → ℕ → Bool
is_among lba count block = not (nat_lt block lba) && nat_lt block (lba + count)

-- a WRITE puts its blocks one after the other
abbrev pub put : Result Command Sense → List ℕ → ℕ → List ℕ → List ℕ
put (Ok (commands.Write lba count)) payload block before = if is_among lba count block then blocks_at (block - lba) 1 payload else before
put _ payload block before = before

-- what the last good WRITE of a block put there, or what was there at the start
abbrev pub last_put : List ℕ → List Call → ℕ → List ℕ
last_put start [] block = blocks_at block 1 start
last_put start (Ran cdb buffer place payload medium None ∷ calls) block = put (command_of cdb) payload block (last_put start calls block)
last_put start (_ ∷ calls) block = last_put start calls block

-- A good READ gives each of its blocks as the last good WRITE of it put it there, or as it was at the start; of a medium that is no bay and is changed by these calls alone.
abbrev pub ReadLaw : Type 0
ReadLaw = (start : Disk) (bytes : List ℕ) (calls : List Call) (cdb : List ℕ) (buffer : BufferPlan) (place : ℕ) (payload : List ℕ) (medium : Disk) (lba count block : ℕ) →
    start.bytes ≡ Some bytes → IsSound start → start.is_bay ≡ false →
    Happened (Ran cdb buffer place payload medium None ∷ calls) → OnOne start (Ran cdb buffer place payload medium None ∷ calls) →
    command_of cdb ≡ Ok (commands.Read lba count) → block < count →
    option_map (blocks_at block 1) (answer_of cdb medium) ≡ Some (last_put bytes calls (lba + block))
