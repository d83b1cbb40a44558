-- One line of a drill, by the numbers that a linear congruence draws.
use Rattle.std.specs.Prelude.{ℕ, ◌+◌, ◌*◌, ◌/◌, ◌%◌, ◌^◌, ◌==◌, if◌then◌else◌, List, replicate}
use Rattle.sbp_journal.specs.declared.event.Cmd.{Cmd}
use Rattle.sbp_journal.specs.declared.event.Action.TheVariants as actions
use Rattle.sbp_journal.specs.declared.event.Event.TheVariants as events
use Rattle.script_text.specs.declared.turn.Turn.{Turn}
use Rattle.script_words.specs.declared.verb.Form.TheVariants.{Ten}
use Rattle.script_words.specs.Commands.{addressed_block, bringing, sending}

-- A draw first steps the state, and then gives a number below m of the new state.
unfoldable pub next : ℕ → ℕ
next x = (x * 6364136223846793005 + 1442695040888963407) % 2 ^ 64

unfoldable pub drawn : ℕ → ℕ → ℕ
drawn x m = x / 2 ^ 33 % m

-- `write LBA HH*512`, and `read LBA 1`
unfoldable pub block_of : ℕ → List ℕ
block_of byte = replicate 512 byte

unfoldable pub block_write : ℕ → ℕ → Cmd
block_write lba byte = sending (addressed_block Ten 0x2A lba 1) (block_of byte)

unfoldable pub block_read : ℕ → Cmd
block_read lba = bringing (addressed_block Ten 0x28 lba 1) 512

abbrev pub appending : ℕ → Cmd → ℕ → Turn
appending initiator cmd x = record { event = events.Act initiator (actions.Append cmd); state = x }

-- the line from the states behind the first three draws, of an initiator, of what it does and of the block; a write draws its
-- byte as well
abbrev pub turn_of : ℕ → ℕ → ℕ → Turn
turn_of x1 x2 x3 =
    if drawn x2 2 == 0 then appending (drawn x1 2) (block_write (drawn x3 64) (drawn (next x3) 256)) (next x3)
    else appending (drawn x1 2) (block_read (drawn x3 64)) x3

unfoldable pub turn : ℕ → Turn
turn x = turn_of (next x) (next (next x)) (next (next (next x)))
