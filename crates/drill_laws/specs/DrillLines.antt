-- Which lines a drill has, and what it is that they bring one note each (NCITS 325-1998, command block agents: an initiator appends requests to its list, and rings).
use Rattle.std.specs.Prelude.{◌≡◌, ◌<◌, ℕ, ◌+◌, Bool, true, false, if◌then◌else◌, List, [], ◌∷◌}
use Rattle.sbp_journal.specs.declared.event.Cmd.{Cmd}
use Rattle.sbp_journal.specs.declared.event.Event.{Event}
use Rattle.sbp_journal.specs.declared.event.Event.TheVariants as events
use Rattle.sbp_journal.specs.declared.event.Action.TheVariants as actions
use Rattle.sbp_journal.specs.declared.note.Note.{Note}
use Rattle.sbp_journal.specs.declared.note.Note.TheVariants as notes
use Rattle.sbp_journal.specs.Run.{Entry}
use Rattle.script_text.specs.Draws.{block_read, block_write}

-- a command of a drill: it writes or reads one of the first 64 blocks
pub data IsDrillCommand (cmd : Cmd) : Type 0 where
  writes : (lba byte : ℕ) → lba < 64 → byte < 256 → cmd ≡ block_write lba byte → IsDrillCommand cmd
  reads : (lba : ℕ) → lba < 64 → cmd ≡ block_read lba → IsDrillCommand cmd

-- a line of a drill behind its first one: one of two initiators appends such a command, or it settles
abbrev pub IsDrillLine : Event → Type 0
IsDrillLine (events.Act i (actions.Append cmd)) = (i < 2) × IsDrillCommand cmd
IsDrillLine events.Settle = Unit {0}
IsDrillLine _ = ⊥

-- all lines of a run are so, behind `begin 2 ready`
abbrev pub AreDrillLines : List Entry → Type 0
AreDrillLines [] = ⊥
AreDrillLines (entry ∷ []) = entry.event ≡ events.Begin 2 true
AreDrillLines (entry ∷ next ∷ before) = IsDrillLine entry.event × AreDrillLines (next ∷ before)

-- ---- lines that append
abbrev pub is_append_line : Event → Bool
is_append_line (events.Act i (actions.Append cmd)) = true
is_append_line _ = false

abbrev pub append_lines : List Event → ℕ
append_lines [] = 0
append_lines (event ∷ rest) = (if is_append_line event then 1 else 0) + append_lines rest

-- ---- a line that was refused
abbrev pub is_refused : Note → Bool
is_refused (notes.Refused line number) = true
is_refused _ = false
