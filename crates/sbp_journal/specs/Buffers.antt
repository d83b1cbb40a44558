-- The buffer of a command, as its note tells it.
use Rattle.std.specs.Prelude.{ℕ, ◌==◌, if◌then◌else◌, List, [], ◌∷◌, take}
use Rattle.sbp_journal.specs.declared.event.Cmd.{Cmd}
use Rattle.sbp_journal.specs.declared.note.NoteBuffer.{NoteBuffer}
use Rattle.sbp_journal.specs.declared.note.NoteBuffer.TheVariants.{Nothing, In, Out}

-- a buffer that is named has a byte
abbrev pub in_buffer : ℕ → NoteBuffer
in_buffer len = if len == 0 then Nothing else In len

abbrev pub out_buffer : List ℕ → NoteBuffer
out_buffer [] = Nothing
out_buffer (byte ∷ bytes) = Out (byte ∷ bytes)

-- to the target it holds the command's data, as far as its length goes
abbrev pub buffer_of : Cmd → NoteBuffer
buffer_of cmd = if cmd.to_initiator then in_buffer cmd.length else out_buffer (take cmd.length cmd.payload)
