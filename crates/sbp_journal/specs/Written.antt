-- The notes whose text can be read back: those of the form of a run that are inside the types of their fields.
use Rattle.std.specs.Prelude.{◌^◌, ◌<◌, ℕ, List, length}
use Rattle.std.specs.List.{AllByRecursion}
use Rattle.sbp_journal.specs.declared.note.Note.{Note}
use Rattle.sbp_journal.specs.Form.{HasForm}
use Rattle.line_text.specs.Fields.{Field, number, maybe, node_name, unit_name, digits, payload, bytes, sense_data, name}
use Rattle.sbp_journal.specs.Text.{fields}
use Rattle.std.specs.Option.{IfSome}

abbrev pub AreBytes : List ℕ → Type 0
AreBytes bs = AllByRecursion (λ byte. byte < 256) bs

-- A number has 64 bits at most, and a byte 8; that a sense key has 4 is part of a note's form.
abbrev pub Fits : Field → Type 0
Fits (number n) = n < 2 ^ 64
Fits (maybe n) = IfSome n (λ n. n < 2 ^ 64)
Fits (node_name n) = n < 2 ^ 64
Fits (unit_name n) = n < 2 ^ 64
Fits (digits bs) = AreBytes bs
Fits (payload bs) = AreBytes bs
Fits (bytes bs) = AreBytes bs × (length bs < 2 ^ 64)
Fits (sense_data sense) = (sense.code < 256) × (sense.qualifier < 256)
Fits (name w) = Unit {0}

-- what the words of a note stand for is inside their types
abbrev pub IsTyped : Note → Type 0
IsTyped note = AllByRecursion Fits (fields note)

abbrev pub IsWritten : Note → Type 0
IsWritten note = HasForm note × IsTyped note
