-- Whether the fields of a note are inside their types, by computing.
use Rattle.std.proofs.Common.{◌≡◌, ℕ, List, [], ◌∷◌, refl}
use Rattle.std.specs.Prelude.{◌^◌, ◌&&◌, Bool, true, false, length, Some, None}
use Rattle.std.specs.List.{AllByRecursion}
use Rattle.std.proofs.Math.Dec.{ltb}
use Rattle.std.proofs.lemmas.Bool.{ltb-true}
use Rattle.line_text.specs.Fields.{Field, number, maybe, node_name, unit_name, digits, payload, bytes, sense_data, name}
use Rattle.sbp_journal.specs.Text.{fields}
use Rattle.sbp_journal.specs.Written.{AreBytes, Fits, IsTyped}
use Rattle.sbp_journal.specs.declared.note.Note.{Note}

first : (a b : Bool) → (a && b) ≡ true → a ≡ true
first true b e = refl
first false b e = cc e

second : (a b : Bool) → (a && b) ≡ true → b ≡ true
second true b e = e
second false b e = cc e

abbrev are_bytes : List ℕ → Bool
are_bytes [] = true
are_bytes (byte ∷ bs) = ltb byte 256 && are_bytes bs

bytes_fit : (bs : List ℕ) → are_bytes bs ≡ true → AreBytes bs
bytes_fit [] e = tt
bytes_fit (byte ∷ bs) e = (ltb-true byte 256 (first (ltb byte 256) (are_bytes bs) e), bytes_fit bs (second (ltb byte 256) (are_bytes bs) e))

abbrev fits : Field → Bool
fits (number n) = ltb n (2 ^ 64)
fits (maybe None) = true
fits (maybe (Some n)) = ltb n (2 ^ 64)
fits (node_name n) = ltb n (2 ^ 64)
fits (unit_name n) = ltb n (2 ^ 64)
fits (digits bs) = are_bytes bs
fits (payload bs) = are_bytes bs
fits (bytes bs) = are_bytes bs && ltb (length bs) (2 ^ 64)
fits (sense_data sense) = ltb sense.code 256 && ltb sense.qualifier 256
fits (name w) = true

field_fits : (field : Field) → fits field ≡ true → Fits field
field_fits (number n) e = ltb-true n (2 ^ 64) e
field_fits (maybe None) e = tt
field_fits (maybe (Some n)) e = ltb-true n (2 ^ 64) e
field_fits (node_name n) e = ltb-true n (2 ^ 64) e
field_fits (unit_name n) e = ltb-true n (2 ^ 64) e
field_fits (digits bs) e = bytes_fit bs e
field_fits (payload bs) e = bytes_fit bs e
field_fits (bytes bs) e =
    (bytes_fit bs (first (are_bytes bs) (ltb (length bs) (2 ^ 64)) e), ltb-true (length bs) (2 ^ 64) (second (are_bytes bs) (ltb (length bs) (2 ^ 64)) e))
field_fits (sense_data sense) e =
    (ltb-true sense.code 256 (first (ltb sense.code 256) (ltb sense.qualifier 256) e), ltb-true sense.qualifier 256 (second (ltb sense.code 256) (ltb sense.qualifier 256) e))
field_fits (name w) e = tt

abbrev pub all_fit : List Field → Bool
all_fit [] = true
all_fit (field ∷ rest) = fits field && all_fit rest

fields_fit : (told : List Field) → all_fit told ≡ true → AllByRecursion Fits told
fields_fit [] e = tt
fields_fit (field ∷ rest) e = (field_fits field (first (fits field) (all_fit rest) e), fields_fit rest (second (fits field) (all_fit rest) e))

pub typed : (note : Note) → all_fit (fields note) ≡ true → IsTyped note
typed note e = fields_fit (fields note) e
