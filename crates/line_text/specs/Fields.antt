-- The words of a line of text, separated by single blanks: those of the journal and of both listings.
use Rattle.std.specs.Prelude.{ℕ, zero, suc, List, [], ◌∷◌, ◌++◌, codes, slice_index, Option, Some, None}
use Rattle.std.specs.Fmt.{decimal}
use Rattle.hex.specs.Hex.{encode_upper, upper_digits}
use Rattle.rbc_command.specs.declared.sense.Sense.{Sense}
use Rattle.line_text.specs.Canonical.{canonical}

-- what a word of a line stands for
pub data Field : Type 0 where
  number : ℕ → Field  -- in decimal
  maybe : Option ℕ → Field  -- in decimal, or `-`
  node_name : ℕ → Field  -- `t` for the target, or the number of the initiator
  unit_name : ℕ → Field  -- `u` and the number of the unit
  digits : List ℕ → Field  -- two hexadecimal digits a byte, in upper case
  payload : List ℕ → Field  -- the same, or `-` for no bytes
  bytes : List ℕ → Field  -- in the canonical form
  sense_data : Sense → Field  -- K/CC/QQ
  name : List ℕ → Field  -- a fixed word

-- K/CC/QQ: a sense key of one digit, a code and a qualifier of two each
abbrev pub sense_word : Sense → List ℕ
sense_word sense = slice_index upper_digits sense.key ∷ 47 ∷ (encode_upper (sense.code ∷ []) ++ 47 ∷ encode_upper (sense.qualifier ∷ []))

abbrev pub word : Field → List ℕ
word (number n) = decimal n
word (maybe None) = codes "-"
word (maybe (Some n)) = decimal n
word (node_name zero) = codes "t"
word (node_name (suc initiator)) = decimal initiator
word (unit_name n) = 117 ∷ decimal n
word (digits bs) = encode_upper bs
word (payload []) = codes "-"
word (payload (byte ∷ rest)) = encode_upper (byte ∷ rest)
word (bytes bs) = canonical bs
word (sense_data sense) = sense_word sense
word (name w) = w

-- further words of a line, each behind a blank
abbrev pub further : List Field → List ℕ
further [] = []
further (field ∷ fields) = 32 ∷ (word field ++ further fields)

-- further words of a line, and the line feed
abbrev pub rest_of_line : List Field → List ℕ
rest_of_line [] = 10 ∷ []
rest_of_line (field ∷ fields) = 32 ∷ (word field ++ rest_of_line fields)
