-- The bytes that a line of hexadecimal digits spells.
use Rattle.std.specs.Prelude.{◌≡◌, ℕ, ◌==◌, ◌||◌, Bool, not, List, filter, Result, Ok, Err}
use Rattle.hex.specs.Hex.{decode_of}
use Rattle.hex.specs.declared.error.FromHexError.{FromHexError}
use Rattle.line_text.specs.declared.digits.DigitsError.{DigitsError}
use Rattle.line_text.specs.declared.digits.DigitsError.TheVariants.{NoDigits, NoMemory}

-- spaces and tabs are dropped wherever they stand
abbrev pub is_gap : ℕ → Bool
is_gap byte = (byte == 32) || (byte == 9)

abbrev pub digits : List ℕ → List ℕ
digits line = filter (λ byte. not (is_gap byte)) line

-- the bytes that the digits of a line spell, or why they spell none
abbrev pub spelled : List ℕ → Result (List ℕ) FromHexError
spelled line = decode_of (digits line)

-- the number of the fault of a line whose digits spell no bytes
abbrev pub no_digits : ℕ
no_digits = 9

-- these are the bytes, or there are none, or memory was wanting
abbrev pub Spells : {A : Type 0} → Result A DigitsError → List ℕ → List ℕ → Type 0
Spells (Ok done) line bytes = spelled line ≡ Ok bytes
Spells (Err NoDigits) line bytes = (error : FromHexError) × (spelled line ≡ Err error)
Spells (Err NoMemory) line bytes = Unit {0}
