-- The words of a line, and the numbers and bytes that words spell.
use Rattle.std.specs.Prelude.{ℕ, ◌+◌, ◌*◌, ◌%◌, ◌-◌, ◌==◌, ◌&&◌, ◌||◌, nat_lt, nat_le, Bool, not, if◌then◌else◌, List, [], map, fold, length, replicate, slice_index, get_or, Result, Ok, Err}
use Rattle.std.specs.List.{slice_split, list_all}
use Rattle.std.specs.Char.{is_ascii_digit}
use Rattle.hex.specs.Hex.{decode_of, decode_sized, is_hex_digit}
use Rattle.hex.specs.declared.error.FromHexError.{FromHexError}
use Rattle.script_words.specs.declared.fault.LineFault.{LineFault}
use Rattle.script_words.specs.declared.fault.LineFault.TheVariants as faults
use denote.Ref.{Bor}

-- the words of a line, between single spaces: two spaces side by side have an empty word between them
abbrev pub words : List ℕ → List (List ℕ)
words line = slice_split (λ byte. byte == 32) line

-- the words that lent words show
abbrev pub shown : List (Bor (List ℕ)) → List (List ℕ)
shown lent = map (λ word. word.now) lent

-- the word at a place; none is as an empty word
abbrev pub word_at : List (List ℕ) → ℕ → List ℕ
word_at ws place = get_or ws place []

-- one step after another, each of which may find a fault
infixl 10 ◌>>=◌
abbrev pub ◌>>=◌ : {A B : Type 0} → Result A LineFault → (A → Result B LineFault) → Result B LineFault
Ok x >>= f = f x
Err fault >>= f = Err fault

-- a decimal number of any length, without a leading zero
unfoldable pub is_numeral : List ℕ → Bool
is_numeral word = nat_lt 0 (length word) && list_all is_ascii_digit word && (not (slice_index word 0 == 48) || (length word == 1))

-- the number that decimal digits spell
unfoldable pub value : List ℕ → ℕ
value word = fold (λ number digit. 10 * number + (digit - 48)) 0 word

abbrev pub is_between : ℕ → ℕ → List ℕ → Bool
is_between low high word = nat_le low (value word) && nat_le (value word) high

-- a number in its range
abbrev pub number : ℕ → ℕ → List ℕ → Result ℕ LineFault
number low high word = if is_between low high word then Ok (value word) else Err faults.Range

-- numbers that are all in one range
abbrev pub numbers : ℕ → ℕ → List (List ℕ) → Result (List ℕ) LineFault
numbers low high ws = if list_all (is_between low high) ws then Ok (map value ws) else Err faults.Range

-- an even number of hexadecimal digits, two or more
unfoldable pub is_hex : List ℕ → Bool
is_hex word = nat_lt 0 (length word) && (length word % 2 == 0) && list_all is_hex_digit word

-- exactly 16 hexadecimal digits
unfoldable pub is_key : List ℕ → Bool
is_key word = (length word == 16) && list_all is_hex_digit word

abbrev pub bytes_or_none : Result (List ℕ) FromHexError → List ℕ
bytes_or_none (Ok bytes) = bytes
bytes_or_none (Err error) = []

-- the bytes that hexadecimal digits spell
unfoldable pub hex_bytes : List ℕ → List ℕ
hex_bytes word = bytes_or_none (decode_of word)

abbrev pub bytes_or_zeros : ℕ → Result (List ℕ) FromHexError → List ℕ
bytes_or_zeros count (Ok bytes) = bytes
bytes_or_zeros count (Err error) = replicate count 0

-- so many bytes, spelt by twice as many digits; zero bytes where no such digits stand
unfoldable pub sized_bytes : ℕ → List ℕ → List ℕ
sized_bytes count word = bytes_or_zeros count (decode_sized word count)
