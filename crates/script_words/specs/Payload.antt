-- The data and the segments of a command.
use Rattle.std.specs.Prelude.{ℕ, ◌%◌, ◌==◌, ◌&&◌, nat_lt, nat_le, Bool, true, if◌then◌else◌, List, take, drop, sum, length, replicate, slice_index, Result, Ok, Err}
use Rattle.std.specs.List.{slice_split, list_all, flat_map}
use Rattle.script_words.specs.declared.fault.LineFault.{LineFault}
use Rattle.script_words.specs.declared.fault.LineFault.TheVariants as faults
use Rattle.script_words.specs.Words.{◌>>=◌, is_numeral, value, is_between, numbers, is_hex, hex_bytes, sized_bytes}

-- DATA is one or more pieces, joined by `+`
abbrev pub pieces : List ℕ → List (List ℕ)
pieces word = slice_split (λ byte. byte == 43) word

-- a piece HH*N, with a `*` behind two digits
abbrev pub has_star : List ℕ → Bool
has_star piece = nat_lt 2 (length piece) && (slice_index piece 2 == 42)

-- a piece is two digits, `*` and a number, or else an even number of digits, two or more
unfoldable pub is_piece : List ℕ → Bool
is_piece piece = if has_star piece then is_hex (take 2 piece) && is_numeral (drop 3 piece) else is_hex piece

abbrev pub is_data : List ℕ → Bool
is_data word = list_all is_piece (pieces word)

-- the number of a piece HH*N is 1 to 16384
unfoldable pub has_count : List ℕ → Bool
has_count piece = if has_star piece then is_between 1 16384 (drop 3 piece) else true

-- the bytes of a piece
unfoldable pub piece_bytes : List ℕ → List ℕ
piece_bytes piece =
    if has_star piece then replicate (value (drop 3 piece)) (slice_index (sized_bytes 1 (take 2 piece)) 0) else hex_bytes piece

-- whole blocks, one to 32 of them: a length that is a multiple of 512, from 512 to 16384
abbrev pub is_whole : ℕ → Bool
is_whole len = (len % 512 == 0) && nat_le 512 len && nat_le len 16384

-- the bytes of the pieces of DATA
abbrev pub bytes_of : List (List ℕ) → Result (List ℕ) LineFault
bytes_of ps = if list_all has_count ps && is_whole (length (flat_map piece_bytes ps)) then Ok (flat_map piece_bytes ps) else Err faults.Range

-- the lengths of `seg`, joined by commas
abbrev pub lengths : List ℕ → List (List ℕ)
lengths word = slice_split (λ byte. byte == 44) word

abbrev pub are_lengths : List ℕ → Bool
are_lengths word = list_all is_numeral (lengths word)

-- segments whose lengths have the data's length as their sum
abbrev pub summing : ℕ → List ℕ → Result (List ℕ) LineFault
summing total lens = if sum lens == total then Ok lens else Err faults.Range

-- 1 to 64 segments of 1 to 16384 bytes, for data of `total` bytes
abbrev pub segments_of : ℕ → List ℕ → Result (List ℕ) LineFault
segments_of total word =
    if nat_le (length (lengths word)) 64 then numbers 1 16384 (lengths word) >>= summing total else Err faults.Range
