-- The words of a line, read back as what they stand for.
use Rattle.std.proofs.Common.{◌≡◌, ◌==◌, ◌<◌, ◌/◌, ◌%◌, ◌^◌, ℕ, zero, suc, Bool, true, false, List, [], ◌∷◌, get_or, slice_index, Option, Some, None, Result, Ok, Err, ◌⊎◌, inl, inr, refl, ap, ◌∙◌, arith}
use Rattle.std.specs.List.{AllByRecursion}
use Rattle.std.specs.Fmt.{decimal}
use Rattle.std.specs.Str.Parse.{digits_value}
use Rattle.std.specs.Int.{IsInRange}
use Rattle.std.proofs.lemmas.Fmt.{digits_decimal, digits_value-decimal}
use Rattle.std.proofs.lemmas.Str.Parse.{IsDigitsTest, numerals_by_value, tells_digits}
use Rattle.std.proofs.lemmas.Bool.{eqb-true}
use Rattle.std.proofs.lemmas.Bool.Decides.{nat_tests}
use Rattle.hex.specs.Hex.{encode_upper, encode_with, upper_digits, decode_of, hex_digit_value, IsBytes}
use Rattle.hex.specs.declared.error.FromHexError.{FromHexError}
use Rattle.hex.proofs.HexLemmas.{decode_of-encode_upper, IsDigits-upper_digits}
use Rattle.rbc_command.specs.declared.sense.Sense.{Sense}
use Rattle.line_text.specs.Fields.{sense_word}
use Rattle.sbp_journal.specs.Written.{AreBytes}
use Rattle.journal_text.proofs.WordsBack.{Lacks, split, split-join, lacks-append}

-- ---- numbers

abbrev pub number_of : List ℕ → ℕ
number_of word = digits_value 10 word

pub number_back : (n : ℕ) → n < 2 ^ 64 → number_of (decimal n) ≡ n
number_back n h = digits_value-decimal (numerals_by_value _ tells_digits) n h

abbrev ByDigits : List ℕ → Type 0
ByDigits word = AllByRecursion (IsInRange 48 57) word

tells_by_range : IsDigitsTest ByDigits
tells_by_range = record { empty = tt; parts = λ c cs e. e; more = λ c cs k e. (k, e) }

digits_lack : (c : ℕ) (word : List ℕ) → (c < 48) ⊎ (57 < c) → ByDigits word → Lacks c word
digits_lack c [] out h = tt
digits_lack c (byte ∷ word) out h = (apart byte c h.0 out, digits_lack c word out h.1)
  where
    apart : (byte c : ℕ) → IsInRange 48 57 byte → (c < 48) ⊎ (57 < c) → (byte == c) ≡ false
    apart byte c k out = elim out [ inl l ↦ grind (arith, nat_tests) | inr l ↦ grind (arith, nat_tests) ]

pub decimal_lacks : (c n : ℕ) → n < 2 ^ 64 → (c < 48) ⊎ (57 < c) → Lacks c (decimal n)
decimal_lacks c n h out = digits_lack c (decimal n) out (digits_decimal (numerals_by_value _ tells_by_range) n h)

-- a number that begins another way than a letter does
pub decimal_digits : (n : ℕ) → n < 2 ^ 64 → AllByRecursion (IsInRange 48 57) (decimal n)
decimal_digits n h = digits_decimal (numerals_by_value _ tells_by_range) n h

-- ---- bytes as digits

abbrev pub bytes_or_none : Result (List ℕ) FromHexError → List ℕ
bytes_or_none (Ok bytes) = bytes
bytes_or_none (Err error) = []

abbrev pub unhex : List ℕ → List ℕ
unhex word = bytes_or_none (decode_of word)

bytes_below : (bs : List ℕ) → AreBytes bs → IsBytes bs
bytes_below [] h i = omega arith
bytes_below (byte ∷ bs) h zero = h.0
bytes_below (byte ∷ bs) h (suc i) = bytes_below bs h.1 i

pub unhex_back : (bs : List ℕ) → AreBytes bs → unhex (encode_upper bs) ≡ bs
unhex_back bs h = ap bytes_or_none (decode_of-encode_upper bs (bytes_below bs h))

pub digit_back : (n : ℕ) → n < 16 → hex_digit_value (slice_index upper_digits n) ≡ Some n
digit_back n h = IsDigits-upper_digits n h

-- a byte that is no digit is not in them
not_a_digit : (c n : ℕ) → hex_digit_value c ≡ None → n < 16 → (slice_index upper_digits n == c) ≡ false
not_a_digit c n out h = by_test (slice_index upper_digits n == c) refl
  where
    by_test : (t : Bool) → (slice_index upper_digits n == c) ≡ t → t ≡ false
    by_test true e = let same : hex_digit_value (slice_index upper_digits n) ≡ None = ap hex_digit_value (eqb-true (slice_index upper_digits n) c e) ∙ out in let some = digit_back n h in cc
    by_test false e = refl

pub encode_lacks : (c : ℕ) (bs : List ℕ) → hex_digit_value c ≡ None → AreBytes bs → Lacks c (encode_upper bs)
unfolding encode_with
encode_lacks c [] out h = tt
encode_lacks c (byte ∷ bs) out h =
    let fits : byte < 256 = h.0 in
    (not_a_digit c (byte / 16) out (omega arith), (not_a_digit c (byte % 16) out (omega arith), encode_lacks c bs out h.1))

-- ---- a sense

abbrev value_or_zero : Option ℕ → ℕ
value_or_zero None = 0
value_or_zero (Some n) = n

abbrev pub byte_in : List ℕ → ℕ
byte_in word = get_or (unhex word) 0 0

abbrev pub sense_from : List (List ℕ) → Sense
sense_from ws = record { key = value_or_zero (hex_digit_value (get_or (get_or ws 0 []) 0 0)); code = byte_in (get_or ws 1 []); qualifier = byte_in (get_or ws 2 []) }

abbrev pub sense_of : List ℕ → Sense
sense_of word = sense_from (split 47 word)

pub byte_back : (byte : ℕ) → byte < 256 → byte_in (encode_upper (byte ∷ [])) ≡ byte
byte_back byte h = ap (λ bs. get_or bs 0 0) (unhex_back (byte ∷ []) (h, tt))

pub sense_back : (sense : Sense) → sense.key < 16 → sense.code < 256 → sense.qualifier < 256 → sense_of (sense_word sense) ≡ sense
sense_back sense key code qualifier =
    let parts : split 47 (sense_word sense) ≡ (slice_index upper_digits sense.key ∷ []) ∷ encode_upper (sense.code ∷ []) ∷ encode_upper (sense.qualifier ∷ []) ∷ [] =
    split-join 47 (slice_index upper_digits sense.key ∷ []) (encode_upper (sense.code ∷ []) ∷ encode_upper (sense.qualifier ∷ []) ∷ [])
    ((not_a_digit 47 sense.key refl key, tt), (encode_lacks 47 (sense.code ∷ []) refl (code, tt), (encode_lacks 47 (sense.qualifier ∷ []) refl (qualifier, tt), tt))) in
    ap sense_from parts ∙ rw (digit_back sense.key key, byte_back sense.code code, byte_back sense.qualifier qualifier) refl

pub sense_lacks : (c : ℕ) (sense : Sense) → hex_digit_value c ≡ None → (47 == c) ≡ false → sense.key < 16 → sense.code < 256 → sense.qualifier < 256 → Lacks c (sense_word sense)
sense_lacks c sense out slash key code qualifier = (
  not_a_digit c sense.key out key,
  (
    slash,
    lacks-append c (encode_upper (sense.code ∷ [])) (47 ∷ encode_upper (sense.qualifier ∷ [])) (encode_lacks c (sense.code ∷ []) out (code, tt)) (slash, encode_lacks c (sense.qualifier ∷ []) out (qualifier, tt)),
  ),
)
