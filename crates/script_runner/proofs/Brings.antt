-- What the commands of a script bring, by their command blocks and whether their unit is a bay or not: a READ the blocks that it counts, a WRITE those of its
-- data, and each other one what its buffer has.
use Rattle.std.proofs.Common.{arith, ◌≡◌, ◌∙◌, refl, sym, ap, subst, ℕ, ◌+◌, ◌*◌, ◌/◌, ◌%◌, ◌^◌, ◌<◌, ◌≤◌, nat_lt, Bool, true, false, List, [], ◌∷◌, ◌++◌, length, Result, Ok}
use Rattle.std.proofs.lemmas.Bool.{ltb-true}
use Rattle.byteorder.specs.Endian.{big_bytes, big_number}
use Rattle.byteorder.specs.Numbers.{big_number-reads_back}
use Rattle.rbc_command.specs.declared.command.Command.{Command}
use Rattle.rbc_command.specs.declared.command.Command.TheVariants as commands
use Rattle.rbc_command.specs.Commands.{lba_of, unless_bad}
use Rattle.rbc_disk.specs.declared.request.Request.TheVariants as requests
use Rattle.rbc_disk.specs.Requests.{plain_request, request_of}
use Rattle.rbc_disk.specs.Runs.{answer_length_by, answer_length_of, data_length_by, data_length_of}
use Rattle.script_words.specs.declared.verb.Form.TheVariants.{Ten, Twelve}
use Rattle.script_words.specs.Commands.{addressed_block, plain_block}

-- a command block is answered with so many bytes, and wants no data
pub record IsAnswered (cdb : List ℕ) (len : ℕ) : Type 0 where
  pub answer : (is_bay : Bool) → answer_length_of is_bay cdb ≡ len
  pub none : (is_bay : Bool) → data_length_of is_bay cdb ≡ 0

-- ---- commands that move blocks

allowed : (count : ℕ) (command : Command) → count ≤ 32 → unless_bad (nat_lt 32 count) command ≡ Ok command
allowed count command few = by (nat_lt 32 count) refl
  where
    by : (t : Bool) → nat_lt 32 count ≡ t → unless_bad t command ≡ Ok command
    by true e = let far = ltb-true 32 count e in absurd (omega arith)
    by false e = refl

-- the count that a block spells is the one that it was made of
ten : (make : ℕ → Command) (count : ℕ) → count ≤ 32 →
    plain_request (unless_bad (nat_lt 32 (big_number 2 (big_bytes 2 count ++ (0 ∷ 0 ∷ 0 ∷ [])))) (make (big_number 2 (big_bytes 2 count ++ (0 ∷ 0 ∷ 0 ∷ []))))) ≡ Ok (requests.Plain (make count))
ten make count few =
    let e : big_number 2 (big_bytes 2 count ++ (0 ∷ 0 ∷ 0 ∷ [])) ≡ count = big_number-reads_back 2 count (0 ∷ 0 ∷ 0 ∷ []) (omega arith) in
    subst (λ c. plain_request (unless_bad (nat_lt 32 c) (make c)) ≡ Ok (requests.Plain (make count))) (sym e) (ap plain_request (allowed count (make count) few))

twelve : (make : ℕ → Command) (count : ℕ) → count ≤ 32 →
    plain_request (unless_bad (nat_lt 32 (big_number 4 (big_bytes 4 count ++ (0 ∷ 0 ∷ [])))) (make (big_number 4 (big_bytes 4 count ++ (0 ∷ 0 ∷ []))))) ≡ Ok (requests.Plain (make count))
twelve make count few =
    let e : big_number 4 (big_bytes 4 count ++ (0 ∷ 0 ∷ [])) ≡ count = big_number-reads_back 4 count (0 ∷ 0 ∷ []) (omega arith) in
    subst (λ c. plain_request (unless_bad (nat_lt 32 c) (make c)) ≡ Ok (requests.Plain (make count))) (sym e) (ap plain_request (allowed count (make count) few))

read_ten : (is_bay : Bool) (lba count : ℕ) → count ≤ 32 → request_of is_bay (addressed_block Ten 0x28 lba count) ≡ Ok (requests.Plain (commands.Read (lba_of (addressed_block Ten 0x28 lba count)) count))
unfolding request_of
read_ten true lba count few = ten (commands.Read (lba_of (addressed_block Ten 0x28 lba count))) count few
read_ten false lba count few = ten (commands.Read (lba_of (addressed_block Ten 0x28 lba count))) count few

read_twelve : (is_bay : Bool) (lba count : ℕ) → count ≤ 32 → request_of is_bay (addressed_block Twelve 0xA8 lba count) ≡ Ok (requests.Plain (commands.Read (lba_of (addressed_block Twelve 0xA8 lba count)) count))
unfolding request_of
read_twelve true lba count few = twelve (commands.Read (lba_of (addressed_block Twelve 0xA8 lba count))) count few
read_twelve false lba count few = twelve (commands.Read (lba_of (addressed_block Twelve 0xA8 lba count))) count few

pub reads_ten : (lba count : ℕ) → count ≤ 32 → IsAnswered (addressed_block Ten 0x28 lba count) (512 * count)
reads_ten lba count few = record {
  answer = λ is_bay. ap answer_length_by (read_ten is_bay lba count few);
  none = λ is_bay. ap data_length_by (read_ten is_bay lba count few);
}

pub reads_twelve : (lba count : ℕ) → count ≤ 32 → IsAnswered (addressed_block Twelve 0xA8 lba count) (512 * count)
reads_twelve lba count few = record {
  answer = λ is_bay. ap answer_length_by (read_twelve is_bay lba count few);
  none = λ is_bay. ap data_length_by (read_twelve is_bay lba count few);
}

write_ten : (is_bay : Bool) (lba count : ℕ) → count ≤ 32 → request_of is_bay (addressed_block Ten 0x2A lba count) ≡ Ok (requests.Plain (commands.Write (lba_of (addressed_block Ten 0x2A lba count)) count))
unfolding request_of
write_ten true lba count few = ten (commands.Write (lba_of (addressed_block Ten 0x2A lba count))) count few
write_ten false lba count few = ten (commands.Write (lba_of (addressed_block Ten 0x2A lba count))) count few

write_twelve : (is_bay : Bool) (lba count : ℕ) → count ≤ 32 → request_of is_bay (addressed_block Twelve 0xAA lba count) ≡ Ok (requests.Plain (commands.Write (lba_of (addressed_block Twelve 0xAA lba count)) count))
unfolding request_of
write_twelve true lba count few = twelve (commands.Write (lba_of (addressed_block Twelve 0xAA lba count))) count few
write_twelve false lba count few = twelve (commands.Write (lba_of (addressed_block Twelve 0xAA lba count))) count few

pub writes_ten : (is_bay : Bool) (lba count : ℕ) → count ≤ 32 → data_length_of is_bay (addressed_block Ten 0x2A lba count) ≡ 512 * count
writes_ten is_bay lba count few = ap data_length_by (write_ten is_bay lba count few)

pub writes_twelve : (is_bay : Bool) (lba count : ℕ) → count ≤ 32 → data_length_of is_bay (addressed_block Twelve 0xAA lba count) ≡ 512 * count
writes_twelve is_bay lba count few = ap data_length_by (write_twelve is_bay lba count few)

-- as many blocks as so many bytes are
pub blocks_in : (bytes : ℕ) → bytes % 512 ≡ 0 → 512 * (bytes / 512) ≡ bytes
blocks_in bytes e = omega arith

-- ---- the others

either : (f : Bool → ℕ) (n : ℕ) → f true ≡ n → f false ≡ n → (is_bay : Bool) → f is_bay ≡ n
either f n there here true = there
either f n there here false = here

answered_by : (cdb : List ℕ) (len : ℕ) → answer_length_of true cdb ≡ len → answer_length_of false cdb ≡ len → data_length_of true cdb ≡ 0 → data_length_of false cdb ≡ 0 → IsAnswered cdb len
answered_by cdb len a b c d = record { answer = either (λ t. answer_length_of t cdb) len a b; none = either (λ t. data_length_of t cdb) 0 c d }

pub verifies : (lba count : ℕ) → IsAnswered (addressed_block Ten 0x2F lba count) 0
unfolding request_of
verifies lba count = answered_by (addressed_block Ten 0x2F lba count) 0 refl refl refl refl

pub tests_ready : IsAnswered (plain_block 0x00 0) 0
unfolding request_of
tests_ready = answered_by (plain_block 0x00 0) 0 refl refl refl refl

pub inquires : IsAnswered (plain_block 0x12 36) 36
unfolding request_of
inquires = answered_by (plain_block 0x12 36) 36 refl refl refl refl

pub starts : IsAnswered (plain_block 0x1B 1) 0
unfolding request_of
starts = answered_by (plain_block 0x1B 1) 0 refl refl refl refl

pub stops : IsAnswered (plain_block 0x1B 0) 0
unfolding request_of
stops = answered_by (plain_block 0x1B 0) 0 refl refl refl refl

pub ejects : IsAnswered (plain_block 0x1B 2) 0
unfolding request_of
ejects = answered_by (plain_block 0x1B 2) 0 refl refl refl refl

pub loads : IsAnswered (plain_block 0x1B 3) 0
unfolding request_of
loads = answered_by (plain_block 0x1B 3) 0 refl refl refl refl

pub prevents : IsAnswered (plain_block 0x1E 1) 0
unfolding request_of
prevents = answered_by (plain_block 0x1E 1) 0 refl refl refl refl

pub allows : IsAnswered (plain_block 0x1E 0) 0
unfolding request_of
allows = answered_by (plain_block 0x1E 0) 0 refl refl refl refl

pub tells_capacity : IsAnswered (plain_block 0x25 0) 8
unfolding request_of
tells_capacity = answered_by (plain_block 0x25 0) 8 refl refl refl refl

pub synchronizes : IsAnswered (plain_block 0x35 0) 0
unfolding request_of
synchronizes = answered_by (plain_block 0x35 0) 0 refl refl refl refl
