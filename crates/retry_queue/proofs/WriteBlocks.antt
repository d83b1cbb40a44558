-- A write's command block brings the blocks that it counts, whether its unit is a bay or not.
use Rattle.std.proofs.Common.{arith, ◌≡◌, refl, sym, ap, subst, ℕ, ◌*◌, ◌/◌, ◌%◌, ◌≤◌, nat_lt, Bool, true, false, [], ◌∷◌, ◌++◌, Ok}
use Rattle.std.proofs.lemmas.Bool.{ltb-true}
use Rattle.byteorder.specs.Endian.{big_bytes, big_number}
use Rattle.byteorder.specs.Numbers.{big_number-reads_back}
use Rattle.rbc_command.specs.declared.command.Command.{Command}
use Rattle.rbc_command.specs.declared.command.Command.TheVariants as commands
use Rattle.rbc_command.specs.Commands.{lba_of, unless_bad}
use Rattle.rbc_disk.specs.declared.request.Request.TheVariants as requests
use Rattle.rbc_disk.specs.Requests.{plain_request, request_of}
use Rattle.rbc_disk.specs.Runs.{data_length_by, data_length_of}
use Rattle.script_words.specs.declared.verb.Form.TheVariants.{Ten}
use Rattle.script_words.specs.Commands.{addressed_block}

allowed : (count : ℕ) (command : Command) → count ≤ 32 → unless_bad (nat_lt 32 count) command ≡ Ok command
allowed count command few = by (nat_lt 32 count) refl
  where
    by : (t : Bool) → nat_lt 32 count ≡ t → unless_bad t command ≡ Ok command
    by true e = let far = ltb-true 32 count e in absurd (omega arith)
    by false e = refl

-- the count that the block spells is the one that it was made of
counted : (make : ℕ → Command) (count : ℕ) → count ≤ 32 →
    plain_request (unless_bad (nat_lt 32 (big_number 2 (big_bytes 2 count ++ (0 ∷ 0 ∷ 0 ∷ [])))) (make (big_number 2 (big_bytes 2 count ++ (0 ∷ 0 ∷ 0 ∷ []))))) ≡ Ok (requests.Plain (make count))
counted make count few =
    let e : big_number 2 (big_bytes 2 count ++ (0 ∷ 0 ∷ 0 ∷ [])) ≡ count = big_number-reads_back 2 count (0 ∷ 0 ∷ 0 ∷ []) (omega arith) in
    subst (λ c. plain_request (unless_bad (nat_lt 32 c) (make c)) ≡ Ok (requests.Plain (make count))) (sym e) (ap plain_request (allowed count (make count) few))

pub write_ten : (is_bay : Bool) (lba count : ℕ) → count ≤ 32 → request_of is_bay (addressed_block Ten 0x2A lba count) ≡ Ok (requests.Plain (commands.Write (lba_of (addressed_block Ten 0x2A lba count)) count))
unfolding request_of
write_ten true lba count few = counted (commands.Write (lba_of (addressed_block Ten 0x2A lba count))) count few
write_ten false lba count few = counted (commands.Write (lba_of (addressed_block Ten 0x2A lba count))) count few

pub writes_ten : (is_bay : Bool) (lba count : ℕ) → count ≤ 32 → data_length_of is_bay (addressed_block Ten 0x2A lba count) ≡ 512 * count
writes_ten is_bay lba count few = ap data_length_by (write_ten is_bay lba count few)

pub whole_blocks : (bytes : ℕ) → bytes % 512 ≡ 0 → 512 * (bytes / 512) ≡ bytes
whole_blocks bytes e = omega arith
