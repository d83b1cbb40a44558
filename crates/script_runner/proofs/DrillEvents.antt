-- Each line of a drill is one that a world of two initiators takes.
use Rattle.std.proofs.Common.{◌≡◌, ◌∙◌, refl, sym, ℕ, zero, suc, ◌+◌, ◌*◌, ◌%◌, ◌/◌, ◌^◌, ◌<◌, ◌≤◌, ◌==◌, Bool, true, false, cond, List, [], ◌∷◌, ◌++◌, length, replicate, arith}
use Rattle.std.specs.List.{AllByRecursion}
use Rattle.std.proofs.lemmas.List.{length-append, length-replicate}
use Rattle.byteorder.specs.Endian.{big_bytes}
use Rattle.script_words.specs.declared.verb.Form.TheVariants.{Ten}
use Rattle.script_words.specs.Commands.{addressed_block}
use Rattle.sbp_journal.proofs.Each.{all_append}
use Rattle.script_text.specs.Draws.{appending, block_of, block_read, block_write, drawn, next, turn, turn_of}
use Rattle.script_text.specs.Drill.{is_due, settle, turns}
use Rattle.sbp_initiator.specs.Commands.{IsCommand}
use Rattle.sbp_world.specs.Lines.{IsEvent}
use Rattle.bus_transactions.specs.Fitting.{AreBytes}
use Rattle.bus_transactions.proofs.Fits.{bytes_append, bytes_quad, no_bytes}
use Rattle.sbp_world.specs.FitInitiator.{BytesCommand}
use Rattle.sbp_world.specs.Wire.Lines.{FillsBuffer, IsLine}
use Rattle.script_runner.proofs.Brings.{reads_ten, writes_ten}

drawn_two : (x : ℕ) → drawn x 2 < 2
unfolding drawn
drawn_two x = omega arith

write_is : (lba byte : ℕ) → IsCommand (block_write lba byte)
unfolding block_write block_of
write_is lba byte = λ node login.
    let count : length (block_of byte) ≡ 512 = length-replicate 512 byte in
    record { cdb = refl; short = omega arith; payload = omega arith; segments = omega arith; whole = omega arith; max_payload = omega arith }

read_is : (lba : ℕ) → IsCommand (block_read lba)
unfolding block_read
read_is lba = λ node login. record { cdb = refl; short = omega arith; payload = omega arith; segments = omega arith; whole = omega arith; max_payload = omega arith }

turn_of_fits : (x1 x2 x3 : ℕ) → IsEvent (turn_of x1 x2 x3).event 2
turn_of_fits x1 x2 x3 =
    elim (drawn x2 2 == 0) as (λ t. IsEvent (cond t (appending (drawn x1 2) (block_write (drawn x3 64) (drawn (next x3) 256)) (next x3)) (appending (drawn x1 2) (block_read (drawn x3 64)) x3)).event 2) [
      | true ↦ (drawn_two x1, write_is (drawn x3 64) (drawn (next x3) 256))
      | false ↦ (drawn_two x1, read_is (drawn x3 64))
    ]

turn_fits : (x : ℕ) → IsEvent (turn x).event 2
unfolding turn
turn_fits x = turn_of_fits (next x) (next (next x)) (next (next (next x)))

-- ---- lines of the wire

drawn_byte : (x : ℕ) → drawn x 256 < 256
unfolding drawn
drawn_byte x = omega arith

with_byte : (byte : ℕ) (bytes : List ℕ) → byte < 256 → AreBytes bytes → AreBytes (byte ∷ bytes)
with_byte byte bytes small a zero = small
with_byte byte bytes small a (suc k) = a k

all_byte : (n byte : ℕ) → byte < 256 → AreBytes (replicate n byte)
all_byte zero byte small k = omega arith
all_byte (suc n) byte small zero = small
all_byte (suc n) byte small (suc k) = all_byte n byte small k

pair_bytes : (x : ℕ) → AreBytes (big_bytes 2 x)
pair_bytes x zero = omega arith
pair_bytes x (suc zero) = omega arith
pair_bytes x (suc (suc k)) = omega arith

block_bytes : (opcode lba count : ℕ) → opcode < 256 → AreBytes (addressed_block Ten opcode lba count)
block_bytes opcode lba count small =
    let zeros : AreBytes (0 ∷ 0 ∷ 0 ∷ []) = with_byte 0 (0 ∷ 0 ∷ []) (omega arith) (with_byte 0 (0 ∷ []) (omega arith) (with_byte 0 [] (omega arith) no_bytes)) in
    let blocks : AreBytes (big_bytes 2 count ++ (0 ∷ 0 ∷ 0 ∷ [])) = bytes_append (big_bytes 2 count) (0 ∷ 0 ∷ 0 ∷ []) (pair_bytes count) zeros in
    let behind : AreBytes (big_bytes 4 lba ++ (0 ∷ (big_bytes 2 count ++ (0 ∷ 0 ∷ 0 ∷ []))))
    = bytes_append (big_bytes 4 lba) (0 ∷ (big_bytes 2 count ++ (0 ∷ 0 ∷ 0 ∷ []))) (bytes_quad lba) (with_byte 0 (big_bytes 2 count ++ (0 ∷ 0 ∷ 0 ∷ [])) (omega arith) blocks) in
    with_byte opcode (0 ∷ (big_bytes 4 lba ++ (0 ∷ (big_bytes 2 count ++ (0 ∷ 0 ∷ 0 ∷ []))))) small
    (with_byte 0 (big_bytes 4 lba ++ (0 ∷ (big_bytes 2 count ++ (0 ∷ 0 ∷ 0 ∷ [])))) (omega arith) behind)

write_bytes : (lba byte : ℕ) → byte < 256 → BytesCommand (block_write lba byte)
unfolding block_write block_of
write_bytes lba byte small = record { cdb = block_bytes 0x2A lba 1 (omega arith); payload = all_byte 512 byte small }

read_bytes : (lba : ℕ) → BytesCommand (block_read lba)
unfolding block_read
read_bytes lba = record { cdb = block_bytes 0x28 lba 1 (omega arith); payload = no_bytes }

write_fills : (lba byte : ℕ) → FillsBuffer (block_write lba byte)
unfolding block_write block_of
write_fills lba byte = record {
  payload = λ t. length-replicate 512 byte;
  segments = λ t. absurd (omega arith);
  brought = λ is_bay t. writes_ten is_bay lba 1 (omega arith) ∙ sym (length-replicate 512 byte);
  answered = λ is_bay t. absurd (cc t);
}

read_fills : (lba : ℕ) → FillsBuffer (block_read lba)
unfolding block_read
read_fills lba = record {
  payload = λ t. absurd (cc t);
  segments = λ t. absurd (omega arith);
  brought = λ is_bay t. absurd (cc t);
  answered = λ is_bay t. (reads_ten lba 1 (omega arith)).answer is_bay;
}

turn_of_is : (x1 x2 x3 : ℕ) → IsLine (turn_of x1 x2 x3).event 2
turn_of_is x1 x2 x3 =
    elim (drawn x2 2 == 0) as (λ t. IsLine (cond t (appending (drawn x1 2) (block_write (drawn x3 64) (drawn (next x3) 256)) (next x3)) (appending (drawn x1 2) (block_read (drawn x3 64)) x3)).event 2) [
      | true ↦ (drawn_two x1, write_bytes (drawn x3 64) (drawn (next x3) 256) (drawn_byte (next x3)), write_is (drawn x3 64) (drawn (next x3) 256), write_fills (drawn x3 64) (drawn (next x3) 256))
      | false ↦ (drawn_two x1, read_bytes (drawn x3 64), read_is (drawn x3 64), read_fills (drawn x3 64))
    ]

turn_is : (x : ℕ) → IsLine (turn x).event 2
unfolding turn
turn_is x = turn_of_is (next x) (next (next x)) (next (next (next x)))

settle_is : (due : Bool) → AllByRecursion (λ event. IsLine event 2) (settle due)
settle_is true = (tt, tt)
settle_is false = tt

pub lines_are : (count line x : ℕ) → AllByRecursion (λ event. IsLine event 2) (turns count line x)
unfolding turns
lines_are zero line x = tt
lines_are (suc left) line x =
    (turn_is x, all_append (λ event. IsLine event 2) (settle (is_due line left)) (turns left (line + 1) (turn x).state) (settle_is (is_due line left)) (lines_are left (line + 1) (turn x).state))

-- ---- all lines

settle_fits : (due : Bool) → AllByRecursion (λ event. IsEvent event 2) (settle due)
settle_fits true = (tt, tt)
settle_fits false = tt

pub lines_fit : (count line x : ℕ) → AllByRecursion (λ event. IsEvent event 2) (turns count line x)
unfolding turns
lines_fit zero line x = tt
lines_fit (suc left) line x =
    (turn_fits x, all_append (λ event. IsEvent event 2) (settle (is_due line left)) (turns left (line + 1) (turn x).state) (settle_fits (is_due line left)) (lines_fit left (line + 1) (turn x).state))

settle_few : (due : Bool) → length (settle due) ≤ 1
settle_few true = omega arith
settle_few false = omega arith

pub lines_few : (count line x : ℕ) → length (turns count line x) ≤ 2 * count
unfolding turns
lines_few zero line x = omega arith
lines_few (suc left) line x =
    let one = settle_few (is_due line left) in
    let rest = lines_few left (line + 1) (turn x).state in
    omega (arith, length-append (settle (is_due line left)) (turns left (line + 1) (turn x).state))
