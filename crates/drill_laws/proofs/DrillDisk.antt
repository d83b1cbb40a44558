-- No check holds for the command of a drill on a unit that is as it needs it.
use Rattle.std.proofs.Common.{◌≡◌, ◌∙◌, refl, sym, ap, subst, ℕ, ◌+◌, ◌<◌, ◌≤◌, ◌==◌, ◌&&◌, ◌||◌, not, nat_lt, Bool, true, false, cond, List, [], ◌∷◌, ◌++◌, length, replicate, take, Some, None, Ok, arith}
use Rattle.std.proofs.lemmas.Bool.Decides.{nat_tests}
use Rattle.std.proofs.lemmas.List.{length-replicate, take_all}
use Rattle.std.proofs.lemmas.Nat.Bits.{bit_at-zero}
use Rattle.byteorder.specs.Endian.{big_bytes}
use Rattle.byteorder.specs.Numbers.{big_number-reads_back}
use Rattle.rbc_command.specs.declared.command.Command.{Command}
use Rattle.rbc_command.specs.declared.command.Command.TheVariants as commands
use Rattle.rbc_command.specs.Commands.{lba_of}
use Rattle.rbc_command.specs.declared.sense.Sense.{Sense}
use Rattle.rbc_command.specs.SenseData.{read_failed, write_failed}
use Rattle.rbc_disk.specs.declared.request.Request.TheVariants as requests
use Rattle.rbc_disk.specs.Checks.{check_of, field_check, first_of, mark_check, request_check, told_marks}
use Rattle.rbc_disk.specs.Requests.{request_of}
use Rattle.rbc_disk.specs.Disk.{loads, written}
use Rattle.rbc_disk.specs.Runs.{after_run, failure_by, failure_of, is_failure, medium_ended, unit_ended}
use Rattle.rbc_disk.specs.Units.{PlainDisk, has_place, plain_disk}
use Rattle.script_words.specs.declared.verb.Form.TheVariants.{Ten}
use Rattle.script_words.specs.Commands.{addressed_block}
use Rattle.script_text.specs.Draws.{block_of, block_read, block_write}
use Rattle.sbp_journal.specs.declared.event.Cmd.{Cmd}
use Rattle.sbp_laws.specs.Actions.{buffer_of, out_buffer}
use Rattle.sbp_laws.specs.DiskFold.{asks_load, moves_disc}
use Rattle.sbp_laws.specs.Terms.{plan_of}
use Rattle.drill_laws.specs.DrillDisk.{CommandsPass, IsHealthy}
use Rattle.drill_laws.specs.DrillLines.{IsDrillCommand, reads, writes}

-- ---- the requests
abbrev pub read_block : ℕ → List ℕ
read_block lba = addressed_block Ten 0x28 lba 1

abbrev pub write_block : ℕ → List ℕ
write_block lba = addressed_block Ten 0x2A lba 1

pub lba_back : (opcode lba : ℕ) → lba < 64 → lba_of (addressed_block Ten opcode lba 1) ≡ lba
lba_back opcode lba few = big_number-reads_back 4 lba (0 ∷ (big_bytes 2 1 ++ (0 ∷ 0 ∷ 0 ∷ []))) (omega (arith, few))

pub read_is : (is_bay : Bool) (lba : ℕ) → lba < 64 → request_of is_bay (read_block lba) ≡ Ok (requests.Plain (commands.Read lba 1))
unfolding request_of
read_is true lba few = ap (λ n. Ok (requests.Plain (commands.Read n 1))) (lba_back 0x28 lba few)
read_is false lba few = ap (λ n. Ok (requests.Plain (commands.Read n 1))) (lba_back 0x28 lba few)

pub write_is : (is_bay : Bool) (lba : ℕ) → lba < 64 → request_of is_bay (write_block lba) ≡ Ok (requests.Plain (commands.Write lba 1))
unfolding request_of
write_is true lba few = ap (λ n. Ok (requests.Plain (commands.Write n 1))) (lba_back 0x2A lba few)
write_is false lba few = ap (λ n. Ok (requests.Plain (commands.Write n 1))) (lba_back 0x2A lba few)

-- ---- the checks
unmarked : (places place : ℕ) → places ≡ 0 → has_place places place ≡ false
unmarked places place e = ap (λ p. has_place p place) e ∙ ap (λ b. b == 1) (bit_at-zero place)

no_marks : (plain : PlainDisk) (place : ℕ) → IsHealthy plain → mark_check (has_place plain.unit.reset place) (has_place plain.unit.changed place) ≡ None
no_marks plain place h = ap (λ b. mark_check b (has_place plain.unit.changed place)) (unmarked plain.unit.reset place h.reset) ∙ ap (mark_check false) (unmarked plain.unit.changed place h.changed)

inside_here : (lba blocks : ℕ) → lba < 64 → 64 ≤ blocks → (not (nat_lt lba blocks) || nat_lt blocks (lba + 1)) ≡ false
inside_here lba blocks few room = by (nat_lt lba blocks) (nat_lt blocks (lba + 1)) refl refl
  where
    by : (a b : Bool) → nat_lt lba blocks ≡ a → nat_lt blocks (lba + 1) ≡ b → (not a || b) ≡ false
    by true false e f = refl
    by true true e f = absurd (grind (arith, nat_tests, few, room))
    by false b e f = absurd (grind (arith, nat_tests, few, room))

read_unchecked : (lba : ℕ) (plain : PlainDisk) → lba < 64 → IsHealthy plain → request_check (requests.Plain (commands.Read lba 1)) (record { to_initiator = true; bytes = 512 }) plain ≡ None
read_unchecked lba plain few h = rw (h.present, h.started, inside_here lba plain.medium.blocks few h.room) refl

write_unchecked : (lba : ℕ) (plain : PlainDisk) → lba < 64 → IsHealthy plain → request_check (requests.Plain (commands.Write lba 1)) (record { to_initiator = false; bytes = 512 }) plain ≡ None
write_unchecked lba plain few h = rw (h.present, h.started, inside_here lba plain.medium.blocks few h.room, h.open_for_it) refl

-- ---- the buffers
out_plan : (bytes : List ℕ) (len : ℕ) → length bytes ≡ len → 0 < len → plan_of (out_buffer bytes) ≡ record { to_initiator = false; bytes = len }
out_plan [] len e some = absurd (omega (arith, e, some))
out_plan (byte ∷ bytes) len e some = ap (λ n. record { to_initiator = false; bytes = n }) e

write_plan : (lba byte : ℕ) → plan_of (buffer_of (block_write lba byte)) ≡ record { to_initiator = false; bytes = 512 }
unfolding block_write block_of
write_plan lba byte =
    let count : length (replicate 512 byte) ≡ 512 = length-replicate 512 byte in
    out_plan (take (length (replicate 512 byte)) (replicate 512 byte)) 512 (taken (replicate 512 byte) 512 count) (omega arith)
  where
    taken : (xs : List ℕ) (n : ℕ) → length xs ≡ n → length (take (length xs) xs) ≡ n
    taken xs n e = ap length (take_all (length xs) xs (omega arith)) ∙ e

read_plan : (lba : ℕ) → plan_of (buffer_of (block_read lba)) ≡ record { to_initiator = true; bytes = 512 }
unfolding block_read
read_plan lba = refl

-- ---- all of it
read_passes : (lba : ℕ) (plain : PlainDisk) (place : ℕ) → lba < 64 → IsHealthy plain → check_of (read_block lba) (record { to_initiator = true; bytes = 512 }) plain place ≡ None
unfolding check_of
read_passes lba plain place few h =
    ap (λ m. first_of (told_marks false m) (field_check (request_of plain.medium.is_bay (read_block lba)) (record { to_initiator = true; bytes = 512 }) plain)) (no_marks plain place h)
    ∙ ap (λ r. field_check r (record { to_initiator = true; bytes = 512 }) plain) (read_is plain.medium.is_bay lba few) ∙ read_unchecked lba plain few h

write_passes : (lba : ℕ) (plain : PlainDisk) (place : ℕ) → lba < 64 → IsHealthy plain → check_of (write_block lba) (record { to_initiator = false; bytes = 512 }) plain place ≡ None
unfolding check_of
write_passes lba plain place few h =
    ap (λ m. first_of (told_marks false m) (field_check (request_of plain.medium.is_bay (write_block lba)) (record { to_initiator = false; bytes = 512 }) plain)) (no_marks plain place h)
    ∙ ap (λ r. field_check r (record { to_initiator = false; bytes = 512 }) plain) (write_is plain.medium.is_bay lba few) ∙ write_unchecked lba plain few h

pub write_cdb : (lba byte : ℕ) → (block_write lba byte).cdb ≡ write_block lba
unfolding block_write
write_cdb lba byte = refl

pub read_cdb : (lba : ℕ) → (block_read lba).cdb ≡ read_block lba
unfolding block_read
read_cdb lba = refl

passes : (cmd : Cmd) (plain : PlainDisk) (place : ℕ) → IsDrillCommand cmd → IsHealthy plain → check_of cmd.cdb (plan_of (buffer_of cmd)) plain place ≡ None
passes cmd plain place (writes lba byte few b e) h =
    ap (λ (c : Cmd). check_of c.cdb (plan_of (buffer_of c)) plain place) e ∙ ap (λ c. check_of c (plan_of (buffer_of (block_write lba byte))) plain place) (write_cdb lba byte)
    ∙ ap (λ p. check_of (write_block lba) p plain place) (write_plan lba byte) ∙ write_passes lba plain place few h
passes cmd plain place (reads lba few e) h =
    ap (λ (c : Cmd). check_of c.cdb (plan_of (buffer_of c)) plain place) e ∙ ap (λ c. check_of c (plan_of (buffer_of (block_read lba))) plain place) (read_cdb lba)
    ∙ ap (λ p. check_of (read_block lba) p plain place) (read_plan lba) ∙ read_passes lba plain place few h

-- ---- what it leaves
abbrev MovesBlocks : Command → Type 0
MovesBlocks (commands.Read lba count) = Unit {0}
MovesBlocks (commands.Write lba count) = Unit {0}
MovesBlocks command = ⊥

ended_healthy : (command : Command) (bytes : List ℕ) (place : ℕ) (plain : PlainDisk) → MovesBlocks command → IsHealthy plain → IsHealthy (plain_disk (unit_ended (Ok (requests.Plain command)) None place plain.unit) (medium_ended (Ok (requests.Plain command)) bytes None plain.medium))
ended_healthy (commands.Read lba count) bytes place plain moves h = record { started = h.started; reset = h.reset; changed = h.changed; present = h.present; open_for_it = h.open_for_it; room = h.room }
ended_healthy (commands.Write lba count) bytes place plain moves h = by (count == 0)
  where
    by : (b : Bool) → IsHealthy (plain_disk plain.unit (cond b plain.medium (written plain.medium lba bytes)))
    by true = record { started = h.started; reset = h.reset; changed = h.changed; present = h.present; open_for_it = h.open_for_it; room = h.room }
    by false = record { started = h.started; reset = h.reset; changed = h.changed; present = h.present; open_for_it = h.open_for_it; room = h.room }
ended_healthy _ bytes place plain moves h = absurd moves

run_healthy : (cdb bytes : List ℕ) (command : Command) (place : ℕ) (plain : PlainDisk) → request_of plain.medium.is_bay cdb ≡ Ok (requests.Plain command) → MovesBlocks command → IsHealthy plain → IsHealthy (after_run cdb bytes None place plain)
run_healthy cdb bytes command place plain e moves h =
    subst (λ r. IsHealthy (plain_disk (unit_ended r None place plain.unit) (medium_ended r bytes None plain.medium))) (sym e) (ended_healthy command bytes place plain moves h)

leaves_so : (cmd : Cmd) (plain : PlainDisk) (place : ℕ) (bytes : List ℕ) → IsDrillCommand cmd → IsHealthy plain → IsHealthy (after_run cmd.cdb bytes None place plain)
leaves_so cmd plain place bytes (writes lba byte few b e) h = run_healthy cmd.cdb bytes (commands.Write lba 1) place plain (ap (λ (c : Cmd). request_of plain.medium.is_bay c.cdb) e ∙ ap (request_of plain.medium.is_bay) (write_cdb lba byte) ∙ write_is plain.medium.is_bay lba few) tt h
leaves_so cmd plain place bytes (reads lba few e) h = run_healthy cmd.cdb bytes (commands.Read lba 1) place plain (ap (λ (c : Cmd). request_of plain.medium.is_bay c.cdb) e ∙ ap (request_of plain.medium.is_bay) (read_cdb lba) ∙ read_is plain.medium.is_bay lba few) tt h

moves_not : (cmd : Cmd) (plain : PlainDisk) → IsDrillCommand cmd → moves_disc cmd.cdb None plain ≡ false
moves_not cmd plain (writes lba byte few b e) = ap (λ r. asks_load r && loads plain.medium) (ap (λ (c : Cmd). request_of plain.medium.is_bay c.cdb) e ∙ ap (request_of plain.medium.is_bay) (write_cdb lba byte) ∙ write_is plain.medium.is_bay lba few)
moves_not cmd plain (reads lba few e) = ap (λ r. asks_load r && loads plain.medium) (ap (λ (c : Cmd). request_of plain.medium.is_bay c.cdb) e ∙ ap (request_of plain.medium.is_bay) (read_cdb lba) ∙ read_is plain.medium.is_bay lba few)

-- a medium call of it that fails is told as that
same_sense : (a b : Sense) → Some a ≡ Some b → is_failure (Some a) ≡ true → is_failure (Some b) ≡ true
same_sense a b e f = subst (λ s. is_failure (Some s) ≡ true) (let same : a ≡ b = cc e in same) f

fails_so : (cmd : Cmd) (is_bay : Bool) (sense : Sense) → IsDrillCommand cmd → failure_of is_bay cmd.cdb ≡ Some sense → is_failure (Some sense) ≡ true
fails_so cmd is_bay sense (writes lba byte few b e) f =
    same_sense write_failed sense (sym (ap failure_by (ap (λ (c : Cmd). request_of is_bay c.cdb) e ∙ ap (request_of is_bay) (write_cdb lba byte) ∙ write_is is_bay lba few)) ∙ f) refl
fails_so cmd is_bay sense (reads lba few e) f =
    same_sense read_failed sense (sym (ap failure_by (ap (λ (c : Cmd). request_of is_bay c.cdb) e ∙ ap (request_of is_bay) (read_cdb lba) ∙ read_is is_bay lba few)) ∙ f) refl

pub commands_pass : CommandsPass
commands_pass = record { unchecked = passes; leaves = leaves_so; moves_none = moves_not; fails = fails_so }
