-- A good run of a submission's command puts its bytes from its first block on, inside the medium.
use Rattle.std.proofs.Common.{arith, ◌≡◌, ◌∙◌, refl, sym, ap, ℕ, ◌+◌, ◌*◌, ◌^◌, ◌<◌, ◌≤◌, Bool, true, false, List, [], ◌∷◌, ◌++◌, length, take, Some, None, Ok}
use Rattle.std.specs.Prelude.{◌==◌, if◌then◌else◌}
use Rattle.std.proofs.lemmas.Bool.Decides.{nat_tests}
use Rattle.byteorder.specs.Endian.{big_bytes}
use Rattle.byteorder.specs.Numbers.{big_number-reads_back}
use Rattle.rbc_command.specs.declared.command.Command.TheVariants as commands
use Rattle.rbc_command.specs.declared.sense.Sense.{Sense}
use Rattle.rbc_command.specs.Commands.{lba_of}
use Rattle.rbc_disk.specs.Checks.{check_of, field_check}
use Rattle.rbc_disk.specs.Disk.{Disk, written}
use Rattle.rbc_disk.specs.Requests.{request_of}
use Rattle.rbc_disk.specs.Runs.{data_length_by, data_length_of, failure_of, medium_after, medium_ended, need_at, need_of}
use Rattle.rbc_disk.specs.Units.{PlainDisk}
use Rattle.rbc_disk.specs.declared.command.BufferPlan.{BufferPlan}
use Rattle.rbc_disk.specs.declared.command.Need.TheVariants.{Payload, RunNow}
use Rattle.rbc_disk.specs.declared.request.Request.TheVariants as requests
use Rattle.rbc_disk.proofs.ReadLemmas.{checked_leaves, fields_pass, request_inside, unchecked, within_blocks}
use Rattle.script_words.specs.declared.verb.Form.TheVariants.{Ten}
use Rattle.script_words.specs.Commands.{addressed_block}
use Rattle.sbp_laws.specs.Actions.{buffer_of, out_buffer}
use Rattle.sbp_laws.specs.ExecutionLaw.{RunsOn}
use Rattle.sbp_laws.specs.Terms as terms
use Rattle.sbp_laws.specs.Terms.{data_of, plan_of}
use Rattle.retry_queue.specs.Steps.{Submission, command_for, count_of}
use Rattle.retry_queue.specs.Journals.{IsOf, IsSubmission}
use Rattle.retry_queue.proofs.Cases.{take_whole}
use Rattle.retry_queue.proofs.WriteBlocks.{write_ten}

-- ---- the command block of a submission is a WRITE of its blocks

address_back : (lba count : ℕ) → lba < 2 ^ 32 → lba_of (addressed_block Ten 0x2A lba count) ≡ lba
address_back lba count few = big_number-reads_back 4 lba (0 ∷ (big_bytes 2 count ++ (0 ∷ 0 ∷ 0 ∷ []))) (omega arith)

-- what is known of a submission's blocks
pub record Blocks (w : Submission) : Type 0 where
  pub some : 0 < count_of w
  pub few : count_of w ≤ 32
  pub whole : length w.bytes ≡ 512 * count_of w

pub blocks_of : (w : Submission) → IsSubmission w.lba w.bytes → Blocks w
blocks_of w s =
    let some = s.some in
    let few = s.few in
    let whole = s.whole in
    record { some = omega (arith, some); few = omega (arith, few); whole = omega (arith, whole) }

asks_for : (is_bay : Bool) (w : Submission) → IsSubmission w.lba w.bytes → request_of is_bay (command_for w).cdb ≡ Ok (requests.Plain (commands.Write w.lba (count_of w)))
asks_for is_bay w s =
    write_ten is_bay w.lba (count_of w) (blocks_of w s).few ∙ ap (λ lba. Ok (requests.Plain (commands.Write lba (count_of w)))) (address_back w.lba (count_of w) s.address)

-- ---- no check: the blocks are inside the medium

is_inside : (cdb : List ℕ) (buffer : BufferPlan) (plain : PlainDisk) (place lba count : ℕ) → request_of plain.medium.is_bay cdb ≡ Ok (requests.Plain (commands.Write lba count)) → check_of cdb buffer plain place ≡ None
    → lba + count ≤ plain.medium.blocks
is_inside cdb buffer plain place lba count e h =
    within_blocks lba count plain.medium.blocks
    (request_inside (requests.Plain (commands.Write lba count)) buffer plain (sym (ap (λ r. field_check r buffer plain) e) ∙ fields_pass cdb buffer plain place h))

-- ---- what is put

pub record Puts (w : Submission) (medium : Disk) (cdb bytes : List ℕ) : Type 0 where
  pub inside : w.lba + count_of w ≤ medium.blocks
  pub after : medium_after cdb bytes None medium ≡ written medium w.lba w.bytes

some_blocks : (count : ℕ) → 0 < count → (512 * count == 0) ≡ false
some_blocks count some = by (512 * count == 0) refl
  where
    by : (b : Bool) → (512 * count == 0) ≡ b → (512 * count == 0) ≡ false
    by true e = absurd (grind (arith, nat_tests))
    by false e = e

some_count : (count : ℕ) → 0 < count → (count == 0) ≡ false
some_count count some = by (count == 0) refl
  where
    by : (b : Bool) → (count == 0) ≡ b → (count == 0) ≡ false
    by true e = absurd (grind (arith, nat_tests))
    by false e = e

data_back : (bytes : List ℕ) → data_of (out_buffer bytes) ≡ bytes
data_back [] = refl
data_back (byte ∷ bytes) = refl

-- the buffer of the submission's command has its bytes
data_is : (w : Submission) → data_of (buffer_of (command_for w)) ≡ w.bytes
data_is w = data_back (take (length w.bytes) w.bytes) ∙ take_whole w.bytes

module _ (w : Submission) (s : IsSubmission w.lba w.bytes) (request : terms.Request) (plain : PlainDisk) (place : ℕ) (cdb bytes : List ℕ) (of : IsOf (command_for w) request.cdb request.buffer) (runs : RunsOn request plain place cdb bytes None) where
  none_holds : check_of cdb (plan_of request.buffer) plain place ≡ None
  none_holds = unchecked (check_of cdb (plan_of request.buffer) plain place) (failure_of plain.medium.is_bay cdb) runs.ended

  is_write_of : request_of plain.medium.is_bay cdb ≡ Ok (requests.Plain (commands.Write w.lba (count_of w)))
  is_write_of = ap (request_of plain.medium.is_bay) (runs.command ∙ of.command) ∙ asks_for plain.medium.is_bay w s

  -- its data are needed, so they are the submission's
  needed : need_of cdb (plan_of request.buffer) plain place ≡ Payload (512 * count_of w)
  needed =
      ap (λ check. need_at check (data_length_of plain.medium.is_bay cdb)) none_holds ∙ ap (need_at None) (ap data_length_by is_write_of)
      ∙ ap (λ b. if b then RunNow else Payload (512 * count_of w)) (some_blocks (count_of w) (blocks_of w s).some)

  carried : bytes ≡ w.bytes
  carried =
      runs.needed (512 * count_of w) needed
      ∙ ap (λ buffer. take (512 * count_of w) (data_of buffer)) of.buffered
      ∙ ap (take (512 * count_of w)) (data_is w)
      ∙ ap (λ n. take n w.bytes) (sym (blocks_of w s).whole)
      ∙ take_whole w.bytes

  pub puts : Puts w plain.medium cdb bytes
  puts = record {
    inside = is_inside cdb (plan_of request.buffer) plain place w.lba (count_of w) is_write_of none_holds;
    after = ap (λ r. medium_ended r bytes None plain.medium) is_write_of ∙ ap (λ b. if b then plain.medium else written plain.medium w.lba bytes) (some_count (count_of w) (blocks_of w s).some)
        ∙ ap (written plain.medium w.lba) carried;
  }

-- a run with a check puts nothing
pub puts_nothing : (cdb bytes : List ℕ) (check : Sense) (medium : Disk) → medium_after cdb bytes (Some check) medium ≡ medium
puts_nothing cdb bytes check medium = checked_leaves (request_of medium.is_bay cdb) bytes check medium
