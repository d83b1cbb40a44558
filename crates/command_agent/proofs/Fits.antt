-- What the checks of a command leave known of its data and its answer (RBC).
use Rattle.std.proofs.Common.{◌≡◌, ◌∙◌, ap, sym, ℕ, ◌==◌, ◌<◌, ◌≤◌, nat_lt, Bool, true, false, List, length, Option, Some, None, Result, Ok, Err, refl, arith}
use Rattle.std.specs.Prelude.{◌&&◌, ◌||◌, not, is_none}
use Rattle.std.proofs.lemmas.Bool.Decides.{nat_tests}
use Rattle.rbc_command.specs.declared.sense.Sense.{Sense}
use Rattle.rbc_command.specs.declared.operation.Operation.{Operation}
use Rattle.rbc_command.specs.declared.operation.Operation.TheVariants as operations
use Rattle.rbc_command.specs.SenseData.{sense, no_command, bad_field}
use Rattle.rbc_command.specs.Commands.{operation_in, command_by, command_in}
use Rattle.rbc_disk.specs.declared.request.Request.{Request}
use Rattle.rbc_disk.specs.declared.command.BufferPlan.{BufferPlan}
use Rattle.rbc_disk.specs.declared.command.Need.{Need}
use Rattle.rbc_disk.specs.declared.command.Need.TheVariants as needs
use Rattle.rbc_disk.specs.Units.{PlainDisk, has_place}
use Rattle.rbc_disk.specs.Requests.{request_of, plain_request, is_inquiry, is_eject, needs_medium, is_outside, is_write, data_length, answer_length}
use Rattle.rbc_disk.specs.Checks.{check_of, check_if, first_of, field_check, request_check, tray_check, told_marks, mark_check}
use Rattle.rbc_disk.specs.Runs.{need_of, need_at, data_length_of, data_length_by, answer_length_of, answer_length_by, Feeds}
use Rattle.page_table.specs.Buffer.{bytes_of}
use Rattle.command_agent.specs.Machine.{Machine, plan_of, IsFilling}
use Rattle.command_agent.specs.Steps.{IsJudgeable}

-- where the last check does not hold, the one before it does not
behind_check : (b : Bool) (check : Sense) (others : Option Sense) → check_if b check others ≡ None → others ≡ None
behind_check true check others e = cc e
behind_check false check others e = e

behind_first : (first others : Option Sense) → first_of first others ≡ None → others ≡ None
behind_first (Some check) others e = cc e
behind_first None others e = e

unset_check : (b : Bool) (check : Sense) (others : Option Sense) → check_if b check others ≡ None → b ≡ false
unset_check true check others e = cc e
unset_check false check others e = refl

-- What a request without a check needs fits the buffer.
pub record Fitting (request : Request) (buffer : BufferPlan) : Type 0 where
  pub data_fits : data_length request ≤ buffer.bytes
  pub answer_fits : answer_length request ≤ buffer.bytes

abbrev is_short : Request → BufferPlan → Bool
is_short request buffer =
    (not (data_length request == 0) && (nat_lt buffer.bytes (data_length request) || buffer.to_initiator))
    || (not (answer_length request == 0) && (nat_lt buffer.bytes (answer_length request) || not buffer.to_initiator))

unfit : (request : Request) (buffer : BufferPlan) → is_short request buffer ≡ false → Fitting request buffer
unfit request buffer e = record { data_fits = grind (arith, nat_tests); answer_fits = grind (arith, nat_tests) }

last_check : (a b c d e f : Bool) (tray : Option Sense) (s t u v w x : Sense) → check_if a s (first_of tray (check_if b t (check_if c u (check_if d v (check_if e w (check_if f x None)))))) ≡ None → f ≡ false
last_check a b c d e f tray s t u v w x h =
    unset_check f x None
    (behind_check e w (check_if f x None)
    (behind_check d v (check_if e w (check_if f x None))
    (behind_check c u (check_if d v (check_if e w (check_if f x None)))
    (behind_check b t (check_if c u (check_if d v (check_if e w (check_if f x None))))
    (behind_first tray (check_if b t (check_if c u (check_if d v (check_if e w (check_if f x None)))))
    (behind_check a s (first_of tray (check_if b t (check_if c u (check_if d v (check_if e w (check_if f x None)))))) h))))))

request_fits : (request : Request) (buffer : BufferPlan) (plain : PlainDisk) → request_check request buffer plain ≡ None → Fitting request buffer
request_fits request buffer plain e =
    unfit request buffer
    (last_check (is_eject request && plain.unit.is_prevented) (needs_medium request && not plain.medium.is_present) (needs_medium request && not plain.unit.is_started) (is_outside request plain.medium.blocks) (is_write request && plain.medium.is_protected) (is_short request buffer) (tray_check request plain.medium) (sense 5 0x53 2) (sense 2 0x3a 0) (sense 2 4 2) (sense 5 0x21 0) (sense 7 0x27 0) bad_field e)

fits_by : (request : Result Request Sense) (buffer : BufferPlan) (plain : PlainDisk) → field_check request buffer plain ≡ None → (data_length_by request ≤ buffer.bytes) × (answer_length_by request ≤ buffer.bytes)
fits_by (Err refused) buffer plain e = cc e
fits_by (Ok request) buffer plain e =
    let f : Fitting request buffer = request_fits request buffer plain e in
    (f.data_fits, f.answer_fits)

fits : (cdb : List ℕ) (buffer : BufferPlan) (plain : PlainDisk) (place : ℕ) → check_of cdb buffer plain place ≡ None → (data_length_of plain.medium.is_bay cdb ≤ buffer.bytes) × (answer_length_of plain.medium.is_bay cdb ≤ buffer.bytes)
unfolding check_of
fits cdb buffer plain place e =
    fits_by (request_of plain.medium.is_bay cdb) buffer plain
    (behind_first (told_marks (is_inquiry (operation_in cdb)) (mark_check (has_place plain.unit.reset place) (has_place plain.unit.changed place))) (field_check (request_of plain.medium.is_bay cdb) buffer plain)
    (behind_check (is_none (operation_in cdb)) no_command (first_of (told_marks (is_inquiry (operation_in cdb)) (mark_check (has_place plain.unit.reset place) (has_place plain.unit.changed place))) (field_check (request_of plain.medium.is_bay cdb) buffer plain)) e))

-- an answer fits the buffer
pub answer_fits : (cdb : List ℕ) (buffer : BufferPlan) (plain : PlainDisk) (place : ℕ) → check_of cdb buffer plain place ≡ None → answer_length_of plain.medium.is_bay cdb ≤ buffer.bytes
answer_fits cdb buffer plain place e = (fits cdb buffer plain place e).1

-- Data are those of a WRITE, over a bay too, and of at most 32 blocks.
data_by : (is_bay : Bool) (cdb : List ℕ) → 0 < data_length_of is_bay cdb → data_length_of is_bay cdb ≡ data_length_of false cdb
unfolding request_of
data_by true cdb h = grind arith
data_by false cdb h = refl

data_small_in : (operation : Operation) (cdb : List ℕ) → data_length_by (plain_request (command_in operation cdb)) ≤ 16384
data_small_in operations.TestReady cdb = omega arith
data_small_in operations.Inquiry cdb = omega arith
data_small_in operations.StartStop cdb = grind arith
data_small_in operations.Prevent cdb = omega arith
data_small_in operations.Capacity cdb = omega arith
data_small_in operations.Read10 cdb = grind arith
data_small_in operations.Write10 cdb = grind (arith, nat_tests)
data_small_in operations.Verify cdb = grind arith
data_small_in operations.Sync cdb = omega arith
data_small_in operations.Read12 cdb = grind arith
data_small_in operations.Write12 cdb = grind (arith, nat_tests)

data_small_by : (operation : Option Operation) (cdb : List ℕ) → data_length_by (plain_request (command_by operation cdb)) ≤ 16384
data_small_by None cdb = omega arith
data_small_by (Some operation) cdb = data_small_in operation cdb

data_small : (cdb : List ℕ) → data_length_of false cdb ≤ 16384
unfolding request_of
data_small cdb = data_small_by (operation_in cdb) cdb

-- what a command that needs data needs: none of its checks holds
record Needing (check : Option Sense) (len wanted : ℕ) : Type 0 where
  passed : check ≡ None
  same : len ≡ wanted
  some : 0 < wanted

needing : (check : Option Sense) (len wanted : ℕ) → need_at check len ≡ needs.Payload wanted → Needing check len wanted
needing (Some check) len wanted e = cc e
needing None len wanted e = record { passed = refl; same = grind (arith, nat_tests); some = grind (arith, nat_tests) }

-- the data that are needed
pub data_needed : (cdb : List ℕ) (buffer : BufferPlan) (plain : PlainDisk) (place wanted : ℕ) → need_of cdb buffer plain place ≡ needs.Payload wanted → wanted ≡ data_length_of false cdb
data_needed cdb buffer plain place wanted e =
    let n : Needing (check_of cdb buffer plain place) (data_length_of plain.medium.is_bay cdb) wanted = needing (check_of cdb buffer plain place) (data_length_of plain.medium.is_bay cdb) wanted e in
    let some : 0 < data_length_of plain.medium.is_bay cdb = omega arith in
    let same : data_length_of plain.medium.is_bay cdb ≡ data_length_of false cdb = data_by plain.medium.is_bay cdb some in
    omega arith

-- an ORB whose command needs data can be filled
pub filled_by : (m : Machine) (plain : PlainDisk) (place wanted : ℕ) → IsJudgeable m → need_of m.orb.cdb (plan_of m) plain place ≡ needs.Payload wanted → IsFilling m wanted
filled_by m plain place wanted j e =
    let n : Needing (check_of m.orb.cdb (plan_of m) plain place) (data_length_of plain.medium.is_bay m.orb.cdb) wanted = needing (check_of m.orb.cdb (plan_of m) plain place) (data_length_of plain.medium.is_bay m.orb.cdb) wanted e in
    let f : (data_length_of plain.medium.is_bay m.orb.cdb ≤ bytes_of m.segments) × (answer_length_of plain.medium.is_bay m.orb.cdb ≤ bytes_of m.segments) = fits m.orb.cdb (plan_of m) plain place n.passed in
    let some : 0 < data_length_of plain.medium.is_bay m.orb.cdb = omega arith in
    let same : data_length_of plain.medium.is_bay m.orb.cdb ≡ data_length_of false m.orb.cdb = data_by plain.medium.is_bay m.orb.cdb some in
    let small : data_length_of false m.orb.cdb ≤ 16384 = data_small m.orb.cdb in
    let empty : length m.payload ≡ 0 = ap length j.fresh in
    record { within = omega arith; fits = omega arith; room = omega arith; whole = omega arith; limit = j.limit }

-- and feeds it when it is full
feeds_at : (need : Need) (len : ℕ) (payload : List ℕ) → ((wanted : ℕ) → need ≡ needs.Payload wanted → len ≡ wanted) → length payload ≡ len → Feeds need payload
feeds_at needs.RunNow len payload h e = tt
feeds_at (needs.Payload wanted) len payload h e = e ∙ h wanted refl

pub feeds_all : (cdb : List ℕ) (buffer : BufferPlan) (plain : PlainDisk) (place : ℕ) (payload : List ℕ) → length payload ≡ data_length_of false cdb → Feeds (need_of cdb buffer plain place) payload
feeds_all cdb buffer plain place payload e =
    feeds_at (need_of cdb buffer plain place) (data_length_of false cdb) payload
    (λ wanted h. sym (data_needed cdb buffer plain place wanted h))
    e

pub feeds_none : (need : Need) (payload : List ℕ) → need ≡ needs.RunNow → Feeds need payload
feeds_none needs.RunNow payload e = tt
feeds_none (needs.Payload len) payload e = cc e
