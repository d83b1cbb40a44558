-- The sense key of each check has four bits.
use Rattle.std.proofs.Common.{◌≡◌, ℕ, ◌<◌, Bool, true, false, List, refl, subst, sym, arith}
use Rattle.std.specs.Prelude.{◌==◌, ◌&&◌, not, nat_lt, if◌then◌else◌, Option, Some, None, is_none, Result, Ok, Err}
use Rattle.rbc_command.specs.Commands.{operation_in, command_of, command_in, command_by, unless_bad, moves_disc, starts}
use Rattle.rbc_command.specs.SenseData.{sense, no_command, bad_field}
use Rattle.rbc_command.specs.declared.sense.Sense.{Sense}
use Rattle.rbc_command.specs.declared.command.Command.{Command}
use Rattle.rbc_command.specs.declared.command.Command.TheVariants as commands
use Rattle.rbc_command.specs.declared.operation.Operation.{Operation}
use Rattle.rbc_command.specs.declared.operation.Operation.TheVariants as operations
use Rattle.rbc_disk.specs.Units.{PlainDisk, has_place}
use Rattle.rbc_disk.specs.Requests.{request_of, plain_request, is_inquiry, is_start_stop, is_load, is_eject, needs_medium, is_outside, is_write, is_unfit}
use Rattle.rbc_disk.specs.Checks.{check_if, is_empty, check_of, first_of, mark_check, told_marks, request_check, field_check}
use Rattle.rbc_disk.specs.Runs.{MayEnd, failure_by, failure_of}
use Rattle.rbc_disk.proofs.PlainChecks.{is_plain, field_check_is_plain, failure_is_plain}
use Rattle.rbc_disk.specs.declared.request.Request.{Request}
use Rattle.rbc_disk.specs.declared.request.Request.TheVariants as requests
use Rattle.rbc_disk.specs.declared.command.BufferPlan.{BufferPlan}

abbrev pub has_key : Option Sense → Bool
has_key None = true
has_key (Some check) = nat_lt check.key 16

keyed : (check : Option Sense) → is_plain check ≡ true → has_key check ≡ true
keyed None h = refl
keyed (Some check) h = grind arith

first_keyed : (unknown spared reset changed : Bool) (others : Option Sense) → has_key others ≡ true →
    has_key (check_if unknown no_command (first_of (told_marks spared (mark_check reset changed)) others)) ≡ true
first_keyed true spared reset changed others h = refl
first_keyed false true reset changed others h = h
first_keyed false false true changed others h = refl
first_keyed false false false true others h = refl
first_keyed false false false false others h = h

check_of-keyed : (cdb : List ℕ) (buffer : BufferPlan) (plain : PlainDisk) (place : ℕ) → has_key (check_of cdb buffer plain place) ≡ true
unfolding check_of
check_of-keyed cdb buffer plain place =
    first_keyed (is_none (operation_in cdb)) (is_inquiry (operation_in cdb)) (has_place plain.unit.reset place) (has_place plain.unit.changed place)
    (field_check (request_of plain.medium.is_bay cdb) buffer plain) (keyed (field_check (request_of plain.medium.is_bay cdb) buffer plain) (field_check_is_plain plain.medium.is_bay cdb buffer plain))

-- a check that may end a command has a key of four bits
pub ended_key : (check failure : Option Sense) (ended : Sense) → has_key check ≡ true → has_key failure ≡ true → MayEnd check failure (Some ended) → ended.key < 16
ended_key (Some first) failure ended h k may =
    let same : ended ≡ first = cc in
    subst (λ (s : Sense). s.key < 16) (sym same) (below first.key h)
  where
    below : (n : ℕ) → nat_lt n 16 ≡ true → n < 16
    below n e = grind arith
ended_key None (Some failed) ended h k may =
    let same : failed ≡ ended = cc in
    subst (λ (s : Sense). s.key < 16) same (below failed.key k)
  where
    below : (n : ℕ) → nat_lt n 16 ≡ true → n < 16
    below n e = grind arith
ended_key None None ended h k may = cc may

pub run_key : (cdb : List ℕ) (buffer : BufferPlan) (plain : PlainDisk) (place : ℕ) (ended : Sense) →
    MayEnd (check_of cdb buffer plain place) (failure_of plain.medium.is_bay cdb) (Some ended) → ended.key < 16
run_key cdb buffer plain place ended may =
    ended_key (check_of cdb buffer plain place) (failure_of plain.medium.is_bay cdb) ended (check_of-keyed cdb buffer plain place) (keyed (failure_of plain.medium.is_bay cdb) (failure_is_plain (request_of plain.medium.is_bay cdb))) may
