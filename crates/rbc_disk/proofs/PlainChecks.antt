-- The checks that end a command and are no unit attention, walked through once.
use Rattle.std.proofs.Common.{◌≡◌, ℕ, Bool, true, false, List, refl}
use Rattle.std.specs.Prelude.{◌==◌, ◌&&◌, not, nat_lt, if◌then◌else◌, Option, Some, None, is_none, Result, Ok, Err}
use Rattle.rbc_command.specs.Commands.{operation_in, command_of, command_in, command_by, unless_bad, moves_disc, starts}
use Rattle.rbc_command.specs.SenseData.{outside, bad_field, no_medium, not_started, removal_prevented, is_protected, read_failed, write_failed}
use Rattle.rbc_command.specs.declared.sense.Sense.{Sense}
use Rattle.rbc_command.specs.declared.command.Command.{Command}
use Rattle.rbc_command.specs.declared.command.Command.TheVariants as commands
use Rattle.rbc_command.specs.declared.operation.Operation.{Operation}
use Rattle.rbc_command.specs.declared.operation.Operation.TheVariants as operations
use Rattle.rbc_disk.specs.Units.{PlainDisk}
use Rattle.rbc_disk.specs.Requests.{request_of, plain_request, is_start_stop, is_load, is_eject, needs_medium, is_outside, is_write, is_unfit}
use Rattle.rbc_disk.specs.Checks.{check_if, is_empty, first_of, request_check, field_check}
use Rattle.rbc_disk.specs.Runs.{failure_by}
use Rattle.rbc_disk.specs.declared.request.Request.{Request}
use Rattle.rbc_disk.specs.declared.request.Request.TheVariants as requests
use Rattle.rbc_disk.specs.declared.command.BufferPlan.{BufferPlan}

-- a check has a sense key of four bits, and is no unit attention
abbrev pub is_plain : Option Sense → Bool
is_plain None = true
is_plain (Some check) = nat_lt check.key 16 && not (check.key == 6)

-- the checks of a request are plain
seven_plain : (a b c d e f g : Bool) →
    is_plain (check_if a removal_prevented (first_of (check_if b no_medium None) (check_if c no_medium (check_if d not_started (check_if e outside (check_if f is_protected (check_if g bad_field None))))))) ≡ true
seven_plain true b c d e f g = refl
seven_plain false true c d e f g = refl
seven_plain false false true d e f g = refl
seven_plain false false false true e f g = refl
seven_plain false false false false true f g = refl
seven_plain false false false false false true g = refl
seven_plain false false false false false false true = refl
seven_plain false false false false false false false = refl

request_check_is_plain : (request : Request) (buffer : BufferPlan) (plain : PlainDisk) → is_plain (request_check request buffer plain) ≡ true
request_check_is_plain request buffer plain =
    seven_plain (is_eject request && plain.unit.is_prevented) (is_load request && not plain.medium.is_present && is_empty plain.medium.shelf)
    (needs_medium request && not plain.medium.is_present) (needs_medium request && not plain.unit.is_started)
    (is_outside request plain.medium.blocks) (is_write request && plain.medium.is_protected) (is_unfit request buffer)

-- so is a refusal of a command block
abbrev refuses_plainly : Result Command Sense → Bool
refuses_plainly (Ok command) = true
refuses_plainly (Err check) = is_plain (Some check)

unless_bad_is_plain : (bad : Bool) (command : Command) → refuses_plainly (unless_bad bad command) ≡ true
unless_bad_is_plain true command = refl
unless_bad_is_plain false command = refl

command_in_is_plain : (operation : Operation) (cdb : List ℕ) → refuses_plainly (command_in operation cdb) ≡ true
command_in_is_plain operations.TestReady cdb = refl
command_in_is_plain operations.Inquiry cdb = refl
command_in_is_plain operations.StartStop cdb = unless_bad_is_plain _ _
command_in_is_plain operations.Prevent cdb = refl
command_in_is_plain operations.Capacity cdb = refl
command_in_is_plain operations.Read10 cdb = unless_bad_is_plain _ _
command_in_is_plain operations.Write10 cdb = unless_bad_is_plain _ _
command_in_is_plain operations.Verify cdb = unless_bad_is_plain _ _
command_in_is_plain operations.Sync cdb = refl
command_in_is_plain operations.Read12 cdb = unless_bad_is_plain _ _
command_in_is_plain operations.Write12 cdb = unless_bad_is_plain _ _

command_by_is_plain : (operation : Option Operation) (cdb : List ℕ) → refuses_plainly (command_by operation cdb) ≡ true
command_by_is_plain None cdb = refl
command_by_is_plain (Some operation) cdb = command_in_is_plain operation cdb

field_check_of_plain : (command : Result Command Sense) (buffer : BufferPlan) (plain : PlainDisk) → refuses_plainly command ≡ true → is_plain (field_check (plain_request command) buffer plain) ≡ true
field_check_of_plain (Ok command) buffer plain h = request_check_is_plain (requests.Plain command) buffer plain
field_check_of_plain (Err check) buffer plain h = h

field_check_of_any : (tray start : Bool) (command : Result Command Sense) (buffer : BufferPlan) (plain : PlainDisk) → refuses_plainly command ≡ true →
    is_plain (field_check (if tray then (if start then Ok requests.Load else Ok requests.Eject) else plain_request command) buffer plain) ≡ true
field_check_of_any true true command buffer plain h = request_check_is_plain requests.Load buffer plain
field_check_of_any true false command buffer plain h = request_check_is_plain requests.Eject buffer plain
field_check_of_any false start command buffer plain h = field_check_of_plain command buffer plain h

pub field_check_is_plain : (is_bay : Bool) (cdb : List ℕ) (buffer : BufferPlan) (plain : PlainDisk) → is_plain (field_check (request_of is_bay cdb) buffer plain) ≡ true
unfolding request_of
field_check_is_plain is_bay cdb buffer plain =
    field_check_of_any (is_bay && is_start_stop (operation_in cdb) && moves_disc cdb) (starts cdb) (command_of cdb) buffer plain (command_by_is_plain (operation_in cdb) cdb)

-- and a failed call of the medium
failing_is_plain : (b : Bool) (check : Sense) → is_plain (Some check) ≡ true → is_plain (if b then None else Some check) ≡ true
failing_is_plain true check h = refl
failing_is_plain false check h = h

pub failure_is_plain : (request : Result Request Sense) → is_plain (failure_by request) ≡ true
failure_is_plain (Err refused) = refl
failure_is_plain (Ok requests.Load) = refl
failure_is_plain (Ok requests.Eject) = refl
failure_is_plain (Ok (requests.Plain commands.TestReady)) = refl
failure_is_plain (Ok (requests.Plain (commands.Inquiry allocation))) = refl
failure_is_plain (Ok (requests.Plain (commands.StartStop start))) = refl
failure_is_plain (Ok (requests.Plain (commands.Prevent on))) = refl
failure_is_plain (Ok (requests.Plain commands.Capacity)) = refl
failure_is_plain (Ok (requests.Plain (commands.Read lba count))) = failing_is_plain (count == 0) read_failed refl
failure_is_plain (Ok (requests.Plain (commands.Write lba count))) = failing_is_plain (count == 0) write_failed refl
failure_is_plain (Ok (requests.Plain (commands.Verify lba count))) = failing_is_plain (count == 0) read_failed refl
failure_is_plain (Ok (requests.Plain commands.Sync)) = refl
