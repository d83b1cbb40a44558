-- Which check ends a command on a unit (RBC; SPC for unit attention): the first that holds.
use Rattle.std.specs.Prelude.{ℕ, ◌&&◌, not, Bool, true, false, List, [], ◌∷◌, Option, Some, None, is_none, Result, Ok, Err}
use Rattle.rbc_command.specs.Commands.{operation_in}
use Rattle.rbc_command.specs.SenseData.{no_command, outside, bad_field, no_medium, not_started, was_reset, medium_changed, removal_prevented, is_protected}
use Rattle.rbc_command.specs.declared.sense.Sense.{Sense}
use Rattle.rbc_disk.specs.Disk.{Disk, Disc}
use Rattle.rbc_disk.specs.Units.{PlainDisk, has_place}
use Rattle.rbc_disk.specs.Requests.{request_of, is_inquiry, is_load, is_eject, needs_medium, is_outside, is_write, is_unfit}
use Rattle.rbc_disk.specs.declared.request.Request.{Request}
use Rattle.rbc_disk.specs.declared.command.BufferPlan.{BufferPlan}

-- a check, where it holds, comes before the others
abbrev pub check_if : Bool → Sense → Option Sense → Option Sense
check_if true check others = Some check
check_if false check others = others

abbrev pub is_empty : List Disc → Bool
is_empty [] = true
is_empty (disc ∷ shelf) = false

-- a load into an empty tray from an empty shelf
abbrev pub tray_check : Request → Disk → Option Sense
tray_check request medium = check_if (is_load request && not medium.is_present && is_empty medium.shelf) no_medium None

abbrev pub first_of : Option Sense → Option Sense → Option Sense
first_of (Some check) others = Some check
first_of None others = others

-- the checks of a request, in their order
abbrev pub request_check : Request → BufferPlan → PlainDisk → Option Sense
request_check request buffer plain =
    check_if (is_eject request && plain.unit.is_prevented) removal_prevented
    (first_of (tray_check request plain.medium)
    (check_if (needs_medium request && not plain.medium.is_present) no_medium
    (check_if (needs_medium request && not plain.unit.is_started) not_started
    (check_if (is_outside request plain.medium.blocks) outside
    (check_if (is_write request && plain.medium.is_protected) is_protected
    (check_if (is_unfit request buffer) bad_field None))))))

abbrev pub field_check : Result Request Sense → BufferPlan → PlainDisk → Option Sense
field_check (Err refused) buffer plain = Some refused
field_check (Ok request) buffer plain = request_check request buffer plain

-- the marks of the login's place: that of a reset comes first
abbrev pub mark_check : Bool → Bool → Option Sense
mark_check reset changed = check_if reset was_reset (check_if changed medium_changed None)

-- INQUIRY is told of no mark
abbrev pub told_marks : Bool → Option Sense → Option Sense
told_marks true marks = None
told_marks false marks = marks

-- The check of a command: that of its operation code, then of the marks of its login's place, then of its fields, and then those of its request; none where no check holds.
unfoldable pub check_of : List ℕ → BufferPlan → PlainDisk → ℕ → Option Sense
check_of cdb buffer plain place =
    check_if (is_none (operation_in cdb)) no_command
    (first_of (told_marks (is_inquiry (operation_in cdb)) (mark_check (has_place plain.unit.reset place) (has_place plain.unit.changed place)))
    (field_check (request_of plain.medium.is_bay cdb) buffer plain))
