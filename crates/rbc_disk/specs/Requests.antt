-- What a command block asks of a unit.
use Rattle.std.specs.Prelude.{◌≡◌, ◌≤◌, ℕ, ◌+◌, ◌*◌, ◌==◌, ◌&&◌, ◌||◌, min, nat_lt, not, Bool, true, false, if◌then◌else◌, List, Option, Some, Result, Ok, Err}
use Rattle.rbc_command.specs.Commands.{operation_in, command_of, moves_disc, starts}
use Rattle.rbc_command.specs.declared.command.Command.{Command}
use Rattle.rbc_command.specs.declared.command.Command.TheVariants as commands
use Rattle.rbc_command.specs.declared.operation.Operation.{Operation}
use Rattle.rbc_command.specs.declared.operation.Operation.TheVariants as operations
use Rattle.rbc_command.specs.declared.sense.Sense.{Sense}
use Rattle.rbc_disk.specs.Disk.{Disk}
use Rattle.rbc_disk.specs.declared.command.BufferPlan.{BufferPlan}
use Rattle.rbc_disk.specs.declared.request.Request.{Request}
use Rattle.rbc_disk.specs.declared.request.Request.TheVariants as requests

abbrev pub is_start_stop : Option Operation → Bool
is_start_stop (Some operations.StartStop) = true
is_start_stop _ = false

abbrev pub is_inquiry : Option Operation → Bool
is_inquiry (Some operations.Inquiry) = true
is_inquiry _ = false

-- a command of the table, or its refusal
abbrev pub plain_request : Result Command Sense → Result Request Sense
plain_request (Ok command) = Ok (requests.Plain command)
plain_request (Err sense) = Err sense

-- Over a bay START STOP UNIT loads and ejects; every other command block is a command of the table.
unfoldable pub request_of : Bool → List ℕ → Result Request Sense
request_of is_bay cdb =
    if is_bay && is_start_stop (operation_in cdb) && moves_disc cdb
    then (if starts cdb then Ok requests.Load else Ok requests.Eject)
    else plain_request (command_of cdb)

abbrev pub is_load : Request → Bool
is_load requests.Load = true
is_load _ = false

abbrev pub is_eject : Request → Bool
is_eject requests.Eject = true
is_eject _ = false

-- the commands that ask for a medium that is present and a unit that is started
abbrev pub needs_medium : Request → Bool
needs_medium (requests.Plain commands.TestReady) = true
needs_medium (requests.Plain commands.Capacity) = true
needs_medium (requests.Plain (commands.Read lba count)) = true
needs_medium (requests.Plain (commands.Write lba count)) = true
needs_medium (requests.Plain (commands.Verify lba count)) = true
needs_medium (requests.Plain commands.Sync) = true
needs_medium _ = false

-- the blocks are not all inside the medium
abbrev pub is_past : ℕ → ℕ → ℕ → Bool
is_past lba count blocks = not (nat_lt lba blocks) || nat_lt blocks (lba + count)

abbrev pub is_outside : Request → ℕ → Bool
is_outside (requests.Plain (commands.Read lba count)) blocks = is_past lba count blocks
is_outside (requests.Plain (commands.Write lba count)) blocks = is_past lba count blocks
is_outside (requests.Plain (commands.Verify lba count)) blocks = is_past lba count blocks
is_outside _ blocks = false

abbrev pub is_write : Request → Bool
is_write (requests.Plain (commands.Write lba count)) = true
is_write _ = false

-- the bytes of a WRITE's data
abbrev pub data_length : Request → ℕ
data_length (requests.Plain (commands.Write lba count)) = 512 * count
data_length _ = 0

-- the bytes of the answer
abbrev pub answer_length : Request → ℕ
answer_length (requests.Plain (commands.Inquiry allocation)) = min allocation 36
answer_length (requests.Plain commands.Capacity) = 8
answer_length (requests.Plain (commands.Read lba count)) = 512 * count
answer_length _ = 0

-- there are data or an answer, and the buffer is shorter or has the other direction
abbrev pub is_unfit : Request → BufferPlan → Bool
is_unfit request buffer =
    (not (data_length request == 0) && (nat_lt buffer.bytes (data_length request) || buffer.to_initiator))
    || (not (answer_length request == 0) && (nat_lt buffer.bytes (answer_length request) || not buffer.to_initiator))

-- what is known of a request that passes its checks
pub record Passes (request : Request) (medium : Disk) : Type 0 where
  pub few_data : data_length request ≤ 16384
  pub few_answered : answer_length request ≤ 16384
  pub present : needs_medium request ≡ true → medium.is_present ≡ true
  pub inside : is_outside request medium.blocks ≡ false
  pub bay : is_load request ≡ true → medium.is_bay ≡ true
  pub open_for_it : is_write request ≡ true → medium.is_protected ≡ false
