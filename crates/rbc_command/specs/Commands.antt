-- Command blocks: 12 bytes, of which byte 0 is the operation code (SPC, SBC and RBC).
use Rattle.std.specs.Prelude.{ℕ, ◌==◌, nat_lt, Bool, if◌then◌else◌, List, drop, slice_index, Option, Some, None, Result, Ok, Err}
use Rattle.std.specs.Int.{bit_at}
use Rattle.byteorder.specs.Endian.{big_number}
use Rattle.rbc_command.specs.SenseData.{no_command, bad_field}
use Rattle.rbc_command.specs.declared.sense.Sense.{Sense}
use Rattle.rbc_command.specs.declared.command.Command.{Command}
use Rattle.rbc_command.specs.declared.command.Command.TheVariants as commands
use Rattle.rbc_command.specs.declared.operation.Operation.{Operation}
use Rattle.rbc_command.specs.declared.operation.Operation.TheVariants as operations

-- the table of operation codes
abbrev pub operation_of : ℕ → Option Operation
operation_of code =
    if code == 0x00 then Some operations.TestReady
    else if code == 0x12 then Some operations.Inquiry
    else if code == 0x1b then Some operations.StartStop
    else if code == 0x1e then Some operations.Prevent
    else if code == 0x25 then Some operations.Capacity
    else if code == 0x28 then Some operations.Read10
    else if code == 0x2a then Some operations.Write10
    else if code == 0x2f then Some operations.Verify
    else if code == 0x35 then Some operations.Sync
    else if code == 0xa8 then Some operations.Read12
    else if code == 0xaa then Some operations.Write12
    else None

-- the operation of a command block
abbrev pub operation_in : List ℕ → Option Operation
operation_in cdb = operation_of (slice_index cdb 0)

-- a bit of a byte of a command block
abbrev pub flag : List ℕ → ℕ → ℕ → Bool
flag cdb byte bit = bit_at (slice_index cdb byte) bit == 1

-- START STOP UNIT: bit 1 of byte 4 is load or eject, bit 0 is start
abbrev pub moves_disc : List ℕ → Bool
moves_disc cdb = flag cdb 4 1

abbrev pub starts : List ℕ → Bool
starts cdb = flag cdb 4 0

-- bytes 2 to 5: the logical block address
abbrev pub lba_of : List ℕ → ℕ
lba_of cdb = big_number 4 (drop 2 cdb)

-- the number of blocks: bytes 7 and 8 of the form of ten bytes, bytes 6 to 9 of that of twelve
abbrev pub count_of_ten : List ℕ → ℕ
count_of_ten cdb = big_number 2 (drop 7 cdb)

abbrev pub count_of_twelve : List ℕ → ℕ
count_of_twelve cdb = big_number 4 (drop 6 cdb)

-- 5/24/00 where this holds
abbrev pub unless_bad : Bool → Command → Result Command Sense
unless_bad bad command = if bad then Err bad_field else Ok command

-- the fields of each operation, and its refusals over a medium without a tray
abbrev pub command_in : Operation → List ℕ → Result Command Sense
command_in operations.TestReady cdb = Ok commands.TestReady
command_in operations.Inquiry cdb = Ok (commands.Inquiry (slice_index cdb 4))
command_in operations.StartStop cdb = unless_bad (moves_disc cdb) (commands.StartStop (starts cdb))
command_in operations.Prevent cdb = Ok (commands.Prevent (flag cdb 4 0))
command_in operations.Capacity cdb = Ok commands.Capacity
command_in operations.Read10 cdb = unless_bad (nat_lt 32 (count_of_ten cdb)) (commands.Read (lba_of cdb) (count_of_ten cdb))
command_in operations.Write10 cdb = unless_bad (nat_lt 32 (count_of_ten cdb)) (commands.Write (lba_of cdb) (count_of_ten cdb))
command_in operations.Verify cdb = unless_bad (flag cdb 1 1) (commands.Verify (lba_of cdb) (count_of_ten cdb))
command_in operations.Sync cdb = Ok commands.Sync
command_in operations.Read12 cdb = unless_bad (nat_lt 32 (count_of_twelve cdb)) (commands.Read (lba_of cdb) (count_of_twelve cdb))
command_in operations.Write12 cdb = unless_bad (nat_lt 32 (count_of_twelve cdb)) (commands.Write (lba_of cdb) (count_of_twelve cdb))

-- the command of a command block; 5/20/00 where its operation code is not in the table
abbrev pub command_by : Option Operation → List ℕ → Result Command Sense
command_by None cdb = Err no_command
command_by (Some operation) cdb = command_in operation cdb

abbrev pub command_of : List ℕ → Result Command Sense
command_of cdb = command_by (operation_in cdb) cdb

-- the blocks that a READ or a WRITE moves
abbrev pub moved_blocks : Command → ℕ
moved_blocks (commands.Read lba count) = count
moved_blocks (commands.Write lba count) = count
moved_blocks _ = 0
