-- A command runs on a unit: what it needs, how it may end, its answer, and what it leaves.
use Rattle.std.specs.Prelude.{◌≡◌, ℕ, ◌<◌, ◌≤◌, ◌-◌, ◌==◌, ◌&&◌, Bool, true, false, if◌then◌else◌, List, [], ◌∷◌, ◌++◌, length, take, codes, IfSome, Option, Some, None, Result, Ok, Err}
use Rattle.std.specs.Option.{option_map}
use Rattle.sbp_base.specs.Faults.{count_up}
use Rattle.byteorder.specs.Endian.{big_bytes}
use Rattle.rbc_command.specs.SenseData.{was_reset, medium_changed, read_failed, write_failed}
use Rattle.rbc_command.specs.declared.command.Command.TheVariants as commands
use Rattle.rbc_command.specs.declared.sense.Sense.{Sense}
use Rattle.rbc_disk.specs.Disk.{Disk, blocks_at, written, loaded, ejected}
use Rattle.rbc_disk.specs.Units.{UnitState, PlainDisk, plain_disk, without_place}
use Rattle.rbc_disk.specs.Requests.{request_of, data_length, answer_length}
use Rattle.rbc_disk.specs.Checks.{check_of, tray_check}
use Rattle.rbc_disk.specs.declared.request.Request.{Request}
use Rattle.rbc_disk.specs.declared.request.Request.TheVariants as requests
use Rattle.rbc_disk.specs.declared.command.BufferPlan.{BufferPlan}
use Rattle.rbc_disk.specs.declared.command.Need.{Need}
use Rattle.rbc_disk.specs.declared.command.Need.TheVariants.{Payload, RunNow}
use Rattle.rbc_disk.specs.declared.command.Outcome.{Outcome}
use Rattle.rbc_disk.specs.declared.command.Outcome.TheVariants.{Good, Check}

-- the standard inquiry data: a simplified direct-access device (RBC) that is removable, vendor SBP2DISK, product PROFILE DISK, revision 0001
unfoldable pub inquiry_bytes : List ℕ
inquiry_bytes = 0x0e ∷ 0x00 ∷ 0x04 ∷ 0x02 ∷ 0x1f ∷ 0 ∷ 0 ∷ 0 ∷ codes "SBP2DISKPROFILE DISK    0001"

-- the bytes of a command's data: those of a WRITE of one block or more
abbrev pub data_length_by : Result Request Sense → ℕ
data_length_by (Ok request) = data_length request
data_length_by (Err refused) = 0

abbrev pub data_length_of : Bool → List ℕ → ℕ
data_length_of is_bay cdb = data_length_by (request_of is_bay cdb)

-- What a command needs before it runs: where no check holds, its data.
abbrev pub need_at : Option Sense → ℕ → Need
need_at (Some check) len = RunNow
need_at None len = if len == 0 then RunNow else Payload len

abbrev pub need_of : List ℕ → BufferPlan → PlainDisk → ℕ → Need
need_of cdb buffer plain place = need_at (check_of cdb buffer plain place) (data_length_of plain.medium.is_bay cdb)

-- the data that are needed are 1 to 16,384 bytes, and the buffer holds them and goes to the target
pub record IsSent (len : ℕ) (buffer : BufferPlan) : Type 0 where
  pub some : 0 < len
  pub few : len ≤ 16384
  pub within : len ≤ buffer.bytes
  pub outward : buffer.to_initiator ≡ false

abbrev pub NeedFits : Need → BufferPlan → Type 0
NeedFits RunNow buffer = Unit {0}
NeedFits (Payload len) buffer = IsSent len buffer

-- an answer has at most 16,384 bytes; where it has any, the buffer holds them and goes to the initiator
pub record AnswerFits (len : ℕ) (buffer : BufferPlan) : Type 0 where
  pub few : len ≤ 16384
  pub within : 0 < len → len ≤ buffer.bytes
  pub inward : 0 < len → buffer.to_initiator ≡ true

-- the payload is what the command needs
abbrev pub Feeds : Need → List ℕ → Type 0
Feeds RunNow payload = Unit {0}
Feeds (Payload len) payload = length payload ≡ len

-- the check of a medium call that fails; without a block there is no call
abbrev pub failure_in : Request → Option Sense
failure_in (requests.Plain (commands.Read lba count)) = if count == 0 then None else Some read_failed
failure_in (requests.Plain (commands.Verify lba count)) = if count == 0 then None else Some read_failed
failure_in (requests.Plain (commands.Write lba count)) = if count == 0 then None else Some write_failed
failure_in _ = None

abbrev pub failure_by : Result Request Sense → Option Sense
failure_by (Ok request) = failure_in request
failure_by (Err refused) = None

abbrev pub failure_of : Bool → List ℕ → Option Sense
failure_of is_bay cdb = failure_by (request_of is_bay cdb)

-- How a run may end: with the check that holds; where none does, good or with the check of a medium call that failed.
abbrev pub MayEnd : Option Sense → Option Sense → Option Sense → Type 0
MayEnd (Some check) failure ended = ended ≡ Some check
MayEnd None failure None = Unit {0}
MayEnd None failure (Some check) = failure ≡ Some check

-- the check of an outcome
abbrev pub check_in : Outcome → Option Sense
check_in (Good len) = None
check_in (Check check) = Some check

-- a good outcome tells the length of the answer
abbrev pub answered_length : Outcome → ℕ
answered_length (Good len) = len
answered_length (Check check) = 0

-- a medium call failed
abbrev pub is_failure : Option Sense → Bool
is_failure None = false
is_failure (Some check) = check.key == 3

-- the medium's count of faults after a run: one more where a medium call failed
abbrev pub count_after_run : Option Sense → ℕ → ℕ
count_after_run ended before = if is_failure ended then count_up before 1 else before

-- a unit attention
abbrev pub is_attention : Option Sense → Bool
is_attention None = false
is_attention (Some check) = check.key == 6

-- the bytes of the answer, where the medium tells its bytes
abbrev pub answer_in : Request → Disk → Option (List ℕ)
answer_in (requests.Plain (commands.Inquiry allocation)) medium = Some (take allocation inquiry_bytes)
answer_in (requests.Plain commands.Capacity) medium = Some (big_bytes 4 (medium.blocks - 1) ++ big_bytes 4 512)
answer_in (requests.Plain (commands.Read lba count)) medium = option_map (blocks_at lba count) medium.bytes
answer_in _ medium = Some []

abbrev pub answer_by : Result Request Sense → Disk → Option (List ℕ)
answer_by (Ok request) medium = answer_in request medium
answer_by (Err refused) medium = Some []

abbrev pub answer_of : List ℕ → Disk → Option (List ℕ)
answer_of cdb medium = answer_by (request_of medium.is_bay cdb) medium

abbrev pub answer_length_by : Result Request Sense → ℕ
answer_length_by (Ok request) = answer_length request
answer_length_by (Err refused) = 0

abbrev pub answer_length_of : Bool → List ℕ → ℕ
answer_length_of is_bay cdb = answer_length_by (request_of is_bay cdb)

-- what a good request leaves of the medium: a WRITE of one block or more replaces its blocks, a load and an eject work the tray
abbrev pub medium_after_good : Request → List ℕ → Disk → Disk
medium_after_good (requests.Plain (commands.Write lba count)) payload medium = if count == 0 then medium else written medium lba payload
medium_after_good requests.Load payload medium = loaded medium
medium_after_good requests.Eject payload medium = ejected medium
medium_after_good _ payload medium = medium

-- what a run leaves of the medium, by the check with which it ended
abbrev pub medium_ended : Result Request Sense → List ℕ → Option Sense → Disk → Disk
medium_ended (Ok request) payload None medium = medium_after_good request payload medium
medium_ended (Err refused) payload None medium = medium
medium_ended request payload (Some check) medium = medium

abbrev pub medium_after : List ℕ → List ℕ → Option Sense → Disk → Disk
medium_after cdb payload ended medium = medium_ended (request_of medium.is_bay cdb) payload ended medium

-- what a good request leaves of the unit
abbrev pub unit_after_good : Request → UnitState → UnitState
unit_after_good (requests.Plain (commands.StartStop start)) unit = record unit { is_started = start }
unit_after_good (requests.Plain (commands.Prevent on)) unit = record unit { is_prevented = on }
unit_after_good requests.Load unit = record unit { is_started = true }
unit_after_good requests.Eject unit = record unit { is_started = false }
unit_after_good _ unit = unit

-- a check is the unit attention of this code
abbrev pub has_attention : ℕ → Sense → Bool
has_attention code check = check.key == 6 && check.code == code

-- a unit attention that was told is told no more
abbrev pub unit_after_check : Sense → ℕ → UnitState → UnitState
unit_after_check check place unit =
    if has_attention 0x29 check then record unit { reset = without_place unit.reset place }
    else if has_attention 0x28 check then record unit { changed = without_place unit.changed place }
    else unit

-- what a run leaves of the unit, by the check with which it ended
abbrev pub unit_ended : Result Request Sense → Option Sense → ℕ → UnitState → UnitState
unit_ended (Ok request) None place unit = unit_after_good request unit
unit_ended (Err refused) None place unit = unit
unit_ended request (Some check) place unit = unit_after_check check place unit

abbrev pub unit_after : List ℕ → Option Sense → ℕ → Bool → UnitState → UnitState
unit_after cdb ended place is_bay unit = unit_ended (request_of is_bay cdb) ended place unit

-- what a run leaves
abbrev pub after_run : List ℕ → List ℕ → Option Sense → ℕ → PlainDisk → PlainDisk
after_run cdb payload ended place plain =
    plain_disk (unit_after cdb ended place plain.medium.is_bay plain.unit) (medium_after cdb payload ended plain.medium)

-- A request that passed its checks was performed on its medium: how it ended, the length and the bytes of its answer at the front of a room, what it left, and the count of faults. It is told of no unit attention.
pub record Performs (request : Request) (payload : List ℕ) (old new : Disk) (before now : ℕ) (outcome : Outcome) (room : List ℕ) : Type 0 where
  pub ended : MayEnd (tray_check request old) (failure_in request) (check_in outcome)
  pub no_mark : is_attention (check_in outcome) ≡ false
  pub counted : now ≡ count_after_run (check_in outcome) before
  pub len : check_in outcome ≡ None → answered_length outcome ≡ answer_length request
  pub few : answered_length outcome ≤ 16384
  pub answered : check_in outcome ≡ None → IfSome (answer_in request old) (λ told. take (answered_length outcome) room ≡ told)
  pub medium : new ≡ medium_ended (Ok request) payload (check_in outcome) old

-- A command of the login at a place ran on a unit and its medium as they stood (old): how it ended, its answer, what it left (new), and the count of the medium's faults before and after it. A run makes at most one medium call that fails, and ends with that call's check.
pub record HasRun (cdb : List ℕ) (buffer : BufferPlan) (place : ℕ) (payload : List ℕ) (old new : PlainDisk) (before now : ℕ) (outcome : Outcome) (answer : List ℕ) : Type 0 where
  pub ended : MayEnd (check_of cdb buffer old place) (failure_of old.medium.is_bay cdb) (check_in outcome)
  pub counted : now ≡ count_after_run (check_in outcome) before
  pub size : length answer ≡ answered_length outcome
  pub len : check_in outcome ≡ None → answered_length outcome ≡ answer_length_of old.medium.is_bay cdb
  pub fits : AnswerFits (answered_length outcome) buffer
  pub answered : check_in outcome ≡ None → IfSome (answer_of cdb old.medium) (λ told. answer ≡ told)
  pub medium : new.medium ≡ medium_after cdb payload (check_in outcome) old.medium
  pub unit : new.unit ≡ unit_after cdb (check_in outcome) place old.medium.is_bay old.unit

-- what a run told: its outcome and its answer
pub record Told : Type 0 where
  pub outcome : Outcome
  pub answer : List ℕ

-- what was told: that of a run, where a command ran
abbrev pub told_in : Option Outcome → List ℕ → Option Told
told_in None answer = None
told_in (Some outcome) answer = Some (record { outcome = outcome; answer = answer })

-- what is left: that of a run, where a command ran
abbrev pub left_by : Option Outcome → List ℕ → List ℕ → ℕ → PlainDisk → PlainDisk
left_by None cdb payload place plain = plain
left_by (Some outcome) cdb payload place plain = after_run cdb payload (check_in outcome) place plain
