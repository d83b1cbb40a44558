-- Journals of rarer kinds: another initiator's unit reset, operations that cut a list, a reset that the target sees, a management operation
-- that fails, ORBs that are illegal or do not come, a unit with a key, an exclusive login, a medium that does not tell its bytes, and an
-- initiator that injects packets.
use Rattle.std.specs.Prelude.{ℕ, zero, suc, ◌*◌, true, false, List, [], ◌∷◌, ◌++◌, map, replicate, slice_index_or, Option, None, Some}
use Rattle.async_packet.specs.declared.packet.Header.{Header}
use Rattle.async_packet.specs.Packet.{write_quadlet, write_block, write_response, read_quadlet, read_block, read_quadlet_response, read_block_response}
use Rattle.async_packet.specs.Canon.{canon}
use Rattle.orb_layout.specs.declared.ask.FailCause.{FailCause}
use Rattle.orb_layout.specs.declared.ask.FailCause.TheVariants as causes
use Rattle.orb_layout.specs.declared.management.ManagementOrb.{ManagementOrb}
use Rattle.orb_layout.specs.declared.status.StatusKind.{StatusKind}
use Rattle.orb_layout.specs.declared.status.StatusKind.TheVariants as kinds
use Rattle.orb_layout.specs.LoginResponses.{login_bytes}
use Rattle.orb_layout.specs.ManagementOrbs.{management_bytes}
use Rattle.orb_layout.specs.Pointers.{quad_bytes}
use Rattle.orb_layout.specs.StatusBlocks.{status_bytes}
use Rattle.rbc_disk.specs.Disk.{Disk}
use Rattle.config_rom.specs.Make.{made}
use Rattle.sbp_journal.specs.Run.{Run, Entry, Moment, asked, said}
use Rattle.sbp_journal.specs.declared.cause.Cause.TheVariants as ignored
use Rattle.sbp_journal.specs.declared.cause.CutCause.TheVariants as cuts
use Rattle.sbp_journal.specs.declared.event.Event.TheVariants as events
use Rattle.sbp_journal.specs.declared.event.Action.{Action}
use Rattle.sbp_journal.specs.declared.event.Action.TheVariants as actions
use Rattle.sbp_journal.specs.declared.event.Cmd.{Cmd}
use Rattle.sbp_journal.specs.declared.note.NoteBuffer.TheVariants.{Nothing, In}
use Rattle.sbp_journal.specs.declared.note.Note.{Note}
use Rattle.sbp_journal.specs.declared.note.Note.TheVariants as notes
use Rattle.sbp_journal.specs.declared.operation.FunctionWord.TheVariants as functions
use Rattle.sbp_laws.specs.Journals.{told, begins, appends_first, settles, till_pointer, points_agent, target_id, first_id, second_id, header, to_target, to_first, done_by_target, done_by_first, fetch_packet, pointer_packet, status_packet, test_ready, ready_block, two_begin, login_orb, reads_eui, entry}
use Rattle.sbp_laws.specs.WorkedRuns.{logout_orb}
use Rattle.sbp_laws.specs.Targets.{eui_of}

-- these notes behind moments, in the order of time
abbrev pub behind : List Moment → List Note → List Moment
behind moments more = told (moments ++ map said more)

-- between initiator 1 and the target
abbrev pub from_second : (label : ℕ) → Header
from_second label = header target_id second_id label

abbrev pub to_second : (label : ℕ) → Header
to_second label = header second_id target_id label

-- the write of MANAGEMENT_AGENT with place 0
abbrev pub manage_packet : Header → List ℕ
manage_packet head = canon (write_block head 0xfffff0010000 (quad_bytes (0 ∷ 0x12000000 ∷ [])))

-- ---- the function of an operation: an ORB of it for login ID 1
abbrev pub orb_of : (function : ℕ) → ManagementOrb
orb_of function = record logout_orb { function = function }

-- the status block of a management operation
abbrev pub managed_packet : Header → List ℕ
managed_packet head = canon (write_block head 0x12002000 (quad_bytes (0x01000000 ∷ 0x12000000 ∷ [])))

-- ---- initiator 0 resets the unit while the list of initiator 1 is open
abbrev pub second_points : List Moment
second_points =
    asked 2 (events.Act 1 (actions.Append test_ready)) ∷ said (notes.Append 1 0 0 ready_block Nothing) ∷ said (notes.Rung 1 0 0)
    ∷ said (notes.Sent 1 0 2 0 (canon (write_block (from_second 0) 0xfffff0040028 (quad_bytes (0 ∷ 0x10000000 ∷ [])))))
    ∷ asked 3 (events.Deliver 1) ∷ said (notes.Got 1) ∷ said (notes.Sent 2 0 0 2 (canon (write_response (to_second 0) 0)))
    ∷ said (notes.Sent 3 0 0 2 (canon (read_block (to_second 0) 0x10000000 32))) ∷ []

abbrev pub resets_unit : List Moment
resets_unit =
    two_begin ++ (second_points
    ++ asked 4 (events.Act 0 actions.UnitReset) ∷ said (notes.Sent 4 0 1 0 (manage_packet (to_target 0)))
    ∷ asked 5 (events.Deliver 4) ∷ said (notes.Got 4) ∷ said (notes.Sent 5 0 0 1 (done_by_target 0 0)) ∷ said (notes.Sent 6 0 0 1 (fetch_packet 0 0x12000000))
    ∷ asked 6 (events.Deliver 6) ∷ said (notes.Got 6) ∷ said (notes.Sent 7 0 1 0 (canon (read_block_response (to_target 0) 0 (management_bytes (orb_of 0xe)))))
    ∷ asked 7 (events.Deliver 7) ∷ said (notes.Got 7) ∷ [])

abbrev pub unit_reset : List Note → List Moment
unit_reset more = behind resets_unit more

abbrev pub unit_reset_notes : List Note
unit_reset_notes =
    notes.Cut 1 (Some 0) cuts.UnitReset ∷ notes.Cleared 0 ∷ notes.Managed 0 functions.UnitReset 1 0 None
    ∷ notes.Sent 8 0 0 1 (managed_packet (to_first 0)) ∷ []

-- ---- an operation of initiator 0 while its own list is open
abbrev pub list_open : List Moment
list_open = begins ++ (appends_first ++ asked 3 (events.Step 2) ∷ points_agent ++ said (notes.Got 2) ∷ [])

abbrev pub manages : Action → (function : ℕ) → List Moment
manages action function =
    list_open ++ asked 4 (events.Act 0 action) ∷ said (notes.Sent 4 0 1 0 (manage_packet (to_target 0)))
    ∷ asked 5 (events.Deliver 4) ∷ said (notes.Got 4) ∷ said (notes.Sent 5 0 0 1 (done_by_target 0 0)) ∷ said (notes.Sent 6 0 0 1 (fetch_packet 1 0x12000000))
    ∷ asked 6 (events.Deliver 6) ∷ said (notes.Got 6) ∷ said (notes.Sent 7 0 1 0 (canon (read_block_response (to_target 1) 0 (management_bytes (orb_of function)))))
    ∷ asked 7 (events.Deliver 7) ∷ said (notes.Got 7) ∷ []

abbrev pub abort_set : List Note → List Moment
abort_set more = behind (manages actions.AbortSet 0xc) (more ++ notes.Managed 0 functions.AbortSet 1 0 None ∷ [])

abbrev pub log_out : List Note → List Moment
log_out more = behind (manages actions.Logout 0x7) (more ++ notes.Left 1 ∷ notes.Managed 0 functions.Logout 1 0 None ∷ [])

abbrev pub target_reset : List Note → List Moment
target_reset more = behind (manages actions.TargetReset 0xf) (more ++ notes.Managed 0 functions.TargetReset 1 0 None ∷ [])

-- ---- the target sees a reset while the lists of both initiators are open
abbrev pub both_point : List Moment
both_point =
    two_begin ++ (second_points
    ++ asked 4 (events.Act 0 (actions.Append test_ready)) ∷ said (notes.Append 0 0 0 ready_block Nothing) ∷ said (notes.Rung 0 0 0) ∷ said (notes.Sent 4 0 1 0 pointer_packet)
    ∷ asked 5 (events.Deliver 4) ∷ said (notes.Got 4) ∷ said (notes.Sent 5 0 0 1 (done_by_target 0 0)) ∷ said (notes.Sent 6 0 0 1 (fetch_packet 0 0x10000000))
    ∷ asked 6 (events.Reset (2 ∷ 0 ∷ 1 ∷ [])) ∷ said (notes.Reset 1) ∷ asked 7 (events.See 0) ∷ said (notes.Seen 0 1) ∷ [])

abbrev pub sees_reset : List Note → List Moment
sees_reset more = behind both_point more

abbrev pub cut_by_reset : ℕ → Note
cut_by_reset i = notes.Cut i (Some 0) cuts.Reset

-- ---- a management operation fails: its read of the ORB times out, is refused, or brings another length
abbrev pub starts_login : List Moment
starts_login =
    asked 1 (events.Begin 1 false) ∷ said (notes.Begin 1 false)
    ∷ asked 2 (events.Act 0 (actions.Login 0 0 false (replicate 8 0))) ∷ said (notes.Sent 1 0 1 0 (manage_packet (to_target 0)))
    ∷ asked 3 (events.Deliver 1) ∷ said (notes.Got 1) ∷ said (notes.Sent 2 0 0 1 (done_by_target 0 0)) ∷ said (notes.Sent 3 0 0 1 (fetch_packet 0 0x12000000)) ∷ []

abbrev pub management_times_out : List Note → List Moment
management_times_out more = behind (starts_login ++ asked 4 (events.Timeout 3) ∷ said (notes.TimedOut 3) ∷ []) more

abbrev pub management_answered : (rcode : ℕ) → List ℕ → List Note → List Moment
management_answered rcode bytes more =
    behind (starts_login ++ asked 4 (events.Deliver 3) ∷ said (notes.Got 3) ∷ said (notes.Sent 4 0 1 0 (canon (read_block_response (to_target 0) rcode bytes)))
    ∷ asked 5 (events.Deliver 4) ∷ said (notes.Got 4) ∷ []) more

abbrev pub management_fails : FailCause → List Note
management_fails cause = notes.ManageFailed 0 cause ∷ []

-- ---- the read of an ORB is answered with these bytes
abbrev pub orb_answered : (rcode : ℕ) → List ℕ → List Note → List Moment
orb_answered rcode bytes more =
    behind (till_pointer ++ (points_agent
    ++ said (notes.Got 2) ∷ said (notes.Got 3) ∷ said (notes.Sent 4 0 1 0 (canon (read_block_response (to_target 0) rcode bytes))) ∷ said (notes.Got 4) ∷ [])) more

-- an ORB by the quadlets 2 to 5: its descriptor, its fields and the first quadlet of its command block
abbrev pub orb_with : (descriptor_high descriptor_low fields command : ℕ) → List ℕ
orb_with descriptor_high descriptor_low fields command =
    quad_bytes (0x80000000 ∷ 0 ∷ descriptor_high ∷ descriptor_low ∷ fields ∷ command ∷ 0 ∷ 0 ∷ [])

-- an ORB of format 1, and a dummy
abbrev pub format_1 : List ℕ
format_1 = orb_with 0 0 0xa2900000 0

abbrev pub dummy_bytes : List ℕ
dummy_bytes = orb_with 0 0 0xe2900000 0

abbrev pub dies_of : FailCause → StatusKind → List Note
dies_of cause status = notes.Dead 0 (Some 0) cause ∷ notes.Ended 0 (Some 0) (Some 0) status ∷ []

-- ---- the 64 labels of the target to initiator 0 are under way as its pointer comes
abbrev pub reads_under : (count : ℕ) → List Note
reads_under zero = []
reads_under (suc label) = reads_under label ++ notes.Sent (suc label) 0 0 1 (canon (read_quadlet (to_first label) 0xfffff0000400)) ∷ []

abbrev pub labels_gone : List Note → List Moment
labels_gone more =
    behind (begins ++ asked 2 (events.Act 0 (actions.Append test_ready)) ∷ said (notes.Append 0 0 0 ready_block Nothing) ∷ said (notes.Rung 0 0 0) ∷ map said (reads_under 64)
    ++ said (notes.Sent 65 0 1 0 pointer_packet) ∷ asked 3 (events.Deliver 65) ∷ said (notes.Got 65) ∷ []) more

-- the read of its ORB has the last label, and is to time out
abbrev pub last_label_gone : List Moment
last_label_gone =
    behind (begins ++ asked 2 (events.Act 0 (actions.Append test_ready)) ∷ said (notes.Append 0 0 0 ready_block Nothing) ∷ said (notes.Rung 0 0 0) ∷ map said (reads_under 63)
    ++ said (notes.Sent 64 0 1 0 pointer_packet) ∷ asked 3 (events.Deliver 64) ∷ said (notes.Got 64) ∷ said (notes.Sent 65 0 0 1 (done_by_target 0 0))
    ∷ said (notes.Sent 66 0 0 1 (fetch_packet 63 0x10000000)) ∷ asked 4 (events.Timeout 66) ∷ []) []

-- its ORB is to be read as an operation of initiator 0 begins
abbrev pub labels_gone_to_manager : List Note → List Moment
labels_gone_to_manager more =
    behind (asked 1 (events.Begin 1 false) ∷ said (notes.Begin 1 false) ∷ asked 2 (events.Act 0 (actions.Login 0 0 false (replicate 8 0))) ∷ map said (reads_under 64)
    ++ said (notes.Sent 65 0 1 0 (manage_packet (to_target 0))) ∷ asked 3 (events.Deliver 65) ∷ said (notes.Got 65) ∷ []) more

-- ---- a unit with a key: a login with this password is decided
abbrev pub keyed : (password : ℕ) → (status : ℕ) → Option ℕ → List Moment
keyed password status login =
    behind (asked 1 (events.Begin 1 false) ∷ said (notes.Begin 1 false) ∷ asked 2 (events.Key 0 (replicate 8 1)) ∷ said (notes.Key 0)
    ∷ asked 3 (events.Act 0 (actions.Login 0 0 false (replicate 8 password))) ∷ said (notes.Sent 1 0 1 0 (manage_packet (to_target 0))) ∷ asked 4 (events.Step 8)
    ∷ said (notes.Got 1) ∷ said (notes.Sent 2 0 0 1 (done_by_target 0 0)) ∷ said (notes.Sent 3 0 0 1 (fetch_packet 0 0x12000000))
    ∷ said (notes.Got 2) ∷ said (notes.Got 3)
    ∷ said (notes.Sent 4 0 1 0 (canon (read_block_response (to_target 0) 0 (management_bytes (record login_orb { first = 0x0101010101010101 * password })))))
    ∷ reads_eui ++ said (notes.Got 8) ∷ []) (notes.Managed 0 functions.Login 0 status login ∷ [])

-- ---- initiator 1 logs in exclusively, or not, and then initiator 0 asks for a login
abbrev pub second_logs_in : List Moment
second_logs_in =
    asked 1 (events.Begin 2 false) ∷ said (notes.Begin 2 false)
    ∷ asked 2 (events.Act 1 (actions.Login 0 0 true (replicate 8 0))) ∷ said (notes.Sent 1 0 2 0 (manage_packet (from_second 0))) ∷ asked 3 (events.Step 8)
    ∷ said (notes.Got 1) ∷ said (notes.Sent 2 0 0 2 (canon (write_response (to_second 0) 0))) ∷ said (notes.Sent 3 0 0 2 (canon (read_block (to_second 0) 0x12000000 32)))
    ∷ said (notes.Got 2) ∷ said (notes.Got 3) ∷ said (notes.Sent 4 0 2 0 (canon (read_block_response (from_second 0) 0 (management_bytes (record login_orb { exclusive = true })))))
    ∷ said (notes.Got 4) ∷ said (notes.Sent 5 0 0 2 (canon (read_quadlet (to_second 0) 0xfffff000040c)))
    ∷ said (notes.Got 5) ∷ said (notes.Sent 6 0 2 0 (canon (read_quadlet_response (from_second 0) 0 0x02000000)))
    ∷ said (notes.Got 6) ∷ said (notes.Sent 7 0 0 2 (canon (read_quadlet (to_second 0) 0xfffff0000410)))
    ∷ said (notes.Got 7) ∷ said (notes.Sent 8 0 2 0 (canon (read_quadlet_response (from_second 0) 0 2)))
    ∷ said (notes.Got 8) ∷ said (notes.Managed 1 functions.Login 0 0 (Some 1))
    ∷ said (notes.Sent 9 0 0 2 (canon (write_block (to_second 0) 0x12001000 (login_bytes (record { login = 1; agent = 0xfffff0040000; hold = 0 })))))
    ∷ asked 4 (events.Lose 9) ∷ said (notes.Lost 9) ∷ asked 5 (events.Timeout 9) ∷ said (notes.TimedOut 9) ∷ said (notes.ManageFailed 1 causes.Timeout) ∷ []

abbrev pub first_asks : List Moment
first_asks =
    asked 6 (events.Act 0 (actions.Login 0 0 false (replicate 8 0))) ∷ said (notes.Sent 10 0 1 0 (manage_packet (to_target 0))) ∷ asked 7 (events.Step 8)
    ∷ said (notes.Got 10) ∷ said (notes.Sent 11 0 0 1 (done_by_target 0 0)) ∷ said (notes.Sent 12 0 0 1 (fetch_packet 0 0x12000000))
    ∷ said (notes.Got 11) ∷ said (notes.Got 12) ∷ said (notes.Sent 13 0 1 0 (canon (read_block_response (to_target 0) 0 (management_bytes login_orb))))
    ∷ said (notes.Got 13) ∷ said (notes.Sent 14 0 0 1 (canon (read_quadlet (to_first 0) 0xfffff000040c)))
    ∷ said (notes.Got 14) ∷ said (notes.Sent 15 0 1 0 (canon (read_quadlet_response (to_target 0) 0 0x02000000)))
    ∷ said (notes.Got 15) ∷ said (notes.Sent 16 0 0 1 (canon (read_quadlet (to_first 0) 0xfffff0000410)))
    ∷ said (notes.Got 16) ∷ said (notes.Sent 17 0 1 0 (canon (read_quadlet_response (to_target 0) 0 1)))
    ∷ said (notes.Got 17) ∷ []

abbrev pub exclusive : (status : ℕ) → Option ℕ → List Moment
exclusive status login = behind (second_logs_in ++ first_asks) (notes.Managed 0 functions.Login 0 status login ∷ [])

-- ---- a READ of one block of a medium that does not tell its bytes
abbrev pub untold_disk : List Disk
untold_disk = record { bytes = None; blocks = 1; is_protected = false; is_present = true; is_bay = false; shelf = [] } ∷ []

abbrev pub read_block_0 : List ℕ
read_block_0 = 0x28 ∷ 0 ∷ 0 ∷ 0 ∷ 0 ∷ 0 ∷ 0 ∷ 0 ∷ 1 ∷ 0 ∷ 0 ∷ 0 ∷ []

abbrev pub reads_block : Cmd
reads_block = record { cdb = read_block_0; to_initiator = true; length = 512; payload = []; segments = []; max_payload = 9 }

abbrev pub read_orb : List ℕ
read_orb = quad_bytes (0x80000000 ∷ 0 ∷ 0xffc10000 ∷ 0x11000000 ∷ 0x8a900200 ∷ 0x28000000 ∷ 0 ∷ 0x01000000 ∷ [])

abbrev pub some_block : List ℕ
some_block = replicate 512 0x55

abbrev pub till_read : List Moment
till_read =
    begins ++ asked 2 (events.Act 0 (actions.Append reads_block)) ∷ said (notes.Append 0 0 0 read_block_0 (In 512)) ∷ said (notes.Rung 0 0 0)
    ∷ said (notes.Sent 1 0 1 0 pointer_packet) ∷ settles ∷ points_agent
    ++ said (notes.Got 2) ∷ said (notes.Got 3) ∷ said (notes.Sent 4 0 1 0 (canon (read_block_response (to_target 0) 0 read_orb)))
    ∷ said (notes.Got 4) ∷ said (notes.Ran 0 (Some 0) (Some 0) 0 read_block_0 [] None) ∷ []

abbrev pub untold : List Note → List Moment
untold more = behind till_read more

abbrev pub block_packet : (address : ℕ) → List ℕ → List ℕ
block_packet address bytes = canon (write_block (to_first 0) address bytes)

abbrev pub untold_told : List Moment
untold_told =
    told (till_read ++ said (notes.Sent 5 0 0 1 (block_packet 0x11000000 some_block))
    ∷ said (notes.Got 5) ∷ said (notes.Sent 6 0 1 0 (done_by_first 0))
    ∷ said (notes.Got 6) ∷ said (notes.Ended 0 (Some 0) (Some 0) kinds.Good) ∷ said (notes.Sent 7 0 0 1 (status_packet 0x41000000))
    ∷ said (notes.Got 7) ∷ said (notes.Taken 0 0 0 kinds.Good some_block) ∷ said (notes.Sent 8 0 1 0 (done_by_first 0)) ∷ said (notes.Got 8) ∷ said notes.Settled ∷ [])

-- ---- initiator 0 injects a write of its ORB_POINTER that names no slot: what it reads there is refused, and its agent dies
abbrev pub wild_pointer : List ℕ
wild_pointer = canon (write_block (to_target 0) 0xfffff0040008 (quad_bytes (0 ∷ 0x00001000 ∷ [])))

abbrev pub wild_status : List ℕ
wild_status = canon (write_block (to_first 0) 0x13000000 (status_bytes (record { src = 1; kind = kinds.Failed; orb = 0x00001000 })))

abbrev pub wild_dies : List Note
wild_dies = notes.Dead 0 None causes.Refused ∷ notes.Ended 0 None None kinds.Failed ∷ []

abbrev pub wild_notes : List Note → List Note
wild_notes deaths =
    notes.Got 1 ∷ notes.Sent 2 0 0 1 (done_by_target 0 0) ∷ notes.Sent 3 0 0 1 (fetch_packet 0 0x00001000)
    ∷ notes.Ignored 2 ignored.Label ∷ notes.Got 3 ∷ notes.Sent 4 0 1 0 (canon (read_block_response (to_target 0) 7 []))
    ∷ notes.Got 4 ∷ deaths ++ notes.Sent 5 0 0 1 wild_status ∷ []

abbrev pub wild_ends : List Note
wild_ends = notes.Ignored 5 ignored.Slot ∷ notes.Sent 6 0 1 0 (done_by_first 0) ∷ notes.Got 6 ∷ notes.Settled ∷ []

abbrev pub wild_run : List Note → Run
wild_run deaths = record {
  start = untold_disk;
  entries =
      entry 3 events.Settle (wild_notes deaths ++ wild_ends)
      ∷ entry 2 (events.Inject 0 wild_pointer) (notes.Injected 1 ∷ notes.Sent 1 0 1 0 wild_pointer ∷ [])
      ∷ entry 1 (events.Begin 2 true) (notes.Begin 2 true ∷ []) ∷ [];
}

-- It names slot 0 before an ORB is prepared there: the list that the agent then dies in, or that is cut, had no name as the pointer was taken.
abbrev pub names_early : List Moment → List Moment
names_early more =
    told (begins ++ (asked 2 (events.Inject 0 pointer_packet) ∷ said (notes.Injected 1) ∷ said (notes.Sent 1 0 1 0 pointer_packet) ∷ asked 3 (events.Deliver 1) ∷ points_agent
    ++ (asked 4 (events.Act 0 (actions.Put test_ready)) ∷ said (notes.Append 0 0 0 ready_block Nothing) ∷ more)))

abbrev pub dies_unnamed : Option ℕ → List Moment
dies_unnamed list = names_early (asked 5 (events.Timeout 3) ∷ said (notes.TimedOut 3) ∷ said (notes.Dead 0 list causes.Timeout) ∷ said (notes.Ended 0 (Some 0) (Some 0) kinds.Failed) ∷ [])

abbrev pub cut_unnamed : Option ℕ → List Moment
cut_unnamed list =
    names_early (asked 5 (events.Act 0 actions.AgentReset) ∷ said (notes.Sent 4 0 1 0 (canon (write_quadlet (to_target 0) 0xfffff0040004 1)))
    ∷ asked 6 (events.Deliver 4) ∷ said (notes.Got 4) ∷ said (notes.Cut 0 list cuts.AgentReset) ∷ [])

-- it writes AGENT_RESET of the other one's agent, which the target ignores
abbrev pub wild_reset : List ℕ
wild_reset = canon (write_quadlet (to_target 0) 0xfffff0040024 1)

abbrev pub wild_write : Note → List Note → Run
wild_write first more = record {
  start = untold_disk;
  entries =
      entry 3 (events.Deliver 1) (first ∷ more)
      ∷ entry 2 (events.Inject 0 wild_reset) (notes.Injected 1 ∷ notes.Sent 1 0 1 0 wild_reset ∷ [])
      ∷ entry 1 (events.Begin 2 true) (notes.Begin 2 true ∷ []) ∷ [];
}

-- a bay whose tray is empty, with two discs on its shelf
abbrev pub two_discs : List Disk
two_discs = record {
  bytes = Some (replicate 512 0);
  blocks = 1;
  is_protected = false;
  is_present = false;
  is_bay = true;
  shelf = record { bytes = Some (replicate 512 1); is_protected = false } ∷ record { bytes = Some (replicate 512 2); is_protected = false } ∷ [];
} ∷ []

-- initiator 0 injects a read of the ROM of initiator 1, which answers, and sends more or not
abbrev pub wild_read : List ℕ
wild_read = canon (read_quadlet (header second_id first_id 0) 0xfffff0000400)

abbrev pub wild_begins : List Entry
wild_begins =
    entry 2 (events.Inject 0 wild_read) (notes.Injected 1 ∷ notes.Sent 1 0 1 2 wild_read ∷ [])
    ∷ entry 1 (events.Begin 2 true) (notes.Begin 2 true ∷ []) ∷ []

abbrev pub other_answers : Note
other_answers = notes.Sent 2 0 2 1 (canon (read_quadlet_response (header first_id second_id 0) 0 (slice_index_or (made (eui_of 1) 0) 0 0)))

abbrev pub other_unanswered : Run
other_unanswered = record { start = untold_disk; entries = entry 3 (events.Deliver 1) (notes.Got 1 ∷ []) ∷ wild_begins }

abbrev pub other_sends_more : Run
other_sends_more = record {
  start = untold_disk;
  entries = entry 3 (events.Deliver 1) (notes.Got 1 ∷ other_answers ∷ notes.Sent 3 0 2 0 (canon (read_quadlet (from_second 0) 0xfffff0000400)) ∷ []) ∷ wild_begins;
}
