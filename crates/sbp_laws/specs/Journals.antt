-- Journals that the laws are tried on: worked runs and parts of them, as they were told in the order of time, and others that differ from
-- these in a note.
use Rattle.std.specs.Prelude.{ℕ, true, false, List, [], ◌∷◌, ◌++◌, reverse, replicate, Option, None, Some}
use Rattle.async_packet.specs.declared.packet.Header.{Header}
use Rattle.async_packet.specs.Packet.{write_quadlet, write_block, write_response, read_quadlet, read_block, read_quadlet_response, read_block_response}
use Rattle.async_packet.specs.Canon.{canon}
use Rattle.orb_layout.specs.declared.status.StatusKind.{StatusKind}
use Rattle.orb_layout.specs.declared.status.StatusKind.TheVariants as kinds
use Rattle.orb_layout.specs.declared.ask.FailCause.TheVariants as causes
use Rattle.orb_layout.specs.Pointers.{quad_bytes}
use Rattle.rbc_command.specs.declared.sense.Sense.{Sense}
use Rattle.rbc_command.specs.SenseData.{no_command}
use Rattle.rbc_disk.specs.Disk.{Disk, blank_disk}
use Rattle.orb_layout.specs.declared.management.ManagementOrb.{ManagementOrb}
use Rattle.orb_layout.specs.ManagementOrbs.{management_bytes}
use Rattle.orb_layout.specs.LoginResponses.{login_bytes}
use Rattle.sbp_journal.specs.Run.{Entry, Moment, asked, said}
use Rattle.sbp_journal.specs.declared.cause.Cause.TheVariants as ignored
use Rattle.sbp_journal.specs.declared.cause.CutCause.TheVariants as cuts
use Rattle.sbp_journal.specs.declared.event.Event.{Event}
use Rattle.sbp_journal.specs.declared.event.Event.TheVariants as events
use Rattle.sbp_journal.specs.declared.event.Action.TheVariants as actions
use Rattle.sbp_journal.specs.declared.event.Cmd.{Cmd}
use Rattle.sbp_journal.specs.declared.note.NoteBuffer.TheVariants.{Nothing, In, Out}
use Rattle.sbp_journal.specs.declared.operation.FunctionWord.TheVariants as functions
use Rattle.sbp_journal.specs.declared.operation.Operation.TheVariants as operations
use Rattle.sbp_journal.specs.declared.operation.OpWord.TheVariants as words
use Rattle.sbp_journal.specs.declared.note.Note.{Note}
use Rattle.sbp_journal.specs.declared.note.Note.TheVariants as notes

-- unit 0 has an open medium of one block of zeros
abbrev pub one_disk : List Disk
one_disk = blank_disk 1 0 ∷ []

-- a history by its moments in the order of time
abbrev pub told : List Moment → List Moment
told moments = reverse moments

-- ---- packets
-- the node IDs at the start: the target's, and those of the first two initiators
abbrev pub target_id : ℕ
target_id = 0xffc0

abbrev pub first_id : ℕ
first_id = 0xffc1

abbrev pub second_id : ℕ
second_id = 0xffc2

abbrev pub header : (destination source label : ℕ) → Header
header destination source label = record { destination = destination; label = label; retry = 1; priority = 0; source = source }

-- between initiator 0 and the target
abbrev pub to_target : (label : ℕ) → Header
to_target label = header target_id first_id label

abbrev pub to_first : (label : ℕ) → Header
to_first label = header first_id target_id label

abbrev pub done_by_target : (label rcode : ℕ) → List ℕ
done_by_target label rcode = canon (write_response (to_first label) rcode)

abbrev pub done_by_first : (label : ℕ) → List ℕ
done_by_first label = canon (write_response (to_target label) 0)

-- ORB_POINTER and DOORBELL of place 0; a read of the ORB in a slot, and its bytes with a next pointer; a status block with src 1
abbrev pub pointer_packet : List ℕ
pointer_packet = canon (write_block (to_target 0) 0xfffff0040008 (quad_bytes (0 ∷ 0x10000000 ∷ [])))

abbrev pub fetch_packet : (label address : ℕ) → List ℕ
fetch_packet label address = canon (read_block (to_first label) address 32)

abbrev pub orb_bytes : (high low : ℕ) → List ℕ
orb_bytes high low = quad_bytes (high ∷ low ∷ 0 ∷ 0 ∷ 0x82900000 ∷ 0 ∷ 0 ∷ 0 ∷ [])

abbrev pub orb_packet : (label high low : ℕ) → List ℕ
orb_packet label high low = canon (read_block_response (to_target label) 0 (orb_bytes high low))

abbrev pub status_packet : (src : ℕ) → List ℕ
status_packet head = canon (write_block (to_first 0) 0x13000000 (quad_bytes (head ∷ 0x10000000 ∷ [])))

-- ---- commands
-- TEST UNIT READY and READ CAPACITY
abbrev pub ready_block : List ℕ
ready_block = replicate 12 0

abbrev pub test_ready : Cmd
test_ready = record { cdb = ready_block; to_initiator = false; length = 0; payload = []; segments = []; max_payload = 9 }

abbrev pub capacity_block : List ℕ
capacity_block = 0x25 ∷ replicate 11 0

-- ---- every packet of one TEST UNIT READY, in parts
abbrev pub begins : List Moment
begins = asked 1 (events.Begin 1 true) ∷ said (notes.Begin 1 true) ∷ []

abbrev pub appended : (k : ℕ) → Moment
appended k = said (notes.Append 0 0 k ready_block Nothing)

abbrev pub appends_first : List Moment
appends_first =
    asked 2 (events.Act 0 (actions.Append test_ready)) ∷ appended 0 ∷ said (notes.Rung 0 0 0) ∷ said (notes.Sent 1 0 1 0 pointer_packet) ∷ []

abbrev pub settles : Moment
settles = asked 3 events.Settle

abbrev pub points_agent : List Moment
points_agent = said (notes.Got 1) ∷ said (notes.Sent 2 0 0 1 (done_by_target 0 0)) ∷ said (notes.Sent 3 0 0 1 (fetch_packet 0 0x10000000)) ∷ []

abbrev pub serves_orb : List Moment
serves_orb = said (notes.Got 2) ∷ said (notes.Got 3) ∷ said (notes.Sent 4 0 1 0 (orb_packet 0 0x80000000 0)) ∷ []

abbrev pub ran : Option Sense → Moment
ran check = said (notes.Ran 0 (Some 0) (Some 0) 0 ready_block [] check)

abbrev pub ended : StatusKind → Moment
ended status = said (notes.Ended 0 (Some 0) (Some 0) status)

abbrev pub taken : StatusKind → Moment
taken status = said (notes.Taken 0 0 0 status [])

abbrev pub sends_status : Moment
sends_status = said (notes.Sent 5 0 0 1 (status_packet 0x41000000))

abbrev pub runs_orb : List Moment
runs_orb = said (notes.Got 4) ∷ ran None ∷ ended kinds.Good ∷ sends_status ∷ []

abbrev pub takes_status : List Moment
takes_status = said (notes.Got 5) ∷ taken kinds.Good ∷ said (notes.Sent 6 0 1 0 (done_by_first 0)) ∷ []

abbrev pub comes_to_rest : List Moment
comes_to_rest = said (notes.Got 6) ∷ said notes.Settled ∷ []

-- what stands before each part
abbrev pub till_pointer : List Moment
till_pointer = begins ++ (appends_first ++ settles ∷ [])

abbrev pub till_orb : List Moment
till_orb = till_pointer ++ (points_agent ++ serves_orb)

abbrev pub till_status : List Moment
till_status = till_orb ++ runs_orb

abbrev pub whole : List Moment
whole = told (till_status ++ (takes_status ++ comes_to_rest))

-- ---- the once law: the first write comes again, and is told as a repeat or not; and one that is closed without a delivery
abbrev pub comes_again : List Moment
comes_again = till_pointer ++ (points_agent ++ asked 4 (events.Repeat 1) ∷ [])

abbrev pub repeated : List Moment
repeated = told (comes_again ++ said (notes.Ignored 1 ignored.Again) ∷ said (notes.Sent 4 0 0 1 (done_by_target 0 0)) ∷ [])

abbrev pub judged_twice : List Moment
judged_twice = told (comes_again ++ said (notes.Got 1) ∷ [])

abbrev pub closed_unserved : List Moment
closed_unserved = told (till_pointer ++ said (notes.Sent 2 0 0 1 (done_by_target 0 0)) ∷ said (notes.Got 2) ∷ [])

-- ---- the order law
abbrev pub two_appended : List Moment
two_appended = begins ++ appended 0 ∷ appended 1 ∷ []

abbrev pub second_ends_first : List Moment
second_ends_first = told (two_appended ++ said (notes.Ended 0 (Some 0) (Some 1) kinds.Dummy) ∷ [])

abbrev pub ends_after_cut : List Moment
ends_after_cut = told (two_appended ++ said (notes.Cut 0 (Some 0) cuts.AgentReset) ∷ ended kinds.Dummy ∷ [])

abbrev pub runs_after_cut : List Moment
runs_after_cut = told (two_appended ++ said (notes.Cut 0 (Some 0) cuts.AgentReset) ∷ ran None ∷ [])

abbrev pub ends_in_next_list : List Moment
ends_in_next_list = told (two_appended ++ said (notes.Append 0 1 0 ready_block Nothing) ∷ ended kinds.Dummy ∷ [])

abbrev pub list_left_out : List Moment
list_left_out = told (two_appended ++ said (notes.Append 0 2 0 ready_block Nothing) ∷ [])

abbrev pub number_left_out : List Moment
number_left_out = told (two_appended ++ appended 3 ∷ [])

-- ---- the execution law: a WRITE of one block, and others
abbrev pub block_of : ℕ → List ℕ
block_of byte = replicate 512 byte

abbrev pub write_block_0 : List ℕ
write_block_0 = 0x2a ∷ 0 ∷ 0 ∷ 0 ∷ 0 ∷ 0 ∷ 0 ∷ 0 ∷ 1 ∷ 0 ∷ 0 ∷ 0 ∷ []

abbrev pub write_runs : List ℕ → Option Sense → List Moment
write_runs bytes check =
    told (begins ++ said (notes.Append 0 0 0 write_block_0 (Out (block_of 0xaa))) ∷ said (notes.Ran 0 (Some 0) (Some 0) 0 write_block_0 bytes check) ∷ [])

abbrev pub runs_twice : List Moment
runs_twice = told (till_orb ++ said (notes.Got 4) ∷ ran None ∷ ran None ∷ [])

abbrev pub runs_another : List Moment
runs_another = told (till_orb ++ said (notes.Got 4) ∷ said (notes.Ran 0 (Some 0) (Some 0) 0 capacity_block [] None) ∷ [])

abbrev pub runs_elsewhere : List Moment
runs_elsewhere = told (till_orb ++ said (notes.Got 4) ∷ said (notes.Ran 0 (Some 0) (Some 0) 1 ready_block [] None) ∷ [])

abbrev pub checked_unasked : List Moment
checked_unasked = told (till_orb ++ said (notes.Got 4) ∷ ran (Some no_command) ∷ [])

abbrev pub ends_unrun : List Moment
ends_unrun = told (till_orb ++ said (notes.Got 4) ∷ ended kinds.Good ∷ [])

abbrev pub aborted_after_run : List Moment
aborted_after_run = told (till_orb ++ said (notes.Got 4) ∷ ran None ∷ ended kinds.Aborted ∷ [])

-- ---- the status law
abbrev pub taken_twice : List Moment
taken_twice = told (till_status ++ (takes_status ++ taken kinds.Good ∷ []))

abbrev pub taken_of_another : List Moment
taken_of_another = told (till_status ++ said (notes.Got 5) ∷ said (notes.Taken 0 0 1 kinds.Good []) ∷ [])

abbrev pub taken_before_end : List Moment
taken_before_end = told (till_orb ++ said (notes.Got 4) ∷ ran None ∷ taken kinds.Good ∷ [])

abbrev pub taken_otherwise : List Moment
taken_otherwise = told (till_status ++ said (notes.Got 5) ∷ taken kinds.Dummy ∷ [])

abbrev pub taken_by_response : List Moment
taken_by_response = told (till_status ++ taken kinds.Good ∷ [])

abbrev pub not_taken : List Moment
not_taken = told (till_status ++ said (notes.Got 5) ∷ said (notes.Sent 6 0 1 0 (done_by_first 0)) ∷ [])

-- ---- the answer law and the carried law: a READ CAPACITY, whose answer no packet carried
abbrev pub capacity_taken : List ℕ → List Moment
capacity_taken answer =
    told (begins
    ++ asked 2 (events.Act 0 (actions.Append (record { cdb = capacity_block; to_initiator = true; length = 8; payload = []; segments = []; max_payload = 9 })))
    ∷ said (notes.Append 0 0 0 capacity_block (In 8)) ∷ said (notes.Ran 0 (Some 0) (Some 0) 0 capacity_block [] None) ∷ ended kinds.Good
    ∷ said (notes.Taken 0 0 0 kinds.Good answer) ∷ [])

abbrev pub run_unread : List Moment
run_unread = told (till_pointer ++ ran None ∷ [])

abbrev pub run_left_out : List Moment
run_left_out = told (till_orb ++ said (notes.Got 4) ∷ [])

-- ---- the cause law: the status write times out
abbrev pub timed_out : List Moment
timed_out = till_status ++ asked 4 (events.Timeout 5) ∷ said (notes.TimedOut 5) ∷ []

abbrev pub dies : Moment
dies = said (notes.Dead 0 (Some 0) causes.Timeout)

abbrev pub dead_at_time_out : List Moment
dead_at_time_out = told (timed_out ++ dies ∷ [])

abbrev pub death_left_out : List Moment
death_left_out = told timed_out

abbrev pub dead_twice : List Moment
dead_twice = told (timed_out ++ dies ∷ dies ∷ [])

abbrev pub dead_at_an_orb : List Moment
dead_at_an_orb = told (till_orb ++ said (notes.Got 4) ∷ ran None ∷ said (notes.Dead 0 (Some 0) causes.Grammar) ∷ ended kinds.Good ∷ sends_status ∷ [])

-- an initiator's write times out, or its read of AGENT_STATE, or it sees a reset
abbrev pub pointer_times_out : List Moment
pointer_times_out = begins ++ (appends_first ++ asked 4 (events.Timeout 1) ∷ said (notes.TimedOut 1) ∷ [])

abbrev pub stuck_at_time_out : List Moment
stuck_at_time_out = told (pointer_times_out ++ said (notes.Stuck 0) ∷ [])

abbrev pub stuck_left_out : List Moment
stuck_left_out = told pointer_times_out

abbrev pub state_packet : (label : ℕ) → List ℕ
state_packet label = canon (read_quadlet (to_target label) 0xfffff0040000)

abbrev pub state_times_out : List Moment
state_times_out =
    begins ++ asked 2 (events.Act 0 actions.State) ∷ said (notes.Sent 1 0 1 0 (state_packet 0)) ∷ asked 3 (events.Timeout 1) ∷ said (notes.TimedOut 1) ∷ []

abbrev pub state_ends : Moment
state_ends = said (notes.Op 0 operations.State words.Error)

abbrev pub state_ends_in_error : List Moment
state_ends_in_error = told (state_times_out ++ state_ends ∷ [])

abbrev pub state_ends_well : List Moment
state_ends_well = told (state_times_out ++ said (notes.Op 0 operations.State (words.State 1)) ∷ [])

abbrev pub state_ends_never : List Moment
state_ends_never = told state_times_out

abbrev pub resets : List Moment
resets = asked 3 (events.Reset (1 ∷ 0 ∷ [])) ∷ said (notes.Reset 1) ∷ []

abbrev pub first_sees : List Moment
first_sees = begins ++ (appends_first ++ (resets ++ asked 4 (events.See 1) ∷ said (notes.Seen 1 1) ∷ []))

abbrev pub drops_at_reset : List Moment
drops_at_reset = told (first_sees ++ said (notes.Drop 0 0) ∷ [])

abbrev pub drop_left_out : List Moment
drop_left_out = told first_sees

-- ---- the judgement law: a packet of an old generation
abbrev pub target_sees : List Moment
target_sees = begins ++ (appends_first ++ (resets ++ asked 4 (events.See 0) ∷ said (notes.Seen 0 1) ∷ said (notes.Held 1) ∷ asked 5 (events.Deliver 1) ∷ []))

abbrev pub old_is_ignored : List Moment
old_is_ignored = told (target_sees ++ said (notes.Ignored 1 ignored.Generation) ∷ [])

abbrev pub old_is_acted_on : List Moment
old_is_acted_on = told (target_sees ++ said (notes.Got 1) ∷ [])

abbrev pub ignored_otherwise : List Moment
ignored_otherwise = told (target_sees ++ said (notes.Ignored 1 ignored.Login) ∷ [])

abbrev pub ignored_with_answer : List Moment
ignored_with_answer =
    told (target_sees ++ said (notes.Ignored 1 ignored.Generation) ∷ said (notes.Sent 2 1 0 1 (canon (write_response (header target_id first_id 0) 7))) ∷ [])

-- ---- the login law: seconds of a held login, and a decision
abbrev pub ticks : ℕ → List Moment
ticks line = asked line events.Tick ∷ said notes.Tick ∷ []

abbrev pub four_ticks : List Moment
four_ticks =
    begins ++ (resets ++ (asked 4 (events.See 0) ∷ said (notes.Seen 0 1) ∷ said (notes.Held 1) ∷ ticks 5 ++ (ticks 6 ++ (ticks 7 ++ ticks 8))))

abbrev pub expires : List Moment
expires = told (four_ticks ++ said (notes.Expired 1) ∷ [])

abbrev pub stays_too_long : List Moment
stays_too_long = told four_ticks

abbrev pub held_left_out : List Moment
held_left_out = told (begins ++ (resets ++ asked 4 (events.See 0) ∷ said (notes.Seen 0 1) ∷ []))

-- ---- the sent law
abbrev pub answers_pointer : List Moment → List Moment
answers_pointer packets = told (till_pointer ++ said (notes.Got 1) ∷ packets)

abbrev pub unanswered : List Moment
unanswered = answers_pointer []

abbrev pub answered_twice : List Moment
answered_twice =
    answers_pointer (said (notes.Sent 2 0 0 1 (done_by_target 0 0)) ∷ said (notes.Sent 3 0 0 1 (done_by_target 0 0)) ∷ said (notes.Sent 4 0 0 1 (fetch_packet 0 0x10000000)) ∷ [])

abbrev pub answered_otherwise : List Moment
answered_otherwise = answers_pointer (said (notes.Sent 2 0 0 1 (done_by_target 0 7)) ∷ said (notes.Sent 3 0 0 1 (fetch_packet 0 0x10000000)) ∷ [])

abbrev pub not_fetched : List Moment
not_fetched = answers_pointer (said (notes.Sent 2 0 0 1 (done_by_target 0 0)) ∷ [])

abbrev pub fetched_elsewhere : List Moment
fetched_elsewhere = answers_pointer (said (notes.Sent 2 0 0 1 (done_by_target 0 0)) ∷ said (notes.Sent 3 0 0 1 (fetch_packet 0 0x10000040)) ∷ [])

-- a second ORB is prepared and not linked
abbrev pub served_linked : (high low : ℕ) → List Moment
served_linked high low =
    told (begins ++ (appends_first ++ asked 3 (events.Act 0 (actions.Put test_ready)) ∷ appended 1 ∷ asked 4 events.Settle ∷ points_agent
    ++ said (notes.Got 2) ∷ said (notes.Got 3) ∷ said (notes.Sent 4 0 1 0 (orb_packet 0 high low)) ∷ []))

-- a label whose request timed out is given out again, or the next one
abbrev pub asks_again : (label : ℕ) → List Moment
asks_again label =
    told (state_times_out ++ state_ends ∷ asked 4 (events.Act 0 actions.State) ∷ said (notes.Sent 2 0 1 0 (state_packet label)) ∷ [])

-- the status has another src
abbrev pub status_src_0 : List Moment
status_src_0 = told (till_orb ++ said (notes.Got 4) ∷ ran None ∷ ended kinds.Good ∷ said (notes.Sent 5 0 0 1 (status_packet 0x01000000)) ∷ [])

abbrev pub status_unsent : List Moment
status_unsent = told (till_orb ++ said (notes.Got 4) ∷ ran None ∷ ended kinds.Good ∷ [])

-- a second ORB is linked before the first one is read: it is read ahead
abbrev pub links_second : List Moment
links_second =
    asked 3 (events.Act 0 (actions.Append test_ready)) ∷ appended 1 ∷ said (notes.Low 0 0 1) ∷ said (notes.Linked 0 0 1) ∷ said (notes.Rung 0 0 1)
    ∷ said (notes.Sent 2 0 1 0 (canon (write_quadlet (to_target 1) 0xfffff0040010 1))) ∷ asked 4 (events.Deliver 1) ∷ []

abbrev pub second_linked : List Moment
second_linked =
    begins ++ (appends_first ++ (links_second
    ++ said (notes.Got 1) ∷ said (notes.Sent 3 0 0 1 (done_by_target 0 0)) ∷ said (notes.Sent 4 0 0 1 (fetch_packet 0 0x10000000))
    ∷ asked 5 (events.Deliver 4) ∷ said (notes.Got 4) ∷ said (notes.Sent 5 0 1 0 (orb_packet 0 0 0x10000040)) ∷ asked 6 (events.Deliver 5)
    ∷ said (notes.Got 5) ∷ ran None ∷ ended kinds.Good ∷ said (notes.Sent 6 0 0 1 (status_packet 0x01000000)) ∷ []))

abbrev pub reads_nothing_ahead : List Moment
reads_nothing_ahead = told second_linked

-- a doorbell rings at an agent that is SUSPENDED
abbrev pub rings_suspended : List Moment
rings_suspended =
    till_status ++ (takes_status ++ (comes_to_rest ++ asked 4 (events.Act 0 actions.Ring) ∷ said (notes.Rung 0 0 0)
    ∷ said (notes.Sent 7 0 1 0 (canon (write_quadlet (to_target 0) 0xfffff0040010 1))) ∷ asked 5 (events.Deliver 7) ∷ said (notes.Got 7)
    ∷ said (notes.Sent 8 0 0 1 (done_by_target 0 0)) ∷ []))

abbrev pub doorbell_ignored : List Moment
doorbell_ignored = told rings_suspended

-- ---- the login law: a login is decided, as the EUI-64 was read
abbrev pub login_orb : ManagementOrb
login_orb = record {
  first = 0;
  second = 0x12001000;
  notify = true;
  format = 0;
  exclusive = false;
  reconnect = 0;
  function = 0;
  subject = 0;
  password_length = 0;
  response_length = 16;
  fifo = 0x13000000;
}

abbrev pub reads_login : List Moment
reads_login =
    asked 1 (events.Begin 1 false) ∷ said (notes.Begin 1 false)
    ∷ asked 2 (events.Act 0 (actions.Login 0 0 false (replicate 8 0)))
    ∷ said (notes.Sent 1 0 1 0 (canon (write_block (to_target 0) 0xfffff0010000 (quad_bytes (0 ∷ 0x12000000 ∷ []))))) ∷ asked 3 events.Settle
    ∷ said (notes.Got 1) ∷ said (notes.Sent 2 0 0 1 (done_by_target 0 0)) ∷ said (notes.Sent 3 0 0 1 (fetch_packet 0 0x12000000))
    ∷ said (notes.Got 2) ∷ said (notes.Got 3) ∷ said (notes.Sent 4 0 1 0 (canon (read_block_response (to_target 0) 0 (management_bytes login_orb)))) ∷ []

abbrev pub reads_eui : List Moment
reads_eui =
    said (notes.Got 4) ∷ said (notes.Sent 5 0 0 1 (canon (read_quadlet (to_first 0) 0xfffff000040c)))
    ∷ said (notes.Got 5) ∷ said (notes.Sent 6 0 1 0 (canon (read_quadlet_response (to_target 0) 0 0x02000000)))
    ∷ said (notes.Got 6) ∷ said (notes.Sent 7 0 0 1 (canon (read_quadlet (to_first 0) 0xfffff0000410)))
    ∷ said (notes.Got 7) ∷ said (notes.Sent 8 0 1 0 (canon (read_quadlet_response (to_target 0) 0 1))) ∷ []

abbrev pub decides : (status : ℕ) → Option ℕ → List Moment
decides status login = told (reads_login ++ (reads_eui ++ said (notes.Got 8) ∷ said (notes.Managed 0 functions.Login 0 status login) ∷ []))

-- the response that is written for it, with a base of agent registers
abbrev pub responds : (base : ℕ) → List Moment
responds base =
    told (reads_login ++ (reads_eui ++ said (notes.Got 8) ∷ said (notes.Managed 0 functions.Login 0 0 (Some 1))
    ∷ said (notes.Sent 9 0 0 1 (canon (write_block (to_first 0) 0x12001000 (login_bytes (record { login = 1; agent = base; hold = 0 }))))) ∷ []))

-- ---- the media law: a load fills the tray, while initiator 1 has enabled its register or not
abbrev pub empty_bay : List Disk
empty_bay = record {
  bytes = Some (replicate 512 0);
  blocks = 1;
  is_protected = false;
  is_present = false;
  is_bay = true;
  shelf = record { bytes = Some (replicate 512 1); is_protected = false } ∷ [];
} ∷ []

abbrev pub load_block : List ℕ
load_block = 0x1b ∷ 0 ∷ 0 ∷ 0 ∷ 3 ∷ replicate 7 0

abbrev pub two_begin : List Moment
two_begin = asked 1 (events.Begin 2 true) ∷ said (notes.Begin 2 true) ∷ []

abbrev pub enables : List Moment
enables =
    asked 2 (events.Act 1 actions.Enable) ∷ said (notes.Sent 1 0 2 0 (canon (write_quadlet (header target_id second_id 0) 0xfffff0040034 1)))
    ∷ asked 3 (events.Deliver 1) ∷ said (notes.Got 1) ∷ said (notes.Sent 2 0 0 2 (canon (write_response (header second_id target_id 0) 0))) ∷ []

abbrev pub loads : List Moment
loads = said (notes.Got 4) ∷ said (notes.Ran 0 (Some 0) (Some 0) 0 load_block [] None) ∷ ended kinds.Good ∷ []

abbrev pub loads_enabled : Note → List Moment
loads_enabled note = told (two_begin ++ (enables ++ (loads ++ said note ∷ [])))

abbrev pub loads_disabled : List Moment → List Moment
loads_disabled pushes = told (two_begin ++ (loads ++ pushes))

-- ---- the action law: whole entries, the latest one first
abbrev pub entry : (line : ℕ) → Event → List Note → Entry
entry line event told = record { line = line; event = event; notes = reverse told }

abbrev pub begin_entry : Entry
begin_entry = entry 1 (events.Begin 1 true) (notes.Begin 1 true ∷ [])

abbrev pub append_entry : Entry
append_entry =
    entry 2 (events.Act 0 (actions.Append test_ready)) (notes.Append 0 0 0 ready_block Nothing ∷ notes.Rung 0 0 0 ∷ notes.Sent 1 0 1 0 pointer_packet ∷ [])

abbrev pub step_entry : List Note → Entry
step_entry told = entry 3 (events.Step 1) told

abbrev pub steps_once : List Entry
steps_once =
    step_entry (notes.Got 1 ∷ notes.Sent 2 0 0 1 (done_by_target 0 0) ∷ notes.Sent 3 0 0 1 (fetch_packet 0 0x10000000) ∷ []) ∷ append_entry ∷ begin_entry ∷ []

abbrev pub steps_not : List Entry
steps_not = step_entry [] ∷ append_entry ∷ begin_entry ∷ []

-- the whole run, as entries
abbrev pub settle_notes : List Note
settle_notes =
    notes.Got 1 ∷ notes.Sent 2 0 0 1 (done_by_target 0 0) ∷ notes.Sent 3 0 0 1 (fetch_packet 0 0x10000000) ∷ notes.Got 2
    ∷ notes.Got 3 ∷ notes.Sent 4 0 1 0 (orb_packet 0 0x80000000 0)
    ∷ notes.Got 4 ∷ notes.Ran 0 (Some 0) (Some 0) 0 ready_block [] None ∷ notes.Ended 0 (Some 0) (Some 0) kinds.Good ∷ notes.Sent 5 0 0 1 (status_packet 0x41000000)
    ∷ notes.Got 5 ∷ notes.Taken 0 0 0 kinds.Good [] ∷ notes.Sent 6 0 1 0 (done_by_first 0) ∷ notes.Got 6 ∷ []

abbrev pub whole_entries : List Entry
whole_entries = entry 3 events.Settle (settle_notes ++ notes.Settled ∷ []) ∷ append_entry ∷ begin_entry ∷ []

abbrev pub settles_early : List Entry
settles_early = entry 3 events.Settle (notes.Settled ∷ []) ∷ append_entry ∷ begin_entry ∷ []

abbrev pub settles_at_rest : List Entry
settles_at_rest = entry 2 events.Settle (notes.Settled ∷ []) ∷ begin_entry ∷ []

abbrev pub refuses_append : List Entry
refuses_append = entry 2 (events.Act 0 (actions.Append test_ready)) (notes.Refused 2 9 ∷ []) ∷ begin_entry ∷ []

abbrev pub refuses_login : (number : ℕ) → List Entry
refuses_login number = entry 2 (events.Act 0 (actions.Login 0 0 false (replicate 8 0))) (notes.Refused 2 number ∷ []) ∷ begin_entry ∷ []

abbrev pub stops_early : List Entry
stops_early = entry 3 events.Settle (notes.Stopped ∷ []) ∷ append_entry ∷ begin_entry ∷ []

-- injected packets: 16 bytes from initiator 0 to the target, and from another node
abbrev pub wild_bytes : (source : ℕ) → List ℕ
wild_bytes source = canon (write_quadlet (header target_id source 0) 0 0)

abbrev pub injects : (source : ℕ) → List Note → List Entry
injects source notes_told = entry 2 (events.Inject 0 (wild_bytes source)) notes_told ∷ begin_entry ∷ []

abbrev pub injected_notes : List Note
injected_notes = notes.Injected 1 ∷ notes.Sent 1 0 1 0 (wild_bytes first_id) ∷ []

abbrev pub sets_key : (unit : ℕ) → List Note → List Entry
sets_key unit notes_told = entry 2 (events.Key unit (replicate 8 1)) notes_told ∷ begin_entry ∷ []

-- ---- the cause law: an ORB ends as aborted, though no abort of it was asked for
abbrev pub aborted_unasked : List Moment
aborted_unasked = told (till_orb ++ said (notes.Got 4) ∷ ended kinds.Aborted ∷ sends_status ∷ [])
