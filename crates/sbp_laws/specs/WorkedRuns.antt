-- More worked journals: a READ CAPACITY, an agent reset, and a logout, each with every packet.
use Rattle.std.specs.Prelude.{ℕ, ◌+◌, true, false, List, [], ◌∷◌, ◌++◌, replicate, None, Some}
use Rattle.async_packet.specs.Packet.{write_quadlet, write_block, write_response, read_quadlet, read_block, read_quadlet_response, read_block_response}
use Rattle.async_packet.specs.Canon.{canon}
use Rattle.async_packet.specs.declared.packet.Header.{Header}
use Rattle.orb_layout.specs.LoginResponses.{login_bytes}
use Rattle.orb_layout.specs.declared.management.ManagementOrb.{ManagementOrb}
use Rattle.orb_layout.specs.declared.status.StatusKind.TheVariants as kinds
use Rattle.orb_layout.specs.ManagementOrbs.{management_bytes}
use Rattle.orb_layout.specs.Pointers.{quad_bytes}
use Rattle.media_bay.specs.Unsolicited.{block}
use Rattle.sbp_journal.specs.Run.{Moment, asked, said}
use Rattle.sbp_journal.specs.declared.cause.Cause.TheVariants as ignored
use Rattle.sbp_journal.specs.declared.cause.CutCause.TheVariants as cuts
use Rattle.sbp_journal.specs.declared.event.Event.TheVariants as events
use Rattle.sbp_journal.specs.declared.event.Action.TheVariants as actions
use Rattle.sbp_journal.specs.declared.event.Cmd.{Cmd}
use Rattle.sbp_journal.specs.declared.note.NoteBuffer.TheVariants.{Nothing, In, Out}
use Rattle.sbp_journal.specs.declared.operation.FunctionWord.TheVariants as functions
use Rattle.sbp_journal.specs.declared.operation.Operation.TheVariants as operations
use Rattle.sbp_journal.specs.declared.operation.OpWord.TheVariants as words
use Rattle.sbp_journal.specs.declared.note.Note.TheVariants as notes
use Rattle.sbp_laws.specs.Journals.{told, begins, settles, appends_first, appended, pointer_packet, points_agent, header, target_id, first_id, second_id, two_begin, load_block, to_target, to_first, done_by_target, done_by_first, fetch_packet, orb_packet, status_packet, test_ready, ready_block, capacity_block, ran, ended, taken, till_status, takes_status, comes_to_rest, login_orb}

-- ---- every packet of one READ CAPACITY, whose answer the target writes into the buffer of slot 0
abbrev pub read_capacity : Cmd
read_capacity = record { cdb = capacity_block; to_initiator = true; length = 8; payload = []; segments = []; max_payload = 9 }

abbrev pub capacity_orb : List ℕ
capacity_orb = quad_bytes (0x80000000 ∷ 0 ∷ 0xffc10000 ∷ 0x11000000 ∷ 0x8a900008 ∷ 0x25000000 ∷ 0 ∷ 0 ∷ [])

abbrev pub capacity : List ℕ
capacity = quad_bytes (0 ∷ 512 ∷ [])

abbrev pub appends_capacity : List Moment
appends_capacity =
    begins ++ asked 2 (events.Act 0 (actions.Append read_capacity)) ∷ said (notes.Append 0 0 0 capacity_block (In 8)) ∷ said (notes.Rung 0 0 0)
    ∷ said (notes.Sent 1 0 1 0 pointer_packet) ∷ []

abbrev pub till_capacity : List Moment
till_capacity =
    begins ++ asked 2 (events.Act 0 (actions.Append read_capacity)) ∷ said (notes.Append 0 0 0 capacity_block (In 8)) ∷ said (notes.Rung 0 0 0)
    ∷ said (notes.Sent 1 0 1 0 pointer_packet) ∷ settles ∷ points_agent
    ++ said (notes.Got 2) ∷ said (notes.Got 3) ∷ said (notes.Sent 4 0 1 0 (canon (read_block_response (to_target 0) 0 capacity_orb))) ∷ []

abbrev pub answers_capacity : List Moment
answers_capacity =
    said (notes.Got 4) ∷ said (notes.Ran 0 (Some 0) (Some 0) 0 capacity_block [] None) ∷ said (notes.Sent 5 0 0 1 (canon (write_block (to_first 0) 0x11000000 capacity)))
    ∷ said (notes.Got 5) ∷ said (notes.Sent 6 0 1 0 (done_by_first 0))
    ∷ said (notes.Got 6) ∷ ended kinds.Good ∷ said (notes.Sent 7 0 0 1 (status_packet 0x41000000))
    ∷ said (notes.Got 7) ∷ said (notes.Taken 0 0 0 kinds.Good capacity) ∷ said (notes.Sent 8 0 1 0 (done_by_first 0)) ∷ said (notes.Got 8) ∷ said notes.Settled ∷ []

abbrev pub capacity_told : List Moment
capacity_told = told (till_capacity ++ answers_capacity)

-- ---- the agent is reset behind a TEST UNIT READY
abbrev pub agent_reset_told : List Moment
agent_reset_told =
    told (till_status ++ (takes_status ++ (comes_to_rest
    ++ asked 4 (events.Act 0 actions.AgentReset) ∷ said (notes.Sent 7 0 1 0 (canon (write_quadlet (to_target 0) 0xfffff0040004 1))) ∷ asked 5 events.Settle
    ∷ said (notes.Got 7) ∷ said (notes.Cut 0 (Some 0) cuts.AgentReset) ∷ said (notes.Sent 8 0 0 1 (done_by_target 0 0))
    ∷ said (notes.Got 8) ∷ said (notes.Drop 0 0) ∷ said (notes.Op 0 operations.AgentReset words.Done) ∷ said notes.Settled ∷ [])))

-- ---- a logout
abbrev pub logout_orb : ManagementOrb
logout_orb = record {
  first = 0;
  second = 0;
  notify = true;
  format = 0;
  exclusive = false;
  reconnect = 0;
  function = 7;
  subject = 1;
  password_length = 0;
  response_length = 0;
  fifo = 0x12002000;
}

abbrev pub logs_out : List Moment
logs_out =
    begins ++ asked 2 (events.Act 0 actions.Logout)
    ∷ said (notes.Sent 1 0 1 0 (canon (write_block (to_target 0) 0xfffff0010000 (quad_bytes (0 ∷ 0x12000000 ∷ []))))) ∷ asked 3 events.Settle
    ∷ said (notes.Got 1) ∷ said (notes.Sent 2 0 0 1 (done_by_target 0 0)) ∷ said (notes.Sent 3 0 0 1 (fetch_packet 0 0x12000000))
    ∷ said (notes.Got 2) ∷ said (notes.Got 3) ∷ said (notes.Sent 4 0 1 0 (canon (read_block_response (to_target 0) 0 (management_bytes logout_orb))))
    ∷ said (notes.Got 4) ∷ said (notes.Left 1) ∷ said (notes.Managed 0 functions.Logout 1 0 None)
    ∷ said (notes.Sent 5 0 0 1 (canon (write_block (to_first 0) 0x12002000 (quad_bytes (0x01000000 ∷ 0x12000000 ∷ [])))))
    ∷ said (notes.Got 5) ∷ said (notes.Op 0 operations.Logout words.Done) ∷ said (notes.Sent 6 0 1 0 (done_by_first 0)) ∷ said (notes.Got 6) ∷ said notes.Settled ∷ []

abbrev pub logout_told : List Moment
logout_told = told logs_out

-- ---- two TEST UNIT READYs, the second of which is read ahead
abbrev pub read_ahead_told : List Moment
read_ahead_told =
    told (begins ++ (appends_first ++ asked 3 (events.Act 0 (actions.Append test_ready)) ∷ appended 1 ∷ said (notes.Low 0 0 1) ∷ said (notes.Linked 0 0 1) ∷ said (notes.Rung 0 0 1)
    ∷ said (notes.Sent 2 0 1 0 (canon (write_quadlet (to_target 1) 0xfffff0040010 1))) ∷ asked 4 events.Settle
    ∷ said (notes.Got 1) ∷ said (notes.Sent 3 0 0 1 (done_by_target 0 0)) ∷ said (notes.Sent 4 0 0 1 (fetch_packet 0 0x10000000))
    ∷ said (notes.Got 2) ∷ said (notes.Sent 5 0 0 1 (done_by_target 1 0)) ∷ said (notes.Got 3)
    ∷ said (notes.Got 4) ∷ said (notes.Sent 6 0 1 0 (orb_packet 0 0 0x10000040)) ∷ said (notes.Got 5)
    ∷ said (notes.Got 6) ∷ ran None ∷ ended kinds.Good ∷ said (notes.Sent 7 0 0 1 (status_packet 0x01000000)) ∷ said (notes.Sent 8 0 0 1 (fetch_packet 1 0x10000040))
    ∷ said (notes.Got 7) ∷ taken kinds.Good ∷ said (notes.Sent 9 0 1 0 (done_by_first 0))
    ∷ said (notes.Got 8) ∷ said (notes.Sent 10 0 1 0 (orb_packet 1 0x80000000 0)) ∷ said (notes.Got 9)
    ∷ said (notes.Got 10) ∷ said (notes.Ran 0 (Some 0) (Some 1) 0 ready_block [] None) ∷ said (notes.Ended 0 (Some 0) (Some 1) kinds.Good)
    ∷ said (notes.Sent 11 0 0 1 (canon (write_block (to_first 0) 0x13000000 (quad_bytes (0x41000000 ∷ 0x10000040 ∷ [])))))
    ∷ said (notes.Got 11) ∷ said (notes.Taken 0 0 1 kinds.Good []) ∷ said (notes.Sent 12 0 1 0 (done_by_first 0)) ∷ said (notes.Got 12) ∷ said notes.Settled ∷ []))

-- ---- a login behind the logout: by the other place of management, with the next FIFO and the next ID
abbrev pub next_login_orb : ManagementOrb
next_login_orb = record login_orb { second = 0x12001100; fifo = 0x13000020 }

abbrev pub next_response : List ℕ
next_response = login_bytes (record { login = 2; agent = 0xfffff0040000; hold = 0 })

abbrev pub login_told : List Moment
login_told =
    told (logs_out ++ asked 4 (events.Act 0 (actions.Login 0 0 false (replicate 8 0)))
    ∷ said (notes.Sent 7 0 1 0 (canon (write_block (to_target 0) 0xfffff0010000 (quad_bytes (0 ∷ 0x12000020 ∷ []))))) ∷ asked 5 events.Settle
    ∷ said (notes.Got 7) ∷ said (notes.Sent 8 0 0 1 (done_by_target 0 0)) ∷ said (notes.Sent 9 0 0 1 (fetch_packet 0 0x12000020))
    ∷ said (notes.Got 8) ∷ said (notes.Got 9) ∷ said (notes.Sent 10 0 1 0 (canon (read_block_response (to_target 0) 0 (management_bytes next_login_orb))))
    ∷ said (notes.Got 10) ∷ said (notes.Sent 11 0 0 1 (canon (read_quadlet (to_first 0) 0xfffff000040c)))
    ∷ said (notes.Got 11) ∷ said (notes.Sent 12 0 1 0 (canon (read_quadlet_response (to_target 0) 0 0x02000000)))
    ∷ said (notes.Got 12) ∷ said (notes.Sent 13 0 0 1 (canon (read_quadlet (to_first 0) 0xfffff0000410)))
    ∷ said (notes.Got 13) ∷ said (notes.Sent 14 0 1 0 (canon (read_quadlet_response (to_target 0) 0 1)))
    ∷ said (notes.Got 14) ∷ said (notes.Managed 0 functions.Login 0 0 (Some 2)) ∷ said (notes.Sent 15 0 0 1 (canon (write_block (to_first 0) 0x12001100 next_response)))
    ∷ said (notes.Got 15) ∷ said (notes.Sent 16 0 1 0 (done_by_first 0))
    ∷ said (notes.Got 16) ∷ said (notes.Sent 17 0 0 1 (canon (write_block (to_first 0) 0x13000020 (quad_bytes (0x01000000 ∷ 0x12000020 ∷ [])))))
    ∷ said (notes.Got 17) ∷ said (notes.Op 0 operations.Login words.Done) ∷ said (notes.Sent 18 0 1 0 (done_by_first 0)) ∷ said (notes.Got 18) ∷ said notes.Settled ∷ [])

-- ---- a reconnect behind a reset, in which the two nodes change their IDs
abbrev pub reconnect_orb : ManagementOrb
reconnect_orb = record logout_orb { function = 3 }

abbrev pub to_new_target : Header
to_new_target = header first_id target_id 0

abbrev pub to_new_first : Header
to_new_first = header target_id first_id 0

abbrev pub reconnect_told : List Moment
reconnect_told =
    told (begins ++ asked 2 (events.Reset (1 ∷ 0 ∷ [])) ∷ said (notes.Reset 1) ∷ asked 3 (events.See 0) ∷ said (notes.Seen 0 1) ∷ said (notes.Held 1)
    ∷ asked 4 (events.See 1) ∷ said (notes.Seen 1 1) ∷ asked 5 (events.Act 0 actions.Reconnect)
    ∷ said (notes.Sent 1 1 1 0 (canon (write_block to_new_target 0xfffff0010000 (quad_bytes (0 ∷ 0x12000000 ∷ []))))) ∷ asked 6 events.Settle
    ∷ said (notes.Got 1) ∷ said (notes.Sent 2 1 0 1 (canon (write_response to_new_first 0))) ∷ said (notes.Sent 3 1 0 1 (canon (read_block to_new_first 0x12000000 32)))
    ∷ said (notes.Got 2) ∷ said (notes.Got 3) ∷ said (notes.Sent 4 1 1 0 (canon (read_block_response to_new_target 0 (management_bytes reconnect_orb))))
    ∷ said (notes.Got 4) ∷ said (notes.Sent 5 1 0 1 (canon (read_quadlet to_new_first 0xfffff000040c)))
    ∷ said (notes.Got 5) ∷ said (notes.Sent 6 1 1 0 (canon (read_quadlet_response to_new_target 0 0x02000000)))
    ∷ said (notes.Got 6) ∷ said (notes.Sent 7 1 0 1 (canon (read_quadlet to_new_first 0xfffff0000410)))
    ∷ said (notes.Got 7) ∷ said (notes.Sent 8 1 1 0 (canon (read_quadlet_response to_new_target 0 1)))
    ∷ said (notes.Got 8) ∷ said (notes.Back 1) ∷ said (notes.Managed 0 functions.Reconnect 1 0 None)
    ∷ said (notes.Sent 9 1 0 1 (canon (write_block to_new_first 0x12002000 (quad_bytes (0x01000000 ∷ 0x12000000 ∷ [])))))
    ∷ said (notes.Got 9) ∷ said (notes.Op 0 operations.Reconnect words.Done) ∷ said (notes.Sent 10 1 1 0 (canon (write_response to_new_target 0)))
    ∷ said (notes.Got 10) ∷ said notes.Settled ∷ [])

-- ---- a WRITE of one block from two segments, by a page table
abbrev pub write_block_0 : List ℕ
write_block_0 = 0x2a ∷ 0 ∷ 0 ∷ 0 ∷ 0 ∷ 0 ∷ 0 ∷ 0 ∷ 1 ∷ 0 ∷ 0 ∷ 0 ∷ []

abbrev pub write_segments : Cmd
write_segments = record { cdb = write_block_0; to_initiator = false; length = 512; payload = replicate 512 0xaa; segments = 256 ∷ 256 ∷ []; max_payload = 7 }

abbrev pub table_orb : List ℕ
table_orb = quad_bytes (0x80000000 ∷ 0 ∷ 0xffc10000 ∷ 0x10100000 ∷ 0x82780002 ∷ 0x2a000000 ∷ 0 ∷ 0x01000000 ∷ [])

abbrev pub page_table : List ℕ
page_table = quad_bytes (0x01000000 ∷ 0x11000000 ∷ 0x01000000 ∷ 0x11000110 ∷ [])

abbrev pub segment_packet : List ℕ
segment_packet = canon (read_block_response (to_target 0) 0 (replicate 256 0xaa))

abbrev pub table_told : List Moment
table_told =
    told (begins ++ asked 2 (events.Act 0 (actions.Append write_segments)) ∷ said (notes.Append 0 0 0 write_block_0 (Out (replicate 512 0xaa))) ∷ said (notes.Rung 0 0 0)
    ∷ said (notes.Sent 1 0 1 0 pointer_packet) ∷ settles ∷ points_agent
    ++ said (notes.Got 2) ∷ said (notes.Got 3) ∷ said (notes.Sent 4 0 1 0 (canon (read_block_response (to_target 0) 0 table_orb)))
    ∷ said (notes.Got 4) ∷ said (notes.Sent 5 0 0 1 (canon (read_block (to_first 0) 0x10100000 16)))
    ∷ said (notes.Got 5) ∷ said (notes.Sent 6 0 1 0 (canon (read_block_response (to_target 0) 0 page_table)))
    ∷ said (notes.Got 6) ∷ said (notes.Sent 7 0 0 1 (canon (read_block (to_first 0) 0x11000000 256)))
    ∷ said (notes.Got 7) ∷ said (notes.Sent 8 0 1 0 segment_packet)
    ∷ said (notes.Got 8) ∷ said (notes.Sent 9 0 0 1 (canon (read_block (to_first 0) 0x11000110 256)))
    ∷ said (notes.Got 9) ∷ said (notes.Sent 10 0 1 0 segment_packet)
    ∷ said (notes.Got 10) ∷ said (notes.Ran 0 (Some 0) (Some 0) 0 write_block_0 (replicate 512 0xaa) None) ∷ ended kinds.Good ∷ said (notes.Sent 11 0 0 1 (status_packet 0x41000000))
    ∷ said (notes.Got 11) ∷ taken kinds.Good ∷ said (notes.Sent 12 0 1 0 (done_by_first 0)) ∷ said (notes.Got 12) ∷ said notes.Settled ∷ [])

-- ---- a load, of which another login that asked for it is told
abbrev pub load_orb : List ℕ
load_orb = quad_bytes (0x80000000 ∷ 0 ∷ 0 ∷ 0 ∷ 0x82900000 ∷ 0x1b000000 ∷ 0x03000000 ∷ 0 ∷ [])

abbrev pub load_disc : Cmd
load_disc = record { cdb = load_block; to_initiator = false; length = 0; payload = []; segments = []; max_payload = 9 }

abbrev pub load_told : List Moment
load_told =
    told (two_begin ++ asked 2 (events.Act 1 actions.Enable) ∷ said (notes.Sent 1 0 2 0 (canon (write_quadlet (header target_id second_id 0) 0xfffff0040034 1)))
    ∷ asked 3 events.Settle ∷ said (notes.Got 1) ∷ said (notes.Sent 2 0 0 2 (canon (write_response (header second_id target_id 0) 0)))
    ∷ said (notes.Got 2) ∷ said (notes.Op 1 operations.Enable words.Done) ∷ said notes.Settled
    ∷ asked 4 (events.Act 0 (actions.Append load_disc)) ∷ said (notes.Append 0 0 0 load_block Nothing) ∷ said (notes.Rung 0 0 0) ∷ said (notes.Sent 3 0 1 0 pointer_packet)
    ∷ asked 5 events.Settle ∷ said (notes.Got 3) ∷ said (notes.Sent 4 0 0 1 (done_by_target 0 0)) ∷ said (notes.Sent 5 0 0 1 (fetch_packet 0 0x10000000))
    ∷ said (notes.Got 4) ∷ said (notes.Got 5) ∷ said (notes.Sent 6 0 1 0 (canon (read_block_response (to_target 0) 0 load_orb)))
    ∷ said (notes.Got 6) ∷ said (notes.Ran 0 (Some 0) (Some 0) 0 load_block [] None) ∷ ended kinds.Good ∷ said (notes.Unsolicited 1)
    ∷ said (notes.Sent 7 0 0 1 (status_packet 0x41000000)) ∷ said (notes.Sent 8 0 0 2 (canon (write_block (header second_id target_id 0) 0x13000000 block)))
    ∷ said (notes.Got 7) ∷ taken kinds.Good ∷ said (notes.Sent 9 0 1 0 (done_by_first 0))
    ∷ said (notes.Got 8) ∷ said (notes.Told 1) ∷ said (notes.Sent 10 0 2 0 (canon (write_response (header target_id second_id 0) 0)))
    ∷ said (notes.Got 9) ∷ said (notes.Got 10) ∷ said notes.Settled ∷ [])

-- ---- a WRITE is aborted while its data are read
abbrev pub write_whole : Cmd
write_whole = record { cdb = write_block_0; to_initiator = false; length = 512; payload = replicate 512 0xaa; segments = []; max_payload = 9 }

abbrev pub write_orb : List ℕ
write_orb = quad_bytes (0x80000000 ∷ 0 ∷ 0xffc10000 ∷ 0x11000000 ∷ 0x82900200 ∷ 0x2a000000 ∷ 0 ∷ 0x01000000 ∷ [])

abbrev pub abort_orb : ManagementOrb
abort_orb = record logout_orb { function = 0xb; first = 0x10000000 }

-- the line of the abort names ORB k; between it and the delivery of its request, on the line of a number, stands what is told; and its
-- initiator gets the answer to that request, and the status of the operation, or ignores them
abbrev pub abort_behind : (k : ℕ) → (between : List Moment) → (line : ℕ) → (taken_so : List Moment) → List Moment
abort_behind k between line taken_so =
    told (begins ++ asked 2 (events.Act 0 (actions.Append write_whole)) ∷ said (notes.Append 0 0 0 write_block_0 (Out (replicate 512 0xaa))) ∷ said (notes.Rung 0 0 0)
    ∷ said (notes.Sent 1 0 1 0 pointer_packet) ∷ asked 3 (events.Step 4) ∷ points_agent
    ++ said (notes.Got 2) ∷ said (notes.Got 3) ∷ said (notes.Sent 4 0 1 0 (canon (read_block_response (to_target 0) 0 write_orb)))
    ∷ said (notes.Got 4) ∷ said (notes.Sent 5 0 0 1 (canon (read_block (to_first 0) 0x11000000 512)))
    ∷ asked 4 (events.Act 0 (actions.Abort k)) ∷ said (notes.Sent 6 0 1 0 (canon (write_block (to_target 0) 0xfffff0010000 (quad_bytes (0 ∷ 0x12000000 ∷ [])))))
    ∷ between ++ asked line (events.Deliver 6) ∷ said (notes.Got 6) ∷ said (notes.Sent 7 0 0 1 (done_by_target 0 0)) ∷ said (notes.Sent 8 0 0 1 (fetch_packet 1 0x12000000))
    ∷ asked (line + 1) (events.Deliver 8) ∷ said (notes.Got 8) ∷ said (notes.Sent 9 0 1 0 (canon (read_block_response (to_target 1) 0 (management_bytes abort_orb))))
    ∷ asked (line + 2) (events.Deliver 9) ∷ said (notes.Got 9) ∷ said (notes.Managed 0 functions.Abort 1 0 None)
    ∷ said (notes.Sent 10 0 0 1 (canon (write_block (to_first 1) 0x12002000 (quad_bytes (0x01000000 ∷ 0x12000000 ∷ [])))))
    ∷ asked (line + 3) events.Settle ∷ said (notes.Got 5) ∷ said (notes.Sent 11 0 1 0 (canon (read_block_response (to_target 0) 0 (replicate 512 0xaa))))
    ∷ taken_so ++ said (notes.Sent 12 0 1 0 (done_by_first 1)) ∷ said (notes.Got 11) ∷ ended kinds.Aborted ∷ said (notes.Sent 13 0 0 1 (status_packet 0x410c0000)) ∷ said (notes.Got 12)
    ∷ said (notes.Got 13) ∷ taken kinds.Aborted ∷ said (notes.Sent 14 0 1 0 (done_by_first 0)) ∷ said (notes.Got 14) ∷ said notes.Settled ∷ [])

abbrev pub abort_ends : List Moment
abort_ends = said (notes.Got 7) ∷ said (notes.Got 10) ∷ said (notes.Op 0 operations.Abort words.Done) ∷ []

abbrev pub abort_told : List Moment
abort_told = abort_behind 0 [] 5 abort_ends

-- the same where the initiator is asked to see the generation that it is in: its slot stays pinned, and its ORB ends as aborted
abbrev pub abort_behind_sight : List Moment
abort_behind_sight = abort_behind 0 (asked 5 (events.See 1) ∷ said (notes.Seen 1 0) ∷ []) 6 abort_ends

-- the same where the abort's request times out and is delivered all the same: its operation and its pin are over as the target decides, and
-- the ORB that its line named ends as aborted
abbrev pub abort_behind_time_out : (k : ℕ) → List Moment
abort_behind_time_out k =
    abort_behind k (asked 5 (events.Timeout 6) ∷ said (notes.TimedOut 6) ∷ said (notes.Op 0 operations.Abort words.Error) ∷ said (notes.Stuck 0) ∷ []) 6
    (said (notes.Ignored 7 ignored.Label) ∷ said (notes.Ignored 10 ignored.Slot) ∷ [])
