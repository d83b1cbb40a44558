-- Journals that are each refused by a law, since they differ in a note from a worked run or from a part of one.
use Rattle.std.specs.Prelude.{ℕ, zero, suc, ◌+◌, true, List, [], ◌∷◌, ◌++◌, map, drop, reverse, replicate, slice_index_or, Option, None, Some}
use Rattle.async_packet.specs.Packet.{write_quadlet, write_block, write_response, read_quadlet, read_block, read_quadlet_response, read_block_response}
use Rattle.async_packet.specs.Canon.{canon}
use Rattle.orb_layout.specs.declared.status.StatusKind.{StatusKind}
use Rattle.orb_layout.specs.declared.status.StatusKind.TheVariants as kinds
use Rattle.orb_layout.specs.declared.ask.FailCause.TheVariants as causes
use Rattle.orb_layout.specs.ManagementOrbs.{management_bytes}
use Rattle.orb_layout.specs.Pointers.{quad_bytes}
use Rattle.orb_layout.specs.StatusBlocks.{status_bytes}
use Rattle.orb_layout.specs.QueryResponses.{query_bytes}
use Rattle.orb_layout.specs.declared.management.ManagementOrb.{ManagementOrb}
use Rattle.media_bay.specs.Unsolicited.{block}
use Rattle.rbc_command.specs.declared.sense.Sense.{Sense}
use Rattle.rbc_command.specs.SenseData.{no_command}
use Rattle.config_rom.specs.Make.{made}
use Rattle.sbp_journal.specs.Run.{Run, Entry, Moment, asked, said}
use Rattle.sbp_journal.specs.declared.cause.Cause.TheVariants as ignored
use Rattle.sbp_journal.specs.declared.event.Event.{Event}
use Rattle.sbp_journal.specs.declared.event.Event.TheVariants as events
use Rattle.sbp_journal.specs.declared.event.Action.TheVariants as actions
use Rattle.sbp_journal.specs.declared.note.NoteBuffer.TheVariants.{Nothing, In, Out}
use Rattle.sbp_journal.specs.declared.note.Note.{Note}
use Rattle.sbp_journal.specs.declared.note.Note.TheVariants as notes
use Rattle.sbp_journal.specs.declared.operation.FunctionWord.TheVariants as functions
use Rattle.sbp_journal.specs.declared.operation.Operation.TheVariants as operations
use Rattle.sbp_journal.specs.declared.operation.OpWord.TheVariants as words
use Rattle.sbp_laws.specs.Journals.{told, begins, appends_first, appended, resets, till_pointer, till_orb, till_status, points_agent, takes_status, ran, ended, two_appended, comes_again, rings_suspended, links_second, state_packet, target_id, first_id, second_id, header, to_target, to_first, done_by_target, done_by_first, fetch_packet, orb_packet, pointer_packet, status_packet, test_ready, ready_block, capacity_block, login_orb, block_of, write_block_0, two_begin, enables, loads, reads_login, begin_entry, append_entry, entry}
use Rattle.sbp_laws.specs.Journals as journals
use Rattle.sbp_laws.specs.Targets.{eui_of}
use Rattle.sbp_laws.specs.WorkedRuns as runs
use Rattle.sbp_laws.specs.WorkedRuns.{till_capacity}
use Rattle.sbp_laws.specs.RareRuns as rare
use Rattle.sbp_laws.specs.RareRuns.{behind, from_second, to_second, read_block_0, starts_login, untold_disk}

-- a run without its latest moments, and with these notes instead
abbrev pub instead : (count : ℕ) → List Moment → List Note → List Moment
instead count run more = map said (reverse more) ++ drop count run

-- ---- once: a write that closes with rcode 0 was ignored for its login; a write that was ignored so is judged anew; and one that is ignored
-- with the cause slot, which the law accepts
abbrev pub ignored_and_closed : List Moment
ignored_and_closed = behind till_pointer (notes.Ignored 1 ignored.Login ∷ notes.Sent 2 0 0 1 (done_by_target 0 0) ∷ notes.Got 2 ∷ [])

abbrev pub ignored_twice : List Moment
ignored_twice = behind till_pointer (notes.Ignored 1 ignored.Login ∷ notes.Sent 2 0 0 1 (done_by_target 0 0) ∷ notes.Ignored 1 ignored.Login ∷ [])

abbrev pub slot_and_closed : List Moment
slot_and_closed = behind till_status (notes.Ignored 5 ignored.Slot ∷ notes.Sent 6 0 1 0 (done_by_first 0) ∷ notes.Got 6 ∷ [])

-- ---- order
abbrev pub ends_as_dummy : (k : ℕ) → Note
ends_as_dummy k = notes.Ended 0 (Some 0) (Some k) kinds.Dummy

abbrev pub ends_twice : List Moment
ends_twice = behind two_appended (ends_as_dummy 0 ∷ ends_as_dummy 0 ∷ [])

abbrev pub ends_unappended : List Moment
ends_unappended = behind two_appended (ends_as_dummy 0 ∷ ends_as_dummy 1 ∷ ends_as_dummy 2 ∷ [])

abbrev pub runs_in_next_list : List Moment
runs_in_next_list = told (two_appended ++ said (notes.Append 0 1 0 ready_block Nothing) ∷ ran None ∷ [])

-- ---- execution: an ORB runs behind its end, or before the one in front of it has ended; a check that holds, on an empty bay or behind a
-- unit reset, or not; the checks of calls that failed
abbrev pub runs_behind_end : List Moment
runs_behind_end = told (till_orb ++ said (notes.Got 4) ∷ said (ends_as_dummy 0) ∷ ran None ∷ [])

abbrev pub runs_out_of_turn : List Moment
runs_out_of_turn = told (two_appended ++ said (notes.Ran 0 (Some 0) (Some 1) 0 ready_block [] None) ∷ [])

abbrev pub runs_with : Option Sense → List Moment
runs_with check = told (till_orb ++ said (notes.Got 4) ∷ ran check ∷ [])

abbrev pub runs_behind_reset : Option Sense → List Moment
runs_behind_reset check = told (begins ++ appended 0 ∷ said (notes.Cleared 0) ∷ ran check ∷ [])

abbrev pub ends_behind_run : StatusKind → List Moment
ends_behind_run status = told (till_orb ++ said (notes.Got 4) ∷ ran None ∷ ended status ∷ [])

-- ---- status: the block goes to another FIFO, names another slot, tells another status, or was sent in another turn than that of the end
abbrev pub takes_block : List ℕ → List Moment
takes_block bytes =
    told (till_orb ++ said (notes.Got 4) ∷ ran None ∷ ended kinds.Good ∷ said (notes.Sent 5 0 0 1 bytes)
    ∷ said (notes.Got 5) ∷ said (notes.Taken 0 0 0 kinds.Good []) ∷ [])

abbrev pub block_packet : (fifo head orb : ℕ) → List ℕ
block_packet fifo head orb = canon (write_block (to_first 0) fifo (quad_bytes (head ∷ orb ∷ [])))

abbrev pub sent_late : List Moment
sent_late =
    told (till_orb ++ said (notes.Got 4) ∷ ran None ∷ ended kinds.Good ∷ said (notes.Ignored 2 ignored.Label) ∷ said (notes.Sent 5 0 0 1 (status_packet 0x41000000))
    ∷ said (notes.Got 5) ∷ said (notes.Taken 0 0 0 kinds.Good []) ∷ [])

-- ---- answer: bytes where the command has none; and what a READ gives behind a WRITE
abbrev pub answers_unasked : List Moment
answers_unasked = behind till_status (notes.Got 5 ∷ notes.Taken 0 0 0 kinds.Good (0 ∷ []) ∷ [])

abbrev pub reads_back : List ℕ → List Moment
reads_back answer =
    behind begins (notes.Append 0 0 0 write_block_0 (Out (block_of 0xaa)) ∷ notes.Ran 0 (Some 0) (Some 0) 0 write_block_0 (block_of 0xaa) None
    ∷ notes.Ended 0 (Some 0) (Some 0) kinds.Good ∷ notes.Append 0 0 1 read_block_0 (In 512) ∷ notes.Ran 0 (Some 0) (Some 1) 0 read_block_0 [] None
    ∷ notes.Ended 0 (Some 0) (Some 1) kinds.Good ∷ notes.Taken 0 0 1 kinds.Good answer ∷ [])

-- ---- carried: an ORB was read elsewhere, with other bytes, or before it was appended; and a WRITE with data that no packet brought
abbrev pub runs_read_from : (address : ℕ) → List Moment
runs_read_from address =
    behind till_pointer (notes.Got 1 ∷ notes.Sent 2 0 0 1 (done_by_target 0 0) ∷ notes.Sent 3 0 0 1 (fetch_packet 0 address)
    ∷ notes.Got 3 ∷ notes.Sent 4 0 1 0 (orb_packet 0 0x80000000 0) ∷ notes.Got 4 ∷ notes.Ran 0 (Some 0) (Some 0) 0 ready_block [] None ∷ [])

abbrev pub orb_brought : List ℕ → Note → List Moment
orb_brought bytes note =
    behind till_pointer (notes.Got 1 ∷ notes.Sent 2 0 0 1 (done_by_target 0 0) ∷ notes.Sent 3 0 0 1 (fetch_packet 0 0x10000000)
    ∷ notes.Got 3 ∷ notes.Sent 4 0 1 0 (canon (read_block_response (to_target 0) 0 bytes)) ∷ notes.Got 4 ∷ note ∷ [])

abbrev pub runs_ready : Note
runs_ready = notes.Ran 0 (Some 0) (Some 0) 0 ready_block [] None

abbrev pub orb_of : (fields command : ℕ) → List ℕ
orb_of fields command = quad_bytes (0x80000000 ∷ 0 ∷ 0 ∷ 0x11000000 ∷ fields ∷ command ∷ 0 ∷ 0 ∷ [])

-- the ORB is read before it is appended
abbrev pub read_too_early : List Moment
read_too_early =
    behind begins (notes.Sent 1 0 1 0 pointer_packet ∷ notes.Got 1 ∷ notes.Sent 2 0 0 1 (done_by_target 0 0) ∷ notes.Sent 3 0 0 1 (fetch_packet 0 0x10000000)
    ∷ notes.Append 0 0 0 ready_block Nothing ∷ notes.Got 3 ∷ notes.Sent 4 0 1 0 (orb_packet 0 0x80000000 0) ∷ notes.Got 4 ∷ notes.Ran 0 (Some 0) (Some 0) 0 ready_block [] None ∷ [])

-- it is read after it is appended, by a pointer that was taken before or behind that
abbrev pub pointed_and_read : (first later : List Note) → List Moment
pointed_and_read first later =
    behind begins (first ++ notes.Sent 1 0 1 0 pointer_packet ∷ notes.Got 1 ∷ notes.Sent 2 0 0 1 (done_by_target 0 0) ∷ later ++ notes.Sent 3 0 0 1 (fetch_packet 0 0x10000000)
    ∷ notes.Got 3 ∷ notes.Sent 4 0 1 0 (orb_packet 0 0x80000000 0) ∷ notes.Got 4 ∷ runs_ready ∷ [])

abbrev pub appends_ready : List Note
appends_ready = notes.Append 0 0 0 ready_block Nothing ∷ []

abbrev pub read_unnamed : List Moment
read_unnamed = pointed_and_read [] appends_ready

abbrev pub read_named : List Moment
read_named = pointed_and_read appends_ready []

-- ---- cause
-- the read of the last next pointer times out, and the ORB that was taken ends once more; and a status write that times out
abbrev pub reread_times_out : List Note → List Moment
reread_times_out more =
    told (rings_suspended ++ said (notes.Sent 9 0 0 1 (canon (read_block (to_first 0) 0x10000000 8))) ∷ asked 6 (events.Timeout 9) ∷ said (notes.TimedOut 9) ∷ map said more)

abbrev pub status_times_out : List Note → List Moment
status_times_out more = told (till_status ++ asked 4 (events.Timeout 5) ∷ said (notes.TimedOut 5) ∷ map said more)

abbrev pub dies_by : List Note
dies_by = notes.Dead 0 (Some 0) causes.Timeout ∷ []

-- ---- judgement: a repeated write, a block that no row reads, a response that answers nothing, a request for another's register, a status
-- block that comes once more as a new write, and a packet from another initiator
abbrev pub repeats_write : List Note → List Moment
repeats_write answer = told (comes_again ++ said (notes.Ignored 1 ignored.Again) ∷ map said answer)

abbrev pub brings_block : List ℕ → Note → List Note → List Moment
brings_block bytes note more =
    told (till_orb ++ said (notes.Got 4) ∷ ran None ∷ ended kinds.Good ∷ said (notes.Sent 5 0 0 1 bytes) ∷ said note ∷ map said more)

abbrev pub unread_block : List ℕ
unread_block = canon (write_block (to_first 0) 0x13000000 (quad_bytes (0x4f000000 ∷ 0x10000000 ∷ [])))

abbrev pub answered_5 : (rcode : ℕ) → List Note
answered_5 rcode = notes.Sent 6 0 1 0 (canon (write_response (to_target 0) rcode)) ∷ []

abbrev pub repeats_response : Note → List Moment
repeats_response note = told (till_pointer ++ (points_agent ++ said (notes.Got 2) ∷ asked 4 (events.Repeat 2) ∷ said note ∷ []))

abbrev pub second_writes : Note → List Note → List Moment
second_writes note more =
    told (two_begin ++ said (notes.Sent 1 0 2 0 (canon (write_quadlet (from_second 0) 0xfffff0040004 1))) ∷ said note ∷ map said more)

abbrev pub answered_7 : List Note
answered_7 = notes.Sent 2 0 0 2 (canon (write_response (to_second 0) 7)) ∷ []

abbrev pub between_initiators : Note → List Note → List Moment
between_initiators note more =
    told (two_begin ++ said (notes.Injected 1) ∷ said (notes.Sent 1 0 2 1 (canon (write_quadlet (header first_id second_id 0) 0x10000000 1))) ∷ said note ∷ map said more)

abbrev pub answered_source : List Note
answered_source = notes.Sent 2 0 1 2 (canon (write_response (header second_id first_id 0) 7)) ∷ []

abbrev pub comes_as_new : Note → (rcode : ℕ) → List Moment
comes_as_new note rcode =
    told (till_status ++ (takes_status ++ said (notes.Sent 7 0 0 1 (canon (write_block (to_first 1) 0x13000000 (quad_bytes (0x41000000 ∷ 0x10000000 ∷ [])))))
    ∷ said note ∷ said (notes.Sent 8 0 1 0 (canon (write_response (to_target 1) rcode))) ∷ []))

-- bytes that are no packet
abbrev pub no_packet : List ℕ
no_packet = quad_bytes (0xffc001f0 ∷ 0xffc10000 ∷ [])

abbrev pub brings_junk : Note → List Note → List Moment
brings_junk note more = told (begins ++ said (notes.Injected 1) ∷ said (notes.Sent 1 0 1 0 no_packet) ∷ said note ∷ map said more)

-- ---- login
abbrev pub expires_at : List Note → List Moment
expires_at more = told (begins ++ (resets ++ asked 4 (events.See 0) ∷ said (notes.Seen 0 1) ∷ said (notes.Held 1) ∷ asked 5 events.Tick ∷ said notes.Tick ∷ map said more))

-- the decision stands where the ORB was read, before the EUI-64 is
abbrev pub decides_early : List Moment
decides_early = told (reads_login ++ said (notes.Got 4) ∷ said (notes.Managed 0 functions.Login 0 0 (Some 1)) ∷ [])

-- ---- sent, of packets
abbrev pub appends_as : (serial generation : ℕ) → List ℕ → List Moment
appends_as serial generation bytes =
    told (begins ++ asked 2 (events.Act 0 (actions.Append test_ready)) ∷ appended 0 ∷ said (notes.Rung 0 0 0) ∷ said (notes.Sent serial generation 1 0 bytes) ∷ [])

abbrev pub pointer_by : (retry source label offset : ℕ) → List ℕ
pointer_by retry source label offset =
    canon (write_block (record { destination = target_id; label = label; retry = retry; priority = 0; source = source }) offset (quad_bytes (0 ∷ 0x10000000 ∷ [])))

abbrev pub points_to : (orb : ℕ) → List ℕ
points_to orb = canon (write_block (to_target 0) 0xfffff0040008 (quad_bytes (0 ∷ orb ∷ [])))

-- ---- sent, of answers
abbrev pub reads_state : (state : ℕ) → List Moment
reads_state state =
    told (begins ++ asked 2 (events.Act 0 actions.State) ∷ said (notes.Sent 1 0 1 0 (state_packet 0)) ∷ asked 3 (events.Deliver 1) ∷ said (notes.Got 1)
    ∷ said (notes.Sent 2 0 0 1 (canon (read_quadlet_response (to_first 0) 0 state))) ∷ [])

-- a second management write comes while an operation is under way
abbrev pub second_manages : (rcode : ℕ) → List Moment
second_manages rcode =
    told (two_begin ++ asked 2 (events.Act 0 actions.Logout) ∷ said (notes.Sent 1 0 1 0 (canon (write_block (to_target 0) 0xfffff0010000 (quad_bytes (0 ∷ 0x12000000 ∷ [])))))
    ∷ asked 3 (events.Deliver 1) ∷ said (notes.Got 1) ∷ said (notes.Sent 2 0 0 1 (done_by_target 0 0)) ∷ said (notes.Sent 3 0 0 1 (fetch_packet 0 0x12000000))
    ∷ asked 4 (events.Act 1 actions.Logout) ∷ said (notes.Sent 4 0 2 0 (canon (write_block (from_second 0) 0xfffff0010000 (quad_bytes (0 ∷ 0x12000000 ∷ [])))))
    ∷ asked 5 (events.Deliver 4) ∷ said (notes.Got 4) ∷ said (notes.Sent 5 0 0 2 (canon (write_response (to_second 0) rcode))) ∷ [])

-- the first ORB was made a dummy
abbrev pub serves_dummy : List ℕ → List Moment
serves_dummy bytes =
    told (begins ++ (appends_first ++ asked 3 (events.Act 0 (actions.Dummy 0)) ∷ said (notes.Dummied 0 0 0) ∷ asked 4 events.Settle ∷ points_agent
    ++ said (notes.Got 2) ∷ said (notes.Got 3) ∷ said (notes.Sent 4 0 1 0 (canon (read_block_response (to_target 0) 0 bytes))) ∷ []))

abbrev pub plain_bytes : (fields : ℕ) → List ℕ
plain_bytes fields = quad_bytes (0x80000000 ∷ 0 ∷ 0 ∷ 0 ∷ fields ∷ 0 ∷ 0 ∷ 0 ∷ [])

-- the first quadlet of the target's ROM is read
abbrev pub reads_rom : (quadlet : ℕ) → List Moment
reads_rom quadlet =
    told (begins ++ asked 2 (events.Act 0 actions.Rom) ∷ said (notes.Sent 1 0 1 0 (canon (read_quadlet (to_target 0) 0xfffff0000400)))
    ∷ asked 3 (events.Deliver 1) ∷ said (notes.Got 1) ∷ said (notes.Sent 2 0 0 1 (canon (read_quadlet_response (to_first 0) 0 quadlet))) ∷ [])

-- ---- action: entries
abbrev pub one_entry : Event → List Note → List Entry
one_entry event more = entry 2 event more ∷ begin_entry ∷ []

abbrev pub third_entry : Event → List Note → List Entry
third_entry event more = entry 3 event more ∷ append_entry ∷ begin_entry ∷ []

-- a time-out of the first packet, behind a reset that its sender has seen
abbrev pub sees_then : List Note → List Entry
sees_then more =
    entry 5 (events.Timeout 1) more ∷ entry 4 (events.See 1) (notes.Seen 1 1 ∷ notes.Drop 0 0 ∷ [])
    ∷ third_entry (events.Reset (0 ∷ 1 ∷ [])) (notes.Reset 1 ∷ [])

abbrev pub appends_with : Event
appends_with = events.Act 0 (actions.Append test_ready)

abbrev pub answers_first : List Note
answers_first = notes.Sent 2 0 0 1 (done_by_target 0 0) ∷ notes.Sent 3 0 0 1 (fetch_packet 0 0x10000000) ∷ []

-- ---- more of sent, of requests
abbrev pub sends_behind_end : List ℕ → List Note → List Moment
sends_behind_end bytes more = told (till_orb ++ said (notes.Got 4) ∷ ran None ∷ ended kinds.Good ∷ said (notes.Sent 5 0 0 1 bytes) ∷ map said more)

abbrev pub rings_with : (number : ℕ) → List Moment
rings_with number =
    told (begins ++ (appends_first ++ asked 3 (events.Act 0 (actions.Append test_ready)) ∷ appended 1 ∷ said (notes.Low 0 0 1) ∷ said (notes.Linked 0 0 1) ∷ said (notes.Rung 0 0 1)
    ∷ said (notes.Sent 2 0 1 0 (canon (write_quadlet (to_target 1) 0xfffff0040010 number))) ∷ []))

abbrev pub rereads_by : (count : ℕ) → List Moment
rereads_by count = told (rings_suspended ++ said (notes.Sent 9 0 0 1 (canon (read_block (to_first 0) 0x10000000 count))) ∷ [])

-- ---- more of media: two logins are told; and the tray is emptied and filled again
abbrev pub third_enables : List Moment
third_enables =
    asked 1 (events.Begin 3 true) ∷ said (notes.Begin 3 true)
    ∷ said (notes.Sent 1 0 2 0 (canon (write_quadlet (from_second 0) 0xfffff0040034 1))) ∷ said (notes.Got 1)
    ∷ said (notes.Sent 2 0 3 0 (canon (write_quadlet (header target_id 0xffc3 0) 0xfffff0040054 1))) ∷ said (notes.Got 2) ∷ []

abbrev pub tells_both : List Note → List Moment
tells_both more = told (third_enables ++ (loads ++ map said more))

abbrev pub tray_block : (byte : ℕ) → List ℕ
tray_block byte = 0x1b ∷ 0 ∷ 0 ∷ 0 ∷ byte ∷ replicate 7 0

abbrev pub fills_again : List Note
fills_again =
    notes.Got 4 ∷ notes.Ran 0 (Some 0) (Some 1) 0 (tray_block 2) [] None ∷ notes.Got 4 ∷ notes.Ran 0 (Some 0) (Some 2) 0 (tray_block 3) [] None ∷ []

abbrev pub loads_again : List Note → List Moment
loads_again more = told (two_begin ++ (enables ++ (loads ++ map said (notes.Unsolicited 1 ∷ fills_again ++ more))))

-- the first unsolicited status is still under way, and the register is enabled anew
abbrev pub loads_under_way : List Note → List Moment
loads_under_way more =
    told (two_begin ++ (enables ++ (loads ++ map said (notes.Unsolicited 1
    ∷ notes.Sent 3 0 0 2 (canon (write_block (to_second 0) 0x13000000 (quad_bytes (0x85000000 ∷ 0 ∷ 0x02062800 ∷ 0 ∷ 0 ∷ 0 ∷ []))))
    ∷ notes.Sent 4 0 2 0 (canon (write_quadlet (from_second 1) 0xfffff0040034 1)) ∷ notes.Got 4 ∷ fills_again ++ more))))

-- so many labels of the target to initiator 0, from label 8 on, are under way beside the agent's own
abbrev pub others_under : (count : ℕ) → List Note
others_under zero = []
others_under (suc count) = others_under count ++ notes.Sent (100 + count) 0 0 1 (canon (read_quadlet (to_first (8 + count)) 0xfffff0000400)) ∷ []

-- the ORB that another one is linked behind was checked, beside so many labels
abbrev pub checked_beside : (count : ℕ) → List Note → List Moment
checked_beside count more =
    told (begins ++ (appends_first ++ (links_second ++ (map said (others_under count)
    ++ said (notes.Got 1) ∷ said (notes.Sent 3 0 0 1 (done_by_target 0 0)) ∷ said (notes.Sent 4 0 0 1 (fetch_packet 0 0x10000000))
    ∷ said (notes.Got 4) ∷ said (notes.Sent 5 0 1 0 (orb_packet 0 0 0x10000040))
    ∷ said (notes.Got 5) ∷ ran None ∷ ended kinds.Good ∷ said (notes.Sent 6 0 0 1 (status_packet 0x01000000)) ∷ map said more))))

abbrev pub fetches_ahead : Note
fetches_ahead = notes.Sent 7 0 0 1 (fetch_packet 1 0x10000040)

-- ---- worked runs that end otherwise, by the laws that refuse them
-- carried
abbrev pub answer_otherwise : List Moment
answer_otherwise = instead 4 runs.capacity_told (notes.Taken 0 0 0 kinds.Good (quad_bytes (1 ∷ 512 ∷ [])) ∷ [])

abbrev pub other_data : List Moment
other_data = instead 8 runs.table_told (notes.Ran 0 (Some 0) (Some 0) 0 runs.write_block_0 (replicate 512 0xbb) None ∷ [])

-- cause
abbrev pub agent_reset_cuts_not : List Moment
agent_reset_cuts_not = instead 6 runs.agent_reset_told []

abbrev pub agent_reset_drops_not : List Moment
agent_reset_drops_not = instead 3 runs.agent_reset_told (notes.Op 0 operations.AgentReset words.Done ∷ [])

abbrev pub operation_ends_otherwise : List Moment
operation_ends_otherwise = instead 2 runs.agent_reset_told (notes.Op 0 operations.AgentReset words.Error ∷ [])

abbrev pub aborted_left_out : List Moment
aborted_left_out = instead 8 runs.abort_told []

abbrev pub aborted_left_out_behind_sight : List Moment
aborted_left_out_behind_sight = instead 8 runs.abort_behind_sight []

-- login
abbrev pub left_left_out : List Moment
left_left_out = instead 8 runs.logout_told (notes.Managed 0 functions.Logout 1 0 None ∷ [])

abbrev pub left_unasked : List Moment
left_unasked = instead 7 runs.logout_told (notes.Left 2 ∷ notes.Managed 0 functions.Logout 1 0 None ∷ [])

abbrev pub back_left_out : List Moment
back_left_out = instead 8 runs.reconnect_told (notes.Managed 0 functions.Reconnect 1 0 None ∷ [])

abbrev pub other_function : List Moment
other_function = instead 7 runs.logout_told (notes.Managed 0 functions.AbortSet 1 0 None ∷ [])

-- sent
abbrev pub other_table : List Moment
other_table = instead 18 runs.table_told (notes.Sent 6 0 1 0 (canon (read_block_response (to_target 0) 0 (quad_bytes (0x01000000 ∷ 0x11000000 ∷ 0x01000000 ∷ 0x11000100 ∷ [])))) ∷ [])

abbrev pub other_data_served : List Moment
other_data_served = instead 14 runs.table_told (notes.Sent 8 0 1 0 (canon (read_block_response (to_target 0) 0 (replicate 256 0xbb))) ∷ [])

abbrev pub chunk_elsewhere : List Moment
chunk_elsewhere = instead 16 runs.table_told (notes.Sent 7 0 0 1 (canon (read_block (to_first 0) 0x11000100 256)) ∷ [])

abbrev pub chunk_too_long : List Moment
chunk_too_long = instead 16 runs.table_told (notes.Sent 7 0 0 1 (canon (read_block (to_first 0) 0x11000000 512)) ∷ [])

abbrev pub other_management_orb : List Moment
other_management_orb = instead 10 runs.logout_told (notes.Sent 4 0 1 0 (canon (read_block_response (to_target 0) 0 (management_bytes (rare.orb_of 3)))) ∷ [])

abbrev pub management_status_elsewhere : List Moment
management_status_elsewhere = instead 6 runs.logout_told (notes.Sent 5 0 0 1 (canon (write_block (to_first 0) 0x12002000 (quad_bytes (0x01000000 ∷ 0x12000020 ∷ [])))) ∷ [])

abbrev pub status_unasked : List Moment
status_unasked = instead 0 (told (till_pointer ++ (points_agent ++ said (notes.Got 2) ∷ []))) (notes.Sent 4 0 0 1 (status_packet 0x41000000) ∷ [])

-- media
abbrev pub told_left_out : List Moment
told_left_out = instead 5 runs.load_told []

-- ---- a chunk of an answer that its medium tells, with other bytes
abbrev pub chunk_otherwise : List Moment
chunk_otherwise =
    told (till_capacity ++ said (notes.Got 4) ∷ said (notes.Ran 0 (Some 0) (Some 0) 0 capacity_block [] None)
    ∷ said (notes.Sent 5 0 0 1 (canon (write_block (to_first 0) 0x11000000 (quad_bytes (0 ∷ 0xdeadbeef ∷ []))))) ∷ [])

-- ---- a second write of ORB_POINTER while the agent is ACTIVE, and its answer
abbrev pub points_again : (rcode : ℕ) → List Moment
points_again rcode =
    told (till_pointer ++ (points_agent ++ said (notes.Got 2)
    ∷ said (notes.Sent 4 0 1 0 (canon (write_block (to_target 1) 0xfffff0040008 (quad_bytes (0 ∷ 0x10000000 ∷ [])))))
    ∷ said (notes.Got 4) ∷ said (notes.Sent 5 0 0 1 (done_by_target 1 rcode)) ∷ []))

-- ---- a good ORB makes the agent dead; and a login fails though its ORB came
abbrev pub good_orb_dies : List Note
good_orb_dies = notes.Dead 0 (Some 0) causes.Grammar ∷ notes.Ended 0 (Some 0) (Some 0) (kinds.Illegal 0xff) ∷ []

abbrev pub good_login_fails : List Note
good_login_fails = notes.ManageFailed 0 causes.Grammar ∷ []

abbrev pub login_read : List Moment
login_read = starts_login ++ asked 4 (events.Deliver 3) ∷ said (notes.Got 3) ∷ said (notes.Sent 4 0 1 0 (canon (read_block_response (to_target 0) 0 (management_bytes login_orb)))) ∷ []

-- ---- initiator 0 injects a read of the target's ROM: behind the answer the target sends more to initiator 1, or not
abbrev pub rom_read : List ℕ
rom_read = canon (read_quadlet (to_target 0) 0xfffff0000400)

abbrev pub wild_reads : List Entry
wild_reads = entry 2 (events.Inject 0 rom_read) (notes.Injected 1 ∷ notes.Sent 1 0 1 0 rom_read ∷ []) ∷ entry 1 (events.Begin 2 true) (notes.Begin 2 true ∷ []) ∷ []

abbrev pub target_answers : Note
target_answers = notes.Sent 2 0 0 1 (canon (read_quadlet_response (to_first 0) 0 (slice_index_or (made 0x0200000000000010 1) 0 0)))

abbrev pub target_sends : List Note → Run
target_sends more = record { start = untold_disk; entries = entry 3 (events.Deliver 1) (notes.Got 1 ∷ target_answers ∷ more) ∷ wild_reads }

abbrev pub reads_the_other : Note
reads_the_other = notes.Sent 3 0 0 2 (canon (read_block (to_second 0) 0x11000000 512))

abbrev pub tells_the_other : Note
tells_the_other = notes.Sent 3 0 0 2 (canon (write_block (to_second 0) 0x13000000 (quad_bytes (0x41000000 ∷ 0x10000000 ∷ []))))

-- it then appends: its request is left out, or sent once or twice
abbrev pub wild_appends : List Note → Run
wild_appends requests = record {
  start = untold_disk;
  entries = entry 3 (events.Act 0 (actions.Append test_ready)) (notes.Append 0 0 0 ready_block Nothing ∷ notes.Rung 0 0 0 ∷ requests) ∷ wild_reads;
}

abbrev pub first_request : Note
first_request = notes.Sent 2 0 1 0 pointer_packet

-- a run of the one that injected is told though none is due
abbrev pub wild_runs : Run
wild_runs = record {
  start = untold_disk;
  entries = entry 3 (events.Deliver 1) (notes.Got 1 ∷ notes.Ran 0 None None 0 ready_block [] None ∷ target_answers ∷ []) ∷ wild_reads;
}

-- the ORB of one that injected comes, and its command ends so
abbrev pub wild_ends : Option Sense → List Moment
wild_ends check =
    told (till_orb ++ asked 5 (events.Inject 0 rom_read) ∷ said (notes.Injected 5) ∷ said (notes.Sent 5 0 1 0 rom_read)
    ∷ asked 6 (events.Deliver 4) ∷ said (notes.Got 4) ∷ ran check ∷ [])

-- the ORB of initiator 0 comes, and a run of an initiator is told, with a check; the status block of an ORB that ended so
abbrev pub checks : (i : ℕ) → List Moment
checks i = told (till_orb ++ said (notes.Got 4) ∷ said (notes.Ran i (Some 0) (Some 0) 0 ready_block [] (Some no_command)) ∷ [])

abbrev pub checked_block : List ℕ
checked_block = status_bytes (record { src = 1; kind = kinds.Check no_command; orb = 0x10000000 })

-- ---- own words: the read of an ORB times out; an ORB that another one is linked behind comes, and ends with a status block of this head; an ORB
-- ends with another block
abbrev pub fetch_expires : List Moment
fetch_expires = told (till_pointer ++ (points_agent ++ asked 4 (events.Timeout 3) ∷ []))

abbrev pub fails_with : List Note → List Note
fails_with more = rare.dies_of causes.Timeout kinds.Failed ++ more

abbrev pub fails_alone : List Note
fails_alone = notes.Ended 0 (Some 0) (Some 0) kinds.Failed ∷ []

abbrev pub failed_status : (src : ℕ) → Note
failed_status src = notes.Sent 4 0 0 1 (canon (write_block (to_first 1) 0x13000000 (status_bytes (record { src = src; kind = kinds.Failed; orb = 0x10000000 }))))

abbrev pub linked_comes : List Moment
linked_comes =
    told (begins ++ (appends_first ++ (links_second
    ++ said (notes.Got 1) ∷ said (notes.Sent 3 0 0 1 (done_by_target 0 0)) ∷ said (notes.Sent 4 0 0 1 (fetch_packet 0 0x10000000))
    ∷ asked 5 (events.Deliver 4) ∷ said (notes.Got 4) ∷ said (notes.Sent 5 0 1 0 (orb_packet 0 0 0x10000040)) ∷ asked 6 (events.Deliver 5) ∷ [])))

abbrev pub runs_and_ends : List Note
runs_and_ends = notes.Ran 0 (Some 0) (Some 0) 0 ready_block [] None ∷ notes.Ended 0 (Some 0) (Some 0) kinds.Good ∷ []

abbrev pub ends_linked : (head : ℕ) → List Note
ends_linked head = runs_and_ends ++ notes.Sent 6 0 0 1 (status_packet head) ∷ fetches_ahead ∷ []

abbrev pub ends_by : List ℕ → List Note
ends_by bytes = runs_and_ends ++ notes.Sent 5 0 0 1 bytes ∷ []

-- a login's response, or the status block behind it, is left out; and a query, which is answered with a login of this ID
abbrev pub response_left_out : List Moment
response_left_out = instead 1 (journals.responds 0xfffff0040000) []

abbrev pub block_left_out : List Moment
block_left_out = instead 6 runs.login_told []

abbrev pub query_orb : ManagementOrb
query_orb = record login_orb { function = 1; response_length = 100 }

abbrev pub query_comes : List Moment
query_comes =
    told (begins ++ asked 2 (events.Act 0 (actions.Query 0)) ∷ said (notes.Sent 1 0 1 0 (canon (write_block (to_target 0) 0xfffff0010000 (quad_bytes (0 ∷ 0x12000000 ∷ [])))))
    ∷ asked 3 events.Settle ∷ said (notes.Got 1) ∷ said (notes.Sent 2 0 0 1 (done_by_target 0 0)) ∷ said (notes.Sent 3 0 0 1 (fetch_packet 0 0x12000000))
    ∷ said (notes.Got 2) ∷ said (notes.Got 3) ∷ said (notes.Sent 4 0 1 0 (canon (read_block_response (to_target 0) 0 (management_bytes query_orb)))) ∷ [])

abbrev pub answers_query : (id : ℕ) → List Note
answers_query id =
    notes.Managed 0 functions.Query 0 0 None
    ∷ notes.Sent 5 0 0 1 (canon (write_block (to_first 0) 0x12001000 (query_bytes (record { node = first_id; login = id; eui = eui_of 0 } ∷ [])))) ∷ []

-- a next pointer is read again, and is null; a DOORBELL comes before it does, or none
abbrev pub rereads : List Moment → List Moment
rereads between =
    told (rings_suspended ++ (said (notes.Sent 9 0 0 1 (canon (read_block (to_first 0) 0x10000000 8))) ∷ between
    ++ (asked 8 (events.Deliver 9) ∷ said (notes.Got 9) ∷ said (notes.Sent 12 0 1 0 (canon (read_block_response (to_target 0) 0 (quad_bytes (0x80000000 ∷ 0 ∷ [])))))
    ∷ asked 9 (events.Deliver 12) ∷ said (notes.Got 12) ∷ [])))

abbrev pub rings_again : List Moment
rings_again =
    asked 6 (events.Act 0 actions.Ring) ∷ said (notes.Rung 0 0 0) ∷ said (notes.Sent 10 0 1 0 (canon (write_quadlet (to_target 1) 0xfffff0040010 2)))
    ∷ asked 7 (events.Deliver 10) ∷ said (notes.Got 10) ∷ said (notes.Sent 11 0 0 1 (done_by_target 1 0)) ∷ []

-- an unsolicited status is sent, of which no note tells
abbrev pub tells_unannounced : List Moment
tells_unannounced = told (two_begin ++ said (notes.Sent 1 0 0 2 (canon (write_block (to_second 0) 0x13000000 block))) ∷ [])
