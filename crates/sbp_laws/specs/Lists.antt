-- The lists of an initiator, read off the lines and the notes: the present one, what each of its ORBs asks for, how far it is linked, and
-- the slots that its ORBs stand in.
use Rattle.std.specs.Prelude.{ℕ, zero, suc, ◌==◌, ◌&&◌, ◌||◌, not, nat_lt, Bool, true, false, if◌then◌else◌, List, [], ◌∷◌, map, max, replicate, slice_set, Option, Some, None}
use Rattle.sbp_base.specs.Update.{upd, upd2, upd3}
use Rattle.orb_layout.specs.declared.status.StatusKind.{StatusKind}
use Rattle.orb_layout.specs.StatusBlocks.{row_of, src_of}
use Rattle.bus_memory.specs.Windows.{slot_of}
use Rattle.sbp_journal.specs.Run.{Moment, asked, said}
use Rattle.sbp_journal.specs.Addresses.{Access}
use Rattle.sbp_journal.specs.Wire.{terms}
use Rattle.sbp_journal.specs.declared.event.Cmd.{Cmd}
use Rattle.sbp_journal.specs.declared.event.Event.{Event}
use Rattle.sbp_journal.specs.declared.event.Event.TheVariants as events
use Rattle.sbp_journal.specs.declared.event.Action.TheVariants as actions
use Rattle.sbp_journal.specs.declared.operation.Operation.TheVariants as operations
use Rattle.sbp_journal.specs.declared.note.Note.{Note}
use Rattle.sbp_journal.specs.declared.note.Note.TheVariants as notes
use Rattle.sbp_laws.specs.Terms.{appends}
use Rattle.sbp_laws.specs.Turns.{event_of}
use Rattle.sbp_laws.specs.Packets.{access_at}

-- an ORB of an initiator: its list and its number there
pub record Orb : Type 0 where
  pub list : ℕ
  pub number : ℕ

abbrev pub orb : ℕ → ℕ → Orb
orb list number = record { list = list; number = number }

abbrev pub is_orb : Orb → ℕ → ℕ → Bool
is_orb one list number = (one.list == list) && (one.number == number)

-- the present list of an initiator: the latest one that it began and did not drop
abbrev pub present_list : List Moment → ℕ → Option ℕ
present_list [] = λ i. None
present_list (said (notes.Append i n k cdb buffer) ∷ past) = upd (present_list past) i (Some n)
present_list (said (notes.Drop i n) ∷ past) = upd (present_list past) i None
present_list (_ ∷ past) = present_list past

abbrev pub is_list : Option ℕ → ℕ → Bool
is_list None n = false
is_list (Some list) n = list == n

-- the CMD of a line
abbrev pub cmd_of : Option Event → Option Cmd
cmd_of (Some (events.Act i (actions.Put cmd))) = Some cmd
cmd_of (Some (events.Act i (actions.Append cmd))) = Some cmd
cmd_of _ = None

-- the CMD of an ORB's line
abbrev pub command_at : List Moment → ℕ → ℕ → ℕ → Option Cmd
command_at [] = λ i n k. None
command_at (said (notes.Append i n k cdb buffer) ∷ past) = upd3 (command_at past) i n k (cmd_of (event_of past))
command_at (_ ∷ past) = command_at past

-- How many ORBs of a list are linked: its first one counts as linked from its append on, each other one from its `linked`.
abbrev pub linked : List Moment → ℕ → ℕ → ℕ
linked [] = λ i n. 0
linked (said (notes.Append i n zero cdb buffer) ∷ past) = upd2 (linked past) i n 1
linked (said (notes.Linked i n k) ∷ past) = upd2 (linked past) i n (suc k)
linked (_ ∷ past) = linked past

-- the ORB of a list whose low quadlet was written last
abbrev pub lowered : List Moment → ℕ → ℕ → ℕ
lowered [] = λ i n. 0
lowered (said (notes.Low i n k) ∷ past) = upd2 (lowered past) i n k
lowered (_ ∷ past) = lowered past

-- an ORB was made a dummy
abbrev pub is_dummy : List Moment → ℕ → ℕ → ℕ → Bool
is_dummy [] = λ i n k. false
is_dummy (said (notes.Dummied i n k) ∷ past) = upd3 (is_dummy past) i n k true
is_dummy (_ ∷ past) = is_dummy past

-- ---- statuses
-- the packet that was got last
abbrev pub last_got : List Moment → ℕ
last_got [] = 0
last_got (said (notes.Got serial) ∷ past) = serial
last_got (_ ∷ past) = last_got past

abbrev pub src_in : Option Access → ℕ
src_in None = 0
src_in (Some access) = src_of access.payload

-- a status that was taken, with the src of the block that was got
pub record TakenStatus : Type 0 where
  pub status : StatusKind
  pub src : ℕ

abbrev pub taken_at : List Moment → ℕ → ℕ → ℕ → Option TakenStatus
taken_at [] = λ i n k. None
taken_at (said (notes.Taken i n k status answer) ∷ past) = upd3 (taken_at past) i n k (Some (record { status = status; src = src_in (access_at (terms past) (last_got past)) }))
taken_at (_ ∷ past) = taken_at past

-- the status of a later ORB of the list was taken: the number of the highest one whose status was, counted from 1
abbrev pub passed : List Moment → ℕ → ℕ → ℕ
passed [] = λ i n. 0
passed (said (notes.Taken i n k status answer) ∷ past) = upd2 (passed past) i n (max (passed past i n) (suc k))
passed (_ ∷ past) = passed past

-- an ORB waits: it is of the present list, was appended, and no status of it was taken
abbrev pub is_none_taken : Option TakenStatus → Bool
is_none_taken None = true
is_none_taken (Some taken) = false

abbrev pub waits_in : List Moment → ℕ → ℕ → ℕ → Bool
waits_in past i n k = is_list (present_list past i) n && nat_lt k (appends past i n) && is_none_taken (taken_at past i n k)

-- ---- slots
-- the ORB whose slot an abort pins: from the abort's line to the `op` of that abort, or a later generation that its initiator sees
abbrev pub pins : Option Event → ℕ → Option ℕ → Option Orb → Option Orb
pins (Some (events.Act i (actions.Abort k))) j (Some n) pinned = if i == j then Some (orb n k) else pinned
pins event j present pinned = pinned

abbrev pub pinned_orb : List Moment → ℕ → Option Orb
pinned_orb [] = λ i. None
pinned_orb (said (notes.Sent serial generation (suc i) to bytes) ∷ past) = upd (pinned_orb past) i (pins (event_of past) i (present_list past i) (pinned_orb past i))
pinned_orb (said (notes.Op i operations.Abort word) ∷ past) = upd (pinned_orb past) i None
pinned_orb (said (notes.Seen (suc i) generation) ∷ past) =
    upd (pinned_orb past) i (if generation == (terms past).generation (suc i) then pinned_orb past i else None)
pinned_orb (_ ∷ past) = pinned_orb past

abbrev pub is_pinned : Option Orb → ℕ → ℕ → Bool
is_pinned None n k = false
is_pinned (Some one) n k = is_orb one n k

-- An ORB is over: its status was taken with resp 0, the ORB after it is linked, its src was 0 or the status of a later ORB of its list was
-- taken, and no abort of it is under way.
abbrev pub is_over_by : Option TakenStatus → (linked passed k : ℕ) → (pinned : Bool) → Bool
is_over_by None linked passed k pinned = false
is_over_by (Some taken) linked passed k pinned =
    ((row_of taken.status).resp == 0) && nat_lt (suc k) linked && ((taken.src == 0) || nat_lt (suc k) passed) && not pinned

abbrev pub is_over : List Moment → ℕ → Orb → Bool
is_over past i one =
    is_over_by (taken_at past i one.list one.number) (linked past i one.list) (passed past i one.list) one.number (is_pinned (pinned_orb past i) one.list one.number)

pub data SlotState : Type 0 where
  vacant : SlotState
  used : Orb → SlotState
  resting : SlotState

-- the slots of an initiator, 32 of them
abbrev pub new_slots : List SlotState
new_slots = replicate 32 vacant

abbrev pub is_vacant : SlotState → Bool
is_vacant vacant = true
is_vacant (used one) = false
is_vacant resting = false

-- the lowest free slot; 32 where none is
abbrev pub lowest_vacant : List SlotState → ℕ
lowest_vacant [] = 0
lowest_vacant (slot ∷ slots) = if is_vacant slot then 0 else suc (lowest_vacant slots)

-- a slot is free as soon as its ORB is over
abbrev pub freed : List Moment → ℕ → SlotState → SlotState
freed past i (used one) = if is_over past i one then vacant else used one
freed past i vacant = vacant
freed past i resting = resting

-- a slot that is not free rests
abbrev pub put_to_rest : SlotState → SlotState
put_to_rest vacant = vacant
put_to_rest (used one) = resting
put_to_rest resting = resting

-- the slot of an ORB rests where its status has another resp than 0
abbrev pub rests_at : (n k : ℕ) → SlotState → SlotState
rests_at n k (used one) = if is_orb one n k then resting else used one
rests_at n k vacant = vacant
rests_at n k resting = resting

-- what a note makes of the slots of an initiator
abbrev pub slots_by : Note → List Moment → ℕ → List SlotState → List SlotState
slots_by (notes.Append j n k cdb buffer) past i slots = if j == i then slice_set slots (lowest_vacant slots) (used (orb n k)) else slots
slots_by (notes.Taken j n k status answer) past i slots = if (j == i) && not ((row_of status).resp == 0) then map (rests_at n k) slots else slots
slots_by (notes.Drop j n) past i slots = if j == i then map put_to_rest slots else slots
slots_by (notes.Seen node generation) past i slots =
    if (node == suc i) && not (generation == (terms past).generation node) then new_slots else slots
slots_by _ past i slots = slots

abbrev pub slots : List Moment → ℕ → List SlotState
slots [] i = new_slots
slots (asked line event ∷ past) i = slots past i
slots (said note ∷ past) i = map (freed (said note ∷ past) i) (slots_by note past i (slots past i))

-- the slot of an ORB: the lowest free one at its append
abbrev pub slot_at : List Moment → ℕ → ℕ → ℕ → ℕ
slot_at [] = λ i n k. 0
slot_at (said (notes.Append i n k cdb buffer) ∷ past) = upd3 (slot_at past) i n k (lowest_vacant (slots past i))
slot_at (_ ∷ past) = slot_at past

-- the ORB that was prepared last in a slot
abbrev pub prepared_in : List Moment → ℕ → ℕ → Option Orb
prepared_in [] = λ i slot. None
prepared_in (said (notes.Append i n k cdb buffer) ∷ past) = upd2 (prepared_in past) i (lowest_vacant (slots past i)) (Some (orb n k))
prepared_in (_ ∷ past) = prepared_in past

-- the ORB that an address names: the one that was prepared last in the slot that begins there
abbrev pub named_in : List Moment → ℕ → Option ℕ → Option Orb
named_in past i None = None
named_in past i (Some slot) = prepared_in past i slot

abbrev pub named : List Moment → ℕ → ℕ → Option Orb
named past i address = named_in past i (slot_of address)

abbrev pub list_in : Option Orb → Option ℕ
list_in None = None
list_in (Some one) = Some one.list

abbrev pub number_in : Option Orb → Option ℕ
number_in None = None
number_in (Some one) = Some one.number
