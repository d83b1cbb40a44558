-- The writes of ORB_POINTER of an initiator, of every run (NCITS 325-1998, ORB_POINTER): each is a block write of the 8 bytes of a pointer, to the
-- first ORB of a list of that initiator, as the run stands now too. The list was the present one as it was written, and none is written for it
-- twice; of two such writes the later one is of the later list. While a write was not judged, in the generation that its initiator still is in,
-- its list is the present one, whatever became of the session, and none that ends lists is under way; and before it was judged no later list begins but in
-- a later generation.
use Rattle.std.specs.Prelude.{◌≡◌, ◌<◌, ℕ, suc, ◌==◌, if◌then◌else◌, Bool, true, false, List, [], ◌∷◌, ◌++◌, map, Option, Some, None}
use Rattle.byteorder.specs.Endian.{big_bytes}
use Rattle.bus_memory.specs.declared.window.Window.TheVariants as windows
use Rattle.bus_memory.specs.Windows.{start}
use Rattle.orb_layout.specs.declared.pointer.OrbPointer.TheVariants.{At}
use Rattle.orb_layout.specs.Pointers.{pointer_at}
use Rattle.rbc_disk.specs.Runs.{Told}
use Rattle.sbp_base.specs.Update.{upd2}
use Rattle.sbp_journal.specs.Addresses.{Access}
use Rattle.sbp_journal.specs.Run.{Moment, asked, said}
use Rattle.sbp_journal.specs.Transactions.{Sending}
use Rattle.sbp_journal.specs.Wire.{terms}
use Rattle.sbp_journal.specs.declared.event.Action.{Action}
use Rattle.sbp_journal.specs.declared.event.Action.TheVariants as actions
use Rattle.sbp_journal.specs.declared.note.Note.TheVariants as notes
use Rattle.sbp_laws.specs.Hosts.{host_at, is_serial, operation_of}
use Rattle.sbp_laws.specs.Lawful.{injectors}
use Rattle.sbp_laws.specs.Lists.{linked, present_list, slot_at}
use Rattle.sbp_laws.specs.Packets.{access_in_bytes}
use Rattle.sbp_laws.specs.Terms.{lists}
use Rattle.sbp_laws.specs.Turns.{EachMoment}
use Rattle.sbp_world.specs.Histories.{history_of}
use Rattle.sbp_world.specs.Runs.{Run, after, beginning}
use Rattle.sbp_world.specs.Settling.{MayAll, after_all}
use Rattle.sbp_world.specs.Worlds.{begun}
use Rattle.sbp_world.specs.Hosts.Runs.{IsRun, more_deliveries}
use Rattle.sbp_world.specs.Pointers.Moments.{MayAsk, MayStand, asked_in, is_cutting, managed_write, manages, pointer_write, register_write}

-- ---- the list for which an initiator wrote ORB_POINTER by a packet: the one that was present as its host came to name this packet

abbrev pub list_if : Bool → Option ℕ → Option ℕ
list_if true list = list
list_if false list = None

abbrev pub pointed_list : List Moment → (serial i : ℕ) → Option ℕ
pointed_list [] = λ serial i. None
pointed_list (said (notes.Sent serial generation (suc i) to bytes) ∷ past) =
    upd2 (pointed_list past) serial i (list_if (is_serial (host_at (said (notes.Sent serial generation (suc i) to bytes) ∷ past) i).pointer serial) (present_list past i))
pointed_list (_ ∷ past) = pointed_list past

-- the generation that an initiator was in as a list of it began
abbrev pub begun_in : List Moment → (i n : ℕ) → ℕ
begun_in [] = λ i n. 0
begun_in (said (notes.Append i n k cdb buffer) ∷ past) = if k == 0 then upd2 (begun_in past) i n ((terms past).generation (suc i)) else begun_in past
begun_in (_ ∷ past) = begun_in past

-- ---- what such a write is

-- The packet, and what it asks for: at the agent of a base, it points to the first ORB of the list, as a pointer is read.
pub record IsPointer (past : List Moment) (i n serial : ℕ) : Type 0 where
  pub packet : Sending
  pub sent : (terms past).sent serial ≡ Some packet
  pub from_is : packet.from ≡ suc i
  pub to_is : packet.to ≡ 0
  pub honest : packet.injected ≡ false
  pub base : ℕ
  pub spelled : access_in_bytes packet.bytes ≡ Some (pointer_write base (start (windows.Orb (slot_at past i n 0))))
  pub slot : slot_at past i n 0 < 32
  pub points : pointer_at (big_bytes 8 (start (windows.Orb (slot_at past i n 0)))) 0 ≡ At (start (windows.Orb (slot_at past i n 0)))
  pub begun : n < lists past i
  pub one : 0 < linked past i n

-- What a write is, by its packet: that of ORB_POINTER for a list; or of DOORBELL, AGENT_RESET or UNSOLICITED_STATUS_ENABLE, a quadlet; or of the address
-- of a management ORB, in the line of an action that has one.
pub data IsWrite (past : List Moment) (i serial : ℕ) (access : Access) : Type 0 where
  of_pointer : (n : ℕ) → pointed_list past serial i ≡ Some n → IsWrite past i serial access
  of_bell : (base : ℕ) → access ≡ register_write base 0x10 → IsWrite past i serial access
  of_reset : (base : ℕ) → asked_in past serial i ≡ Some actions.AgentReset → access ≡ register_write base 0x04 → IsWrite past i serial access
  of_enable : (base : ℕ) → access ≡ register_write base 0x14 → IsWrite past i serial access
  of_management : (action : Action) → asked_in past serial i ≡ Some action → manages (operation_of action) ≡ true → (offset place : ℕ) → access ≡ managed_write offset place → IsWrite past i serial access

-- the list of a write is the present one, and no operation that ends it is under way
pub record IsPointing (past : List Moment) (i n serial : ℕ) : Type 0 where
  pub present : present_list past i ≡ Some n
  pub named : (host_at past i).pointer ≡ Some serial
  pub uncut : is_cutting past i ≡ false

-- the write that the host of an initiator names is one, for the present list
pub record IsNamed (past : List Moment) (i serial : ℕ) : Type 0 where
  pub list : ℕ
  pub present : present_list past i ≡ Some list
  pub is : pointed_list past serial i ≡ Some list

pub record PointersAt (past : List Moment) (i : ℕ) : Type 0 where
  pub each : (n serial : ℕ) → pointed_list past serial i ≡ Some n → IsPointer past i n serial
  pub once : (n serial other : ℕ) → pointed_list past serial i ≡ Some n → pointed_list past other i ≡ Some n → serial ≡ other
  pub order : (n m serial other : ℕ) → pointed_list past serial i ≡ Some n → pointed_list past other i ≡ Some m → serial < other → n < m
  pub named : (serial : ℕ) → (host_at past i).pointer ≡ Some serial → IsNamed past i serial
  pub latest : (n : ℕ) → present_list past i ≡ Some n → suc n ≡ lists past i
  pub writes : (serial : ℕ) (packet : Sending) → (terms past).sent serial ≡ Some packet → packet.from ≡ suc i → packet.injected ≡ false → (access : Access) → access_in_bytes packet.bytes ≡ Some access → access.is_write ≡ true → IsWrite past i serial access
  pub waits : injectors past i ≡ false → (n serial : ℕ) (packet : Sending) → pointed_list past serial i ≡ Some n → (terms past).sent serial ≡ Some packet → packet.generation ≡ (terms past).generation (suc i) → (terms past).news serial ≡ 0 → IsPointing past i n serial
  pub later : injectors past i ≡ false → (n serial : ℕ) (packet : Sending) → pointed_list past serial i ≡ Some n → (terms past).sent serial ≡ Some packet → (terms past).news serial ≡ 0 → (m : ℕ) → n < m → m < lists past i → packet.generation < begun_in past i m

-- After each line, and behind each delivery of a line that delivers one packet after the other.
pub record PointersLaw : Type 0 where
  pub after_lines : (line : ℕ) (run : Run) → IsRun run → (i : ℕ) → i < run.initiators → PointersAt (history_of line run) i
  pub between : (line : ℕ) (run : Run) → IsRun run → (next : ℕ) (most : Option ℕ) (told : List (Option Told)) → MayAll told (begun (after (beginning run) run.entries)) → (i : ℕ) → i < run.initiators → (let w = (after_all told (begun (after (beginning run) run.entries))).world in PointersAt (map said w.fresh ++ asked next (more_deliveries most) ∷ history_of line run) i)

-- ---- the moments of a run

pub record MomentsLaw : Type 0 where
  pub after_lines : (line : ℕ) (run : Run) → IsRun run → (i : ℕ) → i < run.initiators → EachMoment (MayStand i) (history_of line run)
  pub between : (line : ℕ) (run : Run) → IsRun run → (next : ℕ) (most : Option ℕ) (told : List (Option Told)) → MayAll told (begun (after (beginning run) run.entries)) → (i : ℕ) → i < run.initiators → (let w = (after_all told (begun (after (beginning run) run.entries))).world in EachMoment (MayStand i) (map said w.fresh ++ asked next (more_deliveries most) ∷ history_of line run))

-- each write of an initiator is asked for in the line of an action of it, and is what that action writes
pub record WritesLaw : Type 0 where
  pub after_lines : (line : ℕ) (run : Run) → IsRun run → (i : ℕ) → i < run.initiators → EachMoment (MayAsk i) (history_of line run)
  pub between : (line : ℕ) (run : Run) → IsRun run → (next : ℕ) (most : Option ℕ) (told : List (Option Told)) → MayAll told (begun (after (beginning run) run.entries)) → (i : ℕ) → i < run.initiators → (let w = (after_all told (begun (after (beginning run) run.entries))).world in EachMoment (MayAsk i) (map said w.fresh ++ asked next (more_deliveries most) ∷ history_of line run))
