-- What the responses of an initiator bring, in every run (IEEE 1394-1995, split transactions; NCITS 325-1998, command block ORB, page tables and ORBs
-- in an initiator's memory). A response that was not injected tells bytes in answer to a block read. Then there is a moment before it, behind the
-- read, at which the initiator got the read; the response is the next packet behind that; the read was complete, and the bytes are those that the
-- initiator's memory had at that moment: an ORB, its next pointer, its page table, or its data. And what they say of an ORB is so of it for good, as its
-- list stands later: its command, its slot, and the ORB behind it, which is linked.
use Rattle.std.specs.Prelude.{◌≡◌, ◌<◌, ℕ, suc, ◌+◌, ◌*◌, Bool, true, false, if◌then◌else◌, List, ◌∷◌, ◌++◌, drop, length, map, take, Option, Some}
use Rattle.bus_memory.specs.declared.window.Window.TheVariants as windows
use Rattle.bus_memory.specs.Windows.{start, window_at}
use Rattle.orb_layout.specs.declared.command.CommandOrb.{CommandOrb}
use Rattle.orb_layout.specs.declared.pointer.OrbPointer.{OrbPointer}
use Rattle.orb_layout.specs.declared.pointer.OrbPointer.TheVariants.{Null, At}
use Rattle.orb_layout.specs.CommandOrbs.{command_orb}
use Rattle.orb_layout.specs.Pointers.{pointer_at}
use Rattle.orb_layout.specs.Replies.{Payload}
use Rattle.orb_list.specs.Layout.{has_table, table_bytes}
use Rattle.page_table.specs.Buffer.{addresses, buffer_addresses}
use Rattle.page_table.specs.Elements.{elements_of}
use Rattle.rbc_disk.specs.Runs.{Told}
use Rattle.sbp_journal.specs.Addresses.{Access}
use Rattle.sbp_journal.specs.Run.{Moment, asked, said}
use Rattle.sbp_journal.specs.Transactions.{Sending}
use Rattle.sbp_journal.specs.Wire.{terms}
use Rattle.sbp_journal.specs.declared.event.Cmd.{Cmd}
use Rattle.sbp_journal.specs.declared.event.Event.{Event}
use Rattle.sbp_journal.specs.declared.note.Note.TheVariants as notes
use Rattle.sbp_initiator.specs.Commands.{IsCommand}
use Rattle.sbp_laws.specs.CarriedBytes.{IsRead, address_of, before_sent, laid_out}
use Rattle.sbp_laws.specs.CarriedLaw.{IsAsAppended}
use Rattle.sbp_laws.specs.Lawful.{injectors}
use Rattle.sbp_laws.specs.Lists.{Orb, command_at, is_dummy, linked, orb, prepared_in, slot_at}
use Rattle.sbp_laws.specs.Packets.{access_at, answer_in, packet_at, receiver_in}
use Rattle.sbp_laws.specs.Served.{host_reply}
use Rattle.sbp_laws.specs.Terms.{appends, request_at}
use Rattle.sbp_world.specs.Histories.{history_of}
use Rattle.sbp_world.specs.Runs.{Run, after, beginning}
use Rattle.sbp_world.specs.Settling.{MayAll, after_all}
use Rattle.sbp_world.specs.Worlds.{begun}
use Rattle.sbp_world.specs.Hosts.Answering.{IsDelivering}
use Rattle.sbp_world.specs.Hosts.Lasting.{Lasts}
use Rattle.sbp_world.specs.Hosts.Orbs.{next_of, orb_for, request_of}
use Rattle.sbp_world.specs.Hosts.Reads.{IsSaid}
use Rattle.sbp_world.specs.Hosts.Responses.{CarriesOrb}
use Rattle.sbp_world.specs.Hosts.Runs.{IsRun}

-- Packet `response` tells these bytes in answer to packet `request`, a read of a block of initiator i.
pub record IsResponse (past : List Moment) (i response request : ℕ) (access : Access) (bytes : List ℕ) : Type 0 where
  pub own : (packet : Sending) → (terms past).sent response ≡ Some packet → packet.injected ≡ false
  pub answers : (terms past).answers response ≡ Some request
  pub of_initiator : receiver_in ((terms past).sent request) ≡ Some (suc i)
  pub asks : access_at (terms past) request ≡ Some access
  pub reads : access.is_write ≡ false
  pub block : access.is_block ≡ true
  pub tells : answer_in (packet_at (terms past) response) ≡ Payload bytes

-- ---- as the memory was

-- the bytes of the ORB that was prepared last in a slot
pub record HoldsOrb (before : List Moment) (i slot : ℕ) (bytes : List ℕ) : Type 0 where
  pub one : Orb
  pub prepared : prepared_in before i slot ≡ Some one
  pub carries : CarriesOrb before i slot one bytes

-- the bytes of its next pointer
pub record HoldsPointer (before : List Moment) (i slot : ℕ) (bytes : List ℕ) : Type 0 where
  pub one : Orb
  pub prepared : prepared_in before i slot ≡ Some one
  pub next : pointer_at bytes 0 ≡ next_of before i one.list one.number

-- the bytes of a page table, which are read as the buffer that is laid out for the command
pub record HoldsTable (slot : ℕ) (cmd : Cmd) (bytes : List ℕ) : Type 0 where
  pub is : bytes ≡ table_bytes slot 0 cmd.segments
  pub laid : has_table cmd.segments ≡ true → elements_of bytes ≡ laid_out slot cmd cmd.segments

-- a read is of so many bytes that follow each other in the buffer of a command, by its segments, from a place on
abbrev pub Follows : Access → (slot : ℕ) → Cmd → (at : ℕ) → Type 0
Follows access slot cmd at = addresses access.offset access.count ≡ take access.count (drop at (buffer_addresses (laid_out slot cmd cmd.segments)))

-- A read is complete, and its bytes are those that the run terms give: an ORB, its next pointer, its whole page table, or its data.
pub record IsServed (before : List Moment) (i : ℕ) (access : Access) (bytes : List ℕ) : Type 0 where
  pub complete : (host_reply before i access).rcode ≡ 0
  pub given : IsSaid before i access (window_at access.offset) → bytes ≡ (host_reply before i access).given
  pub orb : (slot : ℕ) → slot < 32 → IsRead access (start (windows.Orb slot)) 32 → HoldsOrb before i slot bytes
  pub pointer : (slot : ℕ) → slot < 32 → IsRead access (start (windows.Orb slot)) 8 → HoldsPointer before i slot bytes
  pub table : (slot : ℕ) (one : Orb) (cmd : Cmd) → slot < 32 → prepared_in before i slot ≡ Some one → command_at before i one.list one.number ≡ Some cmd → IsRead access (start (windows.Table slot)) (8 * length cmd.segments) → HoldsTable slot cmd bytes
  pub of_data : (slot : ℕ) (one : Orb) (cmd : Cmd) (at : ℕ) → slot < 32 → prepared_in before i slot ≡ Some one → command_at before i one.list one.number ≡ Some cmd → cmd.to_initiator ≡ false → Follows access slot cmd at → bytes ≡ take access.count (drop at cmd.payload)

-- ---- as the list is

-- An ORB is that of its command: all but its next pointer is as it was prepared, and it is a dummy only where it was made one.
pub record IsOwnOrb (past : List Moment) (i n k : ℕ) (own : CommandOrb) : Type 0 where
  pub cmd : Cmd
  pub fits : IsCommand cmd
  pub command : command_at past i n k ≡ Some cmd
  pub request : request_at past i n k ≡ Some (request_of cmd)
  pub node : ℕ
  pub dummy : Bool
  pub dummied : dummy ≡ true → is_dummy past i n k ≡ true
  pub own_is : own ≡ orb_for cmd node (slot_at past i n k) own.next (if dummy then 3 else 0)
  -- it has the command and the direction of its append
  pub as_appended : IsAsAppended own (request_of cmd)

-- a next pointer is null, or the address of the ORB behind, which is linked
abbrev pub LeadsOn : List Moment → (i n k : ℕ) → OrbPointer → Type 0
LeadsOn past i n k Null = Unit {0}
LeadsOn past i n k (At offset) = (offset ≡ address_of past i n (suc k)) × (suc k < linked past i n)

pub record IsOrbOf (past : List Moment) (i n k : ℕ) (bytes : List ℕ) : Type 0 where
  pub size : length bytes ≡ 32
  pub own : IsOwnOrb past i n k (command_orb bytes)
  pub leads : LeadsOn past i n k (command_orb bytes).next

-- what the bytes of a read are of the ORB of a list
pub record IsOfOrb (past : List Moment) (i n k : ℕ) (access : Access) (bytes : List ℕ) : Type 0 where
  pub orb : IsRead access (address_of past i n k) 32 → IsOrbOf past i n k bytes
  pub pointer : IsRead access (address_of past i n k) 8 → LeadsOn past i n k (pointer_at bytes 0)
  pub table : (cmd : Cmd) → command_at past i n k ≡ Some cmd → IsRead access (start (windows.Table (slot_at past i n k))) (8 * length cmd.segments) → HoldsTable (slot_at past i n k) cmd bytes
  pub of_data : (cmd : Cmd) (at : ℕ) → command_at past i n k ≡ Some cmd → cmd.to_initiator ≡ false → Follows access (slot_at past i n k) cmd at → bytes ≡ take access.count (drop at cmd.payload)

-- ---- both

pub record Brings (past : List Moment) (i response request : ℕ) (access : Access) (bytes : List ℕ) : Type 0 where
  -- the moment at which the read was got
  pub later : List Moment
  pub before : List Moment
  pub is : later ++ said (notes.Got request) ∷ before ≡ past
  -- the read was sent before it, and the response is the next packet behind it
  pub asked : (terms before).sent request ≡ (terms past).sent request
  pub next : response ≡ (terms before).count + 1
  pub served : IsServed before i access bytes
  -- what the history said of ORBs at that moment is so now
  pub lasts : Lasts before past i
  -- An ORB that is the one prepared last in its slot now, and that was appended before the read was sent, is the one whose bytes are brought.
  pub now : (n k slot : ℕ) → slot < 32 → prepared_in past i slot ≡ Some (orb n k) → k < appends (before_sent past request) i n → (slot_at past i n k ≡ slot) × IsOfOrb past i n k access bytes

abbrev pub AllBring : List Moment → ℕ → Type 0
AllBring past i = (response request : ℕ) (access : Access) (bytes : List ℕ) → IsResponse past i response request access bytes → Brings past i response request access bytes

-- no packet is injected of an initiator that injected none
abbrev pub NoneInjected : List Moment → ℕ → Type 0
NoneInjected past i = injectors past i ≡ false → (serial : ℕ) (packet : Sending) → (terms past).sent serial ≡ Some packet → packet.from ≡ suc i → packet.injected ≡ false

-- After each line of a run, and behind some deliveries of a line that delivers packets.
pub record CarriesLaw : Type 0 where
  pub carries : (line : ℕ) (run : Run) → IsRun run → (i : ℕ) → i < run.initiators → AllBring (history_of line run) i
  pub between : (line : ℕ) (run : Run) → IsRun run → (next : ℕ) (event : Event) (told : List (Option Told)) → IsDelivering event told → MayAll told (begun (after (beginning run) run.entries)) → (i : ℕ) → i < run.initiators → AllBring (map said (after_all told (begun (after (beginning run) run.entries))).world.fresh ++ asked next event ∷ history_of line run) i
  pub none_injected : (line : ℕ) (run : Run) → IsRun run → (i : ℕ) → i < run.initiators → NoneInjected (history_of line run) i
  pub none_injected_between : (line : ℕ) (run : Run) → IsRun run → (next : ℕ) (event : Event) (told : List (Option Told)) → IsDelivering event told → MayAll told (begun (after (beginning run) run.entries)) → (i : ℕ) → i < run.initiators → NoneInjected (map said (after_all told (begun (after (beginning run) run.entries))).world.fresh ++ asked next event ∷ history_of line run) i
