-- What the response to a read of an ORB carries, in every run (NCITS 325-1998, command block ORB and page tables). In a delivery at which an
-- initiator gets a block read that is complete, of a slot that an ORB was prepared in, the packet that is told behind what the initiator tells
-- is the next one, of this initiator. The payload of the response to a read of the 32 bytes of the slot's ORB spells that ORB as it stands before
-- this packet is sent: the command, the direction and the buffer of its append, and the next pointer and the format of that time. A read of the
-- 8 bytes of its next pointer carries that pointer, and a read of its whole page table that table. Where its data go to the target, a read of bytes
-- that follow each other in its buffer, by its segments, carries these data in their order.
use Rattle.std.specs.Prelude.{◌≡◌, ◌<◌, ℕ, suc, ◌+◌, ◌*◌, Bool, false, List, ◌∷◌, ◌++◌, length, map, take, drop, Option, Some}
use Rattle.std.specs.List.{AllByRecursion}
use Rattle.async_packet.specs.Reading.{reading}
use Rattle.bus_memory.specs.declared.window.Window.TheVariants as windows
use Rattle.bus_memory.specs.Windows.{start}
use Rattle.orb_layout.specs.CommandOrbs.{command_orb}
use Rattle.orb_layout.specs.Pointers.{pointer_at}
use Rattle.orb_list.specs.Layout.{table_bytes}
use Rattle.page_table.specs.Buffer.{addresses, buffer_addresses}
use Rattle.rbc_disk.specs.Runs.{Told}
use Rattle.sbp_journal.specs.Addresses.{Access}
use Rattle.sbp_journal.specs.Run.{Moment, asked, said}
use Rattle.sbp_journal.specs.Wire.{terms}
use Rattle.sbp_journal.specs.declared.event.Cmd.{Cmd}
use Rattle.sbp_journal.specs.declared.event.Event.{Event}
use Rattle.sbp_journal.specs.declared.note.Note.{Note}
use Rattle.sbp_journal.specs.declared.note.Note.TheVariants as notes
use Rattle.sbp_initiator.specs.Commands.{IsCommand}
use Rattle.sbp_laws.specs.CarriedBytes.{IsRead, before_sent, bytes_in, laid_out, payload_at}
use Rattle.sbp_laws.specs.CarriedLaw.{IsAsAppended}
use Rattle.sbp_laws.specs.Lists.{Orb, command_at, prepared_in, slot_at}
use Rattle.sbp_laws.specs.Packets.{answer_in, sender_in, spelled_by}
use Rattle.sbp_laws.specs.Served.{host_reply}
use Rattle.sbp_laws.specs.Terms.{request_at}
use Rattle.sbp_laws.specs.Turns.{is_sent}
use Rattle.sbp_world.specs.Delivering.{delivered}
use Rattle.sbp_world.specs.Histories.{history_of}
use Rattle.sbp_world.specs.Runs.{Run, after, beginning}
use Rattle.sbp_world.specs.Settling.{MayAll, after_all}
use Rattle.sbp_world.specs.Worlds.{begun}
use Rattle.sbp_world.specs.Hosts.Answering.{GetsRequest, IsDelivering}
use Rattle.sbp_world.specs.Hosts.Orbs.{format_of, next_of, orb_for, request_of}
use Rattle.sbp_world.specs.Hosts.Runs.{IsRun}

-- what the payload of a response is, by the bytes of its packet
abbrev pub payload_of : List ℕ → List ℕ
payload_of bytes = bytes_in (answer_in (spelled_by (reading bytes)))

-- Bytes spell the ORB in a slot, as it stands in a history.
pub record CarriesOrb (before : List Moment) (i slot : ℕ) (one : Orb) (payload : List ℕ) : Type 0 where
  pub size : length payload ≡ 32
  pub cmd : Cmd
  pub fits : IsCommand cmd
  pub place : slot_at before i one.list one.number ≡ slot
  pub command : command_at before i one.list one.number ≡ Some cmd
  pub request : request_at before i one.list one.number ≡ Some (request_of cmd)
  pub node : ℕ
  pub orb : command_orb payload ≡ orb_for cmd node slot (next_of before i one.list one.number) (format_of before i one.list one.number)
  pub as_appended : IsAsAppended (command_orb payload) (request_of cmd)

-- What stands behind the history in which a read is got: the note of that, what the initiator tells, which is no packet, and the response. Its
-- payload carries something of the history before it.
pub record IsReadWith (past : List Moment) (i serial : ℕ) (Carries : List Moment → List ℕ → Type 0) (now : List Moment) : Type 0 where
  pub effects : List Note
  pub none_sent : AllByRecursion (λ note. is_sent note ≡ false) effects
  -- it goes to the node that sent the read
  pub to : ℕ
  pub to_sender : sender_in ((terms past).sent serial) ≡ Some to
  pub bytes : List ℕ
  pub is : now ≡ said (notes.Sent ((terms past).count + 1) ((terms past).generation (suc i)) (suc i) to bytes) ∷ (map said effects ++ said (notes.Got serial) ∷ past)
  -- by the terms of the wire it answers this read, and its payload and the history before it are these
  pub answers : (terms now).answers ((terms past).count + 1) ≡ Some serial
  pub payload : payload_at (terms now) ((terms past).count + 1) ≡ payload_of bytes
  pub before : before_sent now ((terms past).count + 1) ≡ map said effects ++ said (notes.Got serial) ∷ past
  pub carries : Carries (map said effects ++ said (notes.Got serial) ∷ past) (payload_of bytes)

pub record AreReads (past : List Moment) (i serial slot : ℕ) (one : Orb) (access : Access) (now : List Moment) : Type 0 where
  pub orb : IsRead access (start (windows.Orb slot)) 32 → IsReadWith past i serial (λ before payload. CarriesOrb before i slot one payload) now
  pub pointer : IsRead access (start (windows.Orb slot)) 8 → IsReadWith past i serial (λ before payload. pointer_at payload 0 ≡ next_of before i one.list one.number) now
  pub table : (cmd : Cmd) → command_at past i one.list one.number ≡ Some cmd → IsRead access (start (windows.Table slot)) (8 * length cmd.segments) → IsReadWith past i serial (λ before payload. payload ≡ table_bytes slot 0 cmd.segments) now
  pub chunk : (cmd : Cmd) → command_at past i one.list one.number ≡ Some cmd → cmd.to_initiator ≡ false → (at offset count : ℕ) → addresses offset count ≡ take count (drop at (buffer_addresses (laid_out slot cmd cmd.segments))) → IsRead access offset count → IsReadWith past i serial (λ before payload. payload ≡ take count (drop at cmd.payload)) now

pub record ResponsesLaw : Type 0 where
  pub reads : (line : ℕ) (run : Run) → IsRun run → (next : ℕ) (event : Event) (told : List (Option Told)) → IsDelivering event told → MayAll told (begun (after (beginning run) run.entries)) → (i : ℕ) → i < run.initiators → (serial : ℕ) (again : Bool) (one : Option Told) → (let s = after_all told (begun (after (beginning run) run.entries)) in (g : GetsRequest (map said s.world.fresh ++ asked next event ∷ history_of line run) s.world i serial) → (slot : ℕ) (found : Orb) → slot < 32 → prepared_in (map said s.world.fresh ++ asked next event ∷ history_of line run) i slot ≡ Some found → (host_reply (map said s.world.fresh ++ asked next event ∷ history_of line run) i g.access).rcode ≡ 0 → AreReads (map said s.world.fresh ++ asked next event ∷ history_of line run) i serial slot found g.access (map said (delivered serial again one s).world.fresh ++ asked next event ∷ history_of line run))
