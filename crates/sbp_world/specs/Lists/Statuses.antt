-- The status blocks of ORBs that are on their way, of an initiator that injected no packets (NCITS 325-1998, status block; IEEE 1394-1995, bus reset). A write of
-- the target to a FIFO of its initiator that spells a status with the address of a slot is that which the turn of an ORB's end sent behind it, and has the status
-- with which that ORB ended; and until it is taken as new the slot has this ORB. So the status of an ORB is taken as it ended, of the packet that its end sent; and no
-- status is taken of an ORB that has not ended.
use Rattle.std.specs.Prelude.{◌≡◌, ◌<◌, ◌≤◌, ◌==◌, ◌^◌, ℕ, suc, false, true, List, ◌∷◌, length, Some, Ok}
use Rattle.bus_memory.specs.Windows.{is_fifo, slot_of}
use Rattle.orb_layout.specs.declared.status.StatusBlock.{StatusBlock}
use Rattle.orb_layout.specs.declared.status.StatusKind.{StatusKind}
use Rattle.orb_layout.specs.declared.status.StatusKind.TheVariants as kinds
use Rattle.orb_layout.specs.StatusBlocks.{read_block}
use Rattle.sbp_journal.specs.Addresses.{Access}
use Rattle.sbp_journal.specs.Run.{Moment, said}
use Rattle.sbp_journal.specs.Transactions.{Sending}
use Rattle.sbp_journal.specs.Wire.{terms}
use Rattle.sbp_journal.specs.declared.note.Note.TheVariants as notes
use Rattle.sbp_laws.specs.Lists.{last_got, orb}
use Rattle.sbp_laws.specs.Packets.{access_in_bytes}
use Rattle.sbp_laws.specs.StatusLaw.{status_packet}
use Rattle.sbp_laws.specs.Targets.{login_fifo}
use Rattle.sbp_laws.specs.Terms.{ended_status}
use Rattle.sbp_laws.specs.Turns.{EachMoment}
use Rattle.sbp_world.specs.Worlds.{WorldState}
use Rattle.sbp_world.specs.Hosts.Statuses.Taking.{is_place_fifo}
use Rattle.sbp_world.specs.Lists.Closes.{AreUntaken, Under, WhereTameOrFew}
use Rattle.sbp_world.specs.Lists.Needs.{IsCalm}
use Rattle.sbp_world.specs.Lists.SlotsStay.{HasSlot}

-- ---- what is sent

-- a FIFO of an initiator: that of a login, or that of a place of management
pub data IsFifo (offset : ℕ) : Type 0 where
  of_login : (number : ℕ) → offset ≡ login_fifo number → IsFifo offset
  of_place : is_place_fifo offset ≡ true → IsFifo offset

-- a packet writes a status block with the address of a slot to a FIFO
pub record IsStatusWrite (bytes : List ℕ) (slot : ℕ) (block : StatusBlock) : Type 0 where
  pub access : Access
  pub is : access_in_bytes bytes ≡ Some access
  pub writes : access.is_write ≡ true
  pub goes : IsFifo access.offset
  pub reads : read_block false access.payload ≡ Ok block
  pub slot_is : slot_of block.orb ≡ Some slot

-- the values of a check are in their ranges
abbrev pub IsTold : StatusKind → Type 0
IsTold (kinds.Check sense) = (sense.key < 16) × (sense.code < 2 ^ 8) × (sense.qualifier < 2 ^ 8)
IsTold kind = Unit {0}

-- An ORB ended with this status, as far as a status block can tell it: a check that has values out of their ranges is not told apart.
pub record IsEndedAs (past : List Moment) (i n k : ℕ) (kind : StatusKind) : Type 0 where
  pub status : StatusKind
  pub is : ended_status past i n k ≡ Some status
  pub same : IsTold status → status ≡ kind

-- it is the packet that the end of an ORB sent, with the status with which it ended; and the slot has that ORB
pub record IsStatusOf (past : List Moment) (i serial slot : ℕ) (block : StatusBlock) : Type 0 where
  pub list : ℕ
  pub number : ℕ
  pub sent : status_packet past i list number ≡ Some serial
  pub ended : IsEndedAs past i list number block.kind
  pub has : HasSlot past i slot (orb list number)

-- a packet of the target to an initiator
pub record IsToHost (past : List Moment) (i serial : ℕ) (packet : Sending) : Type 0 where
  pub is : (terms past).sent serial ≡ Some packet
  pub from_target : packet.from ≡ 0
  pub to_host : packet.to ≡ suc i

-- ---- what is taken

-- The status of an ORB is taken as it ended, of the packet that its end sent, which was got.
pub record IsTakenSo (past : List Moment) (i n k : ℕ) (status : StatusKind) : Type 0 where
  pub ended : IsEndedAs past i n k status
  pub sent : status_packet past i n k ≡ Some (last_got past)
  pub judged : 0 < (terms past).news (last_got past)
  pub packet : Sending
  pub there : (terms past).sent (last_got past) ≡ Some packet
  pub from_target : packet.from ≡ 0
  pub to_host : packet.to ≡ suc i
  pub slot : ℕ
  pub block : StatusBlock
  pub writes : IsStatusWrite packet.bytes slot block

abbrev pub TakenSo : ℕ → Moment → List Moment → Type 0
TakenSo i (said (notes.Taken j n k status answer)) past = (i == j) ≡ true → IsTakenSo past i n k status
TakenSo i moment past = Unit {0}

-- ---- of initiator i
pub record AreStatuses (past : List Moment) (i : ℕ) : Type 0 where
  pub seen : (serial slot : ℕ) (block : StatusBlock) (packet : Sending) → IsToHost past i serial packet → IsStatusWrite packet.bytes slot block → packet.generation ≤ (terms past).generation (suc i)
  pub waiting : (serial slot : ℕ) (block : StatusBlock) (packet : Sending) → IsToHost past i serial packet → IsStatusWrite packet.bytes slot block → packet.generation ≡ (terms past).generation (suc i) → (terms past).news serial ≡ 0 → IsStatusOf past i serial slot block
  pub taken : EachMoment (TakenSo i) past

-- ---- a packet as it is sent
-- What a write of a status to an initiator is, as the target sends it: of a generation that the initiator has seen, and where it is in that, the packet of an ORB that
-- ended, which its slot has; and it goes to the FIFO of a login.
pub record IsSentSo (past : List Moment) (i serial generation from to : ℕ) (bytes : List ℕ) (slot : ℕ) (block : StatusBlock) : Type 0 where
  pub seen : generation ≤ (terms past).generation (suc i)
  pub of : generation ≡ (terms past).generation (suc i) → IsStatusOf (said (notes.Sent serial generation from to bytes) ∷ past) i serial slot block
  pub login : (access : Access) → access_in_bytes bytes ≡ Some access → is_place_fifo access.offset ≡ false
  pub fifo : (access : Access) → access_in_bytes bytes ≡ Some access → is_fifo access.offset ≡ true

abbrev pub SentSo : ℕ → Moment → List Moment → Type 0
SentSo i (said (notes.Sent serial generation from to bytes)) past = from ≡ 0 → to ≡ suc i → (slot : ℕ) (block : StatusBlock) → IsStatusWrite bytes slot block → IsSentSo past i serial generation from to bytes slot block
SentSo i moment past = Unit {0}

-- ---- at each place of a run
-- of the initiators that injected no packets
abbrev pub AllSentSo : List Moment → WorldState → Type 0
AllSentSo past w = (i : ℕ) → i < length w.initiators → IsCalm past i → EachMoment (SentSo i) past

abbrev pub AllStatuses : List Moment → WorldState → Type 0
AllStatuses past w = (i : ℕ) → i < length w.initiators → IsCalm past i → AreStatuses past i

-- Where no initiator injected packets, or few logins were given, and the target sends statuses so, as lists were open as they should be before, they are taken so; and none is taken of an ORB that
-- has not ended.
pub record StatusesLaw : Type 0 where
  pub statuses : Under (WhereTameOrFew AllSentSo) → Under (WhereTameOrFew AllStatuses)
  pub untaken : Under (WhereTameOrFew AllSentSo) → Under (WhereTameOrFew AreUntaken)
