-- How long an ORB keeps its slot, and what the slot says of its next pointer (NCITS 325-1998, ORBs in the memory of the initiator), over every
-- list of calls of the slots. An ORB that was prepared, and is not over, is in its slot, with its request; its next pointer is null until the
-- ORB behind it was linked, and then that ORB's address. It is not over before its status was taken, nor before the ORB behind it was
-- linked; and where its src was not 0, not before the status of a later ORB of its list was taken. Where its list was dropped before that,
-- it keeps its slot until all slots are freed.
use Rattle.std.specs.Prelude.{◌≡◌, ℕ, ◌+◌, ◌<◌, ◌==◌, ◌&&◌, true, false, if◌then◌else◌, List, [], ◌∷◌, Option, Some, None}
use Rattle.bus_memory.specs.declared.window.Window.TheVariants as windows
use Rattle.bus_memory.specs.Windows.{start}
use Rattle.orb_layout.specs.declared.pointer.OrbPointer.{OrbPointer}
use Rattle.orb_layout.specs.declared.pointer.OrbPointer.TheVariants.{Null, At}
use Rattle.orb_layout.specs.declared.status.StatusBlock.{StatusBlock}
use Rattle.orb_list.specs.Frees.{dropped_at, free_by, is_linked, is_passed, status_of, PinsAlone}
use Rattle.orb_list.specs.Keeps.{was_prepared}
use Rattle.orb_list.specs.Kept.{Kept, kept_in}
use Rattle.orb_list.specs.Requests.{Asked}
use Rattle.orb_list.specs.Runs.{Call, Note, Prepared, Linked, Run, run}
use Rattle.orb_list.specs.Table.{is_free, slot_in}
use Rattle.orb_list.specs.Tickets.{TicketParts, is_ticket}

-- what an ORB was prepared for
abbrev pub asked_for : List Note → TicketParts → Option Asked
asked_for [] t = None
asked_for (Prepared u asked ∷ ns) t = if is_ticket u t then Some asked else asked_for ns t
asked_for (_ ∷ ns) t = asked_for ns t

-- the ORB of a list with a number, where it was linked behind the one before it
abbrev pub linked_as : List Note → ℕ → ℕ → Option TicketParts
linked_as [] list number = None
linked_as (Linked before t ∷ ns) list number = if (t.list == list) && (t.number == number) then Some t else linked_as ns list number
linked_as (_ ∷ ns) list number = linked_as ns list number

-- the pointer to an ORB
abbrev pub points_to : Option TicketParts → OrbPointer
points_to None = Null
points_to (Some t) = At (start (windows.Orb t.slot))

-- An ORB is in its slot.
pub record HasSlot (r : Run) (t : TicketParts) : Type 0 where
  pub below : t.slot < 32
  pub last : (slot_in r.table.slots t.slot).last ≡ Some t
  pub held : is_free (slot_in r.table.slots t.slot) ≡ false
  pub kept : Kept
  pub kept_is : kept_in r.notes t.slot ≡ Some kept
  pub ticket : kept.ticket ≡ t
  pub asked : asked_for r.notes t ≡ Some kept.asked
  pub next : kept.next ≡ points_to (linked_as r.notes t.list (t.number + 1))

pub record KeepingLaw : Type 0 where
  pub has : (calls : List Call) (quads : List ℕ) (t : TicketParts) → PinsAlone calls quads → was_prepared (run calls quads).notes t ≡ true → free_by (run calls quads).notes (Some t) ≡ false → HasSlot (run calls quads) t
  pub till_taken : (ns : List Note) (t : TicketParts) → status_of ns t ≡ None → free_by ns (Some t) ≡ false
  pub till_linked : (ns : List Note) (t : TicketParts) → is_linked ns t.list (t.number + 1) ≡ false → free_by ns (Some t) ≡ false
  pub till_passed : (ns : List Note) (t : TicketParts) (block : StatusBlock) → dropped_at ns t.list ≡ None → status_of ns t ≡ Some block → (block.src == 0) ≡ false → is_passed ns t.list t.number ≡ false → free_by ns (Some t) ≡ false
  pub one : (calls : List Call) (quads : List ℕ) (t u : TicketParts) → HasSlot (run calls quads) t → HasSlot (run calls quads) u → t.list ≡ u.list → t.number ≡ u.number → t ≡ u
