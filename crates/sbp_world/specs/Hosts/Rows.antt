-- The rows of an initiator's slots, in the words of the run terms: a slot that is free, one that an ORB is in, and one that rests.
use Rattle.std.specs.Prelude.{ℕ, Option, Some, None}
use Rattle.orb_list.specs.declared.list.PresentList.{PresentList}
use Rattle.orb_list.specs.declared.slot.SlotState.{SlotState}
use Rattle.orb_list.specs.declared.slot.SlotState.TheVariants as states
use Rattle.orb_list.specs.declared.slot.Slot.{Slot}
use Rattle.orb_list.specs.Tickets.{TicketParts}
use Rattle.sbp_laws.specs.Lists.{Orb, orb, SlotState as Row, vacant, used, resting}

-- the name of an ORB: its list, and its number there
abbrev pub name : TicketParts → Orb
name t = orb t.list t.number

abbrev pub name_in : Option TicketParts → Option Orb
name_in None = None
name_in (Some t) = Some (name t)

-- a slot whose ORB has no ticket is none of a table
abbrev pub used_by : Option TicketParts → Row
used_by None = resting
used_by (Some t) = used (name t)

abbrev pub row_by : SlotState → Option TicketParts → Row
row_by states.Free last = vacant
row_by states.Waiting last = used_by last
row_by (states.Taken had_next) last = used_by last
row_by states.Resting last = resting

abbrev pub row : Slot → Row
row slot = row_by slot.state slot.last

-- the number of the present list
abbrev pub present_in : Option PresentList → Option ℕ
present_in None = None
present_in (Some list) = Some list.tail.list
