-- Which ORB is found by its number.
use Rattle.std.specs.Prelude.{◌≡◌, ◌↔◌, ℕ, true, List, Some}
use Rattle.orb_list.specs.Tickets.{TicketParts}
use Rattle.orb_list.specs.Table.{find_in, is_present}
use Rattle.orb_list.specs.Runs.{Call, run, waits}

-- Over every list of calls the ORB that is found by a number is the one that waits and has it, and none is found exactly where
-- there is no such ORB. Every ORB that waits is of the present list.
pub record FindLaw : Type 0 where
  pub finds : (calls : List Call) (quads : List ℕ) (number : ℕ) (t : TicketParts) → find_in (run calls quads).table.slots number ≡ Some t ↔ ((waits (run calls quads).notes t ≡ true) × (t.number ≡ number))
  pub present : (calls : List Call) (quads : List ℕ) (t : TicketParts) → waits (run calls quads).notes t ≡ true → is_present (run calls quads).table.present t ≡ true
