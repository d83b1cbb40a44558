-- What holds over every list of calls.
use Rattle.std.specs.Prelude.{◌≡◌, ℕ, ◌<◌, true, false, List, Some, Ok}
use Rattle.orb_list.specs.Tickets.{TicketParts}
use Rattle.orb_list.specs.Requests.{Asked}
use Rattle.orb_list.specs.Table.{is_free, slot_in, waiting, prepare_step}
use Rattle.orb_list.specs.Runs.{Call, run, waits}

-- An ORB that waits keeps its slot, so waiting ORBs have different slots, and so have those whose slots are in use or rest.
-- The slot that is given out is free, and each lower one is not.
pub record SlotLaw (calls : List Call) (quads : List ℕ) : Type 0 where
  pub keeps : (t : TicketParts) → waits (run calls quads).notes t ≡ true → waiting (slot_in (run calls quads).table.slots t.slot) ≡ Some t
  pub apart : (t u : TicketParts) → waits (run calls quads).notes t ≡ true → waits (run calls quads).notes u ≡ true → t.slot ≡ u.slot → t ≡ u
  pub live : (number : ℕ) (t : TicketParts) → number < 32 → (slot_in (run calls quads).table.slots number).last ≡ Some t → t.slot ≡ number
  pub free : (asked : Asked) (t : TicketParts) → (prepare_step (run calls quads).table (run calls quads).memory asked).0 ≡ Ok t → is_free (slot_in (run calls quads).table.slots t.slot) ≡ true
  pub lowest : (asked : Asked) (t : TicketParts) (lower : ℕ) → (prepare_step (run calls quads).table (run calls quads).memory asked).0 ≡ Ok t → lower < t.slot → is_free (slot_in (run calls quads).table.slots lower) ≡ false

abbrev pub SlotsLaw : Type 0
SlotsLaw = (calls : List Call) (quads : List ℕ) → SlotLaw calls quads
