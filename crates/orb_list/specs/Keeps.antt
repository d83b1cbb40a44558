-- How long an ORB keeps its slot.
use Rattle.std.specs.Prelude.{◌≡◌, ℕ, ◌<◌, ◌||◌, Bool, true, false, List, [], ◌∷◌, Some}
use Rattle.orb_list.specs.Tickets.{TicketParts, is_ticket}
use Rattle.orb_list.specs.Table.{slot_in}
use Rattle.orb_list.specs.Runs.{Call, Note, Prepared, Freed, run}
use Rattle.orb_list.specs.Frees.{prepared_in, free_by, PinsAlone}

-- an ORB was prepared since all slots were freed
abbrev pub was_prepared : List Note → TicketParts → Bool
was_prepared [] t = false
was_prepared (Prepared u asked ∷ ns) t = is_ticket u t || was_prepared ns t
was_prepared (Freed ∷ ns) t = false
was_prepared (_ ∷ ns) t = was_prepared ns t

-- Over every list of calls an ORB that was prepared since all slots were freed, and is not over, is the one that was prepared
-- last in its slot; and the last ticket of a slot is that of the ORB that was prepared last there.
pub record KeepsLaw : Type 0 where
  pub keeps : (calls : List Call) (quads : List ℕ) (t : TicketParts) → PinsAlone calls quads → was_prepared (run calls quads).notes t ≡ true → free_by (run calls quads).notes (Some t) ≡ false → prepared_in (run calls quads).notes t.slot ≡ Some t
  pub last : (calls : List Call) (quads : List ℕ) (k : ℕ) (t : TicketParts) → PinsAlone calls quads → k < 32 → prepared_in (run calls quads).notes k ≡ Some t → (slot_in (run calls quads).table.slots k).last ≡ Some t
