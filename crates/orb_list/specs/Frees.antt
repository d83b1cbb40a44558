-- When a slot is free, in the words of what was done.
use Rattle.std.specs.Prelude.{◌≡◌, ℕ, ◌+◌, ◌<◌, ◌==◌, ◌&&◌, ◌||◌, not, nat_lt, unwrap_or, Bool, true, false, if◌then◌else◌, List, [], ◌∷◌, Option, Some, None}
use Rattle.orb_layout.specs.declared.status.StatusBlock.{StatusBlock}
use Rattle.orb_layout.specs.StatusBlocks.{row_of}
use Rattle.orb_list.specs.Tickets.{TicketParts, is_ticket}
use Rattle.orb_list.specs.Table.{slot_in, is_free, is_pinned}
use Rattle.orb_list.specs.Runs.{Call, Pin, Note, Prepared, Linked, Taken, Dropped, Freed, Pinned, Unpinned, run}

-- the ORB that was prepared last in a slot since all slots were freed
abbrev pub prepared_in : List Note → ℕ → Option TicketParts
prepared_in [] k = None
prepared_in (Prepared t asked ∷ ns) k = if k == t.slot then Some t else prepared_in ns k
prepared_in (Freed ∷ ns) k = None
prepared_in (_ ∷ ns) k = prepared_in ns k

-- the status that was taken of an ORB
abbrev pub status_of : List Note → TicketParts → Option StatusBlock
status_of [] t = None
status_of (Taken u block ∷ ns) t = if is_ticket u t then Some block else status_of ns t
status_of (_ ∷ ns) t = status_of ns t

-- the ORB of a list with this number was linked behind the one before it
abbrev pub is_linked : List Note → ℕ → ℕ → Bool
is_linked [] list number = false
is_linked (Linked before t ∷ ns) list number = ((t.list == list) && (t.number == number)) || is_linked ns list number
is_linked (_ ∷ ns) list number = is_linked ns list number

-- the status of an ORB of a list behind the one of this number was taken
abbrev pub is_passed : List Note → ℕ → ℕ → Bool
is_passed [] list number = false
is_passed (Taken t block ∷ ns) list number = ((t.list == list) && nat_lt number t.number) || is_passed ns list number
is_passed (_ ∷ ns) list number = is_passed ns list number

-- the ORB whose slot is pinned
abbrev pub pinned_by : List Note → Option TicketParts
pinned_by [] = None
pinned_by (Pinned t ∷ ns) = Some t
pinned_by (Unpinned t ∷ ns) = None
pinned_by (Freed ∷ ns) = None
pinned_by (_ ∷ ns) = pinned_by ns

-- what was done before a list was dropped
abbrev pub dropped_at : List Note → ℕ → Option (List Note)
dropped_at [] list = None
dropped_at (Dropped number ∷ ns) list = if number == list then Some ns else dropped_at ns list
dropped_at (_ ∷ ns) list = dropped_at ns list

abbrev pub over_by : Option StatusBlock → List Note → TicketParts → Bool
over_by None ns t = false
over_by (Some block) ns t =
    ((row_of block.kind).resp == 0) && is_linked ns t.list (t.number + 1) && ((block.src == 0) || is_passed ns t.list t.number)
    && not (is_pinned (pinned_by ns) t)

-- An ORB is over: its status was taken and had resp 0, the ORB after it in its list is linked, the src of its status was 0 or
-- the status of a later ORB of the list was taken, and its slot is not pinned.
abbrev pub is_over_by : List Note → TicketParts → Bool
is_over_by ns t = over_by (status_of ns t) ns t

-- a slot is free where no ORB was prepared there since all were freed, or the last one is over, or was when its list was
-- dropped
abbrev pub free_by : List Note → Option TicketParts → Bool
free_by ns None = true
free_by ns (Some t) = is_over_by (unwrap_or (dropped_at ns t.list) ns) t

-- A slot is pinned only while none is.
abbrev pub IsLonePin : Call → List Note → Type 0
IsLonePin (Pin t) ns = pinned_by ns ≡ None
IsLonePin _ ns = Unit {0}

abbrev pub PinsAlone : List Call → List ℕ → Type 0
PinsAlone [] quads = Unit {0}
PinsAlone (call ∷ calls) quads = IsLonePin call (run calls quads).notes × PinsAlone calls quads

-- Over every list of calls a slot is free exactly where the notes say so.
abbrev pub FreeLaw : Type 0
FreeLaw =
    (calls : List Call) (quads : List ℕ) (k : ℕ) → PinsAlone calls quads → k < 32 → is_free (slot_in (run calls quads).table.slots k) ≡ free_by (run calls quads).notes (prepared_in (run calls quads).notes k)
