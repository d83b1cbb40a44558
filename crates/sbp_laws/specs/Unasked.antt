-- The sent law, of requests that nobody asked for (NCITS 325-1998, unsolicited status). A request of the target is one that an agent or the
-- management operation has to send, or it is the write of an unsolicited status to an initiator of which `unsolicited` stands before it in its
-- turn, the first packet there to that initiator.
use Rattle.std.specs.Prelude.{◌≡◌, ℕ, zero, suc, ◌==◌, ◌&&◌, ◌||◌, not, is_none, Bool, true, false, List, [], ◌∷◌, position, Option, Some, None}
use Rattle.media_bay.specs.Unsolicited.{is_block}
use Rattle.rbc_disk.specs.Disk.{Disk}
use Rattle.sbp_journal.specs.Run.{Moment, asked, said}
use Rattle.sbp_journal.specs.Addresses.{Access}
use Rattle.sbp_journal.specs.declared.note.Note.TheVariants as notes
use Rattle.sbp_laws.specs.Turns.{Where}
use Rattle.sbp_laws.specs.Packets.{access_in_bytes}
use Rattle.sbp_laws.specs.Targets.{Target, target_at, taken_on, wants, wants_it}

-- an agent or the management operation has a request of this kind to send
abbrev pub is_wanted : Target → (is_write : Bool) → Bool
is_wanted target is_write = not (is_none (position (wants_it is_write) target.agents)) || wants target.manager_asks is_write

abbrev pub is_unasked : Target → Option Access → Bool
is_unasked target None = false
is_unasked target (Some access) = not (is_wanted target access.is_write)

-- the write of an unsolicited status
abbrev pub is_push : Option Access → Bool
is_push None = false
is_push (Some access) = access.is_write && is_block access.payload

-- `unsolicited` of an initiator stands before, in the same turn, and no packet to it
abbrev pub is_announced : List Moment → (to : ℕ) → Bool
is_announced [] to = false
is_announced (said (notes.Unsolicited i) ∷ past) to = (suc i == to) || is_announced past to
is_announced (said (notes.Sent serial generation from other bytes) ∷ past) to = not (other == to) && is_announced past to
is_announced (said (notes.Got serial) ∷ past) to = false
is_announced (said (notes.Ignored serial cause) ∷ past) to = false
is_announced (said (notes.TimedOut serial) ∷ past) to = false
is_announced (said note ∷ past) to = is_announced past to
is_announced (asked line event ∷ past) to = false

abbrev pub NoneUnasked : List Disk → Moment → List Moment → Type 0
NoneUnasked disks (said (notes.Sent serial generation zero to bytes)) past =
    Where (is_unasked (taken_on None (target_at disks past).reply (target_at disks past)) (access_in_bytes bytes))
    ((is_push (access_in_bytes bytes) && is_announced past to) ≡ true)
NoneUnasked disks moment past = Unit {0}
