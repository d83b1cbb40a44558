-- What becomes of packets on the bus, with its notes.
use Rattle.std.specs.Prelude.{ℕ, ◌-◌, ◌/◌, ◌^◌, ◌==◌, ◌&&◌, ◌||◌, nat_lt, not, is_none, is_some, Bool, true, false, if◌then◌else◌, List, length, Option, Some, None}
use Rattle.packet_store.specs.Kept.{first, flying, found_sent, is_flying}
use Rattle.packet_store.specs.Stored.{Stored, deliver_step, lose_step}
use Rattle.sbp_base.specs.Quadlets.{quad}
use Rattle.sbp_journal.specs.declared.cause.Judged.{Judged}
use Rattle.sbp_journal.specs.declared.cause.Judged.TheVariants as judgements
use Rattle.sbp_journal.specs.declared.note.Note.{Note}
use Rattle.sbp_journal.specs.declared.note.Note.TheVariants as notes
use Rattle.sbp_bus.specs.Buses.{BusState, with_note}
use Rattle.sbp_bus.specs.Generations.{GenerationsState, node_of, reset_step, see_step}
use Rattle.sbp_bus.specs.Sending.{posted}

-- the number of the refusal of a packet that can't be delivered, repeated, lost or timed out
abbrev pub no_packet : ℕ
no_packet = 11

-- the number of the refusal of bytes that can't be injected
abbrev pub no_node : ℕ
no_node = 12

-- A refused action changes nothing but the journal.
abbrev pub refused : ℕ → ℕ → BusState → BusState
refused line number b = with_note (notes.Refused line number) b

-- it is kept, in flight or delivered, and is among the last 1,024 serials
abbrev pub may_repeat : ℕ → Stored → Bool
may_repeat serial store = nat_lt (store.last - 1024) serial && is_some (found_sent serial store.kept)

-- the lowest serial in flight
abbrev pub lowest : Stored → Option ℕ
lowest store = first (flying store.kept)

-- ---- a delivery

-- A packet in flight is delivered from then on; one that comes once more stays as it is.
abbrev pub marked : ℕ → Bool → BusState → BusState
marked serial again b =
    if again || not (is_flying serial b.store.kept) then b else record b { store = deliver_step b.store serial }

-- the first note of a delivery
abbrev pub judged_note : ℕ → Judged → Note
judged_note serial judgements.Got = notes.Got serial
judged_note serial (judgements.Ignored cause) = notes.Ignored serial cause

-- A packet came to its node, and this is how it was judged there.
unfoldable pub judged_as : ℕ → Bool → Judged → BusState → BusState
judged_as serial again judged b = with_note (judged_note serial judged) (marked serial again b)

-- ---- the end of a `settle`

abbrev pub end_note : Bool → Note
end_note true = notes.Settled
end_note false = notes.Stopped

-- nothing is in flight
abbrev pub is_settled : BusState → Bool
is_settled b = is_none (lowest b.store)

-- ---- a packet is lost

abbrev pub lost : ℕ → BusState → BusState
lost serial b = with_note (notes.Lost serial) (record b { store = lose_step b.store serial })

unfoldable pub lose_line : ℕ → ℕ → BusState → BusState
lose_line line serial b = if is_flying serial b.store.kept then lost serial b else refused line no_packet b

-- ---- injected packets

-- the IDs in the first eight bytes of a packet (IEEE 1394-1995, packet formats)
abbrev pub destination_in : List ℕ → ℕ
destination_in bytes = quad bytes 0 / 2 ^ 16

abbrev pub source_in : List ℕ → ℕ
source_in bytes = quad bytes 4 / 2 ^ 16

-- the source is the sender, and the destination another node
abbrev pub other_node : ℕ → Option ℕ → Option ℕ → Option ℕ
other_node from (Some to) (Some sender) = if sender == from && not (to == from) then Some to else None
other_node from None sender = None
other_node from (Some to) None = None

-- the node that injected bytes go to, by the IDs that their sender knows
unfoldable pub injected_to : ℕ → List ℕ → GenerationsState → Option ℕ
injected_to from bytes known =
    if nat_lt (length bytes) 8
    then None
    else other_node from (node_of known from (destination_in bytes)) (node_of known from (source_in bytes))

abbrev pub injected : Option ℕ → ℕ → ℕ → List ℕ → BusState → BusState
injected None line from bytes b = refused line no_node b
injected (Some to) line from bytes b = posted from to true bytes b

unfoldable pub inject_line : ℕ → ℕ → List ℕ → BusState → BusState
inject_line line from bytes b = injected (injected_to from bytes b.generations) line from bytes b

-- ---- resets

-- A bus reset: the bus has the next generation, with new IDs.
abbrev pub told_reset : BusState → BusState
told_reset b = with_note (notes.Reset b.generations.latest.generation) b

abbrev pub reset_line : List ℕ → BusState → BusState
reset_line ids b = told_reset (record b { generations = reset_step ids b.generations })

-- A node sees the latest generation, and this is told.
abbrev pub seen_line : ℕ → BusState → BusState
seen_line node b =
    record (with_note (notes.Seen node b.generations.latest.generation) b) { generations = see_step node b.generations }
