-- What holds over every list of calls of a store.
use Rattle.std.specs.Prelude.{◌≡◌, ℕ, ◌-◌, ◌≤◌, nat_lt, true, false, if◌then◌else◌, List, ◌∷◌, ◌++◌, Option, Some, None}
use Rattle.packet_store.specs.declared.sent.Sent.{Sent}
use Rattle.packet_store.specs.declared.sent.Kept.{Kept}
use Rattle.packet_store.specs.declared.transaction.Transaction.{Transaction}
use Rattle.packet_store.specs.Transactions.{begun_by, belongs}
use Rattle.packet_store.specs.Kept.{found, found_sent, is_flying, Rise}
use Rattle.packet_store.specs.Calls.{Call, send, after, MayAll, sends, sent_at, Flight, InFlight, Delivered, state_at}

-- The last serial is the number of packets sent: the serials count from 1 without a gap.
abbrev pub SerialLaw : Type 0
SerialLaw = (cs : List Call) → (after cs).last ≡ sends cs

-- The serials of the kept packets rise strictly, from 1 to at most the last one: no packet is kept twice.
abbrev pub RisingLaw : Type 0
RisingLaw = (cs : List Call) → Rise 0 (after cs).last (after cs).kept

-- What is kept under a serial is what was sent under it, with whether it is in flight.
abbrev pub WholeLaw : Type 0
WholeLaw =
    (cs : List Call) (serial : ℕ) (sent : Sent) → found_sent serial (after cs).kept ≡ Some sent → found serial (after cs).kept ≡ Some (record { serial = serial; in_flight = is_flying serial (after cs).kept; sent = sent })

-- what a store has of a packet in this state
abbrev pub shown : (aged serial : ℕ) → Flight → Option Sent → Option Kept
shown aged serial InFlight (Some sent) = Some (record { serial = serial; in_flight = true; sent = sent })
shown aged serial Delivered (Some sent) =
    if nat_lt aged serial then Some (record { serial = serial; in_flight = false; sent = sent }) else None
shown aged serial state sent = None

-- A store has exactly the packets in flight and the delivered ones among the last 1,024 serials.
abbrev pub KeepsLaw : Type 0
KeepsLaw =
    (cs : List Call) (serial : ℕ) → MayAll cs → found serial (after cs).kept ≡ shown (sends cs - 1024) serial (state_at cs serial) (sent_at cs serial)

-- A packet that is not in flight any more, as each withdrawn one, never is again.
abbrev pub GoneLaw : Type 0
GoneLaw =
    (cs later : List Call) (serial : ℕ) → serial ≤ sends cs → is_flying serial (after cs).kept ≡ false → is_flying serial (after (later ++ cs)).kept ≡ false

-- Once a label was used again the store has no packet of the transaction before it, then or later.
abbrev pub ClosedLaw : Type 0
ClosedLaw =
    (cs later : List Call) (request earlier : Sent) (t : Transaction) (serial : ℕ) → MayAll (later ++ send request ∷ cs) → begun_by request ≡ Some t → sent_at cs serial ≡ Some earlier → belongs t earlier ≡ true → found serial (after (later ++ send request ∷ cs)).kept ≡ None
