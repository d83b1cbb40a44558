-- Packets: serials count from 1 over all nodes, and the store has exactly the packets that the history has in flight, and those that it
-- has delivered among the last 1,024 serials, each as it was sent. What a later request of its transaction withdrew is not there.
use Rattle.std.specs.Prelude.{◌≡◌, ℕ, ◌+◌, ◌-◌, List, [], ◌∷◌, Option, Some, None}
use Rattle.packet_store.specs.declared.sent.Sent.{Sent}
use Rattle.packet_store.specs.Kept.{found}
use Rattle.packet_store.specs.Stored.{Stored}
use Rattle.packet_store.specs.Calls.{Unsent, InFlight, Delivered, Lost, Withdrawn}
use Rattle.packet_store.specs.Calls as calls
use Rattle.packet_store.specs.Laws.{shown}
use Rattle.sbp_journal.specs.Run.{Moment, said}
use Rattle.sbp_journal.specs.Transactions.{Sending}
use Rattle.sbp_journal.specs.Wire.{Terms, terms, Flight, unsent, in_flight, delivered, lost, withdrawn}
use Rattle.sbp_journal.specs.declared.note.Note.TheVariants as notes
use Rattle.bus_transactions.specs.Wire.{Wire, as_sent}

abbrev pub flight_as : Flight → calls.Flight
flight_as unsent = Unsent
flight_as in_flight = InFlight
flight_as delivered = Delivered
flight_as lost = Lost
flight_as withdrawn = Withdrawn

abbrev pub sent_as : Option Sending → Option Sent
sent_as None = None
sent_as (Some q) = Some (as_sent q)

-- each packet has the next serial
abbrev pub SerialsCount : List Moment → Type 0
SerialsCount [] = Unit {0}
SerialsCount (said (notes.Sent s generation from to bytes) ∷ past) = (s ≡ (terms past).count + 1) × SerialsCount past
SerialsCount (_ ∷ past) = SerialsCount past

-- the store has what the history says
pub record IsStoreOf (t : Terms) (store : Stored) : Type 0 where
  pub last : store.last ≡ t.count
  pub kept_is : (s : ℕ) → found s store.kept ≡ shown (t.count - 1024) s (flight_as (t.flight s)) (sent_as (t.sent s))

abbrev pub PacketLaw : Wire → Type 0
PacketLaw w = SerialsCount w.past × IsStoreOf (terms w.past) w.store
