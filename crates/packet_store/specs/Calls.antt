-- Every list of calls of a store, the latest one first, and what it says of each packet.
use Rattle.std.specs.Prelude.{◌≡◌, ℕ, ◌+◌, ◌==◌, Bool, true, false, if◌then◌else◌, List, [], ◌∷◌, Option, Some, None}
use Rattle.packet_store.specs.declared.sent.Sent.{Sent}
use Rattle.packet_store.specs.declared.transaction.Transaction.{Transaction}
use Rattle.packet_store.specs.Transactions.{begun_by, belongs}
use Rattle.packet_store.specs.Kept.{is_flying}
use Rattle.packet_store.specs.Stored.{Stored, empty, send_step, deliver_step, lose_step}

-- the calls that change a store
pub data Call : Type 0 where
  send : Sent → Call
  deliver : (serial : ℕ) → Call
  lose : (serial : ℕ) → Call

-- what the store is after them
abbrev pub after : List Call → Stored
after [] = empty
after (send sent ∷ cs) = send_step (after cs) sent
after (deliver serial ∷ cs) = deliver_step (after cs) serial
after (lose serial ∷ cs) = lose_step (after cs) serial

-- the condition of each: what is delivered or lost is in flight
abbrev pub MayAll : List Call → Type 0
MayAll [] = Unit {0}
MayAll (send sent ∷ cs) = MayAll cs
MayAll (deliver serial ∷ cs) = (is_flying serial (after cs).kept ≡ true) × MayAll cs
MayAll (lose serial ∷ cs) = (is_flying serial (after cs).kept ≡ true) × MayAll cs

-- how many packets were sent
abbrev pub sends : List Call → ℕ
sends [] = 0
sends (send sent ∷ cs) = sends cs + 1
sends (deliver serial ∷ cs) = sends cs
sends (lose serial ∷ cs) = sends cs

-- what was sent with each serial, counted from 1
abbrev pub sent_at : List Call → ℕ → Option Sent
sent_at [] serial = None
sent_at (send sent ∷ cs) serial = if serial == sends cs + 1 then Some sent else sent_at cs serial
sent_at (deliver other ∷ cs) serial = sent_at cs serial
sent_at (lose other ∷ cs) serial = sent_at cs serial

-- the state of a packet: not sent yet, in flight, delivered, lost, or withdrawn by the bus rule
pub data Flight : Type 0 where
  Unsent : Flight
  InFlight : Flight
  Delivered : Flight
  Lost : Flight
  Withdrawn : Flight

-- The bus rule, for a packet of which it is told whether the new request is of its transaction: one
-- in flight or delivered becomes withdrawn, a lost packet stays lost.
abbrev pub by_request : Bool → Flight → Flight
by_request true InFlight = Withdrawn
by_request true Delivered = Withdrawn
by_request of state = state

-- what was sent belongs to the transaction that a request begins
abbrev pub is_of : Option Transaction → Option Sent → Bool
is_of (Some t) (Some sent) = belongs t sent
is_of begun sent = false

-- the state of each packet
abbrev pub state_at : List Call → ℕ → Flight
state_at [] serial = Unsent
state_at (send sent ∷ cs) serial =
    if serial == sends cs + 1 then InFlight else by_request (is_of (begun_by sent) (sent_at cs serial)) (state_at cs serial)
state_at (deliver other ∷ cs) serial = if serial == other then Delivered else state_at cs serial
state_at (lose other ∷ cs) serial = if serial == other then Lost else state_at cs serial
