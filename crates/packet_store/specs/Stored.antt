-- The store as the list of its kept packets, by rising serial, with the last serial, and what each
-- call makes of it.
use Rattle.std.specs.Prelude.{ℕ, ◌+◌, ◌-◌, ◌≤◌, ◌||◌, nat_lt, Bool, true, if◌then◌else◌, List, [], ◌∷◌, ◌++◌, Option, Some, None}
use Rattle.std.specs.List.{filter}
use Rattle.packet_store.specs.declared.sent.Sent.{Sent}
use Rattle.packet_store.specs.declared.sent.Kept.{Kept}
use Rattle.packet_store.specs.declared.transaction.Transaction.{Transaction}
use Rattle.packet_store.specs.Transactions.{begun_by}
use Rattle.packet_store.specs.Kept.{without, with_delivered}
use Rattle.packet_store.specs.Sound.{AreKept, withdrawn}

pub record Stored : Type 0 where
  pub kept : List Kept
  pub last : ℕ
  pub calls : ℕ

abbrev pub empty : Stored
empty = record { kept = []; last = 0; calls = 0 }

-- a packet stays while it is in flight, and while its serial is above this one
abbrev pub stays : ℕ → Kept → Bool
stays aged k = k.in_flight || nat_lt aged k.serial

-- a new packet in flight
abbrev pub newest : ℕ → Sent → Kept
newest serial sent = record { serial = serial; in_flight = true; sent = sent }

-- the bus rule: the request of a transaction withdraws each earlier packet of the transaction
abbrev pub by_bus_rule : Option Transaction → ℕ → List Kept → List Kept
by_bus_rule None last kept = kept
by_bus_rule (Some t) last kept = withdrawn t last kept

-- the packets after one more is sent: the delivered ones among the last 1,024 serials stay
abbrev pub with_sent : Sent → ℕ → List Kept → List Kept
with_sent sent last kept =
    filter (stays (last - 1024)) (by_bus_rule (begun_by sent) last (kept ++ newest last sent ∷ []))

abbrev pub send_step : Stored → Sent → Stored
send_step s sent =
    record { kept = with_sent sent (s.last + 1) s.kept; last = s.last + 1; calls = s.calls + 1 }

abbrev pub deliver_step : Stored → ℕ → Stored
deliver_step s serial = record {
  kept = if nat_lt (s.last - 1024) serial then with_delivered serial s.kept else without serial s.kept;
  last = s.last;
  calls = s.calls + 1;
}

abbrev pub lose_step : Stored → ℕ → Stored
lose_step s serial = record { kept = without serial s.kept; last = s.last; calls = s.calls + 1 }

-- the fields of a store fit each other
pub record IsStored (kept : List Kept) (last calls : ℕ) : Type 0 where
  pub sound : AreKept last (last - 1024) 0 kept
  pub counted : last ≤ calls
