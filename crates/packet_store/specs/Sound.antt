-- The kept packets, by rising serial: a delivered one is recent.
use Rattle.std.specs.Prelude.{◌≡◌, ℕ, ◌<◌, ◌≤◌, Bool, false, nat_lt, not, ◌&&◌, List, [], ◌∷◌}
use Rattle.std.specs.List.{filter}
use Rattle.packet_store.specs.declared.sent.Kept.{Kept}
use Rattle.packet_store.specs.declared.transaction.Transaction.{Transaction}
use Rattle.packet_store.specs.Transactions.{belongs}

-- a kept packet: its serial is above the one before it, and at most the last one; a delivered one is
-- recent
pub record IsKept (last since low : ℕ) (k : Kept) : Type 0 where
  pub above : low < k.serial
  pub below : k.serial ≤ last
  pub recent : k.in_flight ≡ false → since < k.serial

abbrev pub AreKept : ℕ → ℕ → ℕ → List Kept → Type 0
AreKept last since low [] = Unit {0}
AreKept last since low (k ∷ kept) = IsKept last since low k × AreKept last since k.serial kept

-- a packet that was sent before the last one, and belongs to a transaction
abbrev pub is_earlier : Transaction → ℕ → Kept → Bool
is_earlier t last k = belongs t k.sent && nat_lt k.serial last

-- the packets that a new request of a transaction leaves
abbrev pub withdrawn : Transaction → ℕ → List Kept → List Kept
withdrawn t last kept = filter (λ k. not (is_earlier t last k)) kept
