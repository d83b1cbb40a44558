-- The weight of the packets in flight, for any weight of a packet by its serial and what was sent: how much a call adds to it, and how
-- much it takes away.
use Rattle.std.specs.Prelude.{◌≡◌, ℕ, ◌+◌, ◌≤◌, true, if◌then◌else◌, List, [], ◌∷◌, Some}
use Rattle.packet_store.specs.declared.sent.Sent.{Sent}
use Rattle.packet_store.specs.declared.sent.Kept.{Kept}
use Rattle.packet_store.specs.Kept.{found}
use Rattle.packet_store.specs.Stored.{Stored, send_step, deliver_step, lose_step}

-- what a kept packet weighs: nothing once it was delivered
abbrev pub weight_at : (ℕ → Sent → ℕ) → Kept → ℕ
weight_at f k = if k.in_flight then f k.serial k.sent else 0

-- what the packets in flight weigh together
abbrev pub weight : (ℕ → Sent → ℕ) → List Kept → ℕ
weight f [] = 0
weight f (k ∷ kept) = weight_at f k + weight f kept

-- this packet is in flight under this serial
pub record Flies (serial : ℕ) (kept : List Kept) (sent : Sent) : Type 0 where
  pub kept_as : Kept
  pub found : found serial kept ≡ Some kept_as
  pub flies : kept_as.in_flight ≡ true
  pub is_sent : kept_as.sent ≡ sent

-- A packet that is sent adds its own weight at most; one that is delivered, or lost, takes its weight away at least; and no delivery
-- and no loss adds any.
pub record Weighs (f : ℕ → Sent → ℕ) (s : Stored) : Type 0 where
  pub sends : (q : Sent) → weight f (send_step s q).kept ≤ weight f s.kept + f (s.last + 1) q
  pub delivers : (serial : ℕ) (q : Sent) → Flies serial s.kept q → weight f (deliver_step s serial).kept + f serial q ≤ weight f s.kept
  pub loses : (serial : ℕ) (q : Sent) → Flies serial s.kept q → weight f (lose_step s serial).kept + f serial q ≤ weight f s.kept
  pub delivers_any : (serial : ℕ) → weight f (deliver_step s serial).kept ≤ weight f s.kept
  pub loses_any : (serial : ℕ) → weight f (lose_step s serial).kept ≤ weight f s.kept

-- Over every state of a store, for any weight of a packet.
abbrev pub WeightLaw : Type 0
WeightLaw = (f : ℕ → Sent → ℕ) (s : Stored) → Weighs f s
