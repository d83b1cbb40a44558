-- Zeros at the front of an ORB's room.
use Rattle.std.proofs.Common.{◌≡◌, ℕ, ◌≤◌}
use Rattle.std.specs.Prelude.{replicate, take}
use Rattle.std.proofs.lemmas.List.{take-replicate}

pub few_zeros : (count : ℕ) → count ≤ 32 → take {A = ℕ} count (replicate {A = ℕ} 32 0) ≡ replicate {A = ℕ} count 0
few_zeros count l = take-replicate {X = ℕ} count 32 0 l
