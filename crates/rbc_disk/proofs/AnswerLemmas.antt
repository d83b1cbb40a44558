-- The inquiry data, cut to the allocation.
use Rattle.std.proofs.Common.{◌≡◌, ℕ, List, take, min, sym, ap, ◌∙◌}
use Rattle.std.proofs.lemmas.List.{take_min}
use Rattle.rbc_disk.specs.Runs.{inquiry_bytes}

take-inquiry : (n : ℕ) → take (min n 36) inquiry_bytes ≡ take n inquiry_bytes
unfolding inquiry_bytes
take-inquiry n = take_min n inquiry_bytes

-- as many bytes as the allocation and the data have stand at the front
pub inquiry_front : (n size : ℕ) (out : List ℕ) → size ≡ min n 36 → take size out ≡ take size inquiry_bytes → take (min n 36) out ≡ take n inquiry_bytes
inquiry_front n size out e h = ap (λ k. take k out) (sym e) ∙ h ∙ ap (λ k. take k inquiry_bytes) e ∙ take-inquiry n
