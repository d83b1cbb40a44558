-- Counts of faults never fall, and rise where a call fails.
use Rattle.std.proofs.Common.{ℕ, Err, arith}
use Rattle.sbp_base.specs.Faults.{HasCause, Rose}

pub cause_rose : {A E : Type 0} (before now : ℕ) (failed : E) → HasCause {A = A} before now (Err failed) → Rose before now
cause_rose before now failed h = let e = h.counted in omega arith
