-- Bytes in either way of saying it.
use Rattle.std.proofs.Common.{ℕ, zero, suc, ◌<◌, List, [], ◌∷◌, arith}
use Rattle.std.specs.List.{All}
use Rattle.bus_transactions.specs.Fitting.{AreBytes}

pub bytes_anywhere : (bytes : List ℕ) → All (λ byte. byte < 256) bytes → AreBytes bytes
bytes_anywhere [] a k = omega arith
bytes_anywhere (byte ∷ bytes) a zero = a 0 0 (omega arith)
bytes_anywhere (byte ∷ bytes) a (suc k) = bytes_anywhere bytes (λ i d there. a (suc i) d (omega arith)) k
