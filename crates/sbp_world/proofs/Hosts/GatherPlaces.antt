-- The addresses of a buffer that is laid out for a command rise: no two of its bytes stand at one place.
use Rattle.sbp_world.proofs.Words.Std.{arith, ℕ, zero, suc, ◌+◌, ◌<◌, ◌≤◌, ◌==◌, Bool, true, false, cond, List, [], ◌∷◌, ◌++◌, AllByRecursion}
use Rattle.sbp_world.proofs.Words.Wire.{Cmd}
use Rattle.sbp_world.proofs.Words.Initiator.{start, behind, addresses, buffer_addresses, single}
use Rattle.sbp_world.proofs.Words.Laws.{laid_out, placed}
use Rattle.bus_memory.specs.declared.window.Window.TheVariants as windows

-- numbers that rise, each from another one on
abbrev pub Rising : ℕ → List ℕ → Type 0
Rising from [] = Unit {0}
Rising from (x ∷ xs) = (from ≤ x) × Rising (x + 1) xs

rising_from : (a b : ℕ) (xs : List ℕ) → a ≤ b → Rising b xs → Rising a xs
rising_from a b [] e h = tt
rising_from a b (x ∷ xs) e h = let l = h.0 in (omega arith, h.1)

rising_addresses : (base count : ℕ) (xs : List ℕ) → Rising (base + count) xs → Rising base (addresses base count ++ xs)
rising_addresses base zero xs h = rising_from base (base + 0) xs (omega arith) h
rising_addresses base (suc count) xs h = (omega arith, rising_addresses (base + 1) count xs (rising_from (base + 1 + count) (base + suc count) xs (omega arith) h))

rising_placed : (at : ℕ) (counts : List ℕ) → Rising at (buffer_addresses (placed at counts))
rising_placed at [] = tt
rising_placed at (count ∷ rest) =
    rising_addresses at count (buffer_addresses (placed (behind at count) rest))
    (rising_from (at + count) (behind at count) (buffer_addresses (placed (behind at count) rest)) (omega arith) (rising_placed (behind at count) rest))

rising_single : (base len : ℕ) → Rising base (buffer_addresses (single base len))
rising_single base len = by_length (len == 0)
  where
    by_length : (b : Bool) → Rising base (buffer_addresses (cond b [] (record { base = base; length = len } ∷ [])))
    by_length true = tt
    by_length false = rising_addresses base len [] tt

pub rising_laid : (slot : ℕ) (cmd : Cmd) (segments : List ℕ) → Rising (start (windows.Buffer slot)) (buffer_addresses (laid_out slot cmd segments))
rising_laid slot cmd [] = rising_single (start (windows.Buffer slot)) cmd.length
rising_laid slot cmd (count ∷ rest) = rising_placed (start (windows.Buffer slot)) (count ∷ rest)

-- what stands in front of one is less
further : (from : ℕ) (xs : List ℕ) (y : ℕ) (ys : List ℕ) → Rising from (xs ++ y ∷ ys) → from ≤ y
further from [] y ys h = h.0
further from (x ∷ xs) y ys h = let l = h.0 in let k = further (x + 1) xs y ys h.1 in omega arith

pub in_front_of : (from : ℕ) (xs : List ℕ) (y : ℕ) (ys : List ℕ) → Rising from (xs ++ y ∷ ys) → AllByRecursion (λ x. x < y) xs
in_front_of from [] y ys h = tt
in_front_of from (x ∷ xs) y ys h = (let k = further (x + 1) xs y ys h.1 in omega arith, in_front_of (x + 1) xs y ys h.1)
