-- What a command told is bytes.
use Rattle.sbp_world.proofs.Words.Std.{AllByRecursion, arith, sym, subst}
use Rattle.sbp_world.proofs.Words.Wire.{AreBytes}
use Rattle.sbp_world.proofs.Words.Target.{Outcome, Told, told_in}
use Rattle.sbp_world.proofs.Words.World.{BytesTold}
use Rattle.std.specs.Prelude.{◌≡◌, ◌<◌, ℕ, zero, suc, List, [], ◌∷◌, Option, Some, None}

-- what each command of a line told
abbrev pub AreTold : List (Option Told) → Type 0
AreTold [] = Unit {0}
AreTold (told ∷ before) = BytesTold told × AreTold before

bytes_anywhere : (bytes : List ℕ) → AllByRecursion (λ byte. byte < 256) bytes → AreBytes bytes
bytes_anywhere [] a k = omega arith
bytes_anywhere (byte ∷ bytes) a zero = a.0
bytes_anywhere (byte ∷ bytes) a (suc k) = bytes_anywhere bytes a.1 k

pub none_fits : (told : Option Told) → told ≡ None → BytesTold told
none_fits told e = subst BytesTold (sym e) tt

pub run_fits : (ran : Option Outcome) (answer : List ℕ) → AllByRecursion (λ byte. byte < 256) answer → BytesTold (told_in ran answer)
run_fits None answer a = tt
run_fits (Some outcome) answer a = bytes_anywhere answer a
