-- The lines of a drill that are left, one by one.
use Rattle.std.proofs.Common.{◌≡◌, ◌<◌, ◌+◌, ◌-◌, ◌++◌, ℕ, zero, suc, Bool, true, false, [], ◌∷◌, refl, arith}
use Rattle.script_text.specs.Draws.{turn}
use Rattle.script_text.specs.Drill.{turns, settle, is_due, events_left}

pub turns_none : (left line x : ℕ) → left ≡ 0 → turns left line x ≡ []
unfolding turns
turns_none zero line x h = refl
turns_none (suc left) line x h = absurd (omega arith)

pub turns_more : (left line x : ℕ) → 0 < left → turns left line x ≡ (turn x).event ∷ (settle (is_due line (left - 1)) ++ turns (left - 1) (line + 1) (turn x).state)
unfolding turns
turns_more zero line x h = absurd (omega arith)
turns_more (suc left) line x h =
    let less : suc left - 1 ≡ left = omega arith in
    rw less refl

pub ended : (begun due : Bool) (left line x : ℕ) → begun ≡ true → due ≡ false → left ≡ 0 → events_left begun due left line x ≡ []
ended begun due left line x b d h = rw (b, d, turns_none left line x h) refl

pub going : (begun due : Bool) (left line x : ℕ) → begun ≡ true → due ≡ false → 0 < left → events_left begun due left line x ≡ (turn x).event ∷ (settle (is_due line (left - 1)) ++ turns (left - 1) (line + 1) (turn x).state)
going begun due left line x b d h = rw (b, d, turns_more left line x h) refl
