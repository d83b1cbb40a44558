-- The initiators at the start, one after the other.
use Rattle.sbp_world.proofs.Words.Std.{arith, common_steps}
use Rattle.sbp_world.proofs.Words.Initiator.{new_state}
use Rattle.sbp_world.proofs.Words.World.{new_initiators, ready_logins}
use Rattle.std.specs.Prelude.{◌≡◌, ℕ, ◌<◌, zero, suc, Bool, true, false, [], ◌∷◌, ◌++◌, length, refl}

pub initiators_none : (n : ℕ) (ready : Bool) → n ≡ zero → new_initiators n ready ≡ []
unfolding new_initiators
initiators_none zero ready e = refl
initiators_none (suc n) ready e = absurd (omega arith)

pub initiators_more : (m n : ℕ) (ready : Bool) → m ≡ suc n → new_initiators m ready ≡ new_initiators n ready ++ new_state n ready ∷ []
unfolding new_initiators
initiators_more zero n ready e = absurd (omega arith)
initiators_more (suc k) n ready e = let same : k ≡ n = omega arith in rw same

pub initiators_size : (n : ℕ) (ready : Bool) → length (new_initiators n ready) ≡ n
unfolding new_initiators
initiators_size zero ready = refl
initiators_size (suc n) ready = let s = initiators_size n ready in grind (arith, common_steps)

-- those that have a login are among them
pub ready_few : (n : ℕ) (ready : Bool) (i : ℕ) → i < ready_logins n ready → i < n
ready_few n true i l = l
ready_few n false i l = absurd (omega arith)
