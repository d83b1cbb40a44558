-- What is so where no initiator injected packets was so before; and a FIFO of a login is one, is in no window, and none of a place.
use Rattle.sbp_world.proofs.Words.Std.{arith, ◌≡◌, refl, inr, ℕ, ◌^◌, ◌<◌, ◌≤◌, nat_le, Bool, true, false, cond, List, ◌++◌, Some, None, nat_tests}
use Rattle.sbp_world.proofs.Words.Wire.{Moment}
use Rattle.sbp_world.proofs.Words.Initiator.{is_fifo, Window, window_at, within}
use Rattle.sbp_world.proofs.Words.World.{is_place_fifo, IsLoginFifo, IsTame}
use Rattle.bus_memory.proofs.Found.{fifo_law}
use Rattle.sbp_world.proofs.Lists.Calm.{calm_before}

pub tame_before : (later past : List Moment) → IsTame (later ++ past) → IsTame past
tame_before later past tame = λ i. calm_before later past i (tame i)

-- it is in no window
none_by : (a b c d r x : Bool) (orb table buffer management answer rom : Window) → a ≡ false → b ≡ false → c ≡ false → d ≡ false → r ≡ false → x ≡ false → cond a (Some orb) (cond b (Some table) (cond c (Some buffer) (cond d (Some management) (cond r (Some answer) (cond x (Some rom) None))))) ≡ None
none_by false false false false false false orb table buffer management answer rom f g h j k l = refl
none_by false false false false false true orb table buffer management answer rom f g h j k l = absurd (let no : true ≡ false = l in cc)
none_by true b c d r x orb table buffer management answer rom f g h j k l = absurd (let no : true ≡ false = f in cc)
none_by false true c d r x orb table buffer management answer rom f g h j k l = absurd (let no : true ≡ false = g in cc)
none_by false false true d r x orb table buffer management answer rom f g h j k l = absurd (let no : true ≡ false = h in cc)
none_by false false false true r x orb table buffer management answer rom f g h j k l = absurd (let no : true ≡ false = j in cc)
none_by false false false false true x orb table buffer management answer rom f g h j k l = absurd (let no : true ≡ false = k in cc)

no_window : (offset : ℕ) → 0x13000000 ≤ offset → offset < 0xffff_f000_0400 → window_at offset ≡ None
unfolding window_at
no_window offset high low =
    none_by (within 0x1000_0000 0x1000_0800 offset) (within 0x1010_0000 0x1010_4000 offset) (within 0x1100_0000 0x1110_0000 offset) (within 0x1200_0000 0x1200_0040 offset) (within 0x1200_1000 0x1200_1200 offset) (nat_le 0xffff_f000_0400 offset) _ _ _ _ _ _
    (grind (arith, nat_tests)) (grind (arith, nat_tests)) (grind (arith, nat_tests)) (grind (arith, nat_tests)) (grind (arith, nat_tests)) (grind (arith, nat_tests))

module _ (fifo : ℕ) (own : IsLoginFifo fifo) where
  pub fifo_high : 0x13000000 ≤ fifo
  fifo_high = let is = own.is in omega (arith, is)

  pub fifo_low : fifo < 2 ^ 40
  fifo_low = let is = own.is in let few = own.few in omega (arith, is, few)

  pub fifo_no_window : window_at fifo ≡ None
  fifo_no_window = no_window fifo fifo_high (let low = fifo_low in omega (arith, low))

  pub fifo_no_place : is_place_fifo fifo ≡ false
  fifo_no_place = let high = fifo_high in grind (arith, nat_tests)

  pub fifo_is_fifo : is_fifo fifo ≡ true
  fifo_is_fifo = (fifo_law fifo).1 (inr (own.number, (own.few, own.is)))
