use Rattle.std.proofs.Common.{◌≡◌, sym, ap, ◌∙◌, ◌-◌, ◌+◌, ◌/◌, ◌%◌, ◌^◌, arith}
use Rattle.std.proofs.lemmas.Nat.Bits.{shr_and_one}
use Rattle.config_rom.specs.Sum.{register_after, low_bits, shifted}
use Rattle.config_rom.proofs.Sums.{low_bits-next}
use Rattle.config_rom.proofs.sum.with_quad.Goals as goal

pub loop-place-preserved : goal.loop-place-preserved
loop-place-preserved c =
    let place = c.loop-place.place in
    let quad = c.args.quad in
    let register = c.loop-place.register in
    let left : 32 - (place + 1) ≡ 31 - place = omega arith in
    let next = low_bits-next (32 - place) (31 - place) quad register (omega arith) in
    ap (λ r. register_after r (low_bits (32 - (place + 1)) quad)) (c.with_bit-register.ensures ∙ ap (λ b. shifted register b) (shr_and_one quad (31 - place)))
    ∙ ap (λ n. register_after (shifted register (quad / 2 ^ (31 - place) % 2)) (low_bits n quad)) left
    ∙ sym next
    ∙ c.loop-place.invariant
