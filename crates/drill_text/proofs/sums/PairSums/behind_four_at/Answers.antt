-- One quadlet comes behind the other.
use Rattle.std.proofs.Common.{◌≡◌, ◌∙◌, sym, ap, ◌+◌, drop, arith}
use Rattle.config_rom.specs.Sum.{quad_bits, register_after}
use Rattle.drill_text.specs.Sums.{quads_of}
use Rattle.drill_text.proofs.sums.PairSums.behind_four_at.Goals as goal

pub returns : goal.returns
returns c =
    let at = c.args.at in
    let bytes = c.args.bytes.now in
    let second : at + 4 + 4 ≡ at + 8 = omega arith in
    let third : at + 8 + 4 ≡ at + 12 = omega arith in
    let fourth : at + 12 + 4 ≡ at + 16 = omega arith in
    sym (ap (λ k. register_after c.behind_quad_at.result (quad_bits (quads_of (drop k bytes)))) fourth)
    ∙ c.behind_quad_at.ensures
    ∙ sym (ap (λ k. register_after c.behind_quad_at-third.result (quad_bits (quads_of (drop k bytes)))) third)
    ∙ c.behind_quad_at-third.ensures
    ∙ sym (ap (λ k. register_after c.behind_quad_at-second.result (quad_bits (quads_of (drop k bytes)))) second)
    ∙ c.behind_quad_at-second.ensures
    ∙ c.behind_quad_at-first.ensures
