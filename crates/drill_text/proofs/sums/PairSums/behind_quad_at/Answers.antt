-- Four bytes are one more quadlet.
use Rattle.std.proofs.Common.{◌∙◌, ap, ◌+◌, drop}
use Rattle.config_rom.specs.Sum.{quad_bits, register_after}
use Rattle.drill_text.specs.Sums.{quads_of}
use Rattle.drill_text.proofs.Quads.{quads-at}
use Rattle.drill_text.proofs.sums.PairSums.behind_quad_at.Goals as goal

pub returns : goal.returns
returns c = ap (λ r. register_after r (quad_bits (quads_of (drop (c.args.at + 4) c.args.bytes.now)))) c.behind_quad.ensures ∙ quads-at c.args.sum c.args.at c.args.bytes.now c.requires
