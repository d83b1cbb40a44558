use Rattle.std.proofs.Common.{arith, refl, ◌≡◌, ◌∙◌, ap, ◌-◌, ◌*◌, length, take, drop, get_or, List, ◌++◌, ℕ, length-drop, length-take}
use Rattle.byteorder.specs.Endian.{big_bytes}
use Rattle.orb_layout.proofs.Writing.{rest_written, first_apart}
use Rattle.orb_layout.proofs.fields.+put_quads.Goals as goal

pub returns-in-len1-up : goal.returns-in-len1-up
returns-in-len1-up t c =
    let size : length (take (length c.args.quads.now - 1) (drop 1 c.args.quads.now)) ≡ length c.args.quads.now - 1 = simp (length-take, length-drop) (omega arith) in
    rest_written c.args.out.now c.put_quad.new.out c.put_quads.new.out (big_bytes 4 (get_or c.args.quads.now 0 0)) _ 4 _ (4 * length c.args.quads.now)
    refl c.put_quad.ensures c.put_quads.ensures (omega arith) (omega arith)
    ∙ ap (λ (l : List ℕ). l ++ drop (4 * length c.args.quads.now) c.args.out.now) (first_apart (big_bytes 4) c.args.quads.now 0 c.in-len1-up.len_at_least)
