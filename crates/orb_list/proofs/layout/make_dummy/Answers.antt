use Rattle.std.proofs.Common.{ℕ, ◌∙◌, ap}
use Rattle.orb_list.specs.Table.{as_dummy, with_orb_quad}
use Rattle.orb_list.proofs.layout.make_dummy.Goals as goal

pub returns : goal.returns
returns c =
    c.put_orb_quad.ensures
    ∙ ap (λ (v : ℕ). with_orb_quad c.args.image.now c.args.slot 16 v) (c.as_dummy.ensures ∙ ap as_dummy c.orb_quad-options.ensures)
