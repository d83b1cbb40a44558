use Rattle.std.proofs.Common.{subst, sym, ◌∙◌}
use Rattle.bus_memory.specs.Memory.{Memory}
use Rattle.bus_memory.specs.Laws.{IsWhole}
use Rattle.orb_list.proofs.Managed.{quad_is_own, quad_is_set, quad_whole}
use Rattle.orb_list.proofs.lists.put_quad.Goals as goal

pub set_quad-requires : goal.set_quad-requires
set_quad-requires c =
    quad_is_own c.args.image.now c.args.place c.args.at c.orb_place.result c.orb_place.ensures c.requires.whole c.requires.place c.requires.inside

pub returns-clause-set : goal.returns-clause-set
returns-clause-set c =
    c.set_quad.ensures ∙ quad_is_set c.args.image.now c.args.place c.args.at c.args.value c.orb_place.result c.orb_place.ensures c.requires.whole c.requires.place c.requires.inside

pub returns-clause-whole : goal.returns-clause-whole
returns-clause-whole c =
    let e = c.set_quad.ensures ∙ quad_is_set c.args.image.now c.args.place c.args.at c.args.value c.orb_place.result c.orb_place.ensures c.requires.whole c.requires.place c.requires.inside in
    subst (λ (m : Memory). IsWhole m) (sym e) (quad_whole c.args.image.now c.args.place c.args.at c.args.value c.requires.whole c.requires.place c.requires.inside)
