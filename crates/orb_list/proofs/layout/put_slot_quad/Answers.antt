use Rattle.std.proofs.Common.{ap, List, ℕ, subst, sym, ◌∙◌}
use Rattle.bus_memory.specs.Memory.{Memory, with_bytes}
use Rattle.bus_memory.specs.Laws.{IsWhole}
use Rattle.orb_list.proofs.Places.{quad_fits, slot_whole, slot_window}
use Rattle.orb_list.proofs.layout.put_slot_quad.Goals as goal

pub put-requires-clause-exists : goal.put-requires-clause-exists
put-requires-clause-exists c = slot_window c.args.window c.requires.window

pub put-requires-clause-inside : goal.put-requires-clause-inside
put-requires-clause-inside c =
    rw c.bytes_of_quad.ensures (quad_fits c.args.image.now c.args.window c.args.at c.requires.whole c.requires.window c.requires.inside)

pub returns-clause-whole : goal.returns-clause-whole
returns-clause-whole c =
    let e = c.put.ensures ∙ ap (λ (l : List ℕ). with_bytes c.args.image.now c.args.window c.args.at l) c.bytes_of_quad.ensures in
    subst (λ (m : Memory). IsWhole m) (sym e) (slot_whole c.args.image.now c.args.window c.args.at c.args.value c.requires.whole c.requires.window c.requires.inside)
