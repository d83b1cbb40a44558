use Rattle.std.proofs.Common.{arith, List, ℕ, refl, ◌∙◌, ap, subst, sym, replicate}
use Rattle.bus_memory.specs.declared.window.Window.TheVariants as windows
use Rattle.bus_memory.specs.Memory.{Memory, with_bytes}
use Rattle.bus_memory.specs.Laws.{IsWhole}
use Rattle.bus_memory.proofs.Written.{whole_set}
use Rattle.orb_layout.specs.CommandOrbs.{command_bytes}
use Rattle.orb_list.proofs.Quads.{orb_alone}
use Rattle.orb_list.proofs.layout.put_orb.Goals as goal

pub returns-clause-written : goal.returns-clause-written
returns-clause-written c =
    c.put.ensures
    ∙ ap (λ (l : List ℕ). with_bytes c.args.image.now (windows.Orb c.args.slot) 0 l)
    (orb_alone c.write.new.out (command_bytes c.args.orb.now) (replicate 32 0) c.write.ensures.written refl)

pub returns-clause-whole : goal.returns-clause-whole
returns-clause-whole c =
    subst (λ (m : Memory). IsWhole m) (sym c.put.ensures)
    (whole_set c.args.image.now (windows.Orb c.args.slot) 0 c.write.new.out c.requires.whole c.requires.small (omega arith))
