use Rattle.std.proofs.Common.{List, ℕ, refl, ◌∙◌, ap, replicate}
use Rattle.bus_memory.specs.declared.window.Window.TheVariants as windows
use Rattle.bus_memory.specs.Memory.{with_bytes}
use Rattle.orb_layout.specs.ManagementOrbs.{management_bytes}
use Rattle.orb_list.proofs.Quads.{orb_alone}
use Rattle.orb_list.proofs.lists.put_management.Goals as goal

pub returns : goal.returns
returns c =
    c.put_quads.ensures
    ∙ ap (λ (l : List ℕ). with_bytes c.args.image.now (windows.Management c.args.place) 0 l)
    (orb_alone c.write.new.out (management_bytes c.args.orb.now) (replicate 32 0) c.write.ensures.written refl)
