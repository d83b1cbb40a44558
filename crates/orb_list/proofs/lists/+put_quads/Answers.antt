use Rattle.std.proofs.Common.{arith, ℕ, ◌+◌, ◌∙◌, ap, drop}
use Rattle.byteorder.specs.Endian.{big_bytes}
use Rattle.bus_memory.specs.declared.window.Window.TheVariants as windows
use Rattle.bus_memory.specs.Memory.{Memory, with_bytes}
use Rattle.orb_list.proofs.Managed.{quad_behind, orb_end}
use Rattle.orb_list.proofs.lists.+put_quads.Goals as goal

pub returns : goal.returns
returns t c =
    c.put_quads.ensures
    ∙ ap (λ (m : Memory). with_bytes m (windows.Management c.args.place) (c.args.at + 4) (drop (c.args.at + 4) c.args.bytes.now))
    (c.put_quad.ensures.set ∙ ap (λ (v : ℕ). with_bytes c.args.image.now (windows.Management c.args.place) c.args.at (big_bytes 4 v)) c.quad_at.ensures)
    ∙ quad_behind c.args.image.now c.args.place c.args.at c.args.bytes.now c.requires.whole c.requires.place c.requires.size (omega arith) (λ i. omega (arith, c.type_inv.bytes i))

pub returns-then-at-eq32 : goal.returns-then-at-eq32
returns-then-at-eq32 t c = orb_end c.args.image.now c.args.place c.args.at c.args.bytes.now c.requires.size (omega arith)
