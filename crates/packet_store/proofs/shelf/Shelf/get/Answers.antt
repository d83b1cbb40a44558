use Rattle.std.proofs.Common.{◌∙◌, ap, sym}
use Rattle.packet_store.specs.Kept.{found}
use Rattle.packet_store.specs.Packets.{holds}
use Rattle.packet_store.proofs.Listed.{found_any}
use Rattle.packet_store.proofs.shelf.Shelf.get.Goals as goal

pub returns : goal.returns
returns c =
    let i = c.self.invariant.0 in
    c.get.ensures
    ∙ sym (found_any (holds c.self.inside.packets) c.args.serial c.self.inside.last i.named i.first i.ends)
    ∙ ap (found c.args.serial) c.self.view_is
