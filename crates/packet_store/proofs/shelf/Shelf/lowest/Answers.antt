use Rattle.std.proofs.Common.{◌∙◌, ap, sym}
use Rattle.packet_store.specs.Kept.{found}
use Rattle.packet_store.specs.Packets.{holds}
use Rattle.packet_store.proofs.Airborne.{least_same}
use Rattle.packet_store.proofs.Listed.{found_any}
use Rattle.packet_store.proofs.shelf.Shelf.lowest.Goals as goal

pub returns : goal.returns
returns c =
    let s = c.self.inside in
    let i = c.self.invariant.0 in
    least_same (holds s.packets) (λ q. found q c.args.self.now) s.flights.lowest
    (λ q. ap (found q) (sym c.self.view_is) ∙ found_any (holds s.packets) q s.last i.named i.first i.ends)
    c.self.invariant.1.lowest
