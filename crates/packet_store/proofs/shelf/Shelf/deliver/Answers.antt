use Rattle.std.proofs.Common.{◌∙◌, ap, sym, arith}
use Rattle.packet_store.specs.Kept.{with_delivered}
use Rattle.packet_store.specs.Packets.{holds}
use Rattle.packet_store.proofs.Airborne.{landed_marked}
use Rattle.packet_store.proofs.Shelved.{delivered_list, delivered_shelf, landed_count_is, landed_flights, none_above, still_flights}
use Rattle.packet_store.proofs.shelf.Shelf.deliver.Goals as goal

pub land-requires : goal.land-requires
land-requires c =
    let s = c.self.inside in
    let l = landed_marked c.args.serial (holds s.packets) (holds c.deliver-flew.new.self) c.deliver-flew.ensures.marked in
    let n = landed_count_is s.packets c.deliver-flew.new.self c.args.serial s.last s.count s.flights c.self.invariant.0 c.self.invariant.1 l (sym c.deliver-flew.ensures.flew ∙ c.if-flew.true) in
    omega (arith, n)

pub invariant_of-self : goal.invariant_of-self
invariant_of-self c =
    let s = c.self.inside in
    let i = c.self.invariant.0 in
    let l = landed_marked c.args.serial (holds s.packets) (holds c.deliver-flew.new.self) c.deliver-flew.ensures.marked in (
      delivered_shelf s.packets c.deliver-flew.new.self c.args.serial s.last s.count i c.deliver-flew.ensures.marked,
      landed_flights s.packets c.deliver-flew.new.self c.args.serial s.last s.count s.flights c.land.new.self i c.self.invariant.1 l (sym c.deliver-flew.ensures.flew ∙ c.if-flew.true) c.land.ensures.count
          (c.land.ensures.lowest (holds s.packets) l (none_above s.packets s.last s.count i) c.self.invariant.1.lowest),
      c.self.invariant.2,
      c.deliver-flew.ensures.exact,
    )

pub invariant_of-self-else-flew : goal.invariant_of-self-else-flew
invariant_of-self-else-flew c =
    let s = c.self.inside in
    let i = c.self.invariant.0 in
    let l = landed_marked c.args.serial (holds s.packets) (holds c.deliver-flew.new.self) c.deliver-flew.ensures.marked in (
      delivered_shelf s.packets c.deliver-flew.new.self c.args.serial s.last s.count i c.deliver-flew.ensures.marked,
      still_flights s.packets c.deliver-flew.new.self c.args.serial s.last s.flights c.self.invariant.1 l (sym c.deliver-flew.ensures.flew ∙ c.if-flew.false),
      c.self.invariant.2,
      c.deliver-flew.ensures.exact,
    )

pub returns-then-flew : goal.returns-then-flew
returns-then-flew c =
    let s = c.self.inside in
    delivered_list s.packets c.deliver-flew.new.self c.args.serial s.last s.count c.self.invariant.0 c.deliver-flew.ensures.marked
    ∙ ap (with_delivered c.args.serial) c.self.view_is

pub returns-else-flew : goal.returns-else-flew
returns-else-flew c =
    let s = c.self.inside in
    delivered_list s.packets c.deliver-flew.new.self c.args.serial s.last s.count c.self.invariant.0 c.deliver-flew.ensures.marked
    ∙ ap (with_delivered c.args.serial) c.self.view_is
