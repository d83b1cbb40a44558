use Rattle.std.proofs.Common.{◌∙◌, ap, sym, arith}
use Rattle.packet_store.specs.Kept.{in_air, without}
use Rattle.packet_store.specs.Packets.{holds}
use Rattle.packet_store.proofs.Airborne.{landed_less}
use Rattle.packet_store.proofs.Keyed.{gone_already}
use Rattle.packet_store.proofs.Shelved.{landed_count_is, landed_flights, none_above, removed_count, removed_list, removed_shelf, same_flights, same_shelf, still_flights}
use Rattle.packet_store.proofs.shelf.Shelf.remove.Goals as goal

pub overflow_sub-self : goal.overflow_sub-self
overflow_sub-self c =
    let s = c.self.inside in
    let n = removed_count s.packets c.take.new.self c.args.serial s.last s.count c.in-Some.kept c.self.invariant.0 c.take.ensures.removed (sym c.take.ensures.taken ∙ c.in-Some.is) in
    omega (arith, n)

pub land-requires : goal.land-requires
land-requires c =
    let s = c.self.inside in
    let l = landed_less c.args.serial (holds s.packets) (holds c.take.new.self) c.take.ensures.removed in
    let n = landed_count_is s.packets c.take.new.self c.args.serial s.last s.count s.flights c.self.invariant.0 c.self.invariant.1 l (ap in_air (sym c.take.ensures.taken ∙ c.in-Some.is) ∙ c.if-flew.true) in
    omega (arith, n)

pub invariant_of-self : goal.invariant_of-self
invariant_of-self c =
    let s = c.self.inside in
    let i = c.self.invariant.0 in
    let here = sym c.take.ensures.taken ∙ c.in-Some.is in
    let l = landed_less c.args.serial (holds s.packets) (holds c.take.new.self) c.take.ensures.removed in (
      removed_shelf s.packets c.take.new.self c.args.serial s.last s.count c.in-Some.kept i c.take.ensures.removed here,
      landed_flights s.packets c.take.new.self c.args.serial s.last s.count s.flights c.land.new.self i c.self.invariant.1 l (ap in_air here ∙ c.if-flew.true) c.land.ensures.count
          (c.land.ensures.lowest (holds s.packets) l (none_above s.packets s.last s.count i) c.self.invariant.1.lowest),
      c.set_aside.ensures c.self.invariant.2,
      c.take.ensures.exact,
    )

pub invariant_of-self-else-flew : goal.invariant_of-self-else-flew
invariant_of-self-else-flew c =
    let s = c.self.inside in
    let i = c.self.invariant.0 in
    let here = sym c.take.ensures.taken ∙ c.in-Some.is in
    let l = landed_less c.args.serial (holds s.packets) (holds c.take.new.self) c.take.ensures.removed in (
      removed_shelf s.packets c.take.new.self c.args.serial s.last s.count c.in-Some.kept i c.take.ensures.removed here,
      still_flights s.packets c.take.new.self c.args.serial s.last s.flights c.self.invariant.1 l (ap in_air here ∙ c.if-flew.false),
      c.set_aside.ensures c.self.invariant.2,
      c.take.ensures.exact,
    )

pub returns-then-flew : goal.returns-then-flew
returns-then-flew c =
    let s = c.self.inside in
    removed_list s.packets c.take.new.self c.args.serial s.last s.count c.self.invariant.0 c.take.ensures.removed
    ∙ ap (without c.args.serial) c.self.view_is

pub returns-else-flew : goal.returns-else-flew
returns-else-flew c =
    let s = c.self.inside in
    removed_list s.packets c.take.new.self c.args.serial s.last s.count c.self.invariant.0 c.take.ensures.removed
    ∙ ap (without c.args.serial) c.self.view_is

pub invariant_of-self-in_default : goal.invariant_of-self-in_default
invariant_of-self-in_default c =
    let s = c.self.inside in
    let same = gone_already (holds s.packets) (holds c.take.new.self) c.args.serial (sym c.take.ensures.taken ∙ c.in_default.is) c.take.ensures.removed in (
      same_shelf s.packets c.take.new.self s.last s.count c.self.invariant.0 same,
      same_flights s.packets c.take.new.self s.last s.flights c.self.invariant.1 same,
      c.self.invariant.2,
      c.take.ensures.exact,
    )

pub returns-in_default : goal.returns-in_default
returns-in_default c =
    let s = c.self.inside in
    removed_list s.packets c.take.new.self c.args.serial s.last s.count c.self.invariant.0 c.take.ensures.removed
    ∙ ap (without c.args.serial) c.self.view_is
