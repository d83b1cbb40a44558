use Rattle.std.proofs.Common.{rules, ◌≡◌, ◌∙◌, refl, ap, sym, subst, ◌++◌, ◌∷◌, [], None, Some, arith}
use Rattle.packet_store.specs.Bags.{begun_if}
use Rattle.packet_store.specs.Kept.{AreBelow, in_air}
use Rattle.packet_store.specs.Stored.{by_bus_rule, newest}
use Rattle.packet_store.specs.Packets.{holds}
use Rattle.packet_store.specs.Shelves.{listed}
use Rattle.packet_store.proofs.Airborne.{landed_less}
use Rattle.packet_store.proofs.Keyed.{begun_none, going_exact, going_from, gone_from}
use Rattle.packet_store.proofs.Listed.{all_ruled, none_behind, ruled_less}
use Rattle.packet_store.proofs.Shelved.{few_flights, landed_count_is, landed_flights, none_above, pushed_few, pushed_flights, pushed_list, pushed_shelf, removed_count, removed_shelf, still_flights}
use Rattle.packet_store.proofs.shelf.Shelf.push.Goals as goal

pub put-requires-clause-fresh : goal.put-requires-clause-fresh
put-requires-clause-fresh c =
    let s = c.self.inside in
    let i = c.self.invariant.0 in
    none_behind (holds s.packets) (newest c.args.serial c.args.sent) s.last c.args.serial i.named i.first i.ends (subst (AreBelow c.args.serial) (sym c.self.view_is) c.requires.above) (omega arith)

pub overflow_add-self : goal.overflow_add-self
overflow_add-self c =
    let s = c.self.inside in
    let k = newest c.args.serial c.args.sent in
    let few = pushed_few s.packets c.put.new.self k s.last s.count c.self.invariant.0 c.in_ok-going.ensures.put c.requires.counted (subst (AreBelow k.serial) (sym c.self.view_is) c.requires.above) in
    let fits = c.put.ensures.fits in
    omega (arith, few, fits)

pub take_off-requires : goal.take_off-requires
take_off-requires c =
    let s = c.self.inside in
    let k = newest c.args.serial c.args.sent in
    let few = pushed_few s.packets c.put.new.self k s.last s.count c.self.invariant.0 c.in_ok-going.ensures.put c.requires.counted (subst (AreBelow k.serial) (sym c.self.view_is) c.requires.above) in
    let fewer = few_flights s.packets s.last s.count s.flights c.self.invariant.0 c.self.invariant.1 in
    let fits = c.put.ensures.fits in
    omega (arith, few, fewer, fits)

pub loop-key-init : goal.loop-key-init
loop-key-init c =
    let s = c.self.inside in
    let k = newest c.args.serial c.args.sent in
    let begun = begun_if c.args.begins c.args.transaction in
    let b = subst (AreBelow k.serial) (sym c.self.view_is) c.requires.above in
    let put = c.in_ok-going.ensures.put in
    record {
      last = refl;
      going = c.in_ok-going.ensures.going;
      shelf = pushed_shelf s.packets c.put.new.self k s.last s.count c.self.invariant.0 put c.requires.counted b;
      flights = pushed_flights s.packets c.put.new.self k s.last s.count s.flights c.take_off.new.self c.self.invariant.0 c.self.invariant.1 put c.requires.counted b refl c.take_off.ensures.lowest c.take_off.ensures.count;
      spares = c.self.invariant.2;
      left = ap (by_bus_rule begun k.serial) (pushed_list s.packets c.put.new.self k s.last s.count c.self.invariant.0 put c.requires.counted b ∙ ap (λ xs. xs ++ k ∷ []) c.self.view_is);
    }

pub overflow_sub-self : goal.overflow_sub-self
overflow_sub-self c =
    let s = c.loop-key.self-inside in
    let k = c.in-Some-take_going.kept in
    let g = c.in-Some-take_going.ensures.goes (begun_if c.args.begins c.args.transaction) c.pop.new.self.items c.args.serial (going_from _ _ _ _ _ _ _ c.pop.ensures.items c.in-Some.is c.loop-key.invariant.going) in
    let n = removed_count s.packets c.take_going.new.self k.serial c.args.serial s.count k c.loop-key.invariant.shelf g.removed g.was in
    omega (arith, n)

pub land-requires : goal.land-requires
land-requires c =
    let s = c.loop-key.self-inside in
    let k = c.in-Some-take_going.kept in
    let i = c.loop-key.invariant in
    let g = c.in-Some-take_going.ensures.goes (begun_if c.args.begins c.args.transaction) c.pop.new.self.items c.args.serial (going_from _ _ _ _ _ _ _ c.pop.ensures.items c.in-Some.is c.loop-key.invariant.going) in
    let l = landed_less k.serial (holds s.packets) (holds c.take_going.new.self) g.removed in
    let n = landed_count_is s.packets c.take_going.new.self k.serial c.args.serial s.count s.flights i.shelf i.flights l (ap in_air g.was ∙ c.if-flew.true) in
    omega (arith, n)

pub loop-key-preserved-then-flew : goal.loop-key-preserved-then-flew
loop-key-preserved-then-flew c =
    let s = c.loop-key.self-inside in
    let k = c.in-Some-take_going.kept in
    let i = c.loop-key.invariant in
    let g = c.in-Some-take_going.ensures.goes (begun_if c.args.begins c.args.transaction) c.pop.new.self.items c.args.serial (going_from _ _ _ _ _ _ _ c.pop.ensures.items c.in-Some.is c.loop-key.invariant.going) in
    let l = landed_less k.serial (holds s.packets) (holds c.take_going.new.self) g.removed in
    record {
      last = i.last;
      going = g.going;
      shelf = removed_shelf s.packets c.take_going.new.self k.serial c.args.serial s.count k i.shelf g.removed g.was;
      flights = landed_flights s.packets c.take_going.new.self k.serial c.args.serial s.count s.flights c.land.new.self i.shelf i.flights l (ap in_air g.was ∙ c.if-flew.true) c.land.ensures.count
          (c.land.ensures.lowest (holds s.packets) l (none_above s.packets c.args.serial s.count i.shelf) i.flights.lowest);
      spares = c.set_aside.ensures i.spares;
      left = ruled_less (holds s.packets) (holds c.take_going.new.self) _ c.args.serial k.serial k i.shelf.named g.was g.other g.among g.removed ∙ i.left;
    }

pub loop-key-preserved-else-flew : goal.loop-key-preserved-else-flew
loop-key-preserved-else-flew c =
    let s = c.loop-key.self-inside in
    let k = c.in-Some-take_going.kept in
    let i = c.loop-key.invariant in
    let g = c.in-Some-take_going.ensures.goes (begun_if c.args.begins c.args.transaction) c.pop.new.self.items c.args.serial (going_from _ _ _ _ _ _ _ c.pop.ensures.items c.in-Some.is c.loop-key.invariant.going) in
    let l = landed_less k.serial (holds s.packets) (holds c.take_going.new.self) g.removed in
    record {
      last = i.last;
      going = g.going;
      shelf = removed_shelf s.packets c.take_going.new.self k.serial c.args.serial s.count k i.shelf g.removed g.was;
      flights = still_flights s.packets c.take_going.new.self k.serial c.args.serial s.flights i.flights l (ap in_air g.was ∙ c.if-flew.false);
      spares = c.set_aside.ensures i.spares;
      left = ruled_less (holds s.packets) (holds c.take_going.new.self) _ c.args.serial k.serial k i.shelf.named g.was g.other g.among g.removed ∙ i.left;
    }

pub loop-key-preserved : goal.loop-key-preserved
loop-key-preserved c =
    let some = c.take_going.ensures.some (begun_if c.args.begins c.args.transaction) c.pop.new.self.items c.args.serial (going_from _ _ _ _ _ _ _ c.pop.ensures.items c.in-Some.is c.loop-key.invariant.going) in
    let e : None ≡ Some some.0 = sym c.in_default-take_going.is ∙ some.1 in
    cc e

pub invariant_of-self-in_default : goal.invariant_of-self-in_default
invariant_of-self-in_default c =
    let i = c.loop-key.invariant in
    let none : c.loop-key.going.items ≡ [] = search rules in
    (rw i.last i.shelf, rw i.last i.flights, i.spares, going_exact _ _ _ _ none i.going)

pub returns-clause-pushed : goal.returns-clause-pushed
unfolding holds
returns-clause-pushed c =
    let s = c.loop-key.self-inside in
    let i = c.loop-key.invariant in
    let none : c.loop-key.going.items ≡ [] = search rules in
    let g = gone_from _ _ _ _ none i.going in
    ap (listed (holds s.packets)) i.last
    ∙ all_ruled (holds s.packets) _ c.args.serial i.shelf.named (λ q ne. begun_none s.packets.slab _ _ _ g.own c.args.serial q g.tied g.placed g.alone ne)
    ∙ i.left
