use Rattle.std.proofs.Common.{rules, ◌≡◌, ◌∙◌, ap, sym, subst, ℕ, ◌-◌, None, Some}
use Rattle.std.specs.Prelude.{◌==◌, ◌&&◌}
use Rattle.slab.specs.Slab.{get}
use Rattle.packet_store.specs.Bags.{one_if, times}
use Rattle.packet_store.specs.Packets.{holds, key_in, kept_in}
use Rattle.packet_store.specs.Rings.{finds}
use Rattle.packet_store.specs.declared.transaction.Transaction.{Transaction}
use Rattle.packet_store.specs.Transactions.{is_that}
use Rattle.packet_store.proofs.Keyed.{Takes, kept_if, place_of, take_holds, take_tied}
use Rattle.packet_store.proofs.packets.Packets.take.Goals as goal

pub returns-in_err-place-clause-taken : goal.returns-in_err-place-clause-taken
unfolding holds
returns-in_err-place-clause-taken c =
    let none : finds c.args.self.now.ring c.args.serial ≡ None = search rules in
    let r : c.from_residual.result ≡ None = search rules in
    r ∙ sym (ap (λ o. kept_in c.args.self.now.slab (key_in o)) none)

pub returns-in_err-place-clause-removed : goal.returns-in_err-place-clause-removed
unfolding holds
returns-in_err-place-clause-removed c = λ q.
    ap (λ o. kept_in c.args.self.now.slab (key_in o)) (c.take.ensures.removed q)
    ∙ kept_if c.args.self.now.slab (c.args.serial == q) (finds c.args.self.now.ring q)

takes_of : (c : goal.After-remove) → Takes c.args.self.now.slab c.try_remove.new.self (finds c.args.self.now.ring) (finds c.take.new.self) (times c.args.self.now.bags) (times c.remove.new.self) c.args.serial c.in_ok-place.place c.in_ok-kept.kept
takes_of c =
    let s = c.args.self.now in
    let was : finds s.ring c.args.serial ≡ Some c.in_ok-place.place = search rules in
    let there : get s.slab c.in_ok-place.place.key ≡ Some c.in_ok-kept.kept = search rules in
    record {
      was = was;
      there = there;
      gone = c.try_remove.ensures.updates.changed;
      others = c.try_remove.ensures.updates.others;
      placed = c.take.ensures.removed;
      less = subst (λ o. (t : Transaction) (j : ℕ) → times c.remove.new.self t j ≡ times s.bags t j - one_if (is_that t o && (c.in_ok-place.place.key == j))) (place_of s.slab (finds s.ring) (times s.bags) c.args.serial c.in_ok-place.place c.in_ok-kept.kept c.requires.tied was there) c.remove.ensures.less;
    }

pub returns-clause-taken : goal.returns-clause-taken
unfolding holds
returns-clause-taken c =
    let s = c.args.self.now in
    let takes = takes_of c in
    sym (ap (λ o. kept_in s.slab (key_in o)) takes.was ∙ takes.there)

pub returns-clause-removed : goal.returns-clause-removed
unfolding holds
returns-clause-removed c = λ q.
    let s = c.args.self.now in
    let takes = takes_of c in
    take_holds _ _ _ _ _ _ c.args.serial c.in_ok-place.place c.in_ok-kept.kept q c.requires.tied takes

pub returns-clause-exact : goal.returns-clause-exact
returns-clause-exact c =
    let s = c.args.self.now in
    let takes = takes_of c in
    record { ring = c.take.ensures.ring; tied = take_tied _ _ _ _ _ _ c.args.serial c.in_ok-place.place c.in_ok-kept.kept c.requires.tied takes; full = c.remove.ensures.full }
