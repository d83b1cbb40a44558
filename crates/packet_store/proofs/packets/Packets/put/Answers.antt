use Rattle.std.proofs.Common.{◌≡◌, ◌∙◌, ap, sym, subst, refl, ℕ, ◌+◌, Some, cond}
use Rattle.std.specs.Prelude.{◌==◌, ◌&&◌}
use Rattle.slab.specs.Slab.{get}
use Rattle.packet_store.specs.declared.transaction.Transaction.{Transaction}
use Rattle.packet_store.specs.Transactions.{is_that}
use Rattle.packet_store.specs.Bags.{begun_if, one_if, times, with_gone}
use Rattle.packet_store.specs.Packets.{AreTied, holds, key_in, kept_in}
use Rattle.packet_store.specs.Rings.{finds}
use Rattle.packet_store.proofs.Keyed.{Puts, absent, kept_same, on_error, place, put_holds, put_tied, same_tied, undone}
use Rattle.packet_store.proofs.Same.{same_test}
use Rattle.packet_store.proofs.packets.Packets.put.Goals as goal

pub returns-in_err-reserve-clause-failed : goal.returns-in_err-reserve-clause-failed
unfolding holds
returns-in_err-reserve-clause-failed c = on_error c.from_residual.result
    (λ q. kept_same c.args.self.now.slab c.reserve.new.self (key_in (finds c.args.self.now.ring q)) (λ key. ap (λ s. get s key) c.reserve.ensures.rest_kept))

pub returns-in_err-put-clause-failed : goal.returns-in_err-put-clause-failed
unfolding holds
returns-in_err-put-clause-failed c = on_error c.from_residual-in_err-put.result (λ q.
    ap (λ o. kept_in c.reserve.new.self (key_in o)) (c.in_err-put.ensures.failed q)
    ∙ kept_same c.args.self.now.slab c.reserve.new.self (key_in (finds c.args.self.now.ring q)) (λ key. ap (λ s. get s key) c.reserve.ensures.rest_kept))

pub returns-in-Err-clause-failed : goal.returns-in-Err-clause-failed
unfolding holds
returns-in-Err-clause-failed c = λ q.
    let s = c.args.self.now in
    let f = finds s.ring in
    let m = times s.bags in
    let reserved : (key : ℕ) → get c.reserve.new.self key ≡ get s.slab key = λ key. ap (λ x. get x key) c.reserve.ensures.rest_kept in
    let none = absent s.slab f m c.args.kept.serial c.requires.exact.tied c.requires.fresh in
    let back = undone f (finds c.put.new.self) (finds c.take.new.self) c.args.kept.serial (record { serial = c.args.kept.serial; key = c.vacant_key-key.result; transaction = c.args.transaction }) none c.in_ok-put.ensures.put c.take.ensures.removed in
    ap (λ o. kept_in c.reserve.new.self (key_in o)) (back q) ∙ kept_same s.slab c.reserve.new.self (key_in (f q)) reserved

pub returns-in-Err-clause-exact : goal.returns-in-Err-clause-exact
unfolding holds
returns-in-Err-clause-exact c =
    let s = c.args.self.now in
    let f = finds s.ring in
    let m = times s.bags in
    let reserved : (key : ℕ) → get c.reserve.new.self key ≡ get s.slab key = λ key. ap (λ x. get x key) c.reserve.ensures.rest_kept in
    let none = absent s.slab f m c.args.kept.serial c.requires.exact.tied c.requires.fresh in
    let back = undone f (finds c.put.new.self) (finds c.take.new.self) c.args.kept.serial (record { serial = c.args.kept.serial; key = c.vacant_key-key.result; transaction = c.args.transaction }) none c.in_ok-put.ensures.put c.take.ensures.removed in
    record { ring = c.take.ensures.ring; tied = same_tied s.slab c.reserve.new.self f (finds c.take.new.self) m (times c.insert.new.self) c.requires.exact.tied reserved back c.in-Err.ensures.failed; full = c.insert.ensures.full }

puts_of : (c : goal.After-insert_reserved) → Puts c.reserve.new.self c.insert_reserved.new.self (finds c.args.self.now.ring) (finds c.put.new.self) (times c.args.self.now.bags) (with_gone (times c.insert.new.self) (begun_if c.args.begins c.args.transaction) c.in-Ok.gone.items) c.args.kept c.vacant_key-key.result
unfolding finds holds
puts_of c =
    let s = c.args.self.now in
    let f = finds s.ring in
    let begun = begun_if c.args.begins c.args.transaction in
    record {
      vacant = c.vacant_key-key.ensures.vacant;
      none = absent s.slab f (times s.bags) c.args.kept.serial c.requires.exact.tied c.requires.fresh;
      here = ap (get c.insert_reserved.new.self) (c.vacant_key-key.ensures.value ∙ sym c.insert_reserved.ensures.key) ∙ c.insert_reserved.ensures.updates.changed;
      others = λ other ne. c.insert_reserved.ensures.updates.others other (λ e. ne (e ∙ c.insert_reserved.ensures.key ∙ sym c.vacant_key-key.ensures.value));
      placed = subst (λ o. (p : ℕ) → finds c.put.new.self p ≡ cond (c.args.kept.serial == p) (Some (record { serial = c.args.kept.serial; key = c.vacant_key-key.result; transaction = o })) (f p)) c.requires.named c.in_ok-put.ensures.put;
      added = subst (λ o. (t : Transaction) (k : ℕ) → with_gone (times c.insert.new.self) begun c.in-Ok.gone.items t k ≡ one_if (is_that t o && (c.vacant_key-key.result == k)) + times s.bags t k) c.requires.named c.in-Ok.ensures.inserted.added;
    }

tied_of : (c : goal.After-insert_reserved) → AreTied c.reserve.new.self (finds c.args.self.now.ring) (times c.args.self.now.bags)
tied_of c =
    let s = c.args.self.now in
    let f = finds s.ring in
    let m = times s.bags in
    same_tied s.slab c.reserve.new.self f f m m c.requires.exact.tied (λ key. ap (λ x. get x key) c.reserve.ensures.rest_kept) (λ q. refl) (λ t k. refl)

pub returns-in-Ok-clause-put : goal.returns-in-Ok-clause-put
unfolding holds
returns-in-Ok-clause-put c = λ q.
    let s = c.args.self.now in
    put_holds _ _ _ _ _ _ c.args.kept c.vacant_key-key.result q (tied_of c) (puts_of c)
    ∙ ap (λ o. cond (c.args.kept.serial == q) (Some c.args.kept) o) (kept_same s.slab c.reserve.new.self (key_in (finds s.ring q)) (λ key. ap (λ x. get x key) c.reserve.ensures.rest_kept))

pub returns-in-Ok-clause-going : goal.returns-in-Ok-clause-going
returns-in-Ok-clause-going c =
    let serial = c.args.kept.serial in
    let key = c.vacant_key-key.result in
    let puts = puts_of c in
    record {
      ring = c.put.ensures.ring;
      tied = put_tied _ _ _ _ _ _ c.args.kept key (tied_of c) puts;
      full = c.insert.ensures.full;
      own = key;
      placed = ap key_in (puts.placed serial ∙ ap (λ b. cond b (Some (place c.args.kept key)) (finds c.args.self.now.ring serial)) (same_test serial));
      alone = c.in-Ok.ensures.inserted.alone;
      none = c.in-Ok.ensures.inserted.none;
    }

pub put-requires-clause-fresh : goal.put-requires-clause-fresh
unfolding holds
put-requires-clause-fresh c =
    let s = c.args.self.now in
    absent s.slab (finds s.ring) (times s.bags) c.args.kept.serial c.requires.exact.tied c.requires.fresh
