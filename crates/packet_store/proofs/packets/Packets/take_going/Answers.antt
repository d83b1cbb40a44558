use Rattle.std.proofs.Common.{rules, ◌≡◌, ◌∙◌, ap, refl, [], ◌∷◌, ◌++◌, None, Some, cond}
use Rattle.slab.specs.Slab.{get}
use Rattle.packet_store.specs.Bags.{times, with_gone}
use Rattle.packet_store.specs.Packets.{holds, key_in, kept_in}
use Rattle.packet_store.specs.Rings.{finds}
use Rattle.packet_store.specs.Transactions.{transaction_of}
use Rattle.packet_store.proofs.Keyed.{Takes, leaving, leaving_some, take_holds, take_tied}
use Rattle.packet_store.proofs.Same.{differs}
use Rattle.packet_store.proofs.packets.Packets.take_going.Goals as goal

pub returns-in_err-kept-clause-some : goal.returns-in_err-kept-clause-some
returns-in_err-kept-clause-some c = λ begun gone serial i.
    let s = c.args.self.now in
    let none : get s.slab c.args.key ≡ None = search rules in
    leaving_some s.slab (finds s.ring) (times s.bags) begun gone c.args.key none i.tied i.none

pub returns-clause-some : goal.returns-clause-some
returns-clause-some c = λ begun gone serial i. (c.in_ok-kept.kept, refl)

pub returns-clause-goes : goal.returns-clause-goes
unfolding holds
returns-clause-goes c = λ begun gone serial i.
    let s = c.args.self.now in
    let k = c.in_ok-kept.kept in
    let key = c.args.key in
    let f = finds s.ring in
    let m = times s.bags in
    let there : get s.slab key ≡ Some k = search rules in
    let l = leaving s.slab f m begun gone key i.own serial k there i.tied i.placed i.alone i.none in
    let t : Takes s.slab c.try_remove.new.self f (finds c.take.new.self) (with_gone m begun (gone ++ key ∷ [])) (with_gone m begun gone) k.serial (record { serial = k.serial; key = key; transaction = transaction_of k.sent }) k = record {
      was = i.tied.found key k there;
      there = there;
      gone = c.try_remove.ensures.updates.changed;
      others = c.try_remove.ensures.updates.others;
      placed = c.take.ensures.removed;
      less = l.less;
    } in
    record {
      going = record {
        ring = c.take.ensures.ring;
        tied = take_tied _ _ _ _ _ _ k.serial _ k i.tied t;
        full = i.full;
        own = i.own;
        placed = ap key_in (c.take.ensures.removed serial ∙ ap (λ b. cond b None (f serial)) (differs k.serial serial l.other)) ∙ i.placed;
        alone = i.alone;
        none = l.none;
      };
      was = ap (λ o. kept_in s.slab (key_in o)) t.was ∙ there;
      among = l.among;
      other = l.other;
      removed = λ q. take_holds _ _ _ _ _ _ k.serial _ k q i.tied t;
    }
