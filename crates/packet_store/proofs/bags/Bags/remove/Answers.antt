use Rattle.std.proofs.Common.{rules, ◌≡◌, ◌<◌, length, None, Some, cond}
use Rattle.std.specs.Map.{lookup}
use Rattle.packet_store.specs.declared.transaction.Transaction.{Transaction}
use Rattle.packet_store.specs.Transactions.{is_same}
use Rattle.packet_store.proofs.Bagged.{full_after, key_first, key_of_some}
use Rattle.packet_store.proofs.bags.Bags.remove.Goals as goal

pub returns-then-is_empty-clause-full : goal.returns-then-is_empty-clause-full
returns-then-is_empty-clause-full c =
    let u = c.in-Some.transaction in
    let was = c.args.self.now.bags.entries in
    let up : (q : Transaction) → lookup (is_same q) c.remove.new.self.entries ≡ cond (is_same u q) None (lookup (is_same q) was) = λ q. search rules in
    record { key = full_after (λ q. lookup (is_same q) was) (λ q. lookup (is_same q) c.remove.new.self.entries) u None (λ x e. cc e) c.requires.key up }

pub returns-else-is_empty-clause-full : goal.returns-else-is_empty-clause-full
returns-else-is_empty-clause-full c =
    let u = c.in-Some.transaction in
    let bag = c.take_out.new.bag in
    let was = c.args.self.now.bags.entries in
    let left : 0 < length bag.items = search rules in
    let up : (q : Transaction) → lookup (is_same q) (c.get_mut.follows.lender bag).entries ≡ cond (is_same u q) (Some bag) (lookup (is_same q) was) = λ q. search rules in
    record { key = full_after (λ q. lookup (is_same q) was) (λ q. lookup (is_same q) (c.get_mut.follows.lender bag).entries) u (Some bag) (λ x e. key_of_some bag x (key_first bag.items left) e) c.requires.key up }
