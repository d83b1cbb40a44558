use Rattle.std.proofs.Common.{rules, ◌≡◌, ◌∙◌, ap, ℕ, subst, sym, ◌==◌, Option, None, Some, cond, arith}
use Rattle.std.specs.Prelude.{unwrap_or}
use Rattle.std.specs.Map.{lookup}
use Rattle.packet_store.specs.declared.transaction.Transaction.{Transaction}
use Rattle.packet_store.specs.Transactions.{is_same}
use Rattle.smallvec.specs.SmallVec.{SmallVec}
use Rattle.packet_store.specs.declared.bags.Bags.{Bags}
use Rattle.packet_store.specs.Bags.{HasKey, Inserts, bag_at, begun_if, count_of, keys_of, one_if, times}
use Rattle.packet_store.proofs.Bagged.{entered, full_after, inserts_begun, inserts_more, key_added, key_of_some, key_tried, unwrapped, written}
use Rattle.packet_store.proofs.Keyed.{on_error}
use Rattle.packet_store.proofs.bags.Bags.insert.Goals as goal
use Rattle.packet_store.proofs.bags.Bags.insert.Goals.{After-unwrap_or, then-not-begins+in_default-get_mut, else-not-begins}

pub returns-in_err-add_to-clause-failed : goal.returns-in_err-add_to-clause-failed
unfolding times
returns-in_err-add_to-clause-failed c = on_error c.from_residual.result (λ t k.
    let u = c.in-Some.transaction in
    let bag = c.in-Some-get_mut.bag.now in
    let after = c.add_to.new.bag in
    let was : lookup (is_same u) c.args.self.now.bags.entries ≡ Some bag = search rules in
    let up : (q : Transaction) → lookup (is_same q) (c.get_mut.follows.lender after).entries ≡ cond (is_same u q) (Some after) (lookup (is_same q) c.args.self.now.bags.entries) = λ q. search rules in
    written (λ q. lookup (is_same q) c.args.self.now.bags.entries) (λ q. lookup (is_same q) (c.get_mut.follows.lender after).entries) u bag after t k was (c.in_err-add_to.ensures.failed k) up)

pub returns-in_err-add_to-clause-full : goal.returns-in_err-add_to-clause-full
returns-in_err-add_to-clause-full c =
    let u = c.in-Some.transaction in
    let bag = c.in-Some-get_mut.bag.now in
    let after = c.add_to.new.bag in
    let old = c.args.self.now.bags.entries in
    let was : lookup (is_same u) old ≡ Some bag = search rules in
    let up : (q : Transaction) → lookup (is_same q) (c.get_mut.follows.lender after).entries ≡ cond (is_same u q) (Some after) (lookup (is_same q) old) = λ q. search rules in
    let key : HasKey after = key_tried c.add_to.result bag after c.args.key c.add_to.ensures.added c.add_to.ensures.failed (c.requires.key u bag was) in
    record { key = full_after (λ q. lookup (is_same q) old) (λ q. lookup (is_same q) (c.get_mut.follows.lender after).entries) u (Some after) (λ x e. key_of_some after x key e) c.requires.key up }

pub returns-in-Some-get_mut-clause-full : goal.returns-in-Some-get_mut-clause-full
returns-in-Some-get_mut-clause-full c =
    let u = c.in-Some.transaction in
    let bag = c.in-Some-get_mut.bag.now in
    let after = c.add_to.new.bag in
    let old = c.args.self.now.bags.entries in
    let was : lookup (is_same u) old ≡ Some bag = search rules in
    let up : (q : Transaction) → lookup (is_same q) (c.get_mut.follows.lender after).entries ≡ cond (is_same u q) (Some after) (lookup (is_same q) old) = λ q. search rules in
    let key : HasKey after = key_tried c.add_to.result bag after c.args.key c.add_to.ensures.added c.add_to.ensures.failed (c.requires.key u bag was) in
    record { key = full_after (λ q. lookup (is_same q) old) (λ q. lookup (is_same q) (c.get_mut.follows.lender after).entries) u (Some after) (λ x e. key_of_some after x key e) c.requires.key up }

-- where a new bag is made the bags are as they were
same_of : (c : After-unwrap_or) → c.if-not-begins.self.bags ≡ c.args.self.now.bags
same_of c = elim c.if-not-begins.branch [
  | then-not-begins+in_default-get_mut w ↦
      let same : w.get_mut.follows.lender-at-none ≡ c.args.self.now.bags = search rules in
      ap (λ (b : Bags). b.bags) w.self-is ∙ same
  | else-not-begins w ↦ ap (λ (b : Bags). b.bags) w.self-is
]

up_of : (c : After-unwrap_or) (q : Transaction) → lookup (is_same q) c.insert.new.self.entries ≡ cond (is_same c.in-Some.transaction q) (Some c.add_to-2.new.bag) (lookup (is_same q) c.args.self.now.bags.entries)
up_of c q = c.in_ok-insert.ensures.updates.0 q ∙ ap (λ m. cond (is_same c.in-Some.transaction q) (Some c.add_to-2.new.bag) (lookup (is_same q) m.entries)) (same_of c)

pub returns-clause-full : goal.returns-clause-full
returns-clause-full c =
    let u = c.in-Some.transaction in
    let bag = c.add_to-2.new.bag in
    let key : HasKey bag = key_added c.new-bag.result bag c.args.key c.in_ok-add_to-2.ensures.added in
    record { key = full_after (λ q. lookup (is_same q) c.args.self.now.bags.entries) (λ q. lookup (is_same q) c.insert.new.self.entries) u (Some bag) (λ x e. key_of_some bag x key e) c.requires.key (up_of c) }

gone_of : (c : After-unwrap_or) → c.unwrap_or.result.items ≡ bag_at c.args.self.now.bags.entries c.in-Some.transaction
gone_of c =
    let u = c.in-Some.transaction in
    ap (λ (r : SmallVec ℕ). r.items) (c.unwrap_or.ensures ∙ ap (λ (o : Option (SmallVec ℕ)). unwrap_or o c.new-gone.result) c.in_ok-insert.ensures.old)
    ∙ unwrapped (lookup (is_same u) c.if-not-begins.self.bags.entries) c.new-gone.result c.new-gone.ensures.items
    ∙ ap (λ m. bag_at m.entries u) (same_of c)

one_of : (c : After-unwrap_or) (k : ℕ) → count_of k c.add_to-2.new.bag.items ≡ one_if (c.args.key == k)
one_of c k =
    let more = c.in_ok-add_to-2.ensures.added k in
    let empty : count_of k c.new-bag.result.items ≡ 0 = ap (count_of k) c.new-bag.ensures.items in
    omega (arith, more, empty)

pub returns-clause-inserted : goal.returns-clause-inserted
unfolding times
returns-clause-inserted c =
    let u = c.in-Some.transaction in
    let key = c.args.key in
    let bag = c.add_to-2.new.bag in
    let gone = c.unwrap_or.result.items in
    let f : Transaction → Option (SmallVec ℕ) = λ q. lookup (is_same q) c.args.self.now.bags.entries in
    let g : Transaction → Option (SmallVec ℕ) = λ q. lookup (is_same q) c.insert.new.self.entries in
    let m : Transaction → ℕ → ℕ = λ t k. count_of k (keys_of (f t)) in
    let n : Transaction → ℕ → ℕ = λ t k. count_of k (keys_of (g t)) in
    let known : Inserts m n (Some u) (begun_if c.args.begins (Some u)) key gone = elim c.if-not-begins.branch [
      | then-not-begins+in_default-get_mut w ↦
          let none : lookup (is_same u) c.args.self.now.bags.entries ≡ None = search rules in
          inserts_more m n (Some u) c.args.begins key gone w.if-not-begins.true (λ t k. entered f g u bag key t k none (one_of c k) (up_of c)) (gone_of c ∙ ap keys_of none)
      | else-not-begins w ↦ inserts_begun f g u bag c.args.begins key gone w.if-not-begins.false (one_of c) (up_of c) (gone_of c)
    ] in
    subst (λ (o : Option Transaction). Inserts m n o (begun_if c.args.begins o) key gone) (sym c.in-Some.is) known
