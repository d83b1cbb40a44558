-- A list of which an ORB was appended had begun; so where the latest list of a later moment has an ORB before a packet is sent, it is the latest one then.
use Rattle.sbp_world.proofs.Words.Std.{arith, ◌≡◌, refl, sym, subst, ◌<◌, ◌≤◌, ℕ, suc, nat_eq, ◌==◌, Bool, true, false, cond, List, [], ◌∷◌, ◌++◌, nat_tests}
use Rattle.sbp_world.proofs.Words.Wire.{Moment, asked, said}
use Rattle.sbp_world.proofs.Words.Laws.{before_sent, IsNextAppend, OrderLaw, appends, lists}
use Rattle.sbp_journal.specs.declared.note.Note.TheVariants as notes
use Rattle.sbp_world.proofs.Hosts.SentMoments.{sent_begins}
use Rattle.sbp_world.proofs.Lists.UnrunTerms.{lists_grow}

pub order_from : (wild : ℕ → Bool) (later past : List Moment) → OrderLaw wild (later ++ past) → OrderLaw wild past
order_from wild [] past law = law
order_from wild (m ∷ later) past law = order_from wild later past law.1

module _ (wild : ℕ → Bool) (i n : ℕ) where
  append_begun : (j m k : ℕ) (past : List Moment) → IsNextAppend past j m k → (0 < appends past i n → n < lists past i) → (a b c : Bool) → nat_eq i j ≡ a → nat_eq n m ≡ b → (k == 0) ≡ c → 0 < cond a (cond b (suc (appends past j m)) (appends past i n)) (appends past i n) → n < cond a (cond c (suc (lists past j)) (lists past j)) (lists past i)
  append_begun j m k past x ih false b c e f g h = ih h
  append_begun j m k past x ih true true c e f g h = by c g
    where
      same : n ≡ m
      same = grind (arith, nat_tests)

      by : (z : Bool) → (k == 0) ≡ z → n < cond z (suc (lists past j)) (lists past j)
      by true y = let l : m ≡ lists past j = subst (λ z. cond z m (suc m) ≡ lists past j) y x.list in let s = same in omega (arith, l, s)
      by false y = let l : suc m ≡ lists past j = subst (λ z. cond z m (suc m) ≡ lists past j) y x.list in let s = same in omega (arith, l, s)
  append_begun j m k past x ih true false c e f g h = by c
    where
      same : i ≡ j
      same = grind (arith, nat_tests)

      below : n < lists past j
      below = subst (λ y. n < lists past y) same (ih h)

      by : (z : Bool) → n < cond z (suc (lists past j)) (lists past j)
      by true = let l = below in omega (arith, l)
      by false = below

  pub was_begun : (past : List Moment) → OrderLaw wild past → 0 < appends past i n → n < lists past i
  was_begun [] law h = absurd (omega (arith, h))
  was_begun (asked line event ∷ past) law h = was_begun past law.1 h
  was_begun (said (notes.Append j m k cdb buffer) ∷ past) law h = append_begun j m k past law.0 (was_begun past law.1) (nat_eq i j) (nat_eq n m) (k == 0) refl refl refl h
  was_begun (said note ∷ past) law h = was_begun past law.1 h

  pub latest_then : (earlier : List Moment) (serial k : ℕ) → OrderLaw wild earlier → suc n ≡ lists earlier i → k < appends (before_sent earlier serial) i n → suc n ≡ lists (before_sent earlier serial) i
  latest_then earlier serial k law latest below =
      let b = sent_begins earlier serial in
      let H = before_sent earlier serial in
      let grown = subst (λ ms. lists H i ≤ lists ms i) b.is (lists_grow i b.later H) in
      let begun = was_begun H (order_from wild b.later H (subst (OrderLaw wild) (sym b.is) law)) (omega (arith, below)) in
      omega (arith, grown, begun, latest)
