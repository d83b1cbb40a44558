-- How many times a list of keys has a key, once one was taken out, and of its first one.
use Rattle.std.proofs.Common.{◌≡◌, ◌∙◌, refl, sym, subst, ap, ℕ, suc, ◌+◌, ◌-◌, ◌<◌, ◌≤◌, Bool, true, false, List, [], ◌∷◌, ◌++◌, length, Option, None, Some, cond, arith}
use Rattle.std.specs.Prelude.{◌≢◌, ◌==◌, ◌&&◌, slice_index_or, unwrap_or, Result, Ok, Err, OnOk, OnErr}
use Rattle.std.specs.List.{swap_remove}
use Rattle.std.proofs.lemmas.Bool.{and_parts}
use Rattle.std.proofs.lemmas.List.Sums.{sum_by-cons, sum_by_push, sum_by-swap_remove}
use Rattle.smallvec.specs.SmallVec.{SmallVec}
use Rattle.packet_store.specs.declared.transaction.Transaction.{Transaction}
use Rattle.packet_store.specs.Transactions.{is_same, is_that}
use Rattle.packet_store.specs.Bags.{HasKey, Inserts, begun_if, count_of, keys_of, one_if, with_gone}
use Rattle.packet_store.proofs.Same.{differs, equal_of, same_test}
use Rattle.std.proofs.lemmas.Option.{same_Some}

count_cons : (x k : ℕ) (xs : List ℕ) → count_of k (x ∷ xs) ≡ one_if (x == k) + count_of k xs
count_cons x k xs = sum_by-cons (λ j. cond (j == k) 1 0) x xs

-- one less of the key that stands at a spot
pub taken_out : (keys : List ℕ) (at x key k : ℕ) → at < length keys → x ≡ key → x ≡ slice_index_or keys at x → count_of k (swap_remove keys at x) ≡ count_of k keys - one_if (key == k)
taken_out keys at x key k l e h =
    let s = sum_by-swap_remove (λ j. cond (j == k) 1 0) keys at x l in
    let a : one_if (slice_index_or keys at x == k) ≡ one_if (key == k) = ap (λ j. one_if (j == k)) (sym h ∙ e) in
    omega (arith, s, a)

none_step : (x key : ℕ) (xs : List ℕ) → x ≢ key → count_of key xs ≡ 0 → count_of key (x ∷ xs) ≡ 0
none_step x key xs ne e =
    let a : one_if (x == key) ≡ 0 = ap one_if (differs x key ne) in
    let c = count_cons x key xs in
    omega (arith, a, c, e)

none_there : (keys : List ℕ) (key : ℕ) → ((at d : ℕ) → at < length keys → slice_index_or keys at d ≢ key) → count_of key keys ≡ 0
none_there [] key h = refl
none_there (x ∷ keys) key h = none_step x key keys (h 0 0 (omega arith)) (none_there keys key (λ at d l. h (suc at) d (omega (arith, l))))

not_by : (keys : List ℕ) (key k : ℕ) (b : Bool) → (key == k) ≡ b → count_of key keys ≡ 0 → count_of k keys ≡ count_of k keys - one_if b
not_by keys key k true e n =
    let z : count_of k keys ≡ 0 = ap (λ j. count_of j keys) (sym (equal_of key k e)) ∙ n in
    omega (arith, z)
not_by keys key k false e n = omega arith

-- none less, where it is not there
pub not_there : (keys : List ℕ) (key k : ℕ) → ((at d : ℕ) → at < length keys → slice_index_or keys at d ≢ key) → count_of k keys ≡ count_of k keys - one_if (key == k)
not_there keys key k h = not_by keys key k (key == k) refl (none_there keys key h)

pub added : (keys : List ℕ) (key k : ℕ) → count_of k (keys ++ key ∷ []) ≡ one_if (key == k) + count_of k keys
added keys key k =
    let p = sum_by_push (λ j. cond (j == k) 1 0) keys key in
    omega (arith, p)

-- ---- the first key
other_here : (x : ℕ) (xs : List ℕ) → 0 < count_of x (x ∷ xs)
other_here x xs =
    let a : one_if (x == x) ≡ 1 = ap one_if (same_test x) in
    let c = count_cons x x xs in
    omega (arith, a, c)

-- ---- a bag more
abbrev made : (g r p l : ℕ) → Transaction
made g r p l = record { generation = g; requester = r; responder = p; label = l }

alike : (g r p l g2 r2 p2 l2 : ℕ) → g ≡ g2 → r ≡ r2 → p ≡ p2 → l ≡ l2 → made g r p l ≡ made g2 r2 p2 l2
alike g r p l g2 r2 p2 l2 a b c d =
    ap (λ x. made x r p l) a ∙ ap (λ x. made g2 x p l) b ∙ ap (λ x. made g2 r2 x l) c ∙ ap (λ x. made g2 r2 p2 x) d

-- the same transactions are one
pub same_is : (u t : Transaction) → is_same u t ≡ true → u ≡ t
same_is u t e =
    let a = and_parts (u.generation == t.generation) _ e in
    let b = and_parts (u.requester == t.requester) _ a.1 in
    let c = and_parts (u.responder == t.responder) (u.label == t.label) b.1 in
    alike u.generation u.requester u.responder u.label t.generation t.requester t.responder t.label
    (equal_of _ _ a.0) (equal_of _ _ b.0) (equal_of _ _ c.0) (equal_of _ _ c.1)

entered_by : (f g : Transaction → Option (SmallVec ℕ)) (u : Transaction) (bag : SmallVec ℕ) (key : ℕ) (t : Transaction) (k : ℕ) (b : Bool) → is_same u t ≡ b → f u ≡ None → count_of k bag.items ≡ one_if (key == k) → g t ≡ cond b (Some bag) (f t) → count_of k (keys_of (g t)) ≡ one_if (b && (key == k)) + count_of k (keys_of (f t))
entered_by f g u bag key t k true e none one h =
    let z : count_of k (keys_of (f t)) ≡ 0 = ap (λ v. count_of k (keys_of (f v))) (sym (same_is u t e)) ∙ ap (λ o. count_of k (keys_of o)) none in
    let n : count_of k (keys_of (g t)) ≡ count_of k bag.items = ap (λ o. count_of k (keys_of o)) h in
    omega (arith, z, n, one)
entered_by f g u bag key t k false e none one h =
    let n = ap (λ o. count_of k (keys_of o)) h in
    omega (arith, n)

pub entered : (f g : Transaction → Option (SmallVec ℕ)) (u : Transaction) (bag : SmallVec ℕ) (key : ℕ) (t : Transaction) (k : ℕ) → f u ≡ None → count_of k bag.items ≡ one_if (key == k) → ((q : Transaction) → g q ≡ cond (is_same u q) (Some bag) (f q)) → count_of k (keys_of (g t)) ≡ one_if (is_same u t && (key == k)) + count_of k (keys_of (f t))
entered f g u bag key t k none one h = entered_by f g u bag key t k (is_same u t) refl none one (h t)

pub same_same : (t : Transaction) → is_same t t ≡ true
same_same t = rw (same_test t.generation, same_test t.requester, same_test t.responder, same_test t.label) refl

-- ---- the keys that leave
nothing_by : (b : Bool) (n : ℕ) → n + cond b 0 0 ≡ n
nothing_by true n = omega arith
nothing_by false n = omega arith

pub gone_nothing : (m : Transaction → ℕ → ℕ) (begun : Option Transaction) (gone : List ℕ) (t : Transaction) (k : ℕ) → gone ≡ [] → with_gone m begun gone t k ≡ m t k
gone_nothing m begun gone t k e = ap (λ xs. m t k + cond (is_that t begun) (count_of k xs) 0) e ∙ nothing_by (is_that t begun) (m t k)

-- the keys of what was there
pub unwrapped : (o : Option (SmallVec ℕ)) (none : SmallVec ℕ) → none.items ≡ [] → (unwrap_or o none).items ≡ keys_of o
unwrapped None none e = e
unwrapped (Some bag) none e = refl

pub inserts_more : (m n : Transaction → ℕ → ℕ) (o : Option Transaction) (b : Bool) (key : ℕ) (gone : List ℕ) → b ≡ false → ((t : Transaction) (k : ℕ) → n t k ≡ one_if (is_that t o && (key == k)) + m t k) → gone ≡ [] → Inserts m n o (begun_if b o) key gone
inserts_more m n o true key gone b h e = cc b
inserts_more m n o false key gone b h e = record { added = λ t k. gone_nothing n None gone t k e ∙ h t k; alone = tt; none = e }

begun_step : (f g : Transaction → Option (SmallVec ℕ)) (u : Transaction) (bag : SmallVec ℕ) (gone : List ℕ) (key : ℕ) (t : Transaction) (k : ℕ) (b : Bool) → is_same u t ≡ b → count_of k bag.items ≡ one_if (key == k) → g t ≡ cond b (Some bag) (f t) → gone ≡ keys_of (f u) → count_of k (keys_of (g t)) + cond b (count_of k gone) 0 ≡ one_if (b && (key == k)) + count_of k (keys_of (f t))
begun_step f g u bag gone key t k true e one h was =
    let n : count_of k (keys_of (g t)) ≡ count_of k bag.items = ap (λ o. count_of k (keys_of o)) h in
    let z : count_of k gone ≡ count_of k (keys_of (f t)) = ap (count_of k) was ∙ ap (λ v. count_of k (keys_of (f v))) (same_is u t e) in
    omega (arith, n, z, one)
begun_step f g u bag gone key t k false e one h was =
    let n = ap (λ o. count_of k (keys_of o)) h in
    omega (arith, n)

pub inserts_begun : (f g : Transaction → Option (SmallVec ℕ)) (u : Transaction) (bag : SmallVec ℕ) (b : Bool) (key : ℕ) (gone : List ℕ) → b ≡ true → ((k : ℕ) → count_of k bag.items ≡ one_if (key == k)) → ((q : Transaction) → g q ≡ cond (is_same u q) (Some bag) (f q)) → gone ≡ keys_of (f u) → Inserts (λ t k. count_of k (keys_of (f t))) (λ t k. count_of k (keys_of (g t))) (Some u) (begun_if b (Some u)) key gone
inserts_begun f g u bag true key gone b one h was = record {
  added = λ t k. begun_step f g u bag gone key t k (is_same u t) refl (one k) (h t) was;
  alone = λ k. ap (λ o. count_of k (keys_of o)) (h u ∙ ap (λ c. cond c (Some bag) (f u)) (same_same u)) ∙ one k;
  none = tt;
}
inserts_begun f g u bag false key gone b one h was = cc b

-- a key that leaves is counted, and is one less once it left
pub gone_counted : (m : Transaction → ℕ → ℕ) (t : Transaction) (gone : List ℕ) (key : ℕ) → 0 < with_gone m (Some t) (gone ++ key ∷ []) t key
gone_counted m t gone key =
    let g : with_gone m (Some t) (gone ++ key ∷ []) t key ≡ m t key + count_of key (gone ++ key ∷ []) = ap (λ b. m t key + cond b (count_of key (gone ++ key ∷ [])) 0) (same_same t) in
    let p = added gone key key in
    let one : one_if (key == key) ≡ 1 = ap one_if (same_test key) in
    omega (arith, g, p, one)

pub gone_less : (m : Transaction → ℕ → ℕ) (gone : List ℕ) (key : ℕ) (u : Transaction) (j : ℕ) (b : Bool) → m u j + cond b (count_of j gone) 0 ≡ m u j + cond b (count_of j (gone ++ key ∷ [])) 0 - one_if (b && (key == j))
gone_less m gone key u j true = let p = added gone key j in omega (arith, p)
gone_less m gone key u j false = omega arith

at_most_one : (b : Bool) → one_if b ≤ 1
at_most_one true = omega arith
at_most_one false = omega arith

-- the key that stands in the bag leaves not
pub gone_other : (m : Transaction → ℕ → ℕ) (t : Transaction) (gone : List ℕ) (key own : ℕ) (b : Bool) → with_gone m (Some t) (gone ++ key ∷ []) t own ≡ one_if b → m t own ≡ one_if (own == own) → key ≢ own
gone_other m t gone key own b h alone eq =
    let g : with_gone m (Some t) (gone ++ key ∷ []) t own ≡ m t own + count_of own (gone ++ key ∷ []) = ap (λ b. m t own + cond b (count_of own (gone ++ key ∷ [])) 0) (same_same t) in
    let p = added gone key own in
    let here : one_if (key == own) ≡ 1 = ap (λ j. one_if (j == own)) eq ∙ ap one_if (same_test own) in
    let one : one_if (own == own) ≡ 1 = ap one_if (same_test own) in
    let most = at_most_one b in
    absurd (omega (arith, g, p, here, one, most, h, alone))

-- a bag in place of one that has each key as often
written_by : (f g : Transaction → Option (SmallVec ℕ)) (u : Transaction) (bag after : SmallVec ℕ) (t : Transaction) (k : ℕ) (b : Bool) → is_same u t ≡ b → f u ≡ Some bag → count_of k after.items ≡ count_of k bag.items → g t ≡ cond b (Some after) (f t) → count_of k (keys_of (g t)) ≡ count_of k (keys_of (f t))
written_by f g u bag after t k true e was same h =
    ap (λ o. count_of k (keys_of o)) h ∙ same ∙ ap (λ o. count_of k (keys_of o)) (sym was) ∙ ap (λ v. count_of k (keys_of (f v))) (same_is u t e)
written_by f g u bag after t k false e was same h = ap (λ o. count_of k (keys_of o)) h

pub written : (f g : Transaction → Option (SmallVec ℕ)) (u : Transaction) (bag after : SmallVec ℕ) (t : Transaction) (k : ℕ) → f u ≡ Some bag → count_of k after.items ≡ count_of k bag.items → ((q : Transaction) → g q ≡ cond (is_same u q) (Some after) (f q)) → count_of k (keys_of (g t)) ≡ count_of k (keys_of (f t))
written f g u bag after t k was same h = written_by f g u bag after t k (is_same u t) refl was same (h t)

-- ---- each bag has a key
pub key_added : (before after : SmallVec ℕ) (key : ℕ) → ((k : ℕ) → count_of k after.items ≡ one_if (key == k) + count_of k before.items) → HasKey after
key_added before after key e =
    let a : one_if (key == key) ≡ 1 = ap one_if (same_test key) in
    let c = e key in
    (key, omega (arith, a, c))

key_same : (before after : SmallVec ℕ) → ((k : ℕ) → count_of k after.items ≡ count_of k before.items) → HasKey before → HasKey after
key_same before after e h = (h.0, subst (λ n. 0 < n) (sym (e h.0)) h.1)

pub key_tried : {A E : Type 0} (r : Result A E) (before after : SmallVec ℕ) (key : ℕ) → OnOk r ((k : ℕ) → count_of k after.items ≡ one_if (key == k) + count_of k before.items) → OnErr r ((k : ℕ) → count_of k after.items ≡ count_of k before.items) → HasKey before → HasKey after
key_tried (Ok a) before after key more same h = key_added before after key more
key_tried (Err e) before after key more same h = key_same before after same h

pub key_first : (keys : List ℕ) → 0 < length keys → (k : ℕ) × (0 < count_of k keys)
key_first [] l = absurd (omega (arith, l))
key_first (x ∷ xs) l = (x, other_here x xs)

full_by : (f : Transaction → Option (SmallVec ℕ)) (o g : Option (SmallVec ℕ)) (t : Transaction) (bag : SmallVec ℕ) (b : Bool) → ((x : SmallVec ℕ) → o ≡ Some x → HasKey x) → ((q : Transaction) (x : SmallVec ℕ) → f q ≡ Some x → HasKey x) → g ≡ cond b o (f t) → g ≡ Some bag → HasKey bag
full_by f o g t bag true here h e l = here bag (sym e ∙ l)
full_by f o g t bag false here h e l = h t bag (sym e ∙ l)

-- one bag is another one, or none
pub full_after : (f g : Transaction → Option (SmallVec ℕ)) (u : Transaction) (o : Option (SmallVec ℕ)) → ((x : SmallVec ℕ) → o ≡ Some x → HasKey x) → ((q : Transaction) (x : SmallVec ℕ) → f q ≡ Some x → HasKey x) → ((q : Transaction) → g q ≡ cond (is_same u q) o (f q)) → (t : Transaction) (bag : SmallVec ℕ) → g t ≡ Some bag → HasKey bag
full_after f g u o here h up = λ t bag l. full_by f o (g t) t bag (is_same u t) here h (up t) l

pub key_of_some : (bag x : SmallVec ℕ) → HasKey bag → Some bag ≡ Some x → HasKey x
key_of_some bag x h e = subst (λ (y : SmallVec ℕ). HasKey y) (same_Some bag x e) h
