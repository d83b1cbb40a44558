-- The ties of a slab and of its two indexes, after each change.
use Rattle.std.proofs.Common.{◌≡◌, ◌∙◌, refl, sym, subst, ap, ℕ, ◌+◌, ◌-◌, ◌<◌, Bool, true, false, List, [], ◌∷◌, ◌++◌, None, Some, cond, arith}
use Rattle.std.specs.Prelude.{◌≢◌, ◌==◌, ◌&&◌, Option, Result, Ok, Err, OnErr, option_to_list}
use Rattle.slab.specs.Slab.{Slab, get}
use Rattle.packet_store.specs.declared.sent.Kept.{Kept}
use Rattle.packet_store.specs.declared.ring.Place.{Place}
use Rattle.packet_store.specs.declared.transaction.Transaction.{Transaction}
use Rattle.packet_store.specs.Transactions.{belongs, is_same, is_that, transaction_of}
use Rattle.packet_store.specs.Kept.{marked}
use Rattle.packet_store.specs.Bags.{IsAlone, NoneGone, one_if, times, with_gone}
use Rattle.packet_store.specs.Rings.{finds}
use Rattle.packet_store.specs.declared.packets.Packets.{Packets}
use Rattle.packet_store.specs.Packets.{AreTied, Exact, IsGoing, is_among, is_begun, kept_in, key_in}
use Rattle.packet_store.proofs.Bagged.{gone_counted, gone_less, gone_nothing, gone_other, same_is}
use Rattle.packet_store.proofs.Same.{and_false, and_true, differs, equal_of, same_test, unequal_of}
use Rattle.std.proofs.lemmas.Option.{same_Some}

abbrev pub place : Kept → ℕ → Place
place k key = record { serial = k.serial; key = key; transaction = transaction_of k.sent }

-- what holds at any answer holds where it is an error
pub on_error : {A E : Type 0} {X : Type 0} (r : Result A E) → X → OnErr r X
on_error (Ok a) x = tt
on_error (Err e) x = x

pub kept_same : (slab after : Slab Kept) (o : Option ℕ) → ((key : ℕ) → get after key ≡ get slab key) → kept_in after o ≡ kept_in slab o
kept_same slab after None h = refl
kept_same slab after (Some key) h = h key

pub kept_if : (slab : Slab Kept) (b : Bool) (o : Option Place) → kept_in slab (key_in (cond b None o)) ≡ cond b None (kept_in slab (key_in o))
kept_if slab true o = refl
kept_if slab false o = refl

-- one that is not there is taken out
gone_by : (f g : ℕ → Option Kept) (s q : ℕ) (b : Bool) → (s == q) ≡ b → f s ≡ None → g q ≡ cond b None (f q) → g q ≡ f q
gone_by f g s q true e none h = h ∙ sym none ∙ ap f (equal_of s q e)
gone_by f g s q false e none h = h

pub gone_already : (f g : ℕ → Option Kept) (s : ℕ) → f s ≡ None → ((q : ℕ) → g q ≡ cond (s == q) None (f q)) → (q : ℕ) → g q ≡ f q
gone_already f g s none h = λ q. gone_by f g s q (s == q) refl none (h q)

pub none_tied : (slab : Slab Kept) (f : ℕ → Option Place) (g : Transaction → ℕ → ℕ) → ((key : ℕ) → get slab key ≡ None) → ((q : ℕ) → f q ≡ None) → ((t : Transaction) (key : ℕ) → g t key ≡ 0) → AreTied slab f g
none_tied slab f g s h e = record {
  kept = λ q x l. let c : None ≡ Some x = sym (h q) ∙ l in cc c;
  found = λ key k l. let c : None ≡ Some k = sym (s key) ∙ l in cc c;
  bagged = λ t key. e t key ∙ ap (λ o. one_if (is_among t o)) (sym (s key));
}

-- the same under each serial, each key and each transaction
pub same_tied : (slab after : Slab Kept) (f g : ℕ → Option Place) (m n : Transaction → ℕ → ℕ) → AreTied slab f m → ((key : ℕ) → get after key ≡ get slab key) → ((q : ℕ) → g q ≡ f q) → ((t : Transaction) (key : ℕ) → n t key ≡ m t key) → AreTied after g n
same_tied slab after f g m n t s h e = record {
  kept = λ q x l. let a = t.kept q x (sym (h q) ∙ l) in (a.0, s x.key ∙ a.1, a.2);
  found = λ key k l. h k.serial ∙ t.found key k (sym (s key) ∙ l);
  bagged = λ u key. e u key ∙ t.bagged u key ∙ ap (λ o. one_if (is_among u o)) (sym (s key));
}

-- put there and taken out again
undone_by : (f : ℕ → Option Place) (s q : ℕ) (x : Place) (b : Bool) → (s == q) ≡ b → f s ≡ None → cond b None (cond b (Some x) (f q)) ≡ f q
undone_by f s q x true e none = sym none ∙ ap f (equal_of s q e)
undone_by f s q x false e none = refl

pub undone : (f g h : ℕ → Option Place) (s : ℕ) (x : Place) → f s ≡ None → ((q : ℕ) → g q ≡ cond (s == q) (Some x) (f q)) → ((q : ℕ) → h q ≡ cond (s == q) None (g q)) → (q : ℕ) → h q ≡ f q
undone f g h s x none a b q = b q ∙ ap (λ o. cond (s == q) None o) (a q) ∙ undone_by f s q x (s == q) refl none

-- ---- a packet more
-- a serial without a packet has no place
absent_by : (slab : Slab Kept) (f : ℕ → Option Place) (g : Transaction → ℕ → ℕ) (s : ℕ) (o : Option Place) → f s ≡ o → AreTied slab f g → kept_in slab (key_in o) ≡ None → o ≡ None
absent_by slab f g s None e t h = refl
absent_by slab f g s (Some x) e t h =
    let a = t.kept s x e in
    let c : None ≡ Some a.0 = sym h ∙ a.1 in
    cc c

pub absent : (slab : Slab Kept) (f : ℕ → Option Place) (g : Transaction → ℕ → ℕ) (s : ℕ) → AreTied slab f g → kept_in slab (key_in (f s)) ≡ None → f s ≡ None
absent slab f g s t h = absent_by slab f g s (f s) refl t h

-- what a put changes
pub record Puts (slab after : Slab Kept) (f g : ℕ → Option Place) (m n : Transaction → ℕ → ℕ) (k : Kept) (key : ℕ) : Type 0 where
  pub vacant : get slab key ≡ None
  pub none : f k.serial ≡ None
  pub here : get after key ≡ Some k
  pub others : (other : ℕ) → other ≢ key → get after other ≡ get slab other
  pub placed : (q : ℕ) → g q ≡ cond (k.serial == q) (Some (place k key)) (f q)
  pub added : (t : Transaction) (j : ℕ) → n t j ≡ one_if (is_that t (transaction_of k.sent) && (key == j)) + m t j

taken_key : (slab : Slab Kept) (key other : ℕ) (k : Kept) → get slab key ≡ None → get slab other ≡ Some k → other ≢ key
taken_key slab key other k v h eq =
    let c : None ≡ Some k = sym v ∙ ap (get slab) (sym eq) ∙ h in
    cc c

put_kept : (slab after : Slab Kept) (f g : ℕ → Option Place) (m n : Transaction → ℕ → ℕ) (k : Kept) (key q : ℕ) (x : Place) (b : Bool) → (k.serial == q) ≡ b → AreTied slab f m → Puts slab after f g m n k key → cond b (Some (place k key)) (f q) ≡ Some x → (j : Kept) × (get after x.key ≡ Some j) × (j.serial ≡ q)
put_kept slab after f g m n k key q x true e t p h =
    let same = same_Some (place k key) x h in
    (k, ap (λ (y : Place). get after y.key) (sym same) ∙ p.here, equal_of k.serial q e)
put_kept slab after f g m n k key q x false e t p h =
    let a = t.kept q x h in
    (a.0, p.others x.key (taken_key slab key x.key a.0 p.vacant a.1) ∙ a.1, a.2)

taken_serial : (f : ℕ → Option Place) (s q : ℕ) (x : Place) → f s ≡ None → f q ≡ Some x → s ≢ q
taken_serial f s q x none h eq =
    let c : None ≡ Some x = sym none ∙ ap f eq ∙ h in
    cc c

put_found : (slab after : Slab Kept) (f g : ℕ → Option Place) (m n : Transaction → ℕ → ℕ) (k : Kept) (key other : ℕ) (j : Kept) (b : Bool) → (other == key) ≡ b → AreTied slab f m → Puts slab after f g m n k key → get after other ≡ Some j → g j.serial ≡ Some (place j other)
put_found slab after f g m n k key other j true e t p h =
    let eq = equal_of other key e in
    let same = same_Some k j (sym p.here ∙ ap (get after) (sym eq) ∙ h) in
    let here : g k.serial ≡ Some (place k key) = p.placed k.serial ∙ ap (λ b. cond b (Some (place k key)) (f k.serial)) (same_test k.serial) in
    subst (λ (i : Kept). g i.serial ≡ Some (place i other)) same (here ∙ ap (λ c. Some (place k c)) (sym eq))
put_found slab after f g m n k key other j false e t p h =
    let old = t.found other j (sym (p.others other (unequal_of other key e)) ∙ h) in
    let d = differs k.serial j.serial (taken_serial f k.serial j.serial (place j other) p.none old) in
    p.placed j.serial ∙ ap (λ b. cond b (Some (place k key)) (f j.serial)) d ∙ old

put_bagged : (slab after : Slab Kept) (f g : ℕ → Option Place) (m n : Transaction → ℕ → ℕ) (k : Kept) (key other : ℕ) (t : Transaction) (b : Bool) → (key == other) ≡ b → AreTied slab f m → Puts slab after f g m n k key → n t other ≡ one_if (is_among t (get after other))
unfolding belongs
put_bagged slab after f g m n k key other t true e ties p =
    let eq = equal_of key other e in
    let old : m t other ≡ 0 = ap (m t) (sym eq) ∙ ties.bagged t key ∙ ap (λ o. one_if (is_among t o)) p.vacant in
    let add : one_if (is_that t (transaction_of k.sent) && (key == other)) ≡ one_if (is_that t (transaction_of k.sent)) = ap (λ c. one_if (is_that t (transaction_of k.sent) && c)) e ∙ ap one_if (and_true (is_that t (transaction_of k.sent))) in
    let now : one_if (is_among t (get after other)) ≡ one_if (is_that t (transaction_of k.sent)) = ap (λ i. one_if (is_among t (get after i))) (sym eq) ∙ ap (λ o. one_if (is_among t o)) p.here in
    let all = p.added t other in
    omega (arith, old, add, now, all)
put_bagged slab after f g m n k key other t false e ties p =
    let add : one_if (is_that t (transaction_of k.sent) && (key == other)) ≡ 0 = ap (λ c. one_if (is_that t (transaction_of k.sent) && c)) e ∙ ap one_if (and_false (is_that t (transaction_of k.sent))) in
    let now = ap (λ o. one_if (is_among t o)) (p.others other (λ eq. unequal_of key other e (sym eq))) in
    let old = ties.bagged t other in
    let all = p.added t other in
    omega (arith, old, add, now, all)

pub put_tied : (slab after : Slab Kept) (f g : ℕ → Option Place) (m n : Transaction → ℕ → ℕ) (k : Kept) (key : ℕ) → AreTied slab f m → Puts slab after f g m n k key → AreTied after g n
put_tied slab after f g m n k key t p = record {
  kept = λ q x h. put_kept slab after f g m n k key q x (k.serial == q) refl t p (sym (p.placed q) ∙ h);
  found = λ other j h. put_found slab after f g m n k key other j (other == key) refl t p h;
  bagged = λ u other. put_bagged slab after f g m n k key other u (key == other) refl t p;
}

put_other : (slab after : Slab Kept) (f g : ℕ → Option Place) (m n : Transaction → ℕ → ℕ) (k : Kept) (key q : ℕ) (o : Option Place) → f q ≡ o → AreTied slab f m → Puts slab after f g m n k key → kept_in after (key_in o) ≡ kept_in slab (key_in o)
put_other slab after f g m n k key q None e t p = refl
put_other slab after f g m n k key q (Some x) e t p =
    let a = t.kept q x e in
    p.others x.key (taken_key slab key x.key a.0 p.vacant a.1)

put_by : (slab after : Slab Kept) (f g : ℕ → Option Place) (m n : Transaction → ℕ → ℕ) (k : Kept) (key q : ℕ) (b : Bool) → AreTied slab f m → Puts slab after f g m n k key → kept_in after (key_in (cond b (Some (place k key)) (f q))) ≡ cond b (Some k) (kept_in slab (key_in (f q)))
put_by slab after f g m n k key q true t p = p.here
put_by slab after f g m n k key q false t p = put_other slab after f g m n k key q (f q) refl t p

pub put_holds : (slab after : Slab Kept) (f g : ℕ → Option Place) (m n : Transaction → ℕ → ℕ) (k : Kept) (key q : ℕ) → AreTied slab f m → Puts slab after f g m n k key → kept_in after (key_in (g q)) ≡ cond (k.serial == q) (Some k) (kept_in slab (key_in (f q)))
put_holds slab after f g m n k key q t p = ap (λ o. kept_in after (key_in o)) (p.placed q) ∙ put_by slab after f g m n k key q (k.serial == q) t p

-- ---- a packet less
-- what a removal changes
pub record Takes (slab after : Slab Kept) (f g : ℕ → Option Place) (m n : Transaction → ℕ → ℕ) (s : ℕ) (x : Place) (k : Kept) : Type 0 where
  pub was : f s ≡ Some x
  pub there : get slab x.key ≡ Some k
  pub gone : get after x.key ≡ None
  pub others : (other : ℕ) → other ≢ x.key → get after other ≡ get slab other
  pub placed : (q : ℕ) → g q ≡ cond (s == q) None (f q)
  pub less : (t : Transaction) (j : ℕ) → n t j ≡ m t j - one_if (is_that t (transaction_of k.sent) && (x.key == j))

-- the place of a packet has its transaction
pub place_of : (slab : Slab Kept) (f : ℕ → Option Place) (m : Transaction → ℕ → ℕ) (s : ℕ) (x : Place) (k : Kept) → AreTied slab f m → f s ≡ Some x → get slab x.key ≡ Some k → x.transaction ≡ transaction_of k.sent
place_of slab f m s x k t e h =
    let a = t.kept s x e in
    let same = same_Some a.0 k (sym a.1 ∙ h) in
    let named : s ≡ k.serial = sym a.2 ∙ ap (λ (j : Kept). j.serial) same in
    ap (λ (y : Place). y.transaction) (same_Some x (place k x.key) (sym e ∙ ap f named ∙ t.found x.key k h))

-- two serials have two keys
two_keys : (slab : Slab Kept) (f : ℕ → Option Place) (m : Transaction → ℕ → ℕ) (s q : ℕ) (x y : Place) → AreTied slab f m → f s ≡ Some x → f q ≡ Some y → s ≢ q → y.key ≢ x.key
two_keys slab f m s q x y t a b ne eq =
    let i = t.kept s x a in
    let j = t.kept q y b in
    let same = same_Some i.0 j.0 (sym i.1 ∙ ap (get slab) (sym eq) ∙ j.1) in
    ne (sym i.2 ∙ ap (λ (k : Kept). k.serial) same ∙ j.2)

take_kept : (slab after : Slab Kept) (f g : ℕ → Option Place) (m n : Transaction → ℕ → ℕ) (s : ℕ) (x : Place) (k : Kept) (q : ℕ) (y : Place) (b : Bool) → (s == q) ≡ b → AreTied slab f m → Takes slab after f g m n s x k → cond b None (f q) ≡ Some y → (j : Kept) × (get after y.key ≡ Some j) × (j.serial ≡ q)
take_kept slab after f g m n s x k q y true e t p h = cc h
take_kept slab after f g m n s x k q y false e t p h =
    let a = t.kept q y h in
    (a.0, p.others y.key (two_keys slab f m s q x y t p.was h (unequal_of s q e)) ∙ a.1, a.2)

take_found : (slab after : Slab Kept) (f g : ℕ → Option Place) (m n : Transaction → ℕ → ℕ) (s : ℕ) (x : Place) (k : Kept) (other : ℕ) (j : Kept) (b : Bool) → (other == x.key) ≡ b → AreTied slab f m → Takes slab after f g m n s x k → get after other ≡ Some j → g j.serial ≡ Some (place j other)
take_found slab after f g m n s x k other j true e t p h =
    let c : None ≡ Some j = sym p.gone ∙ ap (get after) (sym (equal_of other x.key e)) ∙ h in
    cc c
take_found slab after f g m n s x k other j false e t p h =
    let ne = unequal_of other x.key e in
    let old = t.found other j (sym (p.others other ne) ∙ h) in
    let d = differs s j.serial (λ eq. ne (ap (λ (y : Place). y.key) (same_Some (place j other) x (sym old ∙ ap f (sym eq) ∙ p.was)))) in
    p.placed j.serial ∙ ap (λ b. cond b None (f j.serial)) d ∙ old

take_bagged : (slab after : Slab Kept) (f g : ℕ → Option Place) (m n : Transaction → ℕ → ℕ) (s : ℕ) (x : Place) (k : Kept) (other : ℕ) (t : Transaction) (b : Bool) → (x.key == other) ≡ b → AreTied slab f m → Takes slab after f g m n s x k → n t other ≡ one_if (is_among t (get after other))
unfolding belongs
take_bagged slab after f g m n s x k other t true e ties p =
    let eq = equal_of x.key other e in
    let old : m t other ≡ one_if (is_that t (transaction_of k.sent)) = ap (m t) (sym eq) ∙ ties.bagged t x.key ∙ ap (λ o. one_if (is_among t o)) p.there in
    let sub : one_if (is_that t (transaction_of k.sent) && (x.key == other)) ≡ one_if (is_that t (transaction_of k.sent)) = ap (λ c. one_if (is_that t (transaction_of k.sent) && c)) e ∙ ap one_if (and_true (is_that t (transaction_of k.sent))) in
    let now : one_if (is_among t (get after other)) ≡ 0 = ap (λ i. one_if (is_among t (get after i))) (sym eq) ∙ ap (λ o. one_if (is_among t o)) p.gone in
    let all = p.less t other in
    omega (arith, old, sub, now, all)
take_bagged slab after f g m n s x k other t false e ties p =
    let sub : one_if (is_that t (transaction_of k.sent) && (x.key == other)) ≡ 0 = ap (λ c. one_if (is_that t (transaction_of k.sent) && c)) e ∙ ap one_if (and_false (is_that t (transaction_of k.sent))) in
    let now = ap (λ o. one_if (is_among t o)) (p.others other (λ eq. unequal_of x.key other e (sym eq))) in
    let old = ties.bagged t other in
    let all = p.less t other in
    omega (arith, old, sub, now, all)

pub take_tied : (slab after : Slab Kept) (f g : ℕ → Option Place) (m n : Transaction → ℕ → ℕ) (s : ℕ) (x : Place) (k : Kept) → AreTied slab f m → Takes slab after f g m n s x k → AreTied after g n
take_tied slab after f g m n s x k t p = record {
  kept = λ q y h. take_kept slab after f g m n s x k q y (s == q) refl t p (sym (p.placed q) ∙ h);
  found = λ other j h. take_found slab after f g m n s x k other j (other == x.key) refl t p h;
  bagged = λ u other. take_bagged slab after f g m n s x k other u (x.key == other) refl t p;
}

take_other : (slab after : Slab Kept) (f g : ℕ → Option Place) (m n : Transaction → ℕ → ℕ) (s : ℕ) (x : Place) (k : Kept) (q : ℕ) (o : Option Place) → f q ≡ o → s ≢ q → AreTied slab f m → Takes slab after f g m n s x k → kept_in after (key_in o) ≡ kept_in slab (key_in o)
take_other slab after f g m n s x k q None e ne t p = refl
take_other slab after f g m n s x k q (Some y) e ne t p = p.others y.key (two_keys slab f m s q x y t p.was e ne)

take_by : (slab after : Slab Kept) (f g : ℕ → Option Place) (m n : Transaction → ℕ → ℕ) (s : ℕ) (x : Place) (k : Kept) (q : ℕ) (b : Bool) → (s == q) ≡ b → AreTied slab f m → Takes slab after f g m n s x k → kept_in after (key_in (cond b None (f q))) ≡ cond b None (kept_in slab (key_in (f q)))
take_by slab after f g m n s x k q true e t p = refl
take_by slab after f g m n s x k q false e t p = take_other slab after f g m n s x k q (f q) refl (unequal_of s q e) t p

pub take_holds : (slab after : Slab Kept) (f g : ℕ → Option Place) (m n : Transaction → ℕ → ℕ) (s : ℕ) (x : Place) (k : Kept) (q : ℕ) → AreTied slab f m → Takes slab after f g m n s x k → kept_in after (key_in (g q)) ≡ cond (s == q) None (kept_in slab (key_in (f q)))
take_holds slab after f g m n s x k q t p = ap (λ o. kept_in after (key_in o)) (p.placed q) ∙ take_by slab after f g m n s x k q (s == q) refl t p

-- ---- a packet delivered
-- what a delivery changes
pub record Marks (slab after : Slab Kept) (f : ℕ → Option Place) (s key : ℕ) (k : Kept) : Type 0 where
  pub was : key_in (f s) ≡ Some key
  pub there : get slab key ≡ Some k
  pub here : get after key ≡ Some (record k { in_flight = false })
  pub others : (other : ℕ) → other ≢ key → get after other ≡ get slab other

mark_kept : (slab after : Slab Kept) (f : ℕ → Option Place) (m : Transaction → ℕ → ℕ) (s key : ℕ) (k : Kept) (q : ℕ) (x : Place) (b : Bool) → (x.key == key) ≡ b → AreTied slab f m → Marks slab after f s key k → f q ≡ Some x → (j : Kept) × (get after x.key ≡ Some j) × (j.serial ≡ q)
mark_kept slab after f m s key k q x true e t p h =
    let eq = equal_of x.key key e in
    let a = t.kept q x h in
    let same = same_Some a.0 k (sym a.1 ∙ ap (get slab) eq ∙ p.there) in
    (record k { in_flight = false }, ap (get after) eq ∙ p.here, ap (λ (i : Kept). i.serial) (sym same) ∙ a.2)
mark_kept slab after f m s key k q x false e t p h =
    let a = t.kept q x h in
    (a.0, p.others x.key (unequal_of x.key key e) ∙ a.1, a.2)

mark_found : (slab after : Slab Kept) (f : ℕ → Option Place) (m : Transaction → ℕ → ℕ) (s key : ℕ) (k : Kept) (other : ℕ) (j : Kept) (b : Bool) → (other == key) ≡ b → AreTied slab f m → Marks slab after f s key k → get after other ≡ Some j → f j.serial ≡ Some (place j other)
mark_found slab after f m s key k other j true e t p h =
    let eq = equal_of other key e in
    let same = same_Some (record k { in_flight = false }) j (sym p.here ∙ ap (get after) (sym eq) ∙ h) in
    subst (λ (i : Kept). f i.serial ≡ Some (place i other)) same (t.found other k (ap (get slab) eq ∙ p.there))
mark_found slab after f m s key k other j false e t p h = t.found other j (sym (p.others other (unequal_of other key e)) ∙ h)

mark_bagged : (slab after : Slab Kept) (f : ℕ → Option Place) (m : Transaction → ℕ → ℕ) (s key : ℕ) (k : Kept) (other : ℕ) (t : Transaction) (b : Bool) → (other == key) ≡ b → AreTied slab f m → Marks slab after f s key k → m t other ≡ one_if (is_among t (get after other))
mark_bagged slab after f m s key k other t true e ties p =
    let eq = equal_of other key e in
    ap (m t) eq ∙ ties.bagged t key ∙ ap (λ o. one_if (is_among t o)) p.there ∙ ap (λ o. one_if (is_among t o)) (sym p.here) ∙ ap (λ i. one_if (is_among t (get after i))) (sym eq)
mark_bagged slab after f m s key k other t false e ties p =
    ties.bagged t other ∙ ap (λ o. one_if (is_among t o)) (sym (p.others other (unequal_of other key e)))

pub mark_tied : (slab after : Slab Kept) (f : ℕ → Option Place) (m : Transaction → ℕ → ℕ) (s key : ℕ) (k : Kept) → AreTied slab f m → Marks slab after f s key k → AreTied after f m
mark_tied slab after f m s key k t p = record {
  kept = λ q x h. mark_kept slab after f m s key k q x (x.key == key) refl t p h;
  found = λ other j h. mark_found slab after f m s key k other j (other == key) refl t p h;
  bagged = λ u other. mark_bagged slab after f m s key k other u (other == key) refl t p;
}

some_key : (x y : ℕ) → Some x ≡ Some y → x ≡ y
some_key x y e = cc e

mark_other : (slab after : Slab Kept) (f : ℕ → Option Place) (m : Transaction → ℕ → ℕ) (s key : ℕ) (k : Kept) (q : ℕ) (o p : Option Place) → f q ≡ o → f s ≡ p → key_in p ≡ Some key → s ≢ q → AreTied slab f m → Marks slab after f s key k → kept_in after (key_in o) ≡ kept_in slab (key_in o)
mark_other slab after f m s key k q None p e d w ne t c = refl
mark_other slab after f m s key k q (Some y) None e d w ne t c = cc w
mark_other slab after f m s key k q (Some y) (Some x) e d w ne t c =
    c.others y.key (λ eq. two_keys slab f m s q x y t d e ne (eq ∙ sym (some_key x.key key w)))

mark_by : (slab after : Slab Kept) (f : ℕ → Option Place) (m : Transaction → ℕ → ℕ) (s key : ℕ) (k : Kept) (q : ℕ) (b : Bool) → (s == q) ≡ b → AreTied slab f m → Marks slab after f s key k → kept_in after (key_in (f q)) ≡ cond b (marked (kept_in slab (key_in (f q)))) (kept_in slab (key_in (f q)))
mark_by slab after f m s key k q true e t p =
    let w : key_in (f q) ≡ Some key = ap (λ i. key_in (f i)) (sym (equal_of s q e)) ∙ p.was in
    ap (kept_in after) w ∙ p.here ∙ ap marked (sym p.there) ∙ ap (λ o. marked (kept_in slab o)) (sym w)
mark_by slab after f m s key k q false e t p = mark_other slab after f m s key k q (f q) (f s) refl refl p.was (unequal_of s q e) t p

pub mark_holds : (slab after : Slab Kept) (f : ℕ → Option Place) (m : Transaction → ℕ → ℕ) (s key : ℕ) (k : Kept) (q : ℕ) → AreTied slab f m → Marks slab after f s key k → kept_in after (key_in (f q)) ≡ cond (s == q) (marked (kept_in slab (key_in (f q)))) (kept_in slab (key_in (f q)))
mark_holds slab after f m s key k q t p = mark_by slab after f m s key k q (s == q) refl t p

absent_marked_by : (slab : Slab Kept) (f : ℕ → Option Place) (s q : ℕ) (b : Bool) → (s == q) ≡ b → kept_in slab (key_in (f s)) ≡ None → kept_in slab (key_in (f q)) ≡ cond b (marked (kept_in slab (key_in (f q)))) (kept_in slab (key_in (f q)))
absent_marked_by slab f s q true e none =
    let h : kept_in slab (key_in (f q)) ≡ None = ap (λ i. kept_in slab (key_in (f i))) (sym (equal_of s q e)) ∙ none in
    h ∙ ap marked (sym h)
absent_marked_by slab f s q false e none = refl

pub absent_marked : (slab : Slab Kept) (f : ℕ → Option Place) (s q : ℕ) → kept_in slab (key_in (f s)) ≡ None → kept_in slab (key_in (f q)) ≡ cond (s == q) (marked (kept_in slab (key_in (f q)))) (kept_in slab (key_in (f q)))
absent_marked slab f s q none = absent_marked_by slab f s q (s == q) refl none

-- ---- another packet of a transaction
among_of : (slab : Slab Kept) (f : ℕ → Option Place) (m : Transaction → ℕ → ℕ) (t : Transaction) (key : ℕ) (o : Option Kept) → get slab key ≡ o → AreTied slab f m → 0 < m t key → is_among t o ≡ true
among_of slab f m t key o e ties l = among_by (is_among t o) (ap (λ p. one_if (is_among t p)) (sym e) ∙ sym (ties.bagged t key)) l
  where
    among_by : (b : Bool) → one_if b ≡ m t key → 0 < m t key → b ≡ true
    among_by true h l = refl
    among_by false h l = absurd (omega (arith, h, l))

pub other_found : (slab : Slab Kept) (f : ℕ → Option Place) (m : Transaction → ℕ → ℕ) (t : Transaction) (s key : ℕ) (k : Kept) → AreTied slab f m → get slab key ≡ Some k → 0 < m t key → key_in (f s) ≢ Some key → (is_among t (kept_in slab (key_in (f k.serial))) ≡ true) × (k.serial ≢ s)
other_found slab f m t s key k ties h l ne =
    let there = ties.found key k h in (
      ap (λ o. is_among t (kept_in slab (key_in o))) there ∙ among_of slab f m t key (get slab key) refl ties l,
      λ eq. ne (ap (λ i. key_in (f i)) (sym eq) ∙ ap key_in there),
    )

other_none_by : (slab : Slab Kept) (f : ℕ → Option Place) (m : Transaction → ℕ → ℕ) (t : Transaction) (s q : ℕ) (o : Option Place) (b : Bool) → f q ≡ o → is_among t (kept_in slab (key_in o)) ≡ b → AreTied slab f m → ((key : ℕ) → 0 < m t key → key_in (f s) ≡ Some key) → q ≢ s → b ≡ false
other_none_by slab f m t s q o false e h ties all ne = refl
other_none_by slab f m t s q None true e h ties all ne = cc h
other_none_by slab f m t s q (Some x) true e h ties all ne =
    let one : m t x.key ≡ 1 = ties.bagged t x.key ∙ ap one_if h in
    let w = all x.key (omega (arith, one)) in
    same_key slab f m s q x (f s) refl w e ties ne
  where
    same_key : (slab : Slab Kept) (f : ℕ → Option Place) (m : Transaction → ℕ → ℕ) (s q : ℕ) (x : Place) (p : Option Place) → f s ≡ p → key_in p ≡ Some x.key → f q ≡ Some x → AreTied slab f m → q ≢ s → true ≡ false
    same_key slab f m s q x None d w e ties ne = cc w
    same_key slab f m s q x (Some y) d w e ties ne = absurd (two_keys slab f m q s x y ties e d ne (some_key y.key x.key w))

pub other_none : (slab : Slab Kept) (f : ℕ → Option Place) (m : Transaction → ℕ → ℕ) (t : Transaction) (s q : ℕ) → AreTied slab f m → ((key : ℕ) → 0 < m t key → key_in (f s) ≡ Some key) → q ≢ s → is_among t (kept_in slab (key_in (f q))) ≡ false
other_none slab f m t s q ties all ne = other_none_by slab f m t s q (f q) (is_among t (kept_in slab (key_in (f q)))) refl refl ties all ne

-- none but that of the serial is of the transaction, where its bag has the key of that alone
pub begun_none : (slab : Slab Kept) (f : ℕ → Option Place) (m : Transaction → ℕ → ℕ) (begun : Option Transaction) (own s q : ℕ) → AreTied slab f (with_gone m begun []) → key_in (f s) ≡ Some own → IsAlone m begun own → q ≢ s → is_begun begun (kept_in slab (key_in (f q))) ≡ false
begun_none slab f m None own s q ties placed alone ne = refl
begun_none slab f m (Some t) own s q ties placed alone ne =
    other_none slab f (with_gone m (Some t) []) t s q ties (λ key l. placed ∙ ap Some (own_by (own == key) key refl l)) ne
  where
    own_by : (b : Bool) (key : ℕ) → (own == key) ≡ b → 0 < with_gone m (Some t) [] t key → own ≡ key
    own_by true key e l = equal_of own key e
    own_by false key e l =
        let g = gone_nothing m (Some t) [] t key refl in
        let a : m t key ≡ 0 = alone key ∙ ap one_if e in
        absurd (omega (arith, g, a, l))

-- a key under a transaction less is one less of the packet that belongs to it
less_of : (m n : Transaction → ℕ → ℕ) (t : Transaction) (key : ℕ) (o : Option Transaction) → is_that t o ≡ true → ((u : Transaction) (j : ℕ) → n u j ≡ m u j - one_if (is_same t u && (key == j))) → (u : Transaction) (j : ℕ) → n u j ≡ m u j - one_if (is_that u o && (key == j))
less_of m n t key None b h u j = cc b
less_of m n t key (Some v) b h u j = subst (λ (w : Transaction). n u j ≡ m u j - one_if (is_same w u && (key == j))) (sym (same_is v t b)) (h u j)

pub others_of : (slab : Slab Kept) (f : ℕ → Option Place) (m n : Transaction → ℕ → ℕ) (t : Transaction) (key : ℕ) (k : Kept) → AreTied slab f m → get slab key ≡ Some k → 0 < m t key → ((u : Transaction) (j : ℕ) → n u j ≡ m u j - one_if (is_same t u && (key == j))) → (u : Transaction) (j : ℕ) → n u j ≡ m u j - one_if (is_that u (transaction_of k.sent) && (key == j))
unfolding belongs
others_of slab f m n t key k ties h l less = less_of m n t key (transaction_of k.sent) (among_of slab f m t key (Some k) h ties l) less

-- ---- a packet leaves
not_none : {X : Type 0} (gone : List ℕ) (key : ℕ) → gone ++ key ∷ [] ≡ [] → X
not_none [] key e = cc e
not_none (x ∷ gone) key e = cc e

-- a key that leaves is that of a packet of the transaction
leaving_is : (slab : Slab Kept) (f : ℕ → Option Place) (m : Transaction → ℕ → ℕ) (begun : Option Transaction) (gone : List ℕ) (key : ℕ) (o : Option Kept) → get slab key ≡ o → AreTied slab f (with_gone m begun (gone ++ key ∷ [])) → NoneGone begun (gone ++ key ∷ []) → is_begun begun o ≡ true
leaving_is slab f m None gone key o e ties none = not_none gone key none
leaving_is slab f m (Some t) gone key o e ties none = among_of slab f (with_gone m (Some t) (gone ++ key ∷ [])) t key o e ties (gone_counted m t gone key)

never_begun : {X : Type 0} (begun : Option Transaction) → is_begun begun None ≡ true → X
never_begun None e = cc e
never_begun (Some t) e = cc e

pub leaving_some : {X : Type 0} (slab : Slab Kept) (f : ℕ → Option Place) (m : Transaction → ℕ → ℕ) (begun : Option Transaction) (gone : List ℕ) (key : ℕ) → get slab key ≡ None → AreTied slab f (with_gone m begun (gone ++ key ∷ [])) → NoneGone begun (gone ++ key ∷ []) → X
leaving_some slab f m begun gone key e ties none = never_begun begun (leaving_is slab f m begun gone key None e ties none)

-- what leaves is another packet, and its key one less of them
pub record Leaves (m : Transaction → ℕ → ℕ) (begun : Option Transaction) (gone : List ℕ) (key serial : ℕ) (k : Kept) : Type 0 where
  pub among : is_begun begun (Some k) ≡ true
  pub other : k.serial ≢ serial
  pub less : (u : Transaction) (j : ℕ) → with_gone m begun gone u j ≡ with_gone m begun (gone ++ key ∷ []) u j - one_if (is_that u (transaction_of k.sent) && (key == j))
  pub none : NoneGone begun gone

pub leaving : (slab : Slab Kept) (f : ℕ → Option Place) (m : Transaction → ℕ → ℕ) (begun : Option Transaction) (gone : List ℕ) (key own serial : ℕ) (k : Kept) → get slab key ≡ Some k → AreTied slab f (with_gone m begun (gone ++ key ∷ [])) → key_in (f serial) ≡ Some own → IsAlone m begun own → NoneGone begun (gone ++ key ∷ []) → Leaves m begun gone key serial k
leaving slab f m None gone key own serial k e ties placed alone none = not_none gone key none
leaving slab f m (Some t) gone key own serial k e ties placed alone none =
    let g = with_gone m (Some t) (gone ++ key ∷ []) in
    let counted = gone_counted m t gone key in
    let apart = gone_other m t gone key own (is_among t (get slab own)) (ties.bagged t own) (alone own) in
    record {
      among = leaving_is slab f m (Some t) gone key (Some k) e ties none;
      other = (other_found slab f g t serial key k ties e counted (λ w. apart (some_key key own (sym w ∙ placed)))).1;
      less = others_of slab f g (with_gone m (Some t) gone) t key k ties e counted (λ u j. gone_less m gone key u j (is_same t u));
      none = tt;
    }

-- the keys that leave are those that are left and the last one
pub going_from : (packets : Packets) (begun : Option Transaction) (serial : ℕ) (keys gone : List ℕ) (o : Option ℕ) (key : ℕ) → keys ≡ gone ++ option_to_list o → o ≡ Some key → IsGoing packets begun keys serial → IsGoing packets begun (gone ++ key ∷ []) serial
going_from packets begun serial keys gone o key e h i = subst (λ xs. IsGoing packets begun xs serial) (e ∙ ap (λ p. gone ++ option_to_list p) h) i

pub gone_from : (packets : Packets) (begun : Option Transaction) (serial : ℕ) (keys : List ℕ) → keys ≡ [] → IsGoing packets begun keys serial → IsGoing packets begun [] serial
gone_from packets begun serial keys e i = subst (λ xs. IsGoing packets begun xs serial) e i

-- none leaves any more
pub going_exact : (packets : Packets) (begun : Option Transaction) (serial : ℕ) (keys : List ℕ) → keys ≡ [] → IsGoing packets begun keys serial → Exact packets
going_exact packets begun serial keys e going =
    let i = gone_from packets begun serial keys e going in
    record {
      ring = i.ring;
      tied = same_tied packets.slab packets.slab (finds packets.ring) (finds packets.ring) (with_gone (times packets.bags) begun []) (times packets.bags) i.tied (λ key. refl) (λ q. refl) (λ t key. sym (gone_nothing (times packets.bags) begun [] t key refl));
      full = i.full;
    }
