-- The packets that a function has under the serials up to a last one, as a list.
use Rattle.std.proofs.Common.{◌≡◌, ◌∙◌, refl, sym, ap, ℕ, zero, suc, ◌+◌, ◌<◌, ◌≤◌, Bool, true, false, List, [], ◌∷◌, ◌++◌, length, None, Some, cond, arith, length-append}
use Rattle.std.specs.Prelude.{◌≢◌, ◌==◌, ◌&&◌, nat_lt, not, Option}
use Rattle.std.proofs.lemmas.Bool.Decides.{nat_tests}
use Rattle.packet_store.specs.declared.sent.Kept.{Kept}
use Rattle.packet_store.specs.Kept.{without, with_delivered, delivered, found, AreBelow, marked}
use Rattle.packet_store.specs.Shelves.{entry, listed}
use Rattle.packet_store.specs.declared.transaction.Transaction.{Transaction}
use Rattle.packet_store.specs.Transactions.{belongs}
use Rattle.packet_store.specs.Packets.{is_begun}
use Rattle.packet_store.specs.Sound.{is_earlier, withdrawn}
use Rattle.packet_store.specs.Stored.{by_bus_rule}
use Rattle.packet_store.proofs.Same.{differs, equal_of, same_test, unequal_of}
use Rattle.std.proofs.lemmas.Option.{same_Some}

nil_append : (xs : List Kept) → xs ++ [] ≡ xs
nil_append [] = refl
nil_append (x ∷ xs) = ap (λ ys. x ∷ ys) (nil_append xs)

-- each packet has the serial under which it stands
abbrev pub Named : (ℕ → Option Kept) → Type 0
Named f = (q : ℕ) (k : Kept) → f q ≡ Some k → k.serial ≡ q

-- ---- looking up
abbrev or_else : Option Kept → Option Kept → Option Kept
or_else None o = o
or_else (Some k) o = Some k

or_none : (o : Option Kept) → or_else o None ≡ o
or_none None = refl
or_none (Some k) = refl

found_step : (k : Kept) (x y o : Option Kept) (b : Bool) → x ≡ or_else y o → cond b (Some k) x ≡ or_else (cond b (Some k) y) o
found_step k x y o true e = refl
found_step k x y o false e = e

found_append : (s : ℕ) (xs ys : List Kept) → found s (xs ++ ys) ≡ or_else (found s xs) (found s ys)
found_append s [] ys = refl
found_append s (k ∷ xs) ys = found_step k (found s (xs ++ ys)) (found s xs) (found s ys) (s == k.serial) (found_append s xs ys)

entry_other : (o : Option Kept) (s m : ℕ) → ((k : Kept) → o ≡ Some k → k.serial ≡ m) → (s == m) ≡ false → found s (entry o) ≡ None
entry_other None s m named d = refl
entry_other (Some k) s m named d =
    let e : (s == k.serial) ≡ false = ap (λ q. s == q) (named k refl) ∙ d in
    rw e refl

entry_here : (o : Option Kept) (s : ℕ) → ((k : Kept) → o ≡ Some k → k.serial ≡ s) → found s (entry o) ≡ o
entry_here None s named = refl
entry_here (Some k) s named =
    let e : (s == k.serial) ≡ true = ap (λ q. s == q) (named k refl) ∙ same_test s in
    rw e refl

pub found_beyond : (f : ℕ → Option Kept) (s n : ℕ) → Named f → n < s → found s (listed f n) ≡ None
found_beyond f s zero named l = refl
found_beyond f s (suc n) named l =
    found_append s (listed f n) (entry (f (suc n)))
    ∙ ap (λ o. or_else o (found s (entry (f (suc n))))) (found_beyond f s n named (omega (arith, l)))
    ∙ entry_other (f (suc n)) s (suc n) (named (suc n)) (differs s (suc n) (λ eq. absurd (omega (arith, eq, l))))

found_at : (f : ℕ → Option Kept) (s n : ℕ) (b : Bool) → (s == suc n) ≡ b → Named f → (s ≤ n → found s (listed f n) ≡ f s) → s ≤ suc n → found s (listed f n ++ entry (f (suc n))) ≡ f s
found_at f s n true e named ind l =
    let eq = equal_of s (suc n) e in
    found_append s (listed f n) (entry (f (suc n)))
    ∙ ap (λ o. or_else o (found s (entry (f (suc n))))) (found_beyond f s n named (omega (arith, eq)))
    ∙ ap (λ m. found s (entry (f m))) (sym eq)
    ∙ entry_here (f s) s (named s)
found_at f s n false e named ind l =
    let ne = unequal_of s (suc n) e in
    let below : s ≤ n = grind (arith, ne, l) in
    found_append s (listed f n) (entry (f (suc n)))
    ∙ ap (λ o. or_else (found s (listed f n)) o) (entry_other (f (suc n)) s (suc n) (named (suc n)) e)
    ∙ or_none (found s (listed f n))
    ∙ ind below

pub found_listed : (f : ℕ → Option Kept) (s n : ℕ) → Named f → f 0 ≡ None → s ≤ n → found s (listed f n) ≡ f s
found_listed f s zero named first l =
    let eq : s ≡ 0 = omega (arith, l) in
    sym first ∙ ap f (sym eq)
found_listed f s (suc n) named first l = found_at f s n (s == suc n) refl named (λ b. found_listed f s n named first b) l

found_any_by : (f : ℕ → Option Kept) (s n : ℕ) (b : Bool) → nat_lt n s ≡ b → Named f → f 0 ≡ None → ((q : ℕ) → n < q → f q ≡ None) → found s (listed f n) ≡ f s
found_any_by f s n true e named first ends =
    let l : n < s = grind (arith, nat_tests) in
    found_beyond f s n named l ∙ sym (ends s l)
found_any_by f s n false e named first ends = found_listed f s n named first (grind (arith, nat_tests))

-- of each serial
pub found_any : (f : ℕ → Option Kept) (s n : ℕ) → Named f → f 0 ≡ None → ((q : ℕ) → n < q → f q ≡ None) → found s (listed f n) ≡ f s
found_any f s n named first ends = found_any_by f s n (nat_lt n s) refl named first ends

-- ---- the same under each serial
pub listed_same : (f g : ℕ → Option Kept) (n : ℕ) → ((q : ℕ) → q ≤ n → g q ≡ f q) → listed g n ≡ listed f n
listed_same f g zero e = refl
listed_same f g (suc n) e =
    ap (λ xs. xs ++ entry (g (suc n))) (listed_same f g n (λ q l. e q (omega (arith, l))))
    ∙ ap (λ o. listed f n ++ entry o) (e (suc n) (omega arith))

-- ---- nothing behind a serial
shorter_at : (f : ℕ → Option Kept) (m n : ℕ) (b : Bool) → (m == suc n) ≡ b → ((q : ℕ) → m < q → q ≤ suc n → f q ≡ None) → (m ≤ n → listed f n ≡ listed f m) → m ≤ suc n → listed f n ++ entry (f (suc n)) ≡ listed f m
shorter_at f m n true e none ind l = ap (listed f) (sym (equal_of m (suc n) e))
shorter_at f m n false e none ind l =
    let ne = unequal_of m (suc n) e in
    let below : m ≤ n = grind (arith, ne, l) in
    ap (λ o. listed f n ++ entry o) (none (suc n) (omega (arith, below)) (omega arith))
    ∙ nil_append (listed f n)
    ∙ ind below

pub listed_shorter : (f : ℕ → Option Kept) (m n : ℕ) → ((q : ℕ) → m < q → q ≤ n → f q ≡ None) → m ≤ n → listed f n ≡ listed f m
listed_shorter f m zero none l =
    let eq : m ≡ 0 = omega (arith, l) in
    ap (listed f) (sym eq)
listed_shorter f m (suc n) none l = shorter_at f m n (m == suc n) refl none (λ b. listed_shorter f m n (λ q x y. none q x (omega (arith, y))) b) l

pub below_found : (s q : ℕ) (ks : List Kept) → AreBelow s ks → s ≤ q → found q ks ≡ None
below_found s q [] b l = refl
below_found s q (k ∷ ks) b l =
    let up = b.0 in
    let d : (q == k.serial) ≡ false = differs q k.serial (λ eq. absurd (omega (arith, eq, up, l))) in
    rw d (below_found s q ks b.1 l)

-- ---- a packet more
-- the function with a packet under its serial
pub record Puts (f g : ℕ → Option Kept) (k : Kept) : Type 0 where
  pub put : (q : ℕ) → g q ≡ cond (k.serial == q) (Some k) (f q)

kept_other : (f g : ℕ → Option Kept) (k : Kept) (q : ℕ) → Puts f g k → k.serial ≢ q → g q ≡ f q
kept_other f g k q p ne = p.put q ∙ ap (λ b. cond b (Some k) (f q)) (differs k.serial q ne)

pushed_end : (f g : ℕ → Option Kept) (k : Kept) (m : ℕ) → Puts f g k → k.serial ≡ suc m → listed g (suc m) ≡ listed f m ++ k ∷ []
pushed_end f g k m p e =
    let here : g (suc m) ≡ Some k = p.put (suc m) ∙ ap (λ b. cond b (Some k) (f (suc m))) (ap (λ s. s == suc m) e ∙ same_test (suc m)) in
    ap (λ xs. xs ++ entry (g (suc m))) (listed_same f g m (λ q l. kept_other f g k q p (λ eq. absurd (omega (arith, eq, e, l)))))
    ∙ ap (λ o. listed f m ++ entry o) here

pub none_behind : (f : ℕ → Option Kept) (k : Kept) (n q : ℕ) → Named f → f 0 ≡ None → ((p : ℕ) → n < p → f p ≡ None) → AreBelow k.serial (listed f n) → k.serial ≤ q → f q ≡ None
none_behind f k n q named first ends below l = sym (found_any f q n named first ends) ∙ below_found k.serial q (listed f n) below l

cut_by : (f : ℕ → Option Kept) (m n : ℕ) (b : Bool) → nat_lt m n ≡ b → ((q : ℕ) → m < q → f q ≡ None) → ((q : ℕ) → n < q → f q ≡ None) → listed f m ≡ listed f n
cut_by f m n true e none ends = sym (listed_shorter f m n (λ q l x. none q l) (grind (arith, nat_tests)))
cut_by f m n false e none ends = listed_shorter f n m (λ q l x. ends q l) (grind (arith, nat_tests))

pushed_from : (f g : ℕ → Option Kept) (k : Kept) (n s : ℕ) → Puts f g k → k.serial ≡ s → 0 < s → Named f → f 0 ≡ None → ((p : ℕ) → n < p → f p ≡ None) → AreBelow k.serial (listed f n) → listed g s ≡ listed f n ++ k ∷ []
pushed_from f g k n zero p e l named first ends below = absurd (omega (arith, l))
pushed_from f g k n (suc m) p e l named first ends below =
    pushed_end f g k m p e
    ∙ ap (λ xs. xs ++ k ∷ []) (cut_by f m n (nat_lt m n) refl (λ q h. none_behind f k n q named first ends below (omega (arith, e, h))) ends)

pub listed_pushed : (f g : ℕ → Option Kept) (k : Kept) (n : ℕ) → Puts f g k → 0 < k.serial → Named f → f 0 ≡ None → ((p : ℕ) → n < p → f p ≡ None) → AreBelow k.serial (listed f n) → listed g k.serial ≡ listed f n ++ k ∷ []
listed_pushed f g k n p l named first ends below = pushed_from f g k n k.serial p refl l named first ends below

named_step : (f g : ℕ → Option Kept) (k j : Kept) (q : ℕ) (b : Bool) → (k.serial == q) ≡ b → Named f → g q ≡ cond b (Some k) (f q) → g q ≡ Some j → j.serial ≡ q
named_step f g k j q true e named p h = ap (λ (x : Kept). x.serial) (same_Some j k (sym h ∙ p)) ∙ equal_of k.serial q e
named_step f g k j q false e named p h = named q j (sym p ∙ h)

pub named_put : (f g : ℕ → Option Kept) (k : Kept) → Puts f g k → Named f → Named g
named_put f g k p named = λ q j h. named_step f g k j q (k.serial == q) refl named (p.put q) h

pub first_put : (f g : ℕ → Option Kept) (k : Kept) → Puts f g k → 0 < k.serial → f 0 ≡ None → g 0 ≡ None
first_put f g k p l first = kept_other f g k 0 p (λ eq. absurd (omega (arith, eq, l))) ∙ first

pub ends_put : (f g : ℕ → Option Kept) (k : Kept) (n : ℕ) → Puts f g k → Named f → f 0 ≡ None → ((q : ℕ) → n < q → f q ≡ None) → AreBelow k.serial (listed f n) → (q : ℕ) → k.serial < q → g q ≡ None
ends_put f g k n p named first ends below q l =
    kept_other f g k q p (λ eq. absurd (omega (arith, eq, l)))
    ∙ none_behind f k n q named first ends below (omega (arith, l))

-- ---- a packet less
without_step : (s : ℕ) (k : Kept) (xs ys zs : List Kept) (b : Bool) → xs ≡ ys ++ zs → cond b (k ∷ xs) xs ≡ cond b (k ∷ ys) ys ++ zs
without_step s k xs ys zs true e = ap (λ l. k ∷ l) e
without_step s k xs ys zs false e = e

without_append : (s : ℕ) (xs ys : List Kept) → without s (xs ++ ys) ≡ without s xs ++ without s ys
without_append s [] ys = refl
without_append s (k ∷ xs) ys = without_step s k (without s (xs ++ ys)) (without s xs) (without s ys) (not (s == k.serial)) (without_append s xs ys)

without_one : (k : Kept) (b : Bool) → cond (not b) (k ∷ []) [] ≡ entry (cond b None (Some k))
without_one k true = refl
without_one k false = refl

none_entry : (b : Bool) → [] ≡ entry (cond b None None)
none_entry true = refl
none_entry false = refl

without_entry : (o : Option Kept) (s m : ℕ) → ((k : Kept) → o ≡ Some k → k.serial ≡ m) → without s (entry o) ≡ entry (cond (s == m) None o)
without_entry None s m named = none_entry (s == m)
without_entry (Some k) s m named = without_one k (s == k.serial) ∙ ap (λ q. entry (cond (s == q) None (Some k))) (named k refl)

pub listed_without : (f g : ℕ → Option Kept) (s n : ℕ) → Named f → ((q : ℕ) → g q ≡ cond (s == q) None (f q)) → listed g n ≡ without s (listed f n)
listed_without f g s zero named e = refl
listed_without f g s (suc n) named e =
    ap (λ xs. xs ++ entry (g (suc n))) (listed_without f g s n named e)
    ∙ ap (λ o. without s (listed f n) ++ entry o) (e (suc n))
    ∙ ap (λ ys. without s (listed f n) ++ ys) (sym (without_entry (f (suc n)) s (suc n) (named (suc n))))
    ∙ sym (without_append s (listed f n) (entry (f (suc n))))

named_less_step : (f g : ℕ → Option Kept) (j : Kept) (q : ℕ) (b : Bool) → Named f → g q ≡ cond b None (f q) → g q ≡ Some j → j.serial ≡ q
named_less_step f g j q true named p h = let e : None ≡ Some j = sym p ∙ h in cc e
named_less_step f g j q false named p h = named q j (sym p ∙ h)

pub named_less : (f g : ℕ → Option Kept) (s : ℕ) → Named f → ((q : ℕ) → g q ≡ cond (s == q) None (f q)) → Named g
named_less f g s named e = λ q j h. named_less_step f g j q (s == q) named (e q) h

none_if : (b : Bool) (o : Option Kept) → o ≡ None → cond b None o ≡ None
none_if true o e = refl
none_if false o e = e

pub none_less : (f g : ℕ → Option Kept) (s q : ℕ) → ((p : ℕ) → g p ≡ cond (s == p) None (f p)) → f q ≡ None → g q ≡ None
none_less f g s q e n = e q ∙ none_if (s == q) (f q) n

-- ---- those of a transaction less, but for the last one
-- what is left under a serial
abbrev pub ruled : Option Transaction → ℕ → ℕ → Option Kept → Option Kept
ruled begun last q o = cond (is_begun begun o && not (q == last)) None o

below_by : (m last : ℕ) (b : Bool) → (m == last) ≡ b → m ≤ last → nat_lt m last ≡ not b
below_by m last true e l = grind (arith, nat_tests)
below_by m last false e l = grind (arith, nat_tests)

withdrawn_one : (k : Kept) (b : Bool) → cond (not b) (k ∷ []) [] ≡ entry (cond b None (Some k))
withdrawn_one k true = refl
withdrawn_one k false = refl

withdrawn_entry : (t : Transaction) (o : Option Kept) (last m : ℕ) → m ≤ last → ((k : Kept) → o ≡ Some k → k.serial ≡ m) → withdrawn t last (entry o) ≡ entry (ruled (Some t) last m o)
withdrawn_entry t None last m l named = refl
withdrawn_entry t (Some k) last m l named =
    withdrawn_one k (belongs t k.sent && nat_lt k.serial last)
    ∙ ap (λ q. entry (cond (belongs t k.sent && nat_lt q last) None (Some k))) (named k refl)
    ∙ ap (λ b. entry (cond (belongs t k.sent && b) None (Some k))) (below_by m last (m == last) refl l)

withdrawn_append : (t : Transaction) (last : ℕ) (xs ys : List Kept) → withdrawn t last (xs ++ ys) ≡ withdrawn t last xs ++ withdrawn t last ys
withdrawn_append t last [] ys = refl
withdrawn_append t last (k ∷ xs) ys = without_step last k (withdrawn t last (xs ++ ys)) (withdrawn t last xs) (withdrawn t last ys) (not (is_earlier t last k)) (withdrawn_append t last xs ys)

listed_withdrawn : (f g : ℕ → Option Kept) (t : Transaction) (last n : ℕ) → n ≤ last → Named f → ((q : ℕ) → g q ≡ ruled (Some t) last q (f q)) → listed g n ≡ withdrawn t last (listed f n)
listed_withdrawn f g t last zero l named e = refl
listed_withdrawn f g t last (suc n) l named e =
    ap (λ xs. xs ++ entry (g (suc n))) (listed_withdrawn f g t last n (omega (arith, l)) named e)
    ∙ ap (λ o. withdrawn t last (listed f n) ++ entry o) (e (suc n))
    ∙ ap (λ ys. withdrawn t last (listed f n) ++ ys) (sym (withdrawn_entry t (f (suc n)) last (suc n) l (named (suc n))))
    ∙ sym (withdrawn_append t last (listed f n) (entry (f (suc n))))

pub listed_ruled : (f g : ℕ → Option Kept) (begun : Option Transaction) (last : ℕ) → Named f → ((q : ℕ) → g q ≡ ruled begun last q (f q)) → listed g last ≡ by_bus_rule begun last (listed f last)
listed_ruled f g None last named e = listed_same f g last (λ q l. e q)
listed_ruled f g (Some t) last named e = listed_withdrawn f g t last last (omega arith) named e

-- the one that is taken out would not be left
ruled_by : (begun : Option Transaction) (last s q : ℕ) (k : Kept) (o : Option Kept) (b : Bool) → (s == q) ≡ b → s ≢ last → is_begun begun (Some k) ≡ true → (s ≡ q → o ≡ Some k) → ruled begun last q (cond b None o) ≡ ruled begun last q o
ruled_by begun last s q k o true e ne among here =
    let eq = equal_of s q e in
    let d : (q == last) ≡ false = differs q last (λ x. ne (eq ∙ x)) in
    none_ruled begun last q ∙ sym (ap (λ p. ruled begun last q p) (here eq) ∙ rw (among, d) refl)
  where
    none_ruled : (begun : Option Transaction) (last q : ℕ) → ruled begun last q None ≡ None
    none_ruled None last q = refl
    none_ruled (Some t) last q = refl
ruled_by begun last s q k o false e ne among here = refl

-- so the list that is left is the same
pub ruled_less : (f g : ℕ → Option Kept) (begun : Option Transaction) (last s : ℕ) (k : Kept) → Named f → f s ≡ Some k → s ≢ last → is_begun begun (Some k) ≡ true → ((q : ℕ) → g q ≡ cond (s == q) None (f q)) → by_bus_rule begun last (listed g last) ≡ by_bus_rule begun last (listed f last)
ruled_less f g begun last s k named here ne among e =
    sym (listed_ruled g (λ q. ruled begun last q (g q)) begun last (named_less f g s named e) (λ q. refl))
    ∙ listed_ruled f (λ q. ruled begun last q (g q)) begun last named
    (λ q. ap (ruled begun last q) (e q) ∙ ruled_by begun last s q k (f q) (s == q) refl ne among (λ eq. ap f (sym eq) ∙ here))

-- all are left where none but the last one is of the transaction
stays_ruled : (begun : Option Transaction) (last q : ℕ) (o : Option Kept) (b : Bool) → (q == last) ≡ b → (q ≢ last → is_begun begun o ≡ false) → o ≡ ruled begun last q o
stays_ruled begun last q o true e none = stays_at (is_begun begun o) (q == last) o e
  where
    stays_at : (b c : Bool) (o : Option Kept) → c ≡ true → o ≡ cond (b && not c) None o
    stays_at true true o e = refl
    stays_at true false o e = cc e
    stays_at false c o e = refl
stays_ruled begun last q o false e none =
    let n = none (unequal_of q last e) in
    rw n refl

pub all_ruled : (f : ℕ → Option Kept) (begun : Option Transaction) (last : ℕ) → Named f → ((q : ℕ) → q ≢ last → is_begun begun (f q) ≡ false) → listed f last ≡ by_bus_rule begun last (listed f last)
all_ruled f begun last named none = listed_ruled f f begun last named (λ q. stays_ruled begun last q (f q) (q == last) refl (none q))

-- ---- how many
one_more : (xs : List Kept) (o : Option Kept) (n : ℕ) → length xs ≤ n → length (xs ++ entry o) ≤ suc n
one_more xs None n l = let e = ap length (nil_append xs) in omega (arith, e, l)
one_more xs (Some k) n l = let e : length (xs ++ k ∷ []) ≡ length xs + 1 = length-append xs (k ∷ []) in omega (arith, e, l)

pub listed_few : (f : ℕ → Option Kept) (n : ℕ) → length (listed f n) ≤ n
listed_few f zero = omega arith
listed_few f (suc n) = one_more (listed f n) (f (suc n)) n (listed_few f n)

lengths : (xs ys : List Kept) (o : Option Kept) → length xs + 1 ≡ length ys → length (xs ++ entry o) + 1 ≡ length (ys ++ entry o)
lengths xs ys o e =
    let a : length (xs ++ entry o) ≡ length xs + length (entry o) = length-append xs (entry o) in
    let b : length (ys ++ entry o) ≡ length ys + length (entry o) = length-append ys (entry o) in
    omega (arith, a, b, e)

less_at : (f g : ℕ → Option Kept) (s n : ℕ) (k : Kept) (b : Bool) → (s == suc n) ≡ b → ((q : ℕ) → g q ≡ cond (s == q) None (f q)) → f s ≡ Some k → (s ≤ n → length (listed g n) + 1 ≡ length (listed f n)) → s ≤ suc n → length (listed g n ++ entry (g (suc n))) + 1 ≡ length (listed f n ++ entry (f (suc n)))
less_at f g s n k true e h here ind l =
    let eq = equal_of s (suc n) e in
    let gone : g (suc n) ≡ None = h (suc n) ∙ ap (λ b. cond b None (f (suc n))) e in
    let there : f (suc n) ≡ Some k = ap f (sym eq) ∙ here in
    let same : listed g n ≡ listed f n = listed_same f g n (λ q b. h q ∙ ap (λ t. cond t None (f q)) (differs s q (λ x. absurd (omega (arith, x, eq, b))))) in
    let m : length (listed f n ++ k ∷ []) ≡ length (listed f n) + 1 = length-append (listed f n) (k ∷ []) in
    rw (gone, there, same, nil_append (listed f n)) (sym m)
less_at f g s n k false e h here ind l =
    let ne = unequal_of s (suc n) e in
    let below : s ≤ n = grind (arith, ne, l) in
    let same : g (suc n) ≡ f (suc n) = h (suc n) ∙ ap (λ b. cond b None (f (suc n))) e in
    rw same (lengths (listed g n) (listed f n) (f (suc n)) (ind below))

pub listed_less : (f g : ℕ → Option Kept) (s n : ℕ) (k : Kept) → f 0 ≡ None → ((q : ℕ) → g q ≡ cond (s == q) None (f q)) → f s ≡ Some k → s ≤ n → length (listed g n) + 1 ≡ length (listed f n)
listed_less f g s zero k first h here l =
    let eq : s ≡ 0 = omega (arith, l) in
    let e : None ≡ Some k = sym first ∙ ap f (sym eq) ∙ here in
    cc e
listed_less f g s (suc n) k first h here l = less_at f g s n k (s == suc n) refl h here (λ b. listed_less f g s n k first h here b) l

-- ---- a packet delivered
delivered_append : (s : ℕ) (xs ys : List Kept) → with_delivered s (xs ++ ys) ≡ with_delivered s xs ++ with_delivered s ys
delivered_append s [] ys = refl
delivered_append s (k ∷ xs) ys = ap (λ l. delivered s k ∷ l) (delivered_append s xs ys)

delivered_one : (k : Kept) (b : Bool) → cond b (record k { in_flight = false }) k ∷ [] ≡ entry (cond b (Some (record k { in_flight = false })) (Some k))
delivered_one k true = refl
delivered_one k false = refl

none_marked : (b : Bool) → [] ≡ entry (cond b (marked None) None)
none_marked true = refl
none_marked false = refl

delivered_entry : (o : Option Kept) (s m : ℕ) → ((k : Kept) → o ≡ Some k → k.serial ≡ m) → with_delivered s (entry o) ≡ entry (cond (s == m) (marked o) o)
delivered_entry None s m named = none_marked (s == m)
delivered_entry (Some k) s m named = delivered_one k (s == k.serial) ∙ ap (λ q. entry (cond (s == q) (Some (record k { in_flight = false })) (Some k))) (named k refl)

pub listed_delivered : (f g : ℕ → Option Kept) (s n : ℕ) → Named f → ((q : ℕ) → g q ≡ cond (s == q) (marked (f q)) (f q)) → listed g n ≡ with_delivered s (listed f n)
listed_delivered f g s zero named e = refl
listed_delivered f g s (suc n) named e =
    ap (λ xs. xs ++ entry (g (suc n))) (listed_delivered f g s n named e)
    ∙ ap (λ o. with_delivered s (listed f n) ++ entry o) (e (suc n))
    ∙ ap (λ ys. with_delivered s (listed f n) ++ ys) (sym (delivered_entry (f (suc n)) s (suc n) (named (suc n))))
    ∙ sym (delivered_append s (listed f n) (entry (f (suc n))))

pub delivered_length : (s : ℕ) (ks : List Kept) → length (with_delivered s ks) ≡ length ks
delivered_length s [] = refl
delivered_length s (k ∷ ks) = ap suc (delivered_length s ks)

marked_named : (f g : ℕ → Option Kept) (j : Kept) (q : ℕ) (o : Option Kept) (b : Bool) → f q ≡ o → Named f → g q ≡ cond b (marked o) o → g q ≡ Some j → j.serial ≡ q
marked_named f g j q None true e named p h = let x : None ≡ Some j = sym p ∙ h in cc x
marked_named f g j q None false e named p h = let x : None ≡ Some j = sym p ∙ h in cc x
marked_named f g j q (Some k) true e named p h = ap (λ (x : Kept). x.serial) (same_Some j (record k { in_flight = false }) (sym h ∙ p)) ∙ named q k e
marked_named f g j q (Some k) false e named p h = ap (λ (x : Kept). x.serial) (same_Some j k (sym h ∙ p)) ∙ named q k e

pub named_delivered : (f g : ℕ → Option Kept) (s : ℕ) → Named f → ((q : ℕ) → g q ≡ cond (s == q) (marked (f q)) (f q)) → Named g
named_delivered f g s named e = λ q j h. marked_named f g j q (f q) (s == q) refl named (e q) h

none_marked_if : (b : Bool) (o : Option Kept) → o ≡ None → cond b (marked o) o ≡ None
none_marked_if true o e = ap marked e
none_marked_if false o e = e

pub none_delivered : (f g : ℕ → Option Kept) (s q : ℕ) → ((p : ℕ) → g p ≡ cond (s == p) (marked (f p)) (f p)) → f q ≡ None → g q ≡ None
none_delivered f g s q e n = e q ∙ none_marked_if (s == q) (f q) n
