-- The search for the next ID, try by try, and that one of the tries finds it.
use Rattle.std.specs.Prelude.{◌≡◌, ◌≢◌, ℕ, zero, suc, ◌+◌, ◌<◌, ◌≤◌, nat_eq, Bool, true, false, cond, List, [], ◌∷◌, length, Option, Some, None, refl}
use Rattle.std.proofs.Common.{arith, ap, sym, ◌∙◌}
use Rattle.login_table.specs.declared.login.Login.{Login}
use Rattle.login_table.specs.Table.{fresh_id, is_used, next_id, place_at}
use Rattle.login_table.specs.Laws.{counted_on}
use Rattle.login_table.proofs.Sound.{Same, is_same, same, other}

pub tries_out : (tries id : ℕ) (places : List (Option Login)) → tries ≡ zero → fresh_id tries id places ≡ id
unfolding fresh_id
tries_out zero id places e = refl
tries_out (suc n) id places e = absurd (omega arith)

pub try_here : (tries id : ℕ) (places : List (Option Login)) → is_used id places ≡ false → fresh_id tries id places ≡ id
unfolding fresh_id
try_here zero id places e = refl
try_here (suc n) id places e = rw e

pub try_next : (tries less id : ℕ) (places : List (Option Login)) → tries ≡ suc less → is_used id places ≡ true → fresh_id tries id places ≡ fresh_id less (next_id id) places
unfolding fresh_id
try_next zero less id places t e = absurd (omega arith)
try_next (suc n) less id places t e = let same : n ≡ less = omega arith in rw (e, same)

pub ruleset trying = (tries_out, try_here, try_next)

-- the number of logins
abbrev pub logins : List (Option Login) → ℕ
logins [] = 0
logins (None ∷ places) = logins places
logins (Some login ∷ places) = suc (logins places)

-- the places without the logins of an ID
abbrev pub less : ℕ → List (Option Login) → List (Option Login)
less id [] = []
less id (None ∷ places) = None ∷ less id places
less id (Some login ∷ places) = cond (nat_eq login.login id) None (Some login) ∷ less id places

used_other : (id a : ℕ) (places : List (Option Login)) → id ≢ a → is_used id (less a places) ≡ is_used id places
used_other id a [] d = refl
used_other id a (None ∷ places) d = used_other id a places d
used_other id a (Some login ∷ places) d = let i = used_other id a places d in grind arith

not_more : (a : ℕ) (places : List (Option Login)) → logins (less a places) ≤ logins places
not_more a [] = omega arith
not_more a (None ∷ places) = not_more a places
not_more a (Some login ∷ places) = let i = not_more a places in grind arith

fewer : (a : ℕ) (places : List (Option Login)) → is_used a places ≡ true → logins (less a places) < logins places
fewer a [] e = absurd (let no : false ≡ true = e in cc)
fewer a (None ∷ places) e = fewer a places e
fewer a (Some login ∷ places) e = let i = fewer a places in let n = not_more a places in grind arith

-- An ID is not met within so many steps of counting.
record IsFar (steps id a : ℕ) : Type 0 where
  near : id ≤ a → id + steps ≤ a
  round : a < id → id + steps ≤ a + 65535
  least : 1 ≤ a

far_apart : (steps id a : ℕ) → IsFar (suc steps) id a → id ≢ a
far_apart steps id a f e = let n = f.near in omega arith

far_next : (steps id a : ℕ) → id ≤ 65535 → IsFar (suc steps) id a → IsFar steps (next_id id) a
far_next steps id a h f =
    let n = f.near in
    let r = f.round in
    let l = f.least in
    record { near = λ m. grind arith; round = λ m. grind arith; least = l }

far_start : (steps id : ℕ) → 1 ≤ id → id ≤ 65535 → steps ≤ 9 → IsFar steps (next_id id) id
far_start steps id h m s = record { near = λ n. grind arith; round = λ n. grind arith; least = h }

next_within : (id : ℕ) → id ≤ 65535 → next_id id ≤ 65535
next_within id h = grind arith

next_least : (id : ℕ) → 1 ≤ next_id id
next_least id = grind arith

fresh_other : (tries id a : ℕ) (places : List (Option Login)) → id ≤ 65535 → IsFar tries id a → fresh_id tries id places ≡ fresh_id tries id (less a places)
unfolding fresh_id
fresh_other zero id a places h f = refl
fresh_other (suc tries) id a places h f =
    let u = used_other id a places (far_apart tries id a f) in
    let i = fresh_other tries (next_id id) a places (next_within id h) (far_next tries id a h f) in
    grind arith

apart_by : (b : Bool) (x y a : ℕ) → x ≢ a → y ≢ a → cond b x y ≢ a
apart_by true x y a p q e = p e
apart_by false x y a p q e = q e

fresh_apart : (tries id a : ℕ) (places : List (Option Login)) → id ≤ 65535 → IsFar (suc tries) id a → fresh_id tries id places ≢ a
unfolding fresh_id
fresh_apart zero id a places h f e = far_apart zero id a f e
fresh_apart (suc tries) id a places h f e = apart_by (is_used id places) (fresh_id tries (next_id id) places) id a (fresh_apart tries (next_id id) a places (next_within id h) (far_next (suc tries) id a h f)) (far_apart (suc tries) id a f) e

-- Where there are fewer logins than tries, one of the tries finds an ID that is not in use.
free_by : (b : Bool) (tries id : ℕ) (places : List (Option Login)) → is_used id places ≡ b → logins places < suc tries → tries ≤ 8 → 1 ≤ id → id ≤ 65535
    → (is_used id places ≡ true → is_used (fresh_id tries (next_id id) places) places ≡ false) → is_used (fresh_id (suc tries) id places) places ≡ false
unfolding fresh_id
free_by true tries id places e h t l m f = rw e (f e)
free_by false tries id places e h t l m f = rw e e

pub fresh_free : (tries id : ℕ) (places : List (Option Login)) → logins places < tries → tries ≤ 9 → 1 ≤ id → id ≤ 65535 → is_used (fresh_id tries id places) places ≡ false
fresh_free zero id places h t l m = absurd (omega arith)
fresh_free (suc tries) id places h t l m =
    free_by _ tries id places refl h (omega arith) l m (λ e.
    let w = next_within id m in
    let n = next_least id in
    let s = fresh_other tries (next_id id) id places w (far_start tries id l m (omega arith)) in
    let p = fewer id places e in
    let i = fresh_free tries (next_id id) (less id places) (omega arith) (omega arith) n w in
    let d = fresh_apart tries (next_id id) id places w (far_start (suc tries) id l m (omega arith)) in
    sym (used_other (fresh_id tries (next_id id) places) id places d) ∙ ap (λ (x : ℕ). is_used x (less id places)) s ∙ i)

pub fresh_within : (tries id : ℕ) (places : List (Option Login)) → 1 ≤ id → id ≤ 65535 → (1 ≤ fresh_id tries id places) × (fresh_id tries id places ≤ 65535)
unfolding fresh_id
fresh_within zero id places l m = (l, m)
fresh_within (suc tries) id places l m =
    let i = fresh_within tries (next_id id) places (next_least id) (next_within id m) in
    (grind arith, grind arith)

pub next_in : (id : ℕ) → id ≤ 65535 → (1 ≤ next_id id) × (next_id id ≤ 65535)
next_in id h = (next_least id, next_within id h)

-- Where a place is empty, there are fewer logins than places.
not_all : (places : List (Option Login)) → logins places ≤ length places
not_all [] = omega arith
not_all (None ∷ places) = let i = not_all places in omega arith
not_all (Some login ∷ places) = let i = not_all places in omega arith

pub one_empty : (places : List (Option Login)) (k : ℕ) → place_at places k ≡ None → k < length places → logins places < length places
one_empty [] k e h = absurd (omega arith)
one_empty (None ∷ places) k e h = let n = not_all places in omega arith
one_empty (Some login ∷ places) zero e h = absurd (let no : Some login ≡ None = e in cc)
one_empty (Some login ∷ places) (suc k) e h = let i = one_empty places k e (omega arith) in omega arith

-- what the tries find, in counting order
pub record IsCounted (id last : ℕ) (places : List (Option Login)) : Type 0 where
  pub passed : ℕ
  pub counted : id ≡ counted_on passed last
  pub used : (k : ℕ) → k < passed → is_used (counted_on k last) places ≡ true

used_more : (n last : ℕ) (places : List (Option Login)) → ((k : ℕ) → k < n → is_used (counted_on k last) places ≡ true) → is_used (counted_on n last) places ≡ true → (k : ℕ) → Same k n → k < suc n → is_used (counted_on k last) places ≡ true
used_more n last places f e k (same s) h = ap (λ (m : ℕ). is_used (counted_on m last) places) s ∙ e
used_more n last places f e k (other d) h = f k (omega arith)

counted_by : (b : Bool) (tries n last : ℕ) (places : List (Option Login)) → is_used (counted_on n last) places ≡ b → ((k : ℕ) → k < n → is_used (counted_on k last) places ≡ true)
    → (((k : ℕ) → k < suc n → is_used (counted_on k last) places ≡ true) → IsCounted (fresh_id tries (counted_on (suc n) last) places) last places) → IsCounted (fresh_id (suc tries) (counted_on n last) places) last places
unfolding fresh_id
counted_by true tries n last places e f r = rw e (r (λ k h. used_more n last places f e k (is_same k n) h))
counted_by false tries n last places e f r = record { passed = n; counted = rw e; used = f }

fresh_counted : (tries n last : ℕ) (places : List (Option Login)) → ((k : ℕ) → k < n → is_used (counted_on k last) places ≡ true) → IsCounted (fresh_id tries (counted_on n last) places) last places
unfolding fresh_id
fresh_counted zero n last places f = record { passed = n; counted = refl; used = f }
fresh_counted (suc tries) n last places f = counted_by _ tries n last places refl f (λ g. fresh_counted tries (suc n) last places g)

pub next_counted : (tries last : ℕ) (places : List (Option Login)) → IsCounted (fresh_id tries (next_id last) places) last places
next_counted tries last places = fresh_counted tries 0 last places (λ k h. absurd (omega arith))
