-- An ORB of an initiator that injected no packets has a status from its end on; a list with an end has begun, and one that is present or open then was so before, once it had begun.
use Rattle.sbp_world.proofs.Words.Std.{arith, ◌≡◌, ◌∙◌, refl, sym, ap, ◌<◌, ◌≤◌, ◌==◌, ℕ, suc, nat_eq, Bool, true, false, cond, List, [], ◌∷◌, ◌++◌, Some, None, nat_tests, false≢true, same_Some, none-some}
use Rattle.sbp_world.proofs.Words.Wire.{Moment, asked, said}
use Rattle.sbp_world.proofs.Words.Initiator.{StatusKind}
use Rattle.sbp_world.proofs.Words.Laws.{present_list, is_cut, IsOpen, ended_status, ends, lists, EachMoment}
use Rattle.sbp_world.proofs.Words.World.{MayAppend, MayStand}
use Rattle.sbp_journal.specs.declared.note.Note.TheVariants as notes
use Rattle.sbp_world.proofs.Lists.Passing.{PassLaw}
use Rattle.sbp_world.proofs.Lists.UnrunTerms.{cut_stays, lists_grow}

-- ---- the status of an ORB that ended
pub record HasStatus (past : List Moment) (i n k : ℕ) : Type 0 where
  pub status : StatusKind
  pub is : ended_status past i n k ≡ Some status

module _ (wild : ℕ → Bool) (i : ℕ) (own : wild i ≡ false) (n k : ℕ) where
  has_by : (past : List Moment) (j m l : ℕ) (st : StatusKind) → (wild j ≡ false → l ≡ ends past j m) → (k < ends past i n → HasStatus past i n k) → (x y z : Bool) → nat_eq i j ≡ x → nat_eq n m ≡ y → nat_eq k l ≡ z → k < cond x (cond y (suc (ends past j m)) (ends past i n)) (ends past i n) → (status : StatusKind) × (cond x (cond y (cond z (Some st) (ended_status past i n k)) (ended_status past i n k)) (ended_status past i n k) ≡ Some status)
  has_by past j m l st number again true true true e f g low = (st, refl)
  has_by past j m l st number again true true false e f g low =
      let same_i : i ≡ j = grind (arith, nat_tests) in
      let same_n : n ≡ m = grind (arith, nat_tests) in
      let at : ends past i n ≡ ends past j m = ap (λ a. ends past a n) same_i ∙ ap (ends past j) same_n in
      let is = number (ap wild (sym same_i) ∙ own) in
      let apart : k ≡ l → ⊥ = λ same. false≢true (sym g ∙ (let z : nat_eq k l ≡ true = grind (arith, nat_tests) in z)) in
      let h = again (below k (ends past i n) l (omega (arith, low, at)) (is ∙ sym at) apart) in
      (h.status, h.is)
    where
      below : (a b c : ℕ) → a ≤ b → c ≡ b → (a ≡ c → ⊥) → a < b
      below a b c l e f = by (nat_eq a c) refl
        where
          by : (x : Bool) → nat_eq a c ≡ x → a < b
          by true g = absurd (f (let z : a ≡ c = grind (arith, nat_tests) in z))
          by false g = grind (arith, nat_tests)
  has_by past j m l st number again true false z e f g low = let h = again low in (h.status, h.is)
  has_by past j m l st number again false y z e f g low = let h = again low in (h.status, h.is)

  pub has_status : (past : List Moment) → PassLaw wild past → k < ends past i n → HasStatus past i n k
  has_status [] law low = absurd (omega (arith, low))
  has_status (said (notes.Ended j (Some m) (Some l) st) ∷ past) law low =
      let x = has_by past j m l st (λ o. (law.0 o).turn.number) (λ b. has_status past law.1 b) (nat_eq i j) (nat_eq n m) (nat_eq k l) refl refl refl low in record { status = x.0; is = x.1 }
  has_status (said (notes.Ended j (Some m) None st) ∷ past) law low = let h = has_status past law.1 low in record { status = h.status; is = h.is }
  has_status (said (notes.Ended j None l st) ∷ past) law low = let h = has_status past law.1 low in record { status = h.status; is = h.is }
  has_status (m ∷ past) law low = let h = has_status past law.1 low in record { status = h.status; is = h.is }

  less_by : (past : List Moment) (j m l : ℕ) (st status : StatusKind) → (wild j ≡ false → l ≡ ends past j m) → (ended_status past i n k ≡ Some status → k < ends past i n) → (x y z : Bool) → nat_eq i j ≡ x → nat_eq n m ≡ y → nat_eq k l ≡ z → cond x (cond y (cond z (Some st) (ended_status past i n k)) (ended_status past i n k)) (ended_status past i n k) ≡ Some status → k < cond x (cond y (suc (ends past j m)) (ends past i n)) (ends past i n)
  less_by past j m l st status number again true true true e f g is =
      let same_i : i ≡ j = grind (arith, nat_tests) in
      let same_k : k ≡ l = grind (arith, nat_tests) in
      let at = number (ap wild (sym same_i) ∙ own) in
      omega (arith, same_k, at)
  less_by past j m l st status number again true true false e f g is =
      let same_i : i ≡ j = grind (arith, nat_tests) in
      let same_n : n ≡ m = grind (arith, nat_tests) in
      let at : ends past i n ≡ ends past j m = ap (λ a. ends past a n) same_i ∙ ap (ends past j) same_n in
      let low = again is in
      omega (arith, low, at)
  less_by past j m l st status number again true false z e f g is = again is
  less_by past j m l st status number again false y z e f g is = again is

  pub ended_less : (past : List Moment) → PassLaw wild past → (status : StatusKind) → ended_status past i n k ≡ Some status → k < ends past i n
  ended_less [] law status e = absurd (none-some status e)
  ended_less (said (notes.Ended j (Some m) (Some l) st) ∷ past) law status e = less_by past j m l st status (λ o. (law.0 o).turn.number) (λ f. ended_less past law.1 status f) (nat_eq i j) (nat_eq n m) (nat_eq k l) refl refl refl e
  ended_less (said (notes.Ended j (Some m) None st) ∷ past) law status e = ended_less past law.1 status e
  ended_less (said (notes.Ended j None l st) ∷ past) law status e = ended_less past law.1 status e
  ended_less (m ∷ past) law status e = ended_less past law.1 status e

-- ---- a list with an end has begun
module _ (wild : ℕ → Bool) (i : ℕ) (own : wild i ≡ false) (n : ℕ) where
  begun_by : (past : List Moment) (j m : ℕ) → (wild j ≡ false → suc m ≡ lists past j) → (0 < ends past i n → n < lists past i) → (x y : Bool) → nat_eq i j ≡ x → nat_eq n m ≡ y → 0 < cond x (cond y (suc (ends past j m)) (ends past i n)) (ends past i n) → n < lists past i
  begun_by past j m latest again true true e f some =
      let same_i : i ≡ j = grind (arith, nat_tests) in
      let same_n : n ≡ m = grind (arith, nat_tests) in
      let at = latest (ap wild (sym same_i) ∙ own) in
      let there = ap (lists past) same_i in
      omega (arith, at, there, same_n)
  begun_by past j m latest again true false e f some = again some
  begun_by past j m latest again false y e f some = again some

  pub begun : (past : List Moment) → PassLaw wild past → 0 < ends past i n → n < lists past i
  begun [] law some = absurd (omega (arith, some))
  begun (said (notes.Ended j (Some m) (Some l) st) ∷ past) law some = begun_by past j m (λ o. (law.0 o).turn.still.latest) (λ b. begun past law.1 b) (nat_eq i j) (nat_eq n m) refl refl some
  begun (said (notes.Ended j (Some m) None st) ∷ past) law some = begun past law.1 some
  begun (said (notes.Ended j None l st) ∷ past) law some = begun past law.1 some
  begun (said (notes.Append j m k cdb buffer) ∷ past) law some =
      let more = lists_grow i (said (notes.Append j m k cdb buffer) ∷ []) past in
      let low = begun past law.1 some in
      omega (arith, more, low)
  begun (m ∷ past) law some = begun past law.1 some

-- ---- a list that had begun, and is open or present then
module _ (i n : ℕ) where
  pub open_back : (later ms : List Moment) → n < lists ms i → IsOpen (later ++ ms) i n → IsOpen ms i n
  open_back later ms low opened = record {
    latest =
        (let more = lists_grow i later ms in
        let last = opened.latest in
        omega (arith, low, more, last));
    uncut = by (is_cut ms i n) refl;
  }
    where
      by : (b : Bool) → is_cut ms i n ≡ b → b ≡ false
      by false e = refl
      by true e = absurd (false≢true (sym opened.uncut ∙ cut_stays later ms i n e))

  append_back : (past : List Moment) (j m k : ℕ) → n < lists past i → ((j == i) ≡ true → MayAppend past i m k) → (x : Bool) → nat_eq i j ≡ x → cond x (Some m) (present_list past i) ≡ Some n → present_list past i ≡ Some n
  append_back past j m k low may false q e = e
  append_back past j m k low may true q e = by (nat_eq k 0) refl
    where
      a : MayAppend past i m k
      a = may (let z : nat_eq j i ≡ true = grind (arith, nat_tests) in z)

      same : m ≡ n
      same = same_Some m n e

      by : (c : Bool) → nat_eq k 0 ≡ c → present_list past i ≡ Some n
      by true z = let number = (a.first (grind (arith, nat_tests))).1 in absurd (omega (arith, low, number, same))
      by false z = a.later (grind (arith, nat_tests)) ∙ ap (λ l. Some l) same

  drop_back : (past : List Moment) (x : Bool) → cond x None (present_list past i) ≡ Some n → present_list past i ≡ Some n
  drop_back past true e = absurd (none-some n e)
  drop_back past false e = e

  pub present_back : (later ms : List Moment) → n < lists ms i → EachMoment (MayStand i) (later ++ ms) → present_list (later ++ ms) i ≡ Some n → present_list ms i ≡ Some n
  present_back [] ms low each e = e
  present_back (said (notes.Append j m k cdb buffer) ∷ later) ms low each e =
      let more = lists_grow i later ms in
      present_back later ms low each.1 (append_back (later ++ ms) j m k (omega (arith, low, more)) each.0 (nat_eq i j) refl e)
  present_back (said (notes.Drop j m) ∷ later) ms low each e = present_back later ms low each.1 (drop_back (later ++ ms) (nat_eq i j) e)
  present_back (asked line event ∷ later) ms low each e = present_back later ms low each.1 e
  present_back (said note ∷ later) ms low each e = present_back later ms low each.1 e
