-- An ORB of an initiator's latest list, of which no status was taken, is the one that was prepared last in its slot, one of 32.
use Rattle.sbp_world.proofs.Words.Std.{◌≡◌, ◌∙◌, refl, sym, ap, ◌<◌, ◌==◌, ℕ, suc, nat_eq, Bool, true, false, cond, List, [], ◌∷◌, Option, Some, None, arith, nat_tests}
use Rattle.sbp_world.proofs.Words.Wire.{Moment, said}
use Rattle.sbp_world.proofs.Words.Laws.{Orb, TakenStatus, lowest_vacant, orb, prepared_in, slot_at, slots, taken_at, appends, lists}
use Rattle.sbp_journal.specs.declared.note.Note.TheVariants as notes
use Rattle.sbp_world.proofs.Lists.Passing.{PassLaw}

pub no : false ≡ true → ⊥
no e = cc

pub record Stands (prepared : ℕ → Option Orb) (slot n k : ℕ) : Type 0 where
  pub last : prepared slot ≡ Some (orb n k)
  pub small : slot < 32

-- the list of an append is the latest one behind it
same_list : (b : Bool) (n m before : ℕ) → cond b m (suc m) ≡ before → suc n ≡ cond b (suc before) before → n ≡ m
same_list true n m before e f = omega (arith, e, f)
same_list false n m before e f = omega (arith, e, f)

older_list : (l : ℕ) (b : Bool) → (l == 0) ≡ b → 0 < l → (n before : ℕ) → suc n ≡ cond b (suc before) before → suc n ≡ before
older_list l true e h n before f = absurd (let z : l ≡ 0 = grind (arith, nat_tests) in omega (arith, z, h))
older_list l false e h n before f = f

none_taken : (b : Bool) (x y : Option TakenStatus) (s : TakenStatus) → x ≡ Some s → cond b x y ≡ None → y ≡ None
none_taken true x y s e f = absurd (differ (sym e ∙ f))
  where
    differ : Some s ≡ None → ⊥
    differ g = cc
none_taken false x y s e f = f

if_taken : (b : Bool) (x y : Option TakenStatus) → (x ≡ None → y ≡ None) → cond b x y ≡ None → y ≡ None
if_taken true x y h f = h f
if_taken false x y h f = f

module _ (wild : ℕ → Bool) where
  pub standing : (past : List Moment) → PassLaw wild past → (i n k : ℕ) → suc n ≡ lists past i → k < appends past i n → taken_at past i n k ≡ None → Stands (prepared_in past i) (slot_at past i n k) n k
  standing [] law i n k e b t = absurd (omega (arith, b))
  standing (said (notes.Append j m l cdb buffer) ∷ past) law i n k e b t =
      by (λ f c. standing past law.1 i n k f c t) (nat_eq i j) refl e b
    where
      others : ((suc n ≡ lists past i) → k < appends past i n → Stands (prepared_in past i) (slot_at past i n k) n k) → i ≡ j → n ≡ m → (z : Bool) → nat_eq k l ≡ z → suc n ≡ cond (l == 0) (suc (lists past j)) (lists past j) → k < suc (appends past j m) → Stands (λ s. cond (nat_eq s (lowest_vacant (slots past j))) (Some (orb m l)) (prepared_in past i s)) (cond z (lowest_vacant (slots past j)) (slot_at past i n k)) n k
      others ih same_i same_n true g e b =
          let same_k : k ≡ l = grind (arith, nat_tests) in
          let here : nat_eq (lowest_vacant (slots past j)) (lowest_vacant (slots past j)) ≡ true = grind (arith, nat_tests) in
          record {
            last = ap (λ x. cond x (Some (orb m l)) (prepared_in past i (lowest_vacant (slots past j)))) here ∙ ap (λ a. Some (orb a l)) (sym same_n) ∙ ap (λ a. Some (orb n a)) (sym same_k);
            small = law.0.slot;
          }
      others ih same_i same_n false g e b =
          let at : l ≡ appends past j m = law.0.next.number in
          let off : k ≡ l → ⊥ = λ f. no (sym g ∙ (let z : nat_eq k l ≡ true = grind (arith, nat_tests) in z)) in
          let below : k < l = grind arith in
          let old_list : suc n ≡ lists past i = older_list l (l == 0) refl (omega (arith, below)) n (lists past j) e ∙ ap (λ a. lists past a) (sym same_i) in
          let old_at : appends past j m ≡ appends past i n = ap (λ a. appends past a m) (sym same_i) ∙ ap (λ a. appends past i a) (sym same_n) in
          let old = ih old_list (omega (arith, below, at, old_at)) in
          let own : Stands (prepared_in past i) (slot_at past i n k) n k = old in
          let taken : taken_at past j m k ≡ None = ap (λ a. taken_at past a m k) (sym same_i) ∙ ap (λ a. taken_at past i a k) (sym same_n) ∙ t in
          let slot_same : slot_at past i n k ≡ slot_at past j m k = ap (λ a. slot_at past a n k) same_i ∙ ap (λ a. slot_at past j a k) same_n in
          let apart : slot_at past i n k ≡ (lowest_vacant (slots past j)) → ⊥ = λ f. law.0.apart k (omega (arith, below, at)) taken (sym slot_same ∙ f) in
          let differs : nat_eq (slot_at past i n k) (lowest_vacant (slots past j)) ≡ false = unlike (slot_at past i n k) (lowest_vacant (slots past j)) apart in
          record { last = ap (λ x. cond x (Some (orb m l)) (prepared_in past i (slot_at past i n k))) differs ∙ own.last; small = own.small }
        where
          unlike : (x y : ℕ) → (x ≡ y → ⊥) → nat_eq x y ≡ false
          unlike x y f = by_test (nat_eq x y) refl
            where
              by_test : (c : Bool) → nat_eq x y ≡ c → c ≡ false
              by_test true g = absurd (f (let same : x ≡ y = grind (arith, nat_tests) in same))
              by_test false g = refl

      with_list : ((suc n ≡ lists past i) → k < appends past i n → Stands (prepared_in past i) (slot_at past i n k) n k) → i ≡ j → (y : Bool) → nat_eq n m ≡ y → suc n ≡ cond (l == 0) (suc (lists past j)) (lists past j) → k < cond y (suc (appends past j m)) (appends past i n) → Stands (λ s. cond (nat_eq s (lowest_vacant (slots past j))) (Some (orb m l)) (prepared_in past i s)) (cond y (cond (nat_eq k l) (lowest_vacant (slots past j)) (slot_at past i n k)) (slot_at past i n k)) n k
      with_list ih same_i true g e b = let same_n : n ≡ m = grind (arith, nat_tests) in others ih same_i same_n (nat_eq k l) refl e b
      with_list ih same_i false g e b =
          let same : n ≡ m = same_list (l == 0) n m (lists past j) law.0.next.list e in
          absurd (no (sym g ∙ (let z : nat_eq n m ≡ true = grind (arith, nat_tests) in z)))

      by : ((suc n ≡ lists past i) → k < appends past i n → Stands (prepared_in past i) (slot_at past i n k) n k) → (x : Bool) → nat_eq i j ≡ x → suc n ≡ cond x (cond (l == 0) (suc (lists past j)) (lists past j)) (lists past i) → k < cond x (cond (nat_eq n m) (suc (appends past j m)) (appends past i n)) (appends past i n) → Stands (λ s. cond x (cond (nat_eq s (lowest_vacant (slots past j))) (Some (orb m l)) (prepared_in past i s)) (prepared_in past i s)) (cond x (cond (nat_eq n m) (cond (nat_eq k l) (lowest_vacant (slots past j)) (slot_at past i n k)) (slot_at past i n k)) (slot_at past i n k)) n k
      by ih true g e b = let same_i : i ≡ j = grind (arith, nat_tests) in with_list ih same_i (nat_eq n m) refl e b
      by ih false g e b = ih e b
  standing (said (notes.Taken j m l status answer) ∷ past) law i n k e b t =
      standing past law.1 i n k e b
      (if_taken (nat_eq i j) _ (taken_at past i n k) (λ f. if_taken (nat_eq n m) _ (taken_at past i n k) (λ g. none_taken (nat_eq k l) _ (taken_at past i n k) _ refl g) f) t)
  standing (_ ∷ past) law i n k e b t = standing past law.1 i n k e b t
