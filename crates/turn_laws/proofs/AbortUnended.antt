-- An ORB of a list of which no more ended than those before it has not ended, by the order of the ends.
use Rattle.std.proofs.Common.{arith, ◌≡◌, ◌∙◌, refl, sym, ap, ◌≤◌, ℕ, suc, nat_eq, Bool, true, false, cond, List, [], ◌∷◌, Some, None}
use Rattle.std.proofs.lemmas.Bool.Decides.{nat_tests}
use Rattle.sbp_journal.specs.Run.{Moment, said}
use Rattle.sbp_journal.specs.declared.note.Note.TheVariants as notes
use Rattle.sbp_laws.specs.OrderLaw.{OrderLaw}
use Rattle.sbp_laws.specs.Terms.{ended_status, ends}

module _ (wild : ℕ → Bool) (i n k : ℕ) (own : wild i ≡ false) where
  pub unended : (past : List Moment) → OrderLaw wild past → ends past i n ≤ k → ended_status past i n k ≡ None
  unended [] law b = refl
  unended (said (notes.Ended j (Some m) (Some l) status) ∷ past) law b = by (nat_eq i j) refl (nat_eq n m) refl (nat_eq k l) refl b (λ c. unended past law.1 c)
    where
      by : (x : Bool) → nat_eq i j ≡ x → (y : Bool) → nat_eq n m ≡ y → (z : Bool) → nat_eq k l ≡ z → cond x (cond y (suc (ends past j m)) (ends past i n)) (ends past i n) ≤ k → (ends past i n ≤ k → ended_status past i n k ≡ None)
          → cond x (cond y (cond z (Some status) (ended_status past i n k)) (ended_status past i n k)) (ended_status past i n k) ≡ None
      by true e true f true g c h =
          let same_i : i ≡ j = grind (arith, nat_tests) in
          let same_k : k ≡ l = grind (arith, nat_tests) in
          let turn : l ≡ ends past j m = (law.0 (sym (ap wild same_i) ∙ own)).number in
          absurd (omega (arith, turn, same_k, c))
      by true e true f false g c h =
          let same_i : i ≡ j = grind (arith, nat_tests) in
          let same_n : n ≡ m = grind (arith, nat_tests) in
          let at : ends past i n ≡ ends past j m = ap (λ a. ends past a n) same_i ∙ ap (λ a. ends past j a) same_n in
          h (omega (arith, at, c))
      by true e false f z g c h = h c
      by false e y f z g c h = h c
  unended (moment ∷ past) law b = unended past law.1 b
