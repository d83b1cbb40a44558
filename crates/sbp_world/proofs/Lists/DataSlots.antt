-- The slot of an ORB stays the one in which it was prepared at its append, and its command stays that of its append: no later append of its list has its number.
use Rattle.sbp_world.proofs.Words.Std.{arith, ◌≡◌, ◌∙◌, refl, sym, ap, subst, ◌<◌, ◌≤◌, ℕ, suc, nat_eq, Bool, true, false, cond, List, [], ◌∷◌, ◌++◌, Some, None, nat_tests}
use Rattle.sbp_world.proofs.Words.Wire.{Moment, said, NoteBuffer}
use Rattle.sbp_world.proofs.Words.Laws.{Orb, cmd_of, command_at, lowest_vacant, orb, prepared_in, slot_at, slots, appends, request_at, event_of}
use Rattle.sbp_journal.specs.declared.note.Note.TheVariants as notes
use Rattle.sbp_world.proofs.Lists.Passing.{PassLaw}

pub same_orb : (a b c d : ℕ) → Some (orb a b) ≡ Some (orb c d) → (a ≡ c) × (b ≡ d)
same_orb a b c d e = let x : orb a b ≡ orb c d = (let z : Some (orb a b) ≡ Some (orb c d) = e in cc) in (ap (λ (o : Orb). o.list) x, ap (λ (o : Orb). o.number) x)

module _ (i n k : ℕ) where
  more_appends : (past : List Moment) (j m l : ℕ) (cdb : List ℕ) (buffer : NoteBuffer) → appends past i n ≤ appends (said (notes.Append j m l cdb buffer) ∷ past) i n
  more_appends past j m l cdb buffer = by (nat_eq i j) (nat_eq n m) refl refl
    where
      by : (x y : Bool) → nat_eq i j ≡ x → nat_eq n m ≡ y → appends past i n ≤ cond x (cond y (suc (appends past j m)) (appends past i n)) (appends past i n)
      by true true e f =
          let same_i : i ≡ j = grind (arith, nat_tests) in
          let same_n : n ≡ m = grind (arith, nat_tests) in
          let same = ap (λ a. appends past a n) same_i ∙ ap (λ b. appends past j b) same_n in
          omega (arith, same)
      by true false e f = omega arith
      by false y e f = omega arith

  pub appends_grow : (later before : List Moment) → appends before i n ≤ appends (later ++ before) i n
  appends_grow [] before = omega arith
  appends_grow (said (notes.Append j m l cdb buffer) ∷ later) before =
      let a = appends_grow later before in let b = more_appends (later ++ before) j m l cdb buffer in omega (arith, a, b)
  appends_grow (_ ∷ later) before = appends_grow later before

  other_append : {A : Type 0} (old value : A) (past : List Moment) (j m l : ℕ) → l ≡ appends past j m → k < appends past i n → cond (nat_eq i j) (cond (nat_eq n m) (cond (nat_eq k l) value old) old) old ≡ old
  other_append {A} old value past j m l at b = by (nat_eq i j) (nat_eq n m) (nat_eq k l) refl refl refl
    where
      by : (x y z : Bool) → nat_eq i j ≡ x → nat_eq n m ≡ y → nat_eq k l ≡ z → cond x (cond y (cond z value old) old) old ≡ old
      by true true true e f g =
          let same_i : i ≡ j = grind (arith, nat_tests) in
          let same_n : n ≡ m = grind (arith, nat_tests) in
          let same_k : k ≡ l = grind (arith, nat_tests) in
          let same = ap (λ a. appends past a n) same_i ∙ ap (λ c. appends past j c) same_n in
          absurd (omega (arith, b, at, same, same_k))
      by true true false e f g = refl
      by true false z e f g = refl
      by false y z e f g = refl

  module _ (wild : ℕ → Bool) where
    pub slot_lasts : (later before : List Moment) → PassLaw wild (later ++ before) → k < appends before i n → slot_at (later ++ before) i n k ≡ slot_at before i n k
    slot_lasts [] before law b = refl
    slot_lasts (said (notes.Append j m l cdb buffer) ∷ later) before law b =
        let more = appends_grow later before in
        other_append (slot_at (later ++ before) i n k) (lowest_vacant (slots (later ++ before) j)) (later ++ before) j m l law.0.next.number (omega (arith, b, more)) ∙ slot_lasts later before law.1 b
    slot_lasts (_ ∷ later) before law b = slot_lasts later before law.1 b

    -- and so does its command
    pub command_lasts : (later before : List Moment) → PassLaw wild (later ++ before) → k < appends before i n → command_at (later ++ before) i n k ≡ command_at before i n k
    command_lasts [] before law b = refl
    command_lasts (said (notes.Append j m l cdb buffer) ∷ later) before law b =
        let more = appends_grow later before in
        other_append (command_at (later ++ before) i n k) (cmd_of (event_of (later ++ before))) (later ++ before) j m l law.0.next.number (omega (arith, b, more)) ∙ command_lasts later before law.1 b
    command_lasts (_ ∷ later) before law b = command_lasts later before law.1 b

    -- and what its append asked for
    pub request_lasts : (later before : List Moment) → PassLaw wild (later ++ before) → k < appends before i n → request_at (later ++ before) i n k ≡ request_at before i n k
    request_lasts [] before law b = refl
    request_lasts (said (notes.Append j m l cdb buffer) ∷ later) before law b =
        let more = appends_grow later before in
        other_append (request_at (later ++ before) i n k) (Some (record { cdb = cdb; buffer = buffer })) (later ++ before) j m l law.0.next.number (omega (arith, b, more)) ∙ request_lasts later before law.1 b
    request_lasts (_ ∷ later) before law b = request_lasts later before law.1 b

    pub prepared_below : (past : List Moment) → PassLaw wild past → (slot : ℕ) → prepared_in past i slot ≡ Some (orb n k) → k < appends past i n
    prepared_below [] law slot e = absurd (let z : None ≡ Some (orb n k) = e in cc)
    prepared_below (said (notes.Append j m l cdb buffer) ∷ past) law slot e =
        let more = more_appends past j m l cdb buffer in
        by (λ f. prepared_below past law.1 slot f) (nat_eq i j) (nat_eq slot (lowest_vacant (slots past j))) refl e
      where
        old : k < appends past i n → k < appends (said (notes.Append j m l cdb buffer) ∷ past) i n
        old b = let more = more_appends past j m l cdb buffer in omega (arith, b, more)

        new : i ≡ j → m ≡ n → l ≡ k → k < cond (nat_eq i j) (cond (nat_eq n m) (suc (appends past j m)) (appends past i n)) (appends past i n)
        new same_i same_n same_k =
            let number = law.0.next.number in
            let a : nat_eq i j ≡ true = grind (arith, nat_tests, same_i) in
            let b : nat_eq n m ≡ true = grind (arith, nat_tests, same_n) in
            subst (λ x. k < cond x (cond (nat_eq n m) (suc (appends past j m)) (appends past i n)) (appends past i n)) (sym a)
            (subst (λ x. k < cond x (suc (appends past j m)) (appends past i n)) (sym b) (omega (arith, number, same_k)))

        by : (prepared_in past i slot ≡ Some (orb n k) → k < appends past i n) → (x y : Bool) → nat_eq i j ≡ x → cond x (cond y (Some (orb m l)) (prepared_in past i slot)) (prepared_in past i slot) ≡ Some (orb n k) → k < appends (said (notes.Append j m l cdb buffer) ∷ past) i n
        by again true true f g = let s = same_orb m l n k g in new (grind (arith, nat_tests, f)) s.0 s.1
        by again true false f g = old (again g)
        by again false y f g = old (again g)
    prepared_below (_ ∷ past) law slot e = prepared_below past law.1 slot e
