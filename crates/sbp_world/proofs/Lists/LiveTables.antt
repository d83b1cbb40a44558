-- What is known of the live logins of one node in a table, and what a change of a place leaves of it.
use Rattle.sbp_world.proofs.Words.Std.{arith, ◌≡◌, ◌≢◌, ◌∙◌, refl, sym, ap, subst, ℕ, ◌<◌, ◌≤◌, nat_eq, nat_lt, Bool, true, false, List, length, set, Option, Some, None, nat_tests, get_or-set_at, get_or-set_other, set_past, false≢true}
use Rattle.sbp_world.proofs.Words.Target.{Login, is_live, place_at}
use Rattle.sbp_world.proofs.Words.World.{AreSame, HasLogin, HasNone, HasOne}
use Rattle.sbp_world.specs.Lists.Live.{AreNamed}

pub none_login : {A : Type 0} (login : Login) → None ≡ Some login → A
none_login login e = absurd (differ e)
  where
    differ : None ≡ Some login → ⊥
    differ e = cc

pub other_place : (p k : ℕ) → nat_eq p k ≡ false → p ≢ k
other_place p k q same = let yes : nat_eq p k ≡ true = grind (arith, nat_tests) in false≢true (sym q ∙ yes)

module _ (id : ℕ) where
  -- ---- where the node has none
  pub none_one : (places : List (Option Login)) → HasNone places id → HasOne places id
  none_one places h = record { one = λ p q a b e f la lb na nb. absurd (h.none p a e la na) }

  pub none_named : (places : List (Option Login)) (number : ℕ) → HasNone places id → AreNamed places id number
  none_named places number h = record { named = λ p login e live n. absurd (h.none p login e live n) }

  -- it has none but in a place that is set
  set_elsewhere : (places : List (Option Login)) (k : ℕ) (x : Option Login) → HasNone places id → (p : ℕ) (login : Login) → place_at (set places k x) p ≡ Some login → is_live login ≡ true → login.node ≡ id → p ≡ k
  set_elsewhere places k x h p login e live n = by (nat_eq p k) refl
    where
      by : (b : Bool) → nat_eq p k ≡ b → p ≡ k
      by true q = grind (arith, nat_tests)
      by false q = absurd (h.none p login (sym (get_or-set_other places k p x None (other_place p k q)) ∙ e) live n)

  pub set_one : (places : List (Option Login)) (k : ℕ) (x : Option Login) → HasNone places id → HasOne (set places k x) id
  set_one places k x h = record { one = λ p q a b e f la lb na nb. set_elsewhere places k x h p a e la na ∙ sym (set_elsewhere places k x h q b f lb nb) }

  pub emptied_none : (places : List (Option Login)) (k : ℕ) → HasNone places id → HasNone (set places k None) id
  emptied_none places k h = record { none = λ p login e live n. by p login e live n (nat_eq p k) refl (nat_lt k (length places)) refl }
    where
      by : (p : ℕ) (login : Login) → place_at (set places k None) p ≡ Some login → is_live login ≡ true → login.node ≡ id → (b : Bool) → nat_eq p k ≡ b → (c : Bool) → nat_lt k (length places) ≡ c → ⊥
      by p login e live n true q true l =
          let same : p ≡ k = grind (arith, nat_tests) in
          let inside : k < length places = grind (arith, nat_tests) in
          none_login login (sym (get_or-set_at places k p None None same inside) ∙ e)
      by p login e live n true q false l =
          let beyond : length places ≤ k = grind (arith, nat_tests) in
          h.none p login (subst (λ xs. place_at xs p ≡ Some login) (set_past places k None beyond) e) live n
      by p login e live n false q c l = h.none p login (sym (get_or-set_other places k p None None (other_place p k q)) ∙ e) live n

  -- ---- where its live logins stand
  module _ (a b : List (Option Login)) (s : AreSame id a b) where
    pub same_none : HasNone a id → HasNone b id
    same_none h = record { none = λ p login e live n. h.none p login (s.brings p login e live n) live n }

    pub same_one : HasOne a id → HasOne b id
    same_one h = record { one = λ p q x y e f la lb na nb. h.one p q x y (s.brings p x e la na) (s.brings q y f lb nb) la lb na nb }

    pub same_named : (number : ℕ) → AreNamed a id number → AreNamed b id number
    same_named number h = record { named = λ p login e live n. h.named p login (s.brings p login e live n) live n }

    pub same_has : (number : ℕ) → HasLogin a id number → HasLogin b id number
    same_has number h = record { place = h.place; login = h.login; there = s.keeps h.place h.login h.there h.live h.of_node; live = h.live; of_node = h.of_node; own = h.own }

  -- ---- an ID names one login

  pub has_named : (places : List (Option Login)) (number : ℕ) → HasOne places id → HasLogin places id number → AreNamed places id number
  has_named places number one h = record { named = λ p login e live n. by p login e live n (one.one p h.place login h.login e h.there live h.live n h.of_node) }
    where
      by : (p : ℕ) (login : Login) → place_at places p ≡ Some login → is_live login ≡ true → login.node ≡ id → p ≡ h.place → login.login ≡ number
      by p login e live n same =
          let both : Some login ≡ Some h.login = sym e ∙ (ap (place_at places) same ∙ h.there) in
          let login_is : login ≡ h.login = cc in
          ap (λ (l : Login). l.login) login_is ∙ h.own
