-- The notes on logins change a table of logins as its calls do: each names a login by its ID, and no two have one.
use Rattle.sbp_world.proofs.Words.Std.{◌≡◌, ◌≢◌, ◌∙◌, refl, sym, ap, subst, ℕ, zero, suc, ◌+◌, ◌<◌, ◌≤◌, nat_eq, Bool, true, false, cond, List, [], ◌∷◌, length, map, get_or, set, Option, Some, None, arith, filter_map, get_or-map, length-set, nat_tests, get_or-set_at, ext_get_or, length-map}
use Rattle.sbp_world.proofs.Words.Target.{Login, IsSound, expired_id, expired_ids, held, is_last, is_live, one_less, place_at}
use Rattle.sbp_world.proofs.Words.Laws.{at_id, second_gone}
use Rattle.std.proofs.Common.{get_or-set_other}
use Rattle.login_table.specs.Table.{ticked}
use Rattle.login_table.proofs.Searching.{within}
use Rattle.sbp_world.proofs.Common.{itself}

-- ---- one login is changed

-- two places have no login of one ID
pub record AreApart (places : List (Option Login)) : Type 0 where
  pub apart : (i j : ℕ) (a b : Login) → i ≢ j → place_at places i ≡ Some a → place_at places j ≡ Some b → a.login ≢ b.login

pub sound_apart : (places : List (Option Login)) → IsSound places → AreApart places
sound_apart places s = record { apart = λ i j a b n e f. (s.apart i j a b n e f).ids }

pub other_id : (m n : ℕ) → m ≢ n → nat_eq m n ≡ false
other_id m n d = by_test (nat_eq m n) refl
  where
    by_test : (b : Bool) → nat_eq m n ≡ b → b ≡ false
    by_test true e = absurd (d (grind (arith, nat_tests)))
    by_test false e = refl

pub at_own : (change : Login → Option Login) (login : Login) → at_id login.login change (Some login) ≡ change login
at_own change login = ap (λ b. cond b (change login) (Some login)) (itself login.login)

pub at_other : (id : ℕ) (change : Login → Option Login) (x : Option Login) → ((login : Login) → x ≡ Some login → login.login ≢ id) → at_id id change x ≡ x
at_other id change None d = refl
at_other id change (Some login) d = ap (λ b. cond b (change login) (Some login)) (other_id login.login id (d login refl))

-- whose ID is a login's is changed in its place alone
pub one_changed : (change : Login → Option Login) (places : List (Option Login)) (k : ℕ) (login : Login) → AreApart places → place_at places k ≡ Some login → map (at_id login.login change) places ≡ set places k (change login)
one_changed change places k login a e =
    let f = at_id login.login change in
    let inside = within places k login e in
    ext_get_or None (map f places) (set places k (change login)) (length-map places f ∙ sym (length-set places k (change login)))
    (λ i below. get_or-map f places i None ∙ at_place i (nat_eq i k) refl)
  where
    at_place : (i : ℕ) (b : Bool) → nat_eq i k ≡ b → at_id login.login change (get_or places i None) ≡ get_or (set places k (change login)) i None
    at_place i true q =
        let same : i ≡ k = grind (arith, nat_tests) in
        ap (at_id login.login change) (ap (λ n. get_or places n None) same ∙ e) ∙ at_own change login ∙ sym (get_or-set_at places k i (change login) None same (within places k login e))
    at_place i false q =
        let apart : i ≢ k = λ same. let yes : nat_eq i k ≡ true = grind (arith, nat_tests) in absurd (let no : true ≡ false = sym yes ∙ q in cc) in
        at_other login.login change (get_or places i None) (λ other there. a.apart i k other login apart there e)
        ∙ sym (get_or-set_other places k i (change login) None apart)

-- ---- logins are held at a reset, one after the other

abbrev pub holds : Option Login → List (Option Login) → List (Option Login)
holds None places = places
holds (Some login) places = cond (is_live login) (map (at_id login.login (λ own. held (Some own))) places) places

-- those of so many places of a table from one on
abbrev pub holds_from : (left place : ℕ) → List (Option Login) → List (Option Login) → List (Option Login)
holds_from zero place old places = places
holds_from (suc left) place old places = holds_from left (place + 1) old (holds (place_at old place) places)

-- the places below one are held
record HeldBelow (k : ℕ) (old places : List (Option Login)) : Type 0 where
  size : length places ≡ length old
  below : (j : ℕ) → j < k → place_at places j ≡ held (place_at old j)
  above : (j : ℕ) → k ≤ j → place_at places j ≡ place_at old j

held_resting : (login : Login) → is_live login ≡ false → held (Some login) ≡ Some login
held_resting login e = rest_by login login.remaining refl e
  where
    rest_by : (login : Login) (left : Option ℕ) → login.remaining ≡ left → is_live login ≡ false → held (Some login) ≡ Some login
    rest_by login None q e = absurd (let yes : is_live login ≡ true = rw q refl in let no : true ≡ false = sym yes ∙ e in cc)
    rest_by login (Some seconds) q e = rw q refl

held_id : (x : Option Login) (login : Login) → held x ≡ Some login → (own : Login) × ((x ≡ Some own) × (own.login ≡ login.login))
held_id None login e = absurd (let no : None ≡ Some login = e in cc)
held_id (Some own) login e = (own, (refl, same e))
  where
    same : held (Some own) ≡ Some login → own.login ≡ login.login
    same e = ap (λ (x : Option Login). id_in x) e
      where
        id_in : Option Login → ℕ
        id_in None = 0
        id_in (Some l) = l.login

pub next_below : (j k : ℕ) → j < k + 1 → nat_eq j k ≡ false → j < k
next_below j k h e = grind (arith, nat_tests)

-- the login of the place, if it has one, is held next
hold_one : (x : Option Login) (k : ℕ) (old places : List (Option Login)) → AreApart old → k < length old → place_at old k ≡ x → HeldBelow k old places → HeldBelow (k + 1) old (holds x places)
hold_one None k old places a inside e h = record {
  size = h.size;
  below = λ j l. below_by j (nat_eq j k) refl l;
  above = λ j l. h.above j (omega arith);
}
  where
    below_by : (j : ℕ) (b : Bool) → nat_eq j k ≡ b → j < k + 1 → place_at places j ≡ held (place_at old j)
    below_by j true q l =
        let same : j ≡ k = grind (arith, nat_tests) in
        ap (place_at places) same ∙ h.above k (omega arith) ∙ e ∙ sym (ap held (ap (place_at old) same ∙ e))
    below_by j false q l = h.below j (next_below j k l q)
hold_one (Some login) k old places a inside e h = live_by (is_live login) refl
  where
    hold : Login → Option Login
    hold own = held (Some own)

    changed : (j : ℕ) → place_at (map (at_id login.login hold) places) j ≡ at_id login.login hold (place_at places j)
    changed j = get_or-map (at_id login.login hold) places j None

    not_k : (j : ℕ) → nat_eq j k ≡ false → j ≢ k
    not_k j q same = let yes : nat_eq j k ≡ true = grind (arith, nat_tests) in absurd (let no : true ≡ false = sym yes ∙ q in cc)

    live_by : (b : Bool) → is_live login ≡ b → HeldBelow (k + 1) old (cond b (map (at_id login.login hold) places) places)
    live_by true live = record {
      size = length-map places (at_id login.login hold) ∙ h.size;
      below = λ j l. changed j ∙ below_by j (nat_eq j k) refl l;
      above = λ j l.
          changed j
          ∙ at_other login.login hold (place_at places j)
          (λ other there. let d : j ≢ k = λ same. absurd (omega arith) in a.apart j k other login d (sym (h.above j (omega arith)) ∙ there) e)
          ∙ h.above j (omega arith);
    }
      where
        below_by : (j : ℕ) (b : Bool) → nat_eq j k ≡ b → j < k + 1 → at_id login.login hold (place_at places j) ≡ held (place_at old j)
        below_by j true q l =
            let same : j ≡ k = grind (arith, nat_tests) in
            ap (at_id login.login hold) (ap (place_at places) same ∙ h.above k (omega arith) ∙ e) ∙ at_own hold login ∙ sym (ap held (ap (place_at old) same ∙ e))
        below_by j false q l =
            let before = h.below j (next_below j k l q) in
            at_other login.login hold (place_at places j)
            (λ other there. let own = held_id (place_at old j) other (sym before ∙ there) in λ same. a.apart j k own.0 login (not_k j q) own.1.0 e (own.1.1 ∙ same))
            ∙ before
    live_by false live = record {
      size = h.size;
      below = λ j l. below_by j (nat_eq j k) refl l;
      above = λ j l. h.above j (omega arith);
    }
      where
        below_by : (j : ℕ) (b : Bool) → nat_eq j k ≡ b → j < k + 1 → place_at places j ≡ held (place_at old j)
        below_by j true q l =
            let same : j ≡ k = grind (arith, nat_tests) in
            ap (place_at places) same ∙ h.above k (omega arith) ∙ e ∙ sym (held_resting login live) ∙ sym (ap held (ap (place_at old) same ∙ e))
        below_by j false q l = h.below j (next_below j k l q)

hold_more : (left k : ℕ) (old places : List (Option Login)) → AreApart old → k + left ≡ length old → HeldBelow k old places → HeldBelow (length old) old (holds_from left k old places)
hold_more zero k old places a e h = subst (λ n. HeldBelow n old places) (let same : k ≡ length old = omega arith in same) h
hold_more (suc left) k old places a e h =
    hold_more left (k + 1) old (holds (place_at old k) places) a (omega arith) (hold_one (place_at old k) k old places a (omega arith) refl h)

pub all_held : (places : List (Option Login)) → IsSound places → holds_from 8 0 places places ≡ map held places
all_held places s =
    let size = s.size in
    let h = hold_more 8 0 places places (sound_apart places s) (omega arith) (record { size = refl; below = λ j l. absurd (omega arith); above = λ j l. refl }) in
    let last = holds_from 8 0 places places in
    ext_get_or None last (map held places) (h.size ∙ sym (length-map places held)) (λ i below. h.below i (let same = h.size in omega arith) ∙ sym (get_or-map held places i None))

-- ---- a second passes, and logins expire

abbrev pub expires : List ℕ → List (Option Login) → List (Option Login)
expires [] places = places
expires (id ∷ ids) places = expires ids (map (at_id id (λ login. None)) places)

abbrev without_ids : List ℕ → Option Login → Option Login
without_ids [] x = x
without_ids (id ∷ ids) x = without_ids ids (at_id id (λ login. None) x)

expires_size : (ids : List ℕ) (places : List (Option Login)) → length (expires ids places) ≡ length places
expires_size [] places = refl
expires_size (id ∷ ids) places = expires_size ids (map (at_id id (λ login. None)) places) ∙ length-map places (at_id id (λ login. None))

expires_at : (ids : List ℕ) (places : List (Option Login)) (j : ℕ) → place_at (expires ids places) j ≡ without_ids ids (place_at places j)
expires_at [] places j = refl
expires_at (id ∷ ids) places j =
    expires_at ids (map (at_id id (λ login. None)) places) j ∙ ap (without_ids ids) (get_or-map (at_id id (λ login. None)) places j None)

without_none : (ids : List ℕ) → without_ids ids None ≡ None
without_none [] = refl
without_none (id ∷ ids) = without_none ids

without_if : (b : Bool) (ids : List ℕ) (y : Login) → without_ids ids (Some y) ≡ None → without_ids ids (cond b None (Some y)) ≡ None
without_if true ids y h = without_none ids
without_if false ids y h = h

expired_there : (places : List (Option Login)) (k : ℕ) (login y : Login) → place_at places k ≡ Some login → is_last login.remaining ≡ true → y.login ≡ login.login → without_ids (expired_ids places) (Some y) ≡ None
expired_there [] k login y e last same = absurd (let no : None ≡ Some login = e in cc)
expired_there (x ∷ places) zero login y e last same =
    let first : expired_id x ≡ Some login.login = ap expired_id e ∙ ap (λ b. cond b (Some login.login) None) last in
    rw first (ap (without_ids (filter_map expired_id places)) (ap (λ b. cond b None (Some y)) (ap (λ n. nat_eq n login.login) same ∙ itself login.login)) ∙ without_none (filter_map expired_id places))
expired_there (x ∷ places) (suc k) login y e last same = by_first (expired_id x) refl (expired_there places k login y e last same)
  where
    by_first : (o : Option ℕ) → expired_id x ≡ o → without_ids (filter_map expired_id places) (Some y) ≡ None → without_ids (filter_map expired_id (x ∷ places)) (Some y) ≡ None
    by_first None q rest = rw q rest
    by_first (Some id) q rest = rw q (without_if (nat_eq y.login id) (filter_map expired_id places) y rest)

expired_not : (places : List (Option Login)) (y : Login) → ((k : ℕ) (a : Login) → place_at places k ≡ Some a → is_last a.remaining ≡ true → a.login ≢ y.login) → without_ids (expired_ids places) (Some y) ≡ Some y
expired_not [] y d = refl
expired_not (None ∷ places) y d = expired_not places y (λ k a e last. d (suc k) a e last)
expired_not (Some a ∷ places) y d = by_last (is_last a.remaining) refl (expired_not places y (λ k b e last. d (suc k) b e last))
  where
    by_last : (b : Bool) → is_last a.remaining ≡ b → without_ids (filter_map expired_id places) (Some y) ≡ Some y → without_ids (filter_map expired_id (Some a ∷ places)) (Some y) ≡ Some y
    by_last true q rest =
        rw q (ap (without_ids (filter_map expired_id places)) (at_other a.login (λ login. None) (Some y) (λ own same. let z : y ≡ own = cc in λ t. d zero a refl q (sym t ∙ ap (λ (l : Login). l.login) (sym z)))) ∙ rest)
    by_last false q rest = rw q rest

pub all_ticked : (places : List (Option Login)) → IsSound places → expires (expired_ids places) (map second_gone places) ≡ map ticked places
all_ticked places s =
    let a = sound_apart places s in
    let ids = expired_ids places in
    let gone = map second_gone places in
    ext_get_or None (expires ids gone) (map ticked places) (expires_size ids gone ∙ length-map places second_gone ∙ sym (length-map places ticked))
    (λ j below. expires_at ids gone j ∙ ap (without_ids ids) (get_or-map second_gone places j None) ∙ at_place a j (place_at places j) refl ∙ sym (get_or-map ticked places j None))
  where
    at_place : AreApart places → (j : ℕ) (x : Option Login) → place_at places j ≡ x → without_ids (expired_ids places) (second_gone (place_at places j)) ≡ ticked (place_at places j)
    at_place a j None e = ap (λ y. without_ids (expired_ids places) (second_gone y)) e ∙ without_none (expired_ids places) ∙ sym (ap ticked e)
    at_place a j (Some login) e = ap (λ y. without_ids (expired_ids places) (second_gone y)) e ∙ by_last (is_last login.remaining) refl ∙ sym (ap ticked e)
      where
        by_last : (b : Bool) → is_last login.remaining ≡ b → without_ids (expired_ids places) (second_gone (Some login)) ≡ ticked (Some login)
        by_last true q = expired_there places j login _ e q refl ∙ sym (ap (λ b. cond b None (Some (record login { remaining = one_less login.remaining }))) q)
        by_last false q =
            expired_not places (record login { remaining = one_less login.remaining })
            (λ k other there last same. by_place (nat_eq k j) k other there last same refl)
            ∙ sym (ap (λ b. cond b None (Some (record login { remaining = one_less login.remaining }))) q)
          where
            by_place : (b : Bool) (k : ℕ) (other : Login) → place_at places k ≡ Some other → is_last other.remaining ≡ true → other.login ≡ login.login → nat_eq k j ≡ b → ⊥
            by_place true k other there last same z =
                let own : Some other ≡ Some login = sym there ∙ ap (place_at places) (let x : k ≡ j = grind (arith, nat_tests) in x) ∙ e in
                let is : other ≡ login = cc in
                let no : true ≡ false = sym last ∙ ap (λ (l : Login). is_last l.remaining) is ∙ q in cc
            by_place false k other there last same z =
                a.apart k j other login (λ x. let yes : nat_eq k j ≡ true = grind (arith, nat_tests) in let no : true ≡ false = sym yes ∙ z in cc) there e same
