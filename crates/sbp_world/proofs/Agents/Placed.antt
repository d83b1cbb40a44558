-- The logins of a table, and who has their places: what each change makes of both.
use Rattle.sbp_world.proofs.Words.Std.{arith, ◌≡◌, ◌≢◌, ◌∙◌, refl, sym, ap, subst, ℕ, ◌<◌, nat_eq, Bool, true, false, List, length, map, set, get_or, Option, Some, None, is_none, position, get_or-map, length-set, nat_tests, common_steps, get_or-set_at, ext_get_or, length-map, position-Some, false≢true}
use Rattle.sbp_world.proofs.Words.Wire.{Holder, back_at, back_step, enter_step, has_login, is_free, left_step, opened_by, opened_step, place_in, put_at, taken_by}
use Rattle.sbp_world.proofs.Words.Target.{Login, held, is_live, one_less, place_at, revived}
use Rattle.sbp_world.proofs.Words.Laws.{at_id, second_gone}
use Rattle.std.proofs.Common.{get_or-set_other}
use Rattle.bus_transactions.proofs.Rooms.{position_map}
use Rattle.label_table.proofs.Owned.{position_none}
use Rattle.sbp_world.proofs.Agents.Management.Places.{AreApart, at_other, one_changed}

-- Whose a login is: a live one is of an initiator whose node's ID it has.
pub record IsHolder (Of : (initiator id : ℕ) → Type 0) (login : Login) (holder : Holder) : Type 0 where
  pub login_is : holder.login ≡ login.login
  pub unit_is : holder.unit ≡ login.unit
  pub live : is_live login ≡ true → Of holder.initiator login.node

abbrev pub Has : ((initiator id : ℕ) → Type 0) → Option Login → Option Holder → Type 0
Has Of None None = Unit {0}
Has Of None (Some holder) = ⊥
Has Of (Some login) None = ⊥
Has Of (Some login) (Some holder) = IsHolder Of login holder

pub record Placed (Of : (initiator id : ℕ) → Type 0) (logins : List (Option Login)) (places : List (Option Holder)) : Type 0 where
  pub size : length logins ≡ 8
  pub count : length places ≡ 8
  pub each : (j : ℕ) → Has Of (place_at logins j) (place_in places j)

module _ (Of : (initiator id : ℕ) → Type 0) (logins : List (Option Login)) (places : List (Option Holder)) (p : Placed Of logins places) where
  -- ---- one place has another login and another holder
  pub set_placed : (k : ℕ) (x : Option Login) (y : Option Holder) → k < 8 → Has Of x y → Placed Of (set logins k x) (set places k y)
  set_placed k x y l h = record { size = length-set logins k x ∙ p.size; count = length-set places k y ∙ p.count; each = λ j. by j (nat_eq j k) refl }
    where
      by : (j : ℕ) (b : Bool) → nat_eq j k ≡ b → Has Of (place_at (set logins k x) j) (place_in (set places k y) j)
      by j true q =
          let same : j ≡ k = grind (arith, nat_tests) in
          let s = p.size in
          let c = p.count in
          subst (λ (a : Option Login). Has Of a (place_in (set places k y) j)) (sym (get_or-set_at logins k j x None same (omega arith)))
          (subst (λ (b : Option Holder). Has Of x b) (sym (get_or-set_at places k j y None same (omega arith))) h)
      by j false q =
          let apart : j ≢ k = λ same. let yes : nat_eq j k ≡ true = grind (arith, nat_tests) in false≢true (sym q ∙ yes) in
          subst (λ (a : Option Login). Has Of a (place_in (set places k y) j)) (sym (get_or-set_other logins k j x None apart))
          (subst (λ (b : Option Holder). Has Of (place_at logins j) b) (sym (get_or-set_other places k j y None apart)) (p.each j))

  -- ---- each login is another, of the same place, ID and unit
  pub map_placed : (Now : (initiator id : ℕ) → Type 0) (f : Option Login → Option Login) → f None ≡ None → ((x : Option Login) (y : Option Holder) → Has Of x y → Has Now (f x) y) → Placed Now (map f logins) places
  map_placed Now f none keeps = record {
    size = length-map logins f ∙ p.size;
    count = p.count;
    each = λ j. subst (λ (a : Option Login). Has Now a (place_in places j)) (sym (ap (λ d. get_or (map f logins) j d) (sym none) ∙ get_or-map f logins j None)) (keeps (place_at logins j) (place_in places j) (p.each j));
  }

  -- ---- the place of a login by its ID
  abbrev IsThere : ℕ → ℕ → Option Login → Option Holder → Type 0
  IsThere id k x y = (login : Login) × (holder : Holder) × (x ≡ Some login) × (y ≡ Some holder) × (holder.login ≡ id) × (login.login ≡ id)

  there_as : (id : ℕ) (k : ℕ) (x : Option Login) (y : Option Holder) → Has Of x y → has_login id y ≡ true → IsThere id k x y
  there_as id k None None h e = absurd (false≢true e)
  there_as id k (Some login) None h e = absurd (false≢true e)
  there_as id k None (Some holder) h e = absurd h
  there_as id k (Some login) (Some holder) h e =
      let is : holder.login ≡ id = grind (arith, nat_tests) in (login, holder, refl, refl, is, sym h.login_is ∙ is)

  there : (id k : ℕ) → position (has_login id) places ≡ Some k → (k < 8) × IsThere id k (place_at logins k) (place_in places k)
  there id k e =
      let q = position-Some (has_login id) places k None e in
      let l = q.0 in
      let c = p.count in
      (omega arith, there_as id k (place_at logins k) (place_in places k) (p.each k) q.1)

  -- where no place has the ID, no login has it
  none_as : (id : ℕ) (x : Option Login) (y : Option Holder) → Has Of x y → has_login id y ≡ false → (login : Login) → x ≡ Some login → login.login ≢ id
  none_as id None y h e login f = absurd (let z : None ≡ Some login = f in cc)
  none_as id (Some own) None h e login f = absurd h
  none_as id (Some own) (Some holder) h e login f =
      let same : own ≡ login = cc in
      λ g.
      let is : holder.login ≡ id = h.login_is ∙ ap (λ (x : Login). x.login) same ∙ g in
      let yes : nat_eq holder.login id ≡ true = grind (arith, nat_tests) in
      false≢true (sym e ∙ yes)

  beyond : (id j : ℕ) (b : Bool) → has_login id (place_in places j) ≡ b → position (has_login id) places ≡ None → b ≡ false
  beyond id j false q e = refl
  beyond id j true q e = absurd (by (place_in places j) refl q)
    where
      by : (y : Option Holder) → place_in places j ≡ y → has_login id y ≡ true → ⊥
      by None f g = false≢true g
      by (Some holder) f g =
          let inside : j < length places = grind (arith, common_steps) in
          false≢true (sym (position_none (has_login id) places j None e inside) ∙ ap (has_login id) f ∙ g)

  none_there : (id : ℕ) → position (has_login id) places ≡ None → (j : ℕ) (login : Login) → place_at logins j ≡ Some login → login.login ≢ id
  none_there id e j login f = none_as id (place_at logins j) (place_in places j) (p.each j) (beyond id j (has_login id (place_in places j)) refl e) login f

  unchanged : (id : ℕ) (change : Login → Option Login) → position (has_login id) places ≡ None → map (at_id id change) logins ≡ logins
  unchanged id change e =
      ext_get_or None (map (at_id id change) logins) logins (length-map logins (at_id id change))
      (λ j below. get_or-map (at_id id change) logins j None ∙ at_other id change (place_at logins j) (λ login f. none_there id e j login f))

  changed : (id k : ℕ) (change : Login → Option Login) (login : Login) → AreApart logins → place_at logins k ≡ Some login → login.login ≡ id → map (at_id id change) logins ≡ set logins k (change login)
  changed id k change login a e f = ap (λ n. map (at_id n change) logins) (sym f) ∙ one_changed change logins k login a e

  -- ---- a login leaves
  pub left_placed : (id : ℕ) → AreApart logins → Placed Of (map (at_id id (λ login. None)) logins) (left_step id places)
  unfolding left_step
  left_placed id a = by (position (has_login id) places) refl
    where
      by : (found : Option ℕ) → position (has_login id) places ≡ found → Placed Of (map (at_id id (λ login. None)) logins) (put_at found None places)
      by None e = subst (λ (xs : List (Option Login)). Placed Of xs places) (sym (unchanged id (λ login. None) e)) p
      by (Some k) e =
          let t = there id k e in
          let i = t.1 in
          subst (λ (xs : List (Option Login)). Placed Of xs (set places k None)) (sym (changed id k (λ login. None) i.0 a i.2 i.5)) (set_placed k None None t.0 tt)

  -- ---- a login is taken back
  pub back_placed : (id initiator source : ℕ) → AreApart logins → Of initiator source → Placed Of (map (at_id id (λ login. Some (revived source login))) logins) (back_step id initiator places)
  unfolding back_step
  back_placed id initiator source a of = by (position (has_login id) places) refl
    where
      taken : (k : ℕ) (login : Login) (y : Option Holder) → k < 8 → place_in places k ≡ y → Has Of (Some login) y → Placed Of (set logins k (Some (revived source login))) (taken_by y k initiator places)
      taken k login None l e h = absurd h
      taken k login (Some holder) l e h = set_placed k (Some (revived source login)) (Some (record holder { initiator = initiator; list = None })) l (record { login_is = h.login_is; unit_is = h.unit_is; live = λ x. of })

      by : (found : Option ℕ) → position (has_login id) places ≡ found → Placed Of (map (at_id id (λ login. Some (revived source login))) logins) (back_at found initiator places)
      by None e = subst (λ (xs : List (Option Login)). Placed Of xs places) (sym (unchanged id (λ login. Some (revived source login)) e)) p
      by (Some k) e =
          let t = there id k e in
          let i = t.1 in
          subst (λ (xs : List (Option Login)). Placed Of xs (back_at (Some k) initiator places)) (sym (changed id k (λ login. Some (revived source login)) i.0 a i.2 i.5))
          (taken k i.0 (place_in places k) t.0 refl (subst (λ (x : Option Login). Has Of x (place_in places k)) i.2 (p.each k)))

  -- ---- a login is entered
  free_same : (x : Option Login) (y : Option Holder) → Has Of x y → is_none x ≡ is_free y
  free_same None None h = refl
  free_same None (Some holder) h = absurd h
  free_same (Some login) None h = absurd h
  free_same (Some login) (Some holder) h = refl

  pub first_free : position is_none logins ≡ position is_free places
  first_free =
      let itself : Bool → Bool = λ b. b in
      let same : map is_none logins ≡ map is_free places =
      ext_get_or true (map is_none logins) (map is_free places) (length-map logins is_none ∙ p.size ∙ sym p.count ∙ sym (length-map places is_free))
      (λ j below. get_or-map is_none logins j None ∙ free_same (place_at logins j) (place_in places j) (p.each j) ∙ sym (get_or-map is_free places j None)) in
      sym (position_map itself is_none logins) ∙ ap (position itself) same ∙ position_map itself is_free places

  pub entered_placed : (k : ℕ) (login : Login) (holder : Holder) → position is_none logins ≡ Some k → IsHolder Of login holder → Placed Of (set logins k (Some login)) (enter_step holder places)
  unfolding enter_step
  entered_placed k login holder e h =
      let l = (position-Some is_none logins k None e).0 in
      let s = p.size in
      subst (λ (found : Option ℕ). Placed Of (set logins k (Some login)) (put_at found (Some holder) places)) (sym (sym first_free ∙ e)) (set_placed k (Some login) (Some holder) (omega arith) h)

  -- ---- a list is opened
  pub opened_placed : (k : ℕ) (list : Option ℕ) → Placed Of logins (opened_step k list places)
  unfolding opened_step
  opened_placed k list = by (place_in places k) refl (p.each k)
    where
      as_holder : (x : Option Login) (holder : Holder) → Has Of x (Some holder) → Has Of x (Some (record holder { list = list }))
      as_holder None holder h = h
      as_holder (Some login) holder h = record { login_is = h.login_is; unit_is = h.unit_is; live = h.live }

      by : (y : Option Holder) → place_in places k ≡ y → Has Of (place_at logins k) y → Placed Of logins (opened_by y k list places)
      by None e h = p
      by (Some holder) e h = record {
        size = p.size;
        count = length-set places k (Some (record holder { list = list })) ∙ p.count;
        each = λ j. at j (nat_eq j k) refl;
      }
        where
          at : (j : ℕ) (b : Bool) → nat_eq j k ≡ b → Has Of (place_at logins j) (place_in (set places k (Some (record holder { list = list }))) j)
          at j true q =
              let same : j ≡ k = grind (arith, nat_tests) in
              let inside : k < length places = grind (arith, common_steps) in
              subst (λ (b : Option Holder). Has Of (place_at logins j) b) (sym (get_or-set_at places k j (Some (record holder { list = list })) None same inside))
              (subst (λ (i : ℕ). Has Of (place_at logins i) (Some (record holder { list = list }))) (sym same) (as_holder (place_at logins k) holder h))
          at j false q =
              let apart : j ≢ k = λ same. let yes : nat_eq j k ≡ true = grind (arith, nat_tests) in false≢true (sym q ∙ yes) in
              subst (λ (b : Option Holder). Has Of (place_at logins j) b) (sym (get_or-set_other places k j (Some (record holder { list = list })) None apart)) (p.each j)

-- ---- seconds and resets
second_has : (Of : (initiator id : ℕ) → Type 0) (x : Option Login) (y : Option Holder) → Has Of x y → Has Of (second_gone x) y
second_has Of None None h = h
second_has Of None (Some holder) h = h
second_has Of (Some login) None h = h
second_has Of (Some login) (Some holder) h = record { login_is = h.login_is; unit_is = h.unit_is; live = λ e. h.live (by login.remaining e) }
  where
    by : (left : Option ℕ) → is_none (one_less left) ≡ true → is_none left ≡ true
    by None e = refl
    by (Some seconds) e = absurd (false≢true e)

pub second_placed : (Of : (initiator id : ℕ) → Type 0) (logins : List (Option Login)) (places : List (Option Holder)) → Placed Of logins places → Placed Of (map second_gone logins) places
second_placed Of logins places p = map_placed Of logins places p Of second_gone refl (second_has Of)

held_has : (Of Now : (initiator id : ℕ) → Type 0) (x : Option Login) (y : Option Holder) → Has Of x y → Has Now (held x) y
held_has Of Now None None h = h
held_has Of Now None (Some holder) h = h
held_has Of Now (Some login) None h = h
held_has Of Now (Some login) (Some holder) h = record { login_is = h.login_is; unit_is = h.unit_is; live = λ e. absurd (false≢true e) }

pub held_placed : (Of Now : (initiator id : ℕ) → Type 0) (logins : List (Option Login)) (places : List (Option Holder)) → Placed Of logins places → Placed Now (map held logins) places
held_placed Of Now logins places p = map_placed Of logins places p Now held refl (held_has Of Now)

-- the same of other nodes
pub placed_for : (Of Now : (initiator id : ℕ) → Type 0) (logins : List (Option Login)) (places : List (Option Holder)) → ((initiator id : ℕ) → Of initiator id → Now initiator id) → Placed Of logins places → Placed Now logins places
placed_for Of Now logins places f p = record { size = p.size; count = p.count; each = λ j. by (place_at logins j) (place_in places j) (p.each j) }
  where
    by : (x : Option Login) (y : Option Holder) → Has Of x y → Has Now x y
    by None None h = h
    by None (Some holder) h = h
    by (Some login) None h = h
    by (Some login) (Some holder) h = record { login_is = h.login_is; unit_is = h.unit_is; live = λ e. f holder.initiator login.node (h.live e) }
