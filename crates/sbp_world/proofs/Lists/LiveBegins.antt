-- The logins with which a run begins are as the sessions of the initiators say.
use Rattle.sbp_world.proofs.Words.Std.{arith, ◌≡◌, ◌∙◌, refl, sym, ap, subst, inr, ℕ, zero, suc, ◌+◌, ◌-◌, ◌<◌, ◌≤◌, nat_lt, Bool, true, false, List, ◌++◌, length, replicate, Option, Some, None, nat_tests, common_steps, get_or-replicate, length-replicate}
use Rattle.sbp_world.proofs.Words.Wire.{Topology, first_topology, id_of, no_topology, topology_at, Moment}
use Rattle.sbp_world.proofs.Words.Target.{Login, Table, place_at, Disk}
use Rattle.sbp_world.proofs.Words.Initiator.{InitiatorState, new_state}
use Rattle.sbp_world.proofs.Words.Laws.{first_login, first_table, logins_from, EachMoment}
use Rattle.sbp_world.proofs.Words.World.{new_world, WorldState, initiator_at, HasLogin, HasOne, IsActive, IsTaken, IsTold, GoodAt, NoBadAt, OursAt, OwnedAt, BasedAt}
use Rattle.sbp_world.proofs.Making.{initiators_size}
use Rattle.sbp_world.proofs.Wire.Starts.{first_id, states_at}
use Rattle.sbp_world.proofs.Agents.Management.Begins.{first_holds}
use Rattle.sbp_world.proofs.Lists.LiveAims.{Aims, aims_none}
use Rattle.sbp_world.proofs.Lists.LiveOwn.{Fit}
use Rattle.sbp_world.proofs.Lists.LiveStandings.{Claims, apart_comes, apart_leaves, claims_apart, claims_inside, inside_comes, inside_leaves, none_number, number_in, stand_of}
use Rattle.sbp_world.proofs.Lists.LiveGrants.{none_grants}
use Rattle.sbp_world.proofs.Lists.LiveSteps.{ClaimsOf, Grown, Lives, id_in, own_of, zero_of}
use Rattle.sbp_world.proofs.Lists.LiveTables.{none_login}
use Rattle.sbp_world.proofs.Sessions.Runs.{first_generation}

-- ---- the first table
abbrev row : ℕ → ℕ → ℕ → List (Option Login)
row i n m = logins_from i n ++ replicate m None

row_at : (n i m k : ℕ) → k < n → place_at (row i n m) k ≡ Some (first_login (i + k))
row_at zero i m k l = absurd (omega arith)
row_at (suc n) i m zero l = ap (λ x. Some (first_login x)) (let e : i ≡ i + 0 = omega arith in e)
row_at (suc n) i m (suc k) l = row_at n (i + 1) m k (omega arith) ∙ ap (λ x. Some (first_login x)) (let e : i + 1 + k ≡ i + suc k = omega arith in e)

rest_none : (m k : ℕ) → place_at (replicate m None) k ≡ None
rest_none m k = by (nat_lt k m) refl
  where
    by : (b : Bool) → nat_lt k m ≡ b → place_at (replicate m None) k ≡ None
    by true l = get_or-replicate m k None None (grind (arith, nat_tests))
    by false l =
        let size : length (replicate {A = Option Login} m None) ≡ m = length-replicate m None in
        let beyond : length (replicate {A = Option Login} m None) ≤ k = grind (arith, nat_tests) in
        let none : place_at (replicate {A = Option Login} m None) k ≡ None = grind (arith, common_steps) in
        none

row_none : (n i m k : ℕ) → n ≤ k → place_at (row i n m) k ≡ None
row_none zero i m k l = rest_none m k
row_none (suc n) i m zero l = absurd (omega arith)
row_none (suc n) i m (suc k) l = row_none n (i + 1) m k (omega arith)

-- which login a place has
row_is : (n m k : ℕ) (login : Login) → place_at (row 0 n m) k ≡ Some login → (k < n) × (first_login k ≡ login)
row_is n m k login e = by (nat_lt k n) refl
  where
    by : (b : Bool) → nat_lt k n ≡ b → (k < n) × (first_login k ≡ login)
    by true l =
        let less : k < n = grind (arith, nat_tests) in
        let both : Some (first_login k) ≡ Some login = sym (row_at n 0 m k less ∙ ap (λ x. Some (first_login x)) (let f : 0 + k ≡ k = omega arith in f)) ∙ e in
        (less, let same : first_login k ≡ login = cc in same)
    by false l = none_login login (sym (row_none n 0 m k (grind (arith, nat_tests))) ∙ e)

node_of : (k : ℕ) → (first_login k).node ≡ 0xffc1 + k
node_of k = let e : 0xffc0 + (k + 1) ≡ 0xffc1 + k = omega arith in e

module _ (n : ℕ) (few : n ≤ 4) (units : ℕ) (small : units ≤ 4) (line : ℕ) (start : List Disk) (size : length start ≡ units) where
  abbrev world : Bool → WorldState
  world is_ready = new_world n is_ready units

  table_is : (is_ready : Bool) → first_table is_ready n ≡ (world is_ready).target.logins
  unfolding new_world
  table_is is_ready = (first_holds n is_ready units line start few small size).at.agrees.table

  state_is : (is_ready : Bool) (i : ℕ) → i < n → initiator_at (world is_ready) i ≡ new_state i is_ready
  unfolding new_world
  state_is is_ready i l = states_at n i is_ready (new_state 0 false) l

  first_seen : (is_ready : Bool) → topology_at (world is_ready).generations 0 ≡ first_topology (n + 1)
  unfolding new_world
  first_seen is_ready = get_or-replicate (n + 1) 0 (first_topology (n + 1)) no_topology (omega arith)

  first_together : (is_ready : Bool) (i : ℕ) → own_of (world is_ready) i ≤ zero_of (world is_ready)
  unfolding new_world
  first_together is_ready i =
      let a = first_generation (n + 1) (suc i) (first_topology (n + 1)) refl in
      let b = first_generation (n + 1) 0 (first_topology (n + 1)) refl in
      omega (arith, a, b)

  pub id_is : (is_ready : Bool) (i : ℕ) → i < n → id_in (world is_ready) i ≡ 0xffc1 + i
  id_is is_ready i l =
      ap (λ (t : Topology). id_of t (suc i)) (first_seen is_ready) ∙ sym (first_id (n + 1) (suc i) (omega arith) (omega arith)) ∙ (let e : 65472 + suc i ≡ 0xffc1 + i = omega arith in e)

  -- those of a world whose initiators are ready
  module _ (past : List Moment) (i : ℕ) (l : i < n) where
    abbrev places : List (Option Login)
    places = row 0 n (8 - n)

    ready_one : HasOne places (0xffc1 + i)
    ready_one = record {
      one = λ place other a b e f g h x y.
          let p = row_is n (8 - n) place a e in
          let q = row_is n (8 - n) other b f in
          let u : 0xffc1 + place ≡ 0xffc1 + i = sym (node_of place) ∙ ap (λ (z : Login). z.node) p.1 ∙ x in
          let v : 0xffc1 + other ≡ 0xffc1 + i = sym (node_of other) ∙ ap (λ (z : Login). z.node) q.1 ∙ y in
          omega (arith, u, v);
    }

    pub ready_has : HasLogin places (0xffc1 + i) (i + 1)
    ready_has = record { place = i; login = first_login i; there = row_at n 0 (8 - n) i l ∙ ap (λ x. Some (first_login x)) (let e : 0 + i ≡ i = omega arith in e); live = refl; of_node = node_of i; own = refl }

    pub ready_place : ready_has.place ≡ i
    unfolding ready_has
    ready_place = refl

    ready_claims : ClaimsOf start past (world true) i
    unfolding new_state
    ready_claims =
        let t = table_is true in
        let at = state_is true i l in
        subst (λ (x : InitiatorState). Claims (IsTaken start past i) (IsActive start past i) (IsTold start past i) (stand_of x.seat) (id_in (world true) i) (world true).target.manager (world true).target.logins.places) (sym at)
        (subst (λ (x : Table). Claims (IsTaken start past i) (IsActive start past i) (IsTold start past i) (stand_of (new_state i true).seat) (id_in (world true) i) (world true).target.manager x.places) t
        (subst (λ id. Claims (IsTaken start past i) (IsActive start past i) (IsTold start past i) (stand_of (new_state i true).seat) id (world true).target.manager places) (sym (id_is true i l))
        (claims_inside (0xffc1 + i) (world true).target.manager places (IsTaken start past i) (IsActive start past i) (IsTold start past i) (i + 1) ready_one ready_has)))

    ready_lives : own_of (world true) i ≤ zero_of (world true) → Lives start past (world true) i
    unfolding new_state
    ready_lives seen = record {
      fit = subst (λ (x : InitiatorState). Fit x.operation x.seat) (sym (state_is true i l)) (record { coming = λ e. inside_comes (i + 1) e; going = λ number e. inside_leaves (i + 1) number e });
      aims = subst (λ (x : InitiatorState). Aims x.operation (stand_of x.seat)) (sym (state_is true i l)) (aims_none None (stand_of (new_state i true).seat) refl);
      seen = λ number e. inr seen;
      claims = λ c e. inr ready_claims;
    }

    out_claims : ClaimsOf start past (world false) i
    unfolding new_state
    out_claims =
        let t = table_is false in
        let at = state_is false i l in
        subst (λ (x : InitiatorState). Claims (IsTaken start past i) (IsActive start past i) (IsTold start past i) (stand_of x.seat) (id_in (world false) i) (world false).target.manager (world false).target.logins.places) (sym at)
        (subst (λ (x : Table). Claims (IsTaken start past i) (IsActive start past i) (IsTold start past i) (stand_of (new_state i false).seat) (id_in (world false) i) (world false).target.manager x.places) t
        (claims_apart (id_in (world false) i) (world false).target.manager (replicate 8 None) (IsTaken start past i) (IsActive start past i) (IsTold start past i)
        (record { none = λ place login e live node. none_login login (sym (rest_none 8 place) ∙ e) })))

    out_lives : Lives start past (world false) i
    unfolding new_state
    out_lives = record {
      fit = subst (λ (x : InitiatorState). Fit x.operation x.seat) (sym (state_is false i l)) (record { coming = λ e. apart_comes e; going = λ number e. apart_leaves number e });
      aims = subst (λ (x : InitiatorState). Aims x.operation (stand_of x.seat)) (sym (state_is false i l)) (aims_none None (stand_of (new_state i false).seat) refl);
      seen = λ number e. none_number number (sym (ap (λ (x : InitiatorState). number_in (stand_of x.seat)) (state_is false i l)) ∙ e);
      claims = λ c e. inr out_claims;
    }

  pub first_lives : (is_ready : Bool) (past : List Moment) (i : ℕ) → i < length (world is_ready).initiators → Lives start past (world is_ready) i
  unfolding new_world
  first_lives is_ready past i l = by is_ready
    where
      inside : i < n
      inside = subst (λ m. i < m) (initiators_size n is_ready) l

      by : (b : Bool) → Lives start past (world b) i
      by true = ready_lives past i inside (first_together true i)
      by false = out_lives past i inside

  -- no operation is under way
  pub first_none : (is_ready : Bool) (i : ℕ) → i < n → (initiator_at (world is_ready) i).operation ≡ None
  unfolding new_state
  first_none is_ready i l = ap (λ (x : InitiatorState). x.operation) (state_is is_ready i l)

  pub first_grown : (is_ready : Bool) (past : List Moment) (i : ℕ) → EachMoment (GoodAt i) past → EachMoment (BasedAt i) past → EachMoment (NoBadAt i) past → EachMoment (OursAt start i) past → EachMoment (OwnedAt start i) past → i < length (world is_ready).initiators → Grown start past (world is_ready) i
  unfolding new_world
  first_grown is_ready past i good based unbad ours owned l =
      let inside : i < n = subst (λ m. i < m) (initiators_size n is_ready) l in
      let none = first_none is_ready i inside in
      record {
        grants = λ beside together. none_grants (id_in (world is_ready) i) _ (IsActive start past i) (IsTold start past i) (world is_ready).target.manager (world is_ready).target.logins.places (initiator_at (world is_ready) i) none;
        buffer = λ beside orb bytes told good running is login. absurd (let no : None ≡ Some running = sym none ∙ is in cc);
        good = λ beside. good;
        based = λ beside. based;
        named = λ beside orb bytes told good running is login. absurd (let no : None ≡ Some running = sym none ∙ is in cc);
        ours = λ beside. ours;
        owned = λ beside. owned;
        unbad = λ beside. unbad;
        logout = λ beside orb bytes told running is logout. absurd (let no : None ≡ Some running = sym none ∙ is in cc);
      }
