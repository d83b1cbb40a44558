-- Who has a place of the target's logins, in every run.
use Rattle.sbp_world.proofs.Making.{ready_few}
use Rattle.sbp_world.proofs.Words.Std.{arith, ◌≡◌, ◌≢◌, ◌∙◌, refl, sym, ap, subst, ℕ, zero, suc, ◌+◌, ◌^◌, ◌<◌, ◌≤◌, ◌&&◌, nat_eq, Bool, true, false, cond, List, [], ◌∷◌, ◌++◌, length, map, Option, Some, None, unwrap_or, nat_tests, get_or-replicate, false≢true}
use Rattle.sbp_world.proofs.Words.Wire.{Topology, Holder, first_ids, first_topology, id_of, no_topology, topology_at, holder_of, new_places, place_in, Moment, asked, said, Terms, local_id, terms}
use Rattle.sbp_world.proofs.Words.Target.{Login, IsSound, Table, find, is_live, is_of_node, place_at, Operation, source_in, Disk}
use Rattle.sbp_world.proofs.Words.Laws.{id_for, Target, first_login, first_table, initiator_from, initiator_with, node_in, place_on, target_at}
use Rattle.sbp_world.proofs.Words.World.{FitsOperation, Holds, new_world, ready_logins, AreEntries, Entry, Run, after, beginning, after_all, initiator_of, AreLines, Stands, WorldState, begun, AreHeldAt, HoldersBetweenLaw, HoldersLaw, IsHeld, IsLiveOf}
use Rattle.login_table.proofs.Searching.{found as login_found, not_found}
use Rattle.sbp_bus.proofs.Making.{ids_size}
use Rattle.sbp_world.proofs.FitTarget.Law.{fitting_law}
use Rattle.sbp_world.proofs.Wire.Found.{known_has}
use Rattle.sbp_world.proofs.Wire.Starts.{first_id}
use Rattle.sbp_world.proofs.Wire.ToldBytes.{happened_fits}
use Rattle.sbp_world.proofs.Agents.Management.Begins.{first_holds}
use Rattle.sbp_world.proofs.Agents.Management.Holding.{Holding, good_of, known_id, same_id}
use Rattle.sbp_world.proofs.Agents.Management.Lines.{all_heard, opens}
use Rattle.sbp_world.proofs.Agents.Management.Runs.{holds_after, no_repeats, not_reset}
use Rattle.sbp_world.proofs.Agents.Management.Still.{hist}
use Rattle.sbp_world.specs.Agents.Holders.{IsOf}
use Rattle.sbp_world.proofs.Agents.Peers.{Peer, found_leaves, is_peer, peer_of}
use Rattle.sbp_world.proofs.Agents.Placed.{Has, IsHolder, Placed}
use Rattle.sbp_world.proofs.Agents.Seats.{Seats, of_peer}
use Rattle.sbp_world.proofs.Agents.Seating.{all_seats, line_seats, opened}
use Rattle.sbp_world.proofs.Agents.Telling.{Of}
use Rattle.sbp_world.proofs.Hosts.Runs.{are_told}

-- ---- the initiator of an ID by the terms: no other has it
pub finds : (more k i : ℕ) (t : Terms) (id : ℕ) → ((m : ℕ) → id_for t 0 (m + 1) ≡ id → m ≡ i) → id_for t 0 (i + 1) ≡ id → k ≤ i → i < k + more → initiator_from more k t id ≡ i
finds zero k i t id alone is l m = absurd (omega (arith, l, m))
finds (suc more) k i t id alone is l m = by (nat_eq (id_for t 0 (k + 1)) id) refl (λ d. finds more (k + 1) i t id alone is (omega (arith, l, d)) (omega (arith, m)))
  where
    by : (b : Bool) → nat_eq (id_for t 0 (k + 1)) id ≡ b → (k < i → initiator_from more (k + 1) t id ≡ i) → cond b k (initiator_from more (k + 1) t id) ≡ i
    by true e rest = alone k (grind (arith, nat_tests))
    by false e rest = rest (below k i l (λ same. false≢true (sym e ∙ there (subst (λ x. id_for t 0 (x + 1) ≡ id) (sym same) is))))
      where
        there : id_for t 0 (k + 1) ≡ id → nat_eq (id_for t 0 (k + 1)) id ≡ true
        there f = grind (arith, nat_tests)

        below : (k i : ℕ) → k ≤ i → (k ≡ i → ⊥) → k < i
        below k i l d = by_test (nat_eq k i) refl
          where
            by_test : (c : Bool) → nat_eq k i ≡ c → k < i
            by_test true f = absurd (d (grind (arith, nat_tests)))
            by_test false f = grind (arith, nat_tests)

-- ---- a login passes a test of its unit and its node
record Passes (unit node : ℕ) (login : Login) : Type 0 where
  live : is_live login ≡ true
  unit_is : login.unit ≡ unit
  node_is : login.node ≡ node

passes : (unit node : ℕ) (login : Login) → is_of_node unit node login ≡ true → Passes unit node login
passes unit node login e = by (is_live login) (nat_eq login.unit unit) (nat_eq login.node node) refl refl refl e
  where
    by : (a b c : Bool) → is_live login ≡ a → nat_eq login.unit unit ≡ b → nat_eq login.node node ≡ c → (a && b && c) ≡ true → Passes unit node login
    by true true true p q r f = record { live = p; unit_is = grind (arith, nat_tests); node_is = grind (arith, nat_tests) }
    by true true false p q r f = absurd (false≢true f)
    by true false c p q r f = absurd (false≢true f)
    by false b c p q r f = absurd (false≢true f)

fulfils : (unit node : ℕ) (login : Login) → is_live login ≡ true → login.unit ≡ unit → login.node ≡ node → is_of_node unit node login ≡ true
fulfils unit node login live u n =
    let a : nat_eq login.unit unit ≡ true = grind (arith, nat_tests) in
    let b : nat_eq login.node node ≡ true = grind (arith, nat_tests) in
    ap (λ x. x && nat_eq login.unit unit && nat_eq login.node node) live ∙ ap (λ x. x && nat_eq login.node node) a ∙ b

-- the place of a live login is found by its unit and its node
finds_place : (places : List (Option Login)) → IsSound places → (place : ℕ) (login : Login) → place_at places place ≡ Some login → is_live login ≡ true → find (is_of_node login.unit login.node) places ≡ Some place
finds_place places sound place login there live = by (find (is_of_node login.unit login.node) places) refl
  where
    by : (found : Option ℕ) → find (is_of_node login.unit login.node) places ≡ found → found ≡ Some place
    by None e = absurd (false≢true (sym (not_found (is_of_node login.unit login.node) places place login there e) ∙ fulfils login.unit login.node login live refl refl))
    by (Some k) e =
        let f = login_found (is_of_node login.unit login.node) places k e in
        let p = passes login.unit login.node f.login f.passes in
        by_place (nat_eq k place) refl f.login f.stands p
      where
        by_place : (b : Bool) → nat_eq k place ≡ b → (other : Login) → place_at places k ≡ Some other → Passes login.unit login.node other → Some k ≡ Some place
        by_place true q other stands p = ap Some (let same : k ≡ place = grind (arith, nat_tests) in same)
        by_place false q other stands p =
            let apart : k ≢ place = λ same. let yes : nat_eq k place ≡ true = grind (arith, nat_tests) in false≢true (sym q ∙ yes) in
            absurd ((sound.apart k place other login apart stands there).nodes p.unit_is p.live live p.node_is)

-- ---- at a place of a history
module _ (units ready : ℕ) (has : 0 < units) (start : List Disk) {past : List Moment} {lines : ℕ} (w : WorldState) (h : Holding units ready start past lines w) (q : Seats w) where
  abbrev stands : Stands past w
  stands = h.sound.stands

  abbrev t : Terms
  t = terms (hist past w)

  abbrev target : Target
  target = target_at start (hist past w)

  abbrev top : Topology
  top = topology_at w.generations 0

  there : 0 ≤ length w.initiators
  there = omega arith

  table_is : target.table ≡ w.target.logins
  table_is = h.at.agrees.table

  of_initiator : (initiator id : ℕ) → Of top initiator id → IsOf t (length w.initiators) initiator id
  of_initiator initiator id of =
      let size = stands.is.sizes 0 there in
      let inside = of.1 in
      let small : initiator < length w.initiators = omega arith in
      let next : initiator + 1 ≡ suc initiator = omega arith in
      record { small = small; node_is = ap (λ n. id_for t 0 n) next ∙ known_id w stands (suc initiator) (omega arith) ∙ of.0 }

  live_of : (place : ℕ) (login : Login) (initiator : ℕ) → place_at w.target.logins.places place ≡ Some login → is_live login ≡ true → IsOf t (length w.initiators) initiator login.node → IsLiveOf t (length w.initiators) target place login initiator
  live_of place login initiator e live of =
      let few = stands.is.few in
      let small = of.small in
      let table = table_is in
      let sound = (good_of units ready h.calls w.target has h.made).table.sound in
      record {
        of = of;
        terms_are =
            ap (λ (x : Table). initiator_with t (node_in (place_at x.places place))) table
            ∙ ap (λ x. initiator_with t (node_in x)) e
            ∙ finds 4 0 initiator t login.node (λ m f. let z = same_id w stands (m + 1) (initiator + 1) (f ∙ sym of.node_is) in omega (arith, z)) of.node_is (omega arith) (omega (arith, few, small));
        place_is =
            ap (λ n. place_on target login.unit n) of.node_is
            ∙ ap (λ (x : Table). unwrap_or (find (is_of_node login.unit login.node) x.places) 8) table
            ∙ ap (λ o. unwrap_or o 8) (finds_place w.target.logins.places sound place login e live);
      }

  held_by : (place : ℕ) (login : Login) (x : Option Login) (y : Option Holder) → place_at w.target.logins.places place ≡ x → place_in w.places place ≡ y → x ≡ Some login → Has (Of top) x y → IsHeld t (length w.initiators) target w.places place login
  held_by place login None y e f g p = absurd (let z : None ≡ Some login = g in cc)
  held_by place login (Some own) None e f g p = absurd p
  held_by place login (Some own) (Some holder) e f g p =
      let same : own ≡ login = cc in
      let is : IsHolder (Of top) login holder = subst (λ (l : Login). IsHolder (Of top) l holder) same p in
      record {
        holder = holder;
        there = f;
        login_is = is.login_is;
        unit_is = is.unit_is;
        live = λ live. live_of place login holder.initiator (e ∙ g) live (of_initiator holder.initiator login.node (is.live live));
      }

  free_by : (x : Option Login) (y : Option Holder) → x ≡ None → Has (Of top) x y → y ≡ None
  free_by None None e p = refl
  free_by None (Some holder) e p = absurd p
  free_by (Some login) y e p = absurd (let z : Some login ≡ None = e in cc)

  source_of : (operation : Option Operation) (source : ℕ) → FitsOperation (Peer top) operation → source_in operation ≡ Some source → Peer top source
  source_of None source fits e = absurd (let z : None ≡ Some source = e in cc)
  source_of (Some own) source fits e = let z : own.source ≡ source = cc in subst (Peer top) z fits.0

  pub are_held : AreHeldAt start (hist past w) w
  are_held = record {
    held = λ place login e. held_by place login (place_at w.target.logins.places place) (place_in w.places place) refl refl e (q.placed.each place);
    free = λ place e. free_by (place_at w.target.logins.places place) (place_in w.places place) e (q.placed.each place);
    operation = λ source e.
        (initiator_of w source, of_initiator (initiator_of w source) source (of_peer units ready has start w h q source (source_of w.target.manager.operation source q.peers.fits.manager.operation e)));
    leaves = λ serial sent found from to. found_leaves serial w.store.kept sent q.leaves found from to;
  }

-- ---- a new world
abbrev Had : ((initiator id : ℕ) → Type 0) → List (Option Login) → List (Option Holder) → Type 0
Had Of [] [] = Unit {0}
Had Of [] (y ∷ ys) = ⊥
Had Of (x ∷ xs) [] = ⊥
Had Of (x ∷ xs) (y ∷ ys) = Has Of x y × Had Of xs ys

had_each : (Of : (initiator id : ℕ) → Type 0) (xs : List (Option Login)) (ys : List (Option Holder)) → Had Of xs ys → (j : ℕ) → Has Of (place_at xs j) (place_in ys j)
had_each Of [] [] h j = tt
had_each Of [] (y ∷ ys) h j = absurd h
had_each Of (x ∷ xs) [] h j = absurd h
had_each Of (x ∷ xs) (y ∷ ys) h zero = h.0
had_each Of (x ∷ xs) (y ∷ ys) h (suc j) = had_each Of xs ys h.1 j

module _ (Of : (initiator id : ℕ) → Type 0) where
  first_holder : (i : ℕ) → Of i (local_id (i + 1)) → IsHolder Of (first_login i) (holder_of i 0 (i + 1))
  first_holder i of = record { login_is = refl; unit_is = refl; live = λ e. of }

  ready_had : (n : ℕ) → n ≤ 4 → ((i : ℕ) → i < n → Of i (local_id (i + 1))) → Had Of (first_table true n).places (new_places n)
  ready_had zero l of = (tt, (tt, (tt, (tt, (tt, (tt, (tt, (tt, tt))))))))
  ready_had (suc zero) l of = (first_holder 0 (of 0 (omega arith)), (tt, (tt, (tt, (tt, (tt, (tt, (tt, tt))))))))
  ready_had (suc (suc zero)) l of = (first_holder 0 (of 0 (omega arith)), (first_holder 1 (of 1 (omega arith)), (tt, (tt, (tt, (tt, (tt, (tt, tt))))))))
  ready_had (suc (suc (suc zero))) l of = (first_holder 0 (of 0 (omega arith)), (first_holder 1 (of 1 (omega arith)), (first_holder 2 (of 2 (omega arith)), (tt, (tt, (tt, (tt, (tt, tt))))))))
  ready_had (suc (suc (suc (suc zero)))) l of = (first_holder 0 (of 0 (omega arith)), (first_holder 1 (of 1 (omega arith)), (first_holder 2 (of 2 (omega arith)), (first_holder 3 (of 3 (omega arith)), (tt, (tt, (tt, (tt, tt))))))))
  ready_had (suc (suc (suc (suc (suc n))))) l of = absurd (omega arith)

  first_had : (n : ℕ) (is_ready : Bool) → n ≤ 4 → ((i : ℕ) → i < n → Of i (local_id (i + 1))) → Had Of (first_table is_ready n).places (new_places (ready_logins n is_ready))
  first_had n true l of = ready_had n l of
  first_had n false l of = (tt, (tt, (tt, (tt, (tt, (tt, (tt, (tt, tt))))))))

  had_sizes : (n : ℕ) (is_ready : Bool) → n ≤ 4 → length (first_table is_ready n).places ≡ 8
  had_sizes n false l = refl
  had_sizes zero true l = refl
  had_sizes (suc zero) true l = refl
  had_sizes (suc (suc zero)) true l = refl
  had_sizes (suc (suc (suc zero))) true l = refl
  had_sizes (suc (suc (suc (suc zero)))) true l = refl
  had_sizes (suc (suc (suc (suc (suc n))))) true l = absurd (omega arith)

module _ (n : ℕ) (is_ready : Bool) (units : ℕ) (few : n ≤ 4) where
  first_seen : topology_at (new_world n is_ready units).generations 0 ≡ first_topology (n + 1)
  unfolding new_world
  first_seen = get_or-replicate (n + 1) 0 (first_topology (n + 1)) no_topology (omega arith)

  first_of : (i : ℕ) → i < n → Of (first_topology (n + 1)) i (local_id (i + 1))
  first_of i l =
      let next : i + 1 ≡ suc i = omega arith in
      let size : length (first_ids (n + 1)) ≡ n + 1 = ids_size (n + 1) in
      (sym (first_id (n + 1) (suc i) (omega arith) (omega arith)) ∙ ap local_id (sym next), omega arith)

  first_peer : (i : ℕ) → i < n → Peer (first_topology (n + 1)) (0xffc1 + i)
  first_peer i l =
      let top = first_topology (n + 1) in
      let of = first_of i l in
      let same : local_id (i + 1) ≡ 0xffc1 + i = (let e : 65472 + (i + 1) ≡ 0xffc1 + i = omega arith in e) in
      let own : 65472 + 0 ≡ id_of top 0 = first_id (n + 1) 0 (omega arith) (omega arith) in
      peer_of top (0xffc1 + i)
      (known_has top n (0xffc1 + i) (ids_size (n + 1) ∙ (let e : n + 1 ≡ suc n = omega arith in e)) (record { node = suc i; there = omega arith; id_is = of.0 ∙ same }))
      (λ e. absurd (omega (arith, own, e)))

  first_seats : (line : ℕ) (start : List Disk) → units ≤ 4 → length start ≡ units → Seats (new_world n is_ready units)
  unfolding new_world
  first_seats line start small size =
      let w = new_world n is_ready units in
      let top = first_topology (n + 1) in
      let table : first_table is_ready n ≡ w.target.logins = (first_holds n is_ready units line start few small size).at.agrees.table in
      let first : Placed (Of top) (first_table is_ready n).places w.places = record {
        size = had_sizes (Of top) n is_ready few;
        count = refl;
        each = had_each (Of top) (first_table is_ready n).places (new_places (ready_logins n is_ready)) (first_had (Of top) n is_ready few first_of);
      } in
      record {
        placed = subst (λ (x : Topology). Placed (Of x) w.target.logins.places w.places) (sym first_seen) (subst (λ (x : Table). Placed (Of top) x.places w.places) table first);
        peers = subst (λ (x : Topology). Holds (Peer x) w.target) (sym first_seen) ((fitting_law (is_peer top) (is_peer top)).begins units (ready_logins n is_ready) (λ i l. first_peer i (ready_few n is_ready i l)));
        leaves = tt;
      }

-- ---- runs
pub seats_after : (line : ℕ) (run : Run) (entries : List Entry) → run.initiators ≤ 4 → 0 < run.units → run.units ≤ 4 → length run.start.disks ≡ run.units → length entries + 2 < 2 ^ 32 → AreEntries (beginning run) entries → AreLines run entries → Seats (after (beginning run) entries).world
seats_after line run [] few has small size short all fit = first_seats run.initiators run.ready run.units few line run.start.disks small size
seats_after line run (e ∷ before) few has small size short all fit =
    let b = holds_after line run before few has small size (omega arith) all.1 fit.1 in
    let s = after (beginning run) before in
    line_seats run.units (ready_logins run.initiators run.ready) has run.start.disks e.line e.event e.told s fit.0 (happened_fits e.event e.told s all.0.may) b.holds
    (seats_after line run before few has small size (omega arith) all.1 fit.1)

pub holders_law : HoldersLaw
holders_law line run few has small size short all fit =
    let r = holds_after line run run.entries few has small size short all fit in
    let w = (after (beginning run) run.entries).world in
    subst (λ ms. AreHeldAt run.start.disks ms w) r.is (are_held run.units (ready_logins run.initiators run.ready) has run.start.disks w r.holds (seats_after line run run.entries few has small size short all fit))

pub holders_between_law : HoldersBetweenLaw
holders_between_law line run few has small size short all fit next event d told may =
    let r = holds_after line run run.entries few has small size short all fit in
    let s = after (beginning run) run.entries in
    let logins = ready_logins run.initiators run.ready in
    let begins = opens run.units logins has run.start.disks next event s.world (not_reset event d) r.holds in
    let repeats = no_repeats event (hist r.past s.world) next d in
    let h = all_heard run.units logins has run.start.disks told (are_told told s may) (begun s) begins repeats in
    let q = all_seats run.units logins has run.start.disks told (are_told told s may) (begun s) begins (opened run.units logins has run.start.disks s.world (seats_after line run run.entries few has small size short all fit)) repeats in
    let w = (after_all told (begun s)).world in
    subst (λ ms. AreHeldAt run.start.disks (map said w.fresh ++ asked next event ∷ ms) w) r.is (are_held run.units logins has run.start.disks w h q)
