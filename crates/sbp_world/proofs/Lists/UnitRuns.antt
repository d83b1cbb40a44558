-- At each place of every run: where no initiator injected packets, each login of the target is on a unit that some initiator asked for; where few logins were given, each that has an ID of an initiator which
-- injected none is on a unit that this one asked for.
use Rattle.sbp_world.proofs.Words.Std.{arith, ◌≡◌, ◌∙◌, inl, inr, ◌⊎◌, refl, sym, ap, subst, ℕ, zero, suc, ◌+◌, ◌-◌, ◌^◌, ◌<◌, ◌≤◌, Bool, true, false, List, [], ◌++◌, length, replicate, Some, None, nat_tests}
use Rattle.sbp_world.proofs.Words.Wire.{Moment}
use Rattle.sbp_world.proofs.Words.Target.{Login, Table, is_live, place_at, Disk}
use Rattle.sbp_world.proofs.Words.Laws.{first_login, first_table, logins_from, EachMoment}
use Rattle.sbp_world.proofs.Words.World.{moments_behind, new_world, ready_logins, Run, beginning, Scene, WorldState, IsTameOf, IsTame, AreOwnIds, OwnBy, OwnedAt, BasedAt, AreShort}
use Rattle.sbp_world.proofs.Agents.Management.Begins.{first_holds}
use Rattle.sbp_world.proofs.Agents.Management.Holding.{Holding}
use Rattle.sbp_world.proofs.Agents.Management.Still.{hist}
use Rattle.sbp_world.specs.Lists.LoginUnits.{IsAskedUnit, is_asked_unit}
use Rattle.sbp_world.proofs.Common.{none_is}
use Rattle.sbp_world.proofs.Hosts.Runs.{count_after}
use Rattle.sbp_world.proofs.Lists.Beside.{tame_of_before}
use Rattle.sbp_world.proofs.Lists.Courses.{EveryPlace, Goes, Keeps, at_between, at_lines}
use Rattle.sbp_world.proofs.Lists.IdsHosts.{HostsOwn, hosts_own_everywhere}
use Rattle.sbp_world.proofs.Lists.IdsOwned.{AreBehind, behind_everywhere}
use Rattle.sbp_world.proofs.Lists.IdsReturns.{owned_ids_everywhere}
use Rattle.sbp_world.proofs.Lists.IdsRuns.{AreFewIds, IsDecision, TableTurn, decides, few_ids_everywhere, stays, table_turn}
use Rattle.sbp_world.proofs.Lists.Judging.{goes_next, grown}
use Rattle.sbp_world.proofs.Lists.LiveRuns.{goes_size}
use Rattle.sbp_world.proofs.Lists.LiveSteps.{id_in}
use Rattle.sbp_world.proofs.Lists.MadeRuns.{AreMadeAt, KnownOps, decided_for, decision_is_made, few_nodes, known_ops, made_everywhere}
use Rattle.sbp_world.proofs.Lists.OrbsMade.{IsMade, more_asked, reconnect_made, unit_asked}
use Rattle.sbp_world.proofs.Lists.OwnFifos.{tame_before}
use Rattle.sbp_world.proofs.Lists.OwnOps.{short_from}
use Rattle.sbp_world.proofs.Lists.StatusKnown.{each_from}
use Rattle.sbp_world.proofs.Lists.UnitMoves.{AreSeen, seen_everywhere, turn_stays}
use Rattle.sbp_world.proofs.Lists.UnitTables.{AllOn, EntersOn, StaysOn, decide_on}
use Rattle.sbp_world.proofs.Lists.UnitTurns.{OwnUnits, units_turn}

-- ---- the first logins
none_there : {A : Type 0} (k place : ℕ) (login : Login) → place_at (replicate k None) place ≡ Some login → A
none_there zero place login e = none_is login e
none_there (suc k) zero login e = none_is login e
none_there (suc k) (suc place) login e = none_there k place login e

from_zero : (i n k place : ℕ) (login : Login) → place_at (logins_from i n ++ replicate k None) place ≡ Some login → login.unit ≡ 0
from_zero i zero k place login e = none_there k place login e
from_zero i (suc n) k zero login e = let is : first_login i ≡ login = cc in sym (ap (λ (l : Login). l.unit) is)
from_zero i (suc n) k (suc place) login e = from_zero (i + 1) n k place login e

first_unit : (ready : Bool) (n place : ℕ) (login : Login) → place_at (first_table ready n).places place ≡ Some login → (ready ≡ true) × (login.unit ≡ 0)
first_unit false n place login e = none_there 8 place login e
first_unit true n place login e = (refl, from_zero 0 n (8 - n) place login e)

first_asked : (line : ℕ) (run : Run) (i unit : ℕ) → i < run.initiators → run.ready ≡ true → unit ≡ 0 → is_asked_unit (moments_behind line run []) i unit ≡ true
first_asked line run i unit l ready zero_unit = grind (arith, nat_tests)

first_on : (line : ℕ) (run : Run) → run.initiators ≤ 4 → run.units ≤ 4 → length run.start.disks ≡ run.units → (i : ℕ) → i < length (beginning run).world.initiators → (place : ℕ) (login : Login) → place_at (beginning run).world.target.logins.places place ≡ Some login → is_asked_unit (moments_behind line run []) i login.unit ≡ true
unfolding new_world
first_on line run few small size i inside place login e =
    let h = first_holds run.initiators run.ready run.units line run.start.disks few small size in
    let x = first_unit run.ready run.initiators place login (ap (λ (t : Table). place_at t.places place) h.at.agrees.table ∙ e) in
    first_asked line run i login.unit (subst (λ n. i < n) (count_after run []) inside) x.0 x.1

-- ---- what is known at each place of every run
pub record Known (start : List Disk) (past : List Moment) (w : WorldState) : Type 0 where
  pub ops : KnownOps start past w
  pub made : AreMadeAt past w
  pub seen : AreSeen start past w

known_everywhere : EveryPlace Known
known_everywhere = record {
  after_lines = λ line run r has small size so_far. record {
    ops = known_ops.after_lines line run r has small size so_far;
    made = made_everywhere.after_lines line run r has small size so_far;
    seen = seen_everywhere.after_lines line run r has small size so_far;
  };
  between = λ line run r has small size next most told m so_far. record {
    ops = known_ops.between line run r has small size next most told m so_far;
    made = made_everywhere.between line run r has small size next most told m so_far;
    seen = seen_everywhere.between line run r has small size next most told m so_far;
  };
}

-- ---- where no initiator injected packets
abbrev pub AllAsked : List Moment → WorldState → Type 0
AllAsked past w = (place : ℕ) (login : Login) → place_at w.target.logins.places place ≡ Some login → IsAskedUnit past (length w.initiators) login.unit

abbrev pub AllAskedAt : List Moment → WorldState → Type 0
AllAskedAt past w = IsTame past → AreShort past → ((i : ℕ) → i < length w.initiators → EachMoment (BasedAt i) past) → 0 < length w.initiators → AllAsked past w

module _ (units ready : ℕ) (has : 0 < units) (start : List Disk) (past : List Moment) (s : Scene) (later : List Moment) (t : Scene) {lines : ℕ} (g : Goes past s later t) (h : Holding units ready start past lines s.world) (q : Known start (hist past s.world) s.world) (tame : IsTame (hist past s.world)) (shorts : AreShort (hist past s.world)) (based : (i : ℕ) → i < length s.world.initiators → EachMoment (BasedAt i) (hist past s.world)) (some : 0 < length s.world.initiators) (all : AllAsked (hist past s.world) s.world) where
  abbrev before : List Moment
  before = hist past s.world

  abbrev n : ℕ
  n = length s.world.initiators

  module _ (place : ℕ) (login : Login) (e : place_at t.world.target.logins.places place ≡ Some login) where
    stayed : StaysOn s.world.target.logins.places login → IsAskedUnit before n login.unit
    stayed c = subst (IsAskedUnit before n) (sym c.unit) (all c.from c.before c.there)

    entered : (d : IsDecision s.world t.world) → EntersOn d.on.on.orb t.world.target.logins.last login → IsAskedUnit before n login.unit
    entered d y =
        let of = decided_for units ready has start past s t h q.ops q.made shorts d in
        let made = decision_is_made units ready has start past s t h q.ops q.made shorts of.i of.inside (tame of.i) (based of.i of.inside) d of.source in
        let nodes = few_nodes units ready has start past s t h q.ops q.made shorts of.i of.inside in
        record { i = of.i; inside = of.inside; asked = subst (λ k. is_asked_unit before of.i k ≡ true) (sym y.unit) (unit_asked before of.i nodes shorts d.on.on.orb made y.function) }

    by_decision : (d : IsDecision s.world t.world) → StaysOn s.world.target.logins.places login ⊎ EntersOn d.on.on.orb t.world.target.logins.last login → IsAskedUnit before n login.unit
    by_decision d (inl c) = stayed c
    by_decision d (inr y) = entered d y

    by_turn : TableTurn s.world t.world → IsAskedUnit before n login.unit
    by_turn (stays x lives) = by (turn_stays units ready has start past s later t g h q.seen place login e)
      where
        by : StaysOn s.world.target.logins.places login ⊎ (is_live login ≡ true) → IsAskedUnit before n login.unit
        by (inl c) = stayed c
        by (inr live) = all place login (lives place login e live)
    by_turn (decides d) =
        let on = d.on.on in
        by_decision d (subst (AllOn on.orb s.world.target.logins) (sym d.on.left_is) (decide_on on.orb on.source on.eui s.world.target.logins s.world.target.keys) place login e)

    pub asked_before : IsAskedUnit before n login.unit
    asked_before = by_turn (table_turn units ready has start past s later t g h some)

all_asked : (units ready : ℕ) → 0 < units → (start : List Disk) → Keeps units ready start (Known start) AllAskedAt
all_asked units ready has start past s later t lines more g h h_now q q_now had tame shorts based some place login e =
    let size = goes_size past s later t g in
    let x = grown (hist past s.world) (hist later t.world) (goes_next past s later t g) in
    let tame_old : IsTame (hist past s.world) = tame_before x.new (hist past s.world) (subst IsTame (sym x.is) tame) in
    let shorts_old : AreShort (hist past s.world) = short_from x.new (hist past s.world) (subst AreShort (sym x.is) shorts) in
    let some_old : 0 < length s.world.initiators = subst (λ n. 0 < n) size some in
    let based_old : (i : ℕ) → i < length s.world.initiators → EachMoment (BasedAt i) (hist past s.world) = (λ i l. each_from (BasedAt i) x.new (hist past s.world) (subst (EachMoment (BasedAt i)) (sym x.is) (based i (subst (λ n. i < n) (sym size) l)))) in
    let a = asked_before units ready has start past s later t g h q tame_old shorts_old based_old some_old (had tame_old shorts_old based_old some_old) place login e in
    record {
      i = a.i;
      inside = subst (λ n. a.i < n) (sym size) a.inside;
      asked = subst (λ ms. is_asked_unit ms a.i login.unit ≡ true) x.is (more_asked x.new (hist past s.world) a.i login.unit a.asked);
    }

first_all : (line : ℕ) (run : Run) → run.initiators ≤ 4 → run.units ≤ 4 → length run.start.disks ≡ run.units → AllAskedAt (moments_behind line run []) (beginning run).world
first_all line run few small size tame shorts based some place login e = record { i = 0; inside = some; asked = first_on line run few small size 0 some place login e }

pub all_asked_everywhere : EveryPlace (λ start past w. AllAskedAt past w)
all_asked_everywhere = record {
  after_lines = λ line run r has small size so_far.
      at_lines Known AllAskedAt known_everywhere line run r.few has small size (all_asked run.units (ready_logins run.initiators run.ready) has run.start.disks) (first_all line run r.few small size) r so_far;
  between = λ line run r has small size next most told m so_far.
      at_between Known AllAskedAt known_everywhere line run r.few has small size (all_asked run.units (ready_logins run.initiators run.ready) has run.start.disks) (first_all line run r.few small size) r next most told m so_far;
}

-- ---- of an initiator, where few logins were given
abbrev AreOwnIdsAt : List Disk → List Moment → WorldState → Type 0
AreOwnIdsAt start past w = (i : ℕ) → i < length w.initiators → IsTameOf past i → AreShort past → EachMoment (BasedAt i) past → EachMoment (OwnedAt start i) past → AreOwnIds start past i (id_in w i) w.target.logins

pub record KnownIds (start : List Disk) (past : List Moment) (w : WorldState) : Type 0 where
  pub known : Known start past w
  pub ids : AreFewIds past w
  pub behind : AreBehind start past w
  pub hosts : HostsOwn start past w
  pub own : AreOwnIdsAt start past w

known_ids : EveryPlace KnownIds
known_ids = record {
  after_lines = λ line run r has small size so_far. record {
    known = known_everywhere.after_lines line run r has small size so_far;
    ids = few_ids_everywhere.after_lines line run r has small size so_far;
    behind = behind_everywhere.after_lines line run r has small size so_far;
    hosts = hosts_own_everywhere.after_lines line run r has small size so_far;
    own = owned_ids_everywhere.after_lines line run r has small size so_far;
  };
  between = λ line run r has small size next most told m so_far. record {
    known = known_everywhere.between line run r has small size next most told m so_far;
    ids = few_ids_everywhere.between line run r has small size next most told m so_far;
    behind = behind_everywhere.between line run r has small size next most told m so_far;
    hosts = hosts_own_everywhere.between line run r has small size next most told m so_far;
    own = owned_ids_everywhere.between line run r has small size next most told m so_far;
  };
}

abbrev pub OwnUnitsAt : List Disk → List Moment → WorldState → Type 0
OwnUnitsAt start past w = (i : ℕ) → i < length w.initiators → IsTameOf past i → AreShort past → EachMoment (BasedAt i) past → EachMoment (OwnedAt start i) past → OwnUnits start past i w.target.logins

all_units : (units ready : ℕ) → 0 < units → (start : List Disk) → Keeps units ready start (KnownIds start) (OwnUnitsAt start)
all_units units ready has start past s later t lines more g h h_now q q_now had i within tame shorts based owned =
    let inside : i < length s.world.initiators = subst (λ n. i < n) (goes_size past s later t g) within in
    let some : 0 < length s.world.initiators = omega (arith, inside) in
    let before = hist past s.world in
    let x = grown (hist past s.world) (hist later t.world) (goes_next past s later t g) in
    let tame_old : IsTameOf before i = tame_of_before x.new before i (subst (λ ms. IsTameOf ms i) (sym x.is) tame) in
    let shorts_old : AreShort before = short_from x.new before (subst AreShort (sym x.is) shorts) in
    let based_old : EachMoment (BasedAt i) before = each_from (BasedAt i) x.new before (subst (EachMoment (BasedAt i)) (sym x.is) based) in
    let owned_old : EachMoment (OwnedAt start i) before = each_from (OwnedAt start i) x.new before (subst (EachMoment (OwnedAt start i)) (sym x.is) owned) in
    let k = q.known in
    let nodes : i + 1 < 2 ^ 16 = few_nodes units ready has start past s t h k.ops k.made shorts_old i inside in
    let hosts = q.hosts i inside owned_old in
    let made : (d : IsDecision s.world t.world) → d.on.was.source ≡ id_in s.world i → IsMade before i d.on.on.orb = (λ d source. decision_is_made units ready has start past s t h k.ops k.made shorts_old i inside tame_old.0 based_old d source) in
    units_turn units ready has start past s later t g h h_now i inside within tame.1 (q.ids tame_old.1 some) (q.behind tame_old.1 some i) k.seen
    (record {
      unit = λ d source f. unit_asked before i nodes shorts_old d.on.on.orb (made d source) f;
      back = λ d source f.
          let m = made d source in
          subst (λ k. OwnBy start before i k ⊎ (k ≡ 0)) (sym (reconnect_made before i nodes shorts_old d.on.on.orb m f)) (hosts m.later m.before m.is);
    })
    (q.own i inside tame_old shorts_old based_old owned_old) (had i inside tame_old shorts_old based_old owned_old)

first_own_units : (line : ℕ) (run : Run) → run.initiators ≤ 4 → run.units ≤ 4 → length run.start.disks ≡ run.units → OwnUnitsAt run.start.disks (moments_behind line run []) (beginning run).world
first_own_units line run few small size i inside tame shorts based owned place login e own = first_on line run few small size i inside place login e

pub own_units_everywhere : EveryPlace OwnUnitsAt
own_units_everywhere = record {
  after_lines = λ line run r has small size so_far.
      at_lines KnownIds (OwnUnitsAt run.start.disks) known_ids line run r.few has small size (all_units run.units (ready_logins run.initiators run.ready) has run.start.disks) (first_own_units line run r.few small size) r so_far;
  between = λ line run r has small size next most told m so_far.
      at_between KnownIds (OwnUnitsAt run.start.disks) known_ids line run r.few has small size (all_units run.units (ready_logins run.initiators run.ready) has run.start.disks) (first_own_units line run r.few small size) r next most told m so_far;
}
