-- In every run with few logins, at each place between two turns, each live login of the node of an initiator that injected no packets has the FIFO of a login, whatever the
-- other initiators injected: where each login that was done for it was of an ID of it, with the base of the agent of a place.
use Rattle.sbp_world.proofs.Words.Std.{arith, ◌≡◌, ◌∙◌, refl, sym, ap, subst, ℕ, ◌+◌, ◌^◌, ◌<◌, ◌≤◌, true, List, [], ◌++◌, length, Option, Some}
use Rattle.sbp_world.proofs.Words.Wire.{LabelParts, Packet, SerialsCount, judging_step, of_response, found_sent, Sent, Moment}
use Rattle.sbp_world.proofs.Words.Target.{Table, is_live, place_at, Login, Operation, Disk, answer_in}
use Rattle.sbp_world.proofs.Words.Initiator.{management_orb, Answer}
use Rattle.sbp_world.proofs.Words.Laws.{host_at, place_held, Decided, bytes_in, decided_by, decided_in, EachMoment}
use Rattle.sbp_world.proofs.Words.World.{moments_behind, NoneInjected, AreAsked, IsTameOf, KeepsIn, IsCalm, IsLoginFifo, AreOwnIds, HasOwn, OwnedAt, BringPlaces, BasedAt, AreShort, new_world, ready_logins, Run, beginning, WorldState}
use Rattle.mgmt_agent.specs.declared.operation.Phase.{Phase}
use Rattle.sbp_world.proofs.Agents.Management.Holding.{Holding}
use Rattle.sbp_world.proofs.Agents.Management.Still.{hist}
use Rattle.sbp_world.proofs.Lists.Beside.{tame_of_before}
use Rattle.sbp_world.proofs.Lists.Courses.{EveryPlace, Keeps, at_between, at_lines}
use Rattle.sbp_world.proofs.Lists.IdsBack.{AreBack, back_turn, stood_own}
use Rattle.sbp_world.proofs.Lists.IdsHosts.{HostsOwn, hosts_own_everywhere}
use Rattle.sbp_world.proofs.Lists.IdsLogins.{first_own, own_fifo}
use Rattle.sbp_world.proofs.Lists.IdsOwned.{AreBehind, behind_everywhere}
use Rattle.sbp_world.proofs.Lists.IdsPlaces.{IfOwnOrb, IsOwnOrb, held_own}
use Rattle.sbp_world.proofs.Lists.IdsRuns.{AreFewIds, few_ids_everywhere}
use Rattle.sbp_world.proofs.Lists.IdsTurns.{own_ids_turn}
use Rattle.sbp_world.proofs.Lists.Judging.{goes_next, grown}
use Rattle.sbp_world.proofs.Lists.KeptBrings.{none_decided, same_decided}
use Rattle.sbp_world.proofs.Lists.KeptTurns.{id_is, operation_is}
use Rattle.sbp_world.proofs.Lists.LiveReplies.{IsDecidedOn}
use Rattle.sbp_world.proofs.Lists.LiveRuns.{goes_size}
use Rattle.sbp_world.proofs.Lists.LiveSteps.{id_in}
use Rattle.sbp_world.proofs.Lists.ManageTerms.{none_is}
use Rattle.sbp_world.proofs.Lists.OwnCounts.{FewAt}
use Rattle.sbp_world.proofs.Lists.OwnLogins.{AreOwnOpsAt, OwnKnown, decided_good, ops_everywhere, own_known}
use Rattle.sbp_world.proofs.Lists.OwnOps.{AreOwnOps, IsOwnOp, StoodThere, brings_held, short_from}
use Rattle.sbp_world.proofs.Lists.OwnTables.{owned}
use Rattle.mgmt_agent.specs.declared.operation.Phase.TheVariants as phases
use Rattle.sbp_target.specs.declared.purpose.Purpose.TheVariants as purposes
use Rattle.sbp_world.proofs.Lists.StatusKnown.{each_from}

-- ---- what is known at each place of every run
record Known (start : List Disk) (past : List Moment) (w : WorldState) : Type 0 where
  known : OwnKnown start past w
  ops : AreOwnOpsAt start past w
  ids : AreFewIds past w
  behind : AreBehind start past w
  hosts : HostsOwn start past w

known_everywhere : EveryPlace Known
known_everywhere = record {
  after_lines = λ line run r has small size so_far. record {
    known = own_known.after_lines line run r has small size so_far;
    ops = ops_everywhere.after_lines line run r has small size so_far;
    ids = few_ids_everywhere.after_lines line run r has small size so_far;
    behind = behind_everywhere.after_lines line run r has small size so_far;
    hosts = hosts_own_everywhere.after_lines line run r has small size so_far;
  };
  between = λ line run r has small size next most told m so_far. record {
    known = own_known.between line run r has small size next most told m so_far;
    ops = ops_everywhere.between line run r has small size next most told m so_far;
    ids = few_ids_everywhere.between line run r has small size next most told m so_far;
    behind = behind_everywhere.between line run r has small size next most told m so_far;
    hosts = hosts_own_everywhere.between line run r has small size next most told m so_far;
  };
}

-- ---- what the target decides on
module _ (units ready : ℕ) (more_units : 0 < units) (start : List Disk) {past : List Moment} {lines : ℕ} (w : WorldState) (h : Holding units ready start past lines w) (i : ℕ) (inside : i < length w.initiators) (few_nodes : i + 1 < 2 ^ 16) (calm : IsCalm (hist past w) i) (none : NoneInjected (hist past w) i) (counts : SerialsCount (hist past w)) (are : AreAsked start (hist past w)) (places : BringPlaces (hist past w) i) (shorts : AreShort (hist past w)) (few : EachMoment (FewAt i) (hist past w)) (own : AreOwnOps start (hist past w) i) (hosts : (front earlier : List Moment) → front ++ earlier ≡ hist past w → HasOwn start (hist past w) i (host_at earlier i).login) (back : AreBack start (hist past w) i (id_in w i) w.target.manager.operation) where
  module _ (serial : ℕ) (sent : Sent) (found : found_sent serial w.store.kept ≡ Some sent) (zero_to : sent.to ≡ 0) (p : Packet) (label : LabelParts) (e : (judging_step w.target.layer sent.generation sent.bytes).0 ≡ of_response p label (Some purposes.Management)) (left : Table) (d : IsDecidedOn w.target.manager w.target.logins w.target.keys (answer_in p) left) (source : d.was.source ≡ id_in w i) where
    own_op : IsOwnOp start (hist past w) i d.was
    own_op = own d.was (operation_is units ready more_units start w h i inside ∙ d.is) (source ∙ sym (id_is units ready more_units start w h i inside))

    on_is : (phase : Phase) → d.was.phase ≡ phase → decided_in phase d.was.source (answer_in p) ≡ Some d.on
    on_is phase f = ap (λ (x : Phase). decided_in x d.was.source (answer_in p)) (sym f) ∙ (ap (λ (x : Option Operation). decided_by x (answer_in p)) (sym d.is) ∙ d.brought)

    by_phase : (phase : Phase) → d.was.phase ≡ phase → IsOwnOrb start (hist past w) i d.on.orb
    by_phase phases.Orb f =
        let on = same_decided _ d.on (on_is phases.Orb f) in
        let orb_is : management_orb d.bytes ≡ d.on.orb = ap (λ (a : Answer). management_orb (bytes_in a)) (sym d.pays) ∙ ap (λ (x : Decided). x.orb) on in
        let b : StoodThere (hist past w) i own_op.place d.bytes = brings_held units ready more_units start w h i inside few_nodes calm none counts are places shorts few serial sent found zero_to p label e d.was d.is source own_op f d.bytes d.pays in
        let held : IfOwnOrb start (hist past w) i (place_held b.earlier i own_op.place) = held_own start (hist past w) i own_op.place few_nodes hosts b.earlier b.later b.is (short_from b.later b.earlier (subst AreShort (sym b.is) shorts)) in
        subst (IsOwnOrb start (hist past w) i) orb_is (stood_own start (hist past w) i (place_held b.earlier i own_op.place) d.bytes held b.some b.bytes_are)
    by_phase (phases.HighEui orb) f = none_decided d.on (on_is (phases.HighEui orb) f)
    by_phase (phases.LowEui orb high) f =
        let on = same_decided _ d.on (on_is (phases.LowEui orb high) f) in
        let x = back d.was d.is source in
        let same : orb ≡ x.orb = subst (λ (y : Phase). KeepsIn y x.orb) f x.keeps in
        subst (IsOwnOrb start (hist past w) i) (sym same ∙ ap (λ (y : Decided). y.orb) on) x.own
    by_phase (phases.Response fifo) f = none_decided d.on (on_is (phases.Response fifo) f)
    by_phase phases.Status f = none_decided d.on (on_is phases.Status f)

    pub decided_back : IsOwnOrb start (hist past w) i d.on.orb
    decided_back = by_phase d.was.phase refl

-- ---- a turn
record OwnSo (start : List Disk) (past : List Moment) (i : ℕ) (w : WorldState) : Type 0 where
  back : AreBack start past i (id_in w i) w.target.manager.operation
  ids : AreOwnIds start past i (id_in w i) w.target.logins

abbrev OwnSoAt : List Disk → List Moment → WorldState → Type 0
OwnSoAt start past w = (i : ℕ) → i < length w.initiators → IsTameOf past i → AreShort past → EachMoment (BasedAt i) past → EachMoment (OwnedAt start i) past → OwnSo start past i w

all_so : (units ready : ℕ) → 0 < units → (start : List Disk) → Keeps units ready start (Known start) (OwnSoAt start)
all_so units ready has start past s later t lines more g h h_now q q_now had i within tame shorts based owned =
    let inside : i < length s.world.initiators = subst (λ n. i < n) (goes_size past s later t g) within in
    let some : 0 < length s.world.initiators = omega (arith, inside) in
    let x = grown (hist past s.world) (hist later t.world) (goes_next past s later t g) in
    let tame_old : IsTameOf (hist past s.world) i = tame_of_before x.new (hist past s.world) i (subst (λ ms. IsTameOf ms i) (sym x.is) tame) in
    let shorts_old : AreShort (hist past s.world) = short_from x.new (hist past s.world) (subst AreShort (sym x.is) shorts) in
    let based_old : EachMoment (BasedAt i) (hist past s.world) = each_from (BasedAt i) x.new (hist past s.world) (subst (EachMoment (BasedAt i)) (sym x.is) based) in
    let owned_old : EachMoment (OwnedAt start i) (hist past s.world) = each_from (OwnedAt start i) x.new (hist past s.world) (subst (EachMoment (OwnedAt start i)) (sym x.is) owned) in
    let k = q.known in
    let few : i < 8 = (let few = k.wrote.few in omega (arith, inside, few)) in
    let nodes : i + 1 < 2 ^ 16 = omega (arith, few) in
    let ops = q.ops i inside tame_old.0 shorts_old based_old in
    let hosts = q.hosts i inside owned_old in
    let old = had i inside tame_old shorts_old based_old owned_old in
    record {
      back = back_turn units ready has start past s later t g h i inside nodes tame_old.0 (k.wrote.none i inside) k.counts k.are (k.places i inside) shorts_old (k.logins i inside) ops hosts old.back;
      ids = own_ids_turn units ready has start past s later t g h h_now i inside within tame.1 (q.ids tame_old.1 some) (q.behind tame_old.1 some i)
          (record {
            good = λ d source f. (decided_good units ready has start s.world h i inside nodes tame_old.0 (k.wrote.none i inside) k.counts k.are (k.places i inside) shorts_old (k.logins i inside) ops d.serial d.sent d.found d.to d.packet d.label d.judged t.world.target.logins d.on source).login f;
            back = λ d source f. decided_back units ready has start s.world h i inside nodes tame_old.0 (k.wrote.none i inside) k.counts k.are (k.places i inside) shorts_old (k.logins i inside) ops hosts old.back d.serial d.sent d.found d.to d.packet d.label d.judged t.world.target.logins d.on source f;
          })
          old.ids;
    }

first_so : (line : ℕ) (run : Run) → run.initiators ≤ 4 → 0 < run.units → run.units ≤ 4 → length run.start.disks ≡ run.units → OwnSoAt run.start.disks (moments_behind line run []) (beginning run).world
unfolding new_world
first_so line run few has small size i inside tame shorts based owned = record {
  back = λ op is source. none_is op is;
  ids = first_own line run few has small size i inside;
}

so_everywhere : EveryPlace OwnSoAt
so_everywhere = record {
  after_lines = λ line run r has small size so_far.
      at_lines Known (OwnSoAt run.start.disks) known_everywhere line run r.few has small size (all_so run.units (ready_logins run.initiators run.ready) has run.start.disks) (first_so line run r.few has small size) r so_far;
  between = λ line run r has small size next most told m so_far.
      at_between Known (OwnSoAt run.start.disks) known_everywhere line run r.few has small size (all_so run.units (ready_logins run.initiators run.ready) has run.start.disks) (first_so line run r.few has small size) r next most told m so_far;
}

-- ---- at each place of every run
pub owned_ids_everywhere : EveryPlace (λ start past w. (i : ℕ) → i < length w.initiators → IsTameOf past i → AreShort past → EachMoment (BasedAt i) past → EachMoment (OwnedAt start i) past → AreOwnIds start past i (id_in w i) w.target.logins)
owned_ids_everywhere = record {
  after_lines = λ line run r has small size so_far i l tame shorts based owned. (so_everywhere.after_lines line run r has small size so_far i l tame shorts based owned).ids;
  between = λ line run r has small size next most told m so_far i l tame shorts based owned. (so_everywhere.between line run r has small size next most told m so_far i l tame shorts based owned).ids;
}

-- each live login of its node has the FIFO of a login
pub own_fifos_everywhere : EveryPlace (λ start past w. (i : ℕ) → i < length w.initiators → IsTameOf past i → AreShort past → EachMoment (BasedAt i) past → EachMoment (OwnedAt start i) past → (place : ℕ) (login : Login) → place_at w.target.logins.places place ≡ Some login → is_live login ≡ true → login.node ≡ id_in w i → IsLoginFifo login.fifo)
own_fifos_everywhere = record {
  after_lines = λ line run r has small size so_far i l tame shorts based owned. own_fifo _ _ _ _ _ (owned_ids_everywhere.after_lines line run r has small size so_far i l tame shorts based owned);
  between = λ line run r has small size next most told m so_far i l tame shorts based owned. own_fifo _ _ _ _ _ (owned_ids_everywhere.between line run r has small size next most told m so_far i l tame shorts based owned);
}
