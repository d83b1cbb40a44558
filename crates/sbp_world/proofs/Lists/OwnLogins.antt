-- In every run where no initiator injected packets each login of the target has a FIFO of a login.
use Rattle.sbp_world.proofs.Words.Std.{arith, ◌≡◌, ◌∙◌, refl, sym, ap, subst, ℕ, zero, suc, ◌+◌, ◌-◌, ◌^◌, ◌<◌, ◌≤◌, Bool, true, false, List, [], ◌++◌, length, replicate, Option, Some, None}
use Rattle.sbp_world.proofs.Words.Wire.{LabelParts, Packet, SerialsCount, judging_step, of_response, Sent, found_sent, empty_outbox, Moment, terms}
use Rattle.sbp_world.proofs.Words.Target.{Table, Operation, source_in, Disk, NodeState, scene, answer_in, received, whole}
use Rattle.sbp_world.proofs.Words.Initiator.{management_orb, Answer}
use Rattle.sbp_world.proofs.Words.Laws.{id_for, Decided, bytes_in, decided_by, decided_in, first_table, logins_from, EachMoment}
use Rattle.sbp_world.proofs.Words.World.{AreHeldAt, NoneInjected, more_deliveries, moments_behind, new_world, ready_logins, Run, after, beginning, after_all, Scene, WorldState, begun, AreAsked, IsCalm, AreOwn, GoodIn, IsGoodOrb, IsTame, BasedAt, BringPlaces, AreShort}
use Rattle.sbp_world.proofs.Agents.Holders.{holders_between_law, holders_law}
use Rattle.sbp_world.proofs.Agents.Management.Begins.{first_holds}
use Rattle.sbp_world.proofs.Agents.Management.Holding.{Holding}
use Rattle.sbp_world.proofs.Agents.Management.Still.{hist}
use Rattle.sbp_world.proofs.Hosts.Between.{of_wire_there}
use Rattle.sbp_world.proofs.Hosts.Remaining.{serials}
use Rattle.sbp_world.proofs.Hosts.Runs.{count_after, count_between}
use Rattle.mgmt_agent.specs.declared.operation.Phase.{Phase}
use Rattle.mgmt_agent.specs.declared.operation.Phase.TheVariants as phases
use Rattle.sbp_target.specs.declared.purpose.Purpose.TheVariants as purposes
use Rattle.sbp_world.proofs.Lists.ContentAsked.{contents_law}
use Rattle.sbp_world.proofs.Lists.Courses.{EveryPlace, Goes, Keeps, at_between, at_lines}
use Rattle.sbp_world.proofs.Lists.Judging.{goes_next, grown}
use Rattle.sbp_world.proofs.Lists.KeptBrings.{none_decided, same_decided}
use Rattle.sbp_world.proofs.Lists.KeptTurns.{id_is, operation_is}
use Rattle.sbp_world.proofs.Lists.LiveCalls.{HasLogins, answered, delivery_logins, untouched}
use Rattle.sbp_world.proofs.Lists.LiveReplies.{IsDecidedOn, Logged, granted, stands}
use Rattle.sbp_world.proofs.Lists.LiveRuns.{base_of, goes_calm, goes_size, goes_turned}
use Rattle.sbp_world.proofs.Lists.LiveSteps.{id_in}
use Rattle.sbp_world.proofs.Lists.LiveTurns.{TargetCall, TurnOf, by_clearing, by_own, by_sight, by_target, delivers, good, keeps, still}
use Rattle.sbp_world.proofs.Lists.ManageTerms.{none_is}
use Rattle.sbp_world.proofs.Lists.OwnCounts.{FewAt, few_after, few_between}
use Rattle.sbp_world.proofs.Lists.OwnFifos.{tame_before}
use Rattle.sbp_world.proofs.Lists.OwnOps.{AreOwnOps, IsOwnOp, brings_good, own_turn, short_from}
use Rattle.sbp_world.proofs.Lists.OwnTables.{Owns, decide_owns, owned}
use Rattle.sbp_world.proofs.Lists.PlaceBrings.{place_reads_law}
use Rattle.sbp_world.proofs.Lists.PlacedRuns.{WroteAll, wrote_everywhere}
use Rattle.sbp_world.proofs.Lists.UnderwayRuns.{delivering}
use Rattle.sbp_world.proofs.Lists.StatusKnown.{each_from}
use Rattle.sbp_world.proofs.Common.{delivers as delivers_more}

-- ---- what is known of every run
pub record OwnKnown (start : List Disk) (past : List Moment) (w : WorldState) : Type 0 where
  pub wrote : WroteAll start past w
  pub logins : (i : ℕ) → i < length w.initiators → EachMoment (FewAt i) past
  pub are : AreAsked start past
  pub places : (i : ℕ) → i < length w.initiators → BringPlaces past i
  pub counts : SerialsCount past
  pub held : AreHeldAt start past w

pub own_known : EveryPlace OwnKnown
own_known = record {
  after_lines = λ line run r has small size so_far.
      let size_is = count_after run run.entries in
      let inside : (i : ℕ) → i < length (after (beginning run) run.entries).world.initiators → i < run.initiators = (λ i l. subst (λ n. i < n) size_is l) in
      record {
        wrote = wrote_everywhere.after_lines line run r has small size so_far;
        logins = λ i l. few_after line run r i (inside i l);
        are = contents_law.after_lines line run r has small size;
        places = λ i l. place_reads_law.after_lines line run r i (inside i l);
        counts = serials line run r;
        held = holders_law line run r.few has small size r.short r.entries r.lines;
      };
  between = λ line run r has small size next most told m so_far.
      let size_is = count_between told (after (beginning run) run.entries) ∙ count_after run run.entries in
      let inside : (i : ℕ) → i < length (after_all told (begun (after (beginning run) run.entries))).world.initiators → i < run.initiators = (λ i l. subst (λ n. i < n) size_is l) in
      record {
        wrote = wrote_everywhere.between line run r has small size next most told m so_far;
        logins = λ i l. few_between line run r i (inside i l) next told m most;
        are = contents_law.between line run r has small size next (more_deliveries most) (delivers_more most) told m;
        places = λ i l. place_reads_law.between line run r next (more_deliveries most) told (delivering told most) m i (inside i l);
        counts = (of_wire_there line run r next (more_deliveries most) told (delivering told most) m).laws.serials;
        held = holders_between_law line run r.few has small size r.short r.entries r.lines next (more_deliveries most) (delivers_more most) told m;
      };
}

-- ---- what the target decides on
module _ (units ready : ℕ) (more_units : 0 < units) (start : List Disk) {past : List Moment} {lines : ℕ} (w : WorldState) (h : Holding units ready start past lines w) (i : ℕ) (inside : i < length w.initiators) (few_nodes : i + 1 < 2 ^ 16) (calm : IsCalm (hist past w) i) (none : NoneInjected (hist past w) i) (counts : SerialsCount (hist past w)) (are : AreAsked start (hist past w)) (places : BringPlaces (hist past w) i) (shorts : AreShort (hist past w)) (few : EachMoment (FewAt i) (hist past w)) (own : AreOwnOps start (hist past w) i) where
  module _ (serial : ℕ) (sent : Sent) (found : found_sent serial w.store.kept ≡ Some sent) (zero_to : sent.to ≡ 0) (p : Packet) (label : LabelParts) (e : (judging_step w.target.layer sent.generation sent.bytes).0 ≡ of_response p label (Some purposes.Management)) (left : Table) (d : IsDecidedOn w.target.manager w.target.logins w.target.keys (answer_in p) left) (source : d.was.source ≡ id_in w i) where
    own_op : IsOwnOp start (hist past w) i d.was
    own_op = own d.was (operation_is units ready more_units start w h i inside ∙ d.is) (source ∙ sym (id_is units ready more_units start w h i inside))

    on_is : (phase : Phase) → d.was.phase ≡ phase → decided_in phase d.was.source (answer_in p) ≡ Some d.on
    on_is phase f = ap (λ (x : Phase). decided_in x d.was.source (answer_in p)) (sym f) ∙ (ap (λ (x : Option Operation). decided_by x (answer_in p)) (sym d.is) ∙ d.brought)

    by_phase : (phase : Phase) → d.was.phase ≡ phase → IsGoodOrb d.on.orb
    by_phase phases.Orb f =
        let on = same_decided _ d.on (on_is phases.Orb f) in
        let orb_is : management_orb d.bytes ≡ d.on.orb = ap (λ (a : Answer). management_orb (bytes_in a)) (sym d.pays) ∙ ap (λ (x : Decided). x.orb) on in
        subst IsGoodOrb orb_is (brings_good units ready more_units start w h i inside few_nodes calm none counts are places shorts few serial sent found zero_to p label e d.was d.is source own_op f d.bytes d.pays)
    by_phase (phases.HighEui orb) f = none_decided d.on (on_is (phases.HighEui orb) f)
    by_phase (phases.LowEui orb high) f =
        let on = same_decided _ d.on (on_is (phases.LowEui orb high) f) in
        subst IsGoodOrb (ap (λ (x : Decided). x.orb) on) (subst GoodIn f own_op.good)
    by_phase (phases.Response fifo) f = none_decided d.on (on_is (phases.Response fifo) f)
    by_phase phases.Status f = none_decided d.on (on_is phases.Status f)

    pub decided_good : IsGoodOrb d.on.orb
    decided_good = by_phase d.was.phase refl

-- ---- of each initiator that injected no packets
abbrev pub AreOwnOpsAt : List Disk → List Moment → WorldState → Type 0
AreOwnOpsAt start past w = (i : ℕ) → i < length w.initiators → IsCalm past i → AreShort past → EachMoment (BasedAt i) past → AreOwnOps start past i

all_ops : (units ready : ℕ) → 0 < units → (start : List Disk) → Keeps units ready start (OwnKnown start) (AreOwnOpsAt start)
all_ops units ready has start past s later t lines more g h h_now q q_now own i within calm shorts based =
    let inside : i < length s.world.initiators = subst (λ n. i < n) (goes_size past s later t g) within in
    let calm_before = goes_calm past s later t g i calm in
    let x = grown (hist past s.world) (hist later t.world) (goes_next past s later t g) in
    let based_before : EachMoment (BasedAt i) (hist past s.world) = each_from (BasedAt i) x.new (hist past s.world) (subst (EachMoment (BasedAt i)) (sym x.is) based) in
    let shorts_before : AreShort (hist past s.world) = short_from x.new (hist past s.world) (subst AreShort (sym x.is) shorts) in
    let few : i < 8 = (let few = q.wrote.few in omega (arith, inside, few)) in
    own_turn units ready has start past s later t g h h_now i inside within few calm_before (q.wrote.none i inside)
    (record { asks = q.wrote.asks i inside; rings = q.wrote.rings i inside; wrote = q.wrote.wrote i inside; based = based_before }) q.counts q_now.counts q.are (q.places i inside) shorts_before (q.logins i inside) (own i inside calm_before shorts_before based_before)

first_ops : (start : List Disk) (line : ℕ) (run : Run) → AreOwnOpsAt start (moments_behind line run []) (beginning run).world
first_ops start line run i l calm shorts based op is source = none_is op is

pub ops_everywhere : EveryPlace AreOwnOpsAt
ops_everywhere = record {
  after_lines = λ line run r has small size so_far.
      at_lines OwnKnown (AreOwnOpsAt run.start.disks) own_known line run r.few has small size (all_ops run.units (ready_logins run.initiators run.ready) has run.start.disks) (first_ops run.start.disks line run) r so_far;
  between = λ line run r has small size next most told m so_far.
      at_between OwnKnown (AreOwnOpsAt run.start.disks) own_known line run r.few has small size (all_ops run.units (ready_logins run.initiators run.ready) has run.start.disks) (first_ops run.start.disks line run) r next most told m so_far;
}

-- ---- the logins, over a turn
module _ (units ready : ℕ) (more_units : 0 < units) (start : List Disk) (past : List Moment) (s : Scene) (later : List Moment) (t : Scene) {lines : ℕ} (g : Goes past s later t) (h : Holding units ready start past lines s.world) (q : OwnKnown start (hist past s.world) s.world) (tame : IsTame (hist past s.world)) (shorts : AreShort (hist past s.world)) (based : (i : ℕ) → i < length s.world.initiators → EachMoment (BasedAt i) (hist past s.world)) (some : 0 < length s.world.initiators) (ops : AreOwnOpsAt start (hist past s.world) s.world) (own : Owns s.world.target.logins.places) where
  abbrev w : WorldState
  w = s.world

  abbrev v : WorldState
  v = t.world

  abbrev before : List Moment
  before = hist past w

  granted_owns : (serial : ℕ) (sent : Sent) → found_sent serial w.store.kept ≡ Some sent → sent.to ≡ 0 → (p : Packet) (label : LabelParts) → (judging_step w.target.layer sent.generation sent.bytes).0 ≡ of_response p label (Some purposes.Management) → (left : Table) → IsDecidedOn w.target.manager w.target.logins w.target.keys (answer_in p) left → Owns left.places
  granted_owns serial sent found zero_to p label e left d =
      let of = q.held.operation d.was.source (ap source_in d.is) in
      let i = of.0 in
      let inside : i < length w.initiators = of.1.small in
      let few : i < 8 = (let few = q.wrote.few in omega (arith, inside, few)) in
      let next : i + 1 ≡ suc i = omega arith in
      let source : d.was.source ≡ id_in w i = sym of.1.node_is ∙ (ap (λ n. id_for (terms before) 0 n) next ∙ id_is units ready more_units start w h i inside) in
      let orb = decided_good units ready more_units start w h i inside (omega (arith, few)) (tame i) (q.wrote.none i inside) q.counts q.are (q.places i inside) shorts (q.logins i inside) (ops i inside (tame i) shorts (based i inside)) serial sent found zero_to p label e left d source in
      subst (λ (x : Table). Owns x.places) (sym d.left_is) (decide_owns d.on.orb d.on.source d.on.eui w.target.logins w.target.keys own orb.login)

  logged_owns : (serial : ℕ) (sent : Sent) → found_sent serial w.store.kept ≡ Some sent → sent.to ≡ 0 → (left : Table) → HasLogins w.target sent.generation sent.bytes left → Owns left.places
  logged_owns serial sent found zero_to left (untouched e) = subst (λ (x : Table). Owns x.places) (sym e) own
  logged_owns serial sent found zero_to left (answered p label e l) = by l
    where
      by : Logged w.target.manager w.target.logins w.target.keys (answer_in p) left → Owns left.places
      by (stands f) = subst (λ (x : Table). Owns x.places) (sym f) own
      by (granted d) = granted_owns serial sent found zero_to p label e left d

  call_owns : TargetCall w (base_of g) v.fresh v.target → Owns v.target.logins.places
  call_owns (still x told) = x.owns own
  call_owns (delivers serial sent found zero_to told disks node notes first) =
      let now = (received told sent.generation sent.bytes (whole (scene w.target empty_outbox) disks)).1.node in
      subst (λ (n : NodeState). Owns n.logins.places) (sym node) (logged_owns serial sent found zero_to now.logins (delivery_logins w.target (good units ready more_units start w h) (keeps units ready more_units start w h) sent.generation sent.bytes told disks))

  turn_owns : TurnOf 0 w (base_of g) v → Owns v.target.logins.places
  turn_owns (by_target bus same call) = call_owns call
  turn_owns (by_clearing c same _) = c.owns own
  turn_owns (by_own bus same call away) = subst (λ (n : NodeState). Owns n.logins.places) (sym same) own
  turn_owns (by_sight c same _) = subst (λ (n : NodeState). Owns n.logins.places) (sym same) own

  pub logins_turn : Owns v.target.logins.places
  logins_turn = turn_owns (goes_turned units ready more_units start past s later t g h 0 some)

-- ---- where no initiator injected packets
abbrev pub OwnLoginsAt : List Moment → WorldState → Type 0
OwnLoginsAt past w = IsTame past → AreShort past → ((i : ℕ) → i < length w.initiators → EachMoment (BasedAt i) past) → 0 < length w.initiators → Owns w.target.logins.places

-- with what is known of the operations
record KnownOps (start : List Disk) (past : List Moment) (w : WorldState) : Type 0 where
  pub known : OwnKnown start past w
  pub ops : AreOwnOpsAt start past w

known_ops : EveryPlace KnownOps
known_ops = record {
  after_lines = λ line run r has small size so_far. record { known = own_known.after_lines line run r has small size so_far; ops = ops_everywhere.after_lines line run r has small size so_far };
  between = λ line run r has small size next most told m so_far. record { known = own_known.between line run r has small size next most told m so_far; ops = ops_everywhere.between line run r has small size next most told m so_far };
}

all_logins : (units ready : ℕ) → 0 < units → (start : List Disk) → Keeps units ready start (KnownOps start) OwnLoginsAt
all_logins units ready has start past s later t lines more g h h_now q q_now own tame shorts based some =
    let size = goes_size past s later t g in
    let x = grown (hist past s.world) (hist later t.world) (goes_next past s later t g) in
    let tame_old : IsTame (hist past s.world) = tame_before x.new (hist past s.world) (subst IsTame (sym x.is) tame) in
    let shorts_old : AreShort (hist past s.world) = short_from x.new (hist past s.world) (subst AreShort (sym x.is) shorts) in
    let some_old : 0 < length s.world.initiators = subst (λ n. 0 < n) size some in
    let based_old : (i : ℕ) → i < length s.world.initiators → EachMoment (BasedAt i) (hist past s.world) = (λ i l. each_from (BasedAt i) x.new (hist past s.world) (subst (EachMoment (BasedAt i)) (sym x.is) (based i (subst (λ n. i < n) (sym size) l)))) in
    logins_turn units ready has start past s later t g h q.known tame_old shorts_old based_old some_old q.ops (own tame_old shorts_old based_old some_old)

-- ---- the first logins
none_owns : (k : ℕ) → Owns (replicate k None)
none_owns zero place = tt
none_owns (suc k) zero = tt
none_owns (suc k) (suc place) = none_owns k place

from_owns : (i n k : ℕ) → Owns (logins_from i n ++ replicate k None)
from_owns i zero k place = none_owns k place
from_owns i (suc n) k zero = record { number = 0; few = omega arith; is = refl }
from_owns i (suc n) k (suc place) = from_owns (i + 1) n k place

pub table_owns : (ready : Bool) (n : ℕ) → Owns (first_table ready n).places
table_owns false n place = none_owns 8 place
table_owns true n place = from_owns 0 n (8 - n) place

first_logins : (line : ℕ) (run : Run) → run.initiators ≤ 4 → run.units ≤ 4 → length run.start.disks ≡ run.units → OwnLoginsAt (moments_behind line run []) (beginning run).world
unfolding new_world
first_logins line run few small size tame shorts based some =
    let h = first_holds run.initiators run.ready run.units line run.start.disks few small size in
    subst (λ (x : Table). Owns x.places) h.at.agrees.table (table_owns run.ready run.initiators)

pub logins_everywhere : EveryPlace (λ start past w. OwnLoginsAt past w)
logins_everywhere = record {
  after_lines = λ line run r has small size so_far.
      at_lines KnownOps OwnLoginsAt known_ops line run r.few has small size (all_logins run.units (ready_logins run.initiators run.ready) has run.start.disks) (first_logins line run r.few small size) r so_far;
  between = λ line run r has small size next most told m so_far.
      at_between KnownOps OwnLoginsAt known_ops line run r.few has small size (all_logins run.units (ready_logins run.initiators run.ready) has run.start.disks) (first_logins line run r.few small size) r next most told m so_far;
}

-- Each login of the target has a FIFO of a login, where no initiator injected packets, and where each login that one was done with was granted an agent of a place.
pub own_everywhere : EveryPlace (λ start past w. IsTame past → AreShort past → ((i : ℕ) → i < length w.initiators → EachMoment (BasedAt i) past) → 0 < length w.initiators → AreOwn w)
own_everywhere = record {
  after_lines = λ line run r has small size so_far tame shorts based some place login e.
      owned (after (beginning run) run.entries).world.target.logins.places (logins_everywhere.after_lines line run r has small size so_far tame shorts based some) place login e;
  between = λ line run r has small size next most told m so_far tame shorts based some place login e.
      owned (after_all told (begun (after (beginning run) run.entries))).world.target.logins.places (logins_everywhere.between line run r has small size next most told m so_far tame shorts based some) place login e;
}
