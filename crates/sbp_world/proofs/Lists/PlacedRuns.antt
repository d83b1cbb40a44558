-- In every run an operation of the target of an initiator that injected no packets has its ORB in one of the initiator's places of management, where each login that
-- the initiator was done with was granted an agent of a place.
use Rattle.sbp_world.proofs.Words.Std.{arith, ◌≡◌, ◌∙◌, refl, sym, ap, subst, ℕ, ◌<◌, ◌≤◌, List, [], length, Option, Some}
use Rattle.sbp_world.proofs.Words.Wire.{Sent, found_sent, empty_outbox, Moment}
use Rattle.sbp_world.proofs.Words.Target.{Operation, Disk, Told, NodeState, scene, received, whole}
use Rattle.sbp_world.proofs.Words.Laws.{EachMoment}
use Rattle.sbp_world.proofs.Words.World.{NoneInjected, more_deliveries, MayAsk, moments_behind, ready_logins, Run, after, beginning, after_all, Scene, WorldState, begun, IsCalm, ArePlacedOps, BasedAt, IsInAPlace, RingsAt}
use Rattle.sbp_world.proofs.Hosts.Carried.{between_runs, of_runs}
use Rattle.sbp_world.proofs.Hosts.Carrying.{carries_law}
use Rattle.sbp_world.proofs.Hosts.Runs.{count_after, count_between}
use Rattle.mgmt_agent.specs.Machine.{Machine}
use Rattle.sbp_world.proofs.Pointers.Proved.{writes_law}
use Rattle.sbp_world.proofs.Agents.Management.Holding.{Holding}
use Rattle.sbp_world.proofs.Agents.Management.Still.{hist}
use Rattle.sbp_world.proofs.Lists.Courses.{EveryPlace, Goes, Keeps, at_between, at_lines}
use Rattle.sbp_world.proofs.Lists.Judging.{goes_next, grown}
use Rattle.sbp_world.proofs.Lists.KeptReplies.{HasRead, brought, delivery_read, kept}
use Rattle.sbp_world.proofs.Lists.KeptTurns.{id_is, operation_is}
use Rattle.sbp_world.proofs.Lists.LiveCalls.{HasOperation, delivery_operation, replies, starts, stays}
use Rattle.sbp_world.proofs.Lists.LiveRuns.{base_of, goes_calm, goes_size, goes_turned}
use Rattle.sbp_world.proofs.Lists.LiveSteps.{id_in}
use Rattle.sbp_world.proofs.Lists.LiveTurns.{TargetCall, TurnOf, by_clearing, by_own, by_sight, by_target, delivers, good, keeps, still}
use Rattle.sbp_world.proofs.Lists.ManageLines.{first_wrote}
use Rattle.sbp_world.proofs.Lists.ManageTerms.{none_is}
use Rattle.sbp_world.proofs.Lists.ManageWrites.{Wrote, WroteAt, spells_known, wrote_carried}
use Rattle.sbp_world.proofs.Lists.PlacedOps.{Written, asked_placed}
use Rattle.sbp_world.proofs.Lists.RingWrites.{rings_law}
use Rattle.sbp_world.proofs.Lists.UnderwayRuns.{delivering}
use Rattle.sbp_world.proofs.Lists.StatusKnown.{each_from}

-- ---- what the initiators of every run wrote
pub record WroteAll (start : List Disk) (past : List Moment) (w : WorldState) : Type 0 where
  pub few : length w.initiators ≤ 4
  pub asks : (i : ℕ) → i < length w.initiators → EachMoment (MayAsk i) past
  pub rings : (i : ℕ) → i < length w.initiators → EachMoment (RingsAt i) past
  pub wrote : (i : ℕ) → i < length w.initiators → EachMoment (WroteAt i) past
  pub none : (i : ℕ) → i < length w.initiators → NoneInjected past i

pub wrote_everywhere : EveryPlace WroteAll
wrote_everywhere = record {
  after_lines = λ line run r has small size so_far.
      let size_is = count_after run run.entries in
      let inside : (i : ℕ) → i < length (after (beginning run) run.entries).world.initiators → i < run.initiators = (λ i l. subst (λ n. i < n) size_is l) in
      record {
        few = (let few = r.few in omega (arith, size_is, few));
        asks = λ i l. writes_law.after_lines line run r i (inside i l);
        rings = λ i l. rings_law.after_lines line run r i (inside i l);
        wrote = λ i l. (of_runs (Wrote run.ready) (wrote_carried run.ready) line run (spells_known line run) (λ j c. first_wrote line run.initiators run.ready j c) r i (inside i l)).kept;
        none = λ i l. carries_law.none_injected line run r i (inside i l);
      };
  between = λ line run r has small size next most told m so_far.
      let size_is = count_between told (after (beginning run) run.entries) ∙ count_after run run.entries in
      let inside : (i : ℕ) → i < length (after_all told (begun (after (beginning run) run.entries))).world.initiators → i < run.initiators = (λ i l. subst (λ n. i < n) size_is l) in
      record {
        few = (let few = r.few in omega (arith, size_is, few));
        asks = λ i l. writes_law.between line run r next most told m i (inside i l);
        rings = λ i l. rings_law.between line run r next most told m i (inside i l);
        wrote = λ i l. (between_runs (Wrote run.ready) (wrote_carried run.ready) line run (spells_known line run) (λ j c. first_wrote line run.initiators run.ready j c) r next most told m i (inside i l)).kept;
        none = λ i l. carries_law.none_injected_between line run r next (more_deliveries most) told (delivering told most) m i (inside i l);
      };
}

-- of each initiator that injected no packets
abbrev pub ArePlacedAt : List Disk → List Moment → WorldState → Type 0
ArePlacedAt start past w = (i : ℕ) → i < length w.initiators → IsCalm past i → EachMoment (BasedAt i) past → ArePlacedOps start past i

-- ---- a turn
module _ (units ready : ℕ) (more_units : 0 < units) (start : List Disk) (past : List Moment) (s : Scene) (later : List Moment) (t : Scene) {lines more : ℕ} (g : Goes past s later t) (h : Holding units ready start past lines s.world) (h_now : Holding units ready start later more t.world) (i : ℕ) (inside : i < length s.world.initiators) (within : i < length t.world.initiators) (few : i < 8) (calm : IsCalm (hist past s.world) i) (none : NoneInjected (hist past s.world) i) (known : Written (hist past s.world) i) (before : ArePlacedOps start (hist past s.world) i) where
  abbrev w : WorldState
  w = s.world

  abbrev v : WorldState
  v = t.world

  module _ (op : Operation) (is : v.target.manager.operation ≡ Some op) (source : op.source ≡ id_in v i) where
    old_placed : (old : Operation) → w.target.manager.operation ≡ Some old → old.source ≡ id_in w i → old.orb ≡ op.orb → IsInAPlace op
    old_placed old there own orb =
        let x = before old (operation_is units ready more_units start w h i inside ∙ there) (own ∙ sym (id_is units ready more_units start w h i inside)) in
        record { place = x.place; small = x.small; orb = sym orb ∙ x.orb }

    same_then : id_in v i ≡ id_in w i → v.target.manager.operation ≡ w.target.manager.operation → IsInAPlace op
    same_then id e = old_placed op (sym e ∙ is) (source ∙ id) refl

    by_read : id_in v i ≡ id_in w i → {answer : _} → HasRead w.target.manager.operation answer op → IsInAPlace op
    by_read id (kept old there source_old orb_old f) = old_placed old there (source_old ∙ (source ∙ id)) orb_old
    by_read id (brought old there source_old orb_old phase bytes answer f) = old_placed old there (source_old ∙ (source ∙ id)) orb_old

    by_delivery : id_in v i ≡ id_in w i → (serial : ℕ) (sent : Sent) → found_sent serial w.store.kept ≡ Some sent → sent.to ≡ 0 → (told : Option Told) (disks : List Disk) → (let now = (received told sent.generation sent.bytes (whole (scene w.target empty_outbox) disks)).1.node in v.target.manager.operation ≡ now.manager.operation → now.manager.operation ≡ Some op → HasOperation w.target sent.generation sent.bytes now op → IsInAPlace op)
    by_delivery id serial sent found zero_to told disks left there (stays m l) = same_then id (left ∙ ap (λ (x : Machine). x.operation) m)
    by_delivery id serial sent found zero_to told disks left there (starts a l) = asked_placed units ready start w h i inside few calm none known serial sent found zero_to op a (source ∙ id)
    by_delivery id serial sent found zero_to told disks left there (replies p label f r) =
        by_read id (delivery_read w.target (good units ready more_units start w h) (keeps units ready more_units start w h) told disks sent.generation sent.bytes p label f op there)

    by_call : id_in v i ≡ id_in w i → TargetCall w (base_of g) v.fresh v.target → IsInAPlace op
    by_call id (still x told) = same_then id (ap (λ (m : Machine). m.operation) (x.operation op is))
    by_call id (delivers serial sent found zero_to told disks node notes first) =
        let there = sym (ap (λ (n : NodeState). n.manager.operation) node) ∙ is in
        by_delivery id serial sent found zero_to told disks (ap (λ (n : NodeState). n.manager.operation) node) there (delivery_operation w.target (good units ready more_units start w h) (keeps units ready more_units start w h) sent.generation sent.bytes told disks op there)

    by_turn : TurnOf i w (base_of g) v → IsInAPlace op
    by_turn (by_target bus same call) = by_call bus.id call
    by_turn (by_clearing c same told) = absurd (c.none op is)
    by_turn (by_own bus same call away) = same_then bus.id (ap (λ (n : NodeState). n.manager.operation) same)
    by_turn (by_sight x same away) = same_then x.id (ap (λ (n : NodeState). n.manager.operation) same)

  pub placed_turn : ArePlacedOps start (hist later v) i
  placed_turn op is source =
      by_turn op (sym (operation_is units ready more_units start v h_now i within) ∙ is) (source ∙ id_is units ready more_units start v h_now i within) (goes_turned units ready more_units start past s later t g h i inside)

-- ---- the runs
all_placed : (units ready : ℕ) → 0 < units → (start : List Disk) → Keeps units ready start (WroteAll start) (ArePlacedAt start)
all_placed units ready has start past s later t lines more g h h_now q q_now p i within calm based =
    let inside : i < length s.world.initiators = subst (λ n. i < n) (goes_size past s later t g) within in
    let calm_before = goes_calm past s later t g i calm in
    let x = grown (hist past s.world) (hist later t.world) (goes_next past s later t g) in
    let based_before : EachMoment (BasedAt i) (hist past s.world) = each_from (BasedAt i) x.new (hist past s.world) (subst (EachMoment (BasedAt i)) (sym x.is) based) in
    let few : i < 8 = (let few = q.few in omega (arith, inside, few)) in
    placed_turn units ready has start past s later t g h h_now i inside within few calm_before (q.none i inside)
    (record { asks = q.asks i inside; rings = q.rings i inside; wrote = q.wrote i inside; based = based_before }) (p i inside calm_before based_before)

first_placed : (start : List Disk) (line : ℕ) (run : Run) → ArePlacedAt start (moments_behind line run []) (beginning run).world
first_placed start line run i l calm based op is source = none_is op is

pub placed_everywhere : EveryPlace ArePlacedAt
placed_everywhere = record {
  after_lines = λ line run r has small size so_far.
      at_lines WroteAll (ArePlacedAt run.start.disks) wrote_everywhere line run r.few has small size (all_placed run.units (ready_logins run.initiators run.ready) has run.start.disks) (first_placed run.start.disks line run) r so_far;
  between = λ line run r has small size next most told m so_far.
      at_between WroteAll (ArePlacedAt run.start.disks) wrote_everywhere line run r.few has small size (all_placed run.units (ready_logins run.initiators run.ready) has run.start.disks) (first_placed run.start.disks line run) r next most told m so_far;
}
