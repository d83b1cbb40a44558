-- At each place of every run what the target keeps of a management ORB for a calm initiator was made by it, and so was each ORB that is decided in a turn.
use Rattle.sbp_world.proofs.Words.Std.{arith, ◌≡◌, ◌∙◌, sym, ap, subst, ℕ, suc, ◌+◌, ◌^◌, ◌<◌, List, [], length}
use Rattle.sbp_world.proofs.Words.Wire.{Moment, terms}
use Rattle.sbp_world.proofs.Words.Target.{source_in, Disk}
use Rattle.sbp_world.proofs.Words.Laws.{id_for, EachMoment}
use Rattle.sbp_world.proofs.Words.World.{moments_behind, new_world, ready_logins, Run, beginning, Scene, WorldState, IsCalm, BasedAt, AreShort}
use Rattle.sbp_world.proofs.Agents.Management.Holding.{Holding}
use Rattle.sbp_world.proofs.Agents.Management.Still.{hist}
use Rattle.sbp_world.proofs.Lists.Courses.{EveryPlace, Keeps, at_between, at_lines}
use Rattle.sbp_world.proofs.Lists.IdsRuns.{IsDecision}
use Rattle.sbp_world.proofs.Lists.Judging.{goes_next, grown}
use Rattle.sbp_world.proofs.Lists.KeptTurns.{id_is}
use Rattle.sbp_world.proofs.Lists.LiveRuns.{goes_calm, goes_size}
use Rattle.sbp_world.proofs.Lists.LiveSteps.{id_in}
use Rattle.sbp_world.proofs.Lists.MadeOps.{AreMade, decided_made, made_turn}
use Rattle.sbp_world.proofs.Lists.ManageTerms.{none_is}
use Rattle.sbp_world.proofs.Lists.OrbsMade.{IsMade}
use Rattle.sbp_world.proofs.Lists.OwnLogins.{AreOwnOpsAt, OwnKnown, ops_everywhere, own_known}
use Rattle.sbp_world.proofs.Lists.OwnOps.{short_from}
use Rattle.sbp_world.proofs.Lists.StatusKnown.{each_from}

-- what is known at each place of every run
pub record KnownOps (start : List Disk) (past : List Moment) (w : WorldState) : Type 0 where
  pub known : OwnKnown start past w
  pub ops : AreOwnOpsAt start past w

pub known_ops : EveryPlace KnownOps
known_ops = record {
  after_lines = λ line run r has small size so_far. record { known = own_known.after_lines line run r has small size so_far; ops = ops_everywhere.after_lines line run r has small size so_far };
  between = λ line run r has small size next most told m so_far. record { known = own_known.between line run r has small size next most told m so_far; ops = ops_everywhere.between line run r has small size next most told m so_far };
}

-- of each initiator that injected no packets
abbrev pub AreMadeAt : List Moment → WorldState → Type 0
AreMadeAt past w = (i : ℕ) → i < length w.initiators → IsCalm past i → AreShort past → EachMoment (BasedAt i) past → AreMade past i (id_in w i) w.target.manager.operation

all_made : (units ready : ℕ) → 0 < units → (start : List Disk) → Keeps units ready start (KnownOps start) AreMadeAt
all_made units ready has start past s later t lines more g h h_now q q_now had i within calm shorts based =
    let inside : i < length s.world.initiators = subst (λ n. i < n) (goes_size past s later t g) within in
    let calm_before = goes_calm past s later t g i calm in
    let x = grown (hist past s.world) (hist later t.world) (goes_next past s later t g) in
    let based_before : EachMoment (BasedAt i) (hist past s.world) = each_from (BasedAt i) x.new (hist past s.world) (subst (EachMoment (BasedAt i)) (sym x.is) based) in
    let shorts_before : AreShort (hist past s.world) = short_from x.new (hist past s.world) (subst AreShort (sym x.is) shorts) in
    let k = q.known in
    let nodes : i + 1 < 2 ^ 16 = (let few = k.wrote.few in omega (arith, inside, few)) in
    made_turn units ready has start past s later t g h i inside nodes calm_before (k.wrote.none i inside) k.counts k.are (k.places i inside) shorts_before (k.logins i inside) (q.ops i inside calm_before shorts_before based_before) (had i inside calm_before shorts_before based_before)

first_made : (line : ℕ) (run : Run) → AreMadeAt (moments_behind line run []) (beginning run).world
unfolding new_world
first_made line run i inside calm shorts based op is source = none_is op is

pub made_everywhere : EveryPlace (λ start past w. AreMadeAt past w)
made_everywhere = record {
  after_lines = λ line run r has small size so_far.
      at_lines KnownOps AreMadeAt known_ops line run r.few has small size (all_made run.units (ready_logins run.initiators run.ready) has run.start.disks) (first_made line run) r so_far;
  between = λ line run r has small size next most told m so_far.
      at_between KnownOps AreMadeAt known_ops line run r.few has small size (all_made run.units (ready_logins run.initiators run.ready) has run.start.disks) (first_made line run) r next most told m so_far;
}

-- ---- a decision of a turn
module _ (units ready : ℕ) (has : 0 < units) (start : List Disk) (past : List Moment) (s : Scene) (t : Scene) {lines : ℕ} (h : Holding units ready start past lines s.world) (q : KnownOps start (hist past s.world) s.world) (made : AreMadeAt (hist past s.world) s.world) (shorts : AreShort (hist past s.world)) where
  abbrev before : List Moment
  before = hist past s.world

  pub few_nodes : (i : ℕ) → i < length s.world.initiators → i + 1 < 2 ^ 16
  few_nodes i inside = let few = q.known.wrote.few in omega (arith, inside, few)

  -- of an initiator
  pub decision_is_made : (i : ℕ) → i < length s.world.initiators → IsCalm before i → EachMoment (BasedAt i) before → (d : IsDecision s.world t.world) → d.on.was.source ≡ id_in s.world i → IsMade before i d.on.on.orb
  decision_is_made i inside calm based d source =
      let k = q.known in
      decided_made units ready has start s.world h i inside (few_nodes i inside) calm (k.wrote.none i inside) k.counts k.are (k.places i inside) shorts (k.logins i inside) (q.ops i inside calm shorts based) (made i inside calm shorts based) d.serial d.sent d.found d.to d.packet d.label d.judged t.world.target.logins d.on source

  -- each is one of an initiator
  pub record DecidedFor (d : IsDecision s.world t.world) : Type 0 where
    pub i : ℕ
    pub inside : i < length s.world.initiators
    pub source : d.on.was.source ≡ id_in s.world i

  pub decided_for : (d : IsDecision s.world t.world) → DecidedFor d
  decided_for d =
      let of = q.known.held.operation d.on.was.source (ap source_in d.on.is) in
      let i = of.0 in
      let inside : i < length s.world.initiators = of.1.small in
      let next : i + 1 ≡ suc i = omega arith in
      record { i = i; inside = inside; source = sym of.1.node_is ∙ (ap (λ n. id_for (terms before) 0 n) next ∙ id_is units ready has start s.world h i inside) }
