-- A response of the target that waits to be judged by an initiator, at each place of a run: where the initiator injected no packets, and each login that it was done with
-- was granted an agent of a place, it has given up, or the operation of the target for it waits for the answer to this response.
use Rattle.sbp_world.proofs.Words.Std.{◌≡◌, ◌∙◌, refl, sym, ap, subst, ◌⊎◌, inl, inr, ℕ, ◌<◌, Bool, true, false, List, [], ◌∷◌, ◌++◌, map, length, Some}
use Rattle.sbp_world.proofs.Words.Wire.{Moment, said, Note}
use Rattle.sbp_world.proofs.Words.Target.{Operation, Disk}
use Rattle.sbp_world.proofs.Words.Initiator.{InitiatorState, is_stuck_seat}
use Rattle.sbp_world.proofs.Words.Laws.{target_at, EachMoment}
use Rattle.sbp_world.proofs.Words.World.{moments_behind, ready_logins, Run, beginning, Scene, WorldState, initiator_at, AreAsked, HasGivenUp, IsManaged, IsCalm, ArePlacedOps, BasedAt, AreReplied}
use Rattle.sbp_world.proofs.Hosts.Hosted.{Cored}
use Rattle.mgmt_agent.specs.Machine.{Machine}
use Rattle.sbp_world.proofs.Agents.Management.Holding.{Holding}
use Rattle.sbp_world.proofs.Agents.Management.Still.{hist}
use Rattle.sbp_world.proofs.Lists.Courses.{EveryPlace, Goes, Keeps, at_between, at_lines}
use Rattle.sbp_world.proofs.Lists.Judging.{goes_next, grown}
use Rattle.sbp_world.proofs.Lists.LiveGiven.{LawsAt}
use Rattle.sbp_world.proofs.Lists.LiveHandled.{gave_up}
use Rattle.sbp_world.proofs.Lists.LiveOwn.{GaveUp, in_hand, two_ways}
use Rattle.sbp_world.proofs.Lists.LivePends.{turn_wire}
use Rattle.sbp_world.proofs.Lists.ContentPlaces.{contents_everywhere}
use Rattle.sbp_world.proofs.Lists.LiveRefusing.{AreManagedBy, managed_everywhere}
use Rattle.sbp_world.proofs.Lists.LiveRuns.{IsCored, With, base_of, goes_calm, goes_size, goes_turned, known_everywhere}
use Rattle.sbp_world.proofs.Lists.LiveSteps.{GaveUpOf}
use Rattle.sbp_world.proofs.Lists.LiveTogether.{told_is}
use Rattle.sbp_world.proofs.Lists.LiveTold.{IsFirst, TargetTold, is_first}
use Rattle.sbp_world.proofs.Lists.LiveTurns.{TargetCall, TurnOf, by_clearing, by_own, by_sight, by_target, delivers, still}
use Rattle.sbp_world.proofs.Lists.ManageLaws.{known_of}
use Rattle.sbp_world.proofs.Lists.ManageMoments.{Hands}
use Rattle.sbp_world.proofs.Lists.ManageTerms.{none_is}
use Rattle.sbp_world.proofs.Lists.ManageYoung.{young}
use Rattle.sbp_world.proofs.Lists.PlacedRuns.{ArePlacedAt, placed_everywhere}
use Rattle.sbp_world.proofs.Lists.ReplyOwn.{own_on, own_up, same_node, sighted_on}
use Rattle.sbp_world.proofs.Lists.ReplyTurns.{SameNode, replied_there}
use Rattle.sbp_world.proofs.Lists.StatusKnown.{each_from}

-- ---- what laws give at each place
pub record Kit (start : List Disk) (past : List Moment) (w : WorldState) : Type 0 where
  pub laws : LawsAt start past w
  pub contents : AreAsked start past
  pub hand : AreManagedBy start past w
  pub placed : ArePlacedAt start past w

kit_everywhere : EveryPlace LawsAt → EveryPlace (With Kit)
kit_everywhere laws = record {
  after_lines = λ line run r has small size so_far. record {
    known = known_everywhere.after_lines line run r has small size so_far;
    more = record {
      laws = laws.after_lines line run r has small size so_far;
      contents = contents_everywhere.after_lines line run r has small size so_far;
      hand = managed_everywhere.after_lines line run r has small size so_far;
      placed = placed_everywhere.after_lines line run r has small size so_far;
    };
  };
  between = λ line run r has small size next most told m so_far. record {
    known = known_everywhere.between line run r has small size next most told m so_far;
    more = record {
      laws = laws.between line run r has small size next most told m so_far;
      contents = contents_everywhere.between line run r has small size next most told m so_far;
      hand = managed_everywhere.between line run r has small size next most told m so_far;
      placed = placed_everywhere.between line run r has small size next most told m so_far;
    };
  };
}

-- of each initiator that injected no packets, and whose logins have the base of an agent of a place
abbrev pub AreRepliedAt : List Disk → List Moment → WorldState → Type 0
AreRepliedAt start past w = (i : ℕ) → i < length w.initiators → IsCalm past i → EachMoment (BasedAt i) past → GaveUpOf w i ⊎ AreReplied start past i

-- ---- a turn
module _ (units ready : ℕ) (has : 0 < units) (start : List Disk) (past : List Moment) (s : Scene) (later : List Moment) (t : Scene) {lines more : ℕ} (g : Goes past s later t) (h : Holding units ready start past lines s.world) (h_now : Holding units ready start later more t.world) (q : With Kit start (hist past s.world) s.world) (q_now : With Kit start (hist later t.world) t.world) (i : ℕ) (inside : i < length s.world.initiators) (within : i < length t.world.initiators) (calm : IsCalm (hist later t.world) i) (based : EachMoment (BasedAt i) (hist later t.world)) where
  abbrev w : WorldState
  w = s.world

  abbrev v : WorldState
  v = t.world

  abbrev before : List Moment
  before = hist past w

  abbrev now : List Moment
  now = hist later v

  abbrev base : List Moment
  base = map said (base_of g) ++ later

  calm_before : IsCalm before i
  calm_before = goes_calm past s later t g i calm

  hands : Hands start i now
  hands = q_now.more.laws.hands i within calm

  managed : IsManaged start before i
  managed = q.more.laws.managed i inside calm_before

  managed_now : IsManaged start now i
  managed_now = q_now.more.laws.managed i within calm

  c : IsCored before i (initiator_at w i)
  c = q.known.cored i inside

  c_now : IsCored now i (initiator_at v i)
  c_now = q_now.known.cored i within

  placed_now : ArePlacedOps start now i
  placed_now = q_now.more.placed i within calm based

  -- ---- the target is called
  module _ (same : initiator_at v i ≡ initiator_at w i) (bus : (op : Operation) → (target_at start now).manager.operation ≡ Some op → SameNode before now i) (told : TargetTold (base_of g) v.fresh) where
    given_up : GaveUpOf w i → GaveUpOf v i
    given_up up = subst (λ (x : InitiatorState). GaveUp x.operation x.seat) (sym same) up

    module _ (up : GaveUpOf w i → ⊥) (r : AreReplied start before i) where
      with_first : (first : Note) → told.first ≡ first ∷ [] → is_first first ≡ true → AreReplied start now i
      with_first first e one =
          let N : List Moment = map said told.sends ++ (map said told.told ++ (said first ∷ base)) in
          let is : now ≡ N = told_is (base_of g) v.fresh told later ∙ ap (λ (ns : List Note). map said told.sends ++ (map said told.told ++ (map said ns ++ base))) e in
          subst (λ ms. AreReplied start ms i) (sym is)
          (replied_there units ready start past s later t g h h_now i first told.sends told.told told.are_sent told.are_told one
          (λ unit f. told.keyed unit (e ∙ ap (λ (n : Note). n ∷ []) f))
          is (subst (Hands start i) is hands) managed (subst (λ ms. IsManaged start ms i) is managed_now) c.ready c_now.ready c.cored
          (subst (λ ms. Cored c_now.ready ms i (initiator_at w i)) is (subst (λ (x : InitiatorState). Cored c_now.ready now i x) same c_now.cored))
          (λ x. up (subst (λ (y : InitiatorState). GaveUp y.operation y.seat) same (gave_up c_now.ready now v i c_now.cored (subst (λ ms. HasGivenUp ms i) (sym is) x))))
          (subst (λ ms. (op : Operation) → (target_at start ms).manager.operation ≡ Some op → SameNode before ms i) is bus)
          (subst (λ ms. ArePlacedOps start ms i) is placed_now)
          (turn_wire past s later t g).sent r)

      by_first : (first : List Note) → told.first ≡ first → IsFirst first → AreReplied start now i
      by_first [] e one = absurd one
      by_first (first ∷ []) e one = with_first first e one
      by_first (first ∷ other ∷ ns) e one = absurd one

      replied_now : AreReplied start now i
      replied_now = by_first told.first refl told.one

    target_on : GaveUpOf w i ⊎ AreReplied start before i → GaveUpOf v i ⊎ AreReplied start now i
    target_on (inl up) = inl (given_up up)
    target_on (inr r) = by (is_stuck_seat (initiator_at w i).seat) refl (in_hand (initiator_at w i).operation) refl
      where
        by : (b : Bool) → is_stuck_seat (initiator_at w i).seat ≡ b → (d : Bool) → in_hand (initiator_at w i).operation ≡ d → GaveUpOf v i ⊎ AreReplied start now i
        by true e false f = inl (given_up (record { stuck = e; none = f }))
        by true e true f = inr (replied_now (λ up. two_ways (in_hand (initiator_at w i).operation) f up.none) r)
        by false e d f = inr (replied_now (λ up. two_ways (is_stuck_seat (initiator_at w i).seat) up.stuck e) r)

  operation_now : (target_at start now).manager.operation ≡ v.target.manager.operation
  operation_now = ap (λ (m : Machine). m.operation) h_now.at.agrees.manager

  told_by : TargetCall w (base_of g) v.fresh v.target → TargetTold (base_of g) v.fresh
  told_by (delivers serial sent found zero_to told disks is x first) = x
  told_by (still x told) = told

  by_turn : TurnOf i w (base_of g) v → GaveUpOf w i ⊎ AreReplied start before i → GaveUpOf v i ⊎ AreReplied start now i
  by_turn (by_target bus same call) p = target_on same (λ op is. same_node units ready start past s later t h h_now i inside within bus) (told_by call) p
  by_turn (by_clearing cleared same told) p = target_on same (λ op is. absurd (cleared.none op (sym operation_now ∙ is))) told p
  by_turn (by_own bus same call away) (inl up) = inl (own_up units ready start past s later t g h h_now i inside within hands away c.ready c.cored call up)
  by_turn (by_own bus same call away) (inr r) =
      own_on units ready start past s later t g h h_now i inside within hands away (same_node units ready start past s later t h h_now i inside within bus) c.ready c_now.ready c.cored c_now.cored managed r q.more.contents (q.more.hand i inside) call
  by_turn (by_sight sighted same away) p =
      let k = known_of past before w h.sound.stands refl in
      inr (sighted_on units ready start past s later t g h h_now i inside within hands sighted away (young start before i k.wire k.rise))

  pub replied_turn : GaveUpOf w i ⊎ AreReplied start before i → GaveUpOf v i ⊎ AreReplied start now i
  replied_turn = by_turn (goes_turned units ready has start past s later t g h i inside)

-- ---- the runs
all_replied : (units ready : ℕ) → 0 < units → (start : List Disk) → Keeps units ready start (With Kit start) (AreRepliedAt start)
all_replied units ready has start past s later t lines more g h h_now q q_now p i within calm based =
    let inside : i < length s.world.initiators = subst (λ n. i < n) (goes_size past s later t g) within in
    let x = grown (hist past s.world) (hist later t.world) (goes_next past s later t g) in
    let based_before : EachMoment (BasedAt i) (hist past s.world) = each_from (BasedAt i) x.new (hist past s.world) (subst (EachMoment (BasedAt i)) (sym x.is) based) in
    replied_turn units ready has start past s later t g h h_now q q_now i inside within calm based (p i inside (goes_calm past s later t g i calm) based_before)

first_replied : (start : List Disk) (line : ℕ) (run : Run) → AreRepliedAt start (moments_behind line run []) (beginning run).world
first_replied start line run i l calm based = inr (λ serial a. none_is a.op a.is_for)

pub replied_everywhere : EveryPlace LawsAt → EveryPlace AreRepliedAt
replied_everywhere laws = record {
  after_lines = λ line run r has small size so_far.
      at_lines (With Kit) (AreRepliedAt run.start.disks) (kit_everywhere laws) line run r.few has small size (all_replied run.units (ready_logins run.initiators run.ready) has run.start.disks) (first_replied run.start.disks line run) r so_far;
  between = λ line run r has small size next most told m so_far.
      at_between (With Kit) (AreRepliedAt run.start.disks) (kit_everywhere laws) line run r.few has small size (all_replied run.units (ready_logins run.initiators run.ready) has run.start.disks) (first_replied run.start.disks line run) r next most told m so_far;
}
