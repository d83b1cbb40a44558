-- Each live login of an initiator's node has the FIFO of the login that it asked for last, also where the initiator has given up, while it names a write of ORB_POINTER for its present list: as it gave up its session
-- was in, or on its way out, so nothing is in hand that gives its node a login.
use Rattle.sbp_world.proofs.Words.Std.{arith, ◌≡◌, ◌∙◌, inl, inr, ◌⊎◌, refl, sym, ap, subst, ℕ, suc, ◌-◌, ◌<◌, ◌≤◌, ◌&&◌, nat_lt, is_some, Bool, true, false, cond, List, [], length, Option, Some}
use Rattle.sbp_world.proofs.Words.Wire.{Moment}
use Rattle.sbp_world.proofs.Words.Target.{Disk, Function, Login, NodeState, function_of, is_live, place_at}
use Rattle.sbp_world.proofs.Words.Initiator.{InitiatorState, ManagementOrb, Seat, is_stuck_seat, login_fifo}
use Rattle.sbp_world.proofs.Words.Laws.{host_at, new_host, ready_host}
use Rattle.sbp_world.proofs.Words.World.{FewLogins, HasGivenUp, IsCalm, Run, Scene, WorldState, beginning, initiator_at, is_seated, moments_behind, ready_logins}
use Rattle.mgmt_agent.specs.declared.function.Function.TheVariants as functions
use Rattle.sbp_world.specs.Pointers.Pointers.{IsNamed}
use Rattle.sbp_world.proofs.Agents.Management.Holding.{Holding}
use Rattle.sbp_world.proofs.Agents.Management.Still.{hist}
use Rattle.sbp_world.proofs.Common.{none_is, untrue}
use Rattle.sbp_world.proofs.Completing.HomeDecides.{call_keeps, call_stood}
use Rattle.sbp_world.proofs.Completing.HomeMoments.{Inertly, all_logins, all_pointers}
use Rattle.sbp_world.proofs.Completing.HomePlaces.{InHand, KeptOn, hand_stays, quiet_hand}
use Rattle.sbp_world.proofs.Completing.HomeTurns.{call_told, turn_go}
use Rattle.sbp_world.proofs.Completing.LatestSeats.{AllLatest, Kit, kits, seats_latest}
use Rattle.sbp_world.proofs.Completing.PresentLive.{by_seat}
use Rattle.sbp_world.proofs.Lists.Beside.{few_back}
use Rattle.sbp_world.proofs.Lists.Courses.{EveryPlace, Goes, Keeps, at_between, at_lines}
use Rattle.sbp_world.proofs.Lists.Judging.{counts_at, goes_next, grown}
use Rattle.sbp_world.proofs.Lists.LiveDecides.{keeps_logins}
use Rattle.sbp_world.proofs.Lists.LiveHandled.{gave_up}
use Rattle.sbp_world.proofs.Lists.LiveLaws.{given_up}
use Rattle.sbp_world.proofs.Lists.LiveOwn.{GaveUp, in_hand as has_one, two_ways}
use Rattle.sbp_world.proofs.Lists.LivePlaced.{placed_turns}
use Rattle.sbp_world.proofs.Lists.LiveRuns.{base_of, goes_calm, goes_size, goes_turned}
use Rattle.sbp_world.proofs.Lists.LiveStandings.{Stand, apart, comes, inside, leaves, number_in, stand_of}
use Rattle.sbp_world.proofs.Lists.LiveSteps.{GaveUpOf, id_in, own_of, zero_of}
use Rattle.sbp_world.proofs.Lists.LiveTargets.{IsMine}
use Rattle.sbp_world.proofs.Lists.LiveTurns.{SameBus, TurnOf, by_clearing, by_own, by_sight, by_target}
use Rattle.sbp_world.proofs.Sessions.Turns.{wire_generation}

-- no login, and no reconnect
abbrev pub enters_none : Option Function → Bool
enters_none (Some functions.Login) = false
enters_none (Some functions.Reconnect) = false
enters_none _ = true

keeps_none : (function : Option Function) → keeps_logins function ≡ true → enters_none function ≡ true
keeps_none (Some functions.Login) e = untrue e
keeps_none (Some functions.Reconnect) e = untrue e
keeps_none function e = refl

-- the ORB of an operation under way is neither while the session is in, or on its way out
mine_none : (stand : Stand) (number : ℕ) → number_in stand ≡ Some number → (orb : ManagementOrb) → IsMine stand orb → enters_none (function_of orb.function) ≡ true
mine_none (inside own) number e orb mine = keeps_none (function_of orb.function) (mine.in_keeps own refl)
mine_none (leaves own) number e orb mine = ap enters_none (mine.function own refl)
mine_none apart number e orb mine = none_is number e
mine_none comes number e orb mine = none_is number e

pub seat_in : (seat : Seat) → is_seated seat ≡ true → (number : ℕ) × (number_in (stand_of seat) ≡ Some number)
seat_in seat e = by_seat seat e (λ number f. (number, ap number_in f)) (λ response carries f. (response.login, ap number_in f))

pub record Stays (start : List Disk) (past : List Moment) (w : WorldState) (i : ℕ) : Type 0 where
  pub latest : AllLatest past w i
  pub hand : InHand enters_none start past w i

abbrev pub GivenLatest : List Disk → List Moment → WorldState → Type 0
GivenLatest start past w = FewLogins past → (i : ℕ) → i < length w.initiators → IsCalm past i → HasGivenUp past i → (serial : ℕ) → (host_at past i).pointer ≡ Some serial → (own_of w i ≤ zero_of w) × (zero_of w ≡ own_of w i → Stays start past w i)

module _ (units ready : ℕ) (has : 0 < units) (start : List Disk) (past : List Moment) (s : Scene) (later : List Moment) (t : Scene) (lines more : ℕ) (g : Goes past s later t) (h : Holding units ready start past lines s.world) (h_now : Holding units ready start later more t.world) (q : Kit start (hist past s.world) s.world) (q_now : Kit start (hist later t.world) t.world) (p : GivenLatest start (hist past s.world) s.world) (few_now : FewLogins (hist later t.world)) (i : ℕ) (l_now : i < length t.world.initiators) (calm_now : IsCalm (hist later t.world) i) (up_now : HasGivenUp (hist later t.world) i) (serial : ℕ) (names : (host_at (hist later t.world) i).pointer ≡ Some serial) where
  abbrev w : WorldState
  w = s.world

  abbrev v : WorldState
  v = t.world

  abbrev before : List Moment
  before = hist past w

  abbrev now : List Moment
  now = hist later v

  l : i < length w.initiators
  l = subst (λ c. i < c) (goes_size past s later t g) l_now

  calm : IsCalm before i
  calm = goes_calm past s later t g i calm_now

  gave_now : GaveUpOf v i
  gave_now = let c = q_now.near.live.known.cored i l_now in gave_up c.ready now v i c.cored up_now

  turned : TurnOf i w (base_of g) v
  turned = goes_turned units ready has start past s later t g h i l

  inert : Inertly i before now
  inert = turn_go units ready has start i past s later t g lines h l gave_now turned

  few : FewLogins before
  few = let on = grown before now (goes_next past s later t g) in few_back on.new before (subst FewLogins (sym on.is) few_now)

  named : (host_at before i).pointer ≡ Some serial
  named = all_pointers serial i before now inert names

  -- ---- over the turn
  latest_on : id_in v i ≡ id_in w i → ((place : ℕ) (login : Login) → place_at v.target.logins.places place ≡ Some login → is_live login ≡ true → login.node ≡ id_in w i → place_at w.target.logins.places place ≡ Some login) → AllLatest before w i → AllLatest now v i
  latest_on id stood k place login there live of =
      let x = k place login (stood place login there live (of ∙ id)) live (of ∙ id) in
      let same = all_logins i before now inert in
      record { some = subst (λ n. 0 < n) (sym same) x.some; goes = x.goes ∙ ap (λ n. login_fifo (n - 1)) (sym same) }

  carried : KeptOn enters_none start before w v i → InHand enters_none start before w i → InHand enters_none start now v i
  carried = hand_stays enters_none start before now w v i inert (q_now.near.live.more.given.laws.hands i l_now calm_now) (counts_at v h_now.sound.stands)

  abbrev Now : Type 0
  Now = (own_of v i ≤ zero_of v) × (zero_of v ≡ own_of v i → Stays start now v i)

  abbrev Then : Type 0
  Then = (own_of w i ≤ zero_of w) × (zero_of w ≡ own_of w i → Stays start before w i)

  -- a turn that leaves the target
  by_self : SameBus i w v → v.target ≡ w.target → Then → Now
  by_self bus same k =
      let first = k.0 in
      let zero = bus.zero in
      let own = bus.own in (
        omega (arith, first, zero, own),
        λ together.
            let f = k.1 (sym bus.zero ∙ (together ∙ bus.own)) in
            record {
              latest = latest_on bus.id (λ place login there live of. sym (ap (λ (m : NodeState). place_at m.logins.places place) same) ∙ there) f.latest;
              hand = carried (λ b kept op is source orb. kept op (ap (λ (m : NodeState). m.manager.operation) (sym same) ∙ is) (source ∙ bus.id) orb) f.hand;
            },
      )

  -- the initiator had given up before
  given : HasGivenUp before i → TurnOf i w (base_of g) v → Now
  given up (by_own bus same call away) = by_self bus same (p few i l calm up serial named)
  given up (by_sight y same away) = two_ways (is_stuck_seat (initiator_at v i).seat) gave_now.stuck y.reset.free
  given up (by_clearing c same told) =
      let k = p few i l calm up serial named in
      let first = k.0 in
      let later_one = c.later in
      let own = c.own in
      (omega (arith, first, later_one, own), λ together. absurd (omega (arith, first, later_one, own, together)))
  given up (by_target bus same call) =
      let k = p few i l calm up serial named in
      let first = k.0 in
      let zero = bus.zero in
      let own = bus.own in (
        omega (arith, first, zero, own),
        λ together.
            let was : zero_of w ≡ own_of w i = sym bus.zero ∙ (together ∙ bus.own) in
            let f = k.1 was in
            let placed = (placed_turns units ready start past s later t lines more has g h h_now q.near.live q_now.near.live q.near.alive i l (calm_now, inr few_now) was bus (call_told units ready has start i call)).placed in
            record {
              latest = latest_on bus.id (call_stood enters_none units ready has start w h q.near i l calm was placed f.hand untrue untrue call) f.latest;
              hand = carried (λ b kept op is source orb. call_keeps enters_none units ready has start w h q.near i l calm was placed f.hand b kept call op is (source ∙ bus.id) orb) f.hand;
            },
      )

  gave_then : initiator_at v i ≡ initiator_at w i → HasGivenUp before i
  gave_then same = let c = q.near.live.known.cored i l in given_up c.ready before w i c.cored (subst (λ (y : InitiatorState). GaveUp y.operation y.seat) same gave_now)

  -- it had not
  stood_in : (number : ℕ) × (number_in (stand_of (initiator_at w i).seat) ≡ Some number)
  stood_in =
      let n : IsNamed before i serial = (q.near.pointers i l).named serial named in
      seat_in (initiator_at w i).seat ((q.near.agents i l).seated (q.near.unrefused (inr few) i l calm) (ap is_some n.present))

  fresh : (HasGivenUp before i → ⊥) → TurnOf i w (base_of g) v → Now
  fresh up (by_own bus same call away) =
      let x = stood_in in
      by_self bus same (
        low ((q.near.alive i l).lives.seen x.0 x.1),
        λ together.
            let own_then = wire_generation w h.sound.stands (suc i) (let b = l in omega (arith, b)) in
            record {
              latest = seats_latest units ready has start w h q few i l calm up x.0 x.1 together;
              hand = quiet_hand units ready has start w h q.near few i l calm up enters_none (mine_none (stand_of (initiator_at w i).seat) x.0 x.1) (wire_generation w h.sound.stands 0 (omega arith) ∙ (together ∙ sym own_then));
            },
      )
    where
      low : GaveUpOf w i ⊎ (own_of w i ≤ zero_of w) → own_of w i ≤ zero_of w
      low (inl y) = absurd (let c = q.near.live.known.cored i l in up (given_up c.ready before w i c.cored y))
      low (inr y) = y
  fresh up (by_sight y same away) = two_ways (is_stuck_seat (initiator_at v i).seat) gave_now.stuck y.reset.free
  fresh up (by_clearing c same told) = absurd (up (gave_then same))
  fresh up (by_target bus same call) = absurd (up (gave_then same))

  kept_given : Now
  kept_given = by (is_stuck_seat (initiator_at w i).seat) refl (has_one (initiator_at w i).operation) refl
    where
      as_given : GaveUpOf w i → HasGivenUp before i
      as_given y = let c = q.near.live.known.cored i l in given_up c.ready before w i c.cored y

      as_gave : HasGivenUp before i → GaveUpOf w i
      as_gave y = let c = q.near.live.known.cored i l in gave_up c.ready before w i c.cored y

      by : (b : Bool) → is_stuck_seat (initiator_at w i).seat ≡ b → (c : Bool) → has_one (initiator_at w i).operation ≡ c → Now
      by true e false f = given (as_given (record { stuck = e; none = f })) turned
      by true e true f = fresh (λ y. two_ways (has_one (initiator_at w i).operation) f (as_gave y).none) turned
      by false e c f = fresh (λ y. two_ways (is_stuck_seat (initiator_at w i).seat) (as_gave y).stuck e) turned

-- ---- of every run
given_kept : (units ready : ℕ) → 0 < units → (start : List Disk) → Keeps units ready start (Kit start) (GivenLatest start)
given_kept units ready has start past s later t lines more g h h_now q q_now p few i l calm up serial names = kept_given units ready has start past s later t lines more g h h_now q q_now p few i l calm up serial names

no_pointer : {serial : ℕ} (b : Bool) (i : ℕ) → (cond b (ready_host i) new_host).pointer ≡ Some serial → ⊥
no_pointer {serial} true i e = none_is serial e
no_pointer {serial} false i e = none_is serial e

first_given : (line : ℕ) (run : Run) → GivenLatest run.start.disks (moments_behind line run []) (beginning run).world
first_given line run _ i l own up serial names = absurd (no_pointer (run.ready && nat_lt i run.initiators) i names)

pub given_everywhere : EveryPlace GivenLatest
given_everywhere = record {
  after_lines = λ line run r has small size so_far. at_lines Kit (GivenLatest run.start.disks) kits line run r.few has small size (given_kept run.units (ready_logins run.initiators run.ready) has run.start.disks) (first_given line run) r so_far;
  between = λ line run r has small size next most told m so_far.
      at_between Kit (GivenLatest run.start.disks) kits line run r.few has small size (given_kept run.units (ready_logins run.initiators run.ready) has run.start.disks) (first_given line run) r next most told m so_far;
}
