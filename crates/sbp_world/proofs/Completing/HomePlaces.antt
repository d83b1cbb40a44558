-- What is in hand of an initiator that has not given up, while its session is in, or on its way out: nothing, or an operation whose ORB is no other than is known of such a session. While a write of ORB_POINTER of it
-- waits, that is about no login; and the target has its login.
use Rattle.sbp_world.proofs.Words.Std.{◌≡◌, ◌∙◌, refl, sym, ap, subst, inl, inr, ◌⊎◌, ◌<◌, ◌≤◌, ℕ, suc, Bool, true, false, is_some, List, [], length, Option, Some, None}
use Rattle.sbp_world.proofs.Words.Wire.{Moment, SerialsCount, terms}
use Rattle.sbp_world.proofs.Words.Target.{Disk, Function, Managed, function_of}
use Rattle.sbp_world.proofs.Words.Initiator.{ManagementOrb, start_of}
use Rattle.sbp_world.proofs.Words.Laws.{Underway, cuts_list, host_at, id_for, is_management, is_stuck, running_operation}
use Rattle.sbp_world.proofs.Words.World.{Core, FewLogins, HasGivenUp, IsCalm, IsFree, IsManaged, IsTameOrFew, KeepsIn, PointersAt, WorldState, initiator_at, operation_by, orb_in_place}
use Rattle.bus_memory.specs.declared.window.Window.TheVariants as windows
use Rattle.sbp_world.specs.Completing.PresentHomes.{AreBasedThere, HasHome, WaitsFor}
use Rattle.sbp_world.specs.Lists.PlaceReads.{BringPlaces}
use Rattle.sbp_world.specs.Pointers.Bases.{AreAtAgent, AreUnrefused}
use Rattle.sbp_world.specs.Pointers.Pointers.{IsPointing}
use Rattle.sbp_world.proofs.Agents.Management.Holding.{Holding}
use Rattle.sbp_world.proofs.Agents.Management.Still.{hist}
use Rattle.sbp_world.proofs.Completing.HomeMoments.{Busied, Inertly, all_busied, all_stay}
use Rattle.sbp_world.proofs.Completing.PresentLive.{AllStood, by_seat, exit_cuts, home}
use Rattle.sbp_world.proofs.Lists.KeptTurns.{id_is, operation_is}
use Rattle.sbp_world.proofs.Lists.LiveDecides.{keeps_logins}
use Rattle.sbp_world.proofs.Lists.LiveJoined.{Held}
use Rattle.sbp_world.proofs.Lists.LiveLaws.{given_up}
use Rattle.sbp_world.proofs.Lists.LiveMine.{mine_at}
use Rattle.sbp_world.proofs.Lists.LiveOwn.{is_exit, two_ways}
use Rattle.sbp_world.proofs.Lists.LiveRuns.{AllLive, With}
use Rattle.sbp_world.proofs.Lists.LiveStandings.{inside, leaves, number_in, stand_of}
use Rattle.sbp_world.proofs.Lists.LiveSteps.{GaveUpOf, id_in, own_of, zero_of}
use Rattle.sbp_world.proofs.Lists.LiveTargets.{IsMine}
use Rattle.sbp_world.proofs.Lists.ManageMoments.{Hands}
use Rattle.sbp_world.proofs.Lists.ManageTerms.{same_some}
use Rattle.sbp_world.proofs.Common.{none_is}

-- ---- what is known of a place
pub record Near (start : List Disk) (past : List Moment) (w : WorldState) : Type 0 where
  pub live : With Held start past w
  pub alive : AllLive Held start past w
  pub stood : AllStood start past w
  pub pointers : (i : ℕ) → i < length w.initiators → PointersAt past i
  pub agents : (i : ℕ) → i < length w.initiators → AreAtAgent past i (initiator_at w i)
  pub unrefused : IsTameOrFew past → (i : ℕ) → i < length w.initiators → IsCalm past i → AreUnrefused past i
  pub places : (i : ℕ) → i < length w.initiators → BringPlaces past i
  pub based : FewLogins past → AreBasedThere past w

-- ---- what is in hand
abbrev pub KeepsAt : WorldState → List Moment → (i place : ℕ) → Type 0
KeepsAt w past i place = (op : Managed) → w.target.manager.operation ≡ Some op → op.source ≡ id_in w i → op.orb ≡ start_of (windows.Management place) → KeepsIn op.phase (orb_in_place past i place)

pub data InHand (quiet : Option Function → Bool) (start : List Disk) (past : List Moment) (w : WorldState) (i : ℕ) : Type 0 where
  free : IsFree start past i → InHand quiet start past w i
  busied : (b : Busied quiet start past i) → KeepsAt w past i b.place → InHand quiet start past w i

-- ---- it stays so
-- the target keeps the ORB
abbrev pub KeptOn : (Option Function → Bool) → List Disk → List Moment → (w v : WorldState) → ℕ → Type 0
KeptOn quiet start before w v i = (b : Busied quiet start before i) → KeepsAt w before i b.place → (op : Managed) → v.target.manager.operation ≡ Some op → op.source ≡ id_in v i → op.orb ≡ start_of (windows.Management b.place) → KeepsIn op.phase (orb_in_place before i b.place)

pub hand_stays : (quiet : Option Function → Bool) (start : List Disk) (before now : List Moment) (w v : WorldState) (i : ℕ) → Inertly i before now → Hands start i now → SerialsCount now → KeptOn quiet start before w v i → InHand quiet start before w i → InHand quiet start now v i
hand_stays quiet start before now w v i inert hands counts kept (free f) = free ((all_stay start i before now inert hands).free f)
hand_stays quiet start before now w v i inert hands counts kept (busied b k) =
    let y = all_busied quiet start i before now inert hands counts b in
    busied y.now_busied (λ op is source orb. subst (KeepsIn op.phase) (sym y.orb_is) (kept b k op is source (orb ∙ ap (λ m. start_of (windows.Management m)) y.place_is)))

-- ---- at a place
pub record IsInside (w : WorldState) (i : ℕ) : Type 0 where
  pub number : ℕ
  pub is : stand_of (initiator_at w i).seat ≡ inside number

module _ (units ready : ℕ) (has : 0 < units) (start : List Disk) {past : List Moment} {lines : ℕ} (w : WorldState) (h : Holding units ready start past lines w) (q : Near start (hist past w) w) (few : FewLogins (hist past w)) (i : ℕ) (l : i < length w.initiators) (calm : IsCalm (hist past w) i) (up : HasGivenUp (hist past w) i → ⊥) where
  abbrev before : List Moment
  before = hist past w

  beside : IsTameOrFew before
  beside = inr few

  not_up : GaveUpOf w i → ⊥
  not_up g = let c = q.live.known.cored i l in up (given_up c.ready before w i c.cored g)

  module _ (n serial : ℕ) (pointing : IsPointing before i n serial) where
    stood_inside : IsInside w i
    stood_inside = by_seat (initiator_at w i).seat ((q.agents i l).seated (q.unrefused beside i l calm) (ap is_some pointing.present)) leaving (λ response carries is_in. record { number = response.login; is = is_in })
      where
        leaving : (number : ℕ) → stand_of (initiator_at w i).seat ≡ leaves number → IsInside w i
        leaving number e = by ((q.stood i l).going number e)
          where
            by : (is_exit (initiator_at w i).operation ≡ true) ⊎ HasGivenUp before i → IsInside w i
            by (inl exits) =
                two_ways (cuts_list (running_operation (host_at before i).operation))
                (exit_cuts (host_at before i).operation (initiator_at w i).operation (ap (λ (c : Core). operation_by c.work) (q.stood i l).cored.cored.core) exits) pointing.uncut
            by (inr given) = absurd (up given)

    -- it is not ahead of the target
    pub not_ahead : own_of w i ≤ zero_of w
    not_ahead = by ((q.alive i l).lives.seen stood_inside.number (ap number_in stood_inside.is))
      where
        by : GaveUpOf w i ⊎ (own_of w i ≤ zero_of w) → own_of w i ≤ zero_of w
        by (inl g) = absurd (not_up g)
        by (inr x) = x

  -- where such a function is quiet
  module _ (quiet : Option Function → Bool) (fits : (orb : ManagementOrb) → IsMine (stand_of (initiator_at w i).seat) orb → quiet (function_of orb.function) ≡ true) (same : (terms before).generation 0 ≡ (terms before).generation (suc i)) where
    managed : IsManaged start before i
    managed = q.live.more.given.managed i l calm

    free_by : ((underway : Underway) → (host_at before i).operation ≡ Some underway → is_management underway.operation ≡ false) → (b : Bool) → is_stuck (host_at before i).session ≡ b → InHand quiet start before w i
    free_by none true e = absurd (up (record { stuck = e; none = none }))
    free_by none false e = free (managed.free none e)

    busy_by : (underway : Underway) → (host_at before i).operation ≡ Some underway → is_management underway.operation ≡ true → InHand quiet start before w i
    busy_by underway is manages =
        let laws = q.live.more.given.laws in
        let lasts = laws.lasts i l in
        let own = lasts.each [] before refl underway is in
        let c = q.live.known.cored i l in
        let lives = (q.alive i l).lives in
        busied (record {
          place = underway.place;
          small = own.small;
          write = underway.first;
          busy = managed.busy underway is manages;
          sent = own.sent;
          keeps = fits (orb_in_place before i underway.place) (mine_at c.ready before i (initiator_at w i) c.cored lives.fit lives.aims not_up (q.live.more.given.login i l) underway is manages own (laws.short i l underway is));
          since = λ later earlier e less. (lasts.was later earlier e underway is less).places underway.place;
          behind = λ op read o phase orb asks to. (laws.in_place i l calm).behind read underway (record { op = op; operation = o; phase = phase; manages = asks; has = is; orb = orb }) manages same to;
        }) (λ op o source orb. (q.live.more.given.kept i l calm).keeps op underway (operation_is units ready has start w h i l ∙ o) (source ∙ sym (id_is units ready has start w h i l)) same is manages orb)

    pub quiet_hand : InHand quiet start before w i
    quiet_hand = by (host_at before i).operation refl
      where
        by : (o : Option Underway) → (host_at before i).operation ≡ o → InHand quiet start before w i
        by None e = free_by (λ underway is. none_is underway (sym e ∙ is)) (is_stuck (host_at before i).session) refl
        by (Some underway) e = one (is_management underway.operation) refl
          where
            one : (b : Bool) → is_management underway.operation ≡ b → InHand quiet start before w i
            one true f = busy_by underway e f
            one false f = free_by (λ other is. let same_one = same_some underway other (sym e ∙ is) in ap (λ (u : Underway). is_management u.operation) (sym same_one) ∙ f) (is_stuck (host_at before i).session) refl

  -- while a write of ORB_POINTER waits
  pub in_hand : (n serial : ℕ) → IsPointing before i n serial → (terms before).generation 0 ≡ (terms before).generation (suc i) → InHand keeps_logins start before w i
  in_hand n serial pointing = let x = stood_inside n serial pointing in quiet_hand keeps_logins (λ orb mine. mine.in_keeps x.number x.is)

  -- and the target has its login
  pub has_home : (n serial : ℕ) (x : WaitsFor before i n serial) → HasHome w (id_for (terms before) 0 (suc i)) x.pointer.base
  has_home n serial x =
      home before w (q.based few) i n serial l (calm, beside) (record { stood = q.stood i l; pointers = q.pointers i l; agents = q.agents i l; unrefused = q.unrefused beside i l calm }) x (λ given. absurd (up given))
