-- The logins of the node of an initiator that injected no packets, with what a status of 00 grants of its logins and reconnects, at each turn of a run in which no initiator
-- injected packets, or few logins were given.
use Rattle.sbp_world.proofs.Words.Std.{◌≡◌, refl, sym, ap, subst, ℕ, ◌<◌, true, false, List, length, Some, None}
use Rattle.sbp_world.proofs.Words.Wire.{LabelParts, Packet, judging_step, of_response, Sent, Note, Moment, terms}
use Rattle.sbp_world.proofs.Words.Target.{Managed, Disk, answer_in}
use Rattle.sbp_world.proofs.Words.Initiator.{LoginResponse, login_response, write_failure, Running, response_of, carried, is_stuck_seat}
use Rattle.sbp_world.proofs.Words.Laws.{Underway, host_at, is_management, EachMoment}
use Rattle.sbp_world.proofs.Words.World.{AllOfTarget, Scene, WorldState, initiator_at, HoldsLogin, AreAsked, HasGivenUp, HasLogin, IsRest, IsCalm, IsCalmBeside, BufferSo, IsInBuffer, IsTaken, IsTold}
use Rattle.mgmt_agent.specs.declared.operation.Phase.TheVariants as phases
use Rattle.sbp_journal.specs.declared.operation.Operation.TheVariants as operations
use Rattle.sbp_target.specs.declared.purpose.Purpose.TheVariants as purposes
use Rattle.sbp_world.proofs.Wire.Starts.{laws_of}
use Rattle.sbp_world.proofs.Agents.Management.Holding.{Holding}
use Rattle.sbp_world.proofs.Agents.Management.Still.{hist}
use Rattle.sbp_world.proofs.Lists.Beside.{AreDone}
use Rattle.sbp_world.proofs.Lists.Courses.{Goes}
use Rattle.sbp_world.proofs.Lists.GrantedRuns.{AreGranted}
use Rattle.sbp_world.proofs.Lists.Judging.{counts_at}
use Rattle.sbp_world.proofs.Lists.LastReadRuns.{AreReadAt}
use Rattle.sbp_world.proofs.Lists.LiveHandled.{gave_up}
use Rattle.sbp_world.proofs.Lists.LiveHelps.{Given, ToTarget, helps_target}
use Rattle.sbp_world.proofs.Lists.LiveOurs.{own_carried, own_fresh}
use Rattle.sbp_world.proofs.Lists.LiveOwn.{not_up}
use Rattle.sbp_world.proofs.Lists.LivePends.{pends_now}
use Rattle.sbp_world.proofs.Lists.LiveRefusing.{AreManagedBy, refused}
use Rattle.sbp_world.proofs.Lists.LiveRuns.{AllLive, HelpedBy, IsCored, With, base_of, goes_size, goes_beside}
use Rattle.sbp_world.proofs.Lists.LiveSteps.{CarriedOf, Comes, GaveUpOf, HelpsOwn, id_in, own_of, zero_of}
use Rattle.sbp_world.proofs.Lists.LiveTaken.{fresh_rest, fresh_silent}
use Rattle.sbp_world.proofs.Lists.LiveTogether.{ArePlaced, has_orbs, to_target}
use Rattle.sbp_world.proofs.Lists.LiveTold.{TargetTold, TellsAway}
use Rattle.sbp_world.proofs.Lists.LiveTurns.{SameBus}
use Rattle.sbp_world.proofs.Lists.PlacedRuns.{ArePlacedAt, WroteAll}
use Rattle.sbp_world.proofs.Lists.ReplyRuns.{AreRepliedAt}

-- ---- what laws give at each place, and what is to be known of a turn

-- what the target wrote into response buffers, by what is known of the logins that were done
abbrev pub AreBuffersAt : List Disk → List Moment → WorldState → Type 0
AreBuffersAt start past w = (i : ℕ) → i < length w.initiators → AreDone start (length w.initiators) past i → EachMoment (BufferSo start i) past

-- and the responses of logins that were got stand in their buffers
abbrev pub AreStoredAt : List Disk → List Moment → WorldState → Type 0
AreStoredAt start past w = (i : ℕ) → i < length w.initiators → AreDone start (length w.initiators) past i → IsInBuffer start past i

pub record Held (start : List Disk) (past : List Moment) (w : WorldState) : Type 0 where
  pub given : Given start past w
  pub contents : AreAsked start past
  pub hand : AreManagedBy start past w
  pub wrote : WroteAll start past w
  pub placed : ArePlacedAt start past w
  pub holds : (i : ℕ) → i < length w.initiators → HoldsLogin past i (initiator_at w i)
  pub granted : AreGranted start past w
  pub sources : (i : ℕ) → i < length w.initiators → AllOfTarget past i
  pub replied : AreRepliedAt start past w
  pub buffers : AreBuffersAt start past w
  pub read : AreReadAt start past w
  pub stored : AreStoredAt start past w

pub as_given : {start : List Disk} {past : List Moment} {w : WorldState} → With Held start past w → With Given start past w
as_given q = record { known = q.known; more = q.more.given }

abbrev pub OfTurn : (List Disk → List Note → List Moment → List Moment → WorldState → WorldState → ℕ → Type 0) → Type 0
OfTurn T =
    (units ready : ℕ) (start : List Disk) (past : List Moment) (s : Scene) (later : List Moment) (t : Scene) (lines more : ℕ) → 0 < units → (g : Goes past s later t) → Holding units ready start past lines s.world → Holding units ready start later more t.world → With Held start (hist past s.world) s.world → With Held start (hist later t.world) t.world → AllLive Held start (hist past s.world) s.world → (i : ℕ) → i < length s.world.initiators → IsCalmBeside (hist later t.world) i → T start (base_of g) (hist past s.world) (hist later t.world) s.world t.world i

-- the target is called: its operation, and one that it starts, has its ORB in a place of the initiator
abbrev pub PlacedTurns : Type 0
PlacedTurns = OfTurn (λ start base before now w v i. zero_of w ≡ own_of w i → SameBus i w v → TargetTold base v.fresh → ArePlaced base w v i)

-- as the answer to the response of a login comes, that stands in the buffer of the initiator
pub record IsStored (start : List Disk) (base : List Note) (before : List Moment) (w v : WorldState) (i : ℕ) : Type 0 where
  pub stored : (serial : ℕ) (sent : Sent) → Comes w base v serial sent → (op : Managed) (fifo : ℕ) → w.target.manager.operation ≡ Some op → op.source ≡ id_in w i → IsTaken start before i → op.phase ≡ phases.Response fifo → (p : Packet) (label : LabelParts) → (judging_step w.target.layer sent.generation sent.bytes).0 ≡ of_response p label (Some purposes.Management) → write_failure (answer_in p) ≡ None → (running : Running) → (initiator_at w i).operation ≡ Some running → running.operation ≡ operations.Login → length w.target.manager.outgoing ≡ 16 → login_response (response_of running (initiator_at w i)) ≡ login_response w.target.manager.outgoing

abbrev pub StoredTurns : Type 0
StoredTurns = OfTurn (λ start base before now w v i. zero_of w ≡ own_of w i → SameBus i w v → TargetTold base v.fresh → IsStored start base before w v i)

-- the target is not called: the buffer stays while the status block is written, or waits
pub record KeepsBuffer (start : List Disk) (before : List Moment) (w v : WorldState) (i : ℕ) : Type 0 where
  pub status : zero_of w ≡ own_of w i → (op : Managed) → w.target.manager.operation ≡ Some op → op.source ≡ id_in w i → op.phase ≡ phases.Status → (running : Running) → (initiator_at v i).operation ≡ Some running → response_of running (initiator_at v i) ≡ response_of running (initiator_at w i)
  pub told : (orb : ℕ) (bytes : List ℕ) → IsTold start before i orb bytes → (running : Running) → (initiator_at v i).operation ≡ Some running → response_of running (initiator_at v i) ≡ response_of running (initiator_at w i)

abbrev pub BufferTurns : Type 0
BufferTurns = OfTurn (λ start base before now w v i. SameBus i w v → v.target ≡ w.target → TellsAway i w base v → (initiator_at v i).operation ≡ (initiator_at w i).operation → (GaveUpOf w i → ⊥) → KeepsBuffer start before w v i)

-- ---- a turn

module _ (units ready : ℕ) (start : List Disk) (past : List Moment) (s : Scene) (later : List Moment) (t : Scene) {lines more : ℕ} (has : 0 < units) (g : Goes past s later t) (h : Holding units ready start past lines s.world) (h_now : Holding units ready start later more t.world) (q : With Held start (hist past s.world) s.world) (q_now : With Held start (hist later t.world) t.world) (p : AllLive Held start (hist past s.world) s.world) (i : ℕ) (inside : i < length s.world.initiators) (beside : IsCalmBeside (hist later t.world) i) where
  abbrev pub w : WorldState
  w = s.world

  abbrev pub v : WorldState
  v = t.world

  abbrev pub before : List Moment
  before = hist past w

  abbrev pub now : List Moment
  now = hist later v

  pub within : i < length v.initiators
  within = subst (λ n. i < n) (sym (goes_size past s later t g)) inside

  pub was_beside : IsCalmBeside before i
  was_beside = goes_beside past s later t g i beside

  abbrev pub calm : IsCalm before i
  calm = was_beside.0

  abbrev pub c : IsCored before i (initiator_at w i)
  c = q.known.cored i inside

  abbrev pub c_now : IsCored now i (initiator_at v i)
  c_now = q_now.known.cored i within

  -- an operation begins: its write was not judged, so nothing is in hand
  module _ (none : (initiator_at w i).operation ≡ None) (free : is_stuck_seat (initiator_at v i).seat ≡ false) where
    unjudged : (underway : Underway) → (host_at now i).operation ≡ Some underway → is_management underway.operation ≡ true → (terms now).news underway.first ≡ 0
    unjudged underway is manages = own_fresh units ready start past s later t g h i inside c.cored (q_now.more.given.laws.lasts i within) none underway is

    not_given : HasGivenUp now i → ⊥
    not_given up = not_up (initiator_at v i).operation (initiator_at v i).seat free (gave_up c_now.ready now v i c_now.cored up)

    pub begun_rest : IsRest start now i
    begun_rest = fresh_rest start now i (q_now.more.given.managed i within beside.0) not_given unjudged

    pub begun_silent : (orb : ℕ) (bytes : List ℕ) → IsTold start now i orb bytes → ⊥
    begun_silent = fresh_silent start now i (q_now.more.given.managed i within beside.0) not_given unjudged

  -- ---- the target is called
  pub target_turn : PlacedTurns → zero_of w ≡ own_of w i → SameBus i w v → initiator_at v i ≡ initiator_at w i → TargetTold (base_of g) v.fresh → ToTarget start (base_of g) before now w v i
  target_turn placed was bus same told =
      let x = placed units ready start past s later t _ _ has g h h_now q q_now p i inside beside was bus told in
      to_target units ready start past s later t g h h_now i inside within (q_now.more.given.laws.hands i within beside.0) (q.more.given.managed i inside calm) c.ready c_now.ready c.cored c_now.cored bus same was told
      (has_orbs units ready has start w v h (as_given q) i inside calm was (base_of g) x)

  -- ---- the initiator is called, or another
  pub carried_on : TellsAway i w (base_of g) v → (initiator_at v i).operation ≡ (initiator_at w i).operation → CarriedOf start before now w i
  carried_on away same = own_carried units ready start past s later t g h i inside (q_now.more.given.laws.hands i within beside.0) away c.ready c_now.ready c.cored c_now.cored (q.more.given.managed i inside calm) same

  own_turn : zero_of w ≡ own_of w i → TellsAway i w (base_of g) v → HelpsOwn start (base_of g) before now w v i
  own_turn was away = record {
    carried = carried_on away;
    hearing = λ serial sent found to_is first.
        let hands = q_now.more.given.laws.hands i within beside.0 in
        let grants = (p i inside).grown.grants was_beside was in
        record {
          pend = λ running status is a.
              let x = pends_now units ready start past s later t g h i inside hands (counts_at w h.sound.stands) q.more.contents serial sent found to_is running status is first a in
              record { orb = x.orb; bytes = x.bytes; tells = x.tells; good = x.good };
          grant_in = λ running is a login.
              let x = pends_now units ready start past s later t g h i inside hands (counts_at w h.sound.stands) q.more.contents serial sent found to_is running 0 is first a in
              ((grants.told x.orb x.bytes x.tells (x.only refl)).logs_in running is login).has;
          grant_back = λ running is a reconnect own seat.
              let x = pends_now units ready start past s later t g h i inside hands (counts_at w h.sound.stands) q.more.contents serial sent found to_is running 0 is first a in
              let number : (host_at before i).login.login ≡ own.login = ap (λ (r : LoginResponse). r.login) (q.more.given.login i inside own (ap carried seat)) in
              subst (λ n. HasLogin w.target.logins.places (id_in w i) n) number ((grants.told x.orb x.bytes x.tells (x.only refl)).comes_back running is reconnect);
          refused = λ running is undone taken.
              refused units ready start g h i inside hands (laws_of later v h_now.sound.stands).judged (q.more.hand i inside) serial sent found to_is first running undone taken;
        };
    begun = λ running none is free stays active. active (begun_rest none stays);
    silent = λ running none is free stays orb bytes told. begun_silent none stays orb bytes told;
  }

pub helped : PlacedTurns → HelpedBy Held
helped placed units ready start past s later t lines more has g h h_now q q_now p i inside beside e was = record {
  target = λ bus same told up.
      helps_target units ready start s.world h (as_given q) i inside (goes_beside past s later t g i beside).0 (base_of g) (hist later t.world) t.world (p i inside).lives was up
      (target_turn units ready start past s later t has g h h_now q q_now p i inside beside placed was bus same told);
  own = λ bus same away. own_turn units ready start past s later t has g h h_now q q_now p i inside beside was away;
}
