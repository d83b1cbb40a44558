-- The two ends of the management go together at a turn in which the target is called: by what is known of each moment of the turn, and of the ORBs that the
-- target reads.
use Rattle.sbp_world.proofs.Words.Std.{arith, ◌≡◌, ◌∙◌, refl, sym, ap, subst, ◌⊎◌, inl, inr, ℕ, suc, ◌^◌, ◌<◌, Bool, true, List, ◌++◌, map, length, Some}
use Rattle.sbp_world.proofs.Words.Wire.{LabelParts, Packet, judging_step, of_response, Sent, Note, Moment, said, terms}
use Rattle.sbp_world.proofs.Words.Target.{Table, Managed, Disk, answer_in}
use Rattle.sbp_world.proofs.Words.Initiator.{start_of, management_orb, InitiatorState}
use Rattle.sbp_world.proofs.Words.Laws.{Underway, host_at, is_management, id_for, place_bytes, place_held, target_at}
use Rattle.sbp_world.proofs.Words.World.{more_deliveries, Scene, WorldState, initiator_at, IsAsked, IsInAPlace, IsHandling, IsManaged, IsRest, IsCalm, IsActive, IsTaken, IsTold, underway_orb}
use Rattle.bus_memory.specs.declared.window.Window.TheVariants as windows
use Rattle.sbp_world.proofs.Hosts.Hosted.{Cored}
use Rattle.mgmt_agent.specs.Machine.{Machine}
use Rattle.sbp_target.specs.declared.purpose.Purpose.TheVariants as purposes
use Rattle.sbp_world.proofs.Agents.Management.Holding.{Holding, known_id}
use Rattle.sbp_world.proofs.Agents.Management.Still.{hist}
use Rattle.sbp_world.proofs.Lists.Courses.{Goes, by_delivery, by_end, by_line, by_start}
use Rattle.sbp_world.proofs.Lists.KeptBrings.{brings}
use Rattle.sbp_world.proofs.Lists.LiveCalled.{Begins, Waited, not_begun, rest_on, taken_on, told_before, told_now, waited}
use Rattle.sbp_world.proofs.Lists.LiveHandled.{handling}
use Rattle.sbp_world.proofs.Lists.LiveHelps.{Given, ToTarget}
use Rattle.sbp_world.proofs.Lists.LiveLeads.{calms_self, hands_before, line_manager}
use Rattle.sbp_world.proofs.Lists.LiveReplies.{IsDecidedOn}
use Rattle.sbp_world.proofs.Lists.LiveRuns.{With, base_of}
use Rattle.sbp_world.proofs.Lists.LiveSteps.{Comes, id_in, own_of, zero_of}
use Rattle.sbp_world.proofs.Lists.LiveTargets.{IsWrittenNow}
use Rattle.sbp_world.proofs.Lists.LiveTold.{TargetTold}
use Rattle.sbp_world.proofs.Lists.LiveTurns.{SameBus}
use Rattle.sbp_world.proofs.Lists.ManageFirsts.{line_first, same_goes}
use Rattle.sbp_world.proofs.Lists.ManageMoments.{Hands, line_calm}
use Rattle.sbp_world.proofs.Common.{said_split}

-- ---- the notes of a turn

-- what stands behind the notes that there were
pub told_is : (base fresh : List Note) (t : TargetTold base fresh) (later : List Moment) → map said fresh ++ later ≡ map said t.sends ++ (map said t.told ++ (map said t.first ++ (map said base ++ later)))
told_is base fresh t later =
    ap (λ (ns : List Note). map said ns ++ later) t.is
    ∙ said_split t.sends (t.told ++ (t.first ++ base)) later
    ∙ ap (λ ms. map said t.sends ++ ms) (said_split t.told (t.first ++ base) later ∙ ap (λ ms. map said t.told ++ ms) (said_split t.first base later))

-- a turn begins where the one before it ended, or with its line
pub turn_begins : (start : List Disk) (i : ℕ) (past : List Moment) (s : Scene) (later : List Moment) (t : Scene) (g : Goes past s later t) → Hands start i (map said (base_of g) ++ later) → Begins start (hist past s.world) (map said (base_of g) ++ later) i
turn_begins start i past s later t (by_line past0 s0 line event told one fit may) h = record {
  calm = line_calm start line event (hist past s.world) i h.0;
  manager = line_manager start line event (hist past s.world);
  outgoing = refl;
  host = line_first line event (hist past s.world) i;
}
turn_begins start i past s later t (by_start past0 s0 line most) h = record {
  calm = line_calm start line (more_deliveries most) (hist past s.world) i h.0;
  manager = line_manager start line (more_deliveries most) (hist past s.world);
  outgoing = refl;
  host = line_first line (more_deliveries most) (hist past s.world) i;
}
turn_begins start i past s later t (by_delivery past0 s0 one may no_acts) h =
    record { calm = calms_self start (hist past s.world) i; manager = refl; outgoing = refl; host = same_goes (host_at (hist past s.world) i) (host_at (hist past s.world) i) refl }
turn_begins start i past s later t (by_end past0 s0 done) h =
    record { calm = calms_self start (hist past s.world) i; manager = refl; outgoing = refl; host = same_goes (host_at (hist past s.world) i) (host_at (hist past s.world) i) refl }

-- ---- what is known of the ORBs of an initiator as the target is called

pub record HasOrbs (base : List Note) (before : List Moment) (w v : WorldState) (i : ℕ) : Type 0 where
  -- the target's operation is of a place of the initiator, and so is one that it starts
  pub placed : (op : Managed) → w.target.manager.operation ≡ Some op → op.source ≡ id_in w i → IsInAPlace op
  pub asked : (serial : ℕ) (sent : Sent) → Comes w base v serial sent → (op : Managed) → IsAsked w.target sent.generation sent.bytes op → op.source ≡ id_in w i → IsInAPlace op
  -- what it decides on is the ORB in that place
  pub brings : (serial : ℕ) (sent : Sent) → Comes w base v serial sent → (p : Packet) (label : LabelParts) → (judging_step w.target.layer sent.generation sent.bytes).0 ≡ of_response p label (Some purposes.Management) → (left : Table) (d : IsDecidedOn w.target.manager w.target.logins w.target.keys (answer_in p) left) → d.was.source ≡ id_in w i → (underway : Underway) → (host_at before i).operation ≡ Some underway → is_management underway.operation ≡ true → d.was.orb ≡ start_of (windows.Management underway.place) → d.on.orb ≡ management_orb (place_bytes (place_held before i underway.place))
  pub short : (underway : Underway) → (host_at before i).operation ≡ Some underway → is_management underway.operation ≡ true → (underway_orb before i underway).subject < 2 ^ 16

-- ---- a turn of the target

module _ (units ready : ℕ) (start : List Disk) (past : List Moment) (s : Scene) (later : List Moment) (t : Scene) {lines more : ℕ} (g : Goes past s later t) (h : Holding units ready start past lines s.world) (h_now : Holding units ready start later more t.world) (i : ℕ) (inside : i < length s.world.initiators) (within : i < length t.world.initiators) where
  abbrev w : WorldState
  w = s.world

  abbrev v : WorldState
  v = t.world

  abbrev before : List Moment
  before = hist past w

  abbrev now : List Moment
  now = hist later v

  abbrev base : List Moment
  base = map said (base_of g) ++ later

  module _ (hands : Hands start i now) (managed : IsManaged start before i) (is_ready later_ready : Bool) (cored : Cored is_ready before i (initiator_at w i)) (cored_now : Cored later_ready now i (initiator_at v i)) (bus : SameBus i w v) (same : initiator_at v i ≡ initiator_at w i) (together : zero_of w ≡ own_of w i) (told : TargetTold (base_of g) v.fresh) where
    abbrev N : List Moment
    N = map said told.sends ++ (map said told.told ++ (map said told.first ++ base))

    now_is : now ≡ N
    now_is = told_is (base_of g) v.fresh told later

    hands_there : Hands start i N
    hands_there = subst (λ ms. Hands start i ms) now_is hands

    begins : Begins start before base i
    begins =
        turn_begins start i past s later t g
        (hands_before start i told.first base (hands_before start i told.told (map said told.first ++ base) (hands_before start i told.sends (map said told.told ++ (map said told.first ++ base)) hands_there)))

    cored_there : Cored later_ready N i (initiator_at w i)
    cored_there = subst (λ ms. Cored later_ready ms i (initiator_at w i)) now_is (subst (λ (x : InitiatorState). Cored later_ready now i x) same cored_now)

    on : IsTaken start before i → IsTaken start now i
    on taken =
        subst (λ ms. IsTaken start ms i) (sym now_is)
        (taken_on start before base i begins told.sends told.told told.first told.are_sent told.are_told told.one hands_there (initiator_at w i) is_ready later_ready cored cored_there managed taken)

    -- the target has by the history what it has
    has : (op : Managed) → w.target.manager.operation ≡ Some op → (target_at start before).manager.operation ≡ Some op
    has op e = ap (λ (m : Machine). m.operation) h.at.agrees.manager ∙ e

    rests : (op : Managed) → w.target.manager.operation ≡ Some op → IsRest start before i → IsRest start now i
    rests op e rest =
        subst (λ ms. IsRest start ms i) (sym now_is)
        (rest_on start before base i begins told.sends told.told told.first told.are_sent told.are_told told.one hands_there op (has op e) rest)

    manager_there : (target_at start N).manager ≡ v.target.manager
    manager_there = ap (λ ms. (target_at start ms).manager) (sym now_is) ∙ h_now.at.agrees.manager

    id_there : id_for (terms N) 0 (suc i) ≡ id_in w i
    id_there = ap (λ ms. id_for (terms ms) 0 (suc i)) (sym now_is) ∙ known_id v h_now.sound.stands (suc i) (omega (arith, within)) ∙ bus.id

    waits : (orb : ℕ) (bytes : List ℕ) → IsTold start now i orb bytes → IsTold start before i orb bytes ⊎ IsWrittenNow (IsActive start now i) (id_in w i) v.target.manager orb bytes
    waits orb bytes x = by (waited start before base i begins told.sends told.told told.first told.are_sent told.are_told told.one hands_there orb bytes (subst (λ ms. IsTold start ms i orb bytes) now_is x))
      where
        by : Waited start before base i begins told.sends told.told told.first told.are_sent told.are_told told.one hands_there orb bytes → IsTold start before i orb bytes ⊎ IsWrittenNow (IsActive start now i) (id_in w i) v.target.manager orb bytes
        by (told_before old) = inl old
        by (told_now serial place telling n orb_is bytes_are) = inr (record {
          op = n.op;
          is = ap (λ (m : Machine). m.operation) (sym manager_there) ∙ n.is;
          own = n.source ∙ id_there;
          served = λ rest. rest.silent x.serial x.place x.telling;
          phase = n.status;
          orb_is = orb_is ∙ sym n.orb;
          bytes_are = bytes_are ∙ n.bytes ∙ ap (λ (m : Machine). m.outgoing) manager_there;
        })

    module _ (orbs : HasOrbs (base_of g) before w v i) where
      fresh : (serial : ℕ) (sent : Sent) → Comes w (base_of g) v serial sent → (op : Managed) → v.target.manager.operation ≡ Some op → IsAsked w.target sent.generation sent.bytes op → op.source ≡ id_in w i → IsTaken start before i → ⊥
      fresh serial sent comes op there a source taken =
          let x = orbs.asked serial sent comes op a source in
          let together_now : zero_of v ≡ own_of v i = bus.zero ∙ together ∙ sym bus.own in
          let handled : IsHandling start now i x.place op = handling units ready start v h_now i within together_now op there (source ∙ sym bus.id) x.place x.small x.orb in
          not_begun start before base i begins told.sends told.told told.first told.are_sent told.are_told told.one hands_there managed
          (ap (λ (m : Machine). m.operation) h.at.agrees.manager ∙ a.idle) x.place op (subst (λ ms. IsHandling start ms i x.place op) now_is handled) taken

      pub to_target : ToTarget start (base_of g) before now w v i
      to_target = record {
        on = on;
        back = λ op e source rest. rests op e rest;
        waits = waits;
        placed = orbs.placed;
        begins = fresh;
        brings = orbs.brings;
        short = orbs.short;
      }

-- ---- by what laws give

-- the target's operation is of a place of the initiator, and so is one that it starts in this turn
pub record ArePlaced (base : List Note) (w v : WorldState) (i : ℕ) : Type 0 where
  pub placed : (op : Managed) → w.target.manager.operation ≡ Some op → op.source ≡ id_in w i → IsInAPlace op
  pub asked : (serial : ℕ) (sent : Sent) → Comes w base v serial sent → (op : Managed) → IsAsked w.target sent.generation sent.bytes op → op.source ≡ id_in w i → IsInAPlace op

module _ (units ready : ℕ) (more_units : 0 < units) (start : List Disk) {past : List Moment} {lines : ℕ} (w v : WorldState) (h : Holding units ready start past lines w) (q : With Given start (hist past w) w) (i : ℕ) (inside : i < length w.initiators) (calm : IsCalm (hist past w) i) (together : zero_of w ≡ own_of w i) (base : List Note) (x : ArePlaced base w v i) where
  pub has_orbs : HasOrbs base (hist past w) w v i
  has_orbs = record {
    placed = x.placed;
    asked = x.asked;
    brings = λ serial sent comes p label f left d source underway is manages orb.
        brings units ready more_units start w h i inside calm (q.more.laws.none i inside) (q.more.laws.in_place i inside calm) (q.more.kept i inside calm) together serial sent comes.found comes.to_is p label f left d source underway is manages orb;
    short = λ underway is manages. q.more.laws.short i inside underway is;
  }
