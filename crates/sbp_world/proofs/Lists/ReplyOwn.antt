-- A turn in which the target is not called: while a response waits to be judged, the operation that its initiator has under way ends by nothing but with the session stuck.
use Rattle.sbp_world.proofs.Words.Std.{arith, ◌≡◌, ◌∙◌, refl, sym, ap, subst, ◌⊎◌, inl, inr, ℕ, suc, ◌<◌, Bool, true, false, List, ◌++◌, map, length, Option, Some, None}
use Rattle.sbp_world.proofs.Words.Wire.{SerialsCount, as_sending, Sent, found_sent, topology_at, empty_outbox, Moment, said, terms}
use Rattle.sbp_world.proofs.Words.Target.{Managed, Disk}
use Rattle.sbp_world.proofs.Words.Initiator.{Running, InitiatorState, receive_step, is_stuck_seat}
use Rattle.sbp_world.proofs.Words.Laws.{Underway, host_at, is_management, id_for, target_at}
use Rattle.sbp_world.proofs.Words.World.{Core, work_in, more_deliveries, Scene, WorldState, initiator_at, AreAsked, IsManaged, AreReplied, IsReplied, IsReplying, is_responding, IsTaken}
use Rattle.sbp_world.proofs.Hosts.Hosted.{Cored, expires_fit, hears_fit}
use Rattle.mgmt_agent.specs.Machine.{Machine}
use Rattle.sbp_world.proofs.Wire.Starts.{laws_of}
use Rattle.sbp_world.proofs.Agents.Management.Holding.{Holding, known_id, was_sent}
use Rattle.sbp_world.proofs.Agents.Management.Still.{hist}
use Rattle.sbp_world.proofs.Sessions.Turns.{wire_generation}
use Rattle.sbp_world.proofs.Lists.Courses.{Goes, by_delivery, by_end, by_line, by_start}
use Rattle.sbp_world.proofs.Lists.Judging.{counts_at}
use Rattle.sbp_world.proofs.Lists.LiveActs.{Acted, act_acts, begins, idle, moves}
use Rattle.sbp_world.proofs.Lists.LiveAway.{Over}
use Rattle.sbp_world.proofs.Lists.LiveOurs.{away_is, opened_over, over as turn_over, own_carried}
use Rattle.sbp_world.proofs.Lists.LiveOwn.{GaveUp, in_hand, not_up, up_like}
use Rattle.sbp_world.proofs.Lists.LivePends.{pends_now}
use Rattle.sbp_world.proofs.Lists.LiveRefusing.{IsManagedBy, refused}
use Rattle.sbp_world.proofs.Lists.LiveRuns.{base_of}
use Rattle.sbp_world.proofs.Lists.LiveSteps.{GaveUpOf}
use Rattle.sbp_world.proofs.Lists.LiveTold.{AwayFrom, HeardFirst, TellsAway}
use Rattle.sbp_world.proofs.Lists.LiveTurns.{IsSighted, OwnCall, SameBus, acts, hears, lapses, rests as rests_call}
use Rattle.sbp_world.proofs.Lists.ManageHears.{IsEndedBy, Never, by_conflict, by_status, hears_left, lapses_left}
use Rattle.sbp_world.proofs.Lists.ManageLeaves.{IsEnded, Left}
use Rattle.sbp_world.proofs.Lists.ManageMoments.{Hands}
use Rattle.sbp_world.proofs.Lists.ManageOffices.{office_at}
use Rattle.sbp_world.proofs.Lists.ManageOwn.{at_host}
use Rattle.sbp_world.proofs.Lists.ManageTerms.{none_is, same_some}
use Rattle.sbp_world.proofs.Lists.ManageYoung.{Young}
use Rattle.sbp_world.proofs.Lists.Replying.{IsSentFor, away_replying, away_sent_for, line_sent_for}
use Rattle.sbp_world.proofs.Lists.ReplyAway.{away_stays}
use Rattle.sbp_world.proofs.Lists.ReplyOffices.{Stays, gone, same as stays_same, stays_then}
use Rattle.sbp_world.proofs.Lists.ReplyTurns.{SameNode, begins_replying, begins_stays}
use Rattle.sbp_world.proofs.Lists.LiveDecides.{equals}
use Rattle.sbp_world.proofs.Lists.LiveCalled.{no_work}
use Rattle.sbp_world.proofs.Lists.LiveLeads.{hands_before as hands_behind}
use Rattle.sbp_world.proofs.Common.{untrue}

-- ---- the nodes are as they were
pub same_node : (units ready : ℕ) (start : List Disk) (past : List Moment) (s : Scene) (later : List Moment) (t : Scene) {lines more : ℕ} → Holding units ready start past lines s.world → Holding units ready start later more t.world → (i : ℕ) → i < length s.world.initiators → i < length t.world.initiators → SameBus i s.world t.world → SameNode (hist past s.world) (hist later t.world) i
same_node units ready start past s later t h h_now i inside within bus =
    let w = s.world in
    let v = t.world in
    record {
      zero = wire_generation v h_now.sound.stands 0 (omega arith) ∙ bus.zero ∙ sym (wire_generation w h.sound.stands 0 (omega arith));
      own = wire_generation v h_now.sound.stands (suc i) (omega (arith, within)) ∙ bus.own ∙ sym (wire_generation w h.sound.stands (suc i) (omega (arith, inside)));
      id = known_id v h_now.sound.stands (suc i) (omega (arith, within)) ∙ bus.id ∙ sym (known_id w h.sound.stands (suc i) (omega (arith, inside)));
    }

begins_sent_for : (start : List Disk) (past : List Moment) (s : Scene) (later : List Moment) (t : Scene) (g : Goes past s later t) (i : ℕ) → Hands start i (map said (base_of g) ++ later) → (serial generation : ℕ) → IsSentFor start (map said (base_of g) ++ later) i serial generation → IsSentFor start (hist past s.world) i serial generation
begins_sent_for start past s later t (by_line past0 s0 line event told one fit may) i k serial generation x = line_sent_for start i line event (hist past s.world) k.0 serial generation x
begins_sent_for start past s later t (by_start past0 s0 line most) i k serial generation x = line_sent_for start i line (more_deliveries most) (hist past s.world) k.0 serial generation x
begins_sent_for start past s later t (by_delivery past0 s0 one may no_acts) i k serial generation x = x
begins_sent_for start past s later t (by_end past0 s0 done) i k serial generation x = x

-- ---- who gave up has done so still
module _ (s t : InitiatorState) where
  left_up : (Why : Running → Type 0) → Left s Why t → GaveUp s.operation s.seat → GaveUp t.operation t.seat
  left_up Why l g = record { stuck = by (is_stuck_seat t.seat) refl; none = none l.operation }
    where
      by : (b : Bool) → is_stuck_seat t.seat ≡ b → is_stuck_seat t.seat ≡ true
      by true e = e
      by false e = untrue (sym (l.unstuck e) ∙ g.stuck)

      none : (t.operation ≡ s.operation) ⊎ IsEnded s Why t → in_hand t.operation ≡ false
      none (inl e) = ap in_hand e ∙ g.none
      none (inr e) = ap in_hand e.none

module _ (units ready : ℕ) (start : List Disk) (past : List Moment) (s : Scene) (later : List Moment) (t : Scene) {lines more : ℕ} (g : Goes past s later t) (h : Holding units ready start past lines s.world) (h_now : Holding units ready start later more t.world) (i : ℕ) (inside : i < length s.world.initiators) (within : i < length t.world.initiators) (hands : Hands start i (hist later t.world)) where
  abbrev w : WorldState
  w = s.world

  abbrev v : WorldState
  v = t.world

  abbrev before : List Moment
  before = hist past w

  abbrev now : List Moment
  now = hist later v

  abbrev B : List Moment
  B = map said (base_of g) ++ later

  abbrev S : InitiatorState
  S = initiator_at w i

  abbrev T : InitiatorState
  T = initiator_at v i

  abbrev own : ℕ
  own = (topology_at w.generations (suc i)).generation

  -- ---- the initiator is called, or another
  module _ (a : TellsAway i w (base_of g) v) where
    now_is : now ≡ map said a.more ++ B
    now_is = away_is a later

    counts : SerialsCount (map said a.more ++ B)
    counts = subst SerialsCount now_is (counts_at v h_now.sound.stands)

    hands_there : Hands start i (map said a.more ++ B)
    hands_there = subst (Hands start i) now_is hands

    hands_base : Hands start i B
    hands_base = hands_behind start i a.more B hands_there

    opens : Over start before B i
    opens = opened_over start i past s later t g hands_base

    replied_back : (serial : ℕ) → IsReplying start now i serial → IsReplying start before i serial
    replied_back serial x =
        begins_replying start past s later t g i hands_base serial
        (away_replying start i own w.store.kept a.more B counts a.away (opens.generation ∙ wire_generation w h.sound.stands (suc i) (omega (arith, inside))) serial (subst (λ ms. IsReplying start ms i serial) now_is x))

    office : Stays (office_at start before) (office_at start now)
    office =
        subst (λ ms. Stays (office_at start before) (office_at start ms)) (sym now_is)
        (stays_then (begins_stays start past s later t g)
        (away_stays start i own w.store.kept a.more B counts a.away (λ n x e. opens.sent n (as_sending x) (was_sent w h.sound.stands n x e)) hands_there))

    module _ (node : SameNode before now i) (is_ready later_ready : Bool) (cored : Cored is_ready before i S) (cored_now : Cored later_ready now i T) (managed : IsManaged start before i) (r : AreReplied start before i) where
      -- the operation goes on
      module _ (same : T.operation ≡ S.operation) (serial : ℕ) (k : IsReplied start before i serial) where
        waits_by : Stays (office_at start before) (office_at start now) → (op : Managed) → (target_at start now).manager.operation ≡ Some op → (terms now).generation 0 ≡ (terms now).generation (suc i) → op.source ≡ id_for (terms now) 0 (suc i) → (is_responding op.phase ≡ true) × ((target_at start now).manages ≡ Some serial)
        waits_by (stays_same e f q) op is together source =
            let x = k.waits op (ap (λ (m : Machine). m.operation) (sym e) ∙ is) (sym node.zero ∙ together ∙ node.own) (source ∙ node.id) in
            (x.0, f ∙ x.1)
        waits_by (gone e) op is together source = none_is op (sym e ∙ is)

        still : IsReplied start now i serial
        still = record {
          taken = (own_carried units ready start past s later t g h i inside hands a is_ready later_ready cored cored_now managed same).on k.taken;
          silent = λ other place x. k.silent other place ((turn_over units ready start past s later t g h i inside hands a).telling other place x).telling;
          waits = waits_by office;
        }

      pub replied_on : T.operation ≡ S.operation → AreReplied start now i
      replied_on same serial x = still same serial (r serial (replied_back serial x))

      -- one is under way while a response waits
      taken_one : (k : IsTaken start before i) → (found : Option Running) → S.operation ≡ found → (A : Type 0) → ((running : Running) → S.operation ≡ Some running → is_management running.operation ≡ true → A) → A
      taken_one k None e A f = absurd (no_work k.underway (host_at before i).operation k.is (ap (λ (x : Core). x.work) cored.core ∙ ap work_in e))
      taken_one k (Some running) e A f =
          let x = at_host before i S running cored.core e in
          let one = same_some x.u k.underway (sym x.is ∙ k.is) in
          f running e (ap is_management (sym x.same ∙ ap (λ (u : Underway). u.operation) one) ∙ k.manages)

      none_on : S.operation ≡ None → AreReplied start now i
      none_on e serial x =
          let k = r serial (replied_back serial x) in
          absurd (taken_one k.taken S.operation refl ⊥ (λ running is m. none_is running (sym e ∙ is)))

      ended_on : (Why : Running → Type 0) → IsEnded S Why T → is_stuck_seat T.seat ≡ false → ((running : Running) → S.operation ≡ Some running → Why running → (serial : ℕ) → IsReplied start before i serial → ⊥) → AreReplied start now i
      ended_on Why ended free why serial x =
          let k = r serial (replied_back serial x) in
          absurd (taken_one k.taken S.operation refl ⊥ (λ running is m. why running is (ended.why running is m free) serial k))

      left_on : (Why : Running → Type 0) → Left S Why T → ((running : Running) → S.operation ≡ Some running → Why running → (serial : ℕ) → IsReplied start before i serial → ⊥) → GaveUpOf v i ⊎ AreReplied start now i
      left_on Why l why = by l.operation
        where
          over : IsEnded S Why T → (b : Bool) → is_stuck_seat T.seat ≡ b → GaveUpOf v i ⊎ AreReplied start now i
          over ended true e = inl (record { stuck = e; none = ap in_hand ended.none })
          over ended false e = inr (ended_on Why ended e why)

          by : (T.operation ≡ S.operation) ⊎ IsEnded S Why T → GaveUpOf v i ⊎ AreReplied start now i
          by (inl same) = inr (replied_on same)
          by (inr ended) = over ended (is_stuck_seat T.seat) refl

      -- by a packet
      module _ (contents : AreAsked start before) (hand : IsManagedBy start before i S) (serial : ℕ) (sent : Sent) (found : found_sent serial w.store.kept ≡ Some sent) (to_is : sent.to ≡ suc i) (first : HeardFirst serial (receive_step sent.generation sent.bytes empty_outbox S).0 (base_of g) v.fresh) where
        no_end : (running : Running) → S.operation ≡ Some running → IsEndedBy S sent.generation sent.bytes running → (waiting : ℕ) → IsReplied start before i waiting → ⊥
        no_end running is (by_conflict p label act rcode e act_is ending conflict) waiting k =
            refused units ready start g h i inside hands (laws_of later v h_now.sound.stands).judged hand serial sent found to_is first running
            (record { packet = p; label = label; act = act; found = e; rcode = rcode; refused = ending; conflict = conflict; under_way = is; own = equals running.act act act_is }) k.taken
        no_end running is (by_status b) waiting k =
            let x = pends_now units ready start past s later t g h i inside hands (counts_at w h.sound.stands) contents serial sent found to_is running b.status is first
            (record { header = b.header; offset = b.offset; payload = b.payload; found = b.found; source = b.source; opens = b.is_open_fifo; block = b.block; read = b.read; kind = b.kind; under_way = is; names = b.names }) in
            k.silent x.tells.serial x.tells.place x.tells.telling

      pub own_on : AreAsked start before → IsManagedBy start before i S → OwnCall w i (base_of g) v.fresh T → GaveUpOf v i ⊎ AreReplied start now i
      own_on contents hand (rests_call e f) = inr (replied_on e)
      own_on contents hand (hears serial sent found to_is is first) =
          left_on (IsEndedBy S sent.generation sent.bytes) (subst (Left S (IsEndedBy S sent.generation sent.bytes)) (sym is) (hears_left S sent.generation sent.bytes (hears_fit is_ready i S cored.own.called sent.generation sent.bytes)))
          (no_end contents hand serial sent found to_is first)
      own_on contents hand (lapses label is) = left_on Never (subst (Left S Never) (sym is) (lapses_left S label (expires_fit is_ready i S cored.own.called label))) (λ running e never. absurd never)
      own_on contents hand (acts action is) = by (subst (λ (x : InitiatorState). Acted S x.operation x.seat) (sym is) (act_acts action S))
        where
          by : Acted S T.operation T.seat → GaveUpOf v i ⊎ AreReplied start now i
          by (idle e l) = inr (replied_on e)
          by (begins running none free e m x) = inr (none_on none)
          by (moves running none free e stuck sends) = inr (none_on none)

    -- who gave up
    pub own_up : (is_ready : Bool) → Cored is_ready before i S → OwnCall w i (base_of g) v.fresh T → GaveUpOf w i → GaveUpOf v i
    own_up is_ready cored (rests_call e f) up = record { stuck = ap is_stuck_seat f ∙ up.stuck; none = ap in_hand e ∙ up.none }
    own_up is_ready cored (hears serial sent found to_is is first) up =
        left_up S T (IsEndedBy S sent.generation sent.bytes) (subst (Left S (IsEndedBy S sent.generation sent.bytes)) (sym is) (hears_left S sent.generation sent.bytes (hears_fit is_ready i S cored.own.called sent.generation sent.bytes))) up
    own_up is_ready cored (lapses label is) up = left_up S T Never (subst (Left S Never) (sym is) (lapses_left S label (expires_fit is_ready i S cored.own.called label))) up
    own_up is_ready cored (acts action is) up = by (subst (λ (x : InitiatorState). Acted S x.operation x.seat) (sym is) (act_acts action S))
      where
        by : Acted S T.operation T.seat → GaveUpOf v i
        by (idle e l) = up_like S.operation T.operation S.seat T.seat e l up
        by (begins running none free e m x) = not_up S.operation S.seat free up
        by (moves running none free e stuck sends) = not_up S.operation S.seat free up

  -- ---- the initiator sees a later generation, in which the target sent it nothing of an operation of it
  module _ (sighted : IsSighted i w v) (a : AwayFrom i (topology_at v.generations (suc i)).generation w.store.kept (base_of g) v.fresh) (young : Young start before i) where
    pub sighted_on : AreReplied start now i
    sighted_on serial x =
        let is = away_is a later in
        let c = subst SerialsCount is (counts_at v h_now.sound.stands) in
        let k = hands_behind start i a.more B (subst (Hands start i) is hands) in
        let one : IsSentFor start now i serial ((terms now).generation (suc i)) = record { packet = x.packet; sent = x.sent; at = x.current; op = x.op; is_for = x.is_for; source = x.source } in
        let there = subst (λ ms. IsSentFor start ms i serial ((terms now).generation (suc i))) is one in
        let then = begins_sent_for start past s later t g i k serial ((terms now).generation (suc i)) (away_sent_for start i (topology_at v.generations (suc i)).generation w.store.kept a.more B c a.away serial ((terms now).generation (suc i)) there) in
        let small = young.told serial then.packet then.op then.sent then.is_for then.source in
        let at = then.at in
        let own_now = wire_generation v h_now.sound.stands (suc i) (omega (arith, within)) in
        let own_then = wire_generation w h.sound.stands (suc i) (omega (arith, inside)) in
        let later_one = sighted.later in
        absurd (omega (arith, small, at, own_now, own_then, later_one))
