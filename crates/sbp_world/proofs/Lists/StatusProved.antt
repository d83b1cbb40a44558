-- At each place of a run in which no initiator injected packets, or few logins were given, and before which lists were open as they should be, the target sent each status to an initiator that injected no packets as it is to be; so no status
-- is taken of an ORB that has not ended. Each turn keeps it, together with that the writes of ORB_POINTER were named for lists.
use Rattle.sbp_world.proofs.Words.Std.{◌≡◌, refl, subst, ◌<◌, ◌≤◌, ℕ, Bool, false, List, [], ◌++◌, length, Option, Some, None}
use Rattle.sbp_world.proofs.Words.Wire.{Moment}
use Rattle.sbp_world.proofs.Words.Target.{Disk, Told}
use Rattle.sbp_world.proofs.Words.Laws.{taken_at, ends, EachMoment}
use Rattle.sbp_world.proofs.Words.World.{moments_behind, Run, after, beginning, after_all, Scene, WorldState, begun, initiator_at, without_notes, IsDelivering, AreRows, HoldsOrbs, more_deliveries, AllOfTarget, TakenOf, PointersLaw, BegunLaw, Always, AreHere, Under, IsCalm, AreOpened, AreNamedFor, AllSentSo, AreStatuses, SentSo}
use Rattle.sbp_world.proofs.Sessions.Runs.{caught_between_law, caught_law}
use Rattle.sbp_world.proofs.Agents.Management.Still.{hist}
use Rattle.sbp_world.proofs.Hosts.Orbs.{orbs_law}
use Rattle.sbp_world.proofs.Hosts.Quadlets.{source_law}
use Rattle.sbp_world.proofs.Hosts.Runs.{count_after, count_between}
use Rattle.sbp_world.proofs.Hosts.Statuses.Runs.{taking_law}
use Rattle.sbp_world.proofs.Lists.Closes.{known}
use Rattle.sbp_world.proofs.Lists.Executes.{asked_of}
use Rattle.sbp_world.proofs.Lists.NamedWrites.{AllNamed, Known, first_names, names_turn}
use Rattle.sbp_world.proofs.Lists.OpenProved.{opens_law}
use Rattle.sbp_world.proofs.Lists.RunOutcomes.{AreAsked}
use Rattle.sbp_world.proofs.Lists.StatusPoints.{open_acting, point_acting}
use Rattle.sbp_world.proofs.Lists.StatusRuns.{once_of, rises_of, statuses_in, untaken_in}
use Rattle.sbp_world.proofs.Lists.StatusUps.{AllCaught}
use Rattle.sbp_world.proofs.Lists.StatusWalk.{Facts, Given, turn_sends}
use Rattle.sbp_world.proofs.Lists.Turns.{Ready}
use Rattle.sbp_world.proofs.Lists.TameWalks.{Where, still_after, still_between}
use Rattle.sbp_world.proofs.Lists.Walks.{Step, Walks}
use Rattle.sbp_world.proofs.Common.{delivers}

-- ---- what is known of every run at a place
pub record Ground (ms : List Moment) (w : WorldState) : Type 0 where
  pub known : Known ms w
  pub opened : AreOpened ms w
  pub caught : AllCaught ms w
  pub takings : (i : ℕ) → i < length w.initiators → EachMoment (TakenOf i) ms
  pub sources : (i : ℕ) → i < length w.initiators → AllOfTarget ms i
  pub orbs : (i : ℕ) → i < length w.initiators → HoldsOrbs ms i (initiator_at w i)

delivering : (most : Option ℕ) (told : List (Option Told)) → IsDelivering (more_deliveries most) told
delivering (Some count) told = tt
delivering None told = tt

pub ground_law : PointersLaw → BegunLaw → Always Ground
ground_law pointers begun_law = record {
  after_lines = λ line run r has small size.
      let inside : (i : ℕ) → i < length (after (beginning run) run.entries).world.initiators → i < run.initiators = λ i b. subst (λ n. i < n) (count_after run run.entries) b in
      record {
        known = (known pointers begun_law).after_lines line run r has small size;
        opened = opens_law.after_lines line run r has small size;
        caught = λ place login e l. (caught_law line run r.few has small size r.short r.entries r.lines).logins place login e l;
        takings = λ i b. (taking_law.takings line run r i (inside i b)).taken;
        sources = λ i b. source_law.sources line run r i (inside i b);
        orbs = λ i b. orbs_law.orbs line run r i (inside i b);
      };
  between = λ line run r has small size next most told m.
      let s = after (beginning run) run.entries in
      let inside : (i : ℕ) → i < length (after_all told (begun s)).world.initiators → i < run.initiators = λ i b. subst (λ n. i < n) (count_after run run.entries) (subst (λ n. i < n) (count_between told s) b) in
      let d = delivers most in
      record {
        known = (known pointers begun_law).between line run r has small size next most told m;
        opened = opens_law.between line run r has small size next (more_deliveries most) d told m;
        caught = λ place login e l. (caught_between_law line run r.few has small size r.short r.entries r.lines next (more_deliveries most) d told m).logins place login e l;
        takings = λ i b. (taking_law.between line run r next most told m i (inside i b)).taken;
        sources = λ i b. source_law.between line run r next (more_deliveries most) told (delivering most told) m i (inside i b);
        orbs = λ i b. orbs_law.between line run r next most told m i (inside i b);
      };
}

-- ---- what each turn keeps
abbrev pub AllSent : (ℕ → Bool) → List Moment → WorldState → Type 0
AllSent wild ms w = ((i : ℕ) → i < length w.initiators → wild i ≡ false → EachMoment (SentSo i) ms) × AllNamed wild ms w

abbrev pub AreNames : List Moment → WorldState → Type 0
AreNames ms w = (i : ℕ) → i < length w.initiators → IsCalm ms i → AreNamedFor ms i

module _ (Placed : ℕ → WorldState → Type 0) (placed_on : (i : ℕ) (w : WorldState) → Placed i w → Placed i (without_notes w)) (gives : (wild : ℕ → Bool) (i : ℕ) (own : wild i ≡ false) (past : List Moment) (w : WorldState) (r : Ready wild past w) (statuses : AreStatuses (hist past w) i) (each : EachMoment (SentSo i) (hist past w)) (rows : AreRows (hist past w) i (initiator_at w i).lists.slots) → AreAsked wild (hist past w) w → Placed i w → Given wild i own past w r statuses each rows) where
  -- what is known where lists were open as they should be before
  abbrev pub Over : List Moment → WorldState → Type 0
  Over ms w = AreHere ms w × ((i : ℕ) → i < length w.initiators → IsCalm ms i → Placed i w)

  module _ (wild : ℕ → Bool) (units ready : ℕ) (has : 0 < units) (start : List Disk) (past : List Moment) (s : Scene) (later : List Moment) (t : Scene) (step : Step wild units ready start Ground Over past s later t) (p : AllSent wild (hist past s.world) s.world) (i : ℕ) (b : i < length t.world.initiators) (own : wild i ≡ false) where
    abbrev w : WorldState
    w = s.world

    abbrev ms : List Moment
    ms = hist past w

    inside : i < length w.initiators
    inside = subst (λ n. i < n) step.count b

    calm : IsCalm ms i
    calm = step.stands.reached.calm i own

    each : EachMoment (SentSo i) ms
    each = p.0 i inside own

    statuses : AreStatuses ms i
    statuses =
        let h = step.stands.reached.holds.sound.stands in
        statuses_in ms wild i own step.stands.reached.kept.passes step.known.known.wire (once_of past w h ms refl) (rises_of past w h ms refl) (step.known.takings i inside) (step.known.sources i inside) each

    facts : Facts wild i own (Placed i) past w
    facts =
        let h = step.stands.reached.holds in
        let site = step.stands.reached.site in
        let lists = step.stands.lists i own in
        let k = step.known in
        let here = (step.so_far i own).0 i inside calm (p.1 i inside own) in
        record {
          ready = step.stands.known_all;
          statuses = statuses;
          each = each;
          rows = site.rows i inside;
          asked_orbs = asked_of wild start units ready has w h site step.stands.lists step.stands.reached.calm k.orbs;
          placed = (step.so_far i own).1 i inside calm;
          up = λ q c l. open_acting wild i own units ready has start w h site inside calm lists k.opened k.caught k.known.pointers k.known.first here q c l;
          point_up = λ sent is_for packet judged bar q c pointer demand ask took.
              point_acting wild i own units ready has start w h site inside calm lists k.opened k.caught k.known.pointers k.known.first here sent is_for packet judged bar q c pointer demand ask took;
        }

    sent_now : EachMoment (SentSo i) (hist later t.world)
    sent_now = turn_sends wild i own (Placed i) (placed_on i) (gives wild i own) past s later t step.turn facts step.reaches.kept.passes

    untaken : (n k : ℕ) → ends ms i n ≤ k → taken_at ms i n k ≡ None
    untaken n k l =
        let h = step.stands.reached.holds.sound.stands in
        untaken_in ms wild i own step.stands.reached.kept.passes step.known.known.wire (once_of past w h ms refl) (rises_of past w h ms refl) (step.known.takings i inside) (step.known.sources i inside) each n k l

    named_now : AreNamedFor (hist later t.world) i
    named_now =
        names_turn wild i own past s later t step.turn inside calm step.stands.reached.kept.passes step.known.known untaken (p.1 i inside own)
        step.known_then.known.wire (step.known_then.known.pointers i b) (step.reaches.calm i own)

  sends_walk : (wild : ℕ → Bool) (units ready : ℕ) → 0 < units → (start : List Disk) → Walks wild units ready start Ground Over (AllSent wild)
  sends_walk wild units ready has start past s later t step p =
      ((λ i b own. sent_now wild units ready has start past s later t step p i b own), (λ i b own. named_now wild units ready has start past s later t step p i b own))

  first_sent : (wild : ℕ → Bool) (line : ℕ) (run : Run) → AllSent wild (moments_behind line run []) (beginning run).world
  first_sent wild line run = ((λ i b own. (tt, (tt, tt))), first_names wild line run)

  -- ---- over a run, under a condition that was so before wherever it is so
  module _ (Still : List Moment → Type 0) (closed : (later past : List Moment) → Still (later ++ past) → Still past) where
    pub sent_law : Always Ground → Under (Where Still Over) → Under (Where Still AllSentSo)
    sent_law ground over = record {
      after_lines = λ line run r has small size so_far still i b calm. (still_after Still closed Ground Over AllSent ground over sends_walk first_sent line run r has small size so_far still).0 i b calm;
      between = λ line run r has small size next most told m so_far still i b calm.
          (still_between Still closed Ground Over AllSent ground over sends_walk first_sent line run r has small size next (more_deliveries most) (delivers most) told m so_far still).0 i b calm;
    }

    -- the writes of ORB_POINTER that were got were named for lists
    pub named_law : Always Ground → Under (Where Still Over) → Under (Where Still AreNames)
    named_law ground over = record {
      after_lines = λ line run r has small size so_far still i b calm. (still_after Still closed Ground Over AllSent ground over sends_walk first_sent line run r has small size so_far still).1 i b calm;
      between = λ line run r has small size next most told m so_far still i b calm.
          (still_between Still closed Ground Over AllSent ground over sends_walk first_sent line run r has small size next (more_deliveries most) (delivers most) told m so_far still).1 i b calm;
    }
