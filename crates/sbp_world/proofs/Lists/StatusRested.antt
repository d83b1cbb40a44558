-- At each place of a run in which no initiator injected packets, or few logins were given, and before which lists were open as they should be, an ORB whose next pointer is read again stands in
-- its slot: it is the last one of its list that ended, and told so by the src of its status block.
use Rattle.sbp_world.proofs.Words.Std.{arith, ◌≡◌, ◌∙◌, refl, sym, ap, subst, ◌<◌, ℕ, suc, nat_eq, Bool, true, false, List, [], ◌∷◌, ◌++◌, map, length, Some, nat_tests}
use Rattle.sbp_world.proofs.Words.Wire.{Node, topology_at, Moment, asked, said, Terms, terms}
use Rattle.sbp_world.proofs.Words.Target.{Disk}
use Rattle.sbp_world.proofs.Words.Laws.{lists, injectors}
use Rattle.sbp_world.proofs.Words.World.{history_of, moments_behind, new_world, Run, after, beginning, after_all, holder, Stands, Scene, WorldState, begun, initiator_at, JoinedLaw, has_list, AreHeldAt, AreRows, Lasts, more_deliveries, Always, AreBehind, AreHere, AreUntaken, IsHere, Under, WhereTameOrFew, IsCalm, initiator_in, machine_at, AreOpened, AllStatuses, IsTameOrFew}
use Rattle.sbp_world.proofs.Wire.Bus.{holds}
use Rattle.sbp_world.proofs.Agents.Management.Holding.{past_terms, target_generation}
use Rattle.sbp_world.proofs.Agents.Management.Still.{hist}
use Rattle.sbp_world.proofs.Hosts.Lasting.{lasting_law}
use Rattle.sbp_world.proofs.Hosts.Runs.{count_after, count_between, run_law}
use Rattle.sbp_world.proofs.Lists.Executes.{asked_of}
use Rattle.sbp_world.proofs.Lists.JoinLaws.{begins_after, begins_between}
use Rattle.sbp_world.proofs.Lists.Joins.{Begins}
use Rattle.sbp_world.proofs.Lists.OpenListed.{is_named}
use Rattle.sbp_world.proofs.Lists.OpenTurns.{listing_up}
use Rattle.sbp_world.proofs.Lists.RunOutcomes.{AreAsked}
use Rattle.sbp_world.proofs.Lists.StatusBehind.{AllFree, At, OwnAt, Then}
use Rattle.sbp_world.proofs.Lists.StatusCall.{AreRested, rests_has}
use Rattle.sbp_world.proofs.Lists.StatusPoints.{open_up, point_up}
use Rattle.sbp_world.proofs.Lists.StatusProved.{AreNames, Ground}
use Rattle.sbp_world.proofs.Lists.StatusRuns.{rises_of}
use Rattle.sbp_world.proofs.Lists.StatusSteps.{rests, rests_in}
use Rattle.sbp_world.proofs.Lists.StatusTurn.{Up}
use Rattle.sbp_world.proofs.Lists.StatusTurns.{turn_held}
use Rattle.sbp_world.proofs.Lists.StatusUps.{generation_is, up_open}
use Rattle.sbp_world.proofs.Lists.Turns.{Ready}
use Rattle.sbp_world.proofs.Lists.Beside.{tame_or_few_before}
use Rattle.sbp_world.proofs.Lists.TameWalks.{still_after, still_between}
use Rattle.sbp_world.proofs.Lists.Walks.{Step, Walks}
use Rattle.sbp_world.proofs.Common.{delivers}
use Rattle.sbp_world.proofs.Hosts.Cores.{not_so as up_state}

-- ---- what is known of every run at a place
pub record Grounds (ms : List Moment) (w : WorldState) : Type 0 where
  pub ground : Ground ms w
  pub begins : (i : ℕ) → i < length w.initiators → Begins i ms
  pub lasts : (i : ℕ) → i < length w.initiators → (later before : List Moment) → later ++ before ≡ ms → Lasts before ms i
  pub numbers : (i : ℕ) → i < length w.initiators → (initiator_at w i).number ≡ i

pub grounds_law : Always Ground → JoinedLaw → Always Grounds
grounds_law ground joined = record {
  after_lines = λ line run r has small size.
      let inside : (i : ℕ) → i < length (after (beginning run) run.entries).world.initiators → i < run.initiators = λ i b. subst (λ n. i < n) (count_after run run.entries) b in
      record {
        ground = ground.after_lines line run r has small size;
        begins = λ i b. begins_after joined line run has small size r i (inside i b);
        lasts = λ i b later before e. lasting_law.lasts line run r i (inside i b) later before e;
        numbers = λ i b. (run_law.rows line run r i (inside i b)).number;
      };
  between = λ line run r has small size next most told m.
      let s = after (beginning run) run.entries in
      let inside : (i : ℕ) → i < length (after_all told (begun s)).world.initiators → i < run.initiators = λ i b. subst (λ n. i < n) (count_after run run.entries) (subst (λ n. i < n) (count_between told s) b) in
      record {
        ground = ground.between line run r has small size next most told m;
        begins = λ i b. begins_between joined line run has small size r next most told m i (inside i b);
        lasts = λ i b later before e. lasting_law.between line run r next most told m i (inside i b) later before e;
        numbers = λ i b. (run_law.between line run r next most told m i (inside i b)).number;
      };
}

-- ---- where lists were open as they should be before
abbrev pub AllHere : List Moment → WorldState → Type 0
AllHere ms w = (i : ℕ) → i < length w.initiators → IsCalm ms i → IsHere ms w i

pub all_here : Under (WhereTameOrFew AreHere) → Under (WhereTameOrFew AreNames) → Under (WhereTameOrFew AllHere)
all_here here names = record {
  after_lines = λ line run r has small size so_far beside i b calm. here.after_lines line run r has small size so_far beside i b calm (names.after_lines line run r has small size so_far beside i b calm);
  between = λ line run r has small size next most told m so_far beside i b calm. here.between line run r has small size next most told m so_far beside i b calm (names.between line run r has small size next most told m so_far beside i b calm);
}

pub record Over (ms : List Moment) (w : WorldState) : Type 0 where
  pub here : AllHere ms w
  pub statuses : AllStatuses ms w
  pub untaken : AreUntaken ms w

pub over_law : Under (WhereTameOrFew AllHere) → Under (WhereTameOrFew AllStatuses) → Under (WhereTameOrFew AreUntaken) → Under (WhereTameOrFew Over)
over_law here statuses untaken = record {
  after_lines = λ line run r has small size so_far beside. record {
    here = here.after_lines line run r has small size so_far beside;
    statuses = statuses.after_lines line run r has small size so_far beside;
    untaken = untaken.after_lines line run r has small size so_far beside;
  };
  between = λ line run r has small size next most told m so_far beside. record {
    here = here.between line run r has small size next most told m so_far beside;
    statuses = statuses.between line run r has small size next most told m so_far beside;
    untaken = untaken.between line run r has small size next most told m so_far beside;
  };
}

-- the list of an agent that has one open is its initiator's latest one
module _ (wild : ℕ → Bool) (i : ℕ) (own : wild i ≡ false) (start : List Disk) (past : List Moment) (w : WorldState) (inside : i < length w.initiators) (h : Stands past w) (held : AreHeldAt start (hist past w) w) (g : Ground (hist past w) w) (here : IsHere (hist past w) w i) (q : ℕ) (b : q < 8) (l : has_list (machine_at w q).phase ≡ true) (mine : (holder w q).initiator ≡ i) (n : ℕ) (list : (holder w q).list ≡ Some n) where
  abbrev ms : List Moment
  ms = hist past w

  abbrev gen : ℕ
  gen = (topology_at w.generations 0).generation

  same_gen : gen ≡ (terms ms).generation 0
  same_gen = generation_is wild i own start past w inside h held g.caught

  up : Up wild i own past w q
  up = up_open wild i own start past w inside h held g.caught g.opened q b (up_state _ (listing_up (machine_at w q).phase l)) (λ m e. (n, here.present q b l mine (sym same_gen ∙ e) ∙ list))

  pub open_latest : suc n ≡ lists ms i
  open_latest = by (nat_eq ((terms ms).generation 0) ((terms ms).generation (suc i))) refl
    where
      by : (x : Bool) → nat_eq ((terms ms).generation 0) ((terms ms).generation (suc i)) ≡ x → suc n ≡ lists ms i
      by true e = (g.known.pointers i inside).latest n (here.present q b l mine (grind (arith, nat_tests)) ∙ list)
      by false e =
          let low = up.caught mine in
          let same = same_gen in
          here.ahead q n b l mine (grind (arith, nat_tests)) list

module _ (free : (wild : ℕ → Bool) (past : List Moment) (w : WorldState) → Ready wild past w → AreAsked wild (hist past w) w → AllFree wild w) where
  module _ (wild : ℕ → Bool) (units ready : ℕ) (has : 0 < units) (start : List Disk) (past : List Moment) (s : Scene) (later : List Moment) (t : Scene) (step : Step wild units ready start Grounds Over past s later t) (p : AreRested wild (hist past s.world) s.world) where
    abbrev w : WorldState
    w = s.world

    stands : Stands past w
    stands = step.stands.reached.holds.sound.stands

    own_at : (i : ℕ) (own : wild i ≡ false) → i < length w.initiators → OwnAt wild past w step.stands.known_all i own
    own_at i own inside =
        let h = step.stands.reached.holds in
        let site = step.stands.reached.site in
        let calm = step.stands.reached.calm i own in
        let lists_open = step.stands.lists i own in
        let g = step.known.ground in
        let o = step.so_far i own in
        let here = o.here i inside calm in
        record {
          untaken = λ n k e. o.untaken i inside calm n k e;
          present_latest = λ n e. (g.known.pointers i inside).latest n e;
          rows = site.rows i inside;
          up = λ q c l. open_up wild i own units ready has start w h site inside calm lists_open g.opened g.caught g.known.pointers g.known.first here q c l;
          point_up = λ sent is_for packet judged bar q c pointer demand ask took.
              point_up wild i own units ready has start w h site inside calm lists_open g.opened g.caught g.known.pointers g.known.first here sent is_for packet judged bar q c pointer demand ask took;
        }

    place : At wild past w
    place =
        let h = step.stands.reached.holds in
        let site = step.stands.reached.site in
        record {
          ready = step.stands.known_all;
          rested = p;
          seats = λ q login e. let k = site.held.held q login e in record { holder_is = k.holder; there = k.there; id_is = k.login_is };
          free = free wild past w step.stands.known_all (asked_of wild start units ready has w h site step.stands.lists step.stands.reached.calm step.known.ground.orbs);
          same_gen = sym (target_generation w stands);
          layer_gen =
              sym (ap (λ (l : Node). l.generation) (stands.is.layers_are 0 (omega arith)))
              ∙ (((holds stands.wire stands.reached).nodes 0).generation ∙ ap (λ (x : Terms). x.generation 0) (past_terms w stands));
          names = step.known.ground.known.names;
          own = own_at;
        }

    behind : Then wild w (hist later t.world) t.world
    behind =
        let inside_t : (i : ℕ) → i < length w.initiators → i < length t.world.initiators = λ i b. subst (λ n. i < n) (sym step.count) b in
        let g = step.known_then in
        record {
          later = λ i own b.
              let c = inside_t i b in
              record {
                passes = step.reaches.kept.passes;
                counted = step.reaches.site.serials;
                takes = ((step.so_far_then i own).statuses i c (step.reaches.calm i own)).taken;
                rises = rises_of later t.world step.reaches.holds.sound.stands (hist later t.world) refl;
                begins = g.begins i c;
                lasts = g.lasts i c;
              };
          latest = λ i q own b l mine n list.
              let o = g.ground.opened q b (up_state _ (listing_up (machine_at t.world q).phase l)) in
              let c : i < length t.world.initiators = subst (λ j. j < length t.world.initiators) mine o.inside in
              open_latest wild i own start later t.world c step.reaches.holds.sound.stands step.reaches.site.held g.ground ((step.so_far_then i own).here i c (step.reaches.calm i own)) q b l mine n list;
          opened = g.ground.opened;
          count = step.count;
        }

    walked : AreRested wild (hist later t.world) t.world
    walked =
        turn_held wild past s later t step.turn place step.known.numbers step.stands.reached.kept.law step.stands.reached.site.rows
        (rises_of later t.world step.reaches.holds.sound.stands (hist later t.world) refl) behind

  rested_walk : (wild : ℕ → Bool) (units ready : ℕ) → 0 < units → (start : List Disk) → Walks wild units ready start Grounds Over (AreRested wild)
  rested_walk wild units ready has start past s later t step p = walked wild units ready has start past s later t step p

  first_rested : (wild : ℕ → Bool) (line : ℕ) (run : Run) → AreRested wild (moments_behind line run []) (beginning run).world
  unfolding new_world
  first_rested wild line run i q own b rv mine n k list e = absurd (none_ended e)
    where
      none_ended : 0 ≡ suc k → ⊥
      none_ended f = omega (arith, f)

  -- ---- over a run
  behind_at : (ms : List Moment) (w : WorldState) (wild : ℕ → Bool) → ((i : ℕ) → IsCalm ms i → wild i ≡ false) → AreRested wild ms w → AreOpened ms w → ((i : ℕ) → i < length w.initiators → AreRows ms i (initiator_at w i).lists.slots) → AreBehind ms w
  behind_at ms w wild mild rested opened rows q b phase calm n k list e =
      let rv : rests (machine_at w q) ≡ true = ap (λ x. rests_in x (machine_at w q).orb.next) phase in
      let o = opened q b (up_state _ (listing_up (machine_at w q).phase (rests_has (machine_at w q) rv))) in
      let h = rested (initiator_in w q) q (mild (initiator_in w q) calm) b rv refl n k list e in
      is_named ms w q n k o.inside (rows (initiator_in w q) o.inside) (record { small = h.slotted.placed.small; is = h.slotted.placed.last })

  pub rested_law : Always Grounds → Under (WhereTameOrFew Over) → Under (WhereTameOrFew (λ ms w. AreRested (injectors ms) ms w))
  rested_law grounds over = record {
    after_lines = λ line run r has small size so_far beside. still_after IsTameOrFew tame_or_few_before Grounds Over AreRested grounds over rested_walk first_rested line run r has small size so_far beside;
    between = λ line run r has small size next most told m so_far beside. still_between IsTameOrFew tame_or_few_before Grounds Over AreRested grounds over rested_walk first_rested line run r has small size next (more_deliveries most) (delivers most) told m so_far beside;
  }

  pub behind_law : Always Grounds → Under (WhereTameOrFew Over) → Under (WhereTameOrFew AreBehind)
  behind_law grounds over = record {
    after_lines = λ line run r has small size so_far beside.
        let w = (after (beginning run) run.entries).world in
        behind_at (history_of line run) w (injectors (history_of line run)) (λ i calm. calm) ((rested_law grounds over).after_lines line run r has small size so_far beside)
        (grounds.after_lines line run r has small size).ground.opened (λ i b. (run_law.rows line run r i (subst (λ n. i < n) (count_after run run.entries) b)).rows);
    between = λ line run r has small size next most told m so_far beside.
        let s = after (beginning run) run.entries in
        let w = (after_all told (begun s)).world in
        let now = map said w.fresh ++ asked next (more_deliveries most) ∷ history_of line run in
        behind_at now w (injectors now) (λ i calm. calm) ((rested_law grounds over).between line run r has small size next most told m so_far beside)
        (grounds.between line run r has small size next most told m).ground.opened (λ i b. (run_law.between line run r next most told m i (subst (λ n. i < n) (count_after run run.entries) (subst (λ n. i < n) (count_between told s) b))).rows);
  }
