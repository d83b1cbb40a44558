-- The logins of the initiators' nodes over the runs, where the two ends of the management go together at each turn.
use Rattle.sbp_world.proofs.Words.Std.{inr, inl, arith, ◌≡◌, ◌∙◌, refl, sym, ap, subst, ℕ, suc, ◌+◌, ◌<◌, ◌≤◌, Bool, true, List, [], ◌∷◌, ◌++◌, map, length, Option, Some}
use Rattle.sbp_world.proofs.Words.Wire.{id_of, topology_at, end_note, Note, Moment, asked, said, terms}
use Rattle.sbp_world.proofs.Words.Target.{Login, is_live, Disk, Told, NodeState, login_at}
use Rattle.sbp_world.proofs.Words.Initiator.{InitiatorState}
use Rattle.sbp_world.proofs.Words.World.{IsRun, more_deliveries, history_of, moments_behind, ready_logins, Run, after, beginning, MayAll, after_all, delivered_next, Scene, WorldState, begun, initiator_at, without_notes, HasCaught, IsCalm, OpenBefore, OpenBetween, IsTame, IsCalmBeside, IsTameOrFew}
use Rattle.sbp_world.proofs.Hosts.Carried.{between_runs, of_runs}
use Rattle.sbp_world.proofs.Hosts.Hosted.{Cored, cored_carried, first_cored}
use Rattle.sbp_world.proofs.Hosts.Runs.{count_after, count_between}
use Rattle.sbp_world.proofs.Wire.Sizes.{Sizes, happens_keeps}
use Rattle.sbp_world.proofs.Agents.Management.Holding.{Holding, known_id}
use Rattle.sbp_world.proofs.Agents.Management.Lines.{opens}
use Rattle.sbp_world.proofs.Agents.Management.Still.{hist}
use Rattle.sbp_world.proofs.Sessions.Caught.{Met}
use Rattle.sbp_world.proofs.Sessions.Runs.{caught_between_law, caught_law, met_after, met_between}
use Rattle.sbp_world.proofs.Sessions.Turns.{wire_generation}
use Rattle.sbp_world.proofs.Lists.Beside.{AreDone, all_done, beside_before, own_done, tame_or_few_before}
use Rattle.sbp_world.proofs.Lists.Judging.{goes_next, grown}
use Rattle.sbp_world.proofs.Lists.Calm.{asked_calm, calm_before}
use Rattle.sbp_world.proofs.Lists.Courses.{EveryPlace, Goes, Keeps, at_between, at_lines, by_delivery, by_end, by_line, by_start, more_than_one}
use Rattle.sbp_world.proofs.Lists.LiveBegins.{first_grown, first_lives}
use Rattle.sbp_world.proofs.Lists.LiveKept.{turn_kept}
use Rattle.sbp_world.proofs.Lists.LiveLines.{end_turn, line_turn, next_turn}
use Rattle.sbp_world.proofs.Lists.LiveSteps.{Alive, Grown, Helps, Knows, Lives, id_in, own_of, zero_of}
use Rattle.sbp_world.proofs.Lists.LiveTold.{none_told}
use Rattle.sbp_world.proofs.Lists.LiveTurns.{OwnCall, TargetCall, TurnOf, Turned, acts, by_clearing, by_own, by_sight, by_target, delivers, hears, lapses, quiet_turn, rests, still}
use Rattle.sbp_world.proofs.Lists.Runs.{hist_more}
use Rattle.sbp_world.proofs.Lists.OpenedBeside.{next_extends}

-- ---- what is known at each place of every run
pub record IsCored (past : List Moment) (i : ℕ) (s : InitiatorState) : Type 0 where
  pub ready : Bool
  pub cored : Cored ready past i s

pub record Known (past : List Moment) (w : WorldState) : Type 0 where
  pub cored : (i : ℕ) → i < length w.initiators → IsCored past i (initiator_at w i)
  pub met : Met w
  pub logins : (place : ℕ) (login : Login) → login_at w.target place ≡ Some login → is_live login ≡ true → HasCaught (terms past) (length w.initiators) login.node

pub known_everywhere : EveryPlace (λ start past w. Known past w)
known_everywhere = record {
  after_lines = λ line run r has small size so_far. record {
    cored = λ i b. record {
      ready = run.ready;
      cored = of_runs (Cored run.ready) (cored_carried run.ready) line run (λ entries few short all fit j c. tt) (λ j c. first_cored line j run.initiators run.ready c) r i (subst (λ n. i < n) (count_after run run.entries) b);
    };
    met = met_after line run run.entries r.few has small size r.short r.entries r.lines;
    logins = (caught_law line run r.few has small size r.short r.entries r.lines).logins;
  };
  between = λ line run r has small size next most told m so_far. record {
    cored = λ i b. record {
      ready = run.ready;
      cored = between_runs (Cored run.ready) (cored_carried run.ready) line run (λ entries few short all fit j c. tt) (λ j c. first_cored line j run.initiators run.ready c) r next most told m i
          (subst (λ n. i < n) (count_between told (after (beginning run) run.entries) ∙ count_after run run.entries) b);
    };
    met = met_between line run r has small size next (more_deliveries most) (more_than_one most) told m;
    logins = (caught_between_law line run r.few has small size r.short r.entries r.lines next (more_deliveries most) (more_than_one most) told m).logins;
  };
}

module _ (units ready : ℕ) (start : List Disk) {past : List Moment} {lines : ℕ} (w : WorldState) (h : Holding units ready start past lines w) (k : Known (hist past w) w) (i : ℕ) (inside : i < length w.initiators) where
  abbrev id_is : (terms (hist past w)).ids ((terms (hist past w)).generation 0) (i + 1) ≡ id_in w i
  id_is = known_id w h.sound.stands (i + 1) (let e : i + 1 ≤ length w.initiators = omega arith in e) ∙ ap (λ n. id_of (topology_at w.generations 0) n) (let e : i + 1 ≡ suc i = omega arith in e)

  caught_up : (place : ℕ) (login : Login) → login_at w.target place ≡ Some login → is_live login ≡ true → login.node ≡ id_in w i → zero_of w ≤ own_of w i
  caught_up place login e live of =
      let c = k.logins place login e live i (record { small = inside; node_is = id_is ∙ sym of }) in
      let a = wire_generation w h.sound.stands 0 (omega arith) in
      let b = wire_generation w h.sound.stands (i + 1) (omega arith) ∙ ap (λ n. (topology_at w.generations n).generation) (let e : i + 1 ≡ suc i = omega arith in e) in
      omega (arith, a, b, c)

  pub knows : Knows (k.cored i inside).ready (hist past w) w i
  knows = record { cored = (k.cored i inside).cored; joined = (k.met.sits i).joined; caught = caught_up }

-- ---- a turn of a run is one of its worlds
module _ (base fresh : List Note) where
  unnoted_target : (w : WorldState) (now : NodeState) → TargetCall (without_notes w) base fresh now → TargetCall w base fresh now
  unnoted_target w now (delivers serial sent found to told disks is t first) = delivers serial sent found to told disks is t first
  unnoted_target w now (still x t) = still x t

  unnoted_own : (w : WorldState) (i : ℕ) (now : InitiatorState) → OwnCall (without_notes w) i base fresh now → OwnCall w i base fresh now
  unnoted_own w i now (rests e f) = rests e f
  unnoted_own w i now (hears serial sent found to is t) = hears serial sent found to is t
  unnoted_own w i now (lapses label is) = lapses label is
  unnoted_own w i now (acts action is) = acts action is

unnoted : (i : ℕ) (w : WorldState) (base : List Note) (v : WorldState) → TurnOf i (without_notes w) base v → TurnOf i w base v
unnoted i w base v (by_target b e c) = by_target (record { zero = b.zero; id = b.id; own = b.own }) e (unnoted_target base v.fresh w v.target c)
unnoted i w base v (by_clearing c e t) = by_clearing (record { later = c.later; own = c.own; none = c.none; held = c.held; owns = c.owns; table = c.table }) e t
unnoted i w base v (by_own b e c t) = by_own (record { zero = b.zero; id = b.id; own = b.own }) e (unnoted_own base v.fresh w i (initiator_at v i) c) t
unnoted i w base v (by_sight c e t) = by_sight (record { zero = c.zero; id = c.id; later = c.later; reset = c.reset }) e t

-- the notes behind which a turn tells: none, where a line begins
abbrev pub base_of : {past : List Moment} {s : Scene} {later : List Moment} {t : Scene} → Goes past s later t → List Note
base_of (by_line past s line event told one fit may) = []
base_of (by_start past s line most) = []
base_of (by_delivery past s one may no_act) = s.world.fresh
base_of (by_end past s done) = s.world.fresh

module _ (units ready : ℕ) (has : 0 < units) (start : List Disk) {lines : ℕ} where
  pub goes_turned : (past : List Moment) (s : Scene) (later : List Moment) (t : Scene) (g : Goes past s later t) → Holding units ready start past lines s.world → Turned s.world (base_of g) t.world
  goes_turned past s later t (by_line past0 s0 line event told one fit may) h i l =
      unnoted i s.world [] t.world (line_turn units ready has start s line event told one fit may (λ e. opens units ready has start line event s.world e h) i l)
  goes_turned past s later t (by_start past0 s0 line most) h i l = quiet_turn s.world [] (without_notes s.world) (λ k. refl) refl refl (λ i. none_told i _ s.world.store.kept []) i l
  goes_turned past s later t (by_delivery past0 s0 one may no_act) h i l = (next_turn one s may).0 i l
  goes_turned past s later t (by_end past0 s0 done) h i l = end_turn done s.world i l

pub goes_size : (past : List Moment) (s : Scene) (later : List Moment) (t : Scene) → Goes past s later t → length t.world.initiators ≡ length s.world.initiators
goes_size past s later t (by_line past0 s0 line event told one fit may) = ap (λ (z : Sizes). z.0) (happens_keeps line event told s)
goes_size past s later t (by_start past0 s0 line most) = refl
goes_size past s later t (by_delivery past0 s0 one may no_act) = (next_turn one s may).1
goes_size past s later t (by_end past0 s0 done) = refl

-- ---- who is calm behind a turn was before

pub goes_calm : (past : List Moment) (s : Scene) (later : List Moment) (t : Scene) → Goes past s later t → (i : ℕ) → IsCalm (hist later t.world) i → IsCalm (hist past s.world) i
goes_calm past s later t (by_line past0 s0 line event told one fit may) i c =
    asked_calm line event (hist past s.world) i (calm_before (map said t.world.fresh) (asked line event ∷ hist past s.world) i c)
goes_calm past s later t (by_start past0 s0 line most) i c = asked_calm line (more_deliveries most) (hist past s.world) i c
goes_calm past s later t (by_delivery past0 s0 one may no_act) i c = hist_more s.world.fresh (delivered_next one s).world.fresh past (next_extends one s) i c
goes_calm past s later t (by_end past0 s0 done) i c = calm_before (said (end_note done) ∷ []) (hist past s.world) i c

pub goes_tame : (past : List Moment) (s : Scene) (later : List Moment) (t : Scene) → Goes past s later t → IsTame (hist later t.world) → IsTame (hist past s.world)
goes_tame past s later t g tame = λ i. goes_calm past s later t g i (tame i)

-- and so none did before it, or few logins were given
pub goes_beside : (past : List Moment) (s : Scene) (later : List Moment) (t : Scene) → Goes past s later t → (i : ℕ) → IsCalmBeside (hist later t.world) i → IsCalmBeside (hist past s.world) i
goes_beside past s later t g i beside =
    let x = grown (hist past s.world) (hist later t.world) (goes_next past s later t g) in
    beside_before x.new (hist past s.world) i (subst (λ ms. IsCalmBeside ms i) (sym x.is) beside)

pub goes_tame_or_few : (past : List Moment) (s : Scene) (later : List Moment) (t : Scene) → Goes past s later t → IsTameOrFew (hist later t.world) → IsTameOrFew (hist past s.world)
goes_tame_or_few past s later t g beside =
    let x = grown (hist past s.world) (hist later t.world) (goes_next past s later t g) in
    tame_or_few_before x.new (hist past s.world) (subst IsTameOrFew (sym x.is) beside)

-- what is known of the logins that were done
pub done_of : (start : List Disk) (past : List Moment) (w : WorldState) → ((j : ℕ) → j < length w.initiators → Alive start past w j) → (i : ℕ) → i < length w.initiators → IsCalmBeside past i → AreDone start (length w.initiators) past i
done_of start past w p i inside (calm, inl beside) = all_done beside (λ j l. (p j l).grown.based (beside j, inl beside))
done_of start past w p i inside (calm, inr few) = own_done calm few ((p i inside).grown.based (calm, inr few)) ((p i inside).grown.owned (calm, inr few))

-- ---- the runs
module _ (Extra : List Disk → List Moment → WorldState → Type 0) where
  -- with what else is known
  pub record With (start : List Disk) (past : List Moment) (w : WorldState) : Type 0 where
    pub known : Known past w
    pub more : Extra start past w

  abbrev pub AllLive : List Disk → List Moment → WorldState → Type 0
  AllLive start past w = (i : ℕ) → i < length w.initiators → Alive start past w i

  -- the two ends go together at a turn
  abbrev pub HelpedBy : Type 0
  HelpedBy =
      (units ready : ℕ) (start : List Disk) (past : List Moment) (s : Scene) (later : List Moment) (t : Scene) (lines more : ℕ) → 0 < units → (g : Goes past s later t) → Holding units ready start past lines s.world → Holding units ready start later more t.world → With start (hist past s.world) s.world → With start (hist later t.world) t.world → AllLive start (hist past s.world) s.world → (i : ℕ) → i < length s.world.initiators → IsCalmBeside (hist later t.world) i → zero_of t.world ≡ own_of t.world i → zero_of s.world ≡ own_of s.world i → Helps start (base_of g) (hist past s.world) (hist later t.world) s.world t.world i

  -- and what is granted goes on
  abbrev pub GrownBy : Type 0
  GrownBy =
      (units ready : ℕ) (start : List Disk) (past : List Moment) (s : Scene) (later : List Moment) (t : Scene) (lines more : ℕ) → 0 < units → (g : Goes past s later t) → Holding units ready start past lines s.world → Holding units ready start later more t.world → With start (hist past s.world) s.world → With start (hist later t.world) t.world → AllLive start (hist past s.world) s.world → (i : ℕ) → i < length s.world.initiators → Lives start (hist later t.world) t.world i → Grown start (hist later t.world) t.world i

  module _ (extra : EveryPlace Extra) (helped : HelpedBy) (grows : GrownBy) where
    with_everywhere : EveryPlace With
    with_everywhere = record {
      after_lines = λ line run r has small size so_far. record { known = known_everywhere.after_lines line run r has small size so_far; more = extra.after_lines line run r has small size so_far };
      between = λ line run r has small size next most told m so_far. record { known = known_everywhere.between line run r has small size next most told m so_far; more = extra.between line run r has small size next most told m so_far };
    }

    all_kept : (units ready : ℕ) → 0 < units → (start : List Disk) → Keeps units ready start (With start) (AllLive start)
    all_kept units ready has start past s later t lines more g h h_now q q_now p i l =
        let inside : i < length s.world.initiators = subst (λ n. i < n) (goes_size past s later t g) l in
        let lives = turn_kept units ready has start (q.known.cored i inside).ready s.world h (base_of g) (hist past s.world) (hist later t.world) t.world i inside (knows units ready start s.world h q.known i inside) (q_now.known.met.sits i).joined (p i inside).lives
        (goes_beside past s later t g i) (λ calm e was. helped units ready start past s later t lines more has g h h_now q q_now p i inside calm e was)
        (goes_turned units ready has start past s later t g h i inside) in
        record { lives = lives; grown = grows units ready start past s later t lines more has g h h_now q q_now p i inside lives }

    module _ (line : ℕ) (run : Run) (r : IsRun run) (has : 0 < run.units) (small : run.units ≤ 4) (size : length run.start.disks ≡ run.units) where
      first : AllLive run.start.disks (moments_behind line run []) (beginning run).world
      first i l = record {
        lives = first_lives run.initiators r.few run.units small line run.start.disks size run.ready (moments_behind line run []) i l;
        grown = first_grown run.initiators r.few run.units small line run.start.disks size run.ready (moments_behind line run []) i (tt, (tt, tt)) (tt, (tt, tt)) (tt, (tt, tt)) (tt, (tt, tt)) (tt, (tt, tt)) l;
      }

      abbrev keeps : Keeps run.units (ready_logins run.initiators run.ready) run.start.disks (With run.start.disks) (AllLive run.start.disks)
      keeps = all_kept run.units (ready_logins run.initiators run.ready) has run.start.disks

      pub all_after : OpenBefore line run run.entries → AllLive run.start.disks (history_of line run) (after (beginning run) run.entries).world
      all_after so_far = at_lines With (AllLive run.start.disks) with_everywhere line run r.few has small size keeps first r so_far

      pub all_between : (next : ℕ) (most : Option ℕ) (told : List (Option Told)) → MayAll told (begun (after (beginning run) run.entries)) → OpenBetween line run next (more_deliveries most) told → (let w = (after_all told (begun (after (beginning run) run.entries))).world in AllLive run.start.disks (map said w.fresh ++ asked next (more_deliveries most) ∷ history_of line run) w)
      all_between next most told m so_far = at_between With (AllLive run.start.disks) with_everywhere line run r.few has small size keeps first r next most told m so_far
