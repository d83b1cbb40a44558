-- At each place of a run before which lists were open as they should be: what the target wrote to the FIFOs of an initiator that injected no packets, in the name of a place of
-- management, is of its operation; and so is what it wrote into the response buffers of it, where no login for its node has its FIFO there. Each turn keeps it, together with
-- that the address of the operation's ORB has 48 bits.
use Rattle.sbp_world.proofs.Words.Std.{◌≡◌, ◌∙◌, sym, ap, subst, ◌<◌, ◌≤◌, ℕ, zero, suc, Bool, false, List, [], ◌∷◌, ◌++◌, map, length, Option, Some, None}
use Rattle.sbp_world.proofs.Words.Wire.{Moment, asked, said, Event, end_note, Note}
use Rattle.sbp_world.proofs.Words.Target.{Disk, Told, login_at}
use Rattle.sbp_world.proofs.Words.Initiator.{window_at}
use Rattle.sbp_world.proofs.Words.Laws.{injectors, EachMoment}
use Rattle.sbp_world.proofs.Words.World.{history_of, moments_behind, new_world, ready_logins, Run, after, beginning, happens, MayAll, MayNext, after_all, delivered_at, delivered_next, lowest, Scene, WorldState, begun, DeliversMore, IsRun, more_deliveries, Always, AreBuffersClear, AreLoginsClear, FifoWritesLaw, PlaceSo, IsCalm, OpenBefore, OpenBetween, AreOpened, OpensLaw, BufferSo}
use Rattle.sbp_journal.specs.declared.note.Note.TheVariants as notes
use Rattle.sbp_world.specs.Settling as settling
use Rattle.sbp_world.proofs.Agents.Management.Holding.{Holding, good_of}
use Rattle.sbp_world.proofs.Agents.Management.Still.{hist}
use Rattle.sbp_world.proofs.Hosts.Runs.{count_after, count_between}
use Rattle.sbp_world.proofs.Lists.Calm.{asked_calm, calm_before}
use Rattle.sbp_world.proofs.Lists.Courses.{EveryPlace}
use Rattle.sbp_world.proofs.Lists.Executes.{asked_of}
use Rattle.sbp_world.proofs.Lists.Extends.{Extends, delivered_extends}
use Rattle.sbp_world.proofs.Lists.FifoLines.{WriteSo}
use Rattle.sbp_world.proofs.Lists.FifoTurns.{IsClear}
use Rattle.sbp_world.proofs.Lists.FifoUps.{IsShort, access_mine, gen_is, open_mine}
use Rattle.sbp_world.proofs.Lists.FifoWalk.{Facts, Later, turn_shorts, turn_so}
use Rattle.sbp_world.proofs.Lists.OpenProved.{opens_law}
use Rattle.sbp_world.proofs.Lists.Runs.{EarlyAfter, early_after}
use Rattle.sbp_world.proofs.Lists.StatusAnswers.{AllHold, all_hold}
use Rattle.sbp_world.proofs.Lists.StatusBytes.{same_address}
use Rattle.sbp_world.proofs.Lists.Walks.{Step, Turn, Walks, by_delivery, by_end, by_line, by_start, walk_after, walk_at}
use Rattle.sbp_world.proofs.Agents.AskedAgents.{fifo_fits}
use Rattle.sbp_world.proofs.Common.{said_split, delivers, none_is}

-- ---- what is known of every run at a place
pub record Ground (ms : List Moment) (w : WorldState) : Type 0 where
  pub opened : AreOpened ms w
  pub orbs : AllHold ms w

ground_law : Always Ground
ground_law = record {
  after_lines = λ line run r has small size. record { opened = opens_law.after_lines line run r has small size; orbs = all_hold.after_lines line run r has small size };
  between = λ line run r has small size next most told m.
      record { opened = opens_law.between line run r has small size next (more_deliveries most) (delivers most) told m; orbs = all_hold.between line run r has small size next most told m };
}

-- ---- what each turn keeps, under a condition that is so of every history that a history goes on from
abbrev pub AllPlaced : Type 0 → (ℕ → ℕ → List Moment → Type 0) → (ℕ → Bool) → List Disk → List Moment → WorldState → Type 0
AllPlaced given Cond wild start ms w = (i : ℕ) → i < length w.initiators → wild i ≡ false → Cond (length w.initiators) i ms → EachMoment (WriteSo given start i) ms × IsShort w.target

abbrev pub IsClosed : (ℕ → ℕ → List Moment → Type 0) → Type 0
IsClosed Cond = (n i : ℕ) (later past : List Moment) → Cond n i (later ++ past) → Cond n i past

-- a delivery
next_by : (one : Option Told) (s : Scene) (so : Option ℕ) → settling.MayAt so one s → Extends s.world.fresh (delivered_at so one s).world.fresh
next_by one s None m = absurd m
next_by one s (Some serial) m = delivered_extends serial false one s

next_extends : (one : Option Told) (s : Scene) → MayNext one s → Extends s.world.fresh (delivered_next one s).world.fresh
unfolding delivered_next MayNext
next_extends one s m = next_by one s (lowest s.world) m

module _ (Cond : ℕ → ℕ → List Moment → Type 0) (closed : IsClosed Cond) (n i : ℕ) where
  told_before : (past : List Moment) (old now : List Note) → Extends old now → Cond n i (map said now ++ past) → Cond n i (map said old ++ past)
  told_before past old now x c =
      closed n i (map said x.more) (map said old ++ past) (subst (Cond n i) (sym (ap (λ ns. map said ns ++ past) x.is) ∙ said_split x.more old past) c)

  turn_before : (past : List Moment) (s : Scene) (later : List Moment) (t : Scene) → Turn past s later t → Cond n i (hist later t.world) → Cond n i (hist past s.world)
  turn_before _ _ _ _ (by_line past s line event told o q m) c = closed n i (asked line event ∷ []) (hist past s.world) (closed n i (map said (happens line event told s).world.fresh) (asked line event ∷ hist past s.world) c)
  turn_before _ _ _ _ (by_start past s line event d) c = closed n i (asked line event ∷ []) (hist past s.world) c
  turn_before _ _ _ _ (by_delivery past s one m) c = told_before past s.world.fresh (delivered_next one s).world.fresh (next_extends one s m) c
  turn_before _ _ _ _ (by_end past s done) c = closed n i (said (end_note done) ∷ []) (hist past s.world) c

-- the FIFOs of logins, by their addresses as they are written to
clear_of : {units ready : ℕ} {start : List Disk} {past : List Moment} {lines : ℕ} (w : WorldState) → Holding units ready start past lines w → (i : ℕ) → AreLoginsClear i w → IsClear w.generations i w.target.logins
clear_of w h i clear place login e live n other goes =
    clear place login e live n other (ap window_at (sym (same_address login.fifo (fifo_fits _ (login_at w.target place) login e (h.sound.nodes.target_holds.fits.logins place)))) ∙ goes)

module _ (given : Type 0) (CondOf : List Disk → ℕ → ℕ → List Moment → Type 0) (closed_of : (start : List Disk) → IsClosed (CondOf start)) (clear : given → EveryPlace (λ start past w. (i : ℕ) → i < length w.initiators → CondOf start (length w.initiators) i past → AreBuffersClear i w)) where
  abbrev Over : List Disk → List Moment → WorldState → Type 0
  Over start ms w = given → (i : ℕ) → i < length w.initiators → CondOf start (length w.initiators) i ms → AreBuffersClear i w

  over_law : EveryPlace Over
  over_law = record {
    after_lines = λ line run r has small size so_far g. (clear g).after_lines line run r has small size so_far;
    between = λ line run r has small size next most told m so_far g. (clear g).between line run r has small size next most told m so_far;
  }

  module _ (wild : ℕ → Bool) (units ready : ℕ) (has : 0 < units) (start : List Disk) (past : List Moment) (s : Scene) (later : List Moment) (t : Scene) (step : Step wild units ready start Ground (Over start) past s later t) (p : AllPlaced given (CondOf start) wild start (hist past s.world) s.world) (i : ℕ) (b : i < length t.world.initiators) (own : wild i ≡ false) (c : CondOf start (length t.world.initiators) i (hist later t.world)) where
    abbrev Cond : ℕ → ℕ → List Moment → Type 0
    Cond = CondOf start

    abbrev w : WorldState
    w = s.world

    inside : i < length w.initiators
    inside = subst (λ n. i < n) step.count b

    before : Cond (length w.initiators) i (hist past w)
    before = turn_before Cond (closed_of start) (length w.initiators) i past s later t step.turn (subst (λ n. Cond n i (hist later t.world)) step.count c)

    was : EachMoment (WriteSo given start i) (hist past w) × IsShort w.target
    was = p i inside own before

    facts : Facts given wild i own units ready has start past step.lines w
    facts =
        let h = step.stands.reached.holds in
        let site = step.stands.reached.site in
        record {
          holds = h;
          known_all = step.stands.known_all;
          each = was.0;
          asked_orbs = asked_of wild start units ready has w h site step.stands.lists step.stands.reached.calm step.known.orbs;
          short = was.1;
          clear = λ g. clear_of w h i (step.so_far i own g i inside before).logins;
          fifos = λ g. (step.so_far i own g i inside before).fifos;
          gen_is = gen_is i start past w inside h.sound.stands site.held;
          up = open_mine i start past w inside h.sound.stands site.held step.known.opened;
          access_up = access_mine i start past w inside h.sound.stands site.held (good_of units ready h.calls w.target has h.made);
        }

    behind : Later given wild i own units ready has start later t.world
    behind = record {
      passes = step.reaches.kept.passes;
      lines = step.more;
      holds = step.reaches.holds;
      clear = λ g. clear_of t.world step.reaches.holds i (step.so_far_then i own g i b c).logins;
    }

    placed_now : EachMoment (WriteSo given start i) (hist later t.world) × IsShort t.world.target
    placed_now = (
      turn_so given wild i own units ready has start past s later t step.turn facts behind,
      turn_shorts units ready has start i past s later t step.turn step.stands.reached.holds inside was.1,
    )

  walks : (wild : ℕ → Bool) (units ready : ℕ) → 0 < units → (start : List Disk) → Walks wild units ready start Ground (Over start) (AllPlaced given (CondOf start) wild start)
  walks wild units ready has start past s later t step p i b own c = placed_now wild units ready has start past s later t step p i b own c

  -- ---- over a run
  module _ (line : ℕ) (run : Run) (r : IsRun run) (has : 0 < run.units) (small : run.units ≤ 4) (size : length run.start.disks ≡ run.units) where
    abbrev start : List Disk
    start = run.start.disks

    abbrev last : Scene
    last = after (beginning run) run.entries

    abbrev CondHere : ℕ → ℕ → List Moment → Type 0
    CondHere = CondOf start

    abbrev All : (ℕ → Bool) → List Moment → WorldState → Type 0
    All wild ms v = AllPlaced given CondHere wild start ms v

    first : (wild : ℕ → Bool) → All wild (moments_behind line run []) (beginning run).world
    unfolding new_world
    first wild i b own c = ((tt, (tt, tt)), (λ op e. none_is op e))

    abbrev own_walks : (wild : ℕ → Bool) → Walks wild run.units (ready_logins run.initiators run.ready) start Ground (Over start) (All wild)
    own_walks wild = walks wild run.units (ready_logins run.initiators run.ready) has start

    abbrev opened : (wild : ℕ → Bool) → (i : ℕ) → wild i ≡ false → OpensLaw
    opened wild i own = opens_law

    lines_walked : (wild : ℕ → Bool) → OpenBefore line run run.entries → ((i : ℕ) → wild i ≡ false → IsCalm (history_of line run) i) → All wild (history_of line run) last.world
    lines_walked wild so_far calm = walk_after wild Ground Over (All wild) ground_law over_law line run r.few has small size (own_walks wild) (first wild) run.entries r.short r.entries r.lines (λ i own. so_far) calm

    pub writes_after : OpenBefore line run run.entries → (i : ℕ) → i < length last.world.initiators → IsCalm (history_of line run) i → CondHere (length last.world.initiators) i (history_of line run) → EachMoment (WriteSo given start i) (history_of line run)
    writes_after so_far i b calm c = (lines_walked (injectors (history_of line run)) so_far (λ j own. own) i b calm c).0

    module _ (next : ℕ) (event : Event) (d : DeliversMore event) (told : List (Option Told)) (m : MayAll told (begun last)) (so_far : OpenBetween line run next event told) where
      abbrev end : WorldState
      end = (after_all told (begun last)).world

      abbrev ms : List Moment
      ms = map said end.fresh ++ asked next event ∷ history_of line run

      abbrev wild : ℕ → Bool
      wild = injectors ms

      first_calm : (i : ℕ) → wild i ≡ false → IsCalm (history_of line run) i
      first_calm i own = asked_calm next event (history_of line run) i (calm_before (map said end.fresh) (asked next event ∷ history_of line run) i own)

      x : EarlyAfter wild (opened wild) line run r.few has small size run.entries last.world
      x = early_after wild (opened wild) line run r.few has small size run.entries r.short r.entries r.lines (λ i own. so_far.before) (λ i own. so_far.begins) first_calm

      walked : All wild ms end
      walked =
          let p = subst (λ h. All wild h last.world) (sym x.so_far.is) (lines_walked wild so_far.before first_calm) in
          subst (λ h. All wild (map said end.fresh ++ asked next event ∷ h) end) x.so_far.is
          (walk_at wild Ground Over (All wild) ground_law over_law line run r.few has small size (own_walks wild) (first wild) run.entries r.short r.entries r.lines (λ i own. so_far.before) x (λ i own. so_far.begins) first_calm next event d told m (λ i own. so_far.goes)
          (λ i own. subst (λ h. IsCalm (map said end.fresh ++ asked next event ∷ h) i) (sym x.so_far.is) own) p)

      pub writes_between : (i : ℕ) → i < length end.initiators → IsCalm ms i → CondHere (length end.initiators) i ms → EachMoment (WriteSo given start i) ms
      writes_between i b calm c = (walked i b calm c).0

-- ---- the blocks that name a management ORB
module _ (given : Type 0) (start : List Disk) (i : ℕ) where
  place_of : (moment : Moment) (old : List Moment) → WriteSo given start i moment old → PlaceSo start i moment old
  place_of (said (notes.Sent serial generation zero to bytes)) old h = λ to_is place x. h to_is (Some place) x
  place_of (said (notes.Sent serial generation (suc j) to bytes)) old h = tt
  place_of _ old h = tt

  places_of : (old : List Moment) → EachMoment (WriteSo given start i) old → EachMoment (PlaceSo start i) old
  places_of [] h = tt
  places_of (moment ∷ old) h = (place_of moment old h.0, places_of old h.1)

abbrev No : List Disk → ℕ → ℕ → List Moment → Type 0
No first n i past = Unit {0}

pub fifo_writes_law : FifoWritesLaw
fifo_writes_law = record {
  after_lines = λ line run r has small size so_far i b calm.
      places_of ⊥ run.start.disks i (history_of line run) (writes_after ⊥ No (λ start n j later past c. tt) (λ g. absurd g) line run r has small size so_far i (subst (λ n. i < n) (sym (count_after run run.entries)) b) calm tt);
  between = λ line run r has small size next most told m so_far i b calm.
      let last = after (beginning run) run.entries in
      places_of ⊥ run.start.disks i _
      (writes_between ⊥ No (λ start n j later past c. tt) (λ g. absurd g) line run r has small size next (more_deliveries most) (delivers most) told m so_far i (subst (λ n. i < n) (sym (count_between told last)) (subst (λ n. i < n) (sym (count_after run run.entries)) b)) calm tt);
}

-- ---- what is written into response buffers
module _ (start : List Disk) (i : ℕ) where
  response_at : (moment : Moment) (old : List Moment) → WriteSo (Unit {0}) start i moment old → BufferSo start i moment old
  response_at (said (notes.Sent serial generation zero to bytes)) old h = λ to_is current x. h to_is None (tt, x)
  response_at (said (notes.Sent serial generation (suc j) to bytes)) old h = tt
  response_at _ old h = tt

  responses_of : (old : List Moment) → EachMoment (WriteSo (Unit {0}) start i) old → EachMoment (BufferSo start i) old
  responses_of [] h = tt
  responses_of (moment ∷ old) h = (response_at moment old h.0, responses_of old h.1)

-- at every place whose history is so that no FIFO is there, before it and at it
pub buffers_everywhere : (Cond : List Disk → ℕ → ℕ → List Moment → Type 0) → ((start : List Disk) → IsClosed (Cond start)) → EveryPlace (λ start past w. (i : ℕ) → i < length w.initiators → Cond start (length w.initiators) i past → AreBuffersClear i w) → EveryPlace (λ start past w. (i : ℕ) → i < length w.initiators → IsCalm past i → Cond start (length w.initiators) i past → EachMoment (BufferSo start i) past)
buffers_everywhere Cond closed clear = record {
  after_lines = λ line run r has small size so_far i b calm c. responses_of run.start.disks i (history_of line run) (writes_after (Unit {0}) Cond closed (λ g. clear) line run r has small size so_far i b calm c);
  between = λ line run r has small size next most told m so_far i b calm c.
      responses_of run.start.disks i _ (writes_between (Unit {0}) Cond closed (λ g. clear) line run r has small size next (more_deliveries most) (delivers most) told m so_far i b calm c);
}
