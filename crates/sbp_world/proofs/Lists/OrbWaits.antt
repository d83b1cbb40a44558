-- At each place of a run the agents of the target waited for what they asked for as each packet was got; so each agent has an ORB that a response brought.
use Rattle.sbp_world.proofs.Words.Std.{◌≡◌, ◌∙◌, refl, sym, ap, subst, ◌<◌, ℕ, Bool, true, false, List, [], ◌∷◌, ◌++◌, map, Option, Some, None}
use Rattle.sbp_world.proofs.Words.Wire.{end_note, Moment, asked, said, Transaction, Terms, terms, Event, Note}
use Rattle.sbp_world.proofs.Words.Target.{Which, Disk, Told}
use Rattle.sbp_world.proofs.Words.Initiator.{Ask, Nothing}
use Rattle.sbp_world.proofs.Words.Laws.{fifo_in, begun_in, waits_for, Agent, Reply, Target, agent_at, agent_over, for_agent, initiator_at, login_at, over, purpose_of, taken_on, target_at, EachMoment}
use Rattle.sbp_world.proofs.Words.World.{AreAskedAt, HasAsked, WaitsForAsked, serial_of, more_deliveries, MayHappen, happens, ready_logins, is_in_flight, may_repeat, MayNext, delivered_at, delivered_next, lowest, Scene, WorldState, begun, without_notes, AskedAsGot, IsBrought}
use Rattle.sbp_world.proofs.Agents.AskedRuns.{asked_between_law, asked_run_law}
use Rattle.sbp_world.proofs.Agents.Management.Still.{hist}
use Rattle.sbp_journal.specs.declared.event.Event.TheVariants as events
use Rattle.sbp_journal.specs.declared.note.Note.TheVariants as notes
use Rattle.sbp_world.specs.Settling.{MayAt}
use Rattle.sbp_world.proofs.Lists.Courses.{EveryPlace, Goes, Keeps, at_between, at_lines, by_delivery, by_end, by_line, by_start, more_than_one}
use Rattle.sbp_world.proofs.Lists.OrbFolds.{AreReading}
use Rattle.sbp_world.proofs.Lists.OrbReading.{reading}
use Rattle.sbp_world.proofs.Lists.Quiet.{AllQuiet, Comes, IsQuiet, Quietly, acts, comes, delivery_comes, injects, keys, late, loses, nothing, one_comes, quiet_none, resets, sights, ticks}
use Rattle.sbp_world.proofs.Lists.Turned.{IsOne}
use Rattle.sbp_world.proofs.Common.{said_joined}
use Rattle.sbp_world.proofs.Agents.Asides.{one_twice}

-- ---- a turn that is over twice

agents_twice : (agents : List Agent) → map agent_over (map agent_over agents) ≡ map agent_over agents
agents_twice [] = refl
agents_twice (a ∷ agents) = ap (λ x. x ∷ map agent_over (map agent_over agents)) (one_twice a) ∙ ap (λ xs. agent_over a ∷ xs) (agents_twice agents)

pub taken_none : (reply : Option Reply) (t : Target) → t.reply ≡ reply → (taken_on None reply t).reply ≡ None
taken_none None t e = e
taken_none (Some reply) t e = refl

pub over_twice : (t : Target) → over (over t) ≡ over t
over_twice t =
    let x = over t in
    ap (λ r. record (taken_on None r (over t)) { agents = map agent_over (taken_on None r (over t)).agents; manager_asks = Nothing }) (taken_none t.reply t refl)
    ∙ ap (λ xs. record (over t) { agents = xs }) (agents_twice (taken_on None t.reply t).agents)

-- ---- as a line begins that delivers a packet
pub waits_same : (t : Terms) (r : Bool) (x : Option Transaction) (serial : ℕ) → waits_for (record t { repeats = r }) x serial ≡ waits_for t x serial
waits_same t r None serial = refl
waits_same t r (Some u) serial = refl

pub has_same : (t : Terms) (r : Bool) (initiator fifo serial : ℕ) (ask : Ask) (is_status : Bool) → HasAsked t initiator fifo serial ask is_status → HasAsked (record t { repeats = r }) initiator fifo serial ask is_status
has_same t r initiator fifo serial ask is_status h = record {
  from = h.from;
  to = h.to;
  under_way = waits_same t r (begun_in (t.sent serial)) serial ∙ h.under_way;
  access = h.access;
  is = h.is;
  asks = h.asks;
}

asked_same : (t : Terms) (r : Bool) (initiator fifo : ℕ) (a : Agent) → WaitsForAsked t initiator fifo a → WaitsForAsked (record t { repeats = r }) initiator fifo a
asked_same t r initiator fifo a h = record {
  main = λ serial e. has_same t r initiator fifo serial _ _ (h.main serial e);
  ahead = λ serial e. has_same t r initiator fifo serial _ _ (h.ahead serial e);
  bytes = h.bytes;
}

module _ (start : List Disk) where
  abbrev E : List Moment → Type 0
  E past = EachMoment (AskedAsGot start) past

  module _ (past : List Moment) (a : AreAskedAt start past) where
    abbrev T : Target
    T = over (target_at start past)

    handed_twice : (serial place : ℕ) (which : Which) → purpose_of (over T) serial ≡ for_agent place which → (place < 8) × (serial_of which (agent_at (over T) place) ≡ Some serial)
    handed_twice = subst (λ (t : Target). (serial place : ℕ) (which : Which) → purpose_of t serial ≡ for_agent place which → (place < 8) × (serial_of which (agent_at t place) ≡ Some serial)) (sym (over_twice (target_at start past))) a.handed

    all_twice : (place : ℕ) → place < 8 → WaitsForAsked (terms past) (initiator_at (over T) (terms past) place) (fifo_in (login_at (over T) place)) (agent_at (over T) place)
    all_twice = subst (λ (t : Target). (place : ℕ) → place < 8 → WaitsForAsked (terms past) (initiator_at t (terms past) place) (fifo_in (login_at t place)) (agent_at t place)) (sym (over_twice (target_at start past))) a.all

    pub delivering_asks : (line serial : ℕ) → AreAskedAt start (asked line (events.Deliver serial) ∷ past)
    delivering_asks line serial = record {
      handed = handed_twice;
      all = λ place b. asked_same (terms past) false (initiator_at (over T) (terms past) place) (fifo_in (login_at (over T) place)) (agent_at (over T) place) (all_twice place b);
    }

    pub repeating_asks : (line serial : ℕ) → AreAskedAt start (asked line (events.Repeat serial) ∷ past)
    repeating_asks line serial = record {
      handed = handed_twice;
      all = λ place b. asked_same (terms past) true (initiator_at (over T) (terms past) place) (fifo_in (login_at (over T) place)) (agent_at (over T) place) (all_twice place b);
    }

  -- ---- a history goes on
  quiet_asks : (note : Note) (past : List Moment) → IsQuiet note → AskedAsGot start (said note) past
  quiet_asks (notes.Got serial) past q = absurd q
  quiet_asks note past q = tt

  each_quiet : (more : List Note) (past : List Moment) → AllQuiet more → E past → E (map said more ++ past)
  each_quiet [] past q e = e
  each_quiet (note ∷ more) past q e = (quiet_asks note (map said more ++ past) q.0, each_quiet more past q.1 e)

  quietly : (old new : List Note) (past : List Moment) → Quietly old new → E (map said old ++ past) → E (map said new ++ past)
  quietly old new past q e = subst E (said_joined q.more old past ∙ ap (λ ns. map said ns ++ past) q.is) (each_quiet q.more (map said old ++ past) q.quiet e)

  got_asks : (note : Note) (past : List Moment) → AreAskedAt start past → AskedAsGot start (said note) past
  got_asks (notes.Got serial) past a = a
  got_asks note past a = tt

  it_comes : (old new : List Note) (past : List Moment) → Comes old new → AreAskedAt start (map said old ++ past) → E (map said old ++ past) → E (map said new ++ past)
  it_comes old new past (nothing e) a h = subst (λ ns. E (map said ns ++ past)) (sym e) h
  it_comes old new past (comes note q) a h = quietly (note ∷ old) new past q (got_asks note (map said old ++ past) a, h)

  module _ (past : List Moment) (s : Scene) (a : AreAskedAt start (hist past s.world)) (e : E (hist past s.world)) where
    abbrev H : List Moment
    H = hist past s.world

    begins : (line : ℕ) (event : Event) → E (asked line event ∷ H)
    begins line event = (tt, e)

    one_asks : (line : ℕ) (event : Event) (told : List (Option Told)) → IsOne event → MayHappen event told s → E (hist (asked line event ∷ H) (happens line event told s).world)
    unfolding happens MayHappen
    one_asks line (events.Begin initiators is_ready) told o m = quietly [] _ (asked line (events.Begin initiators is_ready) ∷ H) (quiet_none []) (begins line (events.Begin initiators is_ready))
    one_asks line (events.Act i action) told o m = quietly [] _ (asked line (events.Act i action) ∷ H) (acts (without_notes s.world) line i action) (begins line (events.Act i action))
    one_asks line (events.Reset physical) told o m = quietly [] _ (asked line (events.Reset physical) ∷ H) (resets (without_notes s.world) physical) (begins line (events.Reset physical))
    one_asks line (events.See node) told o m = quietly [] _ (asked line (events.See node) ∷ H) (sights (without_notes s.world) node) (begins line (events.See node))
    one_asks line (events.Deliver serial) told o m = it_comes [] _ (asked line (events.Deliver serial) ∷ H) (one_comes (begun s) line serial false (is_in_flight serial (begun s).world) told m) (delivering_asks H a line serial) (begins line (events.Deliver serial))
    one_asks line (events.Repeat serial) told o m = it_comes [] _ (asked line (events.Repeat serial) ∷ H) (one_comes (begun s) line serial true (may_repeat serial (begun s).world) told m) (repeating_asks H a line serial) (begins line (events.Repeat serial))
    one_asks line (events.Lose serial) told o m = quietly [] _ (asked line (events.Lose serial) ∷ H) (loses (without_notes s.world) line serial) (begins line (events.Lose serial))
    one_asks line (events.Timeout serial) told o m = quietly [] _ (asked line (events.Timeout serial) ∷ H) (late (without_notes s.world) line serial) (begins line (events.Timeout serial))
    one_asks line (events.Step count) told o m = absurd o
    one_asks line events.Settle told o m = absurd o
    one_asks line events.Tick told o m = quietly [] _ (asked line events.Tick ∷ H) (ticks (without_notes s.world)) (begins line events.Tick)
    one_asks line (events.Inject i bytes) told o m = quietly [] _ (asked line (events.Inject i bytes) ∷ H) (injects (without_notes s.world) line i bytes) (begins line (events.Inject i bytes))
    one_asks line (events.Key unit key) told o m = quietly [] _ (asked line (events.Key unit key) ∷ H) (keys (without_notes s.world) line unit key) (begins line (events.Key unit key))

    lowest_asks : (one : Option Told) (o : Option ℕ) → MayAt o one s → E (hist past (delivered_at o one s).world)
    lowest_asks one None m = absurd m
    lowest_asks one (Some serial) m = it_comes s.world.fresh _ past (delivery_comes s serial false one m) a e

    next_asks : (one : Option Told) → MayNext one s → E (hist past (delivered_next one s).world)
    unfolding delivered_next MayNext
    next_asks one m = lowest_asks one (lowest s.world) m

  turn_asks : (past : List Moment) (s : Scene) (later : List Moment) (t : Scene) → Goes past s later t → AreAskedAt start (hist past s.world) → E (hist past s.world) → E (hist later t.world)
  turn_asks _ _ _ _ (by_line past s line event told one fit may) a e = one_asks past s a e line event told one may
  turn_asks _ _ _ _ (by_start past s line most) a e = (tt, e)
  turn_asks _ _ _ _ (by_delivery past s one may no_act) a e = next_asks past s a e one may
  turn_asks _ _ _ _ (by_end past s done) a e = quietly s.world.fresh _ past (ends done s.world.fresh) e
    where
      ends : (done : Bool) (ns : List Note) → Quietly ns (end_note done ∷ ns)
      ends true ns = record { more = notes.Settled ∷ []; is = refl; quiet = (tt, tt) }
      ends false ns = record { more = notes.Stopped ∷ []; is = refl; quiet = (tt, tt) }

-- ---- at each place of a run
abbrev pub Asks : List Disk → List Moment → WorldState → Type 0
Asks start past w = AreAskedAt start past

asks_everywhere : EveryPlace Asks
asks_everywhere = record {
  after_lines = λ line run r has small size so_far. asked_run_law line run r.few has small size r.short r.entries r.lines;
  between = λ line run r has small size next most told m so_far. asked_between_law line run r.few has small size r.short r.entries r.lines next (more_deliveries most) (more_than_one most) told m;
}

all_asks : (units ready : ℕ) (start : List Disk) → Keeps units ready start (Asks start) (λ past w. EachMoment (AskedAsGot start) past)
all_asks units ready start past s later t lines more g h h_now a a_now e = turn_asks start past s later t g a e

pub asked_everywhere : EveryPlace (λ start past w. EachMoment (AskedAsGot start) past)
asked_everywhere = record {
  after_lines = λ line run r has small size so_far.
      at_lines Asks (λ past w. EachMoment (AskedAsGot run.start.disks) past) asks_everywhere line run r.few has small size (all_asks run.units (ready_logins run.initiators run.ready) run.start.disks) (tt, (tt, tt)) r so_far;
  between = λ line run r has small size next most told m so_far.
      at_between Asks (λ past w. EachMoment (AskedAsGot run.start.disks) past) asks_everywhere line run r.few has small size (all_asks run.units (ready_logins run.initiators run.ready) run.start.disks) (tt, (tt, tt)) r next most told m so_far;
}

-- so each agent has an ORB that a response brought
pub brought_everywhere : EveryPlace (λ start past w. AreReading (IsBrought start past) (target_at start past))
brought_everywhere = record {
  after_lines = λ line run r has small size so_far. reading run.start.disks _ (asked_everywhere.after_lines line run r has small size so_far);
  between = λ line run r has small size next most told m so_far. reading run.start.disks _ (asked_everywhere.between line run r has small size next most told m so_far);
}
