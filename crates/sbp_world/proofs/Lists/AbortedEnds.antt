-- In every run in which no initiator injected packets, and no line aborts an ORB, no ORB ends as aborted: no agent has its ORB marked.
use Rattle.sbp_world.proofs.Words.Std.{arith, ◌≡◌, ◌∙◌, sym, ap, subst, ℕ, ◌<◌, inl, Bool, true, false, List, [], ◌∷◌, ◌++◌, map, length, Option, Some, None}
use Rattle.sbp_world.proofs.Words.Wire.{end_note, ended_note, Event, Note, Moment, asked, said}
use Rattle.sbp_world.proofs.Words.Target.{Machine, reply_step, Disk, Told, desk_at, login_at, answer_in, plain_in}
use Rattle.sbp_world.proofs.Words.Initiator.{StatusKind}
use Rattle.sbp_world.proofs.Words.Laws.{over, target_at, EachMoment}
use Rattle.sbp_world.proofs.Words.World.{AreAgentsAt, has_list, moments_behind, more_deliveries, MayHappen, happens, ready_logins, is_in_flight, may_repeat, Run, beginning, MayNext, delivered_at, delivered_next, lowest, holder, ticket_at, IsLine, Scene, WorldState, begun, without_notes, IsTame, BasedAt}
use Rattle.login_table.proofs.Searching.{within}
use Rattle.orb_layout.specs.declared.status.StatusKind.TheVariants as kinds
use Rattle.sbp_journal.specs.declared.event.Event.TheVariants as events
use Rattle.sbp_journal.specs.declared.note.Note.TheVariants as notes
use Rattle.sbp_target.proofs.Histories.Calling.{Good}
use Rattle.sbp_world.proofs.Agents.CrewRuns.{agents_between_law, agents_run_law}
use Rattle.sbp_world.proofs.Agents.Management.Still.{hist}
use Rattle.sbp_world.proofs.Common.{said_split, untrue}
use Rattle.sbp_world.specs.Settling.{MayAt}
use Rattle.sbp_world.specs.Lists.PlainStatuses.{NoneAborted, NoneAbortedLaw, NoneAborts, NotAbortedAt}
use Rattle.sbp_world.proofs.Lists.AgentFolds.{AreStill, over_still}
use Rattle.sbp_world.proofs.Lists.Clauses.{open_lists_law}
use Rattle.sbp_world.proofs.Lists.Courses.{EveryPlace, Goes, Keeps, at_between, at_lines, by_delivery, by_end, by_line, by_start, more_than_one}
use Rattle.sbp_world.proofs.Lists.EndReads.{listed}
use Rattle.sbp_world.proofs.Lists.Endless.{AllLight, AllPlain, Delivers, IsEndBy, IsPlain, OneEnd, Plainly, acts, delivery_comes, injects, keys, late, light_plain, loses, no_end, one_comes, one_end, resets, sights, ticks}
use Rattle.sbp_world.proofs.Lists.Judging.{goes_next, grown}
use Rattle.sbp_world.proofs.Lists.ListsProved.{closing}
use Rattle.sbp_world.proofs.Lists.LiveTurns.{good as good_target}
use Rattle.sbp_world.proofs.Lists.OwnFifos.{tame_before}
use Rattle.sbp_world.proofs.Lists.RunTells.{served_there}
use Rattle.sbp_world.proofs.Lists.SparedGots.{SparesNow, none_before, spares_everywhere}
use Rattle.sbp_world.proofs.Lists.Turned.{IsOne}
use Rattle.sbp_world.proofs.Lists.UnitLaws.{Facts, facts_everywhere}
use Rattle.sbp_world.proofs.Lists.UnmarkedHistory.{Clean, SparesAt, all_clean, are_clean}
use Rattle.sbp_world.proofs.Lists.UnmarkedSteps.{IsClean, IsUnmarked, is_aborted, reply_clean}

-- ---- an end, by what is known of the place before it
module _ (start : List Disk) (past : List Moment) (s : Scene) (good : Good s.world.target) (agents : AreAgentsAt start past s.world) (spares : EachMoment (SparesAt start) past) where
  abbrev w : WorldState
  w = s.world

  at_rest : AreStill Clean (over (target_at start past))
  at_rest = over_still Clean are_clean.lasting (target_at start past) (all_clean start past spares)

  unmarked : (place : ℕ) → place < 8 → has_list (desk_at w.target place).agent.phase ≡ true → IsUnmarked (desk_at w.target place).agent
  unmarked place small has = sym ((agents.are.each place small).machine.aborted has) ∙ at_rest.agents place

  module _ (run : Option Told) (serial : ℕ) (early : List Note) (ended : Note) (r : IsEndBy s run serial early ended) where
    abbrev M : Machine
    M = (desk_at w.target r.place).agent

    there : login_at w.target r.place ≡ Some r.by.login
    there = served_there w.target r.place r.by.login r.by.served

    small : r.place < 8
    small = let l = within w.target.logins.places r.place r.by.login there in let c = good.table.sound.size in omega (arith, l, c)

    has_one : has_list M.phase ≡ true
    has_one = listed M r.place (plain_in w.target.units s.media.disks r.by.login.unit) run r.by.which (answer_in r.by.packet) r.status r.by.ended

    clean : IsClean (reply_step M r.place (plain_in w.target.units s.media.disks r.by.login.unit) run r.by.which (answer_in r.by.packet))
    clean = reply_clean M r.place (plain_in w.target.units s.media.disks r.by.login.unit) run r.by.which (answer_in r.by.packet) (unmarked r.place small has_one)

    status_not : is_aborted (Some r.status) ≡ false
    status_not = sym (ap is_aborted r.by.ended) ∙ clean.ends

    by_status : (status : StatusKind) → is_aborted (Some status) ≡ false → (now : List Moment) → NotAbortedAt (said (ended_note (holder w r.place) (ticket_at w r.place r.orb) status)) now
    by_status kinds.Aborted e now = untrue (sym e)
    by_status kinds.Good e now = tt
    by_status (kinds.Check sense) e now = tt
    by_status kinds.Failed e now = tt
    by_status kinds.Dummy e now = tt
    by_status (kinds.Illegal meaning) e now = tt
    by_status (kinds.Management meaning) e now = tt

    pub end_not : (now : List Moment) → NotAbortedAt (said ended) now
    end_not now = subst (λ note. NotAbortedAt (said note) now) (sym r.is) (by_status r.status status_not now)

-- ---- notes of no end
plain_at : (note : Note) → IsPlain note → (past : List Moment) → NotAbortedAt (said note) past
plain_at (notes.Ended i list number kinds.Aborted) h past = untrue (sym h)
plain_at note h past = tt

plain_law : (more : List Note) → AllPlain more → (past : List Moment) → NoneAborted past → NoneAborted (map said more ++ past)
plain_law [] h past l = l
plain_law (note ∷ more) h past l = (plain_at note h.0 (map said more ++ past), plain_law more h.1 past l)

plainly : (past : List Moment) (old new : List Note) → Plainly old new → NoneAborted (map said old ++ past) → NoneAborted (map said new ++ past)
plainly past old new q l = subst (λ ns. NoneAborted (map said ns ++ past)) q.is (subst NoneAborted (sym (said_split q.more old past)) (plain_law q.more q.plain (map said old ++ past) l))

light_law : (early : List Note) → AllLight early → (past : List Moment) → NoneAborted past → NoneAborted (map said early ++ past)
light_law [] h past l = l
light_law (note ∷ early) h past l = (plain_at note (light_plain note h.0) (map said early ++ past), light_law early h.1 past l)

end_at : (done : Bool) (past : List Moment) → NotAbortedAt (said (end_note done)) past
end_at true past = tt
end_at false past = tt

-- a packet is delivered
delivers : (past : List Moment) (End : ℕ → List Note → Note → Type 0) (old new : List Note) → ((serial : ℕ) (early : List Note) (ended : Note) → End serial early ended → AllLight early × ((now : List Moment) → NotAbortedAt (said ended) now)) → Delivers End old new → NoneAborted (map said old ++ past) → NoneAborted (map said new ++ past)
delivers past End old new f (no_end q) l = plainly past old new q l
delivers past End old new f (one_end serial early ended x q) l =
    let is = f serial early ended x in
    let behind = early ++ notes.Got serial ∷ old in
    let before : NoneAborted (map said behind ++ past) = subst NoneAborted (sym (said_split early (notes.Got serial ∷ old) past)) (light_law early is.0 (said (notes.Got serial) ∷ (map said old ++ past)) (tt, l)) in
    plainly past (ended ∷ behind) new q (is.1 (map said behind ++ past), before)

-- ---- a turn
module _ (start : List Disk) (past : List Moment) (s : Scene) (good : Good s.world.target) (agents : AreAgentsAt start (hist past s.world) s.world) (spares : EachMoment (SparesAt start) (hist past s.world)) where
  abbrev ms : List Moment
  ms = hist past s.world

  told_so : (run : Option Told) (serial : ℕ) (early : List Note) (ended : Note) → IsEndBy s run serial early ended → AllLight early × ((now : List Moment) → NotAbortedAt (said ended) now)
  told_so run serial early ended r = (r.light, λ now. end_not start ms s good agents spares run serial early ended r now)

  -- a line
  agents_begun : AreAgentsAt start ms (begun s).world
  agents_begun = record { requests = agents.requests; are = agents.are; known = agents.known }

  module _ (line : ℕ) (event : Event) where
    begun_so : (run : Option Told) (serial : ℕ) (early : List Note) (ended : Note) → IsEndBy (begun s) run serial early ended → AllLight early × ((now : List Moment) → NotAbortedAt (said ended) now)
    begun_so run serial early ended r = (r.light, λ now. end_not start ms (begun s) good agents_begun spares run serial early ended r now)

    told_by : (packet : ℕ) (again : Bool) (told : List (Option Told)) (serial : ℕ) (early : List Note) (ended : Note) → OneEnd (begun s) good line packet again told serial early ended → AllLight early × ((now : List Moment) → NotAbortedAt (said ended) now)
    told_by packet again [] serial early ended r = absurd r
    told_by packet again (run ∷ more) serial early ended r = begun_so run serial early ended r

    quiet : (new : List Note) → Plainly [] new → NoneAborted ms → NoneAborted (map said new ++ asked line event ∷ ms)
    quiet new q l = plainly (asked line event ∷ ms) [] new q (tt, l)

    one : (packet : ℕ) (again : Bool) (told : List (Option Told)) (new : List Note) → Delivers (OneEnd (begun s) good line packet again told) [] new → NoneAborted ms → NoneAborted (map said new ++ asked line event ∷ ms)
    one packet again told new d l = delivers (asked line event ∷ ms) (OneEnd (begun s) good line packet again told) [] new (told_by packet again told) d (tt, l)

  abbrev v : WorldState
  v = without_notes s.world

  line_on : (line : ℕ) (event : Event) (told : List (Option Told)) → IsOne event → IsLine event (length s.world.initiators) → MayHappen event told s → NoneAborted ms → NoneAborted (hist (asked line event ∷ ms) (happens line event told s).world)
  unfolding happens MayHappen
  line_on line (events.Begin initiators is_ready) told o f m l = absurd f
  line_on line (events.Act i action) told o f m l = quiet line (events.Act i action) _ (acts v good.mid.size line i action) l
  line_on line (events.Reset physical) told o f m l = quiet line (events.Reset physical) _ (resets v good.mid.size physical) l
  line_on line (events.See node) told o f m l = quiet line (events.See node) _ (sights v good.mid.size node) l
  line_on line (events.Deliver serial) told o f m l = one line (events.Deliver serial) serial false told _ (one_comes (begun s) good line serial false (is_in_flight serial (begun s).world) told m) l
  line_on line (events.Repeat serial) told o f m l = one line (events.Repeat serial) serial true told _ (one_comes (begun s) good line serial true (may_repeat serial (begun s).world) told m) l
  line_on line (events.Lose serial) told o f m l = quiet line (events.Lose serial) _ (loses v good.mid.size line serial) l
  line_on line (events.Timeout serial) told o f m l = quiet line (events.Timeout serial) _ (late v good.mid.size line serial) l
  line_on line (events.Step most) told o f m l = absurd o
  line_on line events.Settle told o f m l = absurd o
  line_on line events.Tick told o f m l = quiet line events.Tick _ (ticks v good.mid.size) l
  line_on line (events.Inject i bytes) told o f m l = quiet line (events.Inject i bytes) _ (injects v good.mid.size line i bytes) l
  line_on line (events.Key unit key) told o f m l = quiet line (events.Key unit key) _ (keys v good.mid.size line unit key) l

  -- a delivery
  lowest_on : (one : Option Told) (o : Option ℕ) → MayAt o one s → NoneAborted ms → NoneAborted (hist past (delivered_at o one s).world)
  lowest_on run None m l = absurd m
  lowest_on run (Some serial) m l = delivers past (IsEndBy s run) s.world.fresh (delivered_at (Some serial) run s).world.fresh (told_so run) (delivery_comes s good serial false run m) l

  next_on : (one : Option Told) → MayNext one s → NoneAborted ms → NoneAborted (hist past (delivered_next one s).world)
  unfolding delivered_next MayNext
  next_on run m l = lowest_on run (lowest s.world) m l

goes_on : (start : List Disk) (past : List Moment) (s : Scene) (later : List Moment) (t : Scene) → Goes past s later t → Good s.world.target → AreAgentsAt start (hist past s.world) s.world → EachMoment (SparesAt start) (hist past s.world) → NoneAborted (hist past s.world) → NoneAborted (hist later t.world)
goes_on start _ _ _ _ (by_line past s line event told o f m) good agents spares l = line_on start past s good agents spares line event told o f m l
goes_on start _ _ _ _ (by_start past s line most) good agents spares l = (tt, l)
goes_on start _ _ _ _ (by_delivery past s one m none) good agents spares l = next_on start past s good agents spares one m l
goes_on start _ _ _ _ (by_end past s done) good agents spares l = (end_at done (hist past s.world), l)

-- ---- at each place of every run
record Known (start : List Disk) (past : List Moment) (w : WorldState) : Type 0 where
  facts : Facts start past w
  agents : AreAgentsAt start past w
  spares : SparesNow start past w

known_everywhere : EveryPlace Known
known_everywhere = record {
  after_lines = λ line run r has small size so_far. record {
    facts = facts_everywhere.after_lines line run r has small size so_far;
    agents = agents_run_law line run r.few has small size r.short r.entries r.lines;
    spares = spares_everywhere.after_lines line run r has small size so_far;
  };
  between = λ line run r has small size next most told m so_far. record {
    facts = facts_everywhere.between line run r has small size next most told m so_far;
    agents = agents_between_law line run r.few has small size r.short r.entries r.lines next (more_deliveries most) (more_than_one most) told m;
    spares = spares_everywhere.between line run r has small size next most told m so_far;
  };
}

abbrev AbortedAt : List Moment → WorldState → Type 0
AbortedAt past w = IsTame past → NoneAborts past → NoneAborted past

all_not : (units ready : ℕ) → 0 < units → (start : List Disk) → Keeps units ready start (Known start) AbortedAt
all_not units ready has start past s later t lines more g h h_now q q_now had tame none =
    let before = hist past s.world in
    let x = grown before (hist later t.world) (goes_next past s later t g) in
    let tame_old : IsTame before = tame_before x.new before (subst IsTame (sym x.is) tame) in
    let none_old : NoneAborts before = none_before x.new before (subst NoneAborts (sym x.is) none) in
    let based : (i : ℕ) → i < length s.world.initiators → EachMoment (BasedAt i) before = λ i l. (q.facts.done i l (tame_old i, inl tame_old)).based in
    goes_on start past s later t g (good_target units ready has start s.world h) q.agents (q.spares tame_old q.facts.shorts based none_old) (had tame_old none_old)

first_not : (line : ℕ) (run : Run) → AbortedAt (moments_behind line run []) (beginning run).world
first_not line run tame none = (tt, (tt, tt))

not_everywhere : EveryPlace (λ start past w. AbortedAt past w)
not_everywhere = record {
  after_lines = λ line run r has small size so_far.
      at_lines Known AbortedAt known_everywhere line run r.few has small size (all_not run.units (ready_logins run.initiators run.ready) has run.start.disks) (first_not line run) r so_far;
  between = λ line run r has small size next most told m so_far.
      at_between Known AbortedAt known_everywhere line run r.few has small size (all_not run.units (ready_logins run.initiators run.ready) has run.start.disks) (first_not line run) r next most told m so_far;
}

pub none_aborted_law : NoneAbortedLaw
none_aborted_law = record {
  after_lines = λ line run r has small size tame none. not_everywhere.after_lines line run r has small size (closing.before open_lists_law line run r has small size (inl tame)) tame none;
  between = λ line run r has small size next most told m tame none. not_everywhere.between line run r has small size next most told m (closing.between open_lists_law line run r has small size next (more_deliveries most) (more_than_one most) told m (inl tame)) tame none;
}
