-- In every run in which no initiator injected packets, and no line aborts an ORB, no reply to the management operation decides on an abort: the ORB that it decides was made by an initiator in a line of an action.
use Rattle.sbp_world.proofs.Words.Std.{arith, ◌≡◌, ◌∙◌, refl, sym, ap, subst, ℕ, suc, ◌+◌, ◌^◌, ◌<◌, List, [], ◌∷◌, ◌++◌, map, length, Option, Some, append_assoc, false}
use Rattle.sbp_world.proofs.Words.Wire.{Access, Event, Note, Moment, asked, said, Sending, terms}
use Rattle.sbp_world.proofs.Words.Target.{Operation, source_in, Disk}
use Rattle.sbp_world.proofs.Words.Initiator.{ManagementOrb, management_orb, Payload}
use Rattle.sbp_world.proofs.Words.Laws.{answer_in, answered_at, id_for, packet_at, packet_in, target_at, EachMoment, event_of}
use Rattle.sbp_world.proofs.Words.World.{read_access, Office, moments_behind, ready_logins, Run, beginning, WorldState, WasAsked, AnswersAt, IsTame, BasedAt, AreShort}
use Rattle.mgmt_agent.specs.declared.operation.Phase.{Phase}
use Rattle.mgmt_agent.specs.declared.operation.Phase.TheVariants as phases
use Rattle.mgmt_agent.specs.Machine.{Machine}
use Rattle.sbp_journal.specs.declared.event.Action.TheVariants as actions
use Rattle.sbp_journal.specs.declared.event.Event.TheVariants as events
use Rattle.sbp_journal.specs.declared.note.Note.TheVariants as notes
use Rattle.sbp_world.proofs.Agents.Management.Holding.{Holding}
use Rattle.sbp_world.proofs.Agents.Management.Offices.{over_keeps}
use Rattle.sbp_world.proofs.Agents.Management.Still.{hist}
use Rattle.sbp_world.proofs.Common.{none_is}
use Rattle.sbp_world.specs.Lists.PlainStatuses.{AbortsNone, NoneAborts}
use Rattle.sbp_world.specs.Lists.ReadOrbs.{IsAnswered}
use Rattle.sbp_world.proofs.Lists.BufferClears.{Ground, ground_everywhere}
use Rattle.sbp_world.proofs.Lists.ContentManages.{bound}
use Rattle.sbp_world.proofs.Lists.Courses.{EveryPlace, Keeps, at_between, at_lines}
use Rattle.sbp_world.proofs.Lists.Fair.{Told, told_everywhere}
use Rattle.sbp_world.proofs.Lists.Gots.{Next, next, next_line, same_still}
use Rattle.sbp_world.proofs.Lists.Judging.{goes_next, grown}
use Rattle.sbp_world.proofs.Lists.KeptTurns.{id_is}
use Rattle.sbp_world.proofs.Lists.LiveRuns.{goes_size}
use Rattle.sbp_world.proofs.Lists.LiveSteps.{id_in}
use Rattle.sbp_world.proofs.Lists.MadeOps.{HasMade, made, never_unread, reads_low, stood_made, unread}
use Rattle.sbp_world.proofs.Lists.MadeRuns.{AreMadeAt, made_everywhere}
use Rattle.sbp_world.proofs.Lists.ManageSends.{opened_terms}
use Rattle.sbp_world.proofs.Lists.OfficeWrites.{answered, answers_before}
use Rattle.sbp_world.proofs.Lists.OpenedReplied.{pays_as}
use Rattle.sbp_world.proofs.Lists.OrbsMade.{IsMade, abort_made}
use Rattle.sbp_world.proofs.Lists.OrbsRead.{access_there, in_phase}
use Rattle.sbp_world.proofs.Lists.OwnFifos.{tame_before}
use Rattle.sbp_world.proofs.Lists.OwnGots.{answered_same}
use Rattle.sbp_world.proofs.Lists.OwnOps.{IsOwnOp, short_from}
use Rattle.sbp_world.proofs.Lists.Quiet.{AllQuiet, IsQuiet}
use Rattle.sbp_world.proofs.Lists.StatusKnown.{each_from}
use Rattle.sbp_world.proofs.Lists.StatusLogins.{each_there as each_at}
use Rattle.sbp_world.proofs.Lists.UnmarkedDecisions.{NoAbort, NoAbortIn}
use Rattle.sbp_world.proofs.Lists.UnmarkedHistory.{SparesAll, SparesAt}

-- ---- lines that abort none
pub none_before : (later past : List Moment) → NoneAborts (later ++ past) → NoneAborts past
none_before [] past n = n
none_before (asked line event ∷ later) past n = none_before later past n.1
none_before (said note ∷ later) past n = none_before later past n

line_aborts : (past : List Moment) (i k : ℕ) → event_of past ≡ Some (events.Act i (actions.Abort k)) → NoneAborts past → ⊥
line_aborts [] i k e n = none_is _ e
line_aborts (asked line event ∷ past) i k e n = let same : event ≡ events.Act i (actions.Abort k) = cc in subst AbortsNone same n.0
line_aborts (said note ∷ past) i k e n = line_aborts past i k e n

made_spares : (past : List Moment) (i : ℕ) → i + 1 < 2 ^ 16 → AreShort past → NoneAborts past → (orb : ManagementOrb) → IsMade past i orb → NoAbort orb
made_spares past i nodes shorts none orb m e =
    let x = abort_made past i nodes shorts orb m e in
    line_aborts m.before i x.0 (m.line ∙ ap (λ a. Some (events.Act i a)) x.1) (none_before m.later m.before (subst NoneAborts (sym m.is) none))

-- ---- a packet that is got behind a place
module _ (units ready : ℕ) (has : 0 < units) (start : List Disk) {past : List Moment} {lines : ℕ} (w : WorldState) (h : Holding units ready start past lines w) (g : Ground start (hist past w) w) (ops : AreMadeAt (hist past w) w) (tame : IsTame (hist past w)) (shorts : AreShort (hist past w)) (based : (i : ℕ) → i < length w.initiators → EachMoment (BasedAt i) (hist past w)) (none : NoneAborts (hist past w)) (fair : (terms (hist past w)).injects 0 ≡ false) where
  abbrev before : List Moment
  before = hist past w

  module _ (serial : ℕ) (answers : AnswersAt (said (notes.Got serial)) before) (own : ℕ) (closed : answered_at (terms before) serial ≡ Some own) (manages : (target_at start before).manages ≡ Some own) (op : Operation) (is : (target_at start before).manager.operation ≡ Some op) where
    there : w.target.manager.operation ≡ Some op
    there = ap (λ (m : Machine). m.operation) (sym h.at.agrees.manager) ∙ is

    abbrev i : ℕ
    i = (g.known.held.operation op.source (ap source_in there)).0

    inside : i < length w.initiators
    inside = (g.known.held.operation op.source (ap source_in there)).1.small

    source : op.source ≡ id_for (terms before) 0 (suc i)
    source =
        let of = g.known.held.operation op.source (ap source_in there) in
        let next : i + 1 ≡ suc i = omega arith in
        sym of.1.node_is ∙ ap (λ n. id_for (terms before) 0 n) next

    of_it : op.source ≡ id_in w i
    of_it = source ∙ id_is units ready has start w h i inside

    nodes : i + 1 < 2 ^ 16
    nodes = let few = g.known.wrote.few in let l = inside in omega (arith, l, few)

    own_op : IsOwnOp start before i op
    own_op = g.ops i inside (tame i) shorts (based i inside) op is source

    spared : (orb : ManagementOrb) → IsMade before i orb → NoAbort orb
    spared = made_spares before i nodes shorts none

    -- the ORB that an answer brings
    brought : op.phase ≡ phases.Orb → (bytes : List ℕ) → answer_in (packet_at (terms before) serial) ≡ Payload bytes → IsMade before i (management_orb bytes)
    brought phase bytes pays =
        let a : IsAnswered before i serial own bytes = answered units ready has start w h g i inside op is of_it serial own closed manages (tame i) shorts (based i inside) fair answers bytes pays in
        let was : WasAsked start before own op = g.known.are.each own op (((bound start before g.known.counts).own own manages).0 ∙ is) in
        let reads : was.access ≡ read_access op.orb 32 = in_phase op.phase phases.Orb op was.access phase was.content in
        let b = g.known.places i inside serial own own_op.place was.access bytes own_op.small
        (record {
          read = ap (λ (a : Access). a.is_write) reads;
          block = ap (λ (a : Access). a.is_block) reads;
          from = ap (λ (a : Access). a.offset) reads ∙ own_op.orb;
          size = ap (λ (a : Access). a.count) reads;
        })
        (record {
          own = a.own;
          answers = a.answers;
          of_initiator = a.of_initiator;
          asks = access_there start before g.known.counts own op was;
          reads = ap (λ (a : Access). a.is_write) reads;
          block = ap (λ (a : Access). a.is_block) reads;
          tells = a.tells;
        }) in
        let front = b.later ++ said (notes.Got own) ∷ [] in
        let at : front ++ b.before ≡ before = append_assoc b.later (said (notes.Got own) ∷ []) b.before ∙ b.is in
        let behind = own_op.later own manages in
        let below = b.below in
        stood_made before i own_op.place bytes (record { later = front; earlier = b.before; is = at; bytes_are = b.held; some = own_op.held front b.before at (omega (arith, behind, below)) })

    low : (orb : ManagementOrb) (high : ℕ) → HasMade before i (phases.LowEui orb high) → NoAbort orb
    low orb high (made own keeps m) = subst NoAbort (sym (reads_low orb own high keeps)) (spared own m)
    low orb high (unread keeps) = never_unread orb high keeps

    by_phase : (phase : Phase) → op.phase ≡ phase → NoAbortIn phase (answer_in (packet_at (terms before) serial))
    by_phase phases.Orb f = λ bytes pays. spared (management_orb bytes) (brought f bytes (pays_as (answer_in (packet_at (terms before) serial)) 32 bytes pays))
    by_phase (phases.HighEui orb) f = tt
    by_phase (phases.LowEui orb high) f = λ bytes pays. low orb high (subst (HasMade before i) f (ops i inside (tame i) shorts (based i inside) op there of_it))
    by_phase (phases.Response fifo) f = tt
    by_phase phases.Status f = tt

    pub spares_op : NoAbortIn op.phase (answer_in (packet_at (terms before) serial))
    spares_op = by_phase op.phase refl

  pub spares_there : (serial : ℕ) → AnswersAt (said (notes.Got serial)) before → SparesAll (terms before) serial (target_at start before)
  spares_there serial answers own closed manages op is = spares_op serial answers own closed manages op is

-- ---- as a line begins
module _ (start : List Disk) (line : ℕ) (event : Event) (past : List Moment) (serial : ℕ) where
  abbrev here : List Moment
  here = asked line event ∷ past

  spares_here : SparesAll (terms past) serial (target_at start past) → SparesAll (terms here) serial (target_at start here)
  spares_here g own closed manages op is =
      let office = over_keeps (target_at start past) in
      let same : (terms here).sent ≡ (terms past).sent = (opened_terms event (terms past)).sent in
      let x = g own (sym (answered_same start line event past serial) ∙ closed) (sym (ap (λ (o : Office). o.manages) office) ∙ manages) op (sym (ap (λ (o : Office). o.manager.operation) office) ∙ is) in
      subst (λ (f : ℕ → Option Sending). NoAbortIn op.phase (answer_in (packet_in (f serial)))) (sym same) x

-- ---- a turn
module _ (start : List Disk) (before now : List Moment) (answers : EachMoment AnswersAt now) (good : (serial : ℕ) → AnswersAt (said (notes.Got serial)) before → SparesAll (terms before) serial (target_at start before)) (l : EachMoment (SparesAt start) before) where
  abbrev L : List Moment → Type 0
  L past = EachMoment (SparesAt start) past

  quiet_at : (note : Note) → IsQuiet note → (past : List Moment) → SparesAt start (said note) past
  quiet_at (notes.Got serial) q past = absurd q
  quiet_at note q past = tt

  front_all : (front : List Note) → AllQuiet front → (past : List Moment) → L past → L (map said front ++ past)
  front_all [] q past l = l
  front_all (note ∷ front) q past l = (quiet_at note q.0 (map said front ++ past), front_all front q.1 past l)

  first_note : (front : List Note) (note : Note) (past : List Moment) → map said front ++ said note ∷ past ≡ now → ((serial : ℕ) → AnswersAt (said (notes.Got serial)) past → SparesAll (terms past) serial (target_at start past)) → SparesAt start (said note) past
  first_note front note past is good = by note is
    where
      by : (note : Note) → map said front ++ said note ∷ past ≡ now → SparesAt start (said note) past
      by (notes.Got serial) is = good serial (each_at AnswersAt (map said front) (said (notes.Got serial)) past (subst (EachMoment AnswersAt) (sym is) answers))
      by note is = tt

  pub spares_turn : Next before now → L now
  spares_turn (same_still e) = subst L (sym e) l
  spares_turn (next front q (said note) is) = subst L is (front_all front q (said note ∷ before) (first_note front note before is good, l))
  spares_turn (next front q (asked line event) is) = subst L is (front_all front q (asked line event ∷ before) (tt, l))
  spares_turn (next_line front q note line event is) =
      let past = asked line event ∷ before in
      subst L is (front_all front q (said note ∷ past) (first_note front note past is (λ serial a. spares_here start line event before serial (good serial (answers_before start line event before serial a))), (tt, l)))

-- ---- at each place of a run
record Kit (start : List Disk) (past : List Moment) (w : WorldState) : Type 0 where
  ground : Ground start past w
  told : Told past
  made : AreMadeAt past w

kit_everywhere : EveryPlace Kit
kit_everywhere = record {
  after_lines = λ line run r has small size so_far. record {
    ground = ground_everywhere.after_lines line run r has small size so_far;
    told = told_everywhere.after_lines line run r has small size so_far;
    made = made_everywhere.after_lines line run r has small size so_far;
  };
  between = λ line run r has small size next most told m so_far. record {
    ground = ground_everywhere.between line run r has small size next most told m so_far;
    told = told_everywhere.between line run r has small size next most told m so_far;
    made = made_everywhere.between line run r has small size next most told m so_far;
  };
}

abbrev pub SparesNow : List Disk → List Moment → WorldState → Type 0
SparesNow start past w = IsTame past → AreShort past → ((i : ℕ) → i < length w.initiators → EachMoment (BasedAt i) past) → NoneAborts past → EachMoment (SparesAt start) past

all_spare : (units ready : ℕ) → 0 < units → (start : List Disk) → Keeps units ready start (Kit start) (SparesNow start)
all_spare units ready has start past s later t lines more g h h_now q q_now had tame shorts based none =
    let before = hist past s.world in
    let size = goes_size past s later t g in
    let x = grown before (hist later t.world) (goes_next past s later t g) in
    let tame_old : IsTame before = tame_before x.new before (subst IsTame (sym x.is) tame) in
    let shorts_old : AreShort before = short_from x.new before (subst AreShort (sym x.is) shorts) in
    let none_old : NoneAborts before = none_before x.new before (subst NoneAborts (sym x.is) none) in
    let based_old : (i : ℕ) → i < length s.world.initiators → EachMoment (BasedAt i) before = (λ i l. each_from (BasedAt i) x.new before (subst (EachMoment (BasedAt i)) (sym x.is) (based i (subst (λ n. i < n) (sym size) l)))) in
    spares_turn start before (hist later t.world) q_now.told.answers (λ serial a. spares_there units ready has start s.world h q.ground q.made tame_old shorts_old based_old none_old q.told.fair serial a) (had tame_old shorts_old based_old none_old) (goes_next past s later t g)

first_spare : (start : List Disk) (line : ℕ) (run : Run) → SparesNow start (moments_behind line run []) (beginning run).world
first_spare start line run tame shorts based none = (tt, (tt, tt))

pub spares_everywhere : EveryPlace SparesNow
spares_everywhere = record {
  after_lines = λ line run r has small size so_far.
      at_lines Kit (SparesNow run.start.disks) kit_everywhere line run r.few has small size (all_spare run.units (ready_logins run.initiators run.ready) has run.start.disks) (first_spare run.start.disks line run) r so_far;
  between = λ line run r has small size next most told m so_far.
      at_between Kit (SparesNow run.start.disks) kit_everywhere line run r.few has small size (all_spare run.units (ready_logins run.initiators run.ready) has run.start.disks) (first_spare run.start.disks line run) r next most told m so_far;
}
