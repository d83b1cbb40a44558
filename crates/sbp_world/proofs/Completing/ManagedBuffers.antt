-- Where nobody injected packets, the management ORB that the target read last asks for a response in the response buffer of a place, or for none.
use Rattle.sbp_world.proofs.Words.Std.{arith, ◌≡◌, ◌∙◌, refl, sym, ap, subst, inl, ◌<◌, ◌+◌, ℕ, suc, Bool, true, false, List, [], ◌∷◌, length, Option, Some, None}
use Rattle.sbp_world.proofs.Words.Wire.{Access, Event, Moment, Sending, Terms, asked, said, terms}
use Rattle.sbp_world.proofs.Words.Target.{Disk, Operation, source_in}
use Rattle.sbp_world.proofs.Words.Initiator.{Answer, Payload, ManagementOrb, management_orb}
use Rattle.sbp_world.proofs.Words.Laws.{EachMoment, answer_in, answered_at, bytes_in, id_for, is_serial, packet_at, packet_in, receiver_in, target_at}
use Rattle.sbp_world.proofs.Words.World.{AnswersAt, AreShort, AtGot, BasedAt, IsCalm, IsInAPlace, IsTame, Office, WasAsked, WorldState, last_read, read_access, read_by, read_for, read_if, ready_logins}
use Rattle.mgmt_agent.specs.Machine.{Machine}
use Rattle.mgmt_agent.specs.declared.operation.Phase.{Phase}
use Rattle.mgmt_agent.specs.declared.operation.Phase.TheVariants as phases
use Rattle.sbp_journal.specs.declared.note.Note.TheVariants as notes
use Rattle.sbp_world.specs.Agents.Holders.{IsOf}
use Rattle.sbp_world.specs.Lists.PlaceReads.{BringsPlace}
use Rattle.sbp_world.specs.Lists.ReadOrbs.{IsAnswered}
use Rattle.sbp_world.proofs.Agents.Management.Holding.{Holding}
use Rattle.sbp_world.proofs.Agents.Management.Offices.{over_keeps}
use Rattle.sbp_world.proofs.Agents.Management.Still.{hist}
use Rattle.sbp_world.proofs.Common.{serial_is}
use Rattle.sbp_world.proofs.Completing.ManagedOrbs.{IsReach, place_reach, to_none}
use Rattle.sbp_world.proofs.Lists.ContentManages.{bound}
use Rattle.sbp_world.proofs.Lists.Courses.{EveryPlace, Keeps, at_between, at_lines}
use Rattle.sbp_world.proofs.Lists.Fair.{Told, told_everywhere}
use Rattle.sbp_world.proofs.Lists.GotTurns.{got_turn}
use Rattle.sbp_world.proofs.Lists.Judging.{goes_next}
use Rattle.sbp_world.proofs.Lists.KeptTurns.{id_is}
use Rattle.sbp_world.proofs.Lists.LiveRuns.{goes_calm}
use Rattle.sbp_world.proofs.Lists.LiveSteps.{id_in}
use Rattle.sbp_world.proofs.Lists.ManagedGots as managed_gots
use Rattle.sbp_world.proofs.Lists.ManageSends.{opened_terms}
use Rattle.sbp_world.proofs.Lists.OfficeWrites.{answered, answers_before, op_placed}
use Rattle.sbp_world.proofs.Lists.OrbsRead.{access_there, in_phase}
use Rattle.sbp_world.proofs.Lists.OwnGots.{answered_same}
use Rattle.sbp_world.proofs.Lists.ShortLines.{short_law}

-- what answers the read of an ORB brings such a one
abbrev pub ReachSays : List Disk → List Moment → ℕ → Type 0
ReachSays start past serial =
    AnswersAt (said (notes.Got serial)) past → (own : ℕ) → answered_at (terms past) serial ≡ Some own → (target_at start past).manages ≡ Some own → (op : Operation) → (target_at start past).manager.operation ≡ Some op → op.phase ≡ phases.Orb → IsReach (management_orb (bytes_in (answer_in (packet_at (terms past) serial))))

-- ---- at a place
module _ (units ready : ℕ) (has : 0 < units) (start : List Disk) {past : List Moment} {lines : ℕ} (w : WorldState) (h : Holding units ready start past lines w) (k : managed_gots.Kit start (hist past w) w) (told : Told (hist past w)) (tame : IsTame (hist past w)) where
  abbrev ms : List Moment
  ms = hist past w

  abbrev t : Terms
  t = terms ms

  module _ (serial : ℕ) (answers : AnswersAt (said (notes.Got serial)) ms) (own : ℕ) (closed : answered_at t serial ≡ Some own) (manages : (target_at start ms).manages ≡ Some own) (op : Operation) (operation : (target_at start ms).manager.operation ≡ Some op) (phase : op.phase ≡ phases.Orb) where
    there : w.target.manager.operation ≡ Some op
    there = ap (λ (m : Machine). m.operation) (sym h.at.agrees.manager) ∙ operation

    of : (initiator : ℕ) × IsOf t (length w.initiators) initiator op.source
    of = k.ground.known.held.operation op.source (ap source_in there)

    abbrev j : ℕ
    j = of.0

    within : j < length w.initiators
    within = of.1.small

    source_there : op.source ≡ id_in w j
    source_there = sym of.1.node_is ∙ (ap (λ n. id_for t 0 n) (let z : j + 1 ≡ suc j = omega arith in z) ∙ id_is units ready has start w h j within)

    calm : IsCalm ms j
    calm = tame j

    shorts : AreShort ms
    shorts = k.shorts

    based : EachMoment (BasedAt j) ms
    based = k.based (inl tame) j within calm

    placed : IsInAPlace op
    placed = op_placed units ready has start w h k.ground j within op operation source_there calm shorts based

    brings : (bytes : List ℕ) → answer_in (packet_at t serial) ≡ Payload bytes → IsReach (management_orb bytes)
    brings bytes pays =
        let g = k.ground in
        let is_answered : IsAnswered ms j serial own bytes = answered units ready has start w h g j within op operation source_there serial own closed manages calm shorts based told.fair answers bytes pays in
        let was : WasAsked start ms own op = g.known.are.each own op (((bound start ms g.known.counts).own own manages).0 ∙ operation) in
        let reads : was.access ≡ read_access op.orb 32 = in_phase op.phase phases.Orb op was.access phase was.content in
        let is = access_there start ms g.known.counts own op was in
        let b : BringsPlace ms j own placed.place bytes = g.known.places j within serial own placed.place was.access bytes placed.small
        (record {
          read = ap (λ (a : Access). a.is_write) reads;
          block = ap (λ (a : Access). a.is_block) reads;
          from = ap (λ (a : Access). a.offset) reads ∙ placed.orb;
          size = ap (λ (a : Access). a.count) reads;
        })
        (record {
          own = is_answered.own;
          answers = is_answered.answers;
          of_initiator = is_answered.of_initiator;
          asks = is;
          reads = ap (λ (a : Access). a.is_write) reads;
          block = ap (λ (a : Access). a.is_block) reads;
          tells = is_answered.tells;
        }) in
        subst (λ (xs : List ℕ). IsReach (management_orb xs)) (sym b.held) (place_reach j placed.place placed.small b.before)

    by_answer : (answer : Answer) → answer_in (packet_at t serial) ≡ answer → IsReach (management_orb (bytes_in answer))
    by_answer (Payload bytes) e = brings bytes e
    by_answer answer e = to_none refl

    reach_there : IsReach (management_orb (bytes_in (answer_in (packet_at t serial))))
    reach_there = by_answer (answer_in (packet_at t serial)) refl

  pub reach_here : (serial : ℕ) → ReachSays start ms serial
  reach_here serial answers own closed manages op operation phase = reach_there serial answers own closed manages op operation phase

-- ---- as a line begins
reach_asked : (start : List Disk) (line : ℕ) (event : Event) (past : List Moment) → ((serial : ℕ) → ReachSays start past serial) → (serial : ℕ) → ReachSays start (asked line event ∷ past) serial
reach_asked start line event past a serial answers own closed manages op is phase =
    let office = over_keeps (target_at start past) in
    let same : (terms (asked line event ∷ past)).sent ≡ (terms past).sent = (opened_terms event (terms past)).sent in
    subst (λ (f : ℕ → Option Sending). IsReach (management_orb (bytes_in (answer_in (packet_in (f serial)))))) (sym same)
    (a serial (answers_before start line event past serial answers) own (sym (answered_same start line event past serial) ∙ closed) (sym (ap (λ (o : Office). o.manages) office) ∙ manages) op (sym (ap (λ (o : Office). o.manager.operation) office) ∙ is) phase)

-- ---- at each place of a run
record Kit (start : List Disk) (past : List Moment) (w : WorldState) : Type 0 where
  managed : managed_gots.Kit start past w
  told : Told past

kits : EveryPlace Kit
kits =
    let managed = managed_gots.kit_everywhere short_law in
    record {
      after_lines = λ line run r has small size so_far. record { managed = managed.after_lines line run r has small size so_far; told = told_everywhere.after_lines line run r has small size so_far };
      between = λ line run r has small size next most told m so_far. record { managed = managed.between line run r has small size next most told m so_far; told = told_everywhere.between line run r has small size next most told m so_far };
    }

abbrev pub AllReach : List Disk → List Moment → WorldState → Type 0
AllReach start past w = IsTame past → EachMoment (AtGot (ReachSays start)) past

all_reach : (units ready : ℕ) → 0 < units → (start : List Disk) → Keeps units ready start (Kit start) (AllReach start)
all_reach units ready has start past s later t lines more g h h_now q q_now e tame =
    let then : IsTame (hist past s.world) = λ i. goes_calm past s later t g i (tame i) in
    got_turn (ReachSays start) (reach_asked start) (hist past s.world) (hist later t.world) (goes_next past s later t g) (λ serial. reach_here units ready has start s.world h q.managed q.told then serial) (e then)

pub reach_everywhere : EveryPlace AllReach
reach_everywhere = record {
  after_lines = λ line run r has small size so_far.
      at_lines Kit (AllReach run.start.disks) kits line run r.few has small size (all_reach run.units (ready_logins run.initiators run.ready) has run.start.disks) (λ tame. (tt, (tt, tt))) r so_far;
  between = λ line run r has small size next most told m so_far.
      at_between Kit (AllReach run.start.disks) kits line run r.few has small size (all_reach run.units (ready_logins run.initiators run.ready) has run.start.disks) (λ tame. (tt, (tt, tt))) r next most told m so_far;
}

-- ---- so is the one that was read last
module _ (start : List Disk) where
  module _ (serial : ℕ) (past : List Moment) (answers : AnswersAt (said (notes.Got serial)) past) (says : ReachSays start past serial) (before : IsReach (last_read start past)) where
    abbrev answer : Answer
    answer = answer_in (packet_at (terms past) serial)

    abbrev orb : ManagementOrb
    orb = last_read start past

    by_phase : (own : ℕ) → answered_at (terms past) serial ≡ Some own → (target_at start past).manages ≡ Some own → (op : Operation) → (target_at start past).manager.operation ≡ Some op → (phase : Phase) → op.phase ≡ phase → IsReach (read_for (Some (record op { phase = phase })) answer orb)
    by_phase own closed manages op operation phases.Orb e = says answers own closed manages op operation e
    by_phase own closed manages op operation phase e = before

    by_operation : (own : ℕ) → answered_at (terms past) serial ≡ Some own → (target_at start past).manages ≡ Some own → (operation : Option Operation) → (target_at start past).manager.operation ≡ operation → IsReach (read_for operation answer orb)
    by_operation own closed manages None e = before
    by_operation own closed manages (Some op) e = by_phase own closed manages op e op.phase refl

    by_own : (own : ℕ) → answered_at (terms past) serial ≡ Some own → (b : Bool) → is_serial (target_at start past).manages own ≡ b → IsReach (read_if b (target_at start past).manager.operation answer orb)
    by_own own closed true e = by_operation own closed (serial_is (target_at start past).manages own e) (target_at start past).manager.operation refl
    by_own own closed false e = before

    by_closed : (here : Bool) (own : Option ℕ) → answered_at (terms past) serial ≡ own → IsReach (read_by here own (target_at start past).manages (target_at start past).manager.operation answer orb)
    by_closed true (Some own) e = by_own own e (is_serial (target_at start past).manages own) refl
    by_closed true None e = before
    by_closed false own e = before

  pub last_reach : (past : List Moment) → EachMoment AnswersAt past → EachMoment (AtGot (ReachSays start)) past → IsReach (last_read start past)
  last_reach [] answers says = to_none refl
  last_reach (said (notes.Got serial) ∷ past) answers says =
      by_closed serial past answers.0 says.0 (last_reach past answers.1 says.1) (is_serial (receiver_in ((terms past).sent serial)) 0) (answered_at (terms past) serial) refl
  last_reach (said note ∷ past) answers says = last_reach past answers.1 says.1
  last_reach (asked line event ∷ past) answers says = last_reach past answers.1 says.1
