-- Where nobody injected packets, each management ORB that the target reads names the FIFO of a login number, or that of a place of management.
use Rattle.sbp_world.proofs.Words.Std.{arith, ◌≡◌, ◌∙◌, sym, ap, subst, inl, ◌<◌, ◌+◌, ℕ, suc, List, [], ◌∷◌, length, Option, Some, Ok}
use Rattle.sbp_world.proofs.Words.Wire.{Event, Moment, Sending, Terms, asked, said, terms}
use Rattle.sbp_world.proofs.Words.Target.{Disk, Operation, source_in}
use Rattle.sbp_world.proofs.Words.Initiator.{Payload, management_orb, payload_of}
use Rattle.sbp_world.proofs.Words.Laws.{EachMoment, answer_in, answered_at, id_for, packet_at, packet_in, target_at}
use Rattle.sbp_world.proofs.Words.World.{AnswersAt, AreShort, AtGot, BasedAt, IsCalm, IsItsFifo, IsTame, Office, WorldState, ready_logins}
use Rattle.mgmt_agent.specs.Machine.{Machine}
use Rattle.mgmt_agent.specs.declared.operation.Phase.TheVariants as phases
use Rattle.sbp_journal.specs.declared.note.Note.TheVariants as notes
use Rattle.sbp_world.specs.Agents.Holders.{IsOf}
use Rattle.sbp_world.specs.Lists.ReadOrbs.{IsAnswered}
use Rattle.sbp_world.proofs.Agents.Management.Holding.{Holding}
use Rattle.sbp_world.proofs.Agents.Management.Offices.{over_keeps}
use Rattle.sbp_world.proofs.Agents.Management.Still.{hist}
use Rattle.sbp_world.proofs.Completing.ShutFifos.{Heard, HeardAt}
use Rattle.sbp_world.proofs.Lists.BufferClears.{few_of, own_at}
use Rattle.sbp_world.proofs.Lists.Courses.{EveryPlace, Keeps, at_between, at_lines}
use Rattle.sbp_world.proofs.Lists.Fair.{Told, told_everywhere}
use Rattle.sbp_world.proofs.Lists.GotTurns.{got_turn}
use Rattle.sbp_world.proofs.Lists.Judging.{goes_next}
use Rattle.sbp_world.proofs.Lists.KeptTurns.{id_is}
use Rattle.sbp_world.proofs.Lists.LiveRuns.{goes_calm}
use Rattle.sbp_world.proofs.Lists.LiveSteps.{id_in}
use Rattle.sbp_world.proofs.Lists.ManagedGots as managed_gots
use Rattle.sbp_world.proofs.Lists.ManageSends.{opened_terms}
use Rattle.sbp_world.proofs.Lists.OfficeWrites.{answered, answers_before}
use Rattle.sbp_world.proofs.Lists.OpenedReplied.{pays_as as payload_is}
use Rattle.sbp_world.proofs.Agents.Management.Firsts.{wire_is}
use Rattle.sbp_world.proofs.Lists.OwnGots.{answered_same}
use Rattle.sbp_world.proofs.Lists.OwnOps.{IsOwnOp, answer_good}
use Rattle.sbp_world.proofs.Lists.ShortLines.{short_law}

-- what answers the read of an ORB brings such a one
abbrev pub FifoSays : List Disk → List Moment → ℕ → Type 0
FifoSays start past serial =
    AnswersAt (said (notes.Got serial)) past → (own : ℕ) → answered_at (terms past) serial ≡ Some own → (target_at start past).manages ≡ Some own → (op : Operation) → (target_at start past).manager.operation ≡ Some op → op.phase ≡ phases.Orb → (bytes : List ℕ) → payload_of (answer_in (packet_at (terms past) serial)) 32 ≡ Ok bytes → IsItsFifo (management_orb bytes).fifo

-- ---- at a place
module _ (units ready : ℕ) (has : 0 < units) (start : List Disk) {past : List Moment} {lines : ℕ} (w : WorldState) (h : Holding units ready start past lines w) (k : managed_gots.Kit start (hist past w) w) (told : Told (hist past w)) (tame : IsTame (hist past w)) where
  abbrev ms : List Moment
  ms = hist past w

  abbrev t : Terms
  t = terms ms

  module _ (serial : ℕ) (answers : AnswersAt (said (notes.Got serial)) ms) (own : ℕ) (closed : answered_at t serial ≡ Some own) (manages : (target_at start ms).manages ≡ Some own) (op : Operation) (operation : (target_at start ms).manager.operation ≡ Some op) (phase : op.phase ≡ phases.Orb) where
    there : w.target.manager.operation ≡ Some op
    there = ap (λ (m : Machine). m.operation) (sym h.at.agrees.manager) ∙ operation

    of : (initiator : ℕ) × IsOf t (length w.initiators) initiator op.source
    of = k.ground.known.held.operation op.source (ap source_in there)

    abbrev j : ℕ
    j = of.0

    within : j < length w.initiators
    within = of.1.small

    source_there : op.source ≡ id_in w j
    source_there = sym of.1.node_is ∙ (ap (λ n. id_for t 0 n) (let z : j + 1 ≡ suc j = omega arith in z) ∙ id_is units ready has start w h j within)

    calm : IsCalm ms j
    calm = tame j

    shorts : AreShort ms
    shorts = k.shorts

    based : EachMoment (BasedAt j) ms
    based = k.based (inl tame) j within calm

    own_op : IsOwnOp start ms j op
    own_op = own_at units ready has start w h k.ground j within calm shorts based op there source_there

    brings : (bytes : List ℕ) → payload_of (answer_in (packet_at t serial)) 32 ≡ Ok bytes → IsItsFifo (management_orb bytes).fifo
    brings bytes e =
        let g = k.ground in
        let pays : answer_in (packet_at t serial) ≡ Payload bytes = payload_is (answer_in (packet_at t serial)) 32 bytes e in
        let is_answered : IsAnswered ms j serial own bytes = answered units ready has start w h g j within op operation source_there serial own closed manages calm shorts based told.fair answers bytes pays in
        (answer_good units ready has start w h j within (few_of units ready has start w h g j within calm shorts based) calm (g.known.wrote.none j within) g.known.counts g.known.are (g.known.places j within) shorts (g.known.logins j within) op operation own_op own manages phase serial bytes is_answered).its

  pub fifo_here : (serial : ℕ) → FifoSays start ms serial
  fifo_here serial answers own closed manages op operation phase = brings serial answers own closed manages op operation phase

-- ---- as a line begins
fifo_asked : (start : List Disk) (line : ℕ) (event : Event) (past : List Moment) → ((serial : ℕ) → FifoSays start past serial) → (serial : ℕ) → FifoSays start (asked line event ∷ past) serial
fifo_asked start line event past a serial answers own closed manages op is phase bytes =
    let office = over_keeps (target_at start past) in
    let same : (terms (asked line event ∷ past)).sent ≡ (terms past).sent = (opened_terms event (terms past)).sent in
    subst (λ (f : ℕ → Option Sending). payload_of (answer_in (packet_in (f serial))) 32 ≡ Ok bytes → IsItsFifo (management_orb bytes).fifo) (sym same)
    (a serial (answers_before start line event past serial answers) own (sym (answered_same start line event past serial) ∙ closed) (sym (ap (λ (o : Office). o.manages) office) ∙ manages) op (sym (ap (λ (o : Office). o.manager.operation) office) ∙ is) phase bytes)

-- ---- at each place of a run
record Kit (start : List Disk) (past : List Moment) (w : WorldState) : Type 0 where
  managed : managed_gots.Kit start past w
  told : Told past

kits : EveryPlace Kit
kits =
    let managed = managed_gots.kit_everywhere short_law in
    record {
      after_lines = λ line run r has small size so_far. record { managed = managed.after_lines line run r has small size so_far; told = told_everywhere.after_lines line run r has small size so_far };
      between = λ line run r has small size next most told m so_far. record { managed = managed.between line run r has small size next most told m so_far; told = told_everywhere.between line run r has small size next most told m so_far };
    }

abbrev pub AllFifos : List Disk → List Moment → WorldState → Type 0
AllFifos start past w = IsTame past → EachMoment (AtGot (FifoSays start)) past

all_fifos : (units ready : ℕ) → 0 < units → (start : List Disk) → Keeps units ready start (Kit start) (AllFifos start)
all_fifos units ready has start past s later t lines more g h h_now q q_now e tame =
    let then : IsTame (hist past s.world) = λ i. goes_calm past s later t g i (tame i) in
    got_turn (FifoSays start) (fifo_asked start) (hist past s.world) (hist later t.world) (goes_next past s later t g) (λ serial. fifo_here units ready has start s.world h q.managed q.told then serial) (e then)

pub fifos_everywhere : EveryPlace AllFifos
fifos_everywhere = record {
  after_lines = λ line run r has small size so_far.
      at_lines Kit (AllFifos run.start.disks) kits line run r.few has small size (all_fifos run.units (ready_logins run.initiators run.ready) has run.start.disks) (λ tame. (tt, (tt, tt))) r so_far;
  between = λ line run r has small size next most told m so_far.
      at_between Kit (AllFifos run.start.disks) kits line run r.few has small size (all_fifos run.units (ready_logins run.initiators run.ready) has run.start.disks) (λ tame. (tt, (tt, tt))) r next most told m so_far;
}

-- so each one is that is heard
pub heard_all : (start : List Disk) (past : List Moment) → EachMoment AnswersAt past → EachMoment (AtGot (FifoSays start)) past → EachMoment (HeardAt IsItsFifo start) past
heard_all start [] answers says = tt
heard_all start (said (notes.Got serial) ∷ past) answers says =
    (subst (λ (wire : Terms). Heard IsItsFifo (notes.Got serial) wire (target_at start past)) (sym (wire_is start past)) (says.0 answers.0), heard_all start past answers.1 says.1)
heard_all start (said note ∷ past) answers says = (tt, heard_all start past answers.1 says.1)
heard_all start (asked line event ∷ past) answers says = (tt, heard_all start past answers.1 says.1)
