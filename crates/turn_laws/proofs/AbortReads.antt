-- What the management decides on in a turn, in an operation of an initiator that injected no packets, names for an abort the very address of a slot: the ORB that it has read, or none that
-- reads an EUI-64.
use Rattle.std.proofs.Common.{arith, ◌≡◌, ◌∙◌, refl, sym, ap, subst, ◌<◌, ℕ, suc, ◌+◌, Bool, true, false, cond, List, [], length, Option, Some, None}
use Rattle.mgmt_agent.specs.Machine.{Machine, source_in}
use Rattle.mgmt_agent.specs.declared.function.Function.TheVariants as functions
use Rattle.mgmt_agent.specs.declared.operation.Operation.{Operation}
use Rattle.mgmt_agent.specs.declared.operation.Phase.{Phase}
use Rattle.mgmt_agent.specs.declared.operation.Phase.TheVariants as phases
use Rattle.orb_layout.specs.ManagementOrbs.{management_orb}
use Rattle.orb_layout.specs.Replies.{Answer, Done, Expired, NoLabel, Payload, Refused}
use Rattle.rbc_disk.specs.Disk.{Disk}
use Rattle.orb_layout.specs.Pointers.{offset_at}
use Rattle.sbp_journal.specs.Addresses.{Access, Start, management_agent, no_start, register, rom_start, start_at, start_serves}
use Rattle.sbp_journal.specs.Run.{Moment, said}
use Rattle.sbp_journal.specs.Transactions.{Sending}
use Rattle.sbp_journal.specs.Wire.{Terms, terms}
use Rattle.sbp_journal.specs.declared.note.Note.TheVariants as notes
use Rattle.sbp_laws.specs.Management.{answer_to, answers, call_by, got_call, no_call, operator, source_node, start_in, start_of, starts}
use Rattle.sbp_laws.specs.Packets.{access_at, answer_in, answered_at, id_for, packet_at, packet_in, receiver_in, sender_in}
use Rattle.sbp_laws.specs.Targets.{Decided, Purpose, Target, bytes_in, decided_by, decided_in, for_agent, for_manager, for_nobody, initiator_with, is_serial, over, purpose_of, target_at}
use Rattle.sbp_world.specs.Agents.Holders.{AreHeldAt, IsOf}
use Rattle.sbp_world.specs.Agents.Management.Offices.{Office}
use Rattle.sbp_world.specs.Lists.FewLogins.{IsTameOrFew}
use Rattle.sbp_world.specs.Lists.Needs.{IsCalm}
use Rattle.sbp_world.specs.Lists.OrbReads.{AnswersAt}
use Rattle.sbp_world.specs.Worlds.{WorldState}
use Rattle.sbp_world.proofs.Agents.Holders.{finds}
use Rattle.sbp_world.proofs.Agents.Management.Holding.{Holding, same_id}
use Rattle.sbp_world.proofs.Agents.Management.Offices.{over_keeps}
use Rattle.sbp_world.proofs.Agents.Management.Still.{hist}
use Rattle.sbp_world.proofs.Common.{none_is}
use Rattle.sbp_world.proofs.Lists.IdsOwned.{aged_at}
use Rattle.sbp_world.proofs.Lists.ManagedGots.{Kit, manages_it}
use Rattle.sbp_world.proofs.Lists.ManageTerms.{same_some}
use Rattle.turn_laws.proofs.AbortPlaced.{IsExact}
use Rattle.turn_laws.proofs.AbortTurns.{Manages}
use Rattle.turn_laws.proofs.EuiOrbs.{EuiIn, EuiOf, eui_wanted, no_abort}
use Rattle.turn_laws.proofs.OperationAnswers.{brings_exact}
use Rattle.turn_laws.proofs.TurnBegins.{BeginsAt, answered_there, answers_there, initiator_there, over_there, sent_there}
use Rattle.turn_laws.proofs.FailingCalls.{answers_same}

-- ---- a call of the management that brings bytes
-- is of a response that the target got
pub record IsGot (start : List Disk) (past : List Moment) (moment : Moment) (bytes : List ℕ) : Type 0 where
  pub serial : ℕ
  pub own : ℕ
  pub is : moment ≡ said (notes.Got serial)
  pub closed : answered_at (terms past) serial ≡ Some own
  pub manages : (target_at start past).manages ≡ Some own
  pub pays : answer_in (packet_at (terms past) serial) ≡ Payload bytes

module _ (start : List Disk) (past : List Moment) (bytes : List ℕ) where
  abbrev T : Target
  T = over (target_at start past)

  abbrev wire : Terms
  wire = terms past

  no_answer : no_call ≡ answers (Payload bytes) → ⊥
  no_answer e = cc

  got_for : (serial own : ℕ) (purpose : Purpose) → purpose_of T own ≡ purpose → answered_at wire serial ≡ Some own → answer_to purpose (answer_in (packet_at wire serial)) ≡ answers (Payload bytes) → IsGot start past (said (notes.Got serial)) bytes
  got_for serial own for_manager p closed e = record {
    serial = serial;
    own = own;
    is = refl;
    closed = closed;
    manages = manages_it start past own p;
    pays = answers_same (answer_in (packet_at wire serial)) (Payload bytes) e;
  }
  got_for serial own (for_agent place which) p closed e = absurd (no_answer e)
  got_for serial own for_nobody p closed e = absurd (no_answer e)

  -- a request brings no answer
  served_none : (b : Bool) (source orb : ℕ) → cond b (starts source orb) no_call ≡ answers (Payload bytes) → ⊥
  served_none true source orb e = (let no : starts source orb ≡ answers (Payload bytes) = e in cc)
  served_none false source orb e = no_answer e

  start_none : (start_of_it : Start) (source : ℕ) (access : Access) → start_of start_of_it source access ≡ answers (Payload bytes) → ⊥
  start_none management_agent source access e = served_none (start_serves management_agent access) source (offset_at access.payload 0) e
  start_none (register place name) source access e = no_answer e
  start_none rom_start source access e = no_answer e
  start_none no_start source access e = no_answer e

  request_none : (access : Option Access) (source : ℕ) → start_in access source ≡ answers (Payload bytes) → ⊥
  request_none None source e = no_answer e
  request_none (Some access) source e = start_none (start_at access.offset) source access e

  got_by_serial : (serial : ℕ) (b : Bool) (own : Option ℕ) → answered_at wire serial ≡ own → cond b (got_call own T wire serial) no_call ≡ answers (Payload bytes) → IsGot start past (said (notes.Got serial)) bytes
  got_by_serial serial true (Some own) closed e = got_for serial own (purpose_of T own) refl closed e
  got_by_serial serial true None closed e = absurd (request_none (access_at wire serial) (id_for wire 0 (source_node (sender_in (wire.sent serial)))) e)
  got_by_serial serial false own closed e = absurd (no_answer e)

  late_none : (purpose : Purpose) → answer_to purpose Expired ≡ answers (Payload bytes) → ⊥
  late_none for_manager e = (let no : Expired ≡ Payload bytes = answers_same Expired (Payload bytes) e in cc)
  late_none (for_agent place which) e = no_answer e
  late_none for_nobody e = no_answer e

  late_by : (serial : ℕ) (b : Bool) → cond b (answer_to (purpose_of T serial) Expired) no_call ≡ answers (Payload bytes) → ⊥
  late_by serial true e = late_none (purpose_of T serial) e
  late_by serial false e = no_answer e

  pub got_of : (moment : Moment) → call_by moment T wire ≡ answers (Payload bytes) → IsGot start past moment bytes
  got_of (said (notes.Got serial)) e =
      got_by_serial serial (is_serial (receiver_in (wire.sent serial)) 0) (answered_at wire serial) refl e
  got_of (said (notes.TimedOut serial)) e = absurd (late_by serial (is_serial (sender_in (wire.sent serial)) 0) e)
  got_of moment e = absurd (no_answer e)

-- ---- at a place, in a turn that begins there
module _ (units ready : ℕ) (has : 0 < units) (start : List Disk) {past : List Moment} {lines : ℕ} (w : WorldState) (h : Holding units ready start past lines w) (held : AreHeldAt start (hist past w) w) (kit : Kit start (hist past w) w) (beside : IsTameOrFew (hist past w)) (i : ℕ) (inside : i < length w.initiators) (calm : IsCalm (hist past w) i) where
  abbrev before : List Moment
  before = hist past w

  abbrev here : Target
  here = target_at start before

  -- the operation is of the initiator that the terms have for it
  module _ (op : Operation) (is : here.manager.operation ≡ Some op) (of : initiator_with (terms before) op.source ≡ i) where
    owner : (initiator : ℕ) × IsOf (terms before) (length w.initiators) initiator op.source
    owner = held.operation op.source (ap (λ (m : Machine). source_in m.operation) (sym h.at.agrees.manager) ∙ ap source_in is)

    abbrev j : ℕ
    j = owner.0

    found : initiator_with (terms before) op.source ≡ j
    found =
        let few = h.sound.stands.is.few in
        let small = owner.1.small in
        finds 4 0 j (terms before) op.source (λ m f. let z = same_id w h.sound.stands (m + 1) (j + 1) (f ∙ sym owner.1.node_is) in omega (arith, z)) owner.1.node_is (omega arith) (omega (arith, few, small))

    source_is : op.source ≡ id_for (terms before) 0 (suc i)
    source_is =
        let same = sym of ∙ found in
        let next : j + 1 ≡ suc i = omega (arith, same) in
        sym owner.1.node_is ∙ ap (λ n. id_for (terms before) 0 n) next

  module _ (begins : List Moment) (b : BeginsAt before begins) (moment : Moment) (fair : (terms before).injects 0 ≡ false) (answers_it : (serial : ℕ) → moment ≡ said (notes.Got serial) → AnswersAt (said (notes.Got serial)) begins) where
    abbrev B : Target
    B = over (target_at start begins)

    -- the operation stands since the place
    operation_there : B.manager.operation ≡ here.manager.operation
    operation_there = ap (λ (t : Target). t.manager.operation) (over_there start before begins b) ∙ ap (λ (o : Office). o.manager.operation) (over_keeps here)

    manages_there : (target_at start begins).manages ≡ here.manages
    manages_there =
        sym (ap (λ (o : Office). o.manages) (over_keeps (target_at start begins)))
        ∙ (ap (λ (t : Target). t.manages) (over_there start before begins b) ∙ ap (λ (o : Office). o.manages) (over_keeps here))

    module _ (op : Operation) (is : here.manager.operation ≡ Some op) (of : initiator_with (terms before) op.source ≡ i) where
      got_exact : (bytes : List ℕ) → IsGot start begins moment bytes → op.phase ≡ phases.Orb → IsExact (management_orb bytes)
      got_exact bytes got phase =
          let serial = got.serial in
          brings_exact units ready has start w h kit.ground i inside calm kit.shorts (kit.based beside i inside calm) op is (source_is op is of) serial got.own
          (sym (answered_there before start begins b serial) ∙ got.closed) (sym manages_there ∙ got.manages) fair (answers_there start before serial begins b (answers_it serial got.is)) bytes
          (ap (λ (f : ℕ → Option Sending). answer_in (packet_in (f serial))) (sym (sent_there before begins b)) ∙ got.pays) phase

      none_exact : IsExact (management_orb [])
      none_exact e = absurd (let no : Some functions.Login ≡ Some functions.Abort = e in cc)

      orb_exact : (answer : Answer) → Manages start begins moment answer → op.phase ≡ phases.Orb → IsExact (management_orb (bytes_in answer))
      orb_exact (Payload bytes) M phase = got_exact bytes (got_of start begins bytes moment M.call) phase
      orb_exact Done M phase = none_exact
      orb_exact (Refused rcode) M phase = none_exact
      orb_exact Expired M phase = none_exact
      orb_exact NoLabel M phase = none_exact

      eui_exact : (phase : Phase) → op.phase ≡ phase → EuiIn phase
      eui_exact phase f = subst EuiIn f (subst EuiOf is (eui_wanted start before))

      by_phase : (answer : Answer) → Manages start begins moment answer → (decided : Decided) (phase : Phase) → op.phase ≡ phase → decided_in phase op.source answer ≡ Some decided → IsExact decided.orb
      by_phase answer M decided phases.Orb f e = subst (λ (d : Decided). IsExact d.orb) (same_some _ decided e) (orb_exact answer M f)
      by_phase answer M decided (phases.LowEui orb high) f e =
          subst (λ (d : Decided). IsExact d.orb) (same_some _ decided e) (λ g. absurd (no_abort orb (eui_exact (phases.LowEui orb high) f) g))
      by_phase answer M decided (phases.HighEui orb) f e = none_is decided e
      by_phase answer M decided (phases.Response fifo) f e = none_is decided e
      by_phase answer M decided phases.Status f e = none_is decided e

    by_operation : (answer : Answer) → Manages start begins moment answer → (decided : Decided) (operation : Option Operation) → here.manager.operation ≡ operation → decided_by operation answer ≡ Some decided → operator (terms before) operation ≡ i → IsExact decided.orb
    by_operation answer M decided None is e of = none_is decided e
    by_operation answer M decided (Some op) is e of = by_phase op is of answer M decided op.phase refl e

    operator_there : (operation : Option Operation) → operator (terms begins) operation ≡ operator (terms before) operation
    operator_there None = refl
    operator_there (Some op) = initiator_there before (aged_at units ready start w h) begins b op.source

    -- so what the turn decides on is such an ORB
    pub turn_exact : (answer : Answer) → Manages start begins moment answer → (decided : Decided) → decided_by B.manager.operation answer ≡ Some decided → operator (terms begins) B.manager.operation ≡ i → IsExact decided.orb
    turn_exact answer M decided e of =
        by_operation answer M decided here.manager.operation refl (ap (λ o. decided_by o answer) (sym operation_there) ∙ e)
        (sym (operator_there here.manager.operation) ∙ (ap (λ o. operator (terms begins) o) (sym operation_there) ∙ of))
