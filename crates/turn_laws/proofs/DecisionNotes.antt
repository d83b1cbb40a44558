-- In each turn of every run a decision is told exactly where the operation of the terms decides, as it decides.
use Rattle.std.proofs.Common.{◌≡◌, ◌∙◌, refl, sym, ap, subst, ℕ, suc, ◌+◌, ◌==◌, ◌<◌, is_some, Bool, true, false, cond, List, [], ◌∷◌, ◌++◌, Option, Some, None, Result, Ok, Err}
use Rattle.std.proofs.lemmas.List.Elements.{filter-append}
use Rattle.async_packet.specs.Labels.{LabelParts}
use Rattle.async_packet.specs.Packet.{Packet}
use Rattle.async_packet.specs.Reading.{reading}
use Rattle.bus_transactions.specs.Judging.{AreJudged}
use Rattle.label_table.specs.Layer.{Finding, Layer, judging_step, of_again, of_generation, of_grammar, of_label, of_request, of_response}
use Rattle.label_table.specs.Requests.{reply_kind}
use Rattle.label_table.specs.declared.reply.Stale.{Stale}
use Rattle.login_table.specs.Table.{Table}
use Rattle.mgmt_agent.specs.Machine.{Machine, reply_in, reply_step, reply_to, source_in, start_step}
use Rattle.mgmt_agent.specs.Statuses.{function_of}
use Rattle.mgmt_agent.specs.declared.decision.Decision.{Decision}
use Rattle.mgmt_agent.specs.declared.decision.ManagerStep.{ManagerStep}
use Rattle.mgmt_agent.specs.declared.function.Function.{Function}
use Rattle.mgmt_agent.specs.declared.function.Function.TheVariants as kinds
use Rattle.mgmt_agent.specs.declared.operation.Busy.{Busy}
use Rattle.mgmt_agent.specs.declared.operation.Operation.{Operation}
use Rattle.mgmt_agent.specs.declared.operation.Phase.{Phase}
use Rattle.mgmt_agent.specs.declared.operation.Phase.TheVariants as phases
use Rattle.orb_layout.specs.declared.ask.Ask.{Ask}
use Rattle.orb_layout.specs.Replies.{Answer, Expired}
use Rattle.packet_store.specs.declared.sent.Sent.{Sent}
use Rattle.packet_store.specs.Kept.{found_sent}
use Rattle.rbc_disk.specs.Disk.{Disk}
use Rattle.rbc_disk.specs.Runs.{Told}
use Rattle.sbp_bus.specs.Generations.{GenerationsState, id_of}
use Rattle.sbp_bus.specs.Packets.{end_note, judged_note}
use Rattle.sbp_bus.specs.Telling.{managed_note}
use Rattle.sbp_bus.specs.Telling as bus
use Rattle.sbp_bus.specs.Words.{function_word}
use Rattle.sbp_bus.specs.Words as words_of
use Rattle.sbp_journal.specs.Addresses.{Access, Start, management_agent, start_at, start_serves}
use Rattle.sbp_journal.specs.Outgoings.{OutboxState, empty_outbox}
use Rattle.sbp_journal.specs.Run.{Moment, asked, said}
use Rattle.sbp_journal.specs.Wire.{Terms, terms}
use Rattle.sbp_journal.specs.declared.cause.Judged.{Judged}
use Rattle.sbp_journal.specs.declared.cause.Judged.TheVariants as judgements
use Rattle.sbp_journal.specs.declared.event.Event.{Event}
use Rattle.sbp_journal.specs.declared.note.Note.{Note}
use Rattle.sbp_journal.specs.declared.note.Note.TheVariants as notes
use Rattle.sbp_journal.specs.declared.operation.FunctionWord.{FunctionWord}
use Rattle.sbp_journal.specs.declared.operation.FunctionWord.TheVariants as words
use Rattle.sbp_journal.specs.declared.side.Side.{Side}
use Rattle.sbp_journal.specs.declared.side.Side.TheVariants as sides
use Rattle.sbp_laws.specs.LoginLaw.{is_decision_note}
use Rattle.sbp_laws.specs.Management.{Call, answer_to, answers, call_by, decided_in, decided_note, login_if, manager_turn, no_call, operator, operator_for, start_in, start_of, started, starts, word_by}
use Rattle.sbp_laws.specs.NoteKinds.{of_kind}
use Rattle.sbp_laws.specs.Packets.{sender_in}
use Rattle.sbp_laws.specs.Targets.{Purpose as TermPurpose, Target, for_agent, for_manager, for_nobody, initiator_with, is_serial, over, purpose_of, target_at}
use Rattle.sbp_laws.specs.Turns.{turn}
use Rattle.sbp_target.specs.declared.purpose.Purpose.{Purpose}
use Rattle.sbp_target.specs.declared.purpose.Purpose.TheVariants as purposes
use Rattle.sbp_target.specs.Nodes.{NodeState, scene as target_scene}
use Rattle.sbp_target.specs.Nodes as target_nodes
use Rattle.sbp_target.specs.Receiving.{answer_in, expired, received, received_as, with_layer}
use Rattle.sbp_target.proofs.Histories.Calling.{Good}
use Rattle.sbp_target.proofs.Histories.Found.{IsFound, found as found_as}
use Rattle.sbp_world.specs.Delivering.{marked, whole_of}
use Rattle.sbp_world.specs.Hosts.Handing.{AreOthers, IsOther}
use Rattle.sbp_world.specs.Lines.{weight_in}
use Rattle.sbp_world.specs.Telling.{told}
use Rattle.sbp_world.specs.Worlds.{Scene, WorldState, with_note, with_target}
use Rattle.sbp_world.proofs.Agents.CrewFirsts.{agrees}
use Rattle.sbp_world.proofs.Agents.Management.Holding.{good_of}
use Rattle.sbp_world.proofs.Formed.{IsNoRun}
use Rattle.sbp_world.proofs.Agents.Management.Still.{hist}
use Rattle.turn_laws.specs.Decisions.{DecidesWhereDue}
use Rattle.turn_laws.proofs.Calls.{Brings, Cases, calls, injects, loses, refuses, refuses_action, resets, sets_key}
use Rattle.turn_laws.proofs.Effects.{step_same}
use Rattle.turn_laws.proofs.Gots.{agent_calls, manager_calls, no_kind, nobody_calls, own_calls_nothing, request_calls, unsolicited_calls}
use Rattle.turn_laws.proofs.Handed.{handed, note_of, notes_told}
use Rattle.turn_laws.proofs.KindNotes.{IsToldKind, kind_handed, own_handed}
use Rattle.turn_laws.proofs.ManagedSides.{decision_side, delivery_manages, found_side, lapse_manages, managed, managed_of, reply_side, second_manages, sight_manages}
use Rattle.turn_laws.proofs.Places.{Place}
use Rattle.turn_laws.proofs.Operators.{IsOperator, bus_names, laws_name, operator_is}
use Rattle.sbp_world.proofs.Agents.Management.Delivery.{marked_generations}

-- ---- among the notes: those of the decisions that are told, as the target knows the nodes
pub decision_kind : IsToldKind is_decision_note
decision_kind = record { no_packet = λ serial generation from to bytes. refl }

pub no_own : (note : Note) → IsNoRun note → is_decision_note note ≡ false
no_own (notes.Managed i function subject status login) h = absurd h
no_own note h = refl

abbrev decision_notes : GenerationsState → List Side → List Note
decision_notes known [] = []
decision_notes known (sides.Managed node function subject status login ∷ later) = managed_note (bus.initiator_of known node) function subject status login ∷ decision_notes known later
decision_notes known (side ∷ later) = decision_notes known later

pub same_known : (weight : ℕ) (side : Side) (w : WorldState) → (told weight side w).generations ≡ w.generations
unfolding told
same_known weight (sides.Own note) w = refl
same_known weight (sides.Opened place orb) w = refl
same_known weight (sides.Ran place orb cdb payload outcome) w = refl
same_known weight (sides.Ended place orb status) w = refl
same_known weight (sides.Dead place cause) w = refl
same_known weight (sides.Cut place cause) w = refl
same_known weight (sides.Managed node function subject status login) w = refl
same_known weight (sides.ManageFailed node cause) w = refl
same_known weight (sides.Held login) w = refl
same_known weight (sides.Expired login) w = refl
same_known weight (sides.Back login) w = refl
same_known weight (sides.Left login) w = refl
same_known weight (sides.Cleared unit) w = refl
same_known weight (sides.Unsolicited place) w = refl
same_known weight (sides.Unsent place) w = refl

one_noted : (side : Side) (w : WorldState) → IsOther side → of_kind is_decision_note (note_of side w) ≡ decision_notes w.generations (managed_of side)
one_noted (sides.Own note) w o = absurd o
one_noted side w o = refl

notes_both : (known : GenerationsState) (side : Side) (later : List Side) → decision_notes known (managed_of side) ++ decision_notes known later ≡ decision_notes known (managed_of side ++ later)
notes_both known (sides.Managed node function subject status login) later = refl
notes_both known side later = refl

all_noted : (weight : ℕ) (later : List Side) (w : WorldState) → AreOthers later → of_kind is_decision_note (notes_told weight later w) ≡ decision_notes w.generations (managed later)
all_noted weight [] w o = refl
all_noted weight (side ∷ later) w o =
    let v = told weight side w in
    filter-append is_decision_note (note_of side w) (notes_told weight later v)
    ∙ ap (λ ns. ns ++ of_kind is_decision_note (notes_told weight later v)) (one_noted side w o.0)
    ∙ ap (λ ns. decision_notes w.generations (managed_of side) ++ ns) (all_noted weight later v o.1 ∙ ap (λ known. decision_notes known (managed later)) (same_known weight side w))
    ∙ notes_both w.generations side (managed later)

target_noted : (outbox : OutboxState) (w : WorldState) → AreOthers outbox.sides → of_kind is_decision_note (handed 0 0 outbox w) ≡ decision_notes w.generations (managed outbox.sides)
target_noted outbox w o = kind_handed is_decision_note decision_kind 0 0 outbox w ∙ all_noted 0 outbox.sides w o

none_noted : (outbox : OutboxState) (w : WorldState) → AreOthers outbox.sides → managed outbox.sides ≡ [] → of_kind is_decision_note (handed 0 0 outbox w) ≡ []
none_noted outbox w o e = target_noted outbox w o ∙ ap (decision_notes w.generations) e

-- ---- the words of a decision
word_if : (b : Bool) (x y : Option Function) (u v : FunctionWord) → word_by x ≡ u → word_by y ≡ v → word_by (cond b x y) ≡ cond b u v
word_if true x y u v e f = e
word_if false x y u v e f = f

same_word : (number : ℕ) → word_by (function_of number) ≡ function_word number
same_word number =
    word_if (number == 0x0) _ _ words.Login _ refl
    (word_if (number == 0x1) _ _ words.Query _ refl
    (word_if (number == 0x3) _ _ words.Reconnect _ refl
    (word_if (number == 0x7) _ _ words.Logout _ refl
    (word_if (number == 0xb) _ _ words.Abort _ refl
    (word_if (number == 0xc) _ _ words.AbortSet _ refl
    (word_if (number == 0xe) _ _ words.UnitReset _ refl
    (word_if (number == 0xf) (Some kinds.TargetReset) None words.TargetReset words.Other refl refl)))))))

same_login : (word : FunctionWord) (status login : ℕ) → login_if word status login ≡ words_of.login_if word status login
same_login words.Login status login = refl
same_login word status login = refl

decision_noted : (i : ℕ) (d : Decision) → decided_note i (Some d) ≡ managed_note i d.function d.subject d.status d.login ∷ []
decision_noted i d =
    ap (λ word. notes.Managed i word d.subject d.status (login_if word d.status d.login) ∷ []) (same_word d.function)
    ∙ ap (λ login. notes.Managed i (function_word d.function) d.subject d.status login ∷ []) (same_login (function_word d.function) d.status d.login)

-- ---- what the laws compute: no decision but at a reply to the operation
idle_by : (m : Machine) (table : Table) (keys : List (List ℕ)) (answer : Answer) (operation : Option Operation) → source_in operation ≡ None → (reply_to operation m table keys answer).0.decided ≡ None
idle_by m table keys answer None e = refl
idle_by m table keys answer (Some own) e = absurd (let no : Some own.source ≡ None = e in cc)

idle_decided : (m : Machine) (table : Table) (keys : List (List ℕ)) (answer : Answer) → source_in m.operation ≡ None → (reply_step m table keys answer).0.decided ≡ None
unfolding reply_step
idle_decided m table keys answer e = idle_by m table keys answer m.operation e

late_phase : (phase : Phase) (m : Machine) (own : Operation) (table : Table) (keys : List (List ℕ)) → (reply_in phase m own table keys Expired).0.decided ≡ None
late_phase phases.Orb m own table keys = refl
late_phase (phases.HighEui orb) m own table keys = refl
late_phase (phases.LowEui orb high) m own table keys = refl
late_phase (phases.Response fifo) m own table keys = refl
late_phase phases.Status m own table keys = refl

late_by : (operation : Option Operation) (m : Machine) (table : Table) (keys : List (List ℕ)) → (reply_to operation m table keys Expired).0.decided ≡ None
late_by None m table keys = refl
late_by (Some own) m table keys = late_phase own.phase m own table keys

late_decided : (m : Machine) (table : Table) (keys : List (List ℕ)) → (reply_step m table keys Expired).0.decided ≡ None
unfolding reply_step
late_decided m table keys = late_by m.operation m table keys

module _ (wire : Terms) (target : Target) where
  abbrev DueBy : Call → List Note
  DueBy call = decided_in (operator_for call wire target) (manager_turn call target)

  started_none : (i : ℕ) (r : Result Ask Busy × Machine) → decided_in i (started r) ≡ []
  started_none i (Err busy, machine) = refl
  started_none i (Ok ask, machine) = refl

  start_by : (b : Bool) (source orb : ℕ) → DueBy (cond b (starts source orb) no_call) ≡ []
  start_by true source orb = started_none _ (start_step target.manager source orb)
  start_by false source orb = refl

  at_start : (start : Start) (source : ℕ) (access : Access) → DueBy (start_of start source access) ≡ []
  at_start management_agent source access = start_by (start_serves management_agent access) source _
  at_start start source access = refl

  pub start_none : (access : Option Access) (source : ℕ) → DueBy (start_in access source) ≡ []
  start_none None source = refl
  start_none (Some access) source = at_start (start_at access.offset) source access

  for_late : (for : TermPurpose) → DueBy (answer_to for Expired) ≡ []
  for_late for_manager = ap (decided_note (operator wire target.manager.operation)) (late_decided target.manager target.table target.keys)
  for_late (for_agent place which) = refl
  for_late for_nobody = refl

  late_at : (serial : ℕ) (b : Bool) → DueBy (cond b (answer_to (purpose_of target serial) Expired) no_call) ≡ []
  late_at serial true = for_late (purpose_of target serial)
  late_at serial false = refl

  pub timed_out_none : (serial : ℕ) → DueBy (call_by (said (notes.TimedOut serial)) target wire) ≡ []
  timed_out_none serial = late_at serial (is_serial (sender_in (wire.sent serial)) 0)

module _ (units ready : ℕ) (has : 0 < units) (start : List Disk) where
  module _ (past : List Moment) (s : Scene) (here : Place units ready start past s) where
    abbrev w : WorldState
    w = s.world

    abbrev node : NodeState
    node = w.target

    abbrev ms : List Moment
    ms = hist past w

    abbrev wire : Terms
    wire = terms ms

    abbrev T : Target
    T = over (target_at start ms)

    good : Good node
    good = good_of units ready here.holds.calls node has here.holds.made

    -- ---- the initiator of the operation, as the bus and the laws name it
    module _ (source : ℕ) (e : source_in node.manager.operation ≡ Some source) where
      abbrev i : ℕ
      i = (here.held.operation source e).0

      abbrev of : IsOperator units ready has start past s here i source
      of = (here.held.operation source e).1

    -- ---- a reply
    decided_due : (i j : ℕ) (decided : Option Decision) → i ≡ j → decision_notes w.generations (decision_side 0 None) ≡ [] → (source : ℕ) → bus.initiator_of w.generations source ≡ i → decision_notes w.generations (decision_side source decided) ≡ decided_note j decided
    decided_due i j None e none source f = refl
    decided_due i j (Some d) e none source f =
        ap (λ k. managed_note k d.function d.subject d.status d.login ∷ []) (f ∙ e) ∙ sym (decision_noted j d)

    reply_due : (answer : Answer) (source : Option ℕ) → source_in node.manager.operation ≡ source → decision_notes w.generations (reply_side node good source answer) ≡ DueBy wire T (answers answer)
    reply_due answer None e =
        sym (ap (λ (r : ManagerStep × (Machine × Table)). decided_note (operator wire T.manager.operation) r.0.decided) (step_same T node (agrees units ready has start w here.holds) answer)
        ∙ ap (decided_note (operator wire T.manager.operation)) (idle_decided node.manager node.logins node.keys answer e))
    reply_due answer (Some source) e =
        let r = reply_step node.manager node.logins node.keys answer in
        let operator_same : initiator_with wire source ≡ operator wire T.manager.operation =
        sym (operator_is wire node.manager.operation source e) ∙ ap (λ (m : Machine). operator wire m.operation) (sym (agrees units ready has start w here.holds).manager) in
        decided_due (i source e) (operator wire T.manager.operation) r.0.decided (sym (laws_name units ready has start past s here (i source e) source (of source e)) ∙ operator_same) refl source
        (bus_names units ready has start past s here (i source e) source (of source e))
        ∙ sym (ap (λ (x : ManagerStep × (Machine × Table)). decided_note (operator wire T.manager.operation) x.0.decided) (step_same T node (agrees units ready has start w here.holds) answer))

    -- ---- a packet comes to the target
    module _ (serial : ℕ) (run : Option Told) (one : Sent) (found : found_sent serial w.store.kept ≡ Some one) where
      abbrev Called : Judged → Call
      Called judged = call_by (said (judged_note serial judged)) T wire

      own_due : (j : ℕ) → one.to ≡ suc j → (judged : Judged) → DueBy wire T (Called judged) ≡ []
      own_due j to_is judged = ap (DueBy wire T) (own_calls_nothing units ready has start past s here serial one found j to_is judged)

      module _ (zero_to : one.to ≡ 0) where
        request : (p : Packet) → reading one.bytes ≡ Ok p → reply_kind p ≡ None → (judged : Judged) → [] ≡ DueBy wire T (Called judged)
        request p read none judgements.Got = sym (ap (DueBy wire T) (request_calls units ready has start past s here serial one found zero_to p read none) ∙ start_none wire T _ _)
        request p read none (judgements.Ignored cause) = refl

        module _ (judged : AreJudged (said (notes.Got serial) ∷ ms)) (p : Packet) (read : reading one.bytes ≡ Ok p) (some : is_some (reply_kind p) ≡ true) (label : LabelParts) (layer : Layer Purpose) where
          response : (purpose : Option Purpose) → judging_step node.layer one.generation one.bytes ≡ (of_response p label purpose, layer) → decision_notes w.generations (found_side node good (of_response p label purpose)) ≡ DueBy wire T (Called judgements.Got)
          response None e = sym (ap (DueBy wire T) (nobody_calls units ready has start past s here serial one found zero_to judged p read some label layer None e refl))
          response (Some purposes.Unsolicited) e = sym (ap (DueBy wire T) (unsolicited_calls units ready has start past s here serial one found zero_to judged p read some label layer (Some purposes.Unsolicited) e refl))
          response (Some purposes.Management) e =
              reply_due (answer_in p) (source_in node.manager.operation) refl
              ∙ sym (ap (DueBy wire T) (manager_calls units ready has start past s here serial one found zero_to judged p read some label layer (Some purposes.Management) e refl))
          response (Some (purposes.Agent place)) e = sym (ap (DueBy wire T) (agent_calls units ready has start past s here serial one found zero_to judged p read some label layer (Some (purposes.Agent place)) e place refl))

        abbrev Finds : Finding Purpose → Layer Purpose → Judged → Type 0
        Finds f layer judged = (judging_step node.layer one.generation one.bytes ≡ (f, layer)) × (judged ≡ (received_as run one.bytes f (with_layer layer (whole_of node s.media))).0)

        by_finding : (f : Finding Purpose) (layer : Layer Purpose) (judged : Judged) → Finds f layer judged → IsFound f node.layer layer one.bytes → AreJudged (said (judged_note serial judged) ∷ ms) → decision_notes w.generations (found_side node good f) ≡ DueBy wire T (Called judged)
        by_finding of_generation layer judged e f j = subst (λ x. [] ≡ DueBy wire T (Called x)) (sym e.1) refl
        by_finding of_grammar layer judged e f j = subst (λ x. [] ≡ DueBy wire T (Called x)) (sym e.1) refl
        by_finding of_label layer judged e f j = subst (λ x. [] ≡ DueBy wire T (Called x)) (sym e.1) refl
        by_finding (of_again p rcode) layer judged e f j = subst (λ x. [] ≡ DueBy wire T (Called x)) (sym e.1) refl
        by_finding (of_response p label purpose) layer judged e f j =
            subst (λ x. decision_notes w.generations (found_side node good (of_response p label purpose)) ≡ DueBy wire T (Called x)) (sym e.1)
            (response (subst (λ x. AreJudged (said (judged_note serial x) ∷ ms)) e.1 j) p f.read f.kind label layer purpose e.0)
        by_finding (of_request p) layer judged e f j = request p f.1.read (no_kind (reply_kind p) f.1.kind) judged

        target_due : (let x = received run one.generation one.bytes (whole_of node s.media) in AreJudged (said (judged_note serial x.0) ∷ ms) → decision_notes w.generations (managed x.1.outbox.sides) ≡ DueBy wire T (Called x.0))
        unfolding received
        target_due j =
            let f = judging_step node.layer one.generation one.bytes in
            let x = received run one.generation one.bytes (whole_of node s.media) in
            ap (decision_notes w.generations) (delivery_manages node good run s.media.disks one.generation one.bytes) ∙ by_finding f.0 f.1 x.0 (refl, refl) (found_as node.layer one.generation one.bytes) j

    lapse_none : (peer : ℕ) (label : LabelParts) (done : Unit {0}) (t : target_nodes.Scene) → expired peer label (target_scene node empty_outbox) ≡ (Ok done, t) → managed t.outbox.sides ≡ []
    lapse_none peer label done t e = subst (λ (x : Result (Unit {0}) Stale × target_nodes.Scene). managed x.1.outbox.sides ≡ []) e (lapse_manages node good peer label)

  -- ---- the turns of the calls
  line_decides : (line : ℕ) (s : Scene) (past : List Moment) (event : Event) (rest : List Note) → Brings line s event rest → DecidesWhereDue start (turn past (asked line event) rest)
  line_decides line s past event rest (calls is_event c) = refl
  line_decides line s past event rest (refuses is_event number) = refl
  line_decides line s past event rest (refuses_action j action number e) = refl
  line_decides line s past event rest (resets physical generation e) = refl
  line_decides line s past event rest (loses serial) = refl
  line_decides line s past event rest (sets_key unit key) = refl
  line_decides line s past event rest (injects j bytes serial generation from to) = refl

  end_decides : (ms : List Moment) (done : Bool) → DecidesWhereDue start (turn ms (said (end_note done)) [])
  end_decides ms true = refl
  end_decides ms false = refl

  pub decision_cases : Cases units ready start (DecidesWhereDue start)
  decision_cases = record {
    heard = λ past s serial again run one found zero_to may others here behind noted.
        let x = received run one.generation one.bytes (whole_of s.world.target s.media) in
        let after = with_target x.1.node s.world in
        target_noted x.1.outbox (with_note (judged_note serial x.0) (marked serial again after)) others ∙ ap (λ known. decision_notes known (managed x.1.outbox.sides)) (marked_generations serial again after)
        ∙ target_due past s here serial run one found zero_to noted.judged;
    heard_own = λ past s serial again one j found to_is inside own here behind judged.
        own_handed is_decision_note decision_kind no_own (suc j) 0 _ _ own ∙ sym (own_due past s here serial None one found j to_is _);
    late = λ past s serial request done t found node_is e others here behind judged.
        none_noted t.outbox _ others (lapse_none past s here request.peer request.label done t e) ∙ sym (timed_out_none (terms (hist past s.world)) (over (target_at start (hist past s.world))) serial);
    late_own = λ past s serial request j outbox state found node_is inside e own here behind judged.
        own_handed is_decision_note decision_kind no_own (suc j) 0 outbox _ own ∙ sym (timed_out_none (terms (hist past s.world)) (over (target_at start (hist past s.world))) serial);
    sees = λ past s others here behind judged.
        let g = s.world.generations.latest in none_noted _ _ others (sight_manages s.world.target (good past s here) g.generation (id_of g 0));
    sees_own = λ past s j inside own here behind judged. own_handed is_decision_note decision_kind no_own (suc j) 0 _ _ own;
    ticks = λ past s others here behind judged. none_noted _ _ others (second_manages s.world.target (good past s here));
    ends = λ past s done here behind. end_decides (hist past s.world) done;
    acts = λ past s line j action outbox state inside e own here behind. own_handed is_decision_note decision_kind no_own (j + 1) (weight_in action) outbox _ own;
    lines = λ past s line event rest behind brings fresh here there. line_decides line s (hist past s.world) event rest brings;
    begins = λ line initiators is_ready. refl;
  }
