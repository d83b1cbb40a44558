-- What the laws compute of the failures of the management operation is what the target tells, where its request finds a label as the laws say: of a reply, of a write of MANAGEMENT_AGENT
-- and of a time-out.
use Rattle.std.proofs.Common.{◌≡◌, ◌∙◌, refl, sym, ap, subst, ℕ, suc, ◌≤◌, is_some, Bool, true, false, cond, List, [], ◌∷◌, length, Option, Some, None}
use Rattle.async_packet.specs.Packet.{Packet}
use Rattle.label_table.specs.Bodies.{Body, block_read}
use Rattle.label_table.specs.declared.judgement.Asked.{Asked}
use Rattle.label_table.specs.Layer.{Layer, asking_step}
use Rattle.login_table.specs.Sound.{IsTable}
use Rattle.login_table.specs.Table.{Table}
use Rattle.mgmt_agent.specs.declared.decision.ManagerStep.{ManagerStep}
use Rattle.mgmt_agent.specs.declared.operation.Operation.{Operation}
use Rattle.mgmt_agent.specs.declared.operation.Phase.{Phase}
use Rattle.mgmt_agent.specs.declared.operation.Phase.TheVariants as phases
use Rattle.mgmt_agent.specs.Machine as management
use Rattle.mgmt_agent.specs.Machine.{Machine, reply_in, reply_step, reply_to, source_in, start_step, start_with}
use Rattle.orb_layout.specs.declared.ask.Ask.TheVariants as asks
use Rattle.orb_layout.specs.declared.ask.FailCause.{FailCause}
use Rattle.orb_layout.specs.declared.ask.FailCause.TheVariants as causes
use Rattle.orb_layout.specs.Pointers.{offset_at}
use Rattle.orb_layout.specs.Replies.{Answer, Expired}
use Rattle.sbp_bus.specs.Generations.{GenerationsState}
use Rattle.sbp_bus.specs.Telling as bus
use Rattle.sbp_journal.specs.Addresses.{Access, Start, access_of, management_agent, no_start, register, rom_start, start_at, start_serves}
use Rattle.sbp_journal.specs.Wire.{Terms}
use Rattle.sbp_journal.specs.declared.note.Note.{Note}
use Rattle.sbp_journal.specs.declared.note.Note.TheVariants as notes
use Rattle.sbp_journal.specs.declared.side.Side.{Side}
use Rattle.sbp_journal.specs.declared.side.Side.TheVariants as sides
use Rattle.sbp_laws.specs.Management.{Call, answers, body_for, failed_in, failed_note, failure_of, fails_unsent, manager_turn, no_call, operator, operator_for, start_in, start_of, started, starts}
use Rattle.sbp_laws.specs.Packets.{finds_label}
use Rattle.sbp_laws.specs.Targets.{Target, initiator_with}
use Rattle.target_base.specs.Addresses.{demand_of}
use Rattle.target_base.specs.declared.address.Demand.{Demand}
use Rattle.target_base.specs.declared.address.Demand.TheVariants as demands
use Rattle.sbp_target.specs.declared.purpose.Purpose.{Purpose}
use Rattle.sbp_target.specs.declared.purpose.Purpose.TheVariants as purposes
use Rattle.sbp_target.specs.Histories.Judgements.{asked_at, asked_of}
use Rattle.sbp_target.specs.Management.{manager_body}
use Rattle.sbp_target.specs.Nodes.{NodeState}
use Rattle.sbp_target.proofs.Histories.Asked.{serves_is}
use Rattle.sbp_world.specs.Agents.Management.Calls.{demanded}
use Rattle.sbp_world.specs.Agents.Management.Offices.{Agrees, Office, office_of}
use Rattle.sbp_world.proofs.Agents.Management.Demands.{demand_is}
use Rattle.sbp_world.proofs.Agents.Management.Firsts.{served_office}
use Rattle.turn_laws.proofs.Effects.{step_same}
use Rattle.turn_laws.proofs.FailureSides.{StepFits, demand_fails, fail_side, lost_cause, reply_fails, start_fails, step_body, step_cause, unsent_cause}
use Rattle.turn_laws.proofs.OperationSteps.{body_same, step_fits, step_stays}
use Rattle.turn_laws.proofs.Operators.{operator_is}

-- ---- the notes of the failures that are told, as the target knows the nodes
abbrev pub failure_notes : GenerationsState → List Side → List Note
failure_notes known [] = []
failure_notes known (sides.ManageFailed node cause ∷ later) = notes.ManageFailed (bus.initiator_of known node) cause ∷ failure_notes known later
failure_notes known (side ∷ later) = failure_notes known later

side_noted : (known : GenerationsState) (source i : ℕ) (cause : Option FailCause) → bus.initiator_of known source ≡ i → failure_notes known (fail_side source cause) ≡ failed_note i cause
side_noted known source i None e = refl
side_noted known source i (Some cause) e = ap (λ k. notes.ManageFailed k cause ∷ []) e

-- ---- a request that finds a label, or none
abbrev pub IsFound : Layer Purpose → (source : ℕ) → (Body → Bool) → Body → Type 0
IsFound layer source finds body = is_some (asking_step layer source body purposes.Management).0 ≡ finds body

unsent_is : (asked : Option Asked) (b : Bool) → is_some asked ≡ b → unsent_cause asked ≡ cond b None (Some causes.Label)
unsent_is None b e = ap (λ x. cond x None (Some causes.Label)) e
unsent_is (Some asked) b e = ap (λ x. cond x None (Some causes.Label)) e

lost_is : (layer : Layer Purpose) (source : ℕ) (finds : Body → Bool) (body : Option Body) → ((one : Body) → body ≡ Some one → IsFound layer source finds one) → lost_cause layer source body ≡ fails_unsent finds body
lost_is layer source finds None h = refl
lost_is layer source finds (Some one) h = unsent_is (asking_step layer source one purposes.Management).0 (finds one) (h one refl)

-- ---- a time-out asks for nothing
late_phase : (phase : Phase) (m : Machine) (own : Operation) (table : Table) (keys : List (List ℕ)) → (reply_in phase m own table keys Expired).0.ask ≡ asks.Nothing
late_phase phases.Orb m own table keys = refl
late_phase (phases.HighEui orb) m own table keys = refl
late_phase (phases.LowEui orb high) m own table keys = refl
late_phase (phases.Response fifo) m own table keys = refl
late_phase phases.Status m own table keys = refl

late_by : (operation : Option Operation) (m : Machine) (table : Table) (keys : List (List ℕ)) → (reply_to operation m table keys Expired).0.ask ≡ asks.Nothing
late_by None m table keys = refl
late_by (Some own) m table keys = late_phase own.phase m own table keys

pub late_body : (m : Machine) (table : Table) (keys : List (List ℕ)) → step_body (reply_step m table keys Expired) ≡ None
unfolding reply_step
late_body m table keys = ap (λ a. manager_body a (reply_to m.operation m table keys Expired).1.0.outgoing) (late_by m.operation m table keys)

-- ---- what the laws compute of a call
module _ (wire after : Terms) (T : Target) where
  abbrev pub DueBy : Call → List Note
  DueBy call = failed_in (operator_for call wire T) (finds_label after 0 (suc (operator_for call wire T))) (manager_turn call T)

  abbrev Note_of : (i : ℕ) → (Body → Bool) → ManagerStep × (Machine × Table) → List Note
  Note_of i finds r = failed_note i (failure_of r.0.failed (fails_unsent finds (body_for r.0.ask r.1.0)))

  idle_by : (i : ℕ) (finds : Body → Bool) (m : Machine) (table : Table) (keys : List (List ℕ)) (answer : Answer) (operation : Option Operation) → source_in operation ≡ None → Note_of i finds (reply_to operation m table keys answer) ≡ []
  idle_by i finds m table keys answer None e = refl
  idle_by i finds m table keys answer (Some own) e = absurd (let no : Some own.source ≡ None = e in cc)

  idle_due : (i : ℕ) (finds : Body → Bool) (m : Machine) (table : Table) (keys : List (List ℕ)) (answer : Answer) → source_in m.operation ≡ None → Note_of i finds (reply_step m table keys answer) ≡ []
  unfolding reply_step
  idle_due i finds m table keys answer e = idle_by i finds m table keys answer m.operation e

  module _ (node : NodeState) (same : Agrees (office_of T) node) (table : IsTable node.logins) (known : GenerationsState) where
    abbrev pub Fits : Type 0
    Fits = (source : ℕ) (answer : Answer) → source_in node.manager.operation ≡ Some source → StepFits source (reply_step node.manager node.logins node.keys answer)

    pub all_fit : Fits
    all_fit source answer e = step_fits node.manager node.logins table node.keys source answer e

    abbrev pub Step : Answer → ManagerStep × (Machine × Table)
    Step answer = reply_step node.manager node.logins node.keys answer

    -- the bus and the laws name an initiator alike
    abbrev Names : ℕ → Type 0
    Names source = bus.initiator_of known source ≡ initiator_with wire source

    -- a body finds a label, or none, as the laws say of this initiator
    abbrev FindsAlike : Layer Purpose → (source : ℕ) → Body → Type 0
    FindsAlike layer source body = IsFound layer source (finds_label after 0 (suc (initiator_with wire source))) body

    -- the initiator of an operation is named alike, and what the operation asks for then is found alike
    abbrev AreAlike : Layer Purpose → Answer → (source : Option ℕ) → Type 0
    AreAlike layer answer source = (n : ℕ) → source ≡ Some n → Names n × ((body : Body) → step_body (Step answer) ≡ Some body → FindsAlike layer n body)

    -- an operation of this initiator is replied to
    pub reply_due : (layer : Layer Purpose) (answer : Answer) (source : Option ℕ) → source_in node.manager.operation ≡ source → AreAlike layer answer source
        → failure_notes known (reply_fails node all_fit layer source answer) ≡ DueBy (answers answer)
    reply_due layer answer None e h =
        let i = operator wire T.manager.operation in
        let finds = finds_label after 0 (suc i) in
        sym (ap (Note_of i finds) (step_same T node same answer) ∙ idle_due i finds node.manager node.logins node.keys answer e)
    reply_due layer answer (Some source) e h =
        let r = Step answer in
        let i = initiator_with wire source in
        let own = operator wire T.manager.operation in
        let own_is : own ≡ i = ap (λ (m : Machine). operator wire m.operation) same.manager ∙ operator_is wire node.manager.operation source e in
        let stays = step_stays node.manager node.logins table node.keys source answer e in
        side_noted known source i (step_cause layer source r) (h source refl).0
        ∙ ap (λ c. failed_note i (failure_of r.0.failed c)) (lost_is layer source (finds_label after 0 (suc i)) (step_body r) (h source refl).1)
        ∙ ap (λ b. failed_note i (failure_of r.0.failed (fails_unsent (finds_label after 0 (suc i)) b))) (sym (body_same r.0.ask r.1.0 stays.carried))
        ∙ ap (λ n. Note_of n (finds_label after 0 (suc n)) r) (sym own_is)
        ∙ ap (Note_of own (finds_label after 0 (suc own))) (sym (step_same T node same answer))

    -- ---- an operation is started
    abbrev pub Finds : (source orb : ℕ) → Type 0
    Finds source orb = FindsAlike node.layer source (block_read orb 32)

    -- what fails as an operation is started, as the bus tells it and as the laws have it
    abbrev Started : Option Operation → (source orb : ℕ) → Type 0
    Started operation source orb =
        let r = start_with operation node.manager source orb in
        failure_notes known (start_fails node all_fit r source) ≡ failed_in (initiator_with wire source) (finds_label after 0 (suc (initiator_with wire source))) (started r)

    with_due : (operation : Option Operation) (source orb : ℕ) → Names source → Finds source orb → Started operation source orb
    with_due None source orb names finds =
        let i = initiator_with wire source in
        side_noted known source i (lost_cause node.layer source (Some (block_read orb 32))) names
        ∙ ap (failed_note i) (lost_is node.layer source (finds_label after 0 (suc i)) (Some (block_read orb 32)) (λ one e. subst (IsFound node.layer source (finds_label after 0 (suc i))) (let z : block_read orb 32 ≡ one = cc in z) finds))
    with_due (Some own) source orb names finds = refl

    start_due : (source orb : ℕ) → Names source → Finds source orb → failure_notes known (start_fails node all_fit (start_step node.manager source orb) source) ≡ DueBy (starts source orb)
    unfolding start_step
    start_due source orb names finds =
        with_due node.manager.operation source orb names finds
        ∙ ap (λ (m : Machine). failed_in (initiator_with wire source) (finds_label after 0 (suc (initiator_with wire source))) (started (start_with m.operation m source orb))) (sym same.manager)

    -- a request, by what it asks for
    abbrev bare_office : Office
    bare_office = record { table = node.logins; keys = node.keys; manager = management.new_machine; manages = None; asks = asks.Nothing; decided = None }

    not_started : (demand : Demand) (source : ℕ) → demanded demand source bare_office ≡ bare_office → failure_notes known (demand_fails node all_fit demand source) ≡ []
    unfolding start_step
    not_started (demands.Refused rcode) source e = refl
    not_started (demands.Rom at_offset len) source e = refl
    not_started (demands.Manage orb) source e = absurd (let no : asks.Read orb 32 ≡ asks.Nothing = ap (λ (o : Office). o.asks) e in cc)
    not_started (demands.Agent place access) source e = refl

    abbrev Manages : Demand → ℕ → Type 0
    Manages demand source = (orb : ℕ) → demand ≡ demands.Manage orb → Finds source orb

    abbrev Fails : Demand → ℕ → List Note
    Fails demand source = failure_notes known (demand_fails node all_fit demand source)

    by_start : (start : Start) (access : Access) (demand : Demand) (source : ℕ) → Some demand ≡ asked_at start access → start_serves start access ≡ true → Names source → Manages demand source
        → Fails demand source ≡ DueBy (start_of start source access)
    by_start management_agent access demand source e serves names finds =
        let is : demand ≡ demands.Manage (offset_at access.payload 0) = cc in
        ap (λ d. failure_notes known (demand_fails node all_fit d source)) is ∙ start_due source (offset_at access.payload 0) names (finds (offset_at access.payload 0) is)
        ∙ sym (ap (λ b. DueBy (cond b (starts source (offset_at access.payload 0)) no_call)) serves)
    by_start (register place name) access demand source e serves names finds =
        let is : demand ≡ demands.Agent place (asked_of name access) = cc in ap (λ d. failure_notes known (demand_fails node all_fit d source)) is
    by_start rom_start access demand source e serves names finds = absurd (let no : Some demand ≡ None = e in cc)
    by_start no_start access demand source e serves names finds = absurd (let no : Some demand ≡ None = e in cc)

    not_served : (start : Start) (access : Access) (source : ℕ) → start_serves start access ≡ false → DueBy (start_of start source access) ≡ []
    not_served management_agent access source e = ap (λ b. DueBy (cond b (starts source (offset_at access.payload 0)) no_call)) e
    not_served (register place name) access source e = refl
    not_served rom_start access source e = refl
    not_served no_start access source e = refl

    pub demand_due : (p : Packet) (access : Access) (source : ℕ) → access_of p ≡ Some access → length node.rom ≤ 1024 → Names source → Manages (demand_of (length node.rom) p) source
        → Fails (demand_of (length node.rom) p) source ≡ DueBy (start_in (Some access) source)
    demand_due p access source is small names finds = by (start_serves (start_at access.offset) access) refl
      where
        by : (b : Bool) → start_serves (start_at access.offset) access ≡ b → Fails (demand_of (length node.rom) p) source ≡ DueBy (start_in (Some access) source)
        by true e = by_start (start_at access.offset) access (demand_of (length node.rom) p) source (serves_is p access is (length node.rom) small e) e names finds
        by false e =
            not_started (demand_of (length node.rom) p) source
            (demand_is source bare_office (length node.rom) p access is small ∙ ap (λ b. served_office b (start_at access.offset) source access bare_office) e)
            ∙ sym (not_served (start_at access.offset) access source e)
