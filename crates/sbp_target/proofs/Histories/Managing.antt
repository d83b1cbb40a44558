-- The management operation has its request where one is under way, and its effects leave all agents at rest.
use Rattle.std.proofs.Common.{arith, ◌≡◌, refl, sym, ap, ◌∙◌, subst, ℕ, ◌+◌, ◌*◌, ◌^◌, ◌==◌, ◌≤◌, nat_le, is_some, Bool, true, false, cond, List, [], ◌∷◌, length, Option, Some, None, Result, Ok, Err}
use Rattle.std.proofs.lemmas.Bool.Decides.{nat_tests}
use Rattle.std.proofs.lemmas.Grind.{common_steps}
use Rattle.std.specs.List.{filter_map}
use Rattle.async_packet.specs.Fields.{largest}
use Rattle.label_table.specs.declared.judgement.Asked.{Asked}
use Rattle.label_table.specs.declared.reply.ReplyKind.{ReplyKind}
use Rattle.label_table.specs.Bodies.{Body, block_read, block_write, quadlet_read}
use Rattle.label_table.specs.Layer.{Layer, asking_step}
use Rattle.label_table.specs.History.{not_begun, under_way, began}
use Rattle.login_table.specs.declared.login.Login.{Login}
use Rattle.login_table.specs.Table.{Table, place_at}
use Rattle.orb_layout.specs.declared.ask.Ask.{Ask}
use Rattle.orb_layout.specs.declared.ask.Ask.TheVariants.{Read, Write, Nothing}
use Rattle.orb_layout.specs.declared.ask.FailCause.{FailCause}
use Rattle.orb_layout.specs.declared.management.ManagementOrb.{ManagementOrb}
use Rattle.orb_layout.specs.declared.query.QueryEntry.{QueryEntry}
use Rattle.orb_layout.specs.ManagementOrbs.{management_orb}
use Rattle.orb_layout.specs.QueryResponses.{entries_bytes}
use Rattle.orb_layout.specs.Replies.{Answer, NoLabel, payload_of, write_failure}
use Rattle.mgmt_agent.specs.declared.decision.ManagerStep.{ManagerStep}
use Rattle.mgmt_agent.specs.declared.decision.Outcome.{Outcome}
use Rattle.mgmt_agent.specs.declared.decision.Response.{Response}
use Rattle.mgmt_agent.specs.declared.decision.Response.TheVariants as responses
use Rattle.mgmt_agent.specs.declared.operation.Operation.{Operation}
use Rattle.mgmt_agent.specs.declared.operation.Phase.{Phase}
use Rattle.mgmt_agent.specs.declared.operation.Phase.TheVariants as phases
use Rattle.mgmt_agent.specs.declared.status.Status.{Status}
use Rattle.mgmt_agent.specs.declared.status.Status.TheVariants as statuses
use Rattle.mgmt_agent.specs.Decisions.{decide, entry_of, entries_of, reads_eui, response_bytes}
use Rattle.mgmt_agent.specs.Machine.{Machine, source_in, high_eui_at, quiet, in_phase, fail_step, status_block, status_step, respond_step, eui_step, cut_response, telling, decided_as, decide_step, beside, orb_got, high_got, low_got, response_written, status_written, reply_in, reply_to, reply_step}
use Rattle.sbp_journal.specs.Outgoings.{OutboxState}
use Rattle.sbp_base.specs.Quadlets.{quad}
use Rattle.sbp_target.specs.declared.purpose.Purpose.{Purpose}
use Rattle.sbp_target.specs.declared.purpose.Purpose.TheVariants as purposes
use Rattle.sbp_target.specs.declared.purpose.Sent.{Sent}
use Rattle.sbp_target.specs.Sending.{request_step, sent_by}
use Rattle.sbp_target.specs.Nodes.{NodeState, Scene, scene, desk_at, login_at}
use Rattle.sbp_target.specs.Agents.{sent_to}
use Rattle.sbp_target.specs.Management.{manager_body, manager_lost, lost_in, lose_operation, manager_sent, manager_asked, ask_manager}
use Rattle.login_table.specs.Sound.{IsTable}
use Rattle.login_table.specs.Laws.{UnitsBelow}
use Rattle.sbp_target.proofs.Histories.Stepped.{is_asked, Carries}
use Rattle.sbp_target.proofs.Histories.Seats.{was as changed, Lives, Seat, seat_kept, hand_begins}
use Rattle.sbp_target.proofs.Histories.Primitives.{Known, live_on, began_off, began_at, asks_known, none_known}
use Rattle.sbp_target.proofs.Histories.Following.{node_of, Mid}
use Rattle.sbp_target.proofs.Histories.Calling.{Good}

-- ---- what a reply leaves: the same source while an operation is under way, and a request that a packet can carry
abbrev pub IsOf : ℕ → Option Operation → Type 0
IsOf source None = Unit {0}
IsOf source (Some operation) = operation.source ≡ source

pub record Stays (source : ℕ) (s : ManagerStep × Machine) : Type 0 where
  pub of : IsOf source s.1.operation
  pub carried : Carries s.0.ask s.1.outgoing

stays_if : (b : Bool) (source : ℕ) (x y : ManagerStep × Machine) → Stays source x → Stays source y → Stays source (cond b x y)
stays_if true source x y p q = p
stays_if false source x y p q = q

small_block : (orb : ℕ) (status : Status) → length (status_block orb status) ≤ 2048
small_block orb status = grind (arith, common_steps)

stays_status : (m : Machine) (operation : Operation) (fifo : ℕ) (status : Status) → Stays operation.source (status_step m operation fifo status)
stays_status m operation fifo status = record { of = refl; carried = small_block operation.orb status }

stays_respond : (m : Machine) (operation : Operation) (orb : ManagementOrb) (status : Status) → length m.outgoing ≤ 2048 → Stays operation.source (respond_step m operation orb status)
stays_respond m operation orb status h =
    stays_if (length m.outgoing == 0) operation.source (status_step m operation orb.fifo status) (quiet (Write orb.second (length m.outgoing)), in_phase m operation (phases.Response orb.fifo))
    (stays_status m operation orb.fifo status) (record { of = refl; carried = h })

stays_failed : (m : Machine) (source : ℕ) (cause : FailCause) → Stays source (fail_step m cause)
stays_failed m source cause = record { of = tt; carried = tt }

-- a response is small
entries_few : (unit : ℕ) (places : List (Option Login)) → length (entries_of unit places) ≤ length places
entries_few unit [] = omega arith
entries_few unit (place ∷ places) = let h = entries_few unit places in entry_few (entry_of unit place) h
  where
    entry_few : (x : Option QueryEntry) → length (entries_of unit places) ≤ length places → length (filter_map (entry_of unit) (place ∷ places)) ≤ length (place ∷ places)
    entry_few x h = grind (arith, common_steps)

entries_small : (entries : List QueryEntry) → length (entries_bytes entries) ≤ 12 * length entries
entries_small [] = omega arith
entries_small (entry ∷ entries) = let h = entries_small entries in grind (arith, common_steps)

response_small : (response : Response) (places : List (Option Login)) → length places ≤ 8 → length (response_bytes response places) ≤ 2048
unfolding response_bytes
response_small responses.Nothing places h = omega arith
response_small (responses.Login response) places h = grind (arith, common_steps)
response_small (responses.Query unit) places h =
    let a = entries_small (entries_of unit places) in let b = entries_few unit places in grind (arith, common_steps)

cut_small : (orb : ManagementOrb) (outcome : Outcome) (table : Table) → length table.places ≤ 8 → length (cut_response orb outcome table) ≤ 2048
cut_small orb outcome table h = let a = response_small outcome.response table.places h in grind (arith, common_steps)

-- with the logins that a reply leaves
abbrev Leaves : ℕ → ManagerStep × (Machine × Table) → Type 0
Leaves source s = Stays source (s.0, s.1.0)

told_stays : (source : ℕ) (orb : ManagementOrb) (outcome : Outcome) (step : ManagerStep) (m : Machine) → Stays source (step, m) → Stays source (telling orb outcome step, m)
told_stays source orb outcome step m h = record { of = h.of; carried = h.carried }

decided_stays : (r : Outcome × Table) (m : Machine) (operation : Operation) (orb : ManagementOrb) → length r.1.places ≤ 8 → Leaves operation.source (decided_as r m operation orb)
decided_stays (outcome, table) m operation orb h =
    let n = record m { outgoing = cut_response orb outcome table } in
    let s = respond_step n operation orb outcome.status in
    told_stays operation.source orb outcome s.0 s.1 (stays_respond n operation orb outcome.status (cut_small orb outcome table h))

module _ (m : Machine) (table : Table) (keys : List (List ℕ)) (operation : Operation) (h : (orb : ManagementOrb) (eui : ℕ) → length (decide orb operation.source eui table keys).1.places ≤ 8) where
  decide_stays : (orb : ManagementOrb) (eui : ℕ) → Leaves operation.source (decide_step m operation orb eui table keys)
  unfolding decide_step
  decide_stays orb eui = decided_stays (decide orb operation.source eui table keys) m operation orb (h orb eui)

  leaves_if : (b : Bool) (x y : ManagerStep × (Machine × Table)) → Leaves operation.source x → Leaves operation.source y → Leaves operation.source (cond b x y)
  leaves_if true x y p q = p
  leaves_if false x y p q = q

  orb_stays : (read : Result (List ℕ) FailCause) → Leaves operation.source (orb_got read m operation table keys)
  orb_stays (Err cause) = stays_failed m operation.source cause
  orb_stays (Ok bytes) =
      let orb = management_orb bytes in
      leaves_if (reads_eui orb) (beside table (eui_step m operation (phases.HighEui orb) high_eui_at)) (decide_step m operation orb 0 table keys)
      (record { of = refl; carried = omega arith }) (decide_stays orb 0)

  high_stays : (read : Result (List ℕ) FailCause) (orb : ManagementOrb) → Stays operation.source (high_got read m operation orb)
  high_stays (Err cause) orb = stays_failed m operation.source cause
  high_stays (Ok bytes) orb = record { of = refl; carried = omega arith }

  low_stays : (read : Result (List ℕ) FailCause) (orb : ManagementOrb) (high : ℕ) → Leaves operation.source (low_got read m operation orb high table keys)
  low_stays (Err cause) orb high = stays_failed m operation.source cause
  low_stays (Ok bytes) orb high = decide_stays orb (high * 2 ^ 32 + quad bytes 0)

  response_stays : (failure : Option FailCause) (fifo : ℕ) → Stays operation.source (response_written failure m operation fifo)
  response_stays None fifo = stays_status m operation fifo statuses.NoFault
  response_stays (Some cause) fifo = stays_failed m operation.source cause

  status_stays : (failure : Option FailCause) → Stays operation.source (status_written failure m)
  status_stays None = record { of = tt; carried = tt }
  status_stays (Some cause) = stays_failed m operation.source cause

  phase_stays : (phase : Phase) (answer : Answer) → Leaves operation.source (reply_in phase m operation table keys answer)
  phase_stays phases.Orb answer = orb_stays (payload_of answer 32)
  phase_stays (phases.HighEui orb) answer = high_stays (payload_of answer 4) orb
  phase_stays (phases.LowEui orb high) answer = low_stays (payload_of answer 4) orb high
  phase_stays (phases.Response fifo) answer = response_stays (write_failure answer) fifo
  phase_stays phases.Status answer = status_stays (write_failure answer)

  pub reply_stays : (answer : Answer) → m.operation ≡ Some operation → Leaves operation.source (reply_step m table keys answer)
  unfolding reply_step
  reply_stays answer e = subst (λ (o : Option Operation). Leaves operation.source (reply_to o m table keys answer)) (sym e) (phase_stays operation.phase answer)

-- a request that found no label ends the operation, and leaves the logins
unlabelled_in : (operation : Option Operation) (m : Machine) (table : Table) (keys : List (List ℕ)) → is_some operation ≡ true → (reply_to operation m table keys NoLabel).1 ≡ (record m { operation = None }, table)
unlabelled_in None m table keys e = absurd (off e)
  where
    off : false ≡ true → ⊥
    off x = cc
unlabelled_in (Some operation) m table keys e = by operation.phase
  where
    by : (phase : Phase) → (reply_in phase m operation table keys NoLabel).1 ≡ (record m { operation = None }, table)
    by phases.Orb = refl
    by (phases.HighEui orb) = refl
    by (phases.LowEui orb high) = refl
    by (phases.Response fifo) = refl
    by phases.Status = refl

pub unlabelled : (m : Machine) (table : Table) (keys : List (List ℕ)) → is_some m.operation ≡ true → (reply_step m table keys NoLabel).1 ≡ (record m { operation = None }, table)
unfolding reply_step
unlabelled m table keys e = unlabelled_in m.operation m table keys e

-- ---- a request of the operation
body_some : (ask : Ask) (outgoing : List ℕ) → Carries ask outgoing → is_asked ask ≡ true → is_some (manager_body ask outgoing) ≡ true
body_some Nothing outgoing c e = cc
body_some (Read offset size) outgoing c e = read_by (size == 4) (nat_le size largest) (grind (arith, nat_tests))
  where
    read_by : (four small : Bool) → small ≡ true → is_some (cond four (Some (quadlet_read offset)) (cond small (Some (block_read offset size)) None)) ≡ true
    read_by true small f = refl
    read_by false true f = refl
    read_by false false f = cc
body_some (Write offset size) outgoing c e = write_by (nat_le (length outgoing) largest) (grind (arith, nat_tests))
  where
    write_by : (small : Bool) → small ≡ true → is_some (cond small (Some (block_write offset outgoing)) None) ≡ true
    write_by true f = refl
    write_by false f = cc

-- All agents are at rest, and the operation of a node has no request yet.
pub record Due (source : ℕ) (node : NodeState) : Type 0 where
  pub lives : Lives
  pub mid : Mid 8 node lives None
  pub op : source_in node.manager.operation ≡ Some source
  pub keys : length node.keys ≡ length node.units
  pub table : IsTable node.logins
  pub below : UnitsBelow (length node.keys) node.logins

pub with_rest : (node : NodeState) (layer : Layer Purpose) (manager : Machine) (logins : Table) (lives : Lives) (request : Option Sent) → Mid 8 node lives request → logins ≡ node.logins → Known layer lives → Mid 8 (record node { layer = layer; manager = manager; logins = logins }) lives request
with_rest node layer manager logins lives request m e k = record {
  known = k;
  size = m.size;
  seats = λ p s. subst (λ (t : Table). Seat p (desk_at node p).main (desk_at node p).ahead (node_of (place_at t.places p)) lives) (sym e) (m.seats p s);
  fits = m.fits;
  served = λ p s n r. let i = m.served p s n r in record { login = i.login; is = ap (λ (t : Table). place_at t.places p) e ∙ i.is; live = i.live; on_unit = i.on_unit };
  hand = m.hand;
  beyond = m.beyond;
}

some_source : (o : Option Operation) (source : ℕ) → source_in o ≡ Some source → is_some o ≡ true
some_source None source e = cc
some_source (Some operation) source e = refl

lost_with : (source : ℕ) (node : NodeState) (layer : Layer Purpose) (o : OutboxState) (d : Due source node) → Known layer d.lives → (r : ManagerStep × (Machine × Table)) → r.1 ≡ (record node.manager { operation = None }, node.logins) → Good (manager_lost source (scene (record node { layer = layer }) o) r).node
lost_with source node layer o d k (step, (manager, logins)) e =
    let em : manager ≡ record node.manager { operation = None } = ap (λ (x : Machine × Table). x.0) e in
    let et : logins ≡ node.logins = ap (λ (x : Machine × Table). x.1) e in
    record {
      lives = d.lives;
      request = None;
      mid = with_rest node layer manager logins d.lives None d.mid et k;
      keys = d.keys;
      source = ap (λ (m : Machine). source_in m.operation) em;
      table = subst (λ (t : Table). IsTable t) (sym et) d.table;
      below = subst (λ (t : Table). UnitsBelow (length node.keys) t) (sym et) d.below;
    }

lost_good : (source : ℕ) (node : NodeState) (layer : Layer Purpose) (o : OutboxState) (d : Due source node) → Known layer d.lives → Good (lose_operation (scene (record node { layer = layer }) o)).node
unfolding lose_operation
lost_good source node layer o d k =
    let s = scene (record node { layer = layer }) o in
    subst (λ (x : Option ℕ). Good (lost_in x s).node) (sym d.op)
    (lost_with source node layer o d k (reply_step node.manager node.logins node.keys NoLabel) (unlabelled node.manager node.logins node.keys (some_source node.manager.operation source d.op)))

sent_good : (source : ℕ) (body : Body) (node : NodeState) (o : OutboxState) (r : Option Asked × Layer Purpose) → asking_step node.layer source body purposes.Management ≡ r → Due source node → Good (manager_sent node (sent_by r o source)).node
sent_good source body node o (None, layer) e d = lost_good source node layer o d (none_known node.layer layer d.lives source body purposes.Management d.mid.known e)
sent_good source body node o (Some asked, layer) e d =
    let begun = asks_known node.layer layer d.lives source body purposes.Management asked d.mid.known e in
    let new = live_on (began source asked.label begun.kind purposes.Management) d.lives in
    let at = began_at source asked.label begun.kind purposes.Management d.lives in
    let off = began_off source asked.label begun.kind purposes.Management d.lives in
    record {
      lives = new;
      request = Some (sent_to source asked.label);
      mid = record {
        known = begun.known;
        size = d.mid.size;
        seats = λ p s. seat_kept p (node_of (login_at node p)) d.lives new source asked.label off (desk_at node p).main (desk_at node p).ahead (d.mid.seats p s) (λ kind f. fresh (sym begun.fresh ∙ f)) (λ kind f. unlike (sym at ∙ f));
        fits = d.mid.fits;
        served = λ p s n r. let i = d.mid.served p s n r in record { login = i.login; is = i.is; live = i.live; on_unit = i.on_unit };
        hand = hand_begins d.lives new (sent_to source asked.label) begun.kind off d.mid.hand at;
        beyond = λ p s r l kind f. let c = changed d.lives new (purposes.Agent p) source asked.label r l kind off (λ k g. unlike (sym at ∙ g)) f in d.mid.beyond p s r l kind c.1;
      };
      keys = d.keys;
      source = d.op;
      table = d.table;
      below = d.below;
    }
  where
    fresh : {kind : ReplyKind} {p : ℕ} → not_begun ≡ under_way kind (Some (purposes.Agent p)) → ⊥
    fresh f = cc

    unlike : {k kind : ReplyKind} {p : ℕ} → under_way k (Some purposes.Management) ≡ under_way kind (Some (purposes.Agent p)) → ⊥
    unlike f = cc

asked_good : (body : Option Body) (source : ℕ) (s : Scene) → is_some body ≡ true → Due source s.node → Good (manager_asked body source s).node
unfolding request_step
asked_good None source s e d = cc
asked_good (Some body) source s e d = sent_good source body s.node s.outbox (asking_step s.node.layer source body purposes.Management) refl d

pub asks_good : (source : ℕ) (ask : Ask) (s : Scene) → Carries ask s.node.manager.outgoing → is_asked ask ≡ true → Due source s.node → Good (ask_manager source ask s).node
unfolding ask_manager
asks_good source ask s c e d = asked_good (manager_body ask s.node.manager.outgoing) source s (body_some ask s.node.manager.outgoing c e) d

pub unasked_good : (source : ℕ) (s : Scene) → Good s.node → Good (ask_manager source Nothing s).node
unfolding ask_manager
unasked_good source s g = g
