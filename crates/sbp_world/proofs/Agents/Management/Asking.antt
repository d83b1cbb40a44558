-- What the management operation asks for leaves where it finds a label, and else the operation ends.
use Rattle.sbp_world.proofs.Words.Std.{◌≡◌, ◌∙◌, refl, sym, ap, subst, ℕ, is_some, true, false, List, [], ◌∷◌, ◌++◌, Option, Some, None}
use Rattle.sbp_world.proofs.Words.Wire.{Packet, header_in, Asked, Body, Layer, asking_step, Outgoing, OutboxState}
use Rattle.sbp_world.proofs.Words.Target.{IsSound, Table, ManagerStep, Operation, Purpose, ask_manager, failed_by, lose_operation, lost_in, manage, managed_in, managed_with, manager_asked, manager_body, manager_lost, manager_sent, with_manager, answered, start, target_started, NodeState, Scene, scene, request_step, sent_by, request, free, stay, still}
use Rattle.sbp_world.proofs.Words.Initiator.{Ask, FailCause, Answer, NoLabel}
use Rattle.sbp_world.proofs.Words.World.{Agrees, Office, replied, started, started_by, stepped}
use Rattle.mgmt_agent.specs.declared.operation.Phase.{Phase}
use Rattle.mgmt_agent.specs.declared.operation.Phase.TheVariants as phases
use Rattle.mgmt_agent.specs.Machine as management
use Rattle.orb_layout.specs.declared.ask.Ask.TheVariants as ask
use Rattle.orb_layout.specs.declared.ask.FailCause.TheVariants as causes
use Rattle.sbp_journal.specs.declared.side.Side.TheVariants as sides
use Rattle.sbp_target.specs.declared.purpose.Purpose.TheVariants as purposes
use Rattle.sbp_target.specs.Management as target
use Rattle.sbp_target.proofs.Histories.Managing.{unlabelled}
use Rattle.sbp_target.proofs.Histories.Primitives.{none_known}
use Rattle.sbp_target.proofs.Histories.Seats.{Lives}
use Rattle.sbp_world.proofs.Agents.Management.Calm.{AreQuiet, Calm, From, answers}
use Rattle.sbp_world.proofs.Agents.Management.Deciding.{by_decision, reply_steps}
use Rattle.sbp_world.proofs.Agents.Management.Managing.{FailsClean, Says, decision_stands, failed_if, failing_stands, fails_clean, quiet_says, says_more}
use Rattle.sbp_world.specs.Agents.Management.Offices.{failed}
use Rattle.sbp_target.proofs.Histories.Moved.{manage_moves, start_moves}
use Rattle.sbp_target.proofs.Histories.Views.{acts, asked, ends, node_left}

-- the one request that left for the operation, under a label that it found
pub record Leaves (first : Office) (old : Lives) (source : ℕ) (now : Office) (node : NodeState) (before packets : List Outgoing) : Type 0 where
  pub asked : Asked
  pub body : Body
  pub layer : Layer Purpose
  pub from : From old layer
  pub step : asking_step layer source body purposes.Management ≡ (Some asked, node.layer)
  pub body_is : manager_body now.asks now.manager.outgoing ≡ Some body
  pub asks_are : now.asks ≡ first.asks
  pub packets_are : packets ≡ before ++ request source asked ∷ []

pub data MayLeave (first : Office) (old : Lives) (source : ℕ) (now : Office) (node : NodeState) (before packets : List Outgoing) : Type 0 where
  silent : From old node.layer → packets ≡ before → MayLeave first old source now node before packets
  leaves : Leaves first old source now node before packets → MayLeave first old source now node before packets

-- What a turn of the operation makes of an office and of the node.
pub record Turned (first : Office) (old : Lives) (source : ℕ) (before : List Outgoing) (s : Scene) : Type 0 where
  pub now : Office
  pub says : Says first now s.outbox.sides
  pub agrees : Agrees now s.node
  pub idle : first.manages ≡ None → now.manages ≡ None
  pub sends : MayLeave first old source now s.node before s.outbox.packets

-- ---- an operation that is lost

lost_fails : (operation : Option Operation) (m : management.Machine) (table : Table) (keys : List (List ℕ)) → is_some operation ≡ true → (management.reply_to operation m table keys NoLabel).0.failed ≡ Some causes.Label
lost_fails None m table keys e = absurd (let no : false ≡ true = e in cc)
lost_fails (Some operation) m table keys e = by operation.phase
  where
    by : (phase : Phase) → (management.reply_in phase m operation table keys NoLabel).0.failed ≡ Some causes.Label
    by phases.Orb = refl
    by (phases.HighEui orb) = refl
    by (phases.LowEui orb high) = refl
    by (phases.Response fifo) = refl
    by phases.Status = refl

pub unlabelled_fails : (m : management.Machine) (table : Table) (keys : List (List ℕ)) → is_some m.operation ≡ true → (management.reply_step m table keys NoLabel).0.failed ≡ Some causes.Label
unfolding management.reply_step
unlabelled_fails m table keys e = lost_fails m.operation m table keys e

pub has_source : (operation : Option Operation) (source : ℕ) → management.source_in operation ≡ Some source → is_some operation ≡ true
has_source None source e = absurd (let no : None ≡ Some source = e in cc)
has_source (Some operation) source e = refl

module _ (first now : Office) (old : Lives) (source : ℕ) (idle : first.manages ≡ None → now.manages ≡ None) (same_asks : now.asks ≡ first.asks) where
  lost_with : (packets : List Outgoing) (other : ℕ) (s : Scene) (r : ManagerStep × (management.Machine × Table)) → Says first now s.outbox.sides → Agrees now s.node → From old s.node.layer → s.outbox.packets ≡ packets → r.0.failed ≡ Some causes.Label → r.1 ≡ (record s.node.manager { operation = None }, s.node.logins) → Turned first old source packets (manager_lost other s r)
  lost_with packets other s (step, (m, t)) says agrees f p e g =
      let cause : Option FailCause → OutboxState = λ x. target.tell_failed other x s.outbox in
      let told = says_more first now s.outbox.sides (sides.ManageFailed other causes.Label) tt says in
      subst (λ (x : Option FailCause). Turned first old source packets (scene (with_manager s.node (m, t)) (target.tell_failed other x s.outbox))) (sym e) (record {
        now = failed now;
        says = told;
        agrees = record {
          table = agrees.table ∙ sym (ap (λ (x : management.Machine × Table). x.1) g);
          keys = agrees.keys;
          manager = ap management.clear_step agrees.manager ∙ sym (ap (λ (x : management.Machine × Table). x.0) g);
        };
        idle = λ e. refl;
        sends = silent f p;
      })

  lost_turn : (packets : List Outgoing) (other : Option ℕ) (s : Scene) → management.source_in s.node.manager.operation ≡ other → Says first now s.outbox.sides → Agrees now s.node → From old s.node.layer → s.outbox.packets ≡ packets → Turned first old source packets (lost_in other s)
  lost_turn packets None s e says agrees f p = record { now = now; says = says; agrees = agrees; idle = idle; sends = silent f p }
  lost_turn packets (Some other) s e says agrees f p =
      let there = has_source s.node.manager.operation other e in
      lost_with packets other s (management.reply_step s.node.manager s.node.logins s.node.keys NoLabel) says agrees f p
      (unlabelled_fails s.node.manager s.node.logins s.node.keys there) (unlabelled s.node.manager s.node.logins s.node.keys there)

  loses_turn : (packets : List Outgoing) (s : Scene) → Says first now s.outbox.sides → Agrees now s.node → From old s.node.layer → s.outbox.packets ≡ packets → Turned first old source packets (lose_operation s)
  unfolding lose_operation
  loses_turn packets s says agrees f p = lost_turn packets (management.source_in s.node.manager.operation) s refl says agrees f p

  -- ---- what it asks for

  sent_turn : (packets : List Outgoing) (body : Body) (s : Scene) (r : Option Asked × Layer Purpose) → asking_step s.node.layer source body purposes.Management ≡ r → manager_body now.asks now.manager.outgoing ≡ Some body → Says first now s.outbox.sides → Agrees now s.node → From old s.node.layer → s.outbox.packets ≡ packets → Turned first old source packets (manager_sent s.node (sent_by r s.outbox source))
  sent_turn packets body s (Some asked, layer) e b says agrees f p = record {
    now = now;
    says = says;
    agrees = record { table = agrees.table; keys = agrees.keys; manager = agrees.manager };
    idle = idle;
    sends = leaves (record {
      asked = asked;
      body = body;
      layer = s.node.layer;
      from = f;
      step = e;
      body_is = b;
      asks_are = same_asks;
      packets_are = ap (λ ps. ps ++ request source asked ∷ []) p;
    });
  }
  sent_turn packets body s (None, layer) e b says agrees f p =
      loses_turn packets (scene (record s.node { layer = layer }) s.outbox) says (record { table = agrees.table; keys = agrees.keys; manager = agrees.manager })
      (record { lives = f.lives; known = none_known s.node.layer layer f.lives source body purposes.Management f.known e; before = f.before }) p

  asked_turn : (packets : List Outgoing) (body : Option Body) (s : Scene) → manager_body now.asks now.manager.outgoing ≡ body → Says first now s.outbox.sides → Agrees now s.node → From old s.node.layer → s.outbox.packets ≡ packets → Turned first old source packets (manager_asked body source s)
  unfolding request_step
  asked_turn packets None s b says agrees f p = record { now = now; says = says; agrees = agrees; idle = idle; sends = silent f p }
  asked_turn packets (Some body) s b says agrees f p = sent_turn packets body s (asking_step s.node.layer source body purposes.Management) refl b says agrees f p

  pub asks_turn : (packets : List Outgoing) (s : Scene) → Says first now s.outbox.sides → Agrees now s.node → From old s.node.layer → s.outbox.packets ≡ packets → Turned first old source packets (ask_manager source now.asks s)
  unfolding ask_manager
  asks_turn packets s says agrees f p =
      asked_turn packets (manager_body now.asks s.node.manager.outgoing) s (ap (λ (m : management.Machine). manager_body now.asks m.outgoing) agrees.manager) says agrees f p

-- ---- a reply

cleared_is : (m : management.Machine) → m.operation ≡ None → management.clear_step m ≡ m
cleared_is m e = ap (λ (x : Option Operation). record m { operation = x }) (sym e)

record Behind (now : Office) (m : management.Machine) (t : Table) (keys : List (List ℕ)) (asks : Ask) : Type 0 where
  table : now.table ≡ t
  keys_are : now.keys ≡ keys
  manager : now.manager ≡ m
  idle : now.manages ≡ None
  asks_are : now.asks ≡ asks

failed_behind : (cause : Option FailCause) (o : Office) (m : management.Machine) (t : Table) (keys : List (List ℕ)) (asks : Ask) → Behind o m t keys asks → (is_some cause ≡ true → (m.operation ≡ None) × (asks ≡ ask.Nothing)) → Behind (failed_if cause o) m t keys asks
failed_behind None o m t keys asks b c = b
failed_behind (Some cause) o m t keys asks b c =
    let f = c refl in
    record { table = b.table; keys_are = b.keys_are; manager = ap management.clear_step b.manager ∙ cleared_is m f.0; idle = refl; asks_are = sym f.1 }

replied_with : (o : Office) (old : Lives) (source : ℕ) (answer : Answer) (s : Scene) (r : ManagerStep × (management.Machine × Table)) → s.outbox.sides ≡ [] → From old s.node.layer → Agrees o s.node → by_decision r.0.decided r.0.effect (stepped o answer r) ≡ record (stepped o answer r) { table = r.1.1 } → FailsClean r → Turned (stepped o answer r) old source s.outbox.packets (managed_with source s r)
replied_with o old source answer s (step, (m, t)) none f agrees d clean =
    let first = stepped o answer (step, (m, t)) in
    let node = with_manager s.node (m, t) in
    let decided = target.decided_by step.decided step.effect source (scene node s.outbox) in
    let told = failed_by source step.failed decided in
    let now = failed_if step.failed (by_decision step.decided step.effect first) in
    let h = failing_stands first (by_decision step.decided step.effect first) old node s.outbox.packets source step.failed decided (decision_stands first old node s.outbox none f step.decided step.effect source) in
    let before : Behind (by_decision step.decided step.effect first) m t s.node.keys step.ask = subst (λ (x : Office). Behind x m t s.node.keys step.ask) (sym d) (record { table = refl; keys_are = agrees.keys; manager = refl; idle = refl; asks_are = refl }) in
    let b = failed_behind step.failed (by_decision step.decided step.effect first) m t s.node.keys step.ask before clean in
    subst (λ (a : Ask). Turned first old source s.outbox.packets (ask_manager source a told)) b.asks_are
    (asks_turn first now old source (λ e. b.idle) b.asks_are s.outbox.packets told h.says (record { table = b.table ∙ sym h.logins; keys = b.keys_are ∙ sym h.keys; manager = b.manager ∙ sym h.manager }) h.from h.packets_are)

pub replied_turn : (o : Office) (old : Lives) (source : ℕ) (answer : Answer) (s : Scene) → s.outbox.sides ≡ [] → From old s.node.layer → Agrees o s.node → IsSound o.table.places → management.source_in s.node.manager.operation ≡ Some source → Turned (replied answer o) old source s.outbox.packets (manage answer s)
unfolding manage
replied_turn o old source answer s none f agrees sound e =
    let r = management.reply_step o.manager o.table o.keys answer in
    let same : management.reply_step s.node.manager s.node.logins s.node.keys answer ≡ r =
    ap (λ m. management.reply_step m s.node.logins s.node.keys answer) (sym agrees.manager)
    ∙ ap (λ t. management.reply_step o.manager t s.node.keys answer) (sym agrees.table)
    ∙ ap (λ ks. management.reply_step o.manager o.table ks answer) (sym agrees.keys) in
    subst (λ x. Turned (stepped o answer r) old source s.outbox.packets (managed_in x answer s)) (sym e)
    (subst (λ x. Turned (stepped o answer r) old source s.outbox.packets (managed_with source s x)) (sym same)
    (replied_with o old source answer s r none f agrees (reply_steps (record o { manager = r.1.0; manages = None; asks = r.0.ask }) o.manager o.keys answer sound) (fails_clean o.manager o.table o.keys answer)))

-- ---- an operation is started

calm_turn : (o : Office) (old : Lives) (source : ℕ) (node : NodeState) (s : Scene) → Agrees o node → Calm old node s → Turned o old source s.outbox.packets s
calm_turn o old source node s agrees c = record {
  now = o;
  says = quiet_says s.outbox.sides o c.quiet;
  agrees = record { table = agrees.table ∙ sym c.logins; keys = agrees.keys ∙ sym c.keys; manager = agrees.manager ∙ sym c.manager };
  idle = λ e. e;
  sends = silent c.from refl;
}

-- the rcode that the request is answered with
abbrev pub start_rcode : Option Operation → ℕ
start_rcode None = 0
start_rcode (Some operation) = 4

module _ (o : Office) (old : Lives) (orb : ℕ) (request : Packet) (bytes : List ℕ) (s : Scene) (none : s.outbox.sides ≡ []) (f : From old s.node.layer) (agrees : Agrees o s.node) where
  abbrev source : ℕ
  source = (header_in request).source

  calm_with : (m : management.Machine) → Calm old (record s.node { manager = m }) (scene (record s.node { manager = m }) s.outbox)
  calm_with m = record { logins = refl; keys = refl; manager = refl; rom = refl; quiet = subst AreQuiet (sym none) tt; from = f }

  starts_as : (operation : Option Operation) → Turned (started_by (management.start_with operation s.node.manager source orb) o) old source (answered request bytes (start_rcode operation) [] s).outbox.packets (target_started source request bytes (management.start_with operation s.node.manager source orb) s)
  starts_as None =
      let m : management.Machine = record s.node.manager { operation = Some (record { source = source; orb = orb; phase = phases.Orb }) } in
      let first : Office = record o { manager = m; asks = ask.Read orb 32 } in
      let t = answered request bytes 0 [] (scene (record s.node { manager = m }) s.outbox) in
      let c = answers old (record s.node { manager = m }) request bytes 0 [] (scene (record s.node { manager = m }) s.outbox) (calm_with m) in
      asks_turn first first old source (λ e. e) refl t.outbox.packets t (quiet_says t.outbox.sides first c.quiet)
      (record { table = agrees.table ∙ sym c.logins; keys = agrees.keys ∙ sym c.keys; manager = sym c.manager }) c.from refl
  starts_as (Some operation) =
      let t = answered request bytes 4 [] (scene (record s.node { manager = s.node.manager }) s.outbox) in
      let c = answers old (record s.node { manager = s.node.manager }) request bytes 4 [] (scene (record s.node { manager = s.node.manager }) s.outbox) (calm_with s.node.manager) in
      calm_turn o old source s.node t agrees (record { logins = c.logins; keys = c.keys; manager = c.manager; rom = c.rom; quiet = c.quiet; from = c.from })

  pub started_turn : Turned (started (header_in request).source orb o) old (header_in request).source (answered request bytes (start_rcode s.node.manager.operation) [] s).outbox.packets (start orb request bytes s)
  unfolding start management.start_step
  started_turn =
      subst (λ m. Turned (started_by (management.start_with m.operation m source orb) o) old source (answered request bytes (start_rcode s.node.manager.operation) [] s).outbox.packets (start orb request bytes s)) (sym agrees.manager)
      (starts_as s.node.manager.operation)

-- ---- the ROM stays

pub manage_rom : (answer : Answer) (o : Office) (old : Lives) (s : Scene) → s.outbox.sides ≡ [] → From old s.node.layer → (manage answer s).node.rom ≡ s.node.rom
manage_rom answer o old s none f = (node_left free s _ (manage_moves free s ends answer s (stay s))).rom

pub start_rom : (orb : ℕ) (request : Packet) (bytes : List ℕ) (s : Scene) → (start orb request bytes s).node.rom ≡ s.node.rom
start_rom orb request bytes s = (node_left still s _ (start_moves still s acts asked tt request bytes tt orb s (stay s))).rom
