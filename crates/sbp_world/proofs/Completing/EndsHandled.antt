-- What a delivery to the target leaves of the management operation, where its step does not fail, and what it asks for finds a label: it is taken on by a reply, started by a write of MANAGEMENT_AGENT, or left as it is.
use Rattle.sbp_world.proofs.Words.Std.{arith, ◌≡◌, ◌∙◌, refl, sym, ap, subst, ℕ, Bool, true, false, cond, List, [], length, Option, Some, None}
use Rattle.sbp_world.proofs.Words.Wire.{Body, LabelParts, Packet, header_in, Finding, Layer, answering_step, judging_step, of_again, of_generation, of_grammar, of_label, of_request, of_response, Judged, OutboxState, empty_outbox}
use Rattle.sbp_world.proofs.Words.Target.{Disk, Told, Operation, ManagerStep, Table, Demand, demand_of, Kind, Moves, Purpose, ask_manager, decided_by, failed_by, managed_in, manager_body, stay, manage, NodeState, Scene, scene, with_manager, answer_in, concluded, judged_scene, received, received_as, Whole, whole, answer_step, answered_by, address_error, answered, is_barred, serving_step, serve, served_as, start, started_by}
use Rattle.sbp_world.proofs.Words.Initiator.{Ask}
use Rattle.mgmt_agent.specs.Machine as management
use Rattle.mgmt_agent.specs.declared.operation.Phase.TheVariants as phases
use Rattle.orb_layout.specs.declared.ask.Ask.TheVariants as asks
use Rattle.sbp_journal.specs.declared.cause.Cause.TheVariants as causes
use Rattle.sbp_journal.specs.declared.cause.Judged.TheVariants as judgements
use Rattle.target_base.specs.declared.address.Demand.TheVariants as demands
use Rattle.sbp_target.specs.declared.purpose.Purpose.TheVariants as purposes
use Rattle.sbp_target.specs.Histories.Moves.{MayAct}
use Rattle.sbp_target.proofs.Histories.Moved.{access_moves, fits_at, replied_moves}
use Rattle.sbp_target.proofs.Histories.Views.{node_left}
use Rattle.sbp_world.specs.Completing.Ends.{DeliveriesHandle, HandlesManager, ManagementGoesOn, StepsOn, replies, starts, stays}
use Rattle.sbp_world.specs.Completing.LabelsAsked.{MayAsk, read}
use Rattle.sbp_world.specs.Completing.LabelsFound.{Behind, FindsLabels}
use Rattle.sbp_world.specs.Completing.LabelsFound as found
use Rattle.sbp_world.proofs.Completing.EndsTold.{Gives, decided_gives, gave_behind, none_asked}
use Rattle.sbp_world.proofs.Completing.LabelsAsked.{asked_law}

-- what is neither a step of the operation nor a decision leaves it
abbrev unhandled : Kind
unhandled = record { Fits = λ step. Unit {0}; MayAsk = Unit {0}; MayCut = Unit {0}; MayAnnounce = Unit {0}; MayManage = ⊥; MayChange = Unit {0}; MayDecide = ⊥; MayAnswer = Unit {0}; MayTurn = Unit {0} }

leaves_it : (x y : Scene) → Moves unhandled x y → y.node.manager ≡ x.node.manager
leaves_it x y m = (node_left unhandled x y m).manager (λ never. never) (λ never. never)

may : MayAct unhandled
may = record { lost = λ m which cause. tt; asking = tt; cutting = tt }

-- so does what the operation asks for
asks_leave : (first : Layer Purpose) (source : ℕ) → FindsLabels first source → (ask : Ask) (s : Scene) → Behind first source 0 s.node.layer → ((body : Body) → manager_body ask s.node.manager.outgoing ≡ Some body → MayAsk s.node.layer source (Some body)) → (ask_manager source ask s).node.manager ≡ s.node.manager
asks_leave first source f ask s b m = by (manager_body ask s.node.manager.outgoing) refl
  where
    by : (body : Option Body) → manager_body ask s.node.manager.outgoing ≡ body → (ask_manager source ask s).node.manager ≡ s.node.manager
    by None e = ap (λ (t : Scene). t.node.manager) (none_asked source ask s e)
    by (Some body) e = ap (λ (t : Scene). t.node.manager) (asked_law.operation first source f 0 ask body s (record { behind = b; few = omega arith; body_is = e; asks = m body e }))

-- ---- a packet that the target gets
module _ (run : Option Told) (generation : ℕ) (bytes : List ℕ) (node : NodeState) (disks : List Disk) (g : ManagementGoesOn generation bytes node) where
  abbrev layer : Layer Purpose
  layer = (judging_step node.layer generation bytes).1

  abbrev here : Scene
  here = scene (record node { layer = layer }) empty_outbox

  abbrev all : Whole
  all = whole here disks

  abbrev Found : Finding Purpose → Type 0
  Found f = (judging_step node.layer generation bytes).0 ≡ f

  abbrev Handles : NodeState → Type 0
  Handles now = HandlesManager generation bytes node now

  judged : (peer : ℕ) → Behind node.layer peer 0 layer
  judged peer = found.judges 0 node.layer generation bytes found.begins

  -- it starts none
  abbrev NoStart : Finding Purpose → Type 0
  NoStart (of_request p) = is_barred node p ≡ false → (orb : ℕ) → demand_of (length node.rom) p ≡ demands.Manage orb → node.manager.operation ≡ None → ⊥
  NoStart finding = Unit {0}

  none_starts : (f : Finding Purpose) → Found f → NoStart f → (p : Packet) (orb : ℕ) → Found (of_request p) → is_barred node p ≡ false → demand_of (length node.rom) p ≡ demands.Manage orb → node.manager.operation ≡ None → ⊥
  none_starts f e n p orb found b d o = subst NoStart (sym e ∙ found) n b orb d o

  left_alone : (f : Finding Purpose) → Found f → NoStart f → (now : NodeState) → now.manager ≡ node.manager → Handles now
  left_alone f e n now m = record { leaves = stays m; started = λ p orb found b d o. absurd (none_starts f e n p orb found b d o) }

  -- ---- a response to the operation
  module _ (source : ℕ) (r : ManagerStep × (management.Machine × Table)) (on : StepsOn node layer source r) where
    abbrev begun : Scene
    begun = scene (with_manager here.node r.1) empty_outbox

    abbrev decided : Scene
    decided = decided_by r.0.decided r.0.effect source begun

    gave : Gives begun decided
    gave = decided_gives r.0.decided r.0.effect source begun

    steps_to : (ask_manager source r.0.ask (failed_by source r.0.failed decided)).node.manager ≡ r.1.0
    steps_to =
        asks_leave node.layer source on.finds r.0.ask (failed_by source r.0.failed decided) (gave_behind node.layer source layer decided.node.layer gave.layer (judged source))
        (λ body e. on.asks body (ap (λ (m : management.Machine). manager_body r.0.ask m.outgoing) (sym gave.manager) ∙ e) decided.node.layer gave.layer)
        ∙ gave.manager

  manages_by : (packet : Packet) (label : LabelParts) → Found (of_response packet label (Some purposes.Management)) → (op : Option Operation) → node.manager.operation ≡ op
      → Handles (managed_in (management.source_in op) (answer_in packet) here).node
  manages_by packet label f None e = left_alone (of_response packet label (Some purposes.Management)) f tt _ refl
  manages_by packet label f (Some own) e =
      let r = management.reply_step node.manager node.logins node.keys (answer_in packet) in
      record {
        leaves = replies packet label own f e (steps_to own.source r (g.replies packet label f own e));
        started = λ p orb found b d o. absurd (none_starts (of_response packet label (Some purposes.Management)) f tt p orb found b d o);
      }

  manages : (packet : Packet) (label : LabelParts) → Found (of_response packet label (Some purposes.Management)) → Handles (manage (answer_in packet) here).node
  unfolding manage
  manages packet label f = manages_by packet label f node.manager.operation refl

  -- ---- any other response
  concludes : (packet : Packet) (label : LabelParts) (purpose : Option Purpose) → Found (of_response packet label purpose) → Handles (concluded run purpose (header_in packet).source label (answer_in packet) all).node
  unfolding concluded
  concludes packet label None f = left_alone (of_response packet label None) f tt _ refl
  concludes packet label (Some (purposes.Agent place)) f =
      left_alone (of_response packet label (Some (purposes.Agent place))) f tt _
      (leaves_it here _ (replied_moves unhandled here may tt tt run place (header_in packet).source label (answer_in packet) all (fits_at unhandled (λ told at unit which answer s. tt) run (Some (purposes.Agent place)) (header_in packet).source label (answer_in packet) all) (stay here)))
  concludes packet label (Some purposes.Management) f = manages packet label f
  concludes packet label (Some purposes.Unsolicited) f = left_alone (of_response packet label (Some purposes.Unsolicited)) f tt _ refl

  -- ---- a request

  answer_layer : (r : List ℕ × Layer Purpose) (o : OutboxState) (source : ℕ) → (answered_by r o source).0 ≡ r.1
  answer_layer (given, l) o source = refl

  answered_behind : (peer : ℕ) (request : Packet) (rcode : ℕ) (given : List ℕ) (s : Scene) → Behind node.layer peer 0 s.node.layer → Behind node.layer peer 0 (answered request bytes rcode given s).node.layer
  unfolding answer_step
  answered_behind peer request rcode given s b = subst (Behind node.layer peer 0) (sym (answer_layer (answering_step s.node.layer request bytes rcode given) s.outbox (header_in request).source)) (found.answers 0 s.node.layer request bytes rcode given b)

  -- another demand than of MANAGEMENT_AGENT
  other_demand : (p : Packet) (demand : Demand) → demand_of (length node.rom) p ≡ demand → ((orb : ℕ) → demand ≡ demands.Manage orb → ⊥) → NoStart (of_request p)
  other_demand p demand d n = λ b orb e o. n orb (sym d ∙ e)

  starts_by : (p : Packet) (orb : ℕ) → Found (of_request p) → is_barred node p ≡ false → demand_of (length node.rom) p ≡ demands.Manage orb → (old : Option Operation) → node.manager.operation ≡ old → Handles (started_by (header_in p).source p bytes (management.start_with old node.manager (header_in p).source orb) here).node
  unfolding management.start_step
  starts_by p orb f b d None o =
      let source = (header_in p).source in
      let m = record node.manager { operation = Some (record { source = source; orb = orb; phase = phases.Orb }) } in
      let s = scene (record here.node { manager = m }) empty_outbox in
      let t = answered p bytes 0 [] s in
      let now : (ask_manager source (asks.Read orb 32) t).node.manager ≡ m =
      asks_leave node.layer source (g.starts p orb f d) (asks.Read orb 32) t (answered_behind source p 0 [] s (judged source)) (λ body e. subst (λ x. MayAsk t.node.layer source x) e (read orb 32)) in
      record {
        leaves = starts p orb f b d o (now ∙ step_is orb source);
        started = λ q at found bar demand none.
            (let same : p ≡ q = request_is p q (sym f ∙ found) in
            let orb_is : orb ≡ at = manage_is orb at (sym d ∙ ap (demand_of (length node.rom)) same ∙ demand) in
            now ∙ step_is orb source ∙ ap (λ x. (management.start_with node.manager.operation node.manager (header_in x).source orb).1) same ∙ ap (λ n. (management.start_with node.manager.operation node.manager (header_in q).source n).1) orb_is);
      }
    where
      step_is : (at source : ℕ) → record node.manager { operation = Some (record { source = source; orb = at; phase = phases.Orb }) } ≡ (management.start_with node.manager.operation node.manager source at).1
      step_is at source = ap (λ x. (management.start_with x node.manager source at).1) (sym o)

      request_is : (x y : Packet) → ◌≡◌ {A = Finding Purpose} (of_request x) (of_request y) → x ≡ y
      request_is x y e = cc

      manage_is : (x y : ℕ) → demands.Manage x ≡ demands.Manage y → x ≡ y
      manage_is x y e = cc
  starts_by p orb f b d (Some own) o = left_alone (of_request p) f (λ bar at e none. busy (sym none ∙ o)) _ refl
    where
      busy : None ≡ Some own → ⊥
      busy e = cc

  starts_it : (p : Packet) (orb : ℕ) → Found (of_request p) → is_barred node p ≡ false → demand_of (length node.rom) p ≡ demands.Manage orb → Handles (start orb p bytes here).node
  unfolding start management.start_step
  starts_it p orb f b d = starts_by p orb f b d node.manager.operation refl

  serves_as : (p : Packet) (demand : Demand) → Found (of_request p) → is_barred node p ≡ false → demand_of (length node.rom) p ≡ demand → Handles (served_as demand p bytes here).node
  serves_as p (demands.Refused rcode) f b d = left_alone (of_request p) f (other_demand p (demands.Refused rcode) d (λ orb e. refused rcode orb e)) _ refl
    where
      refused : (rcode orb : ℕ) → demands.Refused rcode ≡ demands.Manage orb → ⊥
      refused rcode orb e = cc
  serves_as p (demands.Rom at len) f b d = left_alone (of_request p) f (other_demand p (demands.Rom at len) d (λ orb e. rom at len orb e)) _ refl
    where
      rom : (at len orb : ℕ) → demands.Rom at len ≡ demands.Manage orb → ⊥
      rom at len orb e = cc
  serves_as p (demands.Manage orb) f b d = starts_it p orb f b d
  serves_as p (demands.Agent place access) f b d =
      left_alone (of_request p) f (other_demand p (demands.Agent place access) d (λ orb e. agent orb e)) _ (leaves_it here _ (access_moves unhandled here may (λ ask. tt) tt p bytes access place here (stay here)))
    where
      agent : (orb : ℕ) → demands.Agent place access ≡ demands.Manage orb → ⊥
      agent orb e = cc

  serves : (p : Packet) → Found (of_request p) → is_barred node p ≡ false → Handles (serve p bytes here).node
  unfolding serve
  serves p f b = serves_as p (demand_of (length node.rom) p) f b refl

  abbrev Done : Judged × Whole → Type 0
  Done x = Handles x.1.node

  by_bar : (p : Packet) → Found (of_request p) → (b : Bool) → is_barred node p ≡ b → Done (judged_scene (cond b (judgements.Ignored causes.Login, answered p bytes address_error [] here) (judgements.Got, serve p bytes here)) all)
  by_bar p f true e = left_alone (of_request p) f (λ b orb d o. no (sym e ∙ b)) _ refl
    where
      no : true ≡ false → ⊥
      no e = cc
  by_bar p f false e = serves p f e

  by_found : (f : Finding Purpose) → Found f → Done (received_as run bytes f all)
  unfolding serving_step is_barred
  by_found of_generation f = left_alone of_generation f tt _ refl
  by_found of_grammar f = left_alone of_grammar f tt _ refl
  by_found of_label f = left_alone of_label f tt _ refl
  by_found (of_again p rcode) f = left_alone (of_again p rcode) f tt _ refl
  by_found (of_response p label purpose) f = concludes p label purpose f
  by_found (of_request p) f = by_bar p f (is_barred node p) refl

  delivery_handles : Done (received run generation bytes (whole (scene node empty_outbox) disks))
  unfolding received
  delivery_handles = by_found (judging_step node.layer generation bytes).0 refl

pub deliveries_handle : DeliveriesHandle
deliveries_handle run generation bytes node disks g = delivery_handles run generation bytes node disks g
