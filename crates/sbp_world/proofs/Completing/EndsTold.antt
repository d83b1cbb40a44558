-- What a call of the target tells of failures of the management operation: none, where the step of the operation does not fail, and what it asks for finds a label. Nothing but such a step tells of one.
use Rattle.sbp_world.proofs.Words.Std.{arith, ◌≡◌, ◌∙◌, refl, sym, ap, subst, ℕ, zero, suc, ◌+◌, nat_lt, Bool, true, false, cond, List, [], ◌∷◌, ◌++◌, length, Option, Some, None}
use Rattle.sbp_world.proofs.Words.Wire.{Body, LabelParts, Packet, header_in, Finding, Layer, answering_step, judging_step, of_again, of_generation, of_grammar, of_label, of_request, of_response, CutCause, Judged, Side, OutboxState, empty_outbox}
use Rattle.sbp_world.proofs.Words.Target.{Disk, Told, Operation, ManagerStep, Table, Demand, demand_of, Kind, Moves, Purpose, Tells, announced, ask_manager, back, clear_from, clear_one, cleared, cut, cut_all, cut_placed, decided_by, departed, died, ended, effect_by, failed, failed_by, lapsed, managed, managed_in, manager_asked, manager_body, opened, place_in, plain, ran, stay, unsent, was_cut, manage, NodeState, Scene, desk_at, login_at, scene, with_manager, answer_in, concluded, judged_scene, received, received_as, seen, Whole, whole, answer_step, answered_by, address_error, answered, is_barred, serving_step, serve, served_as, start, started_by}
use Rattle.sbp_world.proofs.Words.Initiator.{Ask, Answer}
use Rattle.label_table.specs.Layer.{seeing_step}
use Rattle.mgmt_agent.specs.Machine as management
use Rattle.mgmt_agent.specs.declared.decision.Decision.{Decision}
use Rattle.mgmt_agent.specs.declared.decision.Effect.{Effect}
use Rattle.mgmt_agent.specs.declared.decision.Effect.TheVariants as effects
use Rattle.mgmt_agent.specs.declared.operation.Phase.TheVariants as phases
use Rattle.orb_layout.specs.declared.ask.Ask.TheVariants as asks
use Rattle.orb_layout.specs.declared.ask.FailCause.{FailCause}
use Rattle.sbp_journal.specs.declared.cause.Cause.TheVariants as causes
use Rattle.sbp_journal.specs.declared.cause.CutCause.TheVariants as cuts
use Rattle.sbp_journal.specs.declared.cause.Judged.TheVariants as judgements
use Rattle.target_base.specs.declared.address.Demand.TheVariants as demands
use Rattle.sbp_target.specs.Agents.{disowned}
use Rattle.sbp_target.specs.Units.{clear_unit, cut_at, cut_from, is_cut}
use Rattle.sbp_target.specs.declared.purpose.Purpose.TheVariants as purposes
use Rattle.sbp_target.specs.declared.purpose.Sent.{Sent}
use Rattle.sbp_target.specs.Histories.Moves.{MayAct, answers as may_answer, go_on, held}
use Rattle.sbp_target.proofs.Histories.Moved.{access_moves, decided_moves, fits_at, replied_moves, reset_moves, tick_moves}
use Rattle.sbp_target.proofs.Histories.Views.{requests, sides_kept}
use Rattle.sbp_world.specs.Completing.Ends.{AreUnfailing, DeliveriesManage, IsUnfailing, ManagementGoesOn, OthersManage, StepsOn}
use Rattle.sbp_world.specs.Completing.LabelsAsked.{MayAsk, read}
use Rattle.sbp_world.specs.Completing.LabelsFound.{Behind, FindsLabels}
use Rattle.sbp_world.specs.Completing.LabelsFound as found
use Rattle.sbp_world.specs.Completing.Managed.{GaveUp, none_yet, one_more}
use Rattle.sbp_world.proofs.Completing.LabelsAsked.{asked_law}

more_unfailing : (told : List Side) (side : Side) → AreUnfailing told → IsUnfailing side → AreUnfailing (told ++ side ∷ [])
more_unfailing [] side h f = (f, tt)
more_unfailing (first ∷ told) side h f = (h.0, more_unfailing told side h.1 f)

abbrev Fine : Scene → Type 0
Fine s = AreUnfailing s.outbox.sides

-- ---- what is no step of the operation
abbrev unmanaged : Kind
unmanaged = record { Fits = λ step. Unit {0}; MayAsk = Unit {0}; MayCut = Unit {0}; MayAnnounce = Unit {0}; MayManage = ⊥; MayChange = Unit {0}; MayDecide = Unit {0}; MayAnswer = Unit {0}; MayTurn = Unit {0} }

unmanaged_side : (side : Side) → Tells unmanaged side → IsUnfailing side
unmanaged_side _ (ran place m step outcome f e) = tt
unmanaged_side _ (died place step cause f e) = tt
unmanaged_side _ (ended place m step status f e) = tt
unmanaged_side _ (plain _ (was_cut place cause t)) = tt
unmanaged_side _ (plain _ (opened place orb t)) = tt
unmanaged_side _ (plain _ (announced place t)) = tt
unmanaged_side _ (plain _ (unsent place t)) = tt
unmanaged_side _ (plain _ (failed source cause t)) = absurd t
unmanaged_side _ (plain _ (managed source function subject status login t)) = tt
unmanaged_side _ (plain _ (cleared unit t)) = tt
unmanaged_side _ (plain _ (back login t)) = tt
unmanaged_side _ (plain _ (departed login t)) = tt
unmanaged_side _ (plain _ (held login t)) = tt
unmanaged_side _ (plain _ (lapsed login t)) = tt

goes : (x y : Scene) → Moves unmanaged x y → Fine x → Fine y
goes x y m h = sides_kept unmanaged AreUnfailing (λ told side t i. more_unfailing told side i (unmanaged_side side t)) x y m h

may : MayAct unmanaged
may = record { lost = λ m which cause. tt; asking = tt; cutting = tt }

-- ---- what a decision does: it gives transactions up, and leaves the management as it is
pub record Gives (s t : Scene) : Type 0 where
  pub layer : GaveUp s.node.layer t.node.layer
  pub manager : t.node.manager ≡ s.node.manager

then_gave : (a b c : Layer Purpose) → GaveUp a b → GaveUp b c → GaveUp a c
then_gave a b _ p none_yet = p
then_gave a b _ p (one_more layer other label q) = one_more layer other label (then_gave a b layer p q)

gives_self : (s : Scene) → Gives s s
gives_self s = record { layer = none_yet; manager = refl }

gives_then : (a b c : Scene) → Gives a b → Gives b c → Gives a c
gives_then a b c p q = record { layer = then_gave a.node.layer b.node.layer c.node.layer p.layer q.layer; manager = q.manager ∙ p.manager }

disowned_gives : (sent : Option Sent) (first layer : Layer Purpose) → GaveUp first layer → GaveUp first (disowned sent layer)
disowned_gives None first layer g = g
disowned_gives (Some sent) first layer g = one_more layer sent.peer sent.label g

cut_gives : (cause : CutCause) (place : ℕ) (s : Scene) → Gives s (cut cause place s)
unfolding cut
cut_gives cause place s =
    let main = (desk_at s.node place).main in
    let first = s.node.layer in
    record { layer = disowned_gives (desk_at s.node place).ahead first (disowned main first) (disowned_gives main first first none_yet); manager = refl }

gives_if : (b : Bool) (s x y : Scene) → Gives s x → Gives s y → Gives s (cond b x y)
gives_if true s x y p q = p
gives_if false s x y p q = q

cut_at_gives : (cause : CutCause) (unit : Option ℕ) (place : ℕ) (s : Scene) → Gives s (cut_at cause unit place s)
unfolding cut_at
cut_at_gives cause unit place s = gives_if (is_cut unit (login_at s.node place)) s (cut cause place s) s (cut_gives cause place s) (gives_self s)

cuts_give : (left place : ℕ) (cause : CutCause) (unit : Option ℕ) (s : Scene) → Gives s (cut_from left place cause unit s)
unfolding cut_from
cuts_give zero place cause unit s = gives_self s
cuts_give (suc left) place cause unit s =
    let t = cut_at cause unit place s in gives_then s t (cut_from left (place + 1) cause unit t) (cut_at_gives cause unit place s) (cuts_give left (place + 1) cause unit t)

placed_gives : (place : Option ℕ) (cause : CutCause) (s : Scene) → Gives s (cut_placed place cause s)
placed_gives None cause s = gives_self s
placed_gives (Some place) cause s = cut_gives cause place s

unit_gives : (unit : ℕ) (s : Scene) → Gives s (clear_unit unit s)
unfolding clear_unit
unit_gives unit s = record { layer = none_yet; manager = refl }

clears_give : (left unit : ℕ) (s : Scene) → Gives s (clear_from left unit s)
unfolding clear_from
clears_give zero unit s = gives_self s
clears_give (suc left) unit s = let t = clear_unit unit s in gives_then s t (clear_from left (unit + 1) t) (unit_gives unit s) (clears_give left (unit + 1) t)

effect_gives : (effect : Effect) (subject : ℕ) (s : Scene) → Gives s (effect_by effect subject s)
effect_gives effects.Nothing subject s = gives_self s
effect_gives (effects.Entered place replaced) subject s = record { layer = none_yet; manager = refl }
effect_gives (effects.Back place) subject s = record { layer = none_yet; manager = refl }
effect_gives (effects.Left place) subject s = let g = placed_gives (place_in place) cuts.Logout s in record { layer = g.layer; manager = g.manager }
effect_gives (effects.Abort place orb) subject s = record { layer = none_yet; manager = refl }
effect_gives (effects.AbortSet place) subject s = placed_gives (place_in place) cuts.AbortSet s
effect_gives (effects.UnitReset unit) subject s =
    let t = cut_all cuts.UnitReset (Some unit) s in
    gives_then s t (clear_one unit t) (cuts_give 8 0 cuts.UnitReset (Some unit) s) (gives_if (nat_lt unit (length t.node.units)) t (clear_unit unit t) t (unit_gives unit t) (gives_self t))
effect_gives effects.TargetReset subject s =
    let t = cut_all cuts.TargetReset None s in gives_then s t (clear_from (length t.node.units) 0 t) (cuts_give 8 0 cuts.TargetReset None s) (clears_give (length t.node.units) 0 t)

pub decided_gives : (d : Option Decision) (effect : Effect) (source : ℕ) (s : Scene) → Gives s (decided_by d effect source s)
unfolding decided_by
decided_gives None effect source s = gives_self s
decided_gives (Some d) effect source s = let g = effect_gives effect d.subject s in record { layer = g.layer; manager = g.manager }

-- ---- what the operation asks for
pub gave_behind : (first : Layer Purpose) (peer : ℕ) (layer now : Layer Purpose) → GaveUp layer now → Behind first peer 0 layer → Behind first peer 0 now
gave_behind first peer layer _ none_yet b = b
gave_behind first peer layer _ (one_more l other label g) b = found.gives_up 0 l other label (gave_behind first peer layer l g b)

pub none_asked : (source : ℕ) (ask : Ask) (s : Scene) → manager_body ask s.node.manager.outgoing ≡ None → ask_manager source ask s ≡ s
unfolding ask_manager
none_asked source ask s e = ap (λ x. manager_asked x source s) e

asks_fine : (first : Layer Purpose) (source : ℕ) → FindsLabels first source → (ask : Ask) (s : Scene) → Behind first source 0 s.node.layer → ((body : Body) → manager_body ask s.node.manager.outgoing ≡ Some body → MayAsk s.node.layer source (Some body)) → Fine s → Fine (ask_manager source ask s)
asks_fine first source f ask s b m h = by (manager_body ask s.node.manager.outgoing) refl
  where
    by : (body : Option Body) → manager_body ask s.node.manager.outgoing ≡ body → Fine (ask_manager source ask s)
    by None e = subst Fine (sym (none_asked source ask s e)) h
    by (Some body) e =
        subst Fine (sym (asked_law.operation first source f 0 ask body s (record { behind = b; few = omega arith; body_is = e; asks = m body e }))) (requests AreUnfailing s source body purposes.Management h)

-- ---- a packet that the target gets
module _ (run : Option Told) (generation : ℕ) (bytes : List ℕ) (node : NodeState) (disks : List Disk) (g : ManagementGoesOn generation bytes node) where
  abbrev layer : Layer Purpose
  layer = (judging_step node.layer generation bytes).1

  abbrev here : Scene
  here = scene (record node { layer = layer }) empty_outbox

  abbrev all : Whole
  all = whole here disks

  abbrev Found : Finding Purpose → Type 0
  Found f = (judging_step node.layer generation bytes).0 ≡ f

  judged : (peer : ℕ) → Behind node.layer peer 0 layer
  judged peer = found.judges 0 node.layer generation bytes found.begins

  -- ---- a response to the operation
  failed_fine : (source : ℕ) (x : Option FailCause) (s : Scene) → x ≡ None → Fine s → Fine (failed_by source x s)
  failed_fine source None s e h = h
  failed_fine source (Some cause) s e h = cc e

  module _ (source : ℕ) (r : ManagerStep × (management.Machine × Table)) (on : StepsOn node layer source r) where
    abbrev begun : Scene
    begun = scene (with_manager here.node r.1) empty_outbox

    abbrev decided : Scene
    decided = decided_by r.0.decided r.0.effect source begun

    gave : Gives begun decided
    gave = decided_gives r.0.decided r.0.effect source begun

    steps_fine : Fine (ask_manager source r.0.ask (failed_by source r.0.failed decided))
    steps_fine =
        let now = failed_by source r.0.failed decided in
        asks_fine node.layer source on.finds r.0.ask now (gave_behind node.layer source layer decided.node.layer gave.layer (judged source))
        (λ body e. on.asks body (ap (λ (m : management.Machine). manager_body r.0.ask m.outgoing) (sym gave.manager) ∙ e) decided.node.layer gave.layer)
        (failed_fine source r.0.failed decided on.failed
        (goes begun decided (decided_moves unmanaged begun tt tt tt r.0.decided r.0.effect source begun (stay begun)) tt))

  manages_by : (answer : Answer) → (op : Option Operation) → node.manager.operation ≡ op
      → ((own : Operation) → op ≡ Some own → StepsOn node layer own.source (management.reply_step node.manager node.logins node.keys answer)) → Fine (managed_in (management.source_in op) answer here)
  manages_by answer None e f = tt
  manages_by answer (Some own) e f = steps_fine own.source (management.reply_step node.manager node.logins node.keys answer) (f own refl)

  manages : (packet : Packet) (label : LabelParts) → Found (of_response packet label (Some purposes.Management)) → Fine (manage (answer_in packet) here)
  unfolding manage
  manages packet label f = manages_by (answer_in packet) node.manager.operation refl (λ own e. g.replies packet label f own e)

  -- ---- any other response
  concludes : (packet : Packet) (label : LabelParts) (purpose : Option Purpose) → Found (of_response packet label purpose) → AreUnfailing (concluded run purpose (header_in packet).source label (answer_in packet) all).outbox.sides
  unfolding concluded
  concludes packet label None f = tt
  concludes packet label (Some (purposes.Agent place)) f =
      goes here _ (replied_moves unmanaged here may tt tt run place (header_in packet).source label (answer_in packet) all (fits_at unmanaged (λ told at unit which answer s. tt) run (Some (purposes.Agent place)) (header_in packet).source label (answer_in packet) all) (stay here)) tt
  concludes packet label (Some purposes.Management) f = manages packet label f
  concludes packet label (Some purposes.Unsolicited) f = tt

  -- ---- a request
  answers : (request : Packet) (rcode : ℕ) (given : List ℕ) (s : Scene) → Fine s → Fine (answered request bytes rcode given s)
  answers request rcode given s h = goes s _ (go_on s s _ (stay s) (may_answer request bytes rcode given s tt)) h

  answer_layer : (r : List ℕ × Layer Purpose) (o : OutboxState) (source : ℕ) → (answered_by r o source).0 ≡ r.1
  answer_layer (given, l) o source = refl

  answered_behind : (peer : ℕ) (request : Packet) (rcode : ℕ) (given : List ℕ) (s : Scene) → Behind node.layer peer 0 s.node.layer → Behind node.layer peer 0 (answered request bytes rcode given s).node.layer
  unfolding answer_step
  answered_behind peer request rcode given s b = subst (Behind node.layer peer 0) (sym (answer_layer (answering_step s.node.layer request bytes rcode given) s.outbox (header_in request).source)) (found.answers 0 s.node.layer request bytes rcode given b)

  starts_by : (p : Packet) (source orb : ℕ) → FindsLabels node.layer source → (old : Option Operation) → Fine (started_by source p bytes (management.start_with old node.manager source orb) here)
  starts_by p source orb f None =
      let m = record node.manager { operation = Some (record { source = source; orb = orb; phase = phases.Orb }) } in
      let s = scene (record here.node { manager = m }) empty_outbox in
      let t = answered p bytes 0 [] s in
      asks_fine node.layer source f (asks.Read orb 32) t (answered_behind source p 0 [] s (judged source)) (λ body e. subst (λ b. MayAsk t.node.layer source b) e (read orb 32)) (answers p 0 [] s tt)
  starts_by p source orb f (Some own) = answers p 4 [] (scene (record here.node { manager = node.manager }) empty_outbox) tt

  starts : (p : Packet) (orb : ℕ) → FindsLabels node.layer (header_in p).source → Fine (start orb p bytes here)
  unfolding start management.start_step
  starts p orb f = starts_by p (header_in p).source orb f node.manager.operation

  serves_as : (p : Packet) (demand : Demand) → Found (of_request p) → demand_of (length node.rom) p ≡ demand → Fine (served_as demand p bytes here)
  serves_as p (demands.Refused rcode) f d = answers p rcode [] here tt
  serves_as p (demands.Rom at len) f d = answers p 0 _ here tt
  serves_as p (demands.Manage orb) f d = starts p orb (g.starts p orb f d)
  serves_as p (demands.Agent place access) f d = goes here _ (access_moves unmanaged here may (λ ask. tt) tt p bytes access place here (stay here)) tt

  serves : (p : Packet) → Found (of_request p) → Fine (serve p bytes here)
  unfolding serve
  serves p f = serves_as p (demand_of (length node.rom) p) f refl

  abbrev Done : Judged × Whole → Type 0
  Done x = AreUnfailing x.1.outbox.sides

  by_bar : (p : Packet) → Found (of_request p) → (b : Bool) → Done (judged_scene (cond b (judgements.Ignored causes.Login, answered p bytes address_error [] here) (judgements.Got, serve p bytes here)) all)
  by_bar p f true = answers p address_error [] here tt
  by_bar p f false = serves p f

  by_found : (f : Finding Purpose) → Found f → Done (received_as run bytes f all)
  unfolding serving_step is_barred
  by_found of_generation f = tt
  by_found of_grammar f = tt
  by_found of_label f = tt
  by_found (of_again p rcode) f = answers p rcode [] here tt
  by_found (of_response p label purpose) f = concludes p label purpose f
  by_found (of_request p) f = by_bar p f (is_barred node p)

  delivery_fine : Done (received run generation bytes (whole (scene node empty_outbox) disks))
  unfolding received
  delivery_fine = by_found (judging_step node.layer generation bytes).0 refl

pub deliveries_manage : DeliveriesManage
deliveries_manage run generation bytes node disks g = delivery_fine run generation bytes node disks g

pub others_manage : OthersManage
unfolding seen
others_manage = record {
  sights = λ generation id node.
      let s = scene node empty_outbox in
      let r = seeing_step node.layer generation id in
      let t = scene (record node { layer = r.1 }) empty_outbox in
      goes t _ (reset_moves unmanaged t tt tt r s (stay t)) tt;
  ticks = λ node. let s = scene node empty_outbox in goes s _ (tick_moves unmanaged s tt s (stay s)) tt;
}
