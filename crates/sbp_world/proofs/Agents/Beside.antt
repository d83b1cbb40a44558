-- What an agent's step, its units and its management bring about is the same whatever packets the target has handed out before: those stay in front.
use Rattle.sbp_world.proofs.Words.Std.{◌≡◌, ◌∙◌, refl, ap, ℕ, zero, suc, ◌+◌, nat_lt, is_some, Bool, true, false, cond, List, [], ◌∷◌, ◌++◌, append_assoc, length, Option, Some, None}
use Rattle.sbp_world.proofs.Words.Wire.{LabelParts, Asked, Body, block_write, Layer, asking_step, free_labels, CutCause, Outgoing, OutboxState}
use Rattle.sbp_world.proofs.Words.Target.{Login, Table, block, Outcome, AgentStep, Which, Ahead, Main, Machine, is_under_way, state_in, is_reset, lost_step, Decision, Effect, ManagerStep, Purpose, after_ahead, after_loss, after_main, agent_body, ahead_asked, ahead_sent, ask_main, cut, cut_node, dropped_by, follow, lose, lose_main, lost_by, main_asked, main_sent, noted, promoted_by, send_ahead, told_cut, ask_manager, clear_one, clear_units, cut_placed, decided_by, effect_by, failed_by, fresh_desk, logged_out, lose_operation, lost_in, manage, managed_in, managed_with, manager_asked, manager_body, manager_lost, manager_sent, place_in, tell_failed, tell_left, told_of, with_manager, NodeState, Scene, desk_at, login_at, scene, with_agent, announced_by, changed_by, follow_all, request_step, sent_by, with_packet, with_side, tell_dead, tell_ended, tell_ran, tell_step, announce_at, announce_from, announce_in, announce_to, clear_from, clear_unit, cut_all, cut_at, cut_from, hears, is_cut, is_pending, unsolicited_by}
use Rattle.sbp_world.proofs.Words.Initiator.{Ask, FailCause, StatusKind, Answer, NoLabel}
use Rattle.orb_layout.specs.declared.ask.FailCause.TheVariants as causes
use Rattle.mgmt_agent.specs.declared.decision.Effect.TheVariants as effects
use Rattle.mgmt_agent.specs.Machine as management
use Rattle.sbp_journal.specs.declared.cause.CutCause.TheVariants as cuts
use Rattle.sbp_journal.specs.declared.side.Side.TheVariants as sides
use Rattle.sbp_target.specs.declared.purpose.Purpose.TheVariants as purposes

-- other packets in front of those of an outbox, and of a scene's
abbrev pub box : List Outgoing → OutboxState → OutboxState
box before o = record o { packets = before ++ o.packets }

abbrev pub also : List Outgoing → Scene → Scene
also before s = scene s.node (box before s.outbox)

abbrev labelled : Option LabelParts → Layer Purpose → OutboxState → Option LabelParts × (Layer Purpose × OutboxState)
labelled label layer outbox = (label, (layer, outbox))

abbrev flagged : Bool → Scene → Bool × Scene
flagged b s = (b, s)

module _ (before : List Outgoing) where
  abbrev Boxed : Option LabelParts × (Layer Purpose × OutboxState) → Option LabelParts × (Layer Purpose × OutboxState)
  Boxed r = labelled r.0 r.1.0 (box before r.1.1)

  abbrev Both : Bool × Scene → Bool × Scene
  Both r = flagged r.0 (also before r.1)

  pub pick : (b : Bool) (x y p q : Scene) → x ≡ also before p → y ≡ also before q → cond b x y ≡ also before (cond b p q)
  pick true x y p q e f = e
  pick false x y p q e f = f

  pub packs : (o : OutboxState) (packet : Outgoing) → with_packet (box before o) packet ≡ box before (with_packet o packet)
  packs o packet = ap (λ (ps : List Outgoing). record o { packets = ps }) (append_assoc before o.packets (packet ∷ []))

  sends : (r : Option Asked × Layer Purpose) (o : OutboxState) (peer : ℕ) → sent_by r (box before o) peer ≡ Boxed (sent_by r o peer)
  sends (Some asked, layer) o peer = ap (labelled (Some asked.label) layer) (packs o (record { to = peer; label = Some asked.label; bytes = asked.bytes }))
  sends (None, layer) o peer = refl

  requests : (layer : Layer Purpose) (o : OutboxState) (peer : ℕ) (body : Body) (purpose : Purpose) → request_step layer (box before o) peer body purpose ≡ Boxed (request_step layer o peer body purpose)
  unfolding request_step
  requests layer o peer body purpose = sends (asking_step layer peer body purpose) o peer

  -- ---- a step is told
  tells_ran : (place : ℕ) (m : Machine) (x : Option Outcome) (o : OutboxState) → tell_ran place m x (box before o) ≡ box before (tell_ran place m x o)
  tells_ran place m None o = refl
  tells_ran place m (Some outcome) o = refl

  tells_dead : (place : ℕ) (x : Option FailCause) (o : OutboxState) → tell_dead place x (box before o) ≡ box before (tell_dead place x o)
  tells_dead place None o = refl
  tells_dead place (Some cause) o = refl

  tells_ended : (place : ℕ) (m : Machine) (x : Option StatusKind) (o : OutboxState) → tell_ended place m x (box before o) ≡ box before (tell_ended place m x o)
  tells_ended place m None o = refl
  tells_ended place m (Some status) o = refl

  tells : (place : ℕ) (m : Machine) (step : AgentStep) (o : OutboxState) → tell_step place m step (box before o) ≡ box before (tell_step place m step o)
  unfolding tell_step
  tells place m step o =
      let a = tell_ran place m step.ran o in
      ap (λ (x : OutboxState). tell_ended place m step.ended (tell_dead place step.dead x)) (tells_ran place m step.ran o)
      ∙ ap (tell_ended place m step.ended) (tells_dead place step.dead a)
      ∙ tells_ended place m step.ended (tell_dead place step.dead a)

  notes : (place : ℕ) (step : AgentStep) (s : Scene) → noted place step (also before s) ≡ also before (noted place step s)
  unfolding noted
  notes place step s = ap (scene (promoted_by step.promoted place (dropped_by step.dead place s.node))) (tells place (desk_at s.node place).agent step s.outbox)

  -- ---- what it asks for leaves
  main_leaves : (place peer : ℕ) (node : NodeState) (r : Option LabelParts × (Layer Purpose × OutboxState)) → main_sent place peer node (Boxed r) ≡ Both (main_sent place peer node r)
  main_leaves place peer node (Some label, (layer, outbox)) = refl
  main_leaves place peer node (None, (layer, outbox)) = refl

  main_asks : (body : Option Body) (place : ℕ) (login : Login) (s : Scene) → main_asked body place login (also before s) ≡ Both (main_asked body place login s)
  main_asks None place login s = refl
  main_asks (Some body) place login s =
      ap (main_sent place login.node s.node) (requests s.node.layer s.outbox login.node body (purposes.Agent place))
      ∙ main_leaves place login.node s.node (request_step s.node.layer s.outbox login.node body (purposes.Agent place))

  asks_main : (place : ℕ) (login : Login) (step : AgentStep) (s : Scene) → ask_main place login step (also before s) ≡ Both (ask_main place login step s)
  unfolding ask_main
  asks_main place login step s = main_asks (agent_body step.ask (is_some step.ended) login.fifo (desk_at s.node place).agent.outgoing) place login s

  loses_if : (b : Bool) (place : ℕ) (login : Login) (which : Which) (s : Scene) → lost_by b place login which (also before s) ≡ Both (lost_by b place login which s)
  loses_if false place login which s = refl
  loses_if true place login which s =
      let l = lost_step (desk_at s.node place).agent which causes.Label in
      let t = scene (with_agent s.node place l.1) s.outbox in
      ap (ask_main place login l.0) (notes place l.0 t) ∙ asks_main place login l.0 (noted place l.0 t)

  loses : (place : ℕ) (login : Login) (which : Which) (s : Scene) → lose place login which (also before s) ≡ Both (lose place login which s)
  unfolding lose
  loses place login which s = loses_if (is_under_way which (desk_at s.node place).agent) place login which s

  ahead_leaves : (place peer : ℕ) (node : NodeState) (r : Option LabelParts × (Layer Purpose × OutboxState)) → ahead_sent place peer node (Boxed r) ≡ Both (ahead_sent place peer node r)
  ahead_leaves place peer node (Some label, (layer, outbox)) = refl
  ahead_leaves place peer node (None, (layer, outbox)) = refl

  ahead_if : (b : Bool) (body : Body) (place : ℕ) (login : Login) (s : Scene) → cond b (flagged false (also before s)) (ahead_sent place login.node s.node (request_step s.node.layer (box before s.outbox) login.node body (purposes.Agent place))) ≡ Both (cond b (flagged false s) (ahead_sent place login.node s.node (request_step s.node.layer s.outbox login.node body (purposes.Agent place))))
  ahead_if true body place login s = refl
  ahead_if false body place login s =
      ap (ahead_sent place login.node s.node) (requests s.node.layer s.outbox login.node body (purposes.Agent place))
      ∙ ahead_leaves place login.node s.node (request_step s.node.layer s.outbox login.node body (purposes.Agent place))

  ahead_asks : (body : Option Body) (place : ℕ) (login : Login) (s : Scene) → ahead_asked body place login (also before s) ≡ Both (ahead_asked body place login s)
  ahead_asks None place login s = refl
  ahead_asks (Some body) place login s = ahead_if (nat_lt (free_labels s.node.layer login.node) 16) body place login s

  sends_ahead : (place : ℕ) (login : Login) (ask : Ask) (s : Scene) → send_ahead place login ask (also before s) ≡ Both (send_ahead place login ask s)
  unfolding send_ahead
  sends_ahead place login ask s = ahead_asks (agent_body ask false login.fifo (desk_at s.node place).agent.outgoing) place login s

  behind_ahead : (place : ℕ) (login : Login) (r : Bool × Scene) → after_ahead place login (Both r) ≡ also before (after_ahead place login r)
  behind_ahead place login (true, s) = refl
  behind_ahead place login (false, s) = ap (λ (r : Bool × Scene). r.1) (loses place login Ahead s)

  behind_loss : (place : ℕ) (login : Login) (r : Bool × Scene) → after_loss place login (Both r) ≡ also before (after_loss place login r)
  behind_loss place login (true, s) = refl
  behind_loss place login (false, s) = ap (λ (r : Bool × Scene). r.1) (loses place login Main s)

  loses_main : (place : ℕ) (login : Login) (s : Scene) → lose_main place login (also before s) ≡ also before (lose_main place login s)
  unfolding lose_main
  loses_main place login s = ap (after_loss place login) (loses place login Main s) ∙ behind_loss place login (lose place login Main s)

  behind_main : (place : ℕ) (login : Login) (step : AgentStep) (r : Bool × Scene) → after_main place login step (Both r) ≡ also before (after_main place login step r)
  behind_main place login step (true, s) = ap (after_ahead place login) (sends_ahead place login step.ahead s) ∙ behind_ahead place login (send_ahead place login step.ahead s)
  behind_main place login step (false, s) = loses_main place login s

  pub follows : (place : ℕ) (login : Login) (step : AgentStep) (s : Scene) → follow place login step (also before s) ≡ also before (follow place login step s)
  unfolding follow
  follows place login step s =
      let t = noted place step s in
      ap (λ (x : Scene). after_main place login step (ask_main place login step x)) (notes place step s)
      ∙ ap (after_main place login step) (asks_main place login step t)
      ∙ behind_main place login step (ask_main place login step t)

  -- ---- unsolicited status
  announced : (place peer : ℕ) (node : NodeState) (r : Option LabelParts × (Layer Purpose × OutboxState)) → unsolicited_by place peer node (Boxed r) ≡ also before (unsolicited_by place peer node r)
  announced place peer node (Some label, (layer, outbox)) = refl
  announced place peer node (None, (layer, outbox)) = refl

  announces_to : (place : ℕ) (login : Login) (s : Scene) → announce_to place login (also before s) ≡ also before (announce_to place login s)
  unfolding announce_to
  announces_to place login s =
      let r = request_step s.node.layer s.outbox login.node (block_write login.fifo block) purposes.Unsolicited in
      pick (is_pending login.node s.node.pending) (scene s.node (with_side (box before s.outbox) (sides.Unsent place))) (unsolicited_by place login.node s.node (request_step s.node.layer (box before s.outbox) login.node (block_write login.fifo block) purposes.Unsolicited)) (scene s.node (with_side s.outbox (sides.Unsent place))) (unsolicited_by place login.node s.node r) refl
      (ap (unsolicited_by place login.node s.node) (requests s.node.layer s.outbox login.node (block_write login.fifo block) purposes.Unsolicited) ∙ announced place login.node s.node r)

  announces_in : (unit from place : ℕ) (login : Option Login) (s : Scene) → announce_in unit from place login (also before s) ≡ also before (announce_in unit from place login s)
  announces_in unit from place None s = refl
  announces_in unit from place (Some login) s = pick (hears unit from place (desk_at s.node place) login) (announce_to place login (also before s)) (also before s) (announce_to place login s) s (announces_to place login s) refl

  announces_at : (unit from place : ℕ) (s : Scene) → announce_at unit from place (also before s) ≡ also before (announce_at unit from place s)
  unfolding announce_at
  announces_at unit from place s = announces_in unit from place (login_at s.node place) s

  announces_from : (left place unit from : ℕ) (s : Scene) → announce_from left place unit from (also before s) ≡ also before (announce_from left place unit from s)
  unfolding announce_from
  announces_from zero place unit from s = refl
  announces_from (suc left) place unit from s = ap (announce_from left (place + 1) unit from) (announces_at unit from place s) ∙ announces_from left (place + 1) unit from (announce_at unit from place s)

  announces_by : (b : Bool) (unit place : ℕ) (s : Scene) → announced_by b unit place (also before s) ≡ also before (announced_by b unit place s)
  announces_by false unit place s = refl
  announces_by true unit place s = announces_from 8 0 unit place s

  pub follows_all : (b : Bool) (place : ℕ) (login : Login) (step : AgentStep) (s : Scene) → follow_all b place login step (also before s) ≡ also before (follow_all b place login step s)
  unfolding follow_all
  follows_all b place login step s =
      let t = scene (changed_by b login.unit place s.node) s.outbox in
      ap (announced_by b login.unit place) (follows place login step t) ∙ announces_by b login.unit place (follow place login step t)

  -- ---- cuts and resets
  cut_told : (b : Bool) (place : ℕ) (cause : CutCause) (o : OutboxState) → told_cut b place cause (box before o) ≡ box before (told_cut b place cause o)
  cut_told true place cause o = refl
  cut_told false place cause o = refl

  pub cuts_it : (cause : CutCause) (place : ℕ) (s : Scene) → cut cause place (also before s) ≡ also before (cut cause place s)
  unfolding cut
  cuts_it cause place s = ap (scene (cut_node place s.node)) (cut_told (is_reset (state_in (desk_at s.node place).agent.phase)) place cause s.outbox)

  cuts_one : (cause : CutCause) (unit : Option ℕ) (place : ℕ) (s : Scene) → cut_at cause unit place (also before s) ≡ also before (cut_at cause unit place s)
  unfolding cut_at
  cuts_one cause unit place s = pick (is_cut unit (login_at s.node place)) (cut cause place (also before s)) (also before s) (cut cause place s) s (cuts_it cause place s) refl

  cuts_from : (left place : ℕ) (cause : CutCause) (unit : Option ℕ) (s : Scene) → cut_from left place cause unit (also before s) ≡ also before (cut_from left place cause unit s)
  unfolding cut_from
  cuts_from zero place cause unit s = refl
  cuts_from (suc left) place cause unit s = ap (cut_from left (place + 1) cause unit) (cuts_one cause unit place s) ∙ cuts_from left (place + 1) cause unit (cut_at cause unit place s)

  pub cuts_all : (cause : CutCause) (unit : Option ℕ) (s : Scene) → cut_all cause unit (also before s) ≡ also before (cut_all cause unit s)
  cuts_all cause unit s = cuts_from 8 0 cause unit s

  cuts_placed : (place : Option ℕ) (cause : CutCause) (s : Scene) → cut_placed place cause (also before s) ≡ also before (cut_placed place cause s)
  cuts_placed None cause s = refl
  cuts_placed (Some place) cause s = cuts_it cause place s

  clears : (unit : ℕ) (s : Scene) → clear_unit unit (also before s) ≡ also before (clear_unit unit s)
  unfolding clear_unit
  clears unit s = refl

  clears_from : (left unit : ℕ) (s : Scene) → clear_from left unit (also before s) ≡ also before (clear_from left unit s)
  unfolding clear_from
  clears_from zero unit s = refl
  clears_from (suc left) unit s = ap (clear_from left (unit + 1)) (clears unit s) ∙ clears_from left (unit + 1) (clear_unit unit s)

  clears_one : (unit : ℕ) (s : Scene) → clear_one unit (also before s) ≡ also before (clear_one unit s)
  clears_one unit s = pick (nat_lt unit (length s.node.units)) (clear_unit unit (also before s)) (also before s) (clear_unit unit s) s (clears unit s) refl

  -- ---- the management operation
  left_told : (x : Option ℕ) (o : OutboxState) → tell_left x (box before o) ≡ box before (tell_left x o)
  left_told None o = refl
  left_told (Some login) o = refl

  affects : (effect : Effect) (login : ℕ) (s : Scene) → effect_by effect login (also before s) ≡ also before (effect_by effect login s)
  affects effects.Nothing login s = refl
  affects (effects.Entered place replaced) login s = ap (scene (fresh_desk place s.node)) (left_told replaced s.outbox)
  affects (effects.Back place) login s = refl
  affects (effects.Left place) login s = ap (logged_out place login) (cuts_placed (place_in place) cuts.Logout s)
  affects (effects.Abort place orb) login s = refl
  affects (effects.AbortSet place) login s = cuts_placed (place_in place) cuts.AbortSet s
  affects (effects.UnitReset unit) login s = ap (clear_one unit) (cuts_all cuts.UnitReset (Some unit) s) ∙ clears_one unit (cut_all cuts.UnitReset (Some unit) s)
  affects effects.TargetReset login s =
      let t = cut_all cuts.TargetReset None s in ap clear_units (cuts_all cuts.TargetReset None s) ∙ clears_from (length t.node.units) 0 t

  decides : (d : Option Decision) (effect : Effect) (source : ℕ) (s : Scene) → decided_by d effect source (also before s) ≡ also before (decided_by d effect source s)
  unfolding decided_by
  decides None effect source s = refl
  decides (Some d) effect source s = ap (told_of source d) (affects effect d.subject s)

  failed_told : (source : ℕ) (x : Option FailCause) (o : OutboxState) → tell_failed source x (box before o) ≡ box before (tell_failed source x o)
  failed_told source None o = refl
  failed_told source (Some cause) o = refl

  fails : (source : ℕ) (x : Option FailCause) (s : Scene) → failed_by source x (also before s) ≡ also before (failed_by source x s)
  fails source x s = ap (scene s.node) (failed_told source x s.outbox)

  lost_with : (source : ℕ) (s : Scene) (r : ManagerStep × (management.Machine × Table)) → manager_lost source (also before s) r ≡ also before (manager_lost source s r)
  lost_with source s (step, r) = ap (scene (with_manager s.node r)) (failed_told source step.failed s.outbox)

  loses_in : (source : Option ℕ) (s : Scene) → lost_in source (also before s) ≡ also before (lost_in source s)
  loses_in None s = refl
  loses_in (Some source) s = lost_with source s (management.reply_step s.node.manager s.node.logins s.node.keys NoLabel)

  loses_operation : (s : Scene) → lose_operation (also before s) ≡ also before (lose_operation s)
  unfolding lose_operation
  loses_operation s = loses_in (management.source_in s.node.manager.operation) s

  manager_leaves : (node : NodeState) (r : Option LabelParts × (Layer Purpose × OutboxState)) → manager_sent node (Boxed r) ≡ also before (manager_sent node r)
  manager_leaves node (Some label, (layer, outbox)) = refl
  manager_leaves node (None, (layer, outbox)) = loses_operation (scene (record node { layer = layer }) outbox)

  manager_asks : (body : Option Body) (source : ℕ) (s : Scene) → manager_asked body source (also before s) ≡ also before (manager_asked body source s)
  manager_asks None source s = refl
  manager_asks (Some body) source s =
      ap (manager_sent s.node) (requests s.node.layer s.outbox source body purposes.Management)
      ∙ manager_leaves s.node (request_step s.node.layer s.outbox source body purposes.Management)

  pub asks_manager : (source : ℕ) (ask : Ask) (s : Scene) → ask_manager source ask (also before s) ≡ also before (ask_manager source ask s)
  unfolding ask_manager
  asks_manager source ask s = manager_asks (manager_body ask s.node.manager.outgoing) source s

  manages_with : (source : ℕ) (s : Scene) (r : ManagerStep × (management.Machine × Table)) → managed_with source (also before s) r ≡ also before (managed_with source s r)
  manages_with source s (step, r) =
      let t = decided_by step.decided step.effect source (scene (with_manager s.node r) s.outbox) in
      ap (λ (x : Scene). ask_manager source step.ask (failed_by source step.failed x)) (decides step.decided step.effect source (scene (with_manager s.node r) s.outbox))
      ∙ ap (ask_manager source step.ask) (fails source step.failed t)
      ∙ asks_manager source step.ask (failed_by source step.failed t)

  manages_in : (source : Option ℕ) (answer : Answer) (s : Scene) → managed_in source answer (also before s) ≡ also before (managed_in source answer s)
  manages_in None answer s = refl
  manages_in (Some source) answer s = manages_with source s (management.reply_step s.node.manager s.node.logins s.node.keys answer)

  pub manages : (answer : Answer) (s : Scene) → manage answer (also before s) ≡ also before (manage answer s)
  unfolding manage
  manages answer s = manages_in (management.source_in s.node.manager.operation) answer s
