-- The management operation and a request that is served leave agents sound.
use Rattle.std.proofs.Common.{ℕ, Bool, true, false, cond, List, [], length, Option, Some, None, Result, Ok, Err}
use Rattle.async_packet.specs.Labels.{LabelParts}
use Rattle.async_packet.specs.Packet.{Packet, header_in}
use Rattle.label_table.specs.Bodies.{Body}
use Rattle.label_table.specs.Layer.{Layer}
use Rattle.login_table.specs.declared.login.Login.{Login}
use Rattle.login_table.specs.Table.{Table}
use Rattle.mgmt_agent.specs.declared.decision.ManagerStep.{ManagerStep}
use Rattle.mgmt_agent.specs.declared.operation.Busy.{Busy}
use Rattle.mgmt_agent.specs.Machine as management
use Rattle.orb_layout.specs.declared.ask.Ask.{Ask}
use Rattle.orb_layout.specs.Replies.{Answer, NoLabel}
use Rattle.command_agent.specs.declared.step.PointRefusal.{PointRefusal}
use Rattle.command_agent.specs.Machine as machines
use Rattle.command_agent.specs.Machine.{Machine}
use Rattle.command_agent.specs.Steps.{asks, doorbell_step, point_step}
use Rattle.command_agent.proofs.Sound.{calls_keep_sound}
use Rattle.sbp_journal.specs.declared.cause.CutCause.TheVariants as cuts
use Rattle.sbp_journal.specs.declared.cause.Judged.{Judged}
use Rattle.sbp_journal.specs.declared.side.Side.TheVariants as sides
use Rattle.sbp_journal.specs.Outgoings.{OutboxState}
use Rattle.target_base.specs.declared.address.Access.{Access}
use Rattle.target_base.specs.declared.address.Access.TheVariants as accesses
use Rattle.target_base.specs.declared.address.Demand.{Demand}
use Rattle.target_base.specs.declared.address.Demand.TheVariants as demands
use Rattle.target_base.specs.Addresses.{complete, conflict_error, demand_of}
use Rattle.sbp_target.specs.declared.purpose.Purpose.{Purpose}
use Rattle.sbp_target.specs.declared.purpose.Purpose.TheVariants as purposes
use Rattle.sbp_target.specs.Agents.{cut}
use Rattle.sbp_target.specs.Desks.{pointed_desk}
use Rattle.sbp_target.specs.Management.{ask_manager, decided_by, failed_by, lose_operation, lost_in, manage, managed_in, managed_with, manager_asked, manager_body, manager_lost, manager_sent, with_manager}
use Rattle.sbp_target.specs.Nodes.{Scene, scene, desk_at, login_at, with_agent, with_desk}
use Rattle.sbp_target.specs.Sending.{answer_step, request_step, with_side}
use Rattle.sbp_target.specs.Serving.{accessed_by, answered, asked_in, enabled, is_barred, point, pointed_by, rcode_of, request_step as served_step, ring, rung_by, serve, served_as, start, started_by}
use Rattle.sbp_target.specs.Telling.{orb_of}
use Rattle.sbp_target.proofs.SoundAgents.Steps.{At, seats, follows, cuts_one, decides}

-- ---- the management agent
loses_with : (source : ℕ) (s : Scene) (r : ManagerStep × (management.Machine × Table)) → At s → At (manager_lost source s r)
loses_with source s (step, (m, table)) h = h

loses_in : (source : Option ℕ) (s : Scene) → At s → At (lost_in source s)
loses_in None s h = h
loses_in (Some source) s h = loses_with source s (management.reply_step s.node.manager s.node.logins s.node.keys NoLabel) h

manager_leaves : (s : Scene) (r : Option LabelParts × (Layer Purpose × OutboxState)) → At s → At (manager_sent s.node r)
unfolding lose_operation
manager_leaves s (Some label, (layer, outbox)) h = h
manager_leaves s (None, (layer, outbox)) h = loses_in (management.source_in s.node.manager.operation) (scene (record s.node { layer = layer }) outbox) h

manager_asks : (body : Option Body) (source : ℕ) (s : Scene) → At s → At (manager_asked body source s)
manager_asks None source s h = h
manager_asks (Some body) source s h = manager_leaves s (request_step s.node.layer s.outbox source body purposes.Management) h

asks_manager : (source : ℕ) (ask : Ask) (s : Scene) → At s → At (ask_manager source ask s)
unfolding ask_manager
asks_manager source ask s h = manager_asks (manager_body ask s.node.manager.outgoing) source s h

manages_with : (source : ℕ) (s : Scene) (r : ManagerStep × (management.Machine × Table)) → At s → At (managed_with source s r)
manages_with source s (step, (m, table)) h =
    let t = scene (with_manager s.node (m, table)) s.outbox in
    let u = decided_by step.decided step.effect source t in
    asks_manager source step.ask (failed_by source step.failed u) (decides step.decided step.effect source t h)

manages_in : (source : Option ℕ) (answer : Answer) (s : Scene) → At s → At (managed_in source answer s)
manages_in None answer s h = h
manages_in (Some source) answer s h = manages_with source s (management.reply_step s.node.manager s.node.logins s.node.keys answer) h

pub manages : (answer : Answer) (s : Scene) → At s → At (manage answer s)
unfolding manage
manages answer s h = manages_in (management.source_in s.node.manager.operation) answer s h

-- ---- a request
module _ (p : Packet) (bytes : List ℕ) where
  pub answers : (rcode : ℕ) (given : List ℕ) (s : Scene) → At s → At (answered p bytes rcode given s)
  unfolding answer_step
  answers rcode given s h = h

  asks_in : (place : ℕ) (ask : Ask) (login : Option Login) (s : Scene) → At s → At (asked_in place ask login s)
  asks_in place ask None s h = h
  asks_in place ask (Some login) s h = follows place login (asks ask) s h

  points_by : (place : ℕ) (r : Result Ask PointRefusal × Machine) (s : Scene) → machines.IsSound r.1 → At s → At (pointed_by place p bytes (pointed_desk (desk_at s.node place) r) s)
  points_by place (Ok ask, m) s sound h =
      let d = (pointed_desk (desk_at s.node place) (Ok ask, m)).1 in
      let t = scene (with_desk s.node place d) (with_side s.outbox (sides.Opened place (orb_of d.agent))) in
      let u = answered p bytes complete [] t in
      asks_in place ask (login_at u.node place) u (answers complete [] t (seats s.node place d sound h))
  points_by place (Err refusal, m) s sound h =
      answers (rcode_of refusal) [] (scene (with_desk s.node place (record (desk_at s.node place) { agent = m })) s.outbox) (seats s.node place (record (desk_at s.node place) { agent = m }) sound h)

  rings_by : (place : ℕ) (r : Ask × Machine) (s : Scene) → machines.IsSound r.1 → At s → At (rung_by place p bytes r s)
  rings_by place (ask, m) s sound h =
      let t = scene (with_agent s.node place m) s.outbox in
      let u = answered p bytes complete [] t in
      asks_in place ask (login_at u.node place) u (answers complete [] t (seats s.node place (record (desk_at s.node place) { agent = m }) sound h))

  accesses_sound : (access : Access) (place : ℕ) (s : Scene) → At s → At (accessed_by access place p bytes s)
  unfolding point ring answer_step
  accesses_sound accesses.State place s h = h
  accesses_sound accesses.Reset place s h = answers complete [] (cut cuts.AgentReset place s) (cuts_one cuts.AgentReset place s h)
  accesses_sound (accesses.Point pointer) place s h =
      let m = (desk_at s.node place).agent in points_by place (point_step m pointer) s ((calls_keep_sound m (h place)).pointers pointer) h
  accesses_sound accesses.Pointer place s h = h
  accesses_sound accesses.Ring place s h = let m = (desk_at s.node place).agent in rings_by place (doorbell_step m) s (calls_keep_sound m (h place)).doorbells h
  accesses_sound accesses.Enable place s h = answers complete [] (enabled place s) (seats s.node place (record (desk_at s.node place) { is_enabled = true }) (h place) h)

  starts_by : (source : ℕ) (r : Result Ask Busy × management.Machine) (s : Scene) → At s → At (started_by source p bytes r s)
  starts_by source (Ok ask, m) s h = let t = scene (record s.node { manager = m }) s.outbox in asks_manager source ask (answered p bytes complete [] t) (answers complete [] t h)
  starts_by source (Err busy, m) s h = answers conflict_error [] (scene (record s.node { manager = m }) s.outbox) h

  serves_as : (demand : Demand) (s : Scene) → At s → At (served_as demand p bytes s)
  unfolding start answer_step
  serves_as (demands.Refused rcode) s h = answers rcode [] s h
  serves_as (demands.Rom at len) s h = h
  serves_as (demands.Manage orb) s h = starts_by (header_in p).source (management.start_step s.node.manager (header_in p).source orb) s h
  serves_as (demands.Agent place access) s h = accesses_sound access place s h

  judged_if : (b : Bool) (x y : Judged × Scene) → At x.1 → At y.1 → At (cond b x y).1
  judged_if true x y h k = h
  judged_if false x y h k = k

  pub requests_sound : (s : Scene) → At s → At (served_step p bytes s).1
  unfolding served_step serve
  requests_sound s h = judged_if (is_barred s.node p) _ _ (answers 7 [] s h) (serves_as (demand_of (length s.node.rom) p) s h)
