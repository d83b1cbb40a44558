-- What the target does with the steps of its management agent (NCITS 325-1998, management agent).
use Rattle.std.specs.Prelude.{ℕ, ◌==◌, nat_lt, false, if◌then◌else◌, List, length, Option, Some, None}
use Rattle.async_packet.specs.Labels.{LabelParts}
use Rattle.label_table.specs.Bodies.{Body, quadlet_read}
use Rattle.label_table.specs.Layer.{Layer}
use Rattle.orb_layout.specs.declared.ask.Ask.{Ask}
use Rattle.orb_layout.specs.declared.ask.Ask.TheVariants as asks
use Rattle.orb_layout.specs.declared.ask.FailCause.{FailCause}
use Rattle.orb_layout.specs.Replies.{Answer, NoLabel}
use Rattle.mgmt_agent.specs.declared.decision.Decision.{Decision}
use Rattle.mgmt_agent.specs.declared.decision.Effect.{Effect}
use Rattle.mgmt_agent.specs.declared.decision.Effect.TheVariants as effects
use Rattle.mgmt_agent.specs.declared.decision.ManagerStep.{ManagerStep}
use Rattle.mgmt_agent.specs.Machine as management
use Rattle.login_table.specs.Table.{Table}
use Rattle.command_agent.specs.Steps.{abort_step}
use Rattle.sbp_journal.specs.declared.cause.CutCause.{CutCause}
use Rattle.sbp_journal.specs.declared.cause.CutCause.TheVariants as cuts
use Rattle.sbp_journal.specs.declared.side.Side.TheVariants as sides
use Rattle.sbp_journal.specs.Outgoings.{OutboxState}
use Rattle.sbp_target.specs.declared.purpose.Purpose.{Purpose}
use Rattle.sbp_target.specs.declared.purpose.Purpose.TheVariants as purposes
use Rattle.sbp_target.specs.Sending.{request_step, with_side}
use Rattle.sbp_target.specs.Nodes.{NodeState, Scene, scene, desk_at, with_desk, with_agent}
use Rattle.sbp_target.specs.Agents.{agent_body, cut}
use Rattle.sbp_target.specs.Units.{cut_all, clear_unit, clear_from}

-- What the management agent asks for, as a request: a quadlet of an EUI-64 is read by a quadlet read, all else by blocks.
abbrev pub manager_body : Ask → List ℕ → Option Body
manager_body (asks.Read offset len) outgoing =
    if len == 4 then Some (quadlet_read offset) else agent_body (asks.Read offset len) false 0 outgoing
manager_body ask outgoing = agent_body ask false 0 outgoing

-- a place has a number below 8
abbrev pub place_in : ℕ → Option ℕ
place_in number = if nat_lt number 8 then Some number else None

abbrev pub cut_placed : Option ℕ → CutCause → Scene → Scene
cut_placed None cause s = s
cut_placed (Some place) cause s = cut cause place s

abbrev pub cut_place : ℕ → CutCause → Scene → Scene
cut_place number cause s = cut_placed (place_in number) cause s

-- a new login in a place begins with a null pointer, and with its register disabled
abbrev pub fresh_desk : ℕ → NodeState → NodeState
fresh_desk place node = with_desk node place (record (desk_at node place) { pointer = None; is_enabled = false })

-- a login that leaves disables its register
abbrev pub left_desk : ℕ → NodeState → NodeState
left_desk place node = with_desk node place (record (desk_at node place) { is_enabled = false })

abbrev pub tell_left : Option ℕ → OutboxState → OutboxState
tell_left None outbox = outbox
tell_left (Some login) outbox = with_side outbox (sides.Left login)

-- The effects by the table of functions. The subject of a reconnect and of a logout is the login's ID.
abbrev pub logged_out : ℕ → ℕ → Scene → Scene
logged_out place login s = scene (left_desk place s.node) (with_side s.outbox (sides.Left login))

abbrev pub clear_one : ℕ → Scene → Scene
clear_one unit s = if nat_lt unit (length s.node.units) then clear_unit unit s else s

abbrev pub clear_units : Scene → Scene
clear_units s = clear_from (length s.node.units) 0 s

abbrev pub effect_by : Effect → ℕ → Scene → Scene
effect_by effects.Nothing login s = s
effect_by (effects.Entered place replaced) login s = scene (fresh_desk place s.node) (tell_left replaced s.outbox)
effect_by (effects.Back place) login s = scene s.node (with_side s.outbox (sides.Back login))
effect_by (effects.Left place) login s = logged_out place login (cut_place place cuts.Logout s)
effect_by (effects.Abort place orb) login s = scene (with_agent s.node place (abort_step (desk_at s.node place).agent orb)) s.outbox
effect_by (effects.AbortSet place) login s = cut_place place cuts.AbortSet s
effect_by (effects.UnitReset unit) login s = clear_one unit (cut_all cuts.UnitReset (Some unit) s)
effect_by effects.TargetReset login s = clear_units (cut_all cuts.TargetReset None s)

-- the effects stand before the decision
abbrev pub tell_managed : ℕ → Decision → OutboxState → OutboxState
tell_managed source d outbox = with_side outbox (sides.Managed source d.function d.subject d.status d.login)

abbrev pub told_of : ℕ → Decision → Scene → Scene
told_of source d s = scene s.node (tell_managed source d s.outbox)

unfoldable pub decided_by : Option Decision → Effect → ℕ → Scene → Scene
decided_by None effect source s = s
decided_by (Some d) effect source s = told_of source d (effect_by effect d.subject s)

abbrev pub tell_failed : ℕ → Option FailCause → OutboxState → OutboxState
tell_failed source None outbox = outbox
tell_failed source (Some cause) outbox = with_side outbox (sides.ManageFailed source cause)

-- the management agent and the logins after a reply
abbrev pub with_manager : NodeState → management.Machine × Table → NodeState
with_manager node (manager, logins) = record node { manager = manager; logins = logins }

-- A request of the operation finds no label.
abbrev pub manager_lost : ℕ → Scene → ManagerStep × (management.Machine × Table) → Scene
manager_lost source s (step, r) = scene (with_manager s.node r) (tell_failed source step.failed s.outbox)

abbrev pub lost_in : Option ℕ → Scene → Scene
lost_in None s = s
lost_in (Some source) s = manager_lost source s (management.reply_step s.node.manager s.node.logins s.node.keys NoLabel)

unfoldable pub lose_operation : Scene → Scene
lose_operation s = lost_in (management.source_in s.node.manager.operation) s

abbrev pub manager_sent : NodeState → Option LabelParts × (Layer Purpose × OutboxState) → Scene
manager_sent node (Some label, (layer, outbox)) = scene (record node { layer = layer }) outbox
manager_sent node (None, (layer, outbox)) = lose_operation (scene (record node { layer = layer }) outbox)

abbrev pub manager_asked : Option Body → ℕ → Scene → Scene
manager_asked None source s = s
manager_asked (Some body) source s = manager_sent s.node (request_step s.node.layer s.outbox source body purposes.Management)

-- What the operation of a node asks for leaves.
unfoldable pub ask_manager : ℕ → Ask → Scene → Scene
ask_manager source ask s = manager_asked (manager_body ask s.node.manager.outgoing) source s

abbrev pub failed_by : ℕ → Option FailCause → Scene → Scene
failed_by source cause s = scene s.node (tell_failed source cause s.outbox)

abbrev pub managed_with : ℕ → Scene → ManagerStep × (management.Machine × Table) → Scene
managed_with source s (step, r) =
    ask_manager source step.ask (failed_by source step.failed (decided_by step.decided step.effect source (scene (with_manager s.node r) s.outbox)))

abbrev pub managed_in : Option ℕ → Answer → Scene → Scene
managed_in None answer s = s
managed_in (Some source) answer s =
    managed_with source s (management.reply_step s.node.manager s.node.logins s.node.keys answer)

-- What came of a request of the management operation.
unfoldable pub manage : Answer → Scene → Scene
manage answer s = managed_in (management.source_in s.node.manager.operation) answer s
