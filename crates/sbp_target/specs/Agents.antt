-- What the target does with the steps of its agents: what they tell, what they ask for, and what
-- becomes of what finds no label (NCITS 325-1998, command block agents).
use Rattle.std.specs.Prelude.{ℕ, nat_le, is_some, Bool, true, false, if◌then◌else◌, List, length, Option, Some, None}
use Rattle.async_packet.specs.Fields.{largest}
use Rattle.async_packet.specs.Labels.{LabelParts}
use Rattle.label_table.specs.Bodies.{Body, block_read, block_write}
use Rattle.label_table.specs.Layer.{Layer, disowning_step, free_labels}
use Rattle.login_table.specs.declared.login.Login.{Login}
use Rattle.orb_layout.specs.declared.ask.Ask.{Ask}
use Rattle.orb_layout.specs.declared.ask.Ask.TheVariants as asks
use Rattle.orb_layout.specs.declared.ask.FailCause.{FailCause}
use Rattle.orb_layout.specs.declared.ask.FailCause.TheVariants as causes
use Rattle.command_agent.specs.declared.step.AgentStep.{AgentStep}
use Rattle.command_agent.specs.declared.step.Which.{Which}
use Rattle.command_agent.specs.declared.step.Which.TheVariants.{Main, Ahead}
use Rattle.command_agent.specs.Machine.{is_under_way, state_in}
use Rattle.command_agent.specs.Steps.{lost_step, is_reset}
use Rattle.sbp_journal.specs.declared.cause.CutCause.{CutCause}
use Rattle.sbp_journal.specs.declared.side.Side.TheVariants as sides
use Rattle.sbp_journal.specs.Outgoings.{OutboxState}
use Rattle.target_base.specs.Logins.{is_below_reserve}
use Rattle.sbp_target.specs.declared.purpose.Purpose.{Purpose}
use Rattle.sbp_target.specs.declared.purpose.Purpose.TheVariants as purposes
use Rattle.sbp_target.specs.declared.purpose.Sent.{Sent}
use Rattle.sbp_target.specs.Desks.{promoted_desk, reset_desk}
use Rattle.sbp_target.specs.Sending.{request_step, with_side}
use Rattle.sbp_target.specs.Nodes.{NodeState, Scene, scene, desk_at, with_desk, with_agent}
use Rattle.sbp_target.specs.Telling.{tell_step}

-- What an agent asks for, as a request: a status block goes to the login's FIFO. No agent asks for more than a packet carries.
abbrev pub agent_body : Ask → Bool → ℕ → List ℕ → Option Body
agent_body (asks.Read offset len) is_status fifo outgoing = if nat_le len largest then Some (block_read offset len) else None
agent_body (asks.Write offset len) is_status fifo outgoing =
    if nat_le (length outgoing) largest then Some (block_write (if is_status then fifo else offset) outgoing) else None
agent_body asks.Nothing is_status fifo outgoing = None

abbrev pub sent_to : ℕ → LabelParts → Sent
sent_to peer label = record { peer = peer; label = label }

-- a transaction belongs to nobody from now on
abbrev pub disowned : Option Sent → Layer Purpose → Layer Purpose
disowned None layer = layer
disowned (Some sent) layer = disowning_step layer sent.peer sent.label

-- A dead agent has no read ahead.
unfoldable pub without_ahead : ℕ → NodeState → NodeState
without_ahead place node =
    with_desk (record node { layer = disowned (desk_at node place).ahead node.layer }) place (record (desk_at node place) { ahead = None })

abbrev pub dropped_by : Option FailCause → ℕ → NodeState → NodeState
dropped_by None place node = node
dropped_by (Some cause) place node = without_ahead place node

-- the read ahead is the main transaction from now on
abbrev pub promoted : ℕ → NodeState → NodeState
promoted place node = with_desk node place (promoted_desk (desk_at node place))

abbrev pub promoted_by : Bool → ℕ → NodeState → NodeState
promoted_by false place node = node
promoted_by true place node = promoted place node

-- A step of the agent of a place is told.
unfoldable pub noted : ℕ → AgentStep → Scene → Scene
noted place step s =
    scene (promoted_by step.promoted place (dropped_by step.dead place s.node)) (tell_step place (desk_at s.node place).agent step s.outbox)

-- The main request leaves; false where it finds no label.
abbrev pub main_sent : ℕ → ℕ → NodeState → Option LabelParts × (Layer Purpose × OutboxState) → Bool × Scene
main_sent place peer node (Some label, (layer, outbox)) =
    (true, scene (with_desk (record node { layer = layer }) place (record (desk_at node place) { main = Some (sent_to peer label) })) outbox)
main_sent place peer node (None, (layer, outbox)) = (false, scene (record node { layer = layer }) outbox)

abbrev pub main_asked : Option Body → ℕ → Login → Scene → Bool × Scene
main_asked None place login s = (true, s)
main_asked (Some body) place login s =
    main_sent place login.node s.node (request_step s.node.layer s.outbox login.node body (purposes.Agent place))

unfoldable pub ask_main : ℕ → Login → AgentStep → Scene → Bool × Scene
ask_main place login step s =
    main_asked (agent_body step.ask (is_some step.ended) login.fifo (desk_at s.node place).agent.outgoing) place login s

-- A transaction of the agent finds no label. What it asks for then leaves; false where that finds none either.
abbrev pub lost_by : Bool → ℕ → Login → Which → Scene → Bool × Scene
lost_by false place login which s = (true, s)
lost_by true place login which s =
    let l = lost_step (desk_at s.node place).agent which causes.Label in
    ask_main place login l.0 (noted place l.0 (scene (with_agent s.node place l.1) s.outbox))

unfoldable pub lose : ℕ → Login → Which → Scene → Bool × Scene
lose place login which s = lost_by (is_under_way which (desk_at s.node place).agent) place login which s

-- The read ahead leaves where 16 labels are left; false where it finds none.
abbrev pub ahead_sent : ℕ → ℕ → NodeState → Option LabelParts × (Layer Purpose × OutboxState) → Bool × Scene
ahead_sent place peer node (Some label, (layer, outbox)) =
    (true, scene (with_desk (record node { layer = layer }) place (record (desk_at node place) { ahead = Some (sent_to peer label) })) outbox)
ahead_sent place peer node (None, (layer, outbox)) = (false, scene (record node { layer = layer }) outbox)

abbrev pub ahead_asked : Option Body → ℕ → Login → Scene → Bool × Scene
ahead_asked None place login s = (true, s)
ahead_asked (Some body) place login s =
    if is_below_reserve (free_labels s.node.layer login.node)
    then (false, s)
    else ahead_sent place login.node s.node (request_step s.node.layer s.outbox login.node body (purposes.Agent place))

abbrev pub after_ahead : ℕ → Login → Bool × Scene → Scene
after_ahead place login (true, s) = s
after_ahead place login (false, s) = (lose place login Ahead s).1

unfoldable pub send_ahead : ℕ → Login → Ask → Scene → Bool × Scene
send_ahead place login ask s = ahead_asked (agent_body ask false login.fifo (desk_at s.node place).agent.outgoing) place login s

abbrev pub ask_ahead : ℕ → Login → Ask → Scene → Scene
ask_ahead place login ask s = after_ahead place login (send_ahead place login ask s)

-- The main request found no label: the agent is dead, and its status block, if there is one, leaves or is lost too.
abbrev pub after_loss : ℕ → Login → Bool × Scene → Scene
after_loss place login (true, s) = s
after_loss place login (false, s) = (lose place login Main s).1

unfoldable pub lose_main : ℕ → Login → Scene → Scene
lose_main place login s = after_loss place login (lose place login Main s)

abbrev pub after_main : ℕ → Login → AgentStep → Bool × Scene → Scene
after_main place login step (true, s) = ask_ahead place login step.ahead s
after_main place login step (false, s) = lose_main place login s

-- What follows a step of the agent of a place: it is told, and what it asks for leaves.
unfoldable pub follow : ℕ → Login → AgentStep → Scene → Scene
follow place login step s = after_main place login step (ask_main place login step (noted place step s))

-- The agent of a place is put into RESET, and its transactions belong to nobody.
abbrev pub told_cut : Bool → ℕ → CutCause → OutboxState → OutboxState
told_cut true place cause outbox = outbox
told_cut false place cause outbox = with_side outbox (sides.Cut place cause)

abbrev pub cut_node : ℕ → NodeState → NodeState
cut_node place node =
    with_desk (record node { layer = disowned (desk_at node place).ahead (disowned (desk_at node place).main node.layer) }) place (reset_desk (desk_at node place))

unfoldable pub cut : CutCause → ℕ → Scene → Scene
cut cause place s =
    scene (cut_node place s.node) (told_cut (is_reset (state_in (desk_at s.node place).agent.phase)) place cause s.outbox)
