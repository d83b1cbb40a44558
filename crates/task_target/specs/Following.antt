-- What the target does with the steps of its agent: what they tell, what they ask for, and what becomes of what finds no label
-- (NCITS 325-1998, command block agents).
use Rattle.std.specs.Prelude.{ℕ, ◌==◌, nat_le, nat_lt, is_some, Bool, true, false, if◌then◌else◌, List, [], ◌∷◌, length, Option, Some, None}
use Rattle.async_packet.specs.Fields.{largest}
use Rattle.async_packet.specs.Labels.{LabelParts}
use Rattle.label_table.specs.Bodies.{Body, block_read, block_write}
use Rattle.label_table.specs.Layer.{Layer, disowning_step}
use Rattle.login_table.specs.declared.login.Login.{Login}
use Rattle.orb_layout.specs.declared.ask.Ask.{Ask}
use Rattle.orb_layout.specs.declared.ask.Ask.TheVariants as asks
use Rattle.orb_layout.specs.declared.ask.FailCause.{FailCause}
use Rattle.orb_layout.specs.Replies.{Answer, NoLabel, Expired}
use Rattle.rbc_disk.specs.Disk.{no_disk}
use Rattle.rbc_disk.specs.Units.{plain_disk, new_unit}
use Rattle.command_agent.specs.Steps.{is_reset}
use Rattle.sbp_journal.specs.declared.cause.CutCause.TheVariants as cuts
use Rattle.sbp_journal.specs.declared.side.Side.TheVariants as sides
use Rattle.sbp_journal.specs.Outgoings.{OutboxState}
use Rattle.unordered_agent.specs.declared.step.TaskStep.{TaskStep}
use Rattle.unordered_agent.specs.Machine.{TaskMachine, state_in, is_busy, lowest_free, task_at}
use Rattle.unordered_agent.specs.Steps.{reply_step, reset_all_step}
use Rattle.task_target.specs.declared.purpose.TaskPurpose.{TaskPurpose}
use Rattle.task_target.specs.declared.purpose.Sent.{Sent}
use Rattle.task_target.specs.Sending.{request_step, sent_to, with_side}
use Rattle.task_target.specs.Nodes.{TaskNode, Scene, scene, with_sent, no_sents}
use Rattle.task_target.specs.Telling.{tell_step}

-- the place of the ORB that a reply to the transaction of a place is about: that of the task, or of the fetcher's the lowest one that is free
abbrev pub about : TaskMachine → ℕ → Option ℕ
about m place = if place == 8 then lowest_free m.tasks else (if nat_lt place 8 then Some place else None)

-- the bytes of the write that a place asks for; the fetcher writes nothing
abbrev pub outgoing_of : TaskMachine → ℕ → List ℕ
outgoing_of m place = if nat_lt place 8 then (task_at m place).outgoing else []

-- What a place asks for, as a request: a status block goes to the login's FIFO. None asks for more than a packet carries.
abbrev pub body_of_ask : Ask → Bool → ℕ → List ℕ → Option Body
body_of_ask (asks.Read offset len) is_status fifo outgoing = if nat_le len largest then Some (block_read offset len) else None
body_of_ask (asks.Write offset len) is_status fifo outgoing =
    if nat_le (length outgoing) largest then Some (block_write (if is_status then fifo else offset) outgoing) else None
body_of_ask asks.Nothing is_status fifo outgoing = None

-- transactions belong to nobody from now on
abbrev pub disowned : Option Sent → Layer TaskPurpose → Layer TaskPurpose
disowned None layer = layer
disowned (Some sent) layer = disowning_step layer sent.peer sent.label

unfoldable pub all_disowned : List (Option Sent) → Layer TaskPurpose → Layer TaskPurpose
all_disowned [] layer = layer
all_disowned (sent ∷ sents) layer = all_disowned sents (disowned sent layer)

abbrev pub without_sents : TaskNode → TaskNode
without_sents node = record node { layer = all_disowned node.sents node.layer; sents = no_sents }

-- A dead agent has no transaction but the status write that it sends then.
abbrev pub dropped_by : Option FailCause → TaskNode → TaskNode
dropped_by None node = node
dropped_by (Some cause) node = without_sents node

-- A step that is about the ORB in this place is told.
abbrev pub noted : Option ℕ → TaskStep → Scene → Scene
noted place step s = scene (dropped_by step.dead s.node) (tell_step place s.node.agent step s.outbox)

-- The request of a place leaves; false where it finds no label.
abbrev pub place_sent : ℕ → ℕ → TaskNode → Option LabelParts × (Layer TaskPurpose × OutboxState) → Bool × Scene
place_sent place peer node (Some label, (layer, outbox)) =
    (true, scene (with_sent (record node { layer = layer }) place (Some (sent_to peer label))) outbox)
place_sent place peer node (None, (layer, outbox)) = (false, scene (record node { layer = layer }) outbox)

abbrev pub asked_by : Option Body → Login → ℕ → Scene → Bool × Scene
asked_by None login place s = (true, s)
asked_by (Some body) login place s = place_sent place login.node s.node (request_step s.node.layer s.outbox login.node body place)

unfoldable pub ask_place : Login → Bool → ℕ → Ask → Scene → Bool × Scene
ask_place login is_status place ask s = asked_by (body_of_ask ask is_status login.fifo (outgoing_of s.node.agent place)) login place s

-- What places ask for leaves in their order, up to one that finds no label; that place.
unfoldable pub asks_sent : Login → Bool → List (ℕ × Ask) → Scene → Option ℕ × Scene
asks_sent login is_status [] s = (None, s)
asks_sent login is_status ((place, ask) ∷ more) s =
    let one = ask_place login is_status place ask s in
    if one.0 then asks_sent login is_status more one.1 else (Some place, one.1)

-- A step that is about the ORB in this place is told, and what it asks for leaves; the place that finds no label.
unfoldable pub stepped : Login → Option ℕ → TaskStep → Scene → Option ℕ × Scene
stepped login place step s = asks_sent login (is_some step.ended) step.asks (noted place step s)

-- it had no answer, or was not sent
abbrev pub Fails : Answer → Type 0
Fails Expired = Unit {0}
Fails NoLabel = Unit {0}
Fails _ = ⊥

-- A transaction of a place failed: no command runs, whatever the unit and its medium hold.
abbrev pub failed_step : TaskMachine → ℕ → Answer → TaskStep × TaskMachine
failed_step m place answer = reply_step m 0 (plain_disk new_unit no_disk) None place answer

abbrev pub with_agent : TaskNode → TaskMachine → TaskNode
with_agent node agent = record node { agent = agent }

abbrev pub lost_at : Login → ℕ → Scene → Option ℕ × Scene
lost_at login place s =
    let failed = failed_step s.node.agent place NoLabel in
    stepped login (about s.node.agent place) failed.0 (scene (with_agent s.node failed.1) s.outbox)

-- A transaction that finds no label is a reply to its place, and what this asks for leaves; the place that then finds none.
unfoldable pub lose : Login → Option ℕ → Scene → Option ℕ × Scene
lose login None s = (None, s)
lose login (Some place) s = if is_busy place s.node.agent then lost_at login place s else (None, s)

-- What follows a request that found no label, where one did: its ORB's status write leaves in its place, or is lost too.
abbrev pub settled : Login → Option ℕ × Scene → Scene
settled login first = let second = lose login first.0 first.1 in (lose login second.0 second.1).1

-- What follows a step that is about the ORB in this place.
unfoldable pub follow : Login → Option ℕ → TaskStep → Scene → Scene
follow login place step s = settled login (stepped login place step s)

-- What the fetcher asks for by a write of the agent's registers leaves; its place where it finds no label.
abbrev pub fetch_sent : Bool × Scene → Option ℕ × Scene
fetch_sent (true, s) = (None, s)
fetch_sent (false, s) = (Some 8, s)

unfoldable pub fetch : Login → Ask → Scene → Scene
fetch login ask s = settled login (fetch_sent (ask_place login false 8 ask s))

-- AGENT_RESET: the agent is in RESET, and its transactions belong to nobody.
abbrev pub told_cut : Bool → OutboxState → OutboxState
told_cut true outbox = outbox
told_cut false outbox = with_side outbox (sides.Cut 0 cuts.AgentReset)

abbrev pub cut_node : TaskNode → TaskNode
cut_node node = with_agent (without_sents node) (reset_all_step node.agent)

unfoldable pub cut : Scene → Scene
cut s = scene (cut_node s.node) (told_cut (is_reset (state_in s.node.agent.fetcher.phase)) s.outbox)
