-- Where cuts, holds, expiries, `back`, `left`, `cleared`, opened lists and unsolicited statuses are told (NCITS 325-1998,
-- agents, access, task management, unsolicited status), by what the target was before the call. A list is cut at a reset that is seen, at an
-- AGENT_RESET, and by the functions of its login or its unit: one cut for each agent in question that is not in RESET, by rising
-- place. A reset holds each live login, behind the cuts; a second ends each held login whose last it was, by rising place. A
-- decision has its effects before it: cuts, then `cleared`, `back` or `left`. A pointer that is taken opens a list. In the
-- delivery in which a disc came into a tray each other live login of the unit whose register is enabled has one note, by rising
-- place, behind all else that is told: it is sent an unsolicited status behind all other packets, or its write found no label,
-- or an earlier one to its node is under way or its label rests. Nothing of this is told anywhere else.
use Rattle.std.specs.Prelude.{◌≡◌, ℕ, zero, suc, ◌+◌, ◌==◌, nat_lt, Bool, true, false, if◌then◌else◌, List, [], ◌∷◌, ◌++◌, length, map, Option, Some, None}
use Rattle.async_packet.specs.Labels.{LabelParts}
use Rattle.async_packet.specs.Packet.{Packet}
use Rattle.label_table.specs.declared.judgement.Asked.{Asked}
use Rattle.label_table.specs.Bodies.{block_write}
use Rattle.label_table.specs.Layer.{Layer, Finding, of_response, of_request, asking_step, judging_step}
use Rattle.label_table.specs.History as wire
use Rattle.login_table.specs.declared.login.Login.{Login}
use Rattle.login_table.specs.Table.{Table, is_live, expired_ids}
use Rattle.media_bay.specs.Unsolicited.{block}
use Rattle.orb_layout.specs.declared.pointer.OrbPointer.{OrbPointer}
use Rattle.orb_layout.specs.declared.pointer.OrbPointer.TheVariants as pointers
use Rattle.orb_layout.specs.Replies.{Answer}
use Rattle.rbc_disk.specs.Disk.{Disk, disk_at}
use Rattle.rbc_disk.specs.Runs.{Told}
use Rattle.command_agent.specs.declared.step.AgentState.{AgentState}
use Rattle.command_agent.specs.declared.step.AgentState.TheVariants as states
use Rattle.command_agent.specs.Machine.{aligned, state_in}
use Rattle.mgmt_agent.specs.declared.decision.Decision.{Decision}
use Rattle.mgmt_agent.specs.declared.decision.Effect.{Effect}
use Rattle.mgmt_agent.specs.declared.decision.Effect.TheVariants as effects
use Rattle.mgmt_agent.specs.declared.decision.ManagerStep.{ManagerStep}
use Rattle.mgmt_agent.specs.Machine as management
use Rattle.sbp_journal.specs.declared.cause.CutCause.{CutCause}
use Rattle.sbp_journal.specs.declared.cause.CutCause.TheVariants as cuts
use Rattle.sbp_journal.specs.declared.side.Side.{Side}
use Rattle.sbp_journal.specs.declared.side.Side.TheVariants as sides
use Rattle.sbp_journal.specs.declared.outbox.Outgoing.{Outgoing}
use Rattle.sbp_journal.specs.Outgoings.{OutboxState, empty_outbox}
use Rattle.target_base.specs.declared.address.Access.TheVariants as accesses
use Rattle.target_base.specs.declared.address.Demand.{Demand}
use Rattle.target_base.specs.declared.address.Demand.TheVariants as demands
use Rattle.sbp_target.specs.declared.desk.Desk.{Desk}
use Rattle.sbp_target.specs.declared.purpose.Purpose.{Purpose}
use Rattle.sbp_target.specs.declared.purpose.Purpose.TheVariants as purposes
use Rattle.target_base.specs.Addresses.{demand_of}
use Rattle.sbp_target.specs.Nodes.{NodeState, scene, desk_at, login_at}
use Rattle.sbp_target.specs.Management.{with_manager}
use Rattle.sbp_target.specs.Replies.{whole, came, served_login}
use Rattle.sbp_target.specs.Serving.{is_barred}
use Rattle.sbp_target.specs.Units.{hears, is_pending}
use Rattle.sbp_target.specs.Receiving.{answer_in, received}
use Rattle.sbp_target.specs.Calls.{receives, lets_expire, sees, ticks, sets_key, alone}
use Rattle.sbp_target.specs.Histories.Layers.{InOrder, first_of, layer_after, packets_of, request}

-- what the law is of, and what it is not of
abbrev pub is_change : Side → Bool
is_change (sides.Opened place orb) = true
is_change (sides.Cut place cause) = true
is_change (sides.Held login) = true
is_change (sides.Expired login) = true
is_change (sides.Back login) = true
is_change (sides.Left login) = true
is_change (sides.Cleared unit) = true
is_change (sides.Unsolicited place) = true
is_change (sides.Unsent place) = true
is_change _ = false

abbrev pub ArePlain : List Side → Type 0
ArePlain [] = Unit {0}
ArePlain (side ∷ told) = (is_change side ≡ false) × ArePlain told

-- these changes, and nothing of the kind behind or before them
pub record AreFirst (changes told : List Side) : Type 0 where
  pub more : List Side
  pub plain : ArePlain more
  pub told_is : told ≡ changes ++ more

pub record AreLast (changes told : List Side) : Type 0 where
  pub before : List Side
  pub plain : ArePlain before
  pub told_is : told ≡ before ++ changes

-- what is told of so many numbers from one on, by rising number; of the eight places
abbrev pub told_from : (ℕ → List Side) → ℕ → ℕ → List Side
told_from tells zero number = []
told_from tells (suc left) number = tells number ++ told_from tells left (number + 1)

abbrev pub by_place : (ℕ → List Side) → List Side
by_place tells = told_from tells 8 0

-- the cut of the list of a place: none in RESET
abbrev pub cut_in : AgentState → CutCause → ℕ → List Side
cut_in states.Reset cause place = []
cut_in _ cause place = sides.Cut place cause ∷ []

abbrev pub cut_of : CutCause → NodeState → ℕ → List Side
cut_of cause node place = cut_in (state_in (desk_at node place).agent.phase) cause place

-- only of the logins of a unit, live and held
abbrev pub of_unit : ℕ → Option Login → List Side → List Side
of_unit unit None told = []
of_unit unit (Some login) told = if login.unit == unit then told else []

abbrev pub cut_for : CutCause → ℕ → NodeState → ℕ → List Side
cut_for cause unit node place = of_unit unit (login_at node place) (cut_of cause node place)

-- a live login is held
abbrev pub held_login : Option Login → List Side
held_login None = []
held_login (Some login) = if is_live login then sides.Held login.login ∷ [] else []

abbrev pub held_of : NodeState → ℕ → List Side
held_of node place = held_login (login_at node place)

-- a sight of a later generation
abbrev pub reset_changes : NodeState → List Side
reset_changes node = by_place (cut_of cuts.Reset node) ++ by_place (held_of node)

-- the effects of a decision on a subject, where that is a login its ID
abbrev pub left_for : Option ℕ → List Side
left_for None = []
left_for (Some login) = sides.Left login ∷ []

abbrev pub of_place : ℕ → List Side → List Side
of_place place told = if nat_lt place 8 then told else []

abbrev pub cleared_of : ℕ → List Side
cleared_of unit = sides.Cleared unit ∷ []

abbrev pub effect_changes : Effect → ℕ → NodeState → List Side
effect_changes effects.Nothing subject node = []
effect_changes (effects.Entered place replaced) subject node = left_for replaced
effect_changes (effects.Back place) subject node = sides.Back subject ∷ []
effect_changes (effects.Left place) subject node = of_place place (cut_of cuts.Logout node place) ++ sides.Left subject ∷ []
effect_changes (effects.Abort place orb) subject node = []
effect_changes (effects.AbortSet place) subject node = of_place place (cut_of cuts.AbortSet node place)
effect_changes (effects.UnitReset unit) subject node =
    by_place (cut_for cuts.UnitReset unit node) ++ (if nat_lt unit (length node.units) then cleared_of unit else [])
effect_changes effects.TargetReset subject node = by_place (cut_of cuts.TargetReset node) ++ told_from cleared_of (length node.units) 0

abbrev pub decision_changes : Option Decision → Effect → NodeState → List Side
decision_changes None effect node = []
decision_changes (Some decision) effect node = effect_changes effect decision.subject node

-- the effects stand first; the decision, and a failure of the operation, behind them
abbrev pub step_tells : ManagerStep × (management.Machine × Table) → NodeState → List Side → Type 0
step_tells (step, (manager, logins)) node told = AreFirst (decision_changes step.decided step.effect (with_manager node (manager, logins))) told

abbrev pub operation_tells : Option ℕ → Answer → NodeState → List Side → Type 0
operation_tells None answer node told = told ≡ []
operation_tells (Some source) answer node told = step_tells (management.reply_step node.manager node.logins node.keys answer) node told

-- a pointer is taken in RESET and SUSPENDED, where it is not null; the low bits of the address count as zero
abbrev pub opened_at : ℕ → OrbPointer → List Side
opened_at place pointers.Null = []
opened_at place (pointers.At orb) = sides.Opened place (aligned orb) ∷ []

abbrev pub opened_in : AgentState → ℕ → OrbPointer → List Side
opened_in states.Reset place pointer = opened_at place pointer
opened_in states.Suspended place pointer = opened_at place pointer
opened_in _ place pointer = []

abbrev pub demand_changes : Demand → NodeState → List Side
demand_changes (demands.Agent place accesses.Reset) node = cut_of cuts.AgentReset node place
demand_changes (demands.Agent place (accesses.Point pointer)) node = opened_in (state_in (desk_at node place).agent.phase) place pointer
demand_changes demand node = []

abbrev pub request_changes : Bool → Packet → NodeState → List Side
request_changes true p node = []
request_changes false p node = demand_changes (demand_of (length node.rom) p) node

-- ---- unsolicited statuses: what is told of them, and their packets
abbrev pub Announced : Type 0
Announced = List Side × List Outgoing

abbrev pub unsent_then : ℕ → Announced → Announced
unsent_then place rest = (sides.Unsent place ∷ rest.0, rest.1)

abbrev pub sent_then : ℕ → ℕ → Asked → Announced → Announced
sent_then place peer asked rest = (sides.Unsolicited place ∷ rest.0, request peer asked ∷ rest.1)

-- the write to the login's FIFO leaves where it finds a label; its node has one under way from then on
abbrev pub announced_as : ℕ → ℕ → List ℕ → (Layer Purpose → List ℕ → Announced) → Option Asked × Layer Purpose → Announced
announced_as place peer pending more (Some asked, layer) = sent_then place peer asked (more layer (pending ++ peer ∷ []))
announced_as place peer pending more (None, layer) = unsent_then place (more layer pending)

-- one that is under way to the node, or whose label rests, keeps another from being sent
abbrev pub announced_to : ℕ → Login → Layer Purpose → List ℕ → (Layer Purpose → List ℕ → Announced) → Announced
announced_to place login layer pending more =
    if is_pending login.node pending
    then unsent_then place (more layer pending)
    else announced_as place login.node pending more (asking_step layer login.node (block_write login.fifo block) purposes.Unsolicited)

-- another live login of the unit whose register is enabled hears of the disc
abbrev pub announced_at : ℕ → ℕ → ℕ → Desk → Option Login → Layer Purpose → List ℕ → (Layer Purpose → List ℕ → Announced) → Announced
announced_at unit from place desk None layer pending more = more layer pending
announced_at unit from place desk (Some login) layer pending more =
    if hears unit from place desk login then announced_to place login layer pending more else more layer pending

-- so many places from one on, by rising place
abbrev pub announced_from : ℕ → ℕ → ℕ → ℕ → NodeState → Layer Purpose → List ℕ → Announced
announced_from zero place unit from node layer pending = ([], [])
announced_from (suc left) place unit from node layer pending =
    announced_at unit from place (desk_at node place) (login_at node place) layer pending (announced_from left (place + 1) unit from node)

-- only where a disc came into the tray of the unit, in this delivery to the agent of a place
abbrev pub announced_if : Bool → ℕ → ℕ → NodeState → Layer Purpose → Announced
announced_if false unit from node layer = ([], [])
announced_if true unit from node layer = announced_from 8 0 unit from node layer node.pending

-- All else is told before, and sent before; the labels are those behind the delivery's other steps.
pub record Announces (disc_came : Bool) (unit from : ℕ) (node : NodeState) (first : List (wire.Call Purpose)) (outbox : OutboxState) : Type 0 where
  pub steps : List (wire.Call Purpose)
  pub order : InOrder steps
  pub told : AreLast (announced_if disc_came unit from node (layer_after node.layer (steps ++ first))).0 outbox.sides
  pub packets_are : outbox.packets ≡ packets_of node.layer (steps ++ first) ++ (announced_if disc_came unit from node (layer_after node.layer (steps ++ first))).1

abbrev pub agent_tells : Option Login → ℕ → NodeState → List (wire.Call Purpose) → List Disk → List Disk → OutboxState → Type 0
agent_tells None place node first disks left outbox = outbox.sides ≡ []
agent_tells (Some login) place node first disks left outbox =
    Announces (came (disk_at disks login.unit) (disk_at left login.unit)) login.unit place node first outbox

abbrev pub reply_tells : Option Purpose → Answer → NodeState → List (wire.Call Purpose) → List Disk → List Disk → OutboxState → Type 0
reply_tells (Some (purposes.Agent place)) answer node first disks left outbox = agent_tells (served_login node place) place node first disks left outbox
reply_tells (Some purposes.Management) answer node first disks left outbox =
    operation_tells (management.source_in node.manager.operation) answer node outbox.sides
reply_tells (Some purposes.Unsolicited) answer node first disks left outbox = outbox.sides ≡ []
reply_tells None answer node first disks left outbox = outbox.sides ≡ []

abbrev pub delivery_tells : Finding Purpose → NodeState → List (wire.Call Purpose) → List Disk → List Disk → OutboxState → Type 0
delivery_tells (of_response p label purpose) node first disks left outbox = reply_tells purpose (answer_in p) node first disks left outbox
delivery_tells (of_request p) node first disks left outbox = AreFirst (request_changes (is_barred node p) p node) outbox.sides
delivery_tells _ node first disks left outbox = outbox.sides ≡ []

-- of each call of any target, by what it is before
pub record SideLaw : Type 0 where
  pub deliveries : (told : Option Told) (disks : List Disk) (generation : ℕ) (bytes : List ℕ) (node : NodeState) → delivery_tells (judging_step node.layer generation bytes).0 node (first_of (receives told disks generation bytes)) disks (received told generation bytes (whole (scene node empty_outbox) disks)).1.disks (received told generation bytes (whole (scene node empty_outbox) disks)).1.outbox
  pub expiries : (peer : ℕ) (label : LabelParts) (node : NodeState) → ArePlain (alone (lets_expire peer label) node).outbox.sides
  pub sights : (generation id : ℕ) (node : NodeState) → (alone (sees generation id) node).outbox.sides ≡ (if nat_lt node.layer.generation generation then reset_changes node else [])
  pub seconds : (node : NodeState) → (alone ticks node).outbox.sides ≡ map (λ login. sides.Expired login) (expired_ids node.logins.places)
  pub keys : (unit : ℕ) (key : List ℕ) (node : NodeState) → (alone (sets_key unit key) node).outbox.sides ≡ []
