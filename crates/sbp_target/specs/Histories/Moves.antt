-- What a call of a target does, taken apart into steps of its parts. A step is a function of the target's as it stands, so that a desk, its
-- requests and what is told of them change together.
use Rattle.std.specs.Prelude.{◌≡◌, ℕ, ◌<◌, Bool, true, false, List, Option, Some, None, Ok, Err}
use Rattle.async_packet.specs.Labels.{LabelParts}
use Rattle.async_packet.specs.Packet.{Packet, header_in}
use Rattle.label_table.specs.Bodies.{Body, block_write}
use Rattle.label_table.specs.Layer.{Layer, Finding, of_response, expiring_step, judging_step, seeing_step}
use Rattle.login_table.specs.declared.login.Login.{Login}
use Rattle.login_table.specs.Table.{tick_step}
use Rattle.media_bay.specs.Unsolicited.{block}
use Rattle.mgmt_agent.specs.Machine as management
use Rattle.orb_layout.specs.declared.ask.Ask.{Ask}
use Rattle.orb_layout.specs.declared.ask.FailCause.{FailCause}
use Rattle.orb_layout.specs.declared.ask.FailCause.TheVariants as causes
use Rattle.orb_layout.specs.declared.pointer.OrbPointer.{OrbPointer}
use Rattle.orb_layout.specs.declared.status.StatusKind.{StatusKind}
use Rattle.orb_layout.specs.Replies.{Answer, NoLabel}
use Rattle.rbc_disk.specs.declared.command.Outcome.{Outcome}
use Rattle.rbc_disk.specs.Disk.{Disk}
use Rattle.rbc_disk.specs.Runs.{Told}
use Rattle.command_agent.specs.declared.step.AgentStep.{AgentStep}
use Rattle.command_agent.specs.declared.step.PointRefusal.{PointRefusal}
use Rattle.command_agent.specs.declared.step.Which.{Which}
use Rattle.command_agent.specs.Machine.{Machine, is_under_way}
use Rattle.command_agent.specs.Steps.{abort_step, asks, doorbell_step, lost_step}
use Rattle.sbp_journal.specs.declared.cause.CutCause.{CutCause}
use Rattle.sbp_journal.specs.declared.side.Side.{Side}
use Rattle.sbp_journal.specs.declared.side.Side.TheVariants as sides
use Rattle.sbp_target.specs.declared.desk.Desk.{Desk}
use Rattle.sbp_target.specs.declared.purpose.Purpose.{Purpose}
use Rattle.sbp_target.specs.declared.purpose.Purpose.TheVariants as purposes
use Rattle.sbp_target.specs.Agents.{agent_body, ahead_sent, cut, main_sent, noted}
use Rattle.sbp_target.specs.Desks.{expired_desk, point_desk, which_in}
use Rattle.sbp_target.specs.Management.{fresh_desk, logged_out, manager_body, tell_left, with_manager}
use Rattle.sbp_target.specs.Nodes.{Scene, scene, desk_at, login_at, with_agent, with_desk}
use Rattle.sbp_target.specs.Receiving.{after_reset, answer_in, settled, with_layer}
use Rattle.sbp_target.specs.Replies.{Stage, Whole, agent_step, replied, served_login, stage}
use Rattle.sbp_target.specs.Sending.{request_step, with_side}
use Rattle.sbp_target.specs.Serving.{answered, enabled}
use Rattle.sbp_target.specs.Telling.{orb_of}
use Rattle.sbp_target.specs.Units.{clear_unit, hears, unsolicited_by, with_changed}

-- What is known of the steps of agents that are told; and whether requests may leave, lists be cut, a disc be announced, the operation go on,
-- units be altered, logins be altered, a request be answered, and a packet, a time-out or a generation turn the transaction layer.
pub record Kind : Type 1 where
  pub Fits : AgentStep → Type 0
  pub MayAsk : Type 0
  pub MayCut : Type 0
  pub MayAnnounce : Type 0
  pub MayManage : Type 0
  pub MayChange : Type 0
  pub MayDecide : Type 0
  pub MayAnswer : Type 0
  pub MayTurn : Type 0

-- what may be told beside steps of agents, and with them
pub data Plain (k : Kind) : Side → Type 0 where
  was_cut : (place : ℕ) (cause : CutCause) → k.MayCut → Plain k (sides.Cut place cause)
  opened : (place orb : ℕ) → k.MayAnswer → Plain k (sides.Opened place orb)
  announced : (place : ℕ) → k.MayAnnounce → Plain k (sides.Unsolicited place)
  unsent : (place : ℕ) → k.MayAnnounce → Plain k (sides.Unsent place)
  failed : (source : ℕ) (cause : FailCause) → k.MayManage → Plain k (sides.ManageFailed source cause)
  managed : (source function subject status login : ℕ) → k.MayDecide → Plain k (sides.Managed source function subject status login)
  cleared : (unit : ℕ) → k.MayChange → Plain k (sides.Cleared unit)
  back : (login : ℕ) → k.MayDecide → Plain k (sides.Back login)
  departed : (login : ℕ) → k.MayDecide → Plain k (sides.Left login)
  held : (login : ℕ) → k.MayDecide → Plain k (sides.Held login)
  lapsed : (login : ℕ) → k.MayDecide → Plain k (sides.Expired login)

pub data Tells (k : Kind) : Side → Type 0 where
  ran : (place : ℕ) (m : Machine) (step : AgentStep) (outcome : Outcome) → k.Fits step → step.ran ≡ Some outcome → Tells k (sides.Ran place (orb_of m) m.orb.cdb m.payload outcome)
  died : (place : ℕ) (step : AgentStep) (cause : FailCause) → k.Fits step → step.dead ≡ Some cause → Tells k (sides.Dead place cause)
  ended : (place : ℕ) (m : Machine) (step : AgentStep) (status : StatusKind) → k.Fits step → step.ended ≡ Some status → Tells k (sides.Ended place (orb_of m) status)
  plain : (side : Side) → Plain k side → Tells k side

-- told of nothing that changes with it
abbrev pub IsAlone : Side → Type 0
IsAlone (sides.ManageFailed source cause) = Unit {0}
IsAlone (sides.Managed source function subject status login) = Unit {0}
IsAlone (sides.Back login) = Unit {0}
IsAlone (sides.Held login) = Unit {0}
IsAlone (sides.Expired login) = Unit {0}
IsAlone _ = ⊥

-- what a request asks for: an agent, the management agent, and an unsolicited status
pub data Asks (k : Kind) : Body → Purpose → Type 0 where
  by_agent : (place : ℕ) (ask : Ask) (is_status : Bool) (fifo : ℕ) (outgoing : List ℕ) (body : Body) → agent_body ask is_status fifo outgoing ≡ Some body → Asks k body (purposes.Agent place)
  by_manager : (ask : Ask) (outgoing : List ℕ) (body : Body) → k.MayManage → manager_body ask outgoing ≡ Some body → Asks k body purposes.Management
  by_disc : (fifo : ℕ) → Asks k (block_write fifo block) purposes.Unsolicited

-- the node with another layer, and a request that leaves
abbrev pub turned : Layer Purpose → Scene → Scene
turned layer s = scene (record s.node { layer = layer }) s.outbox

abbrev pub sending : ℕ → Body → Purpose → Scene → Scene
sending peer body purpose s =
    let r = request_step s.node.layer s.outbox peer body purpose in scene (record s.node { layer = r.1.0 }) r.1.1

-- an agent loses a transaction that finds no label, or times out, and its step is told
abbrev pub lost_at : ℕ → Which → Scene → Scene
lost_at place which s = let r = lost_step (desk_at s.node place).agent which causes.Label in noted place r.0 (scene (with_agent s.node place r.1) s.outbox)

abbrev pub lapsed_at : ℕ → Which → Scene → Scene
lapsed_at place which s = let r = expired_desk which (desk_at s.node place) in noted place r.0 (scene (with_desk s.node place r.1) s.outbox)

-- what the agent of a place asks for, as its main request and ahead
abbrev pub body_at : ℕ → Login → Ask → Bool → Scene → Option Body
body_at place login ask is_status s = agent_body ask is_status login.fifo (desk_at s.node place).agent.outgoing

abbrev pub sending_main : ℕ → Login → Body → Scene → Bool × Scene
sending_main place login body s = main_sent place login.node s.node (request_step s.node.layer s.outbox login.node body (purposes.Agent place))

abbrev pub sending_ahead : ℕ → Login → Body → Scene → Bool × Scene
sending_ahead place login body s = ahead_sent place login.node s.node (request_step s.node.layer s.outbox login.node body (purposes.Agent place))

-- an unsolicited status leaves
abbrev pub pushing : ℕ → Login → Scene → Scene
pushing place login s = unsolicited_by place login.node s.node (request_step s.node.layer s.outbox login.node (block_write login.fifo block) purposes.Unsolicited)

-- what follows a step of an agent that was told: it asks, and loses what finds no label
pub data Behind (place : ℕ) (login : Login) : Scene → Scene → Type 0 where
  loses : (which : Which) (s : Scene) → is_under_way which (desk_at s.node place).agent ≡ true → Behind place login s (lost_at place which s)
  asks_main : (ask : Ask) (is_status : Bool) (body : Body) (s : Scene) → body_at place login ask is_status s ≡ Some body → Behind place login s (sending_main place login body s).1
  asks_ahead : (ask : Ask) (body : Body) (s : Scene) → body_at place login ask false s ≡ Some body → Behind place login s (sending_ahead place login body s).1

-- what tells a login of a disc that came in the tray of a unit, by a delivery to the agent of a place
pub record Heard (unit from place : ℕ) (login : Login) (s : Scene) : Type 0 where
  pub small : place < 8
  pub is : login_at s.node place ≡ Some login
  pub heard : hears unit from place (desk_at s.node place) login ≡ true

pub data Announced (unit from : ℕ) : Scene → Scene → Type 0 where
  pushes : (place : ℕ) (login : Login) (s : Scene) → Heard unit from place login s → Announced unit from s (pushing place login s)
  withholds : (place : ℕ) (login : Login) (s : Scene) → Heard unit from place login s → Announced unit from s (scene s.node (with_side s.outbox (sides.Unsent place)))

-- steps that are lost fit
abbrev pub Lost : Kind → Type 0
Lost k = (m : Machine) (which : Which) (cause : FailCause) → k.Fits (lost_step m which cause).0

-- One step.
pub data Move (k : Kind) : Scene → Scene → Type 0 where
  -- of the agent of a place
  notes : (place : ℕ) (step : AgentStep) (s : Scene) → k.Fits step → Move k s (noted place step s)
  lapses : (place : ℕ) (which : Which) (s : Scene) → Lost k → Move k s (lapsed_at place which s)
  follows : (place : ℕ) (login : Login) (x y : Scene) → Lost k → k.MayAsk → Behind place login x y → Move k x y
  replies : (told : Option Told) (place unit : ℕ) (which : Which) (answer : Answer) (disks : List Disk) (s : Scene) → k.MayChange → Move k s (scene (replied told place unit which answer (stage s.node disks)).1.node s.outbox)
  cuts : (cause : CutCause) (place : ℕ) (s : Scene) → k.MayCut → Move k s (cut cause place s)
  -- its registers
  opens : (place : ℕ) (pointer : OrbPointer) (ask : Ask) (desk : Desk) (s : Scene) → k.MayAnswer → point_desk (desk_at s.node place) pointer ≡ (Ok ask, desk) → Move k s (scene (with_desk s.node place desk) (with_side s.outbox (sides.Opened place (orb_of desk.agent))))
  refuses : (place : ℕ) (pointer : OrbPointer) (refusal : PointRefusal) (desk : Desk) (s : Scene) → point_desk (desk_at s.node place) pointer ≡ (Err refusal, desk) → Move k s (scene (with_desk s.node place desk) s.outbox)
  rings : (place : ℕ) (s : Scene) → Move k s (scene (with_agent s.node place (doorbell_step (desk_at s.node place).agent).1) s.outbox)
  enables : (place : ℕ) (s : Scene) → Move k s (enabled place s)
  -- of a disc
  comes : (unit place : ℕ) (s : Scene) → k.MayChange → Move k s (scene (with_changed unit place s.node) s.outbox)
  announces : (unit from : ℕ) (x y : Scene) → k.MayAsk → k.MayAnnounce → Announced unit from x y → Move k x y
  settles : (peer : ℕ) (s : Scene) → Move k s (scene (settled peer s.node) s.outbox)
  -- of the management agent
  starts : (source orb : ℕ) (s : Scene) → k.MayManage → Move k s (scene (record s.node { manager = (management.start_step s.node.manager source orb).1 }) s.outbox)
  decides : (answer : Answer) (s : Scene) → k.MayDecide → Move k s (scene (with_manager s.node (management.reply_step s.node.manager s.node.logins s.node.keys answer).1) s.outbox)
  gives_up : (s : Scene) → k.MayManage → Move k s (scene (with_manager s.node (management.reply_step s.node.manager s.node.logins s.node.keys NoLabel).1) s.outbox)
  stops : (s : Scene) → k.MayDecide → Move k s (scene (record s.node { manager = management.clear_step s.node.manager }) s.outbox)
  asks_for : (source : ℕ) (ask : Ask) (body : Body) (s : Scene) → k.MayAsk → k.MayManage → manager_body ask s.node.manager.outgoing ≡ Some body → Move k s (sending source body purposes.Management s)
  enters : (place : ℕ) (replaced : Option ℕ) (s : Scene) → k.MayDecide → Move k s (scene (fresh_desk place s.node) (tell_left replaced s.outbox))
  leaves : (place login : ℕ) (s : Scene) → k.MayDecide → Move k s (logged_out place login s)
  aborts : (place orb : ℕ) (s : Scene) → Move k s (scene (with_agent s.node place (abort_step (desk_at s.node place).agent orb)) s.outbox)
  clears : (unit : ℕ) (s : Scene) → k.MayChange → Move k s (clear_unit unit s)
  -- of the transaction layer
  judges : (generation : ℕ) (bytes : List ℕ) (s : Scene) → k.MayTurn → Move k s (turned (judging_step s.node.layer generation bytes).1 s)
  expires : (peer : ℕ) (label : LabelParts) (s : Scene) → k.MayTurn → Move k s (turned (expiring_step s.node.layer peer label).1 s)
  sees : (generation id : ℕ) (s : Scene) → k.MayTurn → Move k s (turned (seeing_step s.node.layer generation id).1 s)
  answers : (p : Packet) (bytes : List ℕ) (rcode : ℕ) (given : List ℕ) (s : Scene) → k.MayAnswer → Move k s (answered p bytes rcode given s)
  -- of all places
  tells : (side : Side) (s : Scene) → Plain k side → IsAlone side → Move k s (scene s.node (with_side s.outbox side))
  rests : (s : Scene) → k.MayDecide → Move k s (scene (after_reset s.node) s.outbox)
  ages : (s : Scene) → k.MayDecide → Move k s (scene (record s.node { logins = (tick_step s.node.logins).1 }) s.outbox)

-- one after another
pub data Chain (M : Scene → Scene → Type 0) : Scene → Scene → Type 0 where
  stay : (s : Scene) → Chain M s s
  go_on : (x y z : Scene) → Chain M x y → M y z → Chain M x z

abbrev pub Moves : Kind → Scene → Scene → Type 0
Moves k x y = Chain (Move k) x y

-- ---- what holds of the step that a delivery brings
abbrev pub FitsBy : Kind → Option Told → ℕ → Answer → Option Login → Option Which → Stage → Type 0
FitsBy k told place answer (Some login) (Some which) s = k.Fits (agent_step told place login.unit which answer s).0
FitsBy k told place answer None which s = Unit {0}
FitsBy k told place answer (Some login) None s = Unit {0}

abbrev pub FitsAt : Kind → Option Told → Option Purpose → ℕ → LabelParts → Answer → Whole → Type 0
FitsAt k told (Some (purposes.Agent place)) peer label answer w = FitsBy k told place answer (served_login w.node place) (which_in (desk_at w.node place) peer label) (stage w.node w.disks)
FitsAt k told _ peer label answer w = Unit {0}

abbrev pub FitsIn : Kind → Option Told → Finding Purpose → Whole → Type 0
FitsIn k told (of_response p label purpose) w = FitsAt k told purpose (header_in p).source label (answer_in p) w
FitsIn k told _ w = Unit {0}

abbrev pub FitsCall : Kind → Option Told → ℕ → List ℕ → Whole → Type 0
FitsCall k told generation bytes w = let found = judging_step w.node.layer generation bytes in FitsIn k told found.0 (with_layer found.1 w)

-- what an agent may do: the steps that are lost fit; what the end of a transaction may bring; and what each call
pub record MayAct (k : Kind) : Type 0 where
  pub lost : Lost k
  pub asking : k.MayAsk
  pub cutting : k.MayCut

pub record MayEnd (k : Kind) : Type 0 where
  pub act : MayAct k
  pub announcing : k.MayAnnounce
  pub managing : k.MayManage
  pub changing : k.MayChange
  pub deciding : k.MayDecide

pub record MayAll (k : Kind) : Type 0 where
  pub end : MayEnd k
  pub asked : (ask : Ask) → k.Fits (asks ask)
  pub answering : k.MayAnswer
  pub turning : k.MayTurn

-- all may be done by steps that are known so
abbrev pub fitting : (AgentStep → Type 0) → Kind
fitting F = record {
  Fits = F;
  MayAsk = Unit {0};
  MayCut = Unit {0};
  MayAnnounce = Unit {0};
  MayManage = Unit {0};
  MayChange = Unit {0};
  MayDecide = Unit {0};
  MayAnswer = Unit {0};
  MayTurn = Unit {0};
}

-- a request may do this: units and logins stay, and nothing turns the layer
abbrev pub serving : (AgentStep → Type 0) → Kind
serving F = record {
  Fits = F;
  MayAsk = Unit {0};
  MayCut = Unit {0};
  MayAnnounce = Unit {0};
  MayManage = Unit {0};
  MayChange = ⊥;
  MayDecide = ⊥;
  MayAnswer = Unit {0};
  MayTurn = ⊥;
}

abbrev pub still : Kind
still = serving (λ step. Unit {0})

abbrev pub free : Kind
free = fitting (λ step. Unit {0})
