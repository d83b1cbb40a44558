-- How the target judges and serves a request (IEEE 1394-1995, transaction layer; NCITS 325-1998,
-- command block agent registers).
use Rattle.std.specs.Prelude.{ℕ, Bool, true, false, if◌then◌else◌, List, [], length, replicate, take, drop, Option, Some, None, Result, Ok, Err}
use Rattle.sbp_base.specs.Quadlets.{with_quad}
use Rattle.byteorder.specs.Endian.{big_bytes}
use Rattle.async_packet.specs.Packet.{Packet, header_in}
use Rattle.orb_layout.specs.declared.ask.Ask.{Ask}
use Rattle.orb_layout.specs.declared.pointer.OrbPointer.{OrbPointer}
use Rattle.orb_layout.specs.declared.pointer.OrbPointer.TheVariants as pointers
use Rattle.orb_layout.specs.Pointers.{pointer_high, pointer_low}
use Rattle.login_table.specs.declared.login.Login.{Login}
use Rattle.mgmt_agent.specs.declared.operation.Busy.{Busy}
use Rattle.mgmt_agent.specs.Machine as management
use Rattle.command_agent.specs.declared.step.AgentState.{AgentState}
use Rattle.command_agent.specs.declared.step.AgentState.TheVariants as states
use Rattle.command_agent.specs.declared.step.PointRefusal.{PointRefusal}
use Rattle.command_agent.specs.declared.step.PointRefusal.TheVariants as refusals
use Rattle.command_agent.specs.Machine.{Machine, state_in}
use Rattle.command_agent.specs.Steps.{asks, doorbell_step}
use Rattle.sbp_journal.specs.declared.cause.Cause.TheVariants as ignored
use Rattle.sbp_journal.specs.declared.cause.CutCause.TheVariants as cuts
use Rattle.sbp_journal.specs.declared.cause.Judged.{Judged}
use Rattle.sbp_journal.specs.declared.cause.Judged.TheVariants as judged
use Rattle.sbp_journal.specs.declared.side.Side.TheVariants as sides
use Rattle.target_base.specs.declared.address.Access.{Access}
use Rattle.target_base.specs.declared.address.Access.TheVariants as accesses
use Rattle.target_base.specs.declared.address.Demand.{Demand}
use Rattle.sbp_target.specs.declared.desk.Desk.{Desk}
use Rattle.sbp_target.specs.Desks.{point_desk}
use Rattle.target_base.specs.declared.address.Demand.TheVariants as demands
use Rattle.target_base.specs.Addresses.{complete, conflict_error, data_error, address_error, demand_of}
use Rattle.target_base.specs.Logins as bases
use Rattle.sbp_target.specs.Sending.{answer_step, with_side}
use Rattle.sbp_target.specs.Nodes.{NodeState, Scene, scene, desk_at, login_at, with_desk, with_agent}
use Rattle.sbp_target.specs.Agents.{cut, follow}
use Rattle.sbp_target.specs.Telling.{orb_of}
use Rattle.sbp_target.specs.Management.{ask_manager}

-- A request is answered.
abbrev pub answered : Packet → List ℕ → ℕ → List ℕ → Scene → Scene
answered request bytes rcode given s =
    let a = answer_step s.node.layer s.outbox request bytes rcode given in scene (record s.node { layer = a.0 }) a.1

-- the number of a state, which AGENT_STATE tells
abbrev pub state_number : AgentState → ℕ
state_number states.Reset = 0
state_number states.Active = 1
state_number states.Suspended = 2
state_number states.Dead = 3

-- what ORB_POINTER tells: the pointer last taken, or a null one
abbrev pub last_pointer : Option ℕ → OrbPointer
last_pointer None = pointers.Null
last_pointer (Some orb) = pointers.At orb

abbrev pub pointer_bytes : OrbPointer → List ℕ
pointer_bytes pointer = with_quad (with_quad (replicate 8 0) 0 (pointer_high pointer)) 4 (pointer_low pointer)

-- what an agent asks for by a write of its registers, of the login of its place
abbrev pub asked_in : ℕ → Ask → Option Login → Scene → Scene
asked_in place ask None s = s
asked_in place ask (Some login) s = follow place login (asks ask) s

abbrev pub asked_at : ℕ → Ask → Scene → Scene
asked_at place ask s = asked_in place ask (login_at s.node place) s

abbrev pub rcode_of : PointRefusal → ℕ
rcode_of refusals.Conflict = conflict_error
rcode_of refusals.Null = data_error

-- A pointer is taken: its list is open from then on.
abbrev pub pointed_by : ℕ → Packet → List ℕ → Result Ask PointRefusal × Desk → Scene → Scene
pointed_by place request bytes (Ok ask, desk) s =
    asked_at place ask (answered request bytes complete [] (scene (with_desk s.node place desk) (with_side s.outbox (sides.Opened place (orb_of desk.agent)))))
pointed_by place request bytes (Err refusal, desk) s =
    answered request bytes (rcode_of refusal) [] (scene (with_desk s.node place desk) s.outbox)

unfoldable pub point : ℕ → OrbPointer → Packet → List ℕ → Scene → Scene
point place pointer request bytes s = pointed_by place request bytes (point_desk (desk_at s.node place) pointer) s

abbrev pub rung_by : ℕ → Packet → List ℕ → Ask × Machine → Scene → Scene
rung_by place request bytes (ask, m) s = asked_at place ask (answered request bytes complete [] (scene (with_agent s.node place m) s.outbox))

unfoldable pub ring : ℕ → Packet → List ℕ → Scene → Scene
ring place request bytes s = rung_by place request bytes (doorbell_step (desk_at s.node place).agent) s

abbrev pub enabled : ℕ → Scene → Scene
enabled place s = scene (with_desk s.node place (record (desk_at s.node place) { is_enabled = true })) s.outbox

-- What is asked of an agent is done and answered.
abbrev pub accessed_by : Access → ℕ → Packet → List ℕ → Scene → Scene
accessed_by accesses.State place request bytes s =
    answered request bytes complete (big_bytes 4 (state_number (state_in (desk_at s.node place).agent.phase))) s
accessed_by accesses.Reset place request bytes s = answered request bytes complete [] (cut cuts.AgentReset place s)
accessed_by (accesses.Point pointer) place request bytes s = point place pointer request bytes s
accessed_by accesses.Pointer place request bytes s =
    answered request bytes complete (pointer_bytes (last_pointer (desk_at s.node place).pointer)) s
accessed_by accesses.Ring place request bytes s = ring place request bytes s
accessed_by accesses.Enable place request bytes s = answered request bytes complete [] (enabled place s)

-- MANAGEMENT_AGENT: an operation starts where none is under way
abbrev pub started_by : ℕ → Packet → List ℕ → Result Ask Busy × management.Machine → Scene → Scene
started_by source request bytes (Ok ask, m) s =
    ask_manager source ask (answered request bytes complete [] (scene (record s.node { manager = m }) s.outbox))
started_by source request bytes (Err busy, m) s =
    answered request bytes conflict_error [] (scene (record s.node { manager = m }) s.outbox)

unfoldable pub start : ℕ → Packet → List ℕ → Scene → Scene
start orb request bytes s =
    started_by (header_in request).source request bytes (management.start_step s.node.manager (header_in request).source orb) s

-- What a request that was got asks for is done and answered.
abbrev pub served_as : Demand → Packet → List ℕ → Scene → Scene
served_as (demands.Refused rcode) request bytes s = answered request bytes rcode [] s
served_as (demands.Rom at len) request bytes s = answered request bytes complete (take len (drop at s.node.rom)) s
served_as (demands.Manage orb) request bytes s = start orb request bytes s
served_as (demands.Agent place access) request bytes s = accessed_by access place request bytes s

unfoldable pub serve : Packet → List ℕ → Scene → Scene
serve request bytes s = served_as (demand_of (length s.node.rom) request) request bytes s

-- A request that reads or writes an agent register belongs to a live login of its source, or is ignored.
unfoldable pub is_barred : NodeState → Packet → Bool
is_barred node request = bases.is_barred node.logins request

unfoldable pub request_step : Packet → List ℕ → Scene → Judged × Scene
request_step request bytes s =
    if is_barred s.node request
    then (judged.Ignored ignored.Login, answered request bytes address_error [] s)
    else (judged.Got, serve request bytes s)
