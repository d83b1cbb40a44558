-- How the target judges and serves a request (IEEE 1394-1995, transaction layer; NCITS 325-1998, command block agent registers).
use Rattle.std.specs.Prelude.{ℕ, if◌then◌else◌, List, [], length, replicate, take, drop, Option, Some, None, Result, Ok, Err}
use Rattle.sbp_base.specs.Quadlets.{with_quad}
use Rattle.byteorder.specs.Endian.{big_bytes}
use Rattle.async_packet.specs.Packet.{Packet}
use Rattle.orb_layout.specs.declared.ask.Ask.{Ask}
use Rattle.orb_layout.specs.declared.pointer.OrbPointer.{OrbPointer}
use Rattle.orb_layout.specs.declared.pointer.OrbPointer.TheVariants as pointers
use Rattle.orb_layout.specs.Pointers.{pointer_high, pointer_low}
use Rattle.login_table.specs.declared.login.Login.{Login}
use Rattle.command_agent.specs.declared.step.AgentState.{AgentState}
use Rattle.command_agent.specs.declared.step.AgentState.TheVariants as states
use Rattle.command_agent.specs.declared.step.PointRefusal.{PointRefusal}
use Rattle.command_agent.specs.declared.step.PointRefusal.TheVariants as refusals
use Rattle.command_agent.specs.Machine.{aligned}
use Rattle.sbp_journal.specs.declared.cause.Cause.TheVariants as ignored
use Rattle.sbp_journal.specs.declared.cause.Judged.{Judged}
use Rattle.sbp_journal.specs.declared.cause.Judged.TheVariants as judged
use Rattle.sbp_journal.specs.declared.side.Side.TheVariants as sides
use Rattle.target_base.specs.declared.address.Access.{Access}
use Rattle.target_base.specs.declared.address.Access.TheVariants as accesses
use Rattle.target_base.specs.declared.address.Demand.{Demand}
use Rattle.target_base.specs.declared.address.Demand.TheVariants as demands
use Rattle.target_base.specs.Addresses.{complete, conflict_error, data_error, address_error, demand_of}
use Rattle.target_base.specs.Logins.{is_barred}
use Rattle.unordered_agent.specs.Machine.{TaskMachine, state_in}
use Rattle.unordered_agent.specs.Steps.{point_step, doorbell_step}
use Rattle.task_target.specs.Sending.{answer_step, with_side}
use Rattle.task_target.specs.Nodes.{TaskNode, Scene, scene}
use Rattle.task_target.specs.Following.{cut, fetch, with_agent}
use Rattle.task_target.specs.Replies.{served_login}

-- A request is answered.
abbrev pub answered : Packet → List ℕ → ℕ → List ℕ → Scene → Scene
answered request bytes rcode given s =
    let a = answer_step s.node.layer s.outbox request bytes rcode given in scene (record s.node { layer = a.0 }) a.1

-- the number of a state, which AGENT_STATE tells
abbrev pub state_number : AgentState → ℕ
state_number states.Reset = 0
state_number states.Active = 1
state_number states.Suspended = 2
state_number states.Dead = 3

-- what ORB_POINTER tells: the pointer last taken, or a null one
abbrev pub last_pointer : Option ℕ → OrbPointer
last_pointer None = pointers.Null
last_pointer (Some orb) = pointers.At orb

abbrev pub pointer_bytes : OrbPointer → List ℕ
pointer_bytes pointer = with_quad (with_quad (replicate 8 0) 0 (pointer_high pointer)) 4 (pointer_low pointer)

-- what the fetcher asks for by a write of the agent's registers
abbrev pub fetched_for : Option Login → Ask → Scene → Scene
fetched_for None ask s = s
fetched_for (Some login) ask s = fetch login ask s

abbrev pub fetched : Ask → Scene → Scene
fetched ask s = fetched_for (served_login s.node) ask s

-- why a pointer was not taken, as an rcode
abbrev pub rcode_of : PointRefusal → ℕ
rcode_of refusals.Conflict = conflict_error
rcode_of refusals.Null = data_error

-- the address of the first ORB of a list, whose two low bits count as zero
abbrev pub first_orb : OrbPointer → ℕ
first_orb pointers.Null = 0
first_orb (pointers.At first) = aligned first

-- the agent took a pointer, which is kept
abbrev pub pointed_node : ℕ → TaskMachine → TaskNode → TaskNode
pointed_node orb m node = record node { agent = m; pointer = Some orb }

-- A pointer is taken: its list is open from then on.
abbrev pub pointed_by : ℕ → Packet → List ℕ → Result Ask PointRefusal × TaskMachine → Scene → Scene
pointed_by orb request bytes (Ok ask, m) s =
    fetched ask (answered request bytes complete [] (scene (pointed_node orb m s.node) (with_side s.outbox (sides.Opened 0 orb))))
pointed_by orb request bytes (Err refusal, m) s = answered request bytes (rcode_of refusal) [] (scene (with_agent s.node m) s.outbox)

unfoldable pub point : OrbPointer → Packet → List ℕ → Scene → Scene
point pointer request bytes s = pointed_by (first_orb pointer) request bytes (point_step s.node.agent pointer) s

abbrev pub rung_by : Packet → List ℕ → Ask × TaskMachine → Scene → Scene
rung_by request bytes (ask, m) s = fetched ask (answered request bytes complete [] (scene (with_agent s.node m) s.outbox))

unfoldable pub ring : Packet → List ℕ → Scene → Scene
ring request bytes s = rung_by request bytes (doorbell_step s.node.agent) s

-- What is asked of the agent is done and answered. UNSOLICITED_STATUS_ENABLE changes nothing: the one login has nothing announced, as it alone changes the medium.
abbrev pub accessed_by : Access → Packet → List ℕ → Scene → Scene
accessed_by accesses.State request bytes s =
    answered request bytes complete (big_bytes 4 (state_number (state_in s.node.agent.fetcher.phase))) s
accessed_by accesses.Reset request bytes s = answered request bytes complete [] (cut s)
accessed_by (accesses.Point pointer) request bytes s = point pointer request bytes s
accessed_by accesses.Pointer request bytes s = answered request bytes complete (pointer_bytes (last_pointer s.node.pointer)) s
accessed_by accesses.Ring request bytes s = ring request bytes s
accessed_by accesses.Enable request bytes s = answered request bytes complete [] s

-- What a request that was got asks for is done and answered. There is no management agent, so MANAGEMENT_AGENT is no register here; and a register of an agent is of the one that is there, since every other one is barred.
abbrev pub served_as : Demand → Packet → List ℕ → Scene → Scene
served_as (demands.Refused rcode) request bytes s = answered request bytes rcode [] s
served_as (demands.Rom at len) request bytes s = answered request bytes complete (take len (drop at s.node.rom)) s
served_as (demands.Manage orb) request bytes s = answered request bytes address_error [] s
served_as (demands.Agent place access) request bytes s = accessed_by access request bytes s

unfoldable pub serve : Packet → List ℕ → Scene → Scene
serve request bytes s = served_as (demand_of (length s.node.rom) request) request bytes s

-- A request that reads or writes an agent register belongs to a live login of its source, or is ignored.
unfoldable pub request_step : Packet → List ℕ → Scene → Judged × Scene
request_step request bytes s =
    if is_barred s.node.logins request
    then (judged.Ignored ignored.Login, answered request bytes address_error [] s)
    else (judged.Got, serve request bytes s)
