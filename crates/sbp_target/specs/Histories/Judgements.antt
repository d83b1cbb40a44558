-- The tables that nodes and laws share (NCITS 325-1998, the registers of agents and of the management agent; IEEE 1212; IEEE 1394-1995,
-- response codes). How a target judges a request and what it answers are the first row that holds of the tables of judging and of
-- addresses, which stand in sbp_journal: of what the request is, of the login of the register that it names, and of the state there.
use Rattle.std.specs.Prelude.{◌≡◌, ◌≤◌, ℕ, ◌-◌, ◌==◌, ◌&&◌, not, is_none, is_some, Bool, true, false, if◌then◌else◌, List, [], ◌∷◌, length, take, drop, Option, Some, None, Result, Ok, Err}
use Rattle.byteorder.specs.Endian.{big_bytes}
use Rattle.async_packet.specs.Packet.{Packet, header_in}
use Rattle.orb_layout.specs.declared.ask.Ask.{Ask}
use Rattle.orb_layout.specs.Pointers.{offset_at, pointer_at}
use Rattle.login_table.specs.Table.{by_agent}
use Rattle.command_agent.specs.declared.step.PointRefusal.{PointRefusal}
use Rattle.command_agent.specs.declared.step.PointRefusal.TheVariants as refusals
use Rattle.command_agent.specs.Machine.{state_in}
use Rattle.command_agent.specs.Steps.{point_step}
use Rattle.sbp_journal.specs.declared.cause.Judged.{Judged}
use Rattle.sbp_journal.specs.declared.cause.Judged.TheVariants as judged
use Rattle.sbp_journal.specs.declared.outbox.Outgoing.{Outgoing}
use Rattle.sbp_journal.specs.Addresses as table
use Rattle.sbp_journal.specs.Addresses.{Register, agent_state, agent_reset, orb_pointer, doorbell, unsolicited_enable, Start, rom_start, management_agent, register, no_start, start_at, start_serves, begins_in_rom, lies_in_rom, access_of, rom_base}
use Rattle.sbp_journal.specs.Rows.{TargetFacts, target_rcode, RequestFacts, Judging, judging_of, ignored_as, telling, serving, first_or}
use Rattle.target_base.specs.declared.address.Access.{Access}
use Rattle.target_base.specs.declared.address.Access.TheVariants as accesses
use Rattle.target_base.specs.declared.address.Demand.{Demand}
use Rattle.target_base.specs.declared.address.Demand.TheVariants as demands
use Rattle.target_base.specs.Addresses.{demand_of}
use Rattle.sbp_target.specs.Nodes.{NodeState, Scene, desk_at}
use Rattle.sbp_target.specs.Serving.{last_pointer, pointer_bytes, request_step, state_number}
use Rattle.sbp_target.specs.Histories.Answers.{response_of}

-- ---- judging

-- the register is of no live login of the source
abbrev pub is_of_no_login : NodeState → (source : ℕ) → Start → Bool
is_of_no_login node source (register place name) = is_none (by_agent node.logins.places place source)
is_of_no_login node source start = false

-- What a request is judged by at a target, where no FIFO of an initiator is; a lock neither reads nor writes a register.
abbrev pub judged_by : NodeState → (source : ℕ) → table.Access → RequestFacts
judged_by node source access = record {
  to_initiator = false;
  reads_rom = false;
  of_target = false;
  of_other_login = not access.is_lock && is_of_no_login node source (start_at access.offset);
  to_closed_fifo = false;
  is_status = false;
  is_unsolicited = false;
  is_read = false;
  is_awaited = false;
}

-- what a row says, as it is told
abbrev pub judged_as : Judging → Judged
judged_as (ignored_as cause rcode) = judged.Ignored cause
judged_as telling = judged.Got
judged_as serving = judged.Got

-- ---- serving

-- what an access asks of a register that serves it, and of such a start
abbrev pub asked_of : Register → table.Access → Access
asked_of agent_state access = accesses.State
asked_of agent_reset access = accesses.Reset
asked_of orb_pointer access = if access.is_write then accesses.Point (pointer_at access.payload 0) else accesses.Pointer
asked_of doorbell access = accesses.Ring
asked_of unsolicited_enable access = accesses.Enable

abbrev pub asked_at : Start → table.Access → Option Demand
asked_at management_agent access = Some (demands.Manage (offset_at access.payload 0))
asked_at (register place name) access = Some (demands.Agent place (asked_of name access))
asked_at rom_start access = None
asked_at no_start access = None

-- conflict_error (4) to a pointer that is not taken, data_error (5) to a null one
abbrev pub pointed_rcode : Result Ask PointRefusal → ℕ
pointed_rcode (Ok ask) = 0
pointed_rcode (Err refusals.Conflict) = 4
pointed_rcode (Err refusals.Null) = 5

-- the rcode that the state of a start gives: conflict_error while a management operation is under way
abbrev pub register_rcode : NodeState → (place : ℕ) → Register → table.Access → ℕ
register_rcode node place orb_pointer access =
    if access.is_write then pointed_rcode (point_step (desk_at node place).agent (pointer_at access.payload 0)).0 else 0
register_rcode node place name access = 0

abbrev pub state_rcode : NodeState → Start → table.Access → ℕ
state_rcode node management_agent access = if is_some node.manager.operation then 4 else 0
state_rcode node (register place name) access = register_rcode node place name access
state_rcode node start access = 0

-- the bytes that a read is given there
abbrev pub register_gives : NodeState → (place : ℕ) → Register → table.Access → List ℕ
register_gives node place agent_state access = big_bytes 4 (state_number (state_in (desk_at node place).agent.phase))
register_gives node place orb_pointer access = if access.is_write then [] else pointer_bytes (last_pointer (desk_at node place).pointer)
register_gives node place name access = []

abbrev pub state_gives : NodeState → Start → table.Access → List ℕ
state_gives node (register place name) access = register_gives node place name access
state_gives node start access = []

-- what a request is by the table of addresses, at a target with a ROM of so many bytes, and the rcode that the state gives
abbrev pub facts_of : (size by_state : ℕ) → table.Access → TargetFacts
facts_of size by_state access = record {
  is_lock = access.is_lock;
  is_empty = access.count == 0;
  writes_rom = access.is_write && begins_in_rom size access;
  reads_rom = not access.is_write && lies_in_rom size access;
  is_served = start_serves (start_at access.offset) access;
  by_state = by_state;
  is_start = table.is_start (start_at access.offset);
}

-- the bytes by the row that decides: those of the ROM, or those of the state
abbrev pub given_by : TargetFacts → (rom state : List ℕ) → List ℕ
given_by facts rom state = first_or [] (
    (facts.is_lock, [])
    ∷ (facts.is_empty, [])
    ∷ (facts.writes_rom, [])
    ∷ (facts.reads_rom, rom)
    ∷ (facts.is_served, state)
    ∷ [])

abbrev pub facts_at : NodeState → table.Access → TargetFacts
facts_at node access = facts_of (length node.rom) (state_rcode node (start_at access.offset) access) access

abbrev pub rom_gives : NodeState → table.Access → List ℕ
rom_gives node access = take access.count (drop (access.offset - rom_base) node.rom)

abbrev pub gives_at : NodeState → table.Access → List ℕ
gives_at node access = given_by (facts_at node access) (rom_gives node access) (state_gives node (start_at access.offset) access)

-- packets begin with the response to a request, with an rcode and the bytes that a read is given
pub record BeginsWith (node : ℕ) (p : Packet) (rcode : ℕ) (given : List ℕ) (packets : List Outgoing) : Type 0 where
  pub more : List Outgoing
  pub packets_are : packets ≡ response_of node p rcode given ∷ more

-- the rcode that a row of judging has, or else that of the table of addresses
abbrev pub row_rcode : Judging → ℕ → ℕ
row_rcode (ignored_as cause rcode) by_address = rcode
row_rcode telling by_address = by_address
row_rcode serving by_address = by_address

abbrev pub row_gives : Judging → List ℕ → List ℕ
row_gives (ignored_as cause rcode) given = []
row_gives telling given = given
row_gives serving given = given

pub record TableLaw (p : Packet) (access : table.Access) : Type 0 where
  -- how it is judged
  pub judges : (bytes : List ℕ) (s : Scene) → (request_step p bytes s).0 ≡ judged_as (judging_of (judged_by s.node (header_in p).source access))
  -- its response, where nothing was handed out before
  pub answers : (bytes : List ℕ) (s : Scene) → s.outbox.packets ≡ [] → BeginsWith s.node.layer.node p (row_rcode (judging_of (judged_by s.node (header_in p).source access)) (target_rcode (facts_at s.node access))) (row_gives (judging_of (judged_by s.node (header_in p).source access)) (gives_at s.node access)) (request_step p bytes s).1.outbox.packets
  -- what it asks for, where a start other than the ROM's serves it
  pub serves : (size : ℕ) → size ≤ 1024 → start_serves (start_at access.offset) access ≡ true → Some (demand_of size p) ≡ asked_at (start_at access.offset) access

-- of every request
abbrev pub RowLaw : Type 0
RowLaw = (p : Packet) (access : table.Access) → access_of p ≡ Some access → TableLaw p access
