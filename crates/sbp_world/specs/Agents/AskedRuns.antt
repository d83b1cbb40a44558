-- What an agent of the terms waits for is what it asked for, at each place of a history between two turns (NCITS 325-1998, command block agents): the packet
-- with the serial of its main transaction, and that of its read ahead, is a request of the target to the initiator that has the login, is under way, and
-- asks for what the agent has under way by its phase. So the bytes of a response to it are those at the address that the phase reads.
use Rattle.std.specs.Prelude.{◌≡◌, ◌≤◌, ◌<◌, ◌&&◌, ℕ, ◌+◌, ◌^◌, Bool, true, false, if◌then◌else◌, List, [], ◌∷◌, ◌++◌, map, length, Option, Some}
use Rattle.orb_layout.specs.declared.ask.Ask.{Ask}
use Rattle.orb_layout.specs.declared.ask.Ask.TheVariants.{Nothing, Read, Write}
use Rattle.command_agent.specs.declared.step.Which.{Which}
use Rattle.command_agent.specs.declared.step.Which.TheVariants.{Ahead, Main}
use Rattle.command_agent.specs.Tasks.{writes_status}
use Rattle.rbc_disk.specs.Disk.{Disk}
use Rattle.rbc_disk.specs.Runs.{Told}
use Rattle.sbp_journal.specs.Addresses.{Access}
use Rattle.sbp_journal.specs.Run.{Moment, asked, said}
use Rattle.sbp_journal.specs.Wire.{Terms, terms}
use Rattle.sbp_journal.specs.declared.event.Event.{Event}
use Rattle.sbp_laws.specs.Agents.{fifo_in}
use Rattle.sbp_laws.specs.Packets.{access_at, is_under_way, receiver_in, sender_in}
use Rattle.sbp_laws.specs.Targets.{Agent, agent_at, for_agent, initiator_at, login_at, over, purpose_of, target_at}
use Rattle.sbp_world.specs.Histories.{history_of}
use Rattle.sbp_world.specs.Runs.{AreEntries, Run, after, beginning}
use Rattle.sbp_world.specs.Settling.{MayAll, after_all}
use Rattle.sbp_world.specs.Wire.Lines.{AreLines}
use Rattle.sbp_world.specs.Worlds.{begun}
use Rattle.sbp_world.specs.Agents.Management.Terms.{DeliversMore}
use Rattle.agent_laws.specs.Along.Requests.{ahead_under, main_under}
use Rattle.sbp_world.specs.Agents.Alike.{answers}

-- a read of a block, and a write of one
abbrev pub read_access : (offset count : ℕ) → Access
read_access offset count = record { is_lock = false; is_write = false; is_block = true; offset = offset; count = count; payload = [] }

abbrev pub write_access : (offset : ℕ) → (payload : List ℕ) → Access
write_access offset payload = record { is_lock = false; is_write = true; is_block = true; offset = offset; count = length payload; payload = payload }

-- A request is for what is asked: a read of so many bytes there; or a write of as many, a status block to the FIFO of the login.
abbrev pub IsAccessFor : Ask → (is_status : Bool) → (fifo : ℕ) → Access → Type 0
IsAccessFor (Read offset size) is_status fifo access = access ≡ read_access offset size
IsAccessFor (Write offset size) is_status fifo access = (access ≡ write_access (if is_status then fifo else offset) access.payload) × (length access.payload ≡ size)
IsAccessFor Nothing is_status fifo access = ⊥

-- the request with a serial, for what is asked
pub record HasAsked (wire : Terms) (initiator fifo serial : ℕ) (ask : Ask) (is_status : Bool) : Type 0 where
  pub from : sender_in (wire.sent serial) ≡ Some 0
  pub to : receiver_in (wire.sent serial) ≡ Some (initiator + 1)
  pub under_way : is_under_way wire serial ≡ true
  pub access : Access
  pub is : access_at wire serial ≡ Some access
  pub asks : IsAccessFor ask is_status fifo access

-- The bytes of the answer that is written are not told: the medium told no bytes of it.
abbrev pub is_open : Agent → Bool
is_open a = a.untold && answers a.machine.phase

-- An agent of a login of an initiator, with this FIFO, waits for what it asked for; and where it writes, the request has the bytes that it
-- has to write, unless they are not told.
pub record WaitsForAsked (wire : Terms) (initiator fifo : ℕ) (a : Agent) : Type 0 where
  pub main : (serial : ℕ) → a.main ≡ Some serial → HasAsked wire initiator fifo serial (main_under a.machine) (writes_status a.machine.phase)
  pub ahead : (serial : ℕ) → a.ahead ≡ Some serial → HasAsked wire initiator fifo serial (ahead_under a.machine) false
  pub bytes : (serial : ℕ) → a.main ≡ Some serial → is_open a ≡ false → (access : Access) → access_at wire serial ≡ Some access → access.is_write ≡ true → access.payload ≡ a.machine.outgoing

-- the serial of one of its transactions
abbrev pub serial_of : Which → Agent → Option ℕ
serial_of Main a = a.main
serial_of Ahead a = a.ahead

-- All agents do; and a serial that is for one of them, by the terms, is the one that it waits for.
pub record AreAskedAt (start : List Disk) (past : List Moment) : Type 0 where
  pub handed : (serial place : ℕ) (which : Which) → (let target = over (target_at start past) in purpose_of target serial ≡ for_agent place which → (place < 8) × (serial_of which (agent_at target place) ≡ Some serial))
  pub all : (place : ℕ) → place < 8 → (let wire = terms past in let target = over (target_at start past) in WaitsForAsked wire (initiator_at target wire place) (fifo_in (login_at target place)) (agent_at target place))

-- After every line of every run of a machine with a unit, at most four, and a medium for each.
abbrev pub AskedRunLaw : Type 0
AskedRunLaw =
    (line : ℕ) (run : Run) → run.initiators ≤ 4 → 0 < run.units → run.units ≤ 4 → length run.start.disks ≡ run.units → length run.entries + 2 < 2 ^ 32 → AreEntries (beginning run) run.entries → AreLines run run.entries → AreAskedAt run.start.disks (history_of line run)

-- And behind each delivery of a line that may follow: the packets that were delivered in it so far told this, the latest one first.
abbrev pub AskedBetweenLaw : Type 0
AskedBetweenLaw =
    (line : ℕ) (run : Run) → run.initiators ≤ 4 → 0 < run.units → run.units ≤ 4 → length run.start.disks ≡ run.units → length run.entries + 2 < 2 ^ 32 → AreEntries (beginning run) run.entries → AreLines run run.entries → (next : ℕ) (event : Event) → DeliversMore event → (told : List (Option Told)) → MayAll told (begun (after (beginning run) run.entries)) → AreAskedAt run.start.disks (map said (after_all told (begun (after (beginning run) run.entries))).world.fresh ++ asked next event ∷ history_of line run)
