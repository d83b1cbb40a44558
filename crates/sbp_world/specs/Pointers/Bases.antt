-- At whose registers an initiator writes and reads, in every run (NCITS 325-1998, ORB_POINTER, AGENT_RESET and AGENT_STATE): ORB_POINTER is written for the present
-- list at the agent of the response that the session carries; so is AGENT_RESET, while it is under way; and a read of AGENT_STATE that tells of the present
-- list is at that agent too. A logout that is refused leaves the list, and the next login may be at another agent: where no logout of it was refused, an initiator
-- that has a list is in a session that is live, or is being left, or became stuck so.
use Rattle.std.specs.Prelude.{◌≡◌, ◌<◌, ℕ, suc, ◌+◌, ◌%◌, ◌^◌, ◌==◌, is_some, Bool, true, false, List, [], ◌∷◌, ◌++◌, map, Option, Some}
use Rattle.bus_memory.specs.declared.window.Window.TheVariants as windows
use Rattle.bus_memory.specs.Windows.{start}
use Rattle.orb_layout.specs.declared.login.LoginResponse.{LoginResponse}
use Rattle.rbc_disk.specs.Runs.{Told}
use Rattle.sbp_journal.specs.Addresses.{Access}
use Rattle.sbp_journal.specs.Run.{Moment, asked, said}
use Rattle.sbp_journal.specs.Transactions.{Sending}
use Rattle.sbp_journal.specs.Wire.{terms}
use Rattle.sbp_journal.specs.declared.note.Note.{Note}
use Rattle.sbp_journal.specs.declared.note.Note.TheVariants as notes
use Rattle.sbp_journal.specs.declared.operation.Operation.TheVariants as operations
use Rattle.sbp_journal.specs.declared.operation.OpWord.TheVariants as words
use Rattle.sbp_initiator.specs.declared.state.InitiatorState.{InitiatorState}
use Rattle.sbp_laws.specs.Hosts.{Underway, host_at}
use Rattle.sbp_laws.specs.Lawful.{injectors}
use Rattle.sbp_laws.specs.Lists.{present_list, slot_at}
use Rattle.sbp_laws.specs.Packets.{access_in_bytes}
use Rattle.sbp_laws.specs.Turns.{EachMoment}
use Rattle.sbp_session.specs.Laws.{carried}
use Rattle.sbp_session.specs.declared.seat.Origin.{Origin}
use Rattle.sbp_session.specs.declared.seat.Origin.TheVariants as origins
use Rattle.sbp_session.specs.declared.seat.Seat.{Seat}
use Rattle.sbp_session.specs.declared.seat.Seat.TheVariants as seats
use Rattle.sbp_world.specs.Histories.{history_of}
use Rattle.sbp_world.specs.Runs.{Run, after, beginning}
use Rattle.sbp_world.specs.Settling.{MayAll, after_all}
use Rattle.sbp_world.specs.Worlds.{begun, initiator_at}
use Rattle.sbp_world.specs.Hosts.Refusing.{initiator_of}
use Rattle.sbp_world.specs.Hosts.Runs.{IsRun, more_deliveries}
use Rattle.sbp_world.specs.Pointers.Moments.{is_answered, pointer_write, register_write, state_list}
use Rattle.sbp_world.specs.Pointers.Pointers.{pointed_list}

-- ---- logouts that were refused

abbrev pub is_refusal : ℕ → Note → Bool
is_refusal i (notes.Op j operations.Logout (words.Refused status)) = j == i
is_refusal i _ = false

abbrev pub IsUnrefused : ℕ → Moment → List Moment → Type 0
IsUnrefused i (said note) past = is_refusal i note ≡ false
IsUnrefused i (asked line event) past = Unit {0}

-- no logout of the initiator was refused
abbrev pub AreUnrefused : List Moment → ℕ → Type 0
AreUnrefused past i = EachMoment (IsUnrefused i) past

-- ---- a session that is live, or is being left, or became stuck so

abbrev pub was_seated : Origin → Bool
was_seated (origins.Live live) = true
was_seated (origins.Leaving response) = true
was_seated _ = false

abbrev pub is_seated : Seat → Bool
is_seated (seats.Live live) = true
is_seated (seats.Leaving response) = true
is_seated (seats.Stuck origin) = was_seated origin
is_seated _ = false

-- ---- requests

-- a read of a quadlet of a register of the agent with this base
abbrev pub register_read : (base distance : ℕ) → Access
register_read base distance = record { is_lock = false; is_write = false; is_block = false; offset = (base + distance) % 2 ^ 48; count = 4; payload = [] }

-- a request of an initiator to its target asks for this
pub record IsAsked (past : List Moment) (i serial : ℕ) (access : Access) : Type 0 where
  pub packet : Sending
  pub sent : (terms past).sent serial ≡ Some packet
  pub from_is : packet.from ≡ suc i
  pub to_is : packet.to ≡ 0
  pub honest : packet.injected ≡ false
  pub spelled : access_in_bytes packet.bytes ≡ Some access

-- of initiator i, as it is
pub record AreAtAgent (past : List Moment) (i : ℕ) (s : InitiatorState) : Type 0 where
  pub pointer : AreUnrefused past i → (n serial : ℕ) → present_list past i ≡ Some n → pointed_list past serial i ≡ Some n → (response : LoginResponse) → carried s.seat ≡ Some response → IsAsked past i serial (pointer_write response.agent (start (windows.Orb (slot_at past i n 0))))
  pub reset : (underway : Underway) → (host_at past i).operation ≡ Some underway → underway.operation ≡ operations.AgentReset → (response : LoginResponse) → carried s.seat ≡ Some response → IsAsked past i underway.first (register_write response.agent 0x04)
  pub states : AreUnrefused past i → (n serial : ℕ) → present_list past i ≡ Some n → state_list past serial i ≡ Some n → (response : LoginResponse) → carried s.seat ≡ Some response → IsAsked past i serial (register_read response.agent 0x00)
  -- a read tells of a list behind the answer to its ORB_POINTER write, which so was judged
  pub behind : (n serial other : ℕ) → state_list past serial i ≡ Some n → pointed_list past other i ≡ Some n → is_answered past other ≡ true
  pub judged : injectors past i ≡ false → (n serial other : ℕ) → state_list past serial i ≡ Some n → pointed_list past other i ≡ Some n → 0 < (terms past).news other
  pub seated : AreUnrefused past i → is_some (present_list past i) ≡ true → is_seated s.seat ≡ true
  pub armed : (underway : Underway) → (host_at past i).operation ≡ Some underway → underway.operation ≡ operations.AgentReset → is_some (carried s.seat) ≡ true

-- After each line, and behind each delivery of a line that delivers one packet after the other.
pub record RegistersLaw : Type 0 where
  pub after_lines : (line : ℕ) (run : Run) → IsRun run → (i : ℕ) → i < run.initiators → AreAtAgent (history_of line run) i (initiator_of run i)
  pub between : (line : ℕ) (run : Run) → IsRun run → (next : ℕ) (most : Option ℕ) (told : List (Option Told)) → MayAll told (begun (after (beginning run) run.entries)) → (i : ℕ) → i < run.initiators → (let w = (after_all told (begun (after (beginning run) run.entries))).world in AreAtAgent (map said w.fresh ++ asked next (more_deliveries most) ∷ history_of line run) i (initiator_at w i))
