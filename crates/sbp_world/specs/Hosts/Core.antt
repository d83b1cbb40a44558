-- What the run terms say of an initiator's host is what it has (NCITS 325-1998, login, reconnect, logout): its session, the operation under way
-- with the place of its management ORB, how many login numbers it used and how many management writes it sent, its next running number, and
-- whether it wrote ORB_POINTER for its present list.
use Rattle.std.specs.Prelude.{◌≡◌, ◌<◌, ℕ, ◌||◌, not, is_some, Bool, true, false, if◌then◌else◌, List, ◌∷◌, ◌++◌, map, Option, Some, None}
use Rattle.rbc_disk.specs.Runs.{Told}
use Rattle.sbp_journal.specs.Run.{asked, said}
use Rattle.sbp_journal.specs.Rows.{Refusals}
use Rattle.sbp_journal.specs.Outgoings.{OutboxState}
use Rattle.sbp_journal.specs.declared.event.Action.{Action}
use Rattle.sbp_journal.specs.declared.operation.Operation.{Operation}
use Rattle.sbp_session.specs.declared.seat.Origin.{Origin}
use Rattle.sbp_session.specs.declared.seat.Origin.TheVariants as origins
use Rattle.sbp_session.specs.declared.seat.Seat.{Seat}
use Rattle.sbp_session.specs.declared.seat.Seat.TheVariants as seats
use Rattle.sbp_initiator.specs.declared.purpose.Running.{Running}
use Rattle.sbp_initiator.specs.declared.state.InitiatorState.{InitiatorState}
use Rattle.sbp_initiator.specs.Acting.{act_step, facts_with}
use Rattle.sbp_initiator.specs.Refusals.{ends_list, operation_of, rows_of}
use Rattle.sbp_initiator.specs.States.{is_unwritten, place_of}
use Rattle.sbp_laws.specs.Actions.{refusal_at, refusals}
use Rattle.sbp_laws.specs.Hosts.{Host, Session, Underway, host_at, is_management}
use Rattle.sbp_laws.specs.Hosts as terms
use Rattle.sbp_world.specs.Histories.{history_of}
use Rattle.sbp_world.specs.Runs.{Run, after, beginning}
use Rattle.sbp_world.specs.Settling.{MayAll, after_all}
use Rattle.sbp_world.specs.Worlds.{begun, initiator_at}
use Rattle.sbp_world.specs.Hosts.Refusing.{initiator_of}
use Rattle.sbp_world.specs.Hosts.Runs.{IsRun, more_deliveries}

-- an operation under way, and the place of its management ORB, where it has one
pub record Work : Type 0 where
  pub operation : Operation
  pub place : Option ℕ

abbrev pub operation_by : Option Work → Option Operation
operation_by None = None
operation_by (Some work) = Some work.operation

abbrev pub work_of : Option Underway → Option Work
work_of None = None
work_of (Some underway) =
    Some (record { operation = underway.operation; place = if is_management underway.operation then Some underway.place else None })

abbrev pub placed : Option ℕ → Option ℕ
placed None = None
placed (Some managed) = Some (place_of managed)

abbrev pub work_in : Option Running → Option Work
work_in None = None
work_in (Some running) = Some (record { operation = running.operation; place = placed running.managed })

pub record Core : Type 0 where
  pub session : Session
  pub work : Option Work
  pub logins : ℕ
  pub writes : ℕ
  pub running : ℕ
  pub wrote_pointer : Bool

abbrev pub host_core : Host → Core
host_core host = record {
  session = host.session;
  work = work_of host.operation;
  logins = host.logins;
  writes = host.writes;
  running = host.running;
  wrote_pointer = is_some host.pointer;
}

-- the session of a seat: of a stuck one, whether it had a login as it became so
abbrev pub had_login : Origin → Bool
had_login (origins.Out out) = false
had_login (origins.Entering entering) = false
had_login (origins.Live live) = true
had_login (origins.Held response) = true
had_login (origins.Returning response) = true
had_login (origins.Leaving response) = true

abbrev pub session_in : Seat → Session
session_in (seats.Out out) = terms.out
session_in (seats.Entering entering) = terms.entering
session_in (seats.Live live) = terms.live
session_in (seats.Held response) = terms.held
session_in (seats.Returning response) = terms.returning
session_in (seats.Leaving response) = terms.leaving
session_in (seats.Stuck origin) = terms.stuck (had_login origin)

abbrev pub own_core : InitiatorState → Core
own_core s = record {
  session = session_in s.seat;
  work = work_in s.operation;
  logins = s.counts.logins;
  writes = s.counts.managed;
  running = s.counts.running;
  wrote_pointer = not (is_unwritten s.marks.pointing);
}

-- the rows of a refusal that read the session and the operation; whether an ORB_POINTER write is under way counts for the operations that end
-- a list alone
pub record HasSession (line : ℕ) (run : Run) (i : ℕ) (action : Action) (has_label : Bool) : Type 0 where
  pub stuck : (refusals (history_of line run) i action (host_at (history_of line run) i)).stuck ≡ (rows_of action (facts_with has_label (initiator_of run i) action)).stuck
  pub wrong_state : (refusals (history_of line run) i action (host_at (history_of line run) i)).wrong_state ≡ (rows_of action (facts_with has_label (initiator_of run i) action)).wrong_state
  pub waiting : ends_list (operation_of action) ≡ false → (refusals (history_of line run) i action (host_at (history_of line run) i)).waiting ≡ (rows_of action (facts_with has_label (initiator_of run i) action)).waiting

-- the first two rows of a refusal, on the session, decide
abbrev pub DecidesBySession : Refusals → Type 0
DecidesBySession r = r.stuck || r.wrong_state ≡ true

-- After each line, and behind each delivery of a line that delivers one packet after the other, the core of the host is that of the initiator. An
-- action that its session refuses has the number of the refusal that the run says.
pub record HostLaw : Type 0 where
  pub core : (line : ℕ) (run : Run) → IsRun run → (i : ℕ) → i < run.initiators → host_core (host_at (history_of line run) i) ≡ own_core (initiator_of run i)
  pub between : (line : ℕ) (run : Run) → IsRun run → (next : ℕ) (most : Option ℕ) (told : List (Option Told)) → MayAll told (begun (after (beginning run) run.entries)) → (i : ℕ) → i < run.initiators → (let w = (after_all told (begun (after (beginning run) run.entries))).world in host_core (host_at (map said w.fresh ++ asked next (more_deliveries most) ∷ history_of line run) i) ≡ own_core (initiator_at w i))
  pub first : (line : ℕ) (run : Run) → IsRun run → (i : ℕ) → i < run.initiators → (action : Action) (o : OutboxState) → DecidesBySession (refusals (history_of line run) i action (host_at (history_of line run) i)) → refusal_at (history_of line run) i action ≡ (act_step action o (initiator_of run i)).0
  pub rows : (line : ℕ) (run : Run) → IsRun run → (i : ℕ) → i < run.initiators → (action : Action) (has_label : Bool) → HasSession line run i action has_label
