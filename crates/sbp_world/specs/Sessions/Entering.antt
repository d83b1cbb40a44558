-- How a session becomes live (NCITS 325-1998, login and reconnect): by a status block of its target alone, which is written to an open FIFO and names, with a
-- status of 00, the management ORB of the login or the reconnect under way. A login takes the response that stands in the buffer of that ORB's place then; a
-- reconnect has the one that was held. No other call makes a session live or changes the response of one that is, whatever any node injects; a logout that is
-- answered conflict_error leaves it live as it was.
use Rattle.std.specs.Prelude.{◌≡◌, ◌⊎◌, ◌<◌, ℕ, Bool, true, false, List, Option, Some, None, Ok}
use Rattle.async_packet.specs.declared.packet.Header.{Header}
use Rattle.async_packet.specs.Labels.{LabelParts}
use Rattle.async_packet.specs.Packet.{write_block}
use Rattle.initiator_base.specs.declared.fifos.Fifo.{Fifo}
use Rattle.initiator_base.specs.declared.fifos.Fifo.TheVariants as fifos
use Rattle.label_table.specs.Layer.{judging_step, of_request}
use Rattle.orb_layout.specs.declared.login.LoginResponse.{LoginResponse}
use Rattle.orb_layout.specs.declared.status.StatusBlock.{StatusBlock}
use Rattle.orb_layout.specs.declared.status.StatusKind.TheVariants as kinds
use Rattle.orb_layout.specs.LoginResponses.{login_response}
use Rattle.rbc_disk.specs.Runs.{Told}
use Rattle.sbp_initiator.specs.declared.purpose.Running.{Running}
use Rattle.sbp_initiator.specs.declared.state.InitiatorState.{InitiatorState}
use Rattle.sbp_initiator.specs.Acting.{act_step}
use Rattle.sbp_initiator.specs.Effects.{response_of}
use Rattle.sbp_initiator.specs.Receiving.{expire_step, fifo_of, receive_step}
use Rattle.sbp_initiator.specs.Seeing.{see_step}
use Rattle.sbp_initiator.specs.States.{is_orb_of, status_in}
use Rattle.sbp_journal.specs.declared.event.Action.{Action}
use Rattle.sbp_journal.specs.declared.operation.Operation.TheVariants as operations
use Rattle.sbp_journal.specs.Outgoings.{empty_outbox}
use Rattle.sbp_session.specs.declared.seat.Seat.{Seat}
use Rattle.sbp_session.specs.declared.seat.Seat.TheVariants as seats
use Rattle.sbp_world.specs.Runs.{Run, after, beginning}
use Rattle.sbp_world.specs.Settling.{MayAll, after_all}
use Rattle.sbp_world.specs.Worlds.{begun, initiator_at}
use Rattle.sbp_world.specs.Hosts.Runs.{IsRun}

-- the response of a session that is live, or that is being left
abbrev pub joined_with : Seat → Option LoginResponse
joined_with (seats.Live live) = Some live.response
joined_with (seats.Leaving response) = Some response
joined_with _ = None

abbrev pub is_open : Option Fifo → Bool
is_open (Some fifos.Login) = true
is_open (Some fifos.Place) = true
is_open _ = false

-- A status block is delivered: of the target, to an open FIFO, and with status 00 for the management ORB of the operation under way.
pub record IsGranted (s : InitiatorState) (generation : ℕ) (bytes : List ℕ) (running : Running) : Type 0 where
  pub header : Header
  pub offset : ℕ
  pub payload : List ℕ
  pub found : (judging_step s.layer generation bytes).0 ≡ of_request (write_block header offset payload)
  pub source : header.source ≡ s.target
  pub is_open_fifo : is_open (fifo_of s offset) ≡ true
  pub block : StatusBlock
  pub read : status_in payload ≡ Ok block
  pub kind : block.kind ≡ kinds.Management 0
  pub under_way : s.operation ≡ Some running
  pub names : is_orb_of running.managed block.orb ≡ true

-- a login ends so
pub record LogsIn (s : InitiatorState) (running : Running) (response : LoginResponse) : Type 0 where
  pub operation : running.operation ≡ operations.Login
  pub entering : s.seat ≡ seats.Entering tt
  pub told : response ≡ login_response (response_of running s)

-- a reconnect ends so
pub record ComesBack (s : InitiatorState) (running : Running) (response : LoginResponse) : Type 0 where
  pub operation : running.operation ≡ operations.Reconnect
  pub returning : s.seat ≡ seats.Returning response

pub record IsAdmitted (s : InitiatorState) (generation : ℕ) (bytes : List ℕ) (response : LoginResponse) : Type 0 where
  pub running : Running
  pub granted : IsGranted s generation bytes running
  pub by : LogsIn s running response ⊎ ComesBack s running response

-- what a session carries behind each call it carried before, or it is admitted
pub record SessionsEnter (s : InitiatorState) : Type 0 where
  pub deliveries : (generation : ℕ) (bytes : List ℕ) (response : LoginResponse) → joined_with (receive_step generation bytes empty_outbox s).1.1.seat ≡ Some response → (joined_with s.seat ≡ Some response) ⊎ IsAdmitted s generation bytes response
  pub expiries : (label : LabelParts) (response : LoginResponse) → joined_with (expire_step label empty_outbox s).1.1.seat ≡ Some response → joined_with s.seat ≡ Some response
  pub sights : (generation id target : ℕ) (response : LoginResponse) → joined_with (see_step generation id target empty_outbox s).1.seat ≡ Some response → joined_with s.seat ≡ Some response
  pub actions : (action : Action) (response : LoginResponse) → joined_with (act_step action empty_outbox s).1.1.seat ≡ Some response → joined_with s.seat ≡ Some response

-- after every line of every run, and behind each delivery of a line that delivers one packet after the other
pub record EnteringLaw : Type 0 where
  pub after_lines : (run : Run) → IsRun run → (i : ℕ) → i < run.initiators → SessionsEnter (initiator_at (after (beginning run) run.entries).world i)
  pub between : (run : Run) → IsRun run → (most : Option ℕ) (told : List (Option Told)) → MayAll told (begun (after (beginning run) run.entries)) → (i : ℕ) → i < run.initiators → SessionsEnter (initiator_at (after_all told (begun (after (beginning run) run.entries))).world i)
