-- What an initiator does with a packet that is delivered, and at a time-out (IEEE 1394-1995, transaction layer; NCITS 325-1998,
-- status blocks): the first row that holds decides.
use Rattle.std.specs.Prelude.{◌≡◌, ℕ, ◌+◌, ◌==◌, ◌&&◌, not, Bool, true, false, if◌then◌else◌, List, [], replicate, Option, Some, None, Result, Ok, Err}
use Rattle.byteorder.specs.Endian.{big_bytes}
use Rattle.async_packet.specs.Labels.{LabelParts}
use Rattle.async_packet.specs.Packet.{Packet, header_in, write_quadlet, write_block, read_quadlet, read_block}
use Rattle.label_table.specs.declared.reply.Stale.{Stale}
use Rattle.label_table.specs.Layer.{Layer, Finding, of_generation, of_grammar, of_label, of_response, of_again, of_request, answering_step, expiring_step, judging_step}
use Rattle.bus_memory.specs.Access.{read_step}
use Rattle.media_bay.specs.Unsolicited.{is_block}
use Rattle.orb_layout.specs.declared.fault.OrbFault.{OrbFault}
use Rattle.orb_layout.specs.declared.status.StatusBlock.{StatusBlock}
use Rattle.orb_layout.specs.declared.status.StatusKind.{StatusKind}
use Rattle.orb_layout.specs.declared.status.StatusKind.TheVariants as kinds
use Rattle.orb_list.specs.Tickets.{TicketParts}
use Rattle.sbp_journal.specs.declared.cause.Cause.{Cause}
use Rattle.sbp_journal.specs.declared.cause.Cause.TheVariants as causes
use Rattle.sbp_journal.specs.declared.cause.Judged.{Judged}
use Rattle.sbp_journal.specs.declared.cause.Judged.TheVariants as judgements
use Rattle.sbp_journal.specs.declared.cause.TargetFault.{TargetFault}
use Rattle.sbp_journal.specs.declared.cause.TargetFault.TheVariants as target_faults
use Rattle.sbp_journal.specs.declared.note.Note.TheVariants as notes
use Rattle.sbp_journal.specs.Outgoings.{OutboxState}
use Rattle.initiator_base.specs.declared.fifos.Fifo.{Fifo}
use Rattle.initiator_base.specs.declared.fifos.Fifo.TheVariants as fifos
use Rattle.sbp_initiator.specs.declared.purpose.Purpose.{Purpose}
use Rattle.sbp_initiator.specs.declared.purpose.Ending.TheVariants as endings
use Rattle.sbp_initiator.specs.declared.purpose.Running.{Running}
use Rattle.sbp_initiator.specs.declared.state.InitiatorState.{InitiatorState}
use Rattle.orb_list.specs.Lists.{ListState, answer_at, take_lists, write_lists}
use Rattle.sbp_session.specs.Seats.{is_out_seat}
use Rattle.initiator_base.specs.Fifos.{fifo_at, is_dead_kind}
use Rattle.sbp_initiator.specs.States.{ending_of, is_present_orb, status_in}
use Rattle.initiator_base.specs.Places.{reads_rom}
use Rattle.sbp_initiator.specs.Effects.{Turn, ended_for, managed_step, told, with_dead, with_packet}

-- one more call
abbrev pub called : InitiatorState → InitiatorState
called s = record s { counts = record s.counts { calls = s.counts.calls + 1 } }

-- ---- answers

-- type_error, address_error and data_error
abbrev pub type_error : ℕ
type_error = 6

abbrev pub address_error : ℕ
address_error = 7

abbrev pub data_error : ℕ
data_error = 5

abbrev pub responded_as : List ℕ × Layer Purpose → ℕ → OutboxState → InitiatorState → Turn
responded_as (response, layer) source o s =
    (with_packet o (record { to = source; label = None; bytes = response }), record s { layer = layer })

-- A request is answered and remembered.
abbrev pub respond_step : Packet → List ℕ → ℕ → List ℕ → Turn → Turn
respond_step p bytes rcode given turn =
    responded_as (answering_step turn.1.layer p bytes rcode given) (header_in p).source turn.0 turn.1

-- It is ignored, and answered all the same.
abbrev pub ignored_step : Cause → ℕ → Packet → List ℕ → Turn → Judged × Turn
ignored_step cause rcode p bytes turn = (judgements.Ignored cause, respond_step p bytes rcode [] turn)

-- It was got, and is answered complete.
abbrev pub got_step : Packet → List ℕ → Turn → Judged × Turn
got_step p bytes turn = (judgements.Got, respond_step p bytes 0 [] turn)

-- ---- status blocks

-- what a taken status brings: a good one the answer in its slot's buffer
abbrev pub answer_of : StatusKind → ListState → ℕ → List ℕ
answer_of kinds.Good lists slot = answer_at lists slot
answer_of _ lists slot = []

-- A status is taken: it is told with its answer, and marks the list where it has the dead bit.
abbrev pub taken_by : TicketParts → ListState → StatusKind → OutboxState → InitiatorState → Turn
taken_by t lists kind o s = (
  told o (notes.Taken s.number t.list t.number kind (answer_of kind lists t.slot)),
  if is_dead_kind kind then with_dead (record s { lists = lists }) else record s { lists = lists },
)

abbrev pub taken_as : Option TicketParts × ListState → StatusKind → Packet → List ℕ → OutboxState → InitiatorState → Judged × Turn
taken_as (None, lists) kind p bytes o s = ignored_step causes.Slot 0 p bytes (o, record s { lists = lists })
taken_as (Some t, lists) kind p bytes o s = got_step p bytes (taken_by t lists kind o (called s))

abbrev pub managed_for : Option Running → ℕ → Packet → List ℕ → OutboxState → InitiatorState → Judged × Turn
managed_for None status p bytes o s = ignored_step causes.Slot 0 p bytes (o, s)
managed_for (Some running) status p bytes o s = got_step p bytes (managed_step running status o (called s))

-- the operation under way, where this is the address of its management ORB
abbrev pub present_for : ℕ → Option Running → Option Running
present_for orb operation = if is_present_orb orb operation then operation else None

abbrev pub block_by : StatusKind → StatusBlock → Packet → List ℕ → OutboxState → InitiatorState → Judged × Turn
block_by (kinds.Management status) block p bytes o s =
    managed_for (present_for block.orb s.operation) status p bytes o s
block_by kind block p bytes o s = taken_as (take_lists s.lists block) kind p bytes o s

abbrev pub block_step : Result StatusBlock OrbFault → Packet → List ℕ → OutboxState → InitiatorState → Judged × Turn
block_step (Err fault) p bytes o s = ignored_step causes.Grammar data_error p bytes (o, s)
block_step (Ok block) p bytes o s = block_by block.kind block p bytes o s

-- A block is written to an open FIFO: to that of a login it may be the unsolicited status block.
abbrev pub status_step : Bool → List ℕ → Packet → List ℕ → OutboxState → InitiatorState → Judged × Turn
status_step is_login payload p bytes o s =
    if is_login && is_block payload
    then got_step p bytes (told o (notes.Told s.number), called s)
    else block_step (status_in payload) p bytes o s

-- ---- the memory

abbrev pub read_as : ℕ × List ℕ → Packet → List ℕ → OutboxState → InitiatorState → Judged × Turn
read_as (rcode, out) p bytes o s = (judgements.Got, respond_step p bytes rcode out (o, called s))

abbrev pub written_as : ℕ × ListState → Packet → List ℕ → OutboxState → InitiatorState → Judged × Turn
written_as (rcode, lists) p bytes o s =
    (judgements.Got, respond_step p bytes rcode [] (o, record (called s) { lists = lists }))

-- A request is served from the memory; no lock is.
abbrev pub serve_step : Packet → List ℕ → OutboxState → InitiatorState → Judged × Turn
serve_step (read_quadlet header offset) bytes o s =
    read_as (read_step s.lists.memory offset (replicate 4 0)) (read_quadlet header offset) bytes o s
serve_step (read_block header offset asked) bytes o s =
    read_as (read_step s.lists.memory offset (replicate asked 0)) (read_block header offset asked) bytes o s
serve_step (write_quadlet header offset value) bytes o s =
    written_as (write_lists s.lists offset (big_bytes 4 value)) (write_quadlet header offset value) bytes o s
serve_step (write_block header offset payload) bytes o s =
    written_as (write_lists s.lists offset payload) (write_block header offset payload) bytes o s
serve_step p bytes o s = (judgements.Got, respond_step p bytes type_error [] (o, called s))

-- ---- a request by its row

-- its source is not the target, and it is no read inside the ROM
abbrev pub is_foreign : Packet → InitiatorState → Bool
is_foreign p s = not (reads_rom p) && not ((header_in p).source == s.target)

abbrev pub block_at : Option Fifo → List ℕ → Packet → List ℕ → OutboxState → InitiatorState → Judged × Turn
block_at None payload p bytes o s = serve_step p bytes o s
block_at (Some fifos.Closed) payload p bytes o s = ignored_step causes.Login address_error p bytes (o, s)
block_at (Some fifos.Login) payload p bytes o s = status_step true payload p bytes o s
block_at (Some fifos.Place) payload p bytes o s = status_step false payload p bytes o s

abbrev pub quadlet_at : Option Fifo → Packet → List ℕ → OutboxState → InitiatorState → Judged × Turn
quadlet_at (Some fifos.Closed) p bytes o s = ignored_step causes.Login address_error p bytes (o, s)
quadlet_at _ p bytes o s = serve_step p bytes o s

abbrev pub fifo_of : InitiatorState → ℕ → Option Fifo
fifo_of s offset = fifo_at s.counts.logins (is_out_seat s.seat) offset

abbrev pub addressed : Packet → List ℕ → OutboxState → InitiatorState → Judged × Turn
addressed (write_block header offset payload) bytes o s =
    block_at (fifo_of s offset) payload (write_block header offset payload) bytes o s
addressed (write_quadlet header offset value) bytes o s =
    quadlet_at (fifo_of s offset) (write_quadlet header offset value) bytes o s
addressed p bytes o s = serve_step p bytes o s

abbrev pub request_step : Packet → List ℕ → OutboxState → InitiatorState → Judged × Turn
request_step p bytes o s =
    if is_foreign p s then ignored_step causes.Source address_error p bytes (o, s) else addressed p bytes o s

-- ---- a packet as a whole

abbrev pub ignored_as : Cause → OutboxState → InitiatorState → Judged × Turn
ignored_as cause o s = (judgements.Ignored cause, (o, s))

abbrev pub received : Finding Purpose × Layer Purpose → List ℕ → OutboxState → InitiatorState → Judged × Turn
received (of_generation, layer) bytes o s = ignored_as causes.Generation o (record s { layer = layer })
received (of_grammar, layer) bytes o s = ignored_as causes.Grammar o (record s { layer = layer })
received (of_label, layer) bytes o s = ignored_as causes.Label o (record s { layer = layer })
received (of_response p label purpose, layer) bytes o s =
    (judgements.Got, ended_for purpose (ending_of p) o (called (record s { layer = layer })))
received (of_again p rcode, layer) bytes o s =
    ignored_step causes.Again rcode p bytes (o, record s { layer = layer })
received (of_request p, layer) bytes o s = request_step p bytes o (record s { layer = layer })

unfoldable pub receive_step : ℕ → List ℕ → OutboxState → InitiatorState → Judged × Turn
receive_step generation bytes o s = received (judging_step s.layer generation bytes) bytes o s

-- ---- a time-out

-- the request is not under way, or what its time-out leaves
abbrev pub expired_as : Result (Option Purpose) Stale × Layer Purpose → OutboxState → InitiatorState → Bool × Turn
expired_as (Err stale, layer) o s = (false, (o, record s { layer = layer }))
expired_as (Ok purpose, layer) o s = (true, ended_for purpose endings.Expired o (called (record s { layer = layer })))

unfoldable pub expire_step : LabelParts → OutboxState → InitiatorState → Bool × Turn
expire_step label o s = expired_as (expiring_step s.layer s.target label) o s

-- what a call answers and leaves; memory is wanting only where the request is under way, and nothing is said of what is left then
abbrev pub HasExpired : Result (Unit {0}) TargetFault → Turn → Bool × Turn → Type 0
HasExpired (Ok done) left step = (true, left) ≡ step
HasExpired (Err target_faults.Stale) left step = (false, left) ≡ step
HasExpired (Err target_faults.NoMemory) left step = step.0 ≡ true
