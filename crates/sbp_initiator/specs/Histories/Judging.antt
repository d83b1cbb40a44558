-- How an initiator judges what is delivered to it (IEEE 1394-1995, transaction layer; NCITS 325-1998, status blocks). The note of a
-- delivery is that of the first row that holds. The first rows are those of the transaction layer: another generation, no packet for
-- this node, a response to nothing, a response, a write that comes again. The others are those of a request, by what it asks for and by
-- what holds of the initiator. What is ignored changes nothing, and has no other answer than the one that its row gives.
use Rattle.std.specs.Prelude.{◌≡◌, ℕ, ◌==◌, ◌&&◌, not, is_some, Bool, true, false, List, [], Option, Some, None, Result, Ok, Err}
use Rattle.async_packet.specs.Packet.{Packet, header_in}
use Rattle.async_packet.specs.Reading.{reading}
use Rattle.async_packet.specs.declared.fault.PacketFault.{PacketFault}
use Rattle.label_table.specs.Judging.{Row, by_generation, by_grammar, by_label, by_response, by_again, by_request, row_of}
use Rattle.label_table.specs.Layer.{facts_of, of_request, judging_step}
use Rattle.bus_memory.specs.Windows.{slot_of}
use Rattle.media_bay.specs.Unsolicited.{is_block}
use Rattle.orb_layout.specs.declared.fault.OrbFault.{OrbFault}
use Rattle.orb_layout.specs.declared.status.StatusBlock.{StatusBlock}
use Rattle.orb_layout.specs.declared.status.StatusKind.{StatusKind}
use Rattle.orb_layout.specs.declared.status.StatusKind.TheVariants as kinds
use Rattle.orb_list.specs.declared.slot.Slot.{Slot}
use Rattle.orb_list.specs.Table.{slot_in, waiting}
use Rattle.sbp_journal.specs.declared.cause.Cause.TheVariants as causes
use Rattle.sbp_journal.specs.declared.cause.Judged.{Judged}
use Rattle.sbp_journal.specs.declared.cause.Judged.TheVariants as judgements
use Rattle.sbp_journal.specs.declared.note.Note.TheVariants as notes
use Rattle.sbp_journal.specs.Addresses.{Access, access_of, lies_in_rom}
use Rattle.sbp_journal.specs.Outgoings.{OutboxState}
use Rattle.sbp_journal.specs.Rows.{Judging, RequestFacts, ignored_as, judging_of, telling, serving}
use Rattle.initiator_base.specs.declared.fifos.Fifo.{Fifo}
use Rattle.initiator_base.specs.declared.fifos.Fifo.TheVariants as fifos
use Rattle.sbp_initiator.specs.declared.state.InitiatorState.{InitiatorState}
use Rattle.initiator_base.specs.Fifos.{fifo_at}
use Rattle.sbp_session.specs.Seats.{is_out_seat}
use Rattle.sbp_initiator.specs.States.{is_present_orb, status_in}
use Rattle.sbp_initiator.specs.Effects.{Turn, told}
use Rattle.sbp_initiator.specs.Receiving.{called, receive_step, respond_step}

-- ---- what holds of a request

abbrev pub is_closed : Option Fifo → Bool
is_closed (Some fifos.Closed) = true
is_closed _ = false

abbrev pub is_of_login : Option Fifo → Bool
is_of_login (Some fifos.Login) = true
is_of_login _ = false

abbrev pub is_open : Option Fifo → Bool
is_open (Some fifos.Login) = true
is_open (Some fifos.Place) = true
is_open _ = false

abbrev pub writes : Access → Bool
writes access = not access.is_lock && access.is_write

abbrev pub reads : Access → Bool
reads access = not access.is_lock && not access.is_write

-- an ORB waits for its status in the slot at an address
abbrev pub waits_in : List Slot → Option ℕ → Bool
waits_in slots None = false
waits_in slots (Some number) = is_some (waiting (slot_in slots number))

-- A status block is awaited: by the operation under way, whose management ORB it names, or by an ORB that waits.
abbrev pub is_awaited_by : StatusKind → ℕ → InitiatorState → Bool
is_awaited_by (kinds.Management status) orb s = is_present_orb orb s.operation
is_awaited_by _ orb s = waits_in s.lists.slots.slots (slot_of orb)

abbrev pub is_awaited : Result StatusBlock OrbFault → InitiatorState → Bool
is_awaited (Err fault) s = false
is_awaited (Ok block) s = is_awaited_by block.kind block.orb s

abbrev pub is_read : Result StatusBlock OrbFault → Bool
is_read (Ok block) = true
is_read (Err fault) = false

-- the FIFO at the address of a request
abbrev pub fifo_for : Access → InitiatorState → Option Fifo
fifo_for access s = fifo_at s.counts.logins (is_out_seat s.seat) access.offset

-- the facts of a request, with the FIFO at its address; the ROM of an initiator has 32 bytes
abbrev pub facts_at : Option Fifo → Access → ℕ → InitiatorState → RequestFacts
facts_at fifo access source s = record {
  to_initiator = true;
  reads_rom = reads access && lies_in_rom 32 access;
  of_target = source == s.target;
  of_other_login = false;
  to_closed_fifo = writes access && is_closed fifo;
  is_status = writes access && access.is_block && is_open fifo;
  is_unsolicited = is_of_login fifo && is_block access.payload;
  is_read = is_read (status_in access.payload);
  is_awaited = is_awaited (status_in access.payload) s;
}

-- how a request is judged; a packet that asks for nothing is none
abbrev pub judging_by : Option Access → ℕ → InitiatorState → Judging
judging_by None source s = serving
judging_by (Some access) source s = judging_of (facts_at (fifo_for access s) access source s)

abbrev pub judging_for : Packet → InitiatorState → Judging
judging_for p s = judging_by (access_of p) (header_in p).source s

-- ---- the note of a delivery

abbrev pub note_of : Judging → Judged
note_of (ignored_as cause rcode) = judgements.Ignored cause
note_of telling = judgements.Got
note_of serving = judgements.Got

abbrev pub note_by : Row → Result Packet PacketFault → InitiatorState → Judged
note_by by_generation read s = judgements.Ignored causes.Generation
note_by by_grammar read s = judgements.Ignored causes.Grammar
note_by by_label read s = judgements.Ignored causes.Label
note_by by_response read s = judgements.Got
note_by by_again read s = judgements.Ignored causes.Again
note_by by_request (Ok p) s = note_of (judging_for p s)
note_by by_request (Err fault) s = judgements.Ignored causes.Grammar

-- what is left of a request by its row: one that is ignored is answered with the row's rcode and changes nothing, and one that tells of
-- a changed medium is told and answered complete
abbrev pub LeftBy : Judging → Packet → List ℕ → OutboxState → InitiatorState → Turn → Type 0
LeftBy (ignored_as cause rcode) p bytes o s turn = turn ≡ respond_step p bytes rcode [] (o, s)
LeftBy telling p bytes o s turn = turn ≡ respond_step p bytes 0 [] (told o (notes.Told s.number), called s)
LeftBy serving p bytes o s turn = Unit {0}

-- At every initiator, for every delivery.
pub record JudgingLaw : Type 0 where
  pub noted : (generation : ℕ) (bytes : List ℕ) (o : OutboxState) (s : InitiatorState) → (receive_step generation bytes o s).0 ≡ note_by (row_of (facts_of s.layer generation bytes)) (reading bytes) s
  pub left : (generation : ℕ) (bytes : List ℕ) (o : OutboxState) (s : InitiatorState) (p : Packet) → (judging_step s.layer generation bytes).0 ≡ of_request p → LeftBy (judging_for p s) p bytes o s (receive_step generation bytes o s).1
