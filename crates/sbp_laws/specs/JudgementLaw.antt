-- The judgement law (IEEE 1394-1995, transaction layer; NCITS 325-1998, agents and status FIFO). A delivery begins with the note of the
-- first row that holds. Where that is `ignored`, the delivery has no other note but one packet with the stated answer, and none where the
-- row has none. Two rows have the word grammar, one without an answer and one with data_error; they are told apart by the row that holds.
use Rattle.std.specs.Prelude.{◌≡◌, ℕ, zero, suc, ◌+◌, ◌*◌, ◌==◌, ◌&&◌, ◌||◌, not, is_some, Bool, true, false, List, [], ◌∷◌, Option, Some, None, Result, Ok, Err}
use Rattle.async_packet.specs.Packet.{Packet}
use Rattle.async_packet.specs.Canon.{canon}
use Rattle.orb_layout.specs.declared.fault.OrbFault.{OrbFault}
use Rattle.orb_layout.specs.declared.status.StatusBlock.{StatusBlock}
use Rattle.orb_layout.specs.Pointers.{offset_at}
use Rattle.orb_layout.specs.StatusBlocks.{read_block}
use Rattle.bus_memory.specs.Windows.{is_fifo}
use Rattle.media_bay.specs.Unsolicited.{is_block}
use Rattle.config_rom.specs.Make.{made}
use Rattle.rbc_disk.specs.Disk.{Disk}
use Rattle.login_table.specs.declared.login.Login.{Login}
use Rattle.login_table.specs.Table.{by_agent}
use Rattle.label_table.specs.Judging.{Facts, Row, by_generation, by_grammar, by_label, by_response, by_again, by_request, row_of}
use Rattle.label_table.specs.Requests.{is_write, is_last}
use Rattle.label_table.specs.Bodies.{response_to}
use Rattle.sbp_journal.specs.Run.{Moment, said}
use Rattle.sbp_journal.specs.Addresses.{Access, Start, register, start_at, lies_in_rom}
use Rattle.sbp_journal.specs.Rows.{RequestFacts, Judging, ignored_as, telling, serving, judging_of}
use Rattle.sbp_journal.specs.Transactions.{Part, response, part_of, is_to, Sending, Transaction, asked_by}
use Rattle.sbp_journal.specs.Wire.{Terms, terms}
use Rattle.sbp_journal.specs.declared.cause.Cause.TheVariants as causes
use Rattle.sbp_journal.specs.declared.note.Note.{Note}
use Rattle.sbp_journal.specs.declared.note.Note.TheVariants as notes
use Rattle.sbp_laws.specs.Turns.{Turn, EachTurn}
use Rattle.sbp_laws.specs.Packets.{access_in, packet_in, answered_in, id_of, id_for}
use Rattle.sbp_laws.specs.Lists.{Orb, named, waits_in}
use Rattle.sbp_laws.specs.Hosts.{Host, host_at, Session, out, Underway}
use Rattle.sbp_laws.specs.Targets.{Target, eui_of, login_fifo}
use Rattle.sbp_laws.specs.Agents.{target_before}
use Rattle.sbp_laws.specs.Operations.{names_management, is_of}

-- ---- ROMs
-- the ROM of a node: the target's has its units, an initiator's has none
abbrev pub target_eui : ℕ
target_eui = 0x0200000000000010

abbrev pub rom_of : (node units : ℕ) → List ℕ
rom_of zero units = made target_eui units
rom_of (suc i) units = made (eui_of i) 0

-- its length in bytes: 8 quadlets, or 16 and one for each unit where there are units
abbrev pub rom_quads : (units : ℕ) → ℕ
rom_quads zero = 8
rom_quads (suc units) = 17 + units

abbrev pub rom_size : (node units : ℕ) → ℕ
rom_size zero units = 4 * rom_quads units
rom_size (suc i) units = 4 * rom_quads 0

-- ---- FIFOs
-- the FIFO of a login is open where it is that of the latest login sent and the session is not out
abbrev pub is_out : Session → Bool
is_out out = true
is_out session = false

abbrev pub is_login_fifo : ℕ → Bool
is_login_fifo offset = is_fifo offset && not (offset == 0x12002000) && not (offset == 0x12002020)

abbrev pub is_open_fifo : Host → ℕ → Bool
is_open_fifo host offset = not (is_out host.session) && not (host.logins == 0) && (offset + 0x20 == login_fifo host.logins)

-- a status block names an ORB that waits, or the management ORB of the operation under way
abbrev pub waits_for : List Moment → (i : ℕ) → Option Orb → Bool
waits_for past i None = false
waits_for past i (Some one) = waits_in past i one.list one.number

abbrev pub is_managed : Option Underway → StatusBlock → Bool
is_managed None block = false
is_managed (Some underway) block = is_of underway block

-- A block is read as that of a management ORB where the address in it is that of one of the two places.
abbrev pub read_status : List ℕ → Result StatusBlock OrbFault
read_status payload = read_block (names_management (offset_at payload 0)) payload

abbrev pub is_read : Result StatusBlock OrbFault → Bool
is_read (Ok block) = true
is_read (Err fault) = false

abbrev pub is_awaited : List Moment → (i : ℕ) → Host → Result StatusBlock OrbFault → Bool
is_awaited past i host (Ok block) = waits_for past i (named past i block.orb) || is_managed host.operation block
is_awaited past i host (Err fault) = false

-- ---- the facts
-- no live login of the node in the place
abbrev pub is_none_live : Option Login → Bool
is_none_live None = true
is_none_live (Some login) = false

abbrev pub is_other_register : Start → Target → (id : ℕ) → Bool
is_other_register (register place name) target id = is_none_live (by_agent target.table.places place id)
is_other_register start target id = false

abbrev pub target_facts : Target → (id : ℕ) → Access → RequestFacts
target_facts target id access = record {
  to_initiator = false;
  reads_rom = false;
  of_target = false;
  of_other_login = not access.is_lock && is_other_register (start_at access.offset) target id;
  to_closed_fifo = false;
  is_status = false;
  is_unsolicited = false;
  is_read = false;
  is_awaited = false;
}

abbrev pub host_facts : List Moment → (i : ℕ) → Host → (sender : ℕ) → Access → RequestFacts
host_facts past i host sender access = record {
  to_initiator = true;
  reads_rom = not access.is_lock && not access.is_write && lies_in_rom (rom_size (suc i) 0) access;
  of_target = sender == 0;
  of_other_login = false;
  to_closed_fifo = access.is_write && is_login_fifo access.offset && not (is_open_fifo host access.offset);
  is_status = access.is_write && access.is_block && is_fifo access.offset;
  is_unsolicited = is_login_fifo access.offset && is_block access.payload;
  is_read = is_read (read_status access.payload);
  is_awaited = is_awaited past i host (read_status access.payload);
}

abbrev pub request_facts : List Disk → List Moment → Target → Terms → (sender receiver : ℕ) → Access → RequestFacts
request_facts disks past target wire sender zero access = target_facts target (id_for wire 0 sender) access
request_facts disks past target wire sender (suc i) access = host_facts past i (host_at past i) sender access

abbrev pub is_response : Part → Bool
is_response (response label kind) = true
is_response part = false

abbrev pub seen_by : Terms → Option Transaction → Option (List ℕ)
seen_by wire None = None
seen_by wire (Some transaction) = wire.seen transaction

abbrev pub facts_of : Terms → Sending → Facts
facts_of wire sending = record {
  is_current = sending.generation == wire.generation sending.to;
  is_for_node = is_to sending.bytes (id_of wire sending.to);
  is_response = is_response (part_of sending.bytes);
  is_awaited = is_some (answered_in wire (Some sending));
  is_repeated = is_write sending.bytes && is_last (seen_by wire (asked_by sending)) sending.bytes;
}

-- ---- the note of the row, and the rcode of its answer, if it has one
pub record Verdict : Type 0 where
  pub note : Note
  pub rcode : Option ℕ

abbrev pub verdict : Note → Option ℕ → Verdict
verdict note rcode = record { note = note; rcode = rcode }

abbrev pub by_judging : (serial : ℕ) → Judging → Verdict
by_judging serial (ignored_as cause rcode) = verdict (notes.Ignored serial cause) (Some rcode)
by_judging serial telling = verdict (notes.Got serial) None
by_judging serial serving = verdict (notes.Got serial) None

abbrev pub by_facts : (serial : ℕ) → Option RequestFacts → Verdict
by_facts serial None = verdict (notes.Got serial) None
by_facts serial (Some facts) = by_judging serial (judging_of facts)

abbrev pub given_by : Terms → Option Transaction → ℕ
given_by wire None = 0
given_by wire (Some transaction) = wire.given transaction

abbrev pub by_row : Row → (serial : ℕ) → Terms → Sending → Option RequestFacts → Verdict
by_row by_generation serial wire sending facts = verdict (notes.Ignored serial causes.Generation) None
by_row by_grammar serial wire sending facts = verdict (notes.Ignored serial causes.Grammar) None
by_row by_label serial wire sending facts = verdict (notes.Ignored serial causes.Label) None
by_row by_response serial wire sending facts = verdict (notes.Got serial) None
by_row by_again serial wire sending facts = verdict (notes.Ignored serial causes.Again) (Some (given_by wire (asked_by sending)))
by_row by_request serial wire sending facts = by_facts serial facts

abbrev pub facts_at : List Disk → List Moment → Target → Terms → Sending → Option Access → Option RequestFacts
facts_at disks past target wire sending None = None
facts_at disks past target wire sending (Some access) = Some (request_facts disks past target wire sending.from sending.to access)

abbrev pub verdict_on : List Disk → Turn → (serial : ℕ) → Option Sending → Verdict
verdict_on disks t serial None = verdict (notes.Ignored serial causes.Generation) None
verdict_on disks t serial (Some sending) =
    by_row (row_of (facts_of (terms t.past) sending)) serial (terms t.past) sending
    (facts_at disks t.past (target_before disks t) (terms t.past) sending (access_in (packet_in (Some sending))))

abbrev pub verdict_of : List Disk → Turn → ℕ → Verdict
verdict_of disks t serial = verdict_on disks t serial ((terms t.past).sent serial)

-- ---- the packet of an answer: the next serial, to the sender, under its label
abbrev pub answer_packet : Terms → Sending → (rcode : ℕ) → List ℕ → Option Packet → List Note
answer_packet wire sending rcode given None = []
answer_packet wire sending rcode given (Some packet) =
    notes.Sent (wire.count + 1) (wire.generation sending.to) sending.to sending.from (canon (response_to (id_of wire sending.to) packet rcode given)) ∷ []

abbrev pub ignored_rest : Terms → Option Sending → Option ℕ → List Note
ignored_rest wire None rcode = []
ignored_rest wire (Some sending) None = []
ignored_rest wire (Some sending) (Some rcode) = answer_packet wire sending rcode [] (packet_in (Some sending))

abbrev pub JudgesBy : List Disk → Turn → Moment → Type 0
JudgesBy disks t (said (notes.Got serial)) = (verdict_of disks t serial).note ≡ notes.Got serial
JudgesBy disks t (said (notes.Ignored serial cause)) =
    ((verdict_of disks t serial).note ≡ notes.Ignored serial cause)
    × (t.rest ≡ ignored_rest (terms t.past) ((terms t.past).sent serial) (verdict_of disks t serial).rcode)
JudgesBy disks t moment = Unit {0}

abbrev pub Judges : List Disk → Turn → Type 0
Judges disks t = JudgesBy disks t t.start

abbrev pub JudgementLaw : List Disk → List Moment → Type 0
JudgementLaw disks past = EachTurn (Judges disks) past
