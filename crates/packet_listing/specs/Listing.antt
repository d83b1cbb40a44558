-- The listing of `decode`: for each line that is not blank the packet that its bytes spell, or the fault of bytes that are no
-- packet (IEEE 1394-1995, asynchronous packets).
use Rattle.std.specs.Prelude.{ℕ, suc, ◌+◌, ◌-◌, ◌/◌, ◌%◌, ◌==◌, ◌&&◌, nat_lt, nat_le, if◌then◌else◌, List, [], ◌∷◌, ◌++◌, length, codes, Option, Some, None, Result, Ok, Err}
use Rattle.std.specs.Fmt.{decimal}
use Rattle.std.specs.Str.Lines.{lines}
use Rattle.byteorder.specs.Endian.{big_bytes}
use Rattle.hex.specs.declared.error.FromHexError.{FromHexError}
use Rattle.async_packet.specs.declared.packet.Header.{Header}
use Rattle.async_packet.specs.declared.fault.PacketFault.{PacketFault}
use Rattle.async_packet.specs.declared.fault.PacketFault.TheVariants.{Short, Code, TooBig, Long, Extended, LockLength}
use Rattle.async_packet.specs.Packet.{Packet, write_quadlet, write_block, write_response, read_quadlet, read_block, read_quadlet_response, read_block_response, lock, lock_response}
use Rattle.async_packet.specs.Reading.{reading}
use Rattle.line_session.specs.Lines.{too_many, too_long}
use Rattle.line_text.specs.Fields.{Field, number, digits, payload, name, further, rest_of_line}
use Rattle.line_text.specs.Digits.{spelled, no_digits}

-- the numbers of a packet in hexadecimal: a node ID has 4 digits, an offset 12 and a quadlet 8
abbrev pub node : ℕ → Field
node n = digits (big_bytes 2 n)

abbrev pub offset : ℕ → Field
offset n = digits (big_bytes 6 n)

abbrev pub quadlet : ℕ → Field
quadlet n = digits (big_bytes 4 n)

-- the registers of a login's place, by their distance from the base
abbrev pub register_name : ℕ → Option (List ℕ)
register_name distance =
    if distance == 0 then Some (codes "state")
    else if distance == 4 then Some (codes "reset")
    else if distance == 8 then Some (codes "pointer")
    else if distance == 16 then Some (codes "doorbell")
    else if distance == 20 then Some (codes "unsolicited")
    else None

abbrev pub agent_word : ℕ → Option (List ℕ) → List Field
agent_word place None = []
agent_word place (Some register) = name (codes "@agent" ++ (decimal place ++ 46 ∷ register)) ∷ []

-- the registers of the eight places
abbrev pub first_base : ℕ
first_base = 0xfffff0040000

-- the word of a start of the target: its configuration ROM, its management agent, or a register of one of the eight places
unfoldable pub start_word : ℕ → List Field
start_word at =
    if at == 0xfffff0000400 then name (codes "@rom") ∷ []
    else if at == 0xfffff0010000 then name (codes "@management") ∷ []
    else if nat_le first_base at && nat_lt at (first_base + 256) then agent_word ((at - first_base) / 32) (register_name ((at - first_base) % 32))
    else []

abbrev pub header_fields : Header → List Field
header_fields header = node header.destination ∷ node header.source ∷ number header.label ∷ number header.retry ∷ number header.priority ∷ []

abbrev pub block_fields : List ℕ → List Field → List Field
block_fields bytes rest = number (length bytes) ∷ payload bytes ∷ rest

-- the kind of a packet
abbrev pub kind : Packet → List ℕ
kind (write_quadlet header at value) = codes "write_quadlet"
kind (write_block header at bytes) = codes "write_block"
kind (write_response header rcode) = codes "write_response"
kind (read_quadlet header at) = codes "read_quadlet"
kind (read_block header at asked) = codes "read_block"
kind (read_quadlet_response header rcode value) = codes "read_quadlet_response"
kind (read_block_response header rcode bytes) = codes "read_block_response"
kind (lock header at extended bytes) = codes "lock"
kind (lock_response header rcode extended bytes) = codes "lock_response"

abbrev pub header_of : Packet → Header
header_of (write_quadlet header at value) = header
header_of (write_block header at bytes) = header
header_of (write_response header rcode) = header
header_of (read_quadlet header at) = header
header_of (read_block header at asked) = header
header_of (read_quadlet_response header rcode value) = header
header_of (read_block_response header rcode bytes) = header
header_of (lock header at extended bytes) = header
header_of (lock_response header rcode extended bytes) = header

-- the fields of a packet behind its header
abbrev pub own_fields : Packet → List Field
own_fields (write_quadlet header at value) = offset at ∷ quadlet value ∷ start_word at
own_fields (write_block header at bytes) = offset at ∷ block_fields bytes (start_word at)
own_fields (write_response header rcode) = number rcode ∷ []
own_fields (read_quadlet header at) = offset at ∷ start_word at
own_fields (read_block header at asked) = offset at ∷ number asked ∷ start_word at
own_fields (read_quadlet_response header rcode value) = number rcode ∷ quadlet value ∷ []
own_fields (read_block_response header rcode bytes) = number rcode ∷ block_fields bytes []
own_fields (lock header at extended bytes) = offset at ∷ number extended ∷ block_fields bytes (start_word at)
own_fields (lock_response header rcode extended bytes) = number rcode ∷ number extended ∷ block_fields bytes []

-- the line of a packet
abbrev pub packet_text : Packet → List ℕ
packet_text packet = (kind packet ++ further (header_fields (header_of packet))) ++ rest_of_line (own_fields packet)

-- the number of a fault, its name and its one field
abbrev pub refusal_fields : PacketFault → List Field
refusal_fields (Short need) = number 1 ∷ name (codes "Short") ∷ number need ∷ []
refusal_fields (Code tcode) = number 2 ∷ name (codes "Code") ∷ number tcode ∷ []
refusal_fields (TooBig declared) = number 3 ∷ name (codes "TooBig") ∷ number declared ∷ []
refusal_fields (Long extra) = number 4 ∷ name (codes "Long") ∷ number extra ∷ []
refusal_fields (Extended code) = number 5 ∷ name (codes "Extended") ∷ number code ∷ []
refusal_fields (LockLength declared) = number 6 ∷ name (codes "LockLength") ∷ number declared ∷ []

abbrev pub refusal_text : PacketFault → List ℕ
refusal_text fault = codes "fault" ++ rest_of_line (refusal_fields fault)

-- the line of bytes
abbrev pub reading_text : Result Packet PacketFault → List ℕ
reading_text (Ok packet) = packet_text packet
reading_text (Err fault) = refusal_text fault

-- what a line of these bytes brings: one line of text, or nothing where the line is blank
abbrev pub listed : List ℕ → List ℕ
listed [] = []
listed (byte ∷ rest) = reading_text (reading (byte ∷ rest))

-- what a line brings: the line of the bytes that its digits spell; other digits are a fault
abbrev pub of_digits : Result (List ℕ) FromHexError → Result (List ℕ) ℕ
of_digits (Ok bytes) = Ok (listed bytes)
of_digits (Err error) = Err no_digits

-- what a line brings, or the number of the first fault that holds of it
abbrev pub line_listing : ℕ → List ℕ → Result (List ℕ) ℕ
line_listing n line =
    if nat_lt 65536 n then Err too_many
    else if nat_lt 8192 (length line) then Err too_long
    else of_digits (spelled line)

-- the text of the lines before the first faulty one, and that line's number and that of its fault
pub record Listing : Type 0 where
  pub text : List ℕ
  pub fault : Option (ℕ × ℕ)

abbrev pub onto_listing : ℕ → Result (List ℕ) ℕ → Listing → Listing
onto_listing n (Ok text) rest = record { text = text ++ rest.text; fault = rest.fault }
onto_listing n (Err fault) rest = record { text = []; fault = Some (n, fault) }

-- the listing of lines that are counted from `n` on
abbrev pub listing_from : ℕ → List (List ℕ) → Listing
listing_from n [] = record { text = []; fault = None }
listing_from n (line ∷ rest) = onto_listing n (line_listing n line) (listing_from (suc n) rest)

-- the listing of a list of bytes; lines are counted from 1
abbrev pub listing : List ℕ → Listing
listing bytes = listing_from 1 (lines bytes)
