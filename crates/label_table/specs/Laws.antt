-- What the definitions of the labels and the filter say in other words.
use Rattle.std.specs.Prelude.{◌≡◌, ℕ, ◌<◌, ◌≤◌, ◌↔◌, true, false, List, length, slice_index_or, Option, Some, None}
use Rattle.std.specs.List.{All}
use Rattle.async_packet.specs.declared.packet.Header.{Header}
use Rattle.async_packet.specs.Packet.{Packet, write_quadlet, write_block, write_response, read_quadlet, read_block, read_quadlet_response, read_block_response, lock, lock_response}
use Rattle.async_packet.specs.Canon.{IsValid, canon}
use Rattle.async_packet.specs.Spells.{Spells}
use Rattle.async_packet.specs.Fields.{header_of}
use Rattle.label_table.specs.declared.place.Place.{Place}
use Rattle.label_table.specs.declared.reply.Verdict.TheVariants as verdicts
use Rattle.label_table.specs.Requests.{label_of, with_label}
use Rattle.label_table.specs.Table.{serves, unused, lowest_from}
use Rattle.label_table.specs.Filter.{SourcePlace, source_at, is_of, judge_step}

-- The label that is found serves and no lower one does; where none is found no label serves.
abbrev pub IsLowest : List ℕ → List Place → Option ℕ → Type 0
IsLowest bytes places None = (k : ℕ) → k < length places → serves k bytes (slice_index_or places k unused) ≡ false
IsLowest bytes places (Some number) =
    (number < length places) × (serves number bytes (slice_index_or places number unused) ≡ true) × ((k : ℕ) → k < number → serves k bytes (slice_index_or places k unused) ≡ false)

abbrev pub LowestLaw : Type 0
LowestLaw = (bytes : List ℕ) (places : List Place) → IsLowest bytes places (lowest_from 0 bytes places)

-- each place has another source
abbrev pub HasOthers : List SourcePlace → ℕ → Type 0
HasOthers places source =
    (k : ℕ) → k < length places → (is_of (Some source) (source_at places k) ≡ false) × (is_of None (source_at places k) ≡ false)

-- A request is crowded exactly where each place has another source.
abbrev pub CrowdedLaw : Type 0
CrowdedLaw =
    (places : List SourcePlace) (source : ℕ) (bytes : List ℕ) → judge_step places source bytes ≡ verdicts.Crowded ↔ HasOthers places source

-- The label is that of the header.
abbrev pub LabelLaw : Type 0
LabelLaw = (bytes : List ℕ) → All (λ byte. byte < 256) bytes → 12 ≤ length bytes → label_of bytes ≡ (header_of bytes).label

-- Writing a label changes the label of the header alone.
abbrev pub HeaderLaw : Type 0
HeaderLaw =
    (bytes : List ℕ) (number : ℕ) → All (λ byte. byte < 256) bytes → 12 ≤ length bytes → number < 64 → header_of (with_label number bytes) ≡ record (header_of bytes) { label = number }

abbrev pub relabel : ℕ → Header → Header
relabel number header = record header { label = number }

-- the same packet with this label
abbrev pub relabelled : ℕ → Packet → Packet
relabelled number (write_quadlet header offset value) = write_quadlet (relabel number header) offset value
relabelled number (write_block header offset payload) = write_block (relabel number header) offset payload
relabelled number (write_response header rcode) = write_response (relabel number header) rcode
relabelled number (read_quadlet header offset) = read_quadlet (relabel number header) offset
relabelled number (read_block header offset asked) = read_block (relabel number header) offset asked
relabelled number (read_quadlet_response header rcode value) = read_quadlet_response (relabel number header) rcode value
relabelled number (read_block_response header rcode payload) = read_block_response (relabel number header) rcode payload
relabelled number (lock header offset extended payload) = lock (relabel number header) offset extended payload
relabelled number (lock_response header rcode extended payload) = lock_response (relabel number header) rcode extended payload

-- Bytes that spell a packet spell the same packet with a label once that is written into them.
abbrev pub RelabelledLaw : Type 0
RelabelledLaw =
    (bytes : List ℕ) (p : Packet) (number : ℕ) → All (λ byte. byte < 256) bytes → number < 64 → Spells bytes p → Spells (with_label number bytes) (relabelled number p)

-- Writing a label into the canonical bytes of a packet gives those of the same packet with this label,
-- which is valid. The label that was written last counts; a label has 6 bits, and bytes stay bytes.
pub record WritesLabels : Type 0 where
  pub canonical : (p : Packet) (number : ℕ) → IsValid p → number < 64 → with_label number (canon p) ≡ canon (relabelled number p)
  pub valid : (p : Packet) (number : ℕ) → IsValid p → number < 64 → IsValid (relabelled number p)
  pub last : (bytes : List ℕ) (number before : ℕ) → with_label number (with_label before bytes) ≡ with_label number bytes
  pub small : (bytes : List ℕ) → label_of bytes < 64
  pub bytes : (bytes : List ℕ) (number : ℕ) → All (λ byte. byte < 256) bytes → number < 64 → All (λ byte. byte < 256) (with_label number bytes)
