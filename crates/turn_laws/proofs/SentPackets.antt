-- What the wire says of packets is what the sent law says of them.
use Rattle.std.proofs.Common.{arith, ◌≡◌, ◌∙◌, refl, sym, ap, subst, ℕ, ◌<◌, ◌≤◌, List, [], ◌∷◌, length, Some, Ok}
use Rattle.async_packet.specs.Canon.{IsValid, canon}
use Rattle.async_packet.specs.Packet.{Packet, header_in, lock, lock_response, read_block, read_block_response, read_quadlet, read_quadlet_response, write_block, write_quadlet, write_response}
use Rattle.async_packet.specs.Reading.{reading}
use Rattle.async_packet.proofs.RoundTrip.{canon_spells}
use Rattle.bus_transactions.specs.Packets.{SerialsCount}
use Rattle.bus_transactions.specs.Sent.{AreSent}
use Rattle.bus_transactions.specs.Sent as bus
use Rattle.bus_transactions.specs.Wire.{transaction}
use Rattle.async_packet.proofs.Spelled.{reading_spelled}
use Rattle.bus_transactions.proofs.PacketParts.{part_read}
use Rattle.label_table.specs.Laws.{relabelled}
use Rattle.label_table.specs.Requests.{with_label}
use Rattle.label_table.proofs.Requests.{least_spelled}
use Rattle.label_table.proofs.Rewritten.{writes_labels}
use Rattle.sbp_journal.specs.Run.{Moment, asked, said}
use Rattle.sbp_journal.specs.Transactions.{Kind, Part, locking, no_packet, part_in, part_of, reading_block, reading_quadlet, request, response, writing}
use Rattle.sbp_journal.specs.Wire.{Terms, terms}
use Rattle.sbp_journal.specs.declared.note.Note.TheVariants as notes
use Rattle.sbp_laws.specs.Packets.{label_for, serves}
use Rattle.sbp_laws.specs.SentPackets.{HasLabel, IsOwn, SentAt}
use Rattle.sbp_laws.specs.Turns.{EachMoment}
use Rattle.sbp_world.proofs.Agents.Management.Still.{hist}
use Rattle.sbp_world.proofs.Hosts.Labels.{first_found, serves_same}
use Rattle.sbp_world.proofs.Wire.Starts.{laws_of}
use Rattle.turn_laws.specs.Packets.{PacketsLaw}
use Rattle.turn_laws.proofs.EveryPlace.{of_every_place}

-- ---- a packet has its label in its bytes
relabel_same : (p : Packet) → relabelled (header_in p).label p ≡ p
relabel_same (write_quadlet header offset value) = refl
relabel_same (write_block header offset payload) = refl
relabel_same (write_response header rcode) = refl
relabel_same (read_quadlet header offset) = refl
relabel_same (read_block header offset wanted) = refl
relabel_same (read_quadlet_response header rcode value) = refl
relabel_same (read_block_response header rcode payload) = refl
relabel_same (lock header offset extended payload) = refl
relabel_same (lock_response header rcode extended payload) = refl

label_small : (p : Packet) → IsValid p → (header_in p).label < 64
label_small (write_quadlet header offset value) v = v.0.label
label_small (write_block header offset payload) v = v.0.label
label_small (write_response header rcode) v = v.0.label
label_small (read_quadlet header offset) v = v.0.label
label_small (read_block header offset wanted) v = v.0.label
label_small (read_quadlet_response header rcode value) v = v.0.label
label_small (read_block_response header rcode payload) v = v.0.label
label_small (lock header offset extended payload) v = v.0.label
label_small (lock_response header rcode extended payload) v = v.0.label

label_is : (p : Packet) (label : ℕ) (kind : Kind) → part_in p ≡ request label kind → (header_in p).label ≡ label
label_is (write_quadlet header offset value) label kind e = cc
label_is (write_block header offset payload) label kind e = cc
label_is (write_response header rcode) label kind e = absurd (let no : response header.label writing ≡ request label kind = e in cc)
label_is (read_quadlet header offset) label kind e = cc
label_is (read_block header offset wanted) label kind e = cc
label_is (read_quadlet_response header rcode value) label kind e = absurd (let no : response header.label reading_quadlet ≡ request label kind = e in cc)
label_is (read_block_response header rcode payload) label kind e = absurd (let no : response header.label reading_block ≡ request label kind = e in cc)
label_is (lock header offset extended payload) label kind e = cc
label_is (lock_response header rcode extended payload) label kind e = absurd (let no : response header.label locking ≡ request label kind = e in cc)

module _ (t : Terms) (generation from to : ℕ) (bytes : List ℕ) (own : bus.IsOwn t generation from to bytes) where
  abbrev p : Packet
  p = own.canonical.packet

  least : 12 ≤ length bytes
  least = subst (λ bs. 12 ≤ length bs) (sym own.canonical.spelled) (least_spelled (canon p) p (canon_spells p own.canonical.valid))

  lowest_label : (label : ℕ) (kind : Kind) → part_of bytes ≡ request label kind → label_for t from to bytes ≡ Some label
  unfolding label_for
  lowest_label label kind e =
      let low = own.lowest label kind e in
      let read : reading bytes ≡ Ok p = ap reading own.canonical.spelled ∙ reading_spelled (canon p) p (canon_spells p own.canonical.valid) in
      let named : (header_in p).label ≡ label = label_is p label kind (sym (part_read bytes p read) ∙ e) in
      let below = label_small p own.canonical.valid in
      let small : label < 64 = subst (λ n. n < 64) named below in
      let same : with_label label bytes ≡ bytes =
      ap (λ n. with_label n bytes) (sym named) ∙ ap (with_label (header_in p).label) own.canonical.spelled
      ∙ writes_labels.canonical p (header_in p).label own.canonical.valid below ∙ ap canon (relabel_same p) ∙ sym own.canonical.spelled in
      first_found 64 0 label (serves t from to bytes) (omega arith) (omega (arith, small))
      (serves_same t from to bytes label least ∙ ap (bus.serves t (transaction (t.generation from) from to label)) same ∙ low.takes)
      (λ m l. serves_same t from to bytes m least ∙ low.lower m l)

  labelled : (part : Part) → part_of bytes ≡ part → HasLabel part t from to bytes
  labelled (request label kind) e = lowest_label label kind e
  labelled (response label kind) e = tt
  labelled no_packet e = tt

  as_sent : IsOwn t generation from to bytes
  as_sent = record {
    in_generation = own.now;
    spelled = record {
      packet = p;
      canonical = own.canonical.spelled;
      retry = ap (λ h. h.retry) own.canonical.header;
      priority = ap (λ h. h.priority) own.canonical.header;
      source = ap (λ h. h.source) own.canonical.header;
      destination = ap (λ h. h.destination) own.canonical.header;
    };
    label = labelled (part_of bytes) refl;
  }

packets_law : (ms : List Moment) → SerialsCount ms → AreSent ms → EachMoment SentAt ms
packets_law [] c s = tt
packets_law (asked line event ∷ past) c s = (tt, packets_law past c s)
packets_law (said (notes.Sent serial generation from to bytes) ∷ past) c s =
    ((c.0, λ honest. as_sent (terms past) generation from to bytes (s.0 honest)), packets_law past c.1 s.1)
packets_law (said note ∷ past) c s = (tt, packets_law past c s)

pub packets_run_law : PacketsLaw
packets_run_law = of_every_place (λ start past. EachMoment SentAt past) (λ units ready start has past s here. let laws = laws_of past s.world here.holds.sound.stands in packets_law (hist past s.world) laws.serials laws.sent)
