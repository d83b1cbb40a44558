-- What a packet brings to an initiator of a world may be taken: it is the packet that is got, with the src that its block has.
use Rattle.sbp_world.proofs.Words.Std.{◌≡◌, refl, sym, ◌∙◌, ap, subst, ℕ, ◌-◌, nat_lt, Bool, true, false, cond, List, [], ◌∷◌, length, Option, Some, None, Result, Ok, Err}
use Rattle.sbp_world.proofs.Words.Wire.{PacketFault, LabelParts, Packet, header_in, lock, lock_response, read_block, read_block_response, read_quadlet, read_quadlet_response, write_block, write_quadlet, write_response, reading, Row, by_again, by_generation, by_grammar, by_label, by_request, by_response, row_of, Finding, Layer, answering_step, closed_by, facts_of, judged_by, judging_step, of_again, of_generation, of_grammar, of_label, of_request, of_response, responded, reply_kind, Sent, found_sent, OutboxState, empty_outbox, Judging, ignored_as, serving, telling, Moment, said, Sending, terms, Judged, Side, judged_note}
use Rattle.sbp_world.proofs.Words.Initiator.{OrbFault, StatusBlock, StatusKind, in_row, kind_of, read_status_block, src_of, whole_length, Purpose, InitiatorState, Turn, receive_step, responded_as, names_place, status_in, LeftBy, judging_for, note_by, note_of}
use Rattle.sbp_world.proofs.Words.Laws.{access_in, packet_in, spelled_by, src_in}
use Rattle.sbp_world.proofs.Words.World.{WorldState, initiator_at, Stands, MayFind, MayPacket, history, MayDeliver, MayHear, MayTake}
use Rattle.sbp_journal.specs.declared.cause.Judged.TheVariants as judgements
use Rattle.sbp_journal.specs.declared.note.Note.TheVariants as notes
use Rattle.sbp_journal.specs.declared.side.Side.TheVariants as sides
use Rattle.sbp_initiator.proofs.Histories.Judging.{judging_law}
use Rattle.sbp_world.proofs.Hosts.Knows.{was_sent}
use Rattle.sbp_world.proofs.Sessions.BlockNotes.{gets_sent as sent_stays}

-- ---- the src of a block is that of its bytes

src_by : (bytes : List ℕ) (kind : Option StatusKind) (block : StatusBlock) → in_row bytes kind ≡ Ok block → src_of bytes ≡ block.src
src_by bytes None block e = cc
src_by bytes (Some kind) block e = cc

pub pick_read : {G : Type 0} (b : Bool) (fault : OrbFault) (rest : Result StatusBlock OrbFault) (block : StatusBlock) → (rest ≡ Ok block → G) → cond b (Err fault) rest ≡ Ok block → G
pick_read true fault rest block g e = cc
pick_read false fault rest block g e = g e

pub src_read : (management : Bool) (bytes : List ℕ) (block : StatusBlock) → read_status_block management bytes ≡ Ok block → src_of bytes ≡ block.src
src_read management bytes block e =
    pick_read (nat_lt (length bytes) 8) _ _ block
    (pick_read (nat_lt (length bytes) (whole_length bytes)) _ _ block
    (pick_read (nat_lt (whole_length bytes) (length bytes)) _ _ block (src_by bytes (kind_of management bytes) block))) e

-- ---- a packet that is found a request

record IsRequest (row : Row) (read : Result Packet PacketFault) (p : Packet) : Type 0 where
  row_is : row ≡ by_request
  read_is : read ≡ Ok p

not_responded : (q p : Packet) (r : Option (LabelParts × Option Purpose) × Layer Purpose) → (responded q r).0 ≡ of_request p → ⊥
not_responded q p (Some (label, purpose), layer) e = cc
not_responded q p (None, layer) e = cc

request_by : (row : Row) (layer : Layer Purpose) (bytes : List ℕ) (read : Result Packet PacketFault) (p : Packet) → (judged_by row layer bytes read).0 ≡ of_request p → IsRequest row read p
request_by by_generation layer bytes read p e = cc
request_by by_grammar layer bytes read p e = cc
request_by by_label layer bytes read p e = cc
request_by by_response layer bytes (Ok q) p e = absurd (not_responded q p (closed_by (reply_kind q) layer q) e)
request_by by_again layer bytes (Ok q) p e = cc
request_by by_request layer bytes (Ok q) p e = record { row_is = refl; read_is = let same : q ≡ p = cc in ap (λ x. Ok x) same }
request_by by_response layer bytes (Err fault) p e = cc
request_by by_again layer bytes (Err fault) p e = cc
request_by by_request layer bytes (Err fault) p e = cc

found_request : (layer : Layer Purpose) (generation : ℕ) (bytes : List ℕ) (p : Packet) → (judging_step layer generation bytes).0 ≡ of_request p → IsRequest (row_of (facts_of layer generation bytes)) (reading bytes) p
unfolding judging_step
found_request layer generation bytes p e = request_by (row_of (facts_of layer generation bytes)) layer bytes (reading bytes) p e

-- ---- an initiator that tells something of it has got it

answered_sides : (r : List ℕ × Layer Purpose) (source : ℕ) (o : OutboxState) (s : InitiatorState) → (responded_as r source o s).0.sides ≡ o.sides
answered_sides (bytes, layer) source o s = refl

judged_got : (j : Judging) (p : Packet) (bytes : List ℕ) (s : InitiatorState) (turn : Turn) (side : Side) → LeftBy j p bytes empty_outbox s turn → turn.0.sides ≡ side ∷ [] → note_of j ≡ judgements.Got
judged_got (ignored_as cause rcode) p bytes s turn side left told =
    let silent : turn.0.sides ≡ [] = ap (λ (t : Turn). t.0.sides) left ∙ answered_sides (answering_step s.layer p bytes rcode []) (header_in p).source empty_outbox s in
    absurd (none (sym silent ∙ told))
  where
    none : [] ≡ side ∷ [] → ⊥
    none e = cc
judged_got telling p bytes s turn side left told = refl
judged_got serving p bytes s turn side left told = refl

pub told_got : (generation : ℕ) (bytes : List ℕ) (s : InitiatorState) (p : Packet) (side : Side) → (judging_step s.layer generation bytes).0 ≡ of_request p → (receive_step generation bytes empty_outbox s).1.0.sides ≡ side ∷ [] → (receive_step generation bytes empty_outbox s).0 ≡ judgements.Got
told_got generation bytes s p side e told =
    let r = found_request s.layer generation bytes p e in
    judging_law.noted generation bytes empty_outbox s
    ∙ ap (λ row. note_by row (reading bytes) s) r.row_is
    ∙ ap (λ read. note_by by_request read s) r.read_is
    ∙ judged_got (judging_for p s) p bytes s (receive_step generation bytes empty_outbox s).1 side (judging_law.left generation bytes empty_outbox s p e) told

-- ---- of a world

module _ {past : List Moment} (w : WorldState) (h : Stands past w) (serial : ℕ) (sent : Sent) (found : found_sent serial w.store.kept ≡ Some sent) where
  abbrev old : InitiatorState
  old = initiator_at w (sent.to - 1)

  abbrev r : Judged × Turn
  r = receive_step sent.generation sent.bytes empty_outbox old

  -- what is got is the packet of the store
  packet_is : (p : Packet) → reading sent.bytes ≡ Ok p → packet_in ((terms (said (notes.Got serial) ∷ history w past)).sent serial) ≡ Some p
  packet_is p read =
      ap (λ (x : ℕ → Option Sending). packet_in (x serial)) (sent_stays ((terms (history w past)).sent serial) serial (terms (history w past)))
      ∙ ap packet_in (was_sent w h serial sent found)
      ∙ ap spelled_by read

  may_take : (p : Packet) (payload : List ℕ) (block : StatusBlock) (side : Side) → src_in (access_in (Some p)) ≡ src_of payload → (judging_step old.layer sent.generation sent.bytes).0 ≡ of_request p → status_in payload ≡ Ok block → r.1.0.sides ≡ side ∷ [] → MayTake (said (judged_note serial r.0) ∷ history w past) block
  may_take p payload block side src e read told =
      let got = told_got sent.generation sent.bytes old p side e told in
      subst (λ j. MayTake (said (judged_note serial j) ∷ history w past) block) (sym got)
      (ap (λ x. src_in (access_in x)) (packet_is p (found_request old.layer sent.generation sent.bytes p e).read_is) ∙ src ∙ src_read (names_place payload) payload block read)

  may_packet : (p : Packet) → (judging_step old.layer sent.generation sent.bytes).0 ≡ of_request p → MayPacket (said (judged_note serial r.0) ∷ history w past) p empty_outbox old r.1
  may_packet (write_block header offset payload) e = λ block u answer read took told. may_take (write_block header offset payload) payload block (sides.Own (notes.Taken old.number u.list u.number block.kind answer)) refl e read told
  may_packet (write_quadlet header offset value) e = tt
  may_packet (read_quadlet header offset) e = tt
  may_packet (read_block header offset asked) e = tt
  may_packet (lock header offset extended payload) e = tt
  may_packet (write_response header rcode) e = tt
  may_packet (read_quadlet_response header rcode value) e = tt
  may_packet (read_block_response header rcode payload) e = tt
  may_packet (lock_response header rcode extended payload) e = tt

  may_find : (f : Finding Purpose) → (judging_step old.layer sent.generation sent.bytes).0 ≡ f → MayFind (said (judged_note serial r.0) ∷ history w past) f empty_outbox old r.1
  may_find of_generation e = tt
  may_find of_grammar e = tt
  may_find of_label e = tt
  may_find (of_response p label purpose) e = tt
  may_find (of_again p rcode) e = tt
  may_find (of_request p) e = may_packet p e

  may_hear : MayHear past serial sent w
  may_hear = may_find (judging_step old.layer sent.generation sent.bytes).0 refl

pub may_deliver : {past : List Moment} (w : WorldState) → Stands past w → (serial : ℕ) (found : Option Sent) → found_sent serial w.store.kept ≡ found → MayDeliver past serial found w
may_deliver w h serial None e = tt
may_deliver w h serial (Some sent) e = λ n. may_hear w h serial sent e
