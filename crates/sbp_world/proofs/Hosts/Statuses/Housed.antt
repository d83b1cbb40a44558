-- The lines of a run carry on that the run terms of the lists of an initiator are the rows of its slots.
use Rattle.sbp_world.proofs.Words.Std.{◌≡◌, refl, sym, ◌∙◌, ap, subst, ℕ, ◌==◌, true, false, List, [], ◌∷◌, Option, Some, Ok}
use Rattle.sbp_world.proofs.Words.Wire.{LabelParts, Packet, lock, lock_response, read_block, read_block_response, read_quadlet, read_quadlet_response, write_block, write_quadlet, write_response, reading, Finding, judging_step, of_again, of_generation, of_grammar, of_label, of_request, of_response, OutboxState, empty_outbox, Moment, said, Sending, terms, Judged, Event, Note, Side, judged_note}
use Rattle.sbp_world.proofs.Words.Initiator.{StatusBlock, src_of, names_place, Purpose, InitiatorState, Turn, expire_step, receive_step, status_in, lets_expire, receives}
use Rattle.sbp_world.proofs.Words.Laws.{src_in, access_in, packet_in, spelled_by}
use Rattle.sbp_world.proofs.Words.World.{Listed, MayFind, MayPacket, behind, AreRows, IsNoAbort, MayTake, is_beside, IsHost}
use Rattle.sbp_journal.specs.declared.cause.Judged.TheVariants as judgements
use Rattle.sbp_journal.specs.declared.event.Action.TheVariants as actions
use Rattle.sbp_journal.specs.declared.event.Event.TheVariants as events
use Rattle.sbp_journal.specs.declared.note.Note.TheVariants as notes
use Rattle.sbp_journal.specs.declared.operation.Operation.TheVariants as operations
use Rattle.sbp_journal.specs.declared.side.Side.TheVariants as sides
use Rattle.sbp_world.proofs.Hosts.Answering.{request_of}
use Rattle.sbp_world.proofs.Hosts.Beside.{beside_rests}
use Rattle.sbp_world.proofs.Hosts.Carries.{IsNoAct, Tells, is_apart}
use Rattle.sbp_world.proofs.Hosts.Hears.{expire_listed, receive_listed}
use Rattle.sbp_world.proofs.Hosts.Liners.{host_listed, number_call, silent}
use Rattle.sbp_world.proofs.Hosts.Passes.{judged_apart}
use Rattle.sbp_world.proofs.Hosts.Shown.{IsHeard}
use Rattle.sbp_world.proofs.Hosts.Statuses.Blocks.{is_read_by}
use Rattle.sbp_world.proofs.Hosts.Statuses.Hearing.{ignored_silent}
use Rattle.sbp_world.proofs.Sessions.BlockNotes.{gets_sent as sent_stays}

-- ---- notes of others

pub beside_of : (i : ℕ) (note : Note) → is_apart i note ≡ true → is_beside i note ≡ true
beside_of i (notes.Append j n k cdb buffer) e = e
beside_of i (notes.Low j n k) e = e
beside_of i (notes.Linked j n k) e = e
beside_of i (notes.Taken j n k status answer) e = e
beside_of i (notes.Drop j n) e = e
beside_of i (notes.Op j operations.Abort word) e = e
beside_of i (notes.Sent serial generation from to bytes) e = e
beside_of i (notes.Seen node generation) e = e
beside_of i note e = refl

pub noted_on : (past : List Moment) (i : ℕ) (s : InitiatorState) (note : Note) → is_apart i note ≡ true → IsHost past i s → IsHost (said note ∷ past) i s
noted_on past i s note e h = record { number = h.number; rows = beside_rests past i s.lists.slots h.rows note (beside_of i note e); pin = h.pin }

pub no_abort : (i : ℕ) (event : Option Event) → IsNoAct i event → IsNoAbort i event
no_abort i (Some (events.Act j (actions.Abort k))) n = n
no_abort i event n = tt

pub listed_tells : (past : List Moment) (i : ℕ) (t : Turn) → t.1.number ≡ i → Listed past t → Tells IsHost past i t
listed_tells past i t n l = record {
  own = record { number = n; rows = subst (λ j. AreRows (behind t.0.sides past) j t.1.lists.slots) n l.rows; pin = l.pin };
  others = λ j x e k. record { number = k.number; rows = l.beside j x.lists.slots (ap (λ m. j == m) n ∙ e) k.rows; pin = k.pin };
}

-- ---- a delivery

-- the packet that is got last is the one that is heard
pub got_access : (past : List Moment) (i serial generation : ℕ) (bytes : List ℕ) → IsHeard past i serial generation bytes → access_in (packet_in ((terms (said (notes.Got serial) ∷ past)).sent serial)) ≡ access_in (spelled_by (reading bytes))
got_access past i serial generation bytes h =
    ap (λ (x : ℕ → Option Sending). access_in (packet_in (x serial))) (sent_stays ((terms past).sent serial) serial (terms past))
    ∙ (ap (λ (x : Option Sending). access_in (packet_in x)) h.sent
    ∙ ap (λ (bs : List ℕ). access_in (spelled_by (reading bs))) h.bytes_are)

module _ (past : List Moment) (i serial generation : ℕ) (bytes : List ℕ) (s : InitiatorState) (heard : IsHeard past i serial generation bytes) where
  abbrev r : Judged × Turn
  r = receive_step generation bytes empty_outbox s

  abbrev now : List Moment
  now = said (judged_note serial r.0) ∷ past

  may_take : (p : Packet) (payload : List ℕ) (block : StatusBlock) (side : Side) → src_in (access_in (Some p)) ≡ src_of payload → (judging_step s.layer generation bytes).0 ≡ of_request p → status_in payload ≡ Ok block → r.1.0.sides ≡ side ∷ [] → (judged : Judged) → r.0 ≡ judged → MayTake (said (judged_note serial judged) ∷ past) block
  may_take p payload block side src e read told (judgements.Ignored cause) j = absurd (none (sym (ignored_silent s generation bytes cause j) ∙ told))
    where
      none : [] ≡ side ∷ [] → ⊥
      none e = cc
  may_take p payload block side src e read told judgements.Got j =
      ap src_in (got_access past i serial generation bytes heard)
      ∙ (ap (λ x. src_in (access_in (spelled_by x))) (request_of s.layer generation bytes p e).read
      ∙ (src ∙ (is_read_by (names_place payload) payload block read).src))

  may_packet : (p : Packet) → (judging_step s.layer generation bytes).0 ≡ of_request p → MayPacket now p empty_outbox s r.1
  may_packet (write_block header offset payload) e = λ block u answer read took told. may_take (write_block header offset payload) payload block (sides.Own (notes.Taken s.number u.list u.number block.kind answer)) refl e read told r.0 refl
  may_packet (write_quadlet header offset value) e = tt
  may_packet (read_quadlet header offset) e = tt
  may_packet (read_block header offset count) e = tt
  may_packet (lock header offset extended payload) e = tt
  may_packet (write_response header rcode) e = tt
  may_packet (read_quadlet_response header rcode value) e = tt
  may_packet (read_block_response header rcode payload) e = tt
  may_packet (lock_response header rcode extended payload) e = tt

  may_find : (f : Finding Purpose) → (judging_step s.layer generation bytes).0 ≡ f → MayFind now f empty_outbox s r.1
  may_find of_generation e = tt
  may_find of_grammar e = tt
  may_find of_label e = tt
  may_find (of_response p label purpose) e = tt
  may_find (of_again p rcode) e = tt
  may_find (of_request p) e = may_packet p e

  pub hears_on : IsHost past i s → Tells IsHost now i r.1
  hears_on h =
      let k = noted_on past i s (judged_note serial r.0) (judged_apart serial r.0 i) h in
      listed_tells now i r.1 (number_call (receives generation bytes) (empty_outbox, s) tt ∙ h.number)
      (receive_listed now generation bytes empty_outbox s (may_find (judging_step s.layer generation bytes).0 refl) (host_listed now i s k))

-- ---- a time-out and a sight

pub expires_on : (past : List Moment) (i : ℕ) (s : InitiatorState) (label : LabelParts) → IsHost past i s → Tells IsHost past i (expire_step label empty_outbox s).1
expires_on past i s label h =
    listed_tells past i (expire_step label empty_outbox s).1 (number_call (lets_expire label) (empty_outbox, s) tt ∙ h.number) (expire_listed past label empty_outbox s (host_listed past i s h))

pub stale_on : (past : List Moment) (i : ℕ) (s : InitiatorState) (label : LabelParts) → (expire_step label empty_outbox s).0 ≡ false → IsHost past i s → IsHost past i (expire_step label empty_outbox s).1.1
stale_on past i s label e h =
    subst (λ (o : OutboxState). IsHost (behind o.sides past) i (expire_step label empty_outbox s).1.1) (silent past 0 0 label s e) (expires_on past i s label h).own
