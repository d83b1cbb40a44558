-- The note of a delivery is that of the first row that holds.
use Rattle.std.proofs.Common.{◌≡◌, refl, subst, ◌∙◌, ℕ, ◌&&◌, ◌||◌, not, nat_eq, is_some, Bool, true, false, cond, List, [], length, Option, Some, None, Result, Ok, Err}
use Rattle.async_packet.specs.declared.packet.Header.{Header}
use Rattle.async_packet.specs.Labels.{LabelParts}
use Rattle.async_packet.specs.Packet.{Packet, write_quadlet, write_block, write_response, read_quadlet, read_block, read_quadlet_response, read_block_response, lock, lock_response}
use Rattle.async_packet.specs.Reading.{reading}
use Rattle.async_packet.specs.declared.fault.PacketFault.{PacketFault}
use Rattle.label_table.specs.Judging.{Row, by_generation, by_grammar, by_label, by_response, by_again, by_request, row_of}
use Rattle.label_table.specs.Layer.{Layer, Finding, of_generation, of_grammar, of_label, of_again, of_request, facts_in, facts_of, closed_by, judged_by, judging_step, responded}
use Rattle.label_table.specs.declared.reply.ReplyKind.{ReplyKind}
use Rattle.label_table.specs.Requests.{reply_kind}
use Rattle.bus_memory.specs.Windows.{slot_of}
use Rattle.media_bay.specs.Unsolicited.{is_block}
use Rattle.orb_layout.specs.declared.fault.OrbFault.{OrbFault}
use Rattle.orb_layout.specs.declared.status.StatusBlock.{StatusBlock}
use Rattle.orb_layout.specs.declared.status.StatusKind.{StatusKind}
use Rattle.orb_layout.specs.declared.status.StatusKind.TheVariants as kinds
use Rattle.orb_list.specs.Tickets.{TicketParts}
use Rattle.orb_list.specs.Table.{slot_in, status_at, status_for, status_step as slot_step, waiting}
use Rattle.sbp_journal.specs.declared.cause.Cause.TheVariants as causes
use Rattle.sbp_journal.specs.declared.cause.Judged.{Judged}
use Rattle.sbp_journal.specs.declared.cause.Judged.TheVariants as judgements
use Rattle.sbp_journal.specs.declared.note.Note.TheVariants as notes
use Rattle.sbp_journal.specs.Outgoings.{OutboxState}
use Rattle.sbp_journal.specs.Rows.{Judging, RequestFacts, ignored_as, telling, serving}
use Rattle.initiator_base.specs.declared.fifos.Fifo.{Fifo}
use Rattle.initiator_base.specs.declared.fifos.Fifo.TheVariants as fifos
use Rattle.sbp_initiator.specs.declared.purpose.Purpose.{Purpose}
use Rattle.sbp_initiator.specs.declared.purpose.Running.{Running}
use Rattle.sbp_initiator.specs.declared.state.InitiatorState.{InitiatorState}
use Rattle.orb_list.specs.Lists.{stepped, take_lists}
use Rattle.sbp_initiator.specs.States.{is_orb_of, is_present_orb, status_in}
use Rattle.sbp_initiator.specs.Effects.{Turn, told}
use Rattle.sbp_initiator.specs.Receiving.{address_error, addressed, block_at, block_by, block_step, called, fifo_of, got_step, ignored_step, is_foreign, managed_for, present_for, quadlet_at, receive_step, received, request_step, taken_as}
use Rattle.sbp_initiator.specs.Histories.Judging.{waits_in, is_awaited, is_awaited_by, is_read, facts_at, judging_for, note_of, note_by, LeftBy, JudgingLaw}

-- findings of this node's layer
abbrev found_generation : Finding Purpose
found_generation = of_generation

abbrev found_grammar : Finding Purpose
found_grammar = of_grammar

abbrev found_label : Finding Purpose
found_label = of_label

abbrev found_again : Packet → ℕ → Finding Purpose
found_again p rcode = of_again p rcode

-- what differs
untrue : false ≡ true → ⊥
untrue h = cc

some_kind : {kind : ReplyKind} → Some kind ≡ None → ⊥
some_kind h = cc

grammar_response : by_grammar ≡ by_response → ⊥
grammar_response h = cc

grammar_again : by_grammar ≡ by_again → ⊥
grammar_again h = cc

generation_response : by_generation ≡ by_response → ⊥
generation_response h = cc

generation_again : by_generation ≡ by_again → ⊥
generation_again h = cc

generation_is_none : {p : Packet} → found_generation ≡ of_request p → ⊥
generation_is_none h = cc

grammar_is_none : {p : Packet} → found_grammar ≡ of_request p → ⊥
grammar_is_none h = cc

label_is_none : {p : Packet} → found_label ≡ of_request p → ⊥
label_is_none h = cc

again_is_none : {p q : Packet} {rcode : ℕ} → found_again q rcode ≡ of_request p → ⊥
again_is_none h = cc

-- the rows behind the first one
abbrev rows_behind : RequestFacts → Judging
rows_behind facts =
    cond (facts.of_other_login || facts.to_closed_fifo) (ignored_as causes.Login 7)
    (cond (facts.is_status && facts.is_unsolicited) telling (cond (facts.is_status && not facts.is_read) (ignored_as causes.Grammar 5) (cond (facts.is_status && not facts.is_awaited) (ignored_as causes.Slot 0) serving)))

-- a request that is judged so, with what is left of it
record IsBy (j : Judging) (p : Packet) (bytes : List ℕ) (o : OutboxState) (s : InitiatorState) (r : Judged × Turn) : Type 0 where
  note : r.0 ≡ note_of j
  left : LeftBy j p bytes o s r.1

module _ (p : Packet) (bytes : List ℕ) (o : OutboxState) (s : InitiatorState) where
  -- the first row, of a request that is not the target's
  by_source : (c : Bool) (j : Judging) → IsBy j p bytes o s (addressed p bytes o s) → IsBy (cond c (ignored_as causes.Source 7) j) p bytes o s (cond c (ignored_step causes.Source address_error p bytes (o, s)) (addressed p bytes o s))
  by_source true j h = record { note = refl; left = refl }
  by_source false j h = h

  -- ---- a status block

  abbrev slot_row : Bool → Judging
  slot_row c = cond (not c) (ignored_as causes.Slot 0) serving

  by_managed : (running : Running) (status : ℕ) (c : Bool) → IsBy (slot_row c) p bytes o s (managed_for (cond c (Some running) None) status p bytes o s)
  by_managed running status true = record { note = refl; left = tt }
  by_managed running status false = record { note = refl; left = refl }

  by_operation : (operation : Option Running) (status orb : ℕ) → IsBy (slot_row (is_present_orb orb operation)) p bytes o s (managed_for (present_for orb operation) status p bytes o s)
  by_operation None status orb = record { note = refl; left = refl }
  by_operation (Some running) status orb = by_managed running status (is_orb_of running.managed orb)

  by_waiting : (t : Option TicketParts) (number : ℕ) (block : StatusBlock) (kind : StatusKind) → IsBy (slot_row (is_some t)) p bytes o s (taken_as (stepped (status_at t number s.lists.slots s.lists.memory block) s.lists) kind p bytes o s)
  by_waiting None number block kind = record { note = refl; left = refl }
  by_waiting (Some t) number block kind = record { note = refl; left = tt }

  by_slot : (number : Option ℕ) (block : StatusBlock) (kind : StatusKind) → IsBy (slot_row (waits_in s.lists.slots.slots number)) p bytes o s (taken_as (stepped (status_for number s.lists.slots s.lists.memory block) s.lists) kind p bytes o s)
  by_slot None block kind = record { note = refl; left = refl }
  by_slot (Some number) block kind = by_waiting (waiting (slot_in s.lists.slots.slots number)) number block kind

  by_taking : (block : StatusBlock) (kind : StatusKind) → IsBy (slot_row (waits_in s.lists.slots.slots (slot_of block.orb))) p bytes o s (taken_as (take_lists s.lists block) kind p bytes o s)
  unfolding take_lists slot_step
  by_taking block kind = by_slot (slot_of block.orb) block kind

  by_kind : (kind : StatusKind) (block : StatusBlock) → IsBy (slot_row (is_awaited_by kind block.orb s)) p bytes o s (block_by kind block p bytes o s)
  by_kind (kinds.Management status) block = by_operation s.operation status block.orb
  by_kind kinds.Good block = by_taking block kinds.Good
  by_kind (kinds.Check sense) block = by_taking block (kinds.Check sense)
  by_kind kinds.Dummy block = by_taking block kinds.Dummy
  by_kind kinds.Aborted block = by_taking block kinds.Aborted
  by_kind (kinds.Illegal meaning) block = by_taking block (kinds.Illegal meaning)
  by_kind kinds.Failed block = by_taking block kinds.Failed

  abbrev block_rows : Result StatusBlock OrbFault → Judging
  block_rows r = cond (not (is_read r)) (ignored_as causes.Grammar 5) (slot_row (is_awaited r s))

  by_block : (r : Result StatusBlock OrbFault) → IsBy (block_rows r) p bytes o s (block_step r p bytes o s)
  by_block (Err fault) = record { note = refl; left = refl }
  by_block (Ok block) = by_kind block.kind block

  by_telling : (c : Bool) (r : Result StatusBlock OrbFault) → IsBy (cond c telling (block_rows r)) p bytes o s (cond c (got_step p bytes (told o (notes.Told s.number), called s)) (block_step r p bytes o s))
  by_telling true r = record { note = refl; left = refl }
  by_telling false r = by_block r

-- ---- a request by its kind and its address

module _ (bytes : List ℕ) (o : OutboxState) (s : InitiatorState) where
  abbrev rest_of : Option Fifo → Packet → Judging
  rest_of fifo (write_block header offset payload) = rows_behind (facts_at fifo (record { is_lock = false; is_write = true; is_block = true; offset = offset; count = length payload; payload = payload }) header.source s)
  rest_of fifo (write_quadlet header offset value) = rows_behind (facts_at fifo (record { is_lock = false; is_write = true; is_block = false; offset = offset; count = 4; payload = [] }) header.source s)
  rest_of fifo p = serving

  by_write : (fifo : Option Fifo) (header : Header) (offset : ℕ) (payload : List ℕ) → IsBy (rest_of fifo (write_block header offset payload)) (write_block header offset payload) bytes o s (block_at fifo payload (write_block header offset payload) bytes o s)
  by_write None header offset payload = record { note = refl; left = tt }
  by_write (Some fifos.Closed) header offset payload = record { note = refl; left = refl }
  by_write (Some fifos.Login) header offset payload = by_telling (write_block header offset payload) bytes o s (is_block payload) (status_in payload)
  by_write (Some fifos.Place) header offset payload = by_block (write_block header offset payload) bytes o s (status_in payload)

  by_quadlet : (fifo : Option Fifo) (header : Header) (offset value : ℕ) → IsBy (rest_of fifo (write_quadlet header offset value)) (write_quadlet header offset value) bytes o s (quadlet_at fifo (write_quadlet header offset value) bytes o s)
  by_quadlet None header offset value = record { note = refl; left = tt }
  by_quadlet (Some fifos.Closed) header offset value = record { note = refl; left = refl }
  by_quadlet (Some fifos.Login) header offset value = record { note = refl; left = tt }
  by_quadlet (Some fifos.Place) header offset value = record { note = refl; left = tt }

  by_rows : (p : Packet) → reply_kind p ≡ None → IsBy (judging_for p s) p bytes o s (request_step p bytes o s)
  by_rows (write_quadlet header offset value) h =
      let p = write_quadlet header offset value in
      by_source p bytes o s (is_foreign p s) (rest_of (fifo_of s offset) p) (by_quadlet (fifo_of s offset) header offset value)
  by_rows (write_block header offset payload) h =
      let p = write_block header offset payload in
      by_source p bytes o s (is_foreign p s) (rest_of (fifo_of s offset) p) (by_write (fifo_of s offset) header offset payload)
  by_rows (read_quadlet header offset) h =
      let p = read_quadlet header offset in by_source p bytes o s (is_foreign p s) serving (record { note = refl; left = tt })
  by_rows (read_block header offset asked) h =
      let p = read_block header offset asked in by_source p bytes o s (is_foreign p s) serving (record { note = refl; left = tt })
  by_rows (lock header offset extended payload) h =
      let p = lock header offset extended payload in by_source p bytes o s (is_foreign p s) serving (record { note = refl; left = tt })
  by_rows (write_response header rcode) h = absurd (some_kind h)
  by_rows (read_quadlet_response header rcode value) h = absurd (some_kind h)
  by_rows (read_block_response header rcode payload) h = absurd (some_kind h)
  by_rows (lock_response header rcode extended payload) h = absurd (some_kind h)

-- ---- the rows of the transaction layer

-- what the row that decides says of the facts
awaited : (a b c d e : Bool) → row_of (record { is_current = a; is_for_node = b; is_response = c; is_awaited = d; is_repeated = e }) ≡ by_response → d ≡ true
awaited a b c true e h = refl
awaited false b c false e h = cc
awaited true false c false e h = cc
awaited true true true false e h = cc
awaited true true false false true h = cc
awaited true true false false false h = cc

asks_alone : (a b c d e : Bool) → row_of (record { is_current = a; is_for_node = b; is_response = c; is_awaited = d; is_repeated = e }) ≡ by_request → c ≡ false
asks_alone a b false d e h = refl
asks_alone false b true d e h = cc
asks_alone true false true d e h = cc
asks_alone true true true false e h = cc
asks_alone true true true true e h = cc

is_none : (kind : Option ReplyKind) → is_some kind ≡ false → kind ≡ None
is_none None h = refl
is_none (Some kind) h = cc

-- bytes that are no packet are of another generation or no packet
unread : (a : Bool) (row : Row) → row_of (record { is_current = a; is_for_node = false; is_response = false; is_awaited = false; is_repeated = false }) ≡ row → (row ≡ by_response → ⊥) × (row ≡ by_again → ⊥)
unread true row e = (λ f. grammar_response (e ∙ f), λ f. grammar_again (e ∙ f))
unread false row e = (λ f. generation_response (e ∙ f), λ f. generation_again (e ∙ f))

closed_note : (p : Packet) (c : Option (LabelParts × Option Purpose) × Layer Purpose) (bytes : List ℕ) (o : OutboxState) (s : InitiatorState) → is_some c.0 ≡ true → (received (responded p c) bytes o s).0 ≡ judgements.Got
closed_note p (Some (label, purpose), layer) bytes o s h = refl
closed_note p (None, layer) bytes o s h = absurd (untrue h)

noted_by : (row : Row) (read : Result Packet PacketFault) (generation : ℕ) (bytes : List ℕ) (o : OutboxState) (s : InitiatorState) → row_of (facts_in s.layer generation bytes read) ≡ row → (received (judged_by row s.layer bytes read) bytes o s).0 ≡ note_by row read s
noted_by by_generation read generation bytes o s e = refl
noted_by by_grammar read generation bytes o s e = refl
noted_by by_label read generation bytes o s e = refl
noted_by by_response (Ok p) generation bytes o s e = closed_note p (closed_by (reply_kind p) s.layer p) bytes o s (awaited _ _ _ _ _ e)
noted_by by_again (Ok p) generation bytes o s e = refl
noted_by by_request (Ok p) generation bytes o s e = (by_rows bytes o s p (is_none (reply_kind p) (asks_alone _ _ _ _ _ e))).note
noted_by by_response (Err fault) generation bytes o s e = absurd ((unread (nat_eq generation s.layer.generation) by_response e).0 refl)
noted_by by_again (Err fault) generation bytes o s e = absurd ((unread (nat_eq generation s.layer.generation) by_again e).1 refl)
noted_by by_request (Err fault) generation bytes o s e = refl

-- a response is no request
closed_is_none : (p q : Packet) (c : Option (LabelParts × Option Purpose) × Layer Purpose) → (responded q c).0 ≡ of_request p → ⊥
closed_is_none p q (Some (label, purpose), layer) h = cc
closed_is_none p q (None, layer) h = cc

left_by : (row : Row) (read : Result Packet PacketFault) (generation : ℕ) (bytes : List ℕ) (o : OutboxState) (s : InitiatorState) (p : Packet) → row_of (facts_in s.layer generation bytes read) ≡ row → (judged_by row s.layer bytes read).0 ≡ of_request p → LeftBy (judging_for p s) p bytes o s (received (judged_by row s.layer bytes read) bytes o s).1
left_by by_generation read generation bytes o s p e f = absurd (generation_is_none f)
left_by by_grammar read generation bytes o s p e f = absurd (grammar_is_none f)
left_by by_label read generation bytes o s p e f = absurd (label_is_none f)
left_by by_response (Ok q) generation bytes o s p e f = absurd (closed_is_none p q (closed_by (reply_kind q) s.layer q) f)
left_by by_again (Ok q) generation bytes o s p e f = absurd (again_is_none f)
left_by by_request (Ok q) generation bytes o s p e f =
    let same : q ≡ p = cc in
    subst (λ (x : Packet). LeftBy (judging_for x s) x bytes o s (request_step q bytes o s).1) same (by_rows bytes o s q (is_none (reply_kind q) (asks_alone _ _ _ _ _ e))).left
left_by by_response (Err fault) generation bytes o s p e f = absurd (grammar_is_none f)
left_by by_again (Err fault) generation bytes o s p e f = absurd (grammar_is_none f)
left_by by_request (Err fault) generation bytes o s p e f = absurd (grammar_is_none f)

pub judging_law : JudgingLaw
unfolding receive_step judging_step
judging_law = record {
  noted = λ generation bytes o s. noted_by (row_of (facts_of s.layer generation bytes)) (reading bytes) generation bytes o s refl;
  left = λ generation bytes o s p. left_by (row_of (facts_of s.layer generation bytes)) (reading bytes) generation bytes o s p refl;
}
