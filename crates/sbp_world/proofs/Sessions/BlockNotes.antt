-- What notes and packets leave of the writes of a history: whichever packet of the target a history has, where it writes, it writes a block.
use Rattle.sbp_world.proofs.Words.Std.{◌≡◌, ◌∙◌, refl, sym, ap, subst, ℕ, suc, nat_eq, Bool, true, false, cond, List, [], ◌∷◌, Option, Some, None}
use Rattle.sbp_world.proofs.Words.Wire.{judged_note, Moment, asked, said, Kind, Part, Sending, Transaction, part_of, request, response, Held, Terms, arrives, closes, closes_if, free, gets, gets_as, ignores, ignores_that, is_news, is_served, judges, judges_if, noted, opened, rests, terms, times_out, waits, Cause, Judged, Event, Note}
use Rattle.sbp_world.proofs.Words.Laws.{access_in_bytes, packet_in, access_in, receiver_in}
use Rattle.sbp_world.proofs.Words.World.{AreBlocks, IsBlockWrite, IsTargetBlock, SentBlocks}
use Rattle.sbp_world.proofs.Hosts.Layered.{is_tame}
use Rattle.sbp_journal.specs.Transactions.{no_packet}
use Rattle.sbp_journal.specs.declared.cause.Cause.TheVariants as causes
use Rattle.sbp_journal.specs.declared.cause.Judged.TheVariants as judgements
use Rattle.sbp_journal.specs.declared.event.Event.TheVariants as events
use Rattle.sbp_journal.specs.declared.note.Note.TheVariants as notes
use Rattle.sbp_laws.specs.Hosts.{is_serial}
use Rattle.sbp_world.proofs.Common.{untrue, none_is}
use Rattle.sbp_world.proofs.Hosts.Held.{sends_sent}

-- ---- which packets were sent, of a note that sends none

pub judges_sent : (began : Option Transaction) (cause : Option Cause) (s : ℕ) (packet : Sending) (t : Terms) → (judges began cause s packet t).sent ≡ t.sent
judges_sent None cause s packet t = refl
judges_sent (Some u) cause s packet t = refl

pub closes_if_sent : (b : Bool) (s : ℕ) (u : Transaction) (rcode : ℕ) (t : Terms) → (closes_if b s u rcode t).sent ≡ t.sent
closes_if_sent true s u rcode t = refl
closes_if_sent false s u rcode t = refl

pub closes_sent : (held : Held) (u : Transaction) (kind : Kind) (rcode : ℕ) (t : Terms) → (closes held u kind rcode t).sent ≡ t.sent
closes_sent (waits kind s) u other rcode t = closes_if_sent _ s u rcode t
closes_sent free u other rcode t = refl
closes_sent rests u other rcode t = refl

pub part_sent : (part : Part) (s : ℕ) (packet : Sending) (t : Terms) → (gets_as part s packet t).sent ≡ t.sent
part_sent (request label kind) s packet t = judges_sent _ None s packet t
part_sent (response label kind) s packet t = closes_sent _ _ kind _ t
part_sent no_packet s packet t = refl

pub gets_sent : (found : Option Sending) (s : ℕ) (t : Terms) → (gets found s t).sent ≡ t.sent
gets_sent None s t = refl
gets_sent (Some packet) s t = part_sent (part_of packet.bytes) s packet (is_served s (is_news s (arrives s t)))

judges_if_sent : (b : Bool) (began : Option Transaction) (s : ℕ) (packet : Sending) (t : Terms) → (judges_if b began s packet t).sent ≡ t.sent
judges_if_sent true began s packet t = judges_sent began (Some causes.Grammar) s packet t
judges_if_sent false began s packet t = refl

ignores_sent : (cause : Cause) (s : ℕ) (packet : Sending) (t : Terms) → (ignores cause s packet t).sent ≡ t.sent
ignores_sent causes.Generation s packet t = refl
ignores_sent causes.Grammar s packet t = judges_if_sent _ _ s packet _
ignores_sent causes.Label s packet t = refl
ignores_sent causes.Again s packet t = judges_sent _ (Some causes.Again) s packet t
ignores_sent causes.Source s packet t = judges_sent _ (Some causes.Source) s packet _
ignores_sent causes.Login s packet t = judges_sent _ (Some causes.Login) s packet _
ignores_sent causes.Slot s packet t = judges_sent _ (Some causes.Slot) s packet _

that_sent : (found : Option Sending) (cause : Cause) (s : ℕ) (t : Terms) → (ignores_that found cause s t).sent ≡ t.sent
that_sent None cause s t = refl
that_sent (Some packet) cause s t = ignores_sent cause s packet _

late_sent : (begun : Option Transaction) (t : Terms) → (times_out begun t).sent ≡ t.sent
late_sent None t = refl
late_sent (Some u) t = refl

-- a note is of a packet that is sent, or it is another
data NoteAs (note : Note) : Type 0 where
  as_sent : (serial generation from to : ℕ) (bytes : List ℕ) → note ≡ notes.Sent serial generation from to bytes → NoteAs note
  as_other : ((t : Terms) → (noted note t).sent ≡ t.sent) → NoteAs note

note_as : (note : Note) → NoteAs note
note_as (notes.Sent serial generation from to bytes) = as_sent serial generation from to bytes refl
note_as (notes.Got serial) = as_other (λ t. gets_sent (t.sent serial) serial t)
note_as (notes.Ignored serial cause) = as_other (λ t. that_sent (t.sent serial) cause serial t)
note_as (notes.TimedOut serial) = as_other (λ t. late_sent _ t)
note_as _ = as_other (λ t. refl)

-- ---- a packet that is sent

pub opened_sent : (event : Event) (t : Terms) → (opened event t).sent ≡ t.sent
opened_sent (events.Reset physical) t = refl
opened_sent (events.Repeat s) t = refl
opened_sent _ t = refl

-- ---- each packet of the target is one of a block

abbrev Claim : Sending → Type 0
Claim q = q.from ≡ 0 → IsBlockWrite (access_in_bytes q.bytes)

module _ (t : Terms) (serial : ℕ) (q : Sending) (before : t.sent serial ≡ Some q → Claim q) where
  found_block : (at generation from to : ℕ) (bytes : List ℕ) (b : Bool) → IsTargetBlock (notes.Sent at generation from to bytes) → cond b (Some (record { generation = generation; from = from; to = to; bytes = bytes; injected = t.injected at })) (t.sent serial) ≡ Some q → Claim q
  found_block at generation from to bytes true f g =
      let same : record { generation = generation; from = from; to = to; bytes = bytes; injected = t.injected at } ≡ q = cc in
      subst Claim same f
  found_block at generation from to bytes false f g = before g

  note_block : (note : Note) → NoteAs note → IsTargetBlock note → (noted note t).sent serial ≡ Some q → Claim q
  note_block note (as_sent at generation from to bytes is) f e =
      let packet : Sending = record { generation = generation; from = from; to = to; bytes = bytes; injected = t.injected at } in
      found_block at generation from to bytes (nat_eq serial at) (subst IsTargetBlock is f)
      (sym (ap (λ (g : ℕ → Option Sending). g serial) (ap (λ (n : Note). (noted n t).sent) is ∙ sends_sent at packet t)) ∙ e)
  note_block note (as_other same) f e = before (sym (ap (λ (g : ℕ → Option Sending). g serial) (same t)) ∙ e)

pub block_sent : (ms : List Moment) → SentBlocks ms → (serial : ℕ) (q : Sending) → (terms ms).sent serial ≡ Some q → Claim q
block_sent [] h serial q e = none_is q e
block_sent (asked line event ∷ ms) h serial q e = block_sent ms h serial q (sym (ap (λ (f : ℕ → Option Sending). f serial) (opened_sent event (terms ms))) ∙ e)
block_sent (said note ∷ ms) h serial q e = note_block (terms ms) serial q (block_sent ms h.1 serial q) note (note_as note) h.0 e

-- ---- a moment more

abbrev pub is_plain : Note → Bool
is_plain (notes.Sent serial generation from to bytes) = false
is_plain (notes.Got serial) = false
is_plain _ = true

pub tame_plain : (note : Note) → is_tame note ≡ true → is_plain note ≡ true
tame_plain (notes.Sent serial generation from to bytes) e = untrue e
tame_plain (notes.Got serial) e = untrue e
tame_plain _ e = refl

pub plain_on : (note : Note) (ms : List Moment) → is_plain note ≡ true → AreBlocks ms → AreBlocks (said note ∷ ms)
plain_on (notes.Sent serial generation from to bytes) ms e h = untrue e
plain_on (notes.Got serial) ms e h = untrue e
plain_on _ ms e h = record { sent = (tt, h.sent); got = λ i. h.got i }

pub sent_on : (serial generation from to : ℕ) (bytes : List ℕ) (ms : List Moment) → (from ≡ 0 → IsBlockWrite (access_in_bytes bytes)) → AreBlocks ms → AreBlocks (said (notes.Sent serial generation from to bytes) ∷ ms)
sent_on serial generation from to bytes ms f h = record { sent = (f, h.sent); got = λ i. h.got i }

-- how a packet was judged: where it was got, it was no write of a quadlet, or not to an initiator
abbrev pub IfGot : Judged → Sending → Type 0
IfGot judgements.Got q = (i : ℕ) → is_serial (Some q.to) (suc i) ≡ true → IsBlockWrite (access_in_bytes q.bytes)
IfGot (judgements.Ignored cause) q = Unit {0}

pub judged_on : (serial : ℕ) (q : Sending) (ms : List Moment) (judged : Judged) → (terms ms).sent serial ≡ Some q → IfGot judged q → AreBlocks ms → AreBlocks (said (judged_note serial judged) ∷ ms)
judged_on serial q ms judgements.Got e f h = record {
  sent = (tt, h.sent);
  got = λ i. (
    λ to. subst (λ (x : Option Sending). IsBlockWrite (access_in (packet_in x))) (sym e) (f i (sym (ap (λ (x : Option Sending). is_serial (receiver_in x) (suc i)) e) ∙ to)),
    h.got i,
  );
}
judged_on serial q ms (judgements.Ignored cause) e f h = record { sent = (tt, h.sent); got = λ i. h.got i }
