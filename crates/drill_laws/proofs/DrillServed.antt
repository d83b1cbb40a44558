-- What a turn of a drill may tell: no session gets stuck, and the target answers complete.
use Rattle.std.proofs.Common.{◌≡◌, ◌∙◌, refl, sym, ap, subst, ℕ, ◌+◌, ◌^◌, ◌<◌, is_some, Bool, true, false, List, [], ◌∷◌, ◌++◌, Option, Some, None, arith}
use Rattle.std.specs.List.{AllByRecursion}
use Rattle.async_packet.specs.Canon.{canon}
use Rattle.async_packet.specs.Fields.{rcode_of}
use Rattle.async_packet.specs.Packet.{Packet}
use Rattle.async_packet.specs.Reading.{reading}
use Rattle.label_table.specs.Bodies.{Body, block_read, block_write, quadlet_read, quadlet_write, response_to}
use Rattle.sbp_journal.specs.Addresses.{Access}
use Rattle.sbp_journal.specs.Run.{Moment}
use Rattle.sbp_journal.specs.Transactions.{Kind, Sending, Transaction, asked_as, asked_by, is_same_kind, locking, part_of, reading_block, reading_quadlet, request, writing}
use Rattle.sbp_journal.specs.Wire.{Held, Owed, Terms, arrives, closes, closes_if, free, gets, gets_as, is_news, is_served, judges, rests, terms, waits}
use Rattle.sbp_journal.specs.declared.note.Note.{Note}
use Rattle.sbp_journal.specs.declared.note.Note.TheVariants as notes
use Rattle.sbp_laws.specs.Agents.{Request}
use Rattle.sbp_laws.specs.JudgementLaw.{answer_packet}
use Rattle.sbp_laws.specs.NoteKinds.{is_operation_note, of_kind}
use Rattle.sbp_laws.specs.Packets.{access_in, access_in_bytes, id_of, spelled_by}
use Rattle.sbp_laws.specs.SentRequests.{ArePackets, IsAsked}
use Rattle.sbp_laws.specs.Turns.{sends_of}
use Rattle.drill_laws.proofs.DrillRingReplies.{reply_complete}
use Rattle.drill_laws.proofs.DrillTurns.{AreFine, none_of}
use Rattle.drill_laws.proofs.DrillWire.{Young}

-- ---- what a turn may tell
abbrev pub IsFree : Note → Type 0
IsFree (notes.Stuck i) = ⊥
IsFree note = Unit {0}

abbrev pub FromTarget : Note → Type 0
FromTarget (notes.Sent s generation from to bytes) = from ≡ 0
FromTarget note = Unit {0}

abbrev pub AreFromTarget : List Note → Type 0
AreFromTarget rest = AllByRecursion FromTarget rest

-- the first packet is complete, if it is the target's; the others are the target's
abbrev pub AnswersWell : List Note → Type 0
AnswersWell [] = Unit {0}
AnswersWell (notes.Sent s generation from to bytes ∷ rest) = (from ≡ 0 → rcode_of bytes ≡ 0) × AreFromTarget rest
AnswersWell (note ∷ rest) = AnswersWell rest

abbrev pub AnswersDue : Option Owed → List Note → Type 0
AnswersDue None rest = AreFromTarget rest
AnswersDue (Some owed) rest = AnswersWell rest

pub record Tells (past : List Moment) (rest : List Note) : Type 0 where
  pub free : AllByRecursion IsFree rest
  pub answers : AnswersDue (terms past).owes rest
  pub fine : AreFine rest

-- by its packets
pub from_sends : (rest : List Note) → AreFromTarget (sends_of rest) → AreFromTarget rest
from_sends [] all = tt
from_sends (notes.Sent s generation from to bytes ∷ rest) all = (all.0, from_sends rest all.1)
from_sends (_ ∷ rest) all = (tt, from_sends rest all)

pub well_sends : (rest : List Note) → AnswersWell (sends_of rest) → AnswersWell rest
well_sends [] all = tt
well_sends (notes.Sent s generation from to bytes ∷ rest) all = (all.0, from_sends rest all.1)
well_sends (_ ∷ rest) all = well_sends rest all

pub none_due : (owes : Option Owed) (rest : List Note) → sends_of rest ≡ [] → AnswersDue owes rest
none_due None rest e = from_sends rest (subst AreFromTarget (sym e) tt)
none_due (Some owed) rest e = well_sends rest (subst AnswersWell (sym e) tt)

-- by its operations
free_note : (note : Note) → is_operation_note note ≡ false → IsFree note
free_note (notes.Stuck i) e = absurd (cc e)
free_note _ e = tt

free_all : (rest : List Note) → AllByRecursion (λ note. is_operation_note note ≡ false) rest → AllByRecursion IsFree rest
free_all [] all = tt
free_all (note ∷ rest) all = (free_note note all.0, free_all rest all.1)

pub none_stuck : (rest : List Note) → of_kind is_operation_note rest ≡ [] → AllByRecursion IsFree rest
none_stuck rest e = free_all rest (none_of is_operation_note rest e)

-- ---- the target's own requests
asked_from : (is_untold : Bool) (body : Body) (wire : Terms) (node : ℕ) (want : Request) (serial generation from to : ℕ) (bytes : List ℕ) → IsAsked is_untold body wire node want serial generation from to bytes → from ≡ node
asked_from true (block_write offset payload) wire node want serial generation from to bytes h = h.is.sender
asked_from true (quadlet_write offset value) wire node want serial generation from to bytes h = h.sender
asked_from true (quadlet_read offset) wire node want serial generation from to bytes h = h.sender
asked_from true (block_read offset size) wire node want serial generation from to bytes h = h.sender
asked_from false body wire node want serial generation from to bytes h = h.sender

pub packets_from : (past : List Moment) (sent : List Note) (wants : List Request) → ArePackets past 0 sent wants → AreFromTarget sent
packets_from past [] [] h = tt
packets_from past (notes.Sent serial generation from to bytes ∷ rest) (want ∷ wants) h = (asked_from want.is_untold want.body (terms past) 0 want serial generation from to bytes h.0, packets_from _ rest wants h.1)
packets_from past [] (want ∷ wants) h = absurd h
packets_from past (notes.Sent serial generation from to bytes ∷ rest) [] h = absurd h
packets_from past (_ ∷ rest) [] h = absurd h
packets_from past (_ ∷ rest) (want ∷ wants) h = absurd h

-- ---- what is owed
pub got_owes : (q : Sending) (s : ℕ) (t : Terms) (label : ℕ) (kind : Kind) → part_of q.bytes ≡ request label kind → (gets (Some q) s t).owes ≡ Some (record { serial = s; cause = None })
unfolding asked_by
got_owes q s t label kind e = ap (λ part. (gets_as part s q (is_served s (is_news s (arrives s t)))).owes) e ∙ ap (λ part. (judges (asked_as part q) None s q (is_served s (is_news s (arrives s t)))).owes) e

pub packet_of : (bytes : List ℕ) (access : Access) → access_in_bytes bytes ≡ Some access → is_some (spelled_by (reading bytes)) ≡ true
packet_of bytes access e = by (spelled_by (reading bytes)) e
  where
    by : (found : Option Packet) → access_in found ≡ Some access → is_some found ≡ true
    by None e = absurd (let no : None ≡ Some access = e in cc no)
    by (Some packet) e = refl

pub id_small : (t : Terms) (node : ℕ) → Young t → node < 5 → id_of t node < 2 ^ 16
id_small t node y small = let is : id_of t node ≡ 65472 + node = y.ids (t.generation node) node in omega (arith, is, small)

-- one answer
pub host_answer : (wire : Terms) (q : Sending) (rcode : ℕ) (given : List ℕ) (packet : Option Packet) → (q.to ≡ 0 → ⊥) → AnswersWell (answer_packet wire q rcode given packet)
host_answer wire q rcode given None other = tt
host_answer wire q rcode given (Some packet) other = ((λ to. absurd (other to)), tt)

pub target_answer : (wire : Terms) (q : Sending) (rcode : ℕ) (given : List ℕ) (packet : Option Packet) (more : List Note) → rcode ≡ 0 → is_some packet ≡ true → id_of wire q.to < 2 ^ 16 → AreFromTarget more → AnswersWell (answer_packet wire q rcode given packet ++ more)
target_answer wire q rcode given None more zeros some small from = absurd (let no : false ≡ true = some in cc no)
target_answer wire q rcode given (Some packet) more zeros some small from =
    ((λ e. ap (λ r. rcode_of (canon (response_to (id_of wire q.to) packet r given))) zeros ∙ reply_complete (id_of wire q.to) packet given small), from)

pub closes_owes : (held : Held) (u : Transaction) (kind : Kind) (rcode : ℕ) (t : Terms) → (closes held u kind rcode t).owes ≡ t.owes
closes_owes free u kind rcode t = refl
closes_owes rests u kind rcode t = refl
closes_owes (waits other s) u kind rcode t = by (is_same_kind other kind)
  where
    by : (b : Bool) → (closes_if b s u rcode t).owes ≡ t.owes
    by true = refl
    by false = refl

pub same_writing : (kind : Kind) → is_same_kind writing kind ≡ true → kind ≡ writing
same_writing writing e = refl
same_writing reading_quadlet e = absurd (cc e)
same_writing reading_block e = absurd (cc e)
same_writing locking e = absurd (cc e)
