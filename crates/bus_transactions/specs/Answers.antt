-- Answers: a request that is judged by a row after the first two has exactly one response, which is the next packet that is sent, before any
-- other note of the bus: from its receiver to its sender, in its generation, under its label and of its kind. One that is ignored has the
-- rcode of its cause, and one that comes again that of the first time. A response where none is owed is injected. So a response that the
-- store has, for a label that waits, answers the request that waits there, where neither node has injected packets.
use Rattle.std.specs.Prelude.{◌≡◌, ℕ, false, true, List, [], ◌∷◌, Option, Some, None}
use Rattle.async_packet.specs.Fields.{rcode_of}
use Rattle.packet_store.specs.declared.sent.Kept.{Kept}
use Rattle.packet_store.specs.Kept.{found}
use Rattle.sbp_journal.specs.Run.{Moment, asked, said}
use Rattle.sbp_journal.specs.Transactions.{Kind, request, response, part_of, Sending, between}
use Rattle.sbp_journal.specs.Wire.{Terms, terms, waits, Owed}
use Rattle.sbp_journal.specs.declared.note.Note.TheVariants as notes
use Rattle.bus_transactions.specs.Wire.{Wire, as_sending, is_stated}

-- a packet is the response to a request
pub record IsResponseTo (reply asking : Sending) : Type 0 where
  pub label : ℕ
  pub kind : Kind
  pub asks : part_of asking.bytes ≡ request label kind
  pub replies : part_of reply.bytes ≡ response label kind
  pub generation : reply.generation ≡ asking.generation
  pub from : reply.from ≡ asking.to
  pub to : reply.to ≡ asking.from

-- and the one that is owed
pub record IsOwed (t : Terms) (owed : Owed) (reply : Sending) : Type 0 where
  pub asking : Sending
  pub sent : t.sent owed.serial ≡ Some asking
  pub responds : IsResponseTo reply asking
  pub stated : is_stated owed.cause (t.given (between asking asking.from asking.to responds.label)) (rcode_of reply.bytes) ≡ true

abbrev pub IsSentFor : Option Owed → Terms → Sending → Type 0
IsSentFor (Some owed) t reply = IsOwed t owed reply
IsSentFor None t reply = (label : ℕ) (kind : Kind) → part_of reply.bytes ≡ response label kind → reply.injected ≡ true

abbrev pub NoneOwed : Terms → Type 0
NoneOwed t = t.owes ≡ None

abbrev pub AreAnswered : List Moment → Type 0
AreAnswered [] = Unit {0}
AreAnswered (said (notes.Sent s generation from to bytes) ∷ past) = IsSentFor (terms past).owes (terms past) (record { generation = generation; from = from; to = to; bytes = bytes; injected = (terms past).injected s }) × AreAnswered past
AreAnswered (said (notes.Injected s) ∷ past) = NoneOwed (terms past) × AreAnswered past
AreAnswered (said (notes.Got s) ∷ past) = NoneOwed (terms past) × AreAnswered past
AreAnswered (said (notes.Ignored s cause) ∷ past) = NoneOwed (terms past) × AreAnswered past
AreAnswered (said (notes.Lost s) ∷ past) = NoneOwed (terms past) × AreAnswered past
AreAnswered (said (notes.TimedOut s) ∷ past) = NoneOwed (terms past) × AreAnswered past
AreAnswered (said (notes.Reset generation) ∷ past) = NoneOwed (terms past) × AreAnswered past
AreAnswered (said (notes.Seen node generation) ∷ past) = NoneOwed (terms past) × AreAnswered past
AreAnswered (said note ∷ past) = AreAnswered past
AreAnswered (asked line event ∷ past) = NoneOwed (terms past) × AreAnswered past

-- a response that the store has
pub record AnswersWaiting (t : Terms) (s r : ℕ) (kind waited : Kind) : Type 0 where
  pub answers : t.answers s ≡ Some r
  pub kind_is : kind ≡ waited

abbrev pub WaitingLaw : Wire → Type 0
WaitingLaw w = (s r label : ℕ) (kind waited : Kind) (kept : Kept) → found s w.store.kept ≡ Some kept → part_of kept.sent.bytes ≡ response label kind → (terms w.past).injects kept.sent.from ≡ false → (terms w.past).injects kept.sent.to ≡ false → (terms w.past).held (between (as_sending kept.sent) kept.sent.to kept.sent.from label) ≡ waits waited r → AnswersWaiting (terms w.past) s r kind waited

pub record AnswerLaw (w : Wire) : Type 0 where
  pub answered : AreAnswered w.past
  pub waiting : WaitingLaw w
