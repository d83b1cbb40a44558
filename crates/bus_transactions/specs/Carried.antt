-- What a wire that loses nothing carries (IEEE 1394-1995, transaction layer). A request under way of the latest generation has its packet in
-- flight, or is the one that its receiver answers next, or a response in flight closes it; so none is under way where nothing is in flight
-- and nothing is to be answered. And no label rests. Repeats may put several such packets in flight.
use Rattle.std.specs.Prelude.{◌≡◌, ℕ, false, List, [], ◌∷◌, Some, None}
use Rattle.sbp_journal.specs.Run.{Moment, said}
use Rattle.sbp_journal.specs.Transactions.{Kind, response, part_of, Transaction, Sending, between}
use Rattle.sbp_journal.specs.Wire.{Terms, terms, in_flight, waits, rests, Owed}
use Rattle.sbp_journal.specs.declared.cause.Cause.TheVariants as causes
use Rattle.sbp_journal.specs.declared.note.Note.TheVariants as notes
use Rattle.bus_transactions.specs.Wire.{Wire}

-- ---- what carries a request
-- a response of a node's own that closes a transaction which waits for this kind
pub record IsReplyFor (t : Terms) (u : Transaction) (kind : Kind) (s : ℕ) : Type 0 where
  pub packet : Sending
  pub sent : t.sent s ≡ Some packet
  pub honest : packet.injected ≡ false
  pub part : part_of packet.bytes ≡ response u.label kind
  pub answers : between packet packet.to packet.from u.label ≡ u

-- the request of a transaction is in flight, is answered next, or has such a response in flight
pub data IsCarried (t : Terms) (u : Transaction) (kind : Kind) (serial : ℕ) : Type 0 where
  asks : t.flight serial ≡ in_flight → IsCarried t u kind serial
  owed : (o : Owed) → t.owes ≡ Some o → o.serial ≡ serial → IsCarried t u kind serial
  replies : (s : ℕ) → t.flight s ≡ in_flight → IsReplyFor t u kind s → IsCarried t u kind serial

-- of every node's requests of the latest generation
abbrev pub AreCarried : Terms → Type 0
AreCarried t = (u : Transaction) (kind : Kind) (serial : ℕ) → u.generation ≡ t.bus → t.held u ≡ waits kind serial → IsCarried t u kind serial

-- no request of the latest generation is under way
abbrev pub NoneWaits : Terms → Type 0
NoneWaits t = (u : Transaction) (kind : Kind) (serial : ℕ) → u.generation ≡ t.bus → t.held u ≡ waits kind serial → ⊥

-- no label of the latest generation rests
abbrev pub NoneRests : Terms → Type 0
NoneRests t = (u : Transaction) → u.generation ≡ t.bus → t.held u ≡ rests → ⊥

-- no packet is in flight
abbrev pub NoneFlies : Terms → Type 0
NoneFlies t = (s : ℕ) → t.flight s ≡ in_flight → ⊥

-- ---- without a loss
-- a packet that is not of the latest generation
abbrev pub IsOfOther : Terms → ℕ → Type 0
IsOfOther t s = (packet : Sending) → t.sent s ≡ Some packet → packet.generation ≡ t.bus → ⊥

-- Since the latest reset no packet was lost, no transaction timed out, nothing was injected, and each packet that was ignored for its
-- generation is such, with what stood before that.
abbrev pub AreKeptBy : (ℕ → List Moment → Type 0) → List Moment → Type 0
AreKeptBy Other [] = Unit {0}
AreKeptBy Other (said (notes.Reset generation) ∷ past) = Unit {0}
AreKeptBy Other (said (notes.Lost s) ∷ past) = ⊥
AreKeptBy Other (said (notes.TimedOut s) ∷ past) = ⊥
AreKeptBy Other (said (notes.Injected s) ∷ past) = ⊥
AreKeptBy Other (said (notes.Ignored s causes.Generation) ∷ past) = Other s past × AreKeptBy Other past
AreKeptBy Other (_ ∷ past) = AreKeptBy Other past

-- no packet of the latest generation was ignored for its generation: by the terms before each such note
abbrev pub AreKept : List Moment → Type 0
AreKept = AreKeptBy (λ s before. IsOfOther (terms before) s)

-- and by the latest terms
abbrev pub AreKeptNow : List Moment → Type 0
AreKeptNow past = AreKeptBy (λ s before. IsOfOther (terms past) s) past

-- ---- the laws, of a wire that lost nothing since the latest reset
-- each request under way is carried
abbrev pub UnderWayLaw : Wire → Type 0
UnderWayLaw w = AreKept w.past → AreCarried (terms w.past)

-- where nothing is to be answered and nothing is in flight, no request is under way
abbrev pub QuietLaw : Wire → Type 0
QuietLaw w = AreKept w.past → w.due ≡ None → NoneFlies (terms w.past) → NoneWaits (terms w.past)

-- no label rests
abbrev pub NoRestLaw : Wire → Type 0
NoRestLaw w = AreKept w.past → NoneRests (terms w.past)

-- and that it lost nothing may be read off the latest terms: what was sent stays, and the generation is that of the latest reset
abbrev pub LatestLaw : Wire → Type 0
LatestLaw w = AreKeptNow w.past → AreKept w.past
