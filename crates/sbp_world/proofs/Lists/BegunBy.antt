-- What a label waits for, by the history (IEEE 1394-1995, split transactions): the request that began its transaction, which went from its requester to its responder.
use Rattle.sbp_world.proofs.Words.Std.{arith, ◌≡◌, ◌∙◌, refl, sym, ap, subst, inl, inr, ◌⊎◌, ℕ, Bool, true, false, cond, List, [], ◌∷◌, Option, Some, None}
use Rattle.sbp_world.proofs.Words.Wire.{SerialsCount, Moment, said, Kind, Part, Sending, Transaction, asked_as, asked_by, begun_by, begun_if, between, is_same, part_of, request, response, Held, Terms, begins, free, kind_in, puts, rests, terms, waits}
use Rattle.sbp_world.proofs.Words.Laws.{closed_by}
use Rattle.bus_transactions.proofs.PacketParts.{same_is}
use Rattle.sbp_journal.specs.Transactions.{no_packet}
use Rattle.sbp_journal.specs.declared.note.Note.TheVariants as notes
use Rattle.sbp_world.proofs.Hosts.Remaining.{remains}
use Rattle.sbp_world.proofs.Hosts.SentMoments.{sending, sent_below, sent_there, serials_from}
use Rattle.sbp_world.proofs.Lists.FedHeld.{IsNewer, waits_since}
use Rattle.sbp_world.proofs.Lists.ManageTerms.{same_some}
use Rattle.sbp_world.proofs.Lists.StatusKnown.{Where, is_before, is_here, sent_where}
use Rattle.sbp_world.proofs.Common.{none_is}
use Rattle.sbp_world.proofs.Hosts.Held.{pays_held}

-- what a label waits for
pub record IsHeld (held : Held) (own : ℕ) : Type 0 where
  pub kind : Kind
  pub is : held ≡ waits kind own

held_if : (b : Bool) (kind : Kind) (s own : ℕ) → cond b (Some s) None ≡ Some own → IsHeld (waits kind s) own
held_if true kind s own e = record { kind = kind; is = ap (waits kind) (same_some s own e) }
held_if false kind s own e = absurd (let x : None ≡ Some own = e in cc)

pub held_by : (held : Held) (kind : Kind) (own : ℕ) → closed_by held kind ≡ Some own → IsHeld held own
held_by (waits k s) kind own e = held_if _ k s own e
held_by free kind own e = absurd (let x : None ≡ Some own = e in cc)
held_by rests kind own e = absurd (let x : None ≡ Some own = e in cc)

-- ---- what waits for a request
pub record IsBegun (past : List Moment) (v : Transaction) (s : ℕ) : Type 0 where
  pub packet : Sending
  pub sent : (terms past).sent s ≡ Some packet
  pub begun : begun_by packet ≡ Some v

begins_own : (v : Transaction) (k : Kind) (s : ℕ) (u : Option Transaction) (serial : ℕ) (q : Sending) (t : Terms) → (begins u serial q t).held v ≡ waits k s → (t.held v ≡ waits k s) ⊎ (u ≡ Some v)
begins_own v k s None serial q t e = inl e
begins_own v k s (Some u) serial q t e = by (is_same v u) refl e
  where
    by : (b : Bool) → is_same v u ≡ b → cond b (waits (kind_in (part_of q.bytes)) serial) (t.held v) ≡ waits k s → (t.held v ≡ waits k s) ⊎ (Some u ≡ Some v)
    by true f g = inr (ap (λ x. Some x) (sym (same_is v u f)))
    by false f g = inl g

begun_here : (past : List Moment) (v : Transaction) (k : Kind) (s generation from to : ℕ) (bytes : List ℕ) → (terms (said (notes.Sent s generation from to bytes) ∷ past)).held v ≡ waits k s → ((terms past).held v ≡ waits k s) ⊎ IsBegun (said (notes.Sent s generation from to bytes) ∷ past) v s
begun_here past v k s generation from to bytes e =
    let q = sending past s generation from to bytes in
    let put = puts (begun_by q) s q (terms past) in
    by (begins_own v k s (begun_by q) s q put (sym (ap (λ (f : Transaction → Held). f v) (pays_held (terms past).owes (terms past).sent s q (begins (begun_by q) s q put))) ∙ e))
  where
    by : ((terms past).held v ≡ waits k s) ⊎ (begun_by (sending past s generation from to bytes) ≡ Some v) → ((terms past).held v ≡ waits k s) ⊎ IsBegun (said (notes.Sent s generation from to bytes) ∷ past) v s
    by (inl f) = inl f
    by (inr f) = inr (record { packet = sending past s generation from to bytes; sent = sent_there past s generation from to bytes; begun = f })

older : (m : Moment) (past : List Moment) (v : Transaction) (s : ℕ) → SerialsCount (m ∷ past) → IsBegun past v s → IsBegun (m ∷ past) v s
older m past v s c x = record { packet = x.packet; sent = (remains (m ∷ []) past c).sent s (sent_below past s x.packet (serials_from (m ∷ []) past c) x.sent) ∙ x.sent; begun = x.begun }

pub begun_of : (past : List Moment) → SerialsCount past → (v : Transaction) (k : Kind) (s : ℕ) → (terms past).held v ≡ waits k s → IsBegun past v s
begun_of [] c v k s e = absurd (let x : free ≡ waits k s = e in cc)
begun_of (m ∷ past) c v k s e = by (waits_since (m ∷ []) past c v k s e) (λ f. begun_of past (serials_from (m ∷ []) past c) v k s f)
  where
    Again : Type 0
    Again = (terms past).held v ≡ waits k s → IsBegun past v s

    or_here : (x : Moment) → SerialsCount (x ∷ past) → Again → ((terms past).held v ≡ waits k s) ⊎ IsBegun (x ∷ past) v s → IsBegun (x ∷ past) v s
    or_here x d again (inl f) = older x past v s d (again f)
    or_here x d again (inr y) = y

    at : (n : IsNewer past (m ∷ past) s) → Again → Where m past s n.packet → IsBegun (m ∷ past) v s
    at n again (is_before f) = let a = n.above in let b = sent_below past s n.packet (serials_from (m ∷ []) past c) f in absurd (omega (arith, a, b))
    at n again (is_here f) =
        (subst (λ x. SerialsCount (x ∷ past) → (terms (x ∷ past)).held v ≡ waits k s → IsBegun (x ∷ past) v s) (sym f)
        (λ d g. or_here (said (notes.Sent s n.packet.generation n.packet.from n.packet.to n.packet.bytes)) d again (begun_here past v k s n.packet.generation n.packet.from n.packet.to n.packet.bytes g))) c e

    by : ((terms past).held v ≡ waits k s) ⊎ IsNewer past (m ∷ past) s → Again → IsBegun (m ∷ past) v s
    by (inl f) again = older m past v s c (again f)
    by (inr n) again = at n again (sent_where m past c s n.packet n.sent)

-- ---- the nodes of a transaction are those of the request that began it

pub record IsTransactionOf (packet : Sending) (u : Transaction) : Type 0 where
  pub generation : u.generation ≡ packet.generation
  pub requester : u.requester ≡ packet.from
  pub responder : u.responder ≡ packet.to

asked_is : (part : Part) (packet : Sending) (u : Transaction) → asked_as part packet ≡ Some u → IsTransactionOf packet u
asked_is (request label kind) packet u e =
    let same : between packet packet.from packet.to label ≡ u = same_some (between packet packet.from packet.to label) u e in
    record { generation = ap (λ (x : Transaction). x.generation) (sym same); requester = ap (λ (x : Transaction). x.requester) (sym same); responder = ap (λ (x : Transaction). x.responder) (sym same) }
asked_is (response label kind) packet u e = none_is u e
asked_is no_packet packet u e = none_is u e

begun_is : (b : Bool) (packet : Sending) (u : Transaction) → begun_if b (asked_by packet) ≡ Some u → IsTransactionOf packet u
unfolding asked_by
begun_is true packet u e = none_is u e
begun_is false packet u e = asked_is (part_of packet.bytes) packet u e

pub transaction_of : (packet : Sending) (u : Transaction) → begun_by packet ≡ Some u → IsTransactionOf packet u
unfolding begun_by
transaction_of packet u e = begun_is packet.injected packet u e
