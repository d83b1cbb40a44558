-- What the history says, at every moment, of transactions and packets.
use Rattle.std.specs.Prelude.{◌≡◌, ℕ, ◌<◌, ◌≤◌, ◌&&◌, not, nat_eq, Bool, true, false, List, Option, Some, None, Ok, refl}
use Rattle.std.proofs.Common.{arith, sym, ◌∙◌, ap, subst}
use Rattle.async_packet.specs.Packet.{Packet, header_in}
use Rattle.async_packet.specs.Reading.{reading}
use Rattle.label_table.specs.Requests.{label_of, is_write}
use Rattle.sbp_journal.specs.Transactions.{Kind, Part, request, response, no_packet, part_of, is_to, Transaction, is_same, Sending, between, asked_as, asked_by, begun_if, begun_by, belongs_as, is_that, belongs}
use Rattle.sbp_journal.specs.Wire.{Terms, Flight, Held, waits}
use Rattle.bus_transactions.specs.Reached.{IsAwaited}
use Rattle.bus_transactions.proofs.Follows.{is_live}
use Rattle.bus_transactions.proofs.Ties.{Tie}

-- the requester of a transaction has not injected packets, and the responder has not either
abbrev pub fair : (ℕ → Bool) → Transaction → Bool
fair injects u = not (injects u.requester)

abbrev pub both : (ℕ → Bool) → Transaction → Bool
both injects u = not (injects u.requester) && not (injects u.responder)

abbrev pub TieOf : (ℕ → Bool) → ℕ → (Transaction → ℕ) → (Transaction → Option (List ℕ)) → (Transaction → Option (List ℕ)) → (Transaction → Held) → (ℕ → ℕ) → (ℕ → ℕ) → Transaction → Type 0
TieOf injects count current last seen held judged news u =
    Tie (fair injects u) (both injects u) count (current u) (last u) (seen u) (held u) (judged (current u)) (news (current u))

-- a serial that is not given yet
pub record IsUnsent (sent : Option Sending) (injected : Bool) (judged news : ℕ) (closed answers : Option ℕ) : Type 0 where
  pub sent_is : sent ≡ None
  pub honest : injected ≡ false
  pub unjudged : judged ≡ 0
  pub no_news : news ≡ 0
  pub open_still : closed ≡ None
  pub unanswered : answers ≡ None

-- the present request of a transaction
pub record IsAsked (last : Option (List ℕ)) (so : Option Sending) (u : Transaction) : Type 0 where
  pub packet : Sending
  pub sent_is : so ≡ Some packet
  pub begun : begun_by packet ≡ Some u
  pub last_is : last ≡ Some packet.bytes

-- a packet is of its sender's generation or an earlier one; if it was not injected, its destination is the receiver in that generation;
-- its source is its sender; and the tables read its label
pub record Honest (ids : ℕ → ℕ → ℕ) (generation : ℕ → ℕ) (injects : ℕ → Bool) (q : Sending) : Type 0 where
  pub from_small : q.from < 5
  pub to_small : q.to < 5
  pub past : q.generation ≤ generation q.from
  pub bold : q.injected ≡ true → injects q.from ≡ true
  pub is_for : q.injected ≡ false → is_to q.bytes (ids q.generation q.to) ≡ true
  pub source : (p : Packet) → reading q.bytes ≡ Ok p → (header_in p).source ≡ ids q.generation q.from
  pub label : (l : ℕ) (k : Kind) → part_of q.bytes ≡ request l k → label_of q.bytes ≡ l

-- a packet in flight or delivered: the bus rule has left the present request alone, and responses to that
pub record Flies (injects : ℕ → Bool) (current : Transaction → ℕ) (judged : ℕ → ℕ) (answers : Option ℕ) (state : Flight) (s : ℕ) (q : Sending) : Type 0 where
  pub asks : (u : Transaction) → begun_by q ≡ Some u → is_live state ≡ true → s ≡ current u
  pub replies : (l : ℕ) (k : Kind) → part_of q.bytes ≡ response l k → q.injected ≡ false → is_live state ≡ true → fair injects (between q q.to q.from l) ≡ true → (answers ≡ Some (current (between q q.to q.from l))) × (0 < judged (current (between q q.to q.from l)))

-- the once law of a packet
pub record Counts (injects : ℕ → Bool) (news : ℕ) (closed : Option ℕ) (q : Sending) : Type 0 where
  pub most : (u : Transaction) → begun_by q ≡ Some u → is_write q.bytes ≡ true → fair injects u ≡ true → news ≤ 1
  pub once : (u : Transaction) (rcode : ℕ) → begun_by q ≡ Some u → is_write q.bytes ≡ true → both injects u ≡ true → closed ≡ Some rcode → news ≡ 1

-- the request that a label waits for is of its kind
pub record IsKind (so : Option Sending) (l : ℕ) (k : Kind) : Type 0 where
  pub packet : Sending
  pub sent_is : so ≡ Some packet
  pub part : part_of packet.bytes ≡ request l k

-- a packet answers a request: between the same nodes in the same generation, under its label and with its kind
pub record IsReply (so sr : Option Sending) : Type 0 where
  pub reply : Sending
  pub asking : Sending
  pub reply_is : so ≡ Some reply
  pub asking_is : sr ≡ Some asking
  pub label : ℕ
  pub kind : Kind
  pub reply_part : part_of reply.bytes ≡ response label kind
  pub asking_part : part_of asking.bytes ≡ request label kind
  pub generation : reply.generation ≡ asking.generation
  pub from_is : reply.from ≡ asking.to
  pub to_is : reply.to ≡ asking.from

pub record Facts (t : Terms) : Type 0 where
  pub apart : (g i j : ℕ) → t.ids g i ≡ t.ids g j → i ≡ j
  pub aged : (i : ℕ) → t.generation i ≤ t.bus
  pub unsent : (s : ℕ) → t.count < s → IsUnsent (t.sent s) (t.injected s) (t.judged s) (t.news s) (t.closed s) (t.answers s)
  pub zero : t.sent 0 ≡ None
  pub tie : (u : Transaction) → TieOf t.injects t.count t.current t.last t.seen t.held t.judged t.news u
  pub asked : (u : Transaction) → 0 < t.current u → IsAsked (t.last u) (t.sent (t.current u)) u
  pub early : (u : Transaction) → t.generation u.requester < u.generation → t.current u ≡ 0
  pub silent : (u : Transaction) → t.generation u.responder < u.generation → t.seen u ≡ None
  pub ungiven : (u : Transaction) → t.generation u.responder < u.generation → t.given u ≡ 0
  pub honest : (s : ℕ) (q : Sending) → t.sent s ≡ Some q → Honest t.ids t.generation t.injects q
  pub flies : (s : ℕ) (q : Sending) → t.sent s ≡ Some q → Flies t.injects t.current t.judged (t.answers s) (t.flight s) s q
  pub counts : (s : ℕ) (q : Sending) → t.sent s ≡ Some q → Counts t.injects (t.news s) (t.closed s) q
  pub waiting_kind : (u : Transaction) (k : Kind) (r : ℕ) → t.held u ≡ waits k r → IsKind (t.sent r) u.label k
  pub replied : (s r : ℕ) → t.answers s ≡ Some r → IsReply (t.sent s) (t.sent r)

-- ---- small lemmas
pub not_true : {b : Bool} → b ≡ false → b ≡ true → ⊥
not_true e f = cc

pub both_fair : (injects : ℕ → Bool) (u : Transaction) → both injects u ≡ true → fair injects u ≡ true
both_fair injects u e = grind arith

pub both_other : (injects : ℕ → Bool) (u : Transaction) → both injects u ≡ true → injects u.responder ≡ false
both_other injects u e = grind arith

pub fair_not : (injects : ℕ → Bool) (u : Transaction) → injects u.requester ≡ true → fair injects u ≡ false
fair_not injects u e = rw e refl

pub nat_same : (n : ℕ) → nat_eq n n ≡ true
nat_same n = grind arith

pub nat_apart : (m n : ℕ) → m < n → nat_eq m n ≡ false
nat_apart m n h = grind arith

pub nat_above : (m n : ℕ) → n < m → nat_eq m n ≡ false
nat_above m n h = grind arith

pub nat_is : (m n : ℕ) → nat_eq m n ≡ true → m ≡ n
nat_is m n e = grind arith

some_is : {A : Type 0} (a b : A) → Some a ≡ Some b → a ≡ b
some_is a b e = cc

pub some_same : {A : Type 0} (o : Option A) (a b : A) → o ≡ Some a → o ≡ Some b → a ≡ b
some_same o a b e f = some_is a b (sym e ∙ f)

-- the transactions of a packet
begun_is : (injected : Bool) (asked : Option Transaction) (u : Transaction) → begun_if injected asked ≡ Some u → (injected ≡ false) × (asked ≡ Some u)
begun_is true asked u e = cc
begun_is false asked u e = (refl, e)

pub begun_asked : (q : Sending) (u : Transaction) → begun_by q ≡ Some u → (q.injected ≡ false) × (asked_by q ≡ Some u)
unfolding begun_by
begun_asked q u e = begun_is q.injected (asked_by q) u e

pub asked_begun : (q : Sending) (u : Transaction) → q.injected ≡ false → asked_by q ≡ Some u → begun_by q ≡ Some u
unfolding begun_by
asked_begun q u e f = ap (λ b. begun_if b (asked_by q)) e ∙ f

pub injected_begun : (q : Sending) → q.injected ≡ true → begun_by q ≡ None
unfolding begun_by
injected_begun q e = ap (λ b. begun_if b (asked_by q)) e

-- what is asked
pub record AskedBy (q : Sending) (u : Transaction) : Type 0 where
  pub label : ℕ
  pub kind : Kind
  pub part : part_of q.bytes ≡ request label kind
  pub is : u ≡ between q q.from q.to label

asked_part : (part : Part) (q : Sending) (u : Transaction) → part_of q.bytes ≡ part → asked_as part q ≡ Some u → AskedBy q u
asked_part (request l k) q u e f = record { label = l; kind = k; part = e; is = sym (some_is _ _ f) }
asked_part (response l k) q u e f = cc
asked_part no_packet q u e f = cc

pub asked_is : (q : Sending) (u : Transaction) → asked_by q ≡ Some u → AskedBy q u
unfolding asked_by
asked_is q u e = asked_part (part_of q.bytes) q u refl e

pub request_asked : (q : Sending) (l : ℕ) (k : Kind) → part_of q.bytes ≡ request l k → asked_by q ≡ Some (between q q.from q.to l)
unfolding asked_by
request_asked q l k e = ap (λ part. asked_as part q) e

pub response_asked : (q : Sending) (l : ℕ) (k : Kind) → part_of q.bytes ≡ response l k → asked_by q ≡ None
unfolding asked_by
response_asked q l k e = ap (λ part. asked_as part q) e

pub none_begun : (q : Sending) → asked_by q ≡ None → begun_by q ≡ None
unfolding begun_by
none_begun q e = none_if q.injected (asked_by q) e
  where
    none_if : (b : Bool) (o : Option Transaction) → o ≡ None → begun_if b o ≡ None
    none_if true o e = refl
    none_if false o e = e

request_belongs : (part : Part) (q : Sending) (v u : Transaction) → q.injected ≡ false → asked_as part q ≡ Some v → is_that (belongs_as part q) u ≡ is_same v u
request_belongs (request l k) q v u e f = ap (λ b. is_that (begun_if b (asked_as (request l k) q)) u) e ∙ ap (λ o. is_that o u) f
request_belongs (response l k) q v u e f = cc
request_belongs no_packet q v u e f = cc

pub begun_belongs : (q : Sending) (v u : Transaction) → begun_by q ≡ Some v → belongs q u ≡ is_same v u
unfolding belongs asked_by
begun_belongs q v u e = let b = begun_asked q v e in request_belongs (part_of q.bytes) q v u b.0 b.1

pub reply_belongs : (q : Sending) (l : ℕ) (k : Kind) (u : Transaction) → part_of q.bytes ≡ response l k → belongs q u ≡ is_same (between q q.to q.from l) u
unfolding belongs
reply_belongs q l k u e = ap (λ part. is_that (belongs_as part q) u) e

-- a packet that begins nothing, or another transaction, is not the present request of this one
module _ {t : Terms} (f : Facts t) where
  zero_not : (s : ℕ) (q : Sending) → t.sent s ≡ Some q → 0 < s
  zero_not s q e = positive s (λ z. none_some (sym f.zero ∙ ap t.sent (sym z) ∙ e))
    where
      positive : (n : ℕ) → (n ≡ 0 → ⊥) → 0 < n
      positive n h = grind arith

      none_some : {q : Sending} → None ≡ Some q → ⊥
      none_some e = cc

  pub current_not : (s : ℕ) (q : Sending) (u : Transaction) → t.sent s ≡ Some q → (begun_by q ≡ Some u → ⊥) → nat_eq (t.current u) s ≡ false
  current_not s q u e other = by_test (nat_eq (t.current u) s) refl
    where
      by_test : (b : Bool) → nat_eq (t.current u) s ≡ b → b ≡ false
      by_test false i = refl
      by_test true i =
          let is = nat_is (t.current u) s i in
          let a = f.asked u (subst (λ n. 0 < n) (sym is) (zero_not s q e)) in
          let same : a.packet ≡ q = some_same (t.sent s) a.packet q (subst (λ n. t.sent n ≡ Some a.packet) is a.sent_is) e in
          absurd (other (subst (λ x. begun_by x ≡ Some u) same a.begun))

  -- the request that a label waits for
  pub awaited : (u : Transaction) (kind : Kind) (s : ℕ) → t.held u ≡ waits kind s → IsAwaited t u kind s
  awaited u kind s e =
      let now = (f.tie u).waiting kind s e in
      let a = f.asked u (subst (λ n. 0 < n) now.0 now.1) in
      let k = f.waiting_kind u kind s e in
      let sent : t.sent s ≡ Some a.packet = ap t.sent now.0 ∙ a.sent_is in
      let same = some_same (t.sent s) k.packet a.packet k.sent_is sent in
      record {
        current = now.0;
        packet = a.packet;
        sent = sent;
        begun = a.begun;
        part = subst (λ (x : Sending). part_of x.bytes ≡ request u.label kind) same k.part;
      }
