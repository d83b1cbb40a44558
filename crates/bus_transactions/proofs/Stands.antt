-- What holds of the wire at every moment: the history, the store and the nodes agree.
use Rattle.bus_transactions.proofs.ServedFacts.{Served}
use Rattle.std.specs.Prelude.{◌≡◌, ℕ, ◌+◌, ◌<◌, nat_eq, Bool, true, false, cond, Option, Some, None, Ok}
use Rattle.std.proofs.Common.{sym, ◌∙◌, ap, subst}
use Rattle.sbp_base.specs.Update.{upd}
use Rattle.async_packet.specs.Fields.{rcode_of}
use Rattle.async_packet.specs.Packet.{header_in}
use Rattle.async_packet.specs.Reading.{reading}
use Rattle.label_table.specs.Filter.{place_for}
use Rattle.packet_store.specs.Stored.{Stored}
use Rattle.sbp_journal.specs.Transactions.{Kind, request, part_of, Transaction, at, Sending, between, asked_by, begun_by}
use Rattle.sbp_journal.specs.Wire.{Terms, terms, in_flight, waits, kind_in, by_bus_rule, asked_in, Owed, sends, puts, begins, pays, gives}
use Rattle.bus_transactions.specs.Wire.{is_stated, is_reply, Node, Due, Wire}
use Rattle.bus_transactions.proofs.Facts.{fair, Facts, nat_is}
use Rattle.bus_transactions.proofs.FactsSent.{begins_at, puts_at}
use Rattle.bus_transactions.proofs.Follows.{Follows}
use Rattle.bus_transactions.proofs.NodeRows.{IsNode}

-- the request that is to be answered
pub record IsDue (t : Terms) (layer : ℕ → Node) (d : Due) : Type 0 where
  pub sent_is : t.sent d.serial ≡ Some d.request
  pub owed : Owed
  pub owes_is : t.owes ≡ Some owed
  pub serial_is : owed.serial ≡ d.serial
  pub read : reading d.request.bytes ≡ Ok d.packet
  pub label : ℕ
  pub kind : Kind
  pub part : part_of d.request.bytes ≡ request label kind
  pub now : d.request.generation ≡ t.generation d.request.to
  pub heard : t.seen (between d.request d.request.from d.request.to label) ≡ Some d.request.bytes
  pub stated : (rcode : ℕ) → is_reply d.reply rcode ≡ true → is_stated owed.cause (t.given (between d.request d.request.from d.request.to label)) rcode ≡ true
  pub own : fair t.injects (between d.request d.request.from d.request.to label) ≡ true → d.serial ≡ t.current (between d.request d.request.from d.request.to label)
  pub came : 0 < t.judged d.serial
  pub place : ℕ
  pub room : place_for (header_in d.packet).source (layer d.request.to).filter ≡ Some place

abbrev pub DueIs : Terms → (ℕ → Node) → Option Due → Type 0
DueIs t layer None = t.owes ≡ None
DueIs t layer (Some d) = IsDue t layer d

abbrev pub due_transaction : Option Due → Option Transaction
due_transaction None = None
due_transaction (Some d) = asked_by d.request

pub record On (t : Terms) (store : Stored) (layer : ℕ → Node) (bus : ℕ) (ids : ℕ → ℕ) (due : Option Due) : Type 0 where
  pub facts : Facts t
  pub follows : Follows t.count t.sent t.flight store
  pub bus_is : bus ≡ t.bus
  pub ids_are : (i : ℕ) → ids i ≡ t.ids t.bus i
  pub due_is : DueIs t layer due
  pub codes : Served t (due_transaction due)
  pub nodes : (i : ℕ) → IsNode (t.ids (t.generation i)) (t.generation i) i t.held t.last t.seen t.given (due_transaction due) (layer i)

abbrev pub Stands : Wire → Type 0
Stands w = On (terms w.past) w.store w.layer w.bus w.ids w.due

-- one node's layer changes
pub node_case : (P : ℕ → Node → Type 0) (i k : ℕ) (new : Node) (layer : ℕ → Node) (b : Bool) → nat_eq k i ≡ b → P i new → (nat_eq k i ≡ false → P k (layer k)) → P k (cond b new (layer k))
node_case P i k new layer true e p o = subst (λ x. P x new) (sym (nat_is k i e)) p
node_case P i k new layer false e p o = o e

-- ---- what a note of a packet makes of the terms
abbrev pub marked : Terms → ℕ → Sending → Bool → Sending
marked t s q b = record { generation = q.generation; from = q.from; to = q.to; bytes = q.bytes; injected = b }

-- the note of a packet that was not injected
sends_honest : (t : Terms) (s : ℕ) (q : Sending) → q.injected ≡ false → t.injected s ≡ false → sends s (marked t s q (t.injected s)) t ≡ sends s q t
sends_honest t s q e f = ap (λ b. sends s (marked t s q b) t) (f ∙ sym e)

begin_terms : (t : Terms) (s : ℕ) (q : Sending) (u : Transaction) (kind : Kind) → t.owes ≡ None → begun_by q ≡ Some u → q.injected ≡ false → kind_in (part_of q.bytes) ≡ kind → s ≡ t.count + 1 → sends s q t ≡ begins_at t u kind q
begin_terms t s q u kind owes begun honest is n =
    ap (λ o. pays o t.sent s q (begins (begun_by q) s q (puts (begun_by q) s q t))) owes
    ∙ ap (λ o. begins o s q (puts o s q t)) begun
    ∙ ap (λ b. record t {
      count = t.count + 1;
      sent = upd t.sent s (Some q);
      flight = upd (by_bus_rule (Some u) t.sent t.flight) s in_flight;
      injects = cond b (upd t.injects q.from true) t.injects;
      held = at t.held u (waits (kind_in (part_of q.bytes)) s);
      current = at t.current u s;
      last = at t.last u (Some q.bytes);
    }) honest
    ∙ ap (λ k. record t {
      count = t.count + 1;
      sent = upd t.sent s (Some q);
      flight = upd (by_bus_rule (Some u) t.sent t.flight) s in_flight;
      held = at t.held u (waits k s);
      current = at t.current u s;
      last = at t.last u (Some q.bytes);
    }) is
    ∙ ap (λ m. record t {
      count = t.count + 1;
      sent = upd t.sent m (Some q);
      flight = upd (by_bus_rule (Some u) t.sent t.flight) m in_flight;
      held = at t.held u (waits kind m);
      current = at t.current u m;
      last = at t.last u (Some q.bytes);
    }) n

pub begun_terms : (t : Terms) (s : ℕ) (q : Sending) (u : Transaction) (kind : Kind) → t.owes ≡ None → begun_by q ≡ Some u → q.injected ≡ false → kind_in (part_of q.bytes) ≡ kind → s ≡ t.count + 1 → t.injected s ≡ false → sends s (marked t s q (t.injected s)) t ≡ begins_at t u kind q
begun_terms t s q u kind owes begun honest is n f = sends_honest t s q honest f ∙ begin_terms t s q u kind owes begun honest is n

-- an answer
pub paid_terms : (t : Terms) (s : ℕ) (q : Sending) (owed : Owed) (v : Transaction) (rcode : ℕ) → t.owes ≡ Some owed → begun_by q ≡ None → q.injected ≡ false → asked_in (t.sent owed.serial) ≡ Some v → rcode_of q.bytes ≡ rcode → s ≡ t.count + 1 → t.injected s ≡ false → sends s (marked t s q (t.injected s)) t ≡ puts_at t q t.injects (upd t.answers (t.count + 1) (Some owed.serial)) (at t.given v rcode) None
paid_terms t s q owed v rcode owes begun honest asked is n f =
    sends_honest t s q honest f
    ∙ ap (λ o. pays o t.sent s q (begins (begun_by q) s q (puts (begun_by q) s q t))) owes
    ∙ ap (λ o. pays (Some owed) t.sent s q (begins o s q (puts o s q t))) begun
    ∙ ap (λ b. pays (Some owed) t.sent s q (record t {
      count = t.count + 1;
      sent = upd t.sent s (Some q);
      flight = upd t.flight s in_flight;
      injects = cond b (upd t.injects q.from true) t.injects;
    })) honest
    ∙ ap (λ o. record (gives o (rcode_of q.bytes) (record t { count = t.count + 1; sent = upd t.sent s (Some q); flight = upd t.flight s in_flight })) { owes = None; answers = upd t.answers s (Some owed.serial) }) asked
    ∙ ap (λ r. record t { count = t.count + 1; sent = upd t.sent s (Some q); flight = upd t.flight s in_flight; given = at t.given v r; owes = None; answers = upd t.answers s (Some owed.serial) }) is
    ∙ ap (λ m. record t { count = t.count + 1; sent = upd t.sent m (Some q); flight = upd t.flight m in_flight; given = at t.given v rcode; owes = None; answers = upd t.answers m (Some owed.serial) }) n

-- an injected packet, the note of which has just been said
pub injected_terms : (t : Terms) (s : ℕ) (q : Sending) → t.owes ≡ None → begun_by q ≡ None → q.injected ≡ true → s ≡ t.count + 1 → t.injected s ≡ true → sends s (marked t s q (t.injected s)) t ≡ puts_at t q (upd t.injects q.from true) t.answers t.given t.owes
injected_terms t s q owes begun wild n f =
    ap (λ b. sends s (marked t s q b) t) (f ∙ sym wild)
    ∙ ap (λ o. pays o t.sent s q (begins (begun_by q) s q (puts (begun_by q) s q t))) owes
    ∙ ap (λ o. begins o s q (puts o s q t)) begun
    ∙ ap (λ b. record t {
      count = t.count + 1;
      sent = upd t.sent s (Some q);
      flight = upd t.flight s in_flight;
      injects = cond b (upd t.injects q.from true) t.injects;
    }) wild
    ∙ ap (λ m. record t { count = t.count + 1; sent = upd t.sent m (Some q); flight = upd t.flight m in_flight; injects = upd t.injects q.from true }) n
