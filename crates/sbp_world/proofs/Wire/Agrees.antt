-- Notes that change nothing of what the history says of IDs, packets, requests and the generation of the bus.
use Rattle.sbp_world.proofs.Words.Std.{if◌then◌else◌, arith, sym, ◌∙◌, ap, subst, upd}
use Rattle.sbp_world.proofs.Words.Wire.{is_plain, is_reset, at, Kind, is_same_kind, Part, request, response, part_of, is_to, Sending, Transaction, asked_by, between, begun_by, Terms, Held, free, waits, rests, noted, opened, judges, judges_if, closes, closes_if, gets, gets_as, ignores, ignores_that, times_out, begun_in, Owed, sends, puts, begins, pays, gives, asked_in, rcode_of, Cause, Event, Note, RequestsState}
use Rattle.sbp_world.proofs.Words.World.{Knows, KnowsBy}
use Rattle.std.specs.Prelude.{◌≡◌, ◌≤◌, ℕ, ◌+◌, Bool, true, false, Option, Some, None, refl}
use Rattle.bus_transactions.proofs.MoveOthers.{plain_terms}
use Rattle.sbp_journal.specs.Transactions.{no_packet}
use Rattle.sbp_journal.specs.declared.cause.Cause.TheVariants as causes
use Rattle.sbp_journal.specs.declared.event.Event.TheVariants as events

-- the terms before and after
pub record Agrees (t u : Terms) : Type 0 where
  pub ids : u.ids ≡ t.ids
  pub sent : u.sent ≡ t.sent
  pub current : u.current ≡ t.current
  pub bus : u.bus ≡ t.bus
  pub count : u.count ≡ t.count
  pub injects : u.injects ≡ t.injects

pub same : (t : Terms) → Agrees t t
same t = record { ids = refl; sent = refl; current = refl; bus = refl; count = refl; injects = refl }

pub still_knows : {requests : RequestsState} {nodes : ℕ} {t u : Terms} → Agrees t u → Knows requests nodes t → Knows requests nodes u
still_knows {requests} {nodes} {t} {u} a k =
    subst (λ c. KnowsBy requests nodes u.ids u.sent u.current u.bus c) (sym a.count)
    (subst (λ b. KnowsBy requests nodes u.ids u.sent u.current b t.count) (sym a.bus)
    (subst (λ f. KnowsBy requests nodes u.ids u.sent f t.bus t.count) (sym a.current)
    (subst (λ f. KnowsBy requests nodes u.ids f t.current t.bus t.count) (sym a.sent)
    (subst (λ f. KnowsBy requests nodes f t.sent t.current t.bus t.count) (sym a.ids) k))))

-- the bus is reset: the IDs of the generations so far stay
pub reset_knows : {requests : RequestsState} {nodes : ℕ} → (t : Terms) (ids : ℕ → ℕ → ℕ) (bus : ℕ) → t.bus ≤ bus → ((g : ℕ) → g ≤ t.bus → ids g ≡ t.ids g) → Knows requests nodes t → KnowsBy requests nodes ids t.sent t.current bus t.count
reset_knows t ids bus later before k = record {
  ours = k.ours;
  size = k.size;
  room = k.room;
  blank = k.blank;
  below = k.below;
  apart = k.apart;
  latest = λ s request e.
      let l = k.latest s request e in
      let p = l.past in
      record {
        to = l.to;
        to_small = l.to_small;
        node_small = l.node_small;
        number_small = l.number_small;
        aimed = l.aimed;
        past = omega arith;
        peer_is = l.peer_is ∙ ap (λ (f : ℕ → ℕ). f l.to) (sym (before request.label.generation p));
        current_is = l.current_is;
        place_is = l.place_is;
      };
}

-- ---- notes that the wire does not read
pub plain_agrees : (note : Note) (t : Terms) → is_plain note ≡ true → Agrees t (noted note t)
plain_agrees note t e = subst (λ u. Agrees t u) (sym (plain_terms note t e)) (same t)

-- ---- lines that begin, but for a reset
pub opened_agrees : (event : Event) (t : Terms) → is_reset event ≡ false → Agrees t (opened event t)
opened_agrees (events.Begin initiators ready) t e = record { ids = refl; sent = refl; current = refl; bus = refl; count = refl; injects = refl }
opened_agrees (events.Act initiator action) t e = record { ids = refl; sent = refl; current = refl; bus = refl; count = refl; injects = refl }
opened_agrees (events.Reset physical) t e = cc
opened_agrees (events.See node) t e = record { ids = refl; sent = refl; current = refl; bus = refl; count = refl; injects = refl }
opened_agrees (events.Deliver s) t e = record { ids = refl; sent = refl; current = refl; bus = refl; count = refl; injects = refl }
opened_agrees (events.Repeat s) t e = record { ids = refl; sent = refl; current = refl; bus = refl; count = refl; injects = refl }
opened_agrees (events.Lose s) t e = record { ids = refl; sent = refl; current = refl; bus = refl; count = refl; injects = refl }
opened_agrees (events.Timeout s) t e = record { ids = refl; sent = refl; current = refl; bus = refl; count = refl; injects = refl }
opened_agrees (events.Step count) t e = record { ids = refl; sent = refl; current = refl; bus = refl; count = refl; injects = refl }
opened_agrees events.Settle t e = record { ids = refl; sent = refl; current = refl; bus = refl; count = refl; injects = refl }
opened_agrees events.Tick t e = record { ids = refl; sent = refl; current = refl; bus = refl; count = refl; injects = refl }
opened_agrees (events.Inject initiator bytes) t e = record { ids = refl; sent = refl; current = refl; bus = refl; count = refl; injects = refl }
opened_agrees (events.Key unit key) t e = record { ids = refl; sent = refl; current = refl; bus = refl; count = refl; injects = refl }

-- ---- packets that are delivered
judges_agrees : (began : Option Transaction) (cause : Option Cause) (s : ℕ) (q : Sending) (t u : Terms) → Agrees t u → Agrees t (judges began cause s q u)
judges_agrees None cause s q t u a = a
judges_agrees (Some v) cause s q t u a = record { ids = a.ids; sent = a.sent; current = a.current; bus = a.bus; count = a.count; injects = a.injects }

if_agrees : (b : Bool) (began : Option Transaction) (s : ℕ) (q : Sending) (t u : Terms) → Agrees t u → Agrees t (judges_if b began s q u)
if_agrees true began s q t u a = judges_agrees began (Some causes.Grammar) s q t u a
if_agrees false began s q t u a = a

ignores_agrees : (cause : Cause) (s : ℕ) (q : Sending) (t u : Terms) → Agrees t u → Agrees t (ignores cause s q u)
ignores_agrees causes.Generation s q t u a = a
ignores_agrees causes.Grammar s q t u a =
    if_agrees (is_to q.bytes (u.ids q.generation q.to)) (asked_by q) s q t _ (record { ids = a.ids; sent = a.sent; current = a.current; bus = a.bus; count = a.count; injects = a.injects })
ignores_agrees causes.Label s q t u a = record { ids = a.ids; sent = a.sent; current = a.current; bus = a.bus; count = a.count; injects = a.injects }
ignores_agrees causes.Again s q t u a = judges_agrees (asked_by q) (Some causes.Again) s q t u a
ignores_agrees causes.Source s q t u a =
    judges_agrees (asked_by q) (Some causes.Source) s q t _ (record { ids = a.ids; sent = a.sent; current = a.current; bus = a.bus; count = a.count; injects = a.injects })
ignores_agrees causes.Login s q t u a =
    judges_agrees (asked_by q) (Some causes.Login) s q t _ (record { ids = a.ids; sent = a.sent; current = a.current; bus = a.bus; count = a.count; injects = a.injects })
ignores_agrees causes.Slot s q t u a =
    judges_agrees (asked_by q) (Some causes.Slot) s q t _ (record { ids = a.ids; sent = a.sent; current = a.current; bus = a.bus; count = a.count; injects = a.injects })

pub ignored_agrees : (so : Option Sending) (cause : Cause) (s : ℕ) (t : Terms) → Agrees t (ignores_that so cause s t)
ignored_agrees None cause s t = same t
ignored_agrees (Some q) cause s t = ignores_agrees cause s q t _ (record { ids = refl; sent = refl; current = refl; bus = refl; count = refl; injects = refl })

closed_agrees : (b : Bool) (s : ℕ) (v : Transaction) (rcode : ℕ) (t u : Terms) → Agrees t u → Agrees t (closes_if b s v rcode u)
closed_agrees true s v rcode t u a = record { ids = a.ids; sent = a.sent; current = a.current; bus = a.bus; count = a.count; injects = a.injects }
closed_agrees false s v rcode t u a = a

closes_agrees : (held : Held) (v : Transaction) (kind : Kind) (rcode : ℕ) (t u : Terms) → Agrees t u → Agrees t (closes held v kind rcode u)
closes_agrees free v kind rcode t u a = a
closes_agrees (waits other s) v kind rcode t u a = closed_agrees (is_same_kind other kind) s v rcode t u a
closes_agrees rests v kind rcode t u a = a

gets_agrees : (part : Part) (s : ℕ) (q : Sending) (t u : Terms) → Agrees t u → Agrees t (gets_as part s q u)
gets_agrees (request label kind) s q t u a = judges_agrees (asked_by q) None s q t u a
gets_agrees (response label kind) s q t u a = closes_agrees (u.held (between q q.to q.from label)) (between q q.to q.from label) kind (rcode_of q.bytes) t u a
gets_agrees no_packet s q t u a = a

pub got_agrees : (so : Option Sending) (s : ℕ) (t : Terms) → Agrees t (gets so s t)
got_agrees None s t = same t
got_agrees (Some q) s t = gets_agrees (part_of q.bytes) s q t _ (record { ids = refl; sent = refl; current = refl; bus = refl; count = refl; injects = refl })

-- ---- a transaction times out
times_agrees : (began : Option Transaction) (t : Terms) → Agrees t (times_out began t)
times_agrees None t = same t
times_agrees (Some v) t = record { ids = refl; sent = refl; current = refl; bus = refl; count = refl; injects = refl }

pub timed_agrees : (so : Option Sending) (t : Terms) → Agrees t (times_out (begun_in so) t)
timed_agrees so t = times_agrees (begun_in so) t

-- ---- a packet is sent
gives_agrees : (began : Option Transaction) (rcode : ℕ) (t u : Terms) → Agrees t u → Agrees t (gives began rcode u)
gives_agrees None rcode t u a = a
gives_agrees (Some v) rcode t u a = record { ids = a.ids; sent = a.sent; current = a.current; bus = a.bus; count = a.count; injects = a.injects }

pays_agrees : (owed : Option Owed) (sent : ℕ → Option Sending) (s : ℕ) (q : Sending) (t u : Terms) → Agrees t u → Agrees t (pays owed sent s q u)
pays_agrees None sent s q t u a = a
pays_agrees (Some owed) sent s q t u a =
    let b = gives_agrees (asked_in (sent owed.serial)) (rcode_of q.bytes) t u a in
    record { ids = b.ids; sent = b.sent; current = b.current; bus = b.bus; count = b.count; injects = b.injects }

-- it is the present request of the transaction that it begins
abbrev pub with_begun : Option Transaction → ℕ → (Transaction → ℕ) → Transaction → ℕ
with_begun None s current = current
with_begun (Some u) s current = at current u s

abbrev pub with_sent : Option Transaction → ℕ → Sending → Terms → Terms
with_sent begun s q t = record t { sent = upd t.sent s (Some q); current = with_begun begun s t.current; count = t.count + 1; injects = if q.injected then upd t.injects q.from true else t.injects }

begins_agrees : (begun : Option Transaction) (s : ℕ) (q : Sending) (t : Terms) → Agrees (with_sent begun s q t) (begins begun s q (puts begun s q t))
begins_agrees None s q t = record { ids = refl; sent = refl; current = refl; bus = refl; count = refl; injects = refl }
begins_agrees (Some u) s q t = record { ids = refl; sent = refl; current = refl; bus = refl; count = refl; injects = refl }

pub sends_agrees : (s : ℕ) (q : Sending) (t : Terms) → Agrees (with_sent (begun_by q) s q t) (sends s q t)
sends_agrees s q t = pays_agrees t.owes t.sent s q (with_sent (begun_by q) s q t) _ (begins_agrees (begun_by q) s q t)

pub sent_knows : {requests : RequestsState} {nodes : ℕ} → (s : ℕ) (q : Sending) (t : Terms) (begun : Option Transaction) → begun_by q ≡ begun → s ≡ t.count + 1 → KnowsBy requests nodes t.ids (upd t.sent (t.count + 1) (Some q)) (with_begun begun (t.count + 1) t.current) t.bus (t.count + 1) → Knows requests nodes (sends s q t)
sent_knows {requests} {nodes} s q t begun e n k =
    still_knows {t = with_sent (begun_by q) s q t} (sends_agrees s q t)
    (subst (λ b. Knows requests nodes (with_sent b s q t)) (sym e)
    (subst (λ m. Knows requests nodes (with_sent begun m q t)) (sym n) k))
