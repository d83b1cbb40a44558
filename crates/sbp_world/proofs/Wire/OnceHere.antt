-- The once law of the laws, over every list of moves: it follows from that of the wire.
use Rattle.sbp_world.proofs.Words.Std.{if◌then◌else◌, arith, sym, ◌∙◌, ap, subst, upd}
use Rattle.sbp_world.proofs.Words.Wire.{PacketFault, extended_of, header_of, length_of, offset_of, rcode_of, tcode_of, value_of, fault_of, Packet, write_quadlet, write_block, write_response, read_quadlet, read_block, read_quadlet_response, read_block_response, lock, lock_response, packet_of, payload_in, reading, unless_fault, Asked, Stale, Finding, of_generation, of_grammar, of_label, of_response, of_again, of_request, answering_step, asking_step, expiring_step, judging_step, May, MayAll, is_plain, Move, ask, answer, inject, deliver, lose, expire, disown, reset, see, start, tell, after, answering, asking, expiring, moved, IsOnce, IsAwaited, Reached, Due, Node, Wire, decided, first_note, id_for, transaction, Moment, said, Kind, writing, reading_quadlet, reading_block, locking, is_same_kind, Part, request, response, part_by, part_in, part_of, is_to, Sending, Transaction, asked_by, begun_by, between, Held, Owed, Terms, arrives, begins, begun_in, closes, closes_if, free, gets, gets_as, gives, ignores, ignores_that, is_news, is_served, judges, judges_if, noted, opened, pays, puts, rests, sends, terms, times_out, waits, asked_in, Event, Cause, Note}
use Rattle.sbp_world.proofs.Words.Initiator.{Done, Refused}
use Rattle.sbp_world.proofs.Words.Laws.{ClosesOne, IsNew, OnceAt, OnceLaw, WasServed, is_between, is_done, is_fair, is_wild, is_write_in, access_in, answer_in, answer_of, answered_as, answered_at, answered_in, closed_by, packet_at, packet_in, spelled_by, EachMoment}
use Rattle.std.specs.Prelude.{◌≡◌, ℕ, ◌+◌, ◌==◌, ◌&&◌, not, nat_eq, Bool, true, false, cond, List, [], ◌∷◌, Option, Some, None, Result, Ok, Err, refl}
use Rattle.bus_transactions.proofs.MoveOthers.{plain_terms}
use Rattle.bus_transactions.proofs.PacketLaws.{once_always, served_always}
use Rattle.bus_transactions.proofs.Reaches.{goes_on}
use Rattle.sbp_journal.specs.Transactions.{no_packet}
use Rattle.sbp_journal.specs.declared.event.Event.TheVariants as events
use Rattle.sbp_journal.specs.declared.cause.Cause.TheVariants as causes
use Rattle.sbp_journal.specs.declared.note.Note.TheVariants as notes
use Rattle.sbp_world.proofs.Wire.Agrees.{Agrees, got_agrees, ignored_agrees}

-- ---- a write, and its response
is_writing : (p : Packet) → is_write_in (access_in (Some p)) ≡ true → (label : ℕ) × (part_in p ≡ request label writing)
is_writing (write_quadlet header offset value) e = (header.label, refl)
is_writing (write_block header offset payload) e = (header.label, refl)
is_writing (write_response header rcode) e = cc
is_writing (read_quadlet header offset) e = cc
is_writing (read_block header offset count) e = cc
is_writing (read_quadlet_response header rcode value) e = cc
is_writing (read_block_response header rcode payload) e = cc
is_writing (lock header offset extended payload) e = cc
is_writing (lock_response header rcode extended payload) e = cc

writes_by : (read : Result Packet PacketFault) → is_write_in (access_in (spelled_by read)) ≡ true → (label : ℕ) × (part_by read ≡ request label writing)
writes_by (Ok p) e = is_writing p e
writes_by (Err fault) e = cc

writes : (bytes : List ℕ) → is_write_in (access_in (spelled_by (reading bytes))) ≡ true → (label : ℕ) × (part_of bytes ≡ request label writing)
unfolding part_of
writes bytes e = writes_by (reading bytes) e

done_zero : (b : Bool) (rcode : ℕ) → (rcode == 0) ≡ b → is_done (if b then Done else Refused rcode) ≡ true → rcode ≡ 0
done_zero true rcode f e = grind arith
done_zero false rcode f e = cc

abbrev spelled_as : List ℕ → (a b c d e f g h : Bool) → Packet
spelled_as bytes a b c d e f g h =
    if a then write_quadlet (header_of bytes) (offset_of bytes) (value_of bytes)
    else if b then write_block (header_of bytes) (offset_of bytes) (payload_in bytes)
    else if c then write_response (header_of bytes) (rcode_of bytes)
    else if d then read_quadlet (header_of bytes) (offset_of bytes)
    else if e then read_block (header_of bytes) (offset_of bytes) (length_of bytes)
    else if f then read_quadlet_response (header_of bytes) (rcode_of bytes) (value_of bytes)
    else if g then read_block_response (header_of bytes) (rcode_of bytes) (payload_in bytes)
    else if h then lock (header_of bytes) (offset_of bytes) (extended_of bytes) (payload_in bytes)
    else lock_response (header_of bytes) (rcode_of bytes) (extended_of bytes) (payload_in bytes)

done_bits : (bytes : List ℕ) (label : ℕ) (a b c d e f g h : Bool) → part_in (spelled_as bytes a b c d e f g h) ≡ response label writing → is_done (answer_of (spelled_as bytes a b c d e f g h)) ≡ true → rcode_of bytes ≡ 0
done_bits bytes label true b c d e f g h p q = cc
done_bits bytes label false true c d e f g h p q = cc
done_bits bytes label false false true d e f g h p q = done_zero (rcode_of bytes == 0) (rcode_of bytes) refl q
done_bits bytes label false false false true e f g h p q = cc
done_bits bytes label false false false false true f g h p q = cc
done_bits bytes label false false false false false true g h p q = cc
done_bits bytes label false false false false false false true h p q = cc
done_bits bytes label false false false false false false false true p q = cc
done_bits bytes label false false false false false false false false p q = cc

done_in : (bytes : List ℕ) (label : ℕ) (fault : Option PacketFault) → part_by (unless_fault fault (packet_of bytes (tcode_of bytes))) ≡ response label writing → is_done (answer_in (spelled_by (unless_fault fault (packet_of bytes (tcode_of bytes))))) ≡ true → rcode_of bytes ≡ 0
done_in bytes label None p q =
    let t = tcode_of bytes in
    done_bits bytes label (t == 0) (t == 1) (t == 2) (t == 4) (t == 5) (t == 6) (t == 7) (t == 9) p q
done_in bytes label (Some fault) p q = cc

-- a write response that is complete has rcode 0
completes : (bytes : List ℕ) (label : ℕ) → part_of bytes ≡ response label writing → is_done (answer_in (spelled_by (reading bytes))) ≡ true → rcode_of bytes ≡ 0
unfolding part_of reading
completes bytes label p q = done_in bytes label (fault_of bytes) p q

-- ---- how often a packet was taken as new
judged_news : (u : Option Transaction) (cause : Option Cause) (s : ℕ) (q : Sending) (t : Terms) → (judges u cause s q t).news ≡ t.news
judged_news None cause s q t = refl
judged_news (Some u) cause s q t = refl

if_news : (b : Bool) (u : Option Transaction) (s : ℕ) (q : Sending) (t : Terms) → (judges_if b u s q t).news ≡ t.news
if_news true u s q t = judged_news u (Some causes.Grammar) s q t
if_news false u s q t = refl

closed_news : (held : Held) (u : Transaction) (kind : Kind) (rcode : ℕ) (t : Terms) → (closes held u kind rcode t).news ≡ t.news
closed_news free u kind rcode t = refl
closed_news rests u kind rcode t = refl
closed_news (waits k s) u kind rcode t = by_test (is_same_kind k kind)
  where
    by_test : (b : Bool) → (closes_if b s u rcode t).news ≡ t.news
    by_test true = refl
    by_test false = refl

got_news : (part : Part) (s : ℕ) (q : Sending) (t : Terms) → (gets_as part s q t).news ≡ t.news
got_news (request label kind) s q t = judged_news (asked_by q) None s q t
got_news (response label kind) s q t = closed_news (t.held (between q q.to q.from label)) (between q q.to q.from label) kind (rcode_of q.bytes) t
got_news no_packet s q t = refl

-- one more
one_more : (news : ℕ → ℕ) (s : ℕ) → upd news s (news s + 1) s ≡ news s + 1
one_more news s = ap (λ b. cond b (news s + 1) (news s)) (let e : nat_eq s s ≡ true = grind arith in e)

abbrev not_counted : Cause → Bool
not_counted causes.Generation = true
not_counted causes.Again = true
not_counted cause = false

ignored_news : (cause : Cause) (s : ℕ) (q : Sending) (t : Terms) → not_counted cause ≡ false → (ignores cause s q t).news s ≡ t.news s + 1
ignored_news causes.Generation s q t e = cc
ignored_news causes.Again s q t e = cc
ignored_news causes.Grammar s q t e =
    ap (λ (f : ℕ → ℕ). f s) (if_news (is_to q.bytes (t.ids q.generation q.to)) (asked_by q) s q (is_news s t)) ∙ one_more t.news s
ignored_news causes.Label s q t e = one_more t.news s
ignored_news causes.Source s q t e = ap (λ (f : ℕ → ℕ). f s) (judged_news (asked_by q) (Some causes.Source) s q (is_news s t)) ∙ one_more t.news s
ignored_news causes.Login s q t e = ap (λ (f : ℕ → ℕ). f s) (judged_news (asked_by q) (Some causes.Login) s q (is_news s t)) ∙ one_more t.news s
ignored_news causes.Slot s q t e = ap (λ (f : ℕ → ℕ). f s) (judged_news (asked_by q) (Some causes.Slot) s q (is_served s (is_news s t))) ∙ one_more t.news s

noted_got : (t : Terms) (s : ℕ) (q : Sending) → t.sent s ≡ Some q → (noted (notes.Got s) t).news s ≡ t.news s + 1
noted_got t s q e =
    ap (λ so. (gets so s t).news s) e
    ∙ ap (λ (f : ℕ → ℕ). f s) (got_news (part_of q.bytes) s q (is_served s (is_news s (arrives s t))))
    ∙ one_more t.news s

noted_ignored : (t : Terms) (s : ℕ) (cause : Cause) (q : Sending) → t.sent s ≡ Some q → not_counted cause ≡ false → (noted (notes.Ignored s cause) t).news s ≡ t.news s + 1
noted_ignored t s cause q e n = ap (λ so. (ignores_that so cause s t).news s) e ∙ ignored_news cause s q (arrives s t) n

-- ---- what a response closes
not_three : (a b c : Bool) → ((not a && not b) && c) ≡ true → (a ≡ false) × (b ≡ false) × (c ≡ true)
not_three false false true e = (refl, refl, refl)
not_three false false false e = cc
not_three false true c e = cc
not_three true b c e = cc

not_five : (a b c d e : Bool) → (((not a && not b && not c) && d) && e) ≡ true → (a ≡ false) × (b ≡ false) × (c ≡ false) × (d ≡ true) × (e ≡ true)
not_five false false false true true f = (refl, refl, refl, refl, refl)
not_five false false false true false f = cc
not_five false false false false e f = cc
not_five false false true d e f = cc
not_five false true c d e f = cc
not_five true b c d e f = cc

pub other_news : (news : ℕ → ℕ) (s own n : ℕ) → nat_eq own s ≡ false → upd news s n own ≡ news own
other_news news s own n e = ap (λ b. cond b n (news own)) e

closed_served : (held : Held) (u : Transaction) (kind : Kind) (rcode : ℕ) (t : Terms) → (closes held u kind rcode t).served ≡ t.served
closed_served free u kind rcode t = refl
closed_served rests u kind rcode t = refl
closed_served (waits k s) u kind rcode t = by_test (is_same_kind k kind)
  where
    by_test : (b : Bool) → (closes_if b s u rcode t).served ≡ t.served
    by_test true = refl
    by_test false = refl

record Closes (t : Terms) (s own : ℕ) : Type 0 where
  q : Sending
  sent : t.sent s ≡ Some q
  label : ℕ
  kind : Kind
  part : part_of q.bytes ≡ response label kind
  waited : Kind
  held : t.held (between q q.to q.from label) ≡ waits waited own
  same : is_same_kind waited kind ≡ true

held_closes : (held : Held) (kind : Kind) (own : ℕ) → closed_by held kind ≡ Some own → (waited : Kind) × (held ≡ waits waited own) × (is_same_kind waited kind ≡ true)
held_closes free kind own e = cc
held_closes rests kind own e = cc
held_closes (waits waited serial) kind own e = by_test (is_same_kind waited kind) refl e
  where
    by_test : (b : Bool) → is_same_kind waited kind ≡ b → (if b then Some serial else None) ≡ Some own → (w : Kind) × (waits waited serial ≡ waits w own) × (is_same_kind w kind ≡ true)
    by_test true f e = (waited, cc, f)
    by_test false f e = cc

part_closes : (t : Terms) (s own : ℕ) (q : Sending) (part : Part) → t.sent s ≡ Some q → part_of q.bytes ≡ part → answered_as part t q ≡ Some own → Closes t s own
part_closes t s own q (response label kind) sent is e =
    let h = held_closes (t.held (between q q.to q.from label)) kind own e in
    record { q = q; sent = sent; label = label; kind = kind; part = is; waited = h.0; held = h.1; same = h.2 }
part_closes t s own q (request label kind) sent is e = cc
part_closes t s own q no_packet sent is e = cc

sent_closes : (t : Terms) (s own : ℕ) (so : Option Sending) → t.sent s ≡ so → answered_in t so ≡ Some own → Closes t s own
sent_closes t s own None sent e = cc
sent_closes t s own (Some q) sent e = part_closes t s own q (part_of q.bytes) sent refl e

pub same_writing : (waited kind : Kind) → waited ≡ writing → is_same_kind waited kind ≡ true → kind ≡ writing
same_writing writing writing e s = refl
same_writing writing reading_quadlet e s = cc
same_writing writing reading_block e s = cc
same_writing writing locking e s = cc
same_writing reading_quadlet kind e s = cc
same_writing reading_block kind e s = cc
same_writing locking kind e s = cc

request_kind : (part : Part) (l m : ℕ) (kind other : Kind) → part ≡ request l kind → part ≡ request m other → kind ≡ other
request_kind part l m kind other e f = cc

no_both : (part : Part) (l m : ℕ) (kind other : Kind) → part ≡ request l kind → part ≡ response m other → ⊥
no_both part l m kind other e f = cc

module _ (wild : ℕ → Bool) (w : Wire) (reached : Reached w) where
  abbrev t : Terms
  t = terms w.past

  -- what holds once a note is said
  record Later (note : Note) : Type 0 where
    once : (s label : ℕ) (q : Sending) → (noted note t).sent s ≡ Some q → q.injected ≡ false → part_of q.bytes ≡ request label writing → IsOnce (noted note t) s q
    served : (s label : ℕ) (q : Sending) → (noted note t).sent s ≡ Some q → q.injected ≡ false → part_of q.bytes ≡ request label writing → (noted note t).injects q.from ≡ false → (noted note t).injects q.to ≡ false → (noted note t).closed s ≡ Some 0 → (noted note t).served s ≡ 1
    covers : (n : ℕ) → (noted note t).injects n ≡ true → is_wild wild n ≡ true
    agrees : Agrees t (noted note t)

  tame : (note : Note) → Later note → (n : ℕ) → is_wild wild n ≡ false → (noted note t).injects n ≡ false
  tame note l n e = by_test ((noted note t).injects n) refl
    where
      by_test : (b : Bool) → (noted note t).injects n ≡ b → b ≡ false
      by_test true f = let x = l.covers n f in cc
      by_test false f = refl

  new_by : (note : Note) → Later note → (s : ℕ) (so : Option Sending) → t.sent s ≡ so → ((q : Sending) → t.sent s ≡ Some q → (noted note t).news s ≡ t.news s + 1) → (is_fair wild so && is_write_in (access_in (packet_in so))) ≡ true → t.news s ≡ 0
  new_by note l s None sent more e = cc
  new_by note l s (Some q) sent more e =
      let b = not_three q.injected (is_wild wild q.from) (is_write_in (access_in (packet_in (Some q)))) e in
      let p = writes q.bytes b.2 in
      let most = (l.once s p.0 q (ap (λ (f : ℕ → Option Sending). f s) l.agrees.sent ∙ sent) b.0 p.1).most (tame note l q.from b.1) in
      let now = more q sent in
      omega (arith, most, now)

  is_new : (note : Note) → Later note → (s : ℕ) → ((q : Sending) → t.sent s ≡ Some q → (noted note t).news s ≡ t.news s + 1) → IsNew wild t s
  is_new note l s more e =
      new_by note l s (t.sent s) refl more e

  -- a write that is closed as complete
  module _ (s own : ℕ) (c : Closes t s own) (l : Later (notes.Got s)) where
    abbrev later : Terms
    later = noted (notes.Got s) t

    abbrev u : Transaction
    u = between c.q c.q.to c.q.from c.label

    abbrev came : Terms
    came = is_served s (is_news s (arrives s t))

    awaited : IsAwaited t u c.waited own
    awaited = goes_on.awaited w u c.waited own reached c.held

    apart : nat_eq own s ≡ false
    apart = by_test (nat_eq own s) refl
      where
        by_test : (b : Bool) → nat_eq own s ≡ b → b ≡ false
        by_test true f =
            let same : own ≡ s = grind arith in
            let is : awaited.packet ≡ c.q = let x : Some awaited.packet ≡ Some c.q = sym awaited.sent ∙ ap t.sent same ∙ c.sent in cc in
            absurd (no_both (part_of c.q.bytes) u.label c.label c.waited c.kind (ap (λ (p : Sending). part_of p.bytes) (sym is) ∙ awaited.part) c.part)
        by_test false f = refl

    closed_now : later.closed own ≡ Some (rcode_of c.q.bytes)
    closed_now =
        ap (λ so. (gets so s t).closed own) c.sent
        ∙ ap (λ p. (gets_as p s c.q came).closed own) c.part
        ∙ ap (λ h. (closes h u c.kind (rcode_of c.q.bytes) came).closed own) c.held
        ∙ ap (λ b. (closes_if b own u (rcode_of c.q.bytes) came).closed own) c.same
        ∙ ap (λ b. cond b (Some (rcode_of c.q.bytes)) (t.closed own)) (let e : nat_eq own own ≡ true = grind arith in e)

    news_same : later.news own ≡ t.news own
    news_same =
        ap (λ so. (gets so s t).news own) c.sent
        ∙ ap (λ (f : ℕ → ℕ). f own) (got_news (part_of c.q.bytes) s c.q came)
        ∙ other_news t.news s own (t.news s + 1) apart

    served_same : later.served own ≡ t.served own
    served_same =
        ap (λ so. (gets so s t).served own) c.sent
        ∙ ap (λ p. (gets_as p s c.q came).served own) c.part
        ∙ ap (λ (f : ℕ → ℕ). f own) (closed_served (t.held u) u c.kind (rcode_of c.q.bytes) came)
        ∙ other_news t.served s own (t.served s + 1) apart

    was_served : (so : Option Sending) → t.sent own ≡ so → ((is_between wild so && is_write_in (access_in (packet_in so))) && is_done (answer_in (packet_at t s))) ≡ true → WasServed t own
    was_served None sent e = cc
    was_served (Some q) sent e =
        let b = not_five q.injected (is_wild wild q.from) (is_wild wild q.to) (is_write_in (access_in (packet_in (Some q)))) (is_done (answer_in (packet_at t s))) e in
        let p = writes q.bytes b.3 in
        let same : awaited.packet ≡ q = let x : Some awaited.packet ≡ Some q = sym awaited.sent ∙ sent in cc in
        let kind : c.kind ≡ writing = same_writing c.waited c.kind (request_kind (part_of q.bytes) u.label p.0 c.waited writing (ap (λ (x : Sending). part_of x.bytes) (sym same) ∙ awaited.part) p.1) c.same in
        let zero_rcode : rcode_of c.q.bytes ≡ 0 = completes c.q.bytes c.label (c.part ∙ ap (λ k. response c.label k) kind) (ap (λ so. is_done (answer_in (packet_in so))) (sym c.sent) ∙ b.4) in
        let now : later.sent own ≡ Some q = ap (λ (f : ℕ → Option Sending). f own) l.agrees.sent ∙ sent in
        let closed : later.closed own ≡ Some 0 = closed_now ∙ ap Some zero_rcode in
        let from = tame (notes.Got s) l q.from b.1 in
        let to = tame (notes.Got s) l q.to b.2 in
        record {
          once = sym news_same ∙ (l.once own p.0 q now b.0 p.1).once 0 from to closed;
          served = sym served_same ∙ l.served own p.0 q now b.0 p.1 from to closed;
        }

  closes_by : (s : ℕ) (o : Option ℕ) → answered_at t s ≡ o → Later (notes.Got s) → ClosesOne wild t o (answer_in (packet_at t s))
  closes_by s None e l = tt
  closes_by s (Some own) e l = λ f. was_served s own (sent_closes t s own (t.sent s) refl e) l (t.sent own) refl f

  got_once : (s : ℕ) → Later (notes.Got s) → OnceAt wild (said (notes.Got s)) w.past
  got_once s l = (is_new (notes.Got s) l s (λ q e. noted_got t s q e), closes_by s (answered_at t s) refl l)

  ignored_once : (s : ℕ) (cause : Cause) → Later (notes.Ignored s cause) → OnceAt wild (said (notes.Ignored s cause)) w.past
  ignored_once s causes.Generation l = tt
  ignored_once s causes.Again l = tt
  ignored_once s causes.Grammar l = is_new (notes.Ignored s causes.Grammar) l s (λ q e. noted_ignored t s causes.Grammar q e refl)
  ignored_once s causes.Label l = is_new (notes.Ignored s causes.Label) l s (λ q e. noted_ignored t s causes.Label q e refl)
  ignored_once s causes.Source l = is_new (notes.Ignored s causes.Source) l s (λ q e. noted_ignored t s causes.Source q e refl)
  ignored_once s causes.Login l = is_new (notes.Ignored s causes.Login) l s (λ q e. noted_ignored t s causes.Login q e refl)
  ignored_once s causes.Slot l = is_new (notes.Ignored s causes.Slot) l s (λ q e. noted_ignored t s causes.Slot q e refl)

  decided_once : (cause : Option Cause) (s : ℕ) → Later (decided cause s) → OnceAt wild (said (decided cause s)) w.past
  decided_once None s l = got_once s l
  decided_once (Some cause) s l = ignored_once s cause l

  first_once : (f : Finding (Unit {0})) (cause : Option Cause) (s : ℕ) → Later (first_note f cause s) → OnceAt wild (said (first_note f cause s)) w.past
  first_once of_generation cause s l = tt
  first_once of_grammar cause s l = ignored_once s causes.Grammar l
  first_once of_label cause s l = ignored_once s causes.Label l
  first_once (of_response p label purpose) cause s l = got_once s l
  first_once (of_again p rcode) cause s l = tt
  first_once (of_request p) cause s l = decided_once cause s l

-- ---- who has injected packets still has
given_injects : (u : Option Transaction) (rcode : ℕ) (t : Terms) → (gives u rcode t).injects ≡ t.injects
given_injects None rcode t = refl
given_injects (Some u) rcode t = refl

paid_injects : (owed : Option Owed) (sent : ℕ → Option Sending) (s : ℕ) (q : Sending) (t : Terms) → (pays owed sent s q t).injects ≡ t.injects
paid_injects None sent s q t = refl
paid_injects (Some owed) sent s q t = given_injects (asked_in (sent owed.serial)) (rcode_of q.bytes) t

begun_injects : (u : Option Transaction) (s : ℕ) (q : Sending) (t : Terms) → (begins u s q t).injects ≡ t.injects
begun_injects None s q t = refl
begun_injects (Some u) s q t = refl

put_injects : (b : Bool) (from n : ℕ) (injects : ℕ → Bool) → injects n ≡ true → (if b then upd injects from true else injects) n ≡ true
put_injects true from n injects e = by_test (nat_eq n from)
  where
    by_test : (b : Bool) → cond b true (injects n) ≡ true
    by_test true = refl
    by_test false = e
put_injects false from n injects e = e

sent_injects : (s : ℕ) (q : Sending) (t : Terms) (n : ℕ) → t.injects n ≡ true → (sends s q t).injects n ≡ true
sent_injects s q t n e =
    ap (λ (f : ℕ → Bool). f n) (paid_injects t.owes t.sent s q (begins (begun_by q) s q (puts (begun_by q) s q t)) ∙ begun_injects (begun_by q) s q (puts (begun_by q) s q t))
    ∙ put_injects q.injected q.from n t.injects e

timed_injects : (u : Option Transaction) (t : Terms) → (times_out u t).injects ≡ t.injects
timed_injects None t = refl
timed_injects (Some u) t = refl

opened_injects : (event : Event) (t : Terms) → (opened event t).injects ≡ t.injects
opened_injects (events.Begin n ready) t = refl
opened_injects (events.Act i action) t = refl
opened_injects (events.Reset physical) t = refl
opened_injects (events.See node) t = refl
opened_injects (events.Deliver s) t = refl
opened_injects (events.Repeat s) t = refl
opened_injects (events.Lose s) t = refl
opened_injects (events.Timeout s) t = refl
opened_injects (events.Step count) t = refl
opened_injects events.Settle t = refl
opened_injects events.Tick t = refl
opened_injects (events.Inject i bytes) t = refl
opened_injects (events.Key unit key) t = refl

abbrev Covers : (ℕ → Bool) → List Moment → Type 0
Covers wild past = (n : ℕ) → (terms past).injects n ≡ true → is_wild wild n ≡ true

abbrev Each : (ℕ → Bool) → List Moment → Type 0
Each wild past = EachMoment (OnceAt wild) past

first_agrees : (f : Finding (Unit {0})) (cause : Option Cause) (s : ℕ) (t : Terms) → Agrees t (noted (first_note f cause s) t)
first_agrees of_generation cause s t = ignored_agrees (t.sent s) causes.Generation s t
first_agrees of_grammar cause s t = ignored_agrees (t.sent s) causes.Grammar s t
first_agrees of_label cause s t = ignored_agrees (t.sent s) causes.Label s t
first_agrees (of_response p label purpose) cause s t = got_agrees (t.sent s) s t
first_agrees (of_again p rcode) cause s t = ignored_agrees (t.sent s) causes.Again s t
first_agrees (of_request p) None s t = got_agrees (t.sent s) s t
first_agrees (of_request p) (Some cause) s t = ignored_agrees (t.sent s) cause s t

plain_once : (wild : ℕ → Bool) (note : Note) (past : List Moment) → is_plain note ≡ true → OnceAt wild (said note) past
unfolding is_plain
plain_once wild (notes.Got s) past e = cc
plain_once wild (notes.Ignored s cause) past e = cc
plain_once wild note past e = tt

-- ---- every move
sent_covers : (wild : ℕ → Bool) (past : List Moment) (s generation from to : ℕ) (bytes : List ℕ) → Covers wild (said (notes.Sent s generation from to bytes) ∷ past) → Covers wild past
sent_covers wild past s generation from to bytes c n e =
    c n (sent_injects s (record { generation = generation; from = from; to = to; bytes = bytes; injected = (terms past).injected s }) (terms past) n e)

module _ (wild : ℕ → Bool) (moves : List Move) (may : MayAll moves) (before : Covers wild (after moves).past → Each wild (after moves).past) where
  abbrev w : Wire
  w = after moves

  reached : Reached w
  reached = record { moves = moves; may = may; is = refl }

  asked_each : (node peer : ℕ) (r : Option Asked × Node) → Covers wild (asking r node peer w).past → Each wild (asking r node peer w).past
  asked_each node peer (Some found, layer) c = (tt, before (sent_covers wild w.past (w.store.last + 1) (w.layer node).generation node peer found.bytes c))
  asked_each node peer (None, layer) c = before c

  answered_each : (due : Option Due) (rcode : ℕ) (given : List ℕ) → Covers wild (answering due rcode given w).past → Each wild (answering due rcode given w).past
  answered_each None rcode given c = before c
  answered_each (Some due) rcode given c =
      (tt, before (sent_covers wild w.past (w.store.last + 1) (w.layer due.request.to).generation due.request.to due.request.from (answering_step (w.layer due.request.to) due.packet due.request.bytes rcode given).0 c))

  expired_each : (node peer label : ℕ) (r : Result (Option (Unit {0})) Stale × Node) → Covers wild (expiring r node peer label w).past → Each wild (expiring r node peer label w).past
  expired_each node peer label (Ok purpose, layer) c =
      let s = (terms w.past).current (transaction (w.layer node).generation node peer label) in
      (tt, before (λ n e. c n (ap (λ (f : ℕ → Bool). f n) (timed_injects (begun_in ((terms w.past).sent s)) (terms w.past)) ∙ e)))
  expired_each node peer label (Err stale, layer) c = before c

  move_each : (move : Move) → May move w → Covers wild (moved move w).past → Each wild (moved move w).past
  move_each (ask node peer body) m c = asked_each node peer (asking_step (w.layer node) (id_for w node peer) body tt) c
  move_each (answer rcode given) m c = answered_each w.due rcode given c
  move_each (inject node peer bytes) m c =
      (tt, (tt, before (sent_covers wild (said (notes.Injected (w.store.last + 1)) ∷ w.past) (w.store.last + 1) (w.layer node).generation node peer bytes c)))
  move_each (deliver kept cause) m c =
      let f = (judging_step (w.layer kept.sent.to) kept.sent.generation kept.sent.bytes).0 in
      let a = first_agrees f cause kept.serial (terms w.past) in (
        first_once wild w reached f cause kept.serial
            (record { once = once_always (deliver kept cause ∷ moves) (m, may); served = served_always (deliver kept cause ∷ moves) (m, may); covers = c; agrees = a }),
        before (λ n e. c n (ap (λ (x : ℕ → Bool). x n) a.injects ∙ e)),
      )
  move_each (lose s) m c = (tt, before c)
  move_each (expire node peer label) m c = expired_each node peer label.number (expiring_step (w.layer node) (id_for w node peer) label) c
  move_each (disown node peer label) m c = before c
  move_each (reset line physical) m c = (tt, (tt, before c))
  move_each (see node) m c = (tt, before c)
  move_each (start line event) m c = (tt, before (λ n e. c n (ap (λ (x : ℕ → Bool). x n) (opened_injects event (terms w.past)) ∙ e)))
  move_each (tell note) m c =
      (plain_once wild note w.past m, before (λ n e. c n (ap (λ (t : Terms). t.injects n) (plain_terms note (terms w.past) m) ∙ e)))

each_after : (wild : ℕ → Bool) (moves : List Move) → MayAll moves → Covers wild (after moves).past → Each wild (after moves).past
each_after wild [] may c = tt
each_after wild (move ∷ moves) may c = move_each wild moves may.1 (λ d. each_after wild moves may.1 d) move may.0 c

-- of every wire that is reached
pub once_here : (wild : ℕ → Bool) (wire : Wire) → Reached wire → ((n : ℕ) → (terms wire.past).injects n ≡ true → is_wild wild n ≡ true) → OnceLaw wild wire.past
once_here wild wire r c =
    subst (λ (x : Wire). Each wild x.past) (sym r.is) (each_after wild r.moves r.may (subst (λ (x : Wire). Covers wild x.past) r.is c))
