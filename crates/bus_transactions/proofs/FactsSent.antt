-- A packet is sent.
use Rattle.std.specs.Prelude.{◌≡◌, ℕ, ◌+◌, ◌<◌, ◌≤◌, nat_eq, Bool, true, false, cond, Option, Some, None, refl}
use Rattle.std.proofs.Common.{arith, sym, ◌∙◌, ap, subst}
use Rattle.sbp_base.specs.Update.{upd}
use Rattle.label_table.specs.Requests.{is_write, is_last}
use Rattle.sbp_journal.specs.Transactions.{Kind, request, part_of, Transaction, is_same, at, Sending, between, begun_by, belongs}
use Rattle.sbp_journal.specs.Wire.{Terms, Flight, unsent, in_flight, delivered, lost, withdrawn, withdraw, belongs_to, by_bus_rule, free, waits, Owed}
use Rattle.bus_transactions.proofs.PacketParts.{same_refl, same_is}
use Rattle.bus_transactions.proofs.Follows.{is_live}
use Rattle.bus_transactions.proofs.Ties.{Tie, tie_counts, tie_begins, tie_weaker}
use Rattle.bus_transactions.proofs.Facts.{fair, both, IsAsked, Honest, Flies, Counts, IsKind, IsReply, Facts, both_fair, nat_same, nat_apart, nat_above, some_same, response_asked, none_begun, begun_belongs, reply_belongs}

-- what was sent stays
pub sent_kept : {t : Terms} → Facts t → (q : Sending) (r : ℕ) (p : Sending) (b : Bool) → nat_eq r (t.count + 1) ≡ b → t.sent r ≡ Some p → cond b (Some q) (t.sent r) ≡ Some p
sent_kept f q r p false i e = e
sent_kept {t} f q r p true i e =
    let is : r ≡ t.count + 1 = grind arith in
    let g = f.unsent r (omega arith) in
    absurd (nothing (sym g.sent_is ∙ e))
  where
    nothing : {p : Sending} → None ≡ Some p → ⊥
    nothing e = cc

kind_kept : {t : Terms} → Facts t → (q : Sending) (r l : ℕ) (k : Kind) → IsKind (t.sent r) l k → IsKind (upd t.sent (t.count + 1) (Some q) r) l k
kind_kept {t} f q r l k i = record { packet = i.packet; sent_is = sent_kept f q r i.packet (nat_eq r (t.count + 1)) refl i.sent_is; part = i.part }

reply_kept : {t : Terms} → Facts t → (q : Sending) (s r : ℕ) → IsReply (t.sent s) (t.sent r) → IsReply (upd t.sent (t.count + 1) (Some q) s) (upd t.sent (t.count + 1) (Some q) r)
reply_kept {t} f q s r i = record {
  reply = i.reply;
  asking = i.asking;
  reply_is = sent_kept f q s i.reply (nat_eq s (t.count + 1)) refl i.reply_is;
  asking_is = sent_kept f q r i.asking (nat_eq r (t.count + 1)) refl i.asking_is;
  label = i.label;
  kind = i.kind;
  reply_part = i.reply_part;
  asking_part = i.asking_part;
  generation = i.generation;
  from_is = i.from_is;
  to_is = i.to_is;
}

-- the bus rule leaves a packet in flight or delivered alone where it is of another transaction
pub live_not : (b : Bool) (state : Flight) → is_live (cond b (withdraw state) state) ≡ true → (b ≡ false) × (is_live state ≡ true)
live_not false state e = (refl, e)
live_not true unsent e = cc
live_not true in_flight e = cc
live_not true delivered e = cc
live_not true lost e = cc
live_not true withdrawn e = cc

-- ---- the request of a transaction
abbrev pub begins_at : (t : Terms) → Transaction → Kind → Sending → Terms
begins_at t u kind q = record t {
  count = t.count + 1;
  sent = upd t.sent (t.count + 1) (Some q);
  flight = upd (by_bus_rule (Some u) t.sent t.flight) (t.count + 1) in_flight;
  held = at t.held u (waits kind (t.count + 1));
  current = at t.current u (t.count + 1);
  last = at t.last u (Some q.bytes);
}

module _ {t : Terms} (f : Facts t) (u : Transaction) (kind : Kind) (q : Sending) (begun : begun_by q ≡ Some u) where
  new_tie : t.held u ≡ free → (is_write q.bytes ≡ true → is_last (t.last u) q.bytes ≡ false) → (v : Transaction) (b : Bool) → is_same v u ≡ b → Tie (fair t.injects v) (both t.injects v) (t.count + 1) (cond b (t.count + 1) (t.current v)) (cond b (Some q.bytes) (t.last v)) (t.seen v) (cond b (waits kind (t.count + 1)) (t.held v)) (t.judged (cond b (t.count + 1) (t.current v))) (t.news (cond b (t.count + 1) (t.current v)))
  new_tie is_free differs v true s =
      let g = f.unsent (t.count + 1) (omega arith) in
      subst (λ w. Tie (fair t.injects w) (both t.injects w) (t.count + 1) (t.count + 1) (Some q.bytes) (t.seen w) (waits kind (t.count + 1)) (t.judged (t.count + 1)) (t.news (t.count + 1))) (sym (same_is v u s))
      (subst (λ n. Tie (fair t.injects u) (both t.injects u) (t.count + 1) (t.count + 1) (Some q.bytes) (t.seen u) (waits kind (t.count + 1)) n (t.news (t.count + 1))) (sym g.unjudged)
      (subst (λ n. Tie (fair t.injects u) (both t.injects u) (t.count + 1) (t.count + 1) (Some q.bytes) (t.seen u) (waits kind (t.count + 1)) 0 n) (sym g.no_news)
      (tie_begins (f.tie u) kind q.bytes is_free differs)))
  new_tie is_free differs v false s = tie_counts (f.tie v)

  new_asked : (v : Transaction) (b : Bool) → is_same v u ≡ b → 0 < cond b (t.count + 1) (t.current v) → IsAsked (cond b (Some q.bytes) (t.last v)) (cond (nat_eq (cond b (t.count + 1) (t.current v)) (t.count + 1)) (Some q) (t.sent (cond b (t.count + 1) (t.current v)))) v
  new_asked v true s h = record {
    packet = q;
    sent_is = rw (nat_same (t.count + 1)) refl;
    begun = begun ∙ ap Some (sym (same_is v u s));
    last_is = refl;
  }
  new_asked v false s h =
      let a = f.asked v h in
      let l = (f.tie v).low in
      record {
        packet = a.packet;
        sent_is = rw (nat_apart (t.current v) (t.count + 1) (omega arith)) a.sent_is;
        begun = a.begun;
        last_is = a.last_is;
      }

  new_early : u.generation ≤ t.generation u.requester → (v : Transaction) (b : Bool) → is_same v u ≡ b → t.generation v.requester < v.generation → cond b (t.count + 1) (t.current v) ≡ 0
  new_early now v true s h =
      let late : t.generation u.requester < u.generation = subst (λ w. t.generation w.requester < w.generation) (same_is v u s) h in
      absurd (omega arith)
  new_early now v false s h = f.early v h

  new_honest : Honest t.ids t.generation t.injects q → (r : ℕ) (p : Sending) (b : Bool) → cond b (Some q) (t.sent r) ≡ Some p → Honest t.ids t.generation t.injects p
  new_honest h r p true e = subst (Honest t.ids t.generation t.injects) (some_same (Some q) q p refl e) h
  new_honest h r p false e = f.honest r p e

  -- a packet that is left is of another transaction
  other_left : (v : Transaction) (p : Sending) → belongs p u ≡ is_same v u → belongs p u ≡ false → cond (is_same v u) (t.count + 1) (t.current v) ≡ t.current v
  other_left v p e not = rw (sym e ∙ not) refl

  old_flies : (r : ℕ) (p : Sending) → t.sent r ≡ Some p → Flies t.injects (at t.current u (t.count + 1)) t.judged (t.answers r) (by_bus_rule (Some u) t.sent t.flight r) r p
  old_flies r p e =
      let old = f.flies r p e in
      let left : is_live (cond (belongs_to u (t.sent r)) (withdraw (t.flight r)) (t.flight r)) ≡ true → (belongs p u ≡ false) × (is_live (t.flight r) ≡ true) = λ live.
      let n = live_not (belongs_to u (t.sent r)) (t.flight r) live in (sym (ap (belongs_to u) e) ∙ n.0, n.1) in
      record {
        asks = λ v b live. let n = left live in old.asks v b n.1 ∙ sym (other_left v p (begun_belongs p v u b) n.0);
        replies = λ l k part honest live fairly.
            let n = left live in
            let v : Transaction = between p p.to p.from l in
            let c : cond (is_same v u) (t.count + 1) (t.current v) ≡ t.current v = other_left v p (reply_belongs p l k u part) n.0 in
            subst (λ c. (t.answers r ≡ Some c) × (0 < t.judged c)) (sym c) (old.replies l k part honest n.1 fairly);
      }

  new_flies : (r : ℕ) (p : Sending) (b : Bool) → nat_eq r (t.count + 1) ≡ b → cond b (Some q) (t.sent r) ≡ Some p → Flies t.injects (at t.current u (t.count + 1)) t.judged (t.answers r) (cond b in_flight (by_bus_rule (Some u) t.sent t.flight r)) r p
  new_flies r p false i e = old_flies r p e
  new_flies r p true i e =
      let same : q ≡ p = some_same (Some q) q p refl e in
      let is : r ≡ t.count + 1 = grind arith in
      record {
        asks = λ v b live.
            let w : u ≡ v = some_same (begun_by p) u v (subst (λ x. begun_by x ≡ Some u) same begun) b in
            let here : at t.current u (t.count + 1) u ≡ t.count + 1 = rw (same_refl u) refl in
            is ∙ sym here ∙ ap (at t.current u (t.count + 1)) w;
        replies = λ l k part honest live fairly.
            let none = none_begun p (response_asked p l k part) in
            absurd (nothing (sym none ∙ subst (λ x. begun_by x ≡ Some u) same begun));
      }
    where
      nothing : {v : Transaction} → None ≡ Some v → ⊥
      nothing e = cc

  new_counts : (r : ℕ) (p : Sending) (b : Bool) → nat_eq r (t.count + 1) ≡ b → cond b (Some q) (t.sent r) ≡ Some p → Counts t.injects (t.news r) (t.closed r) p
  new_counts r p false i e = f.counts r p e
  new_counts r p true i e =
      let is : r ≡ t.count + 1 = grind arith in
      let g = f.unsent r (omega arith) in
      record {
        most = λ v b w h. let n = g.no_news in omega arith;
        once = λ v rcode b w h c. let n = g.open_still in cc;
      }

  new_kind : part_of q.bytes ≡ request u.label kind → (v : Transaction) (k : Kind) (r : ℕ) (b : Bool) → is_same v u ≡ b → cond b (waits kind (t.count + 1)) (t.held v) ≡ waits k r → IsKind (upd t.sent (t.count + 1) (Some q) r) v.label k
  new_kind part v k r false i e = kind_kept f q r v.label k (f.waiting_kind v k r e)
  new_kind part v k r true i e =
      let is_kind : kind ≡ k = kinds e in
      let is_serial : t.count + 1 ≡ r = serials e in
      let here : cond (nat_eq (t.count + 1) (t.count + 1)) (Some q) (t.sent (t.count + 1)) ≡ Some q = ap (λ b. cond b (Some q) (t.sent (t.count + 1))) (nat_same (t.count + 1)) in
      record {
        packet = q;
        sent_is = subst (λ n. upd t.sent (t.count + 1) (Some q) n ≡ Some q) is_serial here;
        part = part ∙ ap (λ (x : Transaction). request x.label kind) (sym (same_is v u i)) ∙ ap (request v.label) is_kind;
      }
    where
      kinds : {k m : Kind} {r n : ℕ} → waits k r ≡ waits m n → k ≡ m
      kinds e = cc

      serials : {k m : Kind} {r n : ℕ} → waits k r ≡ waits m n → r ≡ n
      serials e = cc

  pub facts_begun : t.held u ≡ free → (is_write q.bytes ≡ true → is_last (t.last u) q.bytes ≡ false) → Honest t.ids t.generation t.injects q → u.generation ≤ t.generation u.requester → part_of q.bytes ≡ request u.label kind → Facts (begins_at t u kind q)
  facts_begun is_free differs h now part = record {
    apart = f.apart;
    aged = f.aged;
    unsent = λ s l.
        let g = f.unsent s (omega arith) in
        record {
          sent_is = rw (nat_above s (t.count + 1) l) g.sent_is;
          honest = g.honest;
          unjudged = g.unjudged;
          no_news = g.no_news;
          open_still = g.open_still;
          unanswered = g.unanswered;
        };
    zero = rw (nat_apart 0 (t.count + 1) (omega arith)) f.zero;
    tie = λ v. new_tie is_free differs v (is_same v u) refl;
    asked = λ v. new_asked v (is_same v u) refl;
    early = λ v. new_early now v (is_same v u) refl;
    silent = f.silent;
    ungiven = f.ungiven;
    honest = λ r p. new_honest h r p (nat_eq r (t.count + 1));
    flies = λ r p. new_flies r p (nat_eq r (t.count + 1)) refl;
    counts = λ r p. new_counts r p (nat_eq r (t.count + 1)) refl;
    waiting_kind = λ v k r. new_kind part v k r (is_same v u) refl;
    replied = λ s r e. reply_kept f q s r (f.replied s r e);
  }

-- ---- a packet that begins nothing
abbrev pub puts_at : (t : Terms) → Sending → (injects : ℕ → Bool) → (answers : ℕ → Option ℕ) → (given : Transaction → ℕ) → Option Owed → Terms
puts_at t q injects answers given owes = record t {
  count = t.count + 1;
  sent = upd t.sent (t.count + 1) (Some q);
  flight = upd t.flight (t.count + 1) in_flight;
  injects = injects;
  answers = answers;
  given = given;
  owes = owes;
}

module _ {t : Terms} (f : Facts t) (q : Sending) (begun : begun_by q ≡ None) (injects : ℕ → Bool) (more : (i : ℕ) → injects i ≡ false → t.injects i ≡ false) (answers : ℕ → Option ℕ) (elsewhere : (r : ℕ) → nat_eq r (t.count + 1) ≡ false → answers r ≡ t.answers r) where
  fairly : (u : Transaction) → fair injects u ≡ true → fair t.injects u ≡ true
  fairly u e = let m = more u.requester in grind arith

  bothly : (u : Transaction) → both injects u ≡ true → both t.injects u ≡ true
  bothly u e = let m = more u.requester in let n = more u.responder in grind arith

  put_asked : (v : Transaction) → 0 < t.current v → IsAsked (t.last v) (cond (nat_eq (t.current v) (t.count + 1)) (Some q) (t.sent (t.current v))) v
  put_asked v h =
      let a = f.asked v h in
      let l = (f.tie v).low in
      record {
        packet = a.packet;
        sent_is = rw (nat_apart (t.current v) (t.count + 1) (omega arith)) a.sent_is;
        begun = a.begun;
        last_is = a.last_is;
      }

  bolder : (p : Sending) → Honest t.ids t.generation t.injects p → Honest t.ids t.generation injects p
  bolder p h = record {
    from_small = h.from_small;
    to_small = h.to_small;
    past = h.past;
    bold = λ e. let b = h.bold e in let m = more p.from in grind arith;
    is_for = h.is_for;
    source = h.source;
    label = h.label;
  }

  put_honest : Honest t.ids t.generation injects q → (r : ℕ) (p : Sending) (b : Bool) → cond b (Some q) (t.sent r) ≡ Some p → Honest t.ids t.generation injects p
  put_honest h r p true e = subst (Honest t.ids t.generation injects) (some_same (Some q) q p refl e) h
  put_honest h r p false e = bolder p (f.honest r p e)

  put_flies : Flies injects t.current t.judged (answers (t.count + 1)) in_flight (t.count + 1) q → (r : ℕ) (p : Sending) (b : Bool) → nat_eq r (t.count + 1) ≡ b → cond b (Some q) (t.sent r) ≡ Some p → Flies injects t.current t.judged (answers r) (cond b in_flight (t.flight r)) r p
  put_flies new r p true i e =
      let is : t.count + 1 ≡ r = grind arith in
      subst (λ x. Flies injects t.current t.judged (answers r) in_flight r x) (some_same (Some q) q p refl e)
      (subst (λ x. Flies injects t.current t.judged (answers x) in_flight x q) is new)
  put_flies new r p false i e =
      let old = f.flies r p e in
      record {
        asks = old.asks;
        replies = λ l k part honest live h.
            subst (λ x. (x ≡ Some (t.current (between p p.to p.from l))) × (0 < t.judged (t.current (between p p.to p.from l)))) (sym (elsewhere r i))
            (old.replies l k part honest live (fairly (between p p.to p.from l) h));
      }

  put_counts : (r : ℕ) (p : Sending) (b : Bool) → nat_eq r (t.count + 1) ≡ b → cond b (Some q) (t.sent r) ≡ Some p → Counts injects (t.news r) (t.closed r) p
  put_counts r p true i e =
      let is : r ≡ t.count + 1 = grind arith in
      let g = f.unsent r (omega arith) in
      record {
        most = λ v b w h. let n = g.no_news in omega arith;
        once = λ v rcode b w h c. let n = g.open_still in cc;
      }
  put_counts r p false i e =
      let c = f.counts r p e in
      record {
        most = λ v b w h. c.most v b w (fairly v h);
        once = λ v rcode b w h. c.once v rcode b w (bothly v h);
      }

  put_replied : ((r : ℕ) → answers (t.count + 1) ≡ Some r → IsReply (Some q) (t.sent r)) → (s r : ℕ) (b : Bool) → nat_eq s (t.count + 1) ≡ b → answers s ≡ Some r → IsReply (cond b (Some q) (t.sent s)) (upd t.sent (t.count + 1) (Some q) r)
  put_replied new s r false i e =
      let old = f.replied s r (sym (elsewhere s i) ∙ e) in
      record {
        reply = old.reply;
        asking = old.asking;
        reply_is = old.reply_is;
        asking_is = sent_kept f q r old.asking (nat_eq r (t.count + 1)) refl old.asking_is;
        label = old.label;
        kind = old.kind;
        reply_part = old.reply_part;
        asking_part = old.asking_part;
        generation = old.generation;
        from_is = old.from_is;
        to_is = old.to_is;
      }
  put_replied new s r true i e =
      let is : s ≡ t.count + 1 = grind arith in
      let x = new r (ap answers (sym is) ∙ e) in
      record {
        reply = x.reply;
        asking = x.asking;
        reply_is = x.reply_is;
        asking_is = sent_kept f q r x.asking (nat_eq r (t.count + 1)) refl x.asking_is;
        label = x.label;
        kind = x.kind;
        reply_part = x.reply_part;
        asking_part = x.asking_part;
        generation = x.generation;
        from_is = x.from_is;
        to_is = x.to_is;
      }

  put_unanswered : (s : ℕ) → t.count + 1 < s → answers s ≡ None
  put_unanswered s l = elsewhere s (nat_above s (t.count + 1) l) ∙ (f.unsent s (omega arith)).unanswered

  pub facts_put : Honest t.ids t.generation injects q → Flies injects t.current t.judged (answers (t.count + 1)) in_flight (t.count + 1) q → (given : Transaction → ℕ) → ((v : Transaction) → t.generation v.responder < v.generation → given v ≡ 0) → (owes : Option Owed) → ((r : ℕ) → answers (t.count + 1) ≡ Some r → IsReply (Some q) (t.sent r)) → Facts (puts_at t q injects answers given owes)
  facts_put h new given ungiven owes reply = record {
    apart = f.apart;
    aged = f.aged;
    unsent = λ s l.
        let g = f.unsent s (omega arith) in
        record {
          sent_is = rw (nat_above s (t.count + 1) l) g.sent_is;
          honest = g.honest;
          unjudged = g.unjudged;
          no_news = g.no_news;
          open_still = g.open_still;
          unanswered = put_unanswered s l;
        };
    zero = rw (nat_apart 0 (t.count + 1) (omega arith)) f.zero;
    tie = λ v. tie_counts (tie_weaker (f.tie v) (fairly v) (bothly v) (both_fair injects v));
    asked = put_asked;
    early = f.early;
    silent = f.silent;
    ungiven = ungiven;
    honest = λ r p. put_honest h r p (nat_eq r (t.count + 1));
    flies = λ r p. put_flies new r p (nat_eq r (t.count + 1)) refl;
    counts = λ r p. put_counts r p (nat_eq r (t.count + 1)) refl;
    waiting_kind = λ v k r e. kind_kept f q r v.label k (f.waiting_kind v k r e);
    replied = λ s r. put_replied reply s r (nat_eq s (t.count + 1)) refl;
  }
