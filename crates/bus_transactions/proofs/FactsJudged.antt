-- A packet is delivered: it arrives; a request is judged; or a response closes its transaction.
use Rattle.std.specs.Prelude.{◌≡◌, ℕ, ◌+◌, ◌<◌, ◌≤◌, nat_eq, Bool, true, false, cond, Option, Some, None, refl}
use Rattle.std.proofs.Common.{arith, sym, ◌∙◌, ap, subst}
use Rattle.sbp_base.specs.Update.{upd}
use Rattle.sbp_journal.specs.Transactions.{Kind, Transaction, is_same, at, Sending, between, asked_by, begun_by}
use Rattle.sbp_journal.specs.Wire.{Terms, Flight, free, waits, rests, Owed}
use Rattle.bus_transactions.proofs.PacketParts.{same_refl, same_is}
use Rattle.bus_transactions.proofs.Follows.{is_live}
use Rattle.bus_transactions.proofs.Ties.{Tie, counts_new, tie_judged, tie_heard, tie_freed, tie_rests}
use Rattle.bus_transactions.proofs.Facts.{fair, both, Flies, Counts, IsKind, Facts, not_true, fair_not, nat_same, nat_is, some_same, begun_asked, asked_begun, injected_begun, asked_is, current_not}

-- ---- the state of packets changes, and no packet comes back
abbrev pub flies_at : (t : Terms) → (ℕ → Flight) → Terms
flies_at t flight = record t { flight = flight }

pub facts_flight : {t : Terms} → Facts t → (flight : ℕ → Flight) → ((r : ℕ) (q : Sending) → t.sent r ≡ Some q → is_live (flight r) ≡ true → is_live (t.flight r) ≡ true) → Facts (flies_at t flight)
facts_flight f flight less = record {
  apart = f.apart;
  aged = f.aged;
  unsent = f.unsent;
  zero = f.zero;
  tie = f.tie;
  asked = f.asked;
  early = f.early;
  silent = f.silent;
  ungiven = f.ungiven;
  honest = f.honest;
  flies = λ r q e. let old = f.flies r q e in record {
    asks = λ u b live. old.asks u b (less r q e live);
    replies = λ l k part honest live. old.replies l k part honest (less r q e live);
  };
  counts = f.counts;
  waiting_kind = f.waiting_kind;
  replied = f.replied;
}

-- ---- counts of a packet that is the present request of none
abbrev pub news_at : (t : Terms) → (news served : ℕ → ℕ) → Terms
news_at t news served = record t { news = news; served = served }

module _ {t : Terms} (f : Facts t) (s : ℕ) (q : Sending) (sent : t.sent s ≡ Some q) (none : begun_by q ≡ None) where
  never : (u : Transaction) → begun_by q ≡ Some u → ⊥
  never u e = nothing (sym none ∙ e)
    where
      nothing : {v : Transaction} → None ≡ Some v → ⊥
      nothing e = cc

  news_counts : (news : ℕ → ℕ) → ((r : ℕ) → nat_eq r s ≡ false → news r ≡ t.news r) → (r : ℕ) (p : Sending) (b : Bool) → nat_eq r s ≡ b → t.sent r ≡ Some p → Counts t.injects (news r) (t.closed r) p
  news_counts news same r p false i e = subst (λ n. Counts t.injects n (t.closed r) p) (sym (same r i)) (f.counts r p e)
  news_counts news same r p true i e =
      let is = some_same (t.sent s) q p sent (ap t.sent (sym (nat_is r s i)) ∙ e) in
      record {
        most = λ v b w h. absurd (never v (subst (λ x. begun_by x ≡ Some v) (sym is) b));
        once = λ v rcode b w h. absurd (never v (subst (λ x. begun_by x ≡ Some v) (sym is) b));
      }

  late_not : t.count < s → ⊥
  late_not l = let g = f.unsent s l in nothing (sym g.sent_is ∙ sent)
    where
      nothing : {p : Sending} → None ≡ Some p → ⊥
      nothing e = cc

  news_unsent : (news : ℕ → ℕ) → ((r : ℕ) → nat_eq r s ≡ false → news r ≡ t.news r) → (r : ℕ) (b : Bool) → nat_eq r s ≡ b → t.count < r → news r ≡ 0
  news_unsent news same r false i l = same r i ∙ (f.unsent r l).no_news
  news_unsent news same r true i l = absurd (late_not (subst (λ x. t.count < x) (nat_is r s i) l))

  pub facts_news : (news served : ℕ → ℕ) → ((r : ℕ) → nat_eq r s ≡ false → news r ≡ t.news r) → Facts (news_at t news served)
  facts_news news served same = record {
    apart = f.apart;
    aged = f.aged;
    unsent = λ r l. let g = f.unsent r l in record {
      sent_is = g.sent_is;
      honest = g.honest;
      unjudged = g.unjudged;
      no_news = news_unsent news same r (nat_eq r s) refl l;
      open_still = g.open_still;
      unanswered = g.unanswered;
    };
    zero = f.zero;
    tie = λ u. subst (Tie (fair t.injects u) (both t.injects u) t.count (t.current u) (t.last u) (t.seen u) (t.held u) (t.judged (t.current u)))
        (sym (same (t.current u) (current_not f s q u sent (never u)))) (f.tie u);
    asked = f.asked;
    early = f.early;
    silent = f.silent;
    ungiven = f.ungiven;
    honest = f.honest;
    flies = f.flies;
    counts = λ r p. news_counts news same r p (nat_eq r s) refl;
    waiting_kind = f.waiting_kind;
    replied = f.replied;
  }

-- ---- a request is judged
abbrev pub judged_at : (t : Terms) → ℕ → Sending → Transaction → Option Owed → (news served : ℕ → ℕ) → Terms
judged_at t s q v owes news served = record t {
  seen = at t.seen v (Some q.bytes);
  judged = upd t.judged s (t.judged s + 1);
  owes = owes;
  news = news;
  served = served;
}

module _ {t : Terms} (f : Facts t) (s : ℕ) (q : Sending) (v : Transaction) (sent : t.sent s ≡ Some q) (live : is_live (t.flight s) ≡ true) (is_asked : asked_by q ≡ Some v) (news : ℕ → ℕ) (counted : news s ≡ t.news s + counts_new (t.seen v) q.bytes) (elsewhere : (r : ℕ) → nat_eq r s ≡ false → news r ≡ t.news r) where
  abbrev judged : ℕ → ℕ
  judged = upd t.judged s (t.judged s + 1)

  -- its own transaction
  own_tie : (b : Bool) → q.injected ≡ b → Tie (fair t.injects v) (both t.injects v) t.count (t.current v) (t.last v) (Some q.bytes) (t.held v) (judged (t.current v)) (news (t.current v))
  own_tie true i =
      let a = asked_is q v is_asked in
      let wild : fair t.injects v ≡ false = fair_not t.injects v (ap (λ (w : Transaction). t.injects w.requester) a.is ∙ (f.honest s q sent).bold i) in
      let d = current_not f s q v sent (λ e. nothing (sym (injected_begun q i) ∙ e)) in
      let same : judged (t.current v) ≡ t.judged (t.current v) = rw d refl in
      subst (Tie (fair t.injects v) (both t.injects v) t.count (t.current v) (t.last v) (Some q.bytes) (t.held v) (judged (t.current v))) (sym (elsewhere (t.current v) d))
      (subst (λ n. Tie (fair t.injects v) (both t.injects v) t.count (t.current v) (t.last v) (Some q.bytes) (t.held v) n (t.news (t.current v))) (sym same)
      (tie_heard (f.tie v) wild (Some q.bytes)))
    where
      nothing : {w : Transaction} → None ≡ Some w → ⊥
      nothing e = cc
  own_tie false i =
      let begun = asked_begun q v i is_asked in
      let is : s ≡ t.current v = (f.flies s q sent).asks v begun live in
      let a = f.asked v (subst (λ n. 0 < n) is (positive s (λ z. nothing (sym f.zero ∙ ap t.sent (sym z) ∙ sent)))) in
      let own : a.packet ≡ q = some_same (t.sent s) a.packet q (ap t.sent is ∙ a.sent_is) sent in
      let last : t.last v ≡ Some q.bytes = a.last_is ∙ ap (λ (x : Sending). Some x.bytes) own in
      let here : judged s ≡ t.judged s + 1 = rw (nat_same s) refl in
      subst (λ c. Tie (fair t.injects v) (both t.injects v) t.count c (t.last v) (Some q.bytes) (t.held v) (judged c) (news c)) is
      (subst (λ n. Tie (fair t.injects v) (both t.injects v) t.count s (t.last v) (Some q.bytes) (t.held v) n (news s)) (sym here)
      (subst (Tie (fair t.injects v) (both t.injects v) t.count s (t.last v) (Some q.bytes) (t.held v) (t.judged s + 1)) (sym counted)
      (tie_judged (subst (λ c. Tie (fair t.injects v) (both t.injects v) t.count c (t.last v) (t.seen v) (t.held v) (t.judged c) (t.news c)) (sym is) (f.tie v)) q.bytes last)))
    where
      nothing : {w : Sending} → None ≡ Some w → ⊥
      nothing e = cc

      positive : (n : ℕ) → (n ≡ 0 → ⊥) → 0 < n
      positive n h = grind arith

  -- every other one
  judged_tie : (u : Transaction) (b : Bool) → is_same u v ≡ b → Tie (fair t.injects u) (both t.injects u) t.count (t.current u) (t.last u) (cond b (Some q.bytes) (t.seen u)) (t.held u) (judged (t.current u)) (news (t.current u))
  judged_tie u true i =
      subst (λ w. Tie (fair t.injects w) (both t.injects w) t.count (t.current w) (t.last w) (Some q.bytes) (t.held w) (judged (t.current w)) (news (t.current w))) (sym (same_is u v i))
      (own_tie q.injected refl)
  judged_tie u false i =
      let d = current_not f s q u sent (λ e. other u i (some_same (asked_by q) v u is_asked (begun_asked q u e).1)) in
      let same : judged (t.current u) ≡ t.judged (t.current u) = rw d refl in
      subst (Tie (fair t.injects u) (both t.injects u) t.count (t.current u) (t.last u) (t.seen u) (t.held u) (judged (t.current u))) (sym (elsewhere (t.current u) d))
      (subst (λ n. Tie (fair t.injects u) (both t.injects u) t.count (t.current u) (t.last u) (t.seen u) (t.held u) n (t.news (t.current u))) (sym same) (f.tie u))
    where
      other : (u : Transaction) → is_same u v ≡ false → v ≡ u → ⊥
      other u i e = not_true i (subst (λ x. is_same x v ≡ true) e (same_refl v))

  more_judged : (r : ℕ) (b : Bool) → 0 < t.judged r → 0 < cond b (t.judged s + 1) (t.judged r)
  more_judged r true h = omega arith
  more_judged r false h = h

  judged_flies : (r : ℕ) (p : Sending) → t.sent r ≡ Some p → Flies t.injects t.current judged (t.answers r) (t.flight r) r p
  judged_flies r p e =
      let old = f.flies r p e in
      record {
        asks = old.asks;
        replies = λ l k part honest alive h. let i = old.replies l k part honest alive h in (i.0, more_judged (t.current (between p p.to p.from l)) _ i.1);
      }

  judged_counts : (r : ℕ) (p : Sending) (b : Bool) → nat_eq r s ≡ b → t.sent r ≡ Some p → Counts t.injects (news r) (t.closed r) p
  judged_counts r p false i e = subst (λ n. Counts t.injects n (t.closed r) p) (sym (elsewhere r i)) (f.counts r p e)
  judged_counts r p true i e =
      let same : q ≡ p = some_same (t.sent s) q p sent (ap t.sent (sym (nat_is r s i)) ∙ e) in
      record {
        most = λ u b w h.
            let n = now u p same b in
            subst (λ x. news x ≤ 1) (sym (nat_is r s i ∙ n.0)) ((judged_tie u _ refl).most h p.bytes n.1 w);
        once = λ u rcode b w h c.
            let n = now u p same b in
            subst (λ x. news x ≡ 1) (sym (nat_is r s i ∙ n.0)) ((judged_tie u _ refl).once h (subst (λ x. 0 < judged x) n.0 came) p.bytes n.1 w);
      }
    where
      came : 0 < judged s
      came = rw (nat_same s) (omega arith)

      nothing : {w : Sending} → None ≡ Some w → ⊥
      nothing e = cc

      positive : (n : ℕ) → (n ≡ 0 → ⊥) → 0 < n
      positive n h = grind arith

      now : (u : Transaction) (p : Sending) → q ≡ p → begun_by p ≡ Some u → (s ≡ t.current u) × (t.last u ≡ Some p.bytes)
      now u p same b =
          let is : s ≡ t.current u = (f.flies s q sent).asks u (subst (λ x. begun_by x ≡ Some u) (sym same) b) live in
          let a = f.asked u (subst (λ n. 0 < n) is (positive s (λ z. nothing (sym f.zero ∙ ap t.sent (sym z) ∙ sent)))) in
          let own : a.packet ≡ p = some_same (t.sent s) a.packet p (ap t.sent is ∙ a.sent_is) (sent ∙ ap Some same) in
          (is, a.last_is ∙ ap (λ (x : Sending). Some x.bytes) own)

  judged_silent : v.generation ≤ t.generation v.responder → (u : Transaction) (b : Bool) → is_same u v ≡ b → t.generation u.responder < u.generation → cond b (Some q.bytes) (t.seen u) ≡ None
  judged_silent now u false i l = f.silent u l
  judged_silent now u true i l =
      let late : t.generation v.responder < v.generation = subst (λ w. t.generation w.responder < w.generation) (same_is u v i) l in
      absurd (omega arith)

  sent_not : t.count < s → ⊥
  sent_not l = let g = f.unsent s l in nothing (sym g.sent_is ∙ sent)
    where
      nothing : {p : Sending} → None ≡ Some p → ⊥
      nothing e = cc

  judged_unsent : (r : ℕ) (b : Bool) → nat_eq r s ≡ b → t.count < r → (cond b (t.judged s + 1) (t.judged r) ≡ 0) × (news r ≡ 0)
  judged_unsent r false i l = let g = f.unsent r l in (g.unjudged, elsewhere r i ∙ g.no_news)
  judged_unsent r true i l = absurd (sent_not (subst (λ x. t.count < x) (nat_is r s i) l))

  pub facts_judged : v.generation ≤ t.generation v.responder → (owes : Option Owed) (served : ℕ → ℕ) → Facts (judged_at t s q v owes news served)
  facts_judged now owes served = record {
    apart = f.apart;
    aged = f.aged;
    unsent = λ r l. let g = f.unsent r l in let j = judged_unsent r (nat_eq r s) refl l in record {
      sent_is = g.sent_is;
      honest = g.honest;
      unjudged = j.0;
      no_news = j.1;
      open_still = g.open_still;
      unanswered = g.unanswered;
    };
    zero = f.zero;
    tie = λ u. judged_tie u (is_same u v) refl;
    asked = f.asked;
    early = f.early;
    silent = λ u. judged_silent now u (is_same u v) refl;
    ungiven = f.ungiven;
    honest = f.honest;
    flies = judged_flies;
    counts = λ r p. judged_counts r p (nat_eq r s) refl;
    waiting_kind = f.waiting_kind;
    replied = f.replied;
  }

-- ---- a response closes a transaction
abbrev pub closed_at : (t : Terms) → Transaction → ℕ → ℕ → Terms
closed_at t u r rcode = record t { held = at t.held u free; closed = upd t.closed r (Some rcode) }

module _ {t : Terms} (f : Facts t) (u : Transaction) (kind : Kind) (r rcode : ℕ) (waiting : t.held u ≡ waits kind r) (came : both t.injects u ≡ true → 0 < t.judged (t.current u)) where
  closed_tie : (v : Transaction) (b : Bool) → is_same v u ≡ b → Tie (fair t.injects v) (both t.injects v) t.count (t.current v) (t.last v) (t.seen v) (cond b free (t.held v)) (t.judged (t.current v)) (t.news (t.current v))
  closed_tie v true i =
      subst (λ w. Tie (fair t.injects w) (both t.injects w) t.count (t.current w) (t.last w) (t.seen w) free (t.judged (t.current w)) (t.news (t.current w))) (sym (same_is v u i))
      (tie_freed (f.tie u) came)
  closed_tie v false i = f.tie v

  closed_counts : (s : ℕ) (p : Sending) (b : Bool) → nat_eq s r ≡ b → t.sent s ≡ Some p → Counts t.injects (t.news s) (cond b (Some rcode) (t.closed s)) p
  closed_counts s p false i e = f.counts s p e
  closed_counts s p true i e =
      let old = f.counts s p e in
      let w = (f.tie u).waiting kind r waiting in
      let a = f.asked u (subst (λ n. 0 < n) w.0 w.1) in
      let is : s ≡ t.current u = nat_is s r i ∙ w.0 in
      let own : a.packet ≡ p = some_same (t.sent s) a.packet p (ap t.sent is ∙ a.sent_is) e in
      record {
        most = old.most;
        once = λ v code b writes h c.
            let same : u ≡ v = some_same (begun_by p) u v (subst (λ x. begun_by x ≡ Some u) own a.begun) b in
            let fairly : both t.injects u ≡ true = subst (λ x. both t.injects x ≡ true) (sym same) h in
            subst (λ x. t.news x ≡ 1) (sym is) ((f.tie u).once fairly (came fairly) p.bytes (a.last_is ∙ ap (λ (x : Sending). Some x.bytes) own) writes);
      }

  closed_unsent : (s : ℕ) (b : Bool) → nat_eq s r ≡ b → t.count < s → cond b (Some rcode) (t.closed s) ≡ None
  closed_unsent s false i l = (f.unsent s l).open_still
  closed_unsent s true i l =
      let w = (f.tie u).waiting kind r waiting in
      let low = (f.tie u).low in
      let is = nat_is s r i in
      absurd (omega (arith, w.0, low, is, l))

  closed_kind : (v : Transaction) (k : Kind) (n : ℕ) (b : Bool) → cond b free (t.held v) ≡ waits k n → IsKind (t.sent n) v.label k
  closed_kind v k n true e = cc
  closed_kind v k n false e = f.waiting_kind v k n e

  pub facts_closed : Facts (closed_at t u r rcode)
  facts_closed = record {
    apart = f.apart;
    aged = f.aged;
    unsent = λ s l. let g = f.unsent s l in record {
      sent_is = g.sent_is;
      honest = g.honest;
      unjudged = g.unjudged;
      no_news = g.no_news;
      open_still = closed_unsent s (nat_eq s r) refl l;
      unanswered = g.unanswered;
    };
    zero = f.zero;
    tie = λ v. closed_tie v (is_same v u) refl;
    asked = f.asked;
    early = f.early;
    silent = f.silent;
    ungiven = f.ungiven;
    honest = f.honest;
    flies = f.flies;
    counts = λ s p. closed_counts s p (nat_eq s r) refl;
    waiting_kind = λ v k n. closed_kind v k n (is_same v u);
    replied = f.replied;
  }

-- ---- a transaction times out
abbrev pub rests_at : (t : Terms) → Transaction → Terms
rests_at t u = record t { held = at t.held u rests }

rests_tie : {t : Terms} → Facts t → (u : Transaction) (kind : Kind) (r : ℕ) → t.held u ≡ waits kind r → (v : Transaction) (b : Bool) → is_same v u ≡ b → Tie (fair t.injects v) (both t.injects v) t.count (t.current v) (t.last v) (t.seen v) (cond b rests (t.held v)) (t.judged (t.current v)) (t.news (t.current v))
rests_tie {t} f u kind r waiting v true i =
    subst (λ w. Tie (fair t.injects w) (both t.injects w) t.count (t.current w) (t.last w) (t.seen w) rests (t.judged (t.current w)) (t.news (t.current w))) (sym (same_is v u i))
    (tie_rests (f.tie u) waiting)
rests_tie f u kind r waiting v false i = f.tie v

rests_kind : {t : Terms} → Facts t → (v : Transaction) (k : Kind) (n : ℕ) (b : Bool) → cond b rests (t.held v) ≡ waits k n → IsKind (t.sent n) v.label k
rests_kind f v k n true e = cc
rests_kind f v k n false e = f.waiting_kind v k n e

pub facts_rests : {t : Terms} → Facts t → (u : Transaction) (kind : Kind) (r : ℕ) → t.held u ≡ waits kind r → Facts (rests_at t u)
facts_rests f u kind r waiting = record {
  apart = f.apart;
  aged = f.aged;
  unsent = f.unsent;
  zero = f.zero;
  tie = λ v. rests_tie f u kind r waiting v (is_same v u) refl;
  asked = f.asked;
  early = f.early;
  silent = f.silent;
  ungiven = f.ungiven;
  honest = f.honest;
  flies = f.flies;
  counts = f.counts;
  waiting_kind = λ v k n. rests_kind f v k n (is_same v u);
  replied = f.replied;
}
