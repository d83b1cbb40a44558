-- What holds of rcodes, for writes between nodes that have not injected packets: once a write was judged and answered, an rcode of 0 says
-- that it was served, and every response to it that may still come has the rcode that was given.
use Rattle.std.specs.Prelude.{◌≡◌, ℕ, ◌+◌, ◌<◌, nat_eq, Bool, true, false, cond, List, Option, Some, None, refl}
use Rattle.std.proofs.Common.{arith, sym, ◌∙◌, ap, subst, ⊎_elim}
use Rattle.async_packet.specs.Fields.{rcode_of}
use Rattle.label_table.specs.Requests.{is_write}
use Rattle.sbp_journal.specs.Transactions.{Kind, response, part_of, Transaction, is_same, at, Sending, between, asked_by, begun_by, is_that, belongs}
use Rattle.sbp_journal.specs.Wire.{Terms, Flight, in_flight, Held, waits, Owed, belongs_to, by_bus_rule}
use Rattle.sbp_journal.specs.declared.cause.Cause.{Cause}
use Rattle.sbp_journal.specs.declared.cause.Cause.TheVariants as causes
use Rattle.bus_transactions.specs.Wire.{is_stated}
use Rattle.bus_transactions.proofs.PacketParts.{same_refl, same_is}
use Rattle.bus_transactions.proofs.Follows.{is_live}
use Rattle.bus_transactions.proofs.Ties.{counts_new, is_counted, is_first, same_last, one_of}
use Rattle.bus_transactions.proofs.Facts.{fair, both, Facts, not_true, both_fair, nat_is, some_same, begun_asked, asked_begun, response_asked, none_begun, reply_belongs, current_not}
use Rattle.bus_transactions.proofs.FactsSent.{begins_at, puts_at, live_not}
use Rattle.bus_transactions.proofs.FactsJudged.{flies_at, news_at, judged_at, closed_at}
use Rattle.bus_transactions.proofs.NodeRows.{same_sym}

-- a write of two nodes that have not injected packets is the present request
pub record IsWrite (t : Terms) (u : Transaction) : Type 0 where
  pub fairly : both t.injects u ≡ true
  pub bytes : List ℕ
  pub last : t.last u ≡ Some bytes
  pub writes : is_write bytes ≡ true

-- a response that may still come
pub record Comes (t : Terms) (u : Transaction) (s : ℕ) : Type 0 where
  pub packet : Sending
  pub sent : t.sent s ≡ Some packet
  pub label : ℕ
  pub kind : Kind
  pub part : part_of packet.bytes ≡ response label kind
  pub honest : packet.injected ≡ false
  pub live : is_live (t.flight s) ≡ true
  pub is : between packet packet.to packet.from label ≡ u

-- `of` is the transaction of the request that is to be answered
pub record Served (t : Terms) (of : Option Transaction) : Type 0 where
  pub unserved : (s : ℕ) → t.count < s → t.served s ≡ 0
  pub fresh : (u : Transaction) → IsWrite t u → t.judged (t.current u) ≡ 0 → t.served (t.current u) ≡ 0
  pub done : (u : Transaction) → IsWrite t u → is_that of u ≡ false → 0 < t.judged (t.current u) → t.given u ≡ 0 → t.served (t.current u) ≡ 1
  pub replies : (u : Transaction) (s : ℕ) → IsWrite t u → is_that of u ≡ false → (c : Comes t u s) → rcode_of c.packet.bytes ≡ t.given u
  pub ended : (s : ℕ) (q : Sending) (u : Transaction) → t.sent s ≡ Some q → begun_by q ≡ Some u → is_write q.bytes ≡ true → both t.injects u ≡ true → t.closed s ≡ Some 0 → t.served s ≡ 1
  pub due_done : (u : Transaction) (owed : Owed) (rcode : ℕ) → of ≡ Some u → t.owes ≡ Some owed → IsWrite t u → is_stated owed.cause (t.given u) rcode ≡ true → rcode ≡ 0 → t.served (t.current u) ≡ 1
  pub due_replies : (u : Transaction) (owed : Owed) (rcode s : ℕ) → of ≡ Some u → t.owes ≡ Some owed → IsWrite t u → is_stated owed.cause (t.given u) rcode ≡ true → (c : Comes t u s) → rcode_of c.packet.bytes ≡ rcode

nothing : {A : Type 0} {x : A} → None ≡ Some x → ⊥
nothing e = cc

-- ---- a request begins
module _ {t : Terms} (f : Facts t) (z : Served t None) (u : Transaction) (kind : Kind) (q : Sending) (begun : begun_by q ≡ Some u) where
  abbrev B : Terms
  B = begins_at t u kind q

  old_write : (v : Transaction) → is_same v u ≡ false → IsWrite B v → IsWrite t v
  old_write v d w = record { fairly = w.fairly; bytes = w.bytes; last = ap (λ b. cond b (Some q.bytes) (t.last v)) (sym d) ∙ w.last; writes = w.writes }

  begun_fresh : (v : Transaction) (b : Bool) → is_same v u ≡ b → IsWrite B v → t.judged (cond b (t.count + 1) (t.current v)) ≡ 0 → t.served (cond b (t.count + 1) (t.current v)) ≡ 0
  begun_fresh v true e w j = z.unserved (t.count + 1) (omega arith)
  begun_fresh v false e w j = z.fresh v (old_write v e w) j

  begun_done : (v : Transaction) (b : Bool) → is_same v u ≡ b → IsWrite B v → 0 < t.judged (cond b (t.count + 1) (t.current v)) → t.given v ≡ 0 → t.served (cond b (t.count + 1) (t.current v)) ≡ 1
  begun_done v true e w j g = let n = (f.unsent (t.count + 1) (omega arith)).unjudged in absurd (omega (arith, n, j))
  begun_done v false e w j g = z.done v (old_write v e w) refl j g

  -- a response that still comes is of another transaction, and is old
  record Old (v : Transaction) (s : ℕ) (p : Sending) : Type 0 where
    other : is_same v u ≡ false
    comes : Comes t v s
    same : comes.packet ≡ p

  old_comes : (v : Transaction) (s : ℕ) (c : Comes B v s) (b : Bool) → nat_eq s (t.count + 1) ≡ b → cond b (Some q) (t.sent s) ≡ Some c.packet → is_live (cond b in_flight (by_bus_rule (Some u) t.sent t.flight s)) ≡ true → Old v s c.packet
  old_comes v s c true i e live =
      let same : q ≡ c.packet = some_same (Some q) q c.packet refl e in
      let none = none_begun c.packet (response_asked c.packet c.label c.kind c.part) in
      absurd (nothing (sym none ∙ subst (λ x. begun_by x ≡ Some u) same begun))
  old_comes v s c false i e live =
      let n = live_not (belongs_to u (t.sent s)) (t.flight s) live in
      let apart : belongs c.packet u ≡ false = sym (ap (belongs_to u) e) ∙ n.0 in
      record {
        other = ap (λ x. is_same x u) (sym c.is) ∙ sym (reply_belongs c.packet c.label c.kind u c.part) ∙ apart;
        comes = record { packet = c.packet; sent = e; label = c.label; kind = c.kind; part = c.part; honest = c.honest; live = n.1; is = c.is };
        same = refl;
      }

  begun_replies : (v : Transaction) (s : ℕ) → IsWrite B v → (c : Comes B v s) → rcode_of c.packet.bytes ≡ t.given v
  begun_replies v s w c =
      let o = old_comes v s c (nat_eq s (t.count + 1)) refl c.sent c.live in
      ap (λ (x : Sending). rcode_of x.bytes) (sym o.same) ∙ z.replies v s (old_write v o.other w) refl o.comes

  begun_ended : (s : ℕ) (p : Sending) (v : Transaction) (b : Bool) → nat_eq s (t.count + 1) ≡ b → cond b (Some q) (t.sent s) ≡ Some p → begun_by p ≡ Some v → is_write p.bytes ≡ true → both t.injects v ≡ true → t.closed s ≡ Some 0 → t.served s ≡ 1
  begun_ended s p v false i e = z.ended s p v e
  begun_ended s p v true i e = λ b w h c.
      let is : s ≡ t.count + 1 = grind arith in
      absurd (nothing (sym (f.unsent s (omega arith)).open_still ∙ c))

  pub served_begun : Served (begins_at t u kind q) None
  served_begun = record {
    unserved = λ s l. z.unserved s (omega arith);
    fresh = λ v w. begun_fresh v (is_same v u) refl w;
    done = λ v w n. begun_done v (is_same v u) refl w;
    replies = λ v s w n c. begun_replies v s w c;
    ended = λ s p v. begun_ended s p v (nat_eq s (t.count + 1)) refl;
    due_done = λ v owed rcode e. absurd (nothing e);
    due_replies = λ v owed rcode s e. absurd (nothing e);
  }

-- ---- a node injects
module _ {t : Terms} (f : Facts t) (z : Served t None) (q : Sending) (wild : q.injected ≡ true) (injects : ℕ → Bool) (more : (i : ℕ) → injects i ≡ false → t.injects i ≡ false) where
  abbrev J : Terms
  J = puts_at t q injects t.answers t.given t.owes

  bothly : (u : Transaction) → both injects u ≡ true → both t.injects u ≡ true
  bothly u e = let m = more u.requester in let n = more u.responder in grind arith

  fewer : (u : Transaction) → IsWrite J u → IsWrite t u
  fewer u w = record { fairly = bothly u w.fairly; bytes = w.bytes; last = w.last; writes = w.writes }

  injected_comes : (u : Transaction) (s : ℕ) (c : Comes J u s) (b : Bool) → nat_eq s (t.count + 1) ≡ b → cond b (Some q) (t.sent s) ≡ Some c.packet → is_live (cond b in_flight (t.flight s)) ≡ true → IsWrite t u → rcode_of c.packet.bytes ≡ t.given u
  injected_comes u s c true i e live w = absurd (not_true c.honest (ap (λ (x : Sending). x.injected) (sym (some_same (Some q) q c.packet refl e)) ∙ wild))
  injected_comes u s c false i e live w = z.replies u s w refl (record { packet = c.packet; sent = e; label = c.label; kind = c.kind; part = c.part; honest = c.honest; live = live; is = c.is })

  injected_ended : (s : ℕ) (p : Sending) (v : Transaction) (b : Bool) → nat_eq s (t.count + 1) ≡ b → cond b (Some q) (t.sent s) ≡ Some p → begun_by p ≡ Some v → is_write p.bytes ≡ true → both injects v ≡ true → t.closed s ≡ Some 0 → t.served s ≡ 1
  injected_ended s p v false i e = λ b w h. z.ended s p v e b w (bothly v h)
  injected_ended s p v true i e = λ b w h c.
      let is : s ≡ t.count + 1 = grind arith in
      absurd (nothing (sym (f.unsent s (omega arith)).open_still ∙ c))

  pub served_injected : Served (puts_at t q injects t.answers t.given t.owes) None
  served_injected = record {
    unserved = λ s l. z.unserved s (omega arith);
    fresh = λ u w. z.fresh u (fewer u w);
    done = λ u w. z.done u (fewer u w);
    replies = λ u s w n c. injected_comes u s c (nat_eq s (t.count + 1)) refl c.sent c.live (fewer u w);
    ended = λ s p v. injected_ended s p v (nat_eq s (t.count + 1)) refl;
    due_done = λ v owed rcode e. absurd (nothing e);
    due_replies = λ v owed rcode s e. absurd (nothing e);
  }

-- ---- the answer that is owed
module _ {t : Terms} (f : Facts t) (v : Transaction) (z : Served t (Some v)) (q : Sending) (rcode : ℕ) (owed : Owed) (owes : t.owes ≡ Some owed) (answers : ℕ → Option ℕ) (stated : is_stated owed.cause (t.given v) rcode ≡ true) (code : rcode_of q.bytes ≡ rcode) (own : (l : ℕ) (k : Kind) → part_of q.bytes ≡ response l k → between q q.to q.from l ≡ v) (none : begun_by q ≡ None) where
  abbrev K : Terms
  K = puts_at t q t.injects answers (at t.given v rcode) None

  same_write : (u : Transaction) → IsWrite K u → IsWrite t u
  same_write u w = record { fairly = w.fairly; bytes = w.bytes; last = w.last; writes = w.writes }

  paid_done : (u : Transaction) (b : Bool) → is_same u v ≡ b → IsWrite t u → 0 < t.judged (t.current u) → cond b rcode (t.given u) ≡ 0 → t.served (t.current u) ≡ 1
  paid_done u true e w j g =
      let is = same_is u v e in
      z.due_done u owed rcode (ap Some (sym is)) owes w (subst (λ x. is_stated owed.cause (t.given x) rcode ≡ true) (sym is) stated) g
  paid_done u false e w j g = z.done u w (same_sym v u ∙ e) j g

  paid_replies : (u : Transaction) (s : ℕ) (c : Comes K u s) (a b : Bool) → nat_eq s (t.count + 1) ≡ a → is_same u v ≡ b → cond a (Some q) (t.sent s) ≡ Some c.packet → is_live (cond a in_flight (t.flight s)) ≡ true → IsWrite t u → rcode_of c.packet.bytes ≡ cond b rcode (t.given u)
  paid_replies u s c true true i e x live w = ap (λ (y : Sending). rcode_of y.bytes) (sym (some_same (Some q) q c.packet refl x)) ∙ code
  paid_replies u s c true false i e x live w =
      let is : q ≡ c.packet = some_same (Some q) q c.packet refl x in
      let at_v : between c.packet c.packet.to c.packet.from c.label ≡ v = subst (λ y. (l : ℕ) (k : Kind) → part_of y.bytes ≡ response l k → between y y.to y.from l ≡ v) is own c.label c.kind c.part in
      absurd (not_true e (subst (λ y. is_same y v ≡ true) (sym at_v ∙ c.is) (same_refl v)))
  paid_replies u s c false true i e x live w =
      let is = same_is u v e in
      z.due_replies u owed rcode s (ap Some (sym is)) owes w (subst (λ y. is_stated owed.cause (t.given y) rcode ≡ true) (sym is) stated) (record { packet = c.packet; sent = x; label = c.label; kind = c.kind; part = c.part; honest = c.honest; live = live; is = c.is })
  paid_replies u s c false false i e x live w =
      z.replies u s w (same_sym v u ∙ e) (record { packet = c.packet; sent = x; label = c.label; kind = c.kind; part = c.part; honest = c.honest; live = live; is = c.is })

  paid_ended : (s : ℕ) (p : Sending) (u : Transaction) (b : Bool) → nat_eq s (t.count + 1) ≡ b → cond b (Some q) (t.sent s) ≡ Some p → begun_by p ≡ Some u → is_write p.bytes ≡ true → both t.injects u ≡ true → t.closed s ≡ Some 0 → t.served s ≡ 1
  paid_ended s p u false i e = z.ended s p u e
  paid_ended s p u true i e = λ b. absurd (nothing (sym none ∙ subst (λ x. begun_by x ≡ Some u) (sym (some_same (Some q) q p refl e)) b))

  pub served_paid : Served (puts_at t q t.injects answers (at t.given v rcode) None) None
  served_paid = record {
    unserved = λ s l. z.unserved s (omega arith);
    fresh = λ u w. z.fresh u (same_write u w);
    done = λ u w n. paid_done u (is_same u v) refl (same_write u w);
    replies = λ u s w n c. paid_replies u s c (nat_eq s (t.count + 1)) (is_same u v) refl refl c.sent c.live (same_write u w);
    ended = λ s p u. paid_ended s p u (nat_eq s (t.count + 1)) refl;
    due_done = λ u owed rcode e. absurd (nothing e);
    due_replies = λ u owed rcode s e. absurd (nothing e);
  }

-- ---- the state of packets changes, and no packet comes back
pub served_flight : {t : Terms} {of : Option Transaction} → Served t of → (flight : ℕ → Flight) → ((r : ℕ) (q : Sending) → t.sent r ≡ Some q → is_live (flight r) ≡ true → is_live (t.flight r) ≡ true) → Served (flies_at t flight) of
served_flight {t} z flight less = record {
  unserved = z.unserved;
  fresh = λ u w. z.fresh u (same u w);
  done = λ u w. z.done u (same u w);
  replies = λ u s w n c. z.replies u s (same u w) n (comes u s c);
  ended = z.ended;
  due_done = λ u owed rcode e o w. z.due_done u owed rcode e o (same u w);
  due_replies = λ u owed rcode s e o w i c. z.due_replies u owed rcode s e o (same u w) i (comes u s c);
}
  where
    same : (u : Transaction) → IsWrite (flies_at t flight) u → IsWrite t u
    same u w = record { fairly = w.fairly; bytes = w.bytes; last = w.last; writes = w.writes }

    comes : (u : Transaction) (s : ℕ) → Comes (flies_at t flight) u s → Comes t u s
    comes u s c = record { packet = c.packet; sent = c.sent; label = c.label; kind = c.kind; part = c.part; honest = c.honest; live = less s c.packet c.sent c.live; is = c.is }

-- ---- a packet that is the present request of none is counted
module _ {t : Terms} (f : Facts t) (z : Served t None) (s : ℕ) (q : Sending) (sent : t.sent s ≡ Some q) (none : begun_by q ≡ None) (news served : ℕ → ℕ) (elsewhere : (r : ℕ) → nat_eq r s ≡ false → served r ≡ t.served r) where
  present : (u : Transaction) → served (t.current u) ≡ t.served (t.current u)
  present u = elsewhere (t.current u) (current_not f s q u sent (λ e. nothing (sym none ∙ e)))

  news_unserved : (r : ℕ) (b : Bool) → nat_eq r s ≡ b → t.count < r → served r ≡ 0
  news_unserved r false i l = elsewhere r i ∙ z.unserved r l
  news_unserved r true i l = let g = f.unsent r l in absurd (nothing (sym g.sent_is ∙ ap t.sent (nat_is r s i) ∙ sent))

  news_ended : (r : ℕ) (p : Sending) (u : Transaction) (b : Bool) → nat_eq r s ≡ b → t.sent r ≡ Some p → begun_by p ≡ Some u → is_write p.bytes ≡ true → both t.injects u ≡ true → t.closed r ≡ Some 0 → served r ≡ 1
  news_ended r p u false i e b w h c = elsewhere r i ∙ z.ended r p u e b w h c
  news_ended r p u true i e b w h c =
      let is = some_same (t.sent s) q p sent (ap t.sent (sym (nat_is r s i)) ∙ e) in
      absurd (nothing (sym none ∙ subst (λ x. begun_by x ≡ Some u) (sym is) b))

  pub served_news : Served (news_at t news served) None
  served_news = record {
    unserved = λ r l. news_unserved r (nat_eq r s) refl l;
    fresh = λ u w j. present u ∙ z.fresh u (same u w) j;
    done = λ u w n j g. present u ∙ z.done u (same u w) n j g;
    replies = λ u r w n c. z.replies u r (same u w) n (comes u r c);
    ended = λ r p u. news_ended r p u (nat_eq r s) refl;
    due_done = λ u owed rcode e. absurd (nothing e);
    due_replies = λ u owed rcode r e. absurd (nothing e);
  }
    where
      same : (u : Transaction) → IsWrite (news_at t news served) u → IsWrite t u
      same u w = record { fairly = w.fairly; bytes = w.bytes; last = w.last; writes = w.writes }

      comes : (u : Transaction) (r : ℕ) → Comes (news_at t news served) u r → Comes t u r
      comes u r c = record { packet = c.packet; sent = c.sent; label = c.label; kind = c.kind; part = c.part; honest = c.honest; live = c.live; is = c.is }

-- ---- a request is judged
module _ {t : Terms} (f : Facts t) (z : Served t None) (s : ℕ) (q : Sending) (v : Transaction) (sent : t.sent s ≡ Some q) (live : is_live (t.flight s) ≡ true) (is_asked : asked_by q ≡ Some v) (from : v.requester ≡ q.from) (cause : Option Cause) (news served : ℕ → ℕ) (elsewhere : (r : ℕ) → nat_eq r s ≡ false → served r ≡ t.served r) (again : counts_new (t.seen v) q.bytes ≡ 0 → (cause ≡ Some causes.Again) × (served s ≡ t.served s)) (new : counts_new (t.seen v) q.bytes ≡ 1 → (rcode : ℕ) → is_stated cause (t.given v) rcode ≡ true → rcode ≡ 0 → served s ≡ t.served s + 1) where
  abbrev owed : Owed
  owed = record { serial = s; cause = cause }

  abbrev D : Terms
  D = judged_at t s q v (Some owed) news served

  before : (u : Transaction) → IsWrite D u → IsWrite t u
  before u w = record { fairly = w.fairly; bytes = w.bytes; last = w.last; writes = w.writes }

  abbrev came : (u : Transaction) (r : ℕ) → Comes D u r → Comes t u r
  came u r c = record { packet = c.packet; sent = c.sent; label = c.label; kind = c.kind; part = c.part; honest = c.honest; live = c.live; is = c.is }

  -- its transaction's present request is this one
  honest : (u : Transaction) → v ≡ u → IsWrite t u → (b : Bool) → q.injected ≡ b → b ≡ false
  honest u e w false i = refl
  honest u e w true i =
      let wild : t.injects v.requester ≡ true = ap t.injects from ∙ (f.honest s q sent).bold i in
      absurd (not_true (subst (λ x. fair t.injects x ≡ false) e (rw wild refl)) (both_fair t.injects u w.fairly))

  is_now : (u : Transaction) → v ≡ u → IsWrite t u → s ≡ t.current u
  is_now u e w = subst (λ x. s ≡ t.current x) e ((f.flies s q sent).asks v (asked_begun q v (honest u e w q.injected refl) is_asked) live)

  -- its bytes are the last ones
  last_is : (u : Transaction) → v ≡ u → IsWrite t u → (t.last u ≡ Some q.bytes) × (is_write q.bytes ≡ true)
  last_is u e w =
      let is = is_now u e w in
      let a = f.asked u (subst (λ n. 0 < n) is (positive s (λ nil. nothing (sym f.zero ∙ ap t.sent (sym nil) ∙ sent)))) in
      let own : a.packet ≡ q = some_same (t.sent s) a.packet q (ap t.sent is ∙ a.sent_is) sent in
      let last : t.last u ≡ Some q.bytes = a.last_is ∙ ap (λ (x : Sending). Some x.bytes) own in
      (last, subst (λ b. is_write b ≡ true) (some_same (t.last u) w.bytes q.bytes w.last last) w.writes)
    where
      positive : (n : ℕ) → (n ≡ 0 → ⊥) → 0 < n
      positive n h = grind arith

  -- it comes again exactly where it was judged before
  repeats : (u : Transaction) → v ≡ u → IsWrite t u → 0 < t.judged (t.current u) → counts_new (t.seen v) q.bytes ≡ 0
  repeats u e w j =
      let l = last_is u e w in
      subst (λ x. counts_new (t.seen x) q.bytes ≡ 0) (sym e) (is_counted (t.seen u) q.bytes l.1 (same_last (t.seen u) (t.last u) q.bytes ((f.tie u).is_seen (both_fair t.injects u w.fairly) j) l.0))

  is_new : (u : Transaction) → v ≡ u → IsWrite t u → t.judged (t.current u) ≡ 0 → counts_new (t.seen v) q.bytes ≡ 1
  is_new u e w j =
      let l = last_is u e w in
      subst (λ x. counts_new (t.seen x) q.bytes ≡ 1) (sym e) (is_first (t.seen u) q.bytes l.1 ((f.tie u).is_new w.fairly j q.bytes l.0 l.1))

  -- the present request of another transaction is another one
  other_now : (u : Transaction) → is_same v u ≡ false → nat_eq (t.current u) s ≡ false
  other_now u e = current_not f s q u sent (λ b. not_true e (subst (λ x. is_same v x ≡ true) (some_same (asked_by q) v u is_asked (begun_asked q u b).1) (same_refl v)))

  judged_fresh : (u : Transaction) (b : Bool) → nat_eq (t.current u) s ≡ b → IsWrite t u → cond b (t.judged s + 1) (t.judged (t.current u)) ≡ 0 → served (t.current u) ≡ 0
  judged_fresh u true i w j = absurd (omega (arith, j))
  judged_fresh u false i w j = elsewhere (t.current u) i ∙ z.fresh u w j

  judged_ended : (r : ℕ) (p : Sending) (u : Transaction) (b : Bool) → nat_eq r s ≡ b → t.sent r ≡ Some p → begun_by p ≡ Some u → is_write p.bytes ≡ true → both t.injects u ≡ true → t.closed r ≡ Some 0 → served r ≡ 1
  judged_ended r p u false i e b w h c = elsewhere r i ∙ z.ended r p u e b w h c
  judged_ended r p u true i e b w h c =
      let at : r ≡ s = nat_is r s i in
      let own : p ≡ q = some_same (t.sent r) p q e (ap t.sent at ∙ sent) in
      let e' : v ≡ u = some_same (asked_by q) v u is_asked (ap asked_by (sym own) ∙ (begun_asked p u b).1) in
      let old = z.ended r p u e b w h c in
      let once = (f.counts r p e).once u 0 b w h c in
      let is : r ≡ t.current u = (f.flies r p e).asks u b (subst (λ n. is_live (t.flight n) ≡ true) (sym at) live) in
      let a = f.asked u (subst (λ n. 0 < n) is (positive r (λ nil. nothing (sym f.zero ∙ ap t.sent (sym nil) ∙ e)))) in
      let mine : a.packet ≡ p = some_same (t.sent r) a.packet p (ap t.sent is ∙ a.sent_is) e in
      let write : IsWrite t u = record { fairly = h; bytes = p.bytes; last = a.last_is ∙ ap (λ (x : Sending). Some x.bytes) mine; writes = w } in
      let was : 0 < t.judged (t.current u) = ⊎_elim (λ nil. absurd (omega (arith, sym once, ap t.news is, (f.tie u).unjudged nil))) (λ j. j) (one_of (t.judged (t.current u))) in
      ap served at ∙ (again (repeats u e' write was)).1 ∙ ap t.served (sym at) ∙ old
    where
      positive : (n : ℕ) → (n ≡ 0 → ⊥) → 0 < n
      positive n h = grind arith

  due_served : (u : Transaction) (rcode : ℕ) → v ≡ u → IsWrite t u → is_stated cause (t.given u) rcode ≡ true → rcode ≡ 0 → served (t.current u) ≡ 1
  due_served u rcode e w stated nil =
      let is = is_now u e w in
      ap served (sym is) ∙ ⊎_elim
      (λ j.
      let n = new (is_new u e w j) rcode (subst (λ x. is_stated cause (t.given x) rcode ≡ true) (sym e) stated) nil in
      n ∙ ap (λ x. x + 1) (ap t.served is ∙ z.fresh u w j))
      (λ j.
      let r = again (repeats u e w j) in
      let given : t.given u ≡ 0 = sym (again_code cause (t.given u) rcode r.0 stated) ∙ nil in
      r.1 ∙ ap t.served is ∙ z.done u w refl j given)
      (one_of (t.judged (t.current u)))
    where
      again_code : (cause : Option Cause) (given rcode : ℕ) → cause ≡ Some causes.Again → is_stated cause given rcode ≡ true → rcode ≡ given
      again_code cause given rcode i e = nat_is rcode given (subst (λ c. is_stated c given rcode ≡ true) i e)

  due_replied : (u : Transaction) (rcode r : ℕ) → v ≡ u → IsWrite t u → is_stated cause (t.given u) rcode ≡ true → (c : Comes t u r) → rcode_of c.packet.bytes ≡ rcode
  due_replied u rcode r e w stated c =
      let i = (f.flies r c.packet c.sent).replies c.label c.kind c.part c.honest c.live (subst (λ x. fair t.injects x ≡ true) (sym c.is) (both_fair t.injects u w.fairly)) in
      let j : 0 < t.judged (t.current u) = subst (λ x. 0 < t.judged (t.current x)) c.is i.1 in
      z.replies u r w refl c ∙ sym (again_code cause (t.given u) rcode (again (repeats u e w j)).0 stated)
    where
      again_code : (cause : Option Cause) (given rcode : ℕ) → cause ≡ Some causes.Again → is_stated cause given rcode ≡ true → rcode ≡ given
      again_code cause given rcode i e = nat_is rcode given (subst (λ c. is_stated c given rcode ≡ true) i e)

  judged_unserved : (r : ℕ) (b : Bool) → nat_eq r s ≡ b → t.count < r → served r ≡ 0
  judged_unserved r false i l = elsewhere r i ∙ z.unserved r l
  judged_unserved r true i l = let g = f.unsent r l in absurd (nothing (sym g.sent_is ∙ ap t.sent (nat_is r s i) ∙ sent))

  one_owed : (o : Owed) → Some owed ≡ Some o → o.cause ≡ cause
  one_owed o e = ap (λ (x : Owed). x.cause) (sym (some_same (Some owed) owed o refl e))

  pub served_judged : Served (judged_at t s q v (Some (record { serial = s; cause = cause })) news served) (Some v)
  served_judged = record {
    unserved = λ r l. judged_unserved r (nat_eq r s) refl l;
    fresh = λ u w j. judged_fresh u (nat_eq (t.current u) s) refl (before u w) j;
    done = λ u w n j g.
        let d = other_now u n in
        elsewhere (t.current u) d ∙ z.done u (before u w) refl (subst (λ x. 0 < cond x (t.judged s + 1) (t.judged (t.current u))) d j) g;
    replies = λ u r w n c. z.replies u r (before u w) refl (came u r c);
    ended = λ r p u. judged_ended r p u (nat_eq r s) refl;
    due_done = λ u o rcode e i w stated nil. due_served u rcode (some_same (Some v) v u refl e) (before u w) (subst (λ c. is_stated c (t.given u) rcode ≡ true) (one_owed o i) stated) nil;
    due_replies = λ u o rcode r e i w stated c. due_replied u rcode r (some_same (Some v) v u refl e) (before u w) (subst (λ c. is_stated c (t.given u) rcode ≡ true) (one_owed o i) stated) (came u r c);
  }

-- ---- a response closes a transaction
module _ {t : Terms} (f : Facts t) (z : Served t None) (u : Transaction) (kind : Kind) (r rcode : ℕ) (waiting : t.held u ≡ waits kind r) (code : IsWrite t u → (rcode ≡ t.given u) × (0 < t.judged (t.current u))) where
  closed_ended : (s : ℕ) (p : Sending) (v : Transaction) (b : Bool) → nat_eq s r ≡ b → t.sent s ≡ Some p → begun_by p ≡ Some v → is_write p.bytes ≡ true → both t.injects v ≡ true → cond b (Some rcode) (t.closed s) ≡ Some 0 → t.served s ≡ 1
  closed_ended s p v false i e b w h c = z.ended s p v e b w h c
  closed_ended s p v true i e b w h c =
      let now = (f.tie u).waiting kind r waiting in
      let a = f.asked u (subst (λ n. 0 < n) now.0 now.1) in
      let is : s ≡ t.current u = nat_is s r i ∙ now.0 in
      let own : a.packet ≡ p = some_same (t.sent s) a.packet p (ap t.sent is ∙ a.sent_is) e in
      let same : u ≡ v = some_same (begun_by p) u v (subst (λ x. begun_by x ≡ Some u) own a.begun) b in
      let write : IsWrite t u = record { fairly = subst (λ x. both t.injects x ≡ true) (sym same) h; bytes = p.bytes; last = a.last_is ∙ ap (λ (x : Sending). Some x.bytes) own; writes = w } in
      let g = code write in
      ap t.served is ∙ z.done u write refl g.1 (sym g.0 ∙ some_same (Some rcode) rcode 0 refl c)

  pub served_closed : Served (closed_at t u r rcode) None
  served_closed = record {
    unserved = z.unserved;
    fresh = λ v w. z.fresh v (same v w);
    done = λ v w. z.done v (same v w);
    replies = λ v s w n c. z.replies v s (same v w) n (comes v s c);
    ended = λ s p v. closed_ended s p v (nat_eq s r) refl;
    due_done = λ v owed rcode e. absurd (nothing e);
    due_replies = λ v owed rcode s e. absurd (nothing e);
  }
    where
      same : (v : Transaction) → IsWrite (closed_at t u r rcode) v → IsWrite t v
      same v w = record { fairly = w.fairly; bytes = w.bytes; last = w.last; writes = w.writes }

      comes : (v : Transaction) (s : ℕ) → Comes (closed_at t u r rcode) v s → Comes t v s
      comes v s c = record { packet = c.packet; sent = c.sent; label = c.label; kind = c.kind; part = c.part; honest = c.honest; live = c.live; is = c.is }

-- ---- what it does not read may change
pub served_other : {t : Terms} {of : Option Transaction} → Served t of → (held : Transaction → Held) (bus : ℕ) (ids : ℕ → ℕ → ℕ) (generation : ℕ → ℕ) (repeats : Bool) (injected : ℕ → Bool) → Served (record t { held = held; bus = bus; ids = ids; generation = generation; repeats = repeats; injected = injected }) of
served_other {t} z held bus ids generation repeats injected = record {
  unserved = z.unserved;
  fresh = λ v w. z.fresh v (record { fairly = w.fairly; bytes = w.bytes; last = w.last; writes = w.writes });
  done = λ v w. z.done v (record { fairly = w.fairly; bytes = w.bytes; last = w.last; writes = w.writes });
  replies = λ v s w n c. z.replies v s (record { fairly = w.fairly; bytes = w.bytes; last = w.last; writes = w.writes }) n (record { packet = c.packet; sent = c.sent; label = c.label; kind = c.kind; part = c.part; honest = c.honest; live = c.live; is = c.is });
  ended = z.ended;
  due_done = λ v owed rcode e o w. z.due_done v owed rcode e o (record { fairly = w.fairly; bytes = w.bytes; last = w.last; writes = w.writes });
  due_replies = λ v owed rcode s e o w i c. z.due_replies v owed rcode s e o (record { fairly = w.fairly; bytes = w.bytes; last = w.last; writes = w.writes }) i (record { packet = c.packet; sent = c.sent; label = c.label; kind = c.kind; part = c.part; honest = c.honest; live = c.live; is = c.is });
}
