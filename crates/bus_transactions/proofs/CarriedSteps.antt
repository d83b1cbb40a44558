-- What carries the requests under way, note by note: a packet is sent, or it arrives.
use Rattle.std.specs.Prelude.{◌≡◌, ℕ, ◌+◌, nat_eq, Bool, true, false, cond, Option, Some, None, refl}
use Rattle.std.proofs.Common.{sym, ◌∙◌, ap, subst}
use Rattle.sbp_base.specs.Update.{upd}
use Rattle.async_packet.specs.Fields.{rcode_of}
use Rattle.label_table.specs.Judging.{by_generation, row_of}
use Rattle.sbp_journal.specs.Transactions.{Kind, is_same_kind, Part, request, response, no_packet, part_of, is_to, Transaction, is_same, Sending, between, asked_as, asked_by, begun_by, belongs}
use Rattle.sbp_journal.specs.Wire.{Terms, in_flight, delivered, withdraw, belongs_to, by_bus_rule, Held, free, waits, rests, Owed, arrives, is_news, is_served, judges, judges_if, closes, closes_if, gets, gets_as, ignores, ignores_that}
use Rattle.sbp_journal.specs.declared.cause.Cause.{Cause}
use Rattle.sbp_journal.specs.declared.cause.Cause.TheVariants as causes
use Rattle.bus_transactions.specs.Wire.{transaction}
use Rattle.bus_transactions.specs.Answers.{IsOwed}
use Rattle.bus_transactions.specs.Carried.{IsReplyFor, IsCarried, asks, owed, replies, AreCarried, NoneRests, NoneWaits, NoneFlies, IsOfOther}
use Rattle.bus_transactions.specs.Judging.{facts_of, is_response, waits_for, is_awaited, may_ignore_by}
use Rattle.bus_transactions.specs.Reached.{IsAwaited}
use Rattle.bus_transactions.specs.Sent.{is_free}
use Rattle.bus_transactions.proofs.PacketParts.{same_refl}
use Rattle.bus_transactions.proofs.Facts.{Facts, nat_same, nat_is, some_same, not_true, begun_asked, asked_is, request_asked, response_asked, begun_belongs, reply_belongs, awaited}
use Rattle.bus_transactions.proofs.FactsSent.{begins_at, puts_at, sent_kept}
use Rattle.bus_transactions.proofs.FactsJudged.{news_at}
use Rattle.bus_transactions.proofs.JudgedStep.{kind_is}

-- each request under way is carried, and no label rests
pub record Carries (t : Terms) : Type 0 where
  pub carried : AreCarried t
  pub awake : NoneRests t

-- ---- what tells packets apart
apart : {l m : ℕ} {k n : Kind} → request l k ≡ response m n → ⊥
apart e = cc

asked_not : {l : ℕ} {k : Kind} → no_packet ≡ request l k → ⊥
asked_not e = cc

replied_not : {l : ℕ} {k : Kind} → no_packet ≡ response l k → ⊥
replied_not e = cc

reply_label : {l m : ℕ} {k n : Kind} → response l k ≡ response m n → l ≡ m
reply_label e = cc

reply_kind : {l m : ℕ} {k n : Kind} → response l k ≡ response m n → k ≡ n
reply_kind e = cc

asked_label : {l m : ℕ} {k n : Kind} → request l k ≡ request m n → l ≡ m
asked_label e = cc

asked_kind : {l m : ℕ} {k n : Kind} → request l k ≡ request m n → k ≡ n
asked_kind e = cc

held_kind : {k m : Kind} {r n : ℕ} → waits k r ≡ waits m n → k ≡ m
held_kind e = cc

held_serial : {k m : Kind} {r n : ℕ} → waits k r ≡ waits m n → r ≡ n
held_serial e = cc

not_free : {k : Kind} {r : ℕ} → free ≡ waits k r → ⊥
not_free e = cc

not_rests : {k : Kind} {r : ℕ} → rests ≡ waits k r → ⊥
not_rests e = cc

not_owed : {o : Owed} → None ≡ Some o → ⊥
not_owed e = cc

nothing_asked : (q : Sending) → part_of q.bytes ≡ no_packet → asked_by q ≡ None
unfolding asked_by
nothing_asked q e = ap (λ part. asked_as part q) e

-- whose transaction a request that waits is
pub begun_between : (q : Sending) (u : Transaction) (kind : Kind) → begun_by q ≡ Some u → part_of q.bytes ≡ request u.label kind → between q q.from q.to u.label ≡ u
begun_between q u kind begun part =
    let a = asked_is q u (begun_asked q u begun).1 in
    ap (between q q.from q.to) (asked_label (sym part ∙ a.part)) ∙ sym a.is

-- a response that is still sent
reply_by : {t new : Terms} {u : Transaction} {kind : Kind} {s : ℕ} (r : IsReplyFor t u kind s) → new.sent s ≡ Some r.packet → IsReplyFor new u kind s
reply_by r sent = record { packet = r.packet; sent = sent; honest = r.honest; part = r.part; answers = r.answers }

-- so where nothing is in flight and nothing is owed, none is under way
pub none_waits : {t : Terms} → AreCarried t → t.owes ≡ None → NoneFlies t → NoneWaits t
none_waits {t} c idle still u kind serial g e = by_carrier (c u kind serial g e)
  where
    by_carrier : IsCarried t u kind serial → ⊥
    by_carrier (asks flies) = still serial flies
    by_carrier (owed o is n) = not_owed (sym idle ∙ is)
    by_carrier (replies s flies reply) = still s flies

-- ---- the request of a transaction is sent
module _ {t : Terms} (f : Facts t) (u : Transaction) (kind : Kind) (q : Sending) (begun : begun_by q ≡ Some u) (idle : t.owes ≡ None) (c : Carries t) where
  abbrev b : Terms
  b = begins_at t u kind q

  -- the bus rule leaves a packet of another transaction alone
  left_alone : (r : ℕ) (p : Sending) → t.sent r ≡ Some p → belongs p u ≡ false → t.flight r ≡ in_flight → b.flight r ≡ in_flight
  left_alone r p sent other flies = by_serial (nat_eq r (t.count + 1))
    where
      left : (by_bus_rule (Some u) t.sent t.flight) r ≡ in_flight
      left = ap (λ o. cond (belongs_to u o) (withdraw (t.flight r)) (t.flight r)) sent ∙ ap (λ x. cond x (withdraw (t.flight r)) (t.flight r)) other ∙ flies

      by_serial : (x : Bool) → cond x in_flight (by_bus_rule (Some u) t.sent t.flight r) ≡ in_flight
      by_serial true = refl
      by_serial false = left

  still_carried : (v : Transaction) (k : Kind) (n : ℕ) → is_same v u ≡ false → t.held v ≡ waits k n → IsCarried t v k n → IsCarried b v k n
  still_carried v k n other e (asks flies) =
      let a = awaited f v k n e in
      asks (left_alone n a.packet a.sent (begun_belongs a.packet v u a.begun ∙ other) flies)
  still_carried v k n other e (owed o is serial) = absurd (not_owed (sym idle ∙ is))
  still_carried v k n other e (replies s flies r) =
      replies s (left_alone s r.packet r.sent (reply_belongs r.packet v.label k u r.part ∙ ap (λ x. is_same x u) r.answers ∙ other) flies) (reply_by r (sent_kept f q s r.packet (nat_eq s (t.count + 1)) refl r.sent))

  new_carried : (v : Transaction) (k : Kind) (n : ℕ) (x : Bool) → is_same v u ≡ x → v.generation ≡ t.bus → cond x (waits kind (t.count + 1)) (t.held v) ≡ waits k n → IsCarried b v k n
  new_carried v k n true same g e =
      asks (ap b.flight (sym (held_serial e)) ∙ ap (λ x. cond x in_flight (by_bus_rule (Some u) t.sent t.flight (t.count + 1))) (nat_same (t.count + 1)))
  new_carried v k n false same g e = still_carried v k n same e (c.carried v k n g e)

  new_awake : (v : Transaction) (x : Bool) → v.generation ≡ t.bus → cond x (waits kind (t.count + 1)) (t.held v) ≡ rests → ⊥
  new_awake v true g e = not_rests (sym e)
  new_awake v false g e = c.awake v g e

  pub carries_begun : Carries b
  carries_begun = record {
    carried = λ v k n g. new_carried v k n (is_same v u) refl g;
    awake = λ v g. new_awake v (is_same v u) g;
  }

-- ---- the answer that is owed is sent
module _ {t : Terms} (f : Facts t) (o : Owed) (is_owed : t.owes ≡ Some o) (q : Sending) (honest : q.injected ≡ false) (r : IsOwed t o q) (answers : ℕ → Option ℕ) (given : Transaction → ℕ) (c : Carries t) where
  abbrev p : Terms
  p = puts_at t q t.injects answers given None

  flies_still : (s : ℕ) → t.flight s ≡ in_flight → p.flight s ≡ in_flight
  flies_still s flies = by_serial (nat_eq s (t.count + 1))
    where
      by_serial : (x : Bool) → cond x in_flight (t.flight s) ≡ in_flight
      by_serial true = refl
      by_serial false = flies

  -- it answers the request that waits
  is_reply : (u : Transaction) (kind : Kind) (serial : ℕ) → t.held u ≡ waits kind serial → o.serial ≡ serial → IsReplyFor p u kind (t.count + 1)
  is_reply u kind serial e n =
      let a = awaited f u kind serial e in
      let same : r.asking ≡ a.packet = some_same (t.sent serial) r.asking a.packet (ap t.sent (sym n) ∙ r.sent) a.sent in
      let asked : request r.responds.label r.responds.kind ≡ request u.label kind = sym r.responds.asks ∙ ap (λ (x : Sending). part_of x.bytes) same ∙ a.part in
      record {
        packet = q;
        sent = ap (λ x. cond x (Some q) (t.sent (t.count + 1))) (nat_same (t.count + 1));
        honest = honest;
        part = r.responds.replies ∙ ap (λ l. response l r.responds.kind) (asked_label asked) ∙ ap (response u.label) (asked_kind asked);
        answers =
            ap (λ g. transaction g q.to q.from u.label) (r.responds.generation ∙ ap (λ (x : Sending). x.generation) same)
            ∙ ap (λ i. transaction a.packet.generation i q.from u.label) (r.responds.to ∙ ap (λ (x : Sending). x.from) same)
            ∙ ap (λ i. transaction a.packet.generation a.packet.from i u.label) (r.responds.from ∙ ap (λ (x : Sending). x.to) same)
            ∙ begun_between a.packet u kind a.begun a.part;
      }

  paid_carried : (u : Transaction) (kind : Kind) (serial : ℕ) → t.held u ≡ waits kind serial → IsCarried t u kind serial → IsCarried p u kind serial
  paid_carried u kind serial e (asks flies) = asks (flies_still serial flies)
  paid_carried u kind serial e (owed other is n) =
      replies (t.count + 1) (ap (λ x. cond x in_flight (t.flight (t.count + 1))) (nat_same (t.count + 1)))
      (is_reply u kind serial e (ap (λ (x : Owed). x.serial) (some_same t.owes o other is_owed is) ∙ n))
  paid_carried u kind serial e (replies s flies reply) = replies s (flies_still s flies) (reply_by reply (sent_kept f q s reply.packet (nat_eq s (t.count + 1)) refl reply.sent))

  pub carries_paid : Carries p
  carries_paid = record {
    carried = λ u kind serial g e. paid_carried u kind serial e (c.carried u kind serial g e);
    awake = c.awake;
  }

-- ---- a packet arrives
-- What its arrival changes, whatever it is found to be: no flight but its own, and no label but one that it frees.
pub record Arrives (t new : Terms) (s : ℕ) : Type 0 where
  pub bus : new.bus ≡ t.bus
  pub sent : new.sent ≡ t.sent
  pub flight : (r : ℕ) → nat_eq r s ≡ false → new.flight r ≡ t.flight r
  pub held : (u : Transaction) (x : Held) → is_free x ≡ false → new.held u ≡ x → t.held u ≡ x

arrived_flight : (t : Terms) (s r : ℕ) → nat_eq r s ≡ false → (arrives s t).flight r ≡ t.flight r
arrived_flight t s r e = by_repeat t.repeats
  where
    by_repeat : (b : Bool) → cond b t.flight (upd t.flight s delivered) r ≡ t.flight r
    by_repeat true = refl
    by_repeat false = ap (λ x. cond x delivered (t.flight r)) e

module _ {t : Terms} (f : Facts t) (c : Carries t) (idle : t.owes ≡ None) (s : ℕ) (q : Sending) (sent : t.sent s ≡ Some q) where
  -- once it has arrived, with other counts
  abbrev arrived : (news served : ℕ → ℕ) → Terms
  arrived news served = news_at (arrives s t) news served

  -- where it is the request that waits, that is carried on, and where it is a response that is waited for; or it is neither
  abbrev CarriesAsked : Terms → Type 0
  CarriesAsked new = (u : Transaction) (kind : Kind) → u.generation ≡ t.bus → IsAwaited t u kind s → IsCarried new u kind s

  abbrev CarriesReplied : Terms → Type 0
  CarriesReplied new = (u : Transaction) (kind : Kind) (serial : ℕ) → u.generation ≡ t.bus → new.held u ≡ waits kind serial → IsReplyFor t u kind s → IsCarried new u kind serial

  abbrev NeverAsked : Type 0
  NeverAsked = (u : Transaction) (kind : Kind) → u.generation ≡ t.bus → IsAwaited t u kind s → ⊥

  abbrev NeverReplied : Type 0
  NeverReplied = (u : Transaction) (kind : Kind) (serial : ℕ) → u.generation ≡ t.bus → t.held u ≡ waits kind serial → IsReplyFor t u kind s → ⊥

  -- so each request is carried where those two are, as what carries another is left
  resolved : (new : Terms) → Arrives t new s → CarriesAsked new → CarriesReplied new → Carries new
  resolved new a asked replied = record {
    carried = λ u kind serial g e.
        left u kind serial (g ∙ a.bus) e (a.held u (waits kind serial) refl e) (c.carried u kind serial (g ∙ a.bus) (a.held u (waits kind serial) refl e));
    awake = λ u g e. c.awake u (g ∙ a.bus) (a.held u rests refl e);
  }
    where
      left : (u : Transaction) (kind : Kind) (serial : ℕ) → u.generation ≡ t.bus → new.held u ≡ waits kind serial → t.held u ≡ waits kind serial → IsCarried t u kind serial → IsCarried new u kind serial
      left u kind serial g e was (asks flies) = by_serial (nat_eq serial s) refl
        where
          by_serial : (x : Bool) → nat_eq serial s ≡ x → IsCarried new u kind serial
          by_serial true i =
              let is = nat_is serial s i in
              subst (IsCarried new u kind) (sym is) (asked u kind g (subst (IsAwaited t u kind) is (awaited f u kind serial was)))
          by_serial false i = asks (a.flight serial i ∙ flies)
      left u kind serial g e was (owed o is n) = absurd (not_owed (sym idle ∙ is))
      left u kind serial g e was (replies r flies reply) = by_serial (nat_eq r s) refl
        where
          by_serial : (x : Bool) → nat_eq r s ≡ x → IsCarried new u kind serial
          by_serial true i = replied u kind serial g e (subst (IsReplyFor t u kind) (nat_is r s i) reply)
          by_serial false i = replies r (a.flight r i ∙ flies) (reply_by reply (ap (λ x. x r) a.sent ∙ reply.sent))

  -- what an awaited request, or a response that is waited for, says of the packet
  asked_part : (u : Transaction) (kind : Kind) → IsAwaited t u kind s → part_of q.bytes ≡ request u.label kind
  asked_part u kind w = ap (λ (x : Sending). part_of x.bytes) (some_same (t.sent s) q w.packet sent w.sent) ∙ w.part

  asked_begun : (u : Transaction) (kind : Kind) → IsAwaited t u kind s → begun_by q ≡ Some u
  asked_begun u kind w = ap begun_by (some_same (t.sent s) q w.packet sent w.sent) ∙ w.begun

  replied_is : (u : Transaction) (kind : Kind) (r : IsReplyFor t u kind s) → q ≡ r.packet
  replied_is u kind r = some_same (t.sent s) q r.packet sent r.sent

  replied_part : (u : Transaction) (kind : Kind) → IsReplyFor t u kind s → part_of q.bytes ≡ response u.label kind
  replied_part u kind r = ap (λ (x : Sending). part_of x.bytes) (replied_is u kind r) ∙ r.part

  replied_answers : (u : Transaction) (kind : Kind) → IsReplyFor t u kind s → between q q.to q.from u.label ≡ u
  replied_answers u kind r = ap (λ (x : Sending). between x x.to x.from u.label) (replied_is u kind r) ∙ r.answers

  -- ---- a request is judged
  judged_carries : (news served : ℕ → ℕ) (cause : Option Cause) (l : ℕ) (k : Kind) → part_of q.bytes ≡ request l k → Carries (judges (asked_by q) cause s q (arrived news served))
  judged_carries news served cause l k part =
      subst (λ o. Carries (judges o cause s q (arrived news served))) (sym (request_asked q l k part))
      (resolved (judges (Some (between q q.from q.to l)) cause s q (arrived news served))
      (record { bus = refl; sent = refl; flight = arrived_flight t s; held = λ u x n e. e })
      (λ u kind g w. owed (record { serial = s; cause = cause }) refl refl)
      (λ u kind serial g e r. absurd (apart (sym part ∙ replied_part u kind r))))

  -- ---- it is no request, and no response that is waited for
  passed_carries : (news served : ℕ → ℕ) → NeverAsked → NeverReplied → Carries (arrived news served)
  passed_carries news served asked replied =
      resolved (arrived news served)
      (record { bus = refl; sent = refl; flight = arrived_flight t s; held = λ u x n e. e })
      (λ u kind g w. absurd (asked u kind g w))
      (λ u kind serial g e r. absurd (replied u kind serial g e r))

  -- ---- a response closes the transaction that waits for it
  module _ (news served : ℕ → ℕ) (l : ℕ) (k : Kind) (rcode : ℕ) (part : part_of q.bytes ≡ response l k) where
    abbrev v : Transaction
    v = between q q.to q.from l

    abbrev here : Terms
    here = arrived news served

    asked_never : NeverAsked
    asked_never u kind g w = apart (sym (asked_part u kind w) ∙ part)

    is_it : (u : Transaction) (kind : Kind) → IsReplyFor t u kind s → v ≡ u
    is_it u kind r = ap (between q q.to q.from) (reply_label (sym part ∙ replied_part u kind r)) ∙ replied_answers u kind r

    kind_of : (u : Transaction) (kind : Kind) → IsReplyFor t u kind s → k ≡ kind
    kind_of u kind r = reply_kind (sym part ∙ replied_part u kind r)

    freed : (u : Transaction) (b : Bool) (x : Held) → is_free x ≡ false → cond b free (t.held u) ≡ x → t.held u ≡ x
    freed u false x n e = e
    freed u true x n e = absurd (not_true n (ap is_free (sym e)))

    by_kind : (kind : Kind) (r : ℕ) (b : Bool) → is_same_kind kind k ≡ b → t.held v ≡ waits kind r → Carries (closes_if b r v rcode here)
    by_kind kind r true i e =
        resolved (closes_if true r v rcode here)
        (record { bus = refl; sent = refl; flight = arrived_flight t s; held = λ u x n. freed u (is_same u v) x n })
        (λ u m g w. absurd (asked_never u m g w))
        (λ u m serial g now reply. absurd (not_free (
        ap (λ b. cond b free (t.held u)) (sym (subst (λ x. is_same u x ≡ true) (sym (is_it u m reply)) (same_refl u)))
        ∙ now)))
    by_kind kind r false i e =
        passed_carries news served asked_never
        (λ u m serial g now reply. not_true i (
        ap (λ x. is_same_kind x k) (held_kind (sym e ∙ ap t.held (is_it u m reply) ∙ now) ∙ sym (kind_of u m reply))
        ∙ kind_is k k refl))

    by_held : (h : Held) → t.held v ≡ h → Carries (closes h v k rcode here)
    by_held free e = passed_carries news served asked_never (λ u m serial g now reply. not_free (sym e ∙ ap t.held (is_it u m reply) ∙ now))
    by_held rests e = passed_carries news served asked_never (λ u m serial g now reply. not_rests (sym e ∙ ap t.held (is_it u m reply) ∙ now))
    by_held (waits kind r) e = by_kind kind r (is_same_kind kind k) refl e

    closed_carries : Carries (closes (t.held v) v k rcode here)
    closed_carries = by_held (t.held v) refl

  -- ---- it is got
  part_carries : (part : Part) → part_of q.bytes ≡ part → Carries (gets_as part s q (is_served s (is_news s (arrives s t))))
  part_carries (request l k) e = judged_carries (upd t.news s (t.news s + 1)) (upd t.served s (t.served s + 1)) None l k e
  part_carries (response l k) e = closed_carries (upd t.news s (t.news s + 1)) (upd t.served s (t.served s + 1)) l k (rcode_of q.bytes) e
  part_carries no_packet e =
      passed_carries (upd t.news s (t.news s + 1)) (upd t.served s (t.served s + 1))
      (λ u kind g w. asked_not (sym e ∙ asked_part u kind w)) (λ u kind serial g was r. replied_not (sym e ∙ replied_part u kind r))

  got_carries : Carries (gets (Some q) s t)
  got_carries = part_carries (part_of q.bytes) refl

  -- ---- it is ignored
  is_its : q.injected ≡ false → is_to q.bytes (t.ids q.generation q.to) ≡ true
  is_its honest = (f.honest s q sent).is_for honest

  -- by the rows, a response that is waited for only for its generation, and a request for no label
  reply_row : (a b d e : Bool) (k : Bool) → b ≡ true → d ≡ true → e ≡ true → (cause : Cause) → may_ignore_by (row_of (record { is_current = a; is_for_node = b; is_response = d; is_awaited = e; is_repeated = k })) cause ≡ true → may_ignore_by by_generation cause ≡ true
  reply_row false b d e k i j l cause m = m
  reply_row true true true true k i j l cause m = cc
  reply_row true false d e k i j l cause m = cc
  reply_row true true false e k i j l cause m = cc
  reply_row true true true false k i j l cause m = cc

  asked_row : (a b d e k : Bool) → b ≡ true → d ≡ false → may_ignore_by (row_of (record { is_current = a; is_for_node = b; is_response = d; is_awaited = e; is_repeated = k })) causes.Label ≡ true → ⊥
  asked_row false b d e k i j m = cc
  asked_row true false d e k i j m = cc
  asked_row true true true e k i j m = cc
  asked_row true true false e true i j m = cc
  asked_row true true false e false i j m = cc

  reply_ignored : (cause : Cause) → may_ignore_by (row_of (facts_of t q)) cause ≡ true → (u : Transaction) (kind : Kind) (serial : ℕ) → t.held u ≡ waits kind serial → IsReplyFor t u kind s → may_ignore_by by_generation cause ≡ true
  reply_ignored cause row u kind serial e r =
      let part = replied_part u kind r in
      let honest = ap (λ (x : Sending). x.injected) (replied_is u kind r) ∙ r.honest in
      let waiting : is_awaited t (part_of q.bytes) q ≡ true =
      ap (λ x. is_awaited t x q) part ∙ ap (λ x. waits_for (t.held x) kind) (replied_answers u kind r) ∙ ap (λ h. waits_for h kind) e ∙ kind_is kind kind refl in
      reply_row _ _ _ _ _ (is_its honest) (ap is_response part) waiting cause row

  -- the request of a packet is judged where it is one
  judge_carries : (news served : ℕ → ℕ) (cause : Option Cause) → NeverReplied → (part : Part) → part_of q.bytes ≡ part → Carries (judges (asked_by q) cause s q (arrived news served))
  judge_carries news served cause never (request l k) e = judged_carries news served cause l k e
  judge_carries news served cause never (response l k) e =
      subst (λ o. Carries (judges o cause s q (arrived news served))) (sym (response_asked q l k e))
      (passed_carries news served (λ u kind g w. apart (sym (asked_part u kind w) ∙ e)) never)
  judge_carries news served cause never no_packet e =
      subst (λ o. Carries (judges o cause s q (arrived news served))) (sym (nothing_asked q e))
      (passed_carries news served (λ u kind g w. asked_not (sym e ∙ asked_part u kind w)) never)

  -- where it is no packet to its receiver, it was injected
  grammar_carries : NeverReplied → (b : Bool) → is_to q.bytes (t.ids q.generation q.to) ≡ b → Carries (judges_if b (asked_by q) s q (is_news s (arrives s t)))
  grammar_carries never true e = judge_carries (upd t.news s (t.news s + 1)) t.served (Some causes.Grammar) never (part_of q.bytes) refl
  grammar_carries never false e =
      passed_carries (upd t.news s (t.news s + 1)) t.served (λ u kind g w. not_true e (is_its (begun_asked q u (asked_begun u kind w)).0)) never

  ignored_carries : (cause : Cause) → may_ignore_by (row_of (facts_of t q)) cause ≡ true → (cause ≡ causes.Generation → q.generation ≡ t.bus → ⊥) → Carries (ignores cause s q (arrives s t))
  ignored_carries causes.Generation row other =
      passed_carries t.news t.served
      (λ u kind g w. other refl (ap (λ (x : Transaction). x.generation) (begun_between q u kind (asked_begun u kind w) (asked_part u kind w)) ∙ g))
      (λ u kind serial g e r. other refl (ap (λ (x : Transaction). x.generation) (replied_answers u kind r) ∙ g))
  ignored_carries causes.Grammar row other =
      grammar_carries (λ u kind serial g e r. let n = reply_ignored causes.Grammar row u kind serial e r in cc) (is_to q.bytes (t.ids q.generation q.to)) refl
  ignored_carries causes.Label row other =
      passed_carries (upd t.news s (t.news s + 1)) t.served
      (λ u kind g w. asked_row _ _ _ _ _ (is_its (begun_asked q u (asked_begun u kind w)).0) (ap is_response (asked_part u kind w)) row)
      (λ u kind serial g e r. let n = reply_ignored causes.Label row u kind serial e r in cc)
  ignored_carries causes.Again row other =
      judge_carries t.news t.served (Some causes.Again) (λ u kind serial g e r. let n = reply_ignored causes.Again row u kind serial e r in cc) (part_of q.bytes) refl
  ignored_carries causes.Source row other =
      judge_carries (upd t.news s (t.news s + 1)) t.served (Some causes.Source) (λ u kind serial g e r. let n = reply_ignored causes.Source row u kind serial e r in cc) (part_of q.bytes) refl
  ignored_carries causes.Login row other =
      judge_carries (upd t.news s (t.news s + 1)) t.served (Some causes.Login) (λ u kind serial g e r. let n = reply_ignored causes.Login row u kind serial e r in cc) (part_of q.bytes) refl
  ignored_carries causes.Slot row other =
      judge_carries (upd t.news s (t.news s + 1)) (upd t.served s (t.served s + 1)) (Some causes.Slot) (λ u kind serial g e r. let n = reply_ignored causes.Slot row u kind serial e r in cc) (part_of q.bytes) refl

-- what a note makes of a packet that was sent, or of none
pub carries_got : {t : Terms} → Facts t → Carries t → t.owes ≡ None → (s : ℕ) (so : Option Sending) → t.sent s ≡ so → Carries (gets so s t)
carries_got f c idle s None e = c
carries_got f c idle s (Some q) e = got_carries f c idle s q e

-- by its row it may be ignored for this cause
abbrev pub MayIgnore : Terms → ℕ → Cause → Type 0
MayIgnore t s cause = (q : Sending) → t.sent s ≡ Some q → may_ignore_by (row_of (facts_of t q)) cause ≡ true

pub carries_ignored : {t : Terms} → Facts t → Carries t → t.owes ≡ None → (s : ℕ) (cause : Cause) → MayIgnore t s cause → (cause ≡ causes.Generation → IsOfOther t s) → (so : Option Sending) → t.sent s ≡ so → Carries (ignores_that so cause s t)
carries_ignored f c idle s cause row other None e = c
carries_ignored f c idle s cause row other (Some q) e = ignored_carries f c idle s q e cause (row q e) (λ i. other i q e)

-- ---- the wire stays as it was
pub carries_same : {t new : Terms} → new.bus ≡ t.bus → new.sent ≡ t.sent → new.flight ≡ t.flight → new.owes ≡ t.owes → new.held ≡ t.held → Carries t → Carries new
carries_same {t} {new} bus sent flight owes held c = record {
  carried = λ u kind serial g e. by_carrier u kind serial (c.carried u kind serial (g ∙ bus) (ap (λ x. x u) (sym held) ∙ e));
  awake = λ u g e. c.awake u (g ∙ bus) (ap (λ x. x u) (sym held) ∙ e);
}
  where
    by_carrier : (u : Transaction) (kind : Kind) (serial : ℕ) → IsCarried t u kind serial → IsCarried new u kind serial
    by_carrier u kind serial (asks flies) = asks (ap (λ x. x serial) flight ∙ flies)
    by_carrier u kind serial (owed o is n) = owed o (owes ∙ is) n
    by_carrier u kind serial (replies s flies r) = replies s (ap (λ x. x s) flight ∙ flies) (reply_by r (ap (λ x. x s) sent ∙ r.sent))
