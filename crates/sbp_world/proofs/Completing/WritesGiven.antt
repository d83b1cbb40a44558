-- Every response to a write has rcode 0 where the response to it as it was judged first has: one that comes again is answered as the first time. So it is of a write of a node that injected no packets, to one that
-- injected none, while it is the present request of its transaction.
use Rattle.sbp_world.proofs.Words.Std.{arith, ◌≡◌, ◌∙◌, ◌⊎◌, inl, inr, refl, sym, ap, subst, ◌<◌, ◌≤◌, ◌+◌, ◌&&◌, not, nat_eq, ℕ, Bool, true, false, cond, List, [], ◌∷◌, ◌++◌, Option, Some, None, nat_tests, false≢true, same_Some}
use Rattle.sbp_world.proofs.Words.Wire.{AreAnswered, AreJudged, Cause, IsOwed, IsSentFor, Moment, Owed, Sending, SerialsCount, Terms, Transaction, asked, asked_by, asked_in, begun_by, begun_in, between, is_last, is_repeated, is_same, is_stated, is_to, is_write, may_ignore_by, part_of, rcode_of, row_of, said, terms}
use Rattle.bus_transactions.proofs.Facts.{asked_is, begun_asked, fair, request_asked}
use Rattle.bus_transactions.proofs.PacketParts.{same_is, same_refl}
use Rattle.bus_transactions.proofs.Ties.{one_of, same_last}
use Rattle.bus_transactions.specs.Judging.{facts_of}
use Rattle.sbp_journal.specs.declared.cause.Cause.TheVariants as causes
use Rattle.sbp_journal.specs.declared.note.Note.TheVariants as notes
use Rattle.sbp_world.proofs.Common.{moment_joined, none_is}
use Rattle.sbp_world.proofs.Completing.WritesEffects.{Effect, IsOwedNow, MayJudge, again_row, comes_again, gets_effect, keeps, late_judged, opened_judged, owes_it, sends_judged, that_effect}
use Rattle.sbp_world.proofs.Completing.WritesJudged.{AllJudged, IsJudgedAt, JudgedAt}
use Rattle.sbp_world.proofs.Hosts.Remaining.{gets_same, ignores_that_same, opened_same, remains, times_out_same}
use Rattle.sbp_world.proofs.Hosts.SentMoments.{count_now, sent_below, sent_now, serials_from}
use Rattle.sbp_world.proofs.Hosts.Standing.{answered_from}
use Rattle.sbp_world.proofs.Lists.BufferGets.{judged_from}
use Rattle.sbp_world.proofs.Lists.Calm.{injects_before}
use Rattle.sbp_world.proofs.Lists.ManageSends.{by_given, given_behind, opened_terms, sent_given, sent_other, sent_terms}
use Rattle.sbp_world.proofs.Lists.ManageTerms.{Rests, got_rests, ignored_rests, timed_owes, timed_rests}
use Rattle.sbp_world.proofs.Lists.StatusKnown.{each_from}
use Rattle.sbp_world.proofs.Completing.RestServed.{both_made}

module _ (all : List Moment) (r : ℕ) (q : Sending) (u : Transaction) (counts : SerialsCount all) (sent_all : (terms all).sent r ≡ Some q) (begun : begun_by q ≡ Some u) (writes : is_write q.bytes ≡ true) where
  asked_q : asked_by q ≡ Some u
  asked_q = (begun_asked q u begun).1

  -- the response that is sent to it as it is judged first is complete
  abbrev pub FirstIsComplete : Type 0
  FirstIsComplete = (front : List Moment) (s generation from to : ℕ) (bytes : List ℕ) (past : List Moment) (o : Owed) → front ++ said (notes.Sent s generation from to bytes) ∷ past ≡ all → (terms past).owes ≡ Some o → o.serial ≡ r → (o.cause ≡ Some causes.Again → ⊥) → rcode_of bytes ≡ 0

  record IsPresent (past : List Moment) : Type 0 where
    is : (terms past).current u ≡ r
    below : r ≤ (terms past).count
    there : (terms past).sent r ≡ Some q

  abbrev Unowed : List Moment → Type 0
  Unowed past = (o : Owed) → (terms past).owes ≡ Some o → o.serial ≡ r → ⊥

  -- where it stands
  data Stage (past : List Moment) : Type 0 where
    unjudged : (terms past).judged r ≡ 0 → Unowed past → Stage past
    first_owed : IsPresent past → 0 < (terms past).judged r → (o : Owed) → (terms past).owes ≡ Some o → o.serial ≡ r → (o.cause ≡ Some causes.Again → ⊥) → Stage past
    settled : IsPresent past → 0 < (terms past).judged r → (terms past).given u ≡ 0 → ((o : Owed) → (terms past).owes ≡ Some o → asked_in ((terms past).sent o.serial) ≡ Some u → o.cause ≡ Some causes.Again) → Stage past
    gone : r < (terms past).current u → (terms past).current u ≤ (terms past).count → Unowed past → Stage past

  -- ---- moments that leave it
  record Leaves (t v : Terms) : Type 0 where
    judged : v.judged ≡ t.judged
    owes : v.owes ≡ t.owes
    given : v.given ≡ t.given
    current : v.current ≡ t.current
    count : v.count ≡ t.count
    sent : v.sent ≡ t.sent

  left_present : (past now : List Moment) → (terms now).current ≡ (terms past).current → (terms now).count ≡ (terms past).count → (terms now).sent ≡ (terms past).sent → IsPresent past → IsPresent now
  left_present past now current count sent k = record {
    is = ap (λ (f : Transaction → ℕ). f u) current ∙ k.is;
    below = let b = k.below in omega (arith, b, count);
    there = ap (λ (f : ℕ → Option Sending). f r) sent ∙ k.there;
  }

  left : (past now : List Moment) → Leaves (terms past) (terms now) → Stage past → Stage now
  left past now l (unjudged z n) = unjudged (ap (λ (f : ℕ → ℕ). f r) l.judged ∙ z) (λ o e. n o (sym l.owes ∙ e))
  left past now l (first_owed k j o e s n) = first_owed (left_present past now l.current l.count l.sent k) (let x = ap (λ (f : ℕ → ℕ). f r) l.judged in omega (arith, x, j)) o (l.owes ∙ e) s n
  left past now l (settled k j g a) =
      settled (left_present past now l.current l.count l.sent k) (let x = ap (λ (f : ℕ → ℕ). f r) l.judged in omega (arith, x, j)) (ap (λ (f : Transaction → ℕ). f u) l.given ∙ g)
      (λ o e f. a o (sym l.owes ∙ e) (ap (λ (h : ℕ → Option Sending). asked_in (h o.serial)) (sym l.sent) ∙ f))
  left past now l (gone m b n) = let x = ap (λ (f : Transaction → ℕ). f u) l.current in let c = l.count in gone (omega (arith, x, m)) (omega (arith, x, b, c)) (λ o e. n o (sym l.owes ∙ e))

  -- ---- a packet is judged
  module _ (past now : List Moment) (s : ℕ) (cause : Option Cause) (rest : Rests s (terms past) (terms now)) (counted : (terms now).count ≡ (terms past).count) (may : MayJudge (terms past) s cause) (known : IsJudgedAt (terms past) (terms now)) (free : (terms past).owes ≡ None) (stays : (p : Sending) → (terms past).sent r ≡ Some p → p ≡ q) (below : (p : Sending) → (terms past).sent r ≡ Some p → r ≤ (terms past).count) (asking : (terms past).injects u.requester ≡ false) (answering : (terms past).injects u.responder ≡ false) (fairly : fair (terms now).injects u ≡ true) where
    abbrev t : Terms
    t = terms past

    abbrev v : Terms
    v = terms now

    present_on : IsPresent past → IsPresent now
    present_on k = left_present past now rest.current counted rest.sent k

    more_judged : (x : IsOwedNow t v s cause) → 0 < t.judged r → 0 < v.judged r
    more_judged x j = by (nat_eq r s) (ap (λ (f : ℕ → ℕ). f r) x.judged)
      where
        by : (b : Bool) → v.judged r ≡ cond b (t.judged s + 1) (t.judged r) → 0 < v.judged r
        by true e = omega (arith, e)
        by false e = omega (arith, e, j)

    -- the packet that is to be answered then
    module _ (x : IsOwedNow t v s cause) where
      own : (o : Owed) → v.owes ≡ Some o → record { serial = s; cause = cause } ≡ o
      own o e = same_Some _ o (sym x.owes ∙ e)

      -- is the write, where it is of the same transaction
      present_is : x.of ≡ u → s ≡ v.current u
      present_is same = known.present (record { serial = s; cause = cause }) x.owes x.packet (ap (λ (f : ℕ → Option Sending). f s) rest.sent ∙ x.sent) u (x.asks ∙ ap (λ y. Some y) same) fairly

      of_write : s ≡ r → x.of ≡ u
      of_write e = same_Some x.of u (sym x.asks ∙ (ap asked_by (stays x.packet (ap t.sent (sym e) ∙ x.sent)) ∙ asked_q))

      packet_is : s ≡ r → x.packet ≡ q
      packet_is e = stays x.packet (ap t.sent (sym e) ∙ x.sent)

      -- what is known of it, where it is the present one
      module _ (e : s ≡ r) (is : t.current u ≡ r) where
        there : t.sent r ≡ Some q
        there = ap t.sent (sym e) ∙ (x.sent ∙ ap (λ y. Some y) (packet_is e))

        some : 0 < t.current u
        some = by (one_of (t.current u))
          where
            by : (t.current u ≡ 0) ⊎ (0 < t.current u) → 0 < t.current u
            by (inr l) = l
            by (inl z) = none_is q (sym known.facts.zero ∙ (ap t.sent (sym z ∙ is) ∙ there))

        last_is : t.last u ≡ Some q.bytes
        last_is =
            let a = known.facts.asked u some in
            a.last_is ∙ ap (λ (y : Sending). Some y.bytes) (same_Some a.packet q (sym a.sent_is ∙ (ap t.sent is ∙ there)))

        repeated : is_last (t.seen u) q.bytes ≡ true → is_repeated t (part_of q.bytes) q ≡ true
        repeated l =
            let a = asked_is q u asked_q in
            ap (λ part. is_repeated t part q) a.part ∙ (ap (λ w. is_write q.bytes && is_last (t.seen w) q.bytes) (sym a.is) ∙ (ap (λ b. b && is_last (t.seen u) q.bytes) writes ∙ l))

        was_last : is_repeated t (part_of q.bytes) q ≡ true → is_last (t.seen u) q.bytes ≡ true
        was_last l =
            let a = asked_is q u asked_q in
            ap (λ b. b && is_last (t.seen u) q.bytes) (sym writes) ∙ (ap (λ w. is_write q.bytes && is_last (t.seen w) q.bytes) a.is ∙ (ap (λ part. is_repeated t part q) (sym a.part) ∙ l))

        -- judged before it comes again
        again : 0 < t.judged r → cause ≡ Some causes.Again
        again j =
            let a = asked_is q u asked_q in
            let seen : t.seen u ≡ t.last u = (known.facts.tie u).is_seen (ap not asking) (subst (λ n. 0 < t.judged n) (sym is) j) in
            comes_again t s cause q a.label a.kind (ap t.sent e ∙ there) a.part (repeated (same_last (t.seen u) (t.last u) q.bytes seen last_is)) may x.current (λ g. subst (λ (y : Sending). is_to y.bytes (t.ids y.generation y.to) ≡ true) (packet_is e) (x.aims g))

        -- and where it was not, it does not
        not_again : t.judged r ≡ 0 → cause ≡ Some causes.Again → ⊥
        not_again z g =
            let f = facts_of t q in
            let m : may_ignore_by (row_of (facts_of t q)) causes.Again ≡ true = subst (MayJudge t s) g may q (ap t.sent e ∙ there) in
            let l = was_last (again_row f.is_current f.is_for_node f.is_response f.is_awaited f.is_repeated m) in
            false≢true (sym ((known.facts.tie u).is_new (both_made t.injects u asking answering) (ap t.judged is ∙ z) q.bytes last_is writes) ∙ l)

    by_unjudged : t.judged r ≡ 0 → Unowed past → Effect t v s cause → Stage now
    by_unjudged z n (keeps j o) = unjudged (ap (λ (f : ℕ → ℕ). f r) j ∙ z) (λ w e. n w (sym o ∙ e))
    by_unjudged z n (owes_it x) = by (nat_eq r s) refl (ap (λ (f : ℕ → ℕ). f r) x.judged)
      where
        by : (b : Bool) → nat_eq r s ≡ b → v.judged r ≡ cond b (t.judged s + 1) (t.judged r) → Stage now
        by true e j =
            let same : s ≡ r = grind (arith, nat_tests) in
            let now_is : v.current u ≡ r = sym (present_is x (of_write x same)) ∙ same in
            let is : t.current u ≡ r = ap (λ (f : Transaction → ℕ). f u) (sym rest.current) ∙ now_is in
            let p : t.sent r ≡ Some q = there x same is in
            first_owed (record { is = now_is; below = (let b = below q p in omega (arith, b, counted)); there = ap (λ (f : ℕ → Option Sending). f r) rest.sent ∙ p })
            (omega (arith, j)) (record { serial = s; cause = cause }) x.owes same (not_again x same is z)
        by false e j = unjudged (j ∙ z) (λ o f g. let same : s ≡ r = ap (λ (y : Owed). y.serial) (own x o f) ∙ g in absurd (false≢true (sym e ∙ (let y : nat_eq r s ≡ true = grind (arith, nat_tests, same) in y))))

    by_settled : IsPresent past → 0 < t.judged r → t.given u ≡ 0 → Effect t v s cause → Stage now
    by_settled k j g (keeps w o) =
        settled (present_on k) (let x = ap (λ (f : ℕ → ℕ). f r) w in omega (arith, x, j)) (ap (λ (f : Transaction → ℕ). f u) rest.given ∙ g) (λ y e f. none_is y (sym free ∙ (sym o ∙ e)))
    by_settled k j g (owes_it x) = settled (present_on k) (more_judged x j) (ap (λ (f : Transaction → ℕ). f u) rest.given ∙ g) asks_again
      where
        asks_again : (o : Owed) → v.owes ≡ Some o → asked_in (v.sent o.serial) ≡ Some u → o.cause ≡ Some causes.Again
        asks_again o e f =
            let same = own x o e in
            let serial : s ≡ o.serial = ap (λ (y : Owed). y.serial) same in
            let of : x.of ≡ u =
            same_Some x.of u
            (sym x.asks ∙ (ap asked_in (sym x.sent) ∙ (ap (λ n. asked_in (t.sent n)) serial ∙ (ap (λ (h : ℕ → Option Sending). asked_in (h o.serial)) (sym rest.sent) ∙ f)))) in
            let is : s ≡ r = present_is x of ∙ (ap (λ (h : Transaction → ℕ). h u) rest.current ∙ k.is) in
            ap (λ (y : Owed). y.cause) (sym same) ∙ again x is k.is j

    by_gone : r < t.current u → t.current u ≤ t.count → Effect t v s cause → Unowed past → Stage now
    by_gone m b effect n =
        let c = ap (λ (f : Transaction → ℕ). f u) rest.current in
        gone (omega (arith, c, m)) (omega (arith, c, b, counted)) (unowed effect)
      where
        unowed : Effect t v s cause → Unowed now
        unowed (keeps j o) w e g = n w (sym o ∙ e) g
        unowed (owes_it x) w e g =
            let same : s ≡ r = ap (λ (y : Owed). y.serial) (own x w e) ∙ g in
            let is : s ≡ t.current u = present_is x (of_write x same) ∙ ap (λ (h : Transaction → ℕ). h u) rest.current in
            absurd (omega (arith, is, same, m))

    judged_on : Effect t v s cause → Stage past → Stage now
    judged_on effect (unjudged z n) = by_unjudged z n effect
    judged_on effect (first_owed k j o e w n) = none_is o (sym free ∙ e)
    judged_on effect (settled k j g a) = by_settled k j g effect
    judged_on effect (gone m b n) = by_gone m b effect n

  -- ---- a packet is sent
  module _ (past : List Moment) (s generation from to : ℕ) (bytes : List ℕ) where
    abbrev packet : Sending
    packet = record { generation = generation; from = from; to = to; bytes = bytes; injected = (terms past).injected s }

    abbrev behind : List Moment
    behind = said (notes.Sent s generation from to bytes) ∷ past

    -- where the answer to a write that came again is as the first time
    again_zero : (terms past).given u ≡ 0 → (o : Owed) → IsOwed (terms past) o packet → asked_in ((terms past).sent o.serial) ≡ Some u → o.cause ≡ Some causes.Again → rcode_of bytes ≡ 0
    again_zero g o w f again =
        let of : between w.asking w.asking.from w.asking.to w.responds.label ≡ u =
        same_Some _ u (sym (request_asked w.asking w.responds.label w.responds.kind w.responds.asks) ∙ (ap asked_in (sym w.sent) ∙ f)) in
        let stated : is_stated (Some causes.Again) ((terms past).given u) (rcode_of bytes) ≡ true =
        subst (λ c. is_stated c ((terms past).given u) (rcode_of bytes) ≡ true) again (subst (λ x. is_stated o.cause ((terms past).given x) (rcode_of bytes) ≡ true) of w.stated) in
        let same : rcode_of bytes ≡ (terms past).given u = grind (arith, nat_tests) in
        same ∙ g

    module _ (serial : s ≡ (terms past).count + 1) (sent_for : IsSentFor (terms past).owes (terms past) packet) (complete : (o : Owed) → (terms past).owes ≡ Some o → o.serial ≡ r → (o.cause ≡ Some causes.Again → ⊥) → rcode_of bytes ≡ 0) where
      owed_there : (o : Owed) → (terms past).owes ≡ Some o → IsOwed (terms past) o packet
      owed_there o e = subst (λ x. IsSentFor x (terms past) packet) e sent_for

      none_owed : (terms behind).owes ≡ None
      none_owed = (sent_terms s packet (terms past)).owes

      same_judged : (terms behind).judged r ≡ (terms past).judged r
      same_judged = ap (λ (f : ℕ → ℕ). f r) (sends_judged s packet (terms past))

      one_more : (terms behind).count ≡ (terms past).count + 1
      one_more = count_now past s generation from to bytes

      present_behind : (terms behind).current u ≡ (terms past).current u → IsPresent past → IsPresent behind
      present_behind e k = record {
        is = e ∙ k.is;
        below = let b = k.below in omega (arith, b, one_more);
        there =
            let b = k.below in
            ap (λ (f : ℕ → Option Sending). f r) (sent_now past s generation from to bytes) ∙ (sent_other s r packet (terms past).sent (let y : nat_eq r s ≡ false = grind (arith, nat_tests, b, serial) in y) ∙ k.there);
      }

      -- the rcode that is given then
      given_now : ((o : Owed) → (terms past).owes ≡ Some o → asked_in ((terms past).sent o.serial) ≡ Some u → rcode_of bytes ≡ 0) → ((terms past).owes ≡ None → (terms past).given u ≡ 0) → ((o : Owed) → (terms past).owes ≡ Some o → (asked_in ((terms past).sent o.serial) ≡ Some u → ⊥) → (terms past).given u ≡ 0) → (terms behind).given u ≡ 0
      given_now answer none other = sent_given s packet (terms past) u ∙ by_owes (terms past).owes refl
        where
          by_found : (o : Owed) → (terms past).owes ≡ Some o → (found : Option Transaction) → asked_in ((terms past).sent o.serial) ≡ found → by_given (asked_in ((terms past).sent o.serial)) (rcode_of bytes) ((terms past).given u) u ≡ 0
          by_found o e None f = ap (λ x. by_given x (rcode_of bytes) ((terms past).given u) u) f ∙ other o e (λ g. none_is u (sym f ∙ g))
          by_found o e (Some w) f = ap (λ x. by_given x (rcode_of bytes) ((terms past).given u) u) f ∙ by (is_same u w) refl
            where
              by : (b : Bool) → is_same u w ≡ b → cond b (rcode_of bytes) ((terms past).given u) ≡ 0
              by true g = answer o e (f ∙ ap (λ (x : Transaction). Some x) (sym (same_is u w g)))
              by false g = other o e (λ h. absurd (false≢true (sym g ∙ (ap (λ x. is_same u x) (same_Some w u (sym f ∙ h)) ∙ same_refl u))))

          by_owes : (owes : Option Owed) → (terms past).owes ≡ owes → given_behind owes (terms past).sent (rcode_of bytes) ((terms past).given u) u ≡ 0
          by_owes None e = none e
          by_owes (Some o) e = by_found o e (asked_in ((terms past).sent o.serial)) refl

      sent_on : Stage past → Stage behind
      sent_on (unjudged z n) = unjudged (same_judged ∙ z) (λ o e. none_is o (sym none_owed ∙ e))
      sent_on (first_owed k j o e w n) = by ((sent_terms s packet (terms past)).current u)
        where
          by : ((terms behind).current u ≡ (terms past).current u) ⊎ ((begun_by packet ≡ Some u) × ((terms behind).current u ≡ s)) → Stage behind
          by (inl c) =
              settled (present_behind c k) (let x = same_judged in omega (arith, x, j))
              (given_now (λ y f g. complete o e w n) (λ f. none_is o (sym f ∙ e))
              (λ y f g. absurd (g (ap (λ m. asked_in ((terms past).sent m)) (ap (λ (x : Owed). x.serial) (same_Some y o (sym f ∙ e)) ∙ w) ∙ (ap asked_in k.there ∙ asked_q)))))
              (λ y f. none_is y (sym none_owed ∙ f))
          by (inr c) = let is = c.1 in let b = k.below in gone (omega (arith, is, serial, b)) (omega (arith, is, serial, one_more)) (λ y f. none_is y (sym none_owed ∙ f))
      sent_on (settled k j g a) = by ((sent_terms s packet (terms past)).current u)
        where
          by : ((terms behind).current u ≡ (terms past).current u) ⊎ ((begun_by packet ≡ Some u) × ((terms behind).current u ≡ s)) → Stage behind
          by (inl c) =
              settled (present_behind c k) (let x = same_judged in omega (arith, x, j))
              (given_now (λ o e f. again_zero g o (owed_there o e) f (a o e f)) (λ e. g) (λ o e n. g))
              (λ y f. none_is y (sym none_owed ∙ f))
          by (inr c) = let is = c.1 in let b = k.below in gone (omega (arith, is, serial, b)) (omega (arith, is, serial, one_more)) (λ y f. none_is y (sym none_owed ∙ f))
      sent_on (gone m b n) = by ((sent_terms s packet (terms past)).current u)
        where
          by : ((terms behind).current u ≡ (terms past).current u) ⊎ ((begun_by packet ≡ Some u) × ((terms behind).current u ≡ s)) → Stage behind
          by (inl c) = gone (omega (arith, c, m)) (omega (arith, c, b, one_more)) (λ y f. none_is y (sym none_owed ∙ f))
          by (inr c) = let is = c.1 in gone (omega (arith, is, serial, m, b)) (omega (arith, is, serial, one_more)) (λ y f. none_is y (sym none_owed ∙ f))

      -- the rcode of a response to it
      answers_zero : Stage past → (o : Owed) → (terms past).owes ≡ Some o → o.serial ≡ r → rcode_of bytes ≡ 0
      answers_zero (unjudged z n) o e w = absurd (n o e w)
      answers_zero (first_owed k j p f g n) o e w = complete p f g n
      answers_zero (settled k j g a) o e w =
          let f : asked_in ((terms past).sent o.serial) ≡ Some u = ap (λ m. asked_in ((terms past).sent m)) w ∙ (ap asked_in k.there ∙ asked_q) in
          again_zero g o (owed_there o e) f (a o e f)
      answers_zero (gone m b n) o e w = absurd (n o e w)

  -- ---- a history
  module _ (first : FirstIsComplete) where
    stays : (front past : List Moment) → front ++ past ≡ all → SerialsCount past → (p : Sending) → (terms past).sent r ≡ Some p → p ≡ q
    stays front past is c p e =
        let kept = remains front past (subst SerialsCount (sym is) counts) in
        same_Some p q (sym e ∙ (sym (kept.sent r (sent_below past r p c e)) ∙ (ap (λ ms. (terms ms).sent r) is ∙ sent_all)))

    low : (past : List Moment) → SerialsCount past → (p : Sending) → (terms past).sent r ≡ Some p → r ≤ (terms past).count
    low past c p e = sent_below past r p c e

    further : (front : List Moment) (m : Moment) (past : List Moment) → front ++ m ∷ past ≡ all → (front ++ m ∷ []) ++ past ≡ all
    further front m past is = moment_joined front m past ∙ is

    quiet : (past now : List Moment) → (terms now).judged ≡ (terms past).judged → (terms now).owes ≡ (terms past).owes → (terms now).given ≡ (terms past).given → (terms now).current ≡ (terms past).current → (terms now).count ≡ (terms past).count → (terms now).sent ≡ (terms past).sent → Stage past → Stage now
    quiet past now judged owes given current count sent h = left past now (record { judged = judged; owes = owes; given = given; current = current; count = count; sent = sent }) h

    stage : (front past : List Moment) → front ++ past ≡ all → SerialsCount past → AreAnswered past → AreJudged past → AllJudged past → (terms past).injects u.requester ≡ false → (terms past).injects u.responder ≡ false → Stage past
    stage front [] is c a j f x y = unjudged refl (λ o e. none_is o e)
    stage front (asked line event ∷ past) is c a j f x y =
        let m = asked line event in
        let o = opened_terms event (terms past) in
        quiet past (m ∷ past) (opened_judged event (terms past)) o.owes o.given o.current (opened_same event (terms past)).count o.sent
        (stage (front ++ m ∷ []) past (further front m past is) c a.1 j f.1 (injects_before m past u.requester x) (injects_before m past u.responder y))
    stage front (said (notes.Sent s generation from to bytes) ∷ past) is c a j f x y =
        let m = said (notes.Sent s generation from to bytes) in
        sent_on past s generation from to bytes c.0 a.0 (λ o e w n. first front s generation from to bytes past o is e w n)
        (stage (front ++ m ∷ []) past (further front m past is) c.1 a.1 j f.1 (injects_before m past u.requester x) (injects_before m past u.responder y))
    stage front (said (notes.Got s) ∷ past) is c a j f x y =
        let m = said (notes.Got s) in
        let before = injects_before m past u.requester x in
        let after = injects_before m past u.responder y in
        judged_on past (m ∷ past) s None (got_rests s past) (gets_same ((terms past).sent s) s (terms past)).count j.0 f.0 a.0 (stays (front ++ m ∷ []) past (further front m past is) c) (low past c) before after (ap not x)
        (gets_effect ((terms past).sent s) s (terms past) refl)
        (stage (front ++ m ∷ []) past (further front m past is) c a.1 j.1 f.1 before after)
    stage front (said (notes.Ignored s cause) ∷ past) is c a j f x y =
        let m = said (notes.Ignored s cause) in
        let before = injects_before m past u.requester x in
        let after = injects_before m past u.responder y in
        judged_on past (m ∷ past) s (Some cause) (ignored_rests s cause past) (ignores_that_same ((terms past).sent s) cause s (terms past)).count j.0 f.0 a.0 (stays (front ++ m ∷ []) past (further front m past is) c) (low past c) before after (ap not x)
        (that_effect ((terms past).sent s) cause s (terms past) refl)
        (stage (front ++ m ∷ []) past (further front m past is) c a.1 j.1 f.1 before after)
    stage front (said (notes.TimedOut s) ∷ past) is c a j f x y =
        let m = said (notes.TimedOut s) in
        let rest = timed_rests s past in
        quiet past (m ∷ past) (late_judged (begun_in ((terms past).sent s)) (terms past)) (timed_owes s past) rest.given rest.current (times_out_same (begun_in ((terms past).sent s)) (terms past)).count rest.sent
        (stage (front ++ m ∷ []) past (further front m past is) c a.1 j f.1 (injects_before m past u.requester x) (injects_before m past u.responder y))
    stage front (said (notes.Injected s) ∷ past) is c a j f x y =
        let m = said (notes.Injected s) in
        quiet past (m ∷ past) refl refl refl refl refl refl (stage (front ++ m ∷ []) past (further front m past is) c a.1 j f.1 (injects_before m past u.requester x) (injects_before m past u.responder y))
    stage front (said (notes.Lost s) ∷ past) is c a j f x y =
        let m = said (notes.Lost s) in
        quiet past (m ∷ past) refl refl refl refl refl refl (stage (front ++ m ∷ []) past (further front m past is) c a.1 j f.1 (injects_before m past u.requester x) (injects_before m past u.responder y))
    stage front (said (notes.Reset generation) ∷ past) is c a j f x y =
        let m = said (notes.Reset generation) in
        quiet past (m ∷ past) refl refl refl refl refl refl (stage (front ++ m ∷ []) past (further front m past is) c a.1 j f.1 (injects_before m past u.requester x) (injects_before m past u.responder y))
    stage front (said (notes.Seen node generation) ∷ past) is c a j f x y =
        let m = said (notes.Seen node generation) in
        quiet past (m ∷ past) refl refl refl refl refl refl (stage (front ++ m ∷ []) past (further front m past is) c a.1 j f.1 (injects_before m past u.requester x) (injects_before m past u.responder y))
    stage front (said note ∷ past) is c a j f x y =
        quiet past (said note ∷ past) refl refl refl refl refl refl (stage (front ++ said note ∷ []) past (further front (said note) past is) c a j f.1 x y)

    -- so each response to it is complete
    pub each_zero : AreAnswered all → AreJudged all → AllJudged all → (terms all).injects u.requester ≡ false → (terms all).injects u.responder ≡ false → (front : List Moment) (s generation from to : ℕ) (bytes : List ℕ) (past : List Moment) → front ++ said (notes.Sent s generation from to bytes) ∷ past ≡ all → (o : Owed) → (terms past).owes ≡ Some o → o.serial ≡ r → rcode_of bytes ≡ 0
    each_zero answered judged facts asking answering front s generation from to bytes past is o e w =
        let here = said (notes.Sent s generation from to bytes) ∷ past in
        let c : SerialsCount here = serials_from front here (subst SerialsCount (sym is) counts) in
        let a : AreAnswered here = answered_from front here (subst AreAnswered (sym is) answered) in
        let j : AreJudged here = judged_from front here (subst AreJudged (sym is) judged) in
        let f : AllJudged here = each_from JudgedAt front here (subst AllJudged (sym is) facts) in
        let fair_here = λ (node : ℕ) (h : (terms all).injects node ≡ false). fair_before front here node (subst (λ ms. (terms ms).injects node ≡ false) (sym is) h) in
        let m = said (notes.Sent s generation from to bytes) in
        answers_zero past s generation from to bytes c.0 a.0 (λ p g k n. first front s generation from to bytes past p is g k n)
        (stage (front ++ m ∷ []) past (further front m past is) c.1 a.1 j f.1 (injects_before m past u.requester (fair_here u.requester asking)) (injects_before m past u.responder (fair_here u.responder answering))) o e w
      where
        fair_before : (front past : List Moment) (node : ℕ) → (terms (front ++ past)).injects node ≡ false → (terms past).injects node ≡ false
        fair_before [] past node h = h
        fair_before (m ∷ front) past node h = fair_before front past node (injects_before m (front ++ past) node h)
