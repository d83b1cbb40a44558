-- The rcode that was given last to a transaction is that of a response to its present request, where this was judged and answered: so a response to one that comes again has the rcode of an earlier one.
use Rattle.sbp_world.proofs.Words.Std.{arith, ◌≡◌, ◌∙◌, ◌⊎◌, inl, inr, refl, sym, ap, ℕ, ◌<◌, ◌≤◌, nat_eq, not, Bool, true, false, cond, List, [], ◌∷◌, Option, Some, None, nat_tests}
use Rattle.sbp_world.proofs.Words.Wire.{AreAnswered, Moment, Owed, Sending, SerialsCount, Terms, Transaction, asked, asked_by, asked_in, begun_by, is_same, rcode_of, said, terms}
use Rattle.sbp_journal.specs.declared.note.Note.TheVariants as notes
use Rattle.bus_transactions.proofs.Facts.{fair}
use Rattle.sbp_world.specs.Hosts.Remaining.{Remains}
use Rattle.bus_transactions.proofs.PacketParts.{same_is, same_refl}
use Rattle.sbp_world.proofs.Common.{untrue}
use Rattle.sbp_world.proofs.Completing.ManagedTerms.{Heard, Owes, gets_heard, ignores_that_heard, late_heard, opened_heard, sends_judged}
use Rattle.sbp_world.proofs.Completing.ManagedWire.{KnownMoments}
use Rattle.sbp_world.proofs.Hosts.Remaining.{gets_same, ignores_that_same, opened_same, remains, serials_behind, times_out_same}
use Rattle.sbp_world.proofs.Hosts.SentMoments.{answers_now, count_now, sent_there}
use Rattle.sbp_world.proofs.Lists.Calm.{injects_before}
use Rattle.sbp_world.proofs.Lists.ManageSends.{Sends, by_given, given_behind, sent_given, sent_other, sent_terms}
use Rattle.sbp_world.proofs.Lists.ManageTerms.{none_is, same_some}

-- an earlier response to a request has that rcode
pub record Prior (serial : ℕ) (v : Transaction) (t : Terms) : Type 0 where
  pub reply : ℕ
  pub low : reply ≤ t.count
  pub answers : t.answers reply ≡ Some serial
  pub packet : Sending
  pub sent : t.sent reply ≡ Some packet
  pub rcode : rcode_of packet.bytes ≡ t.given v

module _ (serial : ℕ) (asking : Sending) (v : Transaction) (asks : asked_by asking ≡ Some v) (requester : ℕ) (requester_is : v.requester ≡ requester) where
  -- the request is the present one of its transaction, was judged, and is not answered next
  pub record Judged (past : List Moment) : Type 0 where
    pub counts : SerialsCount past
    pub answered : AreAnswered past
    pub known : KnownMoments past
    pub honest : (terms past).injects requester ≡ false
    pub sent : (terms past).sent serial ≡ Some asking
    pub current : (terms past).current v ≡ serial
    pub judged : 0 < (terms past).judged serial
    pub paid : Owes serial (terms past) → ⊥

  -- what was sent before stays
  on : (m : Moment) (past : List Moment) → SerialsCount (m ∷ past) → (terms (m ∷ past)).given v ≡ (terms past).given v → Prior serial v (terms past) → Prior serial v (terms (m ∷ past))
  on m past c e p =
      let r : Remains past (m ∷ past) = remains (m ∷ []) past c in
      let low = p.low in
      let more = r.count in
      record { reply = p.reply; low = omega (arith, low, more); answers = r.answers p.reply p.low ∙ p.answers; packet = p.packet; sent = r.sent p.reply p.low ∙ p.sent; rcode = p.rcode ∙ sym e }

  abbrev Before : List Moment → Type 0
  Before past = Judged past → Prior serial v (terms past)

  none_owes : (past : List Moment) → (terms past).owes ≡ None → Owes serial (terms past) → ⊥
  none_owes past e o = none_is o.owed (sym e ∙ o.is)

  -- a moment but that at which a packet is sent
  module _ (m : Moment) (past : List Moment) (before : Before past) (j : Judged (m ∷ past)) (answered : AreAnswered past) (known : KnownMoments past) (sent_same : (terms (m ∷ past)).sent ≡ (terms past).sent) where
    by_heard : (terms past).owes ≡ None → Heard serial (terms past) (terms (m ∷ past)) → Prior serial v (terms (m ∷ past))
    by_heard none k = by k.judged
      where
        by : ((terms (m ∷ past)).judged serial ≡ (terms past).judged serial) ⊎ Owes serial (terms (m ∷ past)) → Prior serial v (terms (m ∷ past))
        by (inl e) =
            on m past j.counts (ap (λ f. f v) k.given)
            (before (record {
              counts = serials_behind m past j.counts;
              answered = answered;
              known = known;
              honest = injects_before m past requester j.honest;
              sent = ap (λ f. f serial) (sym sent_same) ∙ j.sent;
              current = ap (λ f. f v) (sym k.current) ∙ j.current;
              judged = let x = j.judged in omega (arith, x, e);
              paid = none_owes past none;
            }))
        by (inr o) = absurd (j.paid o)

  -- a packet is sent
  module _ (s generation from to : ℕ) (bytes : List ℕ) (past : List Moment) (before : Before past) (j : Judged (said (notes.Sent s generation from to bytes) ∷ past)) where
    abbrev m : Moment
    m = said (notes.Sent s generation from to bytes)

    abbrev t : Terms
    t = terms past

    abbrev u : Terms
    u = terms (m ∷ past)

    abbrev q : Sending
    q = record { generation = generation; from = from; to = to; bytes = bytes; injected = t.injected s }

    sends_it : Sends s q t
    sends_it = sent_terms s q t

    judged_same : u.judged serial ≡ t.judged serial
    judged_same = ap (λ f. f serial) (sends_judged s q t)

    -- it is no new one
    judged_before : 0 < t.judged serial
    judged_before = let x = j.judged in let e = judged_same in omega (arith, x, e)

    apart : nat_eq serial s ≡ false
    apart = by (nat_eq serial s) refl
      where
        by : (b : Bool) → nat_eq serial s ≡ b → b ≡ false
        by false e = refl
        by true e =
            let next = j.counts.0 in
            let same : serial ≡ s = grind (arith, nat_tests) in
            let none = j.known.0.unjudged serial (omega (arith, next, same)) in
            let x = judged_before in
            absurd (omega (arith, none, x))

    sent_before : t.sent serial ≡ Some asking
    sent_before = sym (sent_other s serial q t.sent apart) ∙ (ap (λ f. f serial) (sym sends_it.sent) ∙ j.sent)

    asked_v : asked_in (t.sent serial) ≡ Some v
    asked_v = ap asked_in sent_before ∙ asks

    honest_before : t.injects requester ≡ false
    honest_before = injects_before m past requester j.honest

    module _ (current : t.current v ≡ serial) where
      still : (Owes serial t → ⊥) → u.given v ≡ t.given v → Prior serial v u
      still paid e =
          on m past j.counts e
          (before (record {
            counts = serials_behind m past j.counts;
            answered = j.answered.1;
            known = j.known.1;
            honest = honest_before;
            sent = sent_before;
            current = current;
            judged = judged_before;
            paid = paid;
          }))

      fairly : fair t.injects v ≡ true
      fairly = ap not (ap t.injects requester_is ∙ honest_before)

      owes_other : (owed : Owed) → t.owes ≡ Some owed → (found : Option Transaction) → asked_in (t.sent owed.serial) ≡ found → (found ≡ Some v → ⊥) → Owes serial t → ⊥
      owes_other owed owes found e n o =
          let same : owed ≡ o.owed = same_some owed o.owed (sym owes ∙ o.is) in
          let is : owed.serial ≡ serial = ap (λ (z : Owed). z.serial) same ∙ o.serial_is in
          n (sym e ∙ (ap (λ x. asked_in (t.sent x)) is ∙ asked_v))

      paid_it : (owed : Owed) → t.owes ≡ Some owed → owed.serial ≡ serial → u.given v ≡ rcode_of bytes → Prior serial v u
      paid_it owed owes is e =
          let counted = count_now past s generation from to bytes in
          let next = j.counts.0 in
          record {
            reply = s;
            low = omega (arith, counted, next);
            answers = answers_now past s generation from to bytes owed owes ∙ ap (λ n. Some n) is;
            packet = q;
            sent = sent_there past s generation from to bytes;
            rcode = sym e;
          }

      by_found : (owed : Owed) → t.owes ≡ Some owed → (found : Option Transaction) → asked_in (t.sent owed.serial) ≡ found → u.given v ≡ given_behind (Some owed) t.sent (rcode_of bytes) (t.given v) v → Prior serial v u
      by_found owed owes None e g = still (owes_other owed owes None e (λ x. none_is v x)) (g ∙ ap (λ x. by_given x (rcode_of bytes) (t.given v) v) e)
      by_found owed owes (Some w) e g = by (is_same v w) refl
        where
          value : u.given v ≡ cond (is_same v w) (rcode_of bytes) (t.given v)
          value = g ∙ ap (λ x. by_given x (rcode_of bytes) (t.given v) v) e

          by : (b : Bool) → is_same v w ≡ b → Prior serial v u
          by true d =
              let same : v ≡ w = same_is v w d in
              let asks_it : asked_in (t.sent owed.serial) ≡ Some v = e ∙ ap (λ (x : Transaction). Some x) (sym same) in
              paid_it owed owes (j.known.0.present owed v owes asks_it fairly ∙ current) (value ∙ ap (λ b. cond b (rcode_of bytes) (t.given v)) d)
          by false d =
              still (owes_other owed owes (Some w) e (λ x. let y : w ≡ v = same_some w v x in untrue (sym d ∙ ap (λ z. is_same v z) y ∙ same_refl v)))
              (value ∙ ap (λ b. cond b (rcode_of bytes) (t.given v)) d)

      by_owes : (owes : Option Owed) → t.owes ≡ owes → u.given v ≡ given_behind owes t.sent (rcode_of bytes) (t.given v) v → Prior serial v u
      by_owes None e g = still (none_owes past e) g
      by_owes (Some owed) e g = by_found owed e (asked_in (t.sent owed.serial)) refl g

    by_current : (u.current v ≡ t.current v) ⊎ ((begun_by q ≡ Some v) × (u.current v ≡ s)) → Prior serial v u
    by_current (inl e) = by_owes (sym e ∙ j.current) t.owes refl (sent_given s q t v)
    by_current (inr e) =
        let same : serial ≡ s = sym j.current ∙ e.1 in
        let d = apart in
        absurd (grind (arith, nat_tests, d, same))

    sent_prior : Prior serial v u
    sent_prior = by_current (sends_it.current v)

  pub prior : (past : List Moment) → Before past
  prior [] j = let x = j.judged in absurd (omega (arith, x))
  prior (asked line event ∷ past) j =
      by_heard (asked line event) past (λ k. prior past k) j j.answered.1 j.known.1 (opened_same event (terms past)).sent j.answered.0 (opened_heard serial event (terms past))
  prior (said (notes.Sent s generation from to bytes) ∷ past) j = sent_prior s generation from to bytes past (λ k. prior past k) j
  prior (said (notes.Got s) ∷ past) j =
      by_heard (said (notes.Got s)) past (λ k. prior past k) j j.answered.1 j.known.1 (gets_same ((terms past).sent s) s (terms past)).sent j.answered.0 (gets_heard serial ((terms past).sent s) s (terms past))
  prior (said (notes.Ignored s cause) ∷ past) j =
      by_heard (said (notes.Ignored s cause)) past (λ k. prior past k) j j.answered.1 j.known.1 (ignores_that_same ((terms past).sent s) cause s (terms past)).sent j.answered.0 (ignores_that_heard serial ((terms past).sent s) cause s (terms past))
  prior (said (notes.TimedOut s) ∷ past) j =
      by_heard (said (notes.TimedOut s)) past (λ k. prior past k) j j.answered.1 j.known.1 (times_out_same _ (terms past)).sent j.answered.0 (late_heard serial _ (terms past))
  prior (said (notes.Injected s) ∷ past) j = by_heard (said (notes.Injected s)) past (λ k. prior past k) j j.answered.1 j.known.1 refl j.answered.0 (record { given = refl; current = refl; judged = inl refl })
  prior (said (notes.Lost s) ∷ past) j = by_heard (said (notes.Lost s)) past (λ k. prior past k) j j.answered.1 j.known.1 refl j.answered.0 (record { given = refl; current = refl; judged = inl refl })
  prior (said (notes.Reset generation) ∷ past) j = by_heard (said (notes.Reset generation)) past (λ k. prior past k) j j.answered.1 j.known.1 refl j.answered.0 (record { given = refl; current = refl; judged = inl refl })
  prior (said (notes.Seen node generation) ∷ past) j = by_heard (said (notes.Seen node generation)) past (λ k. prior past k) j j.answered.1 j.known.1 refl j.answered.0 (record { given = refl; current = refl; judged = inl refl })
  prior (said note ∷ past) j = prior past (record { counts = j.counts; answered = j.answered; known = j.known.1; honest = j.honest; sent = j.sent; current = j.current; judged = j.judged; paid = j.paid })
