-- Each response to a request of the target to an initiator has rcode 0, where the initiator answers the request complete whenever it gets it, and does not refuse it: one to a request that comes again
-- has the rcode of an earlier one.
use Rattle.sbp_world.proofs.Words.Std.{arith, ◌≡◌, ◌∙◌, refl, sym, ap, subst, ℕ, zero, suc, ◌+◌, ◌<◌, ◌==◌, ◌&&◌, Bool, true, false, List, [], ◌∷◌, ◌++◌, map, Option, Some, None, nat_tests, append_assoc, same_Some, false≢true, true≢false}
use Rattle.sbp_world.proofs.Words.Wire.{AreAnswered, AreJudged, Cause, IsOwed, Moment, Owed, Sending, SerialsCount, Terms, Transaction, asked_by, between, is_last, is_repeated, is_write, may_ignore_by, part_of, rcode_of, request, row_of, said, terms}
use Rattle.sbp_world.proofs.Words.Laws.{receiver_in}
use Rattle.sbp_world.proofs.Words.World.{IsCalm, IsOwedThere, NoneInjected, note_of}
use Rattle.sbp_journal.specs.declared.cause.Cause.TheVariants as causes
use Rattle.sbp_journal.specs.declared.note.Note.TheVariants as notes
use Rattle.bus_transactions.specs.Judging.{facts_of}
use Rattle.bus_transactions.proofs.Facts.{IsReply, both, request_asked, asked_begun}
use Rattle.sbp_world.specs.Completing.ManagedRefusals.{is_hard}
use Rattle.sbp_world.specs.Hosts.Remaining.{Remains}
use Rattle.sbp_world.proofs.Completing.ManagedAgain.{Prior, prior}
use Rattle.sbp_world.proofs.Completing.ManagedTerms.{ignores_that_heard}
use Rattle.sbp_world.proofs.Completing.ManagedWire.{IsIgnoring, KnownAt, KnownMoments}
use Rattle.sbp_world.proofs.Hosts.Carrying.{Stood}
use Rattle.sbp_world.proofs.Hosts.Owing as owing
use Rattle.sbp_world.proofs.Hosts.Owing.{GotBehind, IsAnswer, behind_got, ignored_there, judged_there, owed, repeats_write, reply_of, stated, was_sent, row_again}
use Rattle.sbp_world.proofs.Hosts.Remaining.{ignores_that_same, remains}
use Rattle.sbp_world.proofs.Hosts.ResponseTerms.{plain_all}
use Rattle.sbp_world.proofs.Hosts.SentMoments.{answers_now, count_now, now, sent_below, serials_from}
use Rattle.sbp_world.proofs.Hosts.Standing.{answered_from}
use Rattle.sbp_world.proofs.Lists.Calm.{injects_before}
use Rattle.sbp_world.proofs.Lists.Fair.{Told}
use Rattle.sbp_world.proofs.Lists.ManageTerms.{none_is, same_some}
use Rattle.sbp_world.proofs.Lists.StatusKnown.{each_from}
use Rattle.sbp_world.proofs.Lists.StatusLogins.{each_there}

injects_from : (front past : List Moment) (node : ℕ) → (terms (front ++ past)).injects node ≡ false → (terms past).injects node ≡ false
injects_from [] past node e = e
injects_from (m ∷ front) past node e = injects_from front past node (injects_before m (front ++ past) node e)

-- where the initiator gets a request, the response behind it has rcode 0
abbrev pub AnswersZero : List Moment → (ask : ℕ) → Sending → Type 0
AnswersZero all ask q = (reply : ℕ) → GotBehind all reply ask q → (packet : Sending) → (terms all).sent reply ≡ Some packet → rcode_of packet.bytes ≡ 0

-- and it is refused never
abbrev pub IsTakenAt : List Moment → (ask : ℕ) → Type 0
IsTakenAt all ask = (later past : List Moment) (cause : Cause) → later ++ said (notes.Ignored ask cause) ∷ past ≡ all → is_hard cause ≡ true → ⊥

module _ (all : List Moment) (i : ℕ) (st : Stood all i) (known : KnownMoments all) (told : Told all) (none : NoneInjected all i) (calm : IsCalm all i) where
  -- a request of the target to the initiator, and its answer
  module _ (ask : ℕ) (q : Sending) (sent : (terms all).sent ask ≡ Some q) (from : q.from ≡ 0) (to : q.to ≡ suc i) (got : AnswersZero all ask q) (taken : IsTakenAt all ask) where
    honest : q.injected ≡ false
    honest = by q.injected refl
      where
        by : (b : Bool) → q.injected ≡ b → b ≡ false
        by true e = absurd (true≢false (sym ((st.wire.facts.honest ask q sent).bold e) ∙ (ap (terms all).injects from ∙ told.fair)))
        by false e = refl

    module _ (reply : ℕ) (answers : (terms all).answers reply ≡ Some ask) where
      replied : IsReply ((terms all).sent reply) ((terms all).sent ask)
      replied = st.wire.facts.replied reply ask answers

      asking_is : replied.asking ≡ q
      asking_is = same_Some replied.asking q (sym replied.asking_is ∙ sent)

      abbrev r : IsAnswer all i reply ask
      r = record {
        own = λ packet e. none calm reply packet e (ap (λ (y : Sending). y.from) (same_Some packet replied.reply (sym e ∙ replied.reply_is)) ∙ (replied.from_is ∙ (ap (λ (y : Sending). y.to) asking_is ∙ to)));
        answers = answers;
        of_initiator = ap receiver_in sent ∙ ap Some to;
      }

      abbrev rp : IsReply ((terms all).sent reply) ((terms all).sent ask)
      rp = reply_of all i st.wire reply ask r

      rp_asking : rp.asking ≡ q
      rp_asking = same_Some rp.asking q (sym rp.asking_is ∙ sent)

      abbrev o : Owed
      o = owed all i st.wire reply ask r

      abbrev before : List Moment
      before = (owing.sent all i st.wire reply ask r).before

      abbrev past : List Moment
      past = owing.past all i st.wire reply ask r

      abbrev later : List Moment
      later = owing.later all i st.wire reply ask r

      abbrev here : List Moment
      here = now before reply rp.reply.generation rp.reply.from rp.reply.to rp.reply.bytes

      counts_here : SerialsCount here
      counts_here = serials_from (owing.sent all i st.wire reply ask r).later here (subst SerialsCount (sym (owing.sent all i st.wire reply ask r).is) st.wire.laws.serials)

      -- what is owed is its answer
      owed_is : o.serial ≡ ask
      owed_is =
          let serial : reply ≡ (terms before).count + 1 = counts_here.0 in
          let counted : (terms here).count ≡ (terms before).count + 1 = count_now before reply rp.reply.generation rp.reply.from rp.reply.to rp.reply.bytes in
          let remain : Remains here all = subst (Remains here) (owing.sent all i st.wire reply ask r).is (remains (owing.sent all i st.wire reply ask r).later here (subst SerialsCount (sym (owing.sent all i st.wire reply ask r).is) st.wire.laws.serials)) in
          let first = answers_now before reply rp.reply.generation rp.reply.from rp.reply.to rp.reply.bytes o (owing.there all i st.wire reply ask r).owes in
          same_Some o.serial ask (sym first ∙ (sym (remain.answers reply (omega (arith, serial, counted))) ∙ answers))

      abbrev Zero : Type 0
      Zero = rcode_of rp.reply.bytes ≡ 0

      hard : (cause : Cause) → o.cause ≡ Some cause → is_hard cause ≡ true → Zero
      hard cause e h = absurd (taken later past cause (subst (λ n. later ++ said (notes.Ignored n cause) ∷ past ≡ all) owed_is (ignored_there all i st.wire reply ask r cause e)) h)

      -- it got the request
      got_zero : o.cause ≡ None → Zero
      got_zero e = got reply (subst (GotBehind all reply ask) rp_asking (behind_got all i st.wire reply ask r e)) rp.reply rp.reply_is

      -- ---- it came again
      module _ (e : o.cause ≡ Some causes.Again) where
        position : later ++ said (notes.Ignored ask causes.Again) ∷ past ≡ all
        position = subst (λ n. later ++ said (notes.Ignored n causes.Again) ∷ past ≡ all) owed_is (ignored_there all i st.wire reply ask r causes.Again e)

        joined : (later ++ said (notes.Ignored ask causes.Again) ∷ []) ++ past ≡ all
        joined = append_assoc later (said (notes.Ignored ask causes.Again) ∷ []) past ∙ position

        counts_past : SerialsCount past
        counts_past = serials_from (later ++ said (notes.Ignored ask causes.Again) ∷ []) past (subst SerialsCount (sym joined) st.wire.laws.serials)

        remain : Remains past all
        remain = subst (Remains past) joined (remains (later ++ said (notes.Ignored ask causes.Again) ∷ []) past (subst SerialsCount (sym joined) st.wire.laws.serials))

        abbrev t : Terms
        t = terms past

        ignoring : IsIgnoring past ask
        ignoring = each_there KnownAt later (said (notes.Ignored ask causes.Again)) past (subst KnownMoments (sym position) known)

        was : t.sent ask ≡ Some q
        was = subst (λ n. t.sent n ≡ Some rp.asking) owed_is (was_sent all i st.wire reply ask r) ∙ ap Some rp_asking

        abbrev v : Transaction
        v = between q q.from q.to rp.label

        part_is : part_of q.bytes ≡ request rp.label rp.kind
        part_is = ap (λ (y : Sending). part_of y.bytes) (sym rp_asking) ∙ rp.asking_part

        asks_v : asked_by q ≡ Some v
        asks_v = request_asked q rp.label rp.kind part_is

        current : t.current v ≡ ask
        current =
            let same : ignoring.packet ≡ q = same_some ignoring.packet q (sym ignoring.sent ∙ was) in
            sym ((ignoring.facts.flies ask q was).asks v (asked_begun q v honest asks_v) ignoring.live)

        judged_row : may_ignore_by (row_of (facts_of t q)) causes.Again ≡ true
        judged_row = judged_there later past ask causes.Again (subst AreJudged (sym position) st.wire.laws.judged) q was

        repeats : is_repeated t (part_of q.bytes) q ≡ true
        repeats = let f = facts_of t q in row_again f.is_current f.is_for_node f.is_response f.is_awaited f.is_repeated judged_row

        writes : is_write q.bytes ≡ true
        writes = repeats_write t q rp.label rp.kind part_is judged_row

        same_again : is_last (t.seen v) q.bytes ≡ true
        same_again = second (is_write q.bytes) _ (sym (ap (λ p. is_repeated t p q) part_is) ∙ repeats)
          where
            second : (a b : Bool) → (a && b) ≡ true → b ≡ true
            second true b f = f
            second false b f = absurd (false≢true f)

        fair_both : both t.injects v ≡ true
        fair_both =
            let a : t.injects q.from ≡ false = ap t.injects from ∙ injects_from (later ++ said (notes.Ignored ask causes.Again) ∷ []) past 0 (subst (λ ms. (terms ms).injects 0 ≡ false) (sym joined) told.fair) in
            let b : t.injects q.to ≡ false = ap t.injects to ∙ injects_from (later ++ said (notes.Ignored ask causes.Again) ∷ []) past (suc i) (subst (λ ms. (terms ms).injects (suc i) ≡ false) (sym joined) calm) in
            rw (a, b) refl

        last_is : t.last v ≡ Some q.bytes
        last_is =
            let low = sent_below past ask q counts_past was in
            let some : 0 < t.current v = subst (λ n. 0 < n) (sym current) (positive ask was) in
            let a = ignoring.facts.asked v some in
            let same : a.packet ≡ q = same_some a.packet q (sym a.sent_is ∙ (ap t.sent current ∙ was)) in
            a.last_is ∙ ap (λ (y : Sending). Some y.bytes) same
          where
            positive : (n : ℕ) → t.sent n ≡ Some q → 0 < n
            positive zero f = none_is q (sym ignoring.facts.zero ∙ f)
            positive (suc n) f = omega arith

        was_judged : 0 < t.judged ask
        was_judged = by (t.judged ask) refl
          where
            by : (n : ℕ) → t.judged ask ≡ n → 0 < n
            by zero f = absurd (false≢true (sym ((ignoring.facts.tie v).is_new fair_both (ap t.judged current ∙ f) q.bytes last_is writes) ∙ same_again))
            by (suc n) f = omega arith

        answered_there : AreAnswered (said (notes.Ignored ask causes.Again) ∷ past)
        answered_there = answered_from later (said (notes.Ignored ask causes.Again) ∷ past) (subst AreAnswered (sym position) st.wire.laws.answered)

        earlier : Prior ask v t
        earlier = prior ask q v asks_v 0 from past (record {
          counts = counts_past;
          answered = answered_there.1;
          known = each_from KnownAt (later ++ said (notes.Ignored ask causes.Again) ∷ []) past (subst KnownMoments (sym joined) known);
          honest = injects_from (later ++ said (notes.Ignored ask causes.Again) ∷ []) past 0 (subst (λ ms. (terms ms).injects 0 ≡ false) (sym joined) told.fair);
          sent = was;
          current = current;
          judged = was_judged;
          paid = λ x. none_is x.owed (sym answered_there.0 ∙ x.is);
        })

        -- it has the rcode of that one
        abbrev there : IsOwedThere before
        there = owing.there all i st.wire reply ask r

        note_is : before ≡ map said there.stands.effects ++ said (notes.Ignored ask causes.Again) ∷ past
        note_is = there.stands.is ∙ ap (λ x. map said there.stands.effects ++ said x ∷ past) (ap (λ c. note_of o.serial c) e ∙ ap (λ n. notes.Ignored n causes.Again) owed_is)

        terms_are : terms before ≡ terms (said (notes.Ignored ask causes.Again) ∷ past)
        terms_are = ap terms note_is ∙ plain_all there.stands.effects (said (notes.Ignored ask causes.Again) ∷ past) there.stands.plain

        abbrev of : IsOwed (terms before) o (record { generation = rp.reply.generation; from = rp.reply.from; to = rp.reply.to; bytes = rp.reply.bytes; injected = (terms before).injected reply })
        of = owing.owing all i st.wire reply ask r

        behind_same : (terms (said (notes.Ignored ask causes.Again) ∷ past)).sent ≡ t.sent
        behind_same = (ignores_that_same (t.sent ask) causes.Again ask t).sent

        of_asking : of.asking ≡ q
        of_asking = same_some of.asking q (sym of.sent ∙ (ap (λ (x : Terms). x.sent o.serial) terms_are ∙ (ap (λ f. f o.serial) behind_same ∙ (ap t.sent owed_is ∙ was))))

        abbrev w : Transaction
        w = between of.asking of.asking.from of.asking.to of.responds.label

        w_is : w ≡ v
        w_is = same_some w v (sym (request_asked of.asking of.responds.label of.responds.kind of.responds.asks) ∙ (ap asked_by of_asking ∙ asks_v))

        given_is : owing.given all i st.wire reply ask r ≡ t.given v
        given_is = ap (λ (x : Terms). x.given w) terms_are ∙ (ap (λ f. f w) (ignores_that_heard ask (t.sent ask) causes.Again ask t).given ∙ ap t.given w_is)

        rcode_is : rcode_of rp.reply.bytes ≡ rcode_of earlier.packet.bytes
        rcode_is =
            let same : (rcode_of rp.reply.bytes == owing.given all i st.wire reply ask r) ≡ true = stated all i st.wire reply ask r causes.Again e in
            let is : rcode_of rp.reply.bytes ≡ owing.given all i st.wire reply ask r = grind (arith, nat_tests, same) in
            is ∙ (given_is ∙ sym earlier.rcode)

        earlier_less : earlier.reply < reply
        earlier_less =
            let next : reply ≡ (terms before).count + 1 = counts_here.0 in
            let count : (terms before).count ≡ t.count = ap (λ (x : Terms). x.count) terms_are ∙ (ignores_that_same (t.sent ask) causes.Again ask t).count in
            let low = earlier.low in
            omega (arith, next, count, low)

        earlier_answers : (terms all).answers earlier.reply ≡ Some ask
        earlier_answers = remain.answers earlier.reply earlier.low ∙ earlier.answers

        earlier_sent : (terms all).sent earlier.reply ≡ Some earlier.packet
        earlier_sent = remain.sent earlier.reply earlier.low ∙ earlier.sent

    again_zero : (reply : ℕ) (answers : (terms all).answers reply ≡ Some ask) (e : (o reply answers).cause ≡ Some causes.Again) → Zero (earlier reply answers e).reply (earlier_answers reply answers e) → Zero reply answers
    again_zero reply answers e z =
        let first = earlier reply answers e in
        let own = rp first.reply (earlier_answers reply answers e) in
        let same : first.packet ≡ own.reply = same_some first.packet own.reply (sym (earlier_sent reply answers e) ∙ own.reply_is) in
        rcode_is reply answers e ∙ (ap (λ (y : Sending). rcode_of y.bytes) same ∙ z)

    by_cause : (reply : ℕ) (answers : (terms all).answers reply ≡ Some ask) → ((e : (o reply answers).cause ≡ Some causes.Again) → Zero (earlier reply answers e).reply (earlier_answers reply answers e)) → (c : Option Cause) → (o reply answers).cause ≡ c → Zero reply answers
    by_cause reply answers first None e = got_zero reply answers e
    by_cause reply answers first (Some causes.Again) e = again_zero reply answers e (first e)
    by_cause reply answers first (Some causes.Slot) e = let z : (rcode_of (rp reply answers).reply.bytes == 0) ≡ true = stated all i st.wire reply ask (r reply answers) causes.Slot e in grind (arith, nat_tests, z)
    by_cause reply answers first (Some causes.Grammar) e = hard reply answers causes.Grammar e refl
    by_cause reply answers first (Some causes.Source) e = hard reply answers causes.Source e refl
    by_cause reply answers first (Some causes.Login) e = hard reply answers causes.Login e refl
    by_cause reply answers first (Some causes.Generation) e = absurd (false≢true (stated all i st.wire reply ask (r reply answers) causes.Generation e))
    by_cause reply answers first (Some causes.Label) e = absurd (false≢true (stated all i st.wire reply ask (r reply answers) causes.Label e))

    zero_by : (n reply : ℕ) (answers : (terms all).answers reply ≡ Some ask) → reply < n → Zero reply answers
    zero_by zero reply answers b = absurd (omega (arith, b))
    zero_by (suc n) reply answers b =
        by_cause reply answers (λ e. zero_by n (earlier reply answers e).reply (earlier_answers reply answers e) (let l = earlier_less reply answers e in omega (arith, l, b))) (o reply answers).cause refl

    -- so each response to it has rcode 0
    pub answered_zero : (reply : ℕ) → (terms all).answers reply ≡ Some ask → (packet : Sending) → (terms all).sent reply ≡ Some packet → rcode_of packet.bytes ≡ 0
    answered_zero reply answers packet e =
        ap (λ (y : Sending). rcode_of y.bytes) (same_some packet (rp reply answers).reply (sym e ∙ (rp reply answers).reply_is)) ∙ zero_by (suc reply) reply answers (omega arith)
