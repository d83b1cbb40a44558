-- A write of MANAGEMENT_AGENT that the target answered with conflict_error is not answered complete later: while it is the present request of its transaction, that keeps the rcode.
use Rattle.sbp_world.proofs.Words.Std.{append_assoc, arith, nat_tests, ◌≡◌, ◌∙◌, ◌⊎◌, inl, inr, refl, sym, ap, subst, ℕ, suc, ◌<◌, ◌≤◌, nat_eq, Bool, true, false, cond, List, [], ◌∷◌, ◌++◌, map, Option, Some, None}
use Rattle.sbp_world.proofs.Words.Wire.{Cause, Moment, Owed, Sending, SerialsCount, Terms, Transaction, arrives, asked, asked_by, asked_in, begun_by, ignores, ignores_that, is_news, is_same, is_served, is_stated, judges, judges_if, part_of, rcode_of, request, said, terms, writing}
use Rattle.sbp_world.proofs.Words.Target.{Disk}
use Rattle.sbp_world.proofs.Words.World.{IsCalm, IsOwnWrite, WorldState, after, after_all, beginning, begun, history_of, more_deliveries}
use Rattle.bus_transactions.proofs.Facts.{asked_is, begun_asked}
use Rattle.bus_transactions.proofs.PacketParts.{same_is, same_refl}
use Rattle.sbp_journal.specs.declared.cause.Cause.TheVariants as causes
use Rattle.sbp_journal.specs.declared.note.Note.TheVariants as notes
use Rattle.sbp_world.specs.Completing.Ends.{RefusedLaw, WasRefused}
use Rattle.sbp_world.specs.Completing.Operations.{WasCompleted}
use Rattle.sbp_world.specs.Wire.History.{IsOfWire}
use Rattle.sbp_world.proofs.Completing.LabelsPlaces.{IsHolding, holding_everywhere}
use Rattle.sbp_world.proofs.Hosts.Remaining.{remains, serials_behind}
use Rattle.sbp_world.proofs.Hosts.Runs.{count_after, count_between}
use Rattle.sbp_world.proofs.Hosts.SentMoments.{sent_below}
use Rattle.sbp_world.proofs.Lists.Clauses.{open_lists_law}
use Rattle.sbp_world.proofs.Lists.Courses.{more_than_one}
use Rattle.sbp_world.proofs.Lists.ListsProved.{closing}
use Rattle.sbp_world.proofs.Lists.ManageMoments.{Hands, MayHand}
use Rattle.sbp_world.proofs.Lists.ManageProved.{one_in_hand_law}
use Rattle.sbp_world.proofs.Lists.ManageSends.{by_given, given_behind, opened_terms, sent_given, sent_other, sent_terms}
use Rattle.sbp_world.proofs.Lists.ManageSent.{SentFacts}
use Rattle.sbp_world.proofs.Lists.ManageTerms.{got_more, got_owes, got_request, got_rests, ignored_rests, none_is, same_some, timed_owes, timed_rests, one_more}
use Rattle.sbp_world.proofs.Common.{untrue}
use Rattle.sbp_world.proofs.Wire.Starts.{laws_of}

-- ---- what is owed behind a packet that is ignored: where that is not for its coming again, it is taken as new once more
-- the request that is owed is an old one; or it is this, which came again, or is new
abbrev Owes : (t u : Terms) (s : ℕ) → Owed → Type 0
Owes t u s owed = (t.owes ≡ Some owed) ⊎ ((owed.serial ≡ s) × ((owed.cause ≡ Some causes.Again) ⊎ (t.news s < u.news s)))

module _ (s : ℕ) (q : Sending) (t : Terms) (owed : Owed) where
  judged_again : (v : Option Transaction) → (judges v (Some causes.Again) s q t).owes ≡ Some owed → Owes t (judges v (Some causes.Again) s q t) s owed
  judged_again None e = inl e
  judged_again (Some v) e =
      let one : Owed = record { serial = s; cause = Some causes.Again } in
      let same : one ≡ owed = same_some one owed e in
      inr (ap (λ (o : Owed). o.serial) (sym same), inl (ap (λ (o : Owed). o.cause) (sym same)))

  -- of terms with one more
  judged_new : (v : Option Transaction) (cause : Cause) (n : Terms) → n.owes ≡ t.owes → t.news s < n.news s → (judges v (Some cause) s q n).owes ≡ Some owed → Owes t (judges v (Some cause) s q n) s owed
  judged_new None cause n o l e = inl (sym o ∙ e)
  judged_new (Some v) cause n o l e =
      let one : Owed = record { serial = s; cause = Some cause } in
      let same : one ≡ owed = same_some one owed e in
      inr (ap (λ (o : Owed). o.serial) (sym same), inr l)

  judged_if : (b : Bool) → (judges_if b (asked_by q) s q (is_news s t)).owes ≡ Some owed → Owes t (judges_if b (asked_by q) s q (is_news s t)) s owed
  judged_if true e = judged_new (asked_by q) causes.Grammar (is_news s t) refl (one_more s t.news) e
  judged_if false e = inl e

  ignored_by : (cause : Cause) → (ignores cause s q t).owes ≡ Some owed → Owes t (ignores cause s q t) s owed
  ignored_by causes.Generation e = inl e
  ignored_by causes.Grammar e = judged_if _ e
  ignored_by causes.Label e = inl e
  ignored_by causes.Again e = judged_again (asked_by q) e
  ignored_by causes.Source e = judged_new (asked_by q) causes.Source (is_news s t) refl (one_more s t.news) e
  ignored_by causes.Login e = judged_new (asked_by q) causes.Login (is_news s t) refl (one_more s t.news) e
  ignored_by causes.Slot e = judged_new (asked_by q) causes.Slot (is_served s (is_news s t)) refl (one_more s t.news) e

ignored_that : (found : Option Sending) (cause : Cause) (s : ℕ) (t : Terms) (owed : Owed) → (ignores_that found cause s t).owes ≡ Some owed → Owes t (ignores_that found cause s t) s owed
ignored_that None cause s t owed e = inl e
ignored_that (Some q) cause s t owed e = ignored_by s q (arrives s t) owed cause e

-- ---- how often a request was taken as new does not fall
pub moment_news : (m : Moment) (h : List Moment) (r : ℕ) → (terms h).news r ≤ (terms (m ∷ h)).news r
moment_news (asked line event) h r = let e = ap (λ (f : ℕ → ℕ). f r) (opened_terms event (terms h)).news in omega (arith, e)
moment_news (said (notes.Sent s generation from to bytes)) h r =
    let e = ap (λ (f : ℕ → ℕ). f r) (sent_terms s (record { generation = generation; from = from; to = to; bytes = bytes; injected = (terms h).injected s }) (terms h)).news in omega (arith, e)
moment_news (said (notes.Got s)) h r = (got_rests s h).news r
moment_news (said (notes.Ignored s cause)) h r = (ignored_rests s cause h).news r
moment_news (said (notes.TimedOut s)) h r = (timed_rests s h).news r
moment_news (said note) h r = omega arith

pub news_grow : (later h : List Moment) (r : ℕ) → (terms h).news r ≤ (terms (later ++ h)).news r
news_grow [] h r = omega arith
news_grow (m ∷ later) h r = let a = news_grow later h r in let b = moment_news m (later ++ h) r in omega (arith, a, b)

-- ---- the rcode that the transaction of a refused write has
module _ (start : List Disk) (i write : ℕ) (q : Sending) (v : Transaction) (asked_v : asked_by q ≡ Some v) (requester : v.requester ≡ suc i) (responder : v.responder ≡ 0) where
  record Refuses (h : List Moment) : Type 0 where
    there : (terms h).sent write ≡ Some q
    given : (terms h).current v ≡ write → (terms h).given v ≡ 4
    again : (owed : Owed) → (terms h).owes ≡ Some owed → owed.serial ≡ write → owed.cause ≡ Some causes.Again
    taken : 0 < (terms h).news write

  -- ---- a packet is sent
  module _ (h : List Moment) (serial generation from to : ℕ) (bytes : List ℕ) (f : SentFacts start h i serial generation from bytes) where
    abbrev t : Terms
    t = terms h

    abbrev one : Sending
    one = record { generation = generation; from = from; to = to; bytes = bytes; injected = t.injected serial }

    abbrev u : Terms
    u = terms (said (notes.Sent serial generation from to bytes) ∷ h)

    other : t.sent write ≡ Some q → nat_eq write serial ≡ false
    other e = let l = sent_below h write q f.serials e in let n = f.next in grind (arith, nat_tests)

    there_then : t.sent write ≡ Some q → u.sent write ≡ Some q
    there_then e = ap (λ (g : ℕ → Option Sending). g write) (sent_terms serial one t).sent ∙ sent_other serial write one t.sent (other e) ∙ e

    current_then : t.sent write ≡ Some q → u.current v ≡ write → t.current v ≡ write
    current_then there c = by ((sent_terms serial one t).current v)
      where
        by : (u.current v ≡ t.current v) ⊎ ((begun_by one ≡ Some v) × (u.current v ≡ serial)) → t.current v ≡ write
        by (inl e) = sym e ∙ c
        by (inr e) = let same : write ≡ serial = sym c ∙ e.1 in let x : nat_eq write serial ≡ true = grind (arith, nat_tests) in untrue (sym (other there) ∙ x)

    module _ (there : t.sent write ≡ Some q) (current : t.current v ≡ write) (given : t.given v ≡ 4) (again : (owed : Owed) → t.owes ≡ Some owed → owed.serial ≡ write → owed.cause ≡ Some causes.Again) where
      by_asked : (owed : Owed) → t.owes ≡ Some owed → (found : Option Transaction) → asked_in (t.sent owed.serial) ≡ found → by_given found (rcode_of bytes) (t.given v) v ≡ 4
      by_asked owed owes None e = given
      by_asked owed owes (Some w) e = by (is_same v w) refl
        where
          by : (b : Bool) → is_same v w ≡ b → cond b (rcode_of bytes) (t.given v) ≡ 4
          by false d = given
          by true d =
              let asks_v : asked_in (t.sent owed.serial) ≡ Some v = e ∙ ap (λ (x : Transaction). Some x) (sym (same_is v w d)) in
              let is : owed.serial ≡ write = f.present owed v owes asks_v requester responder ∙ current in
              let st : is_stated (Some causes.Again) (t.given v) (rcode_of bytes) ≡ true = ap (λ c. is_stated c (t.given v) (rcode_of bytes)) (sym (again owed owes is)) ∙ f.stated owed v owes asks_v in
              let same : rcode_of bytes ≡ t.given v = grind (arith, nat_tests) in
              same ∙ given

      by_owes : (owes : Option Owed) → t.owes ≡ owes → given_behind owes t.sent (rcode_of bytes) (t.given v) v ≡ 4
      by_owes None e = given
      by_owes (Some owed) e = by_asked owed e (asked_in (t.sent owed.serial)) refl

      given_then : u.given v ≡ 4
      given_then = sent_given serial one t v ∙ by_owes t.owes refl

    sent_on : Refuses h → Refuses (said (notes.Sent serial generation from to bytes) ∷ h)
    sent_on p = record {
      there = there_then p.there;
      given = λ c. let was = current_then p.there c in given_then p.there was (p.given was) p.again;
      again = λ owed e is. none_is owed (sym (sent_terms serial one t).owes ∙ e);
      taken = (let e = ap (λ (g : ℕ → ℕ). g write) (sent_terms serial one t).news in let l = p.taken in omega (arith, e, l));
    }

  -- ---- any moment behind which it was taken once at most
  step : (m : Moment) (h : List Moment) → MayHand start i m h → (terms (m ∷ h)).news write ≤ 1 → Refuses h → Refuses (m ∷ h)
  step (asked line event) h f most p =
      let o = opened_terms event (terms h) in
      record {
        there = ap (λ (g : ℕ → Option Sending). g write) o.sent ∙ p.there;
        given = λ c. ap (λ (g : Transaction → ℕ). g v) o.given ∙ p.given (ap (λ (g : Transaction → ℕ). g v) (sym o.current) ∙ c);
        again = λ owed e is. p.again owed (sym o.owes ∙ e) is;
        taken = (let e = ap (λ (g : ℕ → ℕ). g write) o.news in let l = p.taken in omega (arith, e, l));
      }
  step (said (notes.Sent s generation from to bytes)) h f most p = sent_on h s generation from to bytes f.facts p
  step (said (notes.Got s)) h f most p =
      let r = got_rests s h in
      record {
        there = ap (λ (g : ℕ → Option Sending). g write) r.sent ∙ p.there;
        given = λ c. ap (λ (g : Transaction → ℕ). g v) r.given ∙ p.given (ap (λ (g : Transaction → ℕ). g v) (sym r.current) ∙ c);
        again = λ owed e is. by owed is (got_owes s h owed e);
        taken = (let l = p.taken in let k = r.news write in omega (arith, l, k));
      }
    where
      by : (owed : Owed) → owed.serial ≡ write → ((terms h).owes ≡ Some owed) ⊎ ((owed.serial ≡ s) × (owed.cause ≡ None)) → owed.cause ≡ Some causes.Again
      by owed is (inl e) = p.again owed e is
      by owed is (inr e) =
          let same : s ≡ write = sym e.0 ∙ is in
          let more = got_more s h q (ap (terms h).sent same ∙ p.there) in
          let l = subst (λ n. (terms h).news n < (terms (said (notes.Got s) ∷ h)).news n) same more in
          let k = p.taken in
          absurd (omega (arith, l, k, most))
  step (said (notes.Ignored s cause)) h f most p =
      let r = ignored_rests s cause h in
      record {
        there = ap (λ (g : ℕ → Option Sending). g write) r.sent ∙ p.there;
        given = λ c. ap (λ (g : Transaction → ℕ). g v) r.given ∙ p.given (ap (λ (g : Transaction → ℕ). g v) (sym r.current) ∙ c);
        again = λ owed e is. by owed is (ignored_that ((terms h).sent s) cause s (terms h) owed e);
        taken = (let l = p.taken in let k = r.news write in omega (arith, l, k));
      }
    where
      by : (owed : Owed) → owed.serial ≡ write → Owes (terms h) (terms (said (notes.Ignored s cause) ∷ h)) s owed → owed.cause ≡ Some causes.Again
      by owed is (inl e) = p.again owed e is
      by owed is (inr (e, inl a)) = a
      by owed is (inr (e, inr more)) =
          let same : s ≡ write = sym e ∙ is in
          let l = subst (λ n. (terms h).news n < (terms (said (notes.Ignored s cause) ∷ h)).news n) same more in
          let k = p.taken in
          absurd (omega (arith, l, k, most))
  step (said (notes.TimedOut s)) h f most p =
      let r = timed_rests s h in
      record {
        there = ap (λ (g : ℕ → Option Sending). g write) r.sent ∙ p.there;
        given = λ c. ap (λ (g : Transaction → ℕ). g v) r.given ∙ p.given (ap (λ (g : Transaction → ℕ). g v) (sym r.current) ∙ c);
        again = λ owed e is. p.again owed (sym (timed_owes s h) ∙ e) is;
        taken = (let l = p.taken in let k = r.news write in omega (arith, l, k));
      }
  step (said note) h f most p = record { there = p.there; given = p.given; again = p.again; taken = p.taken }

  refused_on : (later h : List Moment) → Hands start i (later ++ h) → (terms (later ++ h)).news write ≤ 1 → Refuses h → Refuses (later ++ h)
  refused_on [] h hands most p = p
  refused_on (m ∷ later) h hands most p =
      let grow = moment_news m (later ++ h) write in
      step m (later ++ h) hands.0 most (refused_on later h hands.1 (omega (arith, grow, most)) p)

  -- ---- as it is refused
  module _ (before : List Moment) (answer generation to label : ℕ) (bytes : List ℕ) (there : (terms before).sent write ≡ Some q) (part : part_of q.bytes ≡ request label writing) (code : rcode_of bytes ≡ 4) where
    abbrev got : List Moment
    got = said (notes.Got write) ∷ before

    abbrev answered : List Moment
    answered = said (notes.Sent answer generation 0 to bytes) ∷ got

    sent_then : (terms got).sent write ≡ Some q
    sent_then = ap (λ (g : ℕ → Option Sending). g write) (got_rests write before).sent ∙ there

    owes_it : (terms got).owes ≡ Some (record { serial = write; cause = None })
    owes_it = got_request write before q label writing v there part asked_v

    given_four : (terms answered).given v ≡ 4
    given_four =
        let one : Sending = record { generation = generation; from = 0; to = to; bytes = bytes; injected = (terms got).injected answer } in
        sent_given answer one (terms got) v ∙ ap (λ owes. given_behind owes (terms got).sent (rcode_of bytes) ((terms got).given v) v) owes_it
        ∙ ap (λ found. by_given (asked_in found) (rcode_of bytes) ((terms got).given v) v) sent_then
        ∙ ap (λ found. by_given found (rcode_of bytes) ((terms got).given v) v) asked_v
        ∙ ap (λ b. cond b (rcode_of bytes) ((terms got).given v)) (same_refl v)
        ∙ code

    first_refused : SentFacts start got i answer generation 0 bytes → Refuses answered
    first_refused f =
        let one : Sending = record { generation = generation; from = 0; to = to; bytes = bytes; injected = (terms got).injected answer } in
        let s = sent_terms answer one (terms got) in
        record {
          there = there_then got answer generation 0 to bytes f sent_then;
          given = λ c. given_four;
          again = λ owed e is. none_is owed (sym s.owes ∙ e);
          taken = (let e = ap (λ (g : ℕ → ℕ). g write) s.news in let l = got_more write before q there in omega (arith, e, l));
        }

-- ---- two places of one history
pub data Nested {A : Type 0} (x y : List A) : Type 0 where
  inside : (d : List A) → d ++ x ≡ y → Nested x y
  outside : (d : List A) → d ++ y ≡ x → Nested x y

pub nested : {A : Type 0} (a b x y : List A) → a ++ x ≡ b ++ y → Nested x y
nested [] b x y e = outside b (sym e)
nested (m ∷ a) [] x y e = inside (m ∷ a) e
nested (m ∷ a) (n ∷ b) x y e = nested a b x y (let z : a ++ x ≡ b ++ y = cc in z)

pub serials_back : (later h : List Moment) → SerialsCount (later ++ h) → SerialsCount h
serials_back [] h c = c
serials_back (m ∷ later) h c = serials_back later h (serials_behind m (later ++ h) c)

each_from : (start : List Disk) (i : ℕ) (later h : List Moment) → Hands start i (later ++ h) → Hands start i h
each_from start i [] h hands = hands
each_from start i (m ∷ later) h hands = each_from start i later h hands.1

-- ---- a write that was refused was not answered complete
module _ (start : List Disk) (past : List Moment) (i write : ℕ) (hands : Hands start i past) (counts : SerialsCount past) (own : IsOwnWrite past i write) (most : (terms past).news write ≤ 1) (r : WasRefused past write) (c : WasCompleted past write) where
  abbrev q : Sending
  q = own.packet

  abbrev v : Transaction
  v = c.of

  abbrev taken_at : List Moment
  taken_at = said (notes.Got write) ∷ r.before

  abbrev refused_at : List Moment
  refused_at = said (notes.Sent r.answer r.generation 0 r.to r.bytes) ∷ taken_at

  abbrev closed : List Moment
  closed = said (notes.Got c.got) ∷ c.before

  -- it was sent as it stands
  as_now : (later before : List Moment) (asking : Sending) → later ++ before ≡ past → (terms before).sent write ≡ Some asking → asking ≡ q
  as_now later before asking is there =
      let all : SerialsCount (later ++ before) = subst SerialsCount (sym is) counts in
      let m = remains later before all in
      same_some asking q (sym there ∙ (sym (m.sent write (sent_below before write asking (serials_back later before all) there)) ∙ (ap (λ ms. (terms ms).sent write) is ∙ own.sent)))

  asked_then : (terms r.before).sent write ≡ Some q
  asked_then =
      let behind : (r.later ++ said (notes.Sent r.answer r.generation 0 r.to r.bytes) ∷ said (notes.Got write) ∷ []) ++ r.before ≡ past = append_assoc r.later (said (notes.Sent r.answer r.generation 0 r.to r.bytes) ∷ said (notes.Got write) ∷ []) r.before ∙ r.is in
      r.asked ∙ ap Some (as_now (r.later ++ said (notes.Sent r.answer r.generation 0 r.to r.bytes) ∷ said (notes.Got write) ∷ []) r.before r.asking behind r.asked)

  begun_v : begun_by q ≡ Some v
  begun_v =
      let behind : (c.later ++ said (notes.Got c.got) ∷ []) ++ c.before ≡ past = append_assoc c.later (said (notes.Got c.got) ∷ []) c.before ∙ c.is in
      ap begun_by (sym (as_now (c.later ++ said (notes.Got c.got) ∷ []) c.before c.asking behind c.asked)) ∙ c.begun

  asked_v : asked_by q ≡ Some v
  asked_v = (begun_asked q v begun_v).1

  requester : v.requester ≡ suc i
  requester = ap (λ (x : Transaction). x.requester) (asked_is q v asked_v).is ∙ own.from_is

  responder : v.responder ≡ 0
  responder = ap (λ (x : Transaction). x.responder) (asked_is q v asked_v).is ∙ own.to_is

  refused_first : Refuses start i write q v asked_v requester responder refused_at
  refused_first =
      let facts = (each_from start i r.later refused_at (subst (Hands start i) (sym r.is) hands)).0.facts in
      first_refused start i write q v asked_v requester responder r.before r.answer r.generation r.to own.label r.bytes asked_then own.part r.code facts

  -- the response that completes it is no later one
  not_later : (d : List Moment) → d ++ refused_at ≡ c.before → ⊥
  not_later d back =
      let hands_then : Hands start i (d ++ refused_at) = subst (Hands start i) (sym back) (each_from start i c.later closed (subst (Hands start i) (sym c.is) hands)).1 in
      let a = news_grow c.later closed write in
      let b = moment_news (said (notes.Got c.got)) c.before write in
      let n = ap (λ ms. (terms ms).news write) c.is in
      let few : (terms c.before).news write ≤ 1 = omega (arith, a, b, n, most) in
      let p = refused_on start i write q v asked_v requester responder d refused_at hands_then (subst (λ ms. (terms ms).news write ≤ 1) (sym back) few) refused_first in
      let four : (terms c.before).given v ≡ 4 = subst (λ ms. (terms ms).current v ≡ write → (terms ms).given v ≡ 4) back p.given c.current in
      let zero = c.given in
      omega (arith, four, zero)

  -- nor an earlier one
  not_earlier : (d : List Moment) → d ++ closed ≡ r.before → ⊥
  not_earlier d e =
      let a = news_grow d closed write in
      let b = moment_news (said (notes.Got c.got)) c.before write in
      let n = ap (λ ms. (terms ms).news write) e in
      let new = r.new in
      let judged = c.judged in
      omega (arith, a, b, n, new, judged)

  by_place : Nested refused_at closed → ⊥
  by_place (inside [] e) = cc
  by_place (inside (m ∷ d) e) = not_later d (let z : d ++ refused_at ≡ c.before = cc in z)
  by_place (outside [] e) = cc
  by_place (outside (m ∷ []) e) =
      let same : c.before ≡ r.before = cc in
      let n = ap (λ ms. (terms ms).news write) same in
      let new = r.new in
      let judged = c.judged in
      omega (arith, n, new, judged)
  by_place (outside (m ∷ n ∷ d) e) = not_earlier d (let z : d ++ closed ≡ r.before = cc in z)

  pub not_completed : ⊥
  not_completed = by_place (nested r.later c.later refused_at closed (r.is ∙ sym c.is))

-- ---- at each place of a run
refused_there : (start : List Disk) (now : List Moment) (w : WorldState) → IsHolding start now w → (i write : ℕ) → Hands start i now → IsCalm now i → IsOwnWrite now i write → WasRefused now write → WasCompleted now write → ⊥
refused_there start now w h i write hands calm own r c =
    let x = subst IsOfWire h.is (laws_of h.past w h.holds.sound.stands) in
    not_completed start now i write hands x.serials own ((x.once write own.label own.packet own.sent own.honest own.part).most (ap (terms now).injects own.from_is ∙ calm)) r c

pub refused_law : RefusedLaw
refused_law = record {
  after_lines = λ line run r has small size tame i write b calm own refused completed.
      refused_there run.start.disks (history_of line run) (after (beginning run) run.entries).world (holding_everywhere.after_lines line run r has small size) i write
      (one_in_hand_law.after_lines line run r has small size (closing.before open_lists_law line run r has small size tame) i (subst (λ n. i < n) (count_after run run.entries) b) calm) calm own refused completed;
  between = λ line run r has small size next most told m tame i write b calm own refused completed.
      let w = (after_all told (begun (after (beginning run) run.entries))).world in
      refused_there run.start.disks (map said w.fresh ++ asked next (more_deliveries most) ∷ history_of line run) w (holding_everywhere.between line run r has small size next most told m) i write
      (one_in_hand_law.between line run r has small size next most told m (closing.between open_lists_law line run r has small size next (more_deliveries most) (more_than_one most) told m tame) i (subst (λ n. i < n) (count_between told (after (beginning run) run.entries) ∙ count_after run run.entries) b) calm) calm own refused completed;
}
