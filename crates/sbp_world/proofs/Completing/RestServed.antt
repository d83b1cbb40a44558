-- Each write of a history, between two nodes that injected no packets, was taken as new, or is the present request of its transaction; and where that waits for nothing, it was taken too.
use Rattle.sbp_world.proofs.Words.Std.{arith, ◌≡◌, ◌∙◌, ◌⊎◌, inl, inr, refl, sym, ap, subst, ℕ, ◌<◌, ◌≤◌, ◌&&◌, nat_eq, not, Bool, true, false, cond, List, [], ◌∷◌, Option, Some, None, Result, Ok, Err, nat_tests, same_Some, upd}
use Rattle.sbp_world.proofs.Words.Wire.{Asked, Event, Finding, Held, Moment, Node, Note, Sending, Stale, Terms, Transaction, asked, begun_by, free, is_plain, is_same, is_write, of_again, of_generation, of_grammar, of_label, of_request, of_response, opened, rests, said, sends, terms, transaction, waits}
use Rattle.sbp_world.proofs.Words.Laws.{EachMoment}
use Rattle.sbp_world.proofs.Words.World.{Stands, WorldState}
use Rattle.bus_transactions.specs.Moves.{Move, after, answer, answering, ask, asking, deliver, disown, expire, expiring, inject, lose, moved, reset, see, start, tell}
use Rattle.bus_transactions.specs.May.{May, MayAll}
use Rattle.bus_transactions.specs.Sent.{AreSent, IsOwn, SentLaw, is_free}
use Rattle.bus_transactions.specs.Wire.{Due, Wire, first_note, next_serial}
use Rattle.bus_transactions.proofs.All.{all_stand}
use Rattle.bus_transactions.proofs.Facts.{AskedBy, Facts, asked_begun, asked_is, begun_asked, both, both_fair, injected_begun, request_asked}
use Rattle.bus_transactions.proofs.PacketParts.{asking_read, request_read, same_is, same_refl}
use Rattle.bus_transactions.proofs.Reaches.{law_of as wire_law}
use Rattle.bus_transactions.proofs.SentLaws.{sent_always}
use Rattle.bus_transactions.proofs.Stands.{Stands as WireStands}
use Rattle.bus_transactions.proofs.Ties.{one_of}
use Rattle.label_table.specs.Layer.{asking_step, expiring_step, judging_step}
use Rattle.sbp_journal.specs.Transactions.{between, writing}
use Rattle.sbp_journal.specs.declared.cause.Cause.{Cause}
use Rattle.sbp_journal.specs.declared.event.Event.TheVariants as events
use Rattle.sbp_journal.specs.declared.note.Note.TheVariants as notes
use Rattle.sbp_laws.specs.Budget.{Lossless}
use Rattle.sbp_laws.specs.Completion.{in_the_air}
use Rattle.sbp_world.specs.Completing.RestServed.{WereTaken}
use Rattle.sbp_world.proofs.Agents.Management.Still.{hist}
use Rattle.sbp_world.proofs.Common.{and_first, and_second, itself, none_is, untrue}
use Rattle.sbp_world.proofs.Completing.RestLosses.{BeginsFirst}
use Rattle.sbp_world.proofs.Completing.RestNodes.{none_rests, none_waits}
use Rattle.sbp_world.proofs.Hosts.SentMoments.{sending}
use Rattle.sbp_world.proofs.Lists.ManageSends.{sent_terms}
use Rattle.sbp_world.proofs.Lists.OpenNews.{all_grow}
use Rattle.sbp_world.proofs.Wire.Bus.{holds}
use Rattle.sbp_world.proofs.Wire.Agrees.{Agrees, got_agrees, ignored_agrees, sends_agrees, timed_agrees, with_begun, with_sent}
use Rattle.sbp_world.proofs.Hosts.Cores.{not_so}

-- ---- what stood as a request was sent
abbrev AskedFacts : Moment → List Moment → Type 0
AskedFacts (said (notes.Sent s generation from to bytes)) past = (u : Transaction) → begun_by (sending past s generation from to bytes) ≡ Some u → Facts (terms past)
AskedFacts moment past = Unit {0}

asking_facts : (r : Option Asked × Node) (i j : ℕ) (w : Wire) → Facts (terms w.past) → EachMoment AskedFacts w.past → EachMoment AskedFacts (asking r i j w).past
asking_facts (None, new) i j w f e = e
asking_facts (Some found, new) i j w f e = ((λ u b. f), e)

answering_facts : (o : Option Due) (rcode : ℕ) (given : List ℕ) (w : Wire) → Facts (terms w.past) → EachMoment AskedFacts w.past → EachMoment AskedFacts (answering o rcode given w).past
answering_facts None rcode given w f e = e
answering_facts (Some due) rcode given w f e = ((λ u b. f), e)

-- an injected packet asks for nothing
injected_none : {A : Type 0} (past : List Moment) (s generation from to : ℕ) (bytes : List ℕ) (u : Transaction) → begun_by (sending (said (notes.Injected s) ∷ past) s generation from to bytes) ≡ Some u → A
injected_none past s generation from to bytes u b =
    none_is u (sym (injected_begun (sending (said (notes.Injected s) ∷ past) s generation from to bytes) (ap (λ x. cond x true ((terms past).injected s)) (itself s))) ∙ b)

first_facts : (finding : Finding (Unit {0})) (cause : Option Cause) (s : ℕ) (past : List Moment) → AskedFacts (said (first_note finding cause s)) past
first_facts of_generation cause s past = tt
first_facts of_grammar cause s past = tt
first_facts of_label cause s past = tt
first_facts (of_response p label purpose) cause s past = tt
first_facts (of_again p rcode) cause s past = tt
first_facts (of_request p) None s past = tt
first_facts (of_request p) (Some cause) s past = tt

expiring_facts : (r : Result (Option (Unit {0})) Stale × Node) (node peer label : ℕ) (w : Wire) → EachMoment AskedFacts w.past → EachMoment AskedFacts (expiring r node peer label w).past
expiring_facts (Ok purpose, new) node peer label w e = (tt, e)
expiring_facts (Err stale, new) node peer label w e = e

plain_facts : (note : Note) (past : List Moment) → is_plain note ≡ true → AskedFacts (said note) past
unfolding is_plain
plain_facts (notes.Sent s generation from to bytes) past e = untrue e
plain_facts note past e = tt

move_facts : (w : Wire) → WireStands w → (move : Move) → May move w → EachMoment AskedFacts w.past → EachMoment AskedFacts (moved move w).past
move_facts w h (ask node peer body) may e = asking_facts (asking_step (w.layer node) _ body tt) node peer w h.facts e
move_facts w h (answer rcode given) may e = answering_facts w.due rcode given w h.facts e
move_facts w h (inject node peer bytes) may e = ((λ u b. injected_none w.past (next_serial w) _ _ _ _ u b), (tt, e))
move_facts w h (deliver kept cause) may e = (first_facts (judging_step (w.layer kept.sent.to) kept.sent.generation kept.sent.bytes).0 cause kept.serial w.past, e)
move_facts w h (lose s) may e = (tt, e)
move_facts w h (expire node peer label) may e = expiring_facts (expiring_step (w.layer node) _ label) node peer label.number w e
move_facts w h (disown node peer label) may e = e
move_facts w h (reset line physical) may e = (tt, (tt, e))
move_facts w h (see node) may e = (tt, e)
move_facts w h (start line event) may e = (tt, e)
move_facts w h (tell note) may e = (plain_facts note w.past may, e)

all_facts : (moves : List Move) → MayAll moves → EachMoment AskedFacts (after moves).past
all_facts [] may = tt
all_facts (move ∷ moves) may = move_facts (after moves) (all_stand moves may.1) move may.0 (all_facts moves may.1)

-- ---- the present request of a transaction that waits for nothing
free_is : (held : Held) → is_free held ≡ true → held ≡ free
free_is free e = refl
free_is rests e = untrue e
free_is (waits kind s) e = untrue e

module _ (t : Terms) (f : Facts t) (u : Transaction) (idle : t.held u ≡ free) (fair : both t.injects u ≡ true) (s : ℕ) (q : Sending) (sent : t.sent s ≡ Some q) (write : is_write q.bytes ≡ true) (present : s ≡ t.current u) where
  some : 0 < t.current u
  some = by (one_of (t.current u))
    where
      by : (t.current u ≡ 0) ⊎ (0 < t.current u) → 0 < t.current u
      by (inl e) = none_is q (sym f.zero ∙ (ap t.sent (sym (present ∙ e)) ∙ sent))
      by (inr l) = l

  pub present_taken : 0 < t.news s
  present_taken =
      let tie = f.tie u in
      let a = f.asked u some in
      let same : a.packet ≡ q = same_Some a.packet q (sym a.sent_is ∙ (ap t.sent (sym present) ∙ sent)) in
      let once = tie.once fair (tie.freed fair idle some) a.packet.bytes a.last_is (ap (λ (p : Sending). is_write p.bytes) same ∙ write) in
      let here = ap t.news present in
      omega (arith, once, here)

-- ---- each write
abbrev Older : Terms → Type 0
Older t = (s : ℕ) (q : Sending) (u : Transaction) → t.sent s ≡ Some q → begun_by q ≡ Some u → is_write q.bytes ≡ true → both t.injects u ≡ true → (s ≡ t.current u) ⊎ (0 < t.news s)

same_older : (t new : Terms) → new.sent ≡ t.sent → new.current ≡ t.current → new.injects ≡ t.injects → ((s : ℕ) → t.news s ≤ new.news s) → Older t → Older new
same_older t new sent current injects grows older s q u there begun write fair =
    by (older s q u (ap (λ g. g s) (sym sent) ∙ there) begun write (ap (λ g. both g u) (sym injects) ∙ fair))
  where
    by : (s ≡ t.current u) ⊎ (0 < t.news s) → (s ≡ new.current u) ⊎ (0 < new.news s)
    by (inl e) = inl (e ∙ ap (λ g. g u) (sym current))
    by (inr l) = inr (let more = grows s in omega (arith, l, more))

agrees_older : (t new : Terms) → Agrees t new → ((s : ℕ) → t.news s ≤ new.news s) → Older t → Older new
agrees_older t new a grows older = same_older t new a.sent a.current a.injects grows older

opened_older : (event : Event) (t : Terms) → Older t → Older (opened event t)
opened_older (events.Reset physical) t older = same_older t (opened (events.Reset physical) t) refl refl refl (λ s. omega arith) older
opened_older (events.Repeat serial) t older = same_older t (opened (events.Repeat serial) t) refl refl refl (λ s. omega arith) older
opened_older event t older = same_older t (opened event t) refl refl refl (λ s. omega arith) older

-- ---- two nodes that injected no packets
both_parts : (injects : ℕ → Bool) (u : Transaction) → both injects u ≡ true → (injects u.requester ≡ false) × (injects u.responder ≡ false)
both_parts injects u e = (not_so (injects u.requester) (and_first (not (injects u.requester)) (not (injects u.responder)) e), not_so (injects u.responder) (and_second (not (injects u.requester)) (not (injects u.responder)) e))

pub both_made : (injects : ℕ → Bool) (u : Transaction) → injects u.requester ≡ false → injects u.responder ≡ false → both injects u ≡ true
both_made injects u e f = ap (λ b. not b && not (injects u.responder)) e ∙ ap not f

-- ---- a packet is sent
module _ (past : List Moment) (s generation from to : ℕ) (bytes : List ℕ) where
  abbrev t : Terms
  t = terms past

  abbrev q : Sending
  q = sending past s generation from to bytes

  -- its label was free
  was_free : ((terms past).injected s ≡ false → IsOwn (terms past) generation from to bytes) → (u : Transaction) → begun_by q ≡ Some u → t.held u ≡ free
  was_free own u begun =
      let b = begun_asked q u begun in
      let a : AskedBy q u = asked_is q u b.1 in
      let o = own b.0 in
      let takes = (o.lowest a.label a.kind a.part).takes in
      let same : u ≡ transaction (t.generation from) from to a.label = a.is ∙ ap (λ g. transaction g from to a.label) o.now in
      ap t.held same ∙ free_is (t.held (transaction (t.generation from) from to a.label)) (and_first _ _ takes)

  back : (b : Bool) (injects : ℕ → Bool) (node : ℕ) → cond b (upd injects from true) injects node ≡ false → injects node ≡ false
  back true injects node e = by (nat_eq node from) e
    where
      by : (c : Bool) → cond c true (injects node) ≡ false → injects node ≡ false
      by true e = untrue (sym e)
      by false e = e
  back false injects node e = e

  both_back : (u : Transaction) → both (cond q.injected (upd t.injects from true) t.injects) u ≡ true → both t.injects u ≡ true
  both_back u fair =
      let x = both_parts (cond q.injected (upd t.injects from true) t.injects) u fair in
      both_made t.injects u (back q.injected t.injects u.requester x.0) (back q.injected t.injects u.responder x.1)

  with_older : (o : Option Transaction) → begun_by q ≡ o → ((u : Transaction) → begun_by q ≡ Some u → Facts t) → ((u : Transaction) → begun_by q ≡ Some u → t.held u ≡ free) → Older t → Older (with_sent o s q t)
  with_older o begins facts idle older r p u there begun write fair = by (nat_eq r s) refl there
    where
      fair_before : both t.injects u ≡ true
      fair_before = both_back u fair

      -- this one
      now_current : Some p ≡ Some q → r ≡ s → (r ≡ with_begun o s t.current u) ⊎ (0 < t.news r)
      now_current e same =
          let its : o ≡ Some u = sym begins ∙ (ap begun_by (sym (same_Some p q e)) ∙ begun) in
          inl (same ∙ sym (ap (λ x. with_begun x s t.current u) its ∙ ap (λ b. cond b s (t.current u)) (same_refl u)))

      -- an earlier one
      earlier : (x : Option Transaction) → o ≡ x → t.sent r ≡ Some p → (r ≡ t.current u) ⊎ (0 < t.news r) → (r ≡ with_begun x s t.current u) ⊎ (0 < t.news r)
      earlier x e sent (inr l) = inr l
      earlier None e sent (inl f) = inl f
      earlier (Some v) e sent (inl f) = at_it (is_same u v) refl
        where
          at_it : (b : Bool) → is_same u v ≡ b → (r ≡ cond b s (t.current u)) ⊎ (0 < t.news r)
          at_it false g = inl f
          at_it true g =
              let its : begun_by q ≡ Some u = begins ∙ (e ∙ ap (λ (y : Transaction). Some y) (sym (same_is u v g))) in
              inr (present_taken t (facts u its) u (idle u its) fair_before r p sent write f)

      by : (b : Bool) → nat_eq r s ≡ b → cond b (Some q) (t.sent r) ≡ Some p → (r ≡ with_begun o s t.current u) ⊎ (0 < t.news r)
      by true f e = now_current (sym e) (let z : r ≡ s = grind (arith, nat_tests) in z)
      by false f e = earlier o refl e (older r p u e begun write fair_before)

  sent_older : ((u : Transaction) → begun_by q ≡ Some u → Facts t) → (t.injected s ≡ false → IsOwn t generation from to bytes) → Older t → Older (terms (said (notes.Sent s generation from to bytes) ∷ past))
  sent_older facts own older =
      agrees_older (with_sent (begun_by q) s q t) (sends s q t) (sends_agrees s q t) (λ r. let e = ap (λ g. g r) (sent_terms s q t).news in omega (arith, e))
      (with_older (begun_by q) refl facts (λ u b. was_free own u b) older)

all_older : (past : List Moment) → AreSent past → EachMoment AskedFacts past → Older (terms past)
all_older [] sent facts = λ s q u there. none_is q there
all_older (asked line event ∷ past) sent facts = opened_older event (terms past) (all_older past sent facts.1)
all_older (said (notes.Sent s generation from to bytes) ∷ past) sent facts = sent_older past s generation from to bytes facts.0 sent.0 (all_older past sent.1 facts.1)
all_older (said (notes.Got s) ∷ past) sent facts =
    agrees_older (terms past) (terms (said (notes.Got s) ∷ past)) (got_agrees ((terms past).sent s) s (terms past)) (λ r. all_grow r (said (notes.Got s) ∷ []) past) (all_older past sent facts.1)
all_older (said (notes.Ignored s cause) ∷ past) sent facts =
    agrees_older (terms past) (terms (said (notes.Ignored s cause) ∷ past)) (ignored_agrees ((terms past).sent s) cause s (terms past)) (λ r. all_grow r (said (notes.Ignored s cause) ∷ []) past) (all_older past sent facts.1)
all_older (said (notes.TimedOut s) ∷ past) sent facts =
    agrees_older (terms past) (terms (said (notes.TimedOut s) ∷ past)) (timed_agrees ((terms past).sent s) (terms past)) (λ r. all_grow r (said (notes.TimedOut s) ∷ []) past) (all_older past sent facts.1)
all_older (said note ∷ past) sent facts = same_older (terms past) (terms (said note ∷ past)) refl refl refl (λ s. omega arith) (all_older past sent facts.1)

-- ---- at rest
abbrev OfFacts : Wire → Type 0
OfFacts w = EachMoment AskedFacts w.past

module _ {past : List Moment} (w : WorldState) (h : Stands past w) (first : EachMoment BeginsFirst (hist past w)) (lossless : Lossless (hist past w)) (calm : in_the_air (hist past w) ≡ 0) where
  abbrev here : Terms
  here = terms (hist past w)

  facts : Facts here
  facts = subst (λ ms. Facts (terms ms)) h.is.past_is (holds h.wire h.reached).facts

  each_older : Older here
  each_older = subst (λ ms. Older (terms ms)) h.is.past_is (all_older h.wire.past (wire_law SentLaw sent_always h.wire h.reached) (wire_law OfFacts all_facts h.wire h.reached))

  idle : (u : Transaction) → u.generation ≡ here.bus → (held : Held) → here.held u ≡ held → here.held u ≡ free
  idle u g free e = e
  idle u g rests e = absurd (none_rests w h first lossless u g e)
  idle u g (waits kind s) e = absurd (none_waits w h first lossless calm u kind s g e)

  pub were_taken : WereTaken (hist past w)
  were_taken serial x =
      let q = x.packet in
      let u : Transaction = between q q.from q.to x.label in
      let begun : begun_by q ≡ Some u = asked_begun q u x.honest (request_asked q x.label writing x.part) in
      let r = request_read q.bytes x.label writing x.part in
      let write : is_write q.bytes ≡ true = (asking_read q.bytes r.packet x.label writing r.read r.is).writes in
      let fair : both here.injects u ≡ true = both_made here.injects u x.from x.to in
      let most = (facts.counts serial q x.sent).most u begun write (both_fair here.injects u fair) in
      let least : 0 < here.news serial = by u x.latest write fair (each_older serial q u x.sent begun write fair) in
      omega (arith, most, least)
    where
      by : (u : Transaction) → u.generation ≡ here.bus → is_write x.packet.bytes ≡ true → both here.injects u ≡ true → (serial ≡ here.current u) ⊎ (0 < here.news serial) → 0 < here.news serial
      by u g write fair (inl e) = present_taken here facts u (idle u g (here.held u) refl) fair serial x.packet x.sent write e
      by u g write fair (inr l) = l
