-- How often a request was taken as new never falls, and one that was got was so at least once.
use Rattle.sbp_world.proofs.Words.Std.{arith, ◌≡◌, ◌∙◌, ◌<◌, ◌≤◌, ◌+◌, ℕ, nat_eq, refl, sym, ap, subst, Bool, true, false, cond, List, [], ◌∷◌, ◌++◌, Option, Some, None, nat_tests}
use Rattle.sbp_world.proofs.Words.Wire.{Moment, asked, said, Sending, Transaction, asked_by, begun_by, part_of, Owed, Terms, arrives, begins, gets, gives, ignores, ignores_that, is_news, is_served, judges_if, opened, pays, puts, sends, terms, times_out, Cause, Event}
use Rattle.sbp_journal.specs.declared.cause.Cause.TheVariants as causes
use Rattle.sbp_journal.specs.declared.event.Event.TheVariants as events
use Rattle.sbp_journal.specs.declared.note.Note.TheVariants as notes
use Rattle.sbp_world.proofs.Lists.ManageTerms.{judges_news, part_news}

module _ (r : ℕ) where
  abbrev Grows : Terms → Terms → Type 0
  Grows t u = t.news r ≤ u.news r

  same : (t u : Terms) → u.news ≡ t.news → Grows t u
  same t u e = let x = ap (λ (f : ℕ → ℕ). f r) e in omega (arith, x)

  news_grows : (s : ℕ) (t : Terms) → Grows t (is_news s t)
  news_grows s t = by (nat_eq r s) refl
    where
      by : (b : Bool) → nat_eq r s ≡ b → t.news r ≤ cond b (t.news s + 1) (t.news r)
      by true e = let x : r ≡ s = grind (arith, nat_tests) in let y = ap t.news x in omega (arith, y)
      by false e = omega arith

  pub judges_if_same : (b : Bool) (u : Option Transaction) (s : ℕ) (packet : Sending) (t : Terms) → (judges_if b u s packet t).news ≡ t.news
  judges_if_same true u s packet t = judges_news u (Some causes.Grammar) s packet t
  judges_if_same false u s packet t = refl

  -- ---- one moment
  gets_grows : (found : Option Sending) (s : ℕ) (t : Terms) → Grows t (gets found s t)
  gets_grows None s t = same t t refl
  gets_grows (Some packet) s t =
      let u = is_served s (is_news s (arrives s t)) in
      let e = same u (gets (Some packet) s t) (part_news (part_of packet.bytes) s packet u) in
      let n = news_grows s (arrives s t) in
      let a = arrives_same s t in
      omega (arith, e, n, a)
    where
      arrives_same : (s : ℕ) (t : Terms) → t.news r ≤ (arrives s t).news r
      arrives_same s t = omega arith

  ignores_grows : (cause : Cause) (s : ℕ) (packet : Sending) (t : Terms) → Grows t (ignores cause s packet t)
  ignores_grows causes.Generation s packet t = same t t refl
  ignores_grows causes.Grammar s packet t =
      let u = is_news s t in
      let n = news_grows s t in
      let e = same u (ignores causes.Grammar s packet t) (judges_if_same _ (asked_by packet) s packet u) in
      omega (arith, n, e)
  ignores_grows causes.Label s packet t = news_grows s t
  ignores_grows causes.Again s packet t = same t (ignores causes.Again s packet t) (judges_news (asked_by packet) (Some causes.Again) s packet t)
  ignores_grows causes.Source s packet t =
      let u = is_news s t in
      let n = news_grows s t in
      let e = same u (ignores causes.Source s packet t) (judges_news (asked_by packet) (Some causes.Source) s packet u) in
      omega (arith, n, e)
  ignores_grows causes.Login s packet t =
      let u = is_news s t in
      let n = news_grows s t in
      let e = same u (ignores causes.Login s packet t) (judges_news (asked_by packet) (Some causes.Login) s packet u) in
      omega (arith, n, e)
  ignores_grows causes.Slot s packet t =
      let u = is_served s (is_news s t) in
      let n = news_grows s t in
      let e = same u (ignores causes.Slot s packet t) (judges_news (asked_by packet) (Some causes.Slot) s packet u) in
      omega (arith, n, e)

  ignores_that_grows : (found : Option Sending) (cause : Cause) (s : ℕ) (t : Terms) → Grows t (ignores_that found cause s t)
  ignores_that_grows None cause s t = same t t refl
  ignores_that_grows (Some packet) cause s t = ignores_grows cause s packet (arrives s t)

  pub times_out_same : (u : Option Transaction) (t : Terms) → (times_out u t).news ≡ t.news
  times_out_same None t = refl
  times_out_same (Some u) t = refl

  begins_same : (u : Option Transaction) (s : ℕ) (packet : Sending) (t : Terms) → (begins u s packet t).news ≡ t.news
  begins_same None s packet t = refl
  begins_same (Some u) s packet t = refl

  gives_same : (u : Option Transaction) (rcode : ℕ) (t : Terms) → (gives u rcode t).news ≡ t.news
  gives_same None rcode t = refl
  gives_same (Some u) rcode t = refl

  pays_same : (owed : Option Owed) (sent : ℕ → Option Sending) (s : ℕ) (packet : Sending) (t : Terms) → (pays owed sent s packet t).news ≡ t.news
  pays_same None sent s packet t = refl
  pays_same (Some owed) sent s packet t = gives_same _ _ t

  pub sends_same : (s : ℕ) (packet : Sending) (t : Terms) → (sends s packet t).news ≡ t.news
  sends_same s packet t =
      let put = puts (begun_by packet) s packet t in
      pays_same t.owes t.sent s packet (begins (begun_by packet) s packet put) ∙ begins_same (begun_by packet) s packet put

  pub opened_same : (event : Event) (t : Terms) → (opened event t).news ≡ t.news
  opened_same (events.Reset physical) t = refl
  opened_same (events.Repeat serial) t = refl
  opened_same _ t = refl

  moment_grows : (m : Moment) (past : List Moment) → Grows (terms past) (terms (m ∷ past))
  moment_grows (asked line event) past = same (terms past) (terms (asked line event ∷ past)) (opened_same event (terms past))
  moment_grows (said (notes.Sent s generation from to bytes)) past = same (terms past) (terms (said (notes.Sent s generation from to bytes) ∷ past)) (sends_same s _ (terms past))
  moment_grows (said (notes.Got s)) past = gets_grows ((terms past).sent s) s (terms past)
  moment_grows (said (notes.Ignored s cause)) past = ignores_that_grows ((terms past).sent s) cause s (terms past)
  moment_grows (said (notes.TimedOut s)) past = same (terms past) (terms (said (notes.TimedOut s) ∷ past)) (times_out_same _ (terms past))
  moment_grows (said note) past = same (terms past) (terms past) refl

  pub all_grow : (later past : List Moment) → Grows (terms past) (terms (later ++ past))
  all_grow [] past = omega arith
  all_grow (m ∷ later) past = let a = all_grow later past in let b = moment_grows m (later ++ past) in omega (arith, a, b)

  -- a packet that was got
  got_one : (past : List Moment) (packet : Sending) → (terms past).sent r ≡ Some packet → (terms past).news r < (terms (said (notes.Got r) ∷ past)).news r
  got_one past packet e =
      let t = terms past in
      let u = is_served r (is_news r (arrives r t)) in
      let x = same u (gets (Some packet) r t) (part_news (part_of packet.bytes) r packet u) in
      let y : t.news r < u.news r = by (nat_eq r r) (grind (arith, nat_tests)) t in
      subst (λ found. t.news r < (gets found r t).news r) (sym e) (omega (arith, x, y))
    where
      by : (b : Bool) → b ≡ true → (t : Terms) → t.news r < cond b (t.news r + 1) (t.news r)
      by true f t = omega arith
      by false f t = absurd (let z : false ≡ true = f in cc)

  -- once more than before
  pub got_more : (later earlier past : List Moment) (packet : Sending) → later ++ said (notes.Got r) ∷ earlier ≡ past → (terms earlier).sent r ≡ Some packet → (terms earlier).news r < (terms past).news r
  got_more later earlier past packet e f =
      let a = all_grow later (said (notes.Got r) ∷ earlier) in
      let b = got_one earlier packet f in
      subst (λ ms. (terms earlier).news r < (terms ms).news r) e (omega (arith, a, b))

  pub got_news : (later earlier past : List Moment) (packet : Sending) → later ++ said (notes.Got r) ∷ earlier ≡ past → (terms earlier).sent r ≡ Some packet → 0 < (terms past).news r
  got_news later earlier past packet e f =
      let a = all_grow later (said (notes.Got r) ∷ earlier) in
      let b = got_one earlier packet f in
      subst (λ ms. 0 < (terms ms).news r) e (omega (arith, a, b))
