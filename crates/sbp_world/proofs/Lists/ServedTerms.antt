-- How often a packet was served, by the moments of a history: no more often than it was taken as new; and only as it is got, or ignored for its slot.
use Rattle.sbp_world.proofs.Words.Std.{arith, ◌≡◌, refl, ap, ℕ, ◌+◌, ◌≤◌, nat_eq, Bool, true, false, cond, List, [], ◌∷◌, Option, Some, None, nat_tests}
use Rattle.sbp_world.proofs.Words.Wire.{Moment, asked, said, Kind, Part, Sending, Transaction, asked_by, part_of, request, response, Held, Terms, arrives, begun_in, closes, closes_if, free, gets, gets_as, ignores, ignores_that, is_news, is_served, judges, judges_if, opened, rests, terms, times_out, waits, Cause, Event, Note}
use Rattle.sbp_journal.specs.Transactions.{no_packet}
use Rattle.sbp_journal.specs.declared.cause.Cause.TheVariants as causes
use Rattle.sbp_journal.specs.declared.event.Event.TheVariants as events
use Rattle.sbp_journal.specs.declared.note.Note.TheVariants as notes
use Rattle.sbp_world.proofs.Lists.OpenNews.{judges_if_same, opened_same, sends_same, times_out_same}
use Rattle.sbp_world.proofs.Lists.OpenedMoments.{rest_same}
use Rattle.sbp_world.proofs.Lists.Quiet.{IsQuiet}
use Rattle.sbp_world.proofs.Lists.ManageTerms.{judges_news, part_news}

judges_served : (u : Option Transaction) (cause : Option Cause) (s : ℕ) (packet : Sending) (t : Terms) → (judges u cause s packet t).served ≡ t.served
judges_served None cause s packet t = refl
judges_served (Some u) cause s packet t = refl

judges_if_served : (b : Bool) (u : Option Transaction) (s : ℕ) (packet : Sending) (t : Terms) → (judges_if b u s packet t).served ≡ t.served
judges_if_served true u s packet t = judges_served u (Some causes.Grammar) s packet t
judges_if_served false u s packet t = refl

closes_if_served : (b : Bool) (s : ℕ) (u : Transaction) (rcode : ℕ) (t : Terms) → (closes_if b s u rcode t).served ≡ t.served
closes_if_served true s u rcode t = refl
closes_if_served false s u rcode t = refl

closes_served : (held : Held) (u : Transaction) (kind : Kind) (rcode : ℕ) (t : Terms) → (closes held u kind rcode t).served ≡ t.served
closes_served (waits kind s) u other rcode t = closes_if_served _ s u rcode t
closes_served free u other rcode t = refl
closes_served rests u other rcode t = refl

gets_as_served : (part : Part) (s : ℕ) (packet : Sending) (t : Terms) → (gets_as part s packet t).served ≡ t.served
gets_as_served (request label kind) s packet t = judges_served (asked_by packet) None s packet t
gets_as_served (response label kind) s packet t = closes_served _ _ kind _ t
gets_as_served no_packet s packet t = refl

times_out_served : (u : Option Transaction) (t : Terms) → (times_out u t).served ≡ t.served
times_out_served None t = refl
times_out_served (Some u) t = refl

pub opened_served : (event : Event) (t : Terms) → (opened event t).served ≡ t.served
opened_served (events.Reset physical) t = refl
opened_served (events.Repeat serial) t = refl
opened_served _ t = refl

-- what is ignored for another cause is not served
pub ignored_served : (so : Option Sending) (cause : Cause) (s : ℕ) (t : Terms) → (cause ≡ causes.Slot → ⊥) → (ignores_that so cause s t).served ≡ t.served
ignored_served None cause s t n = refl
ignored_served (Some packet) causes.Generation s t n = refl
ignored_served (Some packet) causes.Grammar s t n = judges_if_served _ (asked_by packet) s packet (is_news s (arrives s t))
ignored_served (Some packet) causes.Label s t n = refl
ignored_served (Some packet) causes.Again s t n = judges_served (asked_by packet) (Some causes.Again) s packet (arrives s t)
ignored_served (Some packet) causes.Source s t n = judges_served (asked_by packet) (Some causes.Source) s packet (is_news s (arrives s t))
ignored_served (Some packet) causes.Login s t n = judges_served (asked_by packet) (Some causes.Login) s packet (is_news s (arrives s t))
ignored_served (Some packet) causes.Slot s t n = absurd (n refl)

-- a note by which no packet is judged
pub quiet_served : (note : Note) (past : List Moment) → IsQuiet note → (terms (said note ∷ past)).served ≡ (terms past).served
quiet_served (notes.Got s) past q = absurd q
quiet_served (notes.Ignored s cause) past q = absurd q
quiet_served (notes.Sent s generation from to bytes) past q = (rest_same (notes.Sent s generation from to bytes) past refl).served
quiet_served (notes.TimedOut s) past q = times_out_served (begun_in ((terms past).sent s)) (terms past)
quiet_served note past q = refl

-- ---- no more often than it was taken as new
module _ (r : ℕ) where
  abbrev Most : Terms → Type 0
  Most t = t.served r ≤ t.news r

  most_as : (t u : Terms) → u.served ≡ t.served → u.news ≡ t.news → Most t → Most u
  most_as t u e f h = let x = ap (λ (g : ℕ → ℕ). g r) e in let y = ap (λ (g : ℕ → ℕ). g r) f in omega (arith, x, y, h)

  most_news : (s : ℕ) (t : Terms) → Most t → Most (is_news s t)
  most_news s t h = by (nat_eq r s) refl
    where
      by : (b : Bool) → nat_eq r s ≡ b → t.served r ≤ cond b (t.news s + 1) (t.news r)
      by true e = let x : r ≡ s = grind (arith, nat_tests) in let y = ap t.news x in omega (arith, y, h)
      by false e = h

  most_both : (s : ℕ) (t : Terms) → Most t → Most (is_served s (is_news s t))
  most_both s t h = by (nat_eq r s) refl
    where
      by : (b : Bool) → nat_eq r s ≡ b → cond b (t.served s + 1) (t.served r) ≤ cond b (t.news s + 1) (t.news r)
      by true e = let x : r ≡ s = grind (arith, nat_tests) in let y = ap t.news x in let z = ap t.served x in omega (arith, y, z, h)
      by false e = h

  most_got : (so : Option Sending) (s : ℕ) (t : Terms) → Most t → Most (gets so s t)
  most_got None s t h = h
  most_got (Some packet) s t h =
      let c = is_served s (is_news s (arrives s t)) in
      most_as c (gets (Some packet) s t) (gets_as_served (part_of packet.bytes) s packet c) (part_news (part_of packet.bytes) s packet c) (most_both s (arrives s t) h)

  most_judged : (u : Option Transaction) (cause : Option Cause) (s : ℕ) (packet : Sending) (t : Terms) → Most t → Most (judges u cause s packet t)
  most_judged u cause s packet t h = most_as t (judges u cause s packet t) (judges_served u cause s packet t) (judges_news u cause s packet t) h

  most_ignored : (so : Option Sending) (cause : Cause) (s : ℕ) (t : Terms) → Most t → Most (ignores_that so cause s t)
  most_ignored None cause s t h = h
  most_ignored (Some packet) causes.Generation s t h = h
  most_ignored (Some packet) causes.Grammar s t h =
      let b = is_news s (arrives s t) in
      most_as b (ignores causes.Grammar s packet (arrives s t)) (judges_if_served _ (asked_by packet) s packet b) (judges_if_same r _ (asked_by packet) s packet b) (most_news s (arrives s t) h)
  most_ignored (Some packet) causes.Label s t h = most_news s (arrives s t) h
  most_ignored (Some packet) causes.Again s t h = most_judged (asked_by packet) (Some causes.Again) s packet (arrives s t) h
  most_ignored (Some packet) causes.Source s t h = most_judged (asked_by packet) (Some causes.Source) s packet (is_news s (arrives s t)) (most_news s (arrives s t) h)
  most_ignored (Some packet) causes.Login s t h = most_judged (asked_by packet) (Some causes.Login) s packet (is_news s (arrives s t)) (most_news s (arrives s t) h)
  most_ignored (Some packet) causes.Slot s t h = most_judged (asked_by packet) (Some causes.Slot) s packet (is_served s (is_news s (arrives s t))) (most_both s (arrives s t) h)

  most_moment : (m : Moment) (past : List Moment) → Most (terms past) → Most (terms (m ∷ past))
  most_moment (asked line event) past h = most_as (terms past) (opened event (terms past)) (opened_served event (terms past)) (opened_same r event (terms past)) h
  most_moment (said (notes.Got s)) past h = most_got ((terms past).sent s) s (terms past) h
  most_moment (said (notes.Ignored s cause)) past h = most_ignored ((terms past).sent s) cause s (terms past) h
  most_moment (said (notes.TimedOut s)) past h =
      let u = begun_in ((terms past).sent s) in most_as (terms past) (times_out u (terms past)) (times_out_served u (terms past)) (times_out_same r u (terms past)) h
  most_moment (said (notes.Sent s generation from to bytes)) past h =
      let t = terms past in
      most_as t (terms (said (notes.Sent s generation from to bytes) ∷ past)) (rest_same (notes.Sent s generation from to bytes) past refl).served (sends_same r s _ t) h
  most_moment (said note) past h = h

  pub served_most : (past : List Moment) → (terms past).served r ≤ (terms past).news r
  served_most [] = omega arith
  served_most (m ∷ past) = most_moment m past (served_most past)
