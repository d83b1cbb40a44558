-- What a moment leaves of the rcode that was given last to a transaction, and of how often its request was judged.
use Rattle.sbp_world.proofs.Words.Std.{arith, ◌≡◌, ◌∙◌, ◌⊎◌, inl, inr, refl, ap, ℕ, ◌+◌, nat_eq, Bool, true, false, cond, Option, Some, None, nat_tests}
use Rattle.sbp_world.proofs.Words.Wire.{Event, Held, Kind, Owed, Part, Sending, Terms, Transaction, arrives, asked_by, begins, begun_by, closes, closes_if, free, gets, gets_as, gives, ignores, ignores_that, is_news, is_served, judges, judges_if, opened, part_of, pays, puts, request, response, rests, sends, times_out, waits, Cause}
use Rattle.sbp_journal.specs.Transactions.{no_packet}
use Rattle.sbp_journal.specs.declared.cause.Cause.TheVariants as causes
use Rattle.sbp_journal.specs.declared.event.Event.TheVariants as events

-- the answer to a request is owed
pub record Owes (serial : ℕ) (t : Terms) : Type 0 where
  pub owed : Owed
  pub is : t.owes ≡ Some owed
  pub serial_is : owed.serial ≡ serial

pub record Heard (serial : ℕ) (t u : Terms) : Type 0 where
  pub given : u.given ≡ t.given
  pub current : u.current ≡ t.current
  pub judged : (u.judged serial ≡ t.judged serial) ⊎ Owes serial u

module _ (serial : ℕ) where
  abbrev H : Terms → Terms → Type 0
  H t u = Heard serial t u

  judges_heard : (u : Option Transaction) (cause : Option Cause) (s : ℕ) (q : Sending) (t : Terms) → H t (judges u cause s q t)
  judges_heard None cause s q t = record { given = refl; current = refl; judged = inl refl }
  judges_heard (Some u) cause s q t = record { given = refl; current = refl; judged = by (nat_eq serial s) refl }
    where
      by : (b : Bool) → nat_eq serial s ≡ b → ((judges (Some u) cause s q t).judged serial ≡ t.judged serial) ⊎ Owes serial (judges (Some u) cause s q t)
      by true e = inr (record { owed = record { serial = s; cause = cause }; is = refl; serial_is = grind (arith, nat_tests) })
      by false e = inl (ap (λ b. cond b (t.judged s + 1) (t.judged serial)) e)

  judges_if_heard : (b : Bool) (u : Option Transaction) (s : ℕ) (q : Sending) (t : Terms) → H t (judges_if b u s q t)
  judges_if_heard true u s q t = judges_heard u (Some causes.Grammar) s q t
  judges_if_heard false u s q t = record { given = refl; current = refl; judged = inl refl }

  closes_if_heard : (b : Bool) (s : ℕ) (u : Transaction) (rcode : ℕ) (t : Terms) → H t (closes_if b s u rcode t)
  closes_if_heard true s u rcode t = record { given = refl; current = refl; judged = inl refl }
  closes_if_heard false s u rcode t = record { given = refl; current = refl; judged = inl refl }

  closes_heard : (held : Held) (u : Transaction) (kind : Kind) (rcode : ℕ) (t : Terms) → H t (closes held u kind rcode t)
  closes_heard (waits kind s) u other rcode t = closes_if_heard _ s u rcode t
  closes_heard free u other rcode t = record { given = refl; current = refl; judged = inl refl }
  closes_heard rests u other rcode t = record { given = refl; current = refl; judged = inl refl }

  gets_as_heard : (part : Part) (s : ℕ) (q : Sending) (t : Terms) → H t (gets_as part s q t)
  gets_as_heard (request label kind) s q t = judges_heard (asked_by q) None s q t
  gets_as_heard (response label kind) s q t = closes_heard _ _ kind _ t
  gets_as_heard no_packet s q t = record { given = refl; current = refl; judged = inl refl }

  pub gets_heard : (found : Option Sending) (s : ℕ) (t : Terms) → H t (gets found s t)
  gets_heard None s t = record { given = refl; current = refl; judged = inl refl }
  gets_heard (Some q) s t = let k = gets_as_heard (part_of q.bytes) s q (is_served s (is_news s (arrives s t))) in record { given = k.given; current = k.current; judged = k.judged }

  ignores_heard : (cause : Cause) (s : ℕ) (q : Sending) (t : Terms) → H t (ignores cause s q t)
  ignores_heard causes.Generation s q t = record { given = refl; current = refl; judged = inl refl }
  ignores_heard causes.Grammar s q t = let k = judges_if_heard _ (asked_by q) s q (is_news s t) in record { given = k.given; current = k.current; judged = k.judged }
  ignores_heard causes.Label s q t = record { given = refl; current = refl; judged = inl refl }
  ignores_heard causes.Again s q t = judges_heard (asked_by q) (Some causes.Again) s q t
  ignores_heard causes.Source s q t = let k = judges_heard (asked_by q) (Some causes.Source) s q (is_news s t) in record { given = k.given; current = k.current; judged = k.judged }
  ignores_heard causes.Login s q t = let k = judges_heard (asked_by q) (Some causes.Login) s q (is_news s t) in record { given = k.given; current = k.current; judged = k.judged }
  ignores_heard causes.Slot s q t = let k = judges_heard (asked_by q) (Some causes.Slot) s q (is_served s (is_news s t)) in record { given = k.given; current = k.current; judged = k.judged }

  pub ignores_that_heard : (found : Option Sending) (cause : Cause) (s : ℕ) (t : Terms) → H t (ignores_that found cause s t)
  ignores_that_heard None cause s t = record { given = refl; current = refl; judged = inl refl }
  ignores_that_heard (Some q) cause s t = let k = ignores_heard cause s q (arrives s t) in record { given = k.given; current = k.current; judged = k.judged }

  pub late_heard : (u : Option Transaction) (t : Terms) → H t (times_out u t)
  late_heard None t = record { given = refl; current = refl; judged = inl refl }
  late_heard (Some u) t = record { given = refl; current = refl; judged = inl refl }

  pub opened_heard : (event : Event) (t : Terms) → H t (opened event t)
  opened_heard (events.Reset physical) t = record { given = refl; current = refl; judged = inl refl }
  opened_heard (events.Repeat s) t = record { given = refl; current = refl; judged = inl refl }
  opened_heard _ t = record { given = refl; current = refl; judged = inl refl }

-- ---- a packet that is sent judges none
begins_judged : (u : Option Transaction) (s : ℕ) (q : Sending) (t : Terms) → (begins u s q t).judged ≡ t.judged
begins_judged None s q t = refl
begins_judged (Some u) s q t = refl

pub gives_judged : (u : Option Transaction) (rcode : ℕ) (t : Terms) → (gives u rcode t).judged ≡ t.judged
gives_judged None rcode t = refl
gives_judged (Some u) rcode t = refl

pays_judged : (owed : Option Owed) (found : ℕ → Option Sending) (s : ℕ) (q : Sending) (t : Terms) → (pays owed found s q t).judged ≡ t.judged
pays_judged None found s q t = refl
pays_judged (Some owed) found s q t = gives_judged _ _ t

pub sends_judged : (s : ℕ) (q : Sending) (t : Terms) → (sends s q t).judged ≡ t.judged
sends_judged s q t = pays_judged t.owes t.sent s q (begins (begun_by q) s q (puts (begun_by q) s q t)) ∙ begins_judged (begun_by q) s q (puts (begun_by q) s q t)
