-- A packet that was served was got, where it was not ignored for its slot.
use Rattle.sbp_world.proofs.Words.Std.{arith, ◌≡◌, ◌∙◌, refl, sym, ap, ◌<◌, ℕ, nat_eq, Bool, true, false, List, [], ◌∷◌, ◌++◌, Option, Some, None, nat_tests}
use Rattle.sbp_world.proofs.Words.Wire.{Moment, asked, said, Sending, gets, ignores_that, terms, Cause, Note}
use Rattle.sbp_journal.specs.declared.cause.Cause.TheVariants as causes
use Rattle.sbp_journal.specs.declared.note.Note.TheVariants as notes
use Rattle.sbp_world.proofs.Lists.OpenedAside as aside
use Rattle.sbp_world.proofs.Lists.ServedTerms.{ignored_served, opened_served, quiet_served}

-- it was, and had been sent then
pub record WasGotThen (past : List Moment) (serial : ℕ) : Type 0 where
  pub later : List Moment
  pub before : List Moment
  pub is : later ++ said (notes.Got serial) ∷ before ≡ past
  pub packet : Sending
  pub sent : (terms before).sent serial ≡ Some packet

module _ (serial : ℕ) where
  further : (m : Moment) (past : List Moment) → WasGotThen past serial → WasGotThen (m ∷ past) serial
  further m past g = record { later = m ∷ g.later; before = g.before; is = ap (λ h. m ∷ h) g.is; packet = g.packet; sent = g.sent }

  abbrev pub NotShut : List Moment → Type 0
  NotShut past = (later before : List Moment) → later ++ said (notes.Ignored serial causes.Slot) ∷ before ≡ past → (q : Sending) → (terms before).sent serial ≡ Some q → ⊥

  not_before : (m : Moment) (past : List Moment) → NotShut (m ∷ past) → NotShut past
  not_before m past h later before e q s = h (m ∷ later) before (ap (λ ms. m ∷ ms) e) q s

  one_note : (note : Note) (past : List Moment) → NotShut (said note ∷ past) → (0 < (terms past).served serial → WasGotThen past serial) → 0 < (terms (said note ∷ past)).served serial → WasGotThen (said note ∷ past) serial
  one_note (notes.Got s) past shut again l = by (nat_eq serial s) refl
    where
      by_sent : (so : Option Sending) → (terms past).sent s ≡ so → serial ≡ s → WasGotThen (said (notes.Got s) ∷ past) serial
      by_sent None e f = further (said (notes.Got s)) past (again (let same : (terms (said (notes.Got s) ∷ past)).served serial ≡ (terms past).served serial = ap (λ o. (gets o s (terms past)).served serial) e in omega (arith, same, l)))
      by_sent (Some q) e f = record { later = []; before = past; is = ap (λ n. said (notes.Got n) ∷ past) f; packet = q; sent = ap (λ n. (terms past).sent n) f ∙ e }

      by : (b : Bool) → nat_eq serial s ≡ b → WasGotThen (said (notes.Got s) ∷ past) serial
      by true e = by_sent ((terms past).sent s) refl (grind (arith, nat_tests))
      by false e = let same = (aside.got serial s e ((terms past).sent s) (terms past)).served in further (said (notes.Got s)) past (again (omega (arith, same, l)))
  one_note (notes.Ignored s cause) past shut again l = by (nat_eq serial s) refl
    where
      there : 0 < (terms past).served serial → WasGotThen (said (notes.Ignored s cause) ∷ past) serial
      there m = further (said (notes.Ignored s cause)) past (again m)

      by_slot : (so : Option Sending) → (terms past).sent s ≡ so → serial ≡ s → cause ≡ causes.Slot → WasGotThen (said (notes.Ignored s cause) ∷ past) serial
      by_slot None e f g = there (let same : (terms (said (notes.Ignored s cause) ∷ past)).served serial ≡ (terms past).served serial = ap (λ o. (ignores_that o cause s (terms past)).served serial) e in omega (arith, same, l))
      by_slot (Some q) e f g = absurd (shut [] past (ap (λ n. said (notes.Ignored n causes.Slot) ∷ past) f ∙ ap (λ c. said (notes.Ignored s c) ∷ past) (sym g)) q (ap (λ n. (terms past).sent n) f ∙ e))

      other : (cause ≡ causes.Slot → ⊥) → WasGotThen (said (notes.Ignored s cause) ∷ past) serial
      other none = there (let same = ap (λ (g : ℕ → ℕ). g serial) (ignored_served ((terms past).sent s) cause s (terms past) none) in omega (arith, same, l))

      by_cause : (c : Cause) → cause ≡ c → serial ≡ s → WasGotThen (said (notes.Ignored s cause) ∷ past) serial
      by_cause causes.Slot e f = by_slot ((terms past).sent s) refl f e
      by_cause causes.Generation e f = other (λ z. let no : causes.Generation ≡ causes.Slot = sym e ∙ z in cc)
      by_cause causes.Grammar e f = other (λ z. let no : causes.Grammar ≡ causes.Slot = sym e ∙ z in cc)
      by_cause causes.Label e f = other (λ z. let no : causes.Label ≡ causes.Slot = sym e ∙ z in cc)
      by_cause causes.Again e f = other (λ z. let no : causes.Again ≡ causes.Slot = sym e ∙ z in cc)
      by_cause causes.Source e f = other (λ z. let no : causes.Source ≡ causes.Slot = sym e ∙ z in cc)
      by_cause causes.Login e f = other (λ z. let no : causes.Login ≡ causes.Slot = sym e ∙ z in cc)

      by : (b : Bool) → nat_eq serial s ≡ b → WasGotThen (said (notes.Ignored s cause) ∷ past) serial
      by true e = by_cause cause refl (grind (arith, nat_tests))
      by false e = there (let same = (aside.ignored_that serial s e ((terms past).sent s) cause (terms past)).served in omega (arith, same, l))
  one_note (notes.Sent s generation from node bytes) past shut again l =
      let same = ap (λ (g : ℕ → ℕ). g serial) (quiet_served (notes.Sent s generation from node bytes) past tt) in
      further (said (notes.Sent s generation from node bytes)) past (again (omega (arith, same, l)))
  one_note (notes.TimedOut s) past shut again l =
      let same = ap (λ (g : ℕ → ℕ). g serial) (quiet_served (notes.TimedOut s) past tt) in
      further (said (notes.TimedOut s)) past (again (omega (arith, same, l)))
  one_note note past shut again l = further (said note) past (again l)

  pub served_got : (past : List Moment) → NotShut past → 0 < (terms past).served serial → WasGotThen past serial
  served_got [] shut l = absurd (omega (arith, l))
  served_got (asked line event ∷ past) shut l =
      let same = ap (λ (g : ℕ → ℕ). g serial) (opened_served event (terms past)) in
      further (asked line event) past (served_got past (not_before (asked line event) past shut) (omega (arith, same, l)))
  served_got (said note ∷ past) shut l = one_note note past shut (λ m. served_got past (not_before (said note) past shut) m) l
