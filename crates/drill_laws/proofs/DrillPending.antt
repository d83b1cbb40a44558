-- How many lines of a generated script append since its latest settle: 16 at most.
use Rattle.std.proofs.Common.{◌≡◌, ◌∙◌, refl, sym, ap, subst, ℕ, zero, suc, ◌+◌, ◌*◌, ◌%◌, ◌<◌, ◌≤◌, ◌==◌, ◌||◌, Bool, true, false, List, [], ◌∷◌, ◌++◌, arith}
use Rattle.std.proofs.lemmas.Bool.Decides.{nat_tests}
use Rattle.sbp_journal.specs.Run.{Entry}
use Rattle.sbp_journal.specs.declared.event.Event.{Event}
use Rattle.sbp_journal.specs.declared.event.Event.TheVariants as events
use Rattle.sbp_journal.specs.declared.event.Action.TheVariants as actions
use Rattle.script_text.specs.Drill.{generated, is_due, settle, turns}
use Rattle.script_text.specs.Draws.{turn}
use Rattle.drill_laws.specs.DrillLines.{is_append_line}
use Rattle.drill_laws.specs.DrillSettles.{events_said}
use Rattle.drill_laws.proofs.DrillScripts.{said_with, turn_appends}

-- ---- counting on
abbrev pub stepped : ℕ → Event → ℕ
stepped n events.Settle = 0
stepped n (events.Act i (actions.Append cmd)) = suc n
stepped n event = n

abbrev pub pending : ℕ → List Event → ℕ
pending n [] = n
pending n (event ∷ rest) = pending (stepped n event) rest

-- there are 16 at most all the time
abbrev pub StayFew : ℕ → List Event → Type 0
StayFew n [] = n ≤ 16
StayFew n (event ∷ rest) = (n ≤ 16) × StayFew (stepped n event) rest

pending-append : (n : ℕ) (xs ys : List Event) → pending n (xs ++ ys) ≡ pending (pending n xs) ys
pending-append n [] ys = refl
pending-append n (x ∷ xs) ys = pending-append (stepped n x) xs ys

few_front : (n : ℕ) (xs ys : List Event) → StayFew n (xs ++ ys) → StayFew n xs
few_front n [] [] few = few
few_front n [] (y ∷ ys) few = few.0
few_front n (x ∷ xs) ys few = (few.0, few_front (stepped n x) xs ys few.1)

pub few_now : (n : ℕ) (xs : List Event) → StayFew n xs → pending n xs ≤ 16
few_now n [] few = few
few_now n (x ∷ xs) few = few_now (stepped n x) xs few.1

-- ---- of a run, and of the run before its latest line
pub few_before : (entry : Entry) (before : List Entry) → StayFew 0 (events_said (entry ∷ before)) → StayFew 0 (events_said before)
few_before entry before few = few_front 0 (events_said before) (entry.event ∷ []) (subst (StayFew 0) (said_with entry before) few)

pub pending_with : (entry : Entry) (before : List Entry) → pending 0 (events_said (entry ∷ before)) ≡ stepped (pending 0 (events_said before)) entry.event
pending_with entry before = ap (pending 0) (said_with entry before) ∙ pending-append 0 (events_said before) (entry.event ∷ [])

-- ---- of the script
append_steps : (n : ℕ) (event : Event) → is_append_line event ≡ true → stepped n event ≡ suc n
append_steps n (events.Act i (actions.Append cmd)) e = refl
append_steps n _ e = absurd (let no : false ≡ true = e in cc no)

behind_line : (line n m left : ℕ) (later : List Event) → line ≡ suc n + 16 * m → n < 16 → ((k l : ℕ) → line + 1 ≡ suc k + 16 * l → k < 16 → StayFew k later) → ((left == 0) ≡ true → StayFew 0 later) → StayFew (suc n) (settle (is_due line left) ++ later)
behind_line line n m left later e low rest last = by (line % 16 == 0) refl (left == 0) refl
  where
    by : (b : Bool) → (line % 16 == 0) ≡ b → (c : Bool) → (left == 0) ≡ c → StayFew (suc n) (settle (b || c) ++ later)
    by true f c g =
        let due : line % 16 ≡ 0 = grind (arith, nat_tests) in
        (omega (arith, low), rest 0 (suc m) (omega (arith, e, low, due)) (omega arith))
    by false f true g = (omega (arith, low), last g)
    by false f false g =
        let other : line % 16 ≡ 0 → ⊥ = λ q. (let no : false ≡ true = sym f ∙ ap (λ k. k == 0) q in cc no) in
        rest (suc n) m (omega (arith, e)) (below n m line e low other)
      where
        below : (n m line : ℕ) → line ≡ suc n + 16 * m → n < 16 → (line % 16 ≡ 0 → ⊥) → suc n < 16
        below n m line e low other = at (suc n == 16) refl
          where
            at : (b : Bool) → (suc n == 16) ≡ b → suc n < 16
            at true f = absurd (other (let is : suc n ≡ 16 = grind (arith, nat_tests) in omega (arith, e, is)))
            at false f = grind (arith, nat_tests)

turns_few : (count line x n m : ℕ) → line ≡ suc n + 16 * m → n < 16 → StayFew n (turns count line x)
unfolding turns
turns_few zero line x n m e low = omega (arith, low)
turns_few (suc zero) line x n m e low =
    (omega (arith, low), subst (λ k. StayFew k (settle (is_due line 0) ++ [])) (sym (append_steps n (turn x).event (turn_appends x))) (behind_line line n m 0 [] e low (λ k l f small. omega (arith, small)) (λ f. omega arith)))
turns_few (suc (suc left)) line x n m e low =
    let later : List Event = turns (suc left) (line + 1) (turn x).state in
    (omega (arith, low), subst (λ k. StayFew k (settle (is_due line (suc left)) ++ later)) (sym (append_steps n (turn x).event (turn_appends x))) (behind_line line n m (suc left) later e low (λ k l f small. turns_few (suc left) (line + 1) (turn x).state k l f small) (λ f. absurd (grind (arith, nat_tests)))))

pub generated_few : (seed count : ℕ) → StayFew 0 (generated seed count)
generated_few seed count = (omega arith, turns_few count 1 seed 0 0 refl (omega arith))
