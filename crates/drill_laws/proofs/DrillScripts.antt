-- The lines of the generated script are those of a drill, and as many of them append as it was asked for.
use Rattle.std.proofs.Common.{◌≡◌, ◌∙◌, refl, ap, ℕ, zero, suc, ◌+◌, ◌%◌, ◌<◌, ◌==◌, ◌||◌, Bool, true, false, cond, List, [], ◌∷◌, ◌++◌, Some, arith}
use Rattle.std.specs.List.{AllByRecursion}
use Rattle.std.proofs.lemmas.List.{map-append}
use Rattle.sbp_journal.proofs.Each.{all_append}
use Rattle.sbp_journal.specs.Run.{Entry, events_in}
use Rattle.sbp_journal.specs.declared.event.Event.{Event}
use Rattle.sbp_journal.specs.declared.event.Event.TheVariants as events
use Rattle.script_text.specs.Draws.{appending, block_read, block_write, drawn, next, turn, turn_of}
use Rattle.script_text.specs.Drill.{is_due, settle, turns}
use Rattle.drill_laws.specs.DrillScripts.{ScriptsAreDrills, last_of}
use Rattle.drill_laws.specs.DrillLines.{IsDrillLine, append_lines, is_append_line, reads, writes}
use Rattle.drill_laws.specs.DrillSettles.{events_said}

-- ---- the events of a run
pub said_with : (entry : Entry) (before : List Entry) → events_said (entry ∷ before) ≡ events_said before ++ entry.event ∷ []
said_with entry before = map-append (λ one. one.1) (events_in before) ((entry.line, entry.event) ∷ [])

-- ---- what is drawn
drawn_below : (x m : ℕ) → 0 < m → drawn x m < m
unfolding drawn
drawn_below x m some = omega (arith, some)

-- ---- one line
turn_of_is : (x1 x2 x3 : ℕ) → IsDrillLine (turn_of x1 x2 x3).event
turn_of_is x1 x2 x3 =
    elim (drawn x2 2 == 0) as (λ t. IsDrillLine (cond t (appending (drawn x1 2) (block_write (drawn x3 64) (drawn (next x3) 256)) (next x3)) (appending (drawn x1 2) (block_read (drawn x3 64)) x3)).event) [
      | true ↦ (drawn_below x1 2 (omega arith), writes (drawn x3 64) (drawn (next x3) 256) (drawn_below x3 64 (omega arith)) (drawn_below (next x3) 256 (omega arith)) refl)
      | false ↦ (drawn_below x1 2 (omega arith), reads (drawn x3 64) (drawn_below x3 64 (omega arith)) refl)
    ]

turn_is : (x : ℕ) → IsDrillLine (turn x).event
unfolding turn
turn_is x = turn_of_is (next x) (next (next x)) (next (next (next x)))

settle_is : (due : Bool) → AllByRecursion IsDrillLine (settle due)
settle_is true = (tt, tt)
settle_is false = tt

turns_are : (count line x : ℕ) → AllByRecursion IsDrillLine (turns count line x)
unfolding turns
turns_are zero line x = tt
turns_are (suc left) line x =
    (turn_is x, all_append IsDrillLine (settle (is_due line left)) (turns left (line + 1) (turn x).state) (settle_is (is_due line left)) (turns_are left (line + 1) (turn x).state))

-- ---- how many append
turn_of_appends : (x1 x2 x3 : ℕ) → is_append_line (turn_of x1 x2 x3).event ≡ true
turn_of_appends x1 x2 x3 =
    elim (drawn x2 2 == 0) as (λ t. is_append_line (cond t (appending (drawn x1 2) (block_write (drawn x3 64) (drawn (next x3) 256)) (next x3)) (appending (drawn x1 2) (block_read (drawn x3 64)) x3)).event ≡ true) [
      | true ↦ refl
      | false ↦ refl
    ]

pub turn_appends : (x : ℕ) → is_append_line (turn x).event ≡ true
unfolding turn
turn_appends x = turn_of_appends (next x) (next (next x)) (next (next (next x)))

append_lines-append : (xs ys : List Event) → append_lines (xs ++ ys) ≡ append_lines xs + append_lines ys
append_lines-append [] ys = omega arith
append_lines-append (x ∷ xs) ys = let rest = append_lines-append xs ys in omega (arith, rest)

settle_appends : (due : Bool) → append_lines (settle due) ≡ 0
settle_appends true = refl
settle_appends false = refl

turns_append : (count line x : ℕ) → append_lines (turns count line x) ≡ count
unfolding turns
turns_append zero line x = refl
turns_append (suc left) line x =
    let one : cond {A = ℕ} (is_append_line (turn x).event) 1 0 ≡ 1 = ap {B = ℕ} (λ b. cond b 1 0) (turn_appends x) in
    let settles = settle_appends (is_due line left) in
    let both = append_lines-append (settle (is_due line left)) (turns left (line + 1) (turn x).state) in
    let rest = turns_append left (line + 1) (turn x).state in
    omega (arith, one, settles, both, rest)

-- ---- the last line
pub last-append : (xs : List Event) (x : Event) (rest : List Event) → last_of (xs ++ x ∷ rest) ≡ last_of (x ∷ rest)
last-append [] x rest = refl
last-append (y ∷ []) x rest = refl
last-append (y ∷ z ∷ xs) x rest = last-append (z ∷ xs) x rest

due_last : (line : ℕ) → is_due line 0 ≡ true
due_last line = by (line % 16 == 0)
  where
    by : (b : Bool) → (b || (0 == 0)) ≡ true
    by true = refl
    by false = refl

-- it settles
turns_settle : (left line x : ℕ) → last_of (turns (suc left) line x) ≡ Some events.Settle
unfolding turns
turns_settle zero line x = ap (λ b. last_of ((turn x).event ∷ (settle b ++ []))) (due_last line)
turns_settle (suc left) line x =
    last-append ((turn x).event ∷ settle (is_due line (suc left))) (turn (turn x).state).event (settle (is_due (line + 1) left) ++ turns left (line + 1 + 1) (turn (turn x).state).state)
    ∙ turns_settle left (line + 1) (turn x).state

pub scripts_are_drills : ScriptsAreDrills
scripts_are_drills = record { lines = turns_are; appends = turns_append; settles = turns_settle }
