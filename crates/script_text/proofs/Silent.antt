-- A line says nothing exactly where it is silent and not too long.
use Rattle.std.proofs.Common.{◌≡◌, ◌≤◌, ℕ, nat_lt, not, Bool, true, false, cond, List, length, Option, Some, None, Result, Ok, Err, refl, sym, ◌∙◌, arith}
use Rattle.std.specs.Prelude.{◌↔◌}
use Rattle.std.specs.List.{list_all, find}
use Rattle.std.proofs.lemmas.Bool.Decides.{nat_tests}
use Rattle.sbp_journal.specs.declared.event.Event.{Event}
use Rattle.script_words.specs.declared.fault.LineFault.{LineFault}
use Rattle.script_words.specs.declared.fault.LineFault.TheVariants as faults
use Rattle.script_text.specs.declared.row.Row.{Row}
use Rattle.script_text.specs.Rows.{has_shape}
use Rattle.script_text.specs.Line.{reading, is_silent, is_printable, is_out_of_place, row, arguments, on_row, event_of, has_no_event, names_none, event_names_none, maybe_event, row_event, told, event_at, has_fault, order}

abbrev answer : Option LineFault → Option Event → Result (Option Event) LineFault
answer (Some fault) event = Err fault
answer None event = Ok event

abbrev row_answer : Bool → Bool → Result Event LineFault → ℕ → Result (Option Event) LineFault
row_answer place shape event n =
    answer (cond place (Some faults.Place) (cond (not shape) (Some faults.Shape) (cond (has_no_event event) (Some faults.Range) (cond (event_names_none n event) (Some faults.NoInitiator) None)))) (maybe_event event)

told_answer : (fault : Option LineFault) (line : List ℕ) → told fault line ≡ answer fault (event_at line)
told_answer (Some fault) line = refl
told_answer None line = refl

missing : (t : Bool) (event : Event) → answer (cond t (Some faults.NoInitiator) None) (Some event) ≡ Ok None → ⊥
missing true event h = cc h
missing false event h = cc h

row_says : (place shape : Bool) (event : Result Event LineFault) (n : ℕ) → row_answer place shape event n ≡ Ok None → ⊥
row_says true shape event n h = cc h
row_says false false event n h = cc h
row_says false true (Err fault) n h = cc h
row_says false true (Ok event) n h = missing (names_none n event) event h

abbrev line_answer : Bool → Bool → Option Row → (Row → Bool) → (Row → Bool) → (Row → Result Event LineFault) → ℕ → Option Event → Result (Option Event) LineFault
line_answer long printable r place shape event n found =
    answer (cond long (Some faults.TooLong) (cond (not printable) (Some faults.Byte) (cond (not (on_row r (λ x. true))) (Some faults.Unknown) (cond (on_row r place) (Some faults.Place) (cond (on_row r (λ x. not (shape x))) (Some faults.Shape) (cond (on_row r (λ x. has_no_event (event x))) (Some faults.Range) (cond (on_row r (λ x. event_names_none n (event x))) (Some faults.NoInitiator) None))))))) found

line_says : (long printable : Bool) (r : Option Row) (place shape : Row → Bool) (event : Row → Result Event LineFault) (ws : List (List ℕ)) (n : ℕ) → ((x : Row) → event x ≡ event_of x ws) → line_answer long printable r place shape event n (row_event r ws) ≡ Ok None → ⊥
line_says true printable r place shape event ws n e h = cc h
line_says false false r place shape event ws n e h = cc h
line_says false true None place shape event ws n e h = cc h
line_says false true (Some x) place shape event ws n e h = row_says (place x) (shape x) (event x) n (rw (← e x) at h)

heard : (line : List ℕ) (n : ℕ) → is_silent line ≡ false → reading line n ≡ Ok None → ⊥
heard line n e h =
    line_says (nat_lt 8192 (length line)) (list_all is_printable line) (row line) (is_out_of_place n) (λ r. has_shape r n (arguments line)) (λ r. event_of r (arguments line)) (arguments line) n (λ x. refl) (rw e at (sym (told_answer (find (has_fault line n) order) line) ∙ h))

silent_if : (t : Bool) (line : List ℕ) (n : ℕ) → is_silent line ≡ t → reading line n ≡ Ok None → t ≡ true
silent_if true line n e h = refl
silent_if false line n e h = absurd (heard line n e h)

short_if : (t : Bool) (line : List ℕ) (n : ℕ) → nat_lt 8192 (length line) ≡ t → reading line n ≡ Ok None → t ≡ false
short_if true line n e h = cc (rw e at h)
short_if false line n e h = refl

quiet : (line : List ℕ) (n : ℕ) → is_silent line ≡ true → nat_lt 8192 (length line) ≡ false → reading line n ≡ Ok None
quiet line n silent short = told_answer (find (has_fault line n) order) line ∙ rw (short, silent) refl

pub says_nothing : (line : List ℕ) (n : ℕ) → (reading line n ≡ Ok None) ↔ ((is_silent line ≡ true) × (length line ≤ 8192))
says_nothing line n = (
  λ h. (silent_if (is_silent line) line n refl h, (let short = short_if (nat_lt 8192 (length line)) line n refl h in grind (arith, nat_tests))),
  λ h. quiet line n h.0 (let short = h.1 in grind (arith, nat_tests)),
)
