-- Each line of a drill that appends tells one append, or is refused; and no other line does.
use Rattle.std.proofs.Common.{◌≡◌, ◌∙◌, refl, sym, ap, subst, ℕ, zero, suc, ◌+◌, ◌≤◌, Bool, true, cond, List, [], ◌∷◌, ◌++◌, map, reverse, Option, Some, None, arith}
use Rattle.std.specs.List.{count_by}
use Rattle.std.proofs.lemmas.List.{map-append, reverse-append}
use Rattle.std.proofs.lemmas.List.Sums.{sum_by-append, sum_by-cons}
use Rattle.rbc_disk.specs.Disk.{Disk}
use Rattle.sbp_journal.specs.Run.{Entry, Moment, asked, history, notes_of, events_in, said}
use Rattle.sbp_journal.specs.declared.event.Event.{Event}
use Rattle.sbp_journal.specs.declared.event.Event.TheVariants as events
use Rattle.sbp_journal.specs.declared.event.Action.TheVariants as actions
use Rattle.sbp_journal.specs.declared.event.Cmd.{Cmd}
use Rattle.sbp_journal.specs.declared.note.Note.{Note}
use Rattle.sbp_journal.specs.declared.note.Note.TheVariants as notes
use Rattle.sbp_laws.specs.ActionLaw.{Acts, ActsOr, Brings, BringsEach}
use Rattle.sbp_laws.specs.Actions.{append_notes, link_notes, new_list, new_number, refusal_at}
use Rattle.sbp_laws.specs.Budget.{settle_deliveries}
use Rattle.sbp_laws.specs.Deliveries.{AreLowest, EndsSettle, is_effect}
use Rattle.sbp_laws.specs.Turns.{effects_of, sends_of}
use Rattle.drill_text.specs.Tally.{is_append}
use Rattle.drill_laws.specs.DrillAppends.{AppendsAreTold}
use Rattle.drill_laws.specs.DrillSettles.{events_said}
use Rattle.drill_laws.specs.DrillTakings.{told_in}
use Rattle.drill_laws.specs.DrillLines.{AreDrillLines, IsDrillLine, append_lines, is_append_line, is_refused}

-- ---- counting
pub counted-cons : (p : Note → Bool) (x : Note) (xs : List Note) → count_by p (x ∷ xs) ≡ cond (p x) 1 0 + count_by p xs
counted-cons p x xs = sum_by-cons (λ y. cond (p y) 1 0) x xs

pub counted-append : (p : Note → Bool) (xs ys : List Note) → count_by p (xs ++ ys) ≡ count_by p xs + count_by p ys
counted-append p xs ys = sum_by-append (λ y. cond (p y) 1 0) xs ys

-- a note that tells an append, or that a line was refused
abbrev both : Note → ℕ
both note = cond (is_append note) 1 0 + cond (is_refused note) 1 0

abbrev weigh : List Note → ℕ
weigh [] = 0
weigh (note ∷ rest) = both note + weigh rest

weigh-append : (xs ys : List Note) → weigh (xs ++ ys) ≡ weigh xs + weigh ys
weigh-append [] ys = omega arith
weigh-append (x ∷ xs) ys = let rest = weigh-append xs ys in omega (arith, rest)

weighed : (xs : List Note) → count_by is_append xs + count_by is_refused xs ≡ weigh xs
weighed [] = omega arith
weighed (x ∷ xs) =
    let one = counted-cons is_append x xs in
    let two = counted-cons is_refused x xs in
    let rest = weighed xs in
    omega (arith, one, two, rest)

-- ---- the notes of a line
effects_weigh : (note : Note) → is_effect note ≡ true → both note ≡ 0
effects_weigh (notes.Append i n k cdb buffer) e = absurd (cc e)
effects_weigh (notes.Refused line number) e = absurd (cc e)
effects_weigh _ e = refl

more : (note : Note) (rest : List Note) → both note ≡ 0 → weigh rest ≡ 0 → weigh (note ∷ rest) ≡ 0
more note rest e h = omega (arith, e, h)

lowest_weigh : (past : List Moment) (told : List Note) → AreLowest past told → weigh told ≡ 0
lowest_weigh past [] h = refl
lowest_weigh past (notes.Got serial ∷ rest) h = more (notes.Got serial) rest refl (lowest_weigh _ rest h.1)
lowest_weigh past (notes.Ignored serial cause ∷ rest) h = more (notes.Ignored serial cause) rest refl (lowest_weigh _ rest h.1)
lowest_weigh past (note ∷ rest) h = more note rest (effects_weigh note h.0) (lowest_weigh _ rest h.1)

sends_weigh : (told : List Note) → weigh (sends_of told) ≡ 0
sends_weigh [] = refl
sends_weigh (notes.Sent serial generation from to bytes ∷ rest) = more (notes.Sent serial generation from to bytes) (sends_of rest) refl (sends_weigh rest)
sends_weigh (_ ∷ rest) = sends_weigh rest

links_weigh : (i n k : ℕ) → weigh (link_notes i n k) ≡ 0
links_weigh i n zero = refl
links_weigh i n (suc k) = refl

append_weighs : (i n k : ℕ) (cmd : Cmd) → weigh (append_notes i n k cmd) ≡ 1
append_weighs i n k cmd =
    let rest = weigh-append (link_notes i n k) (notes.Rung i n k ∷ []) in
    let links = links_weigh i n k in
    let rung : weigh (notes.Rung i n k ∷ []) ≡ 0 = refl in
    omega (arith, rest, links, rung)

acts_weigh : (past : List Moment) (i : ℕ) (cmd : Cmd) (told : List Note) → Acts past i (actions.Append cmd) told → weigh told ≡ 1
acts_weigh past i cmd told h =
    let whole = ap weigh h.first ∙ weigh-append (effects_of told) (sends_of told) in
    let effects = ap weigh h.effects ∙ append_weighs i (new_list past i) (new_number past i) cmd in
    let sends = sends_weigh told in
    omega (arith, whole, effects, sends)

line_weighs : (disks : List Disk) (past : List Moment) (line : ℕ) (event : Event) (told : List Note) → IsDrillLine event → Brings disks past line event told → weigh told ≡ cond (is_append_line event) 1 0
line_weighs disks past line (events.Act i (actions.Append cmd)) told is h = by (refusal_at past i (actions.Append cmd)) h
  where
    by : (refusal : Option ℕ) → ActsOr refusal past line i (actions.Append cmd) told → weigh told ≡ 1
    by (Some number) e = ap weigh e
    by None acts = acts_weigh past i cmd told acts
line_weighs disks past line events.Settle told is h =
    let whole = ap weigh h.is ∙ weigh-append h.before (h.last ∷ []) in
    let before = lowest_weigh _ h.before h.delivers.lowest in
    let last = ends_weigh (asked line events.Settle ∷ past) (settle_deliveries (asked line events.Settle ∷ past)) h.before h.last h.ends in
    omega (arith, whole, before, last)
  where
    ends_weigh : (earlier : List Moment) (most : ℕ) (ns : List Note) (note : Note) → EndsSettle earlier most ns note → weigh (note ∷ []) ≡ 0
    ends_weigh earlier most ns notes.Settled h = refl
    ends_weigh earlier most ns notes.Stopped h = refl
    ends_weigh earlier most ns _ h = absurd h
line_weighs disks past line _ told is h = absurd is

-- ---- the notes of a history
pub told_latest : (kind : Note → Bool) (told : List Note) (past : List Moment) → told_in kind (map said told ++ past) ≡ count_by kind told + told_in kind past
told_latest kind [] past = omega arith
told_latest kind (note ∷ told) past =
    let one = counted-cons kind note told in
    let rest = told_latest kind told past in
    omega (arith, one, rest)

pub counted-reverse : (kind : Note → Bool) (told : List Note) → count_by kind (reverse told) ≡ count_by kind told
counted-reverse kind [] = refl
counted-reverse kind (note ∷ told) =
    let split = ap (count_by kind) (reverse-append (note ∷ []) told) ∙ counted-append kind (reverse told) (note ∷ []) in
    let one = counted-cons kind note told in
    let last = counted-cons kind note [] in
    let rest = counted-reverse kind told in
    omega (arith, split, one, last, rest)

pub told_is : (kind : Note → Bool) (entries : List Entry) → told_in kind (history entries) ≡ count_by kind (notes_of entries)
told_is kind [] = refl
told_is kind (entry ∷ before) =
    let here = told_latest kind entry.notes (asked entry.line entry.event ∷ history before) in
    let whole = counted-append kind (notes_of before) (reverse entry.notes) in
    let back = counted-reverse kind entry.notes in
    let rest = told_is kind before in
    omega (arith, here, whole, back, rest)

-- ---- all lines
pub append_lines-append : (xs ys : List Event) → append_lines (xs ++ ys) ≡ append_lines xs + append_lines ys
append_lines-append [] ys = omega arith
append_lines-append (x ∷ xs) ys = let rest = append_lines-append xs ys in omega (arith, rest)

lines_weigh : (disks : List Disk) (entries : List Entry) → BringsEach disks entries → AreDrillLines entries → weigh (notes_of entries) ≡ append_lines (events_said entries)
lines_weigh disks [] h are = absurd are
lines_weigh disks (entry ∷ []) h are =
    let told : reverse entry.notes ≡ notes.Begin 2 true ∷ [] = subst (λ e. Brings disks [] entry.line e (reverse entry.notes)) are h.0 in
    ap weigh told ∙ sym (ap (λ e. append_lines (e ∷ [])) are)
lines_weigh disks (entry ∷ next ∷ before) h are =
    let here = line_weighs disks (history (next ∷ before)) entry.line entry.event (reverse entry.notes) are.0 h.0 in
    let rest = lines_weigh disks (next ∷ before) h.1 are.1 in
    let notes = weigh-append (notes_of (next ∷ before)) (reverse entry.notes) in
    let lines = ap append_lines (map-append (λ one. one.1) (events_in (next ∷ before)) ((entry.line, entry.event) ∷ [])) ∙ append_lines-append (events_said (next ∷ before)) (entry.event ∷ []) in
    omega (arith, here, rest, notes, lines)

pub appended_or_refused : AppendsAreTold
appended_or_refused disks entries h are = weighed (notes_of entries) ∙ lines_weigh disks entries h are

-- a line brings one such note at most
pub line_appends : (disks : List Disk) (past : List Moment) (line : ℕ) (event : Event) (told : List Note) → IsDrillLine event → Brings disks past line event (reverse told) → count_by is_append told ≤ cond (is_append_line event) 1 0
line_appends disks past line event told is h =
    let both_kinds = weighed (reverse told) in
    let most = line_weighs disks past line event (reverse told) is h in
    let back = counted-reverse is_append told in
    omega (arith, both_kinds, most, back)
