-- Each ORB of a drill is of the first list of its initiator.
use Rattle.std.proofs.Common.{◌≡◌, ◌∙◌, refl, sym, ap, subst, ℕ, zero, suc, Bool, true, false, cond, nat_eq, List, [], ◌∷◌, ◌++◌, map, reverse, Option, Some, None, arith}
use Rattle.std.specs.List.{AllByRecursion}
use Rattle.std.proofs.lemmas.List.{reverse-reverse}
use Rattle.rbc_disk.specs.Disk.{Disk}
use Rattle.sbp_journal.proofs.Each.{all_append}
use Rattle.sbp_journal.specs.Run.{Entry, Moment, asked, history, said}
use Rattle.sbp_journal.specs.declared.event.Cmd.{Cmd}
use Rattle.sbp_journal.specs.declared.event.Event.{Event}
use Rattle.sbp_journal.specs.declared.event.Event.TheVariants as events
use Rattle.sbp_journal.specs.declared.event.Action.TheVariants as actions
use Rattle.sbp_journal.specs.declared.note.Note.{Note}
use Rattle.sbp_journal.specs.declared.note.Note.TheVariants as notes
use Rattle.sbp_laws.specs.ActionLaw.{ActsOr, Brings, BringsEach}
use Rattle.sbp_laws.specs.Actions.{append_notes, link_notes, list_for, new_list, new_number, refusal_at}
use Rattle.sbp_laws.specs.Budget.{settle_deliveries}
use Rattle.sbp_laws.specs.Deliveries.{AreLowest, EndsSettle, is_effect}
use Rattle.sbp_laws.specs.Lists.{present_list}
use Rattle.sbp_laws.specs.Terms.{Request, lists, request_at}
use Rattle.sbp_laws.specs.Turns.{EachMoment, effects_of, sends_of}
use Rattle.drill_laws.specs.DrillCalm.{IsCalmAt}
use Rattle.drill_laws.specs.DrillLines.{AreDrillLines, IsDrillLine}
use Rattle.drill_laws.proofs.DrillAir.{all_reverse}

abbrev FirstNote : Note → Type 0
FirstNote (notes.Append i n k cdb buffer) = n ≡ 0
FirstNote note = Unit {0}

abbrev AreFirst : List Note → Type 0
AreFirst told = AllByRecursion FirstNote told

abbrev pub FirstAt : Moment → List Moment → Type 0
FirstAt (said note) past = FirstNote note
FirstAt (asked line event) past = Unit {0}

sends_first : (told : List Note) → AreFirst (sends_of told)
sends_first [] = tt
sends_first (notes.Sent serial generation from to bytes ∷ rest) = (tt, sends_first rest)
sends_first (_ ∷ rest) = sends_first rest

links_first : (i n k : ℕ) → AreFirst (link_notes i n k)
links_first i n zero = tt
links_first i n (suc k) = (tt, (tt, tt))

append_first : (i n k : ℕ) (cmd : Cmd) → n ≡ 0 → AreFirst (append_notes i n k cmd)
append_first i n k cmd e = (e, all_append FirstNote (link_notes i n k) (notes.Rung i n k ∷ []) (links_first i n k) (tt, tt))

effect_first : (note : Note) → is_effect note ≡ true → FirstNote note
effect_first (notes.Append i n k cdb buffer) e = absurd (cc e)
effect_first _ e = tt

lowest_first : (past : List Moment) (told : List Note) → AreLowest past told → AreFirst told
lowest_first past [] h = tt
lowest_first past (notes.Got serial ∷ rest) h = (tt, lowest_first _ rest h.1)
lowest_first past (notes.Ignored serial cause ∷ rest) h = (tt, lowest_first _ rest h.1)
lowest_first past (note ∷ rest) h = (effect_first note h.0, lowest_first _ rest h.1)

-- ---- the present list is the first one
data Present (now : Option ℕ) (begun : ℕ) : Type 0 where
  none_yet : now ≡ None → begun ≡ 0 → Present now begun
  the_first : now ≡ Some 0 → Present now begun

present_is : (past : List Moment) → EachMoment FirstAt past → EachMoment IsCalmAt past → (i : ℕ) → Present (present_list past i) (lists past i)
present_is [] first calm i = none_yet refl refl
present_is (said (notes.Append j n k cdb buffer) ∷ past) first calm i = by (present_is past first.1 calm.1 i) (nat_eq i j)
  where
    by : Present (present_list past i) (lists past i) → (b : Bool) → Present (cond b (Some n) (present_list past i)) (cond b (cond (nat_eq k 0) (suc (lists past j)) (lists past j)) (lists past i))
    by was true = the_first (ap Some first.0)
    by was false = was
present_is (said (notes.Drop j n) ∷ past) first calm i = absurd calm.0
present_is (asked line event ∷ past) first calm i = present_is past first.1 calm.1 i
present_is (said _ ∷ past) first calm i = present_is past first.1 calm.1 i

pub new_first : (past : List Moment) → EachMoment FirstAt past → EachMoment IsCalmAt past → (i : ℕ) → new_list past i ≡ 0
new_first past first calm i = by (present_is past first calm i)
  where
    by : Present (present_list past i) (lists past i) → new_list past i ≡ 0
    by (none_yet e f) = ap (list_for past i) e ∙ f
    by (the_first e) = ap (list_for past i) e

-- ---- the lines
line_first : (disks : List Disk) (past : List Moment) (line : ℕ) (event : Event) (told : List Note) → IsDrillLine event → Brings disks past line event told → ((i : ℕ) → new_list past i ≡ 0) → AreFirst told
line_first disks past line (events.Act i (actions.Append cmd)) told is h new = by (refusal_at past i (actions.Append cmd)) h
  where
    by : (refusal : Option ℕ) → ActsOr refusal past line i (actions.Append cmd) told → AreFirst told
    by (Some number) e = subst AreFirst (sym e) (tt, tt)
    by None acts =
        subst AreFirst (sym acts.first)
        (all_append FirstNote (effects_of told) (sends_of told) (subst AreFirst (sym acts.effects) (append_first i (new_list past i) (new_number past i) cmd (new i))) (sends_first told))
line_first disks past line events.Settle told is h new =
    subst AreFirst (sym h.is) (all_append FirstNote h.before (h.last ∷ []) (lowest_first _ h.before h.delivers.lowest) (last_first (asked line events.Settle ∷ past) (settle_deliveries (asked line events.Settle ∷ past)) h.before h.last h.ends, tt))
  where
    last_first : (earlier : List Moment) (most : ℕ) (ns : List Note) (note : Note) → EndsSettle earlier most ns note → FirstNote note
    last_first earlier most ns notes.Settled h = tt
    last_first earlier most ns notes.Stopped h = tt
    last_first earlier most ns _ h = absurd h
line_first disks past line _ told is h new = absurd is

each_told : (told : List Note) (past : List Moment) → AreFirst told → EachMoment FirstAt past → EachMoment FirstAt (map said told ++ past)
each_told [] past all each = each
each_told (note ∷ told) past all each = (all.0, each_told told past all.1 each)

latest_first : (told : List Note) → AreFirst (reverse told) → AreFirst told
latest_first told all = subst AreFirst (reverse-reverse told) (all_reverse FirstNote (reverse told) all)

pub behind_calm : (told : List Note) (past : List Moment) → EachMoment IsCalmAt (map said told ++ past) → EachMoment IsCalmAt past
behind_calm [] past each = each
behind_calm (note ∷ told) past each = behind_calm told past each.1

pub all_first : (disks : List Disk) (entries : List Entry) → BringsEach disks entries → AreDrillLines entries → EachMoment IsCalmAt (history entries) → EachMoment FirstAt (history entries)
all_first disks [] h are calm = absurd are
all_first disks (entry ∷ []) h are calm =
    let told : reverse entry.notes ≡ notes.Begin 2 true ∷ [] = subst (λ e. Brings disks [] entry.line e (reverse entry.notes)) are h.0 in
    each_told entry.notes (asked entry.line entry.event ∷ []) (latest_first entry.notes (subst AreFirst (sym told) (tt, tt))) (tt, tt)
all_first disks (entry ∷ next ∷ before) h are calm =
    let past : List Moment = history (next ∷ before) in
    let calm_before = (behind_calm entry.notes (asked entry.line entry.event ∷ past) calm).1 in
    let first = all_first disks (next ∷ before) h.1 are.1 calm_before in
    each_told entry.notes (asked entry.line entry.event ∷ past) (latest_first entry.notes (line_first disks past entry.line entry.event (reverse entry.notes) are.0 h.0 (new_first past first calm_before))) (tt, first)

-- an ORB that was appended is of it
pub request_first : (past : List Moment) → EachMoment FirstAt past → (i n k : ℕ) (r : Request) → request_at past i n k ≡ Some r → n ≡ 0
request_first [] each i n k r e = absurd (let no : None ≡ Some r = e in cc no)
request_first (said (notes.Append j m l cdb buffer) ∷ past) each i n k r e = by (request_first past each.1 i n k r) (nat_eq i j) (nat_eq n m) refl (nat_eq k l) e
  where
    by : (request_at past i n k ≡ Some r → n ≡ 0) → (b c : Bool) → nat_eq n m ≡ c → (d : Bool) → cond b (cond c (cond d (Some (record { cdb = cdb; buffer = buffer })) (request_at past i n k)) (request_at past i n k)) (request_at past i n k) ≡ Some r → n ≡ 0
    by old true true f d e = (let same : n ≡ m = grind arith in same) ∙ each.0
    by old true false f d e = old e
    by old false c f d e = old e
request_first (_ ∷ past) each i n k r e = request_first past each.1 i n k r e
