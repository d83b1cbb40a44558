-- Where no line lacks a slot or a label, none is refused.
use Rattle.std.proofs.Common.{◌≡◌, ◌∙◌, refl, sym, ap, subst, ℕ, zero, suc, ◌<◌, true, false, cond, List, [], ◌∷◌, reverse, Option, Some, None, arith}
use Rattle.std.specs.List.{AllByRecursion, count_by}
use Rattle.rbc_disk.specs.Disk.{Disk}
use Rattle.sbp_journal.proofs.Each.{all_append}
use Rattle.sbp_journal.specs.Run.{Entry, Moment, asked, history, notes_of}
use Rattle.sbp_journal.specs.declared.event.Cmd.{Cmd}
use Rattle.sbp_journal.specs.declared.event.Event.{Event}
use Rattle.sbp_journal.specs.declared.event.Event.TheVariants as events
use Rattle.sbp_journal.specs.declared.event.Action.TheVariants as actions
use Rattle.sbp_journal.specs.declared.note.Note.{Note}
use Rattle.sbp_journal.specs.declared.note.Note.TheVariants as notes
use Rattle.sbp_laws.specs.ActionLaw.{ActsOr, Brings, BringsEach}
use Rattle.sbp_laws.specs.Actions.{append_notes, new_list, new_number, refusal_at}
use Rattle.sbp_laws.specs.Budget.{settle_deliveries}
use Rattle.sbp_laws.specs.Deliveries.{AreLowest, EndsSettle, is_effect}
use Rattle.sbp_laws.specs.Turns.{EachMoment, effects_of, sends_of}
use Rattle.drill_laws.specs.DrillCalm.{IsCalmAt, IsLawfulDrill}
use Rattle.drill_laws.specs.DrillLines.{AreDrillLines, IsDrillLine, is_refused}
use Rattle.drill_laws.specs.DrillRefused.{DrillsAppendAll, HaveRoom, HasRoomFor, IsAliveAt, IsReadyFor}
use Rattle.drill_laws.proofs.DrillCalm.{drills_are_calm}
use Rattle.drill_laws.proofs.DrillCounts.{appended_or_refused, counted-append, counted-cons}
use Rattle.drill_laws.proofs.DrillMoments.{DrillAt, drill_moments}
use Rattle.drill_laws.proofs.DrillReady.{behind_each}
use Rattle.drill_laws.proofs.DrillRefused.{ready_of, refusal_is}

abbrev AreTaken : List Note → Type 0
AreTaken told = AllByRecursion (λ note. is_refused note ≡ false) told

none_counted : (told : List Note) → AreTaken told → count_by is_refused told ≡ 0
none_counted [] all = refl
none_counted (note ∷ told) all =
    let one = counted-cons is_refused note told in
    let here : cond {A = ℕ} (is_refused note) 1 0 ≡ 0 = ap {B = ℕ} (λ b. cond b 1 0) all.0 in
    let rest = none_counted told all.1 in
    omega (arith, one, here, rest)

sends_taken : (told : List Note) → AreTaken (sends_of told)
sends_taken [] = tt
sends_taken (notes.Sent serial generation from to bytes ∷ rest) = (refl, sends_taken rest)
sends_taken (_ ∷ rest) = sends_taken rest

append_taken : (i n k : ℕ) (cmd : Cmd) → AreTaken (append_notes i n k cmd)
append_taken i n zero cmd = (refl, (refl, tt))
append_taken i n (suc k) cmd = (refl, (refl, (refl, (refl, tt))))

effect_taken : (note : Note) → is_effect note ≡ true → is_refused note ≡ false
effect_taken (notes.Refused line number) e = absurd (cc e)
effect_taken _ e = refl

lowest_taken : (past : List Moment) (told : List Note) → AreLowest past told → AreTaken told
lowest_taken past [] h = tt
lowest_taken past (notes.Got serial ∷ rest) h = (refl, lowest_taken _ rest h.1)
lowest_taken past (notes.Ignored serial cause ∷ rest) h = (refl, lowest_taken _ rest h.1)
lowest_taken past (note ∷ rest) h = (effect_taken note h.0, lowest_taken _ rest h.1)

line_taken : (disks : List Disk) (past : List Moment) (line : ℕ) (event : Event) (told : List Note) → IsDrillLine event → Brings disks past line event told → ((i : ℕ) → i < 2 → IsReadyFor past i) → HasRoomFor past event → AreTaken told
line_taken disks past line (events.Act i (actions.Append cmd)) told is h ready room = by (refusal_at past i (actions.Append cmd)) (refusal_is past i cmd (ready i is.0) ∙ room) h
  where
    by : (refusal : Option ℕ) → refusal ≡ None → ActsOr refusal past line i (actions.Append cmd) told → AreTaken told
    by (Some number) none e = absurd (cc none)
    by None none acts =
        subst AreTaken (sym acts.first)
        (all_append (λ note. is_refused note ≡ false) (effects_of told) (sends_of told) (subst AreTaken (sym acts.effects) (append_taken i (new_list past i) (new_number past i) cmd)) (sends_taken told))
line_taken disks past line events.Settle told is h ready room =
    subst AreTaken (sym h.is) (all_append (λ note. is_refused note ≡ false) h.before (h.last ∷ []) (lowest_taken _ h.before h.delivers.lowest) (last_taken (asked line events.Settle ∷ past) (settle_deliveries (asked line events.Settle ∷ past)) h.before h.last h.ends, tt))
  where
    last_taken : (earlier : List Moment) (most : ℕ) (ns : List Note) (note : Note) → EndsSettle earlier most ns note → is_refused note ≡ false
    last_taken earlier most ns notes.Settled h = refl
    last_taken earlier most ns notes.Stopped h = refl
    last_taken earlier most ns _ h = absurd h
line_taken disks past line _ told is h ready room = absurd is

none_in : (disks : List Disk) (entries : List Entry) → BringsEach disks entries → AreDrillLines entries → EachMoment DrillAt (history entries) → EachMoment IsCalmAt (history entries) → EachMoment IsAliveAt (history entries) → HaveRoom entries → count_by is_refused (notes_of entries) ≡ 0
none_in disks [] h are d calm alive room = absurd are
none_in disks (entry ∷ []) h are d calm alive room =
    let told : reverse entry.notes ≡ notes.Begin 2 true ∷ [] = subst (λ e. Brings disks [] entry.line e (reverse entry.notes)) are h.0 in
    none_counted (reverse entry.notes) (subst AreTaken (sym told) (refl, tt))
none_in disks (entry ∷ next ∷ before) h are d calm alive room =
    let there : List Moment = asked entry.line entry.event ∷ history (next ∷ before) in
    let d_before = (behind_each DrillAt entry.notes there d).1 in
    let calm_before = (behind_each IsCalmAt entry.notes there calm).1 in
    let alive_before = (behind_each IsAliveAt entry.notes there alive).1 in
    let here = none_counted (reverse entry.notes) (line_taken disks (history (next ∷ before)) entry.line entry.event (reverse entry.notes) are.0 h.0 (ready_of disks (next ∷ before) h.1 are.1 d_before calm_before alive_before) room.0) in
    let rest = none_in disks (next ∷ before) h.1 are.1 d_before calm_before alive_before room.1 in
    let whole = counted-append is_refused (notes_of (next ∷ before)) (reverse entry.notes) in
    omega (arith, here, rest, whole)

none_refused_of : (disks : List Disk) (entries : List Entry) → IsLawfulDrill disks entries → EachMoment IsAliveAt (history entries) → HaveRoom entries → count_by is_refused (notes_of entries) ≡ 0
none_refused_of disks entries lawful alive room =
    let run = lawful.run in none_in disks entries run.brings run.lines (drill_moments disks entries run.brings run.lines) (drills_are_calm disks entries lawful).calm alive room

pub drills_append_all : DrillsAppendAll
drills_append_all = record {
  none_refused = none_refused_of;
  all_appended = λ disks entries lawful alive room. let none = none_refused_of disks entries lawful alive room in let both = appended_or_refused disks entries lawful.run.brings lawful.run.lines in omega (arith, none, both);
}
