-- A slot is free for each line of a drill that appends, where its settles leave nothing untaken: behind one an initiator has one slot taken at most, and each line behind it takes one more at most.
use Rattle.std.proofs.Common.{◌≡◌, refl, sym, ap, subst, ℕ, ◌+◌, ◌<◌, ◌≤◌, ◌==◌, Bool, true, false, cond, List, [], ◌∷◌, ◌++◌, map, reverse, arith}
use Rattle.std.specs.List.{count_by}
use Rattle.rbc_disk.specs.Disk.{Disk}
use Rattle.sbp_journal.specs.Run.{Entry, Moment, asked, history, said}
use Rattle.sbp_journal.specs.declared.event.Event.{Event}
use Rattle.sbp_journal.specs.declared.event.Event.TheVariants as events
use Rattle.sbp_journal.specs.declared.event.Action.TheVariants as actions
use Rattle.sbp_journal.specs.declared.note.Note.{Note}
use Rattle.sbp_journal.specs.declared.note.Note.TheVariants as notes
use Rattle.sbp_laws.specs.ActionLaw.{Brings, BringsEach}
use Rattle.sbp_laws.specs.Lawful.{nobody}
use Rattle.sbp_laws.specs.Lists.{slots}
use Rattle.sbp_laws.specs.OrderLaw.{OrderAt, OrderLaw}
use Rattle.sbp_laws.specs.Turns.{EachMoment}
use Rattle.drill_text.specs.Tally.{is_append}
use Rattle.drill_laws.specs.DrillCalm.{IsCalmAt}
use Rattle.drill_laws.specs.DrillLines.{AreDrillLines, IsDrillLine}
use Rattle.drill_laws.specs.DrillRefused.{IsAliveAt}
use Rattle.drill_laws.specs.DrillRoom.{DrillsHaveSlots, HasSlotFor, HaveSlots, IsTakenDrill, TakesAtSettles}
use Rattle.drill_laws.specs.DrillSettles.{events_said}
use Rattle.drill_laws.specs.DrillSlots.{prepared_by, taken_slots}
use Rattle.drill_laws.proofs.DrillCalm.{drills_are_calm}
use Rattle.drill_laws.proofs.DrillCounts.{counted-cons, counted-reverse, line_appends}
use Rattle.drill_laws.proofs.DrillLists.{all_first}
use Rattle.drill_laws.proofs.DrillMoments.{drill_moments}
use Rattle.drill_laws.proofs.DrillPending.{StayFew, few_before, few_now, generated_few, pending, pending_with, stepped}
use Rattle.drill_laws.proofs.DrillReady.{behind_each}
use Rattle.drill_laws.proofs.DrillRefused.{all_linked}
use Rattle.drill_laws.proofs.DrillSits.{one_taken}
use Rattle.drill_laws.proofs.DrillSlots.{slots_law}

-- ---- the notes of a line
prepared_most : (i : ℕ) (note : Note) → prepared_by i note ≤ cond (is_append note) 1 0
prepared_most i (notes.Append j n k cdb buffer) = by (j == i)
  where
    by : (b : Bool) → cond {A = ℕ} b 1 0 ≤ 1
    by true = omega arith
    by false = omega arith
prepared_most i _ = omega arith

told_risen : (told : List Note) (past : List Moment) (i : ℕ) → taken_slots (slots (map said told ++ past) i) ≤ taken_slots (slots past i) + count_by is_append told
told_risen [] past i = omega arith
told_risen (note ∷ told) past i =
    let one = slots_law.rise (map said told ++ past) note i in
    let here = prepared_most i note in
    let counted = counted-cons is_append note told in
    let rest = told_risen told past i in
    omega (arith, one, here, counted, rest)

-- ---- what is known of a run
record IsSuch (disks : List Disk) (entries : List Entry) : Type 0 where
  brings : BringsEach disks entries
  lines : AreDrillLines entries
  order : OrderLaw nobody (history entries)
  calm : EachMoment IsCalmAt (history entries)
  alive : EachMoment IsAliveAt (history entries)
  takes : TakesAtSettles entries

such_before : (disks : List Disk) (entry next : Entry) (before : List Entry) → IsSuch disks (entry ∷ next ∷ before) → IsSuch disks (next ∷ before)
such_before disks entry next before s =
    let there : List Moment = asked entry.line entry.event ∷ history (next ∷ before) in
    record {
      brings = s.brings.1;
      lines = s.lines.1;
      order = (behind_each (OrderAt nobody) entry.notes there s.order).1;
      calm = (behind_each IsCalmAt entry.notes there s.calm).1;
      alive = (behind_each IsAliveAt entry.notes there s.alive).1;
      takes = s.takes.1;
    }

abbrev count_of : List Entry → ℕ
count_of entries = pending 0 (events_said entries)

-- ---- each line
abbrev TakesMost : List Entry → (i most : ℕ) → Type 0
TakesMost entries i most = taken_slots (slots (history entries) i) ≤ 1 + most

line_taken : (disks : List Disk) (entry next : Entry) (before : List Entry) (event : Event) → entry.event ≡ event → IsDrillLine event → IsSuch disks (entry ∷ next ∷ before) → (i : ℕ)
    → TakesMost (next ∷ before) i (count_of (next ∷ before)) → TakesMost (entry ∷ next ∷ before) i (stepped (count_of (next ∷ before)) event)
line_taken disks entry next before (events.Act j (actions.Append cmd)) e is s i was =
    let past : List Moment = history (next ∷ before) in
    let brings = subst (λ v. Brings disks past entry.line v (reverse entry.notes)) e s.brings.0 in
    let one = line_appends disks past entry.line (events.Act j (actions.Append cmd)) entry.notes is brings in
    let risen = told_risen entry.notes (asked entry.line entry.event ∷ past) i in
    omega (arith, one, risen, was)
line_taken disks entry next before events.Settle e is s i was =
    let entries : List Entry = entry ∷ next ∷ before in
    one_taken (history entries) (all_first disks entries s.brings s.lines s.calm) s.order s.calm s.alive (drill_moments disks entries s.brings s.lines) (all_linked disks entries s.brings s.lines) (s.takes.0 e) i
line_taken disks entry next before _ e is s i was = absurd is

slots_taken : (disks : List Disk) (entries : List Entry) → IsSuch disks entries → (i : ℕ) → taken_slots (slots (history entries) i) ≤ 1 + count_of entries
slots_taken disks [] s i = absurd s.lines
slots_taken disks (entry ∷ []) s i =
    let told : reverse entry.notes ≡ notes.Begin 2 true ∷ [] = subst (λ v. Brings disks [] entry.line v (reverse entry.notes)) s.lines s.brings.0 in
    let none : count_by is_append (reverse entry.notes) ≡ 0 = ap (count_by is_append) told in
    let back = counted-reverse is_append entry.notes in
    let risen = told_risen entry.notes (asked entry.line entry.event ∷ []) i in
    let new : taken_slots (slots [] i) ≡ 0 = refl in
    omega (arith, none, back, risen, new)
slots_taken disks (entry ∷ next ∷ before) s i =
    let one = line_taken disks entry next before entry.event refl s.lines.0 s i (slots_taken disks (next ∷ before) (such_before disks entry next before s) i) in
    let with = pending_with entry (next ∷ before) in
    omega (arith, one, with)

-- ---- so there is room
event_room : (past : List Moment) (event : Event) → ((i : ℕ) → taken_slots (slots past i) < 32) → HasSlotFor past event
event_room past (events.Act i (actions.Append cmd)) few = slots_law.room past i (few i)
event_room past _ few = tt

have_slots : (disks : List Disk) (entries : List Entry) → IsSuch disks entries → StayFew 0 (events_said entries) → HaveSlots entries
have_slots disks [] s few = tt
have_slots disks (entry ∷ []) s few = (subst (HasSlotFor []) (sym s.lines) tt, tt)
have_slots disks (entry ∷ next ∷ before) s few =
    let such = such_before disks entry next before s in
    let few_then = few_before entry (next ∷ before) few in
    let most = few_now 0 (events_said (next ∷ before)) few_then in
    (event_room (history (next ∷ before)) entry.event (λ i. (let taken = slots_taken disks (next ∷ before) such i in omega (arith, taken, most))), have_slots disks (next ∷ before) such few_then)

slots_free : (disks : List Disk) (entries : List Entry) → IsTakenDrill disks entries → HaveSlots entries
slots_free disks entries t =
    let run = t.lawful.run in
    have_slots disks entries (record { brings = run.brings; lines = run.lines; order = t.lists.order; calm = (drills_are_calm disks entries t.lawful).calm; alive = t.alive; takes = t.takes })
    (subst (StayFew 0) (sym t.script) (generated_few t.seed t.count))

pub drills_have_slots : DrillsHaveSlots
drills_have_slots = record { free = slots_free }
