-- A run over the generated script is a drill, and ends as one.
use Rattle.std.proofs.Common.{◌≡◌, ◌∙◌, ◌⊎◌, inl, inr, refl, sym, ap, subst, ℕ, suc, ◌≤◌, true, List, [], ◌∷◌, ◌++◌, Option, Some, None, arith}
use Rattle.std.specs.List.{AllByRecursion}
use Rattle.rbc_disk.specs.Disk.{Disk, blocks_at}
use Rattle.sbp_journal.specs.Run.{Entry, Run, history}
use Rattle.sbp_journal.specs.declared.event.Event.{Event}
use Rattle.sbp_journal.specs.declared.event.Event.TheVariants as events
use Rattle.sbp_laws.specs.Completion.{in_the_air}
use Rattle.sbp_laws.specs.Lawful.{Lawful}
use Rattle.sbp_laws.specs.OnLists.{LawfulOnLists}
use Rattle.sbp_laws.specs.Lawful.{nobody}
use Rattle.script_text.specs.Drill.{generated, turns}
use Rattle.drill_laws.specs.DrillBlocks.{HoldsLast, KeepsBlocks, last_of_its}
use Rattle.drill_laws.specs.DrillCalm.{IsLawfulDrill}
use Rattle.drill_laws.specs.DrillGood.{KeepsLists, RanWell}
use Rattle.drill_laws.specs.DrillLines.{AreDrillLines, IsDrillLine, append_lines}
use Rattle.drill_laws.specs.DrillRan.{RunsWell}
use Rattle.drill_laws.specs.DrillRuns.{DrillsEnd, EndsDrill, KeepsLaws, NobodyInjects, RunsOverGood}
use Rattle.drill_laws.specs.DrillScripts.{last_of}
use Rattle.drill_laws.specs.DrillSettles.{IsDrillRun, RestsBehind, events_said}
use Rattle.drill_laws.specs.DrillWrites.{HoldsLines, last_line}
use Rattle.drill_laws.proofs.DrillBlocks.{drills_write_blocks}
use Rattle.drill_laws.proofs.DrillCalm.{drills_are_calm}
use Rattle.drill_laws.proofs.DrillDone.{drills_are_done}
use Rattle.drill_laws.proofs.DrillGood.{drills_are_good}
use Rattle.drill_laws.proofs.DrillLegal.{all_legal}
use Rattle.drill_laws.proofs.DrillMoments.{drill_moments}
use Rattle.drill_laws.proofs.DrillRan.{all_commands, drills_run_well}
use Rattle.drill_laws.proofs.DrillRoom.{drills_append_all}
use Rattle.drill_laws.proofs.DrillRung.{rung_up}
use Rattle.drill_laws.proofs.DrillScripts.{last-append, said_with, scripts_are_drills}
use Rattle.drill_laws.proofs.DrillSettles.{drills_settle}
use Rattle.drill_laws.proofs.DrillTaken.{drills_take_all}
use Rattle.drill_laws.proofs.DrillThere.{none_dummied, ran_there, ran_well, undummied}
use Rattle.drill_laws.proofs.DrillWire.{drills_are_quiet}
use Rattle.drill_laws.proofs.DrillWrites.{lines_write_blocks}

-- ---- the lines of a run

all_front : (xs : List Event) (event : Event) → AllByRecursion IsDrillLine (xs ++ event ∷ []) → AllByRecursion IsDrillLine xs × IsDrillLine event
all_front [] event all = (tt, all.0)
all_front (x ∷ xs) event all = let rest = all_front xs event all.1 in ((all.0, rest.0), rest.1)

-- without the last one
record IsFront (xs : List Event) (event : Event) : Type 0 where
  lines : List Event
  is : xs ≡ events.Begin 2 true ∷ lines
  all : AllByRecursion IsDrillLine lines
  last : IsDrillLine event

split : (xs : List Event) (event : Event) (lines : List Event) → xs ++ event ∷ [] ≡ events.Begin 2 true ∷ lines → AllByRecursion IsDrillLine lines → (xs ≡ []) ⊎ IsFront xs event
split [] event lines e all = inl refl
split (x ∷ xs) event lines e all =
    let head : x ≡ events.Begin 2 true = cc e in
    let tail : xs ++ event ∷ [] ≡ lines = cc e in
    let parts = all_front xs event (subst (AllByRecursion IsDrillLine) (sym tail) all) in
    inr (record { lines = xs; is = ap (λ y. y ∷ xs) head; all = parts.0; last = parts.1 })

none_said : {A : Type 0} (entry : Entry) (before : List Entry) → events_said (entry ∷ before) ≡ [] → A
none_said entry before e = by (events_said before) (sym (said_with entry before) ∙ e)
  where
    by : {A : Type 0} (xs : List Event) → xs ++ entry.event ∷ [] ≡ [] → A
    by [] e = absurd (cc e)
    by (x ∷ xs) e = absurd (cc e)

lines_are : (entries : List Entry) (lines : List Event) → events_said entries ≡ events.Begin 2 true ∷ lines → AllByRecursion IsDrillLine lines → AreDrillLines entries
lines_are [] lines e all = absurd (cc e)
lines_are (entry ∷ []) lines e all = cc e
lines_are (entry ∷ next ∷ before) lines e all = by (split (events_said (next ∷ before)) entry.event lines (sym (said_with entry (next ∷ before)) ∙ e) all) (lines_are (next ∷ before))
  where
    by : (events_said (next ∷ before) ≡ []) ⊎ IsFront (events_said (next ∷ before)) entry.event → ((lines : List Event) → events_said (next ∷ before) ≡ events.Begin 2 true ∷ lines → AllByRecursion IsDrillLine lines → AreDrillLines (next ∷ before)) → IsDrillLine entry.event × AreDrillLines (next ∷ before)
    by (inl none) rest = none_said next before none
    by (inr front) rest = (front.last, rest front.lines front.is front.all)

-- ---- its last line
some_event : (a b : Event) → Some a ≡ Some b → a ≡ b
some_event a b e = cc e

last_begins : (rest : List Event) (event : Event) → last_of rest ≡ Some event → last_of (events.Begin 2 true ∷ rest) ≡ Some event
last_begins [] event e = absurd (cc e)
last_begins (x ∷ rest) event e = e

rests : (entries : List Entry) (lines : List Event) → events_said entries ≡ events.Begin 2 true ∷ lines → last_of lines ≡ Some events.Settle → RestsBehind entries → in_the_air (history entries) ≡ 0
rests [] lines e last r = absurd (cc e)
rests (entry ∷ before) lines e last r =
    let own : last_of (events_said (entry ∷ before)) ≡ Some entry.event = ap last_of (said_with entry before) ∙ last-append (events_said before) entry.event [] in
    let settles : Some entry.event ≡ Some events.Settle = sym own ∙ ap last_of e ∙ last_begins lines events.Settle last in
    r (some_event entry.event events.Settle settles)

-- ---- its blocks
by_lines : (disks : List Disk) (start : List ℕ) (entries : List Entry) → ((i block : ℕ) → last_of_its (history entries) i block ≡ last_line i block None (events_said entries)) → KeepsBlocks disks start (history entries) → HoldsLines disks start entries
by_lines disks start entries same kept = record {
  bytes = kept.bytes;
  is = kept.is;
  size = kept.size;
  blocks = λ block.
      let Holds : Option (List ℕ) → Option (List ℕ) → Type 0 = λ first second. HoldsLast first second (blocks_at block 1 start) (blocks_at block 1 kept.bytes) in
      let second = subst (Holds (last_of_its (history entries) 0 block)) (same 1 block) (kept.blocks block) in
      subst (λ first. Holds first (last_line 1 block None (events_said entries))) (same 0 block) second;
}

-- ---- all of it
ends_so : (seed count : ℕ) (run : Run) → suc count ≤ 10000 → KeepsLaws run → events_said run.entries ≡ generated seed (suc count) → EndsDrill (suc count) run
ends_so seed count run few keeps events_are =
    let entries = run.entries in
    let script = turns (suc count) 1 seed in
    let lines = lines_are entries script events_are (scripts_are_drills.lines (suc count) 1 seed) in
    let begun : append_lines (events_said entries) ≡ append_lines (events.Begin 2 true ∷ script) = ap append_lines events_are in
    let rest_of = scripts_are_drills.appends (suc count) 1 seed in
    let appends : append_lines (events_said entries) ≡ suc count = omega (arith, begun, rest_of) in
    let quiet = drills_are_quiet run.start entries lines keeps.action.brings keeps.packets keeps.judged in
    let nobody_injects : NobodyInjects run = λ i. quiet.nobody_injects (suc i) in
    let lawful : Lawful run = keeps.whole nobody_injects in
    let drill : IsDrillRun run.start entries = record {
      lines = lines;
      few = omega (arith, appends, few);
      brings = keeps.action.brings;
      packets = keeps.packets;
      requests = lawful.moments.sent.requests;
      judged = keeps.judged;
      settles = (keeps.completes nobody_injects).settles;
    } in
    let whole : IsLawfulDrill run.start entries = record {
      run = drill;
      sent = keeps.sent;
      answers = lawful.moments.sent.answers;
      causes = lawful.moments.cause.causes;
      logins = lawful.moments.login;
      judges = lawful.moments.judgement;
      asked = lawful.moments.sent.asked;
      pushes = lawful.moments.media;
    } in
    let lists : LawfulOnLists nobody run.start (history entries) = record { order = lawful.moments.order; execution = lawful.moments.execution; status = lawful.moments.status } in
    let keeps_lists : KeepsLists run.start (history entries) = record { lists = lists; form = lawful.moments.form; aborted = lawful.moments.cause.aborted } in
    let past = history entries in
    let moments = drill_moments run.start entries keeps.action.brings lines in
    let rest = drills_settle run.start entries drill in
    let still = rests entries script events_are (scripts_are_drills.settles count 1 seed) rest.at_rest in
    let legal = all_legal past moments in
    let done = drills_are_done.done run.start entries
    (record { seed = seed; count = suc count; script = events_are; lawful = whole; lists = lists; answers = keeps.answers; rests = keeps.rests; rung = keeps.rung nobody_injects legal; still = still }) in
    let none = drills_append_all.none_refused run.start entries whole done.alive done.room in
    let appended = drills_append_all.all_appended run.start entries whole done.alive done.room ∙ appends in
    let taken = drills_take_all run.start entries whole lists done.taken ∙ appended in
    let inside = (rung_up run.start entries keeps.action.brings lines).inside in
    let kept = keeps.kept nobody_injects in
    let there = ran_there run.start past moments keeps.packets keeps.judged inside lists.order lists.execution kept.units in
    let none_dummy = none_dummied past (all_commands run.start entries keeps.action.brings lines) in
    let plain = undummied past inside lists.order (kept.none_dummy 0 (omega arith) (none_dummy 0)) (kept.none_dummy 1 (omega arith) (none_dummy 1)) in
    let well : RunsOverGood run → RunsWell run.start past = λ over.
    subst (λ disks. RunsWell disks past) (sym over.is)
    (drills_run_well.well over.first over.others entries (subst (λ disks. IsLawfulDrill disks entries) over.is whole) (subst (λ disks. LawfulOnLists nobody disks past) over.is lists) over.healthy (there over.unfailed)) in
    let all_well : RunsOverGood run → RanWell past = λ over. ran_well past done.deathless plain (well over).unchecked in
    record {
      appended = appended;
      refused = none;
      taken = taken;
      quiet = quiet;
      settled = rest.settled;
      still = still;
      calm = drills_are_calm run.start entries whole;
      deathless = done.deathless;
      legal = legal;
      there = there;
      well = well;
      good = λ over. drills_are_good.good run.start entries whole keeps_lists (all_well over) ∙ taken;
      blocks = λ over start has.
          let both : IsLawfulDrill (over.first ∷ over.others) entries × KeepsLists (over.first ∷ over.others) past = subst (λ disks. IsLawfulDrill disks entries × KeepsLists disks past) over.is (whole, keeps_lists) in
          let kept_there = drills_write_blocks.blocks over.first over.others entries both.0 both.1 start has (record { there = there over.unfailed; well = all_well over; taken = done.taken }) in
          subst (λ disks. HoldsLines disks start entries) (sym over.is) (by_lines (over.first ∷ over.others) start entries (lines_write_blocks.lines run.start entries whole none) kept_there);
    }

pub drills_end : DrillsEnd
drills_end = record { ends = ends_so }
