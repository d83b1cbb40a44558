-- A run of the machine over the script of a drill keeps the laws that are asked of a drill, so it comes to what a drill comes to; and so does its tally.
use Rattle.std.proofs.Common.{◌≡◌, ◌∙◌, refl, sym, ap, subst, ℕ, zero, suc, true, false, ◌+◌, ◌-◌, ◌*◌, ◌<◌, ◌≤◌, min, List, [], ◌∷◌, ◌++◌, length, map, reverse, slice_index, Option, Some, None, arith}
use Rattle.std.specs.List.{count_by}
use Rattle.std.specs.Prelude.{IfSome}
use Rattle.bus_transactions.specs.Answers.{AreAnswered}
use Rattle.bus_transactions.specs.Judging.{AreJudged}
use Rattle.bus_transactions.specs.Sent.{AreSent}
use Rattle.rbc_disk.specs.Disk.{Disk, blocks_at, disk_at}
use Rattle.rbc_disk.specs.Held.{Held}
use Rattle.sbp_base.specs.Faults.{count_up, last_count}
use Rattle.sbp_journal.specs.Run as journals
use Rattle.sbp_journal.specs.Run.{Moment}
use Rattle.sbp_journal.specs.declared.event.Event.{Event}
use Rattle.sbp_journal.specs.declared.event.Event.TheVariants as events
use Rattle.sbp_journal.specs.declared.note.Note.{Note}
use Rattle.sbp_laws.specs.DiskFold.{failed_runs}
use Rattle.sbp_laws.specs.Lawful.{injectors}
use Rattle.sbp_laws.specs.Targets.{disk_of}
use Rattle.sbp_laws.specs.SentPackets.{SentAt}
use Rattle.sbp_laws.specs.Turns.{EachMoment}
use Rattle.script_text.specs.Drill.{generated, turns}
use Rattle.sbp_world.specs.Completing.Done.{AllRungComplete}
use Rattle.sbp_world.specs.Histories.{history_of}
use Rattle.sbp_world.specs.Lists.LoginUnits.{RunsOnUnits}
use Rattle.sbp_world.specs.Lists.OwnLogins.{IsTame}
use Rattle.sbp_world.specs.Making.{notes_begin}
use Rattle.sbp_world.specs.Runs.{Entry, Run}
use Rattle.sbp_world.specs.Wire.Journal.{journal_entries, journal_run}
use Rattle.sbp_world.proofs.Wire.Entries.{bus_law}
use Rattle.turn_laws.specs.LawfulRuns.{IsLawfulRun}
use Rattle.drill_text.specs.Disks.{SumsUp, absent, failed}
use Rattle.drill_text.specs.Sums.{sum_of_bytes}
use Rattle.drill_text.specs.Tally.{is_append, is_good, is_taken, tally_of}
use Rattle.drill_laws.specs.DrillBlocks.{HasBytes, HoldsLast as BlockHolds}
use Rattle.drill_laws.specs.DrillRuns.{EndsDrill, KeepsLaws, KeepsUnits, NobodyInjects, RunsOverGood}
use Rattle.drill_laws.specs.DrillSettles.{events_said}
use Rattle.drill_laws.specs.DrillWrites.{last_line}
use Rattle.drill_laws.proofs.DrillRests.{runs_rest}
use Rattle.drill_laws.proofs.DrillRuns.{drills_end}
use Rattle.script_runner.specs.Events.{events_in, events_of, journal, notes_in, numbered_from}
use Rattle.sbp_command.specs.Drill.{EndsGood, HoldsLast, IsGoodFirst, SumsFirst, TalliesDrill, TellsBytes}
use Rattle.sbp_command.specs.Machine.{HasRun, IsMachine}

-- ---- the journal of a run of the machine
notes_same : (line : ℕ) (run : Run) (entries : List Entry) → journals.notes_of (journal_entries line run entries) ≡ notes_begin run.initiators run.ready ∷ notes_in entries
notes_same line run [] = refl
notes_same line run (e ∷ before) = ap (λ ns. ns ++ reverse e.notes) (notes_same line run before)

events_same : (line : ℕ) (run : Run) (entries : List Entry) → journals.events_in (journal_entries line run entries) ≡ (line, events.Begin run.initiators run.ready) ∷ events_in entries
events_same line run [] = refl
events_same line run (e ∷ before) = ap (λ es. es ++ (e.line, e.event) ∷ []) (events_same line run before)

unnumbered : (line : ℕ) (lines : List Event) → map (λ (one : ℕ × Event). one.1) (numbered_from line lines) ≡ lines
unnumbered line [] = refl
unnumbered line (event ∷ lines) = ap (λ rest. event ∷ rest) (unnumbered (line + 1) lines)

-- ---- what a drill asks of a run
module _ (line : ℕ) (run : Run) where
  tie : journals.history (journal_run line run).entries ≡ history_of line run
  tie = bus_law.tie line run

  tame : NobodyInjects (journal_run line run) → IsTame (history_of line run)
  tame nobody i = sym (ap (λ past. injectors past i) tie) ∙ nobody i

  keeps_units : run.initiators ≡ 2 → IsLawfulRun line run → IsTame (history_of line run) → KeepsUnits (history_of line run)
  keeps_units two lawful calm = record {
    none_dummy = λ i small plain. lawful.lists.none_dummy i (omega (arith, two, small)) (calm i) plain;
    units = subst (λ n. RunsOnUnits n (history_of line run)) two lawful.lists.units;
  }

  keeps_laws : run.initiators ≡ 2 → IsMachine run → IsLawfulRun line run → (IsTame (history_of line run) → AllRungComplete run.start.disks (journal_run line run).entries) → KeepsLaws (journal_run line run)
  keeps_laws two machine lawful rung = record {
    action = lawful.action;
    packets = subst (EachMoment SentAt) (sym tie) lawful.in_turns.sent.packets;
    judged = subst AreJudged (sym tie) lawful.of_wire.judged;
    sent = subst AreSent (sym tie) lawful.of_wire.sent;
    whole = λ nobody. lawful.whole (tame nobody);
    completes = λ nobody. lawful.completes (omega (arith, two)) (tame nobody);
    answers = record { few = (let size = machine.size in let most = machine.most in omega (arith, size, most)); answered = subst AreAnswered (sym tie) lawful.of_wire.answered };
    rests = runs_rest.rests line run machine.is machine.some machine.most machine.size;
    kept = λ nobody. subst KeepsUnits (sym tie) (keeps_units two lawful (tame nobody));
    rung = λ nobody legal. rung (tame nobody);
  }

-- ---- the run of a drill
begins_two : (run : Run) (rest lines : List Event) → events.Begin run.initiators run.ready ∷ rest ≡ events.Begin 2 true ∷ lines → run.initiators ≡ 2
begins_two run rest lines e = cc e

said_is : {start media : Held} {notes : List Note} (lines : List Event) (ran : HasRun start (numbered_from 1 lines) notes media) → events_said (journal_run ran.line ran.run).entries ≡ lines
said_is lines ran = ap (map (λ (one : ℕ × Event). one.1)) (events_same ran.line ran.run ran.run.entries ∙ ran.events_are) ∙ unnumbered 1 lines

pub drill_ends : (seed count : ℕ) {start media : Held} {notes : List Note} → 1 ≤ count → count ≤ 10000 → (ran : HasRun start (numbered_from 1 (generated seed count)) notes media) → EndsDrill count (journal_run ran.line ran.run)
drill_ends seed zero some few ran = absurd (omega (arith, some))
drill_ends seed (suc count) some few ran =
    let script = generated seed (suc count) in
    let said : events_said (journal_run ran.line ran.run).entries ≡ script = said_is script ran in
    let first : map (λ (one : ℕ × Event). one.1) (events_of ran.line ran.run) ≡ script = ap (map (λ (one : ℕ × Event). one.1)) ran.events_are ∙ unnumbered 1 script in
    let two = begins_two ran.run (map (λ (one : ℕ × Event). one.1) (events_in ran.run.entries)) (turns (suc count) 1 seed) first in
    drills_end.ends seed count (journal_run ran.line ran.run) few
    (keeps_laws ran.line ran.run two ran.machine ran.lawful (λ calm. subst (λ (h : Held). AllRungComplete h.disks (journal_run ran.line ran.run).entries) (sym ran.start_is) (ran.rung calm))) said

-- ---- its tally
module _ (count line : ℕ) (run : Run) (notes : List Note) (e : notes ≡ journal run) (ends : EndsDrill count (journal_run line run)) where
  same : journals.notes_of (journal_run line run).entries ≡ notes
  same = notes_same line run run.entries ∙ sym e

  pub drill_tallied : TalliesDrill count notes
  unfolding tally_of
  drill_tallied = record {
    appended = subst (λ ns. count_by is_append ns ≡ count) same ends.appended;
    taken = subst (λ ns. count_by is_taken ns ≡ count) same ends.taken;
  }

  all_good : RunsOverGood (journal_run line run) → (tally_of notes).good ≡ count
  unfolding tally_of
  all_good over = subst (λ ns. count_by is_good ns ≡ count) same (ends.good over)

-- ---- over a good first unit
record HasFirst (disks : List Disk) : Type 0 where
  first : Disk
  others : List Disk
  is : disks ≡ first ∷ others
  at : disk_at disks 0 ≡ first

first_of : (disks : List Disk) → 0 < length disks → HasFirst disks
first_of [] some = absurd (omega (arith, some))
first_of (disk ∷ disks) some = record { first = disk; others = disks; is = refl; at = refl }

-- a count that did not rise, of a run and of what was read behind it
none_rose : (count last runs : ℕ) → count < last → count + min runs (last - count) ≤ count → runs ≡ 0
none_rose count last runs below most = omega (arith, below, most)

sum_rises : (sum : Option ℕ) (disk : Disk) (before now : ℕ) → SumsUp sum disk before now → before ≤ now
sum_rises (Some sum) disk before now h = let e = h.no_fault in omega (arith, e)
sum_rises None disk before now (absent none e) = omega (arith, e)
sum_rises None disk before now (failed some e) = at_least before (last_count - before) now e
  where
    at_least : (before rest now : ℕ) → now ≡ before + min 1 rest → before ≤ now
    at_least before rest now e = omega (arith, e)

unmoved : (count runs rest : ℕ) → runs ≡ 0 → count + min runs rest ≡ count
unmoved count runs rest none = omega (arith, none)

-- where it did not rise the medium was read whole
read_sum : (sum : Option ℕ) (disk : Disk) (before now : ℕ) → SumsUp sum disk before now → disk.is_present ≡ true → before < last_count → now ≤ before → (bytes : List ℕ) → disk.bytes ≡ Some bytes → sum ≡ Some (sum_of_bytes bytes)
read_sum (Some sum) disk before now h present below most bytes is = ap Some (subst (λ o. IfSome o (λ all. sum ≡ sum_of_bytes all)) is h.sum_is)
read_sum None disk before now (absent none e) present below most bytes is = absurd (let no : false ≡ true = sym none ∙ present in cc no)
read_sum None disk before now (failed some e) present below most bytes is =
    let one = none_rose before last_count 1 below (subst (λ n. n ≤ before) e most) in absurd (omega (arith, one))

module _ {start media : Held} {notes : List Note} (seed count : ℕ) (now : Held) (disk : Option ℕ) (ran : HasRun start (numbered_from 1 (generated seed count)) notes media) (ends : EndsDrill count (journal_run ran.line ran.run)) (sums : SumsFirst disk media now) (good : IsGoodFirst start now) where
  abbrev past : List Moment
  past = history_of ran.line ran.run

  found : HasFirst start.disks
  found = first_of start.disks good.there

  rose : slice_index media.faults 0 ≡ count_up (slice_index start.faults 0) (failed_runs past 0)
  rose = ran.leaves.failures.each 0 good.counted

  none_failed : failed_runs past 0 ≡ 0
  none_failed =
      let own = rose in
      let later = sum_rises disk (disk_at media.disks 0) (slice_index media.faults 0) (slice_index now.faults 0) sums.first in
      let stays = good.stays in
      let most : count_up (slice_index start.faults 0) (failed_runs past 0) ≤ slice_index start.faults 0 = omega (arith, own, later, stays) in
      none_rose (slice_index start.faults 0) last_count (failed_runs past 0) good.below most

  over : RunsOverGood (journal_run ran.line ran.run)
  over = record {
    first = found.first;
    others = found.others;
    is = ap (λ (h : Held). h.disks) ran.start_is ∙ found.is;
    healthy = record {
      started = refl;
      reset = refl;
      changed = refl;
      present = ap (λ (d : Disk). d.is_present) (sym found.at) ∙ good.present;
      open_for_it = ap (λ (d : Disk). d.is_protected) (sym found.at) ∙ good.unprotected;
      room = subst (λ (d : Disk). 64 ≤ d.blocks) found.at good.room;
    };
    unfailed = subst (λ past. failed_runs past 0 ≡ 0) (sym (tie ran.line ran.run)) none_failed;
  }

  -- what is there is what the disk fold gives
  left : disk_at media.disks 0 ≡ disk_of (journal_run ran.line ran.run).start (journals.history (journal_run ran.line ran.run).entries) 0
  left = ran.leaves.disks.each 0 good.there ∙ ap (λ (h : Held). disk_of h.disks past 0) (sym ran.start_is) ∙ ap (λ ms. disk_of ran.run.start.disks ms 0) (sym (tie ran.line ran.run))

  kept : disk_at now.disks 0 ≡ disk_at media.disks 0
  kept = ap (λ ds. disk_at ds 0) sums.disks

  holds : (bytes : List ℕ) → TellsBytes (disk_at start.disks 0) bytes → HoldsLast (generated seed count) bytes (disk_at now.disks 0)
  unfolding over
  holds bytes told =
      let has : HasBytes found.first bytes = record {
        healthy = over.healthy;
        is = ap (λ (d : Disk). d.bytes) (sym found.at) ∙ told.is;
        whole = told.whole ∙ ap (λ (d : Disk). 512 * d.blocks) found.at;
      } in
      let held = ends.blocks over bytes has in
      record {
        bytes = held.bytes;
        is = ap (λ (d : Disk). d.bytes) (kept ∙ left) ∙ held.is;
        size = held.size;
        blocks = λ block.
            subst (λ lines. BlockHolds (last_line 0 block None lines) (last_line 1 block None lines) (blocks_at block 1 bytes) (blocks_at block 1 held.bytes)) (said_is (generated seed count) ran) (held.blocks block);
      }

  summed : (bytes : List ℕ) → (disk_at now.disks 0).bytes ≡ Some bytes → disk ≡ Some (sum_of_bytes bytes)
  summed bytes is =
      let present = ap (λ (d : Disk). d.is_present) left ∙ (ends.well over).healthy.present in
      let runs = none_failed in
      let own : slice_index media.faults 0 ≡ slice_index start.faults 0 = rose ∙ unmoved (slice_index start.faults 0) (failed_runs past 0) (last_count - slice_index start.faults 0) runs in
      let stays = good.stays in
      let below = good.below in
      read_sum disk (disk_at media.disks 0) (slice_index media.faults 0) (slice_index now.faults 0) sums.first present (subst (λ c. c < last_count) (sym own) below) (omega (arith, own, stays)) bytes (ap (λ (d : Disk). d.bytes) (sym kept) ∙ is)

  pub drill_good : EndsGood seed count start now notes disk
  drill_good = record { good = all_good count ran.line ran.run notes ran.notes_are ends over; blocks = holds; summed = summed }
