-- What a drill has done behind its last settle.
use Rattle.std.proofs.Common.{◌≡◌, ◌∙◌, sym, subst, ◌==◌, true, false, cond, List, [], ◌∷◌, map}
use Rattle.rbc_disk.specs.Disk.{Disk}
use Rattle.sbp_journal.specs.Run.{Entry, Moment, asked, history, said}
use Rattle.sbp_journal.specs.declared.event.Event.TheVariants as events
use Rattle.sbp_journal.specs.declared.note.Note.TheVariants as notes
use Rattle.sbp_laws.specs.Budget.{since_reset}
use Rattle.sbp_laws.specs.Completion.{in_the_air}
use Rattle.sbp_laws.specs.ExecutionLaw.{ExecutionAt}
use Rattle.sbp_laws.specs.Lawful.{nobody}
use Rattle.sbp_laws.specs.OnLists.{LawfulOnLists}
use Rattle.sbp_laws.specs.OrderLaw.{OrderAt}
use Rattle.sbp_laws.specs.StatusLaw.{TakenAt, TakesEach}
use Rattle.sbp_laws.specs.Turns.{EachMoment}
use Rattle.sbp_world.specs.Completing.Done.{AllRungComplete, AreDone, NoneFails}
use Rattle.sbp_world.specs.Completing.Sights.{behind_sight}
use Rattle.drill_laws.specs.DrillCalm.{IsLawfulDrill}
use Rattle.drill_laws.specs.DrillDone.{DrillsAreDone, IsDoneDrill, IsStillDrill}
use Rattle.drill_laws.specs.DrillGood.{IsDeathlessAt}
use Rattle.drill_laws.specs.DrillRoom.{TakesAtSettles}
use Rattle.drill_laws.proofs.DrillAir.{turns_before}
use Rattle.drill_laws.proofs.DrillCalm.{lawful_before}
use Rattle.drill_laws.proofs.DrillMoments.{DrillAt, drill_moments}
use Rattle.drill_laws.proofs.DrillRefused.{drills_refuse_little}
use Rattle.drill_laws.proofs.DrillSettles.{drills_settle, each_before}
use Rattle.drill_laws.proofs.DrillTaken.{all_taken}
use Rattle.drill_laws.proofs.DrillFew.{drills_leave_few}
use Rattle.drill_laws.proofs.DrillLabelsLeft.{drills_have_room}
use Rattle.drill_laws.proofs.DrillStuck.{drills_stay_unstuck}

-- ---- a run without its last line
pub lists_before : (disks : List Disk) (entry : Entry) (before : List Entry) → LawfulOnLists nobody disks (history (entry ∷ before)) → LawfulOnLists nobody disks (history before)
lists_before disks entry before l = record {
  order = (each_before (OrderAt nobody) (map said entry.notes) (asked entry.line entry.event ∷ history before) l.order).1;
  execution = (each_before (ExecutionAt nobody disks) (map said entry.notes) (asked entry.line entry.event ∷ history before) l.execution).1;
  status = record {
    taken = (each_before (TakenAt nobody) (map said entry.notes) (asked entry.line entry.event ∷ history before) l.status.taken).1;
    each = turns_before (TakesEach nobody) entry.notes [] (history before) entry.line entry.event l.status.each;
  };
}

-- ---- no agent died in the whole run: its bus was never reset
none_died : (past : List Moment) → EachMoment DrillAt past → NoneFails (since_reset past) → EachMoment IsDeathlessAt past
none_died [] d none = tt
none_died (said (notes.Dead i list cause) ∷ past) d none = absurd none
none_died (said (notes.ManageFailed i cause) ∷ past) d none = absurd none
none_died (said (notes.Reset generation) ∷ past) d none = absurd (let no : false ≡ true = d.0 in cc no)
none_died (said (notes.Begin initiators ready) ∷ past) d none = (tt, subst (EachMoment IsDeathlessAt) (sym d.0.past_is) (tt, tt))
none_died (asked line event ∷ past) d none = (tt, none_died past d.1 none)
none_died (said _ ∷ past) d none = (tt, none_died past d.1 none)

module _ (disks : List Disk) where
  -- ---- where nothing is in flight
  done : (entry : Entry) (before : List Entry) → IsLawfulDrill disks (entry ∷ before) → in_the_air (history (entry ∷ before)) ≡ 0 → AllRungComplete disks (entry ∷ before) → AreDone (history (entry ∷ before))
  done entry before lawful still rung = rung.0 (drills_settle disks (entry ∷ before) lawful.run).quiet.lossless still (drills_leave_few disks (entry ∷ before) lawful)

  -- ---- behind each settle
  takes_each : (entries : List Entry) → IsLawfulDrill disks entries → LawfulOnLists nobody disks (history entries) → AllRungComplete disks entries → TakesAtSettles entries
  takes_each [] lawful lists rung = tt
  takes_each (entry ∷ []) lawful lists rung = (λ settles. (let no : events.Begin 2 true ≡ events.Settle = sym lawful.run.lines ∙ settles in absurd (cc no)), tt)
  takes_each (entry ∷ next ∷ before) lawful lists rung =
      let rest = drills_settle disks (entry ∷ next ∷ before) lawful.run in (
        λ settles. all_taken disks (entry ∷ next ∷ before) lawful lists.order (done entry (next ∷ before) lawful (rest.at_rest settles) rung).taken,
        takes_each (next ∷ before) (lawful_before disks entry next before lawful) (lists_before disks entry (next ∷ before) lists) rung.1,
      )

  -- ---- at the end
  all_done : (entries : List Entry) → IsStillDrill disks entries → IsDoneDrill entries
  all_done [] h = absurd h.lawful.run.lines
  all_done (entry ∷ before) h =
      let entries : List Entry = entry ∷ before in
      let past : List Moment = history entries in
      let run = h.lawful.run in
      let quiet = (drills_settle disks entries run).quiet in
      let end = done entry before h.lawful h.still h.rung in
      let none : NoneFails (since_reset past) = subst (λ b. NoneFails (cond (b == 0) (since_reset past) (behind_sight 0 (since_reset past)))) quiet.bus end.none_fails in
      let living = none_died past (drill_moments disks entries run.brings run.lines) none in
      let takes = takes_each entries h.lawful h.lists h.rung in
      let alive = drills_refuse_little.alive disks entries h.lawful h.lists living (drills_stay_unstuck disks entries h.lawful h.answers) in
      record {
        takes = takes;
        taken = end.taken;
        deathless = living;
        alive = alive;
        room = drills_have_room.room disks entries (record { seed = h.seed; count = h.count; script = h.script; lawful = h.lawful; lists = h.lists; alive = alive; takes = takes; rests = h.rests });
      }

pub drills_are_done : DrillsAreDone
drills_are_done = record { done = all_done }
