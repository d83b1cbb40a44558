-- A script of `tasks` is run line by line: what the task world stands for goes on.
use Rattle.std.proofs.Common.{◌≡◌, ◌∙◌, refl, sym, ap, subst, ℕ, zero, suc, true, ◌+◌, ◌≤◌, List, [], ◌∷◌, ◌++◌, length, map, reverse, Option, Some, None, Ok, append_assoc, append-nil, arith}
use Rattle.std.specs.Prelude.{slice_index, slice_index_or, slice_set}
use Rattle.std.specs.List.{AllByRecursion}
use Rattle.std.proofs.lemmas.List.Concat.{flat_map-append}
use Rattle.rbc_disk.specs.Disk.{Disk, disk_at}
use Rattle.rbc_disk.specs.Held.{Held, held}
use Rattle.sbp_journal.specs.declared.event.Event.{Event}
use Rattle.sbp_journal.specs.Text.{note_text, text_of}
use Rattle.sbp_journal.specs.Written.{IsTyped}
use Rattle.sbp_world.specs.Making.{notes_begin}
use Rattle.sbp_world.specs.Runs.{entry, with_entry}
use Rattle.sbp_world.specs.Wire.Lines.{IsLine}
use Rattle.script_text.specs.Script.{initiators_after}
use Rattle.script_runner.specs.Events.{MayLeave, journal}
use Rattle.script_runner.specs.Script.{begun_by}
use Rattle.script_runner.proofs.Running.{may_leave, same_initiators, served_few}
use Rattle.script_runner.proofs.ScriptLines.{begun_by-more}
use Rattle.task_world.specs.Lines.{IsTaskEvent, TaskHappens}
use Rattle.task_world.specs.Making.{new_task_world}
use Rattle.task_world.specs.Runs.{first_run}
use Rattle.task_world.specs.Worlds.{TaskWorldState}
use Rattle.task_world.proofs.Standing.{begins, goes_on}
use Rattle.sbp_command.specs.TaskLines.{heard, of_lines, says}
use Rattle.task_world.specs.Media.{first_of}
use Rattle.sbp_command.specs.TaskRunner.{InRun, KeepsOthers, MayHappenIn, RanSo, Stands, beginning_event, initiators_in, scene_of, with_first}
use Rattle.sbp_command.proofs.TaskScripts.{says-within, served-more}

-- ---- the media

set_same : {A : Type 0} (xs : List A) (x : A) → slice_set xs 0 (slice_index_or xs 0 x) ≡ xs
set_same [] x = refl
set_same (y ∷ xs) x = refl

set_count : (counts : List ℕ) → slice_set counts 0 (slice_index counts 0) ≡ counts
set_count [] = refl
set_count (n ∷ counts) = refl

pub set_twice : {A : Type 0} (xs : List A) (x y : A) → slice_set (slice_set xs 0 x) 0 y ≡ slice_set xs 0 y
set_twice [] x y = refl
set_twice (z ∷ xs) x y = refl

pub keeps_all : (media : Held) → KeepsOthers media media
keeps_all media =
    sym (ap (λ ds. held ds (slice_set media.faults 0 (slice_index media.faults 0))) (set_same media.disks _) ∙ ap (held media.disks) (set_count media.faults))

twice : (first second : Disk) (count more : ℕ) (start : Held) → with_first second more (with_first first count start) ≡ with_first second more start
twice first second count more start =
    ap (λ ds. held ds (slice_set (slice_set start.faults 0 count) 0 more)) (set_twice start.disks first second) ∙ ap (held (slice_set start.disks 0 second)) (set_twice start.faults count more)

keeps_more : (start old media : Held) → KeepsOthers start old → KeepsOthers old media → KeepsOthers start media
keeps_more start old media h k =
    let second = disk_at media.disks 0 in
    let more = slice_index media.faults 0 in
    k ∙ ap (with_first second more) h ∙ twice (disk_at old.disks 0) second (slice_index old.faults 0) more start

-- the medium of unit 0 alone changed, and its count did not fall
pub keeps_by : (disks later : List Disk) (faults counts : List ℕ) → later ≡ slice_set disks 0 (disk_at later 0) → counts ≡ slice_set faults 0 (slice_index counts 0) → KeepsOthers (held disks faults) (held later counts)
keeps_by disks later faults counts d c = ap (λ ds. held ds counts) d ∙ ap (held (slice_set disks 0 (disk_at later 0))) c

rises : (faults : List ℕ) (count unit : ℕ) → slice_index faults 0 ≤ count → slice_index faults unit ≤ slice_index (slice_set faults 0 count) unit
rises [] count unit h = omega arith
rises (n ∷ faults) count zero h = h
rises (n ∷ faults) count (suc unit) h = omega arith

pub leaves_by : {A : Type 0} (f : A → Disk) (xs ys : List A) (faults counts : List ℕ) → length ys ≡ length xs → counts ≡ slice_set faults 0 (slice_index counts 0) → slice_index faults 0 ≤ slice_index counts 0 → MayLeave (held (map f xs) faults) (held (map f ys) counts)
leaves_by f xs ys faults counts e c h =
    may_leave f xs ys faults counts e (record { each = λ unit. subst (λ (ns : List ℕ). slice_index faults unit ≤ slice_index ns unit) (sym c) (rises faults (slice_index counts 0) unit h) })

-- ---- how a run begins

-- no line was run
pub fresh : (disks : List Disk) (faults : List ℕ) → RanSo (held disks faults) [] [] None (held disks faults)
fresh disks faults = record {
  count = omega arith;
  clean = refl;
  initiators = refl;
  stands = record { events_are = refl; text_is = refl; media_are = refl };
}

begun_so : (start media : Held) (happened : List (ℕ × Event)) (front out next : List ℕ) (number : ℕ) → next ≡ out ++ text_of (notes_begin 1 true ∷ []) → Stands start happened (front ++ out) None media
    → InRun start (happened ++ (number, beginning_event) ∷ []) (front ++ next) new_task_world media
begun_so start media happened front out next number e h = record {
  line = number;
  run = first_run (first_of media);
  start_is = ap first_of h.media_are;
  events_are = ap (λ es. es ++ (number, beginning_event) ∷ []) (sym h.events_are);
  text_is = ap (λ t. front ++ t) e ∙ sym (append_assoc front out _) ∙ ap (λ t. t ++ text_of (notes_begin 1 true ∷ [])) h.text_is;
  stands = begins (first_of media);
  others = subst (λ s. KeepsOthers s media) h.media_are (keeps_all media);
  lines = tt;
  typed = tt;
}

pub began : (before after : Option TaskWorldState) (start media : Held) (happened : List (ℕ × Event)) (front out next : List ℕ) (number : ℕ) (event : Event) → before ≡ None → after ≡ Some new_task_world → MayHappenIn before event → next ≡ out ++ text_of (notes_begin 1 true ∷ [])
    → Stands start happened (front ++ out) before media → Stands start (happened ++ (number, event) ∷ []) (front ++ next) after media
began before after start media happened front out next number event none a may e h =
    let is : event ≡ beginning_event = subst (λ o. MayHappenIn o event) none may in
    subst (λ o. Stands start (happened ++ (number, event) ∷ []) (front ++ next) o media) (sym a)
    (subst (λ ev. InRun start (happened ++ (number, ev) ∷ []) (front ++ next) new_task_world media) (sym is)
    (begun_so start media happened front out next number e (subst (λ o. Stands start happened (front ++ out) o media) none h)))

pub began_initiators : (before after : Option TaskWorldState) (event : Event) → before ≡ None → after ≡ Some new_task_world → MayHappenIn before event → initiators_in after ≡ initiators_after (initiators_in before) (Ok (Some event))
began_initiators before after event none a may =
    let is : event ≡ beginning_event = subst (λ o. MayHappenIn o event) none may in
    ap initiators_in a ∙ ap (λ ev. initiators_after (initiators_in before) (Ok (Some ev))) (sym is)

-- ---- one more event

-- a task world goes on
pub went_on : (start old media : Held) (happened : List (ℕ × Event)) (front out next : List ℕ) (number : ℕ) (event : Event) (w v : TaskWorldState) → TaskHappens number event (scene_of w old) (scene_of v media) → next ≡ out ++ text_of (reverse v.world.fresh) → AllByRecursion IsTyped v.world.fresh
    → IsTaskEvent event × IsLine event 1 → KeepsOthers old media → InRun start happened (front ++ out) w old → InRun start (happened ++ (number, event) ∷ []) (front ++ next) v media
went_on start old media happened front out next number event w v k e t may others h = record {
  line = h.line;
  run = with_entry h.run (entry number event k.told v.world.fresh);
  start_is = h.start_is;
  events_are = ap (λ es. es ++ (number, event) ∷ []) h.events_are;
  text_is = ap (λ t. front ++ t) e ∙ sym (append_assoc front out _) ∙ ap (λ t. t ++ text_of (reverse v.world.fresh)) h.text_is ∙ sym (flat_map-append note_text (journal h.run) (reverse v.world.fresh));
  stands = goes_on h.run number event (scene_of w old) (scene_of v media) h.stands may.0 k;
  others = keeps_more start old media h.others others;
  lines = (may.1, h.lines);
  typed = (t, h.typed);
}

-- ---- the runner

-- the world that the runner has
pub opened_stands : (now o : Option TaskWorldState) (w : TaskWorldState) (start : Held) (happened : List (ℕ × Event)) (text : List ℕ) (media : Held) → now ≡ o → o ≡ Some w → Stands start happened text now media → InRun start happened text w media
opened_stands now o w start happened text media v e h = subst (λ x. Stands start happened text x media) (v ∙ e) h

pub opened_may : (now o : Option TaskWorldState) (w : TaskWorldState) (event : Event) → now ≡ o → o ≡ Some w → MayHappenIn now event → IsTaskEvent event × IsLine event 1
opened_may now o w event v e h = subst (λ x. MayHappenIn x event) (v ∙ e) h

pub went_initiators : (now o : Option TaskWorldState) (w : TaskWorldState) (event : Event) → now ≡ o → o ≡ Some w → MayHappenIn now event → 1 ≡ initiators_after (initiators_in now) (Ok (Some event))
went_initiators now o w event v e h =
    sym (ap (λ x. initiators_after (initiators_in x) (Ok (Some event))) (v ∙ e) ∙ same_initiators 1 1 event (opened_may now o w event v e h).0.fits)

-- ---- one more line

-- the event of a line was run
pub ran_event : (start old media : Held) (served : List (List ℕ)) (line front out next : List ℕ) (before after : Option TaskWorldState) (number : ℕ) (event : Event) → number ≡ 1 + length served → number ≤ 65536
    → heard (initiators_in before) line ≡ Ok (Some event) → initiators_in after ≡ initiators_after (initiators_in before) (Ok (Some event))
    → ((start : Held) (happened : List (ℕ × Event)) (front : List ℕ) → Stands start happened (front ++ out) before old → Stands start (happened ++ (number, event) ∷ []) (front ++ next) after media)
    → RanSo start served (front ++ out) before old → RanSo start (served ++ line ∷ []) (front ++ next) after media
ran_event start old media served line front out next before after number event e few read grown stands h =
    let here : says (1 + length served) (begun_by 0 (of_lines served).events) line ≡ Ok (Some event)
    = says-within (1 + length served) (begun_by 0 (of_lines served).events) line (omega (arith, e, few)) ∙ ap (λ n. heard n line) (sym h.initiators) ∙ read in
    let found = served-more served line (Some event) h.clean here in
    let behind : (of_lines (served ++ line ∷ [])).events ≡ (of_lines served).events ++ (number, event) ∷ []
    = ap (λ s. s.events) found ∙ ap (λ n. (of_lines served).events ++ (n, event) ∷ []) (sym e) in
    record {
      count = served_few served line number e few;
      clean = ap (λ s. s.fault) found;
      initiators = grown ∙ ap (λ n. initiators_after n (Ok (Some event))) h.initiators ∙ sym (begun_by-more 0 (of_lines served).events (number, event)) ∙ ap (begun_by 0) (sym behind);
      stands = subst (λ es. Stands start es (front ++ next) after media) (sym behind) (stands start (of_lines served).events front h.stands);
    }

-- a line said nothing
pub ran_nothing : (start media : Held) (served : List (List ℕ)) (line text : List ℕ) (state : Option TaskWorldState) (number : ℕ) → number ≡ 1 + length served → number ≤ 65536
    → heard (initiators_in state) line ≡ Ok None → RanSo start served text state media → RanSo start (served ++ line ∷ []) text state media
ran_nothing start media served line text state number e few read h =
    let here : says (1 + length served) (begun_by 0 (of_lines served).events) line ≡ Ok None
    = says-within (1 + length served) (begun_by 0 (of_lines served).events) line (omega (arith, e, few)) ∙ ap (λ n. heard n line) (sym h.initiators) ∙ read in
    let found = served-more served line None h.clean here in
    let behind : (of_lines (served ++ line ∷ [])).events ≡ (of_lines served).events
    = ap (λ s. s.events) found ∙ append-nil (of_lines served).events in
    record {
      count = served_few served line number e few;
      clean = ap (λ s. s.fault) found;
      initiators = h.initiators ∙ ap (begun_by 0) (sym behind);
      stands = subst (λ es. Stands start es text state media) (sym behind) h.stands;
    }
