-- The media of a run of the task machine are those of its notes.
use Rattle.std.proofs.Common.{◌≡◌, ◌∙◌, refl, sym, ap, subst, ℕ, ◌+◌, false, List, [], ◌∷◌, ◌++◌, map, Option, Some, None}
use Rattle.std.specs.Prelude.{slice_index, slice_set}
use Rattle.async_packet.specs.Labels.{LabelParts}
use Rattle.rbc_disk.specs.Disk.{Disk, disk_at}
use Rattle.rbc_disk.specs.Held.{Held, held}
use Rattle.rbc_disk.specs.Runs.{Told, check_in}
use Rattle.sbp_journal.specs.declared.event.Event.{Event}
use Rattle.sbp_journal.specs.declared.note.Note.{Note}
use Rattle.sbp_journal.specs.declared.note.Note.TheVariants as notes
use Rattle.sbp_journal.specs.declared.outbox.Outgoing.{Outgoing}
use Rattle.sbp_journal.specs.declared.side.Side.{Side}
use Rattle.sbp_journal.specs.declared.side.Side.TheVariants as sides
use Rattle.sbp_journal.specs.Outgoings.{OutboxState}
use Rattle.sbp_journal.specs.Run.{Moment, asked as asked_of, said}
use Rattle.sbp_bus.specs.declared.places.Holder.{Holder}
use Rattle.sbp_bus.specs.Generations.{node_of}
use Rattle.sbp_bus.specs.Places.{holder_at, opened_by, opened_step, place_in}
use Rattle.sbp_world.specs.Handing.{handed_out}
use Rattle.sbp_world.specs.Histories.{history_of, moments_behind, notes_behind}
use Rattle.sbp_world.specs.Making.{new_world, notes_begin}
use Rattle.sbp_world.specs.Runs.{Entry, Run}
use Rattle.sbp_world.specs.Sending.{asked, posted, sent, sent_all, sent_to}
use Rattle.sbp_world.specs.Telling.{holder, told, told_all}
use Rattle.sbp_world.specs.Worlds.{WorldState}
use Rattle.media_terms.specs.Media.{left_by_note, media_after, notes_in, run_on}
use Rattle.task_world.specs.Lines.{IsTaskEvent, MayHappen, task_happens}
use Rattle.task_world.specs.Making.{first_scene}
use Rattle.task_world.specs.Media.{TaskDisksLaw, first_of, left_by_run, notes_of, with_first}
use Rattle.task_world.specs.Runs.{AreEntries, IsTaskRun, after}
use Rattle.task_world.specs.Worlds.{TaskScene, begun}
use Rattle.task_world.proofs.MediaSides.{AreTold, IsTold, after_sides, beside, by_side}
use Rattle.task_world.proofs.TaskPass.{Kept, first_count, first_disk, line_keeps}
use Rattle.media_terms.proofs.Folds.{after_both}

-- ---- what is told, and the notes that it gives

-- the holder of place 0 is on unit 0
abbrev UnitOf : List (Option Holder) → ℕ
UnitOf places = (holder_at places 0).unit

opens_by : (x : Option Holder) (list : Option ℕ) (places : List (Option Holder)) → place_in places 0 ≡ x → UnitOf (opened_by x 0 list places) ≡ UnitOf places
opens_by None list places e = refl
opens_by (Some holder) list [] e = absurd (let no : None ≡ Some holder = e in cc)
opens_by (Some holder) list (x ∷ places) e = sym (ap (λ (y : Option Holder). UnitOf (y ∷ places)) e)

opens : (list : Option ℕ) (places : List (Option Holder)) → UnitOf (opened_step 0 list places) ≡ UnitOf places
unfolding opened_step
opens list places = opens_by (place_in places 0) list places refl

module _ (start : Held) where
  -- the notes there are leave this of the media, and who has place 0 is on unit 0
  record Says (media : Held) (w : WorldState) : Type 0 where
    notes : media_after w.fresh start ≡ media
    unit : UnitOf w.places ≡ 0

  says_opened : (media : Held) (place : ℕ) (list : Option ℕ) (w : WorldState) → place ≡ 0 → Says media w → Says media (record w { places = opened_step place list w.places })
  says_opened media place list w e h = record {
    notes = h.notes;
    unit = subst (λ (n : ℕ). UnitOf (opened_step n list w.places) ≡ 0) (sym e) (opens list w.places ∙ h.unit);
  }

  run_is : (media : Held) (cdb bytes : List ℕ) (place : ℕ) (w : WorldState) → place ≡ 0 → UnitOf w.places ≡ 0 → (holder w place).unit ≡ 0
  run_is media cdb bytes place w e u = subst (λ (n : ℕ). (holder w n).unit ≡ 0) (sym e) u

  side_says : (media : Held) (weight : ℕ) (side : Side) (w : WorldState) → IsTold side → Says media w → Says (by_side side media) (told weight side w)
  unfolding told
  side_says media weight (sides.Own note) w f h = record { notes = ap (left_by_note note) h.notes; unit = h.unit }
  side_says media weight (sides.Opened place orb) w f h = says_opened media place _ w f h
  side_says media weight (sides.Ran place orb cdb payload outcome) w f h =
      let unit = run_is media cdb payload place w f.0 h.unit in
      record {
        notes = ap (λ (n : ℕ). run_on cdb payload (check_in outcome) n (media_after w.fresh start)) unit ∙ ap (run_on cdb payload (check_in outcome) 0) h.notes;
        unit = h.unit;
      }
  side_says media weight (sides.Ended place orb status) w f h = record { notes = h.notes; unit = h.unit }
  side_says media weight (sides.Dead place cause) w f h = record { notes = h.notes; unit = h.unit }
  side_says media weight (sides.Cut place cause) w f h = record { notes = h.notes; unit = h.unit }
  side_says media weight _ w f h = absurd f

  sides_say : (media : Held) (weight : ℕ) (later : List Side) (w : WorldState) → AreTold later → Says media w → Says (after_sides later media) (told_all weight later w)
  unfolding told_all
  sides_say media weight [] w f h = h
  sides_say media weight (side ∷ later) w f h = sides_say (by_side side media) weight later (told weight side w) f.1 (side_says media weight side w f.0 h)

  -- packets that leave
  posts_say : (media : Held) (from to : ℕ) (bytes : List ℕ) (w : WorldState) → Says media w → Says media (posted from to false bytes w)
  unfolding posted
  posts_say media from to bytes w h = record { notes = h.notes; unit = h.unit }

  asks_say : (media : Held) (serial to node peer : ℕ) (label : Option LabelParts) (w : WorldState) → Says media w → Says media (asked serial to node peer label w)
  asks_say media serial to node peer None w h = h
  asks_say media serial to node peer (Some label) w h = record { notes = h.notes; unit = h.unit }

  sends_to : (media : Held) (to : Option ℕ) (from : ℕ) (packet : Outgoing) (w : WorldState) → Says media w → Says media (sent_to to from packet w)
  sends_to media None from packet w h = h
  sends_to media (Some to) from packet w h =
      asks_say media (w.store.last + 1) to from packet.to packet.label (posted from to false packet.bytes w) (posts_say media from to packet.bytes w h)

  sends_say : (media : Held) (from : ℕ) (packets : List Outgoing) (w : WorldState) → Says media w → Says media (sent_all from packets w)
  unfolding sent_all sent
  sends_say media from [] w h = h
  sends_say media from (packet ∷ later) w h = sends_say media from later (sent from packet w) (sends_to media (node_of w.generations from packet.to) from packet w h)

  hands_say : (media : Held) (node weight : ℕ) (outbox : OutboxState) (w : WorldState) → AreTold outbox.sides → Says media w → Says (after_sides outbox.sides media) (handed_out node weight outbox w)
  hands_say media node weight outbox w f h = sends_say (after_sides outbox.sides media) node outbox.packets (told_all weight outbox.sides w) (sides_say media weight outbox.sides w f h)

-- ---- a line

module _ (disks : List Disk) (faults : List ℕ) where
  -- the notes of the line leave this of the first medium, and the others as they were
  abbrev Follows : Held → WorldState → Disk → ℕ → Type 0
  Follows start w disk count = Says start (beside disks faults disk count) w

  kept : (start : Held) → Kept (Follows start)
  kept start = record {
    same = λ w x disk count e p h. record {
      notes = ap (λ (fresh : List Note). media_after fresh start) e ∙ h.notes;
      unit = ap UnitOf p ∙ h.unit;
    };
    noted = λ note w disk count n h. record { notes = n.still (media_after w.fresh start) ∙ h.notes; unit = h.unit };
    hands = λ node weight outbox w disk count left now t h. subst (λ (media : Held). Says start media (handed_out node weight outbox w)) (t.media disks faults) (hands_say start (beside disks faults disk count) node weight outbox w t.are h);
  }

  -- the media beside the unit's stay as they are
  abbrev all_of : Held → Held
  all_of media = beside disks faults (first_disk media) (first_count media)

  line_follows : (line : ℕ) (event : Event) (told : List (Option Told)) (s : TaskScene) → IsTaskEvent event → MayHappen event told s → UnitOf s.scene.world.places ≡ 0
      → (let t = task_happens line event told s in Says (all_of s.scene.media) (all_of t.scene.media) t.scene.world)
  unfolding task_happens MayHappen
  line_follows line event told s e m u =
      line_keeps (Follows (all_of s.scene.media)) (kept (all_of s.scene.media)) line event told (begun s) e.here m (record { notes = refl; unit = u })

  -- ---- the lines

  after_said : (told : List Note) (past : List Moment) (media : Held) → media_after (notes_in (map said told ++ past)) media ≡ media_after told (media_after (notes_in past) media)
  after_said [] past media = refl
  after_said (note ∷ told) past media = ap (left_by_note note) (after_said told past media)

  record Stands (line : ℕ) (run : Run) (first : TaskScene) (entries : List Entry) : Type 0 where
    unit : UnitOf (after first entries).scene.world.places ≡ 0
    notes : all_of (after first entries).scene.media ≡ media_after (notes_behind entries) (all_of first.scene.media)
    history : all_of (after first entries).scene.media ≡ media_after (notes_in (moments_behind line run entries)) (all_of first.scene.media)

  stands : (line : ℕ) (run : Run) (first : TaskScene) → UnitOf first.scene.world.places ≡ 0 → (entries : List Entry) → AreEntries first entries → Stands line run first entries
  stands line run first u [] a = record { unit = u; notes = refl; history = refl }
  stands line run first u (e ∷ before) a =
      let old = after first before in
      let s = stands line run first u before a.1 in
      let t = line_follows e.line e.event e.told old a.0.event a.0.may s.unit in
      let here : all_of (after first (e ∷ before)).scene.media ≡ media_after e.notes (all_of old.scene.media)
      = sym t.notes ∙ ap (λ (fresh : List Note). media_after fresh (all_of old.scene.media)) (sym a.0.notes_are) in
      record {
        unit = t.unit;
        notes = here ∙ ap (media_after e.notes) s.notes ∙ sym (after_both e.notes (notes_behind before) (all_of first.scene.media));
        history = here ∙ ap (media_after e.notes) s.history ∙ sym (after_said e.notes (asked_of e.line e.event ∷ moments_behind line run before) (all_of first.scene.media));
      }

-- ---- how a run begins

first_unit : (start : Held) → UnitOf (first_scene start).scene.world.places ≡ 0
unfolding new_world
first_unit start = refl

-- ---- the media beside the first one

-- what a note leaves of the disks alone, and of the counts alone
abbrev disks_by : Note → List Disk → List Disk
disks_by note disks = (left_by_note note (held disks [])).disks

abbrev faults_by : Note → List ℕ → List ℕ
faults_by note faults = (left_by_note note (held [] faults)).faults

abbrev disks_after : List Note → List Disk → List Disk
disks_after [] disks = disks
disks_after (note ∷ before) disks = disks_by note (disks_after before disks)

abbrev faults_after : List Note → List ℕ → List ℕ
faults_after [] faults = faults
faults_after (note ∷ before) faults = faults_by note (faults_after before faults)

note_parts : (note : Note) (disks : List Disk) (faults : List ℕ) → left_by_note note (held disks faults) ≡ held (disks_by note disks) (faults_by note faults)
note_parts (notes.Ran i n k unit cdb bytes check) disks faults = refl
note_parts _ disks faults = refl

parts : (told : List Note) (disks : List Disk) (faults : List ℕ) → media_after told (held disks faults) ≡ held (disks_after told disks) (faults_after told faults)
parts [] disks faults = refl
parts (note ∷ before) disks faults = ap (left_by_note note) (parts before disks faults) ∙ note_parts note (disks_after before disks) (faults_after before faults)

-- where there is none, nothing is left
no_disk_by : (note : Note) → disks_by note [] ≡ []
no_disk_by (notes.Ran i n k unit cdb bytes check) = refl
no_disk_by _ = refl

no_disks : (told : List Note) → disks_after told [] ≡ []
no_disks [] = refl
no_disks (note ∷ before) = ap (disks_by note) (no_disks before) ∙ no_disk_by note

no_count_by : (note : Note) → faults_by note [] ≡ []
no_count_by (notes.Ran i n k unit cdb bytes check) = refl
no_count_by _ = refl

no_counts : (told : List Note) → faults_after told [] ≡ []
no_counts [] = refl
no_counts (note ∷ before) = ap (faults_by note) (no_counts before) ∙ no_count_by note

-- of the first medium, beside whatever others, the notes leave this
module _ (told : List Note) (start now : Held) (leaves : (disks : List Disk) (faults : List ℕ) → all_of disks faults now ≡ media_after told (all_of disks faults start)) where
  both_parts : (disks : List Disk) (faults : List ℕ) → all_of disks faults now ≡ held (disks_after told (first_disk start ∷ disks)) (faults_after told (first_count start ∷ faults))
  both_parts disks faults = leaves disks faults ∙ parts told (first_disk start ∷ disks) (first_count start ∷ faults)

  disks_are : (disks : List Disk) → first_disk start ≡ disk_at disks 0 → slice_set disks 0 (first_disk now) ≡ disks_after told disks
  disks_are [] e = sym (no_disks told)
  disks_are (disk ∷ disks) e = ap (λ (m : Held). m.disks) (both_parts disks []) ∙ ap (λ (d : Disk). disks_after told (d ∷ disks)) e

  faults_are : (faults : List ℕ) → first_count start ≡ slice_index faults 0 → slice_set faults 0 (first_count now) ≡ faults_after told faults
  faults_are [] e = sym (no_counts told)
  faults_are (count ∷ faults) e = ap (λ (m : Held). m.faults) (both_parts [] faults) ∙ ap (λ (n : ℕ). faults_after told (n ∷ faults)) e

  media_are : (media : Held) → start ≡ first_of media → with_first now media ≡ media_after told media
  media_are media e =
      ap (λ (disks : List Disk). held disks (slice_set media.faults 0 (first_count now))) (disks_are media.disks (ap first_disk e))
      ∙ ap (held (disks_after told media.disks)) (faults_are media.faults (ap first_count e))
      ∙ sym (parts told media.disks media.faults)

-- ---- a run

run_stands : (disks : List Disk) (faults : List ℕ) (line : ℕ) (run : Run) → IsTaskRun run → Stands disks faults line run (first_scene run.start) run.entries
run_stands disks faults line run r = stands disks faults line run (first_scene run.start) (first_unit run.start) run.entries r.lines

run_notes : (run : Run) (media : Held) → IsTaskRun run → run.start ≡ first_of media → with_first (left_by_run run) media ≡ media_after (notes_of run) media
run_notes run media r e =
    let begin = notes_begin run.initiators run.ready ∷ [] in
    media_are (notes_of run) run.start (left_by_run run)
    (λ disks faults. (run_stands disks faults 0 run r).notes ∙ sym (after_both (notes_behind run.entries) begin (all_of disks faults run.start)))
    media e

run_history : (line : ℕ) (run : Run) (media : Held) → IsTaskRun run → run.start ≡ first_of media → with_first (left_by_run run) media ≡ media_after (notes_in (history_of line run)) media
run_history line run media r e = media_are (notes_in (history_of line run)) run.start (left_by_run run) (λ disks faults. (run_stands disks faults line run r).history) media e

pub disks_law : TaskDisksLaw
disks_law = record { notes = run_notes; history = run_history }
