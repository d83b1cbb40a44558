-- The journal of every script of a queue is one of a queue, line by line; so it keeps the queue law.
use Rattle.std.proofs.Common.{arith, ◌≡◌, ◌∙◌, refl, sym, ap, subst, ℕ, zero, suc, ◌<◌, ◌≤◌, ◌*◌, nat_eq, Bool, true, cond, List, [], ◌∷◌, ◌++◌, length, map, reverse, Option, Some, None, ◌⊎◌, inl, inr}
use Rattle.std.specs.Prelude.{not, is_none, slice_get}
use Rattle.std.specs.Option.{option_map}
use Rattle.std.proofs.lemmas.Bool.Decides.{nat_tests}
use Rattle.std.proofs.lemmas.List.{append-nil}
use Rattle.rbc_disk.specs.Disk.{Disk, disk_at}
use Rattle.rbc_disk.specs.Units.{PlainDisk}
use Rattle.sbp_journal.specs.Run.{Moment, asked, history, said}
use Rattle.sbp_journal.specs.declared.event.Action.{Action}
use Rattle.sbp_journal.specs.declared.event.Action.TheVariants as actions
use Rattle.sbp_journal.specs.declared.event.Event.{Event}
use Rattle.sbp_journal.specs.declared.event.Event.TheVariants as events
use Rattle.sbp_journal.specs.declared.note.Note.{Note}
use Rattle.sbp_journal.specs.declared.note.Note.TheVariants as notes
use Rattle.sbp_laws.specs.Actions.{buffer_of, new_list, new_number}
use Rattle.sbp_laws.specs.Hosts.{host_at}
use Rattle.sbp_laws.specs.Lawful.{injectors}
use Rattle.sbp_laws.specs.LineLaw.{BringsLine}
use Rattle.sbp_laws.specs.OnLists.{LawfulOnLists}
use Rattle.sbp_laws.specs.Targets.{disk_of}
use Rattle.sbp_laws.specs.Turns.{EachMoment}
use Rattle.sbp_world.specs.Histories.{history_of, moments_behind}
use Rattle.sbp_world.specs.Lists.Opened.{AllOf}
use Rattle.sbp_world.specs.Making.{notes_begin}
use Rattle.sbp_world.specs.Runs.{Entry, Run}
use Rattle.sbp_world.specs.Wire.Journal.{journal_entries}
use Rattle.sbp_world.proofs.Hosts.Statuses.Finished.{finished_law}
use Rattle.retry_queue.specs.declared.line.QueueLine.{QueueLine}
use Rattle.retry_queue.specs.declared.line.QueueLine.TheVariants.{Bus, Submit, Pump}
use Rattle.retry_queue.specs.Heard.{HeardAt, Keeps}
use Rattle.retry_queue.specs.Journals.{IsJournal}
use Rattle.retry_queue.specs.Kept.{asked_by, kept, told}
use Rattle.retry_queue.specs.Lines.{is_bus_line}
use Rattle.retry_queue.specs.Pump.{pump, row}
use Rattle.retry_queue.specs.Queues.{behind, pumped, submission, writes}
use Rattle.retry_queue.specs.Queues as queues
use Rattle.retry_queue.specs.Parts.{QueueLaw}
use Rattle.retry_queue.specs.Runs.{HasQueueLaw, IsQueueRun, QueueMediaLaw, QueueRunsLaw}
use Rattle.retry_queue.specs.Scripts.{AreServed, MaySay, Served, event_in, first_served, told_in, with_line}
use Rattle.retry_queue.specs.Scripts as scripts
use Rattle.retry_queue.specs.Steps.{Step, Submission, idled, of_world, submissions, submitted, world, write_at}
use Rattle.retry_queue.proofs.Acted.{ActsSo, IsOfPump, acts_so, opening}
use Rattle.retry_queue.proofs.Cases.{by_one, no_other, other, skips, some_is}
use Rattle.retry_queue.proofs.Entries.{all_forward, is_usual, usual_line}
use Rattle.retry_queue.proofs.Generations.{TellsNone}
use Rattle.retry_queue.proofs.Keeping.{kept_law}
use Rattle.retry_queue.proofs.LineSteps.{Holds, InLine, allowed, appends_first, begins_line, same_moments, walks}
use Rattle.retry_queue.proofs.Media.{fold_is}
use Rattle.retry_queue.proofs.PlainRuns.{AreOfRun, earlier_of, queue_runs_plain, run_before, script_is_run, script_is_tame, script_laws}
use Rattle.retry_queue.proofs.Requests.{Moments, moments_all_before, moments_before, owes_line}
use Rattle.retry_queue.proofs.Scripted.{row_kind}
use Rattle.retry_queue.proofs.Standing.{submissions-behind, world-behind}
use Rattle.retry_queue.proofs.Written.{queues_are_lawful}

-- ---- numbers

none_none : 0 ≤ 0
none_none = omega arith

none_first : 0 ≤ 1
none_first = omega arith

le_more : (m n : ℕ) → m ≤ n → m ≤ suc n
le_more m n less = omega (arith, less)

le_suc : (m n : ℕ) → m ≤ n → suc m ≤ suc n
le_suc m n less = omega (arith, less)

below : (m n : ℕ) → suc m ≤ n → m < n
below m n less = omega (arith, less)

at_most : (m n : ℕ) → suc m ≤ n → m ≤ n
at_most m n less = omega (arith, less)

-- ---- the writes of a journal, by their numbers

suc_eq : (m n : ℕ) → nat_eq (suc m) (suc n) ≡ nat_eq m n
suc_eq m n = by_one (λ b. nat_eq (suc m) (suc n) ≡ b) m n (λ same. grind (arith, nat_tests)) (λ apart. grind (arith, nat_tests))

at_end : (ws : List Submission) (w : Submission) (q : ℕ) → slice_get (ws ++ w ∷ []) q ≡ cond (nat_eq q (length ws)) (Some w) (slice_get ws q)
at_end [] w zero = refl
at_end [] w (suc q) = sym (skips (nat_eq (suc q) 0) (Some w) None (no_other q))
at_end (x ∷ ws) w zero = sym (skips (nat_eq 0 (suc (length ws))) (Some w) (Some x) (other (length ws)))
at_end (x ∷ ws) w (suc q) = at_end ws w q ∙ sym (ap (λ b. cond b (Some w) (slice_get ws q)) (suc_eq q (length ws)))

longer : (ws : List Submission) (w : Submission) → length (ws ++ w ∷ []) ≡ suc (length ws)
longer [] w = refl
longer (x ∷ ws) w = ap suc (longer ws w)

-- how many writes a journal has
pub writes_count : (past : List Step) → length (writes past) ≡ submissions past
writes_count [] = refl
writes_count (submitted lba bytes ∷ past) = longer (writes past) (submission lba bytes) ∙ ap suc (writes_count past)
writes_count (_ ∷ past) = writes_count past

write_is : (past : List Step) (q : ℕ) → slice_get (writes past) q ≡ write_at past q
write_is [] q = refl
write_is (submitted lba bytes ∷ past) q =
    at_end (writes past) (submission lba bytes) q
    ∙ ap (λ n. cond (nat_eq q n) (Some (submission lba bytes)) (slice_get (writes past) q)) (writes_count past)
    ∙ ap (λ before. cond (nat_eq q (submissions past)) (Some (submission lba bytes)) before) (write_is past q)
write_is (_ ∷ past) q = write_is past q

-- ---- what a pump does

-- the queue's initiator acts
abbrev act : Action → Event
act action = events.Act 0 action

abbrev own_action : List Step → Option Action
own_action past = row (kept past).is_busy (kept past).session (kept past).is_dead (slice_get (writes past) (kept past).next)

-- it is what its table says by the run terms
pump_is : (past : List Step) → Keeps past → own_action past ≡ pump past
pump_is past keeps =
    let h = host_at (world past) 0 in
    let write = slice_get (writes past) (kept past).next in
    ap (λ busy. row busy (kept past).session (kept past).is_dead write) keeps.busy
    ∙ ap (λ session. row (not (is_none h.operation)) session (kept past).is_dead write) keeps.session
    ∙ ap (λ dead. row (not (is_none h.operation)) h.session dead write) keeps.dead
    ∙ ap (λ w. row (not (is_none h.operation)) h.session h.marked_dead w) (write_is past (kept past).next ∙ ap (write_at past) keeps.next)

-- a pump's event
record IsPumpedEvent (past : List Step) (event : Event) : Type 0 where
  action : Action
  is : event ≡ act action
  due : own_action past ≡ Some action

pumped_event : (past : List Step) (event : Event) (action : Option Action) → own_action past ≡ action → option_map queues.own action ≡ Some event → IsPumpedEvent past event
pumped_event past event None due e = absurd (cc e)
pumped_event past event (Some action) due e = record { action = action; is = sym (some_is (act action) event e); due = due }

pumped_none : (past : List Step) (action : Option Action) → own_action past ≡ action → option_map queues.own action ≡ None → own_action past ≡ None
pumped_none past None due e = due
pumped_none past (Some action) due e = absurd (cc e)

-- ---- moments that are read in one way

record AreSame (ns others : List Note) (event another : Event) (past before : List Moment) : Type 0 where
  notes_are : ns ≡ others
  event_is : event ≡ another
  past_is : past ≡ before

said_is : (note another : Note) (past before : List Moment) → said note ∷ past ≡ said another ∷ before → (note ≡ another) × (past ≡ before)
said_is note another past before e = (cc e, cc e)

asked_is : (line number : ℕ) (event another : Event) (past before : List Moment) → asked line event ∷ past ≡ asked number another ∷ before → (event ≡ another) × (past ≡ before)
asked_is line number event another past before e = (cc e, cc e)

same_lines : (ns others : List Note) (line number : ℕ) (event another : Event) (past before : List Moment) → map said ns ++ asked line event ∷ past ≡ map said others ++ asked number another ∷ before → AreSame ns others event another past before
same_lines [] [] line number event another past before e =
    let same = asked_is line number event another past before e in record { notes_are = refl; event_is = same.0; past_is = same.1 }
same_lines [] (note ∷ others) line number event another past before e = absurd (cc e)
same_lines (note ∷ ns) [] line number event another past before e = absurd (cc e)
same_lines (note ∷ ns) (one ∷ others) line number event another past before e =
    let first = said_is note one (map said ns ++ asked line event ∷ past) (map said others ++ asked number another ∷ before) e in
    let same = same_lines ns others line number event another past before first.1 in
    record { notes_are = ap (λ x. x ∷ ns) first.0 ∙ ap (λ xs. one ∷ xs) same.notes_are; event_is = same.event_is; past_is = same.past_is }

-- ---- the event of a line behind the first

-- of the bus, or of a pump
data IsOfLine (past : List Step) (event : Event) : Type 0 where
  of_bus : is_bus_line event ≡ true → IsOfLine past event
  of_pump : IsPumpedEvent past event → IsOfLine past event

no_begin : (past : List Step) (initiators : ℕ) (ready : Bool) → IsOfLine past (events.Begin initiators ready) → ⊥
no_begin past initiators ready (of_bus e) = cc e
no_begin past initiators ready (of_pump p) = let is = p.is in cc is

bus_allowed : (event : Event) (ns : List Note) → is_bus_line event ≡ true → AllOf is_usual ns → AllOf (allowed event) ns
bus_allowed (events.Act i action) ns e all = absurd (cc e)
bus_allowed _ ns e all = all

pump_heard : (line : ℕ) (action : Action) (past : List Step) → IsOfPump action → HeardAt (of_world (asked line (act action))) past
pump_heard line actions.State past pumps = absurd pumps
pump_heard line _ past pumps = tt

-- ---- a line of a run

module _ (wild : ℕ → Bool) (past : List Step) (line : ℕ) (held_so : Holds past) (none_told : EachMoment TellsNone (world past)) where
  abbrev M : Event → List Note → List Moment
  M event ns = map said ns ++ asked line event ∷ world past

  bus_line : (disks : List Disk) (before : List Moment) (number : ℕ) (event : Event) (ns : List Note) → is_bus_line event ≡ true → BringsLine disks before number event (reverse ns) → Moments wild (M event ns) → InLine wild past line event ns
  bus_line disks before number event ns e brings m =
      let usual = all_forward is_usual ns (usual_line disks before number event (reverse ns) e brings) in
      subst (InLine wild past line event) (append-nil ns)
      (walks wild past line event ns [] (bus_allowed event ns e usual) (subst (λ xs. Moments wild (M event xs)) (sym (append-nil ns)) m) (first event e))
    where
      first : (event : Event) → is_bus_line event ≡ true → InLine wild past line event []
      first (events.Act i action) e = absurd (cc e)
      first (events.Begin initiators ready) e = absurd (cc e)
      first (events.Inject i bytes) e = absurd (cc e)
      first (events.Key unit key) e = absurd (cc e)
      first (events.Deliver serial) e = begins_line wild past line (events.Deliver serial) held_so none_told tt tt tt
      first (events.Repeat serial) e = begins_line wild past line (events.Repeat serial) held_so none_told tt tt tt
      first (events.Lose serial) e = begins_line wild past line (events.Lose serial) held_so none_told tt tt tt
      first (events.Timeout serial) e = begins_line wild past line (events.Timeout serial) held_so none_told tt tt tt
      first (events.Step count) e = begins_line wild past line (events.Step count) held_so none_told tt tt tt
      first events.Settle e = begins_line wild past line events.Settle held_so none_told tt tt tt
      first (events.Reset physical) e = begins_line wild past line (events.Reset physical) held_so none_told tt tt tt
      first (events.See node) e = begins_line wild past line (events.See node) held_so none_told tt tt tt
      first events.Tick e = begins_line wild past line events.Tick held_so none_told tt tt tt

  -- an action: behind its line stands its append, if one
  module _ (action : Action) (pumps : IsOfPump action) (due : pump past ≡ Some action) where
    no_note : Moments wild (M (act action) []) → InLine wild past line (act action) []
    no_note m = begins_line wild past line (act action) held_so none_told (record { own = refl; due = due }) (pump_heard line action past pumps) (owes_line line (act action) (world past) m.answered)

  opens : (action : Action) → IsOfPump action → pump past ≡ Some action → Moments wild (M (act action) (opening action (world past))) → InLine wild past line (act action) (opening action (world past))
  opens (actions.Append cmd) pumps due m =
      appends_first wild past line cmd m (no_note (actions.Append cmd) pumps due (moments_before wild (said (notes.Append 0 (new_list (world past) 0) (new_number (world past) 0) cmd.cdb (buffer_of cmd))) (M (act (actions.Append cmd)) []) m))
  opens (actions.Login unit reconnect exclusive password) pumps due m = no_note (actions.Login unit reconnect exclusive password) pumps due m
  opens actions.Reconnect pumps due m = no_note actions.Reconnect pumps due m
  opens actions.AgentReset pumps due m = no_note actions.AgentReset pumps due m
  opens _ pumps due m = absurd pumps

  all_before : (event : Event) (more front : List Note) → Moments wild (M event (more ++ front)) → Moments wild (M event front)
  all_before event [] front m = m
  all_before event (note ∷ more) front m = all_before event more front (moments_before wild (said note) (M event (more ++ front)) m)

  act_line : (action : Action) (ns : List Note) → IsOfPump action → pump past ≡ Some action → ActsSo (world past) action ns → Moments wild (M (act action) ns) → InLine wild past line (act action) ns
  act_line action ns pumps due acts m =
      let more = acts.behind.more in
      let front = acts.front in
      let parted = subst (λ xs. Moments wild (M (act action) xs)) (sym acts.behind.is) m in
      subst (InLine wild past line (act action)) acts.behind.is
      (walks wild past line (act action) more front acts.behind.all parted (first front acts.opens (all_before (act action) more front parted)))
    where
      first : (front : List Note) → (front ≡ []) ⊎ (front ≡ opening action (world past)) → Moments wild (M (act action) front) → InLine wild past line (act action) front
      first front (inl e) m = subst (InLine wild past line (act action)) (sym e) (no_note action pumps due (subst (λ xs. Moments wild (M (act action) xs)) e m))
      first front (inr e) m = subst (InLine wild past line (act action)) (sym e) (opens action pumps due (subst (λ xs. Moments wild (M (act action) xs)) e m))

-- ---- the lines of a script

-- the journal of so many lines
record Good (past : List Step) (count : ℕ) : Type 0 where
  holds : Holds past
  fair : EachMoment TellsNone (world past)
  made : submissions past ≤ count

module _ (wild : ℕ → Bool) (line : ℕ) (run : Run) (few : run.initiators ≤ 4) (some : 0 < run.initiators) (disks : List Disk) where
  -- what is shown of the lines before, whichever entries their run has
  abbrev Before : List Step → ℕ → Type 0
  Before past count = (entries : List Entry) → world past ≡ moments_behind line run entries → Moments wild (moments_behind line run entries) → AreOfRun line run disks entries → Good past count

  -- a line with an event is that of an entry
  module _ (past : List Step) (count number : ℕ) (before : Before past count) where
    in_line : (e : Entry) (earlier : List Entry) → Good past count → world past ≡ moments_behind line run earlier → AreOfRun line run disks (e ∷ earlier) → (kind : IsOfLine past e.event) → Moments wild (map said e.notes ++ asked number e.event ∷ world past)
        → InLine wild past number e.event e.notes
    in_line e earlier g is r (of_bus bus) m = bus_line wild past number g.holds g.fair disks (history (journal_entries line run earlier)) e.line e.event e.notes bus r.brings.0 m
    in_line e earlier g is r (of_pump p) m =
        let pumps = row_kind (kept past).is_busy (kept past).session (kept past).is_dead (slice_get (writes past) (kept past).next) p.action p.due in
        let keeps = kept_law past g.holds.stands.brought g.holds.stands.heard in
        let acts = subst (λ ms. ActsSo ms p.action e.notes) (sym is) (acts_so line run earlier (run_before line run disks few e earlier r) some e p.action p.is pumps r.every.0) in
        subst (λ event. InLine wild past number event e.notes) (sym p.is)
        (act_line wild past number g.holds g.fair p.action e.notes pumps (sym (pump_is past keeps) ∙ p.due) acts (subst (λ event. Moments wild (map said e.notes ++ asked number event ∷ world past)) p.is m))

    done : (e : Entry) (earlier : List Entry) → Good past count → InLine wild past number e.event e.notes → submissions (behind past number e.event (told (asked_by e.event) e.notes (kept past))) ≡ submissions past
        → Good (behind past number e.event (told (asked_by e.event) e.notes (kept past))) (suc count)
    done e earlier g l same = record {
      holds = l.holds;
      fair = subst (EachMoment TellsNone) (sym (same_moments wild past number e.event e.notes)) l.fair;
      made = subst (λ n. n ≤ suc count) (sym same) (le_more (submissions past) count g.made);
    }

    event_line : (event : Event) (ns : List Note) (entries : List Entry) → IsOfLine past event → map said ns ++ asked number event ∷ world past ≡ moments_behind line run entries → Moments wild (moments_behind line run entries) → AreOfRun line run disks entries
        → Good (behind past number event (told (asked_by event) ns (kept past))) (suc count)
    event_line event ns [] kind is m r =
        let same = same_lines ns (notes_begin run.initiators run.ready ∷ []) number line event (events.Begin run.initiators run.ready) (world past) [] is in
        absurd (no_begin past run.initiators run.ready (subst (IsOfLine past) same.event_is kind))
    event_line event ns (e ∷ earlier) kind is m r =
        let same = same_lines ns e.notes number e.line event e.event (world past) (moments_behind line run earlier) is in
        let known = moments_before wild (asked e.line e.event) (moments_behind line run earlier) (moments_all_before wild e.notes (asked e.line e.event ∷ moments_behind line run earlier) m) in
        let g = before earlier same.past_is known (earlier_of line run disks e earlier r) in
        let here = subst (Moments wild) (sym is ∙ ap (λ xs. map said xs ++ asked number event ∷ world past) same.notes_are ∙ ap (λ x. map said e.notes ++ asked number x ∷ world past) same.event_is) m in
        let l = in_line e earlier g same.past_is r (subst (IsOfLine past) same.event_is kind) here in
        subst (λ xs. Good (behind past number event (told (asked_by event) xs (kept past))) (suc count)) (sym same.notes_are)
        (subst (λ x. Good (behind past number x (told (asked_by x) e.notes (kept past))) (suc count)) (sym same.event_is)
        (done e earlier g l (submissions-behind (asked_by e.event) (kept past) number e.event past e.notes)))

    -- a submission
    submit_line : (lba : ℕ) (bytes : List ℕ) (entries : List Entry) → MaySay (Submit lba bytes) → count < 65536 → world past ≡ moments_behind line run entries → Moments wild (moments_behind line run entries) → AreOfRun line run disks entries → Good (submitted lba bytes ∷ past) (suc count)
    submit_line lba bytes entries may room is m r =
        let g = before entries is m r in
        let less = g.made in
        record {
          holds = record {
            stands = record {
              made = (record { sized = may; few = omega (arith, less, room) }, g.holds.stands.made);
              follows = (g.holds.due, g.holds.stands.follows);
              brought = (tt, g.holds.stands.brought);
              heard = (tt, g.holds.stands.heard);
            };
            due = refl;
          };
          fair = g.fair;
          made = le_suc (submissions past) count g.made;
        }

    -- a pump that has nothing to do
    idle_line : (entries : List Entry) → own_action past ≡ None → world past ≡ moments_behind line run entries → Moments wild (moments_behind line run entries) → AreOfRun line run disks entries → Good (idled ∷ past) (suc count)
    idle_line entries none is m r =
        let g = before entries is m r in
        let keeps = kept_law past g.holds.stands.brought g.holds.stands.heard in
        record {
          holds = record {
            stands = record {
              made = (sym (pump_is past keeps) ∙ none, g.holds.stands.made);
              follows = (g.holds.due, g.holds.stands.follows);
              brought = (tt, g.holds.stands.brought);
              heard = (tt, g.holds.stands.heard);
            };
            due = refl;
          };
          fair = g.fair;
          made = le_more (submissions past) count g.made;
        }

    abbrev Goes : List Step → Type 0
    Goes now = (entries : List Entry) → count < 65536 → world now ≡ moments_behind line run entries → Moments wild (moments_behind line run entries) → AreOfRun line run disks entries → Good now (suc count)

    with_event : (event : Event) (ns : List Note) → IsOfLine past event → Goes (behind past number event (told (asked_by event) ns (kept past)))
    with_event event ns kind entries room is m r =
        event_line event ns entries kind (sym (world-behind (asked_by event) (kept past) number event past ns) ∙ is) m r

    pump_line : (ns : List Note) (event : Option Event) → pumped (kept past) (writes past) ≡ event → Goes (with_line past number event (told_in Pump event ns past))
    pump_line ns None e entries room is m r = idle_line entries (pumped_none past (own_action past) refl e) is m r
    pump_line ns (Some event) e entries room is m r = with_event event ns (of_pump (pumped_event past event (own_action past) refl e)) entries room is m r

    next_line : (says : QueueLine) (ns : List Note) → MaySay says → Goes (with_line past number (event_in says past) (told_in says (event_in says past) ns past))
    next_line (Bus event) ns may entries room is m r = with_event event ns (of_bus may.bus) entries room is m r
    next_line (Submit lba bytes) ns may entries room is m r = submit_line lba bytes entries may room is m r
    next_line Pump ns may entries room is m r = pump_line ns (pumped (kept past) (writes past)) refl entries room is m r

  -- the first line
  none_before : (entries : List Entry) → [] ≡ moments_behind line run entries → ⊥
  none_before [] e = cc e
  none_before (e ∷ earlier) is = by e.notes is
    where
      by : (ns : List Note) → [] ≡ map said ns ++ asked e.line e.event ∷ moments_behind line run earlier → ⊥
      by [] is = cc is
      by (note ∷ ns) is = cc is

  first_line : (number : ℕ) (entries : List Entry) → world (scripts.journal (first_served number ∷ [])) ≡ moments_behind line run entries → Good (scripts.journal (first_served number ∷ [])) 1
  first_line number [] is = record {
    holds = record {
      stands = record { made = (tt, (tt, tt)); follows = (refl, (refl, tt)); brought = (refl, (tt, tt)); heard = (tt, (tt, tt)) };
      due = refl;
    };
    fair = (tt, (tt, tt));
    made = none_first;
  }
  first_line number (e ∷ earlier) is =
      let same = same_lines (notes_begin 1 true ∷ []) e.notes number e.line (events.Begin 1 true) e.event [] (moments_behind line run earlier) is in
      absurd (none_before earlier same.past_is)

  goes : (served : List Served) (entries : List Entry) → AreServed served → length served ≤ 65536 → world (scripts.journal served) ≡ moments_behind line run entries → Moments wild (moments_behind line run entries) → AreOfRun line run disks entries → Good (scripts.journal served) (length served)
  goes [] entries a most is m r = absurd a
  goes (served ∷ []) entries a most is m r =
      subst (λ s. Good (scripts.journal (s ∷ [])) 1) (sym a) (first_line served.line entries (sym (ap (λ s. world (scripts.journal (s ∷ []))) a) ∙ is))
  goes (served ∷ one ∷ before) entries a most is m r =
      next_line (scripts.journal (one ∷ before)) (length (one ∷ before)) served.line
      (λ earlier same known fits. goes (one ∷ before) earlier a.1 (at_most (length (one ∷ before)) 65536 most) same known fits)
      served.said served.notes a.0 entries (below (length (one ∷ before)) 65536 most) is m r

-- ---- a run has no more entries than its script has lines

abbrev asks : List Moment → ℕ
asks [] = 0
asks (asked line event ∷ past) = suc (asks past)
asks (said note ∷ past) = asks past

asks_line : (ns : List Note) (line : ℕ) (event : Event) (past : List Moment) → asks (map said ns ++ asked line event ∷ past) ≡ suc (asks past)
asks_line [] line event past = refl
asks_line (note ∷ ns) line event past = asks_line ns line event past

asks_run : (line : ℕ) (run : Run) (entries : List Entry) → asks (moments_behind line run entries) ≡ suc (length entries)
asks_run line run [] = refl
asks_run line run (e ∷ before) = asks_line e.notes e.line e.event (moments_behind line run before) ∙ ap suc (asks_run line run before)

module _ (past : List Step) (count number : ℕ) (less : asks (world past) ≤ count) where
  asks_event : (event : Event) (ns : List Note) → asks (world (behind past number event (told (asked_by event) ns (kept past)))) ≤ suc count
  asks_event event ns =
      let is = ap asks (world-behind (asked_by event) (kept past) number event past ns) ∙ asks_line ns number event (world past) in subst (λ n. n ≤ suc count) (sym is) (le_suc (asks (world past)) count less)

  asks_pump : (event : Option Event) (ns : List Note) → asks (world (with_line past number event (told_in Pump event ns past))) ≤ suc count
  asks_pump None ns = le_more (asks (world past)) count less
  asks_pump (Some event) ns = asks_event event ns

  asks_next : (says : QueueLine) (ns : List Note) → asks (world (with_line past number (event_in says past) (told_in says (event_in says past) ns past))) ≤ suc count
  asks_next (Bus event) ns = asks_event event ns
  asks_next (Submit lba bytes) ns = le_more (asks (world past)) count less
  asks_next Pump ns = asks_pump (pumped (kept past) (writes past)) ns

asks_script : (served : List Served) → asks (world (scripts.journal served)) ≤ length served
asks_script [] = none_none
asks_script (served ∷ before) = asks_next (scripts.journal before) (length before) served.line (asks_script before) served.said served.notes

pub short_run : (served : List Served) (line : ℕ) (run : Run) → world (scripts.journal served) ≡ history_of line run → suc (length run.entries) ≤ length served
short_run served line run history =
    let all : asks (world (scripts.journal served)) ≡ suc (length run.entries) = ap asks history ∙ asks_run line run run.entries in
    subst (λ n. n ≤ length served) all (asks_script served)

-- ---- every script

module _ (served : List Served) (line : ℕ) (run : Run) (h : IsQueueRun served line run) where
  abbrev start : List Disk
  start = run.start.disks

  abbrev wild : ℕ → Bool
  wild = injectors (history_of line run)

  on_lists : LawfulOnLists wild start (history_of line run)
  on_lists = (script_laws served line run h).on_lists

  good : Good (scripts.journal served) (length served)
  good =
      goes wild line run h.like.few (let one = h.one in omega (arith, one)) start served run.entries h.lines h.count h.history
      (record { sent = h.laws.of_wire.sent; answered = h.laws.of_wire.answered; taken = finished_law.taken line run (script_is_run served line run h); order = on_lists.order })
      (record { every = h.entries_are; fit = h.like.lines; small = h.like.count; brings = h.laws.on_the_bus.lines })

  pub is_journal : IsJournal (scripts.journal served)
  is_journal = record {
    made = good.holds.stands.made;
    follows = good.holds.stands.follows;
    brought = good.holds.stands.brought;
    plain = queue_runs_plain served line run h;
  }

  pub some_medium : 0 < length start
  some_medium = let media = h.like.media in let units = h.some in omega (arith, media, units)

  keeps_law : (bytes : List ℕ) → (disk_at start 0).bytes ≡ Some bytes → length bytes ≡ 512 * (disk_at start 0).blocks → QueueLaw (disk_at start 0) bytes (scripts.journal served)
  keeps_law bytes tells whole = queues_are_lawful wild start bytes (scripts.journal served) (record {
    journal = is_journal;
    tame = script_is_tame served line run h;
    lawful = subst (LawfulOnLists wild start) (sym h.history) on_lists;
    some = some_medium;
    tells = tells;
    whole = whole;
  })

  pub has_queue_law : HasQueueLaw served run
  has_queue_law = record {
    is = is_journal;
    keeps = kept_law (scripts.journal served) good.holds.stands.brought good.holds.stands.heard;
    lawful = keeps_law;
  }

pub queue_runs_law : QueueRunsLaw
queue_runs_law served line run h = has_queue_law served line run h

-- and the media that it leaves
pub queue_media_law : QueueMediaLaw
queue_media_law served line run s h stands =
    let units = (stands.states line h.like h.some h.most).target.units in
    ap (λ (p : PlainDisk). p.medium) (sym (units.each 0))
    ∙ ap (λ ms. disk_of run.start.disks ms 0) (sym h.history)
    ∙ fold_is run.start.disks (some_medium served line run h) (scripts.journal served) (is_journal served line run h)
