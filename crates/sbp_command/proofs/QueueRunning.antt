-- A script of a queue is run line by line: what the queue stands for goes on.
use Rattle.std.proofs.Common.{◌≡◌, ◌∙◌, refl, sym, ap, subst, ℕ, true, ◌+◌, ◌<◌, ◌≤◌, List, [], ◌∷◌, ◌++◌, length, map, reverse, Option, Some, None, Result, Ok, Err, append_assoc, append-nil, arith}
use Rattle.std.specs.Prelude.{OnOk}
use Rattle.std.specs.List.{AllByRecursion}
use Rattle.std.proofs.lemmas.List.{length-append, length-map}
use Rattle.std.proofs.lemmas.List.Concat.{flat_map-append}
use Rattle.rbc_disk.specs.Disk.{Disk}
use Rattle.rbc_disk.specs.Held.{Held, held}
use Rattle.sbp_journal.specs.declared.event.Event.{Event}
use Rattle.sbp_journal.specs.declared.event.Event.TheVariants as events
use Rattle.sbp_journal.specs.declared.note.Note.{Note}
use Rattle.sbp_world.specs.Making.{notes_begin}
use Rattle.sbp_world.specs.Runs.{Run, entry, with_entry}
use Rattle.line_session.specs.Meaning.{Serves}
use Rattle.line_session.specs.declared.serve.LineError.{LineError}
use Rattle.line_session.specs.declared.serve.LineError.TheVariants.{Fault, NoMemory}
use Rattle.retry_queue.specs.declared.line.QueueLine.{QueueLine}
use Rattle.retry_queue.specs.declared.line.QueueLine.TheVariants.{Bus, Submit, Pump}
use Rattle.retry_queue.specs.declared.note.QueueNote.{QueueNote}
use Rattle.retry_queue.specs.declared.note.QueueNote.TheVariants as told_notes
use Rattle.retry_queue.specs.Journals.{IsSubmission}
use Rattle.retry_queue.specs.Kept.{asked_by, kept, new_kept, told}
use Rattle.retry_queue.specs.Queues.{Pumps, PumpsBy, QueueScene, QueueState, QueueStands, RunsLine, Submits, first_run, pumped, queue_over, submission, writes}
use Rattle.retry_queue.specs.Scripts.{AreServed, IsOfBus, MaySay, Served, beginning_line, event_in, first_served, fresh_in, journal, notes_in, told_in, with_line}
use Rattle.retry_queue.specs.Steps.{submitted, submissions}
use Rattle.retry_queue.specs.Texts.{HasForm, note_text, text_of}
use Rattle.retry_queue.proofs.ScriptRuns.{writes_count}
use Rattle.script_runner.specs.Script.{Hears}
use Rattle.script_runner.proofs.Kept.{world_fresh}
use Rattle.script_runner.proofs.Running.{served_few}
use Rattle.sbp_command.specs.QueueLines.{begun_by, heard, initiators_after, of_lines, says}
use Rattle.sbp_command.specs.QueueRunner.{BeginsIn, CanRun, Does, InRun, IsBegun, MaySayIn, RanSo, Stands, initiators_in, queue_meaning}
use Rattle.sbp_command.proofs.QueueScripts.{begun_by-more, served-more, says-within}

-- ---- how a run begins

-- no line was run
pub fresh : (disks : List Disk) (faults : List ℕ) → RanSo (held disks faults) [] [] None (held disks faults)
fresh disks faults = record {
  count = omega arith;
  clean = refl;
  initiators = refl;
  stands = record { said_is = refl; text_is = refl; media_are = refl };
}

pub can_begin : {A : Type 0} (f : A → Disk) (boxes : List A) (faults : List ℕ) → 1 ≤ length boxes → length boxes ≤ 4 → CanRun 1 None (held (map f boxes) faults)
can_begin f boxes faults some few =
    let count = length-map boxes f in record { first = omega arith; some = omega arith; few = omega arith; queue = tt }

-- ---- the first line

-- what a queue that begins tells
begun_fresh : (units : ℕ) (out next : List ℕ) (queue : QueueState) → IsBegun units out next queue → queue.fresh ≡ told None (notes_begin 1 true ∷ []) new_kept
begun_fresh units out next queue b =
    let stands = b.begins 0 (held [] []) in
    b.fresh ∙ ap (λ ns. told None ns new_kept) (ap (λ s. s.world.fresh) stands.stands.stands.state ∙ world_fresh 1 true units)

begun_run : (units : ℕ) (start media : Held) (before : List (ℕ × QueueLine)) (front out next : List ℕ) (number : ℕ) (queue : QueueState) → units ≡ length media.disks → CanRun number None media → IsBegun units out next queue
    → Stands start before (front ++ out) None media → InRun start (before ++ (number, beginning_line) ∷ []) (front ++ next) queue media
begun_run units start media before front out next number queue u can b h = record {
  served = first_served number ∷ [];
  run = first_run units media;
  lines = refl;
  said_is = ap (λ all. all ++ (number, beginning_line) ∷ []) (sym h.said_is);
  text_is =
      ap (λ t. front ++ t) b.text_is
      ∙ sym (append_assoc front out _)
      ∙ ap (λ t. t ++ text_of (reverse queue.fresh)) h.text_is
      ∙ ap (λ ns. text_of (reverse ns)) (begun_fresh units out next queue b);
  start_is = h.media_are;
  units_are = u ∙ ap (λ m. length m.disks) h.media_are;
  some = subst (λ n. 0 < n) (sym u) (let one = can.some in omega (arith, one));
  most = subst (λ n. n ≤ 4) (sym u) can.few;
  stands = b.begins number media;
  count = omega arith;
}

pub begun_so : (units : ℕ) (start media : Held) (before : List (ℕ × QueueLine)) (front out next : List ℕ) (number : ℕ) (state : Option QueueState) → units ≡ length media.disks → CanRun number None media → BeginsIn units out next state
    → Stands start before (front ++ out) None media → Stands start (before ++ (number, beginning_line) ∷ []) (front ++ next) state media
begun_so units start media before front out next number None u can b h = absurd b
begun_so units start media before front out next number (Some queue) u can b h = begun_run units start media before front out next number queue u can b h

pub can_go : (units number : ℕ) (media : Held) (out next : List ℕ) (state : Option QueueState) → units ≡ length media.disks → BeginsIn units out next state → CanRun number None media → CanRun (number + 1) state media
can_go units number media out next None u b can = absurd b
can_go units number media out next (Some queue) u b can =
    let first = can.first in
    let none : length queue.submissions ≡ 0 = ap length (b.begins number media).submissions in
    record {
      first = omega (arith, first);
      some = can.some;
      few = can.few;
      queue = record { one = b.one; units = b.units_are ∙ u; few = omega (arith, none, first) };
    }

pub begun_initiators : (units : ℕ) (out next : List ℕ) (state : Option QueueState) → BeginsIn units out next state → initiators_in state ≡ initiators_after 0 (Ok (Some beginning_line))
begun_initiators units out next None b = absurd b
begun_initiators units out next (Some queue) b = refl

-- ---- one more line

-- The run that a queue stands for behind one line more, in which its world told these notes.
record IsBehind (served : List Served) (run : Run) (number : ℕ) (said : QueueLine) (queue : QueueState) (media : Held) : Type 0 where
  notes : List Note
  next : Run
  start_is : next.start ≡ run.start
  units_are : next.units ≡ run.units
  count : length next.entries ≤ length run.entries + 1
  fresh_is : queue.fresh ≡ fresh_in (record { line = number; said = said; notes = notes }) (journal served)
  stands : QueueStands (journal (record { line = number; said = said; notes = notes } ∷ served)) next (queue_over queue media)

-- a line that hands this event to the world
ran_behind : (served : List Served) (run : Run) (number : ℕ) (said : QueueLine) (event : Event) (queue new : QueueState) (old media : Held) → event_in said (journal served) ≡ Some event
    → ((notes : List Note) → told_in said (Some event) notes (journal served) ≡ told (asked_by event) notes (kept (journal served)))
    → RunsLine number event (queue_over queue old) (queue_over new media) → QueueStands (journal served) run (queue_over queue old) → IsBehind served run number said new media
ran_behind served run number said event queue new old media e tells ran h =
    let past = journal served in
    let g = ran.goes_on past run h in
    let fresh_is : new.fresh ≡ told_in said (Some event) new.world.fresh past = ran.tells ∙ ap (told (asked_by event) new.world.fresh) h.keeps ∙ sym (tells new.world.fresh) in
    record {
      notes = new.world.fresh;
      next = with_entry run (entry number event g.ran new.world.fresh);
      start_is = refl;
      units_are = refl;
      count = omega arith;
      fresh_is = fresh_is ∙ ap (λ due. told_in said due new.world.fresh past) (sym e);
      stands =
          subst (λ due. QueueStands (with_line past number due (told_in said due new.world.fresh past)) (with_entry run (entry number event g.ran new.world.fresh)) (queue_over new media)) (sym e)
          (subst (λ ns. QueueStands (with_line past number (Some event) ns) (with_entry run (entry number event g.ran new.world.fresh)) (queue_over new media)) fresh_is g.stands);
    }

-- a pump by the event of its table
pumped_behind : (served : List Served) (run : Run) (number : ℕ) (due : Option Event) (queue new : QueueState) (old media : Held) → event_in Pump (journal served) ≡ due → PumpsBy due number (queue_over queue old) (queue_over new media)
    → QueueStands (journal served) run (queue_over queue old) → IsBehind served run number Pump new media
pumped_behind served run number (Some event) queue new old media e ran h = ran_behind served run number Pump event queue new old media e (λ notes. refl) ran h
pumped_behind served run number None queue new old media e idle h =
    let past = journal served in
    record {
      notes = [];
      next = run;
      start_is = refl;
      units_are = refl;
      count = omega arith;
      fresh_is = ap (λ s. s.queue.fresh) idle.is ∙ ap (λ due. told_in Pump due [] past) (sym e);
      stands = subst (λ due. QueueStands (with_line past number due (told_in Pump due [] past)) run (queue_over new media)) (sym e) (idle.goes_on past run h);
    }

goes_behind : (served : List Served) (run : Run) (number : ℕ) (said : QueueLine) (queue new : QueueState) (old media : Held) → Does number said (queue_over queue old) (queue_over new media)
    → QueueStands (journal served) run (queue_over queue old) → IsBehind served run number said new media
goes_behind served run number (Bus event) queue new old media ran h = ran_behind served run number (Bus event) event queue new old media refl (λ notes. refl) ran h
goes_behind served run number (Submit lba bytes) queue new old media does h =
    let past = journal served in
    let fresh_is : new.fresh ≡ told_notes.Submit (submissions past) lba bytes ∷ []
    = ap (λ q. q.fresh) does.0.is ∙ ap (λ q. told_notes.Submit q lba bytes ∷ []) (ap length h.submissions ∙ writes_count past) in
    record {
      notes = [];
      next = run;
      start_is = refl;
      units_are = refl;
      count = omega arith;
      fresh_is = fresh_is;
      stands = subst (λ m. QueueStands (submitted lba bytes ∷ past) run (queue_over new m)) (sym does.1) (does.0.goes_on past run old h);
    }
goes_behind served run number Pump queue new old media pumps h =
    let same : pumped queue.kept queue.submissions ≡ pumped (kept (journal served)) (writes (journal served))
    = ap (λ k. pumped k queue.submissions) h.keeps ∙ ap (pumped (kept (journal served))) h.submissions in
    pumped_behind served run number (pumped (kept (journal served)) (writes (journal served))) queue new old media refl (subst (λ due. PumpsBy due number (queue_over queue old) (queue_over new media)) same pumps) h

more_served : (s : Served) (served : List Served) → MaySay s.said → AreServed served → AreServed (s ∷ served)
more_served s [] may h = absurd h
more_served s (other ∷ before) may h = (may, h)

joined_text : (xs ys : List QueueNote) → text_of xs ++ text_of ys ≡ text_of (xs ++ ys)
joined_text xs ys = sym (flat_map-append note_text xs ys)

-- a queue goes on
pub went_on : (start old media : Held) (before : List (ℕ × QueueLine)) (front out next : List ℕ) (number : ℕ) (said : QueueLine) (queue new : QueueState) → Does number said (queue_over queue old) (queue_over new media)
    → next ≡ out ++ text_of (reverse new.fresh) → MaySay said → InRun start before (front ++ out) queue old → InRun start (before ++ (number, said) ∷ []) (front ++ next) new media
went_on start old media before front out next number said queue new does e may h =
    let b = goes_behind h.served h.run number said queue new old media does h.stands in
    let last : Served = record { line = number; said = said; notes = b.notes } in
    record {
      served = last ∷ h.served;
      run = b.next;
      lines = more_served last h.served may h.lines;
      said_is = ap (λ all. all ++ (number, said) ∷ []) h.said_is;
      text_is =
          ap (λ t. front ++ t) e
          ∙ sym (append_assoc front out _)
          ∙ ap (λ t. t ++ text_of (reverse new.fresh)) h.text_is
          ∙ joined_text (notes_in h.served) (reverse new.fresh)
          ∙ ap (λ ns. text_of (notes_in h.served ++ reverse ns)) b.fresh_is;
      start_is = b.start_is ∙ h.start_is;
      units_are = b.units_are ∙ h.units_are;
      some = subst (λ n. 0 < n) (sym b.units_are) h.some;
      most = subst (λ n. n ≤ 4) (sym b.units_are) h.most;
      stands = b.stands;
      count = let more = b.count in let few = h.count in omega (arith, more, few);
    }

pub went_can : (number : ℕ) (old media : Held) (queue new : QueueState) → length new.world.initiators ≡ 1 → length new.world.target.units ≡ length queue.world.target.units → length media.disks ≡ length old.disks
    → length new.submissions ≤ length queue.submissions + 1 → CanRun number (Some queue) old → CanRun (number + 1) (Some new) media
went_can number old media queue new one u m more h =
    let first = h.first in
    let few = h.queue.few in
    record {
      first = omega (arith, first);
      some = subst (λ n. 1 ≤ n) (sym m) h.some;
      few = subst (λ n. n ≤ 4) (sym m) h.few;
      queue = record { one = one; units = u ∙ h.queue.units ∙ sym m; few = omega (arith, more, few) };
    }

-- what a line that goes on a run leaves of the number of initiators
pub same_initiators : (i : ℕ) (said : QueueLine) → MaySay said → initiators_after i (Ok (Some said)) ≡ i
same_initiators i (Bus event) h = by event h
  where
    by : (event : Event) → IsOfBus event → initiators_after i (Ok (Some (Bus event))) ≡ i
    by (events.Begin initiators ready) h = absurd h.line
    by (events.Act initiator action) h = refl
    by (events.Reset ids) h = refl
    by (events.See node) h = refl
    by (events.Deliver serial) h = refl
    by (events.Repeat serial) h = refl
    by (events.Lose serial) h = refl
    by (events.Timeout serial) h = refl
    by (events.Step count) h = refl
    by events.Settle h = refl
    by events.Tick h = refl
    by (events.Inject initiator bytes) h = refl
    by (events.Key unit key) h = refl
same_initiators i (Submit lba bytes) h = refl
same_initiators i Pump h = refl

-- ---- a line is done

pub says_bus : (said : QueueLine) (event : Event) → said ≡ Bus event → MaySay said → IsOfBus event
says_bus said event e h = subst MaySay e h

pub says_write : (said : QueueLine) (lba : ℕ) (bytes : List ℕ) → said ≡ Submit lba bytes → MaySay said → IsSubmission lba bytes
says_write said lba bytes e h = subst MaySay e h

pub does_bus : (number : ℕ) (said : QueueLine) (event : Event) (old new : QueueScene) → said ≡ Bus event → RunsLine number event old new → Does number said old new
does_bus number said event old new e h = subst (λ line. Does number line old new) (sym e) h

pub does_write : (number : ℕ) (said : QueueLine) (lba : ℕ) (bytes : List ℕ) (old new : QueueState) (media : Held) → said ≡ Submit lba bytes → Submits lba bytes old new → Does number said (queue_over old media) (queue_over new media)
does_write number said lba bytes old new media e h = subst (λ line. Does number line (queue_over old media) (queue_over new media)) (sym e) (h, refl)

pub does_pump : (number : ℕ) (said : QueueLine) (old new : QueueScene) → said ≡ Pump → Pumps number old new → Does number said old new
does_pump number said old new e h = subst (λ line. Does number line old new) (sym e) h

-- no submission more than there were lines
pub one_more : (lba : ℕ) (bytes : List ℕ) (old new : QueueState) → Submits lba bytes old new → length new.submissions ≤ length old.submissions + 1
one_more lba bytes old new h =
    let all = ap (λ q. length q.submissions) h.is in
    let more = length-append old.submissions (submission lba bytes ∷ []) in
    omega (arith, all, more)

pub same_count : (old new : QueueState) → new.submissions ≡ old.submissions → length new.submissions ≤ length old.submissions + 1
same_count old new same = let all = ap length same in omega (arith, all)

pub write_form : (lba : ℕ) (bytes : List ℕ) (old new : QueueState) → Submits lba bytes old new → AllByRecursion HasForm new.fresh
write_form lba bytes old new h = subst (λ q. AllByRecursion HasForm q.fresh) (sym h.is) (tt, tt)

-- ---- the runner

pub always_ok : {A E : Type 0} (result : Result A E) (P : Type 0) → P → OnOk result P
always_ok (Ok a) P p = p
always_ok (Err e) P p = tt

-- the queue that the runner has
pub opened_can : (now : Option QueueState) (queue : QueueState) (number : ℕ) (media : Held) → now ≡ Some queue → CanRun number now media → CanRun number (Some queue) media
opened_can now queue number media e h = subst (λ o. CanRun number o media) e h

pub opened_stands : (now : Option QueueState) (queue : QueueState) (start : Held) (before : List (ℕ × QueueLine)) (text : List ℕ) (media : Held) → now ≡ Some queue → Stands start before text now media → InRun start before text queue media
opened_stands now queue start before text media e h = subst (λ o. Stands start before text o media) e h

pub opened_says : (now : Option QueueState) (queue : QueueState) (said : QueueLine) → now ≡ Some queue → MaySayIn now said → MaySay said
opened_says now queue said e h = subst (λ o. MaySayIn o said) e h

pub opened_media : {A : Type 0} (f : A → Disk) (boxes : List A) (faults : List ℕ) (queue : QueueState) (number : ℕ) → CanRun number (Some queue) (held (map f boxes) faults) → length boxes ≡ length queue.world.target.units
opened_media f boxes faults queue number h = sym (length-map boxes f) ∙ sym h.queue.units

pub went_initiators : (now : Option QueueState) (queue : QueueState) (said : QueueLine) → now ≡ Some queue → MaySayIn now said → 1 ≡ initiators_after (initiators_in now) (Ok (Some said))
went_initiators now queue said e h = sym (same_initiators 1 said (opened_says now queue said e h)) ∙ ap (λ o. initiators_after (initiators_in o) (Ok (Some said))) (sym e)

-- a run begins where there is none
pub began_ran : (now state : Option QueueState) (units number : ℕ) (start media : Held) (before : List (ℕ × QueueLine)) (front out next : List ℕ) (said : QueueLine) → now ≡ None → units ≡ length media.disks → CanRun number now media → MaySayIn now said → BeginsIn units out next state
    → Stands start before (front ++ out) now media → Stands start (before ++ (number, said) ∷ []) (front ++ next) state media
began_ran now state units number start media before front out next said none u can says b h =
    let begun : Stands start (before ++ (number, beginning_line) ∷ []) (front ++ next) state media
    = begun_so units start media before front out next number state u (subst (λ o. CanRun number o media) none can) b (subst (λ o. Stands start before (front ++ out) o media) none h) in
    let is : said ≡ beginning_line = subst (λ o. MaySayIn o said) none says in
    subst (λ line. Stands start (before ++ (number, line) ∷ []) (front ++ next) state media) (sym is) begun

pub began_can : (now state : Option QueueState) (units number : ℕ) (media : Held) (out next : List ℕ) → now ≡ None → units ≡ length media.disks → CanRun number now media → BeginsIn units out next state → CanRun (number + 1) state media
began_can now state units number media out next none u can b = can_go units number media out next state u b (subst (λ o. CanRun number o media) none can)

pub began_initiators : (now state : Option QueueState) (units : ℕ) (out next : List ℕ) (said : QueueLine) → now ≡ None → MaySayIn now said → BeginsIn units out next state → initiators_in state ≡ initiators_after (initiators_in now) (Ok (Some said))
began_initiators now state units out next said none says b =
    let is : said ≡ beginning_line = subst (λ o. MaySayIn o said) none says in
    begun_initiators units out next state b ∙ ap (λ line. initiators_after 0 (Ok (Some line))) (sym is) ∙ ap (λ o. initiators_after (initiators_in o) (Ok (Some said))) (sym none)

-- ---- one more line of the script

-- what a line says was done
pub ran_said : (start old media : Held) (served : List (List ℕ)) (line front out next : List ℕ) (before after : Option QueueState) (number : ℕ) (said : QueueLine) → number ≡ 1 + length served → number ≤ 65536
    → heard (initiators_in before) line ≡ Ok (Some said) → initiators_in after ≡ initiators_after (initiators_in before) (Ok (Some said))
    → ((start : Held) (happened : List (ℕ × QueueLine)) (front : List ℕ) → Stands start happened (front ++ out) before old → Stands start (happened ++ (number, said) ∷ []) (front ++ next) after media)
    → RanSo start served (front ++ out) before old → RanSo start (served ++ line ∷ []) (front ++ next) after media
ran_said start old media served line front out next before after number said e few read grown stands h =
    let here : says (1 + length served) (begun_by 0 (of_lines served).said) line ≡ Ok (Some said)
    = says-within (1 + length served) (begun_by 0 (of_lines served).said) line (omega arith) ∙ ap (λ n. heard n line) (sym h.initiators) ∙ read in
    let found = served-more served line (Some said) h.clean here in
    let behind : (of_lines (served ++ line ∷ [])).said ≡ (of_lines served).said ++ (number, said) ∷ []
    = ap (λ s. s.said) found ∙ ap (λ n. (of_lines served).said ++ (n, said) ∷ []) (sym e) in
    record {
      count = served_few served line number e few;
      clean = ap (λ s. s.fault) found;
      initiators = grown ∙ ap (λ n. initiators_after n (Ok (Some said))) h.initiators ∙ sym (begun_by-more 0 (of_lines served).said (number, said)) ∙ ap (begun_by 0) (sym behind);
      stands = subst (λ all. Stands start all (front ++ next) after media) (sym behind) (stands start (of_lines served).said front h.stands);
    }

-- a line said nothing
pub ran_nothing : (start media : Held) (served : List (List ℕ)) (line text : List ℕ) (state : Option QueueState) (number : ℕ) → number ≡ 1 + length served → number ≤ 65536
    → heard (initiators_in state) line ≡ Ok None → RanSo start served text state media → RanSo start (served ++ line ∷ []) text state media
ran_nothing start media served line text state number e few read h =
    let here : says (1 + length served) (begun_by 0 (of_lines served).said) line ≡ Ok None
    = says-within (1 + length served) (begun_by 0 (of_lines served).said) line (omega arith) ∙ ap (λ n. heard n line) (sym h.initiators) ∙ read in
    let found = served-more served line None h.clean here in
    let behind : (of_lines (served ++ line ∷ [])).said ≡ (of_lines served).said
    = ap (λ s. s.said) found ∙ append-nil (of_lines served).said in
    record {
      count = served_few served line number e few;
      clean = ap (λ s. s.fault) found;
      initiators = h.initiators ∙ ap (begun_by 0) (sym behind);
      stands = subst (λ all. Stands start all text state media) (sym behind) h.stands;
    }

-- and it can go on with the next one
pub next_can : (number : ℕ) (state : Option QueueState) (media : Held) → CanRun number state media → CanRun (number + 1) state media
next_can number None media h = let first = h.first in record { first = omega (arith, first); some = h.some; few = h.few; queue = tt }
next_can number (Some queue) media h =
    let first = h.first in
    let few = h.queue.few in
    record { first = omega (arith, first); some = h.some; few = h.few; queue = record { one = h.queue.one; units = h.queue.units; few = omega (arith, few) } }

-- a line gave nothing
pub line_fails : (error : LineError) (start media : Held) (served : List (List ℕ)) (line text : List ℕ) (state after : Option QueueState) (number : ℕ) → number ≡ 1 + length served → number ≤ 65536
    → Hears (Err error) (heard (initiators_in state) line) → RanSo start served text state media
    → Serves queue_meaning (λ fault. says (1 + length served) (begun_by 0 (of_lines served).said) line ≡ Err fault) (Err error) start served line text after media media
line_fails (Fault fault) start media served line text state after number e few read h =
    (says-within (1 + length served) (begun_by 0 (of_lines served).said) line (omega arith) ∙ ap (λ n. heard n line) (sym h.initiators) ∙ read, (state, h))
line_fails NoMemory start media served line text state after number e few read h = queue_meaning.stays_same media
