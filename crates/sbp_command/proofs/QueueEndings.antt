-- A script of a queue ends as its status says.
use Rattle.std.proofs.Common.{◌≡◌, ◌∙◌, refl, sym, ap, subst, ℕ, ◌+◌, ◌≤◌, inl, inr, List, [], ◌∷◌, ◌++◌, take, length, Option, Some, None, append-nil, arith}
use Rattle.std.specs.Prelude.{IfSome}
use Rattle.std.specs.Io.KnownBytes.{Appends}
use Rattle.std.specs.Str.Lines.{lines}
use Rattle.std.proofs.lemmas.List.{length-append}
use Rattle.rbc_disk.specs.Disk.{disk_at}
use Rattle.rbc_disk.specs.Held.{Held}
use Rattle.line_session.specs.Outside.{Outside}
use Rattle.line_session.specs.Meaning.{fault_text}
use Rattle.line_session.specs.Ends.{Ends, Brings}
use Rattle.line_session.specs.Ends as stream
use Rattle.line_session.specs.Ends.Brings.{lines_alone, with_fault, with_end}
use Rattle.line_session.specs.declared.status.Status.{Status}
use Rattle.line_session.specs.declared.status.Status.TheVariants as stream_statuses
use Rattle.sbp_world.specs.Completing.Deaths.{AreLegal}
use Rattle.retry_queue.specs.declared.line.QueueLine.{QueueLine}
use Rattle.retry_queue.specs.declared.note.QueueNote.{QueueNote}
use Rattle.retry_queue.specs.Journals.{medium}
use Rattle.retry_queue.specs.Queues.{QueueState, queue_over, world_scene}
use Rattle.retry_queue.specs.Runs.{HasQueueLaw, IsQueueRun, QueueMediaLaw, QueueRunsLaw}
use Rattle.retry_queue.specs.Scripts.{Served, journal, notes_in, said_in}
use Rattle.retry_queue.specs.Texts.{text_of}
use Rattle.retry_queue.proofs.StandingRuns.{stands_for_runs}
use Rattle.script_runner.specs.Events.{events_of}
use Rattle.sbp_command.specs.Headline.{status_of}
use Rattle.sbp_command.specs.QueueEnds.{HasQueueRun, QueueEnds, RunsQueue, TornQueue}
use Rattle.sbp_command.specs.QueueLines.{begun_by, of_lines, queue_script}
use Rattle.sbp_command.specs.QueueRunner.{InRun, RanSo, Stands, queue_meaning}
use Rattle.sbp_command.specs.Scripts.{ending}
use Rattle.sbp_command.proofs.Scripts.{front_events}
use Rattle.sbp_command.proofs.QueueLegal.{made_legal}
use Rattle.sbp_command.proofs.QueueScripts.{refused-says, said_few, served-fault, served-next}
use Rattle.sbp_command.proofs.Wires.{has_run}

-- ---- what a queue did

-- as much is said as lines were served
said_count : (served : List Served) → length (said_in served) ≡ length served
said_count [] = refl
said_count (last ∷ before) =
    let more = length-append (said_in before) ((last.line, last.said) ∷ []) in
    let rest = said_count before in
    omega (arith, more, rest)

-- what holds of every run of a queue
pub record QueueLaws : Type 0 where
  pub lawful : QueueRunsLaw
  pub leaves : QueueMediaLaw

-- the run is one of a queue
module _ (laws : QueueLaws) (start : Held) (before : List (ℕ × QueueLine)) (text : List ℕ) (queue : QueueState) (media : Held) (few : length before ≤ 65536) (h : InRun start before text queue media) where
  lines_few : length h.served ≤ 65536
  lines_few = let same = said_count h.served in let all = ap length h.said_is in omega (arith, same, all, few)

  entries_few : length h.run.entries ≤ 65535
  entries_few = let served = lines_few in let count = h.count in omega (arith, served, count)

  queue_run : IsQueueRun h.served h.stands.line h.run
  queue_run = stands_for_runs h.served h.run (queue_over queue media) h.stands h.lines lines_few (h.units_are ∙ sym (ap (λ (m : Held). length m.disks) h.start_is)) h.some h.most

  queue_law : HasQueueLaw h.served h.run
  queue_law = laws.lawful h.served h.stands.line h.run queue_run

  -- what its media hold is what the journal says of it
  queue_medium : disk_at media.disks 0 ≡ medium (disk_at start.disks 0) (journal h.served)
  queue_medium =
      laws.leaves h.served h.stands.line h.run (world_scene (queue_over queue media)) queue_run h.stands.stands ∙ ap (λ (m : Held). medium (disk_at m.disks 0) (journal h.served)) h.start_is

  has_queue_run : HasQueueRun start before (notes_in h.served) media
  has_queue_run = record {
    served = h.served;
    line = h.stands.line;
    run = h.run;
    said_is = h.said_is;
    notes_are = refl;
    start_is = h.start_is;
    queue_run = queue_run;
    lawful = queue_law;
    medium_is = queue_medium;
    ran = has_run h.stands.line h.run start media queue.world (events_of h.stands.line h.run) h.start_is h.units_are h.some h.most (let same = h.stands.one in omega (arith, same)) entries_few refl h.stands.stands.stands h.stands.lines h.stands.typed (subst AreLegal queue_run.history (made_legal (journal h.served) queue_law.is.made));
  }

-- what the queue told, and its text
record Tells (start : Held) (before : List (ℕ × QueueLine)) (text : List ℕ) (media : Held) : Type 0 where
  notes : List QueueNote
  runs : RunsQueue start before notes media
  text_is : text ≡ text_of notes

tells_by : (laws : QueueLaws) (start media : Held) (before : List (ℕ × QueueLine)) (text : List ℕ) (o : Option QueueState) → length before ≤ 65536 → Stands start before text o media → Tells start before text media
tells_by laws start media before text None few h = record {
  notes = [];
  runs = inl (record { said_is = h.said_is; notes_are = refl; media_are = h.media_are });
  text_is = h.text_is;
}
tells_by laws start media before text (Some queue) few h = record {
  notes = notes_in h.served;
  runs = inr (has_queue_run laws start before text queue media few h);
  text_is = h.text_is;
}

tells : (laws : QueueLaws) (start media : Held) (served : List (List ℕ)) (text : List ℕ) (state : Option QueueState) → RanSo start served text state media → Tells start (of_lines served).said text media
tells laws start media served text state h =
    let few = said_few 1 0 served in
    let count = h.count in
    tells_by laws start media (of_lines served).said text state (omega (arith, few, count)) h.stands

-- ---- how it ended

-- what is said first in the input
first_said : (served others : List (List ℕ)) (input : List ℕ) → (of_lines served).fault ≡ None → lines input ≡ served ++ others → (of_lines served).said ≡ take (length (of_lines served).said) (queue_script input).said
first_said served [] input clean e = front_events (of_lines served).said [] (queue_script input).said (ap (λ ls. (of_lines ls).said) (e ∙ append-nil served) ∙ sym (append-nil _))
first_said served (line ∷ others) input clean e = front_events (of_lines served).said _ (queue_script input).said (ap (λ ls. (of_lines ls).said) e ∙ ap (λ s. s.said) (served-next served line others clean))

torn_by : (laws : QueueLaws) (before now : Outside) (served others : List (List ℕ)) (input output : List ℕ) (len : ℕ) (media : Held) → IfSome before.left (λ bytes. bytes ≡ input) → lines input ≡ served ++ others
    → Brings queue_meaning before.media served others media output → Appends before.written now.written (take len output) → TornQueue before now media
torn_by laws before now served others input output len media told e (lines_alone text (state, h)) w =
    let t = tells laws before.media media served text state h in
    record {
      input = input;
      said = (of_lines served).said;
      notes = t.notes;
      count = length (of_lines served).said;
      output = text;
      len = len;
      told = told;
      first = first_said served others input h.clean e;
      ran = t.runs;
      may_write = inl t.text_is;
      written = w;
    }
torn_by laws before now served others input output len media told e (with_fault text line behind fault (state, h) f refused) w =
    let t = tells laws before.media media served text state h in
    let read = refused-says (1 + length served) (begun_by 0 (of_lines served).said) line fault refused in
    let found : queue_script input ≡ record { said = (of_lines served).said; fault = Some (1 + length served, fault) } = ap of_lines (e ∙ ap (λ ls. served ++ ls) f) ∙ served-fault served line behind fault h.clean read in
    record {
      input = input;
      said = (of_lines served).said;
      notes = t.notes;
      count = length (of_lines served).said;
      output = output;
      len = len;
      told = told;
      first = first_said served others input h.clean e;
      ran = t.runs;
      may_write = inr (sym (ap (λ s. s.said) found), ap (λ x. x ++ fault_text (1 + length served) fault) t.text_is ∙ ap (λ s. text_of t.notes ++ ending s.fault) (sym found));
      written = w;
    }
torn_by laws before now served others input output len media told e (with_end text f (state, h)) w =
    let t = tells laws before.media media served text state h in
    record {
      input = input;
      said = (of_lines served).said;
      notes = t.notes;
      count = length (of_lines served).said;
      output = text;
      len = len;
      told = told;
      first = first_said served others input h.clean e;
      ran = t.runs;
      may_write = inl t.text_is;
      written = w;
    }

torn : (laws : QueueLaws) (before now : Outside) (t : stream.Torn queue_meaning before now) → TornQueue before now t.media
torn laws before now t = torn_by laws before now t.served t.others t.input t.output t.len t.media t.told t.input_is t.brings t.written

pub queue_ends : (laws : QueueLaws) (status : Status) (before now : Outside) → Ends queue_meaning status before now → QueueEnds (status_of status) before now
queue_ends laws stream_statuses.Done before now (end, s) = (
  end,
  let h = s.closed.1 in
      let t = tells laws before.media now.media (lines s.input) s.text s.closed.0 h in
      record {
        input = s.input;
        notes = t.notes;
        told = s.told;
        fault_is = h.clean;
        ran = t.runs;
        written = subst (Appends before.written now.written) (t.text_is ∙ sym (append-nil (text_of t.notes))) s.written;
        no_fault = s.no_fault;
      },
)
queue_ends laws stream_statuses.Script before now s =
    let h = s.ran.1 in
    let t = tells laws before.media now.media s.served s.text s.ran.0 h in
    let read = refused-says (1 + length s.served) (begun_by 0 (of_lines s.served).said) s.line s.fault s.refused in
    let found : queue_script s.input ≡ record { said = (of_lines s.served).said; fault = Some (1 + length s.served, s.fault) } = ap of_lines s.input_is ∙ served-fault s.served s.line s.others s.fault h.clean read in (
      (1 + length s.served, s.fault),
      record {
        input = s.input;
        notes = t.notes;
        told = s.told;
        fault_is = ap (λ x. x.fault) found;
        ran = subst (λ all. RunsQueue before.media all t.notes now.media) (sym (ap (λ x. x.said) found)) t.runs;
        written = subst (λ x. Appends before.written now.written (x ++ fault_text (1 + length s.served) s.fault)) t.text_is s.written;
        no_fault = s.no_fault;
      },
    )
queue_ends laws stream_statuses.ReadFault before now (rose, s) = (
  rose,
  let h = s.ran.1 in
      let t = tells laws before.media now.media (lines s.whole) s.text s.ran.0 h in
      record {
        whole = s.whole;
        rest = s.rest;
        notes = t.notes;
        consumed = s.consumed;
        is_whole = s.is_whole;
        no_feed = s.no_feed;
        short = s.short;
        fault_is = h.clean;
        ran = t.runs;
        written = subst (Appends before.written now.written) t.text_is s.written;
      },
)
queue_ends laws stream_statuses.WriteFault before now (rose, (t, same)) = (rose, subst (λ media. TornQueue before now media) same (torn laws before now t))
queue_ends laws stream_statuses.NoMemory before now (no_fault, t) = (no_fault, record { media = t.media; torn = torn laws before now t; left = t.stays })
