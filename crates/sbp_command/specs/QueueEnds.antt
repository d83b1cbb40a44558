-- What the top call promises of `queue`, by its status.
use Rattle.std.specs.Prelude.{◌≡◌, ◌⊎◌, ℕ, false, List, [], ◌++◌, take, codes, ◌∷◌, Option, Some, None, IfSome}
use Rattle.std.specs.Io.KnownBytes.{Appends, Consumes, IsAtEnd}
use Rattle.sbp_base.specs.Faults.{Rose}
use Rattle.line_session.specs.Ends.{NoFault}
use Rattle.line_session.specs.Lines.{NoFeed, IsWhole, is_surely_long}
use Rattle.line_session.specs.Outside.{Outside}
use Rattle.rbc_disk.specs.Disk.{disk_at}
use Rattle.rbc_disk.specs.Held.{Held}
use Rattle.sbp_world.specs.Runs.{Run}
use Rattle.retry_queue.specs.declared.line.QueueLine.{QueueLine}
use Rattle.retry_queue.specs.declared.note.QueueNote.{QueueNote}
use Rattle.retry_queue.specs.Journals.{medium}
use Rattle.retry_queue.specs.Runs.{HasQueueLaw, IsQueueRun}
use Rattle.retry_queue.specs.Scripts.{Served, journal, notes_in, said_in}
use Rattle.retry_queue.specs.Texts.{text_of}
use Rattle.script_runner.specs.Events as machine
use Rattle.script_runner.specs.Events.{MayLeave, events_of}
use Rattle.sbp_command.specs.Machine.{HasRun}
use Rattle.sbp_command.specs.QueueLines.{QueueScript, queue_script}
use Rattle.sbp_command.specs.Scripts.{ending}
use Rattle.sbp_command.specs.declared.status.Status.{Status}
use Rattle.sbp_command.specs.declared.status.Status.TheVariants as statuses

abbrev pub IsQueue : List (List ℕ) → Type 0
IsQueue words = words ≡ codes "queue" ∷ []

-- ---- what the queue does over some lines

-- Exactly these lines were served, each with what the world told in it, and the notes are those of the queue's journal over them. The history
-- of its world is that of a run of the machine by one initiator over exactly the events of that journal, from what the media held at first,
-- with the laws of such a run and all else that holds of it; so the media are as that run leaves them. The journal keeps the queue law over what
-- unit 0 held at first, and what unit 0 holds now is what the journal says of it.
pub record HasQueueRun (start : Held) (said : List (ℕ × QueueLine)) (notes : List QueueNote) (now : Held) : Type 0 where
  pub served : List Served
  pub line : ℕ
  pub run : Run
  pub said_is : said_in served ≡ said
  pub notes_are : notes ≡ notes_in served
  pub start_is : run.start ≡ start
  pub queue_run : IsQueueRun served line run
  pub lawful : HasQueueLaw served run
  pub medium_is : disk_at now.disks 0 ≡ medium (disk_at start.disks 0) (journal served)
  pub ran : HasRun start (events_of line run) (machine.journal run) now

-- No run begins: no line says anything, there is no note, and the media are as they were.
pub record HasNoQueue (start : Held) (said : List (ℕ × QueueLine)) (notes : List QueueNote) (now : Held) : Type 0 where
  pub said_is : said ≡ []
  pub notes_are : notes ≡ []
  pub media_are : now ≡ start

abbrev pub RunsQueue : Held → List (ℕ × QueueLine) → List QueueNote → Held → Type 0
RunsQueue start said notes now = HasNoQueue start said notes now ⊎ HasQueueRun start said notes now

-- ---- by status

-- The whole input, where the source tells it, was served up to its first faulty line; the sink gained the text of what the queue tells over
-- exactly what the lines before it say, and that of the fault, and the media are as the queue leaves them.
pub record RanQueue (before now : Outside) (fault : Option (ℕ × ℕ)) : Type 0 where
  pub input : List ℕ
  pub notes : List QueueNote
  pub told : IfSome before.left (λ bytes. bytes ≡ input)
  pub fault_is : (queue_script input).fault ≡ fault
  pub ran : RunsQueue before.media (queue_script input).said notes now.media
  pub written : Appends before.written now.written (text_of notes ++ ending fault)
  pub no_fault : NoFault before now

-- The whole lines that were read were served, and the sink gained the text of what the queue tells over them; a line without its line feed,
-- which may yet be short enough, was not served.
pub record RanQueueLines (before now : Outside) : Type 0 where
  pub whole : List ℕ
  pub rest : List ℕ
  pub notes : List QueueNote
  pub consumed : Consumes before.left now.left (whole ++ rest)
  pub is_whole : IsWhole whole
  pub no_feed : NoFeed rest
  pub short : is_surely_long rest ≡ false
  pub fault_is : (queue_script whole).fault ≡ None
  pub ran : RunsQueue before.media (queue_script whole).said notes now.media
  pub written : Appends before.written now.written (text_of notes)

-- The text of some notes, and, where they are of all lines, that of the script's fault.
abbrev pub QueueWrites : QueueScript → List (ℕ × QueueLine) → List QueueNote → List ℕ → Type 0
QueueWrites s said notes output =
    (output ≡ text_of notes) ⊎ ((said ≡ s.said) × (output ≡ text_of notes ++ ending s.fault))

-- A front of such a text was written, for what the queue does over the first lines of the input; so it leaves the media.
pub record TornQueue (before now : Outside) (media : Held) : Type 0 where
  pub input : List ℕ
  pub said : List (ℕ × QueueLine)
  pub notes : List QueueNote
  pub count : ℕ
  pub output : List ℕ
  pub len : ℕ
  pub told : IfSome before.left (λ bytes. bytes ≡ input)
  pub first : said ≡ take count (queue_script input).said
  pub ran : RunsQueue before.media said notes media
  pub may_write : QueueWrites (queue_script input) said notes output
  pub written : Appends before.written now.written (take len output)

-- So it was, and then memory was wanting in the next line: there are as many media, and no count of faults fell.
pub record TornQueueAndLeft (before now : Outside) : Type 0 where
  pub media : Held
  pub torn : TornQueue before now media
  pub left : MayLeave media now.media

-- the clause of `queue` by status
abbrev pub QueueEnds : Status → Outside → Outside → Type 0
QueueEnds statuses.Done before now = IsAtEnd now.left × RanQueue before now None
QueueEnds statuses.Words before now = ⊥
QueueEnds statuses.Script before now = (fault : ℕ × ℕ) × RanQueue before now (Some fault)
QueueEnds statuses.ReadFault before now = Rose before.reads now.reads × RanQueueLines before now
QueueEnds statuses.WriteFault before now = Rose before.writes now.writes × TornQueue before now now.media
QueueEnds statuses.NoMemory before now = NoFault before now × TornQueueAndLeft before now
