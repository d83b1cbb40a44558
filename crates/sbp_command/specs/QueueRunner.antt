-- What `queue` does with lines.
use Rattle.std.specs.Prelude.{◌≡◌, ℕ, ◌+◌, ◌<◌, ◌≤◌, List, [], ◌++◌, length, reverse, slice_index, refl, Option, Some, None, Err}
use Rattle.std.proofs.Math.Nat.{le_refl}
use Rattle.rbc_disk.specs.Held.{Held}
use Rattle.sbp_world.specs.Runs.{Run}
use Rattle.line_session.specs.Meaning.{Meaning}
use Rattle.retry_queue.specs.declared.line.QueueLine.{QueueLine}
use Rattle.retry_queue.specs.declared.line.QueueLine.TheVariants.{Bus, Submit, Pump}
use Rattle.retry_queue.specs.Kept.{new_kept, told}
use Rattle.retry_queue.specs.Queues.{Begins, Pumps, QueueScene, QueueState, QueueStands, RunsLine, Submits, queue_over}
use Rattle.retry_queue.specs.Scripts.{AreServed, MaySay, Served, beginning_line, journal, notes_in, said_in}
use Rattle.retry_queue.specs.Texts.{text_of}
use Rattle.script_runner.specs.Events.{MayLeave}
use Rattle.sbp_command.specs.QueueLines.{begun_by, of_lines, says}

-- ---- a line

-- what a line may say
abbrev pub MaySayIn : Option QueueState → QueueLine → Type 0
MaySayIn None said = said ≡ beginning_line
MaySayIn (Some queue) said = MaySay said

-- what a queue does in a line
abbrev pub Does : ℕ → QueueLine → QueueScene → QueueScene → Type 0
Does number (Bus event) old new = RunsLine number event old new
Does number (Submit lba bytes) old new = Submits lba bytes old.queue new.queue × (new.media ≡ old.media)
Does number Pump old new = Pumps number old new

-- A queue begins so, over so many units, and its text was added.
pub record IsBegun (units : ℕ) (out next : List ℕ) (queue : QueueState) : Type 0 where
  pub begins : Begins units queue
  pub fresh : queue.fresh ≡ told None queue.world.fresh new_kept
  pub one : length queue.world.initiators ≡ 1
  pub units_are : length queue.world.target.units ≡ units
  pub text_is : next ≡ out ++ text_of (reverse queue.fresh)

abbrev pub BeginsIn : ℕ → List ℕ → List ℕ → Option QueueState → Type 0
BeginsIn units out next None = ⊥
BeginsIn units out next (Some queue) = IsBegun units out next queue

-- ---- a run

-- The queue and its media stand for the journal of these lines, which are those of a script, and for a run over one to four units; and this is
-- its text.
pub record InRun (start : Held) (said : List (ℕ × QueueLine)) (text : List ℕ) (queue : QueueState) (media : Held) : Type 0 where
  pub served : List Served
  pub run : Run
  pub lines : AreServed served
  pub said_is : said_in served ≡ said
  pub text_is : text ≡ text_of (notes_in served)
  pub start_is : run.start ≡ start
  pub units_are : run.units ≡ length start.disks
  pub some : 0 < run.units
  pub most : run.units ≤ 4
  pub stands : QueueStands (journal served) run (queue_over queue media)
  pub count : length run.entries + 1 ≤ length served

-- No run has begun.
pub record IsBefore (start : Held) (said : List (ℕ × QueueLine)) (text : List ℕ) (media : Held) : Type 0 where
  pub said_is : said ≡ []
  pub text_is : text ≡ []
  pub media_are : media ≡ start

abbrev pub Stands : Held → List (ℕ × QueueLine) → List ℕ → Option QueueState → Held → Type 0
Stands start said text None media = IsBefore start said text media
Stands start said text (Some queue) media = InRun start said text queue media

abbrev pub initiators_in : Option QueueState → ℕ
initiators_in None = 0
initiators_in (Some queue) = 1

-- The lines are as many as there may be, and have no fault, and the queue and the media stand for a run over what they say, whose journal has
-- this text.
pub record RanSo (start : Held) (served : List (List ℕ)) (text : List ℕ) (state : Option QueueState) (media : Held) : Type 0 where
  pub count : length served ≤ 65536
  pub clean : (of_lines served).fault ≡ None
  pub initiators : initiators_in state ≡ begun_by 0 (of_lines served).said
  pub stands : Stands start (of_lines served).said text state media

-- The queue has one initiator, a unit for each medium, and fewer submissions than lines stand before this one.
pub record GoesOn (number : ℕ) (queue : QueueState) (media : Held) : Type 0 where
  pub one : length queue.world.initiators ≡ 1
  pub units : length queue.world.target.units ≡ length media.disks
  pub few : length queue.submissions < number

abbrev pub CanGoOn : ℕ → Option QueueState → Held → Type 0
CanGoOn number None media = Unit {0}
CanGoOn number (Some queue) media = GoesOn number queue media

-- There are one to four media, and the queue, if there is one, can go on over them.
pub record CanRun (number : ℕ) (state : Option QueueState) (media : Held) : Type 0 where
  pub first : 1 ≤ number
  pub some : 1 ≤ length media.disks
  pub few : length media.disks ≤ 4
  pub queue : CanGoOn number state media

abbrev pub queue_meaning : Meaning (Option QueueState)
queue_meaning = record {
  ready = CanRun;
  ran = RanSo;
  refuses = λ served line fault. says (1 + length served) (begun_by 0 (of_lines served).said) line ≡ Err fault;
  closed = λ served text start media. (state : Option QueueState) × RanSo start served text state media;
  stays = MayLeave;
  stays_same = λ media. record { count = refl; fell = record { each = λ unit. le_refl (slice_index media.faults unit) } };
}
