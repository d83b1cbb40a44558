-- What the top call promises of a command that reads a script, by its status.
use Rattle.std.specs.Prelude.{◌≡◌, ◌⊎◌, ℕ, false, List, [], ◌++◌, take, reverse, Option, Some, None, IfSome}
use Rattle.std.specs.Io.KnownBytes.{Appends, Consumes, IsAtEnd}
use Rattle.sbp_base.specs.Faults.{Rose}
use Rattle.line_session.specs.Ends.{NoFault}
use Rattle.line_session.specs.Lines.{NoFeed, IsWhole, is_surely_long}
use Rattle.line_session.specs.Meaning.{fault_text}
use Rattle.line_session.specs.Outside.{Outside}
use Rattle.rbc_disk.specs.Held.{Held}
use Rattle.sbp_journal.specs.Text.{text_of}
use Rattle.sbp_journal.specs.declared.event.Event.{Event}
use Rattle.sbp_journal.specs.declared.note.Note.{Note}
use Rattle.script_text.specs.Script.{Script}
use Rattle.sbp_target.specs.Faults.{NoneFell}
use Rattle.media_laws.specs.Media.{media_after}
use Rattle.script_runner.specs.Events.{MayLeave}
use Rattle.sbp_command.specs.declared.status.Status.{Status}
use Rattle.sbp_command.specs.declared.status.Status.TheVariants as statuses

-- A command that reads a script: the script that stands in an input, and what it does over some events, from what the media held at first: its
-- notes, and what it leaves of the media.
pub record ScriptCommand : Type 1 where
  pub script : List ℕ → Script
  pub does : Held → List (ℕ × Event) → List Note → Held → Type 0

-- what stands behind the journal: the first faulty line of a script
abbrev pub ending : Option (ℕ × ℕ) → List ℕ
ending None = []
ending (Some (number, fault)) = fault_text number fault

-- The whole input, where the source tells it, was run up to its first faulty line; the sink gained the text of what the command tells
-- over exactly its events, and that of the fault, and the media are as the command leaves them.
pub record RanScript (command : ScriptCommand) (before now : Outside) (fault : Option (ℕ × ℕ)) : Type 0 where
  pub input : List ℕ
  pub notes : List Note
  pub told : IfSome before.left (λ bytes. bytes ≡ input)
  pub fault_is : (command.script input).fault ≡ fault
  pub ran : command.does before.media (command.script input).events notes now.media
  pub written : Appends before.written now.written (text_of notes ++ ending fault)
  pub no_fault : NoFault before now

-- The whole lines that were read were run, and the sink gained the text of what the command tells over them; a line without its line
-- feed, which may yet be short enough, was not run.
pub record RanLines (command : ScriptCommand) (before now : Outside) : Type 0 where
  pub whole : List ℕ
  pub rest : List ℕ
  pub notes : List Note
  pub consumed : Consumes before.left now.left (whole ++ rest)
  pub is_whole : IsWhole whole
  pub no_feed : NoFeed rest
  pub short : is_surely_long rest ≡ false
  pub fault_is : (command.script whole).fault ≡ None
  pub ran : command.does before.media (command.script whole).events notes now.media
  pub written : Appends before.written now.written (text_of notes)

-- The text of some notes, and, where they are of all events, that of the script's fault.
abbrev pub MayWrite : Script → List (ℕ × Event) → List Note → List ℕ → Type 0
MayWrite s happened notes output =
    (output ≡ text_of notes) ⊎ ((happened ≡ s.events) × (output ≡ text_of notes ++ ending s.fault))

-- A front of such a text was written, for what the command does over the first events of the input; so it leaves the media.
pub record Torn (command : ScriptCommand) (before now : Outside) (media : Held) : Type 0 where
  pub input : List ℕ
  pub happened : List (ℕ × Event)
  pub notes : List Note
  pub count : ℕ
  pub output : List ℕ
  pub len : ℕ
  pub told : IfSome before.left (λ bytes. bytes ≡ input)
  pub first : happened ≡ take count (command.script input).events
  pub ran : command.does before.media happened notes media
  pub may_write : MayWrite (command.script input) happened notes output
  pub written : Appends before.written now.written (take len output)

-- So it was, and then memory was wanting in the next line: there are as many media, no count of faults fell, and so each rose at least by the
-- failing runs that the notes tell.
pub record TornAndLeft (command : ScriptCommand) (before now : Outside) : Type 0 where
  pub media : Held
  pub torn : Torn command before now media
  pub left : MayLeave media now.media
  pub within : NoneFell (media_after (reverse torn.notes) before.media).faults now.media.faults

-- the clause of such a command by status
abbrev pub ScriptEnds : ScriptCommand → Status → Outside → Outside → Type 0
ScriptEnds command statuses.Done before now = IsAtEnd now.left × RanScript command before now None
ScriptEnds command statuses.Words before now = ⊥
ScriptEnds command statuses.Script before now = (fault : ℕ × ℕ) × RanScript command before now (Some fault)
ScriptEnds command statuses.ReadFault before now = Rose before.reads now.reads × RanLines command before now
ScriptEnds command statuses.WriteFault before now = Rose before.writes now.writes × Torn command before now now.media
ScriptEnds command statuses.NoMemory before now = NoFault before now × TornAndLeft command before now
