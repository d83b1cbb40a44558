-- How the lines of an input were served, by the status.
use Rattle.std.specs.Prelude.{◌≡◌, ℕ, ◌+◌, false, List, [], ◌∷◌, ◌++◌, length, take, IfSome}
use Rattle.std.specs.Io.KnownBytes.{Appends, Consumes, IsAtEnd}
use Rattle.std.specs.Str.Lines.{lines}
use Rattle.sbp_base.specs.Faults.{Rose}
use Rattle.rbc_disk.specs.Held.{Held}
use Rattle.line_session.specs.Lines.{NoFeed, IsWhole, is_surely_long}
use Rattle.line_session.specs.Outside.{Outside}
use Rattle.line_session.specs.Meaning.{Meaning, Refused, Ran, fault_text}
use Rattle.line_session.specs.declared.status.Status.{Status}
use Rattle.line_session.specs.declared.status.Status.TheVariants as statuses

-- No call of the source or of the sink failed.
pub record NoFault (before now : Outside) : Type 0 where
  pub reads : now.reads ≡ before.reads
  pub writes : now.writes ≡ before.writes

-- The whole input, where the source tells it, was served, and the sink gained its text with what is said at the end.
pub record AllServed {S : Type 0} (meaning : Meaning S) (before now : Outside) : Type 0 where
  pub input : List ℕ
  pub text : List ℕ
  pub told : IfSome before.left (λ bytes. bytes ≡ input)
  pub closed : meaning.closed (lines input) text before.media now.media
  pub written : Appends before.written now.written text
  pub no_fault : NoFault before now

-- The input, where the source tells it, was served up to its first faulty line, and the sink gained the text of the lines before it,
-- and that of the fault.
pub record Stopped {S : Type 0} (meaning : Meaning S) (before now : Outside) : Type 0 where
  pub input : List ℕ
  pub text : List ℕ
  pub served : List (List ℕ)
  pub line : List ℕ
  pub others : List (List ℕ)
  pub fault : ℕ
  pub told : IfSome before.left (λ bytes. bytes ≡ input)
  pub input_is : lines input ≡ served ++ line ∷ others
  pub refused : Refused meaning served line fault
  pub ran : Ran meaning before.media served text now.media
  pub written : Appends before.written now.written (text ++ fault_text (1 + length served) fault)
  pub no_fault : NoFault before now

-- The whole lines that were read were served, and the sink gained their text; a line without its line feed, which may yet be short
-- enough, was not served.
pub record LinesServed {S : Type 0} (meaning : Meaning S) (before now : Outside) : Type 0 where
  pub whole : List ℕ
  pub rest : List ℕ
  pub text : List ℕ
  pub consumed : Consumes before.left now.left (whole ++ rest)
  pub is_whole : IsWhole whole
  pub no_feed : NoFeed rest
  pub short : is_surely_long rest ≡ false
  pub ran : Ran meaning before.media (lines whole) text now.media
  pub written : Appends before.written now.written text

-- what may stand in the output behind some lines: their text, with that of a fault of the next one, or with what is said at the end
pub data Brings {S : Type 0} (meaning : Meaning S) (start : Held) (served others : List (List ℕ)) (media : Held) : List ℕ → Type 0 where
  lines_alone : (text : List ℕ) → Ran meaning start served text media → Brings meaning start served others media text
  with_fault : (text line : List ℕ) (behind : List (List ℕ)) (fault : ℕ) → Ran meaning start served text media → others ≡ line ∷ behind → Refused meaning served line fault
      → Brings meaning start served others media (text ++ fault_text (1 + length served) fault)
  with_end : (text : List ℕ) → others ≡ [] → meaning.closed served text start media → Brings meaning start served others media text

-- A front of such an output was written, for the first lines of the input.
pub record Torn {S : Type 0} (meaning : Meaning S) (before now : Outside) : Type 0 where
  pub input : List ℕ
  pub served : List (List ℕ)
  pub others : List (List ℕ)
  pub media : Held
  pub output : List ℕ
  pub len : ℕ
  pub told : IfSome before.left (λ bytes. bytes ≡ input)
  pub input_is : lines input ≡ served ++ others
  pub brings : Brings meaning before.media served others media output
  pub stays : meaning.stays media now.media
  pub written : Appends before.written now.written (take len output)

-- So it was, and the media are as those lines left them.
abbrev pub TornAt : {S : Type 0} → Meaning S → Outside → Outside → Type 0
TornAt meaning before now = (torn : Torn meaning before now) × (torn.media ≡ now.media)

-- the clause by status
abbrev pub Ends : {S : Type 0} → Meaning S → Status → Outside → Outside → Type 0
Ends meaning statuses.Done before now = IsAtEnd now.left × AllServed meaning before now
Ends meaning statuses.Script before now = Stopped meaning before now
Ends meaning statuses.ReadFault before now = Rose before.reads now.reads × LinesServed meaning before now
Ends meaning statuses.WriteFault before now = Rose before.writes now.writes × TornAt meaning before now
Ends meaning statuses.NoMemory before now = NoFault before now × Torn meaning before now
