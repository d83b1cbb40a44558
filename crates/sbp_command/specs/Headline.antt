-- What the top call promises, by its status.
use Rattle.std.specs.Prelude.{◌≡◌, ℕ, false, List, [], ◌∷◌, ◌++◌, take, codes, Option, Some, None, IfSome, Result, Ok, Err}
use Rattle.std.specs.Io.KnownBytes.{Appends, Consumes, IsAtEnd}
use Rattle.sbp_base.specs.Faults.{Rose}
use Rattle.line_session.specs.Lines.{NoFeed, IsWhole, is_surely_long}
use Rattle.line_session.specs.Outside.{Outside}
use Rattle.line_session.specs.Meaning.{fault_text}
use Rattle.line_session.specs.Ends.{NoFault}
use Rattle.line_session.specs.declared.status.Status.{Status as StreamStatus}
use Rattle.line_session.specs.declared.status.Status.TheVariants as stream_statuses
use Rattle.script_text.specs.Script.{script}
use Rattle.packet_listing.specs.Listing.{Listing, listing}
use Rattle.rom_listing.specs.RomListing.{rom_listing, rom_quads}
use Rattle.sbp_command.specs.Machine.{Runs}
use Rattle.sbp_command.specs.Scripts.{ScriptCommand, ScriptEnds, ending}
use Rattle.sbp_command.specs.declared.status.Status.{Status}
use Rattle.sbp_command.specs.declared.status.Status.TheVariants as statuses

-- what `run` reads, and what it does
abbrev pub run_command : ScriptCommand
run_command = record { script = script; does = Runs }

-- the clause of `run` by status
abbrev pub RunEnds : Status → Outside → Outside → Type 0
RunEnds status before now = ScriptEnds run_command status before now

-- The media and their counts are as they were.
abbrev pub KeepsMedia : Outside → Outside → Type 0
KeepsMedia before now = now.media ≡ before.media

-- The whole input, where the source tells it, was listed up to its first faulty line, and the sink gained that text, and that of
-- the fault.
pub record ListedInput (before now : Outside) (fault : Option (ℕ × ℕ)) : Type 0 where
  pub input : List ℕ
  pub told : IfSome before.left (λ bytes. bytes ≡ input)
  pub fault_is : (listing input).fault ≡ fault
  pub written : Appends before.written now.written ((listing input).text ++ ending fault)
  pub media : KeepsMedia before now
  pub no_fault : NoFault before now

-- The whole lines that were read were listed, and the sink gained that text; a line without its line feed, which may yet be
-- short enough, was not listed.
pub record ListedLines (before now : Outside) : Type 0 where
  pub whole : List ℕ
  pub rest : List ℕ
  pub consumed : Consumes before.left now.left (whole ++ rest)
  pub is_whole : IsWhole whole
  pub no_feed : NoFeed rest
  pub short : is_surely_long rest ≡ false
  pub fault_is : (listing whole).fault ≡ None
  pub written : Appends before.written now.written (listing whole).text
  pub media : KeepsMedia before now

-- the text of the lines before the first faulty one, and that line's fault
abbrev pub whole_text : Listing → List ℕ
whole_text l = l.text ++ ending l.fault

-- A front of that text was written.
pub record TornListing (before now : Outside) : Type 0 where
  pub input : List ℕ
  pub len : ℕ
  pub told : IfSome before.left (λ bytes. bytes ≡ input)
  pub written : Appends before.written now.written (take len (whole_text (listing input)))
  pub media : KeepsMedia before now

-- the clause of `decode` by status
abbrev pub ListingEnds : Status → Outside → Outside → Type 0
ListingEnds statuses.Done before now = IsAtEnd now.left × ListedInput before now None
ListingEnds statuses.Words before now = ⊥
ListingEnds statuses.Script before now = (fault : ℕ × ℕ) × ListedInput before now (Some fault)
ListingEnds statuses.ReadFault before now = Rose before.reads now.reads × ListedLines before now
ListingEnds statuses.WriteFault before now = Rose before.writes now.writes × TornListing before now
ListingEnds statuses.NoMemory before now = NoFault before now × TornListing before now

-- what the lines of `rom` bring: the listing of their quadlets, or the first faulty line alone
abbrev pub rom_output : Result (List ℕ) (ℕ × ℕ) → List ℕ
rom_output (Ok quads) = rom_listing quads
rom_output (Err (number, fault)) = fault_text number fault

-- The whole input, where the source tells it, was read so, and the sink gained exactly what that brings.
pub record RomWritten (before now : Outside) (read : Result (List ℕ) (ℕ × ℕ)) : Type 0 where
  pub input : List ℕ
  pub told : IfSome before.left (λ bytes. bytes ≡ input)
  pub is_read : rom_quads input ≡ read
  pub written : Appends before.written now.written (rom_output read)
  pub media : KeepsMedia before now
  pub no_fault : NoFault before now

-- The whole lines that were read have no fault, and nothing was written.
pub record RomUnwritten (before now : Outside) : Type 0 where
  pub whole : List ℕ
  pub rest : List ℕ
  pub quads : List ℕ
  pub consumed : Consumes before.left now.left (whole ++ rest)
  pub is_whole : IsWhole whole
  pub no_feed : NoFeed rest
  pub short : is_surely_long rest ≡ false
  pub is_read : rom_quads whole ≡ Ok quads
  pub written : Appends before.written now.written []
  pub media : KeepsMedia before now

-- A front of what the input brings was written.
pub record TornRom (before now : Outside) : Type 0 where
  pub input : List ℕ
  pub len : ℕ
  pub told : IfSome before.left (λ bytes. bytes ≡ input)
  pub written : Appends before.written now.written (take len (rom_output (rom_quads input)))
  pub media : KeepsMedia before now

-- the clause of `rom` by status
abbrev pub RomEnds : Status → Outside → Outside → Type 0
RomEnds statuses.Done before now = IsAtEnd now.left × ((quads : List ℕ) × RomWritten before now (Ok quads))
RomEnds statuses.Words before now = ⊥
RomEnds statuses.Script before now = (fault : ℕ × ℕ) × RomWritten before now (Err fault)
RomEnds statuses.ReadFault before now = Rose before.reads now.reads × RomUnwritten before now
RomEnds statuses.WriteFault before now = Rose before.writes now.writes × TornRom before now
RomEnds statuses.NoMemory before now = NoFault before now × TornRom before now

-- the words of the command line that are in the table
abbrev pub IsRun : List (List ℕ) → Type 0
IsRun words = words ≡ codes "run" ∷ []

abbrev pub IsDecode : List (List ℕ) → Type 0
IsDecode words = words ≡ codes "decode" ∷ []

abbrev pub IsRom : List (List ℕ) → Type 0
IsRom words = words ≡ codes "rom" ∷ []

abbrev pub usage : List ℕ
usage = codes "usage: sbp2 run | drill SEED N | decode | rom | tasks | queue" ++ 10 ∷ []

-- Nothing was read, and the media are as they were.
pub record Untouched (before now : Outside) : Type 0 where
  pub left : now.left ≡ before.left
  pub reads : now.reads ≡ before.reads
  pub media : now.media ≡ before.media

-- the clause of all other words by status: the sink gained the usage line, or a front of it
abbrev pub FrontWritten : Outside → Outside → Type 0
FrontWritten before now = Untouched before now × ((len : ℕ) × Appends before.written now.written (take len usage))

abbrev pub UsageEnds : Status → Outside → Outside → Type 0
UsageEnds statuses.Words before now = Untouched before now × Appends before.written now.written usage
UsageEnds statuses.WriteFault before now = Rose before.writes now.writes × FrontWritten before now
UsageEnds statuses.NoMemory before now = NoFault before now × FrontWritten before now
UsageEnds _ before now = ⊥

-- the exit status
abbrev pub exit_number : Status → ℕ
exit_number statuses.Done = 0
exit_number statuses.Words = 1
exit_number statuses.Script = 2
exit_number statuses.ReadFault = 3
exit_number statuses.WriteFault = 4
exit_number statuses.NoMemory = 5

-- the status of the call whose lines ended so
abbrev pub status_of : StreamStatus → Status
status_of stream_statuses.Done = statuses.Done
status_of stream_statuses.Script = statuses.Script
status_of stream_statuses.ReadFault = statuses.ReadFault
status_of stream_statuses.WriteFault = statuses.WriteFault
status_of stream_statuses.NoMemory = statuses.NoMemory
