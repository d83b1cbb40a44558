-- What the reading of lines has come to, piece by piece and line by line.
use Rattle.std.specs.Prelude.{◌≡◌, ℕ, ◌+◌, ◌*◌, ◌-◌, ◌≤◌, false, List, [], ◌∷◌, ◌++◌, length, take, Option, IfSome, Result, Ok, Err, OnOk}
use Rattle.std.specs.Io.KnownBytes.{Appends, Consumes, IsAtEnd}
use Rattle.std.specs.Str.Lines.{lines}
use Rattle.sbp_base.specs.Faults.{Rose}
use Rattle.line_session.specs.Lines.{NoFeed, IsWhole, is_surely_long}
use Rattle.line_session.specs.Outside.{Outside}
use Rattle.line_session.specs.Meaning.{Meaning, Refused, Ran}
use Rattle.line_session.specs.Ends.{Ends}
use Rattle.line_session.specs.declared.status.Status.{Status}
use Rattle.line_session.specs.declared.status.Status.TheVariants as statuses

-- how many whole lines were served, the bytes of the line that has not ended, and the text that waits to be written
pub record SessionState : Type 0 where
  pub number : ℕ
  pub rest : List ℕ
  pub out : List ℕ

-- what a reader can go on from: the lines are few and the rest is short
pub record IsReady (state : SessionState) : Type 0 where
  pub few : state.number ≤ 65536
  pub short : is_surely_long state.rest ≡ false

-- at least as many bytes as may still be read: it falls with each
abbrev pub budget : SessionState → ℕ
budget state = (65537 - state.number) * 8195 - length state.rest

-- how a write ended, by the sink's count of faults: it rose where the sink failed, and is as before where all is written or memory was
-- wanting
abbrev pub WriteEnds : {A : Type 0} → Result A Status → ℕ → ℕ → Type 0
WriteEnds (Ok done) before now = now ≡ before
WriteEnds (Err statuses.WriteFault) before now = Rose before now
WriteEnds (Err statuses.NoMemory) before now = now ≡ before
WriteEnds (Err _) before now = ⊥

-- A front of the bytes was written, all of them where no error came.
pub record WritesFront {A : Type 0} (old new : Option (List ℕ)) (before now : ℕ) (result : Result A Status) (bytes : List ℕ) : Type 0 where
  pub len : ℕ
  pub written : Appends old new (take len bytes)
  pub whole : OnOk result (take len bytes ≡ bytes)
  pub ends : WriteEnds result before now

-- A front of the text that waited was written; where no error came, the rest of it waits.
pub record Flushes {A : Type 0} (old new : Option (List ℕ)) (before now : ℕ) (result : Result A Status) (waited waits : List ℕ) : Type 0 where
  pub front : List ℕ
  pub behind : List ℕ
  pub parts : waited ≡ front ++ behind
  pub written : Appends old new front
  pub kept : OnOk result (behind ≡ waits)
  pub ends : WriteEnds result before now

-- what the status of a faulty line says of the write
abbrev pub told : Status → Result (Unit {0}) Status
told statuses.Script = Ok tt
told status = Err status

-- The whole lines that were read are served, and a front of their text is written; behind them stand the rest of a line and the
-- bytes that wait.
pub record InSession {S : Type 0} (meaning : Meaning S) (before now : Outside) (pending : List ℕ) (state : SessionState) (server : S) : Type 0 where
  pub whole : List ℕ
  pub front : List ℕ
  pub consumed : Consumes before.left now.left ((whole ++ state.rest) ++ pending)
  pub is_whole : IsWhole whole
  pub no_feed : NoFeed state.rest
  pub lines_are : length (lines whole) ≡ state.number
  pub ran : meaning.ran before.media (lines whole) (front ++ state.out) server now.media
  pub written : Appends before.written now.written front
  pub reads : now.reads ≡ before.reads
  pub writes : now.writes ≡ before.writes

-- The next line of the input is the first faulty one.
pub record Faces {S : Type 0} (meaning : Meaning S) (before now : Outside) (out : List ℕ) (number fault : ℕ) : Type 0 where
  pub input : List ℕ
  pub served : List (List ℕ)
  pub line : List ℕ
  pub others : List (List ℕ)
  pub front : List ℕ
  pub told : IfSome before.left (λ bytes. bytes ≡ input)
  pub input_is : lines input ≡ served ++ line ∷ others
  pub number_is : number ≡ 1 + length served
  pub refused : Refused meaning served line fault
  pub ran : Ran meaning before.media served (front ++ out) now.media
  pub written : Appends before.written now.written front
  pub reads : now.reads ≡ before.reads
  pub writes : now.writes ≡ before.writes

-- All lines of the input are served.
pub record AtEnd {S : Type 0} (meaning : Meaning S) (before now : Outside) (out : List ℕ) (server : S) : Type 0 where
  pub input : List ℕ
  pub front : List ℕ
  pub told : IfSome before.left (λ bytes. bytes ≡ input)
  pub at_end : IsAtEnd now.left
  pub ran : meaning.ran before.media (lines input) (front ++ out) server now.media
  pub written : Appends before.written now.written front
  pub reads : now.reads ≡ before.reads
  pub writes : now.writes ≡ before.writes

-- the session goes on, or it ended
abbrev pub GoesOn : {A S : Type 0} → Meaning S → Result A Status → Outside → Outside → List ℕ → SessionState → S → Type 0
GoesOn meaning (Ok done) before now pending state server = InSession meaning before now pending state server
GoesOn meaning (Err status) before now pending state server = Ends meaning status before now

-- the last line was served, or it ended the session
abbrev pub LineEnds : {A S : Type 0} → Meaning S → Result A Status → Outside → Outside → List ℕ → S → Type 0
LineEnds meaning (Ok done) before now out server = AtEnd meaning before now out server
LineEnds meaning (Err status) before now out server = Ends meaning status before now

-- a piece was read and taken; a piece of no bytes is the end
abbrev pub PieceEnds : {S : Type 0} → Meaning S → Result ℕ Status → Outside → Outside → SessionState → S → Type 0
PieceEnds meaning (Ok count) before now state server = InSession meaning before now [] state server × (count ≡ 0 → IsAtEnd now.left)
PieceEnds meaning (Err status) before now state server = Ends meaning status before now
