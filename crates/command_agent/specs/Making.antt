-- With each call of an agent the number of requests yet to be made for its present ORB falls by those that the call makes; an ORB whose turn comes brings its share (NCITS 325-1998, command block agents).
use Rattle.std.specs.Prelude.{◌≡◌, ◌≤◌, ℕ, ◌+◌, Bool, true, false, List, length, Option, Some, None, Result, Ok, Err}
use Rattle.orb_layout.specs.declared.ask.Ask.{Ask}
use Rattle.orb_layout.specs.declared.ask.FailCause.{FailCause}
use Rattle.orb_layout.specs.declared.command.CommandOrb.{CommandOrb}
use Rattle.orb_layout.specs.declared.pointer.OrbPointer.{OrbPointer}
use Rattle.orb_layout.specs.declared.pointer.OrbPointer.TheVariants.{Null, At}
use Rattle.orb_layout.specs.Pointers.{pointer_at}
use Rattle.orb_layout.specs.Replies.{Answer, NoLabel, payload_of, write_failure}
use Rattle.page_table.specs.declared.segment.Segment.{Segment}
use Rattle.page_table.specs.Buffer.{chunks}
use Rattle.rbc_disk.specs.Units.{PlainDisk}
use Rattle.rbc_disk.specs.Runs.{Told}
use Rattle.command_agent.specs.declared.phase.Phase.{Phase}
use Rattle.command_agent.specs.declared.phase.Phase.TheVariants as phases
use Rattle.command_agent.specs.declared.step.AgentStep.{AgentStep}
use Rattle.command_agent.specs.declared.step.Move.{Move}
use Rattle.command_agent.specs.declared.step.Move.TheVariants as moves
use Rattle.command_agent.specs.declared.step.PointRefusal.{PointRefusal}
use Rattle.command_agent.specs.declared.step.Which.TheVariants.{Main, Ahead}
use Rattle.command_agent.specs.Machine.{Machine, IsSound, limit_of}
use Rattle.command_agent.specs.Checks.{reads_table}
use Rattle.command_agent.specs.Runs.{MayTell}
use Rattle.command_agent.specs.Steps.{advanced, unread_buffer, reply_step, point_step, doorbell_step, reset_step, abort_step}
use Rattle.command_agent.specs.Counting.{is_made, mark, pieces_from, left_of, made, MakesAtMost}

-- ---- what is read
-- the chunks of a whole buffer, as an ORB has it moved
abbrev pub pieces_of : CommandOrb → List Segment → ℕ
pieces_of orb segments = pieces_from segments (limit_of orb) 0

-- An ORB reads at most so many page tables and, where it has none, moves its buffer in at most so many chunks.
pub record HasAtMost (tables chunks : ℕ) (orb : CommandOrb) : Type 0 where
  pub some : reads_table orb ≡ true → 1 ≤ tables
  pub few : reads_table orb ≡ false → pieces_of orb (unread_buffer orb) ≤ chunks

abbrev pub BringsBy : ℕ → ℕ → Move → Machine → Type 0
BringsBy tables chunks moves.Check m = HasAtMost tables chunks m.orb
BringsBy tables chunks moves.Judge m = pieces_of m.orb m.segments ≤ chunks
BringsBy tables chunks _ m = Unit {0}

-- The ORB or the page table that a reply brings has at most so many; an ORB that was read ahead is brought as its turn comes.
abbrev pub Brings : ℕ → ℕ → Machine → Answer → Type 0
Brings tables chunks m answer = BringsBy tables chunks (advanced m.phase m answer).0 (advanced m.phase m answer).1

-- What a run told is what a run of that command may tell.
abbrev pub MayTellSo : AgentStep × Machine → ℕ → PlainDisk → Type 0
MayTellSo s place plain = MayTell s.0.ran s.1 place plain

-- ---- replies
-- the phases of a present ORB that has not ended
abbrev pub is_at_work : Phase → Bool
is_at_work phases.Fetching = true
is_at_work phases.ReadingTable = true
is_at_work (phases.ReadingData wanted) = true
is_at_work phases.Answering = true
is_at_work _ = false

-- A reply for such an ORB makes no more requests than were left, those that it leaves counted.
abbrev pub RepliesMakeNoMore : Type 0
RepliesMakeNoMore = (tables chunks : ℕ) (m : Machine) (place : ℕ) (plain : PlainDisk) (told : Option Told) (answer : Answer) →
    IsSound m → is_at_work m.phase ≡ true → Brings tables chunks m answer → MayTellSo (reply_step m place plain told Main answer) place plain →
    MakesAtMost tables chunks (left_of tables chunks m) (mark m) (reply_step m place plain told Main answer)

-- the next pointer that a reply has followed: that of the last ORB as its status block was written, or as it was read again
abbrev pub unless_failed : Option FailCause → OrbPointer → OrbPointer
unless_failed None next = next
unless_failed (Some cause) next = Null

abbrev pub pointer_read : Result (List ℕ) FailCause → OrbPointer
pointer_read (Ok bytes) = pointer_at bytes 0
pointer_read (Err cause) = Null

abbrev pub followed : Phase → Machine → Answer → OrbPointer
followed phases.WritingStatus m answer = unless_failed (write_failure answer) m.orb.next
followed phases.ReadingNext m answer = pointer_read (payload_of answer 8)
followed _ m answer = Null

-- the share of the ORB that a pointer names: its fetch, its page table, its chunks, its status block and the read ahead behind it
abbrev pub share : ℕ → ℕ → OrbPointer → ℕ
share tables chunks Null = 0
share tables chunks (At next) = tables + chunks + 3

-- Any other reply makes no more than the share of the ORB whose turn comes, and one request for a doorbell mark that goes.
abbrev pub TurnsMakeTheirShare : Type 0
TurnsMakeTheirShare = (tables chunks : ℕ) (m : Machine) (place : ℕ) (plain : PlainDisk) (told : Option Told) (answer : Answer) →
    is_at_work m.phase ≡ false → Brings tables chunks m answer → MayTellSo (reply_step m place plain told Main answer) place plain →
    made tables chunks (reply_step m place plain told Main answer) + mark (reply_step m place plain told Main answer).1
    ≤ share tables chunks (followed m.phase m answer) + mark m

-- a read ahead was sent
abbrev pub was_sent : Answer → Bool
was_sent NoLabel = false
was_sent _ = true

-- The reply to a read ahead that was sent makes nothing.
abbrev pub AheadsMakeNothing : Type 0
AheadsMakeNothing = (tables chunks : ℕ) (m : Machine) (place : ℕ) (plain : PlainDisk) (told : Option Told) (answer : Answer) →
    was_sent answer ≡ true → MakesAtMost tables chunks (left_of tables chunks m) (mark m) (reply_step m place plain told Ahead answer)

-- ---- registers and cuts
abbrev pub asked_by : Result Ask PointRefusal → ℕ
asked_by (Ok ask) = is_made ask
asked_by (Err refusal) = 0

-- A pointer that is written makes no more than the share of its ORB.
abbrev pub PointersMakeTheirShare : Type 0
PointersMakeTheirShare = (tables chunks : ℕ) (m : Machine) (pointer : OrbPointer) →
    asked_by (point_step m pointer).0 + left_of tables chunks (point_step m pointer).1 + mark (point_step m pointer).1
    ≤ share tables chunks pointer + left_of tables chunks m + mark m

-- A doorbell makes one request or sets the mark.
abbrev pub DoorbellsMakeOne : Type 0
DoorbellsMakeOne = (tables chunks : ℕ) (m : Machine) →
    is_made (doorbell_step m).0 + left_of tables chunks (doorbell_step m).1 + mark (doorbell_step m).1
    ≤ 1 + left_of tables chunks m + mark m

-- A reset and an abort leave no more than was left.
pub record LeavesAtMost (tables chunks : ℕ) (m now : Machine) : Type 0 where
  pub requests : left_of tables chunks now ≤ left_of tables chunks m
  pub marks : mark now ≤ mark m

abbrev pub ResetsMakeNothing : Type 0
ResetsMakeNothing = (tables chunks : ℕ) (m : Machine) → LeavesAtMost tables chunks m (reset_step m)

abbrev pub AbortsMakeNothing : Type 0
AbortsMakeNothing = (tables chunks : ℕ) (m : Machine) (orb : ℕ) → LeavesAtMost tables chunks m (abort_step m orb)

-- ---- chunks
-- The pieces of a whole buffer are its chunks.
abbrev pub ChunksAreCounted : Type 0
ChunksAreCounted = (limit : ℕ) (segments : List Segment) → length (chunks limit segments) ≡ pieces_from segments limit 0
