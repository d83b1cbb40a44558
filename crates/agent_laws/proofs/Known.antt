-- What is known of an agent behind its calls: an invariant by phase, over what the notes say.
use Rattle.std.proofs.Common.{◌≡◌, ◌⊎◌, ℕ, ◌+◌, ◌*◌, ◌≤◌, length, take, Bool, true, false, List, [], Option, Some, None}
use Rattle.orb_layout.specs.declared.ask.Ask.TheVariants.{Nothing}
use Rattle.orb_layout.specs.declared.command.CommandOrb.{CommandOrb}
use Rattle.orb_layout.specs.declared.pointer.OrbPointer.{OrbPointer}
use Rattle.orb_layout.specs.declared.pointer.OrbPointer.TheVariants.{Null}
use Rattle.page_table.specs.declared.segment.Segment.{Segment}
use Rattle.rbc_disk.specs.declared.command.Outcome.{Outcome}
use Rattle.rbc_disk.specs.Units.{PlainDisk}
use Rattle.rbc_disk.specs.Runs.{need_of, Feeds, data_length_of, Told}
use Rattle.command_agent.specs.declared.phase.Phase.{Phase}
use Rattle.command_agent.specs.declared.phase.Phase.TheVariants as phases
use Rattle.command_agent.specs.declared.phase.ReadAhead.{ReadAhead}
use Rattle.command_agent.specs.declared.phase.ReadAhead.TheVariants as aheads
use Rattle.command_agent.specs.declared.step.AgentStep.{AgentStep}
use Rattle.command_agent.specs.declared.step.Move.{Move}
use Rattle.command_agent.specs.Machine.{Machine, is_sent, is_ahead, plan_of}
use Rattle.command_agent.specs.Checks.{reads_table}
use Rattle.command_agent.specs.Steps.{served}
use Rattle.agent_laws.specs.Calls.{Note, step_notes, is_open, present_in, fetched_in, next_in, runs_in, ahead_in, Lawful}
use Rattle.agent_laws.specs.Buffers.{table_in, data_in, buffer_by, buffer_in, wanted_in, piece, Fed}
use Rattle.agent_laws.specs.Answers.{outcome_in, answer_in, written_in, is_good, to_write, Answered}
use Rattle.agent_laws.specs.Transactions.{main_in, behind_in}
use Rattle.agent_laws.specs.Wire.{last_in, is_dead, Wired}
use Rattle.agent_laws.specs.Bells.{rung_since}
use Rattle.agent_laws.specs.Deaths.{asked_in, illegal_in, due_in, Mortal}

-- the laws of notes; with no main transaction under way, behind what came of the last one; and where this did not fail
abbrev pub Laws : List Note → Type 0
Laws ns = Lawful ns × Wired ns × Fed ns × Answered ns × Mortal ns

abbrev pub Heard : List Note → Type 0
Heard ns = Lawful ns × Wired ns × Fed ns × Answered ns × Mortal ns × (main_in ns ≡ false) × (illegal_in ns ≡ false)

abbrev pub Clear : List Note → Type 0
Clear ns = Lawful ns × Wired ns × Fed ns × Answered ns × Mortal ns × (main_in ns ≡ false) × (due_in ns ≡ None)

-- what an agent keeps of its present ORB
pub record Parts : Type 0 where
  pub place : ℕ
  pub orb : CommandOrb
  pub payload : List ℕ
  pub segments : List Segment
  pub answer : List ℕ
  pub written : ℕ

abbrev pub parts : Machine → Parts
parts m = record { place = m.present; orb = m.orb; payload = m.payload; segments = m.segments; answer = m.answer; written = m.written }

-- what the notes say of it
pub record Seen : Type 0 where
  pub open_now : Bool
  pub dead : Bool
  pub present : Option ℕ
  pub ran : ℕ
  pub outcome : Option Outcome
  pub chunks : List ℕ
  pub bytes : Option CommandOrb
  pub table : Option (List ℕ)
  pub told : List ℕ
  pub done : List ℕ
  pub next : OrbPointer
  pub behind : Bool
  pub rung : Bool

abbrev pub seen : List Note → Seen
seen ns = record {
  open_now = is_open ns;
  dead = is_dead ns;
  present = present_in ns;
  ran = runs_in ns;
  outcome = outcome_in ns;
  chunks = data_in ns;
  bytes = fetched_in ns;
  table = table_in ns;
  told = answer_in ns;
  done = written_in ns;
  next = next_in ns;
  behind = behind_in ns;
  rung = rung_since ns;
}

-- The present ORB was not read yet:
pub record Begun (at : ℕ) (payload : List ℕ) (open_now dead : Bool) (present : Option ℕ) (ran : ℕ) (outcome : Option Outcome) (chunks : List ℕ) (table : Option (List ℕ)) (done : List ℕ) (behind : Bool) : Type 0 where
  pub still : open_now ≡ true
  pub alive : dead ≡ false
  pub here : present ≡ Some at
  pub none : ran ≡ 0
  pub unrun : outcome ≡ None
  pub joined : chunks ≡ payload
  pub empty : payload ≡ []
  pub untabled : table ≡ None
  pub unwritten : done ≡ []
  pub alone : behind ≡ false

-- it was read and has not run:
pub record Waits (at : ℕ) (orb : CommandOrb) (payload : List ℕ) (open_now dead : Bool) (present : Option ℕ) (ran : ℕ) (outcome : Option Outcome) (chunks : List ℕ) (bytes : Option CommandOrb) (done : List ℕ) : Type 0 where
  pub still : open_now ≡ true
  pub alive : dead ≡ false
  pub here : present ≡ Some at
  pub none : ran ≡ 0
  pub unrun : outcome ≡ None
  pub joined : chunks ≡ payload
  pub got : bytes ≡ Some orb
  pub unwritten : done ≡ []

-- its page table is read:
pub record Tabling (at : ℕ) (orb : CommandOrb) (payload : List ℕ) (open_now dead : Bool) (present : Option ℕ) (ran : ℕ) (outcome : Option Outcome) (chunks : List ℕ) (bytes : Option CommandOrb) (done : List ℕ) : Type 0 where
  pub waits : Waits at orb payload open_now dead present ran outcome chunks bytes done
  pub reads : reads_table orb ≡ true
  pub empty : payload ≡ []

-- its data are read:
pub record Filling (at : ℕ) (orb : CommandOrb) (payload : List ℕ) (segments : List Segment) (wanted : ℕ) (open_now dead : Bool) (present : Option ℕ) (ran : ℕ) (outcome : Option Outcome) (chunks : List ℕ) (bytes : Option CommandOrb) (table : Option (List ℕ)) (done : List ℕ) : Type 0 where
  pub waits : Waits at orb payload open_now dead present ran outcome chunks bytes done
  pub over : buffer_by bytes table ≡ Some segments
  pub whole : wanted ≡ data_length_of false orb.cdb

-- it has run, and so many bytes of its answer were written:
pub record Answers (at : ℕ) (orb : CommandOrb) (segments : List Segment) (answer : List ℕ) (written covered : ℕ) (open_now dead : Bool) (present : Option ℕ) (ran : ℕ) (outcome : Option Outcome) (bytes : Option CommandOrb) (table : Option (List ℕ)) (told done : List ℕ) : Type 0 where
  pub still : open_now ≡ true
  pub alive : dead ≡ false
  pub here : present ≡ Some at
  pub once : ran ≡ 1
  pub good : is_good outcome ≡ true
  pub got : bytes ≡ Some orb
  pub over : buffer_by bytes table ≡ Some segments
  pub same : told ≡ answer
  pub whole : to_write outcome answer ≡ answer
  pub within : written ≤ length answer
  pub joined : done ≡ take covered answer

-- it has ended:
pub record Over (open_now dead : Bool) (present : Option ℕ) : Type 0 where
  pub still : open_now ≡ true
  pub alive : dead ≡ false
  pub gone : present ≡ None

-- and there is no next one:
pub record AtEnd (open_now dead : Bool) (present : Option ℕ) (next : OrbPointer) (rung : Bool) : Type 0 where
  pub over : Over open_now dead present
  pub null : next ≡ Null
  pub unrung : rung ≡ false

abbrev pub BegunBy : Parts → Seen → Type 0
BegunBy p s = Begun p.place p.payload s.open_now s.dead s.present s.ran s.outcome s.chunks s.table s.done s.behind

abbrev pub WaitsBy : Parts → Seen → Type 0
WaitsBy p s = Waits p.place p.orb p.payload s.open_now s.dead s.present s.ran s.outcome s.chunks s.bytes s.done

abbrev pub TablingBy : Parts → Seen → Type 0
TablingBy p s = Tabling p.place p.orb p.payload s.open_now s.dead s.present s.ran s.outcome s.chunks s.bytes s.done

abbrev pub FillingBy : Parts → ℕ → Seen → Type 0
FillingBy p wanted s = Filling p.place p.orb p.payload p.segments wanted s.open_now s.dead s.present s.ran s.outcome s.chunks s.bytes s.table s.done

abbrev pub AnswersBy : Parts → ℕ → Seen → Type 0
AnswersBy p covered s = Answers p.place p.orb p.segments p.answer p.written covered s.open_now s.dead s.present s.ran s.outcome s.bytes s.table s.told s.done

abbrev pub OverBy : Seen → Type 0
OverBy s = Over s.open_now s.dead s.present

-- the bytes of the chunk behind those written
abbrev pub next_bytes : Parts → ℕ
next_bytes p = (piece p.orb p.segments p.written (length p.answer)).length

abbrev pub KeepsBy : Phase → Parts → Seen → Type 0
KeepsBy phases.Fetching p s = BegunBy p s
KeepsBy phases.ReadingTable p s = TablingBy p s
KeepsBy (phases.ReadingData wanted) p s = FillingBy p wanted s
KeepsBy phases.Answering p s = AnswersBy p (p.written + next_bytes p) s
KeepsBy phases.WritingStatus p s = OverBy s
KeepsBy phases.ReadingNext p s = OverBy s
KeepsBy phases.Suspended p s = AtEnd s.open_now s.dead s.present s.next s.rung
KeepsBy phases.Reset p s = s.open_now ≡ false
KeepsBy _ p s = s.dead ≡ true

abbrev pub Keeps : Phase → Machine → List Note → Type 0
Keeps phase m ns = KeepsBy phase (parts m) (seen ns)

-- the bytes that are waited for, by phase
abbrev pub AsksBy : Phase → Parts → Option ℕ → Type 0
AsksBy phases.Fetching p size = size ≡ Some 32
AsksBy phases.ReadingTable p size = size ≡ Some (8 * p.orb.data_size)
AsksBy (phases.ReadingData wanted) p size = size ≡ Some (piece p.orb p.segments (length p.payload) wanted).length
AsksBy phases.Answering p size = size ≡ None
AsksBy phases.WritingStatus p size = size ≡ None
AsksBy phases.ReadingNext p size = size ≡ Some 8
AsksBy _ p size = Unit {0}

-- Bytes that are kept were read ahead.
abbrev pub KeepsAhead : ReadAhead → Option CommandOrb → Type 0
KeepsAhead (aheads.Kept orb) got = got ≡ Some orb
KeepsAhead _ got = Unit {0}

-- What is known in each phase.
pub record Steady (present : ℕ) (next : OrbPointer) (ahead : ReadAhead) (mark : Bool) (next_now : OrbPointer) (last : ℕ) (got : Option CommandOrb) (behind open_now dead rung : Bool) : Type 0 where
  pub next_is : next_now ≡ next
  pub last_is : last ≡ present
  pub kept : KeepsAhead ahead got
  pub behind_is : behind ≡ is_ahead ahead
  pub bell : open_now ≡ true → dead ≡ false → rung ≡ true → mark ≡ true

abbrev pub Steadily : Machine → ReadAhead → List Note → Type 0
Steadily m ahead ns = Steady m.present m.orb.next ahead m.doorbell (next_in ns) (last_in ns) (ahead_in ns) (behind_in ns) (is_open ns) (is_dead ns) (rung_since ns)

pub record Tied (m : Machine) (ns : List Note) : Type 0 where
  pub laws : Laws ns
  pub steady : Steadily m m.ahead ns
  pub main : main_in ns ≡ is_sent m.phase
  pub phase : Keeps m.phase m ns
  pub asks : AsksBy m.phase (parts m) (asked_in ns)
  pub due : is_dead ns ≡ false → due_in ns ≡ None

-- a step, over the notes before it; it does not ask for a read ahead
pub record After (place : ℕ) (plain : PlainDisk) (ns : List Note) (s : AgentStep × Machine) : Type 0 where
  pub tied : Tied s.1 (step_notes place plain s.0 s.1 ns)
  pub unasked : s.0.ahead ≡ Nothing

pub record AfterMove (place : ℕ) (plain : PlainDisk) (told : Told) (ns : List Note) (s : Move × Machine) : Type 0 where
  pub tied : Tied (served place plain told s.0 s.1).1 (step_notes place plain (served place plain told s.0 s.1).0 (served place plain told s.0 s.1).1 ns)

-- the present ORB waits for its run
pub record Ready (m : Machine) (ns : List Note) : Type 0 where
  pub laws : Clear ns
  pub steady : Steadily m m.ahead ns
  pub waits : WaitsBy (parts m) (seen ns)

-- its bytes are there, and nothing else of it was read
pub record Fresh (m : Machine) (ns : List Note) : Type 0 where
  pub ready : Ready m ns
  pub untabled : table_in ns ≡ None
  pub empty : m.payload ≡ []

-- its buffer is known, and no data were read
pub record Judgeable (m : Machine) (ns : List Note) : Type 0 where
  pub ready : Ready m ns
  pub over : buffer_in ns ≡ Some m.segments
  pub empty : m.payload ≡ []

-- its command may run
pub record Runnable (m : Machine) (place : ℕ) (plain : PlainDisk) (ns : List Note) : Type 0 where
  pub ready : Ready m ns
  pub over : buffer_in ns ≡ Some m.segments
  pub whole : (m.payload ≡ []) ⊎ (length m.payload ≡ wanted_in ns)
  pub fed : Feeds (need_of m.orb.cdb (plan_of m) plain place) m.payload
