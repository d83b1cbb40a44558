-- Where an agent is on a list, by its phase (NCITS 325-1998, command block agents and ordered execution).
use Rattle.std.specs.Prelude.{◌≡◌, ℕ, suc, ◌==◌, ◌<◌, ◌≤◌, true, false, List, [], length, take, drop, Option, None}
use Rattle.orb_layout.specs.declared.command.CommandOrb.{CommandOrb}
use Rattle.orb_layout.specs.declared.pointer.OrbPointer.{OrbPointer}
use Rattle.orb_layout.specs.declared.pointer.OrbPointer.TheVariants.{Null, At}
use Rattle.orb_layout.specs.declared.status.StatusKind.{StatusKind}
use Rattle.orb_layout.specs.StatusBlocks.{status_bytes}
use Rattle.page_table.specs.declared.segment.Segment.{Segment}
use Rattle.rbc_disk.specs.declared.command.Outcome.{Outcome}
use Rattle.rbc_disk.specs.Runs.{data_length_of}
use Rattle.command_agent.specs.declared.phase.Phase.{Phase}
use Rattle.command_agent.specs.declared.phase.Phase.TheVariants as phases
use Rattle.command_agent.specs.declared.phase.ReadAhead.{ReadAhead}
use Rattle.command_agent.specs.declared.phase.ReadAhead.TheVariants as aheads
use Rattle.command_agent.specs.Machine.{Machine, aligned}
use Rattle.command_agent.specs.Checks.{reads_table}
use Rattle.command_agent.specs.Steps.{src_of}
use Rattle.agent_laws.specs.Answers.{is_good, to_write}
use Rattle.agent_laws.specs.Buffers.{piece}
use Rattle.agent_laws.specs.Along.Lists.{OrbList, Leads, IsGood}

-- How far a list is: how many of its ORBs have ended; how the command of the one behind these ran, if it did, the answer that it told, and how many
-- bytes of this were written; src of the status block of the last one that ended; and of how many ORBs the write of the status block was answered.
pub record Progress : Type 0 where
  pub ended : ℕ
  pub outcome : Option Outcome
  pub answer : List ℕ
  pub carried : ℕ
  pub src : ℕ
  pub answered : ℕ

-- none of it was begun
abbrev pub at_start : Progress
at_start = record { ended = 0; outcome = None; answer = []; carried = 0; src = 0; answered = 0 }

-- The present ORB is the one behind those that have ended, and the status block of each of these was written.
pub record IsNext (l : OrbList) (ended answered at : ℕ) : Type 0 where
  pub place : at ≡ l.address ended
  pub linked : ended < l.linked
  pub all : answered ≡ ended

-- it is being read:
pub record Begins (l : OrbList) (p : Progress) (at : ℕ) (next : OrbPointer) (payload : List ℕ) : Type 0 where
  pub turn : IsNext l p.ended p.answered at
  pub unrun : p.outcome ≡ None
  pub unread : next ≡ Null
  pub empty : payload ≡ []

-- it was read, it is no dummy, and its command has not run:
pub record Awaits (l : OrbList) (p : Progress) (at : ℕ) (orb : CommandOrb) : Type 0 where
  pub turn : IsNext l p.ended p.answered at
  pub unrun : p.outcome ≡ None
  pub good : IsGood l p.ended orb
  pub proper : (orb.format == 3) ≡ false

-- its page table is being read:
pub record Tabling (l : OrbList) (p : Progress) (at : ℕ) (orb : CommandOrb) (payload : List ℕ) : Type 0 where
  pub awaits : Awaits l p at orb
  pub reads : reads_table orb ≡ true
  pub empty : payload ≡ []

-- its data are being read:
pub record Filling (l : OrbList) (p : Progress) (at : ℕ) (orb : CommandOrb) (payload : List ℕ) (segments : List Segment) (wanted : ℕ) : Type 0 where
  pub awaits : Awaits l p at orb
  pub part : l.is_data p.ended orb segments payload
  pub buffer : l.is_buffer p.ended orb segments
  pub whole : wanted ≡ data_length_of false orb.cdb

-- its command has run good, and told an answer, of which so many bytes were written:
pub record HasTold (l : OrbList) (p : Progress) (at : ℕ) (orb : CommandOrb) (segments : List Segment) (answer : List ℕ) (written : ℕ) : Type 0 where
  pub turn : IsNext l p.ended p.answered at
  pub good : IsGood l p.ended orb
  pub proper : (orb.format == 3) ≡ false
  pub buffer : l.is_buffer p.ended orb segments
  pub ran : is_good p.outcome ≡ true
  pub told : answer ≡ p.answer
  pub whole : to_write p.outcome p.answer ≡ p.answer
  pub done : written ≡ p.carried
  pub within : written ≤ length answer

-- and the next bytes of it are being written, as many as the chunk of its buffer has:
pub record Answers (l : OrbList) (p : Progress) (at : ℕ) (orb : CommandOrb) (segments : List Segment) (answer : List ℕ) (written : ℕ) (outgoing : List ℕ) : Type 0 where
  pub told : HasTold l p at orb segments answer written
  pub bytes : outgoing ≡ take (piece orb segments written (length answer)).length (drop written answer)

-- it has ended:
pub record IsOver (l : OrbList) (p : Progress) (at : ℕ) (next : OrbPointer) : Type 0 where
  pub last : ℕ
  pub ended : p.ended ≡ suc last
  pub place : at ≡ l.address last
  pub linked : last < l.linked
  pub leads : Leads l last next
  pub unrun : p.outcome ≡ None

-- and its status block is being written, which names it and tells by src whether its next pointer was null or not read:
pub record Writing (l : OrbList) (p : Progress) (at : ℕ) (next : OrbPointer) (outgoing : List ℕ) : Type 0 where
  pub over : IsOver l p at next
  pub others : p.ended ≡ suc p.answered
  pub src : p.src ≡ src_of next
  pub kind : StatusKind
  pub block : outgoing ≡ status_bytes (record { src = src_of next; kind = kind; orb = l.address over.last })

-- and its status block was written, with src 1, and its next pointer, which was null, is read again, or not until a doorbell:
pub record AtEnd (l : OrbList) (p : Progress) (at : ℕ) (next : OrbPointer) : Type 0 where
  pub over : IsOver l p at next
  pub all : p.answered ≡ p.ended
  pub null : next ≡ Null
  pub src : p.src ≡ 1

-- what is known of the present or last ORB in a phase; without a list, and of a dead agent but for its last status block, nothing
abbrev pub Knows : OrbList → Progress → Phase → Machine → Type 0
Knows l p phases.Fetching m = Begins l p m.present m.orb.next m.payload
Knows l p phases.ReadingTable m = Tabling l p m.present m.orb m.payload
Knows l p (phases.ReadingData wanted) m = Filling l p m.present m.orb m.payload m.segments wanted
Knows l p phases.Answering m = Answers l p m.present m.orb m.segments m.answer m.written m.outgoing
Knows l p phases.WritingStatus m = Writing l p m.present m.orb.next m.outgoing
Knows l p phases.WritingLastStatus m = Writing l p m.present m.orb.next m.outgoing
Knows l p phases.ReadingNext m = AtEnd l p m.present m.orb.next
Knows l p phases.Suspended m = AtEnd l p m.present m.orb.next
Knows l p _ m = Unit {0}

-- the next pointer names the ORB of this number, which is linked
pub record IsNamed (l : OrbList) (k : ℕ) (next : OrbPointer) : Type 0 where
  pub offset : ℕ
  pub named : next ≡ At offset
  pub place : aligned offset ≡ l.address k
  pub linked : k < l.linked

-- What is read ahead is the ORB of this number, the one that the next pointer names.
abbrev pub ReadsAhead : OrbList → ℕ → OrbPointer → ReadAhead → Type 0
ReadsAhead l k next aheads.Idle = Unit {0}
ReadsAhead l k next (aheads.UnderWay rung) = IsNamed l k next
ReadsAhead l k next (aheads.Kept orb) = IsNamed l k next × IsGood l k orb

-- It is the one behind the present ORB, or behind the last one. While an ORB is read, at the end of the list, and without a list, nothing is.
abbrev pub KnowsAhead : OrbList → Progress → Phase → OrbPointer → ReadAhead → Type 0
KnowsAhead l p phases.ReadingTable next ahead = ReadsAhead l (suc p.ended) next ahead
KnowsAhead l p (phases.ReadingData wanted) next ahead = ReadsAhead l (suc p.ended) next ahead
KnowsAhead l p phases.Answering next ahead = ReadsAhead l (suc p.ended) next ahead
KnowsAhead l p phases.WritingStatus next ahead = ReadsAhead l p.ended next ahead
KnowsAhead l p _ next ahead = ahead ≡ aheads.Idle

-- An agent is along a list.
pub record Along (l : OrbList) (p : Progress) (m : Machine) : Type 0 where
  pub main : Knows l p m.phase m
  pub ahead : KnowsAhead l p m.phase m.orb.next m.ahead
