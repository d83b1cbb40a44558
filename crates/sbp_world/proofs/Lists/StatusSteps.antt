-- What a step of an agent leaves of its last status block: a step that ends an ORB has its block to write, which names the present ORB and tells by src whether its
-- next pointer is null or was not read; and an agent is at the end of its list only behind such a block, or where it was there before.
use Rattle.sbp_world.proofs.Words.Std.{◌≡◌, ◌∙◌, refl, sym, ap, arith, ◌<◌, ◌==◌, ◌+◌, ◌*◌, ◌^◌, ◌&&◌, not, nat_lt, ℕ, Bool, true, false, cond, List, ◌++◌, length, Option, Some, None, IfSome, Result, Ok, Err, if◌then◌else◌, false≢true}
use Rattle.sbp_world.proofs.Words.Target.{Need, Outcome, Told, need_of, PlainDisk, Phase, ReadAhead, AgentStep, Move, Which, Ahead, Main, death_by, reads_table, refusal, verdict, Machine, chunk_of, has_present, is_ahead, plan_of, advanced, ahead_lost, ahead_of, ahead_read, ahead_step, answer_chunk, block_of, check_step, checked, chunk_written, data_grown, data_read, data_step, elements_read, end_step, follow_step, judge_step, judged, lost_step, main_lost, next_read, orb_read, passed_step, quiet, ran_as, reply_step, reread_step, run_step, sent, served, table_read, told_or, turn_step, unread_buffer, wait_step, with_outcome}
use Rattle.sbp_world.proofs.Words.Initiator.{FailCause, CommandOrb, OrbPointer, Null, At, StatusKind, pointer_at, Answer, payload_of, write_failure, status_bytes, PageFault, elements_of, first_fault}
use Rattle.orb_layout.specs.declared.ask.Ask.TheVariants as asks
use Rattle.orb_layout.specs.declared.ask.FailCause.TheVariants as causes
use Rattle.orb_layout.specs.declared.status.StatusKind.TheVariants as kinds
use Rattle.rbc_disk.specs.declared.command.Need.TheVariants as needs
use Rattle.rbc_disk.specs.declared.command.Outcome.TheVariants as outcomes
use Rattle.command_agent.specs.declared.phase.Phase.TheVariants as phases
use Rattle.command_agent.specs.declared.phase.ReadAhead.TheVariants as aheads
use Rattle.command_agent.specs.declared.step.Move.TheVariants as moves
use Rattle.command_agent.specs.Steps.{answer_step, status_written}

-- a status that an agent ends an ORB with: none of management, and one whose meaning is a byte
abbrev pub IsFair : StatusKind → Type 0
IsFair (kinds.Illegal meaning) = meaning < 256
IsFair (kinds.Management meaning) = ⊥
IsFair kind = Unit {0}

abbrev pub is_null : OrbPointer → Bool
is_null Null = true
is_null (At offset) = false

-- An agent is at the end of its list, or writes the status block of the ORB that is it.
abbrev pub rests_in : Phase → OrbPointer → Bool
rests_in phases.WritingStatus next = is_null next
rests_in phases.ReadingNext next = true
rests_in phases.Suspended next = true
rests_in _ next = false

abbrev pub rests : Machine → Bool
rests m = rests_in m.phase m.orb.next

-- an ORB ended with a status
pub record EndsSo (kind : StatusKind) (m : Machine) : Type 0 where
  pub outgoing : m.outgoing ≡ status_bytes (block_of m kind)
  pub present : has_present m.phase ≡ true
  pub fair : IsFair kind

abbrev pub Ends : AgentStep × Machine → Type 0
Ends s = IfSome s.0.ended (λ kind. EndsSo kind s.1)

pub none_wrote : (offset size : ℕ) → asks.Nothing ≡ asks.Write offset size → ⊥
none_wrote offset size e = cc

pub read_wrote : (at len offset size : ℕ) → asks.Read at len ≡ asks.Write offset size → ⊥
read_wrote at len offset size e = cc

-- and what it reads ahead is no write
pub record Leaves (before : Machine) (s : AgentStep × Machine) : Type 0 where
  pub ends : Ends s
  pub tame : (offset size : ℕ) → s.0.ahead ≡ asks.Write offset size → ⊥
  pub stays : s.0.ended ≡ None → rests s.1 ≡ true → rests before ≡ true

-- it ends an ORB, or the agent is not at the end of its list
record Goes (s : AgentStep × Machine) : Type 0 where
  ends : Ends s
  tame : (offset size : ℕ) → s.0.ahead ≡ asks.Write offset size → ⊥
  off : s.0.ended ≡ None → rests s.1 ≡ false

leaves : (before : Machine) (s : AgentStep × Machine) → Goes s → Leaves before s
leaves before s g = record { ends = g.ends; tame = g.tame; stays = λ e r. absurd (false≢true (sym (g.off e) ∙ r)) }

abbrev MoveLeaves : Machine → Move × Machine → Type 0
MoveLeaves before (moves.Send step, m) = Leaves before (step, m)
MoveLeaves before (moves.Check, m) = Unit {0}
MoveLeaves before (moves.Judge, m) = Unit {0}
MoveLeaves before (moves.Run, m) = Unit {0}

pick : (before : Machine) (b : Bool) (x y : Move × Machine) → MoveLeaves before x → MoveLeaves before y → MoveLeaves before (cond b x y)
pick before true x y h i = h
pick before false x y h i = i

pick_step : (b : Bool) (x y : AgentStep × Machine) → Goes x → Goes y → Goes (cond b x y)
pick_step true x y h i = h
pick_step false x y h i = i

pick_leaves : (before : Machine) (b : Bool) (x y : AgentStep × Machine) → Leaves before x → Leaves before y → Leaves before (cond b x y)
pick_leaves before true x y h i = h
pick_leaves before false x y h i = i

-- ---- the first row that holds of an ORB
abbrev IfFair : Option StatusKind → Type 0
IfFair None = Unit {0}
IfFair (Some kind) = IsFair kind

pick_fair : (b : Bool) (x y : Option StatusKind) → IfFair x → IfFair y → IfFair (cond b x y)
pick_fair true x y h i = h
pick_fair false x y h i = i

-- the rows of a refusal, from the last one on
abbrev fifth : CommandOrb → Option StatusKind
fifth orb = if not orb.has_table && nat_lt (2 ^ 48) (orb.descriptor + orb.data_size) then Some (kinds.Illegal 0xff) else None

abbrev fourth : CommandOrb → Option StatusKind
fourth orb = if orb.has_table && nat_lt 64 orb.data_size then Some (kinds.Illegal 0xff) else fifth orb

abbrev third : CommandOrb → Option StatusKind
third orb = if orb.has_table && not (orb.page_size == 0) then Some (kinds.Illegal 0x03) else fourth orb

abbrev second : CommandOrb → Option StatusKind
second orb = if nat_lt (7 + orb.speed) orb.max_payload then Some (kinds.Illegal 0xff) else third orb

refusals : (orb : CommandOrb) → IfFair (refusal orb)
unfolding refusal
refusals orb =
    pick_fair (nat_lt 2 orb.speed) (Some (kinds.Illegal 0x02)) (second orb) (omega arith)
    (pick_fair (nat_lt (7 + orb.speed) orb.max_payload) (Some (kinds.Illegal 0xff)) (third orb) (omega arith)
    (pick_fair (orb.has_table && not (orb.page_size == 0)) (Some (kinds.Illegal 0x03)) (fourth orb) (omega arith)
    (pick_fair (orb.has_table && nat_lt 64 orb.data_size) (Some (kinds.Illegal 0xff)) (fifth orb) (omega arith)
    (pick_fair (not orb.has_table && nat_lt (2 ^ 48) (orb.descriptor + orb.data_size)) (Some (kinds.Illegal 0xff)) None (omega arith) tt))))

verdicts : (orb : CommandOrb) (aborted : Bool) → IfFair (verdict orb aborted)
unfolding verdict
verdicts orb aborted =
    pick_fair (orb.format == 3) (Some kinds.Dummy) (if not (orb.format == 0) then Some (kinds.Illegal 0x01) else if aborted then Some kinds.Aborted else refusal orb) tt
    (pick_fair (not (orb.format == 0)) (Some (kinds.Illegal 0x01)) (if aborted then Some kinds.Aborted else refusal orb) (omega arith)
    (pick_fair aborted (Some kinds.Aborted) (refusal orb) tt (refusals orb)))

-- ---- ends
pub end_has : (m : Machine) (kind : StatusKind) (dead : Option FailCause) → has_present (end_step m kind dead).1.phase ≡ true
end_has m kind None = refl
end_has m kind (Some cause) = refl

pub some_none : (kind : StatusKind) → Some kind ≡ None → ⊥
some_none kind e = cc

ended : (m : Machine) (kind : StatusKind) (dead : Option FailCause) → IsFair kind → Goes (end_step m kind dead)
ended m kind dead fair = record { ends = record { outgoing = refl; present = end_has m kind dead; fair = fair }; tame = none_wrote; off = λ e. absurd (some_none kind e) }

ends : (before m : Machine) (kind : StatusKind) (dead : Option FailCause) → IsFair kind → Leaves before (end_step m kind dead)
ends before m kind dead fair = leaves before (end_step m kind dead) (ended m kind dead fair)

-- ---- runs
ran : (m : Machine) (outcome : Outcome) → Goes (ran_as m outcome)
ran m (outcomes.Check sense) = ended m (kinds.Check sense) None tt
ran m (outcomes.Good len) = pick_step (len == 0) (end_step m kinds.Good None) (answer_step m) (ended m kinds.Good None tt) (record { ends = tt; tame = none_wrote; off = λ e. refl })

with_run : (outcome : Outcome) (s : AgentStep × Machine) → Goes s → Goes (with_outcome outcome s)
with_run outcome s g = record { ends = g.ends; tame = g.tame; off = g.off }

runs : (m : Machine) (told : Told) → Goes (run_step m told)
runs m told = let n = record m { answer = told.answer; written = 0 } in with_run told.outcome (ran_as n told.outcome) (ran n told.outcome)

judges : (m : Machine) (told : Told) (need : Need) → Goes (judged m told need)
judges m told needs.RunNow = runs m told
judges m told (needs.Payload len) = record { ends = tt; tame = none_wrote; off = λ e. refl }

passes : (m : Machine) (place : ℕ) (plain : PlainDisk) (told : Told) → Goes (passed_step m place plain told)
passes m place plain told =
    let n = record m { segments = unread_buffer m.orb } in
    pick_step (reads_table m.orb) (_, record m { phase = phases.ReadingTable }) (judge_step n place plain told) (record { ends = tt; tame = none_wrote; off = λ e. refl }) (judges n told (need_of n.orb.cdb (plan_of n) plain place))

checks : (m : Machine) (place : ℕ) (plain : PlainDisk) (told : Told) (verdict : Option StatusKind) → IfFair verdict → Goes (checked m place plain told verdict)
checks m place plain told (Some kind) fair = ended m kind (death_by kind) fair
checks m place plain told None fair = passes m place plain told

still : (found : Option StatusKind) (m : Machine) (ahead : ReadAhead) (doorbell : Bool) → IfSome found (λ kind. EndsSo kind m) → IfSome found (λ kind. EndsSo kind (record m { ahead = ahead; doorbell = doorbell }))
still None m ahead doorbell h = tt
still (Some kind) m ahead doorbell h = record { outgoing = h.outgoing; present = h.present; fair = h.fair }

aheads_by : (dead : Option FailCause) (next : OrbPointer) (s : AgentStep × Machine) → Goes s → Goes (ahead_of dead next s)
aheads_by None (At next) s h = record { ends = still s.0.ended s.1 (aheads.UnderWay s.1.doorbell) false h.ends; tame = read_wrote _ _; off = h.off }
aheads_by None Null s h = h
aheads_by (Some cause) next s h = h

-- ---- replies
module _ (before : Machine) where
  turns : (m : Machine) (next : ℕ) (ahead : ReadAhead) → MoveLeaves before (turn_step m next ahead)
  turns m next aheads.Idle = record { ends = tt; tame = none_wrote; stays = λ e r. absurd (false≢true r) }
  turns m next (aheads.UnderWay rung) = record { ends = tt; tame = none_wrote; stays = λ e r. absurd (false≢true r) }
  turns m next (aheads.Kept orb) = tt

  waits : (m : Machine) → rests before ≡ true → Leaves before (wait_step m)
  waits m h = pick_leaves before m.doorbell (reread_step m) (quiet, record m { phase = phases.Suspended }) (record { ends = tt; tame = none_wrote; stays = λ e r. h }) (record { ends = tt; tame = none_wrote; stays = λ e r. h })

  follows : (m : Machine) (next : OrbPointer) → (is_null next ≡ true → rests before ≡ true) → MoveLeaves before (follow_step m next)
  follows m (At next) h = turns m next m.ahead
  follows m Null h = waits m (h refl)

  statuses : (m : Machine) (failure : Option FailCause) → (is_null m.orb.next ≡ true → rests before ≡ true) → MoveLeaves before (status_written m failure)
  statuses m (Some cause) h = record { ends = tt; tame = none_wrote; stays = λ e r. absurd (false≢true r) }
  statuses m None h = follows m m.orb.next h

  nexts : (m : Machine) (r : Result (List ℕ) FailCause) → rests before ≡ true → MoveLeaves before (next_read m r)
  nexts m (Err cause) h = record { ends = tt; tame = none_wrote; stays = λ e r. absurd (false≢true r) }
  nexts m (Ok bytes) h = follows (record m { orb = record m.orb { next = pointer_at bytes 0 } }) (pointer_at bytes 0) (λ e. h)

  orbs_read : (m : Machine) (r : Result (List ℕ) FailCause) → MoveLeaves before (orb_read m r)
  orbs_read m (Err cause) = ends before m kinds.Failed (Some cause) tt
  orbs_read m (Ok bytes) = tt

  elements : (m : Machine) (bytes : List ℕ) (fault : Option PageFault) → MoveLeaves before (elements_read m bytes fault)
  elements m bytes (Some fault) = ends before m (kinds.Illegal 0xff) (Some causes.Grammar) (omega arith)
  elements m bytes None = tt

  tables : (m : Machine) (r : Result (List ℕ) FailCause) → MoveLeaves before (table_read m r)
  tables m (Err cause) = ends before m kinds.Failed (Some cause) tt
  tables m (Ok bytes) =
      pick before m.aborted (sent (end_step m kinds.Aborted None)) (elements_read m bytes (first_fault 0 (elements_of bytes))) (ends before m kinds.Aborted None tt) (elements m bytes (first_fault 0 (elements_of bytes)))

  grows : (m : Machine) (wanted : ℕ) → MoveLeaves before (data_grown m wanted)
  grows m wanted = pick before (length m.payload == wanted) (moves.Run, m) (sent (data_step m wanted)) tt (record { ends = tt; tame = none_wrote; stays = λ e r. absurd (false≢true r) })

  data_reads : (m : Machine) (wanted : ℕ) (r : Result (List ℕ) FailCause) → MoveLeaves before (data_read m wanted r)
  data_reads m wanted (Err cause) = ends before m kinds.Failed (Some cause) tt
  data_reads m wanted (Ok bytes) =
      let n = record m { payload = m.payload ++ bytes } in
      pick before m.aborted (sent (end_step m kinds.Aborted None)) (data_grown n wanted) (ends before m kinds.Aborted None tt) (grows n wanted)

  answers : (m : Machine) → Leaves before (cond (m.written == length m.answer) (end_step m kinds.Good None) (answer_step m))
  answers m =
      pick_leaves before (m.written == length m.answer) (end_step m kinds.Good None) (answer_step m) (ends before m kinds.Good None tt) (record { ends = tt; tame = none_wrote; stays = λ e r. absurd (false≢true r) })

  chunks : (m : Machine) (failure : Option FailCause) → MoveLeaves before (chunk_written m failure)
  chunks m (Some cause) = ends before m kinds.Failed (Some cause) tt
  chunks m None = answers (record m { written = m.written + answer_chunk m })

  moves_on : (phase : Phase) (m : Machine) (answer : Answer) → (rests_in phase m.orb.next ≡ true → rests before ≡ true) → (phase ≡ m.phase) → MoveLeaves before (advanced phase m answer)
  moves_on phases.Fetching m answer h p = orbs_read m (payload_of answer 32)
  moves_on phases.ReadingTable m answer h p = tables m (payload_of answer (8 * m.orb.data_size))
  moves_on (phases.ReadingData wanted) m answer h p = data_reads m wanted (payload_of answer (chunk_of m (length m.payload) wanted).length)
  moves_on phases.Answering m answer h p = chunks m (write_failure answer)
  moves_on phases.WritingStatus m answer h p = statuses m (write_failure answer) h
  moves_on phases.ReadingNext m answer h p = nexts m (payload_of answer 8) (h refl)
  moves_on phases.WritingLastStatus m answer h p = record { ends = tt; tame = none_wrote; stays = λ e r. absurd (false≢true r) }
  moves_on phases.Reset m answer h p = record { ends = tt; tame = none_wrote; stays = λ e r. h (ap (λ (x : Phase). rests_in x m.orb.next) p ∙ r) }
  moves_on phases.Suspended m answer h p = record { ends = tt; tame = none_wrote; stays = λ e r. h refl }
  moves_on phases.Dead m answer h p = record { ends = tt; tame = none_wrote; stays = λ e r. h (ap (λ (x : Phase). rests_in x m.orb.next) p ∙ r) }

  serves : (place : ℕ) (plain : PlainDisk) (told : Told) (move : Move) (m : Machine) → MoveLeaves before (move, m) → Leaves before (served place plain told move m)
  serves place plain told (moves.Send step) m h = h
  serves place plain told moves.Check m h =
      let s = check_step m place plain told in leaves before (ahead_of s.0.dead s.1.orb.next s) (aheads_by s.0.dead s.1.orb.next s (checks m place plain told (verdict m.orb m.aborted) (verdicts m.orb m.aborted)))
  serves place plain told moves.Judge m h = leaves before (judge_step m place plain told) (judges m told (need_of m.orb.cdb (plan_of m) plain place))
  serves place plain told moves.Run m h = leaves before (run_step m told) (runs m told)

ahead_reads : (m : Machine) (r : Result (List ℕ) FailCause) → Leaves m (ahead_read m r)
ahead_reads m (Ok bytes) = record { ends = tt; tame = none_wrote; stays = λ e r. r }
ahead_reads m (Err cause) = record { ends = tt; tame = none_wrote; stays = λ e r. r }

pub replied_leaves : (m : Machine) (place : ℕ) (plain : PlainDisk) (told : Option Told) (which : Which) (answer : Answer) → Leaves m (reply_step m place plain told which answer)
unfolding reply_step
replied_leaves m place plain told Main answer =
    let a = advanced m.phase m answer in serves m place plain (told_or told) a.0 a.1 (moves_on m m.phase m answer (λ r. r) refl)
replied_leaves m place plain told Ahead answer =
    pick_leaves m (is_ahead m.ahead) (ahead_step m answer) (quiet, m) (ahead_reads m (payload_of answer 32)) (record { ends = tt; tame = none_wrote; stays = λ e r. r })

-- ---- losses
loses : (phase : Phase) (m : Machine) (cause : FailCause) → phase ≡ m.phase → Leaves m (main_lost phase m cause)
loses phases.Fetching m cause p = ends m m kinds.Failed (Some cause) tt
loses phases.ReadingTable m cause p = ends m m kinds.Failed (Some cause) tt
loses (phases.ReadingData wanted) m cause p = ends m m kinds.Failed (Some cause) tt
loses phases.Answering m cause p = ends m m kinds.Failed (Some cause) tt
loses phases.WritingStatus m cause p = record { ends = tt; tame = none_wrote; stays = λ e r. absurd (false≢true r) }
loses phases.ReadingNext m cause p = record { ends = tt; tame = none_wrote; stays = λ e r. absurd (false≢true r) }
loses phases.WritingLastStatus m cause p = record { ends = tt; tame = none_wrote; stays = λ e r. absurd (false≢true r) }
loses phases.Reset m cause p = record { ends = tt; tame = none_wrote; stays = λ e r. r }
loses phases.Suspended m cause p = record { ends = tt; tame = none_wrote; stays = λ e r. r }
loses phases.Dead m cause p = record { ends = tt; tame = none_wrote; stays = λ e r. r }

pub lost_leaves : (m : Machine) (which : Which) (cause : FailCause) → Leaves m (lost_step m which cause)
unfolding lost_step
lost_leaves m Main cause = loses m.phase m cause refl
lost_leaves m Ahead cause = pick_leaves m (is_ahead m.ahead) (ahead_lost m cause) (quiet, m) (record { ends = tt; tame = none_wrote; stays = λ e r. r }) (record { ends = tt; tame = none_wrote; stays = λ e r. r })
