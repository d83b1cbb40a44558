-- By the terms of every history in which serials count, an agent that writes a status has for its bytes the status block of its present ORB.
use Rattle.std.proofs.Common.{◌≡◌, ◌∙◌, refl, sym, ap, ℕ, ◌+◌, ◌*◌, ◌==◌, Bool, true, false, cond, List, ◌++◌, length, Option, Some, None, Result, Ok, Err}
use Rattle.bus_transactions.specs.Packets.{SerialsCount}
use Rattle.command_agent.specs.Checks.{death_by, reads_table, verdict}
use Rattle.command_agent.specs.Machine.{Machine, is_ahead, new_machine, chunk_of, plan_of, state_in}
use Rattle.command_agent.specs.Steps.{abort_step, advanced, ahead_lost as machine_ahead_lost, ahead_of, ahead_read, ahead_step, answer_chunk, answer_step, asks, block_of, check_step, checked, chunk_written, data_grown, data_read, data_step, dead_step, doorbell_in, doorbell_step, elements_read, end_step, follow_step, judge_step, judged, lost_step, main_lost as machine_lost, next_read, orb_read, point_in, point_step, pointed, quiet, ran_as, reply_step, reread_step, reset_step, run_step, sent, served, src_of, status_written, table_read, told_or, turn_step, unread_buffer}
use Rattle.command_agent.specs.Tasks.{writes_status}
use Rattle.command_agent.specs.declared.phase.Phase.{Phase}
use Rattle.command_agent.specs.declared.phase.Phase.TheVariants as phases
use Rattle.command_agent.specs.declared.phase.ReadAhead.{ReadAhead}
use Rattle.command_agent.specs.declared.phase.ReadAhead.TheVariants as aheads
use Rattle.command_agent.specs.declared.step.AgentState.{AgentState}
use Rattle.command_agent.specs.declared.step.AgentState.TheVariants as states
use Rattle.command_agent.specs.declared.step.AgentStep.{AgentStep}
use Rattle.command_agent.specs.declared.step.Move.{Move}
use Rattle.command_agent.specs.declared.step.Move.TheVariants as moves
use Rattle.command_agent.specs.declared.step.Which.{Which}
use Rattle.command_agent.specs.declared.step.Which.TheVariants.{Ahead, Main}
use Rattle.orb_layout.specs.Pointers.{offset_at, pointer_at}
use Rattle.orb_layout.specs.Replies.{Answer, payload_of, write_failure}
use Rattle.orb_layout.specs.StatusBlocks.{status_bytes}
use Rattle.orb_layout.specs.declared.ask.Ask.TheVariants.{Nothing, Read}
use Rattle.orb_layout.specs.declared.ask.FailCause.{FailCause}
use Rattle.orb_layout.specs.declared.ask.FailCause.TheVariants as causes
use Rattle.orb_layout.specs.declared.pointer.OrbPointer.{OrbPointer}
use Rattle.orb_layout.specs.declared.pointer.OrbPointer.TheVariants as pointers
use Rattle.orb_layout.specs.declared.status.StatusKind.{StatusKind}
use Rattle.orb_layout.specs.declared.status.StatusKind.TheVariants as kinds
use Rattle.page_table.specs.Elements.{elements_of, first_fault}
use Rattle.page_table.specs.declared.fault.PageFault.{PageFault}
use Rattle.rbc_disk.specs.Disk.{Disk}
use Rattle.rbc_disk.specs.Runs.{Told, need_of}
use Rattle.rbc_disk.specs.Units.{PlainDisk}
use Rattle.rbc_disk.specs.declared.command.Need.{Need}
use Rattle.rbc_disk.specs.declared.command.Need.TheVariants as needs
use Rattle.rbc_disk.specs.declared.command.Outcome.{Outcome}
use Rattle.rbc_disk.specs.declared.command.Outcome.TheVariants as outcomes
use Rattle.sbp_journal.specs.Addresses.{Access}
use Rattle.sbp_journal.specs.Run.{Moment}
use Rattle.sbp_laws.specs.Targets.{Agent, agent_at, agent_over, ahead_lost, cut_agent, is_nothing, main_lost, moved, over, pointed_by, points, rings, sends_of, target_at, wants}
use Rattle.sbp_world.proofs.Common.{untrue}
use Rattle.turn_laws.proofs.ProgressFolds.{AreFollowed, followed_before}

-- the bytes are those of the status of the present ORB, as it ended
pub record HasBlock (m : Machine) : Type 0 where
  pub kind : StatusKind
  pub bytes : m.outgoing ≡ status_bytes (block_of m kind)

abbrev pub HoldsBlock : Machine → Type 0
HoldsBlock m = writes_status m.phase ≡ true → HasBlock m

abbrev Holds : AgentStep × Machine → Type 0
Holds s = HoldsBlock s.1

-- a machine that writes no status
no_status : (m : Machine) → writes_status m.phase ≡ false → HoldsBlock m
no_status m e w = untrue (sym e ∙ w)

-- one that is the same in all that the block reads
same_block : (m n : Machine) → n.phase ≡ m.phase → n.outgoing ≡ m.outgoing → n.present ≡ m.present → n.orb.next ≡ m.orb.next → HoldsBlock m → HoldsBlock n
same_block m n phase bytes present next h w =
    let b = h (sym (ap writes_status phase) ∙ w) in
    record {
      kind = b.kind;
      bytes = bytes ∙ (b.bytes ∙ (ap (λ orb. status_bytes (record (block_of m b.kind) { orb = orb })) (sym present) ∙ ap (λ to. status_bytes (record { src = src_of to; kind = b.kind; orb = n.present })) (sym next)));
    }

-- ---- a reply to the main transaction
ends : (m : Machine) (kind : StatusKind) (dead : Option FailCause) → Holds (end_step m kind dead)
ends m kind dead w = record { kind = kind; bytes = refl }

either : (b : Bool) (x y : AgentStep × Machine) → Holds x → Holds y → Holds (cond b x y)
either true x y h i = h
either false x y h i = i

run_holds : (m : Machine) (outcome : Outcome) → Holds (ran_as m outcome)
run_holds m (outcomes.Check sense) = ends m (kinds.Check sense) None
run_holds m (outcomes.Good len) = either (len == 0) (end_step m kinds.Good None) (answer_step m) (ends m kinds.Good None) (no_status (answer_step m).1 refl)

runs : (m : Machine) (run : Told) → Holds (run_step m run)
runs m run = run_holds (record m { answer = run.answer; written = 0 }) run.outcome

judged_holds : (m : Machine) (run : Told) (need : Need) → Holds (judged m run need)
judged_holds m run needs.RunNow = runs m run
judged_holds m run (needs.Payload len) = no_status (data_step m len).1 refl

judges : (m : Machine) (place : ℕ) (plain : PlainDisk) (run : Told) → Holds (judge_step m place plain run)
judges m place plain run = judged_holds m run (need_of m.orb.cdb (plan_of m) plain place)

checked_holds : (m : Machine) (place : ℕ) (plain : PlainDisk) (run : Told) (found : Option StatusKind) → Holds (checked m place plain run found)
checked_holds m place plain run (Some kind) = ends m kind (death_by kind)
checked_holds m place plain run None =
    let n = record m { segments = unread_buffer m.orb } in
    let table = record m { phase = phases.ReadingTable } in
    either (reads_table m.orb) (asks (Read m.orb.descriptor (8 * m.orb.data_size)), table) (judge_step n place plain run) (no_status table refl) (judges n place plain run)

-- and its read ahead is asked for behind it
ahead_holds : (dead : Option FailCause) (next : OrbPointer) (s : AgentStep × Machine) → Holds s → Holds (ahead_of dead next s)
ahead_holds None (pointers.At next) s h = same_block s.1 (ahead_of None (pointers.At next) s).1 refl refl refl refl h
ahead_holds None pointers.Null s h = h
ahead_holds (Some cause) next s h = h

abbrev Moves : Move × Machine → Type 0
Moves (moves.Send step, m) = HoldsBlock m
Moves (moves.Check, m) = Unit {0}
Moves (moves.Judge, m) = Unit {0}
Moves (moves.Run, m) = Unit {0}

pick : (b : Bool) (x y : Move × Machine) → Moves x → Moves y → Moves (cond b x y)
pick true x y h i = h
pick false x y h i = i

fails : (m : Machine) (cause : FailCause) → Holds (end_step m kinds.Failed (Some cause))
fails m cause = ends m kinds.Failed (Some cause)

turn_moves : (m : Machine) (next : ℕ) (ahead : ReadAhead) → Moves (turn_step m next ahead)
turn_moves m next aheads.Idle = λ w. untrue w
turn_moves m next (aheads.UnderWay rung) = λ w. untrue w
turn_moves m next (aheads.Kept orb) = tt

follow_moves : (m : Machine) (next : OrbPointer) → Moves (follow_step m next)
follow_moves m (pointers.At next) = turn_moves m next m.ahead
follow_moves m pointers.Null = either m.doorbell (reread_step m) (quiet, record m { phase = phases.Suspended }) (λ w. untrue w) (λ w. untrue w)

orb_moves : (m : Machine) (bytes : Result (List ℕ) FailCause) → Moves (orb_read m bytes)
orb_moves m (Err cause) = fails m cause
orb_moves m (Ok bytes) = tt

elements_moves : (m : Machine) (bytes : List ℕ) (fault : Option PageFault) → Moves (elements_read m bytes fault)
elements_moves m bytes None = tt
elements_moves m bytes (Some fault) = ends m (kinds.Illegal 0xff) (Some causes.Grammar)

table_moves : (m : Machine) (bytes : Result (List ℕ) FailCause) → Moves (table_read m bytes)
table_moves m (Err cause) = fails m cause
table_moves m (Ok bytes) =
    let fault = first_fault 0 (elements_of bytes) in pick m.aborted (sent (end_step m kinds.Aborted None)) (elements_read m bytes fault) (ends m kinds.Aborted None) (elements_moves m bytes fault)

data_moves : (m : Machine) (wanted : ℕ) (bytes : Result (List ℕ) FailCause) → Moves (data_read m wanted bytes)
data_moves m wanted (Err cause) = fails m cause
data_moves m wanted (Ok bytes) =
    let n = record m { payload = m.payload ++ bytes } in
    pick m.aborted (sent (end_step m kinds.Aborted None)) (data_grown n wanted) (ends m kinds.Aborted None)
    (pick (length n.payload == wanted) (moves.Run, n) (sent (data_step n wanted)) tt (no_status (data_step n wanted).1 refl))

chunk_moves : (m : Machine) (failure : Option FailCause) → Moves (chunk_written m failure)
chunk_moves m (Some cause) = fails m cause
chunk_moves m None =
    let n = record m { written = m.written + answer_chunk m } in
    either (n.written == length n.answer) (end_step n kinds.Good None) (answer_step n) (ends n kinds.Good None) (no_status (answer_step n).1 refl)

written_moves : (m : Machine) (failure : Option FailCause) → Moves (status_written m failure)
written_moves m (Some cause) = no_status (dead_step m cause).1 refl
written_moves m None = follow_moves m m.orb.next

next_moves : (m : Machine) (bytes : Result (List ℕ) FailCause) → Moves (next_read m bytes)
next_moves m (Err cause) = no_status (dead_step m cause).1 refl
next_moves m (Ok bytes) = follow_moves (record m { orb = record m.orb { next = pointer_at bytes 0 } }) (pointer_at bytes 0)

advanced_moves : (phase : Phase) (m : Machine) (answer : Answer) → m.phase ≡ phase → Moves (advanced phase m answer)
advanced_moves phases.Fetching m answer e = orb_moves m (payload_of answer 32)
advanced_moves phases.ReadingTable m answer e = table_moves m (payload_of answer (8 * m.orb.data_size))
advanced_moves (phases.ReadingData wanted) m answer e = data_moves m wanted (payload_of answer (chunk_of m (length m.payload) wanted).length)
advanced_moves phases.Answering m answer e = chunk_moves m (write_failure answer)
advanced_moves phases.WritingStatus m answer e = written_moves m (write_failure answer)
advanced_moves phases.ReadingNext m answer e = next_moves m (payload_of answer 8)
advanced_moves phases.WritingLastStatus m answer e = no_status (record m { phase = phases.Dead }) refl
advanced_moves phases.Reset m answer e = no_status m (ap writes_status e)
advanced_moves phases.Suspended m answer e = no_status m (ap writes_status e)
advanced_moves phases.Dead m answer e = no_status m (ap writes_status e)

served_holds : (place : ℕ) (plain : PlainDisk) (run : Told) (r : Move × Machine) → Moves r → Holds (served place plain run r.0 r.1)
served_holds place plain run (moves.Send step, m) h = h
served_holds place plain run (moves.Check, m) h = let s = check_step m place plain run in ahead_holds s.0.dead s.1.orb.next s (checked_holds m place plain run (verdict m.orb m.aborted))
served_holds place plain run (moves.Judge, m) h = judges m place plain run
served_holds place plain run (moves.Run, m) h = runs m run

-- ---- and to the read ahead
read_holds : (m : Machine) (bytes : Result (List ℕ) FailCause) → HoldsBlock m → Holds (ahead_read m bytes)
read_holds m (Ok bytes) h = same_block m (ahead_read m (Ok bytes)).1 refl refl refl refl h
read_holds m (Err cause) h = same_block m (machine_ahead_lost m cause).1 refl refl refl refl h

reply_holds : (m : Machine) (place : ℕ) (plain : PlainDisk) (run : Option Told) (which : Which) (answer : Answer) → HoldsBlock m → Holds (reply_step m place plain run which answer)
unfolding reply_step
reply_holds m place plain run Main answer h = served_holds place plain (told_or run) (advanced m.phase m answer) (advanced_moves m.phase m answer refl)
reply_holds m place plain run Ahead answer h = either (is_ahead m.ahead) (ahead_step m answer) (quiet, m) (read_holds m (payload_of answer 32) h) h

-- ---- what is lost
main_lost_holds : (phase : Phase) (m : Machine) (cause : FailCause) → m.phase ≡ phase → Holds (machine_lost phase m cause)
main_lost_holds phases.Fetching m cause e = fails m cause
main_lost_holds phases.ReadingTable m cause e = fails m cause
main_lost_holds (phases.ReadingData wanted) m cause e = fails m cause
main_lost_holds phases.Answering m cause e = fails m cause
main_lost_holds phases.WritingStatus m cause e = no_status (dead_step m cause).1 refl
main_lost_holds phases.ReadingNext m cause e = no_status (dead_step m cause).1 refl
main_lost_holds phases.WritingLastStatus m cause e = no_status (record m { phase = phases.Dead }) refl
main_lost_holds phases.Reset m cause e = no_status m (ap writes_status e)
main_lost_holds phases.Suspended m cause e = no_status m (ap writes_status e)
main_lost_holds phases.Dead m cause e = no_status m (ap writes_status e)

lost_holds : (m : Machine) (which : Which) (cause : FailCause) → HoldsBlock m → Holds (lost_step m which cause)
unfolding lost_step
lost_holds m Main cause h = main_lost_holds m.phase m cause refl
lost_holds m Ahead cause h = either (is_ahead m.ahead) (machine_ahead_lost m cause) (quiet, m) (same_block m (machine_ahead_lost m cause).1 refl refl refl refl h) h

-- ---- an agent of the terms
abbrev Own : Agent → Type 0
Own a = HoldsBlock a.machine

pick_agent : (b : Bool) (x y : Agent) → Own x → Own y → Own (cond b x y)
pick_agent true x y h i = h
pick_agent false x y h i = i

main_loses : (a : Agent) → Own a → Own (main_lost a)
main_loses a h = pick_agent (is_nothing a.asks) a (moved (lost_step a.machine Main causes.Label) a) h (lost_holds a.machine Main causes.Label h)

ahead_loses : (a : Agent) → Own a → Own (ahead_lost a)
ahead_loses a h =
    pick_agent (is_nothing a.asks_ahead) a (record a { machine = (lost_step a.machine Ahead causes.Label).1; asks_ahead = Nothing }) h (lost_holds a.machine Ahead causes.Label h)

ends_over : (a : Agent) → Own a → Own (agent_over a)
ends_over a h = ahead_loses (main_lost a) (main_loses a h)

cut_holds : (a : Agent) → Own (cut_agent a)
unfolding reset_step
cut_holds a w = untrue w

abort_holds : (a : Agent) (orb : ℕ) → Own a → Own (record a { machine = abort_step a.machine orb })
unfolding abort_step
abort_holds a orb h = same_block a.machine (abort_step a.machine orb) refl refl refl refl h

pointed_holds : (pointer : OrbPointer) (at : ℕ) (a : Agent) → Own a → Own (pointed_by (pointed a.machine pointer) at a)
pointed_holds pointers.Null at a h = h
pointed_holds (pointers.At next) at a h = λ w. untrue w

point_holds : (state : AgentState) (pointer : OrbPointer) (at : ℕ) (a : Agent) → Own a → Own (pointed_by (point_in state a.machine pointer) at a)
point_holds states.Reset pointer at a h = pointed_holds pointer at a h
point_holds states.Suspended pointer at a h = pointed_holds pointer at a h
point_holds states.Active pointer at a h = h
point_holds states.Dead pointer at a h = h

points_holds : (a : Agent) (access : Access) → Own a → Own (points access a)
unfolding point_step
points_holds a access h = point_holds (state_in a.machine.phase) (pointer_at access.payload 0) (offset_at access.payload 0) a h

ring_holds : (state : AgentState) (m : Machine) → HoldsBlock m → HoldsBlock (doorbell_in state m).1
ring_holds states.Active m h = same_block m (doorbell_in states.Active m).1 refl refl refl refl h
ring_holds states.Suspended m h = λ w. untrue w
ring_holds states.Reset m h = h
ring_holds states.Dead m h = h

rings_holds : (a : Agent) → Own a → Own (rings a)
unfolding doorbell_step
rings_holds a h = ring_holds (state_in a.machine.phase) a.machine h

sends_holds : (a : Agent) (is_write : Bool) (serial : ℕ) → Own a → Own (sends_of is_write serial a)
sends_holds a is_write serial h =
    let main = record a { main = Some serial; asks = Nothing } in
    let ahead = record a { ahead = Some serial; asks_ahead = Nothing } in
    pick_agent (wants a.asks is_write) main (cond (wants a.asks_ahead is_write) ahead a) h (pick_agent (wants a.asks_ahead is_write) ahead a h h)

block_steps : AreFollowed (λ p a. HoldsBlock a.machine)
block_steps = record {
  new = λ p w. untrue w;
  untells = λ p a b h. h;
  loses = λ p a h. main_loses a h;
  ends = λ p a h. ends_over a h;
  cuts = λ p a h. cut_holds a;
  aborts = λ p a orb h. abort_holds a orb h;
  points = λ p a access quiet h. points_holds a access h;
  rings = λ p a quiet h. rings_holds a h;
  sends = λ p a is_write serial e f h. sends_holds a is_write serial h;
  replies = λ p a q which answer is_told waits whole quiet h plain told b. reply_holds a.machine q plain told which answer h;
  unheard = λ p q which answer plain told b. reply_holds new_machine q plain told which answer (λ w. untrue w);
}

-- so behind each turn
pub blocks_held : (start : List Disk) (past : List Moment) → SerialsCount past → (q : ℕ) → HoldsBlock (agent_at (over (target_at start past)) q).machine
blocks_held start past c q = followed_before (λ p a. HoldsBlock a.machine) block_steps start past c q
