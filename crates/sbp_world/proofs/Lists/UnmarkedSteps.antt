-- An agent whose ORB no abort marked ends no ORB as aborted, and has none marked behind a step of it.
use Rattle.sbp_world.proofs.Words.Std.{◌≡◌, refl, sym, ℕ, ◌*◌, ◌+◌, ◌^◌, ◌==◌, ◌&&◌, not, nat_lt, Bool, true, false, cond, List, ◌++◌, length, Option, Some, None, Result, Ok, Err}
use Rattle.sbp_world.proofs.Words.Target.{Need, Outcome, Told, need_of, PlainDisk, death_by, reads_table, refusal, verdict, Machine, chunk_of, is_ahead, plan_of, state_in, advanced, ahead_lost, ahead_of, ahead_read, ahead_step, answer_chunk, asks, check_step, checked, chunk_written, data_grown, data_read, data_step, doorbell_in, doorbell_step, elements_read, end_step, follow_step, judge_step, judged, lost_step, main_lost, next_read, orb_read, passed_step, point_in, point_step, pointed, quiet, ran_as, reply_step, reread_step, reset_step, run_step, sent, served, table_read, told_or, turn_step, unread_buffer, Phase, ReadAhead, AgentState, AgentStep, Move, Which, Ahead, Main}
use Rattle.sbp_world.proofs.Words.Initiator.{Read, FailCause, CommandOrb, OrbPointer, StatusKind, pointer_at, Answer, payload_of, write_failure, PageFault, elements_of, first_fault}
use Rattle.orb_layout.specs.declared.pointer.OrbPointer.TheVariants as pointers
use Rattle.orb_layout.specs.declared.status.StatusKind.TheVariants as kinds
use Rattle.rbc_disk.specs.declared.command.Need.TheVariants as needs
use Rattle.rbc_disk.specs.declared.command.Outcome.TheVariants as outcomes
use Rattle.command_agent.specs.Steps.{answer_step, replied, status_written}
use Rattle.command_agent.specs.declared.phase.Phase.TheVariants as phases
use Rattle.command_agent.specs.declared.phase.ReadAhead.TheVariants as aheads
use Rattle.command_agent.specs.declared.step.AgentState.TheVariants as states
use Rattle.command_agent.specs.declared.step.Move.TheVariants as moves
use Rattle.sbp_world.proofs.Common.{untrue}

abbrev pub is_aborted : Option StatusKind → Bool
is_aborted (Some kinds.Aborted) = true
is_aborted kind = false

abbrev pub IsUnmarked : Machine → Type 0
IsUnmarked m = m.aborted ≡ false

-- behind a step none is marked, and none ended as aborted
pub record IsClean (s : AgentStep × Machine) : Type 0 where
  pub unmarked : IsUnmarked s.1
  pub ends : is_aborted s.0.ended ≡ false

pick : (b : Bool) (x y : AgentStep × Machine) → IsClean x → IsClean y → IsClean (cond b x y)
pick true x y h k = h
pick false x y h k = k

-- ---- an ORB that is checked
by_fields : (b c d e f : Bool) → is_aborted (cond b (Some (kinds.Illegal 0x02)) (cond c (Some (kinds.Illegal 0xff)) (cond d (Some (kinds.Illegal 0x03)) (cond e (Some (kinds.Illegal 0xff)) (cond f (Some (kinds.Illegal 0xff)) None))))) ≡ false
by_fields true c d e f = refl
by_fields false true d e f = refl
by_fields false false true e f = refl
by_fields false false false true f = refl
by_fields false false false false true = refl
by_fields false false false false false = refl

refused_not : (orb : CommandOrb) → is_aborted (refusal orb) ≡ false
unfolding refusal
refused_not orb =
    by_fields (nat_lt 2 orb.speed) (nat_lt (7 + orb.speed) orb.max_payload) (orb.has_table && not (orb.page_size == 0)) (orb.has_table && nat_lt 64 orb.data_size)
    (not orb.has_table && nat_lt (2 ^ 48) (orb.descriptor + orb.data_size))

by_format : (three zero aborted : Bool) (x : Option StatusKind) → is_aborted x ≡ false → aborted ≡ false → is_aborted (cond three (Some kinds.Dummy) (cond zero (Some (kinds.Illegal 0x01)) (cond aborted (Some kinds.Aborted) x))) ≡ false
by_format true zero aborted x e f = refl
by_format false true aborted x e f = refl
by_format false false true x e f = untrue (sym f)
by_format false false false x e f = e

verdict_not : (orb : CommandOrb) (aborted : Bool) → aborted ≡ false → is_aborted (verdict orb aborted) ≡ false
unfolding verdict
verdict_not orb aborted e = by_format (orb.format == 3) (not (orb.format == 0)) aborted (refusal orb) (refused_not orb) e

-- ---- steps
ends_clean : (m : Machine) (kind : StatusKind) (dead : Option FailCause) → IsUnmarked m → is_aborted (Some kind) ≡ false → IsClean (end_step m kind dead)
ends_clean m kind dead e f = record { unmarked = e; ends = f }

ran_clean : (m : Machine) (outcome : Outcome) → IsUnmarked m → IsClean (ran_as m outcome)
ran_clean m (outcomes.Check sense) e = ends_clean m (kinds.Check sense) None e refl
ran_clean m (outcomes.Good len) e = pick (len == 0) (end_step m kinds.Good None) (answer_step m) (ends_clean m kinds.Good None e refl) (record { unmarked = e; ends = refl })

run_clean : (m : Machine) (told : Told) → IsUnmarked m → IsClean (run_step m told)
run_clean m told e = let x = ran_clean (record m { answer = told.answer; written = 0 }) told.outcome e in record { unmarked = x.unmarked; ends = x.ends }

judged_clean : (m : Machine) (told : Told) (need : Need) → IsUnmarked m → IsClean (judged m told need)
judged_clean m told needs.RunNow e = run_clean m told e
judged_clean m told (needs.Payload len) e = record { unmarked = e; ends = refl }

judge_clean : (m : Machine) (place : ℕ) (plain : PlainDisk) (told : Told) → IsUnmarked m → IsClean (judge_step m place plain told)
judge_clean m place plain told e = judged_clean m told (need_of m.orb.cdb (plan_of m) plain place) e

passed_clean : (m : Machine) (place : ℕ) (plain : PlainDisk) (told : Told) → IsUnmarked m → IsClean (passed_step m place plain told)
passed_clean m place plain told e =
    let n = record m { segments = unread_buffer m.orb } in
    pick (reads_table m.orb) (asks (Read m.orb.descriptor (8 * m.orb.data_size)), record m { phase = phases.ReadingTable }) (judge_step n place plain told) (record { unmarked = e; ends = refl }) (judge_clean n place plain told e)

checked_clean : (m : Machine) (place : ℕ) (plain : PlainDisk) (told : Told) (found : Option StatusKind) → IsUnmarked m → is_aborted found ≡ false → IsClean (checked m place plain told found)
checked_clean m place plain told (Some kind) e f = ends_clean m kind (death_by kind) e f
checked_clean m place plain told None e f = passed_clean m place plain told e

ahead_clean : (dead : Option FailCause) (next : OrbPointer) (s : AgentStep × Machine) → IsClean s → IsClean (ahead_of dead next s)
ahead_clean None (pointers.At next) s h = record { unmarked = h.unmarked; ends = h.ends }
ahead_clean None pointers.Null s h = h
ahead_clean (Some cause) next s h = h

-- ---- moves
abbrev MoveClean : Move × Machine → Type 0
MoveClean (moves.Send step, m) = IsClean (step, m)
MoveClean (move, m) = IsUnmarked m

served_clean : (place : ℕ) (plain : PlainDisk) (told : Told) (r : Move × Machine) → MoveClean r → IsClean (served place plain told r.0 r.1)
served_clean place plain told (moves.Send step, m) h = h
served_clean place plain told (moves.Check, m) e =
    let s = check_step m place plain told in
    ahead_clean s.0.dead s.1.orb.next s (checked_clean m place plain told (verdict m.orb m.aborted) e (verdict_not m.orb m.aborted e))
served_clean place plain told (moves.Judge, m) e = judge_clean m place plain told e
served_clean place plain told (moves.Run, m) e = run_clean m told e

pick_move : (b : Bool) (x y : Move × Machine) → MoveClean x → MoveClean y → MoveClean (cond b x y)
pick_move true x y h k = h
pick_move false x y h k = k

-- one that is not marked is not aborted
unmarked : (b : Bool) (x y : Move × Machine) → b ≡ false → MoveClean y → MoveClean (cond b x y)
unmarked true x y e h = untrue (sym e)
unmarked false x y e h = h

orb_clean : (m : Machine) (r : Result (List ℕ) FailCause) → IsUnmarked m → MoveClean (orb_read m r)
orb_clean m (Err cause) e = ends_clean m kinds.Failed (Some cause) e refl
orb_clean m (Ok bytes) e = e

elements_clean : (m : Machine) (bytes : List ℕ) (fault : Option PageFault) → IsUnmarked m → MoveClean (elements_read m bytes fault)
elements_clean m bytes None e = e
elements_clean m bytes (Some fault) e = record { unmarked = e; ends = refl }

table_clean : (m : Machine) (r : Result (List ℕ) FailCause) → IsUnmarked m → MoveClean (table_read m r)
table_clean m (Err cause) e = ends_clean m kinds.Failed (Some cause) e refl
table_clean m (Ok bytes) e =
    let fault = first_fault 0 (elements_of bytes) in unmarked m.aborted (sent (end_step m kinds.Aborted None)) (elements_read m bytes fault) e (elements_clean m bytes fault e)

data_clean : (m : Machine) (wanted : ℕ) (r : Result (List ℕ) FailCause) → IsUnmarked m → MoveClean (data_read m wanted r)
data_clean m wanted (Err cause) e = ends_clean m kinds.Failed (Some cause) e refl
data_clean m wanted (Ok bytes) e =
    let n = record m { payload = m.payload ++ bytes } in
    unmarked m.aborted (sent (end_step m kinds.Aborted None)) (data_grown n wanted) e (pick_move (length n.payload == wanted) (moves.Run, n) (sent (data_step n wanted)) e (record { unmarked = e; ends = refl }))

chunk_clean : (m : Machine) (failure : Option FailCause) → IsUnmarked m → MoveClean (chunk_written m failure)
chunk_clean m (Some cause) e = ends_clean m kinds.Failed (Some cause) e refl
chunk_clean m None e =
    let n = record m { written = m.written + answer_chunk m } in
    pick (n.written == length n.answer) (end_step n kinds.Good None) (answer_step n) (ends_clean n kinds.Good None e refl) (record { unmarked = e; ends = refl })

turn_clean : (m : Machine) (next : ℕ) (ahead : ReadAhead) → MoveClean (turn_step m next ahead)
turn_clean m next aheads.Idle = record { unmarked = refl; ends = refl }
turn_clean m next (aheads.UnderWay rung) = record { unmarked = refl; ends = refl }
turn_clean m next (aheads.Kept orb) = refl

follow_clean : (m : Machine) (next : OrbPointer) → IsUnmarked m → MoveClean (follow_step m next)
follow_clean m (pointers.At next) e = turn_clean m next m.ahead
follow_clean m pointers.Null e = pick m.doorbell (reread_step m) (quiet, record m { phase = phases.Suspended }) (record { unmarked = e; ends = refl }) (record { unmarked = e; ends = refl })

status_clean : (m : Machine) (failure : Option FailCause) → IsUnmarked m → MoveClean (status_written m failure)
status_clean m (Some cause) e = record { unmarked = e; ends = refl }
status_clean m None e = follow_clean m m.orb.next e

next_clean : (m : Machine) (r : Result (List ℕ) FailCause) → IsUnmarked m → MoveClean (next_read m r)
next_clean m (Err cause) e = record { unmarked = e; ends = refl }
next_clean m (Ok bytes) e = follow_clean (record m { orb = record m.orb { next = pointer_at bytes 0 } }) (pointer_at bytes 0) e

advanced_clean : (phase : Phase) (m : Machine) (answer : Answer) → IsUnmarked m → MoveClean (advanced phase m answer)
advanced_clean phases.Fetching m answer e = orb_clean m (payload_of answer 32) e
advanced_clean phases.ReadingTable m answer e = table_clean m (payload_of answer (8 * m.orb.data_size)) e
advanced_clean (phases.ReadingData wanted) m answer e = data_clean m wanted (payload_of answer (chunk_of m (length m.payload) wanted).length) e
advanced_clean phases.Answering m answer e = chunk_clean m (write_failure answer) e
advanced_clean phases.WritingStatus m answer e = status_clean m (write_failure answer) e
advanced_clean phases.ReadingNext m answer e = next_clean m (payload_of answer 8) e
advanced_clean phases.WritingLastStatus m answer e = record { unmarked = e; ends = refl }
advanced_clean phases.Reset m answer e = record { unmarked = e; ends = refl }
advanced_clean phases.Suspended m answer e = record { unmarked = e; ends = refl }
advanced_clean phases.Dead m answer e = record { unmarked = e; ends = refl }

read_clean : (m : Machine) (bytes : Result (List ℕ) FailCause) → IsUnmarked m → IsClean (ahead_read m bytes)
read_clean m (Ok bytes) e = record { unmarked = e; ends = refl }
read_clean m (Err cause) e = record { unmarked = e; ends = refl }

-- ---- a reply, a transaction that failed, and what a register does
replied_clean : (m : Machine) (place : ℕ) (plain : PlainDisk) (told : Told) (which : Which) (answer : Answer) → IsUnmarked m → IsClean (replied m place plain told which answer)
replied_clean m place plain told Main answer e = served_clean place plain told (advanced m.phase m answer) (advanced_clean m.phase m answer e)
replied_clean m place plain told Ahead answer e = pick (is_ahead m.ahead) (ahead_step m answer) (quiet, m) (read_clean m (payload_of answer 32) e) (record { unmarked = e; ends = refl })

pub reply_clean : (m : Machine) (place : ℕ) (plain : PlainDisk) (told : Option Told) (which : Which) (answer : Answer) → IsUnmarked m → IsClean (reply_step m place plain told which answer)
unfolding reply_step
reply_clean m place plain told which answer e = replied_clean m place plain (told_or told) which answer e

main_lost_clean : (phase : Phase) (m : Machine) (cause : FailCause) → IsUnmarked m → IsUnmarked (main_lost phase m cause).1
main_lost_clean phases.Fetching m cause e = e
main_lost_clean phases.ReadingTable m cause e = e
main_lost_clean (phases.ReadingData wanted) m cause e = e
main_lost_clean phases.Answering m cause e = e
main_lost_clean phases.WritingStatus m cause e = e
main_lost_clean phases.ReadingNext m cause e = e
main_lost_clean phases.WritingLastStatus m cause e = e
main_lost_clean phases.Reset m cause e = e
main_lost_clean phases.Suspended m cause e = e
main_lost_clean phases.Dead m cause e = e

ahead_lost_clean : (b : Bool) (m : Machine) (cause : FailCause) → IsUnmarked m → IsUnmarked (cond b (ahead_lost m cause) (quiet, m)).1
ahead_lost_clean true m cause e = e
ahead_lost_clean false m cause e = e

pub lost_clean : (m : Machine) (which : Which) (cause : FailCause) → IsUnmarked m → IsUnmarked (lost_step m which cause).1
unfolding lost_step
lost_clean m Main cause e = main_lost_clean m.phase m cause e
lost_clean m Ahead cause e = ahead_lost_clean (is_ahead m.ahead) m cause e

pub reset_clean : (m : Machine) → IsUnmarked m → IsUnmarked (reset_step m)
unfolding reset_step
reset_clean m e = e

pointed_clean : (m : Machine) (pointer : OrbPointer) → IsUnmarked m → IsUnmarked (pointed m pointer).1
pointed_clean m pointers.Null e = e
pointed_clean m (pointers.At next) e = refl

in_clean : (state : AgentState) (m : Machine) (pointer : OrbPointer) → IsUnmarked m → IsUnmarked (point_in state m pointer).1
in_clean states.Reset m pointer e = pointed_clean m pointer e
in_clean states.Suspended m pointer e = pointed_clean m pointer e
in_clean states.Active m pointer e = e
in_clean states.Dead m pointer e = e

pub point_clean : (m : Machine) (pointer : OrbPointer) → IsUnmarked m → IsUnmarked (point_step m pointer).1
unfolding point_step
point_clean m pointer e = in_clean (state_in m.phase) m pointer e

rung_clean : (state : AgentState) (m : Machine) → IsUnmarked m → IsUnmarked (doorbell_in state m).1
rung_clean states.Active m e = e
rung_clean states.Suspended m e = e
rung_clean states.Reset m e = e
rung_clean states.Dead m e = e

pub doorbell_clean : (m : Machine) → IsUnmarked m → IsUnmarked (doorbell_step m).1
unfolding doorbell_step
doorbell_clean m e = rung_clean (state_in m.phase) m e
