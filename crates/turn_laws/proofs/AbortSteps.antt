-- When a reply to the main transaction of an agent ends its ORB as aborted: where the ORB is marked, and the reply brings whole what the agent reads of it, and no ORB of a format
-- other than 0. And an agent that waits for more of its ORB behind a step has the mark that it had, if it waited for this ORB before; else it has none.
use Rattle.std.proofs.Common.{◌≡◌, ◌∙◌, refl, sym, ap, arith, ℕ, ◌*◌, ◌+◌, ◌^◌, ◌==◌, ◌&&◌, not, nat_lt, Bool, true, false, cond, List, ◌++◌, length, Option, Some, None, Result, Ok, Err}
use Rattle.std.proofs.lemmas.Bool.Decides.{nat_tests}
use Rattle.orb_layout.specs.declared.ask.Ask.TheVariants.{Read}
use Rattle.orb_layout.specs.declared.ask.FailCause.{FailCause}
use Rattle.orb_layout.specs.declared.command.CommandOrb.{CommandOrb}
use Rattle.orb_layout.specs.declared.pointer.OrbPointer.{OrbPointer}
use Rattle.orb_layout.specs.declared.pointer.OrbPointer.TheVariants as pointers
use Rattle.orb_layout.specs.declared.status.StatusKind.{StatusKind}
use Rattle.orb_layout.specs.declared.status.StatusKind.TheVariants as kinds
use Rattle.orb_layout.specs.CommandOrbs.{command_orb}
use Rattle.orb_layout.specs.Pointers.{pointer_at}
use Rattle.orb_layout.specs.Replies.{Answer, payload_of, write_failure}
use Rattle.page_table.specs.declared.fault.PageFault.{PageFault}
use Rattle.page_table.specs.Elements.{elements_of, first_fault}
use Rattle.rbc_disk.specs.declared.command.Need.{Need}
use Rattle.rbc_disk.specs.declared.command.Need.TheVariants as needs
use Rattle.rbc_disk.specs.declared.command.Outcome.{Outcome}
use Rattle.rbc_disk.specs.declared.command.Outcome.TheVariants as outcomes
use Rattle.rbc_disk.specs.Runs.{Told, need_of}
use Rattle.rbc_disk.specs.Units.{PlainDisk}
use Rattle.command_agent.specs.Checks.{reads_table, refusal, verdict}
use Rattle.command_agent.specs.Machine.{Machine, chunk_of, is_ahead, plan_of}
use Rattle.command_agent.specs.Steps.{advanced, ahead_of, ahead_read, ahead_step, answer_chunk, answer_step, asks, check_step, checked, chunk_written, data_grown, data_read, data_step, elements_read, end_step, follow_step, judge_step, judged, next_read, orb_read, passed_step, quiet, ran_as, reply_step, reread_step, run_step, sent, served, status_written, table_read, told_or, turn_step, unread_buffer, wait_step}
use Rattle.command_agent.specs.declared.phase.Phase.{Phase}
use Rattle.command_agent.specs.declared.phase.Phase.TheVariants as phases
use Rattle.command_agent.specs.declared.phase.ReadAhead.{ReadAhead}
use Rattle.command_agent.specs.declared.phase.ReadAhead.TheVariants as aheads
use Rattle.command_agent.specs.declared.step.AgentStep.{AgentStep}
use Rattle.command_agent.specs.declared.step.Move.{Move}
use Rattle.command_agent.specs.declared.step.Move.TheVariants as moves
use Rattle.command_agent.specs.declared.step.Which.TheVariants.{Ahead, Main}
use Rattle.sbp_world.proofs.Wire.Kept.{and_false}

abbrev pub ends_aborted : Option StatusKind → Bool
ends_aborted (Some kinds.Aborted) = true
ends_aborted kind = false

-- it brings whole what the agent reads of an ORB, and no ORB of a format other than 0
abbrev pub takes : Phase → Result (List ℕ) FailCause → Bool
takes phases.Fetching (Ok bytes) = (command_orb bytes).format == 0
takes phases.ReadingTable (Ok bytes) = true
takes (phases.ReadingData wanted) (Ok bytes) = true
takes phase result = false

-- the size of what a phase reads
abbrev pub size_of : Phase → Machine → ℕ
size_of phases.Fetching m = 32
size_of phases.ReadingTable m = 8 * m.orb.data_size
size_of (phases.ReadingData wanted) m = (chunk_of m (length m.payload) wanted).length
size_of phase m = 0

-- ---- an ORB that is checked
by_fields : (b c d e f : Bool)
    → ends_aborted (cond b (Some (kinds.Illegal 0x02)) (cond c (Some (kinds.Illegal 0xff)) (cond d (Some (kinds.Illegal 0x03)) (cond e (Some (kinds.Illegal 0xff)) (cond f (Some (kinds.Illegal 0xff)) None))))) ≡ false
by_fields true c d e f = refl
by_fields false true d e f = refl
by_fields false false true e f = refl
by_fields false false false true f = refl
by_fields false false false false true = refl
by_fields false false false false false = refl

refused_not : (orb : CommandOrb) → ends_aborted (refusal orb) ≡ false
unfolding refusal
refused_not orb =
    by_fields (nat_lt 2 orb.speed) (nat_lt (7 + orb.speed) orb.max_payload) (orb.has_table && not (orb.page_size == 0)) (orb.has_table && nat_lt 64 orb.data_size)
    (not orb.has_table && nat_lt (2 ^ 48) (orb.descriptor + orb.data_size))

by_format : (three zero aborted : Bool) (x : Option StatusKind) → ends_aborted x ≡ false → (three ≡ true → zero ≡ false)
    → ends_aborted (cond three (Some kinds.Dummy) (cond (not zero) (Some (kinds.Illegal 0x01)) (cond aborted (Some kinds.Aborted) x))) ≡ (aborted && zero)
by_format true zero aborted x e f = sym (ap (λ b. aborted && b) (f refl) ∙ and_false aborted)
by_format false false aborted x e f = sym (and_false aborted)
by_format false true true x e f = refl
by_format false true false x e f = e

three_not : (n : ℕ) → (n == 3) ≡ true → (n == 0) ≡ false
three_not n e = grind (arith, nat_tests, e)

verdict_aborts : (orb : CommandOrb) (aborted : Bool) → ends_aborted (verdict orb aborted) ≡ (aborted && (orb.format == 0))
unfolding verdict
verdict_aborts orb aborted = by_format (orb.format == 3) (orb.format == 0) aborted (refusal orb) (refused_not orb) (three_not orb.format)

-- ---- what a step ends otherwise
abbrev aborts : AgentStep × Machine → Bool
aborts s = ends_aborted s.0.ended

either : (b : Bool) (x y : AgentStep × Machine) → aborts x ≡ false → aborts y ≡ false → aborts (cond b x y) ≡ false
either true x y e f = e
either false x y e f = f

ran_not : (m : Machine) (outcome : Outcome) → aborts (ran_as m outcome) ≡ false
ran_not m (outcomes.Check sense) = refl
ran_not m (outcomes.Good len) = either (len == 0) (end_step m kinds.Good None) (answer_step m) refl refl

run_not : (m : Machine) (told : Told) → aborts (run_step m told) ≡ false
run_not m told = ran_not (record m { answer = told.answer; written = 0 }) told.outcome

judged_not : (m : Machine) (told : Told) (need : Need) → aborts (judged m told need) ≡ false
judged_not m told needs.RunNow = run_not m told
judged_not m told (needs.Payload len) = refl

judge_not : (m : Machine) (place : ℕ) (plain : PlainDisk) (told : Told) → aborts (judge_step m place plain told) ≡ false
judge_not m place plain told = judged_not m told (need_of m.orb.cdb (plan_of m) plain place)

passed_not : (m : Machine) (place : ℕ) (plain : PlainDisk) (told : Told) → aborts (passed_step m place plain told) ≡ false
passed_not m place plain told =
    let n = record m { segments = unread_buffer m.orb } in
    either (reads_table m.orb) (asks (Read m.orb.descriptor (8 * m.orb.data_size)), record m { phase = phases.ReadingTable }) (judge_step n place plain told) refl (judge_not n place plain told)

checked_aborts : (m : Machine) (place : ℕ) (plain : PlainDisk) (told : Told) (found : Option StatusKind) → aborts (checked m place plain told found) ≡ ends_aborted found
checked_aborts m place plain told (Some kind) = refl
checked_aborts m place plain told None = passed_not m place plain told

ahead_aborts : (dead : Option FailCause) (next : OrbPointer) (s : AgentStep × Machine) → aborts (ahead_of dead next s) ≡ aborts s
ahead_aborts None (pointers.At next) s = refl
ahead_aborts None pointers.Null s = refl
ahead_aborts (Some cause) next s = refl

-- ---- a move
abbrev move_aborts : Move × Machine → Bool
move_aborts (moves.Send step, m) = ends_aborted step.ended
move_aborts (moves.Check, m) = m.aborted && (m.orb.format == 0)
move_aborts (moves.Judge, m) = false
move_aborts (moves.Run, m) = false

served_aborts : (place : ℕ) (plain : PlainDisk) (told : Told) (r : Move × Machine) → aborts (served place plain told r.0 r.1) ≡ move_aborts r
served_aborts place plain told (moves.Send step, m) = refl
served_aborts place plain told (moves.Check, m) =
    let s = check_step m place plain told in
    ahead_aborts s.0.dead s.1.orb.next s ∙ (checked_aborts m place plain told (verdict m.orb m.aborted) ∙ verdict_aborts m.orb m.aborted)
served_aborts place plain told (moves.Judge, m) = judge_not m place plain told
served_aborts place plain told (moves.Run, m) = run_not m told

pick : (b : Bool) (x y : Move × Machine) → move_aborts x ≡ false → move_aborts y ≡ false → move_aborts (cond b x y) ≡ false
pick true x y e f = e
pick false x y e f = f

marked : (b : Bool) (m : Machine) (y : Move × Machine) → move_aborts y ≡ false → move_aborts (cond b (sent (end_step m kinds.Aborted None)) y) ≡ b
marked true m y e = refl
marked false m y e = e

sends_not : (s : AgentStep × Machine) → aborts s ≡ false → move_aborts (sent s) ≡ false
sends_not s e = e

orb_aborts : (m : Machine) (r : Result (List ℕ) FailCause) → move_aborts (orb_read m r) ≡ (m.aborted && takes phases.Fetching r)
orb_aborts m (Err cause) = sym (and_false m.aborted)
orb_aborts m (Ok bytes) = refl

fault_not : (m : Machine) (bytes : List ℕ) (fault : Option PageFault) → move_aborts (elements_read m bytes fault) ≡ false
fault_not m bytes None = refl
fault_not m bytes (Some fault) = refl

pub and_true : (b : Bool) → b ≡ (b && true)
and_true true = refl
and_true false = refl

table_aborts : (m : Machine) (r : Result (List ℕ) FailCause) → move_aborts (table_read m r) ≡ (m.aborted && takes phases.ReadingTable r)
table_aborts m (Err cause) = sym (and_false m.aborted)
table_aborts m (Ok bytes) =
    let fault = first_fault 0 (elements_of bytes) in marked m.aborted m (elements_read m bytes fault) (fault_not m bytes fault) ∙ and_true m.aborted

data_aborts : (m : Machine) (wanted : ℕ) (r : Result (List ℕ) FailCause) → move_aborts (data_read m wanted r) ≡ (m.aborted && takes (phases.ReadingData wanted) r)
data_aborts m wanted (Err cause) = sym (and_false m.aborted)
data_aborts m wanted (Ok bytes) =
    let n = record m { payload = m.payload ++ bytes } in
    marked m.aborted m (data_grown n wanted) (pick (length n.payload == wanted) (moves.Run, n) (sent (data_step n wanted)) refl refl) ∙ and_true m.aborted

chunk_not : (m : Machine) (failure : Option FailCause) → move_aborts (chunk_written m failure) ≡ false
chunk_not m (Some cause) = refl
chunk_not m None =
    let n = record m { written = m.written + answer_chunk m } in
    sends_not (cond (n.written == length n.answer) (end_step n kinds.Good None) (answer_step n)) (either (n.written == length n.answer) (end_step n kinds.Good None) (answer_step n) refl refl)

turn_not : (m : Machine) (next : ℕ) (ahead : ReadAhead) → move_aborts (turn_step m next ahead) ≡ false
turn_not m next aheads.Idle = refl
turn_not m next (aheads.UnderWay rung) = refl
turn_not m next (aheads.Kept orb) = refl

follow_not : (m : Machine) (next : OrbPointer) → move_aborts (follow_step m next) ≡ false
follow_not m (pointers.At next) = turn_not m next m.ahead
follow_not m pointers.Null = sends_not (wait_step m) (either m.doorbell (reread_step m) (quiet, record m { phase = phases.Suspended }) refl refl)

status_not : (m : Machine) (failure : Option FailCause) → move_aborts (status_written m failure) ≡ false
status_not m (Some cause) = refl
status_not m None = follow_not m m.orb.next

next_not : (m : Machine) (r : Result (List ℕ) FailCause) → move_aborts (next_read m r) ≡ false
next_not m (Err cause) = refl
next_not m (Ok bytes) = follow_not (record m { orb = record m.orb { next = pointer_at bytes 0 } }) (pointer_at bytes 0)

-- ---- the reply to the main transaction, and to the read ahead
advanced_aborts : (phase : Phase) (m : Machine) (answer : Answer) → move_aborts (advanced phase m answer) ≡ (m.aborted && takes phase (payload_of answer (size_of phase m)))
advanced_aborts phases.Fetching m answer = orb_aborts m (payload_of answer 32)
advanced_aborts phases.ReadingTable m answer = table_aborts m (payload_of answer (8 * m.orb.data_size))
advanced_aborts (phases.ReadingData wanted) m answer = data_aborts m wanted (payload_of answer (chunk_of m (length m.payload) wanted).length)
advanced_aborts phases.Answering m answer = chunk_not m (write_failure answer) ∙ sym (and_false m.aborted)
advanced_aborts phases.WritingStatus m answer = status_not m (write_failure answer) ∙ sym (and_false m.aborted)
advanced_aborts phases.ReadingNext m answer = next_not m (payload_of answer 8) ∙ sym (and_false m.aborted)
advanced_aborts phases.Reset m answer = sym (and_false m.aborted)
advanced_aborts phases.WritingLastStatus m answer = sym (and_false m.aborted)
advanced_aborts phases.Suspended m answer = sym (and_false m.aborted)
advanced_aborts phases.Dead m answer = sym (and_false m.aborted)

pub main_aborts : (m : Machine) (place : ℕ) (plain : PlainDisk) (told : Option Told) (answer : Answer)
    → ends_aborted (reply_step m place plain told Main answer).0.ended ≡ (m.aborted && takes m.phase (payload_of answer (size_of m.phase m)))
unfolding reply_step
main_aborts m place plain told answer = served_aborts place plain (told_or told) (advanced m.phase m answer) ∙ advanced_aborts m.phase m answer

read_not : (m : Machine) (bytes : Result (List ℕ) FailCause) → aborts (ahead_read m bytes) ≡ false
read_not m (Ok bytes) = refl
read_not m (Err cause) = refl

pub ahead_not : (m : Machine) (place : ℕ) (plain : PlainDisk) (told : Option Told) (answer : Answer) → ends_aborted (reply_step m place plain told Ahead answer).0.ended ≡ false
unfolding reply_step
ahead_not m place plain told answer = either (is_ahead m.ahead) (ahead_step m answer) (quiet, m) (read_not m (payload_of answer 32)) refl
