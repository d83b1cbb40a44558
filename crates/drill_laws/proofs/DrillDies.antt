-- A step of an agent that tells a death makes it dead, or one that writes its last status block (NCITS 325-1998, command block agents); and so it stays behind a reply and a loss.
use Rattle.std.proofs.Common.{◌≡◌, refl, ℕ, ◌==◌, ◌+◌, ◌*◌, Bool, true, false, cond, is_some, List, ◌++◌, length, Option, Some, None, Result, Ok, Err}
use Rattle.command_agent.specs.Checks.{death_by, reads_table, verdict}
use Rattle.command_agent.specs.Machine.{Machine, chunk_of, is_sent, plan_of}
use Rattle.command_agent.specs.Steps.{advanced, ahead_of, answer_chunk, answer_step, check_step, checked, chunk_written, data_grown, data_read, data_step, elements_read, end_step, follow_step, judge_step, judged, lost_step, main_lost, next_read, orb_read, passed_step, quiet, ran_as, reply_step, reread_step, run_step, sent, served, status_written, table_read, told_or, turn_step, unread_buffer}
use Rattle.command_agent.specs.declared.phase.Phase.{Phase}
use Rattle.command_agent.specs.declared.phase.Phase.TheVariants as phases
use Rattle.command_agent.specs.declared.phase.ReadAhead.{ReadAhead}
use Rattle.command_agent.specs.declared.phase.ReadAhead.TheVariants as aheads
use Rattle.command_agent.specs.declared.step.AgentStep.{AgentStep}
use Rattle.command_agent.specs.declared.step.Move.{Move}
use Rattle.command_agent.specs.declared.step.Move.TheVariants as moves
use Rattle.command_agent.specs.declared.step.Which.TheVariants.{Main}
use Rattle.orb_layout.specs.Pointers.{pointer_at}
use Rattle.orb_layout.specs.Replies.{Answer, payload_of, write_failure}
use Rattle.orb_layout.specs.declared.ask.FailCause.{FailCause}
use Rattle.orb_layout.specs.declared.pointer.OrbPointer.{OrbPointer}
use Rattle.orb_layout.specs.declared.pointer.OrbPointer.TheVariants.{At, Null}
use Rattle.orb_layout.specs.declared.status.StatusKind.{StatusKind}
use Rattle.orb_layout.specs.declared.status.StatusKind.TheVariants as kinds
use Rattle.page_table.specs.Elements.{elements_of, first_fault}
use Rattle.page_table.specs.declared.fault.PageFault.{PageFault}
use Rattle.rbc_disk.specs.Runs.{Told, need_of}
use Rattle.rbc_disk.specs.Units.{PlainDisk}
use Rattle.rbc_disk.specs.declared.command.Need.{Need}
use Rattle.rbc_disk.specs.declared.command.Need.TheVariants as needs
use Rattle.rbc_disk.specs.declared.command.Outcome.{Outcome}
use Rattle.rbc_disk.specs.declared.command.Outcome.TheVariants as outcomes
use Rattle.sbp_world.proofs.Common.{untrue}
use Rattle.sbp_world.proofs.Completing.DeadKnownSteps.{is_alive}

-- it is dead, or about to be
abbrev pub IsLast : Machine → Type 0
IsLast m = is_alive m.phase ≡ false

-- so it is behind a step that tells that it dies
abbrev pub Dies : AgentStep × Machine → Type 0
Dies s = is_some s.0.dead ≡ true → IsLast s.1

abbrev Goes : Move × Machine → Type 0
Goes (moves.Send step, m) = Dies (step, m)
Goes (moves.Check, m) = Unit {0}
Goes (moves.Judge, m) = Unit {0}
Goes (moves.Run, m) = Unit {0}

pick_dies : (b : Bool) (x y : AgentStep × Machine) → Dies x → Dies y → Dies (cond b x y)
pick_dies true x y h i = h
pick_dies false x y h i = i

pick_goes : (b : Bool) (x y : Move × Machine) → Goes x → Goes y → Goes (cond b x y)
pick_goes true x y h i = h
pick_goes false x y h i = i

end_dies : (m : Machine) (kind : StatusKind) (dead : Option FailCause) → Dies (end_step m kind dead)
end_dies m kind None = λ e. untrue e
end_dies m kind (Some cause) = λ e. refl

ran_dies : (m : Machine) (outcome : Outcome) → Dies (ran_as m outcome)
ran_dies m (outcomes.Check sense) = λ e. untrue e
ran_dies m (outcomes.Good len) = pick_dies (len == 0) (end_step m kinds.Good None) (answer_step m) (λ e. untrue e) (λ e. untrue e)

run_dies : (m : Machine) (told : Told) → Dies (run_step m told)
run_dies m told = ran_dies (record m { answer = told.answer; written = 0 }) told.outcome

judged_dies : (m : Machine) (told : Told) (need : Need) → Dies (judged m told need)
judged_dies m told needs.RunNow = run_dies m told
judged_dies m told (needs.Payload len) = λ e. untrue e

aheads_die : (dead : Option FailCause) (next : OrbPointer) (s : AgentStep × Machine) → Dies s → Dies (ahead_of dead next s)
aheads_die None (At next) s h = h
aheads_die None Null s h = h
aheads_die (Some cause) next s h = h

module _ (place : ℕ) (plain : PlainDisk) (told : Told) where
  passed_dies : (m : Machine) → Dies (passed_step m place plain told)
  passed_dies m =
      let n = record m { segments = unread_buffer m.orb } in
      pick_dies (reads_table m.orb) (_, record m { phase = phases.ReadingTable }) (judge_step n place plain told) (λ e. untrue e) (judged_dies n told (need_of n.orb.cdb (plan_of n) plain place))

  checked_dies : (m : Machine) (found : Option StatusKind) → Dies (checked m place plain told found)
  checked_dies m (Some kind) = end_dies m kind (death_by kind)
  checked_dies m None = passed_dies m

  served_dies : (move : Move) (m : Machine) → Goes (move, m) → Dies (served place plain told move m)
  served_dies (moves.Send step) m h = h
  served_dies moves.Check m h = let s = check_step m place plain told in aheads_die s.0.dead s.1.orb.next s (checked_dies m (verdict m.orb m.aborted))
  served_dies moves.Judge m h = judged_dies m told (need_of m.orb.cdb (plan_of m) plain place)
  served_dies moves.Run m h = run_dies m told

-- ---- a reply
turn_goes : (m : Machine) (next : ℕ) (ahead : ReadAhead) → Goes (turn_step m next ahead)
turn_goes m next aheads.Idle = λ e. untrue e
turn_goes m next (aheads.UnderWay rung) = λ e. untrue e
turn_goes m next (aheads.Kept orb) = tt

wait_goes : (b : Bool) (m : Machine) → Goes (sent (cond b (reread_step m) (quiet, record m { phase = phases.Suspended })))
wait_goes true m = λ e. untrue e
wait_goes false m = λ e. untrue e

follow_goes : (m : Machine) (next : OrbPointer) → Goes (follow_step m next)
follow_goes m (At next) = turn_goes m next m.ahead
follow_goes m Null = wait_goes m.doorbell m

status_goes : (m : Machine) (failure : Option FailCause) → Goes (status_written m failure)
status_goes m (Some cause) = λ e. refl
status_goes m None = follow_goes m m.orb.next

next_goes : (m : Machine) (r : Result (List ℕ) FailCause) → Goes (next_read m r)
next_goes m (Err cause) = λ e. refl
next_goes m (Ok bytes) = follow_goes (record m { orb = record m.orb { next = pointer_at bytes 0 } }) (pointer_at bytes 0)

orb_goes : (m : Machine) (r : Result (List ℕ) FailCause) → Goes (orb_read m r)
orb_goes m (Err cause) = λ e. refl
orb_goes m (Ok bytes) = tt

elements_go : (m : Machine) (bytes : List ℕ) (fault : Option PageFault) → Goes (elements_read m bytes fault)
elements_go m bytes (Some fault) = λ e. refl
elements_go m bytes None = tt

table_goes : (m : Machine) (r : Result (List ℕ) FailCause) → Goes (table_read m r)
table_goes m (Err cause) = λ e. refl
table_goes m (Ok bytes) =
    let fault = first_fault 0 (elements_of bytes) in pick_goes m.aborted (sent (end_step m kinds.Aborted None)) (elements_read m bytes fault) (λ e. untrue e) (elements_go m bytes fault)

data_goes : (m : Machine) (wanted : ℕ) (r : Result (List ℕ) FailCause) → Goes (data_read m wanted r)
data_goes m wanted (Err cause) = λ e. refl
data_goes m wanted (Ok bytes) =
    let n = record m { payload = m.payload ++ bytes } in
    pick_goes m.aborted (sent (end_step m kinds.Aborted None)) (data_grown n wanted) (λ e. untrue e) (pick_goes (length n.payload == wanted) (moves.Run, n) (sent (data_step n wanted)) tt (λ e. untrue e))

grown_goes : (b : Bool) (m : Machine) → Goes (sent (cond b (end_step m kinds.Good None) (answer_step m)))
grown_goes true m = λ e. untrue e
grown_goes false m = λ e. untrue e

chunk_goes : (m : Machine) (failure : Option FailCause) → Goes (chunk_written m failure)
chunk_goes m (Some cause) = λ e. refl
chunk_goes m None = let n = record m { written = m.written + answer_chunk m } in grown_goes (n.written == length n.answer) n

advanced_goes : (phase : Phase) (m : Machine) (answer : Answer) → Goes (advanced phase m answer)
advanced_goes phases.Fetching m answer = orb_goes m (payload_of answer 32)
advanced_goes phases.ReadingTable m answer = table_goes m (payload_of answer (8 * m.orb.data_size))
advanced_goes (phases.ReadingData wanted) m answer = data_goes m wanted (payload_of answer (chunk_of m (length m.payload) wanted).length)
advanced_goes phases.Answering m answer = chunk_goes m (write_failure answer)
advanced_goes phases.WritingStatus m answer = status_goes m (write_failure answer)
advanced_goes phases.ReadingNext m answer = next_goes m (payload_of answer 8)
advanced_goes phases.WritingLastStatus m answer = λ e. untrue e
advanced_goes phases.Reset m answer = λ e. untrue e
advanced_goes phases.Suspended m answer = λ e. untrue e
advanced_goes phases.Dead m answer = λ e. untrue e

pub reply_dies : (m : Machine) (place : ℕ) (plain : PlainDisk) (told : Option Told) (answer : Answer) → Dies (reply_step m place plain told Main answer)
unfolding reply_step
reply_dies m place plain told answer = let a = advanced m.phase m answer in served_dies place plain (told_or told) a.0 a.1 (advanced_goes m.phase m answer)

-- ---- it stays so
not_last : {A : Type 0} → true ≡ false → A
not_last e = absurd (cc e)

module _ (place : ℕ) (plain : PlainDisk) (told : Told) where
  advanced_stays : (phase : Phase) (m : Machine) (answer : Answer) → is_alive m.phase ≡ is_alive phase → is_alive phase ≡ false → (let a = advanced phase m answer in IsLast (served place plain told a.0 a.1).1)
  advanced_stays phases.WritingLastStatus m answer e h = refl
  advanced_stays phases.Dead m answer e h = e
  advanced_stays phases.Fetching m answer e h = not_last h
  advanced_stays phases.ReadingTable m answer e h = not_last h
  advanced_stays (phases.ReadingData wanted) m answer e h = not_last h
  advanced_stays phases.Answering m answer e h = not_last h
  advanced_stays phases.WritingStatus m answer e h = not_last h
  advanced_stays phases.ReadingNext m answer e h = not_last h
  advanced_stays phases.Reset m answer e h = not_last h
  advanced_stays phases.Suspended m answer e h = not_last h

pub reply_stays : (m : Machine) (place : ℕ) (plain : PlainDisk) (told : Option Told) (answer : Answer) → IsLast m → IsLast (reply_step m place plain told Main answer).1
unfolding reply_step
reply_stays m place plain told answer h = advanced_stays place plain (told_or told) m.phase m answer refl h

lost_by : (phase : Phase) (m : Machine) (cause : FailCause) → is_sent phase ≡ true → IsLast (main_lost phase m cause).1
lost_by phases.Fetching m cause h = refl
lost_by phases.ReadingTable m cause h = refl
lost_by (phases.ReadingData wanted) m cause h = refl
lost_by phases.Answering m cause h = refl
lost_by phases.WritingStatus m cause h = refl
lost_by phases.ReadingNext m cause h = refl
lost_by phases.WritingLastStatus m cause h = refl
lost_by phases.Reset m cause h = untrue h
lost_by phases.Suspended m cause h = untrue h
lost_by phases.Dead m cause h = untrue h

-- an agent that loses its main transaction
pub loss_dies : (m : Machine) (cause : FailCause) → is_sent m.phase ≡ true → IsLast (lost_step m Main cause).1
unfolding lost_step
loss_dies m cause h = lost_by m.phase m cause h
