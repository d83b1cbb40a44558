-- How each step goes on with the present ORB.
use Rattle.std.proofs.Common.{◌≡◌, refl, sym, ℕ, ◌+◌, ◌*◌, ◌==◌, ◌||◌, Bool, true, false, cond, List, ◌++◌, length, Option, Some, None, Result, Ok, Err}
use Rattle.orb_layout.specs.declared.ask.FailCause.{FailCause}
use Rattle.orb_layout.specs.declared.pointer.OrbPointer.{OrbPointer}
use Rattle.orb_layout.specs.declared.pointer.OrbPointer.TheVariants.{Null, At}
use Rattle.orb_layout.specs.declared.status.StatusKind.{StatusKind}
use Rattle.orb_layout.specs.declared.status.StatusKind.TheVariants as kinds
use Rattle.orb_layout.specs.CommandOrbs.{command_orb}
use Rattle.orb_layout.specs.Pointers.{pointer_at}
use Rattle.orb_layout.specs.Replies.{Answer, payload_of, write_failure}
use Rattle.page_table.specs.declared.fault.PageFault.{PageFault}
use Rattle.page_table.specs.Elements.{elements_of, first_fault}
use Rattle.rbc_disk.specs.declared.command.Need.{Need}
use Rattle.rbc_disk.specs.declared.command.Need.TheVariants as needs
use Rattle.rbc_disk.specs.declared.command.Outcome.{Outcome}
use Rattle.rbc_disk.specs.declared.command.Outcome.TheVariants as outcomes
use Rattle.rbc_disk.specs.Units.{PlainDisk}
use Rattle.rbc_disk.specs.Runs.{Told, need_of}
use Rattle.command_agent.specs.declared.phase.Phase.{Phase}
use Rattle.command_agent.specs.declared.phase.Phase.TheVariants as phases
use Rattle.command_agent.specs.declared.phase.ReadAhead.{ReadAhead}
use Rattle.command_agent.specs.declared.phase.ReadAhead.TheVariants as aheads
use Rattle.command_agent.specs.declared.step.AgentStep.{AgentStep}
use Rattle.command_agent.specs.declared.step.Move.{Move}
use Rattle.command_agent.specs.declared.step.Which.TheVariants.{Main, Ahead}
use Rattle.command_agent.specs.Machine.{Machine, chunk_of, is_ahead, plan_of}
use Rattle.command_agent.specs.Checks.{reads_table, verdict, death_by}
use Rattle.command_agent.specs.Steps.{quiet, end_step, fail_step, with_ahead, ahead_of, answer_chunk, answer_step, data_step, ran_as, run_step, judged, judge_step, passed_step, unread_buffer, checked, check_step, served, orb_read, table_read, elements_read, data_read, chunk_written, turned, turn_step, reread_step, follow_step, status_written, next_read, advanced, told_or, ahead_read, ahead_lost, reply_step, main_lost, lost_step}
use Rattle.command_agent.specs.Making.{is_at_work, followed, unless_failed, pointer_read}
use Rattle.command_agent.specs.Working.{is_next, GoesOn, RepliesGoOn, BeginsNone, AheadsBeginNone, LossesBeginNone}

abbrev Step : Type 0
Step = AgentStep × Machine

-- whatever it finds, an ORB ends, or it is at work
module _ (found : Bool) where
  either : (b : Bool) (x y : Step) → GoesOn found x → GoesOn found y → GoesOn found (cond b x y)
  either true x y p q = p
  either false x y p q = q

  ends : (m : Machine) (kind : StatusKind) (dead : Option FailCause) → GoesOn found (end_step m kind dead)
  ends m kind None = record { over = λ e. refl; goes = λ e. refl }
  ends m kind (Some cause) = record { over = λ e. refl; goes = λ e. refl }

  works : (s : Step) → s.0.ended ≡ None → is_at_work s.1.phase ≡ true → GoesOn found s
  works s none work = record {
    over = λ e. cc (none, e);
    goes = λ e. rw work refl;
  }

  runs_as : (m : Machine) (outcome : Outcome) → GoesOn found (ran_as m outcome)
  runs_as m (outcomes.Check sense) = ends m _ None
  runs_as m (outcomes.Good len) = either (len == 0) (end_step m kinds.Good None) (answer_step m) (ends m kinds.Good None) (works (answer_step m) refl refl)

  runs : (m : Machine) (told : Told) → GoesOn found (run_step m told)
  runs m told = let r = runs_as (record m { answer = told.answer; written = 0 }) told.outcome in record { over = r.over; goes = r.goes }

  judges_as : (m : Machine) (told : Told) (need : Need) → GoesOn found (judged m told need)
  judges_as m told needs.RunNow = runs m told
  judges_as m told (needs.Payload len) = works (data_step m len) refl refl

  module _ (place : ℕ) (plain : PlainDisk) (told : Told) where
    judges : (m : Machine) → GoesOn found (judge_step m place plain told)
    judges m = judges_as m told (need_of m.orb.cdb (plan_of m) plain place)

    checks_as : (m : Machine) (kind : Option StatusKind) → GoesOn found (checked m place plain told kind)
    checks_as m (Some kind) = ends m kind (death_by kind)
    checks_as m None =
        let table = passed_step m place plain told in
        let plain_one = record m { segments = unread_buffer m.orb } in
        either (reads_table m.orb) _ (judge_step plain_one place plain told) (works _ refl refl) (judges plain_one)

    reads_ahead : (dead : Option FailCause) (next : OrbPointer) (s : Step) → GoesOn found s → GoesOn found (ahead_of dead next s)
    reads_ahead None (At next) s g = record { over = g.over; goes = g.goes }
    reads_ahead None Null s g = g
    reads_ahead (Some cause) next s g = g

    checks : (m : Machine) → GoesOn found (with_ahead (check_step m place plain told))
    checks m = let s = check_step m place plain told in reads_ahead s.0.dead s.1.orb.next s (checks_as m (verdict m.orb m.aborted))

    -- a move and what is done by it
    abbrev done : Move × Machine → Step
    done s = served place plain told s.0 s.1

    if_done : (b : Bool) (x y : Move × Machine) → GoesOn found (done x) → GoesOn found (done y) → GoesOn found (done (cond b x y))
    if_done true x y p q = p
    if_done false x y p q = q

    -- ---- the present ORB
    orb_goes : (m : Machine) (read : Result (List ℕ) FailCause) → GoesOn found (done (orb_read m read))
    orb_goes m (Err cause) = ends m _ (Some cause)
    orb_goes m (Ok bytes) = checks (record m { orb = command_orb bytes })

    elements_go : (m : Machine) (bytes : List ℕ) (fault : Option PageFault) → GoesOn found (done (elements_read m bytes fault))
    elements_go m bytes (Some fault) = ends m _ (Some _)
    elements_go m bytes None = judges (record m { segments = elements_of bytes })

    table_goes : (m : Machine) (read : Result (List ℕ) FailCause) → GoesOn found (done (table_read m read))
    table_goes m (Err cause) = ends m _ (Some cause)
    table_goes m (Ok bytes) = if_done m.aborted _ (elements_read m bytes (first_fault 0 (elements_of bytes))) (ends m _ None) (elements_go m bytes (first_fault 0 (elements_of bytes)))

    data_goes : (m : Machine) (wanted : ℕ) (read : Result (List ℕ) FailCause) → GoesOn found (done (data_read m wanted read))
    data_goes m wanted (Err cause) = ends m _ (Some cause)
    data_goes m wanted (Ok bytes) =
        let more = record m { payload = m.payload ++ bytes } in
        if_done m.aborted _ _ (ends m _ None) (if_done (length more.payload == wanted) _ _ (runs more told) (works (data_step more wanted) refl refl))

    chunk_goes : (m : Machine) (failure : Option FailCause) → GoesOn found (done (chunk_written m failure))
    chunk_goes m (Some cause) = ends m _ (Some cause)
    chunk_goes m None =
        let on = record m { written = m.written + answer_chunk m } in
        either (on.written == length on.answer) (end_step on kinds.Good None) (answer_step on) (ends on kinds.Good None) (works (answer_step on) refl refl)

    -- ---- the turn of another
    turn_goes : (m : Machine) (next : ℕ) (ahead : ReadAhead) → GoesOn found (done (turn_step m next ahead))
    turn_goes m next aheads.Idle = works _ refl refl
    turn_goes m next (aheads.UnderWay rung) = works _ refl refl
    turn_goes m next (aheads.Kept orb) = checks (record (turned m next) { orb = orb })

-- where there is no ORB to work, none ends
rests : (s : Step) → s.0.ended ≡ None → GoesOn false s
rests s none = record { over = λ e. cc (none, e); goes = λ e. cc e }

module _ (place : ℕ) (plain : PlainDisk) (told : Told) where
  waits : (b : Bool) (m : Machine) → GoesOn false (cond b (reread_step m) (quiet, record m { phase = phases.Suspended }))
  waits true m = rests _ refl
  waits false m = rests _ refl

  follows : (m : Machine) (next : OrbPointer) → GoesOn (is_next next) (done false place plain told (follow_step m next))
  follows m (At next) = turn_goes true place plain told m next m.ahead
  follows m Null = waits m.doorbell m

  status_goes : (m : Machine) (failure : Option FailCause) → GoesOn (is_next (unless_failed failure m.orb.next)) (done false place plain told (status_written m failure))
  status_goes m (Some cause) = rests _ refl
  status_goes m None = follows m m.orb.next

  next_goes : (m : Machine) (read : Result (List ℕ) FailCause) → GoesOn (is_next (pointer_read read)) (done false place plain told (next_read m read))
  next_goes m (Err cause) = rests _ refl
  next_goes m (Ok bytes) = follows (record m { orb = record m.orb { next = pointer_at bytes 0 } }) (pointer_at bytes 0)

  goes_in : (phase : Phase) (m : Machine) (answer : Answer) → GoesOn (is_at_work phase || is_next (followed phase m answer)) (done false place plain told (advanced phase m answer))
  goes_in phases.Fetching m answer = orb_goes true place plain told m (payload_of answer 32)
  goes_in phases.ReadingTable m answer = table_goes true place plain told m (payload_of answer (8 * m.orb.data_size))
  goes_in (phases.ReadingData wanted) m answer = data_goes true place plain told m wanted (payload_of answer (chunk_of m (length m.payload) wanted).length)
  goes_in phases.Answering m answer = chunk_goes true place plain told m (write_failure answer)
  goes_in phases.WritingStatus m answer = status_goes m (write_failure answer)
  goes_in phases.ReadingNext m answer = next_goes m (payload_of answer 8)
  goes_in _ m answer = rests _ refl

pub replies_go_on : RepliesGoOn
unfolding reply_step
replies_go_on m place plain told answer = goes_in place plain (told_or told) m.phase m answer

-- ---- what begins none
stays : (m : Machine) (s : Step) → s.0.ended ≡ None → s.1.phase ≡ m.phase → BeginsNone m s
stays m s none same = record {
  on = record { over = λ e. cc (none, e); goes = λ e. rw same (rw e refl) };
  old = λ e. rw (sym same) e;
}

stays_if : (m : Machine) (b : Bool) (s : Step) → BeginsNone m s → BeginsNone m (cond b s (quiet, m))
stays_if m true s h = h
stays_if m false s h = stays m (quiet, m) refl refl

ahead_stays : (m : Machine) (read : Result (List ℕ) FailCause) → BeginsNone m (ahead_read m read)
ahead_stays m (Ok bytes) = stays m _ refl refl
ahead_stays m (Err cause) = stays m _ refl refl

pub aheads_begin_none : AheadsBeginNone
unfolding reply_step
aheads_begin_none m place plain told answer = stays_if m (is_ahead m.ahead) _ (ahead_stays m (payload_of answer 32))

fails : (m : Machine) (cause : FailCause) → is_at_work m.phase ≡ true → BeginsNone m (fail_step m cause)
fails m cause work = record { on = rw work (ends true m kinds.Failed (Some cause)); old = λ e. work }

dies : (m : Machine) (s : Step) → is_at_work m.phase ≡ false → s.0.ended ≡ None → is_at_work s.1.phase ≡ false → BeginsNone m s
dies m s idle none rest = record { on = rw idle (rests s none); old = λ e. cc (rest, e) }

lost_in : (phase : Phase) (m : Machine) (cause : FailCause) → m.phase ≡ phase → BeginsNone m (main_lost phase m cause)
lost_in phases.Fetching m cause e = fails m cause (rw e refl)
lost_in phases.ReadingTable m cause e = fails m cause (rw e refl)
lost_in (phases.ReadingData wanted) m cause e = fails m cause (rw e refl)
lost_in phases.Answering m cause e = fails m cause (rw e refl)
lost_in phases.WritingStatus m cause e = dies m _ (rw e refl) refl refl
lost_in phases.ReadingNext m cause e = dies m _ (rw e refl) refl refl
lost_in phases.WritingLastStatus m cause e = dies m _ (rw e refl) refl refl
lost_in _ m cause e = dies m _ (rw e refl) refl (rw e refl)

pub losses_begin_none : LossesBeginNone
unfolding lost_step
losses_begin_none m Main cause = lost_in m.phase m cause refl
losses_begin_none m Ahead cause = stays_if m (is_ahead m.ahead) _ (stays m (ahead_lost m cause) refl refl)
