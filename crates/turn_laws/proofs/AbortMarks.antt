-- Whether an agent that waits for more of its ORB has it marked for an abort goes on through each step of it: it has the mark that it had, if it waited for this ORB before; else it has none.
use Rattle.std.proofs.Common.{◌≡◌, ◌∙◌, refl, sym, ap, ℕ, ◌*◌, ◌+◌, ◌==◌, ◌&&◌, Bool, true, false, cond, List, ◌++◌, length, Option, Some, None, Result, Ok, Err}
use Rattle.orb_layout.specs.declared.ask.Ask.TheVariants.{Read}
use Rattle.orb_layout.specs.declared.ask.FailCause.{FailCause}
use Rattle.orb_layout.specs.declared.ask.FailCause.TheVariants as causes
use Rattle.orb_layout.specs.declared.pointer.OrbPointer.{OrbPointer}
use Rattle.orb_layout.specs.declared.pointer.OrbPointer.TheVariants as pointers
use Rattle.orb_layout.specs.declared.status.StatusKind.{StatusKind}
use Rattle.orb_layout.specs.declared.status.StatusKind.TheVariants as kinds
use Rattle.orb_layout.specs.Pointers.{pointer_at}
use Rattle.orb_layout.specs.Replies.{Answer, payload_of, write_failure}
use Rattle.page_table.specs.declared.fault.PageFault.{PageFault}
use Rattle.page_table.specs.Elements.{elements_of, first_fault}
use Rattle.rbc_disk.specs.declared.command.Need.{Need}
use Rattle.rbc_disk.specs.declared.command.Need.TheVariants as needs
use Rattle.rbc_disk.specs.declared.command.Outcome.{Outcome}
use Rattle.rbc_disk.specs.declared.command.Outcome.TheVariants as outcomes
use Rattle.rbc_disk.specs.Runs.{Told, need_of}
use Rattle.rbc_disk.specs.Units.{PlainDisk}
use Rattle.command_agent.specs.Checks.{death_by, reads_table, verdict}
use Rattle.command_agent.specs.Machine.{Machine, awaits_run, chunk_of, is_ahead, plan_of, state_in}
use Rattle.command_agent.specs.Steps.{advanced, ahead_lost as forgets, ahead_of, ahead_read, ahead_step, answer_chunk, answer_step, asks, check_step, checked, chunk_written, data_grown, data_read, data_step, doorbell_in, doorbell_step, elements_read, end_step, follow_step, judge_step, judged, lost_step, main_lost as loses_main, next_read, orb_read, passed_step, point_in, point_step, quiet, ran_as, reply_step, reread_step, reset_step, run_step, sent, served, status_written, table_read, told_or, turn_step, unread_buffer, wait_step}
use Rattle.command_agent.specs.declared.phase.Phase.{Phase}
use Rattle.command_agent.specs.declared.phase.Phase.TheVariants as phases
use Rattle.command_agent.specs.declared.phase.ReadAhead.{ReadAhead}
use Rattle.command_agent.specs.declared.phase.ReadAhead.TheVariants as aheads
use Rattle.command_agent.specs.declared.step.AgentStep.{AgentStep}
use Rattle.command_agent.specs.declared.step.Move.{Move}
use Rattle.command_agent.specs.declared.step.Move.TheVariants as moves
use Rattle.command_agent.specs.declared.step.Which.{Which}
use Rattle.command_agent.specs.declared.step.Which.TheVariants.{Ahead, Main}
use Rattle.sbp_world.proofs.Common.{same_number, untrue}

-- it may be pointed to another ORB
abbrev pub may_point : Phase → Bool
may_point phases.Reset = true
may_point phases.Suspended = true
may_point phase = false

-- the mark of an agent that waits for the ORB of another
abbrev pub mark_of : Machine → Machine → Bool
mark_of m n = (awaits_run m.phase && (m.present == n.present)) && m.aborted

abbrev pub Keeps : Machine → Machine → Type 0
Keeps m n = awaits_run n.phase ≡ true → mark_of m n ≡ n.aborted

pub record Goes (m n : Machine) : Type 0 where
  pub keeps : Keeps m n
  pub rests : may_point n.phase ≡ true → awaits_run m.phase ≡ false

apart : (phase : Phase) → may_point phase ≡ true → awaits_run phase ≡ false
apart phases.Reset e = refl
apart phases.Suspended e = refl
apart phases.Fetching e = untrue e
apart phases.ReadingTable e = untrue e
apart (phases.ReadingData wanted) e = untrue e
apart phases.Answering e = untrue e
apart phases.WritingStatus e = untrue e
apart phases.ReadingNext e = untrue e
apart phases.WritingLastStatus e = untrue e
apart phases.Dead e = untrue e

-- ---- it is as it was, or it waits for no ORB any more
pub data Falls (m n : Machine) : Type 0 where
  same : n.phase ≡ m.phase → n.present ≡ m.present → n.aborted ≡ m.aborted → Falls m n
  away : awaits_run n.phase ≡ false → may_point n.phase ≡ false → Falls m n

mark_same : (m a b : Machine) → b.present ≡ a.present → mark_of m b ≡ mark_of m a
mark_same m a b e = ap (λ p. (awaits_run m.phase && (m.present == p)) && m.aborted) e

pub then_falls : (m a b : Machine) → Goes m a → Falls a b → Goes m b
then_falls m a b g (same e f h) = record {
  keeps = λ x. mark_same m a b f ∙ (g.keeps (ap awaits_run (sym e) ∙ x) ∙ sym h);
  rests = λ x. g.rests (ap may_point (sym e) ∙ x);
}
then_falls m a b g (away e f) = record { keeps = λ x. untrue (sym e ∙ x); rests = λ x. untrue (sym f ∙ x) }

own_mark : (w ab : Bool) (p : ℕ) → w ≡ true → ((w && (p == p)) && ab) ≡ ab
own_mark w ab p e = ap (λ b. (b && (p == p)) && ab) e ∙ ap (λ b. b && ab) (same_number p)

pub self : (m : Machine) → Goes m m
self m = record { keeps = λ x. own_mark (awaits_run m.phase) m.aborted m.present x; rests = λ x. apart m.phase x }

falls : (m n : Machine) → Falls m n → Goes m n
falls m n f = then_falls m m n (self m) f

-- ---- a transaction that failed
main_falls : (phase : Phase) (m : Machine) (cause : FailCause) → Falls m (loses_main phase m cause).1
main_falls phases.Fetching m cause = away refl refl
main_falls phases.ReadingTable m cause = away refl refl
main_falls (phases.ReadingData wanted) m cause = away refl refl
main_falls phases.Answering m cause = away refl refl
main_falls phases.WritingStatus m cause = away refl refl
main_falls phases.ReadingNext m cause = away refl refl
main_falls phases.WritingLastStatus m cause = away refl refl
main_falls phases.Reset m cause = same refl refl refl
main_falls phases.Suspended m cause = same refl refl refl
main_falls phases.Dead m cause = same refl refl refl

ahead_falls : (b : Bool) (m : Machine) (cause : FailCause) → Falls m (cond b (forgets m cause) (quiet, m)).1
ahead_falls true m cause = same refl refl refl
ahead_falls false m cause = same refl refl refl

pub lost_falls : (m : Machine) (which : Which) (cause : FailCause) → Falls m (lost_step m which cause).1
unfolding lost_step
lost_falls m Main cause = main_falls m.phase m cause
lost_falls m Ahead cause = ahead_falls (is_ahead m.ahead) m cause

-- ---- a reply
-- a step leaves the ORB and its mark, and does not rest
pub record Stays (n : Machine) (s : AgentStep × Machine) : Type 0 where
  pub present : s.1.present ≡ n.present
  pub aborted : s.1.aborted ≡ n.aborted
  pub busy : may_point s.1.phase ≡ false

pick_stays : (n : Machine) (b : Bool) (x y : AgentStep × Machine) → Stays n x → Stays n y → Stays n (cond b x y)
pick_stays n true x y h i = h
pick_stays n false x y h i = i

end_stays : (m : Machine) (kind : StatusKind) (dead : Option FailCause) → Stays m (end_step m kind dead)
end_stays m kind None = record { present = refl; aborted = refl; busy = refl }
end_stays m kind (Some cause) = record { present = refl; aborted = refl; busy = refl }

answer_stays : (m : Machine) → Stays m (answer_step m)
answer_stays m = record { present = refl; aborted = refl; busy = refl }

ran_stays : (m : Machine) (outcome : Outcome) → Stays m (ran_as m outcome)
ran_stays m (outcomes.Check sense) = end_stays m (kinds.Check sense) None
ran_stays m (outcomes.Good len) = pick_stays m (len == 0) (end_step m kinds.Good None) (answer_step m) (end_stays m kinds.Good None) (answer_stays m)

run_stays : (m : Machine) (told : Told) → Stays m (run_step m told)
run_stays m told = let h = ran_stays (record m { answer = told.answer; written = 0 }) told.outcome in record { present = h.present; aborted = h.aborted; busy = h.busy }

judged_stays : (m : Machine) (told : Told) (need : Need) → Stays m (judged m told need)
judged_stays m told needs.RunNow = run_stays m told
judged_stays m told (needs.Payload len) = record { present = refl; aborted = refl; busy = refl }

judge_stays : (m : Machine) (place : ℕ) (plain : PlainDisk) (told : Told) → Stays m (judge_step m place plain told)
judge_stays m place plain told = judged_stays m told (need_of m.orb.cdb (plan_of m) plain place)

passed_stays : (m : Machine) (place : ℕ) (plain : PlainDisk) (told : Told) → Stays m (passed_step m place plain told)
passed_stays m place plain told =
    let n = record m { segments = unread_buffer m.orb } in
    let h = judge_stays n place plain told in
    pick_stays m (reads_table m.orb) (asks (Read m.orb.descriptor (8 * m.orb.data_size)), record m { phase = phases.ReadingTable }) (judge_step n place plain told)
    (record { present = refl; aborted = refl; busy = refl }) (record { present = h.present; aborted = h.aborted; busy = h.busy })

checked_stays : (m : Machine) (place : ℕ) (plain : PlainDisk) (told : Told) (found : Option StatusKind) → Stays m (checked m place plain told found)
checked_stays m place plain told (Some kind) = end_stays m kind (death_by kind)
checked_stays m place plain told None = passed_stays m place plain told

ahead_stays : (n : Machine) (dead : Option FailCause) (next : OrbPointer) (s : AgentStep × Machine) → Stays n s → Stays n (ahead_of dead next s)
ahead_stays n None (pointers.At next) s h = record { present = h.present; aborted = h.aborted; busy = h.busy }
ahead_stays n None pointers.Null s h = h
ahead_stays n (Some cause) next s h = h

module _ (m : Machine) where
  abbrev Moves : Move × Machine → Type 0
  Moves (moves.Send step, n) = Goes m n
  Moves (move, n) = mark_of m n ≡ n.aborted

  stays_goes : (n : Machine) (s : AgentStep × Machine) → mark_of m n ≡ n.aborted → Stays n s → Goes m s.1
  stays_goes n s e h = record { keeps = λ x. mark_same m n s.1 h.present ∙ (e ∙ sym h.aborted); rests = λ x. untrue (sym h.busy ∙ x) }

  serves : (place : ℕ) (plain : PlainDisk) (told : Told) (r : Move × Machine) → Moves r → Goes m (served place plain told r.0 r.1).1
  serves place plain told (moves.Send step, n) h = h
  serves place plain told (moves.Check, n) h =
      let s = check_step n place plain told in
      stays_goes n (ahead_of s.0.dead s.1.orb.next s) h (ahead_stays n s.0.dead s.1.orb.next s (checked_stays n place plain told (verdict n.orb n.aborted)))
  serves place plain told (moves.Judge, n) h = stays_goes n (judge_step n place plain told) h (judge_stays n place plain told)
  serves place plain told (moves.Run, n) h = stays_goes n (run_step n told) h (run_stays n told)

  pick : (b : Bool) (x y : Move × Machine) → Moves x → Moves y → Moves (cond b x y)
  pick true x y h i = h
  pick false x y h i = i

  over_with : (n : Machine) → awaits_run n.phase ≡ false → may_point n.phase ≡ false → Goes m n
  over_with n e f = falls m n (away e f)

  ends_orb : (n : Machine) (kind : StatusKind) (dead : Option FailCause) → Moves (sent (end_step n kind dead))
  ends_orb n kind None = over_with (end_step n kind None).1 refl refl
  ends_orb n kind (Some cause) = over_with (end_step n kind (Some cause)).1 refl refl

  own : awaits_run m.phase ≡ true → mark_of m m ≡ m.aborted
  own e = own_mark (awaits_run m.phase) m.aborted m.present e

  none_marked : (p : ℕ) → awaits_run m.phase ≡ false → ((awaits_run m.phase && (m.present == p)) && m.aborted) ≡ false
  none_marked p e = ap (λ b. (b && (m.present == p)) && m.aborted) e

  orb_moves : (r : Result (List ℕ) FailCause) → awaits_run m.phase ≡ true → Moves (orb_read m r)
  orb_moves (Err cause) e = ends_orb m kinds.Failed (Some cause)
  orb_moves (Ok bytes) e = own e

  fault_moves : (bytes : List ℕ) (fault : Option PageFault) → awaits_run m.phase ≡ true → Moves (elements_read m bytes fault)
  fault_moves bytes None e = own e
  fault_moves bytes (Some fault) e = ends_orb m (kinds.Illegal 0xff) (Some causes.Grammar)

  table_moves : (r : Result (List ℕ) FailCause) → awaits_run m.phase ≡ true → Moves (table_read m r)
  table_moves (Err cause) e = ends_orb m kinds.Failed (Some cause)
  table_moves (Ok bytes) e =
      let fault = first_fault 0 (elements_of bytes) in pick m.aborted (sent (end_step m kinds.Aborted None)) (elements_read m bytes fault) (ends_orb m kinds.Aborted None) (fault_moves bytes fault e)

  data_moves : (wanted : ℕ) (r : Result (List ℕ) FailCause) → awaits_run m.phase ≡ true → Moves (data_read m wanted r)
  data_moves wanted (Err cause) e = ends_orb m kinds.Failed (Some cause)
  data_moves wanted (Ok bytes) e =
      let n = record m { payload = m.payload ++ bytes } in
      let reads : Goes m (data_step n wanted).1 = record { keeps = λ x. own e; rests = λ x. untrue x } in
      pick m.aborted (sent (end_step m kinds.Aborted None)) (data_grown n wanted) (ends_orb m kinds.Aborted None)
      (pick (length n.payload == wanted) (moves.Run, n) (sent (data_step n wanted)) (own e) reads)

  chunk_moves : (failure : Option FailCause) → Moves (chunk_written m failure)
  chunk_moves (Some cause) = ends_orb m kinds.Failed (Some cause)
  chunk_moves None =
      let n = record m { written = m.written + answer_chunk m } in by n (n.written == length n.answer)
    where
      by : (n : Machine) (b : Bool) → Moves (sent (cond b (end_step n kinds.Good None) (answer_step n)))
      by n true = ends_orb n kinds.Good None
      by n false = over_with (answer_step n).1 refl refl

  -- behind an ORB
  module _ (ended : awaits_run m.phase ≡ false) where
    turn_moves : (n : Machine) (next : ℕ) (ahead : ReadAhead) → Moves (turn_step n next ahead)
    turn_moves n next aheads.Idle = record { keeps = λ x. none_marked _ ended; rests = λ x. untrue x }
    turn_moves n next (aheads.UnderWay rung) = record { keeps = λ x. none_marked _ ended; rests = λ x. untrue x }
    turn_moves n next (aheads.Kept orb) = none_marked _ ended

    waits : (n : Machine) → Moves (sent (wait_step n))
    waits n = by n.doorbell
      where
        by : (b : Bool) → Moves (sent (cond b (reread_step n) (quiet, record n { phase = phases.Suspended })))
        by true = over_with (reread_step n).1 refl refl
        by false = record { keeps = λ x. untrue x; rests = λ x. ended }

    follow_moves : (n : Machine) (next : OrbPointer) → Moves (follow_step n next)
    follow_moves n (pointers.At next) = turn_moves n next n.ahead
    follow_moves n pointers.Null = waits n

    status_moves : (failure : Option FailCause) → Moves (status_written m failure)
    status_moves (Some cause) = over_with _ refl refl
    status_moves None = follow_moves m m.orb.next

    next_moves : (r : Result (List ℕ) FailCause) → Moves (next_read m r)
    next_moves (Err cause) = over_with _ refl refl
    next_moves (Ok bytes) = follow_moves (record m { orb = record m.orb { next = pointer_at bytes 0 } }) (pointer_at bytes 0)

  advanced_moves : (phase : Phase) (answer : Answer) → m.phase ≡ phase → Moves (advanced phase m answer)
  advanced_moves phases.Fetching answer e = orb_moves (payload_of answer 32) (ap awaits_run e)
  advanced_moves phases.ReadingTable answer e = table_moves (payload_of answer (8 * m.orb.data_size)) (ap awaits_run e)
  advanced_moves (phases.ReadingData wanted) answer e = data_moves wanted (payload_of answer (chunk_of m (length m.payload) wanted).length) (ap awaits_run e)
  advanced_moves phases.Answering answer e = chunk_moves (write_failure answer)
  advanced_moves phases.WritingStatus answer e = status_moves (ap awaits_run e) (write_failure answer)
  advanced_moves phases.ReadingNext answer e = next_moves (ap awaits_run e) (payload_of answer 8)
  advanced_moves phases.WritingLastStatus answer e = over_with (record m { phase = phases.Dead }) refl refl
  advanced_moves phases.Reset answer e = self m
  advanced_moves phases.Suspended answer e = self m
  advanced_moves phases.Dead answer e = self m

  read_falls : (r : Result (List ℕ) FailCause) → Falls m (ahead_read m r).1
  read_falls (Ok bytes) = same refl refl refl
  read_falls (Err cause) = same refl refl refl

  if_falls : (b : Bool) (answer : Answer) → Falls m (cond b (ahead_step m answer) (quiet, m)).1
  if_falls true answer = read_falls (payload_of answer 32)
  if_falls false answer = same refl refl refl

  pub reply_goes : (place : ℕ) (plain : PlainDisk) (told : Option Told) (which : Which) (answer : Answer) → Goes m (reply_step m place plain told which answer).1
  unfolding reply_step
  reply_goes place plain told Main answer = serves place plain (told_or told) (advanced m.phase m answer) (advanced_moves m.phase answer refl)
  reply_goes place plain told Ahead answer = falls m (cond (is_ahead m.ahead) (ahead_step m answer) (quiet, m)).1 (if_falls (is_ahead m.ahead) answer)

-- ---- a pointer, a doorbell and a reset
pub reset_keeps : (m n : Machine) → Keeps m (reset_step n)
unfolding reset_step
reset_keeps m n = λ x. untrue x

module _ (m n : Machine) (g : Goes m n) where
  by_phase : (phase : Phase) (pointer : OrbPointer) → n.phase ≡ phase → Keeps m (point_in (state_in phase) n pointer).1
  by_phase phases.Reset pointers.Null e = g.keeps
  by_phase phases.Reset (pointers.At next) e = λ x. none_marked m _ (g.rests (ap may_point e))
  by_phase phases.Suspended pointers.Null e = g.keeps
  by_phase phases.Suspended (pointers.At next) e = λ x. none_marked m _ (g.rests (ap may_point e))
  by_phase phases.Fetching pointer e = g.keeps
  by_phase phases.ReadingTable pointer e = g.keeps
  by_phase (phases.ReadingData wanted) pointer e = g.keeps
  by_phase phases.Answering pointer e = g.keeps
  by_phase phases.WritingStatus pointer e = g.keeps
  by_phase phases.ReadingNext pointer e = g.keeps
  by_phase phases.WritingLastStatus pointer e = g.keeps
  by_phase phases.Dead pointer e = g.keeps

  pub point_keeps : (pointer : OrbPointer) → Keeps m (point_step n pointer).1
  unfolding point_step
  point_keeps pointer = by_phase n.phase pointer refl

  bell_by : (phase : Phase) → Keeps m (doorbell_in (state_in phase) n).1
  bell_by phases.Suspended = λ x. untrue x
  bell_by phases.Reset = g.keeps
  bell_by phases.Fetching = g.keeps
  bell_by phases.ReadingTable = g.keeps
  bell_by (phases.ReadingData wanted) = g.keeps
  bell_by phases.Answering = g.keeps
  bell_by phases.WritingStatus = g.keeps
  bell_by phases.ReadingNext = g.keeps
  bell_by phases.WritingLastStatus = g.keeps
  bell_by phases.Dead = g.keeps

  pub bell_keeps : Keeps m (doorbell_step n).1
  unfolding doorbell_step
  bell_keeps = bell_by n.phase
