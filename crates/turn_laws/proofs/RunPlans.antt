-- Agents that are alike have one buffer where a command runs: the step that runs it leaves the segments, whatever the run told.
use Rattle.std.proofs.Common.{◌≡◌, ◌∙◌, refl, sym, ap, ℕ, ◌+◌, ◌*◌, ◌==◌, is_some, Bool, true, false, cond, List, [], ◌∷◌, ◌++◌, length, Option, Some, None, Result, Ok, Err}
use Rattle.std.proofs.lemmas.Bool.{false≢true}
use Rattle.orb_layout.specs.declared.ask.Ask.TheVariants.{Read}
use Rattle.orb_layout.specs.declared.ask.FailCause.{FailCause}
use Rattle.orb_layout.specs.declared.pointer.OrbPointer.{OrbPointer}
use Rattle.orb_layout.specs.declared.pointer.OrbPointer.TheVariants as pointers
use Rattle.orb_layout.specs.declared.status.StatusKind.{StatusKind}
use Rattle.orb_layout.specs.declared.status.StatusKind.TheVariants as kinds
use Rattle.orb_layout.specs.Replies.{Answer, payload_of, write_failure}
use Rattle.orb_layout.specs.Pointers.{pointer_at}
use Rattle.page_table.specs.declared.fault.PageFault.{PageFault}
use Rattle.page_table.specs.Elements.{elements_of, first_fault}
use Rattle.rbc_disk.specs.declared.command.Need.{Need}
use Rattle.rbc_disk.specs.declared.command.Need.TheVariants as needs
use Rattle.rbc_disk.specs.declared.command.Outcome.{Outcome}
use Rattle.rbc_disk.specs.declared.command.Outcome.TheVariants as outcomes
use Rattle.rbc_disk.specs.Runs.{Told, need_of}
use Rattle.rbc_disk.specs.Units.{PlainDisk}
use Rattle.command_agent.specs.Checks.{reads_table, verdict}
use Rattle.command_agent.specs.Machine.{Machine, chunk_of, is_ahead, plan_of}
use Rattle.command_agent.specs.Steps.{advanced, ahead_of, ahead_step, answer_chunk, answer_grown, answer_step, asks, check_step, checked, chunk_written, data_grown, data_read, data_step, elements_read, end_step, follow_step, judge_step, judged, next_read, orb_read, quiet, ran_as, reply_step, reread_step, run_step, sent, served, status_written, table_read, told_or, turn_step, unread_buffer, with_ahead, with_outcome}
use Rattle.command_agent.specs.declared.phase.Phase.{Phase}
use Rattle.command_agent.specs.declared.phase.Phase.TheVariants as phases
use Rattle.command_agent.specs.declared.phase.ReadAhead.{ReadAhead}
use Rattle.command_agent.specs.declared.phase.ReadAhead.TheVariants as aheads
use Rattle.command_agent.specs.declared.step.AgentStep.{AgentStep}
use Rattle.command_agent.specs.declared.step.Move.{Move}
use Rattle.command_agent.specs.declared.step.Move.TheVariants as moves
use Rattle.command_agent.specs.declared.step.Which.{Which}
use Rattle.command_agent.specs.declared.step.Which.TheVariants.{Ahead, Main}
use Rattle.sbp_world.specs.Agents.Alike.{Alike, TellsAlike, moves_data}
use Rattle.sbp_world.proofs.Agents.Steps.{reply_alike}
use Rattle.sbp_world.proofs.Agents.UnitsRun.{ahead_none}

-- a run whose answer is written, so that data move behind it
abbrev one_byte : Told
one_byte = record { outcome = outcomes.Good 1; answer = 0 ∷ [] }

-- where the first step runs a command, data move behind the second, and both leave the same segments
abbrev Leaves : AgentStep × Machine → AgentStep × Machine → Type 0
Leaves s x = is_some s.0.ran ≡ true → (moves_data x.1.phase ≡ true) × (x.1.segments ≡ s.1.segments)

unran : (s x : AgentStep × Machine) → s.0.ran ≡ None → Leaves s x
unran s x e f = absurd (false≢true (sym (ap is_some e) ∙ f))

either : (b : Bool) (p q x y : AgentStep × Machine) → Leaves p x → Leaves q y → Leaves (cond b p q) (cond b x y)
either true p q x y h i = h
either false p q x y h i = i

run_leaves : (m : Machine) (told : Told) → Leaves (run_step m told) (run_step m one_byte)
run_leaves m told = by told.outcome (record m { answer = told.answer; written = 0 }) refl
  where
    good : (b : Bool) (len : ℕ) (n : Machine) → m.segments ≡ n.segments → Leaves (with_outcome (outcomes.Good len) (cond b (end_step n kinds.Good None) (answer_step n))) (run_step m one_byte)
    good true len n e = λ f. (refl, e)
    good false len n e = λ f. (refl, e)

    by : (outcome : Outcome) (n : Machine) → m.segments ≡ n.segments → Leaves (with_outcome outcome (ran_as n outcome)) (run_step m one_byte)
    by (outcomes.Check sense) n e = λ f. (refl, e)
    by (outcomes.Good len) n e = good (len == 0) len n e

module _ (place : ℕ) (plain : PlainDisk) (told : Told) where
  judge_leaves : (m : Machine) → Leaves (judge_step m place plain told) (judge_step m place plain one_byte)
  judge_leaves m = by (need_of m.orb.cdb (plan_of m) plain place)
    where
      by : (need : Need) → Leaves (judged m told need) (judged m one_byte need)
      by needs.RunNow = run_leaves m told
      by (needs.Payload len) = unran (data_step m len) (data_step m len) refl

  check_leaves : (m : Machine) → Leaves (check_step m place plain told) (check_step m place plain one_byte)
  check_leaves m = by (verdict m.orb m.aborted)
    where
      by : (found : Option StatusKind) → Leaves (checked m place plain told found) (checked m place plain one_byte found)
      by (Some kind) = unran (checked m place plain told (Some kind)) (checked m place plain one_byte (Some kind)) refl
      by None =
          let n = record m { segments = unread_buffer m.orb } in
          let table : AgentStep × Machine = (asks (Read m.orb.descriptor (8 * m.orb.data_size)), record m { phase = phases.ReadingTable }) in
          either (reads_table m.orb) table (judge_step n place plain told) table (judge_step n place plain one_byte) (unran table table refl) (judge_leaves n)

  -- the ORB behind it is read
  abbrev IsSame : AgentStep × Machine → AgentStep × Machine → Type 0
  IsSame s x = (x.0.ran ≡ s.0.ran) × ((x.1.phase ≡ s.1.phase) × (x.1.segments ≡ s.1.segments))

  ahead_same : (dead : Option FailCause) (next : OrbPointer) (s : AgentStep × Machine) → IsSame s (ahead_of dead next s)
  ahead_same None (pointers.At next) s = (refl, (refl, refl))
  ahead_same None pointers.Null s = (refl, (refl, refl))
  ahead_same (Some cause) next s = (refl, (refl, refl))

  ahead_leaves : (s x : AgentStep × Machine) → Leaves s x → Leaves (with_ahead s) (with_ahead x)
  ahead_leaves s x h f =
      let a = ahead_same s.0.dead s.1.orb.next s in
      let b = ahead_same x.0.dead x.1.orb.next x in
      let k = h (ap is_some (sym a.0) ∙ f) in (ap moves_data b.1.0 ∙ k.0, b.1.1 ∙ (k.1 ∙ sym a.1.1))

  -- ---- a reply to the main transaction: what is sent with no check and no judgement runs nothing
  abbrev IsUnrun : Move × Machine → Type 0
  IsUnrun (moves.Send step, m) = step.ran ≡ None
  IsUnrun (move, m) = Unit {0}

  pick : (b : Bool) (x y : Move × Machine) → IsUnrun x → IsUnrun y → IsUnrun (cond b x y)
  pick true x y h i = h
  pick false x y h i = i

  wait_unrun : (b : Bool) (m : Machine) → IsUnrun (sent (cond b (reread_step m) (quiet, record m { phase = phases.Suspended })))
  wait_unrun true m = refl
  wait_unrun false m = refl

  turn_unrun : (m : Machine) (next : ℕ) (ahead : ReadAhead) → IsUnrun (turn_step m next ahead)
  turn_unrun m next aheads.Idle = refl
  turn_unrun m next (aheads.UnderWay rung) = refl
  turn_unrun m next (aheads.Kept orb) = tt

  follow_unrun : (m : Machine) (next : OrbPointer) → IsUnrun (follow_step m next)
  follow_unrun m (pointers.At next) = turn_unrun m next m.ahead
  follow_unrun m pointers.Null = wait_unrun m.doorbell m

  orb_unrun : (m : Machine) (bytes : Result (List ℕ) FailCause) → IsUnrun (orb_read m bytes)
  orb_unrun m (Err cause) = refl
  orb_unrun m (Ok bytes) = tt

  elements_unrun : (m : Machine) (bytes : List ℕ) (fault : Option PageFault) → IsUnrun (elements_read m bytes fault)
  elements_unrun m bytes None = tt
  elements_unrun m bytes (Some fault) = refl

  table_unrun : (m : Machine) (bytes : Result (List ℕ) FailCause) → IsUnrun (table_read m bytes)
  table_unrun m (Err cause) = refl
  table_unrun m (Ok bytes) =
      let fault = first_fault 0 (elements_of bytes) in pick m.aborted (sent (end_step m kinds.Aborted None)) (elements_read m bytes fault) refl (elements_unrun m bytes fault)

  data_unrun : (m : Machine) (wanted : ℕ) (bytes : Result (List ℕ) FailCause) → IsUnrun (data_read m wanted bytes)
  data_unrun m wanted (Err cause) = refl
  data_unrun m wanted (Ok bytes) =
      let n = record m { payload = m.payload ++ bytes } in
      pick m.aborted (sent (end_step m kinds.Aborted None)) (data_grown n wanted) refl (pick (length n.payload == wanted) (moves.Run, n) (sent (data_step n wanted)) tt refl)

  chunk_unrun : (m : Machine) (failure : Option FailCause) → IsUnrun (chunk_written m failure)
  chunk_unrun m (Some cause) = refl
  chunk_unrun m None = by (record m { written = m.written + answer_chunk m })
    where
      grown : (b : Bool) (n : Machine) → IsUnrun (sent (cond b (end_step n kinds.Good None) (answer_step n)))
      grown true n = refl
      grown false n = refl

      by : (n : Machine) → IsUnrun (answer_grown n)
      by n = grown (n.written == length n.answer) n

  written_unrun : (m : Machine) (failure : Option FailCause) → IsUnrun (status_written m failure)
  written_unrun m (Some cause) = refl
  written_unrun m None = follow_unrun m m.orb.next

  next_unrun : (m : Machine) (bytes : Result (List ℕ) FailCause) → IsUnrun (next_read m bytes)
  next_unrun m (Err cause) = refl
  next_unrun m (Ok bytes) = follow_unrun (record m { orb = record m.orb { next = pointer_at bytes 0 } }) (pointer_at bytes 0)

  advanced_unrun : (phase : Phase) (m : Machine) (answer : Answer) → IsUnrun (advanced phase m answer)
  advanced_unrun phases.Reset m answer = refl
  advanced_unrun phases.Fetching m answer = orb_unrun m (payload_of answer 32)
  advanced_unrun phases.ReadingTable m answer = table_unrun m (payload_of answer (8 * m.orb.data_size))
  advanced_unrun (phases.ReadingData wanted) m answer = data_unrun m wanted (payload_of answer (chunk_of m (length m.payload) wanted).length)
  advanced_unrun phases.Answering m answer = chunk_unrun m (write_failure answer)
  advanced_unrun phases.WritingStatus m answer = written_unrun m (write_failure answer)
  advanced_unrun phases.ReadingNext m answer = next_unrun m (payload_of answer 8)
  advanced_unrun phases.WritingLastStatus m answer = refl
  advanced_unrun phases.Suspended m answer = refl
  advanced_unrun phases.Dead m answer = refl

  served_leaves : (r : Move × Machine) → IsUnrun r → Leaves (served place plain told r.0 r.1) (served place plain one_byte r.0 r.1)
  served_leaves (moves.Send step, m) h = unran (step, m) (step, m) h
  served_leaves (moves.Check, m) h = ahead_leaves (check_step m place plain told) (check_step m place plain one_byte) (check_leaves m)
  served_leaves (moves.Judge, m) h = judge_leaves m
  served_leaves (moves.Run, m) h = run_leaves m told

reply_leaves : (m : Machine) (place : ℕ) (plain : PlainDisk) (told : Option Told) (which : Which) (answer : Answer) → Leaves (reply_step m place plain told which answer) (reply_step m place plain (Some one_byte) which answer)
unfolding reply_step
reply_leaves m place plain told Main answer = served_leaves place plain (told_or told) (advanced m.phase m answer) (advanced_unrun place plain (told_or told) m.phase m answer)
reply_leaves m place plain told Ahead answer =
    let b = is_ahead m.ahead in
    let read = ahead_step m answer in either b read (quiet, m) read (quiet, m) (unran read read (ahead_none m (payload_of answer 32))) (unran (quiet, m) (quiet, m) refl)

-- both run it with the same segments
pub segments_alike : (u v : Bool) (a m : Machine) (place : ℕ) (plain : PlainDisk) (told run : Option Told) (which : Which) (answer : Answer) → Alike u a m → TellsAlike v (told_or told) (told_or run) → is_some (reply_step m place plain run which answer).0.ran ≡ true → (reply_step a place plain told which answer).1.segments ≡ (reply_step m place plain run which answer).1.segments
segments_alike u v a m place plain told run which answer al tells ran =
    let steps = reply_alike u v a m place plain told run which answer al tells in
    let same = reply_alike u v a m place plain (Some one_byte) (Some one_byte) which answer al (record { outcome = refl; size = refl; answer = λ e. refl }) in
    let own = reply_leaves m place plain run which answer ran in
    let law = reply_leaves a place plain told which answer (ap (λ (x : AgentStep). is_some x.ran) steps.step ∙ ran) in
    sym law.1 ∙ (same.alike.segments own.0 ∙ own.1)
