-- With which code a step of an agent ends an ORB as illegal: that of the ORB or of the page table which the reply to its main transaction brings to be checked, or of the ORB that was read ahead.
use Rattle.std.proofs.Common.{◌≡◌, ◌∙◌, refl, ap, ℕ, ◌*◌, ◌+◌, ◌==◌, Bool, true, false, cond, List, ◌++◌, length, Option, Some, None, Result, Ok, Err}
use Rattle.orb_layout.specs.declared.ask.Ask.TheVariants.{Read}
use Rattle.orb_layout.specs.declared.ask.FailCause.{FailCause}
use Rattle.orb_layout.specs.declared.command.CommandOrb.{CommandOrb}
use Rattle.orb_layout.specs.declared.pointer.OrbPointer.{OrbPointer}
use Rattle.orb_layout.specs.declared.pointer.OrbPointer.TheVariants as pointers
use Rattle.orb_layout.specs.declared.status.StatusKind.{StatusKind}
use Rattle.orb_layout.specs.declared.status.StatusKind.TheVariants as kinds
use Rattle.orb_layout.specs.CommandOrbs.{command_orb}
use Rattle.orb_layout.specs.Pointers.{pointer_at}
use Rattle.orb_layout.specs.Replies.{Answer, Done, payload_of, write_failure}
use Rattle.page_table.specs.declared.fault.PageFault.{PageFault}
use Rattle.page_table.specs.Elements.{elements_of, first_fault}
use Rattle.rbc_disk.specs.declared.command.Need.{Need}
use Rattle.rbc_disk.specs.declared.command.Need.TheVariants as needs
use Rattle.rbc_disk.specs.declared.command.Outcome.{Outcome}
use Rattle.rbc_disk.specs.declared.command.Outcome.TheVariants as outcomes
use Rattle.rbc_disk.specs.Runs.{Told, need_of}
use Rattle.rbc_disk.specs.Units.{PlainDisk}
use Rattle.command_agent.specs.Checks.{reads_table, verdict}
use Rattle.command_agent.specs.Machine.{Machine, chunk_of, is_ahead, plan_of}
use Rattle.command_agent.specs.Steps.{advanced, ahead_of, ahead_read, ahead_step, answer_chunk, answer_step, asks, check_step, checked, chunk_written, data_grown, data_read, data_step, elements_read, end_step, follow_step, judge_step, judged, next_read, orb_read, passed_step, quiet, ran_as, reply_step, reread_step, run_step, sent, served, status_written, table_read, told_or, turn_step, unread_buffer, wait_step}
use Rattle.command_agent.specs.declared.phase.Phase.{Phase}
use Rattle.command_agent.specs.declared.phase.Phase.TheVariants as phases
use Rattle.command_agent.specs.declared.phase.ReadAhead.{ReadAhead}
use Rattle.command_agent.specs.declared.phase.ReadAhead.TheVariants as aheads
use Rattle.command_agent.specs.declared.step.AgentStep.{AgentStep}
use Rattle.command_agent.specs.declared.step.Move.{Move}
use Rattle.command_agent.specs.declared.step.Move.TheVariants as moves
use Rattle.command_agent.specs.declared.step.Which.TheVariants.{Ahead, Main}
use Rattle.sbp_laws.specs.Deaths.{illegal_meaning, meaning_at, table_meaning}
use Rattle.sbp_world.proofs.Lists.OrbSteps.{has_read}
use Rattle.turn_laws.proofs.DeathSteps.{illegal_is, kept_idle, read_bytes}
use Rattle.sbp_world.proofs.Lists.DataSteps.{done_of}

-- an end as illegal has the code that was found
abbrev CodedKind : Option ℕ → StatusKind → Type 0
CodedKind found (kinds.Illegal meaning) = found ≡ Some meaning
CodedKind found kind = Unit {0}

abbrev pub Coded : Option ℕ → Option StatusKind → Type 0
Coded found None = Unit {0}
Coded found (Some kind) = CodedKind found kind

module _ (found : Option ℕ) where
  abbrev Steps : AgentStep × Machine → Type 0
  Steps s = Coded found s.0.ended

  either : (b : Bool) (x y : AgentStep × Machine) → Steps x → Steps y → Steps (cond b x y)
  either true x y h i = h
  either false x y h i = i

  -- ---- a command that runs
  ran : (m : Machine) (outcome : Outcome) → Steps (ran_as m outcome)
  ran m (outcomes.Check sense) = tt
  ran m (outcomes.Good len) = either (len == 0) (end_step m kinds.Good None) (answer_step m) tt tt

  runs : (m : Machine) (told : Told) → Steps (run_step m told)
  runs m told = ran (record m { answer = told.answer; written = 0 }) told.outcome

  judges_by : (m : Machine) (told : Told) (need : Need) → Steps (judged m told need)
  judges_by m told needs.RunNow = runs m told
  judges_by m told (needs.Payload len) = tt

  judges : (m : Machine) (place : ℕ) (plain : PlainDisk) (told : Told) → Steps (judge_step m place plain told)
  judges m place plain told = judges_by m told (need_of m.orb.cdb (plan_of m) plain place)

  passes : (m : Machine) (place : ℕ) (plain : PlainDisk) (told : Told) → Steps (passed_step m place plain told)
  passes m place plain told =
      let n = record m { segments = unread_buffer m.orb } in
      either (reads_table m.orb) (asks (Read m.orb.descriptor (8 * m.orb.data_size)), record m { phase = phases.ReadingTable }) (judge_step n place plain told) tt (judges n place plain told)

  -- ---- an ORB that is checked
  abbrev Checks : CommandOrb → Bool → Type 0
  Checks orb aborted = (kind : StatusKind) → verdict orb aborted ≡ Some kind → CodedKind found kind

  checks : (orb : CommandOrb) (aborted : Bool) → found ≡ illegal_meaning orb → Checks orb aborted
  checks orb aborted e (kinds.Illegal meaning) f = e ∙ illegal_is orb aborted meaning f
  checks orb aborted e kind f = tt

  checks_by : (m : Machine) (place : ℕ) (plain : PlainDisk) (told : Told) → Checks m.orb m.aborted → (x : Option StatusKind) → verdict m.orb m.aborted ≡ x → Steps (checked m place plain told x)
  checks_by m place plain told h (Some kind) e = h kind e
  checks_by m place plain told h None e = passes m place plain told

  looks_ahead : (dead : Option FailCause) (next : OrbPointer) (s : AgentStep × Machine) → Steps s → Steps (ahead_of dead next s)
  looks_ahead None (pointers.At next) s h = h
  looks_ahead None pointers.Null s h = h
  looks_ahead (Some cause) next s h = h

  -- ---- a move
  abbrev Moves : Move × Machine → Type 0
  Moves (moves.Send step, m) = Coded found step.ended
  Moves (moves.Check, m) = Checks m.orb m.aborted
  Moves (moves.Judge, m) = Unit {0}
  Moves (moves.Run, m) = Unit {0}

  serves : (place : ℕ) (plain : PlainDisk) (told : Told) (r : Move × Machine) → Moves r → Steps (served place plain told r.0 r.1)
  serves place plain told (moves.Send step, m) h = h
  serves place plain told (moves.Check, m) h =
      let s = check_step m place plain told in looks_ahead s.0.dead s.1.orb.next s (checks_by m place plain told h (verdict m.orb m.aborted) refl)
  serves place plain told (moves.Judge, m) h = judges m place plain told
  serves place plain told (moves.Run, m) h = runs m told

  pick : (b : Bool) (x y : Move × Machine) → Moves x → Moves y → Moves (cond b x y)
  pick true x y h i = h
  pick false x y h i = i

  sends : (s : AgentStep × Machine) → Steps s → Moves (sent s)
  sends s h = h

  -- ---- by phase: what comes with an answer
  orb_moves : (m : Machine) (r : Result (List ℕ) FailCause) → ((bytes : List ℕ) → r ≡ Ok bytes → found ≡ illegal_meaning (command_orb bytes)) → Moves (orb_read m r)
  orb_moves m (Err cause) f = tt
  orb_moves m (Ok bytes) f = checks (command_orb bytes) m.aborted (f bytes refl)

  fault_moves : (m : Machine) (bytes : List ℕ) (fault : Option PageFault) → found ≡ table_meaning fault → Moves (elements_read m bytes fault)
  fault_moves m bytes None e = tt
  fault_moves m bytes (Some fault) e = e

  table_moves : (m : Machine) (r : Result (List ℕ) FailCause) → ((bytes : List ℕ) → r ≡ Ok bytes → found ≡ table_meaning (first_fault 0 (elements_of bytes))) → Moves (table_read m r)
  table_moves m (Err cause) f = tt
  table_moves m (Ok bytes) f =
      let fault = first_fault 0 (elements_of bytes) in pick m.aborted (sent (end_step m kinds.Aborted None)) (elements_read m bytes fault) tt (fault_moves m bytes fault (f bytes refl))

  data_moves : (m : Machine) (wanted : ℕ) (r : Result (List ℕ) FailCause) → Moves (data_read m wanted r)
  data_moves m wanted (Err cause) = tt
  data_moves m wanted (Ok bytes) =
      let n = record m { payload = m.payload ++ bytes } in
      pick m.aborted (sent (end_step m kinds.Aborted None)) (data_grown n wanted) tt (pick (length n.payload == wanted) (moves.Run, n) (sent (data_step n wanted)) tt tt)

  chunk_moves : (m : Machine) (failure : Option FailCause) → Moves (chunk_written m failure)
  chunk_moves m (Some cause) = tt
  chunk_moves m None =
      let n = record m { written = m.written + answer_chunk m } in
      sends (cond (n.written == length n.answer) (end_step n kinds.Good None) (answer_step n)) (either (n.written == length n.answer) (end_step n kinds.Good None) (answer_step n) tt tt)

  waits : (m : Machine) → Moves (sent (wait_step m))
  waits m = sends (wait_step m) (either m.doorbell (reread_step m) (quiet, record m { phase = phases.Suspended }) tt tt)

  turn_moves : (m : Machine) (next : ℕ) (ahead : ReadAhead) → ((orb : CommandOrb) → ahead ≡ aheads.Kept orb → found ≡ illegal_meaning orb) → Moves (turn_step m next ahead)
  turn_moves m next aheads.Idle f = tt
  turn_moves m next (aheads.UnderWay rung) f = tt
  turn_moves m next (aheads.Kept orb) f = checks orb false (f orb refl)

  follow_moves : (m : Machine) (next : OrbPointer) → ((orb : CommandOrb) → m.ahead ≡ aheads.Kept orb → found ≡ illegal_meaning orb) → Moves (follow_step m next)
  follow_moves m (pointers.At next) f = turn_moves m next m.ahead f
  follow_moves m pointers.Null f = waits m

  status_moves : (m : Machine) (failure : Option FailCause) → (failure ≡ None → (orb : CommandOrb) → m.ahead ≡ aheads.Kept orb → found ≡ illegal_meaning orb) → Moves (status_written m failure)
  status_moves m (Some cause) f = tt
  status_moves m None f = follow_moves m m.orb.next (f refl)

  next_moves : (m : Machine) (r : Result (List ℕ) FailCause) → m.ahead ≡ aheads.Idle → Moves (next_read m r)
  next_moves m (Err cause) idle = tt
  next_moves m (Ok bytes) idle =
      let next = pointer_at bytes 0 in follow_moves (record m { orb = record m.orb { next = next } }) next (λ orb e. kept_idle m.ahead orb idle e)

-- ---- a reply to the main transaction
module _ (m : Machine) (answer : Answer) where
  abbrev found_in : Phase → Option ℕ
  found_in phase = meaning_at m phase answer

  orb_found : (bytes : List ℕ) → payload_of answer 32 ≡ Ok bytes → found_in phases.Fetching ≡ illegal_meaning (command_orb bytes)
  orb_found bytes e = let b = read_bytes answer 32 bytes e in ap (meaning_at m phases.Fetching) b.0 ∙ ap (λ x. cond x (illegal_meaning (command_orb bytes)) None) b.1

  table_found : (bytes : List ℕ) → payload_of answer (8 * m.orb.data_size) ≡ Ok bytes → found_in phases.ReadingTable ≡ table_meaning (first_fault 0 (elements_of bytes))
  table_found bytes e = ap (meaning_at m phases.ReadingTable) (read_bytes answer (8 * m.orb.data_size) bytes e).0

  kept_found : write_failure answer ≡ None → (orb : CommandOrb) → m.ahead ≡ aheads.Kept orb → found_in phases.WritingStatus ≡ illegal_meaning orb
  kept_found e orb f = ap (meaning_at m phases.WritingStatus) (done_of answer e) ∙ ap (λ (x : ReadAhead). meaning_at (record m { ahead = x }) phases.WritingStatus Done) f

  main_moves : (phase : Phase) → (has_read phase ≡ false → m.ahead ≡ aheads.Idle) → Moves (found_in phase) (advanced phase m answer)
  main_moves phases.Fetching idle = orb_moves (found_in phases.Fetching) m (payload_of answer 32) orb_found
  main_moves phases.ReadingTable idle = table_moves (found_in phases.ReadingTable) m (payload_of answer (8 * m.orb.data_size)) table_found
  main_moves (phases.ReadingData wanted) idle = data_moves (found_in (phases.ReadingData wanted)) m wanted (payload_of answer (chunk_of m (length m.payload) wanted).length)
  main_moves phases.Answering idle = chunk_moves (found_in phases.Answering) m (write_failure answer)
  main_moves phases.WritingStatus idle = status_moves (found_in phases.WritingStatus) m (write_failure answer) kept_found
  main_moves phases.ReadingNext idle = next_moves (found_in phases.ReadingNext) m (payload_of answer 8) (idle refl)
  main_moves phases.Reset idle = tt
  main_moves phases.WritingLastStatus idle = tt
  main_moves phases.Suspended idle = tt
  main_moves phases.Dead idle = tt

  pub main_coded : (place : ℕ) (plain : PlainDisk) (told : Option Told) → (has_read m.phase ≡ false → m.ahead ≡ aheads.Idle)
      → Coded (found_in m.phase) (reply_step m place plain told Main answer).0.ended
  unfolding reply_step
  main_coded place plain told idle = serves (found_in m.phase) place plain (told_or told) (advanced m.phase m answer) (main_moves m.phase idle)

-- and to the read ahead, at which no ORB ends
read_coded : (found : Option ℕ) (m : Machine) (bytes : Result (List ℕ) FailCause) → Coded found (ahead_read m bytes).0.ended
read_coded found m (Ok bytes) = tt
read_coded found m (Err cause) = tt

pub ahead_coded : (found : Option ℕ) (m : Machine) (place : ℕ) (plain : PlainDisk) (told : Option Told) (answer : Answer) → Coded found (reply_step m place plain told Ahead answer).0.ended
unfolding reply_step
ahead_coded found m place plain told answer = either found (is_ahead m.ahead) (ahead_step m answer) (quiet, m) (read_coded found m (payload_of answer 32)) tt
