-- What a step of an agent does beside its transactions: no reply makes it dead for want of a label, a read ahead is a read, and a command that ends
-- with an empty answer is followed by its status.
use Rattle.sbp_world.proofs.Words.Std.{◌≡◌, ◌∙◌, refl, sym, ap, ℕ, ◌+◌, ◌*◌, ◌==◌, Bool, true, false, cond, List, ◌++◌, length, Option, Some, None, Result, Ok, Err, none-some}
use Rattle.sbp_world.proofs.Words.Target.{Need, Outcome, PlainDisk, Told, answered_length, need_of, Phase, ReadAhead, AgentStep, Move, Which, Ahead, Main, Machine, chunk_of, has_present, is_ahead, plan_of, death_by, reads_table, verdict, advanced, ahead_of, ahead_read, ahead_step, answer_chunk, asks, check_step, checked, chunk_written, data_grown, data_read, data_step, elements_read, end_step, follow_step, judged, next_read, orb_read, quiet, ran_as, reply_step, reread_step, sent, served, table_read, told_or, turn_step, turned, unread_buffer, wait_step, with_ahead, with_outcome}
use Rattle.sbp_world.proofs.Words.Initiator.{Read, FailCause, OrbPointer, Null, At, StatusKind, command_orb, pointer_at, Answer, Done, Expired, NoLabel, Payload, Refused, payload_of, write_failure, PageFault, elements_of, first_fault}
use Rattle.sbp_world.proofs.Words.Laws.{wants}
use Rattle.sbp_world.proofs.Words.World.{has_list}
use Rattle.orb_layout.specs.declared.ask.FailCause.TheVariants as causes
use Rattle.orb_layout.specs.declared.status.StatusKind.TheVariants as kinds
use Rattle.rbc_disk.specs.declared.command.Need.TheVariants as needs
use Rattle.rbc_disk.specs.declared.command.Outcome.TheVariants as outcomes
use Rattle.command_agent.specs.declared.phase.Phase.TheVariants as phases
use Rattle.command_agent.specs.declared.phase.ReadAhead.TheVariants as aheads
use Rattle.command_agent.specs.declared.step.Move.TheVariants as moves
use Rattle.command_agent.specs.Steps.{answer_step, replied, status_written}
use Rattle.sbp_world.proofs.Agents.Walk.{IsOther}

pub record Mild (s : AgentStep × Machine) : Type 0 where
  pub other : IsOther s.0.dead
  pub reads : wants s.0.ahead true ≡ false
  pub ends : (o : Outcome) → s.0.ran ≡ Some o → answered_length o ≡ 0 → s.1.phase ≡ phases.WritingStatus
  pub runs : (o : Outcome) → s.0.ran ≡ Some o → (has_list s.1.phase ≡ true) × (has_present s.1.phase ≡ true)

-- no request of the agent failed for want of a label
abbrev pub IsGiven : Answer → Type 0
IsGiven NoLabel = ⊥
IsGiven answer = Unit {0}

abbrev Fails : Result (List ℕ) FailCause → Type 0
Fails (Ok bytes) = Unit {0}
Fails (Err cause) = IsOther (Some cause)

sized : (b : Bool) (bytes : List ℕ) → Fails (cond b (Ok bytes) (Err causes.Grammar))
sized true bytes = tt
sized false bytes = tt

payload_fails : (answer : Answer) (size : ℕ) → IsGiven answer → Fails (payload_of answer size)
payload_fails (Payload bytes) size g = sized (length bytes == size) bytes
payload_fails Done size g = tt
payload_fails (Refused rcode) size g = tt
payload_fails Expired size g = tt
payload_fails NoLabel size g = absurd g

write_fails : (answer : Answer) → IsGiven answer → IsOther (write_failure answer)
write_fails (Payload bytes) g = tt
write_fails Done g = tt
write_fails (Refused rcode) g = tt
write_fails Expired g = tt
write_fails NoLabel g = absurd g

-- a step that tells of no run
unran : (s : AgentStep × Machine) → s.0.ran ≡ None → IsOther s.0.dead → wants s.0.ahead true ≡ false → Mild s
unran s r o e = record { other = o; reads = e; ends = λ x f z. absurd (none-some x (sym r ∙ f)); runs = λ x f. absurd (none-some x (sym r ∙ f)) }

mild_end : (m : Machine) (kind : StatusKind) (dead : Option FailCause) → IsOther dead → Mild (end_step m kind dead)
mild_end m kind dead o = unran (end_step m kind dead) refl o refl

mild_if : (b : Bool) (p q : AgentStep × Machine) → Mild p → Mild q → Mild (cond b p q)
mild_if true p q h i = h
mild_if false p q h i = i

mild_wait : (m : Machine) → Mild (wait_step m)
mild_wait m = mild_if m.doorbell (reread_step m) (quiet, record m { phase = phases.Suspended }) (unran (reread_step m) refl tt refl) (unran (quiet, record m { phase = phases.Suspended }) refl tt refl)

-- a command runs
ran_good : (b : Bool) (len : ℕ) (m : Machine) → (len == 0) ≡ b → Mild (with_outcome (outcomes.Good len) (cond b (end_step m kinds.Good None) (answer_step m)))
ran_good true len m e = record { other = tt; reads = refl; ends = λ o f z. refl; runs = λ o f. (refl, refl) }
ran_good false len m e = record { other = tt; reads = refl; ends = λ o f z. absurd (full o (let same : outcomes.Good len ≡ o = cc in same) z); runs = λ o f. (refl, refl) }
  where
    full : (o : Outcome) → outcomes.Good len ≡ o → answered_length o ≡ 0 → ⊥
    full o f z =
        let zero_is : len ≡ 0 = ap answered_length f ∙ z in
        let yes : true ≡ (len == 0) = ap (λ n. n == 0) (sym zero_is) in
        let no : true ≡ false = yes ∙ e in cc

mild_ran : (outcome : Outcome) (m : Machine) → Mild (with_outcome outcome (ran_as m outcome))
mild_ran (outcomes.Check sense) m = record { other = tt; reads = refl; ends = λ o f z. refl; runs = λ o f. (refl, refl) }
mild_ran (outcomes.Good len) m = ran_good (len == 0) len m refl

mild_judged : (m : Machine) (told : Told) (need : Need) → Mild (judged m told need)
mild_judged m told needs.RunNow = mild_ran told.outcome (record m { answer = told.answer; written = 0 })
mild_judged m told (needs.Payload len) = unran (data_step m len) refl tt refl

death_other : (kind : StatusKind) → IsOther (death_by kind)
death_other kinds.Good = tt
death_other (kinds.Check sense) = tt
death_other kinds.Dummy = tt
death_other kinds.Aborted = tt
death_other (kinds.Illegal meaning) = tt
death_other kinds.Failed = tt
death_other (kinds.Management meaning) = tt

mild_checked : (m : Machine) (place : ℕ) (plain : PlainDisk) (told : Told) (o : Option StatusKind) → Mild (checked m place plain told o)
mild_checked m place plain told (Some kind) = mild_end m kind (death_by kind) (death_other kind)
mild_checked m place plain told None =
    let n = record m { segments = unread_buffer m.orb } in
    mild_if (reads_table m.orb) (asks (Read m.orb.descriptor (8 * m.orb.data_size)), record m { phase = phases.ReadingTable }) (judged n told (need_of n.orb.cdb (plan_of n) plain place))
    (record { other = tt; reads = refl; ends = λ x f z. absurd (none-some x f); runs = λ x f. absurd (none-some x f) }) (mild_judged n told (need_of n.orb.cdb (plan_of n) plain place))

mild_ahead : (dead : Option FailCause) (next : OrbPointer) (s : AgentStep × Machine) → Mild s → Mild (ahead_of dead next s)
mild_ahead None (At next) s h = record { other = h.other; reads = refl; ends = h.ends; runs = h.runs }
mild_ahead None Null s h = h
mild_ahead (Some cause) (At next) s h = h
mild_ahead (Some cause) Null s h = h

mild_check : (m : Machine) (place : ℕ) (plain : PlainDisk) (told : Told) → Mild (with_ahead (check_step m place plain told))
mild_check m place plain told =
    let s = check_step m place plain told in mild_ahead s.0.dead s.1.orb.next s (mild_checked m place plain told (verdict m.orb m.aborted))

module _ (place : ℕ) (plain : PlainDisk) (told : Told) where
  abbrev Moved : Move × Machine → Type 0
  Moved r = Mild (served place plain told r.0 r.1)

  moved_if : (b : Bool) (p q : Move × Machine) → Moved p → Moved q → Moved (cond b p q)
  moved_if true p q h i = h
  moved_if false p q h i = i

  turn_moves : (m : Machine) (next : ℕ) (ahead : ReadAhead) → Moved (turn_step m next ahead)
  turn_moves m next aheads.Idle = record { other = tt; reads = refl; ends = λ x f z. absurd (none-some x f); runs = λ x f. absurd (none-some x f) }
  turn_moves m next (aheads.UnderWay rung) = record { other = tt; reads = refl; ends = λ x f z. absurd (none-some x f); runs = λ x f. absurd (none-some x f) }
  turn_moves m next (aheads.Kept orb) = mild_check (record (turned m next) { orb = orb }) place plain told

  follow_moves : (m : Machine) (next : OrbPointer) → Moved (follow_step m next)
  follow_moves m (At next) = turn_moves m next m.ahead
  follow_moves m Null = mild_wait m

  status_moves : (m : Machine) (failure : Option FailCause) → IsOther failure → Moved (status_written m failure)
  status_moves m (Some cause) o = record { other = o; reads = refl; ends = λ x f z. absurd (none-some x f); runs = λ x f. absurd (none-some x f) }
  status_moves m None o = follow_moves m m.orb.next

  next_moves : (m : Machine) (read : Result (List ℕ) FailCause) → Fails read → Moved (next_read m read)
  next_moves m (Err cause) o = record { other = o; reads = refl; ends = λ x f z. absurd (none-some x f); runs = λ x f. absurd (none-some x f) }
  next_moves m (Ok bytes) o = follow_moves (record m { orb = record m.orb { next = pointer_at bytes 0 } }) (pointer_at bytes 0)

  orb_moves : (m : Machine) (read : Result (List ℕ) FailCause) → Fails read → Moved (orb_read m read)
  orb_moves m (Err cause) o = mild_end m kinds.Failed (Some cause) o
  orb_moves m (Ok bytes) o = mild_check (record m { orb = command_orb bytes }) place plain told

  elements_move : (m : Machine) (bytes : List ℕ) (fault : Option PageFault) → Moved (elements_read m bytes fault)
  elements_move m bytes (Some fault) = mild_end m (kinds.Illegal 0xff) (Some causes.Grammar) tt
  elements_move m bytes None = let n = record m { segments = elements_of bytes } in mild_judged n told (need_of n.orb.cdb (plan_of n) plain place)

  table_moves : (m : Machine) (read : Result (List ℕ) FailCause) → Fails read → Moved (table_read m read)
  table_moves m (Err cause) o = mild_end m kinds.Failed (Some cause) o
  table_moves m (Ok bytes) o =
      moved_if m.aborted (sent (end_step m kinds.Aborted None)) (elements_read m bytes (first_fault 0 (elements_of bytes))) (mild_end m kinds.Aborted None tt) (elements_move m bytes (first_fault 0 (elements_of bytes)))

  data_moves : (m : Machine) (wanted : ℕ) (read : Result (List ℕ) FailCause) → Fails read → Moved (data_read m wanted read)
  data_moves m wanted (Err cause) o = mild_end m kinds.Failed (Some cause) o
  data_moves m wanted (Ok bytes) o =
      let n = record m { payload = m.payload ++ bytes } in
      moved_if m.aborted (sent (end_step m kinds.Aborted None)) (data_grown n wanted) (mild_end m kinds.Aborted None tt)
      (moved_if (length n.payload == wanted) (moves.Run, n) (sent (data_step n wanted)) (mild_ran told.outcome (record n { answer = told.answer; written = 0 })) (unran (data_step n wanted) refl tt refl))

  chunk_moves : (m : Machine) (failure : Option FailCause) → IsOther failure → Moved (chunk_written m failure)
  chunk_moves m (Some cause) o = mild_end m kinds.Failed (Some cause) o
  chunk_moves m None o =
      let n = record m { written = m.written + answer_chunk m } in
      mild_if (n.written == length n.answer) (end_step n kinds.Good None) (answer_step n) (mild_end n kinds.Good None tt) (unran (answer_step n) refl tt refl)

  main_moves : (phase : Phase) (m : Machine) (answer : Answer) → IsGiven answer → Moved (advanced phase m answer)
  main_moves phases.Fetching m answer g = orb_moves m (payload_of answer 32) (payload_fails answer 32 g)
  main_moves phases.ReadingTable m answer g = table_moves m (payload_of answer (8 * m.orb.data_size)) (payload_fails answer (8 * m.orb.data_size) g)
  main_moves (phases.ReadingData wanted) m answer g =
      let size = (chunk_of m (length m.payload) wanted).length in data_moves m wanted (payload_of answer size) (payload_fails answer size g)
  main_moves phases.Answering m answer g = chunk_moves m (write_failure answer) (write_fails answer g)
  main_moves phases.WritingStatus m answer g = status_moves m (write_failure answer) (write_fails answer g)
  main_moves phases.ReadingNext m answer g = next_moves m (payload_of answer 8) (payload_fails answer 8 g)
  main_moves phases.WritingLastStatus m answer g = record { other = tt; reads = refl; ends = λ x f z. absurd (none-some x f); runs = λ x f. absurd (none-some x f) }
  main_moves phases.Reset m answer g = record { other = tt; reads = refl; ends = λ x f z. absurd (none-some x f); runs = λ x f. absurd (none-some x f) }
  main_moves phases.Suspended m answer g = record { other = tt; reads = refl; ends = λ x f z. absurd (none-some x f); runs = λ x f. absurd (none-some x f) }
  main_moves phases.Dead m answer g = record { other = tt; reads = refl; ends = λ x f z. absurd (none-some x f); runs = λ x f. absurd (none-some x f) }

  ahead_moves : (m : Machine) (read : Result (List ℕ) FailCause) → Mild (ahead_read m read)
  ahead_moves m (Ok bytes) = record { other = tt; reads = refl; ends = λ x f z. absurd (none-some x f); runs = λ x f. absurd (none-some x f) }
  ahead_moves m (Err cause) = record { other = tt; reads = refl; ends = λ x f z. absurd (none-some x f); runs = λ x f. absurd (none-some x f) }

  all_mild : (which : Which) (m : Machine) (answer : Answer) → IsGiven answer → Mild (replied m place plain told which answer)
  all_mild Main m answer g = main_moves m.phase m answer g
  all_mild Ahead m answer g =
      mild_if (is_ahead m.ahead) (ahead_step m answer) (quiet, m) (ahead_moves m (payload_of answer 32)) (record { other = tt; reads = refl; ends = λ x f z. absurd (none-some x f); runs = λ x f. absurd (none-some x f) })

pub reply_mild : (m : Machine) (place : ℕ) (plain : PlainDisk) (told : Option Told) (which : Which) (answer : Answer) → IsGiven answer → Mild (reply_step m place plain told which answer)
unfolding reply_step
reply_mild m place plain told which answer g = all_mild place plain (told_or told) which m answer g
