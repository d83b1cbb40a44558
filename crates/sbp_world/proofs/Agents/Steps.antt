-- Agents that are alike make the same steps.
use Rattle.sbp_world.proofs.Words.Std.{◌≡◌, ◌∙◌, refl, sym, ap, subst, ℕ, ◌+◌, ◌-◌, ◌*◌, ◌%◌, ◌==◌, ◌&&◌, ◌||◌, Bool, true, false, cond, List, ◌++◌, length, take, drop, Option, Some, None, Result, Ok, Err, false≢true}
use Rattle.sbp_world.proofs.Words.Target.{Need, Outcome, PlainDisk, need_of, Told, Phase, ReadAhead, AgentState, AgentStep, Move, PointRefusal, Which, Main, Ahead, Machine, awaits_run, chunk_of, is_ahead, plan_of, rung_in, state_in, verdict, death_by, reads_table, abort_step, advanced, ahead_lost, ahead_of, ahead_read, ahead_step, answer_chunk, answer_grown, asks, check_step, checked, chunk_written, data_grown, data_read, data_step, dead_step, doorbell_in, doorbell_step, elements_read, end_step, fail_step, fetch_step, follow_step, is_label, judged, lost, lost_step, main_lost, next_read, orb_read, point_in, point_step, pointed, quiet, ran_as, reply_step, reread_step, reset_step, run_step, sent, served, table_read, told_or, turn_step, turned, unread_buffer, wait_step, with_ahead, with_outcome}
use Rattle.sbp_world.proofs.Words.Initiator.{Ask, Read, Write, FailCause, CommandOrb, OrbPointer, Null, At, StatusKind, command_orb, pointer_at, Answer, payload_of, write_failure, PageFault, Segment, elements_of, first_fault}
use Rattle.sbp_world.proofs.Words.World.{Alike, AlikeLaw, StepsAlike, TellsAlike, answers, has_list, moves_data}
use Rattle.orb_layout.specs.declared.ask.FailCause.TheVariants as causes
use Rattle.orb_layout.specs.declared.status.StatusKind.TheVariants as kinds
use Rattle.rbc_disk.specs.declared.command.Need.TheVariants as needs
use Rattle.rbc_disk.specs.declared.command.Outcome.TheVariants as outcomes
use Rattle.command_agent.specs.declared.phase.Phase.TheVariants as phases
use Rattle.command_agent.specs.declared.phase.ReadAhead.TheVariants as aheads
use Rattle.command_agent.specs.declared.step.AgentState.TheVariants as states
use Rattle.command_agent.specs.declared.step.Move.TheVariants as moves
use Rattle.command_agent.specs.Steps.{answer_step, replied, status_written}

-- ---- an agent in the words of another: in a list; while its data are read; while its answer is written
abbrev late : Machine → Machine → Machine
late x m = record m { segments = x.segments; answer = x.answer; written = x.written; outgoing = x.outgoing }

abbrev fed : Machine → Machine → Machine
fed x m = record m { answer = x.answer; written = x.written; outgoing = x.outgoing }

abbrev bare : (answer outgoing : List ℕ) → Machine → Machine
bare answer outgoing m = record m { answer = answer; outgoing = outgoing }

machine_by : (p p' : Phase) (d d' : Bool) (o o' : ℕ) (r r' : CommandOrb) (b b' : Bool) (h h' : ReadAhead) (s : List Segment) (l l' x : List ℕ) (w : ℕ) (g : List ℕ) → p ≡ p' → d ≡ d' → o ≡ o' → r ≡ r' → b ≡ b' → h ≡ h' → l ≡ l' → (let m : Machine = record { phase = p; doorbell = d; present = o; orb = r; aborted = b; ahead = h; segments = s; payload = l; answer = x; written = w; outgoing = g } in m) ≡ record { phase = p'; doorbell = d'; present = o'; orb = r'; aborted = b'; ahead = h'; segments = s; payload = l'; answer = x; written = w; outgoing = g }
machine_by p p' d d' o o' r r' b b' h h' s l l' x w g e1 e2 e3 e4 e5 e6 e7 = cc

module _ (u : Bool) (a m : Machine) (al : Alike u a m) where
  late_is : has_list m.phase ≡ true → a ≡ late a m
  late_is e = machine_by a.phase m.phase a.doorbell m.doorbell a.present m.present a.orb m.orb a.aborted m.aborted a.ahead m.ahead a.segments a.payload m.payload a.answer a.written a.outgoing al.phase (al.doorbell e) (al.present e) (al.orb e) (al.aborted e) (al.ahead e) (al.payload e)

  fed_is : has_list m.phase ≡ true → moves_data m.phase ≡ true → a ≡ fed a m
  fed_is e f = late_is e ∙ ap (λ s. record (late a m) { segments = s }) (al.segments f)

  bare_is : has_list m.phase ≡ true → moves_data m.phase ≡ true → answers m.phase ≡ true → a ≡ bare a.answer a.outgoing m
  bare_is e f g = fed_is e f ∙ ap (λ w. record (fed a m) { written = w }) (al.written g)

-- ---- `u` tells whether the answer is told as it stands, `v` whether that of a run is
module _ (u v : Bool) where
  abbrev Same : AgentStep × Machine → AgentStep × Machine → Type 0
  Same p q = StepsAlike u v p q

  -- an ORB ends
  end_same : (x m : Machine) (kind : StatusKind) (dead : Option FailCause) → Same (end_step (late x m) kind dead) (end_step m kind dead)
  end_same x m kind None = record {
    step = refl;
    alike = record {
      phase = refl;
      flag = refl;
      ahead = λ e. refl;
      doorbell = λ e. refl;
      present = λ e. refl;
      orb = λ e. refl;
      aborted = λ e. refl;
      payload = λ e. refl;
      segments = λ e. absurd (false≢true e);
      written = λ e. absurd (false≢true e);
      size = λ e. absurd (false≢true e);
      answer = λ e. absurd (false≢true e);
      chunk = λ e. absurd (false≢true e);
      status = λ e. refl;
    };
  }
  end_same x m kind (Some cause) = record {
    step = refl;
    alike = record {
      phase = refl;
      flag = refl;
      ahead = λ e. refl;
      doorbell = λ e. refl;
      present = λ e. refl;
      orb = λ e. refl;
      aborted = λ e. refl;
      payload = λ e. refl;
      segments = λ e. absurd (false≢true e);
      written = λ e. absurd (false≢true e);
      size = λ e. absurd (false≢true e);
      answer = λ e. absurd (false≢true e);
      chunk = λ e. absurd (false≢true e);
      status = λ e. refl;
    };
  }

  dead_same : (x m : Machine) (cause : FailCause) → Same (dead_step (late x m) cause) (dead_step m cause)
  dead_same x m cause = record {
    step = refl;
    alike = record {
      phase = refl;
      flag = refl;
      ahead = λ e. refl;
      doorbell = λ e. absurd (false≢true e);
      present = λ e. absurd (false≢true e);
      orb = λ e. absurd (false≢true e);
      aborted = λ e. absurd (false≢true e);
      payload = λ e. absurd (false≢true e);
      segments = λ e. absurd (false≢true e);
      written = λ e. absurd (false≢true e);
      size = λ e. absurd (false≢true e);
      answer = λ e. absurd (false≢true e);
      chunk = λ e. absurd (false≢true e);
      status = λ e. absurd (false≢true e);
    };
  }

  -- a list is opened, or goes on
  pub fetch_same : (x m : Machine) (next : ℕ) → Same (fetch_step x next) (fetch_step m next)
  fetch_same x m next = record {
    step = refl;
    alike = record {
      phase = refl;
      flag = refl;
      ahead = λ e. refl;
      doorbell = λ e. refl;
      present = λ e. refl;
      orb = λ e. refl;
      aborted = λ e. refl;
      payload = λ e. refl;
      segments = λ e. absurd (false≢true e);
      written = λ e. absurd (false≢true e);
      size = λ e. absurd (false≢true e);
      answer = λ e. absurd (false≢true e);
      chunk = λ e. absurd (false≢true e);
      status = λ e. absurd (false≢true e);
    };
  }

  turned_same : (step : AgentStep) (x m : Machine) (next : ℕ) → step.ran ≡ None → Same (step, turned (late x m) next) (step, turned m next)
  turned_same step x m next r = record {
    step = refl;
    alike = record {
      phase = refl;
      flag = refl;
      ahead = λ e. refl;
      doorbell = λ e. refl;
      present = λ e. refl;
      orb = λ e. refl;
      aborted = λ e. refl;
      payload = λ e. refl;
      segments = λ e. absurd (false≢true e);
      written = λ e. absurd (false≢true e);
      size = λ e. absurd (false≢true e);
      answer = λ e. absurd (false≢true e);
      chunk = λ e. absurd (false≢true e);
      status = λ e. absurd (false≢true e);
    };
  }

  pub reread_same : (x m : Machine) → Same (reread_step (late x m)) (reread_step m)
  reread_same x m = record {
    step = refl;
    alike = record {
      phase = refl;
      flag = refl;
      ahead = λ e. refl;
      doorbell = λ e. refl;
      present = λ e. refl;
      orb = λ e. refl;
      aborted = λ e. refl;
      payload = λ e. refl;
      segments = λ e. absurd (false≢true e);
      written = λ e. absurd (false≢true e);
      size = λ e. absurd (false≢true e);
      answer = λ e. absurd (false≢true e);
      chunk = λ e. absurd (false≢true e);
      status = λ e. absurd (false≢true e);
    };
  }

  suspend_same : (x m : Machine) → Same (quiet, record (late x m) { phase = phases.Suspended }) (quiet, record m { phase = phases.Suspended })
  suspend_same x m = record {
    step = refl;
    alike = record {
      phase = refl;
      flag = refl;
      ahead = λ e. refl;
      doorbell = λ e. refl;
      present = λ e. refl;
      orb = λ e. refl;
      aborted = λ e. refl;
      payload = λ e. refl;
      segments = λ e. absurd (false≢true e);
      written = λ e. absurd (false≢true e);
      size = λ e. absurd (false≢true e);
      answer = λ e. absurd (false≢true e);
      chunk = λ e. absurd (false≢true e);
      status = λ e. absurd (false≢true e);
    };
  }

  last_same : (x m : Machine) → Same (quiet, record (late x m) { phase = phases.Dead }) (quiet, record m { phase = phases.Dead })
  last_same x m = record {
    step = refl;
    alike = record {
      phase = refl;
      flag = refl;
      ahead = λ e. refl;
      doorbell = λ e. absurd (false≢true e);
      present = λ e. absurd (false≢true e);
      orb = λ e. absurd (false≢true e);
      aborted = λ e. absurd (false≢true e);
      payload = λ e. absurd (false≢true e);
      segments = λ e. absurd (false≢true e);
      written = λ e. absurd (false≢true e);
      size = λ e. absurd (false≢true e);
      answer = λ e. absurd (false≢true e);
      chunk = λ e. absurd (false≢true e);
      status = λ e. absurd (false≢true e);
    };
  }

  -- data are read
  data_same : (x m : Machine) (wanted : ℕ) → Same (data_step (fed x m) wanted) (data_step m wanted)
  data_same x m wanted = record {
    step = refl;
    alike = record {
      phase = refl;
      flag = refl;
      ahead = λ e. refl;
      doorbell = λ e. refl;
      present = λ e. refl;
      orb = λ e. refl;
      aborted = λ e. refl;
      payload = λ e. refl;
      segments = λ e. refl;
      written = λ e. absurd (false≢true e);
      size = λ e. absurd (false≢true e);
      answer = λ e. absurd (false≢true e);
      chunk = λ e. absurd (false≢true e);
      status = λ e. absurd (false≢true e);
    };
  }

  table_same : (x m : Machine) → Same (asks (Read m.orb.descriptor (8 * m.orb.data_size)), record (late x m) { phase = phases.ReadingTable }) (asks (Read m.orb.descriptor (8 * m.orb.data_size)), record m { phase = phases.ReadingTable })
  table_same x m = record {
    step = refl;
    alike = record {
      phase = refl;
      flag = refl;
      ahead = λ e. refl;
      doorbell = λ e. refl;
      present = λ e. refl;
      orb = λ e. refl;
      aborted = λ e. refl;
      payload = λ e. refl;
      segments = λ e. absurd (false≢true e);
      written = λ e. absurd (false≢true e);
      size = λ e. absurd (false≢true e);
      answer = λ e. absurd (false≢true e);
      chunk = λ e. absurd (false≢true e);
      status = λ e. absurd (false≢true e);
    };
  }

  same_if : (b : Bool) (p q p' q' : AgentStep × Machine) → Same p p' → Same q q' → Same (cond b p q) (cond b p' q')
  same_if true p q p' q' h i = h
  same_if false p q p' q' h i = i

  wait_same : (x m : Machine) → Same (wait_step (late x m)) (wait_step m)
  wait_same x m = same_if m.doorbell (reread_step (late x m)) (quiet, record (late x m) { phase = phases.Suspended }) (reread_step m) (quiet, record m { phase = phases.Suspended }) (reread_same x m) (suspend_same x m)

-- ---- an answer is written; `w` tells whether it is told as it stands
module _ (w : Bool) where
  chunk_same : (m : Machine) (x o : List ℕ) → length x ≡ length m.answer → (w ≡ false → x ≡ m.answer) → Alike w (answer_step (bare x o m)).1 (answer_step m).1
  chunk_same m x o s t = record {
    phase = refl;
    flag = refl;
    ahead = λ e. refl;
    doorbell = λ e. refl;
    present = λ e. refl;
    orb = λ e. refl;
    aborted = λ e. refl;
    payload = λ e. refl;
    segments = λ e. refl;
    written = λ e. refl;
    size = λ e. s;
    answer = λ e f. t f;
    chunk = λ e f. ap (λ y. take (chunk_of m m.written (length y)).length (drop m.written y)) (t f);
    status = λ e. absurd (false≢true e);
  }

  chunk_asks : (m : Machine) (x o : List ℕ) → length x ≡ length m.answer → (answer_step (bare x o m)).0 ≡ (answer_step m).0
  chunk_asks m x o s = ap (λ n. asks (Write (chunk_of m m.written n).offset (chunk_of m m.written n).length)) s

module _ (u v : Bool) where
  abbrev Same2 : AgentStep × Machine → AgentStep × Machine → Type 0
  Same2 p q = StepsAlike u v p q

  -- a command runs
  ran_if : (b : Bool) (len : ℕ) (m : Machine) (x o : List ℕ) → length x ≡ length m.answer → (v ≡ false → x ≡ m.answer) → Same2 (with_outcome (outcomes.Good len) (cond b (end_step (bare x o m) kinds.Good None) (answer_step (bare x o m)))) (with_outcome (outcomes.Good len) (cond b (end_step m kinds.Good None) (answer_step m)))
  ran_if true len m x o s t =
      let h = end_same u v (bare x o m) m kinds.Good None in record {
        step = ap (λ (step : AgentStep). record step { ran = Some (outcomes.Good len) }) h.step;
        alike = record {
          phase = refl;
          flag = refl;
          ahead = λ e. refl;
          doorbell = λ e. refl;
          present = λ e. refl;
          orb = λ e. refl;
          aborted = λ e. refl;
          payload = λ e. refl;
          segments = λ e. absurd (false≢true e);
          written = λ e. absurd (false≢true e);
          size = λ e. absurd (false≢true e);
          answer = λ e. absurd (false≢true e);
          chunk = λ e. absurd (false≢true e);
          status = λ e. refl;
        };
      }
  ran_if false len m x o s t = record {
    step = ap (λ (step : AgentStep). record step { ran = Some (outcomes.Good len) }) (chunk_asks v m x o s);
    alike = chunk_same v m x o s t;
  }

  ran_same : (outcome : Outcome) (m : Machine) (x o : List ℕ) → length x ≡ length m.answer → (v ≡ false → x ≡ m.answer) → Same2 (with_outcome outcome (ran_as (bare x o m) outcome)) (with_outcome outcome (ran_as m outcome))
  ran_same (outcomes.Check sense) m x o s t = record {
    step = refl;
    alike = record {
      phase = refl;
      flag = refl;
      ahead = λ e. refl;
      doorbell = λ e. refl;
      present = λ e. refl;
      orb = λ e. refl;
      aborted = λ e. refl;
      payload = λ e. refl;
      segments = λ e. absurd (false≢true e);
      written = λ e. absurd (false≢true e);
      size = λ e. absurd (false≢true e);
      answer = λ e. absurd (false≢true e);
      chunk = λ e. absurd (false≢true e);
      status = λ e. refl;
    };
  }
  ran_same (outcomes.Good len) m x o s t = ran_if (len == 0) len m x o s t

  run_same : (x m : Machine) (ta tm : Told) → TellsAlike v ta tm → Same2 (run_step (fed x m) ta) (run_step m tm)
  run_same x m ta tm t =
      subst (λ (o : Outcome). Same2 (run_step (fed x m) (record { outcome = o; answer = ta.answer })) (run_step m tm)) (sym t.outcome)
      (ran_same tm.outcome (record m { answer = tm.answer; written = 0 }) ta.answer x.outgoing t.size t.answer)

  judged_same : (x m : Machine) (ta tm : Told) (need : Need) → TellsAlike v ta tm → Same2 (judged (fed x m) ta need) (judged m tm need)
  judged_same x m ta tm needs.RunNow t = run_same x m ta tm t
  judged_same x m ta tm (needs.Payload len) t = data_same u v x m len

  -- ---- the checks of an ORB leave a list open
  record Checked (p q : AgentStep × Machine) : Type 0 where
    same : Same2 p q
    listed : has_list q.1.phase ≡ true

  listed_if : (b : Bool) (p q : AgentStep × Machine) → has_list p.1.phase ≡ true → has_list q.1.phase ≡ true → has_list (cond b p q).1.phase ≡ true
  listed_if true p q e f = e
  listed_if false p q e f = f

  ran_listed : (outcome : Outcome) (m : Machine) → has_list (ran_as m outcome).1.phase ≡ true
  ran_listed (outcomes.Check sense) m = refl
  ran_listed (outcomes.Good len) m = listed_if (len == 0) (end_step m kinds.Good None) (answer_step m) refl refl

  judged_listed : (m : Machine) (told : Told) (need : Need) → has_list (judged m told need).1.phase ≡ true
  judged_listed m told needs.RunNow = ran_listed told.outcome (record m { answer = told.answer; written = 0 })
  judged_listed m told (needs.Payload len) = refl

  checked_if : (b : Bool) (p q p' q' : AgentStep × Machine) → Checked p p' → Checked q q' → Checked (cond b p q) (cond b p' q')
  checked_if true p q p' q' h i = h
  checked_if false p q p' q' h i = i

  ended_listed : (m : Machine) (kind : StatusKind) (dead : Option FailCause) → has_list (end_step m kind dead).1.phase ≡ true
  ended_listed m kind None = refl
  ended_listed m kind (Some cause) = refl

  checked_by : (x m : Machine) (place : ℕ) (plain : PlainDisk) (ta tm : Told) (o : Option StatusKind) → TellsAlike v ta tm → Checked (checked (late x m) place plain ta o) (checked m place plain tm o)
  checked_by x m place plain ta tm (Some kind) t = record { same = end_same u v x m kind (death_by kind); listed = ended_listed m kind (death_by kind) }
  checked_by x m place plain ta tm None t =
      let n = record m { segments = unread_buffer m.orb } in
      let need = need_of n.orb.cdb (plan_of n) plain place in
      checked_if (reads_table m.orb) (asks (Read m.orb.descriptor (8 * m.orb.data_size)), record (late x m) { phase = phases.ReadingTable }) (judged (fed x n) ta need) (asks (Read m.orb.descriptor (8 * m.orb.data_size)), record m { phase = phases.ReadingTable }) (judged n tm need)
      (record { same = table_same u v x m; listed = refl })
      (record { same = judged_same x n ta tm need t; listed = judged_listed n tm need })

  ahead_pair : (dead : Option FailCause) (next : OrbPointer) (p q : AgentStep × Machine) → Checked p q → Same2 (ahead_of dead next p) (ahead_of dead next q)
  ahead_pair None (At next) p q c =
      let al = c.same.alike in record {
        step = ap (λ (s : AgentStep). record s { ahead = Read (next - next % 4) 32 }) c.same.step;
        alike = record {
          phase = al.phase;
          flag = refl;
          ahead = λ e. ap aheads.UnderWay (al.doorbell c.listed);
          doorbell = λ e. refl;
          present = al.present;
          orb = al.orb;
          aborted = al.aborted;
          payload = al.payload;
          segments = al.segments;
          written = al.written;
          size = al.size;
          answer = al.answer;
          chunk = al.chunk;
          status = al.status;
        };
      }
  ahead_pair None Null p q c = c.same
  ahead_pair (Some cause) (At next) p q c = c.same
  ahead_pair (Some cause) Null p q c = c.same

  with_ahead_same : (p q : AgentStep × Machine) → Checked p q → Same2 (with_ahead p) (with_ahead q)
  with_ahead_same p q c =
      subst (λ (d : Option FailCause). Same2 (ahead_of d p.1.orb.next p) (with_ahead q)) (sym (ap (λ (s : AgentStep). s.dead) c.same.step))
      (subst (λ (n : OrbPointer). Same2 (ahead_of q.0.dead n p) (with_ahead q)) (sym (ap (λ (o : CommandOrb). o.next) (c.same.alike.orb c.listed)))
      (ahead_pair q.0.dead q.1.orb.next p q c))

  check_same : (x m : Machine) (place : ℕ) (plain : PlainDisk) (ta tm : Told) → TellsAlike v ta tm → Same2 (with_ahead (check_step (late x m) place plain ta)) (with_ahead (check_step m place plain tm))
  check_same x m place plain ta tm t =
      with_ahead_same (check_step (late x m) place plain ta) (check_step m place plain tm) (checked_by x m place plain ta tm (verdict m.orb m.aborted) t)

-- ---- the reply to the main transaction
module _ (u v : Bool) (place : ℕ) (plain : PlainDisk) (ta tm : Told) (t : TellsAlike v ta tm) where
  abbrev Moved : Move × Machine → Move × Machine → Type 0
  Moved r q = StepsAlike u v (served place plain ta r.0 r.1) (served place plain tm q.0 q.1)

  moved_if : (b : Bool) (p q p' q' : Move × Machine) → Moved p p' → Moved q q' → Moved (cond b p q) (cond b p' q')
  moved_if true p q p' q' h i = h
  moved_if false p q p' q' h i = i

  turn_moves : (x m : Machine) (next : ℕ) (ahead : ReadAhead) → Moved (turn_step (late x m) next ahead) (turn_step m next ahead)
  turn_moves x m next aheads.Idle = fetch_same u v (late x m) m next
  turn_moves x m next (aheads.UnderWay rung) = turned_same u v (record quiet { promoted = true }) x m next refl
  turn_moves x m next (aheads.Kept orb) = check_same u v x (record (turned m next) { orb = orb }) place plain ta tm t

  follow_moves : (x m : Machine) (next : OrbPointer) → Moved (follow_step (late x m) next) (follow_step m next)
  follow_moves x m (At next) = turn_moves x m next m.ahead
  follow_moves x m Null = wait_same u v x m

  status_moves : (x m : Machine) (failure : Option FailCause) → Moved (status_written (late x m) failure) (status_written m failure)
  status_moves x m (Some cause) = dead_same u v x m cause
  status_moves x m None = follow_moves x m m.orb.next

  next_moves : (x m : Machine) (read : Result (List ℕ) FailCause) → Moved (next_read (late x m) read) (next_read m read)
  next_moves x m (Err cause) = dead_same u v x m cause
  next_moves x m (Ok bytes) = follow_moves x (record m { orb = record m.orb { next = pointer_at bytes 0 } }) (pointer_at bytes 0)

  orb_moves : (x m : Machine) (read : Result (List ℕ) FailCause) → Moved (orb_read (late x m) read) (orb_read m read)
  orb_moves x m (Err cause) = end_same u v x m kinds.Failed (Some cause)
  orb_moves x m (Ok bytes) = check_same u v x (record m { orb = command_orb bytes }) place plain ta tm t

  elements_move : (x m : Machine) (bytes : List ℕ) (fault : Option PageFault) → Moved (elements_read (late x m) bytes fault) (elements_read m bytes fault)
  elements_move x m bytes (Some fault) = end_same u v x m (kinds.Illegal 0xff) (Some causes.Grammar)
  elements_move x m bytes None =
      let n = record m { segments = elements_of bytes } in judged_same u v x n ta tm (need_of n.orb.cdb (plan_of n) plain place) t

  table_moves : (x m : Machine) (read : Result (List ℕ) FailCause) → Moved (table_read (late x m) read) (table_read m read)
  table_moves x m (Err cause) = end_same u v x m kinds.Failed (Some cause)
  table_moves x m (Ok bytes) =
      let fault = first_fault 0 (elements_of bytes) in
      moved_if m.aborted (sent (end_step (late x m) kinds.Aborted None)) (elements_read (late x m) bytes fault) (sent (end_step m kinds.Aborted None)) (elements_read m bytes fault) (end_same u v x m kinds.Aborted None)
      (elements_move x m bytes fault)

  data_moves : (x m : Machine) (wanted : ℕ) (read : Result (List ℕ) FailCause) → Moved (data_read (fed x m) wanted read) (data_read m wanted read)
  data_moves x m wanted (Err cause) = end_same u v (fed x m) m kinds.Failed (Some cause)
  data_moves x m wanted (Ok bytes) =
      let n = record m { payload = m.payload ++ bytes } in
      moved_if m.aborted (sent (end_step (fed x m) kinds.Aborted None)) (data_grown (fed x n) wanted) (sent (end_step m kinds.Aborted None)) (data_grown n wanted) (end_same u v (fed x m) m kinds.Aborted None)
      (moved_if (length n.payload == wanted) (moves.Run, fed x n) (sent (data_step (fed x n) wanted)) (moves.Run, n) (sent (data_step n wanted)) (run_same u v x n ta tm t) (data_same u v x n wanted))

  grown_if : (b : Bool) (m : Machine) (x o : List ℕ) → length x ≡ length m.answer → (u ≡ false → x ≡ m.answer) → StepsAlike u v (cond b (end_step (bare x o m) kinds.Good None) (answer_step (bare x o m))) (cond b (end_step m kinds.Good None) (answer_step m))
  grown_if true m x o s h = end_same u v (bare x o m) m kinds.Good None
  grown_if false m x o s h = record { step = chunk_asks u m x o s; alike = chunk_same u m x o s h }

  chunk_moves : (m : Machine) (x o : List ℕ) (failure : Option FailCause) → length x ≡ length m.answer → (u ≡ false → x ≡ m.answer) → Moved (chunk_written (bare x o m) failure) (chunk_written m failure)
  chunk_moves m x o (Some cause) s h = end_same u v (bare x o m) m kinds.Failed (Some cause)
  chunk_moves m x o None s h =
      let n = record m { written = m.written + answer_chunk m } in
      subst (λ (k : ℕ). Moved (answer_grown (record (bare x o m) { written = m.written + (chunk_of m m.written k).length })) (answer_grown n)) (sym s)
      (subst (λ (k : ℕ). Moved (sent (cond (n.written == k) (end_step (bare x o n) kinds.Good None) (answer_step (bare x o n)))) (answer_grown n)) (sym s)
      (grown_if (n.written == length m.answer) n x o s h))

  -- in a phase without a transaction
  still : (a m : Machine) → Alike u a m → StepsAlike u v (quiet, a) (quiet, m)
  still a m al = record { step = refl; alike = al }

  main_moves : (phase : Phase) (a m : Machine) (answer : Answer) → m.phase ≡ phase → Alike u a m → Moved (advanced phase a answer) (advanced phase m answer)
  main_moves phases.Fetching a m answer e al =
      subst (λ (n : Machine). Moved (advanced phases.Fetching n answer) (advanced phases.Fetching m answer)) (sym (late_is u a m al (ap has_list e))) (orb_moves a m (payload_of answer 32))
  main_moves phases.ReadingTable a m answer e al =
      subst (λ (n : Machine). Moved (advanced phases.ReadingTable n answer) (advanced phases.ReadingTable m answer)) (sym (late_is u a m al (ap has_list e))) (table_moves a m (payload_of answer (8 * m.orb.data_size)))
  main_moves (phases.ReadingData wanted) a m answer e al =
      subst (λ (n : Machine). Moved (advanced (phases.ReadingData wanted) n answer) (advanced (phases.ReadingData wanted) m answer)) (sym (fed_is u a m al (ap has_list e) (ap moves_data e)))
      (data_moves a m wanted (payload_of answer (chunk_of m (length m.payload) wanted).length))
  main_moves phases.Answering a m answer e al =
      subst (λ (n : Machine). Moved (advanced phases.Answering n answer) (advanced phases.Answering m answer)) (sym (bare_is u a m al (ap has_list e) (ap moves_data e) (ap answers e)))
      (chunk_moves m a.answer a.outgoing (write_failure answer) (al.size (ap answers e)) (al.answer (ap answers e)))
  main_moves phases.WritingStatus a m answer e al =
      subst (λ (n : Machine). Moved (advanced phases.WritingStatus n answer) (advanced phases.WritingStatus m answer)) (sym (late_is u a m al (ap has_list e))) (status_moves a m (write_failure answer))
  main_moves phases.ReadingNext a m answer e al =
      subst (λ (n : Machine). Moved (advanced phases.ReadingNext n answer) (advanced phases.ReadingNext m answer)) (sym (late_is u a m al (ap has_list e))) (next_moves a m (payload_of answer 8))
  main_moves phases.WritingLastStatus a m answer e al =
      subst (λ (n : Machine). Moved (advanced phases.WritingLastStatus n answer) (advanced phases.WritingLastStatus m answer)) (sym (late_is u a m al (ap has_list e))) (last_same u v a m)
  main_moves phases.Reset a m answer e al = still a m al
  main_moves phases.Suspended a m answer e al = still a m al
  main_moves phases.Dead a m answer e al = still a m al

-- ---- the read ahead
module _ (u v : Bool) where
  abbrev Same3 : AgentStep × Machine → AgentStep × Machine → Type 0
  Same3 p q = StepsAlike u v p q

  forgets : (a m : Machine) (cause : FailCause) → Alike u a m → Same3 (ahead_lost a cause) (ahead_lost m cause)
  forgets a m cause al = record {
    step = refl;
    alike = record {
      phase = al.phase;
      flag = refl;
      ahead = λ e. refl;
      doorbell = λ e. ap (λ (d : Bool). d || (is_label cause && rung_in a.ahead)) (al.doorbell e) ∙ ap (λ (r : ReadAhead). m.doorbell || (is_label cause && rung_in r)) (al.ahead e);
      present = al.present;
      orb = al.orb;
      aborted = al.aborted;
      payload = al.payload;
      segments = al.segments;
      written = al.written;
      size = al.size;
      answer = al.answer;
      chunk = al.chunk;
      status = al.status;
    };
  }

  reads_ahead : (a m : Machine) (read : Result (List ℕ) FailCause) → Alike u a m → Same3 (ahead_read a read) (ahead_read m read)
  reads_ahead a m (Ok bytes) al = record {
    step = refl;
    alike = record {
      phase = al.phase;
      flag = refl;
      ahead = λ e. refl;
      doorbell = al.doorbell;
      present = al.present;
      orb = al.orb;
      aborted = al.aborted;
      payload = al.payload;
      segments = al.segments;
      written = al.written;
      size = al.size;
      answer = al.answer;
      chunk = al.chunk;
      status = al.status;
    };
  }
  reads_ahead a m (Err cause) al = forgets a m cause al

  ahead_if : (b b' : Bool) (p q p' q' : AgentStep × Machine) → b ≡ b' → Same3 p p' → Same3 q q' → Same3 (cond b p q) (cond b' p' q')
  ahead_if b b' p q p' q' e h i = subst (λ (c : Bool). Same3 (cond c p q) (cond b' p' q')) (sym e) (same_if u v b' p q p' q' h i)

  ahead_replies : (a m : Machine) (answer : Answer) → Alike u a m → Same3 (cond (is_ahead a.ahead) (ahead_step a answer) (quiet, a)) (cond (is_ahead m.ahead) (ahead_step m answer) (quiet, m))
  ahead_replies a m answer al =
      ahead_if (is_ahead a.ahead) (is_ahead m.ahead) (ahead_step a answer) (quiet, a) (ahead_step m answer) (quiet, m) al.flag (reads_ahead a m (payload_of answer 32) al) (record { step = refl; alike = al })

  ahead_loses : (a m : Machine) (cause : FailCause) → Alike u a m → Same3 (cond (is_ahead a.ahead) (ahead_lost a cause) (quiet, a)) (cond (is_ahead m.ahead) (ahead_lost m cause) (quiet, m))
  ahead_loses a m cause al =
      ahead_if (is_ahead a.ahead) (is_ahead m.ahead) (ahead_lost a cause) (quiet, a) (ahead_lost m cause) (quiet, m) al.flag (forgets a m cause al) (record { step = refl; alike = al })

  -- ---- a main transaction that is lost
  main_loses : (phase : Phase) (a m : Machine) (cause : FailCause) → m.phase ≡ phase → Alike u a m → Same3 (main_lost phase a cause) (main_lost phase m cause)
  main_loses phases.Fetching a m cause e al = subst (λ (n : Machine). Same3 (fail_step n cause) (fail_step m cause)) (sym (late_is u a m al (ap has_list e))) (end_same u v a m kinds.Failed (Some cause))
  main_loses phases.ReadingTable a m cause e al = subst (λ (n : Machine). Same3 (fail_step n cause) (fail_step m cause)) (sym (late_is u a m al (ap has_list e))) (end_same u v a m kinds.Failed (Some cause))
  main_loses (phases.ReadingData wanted) a m cause e al = subst (λ (n : Machine). Same3 (fail_step n cause) (fail_step m cause)) (sym (late_is u a m al (ap has_list e))) (end_same u v a m kinds.Failed (Some cause))
  main_loses phases.Answering a m cause e al = subst (λ (n : Machine). Same3 (fail_step n cause) (fail_step m cause)) (sym (late_is u a m al (ap has_list e))) (end_same u v a m kinds.Failed (Some cause))
  main_loses phases.WritingStatus a m cause e al = subst (λ (n : Machine). Same3 (dead_step n cause) (dead_step m cause)) (sym (late_is u a m al (ap has_list e))) (dead_same u v a m cause)
  main_loses phases.ReadingNext a m cause e al = subst (λ (n : Machine). Same3 (dead_step n cause) (dead_step m cause)) (sym (late_is u a m al (ap has_list e))) (dead_same u v a m cause)
  main_loses phases.WritingLastStatus a m cause e al =
      subst (λ (n : Machine). Same3 (quiet, record n { phase = phases.Dead }) (quiet, record m { phase = phases.Dead })) (sym (late_is u a m al (ap has_list e))) (last_same u v a m)
  main_loses phases.Reset a m cause e al = record { step = refl; alike = al }
  main_loses phases.Suspended a m cause e al = record { step = refl; alike = al }
  main_loses phases.Dead a m cause e al = record { step = refl; alike = al }

  lost_which : (which : Which) (a m : Machine) (cause : FailCause) → Alike u a m → Same3 (lost a which cause) (lost m which cause)
  lost_which Main a m cause al = subst (λ (p : Phase). Same3 (main_lost p a cause) (main_lost m.phase m cause)) (sym al.phase) (main_loses m.phase a m cause refl al)
  lost_which Ahead a m cause al = ahead_loses a m cause al

  replied_which : (which : Which) (a m : Machine) (place : ℕ) (plain : PlainDisk) (ta tm : Told) (answer : Answer) → Alike u a m → TellsAlike v ta tm → Same3 (replied a place plain ta which answer) (replied m place plain tm which answer)
  replied_which Main a m place plain ta tm answer al t =
      subst (λ (p : Phase). Same3 (served place plain ta (advanced p a answer).0 (advanced p a answer).1) (replied m place plain tm Main answer)) (sym al.phase) (main_moves u v place plain ta tm t m.phase a m answer refl al)
  replied_which Ahead a m place plain ta tm answer al t = ahead_replies a m answer al

pub reply_alike : (u v : Bool) (a m : Machine) (place : ℕ) (plain : PlainDisk) (ta tm : Option Told) (which : Which) (answer : Answer) → Alike u a m → TellsAlike v (told_or ta) (told_or tm) → StepsAlike u v (reply_step a place plain ta which answer) (reply_step m place plain tm which answer)
unfolding reply_step
reply_alike u v a m place plain ta tm which answer al t = replied_which u v which a m place plain (told_or ta) (told_or tm) answer al t

pub lost_alike : (u v : Bool) (a m : Machine) (which : Which) (cause : FailCause) → Alike u a m → StepsAlike u v (lost_step a which cause) (lost_step m which cause)
unfolding lost_step
lost_alike u v a m which cause al = lost_which u v which a m cause al

-- ---- the registers
module _ (u : Bool) where
  abbrev Pointed : Result Ask PointRefusal × Machine → Result Ask PointRefusal × Machine → Type 0
  Pointed p q = (p.0 ≡ q.0) × Alike u p.1 q.1

  pointed_alike : (a m : Machine) (pointer : OrbPointer) → Alike u a m → Pointed (pointed a pointer) (pointed m pointer)
  pointed_alike a m Null al = (refl, al)
  pointed_alike a m (At next) al = (refl, (fetch_same u u a m next).alike)

  point_alike_in : (state : AgentState) (a m : Machine) (pointer : OrbPointer) → Alike u a m → Pointed (point_in state a pointer) (point_in state m pointer)
  point_alike_in states.Reset a m pointer al = pointed_alike a m pointer al
  point_alike_in states.Suspended a m pointer al = pointed_alike a m pointer al
  point_alike_in states.Active a m pointer al = (refl, al)
  point_alike_in states.Dead a m pointer al = (refl, al)

  suspended_listed : (phase : Phase) → state_in phase ≡ states.Suspended → has_list phase ≡ true
  suspended_listed phases.Reset e = cc
  suspended_listed phases.Suspended e = refl
  suspended_listed phases.WritingLastStatus e = cc
  suspended_listed phases.Dead e = cc
  suspended_listed phases.Fetching e = refl
  suspended_listed phases.ReadingTable e = refl
  suspended_listed (phases.ReadingData wanted) e = refl
  suspended_listed phases.Answering e = refl
  suspended_listed phases.WritingStatus e = refl
  suspended_listed phases.ReadingNext e = refl

  abbrev Rung : Ask × Machine → Ask × Machine → Type 0
  Rung p q = (p.0 ≡ q.0) × Alike u p.1 q.1

  rings_in : (state : AgentState) (a m : Machine) → state_in m.phase ≡ state → Alike u a m → Rung (doorbell_in state a) (doorbell_in state m)
  rings_in states.Active a m e al = (
    refl,
    record {
      phase = al.phase;
      flag = al.flag;
      ahead = al.ahead;
      doorbell = λ e. refl;
      present = al.present;
      orb = al.orb;
      aborted = al.aborted;
      payload = al.payload;
      segments = al.segments;
      written = al.written;
      size = al.size;
      answer = al.answer;
      chunk = al.chunk;
      status = al.status;
    },
  )
  rings_in states.Suspended a m e al =
      subst (λ (n : Machine). Rung ((reread_step n).0.ask, (reread_step n).1) ((reread_step m).0.ask, (reread_step m).1)) (sym (late_is u a m al (suspended_listed m.phase e))) (refl, (reread_same u u a m).alike)
  rings_in states.Reset a m e al = (refl, al)
  rings_in states.Dead a m e al = (refl, al)

pub point_alike : (u : Bool) (a m : Machine) (pointer : OrbPointer) → Alike u a m → ((point_step a pointer).0 ≡ (point_step m pointer).0) × Alike u (point_step a pointer).1 (point_step m pointer).1
unfolding point_step
point_alike u a m pointer al =
    subst (λ (p : Phase). Pointed u (point_in (state_in p) a pointer) (point_in (state_in m.phase) m pointer)) (sym al.phase) (point_alike_in u (state_in m.phase) a m pointer al)

pub doorbell_alike : (u : Bool) (a m : Machine) → Alike u a m → ((doorbell_step a).0 ≡ (doorbell_step m).0) × Alike u (doorbell_step a).1 (doorbell_step m).1
unfolding doorbell_step
doorbell_alike u a m al =
    subst (λ (p : Phase). Rung u (doorbell_in (state_in p) a) (doorbell_in (state_in m.phase) m)) (sym al.phase) (rings_in u (state_in m.phase) a m refl al)

-- any two agents in RESET with no read ahead
pub reset_any : (u : Bool) (a m : Machine) → Alike u (reset_step a) (reset_step m)
unfolding reset_step
reset_any u a m = record {
  phase = refl;
  flag = refl;
  ahead = λ e. refl;
  doorbell = λ e. absurd (false≢true e);
  present = λ e. absurd (false≢true e);
  orb = λ e. absurd (false≢true e);
  aborted = λ e. absurd (false≢true e);
  payload = λ e. absurd (false≢true e);
  segments = λ e. absurd (false≢true e);
  written = λ e. absurd (false≢true e);
  size = λ e. absurd (false≢true e);
  answer = λ e. absurd (false≢true e);
  chunk = λ e. absurd (false≢true e);
  status = λ e. absurd (false≢true e);
}

pub abort_alike : (u : Bool) (a m : Machine) (orb : ℕ) → Alike u a m → Alike u (abort_step a orb) (abort_step m orb)
unfolding abort_step
abort_alike u a m orb al = record {
  phase = al.phase;
  flag = al.flag;
  ahead = al.ahead;
  doorbell = al.doorbell;
  present = al.present;
  orb = al.orb;
  aborted = λ e. subst (λ (n : Machine). (n.aborted || (awaits_run n.phase && (n.present == (orb - orb % 4)))) ≡ (m.aborted || (awaits_run m.phase && (m.present == (orb - orb % 4))))) (sym (late_is u a m al e)) refl;
  payload = al.payload;
  segments = al.segments;
  written = al.written;
  size = al.size;
  answer = al.answer;
  chunk = al.chunk;
  status = al.status;
}

pub alike_law : AlikeLaw
alike_law = record {
  replies = λ u v a m place plain ta tm which answer al t. reply_alike u v a m place plain ta tm which answer al t;
  losses = λ u v a m which cause al. lost_alike u v a m which cause al;
  pointers = λ u a m pointer al. point_alike u a m pointer al;
  doorbells = λ u a m al. doorbell_alike u a m al;
  resets = λ u a m al. reset_any u a m;
  aborts = λ u a m orb al. abort_alike u a m orb al;
}
