-- Which ORB an agent has, step by step: one that a response brought of the place where it stands. It has one from the check of it on until its status block was written; and beside it one that was
-- read ahead, of the place that its next pointer names.
use Rattle.sbp_world.proofs.Words.Std.{◌≡◌, refl, sym, ◌∙◌, ap, subst, ℕ, ◌+◌, ◌==◌, length, is_some, Bool, true, false, cond, List, ◌++◌, Option, Some, None, Result, Ok, Err}
use Rattle.sbp_world.proofs.Words.Target.{Phase, ReadAhead, AgentState, AgentStep, Move, Which, Ahead, Main, death_by, reads_table, verdict, Machine, aligned, is_ahead, new_machine, plan_of, state_in, abort_step, advanced, ahead_lost, ahead_of, ahead_read, ahead_step, answer_chunk, answer_grown, checked, check_step, chunk_written, data_grown, data_read, data_step, dead_step, doorbell_in, doorbell_step, elements_read, end_step, fail_step, fetch_step, follow_step, judge_step, judged, lost_step, main_lost, next_read, orb_read, passed_step, point_in, point_step, pointed, quiet, ran_as, reply_step, reread_step, reset_step, run_step, served, table_read, told_or, turn_step, unread_buffer, wait_step, Need, Outcome, Told, need_of, PlainDisk}
use Rattle.sbp_world.proofs.Words.Initiator.{FailCause, CommandOrb, OrbPointer, At, Null, StatusKind, command_orb, pointer_at, Answer, payload_of, write_failure, PageFault, elements_of, first_fault}
use Rattle.command_agent.specs.declared.phase.Phase.TheVariants as phases
use Rattle.command_agent.specs.declared.phase.ReadAhead.TheVariants as aheads
use Rattle.command_agent.specs.declared.step.AgentState.TheVariants as states
use Rattle.command_agent.specs.declared.step.Move.TheVariants as moves
use Rattle.command_agent.specs.Steps.{answer_step, replied, status_written}
use Rattle.orb_layout.specs.declared.ask.FailCause.TheVariants as causes
use Rattle.orb_layout.specs.declared.status.StatusKind.TheVariants as kinds
use Rattle.rbc_disk.specs.declared.command.Need.TheVariants as needs
use Rattle.rbc_disk.specs.declared.command.Outcome.TheVariants as outcomes
use Rattle.sbp_world.proofs.Common.{untrue}

pub yes : {A : Type 0} → true ≡ false → A
yes e = untrue (sym e)

-- ---- what is known of an agent

-- its present ORB was read
abbrev pub has_read : Phase → Bool
has_read phases.ReadingTable = true
has_read (phases.ReadingData wanted) = true
has_read phases.Answering = true
has_read phases.WritingStatus = true
has_read _ = false

-- and has not ended
abbrev pub holds_read : Phase → Bool
holds_read phases.ReadingTable = true
holds_read (phases.ReadingData wanted) = true
holds_read phases.Answering = true
holds_read _ = false

-- an ORB ends so once it was read
abbrev pub ends_read : Option StatusKind → Bool
ends_read None = false
ends_read (Some kinds.Failed) = false
ends_read (Some kind) = true

-- of that a response brought an ORB which stands at an address
module _ (Read : ℕ → CommandOrb → Type 0) where
  pub record Names (next : OrbPointer) : Type 0 where
    pub offset : ℕ
    pub is : next ≡ At offset

  pub record NamesRead (next : OrbPointer) (orb : CommandOrb) : Type 0 where
    pub offset : ℕ
    pub is : next ≡ At offset
    pub read : Read (aligned offset) orb

  abbrev pub ReadAheadOf : OrbPointer → ReadAhead → Type 0
  ReadAheadOf next aheads.Idle = Unit {0}
  ReadAheadOf next (aheads.UnderWay rung) = Names next
  ReadAheadOf next (aheads.Kept orb) = NamesRead next orb

  pub record Reads (m : Machine) : Type 0 where
    pub main : holds_read m.phase ≡ true → Read m.present m.orb
    pub ahead : ReadAheadOf m.orb.next m.ahead
    pub idle : has_read m.phase ≡ false → m.ahead ≡ aheads.Idle

  pub record Stepped (s : AgentStep × Machine) : Type 0 where
    pub reads : Reads s.1
    pub ran : is_some s.0.ran ≡ true → Read s.1.present s.1.orb
    pub ended : ends_read s.0.ended ≡ true → Read s.1.present s.1.orb

  -- and alive with its ORB
  pub record Alive (s : AgentStep × Machine) : Type 0 where
    pub stepped : Stepped s
    pub alive : s.0.dead ≡ None → has_read s.1.phase ≡ true

  null_idle : (next : OrbPointer) (ahead : ReadAhead) → next ≡ Null → ReadAheadOf next ahead → ahead ≡ aheads.Idle
  null_idle next aheads.Idle e h = refl
  null_idle next (aheads.UnderWay rung) e h = absurd (let x : Null ≡ At h.offset = sym e ∙ h.is in cc)
  null_idle next (aheads.Kept orb) e h = absurd (let x : Null ≡ At h.offset = sym e ∙ h.is in cc)

  idle_ahead : (next : OrbPointer) (ahead : ReadAhead) → ahead ≡ aheads.Idle → ReadAheadOf next ahead
  idle_ahead next ahead e = subst (ReadAheadOf next) (sym e) tt

  -- nothing is told
  stands : (step : AgentStep) (m : Machine) → step.ran ≡ None → step.ended ≡ None → Reads m → Stepped (step, m)
  stands step m e f r = record {
    reads = r;
    ran = λ x. untrue (ap is_some (sym e) ∙ x);
    ended = λ x. untrue (ap ends_read (sym f) ∙ x);
  }

  -- ---- an ORB ends

  ends : (m : Machine) (kind : StatusKind) (dead : Option FailCause) → Read m.present m.orb → ReadAheadOf m.orb.next m.ahead → Alive (end_step m kind dead)
  ends m kind None r a = record {
    stepped = record { reads = record { main = λ e. untrue e; ahead = a; idle = λ e. yes e }; ran = λ e. untrue e; ended = λ e. r };
    alive = λ e. refl;
  }
  ends m kind (Some cause) r a = record {
    stepped = record { reads = record { main = λ e. untrue e; ahead = tt; idle = λ e. refl }; ran = λ e. untrue e; ended = λ e. r };
    alive = λ e. absurd (let x : Some cause ≡ None = e in cc);
  }

  fails : (m : Machine) (cause : FailCause) → Stepped (fail_step m cause)
  fails m cause = record { reads = record { main = λ e. untrue e; ahead = tt; idle = λ e. refl }; ran = λ e. untrue e; ended = λ e. untrue e }

  dies : (m : Machine) (cause : FailCause) → Stepped (dead_step m cause)
  dies m cause = record { reads = record { main = λ e. untrue e; ahead = tt; idle = λ e. refl }; ran = λ e. untrue e; ended = λ e. untrue e }

  fetches : (m : Machine) (next : ℕ) → Stepped (fetch_step m next)
  fetches m next = record { reads = record { main = λ e. untrue e; ahead = tt; idle = λ e. refl }; ran = λ e. untrue e; ended = λ e. untrue e }

  rereads : (m : Machine) → m.ahead ≡ aheads.Idle → Stepped (reread_step m)
  rereads m e = record { reads = record { main = λ x. untrue x; ahead = idle_ahead m.orb.next m.ahead e; idle = λ x. e }; ran = λ x. untrue x; ended = λ x. untrue x }

  pick : (b : Bool) (x y : AgentStep × Machine) → Stepped x → Stepped y → Stepped (cond b x y)
  pick true x y h k = h
  pick false x y h k = k

  pick_alive : (b : Bool) (x y : AgentStep × Machine) → Alive x → Alive y → Alive (cond b x y)
  pick_alive true x y h k = h
  pick_alive false x y h k = k

  -- ---- what an ORB that was read asks for

  fills : (m : Machine) (wanted : ℕ) → Read m.present m.orb → ReadAheadOf m.orb.next m.ahead → Alive (data_step m wanted)
  fills m wanted r a = record {
    stepped = record { reads = record { main = λ e. r; ahead = a; idle = λ e. yes e }; ran = λ e. untrue e; ended = λ e. untrue e };
    alive = λ e. refl;
  }

  answers : (m : Machine) → Read m.present m.orb → ReadAheadOf m.orb.next m.ahead → Alive (answer_step m)
  answers m r a = record {
    stepped = record { reads = record { main = λ e. r; ahead = a; idle = λ e. yes e }; ran = λ e. untrue e; ended = λ e. untrue e };
    alive = λ e. refl;
  }

  ran_alive : (m : Machine) (outcome : Outcome) → Read m.present m.orb → ReadAheadOf m.orb.next m.ahead → Alive (ran_as m outcome)
  ran_alive m (outcomes.Check sense) r a = ends m (kinds.Check sense) None r a
  ran_alive m (outcomes.Good len) r a = pick_alive (len == 0) (end_step m kinds.Good None) (answer_step m) (ends m kinds.Good None r a) (answers m r a)

  ran_same : (m : Machine) (outcome : Outcome) → Read m.present m.orb → Read (ran_as m outcome).1.present (ran_as m outcome).1.orb
  ran_same m (outcomes.Check sense) r = r
  ran_same m (outcomes.Good len) r = by (len == 0)
    where
      by : (b : Bool) → Read (cond b (end_step m kinds.Good None) (answer_step m)).1.present (cond b (end_step m kinds.Good None) (answer_step m)).1.orb
      by true = r
      by false = r

  runs : (m : Machine) (told : Told) → Read m.present m.orb → ReadAheadOf m.orb.next m.ahead → Alive (run_step m told)
  runs m told r a =
      let n = record m { answer = told.answer; written = 0 } in
      let k = ran_alive n told.outcome r a in
      record {
        stepped = record { reads = k.stepped.reads; ran = λ e. ran_same n told.outcome r; ended = k.stepped.ended };
        alive = k.alive;
      }

  judges_by : (m : Machine) (told : Told) (need : Need) → Read m.present m.orb → ReadAheadOf m.orb.next m.ahead → Alive (judged m told need)
  judges_by m told needs.RunNow r a = runs m told r a
  judges_by m told (needs.Payload len) r a = fills m len r a

  judges : (m : Machine) (place : ℕ) (plain : PlainDisk) (told : Told) → Read m.present m.orb → ReadAheadOf m.orb.next m.ahead → Alive (judge_step m place plain told)
  judges m place plain told r a = judges_by m told (need_of m.orb.cdb (plan_of m) plain place) r a

  tables : (m : Machine) (step : AgentStep) → step.ran ≡ None → step.ended ≡ None → Read m.present m.orb → ReadAheadOf m.orb.next m.ahead → Alive (step, record m { phase = phases.ReadingTable })
  tables m step e f r a = record {
    stepped = stands step (record m { phase = phases.ReadingTable }) e f (record { main = λ x. r; ahead = a; idle = λ x. yes x });
    alive = λ x. refl;
  }

  passes : (m : Machine) (place : ℕ) (plain : PlainDisk) (told : Told) → Read m.present m.orb → ReadAheadOf m.orb.next m.ahead → Alive (passed_step m place plain told)
  passes m place plain told r a =
      pick_alive (reads_table m.orb) _ (judge_step (record m { segments = unread_buffer m.orb }) place plain told) (tables m _ refl refl r a) (judges (record m { segments = unread_buffer m.orb }) place plain told r a)

  checks : (m : Machine) (place : ℕ) (plain : PlainDisk) (told : Told) → Read m.present m.orb → ReadAheadOf m.orb.next m.ahead → Alive (check_step m place plain told)
  checks m place plain told r a = by (verdict m.orb m.aborted)
    where
      by : (kind : Option StatusKind) → Alive (checked m place plain told kind)
      by (Some kind) = ends m kind (death_by kind) r a
      by None = passes m place plain told r a

  -- behind that an ORB is read ahead
  aheads_by : (dead : Option FailCause) (next : OrbPointer) (s : AgentStep × Machine) → s.0.dead ≡ dead → s.1.orb.next ≡ next → Alive s → Stepped (ahead_of dead next s)
  aheads_by None (At next) s e f h = record {
    reads = record {
      main = h.stepped.reads.main;
      ahead = record { offset = next; is = f };
      idle = λ x. yes (sym (h.alive e) ∙ x);
    };
    ran = h.stepped.ran;
    ended = h.stepped.ended;
  }
  aheads_by None Null s e f h = h.stepped
  aheads_by (Some cause) next s e f h = h.stepped

  -- ---- where a reply leads

  pub record MayCheck (m : Machine) : Type 0 where
    pub read : Read m.present m.orb
    pub ahead : ReadAheadOf m.orb.next m.ahead

  abbrev Moved : Move × Machine → Type 0
  Moved (moves.Send step, m) = Stepped (step, m)
  Moved (moves.Check, m) = MayCheck m
  Moved (moves.Judge, m) = MayCheck m
  Moved (moves.Run, m) = MayCheck m

  serves : (place : ℕ) (plain : PlainDisk) (told : Told) (move : Move) (m : Machine) → Moved (move, m) → Stepped (served place plain told move m)
  serves place plain told (moves.Send step) m h = h
  serves place plain told moves.Check m h =
      let s = check_step m place plain told in aheads_by s.0.dead s.1.orb.next s refl refl (checks m place plain told h.read h.ahead)
  serves place plain told moves.Judge m h = (judges m place plain told h.read h.ahead).stepped
  serves place plain told moves.Run m h = (runs m told h.read h.ahead).stepped

  pick_move : (b : Bool) (x y : Move × Machine) → Moved x → Moved y → Moved (cond b x y)
  pick_move true x y h k = h
  pick_move false x y h k = k

  turns : (m : Machine) (next : ℕ) (ahead : ReadAhead) → m.orb.next ≡ At next → ReadAheadOf m.orb.next ahead → Moved (turn_step m next ahead)
  turns m next aheads.Idle e h = fetches m next
  turns m next (aheads.UnderWay rung) e h = record { reads = record { main = λ x. untrue x; ahead = tt; idle = λ x. refl }; ran = λ x. untrue x; ended = λ x. untrue x }
  turns m next (aheads.Kept orb) e h =
      let same : h.offset ≡ next = (let x : At h.offset ≡ At next = sym h.is ∙ e in cc) in
      record { read = subst (λ n. Read (aligned n) orb) same h.read; ahead = tt }

  waits : (m : Machine) → m.ahead ≡ aheads.Idle → Stepped (wait_step m)
  waits m e =
      pick m.doorbell (reread_step m) (quiet, record m { phase = phases.Suspended }) (rereads m e)
      (record { reads = record { main = λ x. untrue x; ahead = idle_ahead m.orb.next m.ahead e; idle = λ x. e }; ran = λ x. untrue x; ended = λ x. untrue x })

  goes_on : (m : Machine) (next : OrbPointer) → m.orb.next ≡ next → ReadAheadOf m.orb.next m.ahead → Moved (follow_step m next)
  goes_on m (At next) e h = turns m next m.ahead e h
  goes_on m Null e h = waits m (null_idle m.orb.next m.ahead e h)

  status_goes : (m : Machine) (cause : Option FailCause) → ReadAheadOf m.orb.next m.ahead → Moved (status_written m cause)
  status_goes m (Some cause) h = dies m cause
  status_goes m None h = goes_on m m.orb.next refl h

  next_goes : (m : Machine) (r : Result (List ℕ) FailCause) → m.ahead ≡ aheads.Idle → Moved (next_read m r)
  next_goes m (Err cause) e = dies m cause
  next_goes m (Ok bytes) e =
      let next = pointer_at bytes 0 in
      let n = record m { orb = record m.orb { next = next } } in
      goes_on n next refl (idle_ahead next m.ahead e)

  orb_goes : (m : Machine) (r : Result (List ℕ) FailCause) → m.ahead ≡ aheads.Idle → ((bytes : List ℕ) → r ≡ Ok bytes → Read m.present (command_orb bytes)) → Moved (orb_read m r)
  orb_goes m (Err cause) e h = fails m cause
  orb_goes m (Ok bytes) e h = record { read = h bytes refl; ahead = idle_ahead (command_orb bytes).next m.ahead e }

  elements_go : (m : Machine) (bytes : List ℕ) (fault : Option PageFault) → Read m.present m.orb → ReadAheadOf m.orb.next m.ahead → Moved (elements_read m bytes fault)
  elements_go m bytes (Some fault) r a = (ends m (kinds.Illegal 0xff) (Some causes.Grammar) r a).stepped
  elements_go m bytes None r a = record { read = r; ahead = a }

  table_goes : (m : Machine) (x : Result (List ℕ) FailCause) → Read m.present m.orb → ReadAheadOf m.orb.next m.ahead → Moved (table_read m x)
  table_goes m (Err cause) r a = fails m cause
  table_goes m (Ok bytes) r a =
      pick_move m.aborted (moves.Send (end_step m kinds.Aborted None).0, (end_step m kinds.Aborted None).1) (elements_read m bytes (first_fault 0 (elements_of bytes)))
      (ends m kinds.Aborted None r a).stepped (elements_go m bytes (first_fault 0 (elements_of bytes)) r a)

  grown_goes : (m : Machine) (wanted : ℕ) → Read m.present m.orb → ReadAheadOf m.orb.next m.ahead → Moved (data_grown m wanted)
  grown_goes m wanted r a = pick_move (length m.payload == wanted) (moves.Run, m) (moves.Send (data_step m wanted).0, (data_step m wanted).1) (record { read = r; ahead = a }) (fills m wanted r a).stepped

  data_goes : (m : Machine) (wanted : ℕ) (x : Result (List ℕ) FailCause) → Read m.present m.orb → ReadAheadOf m.orb.next m.ahead → Moved (data_read m wanted x)
  data_goes m wanted (Err cause) r a = fails m cause
  data_goes m wanted (Ok bytes) r a =
      pick_move m.aborted (moves.Send (end_step m kinds.Aborted None).0, (end_step m kinds.Aborted None).1) (data_grown (record m { payload = m.payload ++ bytes }) wanted)
      (ends m kinds.Aborted None r a).stepped (grown_goes (record m { payload = m.payload ++ bytes }) wanted r a)

  grows : (m : Machine) → Read m.present m.orb → ReadAheadOf m.orb.next m.ahead → Moved (answer_grown m)
  grows m r a = by (m.written == length m.answer)
    where
      by : (b : Bool) → Stepped ((cond b (end_step m kinds.Good None) (answer_step m)).0, (cond b (end_step m kinds.Good None) (answer_step m)).1)
      by true = (ends m kinds.Good None r a).stepped
      by false = (answers m r a).stepped

  chunk_goes : (m : Machine) (cause : Option FailCause) → Read m.present m.orb → ReadAheadOf m.orb.next m.ahead → Moved (chunk_written m cause)
  chunk_goes m (Some cause) r a = fails m cause
  chunk_goes m None r a = grows (record m { written = m.written + answer_chunk m }) r a

  quiet_step : (m : Machine) (phase : Phase) → holds_read phase ≡ false → ReadAheadOf m.orb.next m.ahead → m.ahead ≡ aheads.Idle → Stepped (quiet, record m { phase = phase })
  quiet_step m phase e a f = stands quiet (record m { phase = phase }) refl refl (record { main = λ x. untrue (sym e ∙ x); ahead = a; idle = λ x. f })

  -- what comes of a reply to the main transaction, where an ORB that is read was brought
  goes : (phase : Phase) (m : Machine) (answer : Answer) → Reads (record m { phase = phase }) → (phase ≡ phases.Fetching → (bytes : List ℕ) → payload_of answer 32 ≡ Ok bytes → Read m.present (command_orb bytes)) → Moved (advanced phase (record m { phase = phase }) answer)
  goes phases.Fetching m answer h brings = orb_goes (record m { phase = phases.Fetching }) (payload_of answer 32) (h.idle refl) (brings refl)
  goes phases.ReadingTable m answer h brings = table_goes (record m { phase = phases.ReadingTable }) _ (h.main refl) h.ahead
  goes (phases.ReadingData wanted) m answer h brings = data_goes (record m { phase = phases.ReadingData wanted }) wanted _ (h.main refl) h.ahead
  goes phases.Answering m answer h brings = chunk_goes (record m { phase = phases.Answering }) (write_failure answer) (h.main refl) h.ahead
  goes phases.WritingStatus m answer h brings = status_goes (record m { phase = phases.WritingStatus }) (write_failure answer) h.ahead
  goes phases.ReadingNext m answer h brings = next_goes (record m { phase = phases.ReadingNext }) (payload_of answer 8) (h.idle refl)
  goes phases.WritingLastStatus m answer h brings = quiet_step m phases.Dead refl h.ahead (h.idle refl)
  goes phases.Reset m answer h brings = stands quiet (record m { phase = phases.Reset }) refl refl h
  goes phases.Suspended m answer h brings = stands quiet (record m { phase = phases.Suspended }) refl refl h
  goes phases.Dead m answer h brings = stands quiet (record m { phase = phases.Dead }) refl refl h

  -- ---- the read ahead

  forgets : (m : Machine) (cause : FailCause) → Reads m → Stepped (ahead_lost m cause)
  forgets m cause h = record { reads = record { main = h.main; ahead = tt; idle = λ x. refl }; ran = λ x. untrue x; ended = λ x. untrue x }

  keeps_ahead : (next : OrbPointer) (ahead : ReadAhead) → is_ahead ahead ≡ true → ReadAheadOf next ahead → Names next
  keeps_ahead next aheads.Idle e h = untrue e
  keeps_ahead next (aheads.UnderWay rung) e h = h
  keeps_ahead next (aheads.Kept orb) e h = untrue e

  not_idle : (ahead : ReadAhead) → is_ahead ahead ≡ true → ahead ≡ aheads.Idle → ⊥
  not_idle ahead e f = untrue (sym (ap is_ahead f) ∙ e)

  ahead_goes : (m : Machine) (r : Result (List ℕ) FailCause) → is_ahead m.ahead ≡ true → Reads m → ((offset : ℕ) → m.orb.next ≡ At offset → (bytes : List ℕ) → r ≡ Ok bytes → Read (aligned offset) (command_orb bytes)) → Stepped (ahead_read m r)
  ahead_goes m (Err cause) e h brings = forgets m cause h
  ahead_goes m (Ok bytes) e h brings =
      let n = keeps_ahead m.orb.next m.ahead e h.ahead in
      record {
        reads = record {
          main = h.main;
          ahead = record { offset = n.offset; is = n.is; read = brings n.offset n.is bytes refl };
          idle = λ x. absurd (not_idle m.ahead e (h.idle x));
        };
        ran = λ x. untrue x;
        ended = λ x. untrue x;
      }

  -- ---- each step

  main_replies : (m : Machine) (place : ℕ) (plain : PlainDisk) (told : Told) (answer : Answer) → Reads m → (m.phase ≡ phases.Fetching → (bytes : List ℕ) → payload_of answer 32 ≡ Ok bytes → Read m.present (command_orb bytes)) → Stepped (replied m place plain told Main answer)
  main_replies m place plain told answer h brings =
      let r = advanced m.phase m answer in
      serves place plain told r.0 r.1 (goes m.phase m answer h brings)

  pub reply_steps : (m : Machine) (place : ℕ) (plain : PlainDisk) (told : Option Told) (which : Which) (answer : Answer) → Reads m → (which ≡ Main → m.phase ≡ phases.Fetching → (bytes : List ℕ) → payload_of answer 32 ≡ Ok bytes → Read m.present (command_orb bytes)) → (which ≡ Ahead → is_ahead m.ahead ≡ true → (offset : ℕ) → m.orb.next ≡ At offset → (bytes : List ℕ) → payload_of answer 32 ≡ Ok bytes → Read (aligned offset) (command_orb bytes)) → Stepped (reply_step m place plain told which answer)
  unfolding reply_step
  reply_steps m place plain told Main answer h brings other = main_replies m place plain (told_or told) answer h (brings refl)
  reply_steps m place plain told Ahead answer h brings other = by (is_ahead m.ahead) refl
    where
      by : (b : Bool) → is_ahead m.ahead ≡ b → Stepped (cond b (ahead_step m answer) (quiet, m))
      by true e = ahead_goes m (payload_of answer 32) e h (other refl e)
      by false e = stands quiet m refl refl h

  main_loses : (phase : Phase) (m : Machine) (cause : FailCause) → Reads (record m { phase = phase }) → Stepped (main_lost phase (record m { phase = phase }) cause)
  main_loses phases.Fetching m cause h = fails (record m { phase = phases.Fetching }) cause
  main_loses phases.ReadingTable m cause h = fails (record m { phase = phases.ReadingTable }) cause
  main_loses (phases.ReadingData wanted) m cause h = fails (record m { phase = phases.ReadingData wanted }) cause
  main_loses phases.Answering m cause h = fails (record m { phase = phases.Answering }) cause
  main_loses phases.WritingStatus m cause h = dies (record m { phase = phases.WritingStatus }) cause
  main_loses phases.ReadingNext m cause h = dies (record m { phase = phases.ReadingNext }) cause
  main_loses phases.WritingLastStatus m cause h = quiet_step m phases.Dead refl h.ahead (h.idle refl)
  main_loses phases.Reset m cause h = stands quiet (record m { phase = phases.Reset }) refl refl h
  main_loses phases.Suspended m cause h = stands quiet (record m { phase = phases.Suspended }) refl refl h
  main_loses phases.Dead m cause h = stands quiet (record m { phase = phases.Dead }) refl refl h

  pub lost_steps : (m : Machine) (which : Which) (cause : FailCause) → Reads m → Stepped (lost_step m which cause)
  unfolding lost_step
  lost_steps m Main cause h = main_loses m.phase m cause h
  lost_steps m Ahead cause h = by (is_ahead m.ahead)
    where
      by : (b : Bool) → Stepped (cond b (ahead_lost m cause) (quiet, m))
      by true = forgets m cause h
      by false = stands quiet m refl refl h

  pub reset_reads : (m : Machine) → Reads (reset_step m)
  unfolding reset_step
  reset_reads m = record { main = λ x. untrue x; ahead = tt; idle = λ x. refl }

  pub abort_reads : (m : Machine) (orb : ℕ) → Reads m → Reads (abort_step m orb)
  unfolding abort_step
  abort_reads m orb h = record { main = h.main; ahead = h.ahead; idle = h.idle }

  -- ---- its registers

  pointed_reads : (m : Machine) (pointer : OrbPointer) → Reads m → Reads (pointed m pointer).1
  pointed_reads m Null h = h
  pointed_reads m (At next) h = (fetches m next).reads

  points_in : (state : AgentState) (m : Machine) (pointer : OrbPointer) → Reads m → Reads (point_in state m pointer).1
  points_in states.Reset m pointer h = pointed_reads m pointer h
  points_in states.Suspended m pointer h = pointed_reads m pointer h
  points_in states.Active m pointer h = h
  points_in states.Dead m pointer h = h

  pub point_reads : (m : Machine) (pointer : OrbPointer) → Reads m → Reads (point_step m pointer).1
  unfolding point_step
  point_reads m pointer h = points_in (state_in m.phase) m pointer h

  bell_in : (phase : Phase) (m : Machine) → Reads (record m { phase = phase }) → Reads (doorbell_in (state_in phase) (record m { phase = phase })).1
  bell_in phases.Reset m h = h
  bell_in phases.Dead m h = h
  bell_in phases.WritingLastStatus m h = h
  bell_in phases.Suspended m h = (rereads (record m { phase = phases.Suspended }) (h.idle refl)).reads
  bell_in phases.Fetching m h = record { main = h.main; ahead = h.ahead; idle = h.idle }
  bell_in phases.ReadingTable m h = record { main = h.main; ahead = h.ahead; idle = h.idle }
  bell_in (phases.ReadingData wanted) m h = record { main = h.main; ahead = h.ahead; idle = h.idle }
  bell_in phases.Answering m h = record { main = h.main; ahead = h.ahead; idle = h.idle }
  bell_in phases.WritingStatus m h = record { main = h.main; ahead = h.ahead; idle = h.idle }
  bell_in phases.ReadingNext m h = record { main = h.main; ahead = h.ahead; idle = h.idle }

  pub bell_reads : (m : Machine) → Reads m → Reads (doorbell_step m).1
  unfolding doorbell_step
  bell_reads m h = bell_in m.phase m h

  pub new_reads : Reads new_machine
  new_reads = record { main = λ x. untrue x; ahead = tt; idle = λ x. refl }
