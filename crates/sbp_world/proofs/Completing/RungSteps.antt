-- An agent that was rung goes on, step by step: its doorbell mark is set; or what it reads of its list was asked for since; or its present ORB has a next one, and an ORB that it read ahead too. So it rests only
-- at an ORB of which a read that was asked for since brought a null pointer.
use Rattle.sbp_world.proofs.Words.Std.{◌≡◌, ◌∙◌, ◌⊎◌, inl, inr, refl, sym, ap, subst, ℕ, ◌+◌, ◌==◌, ◌&&◌, ◌||◌, length, Bool, true, false, cond, List, ◌++◌, Option, Some, None, Result, Ok, Err}
use Rattle.sbp_world.proofs.Words.Target.{Phase, ReadAhead, aligned, AgentState, AgentStep, PointRefusal, Move, Ahead, Main, death_by, reads_table, verdict, Machine, is_ahead, new_machine, plan_of, state_in, abort_step, advanced, ahead_lost, ahead_of, ahead_read, ahead_step, answer_chunk, answer_grown, checked, check_step, chunk_written, data_grown, data_read, data_step, dead_step, doorbell_in, doorbell_step, elements_read, end_step, fail_step, fetch_step, follow_step, judge_step, judged, lost_step, main_lost, next_read, orb_read, passed_step, point_in, point_step, pointed, quiet, ran_as, reply_step, reread_step, reset_step, run_step, served, table_read, told_or, turn_step, unread_buffer, wait_step, Need, Outcome, Told, need_of, PlainDisk}
use Rattle.sbp_world.proofs.Words.Initiator.{Ask, FailCause, OrbPointer, At, Null, StatusKind, command_orb, pointer_at, Answer, payload_of, write_failure, PageFault, elements_of, first_fault}
use Rattle.sbp_world.proofs.Words.Laws.{is_nothing}
use Rattle.command_agent.specs.declared.phase.Phase.TheVariants as phases
use Rattle.command_agent.specs.declared.phase.ReadAhead.TheVariants as aheads
use Rattle.command_agent.specs.declared.step.AgentState.TheVariants as states
use Rattle.command_agent.specs.declared.step.Move.TheVariants as moves
use Rattle.command_agent.specs.Machine.{rung_in}
use Rattle.command_agent.specs.Steps.{answer_step, is_label, status_written}
use Rattle.orb_layout.specs.declared.ask.FailCause.TheVariants as causes
use Rattle.orb_layout.specs.declared.status.StatusKind.TheVariants as kinds
use Rattle.rbc_disk.specs.declared.command.Need.TheVariants as needs
use Rattle.rbc_disk.specs.declared.command.Outcome.TheVariants as outcomes
use Rattle.sbp_world.proofs.Common.{untrue}
use Rattle.sbp_world.proofs.Lists.OrbSteps.{has_read, yes}

-- ORBs of which a null pointer was brought since
module _ (Last : ℕ → Type 0) where
  -- ---- what is known of an agent
  -- the next pointer of the ORB at an address: it names an ORB, or the ORB is known to be a last one
  abbrev pub Leads : (address : ℕ) → OrbPointer → Type 0
  Leads address Null = Last address
  Leads address (At offset) = Unit {0}

  -- that of the ORB that a next pointer names
  abbrev pub LeadsOn : (next : OrbPointer) → OrbPointer → Type 0
  LeadsOn Null after = Unit {0}
  LeadsOn (At offset) after = Leads (aligned offset) after

  -- what is read ahead: the read was asked for since, or the ORB has a next one, or is known to be a last one
  abbrev pub AheadGoes : Type 0 → (next : OrbPointer) → ReadAhead → Type 0
  AheadGoes Young next aheads.Idle = Unit {0}
  AheadGoes Young next (aheads.UnderWay rung) = Young
  AheadGoes Young next (aheads.Kept orb) = LeadsOn next orb.next

  -- the mark is set, or the present ORB, which was read, has a next one, or is known to be a last one
  abbrev pub GoesOn : Type 0 → (bell : Bool) → (present : ℕ) → OrbPointer → ReadAhead → Type 0
  GoesOn Young bell present next ahead = (bell ≡ true) ⊎ (Leads present next × AheadGoes Young next ahead)

  -- by its phase, where its main read was asked for since, or its read ahead
  abbrev pub GoesIn : Phase → (Own Young : Type 0) → Machine → Type 0
  GoesIn phases.Suspended Own Young m = Last m.present
  GoesIn phases.Fetching Own Young m = (m.doorbell ≡ true) ⊎ Own
  GoesIn phases.ReadingNext Own Young m = (m.doorbell ≡ true) ⊎ Own
  GoesIn phases.ReadingTable Own Young m = GoesOn Young m.doorbell m.present m.orb.next m.ahead
  GoesIn (phases.ReadingData wanted) Own Young m = GoesOn Young m.doorbell m.present m.orb.next m.ahead
  GoesIn phases.Answering Own Young m = GoesOn Young m.doorbell m.present m.orb.next m.ahead
  GoesIn phases.WritingStatus Own Young m = GoesOn Young m.doorbell m.present m.orb.next m.ahead
  GoesIn phase Own Young m = Unit {0}

  -- nothing is read ahead while no ORB was read, or the present one is the last
  pub record Goes (Own Young : Type 0) (m : Machine) : Type 0 where
    pub by_phase : GoesIn m.phase Own Young m
    pub idle : has_read m.phase ≡ false → m.ahead ≡ aheads.Idle
    pub last : m.orb.next ≡ Null → m.ahead ≡ aheads.Idle

  in_read : (Own Young : Type 0) (phase : Phase) (m : Machine) → has_read phase ≡ true → GoesOn Young m.doorbell m.present m.orb.next m.ahead → GoesIn phase Own Young m
  in_read Own Young phases.ReadingTable m e g = g
  in_read Own Young (phases.ReadingData wanted) m e g = g
  in_read Own Young phases.Answering m e g = g
  in_read Own Young phases.WritingStatus m e g = g
  in_read Own Young phases.Reset m e g = untrue e
  in_read Own Young phases.Suspended m e g = untrue e
  in_read Own Young phases.Fetching m e g = untrue e
  in_read Own Young phases.ReadingNext m e g = untrue e
  in_read Own Young phases.WritingLastStatus m e g = untrue e
  in_read Own Young phases.Dead m e g = untrue e

  of_read : (Own Young : Type 0) (phase : Phase) (m : Machine) → has_read phase ≡ true → GoesIn phase Own Young m → GoesOn Young m.doorbell m.present m.orb.next m.ahead
  of_read Own Young phases.ReadingTable m e g = g
  of_read Own Young (phases.ReadingData wanted) m e g = g
  of_read Own Young phases.Answering m e g = g
  of_read Own Young phases.WritingStatus m e g = g
  of_read Own Young phases.Reset m e g = untrue e
  of_read Own Young phases.Suspended m e g = untrue e
  of_read Own Young phases.Fetching m e g = untrue e
  of_read Own Young phases.ReadingNext m e g = untrue e
  of_read Own Young phases.WritingLastStatus m e g = untrue e
  of_read Own Young phases.Dead m e g = untrue e

  -- where more reads were asked for since
  wider_on : (Young More : Type 0) → (Young → More) → (bell : Bool) (present : ℕ) (next : OrbPointer) (ahead : ReadAhead) → GoesOn Young bell present next ahead → GoesOn More bell present next ahead
  wider_on Young More f bell present next ahead (inl e) = inl e
  wider_on Young More f bell present next aheads.Idle (inr h) = inr h
  wider_on Young More f bell present next (aheads.UnderWay rung) (inr h) = inr (h.0, f h.1)
  wider_on Young More f bell present next (aheads.Kept orb) (inr h) = inr h

  wider_in : (Own Young Other More : Type 0) → (Own → Other) → (Young → More) → (phase : Phase) (m : Machine) → GoesIn phase Own Young m → GoesIn phase Other More m
  wider_in Own Young Other More f g phases.Suspended m h = h
  wider_in Own Young Other More f g phases.Fetching m (inl e) = inl e
  wider_in Own Young Other More f g phases.Fetching m (inr x) = inr (f x)
  wider_in Own Young Other More f g phases.ReadingNext m (inl e) = inl e
  wider_in Own Young Other More f g phases.ReadingNext m (inr x) = inr (f x)
  wider_in Own Young Other More f g phases.ReadingTable m h = wider_on Young More g m.doorbell m.present m.orb.next m.ahead h
  wider_in Own Young Other More f g (phases.ReadingData wanted) m h = wider_on Young More g m.doorbell m.present m.orb.next m.ahead h
  wider_in Own Young Other More f g phases.Answering m h = wider_on Young More g m.doorbell m.present m.orb.next m.ahead h
  wider_in Own Young Other More f g phases.WritingStatus m h = wider_on Young More g m.doorbell m.present m.orb.next m.ahead h
  wider_in Own Young Other More f g phases.Reset m h = tt
  wider_in Own Young Other More f g phases.Dead m h = tt
  wider_in Own Young Other More f g phases.WritingLastStatus m h = tt

  pub wider : (Own Young Other More : Type 0) → (Own → Other) → (Young → More) → (m : Machine) → Goes Own Young m → Goes Other More m
  wider Own Young Other More f g m h = record { by_phase = wider_in Own Young Other More f g m.phase m h.by_phase; idle = h.idle; last = h.last }

  -- ---- behind a step its main read was asked for in it, or was its read ahead
  module _ (Young : Type 0) where
    abbrev pub OwnOf : Bool → Type 0
    OwnOf true = Young
    OwnOf false = Unit {0}

    -- and so was its read ahead, where the step asks for one
    pub record Went (s : AgentStep × Machine) : Type 0 where
      pub goes : Goes (OwnOf s.0.promoted) Young s.1
      pub looks : is_nothing s.0.ahead ≡ false → Young

    -- of one whose ORB was read
    record Has (m : Machine) : Type 0 where
      goes : GoesOn Young m.doorbell m.present m.orb.next m.ahead
      last : m.orb.next ≡ Null → m.ahead ≡ aheads.Idle

    record Alive (s : AgentStep × Machine) : Type 0 where
      went : Went s
      alive : s.0.dead ≡ None → has_read s.1.phase ≡ true

    pick_alive : (b : Bool) (x y : AgentStep × Machine) → Alive x → Alive y → Alive (cond b x y)
    pick_alive true x y h k = h
    pick_alive false x y h k = k

    ends : (m : Machine) (kind : StatusKind) (dead : Option FailCause) → Has m → Alive (end_step m kind dead)
    ends m kind None h = record { went = record { goes = record { by_phase = h.goes; idle = λ e. yes e; last = h.last }; looks = λ x. yes x }; alive = λ e. refl }
    ends m kind (Some cause) h = record { went = record { goes = record { by_phase = tt; idle = λ e. refl; last = λ e. refl }; looks = λ x. yes x }; alive = λ e. absurd (let x : Some cause ≡ None = e in cc) }

    fails : (m : Machine) (cause : FailCause) → Went (fail_step m cause)
    fails m cause = record { goes = record { by_phase = tt; idle = λ e. refl; last = λ e. refl }; looks = λ x. yes x }

    dies : (m : Machine) (cause : FailCause) → Went (dead_step m cause)
    dies m cause = record { goes = record { by_phase = tt; idle = λ e. refl; last = λ e. refl }; looks = λ x. yes x }

    fetches : (m : Machine) (next : ℕ) → Went (fetch_step m next)
    fetches m next = record { goes = record { by_phase = inr tt; idle = λ e. refl; last = λ e. refl }; looks = λ x. yes x }

    rereads : (m : Machine) → m.ahead ≡ aheads.Idle → Went (reread_step m)
    rereads m e = record { goes = record { by_phase = inr tt; idle = λ x. e; last = λ x. e }; looks = λ x. yes x }

    fills : (m : Machine) (wanted : ℕ) → Has m → Alive (data_step m wanted)
    fills m wanted h = record { went = record { goes = record { by_phase = h.goes; idle = λ e. yes e; last = h.last }; looks = λ x. yes x }; alive = λ e. refl }

    answers : (m : Machine) → Has m → Alive (answer_step m)
    answers m h = record { went = record { goes = record { by_phase = h.goes; idle = λ e. yes e; last = h.last }; looks = λ x. yes x }; alive = λ e. refl }

    ran_alive : (m : Machine) (outcome : Outcome) → Has m → Alive (ran_as m outcome)
    ran_alive m (outcomes.Check sense) h = ends m (kinds.Check sense) None h
    ran_alive m (outcomes.Good len) h = pick_alive (len == 0) (end_step m kinds.Good None) (answer_step m) (ends m kinds.Good None h) (answers m h)

    runs : (m : Machine) (told : Told) → Has m → Alive (run_step m told)
    runs m told h = let k = ran_alive (record m { answer = told.answer; written = 0 }) told.outcome (record { goes = h.goes; last = h.last }) in record { went = record { goes = k.went.goes; looks = k.went.looks }; alive = k.alive }

    judges_by : (m : Machine) (told : Told) (need : Need) → Has m → Alive (judged m told need)
    judges_by m told needs.RunNow h = runs m told h
    judges_by m told (needs.Payload len) h = fills m len h

    judges : (m : Machine) (place : ℕ) (plain : PlainDisk) (told : Told) → Has m → Alive (judge_step m place plain told)
    judges m place plain told h = judges_by m told (need_of m.orb.cdb (plan_of m) plain place) h

    passes : (m : Machine) (place : ℕ) (plain : PlainDisk) (told : Told) → Has m → Alive (passed_step m place plain told)
    passes m place plain told h =
        pick_alive (reads_table m.orb) _ (judge_step (record m { segments = unread_buffer m.orb }) place plain told)
        (record { went = record { goes = record { by_phase = h.goes; idle = λ e. yes e; last = h.last }; looks = λ x. yes x }; alive = λ e. refl })
        (judges (record m { segments = unread_buffer m.orb }) place plain told (record { goes = h.goes; last = h.last }))

    checks : (m : Machine) (place : ℕ) (plain : PlainDisk) (told : Told) → Has m → Alive (check_step m place plain told)
    checks m place plain told h = by (verdict m.orb m.aborted)
      where
        by : (kind : Option StatusKind) → Alive (checked m place plain told kind)
        by (Some kind) = ends m kind (death_by kind) h
        by None = passes m place plain told h

    -- behind that an ORB is read ahead
    aheads_by : (dead : Option FailCause) (next : OrbPointer) (s : AgentStep × Machine) → s.0.dead ≡ dead → s.1.orb.next ≡ next → Young → Alive s → Went (ahead_of dead next s)
    aheads_by None (At next) s e f young h =
        let m : Machine = record s.1 { ahead = aheads.UnderWay s.1.doorbell; doorbell = false } in
        record {
          goes = record {
            by_phase = in_read (OwnOf s.0.promoted) Young s.1.phase m (h.alive e) (inr (subst (Leads s.1.present) (sym f) tt, young));
            idle = λ x. yes (sym (h.alive e) ∙ x);
            last = λ x. absurd (let no : At next ≡ Null = sym f ∙ x in cc);
          };
          looks = λ x. young;
        }
    aheads_by None Null s e f young h = h.went
    aheads_by (Some cause) next s e f young h = h.went

    -- ---- where a reply leads
    record MayCheck (m : Machine) : Type 0 where
      has : Has m
      young : Young

    abbrev Moved : Move × Machine → Type 0
    Moved (moves.Send step, m) = Went (step, m)
    Moved (moves.Check, m) = MayCheck m
    Moved (moves.Judge, m) = Has m
    Moved (moves.Run, m) = Has m

    serves : (place : ℕ) (plain : PlainDisk) (told : Told) (move : Move) (m : Machine) → Moved (move, m) → Went (served place plain told move m)
    serves place plain told (moves.Send step) m h = h
    serves place plain told moves.Check m h = let s = check_step m place plain told in aheads_by s.0.dead s.1.orb.next s refl refl h.young (checks m place plain told h.has)
    serves place plain told moves.Judge m h = (judges m place plain told h).went
    serves place plain told moves.Run m h = (runs m told h).went

    pick_move : (b : Bool) (x y : Move × Machine) → Moved x → Moved y → Moved (cond b x y)
    pick_move true x y h k = h
    pick_move false x y h k = k

    turns : (m : Machine) (next : ℕ) (ahead : ReadAhead) → (is_ahead ahead ≡ false → Young) → GoesOn Young m.doorbell m.present (At next) ahead → Moved (turn_step m next ahead)
    turns m next aheads.Idle free h = fetches m next
    turns m next (aheads.UnderWay rung) free (inl e) = record { goes = record { by_phase = inl e; idle = λ x. refl; last = λ x. refl }; looks = λ x. yes x }
    turns m next (aheads.UnderWay rung) free (inr h) = record { goes = record { by_phase = inr h.1; idle = λ x. refl; last = λ x. refl }; looks = λ x. yes x }
    turns m next (aheads.Kept orb) free (inl e) = record { has = record { goes = inl e; last = λ x. refl }; young = free refl }
    turns m next (aheads.Kept orb) free (inr h) = record { has = record { goes = inr (h.1, tt); last = λ x. refl }; young = free refl }

    rests_or : (m : Machine) (b : Bool) → m.ahead ≡ aheads.Idle → Last m.present → Went (cond b (reread_step m) (quiet, record m { phase = phases.Suspended }))
    rests_or m true f last = rereads m f
    rests_or m false f last = record { goes = record { by_phase = last; idle = λ x. f; last = λ x. f }; looks = λ x. yes x }

    waits : (m : Machine) → m.doorbell ≡ true → m.ahead ≡ aheads.Idle → Went (wait_step m)
    waits m e f = subst (λ b. Went (cond b (reread_step m) (quiet, record m { phase = phases.Suspended }))) (sym e) (rereads m f)

    follows : (m : Machine) (next : OrbPointer) → m.orb.next ≡ next → (is_ahead m.ahead ≡ false → Young) → Has m → Moved (follow_step m next)
    follows m (At next) e free h = turns m next m.ahead free (subst (λ pointer. GoesOn Young m.doorbell m.present pointer m.ahead) e h.goes)
    follows m Null e free h = by h.goes
      where
        by : GoesOn Young m.doorbell m.present m.orb.next m.ahead → Went ((wait_step m).0, (wait_step m).1)
        by (inl f) = waits m f (h.last e)
        by (inr x) = rests_or m m.doorbell (h.last e) (subst (Leads m.present) e x.0)

    status_goes : (m : Machine) (cause : Option FailCause) → (is_ahead m.ahead ≡ false → Young) → Has m → Moved (status_written m cause)
    status_goes m (Some cause) free h = dies m cause
    status_goes m None free h = follows m m.orb.next refl free h

    -- what a read of its list brings, where it was asked for since
    is_idle : (Own : Type 0) (bell : Bool) (present : ℕ) (next : OrbPointer) (ahead : ReadAhead) → ahead ≡ aheads.Idle → (Own → Leads present next) → (bell ≡ true) ⊎ Own → GoesOn Young bell present next ahead
    is_idle Own bell present next ahead e brings (inl f) = inl f
    is_idle Own bell present next ahead e brings (inr own) = inr (brings own, subst (AheadGoes Young next) (sym e) tt)

    free_idle : (m : Machine) → m.ahead ≡ aheads.Idle → (is_ahead m.ahead ≡ false → Young) → Young
    free_idle m e free = free (ap is_ahead e)

    next_goes : (Own : Type 0) (m : Machine) (r : Result (List ℕ) FailCause) → m.ahead ≡ aheads.Idle → (is_ahead m.ahead ≡ false → Young) → (Own → (bytes : List ℕ) → r ≡ Ok bytes → Leads m.present (pointer_at bytes 0)) → (m.doorbell ≡ true) ⊎ Own → Moved (next_read m r)
    next_goes Own m (Err cause) e free brings h = dies m cause
    next_goes Own m (Ok bytes) e free brings h =
        let n = record m { orb = record m.orb { next = pointer_at bytes 0 } } in
        follows n (pointer_at bytes 0) refl free (record { goes = is_idle Own n.doorbell n.present n.orb.next n.ahead e (λ own. brings own bytes refl) h; last = λ x. e })

    orb_goes : (Own : Type 0) (m : Machine) (r : Result (List ℕ) FailCause) → m.ahead ≡ aheads.Idle → (is_ahead m.ahead ≡ false → Young) → (Own → (bytes : List ℕ) → r ≡ Ok bytes → Leads m.present (command_orb bytes).next) → (m.doorbell ≡ true) ⊎ Own → Moved (orb_read m r)
    orb_goes Own m (Err cause) e free brings h = fails m cause
    orb_goes Own m (Ok bytes) e free brings h =
        record { has = record { goes = is_idle Own m.doorbell m.present (command_orb bytes).next m.ahead e (λ own. brings own bytes refl) h; last = λ x. e }; young = free_idle m e free }

    elements_go : (m : Machine) (bytes : List ℕ) (fault : Option PageFault) → Has m → Moved (elements_read m bytes fault)
    elements_go m bytes (Some fault) h = (ends m (kinds.Illegal 0xff) (Some causes.Grammar) h).went
    elements_go m bytes None h = record { goes = h.goes; last = h.last }

    table_goes : (m : Machine) (x : Result (List ℕ) FailCause) → Has m → Moved (table_read m x)
    table_goes m (Err cause) h = fails m cause
    table_goes m (Ok bytes) h =
        pick_move m.aborted (moves.Send (end_step m kinds.Aborted None).0, (end_step m kinds.Aborted None).1) (elements_read m bytes (first_fault 0 (elements_of bytes)))
        (ends m kinds.Aborted None h).went (elements_go m bytes (first_fault 0 (elements_of bytes)) h)

    data_goes : (m : Machine) (wanted : ℕ) (x : Result (List ℕ) FailCause) → Has m → Moved (data_read m wanted x)
    data_goes m wanted (Err cause) h = fails m cause
    data_goes m wanted (Ok bytes) h =
        let n = record m { payload = m.payload ++ bytes } in
        let k : Has n = record { goes = h.goes; last = h.last } in
        pick_move m.aborted (moves.Send (end_step m kinds.Aborted None).0, (end_step m kinds.Aborted None).1) (data_grown n wanted)
        (ends m kinds.Aborted None h).went (pick_move (length n.payload == wanted) (moves.Run, n) (moves.Send (data_step n wanted).0, (data_step n wanted).1) k (fills n wanted k).went)

    grows : (m : Machine) → Has m → Moved (answer_grown m)
    grows m h = by (m.written == length m.answer)
      where
        by : (b : Bool) → Went ((cond b (end_step m kinds.Good None) (answer_step m)).0, (cond b (end_step m kinds.Good None) (answer_step m)).1)
        by true = (ends m kinds.Good None h).went
        by false = (answers m h).went

    chunk_goes : (m : Machine) (cause : Option FailCause) → Has m → Moved (chunk_written m cause)
    chunk_goes m (Some cause) h = fails m cause
    chunk_goes m None h = grows (record m { written = m.written + answer_chunk m }) (record { goes = h.goes; last = h.last })

    -- ---- a reply to its main transaction
    module _ (Own : Type 0) (m : Machine) (answer : Answer) (free : is_ahead m.ahead ≡ false → Young) (h : Goes Own Young m) (orbs : Own → m.phase ≡ phases.Fetching → (bytes : List ℕ) → payload_of answer 32 ≡ Ok bytes → Leads m.present (command_orb bytes).next) (pointers : Own → m.phase ≡ phases.ReadingNext → (bytes : List ℕ) → payload_of answer 8 ≡ Ok bytes → Leads m.present (pointer_at bytes 0)) where
      has : (phase : Phase) → m.phase ≡ phase → has_read phase ≡ true → Has m
      has phase e r = record { goes = of_read Own Young m.phase m (ap has_read e ∙ r) h.by_phase; last = h.last }

      none : (phase : Phase) → m.phase ≡ phase → has_read phase ≡ false → m.ahead ≡ aheads.Idle
      none phase e r = h.idle (ap has_read e ∙ r)

      stands : Went (quiet, m)
      stands = record { goes = wider Own Young (Unit {0}) Young (λ own. tt) (λ young. young) m h; looks = λ x. yes x }

      here : (phase : Phase) → m.phase ≡ phase → GoesIn phase Own Young m
      here phase e = subst (λ x. GoesIn x Own Young m) e h.by_phase

      goes : (phase : Phase) → m.phase ≡ phase → Moved (advanced phase m answer)
      goes phases.Fetching e = orb_goes Own m (payload_of answer 32) (none phases.Fetching e refl) free (λ own. orbs own e) (here phases.Fetching e)
      goes phases.ReadingTable e = table_goes m _ (has phases.ReadingTable e refl)
      goes (phases.ReadingData wanted) e = data_goes m wanted _ (has (phases.ReadingData wanted) e refl)
      goes phases.Answering e = chunk_goes m (write_failure answer) (has phases.Answering e refl)
      goes phases.WritingStatus e = status_goes m (write_failure answer) free (has phases.WritingStatus e refl)
      goes phases.ReadingNext e = next_goes Own m (payload_of answer 8) (none phases.ReadingNext e refl) free (λ own. pointers own e) (here phases.ReadingNext e)
      goes phases.WritingLastStatus e = record { goes = record { by_phase = tt; idle = λ x. none phases.WritingLastStatus e refl; last = h.last }; looks = λ x. yes x }
      goes phases.Reset e = stands
      goes phases.Suspended e = stands
      goes phases.Dead e = stands

      pub main_goes : (place : ℕ) (plain : PlainDisk) (told : Option Told) → Went (reply_step m place plain told Main answer)
      unfolding reply_step
      main_goes place plain told = let r = advanced m.phase m answer in serves place plain (told_or told) r.0 r.1 (goes m.phase refl)

  -- ---- a reply to its read ahead, and a loss
  module _ (Own Young : Type 0) (m : Machine) (h : Goes Own Young m) where
    young_of : (next : OrbPointer) (ahead : ReadAhead) → is_ahead ahead ≡ true → AheadGoes Young next ahead → Young
    young_of next aheads.Idle e g = untrue e
    young_of next (aheads.UnderWay rung) e g = g
    young_of next (aheads.Kept orb) e g = untrue e

    not_idle : {A : Type 0} → is_ahead m.ahead ≡ true → m.ahead ≡ aheads.Idle → A
    not_idle e f = untrue (sym (ap is_ahead f) ∙ e)

    -- its ORB was read then
    is_read : is_ahead m.ahead ≡ true → has_read m.phase ≡ true
    is_read e = by (has_read m.phase) refl
      where
        by : (b : Bool) → has_read m.phase ≡ b → b ≡ true
        by true f = refl
        by false f = not_idle e (h.idle f)

    -- what is kept of it then
    kept_ahead : (bell : Bool) (ahead : ReadAhead) → is_ahead m.ahead ≡ true → (m.doorbell ≡ true → bell ≡ true) → (Young → AheadGoes Young m.orb.next ahead) → Goes Own Young (record m { ahead = ahead; doorbell = bell })
    kept_ahead bell ahead e f g =
        let r = is_read e in
        record {
          by_phase = in_read Own Young m.phase (record m { ahead = ahead; doorbell = bell }) r (by (of_read Own Young m.phase m r h.by_phase));
          idle = λ x. yes (sym r ∙ x);
          last = λ x. not_idle e (h.last x);
        }
      where
        by : GoesOn Young m.doorbell m.present m.orb.next m.ahead → GoesOn Young bell m.present m.orb.next ahead
        by (inl x) = inl (f x)
        by (inr x) = inr (x.0, g (young_of m.orb.next m.ahead e x.1))

    marked : (b x : Bool) → b ≡ true → (b || x) ≡ true
    marked true x e = refl
    marked false x e = untrue e

    forgets : (cause : FailCause) → is_ahead m.ahead ≡ true → Goes Own Young (ahead_lost m cause).1
    forgets cause e = kept_ahead (m.doorbell || (is_label cause && rung_in m.ahead)) aheads.Idle e (λ x. marked m.doorbell _ x) (λ young. tt)

    pub ahead_goes : (answer : Answer) → (is_ahead m.ahead ≡ true → Young → (bytes : List ℕ) → payload_of answer 32 ≡ Ok bytes → LeadsOn m.orb.next (command_orb bytes).next) → (place : ℕ) (plain : PlainDisk) (told : Option Told) → Goes Own Young (reply_step m place plain told Ahead answer).1
    unfolding reply_step
    ahead_goes answer brings place plain told = by (is_ahead m.ahead) refl
      where
        read : is_ahead m.ahead ≡ true → (r : Result (List ℕ) FailCause) → payload_of answer 32 ≡ r → Goes Own Young (ahead_read m r).1
        read e (Ok bytes) f = kept_ahead m.doorbell (aheads.Kept (command_orb bytes)) e (λ x. x) (λ young. brings e young bytes f)
        read e (Err cause) f = forgets cause e

        by : (b : Bool) → is_ahead m.ahead ≡ b → Goes Own Young (cond b (ahead_step m answer) (quiet, m)).1
        by true e = read e (payload_of answer 32) refl
        by false e = h

    pub lost_ahead_goes : (cause : FailCause) → Goes Own Young (lost_step m Ahead cause).1
    unfolding lost_step
    lost_ahead_goes cause = by (is_ahead m.ahead) refl
      where
        by : (b : Bool) → is_ahead m.ahead ≡ b → Goes Own Young (cond b (ahead_lost m cause) (quiet, m)).1
        by true e = forgets cause e
        by false e = h

    -- its main transaction is lost: it is dead
    pub lost_goes : (cause : FailCause) → Goes Own Young (lost_step m Main cause).1
    unfolding lost_step
    lost_goes cause = by m.phase refl
      where
        dead : Goes Own Young (dead_step m cause).1
        dead = record { by_phase = tt; idle = λ e. refl; last = λ e. refl }

        failed : Goes Own Young (fail_step m cause).1
        failed = record { by_phase = tt; idle = λ e. refl; last = λ e. refl }

        by : (phase : Phase) → m.phase ≡ phase → Goes Own Young (main_lost phase m cause).1
        by phases.Fetching e = failed
        by phases.ReadingTable e = failed
        by (phases.ReadingData wanted) e = failed
        by phases.Answering e = failed
        by phases.WritingStatus e = dead
        by phases.ReadingNext e = dead
        by phases.WritingLastStatus e = record { by_phase = tt; idle = λ x. h.idle (ap has_read e); last = h.last }
        by phases.Reset e = h
        by phases.Suspended e = h
        by phases.Dead e = h

    pub lost_looks : (cause : FailCause) → is_nothing (lost_step m Main cause).0.ahead ≡ true
    unfolding lost_step
    lost_looks cause = by m.phase
      where
        by : (phase : Phase) → is_nothing (main_lost phase m cause).0.ahead ≡ true
        by phases.Fetching = refl
        by phases.ReadingTable = refl
        by (phases.ReadingData wanted) = refl
        by phases.Answering = refl
        by phases.WritingStatus = refl
        by phases.ReadingNext = refl
        by phases.WritingLastStatus = refl
        by phases.Reset = refl
        by phases.Suspended = refl
        by phases.Dead = refl

    pub abort_goes : (orb : ℕ) → Goes Own Young (abort_step m orb)
    unfolding abort_step
    abort_goes orb = record { by_phase = same m.phase h.by_phase; idle = h.idle; last = h.last }
      where
        same : (phase : Phase) → GoesIn phase Own Young m → GoesIn phase Own Young (abort_step m orb)
        same phases.Fetching g = g
        same phases.ReadingNext g = g
        same phases.ReadingTable g = g
        same (phases.ReadingData wanted) g = g
        same phases.Answering g = g
        same phases.WritingStatus g = g
        same phases.Suspended g = g
        same phases.Reset g = tt
        same phases.Dead g = tt
        same phases.WritingLastStatus g = tt

  -- ---- its registers
  pub reset_goes : (Own Young : Type 0) (m : Machine) → Goes Own Young (reset_step m)
  unfolding reset_step
  reset_goes Own Young m = record { by_phase = tt; idle = λ e. refl; last = λ e. refl }

  pub new_goes : (Own Young : Type 0) → Goes Own Young new_machine
  new_goes Own Young = record { by_phase = tt; idle = λ e. refl; last = λ e. refl }

  -- ORB_POINTER that is taken
  abbrev pub Points : Type 0 → Result Ask PointRefusal × Machine → Type 0
  Points Young (Err refusal, m) = Unit {0}
  Points Young (Ok ask, m) = Goes (Unit {0}) Young m × (m.ahead ≡ aheads.Idle)

  pub point_goes : (Young : Type 0) (m : Machine) (pointer : OrbPointer) → Points Young (point_step m pointer)
  unfolding point_step
  point_goes Young m pointer = by (state_in m.phase)
    where
      at : (pointer : OrbPointer) → Points Young (pointed m pointer)
      at Null = tt
      at (At next) = (record { by_phase = inr tt; idle = λ e. refl; last = λ e. refl }, refl)

      by : (state : AgentState) → Points Young (point_in state m pointer)
      by states.Reset = at pointer
      by states.Suspended = at pointer
      by states.Active = tt
      by states.Dead = tt

  -- DOORBELL: of one that rests it begins a read
  pub bell_goes : (Own Young : Type 0) (m : Machine) → (has_read m.phase ≡ false → m.ahead ≡ aheads.Idle) → (m.orb.next ≡ Null → m.ahead ≡ aheads.Idle) → (m.phase ≡ phases.Suspended → Own) → Goes Own Young (doorbell_step m).1
  unfolding doorbell_step
  bell_goes Own Young m idle last own = by m.phase refl
    where
      rung : Machine
      rung = record m { doorbell = true }

      marks : (phase : Phase) → m.phase ≡ phase → GoesIn phase Own Young rung → Goes Own Young rung
      marks phase e g = record { by_phase = subst (λ x. GoesIn x Own Young rung) (sym e) g; idle = idle; last = last }

      stays : (phase : Phase) → m.phase ≡ phase → GoesIn phase Own Young m → Goes Own Young m
      stays phase e g = record { by_phase = subst (λ x. GoesIn x Own Young m) (sym e) g; idle = idle; last = last }

      by : (phase : Phase) → m.phase ≡ phase → Goes Own Young (doorbell_in (state_in phase) m).1
      by phases.Suspended e = record { by_phase = inr (own e); idle = λ x. idle (ap has_read e); last = last }
      by phases.Fetching e = marks phases.Fetching e (inl refl)
      by phases.ReadingNext e = marks phases.ReadingNext e (inl refl)
      by phases.ReadingTable e = marks phases.ReadingTable e (inl refl)
      by (phases.ReadingData wanted) e = marks (phases.ReadingData wanted) e (inl refl)
      by phases.Answering e = marks phases.Answering e (inl refl)
      by phases.WritingStatus e = marks phases.WritingStatus e (inl refl)
      by phases.Reset e = stays phases.Reset e tt
      by phases.Dead e = stays phases.Dead e tt
      by phases.WritingLastStatus e = stays phases.WritingLastStatus e tt

  -- it rests only at a last ORB
  pub rests_last : (Own Young : Type 0) (m : Machine) → Goes Own Young m → m.phase ≡ phases.Suspended → Last m.present
  rests_last Own Young m h e = subst (λ x. GoesIn x Own Young m) e h.by_phase

  -- neither leaves a read ahead otherwise
  pub abort_ahead : (m : Machine) (orb : ℕ) → (abort_step m orb).ahead ≡ m.ahead
  unfolding abort_step
  abort_ahead m orb = refl

  pub bell_ahead : (m : Machine) → (doorbell_step m).1.ahead ≡ m.ahead
  unfolding doorbell_step
  bell_ahead m = by (state_in m.phase)
    where
      by : (state : AgentState) → (doorbell_in state m).1.ahead ≡ m.ahead
      by states.Active = refl
      by states.Suspended = refl
      by states.Reset = refl
      by states.Dead = refl
