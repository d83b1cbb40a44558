-- On which buffer and with which data an agent runs a command, step by step: those that its reads brought since its turn came to the ORB. It has them from the check of the ORB on
-- until the command runs; and beside them an ORB that was read ahead.
use Rattle.sbp_world.proofs.Words.Std.{◌≡◌, refl, sym, ◌∙◌, ap, subst, ℕ, ◌+◌, ◌*◌, ◌==◌, length, is_some, Bool, true, false, cond, List, [], ◌∷◌, ◌++◌, Option, Some, None, Result, Ok, Err}
use Rattle.sbp_world.proofs.Words.Target.{Phase, ReadAhead, AgentState, AgentStep, Move, Which, Ahead, Main, death_by, reads_table, verdict, Machine, aligned, awaits_run, chunk_of, is_ahead, limit_of, new_machine, plan_of, state_in, abort_step, advanced, ahead_lost, ahead_of, ahead_read, ahead_step, answer_chunk, answer_grown, asks, checked, check_step, chunk_written, data_grown, data_read, data_step, dead_step, doorbell_in, doorbell_step, elements_read, end_step, fail_step, fetch_step, follow_step, judge_step, judged, lost_step, main_lost, next_read, orb_read, passed_step, point_in, point_step, pointed, quiet, ran_as, reply_step, reread_step, reset_step, run_step, served, table_read, told_or, turn_step, unread_buffer, wait_step, Need, Outcome, Told, need_of, PlainDisk}
use Rattle.sbp_world.proofs.Words.Initiator.{FailCause, CommandOrb, OrbPointer, At, Null, StatusKind, command_orb, pointer_at, Answer, Expired, payload_of, write_failure, PageFault, Segment, elements_of, first_fault}
use Rattle.sbp_world.proofs.Words.Laws.{Moved}
use Rattle.command_agent.specs.declared.phase.Phase.TheVariants as phases
use Rattle.command_agent.specs.declared.phase.ReadAhead.TheVariants as aheads
use Rattle.command_agent.specs.declared.step.AgentState.TheVariants as states
use Rattle.command_agent.specs.declared.step.Move.TheVariants as moves
use Rattle.command_agent.specs.Steps.{answer_step, replied, status_written}
use Rattle.orb_layout.specs.declared.ask.Ask.TheVariants as requests
use Rattle.orb_layout.specs.declared.ask.FailCause.TheVariants as causes
use Rattle.orb_layout.specs.declared.status.StatusKind.TheVariants as kinds
use Rattle.rbc_disk.specs.declared.command.Need.TheVariants as needs
use Rattle.rbc_disk.specs.declared.command.Outcome.TheVariants as outcomes
use Rattle.sbp_world.proofs.Lists.FedPieces.{InTurn, all_bytes}
use Rattle.sbp_world.proofs.Lists.OrbSteps.{Names, ReadAheadOf, has_read, yes}
use Rattle.sbp_world.proofs.Common.{untrue}

-- ---- what is known of an agent

-- its page table, where it is read
pub record IsTable (orb : CommandOrb) (segments : List Segment) (tables : List Moved) : Type 0 where
  pub bytes : List ℕ
  pub one : tables ≡ record { offset = orb.descriptor; bytes = bytes } ∷ []
  pub elements : segments ≡ elements_of bytes
  pub sound : first_fault 0 segments ≡ None

abbrev pub TableBy : Bool → CommandOrb → List Segment → List Moved → Type 0
TableBy true orb segments tables = IsTable orb segments tables
TableBy false orb segments tables = (tables ≡ []) × (segments ≡ unread_buffer orb)

-- `Read` of an ORB at an address: a response brought it; `Turned` to it: and the agent's reads brought these since its turn came
module _ (Turned : ℕ → CommandOrb → List Moved → Type 0) where
  -- so far the buffer and the data are what these reads brought
  pub record Feeding (at : ℕ) (orb : CommandOrb) (segments : List Segment) (payload : List ℕ) (wanted : ℕ) : Type 0 where
    pub tables : List Moved
    pub pieces : List Moved
    pub turned : Turned at orb (tables ++ pieces)
    pub table : TableBy (reads_table orb) orb segments tables
    pub bytes : payload ≡ all_bytes pieces
    pub turn : InTurn segments (limit_of orb) wanted 0 pieces

  pub record Tabling (at : ℕ) (orb : CommandOrb) (payload : List ℕ) : Type 0 where
    pub turned : Turned at orb []
    pub empty : payload ≡ []
    pub reads : reads_table orb ≡ true

  pub record Feeds (m : Machine) : Type 0 where
    pub fetching : m.phase ≡ phases.Fetching → m.payload ≡ []
    pub tabling : m.phase ≡ phases.ReadingTable → Tabling m.present m.orb m.payload
    pub filling : (wanted : ℕ) → m.phase ≡ phases.ReadingData wanted → Feeding m.present m.orb m.segments m.payload wanted

  -- a command runs so
  pub record HasRun (m : Machine) : Type 0 where
    pub wanted : ℕ
    pub fed : Feeding m.present m.orb m.segments m.payload wanted

  pub none_awaits : (m : Machine) → awaits_run m.phase ≡ false → Feeds m
  none_awaits m f = record {
    fetching = λ e. untrue (sym f ∙ ap awaits_run e);
    tabling = λ e. untrue (sym f ∙ ap awaits_run e);
    filling = λ wanted e. untrue (sym f ∙ ap awaits_run e);
  }

  fetching_feeds : (m : Machine) → m.phase ≡ phases.Fetching → m.payload ≡ [] → Feeds m
  fetching_feeds m f empty = record {
    fetching = λ e. empty;
    tabling = λ e. absurd (let x : phases.Fetching ≡ phases.ReadingTable = sym f ∙ e in cc);
    filling = λ wanted e. absurd (let x : phases.Fetching ≡ phases.ReadingData wanted = sym f ∙ e in cc);
  }

  tabling_feeds : (m : Machine) → m.phase ≡ phases.ReadingTable → Tabling m.present m.orb m.payload → Feeds m
  tabling_feeds m f t = record {
    fetching = λ e. absurd (let x : phases.ReadingTable ≡ phases.Fetching = sym f ∙ e in cc);
    tabling = λ e. t;
    filling = λ wanted e. absurd (let x : phases.ReadingTable ≡ phases.ReadingData wanted = sym f ∙ e in cc);
  }

  same_wanted : (a b : ℕ) → phases.ReadingData a ≡ phases.ReadingData b → a ≡ b
  same_wanted a b e = cc

  filling_feeds : (m : Machine) (wanted : ℕ) → m.phase ≡ phases.ReadingData wanted → Feeding m.present m.orb m.segments m.payload wanted → Feeds m
  filling_feeds m wanted f d = record {
    fetching = λ e. absurd (let x : phases.ReadingData wanted ≡ phases.Fetching = sym f ∙ e in cc);
    tabling = λ e. absurd (let x : phases.ReadingData wanted ≡ phases.ReadingTable = sym f ∙ e in cc);
    filling = λ other e. subst (λ n. Feeding m.present m.orb m.segments m.payload n) (same_wanted wanted other (sym f ∙ e)) d;
  }

module _ (Read : ℕ → CommandOrb → Type 0) (Turned : ℕ → CommandOrb → List Moved → Type 0) where
  -- a read ahead that was answered brought its ORB; there is one only where its present ORB was read
  pub record IsFed (m : Machine) : Type 0 where
    pub main : Feeds Turned m
    pub ahead : ReadAheadOf Read m.orb.next m.ahead
    pub idle : has_read m.phase ≡ false → m.ahead ≡ aheads.Idle

  pub record FedStep (s : AgentStep × Machine) : Type 0 where
    pub fed : IsFed s.1
    pub ran : is_some s.0.ran ≡ true → HasRun Turned s.1

  -- and alive with its ORB
  pub record Alive (s : AgentStep × Machine) : Type 0 where
    pub stepped : FedStep s
    pub alive : s.0.dead ≡ None → has_read s.1.phase ≡ true

  null_idle : (next : OrbPointer) (ahead : ReadAhead) → next ≡ Null → ReadAheadOf Read next ahead → ahead ≡ aheads.Idle
  null_idle next aheads.Idle e h = refl
  null_idle next (aheads.UnderWay rung) e h = absurd (let x : Null ≡ At h.offset = sym e ∙ h.is in cc)
  null_idle next (aheads.Kept orb) e h = absurd (let x : Null ≡ At h.offset = sym e ∙ h.is in cc)

  idle_ahead : (next : OrbPointer) (ahead : ReadAhead) → ahead ≡ aheads.Idle → ReadAheadOf Read next ahead
  idle_ahead next ahead e = subst (ReadAheadOf Read next) (sym e) tt

  stands : (step : AgentStep) (m : Machine) → step.ran ≡ None → IsFed m → FedStep (step, m)
  stands step m e r = record { fed = r; ran = λ x. untrue (ap is_some (sym e) ∙ x) }

  -- ---- an ORB ends
  ends : (m : Machine) (kind : StatusKind) (dead : Option FailCause) → ReadAheadOf Read m.orb.next m.ahead → Alive (end_step m kind dead)
  ends m kind None a = record {
    stepped = record { fed = record { main = none_awaits Turned _ refl; ahead = a; idle = λ e. yes e }; ran = λ e. untrue e };
    alive = λ e. refl;
  }
  ends m kind (Some cause) a = record {
    stepped = record { fed = record { main = none_awaits Turned _ refl; ahead = tt; idle = λ e. refl }; ran = λ e. untrue e };
    alive = λ e. absurd (let x : Some cause ≡ None = e in cc);
  }

  fails : (m : Machine) (cause : FailCause) → FedStep (fail_step m cause)
  fails m cause = record { fed = record { main = none_awaits Turned _ refl; ahead = tt; idle = λ e. refl }; ran = λ e. untrue e }

  dies : (m : Machine) (cause : FailCause) → FedStep (dead_step m cause)
  dies m cause = record { fed = record { main = none_awaits Turned _ refl; ahead = tt; idle = λ e. refl }; ran = λ e. untrue e }

  fetches : (m : Machine) (next : ℕ) → FedStep (fetch_step m next)
  fetches m next = record { fed = record { main = fetching_feeds Turned _ refl refl; ahead = tt; idle = λ e. refl }; ran = λ e. untrue e }

  rereads : (m : Machine) → m.ahead ≡ aheads.Idle → FedStep (reread_step m)
  rereads m e = record { fed = record { main = none_awaits Turned _ refl; ahead = idle_ahead m.orb.next m.ahead e; idle = λ x. e }; ran = λ x. untrue x }

  pick : (b : Bool) (x y : AgentStep × Machine) → FedStep x → FedStep y → FedStep (cond b x y)
  pick true x y h k = h
  pick false x y h k = k

  pick_alive : (b : Bool) (x y : AgentStep × Machine) → Alive x → Alive y → Alive (cond b x y)
  pick_alive true x y h k = h
  pick_alive false x y h k = k

  -- ---- what an ORB that was read asks for
  fills : (m : Machine) (wanted : ℕ) → Feeding Turned m.present m.orb m.segments m.payload wanted → ReadAheadOf Read m.orb.next m.ahead → Alive (data_step m wanted)
  fills m wanted d a = record {
    stepped = record { fed = record { main = filling_feeds Turned _ wanted refl d; ahead = a; idle = λ e. yes e }; ran = λ e. untrue e };
    alive = λ e. refl;
  }

  answers : (m : Machine) → ReadAheadOf Read m.orb.next m.ahead → Alive (answer_step m)
  answers m a = record {
    stepped = record { fed = record { main = none_awaits Turned _ refl; ahead = a; idle = λ e. yes e }; ran = λ e. untrue e };
    alive = λ e. refl;
  }

  ran_alive : (m : Machine) (outcome : Outcome) → ReadAheadOf Read m.orb.next m.ahead → Alive (ran_as m outcome)
  ran_alive m (outcomes.Check sense) a = ends m (kinds.Check sense) None a
  ran_alive m (outcomes.Good len) a = pick_alive (len == 0) (end_step m kinds.Good None) (answer_step m) (ends m kinds.Good None a) (answers m a)

  ran_same : (m : Machine) (outcome : Outcome) → HasRun Turned m → HasRun Turned (ran_as m outcome).1
  ran_same m (outcomes.Check sense) r = record { wanted = r.wanted; fed = r.fed }
  ran_same m (outcomes.Good len) r = by (len == 0)
    where
      by : (b : Bool) → HasRun Turned (cond b (end_step m kinds.Good None) (answer_step m)).1
      by true = record { wanted = r.wanted; fed = r.fed }
      by false = record { wanted = r.wanted; fed = r.fed }

  runs : (m : Machine) (told : Told) → HasRun Turned m → ReadAheadOf Read m.orb.next m.ahead → Alive (run_step m told)
  runs m told r a =
      let n = record m { answer = told.answer; written = 0 } in
      let k = ran_alive n told.outcome a in
      record {
        stepped = record { fed = k.stepped.fed; ran = λ e. ran_same n told.outcome (record { wanted = r.wanted; fed = r.fed }) };
        alive = k.alive;
      }

  -- it is judged, and no data were read
  abbrev pub Ready : Machine → Type 0
  Ready m = (wanted : ℕ) → Feeding Turned m.present m.orb m.segments m.payload wanted

  judges_by : (m : Machine) (told : Told) (need : Need) → Ready m → ReadAheadOf Read m.orb.next m.ahead → Alive (judged m told need)
  judges_by m told needs.RunNow r a = runs m told (record { wanted = 0; fed = r 0 }) a
  judges_by m told (needs.Payload len) r a = fills m len (r len) a

  judges : (m : Machine) (place : ℕ) (plain : PlainDisk) (told : Told) → Ready m → ReadAheadOf Read m.orb.next m.ahead → Alive (judge_step m place plain told)
  judges m place plain told r a = judges_by m told (need_of m.orb.cdb (plan_of m) plain place) r a

  tables : (m : Machine) (step : AgentStep) → step.ran ≡ None → Tabling Turned m.present m.orb m.payload → ReadAheadOf Read m.orb.next m.ahead → Alive (step, record m { phase = phases.ReadingTable })
  tables m step e t a = record {
    stepped = stands step (record m { phase = phases.ReadingTable }) e (record { main = tabling_feeds Turned _ refl t; ahead = a; idle = λ x. yes x });
    alive = λ x. refl;
  }

  plain_ready : (m : Machine) → Turned m.present m.orb [] → m.payload ≡ [] → reads_table m.orb ≡ false → Ready (record m { segments = unread_buffer m.orb })
  plain_ready m t empty e wanted = record {
    tables = [];
    pieces = [];
    turned = t;
    table = subst (λ b. TableBy b m.orb (unread_buffer m.orb) []) (sym e) (refl, refl);
    bytes = empty;
    turn = tt;
  }

  passes : (m : Machine) (place : ℕ) (plain : PlainDisk) (told : Told) → Turned m.present m.orb [] → m.payload ≡ [] → ReadAheadOf Read m.orb.next m.ahead → Alive (passed_step m place plain told)
  passes m place plain told t empty a = by (reads_table m.orb) refl
    where
      by : (b : Bool) → reads_table m.orb ≡ b → Alive (cond b (asks (requests.Read m.orb.descriptor (8 * m.orb.data_size)), record m { phase = phases.ReadingTable }) (judge_step (record m { segments = unread_buffer m.orb }) place plain told))
      by true e = tables m _ refl (record { turned = t; empty = empty; reads = e }) a
      by false e = judges (record m { segments = unread_buffer m.orb }) place plain told (plain_ready m t empty e) a

  checks : (m : Machine) (place : ℕ) (plain : PlainDisk) (told : Told) → Turned m.present m.orb [] → m.payload ≡ [] → ReadAheadOf Read m.orb.next m.ahead → Alive (check_step m place plain told)
  checks m place plain told t empty a = by (verdict m.orb m.aborted)
    where
      by : (kind : Option StatusKind) → Alive (checked m place plain told kind)
      by (Some kind) = ends m kind (death_by kind) a
      by None = passes m place plain told t empty a

  -- behind that an ORB is read ahead
  aheads_by : (dead : Option FailCause) (next : OrbPointer) (s : AgentStep × Machine) → s.0.dead ≡ dead → s.1.orb.next ≡ next → Alive s → FedStep (ahead_of dead next s)
  aheads_by None (At next) s e f h = record {
    fed = record {
      main = record { fetching = h.stepped.fed.main.fetching; tabling = h.stepped.fed.main.tabling; filling = h.stepped.fed.main.filling };
      ahead = record { offset = next; is = f };
      idle = λ x. yes (sym (h.alive e) ∙ x);
    };
    ran = λ x. let r = h.stepped.ran x in record { wanted = r.wanted; fed = r.fed };
  }
  aheads_by None Null s e f h = h.stepped
  aheads_by (Some cause) next s e f h = h.stepped

  -- ---- where a reply leads
  pub record MayCheck (m : Machine) : Type 0 where
    pub turned : Turned m.present m.orb []
    pub empty : m.payload ≡ []
    pub ahead : ReadAheadOf Read m.orb.next m.ahead

  pub record MayJudge (m : Machine) : Type 0 where
    pub ready : Ready m
    pub ahead : ReadAheadOf Read m.orb.next m.ahead

  pub record MayRun (m : Machine) : Type 0 where
    pub run : HasRun Turned m
    pub ahead : ReadAheadOf Read m.orb.next m.ahead

  abbrev Goes : Move × Machine → Type 0
  Goes (moves.Send step, m) = FedStep (step, m)
  Goes (moves.Check, m) = MayCheck m
  Goes (moves.Judge, m) = MayJudge m
  Goes (moves.Run, m) = MayRun m

  serves : (place : ℕ) (plain : PlainDisk) (told : Told) (move : Move) (m : Machine) → Goes (move, m) → FedStep (served place plain told move m)
  serves place plain told (moves.Send step) m h = h
  serves place plain told moves.Check m h =
      let s = check_step m place plain told in aheads_by s.0.dead s.1.orb.next s refl refl (checks m place plain told h.turned h.empty h.ahead)
  serves place plain told moves.Judge m h = (judges m place plain told h.ready h.ahead).stepped
  serves place plain told moves.Run m h = (runs m told h.run h.ahead).stepped

  pick_move : (b : Bool) (x y : Move × Machine) → Goes x → Goes y → Goes (cond b x y)
  pick_move true x y h k = h
  pick_move false x y h k = k

  module _ (comes : (at : ℕ) (orb : CommandOrb) → Read at orb → Turned at orb []) where
    turns : (m : Machine) (next : ℕ) (ahead : ReadAhead) → m.orb.next ≡ At next → ReadAheadOf Read m.orb.next ahead → Goes (turn_step m next ahead)
    turns m next aheads.Idle e h = fetches m next
    turns m next (aheads.UnderWay rung) e h = record { fed = record { main = fetching_feeds Turned _ refl refl; ahead = tt; idle = λ x. refl }; ran = λ x. untrue x }
    turns m next (aheads.Kept orb) e h =
        let same : h.offset ≡ next = (let x : At h.offset ≡ At next = sym h.is ∙ e in cc) in
        record { turned = comes (aligned next) orb (subst (λ n. Read (aligned n) orb) same h.read); empty = refl; ahead = tt }

    waits : (m : Machine) → m.ahead ≡ aheads.Idle → FedStep (wait_step m)
    waits m e =
        pick m.doorbell (reread_step m) (quiet, record m { phase = phases.Suspended }) (rereads m e)
        (record { fed = record { main = none_awaits Turned _ refl; ahead = idle_ahead m.orb.next m.ahead e; idle = λ x. e }; ran = λ x. untrue x })

    goes_on : (m : Machine) (next : OrbPointer) → m.orb.next ≡ next → ReadAheadOf Read m.orb.next m.ahead → Goes (follow_step m next)
    goes_on m (At next) e h = turns m next m.ahead e h
    goes_on m Null e h = waits m (null_idle m.orb.next m.ahead e h)

    status_goes : (m : Machine) (cause : Option FailCause) → ReadAheadOf Read m.orb.next m.ahead → Goes (status_written m cause)
    status_goes m (Some cause) h = dies m cause
    status_goes m None h = goes_on m m.orb.next refl h

    next_goes : (m : Machine) (r : Result (List ℕ) FailCause) → m.ahead ≡ aheads.Idle → Goes (next_read m r)
    next_goes m (Err cause) e = dies m cause
    next_goes m (Ok bytes) e =
        let next = pointer_at bytes 0 in
        let n = record m { orb = record m.orb { next = next } } in
        goes_on n next refl (idle_ahead next m.ahead e)

    orb_goes : (m : Machine) (r : Result (List ℕ) FailCause) → m.ahead ≡ aheads.Idle → m.payload ≡ [] → ((bytes : List ℕ) → r ≡ Ok bytes → Read m.present (command_orb bytes)) → Goes (orb_read m r)
    orb_goes m (Err cause) e empty h = fails m cause
    orb_goes m (Ok bytes) e empty h = record { turned = comes m.present (command_orb bytes) (h bytes refl); empty = empty; ahead = idle_ahead (command_orb bytes).next m.ahead e }

    abbrev table_moved : CommandOrb → List ℕ → Moved
    table_moved orb bytes = record { offset = orb.descriptor; bytes = bytes }

    elements_go : (m : Machine) (bytes : List ℕ) (fault : Option PageFault) → first_fault 0 (elements_of bytes) ≡ fault → m.payload ≡ [] → reads_table m.orb ≡ true → Turned m.present m.orb (table_moved m.orb bytes ∷ []) → ReadAheadOf Read m.orb.next m.ahead → Goes (elements_read m bytes fault)
    elements_go m bytes (Some fault) sound empty e t a = (ends m (kinds.Illegal 0xff) (Some causes.Grammar) a).stepped
    elements_go m bytes None sound empty e t a = record {
      ready = λ wanted. record {
        tables = table_moved m.orb bytes ∷ [];
        pieces = [];
        turned = t;
        table = subst (λ b. TableBy b m.orb (elements_of bytes) (table_moved m.orb bytes ∷ [])) (sym e) (record { bytes = bytes; one = refl; elements = refl; sound = sound });
        bytes = empty;
        turn = tt;
      };
      ahead = a;
    }

    table_goes : (m : Machine) (x : Result (List ℕ) FailCause) → m.payload ≡ [] → reads_table m.orb ≡ true → ((bytes : List ℕ) → x ≡ Ok bytes → Turned m.present m.orb (table_moved m.orb bytes ∷ [])) → ReadAheadOf Read m.orb.next m.ahead → Goes (table_read m x)
    table_goes m (Err cause) empty e t a = fails m cause
    table_goes m (Ok bytes) empty e t a =
        pick_move m.aborted (moves.Send (end_step m kinds.Aborted None).0, (end_step m kinds.Aborted None).1) (elements_read m bytes (first_fault 0 (elements_of bytes)))
        (ends m kinds.Aborted None a).stepped (elements_go m bytes (first_fault 0 (elements_of bytes)) refl empty e (t bytes refl) a)

    grown_goes : (m : Machine) (wanted : ℕ) → Feeding Turned m.present m.orb m.segments m.payload wanted → ReadAheadOf Read m.orb.next m.ahead → Goes (data_grown m wanted)
    grown_goes m wanted d a = pick_move (length m.payload == wanted) (moves.Run, m) (moves.Send (data_step m wanted).0, (data_step m wanted).1) (record { run = record { wanted = wanted; fed = d }; ahead = a }) (fills m wanted d a).stepped

    data_goes : (m : Machine) (wanted : ℕ) (x : Result (List ℕ) FailCause) → ((bytes : List ℕ) → x ≡ Ok bytes → Feeding Turned m.present m.orb m.segments (m.payload ++ bytes) wanted) → ReadAheadOf Read m.orb.next m.ahead → Goes (data_read m wanted x)
    data_goes m wanted (Err cause) d a = fails m cause
    data_goes m wanted (Ok bytes) d a =
        pick_move m.aborted (moves.Send (end_step m kinds.Aborted None).0, (end_step m kinds.Aborted None).1) (data_grown (record m { payload = m.payload ++ bytes }) wanted)
        (ends m kinds.Aborted None a).stepped (grown_goes (record m { payload = m.payload ++ bytes }) wanted (d bytes refl) a)

    grows : (m : Machine) → ReadAheadOf Read m.orb.next m.ahead → Goes (answer_grown m)
    grows m a = by (m.written == length m.answer)
      where
        by : (b : Bool) → FedStep ((cond b (end_step m kinds.Good None) (answer_step m)).0, (cond b (end_step m kinds.Good None) (answer_step m)).1)
        by true = (ends m kinds.Good None a).stepped
        by false = (answers m a).stepped

    chunk_goes : (m : Machine) (cause : Option FailCause) → ReadAheadOf Read m.orb.next m.ahead → Goes (chunk_written m cause)
    chunk_goes m (Some cause) a = fails m cause
    chunk_goes m None a = grows (record m { written = m.written + answer_chunk m }) a

    quiet_step : (m : Machine) (phase : Phase) → awaits_run phase ≡ false → ReadAheadOf Read m.orb.next m.ahead → m.ahead ≡ aheads.Idle → FedStep (quiet, record m { phase = phase })
    quiet_step m phase e a f = stands quiet (record m { phase = phase }) refl (record { main = none_awaits Turned _ e; ahead = a; idle = λ x. f })

    -- what the answer to the main transaction brings
    pub record Hears (m : Machine) (answer : Answer) : Type 0 where
      pub fetched : m.phase ≡ phases.Fetching → (m.payload ≡ []) × ((bytes : List ℕ) → payload_of answer 32 ≡ Ok bytes → Read m.present (command_orb bytes))
      pub tabled : m.phase ≡ phases.ReadingTable → (m.payload ≡ []) × ((reads_table m.orb ≡ true) × ((bytes : List ℕ) → payload_of answer (8 * m.orb.data_size) ≡ Ok bytes → Turned m.present m.orb (table_moved m.orb bytes ∷ [])))
      pub filled : (wanted : ℕ) → m.phase ≡ phases.ReadingData wanted → (bytes : List ℕ) → payload_of answer (chunk_of m (length m.payload) wanted).length ≡ Ok bytes → Feeding Turned m.present m.orb m.segments (m.payload ++ bytes) wanted
      pub ahead : ReadAheadOf Read m.orb.next m.ahead
      pub idle : has_read m.phase ≡ false → m.ahead ≡ aheads.Idle

    goes : (phase : Phase) (m : Machine) (answer : Answer) → Hears (record m { phase = phase }) answer → Goes (advanced phase (record m { phase = phase }) answer)
    goes phases.Fetching m answer h = let f = h.fetched refl in orb_goes (record m { phase = phases.Fetching }) (payload_of answer 32) (h.idle refl) f.0 f.1
    goes phases.ReadingTable m answer h = let t = h.tabled refl in table_goes (record m { phase = phases.ReadingTable }) (payload_of answer (8 * m.orb.data_size)) t.0 t.1.0 t.1.1 h.ahead
    goes (phases.ReadingData wanted) m answer h = data_goes (record m { phase = phases.ReadingData wanted }) wanted _ (h.filled wanted refl) h.ahead
    goes phases.Answering m answer h = chunk_goes (record m { phase = phases.Answering }) (write_failure answer) h.ahead
    goes phases.WritingStatus m answer h = status_goes (record m { phase = phases.WritingStatus }) (write_failure answer) h.ahead
    goes phases.ReadingNext m answer h = next_goes (record m { phase = phases.ReadingNext }) (payload_of answer 8) (h.idle refl)
    goes phases.WritingLastStatus m answer h = quiet_step m phases.Dead refl h.ahead (h.idle refl)
    goes phases.Reset m answer h = quiet_step m phases.Reset refl h.ahead (h.idle refl)
    goes phases.Suspended m answer h = quiet_step m phases.Suspended refl h.ahead (h.idle refl)
    goes phases.Dead m answer h = quiet_step m phases.Dead refl h.ahead (h.idle refl)

    main_hears : (m : Machine) (place : ℕ) (plain : PlainDisk) (told : Told) (answer : Answer) → Hears m answer → FedStep (replied m place plain told Main answer)
    main_hears m place plain told answer h = let r = advanced m.phase m answer in serves place plain told r.0 r.1 (goes m.phase m answer h)

    -- ---- the read ahead
    keeps_ahead : (next : OrbPointer) (ahead : ReadAhead) → is_ahead ahead ≡ true → ReadAheadOf Read next ahead → Names Read next
    keeps_ahead next aheads.Idle e h = untrue e
    keeps_ahead next (aheads.UnderWay rung) e h = h
    keeps_ahead next (aheads.Kept orb) e h = untrue e

    not_idle : (ahead : ReadAhead) → is_ahead ahead ≡ true → ahead ≡ aheads.Idle → ⊥
    not_idle ahead e f = untrue (sym (ap is_ahead f) ∙ e)

    same_main : (m n : Machine) → m.phase ≡ n.phase → m.present ≡ n.present → m.orb ≡ n.orb → m.segments ≡ n.segments → m.payload ≡ n.payload → Feeds Turned m → Feeds Turned n
    same_main m n e p o s y h = record {
      fetching = λ f. sym y ∙ h.fetching (e ∙ f);
      tabling = λ f. subst (λ x. Tabling Turned n.present n.orb x) y (subst (λ (x : CommandOrb). Tabling Turned n.present x m.payload) o (subst (λ x. Tabling Turned x m.orb m.payload) p (h.tabling (e ∙ f))));
      filling = λ wanted f.
          subst (λ x. Feeding Turned n.present n.orb n.segments x wanted) y
          (subst (λ (x : List Segment). Feeding Turned n.present n.orb x m.payload wanted) s
          (subst (λ (x : CommandOrb). Feeding Turned n.present x m.segments m.payload wanted) o (subst (λ x. Feeding Turned x m.orb m.segments m.payload wanted) p (h.filling wanted (e ∙ f)))));
    }

    forgets : (m : Machine) (cause : FailCause) → IsFed m → FedStep (ahead_lost m cause)
    forgets m cause h = record { fed = record { main = same_main m _ refl refl refl refl refl h.main; ahead = tt; idle = λ x. refl }; ran = λ x. untrue x }

    ahead_goes : (m : Machine) (r : Result (List ℕ) FailCause) → is_ahead m.ahead ≡ true → IsFed m → ((offset : ℕ) → m.orb.next ≡ At offset → (bytes : List ℕ) → r ≡ Ok bytes → Read (aligned offset) (command_orb bytes)) → FedStep (ahead_read m r)
    ahead_goes m (Err cause) e h brings = forgets m cause h
    ahead_goes m (Ok bytes) e h brings =
        let n = keeps_ahead m.orb.next m.ahead e h.ahead in
        record {
          fed = record {
            main = same_main m _ refl refl refl refl refl h.main;
            ahead = record { offset = n.offset; is = n.is; read = brings n.offset n.is bytes refl };
            idle = λ x. absurd (not_idle m.ahead e (h.idle x));
          };
          ran = λ x. untrue x;
        }

    pub main_steps : (m : Machine) (place : ℕ) (plain : PlainDisk) (told : Option Told) (answer : Answer) → Hears m answer → FedStep (reply_step m place plain told Main answer)
    unfolding reply_step
    main_steps m place plain told answer h = main_hears m place plain (told_or told) answer h

    pub ahead_steps : (m : Machine) (place : ℕ) (plain : PlainDisk) (told : Option Told) (answer : Answer) → IsFed m → (is_ahead m.ahead ≡ true → (offset : ℕ) → m.orb.next ≡ At offset → (bytes : List ℕ) → payload_of answer 32 ≡ Ok bytes → Read (aligned offset) (command_orb bytes)) → FedStep (reply_step m place plain told Ahead answer)
    unfolding reply_step
    ahead_steps m place plain told answer h brings = by (is_ahead m.ahead) refl
      where
        by : (b : Bool) → is_ahead m.ahead ≡ b → FedStep (cond b (ahead_step m answer) (quiet, m))
        by true e = ahead_goes m (payload_of answer 32) e h (brings e)
        by false e = stands quiet m refl h

    -- ---- a transaction that is lost, or times out
    main_loses : (phase : Phase) (m : Machine) (cause : FailCause) → IsFed (record m { phase = phase }) → FedStep (main_lost phase (record m { phase = phase }) cause)
    main_loses phases.Fetching m cause h = fails (record m { phase = phases.Fetching }) cause
    main_loses phases.ReadingTable m cause h = fails (record m { phase = phases.ReadingTable }) cause
    main_loses (phases.ReadingData wanted) m cause h = fails (record m { phase = phases.ReadingData wanted }) cause
    main_loses phases.Answering m cause h = fails (record m { phase = phases.Answering }) cause
    main_loses phases.WritingStatus m cause h = dies (record m { phase = phases.WritingStatus }) cause
    main_loses phases.ReadingNext m cause h = dies (record m { phase = phases.ReadingNext }) cause
    main_loses phases.WritingLastStatus m cause h = quiet_step m phases.Dead refl h.ahead (h.idle refl)
    main_loses phases.Reset m cause h = stands quiet (record m { phase = phases.Reset }) refl h
    main_loses phases.Suspended m cause h = stands quiet (record m { phase = phases.Suspended }) refl h
    main_loses phases.Dead m cause h = stands quiet (record m { phase = phases.Dead }) refl h

    pub lost_feeds : (m : Machine) (which : Which) (cause : FailCause) → IsFed m → FedStep (lost_step m which cause)
    unfolding lost_step
    lost_feeds m Main cause h = main_loses m.phase m cause h
    lost_feeds m Ahead cause h = by (is_ahead m.ahead)
      where
        by : (b : Bool) → FedStep (cond b (ahead_lost m cause) (quiet, m))
        by true = forgets m cause h
        by false = stands quiet m refl h

    none_late : {A : Type 0} (bytes : List ℕ) (size : ℕ) → payload_of Expired size ≡ Ok bytes → A
    none_late bytes size e = absurd (let x : Err causes.Timeout ≡ Ok bytes = e in cc)

    late_hears : (m : Machine) → IsFed m → Hears m Expired
    late_hears m h = record {
      fetched = λ e. (h.main.fetching e, λ bytes f. none_late bytes 32 f);
      tabled = λ e. let t = h.main.tabling e in (t.empty, (t.reads, λ bytes f. none_late bytes (8 * m.orb.data_size) f));
      filled = λ wanted e bytes f. none_late bytes (chunk_of m (length m.payload) wanted).length f;
      ahead = h.ahead;
      idle = h.idle;
    }

    pub late_feeds : (m : Machine) (place : ℕ) (plain : PlainDisk) (told : Option Told) (which : Which) → IsFed m → FedStep (reply_step m place plain told which Expired)
    late_feeds m place plain told Main h = main_steps m place plain told Expired (late_hears m h)
    late_feeds m place plain told Ahead h = ahead_steps m place plain told Expired h (λ e offset f bytes g. none_late bytes 32 g)

    -- ---- its registers
    pub reset_feeds : (m : Machine) → IsFed (reset_step m)
    unfolding reset_step
    reset_feeds m = record { main = none_awaits Turned _ refl; ahead = tt; idle = λ x. refl }

    pub abort_feeds : (m : Machine) (orb : ℕ) → IsFed m → IsFed (abort_step m orb)
    unfolding abort_step
    abort_feeds m orb h = record { main = same_main m _ refl refl refl refl refl h.main; ahead = h.ahead; idle = h.idle }

    pointed_feeds : (m : Machine) (pointer : OrbPointer) → IsFed m → IsFed (pointed m pointer).1
    pointed_feeds m Null h = h
    pointed_feeds m (At next) h = (fetches m next).fed

    points_in : (state : AgentState) (m : Machine) (pointer : OrbPointer) → IsFed m → IsFed (point_in state m pointer).1
    points_in states.Reset m pointer h = pointed_feeds m pointer h
    points_in states.Suspended m pointer h = pointed_feeds m pointer h
    points_in states.Active m pointer h = h
    points_in states.Dead m pointer h = h

    pub point_feeds : (m : Machine) (pointer : OrbPointer) → IsFed m → IsFed (point_step m pointer).1
    unfolding point_step
    point_feeds m pointer h = points_in (state_in m.phase) m pointer h

    rung_feeds : (m : Machine) → IsFed m → IsFed (record m { doorbell = true })
    rung_feeds m h = record { main = same_main m _ refl refl refl refl refl h.main; ahead = h.ahead; idle = h.idle }

    bell_in : (phase : Phase) (m : Machine) → IsFed (record m { phase = phase }) → IsFed (doorbell_in (state_in phase) (record m { phase = phase })).1
    bell_in phases.Reset m h = h
    bell_in phases.Dead m h = h
    bell_in phases.WritingLastStatus m h = h
    bell_in phases.Suspended m h = (rereads (record m { phase = phases.Suspended }) (h.idle refl)).fed
    bell_in phases.Fetching m h = rung_feeds _ h
    bell_in phases.ReadingTable m h = rung_feeds _ h
    bell_in (phases.ReadingData wanted) m h = rung_feeds _ h
    bell_in phases.Answering m h = rung_feeds _ h
    bell_in phases.WritingStatus m h = rung_feeds _ h
    bell_in phases.ReadingNext m h = rung_feeds _ h

    pub bell_feeds : (m : Machine) → IsFed m → IsFed (doorbell_step m).1
    unfolding doorbell_step
    bell_feeds m h = bell_in m.phase m h

    pub new_feeds : IsFed new_machine
    new_feeds = record { main = none_awaits Turned new_machine refl; ahead = tt; idle = λ x. refl }

    -- a reply to a new agent leaves it as it is
    new_hears : (answer : Answer) → Hears new_machine answer
    new_hears answer = record {
      fetched = λ e. absurd (let x : phases.Reset ≡ phases.Fetching = e in cc);
      tabled = λ e. absurd (let x : phases.Reset ≡ phases.ReadingTable = e in cc);
      filled = λ wanted e bytes f. absurd (let x : phases.Reset ≡ phases.ReadingData wanted = e in cc);
      ahead = tt;
      idle = λ x. refl;
    }

    pub unheard_feeds : (place : ℕ) (plain : PlainDisk) (told : Option Told) (which : Which) (answer : Answer) → FedStep (reply_step new_machine place plain told which answer)
    unheard_feeds place plain told Main answer = main_steps new_machine place plain told answer (new_hears answer)
    unheard_feeds place plain told Ahead answer = ahead_steps new_machine place plain told answer new_feeds (λ e offset f bytes g. untrue e)
