-- How a reply to its main transaction leaves an agent that may come to rest, beside its progress: the doorbell mark is the one that rang since the latest read was sent, an agent is SUSPENDED only where its last
-- ORB's status is answered, with a null next pointer and no mark, and of a read ahead that is over nothing is left.
use Rattle.std.proofs.Common.{◌≡◌, ◌∙◌, refl, sym, ap, subst, ℕ, ◌+◌, ◌*◌, ◌==◌, ◌&&◌, ◌||◌, not, Bool, true, false, cond, List, ◌++◌, length, Option, Some, None, Result, Ok, Err}
use Rattle.orb_layout.specs.declared.ask.Ask.{Ask}
use Rattle.orb_layout.specs.declared.ask.Ask.TheVariants.{Nothing, Read}
use Rattle.orb_layout.specs.declared.ask.FailCause.{FailCause}
use Rattle.orb_layout.specs.declared.ask.FailCause.TheVariants as causes
use Rattle.orb_layout.specs.declared.command.CommandOrb.{CommandOrb}
use Rattle.orb_layout.specs.declared.pointer.OrbPointer.{OrbPointer}
use Rattle.orb_layout.specs.declared.pointer.OrbPointer.TheVariants.{At, Null}
use Rattle.orb_layout.specs.declared.status.StatusKind.{StatusKind}
use Rattle.orb_layout.specs.declared.status.StatusKind.TheVariants as kinds
use Rattle.orb_layout.specs.Pointers.{pointer_at}
use Rattle.orb_layout.specs.Replies.{Answer, Done, Expired, NoLabel, Payload, Refused, payload_of, write_failure}
use Rattle.page_table.specs.declared.fault.PageFault.{PageFault}
use Rattle.page_table.specs.Elements.{elements_of, first_fault}
use Rattle.rbc_disk.specs.declared.command.Need.{Need}
use Rattle.rbc_disk.specs.declared.command.Need.TheVariants as needs
use Rattle.rbc_disk.specs.declared.command.Outcome.{Outcome}
use Rattle.rbc_disk.specs.declared.command.Outcome.TheVariants as outcomes
use Rattle.rbc_disk.specs.Runs.{Told, need_of}
use Rattle.rbc_disk.specs.Units.{PlainDisk}
use Rattle.command_agent.specs.Checks.{death_by, reads_table, verdict}
use Rattle.command_agent.specs.Machine.{Machine, chunk_of, is_ahead, plan_of, rung_in}
use Rattle.command_agent.specs.Steps.{advanced, ahead_of, answer_chunk, answer_step, asks, check_step, checked, chunk_written, data_grown, data_read, data_step, dead_step, elements_read, end_step, fetch_step, follow_step, judge_step, judged, next_read, orb_read, quiet, ran_as, reply_step, reread_step, run_step, sent, served, status_written, table_read, told_or, turn_step, unread_buffer, wait_step}
use Rattle.command_agent.specs.declared.phase.Phase.{Phase}
use Rattle.command_agent.specs.declared.phase.Phase.TheVariants as phases
use Rattle.command_agent.specs.declared.phase.ReadAhead.{ReadAhead}
use Rattle.command_agent.specs.declared.phase.ReadAhead.TheVariants as aheads
use Rattle.command_agent.specs.declared.step.AgentStep.{AgentStep}
use Rattle.command_agent.specs.declared.step.Move.{Move}
use Rattle.command_agent.specs.declared.step.Move.TheVariants as moves
use Rattle.command_agent.specs.declared.step.Which.TheVariants.{Main}
use Rattle.sbp_laws.specs.Progress.{Progress, first_pointer, gets_main, turns, with_next}
use Rattle.sbp_laws.specs.Targets.{is_nothing}
use Rattle.sbp_world.proofs.Common.{some_none, untrue}
use Rattle.sbp_world.proofs.Lists.OrbSteps.{has_read, holds_read}
use Rattle.turn_laws.proofs.NextSteps.{AheadIs, IsTracked, NamesKept, null_idle, orb_first}
use Rattle.turn_laws.proofs.FetchSteps.{is_fetching}
use Rattle.turn_laws.proofs.HostMarks.{or_none}

-- ---- phases
abbrev pub is_suspended : Phase → Bool
is_suspended phases.Suspended = true
is_suspended phase = false

abbrev pub is_again : Phase → Bool
is_again phases.ReadingNext = true
is_again phase = false

abbrev pub is_status : Phase → Bool
is_status phases.WritingStatus = true
is_status phase = false

-- an ORB or a next pointer is read
abbrev pub reads_list : Phase → Bool
reads_list phases.Fetching = true
reads_list phases.ReadingNext = true
reads_list phase = false

abbrev pub is_idle : ReadAhead → Bool
is_idle aheads.Idle = true
is_idle ahead = false

-- the doorbell mark, with the one that a read ahead which was not sent yet has cleared
abbrev pub mark : Machine → (ahead : Ask) → Bool
mark m ahead = m.doorbell || (not (is_nothing ahead) && rung_in m.ahead)

-- of a machine, by what it asks for
pub record IsPaced (p : Progress) (ask ahead : Ask) (m : Machine) : Type 0 where
  pub rest : is_suspended m.phase ≡ true → (p.answered ≡ true) × ((p.next ≡ Null) × ((p.rung ≡ false) × (is_nothing ask ≡ true)))
  pub again : is_again m.phase ≡ true → p.answered ≡ true
  pub rung : has_read m.phase ≡ true → p.rung ≡ mark m ahead
  pub waits : reads_list m.phase ≡ true → is_nothing ask ≡ true → p.rung ≡ m.doorbell
  pub cleared : reads_list m.phase ≡ true → is_nothing ask ≡ false → m.doorbell ≡ false
  pub none : has_read m.phase ≡ true → is_idle m.ahead ≡ true → p.ahead ≡ None
  pub fetching : is_fetching m.phase ≡ true → is_nothing ask ≡ true → p.ahead ≡ None
  pub looks : is_nothing ahead ≡ false → (p.ahead ≡ None) × ((m.doorbell ≡ false) × ((is_ahead m.ahead ≡ true) × (has_read m.phase ≡ true)))
  pub status : is_status m.phase ≡ true → p.next ≡ m.orb.next

abbrev pub Paces : Progress → AgentStep × Machine → Type 0
Paces p s = IsPaced p s.0.ask s.0.ahead s.1

-- one that neither reads nor rests
pub idly : (p : Progress) (s : AgentStep × Machine) → is_suspended s.1.phase ≡ false → is_again s.1.phase ≡ false → has_read s.1.phase ≡ false → reads_list s.1.phase ≡ false → is_nothing s.0.ahead ≡ true → Paces p s
idly p (step, m) a b c d e =
    let f : is_fetching m.phase ≡ false = none_fetched m.phase d in
    let g : is_status m.phase ≡ false = none_status m.phase c in
    record {
      rest = λ x. untrue (sym a ∙ x);
      again = λ x. untrue (sym b ∙ x);
      rung = λ x. untrue (sym c ∙ x);
      waits = λ x. untrue (sym d ∙ x);
      cleared = λ x. untrue (sym d ∙ x);
      none = λ x. untrue (sym c ∙ x);
      fetching = λ x. untrue (sym f ∙ x);
      looks = λ x. untrue (sym x ∙ e);
      status = λ x. untrue (sym g ∙ x);
    }
  where
    none_fetched : (phase : Phase) → reads_list phase ≡ false → is_fetching phase ≡ false
    none_fetched phases.Fetching x = untrue (sym x)
    none_fetched phase x = refl

    none_status : (phase : Phase) → has_read phase ≡ false → is_status phase ≡ false
    none_status phases.WritingStatus x = untrue (sym x)
    none_status phase x = refl

-- ---- an ORB that was read
pub record HasRead (p : Progress) (m : Machine) : Type 0 where
  pub next : p.next ≡ m.orb.next
  pub rung : p.rung ≡ m.doorbell
  pub none : is_idle m.ahead ≡ true → p.ahead ≡ None

-- and no other one is read ahead
record Checks (p : Progress) (m : Machine) : Type 0 where
  read : HasRead p m
  ahead : p.ahead ≡ None

-- what goes on with it
record Lives (p : Progress) (s : AgentStep × Machine) : Type 0 where
  paces : Paces p s
  alive : s.0.dead ≡ None → has_read s.1.phase ≡ true
  rung : s.0.dead ≡ None → p.rung ≡ s.1.doorbell
  next : p.next ≡ s.1.orb.next

module _ (p : Progress) where
  -- a machine that has read
  reads : (ask : Ask) (m : Machine) → is_suspended m.phase ≡ false → is_again m.phase ≡ false → reads_list m.phase ≡ false → is_fetching m.phase ≡ false → HasRead p m → IsPaced p ask Nothing m
  reads ask m a b c d h = record {
    rest = λ x. untrue (sym a ∙ x);
    again = λ x. untrue (sym b ∙ x);
    rung = λ x. h.rung ∙ or_none m.doorbell;
    waits = λ x. untrue (sym c ∙ x);
    cleared = λ x. untrue (sym c ∙ x);
    none = λ x y. h.none y;
    fetching = λ x. untrue (sym d ∙ x);
    looks = λ x. untrue (sym x);
    status = λ x. h.next;
  }

  ends : (m : Machine) (kind : StatusKind) (dead : Option FailCause) → HasRead p m → Lives p (end_step m kind dead)
  ends m kind None h = record { paces = reads _ (end_step m kind None).1 refl refl refl refl (record { next = h.next; rung = h.rung; none = h.none }); alive = λ d. refl; rung = λ d. h.rung; next = h.next }
  ends m kind (Some cause) h = record { paces = idly p (end_step m kind (Some cause)) refl refl refl refl refl; alive = λ d. some_none cause d; rung = λ d. some_none cause d; next = h.next }

  fails : (m : Machine) (cause : FailCause) → Paces p (end_step m kinds.Failed (Some cause))
  fails m cause = idly p (end_step m kinds.Failed (Some cause)) refl refl refl refl refl

  dies : (m : Machine) (cause : FailCause) → Paces p (dead_step m cause)
  dies m cause = idly p (dead_step m cause) refl refl refl refl refl

  answers : (m : Machine) → HasRead p m → Lives p (answer_step m)
  answers m h = record { paces = reads _ (answer_step m).1 refl refl refl refl (record { next = h.next; rung = h.rung; none = h.none }); alive = λ d. refl; rung = λ d. h.rung; next = h.next }

  either : (b : Bool) (x y : AgentStep × Machine) → Lives p x → Lives p y → Lives p (cond b x y)
  either true x y h i = h
  either false x y h i = i

  ran : (m : Machine) (outcome : Outcome) → HasRead p m → Lives p (ran_as m outcome)
  ran m (outcomes.Check sense) h = ends m (kinds.Check sense) None h
  ran m (outcomes.Good len) h = either (len == 0) (end_step m kinds.Good None) (answer_step m) (ends m kinds.Good None h) (answers m h)

  same_lives : (s : AgentStep × Machine) (outcome : Outcome) → Lives p s → Lives p (record s.0 { ran = Some outcome }, s.1)
  same_lives s outcome h = record { paces = h.paces; alive = h.alive; rung = h.rung; next = h.next }

  runs : (m : Machine) (told : Told) → HasRead p m → Lives p (run_step m told)
  runs m told h =
      let n = record m { answer = told.answer; written = 0 } in
      same_lives (ran_as n told.outcome) told.outcome (ran n told.outcome (record { next = h.next; rung = h.rung; none = h.none }))

  fills : (m : Machine) (wanted : ℕ) → HasRead p m → Lives p (data_step m wanted)
  fills m wanted h = record { paces = reads _ (data_step m wanted).1 refl refl refl refl (record { next = h.next; rung = h.rung; none = h.none }); alive = λ d. refl; rung = λ d. h.rung; next = h.next }

  by_need : (m : Machine) (told : Told) (need : Need) → HasRead p m → Lives p (judged m told need)
  by_need m told needs.RunNow h = runs m told h
  by_need m told (needs.Payload len) h = fills m len h

  judges : (m : Machine) (place : ℕ) (plain : PlainDisk) (told : Told) → HasRead p m → Lives p (judge_step m place plain told)
  judges m place plain told h = by_need m told (need_of m.orb.cdb (plan_of m) plain place) h

  tables : (m : Machine) → HasRead p m → Lives p (asks (Read m.orb.descriptor (8 * m.orb.data_size)), record m { phase = phases.ReadingTable })
  tables m h = record { paces = reads _ (record m { phase = phases.ReadingTable }) refl refl refl refl (record { next = h.next; rung = h.rung; none = h.none }); alive = λ d. refl; rung = λ d. h.rung; next = h.next }

  checks : (m : Machine) (place : ℕ) (plain : PlainDisk) (told : Told) (found : Option StatusKind) → HasRead p m → Lives p (checked m place plain told found)
  checks m place plain told (Some kind) h = ends m kind (death_by kind) h
  checks m place plain told None h =
      let n = record m { segments = unread_buffer m.orb } in
      either (reads_table m.orb) (asks (Read m.orb.descriptor (8 * m.orb.data_size)), record m { phase = phases.ReadingTable }) (judge_step n place plain told) (tables m h)
      (judges n place plain told (record { next = h.next; rung = h.rung; none = h.none }))

  -- behind it the read ahead
  pub off : (phase : Phase) → has_read phase ≡ true → (is_suspended phase ≡ false) × ((is_again phase ≡ false) × ((reads_list phase ≡ false) × (is_fetching phase ≡ false)))
  off phases.Suspended e = untrue e
  off phases.ReadingNext e = untrue e
  off phases.Fetching e = untrue e
  off phases.ReadingTable e = (refl, (refl, (refl, refl)))
  off (phases.ReadingData wanted) e = (refl, (refl, (refl, refl)))
  off phases.Answering e = (refl, (refl, (refl, refl)))
  off phases.WritingStatus e = (refl, (refl, (refl, refl)))
  off phases.Reset e = (refl, (refl, (refl, refl)))
  off phases.WritingLastStatus e = (refl, (refl, (refl, refl)))
  off phases.Dead e = (refl, (refl, (refl, refl)))

  looks_ahead : (dead : Option FailCause) (next : OrbPointer) (s : AgentStep × Machine) → s.0.dead ≡ dead → p.ahead ≡ None → Lives p s → Paces p (ahead_of dead next s)
  looks_ahead None (At next) s d a h =
      let f = off s.1.phase (h.alive d) in
      record {
        rest = λ x. untrue (sym f.0 ∙ x);
        again = λ x. untrue (sym f.1.0 ∙ x);
        rung = λ x. h.rung d;
        waits = λ x. untrue (sym f.1.1.0 ∙ x);
        cleared = λ x. untrue (sym f.1.1.0 ∙ x);
        none = λ x y. untrue y;
        fetching = λ x. untrue (sym f.1.1.1 ∙ x);
        looks = λ x. (a, (refl, (refl, h.alive d)));
        status = λ x. h.next;
      }
  looks_ahead None Null s d a h = h.paces
  looks_ahead (Some cause) next s d a h = h.paces

  -- ---- moves
  abbrev Moves : Move × Machine → Type 0
  Moves (moves.Send step, m) = Paces p (step, m)
  Moves (moves.Check, m) = Checks p m
  Moves (moves.Judge, m) = HasRead p m
  Moves (moves.Run, m) = HasRead p m

  serves : (place : ℕ) (plain : PlainDisk) (told : Told) (r : Move × Machine) → Moves r → Paces p (served place plain told r.0 r.1)
  serves place plain told (moves.Send step, m) h = h
  serves place plain told (moves.Check, m) h =
      let s = check_step m place plain told in looks_ahead s.0.dead s.1.orb.next s refl h.ahead (checks m place plain told (verdict m.orb m.aborted) h.read)
  serves place plain told (moves.Judge, m) h = (judges m place plain told h).paces
  serves place plain told (moves.Run, m) h = (runs m told h).paces

  pick : (b : Bool) (x y : Move × Machine) → Moves x → Moves y → Moves (cond b x y)
  pick true x y h i = h
  pick false x y h i = i

  by_fault : (m : Machine) (bytes : List ℕ) (fault : Option PageFault) → HasRead p m → Moves (elements_read m bytes fault)
  by_fault m bytes None h = record { next = h.next; rung = h.rung; none = h.none }
  by_fault m bytes (Some fault) h = (ends m (kinds.Illegal 0xff) (Some causes.Grammar) h).paces

  tabled : (m : Machine) (r : Result (List ℕ) FailCause) → HasRead p m → Moves (table_read m r)
  tabled m (Err cause) h = fails m cause
  tabled m (Ok bytes) h =
      let fault = first_fault 0 (elements_of bytes) in
      pick m.aborted (sent (end_step m kinds.Aborted None)) (elements_read m bytes fault) (ends m kinds.Aborted None h).paces (by_fault m bytes fault h)

  filled : (m : Machine) (wanted : ℕ) (r : Result (List ℕ) FailCause) → HasRead p m → Moves (data_read m wanted r)
  filled m wanted (Err cause) h = fails m cause
  filled m wanted (Ok bytes) h =
      let n = record m { payload = m.payload ++ bytes } in
      let k : HasRead p n = record { next = h.next; rung = h.rung; none = h.none } in
      pick m.aborted (sent (end_step m kinds.Aborted None)) (data_grown n wanted) (ends m kinds.Aborted None h).paces (pick (length n.payload == wanted) (moves.Run, n) (sent (data_step n wanted)) k (fills n wanted k).paces)

  chunked : (m : Machine) (failure : Option FailCause) → HasRead p m → Moves (chunk_written m failure)
  chunked m (Some cause) h = fails m cause
  chunked m None h =
      let n = record m { written = m.written + answer_chunk m } in
      let k : HasRead p n = record { next = h.next; rung = h.rung; none = h.none } in
      (either (n.written == length n.answer) (end_step n kinds.Good None) (answer_step n) (ends n kinds.Good None k) (answers n k)).paces

  -- ---- behind an ORB: its status is answered, or its next pointer was read again
  pub fetches : (m : Machine) (next : ℕ) → Paces p (fetch_step m next)
  fetches m next = record {
    rest = λ x. untrue x;
    again = λ x. untrue x;
    rung = λ x. untrue x;
    waits = λ x y. untrue y;
    cleared = λ x y. refl;
    none = λ x. untrue x;
    fetching = λ x y. untrue y;
    looks = λ x. untrue (sym x);
    status = λ x. untrue x;
  }

  turned_by : (m : Machine) (next : ℕ) (ahead : ReadAhead) → p.ahead ≡ None → p.rung ≡ m.doorbell → ((orb : CommandOrb) → ahead ≡ aheads.Kept orb → p.next ≡ orb.next) → Moves (turn_step m next ahead)
  turned_by m next aheads.Idle a r f = fetches m next
  turned_by m next (aheads.UnderWay rung) a r f = record {
    rest = λ x. untrue x;
    again = λ x. untrue x;
    rung = λ x. untrue x;
    waits = λ x y. r;
    cleared = λ x y. untrue (sym y);
    none = λ x. untrue x;
    fetching = λ x y. a;
    looks = λ x. untrue (sym x);
    status = λ x. untrue x;
  }
  turned_by m next (aheads.Kept orb) a r f = record { read = record { next = f orb refl; rung = r; none = λ x. a }; ahead = a }

  waits_by : (m : Machine) → p.answered ≡ true → p.next ≡ Null → p.rung ≡ m.doorbell → Paces p (wait_step m)
  waits_by m a n r = by m.doorbell refl
    where
      by : (b : Bool) → m.doorbell ≡ b → Paces p (cond b (reread_step m) (quiet, record m { phase = phases.Suspended }))
      by true e = record {
        rest = λ x. untrue x;
        again = λ x. a;
        rung = λ x. untrue x;
        waits = λ x y. untrue y;
        cleared = λ x y. refl;
        none = λ x. untrue x;
        fetching = λ x. untrue x;
        looks = λ x. untrue (sym x);
        status = λ x. untrue x;
      }
      by false e = record {
        rest = λ x. (a, (n, (r ∙ e, refl)));
        again = λ x. untrue x;
        rung = λ x. untrue x;
        waits = λ x. untrue x;
        cleared = λ x. untrue x;
        none = λ x. untrue x;
        fetching = λ x. untrue x;
        looks = λ x. untrue (sym x);
        status = λ x. untrue x;
      }

  follows : (m : Machine) (next : OrbPointer) → ((at : ℕ) → next ≡ At at → p.ahead ≡ None) → p.rung ≡ m.doorbell → ((orb : CommandOrb) → m.ahead ≡ aheads.Kept orb → p.next ≡ orb.next) → (next ≡ Null → (p.answered ≡ true) × (p.next ≡ Null)) → Moves (follow_step m next)
  follows m (At next) a r f w = turned_by m next m.ahead (a next refl) r f
  follows m Null a r f w = let x = w refl in waits_by m x.0 x.1 r

-- ---- the reply to the main transaction, of an agent that asks for nothing
pub record IsHeld (p : Progress) (m : Machine) : Type 0 where
  pub again : is_again m.phase ≡ true → p.answered ≡ true
  pub rung : has_read m.phase ≡ true → p.rung ≡ m.doorbell
  pub waits : reads_list m.phase ≡ true → p.rung ≡ m.doorbell
  pub none : has_read m.phase ≡ true → is_idle m.ahead ≡ true → p.ahead ≡ None
  pub fetching : is_fetching m.phase ≡ true → p.ahead ≡ None
  pub status : is_status m.phase ≡ true → p.next ≡ m.orb.next
  pub rest : is_suspended m.phase ≡ true → (p.answered ≡ true) × ((p.next ≡ Null) × (p.rung ≡ false))

idle_flag : (ahead : ReadAhead) → ahead ≡ aheads.Idle → is_idle ahead ≡ true
idle_flag ahead e = ap is_idle e

-- what is got of the ORB, or of its next pointer, leaves all else
next_only : (got : Option OrbPointer) (p : Progress) → ((with_next got p).ahead ≡ p.ahead) × (((with_next got p).rung ≡ p.rung) × ((with_next got p).answered ≡ p.answered))
next_only None p = (refl, (refl, refl))
next_only (Some next) p = (refl, (refl, refl))

fetch_only : (answer : Answer) (p : Progress) → (let now = gets_main phases.Fetching answer p in (now.ahead ≡ p.ahead) × (now.rung ≡ p.rung))
fetch_only (Payload bytes) p = let n = next_only (first_pointer 32 bytes) p in (n.0, n.1.0)
fetch_only Done p = (refl, refl)
fetch_only (Refused rcode) p = (refl, refl)
fetch_only Expired p = (refl, refl)
fetch_only NoLabel p = (refl, refl)

again_only : (answer : Answer) (p : Progress) → (let now = gets_main phases.ReadingNext answer p in (now.ahead ≡ p.ahead) × ((now.rung ≡ p.rung) × (now.answered ≡ p.answered)))
again_only (Payload bytes) p = next_only (first_pointer 8 bytes) p
again_only Done p = (refl, (refl, refl))
again_only (Refused rcode) p = (refl, (refl, refl))
again_only Expired p = (refl, (refl, refl))
again_only NoLabel p = (refl, (refl, refl))

again_by : (bytes : List ℕ) (p : Progress) (b : Bool) → (length bytes == 8) ≡ b → (other : List ℕ) → cond b (Ok bytes) (Err causes.Grammar) ≡ Ok other → (gets_main phases.ReadingNext (Payload bytes) p).next ≡ pointer_at other 0
again_by bytes p true e other f =
    let same : bytes ≡ other = cc in
    ap (λ x. (with_next (cond {A = Option OrbPointer} x (Some (pointer_at bytes 0)) None) p).next) e ∙ ap (λ (x : List ℕ). pointer_at x 0) same
again_by bytes p false e other f = absurd (let no : Err causes.Grammar ≡ Ok other = f in cc)

again_first : (p : Progress) (answer : Answer) (bytes : List ℕ) → payload_of answer 8 ≡ Ok bytes → (gets_main phases.ReadingNext answer p).next ≡ pointer_at bytes 0
again_first p (Payload other) bytes e = again_by other p (length other == 8) refl bytes e
again_first p Done bytes e = absurd (let no : Err causes.Grammar ≡ Ok bytes = e in cc)
again_first p (Refused rcode) bytes e = absurd (let no : Err causes.Refused ≡ Ok bytes = e in cc)
again_first p Expired bytes e = absurd (let no : Err causes.Timeout ≡ Ok bytes = e in cc)
again_first p NoLabel bytes e = absurd (let no : Err causes.Label ≡ Ok bytes = e in cc)

-- the turn of an ORB that was read ahead
turns_rung : (got : Option OrbPointer) (p : Progress) → (turns got p).rung ≡ p.rung
turns_rung None p = refl
turns_rung (Some next) p = refl

turns_ahead : (got : Option OrbPointer) (p : Progress) → p.ahead ≡ got → (turns got p).ahead ≡ None
turns_ahead None p e = e
turns_ahead (Some next) p e = refl

module _ (p : Progress) (m : Machine) (t : IsTracked p m) (h : IsHeld p m) where
  fetched : (answer : Answer) → m.phase ≡ phases.Fetching → (r : Result (List ℕ) FailCause) → payload_of answer 32 ≡ r → Moves (gets_main phases.Fetching answer p) (orb_read m r)
  fetched answer e (Err cause) f = fails (gets_main phases.Fetching answer p) m cause
  fetched answer e (Ok bytes) f =
      let o = fetch_only answer p in
      let none = o.0 ∙ h.fetching (ap is_fetching e) in
      record { read = record { next = orb_first p answer bytes f; rung = o.1 ∙ h.waits (ap reads_list e); none = λ x. none }; ahead = none }

  held : (phase : Phase) → m.phase ≡ phase → holds_read phase ≡ true → has_read phase ≡ true → HasRead p m
  held phase e f g = record { next = t.main (ap holds_read e ∙ f); rung = h.rung (ap has_read e ∙ g); none = h.none (ap has_read e ∙ g) }

  kept_next : (orb : CommandOrb) → m.ahead ≡ aheads.Kept orb → (turns p.ahead p).next ≡ orb.next
  kept_next orb e = let k : NamesKept m.orb.next p.ahead orb = subst (AheadIs p.ahead m.orb.next) e t.ahead in ap (λ x. (turns x p).next) k.got_is

  status_moves : (answer : Answer) → m.phase ≡ phases.WritingStatus → Moves (gets_main phases.WritingStatus answer p) (status_written m (write_failure answer))
  status_moves (Payload bytes) e = dies p m causes.Grammar
  status_moves (Refused rcode) e = dies p m causes.Refused
  status_moves Expired e = dies p m causes.Timeout
  status_moves NoLabel e = dies p m causes.Label
  status_moves Done e =
      follows (turns p.ahead p) m m.orb.next (λ at f. turns_ahead p.ahead p refl) (turns_rung p.ahead p ∙ h.rung (ap has_read e)) kept_next
      (λ f.
      let none = h.none (ap has_read e) (idle_flag m.ahead (null_idle p.ahead m.orb.next m.ahead f t.ahead)) in
      (ap (λ got. (turns got p).answered) none, ap (λ got. (turns got p).next) none ∙ (h.status (ap is_status e) ∙ f)))

  next_got : (answer : Answer) → m.phase ≡ phases.ReadingNext → (r : Result (List ℕ) FailCause) → payload_of answer 8 ≡ r → Moves (gets_main phases.ReadingNext answer p) (next_read m r)
  next_got answer e (Err cause) f = dies (gets_main phases.ReadingNext answer p) m cause
  next_got answer e (Ok bytes) f =
      let o = again_only answer p in
      let next = pointer_at bytes 0 in
      let idle : m.ahead ≡ aheads.Idle = t.idle (ap has_read e) in
      let n = record m { orb = record m.orb { next = next } } in
      again_moves answer n next idle (o.1.0 ∙ h.waits (ap reads_list e)) (λ g. (o.1.1 ∙ h.again (ap is_again e), again_first p answer bytes f ∙ g))
    where
      again_moves : (answer : Answer) (n : Machine) (next : OrbPointer) → n.ahead ≡ aheads.Idle → (gets_main phases.ReadingNext answer p).rung ≡ n.doorbell → (next ≡ Null → ((gets_main phases.ReadingNext answer p).answered ≡ true) × ((gets_main phases.ReadingNext answer p).next ≡ Null))
          → Moves (gets_main phases.ReadingNext answer p) (follow_step n next)
      again_moves answer n (At next) i r w = again_turns (gets_main phases.ReadingNext answer p) n next n.ahead i
        where
          again_turns : (now : Progress) (n : Machine) (next : ℕ) (ahead : ReadAhead) → ahead ≡ aheads.Idle → Moves now (turn_step n next ahead)
          again_turns now n next aheads.Idle i = fetches now n next
          again_turns now n next (aheads.UnderWay rung) i = absurd (let no : aheads.UnderWay rung ≡ aheads.Idle = i in cc)
          again_turns now n next (aheads.Kept orb) i = absurd (let no : aheads.Kept orb ≡ aheads.Idle = i in cc)
      again_moves answer n Null i r w = let x = w refl in waits_by (gets_main phases.ReadingNext answer p) n x.0 x.1 r

  rests : m.phase ≡ phases.Suspended → Paces p (quiet, m)
  rests e = record {
    rest = λ x. let r = h.rest x in (r.0, (r.1.0, (r.1.1, refl)));
    again = λ x. untrue (sym (ap is_again e) ∙ x);
    rung = λ x. untrue (sym (ap has_read e) ∙ x);
    waits = λ x. untrue (sym (ap reads_list e) ∙ x);
    cleared = λ x. untrue (sym (ap reads_list e) ∙ x);
    none = λ x. untrue (sym (ap has_read e) ∙ x);
    fetching = λ x. untrue (sym (ap is_fetching e) ∙ x);
    looks = λ x. untrue (sym x);
    status = λ x. untrue (sym (ap is_status e) ∙ x);
  }

  main_moves : (phase : Phase) (answer : Answer) → m.phase ≡ phase → Moves (gets_main phase answer p) (advanced phase m answer)
  main_moves phases.Fetching answer e = fetched answer e (payload_of answer 32) refl
  main_moves phases.ReadingTable answer e = tabled p m (payload_of answer (8 * m.orb.data_size)) (held phases.ReadingTable e refl refl)
  main_moves (phases.ReadingData wanted) answer e = filled p m wanted (payload_of answer (chunk_of m (length m.payload) wanted).length) (held (phases.ReadingData wanted) e refl refl)
  main_moves phases.Answering answer e = chunked p m (write_failure answer) (held phases.Answering e refl refl)
  main_moves phases.WritingStatus answer e = status_moves answer e
  main_moves phases.ReadingNext answer e = next_got answer e (payload_of answer 8) refl
  main_moves phases.WritingLastStatus answer e = idly p (quiet, record m { phase = phases.Dead }) refl refl refl refl refl
  main_moves phases.Reset answer e = idly p (quiet, m) (ap is_suspended e) (ap is_again e) (ap has_read e) (ap reads_list e) refl
  main_moves phases.Suspended answer e = rests e
  main_moves phases.Dead answer e = idly p (quiet, m) (ap is_suspended e) (ap is_again e) (ap has_read e) (ap reads_list e) refl

  pub main_paces : (place : ℕ) (plain : PlainDisk) (told : Option Told) (answer : Answer) → Paces (gets_main m.phase answer p) (reply_step m place plain told Main answer)
  unfolding reply_step
  main_paces place plain told answer = serves (gets_main m.phase answer p) place plain (told_or told) (advanced m.phase m answer) (main_moves m.phase answer refl)
