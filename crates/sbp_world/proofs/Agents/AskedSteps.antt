-- What an agent has under way behind a step is what the step asked for.
use Rattle.sbp_world.proofs.Words.Std.{◌≡◌, refl, ap, sym, ◌∙◌, ℕ, ◌+◌, ◌*◌, ◌==◌, ◌++◌, Bool, true, false, cond, length, List, Option, Some, None, Result, Ok, Err, false≢true, true≢false}
use Rattle.sbp_world.proofs.Words.Target.{Need, Outcome, PlainDisk, need_of, Told, Phase, ReadAhead, AgentStep, Move, PointRefusal, AgentState, Ahead, Main, Machine, chunk_of, is_ahead, is_sent, plan_of, state_in, death_by, reads_table, verdict, abort_step, advanced, ahead_lost, ahead_of, ahead_read, ahead_step, answer_chunk, check_step, checked, chunk_written, data_grown, data_read, data_step, dead_step, doorbell_in, doorbell_step, elements_read, end_step, fetch_step, follow_step, judge_step, judged, lost_step, main_lost, next_read, orb_read, point_in, point_step, quiet, ran_as, reply_step, reread_step, run_step, sent, served, table_read, told_or, turn_step, turned, unread_buffer, wait_step, with_ahead, with_outcome, ahead_ask, ahead_under, main_ask, main_under}
use Rattle.sbp_world.proofs.Words.Initiator.{Ask, Read, FailCause, OrbPointer, At, Null, StatusKind, command_orb, pointer_at, Answer, payload_of, write_failure, PageFault, elements_of, first_fault}
use Rattle.sbp_world.proofs.Words.World.{IsBare, IsStill, IsUnder, UnderLaw, reads_none}
use Rattle.orb_layout.specs.declared.ask.FailCause.TheVariants as causes
use Rattle.orb_layout.specs.declared.status.StatusKind.TheVariants as kinds
use Rattle.rbc_disk.specs.declared.command.Need.TheVariants as needs
use Rattle.rbc_disk.specs.declared.command.Outcome.TheVariants as outcomes
use Rattle.command_agent.specs.declared.phase.Phase.TheVariants as phases
use Rattle.command_agent.specs.declared.phase.ReadAhead.TheVariants as aheads
use Rattle.command_agent.specs.declared.step.Move.TheVariants as moves
use Rattle.command_agent.specs.declared.step.AgentState.TheVariants as states
use Rattle.command_agent.specs.Steps.{answer_step, status_written}
use Rattle.command_agent.specs.Steps as steps
use Rattle.sbp_world.specs.Agents.Asked.{asks}
use Rattle.sbp_world.proofs.Agents.Sized.{answer_sized, idle_sized, nothing_sized, read_sized, write_sized}

-- ---- the present ORB ends, or the agent becomes dead
ends : (ahead : Ask) (m : Machine) (kind : StatusKind) (dead : Option FailCause) → (is_ahead m.ahead ≡ true → ahead_under m ≡ ahead) → IsUnder ahead (end_step m kind dead)
ends ahead m kind None h = record { main = λ e. refl; status = λ e. refl; turned = λ e. absurd (false≢true e); asked = λ e. absurd (false≢true e); kept = λ e f. h f; sized = write_sized (end_step m kind None).1 _ _ refl refl }
ends ahead m kind (Some cause) h = record { main = λ e. refl; status = λ e. refl; turned = λ e. absurd (false≢true e); asked = λ e. absurd (false≢true e); kept = λ e f. absurd (false≢true f); sized = write_sized (end_step m kind (Some cause)).1 _ _ refl refl }

dies : (ahead : Ask) (m : Machine) (cause : FailCause) → IsUnder ahead (dead_step m cause)
dies ahead m cause = record { main = λ e. absurd (false≢true e); status = λ e. absurd (false≢true e); turned = λ e. absurd (false≢true e); asked = λ e. absurd (false≢true e); kept = λ e f. absurd (false≢true f); sized = nothing_sized (dead_step m cause).1 refl }

under_if : (ahead : Ask) (b : Bool) (x y : AgentStep × Machine) → IsUnder ahead x → IsUnder ahead y → IsUnder ahead (cond b x y)
under_if ahead true x y p q = p
under_if ahead false x y p q = q

-- nothing is asked for
stays : (ahead : Ask) (m : Machine) → is_sent m.phase ≡ false → (is_ahead m.ahead ≡ true → ahead_under m ≡ ahead) → IsUnder ahead (quiet, m)
stays ahead m i h = record { main = λ e. absurd (false≢true e); status = λ e. absurd (false≢true e); turned = λ e. absurd (false≢true e); asked = λ e. absurd (false≢true e); kept = λ e f. h f; sized = idle_sized m i }

rereads : (ahead : Ask) (m : Machine) → (is_ahead m.ahead ≡ true → ahead_under m ≡ ahead) → IsUnder ahead (reread_step m)
rereads ahead m h = record { main = λ e. refl; status = λ e. refl; turned = λ e. absurd (false≢true e); asked = λ e. absurd (false≢true e); kept = λ e f. h f; sized = read_sized (reread_step m).1 _ _ refl }

waits : (ahead : Ask) (m : Machine) → (is_ahead m.ahead ≡ true → ahead_under m ≡ ahead) → IsUnder ahead (wait_step m)
waits ahead m h = under_if ahead m.doorbell (reread_step m) (quiet, record m { phase = phases.Suspended }) (rereads ahead m h) (stays ahead (record m { phase = phases.Suspended }) refl h)

-- ---- data and answers
takes : (ahead : Ask) (m : Machine) (wanted : ℕ) → (is_ahead m.ahead ≡ true → ahead_under m ≡ ahead) → IsUnder ahead (data_step m wanted)
takes ahead m wanted h = record { main = λ e. refl; status = λ e. refl; turned = λ e. absurd (false≢true e); asked = λ e. absurd (false≢true e); kept = λ e f. h f; sized = read_sized (data_step m wanted).1 _ _ refl }

answers : (ahead : Ask) (m : Machine) → (is_ahead m.ahead ≡ true → ahead_under m ≡ ahead) → IsUnder ahead (answer_step m)
answers ahead m h = record { main = λ e. refl; status = λ e. refl; turned = λ e. absurd (false≢true e); asked = λ e. absurd (false≢true e); kept = λ e f. h f; sized = answer_sized m }

-- ---- a command runs
outcome_told : (ahead : Ask) (outcome : Outcome) (s : AgentStep × Machine) → IsUnder ahead s → IsUnder ahead (with_outcome outcome s)
outcome_told ahead outcome s u = record { main = u.main; status = u.status; turned = u.turned; asked = u.asked; kept = u.kept; sized = u.sized }

ran : (ahead : Ask) (m : Machine) (outcome : Outcome) → (is_ahead m.ahead ≡ true → ahead_under m ≡ ahead) → IsUnder ahead (ran_as m outcome)
ran ahead m (outcomes.Check sense) h = ends ahead m (kinds.Check sense) None h
ran ahead m (outcomes.Good len) h = under_if ahead (len == 0) (end_step m kinds.Good None) (answer_step m) (ends ahead m kinds.Good None h) (answers ahead m h)

runs : (ahead : Ask) (m : Machine) (told : Told) → (is_ahead m.ahead ≡ true → ahead_under m ≡ ahead) → IsUnder ahead (run_step m told)
runs ahead m told h =
    let m' = record m { answer = told.answer; written = 0 } in
    outcome_told ahead told.outcome (ran_as m' told.outcome) (ran ahead m' told.outcome h)

judges : (ahead : Ask) (m : Machine) (told : Told) (need : Need) → (is_ahead m.ahead ≡ true → ahead_under m ≡ ahead) → IsUnder ahead (judged m told need)
judges ahead m told needs.RunNow h = runs ahead m told h
judges ahead m told (needs.Payload len) h = takes ahead m len h

-- ---- the checks of an ORB, behind which the read ahead may follow
tables : (ahead : Ask) (m : Machine) → (is_ahead m.ahead ≡ true → ahead_under m ≡ ahead) → IsUnder ahead (steps.asks (Read m.orb.descriptor (8 * m.orb.data_size)), record m { phase = phases.ReadingTable })
tables ahead m h = record { main = λ e. refl; status = λ e. refl; turned = λ e. absurd (false≢true e); asked = λ e. absurd (false≢true e); kept = λ e f. h f; sized = read_sized (record m { phase = phases.ReadingTable }) _ _ refl }

checks : (ahead : Ask) (v : Option StatusKind) (m : Machine) (place : ℕ) (plain : PlainDisk) (told : Told) → (is_ahead m.ahead ≡ true → ahead_under m ≡ ahead) → IsUnder ahead (checked m place plain told v)
checks ahead (Some kind) m place plain told h = ends ahead m kind (death_by kind) h
checks ahead None m place plain told h =
    let m' = record m { segments = unread_buffer m.orb } in
    under_if ahead (reads_table m.orb) (steps.asks (Read m.orb.descriptor (8 * m.orb.data_size)), record m { phase = phases.ReadingTable }) (judge_step m' place plain told)
    (tables ahead m h)
    (judges ahead m' told (need_of m'.orb.cdb (plan_of m') plain place) h)

main_still : (phase : Phase) (m : Machine) (ahead : ReadAhead) (doorbell aborted : Bool) → main_ask phase (record m { ahead = ahead; doorbell = doorbell; aborted = aborted }) ≡ main_ask phase m
main_still phases.Fetching m ahead doorbell aborted = refl
main_still _ m ahead doorbell aborted = refl

ahead_asks : (ahead : Ask) (dead : Option FailCause) (next : OrbPointer) (s : AgentStep × Machine) → s.0.promoted ≡ false → s.1.orb.next ≡ next → IsUnder ahead s → IsUnder ahead (ahead_of dead next s)
ahead_asks ahead None (At next) s p n u = record {
  main = λ e. main_still s.1.phase s.1 _ false s.1.aborted ∙ u.main e;
  status = u.status;
  turned = λ e. absurd (false≢true (sym p ∙ e));
  asked = λ e. ap (λ (o : OrbPointer). ahead_ask (aheads.UnderWay s.1.doorbell) o) n;
  kept = λ e f. absurd (true≢false e);
  sized = record { bytes = λ offset size e. u.sized.bytes offset size (sym (main_still s.1.phase s.1 _ false s.1.aborted) ∙ e) };
}
ahead_asks ahead None Null s p n u = u
ahead_asks ahead (Some cause) (At next) s p n u = u
ahead_asks ahead (Some cause) Null s p n u = u

checks_then : (ahead : Ask) (m : Machine) (place : ℕ) (plain : PlainDisk) (told : Told) → is_ahead m.ahead ≡ false → IsUnder ahead (with_ahead (check_step m place plain told))
checks_then ahead m place plain told h =
    let s = check_step m place plain told in
    ahead_asks ahead s.0.dead s.1.orb.next s (unturned (verdict m.orb m.aborted)) refl (checks ahead (verdict m.orb m.aborted) m place plain told (λ e. absurd (false≢true (sym h ∙ e))))
  where
    if_not : (b : Bool) (x y : AgentStep × Machine) → x.0.promoted ≡ false → y.0.promoted ≡ false → (cond b x y).0.promoted ≡ false
    if_not true x y p q = p
    if_not false x y p q = q

    ran_not : (n : Machine) (outcome : Outcome) → (ran_as n outcome).0.promoted ≡ false
    ran_not n (outcomes.Check sense) = refl
    ran_not n (outcomes.Good len) = if_not (len == 0) (end_step n kinds.Good None) (answer_step n) refl refl

    judged_not : (n : Machine) (need : Need) → (judged n told need).0.promoted ≡ false
    judged_not n needs.RunNow = ran_not (record n { answer = told.answer; written = 0 }) told.outcome
    judged_not n (needs.Payload len) = refl

    unturned : (v : Option StatusKind) → (checked m place plain told v).0.promoted ≡ false
    unturned (Some kind) = refl
    unturned None =
        let m' = record m { segments = unread_buffer m.orb } in
        if_not (reads_table m.orb) (steps.asks (Read m.orb.descriptor (8 * m.orb.data_size)), record m { phase = phases.ReadingTable }) (judge_step m' place plain told) refl (judged_not m' (need_of m'.orb.cdb (plan_of m') plain place))

-- ---- the replies
module _ (place : ℕ) (plain : PlainDisk) (told : Told) (ahead : Ask) where
  abbrev Moved : Move × Machine → Type 0
  Moved r = IsUnder ahead (served place plain told r.0 r.1)

  abbrev Reads : Machine → Type 0
  Reads m = is_ahead m.ahead ≡ true → ahead_under m ≡ ahead

  moved_if : (b : Bool) (x y : Move × Machine) → Moved x → Moved y → Moved (cond b x y)
  moved_if true x y p q = p
  moved_if false x y p q = q

  turns : (m : Machine) (next : ℕ) (a : ReadAhead) → (is_ahead a ≡ true → ahead_ask a (At next) ≡ ahead) → Moved (turn_step m next a)
  turns m next aheads.Idle h = record { main = λ e. refl; status = λ e. refl; turned = λ e. absurd (false≢true e); asked = λ e. absurd (false≢true e); kept = λ e f. absurd (false≢true f); sized = read_sized (fetch_step m next).1 _ _ refl }
  turns m next (aheads.UnderWay rung) h = record { main = λ e. absurd (false≢true e); status = λ e. absurd (false≢true e); turned = λ e. h refl; asked = λ e. absurd (false≢true e); kept = λ e f. absurd (false≢true f); sized = read_sized (turned m next) _ _ refl }
  turns m next (aheads.Kept orb) h = checks_then ahead (record (turned m next) { orb = orb }) place plain told refl

  follows : (m : Machine) (next : OrbPointer) → m.orb.next ≡ next → Reads m → Moved (follow_step m next)
  follows m (At next) e h = turns m next m.ahead (λ f. ap (λ (o : OrbPointer). ahead_ask m.ahead o) (sym e) ∙ h f)
  follows m Null e h = waits ahead m h

  status_is : (m : Machine) (failure : Option FailCause) → Reads m → Moved (status_written m failure)
  status_is m (Some cause) h = dies ahead m cause
  status_is m None h = follows m m.orb.next refl h

  next_is : (m : Machine) (read : Result (List ℕ) FailCause) → is_ahead m.ahead ≡ false → Moved (next_read m read)
  next_is m (Err cause) h = dies ahead m cause
  next_is m (Ok bytes) h = follows (record m { orb = record m.orb { next = pointer_at bytes 0 } }) (pointer_at bytes 0) refl (λ f. absurd (false≢true (sym h ∙ f)))

  orb_is : (m : Machine) (read : Result (List ℕ) FailCause) → is_ahead m.ahead ≡ false → Moved (orb_read m read)
  orb_is m (Err cause) h = ends ahead m kinds.Failed (Some cause) (λ f. absurd (false≢true (sym h ∙ f)))
  orb_is m (Ok bytes) h = checks_then ahead (record m { orb = command_orb bytes }) place plain told h

  elements_are : (m : Machine) (bytes : List ℕ) (fault : Option PageFault) → Reads m → Moved (elements_read m bytes fault)
  elements_are m bytes (Some fault) h = ends ahead m (kinds.Illegal 0xff) (Some causes.Grammar) h
  elements_are m bytes None h =
      let m' = record m { segments = elements_of bytes } in
      judges ahead m' told (need_of m'.orb.cdb (plan_of m') plain place) h

  table_is : (m : Machine) (read : Result (List ℕ) FailCause) → Reads m → Moved (table_read m read)
  table_is m (Err cause) h = ends ahead m kinds.Failed (Some cause) h
  table_is m (Ok bytes) h =
      moved_if m.aborted (sent (end_step m kinds.Aborted None)) (elements_read m bytes (first_fault 0 (elements_of bytes))) (ends ahead m kinds.Aborted None h)
      (elements_are m bytes (first_fault 0 (elements_of bytes)) h)

  grown_is : (m : Machine) (wanted : ℕ) → Reads m → Moved (data_grown m wanted)
  grown_is m wanted h = moved_if (length m.payload == wanted) (moves.Run, m) (sent (data_step m wanted)) (runs ahead m told h) (takes ahead m wanted h)

  data_is : (m : Machine) (wanted : ℕ) (read : Result (List ℕ) FailCause) → Reads m → Moved (data_read m wanted read)
  data_is m wanted (Err cause) h = ends ahead m kinds.Failed (Some cause) h
  data_is m wanted (Ok bytes) h =
      let m' = record m { payload = m.payload ++ bytes } in
      moved_if m.aborted (sent (end_step m kinds.Aborted None)) (data_grown m' wanted) (ends ahead m kinds.Aborted None h) (grown_is m' wanted h)

  chunk_is : (m : Machine) (failure : Option FailCause) → Reads m → Moved (chunk_written m failure)
  chunk_is m (Some cause) h = ends ahead m kinds.Failed (Some cause) h
  chunk_is m None h =
      let m' = record m { written = m.written + answer_chunk m } in
      under_if ahead (m'.written == length m'.answer) (end_step m' kinds.Good None) (answer_step m') (ends ahead m' kinds.Good None h) (answers ahead m' h)

  advances : (phase : Phase) (m : Machine) (answer : Answer) → m.phase ≡ phase → (reads_none phase ≡ true → is_ahead m.ahead ≡ false) → Reads m → Moved (advanced phase m answer)
  advances phases.Fetching m answer i b h = orb_is m (payload_of answer 32) (b refl)
  advances phases.ReadingTable m answer i b h = table_is m (payload_of answer (8 * m.orb.data_size)) h
  advances (phases.ReadingData wanted) m answer i b h = data_is m wanted (payload_of answer (chunk_of m (length m.payload) wanted).length) h
  advances phases.Answering m answer i b h = chunk_is m (write_failure answer) h
  advances phases.WritingStatus m answer i b h = status_is m (write_failure answer) h
  advances phases.ReadingNext m answer i b h = next_is m (payload_of answer 8) (b refl)
  advances phases.WritingLastStatus m answer i b h = stays ahead (record m { phase = phases.Dead }) refl h
  advances phases.Reset m answer i b h = stays ahead m (ap is_sent i) h
  advances phases.Suspended m answer i b h = stays ahead m (ap is_sent i) h
  advances phases.Dead m answer i b h = stays ahead m (ap is_sent i) h

replies : (m : Machine) (place : ℕ) (plain : PlainDisk) (told : Option Told) (answer : Answer) → IsBare m → IsUnder (ahead_under m) (reply_step m place plain told Main answer)
unfolding reply_step
replies m place plain told answer b = advances place plain (told_or told) (ahead_under m) m.phase m answer refl b.bare (λ e. refl)

-- ---- the losses
loses_by : (phase : Phase) (m : Machine) (cause : FailCause) → m.phase ≡ phase → IsUnder (ahead_under m) (main_lost phase m cause)
loses_by phases.Fetching m cause i = ends (ahead_under m) m kinds.Failed (Some cause) (λ e. refl)
loses_by phases.ReadingTable m cause i = ends (ahead_under m) m kinds.Failed (Some cause) (λ e. refl)
loses_by (phases.ReadingData wanted) m cause i = ends (ahead_under m) m kinds.Failed (Some cause) (λ e. refl)
loses_by phases.Answering m cause i = ends (ahead_under m) m kinds.Failed (Some cause) (λ e. refl)
loses_by phases.WritingStatus m cause i = dies (ahead_under m) m cause
loses_by phases.ReadingNext m cause i = dies (ahead_under m) m cause
loses_by phases.WritingLastStatus m cause i = stays (ahead_under m) (record m { phase = phases.Dead }) refl (λ e. refl)
loses_by phases.Reset m cause i = stays (ahead_under m) m (ap is_sent i) (λ e. refl)
loses_by phases.Suspended m cause i = stays (ahead_under m) m (ap is_sent i) (λ e. refl)
loses_by phases.Dead m cause i = stays (ahead_under m) m (ap is_sent i) (λ e. refl)

losses : (m : Machine) (cause : FailCause) → IsBare m → IsUnder (ahead_under m) (lost_step m Main cause)
unfolding lost_step
losses m cause b = loses_by m.phase m cause refl

-- ---- the read ahead is over
pub still : (m : Machine) (ahead : ReadAhead) (doorbell aborted : Bool) → IsStill m (record m { ahead = ahead; doorbell = doorbell; aborted = aborted })
still m ahead doorbell aborted = record { main = main_still m.phase m ahead doorbell aborted; phase = refl; outgoing = refl }

still_if : (m : Machine) (b : Bool) (x y : AgentStep × Machine) → IsStill m x.1 → IsStill m y.1 → IsStill m (cond b x y).1
still_if m true x y p q = p
still_if m false x y p q = q

read_still : (m : Machine) (read : Result (List ℕ) FailCause) → IsStill m (ahead_read m read).1
read_still m (Ok bytes) = still m (aheads.Kept (command_orb bytes)) m.doorbell m.aborted
read_still m (Err cause) = still m aheads.Idle _ m.aborted

ahead_replies : (m : Machine) (place : ℕ) (plain : PlainDisk) (told : Option Told) (answer : Answer) → IsStill m (reply_step m place plain told Ahead answer).1
unfolding reply_step
ahead_replies m place plain told answer = still_if m (is_ahead m.ahead) (ahead_step m answer) (quiet, m) (read_still m (payload_of answer 32)) (still m m.ahead m.doorbell m.aborted)

ahead_losses : (m : Machine) (cause : FailCause) → IsStill m (lost_step m Ahead cause).1
unfolding lost_step
ahead_losses m cause = still_if m (is_ahead m.ahead) (ahead_lost m cause) (quiet, m) (still m aheads.Idle _ m.aborted) (still m m.ahead m.doorbell m.aborted)

-- ---- pointers, doorbells and aborts
abbrev pub taken : Ask → Result Ask PointRefusal
taken ask = Ok ask

abbrev refused : PointRefusal → Result Ask PointRefusal
refused refusal = Err refusal

pub some_ask : (x y : Ask) → taken x ≡ taken y → x ≡ y
some_ask x y e = cc

none_ask : (r : PointRefusal) (y : Ask) → refused r ≡ taken y → ⊥
none_ask r y e = cc

points : (state : AgentState) (m : Machine) (pointer : OrbPointer) (ask : Ask) → (point_in state m pointer).0 ≡ Ok ask → main_under (point_in state m pointer).1 ≡ ask
points states.Reset m Null ask e = absurd (none_ask _ ask e)
points states.Reset m (At next) ask e = some_ask _ ask e
points states.Suspended m Null ask e = absurd (none_ask _ ask e)
points states.Suspended m (At next) ask e = some_ask _ ask e
points states.Active m pointer ask e = absurd (none_ask _ ask e)
points states.Dead m pointer ask e = absurd (none_ask _ ask e)

pointers : (m : Machine) (pointer : OrbPointer) (ask : Ask) → (point_step m pointer).0 ≡ Ok ask → main_under (point_step m pointer).1 ≡ ask
unfolding point_step
pointers m pointer ask e = points (state_in m.phase) m pointer ask e

rings : (state : AgentState) (m : Machine) → asks (doorbell_in state m).0 ≡ true → main_under (doorbell_in state m).1 ≡ (doorbell_in state m).0
rings states.Reset m e = absurd (false≢true e)
rings states.Suspended m e = refl
rings states.Active m e = absurd (false≢true e)
rings states.Dead m e = absurd (false≢true e)

doorbells : (m : Machine) → asks (doorbell_step m).0 ≡ true → main_under (doorbell_step m).1 ≡ (doorbell_step m).0
unfolding doorbell_step
doorbells m e = rings (state_in m.phase) m e

rung_still : (state : AgentState) (m : Machine) → asks (doorbell_in state m).0 ≡ false → IsStill m (doorbell_in state m).1
rung_still states.Reset m e = still m m.ahead m.doorbell m.aborted
rung_still states.Suspended m e = absurd (true≢false e)
rung_still states.Active m e = still m m.ahead true m.aborted
rung_still states.Dead m e = still m m.ahead m.doorbell m.aborted

rung : (m : Machine) → asks (doorbell_step m).0 ≡ false → IsStill m (doorbell_step m).1
unfolding doorbell_step
rung m e = rung_still (state_in m.phase) m e

aborts : (m : Machine) (orb : ℕ) → IsStill m (abort_step m orb)
unfolding abort_step
aborts m orb = still m m.ahead m.doorbell _

pub under_law : UnderLaw
under_law = record { replies = replies; losses = losses; ahead_replies = ahead_replies; ahead_losses = ahead_losses; pointers = pointers; doorbells = doorbells; rung = rung; aborts = aborts }
