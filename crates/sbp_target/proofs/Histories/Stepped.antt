-- What a step of an agent asks for, and what it has under way behind it.
use Rattle.std.proofs.Common.{arith, ◌≡◌, refl, sym, ap, ◌∙◌, subst, ℕ, ◌+◌, ◌-◌, ◌*◌, ◌==◌, ◌≤◌, ◌&&◌, ◌||◌, not, is_some, nat_lt, Bool, true, false, cond, List, [], ◌∷◌, ◌++◌, length, take, drop, min, Option, Some, None, Result, Ok, Err}
use Rattle.std.proofs.lemmas.Grind.{common_steps}
use Rattle.orb_layout.specs.declared.ask.Ask.{Ask}
use Rattle.orb_layout.specs.declared.ask.Ask.TheVariants.{Read, Write, Nothing}
use Rattle.orb_layout.specs.declared.ask.FailCause.{FailCause}
use Rattle.orb_layout.specs.declared.ask.FailCause.TheVariants as causes
use Rattle.orb_layout.specs.declared.pointer.OrbPointer.{OrbPointer}
use Rattle.orb_layout.specs.declared.pointer.OrbPointer.TheVariants.{Null, At}
use Rattle.orb_layout.specs.declared.status.StatusBlock.{StatusBlock}
use Rattle.orb_layout.specs.declared.status.StatusKind.{StatusKind}
use Rattle.orb_layout.specs.declared.status.StatusKind.TheVariants as kinds
use Rattle.orb_layout.specs.CommandOrbs.{command_orb}
use Rattle.orb_layout.specs.Pointers.{pointer_at}
use Rattle.orb_layout.specs.Replies.{Answer, payload_of, write_failure}
use Rattle.orb_layout.specs.StatusBlocks.{status_bytes}
use Rattle.page_table.specs.declared.fault.PageFault.{PageFault}
use Rattle.page_table.specs.declared.segment.Segment.{Segment}
use Rattle.page_table.specs.declared.segment.Chunk.{Chunk}
use Rattle.page_table.specs.Buffer.{chunk, chunk_from}
use Rattle.page_table.specs.Elements.{elements_of, first_fault}
use Rattle.rbc_disk.specs.declared.command.Need.{Need}
use Rattle.rbc_disk.specs.declared.command.Need.TheVariants as needs
use Rattle.rbc_disk.specs.declared.command.Outcome.{Outcome}
use Rattle.rbc_disk.specs.declared.command.Outcome.TheVariants as outcomes
use Rattle.rbc_disk.specs.Units.{PlainDisk}
use Rattle.rbc_disk.specs.Runs.{need_of, Told}
use Rattle.command_agent.specs.declared.phase.Phase.{Phase}
use Rattle.command_agent.specs.declared.phase.Phase.TheVariants as phases
use Rattle.command_agent.specs.declared.phase.ReadAhead.{ReadAhead}
use Rattle.command_agent.specs.declared.phase.ReadAhead.TheVariants as aheads
use Rattle.command_agent.specs.declared.step.AgentStep.{AgentStep}
use Rattle.command_agent.specs.declared.step.Move.{Move}
use Rattle.command_agent.specs.declared.step.Move.TheVariants as moves
use Rattle.command_agent.specs.declared.step.Which.TheVariants.{Main, Ahead}
use Rattle.command_agent.specs.Machine.{Machine, is_sent, is_ahead, plan_of, chunk_of, cut_to, limit_of}
use Rattle.command_agent.specs.Checks.{IsPassed, death_by, reads_table, verdict}
use Rattle.command_agent.proofs.Passing.{passes}
use Rattle.command_agent.specs.Steps.{quiet, asks, sent, told_or, end_step, fail_step, dead_step, turned, fetch_step, reread_step, turn_step, wait_step, follow_step, status_written, next_read, orb_read, elements_read, table_read, data_step, data_grown, data_read, answer_chunk, answer_step, chunk_written, advanced, with_outcome, ran_as, run_step, judged, judge_step, unread_buffer, checked, check_step, ahead_of, with_ahead, served, ahead_lost, ahead_read, ahead_step, reply_step, main_lost, lost_step, block_of}
use Rattle.command_agent.proofs.Limits.{limit_few}

abbrev pub is_asked : Ask → Bool
is_asked Nothing = false
is_asked (Read offset size) = true
is_asked (Write offset size) = true

abbrev pub is_next : OrbPointer → Bool
is_next Null = false
is_next (At next) = true

-- a packet can carry what is asked for
abbrev pub Carries : Ask → List ℕ → Type 0
Carries Nothing outgoing = Unit {0}
Carries (Read offset size) outgoing = size ≤ 2048
Carries (Write offset size) outgoing = length outgoing ≤ 2048

-- in these phases nothing is read ahead; in the last three the buffer is in use
abbrev pub is_bare : Phase → Bool
is_bare phases.Reset = true
is_bare phases.Fetching = true
is_bare phases.Suspended = true
is_bare phases.ReadingNext = true
is_bare phases.WritingLastStatus = true
is_bare phases.Dead = true
is_bare phases.WritingStatus = false
is_bare phases.ReadingTable = false
is_bare (phases.ReadingData wanted) = false
is_bare phases.Answering = false

abbrev pub moves_data : Phase → Bool
moves_data phases.ReadingTable = true
moves_data (phases.ReadingData wanted) = true
moves_data phases.Answering = true
moves_data _ = false

pub record Fit (m : Machine) : Type 0 where
  pub bare : is_bare m.phase ≡ true → is_ahead m.ahead ≡ false
  pub next : is_ahead m.ahead ≡ true → is_next m.orb.next ≡ true
  pub limit : moves_data m.phase ≡ true → m.orb.max_payload ≤ 9

-- Behind a step to whose main transaction a reply came, or that failed; `had` says whether a read ahead was under way.
pub record Behind (had : Bool) (s : AgentStep × Machine) : Type 0 where
  pub fit : Fit s.1
  pub carried : Carries s.0.ask s.1.outgoing
  pub carried_ahead : Carries s.0.ahead s.1.outgoing
  pub main : is_sent s.1.phase ≡ (is_asked s.0.ask || s.0.promoted)
  pub ahead : is_ahead s.1.ahead ≡ (is_asked s.0.ahead || (had && not (is_some s.0.dead || s.0.promoted)))
  pub alone : is_asked s.0.ahead ≡ true → (had ≡ false) × (is_some s.0.dead ≡ false) × (is_asked s.0.ask ≡ true)
  pub turns : s.0.promoted ≡ true → (had ≡ true) × (is_asked s.0.ask ≡ false) × (is_some s.0.dead ≡ false)

off : true ≡ false → ⊥
off e = cc

on : false ≡ true → ⊥
on e = cc

hold : (b : Bool) → b ≡ (false || (b && not (false || false)))
hold true = refl
hold false = refl

gone : (b : Bool) → false ≡ (false || (b && not (true || false)))
gone true = refl
gone false = refl

-- a status block is small
small_quads : (kind : StatusKind) (block : StatusBlock) → length (status_bytes (record block { kind = kind })) ≤ 2048
small_quads kinds.Good block = grind (arith, common_steps)
small_quads (kinds.Check sense) block = grind (arith, common_steps)
small_quads kinds.Dummy block = grind (arith, common_steps)
small_quads kinds.Aborted block = grind (arith, common_steps)
small_quads (kinds.Illegal meaning) block = grind (arith, common_steps)
small_quads kinds.Failed block = grind (arith, common_steps)
small_quads (kinds.Management meaning) block = grind (arith, common_steps)

small_status : (m : Machine) (kind : StatusKind) → length (status_bytes (block_of m kind)) ≤ 2048
small_status m kind = small_quads kind (block_of m kind)

-- a chunk has no more bytes than its limit
chunk_if : (b : Bool) (x y : Option Chunk) (left limit : ℕ) → (cut_to left x).length ≤ limit → (cut_to left y).length ≤ limit → (cut_to left (cond b x y)).length ≤ limit
chunk_if true x y left limit h i = h
chunk_if false x y left limit h i = i

small_min : (left limit size : ℕ) → min left (min limit size) ≤ limit
small_min left limit size = omega arith

chunk_small : (segments : List Segment) (done limit left : ℕ) → (cut_to left (chunk_from segments done limit)).length ≤ limit
chunk_small [] done limit left = omega arith
chunk_small (segment ∷ rest) done limit left =
    chunk_if (nat_lt done segment.length) (Some (chunk (segment.base + done) (min limit (segment.length - done)))) (chunk_from rest (done - segment.length) limit) left limit
    (small_min left limit (segment.length - done)) (chunk_small rest (done - segment.length) limit left)

piece_small : (m : Machine) (done total : ℕ) → m.orb.max_payload ≤ 9 → (chunk_of m done total).length ≤ 2048
piece_small m done total h =
    let a = chunk_small m.segments done (limit_of m.orb) (total - done) in let b = limit_few m.orb.max_payload h in omega arith

took_small : (n : ℕ) (xs : List ℕ) → n ≤ 2048 → length (take n xs) ≤ 2048
took_small n xs h = grind (arith, common_steps)

-- ---- steps
abbrev Next : Machine → Type 0
Next m = is_ahead m.ahead ≡ true → is_next m.orb.next ≡ true

behind_end : (m : Machine) (kind : StatusKind) (dead : Option FailCause) → Next m → Behind (is_ahead m.ahead) (end_step m kind dead)
behind_end m kind None n = record {
  fit = record { bare = λ e. absurd (on e); next = n; limit = λ e. absurd (on e) };
  carried = small_status m kind;
  carried_ahead = tt;
  main = refl;
  ahead = hold (is_ahead m.ahead);
  alone = λ e. absurd (on e);
  turns = λ e. absurd (on e);
}
behind_end m kind (Some cause) n = record {
  fit = record { bare = λ e. refl; next = λ e. absurd (on e); limit = λ e. absurd (on e) };
  carried = small_status m kind;
  carried_ahead = tt;
  main = refl;
  ahead = gone (is_ahead m.ahead);
  alone = λ e. absurd (on e);
  turns = λ e. absurd (on e);
}

behind_dead : (m : Machine) (cause : FailCause) → Behind (is_ahead m.ahead) (dead_step m cause)
behind_dead m cause = record {
  fit = record { bare = λ e. refl; next = λ e. absurd (on e); limit = λ e. absurd (on e) };
  carried = tt;
  carried_ahead = tt;
  main = refl;
  ahead = gone (is_ahead m.ahead);
  alone = λ e. absurd (on e);
  turns = λ e. absurd (on e);
}

-- a step that only asks for something, in a phase with a main transaction
asking : (had : Bool) (m : Machine) (ask : Ask) → Fit m → Carries ask m.outgoing → is_asked ask ≡ true → is_sent m.phase ≡ true → is_ahead m.ahead ≡ had → Behind had (asks ask, m)
asking had m ask f c a s h = record {
  fit = f;
  carried = c;
  carried_ahead = tt;
  main = s ∙ sym (ap (λ (b : Bool). b || false) a);
  ahead = h ∙ hold had;
  alone = λ e. absurd (on e);
  turns = λ e. absurd (on e);
}

pub behind_fetch : (m : Machine) (next : ℕ) → Behind false (fetch_step m next)
behind_fetch m next =
    asking false (fetch_step m next).1 (fetch_step m next).0.ask
    (record { bare = λ e. refl; next = λ e. absurd (on e); limit = λ e. absurd (on e) }) (omega arith) refl refl refl

pub behind_reread : (m : Machine) → is_ahead m.ahead ≡ false → Behind false (reread_step m)
behind_reread m h =
    asking false (reread_step m).1 (Read m.present 8)
    (record { bare = λ e. h; next = λ e. absurd (on (sym h ∙ e)); limit = λ e. absurd (on e) }) (omega arith) refl refl h

behind_suspend : (m : Machine) → is_ahead m.ahead ≡ false → Behind false (quiet, record m { phase = phases.Suspended })
behind_suspend m h = record {
  fit = record { bare = λ e. h; next = λ e. absurd (on (sym h ∙ e)); limit = λ e. absurd (on e) };
  carried = tt;
  carried_ahead = tt;
  main = refl;
  ahead = h;
  alone = λ e. absurd (on e);
  turns = λ e. absurd (on e);
}

behind_if : (had b : Bool) (x y : AgentStep × Machine) → Behind had x → Behind had y → Behind had (cond b x y)
behind_if had true x y p q = p
behind_if had false x y p q = q

behind_wait : (m : Machine) → is_ahead m.ahead ≡ false → Behind false (wait_step m)
behind_wait m h = behind_if false m.doorbell (reread_step m) (quiet, record m { phase = phases.Suspended }) (behind_reread m h) (behind_suspend m h)

behind_data : (m : Machine) (wanted : ℕ) → Next m → m.orb.max_payload ≤ 9 → Behind (is_ahead m.ahead) (data_step m wanted)
behind_data m wanted n l =
    asking (is_ahead m.ahead) (data_step m wanted).1 (data_step m wanted).0.ask
    (record { bare = λ e. absurd (on e); next = n; limit = λ e. l }) (piece_small m (length m.payload) wanted l) refl refl refl

behind_answer : (m : Machine) → Next m → m.orb.max_payload ≤ 9 → Behind (is_ahead m.ahead) (answer_step m)
behind_answer m n l =
    asking (is_ahead m.ahead) (answer_step m).1 (answer_step m).0.ask
    (record { bare = λ e. absurd (on e); next = n; limit = λ e. l })
    (took_small (answer_chunk m) (drop m.written m.answer) (piece_small m m.written (length m.answer) l)) refl refl refl

-- ---- a command runs
told_outcome : (had : Bool) (outcome : Outcome) (s : AgentStep × Machine) → Behind had s → Behind had (with_outcome outcome s)
told_outcome had outcome s b = record { fit = b.fit; carried = b.carried; carried_ahead = b.carried_ahead; main = b.main; ahead = b.ahead; alone = b.alone; turns = b.turns }

behind_ran : (m : Machine) (outcome : Outcome) → Next m → m.orb.max_payload ≤ 9 → Behind (is_ahead m.ahead) (ran_as m outcome)
behind_ran m (outcomes.Check sense) n l = behind_end m (kinds.Check sense) None n
behind_ran m (outcomes.Good len) n l = behind_if (is_ahead m.ahead) (len == 0) (end_step m kinds.Good None) (answer_step m) (behind_end m kinds.Good None n) (behind_answer m n l)

behind_run : (m : Machine) (told : Told) → Next m → m.orb.max_payload ≤ 9 → Behind (is_ahead m.ahead) (run_step m told)
behind_run m told n l =
    let m' = record m { answer = told.answer; written = 0 } in
    told_outcome (is_ahead m.ahead) told.outcome (ran_as m' told.outcome) (behind_ran m' told.outcome n l)

behind_judged : (m : Machine) (told : Told) (need : Need) → Next m → m.orb.max_payload ≤ 9 → Behind (is_ahead m.ahead) (judged m told need)
behind_judged m told needs.RunNow n l = behind_run m told n l
behind_judged m told (needs.Payload len) n l = behind_data m len n l

behind_judge : (m : Machine) (place : ℕ) (plain : PlainDisk) (told : Told) → Next m → m.orb.max_payload ≤ 9 → Behind (is_ahead m.ahead) (judge_step m place plain told)
behind_judge m place plain told n l = behind_judged m told (need_of m.orb.cdb (plan_of m) plain place) n l

-- ---- the checks of an ORB
-- behind the checks the read ahead may follow
record Checked (s : AgentStep × Machine) : Type 0 where
  behind : Behind false s
  asked : is_asked s.0.ask ≡ true
  quiet_ahead : is_asked s.0.ahead ≡ false
  unturned : s.0.promoted ≡ false
  open_phase : is_some s.0.dead ≡ false → is_bare s.1.phase ≡ false

checked_if : (b : Bool) (x y : AgentStep × Machine) → (b ≡ true → Checked x) → Checked y → Checked (cond b x y)
checked_if true x y p q = p refl
checked_if false x y p q = q

checked_end : (m : Machine) (kind : StatusKind) (dead : Option FailCause) → is_ahead m.ahead ≡ false → Checked (end_step m kind dead)
checked_end m kind dead h = record {
  behind = subst (λ (b : Bool). Behind b (end_step m kind dead)) h (behind_end m kind dead (λ e. absurd (on (sym h ∙ e))));
  asked = refl;
  quiet_ahead = refl;
  unturned = refl;
  open_phase = opened dead;
}
  where
    opened : (dead : Option FailCause) → is_some dead ≡ false → is_bare (end_step m kind dead).1.phase ≡ false
    opened None e = refl
    opened (Some cause) e = absurd (off e)

checked_ran : (m : Machine) (outcome : Outcome) → is_ahead m.ahead ≡ false → m.orb.max_payload ≤ 9 → Checked (ran_as m outcome)
checked_ran m (outcomes.Check sense) h l = checked_end m (kinds.Check sense) None h
checked_ran m (outcomes.Good len) h l = checked_if (len == 0) (end_step m kinds.Good None) (answer_step m) (λ e. checked_end m kinds.Good None h) (record {
  behind = subst (λ (b : Bool). Behind b (answer_step m)) h (behind_answer m (λ e. absurd (on (sym h ∙ e))) l);
  asked = refl;
  quiet_ahead = refl;
  unturned = refl;
  open_phase = λ e. refl;
})

checked_outcome : (outcome : Outcome) (s : AgentStep × Machine) → Checked s → Checked (with_outcome outcome s)
checked_outcome outcome s c = record { behind = told_outcome false outcome s c.behind; asked = c.asked; quiet_ahead = c.quiet_ahead; unturned = c.unturned; open_phase = c.open_phase }

checked_judged : (m : Machine) (told : Told) (need : Need) → is_ahead m.ahead ≡ false → m.orb.max_payload ≤ 9 → Checked (judged m told need)
checked_judged m told needs.RunNow h l =
    let m' = record m { answer = told.answer; written = 0 } in
    checked_outcome told.outcome (ran_as m' told.outcome) (checked_ran m' told.outcome h l)
checked_judged m told (needs.Payload len) h l = record {
  behind = subst (λ (b : Bool). Behind b (data_step m len)) h (behind_data m len (λ e. absurd (on (sym h ∙ e))) l);
  asked = refl;
  quiet_ahead = refl;
  unturned = refl;
  open_phase = λ e. refl;
}

table_some : (a b : Bool) → (a && b) ≡ true → a ≡ true
table_some true b e = refl
table_some false b e = e

reads_table_step : (m : Machine) → is_ahead m.ahead ≡ false → IsPassed m.orb → reads_table m.orb ≡ true → Checked (asks (Read m.orb.descriptor (8 * m.orb.data_size)), record m { phase = phases.ReadingTable })
reads_table_step m h p r = record {
  behind = asking false (record m { phase = phases.ReadingTable }) (Read m.orb.descriptor (8 * m.orb.data_size))
      (record { bare = λ e. absurd (on e); next = λ e. absurd (on (sym h ∙ e)); limit = λ e. p.limit })
      (let f = p.few (table_some m.orb.has_table (not (m.orb.data_size == 0)) r) in omega arith) refl refl h;
  asked = refl;
  quiet_ahead = refl;
  unturned = refl;
  open_phase = λ e. refl;
}

checked_by : (v : Option StatusKind) (m : Machine) (place : ℕ) (plain : PlainDisk) (told : Told) → verdict m.orb m.aborted ≡ v → is_ahead m.ahead ≡ false → Checked (checked m place plain told v)
checked_by (Some kind) m place plain told e h = checked_end m kind (death_by kind) h
checked_by None m place plain told e h =
    let p = passes m.orb m.aborted e in
    let m' = record m { segments = unread_buffer m.orb } in
    checked_if (reads_table m.orb) (asks (Read m.orb.descriptor (8 * m.orb.data_size)), record m { phase = phases.ReadingTable }) (judge_step m' place plain told)
    (λ r. reads_table_step m h p r)
    (checked_judged m' told (need_of m'.orb.cdb (plan_of m') plain place) h p.limit)

checked_all : (m : Machine) (place : ℕ) (plain : PlainDisk) (told : Told) → is_ahead m.ahead ≡ false → Checked (check_step m place plain told)
checked_all m place plain told h = checked_by (verdict m.orb m.aborted) m place plain told refl h

behind_ahead : (dead : Option FailCause) (next : OrbPointer) (s : AgentStep × Machine) → s.0.dead ≡ dead → s.1.orb.next ≡ next → Checked s → Behind false (ahead_of dead next s)
behind_ahead None (At next) s d n c =
    let alive : is_some s.0.dead ≡ false = ap (λ (o : Option FailCause). is_some o) d in
    record {
      fit = record {
        bare = λ e. absurd (on (sym (c.open_phase alive) ∙ e));
        next = λ e. ap (λ (p : OrbPointer). is_next p) n;
        limit = c.behind.fit.limit;
      };
      carried = c.behind.carried;
      carried_ahead = omega arith;
      main = c.behind.main;
      ahead = refl;
      alone = λ e. (refl, alive, c.asked);
      turns = λ e. absurd (on (sym c.unturned ∙ e));
    }
behind_ahead None Null s d n c = c.behind
behind_ahead (Some cause) (At next) s d n c = c.behind
behind_ahead (Some cause) Null s d n c = c.behind

behind_checks : (m : Machine) (place : ℕ) (plain : PlainDisk) (told : Told) → is_ahead m.ahead ≡ false → Behind false (with_ahead (check_step m place plain told))
behind_checks m place plain told h =
    let s = check_step m place plain told in behind_ahead s.0.dead s.1.orb.next s refl refl (checked_all m place plain told h)

-- ---- after the status write
not_ahead : (a n : Bool) → (a ≡ true → n ≡ true) → n ≡ false → a ≡ false
not_ahead true n h e = absurd (off (sym (h refl) ∙ e))
not_ahead false n h e = refl

module _ (place : ℕ) (plain : PlainDisk) (told : Told) where
  abbrev Moved : Bool → Move × Machine → Type 0
  Moved had r = Behind had (served place plain told r.0 r.1)

  moved_if : (had b : Bool) (x y : Move × Machine) → Moved had x → Moved had y → Moved had (cond b x y)
  moved_if had true x y p q = p
  moved_if had false x y p q = q

  behind_turn : (m : Machine) (next : ℕ) (ahead : ReadAhead) → Moved (is_ahead ahead) (turn_step m next ahead)
  behind_turn m next aheads.Idle = behind_fetch m next
  behind_turn m next (aheads.UnderWay rung) = record {
    fit = record { bare = λ e. refl; next = λ e. absurd (on e); limit = λ e. absurd (on e) };
    carried = tt;
    carried_ahead = tt;
    main = refl;
    ahead = refl;
    alone = λ e. absurd (on e);
    turns = λ e. (refl, refl, refl);
  }
  behind_turn m next (aheads.Kept orb) = behind_checks (record (turned m next) { orb = orb }) place plain told refl

  behind_follow : (m : Machine) (next : OrbPointer) → (is_next next ≡ false → is_ahead m.ahead ≡ false) → Moved (is_ahead m.ahead) (follow_step m next)
  behind_follow m (At next) h = behind_turn m next m.ahead
  behind_follow m Null h = subst (λ (b : Bool). Behind b (wait_step m)) (sym (h refl)) (behind_wait m (h refl))

  behind_status : (m : Machine) (failure : Option FailCause) → Next m → Moved (is_ahead m.ahead) (status_written m failure)
  behind_status m (Some cause) n = behind_dead m cause
  behind_status m None n = behind_follow m m.orb.next (λ e. not_ahead (is_ahead m.ahead) (is_next m.orb.next) n e)

  behind_next : (m : Machine) (read : Result (List ℕ) FailCause) → is_ahead m.ahead ≡ false → Moved (is_ahead m.ahead) (next_read m read)
  behind_next m (Err cause) h = behind_dead m cause
  behind_next m (Ok bytes) h = behind_follow (record m { orb = record m.orb { next = pointer_at bytes 0 } }) (pointer_at bytes 0) (λ e. h)

  behind_orb : (m : Machine) (read : Result (List ℕ) FailCause) → is_ahead m.ahead ≡ false → Moved (is_ahead m.ahead) (orb_read m read)
  behind_orb m (Err cause) h = behind_end m kinds.Failed (Some cause) (λ e. absurd (on (sym h ∙ e)))
  behind_orb m (Ok bytes) h =
      let m' = record m { orb = command_orb bytes } in
      subst (λ (b : Bool). Behind b (with_ahead (check_step m' place plain told))) (sym h) (behind_checks m' place plain told h)

  behind_elements : (m : Machine) (bytes : List ℕ) (fault : Option PageFault) → Next m → m.orb.max_payload ≤ 9 → Moved (is_ahead m.ahead) (elements_read m bytes fault)
  behind_elements m bytes (Some fault) n l = behind_end m (kinds.Illegal 0xff) (Some causes.Grammar) n
  behind_elements m bytes None n l = behind_judge (record m { segments = elements_of bytes }) place plain told n l

  behind_table : (m : Machine) (read : Result (List ℕ) FailCause) → Next m → m.orb.max_payload ≤ 9 → Moved (is_ahead m.ahead) (table_read m read)
  behind_table m (Err cause) n l = behind_end m kinds.Failed (Some cause) n
  behind_table m (Ok bytes) n l =
      moved_if (is_ahead m.ahead) m.aborted (sent (end_step m kinds.Aborted None)) (elements_read m bytes (first_fault 0 (elements_of bytes))) (behind_end m kinds.Aborted None n)
      (behind_elements m bytes (first_fault 0 (elements_of bytes)) n l)

  behind_grown : (m : Machine) (wanted : ℕ) → Next m → m.orb.max_payload ≤ 9 → Moved (is_ahead m.ahead) (data_grown m wanted)
  behind_grown m wanted n l =
      moved_if (is_ahead m.ahead) (length m.payload == wanted) (moves.Run, m) (sent (data_step m wanted)) (behind_run m told n l) (behind_data m wanted n l)

  behind_chunk : (m : Machine) (wanted : ℕ) (read : Result (List ℕ) FailCause) → Next m → m.orb.max_payload ≤ 9 → Moved (is_ahead m.ahead) (data_read m wanted read)
  behind_chunk m wanted (Err cause) n l = behind_end m kinds.Failed (Some cause) n
  behind_chunk m wanted (Ok bytes) n l =
      let m' = record m { payload = m.payload ++ bytes } in
      moved_if (is_ahead m.ahead) m.aborted (sent (end_step m kinds.Aborted None)) (data_grown m' wanted) (behind_end m kinds.Aborted None n) (behind_grown m' wanted n l)

  behind_written : (m : Machine) (failure : Option FailCause) → Next m → m.orb.max_payload ≤ 9 → Moved (is_ahead m.ahead) (chunk_written m failure)
  behind_written m (Some cause) n l = behind_end m kinds.Failed (Some cause) n
  behind_written m None n l =
      let m' = record m { written = m.written + answer_chunk m } in
      behind_if (is_ahead m.ahead) (m'.written == length m'.answer) (end_step m' kinds.Good None) (answer_step m') (behind_end m' kinds.Good None n) (behind_answer m' n l)

  -- nothing is asked for, and nothing told
  behind_still : (m : Machine) → Fit m → is_sent m.phase ≡ false → Behind (is_ahead m.ahead) (quiet, m)
  behind_still m f s = record {
    fit = f;
    carried = tt;
    carried_ahead = tt;
    main = s;
    ahead = hold (is_ahead m.ahead);
    alone = λ e. absurd (on e);
    turns = λ e. absurd (on e);
  }

  behind_last : (m : Machine) → is_ahead m.ahead ≡ false → Behind (is_ahead m.ahead) (quiet, record m { phase = phases.Dead })
  behind_last m h =
      behind_still (record m { phase = phases.Dead }) (record { bare = λ e. h; next = λ e. absurd (on (sym h ∙ e)); limit = λ e. absurd (on e) }) refl

  behind_main : (phase : Phase) (m : Machine) (answer : Answer) → m.phase ≡ phase → Fit m → Moved (is_ahead m.ahead) (advanced phase m answer)
  behind_main phases.Fetching m answer e f = behind_orb m (payload_of answer 32) (f.bare (ap (λ (p : Phase). is_bare p) e))
  behind_main phases.ReadingTable m answer e f = behind_table m (payload_of answer (8 * m.orb.data_size)) f.next (f.limit (ap (λ (p : Phase). moves_data p) e))
  behind_main (phases.ReadingData wanted) m answer e f =
      behind_chunk m wanted (payload_of answer (chunk_of m (length m.payload) wanted).length) f.next (f.limit (ap (λ (p : Phase). moves_data p) e))
  behind_main phases.Answering m answer e f = behind_written m (write_failure answer) f.next (f.limit (ap (λ (p : Phase). moves_data p) e))
  behind_main phases.WritingStatus m answer e f = behind_status m (write_failure answer) f.next
  behind_main phases.ReadingNext m answer e f = behind_next m (payload_of answer 8) (f.bare (ap (λ (p : Phase). is_bare p) e))
  behind_main phases.WritingLastStatus m answer e f = behind_last m (f.bare (ap (λ (p : Phase). is_bare p) e))
  behind_main phases.Reset m answer e f = behind_still m f (ap (λ (p : Phase). is_sent p) e)
  behind_main phases.Suspended m answer e f = behind_still m f (ap (λ (p : Phase). is_sent p) e)
  behind_main phases.Dead m answer e f = behind_still m f (ap (λ (p : Phase). is_sent p) e)

pub main_replied : (m : Machine) (place : ℕ) (plain : PlainDisk) (told : Option Told) (answer : Answer) → Fit m → Behind (is_ahead m.ahead) (reply_step m place plain told Main answer)
unfolding reply_step
main_replied m place plain told answer f = behind_main place plain (told_or told) m.phase m answer refl f

-- ---- a main transaction that failed: what it then asks for is the last status write
pub record Lost (had : Bool) (s : AgentStep × Machine) : Type 0 where
  pub behind : Behind had s
  pub unturned : s.0.promoted ≡ false
  pub unasked : is_asked s.0.ahead ≡ false
  pub last : is_asked s.0.ask ≡ true → s.1.phase ≡ phases.WritingLastStatus
  pub idle : is_ahead s.1.ahead ≡ false

lost_end : (m : Machine) (cause : FailCause) → Next m → Lost (is_ahead m.ahead) (fail_step m cause)
lost_end m cause n = record { behind = behind_end m kinds.Failed (Some cause) n; unturned = refl; unasked = refl; last = λ e. refl; idle = refl }

lost_dead : (m : Machine) (cause : FailCause) → Lost (is_ahead m.ahead) (dead_step m cause)
lost_dead m cause = record { behind = behind_dead m cause; unturned = refl; unasked = refl; last = λ e. absurd (on e); idle = refl }

lost_by_phase : (phase : Phase) (m : Machine) (cause : FailCause) → m.phase ≡ phase → is_sent phase ≡ true → Fit m → Lost (is_ahead m.ahead) (main_lost phase m cause)
lost_by_phase phases.Fetching m cause e s f = lost_end m cause f.next
lost_by_phase phases.ReadingTable m cause e s f = lost_end m cause f.next
lost_by_phase (phases.ReadingData wanted) m cause e s f = lost_end m cause f.next
lost_by_phase phases.Answering m cause e s f = lost_end m cause f.next
lost_by_phase phases.WritingStatus m cause e s f = lost_dead m cause
lost_by_phase phases.ReadingNext m cause e s f = lost_dead m cause
lost_by_phase phases.WritingLastStatus m cause e s f =
    let h = f.bare (ap (λ (p : Phase). is_bare p) e) in
    let fit : Fit (record m { phase = phases.Dead }) = record { bare = λ e. h; next = λ e. absurd (on (sym h ∙ e)); limit = λ e. absurd (on e) } in
    record {
      behind = record { fit = fit; carried = tt; carried_ahead = tt; main = refl; ahead = hold (is_ahead m.ahead); alone = λ e. absurd (on e); turns = λ e. absurd (on e) };
      unturned = refl;
      unasked = refl;
      last = λ e. absurd (on e);
      idle = h;
    }
lost_by_phase phases.Reset m cause e s f = absurd (on s)
lost_by_phase phases.Suspended m cause e s f = absurd (on s)
lost_by_phase phases.Dead m cause e s f = absurd (on s)

pub main_loses : (m : Machine) (cause : FailCause) → is_sent m.phase ≡ true → Fit m → Lost (is_ahead m.ahead) (lost_step m Main cause)
unfolding lost_step
main_loses m cause s f = lost_by_phase m.phase m cause refl s f

-- the last status write is lost: nothing more is asked for
pub last_loses : (m : Machine) (cause : FailCause) → m.phase ≡ phases.WritingLastStatus → lost_step m Main cause ≡ (quiet, record m { phase = phases.Dead })
unfolding lost_step
last_loses m cause e = ap (λ (p : Phase). main_lost p m cause) e

-- ---- a read ahead that is over
pub record Over (m : Machine) (s : AgentStep × Machine) : Type 0 where
  pub silent : s.0 ≡ quiet
  pub phase : s.1.phase ≡ m.phase
  pub idle : is_ahead s.1.ahead ≡ false
  pub fit : Fit s.1

over_lost : (m : Machine) (cause : FailCause) → Fit m → Over m (ahead_lost m cause)
over_lost m cause f = record { silent = refl; phase = refl; idle = refl; fit = record { bare = λ e. refl; next = λ e. absurd (on e); limit = f.limit } }

over_read : (m : Machine) (read : Result (List ℕ) FailCause) → Fit m → Over m (ahead_read m read)
over_read m (Ok bytes) f = record { silent = refl; phase = refl; idle = refl; fit = record { bare = λ e. refl; next = λ e. absurd (on e); limit = f.limit } }
over_read m (Err cause) f = over_lost m cause f

over_if : (m : Machine) (b : Bool) (x y : AgentStep × Machine) → b ≡ true → Over m x → Over m (cond b x y)
over_if m true x y e o = o
over_if m false x y e o = absurd (on e)

pub ahead_replied : (m : Machine) (place : ℕ) (plain : PlainDisk) (told : Option Told) (answer : Answer) → is_ahead m.ahead ≡ true → Fit m → Over m (reply_step m place plain told Ahead answer)
unfolding reply_step
ahead_replied m place plain told answer e f = over_if m (is_ahead m.ahead) (ahead_step m answer) (quiet, m) e (over_read m (payload_of answer 32) f)

pub ahead_loses : (m : Machine) (cause : FailCause) → is_ahead m.ahead ≡ true → Fit m → Over m (lost_step m Ahead cause)
unfolding lost_step
ahead_loses m cause e f = over_if m (is_ahead m.ahead) (ahead_lost m cause) (quiet, m) e (over_lost m cause f)
