-- The addresses of agents: each step of an agent asks for addresses of 48 bits, and leaves it with such.
use Rattle.sbp_world.proofs.Words.Std.{arith, ◌≡◌, refl, subst, ℕ, ◌+◌, ◌-◌, ◌*◌, ◌%◌, ◌^◌, ◌<◌, ◌≤◌, ◌==◌, ◌&&◌, not, nat_lt, min, Bool, true, false, cond, List, [], ◌∷◌, ◌++◌, length, drop, Option, Some, None, Result, Ok, Err, nat_tests, AllByRecursion, big_bytes}
use Rattle.sbp_world.proofs.Words.Wire.{AreBytes}
use Rattle.sbp_world.proofs.Words.Target.{Phase, ReadAhead, AgentState, AgentStep, Move, PointRefusal, Which, Main, Ahead, death_by, plain_length, reads_table, refusal, verdict, Machine, aligned, chunk_of, cut_to, limit_of, is_ahead, new_machine, plan_of, state_in, abort_step, advanced, ahead_lost, ahead_of, ahead_read, ahead_step, answer_chunk, block_of, check_step, checked, chunk_written, data_read, data_step, dead_step, doorbell_in, doorbell_step, elements_read, end_step, fail_step, fetch_step, follow_step, judge_step, judged, kept_ahead, lost_step, main_lost, next_read, orb_read, passed_step, point_in, point_step, pointed, quiet, ran_as, reply_step, reread_step, reset_step, run_step, served, table_read, told_or, turn_step, unread_buffer, wait_step, with_ahead, Need, Outcome, Told, need_of, PlainDisk}
use Rattle.sbp_world.proofs.Words.Initiator.{Ask, Read, Write, Nothing, FailCause, CommandOrb, OrbPointer, Null, At, StatusBlock, StatusKind, command_orb, IsPointer, offset_at, pointer_at, quad_bytes, Answer, Payload, Done, Refused, Expired, NoLabel, payload_of, write_failure, check_quads, row_of, status_bytes, status_head, PageFault, ZeroSegment, PastEnd, Chunk, Segment, chunk, chunk_from, elements_of, first_fault}
use Rattle.sbp_world.proofs.Words.World.{BytesTold, FitsAgent, FitsAhead, FitsOrb, FitsSegment}
use Rattle.bus_transactions.proofs.Fits.{bytes_append, bytes_drop, bytes_quad, bytes_take, no_bytes, quad_fits}
use Rattle.command_agent.specs.declared.phase.Phase.TheVariants as phases
use Rattle.command_agent.specs.declared.phase.ReadAhead.TheVariants as aheads
use Rattle.command_agent.specs.declared.step.AgentState.TheVariants as states
use Rattle.command_agent.specs.declared.step.Move.TheVariants as moves
use Rattle.command_agent.specs.declared.step.PointRefusal.TheVariants as refusals
use Rattle.command_agent.specs.Steps.{answer_step, replied, status_written}
use Rattle.orb_layout.specs.declared.ask.FailCause.TheVariants as causes
use Rattle.orb_layout.specs.declared.status.StatusKind.TheVariants as kinds
use Rattle.rbc_disk.specs.declared.command.Need.TheVariants as needs
use Rattle.rbc_disk.specs.declared.command.Outcome.TheVariants as outcomes

-- ---- what is asked for, and what comes
abbrev pub FitsAsk : Ask → Type 0
FitsAsk (Read offset len) = offset < 2 ^ 48
FitsAsk (Write offset len) = offset < 2 ^ 48
FitsAsk Nothing = Unit {0}

abbrev pub BytesIn : Answer → Type 0
BytesIn (Payload bytes) = AreBytes bytes
BytesIn _ = Unit {0}

abbrev pub BytesRead : Result (List ℕ) FailCause → Type 0
BytesRead (Ok bytes) = AreBytes bytes
BytesRead (Err cause) = Unit {0}

pub record FitsStep (s : AgentStep × Machine) : Type 0 where
  pub ask : FitsAsk s.0.ask
  pub ahead : FitsAsk s.0.ahead
  pub agent : FitsAgent s.1

pub record FitsMove (s : Move × Machine) : Type 0 where
  pub step : (step : AgentStep) → s.0 ≡ moves.Send step → FitsStep (step, s.1)
  pub agent : FitsAgent s.1

abbrev Segments : List Segment → Type 0
Segments segments = AllByRecursion FitsSegment segments

read_if : (b : Bool) (bytes : List ℕ) → AreBytes bytes → BytesRead (cond b (Ok bytes) (Err causes.Grammar))
read_if true bytes a = a
read_if false bytes a = tt

pub payload_bytes : (answer : Answer) (size : ℕ) → BytesIn answer → BytesRead (payload_of answer size)
payload_bytes (Payload bytes) size a = read_if (length bytes == size) bytes a
payload_bytes Done size a = tt
payload_bytes (Refused rcode) size a = tt
payload_bytes Expired size a = tt
payload_bytes NoLabel size a = tt

-- ---- bytes and addresses
pub quads_bytes : (quads : List ℕ) → AreBytes (quad_bytes quads)
quads_bytes [] = no_bytes
quads_bytes (quad ∷ quads) = bytes_append (big_bytes 4 quad) (quad_bytes quads) (bytes_quad quad) (quads_bytes quads)

pub status_small : (block : StatusBlock) → AreBytes (status_bytes block)
status_small block =
    let head = status_head block (row_of block.kind) ∷ (block.orb % 2 ^ 32) ∷ [] in
    bytes_append (quad_bytes head) (quad_bytes (check_quads block.kind)) (quads_bytes head) (quads_bytes (check_quads block.kind))

joined_fits : (a b : ℕ) → b < 2 ^ 32 → a % 2 ^ 16 * 2 ^ 32 + b < 2 ^ 48
joined_fits a b h = omega arith

pub offset_fits : (bytes : List ℕ) (at : ℕ) → AreBytes bytes → offset_at bytes at < 2 ^ 48
offset_fits bytes at a = joined_fits _ _ (quad_fits bytes (at + 4) a)

pointer_if : (b : Bool) (offset : ℕ) → offset < 2 ^ 48 → IsPointer (cond b Null (At offset))
pointer_if true offset h = tt
pointer_if false offset h = h

pub pointer_fits : (bytes : List ℕ) (at : ℕ) → AreBytes bytes → IsPointer (pointer_at bytes at)
pointer_fits bytes at a = pointer_if _ (offset_at bytes at) (offset_fits bytes at a)

pub orb_fits : (bytes : List ℕ) → AreBytes bytes → FitsOrb (command_orb bytes)
orb_fits bytes a = record { next = pointer_fits bytes 0 a; descriptor = offset_fits bytes 8 a }

pub aligned_fits : (offset : ℕ) → offset < 2 ^ 48 → aligned offset < 2 ^ 48
aligned_fits offset h = omega arith

-- ---- buffers
pub chunk_inside : (segment : Segment) (done : ℕ) → FitsSegment segment → nat_lt done segment.length ≡ true → segment.base + done < 2 ^ 48
chunk_inside segment done h e = grind (arith, nat_tests)

pub chunk_by : (b : Bool) (segment : Segment) (done limit left : ℕ) (rest : Option Chunk) → nat_lt done segment.length ≡ b → FitsSegment segment → (cut_to left rest).offset < 2 ^ 48 → (cut_to left (cond b (Some (chunk (segment.base + done) (min limit (segment.length - done)))) rest)).offset < 2 ^ 48
chunk_by true segment done limit left rest e h r = chunk_inside segment done h e
chunk_by false segment done limit left rest e h r = r

chunk_fits : (segments : List Segment) (done limit left : ℕ) → Segments segments → (cut_to left (chunk_from segments done limit)).offset < 2 ^ 48
chunk_fits [] done limit left a = omega arith
chunk_fits (segment ∷ rest) done limit left a =
    chunk_by (nat_lt done segment.length) segment done limit left (chunk_from rest (done - segment.length) limit) refl a.0 (chunk_fits rest (done - segment.length) limit left a.1)

segment_ends : (segment : Segment) → nat_lt (2 ^ 48) (segment.base + segment.length) ≡ false → FitsSegment segment
segment_ends segment f = grind (arith, nat_tests)

element_by : (x y : Bool) (segment : Segment) (at : ℕ) (rest : Option PageFault) → nat_lt (2 ^ 48) (segment.base + segment.length) ≡ y → cond x (Some (ZeroSegment at)) (cond y (Some (PastEnd at)) rest) ≡ None → FitsSegment segment × (rest ≡ None)
element_by true y segment at rest f g = cc
element_by false true segment at rest f g = cc
element_by false false segment at rest f g = (segment_ends segment f, g)

elements_fit : (segments : List Segment) (at : ℕ) → first_fault at segments ≡ None → Segments segments
elements_fit [] at e = tt
elements_fit (segment ∷ rest) at e =
    let h = element_by (segment.length == 0) (nat_lt (2 ^ 48) (segment.base + segment.length)) segment at (first_fault (at + 1) rest) refl e in (h.0, elements_fit rest (at + 1) h.1)

single_if : (b : Bool) (base len : ℕ) → base + len ≤ 2 ^ 48 → Segments (cond b [] (let x : Segment = record { base = base; length = len } in x ∷ []))
single_if true base len h = tt
single_if false base len h = (h, tt)

refused_not : (a b c d has_table : Bool) (n m : ℕ) (x1 x2 x3 x4 x5 : StatusKind) → cond a (Some x1) (cond b (Some x2) (cond c (Some x3) (cond d (Some x4) (cond (not has_table && nat_lt n m) (Some x5) None)))) ≡ None → has_table ≡ false → m ≤ n
refused_not true b c d h n m x1 x2 x3 x4 x5 e f = cc
refused_not false true c d h n m x1 x2 x3 x4 x5 e f = cc
refused_not false false true d h n m x1 x2 x3 x4 x5 e f = cc
refused_not false false false true h n m x1 x2 x3 x4 x5 e f = cc
refused_not false false false false true n m x1 x2 x3 x4 x5 e f = cc
refused_not false false false false false n m x1 x2 x3 x4 x5 e f = by (nat_lt n m) refl e
  where
    small : nat_lt n m ≡ false → m ≤ n
    small g = grind (arith, nat_tests)

    by : (y : Bool) → nat_lt n m ≡ y → cond y (Some x5) None ≡ None → m ≤ n
    by true g h = cc
    by false g h = small g

refusal_inside : (orb : CommandOrb) → refusal orb ≡ None → orb.has_table ≡ false → orb.descriptor + orb.data_size ≤ 2 ^ 48
unfolding refusal
refusal_inside orb e f =
    refused_not (nat_lt 2 orb.speed) (nat_lt (7 + orb.speed) orb.max_payload) (orb.has_table && not (orb.page_size == 0)) (orb.has_table && nat_lt 64 orb.data_size) orb.has_table (2 ^ 48) (orb.descriptor + orb.data_size)
    (kinds.Illegal 0x02) (kinds.Illegal 0xff) (kinds.Illegal 0x03) (kinds.Illegal 0xff) (kinds.Illegal 0xff) e f

verdict_refusal : (orb : CommandOrb) (aborted : Bool) → verdict orb aborted ≡ None → refusal orb ≡ None
unfolding verdict
verdict_refusal orb aborted e = by (orb.format == 3) (orb.format == 0) aborted e
  where
    by : (x y z : Bool) → cond x (Some kinds.Dummy) (cond (not y) (Some (kinds.Illegal 0x01)) (cond z (Some kinds.Aborted) (refusal orb))) ≡ None → refusal orb ≡ None
    by true y z f = cc
    by false false z f = cc
    by false true true f = cc
    by false true false f = f

unread_fits : (orb : CommandOrb) → FitsOrb orb → (orb.has_table ≡ false → orb.descriptor + orb.data_size ≤ 2 ^ 48) → Segments (unread_buffer orb)
unread_fits orb f inside = single_if (plain_length orb == 0) orb.descriptor (plain_length orb) (by orb.has_table refl)
  where
    by : (b : Bool) → orb.has_table ≡ b → orb.descriptor + cond b 0 orb.data_size ≤ 2 ^ 48
    by true e = let d = f.descriptor in omega arith
    by false e = inside e

-- ---- steps
pub ended : (m : Machine) (kind : StatusKind) (dead : Option FailCause) → FitsAgent m → FitsStep (end_step m kind dead)
ended m kind dead a = record {
  ask = omega arith;
  ahead = tt;
  agent = record { present = a.present; orb = a.orb; ahead = kept dead; segments = a.segments; answer = a.answer; outgoing = status_small (block_of m kind) };
}
  where
    kept : (dead : Option FailCause) → FitsAhead (kept_ahead dead m.ahead)
    kept None = a.ahead
    kept (Some cause) = tt

pub failed : (m : Machine) (cause : FailCause) → FitsAgent m → FitsStep (fail_step m cause)
failed m cause a = ended m kinds.Failed (Some cause) a

died : (m : Machine) (cause : FailCause) → FitsAgent m → FitsStep (dead_step m cause)
died m cause a = record {
  ask = tt;
  ahead = tt;
  agent = record { present = a.present; orb = a.orb; ahead = tt; segments = a.segments; answer = a.answer; outgoing = a.outgoing };
}

fetched : (m : Machine) (next : ℕ) → next < 2 ^ 48 → FitsAgent m → FitsStep (fetch_step m next)
fetched m next h a = record {
  ask = aligned_fits next h;
  ahead = tt;
  agent = record { present = aligned_fits next h; orb = record { next = tt; descriptor = omega arith }; ahead = tt; segments = a.segments; answer = a.answer; outgoing = a.outgoing };
}

reread : (m : Machine) → FitsAgent m → FitsStep (reread_step m)
reread m a = record {
  ask = a.present;
  ahead = tt;
  agent = record { present = a.present; orb = a.orb; ahead = a.ahead; segments = a.segments; answer = a.answer; outgoing = a.outgoing };
}

-- a step that is sent
same_step : (step other : AgentStep) → moves.Send step ≡ moves.Send other → step ≡ other
same_step step other e = cc

sends : (s : AgentStep × Machine) → FitsStep s → FitsMove (moves.Send s.0, s.1)
sends s f = record { step = λ step e. subst (λ (x : AgentStep). FitsStep (x, s.1)) (same_step s.0 step e) f; agent = f.agent }

checks : (m : Machine) → FitsAgent m → FitsMove (moves.Check, m)
checks m a = record { step = λ step e. absurd (not_sent step e); agent = a }
  where
    not_sent : (step : AgentStep) → moves.Check ≡ moves.Send step → ⊥
    not_sent step e = cc

runs : (m : Machine) → FitsAgent m → FitsMove (moves.Run, m)
runs m a = record { step = λ step e. absurd (not_sent step e); agent = a }
  where
    not_sent : (step : AgentStep) → moves.Run ≡ moves.Send step → ⊥
    not_sent step e = cc

judges : (m : Machine) → FitsAgent m → FitsMove (moves.Judge, m)
judges m a = record { step = λ step e. absurd (not_sent step e); agent = a }
  where
    not_sent : (step : AgentStep) → moves.Judge ≡ moves.Send step → ⊥
    not_sent step e = cc

-- after the status write
turns : (m : Machine) (next : ℕ) (ahead : ReadAhead) → next < 2 ^ 48 → FitsAhead ahead → FitsAgent m → FitsMove (turn_step m next ahead)
turns m next aheads.Idle h k a = sends (fetch_step m next) (fetched m next h a)
turns m next (aheads.UnderWay rung) h k a = sends _ (record {
  ask = tt;
  ahead = tt;
  agent = record { present = aligned_fits next h; orb = record { next = tt; descriptor = omega arith }; ahead = tt; segments = a.segments; answer = a.answer; outgoing = a.outgoing };
})
turns m next (aheads.Kept orb) h k a = checks _ (record { present = aligned_fits next h; orb = k; ahead = tt; segments = a.segments; answer = a.answer; outgoing = a.outgoing })

waits : (m : Machine) → FitsAgent m → FitsStep (wait_step m)
waits m a = by m.doorbell
  where
    by : (b : Bool) → FitsStep (cond b (reread_step m) (quiet, record m { phase = phases.Suspended }))
    by true = reread m a
    by false = record {
      ask = tt;
      ahead = tt;
      agent = record { present = a.present; orb = a.orb; ahead = a.ahead; segments = a.segments; answer = a.answer; outgoing = a.outgoing };
    }

follows : (m : Machine) (next : OrbPointer) → IsPointer next → FitsAgent m → FitsMove (follow_step m next)
follows m (At next) h a = turns m next m.ahead h a.ahead a
follows m Null h a = sends (wait_step m) (waits m a)

status_wrote : (m : Machine) (failure : Option FailCause) → FitsAgent m → FitsMove (status_written m failure)
status_wrote m (Some cause) a = sends (dead_step m cause) (died m cause a)
status_wrote m None a = follows m m.orb.next a.orb.next a

next_got : (m : Machine) (read : Result (List ℕ) FailCause) → BytesRead read → FitsAgent m → FitsMove (next_read m read)
next_got m (Err cause) b a = sends (dead_step m cause) (died m cause a)
next_got m (Ok bytes) b a =
    follows (record m { orb = record m.orb { next = pointer_at bytes 0 } }) (pointer_at bytes 0) (pointer_fits bytes 0 b)
    (record { present = a.present; orb = record { next = pointer_fits bytes 0 b; descriptor = a.orb.descriptor }; ahead = a.ahead; segments = a.segments; answer = a.answer; outgoing = a.outgoing })

-- the ORB, its page table, its data
orb_got : (m : Machine) (read : Result (List ℕ) FailCause) → BytesRead read → FitsAgent m → FitsMove (orb_read m read)
orb_got m (Err cause) b a = sends (fail_step m cause) (failed m cause a)
orb_got m (Ok bytes) b a =
    checks (record m { orb = command_orb bytes }) (record { present = a.present; orb = orb_fits bytes b; ahead = a.ahead; segments = a.segments; answer = a.answer; outgoing = a.outgoing })

elements_got : (m : Machine) (bytes : List ℕ) (fault : Option PageFault) → first_fault 0 (elements_of bytes) ≡ fault → FitsAgent m → FitsMove (elements_read m bytes fault)
elements_got m bytes (Some fault) e a = sends (end_step m (kinds.Illegal 0xff) (Some causes.Grammar)) (ended m (kinds.Illegal 0xff) (Some causes.Grammar) a)
elements_got m bytes None e a =
    judges (record m { segments = elements_of bytes }) (record { present = a.present; orb = a.orb; ahead = a.ahead; segments = elements_fit (elements_of bytes) 0 e; answer = a.answer; outgoing = a.outgoing })

pick_move : (b : Bool) (x y : Move × Machine) → FitsMove x → FitsMove y → FitsMove (cond b x y)
pick_move true x y f g = f
pick_move false x y f g = g

pick_step : (b : Bool) (x y : AgentStep × Machine) → FitsStep x → FitsStep y → FitsStep (cond b x y)
pick_step true x y f g = f
pick_step false x y f g = g

aborts : (m : Machine) → FitsAgent m → FitsMove (moves.Send (end_step m kinds.Aborted None).0, (end_step m kinds.Aborted None).1)
aborts m a = sends (end_step m kinds.Aborted None) (ended m kinds.Aborted None a)

table_got : (m : Machine) (read : Result (List ℕ) FailCause) → BytesRead read → FitsAgent m → FitsMove (table_read m read)
table_got m (Err cause) b a = sends (fail_step m cause) (failed m cause a)
table_got m (Ok bytes) b a = pick_move m.aborted _ _ (aborts m a) (elements_got m bytes (first_fault 0 (elements_of bytes)) refl a)

reads_data : (m : Machine) (wanted : ℕ) → FitsAgent m → FitsStep (data_step m wanted)
reads_data m wanted a = record {
  ask = chunk_fits m.segments (length m.payload) (limit_of m.orb) (wanted - length m.payload) a.segments;
  ahead = tt;
  agent = record { present = a.present; orb = a.orb; ahead = a.ahead; segments = a.segments; answer = a.answer; outgoing = a.outgoing };
}

data_got : (m : Machine) (wanted : ℕ) (read : Result (List ℕ) FailCause) → FitsAgent m → FitsMove (data_read m wanted read)
data_got m wanted (Err cause) a = sends (fail_step m cause) (failed m cause a)
data_got m wanted (Ok bytes) a =
    let n = record m { payload = m.payload ++ bytes } in
    let b : FitsAgent n = record { present = a.present; orb = a.orb; ahead = a.ahead; segments = a.segments; answer = a.answer; outgoing = a.outgoing } in
    pick_move m.aborted _ _ (aborts m a) (pick_move (length n.payload == wanted) _ _ (runs n b) (sends (data_step n wanted) (reads_data n wanted b)))

-- its answer
writes_answer : (m : Machine) → FitsAgent m → FitsStep (answer_step m)
writes_answer m a = record {
  ask = chunk_fits m.segments m.written (limit_of m.orb) (length m.answer - m.written) a.segments;
  ahead = tt;
  agent = record {
    present = a.present;
    orb = a.orb;
    ahead = a.ahead;
    segments = a.segments;
    answer = a.answer;
    outgoing = bytes_take (answer_chunk m) (drop m.written m.answer) (bytes_drop m.written m.answer a.answer);
  };
}

chunk_wrote : (m : Machine) (failure : Option FailCause) → FitsAgent m → FitsMove (chunk_written m failure)
chunk_wrote m (Some cause) a = sends (fail_step m cause) (failed m cause a)
chunk_wrote m None a =
    let n = record m { written = m.written + answer_chunk m } in
    let b : FitsAgent n = record { present = a.present; orb = a.orb; ahead = a.ahead; segments = a.segments; answer = a.answer; outgoing = a.outgoing } in
    sends (cond (n.written == length n.answer) (end_step n kinds.Good None) (answer_step n)) (pick_step (n.written == length n.answer) _ _ (ended n kinds.Good None b) (writes_answer n b))

-- by phase
idles : (m : Machine) → FitsAgent m → FitsMove (moves.Send quiet, m)
idles m a = sends (quiet, m) (record { ask = tt; ahead = tt; agent = a })

advances : (phase : Phase) (m : Machine) (answer : Answer) → BytesIn answer → FitsAgent m → FitsMove (advanced phase m answer)
advances phases.Fetching m answer b a = orb_got m (payload_of answer 32) (payload_bytes answer 32 b) a
advances phases.ReadingTable m answer b a = table_got m (payload_of answer (8 * m.orb.data_size)) (payload_bytes answer _ b) a
advances (phases.ReadingData wanted) m answer b a = data_got m wanted (payload_of answer (chunk_of m (length m.payload) wanted).length) a
advances phases.Answering m answer b a = chunk_wrote m (write_failure answer) a
advances phases.WritingStatus m answer b a = status_wrote m (write_failure answer) a
advances phases.ReadingNext m answer b a = next_got m (payload_of answer 8) (payload_bytes answer 8 b) a
advances phases.WritingLastStatus m answer b a =
    idles (record m { phase = phases.Dead }) (record { present = a.present; orb = a.orb; ahead = a.ahead; segments = a.segments; answer = a.answer; outgoing = a.outgoing })
advances phases.Reset m answer b a = idles m a
advances phases.Suspended m answer b a = idles m a
advances phases.Dead m answer b a = idles m a

-- the command is judged, and runs
ran : (m : Machine) (outcome : Outcome) → FitsAgent m → FitsStep (ran_as m outcome)
ran m (outcomes.Check sense) a = ended m (kinds.Check sense) None a
ran m (outcomes.Good len) a = pick_step (len == 0) (end_step m kinds.Good None) (answer_step m) (ended m kinds.Good None a) (writes_answer m a)

runs_on : (m : Machine) (told : Told) → AreBytes told.answer → FitsAgent m → FitsStep (run_step m told)
runs_on m told t a =
    let n = record m { answer = told.answer; written = 0 } in
    let f = ran n told.outcome (record { present = a.present; orb = a.orb; ahead = a.ahead; segments = a.segments; answer = t; outgoing = a.outgoing }) in
    record { ask = f.ask; ahead = f.ahead; agent = f.agent }

judged_on : (m : Machine) (told : Told) (need : Need) → AreBytes told.answer → FitsAgent m → FitsStep (judged m told need)
judged_on m told needs.RunNow t a = runs_on m told t a
judged_on m told (needs.Payload len) t a = reads_data m len a

passes : (m : Machine) (place : ℕ) (plain : PlainDisk) (told : Told) → refusal m.orb ≡ None → AreBytes told.answer → FitsAgent m → FitsStep (passed_step m place plain told)
passes m place plain told e t a =
    let n = record m { segments = unread_buffer m.orb } in
    pick_step (reads_table m.orb) _ (judge_step n place plain told)
    (record { ask = a.orb.descriptor; ahead = tt; agent = record { present = a.present; orb = a.orb; ahead = a.ahead; segments = a.segments; answer = a.answer; outgoing = a.outgoing } })
    (judged_on n told (need_of n.orb.cdb (plan_of n) plain place) t (record { present = a.present; orb = a.orb; ahead = a.ahead; segments = unread_fits m.orb a.orb (refusal_inside m.orb e); answer = a.answer; outgoing = a.outgoing }))

pub checked_on : (m : Machine) (place : ℕ) (plain : PlainDisk) (told : Told) (found : Option StatusKind) → verdict m.orb m.aborted ≡ found → AreBytes told.answer → FitsAgent m → FitsStep (checked m place plain told found)
checked_on m place plain told (Some kind) e t a = ended m kind (death_by kind) a
checked_on m place plain told None e t a = passes m place plain told (verdict_refusal m.orb m.aborted e) t a

goes_ahead : (dead : Option FailCause) (next : OrbPointer) (s : AgentStep × Machine) → IsPointer next → FitsStep s → FitsStep (ahead_of dead next s)
goes_ahead None (At next) s h f = record {
  ask = f.ask;
  ahead = aligned_fits next h;
  agent = record { present = f.agent.present; orb = f.agent.orb; ahead = tt; segments = f.agent.segments; answer = f.agent.answer; outgoing = f.agent.outgoing };
}
goes_ahead None Null s h f = f
goes_ahead (Some cause) next s h f = f

checks_on : (m : Machine) (place : ℕ) (plain : PlainDisk) (told : Told) → AreBytes told.answer → FitsAgent m → FitsStep (with_ahead (check_step m place plain told))
checks_on m place plain told t a =
    let s = check_step m place plain told in
    let f = checked_on m place plain told (verdict m.orb m.aborted) refl t a in
    goes_ahead s.0.dead s.1.orb.next s f.agent.orb.next f

serves : (place : ℕ) (plain : PlainDisk) (told : Told) (move : Move) (m : Machine) → AreBytes told.answer → FitsMove (move, m) → FitsStep (served place plain told move m)
serves place plain told (moves.Send step) m t f = f.step step refl
serves place plain told moves.Check m t f = checks_on m place plain told t f.agent
serves place plain told moves.Judge m t f = judged_on m told (need_of m.orb.cdb (plan_of m) plain place) t f.agent
serves place plain told moves.Run m t f = runs_on m told t f.agent

-- the read ahead
ahead_over : (m : Machine) (cause : FailCause) → FitsAgent m → FitsStep (ahead_lost m cause)
ahead_over m cause a = record {
  ask = tt;
  ahead = tt;
  agent = record { present = a.present; orb = a.orb; ahead = tt; segments = a.segments; answer = a.answer; outgoing = a.outgoing };
}

ahead_got : (m : Machine) (read : Result (List ℕ) FailCause) → BytesRead read → FitsAgent m → FitsStep (ahead_read m read)
ahead_got m (Ok bytes) b a = record {
  ask = tt;
  ahead = tt;
  agent = record { present = a.present; orb = a.orb; ahead = orb_fits bytes b; segments = a.segments; answer = a.answer; outgoing = a.outgoing };
}
ahead_got m (Err cause) b a = ahead_over m cause a

quiets : (m : Machine) → FitsAgent m → FitsStep (quiet, m)
quiets m a = record { ask = tt; ahead = tt; agent = a }

pub told_bytes : (told : Option Told) → BytesTold told → AreBytes (told_or told).answer
told_bytes None b = no_bytes
told_bytes (Some told) b = b

replies : (m : Machine) (place : ℕ) (plain : PlainDisk) (told : Told) (which : Which) (answer : Answer) → AreBytes told.answer → BytesIn answer → FitsAgent m → FitsStep (replied m place plain told which answer)
replies m place plain told Main answer t b a =
    serves place plain told (advanced m.phase m answer).0 (advanced m.phase m answer).1 t (advances m.phase m answer b a)
replies m place plain told Ahead answer t b a =
    pick_step (is_ahead m.ahead) (ahead_step m answer) (quiet, m) (ahead_got m (payload_of answer 32) (payload_bytes answer 32 b) a) (quiets m a)

pub reply_fits : (m : Machine) (place : ℕ) (plain : PlainDisk) (told : Option Told) (which : Which) (answer : Answer) → BytesTold told → BytesIn answer → FitsAgent m → FitsStep (reply_step m place plain told which answer)
unfolding reply_step
reply_fits m place plain told which answer t b a = replies m place plain (told_or told) which answer (told_bytes told t) b a

-- a transaction is lost
main_over : (phase : Phase) (m : Machine) (cause : FailCause) → FitsAgent m → FitsStep (main_lost phase m cause)
main_over phases.Fetching m cause a = failed m cause a
main_over phases.ReadingTable m cause a = failed m cause a
main_over (phases.ReadingData wanted) m cause a = failed m cause a
main_over phases.Answering m cause a = failed m cause a
main_over phases.WritingStatus m cause a = died m cause a
main_over phases.ReadingNext m cause a = died m cause a
main_over phases.WritingLastStatus m cause a =
    quiets (record m { phase = phases.Dead }) (record { present = a.present; orb = a.orb; ahead = a.ahead; segments = a.segments; answer = a.answer; outgoing = a.outgoing })
main_over phases.Reset m cause a = quiets m a
main_over phases.Suspended m cause a = quiets m a
main_over phases.Dead m cause a = quiets m a

pub lost_fits : (m : Machine) (which : Which) (cause : FailCause) → FitsAgent m → FitsStep (lost_step m which cause)
unfolding lost_step
lost_fits m Main cause a = main_over m.phase m cause a
lost_fits m Ahead cause a = pick_step (is_ahead m.ahead) (ahead_lost m cause) (quiet, m) (ahead_over m cause a) (quiets m a)

-- ---- registers
pub record FitsPoint (r : Result Ask PointRefusal × Machine) : Type 0 where
  pub ask : (ask : Ask) → r.0 ≡ Ok ask → FitsAsk ask
  pub agent : FitsAgent r.1

refuses : (m : Machine) (refusal : PointRefusal) → FitsAgent m → FitsPoint (Err refusal, m)
refuses m refusal a = record { ask = λ ask e. absurd (not_ok ask e); agent = a }
  where
    not_ok : (ask : Ask) → Err refusal ≡ Ok ask → ⊥
    not_ok ask e = cc

takes_pointer : (m : Machine) (pointer : OrbPointer) → IsPointer pointer → FitsAgent m → FitsPoint (pointed m pointer)
takes_pointer m Null h a = refuses m refusals.Null a
takes_pointer m (At next) h a =
    let f = fetched m next h a in
    record { ask = λ ask e. subst (λ (x : Ask). FitsAsk x) (same ask e) f.ask; agent = f.agent }
  where
    same : (ask : Ask) → (pointed m (At next)).0 ≡ Ok ask → (fetch_step m next).0.ask ≡ ask
    same ask e = cc

points : (state : AgentState) (m : Machine) (pointer : OrbPointer) → IsPointer pointer → FitsAgent m → FitsPoint (point_in state m pointer)
points states.Reset m pointer h a = takes_pointer m pointer h a
points states.Suspended m pointer h a = takes_pointer m pointer h a
points states.Active m pointer h a = refuses m refusals.Conflict a
points states.Dead m pointer h a = refuses m refusals.Conflict a

pub point_fits : (m : Machine) (pointer : OrbPointer) → IsPointer pointer → FitsAgent m → FitsPoint (point_step m pointer)
unfolding point_step
point_fits m pointer h a = points (state_in m.phase) m pointer h a

pub record FitsRing (r : Ask × Machine) : Type 0 where
  pub ask : FitsAsk r.0
  pub agent : FitsAgent r.1

rings : (state : AgentState) (m : Machine) → FitsAgent m → FitsRing (doorbell_in state m)
rings states.Active m a = record { ask = tt; agent = record { present = a.present; orb = a.orb; ahead = a.ahead; segments = a.segments; answer = a.answer; outgoing = a.outgoing } }
rings states.Suspended m a = let f = reread m a in record { ask = f.ask; agent = f.agent }
rings states.Reset m a = record { ask = tt; agent = a }
rings states.Dead m a = record { ask = tt; agent = a }

pub ring_fits : (m : Machine) → FitsAgent m → FitsRing (doorbell_step m)
unfolding doorbell_step
ring_fits m a = rings (state_in m.phase) m a

pub reset_fits : (m : Machine) → FitsAgent m → FitsAgent (reset_step m)
unfolding reset_step
reset_fits m a = record { present = a.present; orb = a.orb; ahead = tt; segments = a.segments; answer = a.answer; outgoing = a.outgoing }

pub abort_fits : (m : Machine) (orb : ℕ) → FitsAgent m → FitsAgent (abort_step m orb)
unfolding abort_step
abort_fits m orb a = record { present = a.present; orb = a.orb; ahead = a.ahead; segments = a.segments; answer = a.answer; outgoing = a.outgoing }

pub new_fits : FitsAgent new_machine
new_fits = record { present = omega arith; orb = record { next = tt; descriptor = omega arith }; ahead = tt; segments = tt; answer = no_bytes; outgoing = no_bytes }
