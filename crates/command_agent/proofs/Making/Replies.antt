-- What replies ask for, and what is left behind them.
use Rattle.std.proofs.Common.{arith, ◌≡◌, refl, ap, sym, ◌∙◌, ℕ, ◌+◌, ◌-◌, ◌*◌, ◌<◌, ◌≤◌, ◌==◌, ◌&&◌, ◌||◌, Bool, true, false, cond, List, [], ◌++◌, length, Option, Some, None, Result, Ok, Err}
use Rattle.std.proofs.lemmas.Bool.Decides.{nat_tests}
use Rattle.std.proofs.lemmas.List.{length-append}
use Rattle.orb_layout.specs.declared.ask.FailCause.{FailCause}
use Rattle.orb_layout.specs.declared.ask.FailCause.TheVariants as causes
use Rattle.orb_layout.specs.declared.pointer.OrbPointer.{OrbPointer}
use Rattle.orb_layout.specs.declared.pointer.OrbPointer.TheVariants.{Null, At}
use Rattle.orb_layout.specs.declared.status.StatusKind.TheVariants as kinds
use Rattle.orb_layout.specs.CommandOrbs.{command_orb}
use Rattle.orb_layout.specs.Pointers.{bit, pointer_at}
use Rattle.orb_layout.specs.Replies.{Answer, Payload, Done, Refused, Expired, NoLabel, payload_of, write_failure}
use Rattle.page_table.specs.declared.fault.PageFault.{PageFault}
use Rattle.page_table.specs.Buffer.{chunk_from}
use Rattle.page_table.specs.Elements.{elements_of, first_fault}
use Rattle.rbc_disk.specs.Units.{PlainDisk}
use Rattle.rbc_disk.specs.Runs.{Told}
use Rattle.command_agent.specs.declared.phase.Phase.{Phase}
use Rattle.command_agent.specs.declared.phase.Phase.TheVariants as phases
use Rattle.command_agent.specs.declared.phase.ReadAhead.{ReadAhead}
use Rattle.command_agent.specs.declared.phase.ReadAhead.TheVariants as aheads
use Rattle.command_agent.specs.declared.step.AgentStep.{AgentStep}
use Rattle.command_agent.specs.declared.step.Move.{Move}
use Rattle.command_agent.specs.Machine.{Machine, Holds, IsFilling, IsAnswering, is_ahead, rung_in, limit_of, chunk_of}
use Rattle.command_agent.specs.Steps.{quiet, sent, end_step, answer_step, answer_chunk, run_step, served, orb_read, table_read, elements_read, data_read, data_grown, chunk_written, turned, turn_step, reread_step, follow_step, status_written, next_read, advanced, told_or, is_label, ahead_read, ahead_step, ahead_lost, reply_step}
use Rattle.command_agent.specs.Counting.{mark, pieces_from, data_left, behind, left_in, left_of, made, MakesAtMost}
use Rattle.command_agent.proofs.Counting.{left_beside}
use Rattle.command_agent.specs.Making.{BringsBy, MayTellSo, is_at_work, RepliesMakeNoMore, unless_failed, pointer_read, followed, share, TurnsMakeTheirShare, was_sent, AheadsMakeNothing}
use Rattle.command_agent.proofs.Making.Chunks.{size_small}
use Rattle.command_agent.proofs.Making.Runs.{makes_more, either, end_makes, data_makes, answer_makes, run_makes, dry_makes, judge_makes}
use Rattle.command_agent.proofs.Making.Checks.{check_makes}

-- what a move brings about, and what may be told of it
abbrev done : ℕ → PlainDisk → Told → Move × Machine → AgentStep × Machine
done place plain told s = served place plain told s.0 s.1

abbrev Within : ℕ → ℕ → ℕ → ℕ → ℕ → PlainDisk → Told → Move × Machine → Type 0
Within tables chunks most marks place plain told s = BringsBy tables chunks s.0 s.1 → MayTellSo (done place plain told s) place plain → MakesAtMost tables chunks most marks (done place plain told s)

-- ---- the ORB and its page table
orb_makes : (tables chunks : ℕ) (m : Machine) (place : ℕ) (plain : PlainDisk) (told : Told) (read : Result (List ℕ) FailCause) → m.payload ≡ [] → Within tables chunks (tables + chunks + 2) (mark m) place plain told (orb_read m read)
orb_makes tables chunks m place plain told (Err cause) fresh brings may = makes_more (omega arith) (end_makes tables chunks m kinds.Failed (Some cause))
orb_makes tables chunks m place plain told (Ok bytes) fresh brings may = check_makes tables chunks (record m { orb = command_orb bytes }) told place plain fresh brings may

elements_make : (tables chunks : ℕ) (m : Machine) (place : ℕ) (plain : PlainDisk) (told : Told) (bytes : List ℕ) (fault : Option PageFault) → m.payload ≡ [] → Within tables chunks (chunks + 1) (mark m) place plain told (elements_read m bytes fault)
elements_make tables chunks m place plain told bytes (Some fault) fresh brings may = makes_more (omega arith) (end_makes tables chunks m (kinds.Illegal 0xff) (Some causes.Grammar))
elements_make tables chunks m place plain told bytes None fresh brings may = judge_makes tables chunks chunks (record m { segments = elements_of bytes }) told place plain fresh brings may

table_makes : (tables chunks : ℕ) (m : Machine) (place : ℕ) (plain : PlainDisk) (told : Told) (read : Result (List ℕ) FailCause) → m.payload ≡ [] → Within tables chunks (chunks + 1) (mark m) place plain told (table_read m read)
table_makes tables chunks m place plain told (Err cause) fresh brings may = makes_more (omega arith) (end_makes tables chunks m kinds.Failed (Some cause))
table_makes tables chunks m place plain told (Ok bytes) fresh brings may =
    either (Within tables chunks (chunks + 1) (mark m) place plain told) m.aborted _ _
    (λ _ _ _. makes_more (omega arith) (end_makes tables chunks m kinds.Aborted None))
    (λ _. elements_make tables chunks m place plain told bytes (first_fault 0 (elements_of bytes)) fresh)
    brings may

-- ---- data
-- the data that are there behind the chunk under way
abbrev filled_to : Machine → ℕ → ℕ
filled_to m wanted = length m.payload + (chunk_of m (length m.payload) wanted).length

pub read_size : (answer : Answer) (size : ℕ) (bytes : List ℕ) → payload_of answer size ≡ Ok bytes → length bytes ≡ size
read_size (Payload read) size bytes e = by (length read == size) refl e
  where
    by : (b : Bool) → (length read == size) ≡ b → cond b (Ok read) (Err causes.Grammar) ≡ Ok bytes → length bytes ≡ size
    by true same e =
        let whole : read ≡ bytes = cc in
        let sized : length read ≡ size = grind (arith, nat_tests, same) in
        sym (ap length whole) ∙ sized
    by false same e = cc e
read_size Done size bytes e = cc e
read_size (Refused rcode) size bytes e = cc e
read_size Expired size bytes e = cc e
read_size NoLabel size bytes e = cc e

-- where some are wanted yet, those left behind the chunk are the pieces from its end on
more_left : (m : Machine) (wanted : ℕ) → filled_to m wanted < wanted → data_left m wanted ≡ pieces_from m.segments (limit_of m.orb) (filled_to m wanted)
more_left m wanted below =
    let some : (wanted == 0) ≡ false = grind (arith, nat_tests) in
    let more : (filled_to m wanted == wanted) ≡ false = grind (arith, nat_tests) in
    rw (some, more) refl

none_left : (m : Machine) (wanted : ℕ) → wanted ≡ 0 → data_left m wanted ≡ pieces_from m.segments (limit_of m.orb) 0
none_left m wanted e = rw e refl

grown_makes : (tables chunks : ℕ) (m : Machine) (wanted : ℕ) (place : ℕ) (plain : PlainDisk) (told : Told) (bytes : List ℕ) → IsFilling m wanted → length bytes ≡ (chunk_of m (length m.payload) wanted).length
    → Within tables chunks (data_left m wanted + 1) (mark m) place plain told (data_grown (record m { payload = m.payload ++ bytes }) wanted)
grown_makes tables chunks m wanted place plain told bytes f size =
    either (Within tables chunks (data_left m wanted + 1) (mark m) place plain told) (length (m.payload ++ bytes) == wanted) _ _
    (λ e brings may. full (wanted == 0) refl may)
    (λ e brings may.
    let below : length (m.payload ++ bytes) < wanted = grind (arith, nat_tests, e, grown, small, f.within) in
    let left = more_left m wanted (omega (arith, below, grown)) in
    let here = ap (pieces_from m.segments (limit_of m.orb)) grown in
    data_makes tables chunks (data_left m wanted) now wanted below f.fits (omega (arith, left, here)))
  where
    now : Machine
    now = record m { payload = m.payload ++ bytes }

    grown : length (m.payload ++ bytes) ≡ filled_to m wanted
    grown = length-append m.payload bytes ∙ ap (λ (n : ℕ). length m.payload + n) size

    small : (chunk_of m (length m.payload) wanted).length ≤ wanted - length m.payload
    small = size_small (wanted - length m.payload) (chunk_from m.segments (length m.payload) (limit_of m.orb))

    full : (b : Bool) → (wanted == 0) ≡ b → MayTellSo (run_step now told) place plain → MakesAtMost tables chunks (data_left m wanted + 1) (mark m) (run_step now told)
    full true e may =
        let left = none_left m wanted (grind (arith, nat_tests, e)) in
        run_makes tables chunks (data_left m wanted) now told place plain (omega (arith, left)) may
    full false e may =
        let whole = f.whole in
        makes_more (omega arith) (dry_makes tables chunks now told place plain (grind (arith, nat_tests, e, whole)) may)

data_reply_makes : (tables chunks : ℕ) (m : Machine) (wanted : ℕ) (place : ℕ) (plain : PlainDisk) (told : Told) (read : Result (List ℕ) FailCause) → IsFilling m wanted
    → ((bytes : List ℕ) → read ≡ Ok bytes → length bytes ≡ (chunk_of m (length m.payload) wanted).length)
    → Within tables chunks (data_left m wanted + 1) (mark m) place plain told (data_read m wanted read)
data_reply_makes tables chunks m wanted place plain told (Err cause) f size brings may = makes_more (omega arith) (end_makes tables chunks m kinds.Failed (Some cause))
data_reply_makes tables chunks m wanted place plain told (Ok bytes) f size brings may =
    either (Within tables chunks (data_left m wanted + 1) (mark m) place plain told) m.aborted _ _
    (λ _ _ _. makes_more (omega arith) (end_makes tables chunks m kinds.Aborted None))
    (λ _. grown_makes tables chunks m wanted place plain told bytes f (size bytes refl))
    brings may

-- ---- an answer
-- the chunk under way is written
abbrev on : Machine → Machine
on m = record m { written = m.written + answer_chunk m }

answer_grown_makes : (tables chunks : ℕ) (m : Machine) → IsAnswering m
    → MakesAtMost tables chunks (behind m m.written (length m.answer) + 1) (mark m) (cond ((on m).written == length m.answer) (end_step (on m) kinds.Good None) (answer_step (on m)))
answer_grown_makes tables chunks m a =
    either (MakesAtMost tables chunks (behind m m.written (length m.answer) + 1) (mark m)) ((on m).written == length m.answer) _ _
    (λ e. makes_more (omega arith) (end_makes tables chunks (on m) kinds.Good None))
    (λ e.
    let small = size_small (length m.answer - m.written) (chunk_from m.segments m.written (limit_of m.orb)) in
    let within = a.within in
    let below : (on m).written < length m.answer = grind (arith, nat_tests, e, small, within) in
    let left = ap (λ (b : Bool). cond b 0 (pieces_from m.segments (limit_of m.orb) (on m).written)) e in
    answer_makes tables chunks (behind m m.written (length m.answer)) (on m) below a.fits (omega (arith, left)))

chunk_makes : (tables chunks : ℕ) (m : Machine) (place : ℕ) (plain : PlainDisk) (told : Told) (failure : Option FailCause) → IsAnswering m → Within tables chunks (behind m m.written (length m.answer) + 1) (mark m) place plain told (chunk_written m failure)
chunk_makes tables chunks m place plain told (Some cause) a brings may = makes_more (omega arith) (end_makes tables chunks m kinds.Failed (Some cause))
chunk_makes tables chunks m place plain told None a brings may = answer_grown_makes tables chunks m a

-- ---- a reply for an ORB that has not ended
replied_makes : (phase : Phase) (tables chunks : ℕ) (m : Machine) (place : ℕ) (plain : PlainDisk) (told : Told) (answer : Answer) → Holds phase m → is_at_work phase ≡ true
    → Within tables chunks (left_in phase tables chunks m) (mark m) place plain told (advanced phase m answer)
replied_makes phases.Fetching tables chunks m place plain told answer holds work = orb_makes tables chunks m place plain told (payload_of answer 32) holds
replied_makes phases.ReadingTable tables chunks m place plain told answer holds work = table_makes tables chunks m place plain told (payload_of answer (8 * m.orb.data_size)) holds.fresh
replied_makes (phases.ReadingData wanted) tables chunks m place plain told answer holds work =
    data_reply_makes tables chunks m wanted place plain told (payload_of answer (chunk_of m (length m.payload) wanted).length) holds
    (λ bytes e. read_size answer (chunk_of m (length m.payload) wanted).length bytes e)
replied_makes phases.Answering tables chunks m place plain told answer holds work = chunk_makes tables chunks m place plain told (write_failure answer) holds
replied_makes _ tables chunks m place plain told answer holds work = cc work

pub replies_make_no_more : RepliesMakeNoMore
unfolding reply_step
replies_make_no_more tables chunks m place plain told answer sound work brings may = replied_makes m.phase tables chunks m place plain (told_or told) answer sound.holds work brings may

-- ---- the turn of another ORB
-- what is made, with the mark, is at most that
abbrev Shares : ℕ → ℕ → ℕ → ℕ → PlainDisk → Told → Move × Machine → Type 0
Shares tables chunks most place plain told s =
    BringsBy tables chunks s.0 s.1 → MayTellSo (done place plain told s) place plain → made tables chunks (done place plain told s) + mark (done place plain told s).1 ≤ most

turn_makes : (tables chunks : ℕ) (m : Machine) (place : ℕ) (plain : PlainDisk) (told : Told) (next : ℕ) (ahead : ReadAhead) → Shares tables chunks (tables + chunks + 3 + mark m) place plain told (turn_step m next ahead)
turn_makes tables chunks m place plain told next aheads.Idle brings may = omega arith
turn_makes tables chunks m place plain told next (aheads.UnderWay rung) brings may = omega arith
turn_makes tables chunks m place plain told next (aheads.Kept orb) brings may =
    let a = check_makes tables chunks (record (turned m next) { orb = orb }) told place plain refl brings may in
    let few = a.requests in
    let marked = a.marked in
    omega (arith, few, marked)

wait_makes : (tables chunks : ℕ) (m : Machine) (rung : Bool) → m.doorbell ≡ rung
    → made tables chunks (cond rung (reread_step m) (quiet, record m { phase = phases.Suspended })) + mark (cond rung (reread_step m) (quiet, record m { phase = phases.Suspended })).1 ≤ 0 + mark m
wait_makes tables chunks m true e = rw e (omega arith)
wait_makes tables chunks m false e = omega arith

follow_makes : (tables chunks : ℕ) (m : Machine) (place : ℕ) (plain : PlainDisk) (told : Told) (next : OrbPointer) → Shares tables chunks (share tables chunks next + mark m) place plain told (follow_step m next)
follow_makes tables chunks m place plain told (At next) brings may = turn_makes tables chunks m place plain told next m.ahead brings may
follow_makes tables chunks m place plain told Null brings may = wait_makes tables chunks m m.doorbell refl

status_makes : (tables chunks : ℕ) (m : Machine) (place : ℕ) (plain : PlainDisk) (told : Told) (failure : Option FailCause) → Shares tables chunks (share tables chunks (unless_failed failure m.orb.next) + mark m) place plain told (status_written m failure)
status_makes tables chunks m place plain told (Some cause) brings may = omega arith
status_makes tables chunks m place plain told None brings may = follow_makes tables chunks m place plain told m.orb.next brings may

next_makes : (tables chunks : ℕ) (m : Machine) (place : ℕ) (plain : PlainDisk) (told : Told) (read : Result (List ℕ) FailCause) → Shares tables chunks (share tables chunks (pointer_read read) + mark m) place plain told (next_read m read)
next_makes tables chunks m place plain told (Err cause) brings may = omega arith
next_makes tables chunks m place plain told (Ok bytes) brings may = follow_makes tables chunks (record m { orb = record m.orb { next = pointer_at bytes 0 } }) place plain told (pointer_at bytes 0) brings may

turned_makes : (phase : Phase) (tables chunks : ℕ) (m : Machine) (place : ℕ) (plain : PlainDisk) (told : Told) (answer : Answer) → is_at_work phase ≡ false
    → Shares tables chunks (share tables chunks (followed phase (record m { phase = phase }) answer) + mark m) place plain told (advanced phase (record m { phase = phase }) answer)
turned_makes phases.WritingStatus tables chunks m place plain told answer idle = status_makes tables chunks (record m { phase = phases.WritingStatus }) place plain told (write_failure answer)
turned_makes phases.ReadingNext tables chunks m place plain told answer idle = next_makes tables chunks (record m { phase = phases.ReadingNext }) place plain told (payload_of answer 8)
turned_makes phases.Fetching tables chunks m place plain told answer idle = cc idle
turned_makes phases.ReadingTable tables chunks m place plain told answer idle = cc idle
turned_makes (phases.ReadingData wanted) tables chunks m place plain told answer idle = cc idle
turned_makes phases.Answering tables chunks m place plain told answer idle = cc idle
turned_makes _ tables chunks m place plain told answer idle = λ brings may. omega arith

pub turns_make_their_share : TurnsMakeTheirShare
unfolding reply_step
turns_make_their_share tables chunks m place plain told answer idle brings may = turned_makes m.phase tables chunks m place plain (told_or told) answer idle brings may

-- ---- the read ahead
still_marked : (m : Machine) (cause : FailCause) → is_label cause ≡ false → mark (ahead_lost m cause).1 ≡ mark m
still_marked m cause e = by m.doorbell
  where
    by : (b : Bool) → bit (b || (is_label cause && rung_in m.ahead)) ≡ bit b
    by true = refl
    by false = rw e refl

forgotten : (tables chunks : ℕ) (m : Machine) (cause : FailCause) → is_label cause ≡ false → MakesAtMost tables chunks (left_of tables chunks m) (mark m) (ahead_lost m cause)
forgotten tables chunks m cause e =
    let same = left_beside m.phase tables chunks m aheads.Idle (m.doorbell || (is_label cause && rung_in m.ahead)) in
    let marks = still_marked m cause e in
    record { requests = omega (arith, same); marked = omega (arith, marks) }

kept_makes : (tables chunks : ℕ) (m : Machine) (answer : Answer) → was_sent answer ≡ true → MakesAtMost tables chunks (left_of tables chunks m) (mark m) (ahead_step m answer)
kept_makes tables chunks m (Payload bytes) sent = by (length bytes == 32)
  where
    by : (b : Bool) → MakesAtMost tables chunks (left_of tables chunks m) (mark m) (ahead_read m (cond b (Ok bytes) (Err causes.Grammar)))
    by true = let same = left_beside m.phase tables chunks m (aheads.Kept (command_orb bytes)) m.doorbell in record { requests = omega (arith, same); marked = omega arith }
    by false = forgotten tables chunks m causes.Grammar refl
kept_makes tables chunks m Done sent = forgotten tables chunks m causes.Grammar refl
kept_makes tables chunks m (Refused rcode) sent = forgotten tables chunks m causes.Refused refl
kept_makes tables chunks m Expired sent = forgotten tables chunks m causes.Timeout refl
kept_makes tables chunks m NoLabel sent = cc sent

replied_ahead : (tables chunks : ℕ) (m : Machine) (answer : Answer) (under : Bool) → was_sent answer ≡ true → MakesAtMost tables chunks (left_of tables chunks m) (mark m) (cond under (ahead_step m answer) (quiet, m))
replied_ahead tables chunks m answer true sent = kept_makes tables chunks m answer sent
replied_ahead tables chunks m answer false sent = record { requests = omega arith; marked = omega arith }

pub aheads_make_nothing : AheadsMakeNothing
unfolding reply_step
aheads_make_nothing tables chunks m place plain told answer sent = replied_ahead tables chunks m answer (is_ahead m.ahead) sent
