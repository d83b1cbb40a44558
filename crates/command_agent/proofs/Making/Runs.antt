-- What the steps of a run ask for, and what is left behind them.
use Rattle.std.proofs.Common.{arith, ◌≡◌, refl, ap, ℕ, ◌+◌, ◌<◌, ◌≤◌, ◌==◌, ◌&&◌, Bool, true, false, cond, List, [], length, Option, Some, None, Result, Ok, Err}
use Rattle.std.proofs.lemmas.Bool.Decides.{nat_tests}
use Rattle.orb_layout.specs.declared.ask.FailCause.{FailCause}
use Rattle.orb_layout.specs.declared.status.StatusKind.{StatusKind}
use Rattle.orb_layout.specs.declared.status.StatusKind.TheVariants as kinds
use Rattle.page_table.specs.Buffer.{bytes_of}
use Rattle.rbc_command.specs.declared.command.Command.{Command}
use Rattle.rbc_command.specs.declared.command.Command.TheVariants as commands
use Rattle.rbc_command.specs.declared.sense.Sense.{Sense}
use Rattle.rbc_command.specs.Commands.{operation_in, command_of, moves_disc, starts}
use Rattle.rbc_disk.specs.declared.command.Need.{Need}
use Rattle.rbc_disk.specs.declared.command.Need.TheVariants as needs
use Rattle.rbc_disk.specs.declared.command.Outcome.{Outcome}
use Rattle.rbc_disk.specs.declared.command.Outcome.TheVariants as outcomes
use Rattle.rbc_disk.specs.declared.request.Request.TheVariants as requests
use Rattle.rbc_disk.specs.Units.{PlainDisk}
use Rattle.rbc_disk.specs.Requests.{request_of, plain_request, is_start_stop}
use Rattle.rbc_disk.specs.Checks.{check_of}
use Rattle.rbc_disk.specs.Runs.{need_at, need_of, data_length_by, data_length_of, answer_length_by, answer_length_of, failure_of, MayEnd, Told}
use Rattle.command_agent.specs.declared.step.AgentStep.{AgentStep}
use Rattle.command_agent.specs.Machine.{Machine, limit_of, plan_of}
use Rattle.command_agent.specs.Runs.{MayRun}
use Rattle.command_agent.specs.Steps.{end_step, data_step, answer_step, ran_as, run_step, judged, judge_step}
use Rattle.command_agent.specs.Counting.{mark, pieces_from, data_left, behind, MakesAtMost}
use Rattle.command_agent.proofs.Fits.{answer_fits, filled_by}
use Rattle.command_agent.specs.Making.{pieces_of, MayTellSo}
use Rattle.command_agent.proofs.Making.Chunks.{one_chunk}

pub makes_more : {tables chunks some most marks : ℕ} {s : AgentStep × Machine} → some ≤ most → MakesAtMost tables chunks some marks s → MakesAtMost tables chunks most marks s
makes_more few a = record { requests = omega (arith, few, a.requests); marked = a.marked }

-- what holds on both sides of a test
pub either : {A : Type 0} (P : A → Type 0) (b : Bool) (x y : A) → (b ≡ true → P x) → (b ≡ false → P y) → P (cond b x y)
either P true x y p q = p refl
either P false x y p q = q refl

-- the write of a status block is one request, and nothing is left behind it
pub end_makes : (tables chunks : ℕ) (m : Machine) (kind : StatusKind) (dead : Option FailCause) → MakesAtMost tables chunks 1 (mark m) (end_step m kind dead)
end_makes tables chunks m kind None = record { requests = omega arith; marked = omega arith }
end_makes tables chunks m kind (Some cause) = record { requests = omega arith; marked = omega arith }

-- a chunk of data, and one of an answer
some_wanted : (m : Machine) (wanted : ℕ) → 0 < wanted → data_left m wanted ≡ behind m (length m.payload) wanted
some_wanted m wanted some =
    let e : (wanted == 0) ≡ false = grind (arith, nat_tests) in
    ap (λ (b : Bool). cond b (pieces_from m.segments (limit_of m.orb) 0) (behind m (length m.payload) wanted)) e

pub data_makes : (tables chunks most : ℕ) (m : Machine) (wanted : ℕ) → length m.payload < wanted → wanted ≤ bytes_of m.segments → pieces_from m.segments (limit_of m.orb) (length m.payload) ≤ most
    → MakesAtMost tables chunks (most + 1) (mark m) (data_step m wanted)
data_makes tables chunks most m wanted below fits few =
    let left = some_wanted m wanted (omega arith) in
    let one = one_chunk m (length m.payload) wanted below fits in
    record { requests = omega (arith, left, one, few); marked = omega arith }

pub answer_makes : (tables chunks most : ℕ) (m : Machine) → m.written < length m.answer → length m.answer ≤ bytes_of m.segments → pieces_from m.segments (limit_of m.orb) m.written ≤ most
    → MakesAtMost tables chunks (most + 1) (mark m) (answer_step m)
answer_makes tables chunks most m below fits few =
    let one = one_chunk m m.written (length m.answer) below fits in
    record { requests = omega (arith, one, few); marked = omega arith }

-- ---- what a run tells
-- an answer has the length told, and fits the buffer
abbrev pub AnswerFits : Outcome → Machine → Type 0
AnswerFits (outcomes.Good len) m = (length m.answer ≡ len) × (len ≤ bytes_of m.segments)
AnswerFits (outcomes.Check check) m = Unit {0}

unchecked : (check failure : Option Sense) → MayEnd check failure None → check ≡ None
unchecked (Some check) failure e = cc e
unchecked None failure e = refl

told_fits : (m : Machine) (len place : ℕ) (plain : PlainDisk) → MayRun m place (outcomes.Good len) plain → AnswerFits (outcomes.Good len) m
told_fits m len place plain r =
    let fits = answer_fits m.orb.cdb (plan_of m) plain place (unchecked (check_of m.orb.cdb (plan_of m) plain place) (failure_of plain.medium.is_bay m.orb.cdb) r.ended) in
    let same = r.len refl in
    (r.size, omega (arith, fits, same))

pub ran_fits : (outcome : Outcome) (m : Machine) (place : ℕ) (plain : PlainDisk) → MayRun (ran_as m outcome).1 place outcome plain → AnswerFits outcome m
ran_fits (outcomes.Check check) m place plain r = tt
ran_fits (outcomes.Good len) m place plain r = by (len == 0) r
  where
    by : (b : Bool) → MayRun (cond b (end_step m kinds.Good None) (answer_step m)).1 place (outcomes.Good len) plain → AnswerFits (outcomes.Good len) m
    by true r = told_fits (end_step m kinds.Good None).1 len place plain r
    by false r = told_fits (answer_step m).1 len place plain r

-- a command that has data has no answer
plain_dry : (command : Result Command Sense) → 0 < data_length_by (plain_request command) → answer_length_by (plain_request command) ≡ 0
plain_dry (Err refused) h = refl
plain_dry (Ok (commands.Write lba count)) h = refl
plain_dry (Ok _) h = absurd (omega (arith, h))

request_dry : (is_bay : Bool) (cdb : List ℕ) → 0 < data_length_of false cdb → answer_length_of is_bay cdb ≡ 0
unfolding request_of
request_dry is_bay cdb h = by (is_bay && is_start_stop (operation_in cdb) && moves_disc cdb) (starts cdb)
  where
    by : (b start : Bool) → answer_length_by (cond b (cond start (Ok requests.Load) (Ok requests.Eject)) (plain_request (command_of cdb))) ≡ 0
    by true true = refl
    by true false = refl
    by false start = plain_dry (command_of cdb) h

-- ---- a run
run_makes_by : (tables chunks most : ℕ) (outcome : Outcome) (m : Machine) → m.written ≡ 0 → AnswerFits outcome m → pieces_of m.orb m.segments ≤ most → MakesAtMost tables chunks (most + 1) (mark m) (ran_as m outcome)
run_makes_by tables chunks most (outcomes.Check check) m start fits few = makes_more (omega arith) (end_makes tables chunks m (kinds.Check check) None)
run_makes_by tables chunks most (outcomes.Good len) m start fits few =
    either (MakesAtMost tables chunks (most + 1) (mark m)) (len == 0) (end_step m kinds.Good None) (answer_step m)
    (λ e. makes_more (omega arith) (end_makes tables chunks m kinds.Good None))
    (λ e.
    let some : 0 < len = grind (arith, nat_tests, e) in
    let size = fits.0 in
    let within = fits.1 in
    let here = ap (pieces_from m.segments (limit_of m.orb)) start in
    answer_makes tables chunks most m (omega (arith, some, size, start)) (omega (arith, size, within)) (omega (arith, here, few)))

pub run_makes : (tables chunks most : ℕ) (m : Machine) (told : Told) (place : ℕ) (plain : PlainDisk) → pieces_of m.orb m.segments ≤ most → MayTellSo (run_step m told) place plain → MakesAtMost tables chunks (most + 1) (mark m) (run_step m told)
run_makes tables chunks most m told place plain few may =
    let ready : Machine = record m { answer = told.answer; written = 0 } in
    let a : MakesAtMost tables chunks (most + 1) (mark m) (ran_as ready told.outcome) = run_makes_by tables chunks most told.outcome ready refl (ran_fits told.outcome ready place plain may) few in
    record { requests = a.requests; marked = a.marked }

-- a command that had data has no answer to write
dry_makes_by : (tables chunks : ℕ) (outcome : Outcome) (m : Machine) (place : ℕ) (plain : PlainDisk) → 0 < data_length_of false m.orb.cdb → MayRun (ran_as m outcome).1 place outcome plain → MakesAtMost tables chunks 1 (mark m) (ran_as m outcome)
dry_makes_by tables chunks (outcomes.Check check) m place plain some r = end_makes tables chunks m (kinds.Check check) None
dry_makes_by tables chunks (outcomes.Good len) m place plain some r = by (len == 0) refl r
  where
    by : (b : Bool) → (len == 0) ≡ b → MayRun (cond b (end_step m kinds.Good None) (answer_step m)).1 place (outcomes.Good len) plain → MakesAtMost tables chunks 1 (mark m) (cond b (end_step m kinds.Good None) (answer_step m))
    by true e r = end_makes tables chunks m kinds.Good None
    by false e r =
        let whole = r.len refl in
        let none_told = request_dry plain.medium.is_bay m.orb.cdb some in
        let more : 0 < len = grind (arith, nat_tests, e) in
        absurd (omega (arith, whole, none_told, more))

pub dry_makes : (tables chunks : ℕ) (m : Machine) (told : Told) (place : ℕ) (plain : PlainDisk) → 0 < data_length_of false m.orb.cdb → MayTellSo (run_step m told) place plain → MakesAtMost tables chunks 1 (mark m) (run_step m told)
dry_makes tables chunks m told place plain some may =
    let a : MakesAtMost tables chunks 1 (mark m) (ran_as (record m { answer = told.answer; written = 0 }) told.outcome) = dry_makes_by tables chunks told.outcome (record m { answer = told.answer; written = 0 }) place plain some may in
    record { requests = a.requests; marked = a.marked }

-- ---- a command is judged
-- data that are needed are some, and fit the buffer
needed : (check : Option Sense) (len wanted : ℕ) → need_at check len ≡ needs.Payload wanted → 0 < wanted
needed (Some check) len wanted e = cc e
needed None len wanted e = grind (arith, nat_tests)

data_fits : (m : Machine) (place : ℕ) (plain : PlainDisk) (wanted : ℕ) → need_of m.orb.cdb (plan_of m) plain place ≡ needs.Payload wanted → wanted ≤ bytes_of m.segments
data_fits m place plain wanted e = (filled_by (record m { orb = record m.orb { max_payload = 0 }; payload = [] }) plain place wanted (record { limit = omega arith; fresh = refl }) e).fits

judge_makes_by : (tables chunks most : ℕ) (need : Need) (m : Machine) (told : Told) (place : ℕ) (plain : PlainDisk) → need_of m.orb.cdb (plan_of m) plain place ≡ need → m.payload ≡ [] → pieces_of m.orb m.segments ≤ most
    → MayTellSo (judged m told need) place plain → MakesAtMost tables chunks (most + 1) (mark m) (judged m told need)
judge_makes_by tables chunks most needs.RunNow m told place plain e fresh few may = run_makes tables chunks most m told place plain few may
judge_makes_by tables chunks most (needs.Payload wanted) m told place plain e fresh few may =
    let empty : length m.payload ≡ 0 = ap length fresh in
    let some = needed (check_of m.orb.cdb (plan_of m) plain place) (data_length_of plain.medium.is_bay m.orb.cdb) wanted e in
    let start = ap (pieces_from m.segments (limit_of m.orb)) empty in
    data_makes tables chunks most m wanted (omega (arith, empty, some)) (data_fits m place plain wanted e) (omega (arith, start, few))

pub judge_makes : (tables chunks most : ℕ) (m : Machine) (told : Told) (place : ℕ) (plain : PlainDisk) → m.payload ≡ [] → pieces_of m.orb m.segments ≤ most
    → MayTellSo (judge_step m place plain told) place plain → MakesAtMost tables chunks (most + 1) (mark m) (judge_step m place plain told)
judge_makes tables chunks most m told place plain fresh few may = judge_makes_by tables chunks most (need_of m.orb.cdb (plan_of m) plain place) m told place plain refl fresh few may
