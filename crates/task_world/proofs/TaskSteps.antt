-- What a reply to a task agent tells of its ORB: a check has a sense key of four bits, no ORB ends with a status of management, and the
-- ORB whose command ran is the one that the reply is about.
use Rattle.std.proofs.Common.{◌≡◌, refl, sym, subst, ℕ, ◌==◌, nat_lt, Bool, true, false, cond, List, Option, Some, None, Result, Ok, Err}
use Rattle.orb_layout.specs.declared.ask.FailCause.{FailCause}
use Rattle.orb_layout.specs.CommandOrbs.{command_orb}
use Rattle.orb_layout.specs.Replies.{Answer, payload_of, write_failure}
use Rattle.rbc_disk.specs.declared.command.Outcome.{Outcome}
use Rattle.rbc_disk.specs.Disk.{no_disk}
use Rattle.rbc_disk.specs.Runs.{Told}
use Rattle.rbc_disk.specs.Units.{PlainDisk, new_unit, plain_disk}
use Rattle.command_agent.specs.declared.step.Which.TheVariants.{Main}
use Rattle.command_agent.specs.Machine.{Machine, is_under_way}
use Rattle.command_agent.specs.Runs.{MayTell}
use Rattle.command_agent.specs.Steps.{told_or, turned}
use Rattle.command_agent.specs.Steps as agent
use Rattle.command_agent.specs.Tasks.{begin_step, begun, writes_status}
use Rattle.sbp_world.proofs.AgentForms.{Ends, FitsEnd, FitsRun, Suits as AgentSuits, check_well, end_fits, reply_well, run_fits}
use Rattle.unordered_agent.specs.declared.fetcher.FetchPhase.{FetchPhase}
use Rattle.unordered_agent.specs.declared.fetcher.FetchPhase.TheVariants as phases
use Rattle.unordered_agent.specs.declared.step.TaskStep.{TaskStep}
use Rattle.unordered_agent.specs.Machine.{TaskMachine, is_busy, lowest_free, task_at}
use Rattle.unordered_agent.specs.Steps.{fetch_replied, next_read, or_none, orb_read, place_of, reply_step, status_written, task_replied, worked}
use Rattle.task_target.specs.Following.{Fails, about, failed_step}
use Rattle.task_target.proofs.Failing.{failed_silent}

-- ---- a check that an ORB ends with is that of its run

record Suits (step : TaskStep) : Type 0 where
  is : Ends step.ended step.ran

suits_if : (b : Bool) (x y : TaskStep × TaskMachine) → Suits x.0 → Suits y.0 → Suits (cond b x y).0
suits_if true x y h k = h
suits_if false x y h k = k

begun_suits : (m : Machine) (login : ℕ) (plain : PlainDisk) (told : Told) (read : Result (List ℕ) FailCause) → AgentSuits (begun m login plain told read).0
begun_suits m login plain told (Ok bytes) = check_well (record m { orb = command_orb bytes }) login plain told
begun_suits m login plain told (Err cause) = tt

begin_suits : (m : Machine) (login : ℕ) (plain : PlainDisk) (told : Option Told) (orb : ℕ) (answer : Answer) → AgentSuits (begin_step m login plain told orb answer).0
unfolding begin_step
begin_suits m login plain told orb answer = begun_suits (turned m orb) login plain (told_or told) (payload_of answer 32)

read_suits : (s : TaskMachine) (login : ℕ) (plain : PlainDisk) (told : Option Told) (answer : Answer) (place : Option ℕ) → Suits (orb_read s login plain told answer place).0
read_suits s login plain told answer None = record { is = tt }
read_suits s login plain told answer (Some place) = record { is = begin_suits (task_at s place) login plain told s.fetcher.orb answer }

next_suits : (s : TaskMachine) (read : Result (List ℕ) FailCause) → Suits (next_read s read).0
next_suits s (Err cause) = record { is = tt }
next_suits s (Ok bytes) = record { is = tt }

fetched_suits : (phase : FetchPhase) (s : TaskMachine) (login : ℕ) (plain : PlainDisk) (told : Option Told) (answer : Answer) → Suits (fetch_replied phase s login plain told answer).0
fetched_suits phases.Fetching s login plain told answer = read_suits s login plain told answer (lowest_free s.tasks)
fetched_suits phases.ReadingNext s login plain told answer = next_suits s (payload_of answer 8)
fetched_suits _ s login plain told answer = record { is = tt }

written_suits : (phase : FetchPhase) (s : TaskMachine) (place : ℕ) (failure : Option FailCause) → Suits (status_written phase s place failure).0
written_suits phases.Dead s place failure = record { is = tt }
written_suits phases.Fetching s place None = record { is = tt }
written_suits phases.ReadingNext s place None = record { is = tt }
written_suits phases.Waiting s place None = record { is = tt }
written_suits phases.Reset s place None = record { is = tt }
written_suits phases.AtEnd s place None = record { is = tt }
written_suits _ s place (Some cause) = record { is = tt }

reply_suits : (s : TaskMachine) (login : ℕ) (plain : PlainDisk) (told : Option Told) (place : ℕ) (answer : Answer) → Suits (reply_step s login plain told place answer).0
unfolding reply_step
reply_suits s login plain told place answer =
    suits_if (place == 8) (fetch_replied s.fetcher.phase s login plain told answer) (task_replied s login plain told place answer) (fetched_suits s.fetcher.phase s login plain told answer)
    (suits_if (writes_status (task_at s place).phase) (status_written s.fetcher.phase s place (write_failure answer)) (worked s place (agent.reply_step (task_at s place) login plain told Main answer)) (written_suits s.fetcher.phase s place (write_failure answer))
    (record { is = reply_well (task_at s place) login plain told Main answer }))

-- a step tells what fits
pub record IsFit (step : TaskStep) : Type 0 where
  pub ran : FitsRun step.ran
  pub ended : FitsEnd step.ended

pub reply_fits : (s : TaskMachine) (login : ℕ) (plain : PlainDisk) (told : Option Told) (place : ℕ) (answer : Answer) → (let r = reply_step s login plain told place answer in MayTell r.0.ran (task_at r.1 (place_of s place)) login plain → IsFit r.0)
reply_fits s login plain told place answer may =
    let r = reply_step s login plain told place answer in
    let ran = run_fits r.0.ran (task_at r.1 (place_of s place)) login plain may in
    record { ran = ran; ended = end_fits r.0.ended r.0.ran (reply_suits s login plain told place answer).is ran }

-- of a transaction that failed too, in which no command runs
pub failed_fits : (s : TaskMachine) (place : ℕ) (answer : Answer) → Fails answer → IsFit (failed_step s place answer).0
failed_fits s place answer f =
    let step = (failed_step s place answer).0 in
    let ran : FitsRun step.ran = subst FitsRun (sym (failed_silent s place answer f)) tt in
    record { ran = ran; ended = end_fits step.ended step.ran (reply_suits s 0 (plain_disk new_unit no_disk) None place answer).is ran }

-- ---- the place of the ORB whose command ran

-- where one ran, it is the one that is told
abbrev pub Names : Option ℕ → ℕ → Option Outcome → Type 0
Names told at None = Unit {0}
Names told at (Some outcome) = told ≡ Some at

names_it : (place : ℕ) (ran : Option Outcome) → Names (Some place) place ran
names_it place None = tt
names_it place (Some outcome) = refl

read_names : (s : TaskMachine) (login : ℕ) (plain : PlainDisk) (told : Option Told) (answer : Answer) (place : Option ℕ) → Names place (or_none place) (orb_read s login plain told answer place).0.ran
read_names s login plain told answer None = tt
read_names s login plain told answer (Some place) = names_it place _

next_names : (s : TaskMachine) (read : Result (List ℕ) FailCause) (place : Option ℕ) (at : ℕ) → Names place at (next_read s read).0.ran
next_names s (Err cause) place at = tt
next_names s (Ok bytes) place at = tt

fetched_names : (phase : FetchPhase) (s : TaskMachine) (login : ℕ) (plain : PlainDisk) (told : Option Told) (answer : Answer) → Names (lowest_free s.tasks) (or_none (lowest_free s.tasks)) (fetch_replied phase s login plain told answer).0.ran
fetched_names phases.Fetching s login plain told answer = read_names s login plain told answer (lowest_free s.tasks)
fetched_names phases.ReadingNext s login plain told answer = next_names s (payload_of answer 8) (lowest_free s.tasks) (or_none (lowest_free s.tasks))
fetched_names _ s login plain told answer = tt

-- a place of a task whose transaction is under way is one of the 8
is_task_place : (b c d fetches : Bool) → b ≡ false → cond b fetches (cond c d false) ≡ true → c ≡ true
is_task_place true c d fetches e h = absurd (let no : true ≡ false = e in cc)
is_task_place false true d fetches e h = refl
is_task_place false false d fetches e h = absurd (let no : false ≡ true = h in cc)

task_names : (b : Bool) (place : ℕ) (ran : Option Outcome) → b ≡ true → Names (cond b (Some place) None) place ran
task_names true place ran e = names_it place ran
task_names false place ran e = absurd (let no : false ≡ true = e in cc)

names_if : (b : Bool) (free told : Option ℕ) (place : ℕ) (x y : TaskStep × TaskMachine) → (b ≡ true → Names free (or_none free) x.0.ran) → (b ≡ false → Names told place y.0.ran) → Names (cond b free told) (cond b (or_none free) place) (cond b x y).0.ran
names_if true free told place x y h k = h refl
names_if false free told place x y h k = k refl

pub reply_names : (s : TaskMachine) (login : ℕ) (plain : PlainDisk) (told : Option Told) (place : ℕ) (answer : Answer) → is_busy place s ≡ true → Names (about s place) (place_of s place) (reply_step s login plain told place answer).0.ran
unfolding reply_step
reply_names s login plain told place answer busy =
    let x = fetch_replied s.fetcher.phase s login plain told answer in
    let y = task_replied s login plain told place answer in
    names_if (place == 8) (lowest_free s.tasks) (cond (nat_lt place 8) (Some place) None) place x y (λ e. fetched_names s.fetcher.phase s login plain told answer)
    (λ e. task_names (nat_lt place 8) place y.0.ran (is_task_place (place == 8) (nat_lt place 8) (is_under_way Main (task_at s place)) _ e busy))
