-- A step asks for a task's and the fetcher's next transaction at most, and a transaction that failed runs no command.
use Rattle.std.proofs.Common.{◌≡◌, refl, ap, sym, ◌∙◌, ℕ, ◌≤◌, ◌==◌, Bool, true, false, cond, List, length, Option, Some, None, Result, arith}
use Rattle.std.specs.Prelude.{◌++◌, Ok, Err}
use Rattle.orb_layout.specs.declared.ask.Ask.{Ask}
use Rattle.orb_layout.specs.declared.ask.Ask.TheVariants.{Read, Write, Nothing}
use Rattle.orb_layout.specs.declared.ask.FailCause.{FailCause}
use Rattle.orb_layout.specs.declared.ask.FailCause.TheVariants as causes
use Rattle.orb_layout.specs.Replies.{Answer, Payload, Done, Refused, Expired, NoLabel, payload_of, write_failure}
use Rattle.rbc_disk.specs.declared.command.Outcome.{Outcome}
use Rattle.rbc_disk.specs.Disk.{Disk, no_disk}
use Rattle.rbc_disk.specs.Units.{UnitState, PlainDisk, plain_disk, new_unit}
use Rattle.rbc_disk.specs.Runs.{Told, left_by}
use Rattle.command_agent.specs.declared.step.AgentStep.{AgentStep}
use Rattle.command_agent.specs.declared.step.Which.TheVariants.{Main}
use Rattle.command_agent.specs.Machine.{Machine}
use Rattle.command_agent.specs.Runs.{count_after}
use Rattle.command_agent.specs.Steps as agent
use Rattle.command_agent.specs.Tasks.{begin_step, writes_status}
use Rattle.command_agent.proofs.Losing.{reply_lost, losses_silent}
use Rattle.unordered_agent.specs.declared.fetcher.FetchPhase.{FetchPhase}
use Rattle.unordered_agent.specs.declared.fetcher.FetchPhase.TheVariants as phases
use Rattle.unordered_agent.specs.declared.step.TaskStep.{TaskStep}
use Rattle.unordered_agent.specs.Machine.{TaskMachine, lowest_free, task_at}
use Rattle.unordered_agent.specs.Steps.{asked, begun, fetch_replied, freed, next_read, orb_read, released, reply_step, status_written, task_replied, worked}
use Rattle.task_target.specs.Following.{Fails, failed_step}

-- two requests at most
two_asked : (place : ℕ) (first second : Ask) → length (asked place first ++ asked 8 second) ≤ 2
two_asked place Nothing Nothing = omega arith
two_asked place Nothing (Read offset len) = omega arith
two_asked place Nothing (Write offset len) = omega arith
two_asked place (Read offset len) Nothing = omega arith
two_asked place (Read offset len) (Read other more) = omega arith
two_asked place (Read offset len) (Write other more) = omega arith
two_asked place (Write offset len) Nothing = omega arith
two_asked place (Write offset len) (Read other more) = omega arith
two_asked place (Write offset len) (Write other more) = omega arith

one_asked : (ask : Ask) → length (asked 8 ask) ≤ 2
one_asked Nothing = omega arith
one_asked (Read offset len) = omega arith
one_asked (Write offset len) = omega arith

abbrev AreFew : TaskStep × TaskMachine → Type 0
AreFew made = length made.0.asks ≤ 2

few_if : (b : Bool) (x y : TaskStep × TaskMachine) → AreFew x → AreFew y → AreFew (cond b x y)
few_if true x y h k = h
few_if false x y h k = k

few_read : (s : TaskMachine) (login : ℕ) (plain : PlainDisk) (told : Option Told) (answer : Answer) (place : Option ℕ) → AreFew (orb_read s login plain told answer place)
few_read s login plain told answer None = omega arith
few_read s login plain told answer (Some place) =
    let task = begin_step (task_at s place) login plain told s.fetcher.orb answer in
    two_asked place task.0.ask _

few_next : (s : TaskMachine) (read : Result (List ℕ) FailCause) → AreFew (next_read s read)
few_next s (Err cause) = omega arith
few_next s (Ok bytes) = one_asked _

few_fetched : (phase : FetchPhase) (s : TaskMachine) (login : ℕ) (plain : PlainDisk) (told : Option Told) (answer : Answer) → AreFew (fetch_replied phase s login plain told answer)
few_fetched phases.Fetching s login plain told answer = few_read s login plain told answer (lowest_free s.tasks)
few_fetched phases.ReadingNext s login plain told answer = few_next s (payload_of answer 8)
few_fetched phases.Reset s login plain told answer = omega arith
few_fetched phases.Waiting s login plain told answer = omega arith
few_fetched phases.AtEnd s login plain told answer = omega arith
few_fetched phases.Dead s login plain told answer = omega arith

few_freed : (phase : FetchPhase) (s : TaskMachine) → AreFew (freed phase s)
few_freed phases.Waiting s = one_asked _
few_freed phases.Fetching s = omega arith
few_freed phases.ReadingNext s = omega arith
few_freed phases.Reset s = omega arith
few_freed phases.AtEnd s = omega arith
few_freed phases.Dead s = omega arith

few_written : (phase : FetchPhase) (s : TaskMachine) (place : ℕ) (failure : Option FailCause) → AreFew (status_written phase s place failure)
few_written phases.Dead s place failure = omega arith
few_written phases.Fetching s place (Some cause) = omega arith
few_written phases.ReadingNext s place (Some cause) = omega arith
few_written phases.Waiting s place (Some cause) = omega arith
few_written phases.Reset s place (Some cause) = omega arith
few_written phases.AtEnd s place (Some cause) = omega arith
few_written phases.Fetching s place None = few_freed phases.Fetching (released s place)
few_written phases.ReadingNext s place None = few_freed phases.ReadingNext (released s place)
few_written phases.Waiting s place None = few_freed phases.Waiting (released s place)
few_written phases.Reset s place None = few_freed phases.Reset (released s place)
few_written phases.AtEnd s place None = few_freed phases.AtEnd (released s place)

few_worked : (s : TaskMachine) (place : ℕ) (task : AgentStep × Machine) → AreFew (worked s place task)
few_worked s place task = two_asked place task.0.ask Nothing

pub few_asked : (s : TaskMachine) (login : ℕ) (plain : PlainDisk) (told : Option Told) (place : ℕ) (answer : Answer) → length (reply_step s login plain told place answer).0.asks ≤ 2
unfolding reply_step
few_asked s login plain told place answer =
    few_if (place == 8) _ _ (few_fetched s.fetcher.phase s login plain told answer)
    (few_if (writes_status (task_at s place).phase) _ _ (few_written s.fetcher.phase s place (write_failure answer)) (few_worked s place (agent.reply_step (task_at s place) login plain told Main answer)))

-- What a failed transaction brings does not depend on the unit, its medium, or what a run would tell.
same_work : (m : Machine) (plain other : PlainDisk) (told more : Option Told) (answer : Answer) → Fails answer → agent.reply_step m 0 plain told Main answer ≡ agent.reply_step m 0 other more Main answer
same_work m plain other told more Expired f = reply_lost m 0 plain told Main Expired causes.Timeout refl ∙ sym (reply_lost m 0 other more Main Expired causes.Timeout refl)
same_work m plain other told more NoLabel f = reply_lost m 0 plain told Main NoLabel causes.Label refl ∙ sym (reply_lost m 0 other more Main NoLabel causes.Label refl)
same_work m plain other told more (Payload bytes) f = absurd f
same_work m plain other told more Done f = absurd f
same_work m plain other told more (Refused rcode) f = absurd f

same_begin : (m : Machine) (orb : ℕ) (plain other : PlainDisk) (told more : Option Told) (answer : Answer) → Fails answer → begin_step m 0 plain told orb answer ≡ begin_step m 0 other more orb answer
unfolding begin_step
same_begin m orb plain other told more Expired f = refl
same_begin m orb plain other told more NoLabel f = refl
same_begin m orb plain other told more (Payload bytes) f = absurd f
same_begin m orb plain other told more Done f = absurd f
same_begin m orb plain other told more (Refused rcode) f = absurd f

same_read : (s : TaskMachine) (plain other : PlainDisk) (told more : Option Told) (answer : Answer) (place : Option ℕ) → Fails answer → orb_read s 0 plain told answer place ≡ orb_read s 0 other more answer place
same_read s plain other told more answer None f = refl
same_read s plain other told more answer (Some place) f = ap (λ (task : AgentStep × Machine). begun s place task) (same_begin (task_at s place) s.fetcher.orb plain other told more answer f)

same_fetch : (phase : FetchPhase) (s : TaskMachine) (plain other : PlainDisk) (told more : Option Told) (answer : Answer) → Fails answer → fetch_replied phase s 0 plain told answer ≡ fetch_replied phase s 0 other more answer
same_fetch phases.Fetching s plain other told more answer f = same_read s plain other told more answer (lowest_free s.tasks) f
same_fetch _ s plain other told more answer f = refl

pub failed_same : (s : TaskMachine) (plain : PlainDisk) (told : Option Told) (place : ℕ) (answer : Answer) → Fails answer → reply_step s 0 plain told place answer ≡ failed_step s place answer
unfolding reply_step
failed_same s plain told place answer f =
    ap (λ (x : TaskStep × TaskMachine). cond (place == 8) x (task_replied s 0 plain told place answer)) (same_fetch s.fetcher.phase s plain (plain_disk new_unit no_disk) told None answer f)
    ∙ ap (λ (x : AgentStep × Machine). cond (place == 8) (fetch_replied s.fetcher.phase s 0 (plain_disk new_unit no_disk) None answer) (cond (writes_status (task_at s place).phase) (status_written s.fetcher.phase s place (write_failure answer)) (worked s place x))) (same_work (task_at s place) plain (plain_disk new_unit no_disk) told None answer f)

-- Where no command ran, the unit and its medium stay as they were.
pub left_alone : (unit new : UnitState) (medium more : Disk) (ran : Option Outcome) (cdb payload : List ℕ) → plain_disk new more ≡ left_by ran cdb payload 0 (plain_disk unit medium) → ran ≡ None → plain_disk new more ≡ plain_disk unit medium
left_alone unit new medium more ran cdb payload e r = e ∙ ap (λ (x : Option Outcome). left_by x cdb payload 0 (plain_disk unit medium)) r

pub counted_alone : (ran : Option Outcome) (before now : ℕ) → now ≡ count_after ran before → ran ≡ None → now ≡ before
counted_alone ran before now e r = e ∙ ap (λ (x : Option Outcome). count_after x before) r

-- It runs no command.
abbrev IsSilent : TaskStep × TaskMachine → Type 0
IsSilent made = made.0.ran ≡ None

silent_if : (b : Bool) (x y : TaskStep × TaskMachine) → IsSilent x → IsSilent y → IsSilent (cond b x y)
silent_if true x y h k = h
silent_if false x y h k = k

silent_work : (m : Machine) (plain : PlainDisk) (told : Option Told) (answer : Answer) → Fails answer → (agent.reply_step m 0 plain told Main answer).0.ran ≡ None
silent_work m plain told Expired f = ap (λ (x : AgentStep × Machine). x.0.ran) (reply_lost m 0 plain told Main Expired causes.Timeout refl) ∙ losses_silent m Main causes.Timeout
silent_work m plain told NoLabel f = ap (λ (x : AgentStep × Machine). x.0.ran) (reply_lost m 0 plain told Main NoLabel causes.Label refl) ∙ losses_silent m Main causes.Label
silent_work m plain told (Payload bytes) f = absurd f
silent_work m plain told Done f = absurd f
silent_work m plain told (Refused rcode) f = absurd f

silent_begin : (m : Machine) (orb : ℕ) (plain : PlainDisk) (told : Option Told) (answer : Answer) → Fails answer → (begin_step m 0 plain told orb answer).0.ran ≡ None
unfolding begin_step
silent_begin m orb plain told Expired f = refl
silent_begin m orb plain told NoLabel f = refl
silent_begin m orb plain told (Payload bytes) f = absurd f
silent_begin m orb plain told Done f = absurd f
silent_begin m orb plain told (Refused rcode) f = absurd f

silent_read : (s : TaskMachine) (plain : PlainDisk) (told : Option Told) (answer : Answer) (place : Option ℕ) → Fails answer → IsSilent (orb_read s 0 plain told answer place)
silent_read s plain told answer None f = refl
silent_read s plain told answer (Some place) f = silent_begin (task_at s place) s.fetcher.orb plain told answer f

silent_next : (s : TaskMachine) (read : Result (List ℕ) FailCause) → IsSilent (next_read s read)
silent_next s (Err cause) = refl
silent_next s (Ok bytes) = refl

silent_fetch : (phase : FetchPhase) (s : TaskMachine) (plain : PlainDisk) (told : Option Told) (answer : Answer) → Fails answer → IsSilent (fetch_replied phase s 0 plain told answer)
silent_fetch phases.Fetching s plain told answer f = silent_read s plain told answer (lowest_free s.tasks) f
silent_fetch phases.ReadingNext s plain told answer f = silent_next s (payload_of answer 8)
silent_fetch _ s plain told answer f = refl

silent_written : (phase : FetchPhase) (s : TaskMachine) (place : ℕ) (failure : Option FailCause) → IsSilent (status_written phase s place failure)
silent_written phases.Dead s place failure = refl
silent_written phases.Fetching s place None = refl
silent_written phases.ReadingNext s place None = refl
silent_written phases.Waiting s place None = refl
silent_written phases.Reset s place None = refl
silent_written phases.AtEnd s place None = refl
silent_written _ s place (Some cause) = refl

pub failed_silent : (s : TaskMachine) (place : ℕ) (answer : Answer) → Fails answer → (failed_step s place answer).0.ran ≡ None
unfolding reply_step
failed_silent s place answer f =
    silent_if (place == 8) _ _ (silent_fetch s.fetcher.phase s (plain_disk new_unit no_disk) None answer f)
    (silent_if (writes_status (task_at s place).phase) _ _ (silent_written s.fetcher.phase s place (write_failure answer)) (silent_work (task_at s place) (plain_disk new_unit no_disk) None answer f))
