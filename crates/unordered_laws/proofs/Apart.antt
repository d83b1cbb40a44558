-- The data and the answer of each ORB go through its own transactions alone.
use Rattle.std.proofs.Common.{◌≡◌, ◌≢◌, ◌⊎◌, inl, inr, refl, sym, subst, ◌∙◌, get_or-set_other, ℕ, zero, suc, ◌==◌, Bool, true, false, cond, List, [], ◌∷◌, ◌++◌, map, slice_set, Option, Some, None, Result, Ok, Err}
use Rattle.orb_layout.specs.declared.ask.Ask.{Ask}
use Rattle.orb_layout.specs.declared.ask.Ask.TheVariants.{Read, Write, Nothing}
use Rattle.orb_layout.specs.declared.ask.FailCause.{FailCause}
use Rattle.orb_layout.specs.declared.pointer.OrbPointer.{OrbPointer}
use Rattle.orb_layout.specs.declared.pointer.OrbPointer.TheVariants.{Null, At}
use Rattle.orb_layout.specs.Pointers.{pointer_at}
use Rattle.orb_layout.specs.Replies.{Answer, payload_of, write_failure}
use Rattle.rbc_disk.specs.Units.{PlainDisk}
use Rattle.rbc_disk.specs.Runs.{Told}
use Rattle.command_agent.specs.declared.step.PointRefusal.{PointRefusal}
use Rattle.command_agent.specs.declared.step.PointRefusal.TheVariants as refusals
use Rattle.command_agent.specs.declared.step.AgentState.{AgentState}
use Rattle.command_agent.specs.declared.step.AgentState.TheVariants as states
use Rattle.command_agent.specs.declared.step.AgentStep.{AgentStep}
use Rattle.command_agent.specs.declared.step.Which.TheVariants.{Main}
use Rattle.command_agent.specs.Machine.{Machine, new_machine}
use Rattle.command_agent.specs.Steps.{reset_step}
use Rattle.command_agent.specs.Steps as agent
use Rattle.command_agent.specs.Tasks.{begin_step, relinked, writes_status}
use Rattle.unordered_agent.specs.declared.fetcher.FetchPhase.{FetchPhase}
use Rattle.unordered_agent.specs.declared.fetcher.FetchPhase.TheVariants as phases
use Rattle.unordered_agent.specs.Machine.{TaskMachine, agent_at, task_at, state_in, is_busy, lowest_free}
use Rattle.unordered_agent.specs.Steps.{asked, quiet, pointer_read, takes_pointer, pointed, doorbell_in, point_step, doorbell_step, reset_all_step, reply_step, dropped, settled, goes_on, placed, orb_read, next_read, fetch_replied, released, status_written, worked, task_replied, or_none, place_of, with_task}
use Rattle.unordered_agent.proofs.Kept.{left_dropped}
use Rattle.unordered_laws.specs.Calls.{Point, Doorbell, Reset, Reply}
use Rattle.unordered_laws.specs.Apart.{SameOrb, ApartLaw, IsInTurn, AsksLaw}

same : (a : Machine) → SameOrb a a
same a = record { orb = refl; cdb = refl; buffer = refl; payload = refl; answer = refl; written = refl; outgoing = refl }

same_by : (a b : Machine) → a ≡ b → SameOrb a b
same_by a b e = subst (λ (m : Machine). SameOrb m b) (sym e) (same b)

same_reset : (a : Machine) → SameOrb (reset_step a) a
unfolding reset_step
same_reset a = record { orb = refl; cdb = refl; buffer = refl; payload = refl; answer = refl; written = refl; outgoing = refl }

same_through : (a b c : Machine) → SameOrb a b → SameOrb b c → SameOrb a c
same_through a b c h k = record {
  orb = h.orb ∙ k.orb;
  cdb = h.cdb ∙ k.cdb;
  buffer = h.buffer ∙ k.buffer;
  payload = h.payload ∙ k.payload;
  answer = h.answer ∙ k.answer;
  written = h.written ∙ k.written;
  outgoing = h.outgoing ∙ k.outgoing;
}

-- dropped, or reset with all the others
same_left : (a b : Machine) → (a ≡ b) ⊎ (a ≡ reset_step b) → SameOrb a b
same_left a b (inl e) = same_by a b e
same_left a b (inr e) = subst (λ (m : Machine). SameOrb m b) (sym e) (same_reset b)

same_dropped : (tasks : List Machine) (other : ℕ) → SameOrb (agent_at (map dropped tasks) other) (agent_at tasks other)
same_dropped tasks other = same_left (agent_at (map dropped tasks) other) (agent_at tasks other) (left_dropped tasks other).so

same_resets : (tasks : List Machine) (other : ℕ) → SameOrb (agent_at (map reset_step tasks) other) (agent_at tasks other)
same_resets [] other = same new_machine
same_resets (task ∷ tasks) zero = same_reset task
same_resets (task ∷ tasks) (suc other) = same_resets tasks other

-- an agent stands in another place
same_set : (tasks : List Machine) (place other : ℕ) (task : Machine) → other ≢ place → SameOrb (agent_at (slice_set tasks place task) other) (agent_at tasks other)
same_set tasks place other task n = same_by _ _ (get_or-set_other tasks place other task new_machine n)

-- the next pointer of an ORB is none of its data
same_linked : (tasks : List Machine) (place : ℕ) (next : OrbPointer) (other : ℕ) → SameOrb (agent_at (slice_set tasks place (relinked (agent_at tasks place) next)) other) (agent_at tasks other)
same_linked [] place next other = same new_machine
same_linked (task ∷ tasks) zero next zero = record { orb = refl; cdb = refl; buffer = refl; payload = refl; answer = refl; written = refl; outgoing = refl }
same_linked (task ∷ tasks) zero next (suc other) = same (agent_at tasks other)
same_linked (task ∷ tasks) (suc place) next zero = same task
same_linked (task ∷ tasks) (suc place) next (suc other) = same_linked tasks place next other

-- what follows a step
pub behind : (dead : Option FailCause) (s : TaskMachine) (other : ℕ) → SameOrb (task_at (goes_on dead s).1 other) (task_at s other)
behind None s other = same (task_at s other)
behind (Some cause) s other = same_dropped s.tasks other

pub settles : (dead : Option FailCause) (s : TaskMachine) (other : ℕ) → SameOrb (task_at (settled dead s) other) (task_at s other)
settles None s other = same (task_at s other)
settles (Some cause) s other = same_dropped s.tasks other

-- ORB_POINTER and DOORBELL
abbrev refused : TaskMachine → Result Ask PointRefusal × TaskMachine
refused s = (Err refusals.Conflict, s)

point_same : (b : Bool) (pointer : OrbPointer) (s : TaskMachine) (other : ℕ) → SameOrb (task_at (cond b (pointed s pointer) (refused s)).1 other) (task_at s other)
point_same true Null s other = same (task_at s other)
point_same true (At first) s other = same (task_at s other)
point_same false pointer s other = same (task_at s other)

doorbell_same : (state : AgentState) (s : TaskMachine) (other : ℕ) → SameOrb (task_at (doorbell_in state s).1 other) (task_at s other)
doorbell_same states.Active s other = same (task_at s other)
doorbell_same states.Suspended s other = same (task_at s other)
doorbell_same states.Reset s other = same (task_at s other)
doorbell_same states.Dead s other = same (task_at s other)

-- the fetcher's transaction
orb_same : (found : Option ℕ) (s : TaskMachine) (login : ℕ) (plain : PlainDisk) (told : Option Told) (answer : Answer) (other : ℕ) → other ≢ or_none found → SameOrb (task_at (orb_read s login plain told answer found).1 other) (task_at s other)
orb_same None s login plain told answer other n = same (task_at s other)
orb_same (Some place) s login plain told answer other n =
    let begun : AgentStep × Machine = begin_step (task_at s place) login plain told s.fetcher.orb answer in
    same_through _ (task_at (placed s place begun) other) (task_at s other)
    (behind begun.0.dead (placed s place begun) other)
    (same_set s.tasks place other begun.1 n)

next_same : (bytes : Result (List ℕ) FailCause) (s : TaskMachine) (other : ℕ) → SameOrb (task_at (next_read s bytes).1 other) (task_at s other)
next_same (Err cause) s other = same_dropped s.tasks other
next_same (Ok bytes) s other = same_linked s.tasks s.fetcher.newest (pointer_at bytes 0) other

fetch_same : (phase : FetchPhase) (s : TaskMachine) (login : ℕ) (plain : PlainDisk) (told : Option Told) (answer : Answer) (other : ℕ) → other ≢ or_none (lowest_free s.tasks) → SameOrb (task_at (fetch_replied phase s login plain told answer).1 other) (task_at s other)
fetch_same phases.Fetching s login plain told answer other n = orb_same (lowest_free s.tasks) s login plain told answer other n
fetch_same phases.ReadingNext s login plain told answer other n = next_same (payload_of answer 8) s other
fetch_same phases.Reset s login plain told answer other n = same (task_at s other)
fetch_same phases.Waiting s login plain told answer other n = same (task_at s other)
fetch_same phases.AtEnd s login plain told answer other n = same (task_at s other)
fetch_same phases.Dead s login plain told answer other n = same (task_at s other)

-- a task's transaction
release_same : (s : TaskMachine) (place other : ℕ) → other ≢ place → SameOrb (task_at (released s place) other) (task_at s other)
release_same s place other n = same_set s.tasks place other (reset_step (task_at s place)) n

status_same : (phase : FetchPhase) (s : TaskMachine) (place : ℕ) (failure : Option FailCause) (other : ℕ) → other ≢ place → SameOrb (task_at (status_written phase s place failure).1 other) (task_at s other)
status_same phases.Dead s place failure other n = release_same s place other n
status_same phase s place (Some cause) other n = same_dropped s.tasks other
status_same phases.Waiting s place None other n = release_same s place other n
status_same phases.Reset s place None other n = release_same s place other n
status_same phases.Fetching s place None other n = release_same s place other n
status_same phases.ReadingNext s place None other n = release_same s place other n
status_same phases.AtEnd s place None other n = release_same s place other n

task_same : (b : Bool) (s : TaskMachine) (place : ℕ) (failure : Option FailCause) (done : AgentStep × Machine) (other : ℕ) → other ≢ place → SameOrb (task_at (cond b (status_written s.fetcher.phase s place failure) (worked s place done)).1 other) (task_at s other)
task_same true s place failure done other n = status_same s.fetcher.phase s place failure other n
task_same false s place failure done other n =
    same_through _ (task_at (with_task s place done.1) other) (task_at s other)
    (settles done.0.dead (with_task s place done.1) other)
    (same_set s.tasks place other done.1 n)

place_same : (b : Bool) (s : TaskMachine) (login : ℕ) (plain : PlainDisk) (told : Option Told) (place : ℕ) (answer : Answer) (other : ℕ) → other ≢ cond b (or_none (lowest_free s.tasks)) place
    → SameOrb (task_at (cond b (fetch_replied s.fetcher.phase s login plain told answer) (task_replied s login plain told place answer)).1 other) (task_at s other)
place_same true s login plain told place answer other n = fetch_same s.fetcher.phase s login plain told answer other n
place_same false s login plain told place answer other n =
    task_same (writes_status (task_at s place).phase) s place (write_failure answer) (agent.reply_step (task_at s place) login plain told Main answer) other n

reply_same : (b : Bool) (s : TaskMachine) (login : ℕ) (plain : PlainDisk) (told : Option Told) (place : ℕ) (answer : Answer) (other : ℕ) → other ≢ place_of s place → SameOrb (task_at (cond b (reply_step s login plain told place answer) (quiet, s)).1 other) (task_at s other)
unfolding reply_step
reply_same true s login plain told place answer other n = place_same (place == 8) s login plain told place answer other n
reply_same false s login plain told place answer other n = same (task_at s other)

pub apart : ApartLaw
unfolding point_step doorbell_step reset_all_step
apart (Point pointer) s other n = point_same (takes_pointer (state_in s.fetcher.phase) s.tasks) pointer s other
apart Doorbell s other n = doorbell_same (state_in s.fetcher.phase) s other
apart Reset s other n = same_resets s.tasks other
apart (Reply login plain told place answer) s other n = reply_same (is_busy place s) s login plain told place answer other n

-- the requests of a reply
fetch_turn : (place : ℕ) (next : Ask) → IsInTurn place (asked 8 next)
fetch_turn place Nothing = tt
fetch_turn place (Read offset size) = inr refl
fetch_turn place (Write offset size) = inr refl

step_turn : (place : ℕ) (ask next : Ask) → IsInTurn place (asked place ask ++ asked 8 next)
step_turn place Nothing next = fetch_turn place next
step_turn place (Read offset size) Nothing = inl refl
step_turn place (Read offset size) (Read from more) = (refl, refl)
step_turn place (Read offset size) (Write from more) = (refl, refl)
step_turn place (Write offset size) Nothing = inl refl
step_turn place (Write offset size) (Read from more) = (refl, refl)
step_turn place (Write offset size) (Write from more) = (refl, refl)

orb_turn : (found : Option ℕ) (s : TaskMachine) (login : ℕ) (plain : PlainDisk) (told : Option Told) (answer : Answer) → IsInTurn (or_none found) (orb_read s login plain told answer found).0.asks
orb_turn None s login plain told answer = tt
orb_turn (Some place) s login plain told answer =
    let begun : AgentStep × Machine = begin_step (task_at s place) login plain told s.fetcher.orb answer in
    step_turn place begun.0.ask (goes_on begun.0.dead (placed s place begun)).0

next_turn : (place : ℕ) (bytes : Result (List ℕ) FailCause) (s : TaskMachine) → IsInTurn place (next_read s bytes).0.asks
next_turn place (Err cause) s = tt
next_turn place (Ok bytes) s = fetch_turn place (goes_on None (pointer_read s (pointer_at bytes 0))).0

fetcher_turn : (phase : FetchPhase) (s : TaskMachine) (login : ℕ) (plain : PlainDisk) (told : Option Told) (answer : Answer) → IsInTurn (or_none (lowest_free s.tasks)) (fetch_replied phase s login plain told answer).0.asks
fetcher_turn phases.Fetching s login plain told answer = orb_turn (lowest_free s.tasks) s login plain told answer
fetcher_turn phases.ReadingNext s login plain told answer = next_turn (or_none (lowest_free s.tasks)) (payload_of answer 8) s
fetcher_turn _ s login plain told answer = tt

status_turn : (phase : FetchPhase) (s : TaskMachine) (place : ℕ) (failure : Option FailCause) → IsInTurn place (status_written phase s place failure).0.asks
status_turn phases.Dead s place failure = tt
status_turn phase s place (Some cause) = tt
status_turn phases.Waiting s place None = fetch_turn place (goes_on None (released s place)).0
status_turn phases.Reset s place None = tt
status_turn phases.Fetching s place None = tt
status_turn phases.ReadingNext s place None = tt
status_turn phases.AtEnd s place None = tt

task_turn : (b : Bool) (s : TaskMachine) (place : ℕ) (failure : Option FailCause) (done : AgentStep × Machine) → IsInTurn place (cond b (status_written s.fetcher.phase s place failure) (worked s place done)).0.asks
task_turn true s place failure done = status_turn s.fetcher.phase s place failure
task_turn false s place failure done = step_turn place done.0.ask Nothing

place_turn : (b : Bool) (s : TaskMachine) (login : ℕ) (plain : PlainDisk) (told : Option Told) (place : ℕ) (answer : Answer)
    → IsInTurn (cond b (or_none (lowest_free s.tasks)) place) (cond b (fetch_replied s.fetcher.phase s login plain told answer) (task_replied s login plain told place answer)).0.asks
place_turn true s login plain told place answer = fetcher_turn s.fetcher.phase s login plain told answer
place_turn false s login plain told place answer =
    task_turn (writes_status (task_at s place).phase) s place (write_failure answer) (agent.reply_step (task_at s place) login plain told Main answer)

reply_turn : (b : Bool) (s : TaskMachine) (login : ℕ) (plain : PlainDisk) (told : Option Told) (place : ℕ) (answer : Answer) → IsInTurn (place_of s place) (cond b (reply_step s login plain told place answer) (quiet, s)).0.asks
unfolding reply_step
reply_turn true s login plain told place answer = place_turn (place == 8) s login plain told place answer
reply_turn false s login plain told place answer = tt

pub asks_in_turn : AsksLaw
asks_in_turn login plain told place answer s = reply_turn (is_busy place s) s login plain told place answer
