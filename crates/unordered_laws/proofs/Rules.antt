-- The fetch rule after every list of calls.
use Rattle.std.proofs.Common.{◌≡◌, refl, ap, sym, get_or-set_same, ℕ, ◌==◌, ◌<◌, nat_lt, not, Bool, true, false, cond, List, [], ◌∷◌, length, map, slice_set, Option, Some, None, Result, Ok, Err, arith}
use Rattle.std.proofs.lemmas.Bool.Decides.{nat_tests}
use Rattle.std.proofs.lemmas.List.Quantifiers.{position-Some}
use Rattle.orb_layout.specs.declared.ask.Ask.{Ask}
use Rattle.orb_layout.specs.declared.ask.FailCause.{FailCause}
use Rattle.orb_layout.specs.declared.pointer.OrbPointer.{OrbPointer}
use Rattle.orb_layout.specs.declared.pointer.OrbPointer.TheVariants.{Null, At}
use Rattle.orb_layout.specs.Pointers.{pointer_at}
use Rattle.orb_layout.specs.Replies.{Answer, payload_of, write_failure}
use Rattle.rbc_disk.specs.Units.{PlainDisk}
use Rattle.rbc_disk.specs.Runs.{Told}
use Rattle.command_agent.specs.declared.step.PointRefusal.{PointRefusal}
use Rattle.command_agent.specs.declared.step.PointRefusal.TheVariants as refusals
use Rattle.command_agent.specs.declared.step.AgentStep.{AgentStep}
use Rattle.command_agent.specs.declared.step.Which.TheVariants.{Main}
use Rattle.command_agent.specs.Machine.{Machine, new_machine, is_under_way}
use Rattle.command_agent.specs.Steps as agent
use Rattle.command_agent.specs.Tasks.{begin_step, writes_status}
use Rattle.unordered_agent.specs.declared.fetcher.FetchPhase.{FetchPhase}
use Rattle.unordered_agent.specs.declared.fetcher.FetchPhase.TheVariants as phases
use Rattle.unordered_agent.specs.declared.fetcher.Fetcher.{Fetcher}
use Rattle.unordered_agent.specs.Machine.{TaskMachine, both, new_agent, agent_at, task_at, state_in, is_free, is_busy, is_reading, lowest_free, FetchRule, IsSound}
use Rattle.unordered_agent.specs.Fetching.{seated}
use Rattle.unordered_agent.specs.Steps.{quiet, takes_pointer, pointed, doorbell_in, point_step, doorbell_step, reset_all_step, reply_step, settled, goes_on, orb_read, next_read, fetch_replied, status_written, worked, task_replied}
use Rattle.unordered_agent.proofs.Places.{sound_pointed, sound_reset, sound_died, sound_begun, sound_relinked, sound_freed, sound_released, sound_worked}
use Rattle.unordered_laws.specs.Calls.{Call, Point, Doorbell, Reset, Reply, after_call, after_calls, FetchRuleLaw}

-- an agent that keeps what always holds
pub record Sound (s : TaskMachine) : Type 0 where
  pub so : IsSound s.fetcher s.tasks

new_sound : Sound new_agent
new_sound = record { so = record { size = refl; newest = omega arith; worked = refl; rule = refl } }

-- ORB_POINTER
taken_sound : (pointer : OrbPointer) (s : TaskMachine) → Sound s → takes_pointer (state_in s.fetcher.phase) s.tasks ≡ true → Sound (pointed s pointer).1
taken_sound Null s h e = h
taken_sound (At first) s h e = record { so = sound_pointed s.fetcher s.tasks first h.so e }

abbrev pub refused : TaskMachine → Result Ask PointRefusal × TaskMachine
refused s = (Err refusals.Conflict, s)

point_sound : (b : Bool) (pointer : OrbPointer) (s : TaskMachine) → takes_pointer (state_in s.fetcher.phase) s.tasks ≡ b → Sound s → Sound (cond b (pointed s pointer) (refused s)).1
point_sound true pointer s e h = taken_sound pointer s h e
point_sound false pointer s e h = h

-- DOORBELL
rung : (f : Fetcher) (tasks : List Machine) → IsSound f tasks → FetchRule f.phase (record f { doorbell = true }) tasks → Sound (both (record f { doorbell = true }) tasks)
rung f tasks h r = record { so = record { size = h.size; newest = h.newest; worked = h.worked; rule = r } }

doorbell_sound : (phase : FetchPhase) (f : Fetcher) (tasks : List Machine) → IsSound (record f { phase = phase }) tasks → Sound (doorbell_in (state_in phase) (both (record f { phase = phase }) tasks)).1
doorbell_sound phases.Reset f tasks h = record { so = h }
doorbell_sound phases.Fetching f tasks h = rung (record f { phase = phases.Fetching }) tasks h h.rule
doorbell_sound phases.ReadingNext f tasks h = rung (record f { phase = phases.ReadingNext }) tasks h h.rule
doorbell_sound phases.Waiting f tasks h = rung (record f { phase = phases.Waiting }) tasks h h.rule
doorbell_sound phases.AtEnd f tasks h = record { so = record { size = h.size; newest = h.newest; worked = h.worked; rule = h.rule.0 } }
doorbell_sound phases.Dead f tasks h = record { so = h }

-- the fetcher's transaction
orb_sound : (place : Option ℕ) (s : TaskMachine) (login : ℕ) (plain : PlainDisk) (told : Option Told) (answer : Answer) → lowest_free s.tasks ≡ place → Sound s → Sound (orb_read s login plain told answer place).1
orb_sound None s login plain told answer e h = h
orb_sound (Some place) s login plain told answer e h =
    let begun : AgentStep × Machine = begin_step (task_at s place) login plain told s.fetcher.orb answer in
    let tasks : List Machine = slice_set s.tasks place begun.1 in
    let below : place < length s.tasks = (position-Some is_free s.tasks place new_machine e).0 in
    let size : length s.tasks ≡ 8 = h.so.size in
    let at : agent_at tasks place ≡ begun.1 = get_or-set_same s.tasks place begun.1 new_machine below in
    let seat : Fetcher = seated s.fetcher place begun.1.orb.next in
    record {
      so = sound_begun s.fetcher seat s.tasks tasks (goes_on begun.0.dead (both seat tasks)).0 (goes_on begun.0.dead (both seat tasks)).1 place login begun.0 plain told answer h.so (omega arith)
          (ap (λ (m : Machine). (begun.0, m)) at) (ap (λ (m : Machine). slice_set s.tasks place m) (sym at)) refl;
    }

next_sound : (bytes : Result (List ℕ) FailCause) (s : TaskMachine) → Sound s → Sound (next_read s bytes).1
next_sound (Err cause) s h = record { so = sound_died s.fetcher s.tasks h.so.size h.so.newest h.so.worked }
next_sound (Ok bytes) s h = record { so = sound_relinked s.fetcher s.tasks (pointer_at bytes 0) h.so }

fetch_sound : (phase : FetchPhase) (s : TaskMachine) (login : ℕ) (plain : PlainDisk) (told : Option Told) (answer : Answer) → Sound s → Sound (fetch_replied phase s login plain told answer).1
fetch_sound phases.Fetching s login plain told answer h = orb_sound (lowest_free s.tasks) s login plain told answer refl h
fetch_sound phases.ReadingNext s login plain told answer h = next_sound (payload_of answer 8) s h
fetch_sound phases.Reset s login plain told answer h = h
fetch_sound phases.Waiting s login plain told answer h = h
fetch_sound phases.AtEnd s login plain told answer h = h
fetch_sound phases.Dead s login plain told answer h = h

-- a status write
status_sound : (phase : FetchPhase) (f : Fetcher) (tasks : List Machine) (place : ℕ) (failure : Option FailCause) → IsSound (record f { phase = phase }) tasks → place < 8 → is_free (agent_at tasks place) ≡ false → Sound (status_written phase (both (record f { phase = phase }) tasks) place failure).1
status_sound phases.Dead f tasks place failure h p e = record { so = sound_freed (record f { phase = phases.Dead }) tasks place h p e refl }
status_sound phase f tasks place (Some cause) h p e = record { so = sound_died (record f { phase = phase }) tasks h.size h.newest h.worked }
status_sound phases.Waiting f tasks place None h p e = record { so = sound_released (record f { phase = phases.Waiting }) tasks place h }
status_sound phases.Reset f tasks place None h p e = record { so = sound_freed (record f { phase = phases.Reset }) tasks place h p e refl }
status_sound phases.Fetching f tasks place None h p e = record { so = sound_freed (record f { phase = phases.Fetching }) tasks place h p e refl }
status_sound phases.ReadingNext f tasks place None h p e = record { so = sound_freed (record f { phase = phases.ReadingNext }) tasks place h p e refl }
status_sound phases.AtEnd f tasks place None h p e = record { so = sound_freed (record f { phase = phases.AtEnd }) tasks place h p e refl }

-- another transaction of a task
worked_sound : (s : TaskMachine) (place login : ℕ) (plain : PlainDisk) (told : Option Told) (answer : Answer) → Sound s → place < 8 → is_free (task_at s place) ≡ false → writes_status (task_at s place).phase ≡ false
    → Sound (worked s place (agent.reply_step (task_at s place) login plain told Main answer)).1
worked_sound s place login plain told answer h p e n =
    let done : AgentStep × Machine = agent.reply_step (task_at s place) login plain told Main answer in
    let tasks : List Machine = slice_set s.tasks place done.1 in
    let size : length s.tasks ≡ 8 = h.so.size in
    let at : agent_at tasks place ≡ done.1 = get_or-set_same s.tasks place done.1 new_machine (omega arith) in
    record {
      so = sound_worked s.fetcher s.tasks tasks (settled done.0.dead (both s.fetcher tasks)) place login done.0 plain told answer h.so p e n
          (ap (λ (m : Machine). (done.0, m)) at) (ap (λ (m : Machine). slice_set s.tasks place m) (sym at)) refl;
    }

task_sound : (b : Bool) (s : TaskMachine) (place login : ℕ) (plain : PlainDisk) (told : Option Told) (answer : Answer) → writes_status (task_at s place).phase ≡ b → Sound s → place < 8 → is_free (task_at s place) ≡ false
    → Sound (cond b (status_written s.fetcher.phase s place (write_failure answer)) (worked s place (agent.reply_step (task_at s place) login plain told Main answer))).1
task_sound true s place login plain told answer w h p e = status_sound s.fetcher.phase s.fetcher s.tasks place (write_failure answer) h.so p e
task_sound false s place login plain told answer w h p e = worked_sound s place login plain told answer h p e w

-- a reply
pub record Task (place : ℕ) (task : Machine) : Type 0 where
  pub below : place < 8
  pub busy : is_free task ≡ false

pub task_at_by : (b : Bool) (place : ℕ) (task : Machine) → nat_lt place 8 ≡ b → cond b (is_under_way Main task) false ≡ true → Task place task
task_at_by true place task e u = record { below = grind (arith, nat_tests); busy = ap not u }
task_at_by false place task e u = cc u

place_sound : (b : Bool) (s : TaskMachine) (login : ℕ) (plain : PlainDisk) (told : Option Told) (place : ℕ) (answer : Answer)
    → cond b (is_reading s.fetcher.phase) (cond (nat_lt place 8) (is_under_way Main (task_at s place)) false) ≡ true → Sound s
    → Sound (cond b (fetch_replied s.fetcher.phase s login plain told answer) (task_replied s login plain told place answer)).1
place_sound true s login plain told place answer u h = fetch_sound s.fetcher.phase s login plain told answer h
place_sound false s login plain told place answer u h =
    let t : Task place (task_at s place) = task_at_by (nat_lt place 8) place (task_at s place) refl u in
    task_sound (writes_status (task_at s place).phase) s place login plain told answer refl h t.below t.busy

replied_sound : (b : Bool) (s : TaskMachine) (login : ℕ) (plain : PlainDisk) (told : Option Told) (place : ℕ) (answer : Answer) → is_busy place s ≡ b → Sound s → Sound (cond b (reply_step s login plain told place answer) (quiet, s)).1
unfolding reply_step
replied_sound true s login plain told place answer u h = place_sound (place == 8) s login plain told place answer u h
replied_sound false s login plain told place answer u h = h

-- every call keeps what always holds
pub call_sound : (call : Call) (s : TaskMachine) → Sound s → Sound (after_call call s)
unfolding point_step doorbell_step reset_all_step
call_sound (Point pointer) s h = point_sound (takes_pointer (state_in s.fetcher.phase) s.tasks) pointer s refl h
call_sound Doorbell s h = doorbell_sound s.fetcher.phase s.fetcher s.tasks h.so
call_sound Reset s h = record { so = sound_reset s.fetcher s.tasks (map agent.reset_step s.tasks) h.so refl }
call_sound (Reply login plain told place answer) s h = replied_sound (is_busy place s) s login plain told place answer refl h

pub calls_sound : (calls : List Call) → Sound (after_calls calls)
calls_sound [] = new_sound
calls_sound (call ∷ calls) = call_sound call (after_calls calls) (calls_sound calls)

pub fetch_rule : FetchRuleLaw
fetch_rule calls = (calls_sound calls).so.rule
