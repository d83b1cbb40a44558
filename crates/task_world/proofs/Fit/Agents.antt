-- The addresses of the agent of a task node: each of its steps asks for addresses of 48 bits, and leaves it with such.
use Rattle.sbp_world.proofs.Words.Std.{arith, ◌≡◌, refl, subst, ℕ, zero, suc, ◌^◌, ◌<◌, ◌==◌, Bool, true, false, cond, List, [], ◌∷◌, ◌++◌, map, set, Option, Some, None, Result, Ok, Err}
use Rattle.sbp_world.proofs.Words.Wire.{AreBytes}
use Rattle.rbc_disk.specs.Runs.{Told}
use Rattle.rbc_disk.specs.Units.{PlainDisk}
use Rattle.command_agent.specs.declared.step.AgentState.{AgentState}
use Rattle.command_agent.specs.declared.step.AgentState.TheVariants as states
use Rattle.command_agent.specs.declared.step.AgentStep.{AgentStep}
use Rattle.command_agent.specs.declared.step.PointRefusal.{PointRefusal}
use Rattle.command_agent.specs.declared.step.PointRefusal.TheVariants as refusals
use Rattle.command_agent.specs.declared.step.Which.TheVariants.{Main}
use Rattle.command_agent.specs.Checks.{verdict}
use Rattle.command_agent.specs.Machine.{Machine, aligned, new_machine}
use Rattle.command_agent.specs.Machine as machine
use Rattle.command_agent.specs.Steps.{reset_step, told_or, turned}
use Rattle.command_agent.specs.Steps as agent
use Rattle.command_agent.specs.Tasks.{begin_step, relinked, writes_status}
use Rattle.command_agent.specs.Tasks as tasks
use Rattle.orb_layout.specs.declared.ask.Ask.{Ask}
use Rattle.orb_layout.specs.declared.ask.Ask.TheVariants.{Read, Write, Nothing}
use Rattle.orb_layout.specs.declared.ask.FailCause.{FailCause}
use Rattle.orb_layout.specs.declared.pointer.OrbPointer.{OrbPointer}
use Rattle.orb_layout.specs.declared.pointer.OrbPointer.TheVariants.{Null, At}
use Rattle.orb_layout.specs.Pointers.{IsPointer, pointer_at}
use Rattle.orb_layout.specs.CommandOrbs.{command_orb}
use Rattle.orb_layout.specs.Replies.{Answer, payload_of, write_failure}
use Rattle.sbp_world.specs.FitTarget.{BytesTold, FitsAgent}
use Rattle.sbp_world.proofs.FitTarget.Agents.{BytesIn, BytesRead, FitsAsk, FitsStep, aligned_fits, checked_on, failed, orb_fits, payload_bytes, pointer_fits, reply_fits, reset_fits, told_bytes}
use Rattle.bus_transactions.proofs.Fits.{put_or}
use Rattle.unordered_agent.specs.declared.fetcher.FetchPhase.{FetchPhase}
use Rattle.unordered_agent.specs.declared.fetcher.FetchPhase.TheVariants as phases
use Rattle.unordered_agent.specs.declared.fetcher.Fetcher.{Fetcher}
use Rattle.unordered_agent.specs.declared.step.TaskStep.{TaskStep}
use Rattle.unordered_agent.specs.Fetching.{fetched_at, followed, reread, waited}
use Rattle.unordered_agent.specs.Machine.{TaskMachine, agent_at, has_free, lowest_free, state_in, task_at}
use Rattle.unordered_agent.specs.Steps.{asked, begun, die_step, doorbell_in, doorbell_step, dropped, fetch_replied, fetcher_follows, freed, goes_on, is_dead, next_read, orb_read, placed, point_step, pointed, pointer_read, quiet, released, reply_step, reset_all_step, settled, status_written, takes_pointer, task_replied, with_task, worked}
use Rattle.task_world.specs.Fitting.{FitsFetcher, FitsTasks}

-- ---- what places ask for
abbrev pub AllFit : List (ℕ × Ask) → Type 0
AllFit [] = Unit {0}
AllFit ((place, ask) ∷ more) = FitsAsk ask × AllFit more

pub record FitsTaskStep (r : TaskStep × TaskMachine) : Type 0 where
  pub asks : AllFit r.0.asks
  pub agent : FitsTasks r.1

pub record FitsFetch (r : Ask × Fetcher) : Type 0 where
  pub ask : FitsAsk r.0
  pub fetcher : FitsFetcher r.1

asked_fits : (place : ℕ) (ask : Ask) → FitsAsk ask → AllFit (asked place ask)
asked_fits place Nothing f = tt
asked_fits place (Read offset len) f = (f, tt)
asked_fits place (Write offset len) f = (f, tt)

append_fits : (one two : List (ℕ × Ask)) → AllFit one → AllFit two → AllFit (one ++ two)
append_fits [] two f g = g
append_fits ((place, ask) ∷ one) two f g = (f.0, append_fits one two f.1 g)

-- ---- the fetcher
fetched_fits : (f : Fetcher) (next : ℕ) → next < 2 ^ 48 → IsPointer f.next → FitsFetch (fetched_at f next)
fetched_fits f next h n = record { ask = aligned_fits next h; fetcher = record { orb = aligned_fits next h; next = n } }

reread_fits : (f : Fetcher) → FitsFetcher f → FitsFetch (reread f)
reread_fits f h = record { ask = h.orb; fetcher = record { orb = h.orb; next = h.next } }

waited_fits : (f : Fetcher) → FitsFetcher f → FitsFetch (waited f)
waited_fits f h = by f.doorbell
  where
    by : (b : Bool) → FitsFetch (cond b (reread f) (Nothing, record f { phase = phases.AtEnd }))
    by true = reread_fits f h
    by false = record { ask = tt; fetcher = record { orb = h.orb; next = h.next } }

followed_if : (b : Bool) (f : Fetcher) (next : ℕ) → next < 2 ^ 48 → FitsFetcher f → FitsFetch (cond b (fetched_at f next) (Nothing, record f { phase = phases.Waiting }))
followed_if true f next n h = fetched_fits f next n h.next
followed_if false f next n h = record { ask = tt; fetcher = record { orb = h.orb; next = h.next } }

followed_fits : (next : OrbPointer) (f : Fetcher) (has_place : Bool) → IsPointer next → FitsFetcher f → FitsFetch (followed next f has_place)
followed_fits (At next) f has_place n h = followed_if has_place f next n h
followed_fits Null f has_place n h = waited_fits f h

-- ---- the tasks
abbrev AllAgents : List Machine → Type 0
AllAgents ms = (place : ℕ) → FitsAgent (agent_at ms place)

set_fits : (ms : List Machine) (q : ℕ) (m : Machine) → FitsAgent m → AllAgents ms → AllAgents (set ms q m)
set_fits ms q m f h place = put_or FitsAgent ms q place m new_machine (λ e. f) (h place)

map_fits : (g : Machine → Machine) → ((m : Machine) → FitsAgent m → FitsAgent (g m)) → (ms : List Machine) → AllAgents ms → AllAgents (map g ms)
map_fits g k [] h place = h place
map_fits g k (m ∷ ms) h zero = k m (h zero)
map_fits g k (m ∷ ms) h (suc place) = map_fits g k ms (λ p. h (suc p)) place

dropped_if : (b : Bool) (m : Machine) → FitsAgent m → FitsAgent (cond b m (reset_step m))
dropped_if true m f = f
dropped_if false m f = reset_fits m f

dies_fit : (s : TaskMachine) → FitsTasks s → FitsTasks (die_step s)
dies_fit s h = record {
  fetcher = record { orb = h.fetcher.orb; next = h.fetcher.next };
  tasks = map_fits dropped (λ m f. dropped_if (is_dead (machine.state_in m.phase)) m f) s.tasks h.tasks;
}

settled_fits : (dead : Option FailCause) (s : TaskMachine) → FitsTasks s → FitsTasks (settled dead s)
settled_fits None s h = h
settled_fits (Some cause) s h = dies_fit s h

task_fits : (s : TaskMachine) (place : ℕ) (m : Machine) → FitsAgent m → FitsTasks s → FitsTasks (with_task s place m)
task_fits s place m f h = record { fetcher = h.fetcher; tasks = set_fits s.tasks place m f h.tasks }

-- ---- it goes on
pub record FitsGoing (r : Ask × TaskMachine) : Type 0 where
  pub ask : FitsAsk r.0
  pub agent : FitsTasks r.1

going_fits : (dead : Option FailCause) (s : TaskMachine) → FitsTasks s → FitsGoing (goes_on dead s)
going_fits None s h =
    let f = followed_fits s.fetcher.next s.fetcher (has_free s.tasks) h.fetcher.next h.fetcher in
    record { ask = f.ask; agent = record { fetcher = f.fetcher; tasks = h.tasks } }
going_fits (Some cause) s h = record { ask = tt; agent = dies_fit s h }

follows_fit : (s : TaskMachine) → FitsTasks s → FitsTaskStep (fetcher_follows s)
follows_fit s h = let g = going_fits None s h in record { asks = asked_fits 8 (goes_on None s).0 g.ask; agent = g.agent }

quiet_fits : (s : TaskMachine) → FitsTasks s → FitsTaskStep (quiet, s)
quiet_fits s h = record { asks = tt; agent = h }

-- ---- the ORB that was read begins

begun_fits : (m : Machine) (place : ℕ) (plain : PlainDisk) (told : Told) (read : Result (List ℕ) FailCause) → AreBytes told.answer → BytesRead read → FitsAgent m → FitsStep (tasks.begun m place plain told read)
begun_fits m place plain told (Err cause) t b a = failed m cause a
begun_fits m place plain told (Ok bytes) t b a =
    let n = record m { orb = command_orb bytes } in
    checked_on n place plain told (verdict n.orb n.aborted) refl t (record { present = a.present; orb = orb_fits bytes b; ahead = a.ahead; segments = a.segments; answer = a.answer; outgoing = a.outgoing })

turned_fits : (m : Machine) (orb : ℕ) → orb < 2 ^ 48 → FitsAgent m → FitsAgent (turned m orb)
turned_fits m orb h a = record { present = aligned_fits orb h; orb = record { next = tt; descriptor = omega arith }; ahead = tt; segments = a.segments; answer = a.answer; outgoing = a.outgoing }

begins_fit : (m : Machine) (place : ℕ) (plain : PlainDisk) (told : Option Told) (orb : ℕ) (answer : Answer) → orb < 2 ^ 48 → BytesTold told → BytesIn answer → FitsAgent m → FitsStep (begin_step m place plain told orb answer)
unfolding begin_step
begins_fit m place plain told orb answer h t b a =
    begun_fits (turned m orb) place plain (told_or told) (payload_of answer 32) (told_bytes told t) (payload_bytes answer 32 b) (turned_fits m orb h a)

placed_fits : (s : TaskMachine) (place : ℕ) (task : AgentStep × Machine) → FitsStep task → FitsTasks s → FitsTasks (placed s place task)
placed_fits s place task f h = record { fetcher = record { orb = h.fetcher.orb; next = f.agent.orb.next }; tasks = set_fits s.tasks place task.1 f.agent h.tasks }

places_fit : (s : TaskMachine) (place : ℕ) (task : AgentStep × Machine) → FitsStep task → FitsTasks s → FitsTaskStep (begun s place task)
places_fit s place task f h =
    let g = going_fits task.0.dead (placed s place task) (placed_fits s place task f h) in
    let fetches = (goes_on task.0.dead (placed s place task)).0 in
    record { asks = append_fits (asked place task.0.ask) (asked 8 fetches) (asked_fits place task.0.ask f.ask) (asked_fits 8 fetches g.ask); agent = g.agent }

orb_got : (s : TaskMachine) (login : ℕ) (plain : PlainDisk) (told : Option Told) (answer : Answer) (place : Option ℕ) → BytesTold told → BytesIn answer → FitsTasks s → FitsTaskStep (orb_read s login plain told answer place)
orb_got s login plain told answer (Some place) t b h =
    places_fit s place (begin_step (task_at s place) login plain told s.fetcher.orb answer) (begins_fit (task_at s place) login plain told s.fetcher.orb answer h.fetcher.orb t b (h.tasks place)) h
orb_got s login plain told answer None t b h = quiet_fits s h

-- ---- its next pointer was read again
relinked_fits : (m : Machine) (next : OrbPointer) → IsPointer next → FitsAgent m → FitsAgent (relinked m next)
relinked_fits m next n a = record { present = a.present; orb = record { next = n; descriptor = a.orb.descriptor }; ahead = a.ahead; segments = a.segments; answer = a.answer; outgoing = a.outgoing }

pointer_got : (s : TaskMachine) (next : OrbPointer) → IsPointer next → FitsTasks s → FitsTasks (pointer_read s next)
pointer_got s next n h = record {
  fetcher = record { orb = h.fetcher.orb; next = n };
  tasks = set_fits s.tasks s.fetcher.newest (relinked (task_at s s.fetcher.newest) next) (relinked_fits (task_at s s.fetcher.newest) next n (h.tasks s.fetcher.newest)) h.tasks;
}

next_got : (s : TaskMachine) (read : Result (List ℕ) FailCause) → BytesRead read → FitsTasks s → FitsTaskStep (next_read s read)
next_got s (Err cause) b h = record { asks = tt; agent = dies_fit s h }
next_got s (Ok bytes) b h = follows_fit (pointer_read s (pointer_at bytes 0)) (pointer_got s (pointer_at bytes 0) (pointer_fits bytes 0 b) h)

fetch_got : (phase : FetchPhase) (s : TaskMachine) (login : ℕ) (plain : PlainDisk) (told : Option Told) (answer : Answer) → BytesTold told → BytesIn answer → FitsTasks s → FitsTaskStep (fetch_replied phase s login plain told answer)
fetch_got phases.Fetching s login plain told answer t b h = orb_got s login plain told answer (lowest_free s.tasks) t b h
fetch_got phases.ReadingNext s login plain told answer t b h = next_got s (payload_of answer 8) (payload_bytes answer 8 b) h
fetch_got phases.Reset s login plain told answer t b h = quiet_fits s h
fetch_got phases.Waiting s login plain told answer t b h = quiet_fits s h
fetch_got phases.AtEnd s login plain told answer t b h = quiet_fits s h
fetch_got phases.Dead s login plain told answer t b h = quiet_fits s h

-- ---- the transaction of a task
released_fits : (s : TaskMachine) (place : ℕ) → FitsTasks s → FitsTasks (released s place)
released_fits s place h = task_fits s place (reset_step (task_at s place)) (reset_fits (task_at s place) (h.tasks place)) h

freed_fits : (phase : FetchPhase) (s : TaskMachine) → FitsTasks s → FitsTaskStep (freed phase s)
freed_fits phases.Waiting s h = follows_fit s h
freed_fits phases.Fetching s h = quiet_fits s h
freed_fits phases.ReadingNext s h = quiet_fits s h
freed_fits phases.Reset s h = quiet_fits s h
freed_fits phases.AtEnd s h = quiet_fits s h
freed_fits phases.Dead s h = quiet_fits s h

wrote_fits : (phase : FetchPhase) (s : TaskMachine) (place : ℕ) (failure : Option FailCause) → FitsTasks s → FitsTaskStep (status_written phase s place failure)
wrote_fits phases.Dead s place failure h = quiet_fits (released s place) (released_fits s place h)
wrote_fits phases.Waiting s place (Some cause) h = record { asks = tt; agent = dies_fit s h }
wrote_fits phases.Fetching s place (Some cause) h = record { asks = tt; agent = dies_fit s h }
wrote_fits phases.ReadingNext s place (Some cause) h = record { asks = tt; agent = dies_fit s h }
wrote_fits phases.Reset s place (Some cause) h = record { asks = tt; agent = dies_fit s h }
wrote_fits phases.AtEnd s place (Some cause) h = record { asks = tt; agent = dies_fit s h }
wrote_fits phases.Waiting s place None h = freed_fits phases.Waiting (released s place) (released_fits s place h)
wrote_fits phases.Fetching s place None h = freed_fits phases.Fetching (released s place) (released_fits s place h)
wrote_fits phases.ReadingNext s place None h = freed_fits phases.ReadingNext (released s place) (released_fits s place h)
wrote_fits phases.Reset s place None h = freed_fits phases.Reset (released s place) (released_fits s place h)
wrote_fits phases.AtEnd s place None h = freed_fits phases.AtEnd (released s place) (released_fits s place h)

worked_fits : (s : TaskMachine) (place : ℕ) (task : AgentStep × Machine) → FitsStep task → FitsTasks s → FitsTaskStep (worked s place task)
worked_fits s place task f h = record {
  asks = append_fits (asked place task.0.ask) [] (asked_fits place task.0.ask f.ask) tt;
  agent = settled_fits task.0.dead (with_task s place task.1) (task_fits s place task.1 f.agent h);
}

task_got : (b : Bool) (s : TaskMachine) (login : ℕ) (plain : PlainDisk) (told : Option Told) (place : ℕ) (answer : Answer) → BytesTold told → BytesIn answer → FitsTasks s → FitsTaskStep (cond b (status_written s.fetcher.phase s place (write_failure answer)) (worked s place (agent.reply_step (task_at s place) login plain told Main answer)))
task_got true s login plain told place answer t b h = wrote_fits s.fetcher.phase s place (write_failure answer) h
task_got false s login plain told place answer t b h =
    worked_fits s place (agent.reply_step (task_at s place) login plain told Main answer) (reply_fits (task_at s place) login plain told Main answer t b (h.tasks place)) h

replied_if : (b : Bool) (s : TaskMachine) (login : ℕ) (plain : PlainDisk) (told : Option Told) (place : ℕ) (answer : Answer) → BytesTold told → BytesIn answer → FitsTasks s → FitsTaskStep (cond b (fetch_replied s.fetcher.phase s login plain told answer) (task_replied s login plain told place answer))
replied_if true s login plain told place answer t b h = fetch_got s.fetcher.phase s login plain told answer t b h
replied_if false s login plain told place answer t b h = task_got (writes_status (task_at s place).phase) s login plain told place answer t b h

pub replies_fit : (s : TaskMachine) (login : ℕ) (plain : PlainDisk) (told : Option Told) (place : ℕ) (answer : Answer) → BytesTold told → BytesIn answer → FitsTasks s → FitsTaskStep (reply_step s login plain told place answer)
unfolding reply_step
replies_fit s login plain told place answer t b h = replied_if (place == 8) s login plain told place answer t b h

-- ---- registers
pub record FitsPoint (r : Result Ask PointRefusal × TaskMachine) : Type 0 where
  pub ask : (ask : Ask) → r.0 ≡ Ok ask → FitsAsk ask
  pub agent : FitsTasks r.1

refuses : (s : TaskMachine) (refusal : PointRefusal) → FitsTasks s → FitsPoint (Err refusal, s)
refuses s refusal h = record { ask = λ ask e. absurd (not_ok ask e); agent = h }
  where
    not_ok : (ask : Ask) → Err refusal ≡ Ok ask → ⊥
    not_ok ask e = cc

opens : (s : TaskMachine) (pointer : OrbPointer) → IsPointer pointer → FitsTasks s → FitsPoint (pointed s pointer)
opens s Null n h = refuses s refusals.Null h
opens s (At first) n h =
    let f = fetched_fits (record s.fetcher { next = Null }) first n tt in
    record { ask = λ ask e. subst FitsAsk (same ask e) f.ask; agent = record { fetcher = f.fetcher; tasks = h.tasks } }
  where
    same : (ask : Ask) → (pointed s (At first)).0 ≡ Ok ask → Read (aligned first) 32 ≡ ask
    same ask e = cc

points_if : (b : Bool) (s : TaskMachine) (pointer : OrbPointer) → IsPointer pointer → FitsTasks s → FitsPoint (cond b (pointed s pointer) (Err refusals.Conflict, s))
points_if true s pointer n h = opens s pointer n h
points_if false s pointer n h = refuses s refusals.Conflict h

pub points_fit : (s : TaskMachine) (pointer : OrbPointer) → IsPointer pointer → FitsTasks s → FitsPoint (point_step s pointer)
unfolding point_step
points_fit s pointer n h = points_if (takes_pointer (state_in s.fetcher.phase) s.tasks) s pointer n h

rings : (state : AgentState) (s : TaskMachine) → FitsTasks s → FitsGoing (doorbell_in state s)
rings states.Active s h = record { ask = tt; agent = record { fetcher = record { orb = h.fetcher.orb; next = h.fetcher.next }; tasks = h.tasks } }
rings states.Suspended s h = let f = reread_fits s.fetcher h.fetcher in record { ask = f.ask; agent = record { fetcher = f.fetcher; tasks = h.tasks } }
rings states.Reset s h = record { ask = tt; agent = h }
rings states.Dead s h = record { ask = tt; agent = h }

pub rings_fit : (s : TaskMachine) → FitsTasks s → FitsGoing (doorbell_step s)
unfolding doorbell_step
rings_fit s h = rings (state_in s.fetcher.phase) s h

pub resets_fit : (s : TaskMachine) → FitsTasks s → FitsTasks (reset_all_step s)
unfolding reset_all_step
resets_fit s h = record { fetcher = record { orb = h.fetcher.orb; next = h.fetcher.next }; tasks = map_fits reset_step reset_fits s.tasks h.tasks }
