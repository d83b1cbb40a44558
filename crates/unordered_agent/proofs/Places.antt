-- Which task places are free, as places are taken and left.
use Rattle.std.proofs.Common.{◌≡◌, refl, ap, sym, subst, ◌∙◌, get_or-set_same, ℕ, zero, suc, ◌<◌, nat_lt, Bool, true, false, cond, List, [], ◌∷◌, length, map, slice_index_or, slice_set, Option, Some, None, is_some, arith}
use Rattle.std.specs.Prelude.{◌&&◌}
use Rattle.std.specs.List.{list_all, position_or_len}
use Rattle.std.proofs.lemmas.Bool.Decides.{nat_tests}
use Rattle.std.proofs.lemmas.List.Folds.{position_or_len-set, list_all_at}
use Rattle.std.proofs.lemmas.List.Sums.{fails_before_first}
use Rattle.std.proofs.Math.ListN.{length-set, length-map}
use Rattle.orb_layout.specs.declared.ask.Ask.{Ask}
use Rattle.orb_layout.specs.declared.ask.Ask.TheVariants.{Nothing}
use Rattle.orb_layout.specs.declared.ask.FailCause.{FailCause}
use Rattle.orb_layout.specs.declared.pointer.OrbPointer.{OrbPointer}
use Rattle.orb_layout.specs.declared.pointer.OrbPointer.TheVariants.{Null, At}
use Rattle.orb_layout.specs.Replies.{Answer}
use Rattle.rbc_disk.specs.Units.{PlainDisk}
use Rattle.rbc_disk.specs.Runs.{Told}
use Rattle.command_agent.specs.declared.step.AgentStep.{AgentStep}
use Rattle.command_agent.specs.declared.step.Which.TheVariants.{Main}
use Rattle.command_agent.specs.Machine.{Machine, new_machine, aligned}
use Rattle.command_agent.specs.Machine as machine
use Rattle.command_agent.specs.Steps.{reset_step}
use Rattle.command_agent.specs.Steps as agent
use Rattle.command_agent.specs.Tasks.{begin_step, relinked, writes_status}
use Rattle.unordered_agent.specs.declared.fetcher.FetchPhase.{FetchPhase}
use Rattle.unordered_agent.specs.declared.fetcher.FetchPhase.TheVariants as phases
use Rattle.unordered_agent.specs.declared.fetcher.Fetcher.{Fetcher}
use Rattle.unordered_agent.specs.Machine.{TaskMachine, both, agent_at, state_in, is_free, are_free, lowest_free, has_free, is_task, is_worked, is_null, Names, FetchRule, IsSound}
use Rattle.unordered_agent.specs.Fetching.{opened_at, reread, followed, died}
use Rattle.unordered_agent.specs.Steps.{takes_pointer, is_dead, dropped, settled, goes_on, pointer_read}
use Rattle.unordered_agent.proofs.Works.{begin_works, reply_works, task_works, worked_busy, worked_task}

-- a place that is free is found
pub free_found : (tasks : List Machine) (place : ℕ) → place < length tasks → is_free (slice_index_or tasks place new_machine) ≡ true → has_free tasks ≡ true
free_found tasks place h e =
    let behind = fails_before_first is_free tasks place new_machine in
    grind (arith, nat_tests)

-- a task that goes on leaves the free places as they are
pub free_same : (tasks : List Machine) (place : ℕ) (task : Machine) → is_free task ≡ is_free (slice_index_or tasks place new_machine) → lowest_free (slice_set tasks place task) ≡ lowest_free tasks
free_same tasks place task e =
    let same : position_or_len is_free (slice_set tasks place task) ≡ position_or_len is_free tasks = position_or_len-set is_free tasks place task new_machine e in
    let size : length (slice_set tasks place task) ≡ length tasks = length-set tasks place task in
    ap (λ (n : ℕ). cond (nat_lt n (length (slice_set tasks place task))) (Some n) None) same
    ∙ ap (λ (n : ℕ). cond (nat_lt (position_or_len is_free tasks) n) (Some (position_or_len is_free tasks)) None) size

-- after a reset each place is free
reset_free : (task : Machine) → is_free (reset_step task) ≡ true
unfolding reset_step
reset_free task = refl

pub reset_all_free : (tasks : List Machine) → are_free (map reset_step tasks) ≡ true
reset_all_free [] = refl
reset_all_free (task ∷ tasks) = ap (λ (b : Bool). b && are_free (map reset_step tasks)) (reset_free task) ∙ reset_all_free tasks

first_free : (b c : Bool) → (b && c) ≡ true → b ≡ true
first_free true c e = refl
first_free false c e = cc e

-- where each place is free, one is
pub all_found : (tasks : List Machine) → length tasks ≡ 8 → are_free tasks ≡ true → has_free tasks ≡ true
all_found [] size e = absurd (omega arith)
all_found (task ∷ tasks) size e = free_found (task ∷ tasks) 0 (omega arith) (first_free (is_free task) (are_free tasks) e)

-- each task works an ORB, or its place is vacant
all_first : (b c : Bool) → b ≡ true → c ≡ true → (b && c) ≡ true
all_first true c e h = h
all_first false c e h = cc e

all_rest : (b c : Bool) → (b && c) ≡ true → c ≡ true
all_rest true c e = e
all_rest false c e = cc e

pub all_set : (tasks : List Machine) (place : ℕ) (task : Machine) → list_all is_task tasks ≡ true → is_task task ≡ true → list_all is_task (slice_set tasks place task) ≡ true
all_set [] place task a t = a
all_set (first ∷ tasks) zero task a t = all_first (is_task task) (list_all is_task tasks) t (all_rest (is_task first) (list_all is_task tasks) a)
all_set (first ∷ tasks) (suc place) task a t =
    all_first (is_task first) (list_all is_task (slice_set tasks place task)) (first_free (is_task first) (list_all is_task tasks) a) (all_set tasks place task (all_rest (is_task first) (list_all is_task tasks) a) t)

pub all_at : (tasks : List Machine) (place : ℕ) → list_all is_task tasks ≡ true → is_task (agent_at tasks place) ≡ true
all_at [] place a = refl
all_at (first ∷ tasks) zero a = first_free (is_task first) (list_all is_task tasks) a
all_at (first ∷ tasks) (suc place) a = all_at tasks place (all_rest (is_task first) (list_all is_task tasks) a)

reset_task : (task : Machine) → is_task (reset_step task) ≡ true
unfolding reset_step
reset_task task = refl

dropped_task : (b : Bool) (task : Machine) → is_task task ≡ true → is_task (cond b task (reset_step task)) ≡ true
dropped_task true task t = t
dropped_task false task t = reset_task task

all_reset : (tasks : List Machine) → list_all is_task (map reset_step tasks) ≡ true
all_reset [] = refl
all_reset (task ∷ tasks) = all_first (is_task (reset_step task)) (list_all is_task (map reset_step tasks)) (reset_task task) (all_reset tasks)

all_dropped : (tasks : List Machine) → list_all is_task tasks ≡ true → list_all is_task (map dropped tasks) ≡ true
all_dropped [] a = refl
all_dropped (task ∷ tasks) a =
    all_first (is_task (dropped task)) (list_all is_task (map dropped tasks))
    (dropped_task (is_dead (machine.state_in task.phase)) task (first_free (is_task task) (list_all is_task tasks) a))
    (all_dropped tasks (all_rest (is_task task) (list_all is_task tasks) a))

-- a pointer is taken where each place is free
taken_free : (phase : FetchPhase) (f : Fetcher) (tasks : List Machine) → takes_pointer (state_in phase) tasks ≡ true → FetchRule phase f tasks → are_free tasks ≡ true
taken_free phases.Reset f tasks e h = h
taken_free phases.AtEnd f tasks e h = e
taken_free phases.Fetching f tasks e h = cc e
taken_free phases.ReadingNext f tasks e h = cc e
taken_free phases.Waiting f tasks e h = cc e
taken_free phases.Dead f tasks e h = cc e

pub sound_pointed : (f : Fetcher) (tasks : List Machine) (first : ℕ) → IsSound f tasks → takes_pointer (state_in f.phase) tasks ≡ true → IsSound (opened_at f first).1 tasks
sound_pointed f tasks first s e = record { size = s.size; newest = s.newest; worked = s.worked; rule = (all_found tasks s.size (taken_free f.phase f tasks e s.rule), tt) }

pub sound_reset : (f : Fetcher) (old new : List Machine) → IsSound f old → new ≡ map reset_step old → IsSound (record f { phase = phases.Reset }) new
sound_reset f old new s e = record {
  size = ap length e ∙ length-map old reset_step ∙ s.size;
  newest = s.newest;
  worked = ap (λ (ts : List Machine). list_all is_task ts) e ∙ all_reset old;
  rule = ap are_free e ∙ reset_all_free old;
}

-- a task goes on
busy_rule : (phase : FetchPhase) (f : Fetcher) (tasks : List Machine) (place : ℕ) (task : Machine) → place < length tasks → is_free (agent_at tasks place) ≡ false → is_free task ≡ false → FetchRule phase f tasks → FetchRule phase f (slice_set tasks place task)
busy_rule phases.Reset f tasks place task h e t r = let busy : are_free tasks ≡ false = list_all_at is_free tasks place new_machine h e in cc
busy_rule phases.Fetching f tasks place task h e t r = (ap is_some (free_same tasks place task (t ∙ sym e)) ∙ r.0, r.1)
busy_rule phases.Waiting f tasks place task h e t r = (ap is_some (free_same tasks place task (t ∙ sym e)) ∙ r.0, r.1)
busy_rule phases.ReadingNext f tasks place task h e t r = r
busy_rule phases.AtEnd f tasks place task h e t r = r
busy_rule phases.Dead f tasks place task h e t r = r

sound_set : (f : Fetcher) (tasks : List Machine) (place : ℕ) (task : Machine) → IsSound f tasks → place < 8 → is_free (agent_at tasks place) ≡ false → is_worked task.phase ≡ true → IsSound f (slice_set tasks place task)
sound_set f tasks place task s h e w = record {
  size = length-set tasks place task ∙ s.size;
  newest = s.newest;
  worked = all_set tasks place task s.worked (worked_task task w);
  rule = busy_rule f.phase f tasks place task (omega arith) e (worked_busy task w) s.rule;
}

-- the agent becomes dead
pub sound_died : (f : Fetcher) (tasks : List Machine) → length tasks ≡ 8 → f.newest < 8 → list_all is_task tasks ≡ true → IsSound (died f) (map dropped tasks)
sound_died f tasks size newest worked = record { size = length-map tasks dropped ∙ size; newest = newest; worked = all_dropped tasks worked; rule = tt }

sound_settled : (dead : Option FailCause) (f : Fetcher) (tasks : List Machine) → IsSound f tasks → IsSound (settled dead (both f tasks)).fetcher (settled dead (both f tasks)).tasks
sound_settled None f tasks s = s
sound_settled (Some cause) f tasks s = sound_died f tasks s.size s.newest s.worked

pub sound_worked : (f : Fetcher) (old tasks : List Machine) (new : TaskMachine) (place login : ℕ) (step : AgentStep) (plain : PlainDisk) (told : Option Told) (answer : Answer) → IsSound f old → place < 8
    → is_free (agent_at old place) ≡ false → writes_status (agent_at old place).phase ≡ false
    → (step, agent_at tasks place) ≡ agent.reply_step (agent_at old place) login plain told Main answer
    → tasks ≡ slice_set old place (agent_at tasks place)
    → new ≡ settled step.dead (both f tasks)
    → IsSound new.fetcher new.tasks
sound_worked f old tasks new place login step plain told answer s h e n r o g =
    let works : is_worked (agent_at tasks place).phase ≡ true =
    ap (λ (p : AgentStep × Machine). is_worked p.1.phase) r ∙ reply_works (agent_at old place) login plain told answer (task_works (agent_at old place) e (all_at old place s.worked)) n in
    subst (λ (t : TaskMachine). IsSound t.fetcher t.tasks) (sym g)
    (sound_settled step.dead f tasks (subst (λ (ts : List Machine). IsSound f ts) (sym o) (sound_set f old place (agent_at tasks place) s h e works)))

-- the fetcher goes on
record Rules (f : Fetcher) (tasks : List Machine) : Type 0 where
  rule : FetchRule f.phase f tasks

wait_rule : (mark : Bool) (f : Fetcher) (tasks : List Machine) → f.next ≡ Null → f.doorbell ≡ mark → Rules (cond mark (reread f) (Nothing, record f { phase = phases.AtEnd })).1 tasks
wait_rule true f tasks e d = record { rule = e }
wait_rule false f tasks e d = record { rule = (e, d) }

fetch_rule : (has_place : Bool) (next : ℕ) (f : Fetcher) (tasks : List Machine) → f.next ≡ At next → has_free tasks ≡ has_place → Rules (followed (At next) f has_place).1 tasks
fetch_rule true next f tasks e h = record { rule = (h, subst (λ (p : OrbPointer). Names p (aligned next)) (sym e) refl) }
fetch_rule false next f tasks e h = record { rule = (h, ap is_null e) }

follow_rule : (next : OrbPointer) (f : Fetcher) (tasks : List Machine) → f.next ≡ next → Rules (followed next f (has_free tasks)).1 tasks
follow_rule (At next) f tasks e = fetch_rule (has_free tasks) next f tasks e refl
follow_rule Null f tasks e = wait_rule f.doorbell f tasks e refl

waited_newest : (mark : Bool) (f : Fetcher) → f.newest < 8 → (cond mark (reread f) (Nothing, record f { phase = phases.AtEnd })).1.newest < 8
waited_newest true f h = h
waited_newest false f h = h

fetched_newest : (has_place : Bool) (next : ℕ) (f : Fetcher) → f.newest < 8 → (followed (At next) f has_place).1.newest < 8
fetched_newest true next f h = h
fetched_newest false next f h = h

followed_newest : (next : OrbPointer) (f : Fetcher) (tasks : List Machine) → f.newest < 8 → (followed next f (has_free tasks)).1.newest < 8
followed_newest (At next) f tasks h = fetched_newest (has_free tasks) next f h
followed_newest Null f tasks h = waited_newest f.doorbell f h

abbrev pub is_waiting : FetchPhase → Bool
is_waiting phases.Waiting = true
is_waiting _ = false

pub not_waiting : (phase : FetchPhase) → (phase ≡ phases.Waiting → ⊥) → is_waiting phase ≡ false
not_waiting phases.Waiting h = absurd (h refl)
not_waiting _ h = refl

pub sound_gone : (dead : Option FailCause) (f : Fetcher) (tasks : List Machine) → length tasks ≡ 8 → f.newest < 8 → list_all is_task tasks ≡ true → IsSound (goes_on dead (both f tasks)).1.fetcher (goes_on dead (both f tasks)).1.tasks
sound_gone None f tasks size newest worked = record { size = size; newest = followed_newest f.next f tasks newest; worked = worked; rule = (follow_rule f.next f tasks refl).rule }
sound_gone (Some cause) f tasks size newest worked = sound_died f tasks size newest worked

-- an ORB that was read takes a place
pub sound_begun : (f g : Fetcher) (old tasks : List Machine) (ask : Ask) (new : TaskMachine) (place login : ℕ) (step : AgentStep) (plain : PlainDisk) (told : Option Told) (answer : Answer) → IsSound f old → g.newest < 8
    → (step, agent_at tasks place) ≡ begin_step (agent_at old place) login plain told f.orb answer
    → tasks ≡ slice_set old place (agent_at tasks place)
    → (ask, new) ≡ goes_on step.dead (both g tasks)
    → IsSound new.fetcher new.tasks
sound_begun f g old tasks ask new place login step plain told answer s h b o w =
    let works : is_worked (agent_at tasks place).phase ≡ true = ap (λ (p : AgentStep × Machine). is_worked p.1.phase) b ∙ begin_works (agent_at old place) login plain told f.orb answer in
    subst (λ (p : Ask × TaskMachine). IsSound p.1.fetcher p.1.tasks) (sym w)
    (sound_gone step.dead g tasks
    (ap length o ∙ length-set old place (agent_at tasks place) ∙ s.size) h
    (ap (λ (ts : List Machine). list_all is_task ts) o ∙ all_set old place (agent_at tasks place) s.worked (worked_task (agent_at tasks place) works)))

-- the next pointer of the last ORB was read again
pub sound_relinked : (f : Fetcher) (tasks : List Machine) (next : OrbPointer) → IsSound f tasks
    → IsSound (goes_on None (pointer_read (both f tasks) next)).1.fetcher (goes_on None (pointer_read (both f tasks) next)).1.tasks
sound_relinked f tasks next s =
    sound_gone None (record f { next = next }) (slice_set tasks f.newest (relinked (agent_at tasks f.newest) next))
    (length-set tasks f.newest (relinked (agent_at tasks f.newest) next) ∙ s.size) s.newest
    (all_set tasks f.newest (relinked (agent_at tasks f.newest) next) s.worked (all_at tasks f.newest s.worked))

-- a task's place is free again
freed_rule : (phase : FetchPhase) (f : Fetcher) (tasks : List Machine) (place : ℕ) → place < length tasks → is_free (agent_at tasks place) ≡ false → is_waiting phase ≡ false → FetchRule phase f tasks → FetchRule phase f (slice_set tasks place (reset_step (agent_at tasks place)))
freed_rule phases.Reset f tasks place h e w r = let busy : are_free tasks ≡ false = list_all_at is_free tasks place new_machine h e in cc
freed_rule phases.Fetching f tasks place h e w r =
    let task : Machine = reset_step (agent_at tasks place) in
    let size : length (slice_set tasks place task) ≡ length tasks = length-set tasks place task in
    (free_found (slice_set tasks place task) place (omega arith) (ap is_free (get_or-set_same tasks place task new_machine h) ∙ reset_free (agent_at tasks place)), r.1)
freed_rule phases.Waiting f tasks place h e w r = cc w
freed_rule phases.ReadingNext f tasks place h e w r = r
freed_rule phases.AtEnd f tasks place h e w r = r
freed_rule phases.Dead f tasks place h e w r = r

pub sound_freed : (f : Fetcher) (tasks : List Machine) (place : ℕ) → IsSound f tasks → place < 8 → is_free (agent_at tasks place) ≡ false → is_waiting f.phase ≡ false → IsSound f (slice_set tasks place (reset_step (agent_at tasks place)))
sound_freed f tasks place s h e w = record {
  size = length-set tasks place (reset_step (agent_at tasks place)) ∙ s.size;
  newest = s.newest;
  worked = all_set tasks place (reset_step (agent_at tasks place)) s.worked (reset_task (agent_at tasks place));
  rule = freed_rule f.phase f tasks place (omega arith) e w s.rule;
}

pub sound_released : (f : Fetcher) (tasks : List Machine) (place : ℕ) → IsSound f tasks → IsSound (goes_on None (both f (slice_set tasks place (reset_step (agent_at tasks place))))).1.fetcher (goes_on None (both f (slice_set tasks place (reset_step (agent_at tasks place))))).1.tasks
sound_released f tasks place s =
    sound_gone None f (slice_set tasks place (reset_step (agent_at tasks place)))
    (length-set tasks place (reset_step (agent_at tasks place)) ∙ s.size) s.newest
    (all_set tasks place (reset_step (agent_at tasks place)) s.worked (reset_task (agent_at tasks place)))
