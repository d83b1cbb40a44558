-- Each ORB runs at most once, and then ends, once, over every list of calls.
use Rattle.std.proofs.Common.{◌≡◌, ◌≢◌, refl, ap, sym, subst, ◌∙◌, get_or-set_same, get_or-set_other, inl, inr, ℕ, zero, suc, ◌==◌, ◌<◌, ◌≤◌, ◌++◌, nat_lt, not, Bool, true, false, cond, List, [], ◌∷◌, length, map, replicate, slice_set, is_some, Option, Some, None, Result, Ok, Err, arith}
use Rattle.std.specs.Prelude.{◌||◌}
use Rattle.std.proofs.lemmas.Bool.Decides.{nat_tests}
use Rattle.std.proofs.lemmas.List.Quantifiers.{position-Some}
use Rattle.std.proofs.Math.ListN.{length-set}
use Rattle.orb_layout.specs.declared.ask.Ask.{Ask}
use Rattle.orb_layout.specs.declared.ask.Ask.TheVariants.{Read, Write, Nothing}
use Rattle.orb_layout.specs.declared.ask.FailCause.{FailCause}
use Rattle.orb_layout.specs.declared.pointer.OrbPointer.{OrbPointer}
use Rattle.orb_layout.specs.declared.pointer.OrbPointer.TheVariants.{Null, At}
use Rattle.orb_layout.specs.declared.status.StatusKind.{StatusKind}
use Rattle.orb_layout.specs.Pointers.{pointer_at}
use Rattle.orb_layout.specs.Replies.{Answer, payload_of, write_failure}
use Rattle.rbc_disk.specs.declared.command.Outcome.{Outcome}
use Rattle.rbc_disk.specs.Units.{PlainDisk}
use Rattle.rbc_disk.specs.Runs.{Told}
use Rattle.command_agent.specs.declared.phase.Phase.{Phase}
use Rattle.command_agent.specs.declared.phase.Phase.TheVariants as agents
use Rattle.command_agent.specs.declared.step.AgentState.{AgentState}
use Rattle.command_agent.specs.declared.step.AgentState.TheVariants as states
use Rattle.command_agent.specs.declared.step.AgentStep.{AgentStep}
use Rattle.command_agent.specs.declared.step.Which.TheVariants.{Main}
use Rattle.command_agent.specs.Machine.{Machine, new_machine, is_sent, is_under_way, aligned}
use Rattle.command_agent.specs.Machine as machine
use Rattle.command_agent.specs.Steps.{reset_step}
use Rattle.command_agent.specs.Steps as agent
use Rattle.command_agent.specs.Tasks.{begin_step, relinked, writes_status}
use Rattle.unordered_agent.specs.declared.fetcher.FetchPhase.{FetchPhase}
use Rattle.unordered_agent.specs.declared.fetcher.FetchPhase.TheVariants as phases
use Rattle.unordered_agent.specs.declared.fetcher.Fetcher.{Fetcher}
use Rattle.unordered_agent.specs.declared.step.TaskStep.{TaskStep}
use Rattle.unordered_agent.specs.Machine.{TaskMachine, agent_at, task_at, state_in, is_free, is_busy, is_reading, is_vacant, is_worked, are_free, lowest_free, FetchRule}
use Rattle.unordered_agent.specs.Steps.{asked, takes_pointer, pointed, doorbell_in, point_step, doorbell_step, reset_all_step, reply_step, dropped, goes_on, settled, placed, orb_read, pointer_read, next_read, fetch_replied, released, status_written, worked, task_replied, with_task, place_of, or_none, quiet}
use Rattle.unordered_agent.specs.Steps as steps
use Rattle.unordered_agent.proofs.Places.{all_at}
use Rattle.unordered_agent.proofs.Works.{task_works, begin_works, reply_works, worked_busy}
use Rattle.unordered_laws.specs.Calls.{Call, Point, Doorbell, Reset, Reply, after_call, after_calls}
use Rattle.unordered_laws.specs.Notes.{Note, Pointed, Rung, Cut, Came, Got, Reread, Ran, Answered, Sent, Died, ask_of, reading_in, address_of, next_by, reread_notes, fetch_notes, ran_notes, end_notes, death_notes, answer_notes, step_notes, heard_at, heard, point_notes, notes, noted, is_open, is_dead, under_way}
use Rattle.unordered_laws.specs.Stages.{Stage, Vacant, Waiting, Running, Ending, stage, is_working, newest_in, with_next, seat, block_for, MaySendAll, Lawful, CallsAreLawful}
use Rattle.unordered_laws.specs.Stages as how
use Rattle.unordered_laws.specs.Fetches.{unanswered, EightLaw}
use Rattle.unordered_laws.proofs.Apart.{behind, settles}
use Rattle.unordered_laws.proofs.Busy.{busy, busy_taken, busy_same, busy_left, busy_few, busy_none}
use Rattle.unordered_laws.proofs.Order.{Known, Fetching, KeepsBy, seen, calls_known}
use Rattle.unordered_laws.proofs.Rules.{Sound, Task, task_at_by, refused, calls_sound}
use Rattle.unordered_laws.proofs.Tells.{stage_of, Agrees, staged, RunsFrom, Blocks, is_asked, orb_of, Tells, begin_tells, reply_tells}

-- the notes agree with how far the ORB in each place is, with its address and its next pointer, with the requests that are under way, and with how many places work an ORB
pub record Tied (tasks : List Machine) (ns : List Note) : Type 0 where
  pub lawful : Lawful ns
  pub stages : (p : ℕ) → p < 8 → Agrees (stage p ns) (agent_at tasks p).phase
  pub seats : (p : ℕ) → p < 8 → seat p ns ≡ orb_of (agent_at tasks p)
  pub sent : is_dead ns ≡ false → (p : ℕ) → p < 8 → under_way p ns ≡ is_sent (agent_at tasks p).phase
  pub few : unanswered ns ≤ 8
  pub count : is_open ns ≡ true → is_dead ns ≡ false → unanswered ns ≡ busy tasks

-- the place of a note, and another one
own : (q : ℕ) → (q == q) ≡ true
own q = grind (arith, nat_tests)

apart : (q p : ℕ) → p ≢ q → (q == p) ≡ false
apart q p n = grind (arith, nat_tests)

no_fetcher : (p : ℕ) → p < 8 → (8 == p) ≡ false
no_fetcher p low = grind (arith, nat_tests)

one_of : (test : Bool) (q p : ℕ) → (q == p) ≡ test → (P : ℕ → Type 0) → P q → (p ≢ q → P p) → P p
one_of true q p e P h k = let same : q ≡ p = grind (arith, nat_tests) in subst P same h
one_of false q p e P h k = k (λ same. let no : (q == p) ≡ true = grind (arith, nat_tests) in cc)

by_place : (q p : ℕ) → (P : ℕ → Type 0) → P q → (p ≢ q → P p) → P p
by_place q p P h k = one_of (q == p) q p refl P h k

told_own : (ran : Option Outcome) (ended : Option StatusKind) (q : ℕ) (bytes : List ℕ) (ns : List Note) → stage q (end_notes q ended bytes (ran_notes q ran ns)) ≡ staged ran ended (stage q ns)
told_own None None q bytes ns = refl
told_own (Some outcome) None q bytes ns = ap (λ (b : Bool). cond b Running (stage q ns)) (own q)
told_own None (Some kind) q bytes ns = ap (λ (b : Bool). cond b Ending (stage q ns)) (own q)
told_own (Some outcome) (Some kind) q bytes ns = ap (λ (b : Bool). cond b Ending (stage q (Ran q ∷ ns))) (own q)

told_other : (ran : Option Outcome) (ended : Option StatusKind) (q p : ℕ) (bytes : List ℕ) (ns : List Note) → p ≢ q → stage p (end_notes q ended bytes (ran_notes q ran ns)) ≡ stage p ns
told_other None None q p bytes ns n = refl
told_other (Some outcome) None q p bytes ns n = ap (λ (b : Bool). cond b Running (stage p ns)) (apart q p n)
told_other None (Some kind) q p bytes ns n = ap (λ (b : Bool). cond b Ending (stage p ns)) (apart q p n)
told_other (Some outcome) (Some kind) q p bytes ns n = ap (λ (b : Bool). cond b Ending (stage p (Ran q ∷ ns))) (apart q p n) ∙ ap (λ (b : Bool). cond b Running (stage p ns)) (apart q p n)

-- what a run and an end leave as it is
record Rest : Type 0 where
  orb : ℕ × OrbPointer
  way : Bool
  dead : Bool
  opened : Bool
  count : ℕ
  reading : Option (ℕ × ℕ)

abbrev rest : ℕ → List Note → Rest
rest p ns = record { orb = seat p ns; way = under_way p ns; dead = is_dead ns; opened = is_open ns; count = unanswered ns; reading = reading_in ns }

told_rest : (ran : Option Outcome) (ended : Option StatusKind) (q p : ℕ) (bytes : List ℕ) (ns : List Note) → rest p (end_notes q ended bytes (ran_notes q ran ns)) ≡ rest p ns
told_rest None None q p bytes ns = refl
told_rest (Some outcome) None q p bytes ns = refl
told_rest None (Some kind) q p bytes ns = refl
told_rest (Some outcome) (Some kind) q p bytes ns = refl

told_lawful : (ran : Option Outcome) (ended : Option StatusKind) (q : ℕ) (bytes : List ℕ) (orb : ℕ × OrbPointer) (ns : List Note) → Lawful ns → is_working (stage q ns) ≡ true → RunsFrom ran (stage q ns) → seat q ns ≡ orb → Blocks ended bytes orb
    → Lawful (end_notes q ended bytes (ran_notes q ran ns))
told_lawful None None q bytes orb ns l w r e b = l
told_lawful (Some outcome) None q bytes orb ns l w r e b = (r, l)
told_lawful None (Some kind) q bytes orb ns l w r e b = (w, b ∙ sym (ap (λ (o : ℕ × OrbPointer). block_for o kind) e), l)
told_lawful (Some outcome) (Some kind) q bytes orb ns l w r e b =
    (ap (λ (b : Bool). is_working (cond b Running (stage q ns))) (own q), b ∙ sym (ap (λ (o : ℕ × OrbPointer). block_for o kind) e), (r, l))

-- the requests of a step
ask_fetched : (p : ℕ) (next : Ask) → p < 8 → ask_of p (asked 8 next) ≡ None
ask_fetched p Nothing low = refl
ask_fetched p (Read offset size) low = ap (λ (b : Bool). cond b (Some (Read offset size)) None) (no_fetcher p low)
ask_fetched p (Write offset size) low = ap (λ (b : Bool). cond b (Some (Write offset size)) None) (no_fetcher p low)

ask_own : (q : ℕ) (ask next : Ask) → is_asked ask ≡ true → is_some (ask_of q (asked q ask ++ asked 8 next)) ≡ true
ask_own q Nothing next a = cc a
ask_own q (Read offset size) next a = ap (λ (b : Bool). is_some (cond b (Some (Read offset size)) (ask_of q (asked 8 next)))) (own q)
ask_own q (Write offset size) next a = ap (λ (b : Bool). is_some (cond b (Some (Write offset size)) (ask_of q (asked 8 next)))) (own q)

ask_other : (q p : ℕ) (ask next : Ask) → p ≢ q → p < 8 → ask_of p (asked q ask ++ asked 8 next) ≡ None
ask_other q p Nothing next n low = ask_fetched p next low
ask_other q p (Read offset size) next n low = ap (λ (b : Bool). cond b (Some (Read offset size)) (ask_of p (asked 8 next))) (apart q p n) ∙ ask_fetched p next low
ask_other q p (Write offset size) next n low = ap (λ (b : Bool). cond b (Some (Write offset size)) (ask_of p (asked 8 next))) (apart q p n) ∙ ask_fetched p next low

fetch_works : (next : Ask) (ns : List Note) → (is_asked next ≡ true → reading_in ns ≡ None) → MaySendAll (asked 8 next) ns
fetch_works Nothing ns h = tt
fetch_works (Read offset size) ns h = (inl (refl, h refl), tt)
fetch_works (Write offset size) ns h = (inl (refl, h refl), tt)

asks_work : (q : ℕ) (ask next : Ask) (ns : List Note) → how.is_vacant (stage q ns) ≡ false → under_way q ns ≡ false → (is_asked next ≡ true → reading_in ns ≡ None) → MaySendAll (asked q ask ++ asked 8 next) ns
asks_work q Nothing next ns w idle h = fetch_works next ns h
asks_work q (Read offset size) next ns w idle h = (inr (w, idle), fetch_works next ns h)
asks_work q (Write offset size) next ns w idle h = (inr (w, idle), fetch_works next ns h)

at_work : (ran : Option Outcome) (ended : Option StatusKind) (from : Stage) → is_working from ≡ true → how.is_vacant (staged ran ended from) ≡ false
at_work ran (Some kind) from w = refl
at_work (Some outcome) None from w = refl
at_work None None Waiting w = refl
at_work None None Running w = refl
at_work None None Vacant w = cc w
at_work None None Ending w = cc w

-- the fetcher asks
asks_tied : (next : Ask) (tasks : List Machine) (ns : List Note) → (is_asked next ≡ true → reading_in ns ≡ None) → Tied tasks ns → Tied tasks (Sent (asked 8 next) ∷ ns)
asks_tied next tasks ns h t = record {
  lawful = (fetch_works next ns h, t.lawful);
  stages = t.stages;
  seats = t.seats;
  sent = λ alive p low. ap (λ (a : Option Ask). cond (is_some a) true (under_way p ns)) (ask_fetched p next low) ∙ t.sent alive p low;
  few = t.few;
  count = t.count;
}

-- what is known before the step of the task in a place, of that place and of the others
record Ready (tasks : List Machine) (q : ℕ) (from : Stage) (orb : ℕ × OrbPointer) (ns : List Note) : Type 0 where
  lawful : Lawful ns
  here : stage q ns ≡ from
  working : is_working from ≡ true
  named : seat q ns ≡ orb
  idle : under_way q ns ≡ false
  others : (p : ℕ) → p < 8 → p ≢ q → Agrees (stage p ns) (agent_at tasks p).phase
  names : (p : ℕ) → p < 8 → p ≢ q → seat p ns ≡ orb_of (agent_at tasks p)
  ways : is_dead ns ≡ false → (p : ℕ) → p < 8 → p ≢ q → under_way p ns ≡ is_sent (agent_at tasks p).phase
  few : unanswered ns ≤ 8

is_busy_task : (b : Bool) → not b ≡ false → b ≡ true
is_busy_task true e = refl
is_busy_task false e = cc e

is_idle_task : (b : Bool) → not b ≡ true → b ≡ false
is_idle_task true e = cc e
is_idle_task false e = refl

orb_told : (t : AgentStep × Machine) (from : Stage) (orb : ℕ × OrbPointer) → Tells from orb t → orb_of t.1 ≡ orb
orb_told t from orb told = ap (λ (at : ℕ). (at, t.1.orb.next)) told.address ∙ ap (λ (next : OrbPointer). (orb.0, next)) told.link

set_tied : (tasks : List Machine) (q : ℕ) (t : AgentStep × Machine) (next : Ask) (bytes : List ℕ) (ns : List Note) (from : Stage) (orb : ℕ × OrbPointer) → length tasks ≡ 8 → q < 8 → Ready tasks q from orb ns → Tells from orb t → is_free t.1 ≡ false → bytes ≡ t.1.outgoing
    → (is_asked next ≡ true → reading_in ns ≡ None)
    → (is_open ns ≡ true → is_dead ns ≡ false → unanswered ns ≡ busy (slice_set tasks q t.1))
    → Tied (slice_set tasks q t.1) (Sent (asked q t.0.ask ++ asked 8 next) ∷ end_notes q t.0.ended bytes (ran_notes q t.0.ran ns))
set_tied tasks q t next bytes ns from orb size low r told busy_now same reads count =
    let ts : List Machine = slice_set tasks q t.1 in
    let ms : List Note = end_notes q t.0.ended bytes (ran_notes q t.0.ran ns) in
    let mine : agent_at ts q ≡ t.1 = get_or-set_same tasks q t.1 new_machine (omega arith) in
    let at : stage q ms ≡ staged t.0.ran t.0.ended from = told_own t.0.ran t.0.ended q bytes ns ∙ ap (λ (s : Stage). staged t.0.ran t.0.ended s) r.here in
    record {
      lawful = (
        asks_work q t.0.ask next ms (ap how.is_vacant at ∙ at_work t.0.ran t.0.ended from r.working) (ap (λ (x : Rest). x.way) (told_rest t.0.ran t.0.ended q q bytes ns) ∙ r.idle)
            (λ more. ap (λ (x : Rest). x.reading) (told_rest t.0.ran t.0.ended q q bytes ns) ∙ reads more),
        told_lawful t.0.ran t.0.ended q bytes orb ns r.lawful (ap is_working r.here ∙ r.working) (subst (λ (s : Stage). RunsFrom t.0.ran s) (sym r.here) told.runs) r.named
            (subst (λ (b : List ℕ). Blocks t.0.ended b orb) (sym same) told.block),
      );
      stages = λ p below.
          by_place q p (λ (k : ℕ). Agrees (stage k ms) (agent_at ts k).phase)
          (subst (λ (s : Stage). Agrees s (agent_at ts q).phase) (sym at) (subst (λ (m : Machine). Agrees (staged t.0.ran t.0.ended from) m.phase) (sym mine) told.after))
          (λ n. subst (λ (s : Stage). Agrees s (agent_at ts p).phase) (sym (told_other t.0.ran t.0.ended q p bytes ns n))
          (subst (λ (m : Machine). Agrees (stage p ns) m.phase) (sym (get_or-set_other tasks q p t.1 new_machine n)) (r.others p below n)));
      seats = λ p below.
          ap (λ (x : Rest). x.orb) (told_rest t.0.ran t.0.ended q p bytes ns)
          ∙ by_place q p (λ (k : ℕ). seat k ns ≡ orb_of (agent_at ts k))
          (r.named ∙ sym (orb_told t from orb told) ∙ sym (ap orb_of mine))
          (λ n. r.names p below n ∙ sym (ap orb_of (get_or-set_other tasks q p t.1 new_machine n)));
      sent = λ alive p below.
          by_place q p (λ (k : ℕ). cond (is_some (ask_of k (asked q t.0.ask ++ asked 8 next))) true (under_way k ms) ≡ is_sent (agent_at ts k).phase)
          (ap (λ (b : Bool). cond b true (under_way q ms)) (ask_own q t.0.ask next told.asks) ∙ sym (ap (λ (m : Machine). is_sent m.phase) mine ∙ is_busy_task (is_sent t.1.phase) busy_now))
          (λ n. ap (λ (a : Option Ask). cond (is_some a) true (under_way p ms)) (ask_other q p t.0.ask next n below)
          ∙ ap (λ (x : Rest). x.way) (told_rest t.0.ran t.0.ended q p bytes ns)
          ∙ r.ways (sym (ap (λ (x : Rest). x.dead) (told_rest t.0.ran t.0.ended q p bytes ns)) ∙ alive) p below n
          ∙ sym (ap (λ (m : Machine). is_sent m.phase) (get_or-set_other tasks q p t.1 new_machine n)));
      few = subst (λ (n : ℕ). n ≤ 8) (sym (ap (λ (x : Rest). x.count) (told_rest t.0.ran t.0.ended q 0 bytes ns))) r.few;
      count = λ opened alive.
          ap (λ (x : Rest). x.count) (told_rest t.0.ran t.0.ended q 0 bytes ns)
          ∙ count (sym (ap (λ (x : Rest). x.opened) (told_rest t.0.ran t.0.ended q 0 bytes ns)) ∙ opened) (sym (ap (λ (x : Rest). x.dead) (told_rest t.0.ran t.0.ended q 0 bytes ns)) ∙ alive);
    }

came_tied : (tasks : List Machine) (ns : List Note) → Tied tasks ns → Tied tasks (Came 8 ∷ ns)
came_tied tasks ns t = record {
  lawful = t.lawful;
  stages = t.stages;
  seats = t.seats;
  sent = λ alive p low. ap (λ (b : Bool). cond b false (under_way p ns)) (no_fetcher p low) ∙ t.sent alive p low;
  few = t.few;
  count = t.count;
}

-- the agent became dead
gone : (phase : Phase) (m : Machine) → Agrees Vacant (dropped (record m { phase = phase })).phase
unfolding reset_step
gone agents.WritingLastStatus m = tt
gone agents.Dead m = refl
gone agents.Reset m = refl
gone agents.Fetching m = refl
gone agents.ReadingTable m = refl
gone (agents.ReadingData wanted) m = refl
gone agents.Answering m = refl
gone agents.WritingStatus m = refl
gone agents.ReadingNext m = refl
gone agents.Suspended m = refl

all_gone : (tasks : List Machine) (p : ℕ) → Agrees Vacant (agent_at (map dropped tasks) p).phase
all_gone [] p = refl
all_gone (task ∷ tasks) zero = gone task.phase task
all_gone (task ∷ tasks) (suc p) = all_gone tasks p

reset_orb : (task : Machine) → orb_of (reset_step task) ≡ orb_of task
unfolding reset_step
reset_orb task = refl

dropped_orb : (b : Bool) (task : Machine) → orb_of (cond b task (reset_step task)) ≡ orb_of task
dropped_orb true task = refl
dropped_orb false task = reset_orb task

gone_orb : (tasks : List Machine) (p : ℕ) → orb_of (agent_at (map dropped tasks) p) ≡ orb_of (agent_at tasks p)
gone_orb [] p = refl
gone_orb (task ∷ tasks) zero = dropped_orb (steps.is_dead (machine.state_in task.phase)) task
gone_orb (task ∷ tasks) (suc p) = gone_orb tasks p

died_tied : (tasks : List Machine) (ns : List Note) → Tied tasks ns → Tied (map dropped tasks) (Died ∷ ns)
died_tied tasks ns t = record {
  lawful = t.lawful;
  stages = λ p below. all_gone tasks p;
  seats = λ p below. t.seats p below ∙ sym (gone_orb tasks p);
  sent = λ alive p below. cc alive;
  few = t.few;
  count = λ opened alive. cc alive;
}

behind_tied : (dead : Option FailCause) (s : TaskMachine) (ns : List Note) → Tied s.tasks ns → Tied (goes_on dead s).1.tasks (death_notes dead ns)
behind_tied None s ns t = t
behind_tied (Some cause) s ns t = died_tied s.tasks ns t

settled_tied : (dead : Option FailCause) (s : TaskMachine) (ns : List Note) → Tied s.tasks ns → Tied (settled dead s).tasks (death_notes dead ns)
settled_tied None s ns t = t
settled_tied (Some cause) s ns t = died_tied s.tasks ns t

-- a list was cut
reset_vacant : (task : Machine) → Agrees Vacant (reset_step task).phase
unfolding reset_step
reset_vacant task = refl

reset_idle : (task : Machine) → is_sent (reset_step task).phase ≡ false
unfolding reset_step
reset_idle task = refl

all_reset : (tasks : List Machine) (p : ℕ) → Agrees Vacant (agent_at (map reset_step tasks) p).phase
all_reset [] p = refl
all_reset (task ∷ tasks) zero = reset_vacant task
all_reset (task ∷ tasks) (suc p) = all_reset tasks p

all_idle : (tasks : List Machine) (p : ℕ) → is_sent (agent_at (map reset_step tasks) p).phase ≡ false
all_idle [] p = refl
all_idle (task ∷ tasks) zero = reset_idle task
all_idle (task ∷ tasks) (suc p) = all_idle tasks p

cut_orb : (tasks : List Machine) (p : ℕ) → orb_of (agent_at (map reset_step tasks) p) ≡ orb_of (agent_at tasks p)
cut_orb [] p = refl
cut_orb (task ∷ tasks) zero = reset_orb task
cut_orb (task ∷ tasks) (suc p) = cut_orb tasks p

cut_tied : (tasks : List Machine) (ns : List Note) → Tied tasks ns → Tied (map reset_step tasks) (Cut ∷ ns)
cut_tied tasks ns t = record {
  lawful = t.lawful;
  stages = λ p below. all_reset tasks p;
  seats = λ p below. t.seats p below ∙ sym (cut_orb tasks p);
  sent = λ alive p below. sym (all_idle tasks p);
  few = t.few;
  count = λ opened alive. cc opened;
}

-- an ORB that was read takes a vacant place
vacant : (s : Stage) (phase : Phase) → not (is_sent phase) ≡ true → (is_vacant phase || is_worked phase) ≡ true → Agrees s phase → s ≡ Vacant
vacant s agents.Reset f t a = a
vacant s agents.Suspended f t a = cc t
vacant s agents.Dead f t a = cc t
vacant s agents.Fetching f t a = cc f
vacant s agents.ReadingTable f t a = cc f
vacant s (agents.ReadingData wanted) f t a = cc f
vacant s agents.Answering f t a = cc f
vacant s agents.WritingStatus f t a = cc f
vacant s agents.WritingLastStatus f t a = cc f
vacant s agents.ReadingNext f t a = cc f

-- what a reply leaves and tells
record After (place : ℕ) (r : TaskStep × TaskMachine) (ns : List Note) : Type 0 where
  tied : Tied r.1.tasks (step_notes place r.0 (task_at r.1 place).outgoing ns)

-- it is one more, while a list is open and the agent is not dead
room : (tasks : List Machine) (q : ℕ) (task : Machine) (count : ℕ) → length tasks ≡ 8 → q < 8 → is_free (agent_at tasks q) ≡ true → is_free task ≡ false → count ≡ busy tasks → suc count ≤ 8
room tasks q task count size low e f same =
    let one : busy (slice_set tasks q task) ≡ suc (busy tasks) = busy_taken tasks q task (omega arith) e f in
    let few : busy (slice_set tasks q task) ≤ length (slice_set tasks q task) = busy_few (slice_set tasks q task) in
    let long : length (slice_set tasks q task) ≡ length tasks = length-set tasks q task in
    omega arith

orb_tied : (found : Option ℕ) (s : TaskMachine) (login : ℕ) (plain : PlainDisk) (told : Option Told) (answer : Answer) (ns : List Note) → lowest_free s.tasks ≡ found → is_some found ≡ true → Sound s → Known s.fetcher (seen ns) → Fetching s.fetcher (seen ns)
    → Tied s.tasks ns → After (or_none found) (orb_read s login plain told answer found) (Got (or_none found) (address_of (reading_in ns)) (next_by (payload_of answer 32)) ∷ Came 8 ∷ ns)
orb_tied None s login plain told answer ns e some h k r t = cc some
orb_tied (Some q) s login plain told answer ns e some h k r t =
    let begun : AgentStep × Machine = begin_step (task_at s q) login plain told s.fetcher.orb answer in
    let next : OrbPointer = next_by (payload_of answer 32) in
    let found : (q < length s.tasks) × (is_free (task_at s q) ≡ true) = ((position-Some is_free s.tasks q new_machine e).0, (position-Some is_free s.tasks q new_machine e).1) in
    let size : length s.tasks ≡ 8 = h.so.size in
    let below : q < length s.tasks = found.0 in
    let small : q < 8 = omega arith in
    let empty : stage q ns ≡ Vacant = vacant (stage q ns) (task_at s q).phase found.1 (all_at s.tasks q h.so.worked) (t.stages q small) in
    let lower : (p : ℕ) → p < q → under_way p (Came 8 ∷ ns) ≡ true =
    λ p low. ap (λ (b : Bool). cond b false (under_way p ns)) (no_fetcher p (omega arith)) ∙ t.sent r.live.dead p (omega arith) ∙ is_busy_task (is_sent (task_at s p).phase) ((position-Some is_free s.tasks q new_machine e).2 p low) in
    let at : address_of (reading_in ns) ≡ aligned s.fetcher.orb = ap address_of r.reading ∙ sym r.even in
    let busy_now : is_free begun.1 ≡ false = worked_busy begun.1 (begin_works (task_at s q) login plain told s.fetcher.orb answer) in
    let left : TaskMachine = (goes_on begun.0.dead (placed s q begun)).1 in
    let same : (task_at left q).outgoing ≡ begun.1.outgoing =
    (behind begun.0.dead (placed s q begun) q).outgoing ∙ ap (λ (m : Machine). m.outgoing) (get_or-set_same s.tasks q begun.1 new_machine below) in
    let ms : List Note = Got q (address_of (reading_in ns)) next ∷ Came 8 ∷ ns in
    record {
      tied = behind_tied begun.0.dead (placed s q begun) (Sent (asked q begun.0.ask ++ asked 8 (goes_on begun.0.dead (placed s q begun)).0) ∷ end_notes q begun.0.ended (task_at left q).outgoing (ran_notes q begun.0.ran ms))
          (set_tied s.tasks q begun (goes_on begun.0.dead (placed s q begun)).0 (task_at left q).outgoing ms Waiting (aligned s.fetcher.orb, next) size small
          (record {
            lawful = (small, empty, lower, t.lawful);
            here = ap (λ (b : Bool). cond b Waiting (stage q ns)) (own q);
            working = refl;
            named = ap (λ (b : Bool). cond b (address_of (reading_in ns), next) (seat q ns)) (own q) ∙ ap (λ (a : ℕ). (a, next)) at;
            idle = ap (λ (b : Bool). cond b false (under_way q ns)) (no_fetcher q small) ∙ t.sent r.live.dead q small ∙ is_idle_task (is_sent (task_at s q).phase) found.1;
            others = λ p low n. subst (λ (k : Stage). Agrees k (agent_at s.tasks p).phase) (sym (ap (λ (b : Bool). cond b Waiting (stage p ns)) (apart q p n))) (t.stages p low);
            names = λ p low n. ap (λ (b : Bool). cond b (address_of (reading_in ns), next) (seat p ns)) (apart q p n) ∙ t.seats p low;
            ways = λ alive p low n. ap (λ (b : Bool). cond b false (under_way p ns)) (no_fetcher p low) ∙ t.sent alive p low;
            few = room s.tasks q begun.1 (unanswered ns) size small found.1 busy_now (t.count r.live.opened r.live.dead);
          })
          (begin_tells (task_at s q) login plain told s.fetcher.orb answer) busy_now same (λ more. refl)
          (λ opened alive. ap (λ (n : ℕ). suc n) (t.count opened alive) ∙ sym (busy_taken s.tasks q begun.1 below found.1 busy_now)));
    }

-- the next pointer of the last ORB was read again
linked_phase : (tasks : List Machine) (n : ℕ) (next : OrbPointer) (p : ℕ) → (agent_at (slice_set tasks n (relinked (agent_at tasks n) next)) p).phase ≡ (agent_at tasks p).phase
linked_phase [] n next p = refl
linked_phase (task ∷ tasks) zero next zero = refl
linked_phase (task ∷ tasks) zero next (suc p) = refl
linked_phase (task ∷ tasks) (suc n) next zero = refl
linked_phase (task ∷ tasks) (suc n) next (suc p) = linked_phase tasks n next p

linked_orb : (tasks : List Machine) (n : ℕ) (next : OrbPointer) (p : ℕ) (orb : ℕ × OrbPointer) → n < length tasks → orb ≡ orb_of (agent_at tasks p) → cond (n == p) (with_next next orb) orb ≡ orb_of (agent_at (slice_set tasks n (relinked (agent_at tasks n) next)) p)
linked_orb tasks n next p orb low e =
    by_place n p (λ (k : ℕ). orb ≡ orb_of (agent_at tasks k) → cond (n == k) (with_next next orb) orb ≡ orb_of (agent_at (slice_set tasks n (relinked (agent_at tasks n) next)) k))
    (λ e. ap (λ (b : Bool). cond b (with_next next orb) orb) (own n) ∙ ap (λ (o : ℕ × OrbPointer). with_next next o) e ∙ sym (ap orb_of (get_or-set_same tasks n (relinked (agent_at tasks n) next) new_machine low)))
    (λ other e. ap (λ (b : Bool). cond b (with_next next orb) orb) (apart n p other) ∙ e ∙ sym (ap orb_of (get_or-set_other tasks n p (relinked (agent_at tasks n) next) new_machine other)))
    e

next_tied : (read : Result (List ℕ) FailCause) (s : TaskMachine) (place : ℕ) (ns : List Note) → Sound s → newest_in ns ≡ s.fetcher.newest → Tied s.tasks ns → After place (next_read s read) (reread_notes read (Came 8 ∷ ns))
next_tied (Err cause) s place ns h e t = record { tied = died_tied s.tasks (Sent [] ∷ Came 8 ∷ ns) (asks_tied Nothing s.tasks (Came 8 ∷ ns) (λ more. cc more) (came_tied s.tasks ns t)) }
next_tied (Ok bytes) s place ns h e t =
    let next : OrbPointer = pointer_at bytes 0 in
    let n : ℕ = s.fetcher.newest in
    let low : n < 8 = h.so.newest in
    let size : length s.tasks ≡ 8 = h.so.size in
    let ts : List Machine = slice_set s.tasks n (relinked (agent_at s.tasks n) next) in
    record {
      tied = asks_tied (goes_on None (pointer_read s next)).0 ts (Reread next ∷ Came 8 ∷ ns) (λ more. refl)
          (record {
            lawful = t.lawful;
            stages = λ p below. subst (λ (phase : Phase). Agrees (stage p ns) phase) (sym (linked_phase s.tasks n next p)) (t.stages p below);
            seats = λ p below. ap (λ (k : ℕ). cond (k == p) (with_next next (seat p ns)) (seat p ns)) e ∙ linked_orb s.tasks n next p (seat p ns) (omega arith) (t.seats p below);
            sent = λ alive p below. ap (λ (b : Bool). cond b false (under_way p ns)) (no_fetcher p below) ∙ t.sent alive p below ∙ sym (ap is_sent (linked_phase s.tasks n next p));
            few = t.few;
            count = λ opened alive. t.count opened alive ∙ sym (busy_same s.tasks n (relinked (agent_at s.tasks n) next) refl);
          });
    }

fetch_tied : (phase : FetchPhase) (s : TaskMachine) (login : ℕ) (plain : PlainDisk) (told : Option Told) (answer : Answer) (ns : List Note) → is_reading phase ≡ true → FetchRule phase s.fetcher s.tasks → Sound s → Known s.fetcher (seen ns) → KeepsBy phase s.fetcher (seen ns)
    → Tied s.tasks ns → After (or_none (lowest_free s.tasks)) (fetch_replied phase s login plain told answer) (fetch_notes phase (or_none (lowest_free s.tasks)) (address_of (reading_in ns)) answer (Came 8 ∷ ns))
fetch_tied phases.Fetching s login plain told answer ns u r h k row t = orb_tied (lowest_free s.tasks) s login plain told answer ns refl r.0 h k row t
fetch_tied phases.ReadingNext s login plain told answer ns u r h k row t = next_tied (payload_of answer 8) s (or_none (lowest_free s.tasks)) ns h k.newest t
fetch_tied phases.Reset s login plain told answer ns u r h k row t = cc u
fetch_tied phases.Waiting s login plain told answer ns u r h k row t = cc u
fetch_tied phases.AtEnd s login plain told answer ns u r h k row t = cc u
fetch_tied phases.Dead s login plain told answer ns u r h k row t = cc u

-- a status write was answered
released_tied : (s : TaskMachine) (q : ℕ) (ns : List Note) → length s.tasks ≡ 8 → q < 8 → is_free (task_at s q) ≡ false → Tied s.tasks ns → Tied (released s q).tasks (Answered q ∷ Came q ∷ ns)
released_tied s q ns size h e t =
    let task : Machine = reset_step (task_at s q) in
    let ts : List Machine = slice_set s.tasks q task in
    let low : q < length s.tasks = omega arith in
    let mine : agent_at ts q ≡ task = get_or-set_same s.tasks q task new_machine low in
    record {
      lawful = t.lawful;
      stages = λ p below.
          by_place q p (λ (k : ℕ). Agrees (stage k (Answered q ∷ ns)) (agent_at ts k).phase)
          (subst (λ (b : Bool). Agrees (cond b Vacant (stage q ns)) (agent_at ts q).phase) (sym (own q))
          (subst (λ (m : Machine). Agrees Vacant m.phase) (sym mine) (reset_vacant (task_at s q))))
          (λ n. subst (λ (b : Bool). Agrees (cond b Vacant (stage p ns)) (agent_at ts p).phase) (sym (apart q p n))
          (subst (λ (m : Machine). Agrees (stage p ns) m.phase) (sym (get_or-set_other s.tasks q p task new_machine n)) (t.stages p below)));
      seats = λ p below.
          t.seats p below
          ∙ by_place q p (λ (k : ℕ). orb_of (agent_at s.tasks k) ≡ orb_of (agent_at ts k))
          (sym (ap orb_of mine ∙ reset_orb (task_at s q)))
          (λ n. sym (ap orb_of (get_or-set_other s.tasks q p task new_machine n)));
      sent = λ alive p below.
          by_place q p (λ (k : ℕ). cond (q == k) false (under_way k ns) ≡ is_sent (agent_at ts k).phase)
          (ap (λ (b : Bool). cond b false (under_way q ns)) (own q) ∙ sym (ap (λ (m : Machine). is_sent m.phase) mine ∙ reset_idle (task_at s q)))
          (λ n. ap (λ (b : Bool). cond b false (under_way p ns)) (apart q p n) ∙ t.sent alive p below ∙ sym (ap (λ (m : Machine). is_sent m.phase) (get_or-set_other s.tasks q p task new_machine n)));
      few = let few : unanswered ns ≤ 8 = t.few in omega arith;
      count = λ opened alive.
          let one : suc (busy ts) ≡ busy s.tasks = busy_left s.tasks q task low e (ap not (reset_idle (task_at s q))) in
          let all : unanswered ns ≡ busy s.tasks = t.count opened alive in
          omega arith;
    }

ended_tied : (tasks : List Machine) (q : ℕ) (ns : List Note) → Tied tasks ns → Tied (map dropped tasks) (Died ∷ Sent [] ∷ Answered q ∷ Came q ∷ ns)
ended_tied tasks q ns t = record {
  lawful = (tt, t.lawful);
  stages = λ p below. all_gone tasks p;
  seats = λ p below. t.seats p below ∙ sym (gone_orb tasks p);
  sent = λ alive p below. cc alive;
  few = let few : unanswered ns ≤ 8 = t.few in omega arith;
  count = λ opened alive. cc alive;
}

none_either : (b : Bool) (reading : Option (ℕ × ℕ)) → reading ≡ None → cond b None reading ≡ None
none_either true reading e = refl
none_either false reading e = e

status_tied : (phase : FetchPhase) (s : TaskMachine) (q : ℕ) (failure : Option FailCause) (ns : List Note) → length s.tasks ≡ 8 → q < 8 → is_free (task_at s q) ≡ false → KeepsBy phase s.fetcher (seen ns) → Tied s.tasks ns → After q (status_written phase s q failure) (Answered q ∷ Came q ∷ ns)
status_tied phases.Dead s q failure ns size h e row t = record { tied = asks_tied Nothing (released s q).tasks (Answered q ∷ Came q ∷ ns) (λ more. cc more) (released_tied s q ns size h e t) }
status_tied phase s q (Some cause) ns size h e row t = record { tied = ended_tied s.tasks q ns t }
status_tied phases.Waiting s q None ns size h e row t = record { tied = asks_tied (goes_on None (released s q)).0 (released s q).tasks (Answered q ∷ Came q ∷ ns) (λ more. none_either (q == 8) (reading_in ns) row.reads) (released_tied s q ns size h e t) }
status_tied phases.Reset s q None ns size h e row t = record { tied = asks_tied Nothing (released s q).tasks (Answered q ∷ Came q ∷ ns) (λ more. cc more) (released_tied s q ns size h e t) }
status_tied phases.Fetching s q None ns size h e row t = record { tied = asks_tied Nothing (released s q).tasks (Answered q ∷ Came q ∷ ns) (λ more. cc more) (released_tied s q ns size h e t) }
status_tied phases.ReadingNext s q None ns size h e row t = record { tied = asks_tied Nothing (released s q).tasks (Answered q ∷ Came q ∷ ns) (λ more. cc more) (released_tied s q ns size h e t) }
status_tied phases.AtEnd s q None ns size h e row t = record { tied = asks_tied Nothing (released s q).tasks (Answered q ∷ Came q ∷ ns) (λ more. cc more) (released_tied s q ns size h e t) }

-- another transaction of a task
record Worked (s : Stage) (phase : Phase) : Type 0 where
  so : s ≡ stage_of phase
  working : is_working (stage_of phase) ≡ true

worked_at : (s : Stage) (phase : Phase) → is_worked phase ≡ true → writes_status phase ≡ false → Agrees s phase → Worked s phase
worked_at s agents.ReadingTable w n a = record { so = a; working = refl }
worked_at s (agents.ReadingData wanted) w n a = record { so = a; working = refl }
worked_at s agents.Answering w n a = record { so = a; working = refl }
worked_at s agents.WritingStatus w n a = cc n
worked_at s agents.WritingLastStatus w n a = cc n
worked_at s agents.Reset w n a = cc w
worked_at s agents.Fetching w n a = cc w
worked_at s agents.ReadingNext w n a = cc w
worked_at s agents.Suspended w n a = cc w
worked_at s agents.Dead w n a = cc w

worked_tied : (s : TaskMachine) (q login : ℕ) (plain : PlainDisk) (told : Option Told) (answer : Answer) (ns : List Note) → Sound s → q < 8 → is_free (task_at s q) ≡ false → writes_status (task_at s q).phase ≡ false → Tied s.tasks ns
    → After q (worked s q (agent.reply_step (task_at s q) login plain told Main answer)) (Came q ∷ ns)
worked_tied s q login plain told answer ns h low e n t =
    let done : AgentStep × Machine = agent.reply_step (task_at s q) login plain told Main answer in
    let works : is_worked (task_at s q).phase ≡ true = task_works (task_at s q) e (all_at s.tasks q h.so.worked) in
    let at : Worked (stage q ns) (task_at s q).phase = worked_at (stage q ns) (task_at s q).phase works n (t.stages q low) in
    let busy_now : is_free done.1 ≡ false = worked_busy done.1 (reply_works (task_at s q) login plain told answer works n) in
    let size : length s.tasks ≡ 8 = h.so.size in
    let left : TaskMachine = settled done.0.dead (with_task s q done.1) in
    let same : (task_at left q).outgoing ≡ done.1.outgoing =
    (settles done.0.dead (with_task s q done.1) q).outgoing ∙ ap (λ (m : Machine). m.outgoing) (get_or-set_same s.tasks q done.1 new_machine (omega arith)) in
    record {
      tied = settled_tied done.0.dead (with_task s q done.1) (Sent (asked q done.0.ask ++ asked 8 Nothing) ∷ end_notes q done.0.ended (task_at left q).outgoing (ran_notes q done.0.ran (Came q ∷ ns)))
          (set_tied s.tasks q done Nothing (task_at left q).outgoing (Came q ∷ ns) (stage_of (task_at s q).phase) (orb_of (task_at s q)) size low
          (record {
            lawful = t.lawful;
            here = at.so;
            working = at.working;
            named = t.seats q low;
            idle = ap (λ (b : Bool). cond b false (under_way q ns)) (own q);
            others = λ p below other. t.stages p below;
            names = λ p below other. t.seats p below;
            ways = λ alive p below other. ap (λ (b : Bool). cond b false (under_way p ns)) (apart q p other) ∙ t.sent alive p below;
            few = t.few;
          })
          (reply_tells (task_at s q) login plain told answer works n) busy_now same (λ more. cc more)
          (λ opened alive. t.count opened alive ∙ sym (busy_same s.tasks q done.1 (busy_now ∙ sym e))));
    }

task_tied : (b : Bool) (s : TaskMachine) (q login : ℕ) (plain : PlainDisk) (told : Option Told) (answer : Answer) (ns : List Note) → writes_status (task_at s q).phase ≡ b → Sound s → q < 8 → is_free (task_at s q) ≡ false → Known s.fetcher (seen ns) → Tied s.tasks ns
    → After q (cond b (status_written s.fetcher.phase s q (write_failure answer)) (worked s q (agent.reply_step (task_at s q) login plain told Main answer))) (answer_notes b q (Came q ∷ ns))
task_tied true s q login plain told answer ns w h low e k t = status_tied s.fetcher.phase s q (write_failure answer) ns h.so.size low e k.row t
task_tied false s q login plain told answer ns w h low e k t = worked_tied s q login plain told answer ns h low e w t

-- a reply
place_tied : (b : Bool) (s : TaskMachine) (login : ℕ) (plain : PlainDisk) (told : Option Told) (place : ℕ) (answer : Answer) (ns : List Note)
    → cond b (is_reading s.fetcher.phase) (cond (nat_lt place 8) (is_under_way Main (task_at s place)) false) ≡ true → Sound s → Known s.fetcher (seen ns) → Tied s.tasks ns
    → After (cond b (or_none (lowest_free s.tasks)) place) (cond b (fetch_replied s.fetcher.phase s login plain told answer) (task_replied s login plain told place answer)) (heard_at b s place answer ns)
place_tied true s login plain told place answer ns u h k t = fetch_tied s.fetcher.phase s login plain told answer ns u h.so.rule h k k.row t
place_tied false s login plain told place answer ns u h k t =
    let task : Task place (task_at s place) = task_at_by (nat_lt place 8) place (task_at s place) refl u in
    task_tied (writes_status (task_at s place).phase) s place login plain told answer ns refl h task.below task.busy k t

replied_tied : (b : Bool) (s : TaskMachine) (login : ℕ) (plain : PlainDisk) (told : Option Told) (place : ℕ) (answer : Answer) (ns : List Note) → is_busy place s ≡ b → Sound s → Known s.fetcher (seen ns) → Tied s.tasks ns
    → After (place_of s place) (cond b (reply_step s login plain told place answer) (quiet, s)) (heard b s place answer ns)
unfolding reply_step
replied_tied true s login plain told place answer ns u h k t = place_tied (place == 8) s login plain told place answer ns u h k t
replied_tied false s login plain told place answer ns u h k t = record { tied = asks_tied Nothing s.tasks ns (λ more. cc more) t }

-- ORB_POINTER and DOORBELL
record Takes (tasks : List Machine) (ns : List Note) : Type 0 where
  free : are_free tasks ≡ true
  alive : is_dead ns ≡ false
  idle : reading_in ns ≡ None

takes : (phase : FetchPhase) (f : Fetcher) (tasks : List Machine) (ns : List Note) → takes_pointer (state_in phase) tasks ≡ true → FetchRule phase f tasks → KeepsBy phase f (seen ns) → Takes tasks ns
takes phases.Reset f tasks ns e r k = record { free = r; alive = k.dead; idle = k.idle }
takes phases.AtEnd f tasks ns e r k = record { free = e; alive = k.live.dead; idle = k.reads }
takes phases.Fetching f tasks ns e r k = cc e
takes phases.ReadingNext f tasks ns e r k = cc e
takes phases.Waiting f tasks ns e r k = cc e
takes phases.Dead f tasks ns e r k = cc e

pointed_tied : (first : ℕ) (tasks : List Machine) (ns : List Note) → Takes tasks ns → Tied tasks ns → Tied tasks (Pointed first ∷ ns)
pointed_tied first tasks ns p t = record {
  lawful = t.lawful;
  stages = t.stages;
  seats = t.seats;
  sent = λ alive q below. t.sent p.alive q below;
  few = omega arith;
  count = λ opened alive. sym (busy_none tasks p.free);
}

point_tied : (b : Bool) (pointer : OrbPointer) (s : TaskMachine) (ns : List Note) → takes_pointer (state_in s.fetcher.phase) s.tasks ≡ b → Sound s → Known s.fetcher (seen ns) → Tied s.tasks ns
    → Tied (cond b (pointed s pointer) (refused s)).1.tasks (point_notes pointer (cond b (pointed s pointer) (refused s)).0 ns)
point_tied true Null s ns e h k t = t
point_tied true (At first) s ns e h k t =
    let p : Takes s.tasks ns = takes s.fetcher.phase s.fetcher s.tasks ns e h.so.rule k.row in
    asks_tied (Read (aligned first) 32) s.tasks (Pointed (aligned first) ∷ ns) (λ more. p.idle) (pointed_tied (aligned first) s.tasks ns p t)
point_tied false pointer s ns e h k t = t

rung_tied : (tasks : List Machine) (ns : List Note) → Tied tasks ns → Tied tasks (Rung ∷ ns)
rung_tied tasks ns t = record { lawful = t.lawful; stages = t.stages; seats = t.seats; sent = t.sent; few = t.few; count = t.count }

at_rest : (phase : FetchPhase) (f : Fetcher) (ns : List Note) → KeepsBy phase f (seen ns) → state_in phase ≡ states.Suspended → reading_in ns ≡ None
at_rest phases.AtEnd f ns k e = k.reads
at_rest phases.Reset f ns k e = cc e
at_rest phases.Fetching f ns k e = cc e
at_rest phases.ReadingNext f ns k e = cc e
at_rest phases.Waiting f ns k e = cc e
at_rest phases.Dead f ns k e = cc e

doorbell_tied : (state : AgentState) (s : TaskMachine) (ns : List Note) → (state ≡ states.Suspended → reading_in ns ≡ None) → Tied s.tasks ns → Tied (doorbell_in state s).1.tasks (Sent (asked 8 (doorbell_in state s).0) ∷ Rung ∷ ns)
doorbell_tied states.Active s ns idle t = asks_tied Nothing s.tasks (Rung ∷ ns) (λ more. cc more) (rung_tied s.tasks ns t)
doorbell_tied states.Suspended s ns idle t = asks_tied (Read s.fetcher.orb 8) s.tasks (Rung ∷ ns) (λ more. idle refl) (rung_tied s.tasks ns t)
doorbell_tied states.Reset s ns idle t = asks_tied Nothing s.tasks (Rung ∷ ns) (λ more. cc more) (rung_tied s.tasks ns t)
doorbell_tied states.Dead s ns idle t = asks_tied Nothing s.tasks (Rung ∷ ns) (λ more. cc more) (rung_tied s.tasks ns t)

call_tied : (call : Call) (s : TaskMachine) (ns : List Note) → Sound s → Known s.fetcher (seen ns) → Tied s.tasks ns → Tied (after_call call s).tasks (noted call s ns)
unfolding point_step doorbell_step reset_all_step
call_tied (Point pointer) s ns h k t = point_tied (takes_pointer (state_in s.fetcher.phase) s.tasks) pointer s ns refl h k t
call_tied Doorbell s ns h k t = doorbell_tied (state_in s.fetcher.phase) s ns (at_rest s.fetcher.phase s.fetcher ns k.row) t
call_tied Reset s ns h k t = cut_tied s.tasks ns t
call_tied (Reply login plain told place answer) s ns h k t = (replied_tied (is_busy place s) s login plain told place answer ns refl h k t).tied

all_new : (n p : ℕ) → agent_at (replicate n new_machine) p ≡ new_machine
all_new zero p = refl
all_new (suc n) zero = refl
all_new (suc n) (suc p) = all_new n p

new_tied : Tied (replicate 8 new_machine) []
new_tied = record {
  lawful = tt;
  stages = λ p low. subst (λ (m : Machine). Agrees Vacant m.phase) (sym (all_new 8 p)) refl;
  seats = λ p low. sym (ap orb_of (all_new 8 p));
  sent = λ alive p low. sym (ap (λ (m : Machine). is_sent m.phase) (all_new 8 p));
  few = omega arith;
  count = λ opened alive. cc opened;
}

pub calls_tied : (calls : List Call) → Tied (after_calls calls).tasks (notes calls)
calls_tied [] = new_tied
calls_tied (call ∷ calls) = call_tied call (after_calls calls) (notes calls) (calls_sound calls) (calls_known calls) (calls_tied calls)

pub calls_lawful : CallsAreLawful
calls_lawful calls = (calls_tied calls).lawful

pub at_most_eight : EightLaw
at_most_eight calls = (calls_tied calls).few
