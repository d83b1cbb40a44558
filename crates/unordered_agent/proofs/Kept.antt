-- What a reply tells of an ORB, read off its task: a task that was dropped still keeps it.
use Rattle.std.proofs.Common.{◌≡◌, ◌⊎◌, inl, inr, refl, ap, sym, subst, ◌∙◌, ℕ, zero, suc, Bool, true, false, cond, List, [], ◌∷◌, map, slice_set, Option, Some, None}
use Rattle.orb_layout.specs.declared.ask.Ask.{Ask}
use Rattle.orb_layout.specs.declared.ask.Ask.TheVariants.{Nothing}
use Rattle.orb_layout.specs.declared.ask.FailCause.{FailCause}
use Rattle.orb_layout.specs.Replies.{Answer}
use Rattle.rbc_disk.specs.declared.command.Outcome.{Outcome}
use Rattle.rbc_disk.specs.Units.{PlainDisk}
use Rattle.rbc_disk.specs.Runs.{Told, told_in, left_by}
use Rattle.command_agent.specs.declared.step.AgentStep.{AgentStep}
use Rattle.command_agent.specs.declared.step.Which.TheVariants.{Main}
use Rattle.command_agent.specs.Machine.{Machine, new_machine}
use Rattle.command_agent.specs.Machine as machine
use Rattle.command_agent.specs.Runs.{MayTell}
use Rattle.command_agent.specs.Steps.{reset_step}
use Rattle.command_agent.specs.Steps as agent
use Rattle.command_agent.specs.Tasks.{begin_step}
use Rattle.unordered_agent.specs.declared.step.TaskStep.{TaskStep}
use Rattle.unordered_agent.specs.Machine.{TaskMachine, both, agent_at, task_at}
use Rattle.unordered_agent.specs.Fetching.{seated}
use Rattle.unordered_agent.specs.Steps.{is_dead, dropped, settled, goes_on, task_step, begun, orb_read, worked}

-- a task as it was, or dropped
pub record Left (a b : Machine) : Type 0 where
  pub so : (a ≡ b) ⊎ (a ≡ reset_step b)

left_if : (b : Bool) (m : Machine) → (cond b m (reset_step m) ≡ m) ⊎ (cond b m (reset_step m) ≡ reset_step m)
left_if true m = inl refl
left_if false m = inr refl

none_dropped : dropped new_machine ≡ new_machine
unfolding reset_step
none_dropped = refl

at_map : (tasks : List Machine) (place : ℕ) → agent_at (map dropped tasks) place ≡ dropped (agent_at tasks place)
at_map [] place = sym none_dropped
at_map (task ∷ tasks) zero = refl
at_map (task ∷ tasks) (suc place) = at_map tasks place

pub left_dropped : (tasks : List Machine) (place : ℕ) → Left (agent_at (map dropped tasks) place) (agent_at tasks place)
left_dropped tasks place =
    subst (λ (m : Machine). Left m (agent_at tasks place)) (sym (at_map tasks place))
    (record { so = left_if (is_dead (machine.state_in (agent_at tasks place).phase)) (agent_at tasks place) })

left_settled : (dead : Option FailCause) (s : TaskMachine) (place : ℕ) → Left (task_at (settled dead s) place) (task_at s place)
left_settled None s place = record { so = inl refl }
left_settled (Some cause) s place = left_dropped s.tasks place

left_behind : (dead : Option FailCause) (s : TaskMachine) (place : ℕ) → Left (task_at (goes_on dead s).1 place) (task_at s place)
left_behind None s place = record { so = inl refl }
left_behind (Some cause) s place = left_dropped s.tasks place

-- what is told of it is the same
told_by : (ran : Option Outcome) (a b : Machine) → (a ≡ b) ⊎ (a ≡ reset_step b) → told_in ran a.answer ≡ told_in ran b.answer
unfolding reset_step
told_by ran a b (inl e) = ap (λ (m : Machine). told_in ran m.answer) e
told_by ran a b (inr e) = ap (λ (m : Machine). told_in ran m.answer) e

disk_by : (ran : Option Outcome) (login : ℕ) (plain : PlainDisk) (a b : Machine) → (a ≡ b) ⊎ (a ≡ reset_step b) → left_by ran a.orb.cdb a.payload login plain ≡ left_by ran b.orb.cdb b.payload login plain
unfolding reset_step
disk_by ran login plain a b (inl e) = ap (λ (m : Machine). left_by ran m.orb.cdb m.payload login plain) e
disk_by ran login plain a b (inr e) = ap (λ (m : Machine). left_by ran m.orb.cdb m.payload login plain) e

may_reset : (ran : Option Outcome) (login : ℕ) (plain : PlainDisk) (m : Machine) → MayTell ran m login plain → MayTell ran (reset_step m) login plain
unfolding reset_step
may_reset None login plain m h = h
may_reset (Some outcome) login plain m h = record { fed = h.fed; ended = h.ended; size = h.size; len = h.len; answered = h.answered }

may_by : (ran : Option Outcome) (login : ℕ) (plain : PlainDisk) (a b : Machine) → (a ≡ b) ⊎ (a ≡ reset_step b) → MayTell ran b login plain → MayTell ran a login plain
may_by ran login plain a b (inl e) h = subst (λ (m : Machine). MayTell ran m login plain) (sym e) h
may_by ran login plain a b (inr e) h = subst (λ (m : Machine). MayTell ran m login plain) (sym e) (may_reset ran login plain b h)

-- the step of a task, and what follows it, over the places before and behind it
pub record Behind (place : ℕ) (tasks : List Machine) (new : TaskMachine) (step : AgentStep) (result : TaskStep) : Type 0 where
  pub ran : result.ran ≡ step.ran
  pub left : Left (task_at new place) (agent_at tasks place)

pub disk_behind : (place login : ℕ) (tasks : List Machine) (new : TaskMachine) (step : AgentStep) (result : TaskStep) (plain now : PlainDisk) → Behind place tasks new step result
    → now ≡ left_by step.ran (agent_at tasks place).orb.cdb (agent_at tasks place).payload login plain
    → now ≡ left_by result.ran (task_at new place).orb.cdb (task_at new place).payload login plain
disk_behind place login tasks new step result plain now b h =
    h
    ∙ sym (disk_by step.ran login plain (task_at new place) (agent_at tasks place) b.left.so)
    ∙ sym (ap (λ (ran : Option Outcome). left_by ran (task_at new place).orb.cdb (task_at new place).payload login plain) b.ran)

pub may_behind : (place login : ℕ) (tasks : List Machine) (new : TaskMachine) (step : AgentStep) (result : TaskStep) (plain : PlainDisk) → Behind place tasks new step result
    → MayTell step.ran (agent_at tasks place) login plain → MayTell result.ran (task_at new place) login plain
may_behind place login tasks new step result plain b h =
    subst (λ (ran : Option Outcome). MayTell ran (task_at new place) login plain) (sym b.ran)
    (may_by step.ran login plain (task_at new place) (agent_at tasks place) b.left.so h)

told_behind : (place : ℕ) (tasks : List Machine) (new : TaskMachine) (step : AgentStep) (result : TaskStep) → Behind place tasks new step result → told_in result.ran (task_at new place).answer ≡ told_in step.ran (agent_at tasks place).answer
told_behind place tasks new step result b =
    ap (λ (ran : Option Outcome). told_in ran (task_at new place).answer) b.ran
    ∙ told_by step.ran (task_at new place) (agent_at tasks place) b.left.so

-- an ORB that was read
abbrev pub seated_in : TaskMachine → ℕ → List Machine → TaskMachine
seated_in s place tasks = both (seated s.fetcher place (agent_at tasks place).orb.next) tasks

pub begun_behind : (s new : TaskMachine) (place : ℕ) (tasks : List Machine) (step : AgentStep) (ask : Ask) (result : TaskStep)
    → (ask, new) ≡ goes_on step.dead (seated_in s place tasks) → result ≡ task_step place step ask → Behind place tasks new step result
begun_behind s new place tasks step ask result g r = record {
  ran = ap (λ (t : TaskStep). t.ran) r;
  left = subst (λ (n : TaskMachine). Left (task_at n place) (agent_at tasks place)) (sym (ap (λ (p : Ask × TaskMachine). p.1) g)) (left_behind step.dead (seated_in s place tasks) place);
}

pub begun_step : (s new : TaskMachine) (place : ℕ) (tasks : List Machine) (step : AgentStep) (ask : Ask) (result : TaskStep) (login : ℕ) (plain : PlainDisk) (answer : Answer)
    → (step, agent_at tasks place) ≡ begin_step (agent_at s.tasks place) login plain (told_in step.ran (agent_at tasks place).answer) s.fetcher.orb answer
    → tasks ≡ slice_set s.tasks place (agent_at tasks place)
    → (ask, new) ≡ goes_on step.dead (seated_in s place tasks)
    → result ≡ task_step place step ask
    → (result, new) ≡ orb_read s login plain (told_in result.ran (task_at new place).answer) answer (Some place)
begun_step s new place tasks step ask result login plain answer e o g r =
    let m : Machine = agent_at tasks place in
    ap (λ (t : TaskStep). (t, new)) r
    ∙ ap (λ (p : Ask × TaskMachine). (task_step place step p.0, p.1)) g
    ∙ ap (λ (ts : List Machine). (task_step place step (goes_on step.dead (both (seated s.fetcher place m.orb.next) ts)).0, (goes_on step.dead (both (seated s.fetcher place m.orb.next) ts)).1)) o
    ∙ ap (λ (t : AgentStep × Machine). begun s place t) e
    ∙ sym (ap (λ (told : Option Told). begun s place (begin_step (agent_at s.tasks place) login plain told s.fetcher.orb answer)) (told_behind place tasks new step result (begun_behind s new place tasks step ask result g r)))

-- another transaction of a task
pub worked_behind : (s new : TaskMachine) (place : ℕ) (tasks : List Machine) (step : AgentStep) (ask : Ask) (result : TaskStep)
    → new ≡ settled step.dead (both s.fetcher tasks) → result ≡ task_step place step ask → Behind place tasks new step result
worked_behind s new place tasks step ask result g r = record {
  ran = ap (λ (t : TaskStep). t.ran) r;
  left = subst (λ (n : TaskMachine). Left (task_at n place) (agent_at tasks place)) (sym g) (left_settled step.dead (both s.fetcher tasks) place);
}

pub worked_step : (s new : TaskMachine) (place : ℕ) (tasks : List Machine) (step : AgentStep) (ask : Ask) (result : TaskStep) (login : ℕ) (plain : PlainDisk) (answer : Answer)
    → (step, agent_at tasks place) ≡ agent.reply_step (agent_at s.tasks place) login plain (told_in step.ran (agent_at tasks place).answer) Main answer
    → tasks ≡ slice_set s.tasks place (agent_at tasks place)
    → new ≡ settled step.dead (both s.fetcher tasks)
    → ask ≡ Nothing
    → result ≡ task_step place step ask
    → (result, new) ≡ worked s place (agent.reply_step (agent_at s.tasks place) login plain (told_in result.ran (task_at new place).answer) Main answer)
worked_step s new place tasks step ask result login plain answer e o g n r =
    ap (λ (t : TaskStep). (t, new)) r
    ∙ ap (λ (a : Ask). (task_step place step a, new)) n
    ∙ ap (λ (n : TaskMachine). (task_step place step Nothing, n)) g
    ∙ ap (λ (ts : List Machine). (task_step place step Nothing, settled step.dead (both s.fetcher ts))) o
    ∙ ap (λ (t : AgentStep × Machine). worked s place t) e
    ∙ sym (ap (λ (told : Option Told). worked s place (agent.reply_step (agent_at s.tasks place) login plain told Main answer)) (told_behind place tasks new step result (worked_behind s new place tasks step ask result g r)))
