-- Behind the first note of a turn an agent of the terms keeps the pointer that it took last, while it has a list; and it had one before.
use Rattle.sbp_world.proofs.Words.Std.{◌≡◌, ◌∙◌, refl, sym, ap, ℕ, Bool, true, false, cond, List, Option, Some, Result, Ok, Err}
use Rattle.sbp_world.proofs.Words.Target.{AgentStep, Which, Ahead, Main, Machine, is_ahead, Phase, advanced, ahead_step, quiet, reply_step, served, told_or, PlainDisk, Told}
use Rattle.sbp_world.proofs.Words.Initiator.{FailCause, payload_of, Nothing, Answer}
use Rattle.sbp_world.proofs.Words.Laws.{Agent, Reply, agent_over, closed, cut_agent, is_nothing, main_lost, moved, new_agent, sends_of, wants}
use Rattle.sbp_world.proofs.Words.World.{has_list}
use Rattle.command_agent.specs.declared.phase.Phase.TheVariants as phases
use Rattle.command_agent.specs.Steps as steps
use Rattle.orb_layout.specs.declared.ask.FailCause.TheVariants as causes
use Rattle.sbp_world.proofs.Lists.AgentGoes.{AllGo, AreGoing}
use Rattle.sbp_world.proofs.Common.{untrue}

-- ---- an agent
-- one that has a list had one before, with its pointer
abbrev pub Holds : (before now : Agent) → Type 0
Holds before now = has_list now.machine.phase ≡ true → (now.pointer ≡ before.pointer) × (has_list before.machine.phase ≡ true)

pub self : (a : Agent) → Holds a a
self a = λ e. (refl, e)

then_holds : (a b c : Agent) → Holds a b → Holds b c → Holds a c
then_holds a b c f g = λ e. let y = g e in let x = f y.1 in (y.0 ∙ x.0, x.1)

as_holds : (a : Agent) (machine : Machine) → (has_list a.machine.phase ≡ false → has_list machine.phase ≡ false) → has_list machine.phase ≡ true → has_list a.machine.phase ≡ true
as_holds a machine f e = by (has_list a.machine.phase) refl
  where
    by : (b : Bool) → has_list a.machine.phase ≡ b → b ≡ true
    by true g = refl
    by false g = untrue (sym (f g) ∙ e)

main_stays : (place : ℕ) (plain : PlainDisk) (told : Told) (phase : Phase) (m : Machine) (answer : Answer) → has_list phase ≡ false → has_list m.phase ≡ false → has_list (served place plain told (advanced phase m answer).0 (advanced phase m answer).1).1.phase ≡ false
main_stays place plain told phases.Reset m answer e f = f
main_stays place plain told phases.Dead m answer e f = f
main_stays place plain told phases.WritingLastStatus m answer e f = untrue (sym e)
main_stays place plain told phases.Fetching m answer e f = untrue (sym e)
main_stays place plain told phases.ReadingTable m answer e f = untrue (sym e)
main_stays place plain told (phases.ReadingData wanted) m answer e f = untrue (sym e)
main_stays place plain told phases.Answering m answer e f = untrue (sym e)
main_stays place plain told phases.WritingStatus m answer e f = untrue (sym e)
main_stays place plain told phases.ReadingNext m answer e f = untrue (sym e)
main_stays place plain told phases.Suspended m answer e f = untrue (sym e)

ahead_stays : (m : Machine) (r : Result (List ℕ) FailCause) → has_list m.phase ≡ false → has_list (steps.ahead_read m r).1.phase ≡ false
ahead_stays m (Ok bytes) e = e
ahead_stays m (Err cause) e = e

if_stays : (b : Bool) (x y : AgentStep × Machine) → has_list x.1.phase ≡ false → has_list y.1.phase ≡ false → has_list (cond b x y).1.phase ≡ false
if_stays true x y h i = h
if_stays false x y h i = i

reply_stays : (m : Machine) (place : ℕ) (plain : PlainDisk) (told : Option Told) (which : Which) (answer : Answer) → has_list m.phase ≡ false → has_list (reply_step m place plain told which answer).1.phase ≡ false
unfolding reply_step
reply_stays m place plain told Main answer e = main_stays place plain (told_or told) m.phase m answer e e
reply_stays m place plain told Ahead answer e = if_stays (is_ahead m.ahead) (ahead_step m answer) (quiet, m) (ahead_stays m (payload_of answer 32) e) e

lost_by : (phase : Phase) (m : Machine) (cause : FailCause) → has_list phase ≡ false → has_list m.phase ≡ false → has_list (steps.main_lost phase m cause).1.phase ≡ false
lost_by phases.Reset m cause e f = f
lost_by phases.Dead m cause e f = f
lost_by phases.WritingLastStatus m cause e f = untrue (sym e)
lost_by phases.Fetching m cause e f = untrue (sym e)
lost_by phases.ReadingTable m cause e f = untrue (sym e)
lost_by (phases.ReadingData wanted) m cause e f = untrue (sym e)
lost_by phases.Answering m cause e f = untrue (sym e)
lost_by phases.WritingStatus m cause e f = untrue (sym e)
lost_by phases.ReadingNext m cause e f = untrue (sym e)
lost_by phases.Suspended m cause e f = untrue (sym e)

lost_stays : (m : Machine) (which : Which) (cause : FailCause) → has_list m.phase ≡ false → has_list (steps.lost_step m which cause).1.phase ≡ false
unfolding steps.lost_step
lost_stays m Main cause e = lost_by m.phase m cause e e
lost_stays m Ahead cause e = if_stays (is_ahead m.ahead) (steps.ahead_lost m cause) (quiet, m) e e

abort_stays : (m : Machine) (orb : ℕ) → has_list (steps.abort_step m orb).phase ≡ has_list m.phase
unfolding steps.abort_step
abort_stays m orb = refl

reset_dead : (m : Machine) → has_list (steps.reset_step m).phase ≡ false
unfolding steps.reset_step
reset_dead m = refl

moves : (step : AgentStep × Machine) (a : Agent) → (has_list a.machine.phase ≡ false → has_list step.1.phase ≡ false) → Holds a (moved step a)
moves step a f = λ e. (refl, as_holds a step.1 f e)

closes : (which : Which) (a : Agent) → Holds a (closed which a)
closes Main a = λ e. (refl, e)
closes Ahead a = λ e. (refl, e)

pub closed_machine : (which : Which) (a : Agent) → (closed which a).machine ≡ a.machine
closed_machine Main a = refl
closed_machine Ahead a = refl

loses : (a : Agent) → Holds a (main_lost a)
loses a = by (is_nothing a.asks)
  where
    by : (b : Bool) → Holds a (cond b a (moved (steps.lost_step a.machine Main causes.Label) a))
    by true = self a
    by false = moves (steps.lost_step a.machine Main causes.Label) a (lost_stays a.machine Main causes.Label)

ends : (a : Agent) → Holds a (agent_over a)
ends a = then_holds a x (agent_over a) (loses a) (by (is_nothing x.asks_ahead))
  where
    x : Agent
    x = main_lost a

    by : (b : Bool) → Holds x (cond b x (record x { machine = (steps.lost_step x.machine Ahead causes.Label).1; asks_ahead = Nothing }))
    by true = self x
    by false = λ e. (refl, as_holds x (steps.lost_step x.machine Ahead causes.Label).1 (lost_stays x.machine Ahead causes.Label) e)

sends : (is_write : Bool) (serial : ℕ) (a : Agent) → Holds a (sends_of is_write serial a)
sends is_write serial a = by (wants a.asks is_write) (wants a.asks_ahead is_write)
  where
    by : (x y : Bool) → Holds a (cond x (record a { main = Some serial; asks = Nothing }) (cond y (record a { ahead = Some serial; asks_ahead = Nothing }) a))
    by true y = λ e. (refl, e)
    by false true = λ e. (refl, e)
    by false false = self a

-- one that has none
rests : (a now : Agent) → has_list now.machine.phase ≡ false → Holds a now
rests a now f = λ e. untrue (sym f ∙ e)

pub cuts : (a : Agent) → Holds a (cut_agent a)
cuts a = rests a (cut_agent a) (reset_dead a.machine)

replies : (a : Agent) (reply : Reply) (plain : PlainDisk) (told : Option Told) → Holds a (moved (reply_step a.machine reply.place plain told reply.which reply.answer) (closed reply.which a))
replies a reply plain told =
    let b = closed reply.which a in
    let step = reply_step a.machine reply.place plain told reply.which reply.answer in
    let none : has_list b.machine.phase ≡ false → has_list step.1.phase ≡ false =
    λ g. reply_stays a.machine reply.place plain told reply.which reply.answer (ap (λ (m : Machine). has_list m.phase) (sym (closed_machine reply.which a)) ∙ g) in
    then_holds a b (moved step b) (closes reply.which a) (moves step b none)

pub are_going : AreGoing Holds
are_going = record {
  self = self;
  onward = then_holds;
  untells = λ a b e. (refl, e);
  replies = replies;
  loses = loses;
  ends = ends;
  sends = λ a is_write serial. sends is_write serial a;
  cuts = cuts;
  aborts = λ a orb e. (refl, sym (abort_stays a.machine orb) ∙ e);
  enters = λ a. rests a new_agent refl;
}

-- ---- the agents of all places
abbrev pub AllHold : (before now : List Agent) → Type 0
AllHold before now = AllGo Holds are_going before now
