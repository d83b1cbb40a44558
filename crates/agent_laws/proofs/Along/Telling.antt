-- Over every list of calls the ORBs of a list run and end in its order.
use Rattle.std.proofs.Common.{◌≡◌, refl, ap, sym, subst, ◌∙◌, ℕ, suc, ◌<◌, true, false, List, [], ◌∷◌, Option, Some, None, Result, Ok, Err, IfSome}
use Rattle.orb_layout.specs.declared.ask.Ask.{Ask}
use Rattle.orb_layout.specs.declared.ask.FailCause.{FailCause}
use Rattle.orb_layout.specs.declared.status.StatusKind.{StatusKind}
use Rattle.orb_layout.specs.Replies.{Answer, write_failure}
use Rattle.rbc_disk.specs.declared.command.Outcome.{Outcome}
use Rattle.rbc_disk.specs.Units.{PlainDisk, new_unit}
use Rattle.command_agent.specs.declared.phase.Phase.{Phase}
use Rattle.command_agent.specs.declared.phase.Phase.TheVariants as phases
use Rattle.command_agent.specs.declared.step.AgentStep.{AgentStep}
use Rattle.command_agent.specs.declared.step.PointRefusal.{PointRefusal}
use Rattle.command_agent.specs.declared.step.Which.{Which}
use Rattle.command_agent.specs.declared.step.Which.TheVariants.{Main, Ahead}
use Rattle.command_agent.specs.Machine.{Machine}
use Rattle.command_agent.specs.Steps.{src_of, answer_chunk, point_step, reply_step, lost_step}
use Rattle.agent_laws.specs.Wire.{EndsBy}
use Rattle.agent_laws.specs.Along.Lists.{OrbList, IsLaid}
use Rattle.agent_laws.specs.Along.Along.{Progress, at_start, Along}
use Rattle.agent_laws.specs.Along.Steps.{run_by, end_by, progress_by, status_by, chunk_by, main_heard, heard_by, IsRun, IsEnd, Keeps, Brings, PointerBrings}
use Rattle.agent_laws.specs.Along.Calls.{Call, Ring, Abort, Reset, Reply, Lose, step_of, behind, Tale, Ran, Ended, run_tales, end_tales, tales_of, tales, ends, outcome_in, AllBring, InTurn, ended, first_ones, GoesAlongLaw}
use Rattle.agent_laws.proofs.Along.Writes.{keeps_along}

-- the agent is along the list as far as was told
record Stands (l : OrbList) (m : Machine) (ts : List Tale) : Type 0 where
  pub progress : Progress
  pub along : Along l progress m
  pub ended : progress.ended ≡ ends ts
  pub outcome : progress.outcome ≡ outcome_in ts
  pub turns : InTurn l ts

-- ---- what a step tells
record Agrees (l : OrbList) (p : Progress) (ts : List Tale) : Type 0 where
  pub ended : p.ended ≡ ends ts
  pub outcome : p.outcome ≡ outcome_in ts
  pub turns : InTurn l ts

ran_agrees : (ran : Option Outcome) (l : OrbList) (p : Progress) (m : Machine) (place : ℕ) (plain : PlainDisk) (ts : List Tale) → IfSome ran (λ outcome. IsRun l p place plain m.present m.orb m.segments m.payload) → Agrees l p ts → Agrees l (run_by ran m.answer p) (run_tales ran m ts)
ran_agrees None l p m place plain ts r a = a
ran_agrees (Some outcome) l p m place plain ts r a = record {
  ended = a.ended;
  outcome = refl;
  turns = (
    record {
      turn = record { place = r.turn.place ∙ ap l.address a.ended; linked = subst (λ (k : ℕ). k < l.linked) a.ended r.turn.linked };
      once = sym a.outcome ∙ r.once;
      own = subst (λ (k : ℕ). l.is_orb k m.orb) a.ended r.good.own;
      buffer = subst (λ (k : ℕ). l.is_buffer k m.orb m.segments) a.ended r.buffer;
      part = subst (λ (k : ℕ). l.is_data k m.orb m.segments m.payload) a.ended r.part;
    },
    a.turns,
  );
}

end_agrees : (kind : Option StatusKind) (l : OrbList) (p : Progress) (m : Machine) (ask : Ask) (ts : List Tale) → IfSome kind (λ kind. IsEnd l p kind m.present m.orb m.outgoing ask) → Agrees l p ts → Agrees l (end_by kind (src_of m.orb.next) p) (end_tales kind m ts)
end_agrees None l p m ask ts e a = a
end_agrees (Some kind) l p m ask ts e a = record {
  ended = ap suc a.ended;
  outcome = refl;
  turns = (
    record {
      turn = record { place = e.turn.place ∙ ap l.address a.ended; linked = subst (λ (k : ℕ). k < l.linked) a.ended e.turn.linked };
      by = subst (λ (o : Option Outcome). EndsBy kind o) a.outcome e.by;
    },
    a.turns,
  );
}

step_stands : (l : OrbList) (p : Progress) (place : ℕ) (plain : PlainDisk) (main ahead : Ask) (s : AgentStep × Machine) (ts : List Tale) → Keeps l p place plain main ahead s → Agrees l p ts → Stands l s.1 (tales_of s ts)
step_stands l p place plain main ahead s ts k a =
    let q : Progress = run_by s.0.ran s.1.answer p in
    let now : Agrees l (end_by s.0.ended (src_of s.1.orb.next) q) (end_tales s.0.ended s.1 (run_tales s.0.ran s.1 ts)) =
    end_agrees s.0.ended l q s.1 s.0.ask (run_tales s.0.ran s.1 ts) k.ends (ran_agrees s.0.ran l p s.1 place plain ts k.runs a) in
    record { progress = progress_by s p; along = k.along; ended = now.ended; outcome = now.outcome; turns = now.turns }

-- ---- what is heard first
record Same (p q : Progress) : Type 0 where
  pub ended : q.ended ≡ p.ended
  pub outcome : q.outcome ≡ p.outcome

chunk_same : (failure : Option FailCause) (size : ℕ) (p : Progress) → Same p (chunk_by failure size p)
chunk_same None size p = record { ended = refl; outcome = refl }
chunk_same (Some cause) size p = record { ended = refl; outcome = refl }

status_same : (failure : Option FailCause) (p : Progress) → Same p (status_by failure p)
status_same None p = record { ended = refl; outcome = refl }
status_same (Some cause) p = record { ended = refl; outcome = refl }

main_same : (phase : Phase) (m : Machine) (answer : Answer) (p : Progress) → Same p (main_heard phase m answer p)
main_same phases.Answering m answer p = chunk_same (write_failure answer) (answer_chunk m) p
main_same phases.WritingStatus m answer p = status_same (write_failure answer) p
main_same phases.WritingLastStatus m answer p = status_same (write_failure answer) p
main_same _ m answer p = record { ended = refl; outcome = refl }

heard_same : (which : Which) (m : Machine) (answer : Answer) (p : Progress) → Same p (heard_by which m answer p)
heard_same Main m answer p = main_same m.phase m answer p
heard_same Ahead m answer p = record { ended = refl; outcome = refl }

-- ---- each call
-- where nothing runs, what the unit and its medium hold is of no account
some_plain : PlainDisk
some_plain = record { unit = new_unit; medium = record { bytes = None; blocks = 1; is_protected = false; is_present = true; is_bay = false; shelf = [] } }

agrees : (l : OrbList) (m : Machine) (ts : List Tale) (s : Stands l m ts) → Agrees l s.progress ts
agrees l m ts s = record { ended = s.ended; outcome = s.outcome; turns = s.turns }

call_stands : (call : Call) (l : OrbList) (start : Machine) (calls : List Call) → IsLaid l → AllBring l start (call ∷ calls) → Stands l (behind start calls) (tales start calls) → Stands l (step_of call (behind start calls)).1 (tales_of (step_of call (behind start calls)) (tales start calls))
call_stands Ring l start calls laid b s = record { progress = s.progress; along = ((keeps_along l).rings s.progress (behind start calls) s.along).along; ended = s.ended; outcome = s.outcome; turns = s.turns }
call_stands (Abort orb) l start calls laid b s = record { progress = s.progress; along = ((keeps_along l).aborts s.progress (behind start calls) orb s.along).along; ended = s.ended; outcome = s.outcome; turns = s.turns }
call_stands Reset l start calls laid b s = record { progress = s.progress; along = ((keeps_along l).resets s.progress (behind start calls)).along; ended = s.ended; outcome = s.outcome; turns = s.turns }
call_stands (Reply place plain told which answer) l start calls laid b s =
    let m : Machine = behind start calls in
    let p : Progress = s.progress in
    let h : Same p (heard_by which m answer p) = heard_same which m answer p in
    step_stands l (heard_by which m answer p) place plain _ _ (reply_step m place plain told which answer) (tales start calls)
    ((keeps_along l).replies p m place plain told which answer laid s.along (subst (λ (k : ℕ). Brings l k m which answer) (sym s.ended) b.0))
    (record { ended = h.ended ∙ s.ended; outcome = h.outcome ∙ s.outcome; turns = s.turns })
call_stands (Lose which cause) l start calls laid b s =
    let m : Machine = behind start calls in
    step_stands l s.progress 0 some_plain _ _ (lost_step m which cause) (tales start calls) ((keeps_along l).loses s.progress m 0 some_plain which cause s.along) (agrees l m (tales start calls) s)

rest_bring : (call : Call) (l : OrbList) (start : Machine) (calls : List Call) → AllBring l start (call ∷ calls) → AllBring l start calls
rest_bring (Reply place plain told which answer) l start calls b = b.1
rest_bring _ l start calls b = b

calls_stand : (calls : List Call) (l : OrbList) (start : Machine) → IsLaid l → Along l at_start start → AllBring l start calls → Stands l (behind start calls) (tales start calls)
calls_stand [] l start laid a b = record { progress = at_start; along = a; ended = refl; outcome = refl; turns = tt }
calls_stand (call ∷ calls) l start laid a b = call_stands call l start calls laid b (calls_stand calls l start laid a (rest_bring call l start calls b))

-- ---- in the order of the list
in_order : (ts : List Tale) (l : OrbList) → InTurn l ts → ended ts ≡ first_ones l (ends ts)
in_order [] l i = refl
in_order (Ran at orb segments payload outcome ∷ ts) l i = in_order ts l i.1
in_order (Ended at kind ∷ ts) l i = ap (λ (orbs : List ℕ). at ∷ orbs) (in_order ts l i.1) ∙ ap (λ (place : ℕ). place ∷ first_ones l (ends ts)) i.0.turn.place

begun : (l : OrbList) (m : Machine) (ask : Ask) (s : Result Ask PointRefusal × Machine) → s.0 ≡ Ok ask → PointerBrings l m s → Along l at_start s.1
begun l m ask (Ok other, now) e b = b.along
begun l m ask (Err refusal, now) e b = cc e

pub goes_along : (l : OrbList) → GoesAlongLaw l
goes_along l m pointer laid t calls b =
    let start : Machine = (point_step m pointer).1 in
    let a : Along l at_start start = begun l m t.ask (point_step m pointer) t.taken ((keeps_along l).points m pointer laid t.first t.linked) in
    let s : Stands l (behind start calls) (tales start calls) = calls_stand calls l start laid a b in
    record { turns = s.turns; order = in_order (tales start calls) l s.turns }
