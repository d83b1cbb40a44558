-- What does not hang on what a run told: whether a command runs at a reply, and which one.
use Rattle.std.proofs.Common.{◌≡◌, ◌∙◌, ℕ, Bool, true, false, ◌==◌, ◌*◌, if◌then◌else◌, List, Option, Some, None, is_some, refl, sym}
use Rattle.orb_layout.specs.declared.ask.Ask.TheVariants.{Read}
use Rattle.orb_layout.specs.declared.ask.FailCause.{FailCause}
use Rattle.orb_layout.specs.declared.pointer.OrbPointer.{OrbPointer}
use Rattle.orb_layout.specs.declared.pointer.OrbPointer.TheVariants.{Null, At}
use Rattle.orb_layout.specs.declared.status.StatusKind.{StatusKind}
use Rattle.orb_layout.specs.declared.status.StatusKind.TheVariants as kinds
use Rattle.orb_layout.specs.Replies.{Answer}
use Rattle.rbc_disk.specs.declared.command.BufferPlan.{BufferPlan}
use Rattle.rbc_disk.specs.declared.command.Need.{Need}
use Rattle.rbc_disk.specs.declared.command.Need.TheVariants as needs
use Rattle.rbc_disk.specs.declared.command.Outcome.{Outcome}
use Rattle.rbc_disk.specs.declared.command.Outcome.TheVariants as outcomes
use Rattle.rbc_disk.specs.Units.{PlainDisk}
use Rattle.rbc_disk.specs.Runs.{Told, need_of}
use Rattle.command_agent.specs.Checks.{verdict, reads_table}
use Rattle.command_agent.specs.Machine.{Machine, plan_of}
use Rattle.command_agent.specs.Steps.{advanced, ahead_of, answer_step, asks, check_step, checked, end_step, judge_step, judged, passed_step, ran_as, replied, reply_step, run_step, served, told_or, unread_buffer, with_ahead, with_outcome}
use Rattle.command_agent.specs.declared.phase.Phase.TheVariants as phases
use Rattle.command_agent.specs.declared.step.AgentStep.{AgentStep}
use Rattle.command_agent.specs.declared.step.Move.{Move}
use Rattle.command_agent.specs.declared.step.Move.TheVariants as moves
use Rattle.command_agent.specs.declared.step.Which.{Which}
use Rattle.command_agent.specs.declared.step.Which.TheVariants.{Main, Ahead}

-- whether a command runs, and what of the agent its run and its checks read
pub record View : Type 0 where
  pub runs : Bool
  pub present : ℕ
  pub cdb : List ℕ
  pub payload : List ℕ
  pub plan : BufferPlan

abbrev pub view_of : Bool → Machine → View
view_of runs m = record { runs = runs; present = m.present; cdb = m.orb.cdb; payload = m.payload; plan = plan_of m }

abbrev pub view : AgentStep × Machine → View
view s = view_of (is_some s.0.ran) s.1

ran_view : (m : Machine) (outcome : Outcome) → view (with_outcome outcome (ran_as m outcome)) ≡ view_of true m
ran_view m (outcomes.Check sense) = refl
ran_view m (outcomes.Good len) = by_length (len == 0)
  where
    by_length : (b : Bool) → view (with_outcome (outcomes.Good len) (if b then end_step m kinds.Good None else answer_step m)) ≡ view_of true m
    by_length true = refl
    by_length false = refl

run_view : (m : Machine) (told : Told) → view (run_step m told) ≡ view_of true m
run_view m told = ran_view (record m { answer = told.answer; written = 0 }) told.outcome

judged_view : (m : Machine) (told other : Told) (need : Need) → view (judged m told need) ≡ view (judged m other need)
judged_view m told other needs.RunNow = run_view m told ∙ sym (run_view m other)
judged_view m told other (needs.Payload len) = refl

judge_view : (m : Machine) (place : ℕ) (plain : PlainDisk) (told other : Told) → view (judge_step m place plain told) ≡ view (judge_step m place plain other)
judge_view m place plain told other = judged_view m told other (need_of m.orb.cdb (plan_of m) plain place)

passed_view : (m : Machine) (place : ℕ) (plain : PlainDisk) (told other : Told) → view (passed_step m place plain told) ≡ view (passed_step m place plain other)
passed_view m place plain told other = by_table (reads_table m.orb)
  where
    table : AgentStep × Machine
    table = (asks (Read m.orb.descriptor (8 * m.orb.data_size)), record m { phase = phases.ReadingTable })

    by_table : (b : Bool) → view (if b then table else judge_step (record m { segments = unread_buffer m.orb }) place plain told)
        ≡ view (if b then table else judge_step (record m { segments = unread_buffer m.orb }) place plain other)
    by_table true = refl
    by_table false = judge_view (record m { segments = unread_buffer m.orb }) place plain told other

checked_view : (m : Machine) (place : ℕ) (plain : PlainDisk) (told other : Told) (kind : Option StatusKind) → view (checked m place plain told kind) ≡ view (checked m place plain other kind)
checked_view m place plain told other (Some kind) = refl
checked_view m place plain told other None = passed_view m place plain told other

ahead_view : (dead : Option FailCause) (next : OrbPointer) (s : AgentStep × Machine) → view (ahead_of dead next s) ≡ view s
ahead_view None (At next) s = refl
ahead_view None Null s = refl
ahead_view (Some cause) next s = refl

with_ahead_view : (s : AgentStep × Machine) → view (with_ahead s) ≡ view s
with_ahead_view s = ahead_view s.0.dead s.1.orb.next s

served_view : (place : ℕ) (plain : PlainDisk) (told other : Told) (move : Move) (m : Machine) → view (served place plain told move m) ≡ view (served place plain other move m)
served_view place plain told other (moves.Send step) m = refl
served_view place plain told other moves.Check m =
    with_ahead_view (check_step m place plain told) ∙ checked_view m place plain told other (verdict m.orb m.aborted) ∙ sym (with_ahead_view (check_step m place plain other))
served_view place plain told other moves.Judge m = judge_view m place plain told other
served_view place plain told other moves.Run m = run_view m told ∙ sym (run_view m other)

replied_view : (m : Machine) (place : ℕ) (plain : PlainDisk) (told other : Told) (which : Which) (answer : Answer) → view (replied m place plain told which answer) ≡ view (replied m place plain other which answer)
replied_view m place plain told other Main answer = served_view place plain told other (advanced m.phase m answer).0 (advanced m.phase m answer).1
replied_view m place plain told other Ahead answer = refl

-- Whether a command runs at a reply, and which one, does not hang on what a run told.
pub reply_view : (m : Machine) (place : ℕ) (plain : PlainDisk) (told other : Option Told) (which : Which) (answer : Answer) → view (reply_step m place plain told which answer) ≡ view (reply_step m place plain other which answer)
unfolding reply_step
reply_view m place plain told other which answer = replied_view m place plain (told_or told) (told_or other) which answer
