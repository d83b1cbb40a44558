-- A failed transaction runs no command.
use Rattle.std.proofs.Common.{◌≡◌, refl, ap, ◌∙◌, ℕ, Bool, true, false, cond, List, Some, None, Result}
use Rattle.orb_layout.specs.declared.ask.FailCause.{FailCause}
use Rattle.orb_layout.specs.declared.ask.FailCause.TheVariants as causes
use Rattle.orb_layout.specs.Replies.{Answer, Payload, Done, Refused, Expired, NoLabel}
use Rattle.rbc_disk.specs.Units.{PlainDisk}
use Rattle.rbc_disk.specs.Runs.{Told}
use Rattle.command_agent.specs.declared.phase.Phase.{Phase}
use Rattle.command_agent.specs.declared.phase.Phase.TheVariants as phases
use Rattle.command_agent.specs.declared.step.AgentStep.{AgentStep}
use Rattle.command_agent.specs.declared.step.Which.TheVariants.{Main, Ahead}
use Rattle.command_agent.specs.Machine.{Machine, is_ahead, is_under_way}
use Rattle.command_agent.specs.Steps.{quiet, told_or, served, next_read, advanced, main_lost, ahead_lost, reply_step, lost_step}
use Rattle.command_agent.specs.Lost.{LostLaw, LossesRunNothing, TwoLossesEndIt, RereadsEndNothing}

abbrev replied_main : Phase → Machine → ℕ → PlainDisk → Told → Answer → AgentStep × Machine
replied_main phase m place plain told answer = served place plain told (advanced phase m answer).0 (advanced phase m answer).1

refused_main : (phase : Phase) (m : Machine) (place : ℕ) (plain : PlainDisk) (told : Told) (rcode : ℕ) → replied_main phase m place plain told (Refused rcode) ≡ main_lost phase m causes.Refused
refused_main phases.Fetching m place plain told rcode = refl
refused_main _ m place plain told rcode = refl

expired_main : (phase : Phase) (m : Machine) (place : ℕ) (plain : PlainDisk) (told : Told) → replied_main phase m place plain told Expired ≡ main_lost phase m causes.Timeout
expired_main phases.Fetching m place plain told = refl
expired_main _ m place plain told = refl

unsent_main : (phase : Phase) (m : Machine) (place : ℕ) (plain : PlainDisk) (told : Told) → replied_main phase m place plain told NoLabel ≡ main_lost phase m causes.Label
unsent_main phases.Fetching m place plain told = refl
unsent_main _ m place plain told = refl

lost_by : {A : Type 0} (P : FailCause → A) (own cause : FailCause) → Some own ≡ Some cause → P own ≡ P cause
lost_by P own cause e = let same : own ≡ cause = cc in ap P same

pub reply_lost : LostLaw
unfolding reply_step lost_step
reply_lost m place plain told Main (Refused rcode) cause e = refused_main m.phase m place plain (told_or told) rcode ∙ lost_by (λ why. main_lost m.phase m why) causes.Refused cause e
reply_lost m place plain told Main Expired cause e = expired_main m.phase m place plain (told_or told) ∙ lost_by (λ why. main_lost m.phase m why) causes.Timeout cause e
reply_lost m place plain told Main NoLabel cause e = unsent_main m.phase m place plain (told_or told) ∙ lost_by (λ why. main_lost m.phase m why) causes.Label cause e
reply_lost m place plain told Ahead (Refused rcode) cause e = lost_by (λ why. cond (is_ahead m.ahead) (ahead_lost m why) (quiet, m)) causes.Refused cause e
reply_lost m place plain told Ahead Expired cause e = lost_by (λ why. cond (is_ahead m.ahead) (ahead_lost m why) (quiet, m)) causes.Timeout cause e
reply_lost m place plain told Ahead NoLabel cause e = lost_by (λ why. cond (is_ahead m.ahead) (ahead_lost m why) (quiet, m)) causes.Label cause e
reply_lost m place plain told which (Payload bytes) cause e = cc e
reply_lost m place plain told which Done cause e = cc e

silent_main : (phase : Phase) (m : Machine) (cause : FailCause) → (main_lost phase m cause).0.ran ≡ None
silent_main phases.Fetching m cause = refl
silent_main _ m cause = refl

silent_if : (b : Bool) (m : Machine) (cause : FailCause) → (cond b (ahead_lost m cause) (quiet, m)).0.ran ≡ None
silent_if true m cause = refl
silent_if false m cause = refl

pub losses_silent : LossesRunNothing
unfolding lost_step
losses_silent m Main cause = silent_main m.phase m cause
losses_silent m Ahead cause = silent_if (is_ahead m.ahead) m cause

abbrev lost_twice : Phase → Machine → FailCause → FailCause → Machine
lost_twice phase m first second =
    (main_lost (main_lost phase (record m { phase = phase }) first).1.phase (main_lost phase (record m { phase = phase }) first).1 second).1

ended_main : (phase : Phase) (m : Machine) (first second : FailCause) → is_under_way Main (lost_twice phase m first second) ≡ false
ended_main phases.Fetching m first second = refl
ended_main _ m first second = refl

pub two_losses : TwoLossesEndIt
unfolding lost_step
two_losses m first second = ended_main m.phase m first second

-- a failing read of a next pointer
pub rereads_end_nothing : RereadsEndNothing
unfolding reply_step
rereads_end_nothing m place plain told answer cause e =
    ap (λ (r : Result (List ℕ) FailCause). (served place plain (told_or told) (next_read (record m { phase = phases.ReadingNext }) r).0 (next_read (record m { phase = phases.ReadingNext }) r).1).0) e
