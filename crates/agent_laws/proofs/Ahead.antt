-- Behind the checks of an ORB nothing is read ahead, and the ORB is there.
use Rattle.std.proofs.Common.{◌≡◌, refl, ◌==◌, Bool, true, false, cond, Option, Some, None, ℕ}
use Rattle.orb_layout.specs.declared.ask.FailCause.{FailCause}
use Rattle.orb_layout.specs.declared.status.StatusKind.{StatusKind}
use Rattle.orb_layout.specs.declared.status.StatusKind.TheVariants as kinds
use Rattle.rbc_disk.specs.declared.command.Need.{Need}
use Rattle.rbc_disk.specs.declared.command.Need.TheVariants as needs
use Rattle.rbc_disk.specs.declared.command.Outcome.{Outcome}
use Rattle.rbc_disk.specs.declared.command.Outcome.TheVariants as outcomes
use Rattle.rbc_disk.specs.Units.{PlainDisk}
use Rattle.rbc_disk.specs.Runs.{need_of, Told}
use Rattle.command_agent.specs.declared.phase.Phase.{Phase}
use Rattle.command_agent.specs.declared.phase.Phase.TheVariants as phases
use Rattle.command_agent.specs.declared.step.AgentStep.{AgentStep}
use Rattle.command_agent.specs.Machine.{Machine, is_ahead, plan_of}
use Rattle.command_agent.specs.Checks.{verdict, death_by, reads_table}
use Rattle.command_agent.specs.Steps.{end_step, answer_step, ran_as, judged, checked, check_step, unread_buffer}

abbrev pub is_fetching : Phase → Bool
is_fetching phases.Fetching = true
is_fetching _ = false

pub record Calm (m : Machine) : Type 0 where
  pub idle : is_ahead m.ahead ≡ false
  pub past : is_fetching m.phase ≡ false

calm_if : (b : Bool) (x y : AgentStep × Machine) → Calm x.1 → Calm y.1 → Calm (cond b x y).1
calm_if true x y p q = p
calm_if false x y p q = q

calm_end : (dead : Option FailCause) (kind : StatusKind) (m : Machine) → is_ahead m.ahead ≡ false → Calm (end_step m kind dead).1
calm_end None kind m idle = record { idle = idle; past = refl }
calm_end (Some cause) kind m idle = record { idle = refl; past = refl }

calm_ran : (outcome : Outcome) (m : Machine) → is_ahead m.ahead ≡ false → Calm (ran_as m outcome).1
calm_ran (outcomes.Good len) m idle = calm_if (len == 0) (end_step m kinds.Good None) (answer_step m) (calm_end None kinds.Good m idle) (record { idle = idle; past = refl })
calm_ran (outcomes.Check sense) m idle = calm_end None (kinds.Check sense) m idle

calm_judged : (need : Need) (m : Machine) (told : Told) → is_ahead m.ahead ≡ false → Calm (judged m told need).1
calm_judged needs.RunNow m told idle = calm_ran told.outcome (record m { answer = told.answer; written = 0 }) idle
calm_judged (needs.Payload len) m told idle = record { idle = idle; past = refl }

calm_checked : (verdict : Option StatusKind) (m : Machine) (place : ℕ) (plain : PlainDisk) (told : Told) → is_ahead m.ahead ≡ false → Calm (checked m place plain told verdict).1
calm_checked (Some kind) m place plain told idle = calm_end (death_by kind) kind m idle
calm_checked None m place plain told idle =
    calm_if (reads_table m.orb) _ _ (record { idle = idle; past = refl })
    (calm_judged (need_of m.orb.cdb (plan_of (record m { segments = unread_buffer m.orb })) plain place) (record m { segments = unread_buffer m.orb }) told idle)

pub calm : (m : Machine) (place : ℕ) (plain : PlainDisk) (told : Told) → is_ahead m.ahead ≡ false → Calm (check_step m place plain told).1
calm m place plain told idle = calm_checked (verdict m.orb m.aborted) m place plain told idle
