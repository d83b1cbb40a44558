-- What is told of the ends and the cuts of a place.
use Rattle.std.proofs.Common.{◌≡◌, refl, sym, ap, ◌∙◌, ℕ, ◌==◌, ◌&&◌, ◌||◌, is_some, Bool, true, false, List, [], ◌∷◌, ◌++◌, Option, Some, None}
use Rattle.std.specs.List.{list_any}
use Rattle.std.proofs.lemmas.List.Folds.{list_any-append}
use Rattle.orb_layout.specs.declared.ask.FailCause.{FailCause}
use Rattle.orb_layout.specs.declared.status.StatusKind.{StatusKind}
use Rattle.rbc_disk.specs.declared.command.Outcome.{Outcome}
use Rattle.command_agent.specs.declared.step.AgentStep.{AgentStep}
use Rattle.command_agent.specs.Machine.{Machine}
use Rattle.sbp_journal.specs.declared.side.Side.{Side}
use Rattle.sbp_journal.specs.Outgoings.{OutboxState}
use Rattle.sbp_target.specs.RequestsLeft.{is_end, is_cut_of}
use Rattle.sbp_target.specs.Sending.{with_side}
use Rattle.sbp_target.specs.Telling.{tell_dead, tell_ended, tell_ran, tell_step}

pub or_false : (b : Bool) → (b || false) ≡ b
or_false true = refl
or_false false = refl

pub or_left : (a b : Bool) → a ≡ true → (a || b) ≡ true
or_left true b e = refl
or_left false b e = cc e

pub or_right : (a b : Bool) → b ≡ true → (a || b) ≡ true
or_right true b e = refl
or_right false b e = e

-- a side more
pub any_more : (test : Side → Bool) (told : List Side) (side : Side) → list_any test (told ++ side ∷ []) ≡ (list_any test told || test side)
any_more test told side = list_any-append test told (side ∷ []) ∙ ap (λ b. list_any test told || b) (or_false (test side))

pub any_same : (test : Side → Bool) (told : List Side) (side : Side) → test side ≡ false → list_any test (told ++ side ∷ []) ≡ list_any test told
any_same test told side e = any_more test told side ∙ (ap (λ b. list_any test told || b) e ∙ or_false (list_any test told))

-- ---- a step of the agent of a place
ran_tells : (p place : ℕ) (m : Machine) (ran : Option Outcome) (o : OutboxState) → list_any (is_end p) (tell_ran place m ran o).sides ≡ list_any (is_end p) o.sides
ran_tells p place m None o = refl
ran_tells p place m (Some outcome) o = any_same (is_end p) o.sides _ refl

dead_tells : (p place : ℕ) (dead : Option FailCause) (o : OutboxState) → list_any (is_end p) (tell_dead place dead o).sides ≡ list_any (is_end p) o.sides
dead_tells p place None o = refl
dead_tells p place (Some cause) o = any_same (is_end p) o.sides _ refl

ended_tells : (p place : ℕ) (m : Machine) (ended : Option StatusKind) (o : OutboxState) → list_any (is_end p) (tell_ended place m ended o).sides ≡ (list_any (is_end p) o.sides || (is_some ended && (place == p)))
ended_tells p place m None o = sym (or_false (list_any (is_end p) o.sides))
ended_tells p place m (Some status) o = any_more (is_end p) o.sides _

-- its end is told
pub step_tells : (p place : ℕ) (m : Machine) (step : AgentStep) (o : OutboxState) → list_any (is_end p) (tell_step place m step o).sides ≡ (list_any (is_end p) o.sides || (is_some step.ended && (place == p)))
unfolding tell_step
step_tells p place m step o =
    let ran = tell_ran place m step.ran o in
    ended_tells p place m step.ended (tell_dead place step.dead ran)
    ∙ ap (λ b. b || (is_some step.ended && (place == p))) (dead_tells p place step.dead ran ∙ ran_tells p place m step.ran o)

-- ---- sides of which none is an end: each cut that was told stays told
pub record EndsNone (x y : OutboxState) : Type 0 where
  pub ended : (p : ℕ) → list_any (is_end p) y.sides ≡ list_any (is_end p) x.sides
  pub cut : (p : ℕ) → list_any (is_cut_of p) x.sides ≡ true → list_any (is_cut_of p) y.sides ≡ true

pub silent : (o : OutboxState) → EndsNone o o
silent o = record { ended = λ p. refl; cut = λ p e. e }

pub one_side : (o : OutboxState) (side : Side) → ((p : ℕ) → is_end p side ≡ false) → EndsNone o (with_side o side)
one_side o side h = record {
  ended = λ p. any_same (is_end p) o.sides side (h p);
  cut = λ p e. any_more (is_cut_of p) o.sides side ∙ or_left (list_any (is_cut_of p) o.sides) (is_cut_of p side) e;
}
