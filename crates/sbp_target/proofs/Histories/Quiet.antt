-- What is kept by telling of a run, an end, a death, a decision or a failed operation is kept by all that follows a step
-- of an agent, and by what a management operation asks.
use Rattle.std.proofs.Common.{◌≡◌, refl, ℕ, false, List, [], ◌∷◌, ◌++◌, Option, Some, None}
use Rattle.login_table.specs.declared.login.Login.{Login}
use Rattle.orb_layout.specs.declared.ask.Ask.{Ask}
use Rattle.orb_layout.specs.declared.ask.FailCause.{FailCause}
use Rattle.command_agent.specs.declared.step.AgentStep.{AgentStep}
use Rattle.sbp_journal.specs.declared.side.Side.{Side}
use Rattle.sbp_journal.specs.declared.side.Side.TheVariants as sides
use Rattle.sbp_journal.specs.Outgoings.{OutboxState}
use Rattle.sbp_target.specs.Nodes.{Scene}
use Rattle.sbp_target.specs.Agents.{follow}
use Rattle.sbp_target.specs.Management.{tell_failed, ask_manager}
use Rattle.sbp_target.specs.Histories.Sides.{is_change}
use Rattle.sbp_target.specs.Histories.Moves.{Kind, announced, back, cleared, departed, died, ended, failed, held, lapsed, managed, opened, plain, ran, stay, unsent, was_cut}
use Rattle.sbp_target.specs.Histories.Moves as moves
use Rattle.sbp_target.proofs.Histories.Moved.{ask_manager_moves, follow_moves}
use Rattle.sbp_target.proofs.Histories.Views.{sides_kept}

pub record Tells (P : List Side → Type 0) : Type 0 where
  pub tells : (told : List Side) (side : Side) → is_change side ≡ false → P told → P (told ++ side ∷ [])

abbrev pub In : (List Side → Type 0) → Scene → Type 0
In P s = P s.outbox.sides

-- steps and a failed operation are told
abbrev quiet : Kind
quiet = record { Fits = λ step. Unit {0}; MayAsk = Unit {0}; MayCut = ⊥; MayAnnounce = ⊥; MayManage = Unit {0}; MayChange = ⊥; MayDecide = ⊥; MayAnswer = ⊥; MayTurn = ⊥ }

module _ (P : List Side → Type 0) (k : Tells P) where
  quiet_tells : (told : List Side) (side : Side) → moves.Tells quiet side → P told → P (told ++ side ∷ [])
  quiet_tells told _ (ran place m step outcome f e) h = k.tells told _ refl h
  quiet_tells told _ (died place step cause f e) h = k.tells told _ refl h
  quiet_tells told _ (ended place m step status f e) h = k.tells told _ refl h
  quiet_tells told _ (plain _ (was_cut place cause never)) h = absurd never
  quiet_tells told _ (plain _ (opened place orb never)) h = absurd never
  quiet_tells told _ (plain _ (announced place never)) h = absurd never
  quiet_tells told _ (plain _ (unsent place never)) h = absurd never
  quiet_tells told _ (plain _ (failed source cause t)) h = k.tells told _ refl h
  quiet_tells told _ (plain _ (managed source function subject status login never)) h = absurd never
  quiet_tells told _ (plain _ (cleared unit never)) h = absurd never
  quiet_tells told _ (plain _ (back login never)) h = absurd never
  quiet_tells told _ (plain _ (departed login never)) h = absurd never
  quiet_tells told _ (plain _ (held login never)) h = absurd never
  quiet_tells told _ (plain _ (lapsed login never)) h = absurd never

  pub follows_in : (place : ℕ) (login : Login) (step : AgentStep) (s : Scene) → In P s → In P (follow place login step s)
  follows_in place login step s h = sides_kept quiet P quiet_tells s _ (follow_moves quiet s (λ m which cause. tt) tt place login step s tt (stay s)) h

  pub failed_in : (source : ℕ) (x : Option FailCause) (o : OutboxState) → P o.sides → P (tell_failed source x o).sides
  failed_in source None o h = h
  failed_in source (Some cause) o h = k.tells o.sides (sides.ManageFailed source cause) refl h

  pub asks_manager_in : (source : ℕ) (ask : Ask) (s : Scene) → In P s → In P (ask_manager source ask s)
  asks_manager_in source ask s h = sides_kept quiet P quiet_tells s _ (ask_manager_moves quiet s tt tt source ask s (stay s)) h
