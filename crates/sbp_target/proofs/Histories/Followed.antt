-- What the tellings of a step keep is kept by all that follows a step of an agent: it asks, and loses what finds no label. What unsolicited
-- statuses keep is kept where a disc is told. Nothing else is told there.
use Rattle.std.proofs.Common.{ℕ, Bool, List, [], ◌∷◌, ◌++◌}
use Rattle.login_table.specs.declared.login.Login.{Login}
use Rattle.orb_layout.specs.declared.ask.FailCause.{FailCause}
use Rattle.orb_layout.specs.declared.status.StatusKind.{StatusKind}
use Rattle.rbc_disk.specs.declared.command.Outcome.{Outcome}
use Rattle.command_agent.specs.declared.step.AgentStep.{AgentStep}
use Rattle.sbp_journal.specs.declared.side.Side.{Side}
use Rattle.sbp_journal.specs.declared.side.Side.TheVariants as sides
use Rattle.sbp_target.specs.Agents.{follow, noted}
use Rattle.sbp_target.specs.Nodes.{Scene}
use Rattle.sbp_target.specs.Replies.{announced_by}
use Rattle.sbp_target.specs.Telling.{orb_of}
use Rattle.sbp_target.specs.Histories.Moves.{Announced, Behind, Kind, Tells, announced, back, cleared, departed, died, ended, failed, held, lapsed, managed, opened, plain, ran, stay, unsent, was_cut}
use Rattle.sbp_target.proofs.Histories.Moved.{announced_moves, behind_moves, follow_moves}
use Rattle.sbp_target.proofs.Histories.Views.{Loses, announced_sides, behind_sides, kept, sides_kept}

-- what a step tells: a run, a death, an end
pub record TellsSteps (P : List Side → Type 0) : Type 0 where
  pub ran : (told : List Side) (place orb : ℕ) (cdb payload : List ℕ) (outcome : Outcome) → P told → P (told ++ sides.Ran place orb cdb payload outcome ∷ [])
  pub dead : (told : List Side) (place : ℕ) (cause : FailCause) → P told → P (told ++ sides.Dead place cause ∷ [])
  pub ended : (told : List Side) (place orb : ℕ) (status : StatusKind) → P told → P (told ++ sides.Ended place orb status ∷ [])

-- what a disc tells the other logins of its unit
pub record TellsDiscs (P : List Side → Type 0) : Type 0 where
  pub pushed : (told : List Side) (place : ℕ) → P told → P (told ++ sides.Unsolicited place ∷ [])
  pub unsent : (told : List Side) (place : ℕ) → P told → P (told ++ sides.Unsent place ∷ [])

-- only steps are told
abbrev stepping : Kind
stepping = record { Fits = λ step. Unit {0}; MayAsk = Unit {0}; MayCut = ⊥; MayAnnounce = ⊥; MayManage = ⊥; MayChange = ⊥; MayDecide = ⊥; MayAnswer = ⊥; MayTurn = ⊥ }

module _ (P : List Side → Type 0) where
  abbrev pub At : Scene → Type 0
  At s = P s.outbox.sides

  -- ---- what follows a step, where a transaction that is lost keeps it
  pub follows : Loses P → (place : ℕ) (login : Login) (step : AgentStep) (s : Scene) → At (noted place step s) → At (follow place login step s)
  follows keeps place login step s h =
      let t = noted place step s in kept (Behind place login) At (behind_sides P keeps place login) t _ (behind_moves (Behind place login) place login (λ x y m. m) t step s (stay t)) h

  -- ---- a step that tells what it may
  module _ (k : TellsSteps P) where
    step_tells : (told : List Side) (side : Side) → Tells stepping side → P told → P (told ++ side ∷ [])
    step_tells told _ (ran place m step outcome f e) h = k.ran told place (orb_of m) m.orb.cdb m.payload outcome h
    step_tells told _ (died place step cause f e) h = k.dead told place cause h
    step_tells told _ (ended place m step status f e) h = k.ended told place (orb_of m) status h
    step_tells told _ (plain _ (was_cut place cause never)) h = absurd never
    step_tells told _ (plain _ (opened place orb never)) h = absurd never
    step_tells told _ (plain _ (announced place never)) h = absurd never
    step_tells told _ (plain _ (unsent place never)) h = absurd never
    step_tells told _ (plain _ (failed source cause never)) h = absurd never
    step_tells told _ (plain _ (managed source function subject status login never)) h = absurd never
    step_tells told _ (plain _ (cleared unit never)) h = absurd never
    step_tells told _ (plain _ (back login never)) h = absurd never
    step_tells told _ (plain _ (departed login never)) h = absurd never
    step_tells told _ (plain _ (held login never)) h = absurd never
    step_tells told _ (plain _ (lapsed login never)) h = absurd never

    pub all_follows : (place : ℕ) (login : Login) (step : AgentStep) (s : Scene) → At s → At (follow place login step s)
    all_follows place login step s h = sides_kept stepping P step_tells s _ (follow_moves stepping s (λ m which cause. tt) tt place login step s tt (stay s)) h

  -- ---- unsolicited statuses
  module _ (k : TellsDiscs P) where
    pub announces_by : (b : Bool) (unit place : ℕ) (s : Scene) → At s → At (announced_by b unit place s)
    announces_by b unit place s h =
        kept (Announced unit place) At (announced_sides P k.pushed k.unsent unit place) s _ (announced_moves (Announced unit place) unit place (λ x y m. m) s b s (stay s)) h
