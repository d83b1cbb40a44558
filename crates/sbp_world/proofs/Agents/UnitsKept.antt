-- What the target tells and what it leaves of its units, as it follows a step of an agent, cuts lists, announces a disc and serves a request: its units
-- and its logins stay as they are, and what it tells is of no unit.
use Rattle.sbp_world.proofs.Words.Std.{◌≡◌, ◌∙◌, refl, sym, ℕ, zero, suc, ◌+◌, Bool, true, false, cond, List, [], ◌∷◌, ◌++◌, Option, Some, None, slice_index_or, none-some}
use Rattle.sbp_world.proofs.Words.Wire.{LabelParts, Packet, header_in, Layer, answering_step, CutCause, Side, OutboxState}
use Rattle.sbp_world.proofs.Words.Target.{Login, Table, is_live, place_at, Outcome, UnitState, Phase, AgentStep, Which, Ahead, Main, Machine, is_ahead, state_in, ahead_lost, is_reset, lost, lost_step, main_lost, quiet, Purpose, cut, told_cut, follow, noted, Kind, MayAct, Moves, Tells, announced, back, cleared, departed, died, ended, failed, go_on, lapsed, managed, opened, plain, ran, serving, stay, unsent, was_cut, ask_manager, cut_placed, tell_failed, Scene, desk_at, scene, expire_agent, expired_from, held_from, tell_held, announced_by, answer_step, answered_by, with_side, answered, served_step, orb_of, tell_dead, tell_ended, tell_ran, tell_step, cut_all}
use Rattle.sbp_world.proofs.Words.Initiator.{Ask, FailCause, StatusKind}
use Rattle.command_agent.specs.declared.phase.Phase.TheVariants as phases
use Rattle.sbp_journal.specs.declared.side.Side.TheVariants as sides
use Rattle.sbp_target.specs.Histories.Moves.{Move, held}
use Rattle.sbp_target.specs.Histories.Moves as moves
use Rattle.sbp_target.proofs.Histories.Moved.{announced_moves, ask_manager_moves, behind_moves, expire_agent_moves, request_moves}
use Rattle.sbp_target.proofs.Histories.Views.{cuts_keep, node_left, placed_keep, sides_kept}
use Rattle.sbp_world.proofs.Agents.UnitsTold.{Spares}

-- a step that is told; what follows one that ran no command; and all that leaves units and logins
abbrev noting : Kind
noting = record { Fits = λ step. Unit {0}; MayAsk = ⊥; MayCut = ⊥; MayAnnounce = ⊥; MayManage = ⊥; MayChange = ⊥; MayDecide = ⊥; MayAnswer = ⊥; MayTurn = ⊥ }

abbrev following : Kind
following = record { Fits = λ step. step.ran ≡ None; MayAsk = Unit {0}; MayCut = ⊥; MayAnnounce = ⊥; MayManage = ⊥; MayChange = ⊥; MayDecide = ⊥; MayAnswer = ⊥; MayTurn = ⊥ }

abbrev quiet_serving : Kind
quiet_serving = serving (λ step. step.ran ≡ None)

-- a transaction that fails runs no command
loss_runs : (phase : Phase) (m : Machine) (cause : FailCause) → (main_lost phase m cause).0.ran ≡ None
loss_runs phases.Reset m cause = refl
loss_runs phases.Fetching m cause = refl
loss_runs phases.ReadingTable m cause = refl
loss_runs (phases.ReadingData wanted) m cause = refl
loss_runs phases.Answering m cause = refl
loss_runs phases.WritingStatus m cause = refl
loss_runs phases.ReadingNext m cause = refl
loss_runs phases.WritingLastStatus m cause = refl
loss_runs phases.Suspended m cause = refl
loss_runs phases.Dead m cause = refl

pub runs_if : (b : Bool) (x y : AgentStep × Machine) → x.0.ran ≡ None → y.0.ran ≡ None → (cond b x y).0.ran ≡ None
runs_if true x y h i = h
runs_if false x y h i = i

loss_by : (m : Machine) (which : Which) (cause : FailCause) → (lost m which cause).0.ran ≡ None
loss_by m Main cause = loss_runs m.phase m cause
loss_by m Ahead cause = runs_if (is_ahead m.ahead) (ahead_lost m cause) (quiet, m) refl refl

pub lost_runs : (m : Machine) (which : Which) (cause : FailCause) → (lost_step m which cause).0.ran ≡ None
unfolding lost_step
lost_runs m which cause = loss_by m which cause

ran_none : (x : Option Outcome) (outcome : Outcome) → x ≡ None → x ≡ Some outcome → ⊥
ran_none x outcome e f = none-some outcome (sym e ∙ f)

may : MayAct quiet_serving
may = record { lost = lost_runs; asking = tt; cutting = tt }

-- what is kept by telling what is of no unit; or by telling that a list is cut
pub record Keeps (P : List Side → Type 0) : Type 0 where
  pub tells : (told : List Side) (side : Side) → Spares side → P told → P (told ++ side ∷ [])

pub record KeepsCuts (P : List Side → Type 0) : Type 0 where
  pub tells : (told : List Side) (place : ℕ) (cause : CutCause) → P told → P (told ++ sides.Cut place cause ∷ [])

-- or that an agent is dead, or an ORB ended
pub record KeepsSteps (P : List Side → Type 0) : Type 0 where
  pub dead : (told : List Side) (place : ℕ) (cause : FailCause) → P told → P (told ++ sides.Dead place cause ∷ [])
  pub ended : (told : List Side) (place orb : ℕ) (status : StatusKind) → P told → P (told ++ sides.Ended place orb status ∷ [])

pub keeps_cuts : (P : List Side → Type 0) → Keeps P → KeepsCuts P
keeps_cuts P k = record { tells = λ told place cause h. k.tells told (sides.Cut place cause) tt h }

pub keeps_steps : (P : List Side → Type 0) → Keeps P → KeepsSteps P
keeps_steps P k = record {
  dead = λ told place cause h. k.tells told (sides.Dead place cause) tt h;
  ended = λ told place orb status h. k.tells told (sides.Ended place orb status) tt h;
}

-- of what was told this holds, and the units and the logins are these
pub record In (P : List Side → Type 0) (units : List UnitState) (table : Table) (s : Scene) : Type 0 where
  pub told : P s.outbox.sides
  pub units_are : s.node.units ≡ units
  pub logins : s.node.logins ≡ table

module _ (P : List Side → Type 0) (units : List UnitState) (table : Table) where
  -- what leaves units and logins, and tells what is kept
  by_moves : (k : Kind) → (k.MayChange → ⊥) → (k.MayDecide → ⊥) → ((told : List Side) (side : Side) → Tells k side → P told → P (told ++ side ∷ [])) → (x y : Scene) → Moves k x y → In P units table x → In P units table y
  by_moves k still same f x y m h =
      let n = node_left k x y m in
      record { told = sides_kept k P f x y m h.told; units_are = n.units_are still ∙ h.units_are; logins = n.logins same ∙ h.logins }

  -- ---- lists are cut
  module _ (k : KeepsCuts P) where
    cut_tells : (b : Bool) (place : ℕ) (cause : CutCause) (o : OutboxState) → P o.sides → P (told_cut b place cause o).sides
    cut_tells true place cause o h = h
    cut_tells false place cause o h = k.tells o.sides place cause h

    cuts_one : (cause : CutCause) (place : ℕ) (s : Scene) → In P units table s → In P units table (cut cause place s)
    unfolding cut
    cuts_one cause place s h =
        record { told = cut_tells (is_reset (state_in (desk_at s.node place).agent.phase)) place cause s.outbox h.told; units_are = h.units_are; logins = h.logins }

    pub cuts_all : (cause : CutCause) (unit : Option ℕ) (s : Scene) → In P units table s → In P units table (cut_all cause unit s)
    cuts_all cause unit s h = cuts_keep (In P units table) cuts_one cause unit s h

    pub cuts_placed : (place : Option ℕ) (cause : CutCause) (s : Scene) → In P units table s → In P units table (cut_placed place cause s)
    cuts_placed place cause s h = placed_keep (In P units table) cuts_one place cause s h

  -- ---- an answer tells nothing
  answers_by : (r : List ℕ × Layer Purpose) (o : OutboxState) (source : ℕ) → P o.sides → P (answered_by r o source).1.sides
  answers_by (bytes, layer) o source h = h

  pub answers : (request : Packet) (bytes : List ℕ) (rcode : ℕ) (given : List ℕ) (s : Scene) → In P units table s → In P units table (answered request bytes rcode given s)
  unfolding answer_step
  answers request bytes rcode given s h = record {
    told = answers_by (answering_step s.node.layer request bytes rcode given) s.outbox (header_in request).source h.told;
    units_are = h.units_are;
    logins = h.logins;
  }

  module _ (k : KeepsSteps P) where
    -- ---- what is told of a step
    dead_tells : (place : ℕ) (x : Option FailCause) (o : OutboxState) → P o.sides → P (tell_dead place x o).sides
    dead_tells place None o h = h
    dead_tells place (Some cause) o h = k.dead o.sides place cause h

    ended_tells : (place : ℕ) (m : Machine) (x : Option StatusKind) (o : OutboxState) → P o.sides → P (tell_ended place m x o).sides
    ended_tells place m None o h = h
    ended_tells place m (Some status) o h = k.ended o.sides place (orb_of m) status h

    step_tells : (place : ℕ) (m : Machine) (step : AgentStep) (o : OutboxState) → P (tell_ran place m step.ran o).sides → P (tell_step place m step o).sides
    unfolding tell_step
    step_tells place m step o h =
        let a = tell_ran place m step.ran o in
        ended_tells place m step.ended (tell_dead place step.dead a) (dead_tells place step.dead a h)

    -- a step, with what is told of a run
    pub notes_tell : (place : ℕ) (step : AgentStep) (s : Scene) → P (tell_ran place (desk_at s.node place).agent step.ran s.outbox).sides → s.node.units ≡ units → s.node.logins ≡ table → In P units table (noted place step s)
    unfolding noted
    notes_tell place step s h e f =
        let n = node_left noting s (noted place step s) (go_on s s _ (stay s) (moves.notes place step s tt)) in
        record {
          told = step_tells place (desk_at s.node place).agent step s.outbox h;
          units_are = n.units_are (λ never. never) ∙ e;
          logins = n.logins (λ never. never) ∙ f;
        }

    -- ---- what follows a step of an agent
    step_kept : (told : List Side) (side : Side) → Tells following side → P told → P (told ++ side ∷ [])
    step_kept told _ (ran place m step outcome f e) h = absurd (ran_none step.ran outcome f e)
    step_kept told _ (died place step cause f e) h = k.dead told place cause h
    step_kept told _ (ended place m step status f e) h = k.ended told place (orb_of m) status h
    step_kept told _ (plain _ (was_cut place cause c)) h = absurd c
    step_kept told _ (plain _ (opened place orb t)) h = absurd t
    step_kept told _ (plain _ (announced place t)) h = absurd t
    step_kept told _ (plain _ (unsent place t)) h = absurd t
    step_kept told _ (plain _ (failed source cause t)) h = absurd t
    step_kept told _ (plain _ (managed source function subject status login a)) h = absurd a
    step_kept told _ (plain _ (cleared unit a)) h = absurd a
    step_kept told _ (plain _ (back login a)) h = absurd a
    step_kept told _ (plain _ (departed login a)) h = absurd a
    step_kept told _ (plain _ (held login a)) h = absurd a
    step_kept told _ (plain _ (lapsed login a)) h = absurd a

    -- what was noted is followed
    pub follows : (place : ℕ) (login : Login) (step : AgentStep) (s : Scene) → In P units table (noted place step s) → In P units table (follow place login step s)
    follows place login step s h =
        let t = noted place step s in
        by_moves following (λ never. never) (λ never. never) step_kept t _ (behind_moves (Move following) place login (λ x y m. moves.follows place login x y lost_runs tt m) t step s (stay t)) h

  module _ (k : Keeps P) where
    pub tells : (side : Side) (s : Scene) → Spares side → In P units table s → In P units table (scene s.node (with_side s.outbox side))
    tells side s f h = record { told = k.tells s.outbox.sides side f h.told; units_are = h.units_are; logins = h.logins }

    serve_tells : (told : List Side) (side : Side) → Tells quiet_serving side → P told → P (told ++ side ∷ [])
    serve_tells told _ (ran place m step outcome f e) h = absurd (ran_none step.ran outcome f e)
    serve_tells told _ (died place step cause f e) h = k.tells told (sides.Dead place cause) tt h
    serve_tells told _ (ended place m step status f e) h = k.tells told (sides.Ended place (orb_of m) status) tt h
    serve_tells told _ (plain _ (was_cut place cause c)) h = k.tells told (sides.Cut place cause) tt h
    serve_tells told _ (plain _ (opened place orb t)) h = k.tells told (sides.Opened place orb) tt h
    serve_tells told _ (plain _ (announced place t)) h = k.tells told (sides.Unsolicited place) tt h
    serve_tells told _ (plain _ (unsent place t)) h = k.tells told (sides.Unsent place) tt h
    serve_tells told _ (plain _ (failed source cause t)) h = k.tells told (sides.ManageFailed source cause) tt h
    serve_tells told _ (plain _ (managed source function subject status login a)) h = absurd a
    serve_tells told _ (plain _ (cleared unit a)) h = absurd a
    serve_tells told _ (plain _ (back login a)) h = absurd a
    serve_tells told _ (plain _ (departed login a)) h = absurd a
    serve_tells told _ (plain _ (held login a)) h = absurd a
    serve_tells told _ (plain _ (lapsed login a)) h = absurd a

    serves : (x y : Scene) → Moves quiet_serving x y → In P units table x → In P units table y
    serves x y m h = by_moves quiet_serving (λ never. never) (λ never. never) serve_tells x y m h

    -- ---- unsolicited statuses, requests of the operation, requests that are served, time-outs
    pub announces_by : (b : Bool) (unit place : ℕ) (s : Scene) → In P units table s → In P units table (announced_by b unit place s)
    announces_by b unit place s h = serves s _ (announced_moves (Move quiet_serving) unit place (λ x y m. moves.announces unit place x y tt tt m) s b s (stay s)) h

    pub asks_manager : (source : ℕ) (ask : Ask) (s : Scene) → In P units table s → In P units table (ask_manager source ask s)
    asks_manager source ask s h = serves s _ (ask_manager_moves quiet_serving s tt tt source ask s (stay s)) h

    pub request_tells : (request : Packet) (bytes : List ℕ) (s : Scene) → In P units table s → In P units table (served_step request bytes s).1
    request_tells request bytes s h = serves s _ (request_moves quiet_serving s may (λ ask. refl) tt request bytes tt s (stay s)) h

    pub expires_agent : (place peer : ℕ) (label : LabelParts) (s : Scene) → In P units table s → In P units table (expire_agent place peer label s)
    expires_agent place peer label s h = serves s _ (expire_agent_moves quiet_serving s lost_runs tt place peer label s (stay s)) h

    -- ---- what is told of a failed operation, of a reset and of seconds
    pub failed_tells : (source : ℕ) (x : Option FailCause) (o : OutboxState) → P o.sides → P (tell_failed source x o).sides
    failed_tells source None o h = h
    failed_tells source (Some cause) o h = k.tells o.sides (sides.ManageFailed source cause) tt h

    held_if : (b : Bool) (login : Login) (o : OutboxState) → P o.sides → P (cond b (with_side o (sides.Held login.login)) o).sides
    held_if true login o h = k.tells o.sides (sides.Held login.login) tt h
    held_if false login o h = h

    held_tells : (login : Option Login) (o : OutboxState) → P o.sides → P (tell_held login o).sides
    held_tells None o h = h
    held_tells (Some login) o h = held_if (is_live login) login o h

    pub holds_tell : (left place : ℕ) (places : List (Option Login)) (o : OutboxState) → P o.sides → P (held_from left place places o).sides
    unfolding held_from
    holds_tell zero place places o h = h
    holds_tell (suc left) place places o h = holds_tell left (place + 1) places (tell_held (place_at places place) o) (held_tells (place_at places place) o h)

    pub seconds_tell : (left at : ℕ) (logins : List ℕ) (o : OutboxState) → P o.sides → P (expired_from left at logins o).sides
    unfolding expired_from
    seconds_tell zero at logins o h = h
    seconds_tell (suc left) at logins o h =
        let login = slice_index_or logins at 0 in
        seconds_tell left (at + 1) logins (with_side o (sides.Expired login)) (k.tells o.sides (sides.Expired login) tt h)
