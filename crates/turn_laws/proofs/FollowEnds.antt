-- The deaths and ends that an agent's step brings about, as the target follows it: those of the step, and, where its first request finds no label, those of the loss.
use Rattle.std.proofs.Common.{◌≡◌, ◌∙◌, refl, sym, ap, subst, ℕ, ◌<◌, nat_lt, is_some, Bool, true, false, cond, List, [], ◌∷◌, ◌++◌, append-nil, append_assoc, Option, Some, None}
use Rattle.std.specs.List.{filter}
use Rattle.std.proofs.lemmas.List.Elements.{filter-append}
use Rattle.label_table.specs.declared.judgement.Asked.{Asked}
use Rattle.label_table.specs.Bodies.{Body}
use Rattle.label_table.specs.Layer.{Layer, asking_step, free_labels}
use Rattle.login_table.specs.declared.login.Login.{Login}
use Rattle.orb_layout.specs.declared.ask.FailCause.{FailCause}
use Rattle.orb_layout.specs.declared.ask.FailCause.TheVariants as causes
use Rattle.orb_layout.specs.declared.status.StatusKind.{StatusKind}
use Rattle.rbc_disk.specs.declared.command.Outcome.{Outcome}
use Rattle.command_agent.specs.declared.phase.Phase.{Phase}
use Rattle.command_agent.specs.declared.phase.Phase.TheVariants as phases
use Rattle.command_agent.specs.declared.step.AgentStep.{AgentStep}
use Rattle.command_agent.specs.declared.step.Which.{Which}
use Rattle.command_agent.specs.declared.step.Which.TheVariants.{Ahead, Main}
use Rattle.command_agent.specs.Machine.{Machine, is_ahead, is_under_way}
use Rattle.command_agent.specs.Steps.{ahead_lost, lost_step, main_lost, quiet}
use Rattle.sbp_journal.specs.declared.side.Side.{Side}
use Rattle.sbp_journal.specs.declared.side.Side.TheVariants as sides
use Rattle.sbp_journal.specs.Outgoings.{OutboxState}
use Rattle.sbp_target.specs.declared.purpose.Purpose.{Purpose}
use Rattle.sbp_target.specs.declared.purpose.Purpose.TheVariants as purposes
use Rattle.sbp_target.specs.Agents.{after_ahead, after_loss, after_main, agent_body, ahead_asked, ahead_sent, ask_main, follow, lose, lose_main, lost_by, main_asked, main_sent, noted, send_ahead}
use Rattle.sbp_target.specs.Nodes.{NodeState, Scene, desk_at, scene, with_agent}
use Rattle.sbp_target.specs.Sending.{request_step, sent_by}
use Rattle.sbp_target.specs.Telling.{orb_of, tell_dead, tell_ended, tell_ran, tell_step}
use Rattle.sbp_world.proofs.Agents.Walk.{Holds, holds_set, holds_still, notes_hold}
use Rattle.sbp_laws.specs.Targets.{new_agent}

-- ---- deaths and ends
abbrev pub is_end : Side → Bool
is_end (sides.Ended place orb status) = true
is_end (sides.Dead place cause) = true
is_end side = false

abbrev pub ends_in : List Side → List Side
ends_in told = filter is_end told

abbrev pub dead_side : ℕ → Option FailCause → List Side
dead_side q None = []
dead_side q (Some cause) = sides.Dead q cause ∷ []

abbrev pub ended_side : ℕ → Machine → Option StatusKind → List Side
ended_side q m None = []
ended_side q m (Some kind) = sides.Ended q (orb_of m) kind ∷ []

abbrev pub step_ends : ℕ → Machine → AgentStep → List Side
step_ends q m step = dead_side q step.dead ++ ended_side q m step.ended

-- a main transaction finds no label
abbrev pub no_label : Machine → AgentStep × Machine
no_label m = lost_step m Main causes.Label

-- by whether the first request finds a label
abbrev pub told_by : Bool → ℕ → AgentStep → Machine → List Side
told_by true q step m = step_ends q m step
told_by false q step m = step_ends q m step ++ step_ends q (no_label m).1 (no_label m).0

module _ (q : ℕ) (b : q < 8) (before : NodeState) where
  abbrev Ends : Scene → List Side
  Ends s = ends_in s.outbox.sides

  abbrev H : Machine → Scene → Type 0
  H m s = Holds q before m s.node

  -- ---- what is told
  one_more : (told : List Side) (side : Side) → is_end side ≡ true → ends_in (told ++ side ∷ []) ≡ ends_in told ++ side ∷ []
  one_more told side e = filter-append is_end told (side ∷ []) ∙ ap (λ x. ends_in told ++ cond x (side ∷ []) []) e

  none_more : (told : List Side) (side : Side) → is_end side ≡ false → ends_in (told ++ side ∷ []) ≡ ends_in told
  none_more told side e = filter-append is_end told (side ∷ []) ∙ ap (λ x. ends_in told ++ cond x (side ∷ []) []) e ∙ append-nil (ends_in told)

  ran_ends : (m : Machine) (x : Option Outcome) (o : OutboxState) → ends_in (tell_ran q m x o).sides ≡ ends_in o.sides
  ran_ends m None o = refl
  ran_ends m (Some outcome) o = none_more o.sides (sides.Ran q (orb_of m) m.orb.cdb m.payload outcome) refl

  dead_ends : (x : Option FailCause) (o : OutboxState) → ends_in (tell_dead q x o).sides ≡ ends_in o.sides ++ dead_side q x
  dead_ends None o = sym (append-nil (ends_in o.sides))
  dead_ends (Some cause) o = one_more o.sides (sides.Dead q cause) refl

  ended_ends : (m : Machine) (x : Option StatusKind) (o : OutboxState) → ends_in (tell_ended q m x o).sides ≡ ends_in o.sides ++ ended_side q m x
  ended_ends m None o = sym (append-nil (ends_in o.sides))
  ended_ends m (Some kind) o = one_more o.sides (sides.Ended q (orb_of m) kind) refl

  noted_ends : (m : Machine) (step : AgentStep) (s : Scene) → H m s → Ends (noted q step s) ≡ Ends s ++ step_ends q m step
  unfolding noted tell_step
  noted_ends m step s h =
      let own = (desk_at s.node q).agent in
      let x = tell_ran q own step.ran s.outbox in
      let y = tell_dead q step.dead x in
      ended_ends own step.ended y ∙ ap (λ ns. ns ++ ended_side q own step.ended) (dead_ends step.dead x ∙ ap (λ ns. ns ++ dead_side q step.dead) (ran_ends own step.ran s.outbox))
      ∙ append_assoc (Ends s) (dead_side q step.dead) (ended_side q own step.ended) ∙ ap (λ n. Ends s ++ step_ends q n step) h.agent

  -- ---- what is asked for tells nothing, and leaves the agent
  pub record Same (m : Machine) (s t : Scene) : Type 0 where
    pub ends : Ends t ≡ Ends s
    pub holds : H m t

  main_by : (m : Machine) (login : Login) (s : Scene) (r : Option Asked × Layer Purpose) → H m s → Same m s (main_sent q login.node s.node (sent_by r s.outbox login.node)).1
  main_by m login s (Some asked, layer) h =
      let t = main_sent q login.node s.node (sent_by (Some asked, layer) s.outbox login.node) in
      record { ends = refl; holds = holds_set q before m m s.node t.1.node _ b h refl h.agent refl refl }
  main_by m login s (None, layer) h = record { ends = refl; holds = holds_still q before m s.node (record s.node { layer = layer }) h refl }

  main_body : (m : Machine) (body : Option Body) (login : Login) (s : Scene) → H m s → Same m s (main_asked body q login s).1
  unfolding request_step
  main_body m None login s h = record { ends = refl; holds = h }
  main_body m (Some body) login s h = main_by m login s (asking_step s.node.layer login.node body (purposes.Agent q)) h

  main_same : (m : Machine) (login : Login) (step : AgentStep) (s : Scene) → H m s → Same m s (ask_main q login step s).1
  unfolding ask_main
  main_same m login step s h = main_body m (agent_body step.ask (is_some step.ended) login.fifo (desk_at s.node q).agent.outgoing) login s h

  ahead_by : (m : Machine) (login : Login) (s : Scene) (r : Option Asked × Layer Purpose) → H m s → Same m s (ahead_sent q login.node s.node (sent_by r s.outbox login.node)).1
  ahead_by m login s (Some asked, layer) h =
      let t = ahead_sent q login.node s.node (sent_by (Some asked, layer) s.outbox login.node) in
      record { ends = refl; holds = holds_set q before m m s.node t.1.node _ b h refl h.agent refl refl }
  ahead_by m login s (None, layer) h = record { ends = refl; holds = holds_still q before m s.node (record s.node { layer = layer }) h refl }

  ahead_if : (x : Bool) (m : Machine) (body : Body) (login : Login) (s : Scene) → H m s → Same m s (cond x (false, s) (ahead_sent q login.node s.node (request_step s.node.layer s.outbox login.node body (purposes.Agent q)))).1
  unfolding request_step
  ahead_if true m body login s h = record { ends = refl; holds = h }
  ahead_if false m body login s h = ahead_by m login s (asking_step s.node.layer login.node body (purposes.Agent q)) h

  ahead_body : (m : Machine) (body : Option Body) (login : Login) (s : Scene) → H m s → Same m s (ahead_asked body q login s).1
  ahead_body m None login s h = record { ends = refl; holds = h }
  ahead_body m (Some body) login s h = ahead_if (nat_lt (free_labels s.node.layer login.node) 16) m body login s h

  -- ---- a loss
  -- behind it the agent is this, and so much more was told
  pub record Lost (n : Machine) (more : List Side) (s t : Scene) : Type 0 where
    pub ends : Ends t ≡ Ends s ++ more
    pub holds : H n t

  abbrev LostBy : (which : Which) (m : Machine) (s t : Scene) → Type 0
  LostBy which m s t = let l = lost_step m which causes.Label in Lost l.1 (step_ends q l.1 l.0) s t

  loses : (m : Machine) (login : Login) (which : Which) (s : Scene) → H m s → LostBy which m s (lost_by true q login which s).1
  loses m login which s h =
      let l = lost_step (desk_at s.node q).agent which causes.Label in
      let t = scene (with_agent s.node q l.1) s.outbox in
      let set : H l.1 t = holds_set q before m l.1 s.node t.node (record (desk_at s.node q) { agent = l.1 }) b h refl refl refl refl in
      let u = noted q l.0 t in
      let asked = main_same l.1 login l.0 u (notes_hold [] q b before new_agent l.1 l.0 t set) in
      subst (λ (n : Machine). LostBy which n s (ask_main q login l.0 u).1) h.agent (record { ends = asked.ends ∙ noted_ends l.1 l.0 t set; holds = asked.holds })

  -- nothing is told of it
  silent_loss : (x : Bool) (which : Which) (m : Machine) (login : Login) (s : Scene) → H m s → (let l = lost_step m which causes.Label in step_ends q l.1 l.0 ≡ []) → Ends (lost_by x q login which s).1 ≡ Ends s
  silent_loss false which m login s h e = refl
  silent_loss true which m login s h e = (loses m login which s h).ends ∙ ap (λ ns. Ends s ++ ns) e ∙ append-nil (Ends s)

  -- of the read ahead
  ahead_silent : (m : Machine) → (let l = lost_step m Ahead causes.Label in step_ends q l.1 l.0 ≡ [])
  unfolding lost_step
  ahead_silent m = by (is_ahead m.ahead)
    where
      by : (x : Bool) → (let l = cond x (ahead_lost m causes.Label) (quiet, m) in step_ends q l.1 l.0 ≡ [])
      by true = refl
      by false = refl

  -- of a second main transaction
  abbrev Silent : Phase → Machine → Type 0
  Silent phase m = let n = (main_lost phase m causes.Label).1 in (let l = main_lost n.phase n causes.Label in step_ends q l.1 l.0 ≡ [])

  second_by : (phase : Phase) (m : Machine) → m.phase ≡ phase → Silent phase m
  second_by phases.Reset m e = ap (λ p. let l = main_lost p m causes.Label in step_ends q l.1 l.0) e
  second_by phases.Fetching m e = refl
  second_by phases.ReadingTable m e = refl
  second_by (phases.ReadingData wanted) m e = refl
  second_by phases.Answering m e = refl
  second_by phases.WritingStatus m e = refl
  second_by phases.ReadingNext m e = refl
  second_by phases.WritingLastStatus m e = refl
  second_by phases.Suspended m e = ap (λ p. let l = main_lost p m causes.Label in step_ends q l.1 l.0) e
  second_by phases.Dead m e = ap (λ p. let l = main_lost p m causes.Label in step_ends q l.1 l.0) e

  second_silent : (m : Machine) → (let l = no_label (no_label m).1 in step_ends q l.1 l.0 ≡ [])
  unfolding lost_step
  second_silent m = second_by m.phase m refl

  behind_ahead : (m : Machine) (login : Login) (s : Scene) (r : Bool × Scene) → Same m s r.1 → Ends (after_ahead q login r) ≡ Ends s
  unfolding lose
  behind_ahead m login s (true, t) h = h.ends
  behind_ahead m login s (false, t) h = silent_loss (is_under_way Ahead (desk_at t.node q).agent) Ahead m login t h.holds (ahead_silent m) ∙ h.ends

  ahead_ends : (m : Machine) (login : Login) (step : AgentStep) (s : Scene) → H m s → Ends (after_ahead q login (send_ahead q login step.ahead s)) ≡ Ends s
  unfolding send_ahead
  ahead_ends m login step s h =
      behind_ahead m login s (send_ahead q login step.ahead s) (ahead_body m (agent_body step.ahead false login.fifo (desk_at s.node q).agent.outgoing) login s h)

  -- the loss of the main transaction, and of the status write behind it
  behind_loss : (m : Machine) (login : Login) (r : Bool × Scene) → H (no_label m).1 r.1 → Ends (after_loss q login r) ≡ Ends r.1
  unfolding lose
  behind_loss m login (true, t) h = refl
  behind_loss m login (false, t) h = silent_loss (is_under_way Main (desk_at t.node q).agent) Main (no_label m).1 login t h (second_silent m)

  loss_ends : (m : Machine) (login : Login) (s : Scene) → H m s → is_under_way Main m ≡ true → Ends (lose_main q login s) ≡ Ends s ++ step_ends q (no_label m).1 (no_label m).0
  unfolding lose_main lose
  loss_ends m login s h e =
      let x = loses m login Main s h in
      ap (λ y. Ends (after_loss q login (lost_by y q login Main s))) (ap (is_under_way Main) h.agent ∙ e) ∙ behind_loss m login (lost_by true q login Main s) x.holds ∙ x.ends

  -- ---- a step, and what follows it
  abbrev more : Bool → Machine → List Side
  more true m = []
  more false m = step_ends q (no_label m).1 (no_label m).0

  behind_main : (m : Machine) (login : Login) (step : AgentStep) (s : Scene) (r : Bool × Scene) → Same m s r.1 → (r.0 ≡ false → is_under_way Main m ≡ true) → Ends (after_main q login step r) ≡ Ends s ++ more r.0 m
  behind_main m login step s (true, t) h f = ahead_ends m login step t h.holds ∙ h.ends ∙ sym (append-nil (Ends s))
  behind_main m login step s (false, t) h f = loss_ends m login t h.holds (f refl) ∙ ap (λ ns. ns ++ more false m) h.ends

  told_more : (x : Bool) (step : AgentStep) (m : Machine) → step_ends q m step ++ more x m ≡ told_by x q step m
  told_more true step m = append-nil (step_ends q m step)
  told_more false step m = refl

  pub follow_ends : (m : Machine) (login : Login) (step : AgentStep) (s : Scene) → Holds q before m s.node → (let asked = ask_main q login step (noted q step s) in (asked.0 ≡ false → is_under_way Main m ≡ true) → ends_in (follow q login step s).outbox.sides ≡ ends_in s.outbox.sides ++ told_by asked.0 q step m)
  unfolding follow
  follow_ends m login step s h f =
      let t = noted q step s in
      let r = ask_main q login step t in
      let there = notes_hold [] q b before new_agent m step s h in
      behind_main m login step t r (main_same m login step t there) f ∙ ap (λ ns. ns ++ more r.0 m) (noted_ends m step s h)
      ∙ append_assoc (Ends s) (step_ends q m step) (more r.0 m) ∙ ap (λ ns. Ends s ++ ns) (told_more r.0 step m)
