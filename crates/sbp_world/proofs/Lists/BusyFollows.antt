-- What follows a step of the agent of a place, which has an ORB that has not ended: it has it still, or an end of it is told; and nothing is told but of runs,
-- ends and deaths of that place, and of unsolicited statuses.
use Rattle.sbp_world.proofs.Words.Std.{◌≡◌, ◌∙◌, refl, sym, ap, subst, inl, inr, ◌⊎◌, ◌<◌, ◌≤◌, ℕ, ◌+◌, is_some, Bool, true, false, cond, List, [], ◌∷◌, ◌++◌, length, Option, Some, None, arith, length-set}
use Rattle.sbp_world.proofs.Words.Wire.{OutboxState, Side}
use Rattle.sbp_world.proofs.Words.Target.{Login, Outcome, AgentStep, Which, Machine, lost_step, Desk, follow, noted, lost_at, Scene, desk_at, scene, with_agent, with_side, orb_of, tell_dead, tell_ended, tell_ran, tell_step, announce_from}
use Rattle.sbp_world.proofs.Words.Initiator.{Ask, FailCause, StatusKind}
use Rattle.orb_layout.specs.declared.ask.FailCause.TheVariants as causes
use Rattle.sbp_journal.specs.declared.side.Side.TheVariants as sides
use Rattle.sbp_world.proofs.Lists.SameAgents.{AreSame, announce_alike, follow_alike, noted_same, set_here, set_there, noted_outbox}
use Rattle.sbp_world.proofs.Lists.Busy.{is_busy, lost_busy}
use Rattle.command_agent.specs.Steps as steps
use Rattle.sbp_world.proofs.Lists.Full.{IsClosed}
use Rattle.sbp_world.proofs.Lists.StepsUp.{IsUp, lost_up}

-- ---- what is told of the step of an agent
abbrev pub IsOf : ℕ → Side → Type 0
IsOf q (sides.Opened place orb) = place ≡ q
IsOf q (sides.Ran place orb cdb payload outcome) = place ≡ q
IsOf q (sides.Ended place orb status) = place ≡ q
IsOf q (sides.Dead place cause) = place ≡ q
IsOf q (sides.Unsolicited place) = Unit {0}
IsOf q (sides.Unsent place) = Unit {0}
IsOf q side = ⊥

abbrev pub AreOf : ℕ → List Side → Type 0
AreOf q [] = Unit {0}
AreOf q (side ∷ later) = IsOf q side × AreOf q later

-- an end among it
abbrev pub is_end : Side → Bool
is_end (sides.Ended place orb status) = true
is_end side = false

abbrev pub has_end : List Side → Bool
has_end [] = false
has_end (side ∷ later) = cond (is_end side) true (has_end later)

of_more : (q : ℕ) (told : List Side) (side : Side) → AreOf q told → IsOf q side → AreOf q (told ++ side ∷ [])
of_more q [] side a h = (h, tt)
of_more q (one ∷ later) side a h = (a.0, of_more q later side a.1 h)

end_by : (x y : Bool) → x ≡ true → cond y true x ≡ true
end_by x true e = refl
end_by x false e = e

ends_by : (x rest more : Bool) → (rest ≡ true → more ≡ true) → cond x true rest ≡ true → cond x true more ≡ true
ends_by true rest more f e = refl
ends_by false rest more f e = f e

ends_more : (told : List Side) (side : Side) → has_end told ≡ true → has_end (told ++ side ∷ []) ≡ true
ends_more [] side e = absurd (let no : false ≡ true = e in cc)
ends_more (one ∷ later) side e = ends_by (is_end one) (has_end later) (has_end (later ++ side ∷ [])) (λ f. ends_more later side f) e

ends_now : (told : List Side) (place orb : ℕ) (status : StatusKind) → has_end (told ++ sides.Ended place orb status ∷ []) ≡ true
ends_now [] place orb status = refl
ends_now (one ∷ later) place orb status = end_by (has_end (later ++ sides.Ended place orb status ∷ [])) (is_end one) (ends_now later place orb status)

-- of the agent of a place
-- and what is known as it begins
module _ (q : ℕ) (b : q < 8) (Known Given : Type 0) (F : ℕ → Machine → Type 0) (closed : IsClosed F) (machines : ℕ → Machine) where
  pub record Acts (s : Scene) : Type 0 where
    pub of : AreOf q s.outbox.sides
    pub desks : length s.node.desks ≡ 8
    pub same : (p : ℕ) → (p ≡ q → ⊥) → (desk_at s.node p).agent ≡ machines p
    pub busy : Known → (is_busy (desk_at s.node q).agent.phase ≡ true) ⊎ (has_end s.outbox.sides ≡ true)
    pub full : Given → F q (machines q) → F q (desk_at s.node q).agent
    pub up : IsUp (machines q) → IsUp (desk_at s.node q).agent

  alike_busy : (s t : Scene) → AreSame s.node t.node → t.outbox.sides ≡ s.outbox.sides → (is_busy (desk_at s.node q).agent.phase ≡ true) ⊎ (has_end s.outbox.sides ≡ true) → (is_busy (desk_at t.node q).agent.phase ≡ true) ⊎ (has_end t.outbox.sides ≡ true)
  alike_busy s t a e (inl h) = inl (ap (λ (m : Machine). is_busy m.phase) (a.agents q) ∙ h)
  alike_busy s t a e (inr h) = inr (ap has_end e ∙ h)

  pub alike : (s t : Scene) → AreSame s.node t.node → t.outbox.sides ≡ s.outbox.sides → Acts s → Acts t
  alike s t a e m = record { of = subst (AreOf q) (sym e) m.of; desks = a.desks ∙ m.desks; same = λ p f. a.agents p ∙ m.same p f; busy = λ known. alike_busy s t a e (m.busy known); full = λ g f. subst (λ x. F q x) (sym (a.agents q)) (m.full g f); up = λ h. subst (λ (x : Machine). IsUp x) (sym (a.agents q)) (m.up h) }

  -- ---- a step is told
  ran_of : (x : Option Outcome) (m : Machine) (o : OutboxState) → AreOf q o.sides → AreOf q (tell_ran q m x o).sides
  ran_of None m o a = a
  ran_of (Some outcome) m o a = of_more q o.sides (sides.Ran q (orb_of m) m.orb.cdb m.payload outcome) a refl

  dead_of : (x : Option FailCause) (o : OutboxState) → AreOf q o.sides → AreOf q (tell_dead q x o).sides
  dead_of None o a = a
  dead_of (Some cause) o a = of_more q o.sides (sides.Dead q cause) a refl

  ended_of : (x : Option StatusKind) (m : Machine) (o : OutboxState) → AreOf q o.sides → AreOf q (tell_ended q m x o).sides
  ended_of None m o a = a
  ended_of (Some status) m o a = of_more q o.sides (sides.Ended q (orb_of m) status) a refl

  step_of : (step : AgentStep) (m : Machine) (o : OutboxState) → AreOf q o.sides → AreOf q (tell_step q m step o).sides
  unfolding tell_step
  step_of step m o a = ended_of step.ended m (tell_dead q step.dead (tell_ran q m step.ran o)) (dead_of step.dead (tell_ran q m step.ran o) (ran_of step.ran m o a))

  ran_ends : (x : Option Outcome) (m : Machine) (o : OutboxState) → has_end o.sides ≡ true → has_end (tell_ran q m x o).sides ≡ true
  ran_ends None m o a = a
  ran_ends (Some outcome) m o a = ends_more o.sides (sides.Ran q (orb_of m) m.orb.cdb m.payload outcome) a

  dead_ends : (x : Option FailCause) (o : OutboxState) → has_end o.sides ≡ true → has_end (tell_dead q x o).sides ≡ true
  dead_ends None o a = a
  dead_ends (Some cause) o a = ends_more o.sides (sides.Dead q cause) a

  ended_ends : (x : Option StatusKind) (m : Machine) (o : OutboxState) → has_end o.sides ≡ true → has_end (tell_ended q m x o).sides ≡ true
  ended_ends None m o a = a
  ended_ends (Some status) m o a = ends_more o.sides (sides.Ended q (orb_of m) status) a

  step_keeps : (step : AgentStep) (m : Machine) (o : OutboxState) → has_end o.sides ≡ true → has_end (tell_step q m step o).sides ≡ true
  unfolding tell_step
  step_keeps step m o a = ended_ends step.ended m (tell_dead q step.dead (tell_ran q m step.ran o)) (dead_ends step.dead (tell_ran q m step.ran o) (ran_ends step.ran m o a))

  ended_tells : (x : Option StatusKind) (m : Machine) (o : OutboxState) → is_some x ≡ true → has_end (tell_ended q m x o).sides ≡ true
  ended_tells None m o e = absurd (let no : false ≡ true = e in cc)
  ended_tells (Some status) m o e = ends_now o.sides q (orb_of m) status

  step_ends : (step : AgentStep) (m : Machine) (o : OutboxState) → is_some step.ended ≡ true → has_end (tell_step q m step o).sides ≡ true
  unfolding tell_step
  step_ends step m o e = ended_tells step.ended m (tell_dead q step.dead (tell_ran q m step.ran o)) e

  -- a step that is not told yet: the agent has the ORB still, or it ends now or ended before
  pub record Steps (step : AgentStep) (s : Scene) : Type 0 where
    pub of : AreOf q s.outbox.sides
    pub desks : length s.node.desks ≡ 8
    pub same : (p : ℕ) → (p ≡ q → ⊥) → (desk_at s.node p).agent ≡ machines p
    pub busy : Known → ((is_busy (desk_at s.node q).agent.phase ≡ true) ⊎ (is_some step.ended ≡ true)) ⊎ (has_end s.outbox.sides ≡ true)
    pub full : Given → F q (machines q) → F q (desk_at s.node q).agent
    pub up : IsUp (machines q) → IsUp (desk_at s.node q).agent

  pub noted_acts : (step : AgentStep) (s : Scene) → Steps step s → Acts (noted q step s)
  noted_acts step s m =
      let a = noted_same q b step s m.desks in
      let e : (noted q step s).outbox.sides ≡ (tell_step q (desk_at s.node q).agent step s.outbox).sides = ap (λ (o : OutboxState). o.sides) (noted_outbox q step s) in
      record { of = subst (AreOf q) (sym e) (step_of step (desk_at s.node q).agent s.outbox m.of); desks = a.desks ∙ m.desks; same = λ p f. a.agents p ∙ m.same p f; busy = λ known. by (m.busy known); full = λ g f. subst (λ x. F q x) (sym (a.agents q)) (m.full g f); up = λ h. subst (λ (x : Machine). IsUp x) (sym (a.agents q)) (m.up h) }
    where
      by : ((is_busy (desk_at s.node q).agent.phase ≡ true) ⊎ (is_some step.ended ≡ true)) ⊎ (has_end s.outbox.sides ≡ true) → (is_busy (desk_at (noted q step s).node q).agent.phase ≡ true) ⊎ (has_end (noted q step s).outbox.sides ≡ true)
      by (inl (inl h)) = inl (ap (λ (m : Machine). is_busy m.phase) ((noted_same q b step s m.desks).agents q) ∙ h)
      by (inl (inr h)) = inr (ap (λ (o : OutboxState). has_end o.sides) (noted_outbox q step s) ∙ step_ends step (desk_at s.node q).agent s.outbox h)
      by (inr h) = inr (ap (λ (o : OutboxState). has_end o.sides) (noted_outbox q step s) ∙ step_keeps step (desk_at s.node q).agent s.outbox h)

  -- ---- a transaction that finds no label
  lost_steps : (s : Scene) (which : Which) → Acts s → (let l = lost_step (desk_at s.node q).agent which causes.Label in Steps l.0 (scene (with_agent s.node q l.1) s.outbox))
  lost_steps s which m =
      let l = lost_step (desk_at s.node q).agent which causes.Label in
      let d = record (desk_at s.node q) { agent = l.1 } in
      record { of = m.of; desks = length-set s.node.desks q d ∙ m.desks; same = λ p f. ap (λ (x : Desk). x.agent) (set_there s.node q p d (let e = m.desks in omega (arith, e)) f) ∙ m.same p f; busy = λ known. by (m.busy known); full = λ g h. subst (λ x. F q x) (sym is_set) (closed.lost q (desk_at s.node q).agent which causes.Label (m.full g h)); up = λ h. subst (λ (x : Machine). IsUp x) (sym is_set) (lost_up (desk_at s.node q).agent which causes.Label (m.up h)) }
    where
      l : AgentStep × Machine
      l = lost_step (desk_at s.node q).agent which causes.Label

      d : Desk
      d = record (desk_at s.node q) { agent = l.1 }

      is_set : (desk_at (with_agent s.node q l.1) q).agent ≡ l.1
      is_set = ap (λ (x : Desk). x.agent) (set_here s.node q d (let e = m.desks in omega (arith, e)))

      done : (is_busy l.1.phase ≡ true) ⊎ (is_some l.0.ended ≡ true) → (is_busy (desk_at (with_agent s.node q l.1) q).agent.phase ≡ true) ⊎ (is_some l.0.ended ≡ true)
      done (inl h) = inl (ap (λ (x : Machine). is_busy x.phase) is_set ∙ h)
      done (inr h) = inr h

      by : (is_busy (desk_at s.node q).agent.phase ≡ true) ⊎ (has_end s.outbox.sides ≡ true) → ((is_busy (desk_at (with_agent s.node q l.1) q).agent.phase ≡ true) ⊎ (is_some l.0.ended ≡ true)) ⊎ (has_end s.outbox.sides ≡ true)
      by (inl h) = inl (done (lost_busy (desk_at s.node q).agent which causes.Label h))
      by (inr h) = inr h

  lost_acts : (which : Which) (s : Scene) → Acts s → Acts (lost_at q which s)
  lost_acts which s m =
      let l = lost_step (desk_at s.node q).agent which causes.Label in noted_acts l.0 (scene (with_agent s.node q l.1) s.outbox) (lost_steps s which m)

  -- ---- what follows a step
  pub follow_acts : (login : Login) (step : AgentStep) (s : Scene) → Steps step s → Acts (follow q login step s)
  follow_acts login step s m = follow_alike Acts (λ s m. m.desks) alike q b login lost_acts step s (noted_acts step s m)

  -- a step that tells nothing
  pub asks_acts : (login : Login) (ask : Ask) (s : Scene) → Acts s → Acts (follow q login (steps.asks ask) s)
  asks_acts login ask s m = follow_acts login (steps.asks ask) s (record { of = m.of; desks = m.desks; same = m.same; busy = λ known. by (m.busy known); full = m.full; up = m.up })
    where
      by : (is_busy (desk_at s.node q).agent.phase ≡ true) ⊎ (has_end s.outbox.sides ≡ true) → ((is_busy (desk_at s.node q).agent.phase ≡ true) ⊎ (false ≡ true)) ⊎ (has_end s.outbox.sides ≡ true)
      by (inl h) = inl (inl h)
      by (inr h) = inr h

  -- ---- other logins hear of a disc
  heard_acts : (place : ℕ) (x : Bool) (s : Scene) → Acts s → Acts (scene s.node (with_side s.outbox (cond x (sides.Unsolicited place) (sides.Unsent place))))
  heard_acts place x s m = record { of = of_more q s.outbox.sides (heard x) m.of (heard_of x); desks = m.desks; same = m.same; busy = λ known. by (m.busy known); full = m.full; up = m.up }
    where
      heard : Bool → Side
      heard x = cond x (sides.Unsolicited place) (sides.Unsent place)

      heard_of : (x : Bool) → IsOf q (heard x)
      heard_of true = tt
      heard_of false = tt

      by : (is_busy (desk_at s.node q).agent.phase ≡ true) ⊎ (has_end s.outbox.sides ≡ true) → (is_busy (desk_at s.node q).agent.phase ≡ true) ⊎ (has_end (s.outbox.sides ++ heard x ∷ []) ≡ true)
      by (inl h) = inl h
      by (inr h) = inr (ends_more s.outbox.sides (heard x) h)

  pub announce_from_acts : (left place unit from : ℕ) → left + place ≤ 8 → (s : Scene) → Acts s → Acts (announce_from left place unit from s)
  announce_from_acts left place unit from c s m = announce_alike Acts (λ s m. m.desks) alike heard_acts left place unit from c s m
