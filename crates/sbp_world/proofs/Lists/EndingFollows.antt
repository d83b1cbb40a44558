-- What follows a step of the agent of a place: one end at most is told in a call of the target, of this place, and it leaves the agent writing its status block, or dead.
use Rattle.std.proofs.Common.{◌≡◌, ◌∙◌, refl, sym, ap, subst, ◌<◌, ◌≤◌, ℕ, ◌+◌, Bool, true, false, cond, List, [], ◌∷◌, ◌++◌, length, Option, Some, None, arith}
use Rattle.std.proofs.lemmas.List.{append-nil}
use Rattle.std.proofs.Math.ListN.{length-set}
use Rattle.login_table.specs.declared.login.Login.{Login}
use Rattle.orb_layout.specs.declared.ask.Ask.{Ask}
use Rattle.orb_layout.specs.declared.ask.FailCause.{FailCause}
use Rattle.orb_layout.specs.declared.ask.FailCause.TheVariants as causes
use Rattle.orb_layout.specs.declared.status.StatusKind.{StatusKind}
use Rattle.rbc_disk.specs.declared.command.Outcome.{Outcome}
use Rattle.command_agent.specs.declared.step.AgentStep.{AgentStep}
use Rattle.command_agent.specs.declared.step.Which.{Which}
use Rattle.command_agent.specs.Machine.{Machine}
use Rattle.command_agent.specs.Steps as steps
use Rattle.command_agent.specs.Steps.{lost_step}
use Rattle.sbp_journal.specs.Outgoings.{OutboxState}
use Rattle.sbp_journal.specs.declared.side.Side.{Side}
use Rattle.sbp_journal.specs.declared.side.Side.TheVariants as sides
use Rattle.sbp_target.specs.declared.desk.Desk.{Desk}
use Rattle.sbp_target.specs.Agents.{follow, noted}
use Rattle.sbp_target.specs.Histories.Moves.{lost_at}
use Rattle.sbp_target.specs.Nodes.{Scene, desk_at, scene, with_agent}
use Rattle.sbp_target.specs.Sending.{with_side}
use Rattle.sbp_target.specs.Telling.{orb_of, tell_dead, tell_ended, tell_ran, tell_step}
use Rattle.sbp_target.specs.Units.{announce_from}
use Rattle.sbp_world.proofs.Lists.BusyFollows.{AreOf, IsOf}
use Rattle.sbp_world.proofs.Lists.EndingSteps.{AreEnding, is_last, listed, lost_ending, lost_rests, no_more}
use Rattle.sbp_world.proofs.Lists.SameAgents.{AreSame, announce_alike, follow_alike, noted_same, set_here, set_there, noted_outbox}

-- ---- the ends that are told
abbrev pub one_ending : Side → List StatusKind
one_ending (sides.Ended place orb status) = status ∷ []
one_ending side = []

abbrev pub ends_in : List Side → List StatusKind
ends_in [] = []
ends_in (side ∷ later) = one_ending side ++ ends_in later

joined : (a b c : List StatusKind) → (a ++ b) ++ c ≡ a ++ (b ++ c)
joined [] b c = refl
joined (m ∷ a) b c = ap (λ ms. m ∷ ms) (joined a b c)

ends_more : (told : List Side) (side : Side) → ends_in (told ++ side ∷ []) ≡ ends_in told ++ one_ending side
ends_more [] side = append-nil (one_ending side)
ends_more (one ∷ later) side = ap (λ xs. one_ending one ++ xs) (ends_more later side) ∙ sym (joined (one_ending one) (ends_in later) (one_ending side))

of_more : (q : ℕ) (told : List Side) (side : Side) → AreOf q told → IsOf q side → AreOf q (told ++ side ∷ [])
of_more q [] side a h = (h, tt)
of_more q (one ∷ later) side a h = (a.0, of_more q later side a.1 h)

-- ---- of the agent of a place
module _ (q : ℕ) (b : q < 8) (machines : ℕ → Machine) (Was : Type 0) where
  abbrev A : Scene → Machine
  A s = (desk_at s.node q).agent

  pub record Acts (s : Scene) : Type 0 where
    pub of : AreOf q s.outbox.sides
    pub desks : length s.node.desks ≡ 8
    pub same : (p : ℕ) → (p ≡ q → ⊥) → (desk_at s.node p).agent ≡ machines p
    pub ends : AreEnding Was (ends_in s.outbox.sides) (desk_at s.node q).agent.phase
    pub was : is_last (desk_at s.node q).agent.phase ≡ false → Was

  pub alike : (s t : Scene) → AreSame s.node t.node → t.outbox.sides ≡ s.outbox.sides → Acts s → Acts t
  alike s t a e m = record {
    of = subst (AreOf q) (sym e) m.of;
    desks = a.desks ∙ m.desks;
    same = λ p f. a.agents p ∙ m.same p f;
    ends = subst (λ xs. AreEnding Was (ends_in xs) (A t).phase) (sym e) (subst (λ (x : Machine). AreEnding Was (ends_in s.outbox.sides) x.phase) (sym (a.agents q)) m.ends);
    was = λ f. m.was (ap (λ (x : Machine). is_last x.phase) (sym (a.agents q)) ∙ f);
  }

  -- ---- a step is told
  ran_of : (x : Option Outcome) (m : Machine) (o : OutboxState) → AreOf q o.sides → AreOf q (tell_ran q m x o).sides
  ran_of None m o a = a
  ran_of (Some outcome) m o a = of_more q o.sides (sides.Ran q (orb_of m) m.orb.cdb m.payload outcome) a refl

  dead_of : (x : Option FailCause) (o : OutboxState) → AreOf q o.sides → AreOf q (tell_dead q x o).sides
  dead_of None o a = a
  dead_of (Some cause) o a = of_more q o.sides (sides.Dead q cause) a refl

  ended_of : (x : Option StatusKind) (m : Machine) (o : OutboxState) → AreOf q o.sides → AreOf q (tell_ended q m x o).sides
  ended_of None m o a = a
  ended_of (Some status) m o a = of_more q o.sides (sides.Ended q (orb_of m) status) a refl

  step_of : (step : AgentStep) (m : Machine) (o : OutboxState) → AreOf q o.sides → AreOf q (tell_step q m step o).sides
  unfolding tell_step
  step_of step m o a = ended_of step.ended m (tell_dead q step.dead (tell_ran q m step.ran o)) (dead_of step.dead (tell_ran q m step.ran o) (ran_of step.ran m o a))

  ran_ends : (x : Option Outcome) (m : Machine) (o : OutboxState) → ends_in (tell_ran q m x o).sides ≡ ends_in o.sides
  ran_ends None m o = refl
  ran_ends (Some outcome) m o = ends_more o.sides (sides.Ran q (orb_of m) m.orb.cdb m.payload outcome) ∙ append-nil (ends_in o.sides)

  dead_ends : (x : Option FailCause) (o : OutboxState) → ends_in (tell_dead q x o).sides ≡ ends_in o.sides
  dead_ends None o = refl
  dead_ends (Some cause) o = ends_more o.sides (sides.Dead q cause) ∙ append-nil (ends_in o.sides)

  ended_ends : (x : Option StatusKind) (m : Machine) (o : OutboxState) → ends_in (tell_ended q m x o).sides ≡ ends_in o.sides ++ listed x
  ended_ends None m o = sym (append-nil (ends_in o.sides))
  ended_ends (Some status) m o = ends_more o.sides (sides.Ended q (orb_of m) status)

  step_ends : (step : AgentStep) (m : Machine) (o : OutboxState) → ends_in (tell_step q m step o).sides ≡ ends_in o.sides ++ listed step.ended
  unfolding tell_step
  step_ends step m o =
      let ran = tell_ran q m step.ran o in
      ended_ends step.ended m (tell_dead q step.dead ran) ∙ ap (λ xs. xs ++ listed step.ended) (dead_ends step.dead ran ∙ ran_ends step.ran m o)

  -- one that is not told yet
  pub record Steps (step : AgentStep) (s : Scene) : Type 0 where
    pub of : AreOf q s.outbox.sides
    pub desks : length s.node.desks ≡ 8
    pub same : (p : ℕ) → (p ≡ q → ⊥) → (desk_at s.node p).agent ≡ machines p
    pub ends : AreEnding Was (ends_in s.outbox.sides ++ listed step.ended) (desk_at s.node q).agent.phase
    pub was : is_last (desk_at s.node q).agent.phase ≡ false → Was

  pub noted_acts : (step : AgentStep) (s : Scene) → Steps step s → Acts (noted q step s)
  noted_acts step s m =
      let a = noted_same q b step s m.desks in
      let e : (noted q step s).outbox.sides ≡ (tell_step q (A s) step s.outbox).sides = ap (λ (o : OutboxState). o.sides) (noted_outbox q step s) in
      let told : ends_in (noted q step s).outbox.sides ≡ ends_in s.outbox.sides ++ listed step.ended = ap ends_in e ∙ step_ends step (A s) s.outbox in
      record {
        of = subst (AreOf q) (sym e) (step_of step (A s) s.outbox m.of);
        desks = a.desks ∙ m.desks;
        same = λ p f. a.agents p ∙ m.same p f;
        ends = subst (λ xs. AreEnding Was xs (A (noted q step s)).phase) (sym told) (subst (λ (x : Machine). AreEnding Was (ends_in s.outbox.sides ++ listed step.ended) x.phase) (sym (a.agents q)) m.ends);
        was = λ f. m.was (ap (λ (x : Machine). is_last x.phase) (sym (a.agents q)) ∙ f);
      }

  -- ---- a transaction that finds no label
  lost_steps : (s : Scene) (which : Which) → Acts s → (let l = lost_step (desk_at s.node q).agent which causes.Label in Steps l.0 (scene (with_agent s.node q l.1) s.outbox))
  lost_steps s which m =
      let l = lost_step (desk_at s.node q).agent which causes.Label in
      let d = record (desk_at s.node q) { agent = l.1 } in
      let is_set : (desk_at (with_agent s.node q l.1) q).agent ≡ l.1 = ap (λ (x : Desk). x.agent) (set_here s.node q d (let e = m.desks in omega (arith, b, e))) in
      record {
        of = m.of;
        desks = length-set s.node.desks q d ∙ m.desks;
        same = λ p f. ap (λ (x : Desk). x.agent) (set_there s.node q p d (let e = m.desks in omega (arith, b, e)) f) ∙ m.same p f;
        ends = subst (λ (x : Machine). AreEnding Was (ends_in s.outbox.sides ++ listed l.0.ended) x.phase) (sym is_set) (lost_ending Was (ends_in s.outbox.sides) (A s) which causes.Label m.was m.ends);
        was = λ f. m.was (before (is_last (A s).phase) refl (ap (λ (x : Machine). is_last x.phase) (sym is_set) ∙ f));
      }
    where
      before : (x : Bool) → is_last (A s).phase ≡ x → is_last (lost_step (A s) which causes.Label).1.phase ≡ false → is_last (A s).phase ≡ false
      before false e f = e
      before true e f = absurd (let z : true ≡ false = sym (lost_rests (A s) which causes.Label e).1 ∙ f in cc)

  lost_acts : (which : Which) (s : Scene) → Acts s → Acts (lost_at q which s)
  lost_acts which s m =
      let l = lost_step (desk_at s.node q).agent which causes.Label in noted_acts l.0 (scene (with_agent s.node q l.1) s.outbox) (lost_steps s which m)

  -- ---- what follows a step
  pub follow_acts : (login : Login) (step : AgentStep) (s : Scene) → Steps step s → Acts (follow q login step s)
  follow_acts login step s m = follow_alike Acts (λ s m. m.desks) alike q b login lost_acts step s (noted_acts step s m)

  -- a step that tells nothing
  pub asks_acts : (login : Login) (ask : Ask) (s : Scene) → Acts s → Acts (follow q login (steps.asks ask) s)
  asks_acts login ask s m = follow_acts login (steps.asks ask) s (record { of = m.of; desks = m.desks; same = m.same; ends = no_more Was (ends_in s.outbox.sides) (A s).phase m.ends; was = m.was })

  -- ---- other logins hear of a disc
  heard_acts : (place : ℕ) (x : Bool) (s : Scene) → Acts s → Acts (scene s.node (with_side s.outbox (cond x (sides.Unsolicited place) (sides.Unsent place))))
  heard_acts place true s m = record {
    of = of_more q s.outbox.sides (sides.Unsolicited place) m.of tt;
    desks = m.desks;
    same = m.same;
    ends = subst (λ xs. AreEnding Was xs (A s).phase) (sym (ends_more s.outbox.sides (sides.Unsolicited place) ∙ append-nil (ends_in s.outbox.sides))) m.ends;
    was = m.was;
  }
  heard_acts place false s m = record {
    of = of_more q s.outbox.sides (sides.Unsent place) m.of tt;
    desks = m.desks;
    same = m.same;
    ends = subst (λ xs. AreEnding Was xs (A s).phase) (sym (ends_more s.outbox.sides (sides.Unsent place) ∙ append-nil (ends_in s.outbox.sides))) m.ends;
    was = m.was;
  }

  pub announce_from_acts : (left place unit from : ℕ) → left + place ≤ 8 → (s : Scene) → Acts s → Acts (announce_from left place unit from s)
  announce_from_acts left place unit from c s m = announce_alike Acts (λ s m. m.desks) alike heard_acts left place unit from c s m
