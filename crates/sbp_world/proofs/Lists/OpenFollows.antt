-- What follows a step of the agent of a place leaves who has the places, and the agents of all other places.
use Rattle.sbp_world.proofs.Words.Std.{◌≡◌, ◌∙◌, refl, sym, ap, subst, ◌<◌, ◌≤◌, ℕ, ◌+◌, Bool, true, false, cond, List, ◌++◌, map, length, Option, Some, None, arith, length-set}
use Rattle.sbp_world.proofs.Words.Wire.{Holder, OutboxState, Side, said}
use Rattle.sbp_world.proofs.Words.Target.{Login, Outcome, AgentStep, Which, Machine, lost_step, Desk, follow, noted, lost_at, Scene, desk_at, scene, with_agent, with_side, orb_of, tell_dead, tell_ended, tell_ran, tell_step, announce_from}
use Rattle.sbp_world.proofs.Words.Initiator.{FailCause, StatusKind}
use Rattle.sbp_world.proofs.Words.Laws.{is_cut}
use Rattle.sbp_world.proofs.Words.World.{told, told_all, WorldState}
use Rattle.orb_layout.specs.declared.ask.FailCause.TheVariants as causes
use Rattle.sbp_journal.specs.declared.side.Side.TheVariants as sides
use Rattle.sbp_world.proofs.Lists.OpenSpares.{SameCuts}
use Rattle.sbp_world.proofs.Lists.SameAgents.{AreSame, announce_alike, follow_alike, noted_same, set_there}
use Rattle.sbp_world.proofs.Agents.Telling.{told_snoc as told_last}

-- of all but the agent of a place
module _ (u : WorldState) (places : List (Option Holder)) (q : ℕ) (machines : ℕ → Machine) (b : q < 8) where
  pub record SaysBy (side : List Side) : Type 0 where
    pub is : (told_all 0 side u).places ≡ places
    pub cuts : SameCuts u.fresh (told_all 0 side u).fresh

  abbrev pub Says : OutboxState → Type 0
  Says o = SaysBy o.sides

  pub record Beside (s : Scene) : Type 0 where
    pub is : Says s.outbox
    pub desks : length s.node.desks ≡ 8
    pub same : (p : ℕ) → (p ≡ q → ⊥) → (desk_at s.node p).agent ≡ machines p

  pub alike : (s t : Scene) → AreSame s.node t.node → t.outbox.sides ≡ s.outbox.sides → Beside s → Beside t
  alike s t a e m = record { is = subst SaysBy (sym e) m.is; desks = a.desks ∙ m.desks; same = λ p f. a.agents p ∙ m.same p f }

  -- ---- a side that leaves the places
  side_says : (side : Side) (o : OutboxState) → ((w : WorldState) → (told 0 side w).places ≡ w.places) → ((w : WorldState) → SameCuts w.fresh (told 0 side w).fresh) → Says o → Says (with_side o side)
  side_says side o leaves same e = record {
    is = ap (λ (w : WorldState). w.places) (told_last o.sides side u) ∙ leaves (told_all 0 o.sides u) ∙ e.is;
    cuts = λ ms i n. ap (λ (w : WorldState). is_cut (map said w.fresh ++ ms) i n) (told_last o.sides side u) ∙ same (told_all 0 o.sides u) ms i n ∙ e.cuts ms i n;
  }

  ran_says : (x : Option Outcome) (m : Machine) (o : OutboxState) → Says o → Says (tell_ran q m x o)
  unfolding told
  ran_says None m o e = e
  ran_says (Some outcome) m o e = side_says (sides.Ran q (orb_of m) m.orb.cdb m.payload outcome) o (λ w. refl) (λ w ms i n. refl) e

  dead_says : (x : Option FailCause) (o : OutboxState) → Says o → Says (tell_dead q x o)
  unfolding told
  dead_says None o e = e
  dead_says (Some cause) o e = side_says (sides.Dead q cause) o (λ w. refl) (λ w ms i n. refl) e

  ended_says : (x : Option StatusKind) (m : Machine) (o : OutboxState) → Says o → Says (tell_ended q m x o)
  unfolding told
  ended_says None m o e = e
  ended_says (Some status) m o e = side_says (sides.Ended q (orb_of m) status) o (λ w. refl) (λ w ms i n. refl) e

  step_says : (step : AgentStep) (m : Machine) (o : OutboxState) → Says o → Says (tell_step q m step o)
  unfolding tell_step
  step_says step m o e = ended_says step.ended m (tell_dead q step.dead (tell_ran q m step.ran o)) (dead_says step.dead (tell_ran q m step.ran o) (ran_says step.ran m o e))

  noted_says : (step : AgentStep) (s : Scene) → Says s.outbox → Says (noted q step s).outbox
  unfolding noted
  noted_says step s e = step_says step (desk_at s.node q).agent s.outbox e

  noted_beside : (step : AgentStep) (s : Scene) → Beside s → Beside (noted q step s)
  noted_beside step s m =
      let a = noted_same q b step s m.desks in record { is = noted_says step s m.is; desks = a.desks ∙ m.desks; same = λ p f. a.agents p ∙ m.same p f }

  -- ---- the agent is another one
  pub set_beside : (s : Scene) (m : Machine) → Beside s → Beside (scene (with_agent s.node q m) s.outbox)
  set_beside s m k =
      let d = record (desk_at s.node q) { agent = m } in
      record {
        is = k.is;
        desks = length-set s.node.desks q d ∙ k.desks;
        same = λ p f. ap (λ (x : Desk). x.agent) (set_there s.node q p d (let e = k.desks in omega (arith, e)) f) ∙ k.same p f;
      }

  lost_beside : (which : Which) (s : Scene) → Beside s → Beside (lost_at q which s)
  lost_beside which s m =
      let l = lost_step (desk_at s.node q).agent which causes.Label in noted_beside l.0 (scene (with_agent s.node q l.1) s.outbox) (set_beside s l.1 m)

  -- ---- what follows a step
  pub follow_beside : (login : Login) (step : AgentStep) (s : Scene) → Beside s → Beside (follow q login step s)
  follow_beside login step s m = follow_alike Beside (λ s m. m.desks) alike q b login lost_beside step s (noted_beside step s m)

  -- ---- other logins hear of a disc
  heard_says : (place : ℕ) (x : Bool) (o : OutboxState) → Says o → Says (with_side o (cond x (sides.Unsolicited place) (sides.Unsent place)))
  unfolding told
  heard_says place true o e = side_says (sides.Unsolicited place) o (λ w. refl) (λ w ms i n. refl) e
  heard_says place false o e = side_says (sides.Unsent place) o (λ w. refl) (λ w ms i n. refl) e

  heard_beside : (place : ℕ) (x : Bool) (s : Scene) → Beside s → Beside (scene s.node (with_side s.outbox (cond x (sides.Unsolicited place) (sides.Unsent place))))
  heard_beside place x s m = record { is = heard_says place x s.outbox m.is; desks = m.desks; same = m.same }

  pub announce_from_beside : (left place unit from : ℕ) → left + place ≤ 8 → (s : Scene) → Beside s → Beside (announce_from left place unit from s)
  announce_from_beside left place unit from c s m = announce_alike Beside (λ s m. m.desks) alike heard_beside left place unit from c s m
