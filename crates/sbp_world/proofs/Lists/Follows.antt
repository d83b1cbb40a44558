-- What follows a step of the agent of a place: it is told, and so is what is lost for want of labels; the other places are left alone.
use Rattle.sbp_world.proofs.Words.Std.{◌≡◌, ◌∙◌, sym, ap, subst, ◌<◌, ◌≤◌, ℕ, ◌+◌, Bool, true, false, cond, List, [], ◌∷◌, ◌++◌, length, Option, Some, None, arith, length-set}
use Rattle.sbp_world.proofs.Words.Wire.{OutboxState, Moment, said, Note}
use Rattle.sbp_world.proofs.Words.Target.{Login, Outcome, AgentStep, Which, Machine, lost_step, ahead_beside, main_beside, disk, Desk, follow, noted, lost_at, NodeState, Scene, desk_at, scene, with_agent, with_side, orb_of, tell_dead, tell_ended, tell_ran, tell_step, announce_from}
use Rattle.sbp_world.proofs.Words.Initiator.{FailCause, StatusKind}
use Rattle.sbp_world.proofs.Words.World.{holder, told, told_all, WorldState, orbs}
use Rattle.orb_layout.specs.declared.ask.FailCause.TheVariants as causes
use Rattle.agent_laws.proofs.Along.Writes.{keeps_along}
use Rattle.sbp_journal.specs.declared.note.Note.TheVariants as notes
use Rattle.sbp_journal.specs.declared.side.Side.TheVariants as sides
use Rattle.sbp_world.proofs.Lists.Looks.{Looks, dead_looks, ended_looks, looks_as, ran_looks, unsent_looks, unsolicited_looks}
use Rattle.sbp_world.proofs.Lists.Presents.{lost_presents}
use Rattle.sbp_world.proofs.Lists.Later.{had_next}
use Rattle.sbp_world.proofs.Lists.Told.{Apart, Behind, Due, Others, behind, dead_fresh, ended_fresh, i, ran_fresh, step_fresh, step_told}
use Rattle.sbp_world.proofs.Lists.Passing.{PassLaw}
use Rattle.sbp_world.proofs.Agents.Telling.{told_snoc}
use Rattle.sbp_world.proofs.Lists.SameAgents.{AreSame, announce_alike, follow_alike, noted_same, set_here, set_there, noted_outbox}

agent_here : (node : NodeState) (k : ℕ) (m : Machine) → k < length node.desks → (desk_at (with_agent node k m) k).agent ≡ m
agent_here node k m b = ap (λ (x : Desk). x.agent) (set_here node k (record (desk_at node k) { agent = m }) b)

agent_there : (node : NodeState) (k p : ℕ) (m : Machine) → k < length node.desks → (p ≡ k → ⊥) → (desk_at (with_agent node k m) p).agent ≡ (desk_at node p).agent
agent_there node k p m b f = ap (λ (x : Desk). x.agent) (set_there node k p (record (desk_at node k) { agent = m }) b f)

-- ---- what is told, one after the other

-- u is the world before anything is told, and v is it behind a pointer that is taken, or u itself.
module _ (wild : ℕ → Bool) (past : List Moment) (u v : WorldState) (q n : ℕ) (machines : ℕ → Machine) (b : q < 8) (apart : Apart wild past v q n machines) where
  -- behind what is told the world looks as v does with these notes
  abbrev pub Says : OutboxState → List Note → Type 0
  Says o fresh = Looks (told_all 0 o.sides u) (record v { fresh = fresh })

  pub record Mid (s : Scene) : Type 0 where
    pub fresh : List Note
    pub is : Says s.outbox fresh
    pub desks : length s.node.desks ≡ 8
    pub same : (p : ℕ) → (p ≡ q → ⊥) → (desk_at s.node p).agent ≡ machines p
    pub after : Behind wild past v q n machines (desk_at s.node q).agent fresh

  -- the agent made a step that is not told yet
  pub record Pending (step : AgentStep) (s : Scene) : Type 0 where
    pub fresh : List Note
    pub is : Says s.outbox fresh
    pub desks : length s.node.desks ≡ 8
    pub same : (p : ℕ) → (p ≡ q → ⊥) → (desk_at s.node p).agent ≡ machines p
    pub law : PassLaw wild (behind wild past v q n machines fresh)
    pub others : Others wild past v q n machines (behind wild past v q n machines fresh)
    pub due : wild (i wild past v q n machines) ≡ false → Due wild past v q n machines step (desk_at s.node q).agent (behind wild past v q n machines fresh)

  pub alike : (s t : Scene) → AreSame s.node t.node → t.outbox.sides ≡ s.outbox.sides → Mid s → Mid t
  alike s t a e m = record {
    fresh = m.fresh;
    is = looks_as (told_all 0 t.outbox.sides u) (told_all 0 s.outbox.sides u) (record v { fresh = m.fresh }) (ap (λ xs. told_all 0 xs u) e) m.is;
    desks = a.desks ∙ m.desks;
    same = λ p f. a.agents p ∙ m.same p f;
    after = subst (λ x. Behind wild past v q n machines x m.fresh) (sym (a.agents q)) m.after;
  }

  -- ---- a step is told
  ran_says : (x : Option Outcome) (m : Machine) (o : OutboxState) (fresh : List Note) → Says o fresh → Says (tell_ran q m x o) (ran_fresh wild past v q n machines x m fresh)
  unfolding told
  ran_says None m o fresh e = e
  ran_says (Some outcome) m o fresh e =
      let side = sides.Ran q (orb_of m) m.orb.cdb m.payload outcome in
      looks_as (told_all 0 (o.sides ++ side ∷ []) u) (told 0 side (told_all 0 o.sides u)) (told 0 side (record v { fresh = fresh })) (told_snoc o.sides side u)
      (ran_looks q (orb_of m) m.orb.cdb m.payload outcome (told_all 0 o.sides u) (record v { fresh = fresh }) e)

  dead_says : (x : Option FailCause) (o : OutboxState) (fresh : List Note) → Says o fresh → Says (tell_dead q x o) (dead_fresh wild past v q n machines x fresh)
  unfolding told
  dead_says None o fresh e = e
  dead_says (Some cause) o fresh e =
      let side = sides.Dead q cause in
      looks_as (told_all 0 (o.sides ++ side ∷ []) u) (told 0 side (told_all 0 o.sides u)) (told 0 side (record v { fresh = fresh })) (told_snoc o.sides side u)
      (dead_looks q cause (told_all 0 o.sides u) (record v { fresh = fresh }) e)

  ended_says : (x : Option StatusKind) (m : Machine) (o : OutboxState) (fresh : List Note) → Says o fresh → Says (tell_ended q m x o) (ended_fresh wild past v q n machines x m fresh)
  unfolding told
  ended_says None m o fresh e = e
  ended_says (Some status) m o fresh e =
      let side = sides.Ended q (orb_of m) status in
      looks_as (told_all 0 (o.sides ++ side ∷ []) u) (told 0 side (told_all 0 o.sides u)) (told 0 side (record v { fresh = fresh })) (told_snoc o.sides side u)
      (ended_looks q (orb_of m) status (told_all 0 o.sides u) (record v { fresh = fresh }) e)

  step_says : (step : AgentStep) (m : Machine) (o : OutboxState) (fresh : List Note) → Says o fresh → Says (tell_step q m step o) (step_fresh wild past v q n machines (step, m) fresh)
  unfolding tell_step
  step_says step m o fresh e =
      let a = ran_fresh wild past v q n machines step.ran m fresh in
      let c = dead_fresh wild past v q n machines step.dead a in
      ended_says step.ended m (tell_dead q step.dead (tell_ran q m step.ran o)) c (dead_says step.dead (tell_ran q m step.ran o) a (ran_says step.ran m o fresh e))

  pub noted_mid : (step : AgentStep) (s : Scene) → Pending step s → Mid (noted q step s)
  noted_mid step s p =
      let m = (desk_at s.node q).agent in
      let a = noted_same q b step s p.desks in
      record {
        fresh = step_fresh wild past v q n machines (step, m) p.fresh;
        is = looks_as (told_all 0 (noted q step s).outbox.sides u) (told_all 0 (tell_step q m step s.outbox).sides u) (record v { fresh = step_fresh wild past v q n machines (step, m) p.fresh }) (ap (λ (o : OutboxState). told_all 0 o.sides u) (noted_outbox q step s)) (step_says step m s.outbox p.fresh p.is);
        desks = a.desks ∙ p.desks;
        same = λ k f. a.agents k ∙ p.same k f;
        after = subst (λ x. Behind wild past v q n machines x (step_fresh wild past v q n machines (step, m) p.fresh)) (sym (a.agents q))
            (step_told wild past v q n machines apart step m p.fresh p.law p.others p.due);
      }

  -- ---- a transaction that finds no label
  lost_due : (which : Which) (s : Scene) (m : Mid s) → wild (i wild past v q n machines) ≡ false → Due wild past v q n machines (lost_step (desk_at s.node q).agent which causes.Label).0 (lost_step (desk_at s.node q).agent which causes.Label).1 (behind wild past v q n machines m.fresh)
  lost_due which s m own =
      let o = m.after.own own in
      let a = (desk_at s.node q).agent in
      let ms = behind wild past v q n machines m.fresh in
      record {
        listed = o.listed;
        progress = o.goes.progress;
        is = o.goes.is;
        ran = o.goes.ran;
        place = 0;
        plain = disk;
        main = main_beside which a;
        ahead = ahead_beside which a;
        keeps = (keeps_along (orbs ms (i wild past v q n machines) n)).loses o.goes.progress a 0 disk which causes.Label o.goes.along;
        present = lost_presents a which causes.Label;
        had = o.had;
      }

  lost_pending : (which : Which) (s : Scene) → Mid s → (let l = lost_step (desk_at s.node q).agent which causes.Label in Pending l.0 (scene (with_agent s.node q l.1) s.outbox))
  lost_pending which s m =
      let l = lost_step (desk_at s.node q).agent which causes.Label in
      let inside : q < length s.node.desks = let e = m.desks in omega (arith, e) in
      record {
        fresh = m.fresh;
        is = m.is;
        desks = length-set s.node.desks q (record (desk_at s.node q) { agent = l.1 }) ∙ m.desks;
        same = λ p f. agent_there s.node q p l.1 inside f ∙ m.same p f;
        law = m.after.law;
        others = m.after.others;
        due = λ own. subst (λ x. Due wild past v q n machines l.0 x (behind wild past v q n machines m.fresh)) (sym (agent_here s.node q l.1 inside)) (lost_due which s m own);
      }

  lost_mid : (which : Which) (s : Scene) → Mid s → Mid (lost_at q which s)
  lost_mid which s m =
      let l = lost_step (desk_at s.node q).agent which causes.Label in noted_mid l.0 (scene (with_agent s.node q l.1) s.outbox) (lost_pending which s m)

  -- ---- what follows a step
  pub follow_mid : (login : Login) (step : AgentStep) (s : Scene) → Pending step s → Mid (follow q login step s)
  follow_mid login step s p = follow_alike Mid (λ s m. m.desks) alike q b login lost_mid step s (noted_mid step s p)

  -- a step that tells nothing
  pub asks_mid : (login : Login) (step : AgentStep) (s : Scene) → Mid (noted q step s) → Mid (follow q login step s)
  asks_mid login step s m = follow_alike Mid (λ s m. m.desks) alike q b login lost_mid step s m

  -- ---- other logins hear of a disc
  unsolicited_says : (place : ℕ) (o : OutboxState) (fresh : List Note) → Says o fresh → Says (with_side o (sides.Unsolicited place)) (notes.Unsolicited (holder v place).initiator ∷ fresh)
  unfolding told
  unsolicited_says place o fresh e =
      let side = sides.Unsolicited place in
      looks_as (told_all 0 (o.sides ++ side ∷ []) u) (told 0 side (told_all 0 o.sides u)) (told 0 side (record v { fresh = fresh })) (told_snoc o.sides side u)
      (unsolicited_looks place (told_all 0 o.sides u) (record v { fresh = fresh }) e)

  unsent_says : (place : ℕ) (o : OutboxState) (fresh : List Note) → Says o fresh → Says (with_side o (sides.Unsent place)) (notes.Unsent (holder v place).initiator ∷ fresh)
  unfolding told
  unsent_says place o fresh e =
      let side = sides.Unsent place in
      looks_as (told_all 0 (o.sides ++ side ∷ []) u) (told 0 side (told_all 0 o.sides u)) (told 0 side (record v { fresh = fresh })) (told_snoc o.sides side u)
      (unsent_looks place (told_all 0 o.sides u) (record v { fresh = fresh }) e)

  -- a note of it
  heard_after : (place : ℕ) (x : Bool) (m : Machine) (fresh : List Note) → Behind wild past v q n machines m fresh → Behind wild past v q n machines m (cond x (notes.Unsolicited (holder v place).initiator) (notes.Unsent (holder v place).initiator) ∷ fresh)
  heard_after place true m fresh c = record {
    law = (tt, c.law);
    others = c.others;
    own = λ own.
        let o = c.own own in
        record { listed = o.listed; goes = o.goes; had = had_next (said (notes.Unsolicited (holder v place).initiator)) (behind wild past v q n machines fresh) (i wild past v q n machines) n o.had };
  }
  heard_after place false m fresh c = record {
    law = (tt, c.law);
    others = c.others;
    own = λ own.
        let o = c.own own in
        record { listed = o.listed; goes = o.goes; had = had_next (said (notes.Unsent (holder v place).initiator)) (behind wild past v q n machines fresh) (i wild past v q n machines) n o.had };
  }

  heard_says : (place : ℕ) (x : Bool) (o : OutboxState) (fresh : List Note) → Says o fresh → Says (with_side o (cond x (sides.Unsolicited place) (sides.Unsent place))) (cond x (notes.Unsolicited (holder v place).initiator) (notes.Unsent (holder v place).initiator) ∷ fresh)
  heard_says place true o fresh e = unsolicited_says place o fresh e
  heard_says place false o fresh e = unsent_says place o fresh e

  heard_mid : (place : ℕ) (x : Bool) (s : Scene) → Mid s → Mid (scene s.node (with_side s.outbox (cond x (sides.Unsolicited place) (sides.Unsent place))))
  heard_mid place x s m = record {
    fresh = cond x (notes.Unsolicited (holder v place).initiator) (notes.Unsent (holder v place).initiator) ∷ m.fresh;
    is = heard_says place x s.outbox m.fresh m.is;
    desks = m.desks;
    same = m.same;
    after = heard_after place x (desk_at s.node q).agent m.fresh m.after;
  }

  pub announce_from_mid : (left place unit from : ℕ) → left + place ≤ 8 → (s : Scene) → Mid s → Mid (announce_from left place unit from s)
  announce_from_mid left place unit from c s m = announce_alike Mid (λ s m. m.desks) alike heard_mid left place unit from c s m
