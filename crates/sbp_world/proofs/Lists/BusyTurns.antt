-- What a call of the target makes of its agents: each stays in its phase or is cut; or the agent of one place makes a step, and has its ORB still, or an end of
-- it is told; or a pointer is taken at one place.
use Rattle.sbp_world.proofs.Words.Std.{◌≡◌, ◌∙◌, refl, sym, ap, subst, inl, inr, ◌⊎◌, ◌<◌, ℕ, is_some, Bool, true, false, List, [], length, Option, Some, None, Result, Ok, arith, length-set, false≢true}
use Rattle.sbp_world.proofs.Words.Wire.{Packet, header_in, Layer, answering_step, empty_outbox}
use Rattle.sbp_world.proofs.Words.Target.{Login, Disk, disk_at, Told, Phase, AgentState, AgentStep, PointRefusal, Which, Machine, present_of, doorbell_step, lost_step, point_in, point_step, reply_step, Desk, Purpose, follow, pointed_desk, taken, NodeState, Scene, desk_at, login_at, scene, with_agent, with_desk, expired_by, Stage, advance, announced_by, came, changed_by, follow_all, plain_in, replied, stage, whole, answer_step, answered_by, with_side, answered, asked_in, point, pointed_by, ring, rung_by, orb_of, complete}
use Rattle.sbp_world.proofs.Words.Initiator.{Ask, Nothing, OrbPointer, Null, At, Answer}
use Rattle.sbp_world.proofs.Words.World.{WorldState, has_list}
use Rattle.orb_layout.specs.declared.ask.FailCause.TheVariants as causes
use Rattle.command_agent.specs.declared.phase.Phase.TheVariants as phases
use Rattle.command_agent.specs.declared.step.AgentState.TheVariants as states
use Rattle.command_agent.specs.Steps as steps
use Rattle.sbp_journal.specs.declared.side.Side.TheVariants as sides
use Rattle.sbp_target.proofs.Histories.Calling.{Good}
use Rattle.sbp_world.proofs.Agents.AskedLate.{quiet_follow}
use Rattle.sbp_world.proofs.Lists.Busy.{StaysBusy, is_busy, lost_busy, replied_busy}
use Rattle.sbp_world.proofs.Lists.BusyCuts.{Cutting, answers, desk_more}
use Rattle.sbp_world.proofs.Lists.StepsUp.{IsUp, doorbell_up, lost_up, point_up, reply_up}
use Rattle.sbp_world.proofs.Lists.BusyFollows.{Acts, Steps, alike, announce_from_acts, asks_acts, follow_acts}
use Rattle.sbp_world.proofs.Lists.SameAgents.{set_here, set_there, changed_same}
use Rattle.sbp_world.proofs.Lists.Full.{IsClosed}
use Rattle.sbp_world.proofs.Lists.Pointers.{not_taken, deaf_by}

-- ---- a doorbell
rings_in : (phase : Phase) (m : Machine) → is_busy phase ≡ true → is_busy (doorbell_step (record m { phase = phase })).1.phase ≡ true
unfolding doorbell_step
rings_in phases.Reset m e = absurd (false≢true e)
rings_in phases.Dead m e = absurd (false≢true e)
rings_in phases.Fetching m e = refl
rings_in phases.ReadingTable m e = refl
rings_in (phases.ReadingData wanted) m e = refl
rings_in phases.Answering m e = refl
rings_in phases.WritingStatus m e = absurd (false≢true e)
rings_in phases.WritingLastStatus m e = absurd (false≢true e)
rings_in phases.ReadingNext m e = absurd (false≢true e)
rings_in phases.Suspended m e = absurd (false≢true e)

-- ---- a pointer

takes_in : (state : AgentState) (m : Machine) (pointer : OrbPointer) (ask : Ask) → (point_in state m pointer).0 ≡ Ok ask → is_busy (point_in state m pointer).1.phase ≡ true
takes_in states.Reset m Null ask e = absurd (not_taken _ ask e)
takes_in states.Reset m (At next) ask e = refl
takes_in states.Suspended m Null ask e = absurd (not_taken _ ask e)
takes_in states.Suspended m (At next) ask e = refl
takes_in states.Active m pointer ask e = absurd (not_taken _ ask e)
takes_in states.Dead m pointer ask e = absurd (not_taken _ ask e)

takes : (m : Machine) (pointer : OrbPointer) (ask : Ask) → (point_step m pointer).0 ≡ Ok ask → is_busy (point_step m pointer).1.phase ≡ true
unfolding point_step
takes m pointer ask e = takes_in _ m pointer ask e

-- ---- a call of the target
module _ (w : WorldState) (g : Good w.target) (Given : Type 0) (F : ℕ → Machine → Type 0) (closed : IsClosed F) (layer : Layer Purpose) where
  abbrev pub M : ℕ → Machine
  M p = (desk_at w.target p).agent

  abbrev pub there : NodeState
  there = record w.target { layer = layer }

  abbrev pub first : Scene
  first = scene there empty_outbox

  module _ (q : ℕ) (b : q < 8) where
    inside : q < length w.target.desks
    inside = let e = g.mid.size in omega (arith, e)

    abbrev pub Busy : Type 0
    Busy = is_busy (M q).phase ≡ true

    abbrev pub By : Type 0 → Scene → Type 0
    By Known s = Acts q b Known Given F closed M s

    announced_acts : (x : Bool) (unit : ℕ) (s : Scene) → By Busy s → By Busy (announced_by x unit q s)
    announced_acts true unit s m = announce_from_acts q b Busy Given F closed M 8 0 unit q (omega arith) s m
    announced_acts false unit s m = m

    -- the desk is another
    is_set : (node : NodeState) (d : Desk) → length node.desks ≡ 8 → (desk_at (with_desk node q d) q).agent ≡ d.agent
    is_set node d e = ap (λ (x : Desk). x.agent) (set_here node q d (omega (arith, e)))

    other_set : (d : Desk) (p : ℕ) → (p ≡ q → ⊥) → (desk_at (with_desk there q d) p).agent ≡ M p
    other_set d p f = ap (λ (x : Desk). x.agent) (set_there there q p d inside f)

    busy_at : (step : AgentStep × Machine) (now : Machine) → now ≡ step.1 → StaysBusy step → (is_busy now.phase ≡ true) ⊎ (is_some step.0.ended ≡ true)
    busy_at step now e (inl h) = inl (ap (λ (m : Machine). is_busy m.phase) e ∙ h)
    busy_at step now e (inr h) = inr h

    -- ---- a reply
    pub reply_acts : (login : Login) (which : Which) (run : Option Told) (answer : Answer) (disks : List Disk) → (Given → F q (M q) → F q (reply_step (M q) q (plain_in there.units disks login.unit) run which answer).1) → (let x = advance run q login which answer (whole first disks) in By Busy (scene x.node x.outbox))
    unfolding advance replied follow_all
    reply_acts login which run answer disks reply_full =
        let plain = plain_in there.units disks login.unit in
        let step : AgentStep × Machine = reply_step (M q) q plain run which answer in
        let d : Desk = record (taken which (desk_at w.target q)) { agent = step.1 } in
        let st : Stage = (replied run q login.unit which answer (stage there disks)).1 in
        let loaded = came (disk_at disks login.unit) (disk_at st.disks login.unit) in
        let later = changed_by loaded login.unit q st.node in
        let c = changed_same loaded login.unit q st.node in
        let s = scene later empty_outbox in
        let now : (desk_at later q).agent ≡ step.1 = c.agents q ∙ is_set there d g.mid.size in
        let m : Steps q b Busy Given F closed M step.0 s = record {
          of = tt;
          desks = c.desks ∙ (length-set there.desks q d ∙ g.mid.size);
          same = λ p f. c.agents p ∙ other_set d p f;
          busy = λ known. inl (busy_at step (desk_at later q).agent now (replied_busy (M q) q plain run which answer known));
          full = λ f h. subst (λ x. F q x) (sym now) (reply_full f h);
          up = λ h. subst (λ (x : Machine). IsUp x) (sym now) (reply_up (M q) q plain run which answer h);
        } in
        announced_acts loaded login.unit (follow q login step.0 s) (follow_acts q b Busy Given F closed M login step.0 s m)

    -- ---- a time-out
    pub late_acts : (login : Login) (which : Which) → By Busy (expired_by q (Some login) (Some which) first)
    late_acts login which =
        let loss = lost_step (M q) which causes.Timeout in
        let d : Desk = record (taken which (desk_at w.target q)) { agent = loss.1 } in
        let s = scene (with_desk there q d) empty_outbox in
        follow_acts q b Busy Given F closed M login loss.0 s (record {
          of = tt;
          desks = length-set there.desks q d ∙ g.mid.size;
          same = λ p f. other_set d p f;
          busy = λ known. inl (busy_at loss (desk_at (with_desk there q d) q).agent (is_set there d g.mid.size) (lost_busy (M q) which causes.Timeout known));
          full = λ f h. subst (λ x. F q x) (sym (is_set there d g.mid.size)) (closed.lost q (M q) which causes.Timeout h);
          up = λ h. subst (λ (x : Machine). IsUp x) (sym (is_set there d g.mid.size)) (lost_up (M q) which causes.Timeout h);
        })

    -- ---- what is asked of the registers
    module _ (request : Packet) (bytes : List ℕ) where
      answered_acts : (rcode : ℕ) (given : List ℕ) (Known : Type 0) (s : Scene) → By Known s → By Known (answered request bytes rcode given s)
      unfolding answer_step
      answered_acts rcode given Known s m = by (answering_step s.node.layer request bytes rcode given)
        where
          by : (r : List ℕ × Layer Purpose) → By Known (scene (record s.node { layer = (answered_by r s.outbox (header_in request).source).0 }) (answered_by r s.outbox (header_in request).source).1)
          by (out, rest) = alike q b Known Given F closed M s (scene (record s.node { layer = rest }) (answered_by (out, rest) s.outbox (header_in request).source).1) (record { desks = refl; agents = λ p. refl }) refl m

      asked_acts : (ask : Ask) (login : Option Login) (Known : Type 0) (s : Scene) → By Known s → By Known (asked_in q ask login s)
      asked_acts ask None Known s m = m
      asked_acts ask (Some login) Known s m = asks_acts q b Known Given F closed M login ask s m

      -- a doorbell
      pub rung_acts : By Busy (ring q request bytes first)
      unfolding ring
      rung_acts =
          let r = doorbell_step (M q) in
          let d : Desk = record (desk_at there q) { agent = r.1 } in
          let s = scene (with_agent there q r.1) empty_outbox in
          let x = answered request bytes complete [] s in
          asked_acts r.0 (login_at x.node q) Busy x
          (answered_acts complete [] Busy s (record {
            of = tt;
            desks = length-set there.desks q d ∙ g.mid.size;
            same = λ p f. other_set d p f;
            busy = λ known. inl (ap (λ (m : Machine). is_busy m.phase) (is_set there d g.mid.size) ∙ rings_in (M q).phase (M q) known);
            full = λ f h. subst (λ x. F q x) (sym (is_set there d g.mid.size)) (closed.bell q (M q) h);
            up = λ h. subst (λ (x : Machine). IsUp x) (sym (is_set there d g.mid.size)) (doorbell_up (M q) h);
          }))

      pub silent_rests : has_list (M q).phase ≡ false → Cutting F closed M first → Cutting F closed M (ring q request bytes first)
      unfolding ring
      silent_rests e c =
          let m = M q in
          subst (λ (x : Ask × Machine). Cutting F closed M (rung_by q request bytes x first)) (sym (deaf_by m.phase m e)) (by (login_at x.node q))
        where
          s : Scene
          s = scene (with_agent there q (M q)) empty_outbox

          x : Scene
          x = answered request bytes complete [] s

          done : Cutting F closed M x
          done = answers F closed M request bytes complete [] s (desk_more F closed M first q (record (desk_at there q) { agent = M q }) refl (λ f. f) c)

          by : (login : Option Login) → Cutting F closed M (asked_in q Nothing login x)
          by None = done
          by (Some login) = subst (Cutting F closed M) (sym (quiet_follow q login (steps.asks Nothing) x refl)) done

      -- a pointer that is taken
      pub taken_acts : (pointer : OrbPointer) (ask : Ask) → (point_step (M q) pointer).0 ≡ Ok ask → By (Unit {0}) (point q pointer request bytes first)
      unfolding point
      taken_acts pointer ask e =
          let m = (point_step (M q) pointer).1 in
          let d : Desk = record (desk_at there q) { agent = m; pointer = present_of m } in
          let s = scene (with_desk there q d) (with_side empty_outbox (sides.Opened q (orb_of m))) in
          let x = answered request bytes complete [] s in
          subst (λ (y : Result Ask PointRefusal). By (Unit {0}) (pointed_by q request bytes (pointed_desk (desk_at there q) (y, m)) first)) (sym e)
          (asked_acts ask (login_at x.node q) (Unit {0}) x
          (answered_acts complete [] (Unit {0}) s (record {
            of = (refl, tt);
            desks = length-set there.desks q d ∙ g.mid.size;
            same = λ p f. other_set d p f;
            busy = λ known. inl (ap (λ (n : Machine). is_busy n.phase) (is_set there d g.mid.size) ∙ takes (M q) pointer ask e);
            full = λ f h. subst (λ x. F q x) (sym (is_set there d g.mid.size)) (closed.point q (M q) pointer h);
            up = λ h. subst (λ (x : Machine). IsUp x) (sym (is_set there d g.mid.size)) (point_up (M q) pointer h);
          })))
