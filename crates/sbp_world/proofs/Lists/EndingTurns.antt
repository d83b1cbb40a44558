-- What the agent of a place makes of a call of the target, as far as ends go: a reply, a time-out, a doorbell, and a pointer that is taken.
use Rattle.std.proofs.Common.{◌≡◌, ◌∙◌, refl, sym, ap, subst, ◌<◌, ℕ, Bool, true, false, List, [], length, Option, Some, None, Result, Ok, arith}
use Rattle.std.proofs.Math.ListN.{length-set}
use Rattle.async_packet.specs.Packet.{Packet, header_in}
use Rattle.label_table.specs.Layer.{Layer, answering_step}
use Rattle.login_table.specs.declared.login.Login.{Login}
use Rattle.orb_layout.specs.declared.ask.Ask.{Ask}
use Rattle.orb_layout.specs.declared.ask.FailCause.TheVariants as causes
use Rattle.orb_layout.specs.declared.pointer.OrbPointer.{OrbPointer}
use Rattle.orb_layout.specs.Replies.{Answer}
use Rattle.rbc_disk.specs.Disk.{Disk, disk_at}
use Rattle.rbc_disk.specs.Runs.{Told}
use Rattle.command_agent.specs.declared.phase.Phase.{Phase}
use Rattle.command_agent.specs.declared.phase.Phase.TheVariants as phases
use Rattle.command_agent.specs.declared.step.AgentStep.{AgentStep}
use Rattle.command_agent.specs.declared.step.PointRefusal.{PointRefusal}
use Rattle.command_agent.specs.declared.step.Which.{Which}
use Rattle.command_agent.specs.Machine.{Machine, present_of}
use Rattle.command_agent.specs.Steps.{doorbell_step, lost_step, point_step, reply_step}
use Rattle.sbp_journal.specs.declared.side.Side.TheVariants as sides
use Rattle.sbp_journal.specs.Outgoings.{empty_outbox}
use Rattle.sbp_target.specs.declared.desk.Desk.{Desk}
use Rattle.sbp_target.specs.declared.purpose.Purpose.{Purpose}
use Rattle.sbp_target.specs.Agents.{follow}
use Rattle.sbp_target.specs.Desks.{pointed_desk, taken}
use Rattle.sbp_target.specs.Nodes.{NodeState, Scene, desk_at, login_at, scene, with_agent, with_desk}
use Rattle.sbp_target.specs.Receiving.{expired_by}
use Rattle.sbp_target.specs.Replies.{Stage, advance, announced_by, came, changed_by, follow_all, plain_in, replied, stage, whole}
use Rattle.sbp_target.specs.Sending.{answer_step, answered_by, with_side}
use Rattle.sbp_target.specs.Serving.{answered, asked_in, point, pointed_by, ring}
use Rattle.sbp_target.specs.Telling.{orb_of}
use Rattle.sbp_world.specs.Worlds.{WorldState}
use Rattle.target_base.specs.Addresses.{complete}
use Rattle.sbp_target.proofs.Histories.Calling.{Good}
use Rattle.sbp_world.proofs.Lists.EndingFollows.{Acts, Steps, alike, announce_from_acts, asks_acts, follow_acts}
use Rattle.sbp_world.proofs.Lists.EndingSteps.{AreEnding, first_ending, first_was, is_last, listed, lost_ending, lost_rests, reply_ends, reply_rests}
use Rattle.sbp_world.proofs.Lists.Pointers.{not_taken}
use Rattle.sbp_world.proofs.Lists.SameAgents.{set_here, set_there, changed_same}

-- ---- a doorbell
rings_in : (phase : Phase) (m : Machine) → is_last (doorbell_step (record m { phase = phase })).1.phase ≡ false → is_last phase ≡ false
unfolding doorbell_step
rings_in phases.Reset m e = refl
rings_in phases.Dead m e = e
rings_in phases.Fetching m e = refl
rings_in phases.ReadingTable m e = refl
rings_in (phases.ReadingData wanted) m e = refl
rings_in phases.Answering m e = refl
rings_in phases.WritingStatus m e = refl
rings_in phases.WritingLastStatus m e = e
rings_in phases.ReadingNext m e = refl
rings_in phases.Suspended m e = refl

-- ---- a pointer
takes_in : (phase : Phase) (m : Machine) (pointer : OrbPointer) (ask : Ask) → (point_step (record m { phase = phase }) pointer).0 ≡ Ok ask → is_last phase ≡ false
unfolding point_step
takes_in phases.Dead m pointer ask e = absurd (not_taken _ ask e)
takes_in phases.WritingLastStatus m pointer ask e = absurd (not_taken _ ask e)
takes_in phases.Reset m pointer ask e = refl
takes_in phases.Fetching m pointer ask e = refl
takes_in phases.ReadingTable m pointer ask e = refl
takes_in (phases.ReadingData wanted) m pointer ask e = refl
takes_in phases.Answering m pointer ask e = refl
takes_in phases.WritingStatus m pointer ask e = refl
takes_in phases.ReadingNext m pointer ask e = refl
takes_in phases.Suspended m pointer ask e = refl

-- ---- a call of the target
module _ (w : WorldState) (g : Good w.target) (layer : Layer Purpose) where
  abbrev pub M : ℕ → Machine
  M p = (desk_at w.target p).agent

  abbrev pub there : NodeState
  there = record w.target { layer = layer }

  abbrev pub first : Scene
  first = scene there empty_outbox

  module _ (q : ℕ) (b : q < 8) where
    abbrev pub Was : Type 0
    Was = is_last (M q).phase ≡ false

    abbrev pub By : Scene → Type 0
    By s = Acts q b M Was s

    announced_acts : (x : Bool) (unit : ℕ) (s : Scene) → By s → By (announced_by x unit q s)
    announced_acts true unit s m = announce_from_acts q b M Was 8 0 unit q (omega arith) s m
    announced_acts false unit s m = m

    -- the desk is another
    is_set : (node : NodeState) (d : Desk) → length node.desks ≡ 8 → (desk_at (with_desk node q d) q).agent ≡ d.agent
    is_set node d e = ap (λ (x : Desk). x.agent) (set_here node q d (omega (arith, b, e)))

    other_set : (d : Desk) (p : ℕ) → (p ≡ q → ⊥) → (desk_at (with_desk there q d) p).agent ≡ M p
    other_set d p f = ap (λ (x : Desk). x.agent) (set_there there q p d (let e = g.mid.size in omega (arith, b, e)) f)

    -- ---- a reply
    pub reply_acts : (login : Login) (which : Which) (run : Option Told) (answer : Answer) (disks : List Disk) → (let x = advance run q login which answer (whole first disks) in By (scene x.node x.outbox))
    unfolding advance replied follow_all
    reply_acts login which run answer disks =
        let plain = plain_in there.units disks login.unit in
        let step : AgentStep × Machine = reply_step (M q) q plain run which answer in
        let d : Desk = record (taken which (desk_at w.target q)) { agent = step.1 } in
        let st : Stage = (replied run q login.unit which answer (stage there disks)).1 in
        let loaded = came (disk_at disks login.unit) (disk_at st.disks login.unit) in
        let later = changed_by loaded login.unit q st.node in
        let c = changed_same loaded login.unit q st.node in
        let s = scene later empty_outbox in
        let now : (desk_at later q).agent ≡ step.1 = c.agents q ∙ is_set there d g.mid.size in
        let rests = reply_rests (M q) q plain run which answer in
        let m : Steps q b M Was step.0 s = record {
          of = tt;
          desks = c.desks ∙ (length-set there.desks q d ∙ g.mid.size);
          same = λ p f. c.agents p ∙ other_set d p f;
          ends = subst (λ (x : Machine). AreEnding Was (listed step.0.ended) x.phase) (sym now) (first_ending (M q) step (reply_ends (M q) q plain run which answer) rests);
          was = λ f. first_was (M q) step rests (ap (λ (x : Machine). is_last x.phase) (sym now) ∙ f);
        } in
        announced_acts loaded login.unit (follow q login step.0 s) (follow_acts q b M Was login step.0 s m)

    -- ---- a time-out
    pub late_acts : (login : Login) (which : Which) → By (expired_by q (Some login) (Some which) first)
    late_acts login which =
        let loss = lost_step (M q) which causes.Timeout in
        let d : Desk = record (taken which (desk_at w.target q)) { agent = loss.1 } in
        let s = scene (with_desk there q d) empty_outbox in
        let now : (desk_at (with_desk there q d) q).agent ≡ loss.1 = is_set there d g.mid.size in
        follow_acts q b M Was login loss.0 s (record {
          of = tt;
          desks = length-set there.desks q d ∙ g.mid.size;
          same = λ p f. other_set d p f;
          ends = subst (λ (x : Machine). AreEnding Was (listed loss.0.ended) x.phase) (sym now) (lost_ending Was [] (M q) which causes.Timeout (λ f. f) tt);
          was = λ f. first_was (M q) loss (lost_rests (M q) which causes.Timeout) (ap (λ (x : Machine). is_last x.phase) (sym now) ∙ f);
        })

    -- ---- what is asked of the registers
    module _ (request : Packet) (bytes : List ℕ) where
      answered_acts : (rcode : ℕ) (given : List ℕ) (s : Scene) → By s → By (answered request bytes rcode given s)
      unfolding answer_step
      answered_acts rcode given s m = by (answering_step s.node.layer request bytes rcode given)
        where
          by : (r : List ℕ × Layer Purpose) → By (scene (record s.node { layer = (answered_by r s.outbox (header_in request).source).0 }) (answered_by r s.outbox (header_in request).source).1)
          by (out, rest) = alike q b M Was s (scene (record s.node { layer = rest }) (answered_by (out, rest) s.outbox (header_in request).source).1) (record { desks = refl; agents = λ p. refl }) refl m

      asked_acts : (ask : Ask) (login : Option Login) (s : Scene) → By s → By (asked_in q ask login s)
      asked_acts ask None s m = m
      asked_acts ask (Some login) s m = asks_acts q b M Was login ask s m

      -- a doorbell
      pub rung_acts : By (ring q request bytes first)
      unfolding ring
      rung_acts =
          let r = doorbell_step (M q) in
          let d : Desk = record (desk_at there q) { agent = r.1 } in
          let s = scene (with_agent there q r.1) empty_outbox in
          let x = answered request bytes complete [] s in
          asked_acts r.0 (login_at x.node q) x
          (answered_acts complete [] s (record {
            of = tt;
            desks = length-set there.desks q d ∙ g.mid.size;
            same = λ p f. other_set d p f;
            ends = tt;
            was = λ f. rings_in (M q).phase (M q) (ap (λ (x : Machine). is_last x.phase) (sym (is_set there d g.mid.size)) ∙ f);
          }))

      -- a pointer that is taken
      pub taken_acts : (pointer : OrbPointer) (ask : Ask) → (point_step (M q) pointer).0 ≡ Ok ask → By (point q pointer request bytes first)
      unfolding point
      taken_acts pointer ask e =
          let m = (point_step (M q) pointer).1 in
          let d : Desk = record (desk_at there q) { agent = m; pointer = present_of m } in
          let s = scene (with_desk there q d) (with_side empty_outbox (sides.Opened q (orb_of m))) in
          let x = answered request bytes complete [] s in
          subst (λ (y : Result Ask PointRefusal). By (pointed_by q request bytes (pointed_desk (desk_at there q) (y, m)) first)) (sym e)
          (asked_acts ask (login_at x.node q) x
          (answered_acts complete [] s (record {
            of = (refl, tt);
            desks = length-set there.desks q d ∙ g.mid.size;
            same = λ p f. other_set d p f;
            ends = tt;
            was = λ f. takes_in (M q).phase (M q) pointer ask e;
          })))
