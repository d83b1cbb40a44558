-- Where the target gets a write of ORB_POINTER which no login bars, and the agent of the place takes the pointer, the agent is out of RESET behind the call, whatever becomes of its read of the ORB.
use Rattle.sbp_world.proofs.Words.Std.{◌≡◌, ◌∙◌, refl, sym, ap, subst, ◌<◌, ℕ, false, cond, List, [], length, Option, Some, None, Result, Ok, arith, length-set}
use Rattle.sbp_world.proofs.Words.Wire.{Finding, Judged, Layer, Packet, Sent, empty_outbox, header_in, judging_step, answering_step, of_request}
use Rattle.sbp_world.proofs.Words.Target.{AgentState, Demand, Held, Login, Machine, NodeState, PointRefusal, Purpose, Scene, Told, Whole, Desk, address_error, answer_step, answered, answered_by, asked_in, complete, demand_of, desk_at, is_barred, judged_scene, login_at, orb_of, point, point_in, point_step, pointed_by, pointed_desk, present_of, received, received_as, scene, serve, served_as, whole, with_desk, with_side}
use Rattle.sbp_world.proofs.Words.Initiator.{Ask, At, Null, OrbPointer}
use Rattle.sbp_world.proofs.Words.World.{WorldState, whole_of}
use Rattle.command_agent.specs.declared.step.AgentState.TheVariants as states
use Rattle.sbp_journal.specs.declared.cause.Cause.TheVariants as ignored
use Rattle.sbp_journal.specs.declared.cause.Judged.TheVariants as judgements
use Rattle.sbp_journal.specs.declared.side.Side.TheVariants as sides
use Rattle.sbp_target.proofs.Histories.Calling.{Good}
use Rattle.sbp_target.specs.Serving.{request_step}
use Rattle.target_base.specs.declared.address.Access.TheVariants as accesses
use Rattle.target_base.specs.declared.address.Demand.TheVariants as demands
use Rattle.sbp_world.proofs.Lists.BusyFollows.{Acts, alike, asks_acts}
use Rattle.sbp_world.proofs.Lists.Full.{IsFull, full_closed}
use Rattle.sbp_world.proofs.Lists.Pointers.{not_taken}
use Rattle.sbp_world.proofs.Lists.SameAgents.{set_here}
use Rattle.sbp_world.proofs.Lists.StepsUp.{IsUp}

-- ---- an agent that takes a pointer
takes_in : (state : AgentState) (m : Machine) (pointer : OrbPointer) (ask : Ask) → (point_in state m pointer).0 ≡ Ok ask → IsUp (point_in state m pointer).1
takes_in states.Reset m Null ask e = absurd (not_taken _ ask e)
takes_in states.Reset m (At next) ask e = refl
takes_in states.Suspended m Null ask e = absurd (not_taken _ ask e)
takes_in states.Suspended m (At next) ask e = refl
takes_in states.Active m pointer ask e = absurd (not_taken _ ask e)
takes_in states.Dead m pointer ask e = absurd (not_taken _ ask e)

takes : (m : Machine) (pointer : OrbPointer) (ask : Ask) → (point_step m pointer).0 ≡ Ok ask → IsUp (point_step m pointer).1
unfolding point_step
takes m pointer ask e = takes_in _ m pointer ask e

-- ---- what is done behind that leaves it so
module _ (q : ℕ) (b : q < 8) (machines : ℕ → Machine) (p : Packet) (bytes : List ℕ) where
  abbrev Out : Scene → Type 0
  Out s = Acts q b ⊥ ⊥ (λ k m. IsFull m) full_closed machines s

  answered_out : (rcode : ℕ) (given : List ℕ) (s : Scene) → Out s → Out (answered p bytes rcode given s)
  unfolding answer_step
  answered_out rcode given s m = by (answering_step s.node.layer p bytes rcode given)
    where
      by : (r : List ℕ × Layer Purpose) → Out (scene (record s.node { layer = (answered_by r s.outbox (header_in p).source).0 }) (answered_by r s.outbox (header_in p).source).1)
      by (out, rest) = alike q b ⊥ ⊥ (λ k m. IsFull m) full_closed machines s (scene (record s.node { layer = rest }) (answered_by (out, rest) s.outbox (header_in p).source).1) (record { desks = refl; agents = λ k. refl }) refl m

  asked_out : (ask : Ask) (login : Option Login) (s : Scene) → Out s → Out (asked_in q ask login s)
  asked_out ask None s m = m
  asked_out ask (Some login) s m = asks_acts q b ⊥ ⊥ (λ k m. IsFull m) full_closed machines login ask s m

-- ---- the call
module _ (w : WorldState) (g : Good w.target) (layer : Layer Purpose) (q : ℕ) (b : q < 8) (p : Packet) (bytes : List ℕ) (pointer : OrbPointer) (ask : Ask) (took : (point_step (desk_at w.target q).agent pointer).0 ≡ Ok ask) where
  abbrev there : NodeState
  there = record w.target { layer = layer }

  abbrev first : Scene
  first = scene there empty_outbox

  abbrev Up : Scene → Type 0
  Up s = IsUp (desk_at s.node q).agent

  point_up : Up (point q pointer p bytes first)
  unfolding point
  point_up =
      let m = (point_step (desk_at w.target q).agent pointer).1 in
      let d : Desk = record (desk_at there q) { agent = m; pointer = present_of m } in
      let s = scene (with_desk there q d) (with_side empty_outbox (sides.Opened q (orb_of m))) in
      let x = answered p bytes complete [] s in
      let machines : ℕ → Machine = λ k. (desk_at s.node k).agent in
      let set : (desk_at s.node q).agent ≡ m = ap (λ (y : Desk). y.agent) (set_here there q d (let e = g.mid.size in omega (arith, b, e))) in
      let out = asked_out q b machines p bytes ask (login_at x.node q) x
      (answered_out q b machines p bytes complete [] s (record {
        of = (refl, tt);
        desks = length-set there.desks q d ∙ g.mid.size;
        same = λ k f. refl;
        busy = λ known. absurd known;
        full = λ f h. absurd f;
        up = λ h. h;
      })) in
      subst (λ (y : Result Ask PointRefusal). Up (pointed_by q p bytes (pointed_desk (desk_at there q) (y, m)) first)) (sym took)
      (out.up (subst (λ (y : Machine). IsUp y) (sym set) (takes (desk_at w.target q).agent pointer ask took)))

  module _ (free : is_barred w.target p ≡ false) (demand : demand_of (length w.target.rom) p ≡ demands.Agent q (accesses.Point pointer)) where
    serve_up : Up (serve p bytes first)
    unfolding serve
    serve_up = subst (λ (y : Demand). Up (served_as y p bytes first)) (sym demand) point_up

    abbrev Done : Judged × Whole → Type 0
    Done x = Up (scene x.1.node x.1.outbox)

    pub request_up : (run : Option Told) (media : Held) → Done (received_as run bytes (of_request p) (whole first media.disks))
    unfolding request_step is_barred
    request_up run media =
        subst (λ y. Done (judged_scene (cond y (judgements.Ignored ignored.Login, answered p bytes address_error [] first) (judgements.Got, serve p bytes first)) (whole first media.disks))) (sym free) serve_up

-- a packet that is such a write
module _ (w : WorldState) (g : Good w.target) (q : ℕ) (b : q < 8) (sent : Sent) (run : Option Told) (media : Held) where
  -- it is found to be a request, which no login bars, and points the agent, which takes the pointer
  pub record PointsIt : Type 0 where
    pub packet : Packet
    pub found : (judging_step w.target.layer sent.generation sent.bytes).0 ≡ of_request packet
    pub free : is_barred w.target packet ≡ false
    pub pointer : OrbPointer
    pub demand : demand_of (length w.target.rom) packet ≡ demands.Agent q (accesses.Point pointer)
    pub ask : Ask
    pub took : (point_step (desk_at w.target q).agent pointer).0 ≡ Ok ask

  pub opens_up : PointsIt → IsUp (desk_at (received run sent.generation sent.bytes (whole_of w.target media)).1.node q).agent
  unfolding received
  opens_up x =
      let layer = (judging_step w.target.layer sent.generation sent.bytes).1 in
      subst (λ (f : Finding Purpose). IsUp (desk_at (received_as run sent.bytes f (whole (scene (record w.target { layer = layer }) empty_outbox) media.disks)).1.node q).agent) (sym x.found)
      (request_up w g layer q b x.packet sent.bytes x.pointer x.ask x.took x.free x.demand run media)
