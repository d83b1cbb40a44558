-- A time-out of an agent's transaction, and what is asked of its registers, leave all agents at rest.
use Rattle.std.proofs.Common.{◌≡◌, refl, sym, ap, ◌∙◌, subst, ℕ, ◌<◌, ◌≤◌, is_some, Bool, true, false, List, [], Option, Some, None, Ok}
use Rattle.async_packet.specs.Packet.{Packet}
use Rattle.label_table.specs.Layer.{Layer, answering_step}
use Rattle.login_table.specs.declared.login.Login.{Login}
use Rattle.login_table.specs.Table.{Table, place_at}
use Rattle.orb_layout.specs.declared.ask.Ask.{Ask}
use Rattle.orb_layout.specs.declared.ask.Ask.TheVariants.{Nothing}
use Rattle.orb_layout.specs.declared.ask.FailCause.TheVariants as causes
use Rattle.orb_layout.specs.declared.command.CommandOrb.{CommandOrb}
use Rattle.orb_layout.specs.declared.pointer.OrbPointer.{OrbPointer}
use Rattle.orb_layout.specs.declared.pointer.OrbPointer.TheVariants as pointers
use Rattle.command_agent.specs.declared.phase.Phase.{Phase}
use Rattle.command_agent.specs.declared.phase.Phase.TheVariants as phases
use Rattle.command_agent.specs.declared.phase.ReadAhead.{ReadAhead}
use Rattle.command_agent.specs.declared.step.AgentState.{AgentState}
use Rattle.command_agent.specs.declared.step.AgentState.TheVariants as states
use Rattle.command_agent.specs.declared.step.Which.{Which}
use Rattle.command_agent.specs.declared.step.Which.TheVariants.{Main, Ahead}
use Rattle.command_agent.specs.Machine.{Machine, present_of, state_in, is_sent, is_ahead}
use Rattle.command_agent.specs.Steps.{asks, fetch_step, reread_step, point_in, point_step, doorbell_in, doorbell_step, lost_step}
use Rattle.sbp_journal.specs.declared.side.Side.TheVariants as sides
use Rattle.sbp_journal.specs.Outgoings.{OutboxState}
use Rattle.sbp_target.specs.declared.desk.Desk.{Desk}
use Rattle.sbp_target.specs.declared.purpose.Purpose.{Purpose}
use Rattle.sbp_target.specs.declared.purpose.Purpose.TheVariants as purposes
use Rattle.sbp_target.specs.declared.purpose.Sent.{Sent}
use Rattle.target_base.specs.Addresses.{complete, conflict_error, data_error}
use Rattle.sbp_target.specs.Desks.{taken, which_in, expired_desk, pointed_desk}
use Rattle.sbp_target.specs.Sending.{answer_step, with_side}
use Rattle.sbp_target.specs.Telling.{orb_of}
use Rattle.sbp_target.specs.Nodes.{NodeState, Scene, scene, desk_at, login_at, with_desk, with_agent}
use Rattle.sbp_target.specs.Agents.{follow}
use Rattle.sbp_target.specs.Serving.{answered, asked_in, asked_at, pointed_by, point, rung_by, ring}
use Rattle.sbp_target.specs.Receiving.{expired_with, expired_by, expire_agent}
use Rattle.sbp_target.proofs.Histories.Stepped.{is_bare, is_next, moves_data, Fit, Behind, behind_fetch, behind_reread, main_loses, ahead_loses}
use Rattle.sbp_target.proofs.Histories.Seats.{Lives, IsFor, Seat}
use Rattle.sbp_target.proofs.Histories.Primitives.{Known}
use Rattle.sbp_target.proofs.Histories.Following.{node_of, IsServed, Fits, Place, spares_self, mid_step, desk_here, as_flags, follow_rest}
use Rattle.sbp_target.proofs.Histories.Calling.{not_eight, Good, beside, leave_out, rest_good, answer_known, answered_good}
use Rattle.sbp_target.proofs.Histories.Rested.{Ends, Came, for_main, for_ahead, came_for, main_over, ahead_over, over_rest, quiet_follow, enabled_good}

-- ---- a time-out
module _ (q : ℕ) (node : NodeState) (g : Good node) (b : q < 8) (x : Sent) (new : Lives) (layer : Layer Purpose) (e : Ends x g.lives new layer) (i : IsServed node q) (o : OutboxState) where
  abbrev Late : Scene
  Late = scene (record node { layer = layer }) o

  main_late : (desk_at node q).main ≡ Some x → is_sent (desk_at node q).agent.phase ≡ true → Good (expired_with q i.login (expired_desk Main (desk_at node q)) Late).node
  main_late is s =
      let n = not_eight q b in
      let d = desk_at node q in
      let fits = g.mid.fits q b n in
      let l = lost_step d.agent Main causes.Timeout in
      let lost = main_loses d.agent causes.Timeout s fits.agent in
      let now = with_desk (record node { layer = layer }) q (record (taken Main d) { agent = l.1 }) in
      let p = as_flags q l.1 false (is_some d.ahead) false (is_ahead d.agent.ahead) node g.request now refl fits.ahead (main_over q node g b x new layer e l.1 is) in
      rest_good q node (follow q i.login l.0 (scene now o)).node g.request b i (beside node g) (follow_rest q l.1 (is_ahead d.agent.ahead) node g.request i.login l.0 (scene now o) b i.is lost.behind p)

  ahead_late : (desk_at node q).ahead ≡ Some x → is_ahead (desk_at node q).agent.ahead ≡ true → Good (expired_with q i.login (expired_desk Ahead (desk_at node q)) Late).node
  ahead_late is s =
      let n = not_eight q b in
      let d = desk_at node q in
      let fits = g.mid.fits q b n in
      let l = lost_step d.agent Ahead causes.Timeout in
      let over = ahead_loses d.agent causes.Timeout s fits.agent in
      let now = with_desk (record node { layer = layer }) q (record (taken Ahead d) { agent = l.1 }) in
      let p = ahead_over q node g b x new layer e l.1 is in
      let good = rest_good q node now g.request b i (beside node g) (over_rest q d.agent l node now g.request (is_some d.main) over fits.main p) in
      subst (λ (k : NodeState). Good k) (sym (quiet_follow q i.login l.0 (scene now o) over.silent)) good

late_came : (q : ℕ) (node : NodeState) (g : Good node) → q < 8 → (x : Sent) (new : Lives) (layer : Layer Purpose) → Ends x g.lives new layer → (o : OutboxState) → Came q node x → Good (expired_by q (login_at node q) (which_in (desk_at node q) x.peer x.label) (scene (record node { layer = layer }) o)).node
late_came q node g b x new layer e o (for_main is w i s) =
    subst (λ (l : Option Login). Good (expired_by q l (which_in (desk_at node q) x.peer x.label) (scene (record node { layer = layer }) o)).node) (sym i.is)
    (subst (λ (k : Option Which). Good (expired_by q (Some i.login) k (scene (record node { layer = layer }) o)).node) (sym w) (main_late q node g b x new layer e i o is s))
late_came q node g b x new layer e o (for_ahead is w i s) =
    subst (λ (l : Option Login). Good (expired_by q l (which_in (desk_at node q) x.peer x.label) (scene (record node { layer = layer }) o)).node) (sym i.is)
    (subst (λ (k : Option Which). Good (expired_by q (Some i.login) k (scene (record node { layer = layer }) o)).node) (sym w) (ahead_late q node g b x new layer e i o is s))

pub late_good : (q : ℕ) (node : NodeState) (g : Good node) → q < 8 → (x : Sent) (new : Lives) (layer : Layer Purpose) → IsFor g.lives (purposes.Agent q) x → Ends x g.lives new layer → (o : OutboxState) → Good (expire_agent q x.peer x.label (scene (record node { layer = layer }) o)).node
unfolding expire_agent
late_good q node g b x new layer f e o = late_came q node g b x new layer e o (came_for q node g b x f)

-- ---- a request of a register: its agent is another, without a transaction yet, and the request is answered
pub placed_layer : (q : ℕ) (agent : Machine) (main ahead : Bool) (before : NodeState) (request : Option Sent) (node : NodeState) (layer : Layer Purpose) (p : Place q agent main ahead before request node) → Known layer p.lives → Place q agent main ahead before request (record node { layer = layer })
placed_layer q agent main ahead before request node layer p k = record {
  lives = p.lives;
  mid = record {
    known = k;
    size = p.mid.size;
    seats = p.mid.seats;
    fits = p.mid.fits;
    served = λ r s n e. let i = p.mid.served r s n e in record { login = i.login; is = i.is; live = i.live; on_unit = i.on_unit };
    hand = p.mid.hand;
    beyond = p.mid.beyond;
  };
  agent_is = p.agent_is;
  main_is = p.main_is;
  ahead_is = p.ahead_is;
  frame = p.frame;
}

placed_answered : (p : Packet) (bytes : List ℕ) (rcode : ℕ) (given : List ℕ) (q : ℕ) (agent : Machine) (main ahead : Bool) (before : NodeState) (request : Option Sent) (s : Scene) → Place q agent main ahead before request s.node → Place q agent main ahead before request (answered p bytes rcode given s).node
unfolding answer_step
placed_answered p bytes rcode given q agent main ahead before request s h =
    placed_layer q agent main ahead before request s.node (answering_step s.node.layer p bytes rcode given).1 h (answer_known s.node.layer h.lives p bytes rcode given h.mid.known)

-- an agent in RESET or SUSPENDED waits for nothing
abbrev takes : AgentState → Bool
takes states.Reset = true
takes states.Suspended = true
takes states.Active = false
takes states.Dead = false

off : false ≡ true → ⊥
off e = cc

idle_phase : (phase : Phase) → takes (state_in phase) ≡ true → (is_sent phase ≡ false) × (is_bare phase ≡ true)
idle_phase phases.Reset e = (refl, refl)
idle_phase phases.Suspended e = (refl, refl)
idle_phase phases.Fetching e = absurd (off e)
idle_phase phases.ReadingTable e = absurd (off e)
idle_phase (phases.ReadingData wanted) e = absurd (off e)
idle_phase phases.Answering e = absurd (off e)
idle_phase phases.WritingStatus e = absurd (off e)
idle_phase phases.WritingLastStatus e = absurd (off e)
idle_phase phases.ReadingNext e = absurd (off e)
idle_phase phases.Dead e = absurd (off e)

module _ (q : ℕ) (node : NodeState) (g : Good node) (b : q < 8) (i : IsServed node q) (p : Packet) (bytes : List ℕ) where
  renewed : (d : Desk) (main ahead : Bool) → d.main ≡ (desk_at node q).main → d.ahead ≡ (desk_at node q).ahead → is_some (desk_at node q).main ≡ main → is_some (desk_at node q).ahead ≡ ahead → Place q d.agent main ahead node g.request (with_desk node q d)
  renewed d main ahead em ea hm ha =
      let m = leave_out q node g.lives g.request g.mid in
      let here = desk_here q node g.lives g.request m b node.layer d in
      let seat = subst (λ (y : Option Sent). Seat q y d.ahead (node_of (login_at node q)) g.lives) (sym em) (subst (λ (y : Option Sent). Seat q (desk_at node q).main y (node_of (login_at node q)) g.lives) (sym ea) (g.mid.seats q b)) in
      record {
        lives = g.lives;
        mid = mid_step q node g.lives g.request m b node.layer d g.lives g.mid.known (spares_self q g.lives) seat;
        agent_is = ap (λ (y : Desk). y.agent) here;
        main_is = ap (λ (y : Desk). is_some y.main) here ∙ ap (λ (y : Option Sent). is_some y) em ∙ hm;
        ahead_is = ap (λ (y : Desk). is_some y.ahead) here ∙ ap (λ (y : Option Sent). is_some y) ea ∙ ha;
        frame = (refl, refl, refl, refl);
      }

  -- what the agent then asks for leaves
  asked_rest : (d : Desk) (ask : Ask) (o : OutboxState) → Behind false (asks ask, d.agent) → Place q d.agent false false node g.request (with_desk node q d) → Good (asked_at q ask (answered p bytes complete [] (scene (with_desk node q d) o))).node
  asked_rest d ask o h place =
      let s = answered p bytes complete [] (scene (with_desk node q d) o) in
      let now = placed_answered p bytes complete [] q d.agent false false node g.request (scene (with_desk node q d) o) place in
      let l : login_at s.node q ≡ Some i.login = ap (λ (t : Table). place_at t.places q) now.frame.0 ∙ i.is in
      subst (λ (x : Option Login). Good (asked_in q ask x s).node) (sym l)
      (rest_good q node (follow q i.login (asks ask) s).node g.request b i (beside node g) (follow_rest q d.agent false node g.request i.login (asks ask) s b i.is h now))

  fits_here : Fits (desk_at node q)
  fits_here = g.mid.fits q b (not_eight q b)

  -- the agent with another doorbell mark, and nothing else
  rung_good : (m : Machine) → m.phase ≡ (desk_at node q).agent.phase → m.ahead ≡ (desk_at node q).agent.ahead → m.orb ≡ (desk_at node q).agent.orb → Good (with_agent node q m)
  rung_good m ep ea eo =
      let f = fits_here in
      let fit : Fit m = record {
        bare = λ e. ap (λ (x : ReadAhead). is_ahead x) ea ∙ f.agent.bare (sym (ap (λ (x : Phase). is_bare x) ep) ∙ e);
        next = λ e. ap (λ (x : CommandOrb). is_next x.next) eo ∙ f.agent.next (sym (ap (λ (x : ReadAhead). is_ahead x) ea) ∙ e);
        limit = λ e. subst (λ (x : CommandOrb). x.max_payload ≤ 9) (sym eo) (f.agent.limit (sym (ap (λ (x : Phase). moves_data x) ep) ∙ e));
      } in
      let d = record (desk_at node q) { agent = m } in
      let place = renewed d (is_sent m.phase) (is_ahead m.ahead) refl refl (f.main ∙ ap (λ (x : Phase). is_sent x) (sym ep)) (f.ahead ∙ ap (λ (x : ReadAhead). is_ahead x) (sym ea)) in
      rest_good q node (with_agent node q m) g.request b i (beside node g) (record { agent = m; fit = fit; place = place })

  -- nothing is asked for
  unasked : (m : Machine) (o : OutboxState) → Good (with_agent node q m) → Good (asked_at q Nothing (answered p bytes complete [] (scene (with_agent node q m) o))).node
  unasked m o h =
      let s = answered p bytes complete [] (scene (with_agent node q m) o) in
      asked_nothing (login_at s.node q) s (answered_good p bytes complete [] (scene (with_agent node q m) o) h)
    where
      asked_nothing : (l : Option Login) (s : Scene) → Good s.node → Good (asked_in q Nothing l s).node
      asked_nothing None s h = h
      asked_nothing (Some login) s h = subst (λ (k : NodeState). Good k) (sym (quiet_follow q login (asks Nothing) s refl)) h

  takes_of : (state : AgentState) → state_in (desk_at node q).agent.phase ≡ state → takes state ≡ true → takes (state_in (desk_at node q).agent.phase) ≡ true
  takes_of state e f = ap (λ (x : AgentState). takes x) e ∙ f

  taken_pointer : (next : ℕ) (o : OutboxState) → takes (state_in (desk_at node q).agent.phase) ≡ true → Good (pointed_by q p bytes (pointed_desk (desk_at node q) (Ok (fetch_step (desk_at node q).agent next).0.ask, (fetch_step (desk_at node q).agent next).1)) (scene node o)).node
  taken_pointer next o e =
      let m = (fetch_step (desk_at node q).agent next).1 in
      let t = idle_phase (desk_at node q).agent.phase e in
      let d = record (desk_at node q) { agent = m; pointer = present_of m } in
      asked_rest d (fetch_step (desk_at node q).agent next).0.ask (with_side o (sides.Opened q (orb_of m))) (behind_fetch (desk_at node q).agent next)
      (renewed d false false refl refl (fits_here.main ∙ t.0) (fits_here.ahead ∙ fits_here.agent.bare t.1))

  -- ORB_POINTER
  points_in : (state : AgentState) (pointer : OrbPointer) (o : OutboxState) → state_in (desk_at node q).agent.phase ≡ state → Good (pointed_by q p bytes (pointed_desk (desk_at node q) (point_in state (desk_at node q).agent pointer)) (scene node o)).node
  points_in states.Reset pointers.Null o e = answered_good p bytes data_error [] (scene (with_desk node q (desk_at node q)) o) (enabled_good q node b g (desk_at node q).is_enabled)
  points_in states.Reset (pointers.At next) o e = taken_pointer next o (takes_of states.Reset e refl)
  points_in states.Suspended pointers.Null o e = answered_good p bytes data_error [] (scene (with_desk node q (desk_at node q)) o) (enabled_good q node b g (desk_at node q).is_enabled)
  points_in states.Suspended (pointers.At next) o e = taken_pointer next o (takes_of states.Suspended e refl)
  points_in states.Active pointer o e = answered_good p bytes conflict_error [] (scene (with_desk node q (desk_at node q)) o) (enabled_good q node b g (desk_at node q).is_enabled)
  points_in states.Dead pointer o e = answered_good p bytes conflict_error [] (scene (with_desk node q (desk_at node q)) o) (enabled_good q node b g (desk_at node q).is_enabled)

  pub point_good : (pointer : OrbPointer) (o : OutboxState) → Good (point q pointer p bytes (scene node o)).node
  unfolding point point_step
  point_good pointer o = points_in (state_in (desk_at node q).agent.phase) pointer o refl

  -- DOORBELL
  rings_in : (state : AgentState) (o : OutboxState) → state_in (desk_at node q).agent.phase ≡ state → Good (rung_by q p bytes (doorbell_in state (desk_at node q).agent) (scene node o)).node
  rings_in states.Active o e = unasked (record (desk_at node q).agent { doorbell = true }) o (rung_good (record (desk_at node q).agent { doorbell = true }) refl refl refl)
  rings_in states.Reset o e = unasked (desk_at node q).agent o (rung_good (desk_at node q).agent refl refl refl)
  rings_in states.Dead o e = unasked (desk_at node q).agent o (rung_good (desk_at node q).agent refl refl refl)
  rings_in states.Suspended o e =
      let m = (reread_step (desk_at node q).agent).1 in
      let t = idle_phase (desk_at node q).agent.phase (takes_of states.Suspended e refl) in
      let d = record (desk_at node q) { agent = m } in
      let idle = fits_here.agent.bare t.1 in
      asked_rest d (reread_step (desk_at node q).agent).0.ask o (behind_reread (desk_at node q).agent idle) (renewed d false false refl refl (fits_here.main ∙ t.0) (fits_here.ahead ∙ idle))

  pub ring_good : (o : OutboxState) → Good (ring q p bytes (scene node o)).node
  unfolding ring doorbell_step
  ring_good o = rings_in (state_in (desk_at node q).agent.phase) o refl
