-- What follows a step of the agent of a place leaves the desks of the other places, its register for unsolicited status, and the management agent.
use Rattle.std.proofs.Common.{arith, ◌≡◌, ◌≢◌, refl, ap, ◌∙◌, ℕ, ◌+◌, ◌<◌, ◌≤◌, Bool, true, false, List, length, slice_index_or, slice_set, Option, Some, None}
use Rattle.std.proofs.lemmas.List.{get_or-set_other, get_or-set_same, length-set}
use Rattle.async_packet.specs.Labels.{LabelParts}
use Rattle.label_table.specs.Layer.{Layer}
use Rattle.orb_layout.specs.declared.ask.FailCause.{FailCause}
use Rattle.orb_layout.specs.Pointers.{bit}
use Rattle.mgmt_agent.specs.Machine as management
use Rattle.command_agent.specs.declared.step.AgentStep.{AgentStep}
use Rattle.command_agent.specs.Machine.{Machine}
use Rattle.command_agent.specs.Counting.{mark, left_of}
use Rattle.sbp_journal.specs.Outgoings.{OutboxState}
use Rattle.sbp_target.specs.declared.desk.Desk.{Desk}
use Rattle.sbp_target.specs.declared.purpose.Purpose.{Purpose}
use Rattle.sbp_target.specs.Agents.{ahead_sent, dropped_by, main_sent, noted, promoted_by, sent_to, without_ahead}
use Rattle.sbp_target.specs.Desks.{new_desk, promoted_desk}
use Rattle.sbp_target.specs.Nodes.{NodeState, Scene, desk_at, with_desk}
use Rattle.sbp_target.specs.Requests.{requests}
use Rattle.sbp_target.specs.RequestsLeft.{desk_left, node_left, operation_left, place_left}
use Rattle.sbp_target.proofs.Requests.Sums.{sum_but}

pub record Frame (q : ℕ) (x y : NodeState) : Type 0 where
  pub size : length y.desks ≡ length x.desks
  pub others : (p : ℕ) → p ≢ q → desk_at y p ≡ desk_at x p
  pub enabled : (desk_at y q).is_enabled ≡ (desk_at x q).is_enabled
  pub manager : y.manager ≡ x.manager

-- with the same agent
pub record Alike (q : ℕ) (x y : NodeState) : Type 0 where
  pub frame : Frame q x y
  pub agent : (desk_at y q).agent ≡ (desk_at x q).agent

pub framed_then : (q : ℕ) (x y z : NodeState) → Frame q x y → Frame q y z → Frame q x z
framed_then q x y z f g = record {
  size = g.size ∙ f.size;
  others = λ p n. g.others p n ∙ f.others p n;
  enabled = g.enabled ∙ f.enabled;
  manager = g.manager ∙ f.manager;
}

alike_then : (q : ℕ) (x y z : NodeState) → Alike q x y → Alike q y z → Alike q x z
alike_then q x y z f g = record { frame = framed_then q x y z f.frame g.frame; agent = g.agent ∙ f.agent }

-- ---- another desk stands in the place
pub desk_here : (node : NodeState) (q : ℕ) (d : Desk) → q < length node.desks → desk_at (with_desk node q d) q ≡ d
desk_here node q d inside = get_or-set_same node.desks q d new_desk inside

pub desk_there : (node : NodeState) (q : ℕ) (d : Desk) (p : ℕ) → p ≢ q → desk_at (with_desk node q d) p ≡ desk_at node p
desk_there node q d p other = get_or-set_other node.desks q p d new_desk other

pub seats : (q : ℕ) (x y : NodeState) (d : Desk) → q < length x.desks → y.desks ≡ slice_set x.desks q d → y.manager ≡ x.manager → d.is_enabled ≡ (desk_at x q).is_enabled → Frame q x y
seats q x y d inside desks manager enabled = record {
  size = ap length desks ∙ length-set x.desks q d;
  others = λ p n. ap (λ (all : List Desk). slice_index_or all p new_desk) desks ∙ desk_there x q d p n;
  enabled = ap (λ (all : List Desk). (slice_index_or all q new_desk).is_enabled) desks ∙ (ap (λ (e : Desk). e.is_enabled) (desk_here x q d inside) ∙ enabled);
  manager = manager;
}

pub seated_agent : (q : ℕ) (x y : NodeState) (d : Desk) → q < length x.desks → y.desks ≡ slice_set x.desks q d → (desk_at y q).agent ≡ d.agent
seated_agent q x y d inside desks = ap (λ (all : List Desk). (slice_index_or all q new_desk).agent) desks ∙ ap (λ (e : Desk). e.agent) (desk_here x q d inside)

pub same_desks : (q : ℕ) (x y : NodeState) → y.desks ≡ x.desks → y.manager ≡ x.manager → Alike q x y
same_desks q x y desks manager = record {
  frame = record {
    size = ap length desks;
    others = λ p n. ap (λ (all : List Desk). slice_index_or all p new_desk) desks;
    enabled = ap (λ (all : List Desk). (slice_index_or all q new_desk).is_enabled) desks;
    manager = manager;
  };
  agent = ap (λ (all : List Desk). (slice_index_or all q new_desk).agent) desks;
}

-- ---- what follows a step
module _ (q : ℕ) where
  reseats : (x y : NodeState) (d : Desk) → q < length x.desks → y.desks ≡ slice_set x.desks q d → y.manager ≡ x.manager → d.is_enabled ≡ (desk_at x q).is_enabled → d.agent ≡ (desk_at x q).agent → Alike q x y
  reseats x y d inside desks manager enabled agent = record { frame = seats q x y d inside desks manager enabled; agent = seated_agent q x y d inside desks ∙ agent }

  drops : (dead : Option FailCause) (x : NodeState) → q < length x.desks → Alike q x (dropped_by dead q x)
  unfolding without_ahead
  drops None x inside = same_desks q x x refl refl
  drops (Some cause) x inside = reseats x (without_ahead q x) (record (desk_at x q) { ahead = None }) inside refl refl refl refl

  promotes : (b : Bool) (x : NodeState) → q < length x.desks → Alike q x (promoted_by b q x)
  promotes false x inside = same_desks q x x refl refl
  promotes true x inside = reseats x _ (promoted_desk (desk_at x q)) inside refl refl refl refl

  pub notes_alike : (step : AgentStep) (s : Scene) → q < length s.node.desks → Alike q s.node (noted q step s).node
  unfolding noted
  notes_alike step s inside =
      let d = drops step.dead s.node inside in
      let size = d.frame.size in
      let between = dropped_by step.dead q s.node in
      alike_then q s.node between (promoted_by step.promoted q between) d (promotes step.promoted between (omega (arith, size, inside)))

  pub main_alike : (peer : ℕ) (x : NodeState) (r : Option LabelParts × (Layer Purpose × OutboxState)) → q < length x.desks → Alike q x (main_sent q peer x r).1.node
  main_alike peer x (Some label, (layer, outbox)) inside = reseats x _ (record (desk_at x q) { main = Some (sent_to peer label) }) inside refl refl refl refl
  main_alike peer x (None, (layer, outbox)) inside = same_desks q x _ refl refl

  pub ahead_alike : (peer : ℕ) (x : NodeState) (r : Option LabelParts × (Layer Purpose × OutboxState)) → q < length x.desks → Alike q x (ahead_sent q peer x r).1.node
  ahead_alike peer x (Some label, (layer, outbox)) inside = reseats x _ (record (desk_at x q) { ahead = Some (sent_to peer label) }) inside refl refl refl refl
  ahead_alike peer x (None, (layer, outbox)) inside = same_desks q x _ refl refl

-- the requests handed out, and those yet to be made
abbrev pub sent_or_left : (tables chunks : ℕ → ℕ) → Scene → ℕ
sent_or_left tables chunks s = requests s.outbox.packets + node_left tables chunks s.node

-- ---- the number of a node differs by that of the place's agent
module _ (tables chunks : ℕ → ℕ) (q : ℕ) where
  abbrev pub agent_left : Machine → ℕ
  agent_left m = left_of (tables q) (chunks q) m + mark m

  pub framed_left : (x y : NodeState) → q < 8 → Frame q x y → node_left tables chunks y + agent_left (desk_at x q).agent ≤ node_left tables chunks x + agent_left (desk_at y q).agent
  framed_left x y small f =
      let all = sum_but 8 (place_left tables chunks y) (place_left tables chunks x) q small (λ p b n. let same = ap (λ (d : Desk). desk_left (tables p) (chunks p) d) (f.others p n) in omega (arith, same)) in
      let enabled = ap bit f.enabled in
      let manager = ap (λ (m : management.Machine). operation_left m.operation) f.manager in
      omega (arith, all, enabled, manager)
