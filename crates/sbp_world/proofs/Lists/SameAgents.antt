-- Where a step of an agent is told, a request leaves, and other logins hear of a disc, the agents stay the same. So what is kept by the same agents with
-- the same sides is kept by all that follows a step, where a loss keeps it, and by all that hears of a disc, where what is told of it does.
use Rattle.sbp_world.proofs.Words.Std.{arith, ◌≡◌, refl, ◌∙◌, ap, ℕ, ◌+◌, ◌<◌, ◌≤◌, nat_eq, Bool, true, false, cond, length, Option, Some, None, nat_tests}
use Rattle.sbp_world.proofs.Words.Wire.{LabelParts, Body, block_write, Layer, OutboxState}
use Rattle.sbp_world.proofs.Words.Target.{AgentStep, Which, Login, block, Desk, Purpose, ahead_sent, dropped_by, follow, main_sent, noted, promoted_by, sent_to, without_ahead, new_desk, Announced, Behind, asks_ahead, asks_main, loses, lost_at, pushes, stay, withholds, NodeState, Scene, desk_at, scene, with_desk, request_step, with_side, announce_from, unsolicited_by, unsolicited_from, changed_by, tell_step}
use Rattle.sbp_world.proofs.Words.Initiator.{FailCause}
use Rattle.std.proofs.lemmas.List.{length-set}
use Rattle.label_table.proofs.Owned.{set_at}
use Rattle.sbp_journal.specs.declared.side.Side.TheVariants as sides
use Rattle.sbp_target.specs.declared.purpose.Purpose.TheVariants as purposes
use Rattle.sbp_target.proofs.Histories.Moved.{announce_from_moves, behind_moves}
use Rattle.sbp_target.proofs.Histories.Views.{kept, requests}

-- ---- the agents of a node

-- the same agents
pub record AreSame (before now : NodeState) : Type 0 where
  pub desks : length now.desks ≡ length before.desks
  pub agents : (p : ℕ) → (desk_at now p).agent ≡ (desk_at before p).agent

pub are_self : (node : NodeState) → AreSame node node
are_self node = record { desks = refl; agents = λ p. refl }

pub are_then : (one two three : NodeState) → AreSame one two → AreSame two three → AreSame one three
are_then one two three a b = record { desks = b.desks ∙ a.desks; agents = λ p. b.agents p ∙ a.agents p }

pub changed_same : (x : Bool) (unit place : ℕ) (node : NodeState) → AreSame node (changed_by x unit place node)
changed_same true unit place node = record { desks = refl; agents = λ p. refl }
changed_same false unit place node = are_self node

-- what a step tells
pub noted_outbox : (q : ℕ) (step : AgentStep) (s : Scene) → (noted q step s).outbox ≡ tell_step q (desk_at s.node q).agent step s.outbox
unfolding noted
noted_outbox q step s = refl

desk_is : (node : NodeState) (k p : ℕ) (d : Desk) → k < length node.desks → desk_at (with_desk node k d) p ≡ cond (nat_eq p k) d (desk_at node p)
desk_is node k p d b = set_at node.desks k p d new_desk b

pub with_same : (node : NodeState) (k : ℕ) (d : Desk) → k < length node.desks → d.agent ≡ (desk_at node k).agent → AreSame node (with_desk node k d)
with_same node k d b e = record { desks = length-set node.desks k d; agents = λ p. ap (λ (x : Desk). x.agent) (desk_is node k p d b) ∙ by p (nat_eq p k) refl }
  where
    by : (p : ℕ) (x : Bool) → nat_eq p k ≡ x → (cond x d (desk_at node p)).agent ≡ (desk_at node p).agent
    by p true f = let same : k ≡ p = grind (arith, nat_tests) in e ∙ ap (λ j. (desk_at node j).agent) same
    by p false f = refl

pub set_here : (node : NodeState) (k : ℕ) (d : Desk) → k < length node.desks → desk_at (with_desk node k d) k ≡ d
set_here node k d b =
    let same : nat_eq k k ≡ true = grind (arith, nat_tests) in desk_is node k k d b ∙ ap (λ x. cond x d (desk_at node k)) same

pub set_there : (node : NodeState) (k p : ℕ) (d : Desk) → k < length node.desks → (p ≡ k → ⊥) → desk_at (with_desk node k d) p ≡ desk_at node p
set_there node k p d b f = desk_is node k p d b ∙ by (nat_eq p k) refl
  where
    by : (x : Bool) → nat_eq p k ≡ x → cond x d (desk_at node p) ≡ desk_at node p
    by true e = absurd (f (let same : p ≡ k = grind (arith, nat_tests) in same))
    by false e = refl

-- ---- steps of a node

module _ (q : ℕ) (b : q < 8) where
  dropped_same : (dead : Option FailCause) (node : NodeState) → length node.desks ≡ 8 → AreSame node (dropped_by dead q node)
  unfolding without_ahead
  dropped_same None node e = are_self node
  dropped_same (Some cause) node e = let w = with_same node q (record (desk_at node q) { ahead = None }) (omega (arith, e)) refl in record { desks = w.desks; agents = w.agents }

  promoted_same : (x : Bool) (node : NodeState) → length node.desks ≡ 8 → AreSame node (promoted_by x q node)
  promoted_same false node e = are_self node
  promoted_same true node e = with_same node q (record (desk_at node q) { main = (desk_at node q).ahead; ahead = None }) (omega (arith, e)) refl

  pub noted_same : (step : AgentStep) (s : Scene) → length s.node.desks ≡ 8 → AreSame s.node (noted q step s).node
  unfolding noted
  noted_same step s e =
      let d = dropped_same step.dead s.node e in
      are_then s.node (dropped_by step.dead q s.node) (promoted_by step.promoted q (dropped_by step.dead q s.node)) d (promoted_same step.promoted (dropped_by step.dead q s.node) (d.desks ∙ e))

  main_same : (peer : ℕ) (node : NodeState) (r : Option LabelParts × (Layer Purpose × OutboxState)) → length node.desks ≡ 8 → AreSame node (main_sent q peer node r).1.node
  main_same peer node (None, (layer, outbox)) e = record { desks = refl; agents = λ p. refl }
  main_same peer node (Some label, (layer, outbox)) e =
      let w = with_same (record node { layer = layer }) q (record (desk_at node q) { main = Some (sent_to peer label) }) (omega (arith, e)) refl in
      record { desks = w.desks; agents = w.agents }

  main_sides : (peer : ℕ) (node : NodeState) (r : Option LabelParts × (Layer Purpose × OutboxState)) → (main_sent q peer node r).1.outbox.sides ≡ r.1.1.sides
  main_sides peer node (None, (layer, outbox)) = refl
  main_sides peer node (Some label, (layer, outbox)) = refl

  ahead_same : (peer : ℕ) (node : NodeState) (r : Option LabelParts × (Layer Purpose × OutboxState)) → length node.desks ≡ 8 → AreSame node (ahead_sent q peer node r).1.node
  ahead_same peer node (None, (layer, outbox)) e = record { desks = refl; agents = λ p. refl }
  ahead_same peer node (Some label, (layer, outbox)) e =
      let w = with_same (record node { layer = layer }) q (record (desk_at node q) { ahead = Some (sent_to peer label) }) (omega (arith, e)) refl in
      record { desks = w.desks; agents = w.agents }

  ahead_sides : (peer : ℕ) (node : NodeState) (r : Option LabelParts × (Layer Purpose × OutboxState)) → (ahead_sent q peer node r).1.outbox.sides ≡ r.1.1.sides
  ahead_sides peer node (None, (layer, outbox)) = refl
  ahead_sides peer node (Some label, (layer, outbox)) = refl

asked_sides : (s : Scene) (peer : ℕ) (body : Body) (purpose : Purpose) → (request_step s.node.layer s.outbox peer body purpose).1.1.sides ≡ s.outbox.sides
asked_sides s peer body purpose = requests (λ told. told ≡ s.outbox.sides) s peer body purpose refl

-- what is kept by the same agents with the same sides, in a node of eight places
module _ (P : Scene → Type 0) (desks : (s : Scene) → P s → length s.node.desks ≡ 8) (alike : (s t : Scene) → AreSame s.node t.node → t.outbox.sides ≡ s.outbox.sides → P s → P t) where
  module _ (q : ℕ) (b : q < 8) (login : Login) (lose : (which : Which) (s : Scene) → P s → P (lost_at q which s)) where
    behind : (x y : Scene) → Behind q login x y → P x → P y
    behind _ _ (loses which s e) h = lose which s h
    behind _ _ (asks_main ask is_status body s e) h =
        let r = request_step s.node.layer s.outbox login.node body (purposes.Agent q) in
        alike s _ (main_same q b login.node s.node r (desks s h)) (main_sides q b login.node s.node r ∙ asked_sides s login.node body (purposes.Agent q)) h
    behind _ _ (asks_ahead ask body s e) h =
        let r = request_step s.node.layer s.outbox login.node body (purposes.Agent q) in
        alike s _ (ahead_same q b login.node s.node r (desks s h)) (ahead_sides q b login.node s.node r ∙ asked_sides s login.node body (purposes.Agent q)) h

    pub follow_alike : (step : AgentStep) (s : Scene) → P (noted q step s) → P (follow q login step s)
    follow_alike step s h =
        let t = noted q step s in kept (Behind q login) P behind t _ (behind_moves (Behind q login) q login (λ x y m. m) t step s (stay t)) h

  module _ (heard : (place : ℕ) (sent : Bool) (s : Scene) → P s → P (scene s.node (with_side s.outbox (cond sent (sides.Unsolicited place) (sides.Unsent place))))) where
    unsolicited : (place peer : ℕ) (s : Scene) (r : Option LabelParts × (Layer Purpose × OutboxState)) → place < 8 → r.1.1.sides ≡ s.outbox.sides → P s → P (unsolicited_by place peer s.node r)
    unsolicited place peer s (None, (layer, outbox)) c e h =
        let t = scene (record s.node { layer = layer }) outbox in heard place false t (alike s t (record { desks = refl; agents = λ p. refl }) e h)
    unsolicited place peer s (Some label, (layer, outbox)) c e h =
        let t = scene (unsolicited_from place peer layer s.node) outbox in
        let w = with_same s.node place (record (desk_at s.node place) { is_enabled = false }) (let d = desks s h in omega (arith, d)) refl in
        heard place true t (alike s t (record { desks = w.desks; agents = w.agents }) e h)

    announced : (unit from : ℕ) (x y : Scene) → Announced unit from x y → P x → P y
    announced unit from _ _ (pushes place login s e) h =
        let body = block_write login.fifo block in
        unsolicited place login.node s (request_step s.node.layer s.outbox login.node body purposes.Unsolicited) e.small (asked_sides s login.node body purposes.Unsolicited) h
    announced unit from _ _ (withholds place login s e) h = heard place false s h

    pub announce_alike : (left place unit from : ℕ) → left + place ≤ 8 → (s : Scene) → P s → P (announce_from left place unit from s)
    announce_alike left place unit from c s h =
        kept (Announced unit from) P (announced unit from) s _ (announce_from_moves (Announced unit from) unit from (λ x y m. m) s left place s c (stay s)) h
