-- Where requests find labels, no transaction of an agent is lost for want of one in what follows its step, and what the operation asks for leaves.
use Rattle.sbp_world.proofs.Words.Std.{arith, ◌≡◌, ◌∙◌, refl, sym, ap, subst, ℕ, suc, ◌<◌, ◌≤◌, nat_le, is_some, Bool, true, false, cond, length, Option, Some, None, get_or-set_same}
use Rattle.sbp_world.proofs.Words.Wire.{Asked, Body, Layer, OutboxState, asking_step, block_read, free_labels}
use Rattle.sbp_world.proofs.Words.Target.{AgentMachine, AgentStep, Desk, Login, NodeState, Purpose, Scene, after_ahead, after_main, agent_body, ahead_asked, ahead_sent, ask_main, ask_manager, desk_at, dropped_by, follow, main_asked, main_sent, manager_asked, manager_sent, new_desk, noted, promoted_by, promoted_desk, request_step, scene, send_ahead, sent_by}
use Rattle.sbp_world.proofs.Words.Initiator.{Ask}
use Rattle.orb_layout.specs.declared.ask.Ask.TheVariants as asks
use Rattle.orb_layout.specs.declared.ask.FailCause.{FailCause}
use Rattle.sbp_target.specs.declared.purpose.Purpose.TheVariants as purposes
use Rattle.sbp_target.specs.Histories.Moves.{sending}
use Rattle.target_base.specs.Logins.{is_below_reserve}
use Rattle.sbp_world.specs.Completing.LabelsAsked.{AskedLaw, Follows, IsNoWrite, MayAsk, OperationAsks, StepsOn, other, quadlet, read}
use Rattle.sbp_world.specs.Completing.LabelsFound.{Behind, Finds, FindsLabels}
use Rattle.sbp_world.specs.Completing.LabelsFound as found
use Rattle.sbp_world.proofs.Common.{untrue}

-- ---- what is told of a step that does not make its agent dead
noted_layer : (place : ℕ) (step : AgentStep) (s : Scene) → step.dead ≡ None → (noted place step s).node.layer ≡ s.node.layer
unfolding noted
noted_layer place step s e = ap (λ (d : Option FailCause). (promoted_by step.promoted place (dropped_by d place s.node)).layer) e ∙ promoted_layer step.promoted
  where
    promoted_layer : (b : Bool) → (promoted_by b place s.node).layer ≡ s.node.layer
    promoted_layer true = refl
    promoted_layer false = refl

noted_agent : (place : ℕ) (step : AgentStep) (s : Scene) → place < length s.node.desks → step.dead ≡ None → (desk_at (noted place step s).node place).agent ≡ (desk_at s.node place).agent
unfolding noted
noted_agent place step s b e = ap (λ (d : Option FailCause). (desk_at (promoted_by step.promoted place (dropped_by d place s.node)) place).agent) e ∙ promoted_agent step.promoted
  where
    promoted_agent : (t : Bool) → (desk_at (promoted_by t place s.node) place).agent ≡ (desk_at s.node place).agent
    promoted_agent true = ap (λ (d : Desk). d.agent) (get_or-set_same s.node.desks place (promoted_desk (desk_at s.node place)) new_desk b)
    promoted_agent false = refl

module _ (first : Layer Purpose) (peer : ℕ) (f : FindsLabels first peer) where
  -- ---- what may be asked for finds a label
  may_find : (made : ℕ) (layer : Layer Purpose) → Behind first peer made layer → made < 20 → (body : Body) → MayAsk layer peer (Some body) → Finds layer peer body
  may_find made layer h b _ (read offset len) = f.reads made layer h b offset len
  may_find made layer h b _ (quadlet offset) = f.quadlets made layer h b offset
  may_find made layer h b _ (other body s) = f.others made layer h body s

  -- a request that finds one
  sent_main : (place : ℕ) (node : NodeState) (outbox : OutboxState) (r : Option Asked × Layer Purpose) → is_some r.0 ≡ true → (main_sent place peer node (sent_by r outbox peer)).0 ≡ true
  sent_main place node outbox (Some one, layer) e = refl
  sent_main place node outbox (None, layer) e = untrue e

  main_layer : (place : ℕ) (node : NodeState) (outbox : OutboxState) (r : Option Asked × Layer Purpose) → (main_sent place peer node (sent_by r outbox peer)).1.node.layer ≡ r.1
  main_layer place node outbox (Some one, layer) = refl
  main_layer place node outbox (None, layer) = refl

  sent_ahead : (place : ℕ) (node : NodeState) (outbox : OutboxState) (r : Option Asked × Layer Purpose) → is_some r.0 ≡ true → (ahead_sent place peer node (sent_by r outbox peer)).0 ≡ true
  sent_ahead place node outbox (Some one, layer) e = refl
  sent_ahead place node outbox (None, layer) e = untrue e

  -- ---- an agent
  module _ (place : ℕ) (login : Login) (to : login.node ≡ peer) where
    record Main (made : ℕ) (r : Bool × Scene) : Type 0 where
      sent : r.0 ≡ true
      later : ℕ
      few : later ≤ suc made
      behind : Behind first peer later r.1.node.layer

    main_by : (made : ℕ) (s : Scene) → Behind first peer made s.node.layer → made < 20 → (body : Option Body) → MayAsk s.node.layer peer body → Main made (main_asked body place login s)
    unfolding request_step
    main_by made s h b None m = record { sent = refl; later = made; few = omega arith; behind = h }
    main_by made s h b (Some body) m =
        subst (λ p. Main made (main_sent place p s.node (sent_by (asking_step s.node.layer p body (purposes.Agent place)) s.outbox p))) (sym to)
        (let r = asking_step s.node.layer peer body (purposes.Agent place) in
        record {
          sent = sent_main place s.node s.outbox r (may_find made s.node.layer h b body m (purposes.Agent place));
          later = suc made;
          few = omega arith;
          behind = subst (Behind first peer (suc made)) (sym (main_layer place s.node s.outbox r)) (found.asks made s.node.layer body (purposes.Agent place) h);
        })

    ahead_if : (made : ℕ) (s : Scene) → Behind first peer made s.node.layer → made ≤ 4 → (offset len : ℕ) → (ahead_asked (Some (block_read offset len)) place login s).0 ≡ true
    unfolding request_step
    ahead_if made s h b offset len =
        subst (λ p. (cond (is_below_reserve (free_labels s.node.layer p)) (false, s) (ahead_sent place p s.node (sent_by (asking_step s.node.layer p (block_read offset len) (purposes.Agent place)) s.outbox p))).0 ≡ true) (sym to)
        (let sent = ahead_sent place peer s.node (sent_by (asking_step s.node.layer peer (block_read offset len) (purposes.Agent place)) s.outbox peer) in
        ap (λ x. (cond x (false, s) sent).0) (f.ahead made s.node.layer h b)
        ∙ sent_ahead place s.node s.outbox (asking_step s.node.layer peer (block_read offset len) (purposes.Agent place)) (f.reads made s.node.layer h (omega (arith, b)) offset len (purposes.Agent place)))

    ahead_of : (made : ℕ) (s : Scene) → Behind first peer made s.node.layer → made ≤ 4 → (offset len : ℕ) (b : Bool) → (ahead_asked (cond b (Some (block_read offset len)) None) place login s).0 ≡ true
    ahead_of made s h b offset len true = ahead_if made s h b offset len
    ahead_of made s h b offset len false = refl

    ahead_by : (made : ℕ) (s : Scene) → Behind first peer made s.node.layer → made ≤ 4 → (ask : Ask) → IsNoWrite ask → (send_ahead place login ask s).0 ≡ true
    unfolding send_ahead
    ahead_by made s h b asks.Nothing n = refl
    ahead_by made s h b (asks.Read offset len) n = ahead_of made s h b offset len (nat_le len 2048)
    ahead_by made s h b (asks.Write offset len) n = absurd n

    -- what follows a step
    after_true : (step : AgentStep) (r : Bool × Scene) → r.0 ≡ true → (send_ahead place login step.ahead r.1).0 ≡ true → after_main place login step r ≡ (send_ahead place login step.ahead r.1).1
    after_true step (false, s) e g = untrue e
    after_true step (true, s) e g = by (send_ahead place login step.ahead s) g
      where
        by : (x : Bool × Scene) → x.0 ≡ true → after_ahead place login x ≡ x.1
        by (true, t) z = refl
        by (false, t) z = untrue z

    agent_follows : (made : ℕ) (step : AgentStep) (s : Scene) → StepsOn first made place login step s → Follows place login step s
    unfolding follow ask_main
    agent_follows made step s h =
        let t = noted place step s in
        let layer_is = noted_layer place step s h.alive in
        let asks_is = ap (λ (m : AgentMachine). agent_body step.ask (is_some step.ended) login.fifo m.outgoing) (noted_agent place step s h.there h.alive) in
        let behind : Behind first peer made t.node.layer = subst (Behind first peer made) (sym layer_is) (subst (λ p. Behind first p made s.node.layer) to h.behind) in
        let may = subst (λ (b : Option Body). MayAsk t.node.layer peer b) (sym asks_is) (subst (λ (l : Layer Purpose). MayAsk l peer (agent_body step.ask (is_some step.ended) login.fifo (desk_at s.node place).agent.outgoing)) (sym layer_is) (subst (λ p. MayAsk s.node.layer p (agent_body step.ask (is_some step.ended) login.fifo (desk_at s.node place).agent.outgoing)) to h.asks)) in
        let few = h.few in
        let m = main_by made t behind (omega (arith, few)) (agent_body step.ask (is_some step.ended) login.fifo (desk_at t.node place).agent.outgoing) may in
        let later = m.few in
        let ahead = ahead_by m.later (ask_main place login step t).1 m.behind (omega (arith, few, later)) step.ahead h.ahead in
        record { main = m.sent; ahead = ahead; is = after_true step (ask_main place login step t) m.sent ahead }

  -- ---- the operation
  sent_operation : (node : NodeState) (outbox : OutboxState) (r : Option Asked × Layer Purpose) → is_some r.0 ≡ true → manager_sent node (sent_by r outbox peer) ≡ scene (record node { layer = (sent_by r outbox peer).1.0 }) (sent_by r outbox peer).1.1
  sent_operation node outbox (Some one, layer) e = refl
  sent_operation node outbox (None, layer) e = untrue e

  operation_asks : (made : ℕ) (ask : Ask) (body : Body) (s : Scene) → OperationAsks first made peer ask body s → ask_manager peer ask s ≡ sending peer body purposes.Management s
  unfolding ask_manager request_step
  operation_asks made ask body s h =
      ap (λ (b : Option Body). manager_asked b peer s) h.body_is
      ∙ sent_operation s.node s.outbox (asking_step s.node.layer peer body purposes.Management) (may_find made s.node.layer h.behind h.few body h.asks purposes.Management)

pub asked_law : AskedLaw
asked_law = record {
  agents = λ first peer f made place login step s to h. agent_follows first peer f place login to made step s h;
  operation = λ first peer f made ask body s h. operation_asks first peer f made ask body s h;
}
