-- What follows a step of an agent sends no more requests than the step asks for.
use Rattle.std.proofs.Common.{arith, ◌≡◌, refl, ap, ◌∙◌, ℕ, ◌+◌, ◌<◌, ◌≤◌, is_some, Bool, true, false, cond, slice_set, slice_index_or, List, [], ◌∷◌, ◌++◌, length, Option, Some, None}
use Rattle.std.proofs.lemmas.List.{get_or-set_same, length-set}
use Rattle.async_packet.specs.Labels.{LabelParts}
use Rattle.label_table.specs.declared.judgement.Asked.{Asked}
use Rattle.label_table.specs.Bodies.{Body}
use Rattle.label_table.specs.Layer.{Layer, asking_step, free_labels}
use Rattle.login_table.specs.declared.login.Login.{Login}
use Rattle.orb_layout.specs.declared.ask.Ask.{Ask}
use Rattle.orb_layout.specs.declared.ask.Ask.TheVariants as asks
use Rattle.orb_layout.specs.declared.ask.FailCause.{FailCause}
use Rattle.orb_layout.specs.declared.ask.FailCause.TheVariants as causes
use Rattle.orb_layout.specs.declared.status.StatusKind.{StatusKind}
use Rattle.orb_layout.specs.Pointers.{bit}
use Rattle.rbc_disk.specs.declared.command.Outcome.{Outcome}
use Rattle.command_agent.specs.declared.step.AgentStep.{AgentStep}
use Rattle.command_agent.specs.declared.step.Which.TheVariants.{Main, Ahead}
use Rattle.command_agent.specs.Machine.{Machine, is_under_way, rung_in}
use Rattle.command_agent.specs.Steps.{lost_step}
use Rattle.command_agent.specs.Counting.{is_made, mark, left_of, made}
use Rattle.command_agent.proofs.Counting.{failures_make_no_more, lost_aheads_make_no_more}
use Rattle.sbp_journal.specs.declared.outbox.Outgoing.{Outgoing}
use Rattle.sbp_journal.specs.Outgoings.{OutboxState}
use Rattle.target_base.specs.Logins.{is_below_reserve}
use Rattle.sbp_target.specs.declared.desk.Desk.{Desk}
use Rattle.sbp_target.specs.declared.purpose.Purpose.{Purpose}
use Rattle.sbp_target.specs.declared.purpose.Purpose.TheVariants as purposes
use Rattle.sbp_target.specs.Agents.{agent_body, after_ahead, after_loss, after_main, ahead_asked, ahead_sent, ask_ahead, ask_main, dropped_by, follow, lose, lose_main, lost_by, main_asked, main_sent, noted, promoted, promoted_by, send_ahead, sent_to, without_ahead}
use Rattle.sbp_target.specs.Desks.{new_desk, promoted_desk}
use Rattle.sbp_target.specs.Nodes.{NodeState, Scene, scene, desk_at, with_agent}
use Rattle.sbp_target.specs.Requests.{requests, agent_at, counts, FollowsAreCounted}
use Rattle.sbp_target.specs.Sending.{request_step, sent_by}
use Rattle.sbp_target.specs.Telling.{tell_dead, tell_ended, tell_ran, tell_step}

-- ---- packets
pub one_more : (packets : List Outgoing) (to : ℕ) (label : LabelParts) (bytes : List ℕ) → requests (packets ++ record { to = to; label = Some label; bytes = bytes } ∷ []) ≡ requests packets + 1
one_more [] to label bytes = refl
one_more (packet ∷ packets) to label bytes = let rest = one_more packets to label bytes in omega (arith, rest)

-- what is told beside them leaves them
ended_packets : (place : ℕ) (m : Machine) (ended : Option StatusKind) (o : OutboxState) → (tell_ended place m ended o).packets ≡ o.packets
ended_packets place m None o = refl
ended_packets place m (Some status) o = refl

dead_packets : (place : ℕ) (dead : Option FailCause) (o : OutboxState) → (tell_dead place dead o).packets ≡ o.packets
dead_packets place None o = refl
dead_packets place (Some cause) o = refl

ran_packets : (place : ℕ) (m : Machine) (ran : Option Outcome) (o : OutboxState) → (tell_ran place m ran o).packets ≡ o.packets
ran_packets place m None o = refl
ran_packets place m (Some outcome) o = refl

pub told_packets : (place : ℕ) (m : Machine) (step : AgentStep) (o : OutboxState) → (tell_step place m step o).packets ≡ o.packets
unfolding tell_step
told_packets place m step o =
    ended_packets place m step.ended (tell_dead place step.dead (tell_ran place m step.ran o))
    ∙ dead_packets place step.dead (tell_ran place m step.ran o)
    ∙ ran_packets place m step.ran o

-- what an agent asks for as a request is one
asks_one : (ask : Ask) (is_status : Bool) (fifo : ℕ) (outgoing : List ℕ) (body : Body) → agent_body ask is_status fifo outgoing ≡ Some body → is_made ask ≡ 1
asks_one (asks.Read offset len) is_status fifo outgoing body e = refl
asks_one (asks.Write offset len) is_status fifo outgoing body e = refl
asks_one asks.Nothing is_status fifo outgoing body e = cc e

bit_one : (b : Bool) → bit b ≤ 1
bit_one true = omega arith
bit_one false = omega arith

module _ (tables chunks place : ℕ) where
  -- the number of a scene is at most so much
  pub record Within (most : ℕ) (s : Scene) : Type 0 where
    pub few : counts tables chunks place s ≤ most
    pub inside : place < length s.node.desks

  weaken : {some most : ℕ} {s : Scene} → some ≤ most → Within some s → Within most s
  weaken less w = record { few = omega (arith, less, w.few); inside = w.inside }

  -- a scene with as many requests more, and the same agent in the place
  like : (x y : Scene) (more most : ℕ) → agent_at place y ≡ agent_at place x → requests y.outbox.packets ≡ requests x.outbox.packets + more → length y.node.desks ≡ length x.node.desks → Within most x → Within (most + more) y
  like x y more most same sent desks w =
      let here = ap (λ (m : Machine). left_of tables chunks m + mark m) same in
      let few = w.few in
      let inside = w.inside in
      record { few = omega (arith, here, few, sent); inside = omega (arith, inside, desks) }

  -- another desk stands in the place
  seated : (desks : List Desk) (desk : Desk) → place < length desks → (slice_index_or (slice_set desks place desk) place new_desk).agent ≡ desk.agent
  seated desks desk h = ap (λ (d : Desk). d.agent) (get_or-set_same desks place desk new_desk h)

  -- with the same agent
  reseated : (x y : Scene) (desk : Desk) (more most : ℕ) → y.node.desks ≡ slice_set x.node.desks place desk → desk.agent ≡ agent_at place x → requests y.outbox.packets ≡ requests x.outbox.packets + more → Within most x → Within (most + more) y
  reseated x y desk more most desks same sent w =
      like x y more most
      (ap (λ (all : List Desk). (slice_index_or all place new_desk).agent) desks ∙ seated x.node.desks desk w.inside ∙ same)
      sent (ap length desks ∙ length-set x.node.desks place desk) w

  -- ---- a step is told
  dropped_within : (dead : Option FailCause) (node : NodeState) (o : OutboxState) (most : ℕ) → Within most (scene node o) → Within most (scene (dropped_by dead place node) o)
  unfolding without_ahead
  dropped_within None node o most w = w
  dropped_within (Some cause) node o most w = weaken (omega arith) (reseated (scene node o) (scene (without_ahead place node) o) (record (desk_at node place) { ahead = None }) 0 most refl refl (omega arith) w)

  promoted_within : (b : Bool) (node : NodeState) (o : OutboxState) (most : ℕ) → Within most (scene node o) → Within most (scene (promoted_by b place node) o)
  promoted_within false node o most w = w
  promoted_within true node o most w = weaken (omega arith) (reseated (scene node o) (scene (promoted place node) o) (promoted_desk (desk_at node place)) 0 most refl refl (omega arith) w)

  noted_within : (step : AgentStep) (s : Scene) (most : ℕ) → Within most s → Within most (noted place step s)
  unfolding noted
  noted_within step s most w =
      let told = tell_step place (agent_at place s) step s.outbox in
      let same = ap requests (told_packets place (agent_at place s) step s.outbox) in
      let t : Within (most + 0) (scene s.node told) = like s (scene s.node told) 0 most refl (omega (arith, same)) refl w in
      promoted_within step.promoted (dropped_by step.dead place s.node) told most (dropped_within step.dead s.node told most (weaken (omega arith) t))

  module _ (login : Login) where
    -- ---- the main request
    main_sent_within : (r : Option Asked × Layer Purpose) (s : Scene) (most : ℕ) → Within most s → Within (most + 1) (main_sent place login.node s.node (sent_by r s.outbox login.node)).1
    main_sent_within (Some asked, layer) s most w =
        reseated s (main_sent place login.node s.node (sent_by (Some asked, layer) s.outbox login.node)).1 (record (desk_at s.node place) { main = Some (sent_to login.node asked.label) }) 1 most refl refl (one_more s.outbox.packets login.node asked.label asked.bytes) w
    main_sent_within (None, layer) s most w = weaken (omega arith) (like s (scene (record s.node { layer = layer }) s.outbox) 0 most refl (omega arith) refl w)

    main_asked_within : (body : Option Body) (made : ℕ) → ((b : Body) → body ≡ Some b → made ≡ 1) → (s : Scene) (most : ℕ) → Within most s → Within (most + made) (main_asked body place login s).1
    unfolding request_step
    main_asked_within None made one s most w = weaken (omega arith) w
    main_asked_within (Some body) made one s most w =
        let single = one body refl in
        weaken (omega (arith, single)) (main_sent_within (asking_step s.node.layer login.node body (purposes.Agent place)) s most w)

    ask_within : (step : AgentStep) (s : Scene) (most : ℕ) → Within most s → Within (most + is_made step.ask) (ask_main place login step s).1
    unfolding ask_main
    ask_within step s most w =
        let outgoing = (agent_at place s).outgoing in
        main_asked_within (agent_body step.ask (is_some step.ended) login.fifo outgoing) (is_made step.ask) (λ body e. asks_one step.ask (is_some step.ended) login.fifo outgoing body e) s most w

    -- ---- a transaction is lost
    -- the agent makes a step, and what it asks for leaves or not
    stepped : (s : Scene) (l : AgentStep × Machine) (most : ℕ) → place < length s.node.desks → requests s.outbox.packets + (made tables chunks l + mark l.1) ≤ most
        → Within most (ask_main place login l.0 (noted place l.0 (scene (with_agent s.node place l.1) s.outbox))).1
    stepped s l most inside few =
        let t = scene (with_agent s.node place l.1) s.outbox in
        let agent = seated s.node.desks (record (desk_at s.node place) { agent = l.1 }) inside in
        let desks = length-set s.node.desks place (record (desk_at s.node place) { agent = l.1 }) in
        let here = ap (λ (m : Machine). left_of tables chunks m + mark m) agent in
        let before : ℕ = requests s.outbox.packets + (left_of tables chunks l.1 + mark l.1) in
        let w : Within before t = record { few = omega (arith, here); inside = omega (arith, inside, desks) } in
        weaken (omega (arith, few)) (ask_within l.0 (noted place l.0 t) before (noted_within l.0 t before w))

    lost_main : (b : Bool) (s : Scene) (most : ℕ) → Within most s → Within most (lost_by b place login Main s).1
    lost_main false s most w = w
    lost_main true s most w =
        let l = lost_step (agent_at place s) Main causes.Label in
        let a = failures_make_no_more tables chunks (agent_at place s) causes.Label in
        let few = w.few in
        let less = a.requests in
        let marks = a.marked in
        stepped s l most w.inside (omega (arith, few, less, marks))

    lost_ahead : (b : Bool) (s : Scene) (most : ℕ) → Within most s → Within (most + 1) (lost_by b place login Ahead s).1
    lost_ahead false s most w = weaken (omega arith) w
    lost_ahead true s most w =
        let l = lost_step (agent_at place s) Ahead causes.Label in
        let a = lost_aheads_make_no_more tables chunks (agent_at place s) causes.Label in
        let few = w.few in
        let one = bit_one (rung_in (agent_at place s).ahead) in
        stepped s l (most + 1) w.inside (omega (arith, few, a, one))

    lose_within : (s : Scene) (most : ℕ) → Within most s → Within most (lose place login Main s).1
    unfolding lose
    lose_within s most w = lost_main (is_under_way Main (agent_at place s)) s most w

    lose_ahead_within : (s : Scene) (most : ℕ) → Within most s → Within (most + 1) (lose place login Ahead s).1
    unfolding lose
    lose_ahead_within s most w = lost_ahead (is_under_way Ahead (agent_at place s)) s most w

    -- the main request, and then the write of the status block
    again_within : (r : Bool × Scene) (most : ℕ) → Within most r.1 → Within most (after_loss place login r)
    again_within (true, s) most w = w
    again_within (false, s) most w = lose_within s most w

    lose_main_within : (s : Scene) (most : ℕ) → Within most s → Within most (lose_main place login s)
    unfolding lose_main
    lose_main_within s most w = again_within (lose place login Main s) most (lose_within s most w)

    -- ---- the read ahead
    -- it left as one request, or it is lost
    abbrev Sends : ℕ → Bool × Scene → Type 0
    Sends most (true, s) = Within (most + 1) s
    Sends most (false, s) = Within most s

    ahead_sends : (r : Option Asked × Layer Purpose) (s : Scene) (most : ℕ) → Within most s → Sends most (ahead_sent place login.node s.node (sent_by r s.outbox login.node))
    ahead_sends (Some asked, layer) s most w =
        reseated s (ahead_sent place login.node s.node (sent_by (Some asked, layer) s.outbox login.node)).1 (record (desk_at s.node place) { ahead = Some (sent_to login.node asked.label) }) 1 most refl refl (one_more s.outbox.packets login.node asked.label asked.bytes) w
    ahead_sends (None, layer) s most w = weaken (omega arith) (like s (scene (record s.node { layer = layer }) s.outbox) 0 most refl (omega arith) refl w)

    after_sends : (r : Bool × Scene) (most : ℕ) → Sends most r → Within (most + 1) (after_ahead place login r)
    after_sends (true, s) most w = w
    after_sends (false, s) most w = lose_ahead_within s most w

    reserved_sends : (b : Bool) (r : Bool × Scene) (s : Scene) (most : ℕ) → Sends most r → Within most s → Sends most (cond b (false, s) r)
    reserved_sends true r s most sends w = w
    reserved_sends false r s most sends w = sends

    ahead_asked_within : (body : Option Body) (made : ℕ) → ((b : Body) → body ≡ Some b → made ≡ 1) → (s : Scene) (most : ℕ) → Within most s → Within (most + made) (after_ahead place login (ahead_asked body place login s))
    unfolding request_step
    ahead_asked_within None made one s most w = weaken (omega arith) w
    ahead_asked_within (Some body) made one s most w =
        let single = one body refl in
        let r = ahead_sent place login.node s.node (sent_by (asking_step s.node.layer login.node body (purposes.Agent place)) s.outbox login.node) in
        let low = is_below_reserve (free_labels s.node.layer login.node) in
        weaken (omega (arith, single))
        (after_sends (cond low (false, s) r) most (reserved_sends low r s most (ahead_sends (asking_step s.node.layer login.node body (purposes.Agent place)) s most w) w))

    ahead_within : (ask : Ask) (s : Scene) (most : ℕ) → Within most s → Within (most + is_made ask) (ask_ahead place login ask s)
    unfolding send_ahead
    ahead_within ask s most w =
        let outgoing = (agent_at place s).outgoing in
        ahead_asked_within (agent_body ask false login.fifo outgoing) (is_made ask) (λ body e. asks_one ask false login.fifo outgoing body e) s most w

    -- ---- all of it
    after_main_within : (step : AgentStep) (r : Bool × Scene) (most : ℕ) → Within most r.1 → Within (most + is_made step.ahead) (after_main place login step r)
    after_main_within step (true, s) most w = ahead_within step.ahead s most w
    after_main_within step (false, s) most w = weaken (omega arith) (lose_main_within s most w)

    pub follow_within : (step : AgentStep) (s : Scene) (most : ℕ) → Within most s → Within (most + is_made step.ask + is_made step.ahead) (follow place login step s)
    unfolding follow
    follow_within step s most w = after_main_within step (ask_main place login step (noted place step s)) (most + is_made step.ask) (ask_within step (noted place step s) most (noted_within step s most w))

pub follows_are_counted : FollowsAreCounted
follows_are_counted tables chunks place login step s h =
    let start : ℕ = counts tables chunks place s in
    let w : Within tables chunks place start s = record { few = omega arith; inside = h } in
    let f = (follow_within tables chunks place login step s start w).few in
    omega (arith, f)
