-- The requests that the target sends as it follows a step of an agent, in their order: that of the step, and behind it the read ahead; or, where that of the step finds no label, the one of the loss.
use Rattle.std.proofs.Common.{◌≡◌, ◌∙◌, refl, sym, ap, subst, ℕ, ◌<◌, nat_lt, is_some, Bool, true, false, cond, List, [], ◌∷◌, ◌++◌, append-nil, append_assoc, Option, Some, None, Result, Ok, Err}
use Rattle.label_table.specs.declared.judgement.Asked.{Asked}
use Rattle.async_packet.specs.Labels.{LabelParts}
use Rattle.label_table.specs.declared.reply.NoLabel.{NoLabel}
use Rattle.label_table.specs.Peers.{PeerPlace}
use Rattle.label_table.specs.Bodies.{Body}
use Rattle.label_table.specs.Layer.{Layer, asked_at, asking_in, asking_step, free_labels}
use Rattle.login_table.specs.declared.login.Login.{Login}
use Rattle.orb_layout.specs.declared.ask.Ask.TheVariants.{Nothing}
use Rattle.orb_layout.specs.declared.ask.FailCause.TheVariants as causes
use Rattle.command_agent.specs.declared.phase.Phase.{Phase}
use Rattle.command_agent.specs.declared.phase.Phase.TheVariants as phases
use Rattle.command_agent.specs.declared.step.AgentStep.{AgentStep}
use Rattle.command_agent.specs.declared.step.Which.{Which}
use Rattle.command_agent.specs.declared.step.Which.TheVariants.{Ahead, Main}
use Rattle.command_agent.specs.Machine.{Machine, is_ahead, is_under_way}
use Rattle.command_agent.specs.Steps.{ahead_lost, lost_step, main_lost, quiet}
use Rattle.sbp_journal.specs.declared.outbox.Outgoing.{Outgoing}
use Rattle.sbp_target.specs.declared.purpose.Purpose.{Purpose}
use Rattle.sbp_target.specs.declared.purpose.Purpose.TheVariants as purposes
use Rattle.sbp_target.specs.Agents.{after_ahead, after_loss, after_main, agent_body, ahead_asked, ahead_sent, ask_main, follow, lose, lose_main, lost_by, main_asked, main_sent, noted, send_ahead}
use Rattle.sbp_target.specs.Nodes.{NodeState, Scene, desk_at, scene, with_agent}
use Rattle.sbp_target.specs.Sending.{request_step, sent_by}
use Rattle.sbp_world.proofs.Agents.Walk.{Holds, holds_set, holds_still, notes_hold}
use Rattle.sbp_world.proofs.Lists.StatusPackets.{step_packets}
use Rattle.sbp_laws.specs.Targets.{new_agent}
use Rattle.turn_laws.proofs.FollowEnds.{no_label}
use Rattle.turn_laws.proofs.StepLabels.{noted_asks}

-- ---- a request that finds no label leaves the layer as it was
unasked_at : (k : ℕ) (layer : Layer Purpose) (r : Result LabelParts NoLabel × (PeerPlace Purpose × List ℕ)) → (asked_at k layer r).0 ≡ None → (asked_at k layer r).1 ≡ layer
unasked_at k layer (Ok label, (place, bytes)) e = absurd (let no : Some (record { label = label; bytes = bytes }) ≡ None = e in cc)
unasked_at k layer (Err none, (place, bytes)) e = refl

unasked_in : (place : Option ℕ) (layer : Layer Purpose) (peer : ℕ) (bytes : List ℕ) (purpose : Purpose) → (asking_in place layer peer bytes purpose).0 ≡ None → (asking_in place layer peer bytes purpose).1 ≡ layer
unasked_in None layer peer bytes purpose e = refl
unasked_in (Some k) layer peer bytes purpose e = unasked_at k layer _ e

pub unasked : (layer : Layer Purpose) (peer : ℕ) (body : Body) (purpose : Purpose) → (asking_step layer peer body purpose).0 ≡ None → (asking_step layer peer body purpose).1 ≡ layer
unfolding asking_step
unasked layer peer body purpose e = unasked_in _ layer peer _ purpose e

-- ---- the packet of a request that found a label
abbrev pub packet_of : (peer : ℕ) → Option Asked → List Outgoing
packet_of peer None = []
packet_of peer (Some asked) = record { to = peer; label = Some asked.label; bytes = asked.bytes } ∷ []

-- of the agent of a place, at a layer; and of its read ahead, where 16 labels are left
module _ (q : ℕ) (login : Login) where
  abbrev pub requested : Layer Purpose → Option Body → List Outgoing
  requested layer None = []
  requested layer (Some body) = packet_of login.node (asking_step layer login.node body (purposes.Agent q)).0

  abbrev pub requested_ahead : Layer Purpose → Option Body → List Outgoing
  requested_ahead layer None = []
  requested_ahead layer (Some body) = cond (nat_lt (free_labels layer login.node) 16) [] (packet_of login.node (asking_step layer login.node body (purposes.Agent q)).0)

  -- the request of a step, by the agent behind it
  abbrev pub requested_by : Layer Purpose → AgentStep → Machine → List Outgoing
  requested_by layer step m = requested layer (agent_body step.ask (is_some step.ended) login.fifo m.outgoing)

  -- what follows it: the read ahead at the layer behind it, or the request of the loss
  abbrev pub requested_then : Bool → (layer behind : Layer Purpose) → AgentStep → Machine → List Outgoing
  requested_then true layer behind step m = requested_ahead behind (agent_body step.ahead false login.fifo m.outgoing)
  requested_then false layer behind step m = let l = no_label m in requested_by layer l.0 l.1

  -- all that follows a step, by whether its request finds a label
  abbrev pub requests : Bool → (layer behind : Layer Purpose) → AgentStep → Machine → List Outgoing
  requests found layer behind step m = requested_by layer step m ++ requested_then found layer behind step m

-- all of these go to one peer
abbrev pub AllTo : ℕ → List Outgoing → Type 0
AllTo peer [] = Unit {0}
AllTo peer (packet ∷ later) = (packet.to ≡ peer) × AllTo peer later

both_to : (peer : ℕ) (a b : List Outgoing) → AllTo peer a → AllTo peer b → AllTo peer (a ++ b)
both_to peer [] b h k = k
both_to peer (packet ∷ a) b h k = (h.0, both_to peer a b h.1 k)

pub one_to : (peer : ℕ) (asked : Option Asked) → AllTo peer (packet_of peer asked)
one_to peer None = tt
one_to peer (Some asked) = (refl, tt)

if_to : (peer : ℕ) (b : Bool) (a : List Outgoing) → AllTo peer a → AllTo peer (cond b [] a)
if_to peer true a h = tt
if_to peer false a h = h

module _ (q : ℕ) (login : Login) where
  requested_to : (layer : Layer Purpose) (body : Option Body) → AllTo login.node (requested q login layer body)
  requested_to layer None = tt
  requested_to layer (Some body) = one_to login.node (asking_step layer login.node body (purposes.Agent q)).0

  ahead_to : (layer : Layer Purpose) (body : Option Body) → AllTo login.node (requested_ahead q login layer body)
  ahead_to layer None = tt
  ahead_to layer (Some body) = if_to login.node (nat_lt (free_labels layer login.node) 16) _ (one_to login.node (asking_step layer login.node body (purposes.Agent q)).0)

  then_to : (found : Bool) (layer behind : Layer Purpose) (step : AgentStep) (m : Machine) → AllTo login.node (requested_then q login found layer behind step m)
  then_to true layer behind step m = ahead_to behind (agent_body step.ahead false login.fifo m.outgoing)
  then_to false layer behind step m = let l = no_label m in requested_to layer (agent_body l.0.ask (is_some l.0.ended) login.fifo l.1.outgoing)

  pub requests_to_peer : (found : Bool) (layer behind : Layer Purpose) (step : AgentStep) (m : Machine) → AllTo login.node (requests q login found layer behind step m)
  requests_to_peer found layer behind step m =
      both_to login.node (requested_by q login layer step m) (requested_then q login found layer behind step m) (requested_to layer (agent_body step.ask (is_some step.ended) login.fifo m.outgoing)) (then_to found layer behind step m)

-- where the loss asks for nothing
quiet_lost : (m : Machine) → (lost_step m Ahead causes.Label).0.ask ≡ Nothing
unfolding lost_step
quiet_lost m = by (is_ahead m.ahead)
  where
    by : (x : Bool) → (cond x (ahead_lost m causes.Label) (quiet, m)).0.ask ≡ Nothing
    by true = refl
    by false = refl

abbrev Quiet : Phase → Machine → Type 0
Quiet phase m = let n = (main_lost phase m causes.Label).1 in (main_lost n.phase n causes.Label).0.ask ≡ Nothing

second_by : (phase : Phase) (m : Machine) → m.phase ≡ phase → Quiet phase m
second_by phases.Reset m e = ap (λ p. (main_lost p m causes.Label).0.ask) e
second_by phases.Fetching m e = refl
second_by phases.ReadingTable m e = refl
second_by (phases.ReadingData wanted) m e = refl
second_by phases.Answering m e = refl
second_by phases.WritingStatus m e = refl
second_by phases.ReadingNext m e = refl
second_by phases.WritingLastStatus m e = refl
second_by phases.Suspended m e = ap (λ p. (main_lost p m causes.Label).0.ask) e
second_by phases.Dead m e = ap (λ p. (main_lost p m causes.Label).0.ask) e

second_quiet : (m : Machine) → (no_label (no_label m).1).0.ask ≡ Nothing
unfolding lost_step
second_quiet m = second_by m.phase m refl

module _ (q : ℕ) (b : q < 8) (before : NodeState) (login : Login) where
  abbrev H : Machine → Scene → Type 0
  H m s = Holds q before m s.node

  abbrev Out : Scene → List Outgoing
  Out s = s.outbox.packets

  -- so much more is sent, and the agent is the same
  record Asks (m : Machine) (more : List Outgoing) (s : Scene) (r : Bool × Scene) : Type 0 where
    out : Out r.1 ≡ Out s ++ more
    holds : H m r.1

  -- what finds no label leaves the layer
  abbrev Stays : Scene → Bool × Scene → Type 0
  Stays s r = r.0 ≡ false → r.1.node.layer ≡ s.node.layer

  main_by : (m : Machine) (s : Scene) (r : Option Asked × Layer Purpose) → H m s → Asks m (packet_of login.node r.0) s (main_sent q login.node s.node (sent_by r s.outbox login.node))
  main_by m s (Some asked, layer) h =
      let t = main_sent q login.node s.node (sent_by (Some asked, layer) s.outbox login.node) in
      record { out = refl; holds = holds_set q before m m s.node t.1.node _ b h refl h.agent refl refl }
  main_by m s (None, layer) h = record { out = sym (append-nil (Out s)); holds = holds_still q before m s.node (record s.node { layer = layer }) h refl }

  main_stays : (s : Scene) (r : Option Asked × Layer Purpose) → (r.0 ≡ None → r.1 ≡ s.node.layer) → Stays s (main_sent q login.node s.node (sent_by r s.outbox login.node))
  main_stays s (Some asked, layer) f e = absurd (let no : true ≡ false = e in cc)
  main_stays s (None, layer) f e = f refl

  main_body : (m : Machine) (body : Option Body) (s : Scene) → H m s → Asks m (requested q login s.node.layer body) s (main_asked body q login s)
  unfolding request_step
  main_body m None s h = record { out = sym (append-nil (Out s)); holds = h }
  main_body m (Some body) s h = main_by m s (asking_step s.node.layer login.node body (purposes.Agent q)) h

  body_stays : (body : Option Body) (s : Scene) → Stays s (main_asked body q login s)
  unfolding request_step
  body_stays None s e = refl
  body_stays (Some body) s e = main_stays s (asking_step s.node.layer login.node body (purposes.Agent q)) (unasked s.node.layer login.node body (purposes.Agent q)) e

  -- the request of a step, once the step is told
  told_holds : (m : Machine) (step : AgentStep) (s : Scene) → H m s → H m (noted q step s)
  told_holds m step s h = notes_hold [] q b before new_agent m step s h

  told_out : (m : Machine) (step : AgentStep) (s : Scene) → Out (noted q step s) ≡ Out s
  unfolding noted
  told_out m step s = step_packets q (desk_at s.node q).agent step s.outbox

  told_layer : (step : AgentStep) (s : Scene) (body : Option Body) → requested q login (noted q step s).node.layer body ≡ requested q login s.node.layer body
  told_layer step s None = refl
  told_layer step s (Some body) = ap (packet_of login.node) (noted_asks login.node body (purposes.Agent q) q step s)

  main_asks : (m : Machine) (step : AgentStep) (s : Scene) → H m s → Asks m (requested_by q login s.node.layer step m) s (ask_main q login step (noted q step s))
  unfolding ask_main
  main_asks m step s h =
      let t = noted q step s in
      let there = told_holds m step s h in
      let a = main_body m (agent_body step.ask (is_some step.ended) login.fifo (desk_at t.node q).agent.outgoing) t there in
      record {
        out = a.out
            ∙ (ap (λ out. out ++ requested q login t.node.layer (agent_body step.ask (is_some step.ended) login.fifo (desk_at t.node q).agent.outgoing)) (told_out m step s)
            ∙ (ap (λ (n : Machine). Out s ++ requested_by q login t.node.layer step n) there.agent
            ∙ ap (λ out. Out s ++ out) (told_layer step s (agent_body step.ask (is_some step.ended) login.fifo m.outgoing))));
        holds = a.holds;
      }

  main_layer : (step : AgentStep) (s : Scene) → Stays (noted q step s) (ask_main q login step (noted q step s))
  unfolding ask_main
  main_layer step s e = let t = noted q step s in body_stays (agent_body step.ask (is_some step.ended) login.fifo (desk_at t.node q).agent.outgoing) t e

  -- ---- a loss
  loses : (m : Machine) (which : Which) (s : Scene) → H m s → (let l = lost_step m which causes.Label in Asks l.1 (requested_by q login s.node.layer l.0 l.1) s (lost_by true q login which s))
  loses m which s h =
      let l = lost_step (desk_at s.node q).agent which causes.Label in
      let t = scene (with_agent s.node q l.1) s.outbox in
      let set : H l.1 t = holds_set q before m l.1 s.node t.node (record (desk_at s.node q) { agent = l.1 }) b h refl refl refl refl in
      let a = main_asks l.1 l.0 t set in
      let asks : Asks l.1 (requested_by q login s.node.layer l.0 l.1) s (lost_by true q login which s) = record { out = a.out; holds = a.holds } in
      subst (λ (n : Machine). let k = lost_step n which causes.Label in Asks k.1 (requested_by q login s.node.layer k.0 k.1) s (lost_by true q login which s)) h.agent asks

  quiet_asks : (layer : Layer Purpose) (step : AgentStep) (m : Machine) → step.ask ≡ Nothing → requested_by q login layer step m ≡ []
  quiet_asks layer step m e = ap (λ ask. requested q login layer (agent_body ask (is_some step.ended) login.fifo m.outgoing)) e

  quiet_loss : (x : Bool) (which : Which) (m : Machine) (s : Scene) → H m s → (lost_step m which causes.Label).0.ask ≡ Nothing → Out (lost_by x q login which s).1 ≡ Out s
  quiet_loss false which m s h e = refl
  quiet_loss true which m s h e =
      let l = lost_step m which causes.Label in (loses m which s h).out ∙ (ap (λ out. Out s ++ out) (quiet_asks s.node.layer l.0 l.1 e) ∙ append-nil (Out s))

  -- of the main transaction, and of the status write behind it
  behind_loss : (m : Machine) (r : Bool × Scene) → H (no_label m).1 r.1 → Out (after_loss q login r) ≡ Out r.1
  unfolding lose
  behind_loss m (true, t) h = refl
  behind_loss m (false, t) h = quiet_loss (is_under_way Main (desk_at t.node q).agent) Main (no_label m).1 t h (second_quiet m)

  loss_sends : (m : Machine) (s : Scene) → H m s → is_under_way Main m ≡ true → (let l = no_label m in Out (lose_main q login s) ≡ Out s ++ requested_by q login s.node.layer l.0 l.1)
  unfolding lose_main lose
  loss_sends m s h e =
      let x = loses m Main s h in
      ap (λ y. Out (after_loss q login (lost_by y q login Main s))) (ap (is_under_way Main) h.agent ∙ e) ∙ (behind_loss m (lost_by true q login Main s) x.holds ∙ x.out)

  -- ---- the read ahead
  ahead_by : (m : Machine) (s : Scene) (r : Option Asked × Layer Purpose) → H m s → Asks m (packet_of login.node r.0) s (ahead_sent q login.node s.node (sent_by r s.outbox login.node))
  ahead_by m s (Some asked, layer) h =
      let t = ahead_sent q login.node s.node (sent_by (Some asked, layer) s.outbox login.node) in
      record { out = refl; holds = holds_set q before m m s.node t.1.node _ b h refl h.agent refl refl }
  ahead_by m s (None, layer) h = record { out = sym (append-nil (Out s)); holds = holds_still q before m s.node (record s.node { layer = layer }) h refl }

  ahead_if : (x : Bool) (m : Machine) (body : Body) (s : Scene) → H m s
      → Asks m (cond x [] (packet_of login.node (asking_step s.node.layer login.node body (purposes.Agent q)).0)) s (cond x (false, s) (ahead_sent q login.node s.node (request_step s.node.layer s.outbox login.node body (purposes.Agent q))))
  unfolding request_step
  ahead_if true m body s h = record { out = sym (append-nil (Out s)); holds = h }
  ahead_if false m body s h = ahead_by m s (asking_step s.node.layer login.node body (purposes.Agent q)) h

  ahead_body : (m : Machine) (body : Option Body) (s : Scene) → H m s → Asks m (requested_ahead q login s.node.layer body) s (ahead_asked body q login s)
  ahead_body m None s h = record { out = sym (append-nil (Out s)); holds = h }
  ahead_body m (Some body) s h = ahead_if (nat_lt (free_labels s.node.layer login.node) 16) m body s h

  behind_ahead : (m : Machine) (s : Scene) (more : List Outgoing) (r : Bool × Scene) → Asks m more s r → Out (after_ahead q login r) ≡ Out s ++ more
  unfolding lose
  behind_ahead m s more (true, t) a = a.out
  behind_ahead m s more (false, t) a = quiet_loss (is_under_way Ahead (desk_at t.node q).agent) Ahead m t a.holds (quiet_lost m) ∙ a.out

  ahead_sends : (m : Machine) (step : AgentStep) (s : Scene) → H m s → Out (after_ahead q login (send_ahead q login step.ahead s)) ≡ Out s ++ requested_ahead q login s.node.layer (agent_body step.ahead false login.fifo m.outgoing)
  unfolding send_ahead
  ahead_sends m step s h =
      behind_ahead m s _ (send_ahead q login step.ahead s) (ahead_body m (agent_body step.ahead false login.fifo (desk_at s.node q).agent.outgoing) s h)
      ∙ ap (λ (n : Machine). Out s ++ requested_ahead q login s.node.layer (agent_body step.ahead false login.fifo n.outgoing)) h.agent

  -- ---- a step, and what follows it
  abbrev Then : Bool → (layer behind : Layer Purpose) → AgentStep → Machine → List Outgoing
  Then found layer behind step m = requested_then q login found layer behind step m

  lost_layer : (l : AgentStep × Machine) (layer : Layer Purpose) (step : AgentStep) (s : Scene) → layer ≡ (noted q step s).node.layer → requested_by q login layer l.0 l.1 ≡ requested_by q login s.node.layer l.0 l.1
  lost_layer l layer step s e =
      let body = agent_body l.0.ask (is_some l.0.ended) login.fifo l.1.outgoing in ap (λ (k : Layer Purpose). requested q login k body) e ∙ told_layer step s body

  behind_main : (m : Machine) (step : AgentStep) (s : Scene) (more : List Outgoing) (r : Bool × Scene) → Asks m more s r → Stays (noted q step s) r → (r.0 ≡ false → is_under_way Main m ≡ true)
      → Out (after_main q login step r) ≡ Out s ++ (more ++ Then r.0 s.node.layer r.1.node.layer step m)
  behind_main m step s more (true, t) a stays f =
      ahead_sends m step t a.holds ∙ (ap (λ out. out ++ Then true s.node.layer t.node.layer step m) a.out ∙ append_assoc (Out s) more (Then true s.node.layer t.node.layer step m))
  behind_main m step s more (false, t) a stays f =
      let l = no_label m in
      loss_sends m t a.holds (f refl)
      ∙ (ap (λ out. out ++ requested_by q login t.node.layer l.0 l.1) a.out
      ∙ (append_assoc (Out s) more (requested_by q login t.node.layer l.0 l.1)
      ∙ ap (λ out. Out s ++ (more ++ out)) (lost_layer l t.node.layer step s (stays refl))))

  pub follow_packets : (m : Machine) (step : AgentStep) (s : Scene) → Holds q before m s.node
      → (let asked = ask_main q login step (noted q step s) in (asked.0 ≡ false → is_under_way Main m ≡ true) → (follow q login step s).outbox.packets ≡ s.outbox.packets ++ requests q login asked.0 s.node.layer asked.1.node.layer step m)
  unfolding follow
  follow_packets m step s h f =
      let r = ask_main q login step (noted q step s) in
      behind_main m step s (requested_by q login s.node.layer step m) r (main_asks m step s h) (main_layer step s) f
