-- Behind a step of an agent what its desk waits for left, as the request that its machine has under way.
use Rattle.sbp_world.proofs.Words.Std.{◌≡◌, ◌∙◌, refl, sym, ap, subst, inl, inr, ℕ, ◌<◌, ◌&&◌, ◌||◌, not, is_some, nat_lt, Bool, true, false, cond, List, [], ◌∷◌, ◌++◌, length, Option, Some, None, Result, Err, arith, ◌≢◌, slice_index_or, slice_set, length-set, false≢true, true≢false, same_Some, none-some}
use Rattle.sbp_world.proofs.Words.Wire.{Asked, Body, Layer, asked_at, asking_in, asking_step, free_labels, peer_at, peer_place, unlabelled, begun_for, begin_at, begin_step, lowest_from, with_label, Outgoing}
use Rattle.sbp_world.proofs.Words.Target.{new_desk, Login, Phase, ReadAhead, AgentState, AgentStep, PointRefusal, Ahead, Main, Machine, is_ahead, is_sent, is_under_way, state_in, doorbell_in, doorbell_step, fetch_step, lost_step, point_in, point_step, quiet, reply_step, reread_step, writes_status, Desk, Purpose, Sent, after_ahead, after_loss, after_main, agent_body, ahead_asked, ahead_sent, ask_ahead, ask_main, dropped_by, follow, lose, lose_main, lost_by, main_asked, main_sent, noted, promoted_by, send_ahead, without_ahead, NodeState, Scene, desk_at, scene, with_agent, with_desk, request_step, sent_by, tell_step, ahead_ask, ahead_under, main_under}
use Rattle.sbp_world.proofs.Words.Initiator.{Ask, Nothing, Read, Write, FailCause, OrbPointer, At, Null}
use Rattle.sbp_world.proofs.Words.World.{AsksReally, FollowLaw, IsBare, IsFit, IsSized, IsStill, IsUnder, Left, ahead_body, has_next, main_body, reads_none, uses_buffer}
use Rattle.label_table.proofs.Owned.{set_at}
use Rattle.orb_layout.specs.declared.ask.FailCause.TheVariants as causes
use Rattle.command_agent.specs.declared.phase.Phase.TheVariants as phases
use Rattle.command_agent.specs.declared.phase.ReadAhead.TheVariants as aheads
use Rattle.command_agent.specs.declared.step.AgentState.TheVariants as states
use Rattle.command_agent.specs.Steps as steps
use Rattle.sbp_target.specs.declared.purpose.Purpose.TheVariants as purposes
use Rattle.sbp_target.proofs.Histories.Stepped.{Behind, Carries, Fit, Lost, ahead_loses, behind_fetch, behind_reread, is_asked, is_bare, is_next, last_loses, main_loses, main_replied}
use Rattle.sbp_target.proofs.Histories.Stepped as stepped
use Rattle.sbp_world.specs.Agents.Asked.{IsBehind, IsFor, asks}
use Rattle.sbp_world.proofs.Agents.AskedSteps.{taken, under_law, some_ask}
use Rattle.sbp_world.proofs.Agents.Sized.{nothing_sized, read_sized, still_sized}
use Rattle.sbp_world.proofs.Agents.Walk.{desk_set}
use Rattle.sbp_world.proofs.Agents.Writes.{HasBody, has_body, no_body}
use Rattle.sbp_world.proofs.Agents.Management.Places.{other_id}
use Rattle.sbp_target.proofs.Requests.Follows.{told_packets}

-- ---- what left
pub left_more : (packets : List Outgoing) (packet : Outgoing) (sent : Sent) (body : Option Body) → Left packets sent body → Left (packets ++ packet ∷ []) sent body
left_more [] packet sent body h = absurd h
left_more (first ∷ packets) packet sent body (inl h) = inl h
left_more (first ∷ packets) packet sent body (inr h) = inr (left_more packets packet sent body h)

left_last : (packets : List Outgoing) (packet : Outgoing) (sent : Sent) (body : Option Body) → IsFor sent body packet → Left (packets ++ packet ∷ []) sent body
left_last [] packet sent body h = inl h
left_last (first ∷ packets) packet sent body h = inr (left_last packets packet sent body h)

pub left_as : (packets : List Outgoing) (sent : Sent) (x y : Option Body) → x ≡ y → Left packets sent x → Left packets sent y
left_as packets sent x y e h = subst (λ (b : Option Body). Left packets sent b) e h

-- ---- a read has one body, wherever a status block goes
ahead_alone : (a : ReadAhead) (next : OrbPointer) (is_status : Bool) (fifo : ℕ) (outgoing : List ℕ) → agent_body (ahead_ask a next) is_status fifo outgoing ≡ agent_body (ahead_ask a next) false 0 []
ahead_alone aheads.Idle next is_status fifo outgoing = refl
ahead_alone (aheads.Kept orb) next is_status fifo outgoing = refl
ahead_alone (aheads.UnderWay rung) Null is_status fifo outgoing = refl
ahead_alone (aheads.UnderWay rung) (At next) is_status fifo outgoing = refl

asks_is : (a : Ask) → asks a ≡ is_asked a
asks_is Nothing = refl
asks_is (Read offset size) = refl
asks_is (Write offset size) = refl

-- the main transaction that became the read ahead's, and one that was asked for
turned_body : (fifo : ℕ) (m before : Machine) → main_under m ≡ ahead_under before → main_body fifo m ≡ ahead_body before
turned_body fifo m before e =
    ap (λ (a : Ask). agent_body a (writes_status m.phase) fifo m.outgoing) e
    ∙ ahead_alone before.ahead before.orb.next (writes_status m.phase) fifo m.outgoing

pub still_body : (fifo : ℕ) (before now : Machine) → IsStill before now → main_body fifo now ≡ main_body fifo before
still_body fifo before now s =
    ap (λ (a : Ask). agent_body a (writes_status now.phase) fifo now.outgoing) s.main
    ∙ ap (λ (p : Bool). agent_body (main_under before) p fifo now.outgoing) (ap writes_status s.phase)
    ∙ ap (λ (o : List ℕ). agent_body (main_under before) (writes_status before.phase) fifo o) s.outgoing

asked_body : (fifo : ℕ) (step : AgentStep) (m : Machine) → main_under m ≡ step.ask → writes_status m.phase ≡ is_some step.ended → agent_body step.ask (is_some step.ended) fifo m.outgoing ≡ main_body fifo m
asked_body fifo step m e s =
    ap (λ (a : Ask). agent_body a (is_some step.ended) fifo m.outgoing) (sym e)
    ∙ ap (λ (p : Bool). agent_body (main_under m) p fifo m.outgoing) (sym s)

bare_by : (p : Phase) → reads_none p ≡ is_bare p
bare_by phases.Reset = refl
bare_by phases.Fetching = refl
bare_by phases.ReadingTable = refl
bare_by (phases.ReadingData wanted) = refl
bare_by phases.Answering = refl
bare_by phases.WritingStatus = refl
bare_by phases.ReadingNext = refl
bare_by phases.Suspended = refl
bare_by phases.WritingLastStatus = refl
bare_by phases.Dead = refl

pub bare_of : (m : Machine) → Fit m → IsBare m
bare_of m f = record { bare = λ e. f.bare (sym (bare_by m.phase) ∙ e) }

-- ---- the desk of the agent in the course of a step
pub record On (base : NodeState) (q : ℕ) (d : Desk) (node : NodeState) : Type 0 where
  pub desks : length node.desks ≡ 8
  pub is : desk_at node q ≡ d
  pub others : (k : ℕ) → k ≢ q → desk_at node k ≡ desk_at base k

pub desk_other : (q k : ℕ) (node later : NodeState) (d : Desk) → q < 8 → length node.desks ≡ 8 → k ≢ q → later.desks ≡ slice_set node.desks q d → desk_at later k ≡ desk_at node k
desk_other q k node later d b size n e =
    let inside : q < length node.desks = omega arith in
    ap (λ ds. slice_index_or ds k new_desk) e ∙ set_at node.desks q k d new_desk inside ∙ ap (λ (x : Bool). cond x d (desk_at node k)) (other_id k q n)

on_set : (base : NodeState) (q : ℕ) (d e : Desk) (node later : NodeState) → q < 8 → On base q d node → later.desks ≡ slice_set node.desks q e → On base q e later
on_set base q d e node later b o is = record {
  desks = ap (λ ds. length ds) is ∙ length-set node.desks q e ∙ o.desks;
  is = desk_set q node later e b o.desks is;
  others = λ k n. desk_other q k node later e b o.desks n is ∙ o.others k n;
}

abbrev ahead_left : Option FailCause → Option Sent → Option Sent
ahead_left None ahead = ahead
ahead_left (Some cause) ahead = None

abbrev dropped : Option FailCause → Desk → Desk
dropped dead d = record d { ahead = ahead_left dead d.ahead }

abbrev promoted : Bool → Desk → Desk
promoted turned d = record d { main = cond turned d.ahead d.main; ahead = cond turned None d.ahead }

abbrev noted_desk : AgentStep → Desk → Desk
noted_desk step d = promoted step.promoted (dropped step.dead d)

dropped_on : (base : NodeState) (q : ℕ) (dead : Option FailCause) (d : Desk) (node : NodeState) → q < 8 → On base q d node → On base q (dropped dead d) (dropped_by dead q node)
unfolding without_ahead
dropped_on base q None d node b o = o
dropped_on base q (Some cause) d node b o =
    subst (λ (x : Desk). On base q (record x { ahead = None }) (without_ahead q node)) o.is
    (on_set base q d (record (desk_at node q) { ahead = None }) node (without_ahead q node) b o refl)

promoted_on : (base : NodeState) (q : ℕ) (x : Bool) (d : Desk) (node : NodeState) → q < 8 → On base q d node → On base q (promoted x d) (promoted_by x q node)
promoted_on base q false d node b o = o
promoted_on base q true d node b o =
    subst (λ (x : Desk). On base q (record x { main = x.ahead; ahead = None }) (promoted_by true q node)) o.is
    (on_set base q d (record (desk_at node q) { main = (desk_at node q).ahead; ahead = None }) node (promoted_by true q node) b o refl)

noted_on : (base : NodeState) (q : ℕ) (step : AgentStep) (d : Desk) (s : Scene) → q < 8 → On base q d s.node → On base q (noted_desk step d) (noted q step s).node
unfolding noted
noted_on base q step d s b o = promoted_on base q step.promoted (dropped step.dead d) (dropped_by step.dead q s.node) b (dropped_on base q step.dead d s.node b o)

packets_told : (q : ℕ) (step : AgentStep) (s : Scene) → (noted q step s).outbox.packets ≡ s.outbox.packets
unfolding noted
packets_told q step s = told_packets q (desk_at s.node q).agent step s.outbox

-- ---- a request that leaves has its body
abbrev Spells : List ℕ → Option Asked → Type 0
Spells plain None = Unit {0}
Spells plain (Some asked) = asked.bytes ≡ with_label asked.label.number plain

found_spells : (layer : Layer Purpose) (k peer : ℕ) (plain : List ℕ) (purpose : Purpose) (number : Option ℕ) → Spells plain (asked_at k layer (begun_for (peer_at layer k) peer purpose (begin_at number (peer_at layer k).table plain))).0
found_spells layer k peer plain purpose None = tt
found_spells layer k peer plain purpose (Some number) = refl

in_spells : (found : Option ℕ) (layer : Layer Purpose) (peer : ℕ) (plain : List ℕ) (purpose : Purpose) → Spells plain (asking_in found layer peer plain purpose).0
unfolding begin_step
in_spells None layer peer plain purpose = tt
in_spells (Some k) layer peer plain purpose = found_spells layer k peer plain purpose (lowest_from 0 plain (peer_at layer k).table.places)

step_spells : (layer : Layer Purpose) (peer : ℕ) (body : Body) (purpose : Purpose) → Spells (unlabelled layer peer body) (asking_step layer peer body purpose).0
unfolding asking_step
step_spells layer peer body purpose = in_spells (peer_place peer layer) layer peer (unlabelled layer peer body) purpose

is_for : (layer now : Layer Purpose) (peer : ℕ) (body : Body) (purpose : Purpose) (asked : Asked) → asking_step layer peer body purpose ≡ (Some asked, now) → IsFor (record { peer = peer; label = asked.label }) (Some body) (record { to = peer; label = Some asked.label; bytes = asked.bytes })
is_for layer now peer body purpose asked e = record {
  node = layer.node;
  asked = body;
  is = refl;
  to = refl;
  under = refl;
  spelled = subst (λ (r : Option Asked × Layer Purpose). Spells (unlabelled layer peer body) r.0) e (step_spells layer peer body purpose);
}

module _ (base : NodeState) (q : ℕ) (b : q < 8) (login : Login) where
  -- ---- the main request
  -- it left, and the desk waits for it; or it found no label, and all is as before
  record Goes (d : Desk) (packets : List Outgoing) (body : Option Body) (s : Scene) : Type 0 where
    sent : Sent
    on : On base q (record d { main = Some sent }) s.node
    left : Left s.outbox.packets sent body
    more : (other : Sent) (x : Option Body) → Left packets other x → Left s.outbox.packets other x

  record Stays (d : Desk) (packets : List Outgoing) (s : Scene) : Type 0 where
    on : On base q d s.node
    same : s.outbox.packets ≡ packets

  abbrev MainGoes : Desk → List Outgoing → Option Body → Bool × Scene → Type 0
  MainGoes d packets body (true, s) = Goes d packets body s
  MainGoes d packets body (false, s) = Stays d packets s

  main_by : (d : Desk) (body : Body) (s : Scene) (r : Option Asked × Layer Purpose) → asking_step s.node.layer login.node body (purposes.Agent q) ≡ r → On base q d s.node → MainGoes d s.outbox.packets (Some body) (main_sent q login.node s.node (sent_by r s.outbox login.node))
  main_by d body s (None, layer) e o = record { on = record { desks = o.desks; is = o.is; others = o.others }; same = refl }
  main_by d body s (Some asked, layer) e o =
      let packet : Outgoing = record { to = login.node; label = Some asked.label; bytes = asked.bytes } in
      let sent : Sent = record { peer = login.node; label = asked.label } in
      let later = with_desk (record s.node { layer = layer }) q (record (desk_at s.node q) { main = Some sent }) in
      record {
        sent = sent;
        on = subst (λ (x : Desk). On base q (record x { main = Some sent }) later) o.is (on_set base q d (record (desk_at s.node q) { main = Some sent }) s.node later b o refl);
        left = left_last s.outbox.packets packet sent (Some body) (is_for s.node.layer layer login.node body (purposes.Agent q) asked e);
        more = λ other x h. left_more s.outbox.packets packet other x h;
      }

  -- some body
  record Has (body : Option Body) : Type 0 where
    some : Body
    is : body ≡ Some some

  main_in : (d : Desk) (body : Option Body) (s : Scene) → Has body → On base q d s.node → MainGoes d s.outbox.packets body (main_asked body q login s)
  unfolding request_step
  main_in d None s h o = absurd (let none : None ≡ Some h.some = h.is in cc)
  main_in d (Some body) s h o = main_by d body s (asking_step s.node.layer login.node body (purposes.Agent q)) refl o

  main_goes : (d : Desk) (step : AgentStep) (s : Scene) → Has (agent_body step.ask (is_some step.ended) login.fifo d.agent.outgoing) → On base q d s.node → MainGoes d s.outbox.packets (agent_body step.ask (is_some step.ended) login.fifo d.agent.outgoing) (ask_main q login step s)
  unfolding ask_main
  main_goes d step s h o =
      subst (λ (x : Desk). MainGoes d s.outbox.packets (agent_body step.ask (is_some step.ended) login.fifo d.agent.outgoing) (main_asked (agent_body step.ask (is_some step.ended) login.fifo x.agent.outgoing) q login s)) (sym o.is)
      (main_in d (agent_body step.ask (is_some step.ended) login.fifo d.agent.outgoing) s h o)

  none_asked : (body : Option Body) (s : Scene) → body ≡ None → main_asked body q login s ≡ (true, s)
  none_asked None s e = refl
  none_asked (Some body) s e = absurd (let none : Some body ≡ None = e in cc)

  main_none : (step : AgentStep) (s : Scene) → is_asked step.ask ≡ false → ask_main q login step s ≡ (true, s)
  unfolding ask_main
  main_none step s x =
      none_asked (agent_body step.ask (is_some step.ended) login.fifo (desk_at s.node q).agent.outgoing) s (no_body step.ask (is_some step.ended) login.fifo (desk_at s.node q).agent.outgoing x)

  has_of : (a : Ask) (body : Option Body) → HasBody a body → Has body
  has_of a body h = record { some = h.body; is = h.is }

  -- ---- the read ahead
  record Runs (d : Desk) (packets : List Outgoing) (body : Option Body) (s : Scene) : Type 0 where
    sent : Sent
    on : On base q (record d { ahead = Some sent }) s.node
    left : Left s.outbox.packets sent body
    more : (other : Sent) (x : Option Body) → Left packets other x → Left s.outbox.packets other x

  abbrev AheadGoes : Desk → List Outgoing → Option Body → Bool × Scene → Type 0
  AheadGoes d packets body (true, s) = Runs d packets body s
  AheadGoes d packets body (false, s) = Stays d packets s

  ahead_by : (d : Desk) (body : Body) (s : Scene) (r : Option Asked × Layer Purpose) → asking_step s.node.layer login.node body (purposes.Agent q) ≡ r → On base q d s.node → AheadGoes d s.outbox.packets (Some body) (ahead_sent q login.node s.node (sent_by r s.outbox login.node))
  ahead_by d body s (None, layer) e o = record { on = record { desks = o.desks; is = o.is; others = o.others }; same = refl }
  ahead_by d body s (Some asked, layer) e o =
      let packet : Outgoing = record { to = login.node; label = Some asked.label; bytes = asked.bytes } in
      let sent : Sent = record { peer = login.node; label = asked.label } in
      let later = with_desk (record s.node { layer = layer }) q (record (desk_at s.node q) { ahead = Some sent }) in
      record {
        sent = sent;
        on = subst (λ (x : Desk). On base q (record x { ahead = Some sent }) later) o.is (on_set base q d (record (desk_at s.node q) { ahead = Some sent }) s.node later b o refl);
        left = left_last s.outbox.packets packet sent (Some body) (is_for s.node.layer layer login.node body (purposes.Agent q) asked e);
        more = λ other x h. left_more s.outbox.packets packet other x h;
      }

  ahead_if : (x : Bool) (d : Desk) (body : Body) (s : Scene) → On base q d s.node → AheadGoes d s.outbox.packets (Some body) (cond x (false, s) (ahead_sent q login.node s.node (request_step s.node.layer s.outbox login.node body (purposes.Agent q))))
  unfolding request_step
  ahead_if true d body s o = record { on = o; same = refl }
  ahead_if false d body s o = ahead_by d body s (asking_step s.node.layer login.node body (purposes.Agent q)) refl o

  ahead_in : (d : Desk) (body : Option Body) (s : Scene) → Has body → On base q d s.node → AheadGoes d s.outbox.packets body (ahead_asked body q login s)
  ahead_in d None s h o = absurd (let none : None ≡ Some h.some = h.is in cc)
  ahead_in d (Some body) s h o = ahead_if (nat_lt (free_labels s.node.layer login.node) 16) d body s o

  ahead_goes : (d : Desk) (ask : Ask) (s : Scene) → Has (agent_body ask false login.fifo d.agent.outgoing) → On base q d s.node → AheadGoes d s.outbox.packets (agent_body ask false login.fifo d.agent.outgoing) (send_ahead q login ask s)
  unfolding send_ahead
  ahead_goes d ask s h o =
      subst (λ (x : Desk). AheadGoes d s.outbox.packets (agent_body ask false login.fifo d.agent.outgoing) (ahead_asked (agent_body ask false login.fifo x.agent.outgoing) q login s)) (sym o.is)
      (ahead_in d (agent_body ask false login.fifo d.agent.outgoing) s h o)

  none_ahead : (body : Option Body) (s : Scene) → body ≡ None → ahead_asked body q login s ≡ (true, s)
  none_ahead None s e = refl
  none_ahead (Some body) s e = absurd (let none : Some body ≡ None = e in cc)

  unsent_ahead : (ask : Ask) (s : Scene) → is_asked ask ≡ false → send_ahead q login ask s ≡ (true, s)
  unfolding send_ahead
  unsent_ahead ask s x = none_ahead (agent_body ask false login.fifo (desk_at s.node q).agent.outgoing) s (no_body ask false login.fifo (desk_at s.node q).agent.outgoing x)

  -- ---- what is behind it all
  record Ended (s : Scene) : Type 0 where
    desk : Desk
    on : On base q desk s.node
    asks : AsksReally s.outbox.packets login.fifo desk

  -- a step that is silent does nothing
  silent : (step : AgentStep) (t : Scene) → step ≡ quiet → ask_main q login step (noted q step t) ≡ (true, t)
  unfolding ask_main noted tell_step
  silent step t e = subst (λ (x : AgentStep). ask_main q login x (noted q x t) ≡ (true, t)) (sym e) refl

  on_agent : (d : Desk) (now : Machine) (s : Scene) → On base q d s.node → On base q (record d { agent = now }) (with_agent s.node q now)
  on_agent d now s o =
      subst (λ (x : Desk). On base q (record x { agent = now }) (with_agent s.node q now)) o.is
      (on_set base q d (record (desk_at s.node q) { agent = now }) s.node (with_agent s.node q now) b o refl)

  agent_is : (d : Desk) (s : Scene) → On base q d s.node → (desk_at s.node q).agent ≡ d.agent
  agent_is d s o = ap (λ (x : Desk). x.agent) o.is

  -- ---- a read ahead that found no label
  drops_by : (x : Bool) (d : Desk) (s : Scene) → x ≡ true → On base q d s.node → Fit d.agent → is_ahead d.agent.ahead ≡ true → ((sent : Sent) → d.main ≡ Some sent → is_sent d.agent.phase ≡ true → Left s.outbox.packets sent (main_body login.fifo d.agent)) → IsSized d.agent → Ended (lost_by x q login Ahead s).1
  drops_by false d s e o f u h z = absurd (false≢true e)
  drops_by true d s e o f u h z =
      let m = d.agent in
      let l = lost_step m Ahead causes.Label in
      let over = ahead_loses m causes.Label u f in
      let place = scene (with_agent s.node q l.1) s.outbox in
      let still = under_law.ahead_losses m causes.Label in
      let is : (lost_by true q login Ahead s).1 ≡ place
      = ap (λ (own : Machine). (ask_main q login (lost_step own Ahead causes.Label).0 (noted q (lost_step own Ahead causes.Label).0 (scene (with_agent s.node q (lost_step own Ahead causes.Label).1) s.outbox))).1) (agent_is d s o)
      ∙ ap (λ (r : Bool × Scene). r.1) (silent l.0 place over.silent) in
      subst Ended (sym is) (record {
        desk = record d { agent = l.1 };
        on = on_agent d l.1 s o;
        asks = record {
          main = λ sent e p. left_as s.outbox.packets sent (main_body login.fifo m) (main_body login.fifo l.1) (sym (still_body login.fifo m l.1 still)) (h sent e (ap is_sent (sym still.phase) ∙ p));
          ahead = λ sent e p. absurd (false≢true (sym over.idle ∙ p));
          sized = still_sized m l.1 still z;
        };
      })

  -- ---- a main request that found no label
  falls_by : (x : Bool) (d : Desk) (s : Scene) → x ≡ true → On base q d s.node → d.agent.phase ≡ phases.WritingLastStatus → is_ahead d.agent.ahead ≡ false → Ended (lost_by x q login Main s).1
  falls_by false d s e o p i = absurd (false≢true e)
  falls_by true d s e o p i =
      let dead : Machine = record d.agent { phase = phases.Dead } in
      let place = scene (with_agent s.node q dead) s.outbox in
      let l_is : lost_step (desk_at s.node q).agent Main causes.Label ≡ (quiet, dead)
      = ap (λ (x : Machine). lost_step x Main causes.Label) (agent_is d s o) ∙ last_loses d.agent causes.Label p in
      let is : (lost_by true q login Main s).1 ≡ place
      = ap (λ (l : AgentStep × Machine). (ask_main q login l.0 (noted q l.0 (scene (with_agent s.node q l.1) s.outbox))).1) l_is ∙ ap (λ (r : Bool × Scene). r.1) (silent quiet place refl) in
      subst Ended (sym is) (record {
        desk = record d { agent = dead };
        on = on_agent d dead s o;
        asks = record { main = λ sent e p. absurd (false≢true p); ahead = λ sent e p. absurd (false≢true (sym i ∙ p)); sized = nothing_sized dead refl };
      })

  -- the status block of an ORB that failed leaves, or is lost too
  block_goes : (d : Desk) (packets : List Outgoing) (had : Bool) (l : AgentStep × Machine) (ahead : Ask) (r : Bool × Scene) → d.agent ≡ l.1 → Lost had l → IsUnder ahead l → is_asked l.0.ask ≡ true → MainGoes d packets (agent_body l.0.ask (is_some l.0.ended) login.fifo l.1.outgoing) r → Ended (after_loss q login r)
  unfolding lose
  block_goes d packets had l ahead (true, s) a lost u asked g =
      let k = asks_is l.0.ask ∙ asked in
      let body_is = asked_body login.fifo l.0 l.1 (u.main k) (u.status k) ∙ ap (main_body login.fifo) (sym a) in
      record {
        desk = record d { main = Some g.sent };
        on = g.on;
        asks = record {
          main = λ sent e p. subst (λ (x : Sent). Left s.outbox.packets x (main_body login.fifo d.agent)) (same_Some g.sent sent e) (left_as s.outbox.packets g.sent _ _ body_is g.left);
          ahead = λ sent e p. absurd (false≢true (sym lost.idle ∙ ap (λ (x : Machine). is_ahead x.ahead) (sym a) ∙ p));
          sized = subst IsSized (sym a) u.sized;
        };
      }
  block_goes d packets had l ahead (false, s) a lost u asked g =
      let last : d.agent.phase ≡ phases.WritingLastStatus = ap (λ (x : Machine). x.phase) a ∙ lost.last asked in
      falls_by (is_under_way Main (desk_at s.node q).agent) d s (ap (λ (x : Machine). is_sent x.phase) (agent_is d s g.on) ∙ ap is_sent last) g.on last (ap (λ (x : Machine). is_ahead x.ahead) a ∙ lost.idle)

  asked_by : (x : Bool) (d : Desk) (had : Bool) (l : AgentStep × Machine) (ahead : Ask) (s : Scene) → d.agent ≡ l.1 → Lost had l → IsUnder ahead l → is_asked l.0.ask ≡ x → On base q d s.node → Ended (after_loss q login (ask_main q login l.0 s))
  asked_by true d had l ahead s a lost u k o =
      block_goes d s.outbox.packets had l ahead (ask_main q login l.0 s) a lost u k
      (subst (λ (x : Machine). MainGoes d s.outbox.packets (agent_body l.0.ask (is_some l.0.ended) login.fifo x.outgoing) (ask_main q login l.0 s)) a
      (main_goes d l.0 s (has_of l.0.ask _ (has_body l.0.ask (is_some l.0.ended) login.fifo d.agent.outgoing (subst (λ (x : Machine). Carries l.0.ask x.outgoing) (sym a) lost.behind.carried) k)) o))
  asked_by false d had l ahead s a lost u k o =
      let unsent : is_sent d.agent.phase ≡ false = ap (λ (x : Machine). is_sent x.phase) a ∙ lost.behind.main ∙ ap (λ (x : Bool). x || l.0.promoted) k ∙ lost.unturned in
      let idle : is_ahead d.agent.ahead ≡ false = ap (λ (x : Machine). is_ahead x.ahead) a ∙ lost.idle in
      subst (λ (r : Bool × Scene). Ended (after_loss q login r)) (sym (main_none l.0 s k)) (record {
        desk = d;
        on = o;
        asks = record { main = λ sent e p. absurd (false≢true (sym unsent ∙ p)); ahead = λ sent e p. absurd (false≢true (sym idle ∙ p)); sized = subst IsSized (sym a) u.sized };
      })

  main_dies : (x : Bool) (d : Desk) (s : Scene) → x ≡ true → On base q d s.node → Fit d.agent → is_sent d.agent.phase ≡ true → Ended (after_loss q login (lost_by x q login Main s))
  main_dies false d s e o f k = absurd (false≢true e)
  main_dies true d s e o f k =
      let m = d.agent in
      let l = lost_step m Main causes.Label in
      let lost = main_loses m causes.Label k f in
      let under = under_law.losses m causes.Label (bare_of m f) in
      let place = scene (with_agent s.node q l.1) s.outbox in
      subst (λ (own : Machine). Ended (after_loss q login (ask_main q login (lost_step own Main causes.Label).0 (noted q (lost_step own Main causes.Label).0 (scene (with_agent s.node q (lost_step own Main causes.Label).1) s.outbox))))) (sym (agent_is d s o))
      (asked_by (is_asked l.0.ask) (noted_desk l.0 (record d { agent = l.1 })) (is_ahead m.ahead) l (ahead_under m) (noted q l.0 place) refl lost under refl
      (noted_on base q l.0 (record d { agent = l.1 }) place b (on_agent d l.1 s o)))

  main_lost : (d : Desk) (s : Scene) → On base q d s.node → Fit d.agent → is_sent d.agent.phase ≡ true → Ended (lose_main q login s)
  unfolding lose_main lose
  main_lost d s o f k = main_dies (is_under_way Main (desk_at s.node q).agent) d s (ap (λ (x : Machine). is_sent x.phase) (agent_is d s o) ∙ k) o f k

  -- ---- all that follows a step
  module _ (had : Bool) (step : AgentStep) (before m : Machine) (behind : Behind had (step, m)) (under : IsUnder (ahead_under before) (step, m)) (had_is : had ≡ true → is_ahead before.ahead ≡ true) where
    abbrev M : Desk → List Outgoing → Type 0
    M d packets = (sent : Sent) → d.main ≡ Some sent → is_sent m.phase ≡ true → Left packets sent (main_body login.fifo m)

    abbrev A : Desk → List Outgoing → Type 0
    A d packets = is_asked step.ahead ≡ false → (sent : Sent) → d.ahead ≡ Some sent → is_ahead m.ahead ≡ true → Left packets sent (ahead_body m)

    has_ahead : is_asked step.ahead ≡ true → is_ahead m.ahead ≡ true
    has_ahead e = behind.ahead ∙ ap (λ (x : Bool). x || (had && not (is_some step.dead || step.promoted))) e

    ahead_asked_body : is_asked step.ahead ≡ true → agent_body step.ahead false login.fifo m.outgoing ≡ ahead_body m
    ahead_asked_body e =
        ap (λ (a : Ask). agent_body a false login.fifo m.outgoing) (sym (under.asked (asks_is step.ahead ∙ e)))
        ∙ ahead_alone m.ahead m.orb.next false login.fifo m.outgoing

    ahead_then : (d : Desk) (packets : List Outgoing) (r : Bool × Scene) → d.agent ≡ m → is_asked step.ahead ≡ true → M d packets → AheadGoes d packets (agent_body step.ahead false login.fifo m.outgoing) r → Ended (after_ahead q login r)
    unfolding lose
    ahead_then d packets (true, s) a e h g = record {
      desk = record d { ahead = Some g.sent };
      on = g.on;
      asks = record {
        main = λ sent f p. subst (λ (x : Machine). Left s.outbox.packets sent (main_body login.fifo x)) (sym a) (g.more sent (main_body login.fifo m) (h sent f (ap (λ (x : Machine). is_sent x.phase) (sym a) ∙ p)));
        ahead = λ sent f p.
            subst (λ (x : Sent). Left s.outbox.packets x (ahead_body d.agent)) (same_Some g.sent sent f)
            (left_as s.outbox.packets g.sent _ _ (ahead_asked_body e ∙ ap ahead_body (sym a)) g.left);
        sized = subst IsSized (sym a) under.sized;
      };
    }
    ahead_then d packets (false, s) a e h g =
        let u = ap (λ (x : Machine). is_ahead x.ahead) a ∙ has_ahead e in
        drops_by (is_under_way Ahead (desk_at s.node q).agent) d s (ap (λ (x : Machine). is_ahead x.ahead) (agent_is d s g.on) ∙ u) g.on (subst Fit (sym a) behind.fit) u
        (λ sent f p.
        subst (λ (ps : List Outgoing). Left ps sent (main_body login.fifo d.agent)) (sym g.same)
        (subst (λ (x : Machine). Left packets sent (main_body login.fifo x)) (sym a) (h sent f (ap (λ (x : Machine). is_sent x.phase) (sym a) ∙ p))))
        (subst IsSized (sym a) under.sized)

    ahead_ended : (x : Bool) (d : Desk) (s : Scene) → is_asked step.ahead ≡ x → d.agent ≡ m → On base q d s.node → M d s.outbox.packets → A d s.outbox.packets → Ended (ask_ahead q login step.ahead s)
    ahead_ended true d s e a o h i =
        ahead_then d s.outbox.packets (send_ahead q login step.ahead s) a e h
        (subst (λ (x : Machine). AheadGoes d s.outbox.packets (agent_body step.ahead false login.fifo x.outgoing) (send_ahead q login step.ahead s)) a
        (ahead_goes d step.ahead s (has_of step.ahead _ (has_body step.ahead false login.fifo d.agent.outgoing (subst (λ (x : Machine). Carries step.ahead x.outgoing) (sym a) behind.carried_ahead) e)) o))
    ahead_ended false d s e a o h i =
        subst (λ (r : Bool × Scene). Ended (after_ahead q login r)) (sym (unsent_ahead step.ahead s e)) (record {
          desk = d;
          on = o;
          asks = record {
            main = λ sent f p. subst (λ (x : Machine). Left s.outbox.packets sent (main_body login.fifo x)) (sym a) (h sent f (ap (λ (x : Machine). is_sent x.phase) (sym a) ∙ p));
            ahead = λ sent f p. subst (λ (x : Machine). Left s.outbox.packets sent (ahead_body x)) (sym a) (i e sent f (ap (λ (x : Machine). is_ahead x.ahead) (sym a) ∙ p));
            sized = subst IsSized (sym a) under.sized;
          };
        })

    main_then : (d : Desk) (packets : List Outgoing) (r : Bool × Scene) → d.agent ≡ m → is_asked step.ask ≡ true → A d packets → MainGoes d packets (agent_body step.ask (is_some step.ended) login.fifo m.outgoing) r → Ended (after_main q login step r)
    main_then d packets (true, s) a k i g =
        let x = asks_is step.ask ∙ k in
        ahead_ended (is_asked step.ahead) (record d { main = Some g.sent }) s refl a g.on
        (λ sent f p. subst (λ (y : Sent). Left s.outbox.packets y (main_body login.fifo m)) (same_Some g.sent sent f) (left_as s.outbox.packets g.sent _ _ (asked_body login.fifo step m (under.main x) (under.status x)) g.left))
        (λ e sent f p. g.more sent (ahead_body m) (i e sent f p))
    main_then d packets (false, s) a k i g =
        main_lost d s g.on (subst Fit (sym a) behind.fit) (ap (λ (x : Machine). is_sent x.phase) a ∙ behind.main ∙ ap (λ (x : Bool). x || step.promoted) k)

    main_ended : (x : Bool) (d : Desk) (s : Scene) → is_asked step.ask ≡ x → d.agent ≡ m → On base q d s.node → (is_asked step.ask ≡ false → M d s.outbox.packets) → A d s.outbox.packets → Ended (after_main q login step (ask_main q login step s))
    main_ended true d s k a o h i =
        main_then d s.outbox.packets (ask_main q login step s) a k i
        (subst (λ (x : Machine). MainGoes d s.outbox.packets (agent_body step.ask (is_some step.ended) login.fifo x.outgoing) (ask_main q login step s)) a
        (main_goes d step s (has_of step.ask _ (has_body step.ask (is_some step.ended) login.fifo d.agent.outgoing (subst (λ (x : Machine). Carries step.ask x.outgoing) (sym a) behind.carried) k)) o))
    main_ended false d s k a o h i =
        subst (λ (r : Bool × Scene). Ended (after_main q login step r)) (sym (main_none step s k))
        (ahead_ended (is_asked step.ahead) d s refl a o (h k) i)

    -- the read ahead that the desk has behind the notes of the step is the one before
    kept_by : (dead : Option FailCause) (turned : Bool) (x : Option Sent) (sent : Sent) → cond turned None (ahead_left dead x) ≡ Some sent → x ≡ Some sent
    kept_by None true x sent e = absurd (none-some sent e)
    kept_by None false x sent e = e
    kept_by (Some cause) true x sent e = absurd (none-some sent e)
    kept_by (Some cause) false x sent e = absurd (none-some sent e)

    turned_by : (dead : Option FailCause) (turned : Bool) (x main : Option Sent) (sent : Sent) → turned ≡ true → cond turned (ahead_left dead x) main ≡ Some sent → x ≡ Some sent
    turned_by None true x main sent t e = e
    turned_by (Some cause) true x main sent t e = absurd (none-some sent e)
    turned_by dead false x main sent t e = absurd (false≢true t)

    had_by : (x y : Bool) → x ≡ (false || (had && y)) → x ≡ true → had ≡ true
    had_by x y e f = by had (sym f ∙ e)
      where
        by : (h : Bool) → true ≡ (false || (h && y)) → h ≡ true
        by true g = refl
        by false g = absurd (true≢false g)

    follow_ended : (d : Desk) (s : Scene) → d.agent ≡ m → On base q d s.node → ((sent : Sent) → d.ahead ≡ Some sent → is_ahead before.ahead ≡ true → Left s.outbox.packets sent (ahead_body before)) → Ended (follow q login step s)
    unfolding follow
    follow_ended d s a o reads =
        let now = noted_desk step d in
        let u = noted q step s in
        let told : (sent : Sent) → (x : Option Body) → Left s.outbox.packets sent x → Left u.outbox.packets sent x = λ sent x. subst (λ (ps : List Outgoing). Left ps sent x) (sym (packets_told q step s)) in
        main_ended (is_asked step.ask) now u refl a (noted_on base q step d s b o)
        (λ k sent e p.
        let t : step.promoted ≡ true = sym (ap (λ (x : Bool). x || step.promoted) k) ∙ sym behind.main ∙ p in
        left_as u.outbox.packets sent (ahead_body before) (main_body login.fifo m) (sym (turned_body login.fifo m before (under.turned t)))
        (told sent (ahead_body before) (reads sent (turned_by step.dead step.promoted d.ahead d.main sent t e) (had_is (behind.turns t).0))))
        (λ k sent e p.
        let y = not (is_some step.dead || step.promoted) in
        let h : had ≡ true = had_by (is_ahead m.ahead) y (behind.ahead ∙ ap (λ (x : Bool). x || (had && y)) k) p in
        left_as u.outbox.packets sent (ahead_body before) (ahead_body m)
        (ap (λ (x : Ask). agent_body x false 0 []) (sym (under.kept (asks_is step.ahead ∙ k) p)))
        (told sent (ahead_body before) (reads sent (kept_by step.dead step.promoted d.ahead sent e) (had_is h))))

-- ---- the law
next_by : (p : OrbPointer) → has_next p ≡ is_next p
next_by Null = refl
next_by (At next) = refl

uses_by : (p : Phase) → uses_buffer p ≡ stepped.moves_data p
uses_by phases.Reset = refl
uses_by phases.Fetching = refl
uses_by phases.ReadingTable = refl
uses_by (phases.ReadingData wanted) = refl
uses_by phases.Answering = refl
uses_by phases.WritingStatus = refl
uses_by phases.ReadingNext = refl
uses_by phases.Suspended = refl
uses_by phases.WritingLastStatus = refl
uses_by phases.Dead = refl

fit_of : (m : Machine) → IsFit m → Fit m
fit_of m f = record { bare = λ e. f.bare (bare_by m.phase ∙ e); next = λ e. sym (next_by m.orb.next) ∙ f.next e; limit = λ e. f.limit (uses_by m.phase ∙ e) }

abbrev Asks : (place : ℕ) → Login → Scene → Type 0
Asks place login s = AsksReally s.outbox.packets login.fifo (desk_at s.node place)

asks_of : (base : NodeState) (q : ℕ) (b : q < 8) (login : Login) (s : Scene) → Ended base q b login s → Asks q login s
asks_of base q b login s e = subst (λ (d : Desk). AsksReally s.outbox.packets login.fifo d) (sym e.on.is) e.asks

-- what is behind all that follows a step, and the other desks
pub record Followed (q : ℕ) (login : Login) (base : NodeState) (s : Scene) : Type 0 where
  pub desks : length s.node.desks ≡ 8
  pub asks : AsksReally s.outbox.packets login.fifo (desk_at s.node q)
  pub others : (k : ℕ) → k ≢ q → desk_at s.node k ≡ desk_at base k

pub followed : (q : ℕ) (b : q < 8) (login : Login) (had : Bool) (step : AgentStep) (before m : Machine) (s : Scene) → Behind had (step, m) → IsUnder (ahead_under before) (step, m) → (had ≡ true → is_ahead before.ahead ≡ true) → IsBehind s.outbox.packets q before m s.node → Followed q login s.node (follow q login step s)
followed q b login had step before m s behind under had_is i =
    let e = follow_ended s.node q b login had step before m behind under had_is (desk_at s.node q) s i.agent (record { desks = i.desks; is = refl; others = λ k n. refl }) i.ahead in
    record { desks = e.on.desks; asks = asks_of s.node q b login (follow q login step s) e; others = e.on.others }

follow_of : (q : ℕ) (b : q < 8) (login : Login) (had : Bool) (step : AgentStep) (before m : Machine) (s : Scene) → Behind had (step, m) → IsUnder (ahead_under before) (step, m) → (had ≡ true → is_ahead before.ahead ≡ true) → IsBehind s.outbox.packets q before m s.node → Asks q login (follow q login step s)
follow_of q b login had step before m s behind under had_is i = (followed q b login had step before m s behind under had_is i).asks

-- a step that only asks for its main transaction
pub only : (ahead : Ask) (at count : ℕ) (m : Machine) → is_ahead m.ahead ≡ false → main_under m ≡ Read at count → writes_status m.phase ≡ false → IsUnder ahead (steps.asks (Read at count), m)
only ahead at count m i e w = record { main = λ f. e; status = λ f. w; turned = λ f. absurd (false≢true f); asked = λ f. absurd (false≢true f); kept = λ f g. absurd (false≢true (sym i ∙ g)); sized = read_sized m at count e }

refused_not : (r : PointRefusal) (y : Ask) → (let x : Result Ask PointRefusal = Err r in x) ≡ taken y → ⊥
refused_not r y e = cc

module _ (q : ℕ) (b : q < 8) (login : Login) (s : Scene) where
  fetches : (m : Machine) (next : ℕ) (ask : Ask) → taken (fetch_step m next).0.ask ≡ taken ask → IsBehind s.outbox.packets q m (fetch_step m next).1 s.node → Asks q login (follow q login (steps.asks ask) s)
  fetches m next ask e i =
      subst (λ (a : Ask). Asks q login (follow q login (steps.asks a) s)) (some_ask _ ask e)
      (follow_of q b login false (fetch_step m next).0 m (fetch_step m next).1 s (behind_fetch m next) (only (ahead_under m) _ _ (fetch_step m next).1 refl refl refl) (λ f. absurd (false≢true f)) i)

  points : (state : AgentState) (m : Machine) (pointer : OrbPointer) (ask : Ask) → (point_in state m pointer).0 ≡ taken ask → IsBehind s.outbox.packets q m (point_in state m pointer).1 s.node → Asks q login (follow q login (steps.asks ask) s)
  points states.Reset m Null ask e i = absurd (refused_not _ ask e)
  points states.Reset m (At next) ask e i = fetches m next ask e i
  points states.Suspended m Null ask e i = absurd (refused_not _ ask e)
  points states.Suspended m (At next) ask e i = fetches m next ask e i
  points states.Active m pointer ask e i = absurd (refused_not _ ask e)
  points states.Dead m pointer ask e i = absurd (refused_not _ ask e)

  point_asks : (m : Machine) (pointer : OrbPointer) (ask : Ask) → (point_step m pointer).0 ≡ taken ask → IsBehind s.outbox.packets q m (point_step m pointer).1 s.node → Asks q login (follow q login (steps.asks ask) s)
  unfolding point_step
  point_asks m pointer ask e i = points (state_in m.phase) m pointer ask e i

  rings : (state : AgentState) (m : Machine) → is_ahead m.ahead ≡ false → asks (doorbell_in state m).0 ≡ true → IsBehind s.outbox.packets q m (doorbell_in state m).1 s.node → Asks q login (follow q login (steps.asks (doorbell_in state m).0) s)
  rings states.Reset m h e i = absurd (false≢true e)
  rings states.Active m h e i = absurd (false≢true e)
  rings states.Dead m h e i = absurd (false≢true e)
  rings states.Suspended m h e i =
      follow_of q b login false (reread_step m).0 m (reread_step m).1 s (behind_reread m h) (only (ahead_under m) _ _ (reread_step m).1 h refl refl) (λ f. absurd (false≢true f)) i

  ring_asks : (m : Machine) → is_ahead m.ahead ≡ false → asks (doorbell_step m).0 ≡ true → IsBehind s.outbox.packets q m (doorbell_step m).1 s.node → Asks q login (follow q login (steps.asks (doorbell_step m).0) s)
  unfolding doorbell_step
  ring_asks m h e i = rings (state_in m.phase) m h e i

pub follow_law : FollowLaw
follow_law = record {
  replies = λ place login m plain told answer s b f i.
      follow_of place b login (is_ahead m.ahead) (reply_step m place plain told Main answer).0 m (reply_step m place plain told Main answer).1 s (main_replied m place plain told answer (fit_of m f)) (under_law.replies m place plain told answer (bare_of m (fit_of m f))) (λ e. e) i;
  losses = λ place login m cause s b f k i.
      follow_of place b login (is_ahead m.ahead) (lost_step m Main cause).0 m (lost_step m Main cause).1 s (main_loses m cause k (fit_of m f)).behind (under_law.losses m cause (bare_of m (fit_of m f))) (λ e. e) i;
  pointers = λ place login m pointer ask s b e i. point_asks place b login s m pointer ask e i;
  doorbells = λ place login m s b h e i. ring_asks place b login s m h e i;
}
