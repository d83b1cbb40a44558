-- What is kept by telling, by giving up a transaction with a known node, and by asking a known node for what fits a packet, is kept by all
-- that a target does behind its answer; and what fits stays so.
use Rattle.sbp_world.proofs.Words.Std.{arith, ◌≡◌, refl, subst, ℕ, ◌^◌, ◌<◌, ◌≤◌, nat_lt, is_some, Bool, true, false, cond, List, [], ◌∷◌, ◌++◌, length, Option, Some, None}
use Rattle.sbp_world.proofs.Words.Wire.{LabelParts, AreBytes, FitsRequest, IsPlainSide, with_asked, Asked, Body, block_write, Layer, asking_step, disowning_step, free_labels, CutCause, Outgoing, Side, OutboxState}
use Rattle.sbp_world.proofs.Words.Target.{Login, is_live, block, block_head, Outcome, AgentStep, Which, Main, Ahead, Machine, is_under_way, state_in, is_reset, lost_step, Purpose, Sent, promoted_desk, reset_desk, request_step, sent_by, tell_step, tell_ran, tell_dead, tell_ended, NodeState, Scene, scene, desk_at, login_at, with_agent, agent_body, disowned, without_ahead, dropped_by, promoted_by, noted, main_sent, main_asked, ask_main, lost_by, lose, ahead_sent, ahead_asked, after_ahead, send_ahead, after_loss, lose_main, after_main, follow, sent_to, told_cut, cut, unsolicited_by, announce_from, cut_all, Announced, pushes, stay, withholds}
use Rattle.sbp_world.proofs.Words.Initiator.{Ask, FailCause, StatusKind}
use Rattle.sbp_world.proofs.Words.World.{FitsAgent, FitsLogin, IsOfKnown}
use Rattle.orb_layout.specs.declared.ask.FailCause.TheVariants as causes
use Rattle.sbp_target.specs.declared.purpose.Purpose.TheVariants as purposes
use Rattle.sbp_world.specs.FitTarget.{Fits}
use Rattle.sbp_world.proofs.FitTarget.Agents.{FitsAsk, lost_fits, quads_bytes, reset_fits}
use Rattle.sbp_world.proofs.FitTarget.Nodes.{IfBody, agent_body_fits, fits_desk, fits_layer, none_main, seat_reset}
use Rattle.sbp_target.proofs.Histories.Moved.{announced_moves}
use Rattle.sbp_target.proofs.Histories.Views.{cuts_keep, heard_live, kept}

-- ---- the block of an unsolicited status
pub block_few : length block ≤ 2048
unfolding block_head
block_few = omega arith

pub block_bytes : AreBytes block
unfolding block_head
block_bytes = quads_bytes (0x85000000 ∷ 0x00000000 ∷ 0x02062800 ∷ 0 ∷ 0 ∷ 0 ∷ [])

-- what is said of a layer, the packets handed out, and what was told
abbrev pub Said : Type 1
Said = Layer Purpose → List Outgoing → List Side → Type 0

pub record Leaves (known : ℕ → Type 0) (P : Said) : Type 0 where
  pub tells : (layer : Layer Purpose) (packets : List Outgoing) (told : List Side) (side : Side) → IsPlainSide side → P layer packets told → P layer packets (told ++ side ∷ [])
  pub disowns : (layer : Layer Purpose) (packets : List Outgoing) (told : List Side) (peer : ℕ) (label : LabelParts) → known peer → P layer packets told → P (disowning_step layer peer label) packets told

pub record Keeps (known : ℕ → Type 0) (P : Said) : Type 0 where
  pub leaves : Leaves known P
  pub asks : (layer : Layer Purpose) (packets : List Outgoing) (told : List Side) (peer : ℕ) (body : Body) (purpose : Purpose) → known peer → FitsRequest body → P layer packets told → P (asking_step layer peer body purpose).1 (with_asked peer (asking_step layer peer body purpose).0 packets) told

-- a login that an agent serves
pub record IsServed (known : ℕ → Type 0) (login : Login) : Type 0 where
  pub there : known login.node
  pub fifo : login.fifo < 2 ^ 48

-- the same, and that what is said holds
pub record In (known : ℕ → Type 0) (P : Said) (s : Scene) : Type 0 where
  pub made : P s.node.layer s.outbox.packets s.outbox.sides
  pub fits : Fits known s.node

-- and that the node of the login of a place is known
pub record At (known : ℕ → Type 0) (P : Said) (q : ℕ) (s : Scene) : Type 0 where
  pub made : P s.node.layer s.outbox.packets s.outbox.sides
  pub fits : Fits known s.node
  pub here : IsOfKnown known (login_at s.node q)

module _ (known : ℕ → Type 0) (P : Said) where
  abbrev Of : Layer Purpose → OutboxState → Type 0
  Of l o = P l o.packets o.sides

  pub anywhere : (q : ℕ) (s : Scene) → At known P q s → In known P s
  anywhere q s h = record { made = h.made; fits = h.fits }

  pub pick : (b : Bool) (x y : Scene) → In known P x → In known P y → In known P (cond b x y)
  pick true x y h i = h
  pick false x y h i = i

  -- ---- what gives transactions up
  module _ (k : Leaves known P) where
    ran_at : (l : Layer Purpose) (place : ℕ) (m : Machine) (x : Option Outcome) (o : OutboxState) → Of l o → Of l (tell_ran place m x o)
    ran_at l place m None o h = h
    ran_at l place m (Some outcome) o h = k.tells l o.packets o.sides _ tt h

    dead_at : (l : Layer Purpose) (place : ℕ) (x : Option FailCause) (o : OutboxState) → Of l o → Of l (tell_dead place x o)
    dead_at l place None o h = h
    dead_at l place (Some cause) o h = k.tells l o.packets o.sides _ tt h

    ended_at : (l : Layer Purpose) (place : ℕ) (m : Machine) (x : Option StatusKind) (o : OutboxState) → Of l o → Of l (tell_ended place m x o)
    ended_at l place m None o h = h
    ended_at l place m (Some status) o h = k.tells l o.packets o.sides _ tt h

    told_at : (l : Layer Purpose) (place : ℕ) (m : Machine) (step : AgentStep) (o : OutboxState) → Of l o → Of l (tell_step place m step o)
    unfolding tell_step
    told_at l place m step o h =
        let a = tell_ran place m step.ran o in
        ended_at l place m step.ended (tell_dead place step.dead a) (dead_at l place step.dead a (ran_at l place m step.ran o h))

    gives_up : (sent : Option Sent) (l : Layer Purpose) (o : OutboxState) → ((x : Sent) → sent ≡ Some x → known x.peer) → Of l o → Of (disowned sent l) o
    gives_up None l o n h = h
    gives_up (Some sent) l o n h = k.disowns l o.packets o.sides sent.peer sent.label (n sent refl) h

    drops_ahead : (q : ℕ) (node : NodeState) (o : OutboxState) → At known P q (scene node o) → At known P q (scene (without_ahead q node) o)
    unfolding without_ahead
    drops_ahead q node o h =
        let d = desk_at node q in
        let s = h.fits.seats q in
        let layer = disowned d.ahead node.layer in
        record {
          made = gives_up d.ahead node.layer o (λ x e. (s.ahead x e).0) h.made;
          fits = fits_desk known q (record node { layer = layer }) (record d { ahead = None }) (h.fits.agents q)
              (record { main = s.main; ahead = none_main known (login_at node q) }) (fits_layer known node layer h.fits);
          here = h.here;
        }

    drops : (dead : Option FailCause) (q : ℕ) (node : NodeState) (o : OutboxState) → At known P q (scene node o) → At known P q (scene (dropped_by dead q node) o)
    drops None q node o h = h
    drops (Some cause) q node o h = drops_ahead q node o h

    promotes : (b : Bool) (q : ℕ) (node : NodeState) (o : OutboxState) → At known P q (scene node o) → At known P q (scene (promoted_by b q node) o)
    promotes false q node o h = h
    promotes true q node o h =
        let d = desk_at node q in
        let s = h.fits.seats q in
        record {
          made = h.made;
          fits = fits_desk known q node (promoted_desk d) (h.fits.agents q) (record { main = s.ahead; ahead = none_main known (login_at node q) }) h.fits;
          here = h.here;
        }

    tells_step : (q : ℕ) (m : Machine) (step : AgentStep) (node : NodeState) (o : OutboxState) → At known P q (scene node o) → At known P q (scene node (tell_step q m step o))
    tells_step q m step node o h = record { made = told_at node.layer q m step o h.made; fits = h.fits; here = h.here }

    pub notes_at : (q : ℕ) (step : AgentStep) (s : Scene) → At known P q s → At known P q (noted q step s)
    unfolding noted
    notes_at q step s h =
        tells_step q (desk_at s.node q).agent step (promoted_by step.promoted q (dropped_by step.dead q s.node)) s.outbox
        (promotes step.promoted q (dropped_by step.dead q s.node) s.outbox (drops step.dead q s.node s.outbox (record { made = h.made; fits = h.fits; here = h.here })))

    cut_told : (l : Layer Purpose) (b : Bool) (place : ℕ) (cause : CutCause) (o : OutboxState) → Of l o → Of l (told_cut b place cause o)
    cut_told l true place cause o h = h
    cut_told l false place cause o h = k.tells l o.packets o.sides _ tt h

    pub cuts_at : (cause : CutCause) (q : ℕ) (s : Scene) → In known P s → In known P (cut cause q s)
    unfolding cut
    cuts_at cause q s h =
        let d = desk_at s.node q in
        let t = h.fits.seats q in
        let one = disowned d.main s.node.layer in
        let two = disowned d.ahead one in
        record {
          made = cut_told two (is_reset (state_in d.agent.phase)) q cause s.outbox
              (gives_up d.ahead one s.outbox (λ x e. (t.ahead x e).0) (gives_up d.main s.node.layer s.outbox (λ x e. (t.main x e).0) h.made));
          fits = fits_desk known q (record s.node { layer = two }) (reset_desk d) (reset_fits d.agent (h.fits.agents q)) (seat_reset known (login_at s.node q)) (fits_layer known s.node two h.fits);
        }

    pub cuts_all : (cause : CutCause) (unit : Option ℕ) (s : Scene) → In known P s → In known P (cut_all cause unit s)
    cuts_all cause unit s h = cuts_keep (In known P) cuts_at cause unit s h

  -- ---- what asks
  module _ (k : Keeps known P) where
    sends : (peer : ℕ) (r : Option Asked × Layer Purpose) (o : OutboxState) → P r.1 (with_asked peer r.0 o.packets) o.sides → Of (sent_by r o peer).1.0 (sent_by r o peer).1.1
    sends peer (Some asked, layer) o h = h
    sends peer (None, layer) o h = h

    pub requests : (l : Layer Purpose) (o : OutboxState) (peer : ℕ) (body : Body) (purpose : Purpose) → known peer → FitsRequest body → Of l o → Of (request_step l o peer body purpose).1.0 (request_step l o peer body purpose).1.1
    unfolding request_step
    requests l o peer body purpose n f h = sends peer (asking_step l peer body purpose) o (k.asks l o.packets o.sides peer body purpose n f h)

    -- the main transaction
    main_leaves : (q : ℕ) (login : Login) (s : Scene) (r : Option LabelParts × (Layer Purpose × OutboxState)) → IsServed known login → At known P q s → Of r.1.0 r.1.1 → At known P q (main_sent q login.node s.node r).1
    main_leaves q login s (Some label, (layer, outbox)) v h m =
        let d = desk_at s.node q in
        let t = h.fits.seats q in
        record {
          made = m;
          fits = fits_desk known q (record s.node { layer = layer }) (record d { main = Some (sent_to login.node label) }) (h.fits.agents q)
              (record { main = λ sent e. (subst (λ (x : Sent). known x.peer) (same sent e) v.there, h.here); ahead = t.ahead }) (fits_layer known s.node layer h.fits);
          here = h.here;
        }
      where
        same : (sent : Sent) → Some (sent_to login.node label) ≡ Some sent → sent_to login.node label ≡ sent
        same sent e = cc
    main_leaves q login s (None, (layer, outbox)) v h m = record { made = m; fits = fits_layer known s.node layer h.fits; here = h.here }

    main_asks : (body : Option Body) (q : ℕ) (login : Login) (s : Scene) → IfBody body → IsServed known login → At known P q s → At known P q (main_asked body q login s).1
    main_asks None q login s b v h = h
    main_asks (Some body) q login s b v h =
        main_leaves q login s (request_step s.node.layer s.outbox login.node body (purposes.Agent q)) v h
        (requests s.node.layer s.outbox login.node body (purposes.Agent q) v.there b h.made)

    asks_main : (q : ℕ) (login : Login) (step : AgentStep) (s : Scene) → FitsAsk step.ask → IsServed known login → At known P q s → At known P q (ask_main q login step s).1
    unfolding ask_main
    asks_main q login step s f v h =
        main_asks (agent_body step.ask (is_some step.ended) login.fifo (desk_at s.node q).agent.outgoing) q login s
        (agent_body_fits step.ask (is_some step.ended) login.fifo (desk_at s.node q).agent.outgoing f v.fifo (h.fits.agents q).outgoing) v h

    -- the agent is another
    pub renews : (q : ℕ) (m : Machine) (s : Scene) → FitsAgent m → At known P q s → At known P q (scene (with_agent s.node q m) s.outbox)
    renews q m s a h =
        let t = h.fits.seats q in
        record {
          made = h.made;
          fits = fits_desk known q s.node (record (desk_at s.node q) { agent = m }) a (record { main = t.main; ahead = t.ahead }) h.fits;
          here = h.here;
        }

    loses_if : (b : Bool) (q : ℕ) (login : Login) (which : Which) (s : Scene) → IsServed known login → At known P q s → At known P q (lost_by b q login which s).1
    loses_if false q login which s v h = h
    loses_if true q login which s v h =
        let l = lost_step (desk_at s.node q).agent which causes.Label in
        let f = lost_fits (desk_at s.node q).agent which causes.Label (h.fits.agents q) in
        let t = scene (with_agent s.node q l.1) s.outbox in
        asks_main q login l.0 (noted q l.0 t) f.ask v (notes_at k.leaves q l.0 t (renews q l.1 s f.agent h))

    loses : (q : ℕ) (login : Login) (which : Which) (s : Scene) → IsServed known login → At known P q s → At known P q (lose q login which s).1
    unfolding lose
    loses q login which s v h = loses_if (is_under_way which (desk_at s.node q).agent) q login which s v h

    -- the read ahead
    ahead_leaves : (q : ℕ) (login : Login) (s : Scene) (r : Option LabelParts × (Layer Purpose × OutboxState)) → IsServed known login → At known P q s → Of r.1.0 r.1.1 → At known P q (ahead_sent q login.node s.node r).1
    ahead_leaves q login s (Some label, (layer, outbox)) v h m =
        let d = desk_at s.node q in
        let t = h.fits.seats q in
        record {
          made = m;
          fits = fits_desk known q (record s.node { layer = layer }) (record d { ahead = Some (sent_to login.node label) }) (h.fits.agents q)
              (record { main = t.main; ahead = λ sent e. (subst (λ (x : Sent). known x.peer) (same sent e) v.there, h.here) }) (fits_layer known s.node layer h.fits);
          here = h.here;
        }
      where
        same : (sent : Sent) → Some (sent_to login.node label) ≡ Some sent → sent_to login.node label ≡ sent
        same sent e = cc
    ahead_leaves q login s (None, (layer, outbox)) v h m = record { made = m; fits = fits_layer known s.node layer h.fits; here = h.here }

    ahead_if : (b : Bool) (body : Body) (q : ℕ) (login : Login) (s : Scene) → FitsRequest body → IsServed known login → At known P q s → At known P q (cond b (false, s) (ahead_sent q login.node s.node (request_step s.node.layer s.outbox login.node body (purposes.Agent q)))).1
    ahead_if true body q login s b v h = h
    ahead_if false body q login s b v h =
        ahead_leaves q login s (request_step s.node.layer s.outbox login.node body (purposes.Agent q)) v h
        (requests s.node.layer s.outbox login.node body (purposes.Agent q) v.there b h.made)

    ahead_asks : (body : Option Body) (q : ℕ) (login : Login) (s : Scene) → IfBody body → IsServed known login → At known P q s → At known P q (ahead_asked body q login s).1
    ahead_asks None q login s b v h = h
    ahead_asks (Some body) q login s b v h = ahead_if (nat_lt (free_labels s.node.layer login.node) 16) body q login s b v h

    sends_ahead : (q : ℕ) (login : Login) (ask : Ask) (s : Scene) → FitsAsk ask → IsServed known login → At known P q s → At known P q (send_ahead q login ask s).1
    unfolding send_ahead
    sends_ahead q login ask s f v h =
        ahead_asks (agent_body ask false login.fifo (desk_at s.node q).agent.outgoing) q login s
        (agent_body_fits ask false login.fifo (desk_at s.node q).agent.outgoing f v.fifo (h.fits.agents q).outgoing) v h

    behind_ahead : (q : ℕ) (login : Login) (r : Bool × Scene) → IsServed known login → At known P q r.1 → At known P q (after_ahead q login r)
    behind_ahead q login (true, s) v h = h
    behind_ahead q login (false, s) v h = loses q login Ahead s v h

    behind_loss : (q : ℕ) (login : Login) (r : Bool × Scene) → IsServed known login → At known P q r.1 → At known P q (after_loss q login r)
    behind_loss q login (true, s) v h = h
    behind_loss q login (false, s) v h = loses q login Main s v h

    loses_main : (q : ℕ) (login : Login) (s : Scene) → IsServed known login → At known P q s → At known P q (lose_main q login s)
    unfolding lose_main
    loses_main q login s v h = behind_loss q login (lose q login Main s) v (loses q login Main s v h)

    behind_main : (q : ℕ) (login : Login) (step : AgentStep) (r : Bool × Scene) → FitsAsk step.ahead → IsServed known login → At known P q r.1 → At known P q (after_main q login step r)
    behind_main q login step (true, s) f v h = behind_ahead q login (send_ahead q login step.ahead s) v (sends_ahead q login step.ahead s f v h)
    behind_main q login step (false, s) f v h = loses_main q login s v h

    pub follows : (q : ℕ) (login : Login) (step : AgentStep) (s : Scene) → FitsAsk step.ask → FitsAsk step.ahead → IsServed known login → At known P q s → At known P q (follow q login step s)
    unfolding follow
    follows q login step s f g v h =
        let t = noted q step s in
        behind_main q login step (ask_main q login step t) g v (asks_main q login step t f v (notes_at k.leaves q step s h))

    -- ---- unsolicited status
    announced : (place peer : ℕ) (s : Scene) (r : Option LabelParts × (Layer Purpose × OutboxState)) → In known P s → Of r.1.0 r.1.1 → In known P (unsolicited_by place peer s.node r)
    announced place peer s (Some label, (layer, outbox)) h m =
        let t = h.fits.seats place in
        let f = fits_desk known place s.node (record (desk_at s.node place) { is_enabled = false }) (h.fits.agents place) (record { main = t.main; ahead = t.ahead }) h.fits in
        record {
          made = k.leaves.tells layer outbox.packets outbox.sides _ tt m;
          fits = record { manager = f.manager; logins = f.logins; size = f.size; agents = f.agents; seats = f.seats; rom = f.rom };
        }
    announced place peer s (None, (layer, outbox)) h m =
        record { made = k.leaves.tells layer outbox.packets outbox.sides _ tt m; fits = fits_layer known s.node layer h.fits }

    served : (place : ℕ) (login : Login) (s : Scene) → login_at s.node place ≡ Some login → is_live login ≡ true → In known P s → IsServed known login
    served place login s e live h = let f = subst (FitsLogin known) e (h.fits.logins place) in record { there = f.1 live; fifo = f.0 }

    tells : (unit from : ℕ) (x y : Scene) → Announced unit from x y → In known P x → In known P y
    tells unit from _ _ (pushes place login s e) h =
        let v = served place login s e.is (heard_live unit from place login s e) h in
        let body = block_write login.fifo block in
        announced place login.node s (request_step s.node.layer s.outbox login.node body purposes.Unsolicited) h
        (requests s.node.layer s.outbox login.node body purposes.Unsolicited v.there (v.fifo, block_few, block_bytes) h.made)
    tells unit from _ _ (withholds place login s e) h = record { made = k.leaves.tells s.node.layer s.outbox.packets s.outbox.sides _ tt h.made; fits = h.fits }

    pub announces_all : (unit from : ℕ) (s : Scene) → In known P s → In known P (announce_from 8 0 unit from s)
    announces_all unit from s h =
        kept (Announced unit from) (In known P) (tells unit from) s _ (announced_moves (Announced unit from) unit from (λ x y m. m) s true s (stay s)) h
