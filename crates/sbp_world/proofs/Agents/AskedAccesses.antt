-- What is asked of the registers of an agent leaves all desks waiting for what left.
use Rattle.sbp_world.proofs.Words.Std.{◌≡◌, ◌∙◌, refl, sym, ap, subst, ℕ, ◌<◌, true, false, List, [], length, Option, Some, None, Ok, slice_set, length-set, false≢true}
use Rattle.sbp_world.proofs.Words.Wire.{Packet, header_in, Body, Layer, answering_step, Outgoing, OutboxState}
use Rattle.sbp_world.proofs.Words.Target.{Login, Phase, ReadAhead, AgentState, AgentStep, Machine, is_ahead, is_sent, state_in, doorbell_in, doorbell_step, fetch_step, point_in, point_step, reread_step, complete, Access, Desk, Purpose, Sent, agent_body, cut, follow, after, pointed_desk, reset_desk, NodeState, Scene, desk_at, login_at, scene, with_desk, answer_step, accessed_by, answered, asked_in, enabled, point, pointed_by, ring, rung_by, ahead_ask, ahead_under}
use Rattle.sbp_world.proofs.Words.Initiator.{Nothing, CommandOrb, OrbPointer, At, Null}
use Rattle.sbp_world.proofs.Words.World.{AccessesLaw, AllAsk, AsksReally, IsStill, IsUnder, Left, ahead_body, main_body}
use Rattle.command_agent.specs.declared.phase.Phase.TheVariants as phases
use Rattle.command_agent.specs.declared.step.AgentState.TheVariants as states
use Rattle.command_agent.specs.Steps as steps
use Rattle.sbp_journal.specs.declared.cause.CutCause.TheVariants as cuts
use Rattle.target_base.specs.declared.address.Access.TheVariants as accesses
use Rattle.sbp_target.proofs.Histories.Calling.{Good, not_eight}
use Rattle.sbp_target.proofs.Histories.Following.{Fits}
use Rattle.sbp_target.proofs.Histories.Settled.{all_good}
use Rattle.sbp_target.proofs.Histories.Stepped.{Behind, behind_fetch, behind_reread, is_bare}
use Rattle.sbp_world.proofs.Agents.AskedFollows.{Followed, desk_other, followed, left_as, left_more, only, still_body}
use Rattle.sbp_world.proofs.Agents.AskedLate.{all_by, asks_more, cut_keeps, follow_keeps, follow_logins, quiet_follow, same_login}
use Rattle.sbp_world.proofs.Agents.AskedReplies.{Fine, Off, off_asks}
use Rattle.sbp_world.proofs.Agents.AskedSteps.{still}
use Rattle.sbp_world.proofs.Agents.Sized.{still_sized}
use Rattle.sbp_world.proofs.Agents.Walk.{desk_set}

-- ---- an answer
pub answered_fine : (p : Packet) (bytes : List ℕ) (rcode : ℕ) (given : List ℕ) (s : Scene) → Fine s → Fine (answered p bytes rcode given s)
unfolding answer_step
answered_fine p bytes rcode given s h =
    let packet : Outgoing = record { to = (header_in p).source; label = None; bytes = (answering_step s.node.layer p bytes rcode given).0 } in
    record {
      desks = h.desks;
      all = record { all = λ q l i e. asks_more s.outbox.packets (answered p bytes rcode given s).outbox.packets (λ sent body. left_more s.outbox.packets packet sent body) l.fifo (desk_at s.node q) (h.all.all q l i e) };
    }

bare_state : (p : Phase) → state_in p ≡ states.Suspended → is_bare p ≡ true
bare_state phases.Reset e = refl
bare_state phases.Suspended e = refl
bare_state phases.WritingLastStatus e = refl
bare_state phases.Dead e = refl
bare_state phases.Fetching e = refl
bare_state phases.ReadingNext e = refl
bare_state phases.ReadingTable e = cc e
bare_state (phases.ReadingData wanted) e = cc e
bare_state phases.Answering e = cc e
bare_state phases.WritingStatus e = cc e

module _ (node : NodeState) (g : Good node) (layer : Layer Purpose) (outbox : OutboxState) (q : ℕ) (b : q < 8) (a : AllAsk outbox.packets node) where
  abbrev Here : Desk
  Here = desk_at node q

  abbrev m : Machine
  m = Here.agent

  fits : Fits Here
  fits = g.mid.fits q b (not_eight q b)

  abbrev Begun : Scene
  Begun = scene (record node { layer = layer }) outbox

  begun : Fine Begun
  begun = record { desks = g.mid.size; all = record { all = λ p login l e. a.all p login l e } }

  abbrev More : Scene → Type 0
  More s = (sent : Sent) (body : Option Body) → Left outbox.packets sent body → Left s.outbox.packets sent body

  -- the desk of the place is another one, and waits for what left if there is a login
  set_fine : (d : Desk) (s : Scene) → s.node.desks ≡ slice_set node.desks q d → s.node.logins ≡ node.logins → More s → ((login : Login) → login_at node q ≡ Some login → AsksReally s.outbox.packets login.fifo d) → Fine s
  set_fine d s desks logins more h = record {
    desks = ap (λ ds. length ds) desks ∙ length-set node.desks q d ∙ g.mid.size;
    all = all_by q outbox.packets s.outbox.packets node s.node logins (λ k n. desk_other q k node s.node d b g.mid.size n desks) more
        (λ login e. subst (λ (x : Desk). AsksReally s.outbox.packets login.fifo x) (sym (desk_set q node s.node d b g.mid.size desks)) (h login e))
        a;
  }

  -- a step that asks for its main transaction, behind an answer
  asks_fine : (there : Option Login) (d : Desk) (r : AgentStep × Machine) (s : Scene) → login_at node q ≡ there → Behind false r → IsUnder (ahead_under m) r → d.agent ≡ r.1 → d.ahead ≡ Here.ahead → s.node.desks ≡ slice_set node.desks q d → s.node.logins ≡ node.logins → More s → r.0 ≡ steps.asks r.0.ask → Fine (asked_in q r.0.ask there s)
  asks_fine None d r s there behind under agent ahead desks logins more only_asks = set_fine d s desks logins more (λ login e. absurd (let f : None ≡ Some login = sym there ∙ e in cc))
  asks_fine (Some login) d r s there behind under agent ahead desks logins more only_asks =
      let here : desk_at s.node q ≡ d = desk_set q node s.node d b g.mid.size desks in
      let now = follow q login r.0 s in
      let f : Followed q login s.node now
      = followed q b login false r.0 m r.1 s behind under (λ e. absurd (false≢true e))
      (record {
        desks = ap (λ ds. length ds) desks ∙ length-set node.desks q d ∙ g.mid.size;
        agent = ap (λ (x : Desk). x.agent) here ∙ agent;
        ahead = λ sent e i. more sent (ahead_body m) ((a.all q login b there).ahead sent (sym ahead ∙ ap (λ (x : Desk). x.ahead) (sym here) ∙ e) i);
      }) in
      subst (λ (x : AgentStep). Fine (follow q login x s)) only_asks (record {
        desks = f.desks;
        all = all_by q outbox.packets now.outbox.packets node now.node (follow_logins q login r.0 s ∙ logins)
            (λ p n. f.others p n ∙ desk_other q p node s.node d b g.mid.size n desks)
            (λ sent body h. follow_keeps q login r.0 s sent body (more sent body h))
            (λ other e. subst (λ (x : Login). AsksReally now.outbox.packets x.fifo (desk_at now.node q)) (same_login login other (sym there ∙ e)) f.asks)
            a;
      })

  module _ (p : Packet) (bytes : List ℕ) where
    -- ORB_POINTER
    fetches : (next : ℕ) → Fine (pointed_by q p bytes (pointed_desk Here (Ok (fetch_step m next).0.ask, (fetch_step m next).1)) Begun)
    unfolding answer_step
    fetches next =
        let r = fetch_step m next in
        let d = (pointed_desk Here (Ok r.0.ask, r.1)).1 in
        asks_fine (login_at node q) d r _ refl (behind_fetch m next) (only (ahead_under m) _ _ r.1 refl refl refl) refl refl refl refl
        (λ sent body h. left_more outbox.packets _ sent body h) refl

    refuses : (rcode : ℕ) → Fine (answered p bytes rcode [] (scene (with_desk (record node { layer = layer }) q Here) outbox))
    refuses rcode =
        let s = scene (with_desk (record node { layer = layer }) q Here) outbox in
        answered_fine p bytes rcode [] s (set_fine Here s refl refl (λ sent body h. h) (λ login e. a.all q login b e))

    points : (state : AgentState) (pointer : OrbPointer) → Fine (pointed_by q p bytes (pointed_desk Here (point_in state m pointer)) Begun)
    points states.Reset Null = refuses _
    points states.Reset (At next) = fetches next
    points states.Suspended Null = refuses _
    points states.Suspended (At next) = fetches next
    points states.Active pointer = refuses _
    points states.Dead pointer = refuses _

    point_fine : (pointer : OrbPointer) → Fine (point q pointer p bytes Begun)
    unfolding point point_step
    point_fine pointer = points (state_in m.phase) pointer

    -- DOORBELL
    nothing_in : (there : Option Login) (s : Scene) → Fine s → Fine (asked_in q Nothing there s)
    nothing_in None s h = h
    nothing_in (Some login) s h = subst Fine (sym (quiet_follow q login (steps.asks Nothing) s refl)) h

    rung_fine : (n : Machine) → IsStill m n → n.ahead ≡ m.ahead → n.orb ≡ m.orb → Fine (rung_by q p bytes (Nothing, n) Begun)
    rung_fine n still ahead orb =
        let d : Desk = record Here { agent = n } in
        let s = scene (with_desk (record node { layer = layer }) q d) outbox in
        nothing_in (login_at node q) (answered p bytes complete [] s)
        (answered_fine p bytes complete [] s (set_fine d s refl refl (λ sent body h. h) (λ login e. record {
          main = λ sent f k. left_as outbox.packets sent (main_body login.fifo m) (main_body login.fifo n) (sym (still_body login.fifo m n still)) ((a.all q login b e).main sent f (ap is_sent (sym still.phase) ∙ k));
          ahead = λ sent f k.
              left_as outbox.packets sent (ahead_body m) (ahead_body n) (ap (λ (x : ReadAhead). agent_body (ahead_ask x m.orb.next) false 0 []) (sym ahead) ∙ ap (λ (o : CommandOrb). agent_body (ahead_ask n.ahead o.next) false 0 []) (sym orb))
              ((a.all q login b e).ahead sent f (ap is_ahead (sym ahead) ∙ k));
          sized = still_sized m n still (a.all q login b e).sized;
        })))

    rings : (state : AgentState) → state_in m.phase ≡ state → Fine (rung_by q p bytes (doorbell_in state m) Begun)
    unfolding answer_step
    rings states.Reset e = rung_fine m (still m m.ahead m.doorbell m.aborted) refl refl
    rings states.Dead e = rung_fine m (still m m.ahead m.doorbell m.aborted) refl refl
    rings states.Active e = rung_fine (record m { doorbell = true }) (still m m.ahead true m.aborted) refl refl
    rings states.Suspended e =
        let h : is_ahead m.ahead ≡ false = fits.agent.bare (bare_state m.phase e) in
        let r = reread_step m in
        let d : Desk = record Here { agent = r.1 } in
        asks_fine (login_at node q) d r _ refl (behind_reread m h) (only (ahead_under m) _ _ r.1 h refl refl) refl refl refl refl
        (λ sent body k. left_more outbox.packets _ sent body k) refl

    ring_fine : Fine (ring q p bytes Begun)
    unfolding ring doorbell_step
    ring_fine = rings (state_in m.phase) refl

    -- AGENT_RESET, and a register that is enabled
    reset_fine : Fine (answered p bytes complete [] (cut cuts.AgentReset q Begun))
    unfolding cut
    reset_fine =
        let s = cut cuts.AgentReset q Begun in
        answered_fine p bytes complete [] s (record { desks = length-set node.desks q (reset_desk Here) ∙ g.mid.size; all = cut_keeps node g layer outbox q b a cuts.AgentReset })

    enable_fine : Fine (answered p bytes complete [] (enabled q Begun))
    enable_fine =
        answered_fine p bytes complete [] (enabled q Begun)
        (set_fine (Off Here true) (enabled q Begun) refl refl (λ sent body h. h) (λ login e. off_asks outbox.packets login.fifo Here true (a.all q login b e)))

    pub accesses_fine : (access : Access) → Fine (accessed_by access q p bytes Begun)
    accesses_fine accesses.State = answered_fine p bytes complete _ Begun begun
    accesses_fine accesses.Reset = reset_fine
    accesses_fine (accesses.Point pointer) = point_fine pointer
    accesses_fine accesses.Pointer = answered_fine p bytes complete _ Begun begun
    accesses_fine accesses.Ring = ring_fine
    accesses_fine accesses.Enable = enable_fine

pub accesses_law : AccessesLaw
accesses_law units ready calls has =
    let node = after units ready calls in
    let g = all_good units ready calls has in
    record { accesses = λ layer outbox place access p bytes b a. (accesses_fine node g layer outbox place b a p bytes access).all }
