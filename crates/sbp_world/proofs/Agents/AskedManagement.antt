-- A reply to the management operation leaves all desks waiting for what left.
use Rattle.sbp_world.proofs.Words.Std.{arith, ◌≡◌, ◌∙◌, refl, sym, ap, subst, ℕ, zero, suc, ◌+◌, ◌<◌, ◌≤◌, nat_eq, nat_lt, Bool, true, false, cond, List, length, Option, Some, None, slice_set, length-set, false≢true}
use Rattle.sbp_world.proofs.Words.Wire.{Layer, CutCause, Outgoing, OutboxState}
use Rattle.sbp_world.proofs.Words.Target.{Login, Table, place_at, Decision, Effect, ManagerStep, PlaceBelow, Phase, is_ahead, is_sent, state_in, abort_step, is_reset, reset_step, Desk, Purpose, cut, cut_node, after, reset_desk, cut_place, cut_placed, decided_by, effect_by, failed_by, logged_out, manage, managed_in, managed_with, told_of, with_manager, NodeState, Scene, desk_at, login_at, scene, clear_from, clear_unit, cut_all, cut_at, cut_from, is_cut}
use Rattle.sbp_world.proofs.Words.Initiator.{FailCause, Answer}
use Rattle.sbp_world.proofs.Words.World.{AllAsk, AsksReally, ManagementAskLaw, main_body}
use Rattle.mgmt_agent.specs.declared.decision.Effect.TheVariants as effects
use Rattle.mgmt_agent.specs.Machine as management
use Rattle.mgmt_agent.proofs.Places.{places_of_effects}
use Rattle.sbp_journal.specs.declared.cause.CutCause.TheVariants as cuts
use Rattle.sbp_target.proofs.Histories.Calling.{Good, not_eight}
use Rattle.sbp_target.proofs.Histories.Effecting.{Moves, StepMoves, effect_in, leaves, reply_moves}
use Rattle.sbp_target.proofs.Histories.Following.{other_place, same_place}
use Rattle.sbp_target.proofs.Histories.Seats.{split}
use Rattle.sbp_target.proofs.Histories.Settled.{all_good}
use Rattle.sbp_target.proofs.Histories.Stepped.{is_bare}
use Rattle.sbp_world.proofs.Agents.AskedFollows.{desk_other, left_as, still_body}
use Rattle.sbp_world.proofs.Agents.AskedLate.{all_by, same_login}
use Rattle.sbp_world.proofs.Agents.AskedReplies.{Fine, Off, off_asks}
use Rattle.sbp_world.proofs.Agents.AskedRequests.{manager_fine, same_fine}
use Rattle.sbp_world.proofs.Agents.AskedSteps.{under_law}
use Rattle.sbp_world.proofs.Agents.Sized.{idle_sized, still_sized}
use Rattle.sbp_world.proofs.Agents.Walk.{desk_set}
use Rattle.sbp_world.proofs.Agents.Managed.{in_place}
use Rattle.sbp_world.proofs.Lists.BusyCuts.{in_reset}
use Rattle.sbp_target.proofs.Requests.Effects.{cut_packets, left_packets}

-- ---- an agent in RESET waits for nothing
pub idle_asks : (packets : List Outgoing) (fifo : ℕ) (d : Desk) → is_sent d.agent.phase ≡ false → is_ahead d.agent.ahead ≡ false → AsksReally packets fifo d
idle_asks packets fifo d s a = record { main = λ sent f p. absurd (false≢true (sym s ∙ p)); ahead = λ sent f p. absurd (false≢true (sym a ∙ p)); sized = idle_sized d.agent s }

-- ---- the desk of one place is another
set_fine : (q : ℕ) (d : Desk) (s now : Scene) → q < 8 → now.node.desks ≡ slice_set s.node.desks q d → now.node.logins ≡ s.node.logins → now.outbox.packets ≡ s.outbox.packets → ((login : Login) → login_at s.node q ≡ Some login → AsksReally s.outbox.packets login.fifo d) → Fine s → Fine now
set_fine q d s now b desks logins packets asks h =
    let all = all_by q s.outbox.packets s.outbox.packets s.node now.node logins (λ k n. desk_other q k s.node now.node d b h.desks n desks) (λ sent body k. k)
    (λ login e. subst (λ (x : Desk). AsksReally s.outbox.packets login.fifo x) (sym (desk_set q s.node now.node d b h.desks desks)) (asks login e))
    h.all in
    record {
      desks = ap (λ ds. length ds) desks ∙ length-set s.node.desks q d ∙ h.desks;
      all = subst (λ (ps : List Outgoing). AllAsk ps now.node) (sym packets) all;
    }

-- ---- cuts

cut_fine : (cause : CutCause) (q : ℕ) (s : Scene) → q < 8 → Fine s → Fine (cut cause q s)
unfolding cut reset_step
cut_fine cause q s b h =
    let d = reset_desk (desk_at s.node q) in
    set_fine q d s (cut cause q s) b refl refl (cut_packets (is_reset (state_in (desk_at s.node q).agent.phase)) q cause s.outbox)
    (λ login e. idle_asks s.outbox.packets login.fifo d refl refl) h

fine_if : (x : Bool) (y z : Scene) → Fine y → Fine z → Fine (cond x y z)
fine_if true y z h i = h
fine_if false y z h i = i

cuts_fine : (left place : ℕ) (cause : CutCause) (unit : Option ℕ) (s : Scene) → place + left ≤ 8 → Fine s → Fine (cut_from left place cause unit s)
unfolding cut_from cut_at
cuts_fine zero place cause unit s b h = h
cuts_fine (suc left) place cause unit s b h =
    cuts_fine left (place + 1) cause unit (cut_at cause unit place s) (omega arith) (fine_if (is_cut unit (login_at s.node place)) (cut cause place s) s (cut_fine cause place s (omega arith) h) h)

placed_fine : (cause : CutCause) (place : ℕ) (s : Scene) → place < 8 → Fine s → Fine (cut_place place cause s)
placed_fine cause place s b h = subst (λ (x : Option ℕ). Fine (cut_placed x cause s)) (sym (in_place place b)) (cut_fine cause place s b h)

-- ---- units are reset
clear_fine : (unit : ℕ) (s : Scene) → Fine s → Fine (clear_unit unit s)
unfolding clear_unit
clear_fine unit s h = same_fine s (clear_unit unit s) refl refl (λ sent body k. k) h

clears_fine : (left unit : ℕ) (s : Scene) → Fine s → Fine (clear_from left unit s)
unfolding clear_from
clears_fine zero unit s h = h
clears_fine (suc left) unit s h = clears_fine left (unit + 1) (clear_unit unit s) (clear_fine unit s h)

-- ---- a login leaves, is entered, and a task of it is aborted
logout_fine : (place subject : ℕ) (s : Scene) → place < 8 → Fine s → Fine (logged_out place subject s)
logout_fine place subject s b h =
    let d = Off (desk_at s.node place) false in
    set_fine place d s (logged_out place subject s) b refl refl refl (λ login e. off_asks s.outbox.packets login.fifo (desk_at s.node place) false (h.all.all place login b e)) h

enter_fine : (place subject : ℕ) (replaced : Option ℕ) (s : Scene) → place < 8 → Fine s → Fine (effect_by (effects.Entered place replaced) subject s)
enter_fine place subject replaced s b h =
    let d : Desk = record (desk_at s.node place) { pointer = None; is_enabled = false } in
    set_fine place d s (effect_by (effects.Entered place replaced) subject s) b refl refl (left_packets replaced s.outbox)
    (λ login e. (let a = h.all.all place login b e in record { main = a.main; ahead = a.ahead; sized = a.sized })) h

abort_fine : (place orb subject : ℕ) (s : Scene) → place < 8 → Fine s → Fine (effect_by (effects.Abort place orb) subject s)
unfolding abort_step
abort_fine place orb subject s b h =
    let m = (desk_at s.node place).agent in
    let n = abort_step m orb in
    let still = under_law.aborts m orb in
    set_fine place (record (desk_at s.node place) { agent = n }) s (effect_by (effects.Abort place orb) subject s) b refl refl refl
    (λ login e.
    (let a = h.all.all place login b e in record {
      main = λ sent f p. left_as s.outbox.packets sent (main_body login.fifo m) (main_body login.fifo n) (sym (still_body login.fifo m n still)) (a.main sent f p);
      ahead = a.ahead;
      sized = still_sized m n still a.sized;
    }))
    h

-- ---- the logins behind a step of the operation
module _ (node : NodeState) (g : Good node) (layer : Layer Purpose) (outbox : OutboxState) (a : AllAsk outbox.packets node) where
  abbrev Begun : Scene
  Begun = scene (record node { layer = layer }) outbox

  module _ (m : management.Machine) (t : Table) where
    abbrev Then : Scene
    Then = scene (with_manager (record node { layer = layer }) (m, t)) outbox

    -- An agent in RESET waits for nothing; where there is another one, its live login stays, but for one that leaves.
    relogged : (effect : Effect) → Moves node.logins effect t → (p : ℕ) (login : Login) → p < 8 → leaves effect p ≡ false → place_at t.places p ≡ Some login → AsksReally outbox.packets login.fifo (desk_at node p)
    relogged effect moves p login b l e =
        split (is_reset (state_in (desk_at node p).agent.phase)) (AsksReally outbox.packets login.fifo (desk_at node p))
        (λ r.
        let f = g.mid.fits p b (not_eight p b) in
        let idle = in_reset (desk_at node p).agent.phase r in
        idle_asks outbox.packets login.fifo (desk_at node p) (ap (λ (x : Phase). is_sent x) idle) (f.agent.bare (ap (λ (x : Phase). is_bare x) idle)))
        (λ r.
        let i = g.mid.served p b (not_eight p b) r in
        let there : place_at t.places p ≡ Some i.login = moves.stays p i.login i.is i.live l in
        subst (λ (x : Login). AsksReally outbox.packets x.fifo (desk_at node p)) (same_login i.login login (sym there ∙ e)) (a.all p i.login b i.is))

    stayed : (effect : Effect) → Moves node.logins effect t → ((p : ℕ) → leaves effect p ≡ false) → Fine Then
    stayed effect moves n = record { desks = g.mid.size; all = record { all = λ p login b e. relogged effect moves p login b (n p) e } }

    -- the list of the login that leaves is cut
    left_fine : (place : ℕ) → place < 8 → Moves node.logins (effects.Left place) t → Fine (cut cuts.Logout place Then)
    unfolding cut reset_step
    left_fine place b moves =
        let now = cut_node place Then.node in
        let d = reset_desk (desk_at node place) in
        record {
          desks = length-set node.desks place d ∙ g.mid.size;
          all = subst (λ (ps : List Outgoing). AllAsk ps now) (sym (cut_packets (is_reset (state_in (desk_at node place).agent.phase)) place cuts.Logout outbox)) (record {
            all = λ p login l e.
                split (nat_eq p place) (AsksReally outbox.packets login.fifo (desk_at now p))
                (λ y.
                subst (λ (k : ℕ). AsksReally outbox.packets login.fifo (desk_at now k)) (sym (same_place p place y))
                (subst (λ (x : Desk). AsksReally outbox.packets login.fifo x) (sym (desk_set place node now d b g.mid.size refl)) (idle_asks outbox.packets login.fifo d refl refl)))
                (λ y.
                subst (λ (x : Desk). AsksReally outbox.packets login.fifo x) (sym (desk_other place p node now d b g.mid.size (other_place p place y) refl))
                (relogged (effects.Left place) moves p login l y e));
          });
        }

    effect_fine : (effect : Effect) (subject : ℕ) → PlaceBelow effect → Moves node.logins effect t → Fine (effect_by effect subject Then)
    effect_fine effects.Nothing subject b moves = stayed effects.Nothing moves (λ p. refl)
    effect_fine (effects.Entered place replaced) subject b moves = enter_fine place subject replaced Then b (stayed (effects.Entered place replaced) moves (λ p. refl))
    effect_fine (effects.Back place) subject b moves =
        same_fine Then (effect_by (effects.Back place) subject Then) refl refl (λ sent body k. k) (stayed (effects.Back place) moves (λ p. refl))
    effect_fine (effects.Left place) subject b moves =
        subst (λ (x : Option ℕ). Fine (logged_out place subject (cut_placed x cuts.Logout Then))) (sym (in_place place b)) (logout_fine place subject (cut cuts.Logout place Then) b (left_fine place b moves))
    effect_fine (effects.Abort place orb) subject b moves = abort_fine place orb subject Then b (stayed (effects.Abort place orb) moves (λ p. refl))
    effect_fine (effects.AbortSet place) subject b moves = placed_fine cuts.AbortSet place Then b (stayed (effects.AbortSet place) moves (λ p. refl))
    effect_fine (effects.UnitReset unit) subject b moves =
        let c = cut_all cuts.UnitReset (Some unit) Then in
        let h = cuts_fine 8 0 cuts.UnitReset (Some unit) Then (omega arith) (stayed (effects.UnitReset unit) moves (λ p. refl)) in
        fine_if (nat_lt unit (length c.node.units)) (clear_unit unit c) c (clear_fine unit c h) h
    effect_fine effects.TargetReset subject b moves =
        let c = cut_all cuts.TargetReset None Then in
        clears_fine (length c.node.units) 0 c (cuts_fine 8 0 cuts.TargetReset None Then (omega arith) (stayed effects.TargetReset moves (λ p. refl)))

    decided_fine : (d : Option Decision) (effect : Effect) (source : ℕ) → PlaceBelow effect → Moves node.logins (effect_in d effect) t → Fine (decided_by d effect source Then)
    unfolding decided_by
    decided_fine None effect source b moves = stayed effects.Nothing moves (λ p. refl)
    decided_fine (Some d) effect source b moves =
        let e = effect_by effect d.subject Then in
        same_fine e (told_of source d e) refl refl (λ sent body k. k) (effect_fine effect d.subject b moves)

  -- ---- a step of the operation
  failed_fine : (source : ℕ) (cause : Option FailCause) (s : Scene) → Fine s → Fine (failed_by source cause s)
  failed_fine source None s h = h
  failed_fine source (Some cause) s h = same_fine s (failed_by source (Some cause) s) refl refl (λ sent body k. k) h

  step_fine : (source : ℕ) (r : ManagerStep × (management.Machine × Table)) → PlaceBelow r.0.effect → StepMoves node.logins r → Fine (managed_with source Begun r)
  step_fine source (step, (m, t)) b moves =
      let d = decided_by step.decided step.effect source (Then m t) in
      manager_fine source step.ask (failed_by source step.failed d) (failed_fine source step.failed d (decided_fine m t step.decided step.effect source b moves))

  manage_in : (source : Option ℕ) (answer : Answer) → Fine (managed_in source answer Begun)
  manage_in None answer = record { desks = g.mid.size; all = record { all = λ p login l e. a.all p login l e } }
  manage_in (Some source) answer =
      step_fine source (management.reply_step node.manager node.logins node.keys answer) (places_of_effects node.manager node.logins node.keys answer g.table)
      (reply_moves node.manager node.logins node.keys answer)

  pub manage_fine : (answer : Answer) → Fine (manage answer Begun)
  unfolding manage
  manage_fine answer = manage_in (management.source_in node.manager.operation) answer

pub management_law : ManagementAskLaw
management_law units ready calls layer outbox answer has a = (manage_fine (after units ready calls) (all_good units ready calls has) layer outbox a answer).all
